-- The steps of the instructions.
-- A step takes words off the stack, puts words onto it, and goes on to the next instruction. It costs 1,
-- and 1 more for each word that it writes into a region; no step writes into, reads from or ends a region that isn't live. The instructions are grouped by the shape of what they do, so that a
-- proof by cases has the cases of `Shape` and of `Result`. Limits on stack, charge and body are no part of the steps.
use Rattle.std.specs.Prelude.{◌≡◌, ◌≢◌, ℕ, zero, suc, ◌+◌, ◌-◌, ◌*◌, ◌/◌, ◌%◌, ◌^◌, ℤ, pos, ◌+ℤ◌, ◌-ℤ◌, ◌*ℤ◌, neg_ℤ, int_lt, int_le, nat_lt, nat_le, ◌==◌, Bool, true, false, not, ◌&&◌, List, [], ◌∷◌, ◌++◌, length, take, drop, reverse, set, slice_get, Option, Some, None, option_map, option_and_then, if◌then◌else◌}
use Rattle.std.specs.List.{concat}
use Rattle.std.specs.Ordering.{nat_cmp, ordering_index}
use Rattle.std.specs.Cmp.Lexicographic.{slice_cmp}
use Rattle.web_data.specs.declared.database.WebCall.{WebCall}
use Rattle.web_data.specs.declared.database.WebCall.TheVariants as call
use Rattle.web_data.specs.declared.database.WebAns.{WebAns}
use Rattle.web_data.specs.declared.database.WebAns.TheVariants as answer
use Rattle.web_data.specs.declared.database.DbCmd.{DbCmd}
use Rattle.web_data.specs.declared.database.DbAns.{DbAns}
use Rattle.web_data.specs.declared.cache.CacheId.{CacheId}
use Rattle.web_data.specs.declared.cache.CacheOp.{CacheOp}
use Rattle.web_data.specs.declared.cache.CacheOp.TheVariants as op
use Rattle.web_data.specs.declared.cache.CacheAns.{CacheAns}
use Rattle.web_data.specs.declared.cache.CacheAns.TheVariants as told
use Rattle.web_data.specs.declared.datum.Datum.{Datum}
use Rattle.web_data.specs.declared.datum.Datum.TheVariants as datum
use Rattle.web_data.specs.declared.datum.Desc.{Desc}
use Rattle.sml_evaluation.specs.BasisFunctions.{quotient, modulus, is_zero, byte_of, byte_at, part_at, number_front, is_listed, text_under, texts_under, is_content_type, is_status, is_cache_name, limit_of, bad_type, bad_status, bad_cache_name, bad_cache_kind, no_database, failure_of, rows_of}
use Rattle.web_data.specs.StatementReading.{Told, Command, Outside, statement_of}
use Rattle.web_data.specs.CallAnswers.{call_answer_fits, text_list, row_list}
use Rattle.kam_code.specs.declared.code.Code.{Code}
use Rattle.kam_code.specs.declared.instr.Instr.{Instr}
use Rattle.kam_code.specs.declared.instr.Instr.TheVariants as instr
use Rattle.kam_code.specs.Layout.{text_words}
use Rattle.kam_code.specs.Memory.{region_words, with_more, pointer, is_pointer, text_behind, field_at, with_field, texts_at, pieces_at, index_below, option_at, datum_at, has_words, laid_datum, number_of_bool, cache_words, cache_at}
use Rattle.kam_code.specs.State.{Region, Frame, Handler, State, start}
use Rattle.kam_code.specs.Word.{word_of, number_of, fits, spelling}

-- how a run ends: at a `halt`, by a packet that no handler takes, with its exception's name, or by a
-- statement outside the grammar, with the length of its longest prefix that begins one
pub data End : Type 0 where
  Halted : End
  Uncaught : List ℕ → End
  BadStatement : ℕ → End

-- what comes next: a state, an end with the last state, a call that waits at a state for its answer,
-- or nothing
pub data Next : Type 0 where
  Goes : State → Next
  Ends : End → State → Next
  Waits : WebCall → State → Next
  Stuck : Next

-- the words that an instruction takes off the stack, the topmost last
abbrev pub with_word : List ℕ → (ℕ → List ℕ → Next) → Next
with_word [] f = Stuck
with_word (a ∷ stack) f = f a stack

abbrev pub with_two : List ℕ → (ℕ → ℕ → List ℕ → Next) → Next
with_two stack f = with_word stack (λ b rest. with_word rest (λ a below. f a b below))

abbrev pub with_three : List ℕ → (ℕ → ℕ → ℕ → List ℕ → Next) → Next
with_three stack f = with_word stack (λ c rest. with_two rest (λ a b below. f a b c below))

abbrev pub with_four : List ℕ → (ℕ → ℕ → ℕ → ℕ → List ℕ → Next) → Next
with_four stack f = with_word stack (λ d rest. with_three rest (λ a b c below. f a b c d below))

-- what an instruction must find
abbrev pub with_found : {A : Type 0} → Option A → (A → Next) → Next
with_found None f = Stuck
with_found (Some x) f = f x

-- the next instruction, with this stack
abbrev pub onward : List ℕ → State → State
onward stack state = record state { address = state.address + 1; stack = stack; charge = state.charge + 1 }

-- a word goes onto the stack
abbrev pub pushed : ℕ → List ℕ → State → Next
pushed word stack state = Goes (onward (word ∷ stack) state)

-- the state once these words are written at the end of a region
abbrev pub grown : ℕ → List ℕ → State → State
grown serial more state = record state { regions = with_more serial more state.regions; charge = state.charge + length more }

-- words are made in a live region that has fewer than 2 ^ 32 words; f goes on from their pointer
abbrev pub made_in : ℕ → List ℕ → State → (ℕ → State → Next) → Next
made_in serial more state f =
    with_found (region_words serial state.regions) (λ words.
    if nat_lt (length words) (2 ^ 32)
    then f (pointer serial (length words)) (grown serial more state)
    else Stuck)

-- words are made in a region, and their pointer goes onto the stack
abbrev pub words_made : ℕ → List ℕ → List ℕ → State → Next
words_made serial more stack state = made_in serial more state (λ p later. pushed p stack later)

-- a text
abbrev pub text_made : ℕ → List ℕ → List ℕ → State → Next
text_made serial text stack state = words_made serial (text_words text) stack state

-- a datum: its words are made, and the word that stands for it goes onto the stack; one without words asks for no region
abbrev pub datum_made : ℕ → Datum → List ℕ → State → Next
datum_made serial d stack state =
    if has_words d then
    with_found (region_words serial state.regions) (λ words.
    made_in serial (laid_datum d (pointer serial (length words))).0 state (λ p later. pushed (laid_datum d p).1 stack later))
    else pushed (laid_datum d 0).1 stack state

-- the lowest words, regions or frames
abbrev pub lowest : {A : Type 0} → ℕ → List A → List A
lowest count stack = drop (length stack - count) stack

-- a packet, with its exception's number, goes to the newest handler, or ends the run
abbrev pub raised_to : Code → ℕ → ℕ → List Handler → State → Next
raised_to code number p [] state = with_found (slice_get code.names number) (λ name. Ends (Uncaught name) state)
raised_to code number p (handler ∷ handlers) state = Goes (record state {
  address = handler.address;
  stack = p ∷ lowest handler.words state.stack;
  base = handler.base;
  closure = handler.closure;
  frames = lowest handler.frames state.frames;
  regions = lowest handler.regions state.regions;
  handlers = handlers;
})

-- an exception without argument is raised: its packet is made in the global region
abbrev pub thrown : Code → ℕ → List ℕ → State → Next
thrown code number stack state =
    made_in 1 (number ∷ 0 ∷ []) state (λ p later. raised_to code number p state.handlers (onward stack later))

-- the numbers of the exceptions that instructions raise
abbrev pub div_by_zero : ℕ
div_by_zero = 2

abbrev pub overflow : ℕ
overflow = 3

abbrev pub subscript : ℕ
subscript = 4

abbrev pub bad_char : ℕ
bad_char = 5

abbrev pub fail : ℕ
fail = 8

-- `Fail` is raised: its text and its packet are made in the global region
abbrev pub failed : Code → List ℕ → List ℕ → State → Next
failed code text stack state =
    made_in 1 (text_words text) state (λ q written.
    made_in 1 (fail ∷ q ∷ []) written (λ p later. raised_to code fail p state.handlers (onward stack later)))

-- the packet on the stack is raised
abbrev pub raised : Code → ℕ → List Handler → State → Next
raised code p [] state = with_found (field_at p 0 state.regions) (λ number. raised_to code number p [] state)
raised code p handlers state = raised_to code 0 p handlers state

-- What an instruction comes to once its words are taken.
pub data Result : Type 0 where
  -- a word, or nothing
  Word : ℕ → Result
  Nothing : Result
  -- in the region of a serial: words and their pointer, a text, or a datum
  Words : ℕ → List ℕ → Result
  Text : ℕ → List ℕ → Result
  Data : ℕ → Datum → Result
  -- an exception without argument, or `Fail`
  Throws : ℕ → Result
  Fails : List ℕ → Result
  -- the reply has another body, status or content type
  Body : List ℕ → Result
  Status : ℕ → Result
  ContentType : List ℕ → Result
  -- a call, a statement outside the grammar, or no step
  Calls : WebCall → Result
  NoStatement : ℕ → Result
  Lacks : Result

-- the result, below which this stack lies; a call leaves its words where they are till its answer comes; an end is a step too
abbrev pub delivered : Code → State → List ℕ → Result → Next
delivered code state stack (Word w) = pushed w stack state
delivered code state stack Nothing = Goes (onward stack state)
delivered code state stack (Words r more) = words_made r more stack state
delivered code state stack (Text r text) = text_made r text stack state
delivered code state stack (Data r d) = datum_made r d stack state
delivered code state stack (Throws number) = thrown code number stack state
delivered code state stack (Fails text) = failed code text stack state
delivered code state stack (Body body) = Goes (onward stack (record state { body = body }))
delivered code state stack (Status status) = Goes (onward stack (record state { status = status }))
delivered code state stack (ContentType content_type) = Goes (onward stack (record state { content_type = content_type }))
delivered code state stack (Calls c) = Waits c state
delivered code state stack (NoStatement place) = Ends (BadStatement place) (onward stack state)
delivered code state stack Lacks = Stuck

-- what must be found for a result
abbrev pub of_found : {A : Type 0} → Option A → (A → Result) → Result
of_found None f = Lacks
of_found (Some x) f = f x

-- a number of 64 bits, or Overflow
abbrev pub number_result : ℤ → Result
number_result z = if fits z then Word (word_of z) else Throws overflow

-- by a divisor other than 0, or Div
abbrev pub divided : (ℤ → ℤ → ℤ) → ℤ → ℤ → Result
divided f a b = if is_zero b then Throws div_by_zero else number_result (f a b)

abbrev pub truth : Bool → Result
truth b = Word (number_of_bool b)

-- a byte, or an exception
abbrev pub byte_or : ℕ → Option ℕ → Result
byte_or number None = Throws number
byte_or number (Some b) = Word b

-- the text of one character; a word of 256 or more is none
abbrev pub text_of_char : ℕ → ℕ → Result
text_of_char r c = if nat_lt c 256 then Text r (c ∷ []) else Lacks

-- a text made in a region, or Subscript
abbrev pub text_or_subscript : ℕ → Option (List ℕ) → Result
text_or_subscript r None = Throws subscript
text_or_subscript r (Some text) = Text r text

-- the option of a number, or Overflow
abbrev pub option_of_number : ℕ → Option ℤ → Result
option_of_number r None = Data r (datum.Opt None)
option_of_number r (Some z) = if fits z then Data r (datum.Opt (Some (datum.Int z))) else Throws overflow

abbrev pub option_of_text : ℕ → Option (List ℕ) → Result
option_of_text r None = Data r (datum.Opt None)
option_of_text r (Some text) = Data r (datum.Opt (Some (datum.Str text)))

-- an int that an option's argument is, if any
abbrev pub optional_number : ℕ → List Region → Option (Option ℤ)
optional_number word regions = option_map (λ argument. option_map number_of argument) (option_at word regions)

-- a cache in a region: from its name's pointer, whether it is `WhileUsed`, and its limits, where they aren't negative
abbrev pub cache_with : ℕ → ℕ → Bool → Option (Option ℕ) → Option (Option ℕ) → Result
cache_with r name used (Some time) (Some size) = Words r (cache_words name used time size)
cache_with r name used _ _ = Fails bad_cache_kind

-- the kind is a pointer to the index of `WhileUsed`, 0, or of `TimeOut`, 1, and to the pair of time and size
abbrev pub cache_made : ℕ → ℕ → ℕ → State → Result
cache_made name kind r state =
    of_found (text_behind name state.regions) (λ text.
    if is_cache_name text then
    of_found (index_below 2 (field_at kind 0 state.regions)) (λ index.
    of_found (field_at kind 1 state.regions) (λ limits.
    of_found (option_and_then (λ w. optional_number w state.regions) (field_at limits 0 state.regions)) (λ time.
    of_found (option_and_then (λ w. optional_number w state.regions) (field_at limits 1 state.regions)) (λ size.
    cache_with r name (index == 0) (limit_of time) (limit_of size)))))
    else Fails bad_cache_name)

-- a call on a cache whose key and value have the descriptions of these numbers
abbrev pub cache_called : Code → ℕ → ℕ → ℕ → State → (CacheId → Desc → Desc → Option CacheOp) → Result
cache_called code d e c state f =
    of_found (slice_get code.descs d) (λ key.
    of_found (slice_get code.descs e) (λ value.
    of_found (cache_at key value c state.regions) (λ id.
    of_found (f id key value) (λ o. Calls (call.Cache (record { id = id; op = o }))))))

abbrev pub looked_up : Code → ℕ → ℕ → ℕ → ℕ → State → Result
looked_up code d e c k state = cache_called code d e c state (λ id key value. option_map op.Look (datum_at state.charge key k state.regions))

abbrev pub inserted : Code → ℕ → ℕ → ℕ → ℕ → ℕ → State → Result
inserted code d e c k v state =
    cache_called code d e c state (λ id key value.
    option_and_then (λ x. option_map (op.Put x) (datum_at state.charge value v state.regions)) (datum_at state.charge key k state.regions))

abbrev pub flushed : Code → ℕ → ℕ → ℕ → State → Result
flushed code d e c state = cache_called code d e c state (λ id key value. Some op.Flush)

-- a call on a database; its name is looked at before the statement
abbrev pub told_result : List ℕ → Told → Result
told_result name (Command command) = Calls (call.Db name command)
told_result name (Outside place) = NoStatement place

abbrev pub database_called : ℕ → ℕ → State → Result
database_called p q state =
    of_found (text_behind p state.regions) (λ name.
    if is_listed name state.databases
    then of_found (pieces_at state.charge q state.regions) (λ pieces. told_result name (statement_of (concat pieces)))
    else Fails no_database)

-- The shapes of instructions.
pub data Shape : Type 0 where
  -- a word that is found goes onto the stack
  Reads : (State → Option ℕ) → Shape
  -- another stack
  Moves : (State → Option (List ℕ)) → Shape
  -- another stack, and where it goes on
  Jumps : (State → Option (ℕ × List ℕ)) → Shape
  -- words are taken off the stack, the topmost last
  One : (State → ℕ → Result) → Shape
  Two : (State → ℕ → ℕ → Result) → Shape
  Three : (State → ℕ → ℕ → ℕ → Result) → Shape
  Four : (State → ℕ → ℕ → ℕ → ℕ → Result) → Shape
  -- so many words and a serial are taken, and the words are made there
  Allocates : ℕ → Shape
  -- the word at a place behind a pointer is set
  Sets : ℕ → Shape
  -- calls and regions
  Enters : ℕ → Shape
  Leaves Halts Opens Closes : Shape
  -- handlers
  Handles : ℕ → Shape
  Unhandles Raises : Shape

-- the word so many places above the stack's bottom, and the stack with another word there
abbrev pub word_at : ℕ → List ℕ → Option ℕ
word_at i stack = if nat_lt i (length stack) then slice_get stack (length stack - 1 - i) else None

abbrev pub with_word_at : ℕ → ℕ → List ℕ → Option (List ℕ)
with_word_at i word stack = if nat_lt i (length stack) then Some (set stack (length stack - 1 - i) word) else None

abbrev pub put_at : ℕ → List ℕ → Option (List ℕ)
put_at i [] = None
put_at i (v ∷ stack) = with_word_at i v stack

-- without the n topmost words
abbrev pub without : ℕ → List ℕ → Option (List ℕ)
without n stack = if nat_le n (length stack) then Some (drop n stack) else None

abbrev pub slid : ℕ → List ℕ → Option (List ℕ)
slid n [] = None
slid n (v ∷ stack) = option_map (λ rest. v ∷ rest) (without n stack)

-- where it goes on, by the word on the stack
abbrev pub jumped_by : ℕ → ℕ → (ℕ → Bool) → List ℕ → Option (ℕ × List ℕ)
jumped_by a next test [] = None
jumped_by a next test (v ∷ stack) = Some (if test v then a else next, stack)

abbrev pub jumped_if : ℕ → (ℕ → Bool) → State → Option (ℕ × List ℕ)
jumped_if a test state = jumped_by a (state.address + 1) test state.stack

abbrev pub compared : (ℤ → ℤ → Bool) → Shape
compared test = Two (λ state a b. truth (test (number_of a) (number_of b)))

abbrev pub calculated : (ℤ → ℤ → Result) → Shape
calculated f = Two (λ state a b. f (number_of a) (number_of b))

-- the shape of each instruction
abbrev pub shape_of : Code → Instr → Shape
shape_of code (instr.Const k) = Reads (λ state. Some (word_of k))
shape_of code (instr.Text i) = One (λ state r. of_found (slice_get code.texts i) (λ text. Text r text))
shape_of code (instr.Local i) = Reads (λ state. word_at (state.base + i) state.stack)
shape_of code (instr.PutLocal i) = Moves (λ state. put_at (state.base + i) state.stack)
shape_of code (instr.Env i) = Reads (λ state. field_at state.closure i state.regions)
shape_of code instr.SelfPointer = Reads (λ state. Some state.closure)
shape_of code (instr.Pop n) = Moves (λ state. without n state.stack)
shape_of code (instr.Slide n) = Moves (λ state. slid n state.stack)
shape_of code (instr.Pick n) = Reads (λ state. slice_get state.stack n)
shape_of code instr.Add = calculated (λ a b. number_result (a +ℤ b))
shape_of code instr.Sub = calculated (λ a b. number_result (a -ℤ b))
shape_of code instr.Mul = calculated (λ a b. number_result (a *ℤ b))
shape_of code instr.Div = calculated (divided quotient)
shape_of code instr.Mod = calculated (divided modulus)
shape_of code instr.Neg = One (λ state a. number_result (neg_ℤ (number_of a)))
shape_of code instr.Less = compared int_lt
shape_of code instr.LessEqual = compared int_le
shape_of code instr.Greater = compared (λ a b. int_lt b a)
shape_of code instr.GreaterEqual = compared (λ a b. int_le b a)
shape_of code instr.Same = Two (λ state a b. truth (a == b))
shape_of code (instr.Jump a) = Jumps (λ state. Some (a, state.stack))
shape_of code (instr.JumpIf a) = Jumps (jumped_if a (λ v. not (v == 0)))
shape_of code (instr.JumpNot a k) = Jumps (jumped_if a (λ v. not (v == word_of k)))
shape_of code (instr.Call n) = Enters n
shape_of code instr.Return = Leaves
shape_of code instr.Halt = Halts
shape_of code instr.RegionNew = Opens
shape_of code instr.RegionEnd = Closes
shape_of code (instr.Alloc n) = Allocates n
shape_of code (instr.Field i) = One (λ state p. of_found (field_at p i state.regions) Word)
shape_of code (instr.SetField i) = Sets i
shape_of code instr.Boxed = One (λ state w. truth (is_pointer w))
shape_of code (instr.Handler a) = Handles a
shape_of code instr.HandlerEnd = Unhandles
shape_of code instr.Raise = Raises
shape_of code instr.TextSize = One (λ state p. of_found (text_behind p state.regions) (λ text. Word (length text)))
shape_of code instr.TextSub = Two (λ state p i. of_found (text_behind p state.regions) (λ text. byte_or subscript (byte_at text (number_of i))))
shape_of code instr.TextCut =
    Four (λ state p i n r. of_found (text_behind p state.regions) (λ text. text_or_subscript r (part_at text (number_of i) (number_of n))))
shape_of code instr.TextCat =
    Three (λ state p q r. of_found (text_behind p state.regions) (λ first. of_found (text_behind q state.regions) (λ second. Text r (first ++ second))))
shape_of code instr.TextConcat = Two (λ state p r. of_found (texts_at state.charge p state.regions) (λ texts. Text r (concat texts)))
shape_of code instr.TextCompare =
    Two (λ state p q. of_found (text_behind p state.regions) (λ first. of_found (text_behind q state.regions) (λ second.
    Word (ordering_index (slice_cmp nat_cmp first second)))))
shape_of code instr.TextFromInt = Two (λ state n r. Text r (spelling (number_of n)))
shape_of code instr.IntFromText = Two (λ state p r. of_found (text_behind p state.regions) (λ text. option_of_number r (number_front text)))
shape_of code instr.TextFromChar = Two (λ state c r. text_of_char r c)
shape_of code instr.CharFromInt = One (λ state n. byte_or bad_char (byte_of (number_of n)))
shape_of code instr.Write = One (λ state p. of_found (text_behind p state.regions) (λ text. Body (state.body ++ text)))
shape_of code instr.SetType =
    One (λ state p. of_found (text_behind p state.regions) (λ text. if is_content_type text then ContentType text else Fails bad_type))
shape_of code instr.SetStatus = One (λ state n. if is_status (number_of n) then Status n else Fails bad_status)
shape_of code instr.FormFirst = Two (λ state p r. of_found (text_behind p state.regions) (λ name. option_of_text r (text_under name state.form)))
shape_of code instr.FormAll = Two (λ state p r. of_found (text_behind p state.regions) (λ name. Data r (text_list (texts_under name state.form))))
shape_of code instr.CacheMake = Three (λ state name kind r. cache_made name kind r state)
shape_of code (instr.CacheLook d e) = Three (λ state c k r. looked_up code d e c k state)
shape_of code (instr.CachePut d e) = Three (λ state c k v. inserted code d e c k v state)
shape_of code (instr.CacheFlush d e) = One (λ state c. flushed code d e c state)
shape_of code instr.DbDml = Two (λ state p q. database_called p q state)
shape_of code instr.DbRows = Three (λ state p q r. database_called p q state)

-- the frame that ran is saved, and another one begins below the n arguments
abbrev pub entered_at : ℕ → ℕ → ℕ → State → Next
entered_at n closure address state = Goes (record state {
  address = address;
  base = length state.stack - n;
  closure = closure;
  frames = record { address = state.address + 1; base = state.base; closure = state.closure } ∷ state.frames;
  charge = state.charge + 1;
})

-- the closure lies below the n arguments, and the address of its code is its first word
abbrev pub entered : ℕ → State → Next
entered n state = with_found (slice_get state.stack n) (λ closure. with_found (field_at closure 0 state.regions) (λ address. entered_at n closure address state))

-- the frame ends: its words and its closure go, the result stays, and the call goes on
abbrev pub returned : ℕ → List ℕ → List Frame → State → Next
returned result stack [] state = Stuck
returned result stack (frame ∷ frames) state =
    if nat_lt 0 state.base && nat_le state.base (length stack)
    then Goes (record state {
      address = frame.address;
      stack = result ∷ lowest (state.base - 1) stack;
      base = frame.base;
      closure = frame.closure;
      frames = frames;
      charge = state.charge + 1;
    })
    else Stuck

-- fewer than 2 ^ 32 regions are ever made
abbrev pub opened : State → Next
opened state =
    if nat_lt (suc state.made) (2 ^ 32)
    then Goes (onward (suc state.made ∷ state.stack) (record state {
      regions = record { serial = suc state.made; words = [] } ∷ state.regions;
      made = suc state.made;
    }))
    else Stuck

abbrev pub closed : ℕ → ℕ → List ℕ → List Region → State → Next
closed serial v stack [] state = Stuck
closed serial v stack (region ∷ regions) state =
    if region.serial == serial then Goes (onward (v ∷ stack) (record state { regions = regions })) else Stuck

-- the words that are made lie in the order in which they were pushed
abbrev pub allocated : ℕ → ℕ → List ℕ → State → Next
allocated n r stack state = with_found (without n stack) (λ rest. words_made r (reverse (take n stack)) rest state)

abbrev pub field_set : ℕ → ℕ → ℕ → List ℕ → State → Next
field_set i p v stack state =
    with_found (with_field p i v state.regions) (λ regions. Goes (onward stack (record state { regions = regions; charge = state.charge + 1 })))

abbrev pub handled : ℕ → State → State
handled a state = record state {
  handlers = record {
    words = length state.stack;
    regions = length state.regions;
    frames = length state.frames;
    base = state.base;
    closure = state.closure;
    address = a;
  } ∷ state.handlers;
}

abbrev pub unhandled : List Handler → State → Next
unhandled [] state = Stuck
unhandled (handler ∷ handlers) state = Goes (onward state.stack (record state { handlers = handlers }))

-- what an instruction of a shape does
abbrev pub does : Code → Shape → State → Next
does code (Reads f) state = with_found (f state) (λ word. pushed word state.stack state)
does code (Moves f) state = with_found (f state) (λ stack. Goes (onward stack state))
does code (Jumps f) state = with_found (f state) (λ to. Goes (record state { address = to.0; stack = to.1; charge = state.charge + 1 }))
does code (One f) state = with_word state.stack (λ a stack. delivered code state stack (f state a))
does code (Two f) state = with_two state.stack (λ a b stack. delivered code state stack (f state a b))
does code (Three f) state = with_three state.stack (λ a b c stack. delivered code state stack (f state a b c))
does code (Four f) state = with_four state.stack (λ a b c d stack. delivered code state stack (f state a b c d))
does code (Allocates n) state = with_word state.stack (λ r stack. allocated n r stack state)
does code (Sets i) state = with_two state.stack (λ p v stack. field_set i p v stack state)
does code (Enters n) state = entered n state
does code Leaves state = with_word state.stack (λ v stack. returned v stack state.frames state)
does code Halts state = Ends Halted (onward state.stack state)
does code Opens state = opened state
does code Closes state = with_two state.stack (λ s v stack. closed s v stack state.regions state)
does code (Handles a) state = Goes (onward state.stack (handled a state))
does code Unhandles state = unhandled state.handlers state
does code Raises state = with_word state.stack (λ p stack. raised code p state.handlers (onward stack state))

-- what an instruction does
abbrev pub act : Code → Instr → State → Next
act code i state = does code (shape_of code i) state

-- one step: that of the instruction at the state's address
abbrev pub step : Code → State → Next
step code state = with_found (slice_get code.instrs state.address) (λ i. act code i state)

-- ---- waiting calls

-- the answer to a call of a cache: the option of the value in a region, whether the key had no row, or nothing
abbrev pub cache_answered : CacheAns → ℕ → Result
cache_answered (told.Found value) r = Data r (datum.Opt (Some value))
cache_answered told.Absent r = Data r (datum.Opt None)
cache_answered (told.Fresh fresh) r = truth fresh
cache_answered told.Flushed r = Nothing
cache_answered told.Full r = Lacks

-- the answer to a statement: f of its rows, or `Fail`
abbrev pub database_answered : Option (List ℕ) → Result → Result
database_answered None done = done
database_answered (Some text) done = Fails text

-- an answer to the call of an instruction, whose words are the topmost ones; the region is the last of them, where there is one
abbrev pub answered_by : Instr → WebAns → Option Shape
answered_by (instr.CacheLook d e) (answer.Cache a) = Some (Three (λ state c k r. cache_answered a r))
answered_by (instr.CachePut d e) (answer.Cache a) = Some (Three (λ state c k v. cache_answered a 1))
answered_by (instr.CacheFlush d e) (answer.Cache a) = Some (One (λ state c. cache_answered a 1))
answered_by instr.DbDml (answer.Db a) = Some (Two (λ state p q. database_answered (failure_of a) Nothing))
answered_by instr.DbRows (answer.Db a) = Some (Three (λ state p q r. database_answered (failure_of a) (Data r (row_list (rows_of a)))))
answered_by _ _ = None

abbrev pub goes_on : Code → WebAns → Next → Instr → Next
goes_on code a (Waits c state) i = if call_answer_fits c a then with_found (answered_by i a) (λ shape. does code shape state) else Stuck
goes_on code a _ i = Stuck

-- the step of a call that waits at a state, once it has this answer
abbrev pub resumed : Code → WebAns → State → Next
resumed code a state = with_found (slice_get code.instrs state.address) (λ i. goes_on code a (act code i state) i)

-- what the limit of the stack counts: its words, 3 for each frame and 5 for each handler
abbrev pub stack_size : State → ℕ
stack_size state = length state.stack + 3 * length state.frames + 5 * length state.handlers

-- ---- runs

-- what follows where there is a next state
abbrev pub and_then : Next → (State → Next) → Next
and_then (Goes state) f = f state
and_then (Ends end state) f = Ends end state
and_then (Waits c state) f = Waits c state
and_then Stuck f = Stuck

-- so many steps, or fewer where there is no next state
abbrev pub steps : Code → ℕ → State → Next
steps code zero state = Goes state
steps code (suc n) state = and_then (step code state) (steps code n)

-- for every form and list of databases, so many steps from the start lead to a halt, with this body
abbrev pub Writes : Code → ℕ → List ℕ → Type 0
Writes code n body =
    (form : List (List ℕ × List ℕ)) (databases : List (List ℕ)) →
    (final : State) × (steps code n (start form databases) ≡ Ends Halted final) × (final.body ≡ body)

-- for every form and list of databases, no state that the steps from the start reach lacks a step
abbrev pub NeverStuck : Code → Type 0
NeverStuck code =
    (form : List (List ℕ × List ℕ)) (databases : List (List ℕ)) (n : ℕ) → steps code n (start form databases) ≢ Stuck
