-- A step makes the charge greater, and lowers the number of regions made never.
use Rattle.std.proofs.Common.{◌≡◌, ℕ, suc, ◌+◌, ◌-◌, ◌^◌, ◌<◌, ◌≤◌, Bool, true, false, cond, List, [], ◌∷◌, length, take, Option, Some, None, refl, sym, subst, arith}
use Rattle.std.specs.Prelude.{slice_get, nat_lt, nat_le, ◌&&◌, ◌==◌, reverse}
use Rattle.web_data.specs.declared.database.WebAns.{WebAns}
use Rattle.web_data.specs.declared.datum.Datum.{Datum}
use Rattle.web_data.specs.CallAnswers.{call_answer_fits}
use Rattle.kam_code.specs.declared.code.Code.{Code}
use Rattle.kam_code.specs.declared.instr.Instr.{Instr}
use Rattle.kam_code.specs.Layout.{text_words}
use Rattle.kam_code.specs.Memory.{region_words, pointer, field_at, with_field, has_words, laid_datum}
use Rattle.kam_code.specs.State.{Region, Frame, Handler, State}
use Rattle.kam_code.specs.Step.{Uncaught, Next, Goes, Ends, Waits, Stuck, Result, Word, Nothing, Words, Text, Data, Throws, Fails, Body, Status, ContentType, Calls, NoStatement, Lacks, Shape, Reads, Moves, Jumps, One, Two, Three, Four, Allocates, Sets, Enters, Leaves, Halts, Opens, Closes, Handles, Unhandles, Raises, with_word, with_two, with_three, with_found, onward, grown, made_in, words_made, datum_made, lowest, raised_to, thrown, failed, raised, delivered, does, shape_of, act, step, resumed, goes_on, answered_by, entered_at, returned, closed, allocated, field_set, unhandled, without}
use Rattle.kam_code.specs.Growth.{Later, Grows}

found_grows : {A : Type 0} (s : State) (o : Option A) (f : A → Next) → ((x : A) → Grows s (f x)) → Grows s (with_found o f)
found_grows s None f h = tt
found_grows s (Some x) f h = h x

word_grows : (s : State) (stack : List ℕ) (f : ℕ → List ℕ → Next) → ((a : ℕ) (rest : List ℕ) → Grows s (f a rest)) → Grows s (with_word stack f)
word_grows s [] f h = tt
word_grows s (a ∷ rest) f h = h a rest

two_grows : (s : State) (stack : List ℕ) (f : ℕ → ℕ → List ℕ → Next) → ((a b : ℕ) (rest : List ℕ) → Grows s (f a b rest)) → Grows s (with_two stack f)
two_grows s stack f h = word_grows s stack (λ b rest. with_word rest (λ a below. f a b below)) (λ b rest. word_grows s rest (λ a below. f a b below) (λ a below. h a b below))

three_grows : (s : State) (stack : List ℕ) (f : ℕ → ℕ → ℕ → List ℕ → Next) → ((a b c : ℕ) (rest : List ℕ) → Grows s (f a b c rest)) → Grows s (with_three stack f)
three_grows s stack f h = word_grows s stack (λ c rest. with_two rest (λ a b below. f a b c below)) (λ c rest. two_grows s rest (λ a b below. f a b c below) (λ a b below. h a b c below))

if_grows : (s : State) (b : Bool) (x y : Next) → Grows s x → Grows s y → Grows s (cond b x y)
if_grows s true x y p q = p
if_grows s false x y p q = q

made_grows : (s u : State) (serial : ℕ) (more : List ℕ) (f : ℕ → State → Next) → Later s u → ((p : ℕ) (v : State) → Later s v → Grows s (f p v)) → Grows s (made_in serial more u f)
made_grows s u serial more f l h =
    found_grows s (region_words serial u.regions) (λ words. cond (nat_lt (length words) (2 ^ 32)) (f (pointer serial (length words)) (grown serial more u)) Stuck)
    (λ words. if_grows s (nat_lt (length words) (2 ^ 32)) (f (pointer serial (length words)) (grown serial more u)) Stuck (h (pointer serial (length words)) (grown serial more u) (omega (arith, l.0), l.1)) tt)

-- one step further
next_grows : (s u : State) (stack : List ℕ) → Later s u → Grows s (Goes (onward stack u))
next_grows s u stack l = (omega (arith, l.0), l.1)

raised_to_grows : (code : Code) (number p : ℕ) (s u : State) (handlers : List Handler) → s.charge < u.charge → s.made ≤ u.made → Grows s (raised_to code number p handlers u)
raised_to_grows code number p s u [] c m = found_grows s (slice_get code.names number) (λ name. Ends (Uncaught name) u) (λ name. (omega (arith, c), m))
raised_to_grows code number p s u (handler ∷ handlers) c m = (c, m)

thrown_grows : (code : Code) (number : ℕ) (stack : List ℕ) (s : State) → Grows s (thrown code number stack s)
thrown_grows code number stack s =
    made_grows s s 1 (number ∷ 0 ∷ []) (λ p later. raised_to code number p s.handlers (onward stack later)) (omega arith, omega arith)
    (λ p v l. raised_to_grows code number p s (onward stack v) s.handlers (omega (arith, l.0)) l.1)

failed_grows : (code : Code) (text stack : List ℕ) (s : State) → Grows s (failed code text stack s)
failed_grows code text stack s =
    made_grows s s 1 (text_words text) (λ q written. made_in 1 (8 ∷ q ∷ []) written (λ p later. raised_to code 8 p s.handlers (onward stack later))) (omega arith, omega arith)
    (λ q w k. made_grows s w 1 (8 ∷ q ∷ []) (λ p later. raised_to code 8 p s.handlers (onward stack later)) k
    (λ p v l. raised_to_grows code 8 p s (onward stack v) s.handlers (omega (arith, l.0)) l.1))

words_grows : (serial : ℕ) (more stack : List ℕ) (s : State) → Grows s (words_made serial more stack s)
words_grows serial more stack s = made_grows s s serial more (λ p later. Goes (onward (p ∷ stack) later)) (omega arith, omega arith) (λ p v l. next_grows s v (p ∷ stack) l)

datum_grows : (serial : ℕ) (d : Datum) (stack : List ℕ) (s : State) → Grows s (datum_made serial d stack s)
datum_grows serial d stack s =
    if_grows s (has_words d)
    (with_found (region_words serial s.regions) (λ words. made_in serial (laid_datum d (pointer serial (length words))).0 s (λ p later. Goes (onward ((laid_datum d p).1 ∷ stack) later))))
    (Goes (onward ((laid_datum d 0).1 ∷ stack) s))
    (found_grows s (region_words serial s.regions)
    (λ words. made_in serial (laid_datum d (pointer serial (length words))).0 s (λ p later. Goes (onward ((laid_datum d p).1 ∷ stack) later)))
    (λ words. made_grows s s serial (laid_datum d (pointer serial (length words))).0 (λ p later. Goes (onward ((laid_datum d p).1 ∷ stack) later)) (omega arith, omega arith)
    (λ p v l. next_grows s v ((laid_datum d p).1 ∷ stack) l)))
    (next_grows s s ((laid_datum d 0).1 ∷ stack) (omega arith, omega arith))

-- each result
delivered_grows : (code : Code) (s : State) (stack : List ℕ) (r : Result) → Grows s (delivered code s stack r)
delivered_grows code s stack (Word w) = (omega arith, omega arith)
delivered_grows code s stack Nothing = (omega arith, omega arith)
delivered_grows code s stack (Words r more) = words_grows r more stack s
delivered_grows code s stack (Text r text) = words_grows r (text_words text) stack s
delivered_grows code s stack (Data r d) = datum_grows r d stack s
delivered_grows code s stack (Throws number) = thrown_grows code number stack s
delivered_grows code s stack (Fails text) = failed_grows code text stack s
delivered_grows code s stack (Body body) = (omega arith, omega arith)
delivered_grows code s stack (Status status) = (omega arith, omega arith)
delivered_grows code s stack (ContentType content_type) = (omega arith, omega arith)
delivered_grows code s stack (Calls c) = refl
delivered_grows code s stack (NoStatement place) = (omega arith, omega arith)
delivered_grows code s stack Lacks = tt

raised_grows : (code : Code) (p : ℕ) (s u : State) (handlers : List Handler) → s.charge < u.charge → s.made ≤ u.made → Grows s (raised code p handlers u)
raised_grows code p s u [] c m =
    found_grows s (field_at p 0 u.regions) (λ number. raised_to code number p [] u) (λ number. raised_to_grows code number p s u [] c m)
raised_grows code p s u (handler ∷ handlers) c m = raised_to_grows code 0 p s u (handler ∷ handlers) c m

returned_grows : (v : ℕ) (stack : List ℕ) (frames : List Frame) (s : State) → Grows s (returned v stack frames s)
returned_grows v stack [] s = tt
returned_grows v stack (frame ∷ frames) s =
    if_grows s (nat_lt 0 s.base && nat_le s.base (length stack))
    (Goes (record s { address = frame.address; stack = v ∷ lowest (s.base - 1) stack; base = frame.base; closure = frame.closure; frames = frames; charge = s.charge + 1 }))
    Stuck (omega arith, omega arith) tt

closed_grows : (serial v : ℕ) (stack : List ℕ) (regions : List Region) (s : State) → Grows s (closed serial v stack regions s)
closed_grows serial v stack [] s = tt
closed_grows serial v stack (region ∷ regions) s =
    if_grows s (region.serial == serial) (Goes (onward (v ∷ stack) (record s { regions = regions }))) Stuck (omega arith, omega arith) tt

unhandled_grows : (handlers : List Handler) (s : State) → Grows s (unhandled handlers s)
unhandled_grows [] s = tt
unhandled_grows (handler ∷ handlers) s = (omega arith, omega arith)

-- each shape
pub does_grows : (code : Code) (shape : Shape) (s : State) → Grows s (does code shape s)
does_grows code (Reads f) s = found_grows s (f s) (λ word. Goes (onward (word ∷ s.stack) s)) (λ word. (omega arith, omega arith))
does_grows code (Moves f) s = found_grows s (f s) (λ stack. Goes (onward stack s)) (λ stack. (omega arith, omega arith))
does_grows code (Jumps f) s =
    found_grows s (f s) (λ to. Goes (record s { address = to.0; stack = to.1; charge = s.charge + 1 })) (λ to. (omega arith, omega arith))
does_grows code (One f) s = word_grows s s.stack (λ a stack. delivered code s stack (f s a)) (λ a stack. delivered_grows code s stack (f s a))
does_grows code (Two f) s = two_grows s s.stack (λ a b stack. delivered code s stack (f s a b)) (λ a b stack. delivered_grows code s stack (f s a b))
does_grows code (Three f) s = three_grows s s.stack (λ a b c stack. delivered code s stack (f s a b c)) (λ a b c stack. delivered_grows code s stack (f s a b c))
does_grows code (Four f) s =
    word_grows s s.stack (λ d rest. with_three rest (λ a b c below. delivered code s below (f s a b c d)))
    (λ d rest. three_grows s rest (λ a b c below. delivered code s below (f s a b c d)) (λ a b c below. delivered_grows code s below (f s a b c d)))
does_grows code (Allocates n) s =
    word_grows s s.stack (λ r stack. allocated n r stack s)
    (λ r stack. found_grows s (without n stack) (λ rest. words_made r (reverse (take n stack)) rest s) (λ rest. words_grows r (reverse (take n stack)) rest s))
does_grows code (Sets i) s =
    two_grows s s.stack (λ p v stack. field_set i p v stack s)
    (λ p v stack. found_grows s (with_field p i v s.regions) (λ regions. Goes (onward stack (record s { regions = regions; charge = s.charge + 1 }))) (λ regions. (omega arith, omega arith)))
does_grows code (Enters n) s =
    found_grows s (slice_get s.stack n) (λ closure. with_found (field_at closure 0 s.regions) (λ address. entered_at n closure address s))
    (λ closure. found_grows s (field_at closure 0 s.regions) (λ address. entered_at n closure address s) (λ address. (omega arith, omega arith)))
does_grows code Leaves s = word_grows s s.stack (λ v stack. returned v stack s.frames s) (λ v stack. returned_grows v stack s.frames s)
does_grows code Halts s = (omega arith, omega arith)
does_grows code Opens s =
    if_grows s (nat_lt (suc s.made) (2 ^ 32))
    (Goes (onward (suc s.made ∷ s.stack) (record s { regions = record { serial = suc s.made; words = [] } ∷ s.regions; made = suc s.made })))
    Stuck (omega arith, omega arith) tt
does_grows code Closes s = two_grows s s.stack (λ r v stack. closed r v stack s.regions s) (λ r v stack. closed_grows r v stack s.regions s)
does_grows code (Handles a) s = (omega arith, omega arith)
does_grows code Unhandles s = unhandled_grows s.handlers s
does_grows code Raises s =
    word_grows s s.stack (λ p stack. raised code p s.handlers (onward stack s)) (λ p stack. raised_grows code p s (onward stack s) s.handlers (omega arith) (omega arith))

pub step_grows : (code : Code) (s : State) → Grows s (step code s)
step_grows code s = found_grows s (slice_get code.instrs s.address) (λ i. act code i s) (λ i. does_grows code (shape_of code i) s)

goes_on_grows : (code : Code) (a : WebAns) (s : State) (next : Next) (i : Instr) → Grows s next → Grows s (goes_on code a next i)
goes_on_grows code a s (Goes t) i g = tt
goes_on_grows code a s (Ends end t) i g = tt
goes_on_grows code a s Stuck i g = tt
goes_on_grows code a s (Waits c t) i g =
    if_grows s (call_answer_fits c a) (with_found (answered_by i a) (λ shape. does code shape t)) Stuck
    (found_grows s (answered_by i a) (λ shape. does code shape t) (λ shape. subst (λ u. Grows s (does code shape u)) (sym g) (does_grows code shape s)))
    tt

-- an answer to a call
pub resumed_grows : (code : Code) (a : WebAns) (s : State) → Grows s (resumed code a s)
resumed_grows code a s =
    found_grows s (slice_get code.instrs s.address) (λ i. goes_on code a (act code i s) i) (λ i. goes_on_grows code a s (act code i s) i (does_grows code (shape_of code i) s))
