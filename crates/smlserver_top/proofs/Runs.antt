-- The code of a script's parts writes what they stand for.
use Rattle.std.proofs.Common.{◌≡◌, ℕ, zero, suc, ◌+◌, ◌*◌, ◌%◌, ◌^◌, ◌<◌, ◌≤◌, Bool, true, false, cond, List, [], ◌∷◌, ◌++◌, length, Some, refl, ap, sym, ◌∙◌, subst, append_assoc, append-nil, arith, length-append}
use Rattle.std.specs.Prelude.{nat_lt, slice_get, ℤ, pos, ◌*ℤ◌, ◌&&◌}
use Rattle.std.specs.Fmt.{decimal}
use Rattle.std.specs.List.{list_all}
use Rattle.std.proofs.lemmas.Fmt.{decimal_by_steps, length-decimal-le}
use Rattle.std.proofs.lemmas.Bool.Decides.{nat_tests}
use Rattle.std.proofs.lemmas.Int.{ints}
use Rattle.std.proofs.lemmas.Option.{slice_get-get_or}
use Rattle.std.proofs.Math.Nat.{mul-le-mul_left}
use Rattle.std.proofs.Math.Seq.{get_or-append_seam}
use Rattle.kam_code.specs.declared.code.Code.{Code}
use Rattle.kam_code.specs.declared.instr.Instr.{Instr}
use Rattle.kam_code.specs.declared.instr.Instr.TheVariants.{Const, Text, Mul, TextFromInt, TextCat, Write, Halt}
use Rattle.kam_code.specs.State.{State, start}
use Rattle.kam_code.specs.Layout.{text_words}
use Rattle.kam_code.specs.Word.{word_of, number_of, spelling}
use Rattle.kam_code.specs.Memory.{text_behind}
use Rattle.kam_code.specs.Step.{Halted, Goes, Ends, Word as word_result, Text as text_result, Throws, Body, of_found, delivered, number_result, with_found, onward, overflow, act, step, and_then, steps, Writes, NeverStuck}
use Rattle.kam_code.proofs.Packed.{IsBytes, text_words_length}
use Rattle.kam_code.proofs.Regions.{text_behind-with_more, text_behind-made}
use Rattle.kam_code.proofs.Runs.{steps-suc, writes-never_stuck}
use Rattle.smlserver_top.specs.declared.part.Part.{Part}
use Rattle.smlserver_top.specs.declared.part.Part.TheVariants.{Plain, Product}
use Rattle.smlserver_top.specs.Parts.{is_plain, ArePlain, IsSmall, AreSmall, AreFew, text_of_part, text_of}
use Rattle.smlserver_top.specs.OneRegion.{global, one_region}
use Rattle.smlserver_top.specs.Compiled.{part_code, numbered, texts_of, rest_code, code_of}
use Rattle.smlserver_top.proofs.Steps.{below_sum, text_made_global}

-- so many steps from a state lead to a halt, with this body
record Halts (code : Code) (count : ℕ) (state : State) (body : List ℕ) : Type 0 where
  final : State
  halt : steps code count state ≡ Ends Halted final
  body_is : final.body ≡ body

one_more : (code : Code) (count : ℕ) (state next : State) (body : List ℕ) → step code state ≡ Goes next → Halts code count next body → Halts code (suc count) state body
one_more code count state next body e h =
    record { final = h.final; halt = steps-suc code count state next e ∙ h.halt; body_is = h.body_is }

-- the step of the instruction that stands at the state's address
step_at : (code : Code) (instr : Instr) (state : State) → slice_get code.instrs state.address ≡ Some instr → step code state ≡ act code instr state
step_at code instr state e = ap (λ o. with_found o (λ i. act code i state)) e

-- these instructions stand in the code from an address on
abbrev Stands : List Instr → ℕ → List Instr → Type 0
Stands code a [] = Unit {0}
Stands code a (instr ∷ rest) = (slice_get code a ≡ Some instr) × Stands code (a + 1) rest

-- ---- single instructions

number_again : (n : ℕ) → n < 2 ^ 63 → number_of (word_of (pos n)) ≡ pos n
number_again n l = omega (arith, ints)

const_step : (code : Code) (form : List (List ℕ × List ℕ)) (databases : List (List ℕ)) (z : ℤ) (count a : ℕ) (stack region body out : List ℕ) (charge : ℕ) → slice_get code.instrs a ≡ Some (Const z) → Halts code count (one_region form databases (a + 1) (word_of z ∷ stack) region body (charge + 1)) out → Halts code (suc count) (one_region form databases a stack region body charge) out
const_step code form databases z count a stack region body out charge e h =
    one_more code count (one_region form databases a stack region body charge) (one_region form databases (a + 1) (word_of z ∷ stack) region body (charge + 1)) out
    (step_at code (Const z) (one_region form databases a stack region body charge) e) h

-- what a step leaves that makes a text
abbrev with_text : List (List ℕ × List ℕ) → List (List ℕ) → ℕ → List ℕ → List ℕ → List ℕ → List ℕ → ℕ → State
with_text form databases a stack region text body charge =
    one_region form databases (a + 1) ((2 ^ 32 + length region) ∷ stack) (region ++ text_words text) body (charge + length (text_words text) + 1)

text_step : (code : Code) (form : List (List ℕ × List ℕ)) (databases : List (List ℕ)) (i count a : ℕ) (stack region text body out : List ℕ) (charge : ℕ) → slice_get code.instrs a ≡ Some (Text i) → slice_get code.texts i ≡ Some text → length region + length (text_words text) < 2 ^ 32 → Halts code count (with_text form databases a stack region text body charge) out → Halts code (suc count) (one_region form databases a (1 ∷ stack) region body charge) out
text_step code form databases i count a stack region text body out charge e t l h =
    let state : State = one_region form databases a (1 ∷ stack) region body charge in
    one_more code count state (with_text form databases a stack region text body charge) out
    (step_at code (Text i) state e
    ∙ ap (λ o. delivered code state stack (of_found o (λ x. text_result 1 x))) t
    ∙ text_made_global 1 region text stack state refl refl (below_sum (length region) (length (text_words text)) (2 ^ 32) l)) h

mul_step : (code : Code) (form : List (List ℕ × List ℕ)) (databases : List (List ℕ)) (m n count a : ℕ) (stack region body out : List ℕ) (charge : ℕ) → slice_get code.instrs a ≡ Some Mul → m < 2 ^ 63 → n < 2 ^ 63 → m * n < 2 ^ 63 → Halts code count (one_region form databases (a + 1) (word_of (pos (m * n)) ∷ stack) region body (charge + 1)) out → Halts code (suc count) (one_region form databases a (word_of (pos n) ∷ word_of (pos m) ∷ stack) region body charge) out
mul_step code form databases m n count a stack region body out charge e lm ln l h =
    let state : State = one_region form databases a (word_of (pos n) ∷ word_of (pos m) ∷ stack) region body charge in
    let test : nat_lt (m * n) (2 ^ 63) ≡ true = grind (arith, nat_tests) in
    one_more code count state (one_region form databases (a + 1) (word_of (pos (m * n)) ∷ stack) region body (charge + 1)) out
    (step_at code Mul state e
    ∙ ap (λ x. delivered code state stack (number_result (x *ℤ number_of (word_of (pos n))))) (number_again m lm)
    ∙ ap (λ x. delivered code state stack (number_result (pos m *ℤ x))) (number_again n ln)
    ∙ ap (λ b. delivered code state stack (cond b (word_result (word_of (pos (m * n)))) (Throws overflow))) test) h

spell_step : (code : Code) (form : List (List ℕ × List ℕ)) (databases : List (List ℕ)) (n count a : ℕ) (stack region body out : List ℕ) (charge : ℕ) → slice_get code.instrs a ≡ Some TextFromInt → n < 2 ^ 63 → length region + length (text_words (decimal n)) < 2 ^ 32 → Halts code count (with_text form databases a stack region (decimal n) body charge) out → Halts code (suc count) (one_region form databases a (1 ∷ word_of (pos n) ∷ stack) region body charge) out
spell_step code form databases n count a stack region body out charge e ln l h =
    let state : State = one_region form databases a (1 ∷ word_of (pos n) ∷ stack) region body charge in
    one_more code count state (with_text form databases a stack region (decimal n) body charge) out
    (step_at code TextFromInt state e
    ∙ ap (λ z. delivered code state stack (text_result 1 (spelling z))) (number_again n ln)
    ∙ text_made_global 1 region (decimal n) stack state refl refl (below_sum (length region) (length (text_words (decimal n))) (2 ^ 32) l)) h

join_step : (code : Code) (form : List (List ℕ × List ℕ)) (databases : List (List ℕ)) (p q count a : ℕ) (stack region first second body out : List ℕ) (charge : ℕ) → slice_get code.instrs a ≡ Some TextCat → text_behind p (global region) ≡ Some first → text_behind q (global region) ≡ Some second → length region + length (text_words (first ++ second)) < 2 ^ 32 → Halts code count (with_text form databases a stack region (first ++ second) body charge) out → Halts code (suc count) (one_region form databases a (1 ∷ q ∷ p ∷ stack) region body charge) out
join_step code form databases p q count a stack region first second body out charge e hp hq l h =
    let state : State = one_region form databases a (1 ∷ q ∷ p ∷ stack) region body charge in
    one_more code count state (with_text form databases a stack region (first ++ second) body charge) out
    (step_at code TextCat state e
    ∙ ap (λ o. delivered code state stack (of_found o (λ x. of_found (text_behind q (global region)) (λ y. text_result 1 (x ++ y))))) hp
    ∙ ap (λ o. delivered code state stack (of_found o (λ y. text_result 1 (first ++ y)))) hq
    ∙ text_made_global 1 region (first ++ second) stack state refl refl (below_sum (length region) (length (text_words (first ++ second))) (2 ^ 32) l)) h

write_step : (code : Code) (form : List (List ℕ × List ℕ)) (databases : List (List ℕ)) (p count a : ℕ) (stack region text body out : List ℕ) (charge : ℕ) → slice_get code.instrs a ≡ Some Write → text_behind p (global region) ≡ Some text → Halts code count (one_region form databases (a + 1) stack region (body ++ text) (charge + 1)) out → Halts code (suc count) (one_region form databases a (p ∷ stack) region body charge) out
write_step code form databases p count a stack region text body out charge e hp h =
    let state : State = one_region form databases a (p ∷ stack) region body charge in
    one_more code count state (one_region form databases (a + 1) stack region (body ++ text) (charge + 1)) out
    (step_at code Write state e
    ∙ ap (λ o. delivered code state stack (of_found o (λ t. Body (body ++ t)))) hp) h

halt_step : (code : Code) (form : List (List ℕ × List ℕ)) (databases : List (List ℕ)) (a : ℕ) (stack region body : List ℕ) (charge : ℕ) → slice_get code.instrs a ≡ Some Halt → Halts code (suc zero) (one_region form databases a stack region body charge) body
halt_step code form databases a stack region body charge e =
    let state : State = one_region form databases a stack region body charge in
    record {
      final = onward stack state;
      halt = ap (λ x. and_then x (steps code zero)) (step_at code Halt state e);
      body_is = refl;
    }

-- ---- parts

bytes_append : (a b : List ℕ) → IsBytes a → IsBytes b → IsBytes (a ++ b)
bytes_append [] b x y i = y i
bytes_append (c ∷ a) b x y zero = x zero
bytes_append (c ∷ a) b x y (suc i) = bytes_append a b (λ j. x (suc j)) y i

one_byte : (n : ℕ) → n < 256 → IsBytes (n ∷ [])
one_byte n l zero = l
one_byte n l (suc i) = omega arith

decimal_bytes : (n : ℕ) → n < 2 ^ 64 → IsBytes (decimal n)
decimal_bytes n l =
    decimal_by_steps (λ m ds. IsBytes ds) (λ m h. one_byte (48 + m) (omega arith)) (λ m ds h ih. bytes_append ds ((48 + m % 10) ∷ []) ih (one_byte (48 + m % 10) (omega arith))) n l

split_and : (a b : Bool) → (a && b) ≡ true → (a ≡ true) × (b ≡ true)
split_and true b e = (refl, e)
split_and false b e = absurd (cc)

plain_byte : (b : ℕ) → is_plain b ≡ true → b < 256
plain_byte b e = grind (arith, nat_tests)

plain_bytes : (text : List ℕ) → list_all is_plain text ≡ true → IsBytes text
plain_bytes [] e i = omega arith
plain_bytes (b ∷ text) e zero = plain_byte b (split_and (is_plain b) (list_all is_plain text) e).0
plain_bytes (b ∷ text) e (suc i) = plain_bytes text (split_and (is_plain b) (list_all is_plain text) e).1 i

product_small : (m n : ℕ) → m ≤ 9999 → n ≤ 9999 → m * n < 10 ^ 8
product_small m n l k = let times : m * n ≤ m * 9999 = mul-le-mul_left m k in omega arith

-- a text of these bytes takes at most as many words, and two
few_words : (text : List ℕ) → length (text_words text) ≤ length text + 2
few_words text = let n = text_words_length text in omega arith

-- what is asked of a part: its text stands in the table under this number, is bytes, and is small
record IsReady (texts : List (List ℕ)) (n : ℕ) (part : Part) : Type 0 where
  found : (text : List ℕ) → part ≡ Plain text → slice_get texts n ≡ Some text
  bytes : IsBytes (text_of_part part)
  small : IsSmall part

part_length : (part : Part) → IsSmall part → length (text_of_part part) ≤ 2 ^ 20
part_length (Plain text) s = s
part_length (Product m n) s =
    let p = product_small m n s.0 s.1 in
    let d = length-decimal-le 8 (m * n) (omega arith) p (omega arith) in omega arith

-- the code of a part, with more behind it, puts the part's text on the stack
record Lands (code : Code) (form : List (List ℕ × List ℕ)) (databases : List (List ℕ)) (part : Part) (n a : ℕ) (more : List Instr) (stack region body : List ℕ) (charge : ℕ) : Type 0 where
  next : ℕ
  paid : ℕ
  stands : Stands code.instrs next more
  goes : (out : List ℕ) → Halts code (length more) (one_region form databases next ((2 ^ 32 + length region) ∷ stack) (region ++ text_words (text_of_part part)) body paid) out → Halts code (length (part_code n part ++ more)) (one_region form databases a stack region body charge) out

part_lands : (code : Code) (form : List (List ℕ × List ℕ)) (databases : List (List ℕ)) (part : Part) (n a : ℕ) (more : List Instr) (stack region body : List ℕ) (charge : ℕ) → IsReady code.texts n part → length region + (2 ^ 20 + 2) < 2 ^ 32 → Stands code.instrs a (part_code n part ++ more) → Lands code form databases part n a more stack region body charge
part_lands code form databases (Plain text) n a more stack region body charge r l st =
    record {
      next = a + 1 + 1;
      paid = charge + 1 + length (text_words text) + 1;
      stands = st.1.1;
      goes = λ out h.
          const_step code form databases (pos 1) (suc (length more)) a stack region body out charge st.0
          (text_step code form databases n (length more) (a + 1) stack region text body out (charge + 1) st.1.0 (r.found text refl) (let s = r.small in let w = few_words text in omega arith) h);
    }
part_lands code form databases (Product m k) n a more stack region body charge r l st =
    let s = r.small in
    let p = product_small m k s.0 s.1 in
    let d = part_length (Product m k) s in
    let w = few_words (decimal (m * k)) in
    record {
      next = a + 1 + 1 + 1 + 1 + 1;
      paid = charge + 1 + 1 + 1 + 1 + length (text_words (decimal (m * k))) + 1;
      stands = st.1.1.1.1.1;
      goes = λ out h.
          const_step code form databases (pos m) (suc (suc (suc (suc (length more))))) a stack region body out charge st.0
          (const_step code form databases (pos k) (suc (suc (suc (length more)))) (a + 1) (word_of (pos m) ∷ stack) region body out (charge + 1) st.1.0
          (mul_step code form databases m k (suc (suc (length more))) (a + 1 + 1) stack region body out (charge + 1 + 1) st.1.1.0 (omega arith) (omega arith) (omega arith)
          (const_step code form databases (pos 1) (suc (length more)) (a + 1 + 1 + 1) (word_of (pos (m * k)) ∷ stack) region body out (charge + 1 + 1 + 1) st.1.1.1.0
          (spell_step code form databases (m * k) (length more) (a + 1 + 1 + 1 + 1) stack region body out (charge + 1 + 1 + 1 + 1) st.1.1.1.1.0 (omega arith) (omega arith) h))));
    }

-- each part is ready, the texts being numbered from here on
abbrev AreReady : List (List ℕ) → ℕ → List Part → Type 0
AreReady texts n [] = Unit {0}
AreReady texts n (part ∷ parts) = IsReady texts n part × AreReady texts (numbered n part) parts

made_text : (region text : List ℕ) → IsBytes text → length region < 2 ^ 32 → text_behind (2 ^ 32 + length region) (global (region ++ text_words text)) ≡ Some text
made_text region text b l = text_behind-made 1 region text (global region) b refl l

kept_text : (p : ℕ) (region more text : List ℕ) → text_behind p (global region) ≡ Some text → text_behind p (global (region ++ more)) ≡ Some text
kept_text p region more text h = text_behind-with_more p 1 more text (global region) h

rest_halts : (code : Code) (form : List (List ℕ × List ℕ)) (databases : List (List ℕ)) (parts : List Part) (n a p : ℕ) (region text body : List ℕ) (charge : ℕ) → AreReady code.texts n parts → Stands code.instrs a (rest_code n parts) → text_behind p (global region) ≡ Some text → IsBytes text → length text + 2 ^ 20 * length parts ≤ 2 ^ 24 → length region + 2 ^ 25 * length parts ≤ 2 ^ 30 → Halts code (length (rest_code n parts)) (one_region form databases a (p ∷ []) region body charge) (body ++ (text ++ text_of parts))
rest_halts code form databases [] n a p region text body charge r st held b lt lr =
    write_step code form databases p (suc zero) a [] region text body (body ++ (text ++ [])) charge st.0 held
    (subst (λ t. Halts code (suc zero) (one_region form databases (a + 1) [] region (body ++ text) (charge + 1)) (body ++ t)) (sym (append-nil text))
    (halt_step code form databases (a + 1) [] region (body ++ text) (charge + 1) st.1.0))
rest_halts code form databases (part ∷ parts) n a p region text body charge r st held b lt lr =
    let more : List Instr = Const (pos 1) ∷ TextCat ∷ rest_code (numbered n part) parts in
    let next_text : List ℕ = text_of_part part in
    let second : List ℕ = region ++ text_words next_text in
    let third : List ℕ = second ++ text_words (text ++ next_text) in
    let small = part_length part r.0.small in
    let one = part_lands code form databases part n a more (p ∷ []) region body charge r.0 (omega arith) st in
    let held_first = kept_text p region (text_words next_text) text held in
    let held_second = made_text region next_text r.0.bytes (omega arith) in
    let both = length-append text next_text in
    let words_one = few_words next_text in
    let words_two = few_words (text ++ next_text) in
    let long_one = length-append region (text_words next_text) in
    let long_two = length-append second (text_words (text ++ next_text)) in
    let bytes = bytes_append text next_text b r.0.bytes in
    let held_third = made_text second (text ++ next_text) bytes (omega arith) in
    let rest = rest_halts code form databases parts (numbered n part) (one.next + 1 + 1) (2 ^ 32 + length second) third (text ++ next_text) body (one.paid + 1 + length (text_words (text ++ next_text)) + 1) r.1 one.stands.1.1 held_third bytes (omega arith) (omega arith) in
    one.goes (body ++ (text ++ (next_text ++ text_of parts)))
    (const_step code form databases (pos 1) (suc (length (rest_code (numbered n part) parts))) one.next ((2 ^ 32 + length region) ∷ p ∷ []) second body (body ++ (text ++ (next_text ++ text_of parts))) one.paid one.stands.0
    (join_step code form databases p (2 ^ 32 + length region) (length (rest_code (numbered n part) parts)) (one.next + 1) [] second text next_text body (body ++ (text ++ (next_text ++ text_of parts))) (one.paid + 1) one.stands.1.0 held_first held_second (omega arith)
    (subst (λ t. Halts code (length (rest_code (numbered n part) parts)) (one_region form databases (one.next + 1 + 1) ((2 ^ 32 + length second) ∷ []) third body (one.paid + 1 + length (text_words (text ++ next_text)) + 1)) (body ++ t)) (append_assoc text next_text (text_of parts)) rest)))

code_halts : (code : Code) (form : List (List ℕ × List ℕ)) (databases : List (List ℕ)) (parts : List Part) → AreReady code.texts 0 parts → Stands code.instrs 0 (code_of parts) → AreFew parts → Halts code (length (code_of parts)) (start form databases) (text_of parts)
code_halts code form databases [] r st f = halt_step code form databases 0 [] [] [] 0 st.0
code_halts code form databases (part ∷ parts) r st f =
    let small = part_length part r.0.small in
    let words = few_words (text_of_part part) in
    let one = part_lands code form databases part 0 0 (rest_code (numbered 0 part) parts) [] [] [] 0 r.0 (omega arith) st in
    one.goes (text_of (part ∷ parts))
    (rest_halts code form databases parts (numbered 0 part) one.next (2 ^ 32 + 0) (text_words (text_of_part part)) (text_of_part part) [] one.paid r.1 one.stands (made_text [] (text_of_part part) r.0.bytes (omega arith)) r.0.bytes (omega arith) (omega arith))

-- ---- the code that is compiled

at_seam : {A : Type 0} (pre : List A) (x : A) (rest : List A) → slice_get (pre ++ x ∷ rest) (length pre) ≡ Some x
at_seam pre x rest =
    let within : length pre < length (pre ++ x ∷ rest) = omega (arith, length-append pre (x ∷ rest)) in
    slice_get-get_or (pre ++ x ∷ rest) (length pre) x within ∙ ap Some (get_or-append_seam pre x rest x)

stands_all : (pre rest : List Instr) → Stands (pre ++ rest) (length pre) rest
stands_all pre [] = tt
stands_all pre (instr ∷ rest) =
    let n : length (pre ++ instr ∷ []) ≡ length pre + 1 = omega (arith, length-append pre (instr ∷ [])) in
    let later = stands_all (pre ++ instr ∷ []) rest in
    let same = subst (λ l. Stands l (length (pre ++ instr ∷ [])) rest) (append_assoc pre (instr ∷ []) rest) later in
    (at_seam pre instr rest, subst (λ m. Stands (pre ++ instr ∷ rest) m rest) n same)

same_text : (s t : List ℕ) → Plain s ≡ Plain t → s ≡ t
same_text s t e = cc

ready_all : (pre : List (List ℕ)) (parts : List Part) → ArePlain parts → AreSmall parts → AreReady (pre ++ texts_of parts) (length pre) parts
ready_all pre [] a s = tt
ready_all pre (Product m n ∷ parts) a s =
    let p = product_small m n s.0.0 s.0.1 in
    (record { found = λ text e. absurd (cc); bytes = decimal_bytes (m * n) (omega arith); small = s.0 }, ready_all pre parts a s.1)
ready_all pre (Plain t ∷ parts) a s =
    let n : length (pre ++ t ∷ []) ≡ length pre + 1 = omega (arith, length-append pre (t ∷ [])) in
    let later = ready_all (pre ++ t ∷ []) parts a.1 s.1 in
    let same = subst (λ l. AreReady l (length (pre ++ t ∷ [])) parts) (append_assoc pre (t ∷ []) (texts_of parts)) later in (
      record { found = λ text e. at_seam pre t (texts_of parts) ∙ ap Some (same_text t text e); bytes = plain_bytes t a.0; small = s.0 },
      subst (λ m. AreReady (pre ++ t ∷ texts_of parts) m parts) n same,
    )

-- from the start, the code of the parts comes to a halt with their text
pub code_writes : (code : Code) (parts : List Part) → ArePlain parts → AreSmall parts → AreFew parts → code.instrs ≡ code_of parts → code.texts ≡ texts_of parts → Writes code (length code.instrs) (text_of parts)
code_writes code parts a s f i t form databases =
    let ready = subst (λ texts. AreReady texts 0 parts) (sym t) (ready_all [] parts a s) in
    let stands = subst (λ instrs. Stands instrs 0 (code_of parts)) (sym i) (stands_all [] (code_of parts)) in
    let h = code_halts code form databases parts ready stands f in
    (h.final, ap (λ instrs. steps code (length instrs) (start form databases)) i ∙ h.halt, h.body_is)

pub code_never_stuck : (code : Code) (parts : List Part) → ArePlain parts → AreSmall parts → AreFew parts → code.instrs ≡ code_of parts → code.texts ≡ texts_of parts → NeverStuck code
code_never_stuck code parts a s f i t = writes-never_stuck code (length code.instrs) (text_of parts) (code_writes code parts a s f i t)
