-- Forms that can stand in any expression, before whatever fits there.
use Rattle.std.proofs.Common.{◌≡◌, ℕ, suc, List, [], ◌∷◌, ◌++◌, Bool, true, false, Option, Some, None, refl, sym, subst, map, append_assoc}
use Rattle.std.specs.Prelude.{codes, flat_map, cond}
use Rattle.std.specs.Str.{bytes_eq}
use Rattle.sml_syntax.specs.declared.token.Token.{Token}
use Rattle.sml_syntax.specs.declared.token.TokenForm.{TokenForm}
use Rattle.sml_syntax.specs.declared.token.TokenForm.TheVariants as f
use Rattle.grammar_rules.specs.InfixNames.{infix_level}
use Rattle.grammar_rules.specs.Programs.{Each}
use Rattle.grammar_rules.specs.Grammar.{IsTypeName, short, long}
use Rattle.grammar_rules.specs.Spelling.{class, names, word_kind}
use Rattle.print_laws.specs.Spelled.{spelling, gap}
use Rattle.print_laws.specs.Bytes.{Shape, Outside, Quoted, Inside, ends_at, parens_after, Stands, Fits, fits_outside, fits_inside}
use Rattle.print_laws.specs.Printing.{Forms, in_parens, behind_mark, parted, alternatives_from, alternatives, has_dot, with_op, head_forms, name_forms, infix_word, infix_by, infix_of, unless_infix, type_name}
use Rattle.print_laws.specs.Spelt.{SpeltName, SpeltWord, SpeltLong, IsSpelt}
use Rattle.print_laws.proofs.BytesMarks as marks

-- an expression is read here
abbrev pub Reads : Shape → Type 0
Reads Outside = Unit {0}
Reads (Inside parens around) = Unit {0}
Reads (Quoted before around) = ⊥

abbrev pub Goes : Forms → Type 0
Goes forms = (s : Shape) (rest : Forms) → Reads s → Fits s rest → Fits s (forms ++ rest)

-- a form that stands everywhere and opens and closes nothing
pub record Steady (form : TokenForm) : Type 0 where
  pub stands : (ends : Bool) → Stands ends form
  pub keeps : (n : ℕ) → parens_after form n ≡ n

step : (form : TokenForm) → Steady form → (s : Shape) (rest : Forms) → Reads s → Fits s rest → Fits s (form ∷ rest)
step form k Outside rest r h = fits_outside form (k.stands false) h
step form k (Inside parens around) rest r h = fits_inside parens form (k.stands (ends_at parens)) (subst (λ n. Fits (Inside n around) rest) (sym (k.keeps parens)) h)
step form k (Quoted before around) rest r h = absurd r

pub none : Goes []
none s rest r h = h

pub then : (form : TokenForm) (p : Forms) → Steady form → Goes p → Goes (form ∷ p)
then form p k a s rest r h = step form k s (p ++ rest) r (a s rest r h)

pub one : (form : TokenForm) → Steady form → Goes (form ∷ [])
one form k = then form [] k none

pub join : (p q : Forms) → Goes p → Goes q → Goes (p ++ q)
join p q a b s rest r h = subst (Fits s) (sym (append_assoc p q rest)) (a s (q ++ rest) r (b s rest r h))

pub parens : (p : Forms) → Goes p → Goes (in_parens p)
parens p a s rest r h = subst (λ z. Fits s (f.Mark (codes "(") ∷ z)) (sym (append_assoc p (f.Mark (codes ")") ∷ []) rest)) (go s r h)
  where
    go : (s : Shape) → Reads s → Fits s rest → Fits s (f.Mark (codes "(") ∷ p ++ f.Mark (codes ")") ∷ rest)
    go Outside r h = fits_outside (f.Mark (codes "(")) (marks.open_paren false) (a Outside (f.Mark (codes ")") ∷ rest) tt (fits_outside (f.Mark (codes ")")) marks.close h))
    go (Inside n around) r h = fits_inside n (f.Mark (codes "(")) (marks.open_paren (ends_at n)) (a (Inside (suc n) around) (f.Mark (codes ")") ∷ rest) tt (fits_inside (suc n) (f.Mark (codes ")")) marks.close h))
    go (Quoted before around) r h = absurd r

pub unit : Goes (f.Mark (codes "(") ∷ f.Mark (codes ")") ∷ [])
unit = parens [] none

-- lists
pub behind : {A : Type 0} (m : List ℕ) (g : A → Forms) (xs : List A) → Steady (f.Mark m) → Each (λ (x : A). Goes (g x)) xs → Goes (behind_mark m g xs)
behind m g [] k h = none
behind m g (x ∷ xs) k h = join (f.Mark m ∷ g x) (behind_mark m g xs) (then (f.Mark m) (g x) k h.0) (behind m g xs k h.1)

pub between : {A : Type 0} (m : List ℕ) (g : A → Forms) (xs : List A) → Steady (f.Mark m) → Each (λ (x : A). Goes (g x)) xs → Goes (parted m g xs)
between m g [] k h = none
between m g (x ∷ xs) k h = join (g x) (behind_mark m g xs) h.0 (behind m g xs k h.1)

from_choices : {A : Type 0} (g : Bool → A → Forms) (x : A) (xs : List A) → Steady (f.Mark (codes "|")) → Each (λ (z : A). (last : Bool) → Goes (g last z)) (x ∷ xs) → Goes (alternatives_from g x xs)
from_choices g x [] k h = h.0 true
from_choices g x (y ∷ ys) k h = join (g false x) (f.Mark (codes "|") ∷ alternatives_from g y ys) (h.0 false) (then (f.Mark (codes "|")) (alternatives_from g y ys) k (from_choices g y ys k h.1))

pub choices : {A : Type 0} (g : Bool → A → Forms) (xs : List A) → Steady (f.Mark (codes "|")) → Each (λ (z : A). (last : Bool) → Goes (g last z)) xs → Goes (alternatives g xs)
choices g [] k h = none
choices g (x ∷ xs) k h = from_choices g x xs k h

pub row : {A : Type 0} (g : A → Forms) (xs : List A) → Each (λ (x : A). Goes (g x)) xs → Goes (flat_map g xs)
row g [] h = none
row g (x ∷ xs) h = join (g x) (flat_map g xs) h.0 (row g xs h.1)

pub each_of : {A B : Type 0} (k : A → B) (P : B → Type 0) (xs : List A) → Each (λ (x : A). P (k x)) xs → Each P (map k xs)
each_of k P [] h = tt
each_of k P (x ∷ xs) h = (h.0, each_of k P xs h.1)

-- the marks
pub open_list : Steady (f.Mark (codes "["))
open_list = record { stands = marks.open_list; keeps = λ n. refl }

pub close_list : Steady (f.Mark (codes "]"))
close_list = record { stands = marks.close_list; keeps = λ n. refl }

pub comma : Steady (f.Mark (codes ","))
comma = record { stands = marks.comma; keeps = λ n. refl }

pub semicolon : Steady (f.Mark (codes ";"))
semicolon = record { stands = marks.semicolon; keeps = λ n. refl }

pub wild : Steady (f.Mark (codes "_"))
wild = record { stands = marks.wild; keeps = λ n. refl }

pub colon : Steady (f.Mark (codes ":"))
colon = record { stands = marks.colon; keeps = λ n. refl }

pub arrow : Steady (f.Mark (codes "=>"))
arrow = record { stands = marks.arrow; keeps = λ n. refl }

pub bar : Steady (f.Mark (codes "|"))
bar = record { stands = marks.bar; keeps = λ n. refl }

pub to : Steady (f.Mark (codes "->"))
to = record { stands = marks.to; keeps = λ n. refl }

pub equals : Steady (f.Mark (codes "="))
equals = record { stands = marks.equals; keeps = λ n. refl }

pub star : Steady (f.Name (codes "*"))
star = record { stands = marks.star; keeps = λ n. refl }

pub cons : Steady (f.Name (codes "::"))
cons = record { stands = marks.cons; keeps = λ n. refl }

pub word_op : Steady (f.Mark (codes "op"))
word_op = record { stands = marks.word_op; keeps = λ n. refl }

pub word_let : Steady (f.Mark (codes "let"))
word_let = record { stands = marks.word_let; keeps = λ n. refl }

pub word_in : Steady (f.Mark (codes "in"))
word_in = record { stands = marks.word_in; keeps = λ n. refl }

pub word_end : Steady (f.Mark (codes "end"))
word_end = record { stands = marks.word_end; keeps = λ n. refl }

pub word_fn : Steady (f.Mark (codes "fn"))
word_fn = record { stands = marks.word_fn; keeps = λ n. refl }

pub word_case : Steady (f.Mark (codes "case"))
word_case = record { stands = marks.word_case; keeps = λ n. refl }

pub word_of : Steady (f.Mark (codes "of"))
word_of = record { stands = marks.word_of; keeps = λ n. refl }

pub word_handle : Steady (f.Mark (codes "handle"))
word_handle = record { stands = marks.word_handle; keeps = λ n. refl }

pub word_raise : Steady (f.Mark (codes "raise"))
word_raise = record { stands = marks.word_raise; keeps = λ n. refl }

pub word_if : Steady (f.Mark (codes "if"))
word_if = record { stands = marks.word_if; keeps = λ n. refl }

pub word_then : Steady (f.Mark (codes "then"))
word_then = record { stands = marks.word_then; keeps = λ n. refl }

pub word_else : Steady (f.Mark (codes "else"))
word_else = record { stands = marks.word_else; keeps = λ n. refl }

pub word_andalso : Steady (f.Mark (codes "andalso"))
word_andalso = record { stands = marks.word_andalso; keeps = λ n. refl }

pub word_orelse : Steady (f.Mark (codes "orelse"))
word_orelse = record { stands = marks.word_orelse; keeps = λ n. refl }

pub word_val : Steady (f.Mark (codes "val"))
word_val = record { stands = marks.word_val; keeps = λ n. refl }

pub word_fun : Steady (f.Mark (codes "fun"))
word_fun = record { stands = marks.word_fun; keeps = λ n. refl }

pub word_and : Steady (f.Mark (codes "and"))
word_and = record { stands = marks.word_and; keeps = λ n. refl }

pub word_type : Steady (f.Mark (codes "type"))
word_type = record { stands = marks.word_type; keeps = λ n. refl }

pub word_datatype : Steady (f.Mark (codes "datatype"))
word_datatype = record { stands = marks.word_datatype; keeps = λ n. refl }

pub word_exception : Steady (f.Mark (codes "exception"))
word_exception = record { stands = marks.word_exception; keeps = λ n. refl }

pub word_local : Steady (f.Mark (codes "local"))
word_local = record { stands = marks.word_local; keeps = λ n. refl }

-- names
pub named : (name : List ℕ) → SpeltName name → Steady (f.Name name)
named name k = record { stands = k.stands; keeps = λ n. refl }

pub long_named : (name : List ℕ) → SpeltLong name → Steady (f.Long name)
long_named name k = record { stands = k.stands; keeps = λ n. refl }

pub headed : (name : List ℕ) → SpeltName name → Goes (head_forms name)
unfolding head_forms
headed name k = subst (λ b. Goes (cond b (f.Long name ∷ []) (with_op (infix_level name) (f.Name name)))) (sym k.undotted) (go (infix_level name))
  where
    go : (o : Option ℕ) → Goes (with_op o (f.Name name))
    go None = one (f.Name name) (named name k)
    go (Some level) = then (f.Mark (codes "op")) (f.Name name ∷ []) word_op (one (f.Name name) (named name k))

-- the word of an infix name
abbrev pub OperatorGoes : Option (ℕ × TokenForm) → Type 0
OperatorGoes None = Unit {0}
OperatorGoes (Some o) = Steady o.1

operated_by : (name : List ℕ) → Steady (infix_word name) → OperatorGoes (infix_of name)
unfolding infix_of
operated_by name k = go (has_dot name) (infix_level name)
  where
    go : (b : Bool) (o : Option ℕ) → OperatorGoes (cond b None (infix_by o name))
    go true o = tt
    go false None = tt
    go false (Some level) = k

pub operated : (name : List ℕ) → SpeltName name → OperatorGoes (infix_of name)
unfolding infix_word
operated name k = operated_by name (go (bytes_eq name (codes "=")))
  where
    go : (b : Bool) → Steady (cond b (f.Mark (codes "=")) (f.Name name))
    go true = equals
    go false = named name k

pub long_operated : (name : List ℕ) → SpeltLong name → OperatorGoes (infix_of name)
unfolding infix_of
long_operated name k = subst (λ b. OperatorGoes (cond b None (infix_by (infix_level name) name))) (sym k.dotted) tt

pub equals_operated : OperatorGoes (infix_of (codes "="))
unfolding infix_word
equals_operated = operated_by (codes "=") equals

pub long_headed : (name : List ℕ) → SpeltLong name → Goes (head_forms name)
unfolding head_forms
long_headed name k = subst (λ b. Goes (cond b (f.Long name ∷ []) (with_op (infix_level name) (f.Name name)))) (sym k.dotted) (one (f.Long name) (long_named name k))

pub expressed : (name : List ℕ) → Goes (head_forms name) → Goes (name_forms name)
unfolding name_forms
expressed name k = go (bytes_eq name (codes "="))
  where
    go : (b : Bool) → Goes (cond b (f.Mark (codes "op") ∷ f.Mark (codes "=") ∷ []) (head_forms name))
    go true = then (f.Mark (codes "op")) (f.Mark (codes "=") ∷ []) word_op (one (f.Mark (codes "=")) equals)
    go false = k

pub op_equals : Goes (name_forms (codes "="))
unfolding name_forms
op_equals = then (f.Mark (codes "op")) (f.Mark (codes "=") ∷ []) word_op (one (f.Mark (codes "=")) equals)

pub typed_name : (name : List ℕ) (w : Token) → IsTypeName name w → IsSpelt w.form → Steady (type_name name)
unfolding type_name
typed_name name w (short _ _ i) k = let s : SpeltWord name = subst IsSpelt i.is k in
    subst (λ b. Steady (cond b (f.Long name) (unless_infix (infix_level name) name))) (sym s.spelt.undotted)
    (subst (λ o. Steady (unless_infix o name)) (sym i.plain) (named name s.spelt))
typed_name name w (long _ _ i) k = let s : SpeltLong name = subst IsSpelt i.is k in
    subst (λ b. Steady (cond b (f.Long name) (unless_infix (infix_level name) name))) (sym s.dotted) (long_named name s)

-- `it`
spelt_it : SpeltName (codes "it")
unfolding class names word_kind spelling gap
spelt_it = record { undotted = refl; stands = λ ends. record { blank = refl; reads = λ n. refl } }

pub it_headed : Goes (head_forms (codes "it"))
it_headed = headed (codes "it") spelt_it
