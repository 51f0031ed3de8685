-- The forms of a script's tokens are spelt, and so what is printed of its program reads back, byte by byte.
use Rattle.std.proofs.Common.{◌≡◌, ℕ, List, [], ◌∷◌, ◌++◌, Bool, true, false, ◌&&◌, ◌||◌, cond, Option, Some, None, refl, ap, sym, ◌∙◌, subst, arith, append_assoc, append-nil, ◌==◌, bytes_eq, map}
use Rattle.std.proofs.lemmas.Bool.Decides.{nat_tests}
use Rattle.std.proofs.lemmas.Slice.Eq.{bytes_eq-Decides}
use Rattle.std.specs.List.{list_all, list_any}
use Rattle.sml_syntax.specs.declared.token.Token.{Token}
use Rattle.sml_syntax.specs.declared.token.TokenForm.{TokenForm}
use Rattle.sml_syntax.specs.declared.token.TokenForm.TheVariants as f
use Rattle.sml_syntax.specs.declared.token.Lack.TheVariants as lack
use Rattle.grammar_rules.specs.Spelling.{Reading, Good, Refused, Is, is, is_blank, is_name_byte, Letter, class, Plain, Reserved, Lacks, word_kind, alone, named, names, next_word, is_plain, is_among, reserved_words, module_words, layered_words, abstype_words, fixity_words, while_words, expression, expression_by}
use Rattle.sml_syntax.specs.ByteClasses.{is_letter, is_digit}
use Rattle.grammar_rules.specs.Programs.{Each}
use Rattle.print_laws.specs.Spelled.{spelling, gap}
use Rattle.print_laws.specs.Printing.{has_dot, is_lone, lacking_words, dec_forms}
use Rattle.print_laws.specs.ReadBack.{ReadsBack}
use Rattle.print_laws.specs.Bytes.{Stands, is_anti, KeptName, Kept, PartsFrom, AllKept, placed_lines}
use Rattle.print_laws.specs.Bytes as bytes
use Rattle.print_laws.specs.Spelt.{SpeltName, SpeltWord, SpeltLong, SpeltAnti, IsSpelt, Parts, Followed, QuotesFit}
use Rattle.print_laws.proofs.BytesValues.{int_stands, str_stands, char_stands}
use Rattle.print_laws.proofs.BytesLines.{printed_tokens, script_tokens}
use Rattle.print_laws.proofs.Reading.{programs_read_back}
use Rattle.print_laws.proofs.FitTrees.{decs_fit}

-- words that can only stand behind `^` aren't names
abbrev NotNamed : Option Reading → Type 0
NotNamed (Some (Good (Is (f.Mark word)))) = Unit {0}
NotNamed (Some (Refused r)) = Unit {0}
NotNamed _ = ⊥

abbrev NoName : List ℕ → Type 0
NoName word = NotNamed (expression false 0 word)

among : (P : List ℕ → Type 0) (words : List (List ℕ)) (word : List ℕ) → Each P words → is_among words word ≡ true → P word
among P [] word h g = absurd (cc)
among P (w ∷ ws) word h g = go (bytes_eq w word) refl (λ k. among P ws word h.1 k) g
  where
    go : (b : Bool) → bytes_eq w word ≡ b → (is_among ws word ≡ true → P word) → (b || is_among ws word) ≡ true → P word
    go true e r k = subst P ((bytes_eq-Decides w word).0 e) h.0
    go false e r k = r k

reserved_no_names : Each NoName reserved_words
unfolding class names word_kind
reserved_no_names = (tt, (tt, (tt, (tt, (tt, (tt, (tt, (tt, (tt, (tt, (tt, (tt, (tt, (tt, (tt, (tt, (tt, (tt, (tt, (tt, (tt, (tt, tt))))))))))))))))))))))

lacking_no_names : Each NoName lacking_words
unfolding class names word_kind
lacking_no_names = (tt, (tt, (tt, (tt, (tt, (tt, (tt, (tt, (tt, (tt, (tt, (tt, (tt, (tt, (tt, (tt, (tt, (tt, (tt, tt)))))))))))))))))))

lone_no_name : (name : List ℕ) → is_lone name ≡ true → NoName name
unfolding is_lone
lone_no_name name h = go (is_among reserved_words name) refl h
  where
    go : (b : Bool) → is_among reserved_words name ≡ b → (b || is_among lacking_words name) ≡ true → NoName name
    go true e k = among NoName reserved_words name reserved_no_names e
    go false e k = among NoName lacking_words name lacking_no_names k

not_lone_by : (name : List ℕ) → (NoName name → ⊥) → is_lone name ≡ false
not_lone_by name k = go (is_lone name) refl
  where
    go : (b : Bool) → is_lone name ≡ b → b ≡ false
    go true e = absurd (k (lone_no_name name e))
    go false e = refl

-- names
spelt_name : (name : List ℕ) → has_dot name ≡ false → ((ends : Bool) (n : ℕ) → expression ends n name ≡ Some (is (f.Name name))) → SpeltName name
unfolding spelling gap
spelt_name name h k = record { undotted = h; stands = λ ends. record { blank = refl; reads = k ends } }

kept_name : (name : List ℕ) → KeptName false f.Name name → SpeltWord name
kept_name name k = record { not_lone = not_lone_by name (λ q. subst NotNamed (k.reads false 0) q); spelt = spelt_name name k.has_dots k.reads }

kept_long : (name : List ℕ) → KeptName true f.Long name → SpeltLong name
unfolding spelling gap
kept_long name k = record { not_lone = not_lone_by name (λ q. subst NotNamed (k.reads false 0) q); dotted = k.has_dots; stands = λ ends. record { blank = refl; reads = k.reads ends } }

-- a name behind `^`
both_of : (x y : Bool) → (x && y) ≡ true → (x ≡ true) × (y ≡ true)
both_of true y h = (refl, h)
both_of false y h = absurd (cc)

no_dot : (b : ℕ) → is_name_byte b ≡ true → (b == 46) ≡ false
no_dot b h = grind (arith, nat_tests)

letter_goes_on : (b : ℕ) → is_letter b ≡ true → is_name_byte b ≡ true
letter_goes_on b h = ap (λ t. t || (is_digit b || (b == 95 || b == 39))) h

undotted_all : (bs : List ℕ) → list_all is_name_byte bs ≡ true → has_dot bs ≡ false
undotted_all [] h = refl
undotted_all (b ∷ bs) h = let k = both_of (is_name_byte b) (list_all is_name_byte bs) h in ap (λ t. t || has_dot bs) (no_dot b k.0) ∙ undotted_all bs k.1

all_names : (n : ℕ) (word bs : List ℕ) → list_all is_name_byte bs ≡ true → names n [] word bs ≡ Some (named n [] (word ++ bs))
unfolding names
all_names n word [] h = ap (λ w. Some (named n [] w)) (sym (append-nil word))
all_names n word (b ∷ bs) h =
    let k = both_of (is_name_byte b) (list_all is_name_byte bs) h in
    ap (λ t. cond t (names n [] (word ++ b ∷ []) bs) (cond (b == 46 && is_plain word) (next_word n ([] ++ word ++ 46 ∷ []) bs) None)) k.0
    ∙ (all_names n (word ++ b ∷ []) bs k.1 ∙ ap (λ w. Some (named n [] w)) (append_assoc word (b ∷ []) bs))

letter_class : (b : ℕ) → is_letter b ≡ true → class b ≡ Letter
unfolding class
letter_class b h =
    let not_blank : is_blank b ≡ false = grind (arith, nat_tests) in
    rw (not_blank, h) refl

any_append : (p : List ℕ → Bool) (xs ys : List (List ℕ)) → list_any p (xs ++ ys) ≡ (list_any p xs || list_any p ys)
any_append p [] ys = refl
any_append p (x ∷ xs) ys = go (p x) (any_append p xs ys)
  where
    go : (b : Bool) → list_any p (xs ++ ys) ≡ (list_any p xs || list_any p ys) → (b || list_any p (xs ++ ys)) ≡ ((b || list_any p xs) || list_any p ys)
    go true e = refl
    go false e = e

among_append : (xs ys : List (List ℕ)) (word : List ℕ) → is_among (xs ++ ys) word ≡ (is_among xs word || is_among ys word)
among_append xs ys word = any_append (λ w. bytes_eq w word) xs ys

kind_by : (a b c d e g : Bool) → (a || ((((b || c) || d) || e) || g)) ≡ false →
    cond a Reserved (cond b (Lacks lack.Module) (cond c (Lacks lack.Layered) (cond d (Lacks lack.Abstype) (cond e (Lacks lack.Fixity) (cond g (Lacks lack.While) Plain))))) ≡ Plain
kind_by true b c d e g h = absurd (cc)
kind_by false true c d e g h = absurd (cc)
kind_by false false true d e g h = absurd (cc)
kind_by false false false true e g h = absurd (cc)
kind_by false false false false true g h = absurd (cc)
kind_by false false false false false true h = absurd (cc)
kind_by false false false false false false h = refl

lacking_among : (word : List ℕ) → is_among lacking_words word ≡ ((((is_among module_words word || is_among layered_words word) || is_among abstype_words word) || is_among fixity_words word) || is_among while_words word)
lacking_among word =
    among_append (module_words ++ layered_words ++ abstype_words ++ fixity_words) while_words word
    ∙ ap (λ t. t || is_among while_words word) (among_append (module_words ++ layered_words ++ abstype_words) fixity_words word
    ∙ ap (λ t. t || is_among fixity_words word) (among_append (module_words ++ layered_words) abstype_words word
    ∙ ap (λ t. t || is_among abstype_words word) (among_append module_words layered_words word)))

plain_kind : (word : List ℕ) → is_lone word ≡ false → word_kind word ≡ Plain
unfolding is_lone word_kind
plain_kind word h =
    kind_by (is_among reserved_words word) (is_among module_words word) (is_among layered_words word) (is_among abstype_words word) (is_among fixity_words word) (is_among while_words word)
    (sym (ap (λ t. is_among reserved_words word || t) (lacking_among word)) ∙ h)

anti_reads : (ends : Bool) (n : ℕ) (name : List ℕ) → is_anti name ≡ true → is_lone name ≡ false → expression ends n name ≡ Some (is (f.Name name))
anti_reads ends n [] h g = absurd (cc)
anti_reads ends n (b ∷ bs) h g =
    let k = both_of (is_letter b) (list_all is_name_byte bs) h in
    ap (λ c. expression_by ends n c b bs) (letter_class b k.0) ∙ (all_names n (b ∷ []) bs k.1 ∙ ap (λ w. Some (alone n (b ∷ bs) w)) (plain_kind (b ∷ bs) g))

anti_undotted : (name : List ℕ) → is_anti name ≡ true → has_dot name ≡ false
anti_undotted [] h = refl
anti_undotted (b ∷ bs) h =
    let k = both_of (is_letter b) (list_all is_name_byte bs) h in
    ap (λ t. t || has_dot bs) (no_dot b (letter_goes_on b k.0)) ∙ undotted_all bs k.1

kept_anti : (name : List ℕ) → is_anti name ≡ true → SpeltAnti name
kept_anti name h = record { is_name = h; spelt = λ g. spelt_name name (anti_undotted name h) (λ ends n. anti_reads ends n name h g) }

variable_stands : (name : List ℕ) → Kept (f.TyVar name) → (ends : Bool) → Stands ends (f.TyVar name)
unfolding spelling gap
variable_stands name k ends = record { blank = refl; reads = k ends }

-- all forms
kept_spelt : (form : TokenForm) → Kept form → IsSpelt form
kept_spelt (f.Int n) k = λ ends. int_stands ends n k
kept_spelt (f.Char b) k = λ ends. char_stands ends b k
kept_spelt (f.Str text) k = λ ends. str_stands ends text
kept_spelt (f.Name name) k = kept_name name k
kept_spelt (f.Long name) k = kept_long name k
kept_spelt (f.TyVar name) k = variable_stands name k
kept_spelt (f.Mark text) k = tt
kept_spelt f.QuoteFrom k = tt
kept_spelt (f.Plain text) k = k
kept_spelt (f.Anti name) k = kept_anti name k
kept_spelt f.AntiFrom k = tt
kept_spelt f.AntiTo k = tt
kept_spelt f.QuoteTo k = tt

parts : (name : List ℕ) (form : TokenForm) → PartsFrom (f.Anti name) form → Parts form
parts name (f.Int n) k = tt
parts name (f.Char b) k = tt
parts name (f.Str text) k = tt
parts name (f.Name long) k = tt
parts name (f.Long long) k = tt
parts name (f.TyVar long) k = tt
parts name (f.Mark text) k = tt
parts name f.QuoteFrom k = tt
parts name (f.Plain []) k = tt
parts name (f.Plain (b ∷ bs)) k = k
parts name (f.Anti long) k = tt
parts name f.AntiFrom k = tt
parts name f.AntiTo k = tt
parts name f.QuoteTo k = tt

starts : (name : List ℕ) (ts : List Token) → bytes.Parts (f.Anti name) ts → Followed (f.Anti name) ts
starts name [] k = tt
starts name (t ∷ ts) k = parts name t.form k

followed : (form : TokenForm) (ts : List Token) → bytes.Parts form ts → Followed form ts
followed (f.Int n) ts k = tt
followed (f.Char b) ts k = tt
followed (f.Str text) ts k = tt
followed (f.Name long) ts k = tt
followed (f.Long long) ts k = tt
followed (f.TyVar long) ts k = tt
followed (f.Mark text) ts k = tt
followed f.QuoteFrom ts k = tt
followed (f.Plain text) ts k = tt
followed (f.Anti name) ts k = starts name ts k
followed f.AntiFrom ts k = tt
followed f.AntiTo ts k = tt
followed f.QuoteTo ts k = tt

pub all_spelt : (ts : List Token) → AllKept ts → Each (λ (t : Token). IsSpelt t.form) ts × QuotesFit ts
all_spelt [] h = (tt, tt)
all_spelt (t ∷ ts) h = let r = all_spelt ts h.2 in ((kept_spelt t.form h.0, r.0), (followed t.form ts h.1, r.1))

-- what a program is printed as, of the tokens of a script, has its tree again
pub reads_back : ReadsBack
reads_back script program h =
    let k = script_tokens script h.tokens h.has_tokens in
    let s = all_spelt h.tokens k.0 in
    let again : List Token = placed_lines 0 (map dec_forms program.items) in
    let d = printed_tokens program (decs_fit h.tokens program s.0 s.1 k.1 h.is_program) in
    let r = programs_read_back h.tokens again program k.1 h.is_program d.1 in
    (r.0, record { tokens = again; has_tokens = d.0; is_program = r.1 }, r.2)
