-- What the sort of a token tells of its form.
use Rattle.std.proofs.Common.{◌≡◌, ℕ, suc, ◌<◌, List, [], ◌∷◌, Bool, true, false, cond, Option, Some, None, refl, ap, sym, ◌∙◌, subst, arith, codes, ℤ, get_or, ◌==◌, length}
use Rattle.std.specs.Str.{bytes_eq}
use Rattle.std.proofs.lemmas.Slice.Eq.{bytes_eq-Decides}
use Rattle.std.proofs.lemmas.Bool.{eqb-true}
use Rattle.sml_syntax.specs.declared.token.Token.{Token}
use Rattle.sml_syntax.specs.declared.token.TokenForm.{TokenForm}
use Rattle.sml_syntax.specs.declared.token.TokenForm.TheVariants as f
use Rattle.grammar_rules.specs.InfixNames.{infix_level, symbol_level, word_level, or_else}
use Rattle.grammar_rules.specs.Grammar.{IsMark, IsName, IsAnyName, IsInfixName, IsInfix, by_name, by_equals, IsTypeName, short, long, IsTyVar}
use Rattle.sml_grammar.specs.declared.mark.Mark.{Mark}
use Rattle.sml_grammar.specs.declared.mark.Mark.TheVariants as m
use Rattle.sml_grammar.specs.declared.token_sort.TokenSort.{TokenSort}
use Rattle.sml_grammar.specs.declared.token_sort.TokenSort.TheVariants as o
use Rattle.sml_grammar.specs.Marks.{mark_number, same_mark, mark_of, early_word, late_word, symbol_mark, first_mark}
use Rattle.sml_grammar.specs.Sorts.{sort_of, name_sort, infix_sort, mark_sort, found_sort, plain_sort, is_mark, level_of, is_type_name, is_name, is_ty_var, is_star, is_cons, is_any_name, is_infix_name, is_infix, equal_mark}
use Rattle.sml_grammar.specs.Tokens.{text_of}

-- how a mark is spelled
abbrev pub spelling : Mark → List ℕ
spelling m.And = codes "and"
spelling m.AndAlso = codes "andalso"
spelling m.Case = codes "case"
spelling m.Datatype = codes "datatype"
spelling m.Else = codes "else"
spelling m.End = codes "end"
spelling m.Exception = codes "exception"
spelling m.Fn = codes "fn"
spelling m.Fun = codes "fun"
spelling m.Handle = codes "handle"
spelling m.If = codes "if"
spelling m.In = codes "in"
spelling m.Let = codes "let"
spelling m.Local = codes "local"
spelling m.Of = codes "of"
spelling m.Op = codes "op"
spelling m.OrElse = codes "orelse"
spelling m.Raise = codes "raise"
spelling m.Rec = codes "rec"
spelling m.Then = codes "then"
spelling m.TypeWord = codes "type"
spelling m.Val = codes "val"
spelling m.Colon = codes ":"
spelling m.Bar = codes "|"
spelling m.Equal = codes "="
spelling m.DoubleArrow = codes "=>"
spelling m.Arrow = codes "->"
spelling m.Open = codes "("
spelling m.Close = codes ")"
spelling m.OpenBracket = codes "["
spelling m.CloseBracket = codes "]"
spelling m.Comma = codes ","
spelling m.Semicolon = codes ";"
spelling m.Wildcard = codes "_"

-- if one text is another's, the mark is that one's; else it is found later
one_of : (text spelled : List ℕ) (first mark : Mark) {rest : Option Mark} → cond (bytes_eq text spelled) (Some first) rest ≡ Some mark → spelled ≡ spelling first → (rest ≡ Some mark → text ≡ spelling mark) → text ≡ spelling mark
one_of text spelled first mark {rest} h e later = go (bytes_eq text spelled) refl h
  where
    go : (b : Bool) → bytes_eq text spelled ≡ b → cond b (Some first) rest ≡ Some mark → text ≡ spelling mark
    go true q h = let same : first ≡ mark = cc in (bytes_eq-Decides text spelled).0 q ∙ (e ∙ ap spelling same)
    go false q h = later h

none-some : (mark : Mark) → None ≡ Some mark → ⊥
none-some mark h = cc

early_word-spelled : (text : List ℕ) (mark : Mark) → early_word text ≡ Some mark → text ≡ spelling mark
unfolding early_word
early_word-spelled text mark h = one_of text (codes "and") m.And mark h refl (λ h. one_of text (codes "andalso") m.AndAlso mark h refl (λ h. one_of text (codes "case") m.Case mark h refl (λ h. one_of text (codes "datatype") m.Datatype mark h refl (λ h. one_of text (codes "else") m.Else mark h refl (λ h. one_of text (codes "end") m.End mark h refl (λ h. one_of text (codes "exception") m.Exception mark h refl (λ h. one_of text (codes "fn") m.Fn mark h refl (λ h. one_of text (codes "fun") m.Fun mark h refl (λ h. one_of text (codes "handle") m.Handle mark h refl (λ h. one_of text (codes "if") m.If mark h refl (λ h. absurd (none-some mark h))))))))))))

late_word-spelled : (text : List ℕ) (mark : Mark) → late_word text ≡ Some mark → text ≡ spelling mark
unfolding late_word
late_word-spelled text mark h = one_of text (codes "in") m.In mark h refl (λ h. one_of text (codes "let") m.Let mark h refl (λ h. one_of text (codes "local") m.Local mark h refl (λ h. one_of text (codes "of") m.Of mark h refl (λ h. one_of text (codes "op") m.Op mark h refl (λ h. one_of text (codes "orelse") m.OrElse mark h refl (λ h. one_of text (codes "raise") m.Raise mark h refl (λ h. one_of text (codes "rec") m.Rec mark h refl (λ h. one_of text (codes "then") m.Then mark h refl (λ h. one_of text (codes "type") m.TypeWord mark h refl (λ h. one_of text (codes "val") m.Val mark h refl (λ h. absurd (none-some mark h))))))))))))

symbol_mark-spelled : (text : List ℕ) (mark : Mark) → symbol_mark text ≡ Some mark → text ≡ spelling mark
unfolding symbol_mark
symbol_mark-spelled text mark h = one_of text (codes ":") m.Colon mark h refl (λ h. one_of text (codes "|") m.Bar mark h refl (λ h. one_of text (codes "=") m.Equal mark h refl (λ h. one_of text (codes "=>") m.DoubleArrow mark h refl (λ h. one_of text (codes "->") m.Arrow mark h refl (λ h. one_of text (codes "(") m.Open mark h refl (λ h. one_of text (codes ")") m.Close mark h refl (λ h. one_of text (codes "[") m.OpenBracket mark h refl (λ h. one_of text (codes "]") m.CloseBracket mark h refl (λ h. one_of text (codes ",") m.Comma mark h refl (λ h. one_of text (codes ";") m.Semicolon mark h refl (λ h. one_of text (codes "_") m.Wildcard mark h refl (λ h. absurd (none-some mark h)))))))))))))

-- a mark is found by its spelling alone
mark-spelled : (text : List ℕ) (mark : Mark) → mark_of text ≡ Some mark → text ≡ spelling mark
unfolding mark_of
mark-spelled text mark h = go (early_word text) refl h
  where
    last : (r : Option Mark) → late_word text ≡ r → first_mark r (symbol_mark text) ≡ Some mark → text ≡ spelling mark
    last None q h = symbol_mark-spelled text mark h
    last (Some other) q h = late_word-spelled text mark (q ∙ h)

    go : (r : Option Mark) → early_word text ≡ r → first_mark r (first_mark (late_word text) (symbol_mark text)) ≡ Some mark → text ≡ spelling mark
    go None q h = last (late_word text) refl h
    go (Some other) q h = early_word-spelled text mark (q ∙ h)

-- the mark of a number
abbrev numbered : ℕ → Mark
numbered n = get_or (m.And ∷ m.AndAlso ∷ m.Case ∷ m.Datatype ∷ m.Else ∷ m.End ∷ m.Exception ∷ m.Fn ∷ m.Fun ∷ m.Handle ∷ m.If ∷ m.In ∷ m.Let ∷ m.Local ∷ m.Of ∷ m.Op ∷ m.OrElse ∷ m.Raise ∷ m.Rec ∷ m.Then ∷ m.TypeWord ∷ m.Val ∷ m.Colon ∷ m.Bar ∷ m.Equal ∷ m.DoubleArrow ∷ m.Arrow ∷ m.Open ∷ m.Close ∷ m.OpenBracket ∷ m.CloseBracket ∷ m.Comma ∷ m.Semicolon ∷ m.Wildcard ∷ []) n m.And

numbered-mark : (mark : Mark) → numbered (mark_number mark) ≡ mark
unfolding mark_number
numbered-mark m.And = refl
numbered-mark m.AndAlso = refl
numbered-mark m.Case = refl
numbered-mark m.Datatype = refl
numbered-mark m.Else = refl
numbered-mark m.End = refl
numbered-mark m.Exception = refl
numbered-mark m.Fn = refl
numbered-mark m.Fun = refl
numbered-mark m.Handle = refl
numbered-mark m.If = refl
numbered-mark m.In = refl
numbered-mark m.Let = refl
numbered-mark m.Local = refl
numbered-mark m.Of = refl
numbered-mark m.Op = refl
numbered-mark m.OrElse = refl
numbered-mark m.Raise = refl
numbered-mark m.Rec = refl
numbered-mark m.Then = refl
numbered-mark m.TypeWord = refl
numbered-mark m.Val = refl
numbered-mark m.Colon = refl
numbered-mark m.Bar = refl
numbered-mark m.Equal = refl
numbered-mark m.DoubleArrow = refl
numbered-mark m.Arrow = refl
numbered-mark m.Open = refl
numbered-mark m.Close = refl
numbered-mark m.OpenBracket = refl
numbered-mark m.CloseBracket = refl
numbered-mark m.Comma = refl
numbered-mark m.Semicolon = refl
numbered-mark m.Wildcard = refl

pub same-marks : (a b : Mark) → same_mark a b ≡ true → a ≡ b
unfolding same_mark
same-marks a b h = sym (numbered-mark a) ∙ (ap numbered (eqb-true (mark_number a) (mark_number b) h) ∙ numbered-mark b)

-- the sort of a token, with its form
pub data Seen (form : TokenForm) : TokenSort → Type 0 where
  seen_int : (number : ℤ) → form ≡ f.Int number → Seen form (o.Int number)
  seen_char : (byte : ℕ) → form ≡ f.Char byte → Seen form (o.Char byte)
  seen_str : form ≡ f.Str (text_of form) → Seen form o.Str
  seen_name : form ≡ f.Name (text_of form) → infix_level (text_of form) ≡ None → Seen form o.Name
  seen_infix : (level : ℕ) → form ≡ f.Name (text_of form) → infix_level (text_of form) ≡ Some level → Seen form (o.Infix level)
  seen_star : form ≡ f.Name (codes "*") → Seen form o.Star
  seen_cons : form ≡ f.Name (codes "::") → Seen form o.Cons
  seen_long : form ≡ f.Long (text_of form) → Seen form o.Long
  seen_ty_var : form ≡ f.TyVar (text_of form) → Seen form o.TyVar
  seen_mark : (mark : Mark) → form ≡ f.Mark (spelling mark) → Seen form (o.Mark mark)
  seen_quote_from : form ≡ f.QuoteFrom → Seen form o.QuoteFrom
  seen_plain : (byte : ℕ) (bytes : List ℕ) → form ≡ f.Plain (byte ∷ bytes) → Seen form o.Plain
  seen_anti : form ≡ f.Anti (text_of form) → Seen form o.Anti
  seen_anti_from : form ≡ f.AntiFrom → Seen form o.AntiFrom
  seen_anti_to : form ≡ f.AntiTo → Seen form o.AntiTo
  seen_quote_to : form ≡ f.QuoteTo → Seen form o.QuoteTo
  seen_other : Seen form o.Other

name-seen : (name : List ℕ) → Seen (f.Name name) (name_sort name)
unfolding name_sort text_of
name-seen name = go (bytes_eq name (codes "*")) (bytes_eq name (codes "::")) (infix_level name) refl refl refl
  where
    go : (b c : Bool) (level : Option ℕ) → bytes_eq name (codes "*") ≡ b → bytes_eq name (codes "::") ≡ c → infix_level name ≡ level → Seen (f.Name name) (cond b o.Star (cond c o.Cons (infix_sort level)))
    go true c level p q r = seen_star (ap f.Name ((bytes_eq-Decides name (codes "*")).0 p))
    go false true level p q r = seen_cons (ap f.Name ((bytes_eq-Decides name (codes "::")).0 q))
    go false false None p q r = seen_name refl r
    go false false (Some level) p q r = seen_infix level refl r

mark-seen : (text : List ℕ) → Seen (f.Mark text) (mark_sort text)
unfolding mark_sort
mark-seen text = go (mark_of text) refl
  where
    go : (found : Option Mark) → mark_of text ≡ found → Seen (f.Mark text) (found_sort found)
    go None q = seen_other
    go (Some mark) q = seen_mark mark (ap f.Mark (mark-spelled text mark q))

plain-seen : (text : List ℕ) → Seen (f.Plain text) (plain_sort text)
unfolding plain_sort
plain-seen [] = seen_other
plain-seen (byte ∷ bytes) = go (length (byte ∷ bytes) == 0) refl
  where
    positive : (n : ℕ) → suc n ≡ 0 → ⊥
    positive n h = omega arith

    go : (b : Bool) → (length (byte ∷ bytes) == 0) ≡ b → Seen (f.Plain (byte ∷ bytes)) (cond b o.Other o.Plain)
    go true h = absurd (positive (length bytes) (eqb-true (suc (length bytes)) 0 h))
    go false h = seen_plain byte bytes refl

pub seen : (form : TokenForm) → Seen form (sort_of form)
unfolding sort_of text_of
seen (f.Int number) = seen_int number refl
seen (f.Char byte) = seen_char byte refl
seen (f.Str text) = seen_str refl
seen (f.Name name) = name-seen name
seen (f.Long name) = seen_long refl
seen (f.TyVar name) = seen_ty_var refl
seen (f.Mark text) = mark-seen text
seen f.QuoteFrom = seen_quote_from refl
seen (f.Plain text) = plain-seen text
seen (f.Anti name) = seen_anti refl
seen f.AntiFrom = seen_anti_from refl
seen f.AntiTo = seen_anti_to refl
seen f.QuoteTo = seen_quote_to refl

pub marked : (mark : Mark) (t : Token) (sort : TokenSort) → Seen t.form sort → is_mark mark sort ≡ true → IsMark (spelling mark) t
unfolding is_mark
marked mark t _ (seen_mark found e) h = record { is = e ∙ ap (λ (w : Mark). f.Mark (spelling w)) (same-marks found mark h) }
marked mark t _ _ h = cc

pub named : (w : Token) → w.form ≡ f.Name (text_of w.form) → infix_level (text_of w.form) ≡ None → IsName (text_of w.form) w
named w e n = record { is = e; plain = n }

pub type_named : (w : Token) → w.form ≡ f.Name (text_of w.form) → infix_level (text_of w.form) ≡ None → IsTypeName (text_of w.form) w
type_named w e n = short (text_of w.form) w (named w e n)

pub long_named : (w : Token) → w.form ≡ f.Long (text_of w.form) → IsTypeName (text_of w.form) w
long_named w e = long (text_of w.form) w (record { is = e })

pub var_named : (w : Token) → w.form ≡ f.TyVar (text_of w.form) → IsTyVar (text_of w.form) w
var_named w e = record { is = e }

pub starred : (w : Token) → w.form ≡ f.Name (codes "*") → IsAnyName (codes "*") w
starred w e = record { is = e }

pub type_name_of : (w : Token) (sort : TokenSort) → Seen w.form sort → is_type_name sort ≡ true → IsTypeName (text_of w.form) w
unfolding is_type_name
type_name_of w _ (seen_name e n) h = type_named w e n
type_name_of w _ (seen_long e) h = long_named w e
type_name_of w _ _ h = cc

pub name_of : (w : Token) (sort : TokenSort) → Seen w.form sort → is_name sort ≡ true → IsName (text_of w.form) w
unfolding is_name
name_of w _ (seen_name e n) h = named w e n
name_of w _ _ h = cc

pub var_of : (w : Token) (sort : TokenSort) → Seen w.form sort → is_ty_var sort ≡ true → IsTyVar (text_of w.form) w
unfolding is_ty_var
var_of w _ (seen_ty_var e) h = var_named w e
var_of w _ _ h = cc

pub star_of : (w : Token) (sort : TokenSort) → Seen w.form sort → is_star sort ≡ true → IsAnyName (codes "*") w
unfolding is_star
star_of w _ (seen_star e) h = record { is = e }
star_of w _ _ h = cc

pub cons_of : (w : Token) (sort : TokenSort) → Seen w.form sort → is_cons sort ≡ true → IsAnyName (codes "::") w
unfolding is_cons
cons_of w _ (seen_cons e) h = record { is = e }
cons_of w _ _ h = cc

-- the text of a name
text-is : (form : TokenForm) (name : List ℕ) → form ≡ f.Name name → form ≡ f.Name (text_of form)
unfolding text_of
text-is form name e = e ∙ ap f.Name (sym (ap text_of e))

pub any_name_of : (w : Token) (sort : TokenSort) → Seen w.form sort → is_any_name sort ≡ true → IsAnyName (text_of w.form) w
unfolding is_any_name
any_name_of w _ (seen_name e n) h = record { is = e }
any_name_of w _ (seen_infix level e n) h = record { is = e }
any_name_of w _ (seen_star e) h = record { is = text-is w.form (codes "*") e }
any_name_of w _ (seen_cons e) h = record { is = text-is w.form (codes "::") e }
any_name_of w _ _ h = cc

text-level : (form : TokenForm) (name : List ℕ) (level : ℕ) → form ≡ f.Name name → infix_level name ≡ Some level → infix_level (text_of form) ≡ Some level
unfolding text_of
text-level form name level e h = ap (λ (w : TokenForm). infix_level (text_of w)) e ∙ h

pub infix_of : (w : Token) (sort : TokenSort) → Seen w.form sort → is_infix_name sort ≡ true → IsInfixName (level_of sort) (text_of w.form) w
unfolding is_infix_name level_of infix_level symbol_level word_level
infix_of w _ (seen_infix level e n) h = record { is = e; level_is = n }
infix_of w _ (seen_star e) h = record { is = text-is w.form (codes "*") e; level_is = text-level w.form (codes "*") 7 e refl }
infix_of w _ (seen_cons e) h = record { is = text-is w.form (codes "::") e; level_is = text-level w.form (codes "::") 5 e refl }
infix_of w _ _ h = cc

mark_of_spelling : (mark : Mark) → mark_of (spelling mark) ≡ Some mark
unfolding mark_of early_word late_word symbol_mark
mark_of_spelling m.And = refl
mark_of_spelling m.AndAlso = refl
mark_of_spelling m.Case = refl
mark_of_spelling m.Datatype = refl
mark_of_spelling m.Else = refl
mark_of_spelling m.End = refl
mark_of_spelling m.Exception = refl
mark_of_spelling m.Fn = refl
mark_of_spelling m.Fun = refl
mark_of_spelling m.Handle = refl
mark_of_spelling m.If = refl
mark_of_spelling m.In = refl
mark_of_spelling m.Let = refl
mark_of_spelling m.Local = refl
mark_of_spelling m.Of = refl
mark_of_spelling m.Op = refl
mark_of_spelling m.OrElse = refl
mark_of_spelling m.Raise = refl
mark_of_spelling m.Rec = refl
mark_of_spelling m.Then = refl
mark_of_spelling m.TypeWord = refl
mark_of_spelling m.Val = refl
mark_of_spelling m.Colon = refl
mark_of_spelling m.Bar = refl
mark_of_spelling m.Equal = refl
mark_of_spelling m.DoubleArrow = refl
mark_of_spelling m.Arrow = refl
mark_of_spelling m.Open = refl
mark_of_spelling m.Close = refl
mark_of_spelling m.OpenBracket = refl
mark_of_spelling m.CloseBracket = refl
mark_of_spelling m.Comma = refl
mark_of_spelling m.Semicolon = refl
mark_of_spelling m.Wildcard = refl

pub sort_of_mark : (mark : Mark) → sort_of (f.Mark (spelling mark)) ≡ o.Mark mark
unfolding sort_of mark_sort
sort_of_mark mark = ap found_sort (mark_of_spelling mark)

pub same_itself : (mark : Mark) → same_mark mark mark ≡ true
unfolding same_mark mark_number
same_itself m.And = refl
same_itself m.AndAlso = refl
same_itself m.Case = refl
same_itself m.Datatype = refl
same_itself m.Else = refl
same_itself m.End = refl
same_itself m.Exception = refl
same_itself m.Fn = refl
same_itself m.Fun = refl
same_itself m.Handle = refl
same_itself m.If = refl
same_itself m.In = refl
same_itself m.Let = refl
same_itself m.Local = refl
same_itself m.Of = refl
same_itself m.Op = refl
same_itself m.OrElse = refl
same_itself m.Raise = refl
same_itself m.Rec = refl
same_itself m.Then = refl
same_itself m.TypeWord = refl
same_itself m.Val = refl
same_itself m.Colon = refl
same_itself m.Bar = refl
same_itself m.Equal = refl
same_itself m.DoubleArrow = refl
same_itself m.Arrow = refl
same_itself m.Open = refl
same_itself m.Close = refl
same_itself m.OpenBracket = refl
same_itself m.CloseBracket = refl
same_itself m.Comma = refl
same_itself m.Semicolon = refl
same_itself m.Wildcard = refl

-- a mark is seen as that mark
pub mark_is : (mark : Mark) (w : Token) → IsMark (spelling mark) w → is_mark mark (sort_of w.form) ≡ true
unfolding is_mark
mark_is mark w i = ap (λ (form : TokenForm). is_mark mark (sort_of form)) i.is ∙ (ap (is_mark mark) (sort_of_mark mark) ∙ same_itself mark)

-- levels are below 8
one_level : (b : Bool) (first level : ℕ) {rest : Option ℕ} → cond b (Some first) rest ≡ Some level → first < 8 → (rest ≡ Some level → level < 8) → level < 8
one_level true first level h l later = subst (λ n. n < 8) (same first level h) l
  where
    same : (a b : ℕ) → Some a ≡ Some b → a ≡ b
    same a b h = cc
one_level false first level h l later = later h

no-level : (level : ℕ) → None ≡ Some level → level < 8
no-level level h = cc

symbol-low : (name : List ℕ) (level : ℕ) → symbol_level name ≡ Some level → level < 8
unfolding symbol_level
symbol-low name level h = one_level (bytes_eq name (codes "*")) 7 level h (omega arith) (λ h. one_level (bytes_eq name (codes "+")) 6 level h (omega arith) (λ h. one_level (bytes_eq name (codes "-")) 6 level h (omega arith) (λ h. one_level (bytes_eq name (codes "^")) 6 level h (omega arith) (λ h. one_level (bytes_eq name (codes "::")) 5 level h (omega arith) (λ h. one_level (bytes_eq name (codes "@")) 5 level h (omega arith) (λ h. one_level (bytes_eq name (codes "=")) 4 level h (omega arith) (λ h. one_level (bytes_eq name (codes "<>")) 4 level h (omega arith) (λ h. one_level (bytes_eq name (codes "<")) 4 level h (omega arith) (λ h. one_level (bytes_eq name (codes "<=")) 4 level h (omega arith) (λ h. one_level (bytes_eq name (codes ">")) 4 level h (omega arith) (λ h. one_level (bytes_eq name (codes ">=")) 4 level h (omega arith) (λ h. one_level (bytes_eq name (codes ":=")) 3 level h (omega arith) (λ h. no-level level h)))))))))))))

word-low : (name : List ℕ) (level : ℕ) → word_level name ≡ Some level → level < 8
unfolding word_level
word-low name level h = one_level (bytes_eq name (codes "div")) 7 level h (omega arith) (λ h. one_level (bytes_eq name (codes "mod")) 7 level h (omega arith) (λ h. one_level (bytes_eq name (codes "o")) 3 level h (omega arith) (λ h. one_level (bytes_eq name (codes "before")) 0 level h (omega arith) (λ h. no-level level h))))

pub level-low : (name : List ℕ) (level : ℕ) → infix_level name ≡ Some level → level < 8
unfolding infix_level
level-low name level h = go (symbol_level name) refl h
  where
    go : (found : Option ℕ) → symbol_level name ≡ found → or_else found (word_level name) ≡ Some level → level < 8
    go None q h = word-low name level h
    go (Some other) q h = symbol-low name level (q ∙ h)

star-named : (w : Token) → w.form ≡ f.Name (codes "*") → IsInfixName 7 (text_of w.form) w
unfolding infix_level symbol_level word_level
star-named w e = record { is = text-is w.form (codes "*") e; level_is = text-level w.form (codes "*") 7 e refl }

cons-named : (w : Token) → w.form ≡ f.Name (codes "::") → IsInfixName 5 (text_of w.form) w
unfolding infix_level symbol_level word_level
cons-named w e = record { is = text-is w.form (codes "::") e; level_is = text-level w.form (codes "::") 5 e refl }

-- an infix name of expressions
pub infix_exp_of : (w : Token) (sort : TokenSort) → Seen w.form sort → is_infix sort ≡ true → (name : List ℕ) × IsInfix (level_of sort) name w × (level_of sort < 8)
unfolding is_infix equal_mark level_of
infix_exp_of w _ (seen_infix level e n) h = (text_of w.form, by_name level (text_of w.form) w (record { is = e; level_is = n }), level-low (text_of w.form) level n)
infix_exp_of w _ (seen_star e) h = (text_of w.form, by_name 7 (text_of w.form) w (star-named w e), omega arith)
infix_exp_of w _ (seen_cons e) h = (text_of w.form, by_name 5 (text_of w.form) w (cons-named w e), omega arith)
infix_exp_of w _ (seen_mark mark e) h = go (same_mark mark m.Equal) refl h
  where
    go : (b : Bool) → same_mark mark m.Equal ≡ b → cond b true false ≡ true → (name : List ℕ) × IsInfix 4 name w × (4 < 8)
    go true q h = (codes "=", by_equals w (record { is = e ∙ ap (λ (k : Mark). f.Mark (spelling k)) (same-marks mark m.Equal q) }), omega arith)
    go false q h = cc
infix_exp_of w _ _ h = cc
