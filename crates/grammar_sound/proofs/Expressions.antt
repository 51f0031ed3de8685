-- Expressions: each entry of the table derives a form of the grammar.
use Rattle.std.proofs.Common.{◌≡◌, ℕ, ◌≤◌, ◌+◌, List, [], ◌∷◌, ◌++◌, Bool, true, false, Option, Some, None, refl, ap, sym, ◌∙◌, subst, append_assoc, arith, codes, ℤ}
use Rattle.sml_syntax.specs.declared.token.Token.{Token}
use Rattle.sml_syntax.specs.declared.token.TokenForm.TheVariants as f
use Rattle.sml_syntax.specs.declared.tree.ExpForm.TheVariants as ef
use Rattle.grammar_rules.specs.Nodes.{exp_at, extent, span_of, rule_of}
use Rattle.grammar_rules.specs.Grammar.{Is, Phrase, IsMark, IsTypeName, exp_tree, atx, app, inf, tail, expr, pat, decs, atx_int, atx_char, atx_str, atx_name, atx_quote, atx_let, exps_one, exps_more, app_one, inf_top, tyx_one, tail_raise, tail_if, tail_case, tail_fn, match_last, match_more, one_rule}
use Rattle.sml_grammar.specs.declared.mark.Mark.{Mark}
use Rattle.sml_grammar.specs.declared.mark.Mark.TheVariants as m
use Rattle.sml_grammar.specs.declared.token_sort.TokenSort.{TokenSort}
use Rattle.sml_grammar.specs.declared.token_sort.TokenSort.TheVariants as o
use Rattle.sml_grammar.specs.declared.symbol.Sym.{Sym}
use Rattle.sml_grammar.specs.declared.symbol.Sym.TheVariants as s
use Rattle.sml_grammar.specs.declared.symbol.ExpPhrase.TheVariants as xp
use Rattle.sml_grammar.specs.declared.symbol.ExpRest.TheVariants as xr
use Rattle.sml_grammar.specs.declared.symbol.ExpItems.TheVariants as xi
use Rattle.sml_grammar.specs.declared.symbol.PatPhrase.TheVariants as pp
use Rattle.sml_grammar.specs.declared.symbol.DecPhrase.TheVariants as dp
use Rattle.sml_grammar.specs.Marks.{same_mark, mark_number}
use Rattle.sml_grammar.specs.Sorts.{sort_of, is_mark, begins_atom, begins_tail, atom_mark, tail_mark, is_infix, level_of, equal_mark}
use Rattle.sml_grammar.specs.Tokens.{text_of}
use Rattle.sml_grammar.specs.Takes.{atom_take, atom_mark_take, tail_take}
use Rattle.grammar_sound.proofs.Seen.{Seen, seen_int, seen_char, seen_str, seen_name, seen_long, seen_mark, seen_quote_from, spelling, type_named, long_named, mark_is, sort_of_mark}
use Rattle.grammar_sound.proofs.Sem.{Sem, Fulfils, done, reads, first_or, first-append, Not, Under, Clear, left_level, NoBar, Ends, ExExp, ExExps, ExPat, ExDecs, one_mark, ExprS, expr_s, AndS, OrS, MatchS, match_s, BarS, no_more, a_bar, ItemsS, no_items, more_items, QuotedS, quoted_s, last, nil}
use Rattle.grammar_sound.proofs.Fine.{Begun, begun, strip, Good, Quiet, fin, low}

-- the same form over tokens that are grouped otherwise
pub over : {c : Phrase} {ts us : List Token} → ts ≡ us → ExExp c ts → ExExp c us
over {c} h d = subst (λ w. ExExp c w) h d

-- the token that begins an atomic expression
pub data AtomStart (w : Token) : TokenSort → Type 0 where
  atom_int : (number : ℤ) → w.form ≡ f.Int number → AtomStart w (o.Int number)
  atom_char : (byte : ℕ) → w.form ≡ f.Char byte → AtomStart w (o.Char byte)
  atom_str : w.form ≡ f.Str (text_of w.form) → AtomStart w o.Str
  atom_name : IsTypeName (text_of w.form) w → AtomStart w o.Name
  atom_long : IsTypeName (text_of w.form) w → AtomStart w o.Long
  atom_quote : w.form ≡ f.QuoteFrom → AtomStart w o.QuoteFrom
  atom_op : IsMark (codes "op") w → AtomStart w (o.Mark m.Op)
  atom_open : IsMark (codes "(") w → AtomStart w (o.Mark m.Open)
  atom_bracket : IsMark (codes "[") w → AtomStart w (o.Mark m.OpenBracket)
  atom_let : IsMark (codes "let") w → AtomStart w (o.Mark m.Let)

mark-atom : (w : Token) (mark : Mark) → IsMark (spelling mark) w → atom_mark mark ≡ true → AtomStart w (o.Mark mark)
unfolding atom_mark same_mark mark_number
mark-atom w m.Op i h = atom_op i
mark-atom w m.Open i h = atom_open i
mark-atom w m.OpenBracket i h = atom_bracket i
mark-atom w m.Let i h = atom_let i
mark-atom w _ i h = cc

pub atom_start : (w : Token) (sort : TokenSort) → Seen w.form sort → begins_atom sort ≡ true → AtomStart w sort
unfolding begins_atom
atom_start w _ (seen_int number e) h = atom_int number e
atom_start w _ (seen_char byte e) h = atom_char byte e
atom_start w _ (seen_str e) h = atom_str e
atom_start w _ (seen_name e n) h = atom_name (type_named w e n)
atom_start w _ (seen_long e) h = atom_long (long_named w e)
atom_start w _ (seen_quote_from e) h = atom_quote e
atom_start w _ (seen_mark mark e) h = mark-atom w mark (record { is = e }) h
atom_start w _ _ h = cc

-- the token that begins an expression that takes all it can
pub data TailStart (w : Token) : TokenSort → Type 0 where
  starts_raise : IsMark (codes "raise") w → TailStart w (o.Mark m.Raise)
  starts_if : IsMark (codes "if") w → TailStart w (o.Mark m.If)
  starts_case : IsMark (codes "case") w → TailStart w (o.Mark m.Case)
  starts_fn : IsMark (codes "fn") w → TailStart w (o.Mark m.Fn)

mark-tail : (w : Token) (mark : Mark) → IsMark (spelling mark) w → tail_mark mark ≡ true → TailStart w (o.Mark mark)
unfolding tail_mark same_mark mark_number
mark-tail w m.Raise i h = starts_raise i
mark-tail w m.If i h = starts_if i
mark-tail w m.Case i h = starts_case i
mark-tail w m.Fn i h = starts_fn i
mark-tail w _ i h = cc

pub tail_start : (w : Token) (sort : TokenSort) → Seen w.form sort → begins_tail sort ≡ true → TailStart w sort
unfolding begins_tail
tail_start w _ (seen_mark mark e) h = mark-tail w mark (record { is = e }) h
tail_start w _ _ h = cc

-- an expression, and what follows it between marks
pub data Closed (between last_ : List ℕ) : List Token → Type 0 where
  closed : (us : List Token) (closing : Token) → ExExps between us → IsMark last_ closing → Closed between last_ (us ++ closing ∷ [])

pub close_items : (between last_ : List ℕ) (o : Bool) (u : List Token) {rest : List Token} → ExExp (expr o) u → ItemsS between last_ rest → Closed between last_ (u ++ rest)
close_items between last_ o u (x, ls, d) (no_items closing j) = closed u closing (x, [], ls, exps_one d) j
close_items between last_ o u (x, ls, d) (more_items word_ closing us h (y, more, ms, e) j) =
    subst (Closed between last_) (append_assoc u (word_ ∷ us) (closing ∷ [])) (closed (u ++ word_ ∷ us) closing (x, y ∷ more, ls ++ ms, exps_more word_ d h e) j)

let-form : (w in_ : Token) (u1 : List Token) {rest : List Token} → IsMark (codes "let") w → ExDecs decs u1 → IsMark (codes "in") in_ → Closed (codes ";") (codes "end") rest → ExExp atx (w ∷ u1 ++ in_ ∷ rest)
let-form w in_ u1 i (ds, ls, d) j (closed us closing (x, more, ms, e) k) = over (append_assoc (w ∷ u1) (in_ ∷ us) (closing ∷ [])) (exp_at (span_of w.span.from closing.span.to) (ef.Let ds (x ∷ more)), ls ++ ms, atx_let w in_ closing i d j e k)

let-began : (w : Token) (R : List Sym) (z : Option TokenSort) (us : List Token) → IsMark (codes "let") w → Fulfils (s.Dec dp.Inner ∷ s.Want m.In ∷ s.Exp xp.Whole ∷ s.ExpItems xi.Let ∷ R) us z → Begun (ExExp atx) R w z us
let-began w R z _ i (reads u1 _ ds (reads _ _ (one_mark in_ j) (reads u2 _ (expr_s o x ends) (reads u3 rest items f)))) =
    subst (Begun (ExExp atx) R w z) (append_assoc u1 (in_ ∷ (u2 ++ u3)) rest ∙ ap (λ ts. u1 ++ in_ ∷ ts) (append_assoc u2 u3 rest))
    (begun (u1 ++ in_ ∷ (u2 ++ u3)) rest (let-form w in_ u1 i ds j (close_items (codes ";") (codes "end") o u2 x items)) f)

quote-began : (w : Token) (R : List Sym) (z : Option TokenSort) (u rest : List Token) → w.form ≡ f.QuoteFrom → QuotedS u → Fulfils R rest z → Begun (ExExp atx) R w z (u ++ rest)
quote-began w R z _ rest e (quoted_s to us pieces ls d h) f = begun (us ++ to ∷ []) rest (exp_at (span_of w.span.from to.span.to) (ef.Quote pieces), ls, atx_quote w to e d h) f

-- an atomic expression that begins with this token
pub atom_began : (w : Token) (sort : TokenSort) (R : List Sym) (z : Option TokenSort) (us : List Token) → AtomStart w sort → Fulfils (strip (atom_take sort w ++ R)) us z → Begun (ExExp atx) (strip R) w z us
unfolding atom_take atom_mark_take same_mark mark_number
atom_began w _ R z us (atom_int number e) f = begun [] us (exp_at w.span (ef.Int number), [], atx_int w number e) f
atom_began w _ R z us (atom_char byte e) f = begun [] us (exp_at w.span (ef.Char byte), [], atx_char w byte e) f
atom_began w _ R z us (atom_str e) f = begun [] us (exp_at w.span (ef.Str (text_of w.form)), [], atx_str w (text_of w.form) e) f
atom_began w _ R z us (atom_name h) f = begun [] us (exp_at w.span (ef.Name (text_of w.form)), [], atx_name w (text_of w.form) h) f
atom_began w _ R z us (atom_long h) f = begun [] us (exp_at w.span (ef.Name (text_of w.form)), [], atx_name w (text_of w.form) h) f
atom_began w _ R z _ (atom_quote e) (reads u rest h f) = quote-began w (strip R) z u rest e h f
atom_began w _ R z _ (atom_op i) (reads u rest h f) = begun u rest (h w i) f
atom_began w _ R z _ (atom_open i) (reads u rest h f) = begun u rest (h w i) f
atom_began w _ R z _ (atom_bracket i) (reads u rest h f) = begun u rest (h w i) f
atom_began w _ R z us (atom_let i) f = let-began w (strip R) z us i f

-- what ends an expression
pub quiet_mark : (mark : Mark) → is_mark m.OrElse (o.Mark mark) ≡ false → is_mark m.Handle (o.Mark mark) ≡ false → is_mark m.Bar (o.Mark mark) ≡ false → is_infix (o.Mark mark) ≡ false → Quiet (Some (sort_of (f.Mark (spelling mark))))
quiet_mark mark a b c d = subst (λ sort. Quiet (Some sort)) (sym (sort_of_mark mark)) (record { no_or = a; no_handle = b; no_bar = c; no_infix = d })

pub quiet_in : Quiet (Some (sort_of (f.Mark (codes "in"))))
unfolding is_mark same_mark mark_number is_infix equal_mark
quiet_in = quiet_mark m.In refl refl refl refl

pub quiet_end : Quiet (Some (sort_of (f.Mark (codes "end"))))
unfolding is_mark same_mark mark_number is_infix equal_mark
quiet_end = quiet_mark m.End refl refl refl refl

pub quiet_then : Quiet (Some (sort_of (f.Mark (codes "then"))))
unfolding is_mark same_mark mark_number is_infix equal_mark
quiet_then = quiet_mark m.Then refl refl refl refl

pub quiet_else : Quiet (Some (sort_of (f.Mark (codes "else"))))
unfolding is_mark same_mark mark_number is_infix equal_mark
quiet_else = quiet_mark m.Else refl refl refl refl

pub quiet_of : Quiet (Some (sort_of (f.Mark (codes "of"))))
unfolding is_mark same_mark mark_number is_infix equal_mark
quiet_of = quiet_mark m.Of refl refl refl refl

pub quiet_close : Quiet (Some (sort_of (f.Mark (codes ")"))))
unfolding is_mark same_mark mark_number is_infix equal_mark
quiet_close = quiet_mark m.Close refl refl refl refl

pub quiet_bracket : Quiet (Some (sort_of (f.Mark (codes "]"))))
unfolding is_mark same_mark mark_number is_infix equal_mark
quiet_bracket = quiet_mark m.CloseBracket refl refl refl refl

pub quiet_anti : Quiet (Some (sort_of f.AntiTo))
unfolding sort_of is_mark is_infix
quiet_anti = record { no_or = refl; no_handle = refl; no_bar = refl; no_infix = refl }

pub atom_good : (w : Token) (sort : TokenSort) (R st : List Sym) → AtomStart w sort → Quiet (first_or (fin (R ++ st)) None) → Good (R ++ st) → Good ((atom_take sort w ++ R) ++ st)
unfolding atom_take atom_mark_take same_mark mark_number
atom_good w _ R st (atom_int number e) q g = g
atom_good w _ R st (atom_char byte e) q g = g
atom_good w _ R st (atom_str e) q g = g
atom_good w _ R st (atom_name h) q g = g
atom_good w _ R st (atom_long h) q g = g
atom_good w _ R st (atom_quote e) q g = g
atom_good w _ R st (atom_op i) q g = (q, g)
atom_good w _ R st (atom_open i) q g = g
atom_good w _ R st (atom_bracket i) q g = g
atom_good w _ R st (atom_let i) q g = (quiet_in, (quiet_end, g))

pub atom_low : (w : Token) (sort : TokenSort) (n : ℕ) (R : List Sym) → AtomStart w sort → low n R ≡ true → low n (atom_take sort w ++ R) ≡ true
unfolding atom_take atom_mark_take same_mark mark_number
atom_low w _ n R (atom_int number e) g = g
atom_low w _ n R (atom_char byte e) g = g
atom_low w _ n R (atom_str e) g = g
atom_low w _ n R (atom_name h) g = g
atom_low w _ n R (atom_long h) g = g
atom_low w _ n R (atom_quote e) g = g
atom_low w _ n R (atom_op i) g = g
atom_low w _ n R (atom_open i) g = g
atom_low w _ n R (atom_bracket i) g = g
atom_low w _ n R (atom_let i) g = g

-- rules
true-false : true ≡ false → ⊥
true-false h = cc

pub closed-bar : (o : Bool) (bar : Token) → IsMark (codes "|") bar → NoBar o (Some (sort_of bar.form)) → o ≡ false
closed-bar true bar i h = absurd (true-false (sym (mark_is m.Bar bar i) ∙ h))
closed-bar false bar i h = refl

ends-match : (o : Bool) (z : Option TokenSort) → Ends o z → Not m.Bar z → Ends true z
ends-match o z e h = record { no_or = e.no_or; no_handle = e.no_handle; no_bar = h }

rule-sound : (arrow : Token) (o : Bool) (u1 u2 u3 : List Token) (z : Option TokenSort) → ExPat pat u1 → IsMark (codes "=>") arrow → ExExp (expr o) u2 → Ends o (first_or u3 z) → BarS z u3 → MatchS (u1 ++ arrow ∷ (u2 ++ u3)) z
rule-sound arrow o u1 u2 _ z (p, ls, d) i (x, ms, e) ends (no_more h) =
    subst (λ ts. MatchS (u1 ++ arrow ∷ ts) z) (nil u2) (match_s (rule_of p x ∷ [], ls ++ ms, match_last (one_rule arrow d i e)) (ends-match o z ends h))
rule-sound arrow o u1 u2 _ z (p, ls, d) i (x, ms, e) ends (a_bar bar us j (match_s (rs, ns, k) l)) =
    subst (λ ts. MatchS ts z) (append_assoc u1 (arrow ∷ u2) (bar ∷ us))
    (match_s (rule_of p x ∷ rs, (ls ++ ms) ++ ns, match_more bar (one_rule arrow d i (subst (λ (b : Bool). Is (expr b) u2 (exp_tree x) ms) (closed-bar o bar j ends.no_bar) e)) j k) l)

pub match_takes : (us : List Token) (z : Option TokenSort) → Fulfils (s.Pat pp.Whole ∷ s.Want m.DoubleArrow ∷ s.Exp xp.Whole ∷ s.ExpRest xr.Match ∷ []) us z → MatchS us z
match_takes _ z (reads u1 _ p (reads _ _ (one_mark arrow i) (reads u2 _ (expr_s o x ends) (reads u3 _ h done)))) =
    subst (λ ts. MatchS (u1 ++ arrow ∷ (u2 ++ ts)) z) (nil u3) (rule-sound arrow o u1 u2 u3 z p i x (subst (λ y. Ends o y) (first-append u3 [] z) ends) h)

-- expressions that take all they can
pub data TailD (w : Token) (us : List Token) (z : Option TokenSort) : Type 0 where
  tail_d : (o : Bool) → ExExp (tail o) (w ∷ us) → Ends o z → TailD w us z

raise-form : (w : Token) (us : List Token) (z : Option TokenSort) → IsMark (codes "raise") w → ExprS us z → TailD w us z
raise-form w us z i (expr_s o (x, ls, d) ends) = tail_d o (exp_at (extent (w ∷ us)) (ef.Raise x), ls, tail_raise w i d) ends

fn-form : (w : Token) (us : List Token) (z : Option TokenSort) → IsMark (codes "fn") w → MatchS us z → TailD w us z
fn-form w us z i (match_s (rs, ls, d) ends) = tail_d true (exp_at (extent (w ∷ us)) (ef.Fn rs), ls, tail_fn w i d) ends

case-form : (w of_ : Token) (o : Bool) (u us : List Token) (z : Option TokenSort) → IsMark (codes "case") w → ExExp (expr o) u → IsMark (codes "of") of_ → MatchS us z → TailD w (u ++ of_ ∷ us) z
case-form w of_ o u us z i (x, ls, d) j (match_s (rs, ms, k) ends) = tail_d true (exp_at (extent (w ∷ u ++ of_ ∷ us)) (ef.Case x rs), ls ++ ms, tail_case w of_ i d j k) ends

if-form : (w then_ else_ : Token) (o p : Bool) (u1 u2 u3 : List Token) (z : Option TokenSort) → IsMark (codes "if") w → ExExp (expr o) u1 → IsMark (codes "then") then_ → ExExp (expr p) u2 → IsMark (codes "else") else_ → ExprS u3 z → TailD w (u1 ++ then_ ∷ u2 ++ else_ ∷ u3) z
if-form w then_ else_ o p u1 u2 u3 z i (x, ls, d) j (y, ms, k) l (expr_s r (v, ns, n) ends) =
    tail_d r (exp_at (extent (w ∷ u1 ++ then_ ∷ u2 ++ else_ ∷ u3)) (ef.If x y v), ls ++ ms ++ ns, tail_if w then_ else_ i d j k l n) ends

if-takes : (w : Token) (us : List Token) (z : Option TokenSort) → IsMark (codes "if") w → Fulfils (s.Exp xp.Whole ∷ s.Want m.Then ∷ s.Exp xp.Whole ∷ s.Want m.Else ∷ s.Exp xp.Whole ∷ []) us z → TailD w us z
if-takes w _ z i (reads u1 _ (expr_s o x _) (reads _ _ (one_mark then_ j) (reads u2 _ (expr_s p y _) (reads _ u3 (one_mark else_ k) f)))) = subst (λ ts. TailD w ts z) (append_assoc u1 (then_ ∷ u2) (else_ ∷ u3)) (if-form w then_ else_ o p u1 u2 u3 z i x j y k (last f))

case-takes : (w : Token) (us : List Token) (z : Option TokenSort) → IsMark (codes "case") w → Fulfils (s.Exp xp.Whole ∷ s.Want m.Of ∷ s.Pat pp.Whole ∷ s.Want m.DoubleArrow ∷ s.Exp xp.Whole ∷ s.ExpRest xr.Match ∷ []) us z → TailD w us z
case-takes w _ z i (reads u1 _ (expr_s o x _) (reads _ u2 (one_mark of_ j) f)) = case-form w of_ o u1 u2 z i x j (match_takes u2 z f)

pub tail_took : (w : Token) (sort : TokenSort) (at : ℕ) (us : List Token) (z : Option TokenSort) → TailStart w sort → Fulfils (strip (tail_take sort at)) us z → TailD w us z
unfolding tail_take is_mark same_mark mark_number
tail_took w _ at us z (starts_raise i) f = raise-form w us z i (last f)
tail_took w _ at us z (starts_if i) f = if-takes w us z i f
tail_took w _ at us z (starts_case i) f = case-takes w us z i f
tail_took w _ at us z (starts_fn i) f = fn-form w us z i (match_takes us z f)

pub tail_good : (w : Token) (sort : TokenSort) (at : ℕ) (st : List Sym) → TailStart w sort → Quiet (first_or (fin st) None) → Good st → Good (tail_take sort at ++ st)
unfolding tail_take is_mark same_mark mark_number
tail_good w _ at st (starts_raise i) q g = (q, g)
tail_good w _ at st (starts_if i) q g = (quiet_then, (quiet_else, (q, g)))
tail_good w _ at st (starts_case i) q g = (quiet_of, (q, (q, g)))
tail_good w _ at st (starts_fn i) q g = (q, (q, g))

pub tail_low : (w : Token) (sort : TokenSort) (at n : ℕ) → TailStart w sort → low n (tail_take sort at) ≡ true
unfolding tail_take is_mark same_mark mark_number
tail_low w _ at n (starts_raise i) = refl
tail_low w _ at n (starts_if i) = refl
tail_low w _ at n (starts_case i) = refl
tail_low w _ at n (starts_fn i) = refl

-- a level that the next token leaves open
abbrev pick : ℕ → Option TokenSort → ℕ
pick n None = n
pick n (Some sort) = n + left_level (level_of sort)

pick-above : (n : ℕ) (z : Option TokenSort) → n ≤ pick n z
pick-above n None = omega arith
pick-above n (Some sort) = above n (left_level (level_of sort))
  where
    above : (a b : ℕ) → a ≤ a + b
    above a b = omega arith

pick-clear : (n : ℕ) (z : Option TokenSort) → Clear (pick n z) z
pick-clear n None = tt
pick-clear n (Some sort) = λ h. above n (left_level (level_of sort))
  where
    above : (a b : ℕ) → b ≤ a + b
    above a b = omega arith

-- an operand, and what is left of the stack
pub data OperandS (n : ℕ) (R : List Sym) (z : Option TokenSort) (w : Token) : List Token → Type 0 where
  operand_s : (us rest : List Token) → ExExp (inf n) (w ∷ us) → Under n (first_or rest z) → Fulfils R rest z → OperandS n R z w (us ++ rest)

operand-more : (n : ℕ) (us u1 u2 : List Token) (w : Token) (z : Option TokenSort) → ExExp app (w ∷ us ++ u1) → Sem (s.ExpRest (xr.Infix n 0)) u2 z → ExExp (inf n) ((w ∷ us ++ u1) ++ u2) × Under n z
operand-more n us u1 u2 w z (x, ls, d) k = k (pick n (first_or u2 z)) (w ∷ us ++ u1) (pick-above n (first_or u2 z)) (x, ls, inf_top d) (pick-clear n (first_or u2 z))

pub operand-rest : (n a b : ℕ) (R : List Sym) (w : Token) (z : Option TokenSort) {us : List Token} → Begun (ExExp atx) (s.ExpRest (xr.App a) ∷ s.ExpRest (xr.Infix n b) ∷ R) w z us → OperandS n R z w us
operand-rest n a b R w z (begun us _ (x, ls, d) (reads u1 _ h (reads u2 rest k f))) =
    let both : ExExp (inf n) ((w ∷ us ++ u1) ++ u2) × Under n (first_or rest z) = operand-more n us u1 u2 w (first_or rest z) (h (w ∷ us) (x, ls, app_one d)) k in
    subst (OperandS n R z w) (append_assoc (us ++ u1) u2 rest ∙ append_assoc us u1 (u2 ++ rest)) (operand_s ((us ++ u1) ++ u2) rest both.0 both.1 f)

-- a typed expression and its conjunction
pub data AndD (R : List Sym) (z : Option TokenSort) (w : Token) : List Token → Type 0 where
  and_d : (us rest : List Token) → AndS (w ∷ us) (first_or rest z) → Fulfils R rest z → AndD R z w (us ++ rest)

pub and-rest : (a b : ℕ) (R : List Sym) (w : Token) (z : Option TokenSort) {us : List Token} → OperandS 0 (s.ExpRest (xr.Typed a) ∷ s.ExpRest (xr.And b) ∷ R) z w us → AndD R z w us
and-rest a b R w z (operand_s us _ (x, ls, d) under (reads u1 _ h (reads u2 rest k f))) =
    subst (AndD R z w) (append_assoc (us ++ u1) u2 rest ∙ append_assoc us u1 (u2 ++ rest)) (and_d ((us ++ u1) ++ u2) rest (k (w ∷ us ++ u1) (h (w ∷ us) (x, ls, tyx_one d))) f)

pub data OrD (R : List Sym) (z : Option TokenSort) (w : Token) : List Token → Type 0 where
  or_d : (us rest : List Token) → OrS (w ∷ us) (first_or rest z) → Fulfils R rest z → OrD R z w (us ++ rest)

pub or-rest : (a : ℕ) (R : List Sym) (w : Token) (z : Option TokenSort) {us : List Token} → AndD (s.ExpRest (xr.Or a) ∷ R) z w us → OrD R z w us
or-rest a R w z (and_d us _ x (reads u1 rest h f)) =
    subst (OrD R z w) (append_assoc us u1 rest) (or_d (us ++ u1) rest (h (w ∷ us) (subst (AndS (w ∷ us)) (first-append u1 rest z) x)) f)

pub whole-rest : (a : ℕ) (w : Token) (z : Option TokenSort) {us : List Token} → OrD (s.ExpRest (xr.Handle a) ∷ []) z w us → ExprS (w ∷ us) z
whole-rest a w z (or_d us _ x (reads u1 _ h done)) =
    subst (λ ts. ExprS (w ∷ us ++ ts) z) (nil u1) (h (w ∷ us) (subst (λ y. OrS (w ∷ us) y) (first-append u1 [] z) x))

pub and-end : (w : Token) (z : Option TokenSort) {us : List Token} → AndD [] z w us → AndS (w ∷ us) z
and-end w z (and_d us _ x done) = subst (λ ts. AndS (w ∷ ts) z) (nil us) x

pub or-end : (w : Token) (z : Option TokenSort) {us : List Token} → OrD [] z w us → OrS (w ∷ us) z
or-end w z (or_d us _ x done) = subst (λ ts. OrS (w ∷ ts) z) (nil us) x

pub operand-end : (n : ℕ) (w : Token) (z : Option TokenSort) {us : List Token} → OperandS n [] z w us → ExExp (inf n) (w ∷ us) × Under n z
operand-end n w z (operand_s us _ x under done) = (over (ap (λ ts. w ∷ ts) (nil us)) x, under)
