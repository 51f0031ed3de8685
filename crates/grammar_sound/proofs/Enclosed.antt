-- Expressions in brackets, and the inside of a quotation.
use Rattle.std.proofs.Common.{◌≡◌, ℕ, suc, ◌⊎◌, inl, inr, List, [], ◌∷◌, ◌++◌, Bool, true, Option, None, refl, ap, sym, ◌∙◌, subst, append_assoc, codes}
use Rattle.sml_syntax.specs.declared.token.Token.{Token}
use Rattle.sml_syntax.specs.declared.token.TokenForm.TheVariants as f
use Rattle.sml_syntax.specs.declared.tree.ExpForm.TheVariants as ef
use Rattle.sml_syntax.specs.declared.tree.Piece.TheVariants as piece
use Rattle.grammar_rules.specs.Nodes.{exp_at, span_of, name_place}
use Rattle.grammar_rules.specs.Grammar.{Is, IsMark, text_tree, atx, text_part, antiquoted, expr, atx_unit, atx_paren, atx_tuple, atx_seq, atx_no_list, atx_list, quoted_last, quoted_more, no_text, some_text, anti_name, anti_exp, exps_more}
use Rattle.sml_grammar.specs.declared.mark.Mark.TheVariants as m
use Rattle.sml_grammar.specs.declared.token_sort.TokenSort.{TokenSort}
use Rattle.sml_grammar.specs.declared.symbol.Sym.{Sym}
use Rattle.sml_grammar.specs.declared.symbol.Sym.TheVariants as s
use Rattle.sml_grammar.specs.declared.symbol.ExpPhrase.TheVariants as xp
use Rattle.sml_grammar.specs.declared.symbol.ExpItems.{ExpItems}
use Rattle.sml_grammar.specs.declared.symbol.ExpItems.TheVariants as xi
use Rattle.sml_grammar.specs.declared.symbol.Quoted.{Quoted}
use Rattle.sml_grammar.specs.declared.symbol.Quoted.TheVariants as q
use Rattle.sml_grammar.specs.Sorts.{is_mark, begins_exp, is_plain, is_anti, is_anti_from, is_anti_to, is_quote_to}
use Rattle.sml_grammar.specs.Tokens.{text_of}
use Rattle.sml_grammar.specs.Takes.{exp_take}
use Rattle.sml_grammar.specs.Tables.{at_exp_items, at_quoted}
use Rattle.grammar_sound.proofs.Seen.{Seen, seen_plain, seen_anti, seen_anti_from, seen_anti_to, seen_quote_to, marked}
use Rattle.grammar_sound.proofs.Sem.{Sem, Fulfils, done, reads, first_or, ExExp, OneForm, one_form, expr_s, ItemsS, no_items, more_items, QuotedS, quoted_s, last}
use Rattle.grammar_sound.proofs.Fine.{Fine, takes, fails, by_cond, Good, Quiet, fin, low}
use Rattle.grammar_sound.proofs.Expressions.{over, Closed, closed, close_items, quiet_close, quiet_bracket, quiet_anti, quiet_end}
use Rattle.grammar_sound.proofs.Rests.{low_append, ExpStart, exp_start, exp_good, exp_low, ExpBegun, exp_begun, exp_began}

-- a stack behind an expression that begins with this token
pub exp_then_good : (w : Token) (sort : TokenSort) (R st : List Sym) → ExpStart w sort → Quiet (first_or (fin (R ++ st)) None) → Good (R ++ st) → Good ((exp_take sort w ++ R) ++ st)
exp_then_good w sort R st b q g = subst Good (sym (append_assoc (exp_take sort w) R st)) (exp_good w sort (R ++ st) b q g)

pub exp_then_low : (w : Token) (sort : TokenSort) (n : ℕ) (R : List Sym) → ExpStart w sort → low n R ≡ true → low n (exp_take sort w ++ R) ≡ true
exp_then_low w sort n R b h = low_append n (exp_take sort w) R (exp_low w sort n b) h

over-exps : {between last_ : List ℕ} {ts us : List Token} → ts ≡ us → ItemsS between last_ ts → ItemsS between last_ us
over-exps {between} {last_} h d = subst (ItemsS between last_) h d

more-sound : (between last_ : List ℕ) (w : Token) (o : Bool) (u : List Token) {rest : List Token} → IsMark between w → ExExp (expr o) u → ItemsS between last_ rest → ItemsS between last_ (w ∷ u ++ rest)
more-sound between last_ w o u i x d = go (close_items between last_ o u x d)
  where
    go : {ts : List Token} → Closed between last_ ts → ItemsS between last_ (w ∷ ts)
    go (closed us closing d k) = more_items w closing us i d k

items-takes : (between last_ : List ℕ) (w : Token) (x : ExpItems) (us : List Token) (z : Option TokenSort) → ((ts : List Token) → Sem (s.ExpItems x) ts z → ItemsS between last_ ts) → IsMark between w → Fulfils (s.Exp xp.Whole ∷ s.ExpItems x ∷ []) us z → ItemsS between last_ (w ∷ us)
items-takes between last_ w x _ z k i (reads u1 u2 (expr_s o y ends) f) = more-sound between last_ w o u1 i y (k u2 (last f))

close-takes : (between last_ : List ℕ) (w : Token) (us : List Token) (z : Option TokenSort) → IsMark last_ w → Fulfils [] us z → ItemsS between last_ (w ∷ us)
close-takes between last_ w _ z i done = no_items w i

-- in parentheses
tuple-form : (opening : Token) (o : Bool) (u : List Token) {rest : List Token} → IsMark (codes "(") opening → ExExp (expr o) u → ItemsS (codes ",") (codes ")") rest → ExExp atx (opening ∷ u ++ rest)
tuple-form opening o u i (x, ls, d) (no_items closing j) = (x, ls, atx_paren opening closing i d j)
tuple-form opening o u i (x, ls, d) (more_items comma closing us h (y, more, ms, k) j) =
    over (ap (λ ts. opening ∷ ts) (append_assoc u (comma ∷ us) (closing ∷ []))) (exp_at (span_of opening.span.from closing.span.to) (ef.Tuple (x ∷ y ∷ more)), ls ++ ms, atx_tuple opening closing i (exps_more comma d h k) j)

seq-form : (opening : Token) (o : Bool) (u : List Token) {rest : List Token} → IsMark (codes "(") opening → ExExp (expr o) u → ItemsS (codes ";") (codes ")") rest → ExExp atx (opening ∷ u ++ rest)
seq-form opening o u i (x, ls, d) (no_items closing j) = (x, ls, atx_paren opening closing i d j)
seq-form opening o u i (x, ls, d) (more_items semicolon closing us h (y, more, ms, k) j) =
    over (ap (λ ts. opening ∷ ts) (append_assoc u (semicolon ∷ us) (closing ∷ []))) (exp_at (span_of opening.span.from closing.span.to) (ef.Seq (x ∷ y ∷ more)), ls ++ ms, atx_seq opening closing i (exps_more semicolon d h k) j)

list-form : (opening : Token) {rest : List Token} → IsMark (codes "[") opening → Closed (codes ",") (codes "]") rest → ExExp atx (opening ∷ rest)
list-form opening i (closed us closing (x, more, ls, d) j) = (exp_at (span_of opening.span.from closing.span.to) (ef.List (x ∷ more)), ls, atx_list opening closing i d j)

first-parens : (w : Token) (a : ℕ) (z : Option TokenSort) {us : List Token} → ExpBegun (s.ExpItems (xi.AfterFirst a) ∷ []) w z us → (opening : Token) → IsMark (codes "(") opening → ExExp atx (opening ∷ w ∷ us)
first-parens w a z (exp_begun us rest (expr_s o x ends) f) opening i = go (last f)
  where
    go : ItemsS (codes ",") (codes ")") rest ⊎ ItemsS (codes ";") (codes ")") rest → ExExp atx (opening ∷ w ∷ us ++ rest)
    go (inl d) = tuple-form opening o (w ∷ us) i x d
    go (inr d) = seq-form opening o (w ∷ us) i x d

first-brackets : (w : Token) (a : ℕ) (z : Option TokenSort) {us : List Token} → ExpBegun (s.ExpItems (xi.List a) ∷ []) w z us → (opening : Token) → IsMark (codes "[") opening → ExExp atx (opening ∷ w ∷ us)
first-brackets w a z (exp_begun us rest (expr_s o x ends) f) opening i = list-form opening i (close_items (codes ",") (codes "]") o (w ∷ us) x (last f))

unit-takes : (w : Token) (us : List Token) (z : Option TokenSort) → IsMark (codes ")") w → Fulfils [] us z → (opening : Token) → IsMark (codes "(") opening → ExExp atx (opening ∷ w ∷ us)
unit-takes w _ z j done opening i = (exp_at (span_of opening.span.from w.span.to) ef.Unit, [], atx_unit opening w i j)

no-list : (w : Token) (us : List Token) (z : Option TokenSort) → IsMark (codes "]") w → Fulfils [] us z → (opening : Token) → IsMark (codes "[") opening → ExExp atx (opening ∷ w ∷ us)
no-list w _ z j done opening i = (exp_at (span_of opening.span.from w.span.to) (ef.List []), [], atx_no_list opening w i j)

pub fine_exp_items : (phrase : ExpItems) (w : Token) (sort : TokenSort) → Seen w.form sort → Fine (s.ExpItems phrase) w sort (at_exp_items phrase sort w)
fine_exp_items (xi.Opened from) w sort e = by_cond (is_mark m.Close sort) (λ h. takes (λ us z f. unit-takes w us z (marked m.Close w sort e h) f) (λ st g. g) (λ n l. refl))
    (λ k. by_cond (begins_exp sort)
    (λ h. takes (λ us z f. first-parens w from z (exp_began w sort (s.ExpItems (xi.AfterFirst from) ∷ []) z us (exp_start w sort e h) f))
    (λ st g. exp_then_good w sort (s.ExpItems (xi.AfterFirst from) ∷ []) st (exp_start w sort e h) quiet_close g)
    (λ n l. exp_then_low w sort (suc n) (s.ExpItems (xi.AfterFirst from) ∷ []) (exp_start w sort e h) refl))
    (λ h. fails))
fine_exp_items (xi.AfterFirst from) w sort e = by_cond (is_mark m.Close sort) (λ h. takes (λ us z f. inl (close-takes (codes ",") (codes ")") w us z (marked m.Close w sort e h) f)) (λ st g. g) (λ n l. refl))
    (λ k. by_cond (is_mark m.Comma sort) (λ h. takes (λ us z f. inl (items-takes (codes ",") (codes ")") w (xi.Tuple from) us z (λ ts x. x) (marked m.Comma w sort e h) f)) (λ st g. (quiet_close, g)) (λ n l. refl))
    (λ k. by_cond (is_mark m.Semicolon sort) (λ h. takes (λ us z f. inr (items-takes (codes ";") (codes ")") w (xi.Seq from) us z (λ ts x. x) (marked m.Semicolon w sort e h) f)) (λ st g. (quiet_close, g)) (λ n l. refl)) (λ h. fails)))
fine_exp_items (xi.Tuple from) w sort e = by_cond (is_mark m.Comma sort) (λ h. takes (λ us z f. items-takes (codes ",") (codes ")") w (xi.Tuple from) us z (λ ts x. x) (marked m.Comma w sort e h) f) (λ st g. (quiet_close, g)) (λ n l. refl))
    (λ k. by_cond (is_mark m.Close sort) (λ h. takes (λ us z f. close-takes (codes ",") (codes ")") w us z (marked m.Close w sort e h) f) (λ st g. g) (λ n l. refl)) (λ h. fails))
fine_exp_items (xi.Seq from) w sort e = by_cond (is_mark m.Semicolon sort) (λ h. takes (λ us z f. items-takes (codes ";") (codes ")") w (xi.Seq from) us z (λ ts x. x) (marked m.Semicolon w sort e h) f) (λ st g. (quiet_close, g)) (λ n l. refl))
    (λ k. by_cond (is_mark m.Close sort) (λ h. takes (λ us z f. close-takes (codes ";") (codes ")") w us z (marked m.Close w sort e h) f) (λ st g. g) (λ n l. refl)) (λ h. fails))
fine_exp_items (xi.OpenedList from) w sort e = by_cond (is_mark m.CloseBracket sort) (λ h. takes (λ us z f. no-list w us z (marked m.CloseBracket w sort e h) f) (λ st g. g) (λ n l. refl))
    (λ k. by_cond (begins_exp sort)
    (λ h. takes (λ us z f. first-brackets w from z (exp_began w sort (s.Do _ ∷ s.ExpItems (xi.List from) ∷ []) z us (exp_start w sort e h) f))
    (λ st g. exp_then_good w sort (s.Do _ ∷ s.ExpItems (xi.List from) ∷ []) st (exp_start w sort e h) quiet_bracket g)
    (λ n l. exp_then_low w sort (suc n) (s.Do _ ∷ s.ExpItems (xi.List from) ∷ []) (exp_start w sort e h) refl))
    (λ h. fails))
fine_exp_items (xi.List from) w sort e = by_cond (is_mark m.Comma sort) (λ h. takes (λ us z f. items-takes (codes ",") (codes "]") w (xi.List from) us z (λ ts x. x) (marked m.Comma w sort e h) f) (λ st g. (quiet_bracket, g)) (λ n l. refl))
    (λ k. by_cond (is_mark m.CloseBracket sort) (λ h. takes (λ us z f. close-takes (codes ",") (codes "]") w us z (marked m.CloseBracket w sort e h) f) (λ st g. g) (λ n l. refl)) (λ h. fails))
fine_exp_items xi.Let w sort e = by_cond (is_mark m.Semicolon sort) (λ h. takes (λ us z f. items-takes (codes ";") (codes "end") w xi.Let us z (λ ts x. x) (marked m.Semicolon w sort e h) f) (λ st g. (quiet_end, g)) (λ n l. refl))
    (λ k. by_cond (is_mark m.End sort) (λ h. takes (λ us z f. close-takes (codes ";") (codes "end") w us z (marked m.End w sort e h) f) (λ st g. g) (λ n l. refl)) (λ h. fails))

-- quotations: a text, an antiquotation and the rest
anti-more : (ts0 us : List Token) (text : List ℕ) {rest : List Token} → Is text_part ts0 (text_tree text) [] → ExExp antiquoted us → QuotedS rest → QuotedS (ts0 ++ (us ++ rest))
anti-more ts0 us text h (x, ls, d) (quoted_s to ws pieces ms k i) =
    subst QuotedS (append_assoc (ts0 ++ us) ws (to ∷ []) ∙ append_assoc ts0 us (ws ++ to ∷ []))
    (quoted_s to ((ts0 ++ us) ++ ws) (piece.Plain text ∷ piece.Anti x ∷ pieces) (ls ++ ms) (quoted_more h d k) i)

anti-exp : (w : Token) (ts0 us : List Token) (text : List ℕ) (z : Option TokenSort) → w.form ≡ f.AntiFrom → Is text_part ts0 (text_tree text) [] → Fulfils (s.Exp xp.Whole ∷ s.Quoted q.AntiEnd ∷ s.Quoted q.Any ∷ []) us z → QuotedS (ts0 ++ w ∷ us)
anti-exp w ts0 _ text z e h (reads u _ (expr_s o (x, ls, d) ends) (reads _ rest (one_form to i) f)) =
    subst (λ ts. QuotedS (ts0 ++ w ∷ ts)) (append_assoc u (to ∷ []) rest) (anti-more ts0 (w ∷ u ++ to ∷ []) text h (x, ls, anti_exp w to e d i) (last f))

anti-named : (w : Token) (ts0 us : List Token) (text : List ℕ) (z : Option TokenSort) → w.form ≡ f.Anti (text_of w.form) → Is text_part ts0 (text_tree text) [] → Fulfils (s.Quoted q.Any ∷ []) us z → QuotedS (ts0 ++ w ∷ us)
anti-named w ts0 us text z e h f = anti-more ts0 (w ∷ []) text h (exp_at (span_of (name_place w.span) w.span.to) (ef.Name (text_of w.form)), [], anti_name w (text_of w.form) e) (last f)

quote-end : (w : Token) (ts0 us : List Token) (text : List ℕ) (z : Option TokenSort) → w.form ≡ f.QuoteTo → Is text_part ts0 (text_tree text) [] → Fulfils [] us z → QuotedS (ts0 ++ w ∷ us)
quote-end w ts0 _ text z e h done = quoted_s w ts0 (piece.Plain text ∷ []) [] (quoted_last h) e

plain-takes : (w : Token) (sort : TokenSort) (us : List Token) (z : Option TokenSort) → Seen w.form sort → is_plain sort ≡ true → Fulfils (s.Quoted q.AfterPlain ∷ []) us z → QuotedS (w ∷ us)
unfolding is_plain
plain-takes w _ us z (seen_plain byte bytes e) h f = last f (w ∷ []) (byte ∷ bytes) (some_text w byte bytes e)
plain-takes w _ us z _ h f = cc

anti-of : (w : Token) (sort : TokenSort) → Seen w.form sort → is_anti sort ≡ true → w.form ≡ f.Anti (text_of w.form)
unfolding is_anti
anti-of w _ (seen_anti e) h = e
anti-of w _ _ h = cc

anti-from : (w : Token) (sort : TokenSort) → Seen w.form sort → is_anti_from sort ≡ true → w.form ≡ f.AntiFrom
unfolding is_anti_from
anti-from w _ (seen_anti_from e) h = e
anti-from w _ _ h = cc

anti-to : (w : Token) (sort : TokenSort) → Seen w.form sort → is_anti_to sort ≡ true → w.form ≡ f.AntiTo
unfolding is_anti_to
anti-to w _ (seen_anti_to e) h = e
anti-to w _ _ h = cc

quote-to : (w : Token) (sort : TokenSort) → Seen w.form sort → is_quote_to sort ≡ true → w.form ≡ f.QuoteTo
unfolding is_quote_to
quote-to w _ (seen_quote_to e) h = e
quote-to w _ _ h = cc

one-takes : (w : Token) (us : List Token) (z : Option TokenSort) → w.form ≡ f.AntiTo → Fulfils [] us z → OneForm f.AntiTo (w ∷ us)
one-takes w _ z e done = one_form w e

pub fine_quoted : (phrase : Quoted) (w : Token) (sort : TokenSort) → Seen w.form sort → Fine (s.Quoted phrase) w sort (at_quoted phrase sort w)
fine_quoted q.Any w sort e = by_cond (is_plain sort) (λ h. takes (λ us z f. plain-takes w sort us z e h f) (λ st g. g) (λ n l. refl))
    (λ k. by_cond (is_anti sort) (λ h. takes (λ us z f. anti-named w [] us [] z (anti-of w sort e h) no_text f) (λ st g. g) (λ n l. refl))
    (λ k. by_cond (is_anti_from sort) (λ h. takes (λ us z f. anti-exp w [] us [] z (anti-from w sort e h) no_text f) (λ st g. (quiet_anti, g)) (λ n l. refl))
    (λ k. by_cond (is_quote_to sort) (λ h. takes (λ us z f. quote-end w [] us [] z (quote-to w sort e h) no_text f) (λ st g. g) (λ n l. refl)) (λ h. fails))))
fine_quoted q.AfterPlain w sort e = by_cond (is_anti sort) (λ h. takes (λ us z f. λ ts0 text d. anti-named w ts0 us text z (anti-of w sort e h) d f) (λ st g. g) (λ n l. refl))
    (λ k. by_cond (is_anti_from sort) (λ h. takes (λ us z f. λ ts0 text d. anti-exp w ts0 us text z (anti-from w sort e h) d f) (λ st g. (quiet_anti, g)) (λ n l. refl))
    (λ k. by_cond (is_quote_to sort) (λ h. takes (λ us z f. λ ts0 text d. quote-end w ts0 us text z (quote-to w sort e h) d f) (λ st g. g) (λ n l. refl)) (λ h. fails)))
fine_quoted q.AntiEnd w sort e = by_cond (is_anti_to sort) (λ h. takes (λ us z f. one-takes w us z (anti-to w sort e h) f) (λ st g. g) (λ n l. refl)) (λ h. fails)
