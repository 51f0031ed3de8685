-- Types: each entry of the table derives a form of the grammar.
use Rattle.std.proofs.Common.{◌≡◌, ℕ, List, [], ◌∷◌, ◌++◌, Bool, true, false, cond, Option, refl, ap, sym, ◌∙◌, subst, append_assoc, codes}
use Rattle.sml_syntax.specs.declared.token.Token.{Token}
use Rattle.sml_syntax.specs.declared.token.TokenForm.TheVariants as f
use Rattle.sml_syntax.specs.declared.tree.Ty.{Ty}
use Rattle.sml_syntax.specs.declared.tree.TyForm.TheVariants as t
use Rattle.sml_syntax.specs.NestedTypes.{Found}
use Rattle.grammar_rules.specs.Nodes.{ty_at, extent, span_of}
use Rattle.grammar_rules.specs.Grammar.{Is, Phrase, IsMark, IsAnyName, IsTypeName, IsTyVar, variable_lack, tys_tree, conty, tupty, ty, stars, tys, conty_name, conty_var, conty_paren, conty_one, conty_several, tys_one, tys_more, stars_one, stars_more, tupty_one, tupty_several, ty_one, ty_arrow}
use Rattle.sml_grammar.specs.declared.mark.Mark.TheVariants as m
use Rattle.sml_grammar.specs.declared.token_sort.TokenSort.{TokenSort}
use Rattle.sml_grammar.specs.declared.token_sort.TokenSort.TheVariants as o
use Rattle.sml_grammar.specs.declared.symbol.Sym.{Sym}
use Rattle.sml_grammar.specs.declared.symbol.Sym.TheVariants as s
use Rattle.sml_grammar.specs.declared.symbol.TyPhrase.{TyPhrase}
use Rattle.sml_grammar.specs.declared.symbol.TyPhrase.TheVariants as tp
use Rattle.sml_grammar.specs.Marks.{same_mark}
use Rattle.sml_grammar.specs.Moves.{Takes}
use Rattle.sml_grammar.specs.Sorts.{is_mark, begins_ty, open_mark, is_type_name, is_ty_var, is_star}
use Rattle.sml_grammar.specs.Tokens.{text_of}
use Rattle.sml_grammar.specs.Takes.{ty_take}
use Rattle.sml_grammar.specs.Tables.{at_ty}
use Rattle.grammar_sound.proofs.Seen.{Seen, seen_name, seen_long, seen_ty_var, seen_mark, spelling, same-marks, marked, type_named, long_named, var_named, type_name_of, star_of}
use Rattle.grammar_sound.proofs.Sem.{Sem, Fulfils, done, reads, ExTy, ExTys, TyItemsS, no_tys, more_tys, OneTypeName, one_type_name, last, nil}
use Rattle.grammar_sound.proofs.Fine.{Fine, takes, skips, fails, by_cond, Begun, begun}

-- the same form over tokens that are grouped otherwise
pub over : {c : Phrase} {ts us : List Token} → ts ≡ us → ExTy c ts → ExTy c us
over {c} h d = subst (λ w. ExTy c w) h d

-- the token that begins a type
pub data TyStart (w : Token) : TokenSort → Type 0 where
  start_var : IsTyVar (text_of w.form) w → TyStart w o.TyVar
  start_name : IsTypeName (text_of w.form) w → TyStart w o.Name
  start_long : IsTypeName (text_of w.form) w → TyStart w o.Long
  start_open : IsMark (codes "(") w → TyStart w (o.Mark m.Open)

ty-start : (w : Token) (sort : TokenSort) → Seen w.form sort → begins_ty sort ≡ true → TyStart w sort
unfolding begins_ty open_mark
ty-start w _ (seen_name e n) h = start_name (type_named w e n)
ty-start w _ (seen_long e) h = start_long (long_named w e)
ty-start w _ (seen_ty_var e) h = start_var (var_named w e)
ty-start w _ (seen_mark mark e) h = go (same_mark mark m.Open) refl h
  where
    go : (b : Bool) → same_mark mark m.Open ≡ b → cond b true false ≡ true → TyStart w (o.Mark mark)
    go true q h = let same : mark ≡ m.Open = same-marks mark m.Open q in subst (λ k. TyStart w (o.Mark k)) (sym same) (start_open (record { is = e ∙ ap (λ k. f.Mark (spelling k)) same }))
    go false q h = cc
ty-start w _ _ h = cc

-- what follows a type of one word or in parentheses
whole-begun : (v : Bool) (w : Token) (a b c : ℕ) (z : Option TokenSort) {us : List Token} → Begun (ExTy (conty v)) (s.Ty (tp.ArgumentRest a) ∷ s.Ty (tp.StarRest v b) ∷ s.Ty (tp.ArrowRest v c) ∷ []) w z us → ExTy (ty v) (w ∷ us)
whole-begun v w a b c z (begun us _ d (reads u1 _ h (reads u2 r2 k f))) =
    let grown : ExTy (tupty v) ((w ∷ us ++ u1) ++ u2) = k (w ∷ us ++ u1) (h v (w ∷ us) d) in
    over (append_assoc (w ∷ us ++ u1) u2 r2 ∙ append_assoc (w ∷ us) u1 (u2 ++ r2)) (last f ((w ∷ us ++ u1) ++ u2) grown)

part-begun : (v : Bool) (w : Token) (a : ℕ) (z : Option TokenSort) {us : List Token} → Begun (ExTy (conty v)) (s.Ty (tp.ArgumentRest a) ∷ []) w z us → ExTy (conty v) (w ∷ us)
part-begun v w a z (begun us rest d f) = last f v (w ∷ us) d

-- a type in parentheses
open-begun : (v : Bool) (w : Token) (a : ℕ) (R : List Sym) (z : Option TokenSort) {us : List Token} → IsMark (codes "(") w → Fulfils (s.Ty (tp.Whole v) ∷ s.Ty (tp.AfterFirst v a) ∷ R) us z → Begun (ExTy (conty v)) R w z us
open-begun v w a R z i (reads u1 _ d (reads u2 r h f)) = subst (Begun (ExTy (conty v)) R w z) (append_assoc u1 u2 r) (begun (u1 ++ u2) r (h w u1 i d) f)

var-form : (v : Bool) (w : Token) → IsTyVar (text_of w.form) w → ExTy (conty v) (w ∷ [])
var-form v w h = (ty_at w.span (t.Var (text_of w.form)), variable_lack v w, conty_var w (text_of w.form) h)

name-form : (v : Bool) (w : Token) → IsTypeName (text_of w.form) w → ExTy (conty v) (w ∷ [])
name-form v w h = (ty_at w.span (t.Con (text_of w.form) []), [], conty_name w (text_of w.form) h)

whole-fine : (v : Bool) (w : Token) (sort : TokenSort) → TyStart w sort → Fine (s.Ty (tp.Whole v)) w sort (Takes (ty_take v sort w ++ (s.Ty (tp.ArgumentRest w.span.from) ∷ s.Ty (tp.StarRest v w.span.from) ∷ s.Ty (tp.ArrowRest v w.span.from) ∷ [])))
unfolding ty_take is_ty_var is_type_name
whole-fine true w _ (start_var h) = takes (λ us z f. whole-begun true w _ _ _ z (begun [] us (var-form true w h) f)) (λ st g. g) (λ n l. refl)
whole-fine false w _ (start_var h) = takes (λ us z f. whole-begun false w _ _ _ z (begun [] us (var-form false w h) f)) (λ st g. g) (λ n l. refl)
whole-fine v w _ (start_name h) = takes (λ us z f. whole-begun v w _ _ _ z (begun [] us (name-form v w h) f)) (λ st g. g) (λ n l. refl)
whole-fine v w _ (start_long h) = takes (λ us z f. whole-begun v w _ _ _ z (begun [] us (name-form v w h) f)) (λ st g. g) (λ n l. refl)
whole-fine v w _ (start_open h) = takes (λ us z f. whole-begun v w _ _ _ z (open-begun v w _ _ z h f)) (λ st g. g) (λ n l. refl)

part-fine : (v : Bool) (w : Token) (sort : TokenSort) → TyStart w sort → Fine (s.Ty (tp.Part v)) w sort (Takes (ty_take v sort w ++ (s.Ty (tp.ArgumentRest w.span.from) ∷ [])))
unfolding ty_take is_ty_var is_type_name
part-fine true w _ (start_var h) = takes (λ us z f. part-begun true w _ z (begun [] us (var-form true w h) f)) (λ st g. g) (λ n l. refl)
part-fine false w _ (start_var h) = takes (λ us z f. part-begun false w _ z (begun [] us (var-form false w h) f)) (λ st g. g) (λ n l. refl)
part-fine v w _ (start_name h) = takes (λ us z f. part-begun v w _ z (begun [] us (name-form v w h) f)) (λ st g. g) (λ n l. refl)
part-fine v w _ (start_long h) = takes (λ us z f. part-begun v w _ z (begun [] us (name-form v w h) f)) (λ st g. g) (λ n l. refl)
part-fine v w _ (start_open h) = takes (λ us z f. part-begun v w _ z (open-begun v w _ _ z h f)) (λ st g. g) (λ n l. refl)

-- a type name behind its argument
argument-takes : (w : Token) (from : ℕ) (us : List Token) (z : Option TokenSort) → IsTypeName (text_of w.form) w → Fulfils (s.Ty (tp.ArgumentRest from) ∷ []) us z → Sem (s.Ty (tp.ArgumentRest from)) (w ∷ us) z
argument-takes w from us z i f = λ v ts0 d. over (append_assoc ts0 (w ∷ []) us) (last f v (ts0 ++ w ∷ []) (ty_at (extent (ts0 ++ w ∷ [])) (t.Con (text_of w.form) (d.0 ∷ [])), d.1, conty_one w (text_of w.form) d.2 i))

pub over-tys : {c : Phrase} {ts us : List Token} → ts ≡ us → ExTys c ts → ExTys c us
over-tys {c} h d = subst (λ w. ExTys c w) h d

-- a star between two
star-more : (v : Bool) (w : Token) (ts0 us : List Token) → IsAnyName (codes "*") w → ExTy (conty v) ts0 → ExTys (stars v) us → (first next : Ty) × (more : List Ty) × (ls : List Found) × Is (stars v) (ts0 ++ w ∷ us) (tys_tree (first ∷ next ∷ more)) ls
star-more v w ts0 us i (x, ls, d) (y, more, ms, e) = (x, y, more, ls ++ ms, stars_more w d i e)

stars-of : (v : Bool) (u1 u2 : List Token) (z : Option TokenSort) → ExTy (conty v) u1 → Fulfils (s.Ty (tp.StarMore v) ∷ []) u2 z → ExTys (stars v) (u1 ++ u2)
stars-of v u1 u2 z d f = last f u1 d

star-takes : (v : Bool) (w : Token) (from : ℕ) (us : List Token) (z : Option TokenSort) → IsAnyName (codes "*") w → Fulfils (s.Ty (tp.Part v) ∷ s.Ty (tp.StarMore v) ∷ []) us z → Sem (s.Ty (tp.StarRest v from)) (w ∷ us) z
star-takes v w from _ z i (reads u1 u2 d f) = λ ts0 x.
    let all : (first next : Ty) × (more : List Ty) × (ls : List Found) × Is (stars v) (ts0 ++ w ∷ (u1 ++ u2)) (tys_tree (first ∷ next ∷ more)) ls = star-more v w ts0 (u1 ++ u2) i x (stars-of v u1 u2 z d f) in
    (ty_at (extent (ts0 ++ w ∷ (u1 ++ u2))) (t.Tuple (all.0 ∷ all.1 ∷ all.2)), all.3, tupty_several all.4)

star-again : (v : Bool) (w : Token) (us : List Token) (z : Option TokenSort) → IsAnyName (codes "*") w → Fulfils (s.Ty (tp.Part v) ∷ s.Ty (tp.StarMore v) ∷ []) us z → Sem (s.Ty (tp.StarMore v)) (w ∷ us) z
star-again v w _ z i (reads u1 u2 d f) = λ ts0 x.
    let all : (first next : Ty) × (more : List Ty) × (ls : List Found) × Is (stars v) (ts0 ++ w ∷ (u1 ++ u2)) (tys_tree (first ∷ next ∷ more)) ls = star-more v w ts0 (u1 ++ u2) i x (stars-of v u1 u2 z d f) in
    (all.0, all.1 ∷ all.2, all.3, all.4)

arrow-takes : (v : Bool) (w : Token) (from : ℕ) (us : List Token) (z : Option TokenSort) → IsMark (codes "->") w → Fulfils (s.Ty (tp.Whole v) ∷ []) us z → Sem (s.Ty (tp.ArrowRest v from)) (w ∷ us) z
arrow-takes v w from us z i f = λ ts0 x. let y : ExTy (ty v) us = last f in (ty_at (extent (ts0 ++ w ∷ us)) (t.Arrow x.0 y.0), x.1 ++ y.1, ty_arrow w x.2 i y.2)

-- several types in parentheses: one more behind a comma
data MoreTys (v : Bool) : List Token → Type 0 where
  more_tys_s : (comma closing word : Token) (name : List ℕ) (us : List Token) → IsMark (codes ",") comma → ExTys (tys v) us → IsMark (codes ")") closing → IsTypeName name word → MoreTys v (comma ∷ us ++ closing ∷ word ∷ [])

items-more : (v : Bool) (w : Token) (u : List Token) {rest : List Token} → IsMark (codes ",") w → ExTy (ty v) u → TyItemsS v rest → MoreTys v (w ∷ u ++ rest)
items-more v w u i (x, ls, d) (no_tys closing name_ name j k) = more_tys_s w closing name_ name u i (x, [], ls, tys_one d) j k
items-more v w u i (x, ls, d) (more_tys comma closing name_ name us h (y, more, ms, e) j k) =
    subst (λ ts. MoreTys v (w ∷ ts)) (append_assoc u (comma ∷ us) (closing ∷ name_ ∷ [])) (more_tys_s w closing name_ name (u ++ comma ∷ us) i (x, y ∷ more, ls ++ ms, tys_more comma d h e) j k)

items-takes : (v : Bool) (w : Token) (from : ℕ) (us : List Token) (z : Option TokenSort) → IsMark (codes ",") w → Fulfils (s.Ty (tp.Whole v) ∷ s.Ty (tp.More v from) ∷ []) us z → MoreTys v (w ∷ us)
items-takes v w from _ z i (reads u1 u2 d f) = items-more v w u1 i d (last f)

items-of : (v : Bool) {ts : List Token} → MoreTys v ts → TyItemsS v ts
items-of v (more_tys_s comma closing name_ name us h d j k) = more_tys comma closing name_ name us h d j k

several : (v : Bool) (opening : Token) (ts0 : List Token) {rest : List Token} → IsMark (codes "(") opening → ExTy (ty v) ts0 → MoreTys v rest → ExTy (conty v) (opening ∷ ts0 ++ rest)
several v opening ts0 h (x, ls, d) (more_tys_s comma closing name_ name us l (y, more, ms, e) j k) =
    over (ap (λ ts. opening ∷ ts) (append_assoc ts0 (comma ∷ us) (closing ∷ name_ ∷ []))) (ty_at (span_of opening.span.from name_.span.to) (t.Con name (x ∷ y ∷ more)), ls ++ ms, conty_several opening closing name_ name h (tys_more comma d l e) j k)

first-takes : (v : Bool) (w : Token) (from : ℕ) (us : List Token) (z : Option TokenSort) → IsMark (codes ",") w → Fulfils (s.Ty (tp.Whole v) ∷ s.Ty (tp.More v from) ∷ []) us z → Sem (s.Ty (tp.AfterFirst v from)) (w ∷ us) z
first-takes v w from us z i f = λ opening ts0 h d. several v opening ts0 h d (items-takes v w from us z i f)

close-takes : (v : Bool) (w : Token) (from : ℕ) (us : List Token) (z : Option TokenSort) → IsMark (codes ")") w → Fulfils [] us z → Sem (s.Ty (tp.AfterFirst v from)) (w ∷ us) z
close-takes v w from _ z i done = λ opening ts0 h d. (d.0, d.1, conty_paren opening w h d.2 i)

name-takes : (v : Bool) (w : Token) (from : ℕ) (us : List Token) (z : Option TokenSort) → IsMark (codes ")") w → Fulfils (s.Ty (tp.Name from) ∷ []) us z → TyItemsS v (w ∷ us)
name-takes v w from us z i f = go (last f)
  where
    go : {us : List Token} → OneTypeName us → TyItemsS v (w ∷ us)
    go (one_type_name name_ name h) = no_tys w name_ name i h

one-takes : (w : Token) (us : List Token) (z : Option TokenSort) → IsTypeName (text_of w.form) w → Fulfils [] us z → OneTypeName (w ∷ us)
one-takes w _ z i done = one_type_name w (text_of w.form) i

pub fine_ty : (phrase : TyPhrase) (w : Token) (sort : TokenSort) → Seen w.form sort → Fine (s.Ty phrase) w sort (at_ty phrase sort w)
fine_ty (tp.Whole v) w sort e = by_cond (begins_ty sort) (λ h. whole-fine v w sort (ty-start w sort e h)) (λ h. fails)
fine_ty (tp.Part v) w sort e = by_cond (begins_ty sort) (λ h. part-fine v w sort (ty-start w sort e h)) (λ h. fails)
fine_ty (tp.ArgumentRest from) w sort e = by_cond (is_type_name sort) (λ h. takes (λ us z f. argument-takes w from us z (type_name_of w sort e h) f) (λ st g. g) (λ n l. refl)) (λ h. skips (λ v ts0 d. over (nil ts0) d))
fine_ty (tp.StarRest v from) w sort e = by_cond (is_star sort) (λ h. takes (λ us z f. star-takes v w from us z (star_of w sort e h) f) (λ st g. g) (λ n l. refl)) (λ h. skips (λ ts0 d. over (nil ts0) (d.0, d.1, tupty_one (stars_one d.2))))
fine_ty (tp.StarMore v) w sort e = by_cond (is_star sort) (λ h. takes (λ us z f. star-again v w us z (star_of w sort e h) f) (λ st g. g) (λ n l. refl)) (λ h. skips (λ ts0 d. over-tys (nil ts0) (d.0, [], d.1, stars_one d.2)))
fine_ty (tp.ArrowRest v from) w sort e = by_cond (is_mark m.Arrow sort) (λ h. takes (λ us z f. arrow-takes v w from us z (marked m.Arrow w sort e h) f) (λ st g. g) (λ n l. refl)) (λ h. skips (λ ts0 d. over (nil ts0) (d.0, d.1, ty_one d.2)))
fine_ty (tp.AfterFirst v from) w sort e = by_cond (is_mark m.Close sort) (λ h. takes (λ us z f. close-takes v w from us z (marked m.Close w sort e h) f) (λ st g. g) (λ n l. refl))
    (λ k. by_cond (is_mark m.Comma sort) (λ h. takes (λ us z f. first-takes v w from us z (marked m.Comma w sort e h) f) (λ st g. g) (λ n l. refl)) (λ h. fails))
fine_ty (tp.More v from) w sort e = by_cond (is_mark m.Comma sort) (λ h. takes (λ us z f. items-of v (items-takes v w from us z (marked m.Comma w sort e h) f)) (λ st g. g) (λ n l. refl))
    (λ k. by_cond (is_mark m.Close sort) (λ h. takes (λ us z f. name-takes v w from us z (marked m.Close w sort e h) f) (λ st g. g) (λ n l. refl)) (λ h. fails))
fine_ty (tp.Name from) w sort e = by_cond (is_type_name sort) (λ h. takes (λ us z f. one-takes w us z (type_name_of w sort e h) f) (λ st g. g) (λ n l. refl)) (λ h. fails)
