-- Types, as the machine reads them.
use Rattle.std.proofs.Common.{◌≡◌, ℕ, List, [], ◌∷◌, ◌++◌, Bool, true, false, refl, ap, sym, ◌∙◌, subst, Some, codes, cond}
use Rattle.sml_syntax.specs.declared.token.Token.{Token}
use Rattle.grammar_rules.specs.Nodes.{first_of, last_of, last_after}
use Rattle.grammar_rules.specs.Grammar.{IsMark, IsAnyName, IsTypeName, IsTyVar}
use Rattle.sml_grammar.specs.declared.mark.Mark.{Mark}
use Rattle.sml_grammar.specs.declared.mark.Mark.TheVariants as m
use Rattle.sml_grammar.specs.declared.token_sort.TokenSort.{TokenSort}
use Rattle.sml_grammar.specs.declared.token_sort.TokenSort.TheVariants as o
use Rattle.sml_grammar.specs.declared.act.Made.{Made}
use Rattle.sml_grammar.specs.declared.act.Act.TheVariants as a
use Rattle.sml_grammar.specs.declared.act.TyAct.TheVariants as y
use Rattle.sml_grammar.specs.declared.symbol.Sym.{Sym}
use Rattle.sml_grammar.specs.declared.symbol.Sym.TheVariants as s
use Rattle.sml_grammar.specs.declared.symbol.TyPhrase.TheVariants as tp
use Rattle.sml_grammar.specs.Marks.{same_mark, mark_number}
use Rattle.sml_grammar.specs.Sorts.{sort_of, is_mark, is_ty_var, is_type_name, is_star, begins_ty, open_mark}
use Rattle.sml_grammar.specs.Tokens.{text_of}
use Rattle.sml_grammar.specs.Moves.{Takes, Skips}
use Rattle.sml_grammar.specs.Takes.{ty_take, var_take}
use Rattle.sml_grammar.specs.Machine.{made}
use Rattle.grammar_trees.specs.Exact.{move_at}
use Rattle.grammar_trees.specs.Tells.{var_acts}
use Rattle.grammar_trees.specs.Ends.{Skipped, TuptyEnds, TyEnds}
use Rattle.grammar_trees.specs.Claims.{Comes, Starting, starting, ContyC, StarsC, TuptyC, TyC, TysC}
use Rattle.grammar_trees.proofs.Words
use Rattle.grammar_trees.proofs.Words.{TypeSort, at_name, at_long, type-sort, type-text}
use Rattle.grammar_trees.proofs.Steps.{stays, skips, acts, acts-at, takes, takes-as, then, lastly, ends-at, grouped, pushed, stacked, at-word, after-both}

-- what a type may begin with
name-take : {sort : TokenSort} (v : Bool) (word : Token) → TypeSort sort → ty_take v sort word ≡ s.Do (a.Ty y.NoTys) ∷ s.Do (a.Ty (y.Con word.span.from (text_of word.form))) ∷ []
unfolding ty_take is_ty_var is_type_name
name-take v word at_name = refl
name-take v word at_long = refl

pub name-begins : {sort : TokenSort} → TypeSort sort → begins_ty sort ≡ true
unfolding begins_ty
name-begins at_name = refl
name-begins at_long = refl

pub name-is : {sort : TokenSort} → TypeSort sort → is_type_name sort ≡ true
unfolding is_type_name
name-is at_name = refl
name-is at_long = refl

var-takes : (v : Bool) (word : Token) → ty_take v o.TyVar word ≡ var_take v word
unfolding ty_take is_ty_var
var-takes v word = refl

open-take : (v : Bool) (word : Token) → ty_take v (o.Mark m.Open) word ≡ s.Ty (tp.Whole v) ∷ s.Ty (tp.AfterFirst v word.span.from) ∷ []
unfolding ty_take is_ty_var is_type_name
open-take v word = refl

-- marks end the left side of an arrow
pub mark-ends-left : (word : Token) {mark : Mark} → sort_of word.form ≡ o.Mark mark → TuptyEnds (Some word)
unfolding move_at is_type_name is_star
mark-ends-left word e = record {
  stars = record { argument = λ from. at-word (s.Ty (tp.ArgumentRest from)) word e refl; more = λ v. at-word (s.Ty (tp.StarMore v)) word e refl };
  star = λ v from. at-word (s.Ty (tp.StarRest v from)) word e refl;
}

-- marks end types, except an arrow
pub mark-ends : (word : Token) {mark : Mark} → sort_of word.form ≡ o.Mark mark → same_mark mark m.Arrow ≡ false → TyEnds (Some word)
unfolding move_at is_mark is_type_name is_star
mark-ends word e h = record {
  tupty = mark-ends-left word e;
  arrow = λ v from. at-word (s.Ty (tp.ArrowRest v from)) word e (ap (λ b. cond b (Takes (s.Ty (tp.Whole v) ∷ s.Do (a.Ty (y.Arrow from)) ∷ [])) Skips) h);
}

-- a name applied to the type before it
argument-takes : {sort : TokenSort} (from : ℕ) (word : Token) → TypeSort sort → move_at (s.Ty (tp.ArgumentRest from)) sort word ≡ Takes (s.Do (a.Ty y.First) ∷ s.Do (a.Ty (y.Con from (text_of word.form))) ∷ s.Ty (tp.ArgumentRest from) ∷ [])
unfolding move_at is_type_name
argument-takes from word at_name = refl
argument-takes from word at_long = refl

name-takes : {sort : TokenSort} (from : ℕ) (word : Token) → TypeSort sort → move_at (s.Ty (tp.Name from)) sort word ≡ Takes (s.Do (a.Ty (y.Con from (text_of word.form))) ∷ [])
unfolding move_at is_type_name
name-takes from word at_name = refl
name-takes from word at_long = refl

-- a type begins where a type is wanted
whole-takes : (sort : TokenSort) (v : Bool) (word : Token) → begins_ty sort ≡ true → move_at (s.Ty (tp.Whole v)) sort word ≡ Takes (ty_take v sort word ++ (s.Ty (tp.ArgumentRest word.span.from) ∷ s.Ty (tp.StarRest v word.span.from) ∷ s.Ty (tp.ArrowRest v word.span.from) ∷ []))
unfolding move_at
whole-takes sort v word h = rw h refl

part-takes : (sort : TokenSort) (v : Bool) (word : Token) → begins_ty sort ≡ true → move_at (s.Ty (tp.Part v)) sort word ≡ Takes (ty_take v sort word ++ (s.Ty (tp.ArgumentRest word.span.from) ∷ []))
unfolding move_at
part-takes sort v word h = rw h refl

pub c-conty-name : {v : Bool} {word : Token} {name : List ℕ} → IsTypeName name word →
    Starting begins_ty (ContyC v (made (a.Ty y.NoTys) word.span.to ∷ made (a.Ty (y.Con word.span.from name)) word.span.to ∷ [])) (word ∷ [])
c-conty-name {v} {word} {name} h = starting word [] (name-begins (type-sort h)) (record {
  comes = λ st rest.
      stacked (s.Ty (tp.ArgumentRest word.span.from) ∷ st) (name-take v word (type-sort h) ∙ ap (λ z. s.Do (a.Ty y.NoTys) ∷ s.Do (a.Ty (y.Con word.span.from z)) ∷ []) (type-text h))
      (acts (acts (stays rest (s.Ty (tp.ArgumentRest word.span.from) ∷ st) word.span.to)));
})

pub c-conty-var : {v : Bool} {word : Token} {name : List ℕ} → IsTyVar name word → Starting begins_ty (ContyC v (var_acts v word name)) (word ∷ [])
unfolding begins_ty
c-conty-var {v} {word} {name} h = starting word [] (ap begins_ty (Words.is-ty-var h)) (record {
  comes = λ st rest.
      stacked (s.Ty (tp.ArgumentRest word.span.from) ∷ st) (ap (λ z. ty_take v z word) (Words.is-ty-var h) ∙ var-takes v word) (go v st rest);
})
  where
    go : (v : Bool) (st : List Sym) (rest : List Token) → Comes rest (var_take v word ++ (s.Ty (tp.ArgumentRest word.span.from) ∷ st)) word.span.to (var_acts v word name) rest (s.Ty (tp.ArgumentRest word.span.from) ∷ st) word.span.to
    go true st rest = subst (λ z. Comes rest (s.Do (a.Ty (y.Var word.span.from z)) ∷ s.Ty (tp.ArgumentRest word.span.from) ∷ st) word.span.to (var_acts true word name) rest (s.Ty (tp.ArgumentRest word.span.from) ∷ st) word.span.to) (sym (Words.var-text h))
        (acts (stays rest (s.Ty (tp.ArgumentRest word.span.from) ∷ st) word.span.to))
    go false st rest = acts (subst (λ z. Comes rest (s.Do (a.Ty (y.Var word.span.from z)) ∷ s.Ty (tp.ArgumentRest word.span.from) ∷ st) word.span.to (var_acts true word name) rest (s.Ty (tp.ArgumentRest word.span.from) ∷ st) word.span.to) (sym (Words.var-text h))
        (acts (stays rest (s.Ty (tp.ArgumentRest word.span.from) ∷ st) word.span.to)))

pub open-begins : begins_ty (o.Mark m.Open) ≡ true
unfolding begins_ty open_mark same_mark mark_number
open-begins = refl

close-first : (v : Bool) (from : ℕ) (t : Token) → move_at (s.Ty (tp.AfterFirst v from)) (o.Mark m.Close) t ≡ Takes []
unfolding move_at is_mark same_mark mark_number
close-first v from t = refl

close-ends : {word : Token} → IsMark (codes ")") word → TyEnds (Some word)
unfolding same_mark mark_number
close-ends h = mark-ends _ (Words.is-close h) refl

pub comma-ends : {word : Token} → IsMark (codes ",") word → TyEnds (Some word)
unfolding same_mark mark_number
comma-ends h = mark-ends _ (Words.is-comma h) refl

pub c-conty-paren : {v : Bool} {n : List Made} {ts : List Token} {opening closing : Token} → IsMark (codes "(") opening → Starting begins_ty (TyC v n) ts → IsMark (codes ")") closing →
    Starting begins_ty (ContyC v n) (opening ∷ ts ++ closing ∷ [])
c-conty-paren {v} {n} {opening = opening} {closing = closing} h (starting x us k p) i = starting opening ((x ∷ us) ++ closing ∷ []) (ap begins_ty (Words.is-open h) ∙ open-begins) (record {
  comes = λ st rest.
      ends-at (sym (after-both opening.span.to (x ∷ us) (closing ∷ [])))
      (grouped (x ∷ us) (closing ∷ []) rest
      (stacked (s.Ty (tp.ArgumentRest opening.span.from) ∷ st) (ap (λ z. ty_take v z opening) (Words.is-open h) ∙ open-take v opening)
      (lastly (p.comes (s.Ty (tp.AfterFirst v opening.span.from) ∷ s.Ty (tp.ArgumentRest opening.span.from) ∷ st) (closing ∷ rest) opening.span.to (close-ends i))
      (takes-as (Words.is-close i) (close-first v opening.span.from closing) (stays rest (s.Ty (tp.ArgumentRest opening.span.from) ∷ st) closing.span.to)))));
})

pub c-conty-one : {v : Bool} {n : List Made} {ts : List Token} {word : Token} {name : List ℕ} → Starting begins_ty (ContyC v n) ts → IsTypeName name word →
    Starting begins_ty (ContyC v (n ++ made (a.Ty y.First) word.span.to ∷ made (a.Ty (y.Con (first_of (ts ++ word ∷ [])) name)) (last_of (ts ++ word ∷ [])) ∷ [])) (ts ++ word ∷ [])
c-conty-one {v} {n} {word = word} {name = name} (starting x us k p) h = starting x (us ++ word ∷ []) k (record {
  comes = λ st rest.
      ends-at (sym (after-both x.span.to us (word ∷ [])))
      (grouped us (word ∷ []) rest
      (then (p.comes st (word ∷ rest))
      (takes (argument-takes x.span.from word (type-sort h) ∙ ap (λ z. Takes (s.Do (a.Ty y.First) ∷ s.Do (a.Ty (y.Con x.span.from z)) ∷ s.Ty (tp.ArgumentRest x.span.from) ∷ [])) (type-text h))
      (acts (acts-at (sym (after-both x.span.to us (word ∷ []))) (stays rest (s.Ty (tp.ArgumentRest x.span.from) ∷ st) word.span.to))))));
})

first-comma : (v : Bool) (from : ℕ) (t : Token) → move_at (s.Ty (tp.AfterFirst v from)) (o.Mark m.Comma) t ≡ Takes (s.Do (a.Ty y.First) ∷ s.Ty (tp.Whole v) ∷ s.Do (a.Ty y.Push) ∷ s.Ty (tp.More v from) ∷ [])
unfolding move_at is_mark same_mark mark_number
first-comma v from t = refl

more-comma : (v : Bool) (from : ℕ) (t : Token) → move_at (s.Ty (tp.More v from)) (o.Mark m.Comma) t ≡ Takes (s.Ty (tp.Whole v) ∷ s.Do (a.Ty y.Push) ∷ s.Ty (tp.More v from) ∷ [])
unfolding move_at is_mark same_mark mark_number
more-comma v from t = refl

more-close : (v : Bool) (from : ℕ) (t : Token) → move_at (s.Ty (tp.More v from)) (o.Mark m.Close) t ≡ Takes (s.Ty (tp.Name from) ∷ [])
unfolding move_at is_mark same_mark mark_number
more-close v from t = refl

pub c-tys-one : {v : Bool} {n : List Made} {ts : List Token} → Starting begins_ty (TyC v n) ts → TysC v (n ++ made (a.Ty y.Push) (last_of ts) ∷ []) ts
c-tys-one {v} {n} (starting x us k p) = record {
  comes = λ from st rest to e.
      then (p.comes (s.Do (a.Ty y.Push) ∷ s.Ty (tp.More v from) ∷ st) rest to e)
      (acts (stays rest (s.Ty (tp.More v from) ∷ st) (last_after x.span.to us)));
}

pub c-tys-more : {v : Bool} {n m : List Made} {ts us : List Token} {comma : Token} → Starting begins_ty (TyC v n) ts → IsMark (codes ",") comma → TysC v m us →
    TysC v (n ++ made (a.Ty y.Push) (last_of ts) ∷ m) (ts ++ comma ∷ us)
c-tys-more {v} {n} {m} {us = us} {comma = comma} (starting x ts k p) h q = record {
  comes = λ from st rest to e.
      ends-at (sym (after-both x.span.to ts (comma ∷ us)))
      (grouped (x ∷ ts) (comma ∷ us) rest
      (then (p.comes (s.Do (a.Ty y.Push) ∷ s.Ty (tp.More v from) ∷ st) (comma ∷ us ++ rest) to (comma-ends h))
      (acts (takes-as (Words.is-comma h) (more-comma v from comma)
      (q.comes from st rest comma.span.to e)))));
}

pub c-conty-several : {v : Bool} {n m : List Made} {ts us : List Token} {opening comma closing word : Token} {name : List ℕ} →
    IsMark (codes "(") opening → Starting begins_ty (TyC v n) ts → IsMark (codes ",") comma → TysC v m us → IsMark (codes ")") closing → IsTypeName name word →
    Starting begins_ty (ContyC v (n ++ (made (a.Ty y.First) comma.span.to ∷ (m ++ (made (a.Ty (y.Con opening.span.from name)) word.span.to ∷ []))))) (opening ∷ (ts ++ comma ∷ us) ++ closing ∷ word ∷ [])
c-conty-several {v} {n} {m} {us = us} {opening = opening} {comma = comma} {closing = closing} {word = word} {name = name} h (starting x ts k p) i q j w =
    starting opening (((x ∷ ts) ++ comma ∷ us) ++ closing ∷ word ∷ []) (ap begins_ty (Words.is-open h) ∙ open-begins) (record {
      comes = λ st rest.
          ends-at (sym (after-both opening.span.to ((x ∷ ts) ++ comma ∷ us) (closing ∷ word ∷ [])))
          (grouped ((x ∷ ts) ++ comma ∷ us) (closing ∷ word ∷ []) rest
          (grouped (x ∷ ts) (comma ∷ us) (closing ∷ word ∷ rest)
          (stacked (s.Ty (tp.ArgumentRest opening.span.from) ∷ st) (ap (λ z. ty_take v z opening) (Words.is-open h) ∙ open-take v opening)
          (then (p.comes (s.Ty (tp.AfterFirst v opening.span.from) ∷ s.Ty (tp.ArgumentRest opening.span.from) ∷ st) (comma ∷ us ++ closing ∷ word ∷ rest) opening.span.to (comma-ends i))
          (takes-as (Words.is-comma i) (first-comma v opening.span.from comma)
          (acts
          (then (q.comes opening.span.from (s.Ty (tp.ArgumentRest opening.span.from) ∷ st) (closing ∷ word ∷ rest) comma.span.to (close-ends j))
          (takes-as (Words.is-close j) (more-close v opening.span.from closing)
          (takes (name-takes opening.span.from word (type-sort w) ∙ ap (λ z. Takes (s.Do (a.Ty (y.Con opening.span.from z)) ∷ [])) (type-text w))
          (acts (stays rest (s.Ty (tp.ArgumentRest opening.span.from) ∷ st) word.span.to)))))))))));
    })

-- at a star
star-skips : {word : Token} (from : ℕ) → IsAnyName (codes "*") word → Skipped (s.Ty (tp.ArgumentRest from)) (Some word)
unfolding move_at is_type_name
star-skips {word} from h = at-word (s.Ty (tp.ArgumentRest from)) word (Words.is-star h) refl

star-takes : (v : Bool) (from : ℕ) (t : Token) → move_at (s.Ty (tp.StarRest v from)) o.Star t ≡ Takes (s.Do (a.Ty y.First) ∷ s.Ty (tp.Part v) ∷ s.Do (a.Ty y.Push) ∷ s.Ty (tp.StarMore v) ∷ s.Do (a.Ty (y.Tuple from)) ∷ [])
unfolding move_at is_star
star-takes v from t = refl

star-more : (v : Bool) (t : Token) → move_at (s.Ty (tp.StarMore v)) o.Star t ≡ Takes (s.Ty (tp.Part v) ∷ s.Do (a.Ty y.Push) ∷ s.Ty (tp.StarMore v) ∷ [])
unfolding move_at is_star
star-more v t = refl

pub c-stars-one : {v : Bool} {n : List Made} {ts : List Token} → Starting begins_ty (ContyC v n) ts → Starting begins_ty (StarsC v (n ++ made (a.Ty y.Push) (last_of ts) ∷ [])) ts
c-stars-one {v} {n} (starting x us k p) = starting x us k (record {
  comes = λ st rest e.
      then (p.comes (s.Do (a.Ty y.Push) ∷ s.Ty (tp.StarMore v) ∷ st) rest)
      (skips (e.argument x.span.from)
      (acts
      (skips (e.more v)
      (stays rest st (last_after x.span.to us)))));
})

pub c-stars-more : {v : Bool} {n m : List Made} {ts us : List Token} {word : Token} → Starting begins_ty (ContyC v n) ts → IsAnyName (codes "*") word → Starting begins_ty (StarsC v m) us →
    Starting begins_ty (StarsC v (n ++ made (a.Ty y.Push) (last_of ts) ∷ m)) (ts ++ word ∷ us)
c-stars-more {v} {n} {m} {word = word} (starting x ts k p) h (starting u us l q) = starting x (ts ++ word ∷ u ∷ us) k (record {
  comes = λ st rest e.
      ends-at (sym (after-both x.span.to ts (word ∷ u ∷ us)))
      (grouped ts (word ∷ u ∷ us) rest
      (then (p.comes (s.Do (a.Ty y.Push) ∷ s.Ty (tp.StarMore v) ∷ st) (word ∷ u ∷ us ++ rest))
      (skips (star-skips x.span.from h)
      (acts
      (takes-as (Words.is-star h) (star-more v word)
      (takes (part-takes _ v u l)
      (pushed (ty_take v (sort_of u.form) u) (s.Ty (tp.ArgumentRest u.span.from) ∷ []) (s.Do (a.Ty y.Push) ∷ s.Ty (tp.StarMore v) ∷ st)
      (q.comes st rest e))))))));
})

pub c-tupty-one : {v : Bool} {n : List Made} {ts : List Token} → Starting begins_ty (ContyC v n) ts → Starting begins_ty (TuptyC v n) ts
c-tupty-one {v} {n} (starting x us k p) = starting x us k (record {
  comes = λ st rest e.
      lastly (p.comes (s.Ty (tp.StarRest v x.span.from) ∷ st) rest)
      (skips (e.stars.argument x.span.from)
      (skips (e.star v x.span.from)
      (stays rest st (last_after x.span.to us))));
})

pub c-tupty-several : {v : Bool} {n m : List Made} {ts us : List Token} {word : Token} → Starting begins_ty (ContyC v n) ts → IsAnyName (codes "*") word → Starting begins_ty (StarsC v m) us →
    Starting begins_ty (TuptyC v (n ++ (made (a.Ty y.First) word.span.to ∷ (m ++ (made (a.Ty (y.Tuple (first_of (ts ++ word ∷ us)))) (last_of (ts ++ word ∷ us)) ∷ []))))) (ts ++ word ∷ us)
c-tupty-several {v} {n} {m} {word = word} (starting x ts k p) h (starting u us l q) = starting x (ts ++ word ∷ u ∷ us) k (record {
  comes = λ st rest e.
      ends-at (sym (after-both x.span.to ts (word ∷ u ∷ us)))
      (grouped ts (word ∷ u ∷ us) rest
      (then (p.comes (s.Ty (tp.StarRest v x.span.from) ∷ st) (word ∷ u ∷ us ++ rest))
      (skips (star-skips x.span.from h)
      (takes-as (Words.is-star h) (star-takes v x.span.from word)
      (acts
      (takes (part-takes _ v u l)
      (pushed (ty_take v (sort_of u.form) u) (s.Ty (tp.ArgumentRest u.span.from) ∷ []) (s.Do (a.Ty y.Push) ∷ s.Ty (tp.StarMore v) ∷ s.Do (a.Ty (y.Tuple x.span.from)) ∷ st)
      (then (q.comes (s.Do (a.Ty (y.Tuple x.span.from)) ∷ st) rest e.stars)
      (acts-at (sym (after-both x.span.to ts (word ∷ u ∷ us)))
      (stays rest st (last_after u.span.to us)))))))))));
})

pub c-ty-one : {v : Bool} {n : List Made} {ts : List Token} → Starting begins_ty (TuptyC v n) ts → Starting begins_ty (TyC v n) ts
c-ty-one {v} {n} (starting x us k p) = starting x us k (record {
  comes = λ st rest to e.
      takes (whole-takes _ v x k)
      (pushed (ty_take v (sort_of x.form) x) (s.Ty (tp.ArgumentRest x.span.from) ∷ s.Ty (tp.StarRest v x.span.from) ∷ s.Ty (tp.ArrowRest v x.span.from) ∷ []) st
      (lastly (p.comes (s.Ty (tp.ArrowRest v x.span.from) ∷ st) rest e.tupty)
      (skips (e.arrow v x.span.from)
      (stays rest st (last_after x.span.to us)))));
})

arrow-takes : (v : Bool) (from : ℕ) (t : Token) → move_at (s.Ty (tp.ArrowRest v from)) (o.Mark m.Arrow) t ≡ Takes (s.Ty (tp.Whole v) ∷ s.Do (a.Ty (y.Arrow from)) ∷ [])
unfolding move_at is_mark same_mark mark_number
arrow-takes v from t = refl

pub c-ty-arrow : {v : Bool} {n m : List Made} {ts us : List Token} {word : Token} → Starting begins_ty (TuptyC v n) ts → IsMark (codes "->") word → Starting begins_ty (TyC v m) us →
    Starting begins_ty (TyC v (n ++ (m ++ (made (a.Ty (y.Arrow (first_of (ts ++ word ∷ us)))) (last_of (ts ++ word ∷ us)) ∷ [])))) (ts ++ word ∷ us)
c-ty-arrow {v} {n} {m} {word = word} (starting x ts k p) h (starting u us l q) = starting x (ts ++ word ∷ u ∷ us) k (record {
  comes = λ st rest to e.
      ends-at (sym (after-both x.span.to ts (word ∷ u ∷ us)))
      (grouped (x ∷ ts) (word ∷ u ∷ us) rest
      (takes (whole-takes _ v x k)
      (pushed (ty_take v (sort_of x.form) x) (s.Ty (tp.ArgumentRest x.span.from) ∷ s.Ty (tp.StarRest v x.span.from) ∷ s.Ty (tp.ArrowRest v x.span.from) ∷ []) st
      (then (p.comes (s.Ty (tp.ArrowRest v x.span.from) ∷ st) (word ∷ u ∷ us ++ rest) (mark-ends-left word (Words.is-arrow h)))
      (takes-as (Words.is-arrow h) (arrow-takes v x.span.from word)
      (then (q.comes (s.Do (a.Ty (y.Arrow x.span.from)) ∷ st) rest word.span.to e)
      (acts-at (sym (after-both x.span.to ts (word ∷ u ∷ us)))
      (stays rest st (last_after u.span.to us)))))))));
})
