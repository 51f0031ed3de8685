-- What the acts of types find inside a declaration of datatypes.
use Rattle.std.proofs.Common.{◌≡◌, ℕ, zero, suc, cond, List, [], ◌∷◌, ◌++◌, Bool, true, false, Option, Some, None, refl, ap, ap₂, sym, ◌∙◌, append_assoc}
use Rattle.std.specs.Str.{bytes_eq}
use Rattle.sml_syntax.specs.declared.token.Lack.TheVariants as l
use Rattle.sml_syntax.specs.declared.tree.Span.{Span}
use Rattle.sml_syntax.specs.declared.tree.Ty.{Ty, out-roll-Ty}
use Rattle.sml_syntax.specs.declared.tree.TyForm.{TyForm, out-TyForm}
use Rattle.sml_syntax.specs.declared.tree.TyForm.TheOpen.{TyForm-F}
use Rattle.sml_syntax.specs.NestedTypes.{Found, Datatypes, TyLayer, form_of_ty, own_variables, are_variables, nested_here, for_each, nested_in_form, nested_in_type}
use Rattle.grammar_rules.specs.Nodes.{ty_at}
use Rattle.grammar_rules.specs.Programs.{Each}
use Rattle.sml_grammar.specs.declared.act.Act.TheVariants as a
use Rattle.sml_grammar.specs.declared.act.TyAct.TheVariants as y
use Rattle.sml_grammar.specs.declared.act.Made.{Made}
use Rattle.sml_grammar.specs.Machine.{made}
use Rattle.parse_limits.specs.Lacks.{variables_of, ends_applied, nested, lack_of, lack_from, lower, begins_datatypes, ends_datatypes}
use Rattle.grammar_limits.specs.Finds.{lowest, FindsIn}
use Rattle.grammar_limits.specs.Owns.{owns}
use Rattle.grammar_limits.proofs.Lowest.{lowest-both, lower-none}
use Rattle.grammar_limits.proofs.Swapped.{lowest-last}
use Rattle.grammar_limits.proofs.Nodes as nodes

-- a type's variables, by the acts and by the tree
pub same-variables : (name : List ℕ) (all : Datatypes) → variables_of name (owns all) ≡ own_variables name all
unfolding variables_of
same-variables name [] = refl
same-variables name (bind ∷ binds) = ap (λ z. cond (bytes_eq bind.1 name) (Some bind.0) z) (same-variables name binds)

-- all lacks of types are of one kind
abbrev pub AllNested : List Found → Type 0
AllNested ls = Each (λ (x : Found). x.1 ≡ l.NestedType) ls

both-nested : (ls ms : List Found) → AllNested ls → AllNested ms → AllNested (ls ++ ms)
both-nested [] ms p q = q
both-nested (l ∷ ls) ms p q = (p.0, both-nested ls ms p.1 q)

here-nested : (place : ℕ) (arguments : List Ty) (vars : Option (List (List ℕ))) → AllNested (nested_here place arguments vars)
here-nested place arguments None = tt
here-nested place arguments (Some names) = by (are_variables names arguments)
  where
    by : (w : Bool) → AllNested (cond w [] ((place, l.NestedType) ∷ []))
    by true = tt
    by false = (refl, tt)

pub each-nested : (part : Ty → List Found) (xs : List Ty) → ((x : Ty) → AllNested (part x)) → AllNested (for_each part xs)
each-nested part [] p = tt
each-nested part (x ∷ xs) p = both-nested (part x) (for_each part xs) (p x) (each-nested part xs p)

form-nested : (all : Datatypes) (part : Ty → List Found) (place : ℕ) (layer : TyLayer) → ((x : Ty) → AllNested (part x)) → AllNested (nested_in_form all part place layer)
form-nested all part place (TyForm-F.Var name) p = tt
form-nested all part place (TyForm-F.Con name arguments) p = both-nested (nested_here place arguments (own_variables name all)) (for_each part arguments) (here-nested place arguments (own_variables name all)) (each-nested part arguments p)
form-nested all part place (TyForm-F.Tuple ts) p = each-nested part ts p
form-nested all part place (TyForm-F.Arrow from to) p = both-nested (part from) (part to) (p from) (p to)

pub type-nested : (depth : ℕ) (all : Datatypes) (x : Ty) → AllNested (nested_in_type depth all x)
type-nested zero all x = tt
type-nested (suc depth) all x = form-nested all (nested_in_type depth all) _ (form_of_ty x) (λ z. type-nested depth all z)

-- a type by its layer
pub nested-opens : (depth : ℕ) (all : Datatypes) (span : Span) (form : TyForm) (layer : TyLayer) → out-TyForm form ≡ layer → nested_in_type (suc depth) all (ty_at span form) ≡ nested_in_form all (nested_in_type depth all) span.from layer
nested-opens depth all span form layer h = ap₂ (λ s z. nested_in_form all (nested_in_type depth all) s z) (ap (λ z. z.span.from) (out-roll-Ty (record { span = span; form = form }))) (nodes.ty-opens form span h)

-- an applied name behind its arguments
con-told : (found : Option Found) (from : ℕ) (ls : List Found) (w : Bool) → AllNested ls → lower (lowest found ls) (cond w None (Some (from, l.NestedType))) ≡ lowest found (cond w [] ((from, l.NestedType) ∷ []) ++ ls)
con-told found from ls true e = lower-none (lowest found ls)
con-told found from ls false e = sym (lowest-both found ls ((from, l.NestedType) ∷ [])) ∙ lowest-last found (from, l.NestedType) ls e

con-finds : (found : Option Found) (from : ℕ) (before : List Made) (ls : List Found) (arguments : List Ty) (vars : Option (List (List ℕ))) → AllNested ls → ((names : List (List ℕ)) → ends_applied names before ≡ are_variables names arguments) →
    lower (lowest found ls) (nested from before vars) ≡ lowest found (nested_here from arguments vars ++ ls)
con-finds found from before ls arguments None e h = lower-none (lowest found ls)
con-finds found from before ls arguments (Some names) e h =
    ap (λ w. lower (lowest found ls) (cond w None (Some (from, l.NestedType)))) (h names) ∙ con-told found from ls (are_variables names arguments) e

pub f-con : (all : Datatypes) (from to : ℕ) (name : List ℕ) (arguments : List Ty) (n : List Made) (ls : List Found) → AllNested ls → ((names : List (List ℕ)) (before : List Made) → ends_applied names (before ++ n) ≡ are_variables names arguments) →
    FindsIn (owns all) n ls → FindsIn (owns all) (n ++ (made (a.Ty (y.Con from name)) to ∷ [])) (nested_here from arguments (own_variables name all) ++ ls)
unfolding lack_from lack_of begins_datatypes ends_datatypes
f-con all from to name arguments n ls e h p = record {
  finds = λ found before more.
      let act : Made = made (a.Ty (y.Con from name)) to in
      ap (λ z. lack_from found (owns all) before z) (append_assoc n (act ∷ []) more)
      ∙ p.finds found before (act ∷ more)
      ∙ ap₂ (λ u z. lack_from u (owns all) z more)
      (ap (λ z. lower (lowest found ls) (nested from (before ++ n) z)) (same-variables name all) ∙ con-finds found from (before ++ n) ls arguments (own_variables name all) e (λ names. h names before))
      (append_assoc before n (act ∷ []));
}
