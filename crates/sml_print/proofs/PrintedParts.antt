-- What is printed of a type and of a pattern, by its form.
use Rattle.std.proofs.Common.{◌≡◌, ℕ, List, [], ◌∷◌, ◌++◌, ap, sym, ◌∙◌}
use Rattle.std.specs.Prelude.{codes}
use Rattle.sml_syntax.specs.declared.token.TokenForm.TheVariants as f
use Rattle.sml_syntax.specs.declared.tree.Ty.{Ty, out-Ty}
use Rattle.sml_syntax.specs.declared.tree.TyForm.{out-TyForm, out-roll-TyForm}
use Rattle.sml_syntax.specs.declared.tree.TyForm.TheVariants as t
use Rattle.sml_syntax.specs.declared.tree.TyForm.TheOpen.{TyForm-F}
use Rattle.sml_syntax.specs.declared.tree.Pat.{Pat, out-Pat}
use Rattle.sml_syntax.specs.declared.tree.PatForm.{out-PatForm, out-roll-PatForm}
use Rattle.sml_syntax.specs.declared.tree.PatForm.TheVariants as p
use Rattle.sml_syntax.specs.declared.tree.PatForm.TheOpen.{PatForm-F}
use Rattle.sml_syntax.specs.Layers.{form_of_pat}
use Rattle.print_laws.specs.Printing.{in_parens, parted, ty_forms, put_ty, pat_part, pat_forms, put_pat}
use Rattle.print_laws.specs.Opened.{ty_text, con_text, starred_text, pat_text, pat_members, pat_level, con_pat_text, con_pat_level}
use Rattle.print_laws.proofs.Opened.{ty_opened, pat_opened, pat_level_opened}

-- types
pub ty_con : (x : Ty) (name : List ℕ) (ts : List Ty) → (out-Ty x).form ≡ t.Con name ts → ty_forms x ≡ con_text name ts
ty_con x name ts h = ty_opened x ∙ ap ty_text (ap out-TyForm h ∙ ap out-TyForm (sym (t.rolls-Con name ts)) ∙ out-roll-TyForm (TyForm-F.Con name ts))

pub ty_tuple : (x : Ty) (ts : List Ty) → (out-Ty x).form ≡ t.Tuple ts → ty_forms x ≡ starred_text ts
ty_tuple x ts h = ty_opened x ∙ ap ty_text (ap out-TyForm h ∙ ap out-TyForm (sym (t.rolls-Tuple ts)) ∙ out-roll-TyForm (TyForm-F.Tuple ts))

pub ty_arrow : (x : Ty) (from : Ty) (to : Ty) → (out-Ty x).form ≡ t.Arrow from to → ty_forms x ≡ put_ty 1 from ++ f.Mark (codes "->") ∷ ty_forms to
ty_arrow x from to h = ty_opened x ∙ ap ty_text (ap out-TyForm h ∙ ap out-TyForm (sym (t.rolls-Arrow from to)) ∙ out-roll-TyForm (TyForm-F.Arrow from to))

-- patterns
pub pat_tuple : (x : Pat) (ps : List Pat) → (out-Pat x).form ≡ p.Tuple ps → pat_forms x ≡ in_parens (parted (codes ",") pat_forms ps)
pat_tuple x ps h = pat_opened x ∙ ap pat_text (ap out-PatForm h ∙ ap out-PatForm (sym (p.rolls-Tuple ps)) ∙ out-roll-PatForm (PatForm-F.Tuple ps))

pub pat_list : (x : Pat) (ps : List Pat) → (out-Pat x).form ≡ p.List ps → pat_forms x ≡ (f.Mark (codes "[") ∷ parted (codes ",") pat_forms ps) ++ f.Mark (codes "]") ∷ []
pat_list x ps h = pat_opened x ∙ ap pat_text (ap out-PatForm h ∙ ap out-PatForm (sym (p.rolls-List ps)) ∙ out-roll-PatForm (PatForm-F.List ps))

pub pat_con : (x : Pat) (name : List ℕ) (q : Pat) → (out-Pat x).form ≡ p.Con name q → pat_forms x ≡ con_pat_text name (pat_members (form_of_pat q)) q
pat_con x name q h = pat_opened x ∙ ap pat_text (ap out-PatForm h ∙ ap out-PatForm (sym (p.rolls-Con name q)) ∙ out-roll-PatForm (PatForm-F.Con name q))

pub pat_typed : (x : Pat) (q : Pat) (ty : Ty) → (out-Pat x).form ≡ p.Typed q ty → pat_forms x ≡ put_pat 1 q ++ f.Mark (codes ":") ∷ ty_forms ty
pat_typed x q ty h = pat_opened x ∙ ap pat_text (ap out-PatForm h ∙ ap out-PatForm (sym (p.rolls-Typed q ty)) ∙ out-roll-PatForm (PatForm-F.Typed q ty))

pub level_con : (x : Pat) (name : List ℕ) (q : Pat) → (out-Pat x).form ≡ p.Con name q → (pat_part x).level ≡ con_pat_level name (pat_members (form_of_pat q))
level_con x name q h = pat_level_opened x ∙ ap pat_level (ap out-PatForm h ∙ ap out-PatForm (sym (p.rolls-Con name q)) ∙ out-roll-PatForm (PatForm-F.Con name q))
