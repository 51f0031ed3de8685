-- The erasure of terms, form by form.
use Rattle.std.proofs.Common.{Result, Ok, Err, IfOk, ◌≡◌, ℕ, ℤ, List, [], ◌∷◌, Option, Some, None, map, ap, ap₂, sym, ◌∙◌, refl}
use Rattle.region_syntax.specs.declared.types.Place.{Place}
use Rattle.region_syntax.specs.declared.types.Effect.{Effect}
use Rattle.region_syntax.specs.declared.types.MTy.{MTy}
use Rattle.region_syntax.specs.declared.types.MData.{MData}
use Rattle.region_syntax.specs.declared.types.RTy.{RTy}
use Rattle.sml_syntax.specs.declared.constructor.Constructor.{Constructor}
use Rattle.region_syntax.specs.declared.specialised.MPat.{MPat, roll-MPat}
use Rattle.region_syntax.specs.declared.specialised.MPatForm.{MPatForm}
use Rattle.region_syntax.specs.declared.specialised.MPatForm.TheOpen.{MPatForm-F}
use Rattle.region_syntax.specs.declared.specialised.MPatForm.TheFolds.{fold-roll-MPat, fold-roll-MPatForm}
use Rattle.region_syntax.specs.declared.specialised.MPatForm.TheVariants as vp
use Rattle.region_syntax.specs.declared.specialised.MExp.{MExp, roll-MExp}
use Rattle.region_syntax.specs.declared.specialised.MExpForm.{MExpForm}
use Rattle.region_syntax.specs.declared.specialised.MExpForm.TheVariants as v
use Rattle.region_syntax.specs.declared.specialised.MRule.{MRule, roll-MRule}
use Rattle.region_syntax.specs.declared.specialised.MBind.{MBind, roll-MBind}
use Rattle.region_syntax.specs.declared.specialised.MDef.{MDef, roll-MDef}
use Rattle.region_syntax.specs.declared.specialised.MPiece.{MPiece}
use Rattle.region_syntax.specs.declared.specialised.MPiece.TheVariants as vq
use Rattle.region_syntax.specs.declared.specialised.MDec.{MDec}
use Rattle.region_syntax.specs.declared.specialised.MDec.TheVariants as vd
use Rattle.region_syntax.specs.declared.specialised.MDec.TheOpen.{MDec-F, MExpForm-F, MPiece-F}
use Rattle.region_syntax.specs.declared.specialised.MDec.TheFolds.{fold-roll-MExp, fold-roll-MExpForm, fold-roll-MRule, fold-roll-MBind, fold-roll-MDef, fold-roll-MPiece, fold-roll-MDec}
use Rattle.region_syntax.specs.declared.specialised.MProgram.{MProgram}
use Rattle.region_syntax.specs.declared.region.RPat.{RPat, out-RPat}
use Rattle.region_syntax.specs.declared.region.RPatForm.{RPatForm}
use Rattle.region_syntax.specs.declared.region.RPatForm.TheOpen.{RPatForm-F}
use Rattle.region_syntax.specs.declared.region.RPatForm.TheFolds.{fold_out-RPat, fold-roll-RPatForm}
use Rattle.region_syntax.specs.declared.region.RPatForm.TheVariants as xp
use Rattle.region_syntax.specs.declared.region.RExp.{RExp, out-RExp}
use Rattle.region_syntax.specs.declared.region.RExpForm.{RExpForm}
use Rattle.region_syntax.specs.declared.region.RExpForm.TheVariants as x
use Rattle.region_syntax.specs.declared.region.RRule.{RRule, out-RRule}
use Rattle.region_syntax.specs.declared.region.RBind.{RBind, out-RBind}
use Rattle.region_syntax.specs.declared.region.RPiece.{RPiece}
use Rattle.region_syntax.specs.declared.region.RPiece.TheVariants as xq
use Rattle.region_syntax.specs.declared.region.FixDef.{FixDef, out-FixDef}
use Rattle.region_syntax.specs.declared.region.RDec.{RDec}
use Rattle.region_syntax.specs.declared.region.RDec.TheVariants as xd
use Rattle.region_syntax.specs.declared.region.RDec.TheOpen.{RDec-F, RExpForm-F, RPiece-F}
use Rattle.region_syntax.specs.declared.region.RDec.TheFolds.{fold_out-RExp, fold-roll-RExpForm, fold_out-RRule, fold_out-RBind, fold-roll-RPiece, fold_out-FixDef, fold-roll-RDec}
use Rattle.region_syntax.specs.declared.region.RProgram.{RProgram}
use Rattle.region_syntax.specs.GroundTypes.{GroundType, ground_type}
use Rattle.region_syntax.specs.GroundTerms as g
use Rattle.region_syntax.specs.GroundTerms.{ground_pat, ground_pat_form, ground_exp, ground_form, ground_rule, ground_bind, ground_piece, ground_def, ground_dec, ground_argument, ground_exception, ground_program}
use Rattle.region_syntax.specs.RegionTypes.{RegionType, region_type}
use Rattle.region_syntax.specs.RegionTerms as r
use Rattle.region_syntax.specs.RegionTerms.{region_pat, region_pat_form, region_exp, region_form, region_rule, region_bind, region_piece, region_def, region_dec, region_argument, region_program}
use Rattle.region_syntax.specs.Erasure.{erased_pat, erased_pat_form, erased_pats, erased_exp, erased_form, erased_exps, erased_rules, erased_rule, erased_pieces, erased_piece, erased_defs, erased_def, erased_decs, erased_dec, erased_argument, erased_program}
use Rattle.region_syntax.specs.Erasure.{type_erasure, pat_erasure, pat_form_erasure, exp_erasure, form_erasure, rule_erasure, bind_erasure, piece_erasure, def_erasure, dec_erasure, exception_erasure, argument_erasure}

-- the nodes
pat_made : (t : MTy) (f : MPatForm) → ground_pat (roll-MPat (record { ty = t; form = f })) ≡ g.pat (ground_type t) (ground_pat_form f)
unfolding ground_pat ground_pat_form
pat_made t f = fold-roll-MPat g.PatForm g.Pat g.pat_form_layer g.pat_layer (record { ty = t; form = f })

pat_opened : (p : RPat) → region_pat p ≡ r.pat (region_type (out-RPat p).ty) (region_pat_form (out-RPat p).form)
unfolding region_pat region_pat_form
pat_opened p = fold_out-RPat r.PatForm r.Pat r.pat_form_layer r.pat_layer p

pub pat_erased : (p : RPat) (t : MTy) (f : MPatForm) → ground_type t ≡ type_erasure (out-RPat p).ty → ground_pat_form f ≡ pat_form_erasure (out-RPat p).form
    → ground_pat (roll-MPat (record { ty = t; form = f })) ≡ pat_erasure p
unfolding pat_erasure type_erasure pat_form_erasure erased_pat
pat_erased p t f h0 h1 = pat_made t f ∙ ap₂ g.pat h0 h1 ∙ sym (ap erased_pat (pat_opened p))

pub exp_made : (u : RTy) (t : MTy) (f : MExpForm) → ground_type t ≡ type_erasure u → ground_exp (roll-MExp (record { ty = t; form = f })) ≡ g.exp (type_erasure u) (ground_form f)
unfolding ground_exp ground_form
exp_made u t f h = fold-roll-MExp g.Dec g.Form g.Piece (g.Pat × g.Exp) (List ℕ × List (g.Pat × g.Exp)) g.Exp (g.Pat × g.Exp) g.dec_layer g.form_layer g.piece_layer g.bind_layer g.def_layer g.exp_layer g.rule_layer (record { ty = t; form = f }) ∙ ap (λ z. g.exp z (ground_form f)) h

exp_opened : (e : RExp) → region_exp e ≡ r.exp (region_type (out-RExp e).ty) (region_form (out-RExp e).form)
unfolding region_exp region_form
exp_opened e = fold_out-RExp r.Dec r.Form r.Piece (r.Head × List (r.Pat × r.Exp)) (r.Pat × r.Exp) r.Exp (r.Pat × r.Exp) r.dec_layer r.form_layer r.piece_layer r.def_layer r.bind_layer r.exp_layer r.rule_layer e

pub exp_erased : (e : RExp) → form_erasure (type_erasure (out-RExp e).ty) (out-RExp e).form ≡ exp_erasure e
unfolding exp_erasure type_erasure form_erasure erased_exp
exp_erased e = sym (ap erased_exp (exp_opened e))

rule_opened : (q : RRule) → region_rule q ≡ (region_pat (out-RRule q).pat, region_exp (out-RRule q).body)
unfolding region_rule region_exp
rule_opened q = fold_out-RRule r.Dec r.Form r.Piece (r.Head × List (r.Pat × r.Exp)) (r.Pat × r.Exp) r.Exp (r.Pat × r.Exp) r.dec_layer r.form_layer r.piece_layer r.def_layer r.bind_layer r.exp_layer r.rule_layer q

pub rule_erased : (q : RRule) (p : MPat) (e : MExp) → ground_pat p ≡ pat_erasure (out-RRule q).pat → ground_exp e ≡ exp_erasure (out-RRule q).body
    → ground_rule (roll-MRule (record { pat = p; body = e })) ≡ rule_erasure q
unfolding ground_rule rule_erasure pat_erasure exp_erasure ground_exp erased_exp erased_pat
rule_erased q p e h0 h1 = fold-roll-MRule g.Dec g.Form g.Piece (g.Pat × g.Exp) (List ℕ × List (g.Pat × g.Exp)) g.Exp (g.Pat × g.Exp) g.dec_layer g.form_layer g.piece_layer g.bind_layer g.def_layer g.exp_layer g.rule_layer (record { pat = p; body = e }) ∙ ap₂ (λ y z. (y, z)) h0 h1 ∙ sym (ap erased_rule (rule_opened q))

bind_opened : (q : RBind) → region_bind q ≡ (region_pat (out-RBind q).pat, region_exp (out-RBind q).exp)
unfolding region_bind region_exp
bind_opened q = fold_out-RBind r.Dec r.Form r.Piece (r.Head × List (r.Pat × r.Exp)) (r.Pat × r.Exp) r.Exp (r.Pat × r.Exp) r.dec_layer r.form_layer r.piece_layer r.def_layer r.bind_layer r.exp_layer r.rule_layer q

pub bind_erased : (q : RBind) (p : MPat) (e : MExp) → ground_pat p ≡ pat_erasure (out-RBind q).pat → ground_exp e ≡ exp_erasure (out-RBind q).exp
    → ground_bind (roll-MBind (record { pat = p; exp = e })) ≡ bind_erasure q
unfolding ground_bind bind_erasure pat_erasure exp_erasure ground_exp erased_exp erased_pat
bind_erased q p e h0 h1 = fold-roll-MBind g.Dec g.Form g.Piece (g.Pat × g.Exp) (List ℕ × List (g.Pat × g.Exp)) g.Exp (g.Pat × g.Exp) g.dec_layer g.form_layer g.piece_layer g.bind_layer g.def_layer g.exp_layer g.rule_layer (record { pat = p; exp = e }) ∙ ap₂ (λ y z. (y, z)) h0 h1 ∙ sym (ap erased_rule (bind_opened q))

def_opened : (d : FixDef) → (h : r.Head) × (h.name ≡ (out-FixDef d).name) × (region_def d ≡ (h, map region_rule (out-FixDef d).rules))
unfolding region_def region_rule
def_opened d = (_, refl, fold_out-FixDef r.Dec r.Form r.Piece (r.Head × List (r.Pat × r.Exp)) (r.Pat × r.Exp) r.Exp (r.Pat × r.Exp) r.dec_layer r.form_layer r.piece_layer r.def_layer r.bind_layer r.exp_layer r.rule_layer d)

map_map : {A B C : Type 0} (f : A → B) (k : B → C) (xs : List A) → map k (map f xs) ≡ map (λ y. k (f y)) xs
map_map f k [] = refl
map_map f k (y ∷ xs) = ap (λ z. k (f y) ∷ z) (map_map f k xs)

pub def_erased : (d : FixDef) (n : List ℕ) (rs : List MRule) → n ≡ (out-FixDef d).name → map ground_rule rs ≡ map rule_erasure (out-FixDef d).rules
    → ground_def (roll-MDef (record { name = n; rules = rs })) ≡ def_erasure d
unfolding def_erasure rule_erasure ground_def ground_rule
def_erased d n rs h0 h1 =
    let o = def_opened d
    in fold-roll-MDef g.Dec g.Form g.Piece (g.Pat × g.Exp) (List ℕ × List (g.Pat × g.Exp)) g.Exp (g.Pat × g.Exp) g.dec_layer g.form_layer g.piece_layer g.bind_layer g.def_layer g.exp_layer g.rule_layer (record { name = n; rules = rs })
    ∙ ap₂ (λ y z. (y, z)) (h0 ∙ sym o.1) (h1 ∙ sym (map_map region_rule erased_rule (out-FixDef d).rules)) ∙ sym (ap erased_def o.2)

-- the lists
pats_list : (ps : List RPat) → erased_pats (r.pats_of (map region_pat ps)) ≡ g.pats_of (map pat_erasure ps)
unfolding pat_erasure erased_pat
pats_list [] = refl
pats_list (p ∷ ps) = ap (g.pats (erased_pat (region_pat p))) (pats_list ps)

exps_list : (es : List RExp) → erased_exps (r.exps_of (map region_exp es)) ≡ g.exps_of (map exp_erasure es)
unfolding exp_erasure erased_exp
exps_list [] = refl
exps_list (e ∷ es) = ap (g.exps (erased_exp (region_exp e))) (exps_list es)

rules_list : (rs : List RRule) → erased_rules (r.rules_of (map region_rule rs)) ≡ g.rules_of (map rule_erasure rs)
unfolding rule_erasure erased_exp
rules_list [] = refl
rules_list (q ∷ rs) = ap (g.rules (rule_erasure q).0 (rule_erasure q).1) (rules_list rs)

pieces_list : (ps : List r.Piece) → erased_pieces (r.pieces_of ps) ≡ g.pieces_of (map erased_piece ps)
unfolding erased_exp
pieces_list [] = refl
pieces_list (r.plain_piece text ∷ ps) = ap (g.plain text) (pieces_list ps)
pieces_list (r.anti_piece e ∷ ps) = ap (g.anti (erased_exp e)) (pieces_list ps)

rules_of_pairs : (rs : List (r.Pat × r.Exp)) → erased_rules (r.rules_of rs) ≡ g.rules_of (map erased_rule rs)
unfolding erased_exp
rules_of_pairs [] = refl
rules_of_pairs (q ∷ rs) = ap (g.rules (erased_rule q).0 (erased_rule q).1) (rules_of_pairs rs)

defs_list : (ds : List (r.Head × List (r.Pat × r.Exp))) → erased_defs (r.defs_of ds) ≡ g.defs_of (map erased_def ds)
unfolding erased_exp
defs_list [] = refl
defs_list (d ∷ ds) = ap₂ (λ y z. g.defs d.0.name y z) (rules_of_pairs d.1) (defs_list ds)

decs_list : (ds : List r.Dec) → erased_decs (r.decs_of ds) ≡ g.decs_of (map erased_dec ds)
unfolding erased_exp
decs_list [] = refl
decs_list (r.val_dec bs ∷ ds) = ap (g.vals (erased_rules bs)) (decs_list ds)
decs_list (r.fun_dec group ∷ ds) = ap (g.funs (erased_defs group)) (decs_list ds)
decs_list (r.local_dec hidden shown ∷ ds) = ap (g.locals (erased_decs hidden) (erased_decs shown)) (decs_list ds)

pairs_list : (bs : List RBind) → erased_rules (r.rules_of (map region_bind bs)) ≡ g.rules_of (map bind_erasure bs)
unfolding bind_erasure
pairs_list bs = rules_of_pairs (map region_bind bs) ∙ ap g.rules_of (map_map region_bind erased_rule bs)

pieces_trees : (ps : List RPiece) → erased_pieces (r.pieces_of (map region_piece ps)) ≡ g.pieces_of (map piece_erasure ps)
unfolding piece_erasure
pieces_trees ps = pieces_list (map region_piece ps) ∙ ap g.pieces_of (map_map region_piece erased_piece ps)

defs_trees : (ds : List FixDef) → erased_defs (r.defs_of (map region_def ds)) ≡ g.defs_of (map def_erasure ds)
unfolding def_erasure
defs_trees ds = defs_list (map region_def ds) ∙ ap g.defs_of (map_map region_def erased_def ds)

decs_trees : (ds : List RDec) → erased_decs (r.decs_of (map region_dec ds)) ≡ g.decs_of (map dec_erasure ds)
unfolding dec_erasure
decs_trees ds = decs_list (map region_dec ds) ∙ ap g.decs_of (map_map region_dec erased_dec ds)

-- the patterns, form by form
ground_pat_any : ground_pat_form vp.Any ≡ g.AnyPat
unfolding ground_pat ground_pat_form ground_exp ground_form ground_rule ground_piece ground_dec ground_bind ground_def
ground_pat_any = ap ground_pat_form (sym vp.rolls-Any) ∙ fold-roll-MPatForm g.PatForm g.Pat g.pat_form_layer g.pat_layer MPatForm-F.Any

region_pat_any : region_pat_form xp.Any ≡ r.AnyPat
unfolding region_pat region_pat_form region_exp region_form region_rule region_piece region_dec region_def region_bind
region_pat_any = ap region_pat_form (sym xp.rolls-Any) ∙ fold-roll-RPatForm r.PatForm r.Pat r.pat_form_layer r.pat_layer RPatForm-F.Any

pub any_pat_erased : (f : RPatForm) → f ≡ xp.Any → ground_pat_form vp.Any ≡ pat_form_erasure f
unfolding pat_form_erasure pat_erasure erased_pat
any_pat_erased f h = ground_pat_any ∙ sym (ap (λ z. erased_pat_form (region_pat_form z)) h ∙ ap erased_pat_form (region_pat_any))

ground_pat_int : (n : ℤ) → ground_pat_form (vp.Int n) ≡ g.IntPat n
unfolding ground_pat ground_pat_form ground_exp ground_form ground_rule ground_piece ground_dec ground_bind ground_def
ground_pat_int n = ap ground_pat_form (sym (vp.rolls-Int n)) ∙ fold-roll-MPatForm g.PatForm g.Pat g.pat_form_layer g.pat_layer (MPatForm-F.Int n)

region_pat_int : (n : ℤ) → region_pat_form (xp.Int n) ≡ r.IntPat n
unfolding region_pat region_pat_form region_exp region_form region_rule region_piece region_dec region_def region_bind
region_pat_int n = ap region_pat_form (sym (xp.rolls-Int n)) ∙ fold-roll-RPatForm r.PatForm r.Pat r.pat_form_layer r.pat_layer (RPatForm-F.Int n)

pub int_pat_erased : (f : RPatForm) (n : ℤ) → f ≡ xp.Int n → ground_pat_form (vp.Int n) ≡ pat_form_erasure f
unfolding pat_form_erasure pat_erasure erased_pat
int_pat_erased f n h = ground_pat_int n ∙ sym (ap (λ z. erased_pat_form (region_pat_form z)) h ∙ ap erased_pat_form (region_pat_int n))

ground_pat_char : (n : ℕ) → ground_pat_form (vp.Char n) ≡ g.CharPat n
unfolding ground_pat ground_pat_form ground_exp ground_form ground_rule ground_piece ground_dec ground_bind ground_def
ground_pat_char n = ap ground_pat_form (sym (vp.rolls-Char n)) ∙ fold-roll-MPatForm g.PatForm g.Pat g.pat_form_layer g.pat_layer (MPatForm-F.Char n)

region_pat_char : (n : ℕ) → region_pat_form (xp.Char n) ≡ r.CharPat n
unfolding region_pat region_pat_form region_exp region_form region_rule region_piece region_dec region_def region_bind
region_pat_char n = ap region_pat_form (sym (xp.rolls-Char n)) ∙ fold-roll-RPatForm r.PatForm r.Pat r.pat_form_layer r.pat_layer (RPatForm-F.Char n)

pub char_pat_erased : (f : RPatForm) (n : ℕ) → f ≡ xp.Char n → ground_pat_form (vp.Char n) ≡ pat_form_erasure f
unfolding pat_form_erasure pat_erasure erased_pat
char_pat_erased f n h = ground_pat_char n ∙ sym (ap (λ z. erased_pat_form (region_pat_form z)) h ∙ ap erased_pat_form (region_pat_char n))

ground_pat_str : (s : List ℕ) → ground_pat_form (vp.Str s) ≡ g.StrPat s
unfolding ground_pat ground_pat_form ground_exp ground_form ground_rule ground_piece ground_dec ground_bind ground_def
ground_pat_str s = ap ground_pat_form (sym (vp.rolls-Str s)) ∙ fold-roll-MPatForm g.PatForm g.Pat g.pat_form_layer g.pat_layer (MPatForm-F.Str s)

region_pat_str : (s : List ℕ) → region_pat_form (xp.Str s) ≡ r.StrPat s
unfolding region_pat region_pat_form region_exp region_form region_rule region_piece region_dec region_def region_bind
region_pat_str s = ap region_pat_form (sym (xp.rolls-Str s)) ∙ fold-roll-RPatForm r.PatForm r.Pat r.pat_form_layer r.pat_layer (RPatForm-F.Str s)

pub str_pat_erased : (f : RPatForm) (s : List ℕ) → f ≡ xp.Str s → ground_pat_form (vp.Str s) ≡ pat_form_erasure f
unfolding pat_form_erasure pat_erasure erased_pat
str_pat_erased f s h = ground_pat_str s ∙ sym (ap (λ z. erased_pat_form (region_pat_form z)) h ∙ ap erased_pat_form (region_pat_str s))

ground_pat_unit : ground_pat_form vp.Unit ≡ g.UnitPat
unfolding ground_pat ground_pat_form ground_exp ground_form ground_rule ground_piece ground_dec ground_bind ground_def
ground_pat_unit = ap ground_pat_form (sym vp.rolls-Unit) ∙ fold-roll-MPatForm g.PatForm g.Pat g.pat_form_layer g.pat_layer MPatForm-F.Unit

region_pat_unit : region_pat_form xp.Unit ≡ r.UnitPat
unfolding region_pat region_pat_form region_exp region_form region_rule region_piece region_dec region_def region_bind
region_pat_unit = ap region_pat_form (sym xp.rolls-Unit) ∙ fold-roll-RPatForm r.PatForm r.Pat r.pat_form_layer r.pat_layer RPatForm-F.Unit

pub unit_pat_erased : (f : RPatForm) → f ≡ xp.Unit → ground_pat_form vp.Unit ≡ pat_form_erasure f
unfolding pat_form_erasure pat_erasure erased_pat
unit_pat_erased f h = ground_pat_unit ∙ sym (ap (λ z. erased_pat_form (region_pat_form z)) h ∙ ap erased_pat_form (region_pat_unit))

ground_pat_name : (s : List ℕ) → ground_pat_form (vp.Name s) ≡ g.NamePat s
unfolding ground_pat ground_pat_form ground_exp ground_form ground_rule ground_piece ground_dec ground_bind ground_def
ground_pat_name s = ap ground_pat_form (sym (vp.rolls-Name s)) ∙ fold-roll-MPatForm g.PatForm g.Pat g.pat_form_layer g.pat_layer (MPatForm-F.Name s)

region_pat_name : (s : List ℕ) → region_pat_form (xp.Name s) ≡ r.NamePat s
unfolding region_pat region_pat_form region_exp region_form region_rule region_piece region_dec region_def region_bind
region_pat_name s = ap region_pat_form (sym (xp.rolls-Name s)) ∙ fold-roll-RPatForm r.PatForm r.Pat r.pat_form_layer r.pat_layer (RPatForm-F.Name s)

pub name_pat_erased : (f : RPatForm) (s : List ℕ) → f ≡ xp.Name s → ground_pat_form (vp.Name s) ≡ pat_form_erasure f
unfolding pat_form_erasure pat_erasure erased_pat
name_pat_erased f s h = ground_pat_name s ∙ sym (ap (λ z. erased_pat_form (region_pat_form z)) h ∙ ap erased_pat_form (region_pat_name s))

ground_pat_tuple : (qs : List MPat) → ground_pat_form (vp.Tuple qs) ≡ g.TuplePat (g.pats_of (map ground_pat qs))
unfolding ground_pat ground_pat_form ground_exp ground_form ground_rule ground_piece ground_dec ground_bind ground_def
ground_pat_tuple qs = ap ground_pat_form (sym (vp.rolls-Tuple qs)) ∙ fold-roll-MPatForm g.PatForm g.Pat g.pat_form_layer g.pat_layer (MPatForm-F.Tuple qs)

region_pat_tuple : (ps : List RPat) → region_pat_form (xp.Tuple ps) ≡ r.TuplePat (r.pats_of (map region_pat ps))
unfolding region_pat region_pat_form region_exp region_form region_rule region_piece region_dec region_def region_bind
region_pat_tuple ps = ap region_pat_form (sym (xp.rolls-Tuple ps)) ∙ fold-roll-RPatForm r.PatForm r.Pat r.pat_form_layer r.pat_layer (RPatForm-F.Tuple ps)

pub tuple_pat_erased : (f : RPatForm) (ps : List RPat) (qs : List MPat) → f ≡ xp.Tuple ps → map ground_pat qs ≡ map pat_erasure ps → ground_pat_form (vp.Tuple qs) ≡ pat_form_erasure f
unfolding pat_form_erasure pat_erasure erased_pat
tuple_pat_erased f ps qs h h0 = ground_pat_tuple qs ∙ ap (λ z. g.TuplePat (g.pats_of z)) h0 ∙ ap g.TuplePat (sym (pats_list ps)) ∙ sym (ap (λ z. erased_pat_form (region_pat_form z)) h ∙ ap erased_pat_form (region_pat_tuple ps))

ground_pat_list : (qs : List MPat) → ground_pat_form (vp.List qs) ≡ g.ListPat (g.pats_of (map ground_pat qs))
unfolding ground_pat ground_pat_form ground_exp ground_form ground_rule ground_piece ground_dec ground_bind ground_def
ground_pat_list qs = ap ground_pat_form (sym (vp.rolls-List qs)) ∙ fold-roll-MPatForm g.PatForm g.Pat g.pat_form_layer g.pat_layer (MPatForm-F.List qs)

region_pat_list : (ps : List RPat) → region_pat_form (xp.List ps) ≡ r.ListPat (r.pats_of (map region_pat ps))
unfolding region_pat region_pat_form region_exp region_form region_rule region_piece region_dec region_def region_bind
region_pat_list ps = ap region_pat_form (sym (xp.rolls-List ps)) ∙ fold-roll-RPatForm r.PatForm r.Pat r.pat_form_layer r.pat_layer (RPatForm-F.List ps)

pub list_pat_erased : (f : RPatForm) (ps : List RPat) (qs : List MPat) → f ≡ xp.List ps → map ground_pat qs ≡ map pat_erasure ps → ground_pat_form (vp.List qs) ≡ pat_form_erasure f
unfolding pat_form_erasure pat_erasure erased_pat
list_pat_erased f ps qs h h0 = ground_pat_list qs ∙ ap (λ z. g.ListPat (g.pats_of z)) h0 ∙ ap g.ListPat (sym (pats_list ps)) ∙ sym (ap (λ z. erased_pat_form (region_pat_form z)) h ∙ ap erased_pat_form (region_pat_list ps))

ground_pat_con : (c : Constructor) → ground_pat_form (vp.Con c) ≡ g.ConPat c
unfolding ground_pat ground_pat_form ground_exp ground_form ground_rule ground_piece ground_dec ground_bind ground_def
ground_pat_con c = ap ground_pat_form (sym (vp.rolls-Con c)) ∙ fold-roll-MPatForm g.PatForm g.Pat g.pat_form_layer g.pat_layer (MPatForm-F.Con c)

region_pat_con : (c : Constructor) → region_pat_form (xp.Con c) ≡ r.ConPat c
unfolding region_pat region_pat_form region_exp region_form region_rule region_piece region_dec region_def region_bind
region_pat_con c = ap region_pat_form (sym (xp.rolls-Con c)) ∙ fold-roll-RPatForm r.PatForm r.Pat r.pat_form_layer r.pat_layer (RPatForm-F.Con c)

pub con_pat_erased : (f : RPatForm) (c : Constructor) → f ≡ xp.Con c → ground_pat_form (vp.Con c) ≡ pat_form_erasure f
unfolding pat_form_erasure pat_erasure erased_pat
con_pat_erased f c h = ground_pat_con c ∙ sym (ap (λ z. erased_pat_form (region_pat_form z)) h ∙ ap erased_pat_form (region_pat_con c))

ground_pat_app : (c : Constructor) (q : MPat) → ground_pat_form (vp.App c q) ≡ g.AppPat c (ground_pat q)
unfolding ground_pat ground_pat_form ground_exp ground_form ground_rule ground_piece ground_dec ground_bind ground_def
ground_pat_app c q = ap ground_pat_form (sym (vp.rolls-App c q)) ∙ fold-roll-MPatForm g.PatForm g.Pat g.pat_form_layer g.pat_layer (MPatForm-F.App c q)

region_pat_app : (c : Constructor) (p : RPat) → region_pat_form (xp.App c p) ≡ r.AppPat c (region_pat p)
unfolding region_pat region_pat_form region_exp region_form region_rule region_piece region_dec region_def region_bind
region_pat_app c p = ap region_pat_form (sym (xp.rolls-App c p)) ∙ fold-roll-RPatForm r.PatForm r.Pat r.pat_form_layer r.pat_layer (RPatForm-F.App c p)

pub app_pat_erased : (f : RPatForm) (c : Constructor) (p : RPat) (q : MPat) → f ≡ xp.App c p → ground_pat q ≡ pat_erasure p → ground_pat_form (vp.App c q) ≡ pat_form_erasure f
unfolding pat_form_erasure pat_erasure erased_pat
app_pat_erased f c p q h h0 = ground_pat_app c q ∙ ap (g.AppPat c) h0 ∙ sym (ap (λ z. erased_pat_form (region_pat_form z)) h ∙ ap erased_pat_form (region_pat_app c p))

-- the expressions, form by form
ground_int : (n : ℤ) → ground_form (v.Int n) ≡ g.Int n
unfolding ground_pat ground_pat_form ground_exp ground_form ground_rule ground_piece ground_dec ground_bind ground_def
ground_int n = ap ground_form (sym (v.rolls-Int n)) ∙ fold-roll-MExpForm g.Dec g.Form g.Piece (g.Pat × g.Exp) (List ℕ × List (g.Pat × g.Exp)) g.Exp (g.Pat × g.Exp) g.dec_layer g.form_layer g.piece_layer g.bind_layer g.def_layer g.exp_layer g.rule_layer (MExpForm-F.Int n)

region_int : (n : ℤ) → region_form (x.Int n) ≡ r.Int n
unfolding region_pat region_pat_form region_exp region_form region_rule region_piece region_dec region_def region_bind
region_int n = ap region_form (sym (x.rolls-Int n)) ∙ fold-roll-RExpForm r.Dec r.Form r.Piece (r.Head × List (r.Pat × r.Exp)) (r.Pat × r.Exp) r.Exp (r.Pat × r.Exp) r.dec_layer r.form_layer r.piece_layer r.def_layer r.bind_layer r.exp_layer r.rule_layer (RExpForm-F.Int n)

pub int_erased : (t : GroundType) (f : RExpForm) (m : MExp) (n : ℤ) → f ≡ x.Int n → ground_exp m ≡ g.exp t (ground_form (v.Int n))
    → ground_exp m ≡ form_erasure t f
unfolding form_erasure exp_erasure erased_exp
int_erased t f m n h made = made ∙ ap (g.exp t) (ground_int n) ∙ sym (ap (λ z. erased_form t (region_form z)) h ∙ ap (erased_form t) (region_int n))

ground_char : (n : ℕ) → ground_form (v.Char n) ≡ g.Char n
unfolding ground_pat ground_pat_form ground_exp ground_form ground_rule ground_piece ground_dec ground_bind ground_def
ground_char n = ap ground_form (sym (v.rolls-Char n)) ∙ fold-roll-MExpForm g.Dec g.Form g.Piece (g.Pat × g.Exp) (List ℕ × List (g.Pat × g.Exp)) g.Exp (g.Pat × g.Exp) g.dec_layer g.form_layer g.piece_layer g.bind_layer g.def_layer g.exp_layer g.rule_layer (MExpForm-F.Char n)

region_char : (n : ℕ) → region_form (x.Char n) ≡ r.Char n
unfolding region_pat region_pat_form region_exp region_form region_rule region_piece region_dec region_def region_bind
region_char n = ap region_form (sym (x.rolls-Char n)) ∙ fold-roll-RExpForm r.Dec r.Form r.Piece (r.Head × List (r.Pat × r.Exp)) (r.Pat × r.Exp) r.Exp (r.Pat × r.Exp) r.dec_layer r.form_layer r.piece_layer r.def_layer r.bind_layer r.exp_layer r.rule_layer (RExpForm-F.Char n)

pub char_erased : (t : GroundType) (f : RExpForm) (m : MExp) (n : ℕ) → f ≡ x.Char n → ground_exp m ≡ g.exp t (ground_form (v.Char n))
    → ground_exp m ≡ form_erasure t f
unfolding form_erasure exp_erasure erased_exp
char_erased t f m n h made = made ∙ ap (g.exp t) (ground_char n) ∙ sym (ap (λ z. erased_form t (region_form z)) h ∙ ap (erased_form t) (region_char n))

ground_str : (s : List ℕ) → ground_form (v.Str s) ≡ g.Str s
unfolding ground_pat ground_pat_form ground_exp ground_form ground_rule ground_piece ground_dec ground_bind ground_def
ground_str s = ap ground_form (sym (v.rolls-Str s)) ∙ fold-roll-MExpForm g.Dec g.Form g.Piece (g.Pat × g.Exp) (List ℕ × List (g.Pat × g.Exp)) g.Exp (g.Pat × g.Exp) g.dec_layer g.form_layer g.piece_layer g.bind_layer g.def_layer g.exp_layer g.rule_layer (MExpForm-F.Str s)

region_str : (s : List ℕ) (at : Place) → region_form (x.Str s at) ≡ r.Str s at
unfolding region_pat region_pat_form region_exp region_form region_rule region_piece region_dec region_def region_bind
region_str s at = ap region_form (sym (x.rolls-Str s at)) ∙ fold-roll-RExpForm r.Dec r.Form r.Piece (r.Head × List (r.Pat × r.Exp)) (r.Pat × r.Exp) r.Exp (r.Pat × r.Exp) r.dec_layer r.form_layer r.piece_layer r.def_layer r.bind_layer r.exp_layer r.rule_layer (RExpForm-F.Str s at)

pub str_erased : (t : GroundType) (f : RExpForm) (m : MExp) (s : List ℕ) (at : Place) → f ≡ x.Str s at → ground_exp m ≡ g.exp t (ground_form (v.Str s))
    → ground_exp m ≡ form_erasure t f
unfolding form_erasure exp_erasure erased_exp
str_erased t f m s at h made = made ∙ ap (g.exp t) (ground_str s) ∙ sym (ap (λ z. erased_form t (region_form z)) h ∙ ap (erased_form t) (region_str s at))

ground_name : (s : List ℕ) → ground_form (v.Name s) ≡ g.Name s
unfolding ground_pat ground_pat_form ground_exp ground_form ground_rule ground_piece ground_dec ground_bind ground_def
ground_name s = ap ground_form (sym (v.rolls-Name s)) ∙ fold-roll-MExpForm g.Dec g.Form g.Piece (g.Pat × g.Exp) (List ℕ × List (g.Pat × g.Exp)) g.Exp (g.Pat × g.Exp) g.dec_layer g.form_layer g.piece_layer g.bind_layer g.def_layer g.exp_layer g.rule_layer (MExpForm-F.Name s)

region_name : (s : List ℕ) → region_form (x.Name s) ≡ r.Name s
unfolding region_pat region_pat_form region_exp region_form region_rule region_piece region_dec region_def region_bind
region_name s = ap region_form (sym (x.rolls-Name s)) ∙ fold-roll-RExpForm r.Dec r.Form r.Piece (r.Head × List (r.Pat × r.Exp)) (r.Pat × r.Exp) r.Exp (r.Pat × r.Exp) r.dec_layer r.form_layer r.piece_layer r.def_layer r.bind_layer r.exp_layer r.rule_layer (RExpForm-F.Name s)

pub name_erased : (t : GroundType) (f : RExpForm) (m : MExp) (s : List ℕ) → f ≡ x.Name s → ground_exp m ≡ g.exp t (ground_form (v.Name s))
    → ground_exp m ≡ form_erasure t f
unfolding form_erasure exp_erasure erased_exp
name_erased t f m s h made = made ∙ ap (g.exp t) (ground_name s) ∙ sym (ap (λ z. erased_form t (region_form z)) h ∙ ap (erased_form t) (region_name s))

ground_prim : (s : List ℕ) → ground_form (v.Prim s) ≡ g.Prim s
unfolding ground_pat ground_pat_form ground_exp ground_form ground_rule ground_piece ground_dec ground_bind ground_def
ground_prim s = ap ground_form (sym (v.rolls-Prim s)) ∙ fold-roll-MExpForm g.Dec g.Form g.Piece (g.Pat × g.Exp) (List ℕ × List (g.Pat × g.Exp)) g.Exp (g.Pat × g.Exp) g.dec_layer g.form_layer g.piece_layer g.bind_layer g.def_layer g.exp_layer g.rule_layer (MExpForm-F.Prim s)

region_prim : (s : List ℕ) → region_form (x.Prim s) ≡ r.Prim s
unfolding region_pat region_pat_form region_exp region_form region_rule region_piece region_dec region_def region_bind
region_prim s = ap region_form (sym (x.rolls-Prim s)) ∙ fold-roll-RExpForm r.Dec r.Form r.Piece (r.Head × List (r.Pat × r.Exp)) (r.Pat × r.Exp) r.Exp (r.Pat × r.Exp) r.dec_layer r.form_layer r.piece_layer r.def_layer r.bind_layer r.exp_layer r.rule_layer (RExpForm-F.Prim s)

pub prim_erased : (t : GroundType) (f : RExpForm) (m : MExp) (s : List ℕ) → f ≡ x.Prim s → ground_exp m ≡ g.exp t (ground_form (v.Prim s))
    → ground_exp m ≡ form_erasure t f
unfolding form_erasure exp_erasure erased_exp
prim_erased t f m s h made = made ∙ ap (g.exp t) (ground_prim s) ∙ sym (ap (λ z. erased_form t (region_form z)) h ∙ ap (erased_form t) (region_prim s))

ground_con : (c : Constructor) → ground_form (v.Con c) ≡ g.Con c
unfolding ground_pat ground_pat_form ground_exp ground_form ground_rule ground_piece ground_dec ground_bind ground_def
ground_con c = ap ground_form (sym (v.rolls-Con c)) ∙ fold-roll-MExpForm g.Dec g.Form g.Piece (g.Pat × g.Exp) (List ℕ × List (g.Pat × g.Exp)) g.Exp (g.Pat × g.Exp) g.dec_layer g.form_layer g.piece_layer g.bind_layer g.def_layer g.exp_layer g.rule_layer (MExpForm-F.Con c)

region_con : (c : Constructor) → region_form (x.Con c) ≡ r.Con c
unfolding region_pat region_pat_form region_exp region_form region_rule region_piece region_dec region_def region_bind
region_con c = ap region_form (sym (x.rolls-Con c)) ∙ fold-roll-RExpForm r.Dec r.Form r.Piece (r.Head × List (r.Pat × r.Exp)) (r.Pat × r.Exp) r.Exp (r.Pat × r.Exp) r.dec_layer r.form_layer r.piece_layer r.def_layer r.bind_layer r.exp_layer r.rule_layer (RExpForm-F.Con c)

pub con_erased : (t : GroundType) (f : RExpForm) (m : MExp) (c : Constructor) → f ≡ x.Con c → ground_exp m ≡ g.exp t (ground_form (v.Con c))
    → ground_exp m ≡ form_erasure t f
unfolding form_erasure exp_erasure erased_exp
con_erased t f m c h made = made ∙ ap (g.exp t) (ground_con c) ∙ sym (ap (λ z. erased_form t (region_form z)) h ∙ ap (erased_form t) (region_con c))

ground_unit : ground_form v.Unit ≡ g.Unit
unfolding ground_pat ground_pat_form ground_exp ground_form ground_rule ground_piece ground_dec ground_bind ground_def
ground_unit = ap ground_form (sym v.rolls-Unit) ∙ fold-roll-MExpForm g.Dec g.Form g.Piece (g.Pat × g.Exp) (List ℕ × List (g.Pat × g.Exp)) g.Exp (g.Pat × g.Exp) g.dec_layer g.form_layer g.piece_layer g.bind_layer g.def_layer g.exp_layer g.rule_layer MExpForm-F.Unit

region_unit : region_form x.Unit ≡ r.Unit
unfolding region_pat region_pat_form region_exp region_form region_rule region_piece region_dec region_def region_bind
region_unit = ap region_form (sym x.rolls-Unit) ∙ fold-roll-RExpForm r.Dec r.Form r.Piece (r.Head × List (r.Pat × r.Exp)) (r.Pat × r.Exp) r.Exp (r.Pat × r.Exp) r.dec_layer r.form_layer r.piece_layer r.def_layer r.bind_layer r.exp_layer r.rule_layer RExpForm-F.Unit

pub unit_erased : (t : GroundType) (f : RExpForm) (m : MExp) → f ≡ x.Unit → ground_exp m ≡ g.exp t (ground_form v.Unit)
    → ground_exp m ≡ form_erasure t f
unfolding form_erasure exp_erasure erased_exp
unit_erased t f m h made = made ∙ ap (g.exp t) (ground_unit) ∙ sym (ap (λ z. erased_form t (region_form z)) h ∙ ap (erased_form t) (region_unit))

ground_tuple : (qs : List MExp) → ground_form (v.Tuple qs) ≡ g.Tuple (g.exps_of (map ground_exp qs))
unfolding ground_pat ground_pat_form ground_exp ground_form ground_rule ground_piece ground_dec ground_bind ground_def
ground_tuple qs = ap ground_form (sym (v.rolls-Tuple qs)) ∙ fold-roll-MExpForm g.Dec g.Form g.Piece (g.Pat × g.Exp) (List ℕ × List (g.Pat × g.Exp)) g.Exp (g.Pat × g.Exp) g.dec_layer g.form_layer g.piece_layer g.bind_layer g.def_layer g.exp_layer g.rule_layer (MExpForm-F.Tuple qs)

region_tuple : (es : List RExp) (at : Place) → region_form (x.Tuple es at) ≡ r.Tuple (r.exps_of (map region_exp es)) at
unfolding region_pat region_pat_form region_exp region_form region_rule region_piece region_dec region_def region_bind
region_tuple es at = ap region_form (sym (x.rolls-Tuple es at)) ∙ fold-roll-RExpForm r.Dec r.Form r.Piece (r.Head × List (r.Pat × r.Exp)) (r.Pat × r.Exp) r.Exp (r.Pat × r.Exp) r.dec_layer r.form_layer r.piece_layer r.def_layer r.bind_layer r.exp_layer r.rule_layer (RExpForm-F.Tuple es at)

pub tuple_erased : (t : GroundType) (f : RExpForm) (m : MExp) (es : List RExp) (at : Place) (qs : List MExp) → f ≡ x.Tuple es at → map ground_exp qs ≡ map exp_erasure es → ground_exp m ≡ g.exp t (ground_form (v.Tuple qs))
    → ground_exp m ≡ form_erasure t f
unfolding form_erasure exp_erasure erased_exp
tuple_erased t f m es at qs h h0 made = made ∙ ap (g.exp t) (ground_tuple qs ∙ ap g.Tuple (ap g.exps_of h0 ∙ sym (exps_list es))) ∙ sym (ap (λ z. erased_form t (region_form z)) h ∙ ap (erased_form t) (region_tuple es at))

ground_list : (qs : List MExp) → ground_form (v.List qs) ≡ g.List_of (g.exps_of (map ground_exp qs))
unfolding ground_pat ground_pat_form ground_exp ground_form ground_rule ground_piece ground_dec ground_bind ground_def
ground_list qs = ap ground_form (sym (v.rolls-List qs)) ∙ fold-roll-MExpForm g.Dec g.Form g.Piece (g.Pat × g.Exp) (List ℕ × List (g.Pat × g.Exp)) g.Exp (g.Pat × g.Exp) g.dec_layer g.form_layer g.piece_layer g.bind_layer g.def_layer g.exp_layer g.rule_layer (MExpForm-F.List qs)

region_list : (es : List RExp) (at : Place) → region_form (x.List es at) ≡ r.List_of (r.exps_of (map region_exp es)) at
unfolding region_pat region_pat_form region_exp region_form region_rule region_piece region_dec region_def region_bind
region_list es at = ap region_form (sym (x.rolls-List es at)) ∙ fold-roll-RExpForm r.Dec r.Form r.Piece (r.Head × List (r.Pat × r.Exp)) (r.Pat × r.Exp) r.Exp (r.Pat × r.Exp) r.dec_layer r.form_layer r.piece_layer r.def_layer r.bind_layer r.exp_layer r.rule_layer (RExpForm-F.List es at)

pub list_erased : (t : GroundType) (f : RExpForm) (m : MExp) (es : List RExp) (at : Place) (qs : List MExp) → f ≡ x.List es at → map ground_exp qs ≡ map exp_erasure es → ground_exp m ≡ g.exp t (ground_form (v.List qs))
    → ground_exp m ≡ form_erasure t f
unfolding form_erasure exp_erasure erased_exp
list_erased t f m es at qs h h0 made = made ∙ ap (g.exp t) (ground_list qs ∙ ap g.List_of (ap g.exps_of h0 ∙ sym (exps_list es))) ∙ sym (ap (λ z. erased_form t (region_form z)) h ∙ ap (erased_form t) (region_list es at))

ground_seq : (qs : List MExp) → ground_form (v.Seq qs) ≡ g.Seq (g.exps_of (map ground_exp qs))
unfolding ground_pat ground_pat_form ground_exp ground_form ground_rule ground_piece ground_dec ground_bind ground_def
ground_seq qs = ap ground_form (sym (v.rolls-Seq qs)) ∙ fold-roll-MExpForm g.Dec g.Form g.Piece (g.Pat × g.Exp) (List ℕ × List (g.Pat × g.Exp)) g.Exp (g.Pat × g.Exp) g.dec_layer g.form_layer g.piece_layer g.bind_layer g.def_layer g.exp_layer g.rule_layer (MExpForm-F.Seq qs)

region_seq : (es : List RExp) → region_form (x.Seq es) ≡ r.Seq (r.exps_of (map region_exp es))
unfolding region_pat region_pat_form region_exp region_form region_rule region_piece region_dec region_def region_bind
region_seq es = ap region_form (sym (x.rolls-Seq es)) ∙ fold-roll-RExpForm r.Dec r.Form r.Piece (r.Head × List (r.Pat × r.Exp)) (r.Pat × r.Exp) r.Exp (r.Pat × r.Exp) r.dec_layer r.form_layer r.piece_layer r.def_layer r.bind_layer r.exp_layer r.rule_layer (RExpForm-F.Seq es)

pub seq_erased : (t : GroundType) (f : RExpForm) (m : MExp) (es : List RExp) (qs : List MExp) → f ≡ x.Seq es → map ground_exp qs ≡ map exp_erasure es → ground_exp m ≡ g.exp t (ground_form (v.Seq qs))
    → ground_exp m ≡ form_erasure t f
unfolding form_erasure exp_erasure erased_exp
seq_erased t f m es qs h h0 made = made ∙ ap (g.exp t) (ground_seq qs ∙ ap g.Seq (ap g.exps_of h0 ∙ sym (exps_list es))) ∙ sym (ap (λ z. erased_form t (region_form z)) h ∙ ap (erased_form t) (region_seq es))

ground_app : (y z : MExp) → ground_form (v.App y z) ≡ g.App (ground_exp y) (ground_exp z)
unfolding ground_pat ground_pat_form ground_exp ground_form ground_rule ground_piece ground_dec ground_bind ground_def
ground_app y z = ap ground_form (sym (v.rolls-App y z)) ∙ fold-roll-MExpForm g.Dec g.Form g.Piece (g.Pat × g.Exp) (List ℕ × List (g.Pat × g.Exp)) g.Exp (g.Pat × g.Exp) g.dec_layer g.form_layer g.piece_layer g.bind_layer g.def_layer g.exp_layer g.rule_layer (MExpForm-F.App y z)

region_app : (a b : RExp) → region_form (x.App a b) ≡ r.App (region_exp a) (region_exp b)
unfolding region_pat region_pat_form region_exp region_form region_rule region_piece region_dec region_def region_bind
region_app a b = ap region_form (sym (x.rolls-App a b)) ∙ fold-roll-RExpForm r.Dec r.Form r.Piece (r.Head × List (r.Pat × r.Exp)) (r.Pat × r.Exp) r.Exp (r.Pat × r.Exp) r.dec_layer r.form_layer r.piece_layer r.def_layer r.bind_layer r.exp_layer r.rule_layer (RExpForm-F.App a b)

pub app_erased : (t : GroundType) (f : RExpForm) (m : MExp) (a b : RExp) (y z : MExp) → f ≡ x.App a b → ground_exp y ≡ exp_erasure a → ground_exp z ≡ exp_erasure b → ground_exp m ≡ g.exp t (ground_form (v.App y z))
    → ground_exp m ≡ form_erasure t f
unfolding form_erasure exp_erasure erased_exp
app_erased t f m a b y z h h0 h1 made = made ∙ ap (g.exp t) (ground_app y z ∙ ap₂ g.App h0 h1) ∙ sym (ap (λ z. erased_form t (region_form z)) h ∙ ap (erased_form t) (region_app a b))

ground_let : (ys : List MDec) (qs : List MExp) → ground_form (v.Let ys qs) ≡ g.Let (g.decs_of (map ground_dec ys)) (g.exps_of (map ground_exp qs))
unfolding ground_pat ground_pat_form ground_exp ground_form ground_rule ground_piece ground_dec ground_bind ground_def
ground_let ys qs = ap ground_form (sym (v.rolls-Let ys qs)) ∙ fold-roll-MExpForm g.Dec g.Form g.Piece (g.Pat × g.Exp) (List ℕ × List (g.Pat × g.Exp)) g.Exp (g.Pat × g.Exp) g.dec_layer g.form_layer g.piece_layer g.bind_layer g.def_layer g.exp_layer g.rule_layer (MExpForm-F.Let ys qs)

region_let : (ds : List RDec) (es : List RExp) → region_form (x.Let ds es) ≡ r.Let (r.decs_of (map region_dec ds)) (r.exps_of (map region_exp es))
unfolding region_pat region_pat_form region_exp region_form region_rule region_piece region_dec region_def region_bind
region_let ds es = ap region_form (sym (x.rolls-Let ds es)) ∙ fold-roll-RExpForm r.Dec r.Form r.Piece (r.Head × List (r.Pat × r.Exp)) (r.Pat × r.Exp) r.Exp (r.Pat × r.Exp) r.dec_layer r.form_layer r.piece_layer r.def_layer r.bind_layer r.exp_layer r.rule_layer (RExpForm-F.Let ds es)

pub let_erased : (t : GroundType) (f : RExpForm) (m : MExp) (ds : List RDec) (es : List RExp) (ys : List MDec) (qs : List MExp) → f ≡ x.Let ds es → map ground_dec ys ≡ map dec_erasure ds → map ground_exp qs ≡ map exp_erasure es → ground_exp m ≡ g.exp t (ground_form (v.Let ys qs))
    → ground_exp m ≡ form_erasure t f
unfolding form_erasure exp_erasure erased_exp
let_erased t f m ds es ys qs h h0 h1 made = made ∙ ap (g.exp t) (ground_let ys qs ∙ ap₂ g.Let (ap g.decs_of h0 ∙ sym (decs_trees ds)) (ap g.exps_of h1 ∙ sym (exps_list es))) ∙ sym (ap (λ z. erased_form t (region_form z)) h ∙ ap (erased_form t) (region_let ds es))

ground_fn : (qs : List MRule) → ground_form (v.Fn qs) ≡ g.Fn (g.rules_of (map ground_rule qs))
unfolding ground_pat ground_pat_form ground_exp ground_form ground_rule ground_piece ground_dec ground_bind ground_def
ground_fn qs = ap ground_form (sym (v.rolls-Fn qs)) ∙ fold-roll-MExpForm g.Dec g.Form g.Piece (g.Pat × g.Exp) (List ℕ × List (g.Pat × g.Exp)) g.Exp (g.Pat × g.Exp) g.dec_layer g.form_layer g.piece_layer g.bind_layer g.def_layer g.exp_layer g.rule_layer (MExpForm-F.Fn qs)

region_fn : (rs : List RRule) (at : Place) → region_form (x.Fn rs at) ≡ r.Fn (r.rules_of (map region_rule rs)) at
unfolding region_pat region_pat_form region_exp region_form region_rule region_piece region_dec region_def region_bind
region_fn rs at = ap region_form (sym (x.rolls-Fn rs at)) ∙ fold-roll-RExpForm r.Dec r.Form r.Piece (r.Head × List (r.Pat × r.Exp)) (r.Pat × r.Exp) r.Exp (r.Pat × r.Exp) r.dec_layer r.form_layer r.piece_layer r.def_layer r.bind_layer r.exp_layer r.rule_layer (RExpForm-F.Fn rs at)

pub fn_erased : (t : GroundType) (f : RExpForm) (m : MExp) (rs : List RRule) (at : Place) (qs : List MRule) → f ≡ x.Fn rs at → map ground_rule qs ≡ map rule_erasure rs → ground_exp m ≡ g.exp t (ground_form (v.Fn qs))
    → ground_exp m ≡ form_erasure t f
unfolding form_erasure exp_erasure erased_exp
fn_erased t f m rs at qs h h0 made = made ∙ ap (g.exp t) (ground_fn qs ∙ ap g.Fn (ap g.rules_of h0 ∙ sym (rules_list rs))) ∙ sym (ap (λ z. erased_form t (region_form z)) h ∙ ap (erased_form t) (region_fn rs at))

ground_case : (y : MExp) (qs : List MRule) → ground_form (v.Case y qs) ≡ g.Case (ground_exp y) (g.rules_of (map ground_rule qs))
unfolding ground_pat ground_pat_form ground_exp ground_form ground_rule ground_piece ground_dec ground_bind ground_def
ground_case y qs = ap ground_form (sym (v.rolls-Case y qs)) ∙ fold-roll-MExpForm g.Dec g.Form g.Piece (g.Pat × g.Exp) (List ℕ × List (g.Pat × g.Exp)) g.Exp (g.Pat × g.Exp) g.dec_layer g.form_layer g.piece_layer g.bind_layer g.def_layer g.exp_layer g.rule_layer (MExpForm-F.Case y qs)

region_case : (a : RExp) (rs : List RRule) → region_form (x.Case a rs) ≡ r.Case (region_exp a) (r.rules_of (map region_rule rs))
unfolding region_pat region_pat_form region_exp region_form region_rule region_piece region_dec region_def region_bind
region_case a rs = ap region_form (sym (x.rolls-Case a rs)) ∙ fold-roll-RExpForm r.Dec r.Form r.Piece (r.Head × List (r.Pat × r.Exp)) (r.Pat × r.Exp) r.Exp (r.Pat × r.Exp) r.dec_layer r.form_layer r.piece_layer r.def_layer r.bind_layer r.exp_layer r.rule_layer (RExpForm-F.Case a rs)

pub case_erased : (t : GroundType) (f : RExpForm) (m : MExp) (a : RExp) (rs : List RRule) (y : MExp) (qs : List MRule) → f ≡ x.Case a rs → ground_exp y ≡ exp_erasure a → map ground_rule qs ≡ map rule_erasure rs → ground_exp m ≡ g.exp t (ground_form (v.Case y qs))
    → ground_exp m ≡ form_erasure t f
unfolding form_erasure exp_erasure erased_exp
case_erased t f m a rs y qs h h0 h1 made = made ∙ ap (g.exp t) (ground_case y qs ∙ ap₂ g.Case h0 (ap g.rules_of h1 ∙ sym (rules_list rs))) ∙ sym (ap (λ z. erased_form t (region_form z)) h ∙ ap (erased_form t) (region_case a rs))

ground_handle : (y : MExp) (qs : List MRule) → ground_form (v.Handle y qs) ≡ g.Handle (ground_exp y) (g.rules_of (map ground_rule qs))
unfolding ground_pat ground_pat_form ground_exp ground_form ground_rule ground_piece ground_dec ground_bind ground_def
ground_handle y qs = ap ground_form (sym (v.rolls-Handle y qs)) ∙ fold-roll-MExpForm g.Dec g.Form g.Piece (g.Pat × g.Exp) (List ℕ × List (g.Pat × g.Exp)) g.Exp (g.Pat × g.Exp) g.dec_layer g.form_layer g.piece_layer g.bind_layer g.def_layer g.exp_layer g.rule_layer (MExpForm-F.Handle y qs)

region_handle : (a : RExp) (rs : List RRule) → region_form (x.Handle a rs) ≡ r.Handle (region_exp a) (r.rules_of (map region_rule rs))
unfolding region_pat region_pat_form region_exp region_form region_rule region_piece region_dec region_def region_bind
region_handle a rs = ap region_form (sym (x.rolls-Handle a rs)) ∙ fold-roll-RExpForm r.Dec r.Form r.Piece (r.Head × List (r.Pat × r.Exp)) (r.Pat × r.Exp) r.Exp (r.Pat × r.Exp) r.dec_layer r.form_layer r.piece_layer r.def_layer r.bind_layer r.exp_layer r.rule_layer (RExpForm-F.Handle a rs)

pub handle_erased : (t : GroundType) (f : RExpForm) (m : MExp) (a : RExp) (rs : List RRule) (y : MExp) (qs : List MRule) → f ≡ x.Handle a rs → ground_exp y ≡ exp_erasure a → map ground_rule qs ≡ map rule_erasure rs → ground_exp m ≡ g.exp t (ground_form (v.Handle y qs))
    → ground_exp m ≡ form_erasure t f
unfolding form_erasure exp_erasure erased_exp
handle_erased t f m a rs y qs h h0 h1 made = made ∙ ap (g.exp t) (ground_handle y qs ∙ ap₂ g.Handle h0 (ap g.rules_of h1 ∙ sym (rules_list rs))) ∙ sym (ap (λ z. erased_form t (region_form z)) h ∙ ap (erased_form t) (region_handle a rs))

ground_raise : (y : MExp) → ground_form (v.Raise y) ≡ g.Raise (ground_exp y)
unfolding ground_pat ground_pat_form ground_exp ground_form ground_rule ground_piece ground_dec ground_bind ground_def
ground_raise y = ap ground_form (sym (v.rolls-Raise y)) ∙ fold-roll-MExpForm g.Dec g.Form g.Piece (g.Pat × g.Exp) (List ℕ × List (g.Pat × g.Exp)) g.Exp (g.Pat × g.Exp) g.dec_layer g.form_layer g.piece_layer g.bind_layer g.def_layer g.exp_layer g.rule_layer (MExpForm-F.Raise y)

region_raise : (a : RExp) → region_form (x.Raise a) ≡ r.Raise (region_exp a)
unfolding region_pat region_pat_form region_exp region_form region_rule region_piece region_dec region_def region_bind
region_raise a = ap region_form (sym (x.rolls-Raise a)) ∙ fold-roll-RExpForm r.Dec r.Form r.Piece (r.Head × List (r.Pat × r.Exp)) (r.Pat × r.Exp) r.Exp (r.Pat × r.Exp) r.dec_layer r.form_layer r.piece_layer r.def_layer r.bind_layer r.exp_layer r.rule_layer (RExpForm-F.Raise a)

pub raise_erased : (t : GroundType) (f : RExpForm) (m : MExp) (a : RExp) (y : MExp) → f ≡ x.Raise a → ground_exp y ≡ exp_erasure a → ground_exp m ≡ g.exp t (ground_form (v.Raise y))
    → ground_exp m ≡ form_erasure t f
unfolding form_erasure exp_erasure erased_exp
raise_erased t f m a y h h0 made = made ∙ ap (g.exp t) (ground_raise y ∙ ap g.Raise h0) ∙ sym (ap (λ z. erased_form t (region_form z)) h ∙ ap (erased_form t) (region_raise a))

ground_if : (y z w : MExp) → ground_form (v.If y z w) ≡ g.If (ground_exp y) (ground_exp z) (ground_exp w)
unfolding ground_pat ground_pat_form ground_exp ground_form ground_rule ground_piece ground_dec ground_bind ground_def
ground_if y z w = ap ground_form (sym (v.rolls-If y z w)) ∙ fold-roll-MExpForm g.Dec g.Form g.Piece (g.Pat × g.Exp) (List ℕ × List (g.Pat × g.Exp)) g.Exp (g.Pat × g.Exp) g.dec_layer g.form_layer g.piece_layer g.bind_layer g.def_layer g.exp_layer g.rule_layer (MExpForm-F.If y z w)

region_if : (a b c : RExp) → region_form (x.If a b c) ≡ r.If (region_exp a) (region_exp b) (region_exp c)
unfolding region_pat region_pat_form region_exp region_form region_rule region_piece region_dec region_def region_bind
region_if a b c = ap region_form (sym (x.rolls-If a b c)) ∙ fold-roll-RExpForm r.Dec r.Form r.Piece (r.Head × List (r.Pat × r.Exp)) (r.Pat × r.Exp) r.Exp (r.Pat × r.Exp) r.dec_layer r.form_layer r.piece_layer r.def_layer r.bind_layer r.exp_layer r.rule_layer (RExpForm-F.If a b c)

pub if_erased : (t : GroundType) (f : RExpForm) (m : MExp) (a b c : RExp) (y z w : MExp) → f ≡ x.If a b c → ground_exp y ≡ exp_erasure a → ground_exp z ≡ exp_erasure b → ground_exp w ≡ exp_erasure c → ground_exp m ≡ g.exp t (ground_form (v.If y z w))
    → ground_exp m ≡ form_erasure t f
unfolding form_erasure exp_erasure erased_exp
if_erased t f m a b c y z w h h0 h1 h2 made = made ∙ ap (g.exp t) (ground_if y z w ∙ (λ i. g.If (h0 i) (h1 i) (h2 i))) ∙ sym (ap (λ z. erased_form t (region_form z)) h ∙ ap (erased_form t) (region_if a b c))

pub if_result : {E : Type 0} (o : Result MExp E) (t : GroundType) (f : RExpForm) (a b c : RExp) (y z w : MExp) → IfOk o (λ m. ground_exp m ≡ g.exp t (ground_form (v.If y z w))) → f ≡ x.If a b c
    → ground_exp y ≡ exp_erasure a → ground_exp z ≡ exp_erasure b → ground_exp w ≡ exp_erasure c → IfOk o (λ m. ground_exp m ≡ form_erasure t f)
if_result (Ok m) t f a b c y z w made h h0 h1 h2 = if_erased t f m a b c y z w h h0 h1 h2 made
if_result (Err e) t f a b c y z w made h h0 h1 h2 = tt

ground_both : (y z : MExp) → ground_form (v.Both y z) ≡ g.Both (ground_exp y) (ground_exp z)
unfolding ground_pat ground_pat_form ground_exp ground_form ground_rule ground_piece ground_dec ground_bind ground_def
ground_both y z = ap ground_form (sym (v.rolls-Both y z)) ∙ fold-roll-MExpForm g.Dec g.Form g.Piece (g.Pat × g.Exp) (List ℕ × List (g.Pat × g.Exp)) g.Exp (g.Pat × g.Exp) g.dec_layer g.form_layer g.piece_layer g.bind_layer g.def_layer g.exp_layer g.rule_layer (MExpForm-F.Both y z)

region_both : (a b : RExp) → region_form (x.Both a b) ≡ r.Both (region_exp a) (region_exp b)
unfolding region_pat region_pat_form region_exp region_form region_rule region_piece region_dec region_def region_bind
region_both a b = ap region_form (sym (x.rolls-Both a b)) ∙ fold-roll-RExpForm r.Dec r.Form r.Piece (r.Head × List (r.Pat × r.Exp)) (r.Pat × r.Exp) r.Exp (r.Pat × r.Exp) r.dec_layer r.form_layer r.piece_layer r.def_layer r.bind_layer r.exp_layer r.rule_layer (RExpForm-F.Both a b)

pub both_erased : (t : GroundType) (f : RExpForm) (m : MExp) (a b : RExp) (y z : MExp) → f ≡ x.Both a b → ground_exp y ≡ exp_erasure a → ground_exp z ≡ exp_erasure b → ground_exp m ≡ g.exp t (ground_form (v.Both y z))
    → ground_exp m ≡ form_erasure t f
unfolding form_erasure exp_erasure erased_exp
both_erased t f m a b y z h h0 h1 made = made ∙ ap (g.exp t) (ground_both y z ∙ ap₂ g.Both h0 h1) ∙ sym (ap (λ z. erased_form t (region_form z)) h ∙ ap (erased_form t) (region_both a b))

ground_either : (y z : MExp) → ground_form (v.Either y z) ≡ g.Either (ground_exp y) (ground_exp z)
unfolding ground_pat ground_pat_form ground_exp ground_form ground_rule ground_piece ground_dec ground_bind ground_def
ground_either y z = ap ground_form (sym (v.rolls-Either y z)) ∙ fold-roll-MExpForm g.Dec g.Form g.Piece (g.Pat × g.Exp) (List ℕ × List (g.Pat × g.Exp)) g.Exp (g.Pat × g.Exp) g.dec_layer g.form_layer g.piece_layer g.bind_layer g.def_layer g.exp_layer g.rule_layer (MExpForm-F.Either y z)

region_either : (a b : RExp) → region_form (x.Either a b) ≡ r.Either (region_exp a) (region_exp b)
unfolding region_pat region_pat_form region_exp region_form region_rule region_piece region_dec region_def region_bind
region_either a b = ap region_form (sym (x.rolls-Either a b)) ∙ fold-roll-RExpForm r.Dec r.Form r.Piece (r.Head × List (r.Pat × r.Exp)) (r.Pat × r.Exp) r.Exp (r.Pat × r.Exp) r.dec_layer r.form_layer r.piece_layer r.def_layer r.bind_layer r.exp_layer r.rule_layer (RExpForm-F.Either a b)

pub either_erased : (t : GroundType) (f : RExpForm) (m : MExp) (a b : RExp) (y z : MExp) → f ≡ x.Either a b → ground_exp y ≡ exp_erasure a → ground_exp z ≡ exp_erasure b → ground_exp m ≡ g.exp t (ground_form (v.Either y z))
    → ground_exp m ≡ form_erasure t f
unfolding form_erasure exp_erasure erased_exp
either_erased t f m a b y z h h0 h1 made = made ∙ ap (g.exp t) (ground_either y z ∙ ap₂ g.Either h0 h1) ∙ sym (ap (λ z. erased_form t (region_form z)) h ∙ ap (erased_form t) (region_either a b))

ground_quote : (qs : List MPiece) → ground_form (v.Quote qs) ≡ g.Quote (g.pieces_of (map ground_piece qs))
unfolding ground_pat ground_pat_form ground_exp ground_form ground_rule ground_piece ground_dec ground_bind ground_def
ground_quote qs = ap ground_form (sym (v.rolls-Quote qs)) ∙ fold-roll-MExpForm g.Dec g.Form g.Piece (g.Pat × g.Exp) (List ℕ × List (g.Pat × g.Exp)) g.Exp (g.Pat × g.Exp) g.dec_layer g.form_layer g.piece_layer g.bind_layer g.def_layer g.exp_layer g.rule_layer (MExpForm-F.Quote qs)

region_quote : (ps : List RPiece) (at : Place) → region_form (x.Quote ps at) ≡ r.Quote (r.pieces_of (map region_piece ps)) at
unfolding region_pat region_pat_form region_exp region_form region_rule region_piece region_dec region_def region_bind
region_quote ps at = ap region_form (sym (x.rolls-Quote ps at)) ∙ fold-roll-RExpForm r.Dec r.Form r.Piece (r.Head × List (r.Pat × r.Exp)) (r.Pat × r.Exp) r.Exp (r.Pat × r.Exp) r.dec_layer r.form_layer r.piece_layer r.def_layer r.bind_layer r.exp_layer r.rule_layer (RExpForm-F.Quote ps at)

pub quote_erased : (t : GroundType) (f : RExpForm) (m : MExp) (ps : List RPiece) (at : Place) (qs : List MPiece) → f ≡ x.Quote ps at → map ground_piece qs ≡ map piece_erasure ps → ground_exp m ≡ g.exp t (ground_form (v.Quote qs))
    → ground_exp m ≡ form_erasure t f
unfolding form_erasure exp_erasure erased_exp
quote_erased t f m ps at qs h h0 made = made ∙ ap (g.exp t) (ground_quote qs ∙ ap g.Quote (ap g.pieces_of h0 ∙ sym (pieces_trees ps))) ∙ sym (ap (λ z. erased_form t (region_form z)) h ∙ ap (erased_form t) (region_quote ps at))

region_letregion : (rs : List ℕ) (a : RExp) → region_form (x.LetRegion rs a) ≡ r.LetRegion rs (region_exp a)
unfolding region_pat region_pat_form region_exp region_form region_rule region_piece region_dec region_def region_bind
region_letregion rs a = ap region_form (sym (x.rolls-LetRegion rs a)) ∙ fold-roll-RExpForm r.Dec r.Form r.Piece (r.Head × List (r.Pat × r.Exp)) (r.Pat × r.Exp) r.Exp (r.Pat × r.Exp) r.dec_layer r.form_layer r.piece_layer r.def_layer r.bind_layer r.exp_layer r.rule_layer (RExpForm-F.LetRegion rs a)

region_fix : (ds : List FixDef) (a : RExp) → region_form (x.Fix ds a) ≡ r.Fix (r.defs_of (map region_def ds)) (region_exp a)
unfolding region_pat region_pat_form region_exp region_form region_rule region_piece region_dec region_def region_bind
region_fix ds a = ap region_form (sym (x.rolls-Fix ds a)) ∙ fold-roll-RExpForm r.Dec r.Form r.Piece (r.Head × List (r.Pat × r.Exp)) (r.Pat × r.Exp) r.Exp (r.Pat × r.Exp) r.dec_layer r.form_layer r.piece_layer r.def_layer r.bind_layer r.exp_layer r.rule_layer (RExpForm-F.Fix ds a)

region_inst : (s : List ℕ) (ps : List Place) (fs : List Effect) → region_form (x.Inst s ps fs) ≡ r.Inst s ps fs
unfolding region_pat region_pat_form region_exp region_form region_rule region_piece region_dec region_def region_bind
region_inst s ps fs = ap region_form (sym (x.rolls-Inst s ps fs)) ∙ fold-roll-RExpForm r.Dec r.Form r.Piece (r.Head × List (r.Pat × r.Exp)) (r.Pat × r.Exp) r.Exp (r.Pat × r.Exp) r.dec_layer r.form_layer r.piece_layer r.def_layer r.bind_layer r.exp_layer r.rule_layer (RExpForm-F.Inst s ps fs)

ground_val : (bs : List MBind) → ground_dec (vd.Val bs) ≡ g.val_dec (g.rules_of (map ground_bind bs))
unfolding ground_pat ground_pat_form ground_exp ground_form ground_rule ground_piece ground_dec ground_bind ground_def
ground_val bs = ap ground_dec (sym (vd.rolls-Val bs)) ∙ fold-roll-MDec g.Dec g.Form g.Piece (g.Pat × g.Exp) (List ℕ × List (g.Pat × g.Exp)) g.Exp (g.Pat × g.Exp) g.dec_layer g.form_layer g.piece_layer g.bind_layer g.def_layer g.exp_layer g.rule_layer (MDec-F.Val bs)

ground_fun : (ds : List MDef) → ground_dec (vd.ValRec ds) ≡ g.fun_dec (g.defs_of (map ground_def ds))
unfolding ground_pat ground_pat_form ground_exp ground_form ground_rule ground_piece ground_dec ground_bind ground_def
ground_fun ds = ap ground_dec (sym (vd.rolls-ValRec ds)) ∙ fold-roll-MDec g.Dec g.Form g.Piece (g.Pat × g.Exp) (List ℕ × List (g.Pat × g.Exp)) g.Exp (g.Pat × g.Exp) g.dec_layer g.form_layer g.piece_layer g.bind_layer g.def_layer g.exp_layer g.rule_layer (MDec-F.ValRec ds)

ground_local : (hs bs : List MDec) → ground_dec (vd.Local hs bs) ≡ g.local_dec (g.decs_of (map ground_dec hs)) (g.decs_of (map ground_dec bs))
unfolding ground_pat ground_pat_form ground_exp ground_form ground_rule ground_piece ground_dec ground_bind ground_def
ground_local hs bs = ap ground_dec (sym (vd.rolls-Local hs bs)) ∙ fold-roll-MDec g.Dec g.Form g.Piece (g.Pat × g.Exp) (List ℕ × List (g.Pat × g.Exp)) g.Exp (g.Pat × g.Exp) g.dec_layer g.form_layer g.piece_layer g.bind_layer g.def_layer g.exp_layer g.rule_layer (MDec-F.Local hs bs)

region_val : (bs : List RBind) → region_dec (xd.Val bs) ≡ r.val_dec (r.rules_of (map region_bind bs))
unfolding region_pat region_pat_form region_exp region_form region_rule region_piece region_dec region_def region_bind
region_val bs = ap region_dec (sym (xd.rolls-Val bs)) ∙ fold-roll-RDec r.Dec r.Form r.Piece (r.Head × List (r.Pat × r.Exp)) (r.Pat × r.Exp) r.Exp (r.Pat × r.Exp) r.dec_layer r.form_layer r.piece_layer r.def_layer r.bind_layer r.exp_layer r.rule_layer (RDec-F.Val bs)

region_fun : (ds : List FixDef) → region_dec (xd.ValRec ds) ≡ r.fun_dec (r.defs_of (map region_def ds))
unfolding region_pat region_pat_form region_exp region_form region_rule region_piece region_dec region_def region_bind
region_fun ds = ap region_dec (sym (xd.rolls-ValRec ds)) ∙ fold-roll-RDec r.Dec r.Form r.Piece (r.Head × List (r.Pat × r.Exp)) (r.Pat × r.Exp) r.Exp (r.Pat × r.Exp) r.dec_layer r.form_layer r.piece_layer r.def_layer r.bind_layer r.exp_layer r.rule_layer (RDec-F.ValRec ds)

region_local : (hs bs : List RDec) → region_dec (xd.Local hs bs) ≡ r.local_dec (r.decs_of (map region_dec hs)) (r.decs_of (map region_dec bs))
unfolding region_pat region_pat_form region_exp region_form region_rule region_piece region_dec region_def region_bind
region_local hs bs = ap region_dec (sym (xd.rolls-Local hs bs)) ∙ fold-roll-RDec r.Dec r.Form r.Piece (r.Head × List (r.Pat × r.Exp)) (r.Pat × r.Exp) r.Exp (r.Pat × r.Exp) r.dec_layer r.form_layer r.piece_layer r.def_layer r.bind_layer r.exp_layer r.rule_layer (RDec-F.Local hs bs)

ground_plain : (s : List ℕ) → ground_piece (vq.Plain s) ≡ g.plain_piece s
unfolding ground_pat ground_pat_form ground_exp ground_form ground_rule ground_piece ground_dec ground_bind ground_def
ground_plain s = ap ground_piece (sym (vq.rolls-Plain s)) ∙ fold-roll-MPiece g.Dec g.Form g.Piece (g.Pat × g.Exp) (List ℕ × List (g.Pat × g.Exp)) g.Exp (g.Pat × g.Exp) g.dec_layer g.form_layer g.piece_layer g.bind_layer g.def_layer g.exp_layer g.rule_layer (MPiece-F.Plain s)

ground_anti : (y : MExp) → ground_piece (vq.Anti y) ≡ g.anti_piece (ground_exp y)
unfolding ground_pat ground_pat_form ground_exp ground_form ground_rule ground_piece ground_dec ground_bind ground_def
ground_anti y = ap ground_piece (sym (vq.rolls-Anti y)) ∙ fold-roll-MPiece g.Dec g.Form g.Piece (g.Pat × g.Exp) (List ℕ × List (g.Pat × g.Exp)) g.Exp (g.Pat × g.Exp) g.dec_layer g.form_layer g.piece_layer g.bind_layer g.def_layer g.exp_layer g.rule_layer (MPiece-F.Anti y)

region_plain : (s : List ℕ) → region_piece (xq.Plain s) ≡ r.plain_piece s
unfolding region_pat region_pat_form region_exp region_form region_rule region_piece region_dec region_def region_bind
region_plain s = ap region_piece (sym (xq.rolls-Plain s)) ∙ fold-roll-RPiece r.Dec r.Form r.Piece (r.Head × List (r.Pat × r.Exp)) (r.Pat × r.Exp) r.Exp (r.Pat × r.Exp) r.dec_layer r.form_layer r.piece_layer r.def_layer r.bind_layer r.exp_layer r.rule_layer (RPiece-F.Plain s)

region_anti : (y : RExp) → region_piece (xq.Anti y) ≡ r.anti_piece (region_exp y)
unfolding region_pat region_pat_form region_exp region_form region_rule region_piece region_dec region_def region_bind
region_anti y = ap region_piece (sym (xq.rolls-Anti y)) ∙ fold-roll-RPiece r.Dec r.Form r.Piece (r.Head × List (r.Pat × r.Exp)) (r.Pat × r.Exp) r.Exp (r.Pat × r.Exp) r.dec_layer r.form_layer r.piece_layer r.def_layer r.bind_layer r.exp_layer r.rule_layer (RPiece-F.Anti y)

pub letregion_erased : (t : GroundType) (f : RExpForm) (m : MExp) (rs : List ℕ) (a : RExp) → f ≡ x.LetRegion rs a → ground_exp m ≡ exp_erasure a → ground_exp m ≡ form_erasure t f
unfolding form_erasure exp_erasure erased_exp
letregion_erased t f m rs a h h0 = h0 ∙ sym (ap (λ z. erased_form t (region_form z)) h ∙ ap (erased_form t) (region_letregion rs a))

pub fix_erased : (t : GroundType) (f : RExpForm) (m : MExp) (ds : List FixDef) (a : RExp) (group : List MDef) (ys : List MDec) (y : MExp) (qs : List MExp)
    → f ≡ x.Fix ds a → map ground_def group ≡ map def_erasure ds → ground_exp y ≡ exp_erasure a → ys ≡ vd.ValRec group ∷ [] → qs ≡ y ∷ []
    → ground_exp m ≡ g.exp t (ground_form (v.Let ys qs)) → ground_exp m ≡ form_erasure t f
unfolding form_erasure exp_erasure erased_exp
fix_erased t f m ds a group ys y qs h h0 h1 hys hqs made =
    let defs : g.decs_of (map ground_dec ys) ≡ g.funs (erased_defs (r.defs_of (map region_def ds))) g.no_decs
    = ap (λ z. g.decs_of (map ground_dec z)) hys ∙ ap (λ z. g.decs_of (z ∷ [])) (ground_fun group ∙ ap (λ z. g.fun_dec (g.defs_of z)) h0 ∙ ap g.fun_dec (sym (defs_trees ds)))
    in let body : g.exps_of (map ground_exp qs) ≡ g.exps (erased_exp (region_exp a)) g.no_exps = ap (λ z. g.exps_of (map ground_exp z)) hqs ∙ ap (λ z. g.exps z g.no_exps) h1
    in made ∙ ap (g.exp t) (ground_let ys qs ∙ ap₂ g.Let defs body) ∙ sym (ap (λ z. erased_form t (region_form z)) h ∙ ap (erased_form t) (region_fix ds a))

pub inst_erased : (t : GroundType) (f : RExpForm) (m : MExp) (s : List ℕ) (ps : List Place) (fs : List Effect) → f ≡ x.Inst s ps fs → ground_exp m ≡ g.exp t (ground_form (v.Name s)) → ground_exp m ≡ form_erasure t f
unfolding form_erasure erased_exp
inst_erased t f m s ps fs h made = made ∙ ap (g.exp t) (ground_name s) ∙ sym (ap (λ z. erased_form t (region_form z)) h ∙ ap (erased_form t) (region_inst s ps fs))

-- pieces and declarations, form by form
pub plain_erased : (q : RPiece) (s : List ℕ) → q ≡ xq.Plain s → ground_piece (vq.Plain s) ≡ piece_erasure q
unfolding piece_erasure
plain_erased q s h = ground_plain s ∙ sym (ap (λ z. erased_piece (region_piece z)) h ∙ ap erased_piece (region_plain s))

pub anti_erased : (q : RPiece) (a : RExp) (y : MExp) → q ≡ xq.Anti a → ground_exp y ≡ exp_erasure a → ground_piece (vq.Anti y) ≡ piece_erasure q
unfolding piece_erasure exp_erasure
anti_erased q a y h h0 = ground_anti y ∙ ap g.anti_piece h0 ∙ sym (ap (λ z. erased_piece (region_piece z)) h ∙ ap erased_piece (region_anti a))

pub val_erased : (d : RDec) (bs : List RBind) (cs : List MBind) → d ≡ xd.Val bs → map ground_bind cs ≡ map bind_erasure bs → ground_dec (vd.Val cs) ≡ dec_erasure d
unfolding dec_erasure
val_erased d bs cs h h0 = ground_val cs ∙ ap (λ z. g.val_dec (g.rules_of z)) h0 ∙ ap g.val_dec (sym (pairs_list bs)) ∙ sym (ap (λ z. erased_dec (region_dec z)) h ∙ ap erased_dec (region_val bs))

pub fun_erased : (d : RDec) (ds : List FixDef) (cs : List MDef) → d ≡ xd.ValRec ds → map ground_def cs ≡ map def_erasure ds → ground_dec (vd.ValRec cs) ≡ dec_erasure d
unfolding dec_erasure
fun_erased d ds cs h h0 = ground_fun cs ∙ ap (λ z. g.fun_dec (g.defs_of z)) h0 ∙ ap g.fun_dec (sym (defs_trees ds)) ∙ sym (ap (λ z. erased_dec (region_dec z)) h ∙ ap erased_dec (region_fun ds))

pub local_erased : (d : RDec) (hs bs : List RDec) (ks cs : List MDec) → d ≡ xd.Local hs bs → map ground_dec ks ≡ map dec_erasure hs → map ground_dec cs ≡ map dec_erasure bs → ground_dec (vd.Local ks cs) ≡ dec_erasure d
unfolding dec_erasure
local_erased d hs bs ks cs h h0 h1 =
    ground_local ks cs ∙ ap₂ g.local_dec (ap g.decs_of h0 ∙ sym (decs_trees hs)) (ap g.decs_of h1 ∙ sym (decs_trees bs))
    ∙ sym (ap (λ z. erased_dec (region_dec z)) h ∙ ap erased_dec (region_local hs bs))

-- programs
pub argument_none : (o : Option RTy) → o ≡ None → ground_argument None ≡ argument_erasure o
unfolding argument_erasure
argument_none o h = sym (ap (λ z. erased_argument (region_argument z)) h)

pub argument_some : (o : Option RTy) (t : RTy) (u : MTy) → o ≡ Some t → ground_type u ≡ type_erasure t → ground_argument (Some u) ≡ argument_erasure o
unfolding argument_erasure type_erasure
argument_some o t u h h0 = ap Some h0 ∙ sym (ap (λ z. erased_argument (region_argument z)) h)

pub exception_erased : (e : List ℕ × Option RTy) (n : List ℕ) (o : Option MTy) → n ≡ e.0 → ground_argument o ≡ argument_erasure e.1 → ground_exception (n, o) ≡ exception_erasure e
unfolding exception_erasure ground_exception
exception_erased e n o h0 h1 = ap₂ (λ y z. (y, z)) h0 h1

pub program_erased : (p : RProgram) (q : MProgram) → q.datatypes ≡ p.datatypes → map ground_exception q.exceptions ≡ map exception_erasure p.exceptions
    → map ground_dec q.items ≡ map dec_erasure p.items → ground_program q ≡ erased_program (region_program p)
unfolding exception_erasure argument_erasure ground_exception
program_erased p q h0 h1 h2 = λ i. record {
  datatypes = map g.ground_datatype (h0 i);
  exceptions = (h1 ∙ sym (map_map {A = List ℕ × Option RTy} {B = List ℕ × Option RegionType} {C = List ℕ × Option GroundType} (λ c. (c.0, region_argument c.1)) (λ c. (c.0, erased_argument c.1)) p.exceptions)) i;
  items = (ap g.decs_of h2 ∙ sym (decs_trees p.items)) i;
}

pub program_made : (p : RProgram) (ds : List MData) (es : List (List ℕ × Option MTy)) (items : List MDec) → ds ≡ p.datatypes → map ground_exception es ≡ map exception_erasure p.exceptions
    → map ground_dec items ≡ map dec_erasure p.items → ground_program (record { datatypes = ds; exceptions = es; items = items }) ≡ erased_program (region_program p)
program_made p ds es items h0 h1 h2 = program_erased p (record { datatypes = ds; exceptions = es; items = items }) h0 h1 h2
