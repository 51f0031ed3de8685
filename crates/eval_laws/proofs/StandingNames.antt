-- The names that stand in the functions of the memoised square, form by form.
use Rattle.std.proofs.Common.{◌≡◌, ℕ, List, [], ◌∷◌, ◌++◌, map, refl, ap, ap₂, ◌∙◌}
use Rattle.sml_syntax.specs.declared.tree.Span.{Span}
use Rattle.sml_syntax.specs.declared.tree.Exp.{Exp}
use Rattle.sml_syntax.specs.declared.tree.ExpForm.{ExpForm}
use Rattle.sml_syntax.specs.declared.tree.ExpForm.TheVariants as e
use Rattle.sml_syntax.specs.declared.tree.Pat.{Pat}
use Rattle.sml_syntax.specs.declared.tree.PatForm.TheVariants as p
use Rattle.sml_syntax.specs.declared.tree.PatForm.TheFolds.{fold-roll-Pat, fold-roll-PatForm}
use Rattle.sml_syntax.specs.declared.tree.Dec.{Dec}
use Rattle.sml_syntax.specs.declared.tree.DecForm.TheVariants as d
use Rattle.sml_syntax.specs.declared.tree.Rule.{Rule}
use Rattle.sml_syntax.specs.declared.tree.DecForm.TheOpen.{DecForm-F, ExpForm-F}
use Rattle.sml_syntax.specs.declared.tree.PatForm.TheOpen.{PatForm-F}
use Rattle.sml_syntax.specs.declared.tree.DecForm.TheFolds.{fold-ExpForm, fold-Dec, fold-roll-Exp, fold-roll-ExpForm, fold-roll-Dec, fold-roll-DecForm, fold-roll-Rule}
use Rattle.grammar_rules.specs.Nodes.{exp_at, pat_at, dec_at, rule_of}
use Rattle.sml_evaluation.specs.Mentioned.{Names, all_of, in_pat_form, in_pat, in_exp_form, in_piece, in_rule_layer, in_dec_form, in_rule, in_exp, in_rules}

-- all that unfolds when an example is computed
unfoldable pub everything : Unit {0}
unfolding
    Rattle.sml_syntax.specs.declared.tree.DecForm.TheBlock.hidden-the_row-Dec-3 Rattle.sml_syntax.specs.declared.tree.DecForm.TheBlock.shown-the_row-Dec-3
    Rattle.sml_syntax.specs.declared.tree.DecForm.TheBlock.hidden-the_row-DecForm-Val-0-2-0 Rattle.sml_syntax.specs.declared.tree.DecForm.TheBlock.shown-the_row-DecForm-Val-0-2-0
    Rattle.sml_syntax.specs.declared.tree.DecForm.TheBlock.hidden-the_row-DecForm-ValRec-0-3-2 Rattle.sml_syntax.specs.declared.tree.DecForm.TheBlock.shown-the_row-DecForm-ValRec-0-3-2
    Rattle.sml_syntax.specs.declared.tree.DecForm.TheBlock.hidden-the_row-Exp-4 Rattle.sml_syntax.specs.declared.tree.DecForm.TheBlock.shown-the_row-Exp-4
    Rattle.sml_syntax.specs.declared.tree.DecForm.TheBlock.hidden-the_row-Exp-5 Rattle.sml_syntax.specs.declared.tree.DecForm.TheBlock.shown-the_row-Exp-5
    Rattle.sml_syntax.specs.declared.tree.DecForm.TheBlock.hidden-the_row-Piece-6 Rattle.sml_syntax.specs.declared.tree.DecForm.TheBlock.shown-the_row-Piece-6
    Rattle.sml_syntax.specs.declared.tree.DecForm.TheBlock.hidden-the_row-Rule-1 Rattle.sml_syntax.specs.declared.tree.DecForm.TheBlock.shown-the_row-Rule-1
    Rattle.sml_syntax.specs.declared.tree.PatForm.TheBlock.hidden-the_row-Pat-0 Rattle.sml_syntax.specs.declared.tree.PatForm.TheBlock.shown-the_row-Pat-0
    Rattle.sml_syntax.specs.declared.tree.PatForm.TheBlock.hidden-the_row-Pat-1 Rattle.sml_syntax.specs.declared.tree.PatForm.TheBlock.shown-the_row-Pat-1
    Rattle.sml_evaluation.specs.declared.value.Bound.TheBlock.hidden-the_row-Closure-env-2-2 Rattle.sml_evaluation.specs.declared.value.Bound.TheBlock.shown-the_row-Closure-env-2-2
    Rattle.sml_evaluation.specs.declared.value.Bound.TheBlock.hidden-the_row-Value-0 Rattle.sml_evaluation.specs.declared.value.Bound.TheBlock.shown-the_row-Value-0
    Rattle.sml_evaluation.specs.declared.value.Bound.TheBlock.hidden-the_row-Value-1 Rattle.sml_evaluation.specs.declared.value.Bound.TheBlock.shown-the_row-Value-1
    Rattle.web_data.specs.declared.datum.Datum.TheBlock.hidden-the_row-Datum-0 Rattle.web_data.specs.declared.datum.Datum.TheBlock.shown-the_row-Datum-0
    Rattle.web_data.specs.declared.datum.Datum.TheBlock.hidden-the_row-Datum-1 Rattle.web_data.specs.declared.datum.Datum.TheBlock.shown-the_row-Datum-1
    Rattle.sml_syntax.specs.declared.tree.ExpForm.out-ExpForm Rattle.sml_syntax.specs.declared.tree.ExpForm.roll-ExpForm
    Rattle.sml_syntax.specs.declared.tree.DecForm.out-DecForm Rattle.sml_syntax.specs.declared.tree.DecForm.roll-DecForm
    Rattle.sml_syntax.specs.declared.tree.Piece.out-Piece Rattle.sml_syntax.specs.declared.tree.Piece.roll-Piece
    Rattle.sml_syntax.specs.declared.tree.PatForm.out-PatForm Rattle.sml_syntax.specs.declared.tree.PatForm.roll-PatForm
    Rattle.sml_evaluation.specs.declared.value.Value.out-Value Rattle.sml_evaluation.specs.declared.value.Value.roll-Value
    Rattle.sml_evaluation.specs.declared.value.Bound.out-Bound Rattle.sml_evaluation.specs.declared.value.Bound.roll-Bound
    Rattle.web_data.specs.declared.datum.Datum.out-Datum Rattle.web_data.specs.declared.datum.Datum.roll-Datum
    Rattle.web_data.specs.declared.datum.Desc.out-Desc Rattle.web_data.specs.declared.datum.Desc.roll-Desc
    denote.Hole.Carrier.out denote.Hole.Carrier.roll denote.Hole.Carrier.fold denote.Hole.Carrier.shown denote.Hole.Carrier.hidden Rattle.std.specs.Fmt.digits
    Rattle.grammar_rules.specs.Nodes.numbers Rattle.grammar_rules.specs.Nodes.nested Rattle.grammar_rules.specs.Nodes.curried
everything = tt

module _ (at : Span) where
  -- ---- patterns

  -- a pattern and its names
  pub record KnownPat : Type 0 where
    pub pat : Pat
    pub names : Names
    pub is : in_pat pat ≡ names

  pub any_names : in_pat (pat_at at p.Any) ≡ []
  unfolding everything
  any_names = fold-roll-Pat Names Names in_pat_form (λ q. q.form) (record { span = at; form = p.Any }) ∙ fold-roll-PatForm Names Names in_pat_form (λ q. q.form) PatForm-F.Any

  abbrev pub any : KnownPat
  any = record { pat = pat_at at p.Any; names = []; is = any_names }

  pub variable_names : (n : List ℕ) → in_pat (pat_at at (p.Name n)) ≡ n ∷ []
  unfolding everything
  variable_names n = fold-roll-Pat Names Names in_pat_form (λ q. q.form) (record { span = at; form = p.Name n }) ∙ fold-roll-PatForm Names Names in_pat_form (λ q. q.form) (PatForm-F.Name n)

  abbrev pub variable : List ℕ → KnownPat
  variable n = record { pat = pat_at at (p.Name n); names = n ∷ []; is = variable_names n }

  pub applied_names : (n : List ℕ) (q : KnownPat) → in_pat (pat_at at (p.Con n q.pat)) ≡ n ∷ q.names
  unfolding everything
  applied_names n q =
      fold-roll-Pat Names Names in_pat_form (λ q. q.form) (record { span = at; form = p.Con n q.pat }) ∙ fold-roll-PatForm Names Names in_pat_form (λ q. q.form) (PatForm-F.Con n q.pat) ∙ ap (λ z. n ∷ z) q.is

  abbrev pub applied : List ℕ → KnownPat → KnownPat
  applied n q = record { pat = pat_at at (p.Con n q.pat); names = n ∷ q.names; is = applied_names n q }

  in_all : (qs : List KnownPat) → map in_pat (map (λ q. q.pat) qs) ≡ map (λ q. q.names) qs
  in_all [] = refl
  in_all (q ∷ qs) = λ i. q.is i ∷ in_all qs i

  pub tuple_names : (qs : List KnownPat) → in_pat (pat_at at (p.Tuple (map (λ q. q.pat) qs))) ≡ all_of (map (λ q. q.names) qs)
  unfolding everything
  tuple_names qs =
      fold-roll-Pat Names Names in_pat_form (λ q. q.form) (record { span = at; form = p.Tuple (map (λ q. q.pat) qs) }) ∙ fold-roll-PatForm Names Names in_pat_form (λ q. q.form) (PatForm-F.Tuple (map (λ q. q.pat) qs))
      ∙ ap all_of (in_all qs)

  abbrev pub tuple_pat : List KnownPat → KnownPat
  tuple_pat qs = record { pat = pat_at at (p.Tuple (map (λ q. q.pat) qs)); names = all_of (map (λ q. q.names) qs); is = tuple_names qs }

  -- ---- expressions, rules and declarations

  abbrev in_dec : Dec → Names
  in_dec d = fold-Dec Names Names Names Names Names Names in_dec_form in_exp_form in_piece (λ d. d.form) (λ e. e.form) in_rule_layer d

  abbrev in_form : ExpForm → Names
  in_form f = fold-ExpForm Names Names Names Names Names Names in_dec_form in_exp_form in_piece (λ d. d.form) (λ e. e.form) in_rule_layer f

  node : (f : ExpForm) → in_exp (exp_at at f) ≡ in_form f
  unfolding everything
  node f = fold-roll-Exp Names Names Names Names Names Names in_dec_form in_exp_form in_piece (λ d. d.form) (λ e. e.form) in_rule_layer (record { span = at; form = f })

  pub record KnownExp : Type 0 where
    pub exp : Exp
    pub names : Names
    pub is : in_exp exp ≡ names

  pub record KnownRule : Type 0 where
    pub rule : Rule
    pub names : Names
    pub is : in_rule rule ≡ names

  pub record KnownDec : Type 0 where
    pub dec : Dec
    pub names : Names
    pub is : in_dec dec ≡ names

  abbrev pub exps_of : List KnownExp → List Exp
  exps_of ks = map (λ k. k.exp) ks

  abbrev pub rules_of : List KnownRule → List Rule
  rules_of ks = map (λ k. k.rule) ks

  abbrev pub decs_of : List KnownDec → List Dec
  decs_of ks = map (λ k. k.dec) ks

  abbrev pub names_of : List KnownExp → Names
  names_of ks = all_of (map (λ k. k.names) ks)

  abbrev pub names_in : List KnownRule → Names
  names_in ks = all_of (map (λ k. k.names) ks)

  abbrev pub names_bound : List KnownDec → Names
  names_bound ks = all_of (map (λ k. k.names) ks)

  in_exps : (ks : List KnownExp) → map in_exp (exps_of ks) ≡ map (λ k. k.names) ks
  in_exps [] = refl
  in_exps (k ∷ ks) = λ i. k.is i ∷ in_exps ks i

  each_rule : (ks : List KnownRule) → map in_rule (rules_of ks) ≡ map (λ k. k.names) ks
  each_rule [] = refl
  each_rule (k ∷ ks) = λ i. k.is i ∷ each_rule ks i

  in_decs : (ks : List KnownDec) → map in_dec (decs_of ks) ≡ map (λ k. k.names) ks
  in_decs [] = refl
  in_decs (k ∷ ks) = λ i. k.is i ∷ in_decs ks i

  -- the names that stand in rules
  pub stand_in : (ks : List KnownRule) → in_rules (rules_of ks) ≡ names_in ks
  stand_in ks = ap all_of (each_rule ks)

  pub name_is : (n : List ℕ) → in_exp (exp_at at (e.Name n)) ≡ n ∷ []
  unfolding everything
  name_is n = node (e.Name n) ∙ fold-roll-ExpForm Names Names Names Names Names Names in_dec_form in_exp_form in_piece (λ d. d.form) (λ e. e.form) in_rule_layer (ExpForm-F.Name n)

  abbrev pub name : List ℕ → KnownExp
  name n = record { exp = exp_at at (e.Name n); names = n ∷ []; is = name_is n }

  pub text_is : (t : List ℕ) → in_exp (exp_at at (e.Str t)) ≡ []
  unfolding everything
  text_is t = node (e.Str t) ∙ fold-roll-ExpForm Names Names Names Names Names Names in_dec_form in_exp_form in_piece (λ d. d.form) (λ e. e.form) in_rule_layer (ExpForm-F.Str t)

  abbrev pub text : List ℕ → KnownExp
  text t = record { exp = exp_at at (e.Str t); names = []; is = text_is t }

  pub app_is : (f x : KnownExp) → in_exp (exp_at at (e.App f.exp x.exp)) ≡ f.names ++ x.names
  unfolding everything
  app_is f x = node (e.App f.exp x.exp) ∙ fold-roll-ExpForm Names Names Names Names Names Names in_dec_form in_exp_form in_piece (λ d. d.form) (λ e. e.form) in_rule_layer (ExpForm-F.App f.exp x.exp) ∙ ap₂ (λ a b. a ++ b) f.is x.is

  abbrev pub app : KnownExp → KnownExp → KnownExp
  app f x = record { exp = exp_at at (e.App f.exp x.exp); names = f.names ++ x.names; is = app_is f x }

  pub tuple_is : (ks : List KnownExp) → in_exp (exp_at at (e.Tuple (exps_of ks))) ≡ names_of ks
  unfolding everything
  tuple_is ks = node (e.Tuple (exps_of ks)) ∙ fold-roll-ExpForm Names Names Names Names Names Names in_dec_form in_exp_form in_piece (λ d. d.form) (λ e. e.form) in_rule_layer (ExpForm-F.Tuple (exps_of ks)) ∙ ap all_of (in_exps ks)

  abbrev pub tuple : List KnownExp → KnownExp
  tuple ks = record { exp = exp_at at (e.Tuple (exps_of ks)); names = names_of ks; is = tuple_is ks }

  pub seq_is : (ks : List KnownExp) → in_exp (exp_at at (e.Seq (exps_of ks))) ≡ names_of ks
  unfolding everything
  seq_is ks = node (e.Seq (exps_of ks)) ∙ fold-roll-ExpForm Names Names Names Names Names Names in_dec_form in_exp_form in_piece (λ d. d.form) (λ e. e.form) in_rule_layer (ExpForm-F.Seq (exps_of ks)) ∙ ap all_of (in_exps ks)

  abbrev pub sequence : List KnownExp → KnownExp
  sequence ks = record { exp = exp_at at (e.Seq (exps_of ks)); names = names_of ks; is = seq_is ks }

  pub fn_is : (ks : List KnownRule) → in_exp (exp_at at (e.Fn (rules_of ks))) ≡ names_in ks
  unfolding everything
  fn_is ks = node (e.Fn (rules_of ks)) ∙ fold-roll-ExpForm Names Names Names Names Names Names in_dec_form in_exp_form in_piece (λ d. d.form) (λ e. e.form) in_rule_layer (ExpForm-F.Fn (rules_of ks)) ∙ ap all_of (each_rule ks)

  abbrev pub function : List KnownRule → KnownExp
  function ks = record { exp = exp_at at (e.Fn (rules_of ks)); names = names_in ks; is = fn_is ks }

  pub case_is : (x : KnownExp) (ks : List KnownRule) → in_exp (exp_at at (e.Case x.exp (rules_of ks))) ≡ x.names ++ names_in ks
  unfolding everything
  case_is x ks = node (e.Case x.exp (rules_of ks)) ∙ fold-roll-ExpForm Names Names Names Names Names Names in_dec_form in_exp_form in_piece (λ d. d.form) (λ e. e.form) in_rule_layer (ExpForm-F.Case x.exp (rules_of ks)) ∙ ap₂ (λ a b. a ++ all_of b) x.is (each_rule ks)

  abbrev pub cases : KnownExp → List KnownRule → KnownExp
  cases x ks = record { exp = exp_at at (e.Case x.exp (rules_of ks)); names = x.names ++ names_in ks; is = case_is x ks }

  pub let_is : (ds : List KnownDec) (ks : List KnownExp) → in_exp (exp_at at (e.Let (decs_of ds) (exps_of ks))) ≡ names_bound ds ++ names_of ks
  unfolding everything
  let_is ds ks =
      node (e.Let (decs_of ds) (exps_of ks)) ∙ fold-roll-ExpForm Names Names Names Names Names Names in_dec_form in_exp_form in_piece (λ d. d.form) (λ e. e.form) in_rule_layer (ExpForm-F.Let (decs_of ds) (exps_of ks))
      ∙ ap₂ (λ a b. all_of a ++ all_of b) (in_decs ds) (in_exps ks)

  abbrev pub scope : List KnownDec → List KnownExp → KnownExp
  scope ds ks = record { exp = exp_at at (e.Let (decs_of ds) (exps_of ks)); names = names_bound ds ++ names_of ks; is = let_is ds ks }

  pub rule_is : (q : KnownPat) (k : KnownExp) → in_rule (rule_of q.pat k.exp) ≡ q.names ++ k.names
  unfolding everything
  rule_is q k = fold-roll-Rule Names Names Names Names Names Names in_dec_form in_exp_form in_piece (λ d. d.form) (λ e. e.form) in_rule_layer (record { pat = q.pat; body = k.exp }) ∙ ap₂ (λ a b. a ++ b) q.is k.is

  abbrev pub rule : KnownPat → KnownExp → KnownRule
  rule q k = record { rule = rule_of q.pat k.exp; names = q.names ++ k.names; is = rule_is q k }

  pub val_is : (q : KnownPat) (k : KnownExp) → in_dec (dec_at at (d.Val ((q.pat, k.exp) ∷ []))) ≡ (q.names ++ k.names) ++ []
  unfolding everything
  val_is q k =
      fold-roll-Dec Names Names Names Names Names Names in_dec_form in_exp_form in_piece (λ d. d.form) (λ e. e.form) in_rule_layer (record { span = at; form = d.Val ((q.pat, k.exp) ∷ []) })
      ∙ fold-roll-DecForm Names Names Names Names Names Names in_dec_form in_exp_form in_piece (λ d. d.form) (λ e. e.form) in_rule_layer (DecForm-F.Val ((q.pat, k.exp) ∷ [])) ∙ ap₂ (λ a b. (a ++ b) ++ []) q.is k.is

  abbrev pub binding : KnownPat → KnownExp → KnownDec
  binding q k = record { dec = dec_at at (d.Val ((q.pat, k.exp) ∷ [])); names = (q.names ++ k.names) ++ []; is = val_is q k }
