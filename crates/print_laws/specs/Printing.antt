-- The tokens of the text that a tree is printed as. A type, a pattern or an expression has parentheses around it only where the
-- place that it stands in asks for a higher level than its own.
-- A function of clauses is printed as clauses, also where its tree has the derived form of several patterns: such a tree begins
-- with a pattern that is the name of a number, which no text can have.
use Rattle.std.specs.Prelude.{ℕ, ◌==◌, ◌+◌, nat_lt, List, [], ◌∷◌, ◌++◌, Bool, true, false, Option, Some, None, cond, map, flat_map, codes, ◌||◌}
use Rattle.std.specs.List.{list_any}
use Rattle.std.specs.Str.{bytes_eq}
use Rattle.sml_syntax.specs.declared.token.TokenForm.{TokenForm}
use Rattle.sml_syntax.specs.declared.token.TokenForm.TheVariants as f
use Rattle.sml_syntax.specs.declared.tree.Ty.{Ty}
use Rattle.sml_syntax.specs.declared.tree.TyForm.TheOpen.{TyForm-F}
use Rattle.sml_syntax.specs.declared.tree.TyForm.TheFolds.{fold-Ty}
use Rattle.sml_syntax.specs.declared.tree.Pat.{Pat}
use Rattle.sml_syntax.specs.declared.tree.PatForm.TheOpen.{PatForm-F}
use Rattle.sml_syntax.specs.declared.tree.PatForm.TheFolds.{fold-Pat}
use Rattle.sml_syntax.specs.declared.tree.Exp.{Exp}
use Rattle.sml_syntax.specs.declared.tree.Rule.{Rule}
use Rattle.sml_syntax.specs.declared.tree.Piece.{Piece}
use Rattle.sml_syntax.specs.declared.tree.Dec.{Dec}
use Rattle.sml_syntax.specs.declared.tree.Program.{Program}
use Rattle.sml_syntax.specs.declared.tree.DecForm.TheOpen.{DecForm-F, ExpForm-F, Piece-F, Rule-F}
use Rattle.sml_syntax.specs.declared.tree.DecForm.TheFolds.{fold-Exp, fold-Rule, fold-Piece, fold-Dec}
use Rattle.grammar_rules.specs.InfixNames.{infix_level, groups_right}
use Rattle.sml_syntax.specs.Layers.{PatLayer, form_of_pat}
use Rattle.grammar_rules.specs.Spelling.{is_among, reserved_words, module_words, layered_words, abstype_words, fixity_words, while_words}
use Rattle.sml_syntax.specs.ByteClasses.{is_digit}
use Rattle.print_laws.specs.Spelled.{spelled}

abbrev pub Forms : Type 0
Forms = List TokenForm

-- Lists

abbrev pub in_parens : Forms → Forms
in_parens forms = (f.Mark (codes "(") ∷ forms) ++ (f.Mark (codes ")") ∷ [])

-- each behind a mark
abbrev pub behind_mark : {A : Type 0} → List ℕ → (A → Forms) → List A → Forms
behind_mark mark forms xs = flat_map (λ x. f.Mark mark ∷ forms x) xs

-- with a mark between
abbrev pub parted : {A : Type 0} → List ℕ → (A → Forms) → List A → Forms
parted mark forms [] = []
parted mark forms (x ∷ xs) = forms x ++ behind_mark mark forms xs

-- with bars between, where the last one is told
abbrev pub alternatives_from : {A : Type 0} → (Bool → A → Forms) → A → List A → Forms
alternatives_from forms x [] = forms true x
alternatives_from forms x (y ∷ ys) = forms false x ++ f.Mark (codes "|") ∷ alternatives_from forms y ys

abbrev pub alternatives : {A : Type 0} → (Bool → A → Forms) → List A → Forms
alternatives forms [] = []
alternatives forms (x ∷ xs) = alternatives_from forms x xs

-- Names

abbrev pub has_dot : List ℕ → Bool
has_dot name = list_any (λ b. b == 46) name

abbrev pub with_op : Option ℕ → TokenForm → Forms
with_op None form = form ∷ []
with_op (Some level) form = f.Mark (codes "op") ∷ form ∷ []

-- a name, an infix one behind `op`
unfoldable pub head_forms : List ℕ → Forms
head_forms name = cond (has_dot name) (f.Long name ∷ []) (with_op (infix_level name) (f.Name name))

-- a name as an expression: `=` is one too
unfoldable pub name_forms : List ℕ → Forms
name_forms name = cond (bytes_eq name (codes "=")) (f.Mark (codes "op") ∷ f.Mark (codes "=") ∷ []) (head_forms name)

-- an infix name where it stands between its operands
unfoldable pub infix_word : List ℕ → TokenForm
infix_word name = cond (bytes_eq name (codes "=")) (f.Mark (codes "=")) (f.Name name)

abbrev pub infix_by : Option ℕ → List ℕ → Option (ℕ × TokenForm)
infix_by None name = None
infix_by (Some level) name = Some (level, infix_word name)

-- the level and the word of an infix name
unfoldable pub infix_of : List ℕ → Option (ℕ × TokenForm)
infix_of name = cond (has_dot name) None (infix_by (infix_level name) name)

-- a name where types stand: no infix one does
abbrev pub unless_infix : Option ℕ → List ℕ → TokenForm
unless_infix None name = f.Name name
unless_infix (Some level) name = f.Long name

unfoldable pub type_name : List ℕ → TokenForm
type_name name = cond (has_dot name) (f.Long name) (unless_infix (infix_level name) name)

-- a word that is no name, reserved or of a form that the language lacks: it can only stand behind `^`, where each word is taken for a name
abbrev pub lacking_words : List (List ℕ)
lacking_words = module_words ++ layered_words ++ abstype_words ++ fixity_words ++ while_words

unfoldable pub is_lone : List ℕ → Bool
is_lone name = is_among reserved_words name || is_among lacking_words name

-- Parts

-- the tokens of a form without parentheses around it, their level, and whether a match is still open at their end
pub record Part : Type 0 where
  pub level : ℕ
  pub opens : Bool
  pub forms : Forms

abbrev pub closed : ℕ → Forms → Part
closed level forms = record { level = level; opens = false; forms = forms }

-- where one of that level stands
unfoldable pub put : ℕ → Part → Forms
put level part = cond (nat_lt part.level level) (in_parens part.forms) part.forms

-- Types

-- their levels: 0 for an arrow, 1 for a tuple, and 2 for one that a name may stand behind

-- a type constant behind its arguments
abbrev pub con_forms : List ℕ → List Part → Forms
con_forms name [] = type_name name ∷ []
con_forms name (t ∷ []) = put 2 t ++ type_name name ∷ []
con_forms name (t ∷ u ∷ us) = (f.Mark (codes "(") ∷ parted (codes ",") (λ (t : Part). t.forms) (t ∷ u ∷ us)) ++ f.Mark (codes ")") ∷ type_name name ∷ []

-- with stars between
abbrev pub starred : List Part → Forms
starred [] = []
starred (t ∷ ts) = put 2 t ++ flat_map (λ (t : Part). f.Name (codes "*") ∷ put 2 t) ts

abbrev pub ty_layer : TyForm-F Part Part → Part
ty_layer (TyForm-F.Var name) = closed 2 (f.TyVar name ∷ [])
ty_layer (TyForm-F.Con name arguments) = closed 2 (con_forms name arguments)
ty_layer (TyForm-F.Tuple ts) = closed 1 (starred ts)
ty_layer (TyForm-F.Arrow from to) = closed 0 (put 1 from ++ f.Mark (codes "->") ∷ to.forms)

abbrev pub ty_part : Ty → Part
ty_part = fold-Ty Part Part ty_layer (λ t. t.form)

-- without parentheses around it
abbrev pub ty_forms : Ty → Forms
ty_forms t = (ty_part t).forms

abbrev pub put_ty : ℕ → Ty → Forms
put_ty level t = put level (ty_part t)

-- Patterns

-- their levels: 0 with a type, 1 for `::` between two, 2 for a constructor on its argument, and 3 for an atomic pattern

-- what is printed of a pattern: its tokens, and the parts of the tuple that it is
pub record PatInk : Type 0 where
  pub part : Part
  pub members : List Part

abbrev pub pat_of : ℕ → Forms → PatInk
pat_of level forms = record { part = closed level forms; members = [] }

abbrev pub is_cons : List ℕ → Bool
is_cons name = bytes_eq name (codes "::")

abbrev pub applied_pat : List ℕ → Part → Part
applied_pat name argument = closed 2 (head_forms name ++ put 3 argument)

-- a constructor on its argument: `::` between the two of a tuple, any other one before it
abbrev pub con_pat : List ℕ → List Part → Part → Part
con_pat name (left ∷ right ∷ []) argument = cond (is_cons name) (closed 1 (put 2 left ++ f.Name (codes "::") ∷ put 1 right)) (applied_pat name argument)
con_pat name _ argument = applied_pat name argument

abbrev pub pats_forms : List PatInk → Forms
pats_forms ps = parted (codes ",") (λ (p : PatInk). p.part.forms) ps

abbrev pub pat_layer : PatForm-F PatInk PatInk → PatInk
pat_layer PatForm-F.Any = pat_of 3 (f.Mark (codes "_") ∷ [])
pat_layer (PatForm-F.Int number) = pat_of 3 (f.Int number ∷ [])
pat_layer (PatForm-F.Char byte) = pat_of 3 (f.Char byte ∷ [])
pat_layer (PatForm-F.Str text) = pat_of 3 (f.Str text ∷ [])
pat_layer PatForm-F.Unit = pat_of 3 (f.Mark (codes "(") ∷ f.Mark (codes ")") ∷ [])
pat_layer (PatForm-F.Name name) = pat_of 3 (head_forms name)
pat_layer (PatForm-F.Tuple ps) = record { part = closed 3 (in_parens (pats_forms ps)); members = map (λ (p : PatInk). p.part) ps }
pat_layer (PatForm-F.List ps) = pat_of 3 ((f.Mark (codes "[") ∷ pats_forms ps) ++ f.Mark (codes "]") ∷ [])
pat_layer (PatForm-F.Con name p) = record { part = con_pat name p.members p.part; members = [] }
pat_layer (PatForm-F.Typed p t) = pat_of 0 (put 1 p.part ++ f.Mark (codes ":") ∷ ty_forms t)

abbrev pub pat_ink : Pat → PatInk
pat_ink = fold-Pat PatInk PatInk pat_layer (λ p. p.form)

abbrev pub pat_part : Pat → Part
pat_part p = (pat_ink p).part

-- without parentheses around it
abbrev pub pat_forms : Pat → Forms
pat_forms p = (pat_part p).forms

abbrev pub put_pat : ℕ → Pat → Forms
put_pat level p = put level (pat_part p)

-- the patterns of a clause of several
abbrev pub patterns_in : PatLayer → Forms
patterns_in (PatForm-F.Tuple ps) = flat_map (put_pat 3) ps
patterns_in _ = []

-- the name of a number
abbrev pub begins_number : List ℕ → Bool
begins_number [] = false
begins_number (b ∷ bs) = is_digit b

abbrev pub is_number : PatLayer → Bool
is_number (PatForm-F.Name name) = begins_number name
is_number _ = false

-- Expressions

-- their levels: 0 for `fn`, `case`, `if`, `raise` and `handle`, which stand only where any expression does, 1 for `orelse`,
-- 2 for `andalso`, 3 with a type, 4 and the level of an infix name, 14 for an application, and 15 for an atomic expression

abbrev pub atomic : Forms → Part
atomic forms = closed 15 forms

-- a form that stands only where any expression does
abbrev pub whole : Bool → Forms → Part
whole opens forms = record { level = 0; opens = opens; forms = forms }

-- where a bar follows
unfoldable pub barred : Part → Forms
barred part = cond part.opens (in_parens part.forms) part.forms

-- the body of a rule or a clause, the last one or one before a bar
abbrev pub body_forms : Bool → Part → Forms
body_forms true part = part.forms
body_forms false part = barred part

-- the operands of an infix name
abbrev pub left_place : ℕ → ℕ
left_place level = cond (groups_right level) (5 + level) (4 + level)

abbrev pub right_place : ℕ → ℕ
right_place level = cond (groups_right level) (4 + level) (5 + level)

-- a pattern and what stands behind it
pub record Clause : Type 0 where
  pub pat : Pat
  pub body : Part

-- what is printed of an expression: its tokens, its name where that is one which can only stand behind `^`, the clauses of the
-- `case` that it is, or is functions around, the level and word of the infix name that it is, and the parts of the tuple that it is
pub record Ink : Type 0 where
  pub part : Part
  pub lone : Option (List ℕ)
  pub clauses : List Clause
  pub operator : Option (ℕ × TokenForm)
  pub members : List Part

-- of a rule
pub record RuleInk : Type 0 where
  pub pat : Pat
  pub body : Ink

abbrev pub ink : Part → Ink
ink part = record { part = part; lone = None; clauses = []; operator = None; members = [] }

abbrev pub rule_forms : Bool → RuleInk → Forms
rule_forms last r = pat_forms r.pat ++ f.Mark (codes "=>") ∷ body_forms last r.body.part

abbrev pub match_forms : List RuleInk → Forms
match_forms rules = alternatives rule_forms rules

abbrev pub clause_of : RuleInk → Clause
clause_of r = record { pat = r.pat; body = r.body.part }

-- the clauses in the first rule
abbrev pub inner_clauses : List RuleInk → List Clause
inner_clauses [] = []
inner_clauses (r ∷ rs) = r.body.clauses

abbrev pub exps_forms : List ℕ → List Ink → Forms
exps_forms mark es = parted mark (λ (e : Ink). e.part.forms) es

-- the application of an infix name to a tuple of two: the name between them; any other one: its function before its argument
abbrev pub app_part : Option (ℕ × TokenForm) → List Part → Part → Part → Part
app_part (Some operator) (left ∷ right ∷ []) function argument = closed (4 + operator.0) (put (left_place operator.0) left ++ operator.1 ∷ put (right_place operator.0) right)
app_part _ _ function argument = closed 14 (put 14 function ++ put 15 argument)

abbrev pub anti_forms : Forms → Option (List ℕ) → Forms
anti_forms forms (Some name) = f.Anti name ∷ []
anti_forms forms None = (f.AntiFrom ∷ forms) ++ f.AntiTo ∷ []

-- the text of a quotation, which has no token where it is empty
abbrev pub plain_forms : List ℕ → Forms
plain_forms [] = []
plain_forms (b ∷ bs) = f.Plain (b ∷ bs) ∷ []

abbrev pub piece_layer : Piece-F Forms Ink Forms Forms Ink RuleInk → Forms
piece_layer (Piece-F.Plain text) = plain_forms text
piece_layer (Piece-F.Anti e) = anti_forms e.part.forms e.lone

abbrev pub exp_layer : ExpForm-F Forms Ink Forms Forms Ink RuleInk → Ink
exp_layer (ExpForm-F.Int number) = ink (atomic (f.Int number ∷ []))
exp_layer (ExpForm-F.Char byte) = ink (atomic (f.Char byte ∷ []))
exp_layer (ExpForm-F.Str text) = ink (atomic (f.Str text ∷ []))
exp_layer (ExpForm-F.Name name) = record { part = atomic (name_forms name); lone = cond (is_lone name) (Some name) None; clauses = []; operator = infix_of name; members = [] }
exp_layer ExpForm-F.Unit = ink (atomic (f.Mark (codes "(") ∷ f.Mark (codes ")") ∷ []))
exp_layer (ExpForm-F.Tuple es) = record { part = atomic (in_parens (exps_forms (codes ",") es)); lone = None; clauses = []; operator = None; members = map (λ (e : Ink). e.part) es }
exp_layer (ExpForm-F.List es) = ink (atomic ((f.Mark (codes "[") ∷ exps_forms (codes ",") es) ++ f.Mark (codes "]") ∷ []))
exp_layer (ExpForm-F.Seq es) = ink (atomic (in_parens (exps_forms (codes ";") es)))
exp_layer (ExpForm-F.App function argument) = ink (app_part function.operator argument.members function.part argument.part)
exp_layer (ExpForm-F.Let ds es) = ink (atomic ((f.Mark (codes "let") ∷ flat_map (λ d. d) ds) ++ f.Mark (codes "in") ∷ exps_forms (codes ";") es ++ f.Mark (codes "end") ∷ []))
exp_layer (ExpForm-F.Fn rules) = record { part = whole true (f.Mark (codes "fn") ∷ match_forms rules); lone = None; clauses = inner_clauses rules; operator = None; members = [] }
exp_layer (ExpForm-F.Case e rules) = record { part = whole true (f.Mark (codes "case") ∷ e.part.forms ++ f.Mark (codes "of") ∷ match_forms rules); lone = None; clauses = map clause_of rules; operator = None; members = [] }
exp_layer (ExpForm-F.Handle e rules) = ink (whole true (put 1 e.part ++ f.Mark (codes "handle") ∷ match_forms rules))
exp_layer (ExpForm-F.Raise e) = ink (whole e.part.opens (f.Mark (codes "raise") ∷ e.part.forms))
exp_layer (ExpForm-F.If test chosen otherwise) = ink (whole otherwise.part.opens (f.Mark (codes "if") ∷ test.part.forms ++ f.Mark (codes "then") ∷ chosen.part.forms ++ f.Mark (codes "else") ∷ otherwise.part.forms))
exp_layer (ExpForm-F.Both left right) = ink (closed 2 (put 3 left.part ++ f.Mark (codes "andalso") ∷ put 2 right.part))
exp_layer (ExpForm-F.Either left right) = ink (closed 1 (put 2 left.part ++ f.Mark (codes "orelse") ∷ put 1 right.part))
exp_layer (ExpForm-F.Quote pieces) = ink (atomic ((f.QuoteFrom ∷ flat_map (λ p. p) pieces) ++ f.QuoteTo ∷ []))
exp_layer (ExpForm-F.Typed e t) = ink (closed 3 (put 3 e.part ++ f.Mark (codes ":") ∷ ty_forms t))

-- Declarations

-- a clause of a function of that name: one pattern, or those of its tuple
abbrev pub one_clause : List ℕ → Bool → Clause → Forms
one_clause name last c = head_forms name ++ put_pat 3 c.pat ++ f.Mark (codes "=") ∷ body_forms last c.body

abbrev pub several_clause : List ℕ → Bool → Clause → Forms
several_clause name last c = head_forms name ++ patterns_in (form_of_pat c.pat) ++ f.Mark (codes "=") ∷ body_forms last c.body

-- the first rule has the name of a number for its pattern
abbrev pub is_curried : List RuleInk → Bool
is_curried [] = false
is_curried (r ∷ rs) = is_number (form_of_pat r.pat)

abbrev pub function_forms : List ℕ × List RuleInk → Forms
function_forms function =
    cond (is_curried function.1)
    (alternatives (several_clause function.0) (inner_clauses function.1))
    (alternatives (λ last r. one_clause function.0 last (clause_of r)) function.1)

abbrev pub bind_forms : Pat × Ink → Forms
bind_forms bind = pat_forms bind.0 ++ f.Mark (codes "=") ∷ bind.1.part.forms

-- the variables before a type's name
abbrev pub vars_forms : List (List ℕ) → Forms
vars_forms [] = []
vars_forms (v ∷ []) = f.TyVar v ∷ []
vars_forms (v ∷ w ∷ ws) = in_parens (parted (codes ",") (λ name. f.TyVar name ∷ []) (v ∷ w ∷ ws))

abbrev pub abbrev_forms : List (List ℕ) × List ℕ × Ty → Forms
abbrev_forms a = vars_forms a.0 ++ f.Name a.1 ∷ f.Mark (codes "=") ∷ ty_forms a.2

abbrev pub argument_forms : Option Ty → Forms
argument_forms None = []
argument_forms (Some t) = f.Mark (codes "of") ∷ ty_forms t

abbrev pub con_def_forms : List ℕ × Option Ty → Forms
con_def_forms c = f.Name c.0 ∷ argument_forms c.1

abbrev pub data_forms : List (List ℕ) × List ℕ × List (List ℕ × Option Ty) → Forms
data_forms d = vars_forms d.0 ++ f.Name d.1 ∷ f.Mark (codes "=") ∷ parted (codes "|") con_def_forms d.2

abbrev pub dec_layer : DecForm-F Forms Ink Forms Forms Ink RuleInk → Forms
dec_layer (DecForm-F.Val binds) = f.Mark (codes "val") ∷ parted (codes "and") bind_forms binds
dec_layer (DecForm-F.ValRec functions) = f.Mark (codes "fun") ∷ parted (codes "and") function_forms functions
dec_layer (DecForm-F.Abbrev all) = f.Mark (codes "type") ∷ parted (codes "and") abbrev_forms all
dec_layer (DecForm-F.DataDef all) = f.Mark (codes "datatype") ∷ parted (codes "and") data_forms all
dec_layer (DecForm-F.ExnDef all) = f.Mark (codes "exception") ∷ parted (codes "and") con_def_forms all
dec_layer (DecForm-F.Local hidden shown) = (f.Mark (codes "local") ∷ flat_map (λ d. d) hidden) ++ f.Mark (codes "in") ∷ flat_map (λ d. d) shown ++ f.Mark (codes "end") ∷ []

abbrev pub rule_layer : Rule-F Forms Ink Forms Forms Ink RuleInk → RuleInk
rule_layer r = record { pat = r.pat; body = r.body }

-- what is printed of each kind of tree
abbrev pub exp_ink : Exp → Ink
exp_ink = fold-Exp Forms Ink Forms Forms Ink RuleInk dec_layer exp_layer piece_layer (λ d. d.form) (λ e. e.form) rule_layer

-- without parentheses around it
abbrev pub exp_part : Exp → Part
exp_part e = (exp_ink e).part

abbrev pub exp_forms : Exp → Forms
exp_forms e = (exp_part e).forms

abbrev pub rule_ink : Rule → RuleInk
rule_ink = fold-Rule Forms Ink Forms Forms Ink RuleInk dec_layer exp_layer piece_layer (λ d. d.form) (λ e. e.form) rule_layer

abbrev pub piece_forms : Piece → Forms
piece_forms = fold-Piece Forms Ink Forms Forms Ink RuleInk dec_layer exp_layer piece_layer (λ d. d.form) (λ e. e.form) rule_layer

abbrev pub dec_forms : Dec → Forms
dec_forms = fold-Dec Forms Ink Forms Forms Ink RuleInk dec_layer exp_layer piece_layer (λ d. d.form) (λ e. e.form) rule_layer

-- the tokens of a program
abbrev pub program_forms : Program → Forms
program_forms program = flat_map dec_forms program.items

-- the text of a program: a declaration a line
unfoldable pub printed : Program → List ℕ
printed program = flat_map (λ d. spelled (dec_forms d) ++ 10 ∷ []) program.items
