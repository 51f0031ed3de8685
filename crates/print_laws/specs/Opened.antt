-- What is printed, by the parts of each form.
use Rattle.std.specs.Prelude.{ℕ, ◌+◌, List, [], ◌∷◌, ◌++◌, Bool, true, false, Option, Some, None, cond, map, flat_map, codes}
use Rattle.sml_syntax.specs.declared.token.TokenForm.{TokenForm}
use Rattle.sml_syntax.specs.declared.token.TokenForm.TheVariants as f
use Rattle.sml_syntax.specs.declared.tree.Exp.{Exp}
use Rattle.sml_syntax.specs.declared.tree.Pat.{Pat}
use Rattle.sml_syntax.specs.declared.tree.Ty.{Ty}
use Rattle.sml_syntax.specs.declared.tree.TyForm.TheOpen.{TyForm-F}
use Rattle.sml_syntax.specs.declared.tree.Rule.{Rule, out-Rule}
use Rattle.sml_syntax.specs.declared.tree.Piece.{Piece}
use Rattle.sml_syntax.specs.declared.tree.Dec.{Dec}
use Rattle.sml_syntax.specs.declared.tree.PatForm.TheOpen.{PatForm-F}
use Rattle.sml_syntax.specs.declared.tree.DecForm.{DecForm}
use Rattle.sml_syntax.specs.declared.tree.ExpForm.{ExpForm}
use Rattle.sml_syntax.specs.declared.tree.DecForm.TheOpen.{DecForm-F, ExpForm-F, Piece-F}
use Rattle.sml_syntax.specs.Layers.{ExpLayer, DecLayer, PatLayer, form_of_pat, form_of_exp}
use Rattle.sml_syntax.specs.NestedTypes.{TyLayer}
use Rattle.print_laws.specs.Printing.{Forms, in_parens, parted, alternatives, type_name, head_forms, name_forms, infix_of, is_lone, ty_forms, put_ty, is_cons, pat_forms, put_pat, is_number, put, barred, body_forms, left_place, right_place, Clause, one_clause, several_clause, anti_forms, plain_forms, exp_part, exp_forms, exp_ink, piece_forms, dec_forms, abbrev_forms, data_forms, con_def_forms}

-- types
abbrev pub con_text : List ℕ → List Ty → Forms
con_text name [] = type_name name ∷ []
con_text name (t ∷ []) = put_ty 2 t ++ type_name name ∷ []
con_text name (t ∷ u ∷ us) = (f.Mark (codes "(") ∷ parted (codes ",") ty_forms (t ∷ u ∷ us)) ++ f.Mark (codes ")") ∷ type_name name ∷ []

abbrev pub starred_text : List Ty → Forms
starred_text [] = []
starred_text (t ∷ ts) = put_ty 2 t ++ flat_map (λ t. f.Name (codes "*") ∷ put_ty 2 t) ts

abbrev pub ty_text : TyLayer → Forms
ty_text (TyForm-F.Var name) = f.TyVar name ∷ []
ty_text (TyForm-F.Con name arguments) = con_text name arguments
ty_text (TyForm-F.Tuple ts) = starred_text ts
ty_text (TyForm-F.Arrow from to) = put_ty 1 from ++ f.Mark (codes "->") ∷ ty_forms to

-- the level of a type
abbrev pub ty_level : TyLayer → ℕ
ty_level (TyForm-F.Tuple ts) = 1
ty_level (TyForm-F.Arrow from to) = 0
ty_level _ = 2

-- the patterns of a tuple
abbrev pub pat_members : PatLayer → List Pat
pat_members (PatForm-F.Tuple ps) = ps
pat_members _ = []

-- `::` on the two of a tuple, which stands between them
abbrev pub is_between : List ℕ → List Pat → Bool
is_between name (left ∷ right ∷ []) = is_cons name
is_between name _ = false

abbrev pub between_text : List Pat → Forms
between_text (left ∷ right ∷ []) = put_pat 2 left ++ f.Name (codes "::") ∷ put_pat 1 right
between_text _ = []

-- a constructor on its argument, by what its argument is
abbrev pub con_pat_text : List ℕ → List Pat → Pat → Forms
con_pat_text name members argument = cond (is_between name members) (between_text members) (head_forms name ++ put_pat 3 argument)

abbrev pub con_pat_level : List ℕ → List Pat → ℕ
con_pat_level name members = cond (is_between name members) 1 2

-- patterns
abbrev pub pat_text : PatLayer → Forms
pat_text PatForm-F.Any = f.Mark (codes "_") ∷ []
pat_text (PatForm-F.Int number) = f.Int number ∷ []
pat_text (PatForm-F.Char byte) = f.Char byte ∷ []
pat_text (PatForm-F.Str text) = f.Str text ∷ []
pat_text PatForm-F.Unit = f.Mark (codes "(") ∷ f.Mark (codes ")") ∷ []
pat_text (PatForm-F.Name name) = head_forms name
pat_text (PatForm-F.Tuple ps) = in_parens (parted (codes ",") pat_forms ps)
pat_text (PatForm-F.List ps) = (f.Mark (codes "[") ∷ parted (codes ",") pat_forms ps) ++ f.Mark (codes "]") ∷ []
pat_text (PatForm-F.Con name p) = con_pat_text name (pat_members (form_of_pat p)) p
pat_text (PatForm-F.Typed p t) = put_pat 1 p ++ f.Mark (codes ":") ∷ ty_forms t

-- the level of a pattern
abbrev pub pat_level : PatLayer → ℕ
pat_level (PatForm-F.Con name p) = con_pat_level name (pat_members (form_of_pat p))
pat_level (PatForm-F.Typed p t) = 0
pat_level _ = 3

-- an expression where one of that level stands, where a bar follows, and as the body of a rule or a clause, the last one or not
abbrev pub put_text : ℕ → Exp → Forms
put_text level e = put level (exp_part e)

abbrev pub barred_text : Exp → Forms
barred_text e = barred (exp_part e)

abbrev pub body_text : Bool → Exp → Forms
body_text last e = body_forms last (exp_part e)

-- rules and clauses
abbrev pub rule_text : Bool → Rule → Forms
rule_text last r = pat_forms (out-Rule r).pat ++ f.Mark (codes "=>") ∷ body_text last (out-Rule r).body

abbrev pub match_text : List Rule → Forms
match_text rules = alternatives rule_text rules

abbrev pub clause_in : Rule → Clause
clause_in r = record { pat = (out-Rule r).pat; body = exp_part (out-Rule r).body }

abbrev pub clause_text : List ℕ → Bool → Rule → Forms
clause_text name last r = one_clause name last (clause_in r)

abbrev pub several_text : List ℕ → Bool → Rule → Forms
several_text name last r = several_clause name last (clause_in r)

-- the clauses of an expression
abbrev pub first_clauses : List Rule → List Clause
first_clauses [] = []
first_clauses (r ∷ rs) = (exp_ink (out-Rule r).body).clauses

abbrev pub clauses_in : ExpLayer → List Clause
clauses_in (ExpForm-F.Case e rules) = map clause_in rules
clauses_in (ExpForm-F.Fn rules) = first_clauses rules
clauses_in _ = []

-- the name of an expression, where it can only stand behind `^`
abbrev pub lone_in : ExpLayer → Option (List ℕ)
lone_in (ExpForm-F.Name name) = cond (is_lone name) (Some name) None
lone_in _ = None

-- the level and word of an infix name
abbrev pub operator_in : ExpLayer → Option (ℕ × TokenForm)
operator_in (ExpForm-F.Name name) = infix_of name
operator_in _ = None

-- the expressions of a tuple
abbrev pub members_in : ExpLayer → List Exp
members_in (ExpForm-F.Tuple es) = es
members_in _ = []

-- expressions
abbrev pub let_text : List Dec → List Exp → Forms
let_text ds es = (f.Mark (codes "let") ∷ flat_map dec_forms ds) ++ f.Mark (codes "in") ∷ parted (codes ";") exp_forms es ++ f.Mark (codes "end") ∷ []

abbrev pub quote_text : List Piece → Forms
quote_text pieces = (f.QuoteFrom ∷ flat_map piece_forms pieces) ++ f.QuoteTo ∷ []

-- an application, by what its function and its argument are
abbrev pub app_text : Option (ℕ × TokenForm) → List Exp → Exp → Exp → Forms
app_text (Some operator) (left ∷ right ∷ []) function argument = put_text (left_place operator.0) left ++ operator.1 ∷ put_text (right_place operator.0) right
app_text _ _ function argument = put_text 14 function ++ put_text 15 argument

abbrev pub app_level : Option (ℕ × TokenForm) → List Exp → ℕ
app_level (Some operator) (left ∷ right ∷ []) = 4 + operator.0
app_level _ _ = 14

-- the level of an expression without parentheses around it
abbrev pub level_in : ExpLayer → ℕ
level_in (ExpForm-F.App function argument) = app_level (operator_in (form_of_exp function)) (members_in (form_of_exp argument))
level_in (ExpForm-F.Fn rules) = 0
level_in (ExpForm-F.Case e rules) = 0
level_in (ExpForm-F.Handle e rules) = 0
level_in (ExpForm-F.Raise e) = 0
level_in (ExpForm-F.If test chosen otherwise) = 0
level_in (ExpForm-F.Either left right) = 1
level_in (ExpForm-F.Both left right) = 2
level_in (ExpForm-F.Typed e t) = 3
level_in _ = 15

-- whether a match is still open at its end
abbrev pub opens_in : ExpLayer → Bool
opens_in (ExpForm-F.Fn rules) = true
opens_in (ExpForm-F.Case e rules) = true
opens_in (ExpForm-F.Handle e rules) = true
opens_in (ExpForm-F.Raise e) = (exp_part e).opens
opens_in (ExpForm-F.If test chosen otherwise) = (exp_part otherwise).opens
opens_in _ = false

abbrev pub exp_text : ExpLayer → Forms
exp_text (ExpForm-F.Int number) = f.Int number ∷ []
exp_text (ExpForm-F.Char byte) = f.Char byte ∷ []
exp_text (ExpForm-F.Str text) = f.Str text ∷ []
exp_text (ExpForm-F.Name name) = name_forms name
exp_text ExpForm-F.Unit = f.Mark (codes "(") ∷ f.Mark (codes ")") ∷ []
exp_text (ExpForm-F.Tuple es) = in_parens (parted (codes ",") exp_forms es)
exp_text (ExpForm-F.List es) = (f.Mark (codes "[") ∷ parted (codes ",") exp_forms es) ++ f.Mark (codes "]") ∷ []
exp_text (ExpForm-F.Seq es) = in_parens (parted (codes ";") exp_forms es)
exp_text (ExpForm-F.App function argument) = app_text (operator_in (form_of_exp function)) (members_in (form_of_exp argument)) function argument
exp_text (ExpForm-F.Let ds es) = let_text ds es
exp_text (ExpForm-F.Fn rules) = f.Mark (codes "fn") ∷ match_text rules
exp_text (ExpForm-F.Case e rules) = f.Mark (codes "case") ∷ exp_forms e ++ f.Mark (codes "of") ∷ match_text rules
exp_text (ExpForm-F.Handle e rules) = put_text 1 e ++ f.Mark (codes "handle") ∷ match_text rules
exp_text (ExpForm-F.Raise e) = f.Mark (codes "raise") ∷ exp_forms e
exp_text (ExpForm-F.If test chosen otherwise) = f.Mark (codes "if") ∷ exp_forms test ++ f.Mark (codes "then") ∷ exp_forms chosen ++ f.Mark (codes "else") ∷ exp_forms otherwise
exp_text (ExpForm-F.Both left right) = put_text 3 left ++ f.Mark (codes "andalso") ∷ put_text 2 right
exp_text (ExpForm-F.Either left right) = put_text 2 left ++ f.Mark (codes "orelse") ∷ put_text 1 right
exp_text (ExpForm-F.Quote pieces) = quote_text pieces
exp_text (ExpForm-F.Typed e t) = put_text 3 e ++ f.Mark (codes ":") ∷ ty_forms t

abbrev pub piece_text : Piece-F DecForm ExpForm Piece Dec Exp Rule → Forms
piece_text (Piece-F.Plain text) = plain_forms text
piece_text (Piece-F.Anti e) = anti_forms (exp_forms e) (exp_ink e).lone

-- declarations
abbrev pub bind_text : Pat × Exp → Forms
bind_text bind = pat_forms bind.0 ++ f.Mark (codes "=") ∷ exp_forms bind.1

abbrev pub function_by : List ℕ → List Rule → Forms
function_by name [] = []
function_by name (r ∷ rs) =
    cond (is_number (form_of_pat (out-Rule r).pat))
    (alternatives (several_clause name) (exp_ink (out-Rule r).body).clauses)
    (alternatives (clause_text name) (r ∷ rs))

abbrev pub function_text : List ℕ × List Rule → Forms
function_text function = function_by function.0 function.1

abbrev pub local_text : List Dec → List Dec → Forms
local_text hidden shown = (f.Mark (codes "local") ∷ flat_map dec_forms hidden) ++ f.Mark (codes "in") ∷ flat_map dec_forms shown ++ f.Mark (codes "end") ∷ []

abbrev pub dec_text : DecLayer → Forms
dec_text (DecForm-F.Val binds) = f.Mark (codes "val") ∷ parted (codes "and") bind_text binds
dec_text (DecForm-F.ValRec functions) = f.Mark (codes "fun") ∷ parted (codes "and") function_text functions
dec_text (DecForm-F.Abbrev all) = f.Mark (codes "type") ∷ parted (codes "and") abbrev_forms all
dec_text (DecForm-F.DataDef all) = f.Mark (codes "datatype") ∷ parted (codes "and") data_forms all
dec_text (DecForm-F.ExnDef all) = f.Mark (codes "exception") ∷ parted (codes "and") con_def_forms all
dec_text (DecForm-F.Local hidden shown) = local_text hidden shown
