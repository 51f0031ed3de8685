-- The lacks that acts tell of, and those of datatypes that apply their own types to other arguments than their variables.
use Rattle.std.specs.Prelude.{ℕ, ◌+◌, ◌-◌, max, List, [], ◌∷◌, ◌++◌, length, drop, Bool, true, false, cond, nat_lt, Option, Some, None}
use Rattle.std.specs.Str.{bytes_eq}
use Rattle.sml_syntax.specs.declared.token.Lack.TheVariants as l
use Rattle.sml_syntax.specs.NestedTypes.{Found}
use Rattle.sml_grammar.specs.declared.act.Act.{Act}
use Rattle.sml_grammar.specs.declared.act.Act.TheVariants as a
use Rattle.sml_grammar.specs.declared.act.TyAct.{TyAct}
use Rattle.sml_grammar.specs.declared.act.TyAct.TheVariants as y
use Rattle.sml_grammar.specs.declared.act.DecAct.{DecAct}
use Rattle.sml_grammar.specs.declared.act.DecAct.TheVariants as d
use Rattle.sml_grammar.specs.declared.act.Made.{Made}

-- what an act is

abbrev pub dec_begins_datatypes : DecAct → Bool
dec_begins_datatypes d.NoDatas = true
dec_begins_datatypes _ = false

unfoldable pub begins_datatypes : Act → Bool
begins_datatypes (a.Dec act) = dec_begins_datatypes act
begins_datatypes _ = false

abbrev pub dec_ends_datatypes : DecAct → Bool
dec_ends_datatypes (d.DataDef from) = true
dec_ends_datatypes _ = false

unfoldable pub ends_datatypes : Act → Bool
ends_datatypes (a.Dec act) = dec_ends_datatypes act
ends_datatypes _ = false

abbrev pub dec_begins_vars : DecAct → Bool
dec_begins_vars d.NoVars = true
dec_begins_vars _ = false

unfoldable pub begins_vars : Act → Bool
begins_vars (a.Dec act) = dec_begins_vars act
begins_vars _ = false

abbrev pub dec_added_var : DecAct → Option (List ℕ)
dec_added_var (d.AddVar name) = Some name
dec_added_var _ = None

unfoldable pub added_var : Act → Option (List ℕ)
added_var (a.Dec act) = dec_added_var act
added_var _ = None

abbrev pub dec_head : DecAct → Option (List ℕ)
dec_head (d.Head name) = Some name
dec_head _ = None

unfoldable pub head_of : Act → Option (List ℕ)
head_of (a.Dec act) = dec_head act
head_of _ = None

abbrev pub ty_var : TyAct → Option (List ℕ)
ty_var (y.Var from name) = Some name
ty_var _ = None

unfoldable pub var_of : Act → Option (List ℕ)
var_of (a.Ty act) = ty_var act
var_of _ = None

abbrev pub ty_is_none : TyAct → Bool
ty_is_none y.NoTys = true
ty_is_none _ = false

unfoldable pub is_none : Act → Bool
is_none (a.Ty act) = ty_is_none act
is_none _ = false

abbrev pub ty_is_first : TyAct → Bool
ty_is_first y.First = true
ty_is_first _ = false

unfoldable pub is_first : Act → Bool
is_first (a.Ty act) = ty_is_first act
is_first _ = false

abbrev pub ty_is_push : TyAct → Bool
ty_is_push y.Push = true
ty_is_push _ = false

unfoldable pub is_push : Act → Bool
is_push (a.Ty act) = ty_is_push act
is_push _ = false

-- the types of a datatype declaration: variables and name of each
abbrev pub Own : Type 0
Own = List (List (List ℕ) × List ℕ)

abbrev pub with_var : List (List ℕ) → Option (List ℕ) → List (List ℕ)
with_var vars None = vars
with_var vars (Some name) = vars ++ name ∷ []

-- the variables after an act
abbrev pub vars_after : List (List ℕ) → Act → List (List ℕ)
vars_after vars act = with_var (cond (begins_vars act) [] vars) (added_var act)

-- a type of that name, if one is named, behind such variables
abbrev pub own_of : List (List ℕ) → Option (List ℕ) → Own
own_of vars None = []
own_of vars (Some name) = (vars, name) ∷ []

-- the types of the datatype declaration whose acts come next, behind such variables
unfoldable pub own_types : List (List ℕ) → List Made → Own
own_types vars [] = []
own_types vars (m ∷ ms) = cond (ends_datatypes m.act) [] (own_of vars (head_of m.act) ++ own_types (vars_after vars m.act) ms)

-- the variables of a type, where the declaration has one of that name
unfoldable pub variables_of : List ℕ → Own → Option (List (List ℕ))
variables_of name [] = None
variables_of name (own ∷ others) = cond (bytes_eq own.1 name) (Some own.0) (variables_of name others)

abbrev pub same_name : List ℕ → Option (List ℕ) → Bool
same_name name None = false
same_name name (Some found) = bytes_eq found name

-- acts that make further arguments, which are these variables
unfoldable pub pushed : List (List ℕ) → List Made → Bool
pushed [] [] = true
pushed (name ∷ names) (m ∷ n ∷ ms) = cond (same_name name (var_of m.act)) (cond (is_push n.act) (pushed names ms) false) false
pushed _ _ = false

-- acts that make a list of arguments, which are these variables
unfoldable pub applied : List (List ℕ) → List Made → Bool
applied [] (m ∷ []) = is_none m.act
applied (name ∷ names) (m ∷ n ∷ ms) = cond (same_name name (var_of m.act)) (cond (is_first n.act) (pushed names ms) false) false
applied _ _ = false

-- how many acts make so many arguments that are variables
abbrev pub argument_acts : ℕ → ℕ
argument_acts count = count + max count 1

-- acts at whose end a list of arguments is made, which are these variables
unfoldable pub ends_applied : List (List ℕ) → List Made → Bool
ends_applied vars before =
    cond (nat_lt (length before) (argument_acts (length vars))) false
    (applied vars (drop (length before - argument_acts (length vars)) before))

abbrev pub nested : ℕ → List Made → Option (List (List ℕ)) → Option Found
nested from before None = None
nested from before (Some vars) = cond (ends_applied vars before) None (Some (from, l.NestedType))

abbrev pub ty_lack : Own → List Made → TyAct → Option Found
ty_lack own before (y.Con from name) = nested from before (variables_of name own)
ty_lack own before _ = None

-- the lack of an act, behind the acts before it and in a declaration of these types
unfoldable pub lack_of : Own → List Made → Act → Option Found
lack_of own before (a.Lack place lack) = Some (place, lack)
lack_of own before (a.Ty act) = ty_lack own before act
lack_of own before _ = None

-- the types of the declaration behind an act, with the acts that follow it
abbrev pub own_after : Own → Act → List Made → Own
own_after own act more = cond (begins_datatypes act) (own_types [] more) (cond (ends_datatypes act) [] own)

-- of two lacks that of the lower place, and the first one where they are the same
abbrev pub lower_found : Found → Found → Found
lower_found first second = cond (nat_lt second.0 first.0) second first

abbrev pub lower : Option Found → Option Found → Option Found
lower None second = second
lower (Some first) None = Some first
lower (Some first) (Some second) = Some (lower_found first second)

-- the first lack of acts, behind a lack that was found and other acts
unfoldable pub lack_from : Option Found → Own → List Made → List Made → Option Found
lack_from found own before [] = found
lack_from found own before (m ∷ ms) = lack_from (lower found (lack_of own before m.act)) (own_after own m.act ms) (before ++ m ∷ []) ms

-- the lack of the lowest place
unfoldable pub first_lack : List Made → Option Found
first_lack acts = lack_from None [] [] acts
