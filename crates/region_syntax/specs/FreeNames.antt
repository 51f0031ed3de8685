-- The names free in the rules of a function, in the order of their first occurrence in the text, and the words of functions.
-- The Definition of Standard ML, section 4.2 (the free identifiers of a phrase); the words are of this project.
use Rattle.std.specs.Prelude.{ℕ, ◌+◌, Bool, true, false, List, [], ◌∷◌, ◌++◌, map, if◌then◌else◌}
use Rattle.std.specs.Str.{bytes_eq}
use Rattle.region_syntax.specs.GroundTypes.{GroundType}
use Rattle.region_syntax.specs.GroundTerms as g
use Rattle.region_syntax.specs.Cost.{type_nodes}

abbrev pub Names : Type 0
Names = List (List ℕ)

-- one of the names
abbrev pub is_listed : List ℕ → Names → Bool
is_listed name [] = false
is_listed name (other ∷ names) = if bytes_eq other name then true else is_listed name names

-- uses of names, each with its type
abbrev pub Uses : Type 0
Uses = List (List ℕ × GroundType)

-- the names that a pattern binds
unfoldable mutual
  pub names_of_pat : g.Pat → Names
  names_of_pat (g.pat t form) = names_of_form form

  pub names_of_form : g.PatForm → Names
  names_of_form (g.NamePat name) = name ∷ []
  names_of_form (g.TuplePat ps) = names_of_pats ps
  names_of_form (g.ListPat ps) = names_of_pats ps
  names_of_form (g.AppPat c p) = names_of_pat p
  names_of_form _ = []

  pub names_of_pats : g.Pats → Names
  names_of_pats g.no_pats = []
  names_of_pats (g.pats p ps) = names_of_pat p ++ names_of_pats ps

-- those that the bindings of a `val`, a group of functions and declarations bind
unfoldable pub names_of_rules : g.Rules → Names
names_of_rules g.no_rules = []
names_of_rules (g.rules p e rs) = names_of_pat p ++ names_of_rules rs

unfoldable pub names_of_defs : g.Defs → Names
names_of_defs g.no_defs = []
names_of_defs (g.defs name rs ds) = name ∷ names_of_defs ds

unfoldable pub names_of_decs : g.Decs → Names
names_of_decs g.no_decs = []
names_of_decs (g.vals bs ds) = names_of_decs ds ++ names_of_rules bs
names_of_decs (g.funs group ds) = names_of_decs ds ++ names_of_defs group
names_of_decs (g.locals hidden shown ds) = names_of_decs ds ++ names_of_decs shown

-- the uses of a name that isn't bound inside
abbrev pub use_of : List ℕ → GroundType → Names → Uses
use_of name t bound = if is_listed name bound then [] else (name, t) ∷ []

-- The uses in a term, where these names are bound inside.
unfoldable mutual
  pub uses_in : g.Exp → Names → Uses
  uses_in (g.exp t form) bound = uses_in_form t form bound

  pub uses_in_form : GroundType → g.Form → Names → Uses
  uses_in_form t (g.Name name) bound = use_of name t bound
  uses_in_form t (g.Tuple es) bound = uses_in_exps es bound
  uses_in_form t (g.List_of es) bound = uses_in_exps es bound
  uses_in_form t (g.Seq es) bound = uses_in_exps es bound
  uses_in_form t (g.App f e) bound = uses_in f bound ++ uses_in e bound
  uses_in_form t (g.Let ds es) bound = uses_in_decs ds bound ++ uses_in_exps es (names_of_decs ds ++ bound)
  uses_in_form t (g.Fn rs) bound = uses_in_rules rs bound
  uses_in_form t (g.Case e rs) bound = uses_in e bound ++ uses_in_rules rs bound
  uses_in_form t (g.Handle e rs) bound = uses_in e bound ++ uses_in_rules rs bound
  uses_in_form t (g.Raise e) bound = uses_in e bound
  uses_in_form t (g.If a b c) bound = uses_in a bound ++ (uses_in b bound ++ uses_in c bound)
  uses_in_form t (g.Both a b) bound = uses_in a bound ++ uses_in b bound
  uses_in_form t (g.Either a b) bound = uses_in a bound ++ uses_in b bound
  uses_in_form t (g.Quote ps) bound = uses_in_pieces ps bound
  uses_in_form t _ bound = []

  pub uses_in_exps : g.Exps → Names → Uses
  uses_in_exps g.no_exps bound = []
  uses_in_exps (g.exps e es) bound = uses_in e bound ++ uses_in_exps es bound

  -- the rules of a match
  pub uses_in_rules : g.Rules → Names → Uses
  uses_in_rules g.no_rules bound = []
  uses_in_rules (g.rules p e rs) bound = uses_in e (names_of_pat p ++ bound) ++ uses_in_rules rs bound

  -- the bindings of a `val`: none sees the other ones
  pub uses_in_bindings : g.Rules → Names → Uses
  uses_in_bindings g.no_rules bound = []
  uses_in_bindings (g.rules p e rs) bound = uses_in e bound ++ uses_in_bindings rs bound

  pub uses_in_pieces : g.Pieces → Names → Uses
  uses_in_pieces g.no_pieces bound = []
  uses_in_pieces (g.plain text ps) bound = uses_in_pieces ps bound
  uses_in_pieces (g.anti e ps) bound = uses_in e bound ++ uses_in_pieces ps bound

  pub uses_in_defs : g.Defs → Names → Uses
  uses_in_defs g.no_defs bound = []
  uses_in_defs (g.defs name rs ds) bound = uses_in_rules rs bound ++ uses_in_defs ds bound

  pub uses_in_decs : g.Decs → Names → Uses
  uses_in_decs g.no_decs bound = []
  uses_in_decs (g.vals bs ds) bound = uses_in_bindings bs bound ++ uses_in_decs ds (names_of_rules bs ++ bound)
  uses_in_decs (g.funs group ds) bound = uses_in_defs group (names_of_defs group ++ bound) ++ uses_in_decs ds (names_of_defs group ++ bound)
  uses_in_decs (g.locals hidden shown ds) bound =
      uses_in_decs hidden bound ++ (uses_in_decs shown (names_of_decs hidden ++ bound) ++ uses_in_decs ds (names_of_decs shown ++ bound))

-- the uses without those of names that stood before
unfoldable pub first_uses : Names → Uses → Uses
first_uses seen [] = []
first_uses seen (u ∷ us) = if is_listed u.0 seen then first_uses seen us else u ∷ first_uses (u.0 ∷ seen) us

abbrev pub names_of_uses : Uses → Names
names_of_uses us = map (λ u. u.0) us

-- the names free in rules, and in a group of functions
abbrev pub free_in_rules : g.Rules → Names
free_in_rules rs = names_of_uses (first_uses [] (uses_in_rules rs []))

abbrev pub free_in_group : g.Defs → Names
free_in_group group = names_of_uses (first_uses [] (uses_in_defs group (names_of_defs group)))

-- the words of a function: one, and for each name free in it one and the nodes of the name's type
unfoldable pub words_of_uses : Uses → ℕ
words_of_uses [] = 0
words_of_uses (u ∷ us) = 1 + type_nodes u.1 + words_of_uses us

abbrev pub function_words : g.Rules → ℕ
function_words rs = 1 + words_of_uses (first_uses [] (uses_in_rules rs []))

-- those of the functions of a group: the group's names that occur in a function are free in it
unfoldable pub group_words : g.Defs → ℕ
group_words g.no_defs = 0
group_words (g.defs name rs ds) = function_words rs + group_words ds
