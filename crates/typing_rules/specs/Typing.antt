-- Typing of programs, by rules and without unifying anything.
-- The Definition of Standard ML, sections 4.4 to 4.11 (static semantics of the core) and appendix A (derived forms).
--
-- A typing gives each expression and each pattern its type. The rules speak of the trees of this language alone: no rule types a
-- declaration of types or exceptions inside `let` or `local`, a datatype that isn't uniform, a tuple of fewer than two parts, or
-- an empty sequence, match or list of bindings.
--
-- Literals, `()`, lists, `if`, `andalso`, `orelse` and quotations are of the types of the basis, whatever names are in scope.
use Rattle.std.specs.Prelude.{◌≡◌, ℕ, suc, ◌+◌, ◌≤◌, Bool, true, false, ◌&&◌, ◌||◌, eqb, List, [], ◌∷◌, ◌++◌, length, map, Option, Some, None, codes, if◌then◌else◌}
use Rattle.std.specs.List.{slice_get, list_any, IsDistinct}
use Rattle.std.specs.Str.{bytes_eq}
use Rattle.sml_syntax.specs.declared.tree.Exp.{Exp}
use Rattle.sml_syntax.specs.declared.tree.Pat.{Pat}
use Rattle.sml_syntax.specs.declared.tree.Ty.{Ty}
use Rattle.sml_syntax.specs.declared.tree.TyForm.TheOpen.{TyForm-F}
use Rattle.sml_syntax.specs.declared.tree.Dec.{Dec}
use Rattle.sml_syntax.specs.declared.tree.Rule.{Rule, out-Rule}
use Rattle.sml_syntax.specs.declared.tree.Piece.{Piece}
use Rattle.sml_syntax.specs.declared.tree.DecForm.TheOpen.{DecForm-F, ExpForm-F}
use Rattle.sml_syntax.specs.declared.tree.PatForm.TheOpen.{PatForm-F}
use Rattle.sml_syntax.specs.Layers.{ExpLayer, DecLayer, PatLayer, form_of_exp, form_of_dec, form_of_pat}
use Rattle.typing_rules.specs.Scope.{form_of_type, antiquoted, first_parts}
use Rattle.type_terms.specs.TypeTerms.{Term, made, Filling, filled, IsInstance}
use Rattle.basis_table.specs.BasisTable.{TypeName, BasisScheme}
use Rattle.typing_rules.specs.StaticContexts.{TypeTerm, TypeFunction, Meaning, NamedMeaning, Context, Datatype, IsKnown, IsAllowed, equality_of, int_term, char_term, string_term, exn_term, unit_term, bool_term, list_term, frag_term, function_term, tuple_term, IsConstructed, lookup, is_constructor_in, monomorphic, polymorphic, filled_each, with_values}

-- The types of the nodes of a tree, each before those of its parts, and these in the order of the text.
pub data NodeTypes : Type 0 where
  no_nodes : NodeTypes
  node : TypeTerm → NodeTypes → NodeTypes
  both : NodeTypes → NodeTypes → NodeTypes

unfoldable pub in_order : NodeTypes → List TypeTerm
in_order no_nodes = []
in_order (node t parts) = t ∷ in_order parts
in_order (both first second) = in_order first ++ in_order second

-- Names that are bound

-- a name with a point
abbrev pub is_long : List ℕ → Bool
is_long name = list_any (λ byte. eqb byte 46) name

-- names that no declaration binds (section 2.9); `=` is no name in patterns and declarations
abbrev pub is_fixed : List ℕ → Bool
is_fixed name = list_any (bytes_eq name) (codes "true" ∷ codes "false" ∷ codes "nil" ∷ codes "::" ∷ codes "ref" ∷ codes "=" ∷ [])

-- a name that a pattern may bind: a short one
abbrev pub may_name : List ℕ → Bool
may_name name = if is_long name then false else (if bytes_eq name (codes "=") then false else true)

-- a name that `val` may bind
abbrev pub may_declare : List ℕ → Bool
may_declare name = if is_long name then false else (if is_fixed name then false else true)

-- a name that a declaration of constructors or exceptions may bind
abbrev pub may_construct : List ℕ → Bool
may_construct name = if bytes_eq name (codes "it") then false else may_declare name

-- the long names that the prelude binds, by `fun`
abbrev pub prelude_long_names : List (List ℕ)
prelude_long_names =
    codes "String.translate"
    ∷ codes "Web.quot"
    ∷ codes "Web.htmlencode"
    ∷ codes "Web.Db.qq"
    ∷ codes "Web.Db.qqq"
    ∷ codes "Web.Cache.memoize"
    ∷ []

abbrev pub is_free : Option Meaning → Bool
is_free None = true
is_free (Some m) = false

-- a name that `fun` and `val rec` may bind: one that `val` may, or a long name of the prelude that has no binding yet
abbrev pub may_recur : Context → List ℕ → Bool
may_recur Γ name = if list_any (bytes_eq name) prelude_long_names then is_free (lookup name Γ.values) else may_declare name

-- each of the names passes the test, and no two are the same (section 2.9)
pub record AreBindable (may : List ℕ → Bool) (names : List (List ℕ)) : Type 0 where
  pub once : IsDistinct bytes_eq names
  pub each : (name : List ℕ) → list_any (bytes_eq name) names ≡ true → may name ≡ true

-- not empty
abbrev pub HasSome : {A : Type 0} → List A → Type 0
HasSome xs = 1 ≤ length xs

-- Written types (section 4.10, rules 44 to 48), with what their type variables stand for

-- the types that fill the places of a type function: the place of a number gets the argument of that number
abbrev pub arguments : List TypeTerm → Filling TypeName
arguments ts e n = argument (slice_get ts n)
  where
    argument : Option TypeTerm → TypeTerm
    argument None = unit_term
    argument (Some t) = t

mutual
  pub data Denotes (Γ : Context) (variables : List (List ℕ × TypeTerm)) : Ty → TypeTerm → Type 0 where
    denotes_variable : {w : Ty} {name : List ℕ} {t : TypeTerm} → form_of_type w ≡ TyForm-F.Var name → lookup name variables ≡ Some t → Denotes Γ variables w t
    denotes_name : {w : Ty} {name : List ℕ} {ws : List Ty} {ts : List TypeTerm} {f : TypeFunction} → form_of_type w ≡ TyForm-F.Con name ws → lookup name Γ.types ≡ Some f →
        DenotesEach Γ variables ws ts → f.arity ≡ length ts → Denotes Γ variables w (filled (arguments ts) f.body)
    denotes_tuple : {w : Ty} {ws : List Ty} {ts : List TypeTerm} → form_of_type w ≡ TyForm-F.Tuple ws → DenotesEach Γ variables ws ts → 2 ≤ length ts → Denotes Γ variables w (tuple_term ts)
    denotes_function : {w from to : Ty} {t u : TypeTerm} → form_of_type w ≡ TyForm-F.Arrow from to → Denotes Γ variables from t → Denotes Γ variables to u →
        Denotes Γ variables w (function_term t u)

  pub data DenotesEach (Γ : Context) (variables : List (List ℕ × TypeTerm)) : List Ty → List TypeTerm → Type 0 where
    denotes_end : DenotesEach Γ variables [] []
    denotes_more : {w : Ty} {ws : List Ty} {t : TypeTerm} {ts : List TypeTerm} → Denotes Γ variables w t → DenotesEach Γ variables ws ts → DenotesEach Γ variables (w ∷ ws) (t ∷ ts)

-- Patterns (section 4.10, rules 32 to 43): the type, what the names are bound to, and the types of the nodes

-- the name has a binding, and t is an instance of its scheme
pub record HasInstance (Γ : Context) (name : List ℕ) (t : TypeTerm) : Type 0 where
  pub meaning : Meaning
  pub found : lookup name Γ.values ≡ Some meaning
  pub instance : IsInstance (equality_of Γ.datatypes) meaning.scheme t

-- each is this type
pub data AreAll (t : TypeTerm) : List TypeTerm → Type 0 where
  all_end : AreAll t []
  all_more : {ts : List TypeTerm} → AreAll t ts → AreAll t (t ∷ ts)

abbrev pub Binds : Type 0
Binds = List (List ℕ × TypeTerm)

mutual
  pub data TypesPat (Γ : Context) : Pat → TypeTerm → Binds → NodeTypes → Type 0 where
    types_pat : {p : Pat} {t : TypeTerm} {binds : Binds} {parts : NodeTypes} → IsKnown Γ.datatypes t → TypesPatForm Γ (form_of_pat p) t binds parts → TypesPat Γ p t binds (node t parts)

  pub data TypesPatForm (Γ : Context) : PatLayer → TypeTerm → Binds → NodeTypes → Type 0 where
    pat_any : {form : PatLayer} {t : TypeTerm} → form ≡ PatForm-F.Any → TypesPatForm Γ form t [] no_nodes
    pat_int : {form : PatLayer} {number : _} → form ≡ PatForm-F.Int number → TypesPatForm Γ form int_term [] no_nodes
    pat_char : {form : PatLayer} {byte : _} → form ≡ PatForm-F.Char byte → TypesPatForm Γ form char_term [] no_nodes
    pat_text : {form : PatLayer} {text : List ℕ} → form ≡ PatForm-F.Str text → TypesPatForm Γ form string_term [] no_nodes
    pat_unit : {form : PatLayer} → form ≡ PatForm-F.Unit → TypesPatForm Γ form unit_term [] no_nodes
    pat_constant : {form : PatLayer} {name : List ℕ} {t : TypeTerm} → form ≡ PatForm-F.Name name → is_constructor_in Γ name ≡ true → HasInstance Γ name t → IsConstructed t →
        TypesPatForm Γ form t [] no_nodes
    pat_variable : {form : PatLayer} {name : List ℕ} {t : TypeTerm} → form ≡ PatForm-F.Name name → is_constructor_in Γ name ≡ false → may_name name ≡ true →
        TypesPatForm Γ form t ((name, t) ∷ []) no_nodes
    pat_tuple : {form : PatLayer} {ps : List Pat} {ts : List TypeTerm} {binds : Binds} {parts : NodeTypes} → form ≡ PatForm-F.Tuple ps → TypesPats Γ ps ts binds parts → 2 ≤ length ps →
        TypesPatForm Γ form (tuple_term ts) binds parts
    pat_list : {form : PatLayer} {ps : List Pat} {t : TypeTerm} {ts : List TypeTerm} {binds : Binds} {parts : NodeTypes} → form ≡ PatForm-F.List ps → TypesPats Γ ps ts binds parts → AreAll t ts →
        TypesPatForm Γ form (list_term t) binds parts
    pat_applied : {form : PatLayer} {name : List ℕ} {p : Pat} {t u : TypeTerm} {binds : Binds} {parts : NodeTypes} → form ≡ PatForm-F.Con name p → is_constructor_in Γ name ≡ true →
        HasInstance Γ name (function_term t u) → TypesPat Γ p t binds parts → TypesPatForm Γ form u binds parts
    pat_typed : {form : PatLayer} {p : Pat} {w : Ty} {t : TypeTerm} {binds : Binds} {parts : NodeTypes} → form ≡ PatForm-F.Typed p w → Denotes Γ [] w t → TypesPat Γ p t binds parts →
        TypesPatForm Γ form t binds parts

  pub data TypesPats (Γ : Context) : List Pat → List TypeTerm → Binds → NodeTypes → Type 0 where
    pats_end : TypesPats Γ [] [] [] no_nodes
    pats_more : {p : Pat} {ps : List Pat} {t : TypeTerm} {ts : List TypeTerm} {binds more : Binds} {nodes others : NodeTypes} → TypesPat Γ p t binds nodes → TypesPats Γ ps ts more others →
        TypesPats Γ (p ∷ ps) (t ∷ ts) (binds ++ more) (both nodes others)

-- Expressions that have no effect (section 4.7): no application but that of a constructor other than `ref`
mutual
  pub data IsNonexpansive (Γ : Context) : Exp → Type 0 where
    steady : {e : Exp} → IsSteadyForm Γ (form_of_exp e) → IsNonexpansive Γ e

  pub data IsSteadyForm (Γ : Context) : ExpLayer → Type 0 where
    steady_int : {form : ExpLayer} {number : _} → form ≡ ExpForm-F.Int number → IsSteadyForm Γ form
    steady_char : {form : ExpLayer} {byte : _} → form ≡ ExpForm-F.Char byte → IsSteadyForm Γ form
    steady_text : {form : ExpLayer} {text : List ℕ} → form ≡ ExpForm-F.Str text → IsSteadyForm Γ form
    steady_name : {form : ExpLayer} {name : List ℕ} → form ≡ ExpForm-F.Name name → IsSteadyForm Γ form
    steady_unit : {form : ExpLayer} → form ≡ ExpForm-F.Unit → IsSteadyForm Γ form
    steady_function : {form : ExpLayer} {rules : List Rule} → form ≡ ExpForm-F.Fn rules → IsSteadyForm Γ form
    steady_tuple : {form : ExpLayer} {es : List Exp} → form ≡ ExpForm-F.Tuple es → AreNonexpansive Γ es → IsSteadyForm Γ form
    steady_list : {form : ExpLayer} {es : List Exp} → form ≡ ExpForm-F.List es → AreNonexpansive Γ es → IsSteadyForm Γ form
    steady_quote : {form : ExpLayer} {pieces : List Piece} → form ≡ ExpForm-F.Quote pieces → AreNonexpansive Γ (antiquoted pieces) → IsSteadyForm Γ form
    steady_typed : {form : ExpLayer} {e : Exp} {w : Ty} → form ≡ ExpForm-F.Typed e w → IsNonexpansive Γ e → IsSteadyForm Γ form
    steady_applied : {form : ExpLayer} {f e : Exp} → form ≡ ExpForm-F.App f e → ConstructsSteadily Γ f → IsNonexpansive Γ e → IsSteadyForm Γ form

  pub data AreNonexpansive (Γ : Context) : List Exp → Type 0 where
    steady_end : AreNonexpansive Γ []
    steady_more : {e : Exp} {es : List Exp} → IsNonexpansive Γ e → AreNonexpansive Γ es → AreNonexpansive Γ (e ∷ es)

  -- a constructor other than `ref`, with a type or without
  pub data ConstructsSteadily (Γ : Context) : Exp → Type 0 where
    constructs_name : {e : Exp} {name : List ℕ} → form_of_exp e ≡ ExpForm-F.Name name → is_constructor_in Γ name ≡ true → bytes_eq name (codes "ref") ≡ false → ConstructsSteadily Γ e
    constructs_typed : {e d : Exp} {w : Ty} → form_of_exp e ≡ ExpForm-F.Typed d w → ConstructsSteadily Γ d → ConstructsSteadily Γ e

-- Expressions (section 4.10, rules 1 to 14, and those of the derived forms), matches (rules 13 and 14) and declarations of values
-- (rules 15 to 26). A rule's names get one type each; so do those of a `val` whose expression may have effects.
--
-- Closure (section 4.8): for other expressions, and for `fun` and `val rec`, each name gets a scheme, where by each filling of the
-- schemes' places the declaration is typed with those instances. The types of its nodes are those of one filling. Schemes so given are
-- less general or the same as those of the Definition, which are the most general of them.
mutual
  pub data TypesExp : Context → Exp → TypeTerm → NodeTypes → Type 0 where
    types_exp : {Γ : Context} {e : Exp} {t : TypeTerm} {parts : NodeTypes} → IsKnown Γ.datatypes t → TypesForm Γ (form_of_exp e) t parts → TypesExp Γ e t (node t parts)

  pub data TypesForm : Context → ExpLayer → TypeTerm → NodeTypes → Type 0 where
    exp_int : {Γ : Context} {form : ExpLayer} {number : _} → form ≡ ExpForm-F.Int number → TypesForm Γ form int_term no_nodes
    exp_char : {Γ : Context} {form : ExpLayer} {byte : _} → form ≡ ExpForm-F.Char byte → TypesForm Γ form char_term no_nodes
    exp_text : {Γ : Context} {form : ExpLayer} {text : List ℕ} → form ≡ ExpForm-F.Str text → TypesForm Γ form string_term no_nodes
    exp_unit : {Γ : Context} {form : ExpLayer} → form ≡ ExpForm-F.Unit → TypesForm Γ form unit_term no_nodes
    exp_name : {Γ : Context} {form : ExpLayer} {name : List ℕ} {t : TypeTerm} → form ≡ ExpForm-F.Name name → HasInstance Γ name t → TypesForm Γ form t no_nodes
    exp_tuple : {Γ : Context} {form : ExpLayer} {es : List Exp} {ts : List TypeTerm} {parts : NodeTypes} → form ≡ ExpForm-F.Tuple es → TypesExps Γ es ts parts → 2 ≤ length es → TypesForm Γ form (tuple_term ts) parts
    exp_list : {Γ : Context} {form : ExpLayer} {es : List Exp} {t : TypeTerm} {ts : List TypeTerm} {parts : NodeTypes} → form ≡ ExpForm-F.List es → TypesExps Γ es ts parts → AreAll t ts →
        TypesForm Γ form (list_term t) parts
    exp_sequence : {Γ : Context} {form : ExpLayer} {es : List Exp} {t : TypeTerm} {parts : NodeTypes} → form ≡ ExpForm-F.Seq es → TypesSequence Γ es t parts → TypesForm Γ form t parts
    exp_applied : {Γ : Context} {form : ExpLayer} {f e : Exp} {t u : TypeTerm} {nodes parts : NodeTypes} → form ≡ ExpForm-F.App f e → TypesExp Γ f (function_term t u) nodes → TypesExp Γ e t parts →
        TypesForm Γ form u (both nodes parts)
    exp_let : {Γ : Context} {form : ExpLayer} {ds : List Dec} {es : List Exp} {values : List NamedMeaning} {t : TypeTerm} {nodes parts : NodeTypes} → form ≡ ExpForm-F.Let ds es → TypesDecs Γ ds values nodes →
        TypesSequence (with_values values Γ) es t parts → TypesForm Γ form t (both nodes parts)
    exp_function : {Γ : Context} {form : ExpLayer} {rules : List Rule} {t u : TypeTerm} {parts : NodeTypes} → form ≡ ExpForm-F.Fn rules → TypesMatch Γ rules t u parts → TypesForm Γ form (function_term t u) parts
    exp_case : {Γ : Context} {form : ExpLayer} {e : Exp} {rules : List Rule} {t u : TypeTerm} {nodes parts : NodeTypes} → form ≡ ExpForm-F.Case e rules → TypesExp Γ e t nodes → TypesMatch Γ rules t u parts →
        TypesForm Γ form u (both nodes parts)
    exp_handle : {Γ : Context} {form : ExpLayer} {e : Exp} {rules : List Rule} {t : TypeTerm} {nodes parts : NodeTypes} → form ≡ ExpForm-F.Handle e rules → TypesExp Γ e t nodes →
        TypesMatch Γ rules exn_term t parts → TypesForm Γ form t (both nodes parts)
    exp_raise : {Γ : Context} {form : ExpLayer} {e : Exp} {t : TypeTerm} {parts : NodeTypes} → form ≡ ExpForm-F.Raise e → TypesExp Γ e exn_term parts → TypesForm Γ form t parts
    exp_if : {Γ : Context} {form : ExpLayer} {test chosen otherwise : Exp} {t : TypeTerm} {first second third : NodeTypes} → form ≡ ExpForm-F.If test chosen otherwise → TypesExp Γ test bool_term first →
        TypesExp Γ chosen t second → TypesExp Γ otherwise t third → TypesForm Γ form t (both first (both second third))
    exp_both : {Γ : Context} {form : ExpLayer} {left right : Exp} {first second : NodeTypes} → form ≡ ExpForm-F.Both left right → TypesExp Γ left bool_term first → TypesExp Γ right bool_term second →
        TypesForm Γ form bool_term (both first second)
    exp_either : {Γ : Context} {form : ExpLayer} {left right : Exp} {first second : NodeTypes} → form ≡ ExpForm-F.Either left right → TypesExp Γ left bool_term first → TypesExp Γ right bool_term second →
        TypesForm Γ form bool_term (both first second)
    exp_quote : {Γ : Context} {form : ExpLayer} {pieces : List Piece} {t : TypeTerm} {ts : List TypeTerm} {parts : NodeTypes} → form ≡ ExpForm-F.Quote pieces → TypesExps Γ (antiquoted pieces) ts parts →
        AreAll t ts → TypesForm Γ form (list_term (frag_term t)) parts
    exp_typed : {Γ : Context} {form : ExpLayer} {e : Exp} {w : Ty} {t : TypeTerm} {parts : NodeTypes} → form ≡ ExpForm-F.Typed e w → Denotes Γ [] w t → TypesExp Γ e t parts → TypesForm Γ form t parts

  pub data TypesExps : Context → List Exp → List TypeTerm → NodeTypes → Type 0 where
    exps_end : {Γ : Context} → TypesExps Γ [] [] no_nodes
    exps_more : {Γ : Context} {e : Exp} {es : List Exp} {t : TypeTerm} {ts : List TypeTerm} {nodes others : NodeTypes} → TypesExp Γ e t nodes → TypesExps Γ es ts others →
        TypesExps Γ (e ∷ es) (t ∷ ts) (both nodes others)

  -- the type of the last
  pub data TypesSequence : Context → List Exp → TypeTerm → NodeTypes → Type 0 where
    sequence_last : {Γ : Context} {e : Exp} {t : TypeTerm} {nodes : NodeTypes} → TypesExp Γ e t nodes → TypesSequence Γ (e ∷ []) t nodes
    sequence_more : {Γ : Context} {e d : Exp} {es : List Exp} {t u : TypeTerm} {nodes others : NodeTypes} → TypesExp Γ e u nodes → TypesSequence Γ (d ∷ es) t others →
        TypesSequence Γ (e ∷ d ∷ es) t (both nodes others)

  -- rules from one type to another
  pub data TypesMatch : Context → List Rule → TypeTerm → TypeTerm → NodeTypes → Type 0 where
    match_last : {Γ : Context} {r : Rule} {t u : TypeTerm} {nodes : NodeTypes} → TypesRule Γ r t u nodes → TypesMatch Γ (r ∷ []) t u nodes
    match_more : {Γ : Context} {r s : Rule} {rules : List Rule} {t u : TypeTerm} {nodes others : NodeTypes} → TypesRule Γ r t u nodes → TypesMatch Γ (s ∷ rules) t u others →
        TypesMatch Γ (r ∷ s ∷ rules) t u (both nodes others)

  pub data TypesRule : Context → Rule → TypeTerm → TypeTerm → NodeTypes → Type 0 where
    types_rule : {Γ : Context} {r : Rule} {t u : TypeTerm} {binds : Binds} {nodes others : NodeTypes} → TypesPat Γ (out-Rule r).pat t binds nodes → IsDistinct bytes_eq (first_parts binds) →
        TypesExp (with_values (monomorphic binds) Γ) (out-Rule r).body u others → TypesRule Γ r t u (both nodes others)

  -- what a declaration of values binds, innermost first
  pub data TypesDec : Context → Dec → List NamedMeaning → NodeTypes → Type 0 where
    dec_val : {Γ : Context} {d : Dec} {binds : List (Pat × Exp)} {values : List NamedMeaning} {nodes : NodeTypes} → form_of_dec d ≡ DecForm-F.Val binds → HasSome binds → TypesBindings Γ binds values nodes →
        AreBindable may_declare (first_parts values) → TypesDec Γ d values nodes
    dec_rec : {Γ : Context} {d : Dec} {binds : List (List ℕ × List Rule)} (schemes : List (List ℕ × BasisScheme)) (by : Filling TypeName) (nodes : Filling TypeName → NodeTypes) →
        form_of_dec d ≡ DecForm-F.ValRec binds → HasSome binds → AreBindable (may_recur Γ) (first_parts binds) → IsAllowed Γ.datatypes by →
        ((us : Filling TypeName) → IsAllowed Γ.datatypes us → TypesFunctions (with_values (monomorphic (filled_each us schemes)) Γ) binds (filled_each us schemes) (nodes us)) →
        TypesDec Γ d (polymorphic schemes) (nodes by)
    dec_local : {Γ : Context} {d : Dec} {hidden shown : List Dec} {first second : List NamedMeaning} {nodes others : NodeTypes} → form_of_dec d ≡ DecForm-F.Local hidden shown → TypesDecs Γ hidden first nodes →
        TypesDecs (with_values first Γ) shown second others → TypesDec Γ d second (both nodes others)

  pub data TypesDecs : Context → List Dec → List NamedMeaning → NodeTypes → Type 0 where
    decs_end : {Γ : Context} → TypesDecs Γ [] [] no_nodes
    decs_more : {Γ : Context} {d : Dec} {ds : List Dec} {first rest : List NamedMeaning} {nodes others : NodeTypes} → TypesDec Γ d first nodes → TypesDecs (with_values first Γ) ds rest others →
        TypesDecs Γ (d ∷ ds) (rest ++ first) (both nodes others)

  pub data TypesBindings : Context → List (Pat × Exp) → List NamedMeaning → NodeTypes → Type 0 where
    bindings_end : {Γ : Context} → TypesBindings Γ [] [] no_nodes
    bindings_more : {Γ : Context} {bind : Pat × Exp} {binds : List (Pat × Exp)} {first rest : List NamedMeaning} {nodes others : NodeTypes} → TypesBinding Γ bind first nodes → TypesBindings Γ binds rest others →
        TypesBindings Γ (bind ∷ binds) (first ++ rest) (both nodes others)

  pub data TypesBinding : Context → Pat × Exp → List NamedMeaning → NodeTypes → Type 0 where
    binding_single : {Γ : Context} {bind : Pat × Exp} {t : TypeTerm} {names : Binds} {nodes others : NodeTypes} → TypesPat Γ bind.0 t names nodes → TypesExp Γ bind.1 t others →
        TypesBinding Γ bind (monomorphic names) (both nodes others)
    binding_general : {Γ : Context} {bind : Pat × Exp} (schemes : List (List ℕ × BasisScheme)) (by : Filling TypeName) (types : Filling TypeName → TypeTerm) (nodes others : Filling TypeName → NodeTypes) →
        IsNonexpansive Γ bind.1 → IsAllowed Γ.datatypes by → ((us : Filling TypeName) → IsAllowed Γ.datatypes us → TypesPat Γ bind.0 (types us) (filled_each us schemes) (nodes us)) →
        ((us : Filling TypeName) → IsAllowed Γ.datatypes us → TypesExp Γ bind.1 (types us) (others us)) → TypesBinding Γ bind (polymorphic schemes) (both (nodes by) (others by))

  -- functions, each of the type that its name has
  pub data TypesFunctions : Context → List (List ℕ × List Rule) → Binds → NodeTypes → Type 0 where
    functions_end : {Γ : Context} → TypesFunctions Γ [] [] no_nodes
    functions_more : {Γ : Context} {bind : List ℕ × List Rule} {binds : List (List ℕ × List Rule)} {t u : TypeTerm} {names : Binds} {nodes others : NodeTypes} → TypesMatch Γ bind.1 t u nodes →
        TypesFunctions Γ binds names others → TypesFunctions Γ (bind ∷ binds) ((bind.0, function_term t u) ∷ names) (both nodes others)
