-- The types that the acts of a declaration of datatypes tell are those of its tree.
use Rattle.std.proofs.Common.{◌≡◌, ℕ, List, [], ◌∷◌, ◌++◌, true, false, refl, ap, sym, ◌∙◌, append_assoc}
use Rattle.sml_syntax.specs.declared.token.Token.{Token}
use Rattle.sml_syntax.specs.NestedTypes.{Found, Datatypes}
use Rattle.grammar_rules.specs.Grammar as g
use Rattle.sml_grammar.specs.declared.act.Act.{Act}
use Rattle.sml_grammar.specs.declared.act.Act.TheVariants as a
use Rattle.sml_grammar.specs.declared.act.DecAct.TheVariants as b
use Rattle.sml_grammar.specs.declared.act.Made.{Made}
use Rattle.sml_grammar.specs.Machine.{made}
use Rattle.parse_limits.specs.Lacks.{own_types, ends_datatypes, head_of, begins_vars, added_var}
use Rattle.grammar_trees.specs.Tells as t
use Rattle.grammar_trees.specs.Tells.{Tells, first_to}
use Rattle.grammar_limits.specs.Owns.{owns, Still, Adds, Owning}

append_nil : {A : Type 0} (ms : List A) → ms ++ [] ≡ ms
append_nil [] = refl
append_nil (m ∷ ms) = ap (λ z. m ∷ z) (append_nil ms)

o-end : Still []
o-end = record { still = λ old more. refl }

o-then : {n m : List Made} → Still n → Still m → Still (n ++ m)
o-then {n} {m} p q = record { still = λ old more. ap (λ z. own_types old z) (append_assoc n m more) ∙ p.still old (m ++ more) ∙ q.still old more }

-- an act that names nothing
o-act : {f : Act} {to : ℕ} {n : List Made} → ((old : List (List ℕ)) (more : List Made) → own_types old (made f to ∷ more) ≡ own_types old more) → Still n → Still (made f to ∷ n)
o-act {f} {to} {n} h p = record { still = λ old more. h old (n ++ more) ∙ p.still old more }

add-none : Adds [] []
add-none = record { adds = λ old more. ap (λ z. own_types z more) (sym (append_nil old)) }

add-var : {to : ℕ} (name : List ℕ) {n : List Made} {names : List (List ℕ)} → Adds n names → Adds (made (a.Dec (b.AddVar name)) to ∷ n) (name ∷ names)
unfolding own_types ends_datatypes head_of begins_vars added_var
add-var name {n} {names} p = record { adds = λ old more. p.adds (old ++ name ∷ []) more ∙ ap (λ z. own_types z more) (append_assoc old (name ∷ []) names) }

-- a type by its variables, its name and its constructors
bind-names : {n1 n2 : List Made} (t1 t2 t3 t4 : ℕ) (names : List (List ℕ)) (name : List ℕ) (rest : List Made) → Adds n1 names → Still n2 → (old : List (List ℕ)) (more : List Made) →
    own_types old ((made (a.Dec b.NoVars) t1 ∷ (n1 ++ (made (a.Dec (b.Head name)) t2 ∷ (made (a.Dec b.NoCons) t3 ∷ (n2 ++ (made (a.Dec b.AddData) t4 ∷ rest)))))) ++ more) ≡ (names, name) ∷ own_types names (rest ++ more)
unfolding own_types ends_datatypes head_of begins_vars added_var
bind-names {n1} {n2} t1 t2 t3 t4 names name rest p q old more =
    ap (λ z. own_types [] z) (append_assoc n1 (made (a.Dec (b.Head name)) t2 ∷ (made (a.Dec b.NoCons) t3 ∷ (n2 ++ (made (a.Dec b.AddData) t4 ∷ rest)))) more)
    ∙ p.adds [] (made (a.Dec (b.Head name)) t2 ∷ (made (a.Dec b.NoCons) t3 ∷ (n2 ++ (made (a.Dec b.AddData) t4 ∷ rest) ++ more)))
    ∙ ap (λ z. (names, name) ∷ own_types names z) (append_assoc n2 (made (a.Dec b.AddData) t4 ∷ rest) more)
    ∙ ap (λ z. (names, name) ∷ z) (q.still names (made (a.Dec b.AddData) t4 ∷ (rest ++ more)))

pub owned : {c : g.Phrase} {next : ℕ} {ts : List Token} {tree : g.Tree} {ls : List Found} {new : List Made} → Tells c next ts tree ls new → Owning c tree new
unfolding own_types ends_datatypes head_of begins_vars added_var
owned t.vars_none = add-none
owned (t.vars_one word name h) = add-var name add-none
owned (t.vars_several opening closing h d i) = owned d
owned (t.more_vars_one word name h) = add-var name add-none
owned (t.more_vars_more word comma name h i d) = add-var name (owned d)
owned (t.datas_one {ts = ts} {names = names} {all = all} word equals name d h i f) = λ old. record { vars = names; names = λ more. bind-names (first_to (ts ++ word ∷ [])) _ _ _ names name [] (owned d) (owned f) old more }
owned (t.datas_more {ts = ts} {names = names} {all = all} {n3 = n3} word equals and_ name d h i f j m) = λ old. let r = owned m names in
    record { vars = r.vars; names = λ more. bind-names (first_to (ts ++ word ∷ [])) _ _ _ names name n3 (owned d) (owned f) old more ∙ ap (λ z. (names, name) ∷ z) (r.names more) }
owned (t.conty_name word name h1) = o-act (λ old more. refl) (o-act (λ old more. refl) (o-end))
owned (t.conty_paren opening closing h1 d2 h3) = owned d2
owned (t.conty_one word name d1 h2) = o-then (owned d1) (o-act (λ old more. refl) (o-act (λ old more. refl) (o-end)))
owned (t.conty_several opening comma closing word name h1 d2 h3 d4 h5 h6) = o-then (owned d2) (o-act (λ old more. refl) (o-then (owned d4) (o-act (λ old more. refl) (o-end))))
owned (t.tys_one d1) = o-then (owned d1) (o-act (λ old more. refl) (o-end))
owned (t.tys_more comma d1 h2 d3) = o-then (owned d1) (o-act (λ old more. refl) (owned d3))
owned (t.stars_one d1) = o-then (owned d1) (o-act (λ old more. refl) (o-end))
owned (t.stars_more word d1 h2 d3) = o-then (owned d1) (o-act (λ old more. refl) (owned d3))
owned (t.tupty_one d1) = owned d1
owned (t.tupty_several word d1 h2 d3) = o-then (owned d1) (o-act (λ old more. refl) (o-then (owned d3) (o-act (λ old more. refl) (o-end))))
owned (t.ty_one d1) = owned d1
owned (t.ty_arrow word d1 h2 d3) = o-then (owned d1) (o-then (owned d3) (o-act (λ old more. refl) (o-end)))
owned (t.conty_var {v = true} word name h) = o-act (λ old more. refl) o-end
owned (t.conty_var {v = false} word name h) = o-act (λ old more. refl) (o-act (λ old more. refl) o-end)
owned (t.cons_one word name h) = o-act (λ old more. refl) (o-act (λ old more. refl) o-end)
owned (t.cons_of word of_ name h i d) = o-act (λ old more. refl) (o-then (owned d) (o-act (λ old more. refl) (o-act (λ old more. refl) o-end)))
owned (t.cons_more word bar name h i d) = o-act (λ old more. refl) (o-act (λ old more. refl) (owned d))
owned (t.cons_of_more word of_ bar name h i d j f) = o-act (λ old more. refl) (o-then (owned d) (o-act (λ old more. refl) (o-act (λ old more. refl) (owned f))))
owned d = tt

-- the types that are found behind the beginning of a declaration
pub owned-all : {next : ℕ} {ts : List Token} {all : Datatypes} {ls : List Found} {new : List Made} (from end_ : ℕ) → Tells g.datas next ts (g.datas_tree all) ls new →
    (more : List Made) → own_types [] (new ++ made (a.Dec (b.DataDef from)) end_ ∷ more) ≡ owns all
unfolding own_types ends_datatypes
owned-all {all = all} from end_ d more = let r = owned d [] in r.names (made (a.Dec (b.DataDef from)) end_ ∷ more) ∙ append_nil (owns all)
