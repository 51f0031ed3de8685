-- The examples, computed.
use Rattle.std.proofs.Common.{◌≡◌, ℕ, Bool, suc, ℤ, pos, List, [], ◌∷◌, ◌++◌, Option, Some, codes, refl, ap, sym, subst, ◌∙◌}
use Rattle.sml_evaluation.specs.declared.value.Value as plain
use Rattle.sml_evaluation.specs.declared.value.Bound.TheOpen.{Value-F}
use Rattle.sml_evaluation.specs.declared.value.Bound.TheFolds.{fold-roll-Value}
use Rattle.sml_evaluation.specs.declared.value.Bound.TheViews.{out-roll-Value}
use Rattle.sml_evaluation.specs.Values as make
use Rattle.sml_evaluation.specs.ValueLayers.{form_of_value}
use Rattle.sml_evaluation.specs.Outcome as source
use Rattle.sml_evaluation.specs.Primitives.{int_text, of_plain, of_pair, times, concatenation, int_to_string, web_write}
use Rattle.eval_laws.proofs.PlainValues.{plain_int, plain_text, plain_pair}
use Rattle.region_syntax.specs.GroundTypes as gt
use Rattle.region_syntax.specs.GroundTerms as g
use Rattle.region_syntax.specs.GroundTerms.{Datatype}
use Rattle.region_syntax.specs.Effects as effects
use Rattle.region_syntax.specs.Cost as cost
use Rattle.region_syntax.specs.UsedRegions as used
use Rattle.region_syntax.specs.UsedRegions.{choice_of_code}
use Rattle.sml_evaluation.specs.RunState.{EvalState, RunState, Ending, Done, then_do, found, counted, sharing, state_of}
use Rattle.region_eval.specs.Carried.{plain_state, carried}
use Rattle.region_eval.specs.GroundValues as gv
use Rattle.region_eval.specs.GroundPrimitives.{taken, taken_by, called}
use Rattle.region_eval.specs.GroundPrimitives as gp
use Rattle.region_eval.specs.GroundEvaluation as ge
use Rattle.region_eval.specs.RegionStore.{Value, Int, State, Outcome}
use Rattle.region_eval.specs.RegionEvaluation.{eval, start_around, start_store}
use Rattle.region_eval.specs.Examples.{pair_is_read, pair_is_dead, pair_is_held, Gives, HasNoRule, Writes, writes, two_writes, product, product_text, greeting, hello_expression, hello}

pub read_gives : (ds : List Datatype) (q : EvalState) → Gives (eval 5 (start_around ds (choice_of_code [])) [] (state_of q start_store 0) pair_is_read) (Int (pos 9))
unfolding effects.is_number_in cost.meeting cost.regions_in used.used used.used_exps used.used_argument used.are_arguments used.are_tuples used.arguments_of
read_gives ds q = refl

pub dead_has_no_rule : (ds : List Datatype) (q : EvalState) → HasNoRule (eval 5 (start_around ds (choice_of_code [])) [] (state_of q start_store 0) pair_is_dead)
unfolding effects.is_number_in cost.meeting cost.regions_in used.used used.used_exps used.used_argument used.are_arguments used.are_tuples used.arguments_of
dead_has_no_rule ds q = tt

pub held_gives : (ds : List Datatype) (q : EvalState) → Gives (eval 5 (start_around ds (choice_of_code [])) [] (state_of q start_store 0) pair_is_held) (Int (pos 1))
unfolding effects.is_number_in cost.meeting cost.regions_in used.used used.used_exps used.used_argument used.are_arguments used.are_tuples used.arguments_of
held_gives ds q = refl

taken_unit : taken make.unit_value ≡ Some gv.Unit
taken_unit = fold-roll-Value ℕ (Option gv.Value) ℕ (λ b. 0) taken_by (λ c. 0) Value-F.Unit

taken_text : (bytes : List ℕ) → taken (make.text_value bytes) ≡ Some (gv.Str bytes)
taken_text bytes = fold-roll-Value ℕ (Option gv.Value) ℕ (λ b. 0) taken_by (λ c. 0) (Value-F.Str bytes)

-- ---- programs

-- a primitive of plain values is its row's function
abbrev plainly : (b : Bool) (f : source.State → source.Outcome plain.Value) → gp.State → gp.Outcome gv.Value
plainly b f s = carried gp.carrying s.store (of_plain b f (plain_state s))

write_here : (bytes : List ℕ) (s : gp.State) → called (codes "Web.write") gv.no_values (gv.Str bytes) s ≡ Done gv.Unit (sharing (record (s.shared) { body = s.shared.body ++ bytes }) s)
unfolding plain.out-Value denote.Hole.Carrier.out plain.roll-Value denote.Hole.Carrier.roll
write_here bytes s =
    ap (λ b. plainly b (λ t. web_write (form_of_value (make.text_value bytes)) t) s) (plain_text bytes)
    ∙ ap (λ w. found (λ v s1. Done v s1) w (sharing (record (s.shared) { body = s.shared.body ++ bytes }) s)) taken_unit

taken_int : (n : ℤ) → taken (make.int_value n) ≡ Some (gv.Int n)
taken_int n = fold-roll-Value ℕ (Option gv.Value) ℕ (λ b. 0) taken_by (λ c. 0) (Value-F.Int n)

taken_prim : (name : List ℕ) → taken (make.prim_value name) ≡ Some (gv.Prim name gv.no_values)
taken_prim name = fold-roll-Value ℕ (Option gv.Value) ℕ (λ b. 0) taken_by (λ c. 0) (Value-F.Prim name [])

-- the primitives that the examples apply
times_here : (s : gp.State) → called (codes "*") gv.no_values (gv.Tuple (gv.values (gv.Int (pos 6)) (gv.values (gv.Int (pos 7)) gv.no_values))) s ≡ Done (gv.Int (pos 42)) s
unfolding plain.out-Value denote.Hole.Carrier.out plain.roll-Value denote.Hole.Carrier.roll
times_here s =
    ap (λ b. plainly b (λ t. of_pair times (form_of_value (make.tuple_value (make.int_value (pos 6) ∷ make.int_value (pos 7) ∷ []))) t) s)
    (plain_pair (make.int_value (pos 6)) (make.int_value (pos 7)) (plain_int (pos 6)) (plain_int (pos 7)))
    ∙ (ap (λ z. carried gp.carrying s.store (of_pair times z (plain_state s))) (out-roll-Value (Value-F.Tuple (make.int_value (pos 6) ∷ make.int_value (pos 7) ∷ [])))
    ∙ ap (λ w. found (λ v s1. Done v s1) w s) (taken_int (pos 42)))

abbrev digits : List ℕ
digits = int_text (pos 42)

digits_here : (s : gp.State) → called (codes "Int.toString") gv.no_values (gv.Int (pos 42)) s ≡ Done (gv.Str digits) (counted (make.text_size digits) s)
unfolding plain.out-Value denote.Hole.Carrier.out plain.roll-Value denote.Hole.Carrier.roll
digits_here s =
    ap (λ b. plainly b (λ t. int_to_string (form_of_value (make.int_value (pos 42))) t) s) (plain_int (pos 42))
    ∙ ap (λ w. found (λ v s1. Done v s1) w (counted (make.text_size digits) s)) (taken_text digits)

joined_here : (a b : List ℕ) (s : gp.State) → called (codes "^") gv.no_values (gv.Tuple (gv.values (gv.Str a) (gv.values (gv.Str b) gv.no_values))) s ≡ Done (gv.Str (a ++ b)) (counted (make.text_size (a ++ b)) s)
unfolding plain.out-Value denote.Hole.Carrier.out plain.roll-Value denote.Hole.Carrier.roll
joined_here a b s =
    ap (λ p. plainly p (λ t. of_pair concatenation (form_of_value (make.tuple_value (make.text_value a ∷ make.text_value b ∷ []))) t) s)
    (plain_pair (make.text_value a) (make.text_value b) (plain_text a) (plain_text b))
    ∙ (ap (λ z. carried gp.carrying s.store (of_pair concatenation z (plain_state s))) (out-roll-Value (Value-F.Tuple (make.text_value a ∷ make.text_value b ∷ [])))
    ∙ ap (λ w. found (λ v s1. Done v s1) w (counted (make.text_size (a ++ b)) s)) (taken_text (a ++ b)))

-- a primitive's name
named : (name : List ℕ) (s : gp.State) → ◌≡◌ {A = gp.Outcome gv.Value} (found (λ v s1. Done v s1) (taken (make.prim_value name)) s) (Done (gv.Prim name gv.no_values) s)
named name s = ap (λ w. found (λ v s1. Done v s1) w s) (taken_prim name)

then_step : {N V H A B : Type 0} {o : Ending N V H A} {a : A} {s : RunState H} (f : A → RunState H → Ending N V H B) → o ≡ Done a s → then_do o f ≡ f a s
then_step f h = ap (λ z. then_do z f) h

ends : {o : gp.Outcome gv.Env} {env : gv.Env} {s : gp.State} {body : List ℕ} → o ≡ Done env s → s.shared.body ≡ body → Writes o body
ends {body = body} h k = subst (λ z. Writes z body) (sym h) k

-- the states that the evaluations leave
abbrev written : List ℕ → gp.State → gp.State
written text s = sharing (record (s.shared) { body = s.shared.body ++ text }) s

abbrev asked_twice : gp.State → gp.State
asked_twice s = counted 1 (counted 1 s)

abbrev before_write : List ℕ → gp.State → gp.State
before_write text s = counted 1 (counted (make.text_size text) (counted 1 (asked_twice s)))

-- order of writes
write_text : (n : ℕ) (env : gv.Env) (text : List ℕ) (s : gp.State) → ge.eval (suc (suc n)) env s (writes text) ≡ Done gv.Unit (written text (before_write text s))
write_text n env text s = then_step _ (named (codes "Web.write") (asked_twice s)) ∙ write_here text (before_write text s)

pub two_writes_here : (q : EvalState) → Writes (ge.eval_decs 5 gv.no_names (state_of q [] 0) two_writes) ((q.body ++ codes "a") ++ codes "b")
two_writes_here q =
    let s0 : gp.State = counted 1 (counted 1 (counted 1 (state_of q [] 0))) in
    let s1 : gp.State = written (codes "a") (before_write (codes "a") s0) in
    let s2 : gp.State = written (codes "b") (before_write (codes "b") s1) in
    let second : ge.each_value (ge.level 3).exp gv.no_names s1 (g.exps (writes (codes "b")) g.no_exps) ≡ Done (gv.values gv.Unit gv.no_values) s2 = then_step _ (write_text 1 gv.no_names (codes "b") s1) in
    let both : ge.each_value (ge.level 3).exp gv.no_names s0 (g.exps (writes (codes "a")) (g.exps (writes (codes "b")) g.no_exps)) ≡ Done (gv.values gv.Unit (gv.values gv.Unit gv.no_values)) s2
    = then_step _ (write_text 1 gv.no_names (codes "a") s0) ∙ then_step _ second in
    ends {body = (q.body ++ codes "a") ++ codes "b"} (then_step _ (then_step _ (then_step _ (then_step _ both)))) refl

-- hello product
abbrev after_product : gp.State → gp.State
after_product s = counted 1 (counted 2 (counted 1 (counted 1 (counted 1 (asked_twice s)))))

product_value : (n : ℕ) (env : gv.Env) (s : gp.State) → ge.eval (suc (suc (suc n))) env s product ≡ Done (gv.Int (pos 42)) (after_product s)
product_value n env s = then_step _ (named (codes "*") (asked_twice s)) ∙ times_here (after_product s)

abbrev after_digits : gp.State → gp.State
after_digits s = counted (make.text_size digits) (counted 1 (after_product (asked_twice s)))

digits_value : (n : ℕ) (env : gv.Env) (s : gp.State) → ge.eval (suc (suc (suc (suc n)))) env s product_text ≡ Done (gv.Str digits) (after_digits s)
digits_value n env s =
    then_step _ (named (codes "Int.toString") (asked_twice s)) ∙ (then_step _ (product_value n env (asked_twice s)) ∙ digits_here (counted 1 (after_product (asked_twice s))))

abbrev greeted : List ℕ
greeted = codes "Hello " ++ digits

-- where the second part of the pair begins
abbrev at_digits : gp.State → gp.State
at_digits s = counted (make.text_size (codes "Hello ")) (counted 1 (counted 1 (asked_twice s)))

abbrev after_pair : gp.State → gp.State
after_pair s = counted 2 (after_digits (at_digits s))

greeting_value : (n : ℕ) (env : gv.Env) (s : gp.State) → ge.eval (suc (suc (suc (suc (suc (suc n)))))) env s greeting ≡ Done (gv.Str greeted) (counted (make.text_size greeted) (counted 1 (after_pair s)))
greeting_value n env s =
    then_step _ (named (codes "^") (asked_twice s))
    ∙ (then_step _ (then_step _ (then_step _ (then_step _ (digits_value n env (at_digits s))))) ∙ joined_here (codes "Hello ") digits (counted 1 (after_pair s)))

abbrev after_greeting : gp.State → gp.State
after_greeting s = counted (make.text_size greeted) (counted 1 (after_pair s))

one_val : (n : ℕ) (e : g.Exp) (s s1 : gp.State) → ge.eval (suc n) gv.no_names (asked_twice s) e ≡ Done gv.Unit s1
    → ge.eval_decs (suc (suc n)) gv.no_names s (g.vals (g.rules (g.pat gt.Unit g.AnyPat) e g.no_rules) g.no_decs) ≡ Done gv.no_names (counted 1 s1)
one_val n e s s1 h = then_step _ (then_step _ (then_step _ h))

whole_value : (s : gp.State) → ge.eval 7 gv.no_names s hello_expression ≡ Done gv.Unit (written greeted (counted 1 (after_greeting (asked_twice s))))
whole_value s =
    then_step _ (named (codes "Web.write") (asked_twice s)) ∙ (then_step _ (greeting_value 0 gv.no_names (asked_twice s)) ∙ write_here greeted (counted 1 (after_greeting (asked_twice s))))

pub hello_here : (q : EvalState) → Writes (ge.eval_decs 8 gv.no_names (state_of q [] 0) hello) (q.body ++ (codes "Hello " ++ int_text (pos 42)))
hello_here q =
    let s0 : gp.State = asked_twice (state_of q [] 0) in
    ends {body = q.body ++ greeted} (one_val 6 hello_expression (state_of q [] 0) (written greeted (counted 1 (after_greeting (asked_twice s0)))) (whole_value s0)) refl
