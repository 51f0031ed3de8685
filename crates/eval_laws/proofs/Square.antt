-- The memoised square, computed.
use Rattle.std.proofs.Common.{◌≡◌, ℕ, suc, ℤ, pos, Bool, true, List, [], ◌∷◌, ◌++◌, Some, codes, refl, ap, ap₂, sym, ◌∙◌, subst}
use Rattle.std.specs.Prelude.{◌&&◌, if◌then◌else◌}
use Rattle.sml_syntax.specs.declared.tree.Span.{Span}
use Rattle.sml_syntax.specs.declared.tree.Exp.{Exp}
use Rattle.sml_syntax.specs.declared.tree.ExpForm.TheVariants as e
use Rattle.sml_syntax.specs.declared.tree.PatForm.TheVariants as p
use Rattle.sml_syntax.specs.declared.tree.Pat.{Pat}
use Rattle.sml_syntax.specs.declared.tree.Dec.{Dec}
use Rattle.sml_syntax.specs.declared.tree.DecForm.TheVariants as d
use Rattle.sml_syntax.specs.declared.tree.Rule.{Rule}
use Rattle.sml_evaluation.specs.declared.value.Value.{Value}
use Rattle.sml_evaluation.specs.declared.value.Bound.{Bound, roll-Bound}
use Rattle.sml_evaluation.specs.declared.value.Bound.TheOpen.{Value-F, Bound-F}
use Rattle.sml_evaluation.specs.declared.value.Bound.TheFolds.{fold-roll-Value}
use Rattle.web_data.specs.declared.datum.Datum.{Datum}
use Rattle.web_data.specs.declared.datum.Datum.TheVariants as datum
use Rattle.web_data.specs.declared.datum.Datum.TheOpen.{Datum-F}
use Rattle.web_data.specs.declared.datum.Datum.TheFolds.{fold-roll-Datum}
use Rattle.web_data.specs.declared.datum.Desc.TheVariants as desc
use Rattle.web_data.specs.declared.datum.Desc.TheOpen.{Desc-F}
use Rattle.web_data.specs.declared.datum.Desc.TheFolds.{fold-roll-Desc}
use Rattle.web_data.specs.declared.database.WebCall.{WebCall}
use Rattle.web_data.specs.declared.database.WebAns.{WebAns}
use Rattle.sml_evaluation.specs.ValueLayers.{form_of_value}
use Rattle.grammar_rules.specs.Nodes.{exp_at, pat_at, dec_at}
use Rattle.sml_evaluation.specs.Values.{Env, prim_value, unit_value, text_value, con_value, applied_value, none_value, bool_value, tuple_value, int_value, desc_value, cache_value, some_value, function_value}
use Rattle.web_data.specs.Data.{has_desc, has_form_of}
use Rattle.sml_evaluation.specs.DataValues.{is_plain, Data, data_by, datum_of, value_of, value_by, words_of}
use Rattle.sml_evaluation.specs.RunState.{Done, Waits, then_do, found, counted, sharing, count_of}
use Rattle.sml_evaluation.specs.Outcome.{State, Outcome}
use Rattle.sml_evaluation.specs.Evaluation.{eval, held_names, held_by, level, binding, plan_of, application, group_bound}
use Rattle.sml_evaluation.specs.Mentioned.{Names, in_group}
use Rattle.sml_evaluation.specs.Page.{html_type, Finished, exception_names, EndsAs, PageOf}
use Rattle.sml_evaluation.specs.Primitives.{Comparing, prim_result, of_plain, of_pair, of_three, of_four, times, concatenation, int_to_string, web_write, cache_get, cache_lookup, cache_insert, on_cache, datum_result}
use Rattle.web_data.specs.declared.cache.CacheOp.TheVariants as op
use Rattle.web_data.specs.declared.cache.CacheAns.TheVariants as told
use Rattle.web_data.specs.declared.database.WebAns.TheVariants as answer
use Rattle.eval_laws.specs.Examples as x
use Rattle.eval_laws.specs.Examples.{squares_id}
use Rattle.eval_laws.proofs.StandingNames.{everything}
use Rattle.eval_laws.proofs.StandingNames as k
use Rattle.eval_laws.proofs.PlainValues.{plain_int, plain_text, plain_con, plain_applied, plain_desc, plain_cache, plain_pair, plain_triple, plain_four}

-- ---- data of the cache

datum_int : (n : ℤ) → datum_of desc.Int (int_value n) ≡ Some (datum.Int n)
unfolding everything
datum_int n = ap (λ (z : Data). z.whole desc.Int) (fold-roll-Value ℕ Data ℕ (λ b. 0) data_by (λ c. 0) (Value-F.Int n))

value_int : (n : ℤ) → value_of (datum.Int n) ≡ int_value n
unfolding everything
value_int n = fold-roll-Datum Value value_by (Datum-F.Int n)

value_some : (n : ℤ) → value_of (datum.Opt (Some (datum.Int n))) ≡ some_value (int_value n)
unfolding everything
value_some n = fold-roll-Datum Value value_by (Datum-F.Opt (Some (datum.Int n))) ∙ ap some_value (value_int n)

is_described : has_desc desc.Int (datum.Int (pos 49)) ≡ true
unfolding everything
is_described = ap (λ f. f (datum.Int (pos 49))) (fold-roll-Desc (Datum → Bool) has_form_of Desc-F.Int)

-- ---- the names that functions hold

held_nothing : (names : Names) → held_names names [] ≡ []
held_nothing [] = refl
held_nothing (n ∷ ns) = held_nothing ns

abbrev variable_to : Value → Bound
variable_to v = roll-Bound (Bound-F.Variable v)

module _ (at : Span) where
  abbrev memoize_body : k.KnownExp at
  memoize_body =
      k.cases at (k.app at (k.app at (k.name at (codes "Web.Cache.lookup")) (k.name at (codes "c"))) (k.name at (codes "k")))
      (
      k.rule at (k.applied at (codes "SOME") (k.variable at (codes "v"))) (k.name at (codes "v"))
      ∷ k.rule at (k.variable at (codes "NONE"))
      (k.scope at
      (
      k.binding at (k.variable at (codes "v")) (k.app at (k.name at (codes "f")) (k.name at (codes "k")))
      ∷ k.binding at (k.any at)
      (k.app at (k.name at (codes "Web.Cache.insert")) (k.tuple at (k.name at (codes "c") ∷ k.name at (codes "k") ∷ k.name at (codes "v") ∷ [])))
      ∷ []
      )
      (k.name at (codes "v") ∷ []))
      ∷ []
      )

  -- the functions of the last two arguments, of the last one, and the square
  abbrev of_last : List (k.KnownRule at)
  of_last =
      k.rule at (k.variable at (codes "3"))
      (k.cases at (k.tuple at (k.name at (codes "1") ∷ k.name at (codes "2") ∷ k.name at (codes "3") ∷ []))
      (k.rule at (k.tuple_pat at (k.variable at (codes "c") ∷ k.variable at (codes "f") ∷ k.variable at (codes "k") ∷ [])) memoize_body ∷ []))
      ∷ []

  abbrev of_two : List (k.KnownRule at)
  of_two = k.rule at (k.variable at (codes "2")) (k.function at of_last) ∷ []

  abbrev of_number : List (k.KnownRule at)
  of_number =
      k.rule at (k.variable at (codes "n"))
      (k.sequence at
      (
      k.app at (k.name at (codes "Web.write")) (k.text at (codes "run "))
      ∷ k.app at (k.name at (codes "*")) (k.tuple at (k.name at (codes "n") ∷ k.name at (codes "n") ∷ []))
      ∷ []
      ))
      ∷ []

  abbrev last_rules : List Rule
  last_rules = k.rules_of at of_last

  abbrev two_rules : List Rule
  two_rules = k.rules_of at of_two

  -- ---- what the names stand for behind each declaration

  abbrev memoize_value : Value
  memoize_value = function_value (x.memoize_rules at) [] ((codes "Web.Cache.memoize", x.memoize_rules at) ∷ [])

  abbrev behind_memoize : Env
  behind_memoize = (codes "Web.Cache.memoize", variable_to memoize_value) ∷ []

  abbrev behind_cache : Env
  behind_cache = (codes "c", variable_to (cache_value squares_id)) ∷ behind_memoize

  abbrev square_value : Value
  square_value = function_value (x.square_rules at) [] []

  abbrev in_two : Env
  in_two = (codes "1", variable_to (cache_value squares_id)) ∷ behind_memoize

  abbrev held_in_two : Env
  held_in_two = (codes "1", variable_to (cache_value squares_id)) ∷ []

  abbrev held_in_last : Env
  held_in_last = (codes "1", variable_to (cache_value squares_id)) ∷ (codes "2", variable_to square_value) ∷ []

  abbrev behind_square : Env
  behind_square = (codes "f", variable_to (function_value last_rules held_in_last [])) ∷ behind_cache

  two_hold : held_by in_two two_rules ≡ held_in_two
  unfolding everything
  two_hold = ap (λ ns. held_names ns in_two) (k.stand_in at of_two)

  square_holds : held_by behind_cache (x.square_rules at) ≡ []
  unfolding everything
  square_holds = ap (λ ns. held_names ns behind_cache) (k.stand_in at of_number)

  abbrev in_last : Env → Env → Env
  in_last held_square held_two = (codes "2", variable_to (function_value (x.square_rules at) held_square [])) ∷ held_two

  last_holds : held_by (in_last [] held_in_two) last_rules ≡ held_in_last
  unfolding everything
  last_holds = ap (λ ns. held_names ns (in_last [] held_in_two)) (k.stand_in at of_last)

-- ---- what an evaluation comes to, whatever it counts

-- what of the state the example tells of
record World : Type 0 where
  body : List ℕ
  answers : List WebAns
  calls : List WebCall

abbrev world : List ℕ → List WebAns → List WebCall → World
world body answers calls = record { body = body; answers = answers; calls = calls }

module _ (form : List (List ℕ × List ℕ)) (databases : List (List ℕ)) where
  abbrev at_world : World → ℕ → State
  at_world w n = record {
    shared = record {
      form = form;
      databases = databases;
      body = w.body;
      status = 200;
      content_type = html_type;
      answers = w.answers;
      calls = w.calls;
    };
    store = [];
    count = n;
  }

  record Comes {A : Type 0} (o : Outcome A) (a : A) (w : World) : Type 0 where
    is : o ≡ Done a (at_world w (count_of o))

  then_comes : {A B : Type 0} {o : Outcome A} {a : A} {w w1 : World} {b : B} (f : A → State → Outcome B) → Comes o a w → ((n : ℕ) → Comes (f a (at_world w n)) b w1) → Comes (then_do o f) b w1
  then_comes {o = o} {w1 = w1} {b = b} f h g = subst (λ z. Comes (then_do z f) b w1) (sym h.is) (g (count_of o))

  -- ---- primitives

  abbrev squares_cache : Value
  squares_cache = cache_value squares_id

  -- the calls of the example
  abbrev look : WebCall
  look = x.on_squares (op.Look (datum.Int (pos 7)))

  abbrev put : WebCall
  put = x.on_squares (op.Put (datum.Int (pos 7)) (datum.Int (pos 49)))

  -- on plain values a primitive is its row's function
  asked_for : (same : Comparing) (s : State) → prim_result same (codes "Web.Cache.lookup") (squares_cache ∷ []) (int_value (pos 7)) s ≡ on_cache squares_id (op.Look (datum.Int (pos 7))) s
  unfolding everything
  asked_for same s =
      ap₂ (λ a b. of_plain (a && b) (cache_lookup squares_cache (int_value (pos 7))) s) (plain_cache squares_id) (plain_int (pos 7))
      ∙ ap (λ z. found (λ key s1. on_cache squares_id (op.Look key) s1) z s) (datum_int (pos 7))

  abbrev put_value : Value
  put_value = tuple_value (squares_cache ∷ int_value (pos 7) ∷ int_value (pos 49) ∷ [])

  kept : (same : Comparing) (s : State) → prim_result same (codes "Web.Cache.insert") [] put_value s ≡ on_cache squares_id (op.Put (datum.Int (pos 7)) (datum.Int (pos 49))) s
  unfolding everything
  kept same s =
      ap (λ b. of_plain b (λ s1. of_three cache_insert (form_of_value put_value) s1) s) (plain_triple squares_cache (int_value (pos 7)) (int_value (pos 49)) (plain_cache squares_id) (plain_int (pos 7)) (plain_int (pos 49)))
      ∙ ap (λ z. found (λ key s1. found (λ d s2. on_cache squares_id (op.Put key d) s2) (datum_of desc.Int (int_value (pos 49))) s1) z s) (datum_int (pos 7))
      ∙ ap (λ z. found (λ d s2. on_cache squares_id (op.Put (datum.Int (pos 7)) d) s2) z s) (datum_int (pos 49))

  by_plain : {o p : Outcome Value} {v : Value} {w : World} → o ≡ p → Comes p v w → Comes o v w
  by_plain {v = v} {w = w} e h = subst (λ z. Comes z v w) (sym e) h

  abbrev get_argument : Value
  get_argument = tuple_value (desc_value desc.Int ∷ desc_value desc.Int ∷ text_value (codes "sq") ∷ applied_value 5 0 (tuple_value (con_value 2 0 ∷ con_value 2 0 ∷ [])) ∷ [])

  plain_limits : is_plain (tuple_value (con_value 2 0 ∷ con_value 2 0 ∷ [])) ≡ true
  plain_limits = plain_pair (con_value 2 0) (con_value 2 0) (plain_con 2 0) (plain_con 2 0)

  get_comes : (w : World) (n : ℕ) → Comes (prim_result (level 0).same (codes "Web.Cache.get") [] get_argument (at_world w n)) squares_cache w
  unfolding everything
  get_comes w n =
      by_plain
      (ap (λ b. of_plain b (λ s1. of_four (λ a b1 c d s2. cache_get (form_of_value a) (form_of_value b1) (form_of_value c) (form_of_value d) s2) (form_of_value get_argument) s1) (at_world w n))
      (plain_four (desc_value desc.Int) (desc_value desc.Int) (text_value (codes "sq")) (applied_value 5 0 (tuple_value (con_value 2 0 ∷ con_value 2 0 ∷ [])))
      (plain_desc desc.Int) (plain_desc desc.Int) (plain_text (codes "sq")) (plain_applied 5 0 (tuple_value (con_value 2 0 ∷ con_value 2 0 ∷ [])) plain_limits)))
      (record { is = refl })

  write_comes : (text : List ℕ) (w : World) (n : ℕ) → Comes (prim_result (level 0).same (codes "Web.write") [] (text_value text) (at_world w n)) unit_value (world (w.body ++ text) w.answers w.calls)
  unfolding everything
  write_comes text w n = by_plain (ap (λ b. of_plain b (λ s1. web_write (form_of_value (text_value text)) s1) (at_world w n)) (plain_text text)) (record { is = refl })

  times_comes : (w : World) (n : ℕ) → Comes (prim_result (level 0).same (codes "*") [] (tuple_value (int_value (pos 7) ∷ int_value (pos 7) ∷ [])) (at_world w n)) (int_value (pos 49)) w
  unfolding everything
  times_comes w n =
      by_plain
      (ap (λ b. of_plain b (λ s1. of_pair times (form_of_value (tuple_value (int_value (pos 7) ∷ int_value (pos 7) ∷ []))) s1) (at_world w n)) (plain_pair (int_value (pos 7)) (int_value (pos 7)) (plain_int (pos 7)) (plain_int (pos 7))))
      (record { is = refl })

  told_comes : (w : World) (n : ℕ) → Comes (prim_result (level 0).same (codes "Int.toString") [] (int_value (pos 49)) (at_world w n)) (text_value (codes "49")) w
  unfolding everything
  told_comes w n = by_plain (ap (λ b. of_plain b (λ s1. int_to_string (form_of_value (int_value (pos 49))) s1) (at_world w n)) (plain_int (pos 49))) (record { is = refl })

  joined_comes : (a b : List ℕ) (w : World) (n : ℕ) → Comes (prim_result (level 0).same (codes "^") [] (tuple_value (text_value a ∷ text_value b ∷ [])) (at_world w n)) (text_value (a ++ b)) w
  unfolding everything
  joined_comes a b w n =
      by_plain
      (ap (λ p. of_plain p (λ s1. of_pair concatenation (form_of_value (tuple_value (text_value a ∷ text_value b ∷ []))) s1) (at_world w n)) (plain_pair (text_value a) (text_value b) (plain_text a) (plain_text b)))
      (record { is = refl })

  module _ (body : List ℕ) (rest : List WebAns) (calls : List WebCall) (n : ℕ) where
    abbrev same : Comparing
    same = (level 0).same

    abbrev absent_state : State
    absent_state = at_world (world body (answer.Cache told.Absent ∷ rest) calls) n

    look_is_absent : Comes (prim_result same (codes "Web.Cache.lookup") (squares_cache ∷ []) (int_value (pos 7)) absent_state) none_value (world body rest (calls ++ look ∷ []))
    look_is_absent = subst (λ z. Comes z none_value (world body rest (calls ++ look ∷ []))) (sym (asked_for same absent_state)) (record { is = refl })

    abbrev fresh_state : State
    fresh_state = at_world (world body (answer.Cache (told.Fresh true) ∷ rest) calls) n

    put_is_fresh : Comes (prim_result same (codes "Web.Cache.insert") [] put_value fresh_state) (bool_value true) (world body rest (calls ++ put ∷ []))
    put_is_fresh = subst (λ z. Comes z (bool_value true) (world body rest (calls ++ put ∷ []))) (sym (kept same fresh_state)) (record { is = refl })

    abbrev found_state : State
    found_state = at_world (world body (answer.Cache (told.Found (datum.Int (pos 49))) ∷ rest) calls) n

    abbrev behind_found : State
    behind_found = at_world (world body rest (calls ++ look ∷ [])) n

    answer_taken : Comes (on_cache squares_id (op.Look (datum.Int (pos 7))) found_state) (some_value (int_value (pos 49))) (world body rest (calls ++ look ∷ []))
    answer_taken =
        subst (λ b. Comes (if b && true then datum_result (datum.Opt (Some (datum.Int (pos 49)))) behind_found else Waits (sharing (record (found_state.shared) { calls = calls ++ look ∷ [] }) found_state)) (some_value (int_value (pos 49))) (world body rest (calls ++ look ∷ [])))
        (sym is_described)
        (record { is = ap (λ v. Done v (counted (words_of (datum.Opt (Some (datum.Int (pos 49))))) behind_found)) (value_some (pos 49)) })

    look_finds : Comes (prim_result same (codes "Web.Cache.lookup") (squares_cache ∷ []) (int_value (pos 7)) found_state) (some_value (int_value (pos 49))) (world body rest (calls ++ look ∷ []))
    look_finds = subst (λ z. Comes z (some_value (int_value (pos 49))) (world body rest (calls ++ look ∷ []))) (sym (asked_for same found_state)) answer_taken

  -- ---- the memoised square of 7

  module _ (at : Span) where
    abbrev higher : ℕ → ℕ
    higher n = suc (suc (suc (suc (suc (suc (suc (suc (suc (suc n)))))))))

    first_time : (n : ℕ) (body : List ℕ) (rest : List WebAns) (calls : List WebCall) (c : ℕ)
        → Comes (eval (higher n) (behind_square at) (at_world (world body (answer.Cache told.Absent ∷ answer.Cache (told.Fresh true) ∷ rest) calls) c) (x.of_seven at)) (int_value (pos 49)) (world (body ++ codes "run ") rest ((calls ++ look ∷ []) ++ put ∷ []))
    unfolding everything
    first_time n body rest calls c =
        then_comes _ (look_is_absent body _ calls _) (λ c1.
        then_comes _ (then_comes _ (then_comes _ (then_comes _ (then_comes _ (write_comes (codes "run ") (world body (answer.Cache (told.Fresh true) ∷ rest) (calls ++ look ∷ [])) _)
        (λ c2. then_comes _ (then_comes _ (times_comes (world (body ++ codes "run ") (answer.Cache (told.Fresh true) ∷ rest) (calls ++ look ∷ [])) _) (λ c3. record { is = refl })) (λ c3. record { is = refl })))
        (λ c2. record { is = refl })) (λ c2. record { is = refl }))
        (λ c2. then_comes _ (then_comes _ (put_is_fresh (body ++ codes "run ") rest (calls ++ look ∷ []) _) (λ c3. record { is = refl })) (λ c3. record { is = refl })))
        (λ c2. record { is = refl }))

    second_time : (n : ℕ) (body : List ℕ) (rest : List WebAns) (calls : List WebCall) (c : ℕ)
        → Comes (eval (higher n) (behind_square at) (at_world (world body (answer.Cache (told.Found (datum.Int (pos 49))) ∷ rest) calls) c) (x.of_seven at)) (int_value (pos 49)) (world body rest (calls ++ look ∷ []))
    unfolding everything
    second_time n body rest calls c = then_comes _ (look_finds body rest calls _) (λ c1. record { is = refl })

    abbrev first_answers : List WebAns → List WebAns
    first_answers rest = answer.Cache told.Absent ∷ answer.Cache (told.Fresh true) ∷ rest

    abbrev found_answer : List WebAns → List WebAns
    found_answer rest = answer.Cache (told.Found (datum.Int (pos 49))) ∷ rest

    abbrev all_answers : List WebAns
    all_answers = first_answers (found_answer [])

    abbrev all_calls : List WebCall
    all_calls = look ∷ put ∷ look ∷ []

    -- an application, and a binding of which nothing is kept, by their parts
    applied_comes : (n : ℕ) (env : Env) (f a : Exp) (g v r : Value) (w w1 w2 w3 : World)
        → ((c : ℕ) → Comes (eval n env (at_world w c) f) g w1) → ((c : ℕ) → Comes (eval n env (at_world w1 c) a) v w2)
        → ((c : ℕ) → Comes (application (level n) (form_of_value g) v (at_world w2 c)) r w3)
        → (c : ℕ) → Comes (eval (suc n) env (at_world w c) (exp_at at (e.App f a))) r w3
    unfolding everything
    applied_comes n env f a g v r w w1 w2 w3 hf ha hr c = then_comes _ (hf _) (λ c1. then_comes _ (ha c1) (λ c2. hr _))

    ignored_comes : (n : ℕ) (env : Env) (a : Exp) (v : Value) (w w1 : World)
        → ((c : ℕ) → Comes (eval (suc n) env (at_world w c) a) v w1)
        → (c : ℕ) → Comes (binding (level (suc n)) env env (at_world w c) (pat_at at p.Any, a)) env w1
    unfolding everything
    ignored_comes n env a v w w1 ha c = then_comes _ (ha c) (λ c1. record { is = refl })

    write_named : (n c : ℕ) → Comes (eval (suc (suc (suc (suc (suc (higher n)))))) (behind_square at) (at_world (world [] all_answers []) c) (exp_at at (e.Name (codes "Web.write")))) (prim_value (codes "Web.write")) (world [] all_answers [])
    unfolding everything
    write_named n c = record { is = refl }

    write_done : (n c : ℕ) → Comes (application (level n) (form_of_value (prim_value (codes "Web.write"))) (text_value (codes "49 49")) (at_world (world (codes "run ") [] all_calls) c)) unit_value (world (codes "run 49 49") [] all_calls)
    unfolding everything
    write_done n c = write_comes (codes "49 49") (world (codes "run ") [] all_calls) _

    first_text : (n : ℕ) (body : List ℕ) (rest : List WebAns) (calls : List WebCall) (c : ℕ)
        → Comes (eval (suc (higher n)) (behind_square at) (at_world (world body (first_answers rest) calls) c) (x.seven_told at)) (text_value (codes "49")) (world (body ++ codes "run ") rest ((calls ++ look ∷ []) ++ put ∷ []))
    unfolding everything
    first_text n body rest calls c = then_comes _ (first_time n body rest calls _) (λ c1. told_comes (world (body ++ codes "run ") rest ((calls ++ look ∷ []) ++ put ∷ [])) _)

    second_text : (n : ℕ) (body : List ℕ) (rest : List WebAns) (calls : List WebCall) (c : ℕ)
        → Comes (eval (suc (higher n)) (behind_square at) (at_world (world body (found_answer rest) calls) c) (x.seven_told at)) (text_value (codes "49")) (world body rest (calls ++ look ∷ []))
    unfolding everything
    second_text n body rest calls c = then_comes _ (second_time n body rest calls _) (λ c1. told_comes (world body rest (calls ++ look ∷ [])) _)

    first_with_space : (n : ℕ) (body : List ℕ) (rest : List WebAns) (calls : List WebCall) (c : ℕ)
        → Comes (eval (suc (suc (suc (higher n)))) (behind_square at) (at_world (world body (first_answers rest) calls) c) (x.first_told at)) (text_value (codes "49 ")) (world (body ++ codes "run ") rest ((calls ++ look ∷ []) ++ put ∷ []))
    unfolding everything
    first_with_space n body rest calls c =
        then_comes _ (then_comes _ (then_comes _ (first_text n body rest calls _) (λ c1. record { is = refl })) (λ c1. record { is = refl }))
        (λ c1. joined_comes (codes "49") (codes " ") (world (body ++ codes "run ") rest ((calls ++ look ∷ []) ++ put ∷ [])) _)

    both_texts : (n c : ℕ)
        → Comes (eval (suc (suc (suc (suc (suc (higher n)))))) (behind_square at) (at_world (world [] all_answers []) c) (x.both_told at)) (text_value (codes "49 49")) (world (codes "run ") [] all_calls)
    unfolding everything
    both_texts n c =
        then_comes _ (then_comes _ (then_comes _ (first_with_space n [] (found_answer []) [] _)
        (λ c1. then_comes _ (then_comes _ (second_text (suc (suc n)) (codes "run ") [] (look ∷ put ∷ []) _) (λ c2. record { is = refl })) (λ c2. record { is = refl })))
        (λ c1. record { is = refl })) (λ c1. joined_comes (codes "49 ") (codes "49") (world (codes "run ") [] all_calls) _)

    written : (n c : ℕ)
        → Comes (eval (suc (suc (suc (suc (suc (suc (higher n))))))) (behind_square at) (at_world (world [] all_answers []) c) (x.both_written at)) unit_value (world (codes "run 49 49") [] all_calls)
    written n c =
        applied_comes (suc (suc (suc (suc (suc (higher n)))))) (behind_square at) (exp_at at (e.Name (codes "Web.write"))) (x.both_told at) (prim_value (codes "Web.write")) (text_value (codes "49 49")) unit_value
        (world [] all_answers []) (world [] all_answers []) (world (codes "run ") [] all_calls) (world (codes "run 49 49") [] all_calls)
        (write_named n) (both_texts n) (write_done (suc (suc (suc (suc (suc (higher n))))))) c

    use_bound : (n c : ℕ)
        → Comes (binding (level (suc (suc (suc (suc (suc (suc (higher n)))))))) (behind_square at) (behind_square at) (at_world (world [] all_answers []) c) (pat_at at p.Any, x.both_written at)) (behind_square at) (world (codes "run 49 49") [] all_calls)
    use_bound n c = ignored_comes (suc (suc (suc (suc (suc (higher n)))))) (behind_square at) (x.both_written at) unit_value (world [] all_answers []) (world (codes "run 49 49") [] all_calls) (written n) c

    -- ---- the declarations

    scope_comes : (n : ℕ) (outer env env1 last : Env) (q : Pat) (a : Exp) (ds : List Dec) (w w1 w2 : World)
        → ((c : ℕ) → Comes (binding (level n) env env (at_world w c) (q, a)) env1 w1)
        → ((c : ℕ) → Comes ((level n).scope env env1 (at_world w1 c) [] (plan_of ds [] [])) (last, []) w2)
        → (c : ℕ) → Comes ((level (suc n)).scope outer env (at_world w c) [] (plan_of (dec_at at (d.Val ((q, a) ∷ [])) ∷ ds) [] [])) (last, []) w2
    unfolding everything
    scope_comes n outer env env1 last q a ds w w1 w2 hb hs c = then_comes _ (hb _) (λ c1. hs c1)

    scope_ends : (n : ℕ) (outer env : Env) (w : World) (c : ℕ) → Comes ((level (suc n)).scope outer env (at_world w c) [] (plan_of [] [] [])) (env, []) w
    unfolding everything
    scope_ends n outer env w c = record { is = refl }

    abbrev five_more : ℕ → ℕ
    five_more n = suc (suc (suc (suc (suc n))))

    cache_bound : (n : ℕ) (w : World) (c : ℕ) → Comes (binding (level (five_more n)) (behind_memoize at) (behind_memoize at) (at_world w c) (pat_at at (p.Name (codes "c")), x.cache_made at)) (behind_cache at) w
    unfolding everything
    cache_bound n w c = then_comes _ (get_comes w _) (λ c1. record { is = refl })

    abbrev partial : Value
    partial = function_value (two_rules at) (held_in_two at) []

    abbrev whole : Value
    whole = function_value (last_rules at) (held_in_last at) []

    memoize_applied : (n : ℕ) (w : World) (c : ℕ) → Comes (eval (five_more n) (behind_cache at) (at_world w c) (exp_at at (e.App (exp_at at (e.Name (codes "Web.Cache.memoize"))) (exp_at at (e.Name (codes "c")))))) partial w
    unfolding everything
    memoize_applied n w c =
        record { is = ap (λ h. Done (function_value (two_rules at) h []) (at_world w (count_of (eval (five_more n) (behind_cache at) (at_world w c) (exp_at at (e.App (exp_at at (e.Name (codes "Web.Cache.memoize"))) (exp_at at (e.Name (codes "c"))))))))) (two_hold at) }

    square_made : (n : ℕ) (w : World) (c : ℕ) → Comes (eval (five_more n) (behind_cache at) (at_world w c) (x.square at)) (square_value at) w
    unfolding everything
    square_made n w c =
        record { is = ap (λ h. Done (function_value (x.square_rules at) h []) (at_world w (count_of (eval (five_more n) (behind_cache at) (at_world w c) (x.square at))))) (square_holds at) }

    partial_applied : (n : ℕ) (w : World) (c : ℕ) → Comes (application (level (five_more n)) (form_of_value partial) (square_value at) (at_world w c)) whole w
    unfolding everything
    partial_applied n w c =
        record { is = ap (λ h. Done (function_value (last_rules at) h []) (at_world w (count_of (application (level (five_more n)) (form_of_value partial) (square_value at) (at_world w c))))) (last_holds at) }

    bound_comes : (n : ℕ) (a : Exp) (v : Value) (w w1 : World)
        → ((c : ℕ) → Comes (eval (suc n) (behind_cache at) (at_world w c) a) v w1)
        → (c : ℕ) → Comes (binding (level (suc n)) (behind_cache at) (behind_cache at) (at_world w c) (pat_at at (p.Name (codes "f")), a)) ((codes "f", variable_to v) ∷ behind_cache at) w1
    unfolding everything
    bound_comes n a v w w1 ha c = then_comes _ (ha c) (λ c1. record { is = refl })

    square_bound : (n : ℕ) (w : World) (c : ℕ) → Comes (binding (level (suc (five_more n))) (behind_cache at) (behind_cache at) (at_world w c) (pat_at at (p.Name (codes "f")), x.memoised at)) (behind_square at) w
    square_bound n w c =
        bound_comes (five_more n) (x.memoised at) whole w w
        (applied_comes (five_more n) (behind_cache at) (exp_at at (e.App (exp_at at (e.Name (codes "Web.Cache.memoize"))) (exp_at at (e.Name (codes "c"))))) (x.square at) partial (square_value at) whole w w w w (memoize_applied n w) (square_made n w) (partial_applied n w)) c

    -- the item of the prelude and the script
    abbrev last_level : ℕ
    last_level = suc (suc (suc (suc (suc (suc (higher 0))))))

    abbrev behind_all : ℕ → Outcome (Env × List Value)
    behind_all c = (level (suc (suc (suc last_level)))).scope [] (behind_memoize at) (at_world (world [] all_answers []) c) [] (plan_of (x.squares_cache at ∷ x.memoised_square at ∷ x.squares_written at ∷ []) [] [])

    script_comes : (c : ℕ) → Comes (behind_all c) (behind_square at, []) (world (codes "run 49 49") [] all_calls)
    script_comes = scope_comes (suc (suc last_level)) [] (behind_memoize at) (behind_cache at) (behind_square at) (pat_at at (p.Name (codes "c"))) (x.cache_made at) (x.memoised_square at ∷ x.squares_written at ∷ [])
        (world [] all_answers []) (world [] all_answers []) (world (codes "run 49 49") [] all_calls) (cache_bound 13 (world [] all_answers []))
        (scope_comes (suc last_level) (behind_memoize at) (behind_cache at) (behind_square at) (behind_square at) (pat_at at (p.Name (codes "f"))) (x.memoised at) (x.squares_written at ∷ [])
        (world [] all_answers []) (world [] all_answers []) (world (codes "run 49 49") [] all_calls) (square_bound 11 (world [] all_answers []))
        (scope_comes last_level (behind_cache at) (behind_square at) (behind_square at) (behind_square at) (pat_at at p.Any) (x.both_written at) []
        (world [] all_answers []) (world (codes "run 49 49") [] all_calls) (world (codes "run 49 49") [] all_calls) (use_bound 0)
        (scope_ends (suc (suc (suc (suc (suc (higher 0)))))) (behind_square at) (behind_square at) (world (codes "run 49 49") [] all_calls))))

    abbrev one_function : List (List ℕ × List Rule)
    one_function = (codes "Web.Cache.memoize", x.memoize_rules at) ∷ []

    abbrev at_start : State
    at_start = at_world (world [] all_answers []) 0

    abbrev behind_function : State
    behind_function = counted 1 at_start

    all_come : Comes ((level (suc (suc (suc (suc last_level))))).scope [] [] at_start [] (plan_of (x.squares at) [] [])) (behind_square at, []) (world (codes "run 49 49") [] all_calls)
    unfolding everything
    all_come =
        subst (λ h. Comes ((level (suc (suc (suc last_level)))).scope [] (group_bound one_function h one_function ++ []) behind_function [] (plan_of (x.squares_cache at ∷ x.memoised_square at ∷ x.squares_written at ∷ []) [] [])) (behind_square at, []) (world (codes "run 49 49") [] all_calls))
        (sym (held_nothing (in_group one_function)))
        (script_comes behind_function.count)

    pub page : PageOf (x.squares at) form databases x.square_answers x.square_calls (Finished 200 html_type (codes "run 49 49"))
    page = (
      suc (suc (suc (suc last_level))),
      subst (λ o. EndsAs (exception_names (x.squares at)) (then_do o (λ r s1. Done r.0 s1)) x.square_calls (Finished 200 html_type (codes "run 49 49"))) (sym all_come.is) (refl, refl, refl, refl),
    )
