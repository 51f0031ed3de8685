-- What evaluating the tree of a script gives.
use Rattle.std.proofs.Common.{◌≡◌, ℕ, zero, suc, ◌+◌, ◌*◌, ◌<◌, ◌≤◌, ◌^◌, ℤ, pos, Bool, true, List, [], ◌∷◌, ◌++◌, Option, None, Some, codes, length, refl, ap, ap₂, sym, subst, ◌∙◌, arith, append-nil}
use Rattle.std.specs.Prelude.{nat_lt, if◌then◌else◌}
use Rattle.std.specs.Fmt.{decimal}
use Rattle.std.specs.List.{list_all}
use Rattle.std.proofs.lemmas.Bool.Decides.{nat_tests}
use Rattle.std.proofs.lemmas.Nat.{mul-le}
use Rattle.sml_syntax.specs.declared.tree.Exp.{Exp}
use Rattle.sml_syntax.specs.declared.tree.Dec.{Dec}
use Rattle.sml_syntax.specs.declared.tree.Pat.{Pat}
use Rattle.sml_syntax.specs.declared.tree.DecForm.TheOpen.{DecForm-F, ExpForm-F}
use Rattle.sml_syntax.specs.declared.tree.PatForm.TheOpen.{PatForm-F}
use Rattle.sml_evaluation.specs.declared.value.Value.{Value, roll-Value, out-Value, out-roll-Value}
use Rattle.sml_evaluation.specs.declared.value.Bound.{roll-Bound, out-roll-Bound}
use Rattle.sml_evaluation.specs.declared.value.Bound.TheOpen.{Value-F, Bound-F}
use Rattle.sml_evaluation.specs.declared.value.Bound.TheFolds.{fold-roll-Value}
use Rattle.sml_syntax.specs.Layers.{ExpLayer, form_of_exp, form_of_dec, form_of_pat}
use Rattle.sml_evaluation.specs.ValueLayers.{ValueLayer, form_of_value}
use Rattle.sml_evaluation.specs.Values.{int_value, text_value, tuple_value, unit_value, prim_value, text_size, bound_of, opened}
use Rattle.sml_evaluation.specs.RunState.{Done, then_do, counted, sharing, state_of}
use Rattle.sml_evaluation.specs.Outcome.{State, Outcome}
use Rattle.sml_evaluation.specs.DataValues.{plain_by, is_plain}
use Rattle.sml_evaluation.specs.Primitives.{Comparing, of_pair, of_plain, times, concatenation, int_to_string, web_write, int_result, prim_result, basis}
use Rattle.sml_evaluation.specs.Evaluation.{eval, level, plan_of, each_value, exp_result, bound_result, application, pat_result, binding, bound_more, eval_decs, with_dec}
use Rattle.sml_evaluation.specs.Page.{PageOf, Finished, EndsAs, exception_names, start, html_type}
use Rattle.smlserver_top.specs.declared.part.Part.{Part}
use Rattle.smlserver_top.specs.declared.part.Part.TheVariants.{Plain}
use Rattle.smlserver_top.specs.Parts.{text_of_part, text_of}
use Rattle.smlserver_top.specs.Straight.{argument_of, pair_of, sides_of, text_of_exp, product_of, text_or, part_of, AreJoined, one, more, IsStraight}
use Rattle.smlserver_top.proofs.Options.{bind_some}
use Rattle.smlserver_top.proofs.StraightLaws.{same_some, argument_is, pair_is, text_is, product_is, written_is, text_of-append}

counted_twice : (a b : ℕ) (s : State) → counted b (counted a s) ≡ counted (a + b) s
counted_twice a b s = ap (state_of s.shared s.store) (let e : s.count + a + b ≡ s.count + (a + b) = omega arith in e)

counted_none : (s : State) → s ≡ counted 0 s
counted_none s = ap (state_of s.shared s.store) (let e : s.count ≡ s.count + 0 = omega arith in e)

-- from some height on the expression gives this value, and counts no more than that
pub record Yields (e : Exp) (v : Value) : Type 0 where
  height : ℕ
  cost : ℕ
  gives : (n : ℕ) (s : State) → height ≤ n → eval n [] s e ≡ Done v (counted cost s)

form_gives : (e : Exp) (form : ExpLayer) (v : Value) (h c : ℕ) → form_of_exp e ≡ form → ((n : ℕ) (s : State) → h ≤ n → exp_result (level n) [] s form ≡ Done v (counted c s)) → (n : ℕ) (s : State) → suc h ≤ n → eval n [] s e ≡ Done v (counted (1 + c) s)
form_gives e form v h c f k zero s l = absurd (omega (arith, l))
form_gives e form v h c f k (suc n) s l =
    ap (exp_result (level n) [] (counted 1 s)) f ∙ k n (counted 1 s) (omega (arith, l)) ∙ ap (Done v) (counted_twice 1 c s)

by_form : (e : Exp) (form : ExpLayer) (v : Value) (h c : ℕ) → form_of_exp e ≡ form → ((n : ℕ) (s : State) → h ≤ n → exp_result (level n) [] s form ≡ Done v (counted c s)) → Yields e v
by_form e form v h c f k = record { height = suc h; cost = 1 + c; gives = form_gives e form v h c f k }

int_yields : (e : Exp) (n : ℤ) → form_of_exp e ≡ ExpForm-F.Int n → Yields e (int_value n)
int_yields e n f = by_form e (ExpForm-F.Int n) (int_value n) 0 0 f (λ m s l. ap (Done (int_value n)) (counted_none s))

text_yields : (e : Exp) (text : List ℕ) → form_of_exp e ≡ ExpForm-F.Str text → Yields e (text_value text)
text_yields e text f = by_form e (ExpForm-F.Str text) (text_value text) 0 (text_size text) f (λ m s l. refl)

-- a primitive's name in the basis
name_yields : (f : Exp) (name : List ℕ) → form_of_exp f ≡ ExpForm-F.Name name → bound_of name basis ≡ Some (roll-Bound (Bound-F.Variable (prim_value name))) → Yields f (prim_value name)
name_yields f name i e = by_form f (ExpForm-F.Name name) (prim_value name) 0 0 i
    (λ m s l. ap (λ o. bound_result (opened o) s) e ∙ ap (λ b. bound_result (Some b) s) (out-roll-Bound (Bound-F.Variable (prim_value name))) ∙ ap (Done (prim_value name)) (counted_none s))

pair_gives : (a b : Exp) (x y : Value) (ca cb : ℕ) (n : ℕ) (s : State) → eval n [] s a ≡ Done x (counted ca s) → eval n [] (counted ca s) b ≡ Done y (counted cb (counted ca s))
    → each_value (eval n) [] s (a ∷ b ∷ []) ≡ Done (x ∷ y ∷ []) (counted cb (counted ca s))
pair_gives a b x y ca cb n s ea eb =
    ap (λ o. then_do o (λ v s1. then_do (each_value (eval n) [] s1 (b ∷ [])) (λ vs s2. Done (v ∷ vs) s2))) ea
    ∙ ap (λ o. then_do (then_do o (λ w s1. then_do (each_value (eval n) [] s1 []) (λ ws s2. Done (w ∷ ws) s2))) (λ vs s2. Done (x ∷ vs) s2)) eb

pair_yields : (pair a b : Exp) (x y : Value) → form_of_exp pair ≡ ExpForm-F.Tuple (a ∷ b ∷ []) → Yields a x → Yields b y → Yields pair (tuple_value (x ∷ y ∷ []))
pair_yields pair a b x y f ya yb = by_form pair (ExpForm-F.Tuple (a ∷ b ∷ [])) (tuple_value (x ∷ y ∷ [])) (ya.height + yb.height) (ya.cost + yb.cost + 2) f
    (λ n s l.
    ap (λ o. then_do o (λ vs s1. Done (tuple_value vs) (counted (length vs) s1))) (pair_gives a b x y ya.cost yb.cost n s (ya.gives n s (omega (arith, l))) (yb.gives n (counted ya.cost s) (omega (arith, l))))
    ∙ ap (Done (tuple_value (x ∷ y ∷ []))) (ap (counted 2) (counted_twice ya.cost yb.cost s) ∙ counted_twice (ya.cost + yb.cost) 2 s))

-- a primitive applied, where the value of its row is known at each state
app_yields : (name : List ℕ) (whole f e : Exp) (v w : Value) (c : ℕ) → form_of_exp whole ≡ ExpForm-F.App f e → Yields f (prim_value name) → Yields e v → ((same : Comparing) (s : State) → prim_result same name [] v s ≡ Done w (counted c s)) → Yields whole w
app_yields name whole f e v w c i yf ye p = by_form whole (ExpForm-F.App f e) w (yf.height + ye.height) (yf.cost + ye.cost + 1 + c) i
    (λ n s l.
    ap (λ o. then_do o (λ g s1. then_do (eval n [] s1 e) (λ u s2. application (level n) (form_of_value g) u (counted 1 s2)))) (yf.gives n s (omega (arith, l)))
    ∙ ap (λ o. then_do o (λ u s2. application (level n) (form_of_value (prim_value name)) u (counted 1 s2))) (ye.gives n (counted yf.cost s) (omega (arith, l)))
    ∙ ap (λ g. application (level n) g v (counted 1 (counted ye.cost (counted yf.cost s)))) (out-roll-Value (Value-F.Prim name []))
    ∙ p (level n).same (counted 1 (counted ye.cost (counted yf.cost s)))
    ∙ ap (Done w) (ap (counted c) (ap (counted 1) (counted_twice yf.cost ye.cost s) ∙ counted_twice (yf.cost + ye.cost) 1 s) ∙ counted_twice (yf.cost + ye.cost + 1) c s))

-- the two parts of a pair, opened
pair_opens : (f : ValueLayer → ValueLayer → State → Outcome Value) (a b : ValueLayer) (s : State) → of_pair f (form_of_value (tuple_value (roll-Value a ∷ roll-Value b ∷ []))) s ≡ f a b s
pair_opens f a b s =
    ap (λ v. of_pair f v s) (out-roll-Value (Value-F.Tuple (roll-Value a ∷ roll-Value b ∷ [])))
    ∙ ap (λ x. f x (out-Value (roll-Value b)) s) (out-roll-Value a)
    ∙ ap (λ y. f a y s) (out-roll-Value b)

-- numbers and texts are plain, and so are pairs of them
plain_int : (n : ℤ) → is_plain (int_value n) ≡ true
plain_int n = fold-roll-Value ℕ Bool ℕ (λ b. 0) plain_by (λ c. 0) (Value-F.Int n)

plain_text : (text : List ℕ) → is_plain (text_value text) ≡ true
plain_text text = fold-roll-Value ℕ Bool ℕ (λ b. 0) plain_by (λ c. 0) (Value-F.Str text)

plain_pair : (a b : Value) → is_plain a ≡ true → is_plain b ≡ true → is_plain (tuple_value (a ∷ b ∷ [])) ≡ true
plain_pair a b p q = fold-roll-Value ℕ Bool ℕ (λ b. 0) plain_by (λ c. 0) (Value-F.Tuple (a ∷ b ∷ [])) ∙ ap₂ (λ x y. list_all (λ z. z) (x ∷ y ∷ [])) p q

times_result : (m n : ℕ) → m * n < 2 ^ 63 → (same : Comparing) (s : State) → prim_result same (codes "*") [] (tuple_value (int_value (pos m) ∷ int_value (pos n) ∷ [])) s ≡ Done (int_value (pos (m * n))) (counted 0 s)
times_result m n l same s =
    let fits : nat_lt (m * n) (2 ^ 63) ≡ true = grind (arith, nat_tests) in
    let v : Value = tuple_value (int_value (pos m) ∷ int_value (pos n) ∷ []) in
    ap (λ b. of_plain b (λ s1. of_pair times (form_of_value v) s1) s) (plain_pair (int_value (pos m)) (int_value (pos n)) (plain_int (pos m)) (plain_int (pos n)))
    ∙ pair_opens times (Value-F.Int (pos m)) (Value-F.Int (pos n)) s
    ∙ ap (λ b. if b then Done (int_value (pos (m * n))) s else int_result (pos (2 ^ 63)) s) fits
    ∙ ap (Done (int_value (pos (m * n)))) (counted_none s)

concatenation_result : (a b : List ℕ) (same : Comparing) (s : State) → prim_result same (codes "^") [] (tuple_value (text_value a ∷ text_value b ∷ [])) s ≡ Done (text_value (a ++ b)) (counted (text_size (a ++ b)) s)
concatenation_result a b same s =
    ap (λ p. of_plain p (λ s1. of_pair concatenation (form_of_value (tuple_value (text_value a ∷ text_value b ∷ []))) s1) s) (plain_pair (text_value a) (text_value b) (plain_text a) (plain_text b))
    ∙ pair_opens concatenation (Value-F.Str a) (Value-F.Str b) s

to_string_result : (n : ℕ) (same : Comparing) (s : State) → prim_result same (codes "Int.toString") [] (int_value (pos n)) s ≡ Done (text_value (decimal n)) (counted (text_size (decimal n)) s)
to_string_result n same s =
    ap (λ b. of_plain b (λ s1. int_to_string (form_of_value (int_value (pos n))) s1) s) (plain_int (pos n))
    ∙ ap (λ v. int_to_string v s) (out-roll-Value (Value-F.Int (pos n)))

-- a primitive by its name, applied where the expression applies it
applied_yields : (name : List ℕ) (e argument : Exp) (v w : Value) (c : ℕ) → argument_of name e ≡ Some argument → bound_of name basis ≡ Some (roll-Bound (Bound-F.Variable (prim_value name))) → Yields argument v → ((same : Comparing) (s : State) → prim_result same name [] v s ≡ Done w (counted c s)) → Yields e w
applied_yields name e argument v w c i b y p =
    let applied = argument_is name e argument i in
    app_yields name e applied.0 argument v w c applied.1 (name_yields applied.0 name applied.2 b) y p

infix_yields : (name : List ℕ) (e a b : Exp) (x y w : Value) (c : ℕ) → sides_of name e ≡ Some (a, b) → bound_of name basis ≡ Some (roll-Bound (Bound-F.Variable (prim_value name))) → Yields a x → Yields b y → ((same : Comparing) (s : State) → prim_result same name [] (tuple_value (x ∷ y ∷ [])) s ≡ Done w (counted c s)) → Yields e w
infix_yields name e a b x y w c i o ya yb p =
    let applied = bind_some (argument_of name e) pair_of (a, b) i in
    applied_yields name e applied.0 (tuple_value (x ∷ y ∷ [])) w c applied.1 o (pair_yields applied.0 a b x y (pair_is applied.0 a b applied.2) ya yb) p

-- a product of factors of at most four digits has 64 bits
small_product : (m n : ℕ) → m ≤ 9999 → n ≤ 9999 → m * n < 2 ^ 63
small_product m n a b = let l : m * n ≤ 9999 * 9999 = mul-le m n 9999 9999 a b in omega (arith, l)

product_yields : (e : Exp) (part : Part) → product_of e ≡ Some part → Yields e (text_value (text_of_part part))
product_yields e part p =
    let i = product_is e part p in
    let times_yields : Yields i.product (int_value (pos (i.m * i.n))) = infix_yields (codes "*") i.product i.left i.right (int_value (pos i.m)) (int_value (pos i.n)) (int_value (pos (i.m * i.n))) 0 i.sides refl (int_yields i.left (pos i.m) i.left_is) (int_yields i.right (pos i.n) i.right_is) (times_result i.m i.n (small_product i.m i.n i.left_small i.right_small)) in
    subst (λ q. Yields e (text_value (text_of_part q))) i.part_is
    (applied_yields (codes "Int.toString") e i.product (int_value (pos (i.m * i.n))) (text_value (decimal (i.m * i.n))) (text_size (decimal (i.m * i.n))) i.applied refl times_yields (to_string_result (i.m * i.n)))

part_case : (e : Exp) (part : Part) (o : Option (List ℕ)) → text_of_exp e ≡ o → text_or o (product_of e) ≡ Some part → Yields e (text_value (text_of_part part))
part_case e part None t p = product_yields e part p
part_case e part (Some text) t p =
    subst (λ q. Yields e (text_value (text_of_part q))) (same_some (Plain text) part p) (text_yields e text (text_is e text t).0)

part_yields : (e : Exp) (part : Part) → part_of e ≡ Some part → Yields e (text_value (text_of_part part))
unfolding part_of
part_yields e part p = part_case e part (text_of_exp e) refl p

joined_yields : (e : Exp) (parts : List Part) → AreJoined parts e → Yields e (text_value (text_of parts))
joined_yields e parts (one {part} p) = subst (λ t. Yields e (text_value t)) (sym (append-nil (text_of_part part))) (part_yields e part p)
joined_yields e parts (more {front} {part} {left} {right} i j p) =
    subst (λ t. Yields e (text_value t)) (sym (text_of-append front part))
    (infix_yields (codes "^") e left right (text_value (text_of front)) (text_value (text_of_part part)) (text_value (text_of front ++ text_of_part part)) (text_size (text_of front ++ text_of_part part)) i refl (joined_yields left front j) (part_yields right part p) (concatenation_result (text_of front) (text_of_part part)))

-- what writing a text leaves
abbrev written_in : List ℕ → State → State
written_in text s = sharing (record (s.shared) { body = s.shared.body ++ text }) s

write_result : (text : List ℕ) (same : Comparing) (s : State) → prim_result same (codes "Web.write") [] (text_value text) s ≡ Done unit_value (written_in text s)
write_result text same s =
    ap (λ b. of_plain b (λ s1. web_write (form_of_value (text_value text)) s1) s) (plain_text text)
    ∙ ap (λ v. web_write v s) (out-roll-Value (Value-F.Str text))

write_name : (f : Exp) → form_of_exp f ≡ ExpForm-F.Name (codes "Web.write") → Yields f (prim_value (codes "Web.write"))
write_name f i = name_yields f (codes "Web.write") i refl

-- what evaluating `Web.write` and its argument counts
abbrev pub write_cost : ℕ → ℕ → ℕ
write_cost f c = f + c + 1

write_form : (f e : Exp) (text : List ℕ) (w : Yields f (prim_value (codes "Web.write"))) (y : Yields e (text_value text)) (n : ℕ) (s : State) → w.height + y.height ≤ n
    → exp_result (level n) [] s (ExpForm-F.App f e) ≡ Done unit_value (written_in text (counted (write_cost w.cost y.cost) s))
write_form f e text w y n s l =
    ap (λ o. then_do o (λ g s1. then_do (eval n [] s1 e) (λ u s2. application (level n) (form_of_value g) u (counted 1 s2)))) (w.gives n s (omega (arith, l)))
    ∙ ap (λ o. then_do o (λ u s2. application (level n) (form_of_value (prim_value (codes "Web.write"))) u (counted 1 s2))) (y.gives n (counted w.cost s) (omega (arith, l)))
    ∙ ap (λ g. application (level n) g (text_value text) (counted 1 (counted y.cost (counted w.cost s)))) (out-roll-Value (Value-F.Prim (codes "Web.write") []))
    ∙ write_result text (level n).same (counted 1 (counted y.cost (counted w.cost s)))
    ∙ ap (λ s1. Done unit_value (written_in text s1)) (ap (counted 1) (counted_twice w.cost y.cost s) ∙ counted_twice (w.cost + y.cost) 1 s)

write_gives : (whole f e : Exp) (text : List ℕ) → form_of_exp whole ≡ ExpForm-F.App f e → (w : Yields f (prim_value (codes "Web.write"))) (y : Yields e (text_value text)) (n : ℕ) (s : State) → w.height + y.height ≤ n
    → eval (suc n) [] s whole ≡ Done unit_value (written_in text (counted (write_cost w.cost y.cost) (counted 1 s)))
write_gives whole f e text i w y n s l = ap (exp_result (level n) [] (counted 1 s)) i ∙ write_form f e text w y n (counted 1 s) l

binding_gives : (pat : Pat) (whole f e : Exp) (text : List ℕ) → form_of_pat pat ≡ PatForm-F.Any → form_of_exp whole ≡ ExpForm-F.App f e → (w : Yields f (prim_value (codes "Web.write"))) (y : Yields e (text_value text)) (n : ℕ) (s : State) → w.height + y.height ≤ n
    → binding (level (suc n)) [] [] s (pat, whole) ≡ Done [] (counted 1 (written_in text (counted (write_cost w.cost y.cost) (counted 1 s))))
binding_gives pat whole f e text any i w y n s l =
    ap (λ o. then_do o (λ v s1. then_do ((level (suc n)).pat [] s1 pat v) (λ more s2. bound_more [] more s2))) (write_gives whole f e text i w y n s l)
    ∙ ap (λ p. then_do (pat_result (level n).pat [] (counted 1 (written_in text (counted (write_cost w.cost y.cost) (counted 1 s)))) p unit_value) (λ more s2. bound_more [] more s2)) any

dec_gives : (dec : Dec) (pat : Pat) (whole f e : Exp) (text : List ℕ) → form_of_dec dec ≡ DecForm-F.Val ((pat, whole) ∷ []) → form_of_pat pat ≡ PatForm-F.Any → form_of_exp whole ≡ ExpForm-F.App f e → (w : Yields f (prim_value (codes "Web.write"))) (y : Yields e (text_value text)) (n : ℕ) (s : State) → w.height + y.height ≤ n
    → eval_decs (suc (suc n)) [] s (dec ∷ [])
    ≡ Done [] (counted 1 (written_in text (counted (write_cost w.cost y.cost) (counted 1 (counted 1 (counted 1 s))))))
dec_gives dec pat whole f e text d any i w y n s l =
    ap (λ form. then_do (with_dec (level (suc n)) [] (counted 1 s) form (plan_of [] [] [])) (λ r s1. Done r.0 s1)) d
    ∙ ap (λ o. then_do (then_do o (λ env1 s1. (level (suc n)).scope [] env1 s1 [] (plan_of [] [] []))) (λ r s1. Done r.0 s1)) (binding_gives pat whole f e text any i w y n (counted 1 (counted 1 s)) l)

-- straight declarations come to the end whose body is what their parts stand for, for every form and all databases
pub straight_page : (items : List Dec) (parts : List Part) → IsStraight items parts → (form : List (List ℕ × List ℕ)) (databases : List (List ℕ)) → PageOf items form databases [] [] (Finished 200 html_type (text_of parts))
straight_page items parts straight form databases =
    let i = written_is straight.dec straight.argument straight.written in
    let applied = argument_is (codes "Web.write") i.whole straight.argument i.applied in
    let w = write_name applied.0 applied.2 in
    let y = joined_yields straight.argument parts straight.joined in
    let h = w.height + y.height in (
      suc (suc h),
      subst (λ decs. EndsAs (exception_names decs) (eval_decs (suc (suc h)) [] (start form databases []) decs) [] (Finished 200 html_type (text_of parts))) (sym straight.one)
          (subst (λ o. EndsAs (exception_names (straight.dec ∷ [])) o [] (Finished 200 html_type (text_of parts))) (sym (dec_gives straight.dec i.pat i.whole applied.0 straight.argument (text_of parts) i.form i.any applied.1 w y h (start form databases []) (omega arith))) (refl, refl, refl, refl)),
    )
