-- What the machine's outcome, its acts' lacks and heights and the tree that they build mean, and that there is one answer.
use Rattle.std.proofs.Common.{◌≡◌, ◌≤◌, ◌<◌, ℕ, List, [], ◌∷◌, ◌++◌, length, Option, Some, None, Result, Ok, Err, refl, ap, sym, ◌∙◌, subst, append_assoc, arith}
use Rattle.sml_syntax.specs.declared.token.Token.{Token}
use Rattle.sml_syntax.specs.declared.tree.Program.{Program}
use Rattle.sml_syntax.specs.declared.tree.Dec.{Dec, out-Dec}
use Rattle.sml_syntax.specs.NestedTypes.{Found}
use Rattle.grammar_rules.specs.Nodes.{last_of, last_after}
use Rattle.grammar_rules.specs.Grammar.{items, decs_tree}
use Rattle.grammar_rules.specs.Programs.{IsWide, IsProgram, BeginsProgram, IsUnexpected, place_behind, Each, DecFits, highest, IsFirstHigh}
use Rattle.sml_grammar.specs.declared.act.Made.{Made}
use Rattle.sml_grammar.specs.Machine.{Outcome, Accepts, Stops, place_of}
use Rattle.sml_parse.specs.declared.parser.ParseRefusal.{ParseRefusal}
use Rattle.sml_parse.specs.declared.parser.ParseRefusal.TheVariants as refusal
use Rattle.parse_build.specs.Building.{program_of}
use Rattle.parse_limits.specs.Heights.{first_high}
use Rattle.parse_limits.specs.Lacks.{first_lack, lower_found}
use Rattle.sml_parse.specs.Parsed.{by_outcome, by_lack, by_height}
use Rattle.grammar_sound.specs.Exact.{exact_outcome}
use Rattle.grammar_sound.proofs.Sound.{exact_tree}
use Rattle.grammar_sound.proofs.Viable.{unexpected}
use Rattle.grammar_trees.specs.Tells.{Tells}
use Rattle.grammar_trees.specs.Accepted.{IsAccepted, whole}
use Rattle.grammar_theorem.proofs.Joined.{same-outcome}
use Rattle.grammar_trees.proofs.Complete.{complete}
use Rattle.grammar_limits.specs.Finds.{lowest}
use Rattle.grammar_limits.specs.Laws.{HighAs}
use Rattle.grammar_limits.proofs.Items.{tells_heights}
use Rattle.grammar_limits.proofs.FirstLacks.{lowest_lack}
use Rattle.sml_parse.specs.Parses.{IsLowestLack, IsTree, IsUnsupported, IsTooDeep, Parses}
use Rattle.sml_parse.proofs.Lowest.{lowest-is, is-lowest}

-- the acts of a tree of the wider grammar
record Acts (tokens : List Token) (program : Program) (lacks : List Found) : Type 0 where
  new : List Made
  accepts : exact_outcome tokens ≡ Accepts (whole new)
  builds : lacks ≡ [] → program_of (whole new) ≡ program.items
  lack : first_lack (whole new) ≡ lowest None lacks
  high : HighAs program (first_high (whole new) [])

acts-of : (tokens : List Token) (program : Program) (lacks : List Found) → IsWide tokens program lacks → Acts tokens program lacks
acts-of tokens program lacks d = go (complete tokens program lacks d)
  where
    go : IsAccepted tokens program lacks → Acts tokens program lacks
    go a = record {
      new = a.new;
      accepts = sym (same-outcome tokens) ∙ a.accepts;
      builds = a.builds;
      lack = lowest_lack tokens program lacks a.new 0 a.tells;
      high = tells_heights tokens program lacks a.new 0 a.tells;
    }

stays-found : (l : Found) (ls : List Found) → (found : Found) × (lowest (Some l) ls ≡ Some found)
stays-found l [] = (l, refl)
stays-found l (m ∷ ls) = stays-found (lower_found l m) ls

some-none : {found : Found} {o : Option Found} → o ≡ Some found → o ≡ None → ⊥
some-none h k = cc

none-lowest : (lacks : List Found) → lowest None lacks ≡ None → lacks ≡ []
none-lowest [] h = refl
none-lowest (l ∷ ls) h = absurd (some-none (stays-found l ls).1 h)

of-items : {a b : Program} → a.items ≡ b.items → a ≡ b
of-items h = ap (λ (z : List Dec). record { items = z }) h

-- what acts are found to mean
by-acts : (tokens : List Token) (program : Program) (lacks : List Found) → IsWide tokens program lacks → (acts : Acts tokens program lacks) → Parses tokens (by_lack (first_lack (whole acts.new)) (whole acts.new))
by-acts tokens program lacks d acts = go (first_lack (whole acts.new)) refl
  where
    tall : (h : Option ℕ) → HighAs program h → lacks ≡ [] → Parses tokens (by_height h (whole acts.new))
    tall None fits e = subst (λ (z : Program). IsTree tokens z) (of-items (sym (acts.builds e))) (record { is = subst (λ z. IsWide tokens program z) e d; fits = fits })
    tall (Some place) high e = record { program = program; is = subst (λ z. IsWide tokens program z) e d; high = high }

    go : (o : Option Found) → first_lack (whole acts.new) ≡ o → Parses tokens (by_lack o (whole acts.new))
    go None h = tall (first_high (whole acts.new) []) acts.high (none-lowest lacks (sym acts.lack ∙ h))
    go (Some found) h = record { program = program; lacks = lacks; wide = d; lowest = is-lowest lacks found (sym acts.lack ∙ h) }

accepted-same : {n m : List Made} → Accepts n ≡ Accepts m → m ≡ n
accepted-same h = cc

pub means : (tokens : List Token) → Parses tokens (by_outcome (exact_outcome tokens))
means tokens = go (exact_outcome tokens) refl
  where
    finds : (tokens : List Token) (program : Program) (lacks : List Found) → IsWide tokens program lacks → (acts : List Made) × (exact_outcome tokens ≡ Accepts acts)
    finds ts program lacks d = let a = acts-of ts program lacks d in (whole a.new, a.accepts)

    of-tree : (acts : List Made) → exact_outcome tokens ≡ Accepts acts → (program : Program) × (lacks : List Found) × IsWide tokens program lacks → Parses tokens (by_outcome (Accepts acts))
    of-tree acts h (program, lacks, d) =
        let a = acts-of tokens program lacks d in
        subst (λ z. Parses tokens (by_outcome (Accepts z))) (accepted-same (sym h ∙ a.accepts)) (by-acts tokens program lacks d a)

    go : (o : Outcome) → exact_outcome tokens ≡ o → Parses tokens (by_outcome o)
    go (Accepts acts) h = of-tree acts h (exact_tree tokens acts h)
    go (Stops left to) h = unexpected finds tokens left to h

-- two cuts of one list: the same, or one is further on
data Cuts (b a c d : List Token) : Type 0 where
  same_cut : b ≡ c → a ≡ d → Cuts b a c d
  further : (t : Token) (q : List Token) → c ≡ b ++ t ∷ q → a ≡ t ∷ (q ++ d) → Cuts b a c d
  nearer : (t : Token) (q : List Token) → b ≡ c ++ t ∷ q → d ≡ t ∷ (q ++ a) → Cuts b a c d

cons-same : {x y : Token} {xs ys : List Token} → x ∷ xs ≡ y ∷ ys → (x ≡ y) × (xs ≡ ys)
cons-same h = (cc, cc)

cuts : (b a c d : List Token) → b ++ a ≡ c ++ d → Cuts b a c d
cuts [] a [] d e = same_cut refl e
cuts [] a (t ∷ c) d e = further t c refl e
cuts (t ∷ b) a [] d e = nearer t b refl (sym e)
cuts (t ∷ b) a (s ∷ c) d e = go (cons-same e) (λ k. cuts b a c d k)
  where
    longer : t ≡ s → Cuts b a c d → Cuts (t ∷ b) a (s ∷ c) d
    longer h (same_cut k l) = same_cut (ap (λ z. z ∷ b) h ∙ ap (λ z. s ∷ z) k) l
    longer h (further u q k l) = further u q (ap (λ z. z ∷ c) (sym h) ∙ ap (λ z. t ∷ z) k) l
    longer h (nearer u q k l) = nearer u q (ap (λ z. z ∷ b) h ∙ ap (λ z. s ∷ z) k) l

    go : (t ≡ s) × (b ++ a ≡ c ++ d) → (b ++ a ≡ c ++ d → Cuts b a c d) → Cuts (t ∷ b) a (s ∷ c) d
    go (h, k) f = longer h (f k)

-- a beginning of what begins a program begins it too
begins-front : (p q : List Token) → BeginsProgram (p ++ q) → BeginsProgram p
begins-front p q (rest, program, lacks, d) = (q ++ rest, program, lacks, subst (λ z. IsWide z program lacks) (append_assoc p q rest) d)

-- tokens stop being a program at one place
one-place : (tokens : List Token) (p r : ℕ) → IsUnexpected tokens p → IsUnexpected tokens r → p ≡ r
one-place tokens p r u v = go (cuts u.before u.after v.before v.after (sym u.split ∙ v.split))
  where
    go : Cuts u.before u.after v.before v.after → p ≡ r
    go (same_cut k l) = u.place_is ∙ ap (λ z. place_behind z u.after) k ∙ ap (place_behind v.before) l ∙ sym v.place_is
    go (further t q k l) = absurd (u.longest t (q ++ v.after) l (begins-front (u.before ++ t ∷ []) q (subst BeginsProgram (k ∙ sym (append_assoc u.before (t ∷ []) q)) v.begins)))
    go (nearer t q k l) = absurd (v.longest t (q ++ u.after) l (begins-front (v.before ++ t ∷ []) q (subst BeginsProgram (k ∙ sym (append_assoc v.before (t ∷ []) q)) u.begins)))

-- items of which each fits have none that doesn't
each-at : (P : Dec → Type 0) (before after : List Dec) (item : Dec) → Each P (before ++ item ∷ after) → P item
each-at P [] after item (h, hs) = h
each-at P (x ∷ before) after item (h, hs) = each-at P before after item hs

not-high : (program : Program) (place : ℕ) → Each (DecFits highest) program.items → IsFirstHigh program place → ⊥
not-high program place fits (before, after, item, split, front, high, at) = high (each-at (DecFits highest) before after item (subst (Each (DecFits highest)) split fits))

same-item : {x y : Dec} {xs ys : List Dec} → x ∷ xs ≡ y ∷ ys → (x ≡ y) × (xs ≡ ys)
same-item h = (cc, cc)

one-high : (b a c d : List Dec) (x y : Dec) → b ++ x ∷ a ≡ c ++ y ∷ d → Each (DecFits highest) b → (DecFits highest x → ⊥) → Each (DecFits highest) c → (DecFits highest y → ⊥) → x ≡ y
one-high [] a [] d x y e h k i j = (same-item e).0
one-high [] a (z ∷ c) d x y e h k (i, is) j = absurd (k (subst (DecFits highest) (sym (same-item e).0) i))
one-high (z ∷ b) a [] d x y e (h, hs) k i j = absurd (j (subst (DecFits highest) (same-item e).0 h))
one-high (z ∷ b) a (w ∷ c) d x y e (h, hs) k (i, is) j = one-high b a c d x y (same-item e).1 hs k is j

one-high-place : (program : Program) (p r : ℕ) → IsFirstHigh program p → IsFirstHigh program r → p ≡ r
one-high-place program p r (b, a, x, s, h, k, at) (c, d, y, t, i, j, at') =
    at ∙ ap (λ (z : Dec). (out-Dec z).span.from) (one-high b a c d x y (sym s ∙ t) h k i j) ∙ sym at'

-- the answer of the machine where the tokens have such a tree
with-acts : (tokens : List Token) (program : Program) (lacks : List Found) (acts : Acts tokens program lacks) → by_outcome (exact_outcome tokens) ≡ by_lack (lowest None lacks) (whole acts.new)
with-acts tokens program lacks acts = ap by_outcome acts.accepts ∙ ap (λ o. by_lack o (whole acts.new)) acts.lack

tree-answer : (tokens : List Token) (program : Program) → Each (DecFits highest) program.items → (acts : Acts tokens program []) → by_outcome (exact_outcome tokens) ≡ Ok program
tree-answer tokens program fits acts = with-acts tokens program [] acts ∙ go (first_high (whole acts.new) []) acts.high
  where
    go : (h : Option ℕ) → HighAs program h → by_height h (whole acts.new) ≡ Ok program
    go None k = ap Ok (of-items (acts.builds refl))
    go (Some place) k = absurd (not-high program place fits k)

deep-answer : (tokens : List Token) (program : Program) (place : ℕ) → IsFirstHigh program place → (acts : Acts tokens program []) → by_outcome (exact_outcome tokens) ≡ Err (refusal.TooDeep place)
deep-answer tokens program place high acts = with-acts tokens program [] acts ∙ go (first_high (whole acts.new) []) acts.high
  where
    go : (h : Option ℕ) → HighAs program h → by_height h (whole acts.new) ≡ Err (refusal.TooDeep place)
    go None fits = absurd (not-high program place fits high)
    go (Some p) k = ap (λ z. Err (refusal.TooDeep z)) (one-high-place program p place k high)

stop-answer : (tokens : List Token) (place : ℕ) → IsUnexpected tokens place → by_outcome (exact_outcome tokens) ≡ Err (refusal.Unexpected place)
stop-answer tokens place u = go (exact_outcome tokens) refl
  where
    finds : (tokens : List Token) (program : Program) (lacks : List Found) → IsWide tokens program lacks → (acts : List Made) × (exact_outcome tokens ≡ Accepts acts)
    finds ts program lacks d = let a = acts-of ts program lacks d in (whole a.new, a.accepts)

    none : (program : Program) × (lacks : List Found) × IsWide tokens program lacks → ⊥
    none (program, lacks, d) = u.none program lacks d

    go : (o : Outcome) → exact_outcome tokens ≡ o → by_outcome o ≡ Err (refusal.Unexpected place)
    go (Accepts acts) h = absurd (none (exact_tree tokens acts h))
    go (Stops left to) h = ap (λ z. Err (refusal.Unexpected z)) (one-place tokens (place_of left to) place (unexpected finds tokens left to h) u)

-- what the grammar tells of tokens is the machine's answer
pub answered : (tokens : List Token) (answer : Result Program ParseRefusal) → Parses tokens answer → by_outcome (exact_outcome tokens) ≡ answer
answered tokens (Ok program) t = tree-answer tokens program t.fits (acts-of tokens program [] t.is)
answered tokens (Err (refusal.Unexpected place)) t = stop-answer tokens place t
answered tokens (Err (refusal.Unsupported place lack)) t =
    let acts = acts-of tokens t.program t.lacks t.wide in
    with-acts tokens t.program t.lacks acts ∙ ap (λ o. by_lack o (whole acts.new)) (lowest-is t.lacks (place, lack) t.lowest)
answered tokens (Err (refusal.TooDeep place)) t = deep-answer tokens t.program place t.high (acts-of tokens t.program [] t.is)
answered tokens (Err refusal.NoMemory) t = absurd t

-- so there is one
pub one_answer : (tokens : List Token) (first second : Result Program ParseRefusal) → Parses tokens first → Parses tokens second → first ≡ second
one_answer tokens first second a b = sym (answered tokens first a) ∙ answered tokens second b
