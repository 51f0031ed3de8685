-- The first item that is too high.
use Rattle.std.proofs.Common.{◌≡◌, ℕ, ◌+◌, ◌<◌, ◌≤◌, max, min, nat_lt, cond, List, [], ◌∷◌, ◌++◌, Bool, true, false, Option, Some, None, codes, refl, ap, sym, ◌∙◌, subst, arith, append_assoc, ltb-true, ltb-false}
use Rattle.sml_syntax.specs.declared.token.Token.{Token}
use Rattle.sml_syntax.specs.declared.tree.Span.{Span}
use Rattle.sml_syntax.specs.declared.tree.Exp.{Exp}
use Rattle.sml_syntax.specs.declared.tree.PatForm.TheVariants as pf
use Rattle.sml_syntax.specs.declared.tree.Dec.{Dec, out-Dec, out-roll-Dec}
use Rattle.sml_syntax.specs.declared.tree.DecForm.{DecForm}
use Rattle.sml_syntax.specs.declared.tree.DecForm.TheVariants as df
use Rattle.sml_syntax.specs.declared.tree.Program.{Program}
use Rattle.sml_syntax.specs.NestedTypes.{Found}
use Rattle.grammar_rules.specs.Nodes.{span_of, extent, first_of, it_dec, dec_at, pat_at}
use Rattle.grammar_rules.specs.Programs.{Each, DecFits, ExpFits, highest}
use Rattle.grammar_rules.specs.Grammar as g
use Rattle.sml_grammar.specs.declared.act.Made.{Made}
use Rattle.sml_grammar.specs.declared.act.Act.TheVariants as a
use Rattle.sml_grammar.specs.declared.act.DecAct.TheVariants as b
use Rattle.sml_grammar.specs.Machine.{made}
use Rattle.parse_limits.specs.Heights.{first_high, else_high, growth_of, dec_growth, grown, too_high}
use Rattle.grammar_trees.specs.Tells as t
use Rattle.grammar_trees.specs.Tells.{Tells}
use Rattle.grammar_limits.specs.Grows.{Fit, Puts}
use Rattle.grammar_limits.specs.Laws.{HighAs, TellsHeights}
use Rattle.grammar_limits.proofs.Fits.{own, two, end, g-then, g-act, moved}
use Rattle.grammar_limits.proofs.Nodes as nodes
use Rattle.grammar_limits.proofs.Parts.{name-pat, pat-low}
use Rattle.grammar_limits.proofs.Risen.{rises}

-- the first of these that is too high, or none
abbrev pub High : List Dec → Option ℕ → Type 0
High ds None = Each (DecFits highest) ds
High ds (Some place) = (before after : List Dec) × (item : Dec) × (ds ≡ before ++ item ∷ after) × Each (DecFits highest) before
    × (DecFits highest item → ⊥) × (place ≡ (out-Dec item).span.from)

-- where a declaration begins
span-from : (span : Span) (form : DecForm) → (out-Dec (dec_at span form)).span.from ≡ span.from
span-from span form = ap (λ z. z.span.from) (out-roll-Dec (record { span = span; form = form }))

dec-from : {i : Bool} {next : ℕ} {ts : List Token} {one : Dec} {ls : List Found} {new : List Made} → Tells (g.dec i) next ts (g.dec_tree one) ls new → (out-Dec one).span.from ≡ first_of ts
dec-from (t.dec_val {ts = ts} {all = all} word h d) = span-from (extent (word ∷ ts)) (df.Val all)
dec-from (t.dec_rec {ts = ts} {all = all} word rec_ h i d) = span-from (extent (word ∷ rec_ ∷ ts)) (df.ValRec all)
dec-from (t.dec_fun {ts = ts} {all = all} word h d) = span-from (extent (word ∷ ts)) (df.ValRec all)
dec-from (t.dec_type {ts = ts} {all = all} word h d) = span-from (extent (word ∷ ts)) (df.Abbrev all)
dec-from (t.dec_datatype {ts = ts} {all = all} word h d) = span-from (extent (word ∷ ts)) (df.DataDef all)
dec-from (t.dec_exception {ts = ts} {all = all} word h d) = span-from (extent (word ∷ ts)) (df.ExnDef all)
dec-from (t.dec_local {first = first} {second = second} local_ in_ end_ h d i f j) = span-from (span_of local_.span.from end_.span.to) (df.Local first second)
dec-from (t.dec_replication word short_ equals again long_ name other h j k l m) = span-from (span_of word.span.from long_.span.to) (df.DataDef (([], name, []) ∷ []))

-- an item before others: it is too high, or the first of the others is
item-first : {h place : ℕ} (one : Dec) (more : List Dec) (rest : Option ℕ) (w : Bool) → nat_lt 200 h ≡ w → Fit h (λ n. DecFits n one) → (out-Dec one).span.from ≡ place → High more rest → High (one ∷ more) (else_high (cond w (Some place) None) rest)
unfolding highest
item-first {h} {place} one more rest true e f from p = ([], more, one, refl, tt, (λ z. over (ltb-true 200 h e) (f.bounds 200 (same 200) z)), sym from)
  where
    same : (n : ℕ) → n ≤ n
    same n = omega arith

    over : 200 < h → h ≤ 200 → ⊥
    over u v = omega (arith, u, v)
item-first {h} one more None false e f from p = (f.holds 200 (same 200) (under e), p)
  where
    same : (n : ℕ) → n ≤ n
    same n = omega arith

    under : nat_lt 200 h ≡ false → h ≤ 200
    under u = ltb-false 200 h u
item-first {h} one more (Some place) false e f from p =
    (one ∷ p.0, p.1, p.2, ap (λ z. one ∷ z) p.3, (f.holds 200 (same 200) (under e), p.4), p.5, p.6)
  where
    same : (n : ℕ) → n ≤ n
    same n = omega arith

    under : nat_lt 200 h ≡ false → h ≤ 200
    under u = ltb-false 200 h u

-- the acts of an item, and of the others
item-then : {n1 : List Made} (n2 : List Made) (from to : ℕ) (one : Dec) (more : List Dec) → Puts n1 (λ n. DecFits n one) → (out-Dec one).span.from ≡ from → ((g : ℕ) (hs : List ℕ) → High more (first_high n2 (g ∷ hs))) →
    (g : ℕ) (hs : List ℕ) → High (one ∷ more) (first_high (n1 ++ (made (a.Dec (b.Item from)) to ∷ n2)) (g ∷ hs))
unfolding first_high growth_of dec_growth grown too_high
item-then {n1} n2 from to one more p e q g hs =
    let r = p (g ∷ hs) in
    subst (λ z. High (one ∷ more) z) (sym (r.grows (made (a.Dec (b.Item from)) to ∷ n2)))
    (item-first one more _ (nat_lt 200 r.height) refl r.fit e (q _ hs))

-- an expression as an item
it-height : (h : ℕ) → min (1 + max 0 (max h (max 1 0))) 201 ≡ min (1 + max 1 (max h 0)) 201
it-height h = omega arith

it-puts : {new : List Made} (from to : ℕ) (span : Span) (body : Exp) → Puts new (λ n. ExpFits n body) → Puts (new ++ (made (a.Dec (b.It from)) to ∷ [])) (λ n. DecFits n (it_dec span body))
unfolding growth_of dec_growth grown too_high
it-puts from to span body p hs = g-then (p hs) (λ k f. g-act refl refl (end (moved
    (nodes.dec-node _ (nodes.dec-val ((pat_at span (pf.Name (codes "it")), body) ∷ [])) (two (own 1) f) (λ n z. ((name-pat n span (codes "it") z.0, z.1), tt)) (λ n z. (pat-low n _ z.0.0, z.0.1)))
    (it-height k))))

it-first : {n1 : List Made} (n2 : List Made) (from at to : ℕ) (span : Span) (body : Exp) (more : List Dec) → Puts n1 (λ n. ExpFits n body) → span.from ≡ at → ((g : ℕ) (hs : List ℕ) → High more (first_high n2 (g ∷ hs))) →
    (g : ℕ) (hs : List ℕ) → High (it_dec span body ∷ more) (first_high (n1 ++ (made (a.Dec (b.It from)) to ∷ (made (a.Dec (b.Item at)) to ∷ n2))) (g ∷ hs))
it-first {n1} n2 from at to span body more p e q g hs = subst (λ z. High (it_dec span body ∷ more) (first_high z (g ∷ hs))) (append_assoc n1 (made (a.Dec (b.It from)) to ∷ []) (made (a.Dec (b.Item at)) to ∷ n2))
    (item-then n2 at to (it_dec span body) more (it-puts from to span body p) (span-from span (df.Val ((pat_at span (pf.Name (codes "it")), body) ∷ [])) ∙ e) q g hs)

-- what holds of items
abbrev pub Highs : g.Phrase → g.Tree → List Made → Type 0
Highs g.items (g.decs_tree ds) new = (h : ℕ) (hs : List ℕ) → High ds (first_high new (h ∷ hs))
Highs g.items_after (g.decs_tree ds) new = (h : ℕ) (hs : List ℕ) → High ds (first_high new (h ∷ hs))
Highs c tree new = Unit {0}

nothing : (h : ℕ) (hs : List ℕ) → High [] (first_high [] (h ∷ hs))
unfolding first_high
nothing h hs = tt

pub highs : {c : g.Phrase} {next : ℕ} {ts : List Token} {tree : g.Tree} {ls : List Found} {new : List Made} → Tells c next ts tree ls new → Highs c tree new
highs t.items_none = nothing
highs (t.items_dec {one = x} {more = more} d f) = item-then _ _ _ x more (rises d) (dec-from d) (highs f)
highs (t.items_exp {ts = ts} {body = body} d) = it-first _ _ _ _ (extent ts) body [] (rises d) refl nothing
highs (t.items_exp_more {ts = ts} {body = body} {more = more} word d h f) = it-first _ _ _ _ (extent ts) body more (rises d) refl (highs f)
highs t.items_after_none = nothing
highs (t.items_after_dec {one = x} {more = more} d f) = item-then _ _ _ x more (rises d) (dec-from d) (highs f)
highs (t.items_after_semicolon word h d) = highs d
highs d = tt

by-whole : (program : Program) (found : Option ℕ) → High program.items found → HighAs program found
by-whole program None p = p
by-whole program (Some place) p = p

pub tells_heights : TellsHeights
unfolding first_high growth_of dec_growth grown too_high
tells_heights tokens program lacks new to d = by-whole program _ (highs d 0 [])
