-- Each text of the grammar is accepted, and has one tree.
use Rattle.std.proofs.Common.{◌≡◌, ℕ, List, [], ◌∷◌, refl, ap, sym, ◌∙◌}
use Rattle.sml_syntax.specs.declared.token.Token.{Token}
use Rattle.sml_syntax.specs.declared.tree.Program.{Program}
use Rattle.sml_syntax.specs.declared.tree.Dec.{Dec}
use Rattle.sml_syntax.specs.NestedTypes.{Found}
use Rattle.grammar_rules.specs.Grammar.{items, decs_tree}
use Rattle.grammar_rules.specs.Programs.{IsWide, IsProgram}
use Rattle.sml_grammar.specs.declared.act.Act.TheVariants as a
use Rattle.sml_grammar.specs.declared.act.DecAct.TheVariants as d
use Rattle.sml_grammar.specs.declared.act.Made.{Made}
use Rattle.sml_grammar.specs.declared.symbol.Sym.TheVariants as s
use Rattle.sml_grammar.specs.declared.symbol.DecPhrase.TheVariants as dp
use Rattle.sml_grammar.specs.Machine.{Accepts}
use Rattle.parse_build.specs.Building.{program_of, items_of, apply_all, apply, apply_dec}
use Rattle.parse_values.specs.declared.value.Val.TheVariants as v
use Rattle.parse_values.specs.declared.value.DecVal.TheVariants as dv
use Rattle.grammar_trees.specs.Claims.{Comes}
use Rattle.grammar_trees.specs.Builds.{Makes}
use Rattle.grammar_trees.specs.Exact.{exact_outcome, run, feed}
use Rattle.grammar_trees.specs.Accepted.{IsAccepted, whole}
use Rattle.grammar_trees.proofs.Steps.{acts}
use Rattle.grammar_trees.proofs.Telling.{tells, Told}
use Rattle.grammar_trees.proofs.Runs.{runs}
use Rattle.grammar_trees.proofs.Built.{builds}

-- the run from the start on
starts : {tokens : List Token} {new : List Made} {to : ℕ} → Comes tokens (s.Dec dp.Items ∷ []) 0 new [] [] to → exact_outcome tokens ≡ Accepts (whole new)
unfolding exact_outcome run feed
starts {tokens} {new} c = (acts {f = a.Dec d.NoDecs} c).runs []

made-items : {new : List Made} {ds : List Dec} → Makes new (v.Dec (dv.Many []) ∷ []) (v.Dec (dv.Many ds) ∷ []) → program_of (whole new) ≡ ds
unfolding program_of apply_all apply apply_dec
made-items m = ap items_of m.makes

accepted : {tokens : List Token} {program : Program} {lacks : List Found} → Told items 0 tokens (decs_tree program.items) lacks → IsAccepted tokens program lacks
accepted told = record {
  new = told.new;
  tells = told.tells;
  accepts = starts ((runs told.tells).comes 0);
  builds = λ none. made-items (builds told.tells none [] []);
}

pub complete : (tokens : List Token) (program : Program) (lacks : List Found) → IsWide tokens program lacks → IsAccepted tokens program lacks
complete tokens program lacks d = accepted (tells d)

-- what is accepted has one list of acts
same-acts : {n m : List Made} → Accepts n ≡ Accepts m → n ≡ m
same-acts h = cc

pub one-tree : (tokens : List Token) (first second : Program) → IsProgram tokens first → IsProgram tokens second → first ≡ second
one-tree tokens first second d e = go (complete tokens first [] d) (complete tokens second [] e)
  where
    of-items : {a b : Program} → a.items ≡ b.items → a ≡ b
    of-items h = ap (λ (z : List Dec). record { items = z }) h

    go : IsAccepted tokens first [] → IsAccepted tokens second [] → first ≡ second
    go f g = of-items (sym (f.builds refl) ∙ ap program_of (same-acts (sym f.accepts ∙ g.accepts)) ∙ g.builds refl)
