use Rattle.std.proofs.Common.{◌≡◌, ◌+◌, ◌<◌, ◌≤◌, ◌∷◌, [], List, ℕ, drop, get_or, ap, subst, arith, refl, sym, ◌∙◌}
use Rattle.std.specs.List.{slice_range}
use Rattle.grammar_rules.specs.Spelling.{alone, symbol_kind, symbols}
use Rattle.sml_lex.specs.Ends.{Ends}
use Rattle.sml_lex.specs.Coded.{GivesReading}
use Rattle.sml_lex.proofs.Steps.{slice_first}
use Rattle.sml_lex.proofs.NameSteps.{symbols_end, gives_reading}
use Rattle.sml_lex.proofs.names.symbol_piece.Goals as goal

pub returns : goal.returns
returns c =
    let bs = c.args.bytes.now in
    let i = c.args.at in
    let m = c.run_end-to.result in
    let run : List ℕ = slice_range bs i m in
    let f : slice_range bs i m ≡ get_or bs i 0 ∷ slice_range bs (i + 1) m = slice_first bs i m (omega arith) c.requires in
    let e = symbols_end i (i + 1) m (get_or bs i 0) bs c.run_end-to.ensures.run in
    let g = subst (λ w. Ends (symbols i (get_or bs i 0)) (i + 1) (drop (i + 1) bs) (alone i w (symbol_kind w)) m) (sym f) e in
    let h = subst (λ k. GivesReading (alone i run k) m c.alone.result) c.symbol_kind-kind.ensures c.alone.ensures in
    gives_reading (symbols i (get_or bs i 0)) (i + 1) m (drop (i + 1) bs) (alone i run (symbol_kind run)) c.alone.result
    (λ k q. subst (λ z. Ends (symbols i (get_or bs i 0)) (i + 1) (drop (i + 1) bs) z m) q g) h
