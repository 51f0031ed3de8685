use Rattle.std.proofs.Common.{subst}
use Rattle.grammar_rules.specs.Tokens.{HasTokens}
use Rattle.script_loader.proofs.Places.{may_move}
use Rattle.script_loader.proofs.tokens.lex_text.Goals as goal

pub moved-requires : goal.moved-requires
moved-requires c = record { fits = may_move c.args.source.now c.in-Ok.tokens.items c.requires.fits (subst (λ text. HasTokens text c.in-Ok.tokens.items) c.as_bytes.ensures c.in-Ok.ensures.tokens) }
