use Rattle.std.proofs.Common.{◌≡◌, ◌<◌, Bool, Option, [], drop, subst, arith}
use Rattle.sml_syntax.specs.declared.token.TokenForm.{TokenForm}
use Rattle.grammar_rules.specs.Spelling.{expression, Good}
use Rattle.sml_lex.specs.Ends.{Ends, EndsBadly}
use Rattle.sml_lex.specs.Coded.{IfRefused, refusal_of, piece_of}
use Rattle.sml_lex.specs.Modes.{ends_at_close}
use Rattle.sml_lex.proofs.MoveSteps.{refused_moves, blank_moves, token_moves}
use Rattle.sml_lex.proofs.take_expression.Goals as goal

pub returns-in-Err-clause-refused : goal.returns-in-Err-clause-refused
returns-in-Err-clause-refused c =
    let bs = c.args.bytes.now in
    let i = c.args.at in
    refused_moves c.args.quotes.now bs i 0 [] c.requires.expression c.requires.within (refusal_of c.in-Err.refusal)
    (subst (λ (b : Bool). IfRefused (refusal_of c.in-Err.refusal) (EndsBadly (expression b i) i (drop i bs))) c.ends_at_close-ends.ensures c.in-Err.ensures)

pub returns-in-None-clause-moves : goal.returns-in-None-clause-moves
returns-in-None-clause-moves c =
    let bs = c.args.bytes.now in
    let i = c.args.at in
    blank_moves c.args.quotes.now bs i c.in-Ok.found.to c.args.tokens.now.items c.requires.expression c.requires.within
    (subst (λ (o : Option TokenForm). Ends (expression (ends_at_close c.args.quotes.now) i) i (drop i bs) (Good (piece_of o)) c.in-Ok.found.to) c.in-None.is
    (subst (λ (b : Bool). Ends (expression b i) i (drop i bs) (Good (piece_of c.in-Ok.found.form)) c.in-Ok.found.to) c.ends_at_close-ends.ensures c.in-Ok.ensures))

pub returns-in_ok-push_token-in-Some-clause-moves : goal.returns-in_ok-push_token-in-Some-clause-moves
returns-in_ok-push_token-in-Some-clause-moves c =
    let bs = c.args.bytes.now in
    let i = c.args.at in
    token_moves c.args.quotes.now bs i c.in-Ok.found.to c.args.tokens.now.items c.requires.expression c.requires.within c.in-Some.form c.take.new.self c.push_token.new.tokens.items
    (subst (λ (o : Option TokenForm). Ends (expression (ends_at_close c.args.quotes.now) i) i (drop i bs) (Good (piece_of o)) c.in-Ok.found.to) c.in-Some.is
    (subst (λ (b : Bool). Ends (expression b i) i (drop i bs) (Good (piece_of c.in-Ok.found.form)) c.in-Ok.found.to) c.ends_at_close-ends.ensures c.in-Ok.ensures))
    c.in_ok-take-in-Some.ensures.mode c.in_ok-push_token-in-Some.ensures.ok
