use Rattle.std.proofs.Common.{◌≡◌, ◌<◌, ◌≤◌, arith}
use Rattle.sml_lex.proofs.MoveSteps.{text_mode, quoted_end, quoted_stop, quoted_text, stop_here}
use Rattle.sml_lex.proofs.quotations.take_quoted.Goals as goal

pub returns-then-stop-bytes-clause-moves : goal.returns-then-stop-bytes-clause-moves
returns-then-stop-bytes-clause-moves c =
    quoted_end (text_mode c.args.quotes.now c.requires.quoted) c.args.bytes.now c.args.at c.text_end-stop.result c.args.tokens.now.items c.text_end-stop.ensures.text c.text_end-stop.ensures.within c.requires.within c.if-stop-bytes.true

pub take_stop-requires-clause-stop : goal.take_stop-requires-clause-stop
take_stop-requires-clause-stop c = stop_here c.args.bytes.now c.args.at c.text_end-stop.result c.text_end-stop.ensures.text (omega (arith, c.text_end-stop.ensures.within))

pub returns-then-at-stop-clause-moves : goal.returns-then-at-stop-clause-moves
returns-then-at-stop-clause-moves c =
    quoted_text (text_mode c.args.quotes.now c.requires.quoted) c.args.bytes.now c.args.at c.text_end-stop.result c.args.tokens.now.items c.text_end-stop.ensures.text c.text_end-stop.ensures.within c.if-at-stop.true
    (omega (arith, c.text_end-stop.ensures.within)) c.in_ok-text.text c.push_token.new.tokens.items c.in_ok-text.ensures c.in_ok-push_token.ensures.ok c.take_stop.result c.take_stop.new.quotes c.take_stop.new.tokens.items c.take_stop.ensures.moves

pub take_stop-requires-2-clause-stop : goal.take_stop-requires-2-clause-stop
take_stop-requires-2-clause-stop c = stop_here c.args.bytes.now c.args.at c.text_end-stop.result c.text_end-stop.ensures.text (omega (arith, c.text_end-stop.ensures.within))

pub returns-clause-moves : goal.returns-clause-moves
returns-clause-moves c =
    quoted_stop (text_mode c.args.quotes.now c.requires.quoted) c.args.bytes.now c.args.at c.text_end-stop.result c.args.tokens.now.items c.text_end-stop.ensures.text c.text_end-stop.ensures.within
    (omega (arith, c.text_end-stop.ensures.onward)) (omega (arith, c.text_end-stop.ensures.within)) c.take_stop-2.result c.take_stop-2.new.quotes c.take_stop-2.new.tokens.items c.take_stop-2.ensures.moves
