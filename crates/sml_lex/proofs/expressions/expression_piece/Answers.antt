use Rattle.std.proofs.Common.{◌≡◌, ℕ, List, [], ◌∷◌, ◌+◌, ◌<◌, ◌≤◌, false, get_or, refl, sym, ap, ◌∙◌}
use Rattle.sml_syntax.specs.declared.token.Lack.TheVariants as lack
use Rattle.grammar_rules.specs.Spelling as spell
use Rattle.grammar_rules.specs.Spelling.{names, numbers, behind_tilde, behind_hash, symbols, literal, TextOf, behind_open, behind_dot, close_form, is, BadByte, Unsupported}
use Rattle.sml_lex.specs.Coded.{class_as, variable, mark_of}
use Rattle.sml_lex.proofs.ExpressionSteps.{by_class, by_byte, bad_byte}
use Rattle.sml_lex.proofs.expressions.expression_piece.Goals as goal

pub returns-in-Letter : goal.returns-in-Letter
returns-in-Letter c =
    let bs = c.args.bytes.now in
    let i = c.args.at in
    let b = get_or bs i 0 in
    by_class c.args.ends bs i c.requires spell.Letter (names i [] (b ∷ [])) c.name_piece.result (sym c.class_of.ensures ∙ ap class_as c.in-Letter.is) (λ q. refl) c.name_piece.ensures

pub returns-in-Digit : goal.returns-in-Digit
returns-in-Digit c =
    let bs = c.args.bytes.now in
    let i = c.args.at in
    let b = get_or bs i 0 in
    by_class c.args.ends bs i c.requires spell.Digit (numbers i i false (b ∷ [])) c.number_piece.result (sym c.class_of.ensures ∙ ap class_as c.in-Digit.is) (λ q. refl) c.number_piece.ensures

pub returns-in-Tilde : goal.returns-in-Tilde
returns-in-Tilde c =
    let bs = c.args.bytes.now in
    let i = c.args.at in
    let b = get_or bs i 0 in
    by_class c.args.ends bs i c.requires spell.Tilde (behind_tilde i b) c.tilde_piece.result (sym c.class_of.ensures ∙ ap class_as c.in-Tilde.is) (λ q. refl) c.tilde_piece.ensures

pub returns-in-Hash : goal.returns-in-Hash
returns-in-Hash c =
    let bs = c.args.bytes.now in
    let i = c.args.at in
    let b = get_or bs i 0 in
    by_class c.args.ends bs i c.requires spell.Hash (behind_hash i b) c.hash_piece.result (sym c.class_of.ensures ∙ ap class_as c.in-Hash.is) (λ q. refl) c.hash_piece.ensures

pub returns-in-Symbol : goal.returns-in-Symbol
returns-in-Symbol c =
    let bs = c.args.bytes.now in
    let i = c.args.at in
    let b = get_or bs i 0 in
    by_class c.args.ends bs i c.requires spell.Symbol (symbols i b) c.symbol_piece.result (sym c.class_of.ensures ∙ ap class_as c.in-Symbol.is) (λ q. refl) c.symbol_piece.ensures

pub returns-in-Quote : goal.returns-in-Quote
returns-in-Quote c =
    let bs = c.args.bytes.now in
    let i = c.args.at in
    let b = get_or bs i 0 in
    by_class c.args.ends bs i c.requires spell.Quote (literal i (TextOf []) (i + 1)) c.text_piece.result (sym c.class_of.ensures ∙ ap class_as c.in-Quote.is) (λ q. refl) c.text_piece.ensures

pub returns-in-Prime : goal.returns-in-Prime
returns-in-Prime c =
    let bs = c.args.bytes.now in
    let i = c.args.at in
    let b = get_or bs i 0 in
    by_class c.args.ends bs i c.requires spell.Prime (variable b) c.variable_piece.result (sym c.class_of.ensures ∙ ap class_as c.in-Prime.is) (λ q. refl) c.variable_piece.ensures

pub returns-in-Open : goal.returns-in-Open
returns-in-Open c =
    let bs = c.args.bytes.now in
    let i = c.args.at in
    let b = get_or bs i 0 in
    by_class c.args.ends bs i c.requires spell.Open (behind_open i b) c.open_piece.result (sym c.class_of.ensures ∙ ap class_as c.in-Open.is) (λ q. refl) c.open_piece.ensures

pub returns-in-Dot : goal.returns-in-Dot
returns-in-Dot c =
    let bs = c.args.bytes.now in
    let i = c.args.at in
    let b = get_or bs i 0 in
    by_class c.args.ends bs i c.requires spell.Dot (behind_dot i) c.dot_piece.result (sym c.class_of.ensures ∙ ap class_as c.in-Dot.is) (λ q. refl) c.dot_piece.ensures

pub returns-in-Close : goal.returns-in-Close
returns-in-Close c =
    let bs = c.args.bytes.now in
    let i = c.args.at in
    by_byte c.args.ends bs i c.requires spell.Close (is (close_form c.args.ends (get_or bs i 0))) c.close_piece.result (sym c.class_of.ensures ∙ ap class_as c.in-Close.is) (λ q. refl) c.close_piece.ensures

pub returns-in-Mark : goal.returns-in-Mark
returns-in-Mark c =
    let bs = c.args.bytes.now in
    let i = c.args.at in
    by_byte c.args.ends bs i c.requires spell.Mark (mark_of (get_or bs i 0)) c.mark_piece.result (sym c.class_of.ensures ∙ ap class_as c.in-Mark.is) (λ q. refl) c.mark_piece.ensures

pub returns-in-Brace : goal.returns-in-Brace
returns-in-Brace c = bad_byte c.args.ends c.args.bytes.now c.args.at c.requires spell.Brace (Unsupported c.args.at lack.Records) (sym c.class_of.ensures ∙ ap class_as c.in-Brace.is) (λ q. refl)

pub returns-in-Other : goal.returns-in-Other
returns-in-Other c = bad_byte c.args.ends c.args.bytes.now c.args.at c.requires spell.Other (BadByte c.args.at) (sym c.class_of.ensures ∙ ap class_as c.in-Other.is) (λ q. refl)
