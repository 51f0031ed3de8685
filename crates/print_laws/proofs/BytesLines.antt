-- The text of a program, a declaration a line, has the tokens of its lines.
use Rattle.std.proofs.Common.{◌≡◌, ℕ, ◌+◌, List, [], ◌∷◌, ◌++◌, length, false, map, refl, ap, sym, ◌∙◌, subst, append_assoc}
use Rattle.std.specs.Prelude.{flat_map}
use Rattle.sml_syntax.specs.declared.token.Token.{Token}
use Rattle.sml_syntax.specs.declared.token.TokenForm.{TokenForm}
use Rattle.sml_syntax.specs.declared.tree.Dec.{Dec}
use Rattle.grammar_rules.specs.Programs.{Each}
use Rattle.grammar_rules.specs.Spelling.{Good, Blank, only, is_nil, class, expression}
use Rattle.grammar_rules.specs.Tokens.{Program, Lexes, ends, piece}
use Rattle.print_laws.specs.Spelled.{spelled, spelled_token}
use Rattle.print_laws.specs.Printing.{dec_forms, printed}
use Rattle.print_laws.specs.Bytes.{Fits, Outside, placed, placed_lines, PrintedTokens, ScriptTokens}
use Rattle.print_laws.proofs.BytesLexed.{lexes, longest_single}
use Rattle.print_laws.proofs.BytesTokens.{all_kept, all_fine}

line_reads : (n : ℕ) (q : List ℕ) → expression false n (10 ∷ q) ≡ only (is_nil q) (Good Blank)
unfolding class
line_reads n q = refl

line : (fs : List TokenForm) (n : ℕ) (rest : List ℕ) (ts : List Token) → Fits Outside fs → Lexes Program (n + length (spelled fs) + 1) rest ts → Lexes Program n ((spelled fs ++ 10 ∷ []) ++ rest) (placed n fs ++ ts)
line fs n rest ts g d =
    subst (λ w. Lexes Program n w (placed n fs ++ ts)) (sym (append_assoc (spelled fs) (10 ∷ []) rest))
    (lexes g 0 n (10 ∷ rest) ts (piece (10 ∷ []) rest (longest_single Program (n + length (spelled fs)) 10 rest (Good Blank) (λ q. line_reads (n + length (spelled fs)) q)) d))

lines : (ds : List Dec) (n : ℕ) → Each (λ (d : Dec). Fits Outside (dec_forms d)) ds → Lexes Program n (flat_map (λ (d : Dec). spelled (dec_forms d) ++ 10 ∷ []) ds) (placed_lines n (map dec_forms ds))
lines [] n h = ends
lines (d ∷ ds) n h = line (dec_forms d) n (flat_map (λ (d : Dec). spelled (dec_forms d) ++ 10 ∷ []) ds) (placed_lines (n + length (spelled (dec_forms d)) + 1) (map dec_forms ds)) h.0 (lines ds (n + length (spelled (dec_forms d)) + 1) h.1)

forms_append : (ts us : List Token) → map (λ (t : Token). t.form) (ts ++ us) ≡ map (λ (t : Token). t.form) ts ++ map (λ (t : Token). t.form) us
forms_append [] us = refl
forms_append (t ∷ ts) us = ap (λ w. t.form ∷ w) (forms_append ts us)

placed_forms : (n : ℕ) (fs : List TokenForm) → map (λ (t : Token). t.form) (placed n fs) ≡ fs
placed_forms n [] = refl
placed_forms n (form ∷ fs) = ap (λ w. form ∷ w) (placed_forms (n + length (spelled_token form)) fs)

lines_forms : (ds : List Dec) (n : ℕ) → map (λ (t : Token). t.form) (placed_lines n (map dec_forms ds)) ≡ flat_map dec_forms ds
lines_forms [] n = refl
lines_forms (d ∷ ds) n =
    forms_append (placed n (dec_forms d)) (placed_lines (n + length (spelled (dec_forms d)) + 1) (map dec_forms ds))
    ∙ (ap (λ w. w ++ map (λ (t : Token). t.form) (placed_lines (n + length (spelled (dec_forms d)) + 1) (map dec_forms ds))) (placed_forms n (dec_forms d))
    ∙ ap (λ w. dec_forms d ++ w) (lines_forms ds (n + length (spelled (dec_forms d)) + 1)))

pub printed_tokens : PrintedTokens
unfolding printed
printed_tokens program h = (lines program.items 0 h, lines_forms program.items 0)

pub script_tokens : ScriptTokens
script_tokens script ts d = (all_kept d, all_fine ts (all_kept d))
