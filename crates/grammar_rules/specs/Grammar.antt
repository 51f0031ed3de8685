-- The grammar of programs: which tree stands for which tokens, one rule for each production, the tokens split in any place.
-- The Definition of Standard ML, section 2 (syntax of the core) and appendix A (derived forms).
--
-- It is the wider grammar: a tree comes with the lacks that its forms meet, in the order of the text, and a program is one
-- without any. A node's span is the extent of its tokens, parentheses around it left out; that of a name, and of a pattern
-- that applies one, begins at the name and leaves out an `op`.
--
-- The flag `open` says whether a match, or the clauses of a function, are still open at the end, so that a bar behind them
-- would be theirs: each rule and each clause but the last has a body where none is open. The other half of "a match takes
-- as much to the right as it can" lies in the productions themselves.
use Rattle.std.specs.Prelude.{◌≡◌, ℕ, suc, List, [], ◌∷◌, ◌++◌, length, Bool, true, false, Option, Some, None, codes, ℤ}
use Rattle.sml_syntax.specs.declared.token.Token.{Token}
use Rattle.sml_syntax.specs.declared.token.TokenForm.TheVariants as f
use Rattle.sml_syntax.specs.declared.token.Lack.TheVariants as l
use Rattle.sml_syntax.specs.declared.tree.Exp.{Exp}
use Rattle.sml_syntax.specs.declared.tree.ExpForm.TheVariants as e
use Rattle.sml_syntax.specs.declared.tree.Pat.{Pat}
use Rattle.sml_syntax.specs.declared.tree.PatForm.TheVariants as p
use Rattle.sml_syntax.specs.declared.tree.Ty.{Ty}
use Rattle.sml_syntax.specs.declared.tree.TyForm.TheVariants as t
use Rattle.sml_syntax.specs.declared.tree.Dec.{Dec}
use Rattle.sml_syntax.specs.declared.tree.DecForm.TheVariants as d
use Rattle.sml_syntax.specs.declared.tree.Rule.{Rule}
use Rattle.sml_syntax.specs.declared.tree.Piece.{Piece}
use Rattle.sml_syntax.specs.declared.tree.Piece.TheVariants as piece
use Rattle.grammar_rules.specs.InfixNames.{infix_level, groups_right}
use Rattle.sml_syntax.specs.NestedTypes.{Found, nested_in_bindings}
use Rattle.grammar_rules.specs.Nodes.{span_of, extent, last_of, name_place, exp_at, pat_at, ty_at, dec_at, rule_of, infix_exp, cons_pat, it_dec, function_rules, clause_pat}

-- a reserved word, a reserved symbol or punctuation
pub record IsMark (spelling : List ℕ) (word : Token) : Type 0 where
  pub is : word.form ≡ f.Mark spelling

-- a name that isn't infix
pub record IsName (name : List ℕ) (word : Token) : Type 0 where
  pub is : word.form ≡ f.Name name
  pub plain : infix_level name ≡ None

-- a name of one part, infix or not
pub record IsAnyName (name : List ℕ) (word : Token) : Type 0 where
  pub is : word.form ≡ f.Name name

pub record IsLongName (name : List ℕ) (word : Token) : Type 0 where
  pub is : word.form ≡ f.Long name

-- an infix name of a level that may be bound
pub record IsInfixName (level : ℕ) (name : List ℕ) (word : Token) : Type 0 where
  pub is : word.form ≡ f.Name name
  pub level_is : infix_level name ≡ Some level

-- an infix name of expressions: `=` is one too
pub data IsInfix : ℕ → List ℕ → Token → Type 0 where
  by_name : (level : ℕ) (name : List ℕ) (word : Token) → IsInfixName level name word → IsInfix level name word
  by_equals : (word : Token) → IsMark (codes "=") word → IsInfix 4 (codes "=") word

-- a name where types and constants of types stand: one that isn't infix, or a long one
pub data IsTypeName : List ℕ → Token → Type 0 where
  short : (name : List ℕ) (word : Token) → IsName name word → IsTypeName name word
  long : (name : List ℕ) (word : Token) → IsLongName name word → IsTypeName name word

pub record IsTyVar (name : List ℕ) (word : Token) : Type 0 where
  pub is : word.form ≡ f.TyVar name

-- the phrases of the grammar
pub data Phrase : Type 0 where
  -- expressions: atomic, applied, infix of a level or above, typed, and by `andalso` and `orelse` without and with a last tail
  atx app tyx andc orc quoted text_part antiquoted : Phrase
  inf : ℕ → Phrase
  ande ore tail expr : Bool → Phrase
  -- expressions between marks of this spelling
  exps : List ℕ → Phrase
  match_of : Phrase
  rule_of_match : Bool → Phrase
  -- patterns; the head of one is the name that it may apply
  head atpat apat cpat pat pats : Phrase
  atpats : ℕ → Phrase
  -- types; the flag allows type variables
  conty tupty ty stars tys : Bool → Phrase
  ty_vars more_vars : Phrase
  -- declarations; the flag says that they stand in `let` or `local`
  dec : Bool → Phrase
  decs binds recs funs abbrevs datas cons exns : Phrase
  -- one clause of a function with that name and so many patterns, and its clauses
  clause : List ℕ → ℕ → Bool → Phrase
  clauses : List ℕ → ℕ → Phrase
  -- items at the start or behind a semicolon, and behind a declaration
  items items_after : Phrase

-- what stands for a phrase
pub data Tree : Type 0 where
  exp_tree : Exp → Tree
  exps_tree : List Exp → Tree
  rule_tree : Rule → Tree
  rules_tree : List Rule → Tree
  text_tree : List ℕ → Tree
  pieces_tree : List Piece → Tree
  -- a name and its place
  name_tree : ℕ → List ℕ → Tree
  pat_tree : Pat → Tree
  pats_tree : List Pat → Tree
  ty_tree : Ty → Tree
  tys_tree : List Ty → Tree
  vars_tree : List (List ℕ) → Tree
  dec_tree : Dec → Tree
  decs_tree : List Dec → Tree
  binds_tree : List (Pat × Exp) → Tree
  recs_tree : List (List ℕ × List Rule) → Tree
  abbrevs_tree : List (List (List ℕ) × List ℕ × Ty) → Tree
  cons_tree : List (List ℕ × Option Ty) → Tree
  datas_tree : List (List (List ℕ) × List ℕ × List (List ℕ × Option Ty)) → Tree

-- a type variable where none are allowed
abbrev pub variable_lack : Bool → Token → List Found
variable_lack true word = []
variable_lack false word = (word.span.from, l.ConstraintVar) ∷ []

-- a declaration of types or exceptions inside `let` or `local`
abbrev pub local_lack : Bool → Token → List Found
local_lack false word = []
local_lack true word = (word.span.from, l.LocalType) ∷ []

-- the tree of tokens as a phrase, and its lacks
pub data Is : Phrase → List Token → Tree → List Found → Type 0 where
  -- atx ::= constant | [op] name | long name | quotation | ( ) | ( exp ) | ( exp , exp .. ) | ( exp ; exp .. ) | [ ] | [ exp , .. ]
  --       | let dec* in exp (; exp)* end
  atx_int : (word : Token) (number : ℤ) → word.form ≡ f.Int number → Is atx (word ∷ []) (exp_tree (exp_at word.span (e.Int number))) []
  atx_char : (word : Token) (byte : ℕ) → word.form ≡ f.Char byte → Is atx (word ∷ []) (exp_tree (exp_at word.span (e.Char byte))) []
  atx_str : (word : Token) (text : List ℕ) → word.form ≡ f.Str text → Is atx (word ∷ []) (exp_tree (exp_at word.span (e.Str text))) []
  atx_name : (word : Token) (name : List ℕ) → IsTypeName name word → Is atx (word ∷ []) (exp_tree (exp_at word.span (e.Name name))) []
  atx_op : (op word : Token) (name : List ℕ) → IsMark (codes "op") op → IsAnyName name word → Is atx (op ∷ word ∷ []) (exp_tree (exp_at word.span (e.Name name))) []
  atx_op_equals : (op word : Token) → IsMark (codes "op") op → IsMark (codes "=") word → Is atx (op ∷ word ∷ []) (exp_tree (exp_at word.span (e.Name (codes "=")))) []
  atx_quote : {ts : List Token} {pieces : List Piece} {ls : List Found} (from to : Token) → from.form ≡ f.QuoteFrom → Is quoted ts (pieces_tree pieces) ls → to.form ≡ f.QuoteTo → Is atx (from ∷ ts ++ to ∷ []) (exp_tree (exp_at (span_of from.span.from to.span.to) (e.Quote pieces))) ls
  atx_unit : (opening closing : Token) → IsMark (codes "(") opening → IsMark (codes ")") closing → Is atx (opening ∷ closing ∷ []) (exp_tree (exp_at (span_of opening.span.from closing.span.to) e.Unit)) []
  atx_paren : {o : Bool} {ts : List Token} {body : Exp} {ls : List Found} (opening closing : Token) → IsMark (codes "(") opening → Is (expr o) ts (exp_tree body) ls → IsMark (codes ")") closing → Is atx (opening ∷ ts ++ closing ∷ []) (exp_tree body) ls
  atx_tuple : {ts : List Token} {first next : Exp} {more : List Exp} {ls : List Found} (opening closing : Token) → IsMark (codes "(") opening → Is (exps (codes ",")) ts (exps_tree (first ∷ next ∷ more)) ls → IsMark (codes ")") closing → Is atx (opening ∷ ts ++ closing ∷ []) (exp_tree (exp_at (span_of opening.span.from closing.span.to) (e.Tuple (first ∷ next ∷ more)))) ls
  atx_seq : {ts : List Token} {first next : Exp} {more : List Exp} {ls : List Found} (opening closing : Token) → IsMark (codes "(") opening → Is (exps (codes ";")) ts (exps_tree (first ∷ next ∷ more)) ls → IsMark (codes ")") closing → Is atx (opening ∷ ts ++ closing ∷ []) (exp_tree (exp_at (span_of opening.span.from closing.span.to) (e.Seq (first ∷ next ∷ more)))) ls
  atx_no_list : (opening closing : Token) → IsMark (codes "[") opening → IsMark (codes "]") closing → Is atx (opening ∷ closing ∷ []) (exp_tree (exp_at (span_of opening.span.from closing.span.to) (e.List []))) []
  atx_list : {ts : List Token} {all : List Exp} {ls : List Found} (opening closing : Token) → IsMark (codes "[") opening → Is (exps (codes ",")) ts (exps_tree all) ls → IsMark (codes "]") closing → Is atx (opening ∷ ts ++ closing ∷ []) (exp_tree (exp_at (span_of opening.span.from closing.span.to) (e.List all))) ls
  atx_let : {ts us : List Token} {locals : List Dec} {all : List Exp} {ls ms : List Found} (let_ in_ end_ : Token) → IsMark (codes "let") let_ → Is decs ts (decs_tree locals) ls → IsMark (codes "in") in_ → Is (exps (codes ";")) us (exps_tree all) ms → IsMark (codes "end") end_ → Is atx (let_ ∷ ts ++ in_ ∷ us ++ end_ ∷ []) (exp_tree (exp_at (span_of let_.span.from end_.span.to) (e.Let locals all))) (ls ++ ms)
  -- a quotation: text and antiquotations in turn, text first and last, and the empty text where none stands
  quoted_last : {ts : List Token} {text : List ℕ} → Is text_part ts (text_tree text) [] → Is quoted ts (pieces_tree (piece.Plain text ∷ [])) []
  quoted_more : {ts us ws : List Token} {text : List ℕ} {anti : Exp} {pieces : List Piece} {ls ms : List Found} → Is text_part ts (text_tree text) [] → Is antiquoted us (exp_tree anti) ls → Is quoted ws (pieces_tree pieces) ms → Is quoted (ts ++ us ++ ws) (pieces_tree (piece.Plain text ∷ piece.Anti anti ∷ pieces)) (ls ++ ms)
  no_text : Is text_part [] (text_tree []) []
  some_text : (word : Token) (byte : ℕ) (bytes : List ℕ) → word.form ≡ f.Plain (byte ∷ bytes) → Is text_part (word ∷ []) (text_tree (byte ∷ bytes)) []
  anti_name : (word : Token) (name : List ℕ) → word.form ≡ f.Anti name → Is antiquoted (word ∷ []) (exp_tree (exp_at (span_of (name_place word.span) word.span.to) (e.Name name))) []
  anti_exp : {o : Bool} {ts : List Token} {body : Exp} {ls : List Found} (from to : Token) → from.form ≡ f.AntiFrom → Is (expr o) ts (exp_tree body) ls → to.form ≡ f.AntiTo → Is antiquoted (from ∷ ts ++ to ∷ []) (exp_tree body) ls
  exps_one : {spelling : List ℕ} {o : Bool} {ts : List Token} {one : Exp} {ls : List Found} → Is (expr o) ts (exp_tree one) ls → Is (exps spelling) ts (exps_tree (one ∷ [])) ls
  exps_more : {spelling : List ℕ} {o : Bool} {ts us : List Token} {one : Exp} {more : List Exp} {ls ms : List Found} (word : Token) → Is (expr o) ts (exp_tree one) ls → IsMark spelling word → Is (exps spelling) us (exps_tree more) ms → Is (exps spelling) (ts ++ word ∷ us) (exps_tree (one ∷ more)) (ls ++ ms)
  -- appx ::= atx | appx atx
  app_one : {ts : List Token} {one : Tree} {ls : List Found} → Is atx ts one ls → Is app ts one ls
  app_to : {ts us : List Token} {function argument : Exp} {ls ms : List Found} → Is app ts (exp_tree function) ls → Is atx us (exp_tree argument) ms → Is app (ts ++ us) (exp_tree (exp_at (extent (ts ++ us)) (e.App function argument))) (ls ++ ms)
  -- infx ::= appx joined by infix names, by their levels
  inf_top : {level : ℕ} {ts : List Token} {one : Tree} {ls : List Found} → Is app ts one ls → Is (inf level) ts one ls
  inf_up : {level : ℕ} {ts : List Token} {one : Tree} {ls : List Found} → Is (inf (suc level)) ts one ls → Is (inf level) ts one ls
  inf_left : {level : ℕ} {name : List ℕ} {ts us : List Token} {left right : Exp} {ls ms : List Found} (word : Token) → IsInfix level name word → groups_right level ≡ false → Is (inf level) ts (exp_tree left) ls → Is (inf (suc level)) us (exp_tree right) ms → Is (inf level) (ts ++ word ∷ us) (exp_tree (infix_exp (extent (ts ++ word ∷ us)) (exp_at word.span (e.Name name)) left right)) (ls ++ ms)
  inf_right : {level : ℕ} {name : List ℕ} {ts us : List Token} {left right : Exp} {ls ms : List Found} (word : Token) → IsInfix level name word → groups_right level ≡ true → Is (inf (suc level)) ts (exp_tree left) ls → Is (inf level) us (exp_tree right) ms → Is (inf level) (ts ++ word ∷ us) (exp_tree (infix_exp (extent (ts ++ word ∷ us)) (exp_at word.span (e.Name name)) left right)) (ls ++ ms)
  -- tyx ::= infx | tyx : ty
  tyx_one : {ts : List Token} {one : Tree} {ls : List Found} → Is (inf 0) ts one ls → Is tyx ts one ls
  tyx_typed : {ts us : List Token} {body : Exp} {type_ : Ty} {ls ms : List Found} (word : Token) → Is tyx ts (exp_tree body) ls → IsMark (codes ":") word → Is (ty false) us (ty_tree type_) ms → Is tyx (ts ++ word ∷ us) (exp_tree (exp_at (extent (ts ++ word ∷ us)) (e.Typed body type_))) (ls ++ ms)
  -- andc ::= tyx | tyx andalso andc
  andc_one : {ts : List Token} {one : Tree} {ls : List Found} → Is tyx ts one ls → Is andc ts one ls
  andc_both : {ts us : List Token} {left right : Exp} {ls ms : List Found} (word : Token) → Is tyx ts (exp_tree left) ls → IsMark (codes "andalso") word → Is andc us (exp_tree right) ms → Is andc (ts ++ word ∷ us) (exp_tree (exp_at (extent (ts ++ word ∷ us)) (e.Both left right))) (ls ++ ms)
  -- ande ::= tyx andalso (tail | ande)
  ande_tail : {o : Bool} {ts us : List Token} {left right : Exp} {ls ms : List Found} (word : Token) → Is tyx ts (exp_tree left) ls → IsMark (codes "andalso") word → Is (tail o) us (exp_tree right) ms → Is (ande o) (ts ++ word ∷ us) (exp_tree (exp_at (extent (ts ++ word ∷ us)) (e.Both left right))) (ls ++ ms)
  ande_more : {o : Bool} {ts us : List Token} {left right : Exp} {ls ms : List Found} (word : Token) → Is tyx ts (exp_tree left) ls → IsMark (codes "andalso") word → Is (ande o) us (exp_tree right) ms → Is (ande o) (ts ++ word ∷ us) (exp_tree (exp_at (extent (ts ++ word ∷ us)) (e.Both left right))) (ls ++ ms)
  -- orc ::= andc | andc orelse orc
  orc_one : {ts : List Token} {one : Tree} {ls : List Found} → Is andc ts one ls → Is orc ts one ls
  orc_either : {ts us : List Token} {left right : Exp} {ls ms : List Found} (word : Token) → Is andc ts (exp_tree left) ls → IsMark (codes "orelse") word → Is orc us (exp_tree right) ms → Is orc (ts ++ word ∷ us) (exp_tree (exp_at (extent (ts ++ word ∷ us)) (e.Either left right))) (ls ++ ms)
  -- ore ::= ande | andc orelse (tail | ore)
  ore_one : {o : Bool} {ts : List Token} {one : Tree} {ls : List Found} → Is (ande o) ts one ls → Is (ore o) ts one ls
  ore_tail : {o : Bool} {ts us : List Token} {left right : Exp} {ls ms : List Found} (word : Token) → Is andc ts (exp_tree left) ls → IsMark (codes "orelse") word → Is (tail o) us (exp_tree right) ms → Is (ore o) (ts ++ word ∷ us) (exp_tree (exp_at (extent (ts ++ word ∷ us)) (e.Either left right))) (ls ++ ms)
  ore_more : {o : Bool} {ts us : List Token} {left right : Exp} {ls ms : List Found} (word : Token) → Is andc ts (exp_tree left) ls → IsMark (codes "orelse") word → Is (ore o) us (exp_tree right) ms → Is (ore o) (ts ++ word ∷ us) (exp_tree (exp_at (extent (ts ++ word ∷ us)) (e.Either left right))) (ls ++ ms)
  -- exp ::= tail | orc | ore | orc handle match
  exp_tail : {o : Bool} {ts : List Token} {one : Tree} {ls : List Found} → Is (tail o) ts one ls → Is (expr o) ts one ls
  exp_orc : {ts : List Token} {one : Tree} {ls : List Found} → Is orc ts one ls → Is (expr false) ts one ls
  exp_ore : {o : Bool} {ts : List Token} {one : Tree} {ls : List Found} → Is (ore o) ts one ls → Is (expr o) ts one ls
  exp_handle : {ts us : List Token} {body : Exp} {rules : List Rule} {ls ms : List Found} (word : Token) → Is orc ts (exp_tree body) ls → IsMark (codes "handle") word → Is match_of us (rules_tree rules) ms → Is (expr true) (ts ++ word ∷ us) (exp_tree (exp_at (extent (ts ++ word ∷ us)) (e.Handle body rules))) (ls ++ ms)
  -- tail ::= raise exp | if exp then exp else exp | case exp of match | fn match
  tail_raise : {o : Bool} {ts : List Token} {body : Exp} {ls : List Found} (word : Token) → IsMark (codes "raise") word → Is (expr o) ts (exp_tree body) ls → Is (tail o) (word ∷ ts) (exp_tree (exp_at (extent (word ∷ ts)) (e.Raise body))) ls
  tail_if : {o q r : Bool} {ts us ws : List Token} {test chosen otherwise : Exp} {ls ms ns : List Found} (if_ then_ else_ : Token) → IsMark (codes "if") if_ → Is (expr o) ts (exp_tree test) ls → IsMark (codes "then") then_ → Is (expr q) us (exp_tree chosen) ms → IsMark (codes "else") else_ → Is (expr r) ws (exp_tree otherwise) ns → Is (tail r) (if_ ∷ ts ++ then_ ∷ us ++ else_ ∷ ws) (exp_tree (exp_at (extent (if_ ∷ ts ++ then_ ∷ us ++ else_ ∷ ws)) (e.If test chosen otherwise))) (ls ++ ms ++ ns)
  tail_case : {o : Bool} {ts us : List Token} {body : Exp} {rules : List Rule} {ls ms : List Found} (case_ of_ : Token) → IsMark (codes "case") case_ → Is (expr o) ts (exp_tree body) ls → IsMark (codes "of") of_ → Is match_of us (rules_tree rules) ms → Is (tail true) (case_ ∷ ts ++ of_ ∷ us) (exp_tree (exp_at (extent (case_ ∷ ts ++ of_ ∷ us)) (e.Case body rules))) (ls ++ ms)
  tail_fn : {ts : List Token} {rules : List Rule} {ls : List Found} (word : Token) → IsMark (codes "fn") word → Is match_of ts (rules_tree rules) ls → Is (tail true) (word ∷ ts) (exp_tree (exp_at (extent (word ∷ ts)) (e.Fn rules))) ls
  -- match ::= rule (| rule)*        rule ::= pat => exp
  match_last : {o : Bool} {ts : List Token} {one : Rule} {ls : List Found} → Is (rule_of_match o) ts (rule_tree one) ls → Is match_of ts (rules_tree (one ∷ [])) ls
  match_more : {ts us : List Token} {one : Rule} {more : List Rule} {ls ms : List Found} (bar : Token) → Is (rule_of_match false) ts (rule_tree one) ls → IsMark (codes "|") bar → Is match_of us (rules_tree more) ms → Is match_of (ts ++ bar ∷ us) (rules_tree (one ∷ more)) (ls ++ ms)
  one_rule : {o : Bool} {ts us : List Token} {left : Pat} {body : Exp} {ls ms : List Found} (arrow : Token) → Is pat ts (pat_tree left) ls → IsMark (codes "=>") arrow → Is (expr o) us (exp_tree body) ms → Is (rule_of_match o) (ts ++ arrow ∷ us) (rule_tree (rule_of left body)) (ls ++ ms)
  -- [op] name | long name
  head_name : (word : Token) (name : List ℕ) → IsTypeName name word → Is head (word ∷ []) (name_tree word.span.from name) []
  head_op : (op word : Token) (name : List ℕ) → IsMark (codes "op") op → IsAnyName name word → Is head (op ∷ word ∷ []) (name_tree word.span.from name) []
  -- atpat ::= _ | constant | [op] name | long name | ( ) | ( pat ) | ( pat , pat .. ) | [ ] | [ pat , .. ]
  atpat_any : (word : Token) → IsMark (codes "_") word → Is atpat (word ∷ []) (pat_tree (pat_at word.span p.Any)) []
  atpat_int : (word : Token) (number : ℤ) → word.form ≡ f.Int number → Is atpat (word ∷ []) (pat_tree (pat_at word.span (p.Int number))) []
  atpat_char : (word : Token) (byte : ℕ) → word.form ≡ f.Char byte → Is atpat (word ∷ []) (pat_tree (pat_at word.span (p.Char byte))) []
  atpat_str : (word : Token) (text : List ℕ) → word.form ≡ f.Str text → Is atpat (word ∷ []) (pat_tree (pat_at word.span (p.Str text))) []
  atpat_name : {ts : List Token} {place : ℕ} {name : List ℕ} → Is head ts (name_tree place name) [] → Is atpat ts (pat_tree (pat_at (span_of place (last_of ts)) (p.Name name))) []
  atpat_unit : (opening closing : Token) → IsMark (codes "(") opening → IsMark (codes ")") closing → Is atpat (opening ∷ closing ∷ []) (pat_tree (pat_at (span_of opening.span.from closing.span.to) p.Unit)) []
  atpat_paren : {ts : List Token} {body : Pat} {ls : List Found} (opening closing : Token) → IsMark (codes "(") opening → Is pat ts (pat_tree body) ls → IsMark (codes ")") closing → Is atpat (opening ∷ ts ++ closing ∷ []) (pat_tree body) ls
  atpat_tuple : {ts : List Token} {first next : Pat} {more : List Pat} {ls : List Found} (opening closing : Token) → IsMark (codes "(") opening → Is pats ts (pats_tree (first ∷ next ∷ more)) ls → IsMark (codes ")") closing → Is atpat (opening ∷ ts ++ closing ∷ []) (pat_tree (pat_at (span_of opening.span.from closing.span.to) (p.Tuple (first ∷ next ∷ more)))) ls
  atpat_no_list : (opening closing : Token) → IsMark (codes "[") opening → IsMark (codes "]") closing → Is atpat (opening ∷ closing ∷ []) (pat_tree (pat_at (span_of opening.span.from closing.span.to) (p.List []))) []
  atpat_list : {ts : List Token} {all : List Pat} {ls : List Found} (opening closing : Token) → IsMark (codes "[") opening → Is pats ts (pats_tree all) ls → IsMark (codes "]") closing → Is atpat (opening ∷ ts ++ closing ∷ []) (pat_tree (pat_at (span_of opening.span.from closing.span.to) (p.List all))) ls
  pats_one : {ts : List Token} {one : Pat} {ls : List Found} → Is pat ts (pat_tree one) ls → Is pats ts (pats_tree (one ∷ [])) ls
  pats_more : {ts us : List Token} {one : Pat} {more : List Pat} {ls ms : List Found} (comma : Token) → Is pat ts (pat_tree one) ls → IsMark (codes ",") comma → Is pats us (pats_tree more) ms → Is pats (ts ++ comma ∷ us) (pats_tree (one ∷ more)) (ls ++ ms)
  atpats_none : Is (atpats 0) [] (pats_tree []) []
  atpats_more : {count : ℕ} {ts us : List Token} {one : Pat} {more : List Pat} {ls ms : List Found} → Is atpat ts (pat_tree one) ls → Is (atpats count) us (pats_tree more) ms → Is (atpats (suc count)) (ts ++ us) (pats_tree (one ∷ more)) (ls ++ ms)
  -- apat ::= atpat | [op] name atpat | long name atpat
  apat_one : {ts : List Token} {one : Tree} {ls : List Found} → Is atpat ts one ls → Is apat ts one ls
  apat_con : {ts us : List Token} {place : ℕ} {name : List ℕ} {argument : Pat} {ls : List Found} → Is head ts (name_tree place name) [] → Is atpat us (pat_tree argument) ls → Is apat (ts ++ us) (pat_tree (pat_at (span_of place (last_of us)) (p.Con name argument))) ls
  -- cpat ::= apat | apat :: cpat
  cpat_one : {ts : List Token} {one : Tree} {ls : List Found} → Is apat ts one ls → Is cpat ts one ls
  cpat_cons : {ts us : List Token} {left right : Pat} {ls ms : List Found} (word : Token) → Is apat ts (pat_tree left) ls → IsAnyName (codes "::") word → Is cpat us (pat_tree right) ms → Is cpat (ts ++ word ∷ us) (pat_tree (cons_pat (extent (ts ++ word ∷ us)) left right)) (ls ++ ms)
  -- pat ::= cpat [: ty]
  pat_one : {ts : List Token} {one : Tree} {ls : List Found} → Is cpat ts one ls → Is pat ts one ls
  pat_typed : {ts us : List Token} {body : Pat} {type_ : Ty} {ls ms : List Found} (word : Token) → Is cpat ts (pat_tree body) ls → IsMark (codes ":") word → Is (ty false) us (ty_tree type_) ms → Is pat (ts ++ word ∷ us) (pat_tree (pat_at (extent (ts ++ word ∷ us)) (p.Typed body type_))) (ls ++ ms)
  -- conty ::= name | tyvar | ( ty ) | conty name | ( ty , ty .. ) name
  conty_name : {v : Bool} (word : Token) (name : List ℕ) → IsTypeName name word → Is (conty v) (word ∷ []) (ty_tree (ty_at word.span (t.Con name []))) []
  conty_var : {v : Bool} (word : Token) (name : List ℕ) → IsTyVar name word → Is (conty v) (word ∷ []) (ty_tree (ty_at word.span (t.Var name))) (variable_lack v word)
  conty_paren : {v : Bool} {ts : List Token} {body : Ty} {ls : List Found} (opening closing : Token) → IsMark (codes "(") opening → Is (ty v) ts (ty_tree body) ls → IsMark (codes ")") closing → Is (conty v) (opening ∷ ts ++ closing ∷ []) (ty_tree body) ls
  conty_one : {v : Bool} {ts : List Token} {argument : Ty} {ls : List Found} (word : Token) (name : List ℕ) → Is (conty v) ts (ty_tree argument) ls → IsTypeName name word → Is (conty v) (ts ++ word ∷ []) (ty_tree (ty_at (extent (ts ++ word ∷ [])) (t.Con name (argument ∷ [])))) ls
  conty_several : {v : Bool} {ts : List Token} {first next : Ty} {more : List Ty} {ls : List Found} (opening closing word : Token) (name : List ℕ) → IsMark (codes "(") opening → Is (tys v) ts (tys_tree (first ∷ next ∷ more)) ls → IsMark (codes ")") closing → IsTypeName name word → Is (conty v) (opening ∷ ts ++ closing ∷ word ∷ []) (ty_tree (ty_at (span_of opening.span.from word.span.to) (t.Con name (first ∷ next ∷ more)))) ls
  tys_one : {v : Bool} {ts : List Token} {one : Ty} {ls : List Found} → Is (ty v) ts (ty_tree one) ls → Is (tys v) ts (tys_tree (one ∷ [])) ls
  tys_more : {v : Bool} {ts us : List Token} {one : Ty} {more : List Ty} {ls ms : List Found} (comma : Token) → Is (ty v) ts (ty_tree one) ls → IsMark (codes ",") comma → Is (tys v) us (tys_tree more) ms → Is (tys v) (ts ++ comma ∷ us) (tys_tree (one ∷ more)) (ls ++ ms)
  -- tupty ::= conty (* conty)*
  stars_one : {v : Bool} {ts : List Token} {one : Ty} {ls : List Found} → Is (conty v) ts (ty_tree one) ls → Is (stars v) ts (tys_tree (one ∷ [])) ls
  stars_more : {v : Bool} {ts us : List Token} {one : Ty} {more : List Ty} {ls ms : List Found} (word : Token) → Is (conty v) ts (ty_tree one) ls → IsAnyName (codes "*") word → Is (stars v) us (tys_tree more) ms → Is (stars v) (ts ++ word ∷ us) (tys_tree (one ∷ more)) (ls ++ ms)
  tupty_one : {v : Bool} {ts : List Token} {one : Ty} {ls : List Found} → Is (stars v) ts (tys_tree (one ∷ [])) ls → Is (tupty v) ts (ty_tree one) ls
  tupty_several : {v : Bool} {ts : List Token} {first next : Ty} {more : List Ty} {ls : List Found} → Is (stars v) ts (tys_tree (first ∷ next ∷ more)) ls → Is (tupty v) ts (ty_tree (ty_at (extent ts) (t.Tuple (first ∷ next ∷ more)))) ls
  -- ty ::= tupty | tupty -> ty
  ty_one : {v : Bool} {ts : List Token} {one : Tree} {ls : List Found} → Is (tupty v) ts one ls → Is (ty v) ts one ls
  ty_arrow : {v : Bool} {ts us : List Token} {left right : Ty} {ls ms : List Found} (word : Token) → Is (tupty v) ts (ty_tree left) ls → IsMark (codes "->") word → Is (ty v) us (ty_tree right) ms → Is (ty v) (ts ++ word ∷ us) (ty_tree (ty_at (extent (ts ++ word ∷ us)) (t.Arrow left right))) (ls ++ ms)
  -- [tyvars]        tyvars ::= tyvar | ( tyvar , tyvar .. )
  vars_none : Is ty_vars [] (vars_tree []) []
  vars_one : (word : Token) (name : List ℕ) → IsTyVar name word → Is ty_vars (word ∷ []) (vars_tree (name ∷ [])) []
  vars_several : {ts : List Token} {first next : List ℕ} {more : List (List ℕ)} (opening closing : Token) → IsMark (codes "(") opening → Is more_vars ts (vars_tree (first ∷ next ∷ more)) [] → IsMark (codes ")") closing → Is ty_vars (opening ∷ ts ++ closing ∷ []) (vars_tree (first ∷ next ∷ more)) []
  more_vars_one : (word : Token) (name : List ℕ) → IsTyVar name word → Is more_vars (word ∷ []) (vars_tree (name ∷ [])) []
  more_vars_more : {ts : List Token} {more : List (List ℕ)} (word comma : Token) (name : List ℕ) → IsTyVar name word → IsMark (codes ",") comma → Is more_vars ts (vars_tree more) [] → Is more_vars (word ∷ comma ∷ ts) (vars_tree (name ∷ more)) []
  -- dec ::= val bind (and bind)* | val rec rbind (and rbind)* | fun fbind (and fbind)* | type .. | datatype .. | exception ..
  --       | local dec* in dec* end
  dec_val : {i : Bool} {ts : List Token} {all : List (Pat × Exp)} {ls : List Found} (word : Token) → IsMark (codes "val") word → Is binds ts (binds_tree all) ls → Is (dec i) (word ∷ ts) (dec_tree (dec_at (extent (word ∷ ts)) (d.Val all))) ls
  dec_rec : {i : Bool} {ts : List Token} {all : List (List ℕ × List Rule)} {ls : List Found} (word rec_ : Token) → IsMark (codes "val") word → IsMark (codes "rec") rec_ → Is recs ts (recs_tree all) ls → Is (dec i) (word ∷ rec_ ∷ ts) (dec_tree (dec_at (extent (word ∷ rec_ ∷ ts)) (d.ValRec all))) ls
  dec_fun : {i : Bool} {ts : List Token} {all : List (List ℕ × List Rule)} {ls : List Found} (word : Token) → IsMark (codes "fun") word → Is funs ts (recs_tree all) ls → Is (dec i) (word ∷ ts) (dec_tree (dec_at (extent (word ∷ ts)) (d.ValRec all))) ls
  dec_type : {i : Bool} {ts : List Token} {all : List (List (List ℕ) × List ℕ × Ty)} {ls : List Found} (word : Token) → IsMark (codes "type") word → Is abbrevs ts (abbrevs_tree all) ls → Is (dec i) (word ∷ ts) (dec_tree (dec_at (extent (word ∷ ts)) (d.Abbrev all))) (local_lack i word ++ ls)
  dec_datatype : {i : Bool} {ts : List Token} {all : List (List (List ℕ) × List ℕ × List (List ℕ × Option Ty))} {ls : List Found} (word : Token) → IsMark (codes "datatype") word → Is datas ts (datas_tree all) ls → Is (dec i) (word ∷ ts) (dec_tree (dec_at (extent (word ∷ ts)) (d.DataDef all))) (local_lack i word ++ ls ++ nested_in_bindings (length ts) all all)
  dec_exception : {i : Bool} {ts : List Token} {all : List (List ℕ × Option Ty)} {ls : List Found} (word : Token) → IsMark (codes "exception") word → Is exns ts (cons_tree all) ls → Is (dec i) (word ∷ ts) (dec_tree (dec_at (extent (word ∷ ts)) (d.ExnDef all))) (local_lack i word ++ ls)
  dec_local : {i : Bool} {ts us : List Token} {first second : List Dec} {ls ms : List Found} (local_ in_ end_ : Token) → IsMark (codes "local") local_ → Is decs ts (decs_tree first) ls → IsMark (codes "in") in_ → Is decs us (decs_tree second) ms → IsMark (codes "end") end_ → Is (dec i) (local_ ∷ ts ++ in_ ∷ us ++ end_ ∷ []) (dec_tree (dec_at (span_of local_.span.from end_.span.to) (d.Local first second))) (ls ++ ms)
  -- datatype name = datatype name': `Replication`
  dec_replication : {i : Bool} (word short_ equals again long_ : Token) (name other : List ℕ) → IsMark (codes "datatype") word → IsName name short_ → IsMark (codes "=") equals → IsMark (codes "datatype") again → IsTypeName other long_ → Is (dec i) (word ∷ short_ ∷ equals ∷ again ∷ long_ ∷ []) (dec_tree (dec_at (span_of word.span.from long_.span.to) (d.DataDef (([], name, []) ∷ [])))) (local_lack i word ++ (again.span.from, l.Replication) ∷ [])
  -- dec* in `let` and `local`: each may be followed by one semicolon
  decs_none : Is decs [] (decs_tree []) []
  decs_more : {ts us : List Token} {one : Dec} {more : List Dec} {ls ms : List Found} → Is (dec true) ts (dec_tree one) ls → Is decs us (decs_tree more) ms → Is decs (ts ++ us) (decs_tree (one ∷ more)) (ls ++ ms)
  decs_parted : {ts us : List Token} {one : Dec} {more : List Dec} {ls ms : List Found} (word : Token) → Is (dec true) ts (dec_tree one) ls → IsMark (codes ";") word → Is decs us (decs_tree more) ms → Is decs (ts ++ word ∷ us) (decs_tree (one ∷ more)) (ls ++ ms)
  -- bind ::= pat = exp
  binds_one : {o : Bool} {ts us : List Token} {left : Pat} {body : Exp} {ls ms : List Found} (equals : Token) → Is pat ts (pat_tree left) ls → IsMark (codes "=") equals → Is (expr o) us (exp_tree body) ms → Is binds (ts ++ equals ∷ us) (binds_tree ((left, body) ∷ [])) (ls ++ ms)
  binds_more : {o : Bool} {ts us ws : List Token} {left : Pat} {body : Exp} {more : List (Pat × Exp)} {ls ms ns : List Found} (equals and_ : Token) → Is pat ts (pat_tree left) ls → IsMark (codes "=") equals → Is (expr o) us (exp_tree body) ms → IsMark (codes "and") and_ → Is binds ws (binds_tree more) ns → Is binds (ts ++ equals ∷ us ++ and_ ∷ ws) (binds_tree ((left, body) ∷ more)) (ls ++ ms ++ ns)
  -- rbind ::= name = fn match
  recs_one : {ts : List Token} {rules : List Rule} {ls : List Found} (word equals fn_ : Token) (name : List ℕ) → IsName name word → IsMark (codes "=") equals → IsMark (codes "fn") fn_ → Is match_of ts (rules_tree rules) ls → Is recs (word ∷ equals ∷ fn_ ∷ ts) (recs_tree ((name, rules) ∷ [])) ls
  recs_more : {ts us : List Token} {rules : List Rule} {more : List (List ℕ × List Rule)} {ls ms : List Found} (word equals fn_ and_ : Token) (name : List ℕ) → IsName name word → IsMark (codes "=") equals → IsMark (codes "fn") fn_ → Is match_of ts (rules_tree rules) ls → IsMark (codes "and") and_ → Is recs us (recs_tree more) ms → Is recs (word ∷ equals ∷ fn_ ∷ ts ++ and_ ∷ us) (recs_tree ((name, rules) ∷ more)) (ls ++ ms)
  -- fbind ::= clause (| clause)*, of one name and one number of patterns
  funs_one : {name : List ℕ} {count : ℕ} {ts : List Token} {rules : List Rule} {ls : List Found} → Is (clauses name count) ts (rules_tree rules) ls → Is funs ts (recs_tree ((name, function_rules (extent ts) count rules) ∷ [])) ls
  funs_more : {name : List ℕ} {count : ℕ} {ts us : List Token} {rules : List Rule} {more : List (List ℕ × List Rule)} {ls ms : List Found} (and_ : Token) → Is (clauses name count) ts (rules_tree rules) ls → IsMark (codes "and") and_ → Is funs us (recs_tree more) ms → Is funs (ts ++ and_ ∷ us) (recs_tree ((name, function_rules (extent ts) count rules) ∷ more)) (ls ++ ms)
  clauses_last : {name : List ℕ} {count : ℕ} {o : Bool} {ts : List Token} {one : Rule} {ls : List Found} → Is (clause name count o) ts (rule_tree one) ls → Is (clauses name count) ts (rules_tree (one ∷ [])) ls
  clauses_more : {name : List ℕ} {count : ℕ} {ts us : List Token} {one : Rule} {more : List Rule} {ls ms : List Found} (bar : Token) → Is (clause name count false) ts (rule_tree one) ls → IsMark (codes "|") bar → Is (clauses name count) us (rules_tree more) ms → Is (clauses name count) (ts ++ bar ∷ us) (rules_tree (one ∷ more)) (ls ++ ms)
  -- clause ::= ([op] name | long name) atpat+ [: ty] = exp
  clause_plain : {name : List ℕ} {count place : ℕ} {o : Bool} {ts us ws : List Token} {first : Pat} {more : List Pat} {body : Exp} {ls ms : List Found} (equals : Token) → Is head ts (name_tree place name) [] → Is (atpats (suc count)) us (pats_tree (first ∷ more)) ls → IsMark (codes "=") equals → Is (expr o) ws (exp_tree body) ms → Is (clause name (suc count) o) (ts ++ us ++ equals ∷ ws) (rule_tree (rule_of (clause_pat (extent (ts ++ us ++ equals ∷ ws)) first more) body)) (ls ++ ms)
  clause_typed : {name : List ℕ} {count place : ℕ} {o : Bool} {ts us vs ws : List Token} {first : Pat} {more : List Pat} {type_ : Ty} {body : Exp} {ls ms ns : List Found} (colon equals : Token) → Is head ts (name_tree place name) [] → Is (atpats (suc count)) us (pats_tree (first ∷ more)) ls → IsMark (codes ":") colon → Is (ty false) vs (ty_tree type_) ms → IsMark (codes "=") equals → Is (expr o) ws (exp_tree body) ns → Is (clause name (suc count) o) (ts ++ us ++ colon ∷ vs ++ equals ∷ ws) (rule_tree (rule_of (clause_pat (extent (ts ++ us ++ colon ∷ vs ++ equals ∷ ws)) first more) (exp_at (extent (ts ++ us ++ colon ∷ vs ++ equals ∷ ws)) (e.Typed body type_)))) (ls ++ ms ++ ns)
  -- atpat name atpat [: ty] = exp, with an infix name: `InfixClause`; it counts as one pattern
  clause_infix : {name : List ℕ} {level : ℕ} {o : Bool} {ts us ws : List Token} {left right : Pat} {body : Exp} {ls ms ns : List Found} (word equals : Token) → Is atpat ts (pat_tree left) ls → IsInfixName level name word → Is atpat us (pat_tree right) ms → IsMark (codes "=") equals → Is (expr o) ws (exp_tree body) ns → Is (clause name 1 o) (ts ++ word ∷ us ++ equals ∷ ws) (rule_tree (rule_of (pat_at (extent (ts ++ word ∷ us)) (p.Tuple (left ∷ right ∷ []))) body)) (ls ++ (word.span.from, l.InfixClause) ∷ ms ++ ns)
  clause_infix_typed : {name : List ℕ} {level : ℕ} {o : Bool} {ts us vs ws : List Token} {left right : Pat} {type_ : Ty} {body : Exp} {ls ms ns ks : List Found} (word colon equals : Token) → Is atpat ts (pat_tree left) ls → IsInfixName level name word → Is atpat us (pat_tree right) ms → IsMark (codes ":") colon → Is (ty false) vs (ty_tree type_) ns → IsMark (codes "=") equals → Is (expr o) ws (exp_tree body) ks → Is (clause name 1 o) (ts ++ word ∷ us ++ colon ∷ vs ++ equals ∷ ws) (rule_tree (rule_of (pat_at (extent (ts ++ word ∷ us)) (p.Tuple (left ∷ right ∷ []))) (exp_at (extent (ts ++ word ∷ us ++ colon ∷ vs ++ equals ∷ ws)) (e.Typed body type_)))) (ls ++ (word.span.from, l.InfixClause) ∷ ms ++ ns ++ ks)
  -- type [tyvars] name = ty
  abbrevs_one : {ts us : List Token} {names : List (List ℕ)} {type_ : Ty} {ls : List Found} (word equals : Token) (name : List ℕ) → Is ty_vars ts (vars_tree names) [] → IsName name word → IsMark (codes "=") equals → Is (ty true) us (ty_tree type_) ls → Is abbrevs (ts ++ word ∷ equals ∷ us) (abbrevs_tree ((names, name, type_) ∷ [])) ls
  abbrevs_more : {ts us ws : List Token} {names : List (List ℕ)} {type_ : Ty} {more : List (List (List ℕ) × List ℕ × Ty)} {ls ms : List Found} (word equals and_ : Token) (name : List ℕ) → Is ty_vars ts (vars_tree names) [] → IsName name word → IsMark (codes "=") equals → Is (ty true) us (ty_tree type_) ls → IsMark (codes "and") and_ → Is abbrevs ws (abbrevs_tree more) ms → Is abbrevs (ts ++ word ∷ equals ∷ us ++ and_ ∷ ws) (abbrevs_tree ((names, name, type_) ∷ more)) (ls ++ ms)
  -- dbind ::= [tyvars] name = name [of ty] (| name [of ty])*
  datas_one : {ts us : List Token} {names : List (List ℕ)} {all : List (List ℕ × Option Ty)} {ls : List Found} (word equals : Token) (name : List ℕ) → Is ty_vars ts (vars_tree names) [] → IsName name word → IsMark (codes "=") equals → Is cons us (cons_tree all) ls → Is datas (ts ++ word ∷ equals ∷ us) (datas_tree ((names, name, all) ∷ [])) ls
  datas_more : {ts us ws : List Token} {names : List (List ℕ)} {all : List (List ℕ × Option Ty)} {more : List (List (List ℕ) × List ℕ × List (List ℕ × Option Ty))} {ls ms : List Found} (word equals and_ : Token) (name : List ℕ) → Is ty_vars ts (vars_tree names) [] → IsName name word → IsMark (codes "=") equals → Is cons us (cons_tree all) ls → IsMark (codes "and") and_ → Is datas ws (datas_tree more) ms → Is datas (ts ++ word ∷ equals ∷ us ++ and_ ∷ ws) (datas_tree ((names, name, all) ∷ more)) (ls ++ ms)
  cons_one : (word : Token) (name : List ℕ) → IsName name word → Is cons (word ∷ []) (cons_tree ((name, None) ∷ [])) []
  cons_of : {ts : List Token} {type_ : Ty} {ls : List Found} (word of_ : Token) (name : List ℕ) → IsName name word → IsMark (codes "of") of_ → Is (ty true) ts (ty_tree type_) ls → Is cons (word ∷ of_ ∷ ts) (cons_tree ((name, Some type_) ∷ [])) ls
  cons_more : {us : List Token} {more : List (List ℕ × Option Ty)} {ms : List Found} (word bar : Token) (name : List ℕ) → IsName name word → IsMark (codes "|") bar → Is cons us (cons_tree more) ms → Is cons (word ∷ bar ∷ us) (cons_tree ((name, None) ∷ more)) ms
  cons_of_more : {ts us : List Token} {type_ : Ty} {more : List (List ℕ × Option Ty)} {ls ms : List Found} (word of_ bar : Token) (name : List ℕ) → IsName name word → IsMark (codes "of") of_ → Is (ty true) ts (ty_tree type_) ls → IsMark (codes "|") bar → Is cons us (cons_tree more) ms → Is cons (word ∷ of_ ∷ ts ++ bar ∷ us) (cons_tree ((name, Some type_) ∷ more)) (ls ++ ms)
  -- exception name [of ty] (and ..), and exception name = name': `Replication`
  exns_one : (word : Token) (name : List ℕ) → IsName name word → Is exns (word ∷ []) (cons_tree ((name, None) ∷ [])) []
  exns_of : {ts : List Token} {type_ : Ty} {ls : List Found} (word of_ : Token) (name : List ℕ) → IsName name word → IsMark (codes "of") of_ → Is (ty false) ts (ty_tree type_) ls → Is exns (word ∷ of_ ∷ ts) (cons_tree ((name, Some type_) ∷ [])) ls
  exns_same : (word equals long_ : Token) (name other : List ℕ) → IsName name word → IsMark (codes "=") equals → IsTypeName other long_ → Is exns (word ∷ equals ∷ long_ ∷ []) (cons_tree ((name, None) ∷ [])) ((word.span.from, l.Replication) ∷ [])
  exns_more : {us : List Token} {more : List (List ℕ × Option Ty)} {ms : List Found} (word and_ : Token) (name : List ℕ) → IsName name word → IsMark (codes "and") and_ → Is exns us (cons_tree more) ms → Is exns (word ∷ and_ ∷ us) (cons_tree ((name, None) ∷ more)) ms
  exns_of_more : {ts us : List Token} {type_ : Ty} {more : List (List ℕ × Option Ty)} {ls ms : List Found} (word of_ and_ : Token) (name : List ℕ) → IsName name word → IsMark (codes "of") of_ → Is (ty false) ts (ty_tree type_) ls → IsMark (codes "and") and_ → Is exns us (cons_tree more) ms → Is exns (word ∷ of_ ∷ ts ++ and_ ∷ us) (cons_tree ((name, Some type_) ∷ more)) (ls ++ ms)
  exns_same_more : {us : List Token} {more : List (List ℕ × Option Ty)} {ms : List Found} (word equals long_ and_ : Token) (name other : List ℕ) → IsName name word → IsMark (codes "=") equals → IsTypeName other long_ → IsMark (codes "and") and_ → Is exns us (cons_tree more) ms → Is exns (word ∷ equals ∷ long_ ∷ and_ ∷ us) (cons_tree ((name, None) ∷ more)) ((word.span.from, l.Replication) ∷ ms)
  -- program ::= item*          item ::= dec [;] | exp (; or the end)
  items_none : Is items [] (decs_tree []) []
  items_dec : {ts us : List Token} {one : Dec} {more : List Dec} {ls ms : List Found} → Is (dec false) ts (dec_tree one) ls → Is items_after us (decs_tree more) ms → Is items (ts ++ us) (decs_tree (one ∷ more)) (ls ++ ms)
  items_exp : {o : Bool} {ts : List Token} {body : Exp} {ls : List Found} → Is (expr o) ts (exp_tree body) ls → Is items ts (decs_tree (it_dec (extent ts) body ∷ [])) ls
  items_exp_more : {o : Bool} {ts us : List Token} {body : Exp} {more : List Dec} {ls ms : List Found} (word : Token) → Is (expr o) ts (exp_tree body) ls → IsMark (codes ";") word → Is items us (decs_tree more) ms → Is items (ts ++ word ∷ us) (decs_tree (it_dec (extent ts) body ∷ more)) (ls ++ ms)
  items_after_none : Is items_after [] (decs_tree []) []
  items_after_dec : {ts us : List Token} {one : Dec} {more : List Dec} {ls ms : List Found} → Is (dec false) ts (dec_tree one) ls → Is items_after us (decs_tree more) ms → Is items_after (ts ++ us) (decs_tree (one ∷ more)) (ls ++ ms)
  items_after_semicolon : {us : List Token} {more : List Dec} {ms : List Found} (word : Token) → IsMark (codes ";") word → Is items us (decs_tree more) ms → Is items_after (word ∷ us) (decs_tree more) ms
