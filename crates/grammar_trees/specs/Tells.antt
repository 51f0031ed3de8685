-- What the machine tells while it reads the tokens of a phrase: the rules of the grammar with the acts of each.
use Rattle.std.specs.Prelude.{◌≡◌, ℕ, suc, nat_lt, cond, List, [], ◌∷◌, ◌++◌, length, Bool, true, false, Option, Some, None, codes, ℤ}
use Rattle.sml_syntax.specs.declared.token.Token.{Token}
use Rattle.sml_syntax.specs.declared.token.TokenForm.TheVariants as f
use Rattle.sml_syntax.specs.declared.token.Lack.TheVariants as l
use Rattle.sml_syntax.specs.declared.tree.Exp.{Exp}
use Rattle.sml_syntax.specs.declared.tree.ExpForm.TheVariants as e
use Rattle.sml_syntax.specs.declared.tree.Pat.{Pat}
use Rattle.sml_syntax.specs.declared.tree.PatForm.TheVariants as p
use Rattle.sml_syntax.specs.declared.tree.Ty.{Ty}
use Rattle.sml_syntax.specs.declared.tree.TyForm.TheVariants as t
use Rattle.sml_syntax.specs.declared.tree.Dec.{Dec}
use Rattle.sml_syntax.specs.declared.tree.DecForm.TheVariants as d
use Rattle.sml_syntax.specs.declared.tree.Rule.{Rule}
use Rattle.sml_syntax.specs.declared.tree.Piece.{Piece}
use Rattle.sml_syntax.specs.declared.tree.Piece.TheVariants as piece
use Rattle.grammar_rules.specs.InfixNames.{groups_right}
use Rattle.sml_syntax.specs.NestedTypes.{Found, nested_in_bindings}
use Rattle.grammar_rules.specs.Nodes.{span_of, extent, first_of, last_of, name_place, exp_at, pat_at, ty_at, dec_at, rule_of, infix_exp, cons_pat, it_dec, function_rules, clause_pat}
use Rattle.grammar_rules.specs.Grammar.{Phrase, atx, app, tyx, andc, orc, quoted, text_part, antiquoted, inf, ande, ore, tail, expr, exps, match_of, rule_of_match, head, atpat, apat, cpat, pat, pats, atpats, conty, tupty, ty, stars, tys, ty_vars, more_vars, dec, decs, binds, recs, funs, abbrevs, datas, cons, exns, clause, clauses, items, items_after, Tree, exp_tree, exps_tree, rule_tree, rules_tree, text_tree, pieces_tree, name_tree, pat_tree, pats_tree, ty_tree, tys_tree, vars_tree, dec_tree, decs_tree, binds_tree, recs_tree, abbrevs_tree, cons_tree, datas_tree, variable_lack, local_lack, Is, IsMark, IsName, IsAnyName, IsInfixName, IsInfix, IsTypeName, IsTyVar}
use Rattle.sml_grammar.specs.declared.mark.Mark.TheVariants as m
use Rattle.sml_grammar.specs.declared.act.Act.TheVariants as a
use Rattle.sml_grammar.specs.declared.act.ExpAct.TheVariants as x
use Rattle.sml_grammar.specs.declared.act.PatAct.TheVariants as q
use Rattle.sml_grammar.specs.declared.act.TyAct.TheVariants as y
use Rattle.sml_grammar.specs.declared.act.DecAct.TheVariants as b
use Rattle.sml_grammar.specs.declared.act.Made.{Made}
use Rattle.sml_grammar.specs.Sorts.{sort_of, is_mark, is_type_name}
use Rattle.sml_grammar.specs.Machine.{made}

-- the end of the first token
abbrev pub first_to : List Token → ℕ
first_to [] = 0
first_to (t ∷ ts) = t.span.to

-- a declaration of types or exceptions inside `let` or `local`
abbrev pub local_acts : Bool → Token → List Made
local_acts false word = []
local_acts true word = made (a.Lack word.span.from l.LocalType) word.span.to ∷ []

-- a type variable
abbrev pub var_acts : Bool → Token → List ℕ → List Made
var_acts true word name = made (a.Ty (y.Var word.span.from name)) word.span.to ∷ []
var_acts false word name = made (a.Lack word.span.from l.ConstraintVar) word.span.to ∷ made (a.Ty (y.Var word.span.from name)) word.span.to ∷ []

-- several patterns of a clause
abbrev pub tupled_acts : ℕ → ℕ → List Made
tupled_acts count to = cond (nat_lt 1 count) (made (a.Pat q.Tupled) to ∷ []) []

-- the end of a function of so many patterns
abbrev pub end_acts : ℕ → List ℕ → ℕ → ℕ → List Made
end_acts from name count to =
    cond (nat_lt 1 count) (made (a.Dec (b.Curry from count)) to ∷ made (a.Dec (b.AddRec name)) to ∷ []) (made (a.Dec (b.AddRec name)) to ∷ [])

-- tokens that begin with no name
abbrev pub NotHead : List Token → Type 0
NotHead [] = Unit {0}
NotHead (t ∷ ts) = (is_type_name (sort_of t.form) ≡ false) × (is_mark m.Op (sort_of t.form) ≡ false)

-- The tokens of a phrase, their tree and its lacks, and the acts that the machine tells. The number is the end of the token
-- behind a quotation's text, on which an act depends that stands for no text, and 0 for each other phrase.
pub data Tells : Phrase → ℕ → List Token → Tree → List Found → List Made → Type 0 where
  -- atx ::= constant | [op] name | long name | quotation | ( ) | ( exp ) | ( exp , exp .. ) | ( exp ; exp .. ) | [ ] | [ exp , .. ]
  --       | let dec* in exp (; exp)* end
  atx_int : (word : Token) (number : ℤ) → word.form ≡ f.Int number → Tells atx 0 (word ∷ []) (exp_tree (exp_at word.span (e.Int number))) [] (made (a.Exp (x.Int word.span.from number)) word.span.to ∷ [])
  atx_char : (word : Token) (byte : ℕ) → word.form ≡ f.Char byte → Tells atx 0 (word ∷ []) (exp_tree (exp_at word.span (e.Char byte))) [] (made (a.Exp (x.Char word.span.from byte)) word.span.to ∷ [])
  atx_str : (word : Token) (text : List ℕ) → word.form ≡ f.Str text → Tells atx 0 (word ∷ []) (exp_tree (exp_at word.span (e.Str text))) [] (made (a.Exp (x.Str word.span.from text)) word.span.to ∷ [])
  atx_name : (word : Token) (name : List ℕ) → IsTypeName name word → Tells atx 0 (word ∷ []) (exp_tree (exp_at word.span (e.Name name))) [] (made (a.Exp (x.Name word.span.from name)) word.span.to ∷ [])
  atx_op : (op word : Token) (name : List ℕ) → IsMark (codes "op") op → IsAnyName name word → Tells atx 0 (op ∷ word ∷ []) (exp_tree (exp_at word.span (e.Name name))) [] (made (a.Exp (x.Name word.span.from name)) word.span.to ∷ [])
  atx_op_equals : (op word : Token) → IsMark (codes "op") op → IsMark (codes "=") word → Tells atx 0 (op ∷ word ∷ []) (exp_tree (exp_at word.span (e.Name (codes "=")))) [] (made (a.Exp (x.Name word.span.from (codes "="))) word.span.to ∷ [])
  atx_quote : {ts : List Token} {pieces : List Piece} {ls : List Found} {n1 : List Made} (from to : Token) → from.form ≡ f.QuoteFrom → Tells quoted to.span.to ts (pieces_tree pieces) ls n1 → to.form ≡ f.QuoteTo → Tells atx 0 (from ∷ ts ++ to ∷ []) (exp_tree (exp_at (span_of from.span.from to.span.to) (e.Quote pieces))) ls (made (a.Exp x.NoPieces) from.span.to ∷ (n1 ++ (made (a.Exp (x.Quote from.span.from)) to.span.to ∷ [])))
  atx_unit : (opening closing : Token) → IsMark (codes "(") opening → IsMark (codes ")") closing → Tells atx 0 (opening ∷ closing ∷ []) (exp_tree (exp_at (span_of opening.span.from closing.span.to) e.Unit)) [] (made (a.Exp (x.Unit opening.span.from)) closing.span.to ∷ [])
  atx_paren : {o : Bool} {ts : List Token} {body : Exp} {ls : List Found} {n1 : List Made} (opening closing : Token) → IsMark (codes "(") opening → Tells (expr o) 0 ts (exp_tree body) ls n1 → IsMark (codes ")") closing → Tells atx 0 (opening ∷ ts ++ closing ∷ []) (exp_tree body) ls n1
  atx_tuple : {o : Bool} {ts us : List Token} {first next : Exp} {more : List Exp} {ls ms : List Found} {n1 n2 : List Made} (opening word closing : Token) → IsMark (codes "(") opening → Tells (expr o) 0 ts (exp_tree first) ls n1 → IsMark (codes ",") word → Tells (exps (codes ",")) 0 us (exps_tree (next ∷ more)) ms n2 → IsMark (codes ")") closing → Tells atx 0 (opening ∷ (ts ++ word ∷ us) ++ closing ∷ []) (exp_tree (exp_at (span_of opening.span.from closing.span.to) (e.Tuple (first ∷ next ∷ more)))) (ls ++ ms) (n1 ++ (made (a.Exp x.First) word.span.to ∷ (n2 ++ (made (a.Exp (x.Tuple opening.span.from)) closing.span.to ∷ []))))
  atx_seq : {o : Bool} {ts us : List Token} {first next : Exp} {more : List Exp} {ls ms : List Found} {n1 n2 : List Made} (opening word closing : Token) → IsMark (codes "(") opening → Tells (expr o) 0 ts (exp_tree first) ls n1 → IsMark (codes ";") word → Tells (exps (codes ";")) 0 us (exps_tree (next ∷ more)) ms n2 → IsMark (codes ")") closing → Tells atx 0 (opening ∷ (ts ++ word ∷ us) ++ closing ∷ []) (exp_tree (exp_at (span_of opening.span.from closing.span.to) (e.Seq (first ∷ next ∷ more)))) (ls ++ ms) (n1 ++ (made (a.Exp x.First) word.span.to ∷ (n2 ++ (made (a.Exp (x.Seq opening.span.from)) closing.span.to ∷ []))))
  atx_no_list : (opening closing : Token) → IsMark (codes "[") opening → IsMark (codes "]") closing → Tells atx 0 (opening ∷ closing ∷ []) (exp_tree (exp_at (span_of opening.span.from closing.span.to) (e.List []))) [] (made (a.Exp x.NoExps) closing.span.to ∷ (made (a.Exp (x.List opening.span.from)) closing.span.to ∷ []))
  atx_list : {ts : List Token} {all : List Exp} {ls : List Found} {n1 : List Made} (opening closing : Token) → IsMark (codes "[") opening → Tells (exps (codes ",")) 0 ts (exps_tree all) ls n1 → IsMark (codes "]") closing → Tells atx 0 (opening ∷ ts ++ closing ∷ []) (exp_tree (exp_at (span_of opening.span.from closing.span.to) (e.List all))) ls (made (a.Exp x.NoExps) (first_to ts) ∷ (n1 ++ (made (a.Exp (x.List opening.span.from)) closing.span.to ∷ [])))
  atx_let : {ts us : List Token} {locals : List Dec} {all : List Exp} {ls ms : List Found} {n1 n2 : List Made} (let_ in_ end_ : Token) → IsMark (codes "let") let_ → Tells decs 0 ts (decs_tree locals) ls n1 → IsMark (codes "in") in_ → Tells (exps (codes ";")) 0 us (exps_tree all) ms n2 → IsMark (codes "end") end_ → Tells atx 0 (let_ ∷ ts ++ in_ ∷ us ++ end_ ∷ []) (exp_tree (exp_at (span_of let_.span.from end_.span.to) (e.Let locals all))) (ls ++ ms) (made (a.Dec b.NoDecs) let_.span.to ∷ (n1 ++ (made (a.Exp x.NoExps) in_.span.to ∷ (n2 ++ (made (a.Exp (x.Let let_.span.from)) end_.span.to ∷ [])))))
  -- a quotation: text and antiquotations in turn, text first and last, and the empty text where none stands
  quoted_last : {ts : List Token} {text : List ℕ} {n1 : List Made} (next : ℕ) → Tells text_part next ts (text_tree text) [] n1 → Tells quoted next ts (pieces_tree (piece.Plain text ∷ [])) [] n1
  quoted_more : {ts us ws : List Token} {text : List ℕ} {anti : Exp} {pieces : List Piece} {ls ms : List Found} {n1 n2 n3 : List Made} (next : ℕ) → Tells text_part (first_to us) ts (text_tree text) [] n1 → Tells antiquoted 0 us (exp_tree anti) ls n2 → Tells quoted next ws (pieces_tree pieces) ms n3 → Tells quoted next (ts ++ us ++ ws) (pieces_tree (piece.Plain text ∷ piece.Anti anti ∷ pieces)) (ls ++ ms) (n1 ++ (n2 ++ (made (a.Exp x.AddAnti) (last_of us) ∷ (n3))))
  no_text : (next : ℕ) → Tells text_part next [] (text_tree []) [] (made (a.Exp x.EmptyPlain) next ∷ [])
  some_text : (next : ℕ) (word : Token) (byte : ℕ) (bytes : List ℕ) → word.form ≡ f.Plain (byte ∷ bytes) → Tells text_part next (word ∷ []) (text_tree (byte ∷ bytes)) [] (made (a.Exp (x.Plain (byte ∷ bytes))) word.span.to ∷ [])
  anti_name : (word : Token) (name : List ℕ) → word.form ≡ f.Anti name → Tells antiquoted 0 (word ∷ []) (exp_tree (exp_at (span_of (name_place word.span) word.span.to) (e.Name name))) [] (made (a.Exp (x.Name (name_place word.span) name)) word.span.to ∷ [])
  anti_exp : {o : Bool} {ts : List Token} {body : Exp} {ls : List Found} {n1 : List Made} (from to : Token) → from.form ≡ f.AntiFrom → Tells (expr o) 0 ts (exp_tree body) ls n1 → to.form ≡ f.AntiTo → Tells antiquoted 0 (from ∷ ts ++ to ∷ []) (exp_tree body) ls n1
  exps_one : {spelling : List ℕ} {o : Bool} {ts : List Token} {one : Exp} {ls : List Found} {n1 : List Made} → Tells (expr o) 0 ts (exp_tree one) ls n1 → Tells (exps spelling) 0 ts (exps_tree (one ∷ [])) ls (n1 ++ (made (a.Exp x.Push) (last_of ts) ∷ []))
  exps_more : {spelling : List ℕ} {o : Bool} {ts us : List Token} {one : Exp} {more : List Exp} {ls ms : List Found} {n1 n2 : List Made} (word : Token) → Tells (expr o) 0 ts (exp_tree one) ls n1 → IsMark spelling word → Tells (exps spelling) 0 us (exps_tree more) ms n2 → Tells (exps spelling) 0 (ts ++ word ∷ us) (exps_tree (one ∷ more)) (ls ++ ms) (n1 ++ (made (a.Exp x.Push) (last_of ts) ∷ (n2)))
  -- appx ::= atx | appx atx
  app_one : {ts : List Token} {one : Tree} {ls : List Found} {n1 : List Made} → Tells atx 0 ts one ls n1 → Tells app 0 ts one ls n1
  app_to : {ts us : List Token} {function argument : Exp} {ls ms : List Found} {n1 n2 : List Made} → Tells app 0 ts (exp_tree function) ls n1 → Tells atx 0 us (exp_tree argument) ms n2 → Tells app 0 (ts ++ us) (exp_tree (exp_at (extent (ts ++ us)) (e.App function argument))) (ls ++ ms) (n1 ++ (n2 ++ (made (a.Exp (x.App (first_of (ts ++ us)))) (last_of (ts ++ us)) ∷ [])))
  -- infx ::= appx joined by infix names, by their levels
  inf_top : {level : ℕ} {ts : List Token} {one : Tree} {ls : List Found} {n1 : List Made} → Tells app 0 ts one ls n1 → Tells (inf level) 0 ts one ls n1
  inf_up : {level : ℕ} {ts : List Token} {one : Tree} {ls : List Found} {n1 : List Made} → Tells (inf (suc level)) 0 ts one ls n1 → Tells (inf level) 0 ts one ls n1
  inf_left : {level : ℕ} {name : List ℕ} {ts us : List Token} {left right : Exp} {ls ms : List Found} {n1 n2 : List Made} (word : Token) → IsInfix level name word → groups_right level ≡ false → Tells (inf level) 0 ts (exp_tree left) ls n1 → Tells (inf (suc level)) 0 us (exp_tree right) ms n2 → Tells (inf level) 0 (ts ++ word ∷ us) (exp_tree (infix_exp (extent (ts ++ word ∷ us)) (exp_at word.span (e.Name name)) left right)) (ls ++ ms) (n1 ++ (made (a.Exp (x.Name word.span.from name)) word.span.to ∷ (n2 ++ (made (a.Exp (x.Infix (first_of (ts ++ word ∷ us)))) (last_of (ts ++ word ∷ us)) ∷ []))))
  inf_right : {level : ℕ} {name : List ℕ} {ts us : List Token} {left right : Exp} {ls ms : List Found} {n1 n2 : List Made} (word : Token) → IsInfix level name word → groups_right level ≡ true → Tells (inf (suc level)) 0 ts (exp_tree left) ls n1 → Tells (inf level) 0 us (exp_tree right) ms n2 → Tells (inf level) 0 (ts ++ word ∷ us) (exp_tree (infix_exp (extent (ts ++ word ∷ us)) (exp_at word.span (e.Name name)) left right)) (ls ++ ms) (n1 ++ (made (a.Exp (x.Name word.span.from name)) word.span.to ∷ (n2 ++ (made (a.Exp (x.Infix (first_of (ts ++ word ∷ us)))) (last_of (ts ++ word ∷ us)) ∷ []))))
  -- tyx ::= infx | tyx : ty
  tyx_one : {ts : List Token} {one : Tree} {ls : List Found} {n1 : List Made} → Tells (inf 0) 0 ts one ls n1 → Tells tyx 0 ts one ls n1
  tyx_typed : {ts us : List Token} {body : Exp} {type_ : Ty} {ls ms : List Found} {n1 n2 : List Made} (word : Token) → Tells tyx 0 ts (exp_tree body) ls n1 → IsMark (codes ":") word → Tells (ty false) 0 us (ty_tree type_) ms n2 → Tells tyx 0 (ts ++ word ∷ us) (exp_tree (exp_at (extent (ts ++ word ∷ us)) (e.Typed body type_))) (ls ++ ms) (n1 ++ (n2 ++ (made (a.Exp (x.Typed (first_of (ts ++ word ∷ us)))) (last_of (ts ++ word ∷ us)) ∷ [])))
  -- andc ::= tyx | tyx andalso andc
  andc_one : {ts : List Token} {one : Tree} {ls : List Found} {n1 : List Made} → Tells tyx 0 ts one ls n1 → Tells andc 0 ts one ls n1
  andc_both : {ts us : List Token} {left right : Exp} {ls ms : List Found} {n1 n2 : List Made} (word : Token) → Tells tyx 0 ts (exp_tree left) ls n1 → IsMark (codes "andalso") word → Tells andc 0 us (exp_tree right) ms n2 → Tells andc 0 (ts ++ word ∷ us) (exp_tree (exp_at (extent (ts ++ word ∷ us)) (e.Both left right))) (ls ++ ms) (n1 ++ (n2 ++ (made (a.Exp (x.Both (first_of (ts ++ word ∷ us)))) (last_of (ts ++ word ∷ us)) ∷ [])))
  -- ande ::= tyx andalso (tail | ande)
  ande_tail : {o : Bool} {ts us : List Token} {left right : Exp} {ls ms : List Found} {n1 n2 : List Made} (word : Token) → Tells tyx 0 ts (exp_tree left) ls n1 → IsMark (codes "andalso") word → Tells (tail o) 0 us (exp_tree right) ms n2 → Tells (ande o) 0 (ts ++ word ∷ us) (exp_tree (exp_at (extent (ts ++ word ∷ us)) (e.Both left right))) (ls ++ ms) (n1 ++ (n2 ++ (made (a.Exp (x.Both (first_of (ts ++ word ∷ us)))) (last_of (ts ++ word ∷ us)) ∷ [])))
  ande_more : {o : Bool} {ts us : List Token} {left right : Exp} {ls ms : List Found} {n1 n2 : List Made} (word : Token) → Tells tyx 0 ts (exp_tree left) ls n1 → IsMark (codes "andalso") word → Tells (ande o) 0 us (exp_tree right) ms n2 → Tells (ande o) 0 (ts ++ word ∷ us) (exp_tree (exp_at (extent (ts ++ word ∷ us)) (e.Both left right))) (ls ++ ms) (n1 ++ (n2 ++ (made (a.Exp (x.Both (first_of (ts ++ word ∷ us)))) (last_of (ts ++ word ∷ us)) ∷ [])))
  -- orc ::= andc | andc orelse orc
  orc_one : {ts : List Token} {one : Tree} {ls : List Found} {n1 : List Made} → Tells andc 0 ts one ls n1 → Tells orc 0 ts one ls n1
  orc_either : {ts us : List Token} {left right : Exp} {ls ms : List Found} {n1 n2 : List Made} (word : Token) → Tells andc 0 ts (exp_tree left) ls n1 → IsMark (codes "orelse") word → Tells orc 0 us (exp_tree right) ms n2 → Tells orc 0 (ts ++ word ∷ us) (exp_tree (exp_at (extent (ts ++ word ∷ us)) (e.Either left right))) (ls ++ ms) (n1 ++ (n2 ++ (made (a.Exp (x.Either (first_of (ts ++ word ∷ us)))) (last_of (ts ++ word ∷ us)) ∷ [])))
  -- ore ::= ande | andc orelse (tail | ore)
  ore_one : {o : Bool} {ts : List Token} {one : Tree} {ls : List Found} {n1 : List Made} → Tells (ande o) 0 ts one ls n1 → Tells (ore o) 0 ts one ls n1
  ore_tail : {o : Bool} {ts us : List Token} {left right : Exp} {ls ms : List Found} {n1 n2 : List Made} (word : Token) → Tells andc 0 ts (exp_tree left) ls n1 → IsMark (codes "orelse") word → Tells (tail o) 0 us (exp_tree right) ms n2 → Tells (ore o) 0 (ts ++ word ∷ us) (exp_tree (exp_at (extent (ts ++ word ∷ us)) (e.Either left right))) (ls ++ ms) (n1 ++ (n2 ++ (made (a.Exp (x.Either (first_of (ts ++ word ∷ us)))) (last_of (ts ++ word ∷ us)) ∷ [])))
  ore_more : {o : Bool} {ts us : List Token} {left right : Exp} {ls ms : List Found} {n1 n2 : List Made} (word : Token) → Tells andc 0 ts (exp_tree left) ls n1 → IsMark (codes "orelse") word → Tells (ore o) 0 us (exp_tree right) ms n2 → Tells (ore o) 0 (ts ++ word ∷ us) (exp_tree (exp_at (extent (ts ++ word ∷ us)) (e.Either left right))) (ls ++ ms) (n1 ++ (n2 ++ (made (a.Exp (x.Either (first_of (ts ++ word ∷ us)))) (last_of (ts ++ word ∷ us)) ∷ [])))
  -- exp ::= tail | orc | ore | orc handle match
  exp_tail : {o : Bool} {ts : List Token} {one : Tree} {ls : List Found} {n1 : List Made} → Tells (tail o) 0 ts one ls n1 → Tells (expr o) 0 ts one ls n1
  exp_orc : {ts : List Token} {one : Tree} {ls : List Found} {n1 : List Made} → Tells orc 0 ts one ls n1 → Tells (expr false) 0 ts one ls n1
  exp_ore : {o : Bool} {ts : List Token} {one : Tree} {ls : List Found} {n1 : List Made} → Tells (ore o) 0 ts one ls n1 → Tells (expr o) 0 ts one ls n1
  exp_handle : {ts us : List Token} {body : Exp} {rules : List Rule} {ls ms : List Found} {n1 n2 : List Made} (word : Token) → Tells orc 0 ts (exp_tree body) ls n1 → IsMark (codes "handle") word → Tells match_of 0 us (rules_tree rules) ms n2 → Tells (expr true) 0 (ts ++ word ∷ us) (exp_tree (exp_at (extent (ts ++ word ∷ us)) (e.Handle body rules))) (ls ++ ms) (n1 ++ (made (a.Exp x.NoRules) word.span.to ∷ (n2 ++ (made (a.Exp (x.Handle (first_of (ts ++ word ∷ us)))) (last_of (ts ++ word ∷ us)) ∷ []))))
  -- tail ::= raise exp | if exp then exp else exp | case exp of match | fn match
  tail_raise : {o : Bool} {ts : List Token} {body : Exp} {ls : List Found} {n1 : List Made} (word : Token) → IsMark (codes "raise") word → Tells (expr o) 0 ts (exp_tree body) ls n1 → Tells (tail o) 0 (word ∷ ts) (exp_tree (exp_at (extent (word ∷ ts)) (e.Raise body))) ls (n1 ++ (made (a.Exp (x.Raise word.span.from)) (last_of (word ∷ ts)) ∷ []))
  tail_if : {o q r : Bool} {ts us ws : List Token} {test chosen otherwise : Exp} {ls ms ns : List Found} {n1 n2 n3 : List Made} (if_ then_ else_ : Token) → IsMark (codes "if") if_ → Tells (expr o) 0 ts (exp_tree test) ls n1 → IsMark (codes "then") then_ → Tells (expr q) 0 us (exp_tree chosen) ms n2 → IsMark (codes "else") else_ → Tells (expr r) 0 ws (exp_tree otherwise) ns n3 → Tells (tail r) 0 (if_ ∷ ts ++ then_ ∷ us ++ else_ ∷ ws) (exp_tree (exp_at (extent (if_ ∷ ts ++ then_ ∷ us ++ else_ ∷ ws)) (e.If test chosen otherwise))) (ls ++ ms ++ ns) (n1 ++ (n2 ++ (n3 ++ (made (a.Exp (x.If if_.span.from)) (last_of (if_ ∷ ts ++ then_ ∷ us ++ else_ ∷ ws)) ∷ []))))
  tail_case : {o : Bool} {ts us : List Token} {body : Exp} {rules : List Rule} {ls ms : List Found} {n1 n2 : List Made} (case_ of_ : Token) → IsMark (codes "case") case_ → Tells (expr o) 0 ts (exp_tree body) ls n1 → IsMark (codes "of") of_ → Tells match_of 0 us (rules_tree rules) ms n2 → Tells (tail true) 0 (case_ ∷ ts ++ of_ ∷ us) (exp_tree (exp_at (extent (case_ ∷ ts ++ of_ ∷ us)) (e.Case body rules))) (ls ++ ms) (n1 ++ (made (a.Exp x.NoRules) of_.span.to ∷ (n2 ++ (made (a.Exp (x.Case case_.span.from)) (last_of (case_ ∷ ts ++ of_ ∷ us)) ∷ []))))
  tail_fn : {ts : List Token} {rules : List Rule} {ls : List Found} {n1 : List Made} (word : Token) → IsMark (codes "fn") word → Tells match_of 0 ts (rules_tree rules) ls n1 → Tells (tail true) 0 (word ∷ ts) (exp_tree (exp_at (extent (word ∷ ts)) (e.Fn rules))) ls (made (a.Exp x.NoRules) word.span.to ∷ (n1 ++ (made (a.Exp (x.Fn word.span.from)) (last_of (word ∷ ts)) ∷ [])))
  -- match ::= rule (| rule)*        rule ::= pat => exp
  match_last : {o : Bool} {ts : List Token} {one : Rule} {ls : List Found} {n1 : List Made} → Tells (rule_of_match o) 0 ts (rule_tree one) ls n1 → Tells match_of 0 ts (rules_tree (one ∷ [])) ls n1
  match_more : {ts us : List Token} {one : Rule} {more : List Rule} {ls ms : List Found} {n1 n2 : List Made} (bar : Token) → Tells (rule_of_match false) 0 ts (rule_tree one) ls n1 → IsMark (codes "|") bar → Tells match_of 0 us (rules_tree more) ms n2 → Tells match_of 0 (ts ++ bar ∷ us) (rules_tree (one ∷ more)) (ls ++ ms) (n1 ++ (n2))
  one_rule : {o : Bool} {ts us : List Token} {left : Pat} {body : Exp} {ls ms : List Found} {n1 n2 : List Made} (arrow : Token) → Tells pat 0 ts (pat_tree left) ls n1 → IsMark (codes "=>") arrow → Tells (expr o) 0 us (exp_tree body) ms n2 → Tells (rule_of_match o) 0 (ts ++ arrow ∷ us) (rule_tree (rule_of left body)) (ls ++ ms) (n1 ++ (n2 ++ (made (a.Exp x.AddRule) (last_of (ts ++ arrow ∷ us)) ∷ [])))
  -- [op] name | long name
  head_name : (word : Token) (name : List ℕ) → IsTypeName name word → Tells head 0 (word ∷ []) (name_tree word.span.from name) [] (made (a.Pat (q.Name word.span.from name)) word.span.to ∷ [])
  head_op : (op word : Token) (name : List ℕ) → IsMark (codes "op") op → IsAnyName name word → Tells head 0 (op ∷ word ∷ []) (name_tree word.span.from name) [] (made (a.Pat (q.Name word.span.from name)) word.span.to ∷ [])
  -- atpat ::= _ | constant | [op] name | long name | ( ) | ( pat ) | ( pat , pat .. ) | [ ] | [ pat , .. ]
  atpat_any : (word : Token) → IsMark (codes "_") word → Tells atpat 0 (word ∷ []) (pat_tree (pat_at word.span p.Any)) [] (made (a.Pat (q.Any word.span.from)) word.span.to ∷ [])
  atpat_int : (word : Token) (number : ℤ) → word.form ≡ f.Int number → Tells atpat 0 (word ∷ []) (pat_tree (pat_at word.span (p.Int number))) [] (made (a.Pat (q.Int word.span.from number)) word.span.to ∷ [])
  atpat_char : (word : Token) (byte : ℕ) → word.form ≡ f.Char byte → Tells atpat 0 (word ∷ []) (pat_tree (pat_at word.span (p.Char byte))) [] (made (a.Pat (q.Char word.span.from byte)) word.span.to ∷ [])
  atpat_str : (word : Token) (text : List ℕ) → word.form ≡ f.Str text → Tells atpat 0 (word ∷ []) (pat_tree (pat_at word.span (p.Str text))) [] (made (a.Pat (q.Str word.span.from text)) word.span.to ∷ [])
  atpat_name : {ts : List Token} {place : ℕ} {name : List ℕ} {n1 : List Made} → Tells head 0 ts (name_tree place name) [] n1 → Tells atpat 0 ts (pat_tree (pat_at (span_of place (last_of ts)) (p.Name name))) [] n1
  atpat_unit : (opening closing : Token) → IsMark (codes "(") opening → IsMark (codes ")") closing → Tells atpat 0 (opening ∷ closing ∷ []) (pat_tree (pat_at (span_of opening.span.from closing.span.to) p.Unit)) [] (made (a.Pat (q.Unit opening.span.from)) closing.span.to ∷ [])
  atpat_paren : {ts : List Token} {body : Pat} {ls : List Found} {n1 : List Made} (opening closing : Token) → IsMark (codes "(") opening → Tells pat 0 ts (pat_tree body) ls n1 → IsMark (codes ")") closing → Tells atpat 0 (opening ∷ ts ++ closing ∷ []) (pat_tree body) ls n1
  atpat_tuple : {ts us : List Token} {first next : Pat} {more : List Pat} {ls ms : List Found} {n1 n2 : List Made} (opening comma closing : Token) → IsMark (codes "(") opening → Tells pat 0 ts (pat_tree first) ls n1 → IsMark (codes ",") comma → Tells pats 0 us (pats_tree (next ∷ more)) ms n2 → IsMark (codes ")") closing → Tells atpat 0 (opening ∷ (ts ++ comma ∷ us) ++ closing ∷ []) (pat_tree (pat_at (span_of opening.span.from closing.span.to) (p.Tuple (first ∷ next ∷ more)))) (ls ++ ms) (n1 ++ (made (a.Pat q.First) comma.span.to ∷ (n2 ++ (made (a.Pat (q.Tuple opening.span.from)) closing.span.to ∷ []))))
  atpat_no_list : (opening closing : Token) → IsMark (codes "[") opening → IsMark (codes "]") closing → Tells atpat 0 (opening ∷ closing ∷ []) (pat_tree (pat_at (span_of opening.span.from closing.span.to) (p.List []))) [] (made (a.Pat q.NoPats) closing.span.to ∷ (made (a.Pat (q.List opening.span.from)) closing.span.to ∷ []))
  atpat_list : {ts : List Token} {all : List Pat} {ls : List Found} {n1 : List Made} (opening closing : Token) → IsMark (codes "[") opening → Tells pats 0 ts (pats_tree all) ls n1 → IsMark (codes "]") closing → Tells atpat 0 (opening ∷ ts ++ closing ∷ []) (pat_tree (pat_at (span_of opening.span.from closing.span.to) (p.List all))) ls (made (a.Pat q.NoPats) (first_to ts) ∷ (n1 ++ (made (a.Pat (q.List opening.span.from)) closing.span.to ∷ [])))
  pats_one : {ts : List Token} {one : Pat} {ls : List Found} {n1 : List Made} → Tells pat 0 ts (pat_tree one) ls n1 → Tells pats 0 ts (pats_tree (one ∷ [])) ls (n1 ++ (made (a.Pat q.Push) (last_of ts) ∷ []))
  pats_more : {ts us : List Token} {one : Pat} {more : List Pat} {ls ms : List Found} {n1 n2 : List Made} (comma : Token) → Tells pat 0 ts (pat_tree one) ls n1 → IsMark (codes ",") comma → Tells pats 0 us (pats_tree more) ms n2 → Tells pats 0 (ts ++ comma ∷ us) (pats_tree (one ∷ more)) (ls ++ ms) (n1 ++ (made (a.Pat q.Push) (last_of ts) ∷ (n2)))
  atpats_none : Tells (atpats 0) 0 [] (pats_tree []) [] []
  atpats_more : {count : ℕ} {ts us : List Token} {one : Pat} {more : List Pat} {ls ms : List Found} {n1 n2 : List Made} → Tells atpat 0 ts (pat_tree one) ls n1 → Tells (atpats count) 0 us (pats_tree more) ms n2 → Tells (atpats (suc count)) 0 (ts ++ us) (pats_tree (one ∷ more)) (ls ++ ms) (n1 ++ (made (a.Pat q.Push) (last_of ts) ∷ (n2)))
  -- apat ::= atpat | [op] name atpat | long name atpat
  apat_one : {ts : List Token} {one : Tree} {ls : List Found} {n1 : List Made} → Tells atpat 0 ts one ls n1 → Tells apat 0 ts one ls n1
  apat_con : {ts us : List Token} {place : ℕ} {name : List ℕ} {argument : Pat} {ls : List Found} {n1 n2 : List Made} → Tells head 0 ts (name_tree place name) [] n1 → Tells atpat 0 us (pat_tree argument) ls n2 → Tells apat 0 (ts ++ us) (pat_tree (pat_at (span_of place (last_of us)) (p.Con name argument))) ls (n1 ++ (n2 ++ (made (a.Pat (q.Con place)) (last_of us) ∷ [])))
  -- cpat ::= apat | apat :: cpat
  cpat_one : {ts : List Token} {one : Tree} {ls : List Found} {n1 : List Made} → Tells apat 0 ts one ls n1 → Tells cpat 0 ts one ls n1
  cpat_cons : {ts us : List Token} {left right : Pat} {ls ms : List Found} {n1 n2 : List Made} (word : Token) → Tells apat 0 ts (pat_tree left) ls n1 → IsAnyName (codes "::") word → Tells cpat 0 us (pat_tree right) ms n2 → Tells cpat 0 (ts ++ word ∷ us) (pat_tree (cons_pat (extent (ts ++ word ∷ us)) left right)) (ls ++ ms) (n1 ++ (n2 ++ (made (a.Pat (q.Cons (first_of (ts ++ word ∷ us)))) (last_of (ts ++ word ∷ us)) ∷ [])))
  -- pat ::= cpat [: ty]
  pat_one : {ts : List Token} {one : Tree} {ls : List Found} {n1 : List Made} → Tells cpat 0 ts one ls n1 → Tells pat 0 ts one ls n1
  pat_typed : {ts us : List Token} {body : Pat} {type_ : Ty} {ls ms : List Found} {n1 n2 : List Made} (word : Token) → Tells cpat 0 ts (pat_tree body) ls n1 → IsMark (codes ":") word → Tells (ty false) 0 us (ty_tree type_) ms n2 → Tells pat 0 (ts ++ word ∷ us) (pat_tree (pat_at (extent (ts ++ word ∷ us)) (p.Typed body type_))) (ls ++ ms) (n1 ++ (n2 ++ (made (a.Pat (q.Typed (first_of (ts ++ word ∷ us)))) (last_of (ts ++ word ∷ us)) ∷ [])))
  -- conty ::= name | tyvar | ( ty ) | conty name | ( ty , ty .. ) name
  conty_name : {v : Bool} (word : Token) (name : List ℕ) → IsTypeName name word → Tells (conty v) 0 (word ∷ []) (ty_tree (ty_at word.span (t.Con name []))) [] (made (a.Ty y.NoTys) word.span.to ∷ (made (a.Ty (y.Con word.span.from name)) word.span.to ∷ []))
  conty_var : {v : Bool} (word : Token) (name : List ℕ) → IsTyVar name word → Tells (conty v) 0 (word ∷ []) (ty_tree (ty_at word.span (t.Var name))) (variable_lack v word) (var_acts v word name)
  conty_paren : {v : Bool} {ts : List Token} {body : Ty} {ls : List Found} {n1 : List Made} (opening closing : Token) → IsMark (codes "(") opening → Tells (ty v) 0 ts (ty_tree body) ls n1 → IsMark (codes ")") closing → Tells (conty v) 0 (opening ∷ ts ++ closing ∷ []) (ty_tree body) ls n1
  conty_one : {v : Bool} {ts : List Token} {argument : Ty} {ls : List Found} {n1 : List Made} (word : Token) (name : List ℕ) → Tells (conty v) 0 ts (ty_tree argument) ls n1 → IsTypeName name word → Tells (conty v) 0 (ts ++ word ∷ []) (ty_tree (ty_at (extent (ts ++ word ∷ [])) (t.Con name (argument ∷ [])))) ls (n1 ++ (made (a.Ty y.First) word.span.to ∷ (made (a.Ty (y.Con (first_of (ts ++ word ∷ [])) name)) (last_of (ts ++ word ∷ [])) ∷ [])))
  conty_several : {v : Bool} {ts us : List Token} {first next : Ty} {more : List Ty} {ls ms : List Found} {n1 n2 : List Made} (opening comma closing word : Token) (name : List ℕ) → IsMark (codes "(") opening → Tells (ty v) 0 ts (ty_tree first) ls n1 → IsMark (codes ",") comma → Tells (tys v) 0 us (tys_tree (next ∷ more)) ms n2 → IsMark (codes ")") closing → IsTypeName name word → Tells (conty v) 0 (opening ∷ (ts ++ comma ∷ us) ++ closing ∷ word ∷ []) (ty_tree (ty_at (span_of opening.span.from word.span.to) (t.Con name (first ∷ next ∷ more)))) (ls ++ ms) (n1 ++ (made (a.Ty y.First) comma.span.to ∷ (n2 ++ (made (a.Ty (y.Con opening.span.from name)) word.span.to ∷ []))))
  tys_one : {v : Bool} {ts : List Token} {one : Ty} {ls : List Found} {n1 : List Made} → Tells (ty v) 0 ts (ty_tree one) ls n1 → Tells (tys v) 0 ts (tys_tree (one ∷ [])) ls (n1 ++ (made (a.Ty y.Push) (last_of ts) ∷ []))
  tys_more : {v : Bool} {ts us : List Token} {one : Ty} {more : List Ty} {ls ms : List Found} {n1 n2 : List Made} (comma : Token) → Tells (ty v) 0 ts (ty_tree one) ls n1 → IsMark (codes ",") comma → Tells (tys v) 0 us (tys_tree more) ms n2 → Tells (tys v) 0 (ts ++ comma ∷ us) (tys_tree (one ∷ more)) (ls ++ ms) (n1 ++ (made (a.Ty y.Push) (last_of ts) ∷ (n2)))
  -- tupty ::= conty (* conty)*
  stars_one : {v : Bool} {ts : List Token} {one : Ty} {ls : List Found} {n1 : List Made} → Tells (conty v) 0 ts (ty_tree one) ls n1 → Tells (stars v) 0 ts (tys_tree (one ∷ [])) ls (n1 ++ (made (a.Ty y.Push) (last_of ts) ∷ []))
  stars_more : {v : Bool} {ts us : List Token} {one : Ty} {more : List Ty} {ls ms : List Found} {n1 n2 : List Made} (word : Token) → Tells (conty v) 0 ts (ty_tree one) ls n1 → IsAnyName (codes "*") word → Tells (stars v) 0 us (tys_tree more) ms n2 → Tells (stars v) 0 (ts ++ word ∷ us) (tys_tree (one ∷ more)) (ls ++ ms) (n1 ++ (made (a.Ty y.Push) (last_of ts) ∷ (n2)))
  tupty_one : {v : Bool} {ts : List Token} {one : Ty} {ls : List Found} {n1 : List Made} → Tells (conty v) 0 ts (ty_tree one) ls n1 → Tells (tupty v) 0 ts (ty_tree one) ls n1
  tupty_several : {v : Bool} {ts us : List Token} {first next : Ty} {more : List Ty} {ls ms : List Found} {n1 n2 : List Made} (word : Token) → Tells (conty v) 0 ts (ty_tree first) ls n1 → IsAnyName (codes "*") word → Tells (stars v) 0 us (tys_tree (next ∷ more)) ms n2 → Tells (tupty v) 0 (ts ++ word ∷ us) (ty_tree (ty_at (extent (ts ++ word ∷ us)) (t.Tuple (first ∷ next ∷ more)))) (ls ++ ms) (n1 ++ (made (a.Ty y.First) word.span.to ∷ (n2 ++ (made (a.Ty (y.Tuple (first_of (ts ++ word ∷ us)))) (last_of (ts ++ word ∷ us)) ∷ []))))
  -- ty ::= tupty | tupty -> ty
  ty_one : {v : Bool} {ts : List Token} {one : Tree} {ls : List Found} {n1 : List Made} → Tells (tupty v) 0 ts one ls n1 → Tells (ty v) 0 ts one ls n1
  ty_arrow : {v : Bool} {ts us : List Token} {left right : Ty} {ls ms : List Found} {n1 n2 : List Made} (word : Token) → Tells (tupty v) 0 ts (ty_tree left) ls n1 → IsMark (codes "->") word → Tells (ty v) 0 us (ty_tree right) ms n2 → Tells (ty v) 0 (ts ++ word ∷ us) (ty_tree (ty_at (extent (ts ++ word ∷ us)) (t.Arrow left right))) (ls ++ ms) (n1 ++ (n2 ++ (made (a.Ty (y.Arrow (first_of (ts ++ word ∷ us)))) (last_of (ts ++ word ∷ us)) ∷ [])))
  -- [tyvars]        tyvars ::= tyvar | ( tyvar , tyvar .. )
  vars_none : Tells ty_vars 0 [] (vars_tree []) [] []
  vars_one : (word : Token) (name : List ℕ) → IsTyVar name word → Tells ty_vars 0 (word ∷ []) (vars_tree (name ∷ [])) [] (made (a.Dec (b.AddVar name)) word.span.to ∷ [])
  vars_several : {ts : List Token} {first next : List ℕ} {more : List (List ℕ)} {n1 : List Made} (opening closing : Token) → IsMark (codes "(") opening → Tells more_vars 0 ts (vars_tree (first ∷ next ∷ more)) [] n1 → IsMark (codes ")") closing → Tells ty_vars 0 (opening ∷ ts ++ closing ∷ []) (vars_tree (first ∷ next ∷ more)) [] n1
  more_vars_one : (word : Token) (name : List ℕ) → IsTyVar name word → Tells more_vars 0 (word ∷ []) (vars_tree (name ∷ [])) [] (made (a.Dec (b.AddVar name)) word.span.to ∷ [])
  more_vars_more : {ts : List Token} {more : List (List ℕ)} {n1 : List Made} (word comma : Token) (name : List ℕ) → IsTyVar name word → IsMark (codes ",") comma → Tells more_vars 0 ts (vars_tree more) [] n1 → Tells more_vars 0 (word ∷ comma ∷ ts) (vars_tree (name ∷ more)) [] (made (a.Dec (b.AddVar name)) word.span.to ∷ (n1))
  -- dec ::= val bind (and bind)* | val rec rbind (and rbind)* | fun fbind (and fbind)* | type .. | datatype .. | exception ..
  --       | local dec* in dec* end
  dec_val : {i : Bool} {ts : List Token} {all : List (Pat × Exp)} {ls : List Found} {n1 : List Made} (word : Token) → IsMark (codes "val") word → Tells binds 0 ts (binds_tree all) ls n1 → Tells (dec i) 0 (word ∷ ts) (dec_tree (dec_at (extent (word ∷ ts)) (d.Val all))) ls (made (a.Dec b.NoBinds) (first_to ts) ∷ (n1 ++ (made (a.Dec (b.Val word.span.from)) (last_of (word ∷ ts)) ∷ [])))
  dec_rec : {i : Bool} {ts : List Token} {all : List (List ℕ × List Rule)} {ls : List Found} {n1 : List Made} (word rec_ : Token) → IsMark (codes "val") word → IsMark (codes "rec") rec_ → Tells recs 0 ts (recs_tree all) ls n1 → Tells (dec i) 0 (word ∷ rec_ ∷ ts) (dec_tree (dec_at (extent (word ∷ rec_ ∷ ts)) (d.ValRec all))) ls (made (a.Dec b.NoRecs) rec_.span.to ∷ (n1 ++ (made (a.Dec (b.ValRec word.span.from)) (last_of (word ∷ rec_ ∷ ts)) ∷ [])))
  dec_fun : {i : Bool} {ts : List Token} {all : List (List ℕ × List Rule)} {ls : List Found} {n1 : List Made} (word : Token) → IsMark (codes "fun") word → Tells funs 0 ts (recs_tree all) ls n1 → Tells (dec i) 0 (word ∷ ts) (dec_tree (dec_at (extent (word ∷ ts)) (d.ValRec all))) ls (made (a.Dec b.NoRecs) word.span.to ∷ (n1 ++ (made (a.Dec (b.ValRec word.span.from)) (last_of (word ∷ ts)) ∷ [])))
  dec_type : {i : Bool} {ts : List Token} {all : List (List (List ℕ) × List ℕ × Ty)} {ls : List Found} {n1 : List Made} (word : Token) → IsMark (codes "type") word → Tells abbrevs 0 ts (abbrevs_tree all) ls n1 → Tells (dec i) 0 (word ∷ ts) (dec_tree (dec_at (extent (word ∷ ts)) (d.Abbrev all))) (local_lack i word ++ ls) (local_acts i word ++ (made (a.Dec b.NoAbbrevs) word.span.to ∷ (n1 ++ (made (a.Dec (b.Abbrev word.span.from)) (last_of (word ∷ ts)) ∷ []))))
  dec_datatype : {i : Bool} {ts : List Token} {all : List (List (List ℕ) × List ℕ × List (List ℕ × Option Ty))} {ls : List Found} {n1 : List Made} (word : Token) → IsMark (codes "datatype") word → Tells datas 0 ts (datas_tree all) ls n1 → Tells (dec i) 0 (word ∷ ts) (dec_tree (dec_at (extent (word ∷ ts)) (d.DataDef all))) (local_lack i word ++ ls ++ nested_in_bindings (length ts) all all) (local_acts i word ++ (made (a.Dec b.NoDatas) word.span.to ∷ (n1 ++ (made (a.Dec (b.DataDef word.span.from)) (last_of (word ∷ ts)) ∷ []))))
  dec_exception : {i : Bool} {ts : List Token} {all : List (List ℕ × Option Ty)} {ls : List Found} {n1 : List Made} (word : Token) → IsMark (codes "exception") word → Tells exns 0 ts (cons_tree all) ls n1 → Tells (dec i) 0 (word ∷ ts) (dec_tree (dec_at (extent (word ∷ ts)) (d.ExnDef all))) (local_lack i word ++ ls) (local_acts i word ++ (made (a.Dec b.NoCons) word.span.to ∷ (n1 ++ (made (a.Dec (b.ExnDef word.span.from)) (last_of (word ∷ ts)) ∷ []))))
  dec_local : {i : Bool} {ts us : List Token} {first second : List Dec} {ls ms : List Found} {n1 n2 : List Made} (local_ in_ end_ : Token) → IsMark (codes "local") local_ → Tells decs 0 ts (decs_tree first) ls n1 → IsMark (codes "in") in_ → Tells decs 0 us (decs_tree second) ms n2 → IsMark (codes "end") end_ → Tells (dec i) 0 (local_ ∷ ts ++ in_ ∷ us ++ end_ ∷ []) (dec_tree (dec_at (span_of local_.span.from end_.span.to) (d.Local first second))) (ls ++ ms) (made (a.Dec b.NoDecs) local_.span.to ∷ (n1 ++ (made (a.Dec b.NoDecs) in_.span.to ∷ (n2 ++ (made (a.Dec (b.Local local_.span.from)) end_.span.to ∷ [])))))
  -- datatype name = datatype name': `Replication`
  dec_replication : {i : Bool} (word short_ equals again long_ : Token) (name other : List ℕ) → IsMark (codes "datatype") word → IsName name short_ → IsMark (codes "=") equals → IsMark (codes "datatype") again → IsTypeName other long_ → Tells (dec i) 0 (word ∷ short_ ∷ equals ∷ again ∷ long_ ∷ []) (dec_tree (dec_at (span_of word.span.from long_.span.to) (d.DataDef (([], name, []) ∷ [])))) (local_lack i word ++ (again.span.from, l.Replication) ∷ []) (local_acts i word ++ (made (a.Dec b.NoDatas) word.span.to ∷ (made (a.Dec b.NoVars) short_.span.to ∷ (made (a.Dec (b.Head name)) short_.span.to ∷ (made (a.Lack again.span.from l.Replication) again.span.to ∷ (made (a.Dec b.NoCons) again.span.to ∷ (made (a.Dec b.AddData) long_.span.to ∷ (made (a.Dec (b.DataDef word.span.from)) long_.span.to ∷ []))))))))
  -- dec* in `let` and `local`: each may be followed by one semicolon
  decs_none : Tells decs 0 [] (decs_tree []) [] []
  decs_more : {ts us : List Token} {one : Dec} {more : List Dec} {ls ms : List Found} {n1 n2 : List Made} → Tells (dec true) 0 ts (dec_tree one) ls n1 → Tells decs 0 us (decs_tree more) ms n2 → Tells decs 0 (ts ++ us) (decs_tree (one ∷ more)) (ls ++ ms) (n1 ++ (made (a.Dec b.AddDec) (last_of ts) ∷ (n2)))
  decs_parted : {ts us : List Token} {one : Dec} {more : List Dec} {ls ms : List Found} {n1 n2 : List Made} (word : Token) → Tells (dec true) 0 ts (dec_tree one) ls n1 → IsMark (codes ";") word → Tells decs 0 us (decs_tree more) ms n2 → Tells decs 0 (ts ++ word ∷ us) (decs_tree (one ∷ more)) (ls ++ ms) (n1 ++ (made (a.Dec b.AddDec) (last_of ts) ∷ (n2)))
  -- bind ::= pat = exp
  binds_one : {o : Bool} {ts us : List Token} {left : Pat} {body : Exp} {ls ms : List Found} {n1 n2 : List Made} (equals : Token) → Tells pat 0 ts (pat_tree left) ls n1 → IsMark (codes "=") equals → Tells (expr o) 0 us (exp_tree body) ms n2 → Tells binds 0 (ts ++ equals ∷ us) (binds_tree ((left, body) ∷ [])) (ls ++ ms) (n1 ++ (n2 ++ (made (a.Dec b.AddBind) (last_of (ts ++ equals ∷ us)) ∷ [])))
  binds_more : {o : Bool} {ts us ws : List Token} {left : Pat} {body : Exp} {more : List (Pat × Exp)} {ls ms ns : List Found} {n1 n2 n3 : List Made} (equals and_ : Token) → Tells pat 0 ts (pat_tree left) ls n1 → IsMark (codes "=") equals → Tells (expr o) 0 us (exp_tree body) ms n2 → IsMark (codes "and") and_ → Tells binds 0 ws (binds_tree more) ns n3 → Tells binds 0 (ts ++ equals ∷ us ++ and_ ∷ ws) (binds_tree ((left, body) ∷ more)) (ls ++ ms ++ ns) (n1 ++ (n2 ++ (made (a.Dec b.AddBind) (last_of us) ∷ (n3))))
  -- rbind ::= name = fn match
  recs_one : {ts : List Token} {rules : List Rule} {ls : List Found} {n1 : List Made} (word equals fn_ : Token) (name : List ℕ) → IsName name word → IsMark (codes "=") equals → IsMark (codes "fn") fn_ → Tells match_of 0 ts (rules_tree rules) ls n1 → Tells recs 0 (word ∷ equals ∷ fn_ ∷ ts) (recs_tree ((name, rules) ∷ [])) ls (made (a.Exp x.NoRules) fn_.span.to ∷ (n1 ++ (made (a.Dec (b.AddRec name)) (last_of ts) ∷ [])))
  recs_more : {ts us : List Token} {rules : List Rule} {more : List (List ℕ × List Rule)} {ls ms : List Found} {n1 n2 : List Made} (word equals fn_ and_ : Token) (name : List ℕ) → IsName name word → IsMark (codes "=") equals → IsMark (codes "fn") fn_ → Tells match_of 0 ts (rules_tree rules) ls n1 → IsMark (codes "and") and_ → Tells recs 0 us (recs_tree more) ms n2 → Tells recs 0 (word ∷ equals ∷ fn_ ∷ ts ++ and_ ∷ us) (recs_tree ((name, rules) ∷ more)) (ls ++ ms) (made (a.Exp x.NoRules) fn_.span.to ∷ (n1 ++ (made (a.Dec (b.AddRec name)) (last_of ts) ∷ (n2))))
  -- fbind ::= clause (| clause)*, of one name and one number of patterns
  funs_one : {name : List ℕ} {count : ℕ} {ts : List Token} {rules : List Rule} {ls : List Found} {n1 : List Made} → Tells (clauses name count) 0 ts (rules_tree rules) ls n1 → Tells funs 0 ts (recs_tree ((name, function_rules (extent ts) count rules) ∷ [])) ls (made (a.Exp x.NoRules) (first_to ts) ∷ (n1 ++ (end_acts (first_of ts) name count (last_of ts))))
  funs_more : {name : List ℕ} {count : ℕ} {ts us : List Token} {rules : List Rule} {more : List (List ℕ × List Rule)} {ls ms : List Found} {n1 n2 : List Made} (and_ : Token) → Tells (clauses name count) 0 ts (rules_tree rules) ls n1 → IsMark (codes "and") and_ → Tells funs 0 us (recs_tree more) ms n2 → Tells funs 0 (ts ++ and_ ∷ us) (recs_tree ((name, function_rules (extent ts) count rules) ∷ more)) (ls ++ ms) (made (a.Exp x.NoRules) (first_to ts) ∷ (n1 ++ (end_acts (first_of ts) name count (last_of ts) ++ (n2))))
  clauses_last : {name : List ℕ} {count : ℕ} {o : Bool} {ts : List Token} {one : Rule} {ls : List Found} {n1 : List Made} → Tells (clause name count o) 0 ts (rule_tree one) ls n1 → Tells (clauses name count) 0 ts (rules_tree (one ∷ [])) ls n1
  clauses_more : {name : List ℕ} {count : ℕ} {ts us : List Token} {one : Rule} {more : List Rule} {ls ms : List Found} {n1 n2 : List Made} (bar : Token) → Tells (clause name count false) 0 ts (rule_tree one) ls n1 → IsMark (codes "|") bar → Tells (clauses name count) 0 us (rules_tree more) ms n2 → Tells (clauses name count) 0 (ts ++ bar ∷ us) (rules_tree (one ∷ more)) (ls ++ ms) (n1 ++ (n2))
  -- clause ::= ([op] name | long name) atpat+ [: ty] = exp
  clause_plain : {name : List ℕ} {count place : ℕ} {o : Bool} {ts us ws : List Token} {first : Pat} {more : List Pat} {body : Exp} {ls ms : List Found} {n1 n2 n3 : List Made} (equals : Token) → Tells head 0 ts (name_tree place name) [] n1 → Tells (atpats (suc count)) 0 us (pats_tree (first ∷ more)) ls n2 → IsMark (codes "=") equals → Tells (expr o) 0 ws (exp_tree body) ms n3 → Tells (clause name (suc count) o) 0 (ts ++ us ++ equals ∷ ws) (rule_tree (rule_of (clause_pat (extent (ts ++ us ++ equals ∷ ws)) first more) body)) (ls ++ ms) (made (a.Pat q.NoPats) (first_to ts) ∷ (n2 ++ (tupled_acts (suc count) equals.span.to ++ (n3 ++ (made (a.Dec (b.AddClause (first_of (ts ++ us ++ equals ∷ ws)))) (last_of (ts ++ us ++ equals ∷ ws)) ∷ [])))))
  clause_typed : {name : List ℕ} {count place : ℕ} {o : Bool} {ts us vs ws : List Token} {first : Pat} {more : List Pat} {type_ : Ty} {body : Exp} {ls ms ns : List Found} {n1 n2 n3 n4 : List Made} (colon equals : Token) → Tells head 0 ts (name_tree place name) [] n1 → Tells (atpats (suc count)) 0 us (pats_tree (first ∷ more)) ls n2 → IsMark (codes ":") colon → Tells (ty false) 0 vs (ty_tree type_) ms n3 → IsMark (codes "=") equals → Tells (expr o) 0 ws (exp_tree body) ns n4 → Tells (clause name (suc count) o) 0 (ts ++ us ++ colon ∷ vs ++ equals ∷ ws) (rule_tree (rule_of (clause_pat (extent (ts ++ us ++ colon ∷ vs ++ equals ∷ ws)) first more) (exp_at (extent (ts ++ us ++ colon ∷ vs ++ equals ∷ ws)) (e.Typed body type_)))) (ls ++ ms ++ ns) (made (a.Pat q.NoPats) (first_to ts) ∷ (n2 ++ (tupled_acts (suc count) colon.span.to ++ (n3 ++ (n4 ++ (made (a.Dec (b.Constrain (first_of (ts ++ us ++ colon ∷ vs ++ equals ∷ ws)))) (last_of (ts ++ us ++ colon ∷ vs ++ equals ∷ ws)) ∷ (made (a.Dec (b.AddClause (first_of (ts ++ us ++ colon ∷ vs ++ equals ∷ ws)))) (last_of (ts ++ us ++ colon ∷ vs ++ equals ∷ ws)) ∷ [])))))))
  -- atpat name atpat [: ty] = exp, with an infix name: `InfixClause`; it counts as one pattern
  clause_infix_name : {name : List ℕ} {level : ℕ} {o : Bool} {ts us ws : List Token} {right : Pat} {body : Exp} {ms ns : List Found} {place : ℕ} {head_name : List ℕ} {n1 n2 : List Made} (word equals : Token) → Is head ts (name_tree place head_name) [] → IsInfixName level name word → Tells atpat 0 us (pat_tree right) ms n1 → IsMark (codes "=") equals → Tells (expr o) 0 ws (exp_tree body) ns n2 → Tells (clause name 1 o) 0 (ts ++ word ∷ us ++ equals ∷ ws) (rule_tree (rule_of (pat_at (extent (ts ++ word ∷ us)) (p.Tuple (pat_at (span_of place (last_of ts)) (p.Name head_name) ∷ right ∷ []))) body)) ((word.span.from, l.InfixClause) ∷ ms ++ ns) (made (a.Pat q.NoPats) (first_to ts) ∷ (made (a.Pat (q.Name place head_name)) word.span.to ∷ (made (a.Lack word.span.from l.InfixClause) word.span.to ∷ (n1 ++ (made (a.Pat (q.Pair (first_of ts))) (last_of us) ∷ (made (a.Pat q.Push) (last_of us) ∷ (n2 ++ (made (a.Dec (b.AddClause (first_of (ts ++ word ∷ us ++ equals ∷ ws)))) (last_of (ts ++ word ∷ us ++ equals ∷ ws)) ∷ []))))))))
  clause_infix : {name : List ℕ} {level : ℕ} {o : Bool} {ts us ws : List Token} {left right : Pat} {body : Exp} {ls ms ns : List Found} {n1 n2 n3 : List Made} (word equals : Token) → Tells atpat 0 ts (pat_tree left) ls n1 → NotHead ts → IsInfixName level name word → Tells atpat 0 us (pat_tree right) ms n2 → IsMark (codes "=") equals → Tells (expr o) 0 ws (exp_tree body) ns n3 → Tells (clause name 1 o) 0 (ts ++ word ∷ us ++ equals ∷ ws) (rule_tree (rule_of (pat_at (extent (ts ++ word ∷ us)) (p.Tuple (left ∷ right ∷ []))) body)) (ls ++ (word.span.from, l.InfixClause) ∷ ms ++ ns) (made (a.Pat q.NoPats) (first_to ts) ∷ (n1 ++ (made (a.Lack word.span.from l.InfixClause) word.span.to ∷ (n2 ++ (made (a.Pat (q.Pair (first_of ts))) (last_of us) ∷ (made (a.Pat q.Push) (last_of us) ∷ (n3 ++ (made (a.Dec (b.AddClause (first_of (ts ++ word ∷ us ++ equals ∷ ws)))) (last_of (ts ++ word ∷ us ++ equals ∷ ws)) ∷ []))))))))
  clause_infix_typed_name : {name : List ℕ} {level : ℕ} {o : Bool} {ts us vs ws : List Token} {right : Pat} {type_ : Ty} {body : Exp} {ms ns ks : List Found} {place : ℕ} {head_name : List ℕ} {n1 n2 n3 : List Made} (word colon equals : Token) → Is head ts (name_tree place head_name) [] → IsInfixName level name word → Tells atpat 0 us (pat_tree right) ms n1 → IsMark (codes ":") colon → Tells (ty false) 0 vs (ty_tree type_) ns n2 → IsMark (codes "=") equals → Tells (expr o) 0 ws (exp_tree body) ks n3 → Tells (clause name 1 o) 0 (ts ++ word ∷ us ++ colon ∷ vs ++ equals ∷ ws) (rule_tree (rule_of (pat_at (extent (ts ++ word ∷ us)) (p.Tuple (pat_at (span_of place (last_of ts)) (p.Name head_name) ∷ right ∷ []))) (exp_at (extent (ts ++ word ∷ us ++ colon ∷ vs ++ equals ∷ ws)) (e.Typed body type_)))) ((word.span.from, l.InfixClause) ∷ ms ++ ns ++ ks) (made (a.Pat q.NoPats) (first_to ts) ∷ (made (a.Pat (q.Name place head_name)) word.span.to ∷ (made (a.Lack word.span.from l.InfixClause) word.span.to ∷ (n1 ++ (made (a.Pat (q.Pair (first_of ts))) (last_of us) ∷ (made (a.Pat q.Push) (last_of us) ∷ (n2 ++ (n3 ++ (made (a.Dec (b.Constrain (first_of (ts ++ word ∷ us ++ colon ∷ vs ++ equals ∷ ws)))) (last_of (ts ++ word ∷ us ++ colon ∷ vs ++ equals ∷ ws)) ∷ (made (a.Dec (b.AddClause (first_of (ts ++ word ∷ us ++ colon ∷ vs ++ equals ∷ ws)))) (last_of (ts ++ word ∷ us ++ colon ∷ vs ++ equals ∷ ws)) ∷ []))))))))))
  clause_infix_typed : {name : List ℕ} {level : ℕ} {o : Bool} {ts us vs ws : List Token} {left right : Pat} {type_ : Ty} {body : Exp} {ls ms ns ks : List Found} {n1 n2 n3 n4 : List Made} (word colon equals : Token) → Tells atpat 0 ts (pat_tree left) ls n1 → NotHead ts → IsInfixName level name word → Tells atpat 0 us (pat_tree right) ms n2 → IsMark (codes ":") colon → Tells (ty false) 0 vs (ty_tree type_) ns n3 → IsMark (codes "=") equals → Tells (expr o) 0 ws (exp_tree body) ks n4 → Tells (clause name 1 o) 0 (ts ++ word ∷ us ++ colon ∷ vs ++ equals ∷ ws) (rule_tree (rule_of (pat_at (extent (ts ++ word ∷ us)) (p.Tuple (left ∷ right ∷ []))) (exp_at (extent (ts ++ word ∷ us ++ colon ∷ vs ++ equals ∷ ws)) (e.Typed body type_)))) (ls ++ (word.span.from, l.InfixClause) ∷ ms ++ ns ++ ks) (made (a.Pat q.NoPats) (first_to ts) ∷ (n1 ++ (made (a.Lack word.span.from l.InfixClause) word.span.to ∷ (n2 ++ (made (a.Pat (q.Pair (first_of ts))) (last_of us) ∷ (made (a.Pat q.Push) (last_of us) ∷ (n3 ++ (n4 ++ (made (a.Dec (b.Constrain (first_of (ts ++ word ∷ us ++ colon ∷ vs ++ equals ∷ ws)))) (last_of (ts ++ word ∷ us ++ colon ∷ vs ++ equals ∷ ws)) ∷ (made (a.Dec (b.AddClause (first_of (ts ++ word ∷ us ++ colon ∷ vs ++ equals ∷ ws)))) (last_of (ts ++ word ∷ us ++ colon ∷ vs ++ equals ∷ ws)) ∷ []))))))))))
  -- type [tyvars] name = ty
  abbrevs_one : {ts us : List Token} {names : List (List ℕ)} {type_ : Ty} {ls : List Found} {n1 n2 : List Made} (word equals : Token) (name : List ℕ) → Tells ty_vars 0 ts (vars_tree names) [] n1 → IsName name word → IsMark (codes "=") equals → Tells (ty true) 0 us (ty_tree type_) ls n2 → Tells abbrevs 0 (ts ++ word ∷ equals ∷ us) (abbrevs_tree ((names, name, type_) ∷ [])) ls (made (a.Dec b.NoVars) (first_to (ts ++ word ∷ [])) ∷ (n1 ++ (made (a.Dec (b.Head name)) word.span.to ∷ (n2 ++ (made (a.Dec b.AddAbbrev) (last_of us) ∷ [])))))
  abbrevs_more : {ts us ws : List Token} {names : List (List ℕ)} {type_ : Ty} {more : List (List (List ℕ) × List ℕ × Ty)} {ls ms : List Found} {n1 n2 n3 : List Made} (word equals and_ : Token) (name : List ℕ) → Tells ty_vars 0 ts (vars_tree names) [] n1 → IsName name word → IsMark (codes "=") equals → Tells (ty true) 0 us (ty_tree type_) ls n2 → IsMark (codes "and") and_ → Tells abbrevs 0 ws (abbrevs_tree more) ms n3 → Tells abbrevs 0 (ts ++ word ∷ equals ∷ us ++ and_ ∷ ws) (abbrevs_tree ((names, name, type_) ∷ more)) (ls ++ ms) (made (a.Dec b.NoVars) (first_to (ts ++ word ∷ [])) ∷ (n1 ++ (made (a.Dec (b.Head name)) word.span.to ∷ (n2 ++ (made (a.Dec b.AddAbbrev) (last_of us) ∷ (n3))))))
  -- dbind ::= [tyvars] name = name [of ty] (| name [of ty])*
  datas_one : {ts us : List Token} {names : List (List ℕ)} {all : List (List ℕ × Option Ty)} {ls : List Found} {n1 n2 : List Made} (word equals : Token) (name : List ℕ) → Tells ty_vars 0 ts (vars_tree names) [] n1 → IsName name word → IsMark (codes "=") equals → Tells cons 0 us (cons_tree all) ls n2 → Tells datas 0 (ts ++ word ∷ equals ∷ us) (datas_tree ((names, name, all) ∷ [])) ls (made (a.Dec b.NoVars) (first_to (ts ++ word ∷ [])) ∷ (n1 ++ (made (a.Dec (b.Head name)) word.span.to ∷ (made (a.Dec b.NoCons) (first_to us) ∷ (n2 ++ (made (a.Dec b.AddData) (last_of us) ∷ []))))))
  datas_more : {ts us ws : List Token} {names : List (List ℕ)} {all : List (List ℕ × Option Ty)} {more : List (List (List ℕ) × List ℕ × List (List ℕ × Option Ty))} {ls ms : List Found} {n1 n2 n3 : List Made} (word equals and_ : Token) (name : List ℕ) → Tells ty_vars 0 ts (vars_tree names) [] n1 → IsName name word → IsMark (codes "=") equals → Tells cons 0 us (cons_tree all) ls n2 → IsMark (codes "and") and_ → Tells datas 0 ws (datas_tree more) ms n3 → Tells datas 0 (ts ++ word ∷ equals ∷ us ++ and_ ∷ ws) (datas_tree ((names, name, all) ∷ more)) (ls ++ ms) (made (a.Dec b.NoVars) (first_to (ts ++ word ∷ [])) ∷ (n1 ++ (made (a.Dec (b.Head name)) word.span.to ∷ (made (a.Dec b.NoCons) (first_to us) ∷ (n2 ++ (made (a.Dec b.AddData) (last_of us) ∷ (n3)))))))
  cons_one : (word : Token) (name : List ℕ) → IsName name word → Tells cons 0 (word ∷ []) (cons_tree ((name, None) ∷ [])) [] (made (a.Dec (b.Con name)) word.span.to ∷ (made (a.Dec b.AddCon) word.span.to ∷ []))
  cons_of : {ts : List Token} {type_ : Ty} {ls : List Found} {n1 : List Made} (word of_ : Token) (name : List ℕ) → IsName name word → IsMark (codes "of") of_ → Tells (ty true) 0 ts (ty_tree type_) ls n1 → Tells cons 0 (word ∷ of_ ∷ ts) (cons_tree ((name, Some type_) ∷ [])) ls (made (a.Dec (b.Con name)) word.span.to ∷ (n1 ++ (made (a.Dec b.ConOf) (last_of ts) ∷ (made (a.Dec b.AddCon) (last_of ts) ∷ []))))
  cons_more : {us : List Token} {more : List (List ℕ × Option Ty)} {ms : List Found} {n1 : List Made} (word bar : Token) (name : List ℕ) → IsName name word → IsMark (codes "|") bar → Tells cons 0 us (cons_tree more) ms n1 → Tells cons 0 (word ∷ bar ∷ us) (cons_tree ((name, None) ∷ more)) ms (made (a.Dec (b.Con name)) word.span.to ∷ (made (a.Dec b.AddCon) word.span.to ∷ (n1)))
  cons_of_more : {ts us : List Token} {type_ : Ty} {more : List (List ℕ × Option Ty)} {ls ms : List Found} {n1 n2 : List Made} (word of_ bar : Token) (name : List ℕ) → IsName name word → IsMark (codes "of") of_ → Tells (ty true) 0 ts (ty_tree type_) ls n1 → IsMark (codes "|") bar → Tells cons 0 us (cons_tree more) ms n2 → Tells cons 0 (word ∷ of_ ∷ ts ++ bar ∷ us) (cons_tree ((name, Some type_) ∷ more)) (ls ++ ms) (made (a.Dec (b.Con name)) word.span.to ∷ (n1 ++ (made (a.Dec b.ConOf) (last_of ts) ∷ (made (a.Dec b.AddCon) (last_of ts) ∷ (n2)))))
  -- exception name [of ty] (and ..), and exception name = name': `Replication`
  exns_one : (word : Token) (name : List ℕ) → IsName name word → Tells exns 0 (word ∷ []) (cons_tree ((name, None) ∷ [])) [] (made (a.Dec (b.Con name)) word.span.to ∷ (made (a.Dec b.AddCon) word.span.to ∷ []))
  exns_of : {ts : List Token} {type_ : Ty} {ls : List Found} {n1 : List Made} (word of_ : Token) (name : List ℕ) → IsName name word → IsMark (codes "of") of_ → Tells (ty false) 0 ts (ty_tree type_) ls n1 → Tells exns 0 (word ∷ of_ ∷ ts) (cons_tree ((name, Some type_) ∷ [])) ls (made (a.Dec (b.Con name)) word.span.to ∷ (n1 ++ (made (a.Dec b.ConOf) (last_of ts) ∷ (made (a.Dec b.AddCon) (last_of ts) ∷ []))))
  exns_same : (word equals long_ : Token) (name other : List ℕ) → IsName name word → IsMark (codes "=") equals → IsTypeName other long_ → Tells exns 0 (word ∷ equals ∷ long_ ∷ []) (cons_tree ((name, None) ∷ [])) ((word.span.from, l.Replication) ∷ []) (made (a.Dec (b.Con name)) word.span.to ∷ (made (a.Lack word.span.from l.Replication) equals.span.to ∷ (made (a.Dec b.AddCon) long_.span.to ∷ [])))
  exns_more : {us : List Token} {more : List (List ℕ × Option Ty)} {ms : List Found} {n1 : List Made} (word and_ : Token) (name : List ℕ) → IsName name word → IsMark (codes "and") and_ → Tells exns 0 us (cons_tree more) ms n1 → Tells exns 0 (word ∷ and_ ∷ us) (cons_tree ((name, None) ∷ more)) ms (made (a.Dec (b.Con name)) word.span.to ∷ (made (a.Dec b.AddCon) word.span.to ∷ (n1)))
  exns_of_more : {ts us : List Token} {type_ : Ty} {more : List (List ℕ × Option Ty)} {ls ms : List Found} {n1 n2 : List Made} (word of_ and_ : Token) (name : List ℕ) → IsName name word → IsMark (codes "of") of_ → Tells (ty false) 0 ts (ty_tree type_) ls n1 → IsMark (codes "and") and_ → Tells exns 0 us (cons_tree more) ms n2 → Tells exns 0 (word ∷ of_ ∷ ts ++ and_ ∷ us) (cons_tree ((name, Some type_) ∷ more)) (ls ++ ms) (made (a.Dec (b.Con name)) word.span.to ∷ (n1 ++ (made (a.Dec b.ConOf) (last_of ts) ∷ (made (a.Dec b.AddCon) (last_of ts) ∷ (n2)))))
  exns_same_more : {us : List Token} {more : List (List ℕ × Option Ty)} {ms : List Found} {n1 : List Made} (word equals long_ and_ : Token) (name other : List ℕ) → IsName name word → IsMark (codes "=") equals → IsTypeName other long_ → IsMark (codes "and") and_ → Tells exns 0 us (cons_tree more) ms n1 → Tells exns 0 (word ∷ equals ∷ long_ ∷ and_ ∷ us) (cons_tree ((name, None) ∷ more)) ((word.span.from, l.Replication) ∷ ms) (made (a.Dec (b.Con name)) word.span.to ∷ (made (a.Lack word.span.from l.Replication) equals.span.to ∷ (made (a.Dec b.AddCon) long_.span.to ∷ (n1))))
  -- program ::= item*          item ::= dec [;] | exp (; or the end)
  items_none : Tells items 0 [] (decs_tree []) [] []
  items_dec : {ts us : List Token} {one : Dec} {more : List Dec} {ls ms : List Found} {n1 n2 : List Made} → Tells (dec false) 0 ts (dec_tree one) ls n1 → Tells items_after 0 us (decs_tree more) ms n2 → Tells items 0 (ts ++ us) (decs_tree (one ∷ more)) (ls ++ ms) (n1 ++ (made (a.Dec (b.Item (first_of ts))) (last_of ts) ∷ (n2)))
  items_exp : {o : Bool} {ts : List Token} {body : Exp} {ls : List Found} {n1 : List Made} → Tells (expr o) 0 ts (exp_tree body) ls n1 → Tells items 0 ts (decs_tree (it_dec (extent ts) body ∷ [])) ls (n1 ++ (made (a.Dec (b.It (first_of ts))) (last_of ts) ∷ (made (a.Dec (b.Item (first_of ts))) (last_of ts) ∷ [])))
  items_exp_more : {o : Bool} {ts us : List Token} {body : Exp} {more : List Dec} {ls ms : List Found} {n1 n2 : List Made} (word : Token) → Tells (expr o) 0 ts (exp_tree body) ls n1 → IsMark (codes ";") word → Tells items 0 us (decs_tree more) ms n2 → Tells items 0 (ts ++ word ∷ us) (decs_tree (it_dec (extent ts) body ∷ more)) (ls ++ ms) (n1 ++ (made (a.Dec (b.It (first_of ts))) (last_of ts) ∷ (made (a.Dec (b.Item (first_of ts))) (last_of ts) ∷ (n2))))
  items_after_none : Tells items_after 0 [] (decs_tree []) [] []
  items_after_dec : {ts us : List Token} {one : Dec} {more : List Dec} {ls ms : List Found} {n1 n2 : List Made} → Tells (dec false) 0 ts (dec_tree one) ls n1 → Tells items_after 0 us (decs_tree more) ms n2 → Tells items_after 0 (ts ++ us) (decs_tree (one ∷ more)) (ls ++ ms) (n1 ++ (made (a.Dec (b.Item (first_of ts))) (last_of ts) ∷ (n2)))
  items_after_semicolon : {us : List Token} {more : List Dec} {ms : List Found} {n1 : List Made} (word : Token) → IsMark (codes ";") word → Tells items 0 us (decs_tree more) ms n1 → Tells items_after 0 (word ∷ us) (decs_tree more) ms n1
