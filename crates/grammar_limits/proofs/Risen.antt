-- The heights of what acts make are those of the tree of their derivation.
use Rattle.std.proofs.Common.{ℕ, List, [], ◌∷◌, ◌++◌, true, false, Some, None, codes, refl}
use Rattle.sml_syntax.specs.declared.token.Token.{Token}
use Rattle.sml_syntax.specs.NestedTypes.{Found}
use Rattle.grammar_rules.specs.Nodes.{span_of, extent, last_of, first_of, exp_at, pat_at, function_rules, clause_pat}
use Rattle.sml_syntax.specs.declared.tree.PatForm.TheVariants as pf
use Rattle.sml_syntax.specs.declared.tree.ExpForm.TheVariants as ef
use Rattle.grammar_rules.specs.Programs.{TyFits, PatFits, ExpFits, DecFits, RuleFits}
use Rattle.grammar_rules.specs.Grammar as g
use Rattle.sml_grammar.specs.declared.act.Made.{Made}
use Rattle.parse_limits.specs.Heights.{growth_of, exp_growth, pat_growth, ty_growth, dec_growth, grown, too_high}
use Rattle.grammar_trees.specs.Tells as t
use Rattle.grammar_trees.specs.Tells.{Tells, first_to}
use Rattle.grammar_limits.specs.Grows.{Rises, BindFits, RecFits, AbbrevFits, ConFits, DataFits}
use Rattle.grammar_limits.proofs.Fits.{own, other, none, one, two, three, gathered, end, g-then, g-act, recast, join, last-of, more-of, only, paired, no-more}
use Rattle.grammar_limits.proofs.Nodes as nodes
use Rattle.grammar_limits.proofs.Parts as r
use Rattle.grammar_limits.proofs.Functions.{g-local, g-tupled, g-function, counted}

-- the heights of each phrase but items
abbrev pub Rising : g.Phrase → g.Tree → List Made → Type 0
Rising g.items tree new = Unit {0}
Rising g.items_after tree new = Unit {0}
Rising c tree new = Rises tree new

pub rises : {c : g.Phrase} {next : ℕ} {ts : List Token} {tree : g.Tree} {ls : List Found} {new : List Made} → Tells c next ts tree ls new → Rising c tree new
unfolding growth_of exp_growth pat_growth ty_growth dec_growth grown too_high
rises (t.atx_int word number h) = λ hs. g-act refl refl (end (nodes.exp-leaf _ (nodes.exp-int number) (λ n. tt)))
rises (t.atx_char word byte h) = λ hs. g-act refl refl (end (nodes.exp-leaf _ (nodes.exp-char byte) (λ n. tt)))
rises (t.atx_str word text h) = λ hs. g-act refl refl (end (nodes.exp-leaf _ (nodes.exp-str text) (λ n. tt)))
rises (t.atx_name word name h) = λ hs. g-act refl refl (end (nodes.exp-leaf _ (nodes.exp-name name) (λ n. tt)))
rises (t.atx_op op word name h i) = λ hs. g-act refl refl (end (nodes.exp-leaf _ (nodes.exp-name name) (λ n. tt)))
rises (t.atx_op_equals op word h i) = λ hs. g-act refl refl (end (nodes.exp-leaf _ (nodes.exp-name (codes "=")) (λ n. tt)))
rises (t.atx_quote {pieces = pieces} from to h d i) = λ hs. g-act refl refl (g-then (join (gathered none) (rises d)) (λ k p. g-act refl refl (end (nodes.exp-node _ (nodes.exp-quote pieces) (one (only p)) (λ n z. z) (λ n z. z)))))
rises (t.atx_unit opening closing h i) = λ hs. g-act refl refl (end (nodes.exp-leaf _ (nodes.exp-unit) (λ n. tt)))
rises (t.atx_paren opening closing h d i) = rises d
rises (t.atx_tuple {first = first} {next = next} {more = more} opening word closing h d i f j) = λ hs. g-then (rises d hs) (λ k p. g-act refl refl (g-then (join (gathered (one p)) (rises f)) (λ k p. g-act refl refl (end (nodes.exp-node _ (nodes.exp-tuple (first ∷ next ∷ more)) (one p) (λ n z. z) (λ n z. z))))))
rises (t.atx_seq {first = first} {next = next} {more = more} opening word closing h d i f j) = λ hs. g-then (rises d hs) (λ k p. g-act refl refl (g-then (join (gathered (one p)) (rises f)) (λ k p. g-act refl refl (end (nodes.exp-node _ (nodes.exp-seq (first ∷ next ∷ more)) (one p) (λ n z. z) (λ n z. z))))))
rises (t.atx_no_list opening closing h i) = λ hs. g-act refl refl (g-act refl refl (end (nodes.exp-node _ (nodes.exp-list []) (one (gathered none)) (λ n z. z) (λ n z. z))))
rises (t.atx_list {all = all} opening closing h d i) = λ hs. g-act refl refl (g-then (join (gathered none) (rises d)) (λ k p. g-act refl refl (end (nodes.exp-node _ (nodes.exp-list all) (one (only p)) (λ n z. z) (λ n z. z)))))
rises (t.atx_let {locals = locals} {all = all} let_ in_ end_ h d i f j) = λ hs. g-act refl refl (g-then (join (gathered none) (rises d)) (λ k p. g-act refl refl (g-then (join (gathered none) (rises f)) (λ l q. g-act refl refl (end (nodes.exp-node _ (nodes.exp-let locals all) (two (only p) (only q)) (λ n z. z) (λ n z. z)))))))
rises (t.quoted_last {text = text} next d) = λ g hs. recast (rises d g hs) (λ n z. (z.0, (r.plain (ExpFits n) text, tt))) (λ n z. (z.0, tt))
rises (t.quoted_more {text = text} {anti = anti} {pieces = pieces} next d f i) = λ g hs. g-then (rises d g hs) (λ k p. g-then (rises f (k ∷ hs)) (λ l q. g-act refl refl (recast (join (gathered (two p q)) (rises i)) (λ n z. (z.0.0.0, (r.plain (ExpFits n) text, (r.anti-to (ExpFits n) anti z.0.1, z.1)))) (λ n z. (((z.0, tt), r.anti-from (ExpFits n) anti z.1.1.0), z.1.1.1)))))
rises (t.no_text next) = λ g hs. g-act refl refl (end (other (gathered (one (own g))) (λ n z. (z, tt)) (λ n z. z.0)))
rises (t.some_text next word byte bytes h) = λ g hs. g-act refl refl (end (other (gathered (one (own g))) (λ n z. (z, tt)) (λ n z. z.0)))
rises (t.anti_name word name h) = λ hs. g-act refl refl (end (nodes.exp-leaf _ (nodes.exp-name name) (λ n. tt)))
rises (t.anti_exp from to h d i) = rises d
rises (t.exps_one {one = x} d) = λ g hs. g-then (rises d (g ∷ hs)) (λ k p. g-act refl refl (last-of ExpFits x (gathered (two (own g) p))))
rises (t.exps_more {one = x} {more = more} word d h f) = λ g hs. g-then (rises d (g ∷ hs)) (λ k p. g-act refl refl (more-of ExpFits x more (gathered (two (own g) p)) (rises f)))
rises (t.app_one d) = rises d
rises (t.app_to {function = x} {argument = y} d f) = λ hs. g-then (rises d hs) (λ k p. g-then (rises f (k ∷ hs)) (λ l q. g-act refl refl (end (nodes.exp-node _ (nodes.exp-app x y) (two p q) (λ n z. z) (λ n z. z)))))
rises (t.inf_top d) = rises d
rises (t.inf_up d) = rises d
rises (t.inf_left {name = name} {left = left} {right = right} word h i d f) = λ hs. g-then (rises d hs) (λ k p. g-act refl refl (g-then (rises f _) (λ l q. g-act refl refl (end (r.infix-fit _ word.span name left right p q)))))
rises (t.inf_right {name = name} {left = left} {right = right} word h i d f) = λ hs. g-then (rises d hs) (λ k p. g-act refl refl (g-then (rises f _) (λ l q. g-act refl refl (end (r.infix-fit _ word.span name left right p q)))))
rises (t.tyx_one d) = rises d
rises (t.tyx_typed {body = x} {type_ = y} word d h f) = λ hs. g-then (rises d hs) (λ k p. g-then (rises f (k ∷ hs)) (λ l q. g-act refl refl (end (nodes.exp-node _ (nodes.exp-typed x y) (two p q) (λ n z. z) (λ n z. z)))))
rises (t.andc_one d) = rises d
rises (t.andc_both {left = x} {right = y} word d h f) = λ hs. g-then (rises d hs) (λ k p. g-then (rises f (k ∷ hs)) (λ l q. g-act refl refl (end (nodes.exp-node _ (nodes.exp-both x y) (two p q) (λ n z. z) (λ n z. z)))))
rises (t.ande_tail {left = x} {right = y} word d h f) = λ hs. g-then (rises d hs) (λ k p. g-then (rises f (k ∷ hs)) (λ l q. g-act refl refl (end (nodes.exp-node _ (nodes.exp-both x y) (two p q) (λ n z. z) (λ n z. z)))))
rises (t.ande_more {left = x} {right = y} word d h f) = λ hs. g-then (rises d hs) (λ k p. g-then (rises f (k ∷ hs)) (λ l q. g-act refl refl (end (nodes.exp-node _ (nodes.exp-both x y) (two p q) (λ n z. z) (λ n z. z)))))
rises (t.orc_one d) = rises d
rises (t.orc_either {left = x} {right = y} word d h f) = λ hs. g-then (rises d hs) (λ k p. g-then (rises f (k ∷ hs)) (λ l q. g-act refl refl (end (nodes.exp-node _ (nodes.exp-either x y) (two p q) (λ n z. z) (λ n z. z)))))
rises (t.ore_one d) = rises d
rises (t.ore_tail {left = x} {right = y} word d h f) = λ hs. g-then (rises d hs) (λ k p. g-then (rises f (k ∷ hs)) (λ l q. g-act refl refl (end (nodes.exp-node _ (nodes.exp-either x y) (two p q) (λ n z. z) (λ n z. z)))))
rises (t.ore_more {left = x} {right = y} word d h f) = λ hs. g-then (rises d hs) (λ k p. g-then (rises f (k ∷ hs)) (λ l q. g-act refl refl (end (nodes.exp-node _ (nodes.exp-either x y) (two p q) (λ n z. z) (λ n z. z)))))
rises (t.exp_tail d) = rises d
rises (t.exp_orc d) = rises d
rises (t.exp_ore d) = rises d
rises (t.exp_handle {body = x} {rules = rules} word d h f) = λ hs. g-then (rises d hs) (λ k p. g-act refl refl (g-then (join (gathered none) (rises f)) (λ l q. g-act refl refl (end (nodes.exp-node _ (nodes.exp-handle x rules) (two p (only q)) (λ n z. z) (λ n z. z))))))
rises (t.tail_raise {body = x} word h d) = λ hs. g-then (rises d hs) (λ k p. g-act refl refl (end (nodes.exp-node _ (nodes.exp-raise x) (one p) (λ n z. z) (λ n z. z))))
rises (t.tail_if {test = x} {chosen = y} {otherwise = w} if_ then_ else_ h d i f j m) = λ hs. g-then (rises d hs) (λ k p. g-then (rises f (k ∷ hs)) (λ l q. g-then (rises m (l ∷ k ∷ hs)) (λ o s. g-act refl refl (end (nodes.exp-node _ (nodes.exp-if x y w) (three p q s) (λ n z. z) (λ n z. z))))))
rises (t.tail_case {body = x} {rules = rules} case_ of_ h d i f) = λ hs. g-then (rises d hs) (λ k p. g-act refl refl (g-then (join (gathered none) (rises f)) (λ l q. g-act refl refl (end (nodes.exp-node _ (nodes.exp-case x rules) (two p (only q)) (λ n z. z) (λ n z. z))))))
rises (t.tail_fn {rules = rules} word h d) = λ hs. g-act refl refl (g-then (join (gathered none) (rises d)) (λ k p. g-act refl refl (end (nodes.exp-node _ (nodes.exp-fn rules) (one (only p)) (λ n z. z) (λ n z. z)))))
rises (t.match_last d) = λ g hs. recast (rises d g hs) (λ n z. (z.0, (z.1, tt))) (λ n z. (z.0, z.1.0))
rises (t.match_more {one = x} {more = more} bar d h f) = λ g hs. g-then (rises d g hs) (λ k p. more-of (λ n. RuleFits n (ExpFits n)) x more p (rises f))
rises (t.one_rule {left = left} {body = body} arrow d h f) = λ g hs. g-then (rises d (g ∷ hs)) (λ k p. g-then (rises f (k ∷ g ∷ hs)) (λ l q. g-act refl refl (end (other (gathered (three (own g) p q)) (λ n z. (z.0, r.rule-to n (ExpFits n) (left) (body) z.1 z.2)) (λ n z. let y = r.rule-from n (ExpFits n) (left) (body) z.1 in (z.0, y.0, y.1))))))
rises (t.head_name word name h) = λ hs. g-act refl refl (end (own 1))
rises (t.head_op op word name h i) = λ hs. g-act refl refl (end (own 1))
rises (t.atpat_any word h) = λ hs. g-act refl refl (end (nodes.pat-leaf _ (nodes.pat-any) (λ n. tt)))
rises (t.atpat_int word number h) = λ hs. g-act refl refl (end (nodes.pat-leaf _ (nodes.pat-int number) (λ n. tt)))
rises (t.atpat_char word byte h) = λ hs. g-act refl refl (end (nodes.pat-leaf _ (nodes.pat-char byte) (λ n. tt)))
rises (t.atpat_str word text h) = λ hs. g-act refl refl (end (nodes.pat-leaf _ (nodes.pat-str text) (λ n. tt)))
rises (t.atpat_name {name = name} d) = λ hs. recast (rises d hs) (λ n z. r.name-pat n _ name z) (λ n z. r.pat-low n _ z)
rises (t.atpat_unit opening closing h i) = λ hs. g-act refl refl (end (nodes.pat-leaf _ (nodes.pat-unit) (λ n. tt)))
rises (t.atpat_paren opening closing h d i) = rises d
rises (t.atpat_tuple {first = first} {next = next} {more = more} opening comma closing h d i f j) = λ hs. g-then (rises d hs) (λ k p. g-act refl refl (g-then (join (gathered (one p)) (rises f)) (λ k p. g-act refl refl (end (nodes.pat-node _ (nodes.pat-tuple (first ∷ next ∷ more)) (one p) (λ n z. z) (λ n z. z))))))
rises (t.atpat_no_list opening closing h i) = λ hs. g-act refl refl (g-act refl refl (end (nodes.pat-node _ (nodes.pat-list []) (one (gathered none)) (λ n z. z) (λ n z. z))))
rises (t.atpat_list {all = all} opening closing h d i) = λ hs. g-act refl refl (g-then (join (gathered none) (rises d)) (λ k p. g-act refl refl (end (nodes.pat-node _ (nodes.pat-list all) (one (only p)) (λ n z. z) (λ n z. z)))))
rises (t.pats_one {one = x} d) = λ g hs. g-then (rises d (g ∷ hs)) (λ k p. g-act refl refl (last-of PatFits x (gathered (two (own g) p))))
rises (t.pats_more {one = x} {more = more} comma d h f) = λ g hs. g-then (rises d (g ∷ hs)) (λ k p. g-act refl refl (more-of PatFits x more (gathered (two (own g) p)) (rises f)))
rises (t.atpats_none) = no-more
rises (t.atpats_more {one = x} {more = more} d f) = λ g hs. g-then (rises d (g ∷ hs)) (λ k p. g-act refl refl (more-of PatFits x more (gathered (two (own g) p)) (rises f)))
rises (t.apat_one d) = rises d
rises (t.apat_con {name = name} {argument = x} d f) = λ hs. g-then (rises d hs) (λ k p. g-then (rises f (k ∷ hs)) (λ l q. g-act refl refl (end (nodes.pat-node _ (nodes.pat-con name x) (two p q) (λ n z. z.1) (λ n z. (r.pat-low n x z, z))))))
rises (t.cpat_one d) = rises d
rises (t.cpat_cons {left = left} {right = right} word d h f) = λ hs. g-then (rises d hs) (λ k p. g-then (rises f (k ∷ hs)) (λ l q. g-act refl refl (end (r.cons-fit _ left right p q))))
rises (t.pat_one d) = rises d
rises (t.pat_typed {body = x} {type_ = y} word d h f) = λ hs. g-then (rises d hs) (λ k p. g-then (rises f (k ∷ hs)) (λ l q. g-act refl refl (end (nodes.pat-node _ (nodes.pat-typed x y) (two p q) (λ n z. z) (λ n z. z)))))
rises (t.conty_name word name h) = λ hs. g-act refl refl (g-act refl refl (end (nodes.ty-node _ (nodes.ty-con name []) (one (gathered none)) (λ n z. z) (λ n z. z))))
rises (t.conty_var {v = true} word name h) = λ hs. g-act refl refl (end (nodes.ty-leaf _ (nodes.ty-var name) (λ n. tt)))
rises (t.conty_var {v = false} word name h) = λ hs. g-act refl refl (g-act refl refl (end (nodes.ty-leaf _ (nodes.ty-var name) (λ n. tt))))
rises (t.conty_paren opening closing h d i) = rises d
rises (t.conty_one {argument = x} word name d h) = λ hs. g-then (rises d hs) (λ k p. g-act refl refl (g-act refl refl (end (nodes.ty-node _ (nodes.ty-con name (x ∷ [])) (one (gathered (one p))) (λ n z. (z, tt)) (λ n z. z.0)))))
rises (t.conty_several {first = first} {next = next} {more = more} opening comma closing word name h d i f j k) = λ hs. g-then (rises d hs) (λ k p. g-act refl refl (g-then (join (gathered (one p)) (rises f)) (λ k p. g-act refl refl (end (nodes.ty-node _ (nodes.ty-con name (first ∷ next ∷ more)) (one p) (λ n z. z) (λ n z. z))))))
rises (t.tys_one {one = x} d) = λ g hs. g-then (rises d (g ∷ hs)) (λ k p. g-act refl refl (last-of TyFits x (gathered (two (own g) p))))
rises (t.tys_more {one = x} {more = more} comma d h f) = λ g hs. g-then (rises d (g ∷ hs)) (λ k p. g-act refl refl (more-of TyFits x more (gathered (two (own g) p)) (rises f)))
rises (t.stars_one {one = x} d) = λ g hs. g-then (rises d (g ∷ hs)) (λ k p. g-act refl refl (last-of TyFits x (gathered (two (own g) p))))
rises (t.stars_more {one = x} {more = more} word d h f) = λ g hs. g-then (rises d (g ∷ hs)) (λ k p. g-act refl refl (more-of TyFits x more (gathered (two (own g) p)) (rises f)))
rises (t.tupty_one d) = rises d
rises (t.tupty_several {first = first} {next = next} {more = more} word d h f) = λ hs. g-then (rises d hs) (λ k p. g-act refl refl (g-then (join (gathered (one p)) (rises f)) (λ k p. g-act refl refl (end (nodes.ty-node _ (nodes.ty-tuple (first ∷ next ∷ more)) (one p) (λ n z. z) (λ n z. z))))))
rises (t.ty_one d) = rises d
rises (t.ty_arrow {left = x} {right = y} word d h f) = λ hs. g-then (rises d hs) (λ k p. g-then (rises f (k ∷ hs)) (λ l q. g-act refl refl (end (nodes.ty-node _ (nodes.ty-arrow x y) (two p q) (λ n z. z) (λ n z. z)))))
rises (t.vars_none) = no-more
rises (t.vars_one word name h) = λ g hs. g-act refl refl (end (other (gathered (one (own g))) (λ n z. (z, tt)) (λ n z. z.0)))
rises (t.vars_several opening closing h d i) = rises d
rises (t.more_vars_one word name h) = λ g hs. g-act refl refl (end (other (gathered (one (own g))) (λ n z. (z, tt)) (λ n z. z.0)))
rises (t.more_vars_more word comma name h i d) = λ g hs. g-act refl refl (join (gathered (one (own g))) (rises d))
rises (t.dec_val {all = all} word h d) = λ hs. g-act refl refl (g-then (join (gathered none) (rises d)) (λ k p. g-act refl refl (end (nodes.dec-node _ (nodes.dec-val all) (one (only p)) (λ n z. z) (λ n z. z)))))
rises (t.dec_rec {all = all} word rec_ h i d) = λ hs. g-act refl refl (g-then (join (gathered none) (rises d)) (λ k p. g-act refl refl (end (nodes.dec-node _ (nodes.dec-valrec all) (one (only p)) (λ n z. z) (λ n z. z)))))
rises (t.dec_fun {all = all} word h d) = λ hs. g-act refl refl (g-then (join (gathered none) (rises d)) (λ k p. g-act refl refl (end (nodes.dec-node _ (nodes.dec-valrec all) (one (only p)) (λ n z. z) (λ n z. z)))))
rises (t.dec_type {i = i} {all = all} word h d) = λ hs. g-local i word (g-act refl refl (g-then (join (gathered none) (rises d)) (λ k p. g-act refl refl (end (nodes.dec-node _ (nodes.dec-abbrev all) (one (only p)) (λ n z. z) (λ n z. z))))))
rises (t.dec_datatype {i = i} {all = all} word h d) = λ hs. g-local i word (g-act refl refl (g-then (join (gathered none) (rises d)) (λ k p. g-act refl refl (end (nodes.dec-node _ (nodes.dec-datadef all) (one (only p)) (λ n z. z) (λ n z. z))))))
rises (t.dec_exception {i = i} {all = all} word h d) = λ hs. g-local i word (g-act refl refl (g-then (join (gathered none) (rises d)) (λ k p. g-act refl refl (end (nodes.dec-node _ (nodes.dec-exndef all) (one (only p)) (λ n z. z) (λ n z. z))))))
rises (t.dec_local {first = x} {second = y} local_ in_ end_ h d i f j) = λ hs. g-act refl refl (g-then (join (gathered none) (rises d)) (λ k p. g-act refl refl (g-then (join (gathered none) (rises f)) (λ l q. g-act refl refl (end (nodes.dec-node _ (nodes.dec-local x y) (two (only p) (only q)) (λ n z. z) (λ n z. z)))))))
rises (t.dec_replication {i = i} word short_ equals again long_ name other_ h j k l m) = λ hs. g-local i word (g-act refl refl (g-act refl refl (g-act refl refl (g-act refl refl (g-act refl refl (g-act refl refl (g-act refl refl (end (nodes.dec-node _ (nodes.dec-datadef (([], name, []) ∷ [])) (one (gathered (three (gathered none) (gathered (one (gathered none))) (gathered none)))) (λ n z. (tt, tt)) (λ n z. (tt, tt, tt)))))))))))
rises (t.decs_none) = no-more
rises (t.decs_more {one = x} {more = more} d f) = λ g hs. g-then (rises d (g ∷ hs)) (λ k p. g-act refl refl (more-of DecFits x more (gathered (two (own g) p)) (rises f)))
rises (t.decs_parted {one = x} {more = more} word d h f) = λ g hs. g-then (rises d (g ∷ hs)) (λ k p. g-act refl refl (more-of DecFits x more (gathered (two (own g) p)) (rises f)))
rises (t.binds_one {left = x} {body = y} equals d h f) = λ g hs. g-then (rises d (g ∷ hs)) (λ k p. g-then (rises f (k ∷ g ∷ hs)) (λ l q. g-act refl refl (last-of BindFits (x, y) (paired (gathered (three (own g) p q))))))
rises (t.binds_more {left = x} {body = y} {more = more} equals and_ d h f i m) = λ g hs. g-then (rises d (g ∷ hs)) (λ k p. g-then (rises f (k ∷ g ∷ hs)) (λ l q. g-act refl refl (more-of BindFits (x, y) more (paired (gathered (three (own g) p q))) (rises m))))
rises (t.recs_one {rules = rules} word equals fn_ name h i j d) = λ g hs. g-act refl refl (g-then (join (gathered none) (rises d)) (λ k p. g-act refl refl (last-of RecFits (name, rules) (gathered (two (own g) (only p))))))
rises (t.recs_more {rules = rules} {more = more} word equals fn_ and_ name h i j d k f) = λ g hs. g-act refl refl (g-then (join (gathered none) (rises d)) (λ k p. g-act refl refl (more-of RecFits (name, rules) more (gathered (two (own g) (only p))) (rises f))))
rises (t.funs_one {name = name} {count = count} {ts = ts} {rules = rules} d) = λ g hs. g-act refl refl (g-then (join (gathered none) (rises d)) (λ k p. recast (g-function (first_of ts) name count (last_of ts) (extent ts) rules (own g) (only p)) (λ n z. (z.0, (z.1, tt))) (λ n z. (z.0, z.1.0))))
rises (t.funs_more {name = name} {count = count} {ts = ts} {rules = rules} {more = more} and_ d h f) = λ g hs. g-act refl refl (g-then (join (gathered none) (rises d)) (λ k p. g-then (g-function (first_of ts) name count (last_of ts) (extent ts) rules (own g) (only p)) (λ l q. more-of RecFits (name, function_rules (extent ts) count rules) more q (rises f))))
rises (t.clauses_last d) = λ g hs. recast (rises d g hs) (λ n z. (z.0, (z.1, tt))) (λ n z. (z.0, z.1.0))
rises (t.clauses_more {one = x} {more = more} bar d h f) = λ g hs. g-then (rises d g hs) (λ k p. more-of (λ n. RuleFits n (ExpFits n)) x more p (rises f))
rises (t.clause_plain {count = count} {ts = ts} {us = us} {ws = ws} {first = first} {more = more} {body = body} equals d f h i) = λ g hs. g-act refl refl (g-then (join (gathered none) (rises f)) (λ k p. g-then (g-tupled (extent (ts ++ us ++ equals ∷ ws)) first more count equals.span.to (counted f) (only p)) (λ k p. g-then (rises i (k ∷ g ∷ hs)) (λ l q. g-act refl refl (end (other (gathered (three (own g) p q)) (λ n z. (z.0, r.rule-to n (ExpFits n) (clause_pat (extent (ts ++ us ++ equals ∷ ws)) first more) body z.1 z.2)) (λ n z. let y = r.rule-from n (ExpFits n) (clause_pat (extent (ts ++ us ++ equals ∷ ws)) first more) body z.1 in (z.0, y.0, y.1))))))))
rises (t.clause_typed {count = count} {ts = ts} {us = us} {vs = vs} {ws = ws} {first = first} {more = more} {type_ = type_} {body = body} colon equals d f h i j m) = λ g hs. g-act refl refl (g-then (join (gathered none) (rises f)) (λ k p. g-then (g-tupled (extent (ts ++ us ++ colon ∷ vs ++ equals ∷ ws)) first more count colon.span.to (counted f) (only p)) (λ k p. g-then (rises i (k ∷ g ∷ hs)) (λ l q. g-then (rises m (l ∷ k ∷ g ∷ hs)) (λ o s. g-act refl refl (g-act refl refl (end (other (gathered (three (own g) p (nodes.exp-node (ef.Typed body type_) (nodes.exp-typed body type_) (two q s) (λ n z. (z.1, z.0)) (λ n z. (z.1, z.0))))) (λ n z. (z.0, r.rule-to n (ExpFits n) (clause_pat (extent (ts ++ us ++ colon ∷ vs ++ equals ∷ ws)) first more) (exp_at (extent (ts ++ us ++ colon ∷ vs ++ equals ∷ ws)) (ef.Typed body type_)) z.1 z.2)) (λ n z. let y = r.rule-from n (ExpFits n) (clause_pat (extent (ts ++ us ++ colon ∷ vs ++ equals ∷ ws)) first more) (exp_at (extent (ts ++ us ++ colon ∷ vs ++ equals ∷ ws)) (ef.Typed body type_)) z.1 in (z.0, y.0, y.1))))))))))
rises (t.clause_infix_name {ts = ts} {us = us} {ws = ws} {right = right} {body = body} {place = place} {head_name = head_name} word equals d h f m i) = λ g hs. g-act refl refl (g-act refl refl (g-act refl refl (g-then (rises f _) (λ l q. g-act refl refl (g-act refl refl (g-then (rises i _) (λ o s. g-act refl refl (end (other (gathered (three (own g) (only (gathered (two (gathered none) (nodes.pat-node (pf.Tuple ((pat_at (span_of place (last_of ts)) (pf.Name head_name)) ∷ right ∷ [])) (nodes.pat-tuple ((pat_at (span_of place (last_of ts)) (pf.Name head_name)) ∷ right ∷ [])) (two (nodes.pat-leaf (pf.Name head_name) {span = span_of place (last_of ts)} (nodes.pat-name head_name) (λ n. tt)) q) (λ n z. (z.0, (z.1, tt))) (λ n z. (z.0, z.1.0)))))) s)) (λ n z. (z.0, r.rule-to n (ExpFits n) (pat_at (extent (ts ++ word ∷ us)) (pf.Tuple ((pat_at (span_of place (last_of ts)) (pf.Name head_name)) ∷ right ∷ []))) body z.1 z.2)) (λ n z. let y = r.rule-from n (ExpFits n) (pat_at (extent (ts ++ word ∷ us)) (pf.Tuple ((pat_at (span_of place (last_of ts)) (pf.Name head_name)) ∷ right ∷ []))) body z.1 in (z.0, y.0, y.1)))))))))))
rises (t.clause_infix {ts = ts} {us = us} {ws = ws} {left = left} {right = right} {body = body} word equals d nh h f m i) = λ g hs. g-act refl refl (g-then (rises d _) (λ k p. g-act refl refl (g-then (rises f _) (λ l q. g-act refl refl (g-act refl refl (g-then (rises i _) (λ o s. g-act refl refl (end (other (gathered (three (own g) (only (gathered (two (gathered none) (nodes.pat-node (pf.Tuple (left ∷ right ∷ [])) (nodes.pat-tuple (left ∷ right ∷ [])) (two p q) (λ n z. (z.0, (z.1, tt))) (λ n z. (z.0, z.1.0)))))) s)) (λ n z. (z.0, r.rule-to n (ExpFits n) (pat_at (extent (ts ++ word ∷ us)) (pf.Tuple (left ∷ right ∷ []))) body z.1 z.2)) (λ n z. let y = r.rule-from n (ExpFits n) (pat_at (extent (ts ++ word ∷ us)) (pf.Tuple (left ∷ right ∷ []))) body z.1 in (z.0, y.0, y.1)))))))))))
rises (t.clause_infix_typed_name {ts = ts} {us = us} {vs = vs} {ws = ws} {right = right} {type_ = type_} {body = body} {place = place} {head_name = head_name} word colon equals d h f m i k0 j) = λ g hs. g-act refl refl (g-act refl refl (g-act refl refl (g-then (rises f _) (λ l q. g-act refl refl (g-act refl refl (g-then (rises i _) (λ o s. g-then (rises j _) (λ u y. g-act refl refl (g-act refl refl (end (other (gathered (three (own g) (only (gathered (two (gathered none) (nodes.pat-node (pf.Tuple ((pat_at (span_of place (last_of ts)) (pf.Name head_name)) ∷ right ∷ [])) (nodes.pat-tuple ((pat_at (span_of place (last_of ts)) (pf.Name head_name)) ∷ right ∷ [])) (two (nodes.pat-leaf (pf.Name head_name) {span = span_of place (last_of ts)} (nodes.pat-name head_name) (λ n. tt)) q) (λ n z. (z.0, (z.1, tt))) (λ n z. (z.0, z.1.0)))))) (nodes.exp-node (ef.Typed body type_) (nodes.exp-typed body type_) (two s y) (λ n z. (z.1, z.0)) (λ n z. (z.1, z.0))))) (λ n z. (z.0, r.rule-to n (ExpFits n) (pat_at (extent (ts ++ word ∷ us)) (pf.Tuple ((pat_at (span_of place (last_of ts)) (pf.Name head_name)) ∷ right ∷ []))) (exp_at (extent (ts ++ word ∷ us ++ colon ∷ vs ++ equals ∷ ws)) (ef.Typed body type_)) z.1 z.2)) (λ n z. let y = r.rule-from n (ExpFits n) (pat_at (extent (ts ++ word ∷ us)) (pf.Tuple ((pat_at (span_of place (last_of ts)) (pf.Name head_name)) ∷ right ∷ []))) (exp_at (extent (ts ++ word ∷ us ++ colon ∷ vs ++ equals ∷ ws)) (ef.Typed body type_)) z.1 in (z.0, y.0, y.1)))))))))))))
rises (t.clause_infix_typed {ts = ts} {us = us} {vs = vs} {ws = ws} {left = left} {right = right} {type_ = type_} {body = body} word colon equals d nh h f m i k0 j) = λ g hs. g-act refl refl (g-then (rises d _) (λ k p. g-act refl refl (g-then (rises f _) (λ l q. g-act refl refl (g-act refl refl (g-then (rises i _) (λ o s. g-then (rises j _) (λ u y. g-act refl refl (g-act refl refl (end (other (gathered (three (own g) (only (gathered (two (gathered none) (nodes.pat-node (pf.Tuple (left ∷ right ∷ [])) (nodes.pat-tuple (left ∷ right ∷ [])) (two p q) (λ n z. (z.0, (z.1, tt))) (λ n z. (z.0, z.1.0)))))) (nodes.exp-node (ef.Typed body type_) (nodes.exp-typed body type_) (two s y) (λ n z. (z.1, z.0)) (λ n z. (z.1, z.0))))) (λ n z. (z.0, r.rule-to n (ExpFits n) (pat_at (extent (ts ++ word ∷ us)) (pf.Tuple (left ∷ right ∷ []))) (exp_at (extent (ts ++ word ∷ us ++ colon ∷ vs ++ equals ∷ ws)) (ef.Typed body type_)) z.1 z.2)) (λ n z. let y = r.rule-from n (ExpFits n) (pat_at (extent (ts ++ word ∷ us)) (pf.Tuple (left ∷ right ∷ []))) (exp_at (extent (ts ++ word ∷ us ++ colon ∷ vs ++ equals ∷ ws)) (ef.Typed body type_)) z.1 in (z.0, y.0, y.1)))))))))))))
rises (t.abbrevs_one {names = names} {type_ = type_} word equals name d h i f) = λ g hs. g-act refl refl (g-then (join (gathered none) (rises d)) (λ k p. g-act refl refl (g-then (rises f _) (λ l q. g-act refl refl (last-of AbbrevFits (names, name, type_) (other (gathered (three (own g) (gathered (one p)) q)) (λ n z. (z.0, z.2)) (λ n z. (z.0, (tt, tt), z.1))))))))
rises (t.abbrevs_more {names = names} {type_ = type_} {more = more} word equals and_ name d h i f j m) = λ g hs. g-act refl refl (g-then (join (gathered none) (rises d)) (λ k p. g-act refl refl (g-then (rises f _) (λ l q. g-act refl refl (more-of AbbrevFits (names, name, type_) more (other (gathered (three (own g) (gathered (one p)) q)) (λ n z. (z.0, z.2)) (λ n z. (z.0, (tt, tt), z.1))) (rises m))))))
rises (t.datas_one {names = names} {all = all} word equals name d h i f) = λ g hs. g-act refl refl (g-then (join (gathered none) (rises d)) (λ k p. g-act refl refl (g-act refl refl (g-then (join (gathered none) (rises f)) (λ l q. g-act refl refl (last-of DataFits (names, name, all) (other (gathered (three (own g) (gathered (one p)) (only q))) (λ n z. (z.0, z.2)) (λ n z. (z.0, (tt, tt), z.1)))))))))
rises (t.datas_more {names = names} {all = all} {more = more} word equals and_ name d h i f j m) = λ g hs. g-act refl refl (g-then (join (gathered none) (rises d)) (λ k p. g-act refl refl (g-act refl refl (g-then (join (gathered none) (rises f)) (λ l q. g-act refl refl (more-of DataFits (names, name, all) more (other (gathered (three (own g) (gathered (one p)) (only q))) (λ n z. (z.0, z.2)) (λ n z. (z.0, (tt, tt), z.1))) (rises m)))))))
rises (t.cons_one word name h) = λ g hs. g-act refl refl (g-act refl refl (last-of ConFits (name, None) (gathered (two (own g) (gathered none)))))
rises (t.cons_of {type_ = type_} word of_ name h i d) = λ g hs. g-act refl refl (g-then (rises d _) (λ k p. g-act refl refl (g-act refl refl (last-of ConFits (name, Some type_) (gathered (two (own g) (only (gathered (two (gathered none) p)))))))))
rises (t.cons_more {more = more} word bar name h i d) = λ g hs. g-act refl refl (g-act refl refl (more-of ConFits (name, None) more (gathered (two (own g) (gathered none))) (rises d)))
rises (t.cons_of_more {type_ = type_} {more = more} word of_ bar name h i d j f) = λ g hs. g-act refl refl (g-then (rises d _) (λ k p. g-act refl refl (g-act refl refl (more-of ConFits (name, Some type_) more (gathered (two (own g) (only (gathered (two (gathered none) p))))) (rises f)))))
rises (t.exns_one word name h) = λ g hs. g-act refl refl (g-act refl refl (last-of ConFits (name, None) (gathered (two (own g) (gathered none)))))
rises (t.exns_of {type_ = type_} word of_ name h i d) = λ g hs. g-act refl refl (g-then (rises d _) (λ k p. g-act refl refl (g-act refl refl (last-of ConFits (name, Some type_) (gathered (two (own g) (only (gathered (two (gathered none) p)))))))))
rises (t.exns_more {more = more} word and_ name h i d) = λ g hs. g-act refl refl (g-act refl refl (more-of ConFits (name, None) more (gathered (two (own g) (gathered none))) (rises d)))
rises (t.exns_of_more {type_ = type_} {more = more} word of_ and_ name h i d j f) = λ g hs. g-act refl refl (g-then (rises d _) (λ k p. g-act refl refl (g-act refl refl (more-of ConFits (name, Some type_) more (gathered (two (own g) (only (gathered (two (gathered none) p))))) (rises f)))))
rises (t.exns_same word equals long_ name other_ h i j) = λ g hs. g-act refl refl (g-act refl refl (g-act refl refl (last-of ConFits (name, None) (gathered (two (own g) (gathered none))))))
rises (t.exns_same_more {more = more} word equals long_ and_ name other_ h i j k d) = λ g hs. g-act refl refl (g-act refl refl (g-act refl refl (more-of ConFits (name, None) more (gathered (two (own g) (gathered none))) (rises d))))
rises (t.items_none) = tt
rises (t.items_dec d f) = tt
rises (t.items_exp d) = tt
rises (t.items_exp_more word d h f) = tt
rises (t.items_after_none) = tt
rises (t.items_after_dec d f) = tt
rises (t.items_after_semicolon word h d) = tt
