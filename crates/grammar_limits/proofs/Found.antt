-- The lacks that acts tell are those of their derivation.
use Rattle.std.proofs.Common.{ℕ, suc, nat_lt, cond, List, [], ◌∷◌, ◌++◌, length, Bool, true, false, refl, sym, ◌∙◌, append_assoc}
use Rattle.sml_syntax.specs.declared.token.Token.{Token}
use Rattle.sml_syntax.specs.declared.token.Lack.TheVariants as l
use Rattle.sml_syntax.specs.NestedTypes.{Found, nested_in_bindings}
use Rattle.grammar_rules.specs.Nodes.{first_of, last_of}
use Rattle.grammar_rules.specs.Grammar.{Phrase, Tree, variable_lack, local_lack}
use Rattle.sml_grammar.specs.declared.act.Made.{Made}
use Rattle.parse_limits.specs.Lacks.{own_types, lack_of, variables_of, begins_datatypes, ends_datatypes, head_of, begins_vars, added_var}
use Rattle.grammar_trees.specs.Tells as t
use Rattle.grammar_trees.specs.Tells.{Tells, local_acts, var_acts, tupled_acts, end_acts}
use Rattle.grammar_limits.specs.Finds.{Finds, Finding, DatatypesFind}
use Rattle.grammar_limits.proofs.Lowest.{f-end, f-then, f-last, f-same, f-act, f-lack, f-datatype}

-- one of two lists of acts
f-either : (w : Bool) {n m : List Made} → Finds n [] → Finds m [] → Finds (cond w n m) []
f-either true p r = p
f-either false p r = r

f-local : (i : Bool) (word : Token) → Finds (local_acts i word) (local_lack i word)
f-local false word = f-end
f-local true word = f-lack f-end

f-var : (v : Bool) (word : Token) (name : List ℕ) → Finds (var_acts v word name) (variable_lack v word)
unfolding lack_of variables_of begins_datatypes ends_datatypes
f-var true word name = f-act (λ b. refl) (λ m. refl) f-end
f-var false word name = f-lack (f-act (λ b. refl) (λ m. refl) f-end)

f-tupled : (count to : ℕ) → Finds (tupled_acts count to) []
unfolding lack_of variables_of begins_datatypes ends_datatypes
f-tupled count to = f-either (nat_lt 1 count) (f-act (λ b. refl) (λ m. refl) f-end) f-end

f-rounded : (from : ℕ) (name : List ℕ) (count to : ℕ) → Finds (end_acts from name count to) []
unfolding lack_of variables_of begins_datatypes ends_datatypes
f-rounded from name count to = f-either (nat_lt 1 count) (f-act (λ b. refl) (λ m. refl) (f-act (λ b. refl) (λ m. refl) f-end)) (f-act (λ b. refl) (λ m. refl) f-end)

pub finds : DatatypesFind → {c : Phrase} {next : ℕ} {ts : List Token} {tree : Tree} {ls : List Found} {new : List Made} → Tells c next ts tree ls new → Finding c ls new
unfolding lack_of variables_of begins_datatypes ends_datatypes own_types head_of begins_vars added_var
finds q (t.atx_int word number h1) = f-act (λ b. refl) (λ m. refl) (f-end)
finds q (t.atx_char word byte h1) = f-act (λ b. refl) (λ m. refl) (f-end)
finds q (t.atx_str word text h1) = f-act (λ b. refl) (λ m. refl) (f-end)
finds q (t.atx_name word name h1) = f-act (λ b. refl) (λ m. refl) (f-end)
finds q (t.atx_op op word name h1 h2) = f-act (λ b. refl) (λ m. refl) (f-end)
finds q (t.atx_op_equals op word h1 h2) = f-act (λ b. refl) (λ m. refl) (f-end)
finds q (t.atx_quote from to h1 d2 h3) = f-act (λ b. refl) (λ m. refl) (f-last (finds q d2) (f-act (λ b. refl) (λ m. refl) (f-end)))
finds q (t.atx_unit opening closing h1 h2) = f-act (λ b. refl) (λ m. refl) (f-end)
finds q (t.atx_paren opening closing h1 d2 h3) = finds q d2
finds q (t.atx_tuple opening word closing h1 d2 h3 d4 h5) = f-then (finds q d2) (f-act (λ b. refl) (λ m. refl) (f-last (finds q d4) (f-act (λ b. refl) (λ m. refl) (f-end))))
finds q (t.atx_seq opening word closing h1 d2 h3 d4 h5) = f-then (finds q d2) (f-act (λ b. refl) (λ m. refl) (f-last (finds q d4) (f-act (λ b. refl) (λ m. refl) (f-end))))
finds q (t.atx_no_list opening closing h1 h2) = f-act (λ b. refl) (λ m. refl) (f-act (λ b. refl) (λ m. refl) (f-end))
finds q (t.atx_list opening closing h1 d2 h3) = f-act (λ b. refl) (λ m. refl) (f-last (finds q d2) (f-act (λ b. refl) (λ m. refl) (f-end)))
finds q (t.atx_let let_ in_ end_ h1 d2 h3 d4 h5) = f-act (λ b. refl) (λ m. refl) (f-then (finds q d2) (f-act (λ b. refl) (λ m. refl) (f-last (finds q d4) (f-act (λ b. refl) (λ m. refl) (f-end)))))
finds q (t.quoted_last next d1) = finds q d1
finds q (t.quoted_more next d1 d2 d3) = f-then (finds q d1) (f-then (finds q d2) (f-act (λ b. refl) (λ m. refl) (finds q d3)))
finds q (t.no_text next) = f-act (λ b. refl) (λ m. refl) (f-end)
finds q (t.some_text next word byte bytes h1) = f-act (λ b. refl) (λ m. refl) (f-end)
finds q (t.anti_name word name h1) = f-act (λ b. refl) (λ m. refl) (f-end)
finds q (t.anti_exp from to h1 d2 h3) = finds q d2
finds q (t.exps_one d1) = f-last (finds q d1) (f-act (λ b. refl) (λ m. refl) (f-end))
finds q (t.exps_more word d1 h2 d3) = f-then (finds q d1) (f-act (λ b. refl) (λ m. refl) (finds q d3))
finds q (t.app_one d1) = finds q d1
finds q (t.app_to d1 d2) = f-then (finds q d1) (f-last (finds q d2) (f-act (λ b. refl) (λ m. refl) (f-end)))
finds q (t.inf_top d1) = finds q d1
finds q (t.inf_up d1) = finds q d1
finds q (t.inf_left word h1 h2 d3 d4) = f-then (finds q d3) (f-act (λ b. refl) (λ m. refl) (f-last (finds q d4) (f-act (λ b. refl) (λ m. refl) (f-end))))
finds q (t.inf_right word h1 h2 d3 d4) = f-then (finds q d3) (f-act (λ b. refl) (λ m. refl) (f-last (finds q d4) (f-act (λ b. refl) (λ m. refl) (f-end))))
finds q (t.tyx_one d1) = finds q d1
finds q (t.tyx_typed word d1 h2 d3) = f-then (finds q d1) (f-last (finds q d3) (f-act (λ b. refl) (λ m. refl) (f-end)))
finds q (t.andc_one d1) = finds q d1
finds q (t.andc_both word d1 h2 d3) = f-then (finds q d1) (f-last (finds q d3) (f-act (λ b. refl) (λ m. refl) (f-end)))
finds q (t.ande_tail word d1 h2 d3) = f-then (finds q d1) (f-last (finds q d3) (f-act (λ b. refl) (λ m. refl) (f-end)))
finds q (t.ande_more word d1 h2 d3) = f-then (finds q d1) (f-last (finds q d3) (f-act (λ b. refl) (λ m. refl) (f-end)))
finds q (t.orc_one d1) = finds q d1
finds q (t.orc_either word d1 h2 d3) = f-then (finds q d1) (f-last (finds q d3) (f-act (λ b. refl) (λ m. refl) (f-end)))
finds q (t.ore_one d1) = finds q d1
finds q (t.ore_tail word d1 h2 d3) = f-then (finds q d1) (f-last (finds q d3) (f-act (λ b. refl) (λ m. refl) (f-end)))
finds q (t.ore_more word d1 h2 d3) = f-then (finds q d1) (f-last (finds q d3) (f-act (λ b. refl) (λ m. refl) (f-end)))
finds q (t.exp_tail d1) = finds q d1
finds q (t.exp_orc d1) = finds q d1
finds q (t.exp_ore d1) = finds q d1
finds q (t.exp_handle word d1 h2 d3) = f-then (finds q d1) (f-act (λ b. refl) (λ m. refl) (f-last (finds q d3) (f-act (λ b. refl) (λ m. refl) (f-end))))
finds q (t.tail_raise word h1 d2) = f-last (finds q d2) (f-act (λ b. refl) (λ m. refl) (f-end))
finds q (t.tail_if {ls = ls} {ms = ms} {ns = ns} if_ then_ else_ h1 d2 h3 d4 h5 d6) = f-same (sym (append_assoc ls ms ns)) (f-then (finds q d2) (f-then (finds q d4) (f-last (finds q d6) (f-act (λ b. refl) (λ m. refl) (f-end)))))
finds q (t.tail_case case_ of_ h1 d2 h3 d4) = f-then (finds q d2) (f-act (λ b. refl) (λ m. refl) (f-last (finds q d4) (f-act (λ b. refl) (λ m. refl) (f-end))))
finds q (t.tail_fn word h1 d2) = f-act (λ b. refl) (λ m. refl) (f-last (finds q d2) (f-act (λ b. refl) (λ m. refl) (f-end)))
finds q (t.match_last d1) = finds q d1
finds q (t.match_more bar d1 h2 d3) = f-then (finds q d1) (finds q d3)
finds q (t.one_rule arrow d1 h2 d3) = f-then (finds q d1) (f-last (finds q d3) (f-act (λ b. refl) (λ m. refl) (f-end)))
finds q (t.head_name word name h1) = f-act (λ b. refl) (λ m. refl) (f-end)
finds q (t.head_op op word name h1 h2) = f-act (λ b. refl) (λ m. refl) (f-end)
finds q (t.atpat_any word h1) = f-act (λ b. refl) (λ m. refl) (f-end)
finds q (t.atpat_int word number h1) = f-act (λ b. refl) (λ m. refl) (f-end)
finds q (t.atpat_char word byte h1) = f-act (λ b. refl) (λ m. refl) (f-end)
finds q (t.atpat_str word text h1) = f-act (λ b. refl) (λ m. refl) (f-end)
finds q (t.atpat_name d1) = finds q d1
finds q (t.atpat_unit opening closing h1 h2) = f-act (λ b. refl) (λ m. refl) (f-end)
finds q (t.atpat_paren opening closing h1 d2 h3) = finds q d2
finds q (t.atpat_tuple opening comma closing h1 d2 h3 d4 h5) = f-then (finds q d2) (f-act (λ b. refl) (λ m. refl) (f-last (finds q d4) (f-act (λ b. refl) (λ m. refl) (f-end))))
finds q (t.atpat_no_list opening closing h1 h2) = f-act (λ b. refl) (λ m. refl) (f-act (λ b. refl) (λ m. refl) (f-end))
finds q (t.atpat_list opening closing h1 d2 h3) = f-act (λ b. refl) (λ m. refl) (f-last (finds q d2) (f-act (λ b. refl) (λ m. refl) (f-end)))
finds q (t.pats_one d1) = f-last (finds q d1) (f-act (λ b. refl) (λ m. refl) (f-end))
finds q (t.pats_more comma d1 h2 d3) = f-then (finds q d1) (f-act (λ b. refl) (λ m. refl) (finds q d3))
finds q t.atpats_none = f-end
finds q (t.atpats_more d1 d2) = f-then (finds q d1) (f-act (λ b. refl) (λ m. refl) (finds q d2))
finds q (t.apat_one d1) = finds q d1
finds q (t.apat_con d1 d2) = f-then (finds q d1) (f-last (finds q d2) (f-act (λ b. refl) (λ m. refl) (f-end)))
finds q (t.cpat_one d1) = finds q d1
finds q (t.cpat_cons word d1 h2 d3) = f-then (finds q d1) (f-last (finds q d3) (f-act (λ b. refl) (λ m. refl) (f-end)))
finds q (t.pat_one d1) = finds q d1
finds q (t.pat_typed word d1 h2 d3) = f-then (finds q d1) (f-last (finds q d3) (f-act (λ b. refl) (λ m. refl) (f-end)))
finds q (t.conty_name word name h1) = f-act (λ b. refl) (λ m. refl) (f-act (λ b. refl) (λ m. refl) (f-end))
finds q (t.conty_var {v = v} word name h1) = f-var v word name
finds q (t.conty_paren opening closing h1 d2 h3) = finds q d2
finds q (t.conty_one word name d1 h2) = f-last (finds q d1) (f-act (λ b. refl) (λ m. refl) (f-act (λ b. refl) (λ m. refl) (f-end)))
finds q (t.conty_several opening comma closing word name h1 d2 h3 d4 h5 h6) = f-then (finds q d2) (f-act (λ b. refl) (λ m. refl) (f-last (finds q d4) (f-act (λ b. refl) (λ m. refl) (f-end))))
finds q (t.tys_one d1) = f-last (finds q d1) (f-act (λ b. refl) (λ m. refl) (f-end))
finds q (t.tys_more comma d1 h2 d3) = f-then (finds q d1) (f-act (λ b. refl) (λ m. refl) (finds q d3))
finds q (t.stars_one d1) = f-last (finds q d1) (f-act (λ b. refl) (λ m. refl) (f-end))
finds q (t.stars_more word d1 h2 d3) = f-then (finds q d1) (f-act (λ b. refl) (λ m. refl) (finds q d3))
finds q (t.tupty_one d1) = finds q d1
finds q (t.tupty_several word d1 h2 d3) = f-then (finds q d1) (f-act (λ b. refl) (λ m. refl) (f-last (finds q d3) (f-act (λ b. refl) (λ m. refl) (f-end))))
finds q (t.ty_one d1) = finds q d1
finds q (t.ty_arrow word d1 h2 d3) = f-then (finds q d1) (f-last (finds q d3) (f-act (λ b. refl) (λ m. refl) (f-end)))
finds q t.vars_none = f-end
finds q (t.vars_one word name h1) = f-act (λ b. refl) (λ m. refl) (f-end)
finds q (t.vars_several opening closing h1 d2 h3) = finds q d2
finds q (t.more_vars_one word name h1) = f-act (λ b. refl) (λ m. refl) (f-end)
finds q (t.more_vars_more word comma name h1 h2 d3) = f-act (λ b. refl) (λ m. refl) (finds q d3)
finds q (t.dec_val word h1 d2) = f-act (λ b. refl) (λ m. refl) (f-last (finds q d2) (f-act (λ b. refl) (λ m. refl) (f-end)))
finds q (t.dec_rec word rec_ h1 h2 d3) = f-act (λ b. refl) (λ m. refl) (f-last (finds q d3) (f-act (λ b. refl) (λ m. refl) (f-end)))
finds q (t.dec_fun word h1 d2) = f-act (λ b. refl) (λ m. refl) (f-last (finds q d2) (f-act (λ b. refl) (λ m. refl) (f-end)))
finds q (t.dec_type {i = i} word h1 d2) = f-then (f-local i word) (f-act (λ b. refl) (λ m. refl) (f-last (finds q d2) (f-act (λ b. refl) (λ m. refl) (f-end))))
finds q (t.dec_datatype {i = i} {ts = ts} {all = all} {ls = ls} word h1 d2) = f-same (sym (append_assoc (local_lack i word) ls (nested_in_bindings (length ts) all all))) (f-then (f-local i word) (q ts all ls _ _ _ _ d2))
finds q (t.dec_exception {i = i} word h1 d2) = f-then (f-local i word) (f-act (λ b. refl) (λ m. refl) (f-last (finds q d2) (f-act (λ b. refl) (λ m. refl) (f-end))))
finds q (t.dec_local local_ in_ end_ h1 d2 h3 d4 h5) = f-act (λ b. refl) (λ m. refl) (f-then (finds q d2) (f-act (λ b. refl) (λ m. refl) (f-last (finds q d4) (f-act (λ b. refl) (λ m. refl) (f-end)))))
finds q (t.dec_replication {i = i} word short_ equals again long_ name other_ h1 h2 h3 h4 h5) = f-then (f-local i word) (f-datatype _ _ _ (λ m. refl) (f-act (λ b. refl) (λ m. refl) (f-act (λ b. refl) (λ m. refl) (f-lack (f-act (λ b. refl) (λ m. refl) (f-act (λ b. refl) (λ m. refl) f-end))))))
finds q t.decs_none = f-end
finds q (t.decs_more d1 d2) = f-then (finds q d1) (f-act (λ b. refl) (λ m. refl) (finds q d2))
finds q (t.decs_parted word d1 h2 d3) = f-then (finds q d1) (f-act (λ b. refl) (λ m. refl) (finds q d3))
finds q (t.binds_one equals d1 h2 d3) = f-then (finds q d1) (f-last (finds q d3) (f-act (λ b. refl) (λ m. refl) (f-end)))
finds q (t.binds_more {ls = ls} {ms = ms} {ns = ns} equals and_ d1 h2 d3 h4 d5) = f-same (sym (append_assoc ls ms ns)) (f-then (finds q d1) (f-then (finds q d3) (f-act (λ b. refl) (λ m. refl) (finds q d5))))
finds q (t.recs_one word equals fn_ name h1 h2 h3 d4) = f-act (λ b. refl) (λ m. refl) (f-last (finds q d4) (f-act (λ b. refl) (λ m. refl) (f-end)))
finds q (t.recs_more word equals fn_ and_ name h1 h2 h3 d4 h5 d6) = f-act (λ b. refl) (λ m. refl) (f-then (finds q d4) (f-act (λ b. refl) (λ m. refl) (finds q d6)))
finds q (t.funs_one {name = name} {count = count} {ts = ts} d1) = f-act (λ b. refl) (λ m. refl) (f-last (finds q d1) (f-rounded (first_of ts) name count (last_of ts)))
finds q (t.funs_more {name = name} {count = count} {ts = ts} and_ d1 h2 d3) = f-act (λ b. refl) (λ m. refl) (f-then (finds q d1) (f-then (f-rounded (first_of ts) name count (last_of ts)) (finds q d3)))
finds q (t.clauses_last d1) = finds q d1
finds q (t.clauses_more bar d1 h2 d3) = f-then (finds q d1) (finds q d3)
finds q (t.clause_plain {count = count} equals d1 d2 h3 d4) = f-act (λ b. refl) (λ m. refl) (f-then (finds q d2) (f-then (f-tupled (suc count) equals.span.to) (f-last (finds q d4) (f-act (λ b. refl) (λ m. refl) (f-end)))))
finds q (t.clause_typed {count = count} {ls = ls} {ms = ms} {ns = ns} colon equals d1 d2 h3 d4 h5 d6) = f-same (sym (append_assoc ls ms ns)) (f-act (λ b. refl) (λ m. refl) (f-then (finds q d2) (f-then (f-tupled (suc count) colon.span.to) (f-then (finds q d4) (f-last (finds q d6) (f-act (λ b. refl) (λ m. refl) (f-act (λ b. refl) (λ m. refl) (f-end))))))))
finds q (t.clause_infix_name word equals h1 h2 d3 h4 d5) = f-act (λ b. refl) (λ m. refl) (f-act (λ b. refl) (λ m. refl) (f-lack (f-then (finds q d3) (f-act (λ b. refl) (λ m. refl) (f-act (λ b. refl) (λ m. refl) (f-last (finds q d5) (f-act (λ b. refl) (λ m. refl) (f-end))))))))
finds q (t.clause_infix {ls = ls} {ms = ms} {ns = ns} word equals d1 h2 h3 d4 h5 d6) = f-same (sym (append_assoc ls ((word.span.from, l.InfixClause) ∷ ms) ns)) (f-act (λ b. refl) (λ m. refl) (f-then (finds q d1) (f-lack (f-then (finds q d4) (f-act (λ b. refl) (λ m. refl) (f-act (λ b. refl) (λ m. refl) (f-last (finds q d6) (f-act (λ b. refl) (λ m. refl) (f-end)))))))))
finds q (t.clause_infix_typed_name {ms = ms} {ns = ns} {ks = ks} word colon equals h1 h2 d3 h4 d5 h6 d7) = f-same (sym (append_assoc ((word.span.from, l.InfixClause) ∷ ms) ns ks)) (f-act (λ b. refl) (λ m. refl) (f-act (λ b. refl) (λ m. refl) (f-lack (f-then (finds q d3) (f-act (λ b. refl) (λ m. refl) (f-act (λ b. refl) (λ m. refl) (f-then (finds q d5) (f-last (finds q d7) (f-act (λ b. refl) (λ m. refl) (f-act (λ b. refl) (λ m. refl) (f-end)))))))))))
finds q (t.clause_infix_typed {ls = ls} {ms = ms} {ns = ns} {ks = ks} word colon equals d1 h2 h3 d4 h5 d6 h7 d8) = f-same (sym (append_assoc (ls ++ ((word.span.from, l.InfixClause) ∷ ms)) ns ks ∙ append_assoc ls ((word.span.from, l.InfixClause) ∷ ms) (ns ++ ks))) (f-act (λ b. refl) (λ m. refl) (f-then (finds q d1) (f-lack (f-then (finds q d4) (f-act (λ b. refl) (λ m. refl) (f-act (λ b. refl) (λ m. refl) (f-then (finds q d6) (f-last (finds q d8) (f-act (λ b. refl) (λ m. refl) (f-act (λ b. refl) (λ m. refl) (f-end)))))))))))
finds q (t.abbrevs_one word equals name d1 h2 h3 d4) = f-act (λ b. refl) (λ m. refl) (f-then (finds q d1) (f-act (λ b. refl) (λ m. refl) (f-last (finds q d4) (f-act (λ b. refl) (λ m. refl) (f-end)))))
finds q (t.abbrevs_more word equals and_ name d1 h2 h3 d4 h5 d6) = f-act (λ b. refl) (λ m. refl) (f-then (finds q d1) (f-act (λ b. refl) (λ m. refl) (f-then (finds q d4) (f-act (λ b. refl) (λ m. refl) (finds q d6)))))
finds q (t.exns_one word name h1) = f-act (λ b. refl) (λ m. refl) (f-act (λ b. refl) (λ m. refl) (f-end))
finds q (t.exns_of word of_ name h1 h2 d3) = f-act (λ b. refl) (λ m. refl) (f-last (finds q d3) (f-act (λ b. refl) (λ m. refl) (f-act (λ b. refl) (λ m. refl) (f-end))))
finds q (t.exns_same word equals long_ name other_ h1 h2 h3) = f-act (λ b. refl) (λ m. refl) (f-lack (f-act (λ b. refl) (λ m. refl) (f-end)))
finds q (t.exns_more word and_ name h1 h2 d3) = f-act (λ b. refl) (λ m. refl) (f-act (λ b. refl) (λ m. refl) (finds q d3))
finds q (t.exns_of_more word of_ and_ name h1 h2 d3 h4 d5) = f-act (λ b. refl) (λ m. refl) (f-then (finds q d3) (f-act (λ b. refl) (λ m. refl) (f-act (λ b. refl) (λ m. refl) (finds q d5))))
finds q (t.exns_same_more word equals long_ and_ name other_ h1 h2 h3 h4 d5) = f-act (λ b. refl) (λ m. refl) (f-lack (f-act (λ b. refl) (λ m. refl) (finds q d5)))
finds q t.items_none = f-end
finds q (t.items_dec d1 d2) = f-then (finds q d1) (f-act (λ b. refl) (λ m. refl) (finds q d2))
finds q (t.items_exp d1) = f-last (finds q d1) (f-act (λ b. refl) (λ m. refl) (f-act (λ b. refl) (λ m. refl) (f-end)))
finds q (t.items_exp_more word d1 h2 d3) = f-then (finds q d1) (f-act (λ b. refl) (λ m. refl) (f-act (λ b. refl) (λ m. refl) (finds q d3)))
finds q t.items_after_none = f-end
finds q (t.items_after_dec d1 d2) = f-then (finds q d1) (f-act (λ b. refl) (λ m. refl) (finds q d2))
finds q (t.items_after_semicolon word h1 d2) = finds q d2
finds q d = tt
