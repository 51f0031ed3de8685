use Rattle.std.proofs.Common.{sym, ◌∙◌}
use Rattle.smlserver_top.proofs.Tokens.{check_words_are}
use Rattle.smlserver_top.proofs.words.check_words.Goals as goal

pub returns-then-not-begins_with-clause-found : goal.returns-then-not-begins_with-clause-found
returns-then-not-begins_with-clause-found c = record {
  no_option = sym c.begins_with.ensures ∙ c.if-not-begins_with.true;
  words_are = check_words_are _ _ _ c.in-len2.len_at_least c.in-len2.len_below (sym c.eq.ensures ∙ c.if-eq.true) c.as_bytes-project.ensures.value;
}
