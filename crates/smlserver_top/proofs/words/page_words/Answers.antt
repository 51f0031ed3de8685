use Rattle.std.proofs.Common.{sym, ◌∙◌}
use Rattle.smlserver_top.proofs.Tokens.{page_words_are}
use Rattle.smlserver_top.proofs.words.page_words.Goals as goal

pub returns-then-is_empty-clause-found : goal.returns-then-is_empty-clause-found
returns-then-is_empty-clause-found c = record {
  no_option = sym c.begins_with.ensures ∙ c.if-not-begins_with.true;
  from_root = sym c.begins_with-then-not-begins_with.ensures ∙ c.if-begins_with.true;
  words_are = page_words_are _ _ _ _ c.in-len4.len_at_least c.in-len4.len_below (sym c.eq.ensures ∙ c.if-eq.true) c.as_bytes-project.ensures.value c.as_bytes-path.ensures.value (sym c.is_empty.ensures ∙ c.if-is_empty.true);
}
