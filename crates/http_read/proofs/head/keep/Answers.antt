use Rattle.std.proofs.Common.{refl, ap, map, ◌∙◌}
use Rattle.httparse.specs.Spans.{header_bytes}
use Rattle.http_read.specs.Head.{has_form_body}
use Rattle.http_read.proofs.Spans.{inner_within, inner_bytes}
use Rattle.http_read.proofs.head.keep.Goals as goal

pub returns : goal.returns
returns c = record {
  length_is = refl;
  takes = c.requires.takes;
  path = inner_within _ c.args.spans.now.path c.args.target.path _ c.requires.path c.requires.target.path c.inner-path.ensures.start c.inner-path.ensures.end;
  path_is = inner_bytes c.args.bytes.now c.args.spans.now.path c.args.target.path _ c.requires.path c.requires.target.path c.inner-path.ensures.start c.inner-path.ensures.end ∙ c.requires.target.path_is;
  query = inner_within _ c.args.spans.now.path c.args.target.query _ c.requires.path c.requires.target.query c.inner-query.ensures.start c.inner-query.ensures.end;
  query_is = inner_bytes c.args.bytes.now c.args.spans.now.path c.args.target.query _ c.requires.path c.requires.target.query c.inner-query.ensures.start c.inner-query.ensures.end ∙ c.requires.target.query_is;
  form_is = c.is_form_post-has_form.ensures ∙ ap (λ m. has_form_body m (map (header_bytes c.args.bytes.now) c.args.fields.now)) c.of.ensures;
  closing_is = c.is_closing-closing.ensures;
}
