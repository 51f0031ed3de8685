use Rattle.web_cache.proofs.Showing.{put-in, if_ok}
use Rattle.web_cache.proofs.standing.put.Goals as goal

pub returns-clause-ok : goal.returns-clause-ok
returns-clause-ok c = if_ok c.put.result _ _ (λ fresh h. put-in c.args.id.now c.args.now c.args.key.now c.args.value.now c.requires.key c.requires.value c.args.rows.now.kind c.requires.kind c.in_ok-name.name c.in_ok-text.text c.in_ok-name.ensures c.in_ok-text.ensures c.args.rows.now.rows c.put.new.self.rows fresh h.rows) c.put.ensures.ok
