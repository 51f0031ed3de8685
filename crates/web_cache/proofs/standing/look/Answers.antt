use Rattle.web_cache.proofs.Showing.{looked}
use Rattle.web_cache.proofs.standing.look.Goals as goal

pub returns-clause-ok : goal.returns-clause-ok
returns-clause-ok c = looked c.args.id.now c.args.now c.args.key.now c.requires.key c.args.rows.now.kind c.requires.kind c.in_ok-name.name c.in_ok-name.ensures c.args.rows.now.rows c.look.new.self.rows _ _ c.peek.ensures c.in_ok-look.ensures.ok.rows c.in_ok-value.value c.in_ok-value.ensures
