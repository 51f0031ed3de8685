use Rattle.page_pool.specs.PageWords.{number_of}
use Rattle.page_pool.specs.Passes.{state_of}
use Rattle.page_pool.proofs.Users.{gives_holding}
use Rattle.page_pool.proofs.pool_user.PoolUserPages.give.Goals as goal

pub returns : goal.returns
returns g c = gives_holding (state_of c.args.self.now.pass) (state_of c.give.new.pass) (number_of c.args.page) c.args.self.now.dries c.requires c.give.ensures
