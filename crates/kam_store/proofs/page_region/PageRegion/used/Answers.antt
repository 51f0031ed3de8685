use Rattle.std.proofs.Common.{sym}
use Rattle.kam_store.proofs.Account.{length-content}
use Rattle.kam_store.proofs.page_region.PageRegion.used.Goals as goal

pub returns : goal.returns
returns c = sym (length-content c.args.self.now)
