-- A `val` without bindings is refused.
use Rattle.std.proofs.Common.{◌≡◌, false, refl}
use Rattle.region_syntax.specs.GroundTerms as g
use Rattle.region_syntax.specs.GroundTyping as ground
use Rattle.region_syntax.specs.RegionTerms as r
use Rattle.region_syntax.specs.RegionTyping as region
use Rattle.region_syntax.specs.RegionTyping.{Context, Tables, all_hold}
use Rattle.region_syntax.specs.TopLevel.{item_answers}

pub no_ground_val : (ds : g.Decs) → ground.are_decs (g.vals g.no_rules ds) ≡ false
unfolding ground.are_decs ground.some_rules
no_ground_val ds = refl

pub no_region_val : (c : Context) (ds : r.Decs) → region.are_decs c (r.vals r.no_rules ds) ≡ false
unfolding region.are_decs region.some_rules
no_region_val c ds = refl

pub no_val_item : (tables : Tables) (c : Context) (ds : r.Decs) → all_hold (item_answers tables c (r.vals r.no_rules ds)) ≡ false
unfolding region.some_rules item_answers
no_val_item tables c ds = refl
