use Rattle.std.proofs.Common.{refl}
use Rattle.sml_print.proofs.Printed.{level_app}
use Rattle.sml_print.proofs.places.level.Goals as goal

pub returns-in-App : goal.returns-in-App
returns-in-App c = rw (c.app_level.ensures, c.get.ensures, c.get-in-App.ensures, level_app c.args.exp.now _ _ c.in-App.is) refl
