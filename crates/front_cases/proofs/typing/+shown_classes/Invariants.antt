use Rattle.std.proofs.Common.{◌+◌, ◌*◌}
use Rattle.front_cases.proofs.typing.+shown_classes.Given as goal

abbrev pub decreases-show_class : goal.decreases-show_class
decreases-show_class l = 2 * l.depth

abbrev pub decreases-show_made : goal.decreases-show_made
decreases-show_made l = 2 * l.depth + 1
