use Rattle.std.proofs.Common.{sym, ◌∙◌}
use Rattle.smlserver_top.proofs.ExplainLaws.{line_said, place_said, whole_said}
use Rattle.smlserver_top.proofs.explanation.say.Goals as goal

pub returns-in-Line-clause-said : goal.returns-in-Line-clause-said
returns-in-Line-clause-said g c =
    line_said _ _ _ _ _ _ _ _ _ _ (sym c.shows_of.ensures ∙ c.in-Line.is) c.in_ok-source.ensures.text c.in_ok-source.ensures.none c.said_on_line.ensures.read c.said_on_line.ensures.unread

pub returns-in-Place-clause-said : goal.returns-in-Place-clause-said
returns-in-Place-clause-said g c =
    place_said _ _ _ _ _ _ _ _ _ _ _ (sym c.shows_of.ensures ∙ c.in-Place.is) c.in_ok-source.ensures.same c.in_ok-source.ensures.count c.said_on_place.ensures.said

pub returns-in-Whole-clause-said : goal.returns-in-Whole-clause-said
returns-in-Whole-clause-said g c = whole_said _ _ _ _ _ _ _ _ _ (sym c.shows_of.ensures ∙ c.in-Whole.is) c.on_file.ensures
