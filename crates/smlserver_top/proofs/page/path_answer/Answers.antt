use Rattle.smlserver_top.proofs.PageLaws.{some_answer, none_answer}
use Rattle.smlserver_top.proofs.page.path_answer.Goals as goal

pub returns-in-Some : goal.returns-in-Some
returns-in-Some c = some_answer c.args.path.now c.args.front.now.scripts c.as_slice.result.now c.in-Some.script.now _ c.in-Some.ensures c.as_slice.ensures c.script_answer.ensures

pub returns-in-None : goal.returns-in-None
returns-in-None c = none_answer c.args.path.now c.args.front.now.scripts c.as_slice.result.now _ c.in-None.ensures c.as_slice.ensures c.answer_of.ensures
