-- What the answers of the machine over one region mean.
use Rattle.kam_code.specs.State.{State}
use Rattle.kam_code.specs.Step.{Halted, Uncaught, Next, Goes, Ends, Stuck}
use Rattle.smlserver_top.specs.declared.machine.Stop.{Stop}
use Rattle.smlserver_top.specs.declared.machine.Stop.TheVariants.{Going as going, Halted as halted, Raised as raised, Stuck as stuck}

-- what comes next, by the answer and the state after it
abbrev pub next_of : Stop → State → Next
next_of going state = Goes state
next_of halted state = Ends Halted state
next_of (raised name) state = Ends (Uncaught name) state
next_of stuck state = Stuck
