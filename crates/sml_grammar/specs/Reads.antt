-- What the code answers, against the machine.
use Rattle.std.specs.Prelude.{◌≡◌, ℕ, List, Result, Ok, Err}
use Rattle.std.specs.declared.alloc.Global.{Global}
use Rattle.std.specs.declared.vec.Vec.{Vec}
use Rattle.sml_syntax.specs.declared.token.Token.{Token}
use Rattle.sml_grammar.specs.declared.symbol.Sym.{Sym}
use Rattle.sml_grammar.specs.declared.act.Made.{Made}
use Rattle.sml_grammar.specs.declared.machine.Meeting.{Meeting}
use Rattle.sml_grammar.specs.declared.machine.Meeting.TheVariants as meeting
use Rattle.sml_grammar.specs.declared.machine.ReadRefusal.{ReadRefusal}
use Rattle.sml_grammar.specs.declared.machine.ReadRefusal.TheVariants as refusal
use Rattle.sml_grammar.specs.Machine.{Fed, Goes, Empties, Stuck, Outcome, Accepts, Stops, place_of}

-- how a token was met, with the stack and the acts after it
abbrev pub fed_as : Meeting → List Sym → List Made → Fed
fed_as meeting.Goes stack acts = Goes stack acts
fed_as meeting.Empties stack acts = Empties acts
fed_as meeting.Stuck stack acts = Stuck

-- the machine stops, and there
abbrev pub StopsAt : Outcome → ℕ → Type 0
StopsAt outcome place = (left : List Token) × (to : ℕ) × (outcome ≡ Stops left to) × (place ≡ place_of left to)

-- the acts of an outcome, or its place, unless memory ran out
abbrev pub Reads : Result (Vec Made Global) ReadRefusal → Outcome → Type 0
Reads (Ok acts) outcome = outcome ≡ Accepts acts.items
Reads (Err refusal.NoMemory) outcome = Unit {0}
Reads (Err (refusal.Unexpected place)) outcome = StopsAt outcome place
