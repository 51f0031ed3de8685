-- What a reader of the program gives, against the reading of lists.
use Rattle.std.specs.Prelude.{◌≡◌, Option, Some, None, Result, Ok, Err}
use Rattle.smlserver_top.specs.declared.straight.StraightError.{StraightError}
use Rattle.smlserver_top.specs.declared.straight.StraightError.TheVariants.{NotForm, NoMemory}

-- nothing is read, or memory ran out
abbrev pub Misses : {Y : Type 0} → StraightError → Option Y → Type 0
Misses NotForm read = read ≡ None
Misses NoMemory read = Unit {0}

-- it gives what reading gives, unless memory runs out
abbrev pub Gives : {X Y : Type 0} → (X → Y) → Result X StraightError → Option Y → Type 0
Gives view (Ok x) read = read ≡ Some (view x)
Gives view (Err e) read = Misses e read
