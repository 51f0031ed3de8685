-- A project as it is loaded for a command.
use Rattle.std.specs.Prelude.{◌≡◌, ℕ, List}
use Rattle.outside_world.specs.Told.{Contents}
use Rattle.script_loader.specs.declared.refusal.LoadRefusal.{LoadRefusal}
use Rattle.script_loader.specs.Seen.{Trees}
use Rattle.script_loader.specs.Front.{HasFront, IsFrontOf}
use Rattle.smlserver_top.specs.declared.loading.Loading.{Loading}
use Rattle.smlserver_top.specs.declared.loading.Loading.TheVariants.{Front, Refused}
use Rattle.smlserver_top.specs.Page.{IsRefusedBy, IsTheLine, IsTypeLine, IsUnboundAnswer}

abbrev pub IsLoading : Contents → ℕ → ℕ → List ℕ → Loading → Type 0
IsLoading contents before after project (Front front) = HasFront contents project front
IsLoading contents before after project (Refused answer) = (answer.status ≡ 3) × IsRefusedBy contents before after project answer.text

-- the answer tells this refusal
abbrev pub IsCauseLoading : LoadRefusal → Loading → Type 0
IsCauseLoading e (Front front) = ⊥
IsCauseLoading e (Refused answer) = IsTheLine e answer.status answer.text

-- the front of a project with these trees, or the line of one that isn't typed
abbrev pub IsTreesLoading : Trees → Loading → Type 0
IsTreesLoading trees (Front front) = IsFrontOf trees front
IsTreesLoading trees (Refused answer) = (answer.status ≡ 3) × IsTypeLine trees answer.text

abbrev pub IsUnboundLoading : Trees → LoadRefusal → Loading → Type 0
IsUnboundLoading trees e (Front front) = ⊥
IsUnboundLoading trees e (Refused answer) = IsUnboundAnswer trees e answer.status answer.text
