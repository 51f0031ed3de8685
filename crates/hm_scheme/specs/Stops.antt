-- Why a call stops, by what the table of types refuses. Of this project.
use Rattle.hm_types.specs.declared.refusal.UnifyRefusal.{UnifyRefusal}
use Rattle.hm_types.specs.declared.refusal.UnifyRefusal.TheVariants as refusal
use Rattle.hm_scheme.specs.declared.refusal.Stop.{Stop}
use Rattle.hm_scheme.specs.declared.refusal.Stop.TheVariants as stop

abbrev pub stop_of : UnifyRefusal → Stop
stop_of refusal.Clash = stop.Ill
stop_of refusal.NoMemory = stop.NoMemory
