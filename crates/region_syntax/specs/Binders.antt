-- What binds the regions and effect variables of a term, and which regions nothing binds. Of this project.
use Rattle.std.specs.Prelude.{ℕ, Bool, true, false, ◌&&◌, if◌then◌else◌, List, [], ◌∷◌, ◌++◌}
use Rattle.region_syntax.specs.declared.types.Effect.{Effect}
use Rattle.region_syntax.specs.RegionTerms as r
use Rattle.region_syntax.specs.Effects.{is_number_in}
use Rattle.region_syntax.specs.Cost.{regions_in, regions_of_type, regions_of_pat, leaving, distinct}

pub record Binders : Type 0 where
  -- the regions that fresh regions and groups bind, and the effect variables that groups bind: each as often as it is bound
  pub regions : List ℕ
  pub effects : List ℕ
  -- the regions that occur outside of what binds them
  pub loose : List ℕ

abbrev pub no_binders : Binders
no_binders = record { regions = []; effects = []; loose = [] }

abbrev pub joined : Binders → Binders → Binders
joined a b = record { regions = a.regions ++ b.regions; effects = a.effects ++ b.effects; loose = a.loose ++ b.loose }

-- these regions occur there too
abbrev pub occurring : List ℕ → Binders → Binders
occurring rs b = record { regions = b.regions; effects = b.effects; loose = rs ++ b.loose }

-- these regions and effect variables are bound around
abbrev pub bound_around : List ℕ → List ℕ → Binders → Binders
bound_around rs es b = record { regions = rs ++ b.regions; effects = es ++ b.effects; loose = leaving rs b.loose }

-- those of an instance's effects
unfoldable pub regions_in_each : List Effect → List ℕ
regions_in_each [] = []
regions_in_each (e ∷ es) = regions_in e.regions ++ regions_in_each es

-- what the names of a group bind, and where their closures lie
unfoldable pub defs_regions : r.Defs → List ℕ
defs_regions r.no_defs = []
defs_regions (r.defs head rs ds) = head.regions ++ defs_regions ds

unfoldable pub defs_effects : r.Defs → List ℕ
defs_effects r.no_defs = []
defs_effects (r.defs head rs ds) = head.effects ++ defs_effects ds

unfoldable pub defs_places : r.Defs → List ℕ
defs_places r.no_defs = []
defs_places (r.defs head rs ds) = regions_in (head.at ∷ []) ++ defs_places ds

-- those that stand there again behind themselves
unfoldable pub repeated : List ℕ → List ℕ
repeated [] = []
repeated (n ∷ ns) = if is_number_in n ns then n ∷ repeated ns else repeated ns

-- what one name of a group binds more than once
unfoldable pub repeated_regions : r.Defs → List ℕ
repeated_regions r.no_defs = []
repeated_regions (r.defs head rs ds) = repeated head.regions ++ repeated_regions ds

unfoldable pub repeated_effects : r.Defs → List ℕ
repeated_effects r.no_defs = []
repeated_effects (r.defs head rs ds) = repeated head.effects ++ repeated_effects ds

-- A group around its bodies, whose binders these are: several names of one group may bind the same, but no name binds anything twice; and
-- what one of them binds may occur in the bodies of all.
abbrev pub around_group : r.Defs → Binders → Binders
around_group ds b =
    occurring (defs_places ds)
    (bound_around (distinct (defs_regions ds) ++ repeated_regions ds) (distinct (defs_effects ds) ++ repeated_effects ds) b)

unfoldable mutual
  pub binders : r.Exp → Binders
  binders (r.exp a form) = occurring (regions_of_type a) (form_binders form)

  pub form_binders : r.Form → Binders
  form_binders (r.Str text at) = occurring (regions_in (at ∷ [])) no_binders
  form_binders (r.Tuple es at) = occurring (regions_in (at ∷ [])) (exps_binders es)
  form_binders (r.List_of es at) = occurring (regions_in (at ∷ [])) (exps_binders es)
  form_binders (r.Seq es) = exps_binders es
  form_binders (r.App f e) = joined (binders f) (binders e)
  form_binders (r.Let ds es) = joined (decs_binders ds) (exps_binders es)
  form_binders (r.Fn rs at) = occurring (regions_in (at ∷ [])) (rules_binders rs)
  form_binders (r.Case e rs) = joined (binders e) (rules_binders rs)
  form_binders (r.Handle e rs) = joined (binders e) (rules_binders rs)
  form_binders (r.Raise e) = binders e
  form_binders (r.If x y z) = joined (binders x) (joined (binders y) (binders z))
  form_binders (r.Both x y) = joined (binders x) (binders y)
  form_binders (r.Either x y) = joined (binders x) (binders y)
  form_binders (r.Quote ps at) = occurring (regions_in (at ∷ [])) (pieces_binders ps)
  form_binders (r.LetRegion rs e) = bound_around rs [] (binders e)
  form_binders (r.Fix ds e) = joined (around_group ds (defs_binders ds)) (binders e)
  form_binders (r.Inst name places effects) = occurring (regions_in places ++ regions_in_each effects) no_binders
  form_binders _ = no_binders

  pub exps_binders : r.Exps → Binders
  exps_binders r.no_exps = no_binders
  exps_binders (r.exps e es) = joined (binders e) (exps_binders es)

  pub rules_binders : r.Rules → Binders
  rules_binders r.no_rules = no_binders
  rules_binders (r.rules p e rs) = occurring (regions_of_pat p) (joined (binders e) (rules_binders rs))

  pub pieces_binders : r.Pieces → Binders
  pieces_binders r.no_pieces = no_binders
  pieces_binders (r.plain text ps) = pieces_binders ps
  pieces_binders (r.anti e ps) = joined (binders e) (pieces_binders ps)

  -- those of the types and bodies of a group
  pub defs_binders : r.Defs → Binders
  defs_binders r.no_defs = no_binders
  defs_binders (r.defs head rs ds) = occurring (regions_of_type head.ty) (joined (rules_binders rs) (defs_binders ds))

  pub decs_binders : r.Decs → Binders
  decs_binders r.no_decs = no_binders
  decs_binders (r.vals bs ds) = joined (rules_binders bs) (decs_binders ds)
  decs_binders (r.funs group ds) = joined (around_group group (defs_binders group)) (decs_binders ds)
  decs_binders (r.locals hidden shown ds) = joined (decs_binders hidden) (joined (decs_binders shown) (decs_binders ds))

unfoldable pub are_distinct : List ℕ → Bool
are_distinct [] = true
are_distinct (n ∷ ns) = if is_number_in n ns then false else are_distinct ns

-- each region and each effect variable is bound once, by a fresh region or by the names of one group
abbrev pub bind_once : Binders → Bool
bind_once b = are_distinct b.regions && are_distinct b.effects

unfoldable pub is_nothing : List ℕ → Bool
is_nothing [] = true
is_nothing _ = false

-- each region that occurs is bound around
unfoldable pub all_are_bound : Binders → Bool
all_are_bound b = is_nothing b.loose
