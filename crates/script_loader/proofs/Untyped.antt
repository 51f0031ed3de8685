-- The scripts of a project that aren't typed.
use Rattle.std.proofs.Common.{◌≡◌, ℕ, List, [], ◌∷◌, ◌++◌, Result, Ok, Err, IfOk, IfErr, sym, inl, inr, subst}
use Rattle.typing_rules.specs.Scope.{AllBound, IsFirstUnbound}
use Rattle.hm_infer.specs.Numbering.{IsItemPlace}
use Rattle.hm_infer.specs.declared.typed.Typed.{Typed}
use Rattle.hm_infer.specs.declared.refusal.TypeRefusal.{TypeRefusal}
use Rattle.hm_infer.specs.declared.refusal.TypeRefusal.TheVariants as types
use Rattle.outside_world.specs.Told.{Contents}
use Rattle.script_loader.specs.declared.placed.Placed.{Placed}
use Rattle.script_loader.specs.declared.refusal.LoadRefusal.{LoadRefusal}
use Rattle.script_loader.specs.declared.load.ProjectTrees.{ProjectTrees}
use Rattle.script_loader.specs.declared.scripts.ScriptProgram.{ScriptProgram}
use Rattle.script_loader.specs.declared.front.LoadedFront.{LoadedFront}
use Rattle.script_loader.specs.declared.front.FrontScript.{FrontScript}
use Rattle.script_loader.specs.Cause.{LoadCause, HasTrees}
use Rattle.script_loader.specs.Front.{IsTyped, AreBound, IsFrontOf, HasFront, TypeCause, unbound_name, ill_item, FrontCause, no_trees, untyped}
use Rattle.script_loader.specs.Lists.{Each, SoFar, Stops}
use Rattle.script_loader.specs.Refusals.{Tells, IsTold}
use Rattle.script_loader.specs.Scripts.{scripts_of, texts_before}
use Rattle.script_loader.specs.Untyped.{IsUntyped, is_unbound, is_ill, typing}
use Rattle.script_loader.proofs.Lists.{each_one, one_of_more, stops_here}

-- a script

pub untyped_as : (texts : List Placed) (script : ScriptProgram) (answer : Result Typed TypeRefusal) (r : TypeRefusal) (e : LoadRefusal) → answer ≡ Err r →
    ((place : ℕ) → answer ≡ Err (types.Unbound place) → IsFirstUnbound script.program place) →
    ((place : ℕ) → answer ≡ Err (types.Ill place) → IsItemPlace script.program place) →
    ((place : ℕ) → answer ≡ Err (types.Ill place) → AllBound script.program) →
    Tells e (typing texts script.file r) → IsTold (IsUntyped texts script) e
untyped_as texts script answer r e is unbound ill bound (inr m) = inr m
untyped_as texts script answer (types.Unbound place) e is unbound ill bound (inl t) = inl (is_unbound place (unbound place is) t)
untyped_as texts script answer (types.Ill place) e is unbound ill bound (inl t) = inl (is_ill place (bound place is) (ill place is) t)
untyped_as texts script answer types.NoMemory e is unbound ill bound (inl t) = inr t

-- the scripts

pub stops_untyped : (texts : List Placed) (all here rest : List ScriptProgram) (done : List FrontScript) (script : ScriptProgram) (e : LoadRefusal) → SoFar IsTyped all here done → here ≡ script ∷ rest → IsTold (IsUntyped texts script) e → IsTold (Stops IsTyped (IsUntyped texts) all) e
stops_untyped texts all here rest done script e s h (inl u) = inl (stops_here (IsUntyped texts) all here rest done script e s h u)
stops_untyped texts all here rest done script e s h (inr m) = inr m

each_bound : (scripts : List ScriptProgram) (typed : List FrontScript) → Each IsTyped scripts typed → AreBound scripts
each_bound scripts typed each script i = (each_one script scripts typed each i).1.bound

bound_more : (scripts : List ScriptProgram) (script : ScriptProgram) → AreBound scripts → AllBound script.program → AreBound (scripts ++ script ∷ [])
bound_more scripts script all bound other i = elim (one_of_more other scripts script i) [
  | inl j ↦ all other j
  | inr e ↦ subst (λ s. AllBound s.program) (sym e) bound
]

untyped_cause : (trees : ProjectTrees) (e : LoadRefusal) (s : Stops IsTyped (IsUntyped (texts_before trees)) (scripts_of trees) e) → IsUntyped (texts_before trees) s.here e → TypeCause trees e
untyped_cause trees e s (is_unbound place first told) = unbound_name (record { front = s.front; here = s.here; back = s.back; split = s.split; bound = each_bound s.front s.done s.each; place = place; first = first; told = told })
untyped_cause trees e s (is_ill place bound at told) = ill_item (record { front = s.front; here = s.here; back = s.back; split = s.split; bound = bound_more s.front s.here (each_bound s.front s.done s.each) bound; place = place; at_item = at; told = told })

pub told_untyped : (trees : ProjectTrees) (scripts : List ScriptProgram) (e : LoadRefusal) → scripts ≡ scripts_of trees → IsTold (Stops IsTyped (IsUntyped (texts_before trees)) scripts) e → IsTold (TypeCause trees) e
told_untyped trees scripts e same (inl s) = let t = subst (λ ss. Stops IsTyped (IsUntyped (texts_before trees)) ss e) same s in inl (untyped_cause trees e t t.fault)
told_untyped trees scripts e same (inr m) = inr m

-- the whole

pub told_no_trees : (contents : Contents) (before after : ℕ) (project : List ℕ) (e : LoadRefusal) → IsTold (LoadCause contents before after project) e → IsTold (FrontCause contents before after project) e
told_no_trees contents before after project e (inl c) = inl (no_trees c)
told_no_trees contents before after project e (inr m) = inr m

pub told_type : (contents : Contents) (before after : ℕ) (project : List ℕ) (trees : ProjectTrees) (r : Result LoadedFront LoadRefusal) → HasTrees contents project trees → IfErr r (IsTold (TypeCause trees)) → IfErr r (IsTold (FrontCause contents before after project))
told_type contents before after project trees (Ok front) h t = t
told_type contents before after project trees (Err e) h (inl c) = inl (untyped trees h c)
told_type contents before after project trees (Err e) h (inr m) = inr m

pub front_found : (contents : Contents) (project : List ℕ) (trees : ProjectTrees) (r : Result LoadedFront LoadRefusal) → HasTrees contents project trees → IfOk r (IsFrontOf trees) → IfOk r (HasFront contents project)
front_found contents project trees (Ok front) h f = record { trees = trees; has = h; is = f }
front_found contents project trees (Err e) h f = f
