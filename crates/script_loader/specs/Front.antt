-- The front of a project: its scripts with the types of their programs, or why there is none.
use Rattle.std.specs.Prelude.{◌≡◌, ◌⊎◌, ℕ, List, [], ◌∷◌, ◌++◌, length, Result, Ok, Err}
use Rattle.outside_world.specs.Told.{Contents}
use Rattle.typing_rules.specs.Scope.{IsOneOf, AllBound, IsFirstUnbound}
use Rattle.hm_infer.specs.Numbering.{HasNodes, IsItemPlace}
use Rattle.script_loader.specs.declared.refusal.LoadRefusal.{LoadRefusal}
use Rattle.script_loader.specs.declared.refusal.LoadRefusal.TheVariants as refusal
use Rattle.script_loader.specs.declared.placed.Placed.{Placed}
use Rattle.script_loader.specs.declared.load.ProjectTrees.{ProjectTrees}
use Rattle.script_loader.specs.declared.scripts.ScriptProgram.{ScriptProgram}
use Rattle.script_loader.specs.declared.front.LoadedFront.{LoadedFront}
use Rattle.script_loader.specs.declared.front.FrontScript.{FrontScript}
use Rattle.script_loader.specs.Cause.{LoadCause, HasTrees}
use Rattle.script_loader.specs.Lists.{Each}
use Rattle.script_loader.specs.Places.{place_in}
use Rattle.script_loader.specs.Refusals.{IsTold}
use Rattle.script_loader.specs.Scripts.{scripts_of, texts_before}

-- a script whose program has types, as `infer` gives them
pub record IsTyped (script : ScriptProgram) (typed : FrontScript) : Type 0 where
  pub path_is : typed.path ≡ script.path
  pub file_is : typed.file ≡ script.file
  pub prelude_is : typed.prelude ≡ script.prelude
  pub before_is : typed.before ≡ script.before
  pub program_is : typed.typed.program ≡ script.program
  pub types : HasNodes script.program (length typed.typed.types)
  pub bound : AllBound script.program

-- the front of a project with these trees
pub record IsFrontOf (trees : ProjectTrees) (front : LoadedFront) : Type 0 where
  pub project_is : front.project ≡ trees.project
  pub scripts : Each IsTyped (scripts_of trees) front.scripts

-- the front of the project of this name
pub record HasFront (contents : Contents) (project : List ℕ) (front : LoadedFront) : Type 0 where
  pub trees : ProjectTrees
  pub has : HasTrees contents project trees
  pub is : IsFrontOf trees front

-- the refusals of types, at a place of a script's program, told in the file that holds it
abbrev pub unbound_at : List Placed → ScriptProgram → ℕ → LoadRefusal
unbound_at texts script place = refusal.Unbound (place_in texts script.file place).0 (place_in texts script.file place).1

abbrev pub ill_at : List Placed → ScriptProgram → ℕ → LoadRefusal
ill_at texts script place = refusal.Ill (place_in texts script.file place).0 (place_in texts script.file place).1

-- all names of these scripts' programs have a binding
abbrev pub AreBound : List ScriptProgram → Type 0
AreBound scripts = (script : ScriptProgram) → IsOneOf script scripts → AllBound script.program

-- the first script with a name that has no binding, and the first place of one in its program
pub record IsUnboundIn (trees : ProjectTrees) (e : LoadRefusal) : Type 0 where
  pub front : List ScriptProgram
  pub here : ScriptProgram
  pub back : List ScriptProgram
  pub split : scripts_of trees ≡ front ++ here ∷ back
  pub bound : AreBound front
  pub place : ℕ
  pub first : IsFirstUnbound here.program place
  pub told : e ≡ unbound_at (texts_before trees) here place

-- a script with an item at which its program has no typing; all its names and those of the scripts before it have a binding
pub record IsIllIn (trees : ProjectTrees) (e : LoadRefusal) : Type 0 where
  pub front : List ScriptProgram
  pub here : ScriptProgram
  pub back : List ScriptProgram
  pub split : scripts_of trees ≡ front ++ here ∷ back
  pub bound : AreBound (front ++ here ∷ [])
  pub place : ℕ
  pub at_item : IsItemPlace here.program place
  pub told : e ≡ ill_at (texts_before trees) here place

-- why the scripts of a project with these trees aren't all typed
pub data TypeCause (trees : ProjectTrees) (e : LoadRefusal) : Type 0 where
  unbound_name : IsUnboundIn trees e → TypeCause trees e
  ill_item : IsIllIn trees e → TypeCause trees e

-- why a project has no front: it has no trees, or it has them and a script of it isn't typed. The counts are those of
-- failed reads, before the call and after it.
pub data FrontCause (contents : Contents) (before after : ℕ) (project : List ℕ) (e : LoadRefusal) : Type 0 where
  no_trees : LoadCause contents before after project e → FrontCause contents before after project e
  untyped : (trees : ProjectTrees) → HasTrees contents project trees → TypeCause trees e → FrontCause contents before after project e

-- What a call answers where it is known more of the project

-- this refusal, or want of memory
abbrev pub GivesCause : Result LoadedFront LoadRefusal → LoadRefusal → Type 0
GivesCause result e = (result ≡ Err e) ⊎ (result ≡ Err refusal.NoMemory)

-- the front of these trees, or why their scripts aren't typed, or want of memory
abbrev pub GivesFront : Result LoadedFront LoadRefusal → ProjectTrees → Type 0
GivesFront (Ok front) trees = IsFrontOf trees front
GivesFront (Err e) trees = IsTold (TypeCause trees) e

-- This refusal, or one of an item without a typing, or want of memory. Such an item is in an earlier script, since all
-- names of its script have a binding.
abbrev pub GivesUnbound : Result LoadedFront LoadRefusal → ProjectTrees → LoadRefusal → Type 0
GivesUnbound (Ok front) trees e = ⊥
GivesUnbound (Err f) trees e = (f ≡ e) ⊎ IsTold (IsIllIn trees) f
