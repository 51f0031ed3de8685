-- The trees of a project and the programs of its scripts, by names that other crates may use.
use Rattle.script_loader.specs.declared.load.ProjectTrees.{ProjectTrees}
use Rattle.script_loader.specs.declared.scripts.ScriptProgram.{ScriptProgram}

abbrev pub Trees : Type 0
Trees = ProjectTrees

abbrev pub Script : Type 0
Script = ScriptProgram
