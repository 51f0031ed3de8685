-- The answers of the commands, put together.
use Rattle.std.proofs.Common.{◌≡◌, ℕ, List, Some, Result, Ok, Err, ap, sym, ◌∙◌, inl, inr, subst}
use Rattle.std.specs.Prelude.{IfOk}
use Rattle.outside_world.specs.Told.{Contents}
use Rattle.no_memory.specs.declared.NoMemory.{NoMemory}
use Rattle.script_loader.specs.declared.refusal.LoadRefusal.{LoadRefusal}
use Rattle.script_loader.specs.declared.refusal.LoadRefusal.TheVariants as refusal
use Rattle.script_loader.specs.declared.front.LoadedFront.{LoadedFront}
use Rattle.script_loader.specs.Seen.{Trees}
use Rattle.script_loader.specs.Refusals.{IsTold}
use Rattle.script_loader.specs.Scripts.{scripts_of}
use Rattle.script_loader.specs.Cause.{HasTrees}
use Rattle.script_loader.specs.Front.{IsFrontOf, FrontCause, TypeCause, IsIllIn, IsUnboundIn, GivesCause, GivesUnbound}
use Rattle.smlserver_top.specs.declared.answer.Answer.{Answer}
use Rattle.smlserver_top.specs.declared.loading.Loading.{Loading}
use Rattle.smlserver_top.specs.declared.loading.Loading.TheVariants.{Front, Refused}
use Rattle.smlserver_top.specs.Words.{IsPageCommand, IsCheckCommand}
use Rattle.smlserver_top.specs.Databases.{same_names, given_by}
use Rattle.smlserver_top.specs.Refusal.{line_of}
use Rattle.smlserver_top.specs.Page.{programs_of, IsPathAnswer, IsLoadedAnswer, IsLineOf, IsTypeLine, IsRefusedBy, IsTheLine, IsPageAnswer, IsCheckAnswer, IsPageOfTrees, IsUnboundAnswer}
use Rattle.smlserver_top.specs.Loading.{IsCauseLoading, IsTreesLoading, IsUnboundLoading}
use Rattle.smlserver_top.specs.Commands.{IsAnswer, of_page, of_check}
use Rattle.smlserver_top.proofs.Programs.{front_programs}

-- want of memory has no line
pub no_line : (e : LoadRefusal) (text : List ℕ) → e ≡ refusal.NoMemory → line_of e ≡ Some text → ⊥
no_line e text none line = let f = ap line_of none in absurd (cc)

-- the line of a refusal with a cause
pub told_line : (Cause : LoadRefusal → Type 0) (e : LoadRefusal) (status : ℕ) (text : List ℕ) → IsTold Cause e → IsTheLine e status text → (status ≡ 3) × IsLineOf Cause text
told_line Cause e status text (inl cause) line = (line.0, (e, cause, line.1))
told_line Cause e status text (inr none) line = absurd (no_line e text none line.1)

-- the one refusal
pub the_line : (f e : LoadRefusal) (status : ℕ) (text : List ℕ) → GivesCause (Err f) e → IsTheLine f status text → IsTheLine e status text
the_line f e status text (inl same) line = let s : f ≡ e = cc in subst (λ g. IsTheLine g status text) s line
the_line f e status text (inr none) line = let s : f ≡ refusal.NoMemory = cc in absurd (no_line f text s line.1)

pub no_front : (front : LoadedFront) (e : LoadRefusal) → GivesCause (Ok front) e → ⊥
no_front front e (inl same) = absurd (cc)
no_front front e (inr none) = absurd (cc)

pub unbound_line : (trees : Trees) (f e : LoadRefusal) (status : ℕ) (text : List ℕ) → GivesUnbound (Err f) trees e → IsTheLine f status text → IsUnboundAnswer trees e status text
unbound_line trees f e status text (inl same) line = (line.0, inl (ap line_of (sym same) ∙ line.1))
unbound_line trees f e status text (inr ill) line = let t = told_line (IsIllIn trees) f status text ill line in (t.0, inr t.1)

-- the answer of a front is that of its trees
pub of_trees : (given : List (List ℕ)) (trees : Trees) (front : LoadedFront) (project path : List ℕ) (status : ℕ) (text : List ℕ) → IsFrontOf trees front → IsLoadedAnswer (same_names given front.project.databases) project path (programs_of front) status text → IsLoadedAnswer (same_names given trees.project.databases) project path (scripts_of trees) status text
of_trees given trees front project path status text is answer =
    subst (λ scripts. IsLoadedAnswer (same_names given trees.project.databases) project path scripts status text) (front_programs trees front is)
    (subst (λ lines. IsLoadedAnswer (same_names given lines.databases) project path (programs_of front) status text) is.project_is answer)

-- the answer that a project isn't loaded, where its name is the copy of another
pub told_refused : (contents : Contents) (before after : ℕ) (project name : List ℕ) (e : LoadRefusal) (status : ℕ) (text : List ℕ) → name ≡ project → IsTold (FrontCause contents before after name) e → IsTheLine e status text → (status ≡ 3) × IsRefusedBy contents before after project text
told_refused contents before after project name e status text same told line =
    subst (λ p. (status ≡ 3) × IsRefusedBy contents before after p text) same (told_line (FrontCause contents before after name) e status text told line)

pub trees_refused : (contents : Contents) (project name : List ℕ) (trees : Trees) (e : LoadRefusal) (status : ℕ) (text : List ℕ) → name ≡ project → HasTrees contents project trees → ((t : Trees) → HasTrees contents name t → IsTold (TypeCause t) e) → IsTheLine e status text → (status ≡ 3) × IsTypeLine trees text
trees_refused contents project name trees e status text same has told line =
    told_line (TypeCause trees) e status text (told trees (subst (λ p. HasTrees contents p trees) (sym same) has)) line

pub unbound_refused : (contents : Contents) (project name : List ℕ) (trees : Trees) (f e : LoadRefusal) (status : ℕ) (text : List ℕ) → name ≡ project → HasTrees contents project trees → IsUnboundIn trees e → ((t : Trees) → HasTrees contents name t → (u : LoadRefusal) → IsUnboundIn t u → GivesUnbound (Err f) t u) → IsTheLine f status text → IsUnboundAnswer trees e status text
unbound_refused contents project name trees f e status text same has unbound gives line =
    unbound_line trees f e status text (gives trees (subst (λ p. HasTrees contents p trees) (sym same) has) e unbound) line

pub unbound_loaded : (contents : Contents) (project name : List ℕ) (trees : Trees) (front : LoadedFront) (e : LoadRefusal) → name ≡ project → HasTrees contents project trees → IsUnboundIn trees e → ((t : Trees) → HasTrees contents name t → (u : LoadRefusal) → IsUnboundIn t u → GivesUnbound (Ok front) t u) → ⊥
unbound_loaded contents project name trees front e same has unbound gives = gives trees (subst (λ p. HasTrees contents p trees) (sym same) has) e unbound

-- a project as it is loaded
pub front_of_trees : (given : List (List ℕ)) (trees : Trees) (loading : Loading) (front : LoadedFront) (project path : List ℕ) (r : Result Answer NoMemory) → loading ≡ Front front → IsTreesLoading trees loading → IfOk r (λ a. IsLoadedAnswer (same_names given front.project.databases) project path (programs_of front) a.status a.text) → IfOk r (λ a. IsPageOfTrees given trees project path a.status a.text)
front_of_trees given trees loading front project path (Err e) is loaded answer = tt
front_of_trees given trees loading front project path (Ok a) is loaded answer = inl (of_trees given trees front project path a.status a.text (subst (IsTreesLoading trees) is loaded) answer)

pub front_unbound : (trees : Trees) (e : LoadRefusal) (loading : Loading) (front : LoadedFront) → loading ≡ Front front → IsUnboundLoading trees e loading → ⊥
front_unbound trees e loading front is loaded = subst (IsUnboundLoading trees e) is loaded

pub refused_of_trees : (trees : Trees) (loading : Loading) (a : Answer) → loading ≡ Refused a → IsTreesLoading trees loading → (a.status ≡ 3) × IsTypeLine trees a.text
refused_of_trees trees loading a is loaded = subst (IsTreesLoading trees) is loaded

pub refused_unbound : (trees : Trees) (e : LoadRefusal) (loading : Loading) (a : Answer) → loading ≡ Refused a → IsUnboundLoading trees e loading → IsUnboundAnswer trees e a.status a.text
refused_unbound trees e loading a is loaded = subst (IsUnboundLoading trees e) is loaded

-- the same of a cause that has no trees
pub front_cause : (e : LoadRefusal) (loading : Loading) (front : LoadedFront) → loading ≡ Front front → IsCauseLoading e loading → ⊥
front_cause e loading front is loaded = subst (IsCauseLoading e) is loaded

pub refused_cause : (e : LoadRefusal) (loading : Loading) (a : Answer) → loading ≡ Refused a → IsCauseLoading e loading → IsTheLine e a.status a.text
refused_cause e loading a is loaded = subst (IsCauseLoading e) is loaded

-- the answers by the words
pub page_told : (contents : Contents) (before after : ℕ) (words : List (List ℕ)) (project path : List ℕ) (r : Result Answer NoMemory) → IsPageCommand words project path → IfOk r (λ a. IsPageAnswer contents before after (given_by words) project path a.status a.text) → IfOk r (λ a. IsAnswer contents before after words a.status a.text)
page_told contents before after words project path (Err e) w told = tt
page_told contents before after words project path (Ok a) w told = of_page project path w told

pub check_told : (contents : Contents) (before after : ℕ) (words : List (List ℕ)) (project : List ℕ) (r : Result Answer NoMemory) → IsCheckCommand words project → IfOk r (λ a. IsCheckAnswer contents before after project a.status a.text) → IfOk r (λ a. IsAnswer contents before after words a.status a.text)
check_told contents before after words project (Err e) w told = tt
check_told contents before after words project (Ok a) w told = of_check project w told
