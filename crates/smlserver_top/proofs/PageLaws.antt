-- The answer of a script by its parts.
use Rattle.std.proofs.Common.{◌≡◌, ℕ, Bool, true, false, List, [], map, Some, None, Result, Ok, Err, refl, ap, sym, ◌∙◌, inl, inr, subst}
use Rattle.std.specs.Prelude.{IfOk}
use Rattle.std.specs.Option.{option_map}
use Rattle.no_memory.specs.declared.NoMemory.{NoMemory}
use Rattle.script_loader.specs.declared.refusal.LoadRefusal.TheVariants as refusal
use Rattle.script_loader.specs.declared.front.FrontScript.{FrontScript}
use Rattle.smlserver_top.specs.declared.answer.Answer.{Answer}
use Rattle.smlserver_top.specs.Script.{script_in}
use Rattle.smlserver_top.proofs.Programs.{found_at}
use Rattle.sml_syntax.specs.declared.tree.Dec.{Dec}
use Rattle.sml_evaluation.specs.Page.{PageOf, Finished, html_type}
use Rattle.script_loader.specs.Seen.{Script}
use Rattle.smlserver_top.specs.declared.part.Part.{Part}
use Rattle.smlserver_top.specs.Straight.{IsStraight}
use Rattle.smlserver_top.specs.Parts.{text_of}
use Rattle.smlserver_top.specs.Refusal.{not_built_line}
use Rattle.smlserver_top.specs.Page.{program_of, script_at, own_items, no_script_body, HasNoParts, IsTheLine, IsScriptAnswer, IsPathAnswer, IsLoadedAnswer}
use Rattle.smlserver_top.proofs.Evaluated.{straight_page}

-- the evaluation of straight declarations gives the text of their parts
pub body_answer : (script : Script) (items : List Dec) (parts : List Part) (body : List ℕ) → script.before ≡ script.prelude → items ≡ own_items script → IsStraight items parts → body ≡ text_of parts → IsScriptAnswer (Some script) 0 body
body_answer script items parts body alone same form e =
    let straight = subst (λ decs. IsStraight decs parts) same form in
    inl (
      refl,
      record {
        alone = alone;
        parts = parts;
        form = straight;
        evaluated = subst (λ t. PageOf (own_items script) [] [] [] [] (Finished 200 html_type t)) (sym e) (straight_page (own_items script) parts straight [] []);
      },
    )

pub no_parts : (script : Script) (items : List Dec) → items ≡ own_items script → ((parts : List Part) → IsStraight items parts → ⊥) → HasNoParts script
no_parts script items same none alone parts s = none parts (subst (λ decs. IsStraight decs parts) (sym same) s)

pub not_built : (script : Script) (r : Result Answer NoMemory) → HasNoParts script → IfOk r (λ a. a.status ≡ 3) → IfOk r (λ a. a.text ≡ not_built_line script.file) → IfOk r (λ a. IsScriptAnswer (Some script) a.status a.text)
not_built script (Err e) none s t = tt
not_built script (Ok a) none s t = inr (s, none, t)

-- the script that is found
pub some_answer : (path : List ℕ) (scripts items : List FrontScript) (script : FrontScript) (r : Result Answer NoMemory) → Some script ≡ script_in path items → items ≡ scripts → IfOk r (λ a. IsScriptAnswer (Some (program_of script)) a.status a.text) → IfOk r (λ a. IsPathAnswer path (map program_of scripts) a.status a.text)
some_answer path scripts items script (Err e) found same answer = tt
some_answer path scripts items script (Ok a) found same answer =
    let at : script_at path (map program_of scripts) ≡ Some (program_of script) = found_at path scripts ∙ ap (option_map program_of) (sym (found ∙ ap (script_in path) same)) in
    subst (λ o. IsScriptAnswer o a.status a.text) (sym at) answer

pub none_answer : (path : List ℕ) (scripts items : List FrontScript) (r : Result Answer NoMemory) → None ≡ script_in path items → items ≡ scripts → IfOk r (λ a. a ≡ record { status = 1; text = no_script_body }) → IfOk r (λ a. IsPathAnswer path (map program_of scripts) a.status a.text)
none_answer path scripts items (Err e) found same answer = tt
none_answer path scripts items (Ok a) found same answer =
    let at : script_at path (map program_of scripts) ≡ None = found_at path scripts ∙ ap (option_map program_of) (sym (found ∙ ap (script_in path) same)) in
    subst (λ o. IsScriptAnswer o a.status a.text) (sym at) (ap (λ (b : Answer). b.status) answer, ap (λ (b : Answer). b.text) answer)

-- a project that is loaded, by whether the databases that are given are those that it names
pub names_agree : (agree : Bool) (project path : List ℕ) (scripts : List Script) (r : Result Answer NoMemory) → agree ≡ true → IfOk r (λ a. IsPathAnswer path scripts a.status a.text) → IfOk r (λ a. IsLoadedAnswer agree project path scripts a.status a.text)
names_agree agree project path scripts (Err e) is answer = tt
names_agree agree project path scripts (Ok a) is answer = subst (λ b. IsLoadedAnswer b project path scripts a.status a.text) (sym is) answer

pub names_are_others : (agree : Bool) (project path : List ℕ) (scripts : List Script) (r : Result Answer NoMemory) → agree ≡ false → IfOk r (λ a. IsTheLine (refusal.DatabaseNames project 0) a.status a.text) → IfOk r (λ a. IsLoadedAnswer agree project path scripts a.status a.text)
names_are_others agree project path scripts (Err e) is answer = tt
names_are_others agree project path scripts (Ok a) is answer = subst (λ b. IsLoadedAnswer b project path scripts a.status a.text) (sym is) answer
