-- How the commands end, by status.
use Rattle.std.proofs.Common.{◌≡◌, ◌⊎◌, ℕ, ◌<◌, Bool, true, false, List, Option, Some, None, refl, sym, ◌∙◌, inl, inr, subst, arith}
use Rattle.outside_world.specs.Told.{Contents, GrewByFront}
use Rattle.script_loader.specs.declared.refusal.LoadRefusal.TheVariants as refusal
use Rattle.script_loader.specs.declared.front.LoadedFront.{LoadedFront}
use Rattle.script_loader.specs.Seen.{Script}
use Rattle.smlserver_top.specs.Words.{IsPageCommand, IsCheckCommand, AsksFor, AreBadWords}
use Rattle.smlserver_top.specs.Databases.{same_names, given_by}
use Rattle.smlserver_top.specs.Refusal.{line_of, not_built_line}
use Rattle.smlserver_top.specs.Page.{programs_of, script_at, no_script_body, ok_line, HasBody, HasNoParts, IsScriptAnswer, IsLoadedAnswer, IsLoaded}
use Rattle.smlserver_top.specs.Commands.{bad_words_line, IsStatus, IsPage, IsNotFound, AreOtherNames, IsNotBuilt, IsRefused, IsAnswer, of_page, of_check, of_none, IsText, IsEnd, IsUnfinished}

pub same_words : (words : List (List ℕ)) (project path other also : List ℕ) → IsPageCommand words project path → IsPageCommand words other also → (project ≡ other) × (path ≡ also)
same_words words project path other also a b = let e = sym a.words_are ∙ b.words_are in (cc, cc)

pub same_check : (words : List (List ℕ)) (project other : List ℕ) → IsCheckCommand words project → IsCheckCommand words other → project ≡ other
same_check words project other a b = let e = sym a.words_are ∙ b.words_are in cc

pub page_or_check : (words : List (List ℕ)) (project path other : List ℕ) → IsPageCommand words project path → IsCheckCommand words other → ⊥
page_or_check words project path other a b = let e = sym a.words_are ∙ b.words_are in absurd (cc)

-- facts of a page's project and path, by the words
pub of_page_words : (words : List (List ℕ)) (project path other also : List ℕ) (P : List ℕ → List ℕ → Type 0) → IsPageCommand words project path → IsPageCommand words other also → P project path → P other also
of_page_words words project path other also P a b p =
    let s = same_words words project path other also a b in
    subst (P other) s.1 (subst (λ q. P q path) s.0 p)

-- and of the project that they ask for
pub page_project : (words : List (List ℕ)) (project path other : List ℕ) (P : List ℕ → Type 0) → IsPageCommand words project path → AsksFor words other → P other → P project
page_project words project path other P a (inl b) p = subst P (sym (same_words words project path other b.0 a b.1).0) p
page_project words project path other P a (inr b) p = absurd (page_or_check words project path other a b)

pub check_project : (words : List (List ℕ)) (project other : List ℕ) (P : List ℕ → Type 0) → IsCheckCommand words project → AsksFor words other → P other → P project
check_project words project other P a (inl b) p = absurd (page_or_check words other b.0 project b.1 a)
check_project words project other P a (inr b) p = subst P (sym (same_check words project other a b)) p

pub none_asked : (words : List (List ℕ)) → ((project path : List ℕ) → IsPageCommand words project path → ⊥) → ((project : List ℕ) → IsCheckCommand words project → ⊥) → AreBadWords words
none_asked words page check project (inl a) = page project a.0 a.1
none_asked words page check project (inr a) = check project a

-- the status of an answer
script_status : (found : Option Script) (status : ℕ) (text : List ℕ) → IsScriptAnswer found status text → (status ≡ 0) ⊎ ((status ≡ 1) ⊎ (status ≡ 3))
script_status None status text answer = inr (inl answer.0)
script_status (Some script) status text (inl answer) = inl answer.0
script_status (Some script) status text (inr answer) = inr (inr answer.0)

loaded_status : (agree : Bool) (project path : List ℕ) (scripts : List Script) (status : ℕ) (text : List ℕ) → IsLoadedAnswer agree project path scripts status text → (status ≡ 0) ⊎ ((status ≡ 1) ⊎ (status ≡ 3))
loaded_status false project path scripts status text answer = inr (inr answer.0)
loaded_status true project path scripts status text answer = script_status (script_at path scripts) status text answer

front_status : (given : List (List ℕ)) (project path : List ℕ) (front : LoadedFront) (status : ℕ) (text : List ℕ) → IsLoadedAnswer (same_names given front.project.databases) project path (programs_of front) status text → (status ≡ 0) ⊎ ((status ≡ 1) ⊎ (status ≡ 3))
front_status given project path front status text answer = loaded_status (same_names given front.project.databases) project path (programs_of front) status text answer

answer_status : (contents : Contents) (before after : ℕ) (words : List (List ℕ)) (status : ℕ) (text : List ℕ) → IsAnswer contents before after words status text → (status ≡ 0) ⊎ ((status ≡ 1) ⊎ ((status ≡ 2) ⊎ (status ≡ 3)))
answer_status contents before after words status text (of_page project path w (inl a)) = elim (front_status (given_by words) project path a.0 status text a.2) [ inl e ↦ inl e | inr r ↦ elim r [ inl e ↦ inr (inl e) | inr e ↦ inr (inr (inr e)) ] ]
answer_status contents before after words status text (of_page project path w (inr r)) = inr (inr (inr r.0))
answer_status contents before after words status text (of_check project w (inl a)) = inl a.0
answer_status contents before after words status text (of_check project w (inr r)) = inr (inr (inr r.0))
answer_status contents before after words status text (of_none w e t) = inr (inr (inl e))

pub small_status : (contents : Contents) (before after : ℕ) (words : List (List ℕ)) (status : ℕ) (text : List ℕ) → IsAnswer contents before after words status text → status < 4
small_status contents before after words status text answer = elim (answer_status contents before after words status text answer) [
  | inl e ↦ omega (arith, e)
  | inr r ↦ elim r [ inl e ↦ omega (arith, e) | inr q ↦ elim q [ inl e ↦ omega (arith, e) | inr e ↦ omega (arith, e) ] ]
]

-- what a write of an answer comes to
pub written_end : (status result : ℕ) (text bytes : List ℕ) (Wrote : List ℕ → Type 0) (Answer : ℕ → List ℕ → Type 0) → bytes ≡ text → Answer status text → (result ≡ status) ⊎ ((result ≡ 4) ⊎ (result ≡ 7)) → (result ≡ status → Wrote bytes) → IsEnd result Wrote Answer
written_end status result text bytes Wrote Answer same answer (inl e) wrote = inl (text, subst (λ s. Answer s text) (sym e) answer, subst Wrote same (wrote e))
written_end status result text bytes Wrote Answer same answer (inr stopped) wrote = inr stopped

pub unfinished_text : (contents : Contents) (before after : ℕ) (words : List (List ℕ)) (status : ℕ) (text bytes : List ℕ) (old new : Option (List ℕ)) → bytes ≡ text → IsAnswer contents before after words status text → GrewByFront old bytes new → IsUnfinished old new (IsText contents before after words)
unfinished_text contents before after words status text bytes old new same answer grew = inr (text, (status, answer), subst (λ t. GrewByFront old t new) same grew)

-- the clauses of a run, by its status
abbrev End : Contents → ℕ → ℕ → List (List ℕ) → ℕ → (List ℕ → Type 0) → Type 0
End contents before after words result Wrote = IsEnd result Wrote (IsAnswer contents before after words)

pub end_status : (contents : Contents) (before after : ℕ) (words : List (List ℕ)) (result : ℕ) (Wrote : List ℕ → Type 0) → End contents before after words result Wrote → IsStatus result
end_status contents before after words result Wrote (inr (inl e)) = inr (inr (inr (inr (inl e))))
end_status contents before after words result Wrote (inr (inr e)) = inr (inr (inr (inr (inr e))))
end_status contents before after words result Wrote (inl a) = elim (answer_status contents before after words result a.0 a.1) [
  | inl e ↦ inl e
  | inr r ↦ elim r [ inl e ↦ inr (inl e) | inr q ↦ elim q [ inl e ↦ inr (inr (inl e)) | inr e ↦ inr (inr (inr (inl e))) ] ]
]

-- 2
two_answer : (contents : Contents) (before after : ℕ) (words : List (List ℕ)) (result : ℕ) (text : List ℕ) → IsAnswer contents before after words result text → result ≡ 2 → AreBadWords words × (text ≡ bad_words_line)
two_answer contents before after words result text (of_page project path w (inl a)) e = absurd (elim (front_status (given_by words) project path a.0 result text a.2) [ inl f ↦ omega (arith, e, f) | inr r ↦ elim r [ inl f ↦ omega (arith, e, f) | inr f ↦ omega (arith, e, f) ] ])
two_answer contents before after words result text (of_page project path w (inr r)) e = let f = r.0 in absurd (omega (arith, e, f))
two_answer contents before after words result text (of_check project w (inl a)) e = let f = a.0 in absurd (omega (arith, e, f))
two_answer contents before after words result text (of_check project w (inr r)) e = let f = r.0 in absurd (omega (arith, e, f))
two_answer contents before after words result text (of_none w s t) e = (w, t)

pub bad_words : (contents : Contents) (before after : ℕ) (words : List (List ℕ)) (result : ℕ) (Wrote : List ℕ → Type 0) → End contents before after words result Wrote → result ≡ 2 → AreBadWords words × Wrote bad_words_line
bad_words contents before after words result Wrote (inr (inl f)) e = absurd (omega (arith, e, f))
bad_words contents before after words result Wrote (inr (inr f)) e = absurd (omega (arith, e, f))
bad_words contents before after words result Wrote (inl a) e = let t = two_answer contents before after words result a.0 a.1 e in (t.0, subst Wrote t.1 a.2)

bad_answer : (contents : Contents) (before after : ℕ) (words : List (List ℕ)) (result : ℕ) (text : List ℕ) → IsAnswer contents before after words result text → AreBadWords words → result ≡ 2
bad_answer contents before after words result text (of_page project path w a) bad = absurd (bad project (inl (path, w)))
bad_answer contents before after words result text (of_check project w a) bad = absurd (bad project (inr w))
bad_answer contents before after words result text (of_none w s t) bad = s

pub bad_words_only : (contents : Contents) (before after : ℕ) (words : List (List ℕ)) (result : ℕ) (Wrote : List ℕ → Type 0) → End contents before after words result Wrote → AreBadWords words → (result ≡ 2) ⊎ ((result ≡ 4) ⊎ (result ≡ 7))
bad_words_only contents before after words result Wrote (inr stopped) bad = inr stopped
bad_words_only contents before after words result Wrote (inl a) bad = inl (bad_answer contents before after words result a.0 a.1 bad)

-- 3
script_refused : (found : Option Script) (status : ℕ) (text : List ℕ) → IsScriptAnswer found status text → status ≡ 3 → (script : Script) × (found ≡ Some script) × HasNoParts script × (text ≡ not_built_line script.file)
script_refused None status text answer e = let f = answer.0 in absurd (omega (arith, e, f))
script_refused (Some script) status text (inl answer) e = let f = answer.0 in absurd (omega (arith, e, f))
script_refused (Some script) status text (inr answer) e = (script, refl, answer.1, answer.2)

loaded_refused : (agree : Bool) (project path : List ℕ) (scripts : List Script) (status : ℕ) (text : List ℕ) → IsLoadedAnswer agree project path scripts status text → status ≡ 3 → ((agree ≡ false) × (line_of (refusal.DatabaseNames project 0) ≡ Some text)) ⊎ ((agree ≡ true) × ((script : Script) × (script_at path scripts ≡ Some script) × HasNoParts script × (text ≡ not_built_line script.file)))
loaded_refused false project path scripts status text answer e = inl (refl, answer.1)
loaded_refused true project path scripts status text answer e = inr (refl, script_refused (script_at path scripts) status text answer e)

three_answer : (contents : Contents) (before after : ℕ) (words : List (List ℕ)) (result : ℕ) (text : List ℕ) → IsAnswer contents before after words result text → result ≡ 3 → IsRefused contents before after words text ⊎ (AreOtherNames contents words text ⊎ IsNotBuilt contents words text)
three_answer contents before after words result text (of_page project path w (inl a)) e =
    elim (loaded_refused (same_names (given_by words) a.0.project.databases) project path (programs_of a.0) result text a.2 e) [
      | inl d ↦ inr (inl (project, path, w, (a.0, a.1, d.0), d.1))
      | inr r ↦ inr (inr (project, path, w, (r.1.0, record { front = a.0; held = a.1; agree = r.0; found = r.1.1 }, r.1.2, r.1.3)))
    ]
three_answer contents before after words result text (of_page project path w (inr r)) e = inl (project, inl (path, w), r.1)
three_answer contents before after words result text (of_check project w (inl a)) e = let f = a.0 in absurd (omega (arith, e, f))
three_answer contents before after words result text (of_check project w (inr r)) e = inl (project, inr w, r.1)
three_answer contents before after words result text (of_none w s t) e = absurd (omega (arith, e, s))

pub refused : (contents : Contents) (before after : ℕ) (words : List (List ℕ)) (result : ℕ) (Wrote : List ℕ → Type 0) → End contents before after words result Wrote → result ≡ 3 → (line : List ℕ) × (IsRefused contents before after words line ⊎ (AreOtherNames contents words line ⊎ IsNotBuilt contents words line)) × Wrote line
refused contents before after words result Wrote (inr (inl f)) e = absurd (omega (arith, e, f))
refused contents before after words result Wrote (inr (inr f)) e = absurd (omega (arith, e, f))
refused contents before after words result Wrote (inl a) e = (a.0, three_answer contents before after words result a.0 a.1 e, a.2)

-- 1
script_lacking : (found : Option Script) (status : ℕ) (text : List ℕ) → IsScriptAnswer found status text → status ≡ 1 → (found ≡ None) × (text ≡ no_script_body)
script_lacking None status text answer e = (refl, answer.1)
script_lacking (Some script) status text (inl answer) e = let f = answer.0 in absurd (omega (arith, e, f))
script_lacking (Some script) status text (inr answer) e = let f = answer.0 in absurd (omega (arith, e, f))

loaded_lacking : (agree : Bool) (project path : List ℕ) (scripts : List Script) (status : ℕ) (text : List ℕ) → IsLoadedAnswer agree project path scripts status text → status ≡ 1 → (agree ≡ true) × (script_at path scripts ≡ None) × (text ≡ no_script_body)
loaded_lacking false project path scripts status text answer e = let f = answer.0 in absurd (omega (arith, e, f))
loaded_lacking true project path scripts status text answer e = let l = script_lacking (script_at path scripts) status text answer e in (refl, l.0, l.1)

one_answer : (contents : Contents) (before after : ℕ) (words : List (List ℕ)) (result : ℕ) (text : List ℕ) → IsAnswer contents before after words result text → result ≡ 1 → IsNotFound contents words × (text ≡ no_script_body)
one_answer contents before after words result text (of_page project path w (inl a)) e =
    let r = loaded_lacking (same_names (given_by words) a.0.project.databases) project path (programs_of a.0) result text a.2 e in
    ((project, path, w, (a.0, a.1, r.0, r.1)), r.2)
one_answer contents before after words result text (of_page project path w (inr r)) e = let f = r.0 in absurd (omega (arith, e, f))
one_answer contents before after words result text (of_check project w (inl a)) e = let f = a.0 in absurd (omega (arith, e, f))
one_answer contents before after words result text (of_check project w (inr r)) e = let f = r.0 in absurd (omega (arith, e, f))
one_answer contents before after words result text (of_none w s t) e = absurd (omega (arith, e, s))

pub not_found : (contents : Contents) (before after : ℕ) (words : List (List ℕ)) (result : ℕ) (Wrote : List ℕ → Type 0) → End contents before after words result Wrote → result ≡ 1 → IsNotFound contents words × Wrote no_script_body
not_found contents before after words result Wrote (inr (inl f)) e = absurd (omega (arith, e, f))
not_found contents before after words result Wrote (inr (inr f)) e = absurd (omega (arith, e, f))
not_found contents before after words result Wrote (inl a) e = let t = one_answer contents before after words result a.0 a.1 e in (t.0, subst Wrote t.1 a.2)

-- 0
script_body : (found : Option Script) (status : ℕ) (text : List ℕ) → IsScriptAnswer found status text → status ≡ 0 → (script : Script) × (found ≡ Some script) × HasBody script text
script_body None status text answer e = let f = answer.0 in absurd (omega (arith, e, f))
script_body (Some script) status text (inl answer) e = (script, refl, answer.1)
script_body (Some script) status text (inr answer) e = let f = answer.0 in absurd (omega (arith, e, f))

loaded_body : (agree : Bool) (project path : List ℕ) (scripts : List Script) (status : ℕ) (text : List ℕ) → IsLoadedAnswer agree project path scripts status text → status ≡ 0 → (agree ≡ true) × ((script : Script) × (script_at path scripts ≡ Some script) × HasBody script text)
loaded_body false project path scripts status text answer e = let f = answer.0 in absurd (omega (arith, e, f))
loaded_body true project path scripts status text answer e = (refl, script_body (script_at path scripts) status text answer e)

page_answer : (contents : Contents) (before after : ℕ) (words : List (List ℕ)) (result : ℕ) (text project path : List ℕ) → IsAnswer contents before after words result text → IsPageCommand words project path → result ≡ 0 → IsPage contents (given_by words) project path text
page_answer contents before after words result text project path (of_page other also w (inl a)) asked e =
    let r = loaded_body (same_names (given_by words) a.0.project.databases) other also (programs_of a.0) result text a.2 e in
    of_page_words words other also project path (λ p q. IsPage contents (given_by words) p q text) w asked (r.1.0, record { front = a.0; held = a.1; agree = r.0; found = r.1.1 }, r.1.2)
page_answer contents before after words result text project path (of_page other also w (inr r)) asked e = let f = r.0 in absurd (omega (arith, e, f))
page_answer contents before after words result text project path (of_check other w a) asked e = absurd (page_or_check words project path other asked w)
page_answer contents before after words result text project path (of_none w s t) asked e = absurd (omega (arith, e, s))

pub page : (contents : Contents) (before after : ℕ) (words : List (List ℕ)) (result : ℕ) (Wrote : List ℕ → Type 0) (project path : List ℕ) → End contents before after words result Wrote → IsPageCommand words project path → result ≡ 0 → (body : List ℕ) × IsPage contents (given_by words) project path body × Wrote body
page contents before after words result Wrote project path (inr (inl f)) asked e = absurd (omega (arith, e, f))
page contents before after words result Wrote project path (inr (inr f)) asked e = absurd (omega (arith, e, f))
page contents before after words result Wrote project path (inl a) asked e = (a.0, page_answer contents before after words result a.0 project path a.1 asked e, a.2)

check_answer : (contents : Contents) (before after : ℕ) (words : List (List ℕ)) (result : ℕ) (text project : List ℕ) → IsAnswer contents before after words result text → IsCheckCommand words project → result ≡ 0 → IsLoaded contents project × (text ≡ ok_line)
check_answer contents before after words result text project (of_page other also w a) asked e = absurd (page_or_check words other also project w asked)
check_answer contents before after words result text project (of_check other w (inl a)) asked e = (subst (IsLoaded contents) (same_check words other project w asked) a.1, a.2)
check_answer contents before after words result text project (of_check other w (inr r)) asked e = let f = r.0 in absurd (omega (arith, e, f))
check_answer contents before after words result text project (of_none w s t) asked e = absurd (omega (arith, e, s))

pub checked : (contents : Contents) (before after : ℕ) (words : List (List ℕ)) (result : ℕ) (Wrote : List ℕ → Type 0) (project : List ℕ) → End contents before after words result Wrote → IsCheckCommand words project → result ≡ 0 → IsLoaded contents project × Wrote ok_line
checked contents before after words result Wrote project (inr (inl f)) asked e = absurd (omega (arith, e, f))
checked contents before after words result Wrote project (inr (inr f)) asked e = absurd (omega (arith, e, f))
checked contents before after words result Wrote project (inl a) asked e = let t = check_answer contents before after words result a.0 project a.1 asked e in (t.0, subst Wrote t.1 a.2)
