-- The reading of a project's files.
use Rattle.std.proofs.Common.{◌≡◌, ℕ, ◌+◌, ◌-◌, ◌≤◌, List, [], ◌∷◌, ◌++◌, length, refl, ap, sym, ◌∙◌, inl, inr, subst, arith, append_assoc, append-nil}
use Rattle.outside_world.specs.Told.{Contents, HoldsFile, LacksFile, HoldsLongFile, Rose}
use Rattle.project_lines.specs.declared.project.ProjectFile.{ProjectFile}
use Rattle.script_loader.specs.declared.source.Source.{Source}
use Rattle.script_loader.specs.declared.refusal.LoadRefusal.{LoadRefusal}
use Rattle.script_loader.specs.declared.refusal.LoadRefusal.TheVariants as refusal
use Rattle.project_lines.specs.declared.project.ProjectRefusal.{ProjectRefusal}
use Rattle.project_lines.specs.declared.project.ProjectRefusal.TheVariants as lines
use Rattle.project_lines.specs.Refused.{IsRefusedAs}
use Rattle.script_loader.specs.Refusals.{Tells, IsTold, line_refusal}
use Rattle.project_lines.specs.declared.project.Project.{Project}
use Rattle.script_loader.specs.Project.{most_bytes, HoldsProject, IsBadFile, unread, bad_line, IsUnreadable, unread_file}
use Rattle.script_loader.specs.Lists.{none}
use Rattle.script_loader.specs.Sources.{name_of, bytes_of, IsRead, AreRead, IsUnread, absent, failed, long, IsFirstUnread}
use Rattle.script_loader.specs.Reading.{TakesFile, ReadSoFar}
use Rattle.script_loader.proofs.Lists.{each_more}

-- a refusal with its cause
pub told_as : (Cause : LoadRefusal → Type 0) (e cause : LoadRefusal) → Cause cause → Tells e cause → IsTold Cause e
told_as Cause e cause c (inl same) = inl (subst Cause (sym same) c)
told_as Cause e cause c (inr m) = inr m

pub told_absent : (contents : Contents) (before after : ℕ) (project : List ℕ) (left : ℕ) (name : List ℕ) (e : LoadRefusal) → Tells e (refusal.FileFault name 0) → LacksFile contents name → IsTold (IsUnread contents before after project left name) e
told_absent contents before after project left name e t l = told_as (IsUnread contents before after project left name) e _ (absent l) t

pub told_failed : (contents : Contents) (before after : ℕ) (project : List ℕ) (left : ℕ) (name : List ℕ) (e : LoadRefusal) → Tells e (refusal.FileFault name 0) → Rose before after → IsTold (IsUnread contents before after project left name) e
told_failed contents before after project left name e t r = told_as (IsUnread contents before after project left name) e _ (failed r) t

pub told_long : (contents : Contents) (before after : ℕ) (project : List ℕ) (left : ℕ) (name : List ℕ) (e : LoadRefusal) → Tells e (refusal.TooLarge project 0) → HoldsLongFile contents name left → IsTold (IsUnread contents before after project left name) e
told_long contents before after project left name e t l = told_as (IsUnread contents before after project left name) e _ (long l) t

bytes_more : (sources : List Source) (source : Source) → bytes_of (sources ++ source ∷ []) ≡ bytes_of sources + length source.text
bytes_more [] source = omega arith
bytes_more (s ∷ sources) source = let more = bytes_more sources source in omega (arith, more)

pub none_read : (contents : Contents) (most : ℕ) (files : List ProjectFile) → ReadSoFar contents most most files files []
none_read contents most files = record { front = []; split = refl; read = none; bytes = omega arith }

pub one_read : (contents here_contents : Contents) (most left then : ℕ) (files here rest : List ProjectFile) (before after : List Source) (file : ProjectFile) → ReadSoFar contents most left files here before → here ≡ file ∷ rest → here_contents ≡ contents → TakesFile here_contents file left before then after → ReadSoFar contents most then files rest after
one_read contents here_contents most left then files here rest before after file r h same t =
    let sum = r.bytes in
    let more = bytes_more before t.source in
    let all = ap bytes_of t.grown in
    let after_is = t.left_is in
    record {
      front = r.front ++ file ∷ [];
      split = r.split ∙ ap (λ fs. r.front ++ fs) h ∙ sym (append_assoc r.front (file ∷ []) rest);
      read = subst (AreRead contents (r.front ++ file ∷ [])) (sym t.grown) (each_more r.read (subst (λ c. IsRead c file t.source) same t.read));
      bytes = omega (arith, sum, more, all, after_is);
    }

pub all_read : (contents : Contents) (most left : ℕ) (files rest : List ProjectFile) (sources : List Source) → ReadSoFar contents most left files rest sources → rest ≡ [] → AreRead contents files sources
all_read contents most left files rest sources r e =
    subst (λ fs. AreRead contents fs sources) (sym (r.split ∙ ap (λ fs. r.front ++ fs) e ∙ append-nil r.front)) r.read

pub all_within : (contents : Contents) (most left : ℕ) (files rest : List ProjectFile) (sources : List Source) → ReadSoFar contents most left files rest sources → bytes_of sources ≤ most
all_within contents most left files rest sources r = let sum = r.bytes in omega (arith, sum)

-- a count that rose from a greater one rose
unread_from : (contents : Contents) (before later after : ℕ) (project : List ℕ) (left : ℕ) (name : List ℕ) (e : LoadRefusal) → before ≤ later → IsUnread contents later after project left name e → IsUnread contents before after project left name e
unread_from contents before later after project left name _ l (absent a) = absent a
unread_from contents before later after project left name _ l (failed r) = failed (omega (arith, l, r))
unread_from contents before later after project left name _ l (long a) = long a

pub first_unread : (contents here_contents : Contents) (before later after : ℕ) (project : List ℕ) (most left : ℕ) (files here rest : List ProjectFile) (sources : List Source) (file : ProjectFile) (e : LoadRefusal) → ReadSoFar contents most left files here sources → here ≡ file ∷ rest → before ≤ later → here_contents ≡ contents → IsTold (IsUnread here_contents later after project left (name_of file)) e → IsTold (IsFirstUnread contents before after project most files) e
first_unread contents here_contents before later after project most left files here rest sources file e r h l same_contents (inl u) =
    let sum = r.bytes in
    let same : left ≡ most - bytes_of sources = omega (arith, sum) in
    inl (record {
      front = r.front;
      file = file;
      back = rest;
      split = r.split ∙ ap (λ fs. r.front ++ fs) h;
      sources = sources;
      read = r.read;
      within = omega (arith, sum);
      unread = subst (λ n. IsUnread contents before after project n (name_of file) e) same (unread_from contents before later after project left (name_of file) e l (subst (λ c. IsUnread c later after project left (name_of file) e) same_contents u));
    })
first_unread contents here_contents before later after project most left files here rest sources file e r h l same_contents (inr m) = inr m

-- the project file

pub told_unread : (contents : Contents) (before after : ℕ) (name : List ℕ) (e : LoadRefusal) → IsTold (IsUnread contents before after name most_bytes name) e → IsTold (IsBadFile contents before after name) e
told_unread contents before after name e (inl u) = inl (unread u)
told_unread contents before after name e (inr m) = inr m

pub told_bad_line : (contents : Contents) (before after : ℕ) (name text : List ℕ) (r : ProjectRefusal) (e : LoadRefusal) → HoldsFile contents name text → length text ≤ most_bytes → IsRefusedAs text r → Tells e (line_refusal name r) → IsTold (IsBadFile contents before after name) e
told_bad_line contents before after name text (lines.Line number fault) e h w f (inl t) = inl (bad_line (record { text = text; held = h; within = w; number = number; fault = fault; first = f; told = t }))
told_bad_line contents before after name text (lines.Line number fault) e h w f (inr m) = inr m
told_bad_line contents before after name text lines.NoMemory e h w f (inl t) = inr t
told_bad_line contents before after name text lines.NoMemory e h w f (inr m) = inr m

-- the files that it names

pub told_first_unread : (contents here_contents : Contents) (before later after : ℕ) (name : List ℕ) (project : Project) (left : ℕ) (named : List ProjectFile) (e : LoadRefusal) → HoldsProject contents name project left → named ≡ project.files → before ≤ later → here_contents ≡ contents → IsTold (IsFirstUnread here_contents later after name left named) e → IsTold (IsUnreadable contents before after name) e
told_first_unread contents here_contents before later after name project left named e h n l same (inl u) = inl (unread_file project left h (record {
  front = u.front;
  file = u.file;
  back = u.back;
  split = sym n ∙ u.split;
  sources = u.sources;
  read = subst (λ c. AreRead c u.front u.sources) same u.read;
  within = u.within;
  unread = unread_from contents before later after name (left - bytes_of u.sources) (name_of u.file) e l (subst (λ c. IsUnread c later after name (left - bytes_of u.sources) (name_of u.file) e) same u.unread);
}))
told_first_unread contents here_contents before later after name project left named e h n l same (inr m) = inr m
