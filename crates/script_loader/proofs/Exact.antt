-- Where files tell what they hold and no read fails, a project has one cause of refusal, or one list of trees, and never both.
use Rattle.std.proofs.Common.{◌≡◌, ℕ, ◌+◌, ◌-◌, ◌<◌, ◌≤◌, List, [], ◌∷◌, ◌++◌, length, Option, Some, Result, Ok, Err, IfOk, IfErr, refl, ap, sym, ◌∙◌, inl, inr, subst, arith}
use Rattle.std.proofs.lemmas.Bool.{cases_lt}
use Rattle.outside_world.specs.Told.{Contents, Rose, HoldsFile}
use Rattle.project_lines.specs.declared.project.Project.{Project}
use Rattle.project_lines.specs.declared.project.ProjectFile.{ProjectFile}
use Rattle.project_lines.specs.ProjectFile.{IsProject, IsFirstBadLine}
use Rattle.project_lines.proofs.Exact as lines
use Rattle.sml_syntax.specs.declared.tree.Program.{Program}
use Rattle.sml_syntax.proofs.Lists.{cons_parts, same_cut}
use Rattle.sml_lex.proofs.Unique.{one-refusal, not-both}
use Rattle.sml_parse.specs.Parses.{Parses, IsTree}
use Rattle.sml_parse.proofs.Meaning.{one_answer}
use Rattle.script_loader.specs.declared.refusal.LoadRefusal.{LoadRefusal}
use Rattle.script_loader.specs.declared.source.Source.{Source}
use Rattle.script_loader.specs.declared.placed.Placed.{Placed}
use Rattle.typing_rules.specs.Scope.{IsOneOf, IsFirstUnbound}
use Rattle.script_loader.specs.declared.load.ProjectTrees.{ProjectTrees}
use Rattle.script_loader.specs.declared.front.LoadedFront.{LoadedFront}
use Rattle.script_loader.specs.Lists.{Each, none, one}
use Rattle.script_loader.specs.Refusals.{IsTold, lexical, grammatical, fault_refusal}
use Rattle.script_loader.specs.Sources.{name_of, bytes_of, IsRead, AreRead, IsUnread, absent, failed, long, IsFirstUnread}
use Rattle.script_loader.specs.Project.{most_bytes, HoldsProject, HoldsFiles, IsBadFile, unread, bad_line, IsUnreadable, bad_file, unread_file}
use Rattle.script_loader.specs.Trees.{IsTreeOf, AreTrees}
use Rattle.script_loader.specs.Cause.{Step, Lexing, Parsing, number_of, IsMistake, IsFirstMistake, LoadCause, in_prelude, unreadable, mistaken, HasTrees, AreSure}
use Rattle.script_loader.specs.Places.{placed, prelude_source}
use Rattle.script_loader.specs.Scripts.{texts_before}
use Rattle.script_loader.specs.Front.{IsTyped, IsFrontOf, HasFront, unbound_at, IsUnboundIn, TypeCause, unbound_name, ill_item, FrontCause, no_trees, untyped, GivesCause, GivesFront, GivesUnbound}
use Rattle.script_loader.proofs.Lists.{each_at, one_behind}
use Rattle.script_loader.proofs.Order.{one_tokens, read_well}

-- an item that stands in a list at two cuts stands at the same place, or one of them in the front of the other
pub data Places {A : Type 0} (a : List A) (x : A) (b c : List A) (y : A) (d : List A) : Type 0 where
  same : a ≡ c → x ≡ y → b ≡ d → Places a x b c y d
  first_before : (m : List A) → c ≡ a ++ x ∷ m → Places a x b c y d
  second_before : (m : List A) → a ≡ c ++ y ∷ m → Places a x b c y d

in_front : {A : Type 0} (a : List A) (x : A) (b c : List A) (y : A) (d : List A) → a ++ x ∷ b ≡ c ++ y ∷ d → length a < length c → (m : List A) × (c ≡ a ++ x ∷ m)
in_front [] x b [] y d e l = absurd (omega (arith, l))
in_front [] x b (z ∷ c) y d e l = (c, let p = cons_parts x z b (c ++ y ∷ d) e in ap (λ k. k ∷ c) (sym p.0))
in_front (z ∷ a) x b [] y d e l = absurd (omega (arith, l))
in_front (z ∷ a) x b (w ∷ c) y d e l =
    let p = cons_parts z w (a ++ x ∷ b) (c ++ y ∷ d) e in
    let more = in_front a x b c y d p.1 (omega (arith, l)) in
    (more.0, ap (λ k. k ∷ c) (sym p.0) ∙ ap (λ k. z ∷ k) more.1)

places : {A : Type 0} (a : List A) (x : A) (b c : List A) (y : A) (d : List A) → a ++ x ∷ b ≡ c ++ y ∷ d → Places a x b c y d
places a x b c y d e = elim (cases_lt (length a) (length c)) [
  | inl l ↦ (let f = in_front a x b c y d e l in first_before f.0 f.1)
  | inr h ↦ elim (cases_lt (length c) (length a)) [
    | inl l ↦ (let f = in_front c y d a x b (sym e) l in second_before f.0 f.1)
    | inr k ↦ (let p = same_cut a (x ∷ b) c (y ∷ d) e (omega (arith, h, k)) in let q = cons_parts x y b d p.1 in same p.0 q.0 q.1)
  ]
]

-- lists side by side
each_same : {A B : Type 0} {R : A → B → Type 0} (xs : List A) (ys zs : List B) → ((x : A) (y z : B) → R x y → R x z → y ≡ z) → Each R xs ys → Each R xs zs → ys ≡ zs
each_same [] [] [] f e d = refl
each_same [] [] (z ∷ zs) f e d = elim d [ ]
each_same [] (y ∷ ys) zs f e d = elim e [ ]
each_same (x ∷ xs) [] zs f e d = elim e [ ]
each_same (x ∷ xs) (y ∷ ys) [] f e d = elim d [ ]
each_same (x ∷ xs) (y ∷ ys) (z ∷ zs) f (one r e) (one s d) = ap (λ k. k ∷ ys) (f x y z r s) ∙ ap (λ k. z ∷ k) (each_same xs ys zs f e d)

-- the first mistake

one_mistake : (step : Step) (file : Placed) (e f : LoadRefusal) → IsMistake step file e → IsMistake step file f → e ≡ f
one_mistake Lexing file e f m n = m.told ∙ ap (lexical file.name) (one-refusal m.refused n.refused) ∙ sym n.told
one_mistake Parsing file e f m n =
    let tokens = one_tokens _ _ _ _ m.has n.has in
    let both = one_answer m.tokens (Err m.refusal) (Err n.refusal) m.refused (subst (λ z. Parses z (Err n.refusal)) (sym tokens) n.refused) in
    let found : m.refusal ≡ n.refusal = cc in
    m.told ∙ ap (grammatical file.name file.start) found ∙ sym n.told

same_step : (files : List Placed) (e f : LoadRefusal) (p : IsFirstMistake files e) (q : IsFirstMistake files f) → p.step ≡ q.step → e ≡ f
same_step files e f p q s = elim (places p.before p.here p.after q.before q.here q.after (sym p.split ∙ q.split)) [
  | same a x b ↦ one_mistake q.step q.here e f (subst (λ z. IsMistake q.step z e) x (subst (λ z. IsMistake z p.here e) s p.mistake)) q.mistake
  | first_before m h ↦ absurd (q.no_earlier_file p.before m p.here e h (subst (λ z. IsMistake z p.here e) s p.mistake))
  | second_before m h ↦ absurd (p.no_earlier_file q.before m q.here f h (subst (λ z. IsMistake z q.here f) (sym s) q.mistake))
]

earlier_step : (files : List Placed) (e f : LoadRefusal) (p : IsFirstMistake files e) (q : IsFirstMistake files f) → number_of p.step < number_of q.step → ⊥
earlier_step files e f p q l = q.no_earlier_step p.step p.before p.after p.here e l p.split p.mistake

same_number : (s t : Step) → number_of s ≡ number_of t → s ≡ t
same_number Lexing Lexing e = refl
same_number Lexing Parsing e = absurd (omega (arith, e))
same_number Parsing Lexing e = absurd (omega (arith, e))
same_number Parsing Parsing e = refl

pub one_first_mistake : (files : List Placed) (e f : LoadRefusal) → IsFirstMistake files e → IsFirstMistake files f → e ≡ f
one_first_mistake files e f p q = elim (cases_lt (number_of p.step) (number_of q.step)) [
  | inl l ↦ absurd (earlier_step files e f p q l)
  | inr h ↦ elim (cases_lt (number_of q.step) (number_of p.step)) [
    | inl l ↦ absurd (earlier_step files f e q p l)
    | inr k ↦ same_step files e f p q (same_number p.step q.step (omega (arith, h, k)))
  ]
]

spelt_well : (source : Placed) (tree : Program) (step : Step) (e : LoadRefusal) → IsTreeOf source tree → IsMistake step source e → ⊥
spelt_well source tree Lexing e t m = not-both t.has.has m.refused
spelt_well source tree Parsing e t m = read_well source tree e t m

pub no_mistake : (files : List Placed) (trees : List Program) (e : LoadRefusal) → AreTrees files trees → IsFirstMistake files e → ⊥
no_mistake files trees e each p =
    let found = each_at p.before p.here p.after trees (subst (λ fs. AreTrees fs trees) p.split each) in
    spelt_well p.here found.0 p.step e found.1 p.mistake

one_tree : (source : Placed) (t u : Program) → IsTreeOf source t → IsTreeOf source u → t ≡ u
one_tree source t u a b =
    let tokens = one_tokens _ _ _ _ a.has b.has in
    let both = one_answer a.tokens (Ok t) (Ok u) a.read (subst (λ z. IsTree z u) (sym tokens) b.read) in
    cc

-- what files hold that tell it

module _ (text_at : List ℕ → Option (List ℕ)) (before after : ℕ) (whole : Rose before after → ⊥) where
  some_same : {A : Type 0} (x y : A) → ◌≡◌ {A = Option A} (Some x) (Some y) → x ≡ y
  some_same x y e = cc

  one_text : (name s t : List ℕ) → HoldsFile (Some text_at) name s → HoldsFile (Some text_at) name t → s ≡ t
  one_text name s t h k = some_same s t (sym h ∙ k)

  -- a file that is held within what is left is read
  held_well : (project : List ℕ) (left : ℕ) (name text : List ℕ) (e : LoadRefusal) → HoldsFile (Some text_at) name text → length text ≤ left → IsUnread (Some text_at) before after project left name e → ⊥
  held_well project left name text _ h w (absent a) = let both = sym h ∙ a in absurd (cc)
  held_well project left name text _ h w (failed r) = whole r
  held_well project left name text _ h w (long (t, k, l)) = let same = ap length (one_text name text t h k) in omega (arith, same, w, l)

  one_unread : (project : List ℕ) (left : ℕ) (name : List ℕ) (e f : LoadRefusal) → IsUnread (Some text_at) before after project left name e → IsUnread (Some text_at) before after project left name f → e ≡ f
  one_unread project left name _ _ (absent a) (absent b) = refl
  one_unread project left name _ _ (absent a) (failed r) = refl
  one_unread project left name _ _ (absent a) (long (t, k, l)) = let both = sym k ∙ a in absurd (cc)
  one_unread project left name _ _ (failed r) q = absurd (whole r)
  one_unread project left name _ _ (long (t, k, l)) (absent a) = let both = sym k ∙ a in absurd (cc)
  one_unread project left name _ _ (long (t, k, l)) (failed r) = absurd (whole r)
  one_unread project left name _ _ (long a) (long b) = refl

  one_source : (file : ProjectFile) (s t : Source) → IsRead (Some text_at) file s → IsRead (Some text_at) file t → s ≡ t
  one_source file s t a b = ap (λ n. record { name = n; text = s.text }) (a.name_is ∙ sym b.name_is) ∙ ap (λ w. record { name = t.name; text = w }) (one_text (name_of file) s.text t.text a.held b.held)

  one_reading : (files : List ProjectFile) (s t : List Source) → AreRead (Some text_at) files s → AreRead (Some text_at) files t → s ≡ t
  one_reading files s t a b = each_same files s t one_source a b

  -- where all are read within the limit, none is unread
  bytes_in : (front : List ProjectFile) (file : ProjectFile) (back : List ProjectFile) (read sources : List Source) → AreRead (Some text_at) front read → AreRead (Some text_at) (front ++ file ∷ back) sources → (text : List ℕ) × HoldsFile (Some text_at) (name_of file) text × (bytes_of read + length text ≤ bytes_of sources)
  bytes_in [] file back [] [] f a = elim a [ ]
  bytes_in [] file back [] (s ∷ sources) f (one r d) = (s.text, r.held, omega arith)
  bytes_in [] file back (r ∷ read) sources f a = elim f [ ]
  bytes_in (x ∷ front) file back [] sources f a = elim f [ ]
  bytes_in (x ∷ front) file back (r ∷ read) [] f a = elim a [ ]
  bytes_in (x ∷ front) file back (r ∷ read) (s ∷ sources) (one g f) (one h d) =
      let found = bytes_in front file back read sources f d in
      let same = ap length (one_text (name_of x) r.text s.text g.held h.held) in
      let sum = found.2 in
      (found.0, found.1, omega (arith, same, sum))

  read_all : (project : List ℕ) (most : ℕ) (files : List ProjectFile) (sources : List Source) (e : LoadRefusal) → AreRead (Some text_at) files sources → bytes_of sources ≤ most → IsFirstUnread (Some text_at) before after project most files e → ⊥
  read_all project most files sources e a w u =
      let found = bytes_in u.front u.file u.back u.sources sources u.read (subst (λ fs. AreRead (Some text_at) fs sources) u.split a) in
      let sum = found.2 in
      held_well project (most - bytes_of u.sources) (name_of u.file) found.0 e found.1 (omega (arith, sum, w)) u.unread

  one_first_unread : (project : List ℕ) (most : ℕ) (files : List ProjectFile) (e f : LoadRefusal) → IsFirstUnread (Some text_at) before after project most files e → IsFirstUnread (Some text_at) before after project most files f → e ≡ f
  one_first_unread project most files e f p q = elim (places p.front p.file p.back q.front q.file q.back (sym p.split ∙ q.split)) [
    | same a x b ↦ one_unread project (most - bytes_of q.sources) (name_of q.file) e f
        (subst (λ z. IsUnread (Some text_at) before after project (most - bytes_of q.sources) (name_of z) e) x
        (subst (λ z. IsUnread (Some text_at) before after project (most - bytes_of z) (name_of p.file) e) (one_reading q.front p.sources q.sources (subst (λ z. AreRead (Some text_at) z p.sources) a p.read) q.read) p.unread)) q.unread
    | first_before m h ↦ absurd (read_all project most q.front q.sources e q.read q.within (record { front = p.front; file = p.file; back = m; split = h; sources = p.sources; read = p.read; within = p.within; unread = p.unread }))
    | second_before m h ↦ absurd (read_all project most p.front p.sources f p.read p.within (record { front = q.front; file = q.file; back = m; split = h; sources = q.sources; read = q.read; within = q.within; unread = q.unread }))
  ]

  -- the project file

  one_project : (name : List ℕ) (p q : Project) (l k : ℕ) → HoldsProject (Some text_at) name p l → HoldsProject (Some text_at) name q k → (p ≡ q) × (l ≡ k)
  one_project name p q l k a b =
      let text = one_text name a.text b.text a.held b.held in
      let size = ap length text in
      let one_sum = a.bytes in
      let two_sum = b.bytes in
      (lines.one_project b.text p q (subst (λ t. IsProject t p) text a.is) b.is, omega (arith, size, one_sum, two_sum))

  good_file : (name : List ℕ) (p : Project) (l : ℕ) (e : LoadRefusal) → HoldsProject (Some text_at) name p l → IsBadFile (Some text_at) before after name e → ⊥
  good_file name p l e h (unread u) = let sum = h.bytes in held_well name most_bytes name h.text e h.held (omega (arith, sum)) u
  good_file name p l e h (bad_line b) = lines.never_both b.text p b.number b.fault (subst (λ t. IsProject t p) (one_text name h.text b.text h.held b.held) h.is) b.first

  one_bad_file : (name : List ℕ) (e f : LoadRefusal) → IsBadFile (Some text_at) before after name e → IsBadFile (Some text_at) before after name f → e ≡ f
  one_bad_file name e f (unread u) (unread v) = one_unread name most_bytes name e f u v
  one_bad_file name e f (unread u) (bad_line b) = absurd (held_well name most_bytes name b.text e b.held b.within u)
  one_bad_file name e f (bad_line b) (unread u) = absurd (held_well name most_bytes name b.text f b.held b.within u)
  one_bad_file name e f (bad_line a) (bad_line b) =
      let same_text = one_text name a.text b.text a.held b.held in
      let found = lines.one_refusal b.text a.number b.number a.fault b.fault (subst (λ t. IsFirstBadLine t a.number a.fault) same_text a.first) b.first in
      a.told ∙ ap (λ n. fault_refusal name n a.fault) found.0 ∙ ap (fault_refusal name b.number) found.1 ∙ sym b.told

  one_unreadable : (name : List ℕ) (e f : LoadRefusal) → IsUnreadable (Some text_at) before after name e → IsUnreadable (Some text_at) before after name f → e ≡ f
  one_unreadable name e f (bad_file a) (bad_file b) = one_bad_file name e f a b
  one_unreadable name e f (bad_file a) (unread_file p l h u) = absurd (good_file name p l e h a)
  one_unreadable name e f (unread_file p l h u) (bad_file b) = absurd (good_file name p l f h b)
  one_unreadable name e f (unread_file p l h u) (unread_file q k i v) =
      let found = one_project name p q l k h i in
      one_first_unread name k q.files e f (subst (λ z. IsFirstUnread (Some text_at) before after name z q.files e) found.1 (subst (λ z. IsFirstUnread (Some text_at) before after name l z.files e) found.0 u)) v

  -- the texts of the files

  one_files : (name : List ℕ) (p q : Project) (s t : List Source) → HoldsFiles (Some text_at) name p s → HoldsFiles (Some text_at) name q t → (p ≡ q) × (s ≡ t)
  one_files name p q s t a b =
      let found = one_project name p q a.left b.left a.holds b.holds in
      (found.0, one_reading q.files s t (subst (λ z. AreRead (Some text_at) z.files s) found.0 a.read) b.read)

  -- and their starts
  one_placing : (name : List ℕ) (p q : Project) (s t : List Source) → HoldsFiles (Some text_at) name p s → HoldsFiles (Some text_at) name q t → placed p.files s ≡ placed q.files t
  one_placing name p q s t a b =
      let found = one_files name p q s t a b in
      ap (λ z. placed z.files s) found.0 ∙ ap (placed q.files) found.1

  readable : (name : List ℕ) (p : Project) (s : List Source) (e : LoadRefusal) → HoldsFiles (Some text_at) name p s → IsUnreadable (Some text_at) before after name e → ⊥
  readable name p s e h (bad_file b) = good_file name p h.left e h.holds b
  readable name p s e h (unread_file q k i v) =
      let found = one_project name q p k h.left i h.holds in
      read_all name h.left p.files s e h.read h.within (subst (λ z. IsFirstUnread (Some text_at) before after name z p.files e) found.1 (subst (λ z. IsFirstUnread (Some text_at) before after name k z.files e) found.0 v))

  -- the whole

  good_prelude : (tree : Program) (e : LoadRefusal) → IsTreeOf prelude_source tree → IsFirstMistake (prelude_source ∷ []) e → ⊥
  good_prelude tree e t m = no_mistake (prelude_source ∷ []) (tree ∷ []) e (one t none) m

  one_cause : (name : List ℕ) (e f : LoadRefusal) → LoadCause (Some text_at) before after name e → LoadCause (Some text_at) before after name f → e ≡ f
  one_cause name e f (in_prelude m) (in_prelude n) = one_first_mistake (prelude_source ∷ []) e f m n
  one_cause name e f (in_prelude m) (unreadable t i u) = absurd (good_prelude t e i m)
  one_cause name e f (in_prelude m) (mistaken t i p s h n) = absurd (good_prelude t e i m)
  one_cause name e f (unreadable t i u) (in_prelude n) = absurd (good_prelude t f i n)
  one_cause name e f (unreadable t i u) (unreadable v j w) = one_unreadable name e f u w
  one_cause name e f (unreadable t i u) (mistaken v j p s h n) = absurd (readable name p s e h u)
  one_cause name e f (mistaken t i p s h m) (in_prelude n) = absurd (good_prelude t f i n)
  one_cause name e f (mistaken t i p s h m) (unreadable v j w) = absurd (readable name p s f h w)
  one_cause name e f (mistaken t i p s h m) (mistaken v j q r k n) =
      one_first_mistake (placed q.files r) e f (subst (λ z. IsFirstMistake z e) (one_placing name p q s r h k) m) n

  no_cause : (name : List ℕ) (trees : ProjectTrees) (e : LoadRefusal) → HasTrees (Some text_at) name trees → LoadCause (Some text_at) before after name e → ⊥
  no_cause name trees e h (in_prelude m) = good_prelude trees.prelude e h.of_prelude m
  no_cause name trees e h (unreadable t i u) = readable name trees.project h.sources e h.held u
  no_cause name trees e h (mistaken t i p s k m) =
      no_mistake trees.files trees.trees e h.of_files (subst (λ z. IsFirstMistake z e) (one_placing name p trees.project s h.sources k h.held ∙ sym h.files_are) m)

  one_load : (name : List ℕ) (a b : ProjectTrees) → HasTrees (Some text_at) name a → HasTrees (Some text_at) name b → a ≡ b
  one_load name a b h k =
      let found = one_files name a.project b.project h.sources k.sources h.held k.held in
      let prelude = one_tree prelude_source a.prelude b.prelude h.of_prelude k.of_prelude in
      let files : a.files ≡ b.files = h.files_are ∙ one_placing name a.project b.project h.sources k.sources h.held k.held ∙ sym k.files_are in
      let trees = each_same b.files a.trees b.trees one_tree (subst (λ z. AreTrees z a.trees) files h.of_files) k.of_files in
      ap (λ z. record { project = z; prelude = a.prelude; files = a.files; trees = a.trees }) found.0
      ∙ ap (λ z. record { project = b.project; prelude = z; files = a.files; trees = a.trees }) prelude
      ∙ ap (λ z. record { project = b.project; prelude = b.prelude; files = z; trees = a.trees }) files
      ∙ ap (λ z. record { project = b.project; prelude = b.prelude; files = b.files; trees = z }) trees

-- what a load answers

-- the script that lacks a binding first, and the first place of one
one_unbound : (trees : ProjectTrees) (e f : LoadRefusal) → IsUnboundIn trees e → IsUnboundIn trees f → e ≡ f
one_unbound trees e f p q = elim (places p.front p.here p.back q.front q.here q.back (sym p.split ∙ q.split)) [
  | same a x b ↦ (
      let first = subst (λ s. IsFirstUnbound s.program p.place) x p.first in
      let less = first.least q.place q.first.is_unbound in
      let more = q.first.least p.place first.is_unbound in
      let place : p.place ≡ q.place = omega (arith, less, more) in
      p.told ∙ ap (λ s. unbound_at (texts_before trees) s p.place) x ∙ ap (unbound_at (texts_before trees) q.here) place ∙ sym q.told)
  | first_before m h ↦ absurd (q.bound p.here (subst (IsOneOf p.here) (sym h) (one_behind p.front p.here m)) p.place p.first.is_unbound)
  | second_before m h ↦ absurd (p.bound q.here (subst (IsOneOf q.here) (sym h) (one_behind q.front q.here m)) q.place q.first.is_unbound)
]

pub gives_cause : (contents : Contents) (before after : ℕ) (name : List ℕ) (result : Result LoadedFront LoadRefusal) (f : LoadRefusal) → IfOk result (HasFront contents name) → IfErr result (IsTold (FrontCause contents before after name)) → AreSure contents before after → LoadCause contents before after name f → GivesCause result f
gives_cause contents before after name (Ok t) f ok err sure c = absurd (no_cause sure.text_at before after sure.whole name ok.trees f (subst (λ k. HasTrees k name ok.trees) sure.told ok.has) (subst (λ k. LoadCause k before after name f) sure.told c))
gives_cause contents before after name (Err e) f ok (inl (no_trees d)) sure c = inl (ap Err (one_cause sure.text_at before after sure.whole name e f (subst (λ k. LoadCause k before after name e) sure.told d) (subst (λ k. LoadCause k before after name f) sure.told c)))
gives_cause contents before after name (Err e) f ok (inl (untyped trees h d)) sure c = absurd (no_cause sure.text_at before after sure.whole name trees f (subst (λ k. HasTrees k name trees) sure.told h) (subst (λ k. LoadCause k before after name f) sure.told c))
gives_cause contents before after name (Err e) f ok (inr m) sure c = inr (ap Err m)

pub gives_front : (contents : Contents) (before after : ℕ) (name : List ℕ) (result : Result LoadedFront LoadRefusal) (trees : ProjectTrees) → IfOk result (HasFront contents name) → IfErr result (IsTold (FrontCause contents before after name)) → AreSure contents before after → HasTrees contents name trees → GivesFront result trees
gives_front contents before after name (Ok front) trees ok err sure h = subst (λ t. IsFrontOf t front) (one_load sure.text_at before after sure.whole name ok.trees trees (subst (λ c. HasTrees c name ok.trees) sure.told ok.has) (subst (λ c. HasTrees c name trees) sure.told h)) ok.is
gives_front contents before after name (Err e) trees ok (inl (no_trees d)) sure h = absurd (no_cause sure.text_at before after sure.whole name trees e (subst (λ c. HasTrees c name trees) sure.told h) (subst (λ k. LoadCause k before after name e) sure.told d))
gives_front contents before after name (Err e) trees ok (inl (untyped found k d)) sure h = inl (subst (λ t. TypeCause t e) (one_load sure.text_at before after sure.whole name found trees (subst (λ c. HasTrees c name found) sure.told k) (subst (λ c. HasTrees c name trees) sure.told h)) d)
gives_front contents before after name (Err e) trees ok (inr m) sure h = inr m

pub gives_unbound : (result : Result LoadedFront LoadRefusal) (trees : ProjectTrees) (e : LoadRefusal) → GivesFront result trees → IsUnboundIn trees e → GivesUnbound result trees e
gives_unbound (Ok front) trees e g u =
    let found = each_at u.front u.here u.back front.scripts (subst (λ ss. Each IsTyped ss front.scripts) u.split g.scripts) in
    found.1.bound u.place u.first.is_unbound
gives_unbound (Err f) trees e (inl (unbound_name v)) u = inl (one_unbound trees f e v u)
gives_unbound (Err f) trees e (inl (ill_item i)) u = inr (inl i)
gives_unbound (Err f) trees e (inr m) u = inr (inr m)
