-- Tokens that bear what is printed of a tree are of a tree that is the same, spans aside: the claim for each kind of tree.
use Rattle.std.proofs.Common.{◌≡◌, ℕ, ◌+◌, ◌<◌, ◌≤◌, List, [], ◌∷◌, ◌++◌, Option, Some, None, refl, sym, subst}
use Rattle.std.proofs.Common.{append-nil}
use Rattle.std.specs.Prelude.{codes, flat_map, cond, Bool, true, false}
use Rattle.sml_syntax.specs.declared.token.Token.{Token}
use Rattle.sml_syntax.specs.declared.token.TokenForm.{TokenForm}
use Rattle.sml_syntax.specs.declared.token.TokenForm.TheVariants as f
use Rattle.sml_syntax.specs.declared.tree.Span.{Span}
use Rattle.sml_syntax.specs.declared.tree.Exp.{Exp}
use Rattle.sml_syntax.specs.declared.tree.ExpForm.TheVariants as e
use Rattle.sml_syntax.specs.declared.tree.Pat.{Pat}
use Rattle.sml_syntax.specs.declared.tree.PatForm.TheVariants as p
use Rattle.sml_syntax.specs.declared.tree.Ty.{Ty}
use Rattle.grammar_rules.specs.InfixNames.{infix_level}
use Rattle.grammar_rules.specs.Programs.{Each}
use Rattle.grammar_rules.specs.Nodes.{exp_at, pat_at}
use Rattle.grammar_rules.specs.Grammar.{Tree, Phrase, Is, exp_tree, pat_tree, ty_tree, name_tree, head, atx, app, inf, tyx, andc, orc, expr, antiquoted, pat, cpat, apat, atpat, ty, tupty, conty, IsMark, IsInfix, IsTypeName, short, long, head_name, head_op}
use Rattle.print_laws.specs.SameTree.{Same}
use Rattle.print_laws.specs.Printing.{Forms, Part, Ink, parted, alternatives_from, alternatives, has_dot, with_op, head_forms, unless_infix, type_name, ty_part, PatInk, pat_ink, exp_ink, anti_forms}
use Rattle.print_laws.proofs.Bearing.{Bears, bears_none, At, one, word, both, bin}

-- a tree of the phrase that is the same
abbrev pub Of : {A : Type 0} → (A → Tree) → Phrase → A → List Token → Type 0
Of {A = A} inj phrase x us = (y : A) × Is phrase us (inj y) [] × Same (inj x) (inj y)

-- lists of at least one and of at least two
abbrev pub Many : {A : Type 0} → (List A → Tree) → Phrase → List A → List Token → Type 0
Many {A = A} inj phrase xs us = (y : A) × (ys : List A) × Is phrase us (inj (y ∷ ys)) [] × Same (inj xs) (inj (y ∷ ys))

abbrev pub Several : {A : Type 0} → (List A → Tree) → Phrase → List A → List Token → Type 0
Several {A = A} inj phrase xs us = (y z : A) × (ys : List A) × Is phrase us (inj (y ∷ z ∷ ys)) [] × Same (inj xs) (inj (y ∷ z ∷ ys))

-- a type of tokens of a level: it stands wherever one of that level or a lower one does
pub record TyRanked (v : Bool) (level : ℕ) (ts : List Token) (y : Ty) : Type 0 where
  pub anywhere : Is (ty v) ts (ty_tree y) []
  pub before_arrow : 1 ≤ level → Is (tupty v) ts (ty_tree y) []
  pub alone : 2 ≤ level → Is (conty v) ts (ty_tree y) []

-- a tree of that level that is the same
abbrev pub TyLevelOf : Bool → ℕ → Ty → List Token → Type 0
TyLevelOf v level x ts = (y : Ty) × TyRanked v level ts y × Same (ty_tree x) (ty_tree y)

abbrev pub TyPartAt : Bool → Part → Ty → Type 0
TyPartAt v part x = At (TyLevelOf v part.level x) part.forms

abbrev pub TyClaim : Bool → Ty → Type 0
TyClaim v x = TyPartAt v (ty_part x) x

-- a pattern of tokens of a level
pub record PatRanked (level : ℕ) (ts : List Token) (y : Pat) : Type 0 where
  pub anywhere : Is pat ts (pat_tree y) []
  pub between : 1 ≤ level → Is cpat ts (pat_tree y) []
  pub applied : 2 ≤ level → Is apat ts (pat_tree y) []
  pub alone : 3 ≤ level → Is atpat ts (pat_tree y) []

abbrev pub PatLevelOf : ℕ → Pat → List Token → Type 0
PatLevelOf level x ts = (y : Pat) × PatRanked level ts y × Same (pat_tree x) (pat_tree y)

-- of that level or a higher one
abbrev pub PatAtLeast : ℕ → Pat → List Token → Type 0
PatAtLeast level x ts = (y : Pat) × (l : ℕ) × (level ≤ l) × PatRanked l ts y × Same (pat_tree x) (pat_tree y)

abbrev pub PatPartAt : Part → Pat → Type 0
PatPartAt part x = At (PatLevelOf part.level x) part.forms

-- what is printed of the two of a tuple is read as the same tuple's
abbrev pub PatMembersOf : List Part → Pat → Type 0
PatMembersOf [] x = Unit {0}
PatMembersOf (l ∷ []) x = Unit {0}
PatMembersOf (l ∷ r ∷ []) x = (u v : Pat) × PatPartAt l u × PatPartAt r v × ((s : Span) (y z : Pat) → Same (pat_tree u) (pat_tree y) → Same (pat_tree v) (pat_tree z) → Same (pat_tree x) (pat_tree (pat_at s (p.Tuple (y ∷ z ∷ [])))))
PatMembersOf (l ∷ r ∷ p ∷ ps) x = Unit {0}

abbrev pub PatInkClaim : PatInk → Pat → Type 0
PatInkClaim i x = PatPartAt i.part x × PatMembersOf i.members x

abbrev pub PatClaim : Pat → Type 0
PatClaim x = PatInkClaim (pat_ink x) x

-- an expression of tokens of a level: it stands wherever one of that level or a lower one does
pub record Ranked (level : ℕ) (opens : Bool) (ts : List Token) (y : Exp) : Type 0 where
  pub anywhere : Is (expr opens) ts (exp_tree y) []
  pub orelse : 1 ≤ level → Is orc ts (exp_tree y) []
  pub andalso : 2 ≤ level → Is andc ts (exp_tree y) []
  pub typed : 3 ≤ level → Is tyx ts (exp_tree y) []
  pub operand : (k : ℕ) → 4 + k ≤ level → Is (inf k) ts (exp_tree y) []
  pub applied : 14 ≤ level → Is app ts (exp_tree y) []
  pub alone : 15 ≤ level → Is atx ts (exp_tree y) []

abbrev pub LevelOf : ℕ → Bool → Exp → List Token → Type 0
LevelOf level opens x ts = (y : Exp) × Ranked level opens ts y × Same (exp_tree x) (exp_tree y)

abbrev pub AtLeast : ℕ → Exp → List Token → Type 0
AtLeast level x ts = (y : Exp) × (l : ℕ) × (o : Bool) × (level ≤ l) × Ranked l o ts y × Same (exp_tree x) (exp_tree y)

abbrev pub PartAt : Part → Exp → Type 0
PartAt part x = At (LevelOf part.level part.opens x) part.forms

-- what is printed of an expression as the word of an infix name is read as the same name
abbrev pub OperatorOf : Option (ℕ × TokenForm) → Exp → Type 0
OperatorOf None x = Unit {0}
OperatorOf (Some o) x = (o.0 < 10) × ((w : Token) → w.form ≡ o.1 → (name : List ℕ) × IsInfix o.0 name w × ((s : Span) → Same (exp_tree x) (exp_tree (exp_at s (e.Name name)))))

-- what is printed of the two of a tuple is read as the same tuple's
abbrev pub MembersOf : List Part → Exp → Type 0
MembersOf [] x = Unit {0}
MembersOf (l ∷ []) x = Unit {0}
MembersOf (l ∷ r ∷ []) x = (u v : Exp) × PartAt l u × PartAt r v × ((s : Span) (y z : Exp) → Same (exp_tree u) (exp_tree y) → Same (exp_tree v) (exp_tree z) → Same (exp_tree x) (exp_tree (exp_at s (e.Tuple (y ∷ z ∷ [])))))
MembersOf (l ∷ r ∷ p ∷ ps) x = Unit {0}

abbrev pub InkClaim : Ink → Exp → Type 0
InkClaim i x = PartAt i.part x × At (Of exp_tree antiquoted x) (anti_forms i.part.forms i.lone) × OperatorOf i.operator x × MembersOf i.members x

abbrev pub ExpClaim : Exp → Type 0
ExpClaim x = InkClaim (exp_ink x) x

pub mark : {w : Token} {m : List ℕ} → w.form ≡ f.Mark m → IsMark m w
mark h = record { is = h }

pub nil_end : (Q : List Token → Type 0) (p : List TokenForm) → At Q p → At Q (p ++ [])
nil_end Q p a = subst (At Q) (sym (append-nil p)) a

pub two : (S : List Token → Type 0) (f g : TokenForm) → ((v w : Token) → v.form ≡ f → w.form ≡ g → S (v ∷ w ∷ [])) → At S (f ∷ g ∷ [])
two S f g k = word (λ us. (w : Token) × (us ≡ w ∷ []) × (w.form ≡ g)) S f (g ∷ []) (λ v ts h q. subst (λ z. S (v ∷ z)) (sym q.1) (k v q.0 h q.2)) (one (λ us. (w : Token) × (us ≡ w ∷ []) × (w.form ≡ g)) g (λ w h. (w, refl, h)))

-- a list with marks between, from each of its items
pub parted_at : {A : Type 0} (g : A → Forms) (m : List ℕ) (Q : A → List Token → Type 0) (S : List A → List Token → Type 0)
    → ((x : A) (ts : List Token) → Q x ts → S (x ∷ []) ts)
    → ((x y : A) (ys : List A) (ts : List Token) (w : Token) (us : List Token) → w.form ≡ f.Mark m → Q x ts → S (y ∷ ys) us → S (x ∷ y ∷ ys) (ts ++ w ∷ us))
    → (x : A) (xs : List A) → Each (λ (z : A). At (Q z) (g z)) (x ∷ xs) → At (S (x ∷ xs)) (parted m g (x ∷ xs))
parted_at g m Q S k l x [] h = nil_end (S (x ∷ [])) (g x) (λ ts b. k x ts (h.0 ts b))
parted_at g m Q S k l x (y ∷ ys) h = bin (Q x) (S (y ∷ ys)) (S (x ∷ y ∷ ys)) (g x) (f.Mark m) (parted m g (y ∷ ys)) (λ ts w us e q r. l x y ys ts w us e q r) h.0 (parted_at g m Q S k l y ys h.1)

-- a list with bars between, from each of its items, before a bar and as the last one
from_at : {A : Type 0} (g : Bool → A → Forms) (Q : Bool → A → List Token → Type 0) (S : List A → List Token → Type 0)
    → ((x : A) (ts : List Token) → Q true x ts → S (x ∷ []) ts)
    → ((x y : A) (ys : List A) (ts : List Token) (w : Token) (us : List Token) → w.form ≡ f.Mark (codes "|") → Q false x ts → S (y ∷ ys) us → S (x ∷ y ∷ ys) (ts ++ w ∷ us))
    → (x : A) (xs : List A) → Each (λ (z : A). (last : Bool) → At (Q last z) (g last z)) (x ∷ xs) → At (S (x ∷ xs)) (alternatives_from g x xs)
from_at g Q S k l x [] h = λ ts b. k x ts (h.0 true ts b)
from_at g Q S k l x (y ∷ ys) h = bin (Q false x) (S (y ∷ ys)) (S (x ∷ y ∷ ys)) (g false x) (f.Mark (codes "|")) (alternatives_from g y ys) (λ ts w us e q r. l x y ys ts w us e q r) (h.0 false) (from_at g Q S k l y ys h.1)

pub alternatives_at : {A : Type 0} (g : Bool → A → Forms) (Q : Bool → A → List Token → Type 0) (S : List A → List Token → Type 0)
    → ((x : A) (ts : List Token) → Q true x ts → S (x ∷ []) ts)
    → ((x y : A) (ys : List A) (ts : List Token) (w : Token) (us : List Token) → w.form ≡ f.Mark (codes "|") → Q false x ts → S (y ∷ ys) us → S (x ∷ y ∷ ys) (ts ++ w ∷ us))
    → (x : A) (xs : List A) → Each (λ (z : A). (last : Bool) → At (Q last z) (g last z)) (x ∷ xs) → At (S (x ∷ xs)) (alternatives g (x ∷ xs))
alternatives_at g Q S k l x xs h = from_at g Q S k l x xs h

-- one behind the other
pub row_at : {A : Type 0} (g : A → Forms) (Q : A → List Token → Type 0) (S : List A → List Token → Type 0)
    → S [] []
    → ((x : A) (xs : List A) (ts us : List Token) → Q x ts → S xs us → S (x ∷ xs) (ts ++ us))
    → (xs : List A) → Each (λ (z : A). At (Q z) (g z)) xs → At (S xs) (flat_map g xs)
row_at g Q S k l [] h = λ ts b. go ts b
  where
    go : (ts : List Token) → Bears ts [] → S [] ts
    go _ bears_none = k
row_at g Q S k l (x ∷ xs) h = both (Q x) (S xs) (S (x ∷ xs)) (g x) (flat_map g xs) (λ ts us q r. l x xs ts us q r) h.0 (row_at g Q S k l xs h.1)

pub each_map : {A : Type 0} (P Q : A → Type 0) → ((x : A) → P x → Q x) → (xs : List A) → Each P xs → Each Q xs
each_map P Q k [] h = tt
each_map P Q k (x ∷ xs) h = (k x h.0, each_map P Q k xs h.1)

-- what holds of each of a list that has an item
abbrev pub Some_of : {A : Type 0} → (A → Type 0) → List A → Type 0
Some_of P [] = ⊥
Some_of P (x ∷ xs) = P x × Each P xs

pub some_each : {A : Type 0} (P : A → Type 0) (xs : List A) → Some_of P xs → Each P xs
some_each P [] h = absurd h
some_each P (x ∷ xs) h = h

-- names
abbrev pub IsHead : List ℕ → List Token → Type 0
IsHead name ts = (place : ℕ) × Is head ts (name_tree place name) []

pub head_at : (name : List ℕ) → At (IsHead name) (head_forms name)
unfolding head_forms
head_at name = go (has_dot name) (infix_level name) refl
  where
    go : (b : Bool) (o : Option ℕ) → infix_level name ≡ o → At (IsHead name) (cond b (f.Long name ∷ []) (with_op o (f.Name name)))
    go true o h = one (IsHead name) (f.Long name) (λ w e. (w.span.from, head_name w name (long name w (record { is = e }))))
    go false None h = one (IsHead name) (f.Name name) (λ w e. (w.span.from, head_name w name (short name w (record { is = e; plain = h }))))
    go false (Some l) h = two (IsHead name) (f.Mark (codes "op")) (f.Name name) (λ v w e g. (w.span.from, head_op v w name (mark e) (record { is = g })))

pub type_name_at : (name : List ℕ) (w : Token) → w.form ≡ type_name name → IsTypeName name w
unfolding type_name
type_name_at name w = go (has_dot name) (infix_level name) refl
  where
    go : (b : Bool) (o : Option ℕ) → infix_level name ≡ o → w.form ≡ cond b (f.Long name) (unless_infix o name) → IsTypeName name w
    go true o h e = long name w (record { is = e })
    go false None h e = short name w (record { is = e; plain = h })
    go false (Some l) h e = long name w (record { is = e })
