-- Steps of the machine, as equations of runs.
use Rattle.std.proofs.Common.{◌≡◌, ℕ, List, [], ◌∷◌, ◌++◌, refl, ap, sym, ◌∙◌, append_assoc, Some, None, subst}
use Rattle.sml_syntax.specs.declared.token.Token.{Token}
use Rattle.sml_grammar.specs.declared.act.Act.{Act}
use Rattle.sml_grammar.specs.declared.act.Made.{Made}
use Rattle.sml_grammar.specs.declared.symbol.Sym.{Sym}
use Rattle.sml_grammar.specs.declared.symbol.Sym.TheVariants as s
use Rattle.sml_grammar.specs.declared.token_sort.TokenSort.{TokenSort}
use Rattle.grammar_rules.specs.Nodes.{last_after}
use Rattle.sml_grammar.specs.Sorts.{sort_of}
use Rattle.sml_grammar.specs.Moves.{Move, Takes, Skips}
use Rattle.sml_grammar.specs.Machine.{move_end, made, feed_by, end_of, next_of}
use Rattle.grammar_trees.specs.Exact.{move_of, move_at, run, feed}
use Rattle.grammar_trees.specs.Ends.{first}
use Rattle.grammar_trees.specs.Claims.{Comes}

nil : (acc : List Made) → acc ≡ acc ++ []
nil [] = refl
nil (m ∷ ms) = ap (λ z. m ∷ z) (nil ms)

pub stays : (ts : List Token) (st : List Sym) (to : ℕ) → Comes ts st to [] ts st to
stays ts st to = record { runs = λ acc. ap (λ z. run ts st to z) (nil acc) }

pub skips : {x : Sym} {ts us : List Token} {st st' : List Sym} {to to' : ℕ} {new : List Made} → move_of x (first ts) ≡ Skips → Comes ts st to new us st' to' → Comes ts (x ∷ st) to new us st' to'
unfolding run feed
skips {ts = []} {us = us} {st = st} {st' = st'} {to = to} {to' = to'} {new = new} h c = record { runs = λ acc. ap (λ m. end_of (feed_by m st to acc (feed None st to)) to) h ∙ c.runs acc }
skips {ts = t ∷ ts} {us = us} {st = st} {st' = st'} {to = to} {to' = to'} {new = new} h c = record { runs = λ acc. ap (λ m. next_of (feed_by m st to acc (feed (Some t) st to)) (t ∷ ts) to (λ stack' acts'. run ts stack' t.span.to acts')) h ∙ c.runs acc }

pub acts : {f : Act} {ts us : List Token} {st st' : List Sym} {to to' : ℕ} {new : List Made} → Comes ts st to new us st' to' → Comes ts (s.Do f ∷ st) to (made f to ∷ new) us st' to'
unfolding run feed move_of move_end move_at
acts {f = f} {ts = []} {us = us} {st = st} {st' = st'} {to = to} {to' = to'} {new = new} c = record { runs = λ acc. c.runs (acc ++ made f to ∷ []) ∙ ap (λ z. run us st' to' z) (append_assoc acc (made f to ∷ []) new) }
acts {f = f} {ts = t ∷ ts} {us = us} {st = st} {st' = st'} {to = to} {to' = to'} {new = new} c = record { runs = λ acc. c.runs (acc ++ made f to ∷ []) ∙ ap (λ z. run us st' to' z) (append_assoc acc (made f to ∷ []) new) }

pub takes : {x : Sym} {t : Token} {β : List Sym} {ts us : List Token} {st st' : List Sym} {to to' : ℕ} {new : List Made} → move_at x (sort_of t.form) t ≡ Takes β → Comes ts (β ++ st) t.span.to new us st' to' → Comes (t ∷ ts) (x ∷ st) to new us st' to'
unfolding run feed move_of
takes {x} {t} {β} {ts} {us} {st} {st'} {to} {to'} {new} h c = record { runs = λ acc. ap (λ m. next_of (feed_by m st to acc (feed (Some t) st to)) (t ∷ ts) to (λ stack' acts'. run ts stack' t.span.to acts')) h ∙ c.runs acc }

-- one part, then the rest
pub then : {ts us vs : List Token} {st st' st'' : List Sym} {to to' to'' : ℕ} {new more : List Made} → Comes ts st to new us st' to' → Comes us st' to' more vs st'' to'' → Comes ts st to (new ++ more) vs st'' to''
then {ts} {us} {vs} {st} {st'} {st''} {to} {to'} {to''} {new} {more} c d = record { runs = λ acc. c.runs acc ∙ d.runs (acc ++ new) ∙ ap (λ z. run vs st'' to'' z) (append_assoc acc new more) }

-- the same at an end that is the same number
pub ends-at : {ts us : List Token} {st st' : List Sym} {to to' at : ℕ} {new : List Made} → to' ≡ at → Comes ts st to new us st' to' → Comes ts st to new us st' at
ends-at {ts = ts} {us = us} {st = st} {st' = st'} {to = to} {new = new} e c = subst (λ z. Comes ts st to new us st' z) e c

-- an act at an end that is the same number
pub acts-at : {f : Act} {ts us : List Token} {st st' : List Sym} {to to' at : ℕ} {new : List Made} → to ≡ at → Comes ts st to new us st' to' → Comes ts (s.Do f ∷ st) to (made f at ∷ new) us st' to'
acts-at {f = f} {ts = ts} {us = us} {st = st} {st' = st'} {to = to} {to' = to'} {new = new} e c = subst (λ z. Comes ts (s.Do f ∷ st) to (made f z ∷ new) us st' to') e (acts c)

-- a token of a sort
pub takes-as : {x : Sym} {t : Token} {sort : TokenSort} {β : List Sym} {ts us : List Token} {st st' : List Sym} {to to' : ℕ} {new : List Made} → sort_of t.form ≡ sort → move_at x sort t ≡ Takes β → Comes ts (β ++ st) t.span.to new us st' to' → Comes (t ∷ ts) (x ∷ st) to new us st' to'
takes-as {x = x} {t = t} e h c = takes (ap (λ z. move_at x z t) e ∙ h) c

-- the tokens and the symbols regrouped
pub grouped : {us : List Token} {st st' : List Sym} {to to' : ℕ} {new : List Made} (ts ws rest : List Token) → Comes (ts ++ (ws ++ rest)) st to new us st' to' → Comes ((ts ++ ws) ++ rest) st to new us st' to'
grouped {us = us} {st = st} {st' = st'} {to = to} {to' = to'} {new = new} ts ws rest c = subst (λ z. Comes z st to new us st' to') (sym (append_assoc ts ws rest)) c

pub pushed : {ts us : List Token} {st' : List Sym} {to to' : ℕ} {new : List Made} (α β st : List Sym) → Comes ts (α ++ (β ++ st)) to new us st' to' → Comes ts ((α ++ β) ++ st) to new us st' to'
pushed {ts = ts} {us = us} {st' = st'} {to = to} {to' = to'} {new = new} α β st c = subst (λ z. Comes ts z to new us st' to') (sym (append_assoc α β st)) c

-- where tokens end, part by part
pub after-both : (to : ℕ) (ts us : List Token) → last_after to (ts ++ us) ≡ last_after (last_after to ts) us
after-both to [] us = refl
after-both to (t ∷ ts) us = after-both t.span.to ts us

-- a part, and what tells nothing more
pub lastly : {ts us vs : List Token} {st st' st'' : List Sym} {to to' to'' : ℕ} {new : List Made} → Comes ts st to new us st' to' → Comes us st' to' [] vs st'' to'' → Comes ts st to new vs st'' to''
lastly {ts = ts} {vs = vs} {st = st} {st'' = st''} {to = to} {to'' = to''} {new = new} c d = subst (λ z. Comes ts st to z vs st'' to'') (sym (nil new)) (then c d)

-- symbols that are the same
pub stacked : {ts us : List Token} {st' : List Sym} {to to' : ℕ} {new : List Made} {α β : List Sym} (st : List Sym) → α ≡ β → Comes ts (β ++ st) to new us st' to' → Comes ts (α ++ st) to new us st' to'
stacked {ts = ts} {us = us} {st' = st'} {to = to} {to' = to'} {new = new} st e c = subst (λ z. Comes ts (z ++ st) to new us st' to') (sym e) c

-- what a symbol does at a token of a sort
pub at-word : (x : Sym) (t : Token) {sort : TokenSort} {m : Move} → sort_of t.form ≡ sort → move_at x sort t ≡ m → move_of x (Some t) ≡ m
unfolding move_of
at-word x t e h = ap (λ z. move_at x z t) e ∙ h
