-- A token on the stack, and tokens one after the other.
use Rattle.std.proofs.Common.{◌≡◌, ℕ, suc, ◌+◌, ◌<◌, List, [], ◌∷◌, ◌++◌, length, get_or, drop, Option, Some, None, refl, ap, sym, ◌∙◌, arith}
use Rattle.std.proofs.Math.Seq.{drop-cons}
use Rattle.sml_syntax.specs.declared.token.Token.{Token}
use Rattle.sml_grammar.specs.declared.symbol.Sym.{Sym}
use Rattle.sml_grammar.specs.declared.act.Made.{Made}
use Rattle.sml_grammar.specs.declared.takes.Step.{Step}
use Rattle.sml_grammar.specs.declared.takes.Step.TheVariants as step
use Rattle.sml_grammar.specs.declared.machine.Meeting.{Meeting}
use Rattle.sml_grammar.specs.declared.machine.Meeting.TheVariants as meeting
use Rattle.sml_grammar.specs.Moves.{Move, Takes, Skips, Acts, Fails, Steps}
use Rattle.sml_grammar.specs.Machine.{Fed, Goes, Empties, Stuck, feed, feed_by, move_of, made, run, end_of, next_of, Accepts, Stops, outcome_of, start}
use Rattle.sml_grammar.specs.Reads.{fed_as}

-- what follows a step of the code
abbrev pub after : Step → Option Token → List Sym → ℕ → List Made → Fed
after step.Takes t stack to acts = Goes stack acts
after step.Skips t stack to acts = feed t stack to acts
after (step.Acts act) t stack to acts = feed t stack to (acts ++ made act to ∷ [])
after step.Fails t stack to acts = Stuck

by-move : (m : Move) (t : Option Token) (old new : List Sym) (found : Step) (to : ℕ) (acts : List Made) → Steps m old found new → feed_by m old to acts (feed t old to) ≡ after found t new to acts
by-move (Takes β) t old new found to acts (h, k) = ap (λ w. Goes w acts) (sym k) ∙ ap (λ f. after f t new to acts) (sym h)
by-move Skips t old new found to acts (h, k) = ap (λ w. feed t w to acts) (sym k) ∙ ap (λ f. after f t new to acts) (sym h)
by-move (Acts g) t old new found to acts (h, k) = ap (λ w. feed t w to (acts ++ made g to ∷ [])) (sym k) ∙ ap (λ f. after f t new to acts) (sym h)
by-move Fails t old new found to acts (h, k) = ap (λ f. after f t new to acts) (sym h)

pub feed_step : (t : Option Token) (stack old new : List Sym) (x : Sym) (found : Step) (to : ℕ) (acts : List Made) → stack ≡ x ∷ old → Steps (move_of x t) old found new → feed t stack to acts ≡ after found t new to acts
unfolding feed
feed_step t stack old new x found to acts e h = ap (λ w. feed t w to acts) e ∙ by-move (move_of x t) t old new found to acts h

pub feed_none : (t : Option Token) (stack : List Sym) (to : ℕ) (acts : List Made) → stack ≡ [] → feed t stack to acts ≡ Fed.Empties acts
unfolding feed
feed_none t stack to acts e = ap (λ w. feed t w to acts) e

pub goes_on : (ts more : List Token) (t : Token) (st st' : List Sym) (to : ℕ) (acts acts' : List Made) → ts ≡ t ∷ more → feed (Some t) st to acts ≡ Goes st' acts' → run ts st to acts ≡ run more st' t.span.to acts'
unfolding run
goes_on ts more t st st' to acts acts' e h = ap (λ w. run w st to acts) e ∙ ap (λ f. next_of f (t ∷ more) to (λ s as'. run more s t.span.to as')) h

pub stops_here : (ts more : List Token) (t : Token) (f : Meeting) (st st' : List Sym) (to : ℕ) (acts acts' : List Made) → ts ≡ t ∷ more → (f ≡ meeting.Goes → ⊥) → feed (Some t) st to acts ≡ fed_as f st' acts' → run ts st to acts ≡ Stops (t ∷ more) to
unfolding run
stops_here ts more t meeting.Goes st st' to acts acts' e n h = absurd (n refl)
stops_here ts more t meeting.Empties st st' to acts acts' e n h = ap (λ w. run w st to acts) e ∙ ap (λ f. next_of f (t ∷ more) to (λ s as'. run more s t.span.to as')) h
stops_here ts more t meeting.Stuck st st' to acts acts' e n h = ap (λ w. run w st to acts) e ∙ ap (λ f. next_of f (t ∷ more) to (λ s as'. run more s t.span.to as')) h

pub at_end : (st : List Sym) (to : ℕ) (acts acts' : List Made) → feed None st to acts ≡ Empties acts' → run [] st to acts ≡ Accepts acts'
unfolding run
at_end st to acts acts' h = ap (λ f. end_of f to) h

pub stops_end : (f : Meeting) (st st' : List Sym) (to : ℕ) (acts acts' : List Made) → (f ≡ meeting.Empties → ⊥) → feed None st to acts ≡ fed_as f st' acts' → run [] st to acts ≡ Stops [] to
unfolding run
stops_end meeting.Goes st st' to acts acts' n h = ap (λ f. end_of f to) h
stops_end meeting.Empties st st' to acts acts' n h = absurd (n refl)
stops_end meeting.Stuck st st' to acts acts' n h = ap (λ f. end_of f to) h

pub outcome-start : (ts : List Token) (st : List Sym) (acts : List Made) → st ≡ start → acts ≡ [] → run ts st 0 acts ≡ outcome_of ts
unfolding outcome_of
outcome-start ts st acts e f = ap (λ w. run ts w 0 acts) e ∙ ap (λ w. run ts start 0 w) f

pub at_item : (ts : List Token) (i : ℕ) (d t : Token) → t ≡ get_or ts i d → i < length ts → drop i ts ≡ t ∷ drop (i + 1) ts
at_item ts i d t e h = drop-cons ts i d h ∙ ap (λ x. x ∷ drop (suc i) ts) (sym e) ∙ ap (λ j. t ∷ drop j ts) (next i)
  where
    next : (n : ℕ) → suc n ≡ n + 1
    next n = omega arith
