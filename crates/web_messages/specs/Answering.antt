-- Answers one after another.
use Rattle.std.specs.Prelude.{◌≡◌, List, [], ◌∷◌}
use Rattle.web_messages.specs.declared.request.Request.{Request}
use Rattle.web_messages.specs.declared.request.Reply.{Reply}

-- a chain of answers from one state to another, one for each request, in order
abbrev pub Chain : {S : Type 0} → (S → Request → Reply → S → Type 0) → S → List Request → List Reply → S → Type 0
Chain {S} step old [] [] new = new ≡ old
Chain {S} step old [] (reply ∷ replies) new = ⊥
Chain {S} step old (request ∷ requests) [] new = ⊥
Chain {S} step old (request ∷ requests) (reply ∷ replies) new = (mid : S) × step old request reply mid × Chain step mid requests replies new
