-- Two levels of evaluations of specialised terms side by side, and the second one beside itself: so what comes after an outcome is known to leave no less.
use Rattle.std.proofs.Common.{ℕ, List, [], Option, arith}
use Rattle.region_syntax.specs.GroundTerms as g
use Rattle.sml_evaluation.specs.RunState.{Done, then_do, handled, state_left}
use Rattle.region_eval.specs.GroundValues.{Value, Values, values, Env}
use Rattle.region_eval.specs.GroundPrimitives.{State, Outcome, Comparing}
use Rattle.region_eval.specs.GroundEvaluation.{Evaluator, Matcher, Level, Plan, each_value}
use Rattle.eval_laws.proofs.Relations.{Mode, Higher, Longer, along, R, done_here, then_R, handled_R}

-- of specialised terms
abbrev pub S : {A : Type 0} → Mode → State → Outcome A → Outcome A → Type 0
S {A} m s o p = R ⊥ Value (List Value) A m s o p

-- a function of the state that goes by it alone
abbrev pub Steady : {A : Type 0} → (State → Outcome A) → Type 0
Steady f = (m : Mode) (s : State) → S m s (f s) (f (along m s))

abbrev pub Evaluates : Mode → Evaluator → Evaluator → Type 0
Evaluates m part other = (env : Env) (s : State) (e : g.Exp) → S m s (part env s e) (other env (along m s) e)

pub record Levels (m : Mode) (l h : Level) : Type 0 where
  pub exp : Evaluates m l.exp h.exp
  pub pat : (s : State) (p : g.Pat) (v : Value) → S m s (l.pat s p v) (h.pat (along m s) p v)
  pub same : (v w : Value) (s : State) → S m s (l.same v w s) (h.same v w (along m s))
  pub scope : (outer env : Env) (s : State) (bindings : g.Rules) (plan : Plan) → S m s (l.scope outer env s bindings plan) (h.scope outer env (along m s) bindings plan)

pub record Walk : Type 0 where
  pub m : Mode
  pub l : Level
  pub h : Level
  pub both : Levels m l h
  pub grows : Levels (Higher 0) h h

abbrev pub walk_of : (m : Mode) (l h : Level) → Levels m l h → Levels (Higher 0) h h → Walk
walk_of m l h both grows = record { m = m; l = l; h = h; both = both; grows = grows }

-- the second one beside itself
abbrev pub base : Walk → Walk
base w = walk_of (Higher 0) w.h w.h w.grows w.grows

-- what follows, at each walk
pub then_W : {A B : Type 0} (w : Walk) {s : State} {o p : Outcome A} (F : Level → A → State → Outcome B) → S w.m s o p → ((x : Walk) (a : A) (t : State) → S x.m t (F x.l a t) (F x.h a (along x.m t))) → S w.m s (then_do o (F w.l)) (then_do p (F w.h))
then_W w F r step = then_R (F w.l) (F w.h) r (λ a t. step w a t) (λ a t. (step (base w) a t).low)

pub handled_W : {A : Type 0} (w : Walk) {s : State} {o p : Outcome A} (F : Level → Value → State → Outcome A) → S w.m s o p → ((x : Walk) (a : Value) (t : State) → S x.m t (F x.l a t) (F x.h a (along x.m t))) → S w.m s (handled o (F w.l)) (handled p (F w.h))
handled_W w F r step = handled_R (F w.l) (F w.h) r (λ a t. step w a t) (λ a t. (step (base w) a t).low)

-- what follows whatever the level
pub then_S : {A B : Type 0} {m : Mode} {s : State} {o p : Outcome A} (f : A → State → Outcome B) → S m s o p → ((k : Mode) (a : A) (t : State) → S k t (f a t) (f a (along k t))) → S m s (then_do o f) (then_do p f)
then_S {m = m} f r step = then_R f f r (λ a t. step m a t) (λ a t. (step (Higher 0) a t).low)

-- the values of parts
pub each_value_R : {m : Mode} (part other : Evaluator) → Evaluates m part other → Evaluates (Higher 0) other other → (env : Env) (s : State) (es : g.Exps) → S m s (each_value part env s es) (each_value other env (along m s) es)
each_value_R part other h k env s g.no_exps = done_here
each_value_R part other h k env s (g.exps e es) =
    then_R (λ v s1. then_do (each_value part env s1 es) (λ vs s2. Done (values v vs) s2)) (λ v s1. then_do (each_value other env s1 es) (λ vs s2. Done (values v vs) s2)) (h env s e)
    (λ v s1. then_S (λ vs s2. Done (values v vs) s2) (each_value_R part other h k env s1 es) (λ i vs s2. done_here))
    (λ v s1. (then_S {m = Higher 0} (λ vs s2. Done (values v vs) s2) (each_value_R other other k k env s1 es) (λ i vs s2. done_here)).low)
