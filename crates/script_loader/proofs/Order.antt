-- The first mistake in files, and why a project isn't loaded.
use Rattle.std.proofs.Common.{◌≡◌, ℕ, ◌<◌, List, [], ◌∷◌, ◌++◌, refl, ap, sym, ◌∙◌, inl, inr, subst, arith}
use Rattle.outside_world.specs.Told.{Contents}
use Rattle.project_lines.specs.declared.project.Project.{Project}
use Rattle.sml_syntax.specs.declared.token.Token.{Token}
use Rattle.sml_syntax.specs.declared.tree.Program.{Program}
use Rattle.sml_lex.proofs.Unique.{one-partition, not-both}
use Rattle.std.specs.Prelude.{Ok, Err}
use Rattle.sml_parse.specs.Parses.{Parses}
use Rattle.sml_parse.proofs.Meaning.{one_answer}
use Rattle.script_loader.specs.declared.refusal.LoadRefusal.{LoadRefusal}
use Rattle.script_loader.specs.declared.source.Source.{Source}
use Rattle.script_loader.specs.declared.placed.Placed.{Placed}
use Rattle.script_loader.specs.declared.tokens.Lexed.{Lexed}
use Rattle.script_loader.specs.Lists.{Each, none, one, Stops}
use Rattle.script_loader.specs.Refusals.{IsTold, grammatical}
use Rattle.script_loader.specs.Project.{HoldsFiles, IsUnreadable}
use Rattle.script_loader.specs.Places.{placed, moved, prelude_source}
use Rattle.script_loader.specs.Tokens.{HasTokensFrom, IsLexed, IsMisspelt}
use Rattle.script_loader.specs.Trees.{IsTreeOf, AreTrees, IsUngrammatical, IsParsed, IsTreeless}
use Rattle.script_loader.specs.Cause.{Step, Lexing, Parsing, number_of, IsMistake, IsFirstMistake, LoadCause, in_prelude, unreadable, mistaken, HasTrees}
use Rattle.script_loader.proofs.Lists.{each_at, each_split, each_then}

-- files without a mistake

lexed_well : (source : Placed) (lexed : Lexed) (e : LoadRefusal) → IsLexed source lexed → IsMisspelt source e → ⊥
lexed_well source lexed e l m = not-both l.has.has m.refused

-- a text has one list of tokens
pub one_tokens : (start : ℕ) (text : List ℕ) (ts us : List Token) → HasTokensFrom start text ts → HasTokensFrom start text us → ts ≡ us
one_tokens start text ts us a b = a.moves ∙ ap (moved start) (one-partition a.has b.has) ∙ sym b.moves

pub read_well : (source : Placed) (tree : Program) (e : LoadRefusal) → IsTreeOf source tree → IsUngrammatical source e → ⊥
read_well source tree e t m =
    let same = one_tokens _ _ _ _ m.has t.has in
    let both = one_answer t.tokens (Ok tree) (Err m.refusal) t.read (subst (λ z. Parses z (Err m.refusal)) same m.refused) in
    absurd (cc)

all_lexed : (files front back : List Placed) (other : Placed) (lexed : List Lexed) (e : LoadRefusal) → Each IsLexed files lexed → files ≡ front ++ other ∷ back → IsMisspelt other e → ⊥
all_lexed files front back other lexed e each split m =
    let found = each_at front other back lexed (subst (λ fs. Each IsLexed fs lexed) split each) in
    lexed_well other found.0 e found.1 m

all_read : (files front back : List Placed) (other : Placed) (trees : List Program) (e : LoadRefusal) → AreTrees files trees → files ≡ front ++ other ∷ back → IsUngrammatical other e → ⊥
all_read files front back other trees e each split m =
    let found = each_at front other back trees (subst (λ fs. AreTrees fs trees) split each) in
    read_well other found.0 e found.1 m

pub tree_of : (source : Placed) (lexed : Lexed) (tree : Program) → IsLexed source lexed → IsParsed lexed tree → IsTreeOf source tree
tree_of source lexed tree l p = record { tokens = lexed.tokens; has = l.has; read = p.is }

pub are_trees : (files : List Placed) (lexed : List Lexed) (trees : List Program) → Each IsLexed files lexed → Each IsParsed lexed trees → AreTrees files trees
are_trees files lexed trees l p = each_then IsTreeOf files lexed trees tree_of l p

-- the first mistake

pub first_misspelt : (files : List Placed) (e : LoadRefusal) → IsTold (Stops IsLexed IsMisspelt files) e → IsTold (IsFirstMistake files) e
first_misspelt files e (inl s) = inl (record {
  step = Lexing;
  before = s.front;
  here = s.here;
  after = s.back;
  split = s.split;
  mistake = s.fault;
  no_earlier_step = λ earlier front back other f less split m. omega (arith, less);
  no_earlier_file = λ front back other f split m. all_lexed s.front front back other s.done f s.each split m;
})
first_misspelt files e (inr m) = inr m

no_step_before : (files front back : List Placed) (other : Placed) (lexed : List Lexed) (e : LoadRefusal) (earlier : Step) → Each IsLexed files lexed → number_of earlier < 1 → files ≡ front ++ other ∷ back → IsMistake earlier other e → ⊥
no_step_before files front back other lexed e Lexing each less split m = all_lexed files front back other lexed e each split m
no_step_before files front back other lexed e Parsing each less split m = omega (arith, less)

pub first_treeless : (files : List Placed) (lexed : List Lexed) (e : LoadRefusal) → Each IsLexed files lexed → IsTold (Stops IsParsed IsTreeless lexed) e → IsTold (IsFirstMistake files) e
first_treeless files lexed e each (inl s) =
    let p = each_split files s.front s.here s.back (subst (Each IsLexed files) s.split each) in
    inl (record {
      step = Parsing;
      before = p.before;
      here = p.here;
      after = p.after;
      split = p.split;
      mistake = record {
        tokens = s.here.tokens;
        has = p.goes.has;
        refusal = s.fault.refusal;
        refused = s.fault.refused;
        told = s.fault.told ∙ ap (λ n. grammatical n s.here.start s.fault.refusal) p.goes.name_is ∙ ap (λ k. grammatical p.here.name k s.fault.refusal) p.goes.start_is;
      };
      no_earlier_step = λ earlier front back other f less split m. no_step_before files front back other lexed f earlier each less split m;
      no_earlier_file = λ front back other f split m. all_read p.before front back other s.done f (are_trees p.before s.front s.done p.each s.each) split m;
    })
first_treeless files lexed e each (inr m) = inr m

-- a file alone

pub lone_misspelt : (source : Placed) (e : LoadRefusal) → IsTold (IsMisspelt source) e → IsTold (IsFirstMistake (source ∷ [])) e
lone_misspelt source e (inl m) = first_misspelt (source ∷ []) e (inl (record { front = []; here = source; back = []; split = refl; done = []; each = none; fault = m }))
lone_misspelt source e (inr m) = inr m

pub lone_treeless : (source : Placed) (lexed : Lexed) (e : LoadRefusal) → IsLexed source lexed → IsTold (IsTreeless lexed) e → IsTold (IsFirstMistake (source ∷ [])) e
lone_treeless source lexed e l (inl m) = first_treeless (source ∷ []) (lexed ∷ []) e (one l none) (inl (record { front = []; here = lexed; back = []; split = refl; done = []; each = none; fault = m }))
lone_treeless source lexed e l (inr m) = inr m

-- the cause

pub told_prelude : (contents : Contents) (before after : ℕ) (project : List ℕ) (source : Placed) (e : LoadRefusal) → source ≡ prelude_source → IsTold (IsFirstMistake (source ∷ [])) e → IsTold (LoadCause contents before after project) e
told_prelude contents before after project source e same (inl m) = inl (in_prelude (subst (λ s. IsFirstMistake (s ∷ []) e) same m))
told_prelude contents before after project source e same (inr m) = inr m

pub told_unreadable : (contents : Contents) (before after : ℕ) (project : List ℕ) (source : Placed) (prelude : Program) (e : LoadRefusal) → source ≡ prelude_source → IsTreeOf source prelude → IsTold (IsUnreadable contents before after project) e → IsTold (LoadCause contents before after project) e
told_unreadable contents before after project source prelude e same t (inl m) = inl (unreadable prelude (subst (λ s. IsTreeOf s prelude) same t) m)
told_unreadable contents before after project source prelude e same t (inr m) = inr m

pub told_mistaken : (contents : Contents) (before after : ℕ) (project : List ℕ) (source : Placed) (prelude : Program) (lines : Project) (sources : List Source) (seen : List Placed) (e : LoadRefusal) → source ≡ prelude_source → IsTreeOf source prelude → HoldsFiles contents project lines sources → seen ≡ placed lines.files sources → IsTold (IsFirstMistake seen) e → IsTold (LoadCause contents before after project) e
told_mistaken contents before after project source prelude lines sources seen e first t h same (inl m) = inl (mistaken prelude (subst (λ s. IsTreeOf s prelude) first t) lines sources h (subst (λ s. IsFirstMistake s e) same m))
told_mistaken contents before after project source prelude lines sources seen e first t h same (inr m) = inr m

-- the trees

pub trees_found : (contents : Contents) (project : List ℕ) (source : Placed) (prelude : Program) (lines : Project) (sources : List Source) (texts : List Placed) (trees : List Program) → source ≡ prelude_source → IsTreeOf source prelude → HoldsFiles contents project lines sources → texts ≡ placed lines.files sources → AreTrees texts trees → HasTrees contents project (record { project = lines; prelude = prelude; files = texts; trees = trees })
trees_found contents project source prelude lines sources texts trees first t h same each = record {
  sources = sources;
  held = h;
  files_are = same;
  of_prelude = subst (λ s. IsTreeOf s prelude) first t;
  of_files = each;
}
