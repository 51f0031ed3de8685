-- Declarations of types and exceptions, as the machine reads their parts.
use Rattle.std.proofs.Common.{◌≡◌, ℕ, List, [], ◌∷◌, ◌++◌, Bool, true, false, Some, refl, ap, sym, append_assoc, codes}
use Rattle.sml_syntax.specs.declared.token.Token.{Token}
use Rattle.sml_syntax.specs.declared.token.Lack.TheVariants as l
use Rattle.grammar_rules.specs.Nodes.{last_of, last_after}
use Rattle.grammar_rules.specs.Grammar.{IsMark, IsName, IsTypeName, IsTyVar}
use Rattle.sml_grammar.specs.declared.mark.Mark.TheVariants as m
use Rattle.sml_grammar.specs.declared.token_sort.TokenSort.{TokenSort}
use Rattle.sml_grammar.specs.declared.token_sort.TokenSort.TheVariants as o
use Rattle.sml_grammar.specs.declared.act.Made.{Made}
use Rattle.sml_grammar.specs.declared.act.Act.TheVariants as a
use Rattle.sml_grammar.specs.declared.act.DecAct.TheVariants as b
use Rattle.sml_grammar.specs.declared.symbol.Sym.{Sym}
use Rattle.sml_grammar.specs.declared.symbol.Sym.TheVariants as s
use Rattle.sml_grammar.specs.declared.symbol.TyPhrase.TheVariants as tp
use Rattle.sml_grammar.specs.declared.symbol.HeadPhrase.TheVariants as hp
use Rattle.sml_grammar.specs.declared.symbol.ConPhrase.TheVariants as cp
use Rattle.sml_grammar.specs.Marks.{same_mark, mark_number}
use Rattle.sml_grammar.specs.Sorts.{sort_of, is_mark, is_name, is_ty_var, is_type_name, begins_ty}
use Rattle.sml_grammar.specs.Tokens.{text_of}
use Rattle.sml_grammar.specs.Moves.{Takes}
use Rattle.sml_grammar.specs.Machine.{made}
use Rattle.grammar_trees.specs.Exact.{move_at}
use Rattle.grammar_trees.specs.Tells.{first_to}
use Rattle.grammar_trees.specs.Ends.{Skipped, TyEnds}
use Rattle.grammar_trees.specs.Claims.{Starting, starting, TyC}
use Rattle.grammar_trees.specs.DecClaims.{HeadGoes, VarsC, MoreVarsC, ConsC, ExnsC, DatasC, AbbrevsC}
use Rattle.grammar_trees.proofs.Words
use Rattle.grammar_trees.proofs.Words.{TypeSort, at_name, at_long, type-sort}
use Rattle.grammar_trees.proofs.Types
use Rattle.grammar_trees.proofs.Expressions.{want-takes}
use Rattle.grammar_trees.proofs.DecEnding.{told, renamed, ty-ends, cons-ends, cons-and}
use Rattle.grammar_trees.proofs.Steps.{stays, skips, acts, takes, takes-as, then, ends-at, grouped, at-word, after-both}

-- type variables
var-takes : (t : Token) → move_at (s.Head hp.Var) o.TyVar t ≡ Takes (s.Do (a.Dec (b.AddVar (text_of t.form))) ∷ [])
unfolding move_at is_ty_var
var-takes t = refl

vars-comma : (t : Token) → move_at (s.Head hp.Vars) (o.Mark m.Comma) t ≡ Takes (s.Head hp.Var ∷ s.Head hp.Vars ∷ [])
unfolding move_at is_mark same_mark mark_number
vars-comma t = refl

vars-close : (t : Token) → move_at (s.Head hp.Vars) (o.Mark m.Close) t ≡ Takes []
unfolding move_at is_mark same_mark mark_number
vars-close t = refl

want-comma : (t : Token) → move_at (s.Want m.Comma) (o.Mark m.Comma) t ≡ Takes []
unfolding same_mark mark_number
want-comma t = want-takes m.Comma t refl

pub want-equal : (t : Token) → move_at (s.Want m.Equal) (o.Mark m.Equal) t ≡ Takes []
unfolding same_mark mark_number
want-equal t = want-takes m.Equal t refl

pub c-vars-none : VarsC [] []
c-vars-none = record {
  comes = λ head name more alone g word text h st rest to. (
    alone,
    takes-as (Words.is-name h) (g.named word)
        (acts (renamed (λ z. a.Dec (b.Head z)) (Words.name-text h) (acts
        (stays rest (more alone ++ st) word.span.to)))),
  );
}

pub c-vars-one : {word : Token} {name : List ℕ} → IsTyVar name word → VarsC (made (a.Dec (b.AddVar name)) word.span.to ∷ []) (word ∷ [])
c-vars-one {word} v = record {
  comes = λ head name more alone g next text h st rest to. (
    false,
    takes-as (Words.is-ty-var v) (g.var word)
        (acts (renamed (λ z. a.Dec (b.AddVar z)) (Words.var-text v) (acts
        (takes-as (Words.is-name h) (g.after next)
        (renamed (λ z. a.Dec (b.Head z)) (Words.name-text h) (acts
        (stays rest (more false ++ st) next.span.to))))))),
  );
}

pub c-more-vars-one : {word : Token} {name : List ℕ} → IsTyVar name word → MoreVarsC (made (a.Dec (b.AddVar name)) word.span.to ∷ []) (word ∷ [])
c-more-vars-one {word} v = record {
  comes = λ closing i st rest to.
      takes-as (Words.is-ty-var v) (var-takes word)
      (renamed (λ z. a.Dec (b.AddVar z)) (Words.var-text v) (acts
      (takes-as (Words.is-close i) (vars-close closing)
      (stays rest st closing.span.to))));
}

pub c-more-vars-more : {n : List Made} {us : List Token} {word comma : Token} {name : List ℕ} → IsTyVar name word → IsMark (codes ",") comma → MoreVarsC n us →
    MoreVarsC (made (a.Dec (b.AddVar name)) word.span.to ∷ n) (word ∷ comma ∷ us)
c-more-vars-more {word = word} {comma = comma} v h q = record {
  comes = λ closing i st rest to.
      takes-as (Words.is-ty-var v) (var-takes word)
      (renamed (λ z. a.Dec (b.AddVar z)) (Words.var-text v) (acts
      (takes-as (Words.is-comma h) (vars-comma comma)
      (q.comes closing i st rest comma.span.to))));
}

pub c-vars-several : {n : List Made} {us : List Token} {opening word comma closing : Token} {name : List ℕ} → IsMark (codes "(") opening → IsTyVar name word → IsMark (codes ",") comma → MoreVarsC n us → IsMark (codes ")") closing →
    VarsC (made (a.Dec (b.AddVar name)) word.span.to ∷ n) (opening ∷ (word ∷ comma ∷ us) ++ closing ∷ [])
c-vars-several {us = us} {opening = opening} {word = word} {comma = comma} {closing = closing} h v i q j = record {
  comes = λ head name more alone g next text k st rest to. (
    false,
    grouped (opening ∷ word ∷ comma ∷ us) (closing ∷ []) (next ∷ rest)
        (takes-as (Words.is-open h) (g.several opening)
        (acts
        (takes-as (Words.is-ty-var v) (var-takes word)
        (renamed (λ z. a.Dec (b.AddVar z)) (Words.var-text v) (acts
        (takes-as (Words.is-comma i) (want-comma comma)
        (then (q.comes closing j (name ∷ st) (next ∷ rest) comma.span.to)
        (takes-as (Words.is-name k) (g.after next)
        (renamed (λ z. a.Dec (b.Head z)) (Words.name-text k) (acts
        (stays rest (more false ++ st) next.span.to))))))))))),
  );
}

-- constructors
pub name-is : {name : List ℕ} {word : Token} → IsName name word → is_name (sort_of word.form) ≡ true
unfolding is_name
name-is h = ap is_name (Words.is-name h)

argument-of : (t : Token) → move_at (s.Con cp.Argument) (o.Mark m.Of) t ≡ Takes (s.Ty (tp.Whole true) ∷ s.Do (a.Dec b.ConOf) ∷ [])
unfolding move_at is_mark same_mark mark_number
argument-of t = refl

argument-bar : {word : Token} → IsMark (codes "|") word → Skipped (s.Con cp.Argument) (Some word)
unfolding move_at is_mark same_mark mark_number
argument-bar {word} h = at-word (s.Con cp.Argument) word (Words.is-bar h) refl

more-bar : (t : Token) → move_at (s.Con cp.Rest) (o.Mark m.Bar) t ≡ Takes (s.Con cp.Bind ∷ s.Con cp.Rest ∷ [])
unfolding move_at is_mark same_mark mark_number
more-bar t = refl

bar-ends : {word : Token} → IsMark (codes "|") word → TyEnds (Some word)
unfolding same_mark mark_number
bar-ends h = Types.mark-ends _ (Words.is-bar h) refl

bind-takes : (sort : TokenSort) (t : Token) → is_name sort ≡ true → move_at (s.Con cp.Bind) sort t ≡ Takes (s.Do (a.Dec (b.Con (text_of t.form))) ∷ s.Con cp.Argument ∷ s.Do (a.Dec b.AddCon) ∷ [])
unfolding move_at
bind-takes sort t h = rw h refl

pub c-cons-one : {word : Token} {name : List ℕ} → IsName name word → Starting is_name (ConsC (made (a.Dec (b.Con name)) word.span.to ∷ (made (a.Dec b.AddCon) word.span.to ∷ []))) (word ∷ [])
c-cons-one {word} h = starting word [] (name-is h) (record {
  comes = λ st rest e.
      renamed (λ z. a.Dec (b.Con z)) (Words.name-text h) (acts
      (skips e.argument
      (acts
      (skips e.more
      (stays rest st word.span.to)))));
})

pub c-cons-of : {n : List Made} {ts : List Token} {word of_ : Token} {name : List ℕ} → IsName name word → IsMark (codes "of") of_ → Starting begins_ty (TyC true n) ts →
    Starting is_name (ConsC (made (a.Dec (b.Con name)) word.span.to ∷ (n ++ (made (a.Dec b.ConOf) (last_of ts) ∷ (made (a.Dec b.AddCon) (last_of ts) ∷ []))))) (word ∷ of_ ∷ ts)
c-cons-of {word = word} {of_ = of_} h i (starting u vs k p) = starting word (of_ ∷ u ∷ vs) (name-is h) (record {
  comes = λ st rest e.
      renamed (λ z. a.Dec (b.Con z)) (Words.name-text h) (acts
      (takes-as (Words.is-of i) (argument-of of_)
      (then (p.comes (s.Do (a.Dec b.ConOf) ∷ s.Do (a.Dec b.AddCon) ∷ s.Con cp.Rest ∷ st) rest of_.span.to e.type_)
      (acts (acts
      (skips e.more
      (stays rest st (last_after u.span.to vs))))))));
})

pub c-cons-more : {n : List Made} {us : List Token} {word bar : Token} {name : List ℕ} → IsName name word → IsMark (codes "|") bar → Starting is_name (ConsC n) us →
    Starting is_name (ConsC (made (a.Dec (b.Con name)) word.span.to ∷ (made (a.Dec b.AddCon) word.span.to ∷ n))) (word ∷ bar ∷ us)
c-cons-more {word = word} {bar = bar} h i (starting u vs k q) = starting word (bar ∷ u ∷ vs) (name-is h) (record {
  comes = λ st rest e.
      renamed (λ z. a.Dec (b.Con z)) (Words.name-text h) (acts
      (skips (argument-bar i)
      (acts
      (takes-as (Words.is-bar i) (more-bar bar)
      (takes (bind-takes _ u k)
      (q.comes st rest e))))));
})

pub c-cons-of-more : {n m : List Made} {ts us : List Token} {word of_ bar : Token} {name : List ℕ} → IsName name word → IsMark (codes "of") of_ → Starting begins_ty (TyC true n) ts → IsMark (codes "|") bar → Starting is_name (ConsC m) us →
    Starting is_name (ConsC (made (a.Dec (b.Con name)) word.span.to ∷ (n ++ (made (a.Dec b.ConOf) (last_of ts) ∷ (made (a.Dec b.AddCon) (last_of ts) ∷ m))))) (word ∷ of_ ∷ ts ++ bar ∷ us)
c-cons-of-more {word = word} {of_ = of_} {bar = bar} h i (starting u vs k p) j (starting w ws l q) = starting word ((of_ ∷ u ∷ vs) ++ bar ∷ w ∷ ws) (name-is h) (record {
  comes = λ st rest e.
      ends-at (sym (after-both u.span.to vs (bar ∷ w ∷ ws)))
      (grouped (of_ ∷ u ∷ vs) (bar ∷ w ∷ ws) rest
      (renamed (λ z. a.Dec (b.Con z)) (Words.name-text h) (acts
      (takes-as (Words.is-of i) (argument-of of_)
      (then (p.comes (s.Do (a.Dec b.ConOf) ∷ s.Do (a.Dec b.AddCon) ∷ s.Con cp.Rest ∷ st) (bar ∷ (w ∷ ws) ++ rest) of_.span.to (bar-ends j))
      (acts (acts
      (takes-as (Words.is-bar j) (more-bar bar)
      (takes (bind-takes _ w l)
      (q.comes st rest e))))))))));
})

-- exceptions
exn-of : (from : ℕ) (t : Token) → move_at (s.Con (cp.ExnArgument from)) (o.Mark m.Of) t ≡ Takes (s.Ty (tp.Whole false) ∷ s.Do (a.Dec b.ConOf) ∷ [])
unfolding move_at is_mark same_mark mark_number
exn-of from t = refl

exn-equal : (from : ℕ) (t : Token) → move_at (s.Con (cp.ExnArgument from)) (o.Mark m.Equal) t ≡ Takes (s.Do (a.Lack from l.Replication) ∷ s.Con cp.Original ∷ [])
unfolding move_at is_mark same_mark mark_number
exn-equal from t = refl

pub original-takes : {sort : TokenSort} (t : Token) → TypeSort sort → move_at (s.Con cp.Original) sort t ≡ Takes []
unfolding move_at is_type_name
original-takes t at_name = refl
original-takes t at_long = refl

exn-and : {word : Token} (from : ℕ) → IsMark (codes "and") word → Skipped (s.Con (cp.ExnArgument from)) (Some word)
unfolding move_at is_mark same_mark mark_number
exn-and {word} from h = at-word (s.Con (cp.ExnArgument from)) word (Words.is-and h) refl

exns-and : (t : Token) → move_at (s.Con cp.ExnRest) (o.Mark m.And) t ≡ Takes (s.Con cp.Exn ∷ s.Con cp.ExnRest ∷ [])
unfolding move_at is_mark same_mark mark_number
exns-and t = refl

pub exn-takes : (sort : TokenSort) (t : Token) → is_name sort ≡ true → move_at (s.Con cp.Exn) sort t ≡ Takes (s.Do (a.Dec (b.Con (text_of t.form))) ∷ s.Con (cp.ExnArgument t.span.from) ∷ s.Do (a.Dec b.AddCon) ∷ [])
unfolding move_at
exn-takes sort t h = rw h refl

and-ends : {word : Token} → IsMark (codes "and") word → TyEnds (Some word)
unfolding same_mark mark_number
and-ends h = Types.mark-ends _ (Words.is-and h) refl

pub c-exns-one : {word : Token} {name : List ℕ} → IsName name word → Starting is_name (ExnsC (made (a.Dec (b.Con name)) word.span.to ∷ (made (a.Dec b.AddCon) word.span.to ∷ []))) (word ∷ [])
c-exns-one {word} h = starting word [] (name-is h) (record {
  comes = λ st rest e.
      renamed (λ z. a.Dec (b.Con z)) (Words.name-text h) (acts
      (skips (e.exn word.span.from)
      (acts
      (skips e.exns
      (stays rest st word.span.to)))));
})

pub c-exns-of : {n : List Made} {ts : List Token} {word of_ : Token} {name : List ℕ} → IsName name word → IsMark (codes "of") of_ → Starting begins_ty (TyC false n) ts →
    Starting is_name (ExnsC (made (a.Dec (b.Con name)) word.span.to ∷ (n ++ (made (a.Dec b.ConOf) (last_of ts) ∷ (made (a.Dec b.AddCon) (last_of ts) ∷ []))))) (word ∷ of_ ∷ ts)
c-exns-of {word = word} {of_ = of_} h i (starting u vs k p) = starting word (of_ ∷ u ∷ vs) (name-is h) (record {
  comes = λ st rest e.
      renamed (λ z. a.Dec (b.Con z)) (Words.name-text h) (acts
      (takes-as (Words.is-of i) (exn-of word.span.from of_)
      (then (p.comes (s.Do (a.Dec b.ConOf) ∷ s.Do (a.Dec b.AddCon) ∷ s.Con cp.ExnRest ∷ st) rest of_.span.to (ty-ends e))
      (acts (acts
      (skips e.exns
      (stays rest st (last_after u.span.to vs))))))));
})

pub c-exns-same : {word equals long_ : Token} {name other : List ℕ} → IsName name word → IsMark (codes "=") equals → IsTypeName other long_ →
    Starting is_name (ExnsC (made (a.Dec (b.Con name)) word.span.to ∷ (made (a.Lack word.span.from l.Replication) equals.span.to ∷ (made (a.Dec b.AddCon) long_.span.to ∷ [])))) (word ∷ equals ∷ long_ ∷ [])
c-exns-same {word} {equals} {long_} h i j = starting word (equals ∷ long_ ∷ []) (name-is h) (record {
  comes = λ st rest e.
      renamed (λ z. a.Dec (b.Con z)) (Words.name-text h) (acts
      (takes-as (Words.is-equal i) (exn-equal word.span.from equals)
      (acts
      (takes (original-takes long_ (type-sort j))
      (acts
      (skips e.exns
      (stays rest st long_.span.to)))))));
})

pub c-exns-more : {n : List Made} {us : List Token} {word and_ : Token} {name : List ℕ} → IsName name word → IsMark (codes "and") and_ → Starting is_name (ExnsC n) us →
    Starting is_name (ExnsC (made (a.Dec (b.Con name)) word.span.to ∷ (made (a.Dec b.AddCon) word.span.to ∷ n))) (word ∷ and_ ∷ us)
c-exns-more {word = word} {and_ = and_} h i (starting u vs k q) = starting word (and_ ∷ u ∷ vs) (name-is h) (record {
  comes = λ st rest e.
      renamed (λ z. a.Dec (b.Con z)) (Words.name-text h) (acts
      (skips (exn-and word.span.from i)
      (acts
      (takes-as (Words.is-and i) (exns-and and_)
      (takes (exn-takes _ u k)
      (q.comes st rest e))))));
})

pub c-exns-of-more : {n m : List Made} {ts us : List Token} {word of_ and_ : Token} {name : List ℕ} → IsName name word → IsMark (codes "of") of_ → Starting begins_ty (TyC false n) ts → IsMark (codes "and") and_ → Starting is_name (ExnsC m) us →
    Starting is_name (ExnsC (made (a.Dec (b.Con name)) word.span.to ∷ (n ++ (made (a.Dec b.ConOf) (last_of ts) ∷ (made (a.Dec b.AddCon) (last_of ts) ∷ m))))) (word ∷ of_ ∷ ts ++ and_ ∷ us)
c-exns-of-more {word = word} {of_ = of_} {and_ = and_} h i (starting u vs k p) j (starting w ws l q) = starting word ((of_ ∷ u ∷ vs) ++ and_ ∷ w ∷ ws) (name-is h) (record {
  comes = λ st rest e.
      ends-at (sym (after-both u.span.to vs (and_ ∷ w ∷ ws)))
      (grouped (of_ ∷ u ∷ vs) (and_ ∷ w ∷ ws) rest
      (renamed (λ z. a.Dec (b.Con z)) (Words.name-text h) (acts
      (takes-as (Words.is-of i) (exn-of word.span.from of_)
      (then (p.comes (s.Do (a.Dec b.ConOf) ∷ s.Do (a.Dec b.AddCon) ∷ s.Con cp.ExnRest ∷ st) (and_ ∷ (w ∷ ws) ++ rest) of_.span.to (and-ends j))
      (acts (acts
      (takes-as (Words.is-and j) (exns-and and_)
      (takes (exn-takes _ w l)
      (q.comes st rest e))))))))));
})

pub c-exns-same-more : {n : List Made} {us : List Token} {word equals long_ and_ : Token} {name other : List ℕ} → IsName name word → IsMark (codes "=") equals → IsTypeName other long_ → IsMark (codes "and") and_ → Starting is_name (ExnsC n) us →
    Starting is_name (ExnsC (made (a.Dec (b.Con name)) word.span.to ∷ (made (a.Lack word.span.from l.Replication) equals.span.to ∷ (made (a.Dec b.AddCon) long_.span.to ∷ n)))) (word ∷ equals ∷ long_ ∷ and_ ∷ us)
c-exns-same-more {word = word} {equals = equals} {long_ = long_} {and_ = and_} h i j k (starting u vs l q) = starting word (equals ∷ long_ ∷ and_ ∷ u ∷ vs) (name-is h) (record {
  comes = λ st rest e.
      renamed (λ z. a.Dec (b.Con z)) (Words.name-text h) (acts
      (takes-as (Words.is-equal i) (exn-equal word.span.from equals)
      (acts
      (takes (original-takes long_ (type-sort j))
      (acts
      (takes-as (Words.is-and k) (exns-and and_)
      (takes (exn-takes _ u l)
      (q.comes st rest e))))))));
})

-- datatypes
unfoldable pub body-of : Bool → List Sym
body-of flag = s.Want m.Equal ∷ s.Con (cp.Body flag) ∷ []

pub data-goes : (alone : Bool) → HeadGoes (s.Head (hp.Data alone)) (s.Head hp.DataName) body-of alone
unfolding move_at is_name is_ty_var is_mark same_mark mark_number body-of
data-goes alone = record { named = λ t. refl; var = λ t. refl; several = λ t. refl; after = λ t. refl }

pub body-takes : (flag : Bool) (sort : TokenSort) (t : Token) → is_name sort ≡ true → move_at (s.Con (cp.Body flag)) sort t ≡
    Takes (s.Do (a.Dec b.NoCons) ∷ s.Do (a.Dec (b.Con (text_of t.form))) ∷ s.Con cp.Argument ∷ s.Do (a.Dec b.AddCon) ∷ s.Con cp.Rest ∷ s.Do (a.Dec b.AddData) ∷ s.Con cp.DataRest ∷ [])
unfolding move_at
body-takes flag sort t h = rw h refl

datas-and : (t : Token) → move_at (s.Con cp.DataRest) (o.Mark m.And) t ≡ Takes (s.Head (hp.Data false) ∷ [])
unfolding move_at is_mark same_mark mark_number
datas-and t = refl

-- the acts of a head, and those behind it
head-told : (f : Made) (n : List Made) (g : Made) (more : List Made) → (f ∷ (n ++ (g ∷ []))) ++ more ≡ f ∷ (n ++ (g ∷ more))
head-told f n g more = ap (λ z. f ∷ z) (append_assoc n (g ∷ []) more)

pub c-datas-one : {n m : List Made} {ts us : List Token} {word equals : Token} {name : List ℕ} → VarsC n ts → IsName name word → IsMark (codes "=") equals → Starting is_name (ConsC m) us →
    DatasC (made (a.Dec b.NoVars) (first_to (ts ++ word ∷ [])) ∷ (n ++ (made (a.Dec (b.Head name)) word.span.to ∷ (made (a.Dec b.NoCons) (first_to us) ∷ (m ++ (made (a.Dec b.AddData) (last_of us) ∷ [])))))) (ts ++ word ∷ equals ∷ us)
unfolding body-of
c-datas-one {n} {ts = ts} {word = word} {equals = equals} {name = name} p h i (starting u vs k q) = record {
  comes = λ alone st rest to e.
      let c = p.comes (s.Head (hp.Data alone)) (s.Head hp.DataName) body-of alone (data-goes alone) word name h st ((equals ∷ u ∷ vs) ++ rest) to in
      ends-at (sym (after-both to ts (word ∷ equals ∷ u ∷ vs)))
      (grouped ts (word ∷ equals ∷ u ∷ vs) rest
      (told (head-told _ n _ _)
      (then c.1
      (takes-as (Words.is-equal i) (want-equal equals)
      (takes (body-takes c.0 _ u k)
      (acts
      (then (q.comes (s.Do (a.Dec b.AddData) ∷ s.Con cp.DataRest ∷ st) rest (cons-ends e))
      (acts
      (skips e.datas
      (stays rest st (last_after u.span.to vs)))))))))));
}

pub c-datas-more : {n m k' : List Made} {ts us ws : List Token} {word equals and_ : Token} {name : List ℕ} → VarsC n ts → IsName name word → IsMark (codes "=") equals → Starting is_name (ConsC m) us → IsMark (codes "and") and_ → DatasC k' ws →
    DatasC (made (a.Dec b.NoVars) (first_to (ts ++ word ∷ [])) ∷ (n ++ (made (a.Dec (b.Head name)) word.span.to ∷ (made (a.Dec b.NoCons) (first_to us) ∷ (m ++ (made (a.Dec b.AddData) (last_of us) ∷ k')))))) (ts ++ word ∷ equals ∷ us ++ and_ ∷ ws)
unfolding body-of
c-datas-more {n} {ts = ts} {ws = ws} {word = word} {equals = equals} {and_ = and_} {name = name} p h i (starting u vs k q) j r = record {
  comes = λ alone st rest to e.
      let c = p.comes (s.Head (hp.Data alone)) (s.Head hp.DataName) body-of alone (data-goes alone) word name h st ((equals ∷ u ∷ vs) ++ (and_ ∷ ws ++ rest)) to in
      ends-at (sym (after-both to (ts ++ word ∷ equals ∷ u ∷ vs) (and_ ∷ ws)))
      (grouped (ts ++ word ∷ equals ∷ u ∷ vs) (and_ ∷ ws) rest
      (grouped ts (word ∷ equals ∷ u ∷ vs) (and_ ∷ ws ++ rest)
      (told (head-told _ n _ _)
      (then c.1
      (takes-as (Words.is-equal i) (want-equal equals)
      (takes (body-takes c.0 _ u k)
      (acts
      (then (q.comes (s.Do (a.Dec b.AddData) ∷ s.Con cp.DataRest ∷ st) (and_ ∷ ws ++ rest) (cons-and j))
      (acts
      (takes-as (Words.is-and j) (datas-and and_)
      (r.comes false st rest and_.span.to e)))))))))));
}

-- abbreviations
type-of : Bool → List Sym
type-of flag = s.Want m.Equal ∷ s.Ty (tp.Whole true) ∷ s.Do (a.Dec b.AddAbbrev) ∷ s.Head hp.TypeRest ∷ []

type-goes : HeadGoes (s.Head hp.Type) (s.Head hp.TypeName) type-of false
unfolding move_at is_name is_ty_var is_mark same_mark mark_number type-of
type-goes = record { named = λ t. refl; var = λ t. refl; several = λ t. refl; after = λ t. refl }

types-and : (t : Token) → move_at (s.Head hp.TypeRest) (o.Mark m.And) t ≡ Takes (s.Head hp.Type ∷ [])
unfolding move_at is_mark same_mark mark_number
types-and t = refl

pub c-abbrevs-one : {n m : List Made} {ts us : List Token} {word equals : Token} {name : List ℕ} → VarsC n ts → IsName name word → IsMark (codes "=") equals → Starting begins_ty (TyC true m) us →
    AbbrevsC (made (a.Dec b.NoVars) (first_to (ts ++ word ∷ [])) ∷ (n ++ (made (a.Dec (b.Head name)) word.span.to ∷ (m ++ (made (a.Dec b.AddAbbrev) (last_of us) ∷ []))))) (ts ++ word ∷ equals ∷ us)
unfolding type-of
c-abbrevs-one {n} {ts = ts} {word = word} {equals = equals} {name = name} p h i (starting u vs k q) = record {
  comes = λ st rest to e.
      let c = p.comes (s.Head hp.Type) (s.Head hp.TypeName) type-of false type-goes word name h st ((equals ∷ u ∷ vs) ++ rest) to in
      ends-at (sym (after-both to ts (word ∷ equals ∷ u ∷ vs)))
      (grouped ts (word ∷ equals ∷ u ∷ vs) rest
      (told (head-told _ n _ _)
      (then c.1
      (takes-as (Words.is-equal i) (want-equal equals)
      (then (q.comes (s.Do (a.Dec b.AddAbbrev) ∷ s.Head hp.TypeRest ∷ st) rest equals.span.to (ty-ends e))
      (acts
      (skips e.types
      (stays rest st (last_after u.span.to vs)))))))));
}

pub c-abbrevs-more : {n m k' : List Made} {ts us ws : List Token} {word equals and_ : Token} {name : List ℕ} → VarsC n ts → IsName name word → IsMark (codes "=") equals → Starting begins_ty (TyC true m) us → IsMark (codes "and") and_ → AbbrevsC k' ws →
    AbbrevsC (made (a.Dec b.NoVars) (first_to (ts ++ word ∷ [])) ∷ (n ++ (made (a.Dec (b.Head name)) word.span.to ∷ (m ++ (made (a.Dec b.AddAbbrev) (last_of us) ∷ k'))))) (ts ++ word ∷ equals ∷ us ++ and_ ∷ ws)
unfolding type-of
c-abbrevs-more {n} {ts = ts} {ws = ws} {word = word} {equals = equals} {and_ = and_} {name = name} p h i (starting u vs k q) j r = record {
  comes = λ st rest to e.
      let c = p.comes (s.Head hp.Type) (s.Head hp.TypeName) type-of false type-goes word name h st ((equals ∷ u ∷ vs) ++ (and_ ∷ ws ++ rest)) to in
      ends-at (sym (after-both to (ts ++ word ∷ equals ∷ u ∷ vs) (and_ ∷ ws)))
      (grouped (ts ++ word ∷ equals ∷ u ∷ vs) (and_ ∷ ws) rest
      (grouped ts (word ∷ equals ∷ u ∷ vs) (and_ ∷ ws ++ rest)
      (told (head-told _ n _ _)
      (then c.1
      (takes-as (Words.is-equal i) (want-equal equals)
      (then (q.comes (s.Do (a.Dec b.AddAbbrev) ∷ s.Head hp.TypeRest ∷ st) (and_ ∷ ws ++ rest) equals.span.to (and-ends j))
      (acts
      (takes-as (Words.is-and j) (types-and and_)
      (r.comes st rest and_.span.to e)))))))));
}
