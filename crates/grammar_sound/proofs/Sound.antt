-- What the machine reads, the grammar derives; and the exact machine is the machine on tokens of a slice.
use Rattle.std.proofs.Common.{◌≡◌, ◌==◌, ◌+◌, ◌≤◌, ◌<◌, ℕ, suc, List, [], ◌∷◌, ◌++◌, length, Bool, true, false, cond, Option, Some, None, refl, ap, sym, ◌∙◌, subst, arith}
use Rattle.std.proofs.lemmas.Bool.{eqb-true, leb-true, le-leb, lt-ltb}
use Rattle.sml_syntax.specs.declared.token.Token.{Token}
use Rattle.sml_syntax.specs.declared.tree.Program.{Program}
use Rattle.sml_syntax.specs.NestedTypes.{Found}
use Rattle.grammar_rules.specs.Grammar.{Is, IsMark, items, decs_tree}
use Rattle.grammar_rules.specs.Programs.{IsWide}
use Rattle.sml_grammar.specs.declared.act.Act.{Act}
use Rattle.sml_grammar.specs.declared.act.Act.TheVariants as a
use Rattle.sml_grammar.specs.declared.act.PatAct.TheVariants as p
use Rattle.sml_grammar.specs.declared.act.Made.{Made}
use Rattle.sml_grammar.specs.declared.mark.Mark.{Mark}
use Rattle.sml_grammar.specs.declared.token_sort.TokenSort.{TokenSort}
use Rattle.sml_grammar.specs.declared.symbol.Sym.{Sym}
use Rattle.sml_grammar.specs.declared.symbol.Sym.TheVariants as s
use Rattle.sml_grammar.specs.declared.symbol.PatPhrase.{PatPhrase}
use Rattle.sml_grammar.specs.declared.symbol.PatPhrase.TheVariants as pp
use Rattle.sml_grammar.specs.declared.symbol.TyPhrase.{TyPhrase}
use Rattle.sml_grammar.specs.declared.symbol.TyPhrase.TheVariants as tp
use Rattle.sml_grammar.specs.declared.symbol.DecPhrase.{DecPhrase}
use Rattle.sml_grammar.specs.declared.symbol.DecPhrase.TheVariants as dp
use Rattle.sml_grammar.specs.declared.symbol.HeadPhrase.{HeadPhrase}
use Rattle.sml_grammar.specs.declared.symbol.HeadPhrase.TheVariants as hp
use Rattle.sml_grammar.specs.declared.symbol.ConPhrase.{ConPhrase}
use Rattle.sml_grammar.specs.declared.symbol.ConPhrase.TheVariants as cp
use Rattle.sml_grammar.specs.declared.symbol.FunPhrase.{FunPhrase}
use Rattle.sml_grammar.specs.declared.symbol.FunPhrase.TheVariants as fp
use Rattle.sml_grammar.specs.declared.symbol.LaterPhrase.{LaterPhrase}
use Rattle.sml_grammar.specs.declared.symbol.LaterPhrase.TheVariants as lp
use Rattle.sml_grammar.specs.Sorts.{sort_of, is_mark, begins_pat, begins_body}
use Rattle.sml_grammar.specs.Tokens.{one_more}
use Rattle.sml_grammar.specs.Takes.{atpat_take, body_take, end_take}
use Rattle.sml_grammar.specs.Moves.{Move, Takes, Skips, Acts, Fails}
use Rattle.sml_grammar.specs.Machine.{move_at, move_end, move_of, skips_if, made, Fed, Goes, Empties, Stuck, feed, feed_by, Accepts, end_of, next_of, run, start, outcome_of}
use Rattle.grammar_sound.specs.Exact.{exact_move, exact_feed, exact_run, exact_outcome}
use Rattle.grammar_sound.proofs.Seen.{seen, spelling, marked}
use Rattle.grammar_sound.proofs.Sem.{Sem, Fulfils, done, reads, Split, parts, split, first_or, empty, OneMark, one_mark, nil}
use Rattle.grammar_sound.proofs.Fine.{Fine, takes, skips, does, fails, by_cond, strip, stripped, Good, Quiet, low, low_sym}
use Rattle.grammar_sound.proofs.Types.{fine_ty}
use Rattle.grammar_sound.proofs.Patterns.{fine_pat, fine_pat_items}
use Rattle.grammar_sound.proofs.Rests.{fine_exp, fine_exp_rest, rest_end, low_append}
use Rattle.grammar_sound.proofs.Enclosed.{fine_exp_items, fine_quoted}
use Rattle.grammar_sound.proofs.Definitions.{fine_head, fine_con}
use Rattle.grammar_sound.proofs.Declarations.{fine_dec}
use Rattle.grammar_sound.proofs.Functions.{fine_fun}
use Rattle.grammar_sound.proofs.Clauses.{fine_later, no-patterns}
use Rattle.grammar_sound.proofs.Finishes.{finishes_pat, finishes_ty, finishes_dec, finishes_head, finishes_con, finishes_fun, finishes_later}

want-takes : (mark : Mark) (w : Token) (us : List Token) (z : Option TokenSort) → IsMark (spelling mark) w → Fulfils [] us z → OneMark mark (w ∷ us)
want-takes mark w _ z i done = one_mark w i

-- each entry of the table
fine : (x : Sym) (w : Token) → Fine x w (sort_of w.form) (exact_move x (sort_of w.form) w)
unfolding move_at
fine (s.Do act) w = does empty
fine (s.Want mark) w = by_cond (is_mark mark (sort_of w.form)) (λ h. takes (λ us z f. want-takes mark w us z (marked mark w (sort_of w.form) (seen w.form) h) f) (λ st g. g) (λ n l. refl)) (λ h. fails)
fine (s.Exp phrase) w = fine_exp phrase w (sort_of w.form) (seen w.form)
fine (s.ExpRest phrase) w = fine_exp_rest phrase w
fine (s.ExpItems phrase) w = fine_exp_items phrase w (sort_of w.form) (seen w.form)
fine (s.Quoted phrase) w = fine_quoted phrase w (sort_of w.form) (seen w.form)
fine (s.Pat phrase) w = fine_pat phrase w (sort_of w.form) (seen w.form)
fine (s.PatItems phrase) w = fine_pat_items phrase w (sort_of w.form) (seen w.form)
fine (s.Ty phrase) w = fine_ty phrase w (sort_of w.form) (seen w.form)
fine (s.Dec phrase) w = fine_dec phrase w (sort_of w.form) (seen w.form)
fine (s.Head phrase) w = fine_head phrase w (sort_of w.form) (seen w.form)
fine (s.Con phrase) w = fine_con phrase w (sort_of w.form) (seen w.form)
fine (s.Fun phrase) w = fine_fun phrase w (sort_of w.form) (seen w.form)
fine (s.Later phrase) w = fine_later phrase w (sort_of w.form) (seen w.form)

-- at the end of the tokens
data FineEnd (x : Sym) : Move → Type 0 where
  end_skips : Sem x [] None → FineEnd x Skips
  end_acts : {act : Act} → Sem x [] None → FineEnd x (Acts act)
  end_fails : FineEnd x Fails

quiet-none : Quiet None
quiet-none = record { no_or = tt; no_handle = tt; no_bar = tt; no_infix = tt }

end-pat : (phrase : PatPhrase) → FineEnd (s.Pat phrase) (move_end (s.Pat phrase))
unfolding move_end
end-pat (pp.ConsRest from) = end_skips (finishes_pat (pp.ConsRest from))
end-pat (pp.TypedRest from) = end_skips (finishes_pat (pp.TypedRest from))
end-pat (pp.Argument from) = end_skips (finishes_pat (pp.Argument from))
end-pat _ = end_fails

end-ty : (phrase : TyPhrase) → FineEnd (s.Ty phrase) (move_end (s.Ty phrase))
unfolding move_end
end-ty (tp.ArgumentRest from) = end_skips (finishes_ty (tp.ArgumentRest from))
end-ty (tp.StarRest v from) = end_skips (finishes_ty (tp.StarRest v from))
end-ty (tp.StarMore v) = end_skips (finishes_ty (tp.StarMore v))
end-ty (tp.ArrowRest v from) = end_skips (finishes_ty (tp.ArrowRest v from))
end-ty _ = end_fails

end-dec : (phrase : DecPhrase) → FineEnd (s.Dec phrase) (move_end (s.Dec phrase))
unfolding move_end
end-dec dp.Items = end_skips (finishes_dec dp.Items)
end-dec dp.AfterDec = end_skips (finishes_dec dp.AfterDec)
end-dec dp.AfterExp = end_skips (finishes_dec dp.AfterExp)
end-dec dp.Inner = end_skips (finishes_dec dp.Inner)
end-dec dp.AfterInner = end_skips (finishes_dec dp.AfterInner)
end-dec dp.ValRest = end_skips (finishes_dec dp.ValRest)
end-dec dp.RecRest = end_skips (finishes_dec dp.RecRest)
end-dec (dp.ValFirst from) = end_fails
end-dec dp.RecBind = end_fails

end-head : (phrase : HeadPhrase) → FineEnd (s.Head phrase) (move_end (s.Head phrase))
unfolding move_end
end-head hp.TypeRest = end_skips (finishes_head hp.TypeRest)
end-head _ = end_fails

end-con : (phrase : ConPhrase) → FineEnd (s.Con phrase) (move_end (s.Con phrase))
unfolding move_end
end-con cp.Argument = end_skips (finishes_con cp.Argument)
end-con cp.Rest = end_skips (finishes_con cp.Rest)
end-con cp.DataRest = end_skips (finishes_con cp.DataRest)
end-con (cp.ExnArgument from) = end_skips (finishes_con (cp.ExnArgument from))
end-con cp.ExnRest = end_skips (finishes_con cp.ExnRest)
end-con _ = end_fails

end-fun : (phrase : FunPhrase) → FineEnd (s.Fun phrase) (move_end (s.Fun phrase))
unfolding move_end
end-fun fp.Rest = end_skips (finishes_fun fp.Rest None quiet-none)
end-fun _ = end_fails

end-later : (phrase : LaterPhrase) → FineEnd (s.Later phrase) (move_end (s.Later phrase))
unfolding move_end
end-later (lp.Rest name count) = end_skips (finishes_later (lp.Rest name count) None quiet-none)
end-later (lp.Patterns count) = go (count == 0) refl
  where
    go : (b : Bool) → (count == 0) ≡ b → FineEnd (s.Later (lp.Patterns count)) (skips_if b)
    go true h = end_skips (no-patterns count (eqb-true count 0 h))
    go false h = end_fails
end-later _ = end_fails

fine-end : (x : Sym) → FineEnd x (move_end x)
unfolding move_end
fine-end (s.Do act) = end_acts empty
fine-end (s.Want mark) = end_fails
fine-end (s.Exp phrase) = end_fails
fine-end (s.ExpRest phrase) = end_skips (rest_end phrase None quiet-none)
fine-end (s.ExpItems phrase) = end_fails
fine-end (s.Quoted phrase) = end_fails
fine-end (s.Pat phrase) = end-pat phrase
fine-end (s.PatItems phrase) = end_fails
fine-end (s.Ty phrase) = end-ty phrase
fine-end (s.Dec phrase) = end-dec phrase
fine-end (s.Head phrase) = end-head phrase
fine-end (s.Con phrase) = end-con phrase
fine-end (s.Fun phrase) = end-fun phrase
fine-end (s.Later phrase) = end-later phrase

-- a token that is taken
taken : (x : Sym) (w : Token) (β st : List Sym) {rest : List Token} (z : Option TokenSort) → ((us : List Token) (y : Option TokenSort) → Fulfils (strip β) us y → Sem x (w ∷ us) y) → Split β st z rest → Fulfils (x ∷ st) (w ∷ rest) z
taken x w β st z sound (parts us rest g f) = reads (w ∷ us) rest (sound us (first_or rest z) (stripped β g)) f

pub fed_sound : (w : Token) (st st' : List Sym) (to : ℕ) (acts acts' : List Made) (rest : List Token) (z : Option TokenSort) → exact_feed (Some w) st to acts ≡ Goes st' acts' → Fulfils st' rest z → Fulfils st (w ∷ rest) z
unfolding exact_feed
fed_sound w [] st' to acts acts' rest z h f = cc
fed_sound w (x ∷ st) st' to acts acts' rest z h f = go (exact_move x (sort_of w.form) w) (fine x w) (λ made_ k. fed_sound w st st' to made_ acts' rest z k f) h
  where
    go : (move : Move) → Fine x w (sort_of w.form) move → ((made_ : List Made) → exact_feed (Some w) st to made_ ≡ Goes st' acts' → Fulfils st (w ∷ rest) z) → feed_by move st to acts (exact_feed (Some w) st to) ≡ Goes st' acts' → Fulfils (x ∷ st) (w ∷ rest) z
    go (Takes β) (takes sound good low_) below h = let same : st' ≡ β ++ st = cc in taken x w β st z sound (split β st z (subst (λ σ. Fulfils σ rest z) same f))
    go Skips (skips sem) below h = reads [] (w ∷ rest) sem (below acts h)
    go (Acts act) (does sem) below h = reads [] (w ∷ rest) sem (below (acts ++ made act to ∷ []) h)
    go Fails fails below h = cc

below-good : (x : Sym) (st : List Sym) → Good (x ∷ st) → Good st
below-good (s.Do act) st g = g
below-good (s.Want mark) st g = g
below-good (s.Exp phrase) st (q, g) = g
below-good (s.ExpRest phrase) st (q, g) = g
below-good (s.ExpItems phrase) st g = g
below-good (s.Quoted phrase) st g = g
below-good (s.Pat phrase) st g = g
below-good (s.PatItems phrase) st g = g
below-good (s.Ty phrase) st g = g
below-good (s.Dec phrase) st (q, g) = g
below-good (s.Head phrase) st g = g
below-good (s.Con phrase) st g = g
below-good (s.Fun phrase) st (q, g) = g
below-good (s.Later (lp.Patterns count)) st g = g
below-good (s.Later (lp.Rest name count)) st (q, g) = g
below-good (s.Later (lp.Clause name count)) st (q, g) = g
below-good (s.Later (lp.Op from name count)) st (q, g) = g
below-good (s.Later (lp.Head from name_at found name)) st (q, g) = g
below-good (s.Later (lp.Infix from name)) st (q, g) = g

pub fed_good : (w : Token) (st st' : List Sym) (to : ℕ) (acts acts' : List Made) → exact_feed (Some w) st to acts ≡ Goes st' acts' → Good st → Good st'
unfolding exact_feed
fed_good w [] st' to acts acts' h g = cc
fed_good w (x ∷ st) st' to acts acts' h g = go (exact_move x (sort_of w.form) w) (fine x w) (λ made_ k. fed_good w st st' to made_ acts' k (below-good x st g)) h
  where
    go : (move : Move) → Fine x w (sort_of w.form) move → ((made_ : List Made) → exact_feed (Some w) st to made_ ≡ Goes st' acts' → Good st') → feed_by move st to acts (exact_feed (Some w) st to) ≡ Goes st' acts' → Good st'
    go (Takes β) (takes sound good low_) below h = let same : β ++ st ≡ st' = cc in subst Good same (good st g)
    go Skips (skips sem) below h = below acts h
    go (Acts act) (does sem) below h = below (acts ++ made act to ∷ []) h
    go Fails fails below h = cc

ends-sound : (st : List Sym) (to : ℕ) (acts acts' : List Made) → exact_feed None st to acts ≡ Empties acts' → Fulfils st [] None
unfolding exact_feed
ends-sound [] to acts acts' h = done
ends-sound (x ∷ st) to acts acts' h = go (move_end x) (fine-end x) (λ made_ k. ends-sound st to made_ acts' k) h
  where
    go : (move : Move) → FineEnd x move → ((made_ : List Made) → exact_feed None st to made_ ≡ Empties acts' → Fulfils st [] None) → feed_by move st to acts (exact_feed None st to) ≡ Empties acts' → Fulfils (x ∷ st) [] None
    go (Takes β) fine_ below h = elim fine_ [ ]
    go Skips (end_skips sem) below h = reads [] [] sem (below acts h)
    go (Acts act) (end_acts sem) below h = reads [] [] sem (below (acts ++ made act to ∷ []) h)
    go Fails end_fails below h = cc

end-empties : (fed : Fed) (to : ℕ) (acts' : List Made) → end_of fed to ≡ Accepts acts' → fed ≡ Empties acts'
end-empties (Goes st acts) to acts' h = cc
end-empties (Empties acts) to acts' h = cc
end-empties Stuck to acts' h = cc

pub sound : (ts : List Token) (st : List Sym) (to : ℕ) (acts acts' : List Made) → exact_run ts st to acts ≡ Accepts acts' → Fulfils st ts None
unfolding exact_run
sound [] st to acts acts' h = ends-sound st to acts acts' (end-empties (exact_feed None st to acts) to acts' h)
sound (w ∷ ts) st to acts acts' h = go (exact_feed (Some w) st to acts) refl (λ σ made_ k. sound ts σ w.span.to made_ acts' k) h
  where
    go : (fed : Fed) → exact_feed (Some w) st to acts ≡ fed → ((σ : List Sym) (made_ : List Made) → exact_run ts σ w.span.to made_ ≡ Accepts acts' → Fulfils σ ts None) → next_of fed (w ∷ ts) to (λ σ made_. exact_run ts σ w.span.to made_) ≡ Accepts acts' → Fulfils st (w ∷ ts) None
    go (Goes σ made_) q later h = fed_sound w st σ to acts made_ ts None q (later σ made_ h)
    go (Empties made_) q later h = cc
    go Stuck q later h = cc

-- counts of patterns stay below the number of tokens
low-tail : (n : ℕ) (x : Sym) (st : List Sym) → low n (x ∷ st) ≡ true → low n st ≡ true
low-tail n x st h = go (low_sym n x) h
  where
    go : (b : Bool) → cond b (low n st) false ≡ true → low n st ≡ true
    go true h = h
    go false h = cc

low-head : (n : ℕ) (x : Sym) (st : List Sym) → low n (x ∷ st) ≡ true → low_sym n x ≡ true
low-head n x st h = go (low_sym n x) refl h
  where
    go : (b : Bool) → low_sym n x ≡ b → cond b (low n st) false ≡ true → low_sym n x ≡ true
    go true q h = q
    go false q h = cc

low-next : (n : ℕ) (st : List Sym) → low n st ≡ true → low (suc n) st ≡ true
low-next n [] h = h
low-next n (x ∷ st) h = go (next-sym n x (low-head n x st h)) (low-next n st (low-tail n x st h))
  where
    next-sym : (n : ℕ) (x : Sym) → low_sym n x ≡ true → low_sym (suc n) x ≡ true
    next-sym n (s.Fun (fp.Patterns from name count)) h = le-leb count (suc n) (up count n (leb-true count n h))
      where
        up : (a b : ℕ) → a ≤ b → a ≤ suc b
        up a b h = omega arith
    next-sym n (s.Fun fp.Bind) h = h
    next-sym n (s.Fun fp.Rest) h = h
    next-sym n (s.Fun (fp.Op from)) h = h
    next-sym n (s.Fun (fp.Head from name_at name)) h = h
    next-sym n (s.Fun (fp.Infix from)) h = h
    next-sym n (s.Fun (fp.Equals from count)) h = h
    next-sym n (s.Do act) h = h
    next-sym n (s.Want mark) h = h
    next-sym n (s.Exp phrase) h = h
    next-sym n (s.ExpRest phrase) h = h
    next-sym n (s.ExpItems phrase) h = h
    next-sym n (s.Quoted phrase) h = h
    next-sym n (s.Pat phrase) h = h
    next-sym n (s.PatItems phrase) h = h
    next-sym n (s.Ty phrase) h = h
    next-sym n (s.Dec phrase) h = h
    next-sym n (s.Head phrase) h = h
    next-sym n (s.Con phrase) h = h
    next-sym n (s.Later phrase) h = h

    go : low_sym (suc n) x ≡ true → low (suc n) st ≡ true → low (suc n) (x ∷ st) ≡ true
    go p q = ap (λ b. cond b (low (suc n) st) false) p ∙ q

fed-low : (n : ℕ) (w : Token) (st st' : List Sym) (to : ℕ) (acts acts' : List Made) → exact_feed (Some w) st to acts ≡ Goes st' acts' → low n st ≡ true → low (suc n) st' ≡ true
unfolding exact_feed
fed-low n w [] st' to acts acts' h g = cc
fed-low n w (x ∷ st) st' to acts acts' h g = go (exact_move x (sort_of w.form) w) (fine x w) (λ made_ k. fed-low n w st st' to made_ acts' k (low-tail n x st g)) h
  where
    go : (move : Move) → Fine x w (sort_of w.form) move → ((made_ : List Made) → exact_feed (Some w) st to made_ ≡ Goes st' acts' → low (suc n) st' ≡ true) → feed_by move st to acts (exact_feed (Some w) st to) ≡ Goes st' acts' → low (suc n) st' ≡ true
    go (Takes β) (takes sound good low_) below h =
        let same : β ++ st ≡ st' = cc in
        subst (λ σ. low (suc n) σ ≡ true) same (low_append (suc n) β st (low_ n (low-head n x st g)) (low-next n st (low-tail n x st g)))
    go Skips (skips sem) below h = below acts h
    go (Acts act) (does sem) below h = below (acts ++ made act to ∷ []) h
    go Fails fails below h = cc

-- below the greatest number the machine counts as the exact one does
one-more-is : (count : ℕ) → count < 18446744073709551615 → one_more count ≡ suc count
unfolding one_more
one-more-is count h = ap (λ b. cond b (count + 1) count) (lt-ltb count 18446744073709551615 h) ∙ plus count
  where
    plus : (n : ℕ) → n + 1 ≡ suc n
    plus n = omega arith

same-move : (n : ℕ) (x : Sym) (w : Token) → n < 18446744073709551615 → low_sym n x ≡ true → move_at x (sort_of w.form) w ≡ exact_move x (sort_of w.form) w
unfolding move_at
same-move n (s.Fun (fp.Patterns from name count)) w l h =
    ap (λ k. cond (begins_pat (sort_of w.form)) (Takes (atpat_take (sort_of w.form) w ++ (s.Do (a.Pat p.Push) ∷ s.Fun (fp.Patterns from name k) ∷ []))) (cond (begins_body (sort_of w.form)) (Takes (body_take from count (sort_of w.form) ++ ((s.Later (lp.Rest name count) ∷ []) ++ end_take from name count))) Fails))
    (one-more-is count (below count n (leb-true count n h) l))
  where
    below : (a b : ℕ) → a ≤ b → b < 18446744073709551615 → a < 18446744073709551615
    below a b h l = omega arith
same-move n (s.Fun fp.Bind) w l h = refl
same-move n (s.Fun fp.Rest) w l h = refl
same-move n (s.Fun (fp.Op from)) w l h = refl
same-move n (s.Fun (fp.Head from name_at name)) w l h = refl
same-move n (s.Fun (fp.Infix from)) w l h = refl
same-move n (s.Fun (fp.Equals from count)) w l h = refl
same-move n (s.Do act) w l h = refl
same-move n (s.Want mark) w l h = refl
same-move n (s.Exp phrase) w l h = refl
same-move n (s.ExpRest phrase) w l h = refl
same-move n (s.ExpItems phrase) w l h = refl
same-move n (s.Quoted phrase) w l h = refl
same-move n (s.Pat phrase) w l h = refl
same-move n (s.PatItems phrase) w l h = refl
same-move n (s.Ty phrase) w l h = refl
same-move n (s.Dec phrase) w l h = refl
same-move n (s.Head phrase) w l h = refl
same-move n (s.Con phrase) w l h = refl
same-move n (s.Later phrase) w l h = refl

same-feed : (n : ℕ) (w : Token) (st : List Sym) (to : ℕ) (acts : List Made) → n < 18446744073709551615 → low n st ≡ true → feed (Some w) st to acts ≡ exact_feed (Some w) st to acts
unfolding feed exact_feed move_of
same-feed n w [] to acts l h = refl
same-feed n w (x ∷ st) to acts l h =
    ap (λ move. feed_by move st to acts (feed (Some w) st to)) (same-move n x w l (low-head n x st h))
    ∙ go (exact_move x (sort_of w.form) w) (λ made_. same-feed n w st to made_ l (low-tail n x st h))
  where
    go : (move : Move) → ((made_ : List Made) → feed (Some w) st to made_ ≡ exact_feed (Some w) st to made_) → feed_by move st to acts (feed (Some w) st to) ≡ feed_by move st to acts (exact_feed (Some w) st to)
    go (Takes β) below = refl
    go Skips below = below acts
    go (Acts act) below = below (acts ++ made act to ∷ [])
    go Fails below = refl

same-end : (st : List Sym) (to : ℕ) (acts : List Made) → feed None st to acts ≡ exact_feed None st to acts
unfolding feed exact_feed move_of
same-end [] to acts = refl
same-end (x ∷ st) to acts = go (move_end x) (λ made_. same-end st to made_)
  where
    go : (move : Move) → ((made_ : List Made) → feed None st to made_ ≡ exact_feed None st to made_) → feed_by move st to acts (feed None st to) ≡ feed_by move st to acts (exact_feed None st to)
    go (Takes β) below = refl
    go Skips below = below acts
    go (Acts act) below = below (acts ++ made act to ∷ [])
    go Fails below = refl

same-run : (ts : List Token) (n : ℕ) (st : List Sym) (to : ℕ) (acts : List Made) → n + length ts ≤ 18446744073709551615 → low n st ≡ true → run ts st to acts ≡ exact_run ts st to acts
unfolding run exact_run
same-run [] n st to acts l h = ap (λ fed. end_of fed to) (same-end st to acts)
same-run (w ∷ ts) n st to acts l h =
    ap (λ fed. next_of fed (w ∷ ts) to (λ σ made_. run ts σ w.span.to made_)) (same-feed n w st to acts (under n (length ts) l) h)
    ∙ go (exact_feed (Some w) st to acts) refl (λ σ made_ k. same-run ts (suc n) σ w.span.to made_ (shift n (length ts) l) k)
  where
    under : (n k : ℕ) → n + suc k ≤ 18446744073709551615 → n < 18446744073709551615
    under n k l = omega arith

    shift : (n k : ℕ) → n + suc k ≤ 18446744073709551615 → suc n + k ≤ 18446744073709551615
    shift n k l = omega arith

    go : (fed : Fed) → exact_feed (Some w) st to acts ≡ fed → ((σ : List Sym) (made_ : List Made) → low (suc n) σ ≡ true → run ts σ w.span.to made_ ≡ exact_run ts σ w.span.to made_)
        → next_of fed (w ∷ ts) to (λ σ made_. run ts σ w.span.to made_) ≡ next_of fed (w ∷ ts) to (λ σ made_. exact_run ts σ w.span.to made_)
    go (Goes σ made_) q later = later σ made_ (fed-low n w st σ to acts made_ q h)
    go (Empties made_) q later = refl
    go Stuck q later = refl

pub same_outcome : (tokens : List Token) → length tokens ≤ 18446744073709551615 → outcome_of tokens ≡ exact_outcome tokens
unfolding outcome_of exact_outcome
same_outcome tokens l = same-run tokens 0 start 0 [] (zero-plus (length tokens) l) refl
  where
    zero-plus : (n : ℕ) → n ≤ 18446744073709551615 → 0 + n ≤ 18446744073709551615
    zero-plus n l = omega arith

-- what a whole stack stands for
pub program_of : {ts : List Token} → Fulfils start ts None → (program : Program) × (lacks : List Found) × IsWide ts program lacks
program_of (reads _ _ empty (reads us _ (ds, ls, d) done)) = (record { items = ds }, ls, subst (λ ts. Is items ts (decs_tree ds) ls) (nil us) d)

pub exact_tree : (tokens : List Token) (acts : List Made) → exact_outcome tokens ≡ Accepts acts → (program : Program) × (lacks : List Found) × IsWide tokens program lacks
unfolding exact_outcome
exact_tree tokens acts h = program_of (sound tokens start 0 [] acts h)

pub has_tree : (tokens : List Token) (acts : List Made) → length tokens ≤ 18446744073709551615 → outcome_of tokens ≡ Accepts acts → (program : Program) × (lacks : List Found) × IsWide tokens program lacks
has_tree tokens acts l h = exact_tree tokens acts (sym (same_outcome tokens l) ∙ h)
