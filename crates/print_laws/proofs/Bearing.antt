-- Tokens that bear given forms, and what holds of whatever tokens bear them.
use Rattle.std.proofs.Common.{◌≡◌, List, [], ◌∷◌, ◌++◌, refl, ap, sym, subst, map}
use Rattle.sml_syntax.specs.declared.token.Token.{Token}
use Rattle.sml_syntax.specs.declared.token.TokenForm.{TokenForm}

pub data Bears : List Token → List TokenForm → Type 0 where
  bears_none : Bears [] []
  bears_more : {ts : List Token} {fs : List TokenForm} (t : Token) (f : TokenForm) → t.form ≡ f → Bears ts fs → Bears (t ∷ ts) (f ∷ fs)

-- all tokens that bear these forms are so
abbrev pub At : (List Token → Type 0) → List TokenForm → Type 0
At Q fs = (ts : List Token) → Bears ts fs → Q ts

pub record Cut (ts : List Token) (p q : List TokenForm) : Type 0 where
  pub first : List Token
  pub second : List Token
  pub is : first ++ second ≡ ts
  pub bears_first : Bears first p
  pub bears_second : Bears second q

pub cut : (p q : List TokenForm) (ts : List Token) → Bears ts (p ++ q) → Cut ts p q
cut [] q ts b = record { first = []; second = ts; is = refl; bears_first = bears_none; bears_second = b }
cut (_ ∷ p) q _ (bears_more {ts = ts} t f h b) =
    let c = cut p q ts b in
    record { first = t ∷ c.first; second = c.second; is = ap (λ w. t ∷ w) c.is; bears_first = bears_more t f h c.bears_first; bears_second = c.bears_second }

pub none : (S : List Token → Type 0) → S [] → At S []
none S s _ bears_none = s

pub one : (S : List Token → Type 0) (f : TokenForm) → ((w : Token) → w.form ≡ f → S (w ∷ [])) → At S (f ∷ [])
one S _ k _ (bears_more w f h bears_none) = k w h

pub word : (Q S : List Token → Type 0) (f : TokenForm) (p : List TokenForm) → ((w : Token) (ts : List Token) → w.form ≡ f → Q ts → S (w ∷ ts)) → At Q p → At S (f ∷ p)
word Q S _ p k a _ (bears_more {ts = ts} w f h b) = k w ts h (a ts b)

pub both : (Q R S : List Token → Type 0) (p q : List TokenForm) → ((ts us : List Token) → Q ts → R us → S (ts ++ us)) → At Q p → At R q → At S (p ++ q)
both Q R S p q k a b ts h = let c = cut p q ts h in subst S c.is (k c.first c.second (a c.first c.bears_first) (b c.second c.bears_second))

-- with a word between
pub bin : (Q R S : List Token → Type 0) (p : List TokenForm) (f : TokenForm) (q : List TokenForm) → ((ts : List Token) (w : Token) (us : List Token) → w.form ≡ f → Q ts → R us → S (ts ++ w ∷ us)) → At Q p → At R q → At S (p ++ f ∷ q)
bin Q R S p f q k a b = both Q (λ us. (w : Token) × (rest : List Token) × (us ≡ w ∷ rest) × (w.form ≡ f) × R rest) S p (f ∷ q)
    (λ ts us x y. subst (λ z. S (ts ++ z)) (sym y.2) (k ts y.0 y.1 y.3 x y.4)) a (word R (λ us. (w : Token) × (rest : List Token) × (us ≡ w ∷ rest) × (w.form ≡ f) × R rest) f q (λ w ts h r. (w, ts, refl, h, r)) b)

-- with two words between
pub bin_two : (Q R S : List Token → Type 0) (p : List TokenForm) (f g : TokenForm) (q : List TokenForm) → ((ts : List Token) (v w : Token) (us : List Token) → v.form ≡ f → w.form ≡ g → Q ts → R us → S (ts ++ v ∷ w ∷ us)) → At Q p → At R q → At S (p ++ f ∷ g ∷ q)
bin_two Q R S p f g q k a b = bin Q (λ us. (w : Token) × (rest : List Token) × (us ≡ w ∷ rest) × (w.form ≡ g) × R rest) S p f (g ∷ q)
    (λ ts v us h x y. subst (λ z. S (ts ++ v ∷ z)) (sym y.2) (k ts v y.0 y.1 h y.3 x y.4)) a (word R (λ us. (w : Token) × (rest : List Token) × (us ≡ w ∷ rest) × (w.form ≡ g) × R rest) g q (λ w ts h r. (w, ts, refl, h, r)) b)

-- between two words
pub wrap : (Q S : List Token → Type 0) (f : TokenForm) (p : List TokenForm) (g : TokenForm) → ((v : Token) (ts : List Token) (w : Token) → v.form ≡ f → w.form ≡ g → Q ts → S ((v ∷ ts) ++ w ∷ [])) → At Q p → At S ((f ∷ p) ++ g ∷ [])
wrap Q S f p g k a = bin (λ us. (w : Token) × (rest : List Token) × (us ≡ w ∷ rest) × (w.form ≡ f) × Q rest) (λ us. us ≡ []) S (f ∷ p) g []
    (λ ts w us h x y. subst (λ z. S (ts ++ w ∷ z)) (sym y) (subst (λ z. S (z ++ w ∷ [])) (sym x.2) (k x.0 x.1 w x.3 h x.4)))
    (word Q (λ us. (w : Token) × (rest : List Token) × (us ≡ w ∷ rest) × (w.form ≡ f) × Q rest) f p (λ w ts h r. (w, ts, refl, h, r)) a) (none (λ us. us ≡ []) refl)

-- what a split of tokens gives, for lists of three parts
abbrev pub Split : (List Token → Type 0) → TokenForm → (List Token → Type 0) → List Token → Type 0
Split Q f R us = (ts : List Token) × (w : Token) × (ws : List Token) × (us ≡ ts ++ w ∷ ws) × (w.form ≡ f) × Q ts × R ws

pub tri : (Q R T S : List Token → Type 0) (p : List TokenForm) (f : TokenForm) (q : List TokenForm) (g : TokenForm) (r : List TokenForm) → ((ts : List Token) (v : Token) (us : List Token) (w : Token) (ws : List Token) → v.form ≡ f → w.form ≡ g → Q ts → R us → T ws → S ((ts ++ v ∷ us) ++ w ∷ ws)) → At Q p → At R q → At T r → At S ((p ++ f ∷ q) ++ g ∷ r)
tri Q R T S p f q g r k a b c = bin (Split Q f R) T S (p ++ f ∷ q) g r
    (λ us w ws h x y. subst (λ z. S (z ++ w ∷ ws)) (sym x.3) (k x.0 x.1 x.2 w ws x.4 h x.5 x.6 y))
    (bin Q R (Split Q f R) p f q (λ ts w us h x y. (ts, w, us, refl, h, x, y)) a b) c

pub bears : (ts : List Token) (fs : List TokenForm) → map (λ (t : Token). t.form) ts ≡ fs → Bears ts fs
bears ts fs h = subst (Bears ts) h (own ts)
  where
    own : (ts : List Token) → Bears ts (map (λ (t : Token). t.form) ts)
    own [] = bears_none
    own (t ∷ ts) = bears_more t t.form refl (own ts)
