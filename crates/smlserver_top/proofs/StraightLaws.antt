-- What the straight form says of trees, and the reading of its parts.
use Rattle.std.proofs.Common.{◌≡◌, ℕ, zero, suc, ◌≤◌, ◌^◌, pos, negsuc, Bool, true, false, List, [], ◌∷◌, ◌++◌, Option, Some, None, Result, Ok, Err, Vec, codes, length, refl, ap, sym, subst, ◌∙◌, inl, inr, arith, append_assoc, append-nil, length-append}
use Rattle.std.specs.Prelude.{nat_le, if◌then◌else◌, IfOk, IsErrOf}
use Rattle.std.specs.declared.alloc.Global.{Global}
use Rattle.std.specs.List.{list_all}
use Rattle.std.proofs.lemmas.Bool.Decides.{nat_tests}
use Rattle.std.proofs.lemmas.Slice.Eq.{bytes_eq-Decides}
use Rattle.sml_syntax.specs.declared.tree.Exp.{Exp}
use Rattle.sml_syntax.specs.declared.tree.Dec.{Dec}
use Rattle.sml_syntax.specs.declared.tree.Pat.{Pat}
use Rattle.sml_syntax.specs.declared.tree.DecForm.TheOpen.{DecForm-F, ExpForm-F}
use Rattle.sml_syntax.specs.declared.tree.PatForm.TheOpen.{PatForm-F}
use Rattle.sml_syntax.specs.Layers.{ExpLayer, DecLayer, PatLayer, form_of_exp, form_of_dec, form_of_pat}
use Rattle.smlserver_top.specs.declared.part.Part.{Part}
use Rattle.smlserver_top.specs.declared.part.Part.TheVariants.{Plain, Product}
use Rattle.smlserver_top.specs.Parts.{text_of_part, text_of, is_plain, ArePlain, IsSmall, AreSmall}
use Rattle.smlserver_top.specs.Reading.{◌>>=◌}
use Rattle.smlserver_top.specs.Straight.{is_name, argument_in, argument_of, pair_in, pair_of, sides_of, number_in, number_of, is_short_text, text_in, text_of_exp, product_of, factors, text_or, part_of, AreJoined, one, more, is_any, written_in, written_of, WritesParts, IsStraight}
use Rattle.smlserver_top.specs.declared.straight.StraightError.{StraightError}
use Rattle.smlserver_top.specs.declared.straight.StraightError.TheVariants.{NotForm, NoMemory}
use Rattle.smlserver_top.specs.Found.{Gives}
use Rattle.smlserver_top.specs.StraightParts.{parts_from, parts_at, straight_parts}
use Rattle.smlserver_top.proofs.Options.{chosen, split_and, bind_some, then_some, same_found}

pub same_some : {A : Type 0} (x y : A) → ◌≡◌ {A = Option A} (Some x) (Some y) → x ≡ y
same_some x y e = cc

if_some : {A : Type 0} (b : Bool) (x y : A) → (if b then Some x else None) ≡ Some y → (b ≡ true) × (x ≡ y)
if_some true x y e = (refl, same_some x y e)
if_some false x y e = absurd (cc)

-- ---- what a form is

name_form : (name : List ℕ) (form : ExpLayer) → is_name name form ≡ true → form ≡ ExpForm-F.Name name
name_form name (ExpForm-F.Name text) e = ap ExpForm-F.Name ((bytes_eq-Decides text name).0 e)
name_form name _ e = absurd (cc)

argument_form : (name : List ℕ) (form : ExpLayer) (a : Exp) → argument_in name form ≡ Some a → (f : Exp) × (form ≡ ExpForm-F.App f a) × (form_of_exp f ≡ ExpForm-F.Name name)
argument_form name (ExpForm-F.App f b) a e =
    let i = if_some (is_name name (form_of_exp f)) b a e in
    (f, ap (λ x. ExpForm-F.App f x) i.1, name_form name (form_of_exp f) i.0)
argument_form name _ a e = absurd (cc)

pub argument_is : (name : List ℕ) (e a : Exp) → argument_of name e ≡ Some a → (f : Exp) × (form_of_exp e ≡ ExpForm-F.App f a) × (form_of_exp f ≡ ExpForm-F.Name name)
argument_is name e a i = argument_form name (form_of_exp e) a i

pair_form : (form : ExpLayer) (a b : Exp) → pair_in form ≡ Some (a, b) → form ≡ ExpForm-F.Tuple (a ∷ b ∷ [])
pair_form (ExpForm-F.Tuple (c ∷ d ∷ [])) a b e = let s = same_found c a d b e in cc
pair_form _ a b e = absurd (cc)

pub pair_is : (e a b : Exp) → pair_of e ≡ Some (a, b) → form_of_exp e ≡ ExpForm-F.Tuple (a ∷ b ∷ [])
pair_is e a b i = pair_form (form_of_exp e) a b i

number_form : (form : ExpLayer) (n : ℕ) → number_in form ≡ Some n → (form ≡ ExpForm-F.Int (pos n)) × (n ≤ 9999)
number_form (ExpForm-F.Int (pos m)) n e =
    let i = if_some (nat_le m 9999) m n e in
    let l : m ≤ 9999 = let h = i.0 in grind (arith, nat_tests) in
    (ap (λ k. ExpForm-F.Int (pos k)) i.1, subst (λ k. k ≤ 9999) i.1 l)
number_form (ExpForm-F.Int (negsuc m)) n e = absurd (cc)
number_form _ n e = absurd (cc)

number_is : (e : Exp) (n : ℕ) → number_of e ≡ Some n → (form_of_exp e ≡ ExpForm-F.Int (pos n)) × (n ≤ 9999)
number_is e n i = number_form (form_of_exp e) n i

-- a text that stands as it is, and is short
pub record IsShort (text : List ℕ) : Type 0 where
  pub plain : list_all is_plain text ≡ true
  pub short : length text ≤ 2 ^ 20

is_short : (text : List ℕ) → is_short_text text ≡ true → IsShort text
is_short text e =
    let i = split_and (list_all is_plain text) (nat_le (length text) (2 ^ 20)) e in
    record { plain = i.0; short = let h = i.1 in grind (arith, nat_tests) }

text_form : (form : ExpLayer) (text : List ℕ) → text_in form ≡ Some text → (form ≡ ExpForm-F.Str text) × IsShort text
text_form (ExpForm-F.Str t) text e =
    let i = if_some (is_short_text t) t text e in
    (ap ExpForm-F.Str i.1, subst IsShort i.1 (is_short t i.0))
text_form _ text e = absurd (cc)

pub text_is : (e : Exp) (text : List ℕ) → text_of_exp e ≡ Some text → (form_of_exp e ≡ ExpForm-F.Str text) × IsShort text
text_is e text i = text_form (form_of_exp e) text i

-- what a product is
pub record IsProduct (e : Exp) (part : Part) : Type 0 where
  pub product : Exp
  pub left : Exp
  pub right : Exp
  pub m : ℕ
  pub n : ℕ
  pub applied : argument_of (codes "Int.toString") e ≡ Some product
  pub sides : sides_of (codes "*") product ≡ Some (left, right)
  pub left_is : form_of_exp left ≡ ExpForm-F.Int (pos m)
  pub right_is : form_of_exp right ≡ ExpForm-F.Int (pos n)
  pub left_small : m ≤ 9999
  pub right_small : n ≤ 9999
  pub part_is : Product m n ≡ part

pub product_is : (e : Exp) (part : Part) → product_of e ≡ Some part → IsProduct e part
unfolding product_of
product_is e part p =
    let product = bind_some (argument_of (codes "Int.toString") e) (λ x. sides_of (codes "*") x >>= factors) part p in
    let both = bind_some (sides_of (codes "*") product.0) factors part product.2 in
    let m = bind_some (number_of both.0.0) (λ m. number_of both.0.1 >>= λ n. Some (Product m n)) part both.2 in
    let n = bind_some (number_of both.0.1) (λ n. Some (Product m.0 n)) part m.2 in
    let left = number_is both.0.0 m.0 m.1 in
    let right = number_is both.0.1 n.0 n.1 in
    record {
      product = product.0;
      left = both.0.0;
      right = both.0.1;
      m = m.0;
      n = n.0;
      applied = product.1;
      sides = both.1;
      left_is = left.0;
      right_is = right.0;
      left_small = left.1;
      right_small = right.1;
      part_is = same_some (Product m.0 n.0) part n.2;
    }

-- what is written by a declaration
pub record IsWritten (dec : Dec) (argument : Exp) : Type 0 where
  pub pat : Pat
  pub whole : Exp
  pub form : form_of_dec dec ≡ DecForm-F.Val ((pat, whole) ∷ [])
  pub any : form_of_pat pat ≡ PatForm-F.Any
  pub applied : argument_of (codes "Web.write") whole ≡ Some argument

any_form : (form : PatLayer) → is_any form ≡ true → form ≡ PatForm-F.Any
any_form PatForm-F.Any e = refl
any_form _ e = absurd (cc)

-- the binding of a declaration
record IsBound (form : DecLayer) (argument : Exp) : Type 0 where
  pat : Pat
  whole : Exp
  is : form ≡ DecForm-F.Val ((pat, whole) ∷ [])
  any : form_of_pat pat ≡ PatForm-F.Any
  applied : argument_of (codes "Web.write") whole ≡ Some argument

written_form : (form : DecLayer) (argument : Exp) → written_in form ≡ Some argument → IsBound form argument
written_form (DecForm-F.Val ((pat, e) ∷ [])) argument i =
    elim (chosen (is_any (form_of_pat pat)) (argument_of (codes "Web.write") e) None (Some argument) i) [
      | inl w ↦ record { pat = pat; whole = e; is = refl; any = any_form (form_of_pat pat) w.0; applied = w.1 }
      | inr w ↦ absurd (cc)
    ]
written_form _ argument i = absurd (cc)

pub written_is : (dec : Dec) (argument : Exp) → written_of dec ≡ Some argument → IsWritten dec argument
written_is dec argument i =
    let b = written_form (form_of_dec dec) argument i in
    record { pat = b.pat; whole = b.whole; form = b.is; any = b.any; applied = b.applied }

-- ---- parts

pub text_of-append : (parts : List Part) (part : Part) → text_of (parts ++ part ∷ []) ≡ text_of parts ++ text_of_part part
text_of-append [] part = append-nil (text_of_part part)
text_of-append (first ∷ parts) part = ap (λ t. text_of_part first ++ t) (text_of-append parts part) ∙ sym (append_assoc (text_of_part first) (text_of parts) (text_of_part part))

-- a part that may be run
abbrev IsFit : Part → Type 0
IsFit part = ArePlain (part ∷ []) × IsSmall part

part_case : (e : Exp) (part : Part) (o : Option (List ℕ)) → text_of_exp e ≡ o → text_or o (product_of e) ≡ Some part → IsFit part
part_case e part None t p = let i = product_is e part p in subst IsFit i.part_is (tt, (i.left_small, i.right_small))
part_case e part (Some text) t p = let i = text_is e text t in subst IsFit (same_some (Plain text) part p) ((i.1.plain, tt), i.1.short)

part_fits : (e : Exp) (part : Part) → part_of e ≡ Some part → IsFit part
unfolding part_of
part_fits e part p = part_case e part (text_of_exp e) refl p

plain_append : (parts : List Part) (part : Part) → ArePlain parts → ArePlain (part ∷ []) → ArePlain (parts ++ part ∷ [])
plain_append [] part a b = b
plain_append (Plain text ∷ parts) part a b = (a.0, plain_append parts part a.1 b)
plain_append (Product m n ∷ parts) part a b = plain_append parts part a b

small_append : (parts : List Part) (part : Part) → AreSmall parts → IsSmall part → AreSmall (parts ++ part ∷ [])
small_append [] part a b = (b, tt)
small_append (first ∷ parts) part a b = (a.0, small_append parts part a.1 b)

joined_plain : (e : Exp) (parts : List Part) → AreJoined parts e → ArePlain parts
joined_plain e parts (one {part} p) = (part_fits e part p).0
joined_plain e parts (more {front} {part} {left} {right} i j p) = plain_append front part (joined_plain left front j) (part_fits right part p).0

joined_small : (e : Exp) (parts : List Part) → AreJoined parts e → AreSmall parts
joined_small e parts (one {part} p) = ((part_fits e part p).1, tt)
joined_small e parts (more {front} {part} {left} {right} i j p) = small_append front part (joined_small left front j) (part_fits right part p).1

pub plain_parts : (items : List Dec) (parts : List Part) → IsStraight items parts → ArePlain parts
plain_parts items parts s = joined_plain s.argument parts s.joined

pub small_parts : (items : List Dec) (parts : List Part) → IsStraight items parts → AreSmall parts
small_parts items parts s = joined_small s.argument parts s.joined

-- ---- reading

-- a part has no `^`
str_case : (form : ExpLayer) (text : List ℕ) → form ≡ ExpForm-F.Str text → argument_in (codes "^") form ≡ None
str_case form text e = ap (argument_in (codes "^")) e

app_case : (f a : Exp) → form_of_exp f ≡ ExpForm-F.Name (codes "Int.toString") → argument_in (codes "^") (ExpForm-F.App f a) ≡ None
app_case f a e = ap (λ form. if is_name (codes "^") form then Some a else None) e

lone_case : (e : Exp) (part : Part) (o : Option (List ℕ)) → text_of_exp e ≡ o → text_or o (product_of e) ≡ Some part → sides_of (codes "^") e ≡ None
lone_case e part (Some text) t p = ap (λ o. o >>= pair_of) (str_case (form_of_exp e) text (text_is e text t).0)
lone_case e part None t p =
    let i = product_is e part p in
    let a = argument_is (codes "Int.toString") e i.product i.applied in
    ap (λ o. o >>= pair_of) (ap (argument_in (codes "^")) a.1 ∙ app_case a.0 i.product a.2)

lone : (e : Exp) (part : Part) → part_of e ≡ Some part → sides_of (codes "^") e ≡ None
unfolding part_of
lone e part p = lone_case e part (text_of_exp e) refl p

-- what is read is of the form
reads_case : (n : ℕ) (e : Exp) (parts : List Part) (o : Option (Exp × Exp)) → sides_of (codes "^") e ≡ o → parts_from (parts_at n) o e ≡ Some parts → ((left : Exp) (front : List Part) → parts_at n left ≡ Some front → AreJoined front left × (length front ≤ n)) → AreJoined parts e × (length parts ≤ suc n)
reads_case n e parts None i r ih =
    let p = bind_some (part_of e) (λ part. Some (part ∷ [])) parts r in
    let is = same_some (p.0 ∷ []) parts p.2 in
    (subst (λ ps. AreJoined ps e) is (one p.1), subst (λ ps. length ps ≤ suc n) is (let l : 1 ≤ suc n = omega arith in l))
reads_case n e parts (Some (left, right)) i r ih =
    let front = bind_some (parts_at n left) (λ ps. part_of right >>= λ part. Some (ps ++ part ∷ [])) parts r in
    let p = bind_some (part_of right) (λ part. Some (front.0 ++ part ∷ [])) parts front.2 in
    let is = same_some (front.0 ++ p.0 ∷ []) parts p.2 in
    let h = ih left front.0 front.1 in
    let l = length-append front.0 (p.0 ∷ []) in
    let k = h.1 in
    let m : length (front.0 ++ p.0 ∷ []) ≤ suc n = omega (arith, l, k) in
    (subst (λ ps. AreJoined ps e) is (more i h.0 p.1), subst (λ ps. length ps ≤ suc n) is m)

reads : (most : ℕ) (e : Exp) (parts : List Part) → parts_at most e ≡ Some parts → AreJoined parts e × (length parts ≤ most)
reads zero e parts r = absurd (cc)
reads (suc n) e parts r = reads_case n e parts (sides_of (codes "^") e) refl r (reads n)

-- and what is of the form is read
reads_again : (most : ℕ) (e : Exp) (parts : List Part) → AreJoined parts e → length parts ≤ most → parts_at most e ≡ Some parts
reads_again zero e parts (one p) l = absurd (omega arith)
reads_again zero e parts (more {front} {part} i j p) l = let k = length-append front (part ∷ []) in absurd (omega (arith, k, l))
reads_again (suc n) e parts (one {part} p) l =
    ap (λ o. parts_from (parts_at n) o e) (lone e part p) ∙ then_some (part_of e) (λ part. Some (part ∷ [])) part (part ∷ []) p refl
reads_again (suc n) e parts (more {front} {part} {left} {right} i j p) l =
    let k = length-append front (part ∷ []) in
    ap (λ o. parts_from (parts_at n) o e) i
    ∙ then_some (parts_at n left) (λ ps. part_of right >>= λ part. Some (ps ++ part ∷ [])) front (front ++ part ∷ []) (reads_again n left front j (omega (arith, k, l)))
    (then_some (part_of right) (λ part. Some (front ++ part ∷ [])) part (front ++ part ∷ []) p refl)

read_straight : (most : ℕ) (items : List Dec) (parts : List Part) → straight_parts most items ≡ Some parts → WritesParts most items parts
read_straight most [] parts r = absurd (cc)
read_straight most (dec ∷ other ∷ items) parts r = absurd (cc)
read_straight most (dec ∷ []) parts r =
    let argument = bind_some (written_of dec) (parts_at most) parts r in
    let joined = reads most argument.0 parts argument.2 in
    record { dec = dec; argument = argument.0; one = refl; written = argument.1; joined = joined.0; few = joined.1 }

straight_is_read : (most : ℕ) (items : List Dec) (parts : List Part) → WritesParts most items parts → straight_parts most items ≡ Some parts
straight_is_read most items parts s =
    ap (straight_parts most) s.one ∙ then_some (written_of s.dec) (parts_at most) s.argument parts s.written (reads_again most s.argument parts s.joined s.few)

-- what the reader of the program gives
pub gives_straight : (most : ℕ) (items : List Dec) (r : Result (Vec Part Global) StraightError) → Gives (λ (v : Vec Part Global). v.items) r (straight_parts most items) → IfOk r (λ v. WritesParts most items v.items)
gives_straight most items (Ok v) g = read_straight most items v.items g
gives_straight most items (Err e) g = tt

pub gives_none : (most : ℕ) (items : List Dec) (r : Result (Vec Part Global) StraightError) → Gives (λ (v : Vec Part Global). v.items) r (straight_parts most items) → IsErrOf r NotForm → (parts : List Part) → WritesParts most items parts → ⊥
gives_none most items (Ok v) g e parts s = absurd (cc)
gives_none most items (Err NoMemory) g e parts s = absurd (cc)
gives_none most items (Err NotForm) g e parts s = let f = straight_is_read most items parts s in absurd (cc)
