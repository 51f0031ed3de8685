-- One more byte of a search.
use Rattle.std.proofs.Common.{◌≡◌, ◌≢◌, ℕ, ◌+◌, ◌-◌, ◌≤◌, ◌<◌, inl, inr, Bool, true, false, ◌&&◌, List, length, take, refl, sym, ap, ◌∙◌, subst, arith}
use Rattle.std.specs.Prelude.{slice_index, nat_le, ◌==◌}
use Rattle.std.proofs.lemmas.List.Sums.{count_by_more_yes, count_by_more_no}
use Rattle.std.proofs.lemmas.Bool.{ne_eqb}
use Rattle.http_read.specs.Messages.{HasHead, IsTooLong, IsUnended, ends_at, lines, most_head, most_lines}
use Rattle.http_read.specs.Reader.{IsSearched}
use Rattle.http_read.proofs.Fronts.{le_or_gt, take_all_of, lines_take, lines_longer}

last_fails : (a b c d e : Bool) → e ≡ false → (a && (b && (c && (d && e)))) ≡ false
last_fails true true true true e h = h
last_fails true true true false e h = refl
last_fails true true false d e h = refl
last_fails true false c d e h = refl
last_fails false b c d e h = refl

-- no head ends behind another byte than LF
no_end_here : (held : List ℕ) (k : ℕ) → (slice_index held (k - 1) == 10) ≡ false → ends_at held k ≡ false
unfolding ends_at
no_end_here held k h = last_fails (nat_le 4 k) (slice_index held (k - 4) == 13) (slice_index held (k - 3) == 10) (slice_index held (k - 2) == 13) (slice_index held (k - 1) == 10) h

no_end_more : (held : List ℕ) (at : ℕ) → ((k : ℕ) → k ≤ at → ends_at held k ≡ false) → ends_at held (at + 1) ≡ false → (k : ℕ) → k ≤ at + 1 → ends_at held k ≡ false
no_end_more held at before here k h = elim (le_or_gt k at) [
  | inl low ↦ before k low
  | inr high ↦
      let e : k ≡ at + 1 = omega (arith, h, high) in
      subst (λ (x : ℕ). ends_at held x ≡ false) (sym e) here
]

pub other_byte : (held : List ℕ) (at count : ℕ) → IsSearched held at count → at < length held → at < most_head → slice_index held at ≢ 10 → IsSearched held (at + 1) count
other_byte held at count searched within short differs =
    let other : (slice_index held at == 10) ≡ false = ne_eqb (slice_index held at) 10 differs in record {
      within = omega (arith, within);
      no_end = no_end_more held at searched.no_end (no_end_here held (at + 1) (let e : at ≡ at + 1 - 1 = omega arith in subst (λ (x : ℕ). (slice_index held x == 10) ≡ false) e other));
      count_is = searched.count_is ∙ sym (count_by_more_no (λ b. b == 10) held at 0 within other);
      short = omega (arith, short);
      few = searched.few;
    }

lf_count : (held : List ℕ) (at count : ℕ) → IsSearched held at count → at < length held → slice_index held at ≡ 10 → count + 1 ≡ lines (take (at + 1) held)
lf_count held at count searched within lf = ap (λ n. n + 1) searched.count_is ∙ sym (count_by_more_yes (λ b. b == 10) held at 0 within (ap (λ n. n == 10) lf))

pub line_feed : (held : List ℕ) (at count : ℕ) → IsSearched held at count → at < length held → at < most_head → slice_index held at ≡ 10 → ends_at held (at + 1) ≡ false → count < most_lines → IsSearched held (at + 1) (count + 1)
line_feed held at count searched within short lf no_end few = record {
  within = omega (arith, within);
  no_end = no_end_more held at searched.no_end no_end;
  count_is = lf_count held at count searched within lf;
  short = omega (arith, short);
  few = omega (arith, few);
}

pub head_here : (held : List ℕ) (at count : ℕ) → IsSearched held at count → at < length held → at < most_head → slice_index held at ≡ 10 → ends_at held (at + 1) ≡ true → count < most_lines → HasHead held (at + 1)
head_here held at count searched within short lf ends few = record {
  within = omega (arith, within);
  ends = ends;
  first = λ j below. searched.no_end j (omega (arith, below));
  short = omega (arith, short);
  few = let e = lf_count held at count searched within lf in omega (arith, e, few);
}

-- a head that ends behind what was looked at has more than its bytes' share
pub too_many : (held : List ℕ) (at count : ℕ) → IsSearched held at count → at < length held → slice_index held at ≡ 10 → count ≡ most_lines → IsTooLong held
too_many held at count searched within lf full =
    let e = lf_count held at count searched within lf in record {
      no_head = λ k has. elim (le_or_gt k at) [
        | inl low ↦ let x : true ≡ false = sym has.ends ∙ searched.no_end k low in absurd (cc)
        | inr high ↦
            let l = lines_longer held (at + 1) k (omega (arith, high)) in
            let f = has.few in absurd (omega (arith, e, full, l, f))
      ];
      long = inr (let l = lines_take held (at + 1) in omega (arith, e, full, l));
    }

pub too_far : (held : List ℕ) (count : ℕ) → IsSearched held most_head count → IsTooLong held
too_far held count searched = record {
  no_head = λ k has. let x : true ≡ false = sym has.ends ∙ searched.no_end k has.short in absurd (cc);
  long = inl searched.within;
}

pub not_yet : (held : List ℕ) (count : ℕ) → IsSearched held (length held) count → length held ≢ most_head → IsUnended held
not_yet held count searched other = record {
  no_head = λ k has. let x : true ≡ false = sym has.ends ∙ searched.no_end k has.within in absurd (cc);
  short = let s = searched.short in omega (arith, s, other);
  few =
      let e : lines (take (length held) held) ≡ lines held = ap lines (take_all_of held) in
      let c = searched.count_is in let f = searched.few in omega (arith, e, c, f);
}
