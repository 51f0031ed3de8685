-- Where reading of a pickle stops, by the form of its description.
use Rattle.std.proofs.Common.{◌≡◌, ℕ, ℤ, ◌-◌, ◌/◌, ◌%◌, ◌^◌, ◌<◌, ◌≤◌, List, [], ◌∷◌, ◌++◌, length, replicate, Bool, true, false, Some, None, refl, sym, ap, subst, ◌∙◌, inl, inr, append_assoc, arith}
use Rattle.std.specs.Prelude.{◌&&◌}
use Rattle.std.proofs.lemmas.Bool.{cases_lt, lt-ltb, ltb-true, and_parts}
use Rattle.std.proofs.lemmas.List.{append-nil, length-append, length-replicate}
use Rattle.std.proofs.lemmas.List.Folds.{list_all-append}
use Rattle.std.proofs.lemmas.List.Concat.{flat_map-cons}
use lib.IntN.{pos, negsuc}
use Rattle.sml_syntax.proofs.Lists.{cons_parts}
use Rattle.web_data.specs.declared.datum.Datum.{Datum, out-Datum}
use Rattle.web_data.specs.declared.datum.Datum.TheViews.{roll-Datum}
use Rattle.web_data.specs.declared.datum.Datum.TheOpen.{Datum-F}
use Rattle.web_data.specs.declared.datum.Datum.TheVariants as datum
use Rattle.web_data.specs.declared.datum.Desc.{Desc, map-Desc}
use Rattle.web_data.specs.declared.datum.Desc.TheVariants as desc
use Rattle.web_data.specs.declared.datum.Desc.TheOpen.{Desc-F}
use Rattle.web_data.specs.declared.datum.Desc.TheViews.{roll-Desc}
use Rattle.web_data.specs.declared.datum.Desc.TheFolds.{ind-Desc}
use Rattle.web_data.specs.Data.{DatumLayer, has_desc, has_form, is_64_bits}
use Rattle.web_data.specs.Pickles.{zigzag, number_within, bool_pickle, list_pickle, form_pickle, pickle}
use Rattle.value_pickle.specs.declared.refusal.Halt.{Halt}
use Rattle.value_pickle.specs.declared.refusal.Halt.TheVariants as halt
use Rattle.value_pickle.specs.Halting.{Stops, Halts, HaltsAtFlag, IsWhole, Reads, all_have, AreItems, item_bytes, ReadsItems, IsCounted, IsNumber, ReadsNumber}
use Rattle.value_pickle.proofs.Forms.{is_int, is_bool, is_str, is_pair, is_triple, is_opt, is_list}
use Rattle.value_pickle.proofs.Layers.{has_roll, pickle_roll, has_at, pickle_at}
use Rattle.value_pickle.proofs.Items.{items_and_end}
use Rattle.value_pickle.proofs.Digits.{one_number}
use Rattle.value_pickle.proofs.OneForm.{one_form}
use Rattle.value_pickle.proofs.Stopping.{Language, IsPrefixFree, Seq, seq_first, seq_second, stops_first, stops_behind, stops_same, stops_at_once}

-- ---- any part

-- a stop in a part is a stop in the whole
pub halts_by : (A C : Language) (part whole : List ℕ) → ((left : ℕ) → Stops A part left → Stops C whole left) → (e : Halt) → Halts A part e → Halts C whole e
halts_by A C part whole by (halt.Left left) stop = by left stop
halts_by A C part whole by halt.NoMemory stop = tt

pub whole_free : (desc : Desc) → IsPrefixFree (IsWhole desc)
whole_free desc w v x y (a, wa) (b, vb) e =
    let p = one_form desc a b x y wa.described vb.described (ap (λ z. z ++ x) (sym wa.spelled) ∙ e ∙ ap (λ z. z ++ y) vb.spelled)
    in wa.spelled ∙ ap (pickle desc) p.0 ∙ sym vb.spelled

-- a pickle, by the form of its description and of its datum
pub form_of_whole : (l : Desc-F Desc) (w : List ℕ) → IsWhole (roll-Desc l) w → (f : DatumLayer) × (has_form (map-Desc _ _ has_desc l) f ≡ true) × (w ≡ form_pickle (map-Desc _ _ pickle l) f)
form_of_whole l w (x, is) = (out-Datum x, sym (ap (λ g. g x) (has_roll l)) ∙ is.described, is.spelled ∙ ap (λ g. g x) (pickle_roll l))

pub whole_of_form : (l : Desc-F Desc) (f : DatumLayer) (w : List ℕ) → has_form (map-Desc _ _ has_desc l) f ≡ true → w ≡ form_pickle (map-Desc _ _ pickle l) f → IsWhole (roll-Desc l) w
whole_of_form l f w h e = (roll-Datum f, record { described = has_at l f ∙ h; spelled = e ∙ sym (pickle_at l f) })

-- ---- each description has a datum

abbrev Inhabited : Desc → Type 0
Inhabited d = (w : List ℕ) × IsWhole d w

abbrev Layer : Type 0
Layer = Desc-F ((d : Desc) × Inhabited d)

abbrev desc_of : Layer → Desc-F Desc
desc_of y = map-Desc _ _ (λ e. e.0) y

some_form : (y : Layer) → (f : DatumLayer) × (has_form (map-Desc _ _ has_desc (desc_of y)) f ≡ true)
some_form Desc-F.Int = (Datum-F.Int (pos 0), refl)
some_form Desc-F.Bool = (Datum-F.Bool true, refl)
some_form Desc-F.Char = (Datum-F.Char 0, refl)
some_form Desc-F.Str = (Datum-F.Str [], refl)
some_form Desc-F.Unit = (Datum-F.Unit, refl)
some_form (Desc-F.Pair a b) = (Datum-F.Pair a.1.1.0 b.1.1.0, ap (λ z. z && has_desc b.0 b.1.1.0) a.1.1.1.described ∙ b.1.1.1.described)
some_form (Desc-F.Triple a b c) = (
  Datum-F.Triple a.1.1.0 b.1.1.0 c.1.1.0,
  ap (λ z. z && (has_desc b.0 b.1.1.0 && has_desc c.0 c.1.1.0)) a.1.1.1.described ∙ ap (λ z. z && has_desc c.0 c.1.1.0) b.1.1.1.described ∙ c.1.1.1.described,
)
some_form (Desc-F.Opt a) = (Datum-F.Opt None, refl)
some_form (Desc-F.List a) = (Datum-F.List [], refl)

some_rolled : (y : Layer) → Inhabited (roll-Desc (desc_of y))
some_rolled y =
    let p = some_form y
    in (form_pickle (map-Desc _ _ pickle (desc_of y)) p.0, whole_of_form (desc_of y) p.0 (form_pickle (map-Desc _ _ pickle (desc_of y)) p.0) p.1 refl)

pub some_whole : (desc : Desc) → (w : List ℕ) × IsWhole desc w
some_whole = ind-Desc Inhabited (λ x y is. subst (λ z. Inhabited (roll-Desc z)) is (some_rolled y))

-- ---- a 0 or a 1

-- each word begins with a 0 or a 1
abbrev pub BeginsWithFlag : Language → Type 0
BeginsWithFlag C = (b : ℕ) (rest : List ℕ) → C (b ∷ rest) → b ≤ 1

pub halts_at_flag : (C : Language) (bytes : List ℕ) (e : Halt) → BeginsWithFlag C → C (0 ∷ []) → HaltsAtFlag bytes e → Halts C bytes e
halts_at_flag C bytes e flag word (is, wrong) =
    subst (Halts C bytes) (sym is)
    (stops_at_once C bytes (0 ∷ []) word (omega arith) (λ b tail rest same whole. omega (arith, wrong b tail same, flag b rest whole)))

-- ---- a text

number_free : IsPrefixFree (IsNumber 9 true)
number_free w v x y (m, m_below, m_some, wm) (n, n_below, n_some, vn) e =
    let p = one_number 9 m n x y (ap (λ z. z ++ x) (sym wm) ∙ e ∙ ap (λ z. z ++ y) vn)
    in wm ∙ ap (number_within 9) p.0 ∙ sym vn

zeros : ℕ → List ℕ
zeros n = replicate n 0

length_zeros : (n : ℕ) → length (zeros n) ≡ n
unfolding zeros
length_zeros n = length-replicate n 0

pub halts_in_length : (bytes : List ℕ) (e : Halt) → Halts (IsNumber 9 true) bytes e → Halts IsCounted bytes e
halts_in_length bytes = halts_by (IsNumber 9 true) IsCounted bytes bytes (λ left stop.
    stops_first (IsNumber 9 true) IsCounted bytes left number_free
    (λ w counted. (number_within 9 (length counted.0), counted.0, (length counted.0, counted.1, λ f. absurd cc, refl), counted.2))
    (λ a number. (
      zeros number.0,
      (
        zeros number.0,
        subst (λ n. n < 2 ^ 64) (sym (length_zeros number.0)) number.1,
        ap (λ z. z ++ zeros number.0) (number.3 ∙ ap (number_within 9) (sym (length_zeros number.0))),
      ),
    ))
    stop)

pub stops_in_text : (bytes rest : List ℕ) (len : ℕ) → ReadsNumber 9 true bytes len rest → length rest < len → Stops IsCounted bytes 0
stops_in_text bytes rest len reads h =
    let more = zeros (len - length rest)
    in let whole : length (rest ++ more) ≡ len = omega (arith, h, length-append rest more, length_zeros (len - length rest))
    in record {
      front = bytes;
      back = [];
      parts = sym (append-nil bytes);
      left_is = refl;
      wanting = more;
      some = omega (arith, h, length_zeros (len - length rest));
      begins = (
        rest ++ more,
        subst (λ n. n < 2 ^ 64) (sym whole) reads.below,
        ap (λ z. z ++ more) reads.parts ∙ append_assoc (number_within 9 len) rest more ∙ ap (λ n. number_within 9 n ++ (rest ++ more)) (sym whole),
      );
      ends = λ b tail others same word. absurd cc;
    }

-- ---- each form

-- the bytes of an integer are those of its number
integer_below : (z : ℤ) → is_64_bits z ≡ true → zigzag z < 2 ^ 64
integer_below (pos n) h = omega (arith, ltb-true n (2 ^ 63) h)
integer_below (negsuc n) h = omega (arith, ltb-true n (2 ^ 63) h)

integer_of : (n : ℕ) → n < 2 ^ 64 → (z : ℤ) × (is_64_bits z ≡ true) × (zigzag z ≡ n)
integer_of n h =
    elim (cases_lt (n % 2) 1) [
      | inl even ↦ (pos (n / 2), lt-ltb (n / 2) (2 ^ 63) (omega (arith, h)), omega (arith, even))
      | inr odd ↦ (negsuc (n / 2), lt-ltb (n / 2) (2 ^ 63) (omega (arith, h)), omega (arith, odd))
    ]

int_off : (w : List ℕ) → IsWhole (roll-Desc Desc-F.Int) w → IsNumber 9 true w
int_off w whole =
    let f = form_of_whole Desc-F.Int w whole
    in let p = is_int f.0 f.1
    in (zigzag p.0, integer_below p.0 p.2, λ e. absurd cc, f.2 ∙ ap (form_pickle Desc-F.Int) p.1)

int_on : (w : List ℕ) → IsNumber 9 true w → IsWhole (roll-Desc Desc-F.Int) w
int_on w (n, below, some, e) =
    let p = integer_of n below
    in whole_of_form Desc-F.Int (Datum-F.Int p.0) w p.1 (e ∙ ap (number_within 9) (sym p.2))

pub halts_int : (d : Desc) (bytes : List ℕ) (e : Halt) → d ≡ desc.Int → Halts (IsNumber 9 true) bytes e → Halts (IsWhole d) bytes e
halts_int d bytes e is stop =
    subst (λ z. Halts (IsWhole z) bytes e) (desc.rolls-Int ∙ sym is)
    (halts_by (IsNumber 9 true) (IsWhole (roll-Desc Desc-F.Int)) bytes bytes (λ left. stops_same (IsNumber 9 true) (IsWhole (roll-Desc Desc-F.Int)) bytes left int_off int_on) e stop)

flag_of : (x : Bool) (b : ℕ) (rest : List ℕ) → b ∷ rest ≡ bool_pickle x → b ≤ 1
flag_of true b rest e = omega (arith, (cons_parts b 1 rest [] e).0)
flag_of false b rest e = omega (arith, (cons_parts b 0 rest [] e).0)

pub halts_bool : (d : Desc) (bytes : List ℕ) (e : Halt) → d ≡ desc.Bool → HaltsAtFlag bytes e → Halts (IsWhole d) bytes e
halts_bool d bytes e is stop =
    subst (λ z. Halts (IsWhole z) bytes e) (desc.rolls-Bool ∙ sym is)
    (halts_at_flag (IsWhole (roll-Desc Desc-F.Bool)) bytes e
    (λ b rest whole.
    let f = form_of_whole Desc-F.Bool (b ∷ rest) whole
    in let p = is_bool f.0 f.1
    in flag_of p.0 b rest (f.2 ∙ ap (form_pickle Desc-F.Bool) p.1))
    (whole_of_form Desc-F.Bool (Datum-F.Bool false) (0 ∷ []) refl refl) stop)

pub halts_char : (d : Desc) (bytes : List ℕ) (e : Halt) → d ≡ desc.Char → (e ≡ halt.Left 0) × (bytes ≡ []) → Halts (IsWhole d) bytes e
halts_char d bytes e is (at_end, none) =
    subst (λ z. Halts (IsWhole z) bytes e) (desc.rolls-Char ∙ sym is)
    (subst (Halts (IsWhole (roll-Desc Desc-F.Char)) bytes) (sym at_end)
    (subst (λ z. Stops (IsWhole (roll-Desc Desc-F.Char)) z 0) (sym none)
    (stops_at_once (IsWhole (roll-Desc Desc-F.Char)) [] (0 ∷ []) (whole_of_form Desc-F.Char (Datum-F.Char 0) (0 ∷ []) refl refl) (omega arith) (λ b tail rest same whole. absurd cc))))

pub halts_str : (d : Desc) (bytes : List ℕ) (e : Halt) → d ≡ desc.Str → Halts IsCounted bytes e → Halts (IsWhole d) bytes e
halts_str d bytes e is stop =
    subst (λ z. Halts (IsWhole z) bytes e) (desc.rolls-Str ∙ sym is)
    (halts_by IsCounted (IsWhole (roll-Desc Desc-F.Str)) bytes bytes (λ left. stops_same IsCounted (IsWhole (roll-Desc Desc-F.Str)) bytes left
    (λ w whole.
    let f = form_of_whole Desc-F.Str w whole
    in let p = is_str f.0 f.1
    in (p.0, ltb-true (length p.0) (2 ^ 64) p.2, f.2 ∙ ap (form_pickle Desc-F.Str) p.1))
    (λ w (text, short, e). whole_of_form Desc-F.Str (Datum-F.Str text) w (lt-ltb (length text) (2 ^ 64) short) e)) e stop)

-- pairs

pair_off : (a b : Desc) (w : List ℕ) → IsWhole (roll-Desc (Desc-F.Pair a b)) w → Seq (IsWhole a) (IsWhole b) w
pair_off a b w whole =
    let f = form_of_whole (Desc-F.Pair a b) w whole
    in let p = is_pair (has_desc a) (has_desc b) f.0 f.1
    in (
      pickle a p.0,
      pickle b p.1,
      (p.0, record { described = p.3; spelled = refl }),
      (p.1, record { described = p.4; spelled = refl }),
      f.2 ∙ ap (form_pickle (Desc-F.Pair (pickle a) (pickle b))) p.2,
    )

pair_on : (a b : Desc) (w : List ℕ) → Seq (IsWhole a) (IsWhole b) w → IsWhole (roll-Desc (Desc-F.Pair a b)) w
pair_on a b w (u, v, (x, is_x), (y, is_y), e) =
    whole_of_form (Desc-F.Pair a b) (Datum-F.Pair x y) w (ap (λ z. z && has_desc b y) is_x.described ∙ is_y.described)
    (e ∙ ap (λ z. z ++ v) is_x.spelled ∙ ap (λ z. pickle a x ++ z) is_y.spelled)

pair_stops : (a b : Desc) (bytes : List ℕ) (left : ℕ) → Stops (Seq (IsWhole a) (IsWhole b)) bytes left → Stops (IsWhole (roll-Desc (Desc-F.Pair a b))) bytes left
pair_stops a b bytes left stop = stops_same (Seq (IsWhole a) (IsWhole b)) (IsWhole (roll-Desc (Desc-F.Pair a b))) bytes left (pair_off a b) (pair_on a b) stop

pub halts_pair_first : (d a b : Desc) (bytes : List ℕ) (e : Halt) → d ≡ desc.Pair a b → Halts (IsWhole a) bytes e → Halts (IsWhole d) bytes e
halts_pair_first d a b bytes e is stop =
    subst (λ z. Halts (IsWhole z) bytes e) (desc.rolls-Pair a b ∙ sym is)
    (halts_by (IsWhole a) (IsWhole (roll-Desc (Desc-F.Pair a b))) bytes bytes
    (λ left stop. pair_stops a b bytes left (seq_first (IsWhole a) (IsWhole b) bytes left (whole_free a) (some_whole b).0 (some_whole b).1 stop)) e stop)

-- behind a part that was read
read_before : (a : Desc) (bytes : List ℕ) (x : Datum) (rest : List ℕ) (B : Language) (left : ℕ) → Reads a bytes x rest → Stops B rest left → Stops (Seq (IsWhole a) B) bytes left
read_before a bytes x rest B left reads stop =
    subst (λ z. Stops (Seq (IsWhole a) B) z left) (sym reads.parts)
    (seq_second (IsWhole a) B (pickle a x) rest left (whole_free a) (x, record { described = reads.described; spelled = refl }) stop)

pub halts_pair_second : (d a b : Desc) (bytes : List ℕ) (x : Datum) (rest : List ℕ) (e : Halt) → d ≡ desc.Pair a b → Reads a bytes x rest → Halts (IsWhole b) rest e → Halts (IsWhole d) bytes e
halts_pair_second d a b bytes x rest e is reads stop =
    subst (λ z. Halts (IsWhole z) bytes e) (desc.rolls-Pair a b ∙ sym is)
    (halts_by (IsWhole b) (IsWhole (roll-Desc (Desc-F.Pair a b))) rest bytes
    (λ left stop. pair_stops a b bytes left (read_before a bytes x rest (IsWhole b) left reads stop)) e stop)

-- triples

abbrev Three : Desc → Desc → Desc → Language
Three a b c = Seq (IsWhole a) (Seq (IsWhole b) (IsWhole c))

triple_off : (a b c : Desc) (w : List ℕ) → IsWhole (roll-Desc (Desc-F.Triple a b c)) w → Three a b c w
triple_off a b c w whole =
    let f = form_of_whole (Desc-F.Triple a b c) w whole
    in let p = is_triple (has_desc a) (has_desc b) (has_desc c) f.0 f.1
    in (
      pickle a p.0,
      pickle b p.1 ++ pickle c p.2,
      (p.0, record { described = p.4; spelled = refl }),
      (pickle b p.1, pickle c p.2, (p.1, record { described = p.5; spelled = refl }), (p.2, record { described = p.6; spelled = refl }), refl),
      f.2 ∙ ap (form_pickle (Desc-F.Triple (pickle a) (pickle b) (pickle c))) p.3 ∙ append_assoc (pickle a p.0) (pickle b p.1) (pickle c p.2),
    )

triple_on : (a b c : Desc) (w : List ℕ) → Three a b c w → IsWhole (roll-Desc (Desc-F.Triple a b c)) w
triple_on a b c w (u, v, (x, is_x), (s, t, (y, is_y), (z, is_z), e2), e) =
    whole_of_form (Desc-F.Triple a b c) (Datum-F.Triple x y z) w
    (ap (λ h. h && (has_desc b y && has_desc c z)) is_x.described ∙ ap (λ h. h && has_desc c z) is_y.described ∙ is_z.described)
    (e ∙ ap (λ h. h ++ v) is_x.spelled ∙ ap (λ h. pickle a x ++ h) (e2 ∙ ap (λ h. h ++ t) is_y.spelled ∙ ap (λ h. pickle b y ++ h) is_z.spelled)
    ∙ sym (append_assoc (pickle a x) (pickle b y) (pickle c z)))

triple_stops : (a b c : Desc) (bytes : List ℕ) (left : ℕ) → Stops (Three a b c) bytes left → Stops (IsWhole (roll-Desc (Desc-F.Triple a b c))) bytes left
triple_stops a b c bytes left stop = stops_same (Three a b c) (IsWhole (roll-Desc (Desc-F.Triple a b c))) bytes left (triple_off a b c) (triple_on a b c) stop

some_two : (b c : Desc) → (w : List ℕ) × Seq (IsWhole b) (IsWhole c) w
some_two b c =
    let u = some_whole b
    in let v = some_whole c
    in (u.0 ++ v.0, (u.0, v.0, u.1, v.1, refl))

pub halts_triple_first : (d a b c : Desc) (bytes : List ℕ) (e : Halt) → d ≡ desc.Triple a b c → Halts (IsWhole a) bytes e → Halts (IsWhole d) bytes e
halts_triple_first d a b c bytes e is stop =
    subst (λ z. Halts (IsWhole z) bytes e) (desc.rolls-Triple a b c ∙ sym is)
    (halts_by (IsWhole a) (IsWhole (roll-Desc (Desc-F.Triple a b c))) bytes bytes
    (λ left stop. triple_stops a b c bytes left (seq_first (IsWhole a) (Seq (IsWhole b) (IsWhole c)) bytes left (whole_free a) (some_two b c).0 (some_two b c).1 stop)) e stop)

pub halts_triple_second : (d a b c : Desc) (bytes : List ℕ) (x : Datum) (rest : List ℕ) (e : Halt) → d ≡ desc.Triple a b c → Reads a bytes x rest → Halts (IsWhole b) rest e → Halts (IsWhole d) bytes e
halts_triple_second d a b c bytes x rest e is reads stop =
    subst (λ z. Halts (IsWhole z) bytes e) (desc.rolls-Triple a b c ∙ sym is)
    (halts_by (IsWhole b) (IsWhole (roll-Desc (Desc-F.Triple a b c))) rest bytes
    (λ left stop. triple_stops a b c bytes left (read_before a bytes x rest (Seq (IsWhole b) (IsWhole c)) left reads
    (seq_first (IsWhole b) (IsWhole c) rest left (whole_free b) (some_whole c).0 (some_whole c).1 stop))) e stop)

pub halts_triple_third : (d a b c : Desc) (bytes : List ℕ) (x : Datum) (rest : List ℕ) (y : Datum) (last : List ℕ) (e : Halt) → d ≡ desc.Triple a b c → Reads a bytes x rest → Reads b rest y last
    → Halts (IsWhole c) last e → Halts (IsWhole d) bytes e
halts_triple_third d a b c bytes x rest y last e is reads then_reads stop =
    subst (λ z. Halts (IsWhole z) bytes e) (desc.rolls-Triple a b c ∙ sym is)
    (halts_by (IsWhole c) (IsWhole (roll-Desc (Desc-F.Triple a b c))) last bytes
    (λ left stop. triple_stops a b c bytes left (read_before a bytes x rest (Seq (IsWhole b) (IsWhole c)) left reads
    (read_before b rest y last (IsWhole c) left then_reads stop))) e stop)

-- options

opt_flag : (a : Desc) → BeginsWithFlag (IsWhole (roll-Desc (Desc-F.Opt a)))
opt_flag a b rest whole =
    let f = form_of_whole (Desc-F.Opt a) (b ∷ rest) whole
    in elim (is_opt (has_desc a) f.0 f.1) [
      | inl is ↦ omega (arith, (cons_parts b 0 rest [] (f.2 ∙ ap (form_pickle (Desc-F.Opt (pickle a))) is)).0)
      | inr p ↦ omega (arith, (cons_parts b 1 rest (pickle a p.0) (f.2 ∙ ap (form_pickle (Desc-F.Opt (pickle a))) p.1)).0)
    ]

pub halts_opt_flag : (d a : Desc) (bytes : List ℕ) (e : Halt) → d ≡ desc.Opt a → HaltsAtFlag bytes e → Halts (IsWhole d) bytes e
halts_opt_flag d a bytes e is stop =
    subst (λ z. Halts (IsWhole z) bytes e) (desc.rolls-Opt a ∙ sym is)
    (halts_at_flag (IsWhole (roll-Desc (Desc-F.Opt a))) bytes e (opt_flag a) (whole_of_form (Desc-F.Opt a) (Datum-F.Opt None) (0 ∷ []) refl refl) stop)

opt_off : (a : Desc) (w : List ℕ) → IsWhole (roll-Desc (Desc-F.Opt a)) (1 ∷ w) → IsWhole a w
opt_off a w whole =
    let f = form_of_whole (Desc-F.Opt a) (1 ∷ w) whole
    in elim (is_opt (has_desc a) f.0 f.1) [
      | inl is ↦ absurd (omega (arith, (cons_parts 1 0 w [] (f.2 ∙ ap (form_pickle (Desc-F.Opt (pickle a))) is)).0))
      | inr p ↦ (p.0, record { described = p.2; spelled = (cons_parts 1 1 w (pickle a p.0) (f.2 ∙ ap (form_pickle (Desc-F.Opt (pickle a))) p.1)).1 })
    ]

pub halts_opt_value : (d a : Desc) (bytes rest : List ℕ) (e : Halt) → d ≡ desc.Opt a → bytes ≡ 1 ∷ rest → Halts (IsWhole a) rest e → Halts (IsWhole d) bytes e
halts_opt_value d a bytes rest e is parts stop =
    subst (λ z. Halts (IsWhole z) bytes e) (desc.rolls-Opt a ∙ sym is)
    (subst (λ z. Halts (IsWhole (roll-Desc (Desc-F.Opt a))) z e) (sym parts)
    (halts_by (IsWhole a) (IsWhole (roll-Desc (Desc-F.Opt a))) rest (1 ∷ rest)
    (λ left stop. stops_behind (IsWhole a) (IsWhole (roll-Desc (Desc-F.Opt a))) (1 ∷ []) rest left (opt_off a)
    (λ w (x, is_x). whole_of_form (Desc-F.Opt a) (Datum-F.Opt (Some x)) (1 ∷ w) is_x.described (ap (λ z. 1 ∷ z) is_x.spelled)) stop) e stop))

-- lists

pub halts_list : (d a : Desc) (bytes : List ℕ) (e : Halt) → d ≡ desc.List a → Halts (AreItems a) bytes e → Halts (IsWhole d) bytes e
halts_list d a bytes e is stop =
    subst (λ z. Halts (IsWhole z) bytes e) (desc.rolls-List a ∙ sym is)
    (halts_by (AreItems a) (IsWhole (roll-Desc (Desc-F.List a))) bytes bytes (λ left. stops_same (AreItems a) (IsWhole (roll-Desc (Desc-F.List a))) bytes left
    (λ w whole.
    let f = form_of_whole (Desc-F.List a) w whole
    in let p = is_list (has_desc a) f.0 f.1
    in (p.0, p.2, f.2 ∙ ap (form_pickle (Desc-F.List (pickle a))) p.1))
    (λ w (xs, have, e). whole_of_form (Desc-F.List a) (Datum-F.List xs) w have e)) e stop)

-- ---- items

items_flag : (d : Desc) → BeginsWithFlag (AreItems d)
items_flag d b rest ([], have, e) = omega (arith, (cons_parts b 0 rest [] e).0)
items_flag d b rest (x ∷ xs, have, e) = omega (arith, (cons_parts b 1 rest (pickle d x ++ list_pickle (pickle d) xs) e).0)

pub halts_first_flag : (d : Desc) (bytes : List ℕ) (e : Halt) → HaltsAtFlag bytes e → Halts (AreItems d) bytes e
halts_first_flag d bytes e stop = halts_at_flag (AreItems d) bytes e (items_flag d) ([], refl, refl) stop

items_off : (d : Desc) (w : List ℕ) → AreItems d (1 ∷ w) → Seq (IsWhole d) (AreItems d) w
items_off d w ([], have, e) = absurd (omega (arith, (cons_parts 1 0 w [] e).0))
items_off d w (x ∷ xs, have, e) =
    let h = and_parts (has_desc d x) (all_have d xs) have
    in (pickle d x, list_pickle (pickle d) xs, (x, record { described = h.0; spelled = refl }), (xs, h.1, refl), (cons_parts 1 1 w (pickle d x ++ list_pickle (pickle d) xs) e).1)

items_on : (d : Desc) (w : List ℕ) → Seq (IsWhole d) (AreItems d) w → AreItems d (1 ∷ w)
items_on d w (u, v, (x, is_x), (xs, have, e2), e) =
    (x ∷ xs, ap (λ z. z && all_have d xs) is_x.described ∙ have, ap (λ z. 1 ∷ z) (e ∙ ap (λ z. z ++ v) is_x.spelled ∙ ap (λ z. pickle d x ++ z) e2))

-- behind a 1
behind_one : (d : Desc) (rest : List ℕ) (left : ℕ) → Stops (Seq (IsWhole d) (AreItems d)) rest left → Stops (AreItems d) (1 ∷ rest) left
behind_one d rest left stop = stops_behind (Seq (IsWhole d) (AreItems d)) (AreItems d) (1 ∷ []) rest left (items_off d) (items_on d) stop

-- behind items
behind_items : (d : Desc) (xs : List Datum) (rest : List ℕ) (left : ℕ) → all_have d xs ≡ true → Stops (AreItems d) rest left → Stops (AreItems d) (item_bytes d xs ++ rest) left
behind_items d [] rest left have stop = stop
behind_items d (x ∷ xs) rest left have stop =
    let h = and_parts (has_desc d x) (all_have d xs) have
    in let one = behind_one d (pickle d x ++ (item_bytes d xs ++ rest)) left
    (seq_second (IsWhole d) (AreItems d) (pickle d x) (item_bytes d xs ++ rest) left (whole_free d) (x, record { described = h.0; spelled = refl }) (behind_items d xs rest left h.1 stop))
    in subst (λ z. Stops (AreItems d) z left) (sym (append_assoc (1 ∷ pickle d x) (item_bytes d xs) rest) ∙ ap (λ z. z ++ rest) (sym (flat_map-cons (λ y. 1 ∷ pickle d y) x xs))) one

-- items were read, and the flag behind them
pub record ItemsRead (desc : Desc) (bytes : List ℕ) (xs : List Datum) (more : Bool) (rest : List ℕ) : Type 0 where
  pub described : all_have desc xs ≡ true
  pub parts : bytes ≡ item_bytes desc xs ++ (bool_pickle more ++ rest)

pub items_start : (d : Desc) (bytes : List ℕ) (more : Bool) (rest : List ℕ) → bytes ≡ bool_pickle more ++ rest → ItemsRead d bytes [] more rest
items_start d bytes more rest e = record { described = refl; parts = e }

one_more : (d : Desc) (xs : List Datum) (x : Datum) → item_bytes d (xs ++ x ∷ []) ≡ item_bytes d xs ++ (1 ∷ pickle d x)
one_more d [] x = flat_map-cons (λ y. 1 ∷ pickle d y) x [] ∙ append-nil (1 ∷ pickle d x)
one_more d (y ∷ xs) x =
    flat_map-cons (λ y. 1 ∷ pickle d y) y (xs ++ x ∷ []) ∙ ap (λ z. 1 ∷ pickle d y ++ z) (one_more d xs x)
    ∙ sym (append_assoc (1 ∷ pickle d y) (item_bytes d xs) (1 ∷ pickle d x)) ∙ ap (λ z. z ++ 1 ∷ pickle d x) (sym (flat_map-cons (λ y. 1 ∷ pickle d y) y xs))

pub items_next : (d : Desc) (bytes : List ℕ) (xs : List Datum) (more : Bool) (rest : List ℕ) (x : Datum) (behind : List ℕ) (again : Bool) (last : List ℕ)
    → ItemsRead d bytes xs more rest → more ≡ true → Reads d rest x behind → behind ≡ bool_pickle again ++ last → ItemsRead d bytes (xs ++ x ∷ []) again last
items_next d bytes xs more rest x behind again last read is reads e = record {
  described = list_all-append (has_desc d) xs (x ∷ []) ∙ ap (λ z. z && (has_desc d x && true)) read.described ∙ ap (λ z. z && true) reads.described;
  parts =
      read.parts ∙ ap (λ z. item_bytes d xs ++ (bool_pickle z ++ rest)) is ∙ ap (λ z. item_bytes d xs ++ 1 ∷ z) (reads.parts ∙ ap (λ z. pickle d x ++ z) e)
      ∙ sym (append_assoc (item_bytes d xs) (1 ∷ pickle d x) (bool_pickle again ++ last)) ∙ ap (λ z. z ++ (bool_pickle again ++ last)) (sym (one_more d xs x));
}

pub items_end : (d : Desc) (bytes : List ℕ) (xs : List Datum) (more : Bool) (rest : List ℕ) → ItemsRead d bytes xs more rest → more ≡ false → ReadsItems d bytes xs rest
items_end d bytes xs more rest read is = record {
  described = read.described;
  parts =
      read.parts ∙ ap (λ z. item_bytes d xs ++ (bool_pickle z ++ rest)) is
      ∙ sym (append_assoc (item_bytes d xs) (0 ∷ []) rest) ∙ ap (λ z. z ++ rest) (sym (items_and_end d xs));
}

stops_after : (d : Desc) (bytes : List ℕ) (xs : List Datum) (more : Bool) (rest : List ℕ) (left : ℕ) → ItemsRead d bytes xs more rest → more ≡ true → Stops (Seq (IsWhole d) (AreItems d)) rest left → Stops (AreItems d) bytes left
stops_after d bytes xs more rest left read is stop =
    subst (λ z. Stops (AreItems d) z left) (ap (λ z. item_bytes d xs ++ (bool_pickle z ++ rest)) (sym is) ∙ sym read.parts)
    (behind_items d xs (1 ∷ rest) left read.described (behind_one d rest left stop))

pub halts_in_item : (d : Desc) (bytes : List ℕ) (xs : List Datum) (more : Bool) (rest : List ℕ) (e : Halt) → ItemsRead d bytes xs more rest → more ≡ true → Halts (IsWhole d) rest e → Halts (AreItems d) bytes e
halts_in_item d bytes xs more rest e read is stop =
    halts_by (IsWhole d) (AreItems d) rest bytes
    (λ left stop. stops_after d bytes xs more rest left read is (seq_first (IsWhole d) (AreItems d) rest left (whole_free d) (0 ∷ []) ([], refl, refl) stop)) e stop

pub halts_behind_item : (d : Desc) (bytes : List ℕ) (xs : List Datum) (more : Bool) (rest : List ℕ) (x : Datum) (behind : List ℕ) (e : Halt) → ItemsRead d bytes xs more rest → more ≡ true
    → Reads d rest x behind → HaltsAtFlag behind e → Halts (AreItems d) bytes e
halts_behind_item d bytes xs more rest x behind e read is reads stop =
    halts_by (AreItems d) (AreItems d) behind bytes
    (λ left stop. stops_after d bytes xs more rest left read is (read_before d rest x behind (AreItems d) left reads stop)) e (halts_first_flag d behind e stop)

-- ---- what was read

reads_of_form : (l : Desc-F Desc) (f : DatumLayer) (bytes rest : List ℕ) → has_form (map-Desc _ _ has_desc l) f ≡ true → bytes ≡ form_pickle (map-Desc _ _ pickle l) f ++ rest → Reads (roll-Desc l) bytes (roll-Datum f) rest
reads_of_form l f bytes rest h e = record { described = has_at l f ∙ h; parts = e ∙ ap (λ z. z ++ rest) (sym (pickle_at l f)) }

reads_as : (d d' : Desc) (x x' : Datum) (bytes rest : List ℕ) → d' ≡ d → x ≡ x' → Reads d bytes x rest → Reads d' bytes x' rest
reads_as d d' x x' bytes rest is same reads = subst (λ z. Reads z bytes x' rest) (sym is) (subst (λ z. Reads d bytes z rest) same reads)

pub reads_pair : (d a b : Desc) (bytes : List ℕ) (x y : Datum) (rest last : List ℕ) → d ≡ desc.Pair a b → Reads a bytes x rest → Reads b rest y last → Reads d bytes (datum.Pair x y) last
reads_pair d a b bytes x y rest last is first second =
    reads_as (roll-Desc (Desc-F.Pair a b)) d (roll-Datum (Datum-F.Pair x y)) (datum.Pair x y) bytes last (is ∙ sym (desc.rolls-Pair a b)) (datum.rolls-Pair x y)
    (reads_of_form (Desc-F.Pair a b) (Datum-F.Pair x y) bytes last (ap (λ z. z && has_desc b y) first.described ∙ second.described)
    (first.parts ∙ ap (λ z. pickle a x ++ z) second.parts ∙ sym (append_assoc (pickle a x) (pickle b y) last)))

pub reads_triple : (d a b c : Desc) (bytes : List ℕ) (x y z : Datum) (rest others last : List ℕ) → d ≡ desc.Triple a b c → Reads a bytes x rest → Reads b rest y others → Reads c others z last → Reads d bytes (datum.Triple x y z) last
reads_triple d a b c bytes x y z rest others last is first second third =
    reads_as (roll-Desc (Desc-F.Triple a b c)) d (roll-Datum (Datum-F.Triple x y z)) (datum.Triple x y z) bytes last (is ∙ sym (desc.rolls-Triple a b c)) (datum.rolls-Triple x y z)
    (reads_of_form (Desc-F.Triple a b c) (Datum-F.Triple x y z) bytes last
    (ap (λ h. h && (has_desc b y && has_desc c z)) first.described ∙ ap (λ h. h && has_desc c z) second.described ∙ third.described)
    (first.parts ∙ ap (λ h. pickle a x ++ h) (second.parts ∙ ap (λ h. pickle b y ++ h) third.parts)
    ∙ sym (append_assoc (pickle a x) (pickle b y) (pickle c z ++ last)) ∙ sym (append_assoc (pickle a x ++ pickle b y) (pickle c z) last)))

pub reads_some : (d a : Desc) (bytes : List ℕ) (x : Datum) (rest last : List ℕ) → d ≡ desc.Opt a → bytes ≡ 1 ∷ rest → Reads a rest x last → Reads d bytes (datum.Opt (Some x)) last
reads_some d a bytes x rest last is e reads =
    reads_as (roll-Desc (Desc-F.Opt a)) d (roll-Datum (Datum-F.Opt (Some x))) (datum.Opt (Some x)) bytes last (is ∙ sym (desc.rolls-Opt a)) (datum.rolls-Opt (Some x))
    (reads_of_form (Desc-F.Opt a) (Datum-F.Opt (Some x)) bytes last reads.described (e ∙ ap (λ z. 1 ∷ z) reads.parts))

flag_length : (b : Bool) → length (bool_pickle b) ≡ 1
flag_length true = refl
flag_length false = refl

-- an item and the flag behind it leave less
pub less_left : (d : Desc) (rest : List ℕ) (x : Datum) (behind : List ℕ) (again : Bool) (last : List ℕ) → Reads d rest x behind → behind ≡ bool_pickle again ++ last → length last < length rest
less_left d rest x behind again last reads e =
    omega (arith, ap length reads.parts, length-append (pickle d x) behind, ap length e, length-append (bool_pickle again) last, flag_length again)

-- with the description as the code has it
pub reads_with : (d d' : Desc) (bytes : List ℕ) (x : Datum) (rest : List ℕ) → d ≡ d' → Reads d bytes x rest → Reads d' bytes x rest
reads_with d d' bytes x rest is reads = subst (λ z. Reads z bytes x rest) is reads

pub halts_with : (d d' : Desc) (bytes : List ℕ) (e : Halt) → d ≡ d' → Halts (IsWhole d) bytes e → Halts (IsWhole d') bytes e
halts_with d d' bytes e is stop = subst (λ z. Halts (IsWhole z) bytes e) is stop
