-- The text of a value is read as the value.
use Rattle.std.proofs.Common.{◌≡◌, ℕ, suc, zero, ◌+◌, ◌*◌, ◌/◌, ◌%◌, ◌^◌, ◌<◌, ◌≤◌, true, false, cond, not, ◌&&◌, ◌||◌, List, [], ◌∷◌, ◌++◌, length, take, drop, Some, None, refl, sym, ap, ◌∙◌, arith, subst, length-append}
use Rattle.std.specs.Prelude.{nat_lt, ◌==◌, decimal, if◌then◌else◌, ℤ, pos, negsuc, neg_ℤ}
use Rattle.std.specs.List.{before_first, after_first, position_or_len}
use Rattle.std.specs.Char.{digit_value, is_ascii_digit}
use Rattle.std.specs.Str.Parse.{AllDigits, digits_value, digits_value_after}
use Rattle.std.proofs.lemmas.Fmt.{decimal_is_IsNumeral}
use Rattle.std.proofs.Math.Seq.{take-append_seam}
use Rattle.std.proofs.Math.Nat.{mul-div_cancel}
use Rattle.std.proofs.lemmas.Bool.Decides.{nat_tests}
use Rattle.std.proofs.lemmas.Bool.{and_from}
use Rattle.aq_base.specs.Decimal.{last_digits, are_digits, is_point, is_minus, cut, fixed, unsigned_part, whole_part, fraction_part, is_decimal, cut_magnitude}
use Rattle.aq_base.specs.declared.monitor.Pollutant.{Pollutant}
use Rattle.aq_base.specs.declared.monitor.Pollutant.TheVariants.{Ozone, Pm25, Pm10}
use Rattle.aq_rules.specs.Lines.Spellings.{value_in, is_in_range}
use Rattle.aq_rules.proofs.Elements.{all-append}
use Rattle.aq_rules.proofs.Digits.{digits_are}
use Rattle.aq_rules.proofs.JoinedFields.{is_clean}
use Rattle.aq_rules.proofs.RoundTrip.{clean-append, clean-decimal, clean-digits}
use Rattle.aq_rules.specs.Lines.Fields.{is_empty}
use Rattle.aq_rules.specs.Lines.Canonical.{value_text, value_places}
use Rattle.aq_rules.proofs.KeyOrder.{length-digits}

not_point : (c : ℕ) → digit_value c < 10 → is_point c ≡ false
not_point c h = grind (arith, nat_tests)

point_at : (ds rest : List ℕ) → AllDigits 10 ds → position_or_len is_point (ds ++ 46 ∷ rest) ≡ length ds
point_at [] rest h = refl
point_at (d ∷ ds) rest h =
    ap (λ b. cond (not b) (1 + position_or_len is_point (ds ++ 46 ∷ rest)) 0) (not_point d h.0)
    ∙ ap (λ n. 1 + n) (point_at ds rest h.1) ∙ omega arith

drop-past : (ds rest : List ℕ) → drop (length ds + 1) (ds ++ 46 ∷ rest) ≡ rest
drop-past [] rest = refl
drop-past (d ∷ ds) rest = let same : length (d ∷ ds) + 1 ≡ suc (length ds + 1) = omega arith in rw same (drop-past ds rest)

before-point : (ds rest : List ℕ) → AllDigits 10 ds → before_first is_point (ds ++ 46 ∷ rest) ≡ ds
before-point ds rest h = ap (λ n. take n (ds ++ 46 ∷ rest)) (point_at ds rest h) ∙ take-append_seam ds (46 ∷ rest)

after-point : (ds rest : List ℕ) → AllDigits 10 ds → after_first is_point (ds ++ 46 ∷ rest) ≡ rest
after-point ds rest h = ap (λ n. drop (n + 1) (ds ++ 46 ∷ rest)) (point_at ds rest h) ∙ drop-past ds rest

value-append : (n : ℕ) (xs ys : List ℕ) → digits_value_after 10 n (xs ++ ys) ≡ digits_value_after 10 (digits_value_after 10 n xs) ys
value-append n [] ys = refl
value-append n (x ∷ xs) ys = value-append (n * 10 + digit_value x) xs ys

digit_of : (k : ℕ) → digit_value (48 + k % 10) ≡ k % 10
digit_of k = grind (arith, nat_tests)

value-three : (k : ℕ) → digits_value_after 10 (k / 1000) (last_digits 3 k) ≡ k
unfolding last_digits
value-three k =
    ap (λ x. ((k / 1000 * 10 + x) * 10 + digit_value (48 + k / 10 % 10)) * 10 + digit_value (48 + k % 10)) (digit_of (k / 10 / 10))
    ∙ ap (λ x. ((k / 1000 * 10 + k / 10 / 10 % 10) * 10 + x) * 10 + digit_value (48 + k % 10)) (digit_of (k / 10))
    ∙ ap (λ x. ((k / 1000 * 10 + k / 10 / 10 % 10) * 10 + k / 10 % 10) * 10 + x) (digit_of k)
    ∙ omega arith

value-one : (k : ℕ) → digits_value_after 10 (k / 10) (last_digits 1 k) ≡ k
unfolding last_digits
value-one k = ap (λ x. k / 10 * 10 + x) (digit_of k) ∙ omega arith

-- a text of digits, a point and digits, with or without a minus
record Parts (text whole frac : List ℕ) (places k : ℕ) : Type 0 where
  unsigned : unsigned_part text ≡ whole ++ 46 ∷ frac
  whole_digits : AllDigits 10 whole
  some_digit : 0 < length (whole ++ frac)
  frac_digits : are_digits frac ≡ true
  value : digits_value 10 (whole ++ frac) ≡ k
  len : length frac ≡ places
  big : 0 < 10 ^ places

whole_is : (text whole frac : List ℕ) (places k : ℕ) → Parts text whole frac places k → whole_part text ≡ whole
whole_is text whole frac places k p = ap (before_first is_point) p.unsigned ∙ before-point whole frac p.whole_digits

frac_is : (text whole frac : List ℕ) (places k : ℕ) → Parts text whole frac places k → fraction_part text ≡ frac
frac_is text whole frac places k p = ap (after_first is_point) p.unsigned ∙ after-point whole frac p.whole_digits

magnitude_is : (text whole frac : List ℕ) (places k : ℕ) → Parts text whole frac places k → cut_magnitude text places ≡ k
magnitude_is text whole frac places k p =
    ap (λ w. digits_value 10 (w ++ fraction_part text) * 10 ^ places / 10 ^ length (fraction_part text)) (whole_is text whole frac places k p)
    ∙ ap (λ f. digits_value 10 (whole ++ f) * 10 ^ places / 10 ^ length f) (frac_is text whole frac places k p)
    ∙ ap (λ v. v * 10 ^ places / 10 ^ length frac) p.value
    ∙ ap (λ n. k * 10 ^ places / 10 ^ n) p.len
    ∙ mul-div_cancel k p.big

positive : (n : ℕ) → 0 < n → nat_lt 0 n ≡ true
positive n h = grind (arith, nat_tests)

decimal_text : (text whole frac : List ℕ) (places k : ℕ) → Parts text whole frac places k → is_decimal text ≡ true
decimal_text text whole frac places k p =
    ap (λ w. are_digits w && are_digits (fraction_part text) && nat_lt 0 (length (w ++ fraction_part text))) (whole_is text whole frac places k p)
    ∙ ap (λ f. are_digits whole && are_digits f && nat_lt 0 (length (whole ++ f))) (frac_is text whole frac places k p)
    ∙ and_from (are_digits whole && are_digits frac) (nat_lt 0 (length (whole ++ frac)))
    (and_from (are_digits whole) (are_digits frac) (digits_are whole p.whole_digits) p.frac_digits)
    (positive (length (whole ++ frac)) p.some_digit)

signless : (c : ℕ) → digit_value c < 10 → ((c == 43) || (c == 45)) ≡ false
signless c h = grind (arith, nat_tests)

no_minus : (c : ℕ) → digit_value c < 10 → (c == 45) ≡ false
no_minus c h = grind (arith, nat_tests)

unsigned-digits : (ds rest : List ℕ) → AllDigits 10 ds → 0 < length ds → unsigned_part (ds ++ rest) ≡ ds ++ rest
unsigned-digits [] rest h l = absurd (omega arith)
unsigned-digits (d ∷ ds) rest h l = ap (λ b. if b then ds ++ rest else d ∷ (ds ++ rest)) (signless d h.0)

not_minus : (ds rest : List ℕ) → AllDigits 10 ds → 0 < length ds → is_minus (ds ++ rest) ≡ false
not_minus [] rest h l = absurd (omega arith)
not_minus (d ∷ ds) rest h l = no_minus d h.0

digits-append : (xs ys : List ℕ) → are_digits xs ≡ true → are_digits ys ≡ true → are_digits (xs ++ ys) ≡ true
digits-append = all-append is_ascii_digit

ascii : (k : ℕ) → is_ascii_digit (48 + k % 10) ≡ true
ascii k = grind (arith, nat_tests)

are_digits-last : (w k : ℕ) → are_digits (last_digits w k) ≡ true
unfolding last_digits
are_digits-last zero k = refl
are_digits-last (suc w) k =
    digits-append (last_digits w (k / 10)) ((48 + k % 10) ∷ []) (are_digits-last w (k / 10)) (and_from (is_ascii_digit (48 + k % 10)) true (ascii k) refl)

longer : (xs ys : List ℕ) → 0 < length xs → 0 < length (xs ++ ys)
longer xs ys h = omega (arith, length-append xs ys)

-- the text without its minus
abbrev digits_text : ℕ → ℕ → List ℕ
digits_text places k = decimal (k / 10 ^ places) ++ 46 ∷ last_digits places k

parts_of : (text : List ℕ) (places k : ℕ) → unsigned_part text ≡ digits_text places k → k / 10 ^ places < 2 ^ 64
    → digits_value_after 10 (k / 10 ^ places) (last_digits places k) ≡ k → 0 < 10 ^ places
    → Parts text (decimal (k / 10 ^ places)) (last_digits places k) places k
parts_of text places k unsigned small value big =
    let numeral = decimal_is_IsNumeral (k / 10 ^ places) small in
    record {
      unsigned = unsigned;
      whole_digits = numeral.0.1;
      some_digit = longer (decimal (k / 10 ^ places)) (last_digits places k) numeral.0.0;
      frac_digits = are_digits-last places k;
      value =
          value-append 0 (decimal (k / 10 ^ places)) (last_digits places k)
          ∙ ap (λ n. digits_value_after 10 n (last_digits places k)) numeral.1 ∙ value;
      len = length-digits places k;
      big = big;
    }

plain_parts : (places k : ℕ) → k / 10 ^ places < 2 ^ 64 → digits_value_after 10 (k / 10 ^ places) (last_digits places k) ≡ k → 0 < 10 ^ places
    → Parts (digits_text places k) (decimal (k / 10 ^ places)) (last_digits places k) places k
plain_parts places k small value big =
    let numeral = decimal_is_IsNumeral (k / 10 ^ places) small in
    parts_of (digits_text places k) places k
    (unsigned-digits (decimal (k / 10 ^ places)) (46 ∷ last_digits places k) numeral.0.1 numeral.0.0) small value big

cut-plain : (places k : ℕ) → k / 10 ^ places < 2 ^ 64 → digits_value_after 10 (k / 10 ^ places) (last_digits places k) ≡ k → 0 < 10 ^ places
    → cut (digits_text places k) places ≡ pos k
cut-plain places k small value big =
    let numeral = decimal_is_IsNumeral (k / 10 ^ places) small in
    ap (λ b. if b then neg_ℤ (pos (cut_magnitude (digits_text places k) places)) else pos (cut_magnitude (digits_text places k) places))
    (not_minus (decimal (k / 10 ^ places)) (46 ∷ last_digits places k) numeral.0.1 numeral.0.0)
    ∙ ap pos (magnitude_is (digits_text places k) (decimal (k / 10 ^ places)) (last_digits places k) places k (plain_parts places k small value big))

minus_parts : (places k : ℕ) → k / 10 ^ places < 2 ^ 64 → digits_value_after 10 (k / 10 ^ places) (last_digits places k) ≡ k → 0 < 10 ^ places
    → Parts (45 ∷ digits_text places k) (decimal (k / 10 ^ places)) (last_digits places k) places k
minus_parts places k small value big = parts_of (45 ∷ digits_text places k) places k refl small value big

cut-minus : (places k : ℕ) → k / 10 ^ places < 2 ^ 64 → digits_value_after 10 (k / 10 ^ places) (last_digits places k) ≡ k → 0 < 10 ^ places
    → cut (45 ∷ digits_text places k) places ≡ neg_ℤ (pos k)
cut-minus places k small value big =
    ap (λ n. neg_ℤ (pos n)) (magnitude_is (45 ∷ digits_text places k) (decimal (k / 10 ^ places)) (last_digits places k) places k (minus_parts places k small value big))

not_below : (k : ℕ) → nat_lt k 0 ≡ false
not_below k = grind (arith, nat_tests)

three_pos : (k : ℕ) → fixed (pos k) 3 ≡ digits_text 3 k
three_pos k = ap (λ b. (if b then 45 ∷ [] else []) ++ decimal (k / 1000) ++ (46 ∷ last_digits 3 k)) (not_below k)

three_neg : (k : ℕ) → fixed (negsuc k) 3 ≡ 45 ∷ digits_text 3 (suc k)
three_neg k = refl

one_pos : (k : ℕ) → fixed (pos k) 1 ≡ digits_text 1 k
one_pos k = ap (λ b. (if b then 45 ∷ [] else []) ++ decimal (k / 10) ++ (46 ∷ last_digits 1 k)) (not_below k)

one_neg : (k : ℕ) → fixed (negsuc k) 1 ≡ 45 ∷ digits_text 1 (suc k)
one_neg k = refl

pub range_pos : (p : Pollutant) (k : ℕ) → is_in_range p (pos k) ≡ true → k ≤ 99999
range_pos Ozone k h = grind (arith, nat_tests)
range_pos Pm25 k h = grind (arith, nat_tests)
range_pos Pm10 k h = grind (arith, nat_tests)

pub range_neg : (p : Pollutant) (k : ℕ) → is_in_range p (negsuc k) ≡ true → suc k ≤ 999
range_neg Ozone k h = grind (arith, nat_tests)
range_neg Pm25 k h = grind (arith, nat_tests)
range_neg Pm10 k h = grind (arith, nat_tests)

-- the text of a value
pub record ValueText (p : Pollutant) (places : ℕ) (text : List ℕ) (v : ℤ) : Type 0 where
  pub reads : value_in p places text ≡ Some v
  pub not_empty : is_empty text ≡ false
  pub clean : is_clean text ≡ true

value_known : (p : Pollutant) (places : ℕ) (text : List ℕ) (v : ℤ) → is_decimal text ≡ true → cut text places ≡ v → is_in_range p v ≡ true
    → value_in p places text ≡ Some v
unfolding value_in
value_known p places text v dec is range =
    ap (λ c. if is_decimal text && is_in_range p c then Some c else None) is
    ∙ ap (λ b. if b then Some v else None) (and_from (is_decimal text) (is_in_range p v) dec range)

some_text : (ds rest : List ℕ) → 0 < length ds → is_empty (ds ++ rest) ≡ false
some_text [] rest h = absurd (omega arith)
some_text (d ∷ ds) rest h = refl

clean_text : (places k : ℕ) → k / 10 ^ places < 2 ^ 64 → is_clean (digits_text places k) ≡ true
clean_text places k small =
    clean-append (decimal (k / 10 ^ places)) (46 ∷ last_digits places k) (clean-decimal (k / 10 ^ places) small) (clean-digits places k)

text_pos : (p : Pollutant) (places k : ℕ) → k / 10 ^ places < 2 ^ 64 → digits_value_after 10 (k / 10 ^ places) (last_digits places k) ≡ k → 0 < 10 ^ places
    → is_in_range p (pos k) ≡ true → ValueText p places (digits_text places k) (pos k)
text_pos p places k small value big range = record {
  reads =
      value_known p places (digits_text places k) (pos k)
      (decimal_text (digits_text places k) (decimal (k / 10 ^ places)) (last_digits places k) places k (plain_parts places k small value big))
      (cut-plain places k small value big) range;
  not_empty = some_text (decimal (k / 10 ^ places)) (46 ∷ last_digits places k) (decimal_is_IsNumeral (k / 10 ^ places) small).0.0;
  clean = clean_text places k small;
}

text_neg : (p : Pollutant) (places k : ℕ) → suc k / 10 ^ places < 2 ^ 64 → digits_value_after 10 (suc k / 10 ^ places) (last_digits places (suc k)) ≡ suc k → 0 < 10 ^ places
    → is_in_range p (negsuc k) ≡ true → ValueText p places (45 ∷ digits_text places (suc k)) (negsuc k)
text_neg p places k small value big range = record {
  reads =
      value_known p places (45 ∷ digits_text places (suc k)) (negsuc k)
      (decimal_text (45 ∷ digits_text places (suc k)) (decimal (suc k / 10 ^ places)) (last_digits places (suc k)) places (suc k) (minus_parts places (suc k) small value big))
      (cut-minus places (suc k) small value big) range;
  not_empty = refl;
  clean = clean_text places (suc k) small;
}

small_three : (k : ℕ) → k ≤ 99999 → k / 10 ^ 3 < 2 ^ 64
small_three k h = omega arith

small_one : (k : ℕ) → k ≤ 99999 → k / 10 ^ 1 < 2 ^ 64
small_one k h = omega arith

weaker : (k : ℕ) → k ≤ 999 → k ≤ 99999
weaker k h = omega arith

pub value_text_is : (p : Pollutant) (v : ℤ) → is_in_range p v ≡ true → ValueText p (value_places p) (value_text p (Some v)) v
value_text_is Ozone (pos k) h = subst (λ t. ValueText Ozone 3 t (pos k)) (sym (three_pos k)) (text_pos Ozone 3 k (small_three k (range_pos Ozone k h)) (value-three k) (omega arith) h)
value_text_is Ozone (negsuc k) h = subst (λ t. ValueText Ozone 3 t (negsuc k)) (sym (three_neg k)) (text_neg Ozone 3 k (small_three (suc k) (weaker (suc k) (range_neg Ozone k h))) (value-three (suc k)) (omega arith) h)
value_text_is Pm25 (pos k) h = subst (λ t. ValueText Pm25 1 t (pos k)) (sym (one_pos k)) (text_pos Pm25 1 k (small_one k (range_pos Pm25 k h)) (value-one k) (omega arith) h)
value_text_is Pm25 (negsuc k) h = subst (λ t. ValueText Pm25 1 t (negsuc k)) (sym (one_neg k)) (text_neg Pm25 1 k (small_one (suc k) (weaker (suc k) (range_neg Pm25 k h))) (value-one (suc k)) (omega arith) h)
value_text_is Pm10 (pos k) h = subst (λ t. ValueText Pm10 1 t (pos k)) (sym (one_pos k)) (text_pos Pm10 1 k (small_one k (range_pos Pm10 k h)) (value-one k) (omega arith) h)
value_text_is Pm10 (negsuc k) h = subst (λ t. ValueText Pm10 1 t (negsuc k)) (sym (one_neg k)) (text_neg Pm10 1 k (small_one (suc k) (weaker (suc k) (range_neg Pm10 k h))) (value-one (suc k)) (omega arith) h)
