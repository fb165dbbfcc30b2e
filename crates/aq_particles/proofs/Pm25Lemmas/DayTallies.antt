-- The tally of a quarter's days with one more day.
use Rattle.std.proofs.Common.{◌≡◌, ℕ, suc, ◌+◌, ◌-◌, ◌<◌, ◌≤◌, ◌||◌, Bool, true, false, cond, length, map, List, [], ◌∷◌, ◌++◌, refl, sym, ap, ◌∙◌, arith}
use mir.Val.{bool_byte}
use Rattle.std.specs.Prelude.{ℤ, Option, Some, None, count_by}
use Rattle.std.specs.List.{cons_option, list_any, range_with_len}
use Rattle.std.specs.Option.{option_to_list}
use Rattle.std.proofs.lemmas.List.{length-map}
use Rattle.std.proofs.lemmas.List.FromFn.{length-range_with_len, map-range_with_len_more}
use Rattle.std.proofs.lemmas.List.Elements.{filter_map-append}
use Rattle.std.proofs.lemmas.List.Sums.{count_by-le-length, sum_by_push}
use Rattle.aq_rules.proofs.Pm10Facts.{length-kept}
use Rattle.aq_particles.specs.Pm25.QuarterValues.{AreOf}
use Rattle.aq_particles.specs.Pm25.QuarterDays.{values_of, IsTallyOf}
use Rattle.aq_particles.specs.declared.pm25.quarter_days.DayOfQuarter.{DayOfQuarter}
use Rattle.aq_particles.specs.declared.pm25.quarter_values.QuarterValues.{QuarterValues}
use Rattle.aq_particles.specs.declared.pm25.quarters.QuarterTally.{QuarterTally}

one_where : (b : Bool) → bool_byte b ≡ cond b 1 0
one_where true = refl
one_where false = refl

count_more : (p : DayOfQuarter → Bool) (days : List DayOfQuarter) (day : DayOfQuarter) (before after byte : ℕ) → before ≡ count_by p days → after ≡ before + byte → byte ≡ bool_byte (p day) → after ≡ count_by p (days ++ day ∷ [])
count_more p days day before after byte is more one =
    more ∙ (λ i. is i + (one ∙ one_where (p day)) i) ∙ sym (sum_by_push (λ (d : DayOfQuarter). cond (p d) 1 0) days day)

listed : (o : Option ℤ) → cons_option o [] ≡ option_to_list o
listed None = refl
listed (Some v) = refl

values_more : (days : List DayOfQuarter) (day : DayOfQuarter) → values_of (days ++ day ∷ []) ≡ values_of days ++ option_to_list day.value
values_more days day = filter_map-append (λ (d : DayOfQuarter). d.value) days (day ∷ []) ∙ ap (λ l. values_of days ++ l) (listed day.value)

pub tally-more : (before : List ℤ) (days : List DayOfQuarter) (day : DayOfQuarter) (tally : QuarterTally) (a b c : ℕ) (values : QuarterValues) → IsTallyOf before days tally
    → a ≡ bool_byte day.scheduled → b ≡ bool_byte day.creditable → c ≡ bool_byte day.counted
    → ((vs : List ℤ) → AreOf before vs tally.values → AreOf before (vs ++ option_to_list day.value) values)
    → IsTallyOf before (days ++ day ∷ []) (record { scheduled = tally.scheduled + a; creditable = tally.creditable + b; counted = tally.counted + c; values = values })
tally-more before days day tally a b c values is ai bi ci more = record {
  scheduled = count_more (λ (d : DayOfQuarter). d.scheduled) days day tally.scheduled (tally.scheduled + a) a is.scheduled refl ai;
  creditable = count_more (λ (d : DayOfQuarter). d.creditable) days day tally.creditable (tally.creditable + b) b is.creditable refl bi;
  counted = count_more (λ (d : DayOfQuarter). d.counted) days day tally.counted (tally.counted + c) c is.counted refl ci;
  values = rw (values_more days day) (more (values_of days) is.values);
}

-- ---- no more than the days

pub record AreFew (count : ℕ) (tally : QuarterTally) : Type 0 where
  pub scheduled : tally.scheduled ≤ count
  pub creditable : tally.creditable ≤ count
  pub counted : tally.counted ≤ count
  pub values : tally.values.count ≤ count

pub few : (day : ℕ → DayOfQuarter) (before : List ℤ) (first count : ℕ) (tally : QuarterTally) → IsTallyOf before (map day (range_with_len first count)) tally → AreFew count tally
few day before first count tally is =
    let days = map day (range_with_len first count) in
    let many : length days ≡ count = length-map (range_with_len first count) day ∙ length-range_with_len first count in
    record {
      scheduled = omega (arith, is.scheduled, many, count_by-le-length (λ (d : DayOfQuarter). d.scheduled) days);
      creditable = omega (arith, is.creditable, many, count_by-le-length (λ (d : DayOfQuarter). d.creditable) days);
      counted = omega (arith, is.counted, many, count_by-le-length (λ (d : DayOfQuarter). d.counted) days);
      values = omega (arith, is.values.count, many, length-kept (λ (d : DayOfQuarter). d.value) days);
    }

pub days-more : (f : ℕ → DayOfQuarter) (first count number : ℕ) (day : DayOfQuarter) → first + count ≡ number → day ≡ f number → map f (range_with_len first count) ++ day ∷ [] ≡ map f (range_with_len first (count + 1))
days-more f first count number day at is =
    ap (λ (d : DayOfQuarter). map f (range_with_len first count) ++ d ∷ []) is ∙ sym (map-range_with_len_more f first count number at)

-- ---- the days behind one that passes no test

pub rest-after : (p : ℕ → Bool) (day end : ℕ) → day < end → p day ≡ false → list_any p (range_with_len (day + 1) (end - (day + 1))) ≡ list_any p (range_with_len day (end - day))
rest-after p day end before none =
    let one : end - day ≡ suc (end - (day + 1)) = omega (arith, before) in
    sym (ap (λ n. list_any p (range_with_len day n)) one ∙ ap (λ b. b || list_any p (range_with_len (day + 1) (end - (day + 1)))) none)
