-- The hours and days of a pair, place by place.
use Rattle.std.proofs.Common.{◌≡◌, ℕ, zero, suc, ◌+◌, ◌*◌, ◌/◌, ◌<◌, ◌≤◌, Bool, true, false, cond, Some, None, Option, List, ◌∷◌, length, map, get_or, refl, ap, sym, subst, ◌∙◌, arith}
use Rattle.std.specs.Prelude.{is_some, nat_le, nat_lt, IfSome}
use Rattle.std.specs.List.{range_with_len}
use Rattle.std.proofs.lemmas.Bool.{false≢true}
use Rattle.std.proofs.lemmas.Bool.Decides.{nat_tests}
use Rattle.std.proofs.lemmas.List.{get_or_past}
use Rattle.aq_base.specs.declared.day.TheConstants.{LAST_HOUR}
use Rattle.aq_base.specs.declared.monitor.Pollutant.TheVariants.{Pm25}
use Rattle.aq_rules.specs.Combined.Pair.{Pair, pair_day, pair_hour}
use Rattle.aq_rules.specs.Office.Office.{Office}
use Rattle.aq_rules.specs.Ozone.SiteHour.{Cell, site_hour}
use Rattle.aq_rules.specs.Particles.ParticleDay.{site_day}
use Rattle.aq_series.specs.DayStates.{hour_at, site_hours}
use Rattle.aq_series.specs.Samples.{AreOzone, IsOzone}
use Rattle.aq_ozone.specs.DayHours.{span_hours, within_profile}
use Rattle.aq_ozone.proofs.DayLemmas.{at_range, list_by, ozone_at, ozone_by}
use Rattle.aq_design.specs.Combined.Pairs.{chosen}

-- ---- one place

pub chosen-range : (P : Cell → Type 0) (before : Bool) (own joined : Option Cell) → IfSome own P → IfSome joined P → IfSome (chosen before own joined) P
chosen-range P true own joined one other = one
chosen-range P false own None one other = one
chosen-range P false own (Some cell) one other = other

-- by what is read there
module _ (before : Bool) (own joined read : Option Cell) where
  pub own-early : before ≡ true → own ≡ chosen before own joined
  own-early is = ap (λ (b : Bool). chosen b own joined) (sym is)

  pub joined-read : before ≡ false → read ≡ joined → is_some read ≡ true → read ≡ chosen before own joined
  joined-read is are there = given read there ∙ (λ i. chosen (sym is i) own (are i))
    where
      given : (o : Option Cell) → is_some o ≡ true → o ≡ chosen false own o
      given None h = absurd (false≢true h)
      given (Some cell) h = refl

  pub own-read : before ≡ false → read ≡ joined → is_some read ≡ false → own ≡ chosen before own joined
  own-read is are none = given read none ∙ (λ i. chosen (sym is i) own (are i))
    where
      given : (o : Option Cell) → is_some o ≡ false → own ≡ chosen false own o
      given None h = refl
      given (Some cell) h = absurd (false≢true (sym h))

-- ---- many places

module _ (own joined cells : List (Option Cell)) (n first from : ℕ) (many : length cells ≡ n)
    (each : (k : ℕ) → k < n → get_or cells k None ≡ chosen (nat_lt (first + k) from) (get_or own k None) (get_or joined k None)) where
  pub all-chosen : (P : Cell → Type 0) → ((k : ℕ) → IfSome (get_or own k None) P) → ((k : ℕ) → IfSome (get_or joined k None) P) → (k : ℕ) → IfSome (get_or cells k None) P
  all-chosen P ours theirs k = by_test (nat_lt k n) refl
    where
      by_test : (b : Bool) → nat_lt k n ≡ b → IfSome (get_or cells k None) P
      by_test true h =
          let within : k < n = grind (arith, nat_tests) in
          subst (λ (o : Option Cell). IfSome o P) (sym (each k within)) (chosen-range P (nat_lt (first + k) from) (get_or own k None) (get_or joined k None) (ours k) (theirs k))
      by_test false h =
          let outside : length cells ≤ k = grind (arith, nat_tests, many) in
          subst (λ (o : Option Cell). IfSome o P) (sym (get_or_past cells k None outside)) tt

  pub are-ozone : AreOzone own → AreOzone joined → AreOzone cells
  are-ozone ours theirs = ozone_by cells (all-chosen (λ cell. IsOzone cell.value) (λ k. ozone_at own k ours) (λ k. ozone_at joined k theirs))

-- ---- hours

module _ (office : Office) (pair : Pair) where
  hour-is : (hour : ℕ) → chosen (nat_lt hour (24 * pair.from)) (hour_at office pair.site hour) (hour_at office pair.joined hour) ≡ within_profile (pair_hour office pair) hour
  unfolding pair_hour
  hour-is hour =
      let same : nat_lt hour (24 * pair.from) ≡ nat_lt (hour / 24) pair.from = grind (arith, nat_tests) in
      ap (λ (b : Bool). chosen b (hour_at office pair.site hour) (hour_at office pair.joined hour)) same
      ∙ by_tests (nat_lt (hour / 24) pair.from) (nat_le hour LAST_HOUR)
    where
      by_tests : (b inside : Bool) → chosen b (cond inside (site_hour office pair.site hour) None) (cond inside (site_hour office pair.joined hour) None)
          ≡ cond inside (chosen b (site_hour office pair.site hour) (site_hour office pair.joined hour)) None
      by_tests true true = refl
      by_tests true false = refl
      by_tests false true = refl
      by_tests false false = refl

  -- the hours of eight days, of both sites
  module _ (day : ℕ) (own joined cells : List (Option Cell)) (own_is : own ≡ site_hours office pair.site day) (joined_is : joined ≡ site_hours office pair.joined day) (many : length cells ≡ 192)
      (each : (k : ℕ) → k < 192 → get_or cells k None ≡ chosen (nat_lt (24 * day + k) (24 * pair.from)) (get_or own k None) (get_or joined k None)) where
    pub hours-are : cells ≡ span_hours (pair_hour office pair) day
    unfolding span_hours site_hours
    hours-are =
        list_by None (within_profile (pair_hour office pair)) cells (24 * day) 192 many
        (λ k within.
        each k within
        ∙ (λ i. chosen (nat_lt (24 * day + k) (24 * pair.from)) (get_or (own_is i) k None) (get_or (joined_is i) k None))
        ∙ (λ i. chosen (nat_lt (24 * day + k) (24 * pair.from)) (at_range (hour_at office pair.site) (24 * day) 192 k None within i) (at_range (hour_at office pair.joined) (24 * day) 192 k None within i))
        ∙ hour-is (24 * day + k))

  -- and of the site alone, if they are before the joined one's
  pub early-hours : (day : ℕ) (own : List (Option Cell)) → own ≡ site_hours office pair.site day → day + 8 ≤ pair.from → own ≡ span_hours (pair_hour office pair) day
  unfolding span_hours site_hours
  early-hours day own is before =
      is ∙ same (24 * day) 192 (λ k low high. let early : nat_lt k (24 * pair.from) ≡ true = grind (arith, nat_tests, low, high, before) in
      ap (λ (b : Bool). chosen b (hour_at office pair.site k) (hour_at office pair.joined k)) (sym early) ∙ hour-is k)
    where
      same : (a n : ℕ) → ((k : ℕ) → a ≤ k → k < a + n → hour_at office pair.site k ≡ within_profile (pair_hour office pair) k)
          → map (hour_at office pair.site) (range_with_len a n) ≡ map (within_profile (pair_hour office pair)) (range_with_len a n)
      same a zero each = refl
      same a (suc n) each =
          let rest = same (a + 1) n (λ k low high. each k (omega (arith, low)) (omega (arith, high))) in
          λ i. each a (omega arith) (omega arith) i ∷ rest i

-- ---- days

module _ (office : Office) (pair : Pair) (first count : ℕ) (own : List (Option Cell)) (own_is : (k : ℕ) → k < count → get_or own k None ≡ site_day office pair.site Pm25 (first + k)) where
  pub days-are : (joined cells : List (Option Cell)) → count ≤ 92 → ((k : ℕ) → k < count → get_or joined k None ≡ site_day office pair.joined Pm25 (first + k))
      → ((k : ℕ) → k < 92 → get_or cells k None ≡ chosen (nat_lt (first + k) pair.from) (get_or own k None) (get_or joined k None))
      → (k : ℕ) → k < count → get_or cells k None ≡ pair_day office pair (first + k)
  unfolding pair_day
  days-are joined cells few joined_is each k below =
      each k (omega (arith, few, below)) ∙ (λ i. chosen (nat_lt (first + k) pair.from) (own_is k below i) (joined_is k below i))

  -- and those of the site alone, if they are before the joined one's
  pub early-days : first + count ≤ pair.from → (k : ℕ) → k < count → get_or own k None ≡ pair_day office pair (first + k)
  unfolding pair_day
  early-days before k below =
      let early : nat_lt (first + k) pair.from ≡ true = grind (arith, nat_tests, below, before) in
      own_is k below ∙ own-early (nat_lt (first + k) pair.from) (site_day office pair.site Pm25 (first + k)) (site_day office pair.joined Pm25 (first + k)) None early
