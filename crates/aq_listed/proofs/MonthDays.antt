-- The days of a month are those from its first on, as many as it has.
use Rattle.std.proofs.Common.{◌≡◌, ℕ, zero, suc, ◌+◌, ◌-◌, ◌<◌, ◌≤◌, ◌⊎◌, inl, inr, Bool, true, false, cond, ◌&&◌, ◌==◌, List, [], ◌∷◌, refl, ap, sym, subst, ◌∙◌, arith, nat_le, nat_lt}
use Rattle.std.specs.Prelude.{filter}
use Rattle.std.specs.Int.{IsInRange}
use Rattle.std.specs.List.{range_with_len}
use Rattle.std.proofs.lemmas.Bool.{and_parts}
use Rattle.std.proofs.lemmas.Bool.Decides.{nat_tests}
use Rattle.aq_base.specs.Calendar.{years, days_in_year, days_in_month, days_of_months, day_number, year_first, year_of, month_of, day_of_month}
use Rattle.aq_base.specs.declared.day.TheConstants.{FIRST_YEAR, LAST_YEAR, LAST_DAY}
use Rattle.aq_rules.specs.Ozone.OzoneYear.{days_of}
use Rattle.aq_rules.specs.Listed.Places.{days_of_month}
use Rattle.aq_cal.proofs.Dates.{all_years, days_of_years_next}
use Rattle.aq_cal.proofs.Counts.{IsDay, years_before, months_before, months_more, months_all, year_is, month_is}
use Rattle.aq_cal.proofs.Within.{date_is, date_number, year_holds}

-- ---- a part of a range

module _ (p : ℕ → Bool) where
  filter_none : (a n : ℕ) → ((d : ℕ) → a ≤ d → d < a + n → p d ≡ false) → filter p (range_with_len a n) ≡ []
  filter_none a zero none = refl
  filter_none a (suc n) none =
      ap (λ b. cond b (a ∷ filter p (range_with_len (a + 1) n)) (filter p (range_with_len (a + 1) n))) (none a (omega arith) (omega arith))
      ∙ filter_none (a + 1) n (λ d low high. none d (omega (arith, low)) (omega (arith, high)))

  filter_front : (a n k : ℕ) → k ≤ n → ((d : ℕ) → a ≤ d → d < a + k → p d ≡ true) → ((d : ℕ) → a + k ≤ d → d < a + n → p d ≡ false) → filter p (range_with_len a n) ≡ range_with_len a k
  filter_front a n zero few inside behind = filter_none a n (λ d low high. behind d (omega (arith, low)) high)
  filter_front a zero (suc k) few inside behind = absurd (omega (arith, few))
  filter_front a (suc n) (suc k) few inside behind =
      ap (λ b. cond b (a ∷ filter p (range_with_len (a + 1) n)) (filter p (range_with_len (a + 1) n))) (inside a (omega arith) (omega arith))
      ∙ ap (λ (l : List ℕ). a ∷ l) (filter_front (a + 1) n k (omega (arith, few)) (λ d low high. inside d (omega (arith, low)) (omega (arith, high))) (λ d low high. behind d (omega (arith, low)) (omega (arith, high))))

  filter_part : (a j n k : ℕ) → j + k ≤ n → ((d : ℕ) → a ≤ d → d < a + j → p d ≡ false) → ((d : ℕ) → a + j ≤ d → d < a + j + k → p d ≡ true) → ((d : ℕ) → a + j + k ≤ d → d < a + n → p d ≡ false)
      → filter p (range_with_len a n) ≡ range_with_len (a + j) k
  filter_part a zero n k few before inside behind =
      let here : a + 0 ≡ a = omega arith in
      filter_front a n k (omega (arith, few)) (λ d low high. inside d (omega (arith, low)) (omega (arith, high))) (λ d low high. behind d (omega (arith, low)) high)
      ∙ ap (λ b. range_with_len b k) (sym here)
  filter_part a (suc j) zero k few before inside behind = absurd (omega (arith, few))
  filter_part a (suc j) (suc n) k few before inside behind =
      let there : a + 1 + j ≡ a + suc j = omega arith in
      ap (λ b. cond b (a ∷ filter p (range_with_len (a + 1) n)) (filter p (range_with_len (a + 1) n))) (before a (omega arith) (omega arith))
      ∙ filter_part (a + 1) j n k (omega (arith, few)) (λ d low high. before d (omega (arith, low)) (omega (arith, high))) (λ d low high. inside d (omega (arith, low)) (omega (arith, high))) (λ d low high. behind d (omega (arith, low)) (omega (arith, high)))
      ∙ ap (λ b. range_with_len b k) there

-- ---- a month

-- a month of the profile
pub record IsMonth (year month : ℕ) : Type 0 where
  pub year_low : FIRST_YEAR ≤ year
  pub year_high : year ≤ LAST_YEAR
  pub month_low : 1 ≤ month
  pub month_high : month ≤ 12

pub month_in : (year month : ℕ) → IsInRange FIRST_YEAR LAST_YEAR year → IsInRange 1 12 month → IsMonth year month
month_in year month y m = record { year_low = y.0; year_high = y.1; month_low = m.0; month_high = m.1 }

module _ (year month : ℕ) (is : IsMonth year month) where
  abbrev pub first : ℕ
  first = day_number year month 1

  abbrev pub days : ℕ
  days = days_in_month year month

  -- where it begins and ends in its year
  begins : first ≡ year_first year + days_of_months year (month - 1)
  begins = omega arith

  ends : first + days ≡ year_first year + days_of_months year month
  ends = let more = months_more year month is.month_low in omega (arith, more)

  whole_year : days_of_months year month ≤ days_in_year year
  whole_year = let high = months_before year month 12 is.month_high in let all = months_all year in omega (arith, high, all)

  pub month_in_profile : first + days ≤ LAST_DAY + 1
  month_in_profile =
      let since : FIRST_YEAR + (year - FIRST_YEAR) ≡ year = omega (arith, is.year_low) in
      let next = rw since at (days_of_years_next (year - FIRST_YEAR)) in
      let high = years_before (suc (year - FIRST_YEAR)) years (omega (arith, is.year_high)) in
      omega (arith, ends, whole_year, next, high, all_years)

  -- a day of the month has its year and its number
  of_month : (d : ℕ) → first ≤ d → d < first + days → (year_of d ≡ year) × (month_of d ≡ month)
  of_month d low high =
      let place = d - first + 1 in
      let date : IsDay year month place = record {
        year_low = is.year_low;
        year_high = is.year_high;
        month_low = is.month_low;
        month_high = is.month_high;
        day_low = omega arith;
        day_high = omega (arith, low, high);
      } in
      let number : day_number year month place ≡ d = omega (arith, low) in
      (ap year_of (sym number) ∙ year_is year month place date, ap month_of (sym number) ∙ month_is year month place date)

  -- and any other day has not
  within_at : (d y m k : ℕ) → IsDay y m k → day_number y m k ≡ d → y ≡ year → m ≡ month → (first ≤ d) × (d < first + days)
  within_at d y m k date number same_year same_month =
      let at : IsDay year month k = subst (λ n. IsDay n month k) same_year (subst (λ n. IsDay y n k) same_month date) in
      let is : day_number year month k ≡ d = subst (λ n. day_number n month k ≡ d) same_year (subst (λ n. day_number y n k ≡ d) same_month number) in
      (omega (arith, is, at.day_low), omega (arith, is, at.day_low, at.day_high))

  pub within_month : (d : ℕ) → d ≤ LAST_DAY → year_of d ≡ year → month_of d ≡ month → (first ≤ d) × (d < first + days)
  within_month d last y m = within_at d (year_of d) (month_of d) (day_of_month d) (date_is d last) (date_number d last) y m

  both_ways : (a b : Bool) → (a ≡ true → b ≡ true) → (b ≡ true → a ≡ true) → a ≡ b
  both_ways true true f g = refl
  both_ways true false f g = sym (f refl)
  both_ways false true f g = g refl
  both_ways false false f g = refl

  equal : (m n : ℕ) → (m == n) ≡ true → m ≡ n
  equal m n h = grind (arith, nat_tests)

  itself : (m n : ℕ) → m ≡ n → (m == n) ≡ true
  itself m n h = grind (arith, nat_tests)

  inside : (d : ℕ) → (nat_le first d && nat_lt d (first + days)) ≡ true → (first ≤ d) × (d < first + days)
  inside d h =
      let parts = and_parts (nat_le first d) (nat_lt d (first + days)) h in
      let low = parts.0 in
      let high = parts.1 in
      (grind (arith, nat_tests), grind (arith, nat_tests))

  pub is_in_month : (d : ℕ) → d ≤ LAST_DAY → ((year_of d == year) && (month_of d == month)) ≡ (nat_le first d && nat_lt d (first + days))
  is_in_month d last =
      both_ways ((year_of d == year) && (month_of d == month)) (nat_le first d && nat_lt d (first + days))
      (λ h.
      let parts = and_parts (year_of d == year) (month_of d == month) h in
      let within = within_month d last (equal (year_of d) year parts.0) (equal (month_of d) month parts.1) in
      holds d within.0 within.1)
      (λ h.
      let within = inside d h in
      let of = of_month d within.0 within.1 in
      (λ i. itself (year_of d) year of.0 i && itself (month_of d) month of.1 i))
    where
      holds : (d : ℕ) → first ≤ d → d < first + days → (nat_le first d && nat_lt d (first + days)) ≡ true
      holds d low high = grind (arith, nat_tests)

  apart : (d : ℕ) → d ≤ LAST_DAY → year_of d ≡ year → (d < first) ⊎ (first + days ≤ d) → (month_of d == month) ≡ false
  apart d last y out = by_test (month_of d == month) refl
    where
      by_test : (b : Bool) → (month_of d == month) ≡ b → b ≡ false
      by_test false h = refl
      by_test true h =
          let within = within_month d last y (equal (month_of d) month h) in
          absurd (elim out [
            | inl before ↦ omega (arith, within.0, before)
            | inr behind ↦ omega (arith, within.1, behind)
          ])

  pub days_of_month_are : days_of_month year month ≡ range_with_len first days
  unfolding days_of_month days_of
  days_of_month_are =
      let start : year_first year + days_of_months year (month - 1) ≡ first = omega arith in
      let since : FIRST_YEAR + (year - FIRST_YEAR) ≡ year = omega (arith, is.year_low) in
      let next = rw since at (days_of_years_next (year - FIRST_YEAR)) in
      let end = years_before (suc (year - FIRST_YEAR)) years (omega (arith, is.year_high)) in
      let in_profile : year_first year + days_in_year year ≤ LAST_DAY + 1 = omega (arith, next, end, all_years) in
      let in_year : (d : ℕ) → year_first year ≤ d → d < year_first year + days_in_year year → (d ≤ LAST_DAY) × (year_of d ≡ year) =
      λ d low high.
      let last : d ≤ LAST_DAY = omega (arith, high, in_profile) in
      (last, (year_holds year d is.year_low last).1 (low, high))
      in
      filter_part (λ day. month_of day == month) (year_first year) (days_of_months year (month - 1)) (days_in_year year) days
      (omega (arith, begins, ends, whole_year))
      (λ d low high.
      let of = in_year d low (omega (arith, high, begins, ends, whole_year)) in
      apart d of.0 of.1 (inl (omega (arith, high, begins))))
      (λ d low high. itself (month_of d) month (of_month d (omega (arith, low, begins)) (omega (arith, high, begins))).1)
      (λ d low high.
      let of = in_year d (omega (arith, low)) high in
      apart d of.0 of.1 (inr (omega (arith, low, begins))))
      ∙ ap (λ b. range_with_len b days) start

pub month_within_profile : (year month : ℕ) → IsInRange FIRST_YEAR LAST_YEAR year → IsInRange 1 12 month → day_number year month 1 + days_in_month year month ≤ LAST_DAY + 1
month_within_profile year month y m = month_in_profile year month (month_in year month y m)
