-- From hour to hour the day, and from day to day its quarter and its year, stay or rise by one.
use Rattle.std.proofs.Common.{◌≡◌, ℕ, ◌+◌, ◌-◌, ◌≤◌, ◌<◌, ◌⊎◌, inl, inr, refl, sym, subst, arith}
use Rattle.std.proofs.lemmas.Bool.{cases_order}
use Rattle.aq_base.specs.Calendar.{day_of_hour, days_in_quarter, days_of_months, days_of_years, quarter_first, quarter_of, year_of}
use Rattle.aq_base.specs.declared.day.TheConstants.{LAST_DAY, QUARTERS}
use Rattle.aq_cal.proofs.Within.{date_is, quarter_holds, quarter_next}
use Rattle.aq_rules.proofs.Pm10Facts.{quarter_days}
use Rattle.aq_rules.specs.Particles.Strata.{quarter_end}
use Rattle.aq_dirty.proofs.Along.{StepsUp, rises, starts-rise}
use Rattle.aq_dirty.proofs.Years.{year_step}

by_order : (x y : ℕ) → x ≤ y → y ≤ x + 1 → (y ≡ x) ⊎ (y ≡ x + 1)
by_order x y low high =
    elim (cases_order y x) [
      | inl same ↦ inl same
      | inr (inl lt) ↦ absurd (omega (arith, low, lt))
      | inr (inr gt) ↦ inr (omega (arith, high, gt))
    ]

pub steps-days : (a k : ℕ) → StepsUp day_of_hour a k
steps-days a k = λ h low high. by_order (day_of_hour h) (day_of_hour (h + 1)) (omega arith) (omega arith)

quarter_step : (d : ℕ) → d < LAST_DAY → (quarter_of (d + 1) ≡ quarter_of d) ⊎ (quarter_of (d + 1) ≡ quarter_of d + 1)
quarter_step d h = by (quarter_of d) refl
  where
    by : (q : ℕ) → quarter_of d ≡ q → (quarter_of (d + 1) ≡ q) ⊎ (quarter_of (d + 1) ≡ q + 1)
    by q is =
        let within = (quarter_holds q d (omega (arith, h))).0 is in
        elim (order (d + 1) (quarter_first q + days_in_quarter q)) [
          | inl before ↦ inl ((quarter_holds q (d + 1) (omega (arith, h))).1 (omega (arith, within.0), before))
          | inr from ↦
              let next = quarter_next q in
              let some = (quarter_days (q + 1)).0 in
              inr ((quarter_holds (q + 1) (d + 1) (omega (arith, h))).1 (omega (arith, next, from), omega (arith, next, some, within.1)))
        ]
      where
        order : (a b : ℕ) → (a < b) ⊎ (b ≤ a)
        order a b = elim (cases_order a b) [ inl same ↦ inr (omega (arith, same)) | inr (inl lt) ↦ inl lt | inr (inr gt) ↦ inr (omega (arith, gt)) ]

pub steps-quarters : (a k : ℕ) → a + k ≤ LAST_DAY → StepsUp quarter_of a k
steps-quarters a k end = λ h low high. quarter_step h (omega (arith, high, end))

pub steps-years : (a k : ℕ) → a + k ≤ LAST_DAY → StepsUp year_of a k
steps-years a k end = λ h low high. year_step h (omega (arith, high, end))

-- a later day is in no earlier quarter or year
module _ (first last : ℕ) (some : first ≤ last) (end : last ≤ LAST_DAY) where
  whole : first + (last - first) ≡ last
  whole = omega (arith, some)

  pub quarters-rise : quarter_of first ≤ quarter_of last
  quarters-rise = subst (λ d. quarter_of first ≤ quarter_of d) whole (rises quarter_of first (last - first) (steps-quarters first (last - first) (omega (arith, some, end))))

  pub years-rise : year_of first ≤ year_of last
  years-rise = subst (λ d. year_of first ≤ year_of d) whole (rises year_of first (last - first) (steps-years first (last - first) (omega (arith, some, end))))

-- ---- quarters lie in the profile

behind_last : quarter_first QUARTERS ≡ LAST_DAY + 1
unfolding days_of_years days_of_months
behind_last = refl

pub ends-in_profile : (q : ℕ) → q < QUARTERS → quarter_end q ≤ LAST_DAY + 1
ends-in_profile q few =
    let whole : q + 1 + (QUARTERS - (q + 1)) ≡ QUARTERS = omega (arith, few) in
    let up : quarter_first (q + 1) ≤ quarter_first QUARTERS
    = subst (λ m. quarter_first (q + 1) ≤ quarter_first m) whole (starts-rise quarter_first days_in_quarter quarter_next (q + 1) (QUARTERS - (q + 1))) in
    most (quarter_end q) (quarter_first (q + 1)) (quarter_first QUARTERS) (sym (quarter_next q)) up behind_last
  where
    most : (a b c : ℕ) → a ≡ b → b ≤ c → c ≡ LAST_DAY + 1 → a ≤ LAST_DAY + 1
    most a b c same up last = omega (arith, same, up, last)

-- a quarter ends no earlier than an earlier one starts
pub some_days : (first last : ℕ) → first ≤ last → quarter_first first + 1 ≤ quarter_end last
some_days first last some =
    let whole : first + (last - first) ≡ last = omega (arith, some) in
    let up : quarter_first first ≤ quarter_first last
    = subst (λ m. quarter_first first ≤ quarter_first m) whole (starts-rise quarter_first days_in_quarter quarter_next first (last - first)) in
    more (quarter_first first) (quarter_first last) (days_in_quarter last) up (quarter_days last).0
  where
    more : (a b d : ℕ) → a ≤ b → 90 ≤ d → a + 1 ≤ b + d
    more a b d up many = omega (arith, up, many)

-- ---- the greatest quarter and year

pub last_quarter : (day : ℕ) → day ≤ LAST_DAY → quarter_of day ≤ QUARTERS - 1
last_quarter day h =
    let is = date_is day h in
    omega (arith, is.year_low, is.year_high, is.month_low, is.month_high)

pub last_year : (day : ℕ) → day ≤ LAST_DAY → year_of day ≤ 65535
last_year day h = let high = (date_is day h).year_high in omega (arith, high)
