-- Where a day lies: in one quarter and one year of the profile, of few days.
use Rattle.std.proofs.Common.{◌≡◌, ℕ, ◌+◌, ◌%◌, ◌<◌, ◌≤◌, true, false, cond, refl, sym, arith}
use Rattle.std.specs.Prelude.{◌==◌, nat_le}
use Rattle.std.proofs.lemmas.Bool.{and_parts, leb-true}
use Rattle.aq_base.specs.Calendar.{days_in_quarter, days_in_year, quarter_first, quarter_of, quarter_year, year_first, year_of}
use Rattle.aq_base.specs.declared.day.TheConstants.{FIRST_YEAR, LAST_DAY, LAST_YEAR}
use Rattle.aq_cal.proofs.Within.{quarter_holds, year_holds}
use Rattle.aq_dirty.proofs.OutOfReachLemmas.DaysOfQuarters.{quarter_of-is_year}
use Rattle.aq_rules.proofs.Days.{in_year}
use Rattle.aq_rules.proofs.Pm10Facts.{quarter_days}
use Rattle.aq_particle_cells.specs.Days.Spans.{IsQuarter, IsYear}

module _ (day : ℕ) (in_profile : day ≤ LAST_DAY) where
  pub its-quarter : IsQuarter (quarter_of day)
  its-quarter =
      let last : quarter_year (quarter_of day) ≤ LAST_YEAR = leb-true (quarter_year (quarter_of day)) LAST_YEAR
      (and_parts (nat_le FIRST_YEAR (quarter_year (quarter_of day))) (nat_le (quarter_year (quarter_of day)) LAST_YEAR) (quarter_of-is_year day in_profile)).1 in
      omega (arith, last)

  pub in-quarter : (quarter_first (quarter_of day) ≤ day) × (day < quarter_first (quarter_of day) + days_in_quarter (quarter_of day))
  in-quarter = (quarter_holds (quarter_of day) day in_profile).0 refl

  pub alone-quarter : (number : ℕ) → IsQuarter number → quarter_first number ≤ day → day < quarter_first number + days_in_quarter number → number ≡ quarter_of day
  alone-quarter number ranged low high = sym ((quarter_holds number day in_profile).1 (low, high))

  pub its-year : IsYear (year_of day)
  its-year = let it = in_year day in_profile in (omega (arith, it.year), omega (arith, it.year, it.few))

  pub in-year : (year_first (year_of day) ≤ day) × (day < year_first (year_of day) + days_in_year (year_of day))
  in-year = (year_holds (year_of day) day its-year.0 in_profile).0 refl

  pub alone-year : (number : ℕ) → IsYear number → year_first number ≤ day → day < year_first number + days_in_year number → number ≡ year_of day
  alone-year number ranged low high = sym ((year_holds number day ranged.0 in_profile).1 (low, high))

pub few-quarter : (quarter : ℕ) → days_in_quarter quarter ≤ 366
few-quarter quarter = let most = (quarter_days quarter).1 in omega (arith, most)

pub few-year : (year : ℕ) → days_in_year year ≤ 366
few-year year = elim (year % 4 == 0) as (λ b. cond b 366 365 ≤ 366) [ true ↦ omega arith | false ↦ omega arith ]
