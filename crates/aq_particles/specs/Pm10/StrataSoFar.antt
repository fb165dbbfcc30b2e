-- A quarter's days cut into strata, one day after the other, and the totals of the strata.
use Rattle.std.specs.Prelude.{◌≡◌, ℕ, ◌+◌, ◌*◌, ◌≤◌, Bool, ◌||◌, ◌==◌, if◌then◌else◌, List, [], ◌∷◌, ◌++◌, length, sum_by, count_by, Option, ℤ}
use Rattle.std.specs.Option.{option_to_list}
use Rattle.aq_rules.specs.Particles.Pm10Estimate.{exceeds, sampled_strata, sixtieths_of}
use Rattle.aq_particles.specs.declared.pm10.strata.Stratum.{Stratum}
use Rattle.aq_particles.specs.declared.pm10.strata.Totals.{Totals}
use Rattle.aq_particles.specs.declared.pm10.strata.Strata.{Strata}

-- the samples of the strata that have ended, and the first day and the samples of the one that goes on
pub record StrataCut : Type 0 where
  pub ended : List (List ℤ)
  pub first : ℕ
  pub samples : List ℤ

abbrev pub no_strata : ℕ → StrataCut
no_strata first = record { ended = []; first = first; samples = [] }

abbrev pub with_sample : Option ℤ → List ℤ → List ℤ
with_sample sample values = values ++ option_to_list sample

-- with one more day, which begins a stratum or goes into the last one
abbrev pub with_day : Bool → Option ℤ → ℕ → StrataCut → StrataCut
with_day is_scheduled sample day cut =
    if is_scheduled || (day == cut.first + 6)
    then record { ended = cut.ended ++ cut.samples ∷ []; first = day; samples = with_sample sample [] }
    else record { ended = cut.ended; first = cut.first; samples = with_sample sample cut.samples }

abbrev pub all_ended : StrataCut → List (List ℤ)
all_ended cut = cut.ended ++ cut.samples ∷ []

-- ---- what the program keeps of them

pub record IsStratumOf (values : List ℤ) (stratum : Stratum) : Type 0 where
  pub samples : stratum.samples ≡ length values
  pub exceedances : stratum.exceedances ≡ count_by exceeds values

pub record AreTotalsOf (strata : List (List ℤ)) (totals : Totals) : Type 0 where
  pub strata_with_samples : totals.strata ≡ length (sampled_strata strata)
  pub samples : totals.samples ≡ sum_by length strata
  pub exceedances : totals.exceedances ≡ sum_by (count_by exceeds) strata
  pub sixtieths : totals.sixtieths ≡ sum_by sixtieths_of (sampled_strata strata)

pub record AreStrataOf (cut : StrataCut) (strata : Strata) : Type 0 where
  pub ended : AreTotalsOf cut.ended strata.ended
  pub first : strata.first ≡ cut.first
  pub last_stratum : IsStratumOf cut.samples strata.last

-- ---- what holds of them always

abbrev pub IsStratum : Stratum → Type 0
IsStratum stratum = stratum.exceedances ≤ stratum.samples

pub record AreTotals (totals : Totals) : Type 0 where
  pub strata : totals.strata ≤ totals.samples
  pub exceedances : totals.exceedances ≤ totals.samples
  pub sixtieths : totals.sixtieths ≤ 60 * totals.strata

pub record IsStrata (strata : Strata) : Type 0 where
  pub ended : AreTotals strata.ended
  pub last_stratum : IsStratum strata.last

abbrev pub samples_in : Strata → ℕ
samples_in strata = strata.ended.samples + strata.last.samples
