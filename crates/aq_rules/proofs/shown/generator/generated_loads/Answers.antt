use Rattle.std.proofs.Common.{refl, ◌≡◌, ◌<◌, ◌+◌, ◌*◌, Bool, true, false, ◌||◌, nat_lt, cond, arith, ℕ, List, ◌∷◌, take, drop, Some, ap, ◌∙◌, append-nil}
use Rattle.std.specs.Fmt.{digits}
use Rattle.aq_base.specs.Calendar.{days_of_years, days_of_months, year_of, month_of, year_first, hour_number}
use Rattle.aq_base.specs.Decimal.{last_digits}
use Rattle.aq_rules.specs.Lines.Canonical.{office_texts, rd_texts}
use Rattle.aq_rules.specs.Shown.Generator.{generated_years, office_load, wanted_in, samples_from, generate, Wanted, wanted_hour, simulation}
use Rattle.aq_rules.specs.Ozone.OzoneYear.{days_of}
use Rattle.std.specs.Prelude.{Option, None, codes, option_map}
use Rattle.std.proofs.lemmas.Bool.Decides.{nat_tests}
use Rattle.aq_rules.proofs.shown.generator.generated_loads.Goals as goal

none_where : {X : Type 0} (a b : Bool) (x : Option X) → b ≡ true → cond (a || b) None x ≡ None
none_where true b x h = refl
none_where false true x h = refl
none_where false false x h = cc

no_load_zero : (start sites years : ℕ) → generate start sites years 0 ≡ None
unfolding generate
no_load_zero start sites years = refl

beyond : (start sites years load : ℕ) → 1 + sites * years < load → generate start sites years load ≡ None
unfolding generate
beyond start sites years load above =
    let t : nat_lt (1 + sites * years) load ≡ true = grind (arith, nat_tests) in none_where _ _ _ t

-- the first hour of a site and year
abbrev first : ℕ → ℕ → Wanted
first n year = wanted_hour n (hour_number (year_first year) 0)

abbrev Begins : ℕ → ℕ → Type 0
Begins n year = wanted_in n year ≡ first n year ∷ drop 1 (wanted_in n year)

begins : Begins 1 2021 × Begins 1 2022 × Begins 2 2021
unfolding days_of_years days_of wanted_in
begins = (refl, refl, refl)

abbrev second_line : List ℕ
second_line = codes "RD|I|99|001|0001|44201|1|1|007|000|20210101|00:00|0.041\n"

abbrev wrapped_line : List ℕ
wrapped_line = codes "RD|I|99|001|0001|44201|1|1|007|000|20210101|00:00|0.053\n"

abbrev year_line : List ℕ
year_line = codes "RD|I|99|001|0001|44201|1|1|007|000|20220101|00:00|0.072\n"

abbrev site_line : List ℕ
site_line = codes "RD|I|99|001|0002|44201|1|1|007|000|20210101|00:00|0.022\n"

-- the first line of a load that starts with a site and year
abbrev Writes : ℕ → ℕ → ℕ → List ℕ → Type 0
Writes start n year line = (ws : List Wanted) → take 56 (samples_from start (first n year ∷ ws)) ≡ line

writes : Writes 9 1 2021 second_line × Writes 1 1 2021 wrapped_line × Writes 4 1 2022 year_line × Writes 6 2 2021 site_line
unfolding days_of_years days_of_months year_of month_of last_digits digits rd_texts samples_from
writes = ((λ ws. refl), (λ ws. refl), (λ ws. refl), (λ ws. refl))

starts_with : (start n year : ℕ) (line : List ℕ) → Begins n year → Writes start n year line → Some (take 56 (samples_from start (wanted_in n year))) ≡ Some line
starts_with start n year line begin write =
    ap (λ (ws : List Wanted). Some (take 56 (samples_from start ws))) begin ∙ ap (λ (l : List ℕ). Some l) (write (drop 1 (wanted_in n year)))

abbrev Prints : ℕ → ℕ → ℕ → ℕ → List ℕ → Type 0
Prints start sites years load line = option_map (take 56) (generate start sites years load) ≡ Some line

first_lines : Prints 7 1 3 2 second_line × Prints 18446744073709551615 1 3 2 wrapped_line × Prints 1 2 3 3 year_line × Prints 1 2 3 5 site_line
unfolding generate
first_lines = (
  starts_with 9 1 2021 second_line begins.0 writes.0,
  starts_with 1 1 2021 wrapped_line begins.0 writes.1,
  starts_with 4 1 2022 year_line begins.1 writes.2,
  starts_with 6 2 2021 site_line begins.2 writes.3,
)

pub returns : goal.returns
unfolding simulation days_of_years days_of_months year_of month_of last_digits digits office_texts rd_texts generated_years office_load days_of wanted_in samples_from
returns c = record { loads = refl; office = refl; samples = refl; office_is_generated = refl; first = refl; null = refl; zero = no_load_zero; beyond = beyond; second = first_lines.0; wrapped = first_lines.1; year = first_lines.2; site = first_lines.3; last_hour = refl; fine = refl; coarse = refl; no_more = refl; simulation_prints_a_summary_and_six_reports = λ digest start sites. simp append-nil }
