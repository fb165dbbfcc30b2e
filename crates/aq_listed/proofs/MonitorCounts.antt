-- How many monitors of a pollutant a site has, counted by their POCs.
use Rattle.std.proofs.Common.{◌≡◌, ◌+◌, Bool, true, false, cond, ◌&&◌, ◌==◌, Some, None, List, [], ◌∷◌, length, refl, ap, sym, ◌∙◌, arith}
use Rattle.std.specs.Prelude.{nat_lt, count_by}
use Rattle.std.specs.List.{cons_option, list_all}
use Rattle.std.proofs.lemmas.Bool.{false≢true, and_parts}
use Rattle.std.proofs.lemmas.List.Sums.{sum_by-cons}
use Rattle.aq_base.specs.Site.{Site}
use Rattle.aq_base.specs.declared.monitor.Pollutant.{Pollutant}
use Rattle.aq_base.specs.declared.office.OfficeRecord.{OfficeRecord}
use Rattle.aq_base.specs.declared.office.OfficeRecord.TheVariants.{Monitor}
use Rattle.aq_rules.specs.Listed.Sites.{monitor_count}
use Rattle.aq_rules.specs.Office.Monitors.{is_same_site, is_same_pollutant}
use Rattle.aq_rules.specs.Office.Office.{IsOffice, Office, fits_records, is_same, parameter_number, registers, series_numbers}
use Rattle.aq_registry.specs.Registry.{office_with}
use Rattle.aq_registry.proofs.QuestionLemmas.{four_tests, same-parameters}
use Rattle.aq_series.proofs.SitePocs.{some_poc}
use Rattle.aq_series.specs.DayCells.{pocs_after}

same-series : (a b : Site) (p q : Pollutant) → (is_same_site a b && is_same_pollutant p q) ≡ is_same (series_numbers a p) (series_numbers b q)
same-series a b p q =
    ap (λ c. is_same_site a b && c) (same-parameters p q)
    ∙ four_tests (a.state == b.state) (a.county == b.county) (a.number == b.number) (parameter_number p == parameter_number q)

module _ (site : Site) (pollutant : Pollutant) where
  count-cons : (r : OfficeRecord) (records : List OfficeRecord) → count_by (registers site pollutant) (r ∷ records) ≡ cond (registers site pollutant r) 1 0 + count_by (registers site pollutant) records
  count-cons r records = sum_by-cons (λ x. cond (registers site pollutant x) 1 0) r records

  counted : (office : Office) (records : List OfficeRecord) → list_all (fits_records office) records ≡ true → length (pocs_after records site pollutant 0) ≡ count_by (registers site pollutant) records
  counted office [] fits = refl
  counted office (Monitor id duration eligible ∷ records) fits =
      choose (is_same_site id.site site && is_same_pollutant id.pollutant pollutant) (nat_lt 0 id.poc) (some_poc id duration eligible office parts.0) (counted office records parts.1)
      ∙ ap (λ b. cond b 1 0 + count_by (registers site pollutant) records) (same-series id.site site id.pollutant pollutant)
      ∙ sym (count-cons (Monitor id duration eligible) records)
    where
      parts : (fits_records office (Monitor id duration eligible) ≡ true) × (list_all (fits_records office) records ≡ true)
      parts = and_parts _ _ fits

      choose : (a b : Bool) → b ≡ true → length (pocs_after records site pollutant 0) ≡ count_by (registers site pollutant) records
          → length (cons_option (cond (a && b) (Some id.poc) None) (pocs_after records site pollutant 0)) ≡ cond a 1 0 + count_by (registers site pollutant) records
      choose true true some rest = omega (arith, rest)
      choose true false some rest = absurd (false≢true some)
      choose false b some rest = omega (arith, rest)
  counted office (r ∷ records) fits = omega (arith, counted office records (and_parts _ _ fits).1, count-cons r records)

pub pocs-counted : (records : List OfficeRecord) (site : Site) (pollutant : Pollutant) → IsOffice (office_with records) → length (pocs_after records site pollutant 0) ≡ monitor_count (office_with records) site pollutant
unfolding monitor_count
pocs-counted records site pollutant valid = counted site pollutant (office_with records) records valid.records_fit
