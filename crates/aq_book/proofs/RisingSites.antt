-- A monitor of a site as the records are asked for one, and the registered sites with a monitor, one after another.
use Rattle.std.proofs.Common.{◌≡◌, Bool, true, false, cond, ◌&&◌, ◌||◌, ◌==◌, ◌≤◌, length, Option, Some, None, is_some, List, [], ◌∷◌, refl, ap, sym, ◌∙◌, arith}
use Rattle.std.specs.Prelude.{nat_lt, filter, filter_map, slice_get}
use Rattle.std.specs.List.{cons_option, list_all, list_any}
use Rattle.std.proofs.lemmas.Bool.{false≢true, and_parts}
use Rattle.aq_base.specs.Site.{Site}
use Rattle.aq_base.specs.declared.monitor.Pollutant.{Pollutant}
use Rattle.aq_base.specs.declared.monitor.Pollutant.TheVariants.{Ozone, Pm25, Pm10}
use Rattle.aq_base.specs.declared.office.OfficeRecord.{OfficeRecord}
use Rattle.aq_base.specs.declared.office.OfficeRecord.TheVariants.{Monitor}
use Rattle.aq_rules.specs.Office.Monitors.{is_same_site, is_same_pollutant}
use Rattle.aq_rules.specs.Office.Office.{Office, IsOffice, fits_records, has_monitor, is_same, parameter_number, registers, series_numbers, site_numbers, sites_of}
use Rattle.aq_rules.specs.Office.Questions.{first_given, next_poc, next_site, poc_above}
use Rattle.aq_rules.specs.Limits.{MOST_SITES}
use Rattle.aq_rules.specs.Shown.OtherSheets.{rising_sites, sites_with}
use Rattle.aq_rules.proofs.Pm10Facts.{length-filter-le}
use Rattle.aq_rules.proofs.RowsPlaced.{length-with_row}
use Rattle.aq_series.proofs.SitePocs.{some_poc}
use Rattle.aq_series.proofs.SiteWalk.{sites-all, sites-end, sites-next, sites_above}

-- ---- a monitor of the site

same-parameter : (a b : Pollutant) → (parameter_number a == parameter_number b) ≡ is_same_pollutant a b
same-parameter Ozone Ozone = refl
same-parameter Ozone Pm25 = refl
same-parameter Ozone Pm10 = refl
same-parameter Pm25 Ozone = refl
same-parameter Pm25 Pm25 = refl
same-parameter Pm25 Pm10 = refl
same-parameter Pm10 Ozone = refl
same-parameter Pm10 Pm25 = refl
same-parameter Pm10 Pm10 = refl

four-tests : (a b c d : Bool) → (a && (b && (c && (d && true)))) ≡ (((a && b) && c) && d)
four-tests true true true true = refl
four-tests true true true false = refl
four-tests true true false d = refl
four-tests true false c d = refl
four-tests false b c d = refl

same-series : (a b : Site) (p q : Pollutant) → is_same (series_numbers a p) (series_numbers b q) ≡ (is_same_site a b && is_same_pollutant p q)
same-series a b p q =
    four-tests (a.state == b.state) (a.county == b.county) (a.number == b.number) (parameter_number p == parameter_number q)
    ∙ ap (λ c. is_same_site a b && c) (same-parameter p q)

module _ (site : Site) (pollutant : Pollutant) (office : Office) where
  first-poc : (records : List OfficeRecord) → list_all (fits_records office) records ≡ true
      → is_some (first_given (poc_above site pollutant 0) records) ≡ list_any (registers site pollutant) records
  first-poc [] fits = refl
  first-poc (Monitor id duration eligible ∷ records) fits =
      choose (is_same_site id.site site && is_same_pollutant id.pollutant pollutant) (nat_lt 0 id.poc) (some_poc id duration eligible office parts.0) (first-poc records parts.1)
      ∙ ap (λ b. b || list_any (registers site pollutant) records) (sym (same-series id.site site id.pollutant pollutant))
    where
      parts : (fits_records office (Monitor id duration eligible) ≡ true) × (list_all (fits_records office) records ≡ true)
      parts = and_parts _ _ fits

      choose : (a b : Bool) → b ≡ true → is_some (first_given (poc_above site pollutant 0) records) ≡ list_any (registers site pollutant) records
          → is_some (slice_get (cons_option (cond (a && b) (Some id.poc) None) (filter_map (poc_above site pollutant 0) records)) 0) ≡ (a || list_any (registers site pollutant) records)
      choose true true some rest = refl
      choose true false some rest = absurd (false≢true some)
      choose false b some rest = rest
  first-poc (r ∷ records) fits = first-poc records (and_parts _ _ fits).1

pub monitor-there : (office : Office) (site : Site) (pollutant : Pollutant) → IsOffice office → is_some (next_poc office.records site pollutant 0) ≡ has_monitor office site pollutant
unfolding next_poc
monitor-there office site pollutant valid = first-poc site pollutant office office.records valid.records_fit

-- ---- those with a monitor

abbrev pub with_monitor : Office → Pollutant → List Site → List Site
with_monitor office pollutant sites = filter (λ site. has_monitor office site pollutant) sites

pub with_all : (office : Office) (pollutant : Pollutant) → with_monitor office pollutant (sites_above office.records None) ≡ sites_with office pollutant
unfolding sites_with
with_all office pollutant = ap (with_monitor office pollutant) (sites-all office.records)

pub with_next : (office : Office) (pollutant : Pollutant) (after : Option Site) (site : Site) → IsOffice office → next_site office.records after ≡ Some site → (there : Bool) → there ≡ has_monitor office site pollutant
    → with_monitor office pollutant (sites_above office.records after)
    ≡ cond there (site ∷ with_monitor office pollutant (sites_above office.records (Some site))) (with_monitor office pollutant (sites_above office.records (Some site)))
with_next office pollutant after site valid next there is =
    ap (with_monitor office pollutant) (sites-next office.records after site valid.keys_rise.records next)
    ∙ ap (λ b. cond b (site ∷ with_monitor office pollutant (sites_above office.records (Some site))) (with_monitor office pollutant (sites_above office.records (Some site)))) (sym is)

pub with_none : (office : Office) (pollutant : Pollutant) (after : Option Site) → IsOffice office → next_site office.records after ≡ None → with_monitor office pollutant (sites_above office.records after) ≡ []
with_none office pollutant after valid none = ap (with_monitor office pollutant) (sites-end office.records after valid.keys_rise.records none)

few-rising : (sites : List Site) → length (rising_sites sites) ≤ length sites
few-rising [] = omega arith
few-rising (site ∷ sites) = omega (arith, few-rising sites, length-with_row site_numbers site (rising_sites sites))

-- an office has few sites
pub few_with : (office : Office) (pollutant : Pollutant) → IsOffice office → length (sites_with office pollutant) ≤ MOST_SITES
unfolding sites_with
few_with office pollutant valid =
    omega (arith, length-filter-le (λ site. has_monitor office site pollutant) (rising_sites (sites_of office.records)), few-rising (sites_of office.records), valid.few_sites)
