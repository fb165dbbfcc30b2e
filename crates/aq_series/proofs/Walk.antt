-- What the rows of observations give for a site's hour is what its registered POCs give, one after another.
use Rattle.std.proofs.Common.{◌≡◌, ℕ, Bool, true, false, cond, ◌&&◌, ◌||◌, ◌==◌, Some, None, Option, List, refl, ap, sym, ◌∙◌, arith}
use Rattle.std.specs.Prelude.{ℤ, nat_lt, option_map, IsTrue}
use Rattle.std.specs.List.{list_any}
use Rattle.std.specs.Option.{option_and_then}
use Rattle.std.proofs.lemmas.Bool.{false≢true}
use Rattle.std.proofs.lemmas.Bool.Decides.{nat_tests}
use Rattle.aq_base.specs.Site.{Site}
use Rattle.aq_base.specs.declared.monitor.Pollutant.TheVariants.{Ozone}
use Rattle.aq_base.specs.declared.observation.ObsKey.{ObsKey}
use Rattle.aq_base.specs.declared.observation.Observation.{Observation}
use Rattle.aq_base.specs.declared.office.OfficeRecord.{OfficeRecord}
use Rattle.aq_rules.specs.Office.Exclusion.{excluded}
use Rattle.aq_rules.specs.Office.Monitors.{is_same_site, is_same_pollutant, is_eligible}
use Rattle.aq_rules.specs.Office.Office.{IsOffice, comes_before, content_of, is_same, observation_numbers, observation_rank, rises, row_at}
use Rattle.aq_rules.specs.Office.Sameness.{same_site, same_pollutant, number_itself, site_itself}
use Rattle.aq_rules.specs.Ozone.SiteHour.{Cell, Sample, is_ozone_at, sample_of, samples_at}
use Rattle.aq_registry.specs.Registry.{office_with}
use Rattle.aq_series.specs.OfficeView.{office_of}
use Rattle.aq_series.specs.Samples.{cell_at, cell_of, ozone_key, pocs_above, sample_at, samples_above}
use Rattle.aq_series.proofs.Rising.{found, found-ranked, found-under, rising-ranked, rising-under, same_list, same_number, not_below_itself, row_at-is}
use Rattle.aq_series.proofs.Spans.{Entry, as_cell, key_there}
use Rattle.aq_series.proofs.Pocs.{pocs-rise, eligible_there}

abbrev as_sample : ℕ → Cell → Sample
as_sample poc cell = record { poc = poc; cell = cell }

module _ (records : List OfficeRecord) (rows : List Entry) (site : Site) (hour : ℕ) where
  abbrev give : Entry → Option Sample
  give = sample_of (office_of records rows) site hour

  abbrev numbers : ℕ → List ℕ
  numbers poc = observation_numbers (ozone_key site hour poc)

  -- ---- one row

  tested : (a b c : Bool) → ((a && b) && c) ≡ true → (a ≡ true) × (b ≡ true) × (c ≡ true)
  tested true true true h = (refl, refl, refl)
  tested true true false h = cc
  tested true false c h = cc
  tested false b c h = cc

  key_is : (key : ObsKey) → is_ozone_at site hour key ≡ true → key ≡ ozone_key site hour key.monitor.poc
  key_is key h =
      let parts = tested (is_same_pollutant key.monitor.pollutant Ozone) (is_same_site key.monitor.site site) (key.hour == hour) h in
      let of = same_pollutant key.monitor.pollutant Ozone parts.0 in
      let at = same_site key.monitor.site site parts.1 in
      let when = same_number key.hour hour parts.2 in
      λ i. record { monitor = record { site = at i; pollutant = of i; poc = key.monitor.poc }; hour = when i }

  given : (row : Entry) (s : Sample) → give row ≡ Some s → (is_ozone_at site hour row.0 ≡ true) × (row.0.monitor.poc ≡ s.poc)
  given row s h = by_tests (is_ozone_at site hour row.0) refl (is_eligible records row.0.monitor) row.1.value h
    where
      by_tests : (a : Bool) → is_ozone_at site hour row.0 ≡ a → (b : Bool) → (v : Option ℤ)
          → cond (a && b) (option_map (λ (value : ℤ). as_sample row.0.monitor.poc (as_cell value (excluded records row.0 row.1.quals))) v) None ≡ Some s
          → (is_ozone_at site hour row.0 ≡ true) × (row.0.monitor.poc ≡ s.poc)
      by_tests true is true (Some v) h = let poc : row.0.monitor.poc ≡ s.poc = cc in (is, poc)
      by_tests true is true None h = cc
      by_tests true is false v h = cc
      by_tests false is b v h = cc

  ranked : (row : Entry) (s : Sample) → give row ≡ Some s → observation_rank row ≡ numbers s.poc
  ranked row s h =
      let parts = given row s h in
      ap observation_numbers (key_is row.0 parts.0) ∙ ap numbers parts.1

  last_decides : (s t h : ℕ) → (nat_lt s t || ((s == t) && (nat_lt h h || ((h == h) && false)))) ≡ nat_lt s t
  last_decides s t h = grind (arith, nat_tests)

  before_poc : (s t : ℕ) → comes_before (numbers s) (numbers t) ≡ nat_lt s t
  before_poc s t =
      rw (number_itself site.state, number_itself site.county, number_itself site.number, not_below_itself site.state, not_below_itself site.county, not_below_itself site.number)
      (last_decides s t hour)

  and_same : (b h : Bool) → h ≡ true → (b && (h && true)) ≡ b
  and_same true h is = ap (λ c. c && true) is
  and_same false h is = refl

  same_poc : (s t : ℕ) → is_same (numbers s) (numbers t) ≡ (s == t)
  same_poc s t =
      rw (number_itself site.state, number_itself site.county, number_itself site.number) (and_same (s == t) (hour == hour) (number_itself hour))

  -- ---- the row of a key

  there_ozone : (key : ObsKey) (poc : ℕ) → is_same (observation_numbers key) (numbers poc) ≡ true → (is_ozone_at site hour key ≡ true) × (key ≡ ozone_key site hour poc)
  there_ozone key poc same =
      let is = (key_there (ozone_key site hour poc).monitor key hour same).1 in
      (ap (is_ozone_at site hour) is ∙ (λ i. site_itself site i && number_itself hour i), is)

  gives : (key : ObsKey) (content : Observation) (poc : ℕ) → is_ozone_at site hour key ≡ true → key ≡ ozone_key site hour poc
      → give (key, content) ≡ option_map (λ (cell : Cell). as_sample poc cell) (cond (is_eligible records (ozone_key site hour poc).monitor) (cell_of records (ozone_key site hour poc) content) None)
  gives key content poc there is =
      (λ i. cond (there i && is_eligible records (is i).monitor) (option_map (λ (value : ℤ). as_sample (is i).monitor.poc (as_cell value (excluded records (is i) content.quals))) content.value) None)
      ∙ by_cases (is_eligible records (ozone_key site hour poc).monitor) content.value
    where
      by_cases : (b : Bool) (v : Option ℤ)
          → cond b (option_map (λ (value : ℤ). as_sample poc (as_cell value (excluded records (ozone_key site hour poc) content.quals))) v) None
          ≡ option_map (λ (cell : Cell). as_sample poc cell) (cond b (option_map (λ (value : ℤ). as_cell value (excluded records (ozone_key site hour poc) content.quals)) v) None)
      by_cases true None = refl
      by_cases true (Some v) = refl
      by_cases false v = refl

  none_there : (b : Bool) (poc : ℕ) → None ≡ option_map (λ (cell : Cell). as_sample poc cell) (cond b None None)
  none_there true poc = refl
  none_there false poc = refl

  row_gives : (poc : ℕ) (o : Option Entry) → ((row : Entry) → o ≡ Some row → is_same (observation_rank row) (numbers poc) ≡ true)
      → option_and_then give o ≡ option_map (λ (cell : Cell). as_sample poc cell) (cond (is_eligible records (ozone_key site hour poc).monitor) (option_and_then (cell_of records (ozone_key site hour poc)) (option_map content_of o)) None)
  row_gives poc None there = none_there (is_eligible records (ozone_key site hour poc).monitor) poc
  row_gives poc (Some row) there =
      let parts = there_ozone row.0 poc (there row refl) in
      gives row.0 row.1 poc parts.0 parts.1

  -- ---- all of them

  module _ (valid : IsOffice (office_with records)) (rising : IsTrue (rises observation_rank rows)) where
    found_in_rows : (poc : ℕ) → found (λ (s : Sample). s.poc) poc (samples_at (office_of records rows) site hour) ≡ sample_at records rows site hour poc
    found_in_rows poc =
        found-ranked observation_rank numbers (λ (s : Sample). s.poc) give ranked same_poc poc rows rising
        ∙ row_gives poc (row_at observation_rank (numbers poc) rows) (row_at-is observation_rank (numbers poc) rows)

    numbered : (poc : ℕ) (s : Sample) → sample_at records rows site hour poc ≡ Some s → s.poc ≡ poc
    numbered poc s h = by_cell (cell_at records rows (ozone_key site hour poc)) h
      where
        by_cell : (o : Option Cell) → option_map (λ (cell : Cell). as_sample poc cell) o ≡ Some s → s.poc ≡ poc
        by_cell None h = cc
        by_cell (Some cell) h = let is : poc ≡ s.poc = cc in sym is

    found_in_pocs : (poc : ℕ) → found (λ (s : Sample). s.poc) poc (samples_above records rows site hour 0) ≡ sample_at records rows site hour poc
    found_in_pocs poc =
        found-under (λ (s : Sample). s.poc) (sample_at records rows site hour) numbered poc (pocs_above records site 0)
        ∙ by_test (is_eligible records (ozone_key site hour poc).monitor) refl (list_any (λ q. q == poc) (pocs_above records site 0)) refl
      where
        by_test : (e : Bool) → is_eligible records (ozone_key site hour poc).monitor ≡ e → (b : Bool) → list_any (λ q. q == poc) (pocs_above records site 0) ≡ b
            → cond b (sample_at records rows site hour poc) None ≡ sample_at records rows site hour poc
        by_test e eligible true there = refl
        by_test true eligible false absent = absurd (false≢true (sym absent ∙ eligible_there site poc records valid eligible))
        by_test false eligible false absent =
            sym (ap (λ b. option_map (λ (cell : Cell). as_sample poc cell) (cond b (option_and_then (cell_of records (ozone_key site hour poc)) (option_map content_of (row_at observation_rank (numbers poc) rows))) None)) eligible)

    pub samples-are : samples_at (office_of records rows) site hour ≡ samples_above records rows site hour 0
    samples-are =
        same_list (λ (s : Sample). s.poc) (samples_at (office_of records rows) site hour) (samples_above records rows site hour 0)
        (rising-ranked observation_rank numbers (λ (s : Sample). s.poc) give ranked before_poc rows rising)
        (rising-under (λ (s : Sample). s.poc) (sample_at records rows site hour) numbered (pocs_above records site 0) (pocs-rise site records 0 valid.keys_rise.records))
        (λ n. found_in_rows n ∙ sym (found_in_pocs n))
