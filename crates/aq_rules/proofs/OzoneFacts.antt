-- What is kept of an ozone year keeps its facts.
use Rattle.std.proofs.Common.{◌≡◌, ℕ, ◌+◌, ◌/◌, ◌%◌, ◌<◌, ◌≤◌, Bool, true, false, not, ◌&&◌, cond, List, [], ◌∷◌, length, map, refl, subst, ◌∙◌, arith}
use Rattle.std.specs.Prelude.{ℤ, pos, negsuc, ◌≤ℤ◌, int_le, Option, Some, None, is_some, option_map, IsTrue, ⊤, ◌==◌, slice_get, nat_le, unwrap_or}
use Rattle.std.specs.List.{filter, filter_map, cons_option, find, list_all, count_by, range_with_len}
use Rattle.std.proofs.lemmas.Int.{ints}
use Rattle.std.proofs.lemmas.List.{length-map}
use Rattle.std.proofs.lemmas.List.FromFn.{length-range_with_len}
use Rattle.std.proofs.lemmas.List.Sums.{count_by-le-length}
use Rattle.std.proofs.lemmas.Bool.Decides.{nat_tests}
use Rattle.std.proofs.Math.Nat.{div-le_of_le-mul}
use Rattle.std.proofs.lemmas.Bool.{and_parts, eqb-true, leb-true}
use Rattle.aq_base.specs.Calendar.{year_first, days_in_year, year_of, is_year, day_of_hour}
use Rattle.aq_base.specs.Decimal.{truncated}
use Rattle.aq_base.specs.Site.{Site}
use Rattle.aq_base.specs.declared.code.Code.{Code}
use Rattle.aq_base.specs.declared.day.TheConstants.{LAST_DAY}
use Rattle.aq_base.specs.declared.monitor.Pollutant.{Pollutant}
use Rattle.aq_base.specs.declared.monitor.Pollutant.TheVariants.{Ozone}
use Rattle.aq_base.specs.declared.observation.ObsKey.{ObsKey}
use Rattle.aq_base.specs.declared.observation.Observation.{Observation}
use Rattle.aq_base.specs.declared.office.OfficeRecord.{OfficeRecord}
use Rattle.aq_base.specs.declared.office.OfficeRecord.TheVariants.{Monitor, Primary, Schedule, Season as SeasonRecord, Makeup, Event, Concurrence, Approved, Combined}
use Rattle.aq_rules.specs.Lines.Spellings.{is_in_range}
use Rattle.aq_rules.specs.Lines.OfficeForms.{is_season}
use Rattle.aq_rules.specs.Office.Office.{Office, IsOffice, is_site, is_day, is_record, fits_records, is_measured, fits_monitors}
use Rattle.aq_rules.specs.Lists.{total, ranked}
use Rattle.aq_rules.specs.Office.Monitors.{is_same_site, is_same_pollutant, is_eligible}
use Rattle.aq_rules.specs.Office.Exclusion.{excluded}
use Rattle.aq_rules.specs.Office.Designation.{primary_on}
use Rattle.aq_rules.specs.Office.Season.{Season, season_by, whole_year, season_of, is_in_season}
use Rattle.aq_rules.specs.Ozone.SiteHour.{Cell, Sample, sample_of, samples_at, is_of_poc, site_hour}
use Rattle.aq_rules.specs.Ozone.EightHour.{average, eight_hours, cells_from, full_values, net_values, window}
use Rattle.aq_rules.specs.Ozone.OzoneDay.{OzoneDay, starts_of, windows, net_averages, ozone_day}
use Rattle.aq_rules.specs.Ozone.OzoneYear.{days_of, ozone_days, ranked_maximum, is_season_day, counts_as_valid, ozone_year}
use Rattle.aq_rules.specs.Kept.Summaries.{is_value, KeepsOzoneYear}
use Rattle.aq_rules.proofs.Elements.{Every}
use Rattle.aq_rules.specs.Office.Sameness.{same_pollutant}
use Rattle.aq_rules.proofs.Descent.{length-ranked}
use Rattle.aq_rules.proofs.Spans.{in_span}
use Rattle.aq_rules.proofs.Pm10Facts.{count-implied, length-kept}
use Rattle.aq_rules.proofs.Pm25Counts.{is_record-of}
use Rattle.aq_rules.proofs.Pm25Range.{measured-of, measured-in_range}
use Rattle.aq_rules.proofs.ValueRange.{InRangeTo, SumTo, IfValueTo, CellTo, IfCellTo, SampleTo, IfSampleTo, from_test, to_test, total-between, trunc-in_range, value-onto, greatest-in_range, every-ranked, at-in_range, cell-onto, found-in_range, chosen-in_range}

-- the greatest value that a line can state
abbrev top : ℕ
top = 9999

abbrev pub InRange : ℤ → Type 0
InRange = InRangeTo top

abbrev Between : ℕ → ℤ → Type 0
Between = SumTo top

abbrev IfValue : Option ℤ → Type 0
IfValue = IfValueTo top

abbrev pub CellIn : Cell → Type 0
CellIn = CellTo top

abbrev IfCell : Option Cell → Type 0
IfCell = IfCellTo top

abbrev SampleIn : Sample → Type 0
SampleIn = SampleTo top

abbrev IfSample : Option Sample → Type 0
IfSample = IfSampleTo top

-- ---- values of ozone

eighth-in_range : (t : ℤ) (n : ℕ) → n ≤ 5 → pos 568 ≤ℤ t → Between n t → InRange (truncated t (pos 8))
eighth-in_range (pos a) n few high h =
    let q : a / 8 ≤ 9999 = div-le_of_le-mul 8 (omega (arith, ints, h.1)) in
    (omega (arith, ints), omega (arith, ints, q))
eighth-in_range (negsuc a) n few high h = absurd (omega (arith, ints, high))

pub average-in_range : (n : ℕ) (t : ℤ) → Between n t → IfValue (average n t)
average-in_range n t h = by_tests (nat_le 6 n) (int_le (pos 568) t) refl refl
  where
    by_tests : (a b : Bool) → nat_le 6 n ≡ a → int_le (pos 568) t ≡ b
        → IfValue (cond a (Some (truncated t (pos n))) (cond b (Some (truncated t (pos 8))) None))
    by_tests true b e f = let many : 6 ≤ n = grind (arith, nat_tests) in trunc-in_range top t n (omega arith) h
    by_tests false true e f =
        let few : n ≤ 5 = grind (arith, nat_tests) in
        let high : pos 568 ≤ℤ t = grind (arith, ints) in
        eighth-in_range t n few high h
    by_tests false false e f = tt

-- ---- hours

of_value : (poc : ℕ) (out : Bool) (pollutant : Pollutant) (value : Option ℤ) (null : Option Code) → pollutant ≡ Ozone → is_measured pollutant value null ≡ true
    → IfSample (option_map (λ v. record { poc = poc; cell = record { value = v; excluded = out } }) value)
of_value poc out pollutant None null is h = tt
of_value poc out pollutant (Some v) null is h =
    let P : Pollutant → Type 0 = λ p. is_in_range p v ≡ true in
    from_test top v (subst P is (measured-in_range pollutant v null h))

sample-in_range : (office : Office) (site : Site) (hour : ℕ) (entry : ObsKey × Observation) → fits_monitors office entry ≡ true → IfSample (sample_of office site hour entry)
sample-in_range office site hour entry fits =
    by_test (is_same_pollutant entry.0.monitor.pollutant Ozone) (is_same_site entry.0.monitor.site site) (entry.0.hour == hour) (is_eligible office.records entry.0.monitor) refl
  where
    by_test : (a b c d : Bool) → is_same_pollutant entry.0.monitor.pollutant Ozone ≡ a
        → IfSample (cond (a && b && c && d) (option_map (λ value. record { poc = entry.0.monitor.poc; cell = record { value = value; excluded = excluded office.records entry.0 entry.1.quals } }) entry.1.value) None)
    by_test false b c d e = tt
    by_test true false c d e = tt
    by_test true true false d e = tt
    by_test true true true false e = tt
    by_test true true true true e =
        of_value entry.0.monitor.poc (excluded office.records entry.0 entry.1.quals) entry.0.monitor.pollutant entry.1.value entry.1.null (same_pollutant entry.0.monitor.pollutant Ozone e) (measured-of office entry fits)

sample-onto : (o : Option Sample) (samples : List Sample) → IfSample o → Every SampleIn samples → Every SampleIn (cons_option o samples)
sample-onto None samples h every = every
sample-onto (Some sample) samples h every = (h, every)

samples-in_range : (office : Office) (site : Site) (hour : ℕ) (entries : List (ObsKey × Observation)) → list_all (fits_monitors office) entries ≡ true
    → Every SampleIn (filter_map (sample_of office site hour) entries)
samples-in_range office site hour [] fits = tt
samples-in_range office site hour (entry ∷ entries) fits =
    let parts = and_parts (fits_monitors office entry) (list_all (fits_monitors office) entries) fits in
    sample-onto (sample_of office site hour entry) (filter_map (sample_of office site hour) entries) (sample-in_range office site hour entry parts.0) (samples-in_range office site hour entries parts.1)

site_hour-in_range : (office : Office) (site : Site) (hour : ℕ) → IsOffice office → IfCell (site_hour office site hour)
unfolding site_hour
site_hour-in_range office site hour valid =
    let every = samples-in_range office site hour office.observations valid.observations_fit in
    let p : Sample → Bool = is_of_poc (primary_on office.records site Ozone (day_of_hour hour)) in
    chosen-in_range top (find p (samples_at office site hour)) (samples_at office site hour) (found-in_range top p (samples_at office site hour) every) every

-- ---- averages and days

pub hours-in_range : (office : Office) (site : Site) (hours : List ℕ) → IsOffice office → Every CellIn (filter_map (site_hour office site) hours)
hours-in_range office site [] valid = tt
hours-in_range office site (hour ∷ hours) valid =
    cell-onto top (site_hour office site hour) (filter_map (site_hour office site) hours) (site_hour-in_range office site hour valid) (hours-in_range office site hours valid)

net-in_range : (cells : List Cell) → Every CellIn cells → Every InRange (net_values cells)
net-in_range [] every = tt
net-in_range (cell ∷ cells) every =
    elim (not cell.excluded) as (λ b. Every InRange (full_values (cond b (cell ∷ filter (λ (c : Cell). not c.excluded) cells) (filter (λ (c : Cell). not c.excluded) cells)))) [
      | true ↦ (every.0, net-in_range cells every.1)
      | false ↦ net-in_range cells every.1
    ]

pub window-in_range : (office : Office) (site : Site) (start : ℕ) → IsOffice office → IfValue (window office site start).net
unfolding window
window-in_range office site start valid =
    let values = net_values (cells_from office site start) in
    average-in_range (length values) (total values) (total-between top values (net-in_range (cells_from office site start) (hours-in_range office site (eight_hours start) valid)))

averages-in_range : (office : Office) (site : Site) (starts : List ℕ) → IsOffice office → Every InRange (net_averages (map (window office site) starts))
averages-in_range office site [] valid = tt
averages-in_range office site (start ∷ starts) valid =
    value-onto top (window office site start).net (net_averages (map (window office site) starts)) (window-in_range office site start valid) (averages-in_range office site starts valid)

pub day-in_range : (office : Office) (site : Site) (day : ℕ) → IsOffice office → IfValue (ozone_day office site day).maximum
unfolding ozone_day windows
day-in_range office site day valid = greatest-in_range top (net_averages (map (window office site) (starts_of day))) (averages-in_range office site (starts_of day) valid)

-- ---- the ranked maxima

maximum-in_range : (day : OzoneDay) → IfValue day.maximum → IfValue (ranked_maximum day)
maximum-in_range day h = elim day.valid as (λ b. IfValue (cond b day.maximum None)) [ true ↦ h | false ↦ tt ]

maxima-in_range : (office : Office) (site : Site) (days : List ℕ) → IsOffice office → Every InRange (filter_map ranked_maximum (map (ozone_day office site) days))
maxima-in_range office site [] valid = tt
maxima-in_range office site (day ∷ days) valid =
    value-onto top (ranked_maximum (ozone_day office site day)) (filter_map ranked_maximum (map (ozone_day office site) days))
    (maximum-in_range (ozone_day office site day) (day-in_range office site day valid)) (maxima-in_range office site days valid)

value_test : (o : Option ℤ) → IfValue o → IsTrue (is_value Ozone o)
value_test None h = refl
value_test (Some v) h = to_test top v h

fourth-there : (values : List ℤ) → is_some (slice_get values 3) ≡ nat_le 4 (length values)
fourth-there [] = refl
fourth-there (a ∷ []) = refl
fourth-there (a ∷ b ∷ []) = refl
fourth-there (a ∷ b ∷ c ∷ []) = refl
fourth-there (a ∷ b ∷ c ∷ d ∷ values) = grind (arith, nat_tests)

-- ---- the season

-- what the calendar's laws say of the days of a year
abbrev pub HoldsYear : ℕ → Type 0
HoldsYear year = (n : ℕ) → n ≤ LAST_DAY → year_of n ≡ year → (year_first year ≤ n) × (n < year_first year + days_in_year year)

-- the season begins on a day of its year
record Begins (year : ℕ) (season : Season) : Type 0 where
  low : year_first year ≤ season.first
  high : season.first < year_first year + days_in_year year
  rises : season.first ≤ season.last

abbrev IfBegins : ℕ → Option Season → Type 0
IfBegins year None = ⊤
IfBegins year (Some season) = Begins year season

module _ (site : Site) (year : ℕ) (holds : HoldsYear year) where
  season-begins : (r : OfficeRecord) → is_record r ≡ true → IfBegins year (season_by site year r)
  season-begins (SeasonRecord other y first last) is = by_test (is_same_site other site) (y == year) refl
    where
      by_test : (a b : Bool) → (y == year) ≡ b → IfBegins year (cond (a && b) (Some (record { first = first; last = last })) None)
      by_test false b e = tt
      by_test true false e = tt
      by_test true true e =
          let d = and_parts (is_site other && is_year y) (is_day first && is_day last && is_season y first last) is in
          let c = and_parts (is_day first && is_day last) (is_season y first last) d.1 in
          let b = and_parts (is_day first) (is_day last) c.0 in
          let s = and_parts _ (nat_le first last) c.1 in
          let t = and_parts (year_of first == y) (year_of last == y) s.0 in
          let span = holds first (leb-true first LAST_DAY b.0) (eqb-true (year_of first) y t.0 ∙ eqb-true y year e) in
          record { low = span.0; high = span.1; rises = leb-true first last s.1 }
  season-begins (Monitor id duration eligible) is = tt
  season-begins (Primary other pollutant from poc) is = tt
  season-begins (Schedule other pollutant from interval anchor) is = tt
  season-begins (Makeup other missed makeup) is = tt
  season-begins (Event number other pollutant first last code) is = tt
  season-begins (Concurrence number agreed) is = tt
  season-begins (Approved other day) is = tt
  season-begins (Combined other pollutant from joined) is = tt

  some_days : 1 ≤ days_in_year year
  some_days = elim (year % 4 == 0) as (λ b. 1 ≤ cond b 366 365) [ true ↦ omega arith | false ↦ omega arith ]

  whole-begins : Begins year (whole_year year)
  whole-begins = record { low = omega arith; high = omega (arith, some_days); rises = omega (arith, some_days) }

  first_by : (o : Option Season) (seasons : List Season) → IfBegins year o → Begins year (unwrap_or (slice_get seasons 0) (whole_year year))
      → Begins year (unwrap_or (slice_get (cons_option o seasons) 0) (whole_year year))
  first_by None seasons h rest = rest
  first_by (Some season) seasons h rest = h

  recorded-begins : (office : Office) (records : List OfficeRecord) → list_all (fits_records office) records ≡ true
      → Begins year (unwrap_or (slice_get (filter_map (season_by site year) records) 0) (whole_year year))
  recorded-begins office [] fits = whole-begins
  recorded-begins office (r ∷ records) fits =
      let parts = and_parts (fits_records office r) (list_all (fits_records office) records) fits in
      first_by (season_by site year r) (filter_map (season_by site year) records) (season-begins r (is_record-of site year office r parts.0)) (recorded-begins office records parts.1)

  season_of-begins : (office : Office) → IsOffice office → Begins year (season_of office.records site year)
  unfolding season_of
  season_of-begins office valid = recorded-begins office office.records valid.records_fit

in_season : (season : Season) (d e : ℕ) → season.first ≤ season.last → d ≡ season.first → (d == e) ≡ true → is_in_season season e ≡ true
in_season season d e rises is at =
    let here : d ≡ e = eqb-true d e at in
    let low : nat_le season.first e ≡ true = grind (arith, nat_tests) in
    let high : nat_le e season.last ≡ true = grind (arith, nat_tests) in
    rw (low, high) refl

season-some : (year : ℕ) (season : Season) → Begins year season → 1 ≤ count_by (is_in_season season) (range_with_len (year_first year) (days_in_year year))
season-some year season begins =
    let one = in_span (λ (n : ℕ). n) (year_first year) (days_in_year year) season.first begins.low begins.high in
    let more = count-implied (λ e. season.first == e) (is_in_season season) (λ e at. in_season season season.first e begins.rises refl at) (range_with_len (year_first year) (days_in_year year)) in
    omega (arith, one, more)

most_of_year : (year : ℕ) → days_in_year year ≤ 366
most_of_year year = elim (year % 4 == 0) as (λ b. cond b 366 365 ≤ 366) [ true ↦ omega arith | false ↦ omega arith ]

pub ozone_year-keeps : (office : Office) (site : Site) (year : ℕ) → IsOffice office → HoldsYear year → KeepsOzoneYear (ozone_year office site year)
unfolding ozone_year ozone_days days_of
ozone_year-keeps office site year valid holds =
    let D = range_with_len (year_first year) (days_in_year year) in
    let number : length D ≡ days_in_year year = length-range_with_len (year_first year) (days_in_year year) in
    let maxima = filter_map ranked_maximum (map (ozone_day office site) D) in
    let most = most_of_year year in
    let few : length maxima ≤ length D = omega (arith, length-kept ranked_maximum (map (ozone_day office site) D), length-map D (ozone_day office site)) in
    record {
      some_season = season-some year (season_of office.records site year) (season_of-begins site year holds office valid);
      season_days = omega (arith, count_by-le-length (is_season_day office site year) D, number, most);
      season_valid = count-implied (λ day. is_season_day office site year day && counts_as_valid office site day) (is_season_day office site year) (λ day h. (and_parts (is_season_day office site year day) (counts_as_valid office site day) h).0) D;
      ranked = omega (arith, few, length-ranked maxima, number, most);
      fourth = fourth-there (ranked maxima);
      fourth_in_range = value_test (slice_get (ranked maxima) 3) (at-in_range top (ranked maxima) 3 (every-ranked top maxima (maxima-in_range office site D valid)));
    }
