-- The make-up records of a quarter, day by day of the missed days.
use Rattle.std.proofs.Common.{◌≡◌, ℕ, ◌+◌, ◌<◌, ◌≤◌, Bool, true, false, cond, ◌&&◌, ◌||◌, ◌==◌, Some, None, Option, List, [], ◌∷◌, refl, ap, sym, ◌∙◌, arith}
use Rattle.std.specs.Prelude.{nat_lt, nat_le, option_map, ◌↔◌}
use Rattle.std.specs.List.{filter_map, list_all, range_with_len}
use Rattle.std.specs.Option.{option_and_then}
use Rattle.std.proofs.lemmas.Bool.{false≢true, and_parts}
use Rattle.std.proofs.lemmas.Bool.Decides.{nat_tests}
use Rattle.aq_base.specs.Calendar.{quarter_of}
use Rattle.aq_base.specs.Site.{Site}
use Rattle.aq_base.specs.declared.day.TheConstants.{LAST_DAY}
use Rattle.aq_base.specs.declared.office.OfficeRecord.{OfficeRecord}
use Rattle.aq_base.specs.declared.office.OfficeRecord.TheVariants.{Makeup as MakeupRecord}
use Rattle.aq_base.specs.declared.office.OfficeKey.TheVariants.{Makeup as MakeupKey}
use Rattle.aq_rules.specs.Lines.OfficeForms.{is_makeup}
use Rattle.aq_rules.specs.Office.Monitors.{is_same_site}
use Rattle.aq_rules.specs.Office.Office.{IsOffice, Office, comes_before, fits_records, is_day, is_record, is_same, is_site, key_numbers, record_rank, row_at}
use Rattle.aq_rules.specs.Office.Questions.{makeup_of}
use Rattle.aq_rules.specs.Office.Sameness.{same_site, number_itself}
use Rattle.aq_rules.specs.Particles.QuarterCounts.{Makeup, makeup_by}
use Rattle.aq_rules.proofs.Pm25Counts.{is_record-of}
use Rattle.aq_registry.specs.Registry.{makeup_in, office_with}
use Rattle.aq_registry.proofs.QuestionLemmas.{makeup_found}
use Rattle.aq_particles.specs.Pm25.SiteDays.{as_makeup}
use Rattle.aq_series.proofs.MonitorDay.{in_range, rising_range}
use Rattle.aq_series.proofs.Rising.{found, found-given, found-under, rising-given, rising-under, same_list}

-- the row of a rank has it, and fits the office
row_fits : (office : Office) (key : List ℕ) (rs : List OfficeRecord) (r : OfficeRecord) → row_at record_rank key rs ≡ Some r → list_all (fits_records office) rs ≡ true
    → (is_same (record_rank r) key ≡ true) × (fits_records office r ≡ true)
row_fits office key [] r h fits = cc
row_fits office key (first ∷ rs) r h fits = by_test (row_fits office key rs r) (is_same (record_rank first) key) refl h
  where
    parts : (fits_records office first ≡ true) × (list_all (fits_records office) rs ≡ true)
    parts = and_parts (fits_records office first) (list_all (fits_records office) rs) fits

    by_test : (row_at record_rank key rs ≡ Some r → list_all (fits_records office) rs ≡ true → (is_same (record_rank r) key ≡ true) × (fits_records office r ≡ true))
        → (b : Bool) → is_same (record_rank first) key ≡ b → cond b (Some first) (row_at record_rank key rs) ≡ Some r → (is_same (record_rank r) key ≡ true) × (fits_records office r ≡ true)
    by_test rest true same h =
        let one : first ≡ r = cc in
        (ap (λ (k : OfficeRecord). is_same (record_rank k) key) (sym one) ∙ same, ap (fits_records office) (sym one) ∙ parts.0)
    by_test rest false other h = rest h parts.1

-- the days of the quarter, which the calendar's law says
abbrev pub HoldsSpan : ℕ → ℕ → ℕ → Type 0
HoldsSpan quarter first many = (day : ℕ) → day ≤ LAST_DAY → (quarter_of day ≡ quarter) ↔ ((first ≤ day) × (day < first + many))

module _ (records : List OfficeRecord) (site : Site) (quarter : ℕ) where
  -- the make-up of a missed day
  abbrev pub look : ℕ → Option Makeup
  look day = option_map (as_makeup day) (makeup_of records site day)

  abbrev day_key : ℕ → List ℕ
  day_key day = key_numbers (MakeupKey site day)

  -- ---- one record

  tested : (a b : Bool) (m s : Makeup) → cond (a && b) (Some m) None ≡ Some s → (a ≡ true) × (m ≡ s)
  tested true true m s h = (refl, cc)
  tested true false m s h = cc
  tested false b m s h = cc

  ranked : (r : OfficeRecord) (m : Makeup) → makeup_by site quarter r ≡ Some m → record_rank r ≡ day_key m.missed
  ranked (MakeupRecord other missed makeup) m h =
      let parts = tested (is_same_site other site) (quarter_of missed == quarter) (as_makeup missed makeup) m h in
      λ i. key_numbers (MakeupKey (same_site other site parts.0 i) (parts.1 i).missed)
  ranked r m h = cc

  not_below : (n : ℕ) → nat_lt n n ≡ false
  not_below n = grind (arith, nat_tests)

  last_decides : (s t : ℕ) → (nat_lt s t || ((s == t) && false)) ≡ nat_lt s t
  last_decides s t = grind (arith, nat_tests)

  before_day : (s t : ℕ) → comes_before (day_key s) (day_key t) ≡ nat_lt s t
  before_day s t =
      rw (number_itself site.state, number_itself site.county, number_itself site.number, not_below site.state, not_below site.county, not_below site.number)
      (last_decides s t)

  below : (s t : ℕ) → nat_lt s t ≡ true → s < t
  below s t h = grind (arith, nat_tests)

  in_order : (a b : OfficeRecord) (s t : Makeup) → makeup_by site quarter a ≡ Some s → makeup_by site quarter b ≡ Some t → comes_before (record_rank a) (record_rank b) ≡ true → s.missed < t.missed
  in_order a b s t first second before =
      below s.missed t.missed (sym (before_day s.missed t.missed) ∙ (λ i. comes_before (sym (ranked a s first) i) (sym (ranked b t second) i)) ∙ before)

  last_test : (b : Bool) → (b && true) ≡ b
  last_test true = refl
  last_test false = refl

  same_day : (s t : ℕ) → is_same (day_key s) (day_key t) ≡ (s == t)
  same_day s t = rw (number_itself site.state, number_itself site.county, number_itself site.number) (last_test (s == t))

  tells : (day : ℕ) (r : OfficeRecord) (m : Makeup) → makeup_by site quarter r ≡ Some m → (m.missed == day) ≡ is_same (record_rank r) (day_key day)
  tells day r m h = sym (same_day m.missed day) ∙ ap (λ k. is_same k (day_key day)) (sym (ranked r m h))

  -- ---- the record of a day

  same_number : (m n : ℕ) → (m == n) ≡ true → m ≡ n
  same_number m n h = grind (arith, nat_tests)

  regroup : (s c n d : Bool) → (s && (c && (n && (d && true)))) ≡ true → (((s && c) && n) ≡ true) × (d ≡ true)
  regroup true true true true h = (refl, refl)
  regroup true true true false h = cc
  regroup true true false d h = cc
  regroup true false n d h = cc
  regroup false c n d h = cc

  either : (b : Bool) (o : Option Makeup) → o ≡ cond b o o
  either true o = refl
  either false o = refl

  row_gives : (day : ℕ) (inside : Bool) (r : OfficeRecord) → is_same (record_rank r) (day_key day) ≡ true → (quarter_of day == quarter) ≡ inside
      → makeup_by site quarter r ≡ cond inside (option_map (as_makeup day) (makeup_in r)) None
  row_gives day inside (MakeupRecord other missed makeup) same is =
      let parts = regroup (other.state == site.state) (other.county == site.county) (other.number == site.number) (missed == day) same in
      let at = same_number missed day parts.1 in
      (λ i. cond (parts.0 i && (quarter_of (at i) == quarter)) (Some (as_makeup (at i) makeup)) None) ∙ ap (λ b. cond b (Some (as_makeup day makeup)) None) is
  row_gives day inside r same is = cc

  last_day : (day : ℕ) (r : OfficeRecord) → is_same (record_rank r) (day_key day) ≡ true → is_record r ≡ true → day ≤ LAST_DAY
  last_day day (MakeupRecord other missed makeup) same is =
      let parts = regroup (other.state == site.state) (other.county == site.county) (other.number == site.number) (missed == day) same in
      let at = same_number missed day parts.1 in
      let key = and_parts (is_site other && is_day missed) (is_day makeup && is_makeup missed makeup) is in
      let low : nat_le missed LAST_DAY ≡ true = (and_parts (is_site other) (is_day missed) key.0).1 in
      grind (arith, nat_tests, low, at)
  last_day day r same is = cc

  -- the record of a missed day that has a make-up sample
  pub makeup-record : (day makeup : ℕ) → IsOffice (office_with records) → makeup_of records site day ≡ Some makeup → is_record (MakeupRecord site day makeup) ≡ true
  makeup-record day makeup valid is = by_row (row_at record_rank (day_key day) records) refl (sym (makeup_found records site day) ∙ is)
    where
      by_record : (r : OfficeRecord) → is_same (record_rank r) (day_key day) ≡ true → is_record r ≡ true → makeup_in r ≡ Some makeup → is_record (MakeupRecord site day makeup) ≡ true
      by_record (MakeupRecord other missed made) same fits given =
          let parts = regroup (other.state == site.state) (other.county == site.county) (other.number == site.number) (missed == day) same in
          let at = same_number missed day parts.1 in
          let one : made ≡ makeup = cc in
          (λ i. is_record (MakeupRecord (sym (same_site other site parts.0) i) (sym at i) (sym one i))) ∙ fits
      by_record r same fits given = cc

      by_row : (o : Option OfficeRecord) → row_at record_rank (day_key day) records ≡ o → option_and_then makeup_in o ≡ Some makeup → is_record (MakeupRecord site day makeup) ≡ true
      by_row None at given = cc
      by_row (Some r) at given =
          let parts = row_fits (office_with records) (day_key day) records r at valid.records_fit in
          by_record r parts.0 (is_record-of site quarter (office_with records) r parts.1) given

  module _ (first many : ℕ) (valid : IsOffice (office_with records)) (holds : HoldsSpan quarter first many) where
    quarter_test : (day : ℕ) → day ≤ LAST_DAY → (quarter_of day == quarter) ≡ (nat_le first day && nat_lt day (first + many))
    quarter_test day small = by_test (quarter_of day == quarter) refl (nat_le first day && nat_lt day (first + many)) refl
      where
        both : (a b : ℕ) → (nat_le first a && nat_lt a b) ≡ true → (first ≤ a) × (a < b)
        both a b h = let parts = and_parts (nat_le first a) (nat_lt a b) h in (grind (arith, nat_tests, parts.0), grind (arith, nat_tests, parts.1))

        tests : (a b : ℕ) → first ≤ a → a < b → (nat_le first a && nat_lt a b) ≡ true
        tests a b low high = let l : nat_le first a ≡ true = grind (arith, nat_tests) in let h : nat_lt a b ≡ true = grind (arith, nat_tests) in rw (l, h) refl

        by_test : (a : Bool) → (quarter_of day == quarter) ≡ a → (b : Bool) → (nat_le first day && nat_lt day (first + many)) ≡ b → a ≡ b
        by_test true of true at = refl
        by_test false of false at = refl
        by_test true of false at =
            let span = (holds day small).0 (same_number (quarter_of day) quarter of) in
            absurd (false≢true (sym at ∙ tests day (first + many) span.0 span.1))
        by_test false of true at =
            let is = (holds day small).1 (both day (first + many) at) in
            let same : (quarter_of day == quarter) ≡ true = ap (λ q. q == quarter) is ∙ number_itself quarter in
            absurd (false≢true (sym of ∙ same))

    found_in_rows : (day : ℕ) → found (λ (m : Makeup). m.missed) day (filter_map (makeup_by site quarter) records) ≡ cond (nat_le first day && nat_lt day (first + many)) (look day) None
    found_in_rows day =
        found-given record_rank (λ (m : Makeup). m.missed) (makeup_by site quarter) (day_key day) day (tells day) records valid.keys_rise.records
        ∙ by_row (row_at record_rank (day_key day) records) refl
        ∙ ap (λ o. cond (nat_le first day && nat_lt day (first + many)) (option_map (as_makeup day) o) None) (sym (makeup_found records site day))
      where
        by_row : (o : Option OfficeRecord) → row_at record_rank (day_key day) records ≡ o
            → option_and_then (makeup_by site quarter) o ≡ cond (nat_le first day && nat_lt day (first + many)) (option_map (as_makeup day) (option_and_then makeup_in o)) None
        by_row None is = either (nat_le first day && nat_lt day (first + many)) None
        by_row (Some r) is =
            let parts = row_fits (office_with records) (day_key day) records r is valid.records_fit in
            let small = last_day day r parts.0 (is_record-of site quarter (office_with records) r parts.1) in
            row_gives day (nat_le first day && nat_lt day (first + many)) r parts.0 (quarter_test day small)

    numbered : (day : ℕ) (m : Makeup) → look day ≡ Some m → m.missed ≡ day
    numbered day m h = by_makeup (makeup_of records site day) h
      where
        by_makeup : (o : Option ℕ) → option_map (as_makeup day) o ≡ Some m → m.missed ≡ day
        by_makeup None h = cc
        by_makeup (Some k) h = let is : day ≡ m.missed = cc in sym is

    pub makeups-are : filter_map (makeup_by site quarter) records ≡ filter_map look (range_with_len first many)
    makeups-are =
        same_list (λ (m : Makeup). m.missed) (filter_map (makeup_by site quarter) records) (filter_map look (range_with_len first many))
        (rising-given record_rank (λ (m : Makeup). m.missed) (makeup_by site quarter) in_order records valid.keys_rise.records)
        (rising-under (λ (m : Makeup). m.missed) look numbered (range_with_len first many) (rising_range first many))
        (λ day. found_in_rows day
        ∙ sym (found-under (λ (m : Makeup). m.missed) look numbered day (range_with_len first many) ∙ ap (λ b. cond b (look day) None) (in_range day first many)))
