-- The rows of flags, by the marks of a site, are the book's.
use Rattle.std.proofs.Common.{◌≡◌, ◌+◌, ◌≤◌, ℕ, zero, suc, Bool, true, false, ◌&&◌, ◌==◌, List, [], ◌∷◌, ◌++◌, cond, filter, map, count_by, length, append-nil, append_assoc, Some, None, refl, ap, sym, ◌∙◌, subst, arith}
use Rattle.std.specs.Prelude.{◌||◌, filter_map, flat_map, nat_le}
use Rattle.std.specs.List.Sorted.{IsPermutation}
use Rattle.aq_base.specs.declared.limits.TheConstants.{MOST_OBSERVATIONS}
use Rattle.std.specs.List.{cons_option, list_all, list_any, range_with_len}
use Rattle.std.proofs.lemmas.Bool.{false≢true}
use Rattle.std.proofs.lemmas.Bool.Decides.{nat_tests}
use Rattle.std.proofs.lemmas.List.Concat.{flat_map-append}
use Rattle.std.proofs.lemmas.List.Elements.{filter-append}
use Rattle.std.proofs.lemmas.List.FromFn.{filter_of_map_range_with_len_more}
use Rattle.aq_base.specs.Calendar.{day_of_hour, days_in_year, year_first}
use Rattle.aq_base.specs.Quals.{has_code, is_same_code}
use Rattle.aq_base.specs.Site.{Site}
use Rattle.aq_base.specs.declared.code.Code.{Code}
use Rattle.aq_base.specs.declared.monitor.Pollutant.{Pollutant}
use Rattle.aq_base.specs.declared.observation.ObsKey.{ObsKey}
use Rattle.aq_base.specs.declared.observation.Observation.{Observation}
use Rattle.aq_base.specs.declared.office.OfficeRecord.{OfficeRecord}
use Rattle.aq_base.specs.declared.office.OfficeRecord.TheVariants.{Event}
use Rattle.aq_rules.specs.Office.Exclusion.{agrees_to, asks_exclusion, excluded, is_flagged, is_within, takes_out}
use Rattle.aq_rules.specs.Office.Monitors.{is_same_site, is_same_pollutant}
use Rattle.aq_rules.specs.Office.Sameness as sameness
use Rattle.aq_rules.specs.Ozone.OzoneYear.{days_of}
use Rattle.aq_rules.specs.Listed.Events.{StandingEvent, event_by, events_of}
use Rattle.aq_rules.specs.Listed.Flags.{FLAG_CODES, ListedFlag, carrying, covers_with, excludes_with, flags_on, listed_flag, listed_flags}
use Rattle.aq_rules.specs.Listed.Places.{carries, is_of_series, is_on_day, standing_of}
use Rattle.aq_registry.specs.Registry.{office_with}
use Rattle.aq_series.specs.OfficeView.{office_of}
use Rattle.aq_listed.specs.FlagWords.{covers_mark, flag_by, flags_by, is_carried, is_covered, is_left_out, key_with, on_day, AreThose}
use Rattle.aq_listed.specs.Marks.{is_asked, is_marked, AreFew, AreMarksOf}
use Rattle.aq_listed.specs.declared.flag_marks.FlagMarks.{FlagMarks}
use Rattle.aq_listed.specs.declared.marks.Mark.{Mark}
use Rattle.aq_listed.proofs.Carried.{same-code}
use Rattle.aq_listed.proofs.Counted.{count-cons, count-permuted, count-same}
use Rattle.aq_listed.proofs.CountedParts.{count-both, count-fewer}

-- ---- the hours of a day

day-hours : (day hour : ℕ) → on_day day hour ≡ (day_of_hour hour == day)
day-hours day hour = grind (arith, nat_tests)

and-both : (a b : Bool) → (a && b) ≡ true → (a ≡ true) × (b ≡ true)
and-both true b h = (refl, h)
and-both false b h = absurd (false≢true h)

-- ---- which marks an event covers

same-sites : (a b : Site) → is_same_site a b ≡ is_same_site b a
same-sites a b = grind (arith, nat_tests)

any-same : {X : Type 0} (p q : X → Bool) → ((x : X) → p x ≡ q x) → (xs : List X) → list_any p xs ≡ list_any q xs
any-same p q each [] = refl
any-same p q each (x ∷ xs) = λ i. each x i || any-same p q each xs i

and-false : (a : Bool) → (a && false) ≡ false
and-false true = refl
and-false false = refl

-- the events of a site that cover a mark are the records that cover an observation with it
covered-any : (site : Site) (mark : Mark) (records : List OfficeRecord) → list_any (covers_mark mark) (filter_map (event_by site) records) ≡ list_any (covers_with mark.code (key_with site mark)) records
covered-any site mark [] = refl
covered-any site mark (r ∷ rs) =
    one r (filter_map (event_by site) rs) ∙ ap (λ b. covers_with mark.code (key_with site mark) r || b) (covered-any site mark rs)
  where
    none : (a b : Bool) → b ≡ ((a && false) || b)
    none true b = refl
    none false b = refl

    one : (r : OfficeRecord) (events : List StandingEvent)
        → list_any (covers_mark mark) (cons_option (event_by site r) events) ≡ (covers_with mark.code (key_with site mark) r || list_any (covers_mark mark) events)
    one (Event number other pollutant first last code) events = at (is_same_site other site) refl
      where
        at : (b : Bool) → is_same_site other site ≡ b
            → list_any (covers_mark mark) (cons_option (cond b (Some (record { number = number; site = other; pollutant = pollutant; first = first; last = last; code = code })) None) events)
            ≡ ((is_same_code code mark.code && (is_same_site site other && is_same_pollutant mark.pollutant pollutant && nat_le first mark.hour && nat_le mark.hour last)) || list_any (covers_mark mark) events)
        at true same =
            ap (λ s. (is_same_code code mark.code && (s && is_same_pollutant mark.pollutant pollutant && nat_le first mark.hour && nat_le mark.hour last)) || list_any (covers_mark mark) events) (sym (same-sites site other ∙ same))
        at false same =
            none (is_same_code code mark.code) (list_any (covers_mark mark) events)
            ∙ ap (λ s. (is_same_code code mark.code && (s && is_same_pollutant mark.pollutant pollutant && nat_le first mark.hour && nat_le mark.hour last)) || list_any (covers_mark mark) events) (sym (same-sites site other ∙ same))
    one r events = refl

-- ---- which marks an event with a concurrence leaves out

flag-alike : (code other : Code) → asks_exclusion code ≡ true → (b : Bool) → is_same_code code other ≡ b → (asks_exclusion other && (b || false)) ≡ is_same_code other code
flag-alike code other asks true same =
    let is = same-code code other same in
    ap (λ a. a && (true || false)) (ap asks_exclusion (sym is) ∙ asks) ∙ sym (turned code other ∙ same)
  where
    turned : (c d : Code) → is_same_code d c ≡ is_same_code c d
    turned c d = grind (arith, nat_tests)
flag-alike code other asks false same = and-false (asks_exclusion other) ∙ sym (turned code other ∙ same)
  where
    turned : (c d : Code) → is_same_code d c ≡ is_same_code c d
    turned c d = grind (arith, nat_tests)

left-out : (records : List OfficeRecord) (site : Site) (mark : Mark) → asks_exclusion mark.code ≡ true → is_left_out records site mark ≡ list_any (excludes_with records mark.code (key_with site mark)) records
unfolding excluded
left-out records site mark asks = any-same (takes_out records (key_with site mark) (mark.code ∷ [])) (excludes_with records mark.code (key_with site mark)) each records
  where
    each : (r : OfficeRecord) → takes_out records (key_with site mark) (mark.code ∷ []) r ≡ excludes_with records mark.code (key_with site mark) r
    each (Event number other pollutant first last code) =
        ap (λ b. b && is_within other pollutant first last (key_with site mark) && list_any (agrees_to number) records) (flag-alike mark.code code asks (is_same_code mark.code code) refl)
    each r = refl

-- ---- keys of one site, pollutant and hour

alike-covers : (code : Code) (key other : ObsKey) → key.monitor.site ≡ other.monitor.site → key.monitor.pollutant ≡ other.monitor.pollutant → key.hour ≡ other.hour
    → (r : OfficeRecord) → covers_with code key r ≡ covers_with code other r
alike-covers code key other s p h (Event number site pollutant first last c) =
    λ i. is_same_code c code && (is_same_site (s i) site && is_same_pollutant (p i) pollutant && nat_le first (h i) && nat_le (h i) last)
alike-covers code key other s p h r = refl

alike-excludes : (records : List OfficeRecord) (code : Code) (key other : ObsKey) → key.monitor.site ≡ other.monitor.site → key.monitor.pollutant ≡ other.monitor.pollutant → key.hour ≡ other.hour
    → (r : OfficeRecord) → excludes_with records code key r ≡ excludes_with records code other r
alike-excludes records code key other s p h (Event number site pollutant first last c) =
    λ i. (is_same_code c code && (is_same_site (s i) site && is_same_pollutant (p i) pollutant && nat_le first (h i) && nat_le (h i) last)) && list_any (agrees_to number) records
alike-excludes records code key other s p h r = refl

-- ---- counts

length-counted : {X : Type 0} (xs : List X) → count_by (λ (x : X). true) xs ≡ length xs
length-counted [] = refl
length-counted {X} (x ∷ xs) = omega (arith, count-cons (λ (y : X). true) x xs, length-counted xs)

module _ (records : List OfficeRecord) (rows : List (ObsKey × Observation)) (site : Site) where
  -- marks that pass a test, as observations
  those-asked : (all some : List Mark) → AreMarksOf site rows all → (test : Mark → Bool) → AreThose test all some → (pollutant : Pollutant) (code : Code) (hours : ℕ → Bool)
      → count_by (is_marked pollutant code hours) some ≡ count_by (is_asked site pollutant code (λ hour. test (record { pollutant = pollutant; code = code; hour = hour }) && hours hour)) rows
  those-asked all some are test those pollutant code hours =
      those pollutant code hours
      ∙ count-both (is_marked pollutant code hours) test all
      ∙ count-same (λ mark. test mark && is_marked pollutant code hours mark) (is_marked pollutant code (λ hour. test (record { pollutant = pollutant; code = code; hour = hour }) && hours hour)) each all
      ∙ are pollutant code (λ hour. test (record { pollutant = pollutant; code = code; hour = hour }) && hours hour)
    where
      by : (mark : Mark) (p c : Bool) → is_same_pollutant mark.pollutant pollutant ≡ p → is_same_code mark.code code ≡ c
          → (test mark && (p && c && hours mark.hour)) ≡ (p && c && (test (record { pollutant = pollutant; code = code; hour = mark.hour }) && hours mark.hour))
      by mark true true e f =
          let p = sameness.same_pollutant mark.pollutant pollutant e in
          let c = same-code mark.code code f in
          λ i. test (record { pollutant = p i; code = c i; hour = mark.hour }) && hours mark.hour
      by mark true false e f = and-false (test mark)
      by mark false c e f = and-false (test mark)

      each : (mark : Mark) → (test mark && is_marked pollutant code hours mark) ≡ is_marked pollutant code (λ hour. test (record { pollutant = pollutant; code = code; hour = hour }) && hours hour) mark
      each mark = by mark (is_same_pollutant mark.pollutant pollutant) (is_same_code mark.code code) refl refl

  -- observations that ask for an exclusion on a day and pass a test, as the book has them
  asked-carrying : (pollutant : Pollutant) (code : Code) (day : ℕ) → asks_exclusion code ≡ true → (over : (ObsKey × Observation) → Bool) (test : ℕ → Bool)
      → ((row : ObsKey × Observation) → row.0.monitor.site ≡ site → row.0.monitor.pollutant ≡ pollutant → over row ≡ test row.0.hour)
      → count_by (is_asked site pollutant code (λ hour. test hour && on_day day hour)) rows ≡ count_by over (carrying (office_of records rows) site pollutant day code)
  unfolding standing_of
  asked-carrying pollutant code day asks over test alike =
      count-same (is_asked site pollutant code (λ hour. test hour && on_day day hour)) (λ row. is_of_series site pollutant row && ((is_on_day day row && carries code row) && over row)) each rows
      ∙ sym (count-both (λ row. (is_on_day day row && carries code row) && over row) (is_of_series site pollutant) rows)
      ∙ sym (count-both over (λ row. is_on_day day row && carries code row) (filter (is_of_series site pollutant) rows))
    where
      swap : (h o d : Bool) → ((true && h) && (o && d)) ≡ ((d && h) && o)
      swap true true true = refl
      swap true true false = refl
      swap true false true = refl
      swap true false false = refl
      swap false o true = refl
      swap false o false = refl

      by : (row : ObsKey × Observation) (s p : Bool) → is_same_site row.0.monitor.site site ≡ s → is_same_pollutant row.0.monitor.pollutant pollutant ≡ p
          → (s && (p && is_flagged code row.1.quals && (test row.0.hour && on_day day row.0.hour))) ≡ ((s && p) && ((is_on_day day row && carries code row) && over row))
      by row true true e f =
          let over_is = alike row (sameness.same_site row.0.monitor.site site e) (sameness.same_pollutant row.0.monitor.pollutant pollutant f) in
          ap (λ a. (a && has_code code row.1.quals) && (test row.0.hour && on_day day row.0.hour)) asks
          ∙ ap (λ o. (true && has_code code row.1.quals) && (o && on_day day row.0.hour)) (sym over_is)
          ∙ ap (λ d. (true && has_code code row.1.quals) && (over row && d)) (day-hours day row.0.hour)
          ∙ swap (has_code code row.1.quals) (over row) (day_of_hour row.0.hour == day)
      by row true false e f = refl
      by row false p e f = refl

      each : (row : ObsKey × Observation) → is_asked site pollutant code (λ hour. test hour && on_day day hour) row ≡ (is_of_series site pollutant row && ((is_on_day day row && carries code row) && over row))
      each row = by row (is_same_site row.0.monitor.site site) (is_same_pollutant row.0.monitor.pollutant pollutant) refl refl

  module _ (marks : FlagMarks) (all : AreMarksOf site rows marks.all) (covered : AreThose (is_covered (events_of (office_with records) site)) marks.all marks.covered) (left : AreThose (is_left_out records site) marks.all marks.excluded) where
    row-is : (pollutant : Pollutant) (day : ℕ) (code : Code) → asks_exclusion code ≡ true → flag_by marks pollutant day code ≡ listed_flag (office_of records rows) site pollutant day code
    unfolding events_of
    row-is pollutant day code asks =
        let flagged = all pollutant code (on_day day) ∙ asked-carrying pollutant code day asks (λ row. true) (λ hour. true) (λ row s p. refl) ∙ length-counted (carrying (office_of records rows) site pollutant day code) in
        let covers =
        those-asked marks.all marks.covered all (is_covered (filter_map (event_by site) records)) covered pollutant code (on_day day)
        ∙ asked-carrying pollutant code day asks (λ row. list_any (covers_with code row.0) records) (λ hour. is_covered (filter_map (event_by site) records) (record { pollutant = pollutant; code = code; hour = hour }))
        (λ row s p. any-same (covers_with code row.0) (covers_with code (key_with site (record { pollutant = pollutant; code = code; hour = row.0.hour }))) (alike-covers code row.0 (key_with site (record { pollutant = pollutant; code = code; hour = row.0.hour })) s p refl) records
        ∙ sym (covered-any site (record { pollutant = pollutant; code = code; hour = row.0.hour }) records))
        in
        let leaves =
        those-asked marks.all marks.excluded all (is_left_out records site) left pollutant code (on_day day)
        ∙ asked-carrying pollutant code day asks (λ row. list_any (excludes_with records code row.0) records) (λ hour. is_left_out records site (record { pollutant = pollutant; code = code; hour = hour }))
        (λ row s p. any-same (excludes_with records code row.0) (excludes_with records code (key_with site (record { pollutant = pollutant; code = code; hour = row.0.hour }))) (alike-excludes records code row.0 (key_with site (record { pollutant = pollutant; code = code; hour = row.0.hour })) s p refl) records
        ∙ sym (left-out records site (record { pollutant = pollutant; code = code; hour = row.0.hour }) asks))
        in
        λ i. record { day = day; code = code; flagged = flagged i; covered = covers i; excluded = leaves i }

    rows-of : (pollutant : Pollutant) (day : ℕ) (codes : List Code) → list_all asks_exclusion codes ≡ true → map (flag_by marks pollutant day) codes ≡ map (listed_flag (office_of records rows) site pollutant day) codes
    rows-of pollutant day [] ask = refl
    rows-of pollutant day (code ∷ codes) ask =
        let both = and-both (asks_exclusion code) (list_all asks_exclusion codes) ask in
        λ i. row-is pollutant day code both.0 i ∷ rows-of pollutant day codes both.1 i

    days-are : (pollutant : Pollutant) (days : List ℕ) → flat_map (flags_by marks pollutant) days ≡ flat_map (flags_on (office_of records rows) site pollutant) days
    days-are pollutant [] = refl
    days-are pollutant (day ∷ days) = λ i. rows-of pollutant day FLAG_CODES refl i ++ days-are pollutant days i

    pub flags-are : (pollutant : Pollutant) (year first count : ℕ) → first ≡ year_first year → count ≡ days_in_year year
        → filter is_carried (flat_map (flags_by marks pollutant) (range_with_len first count)) ≡ listed_flags (office_of records rows) site pollutant year
    unfolding days_of listed_flags
    flags-are pollutant year first count from many =
        ap (λ n. filter is_carried (flat_map (flags_by marks pollutant) (range_with_len n count))) from
        ∙ ap (λ n. filter is_carried (flat_map (flags_by marks pollutant) (range_with_len (year_first year) n))) many
        ∙ ap (filter is_carried) (days-are pollutant (range_with_len (year_first year) (days_in_year year)))

-- ---- one day more

range-more : (a n : ℕ) → range_with_len a (n + 1) ≡ range_with_len a n ++ (a + n) ∷ []
range-more a zero =
    let here : a ≡ a + 0 = omega arith in
    ap (λ k. k ∷ []) here
range-more a (suc n) =
    let next : suc n + 1 ≡ suc (n + 1) = omega arith in
    let last : a + 1 + n ≡ a + suc n = omega arith in
    ap (range_with_len a) next ∙ ap (λ ks. a ∷ ks) (range-more (a + 1) n) ∙ ap (λ k. (a ∷ range_with_len (a + 1) n) ++ k ∷ []) last

pub days-more : (flags : ℕ → List ListedFlag) (first count day : ℕ) → first + count ≡ day
    → filter is_carried (flat_map flags (range_with_len first count)) ++ filter is_carried (flags day) ≡ filter is_carried (flat_map flags (range_with_len first (count + 1)))
days-more flags first count day at =
    ap (λ d. filter is_carried (flat_map flags (range_with_len first count)) ++ filter is_carried (flags d)) (sym at)
    ∙ ap (λ fs. filter is_carried (flat_map flags (range_with_len first count)) ++ filter is_carried fs) (sym (append-nil (flags (first + count))))
    ∙ sym (filter-append is_carried (flat_map flags (range_with_len first count)) (flags (first + count) ++ []))
    ∙ ap (filter is_carried) (sym (flat_map-append flags (range_with_len first count) ((first + count) ∷ [])))
    ∙ ap (λ ds. filter is_carried (flat_map flags ds)) (sym (range-more first count))

-- one code more
pub codes-more : (flags : Code → ListedFlag) (before : List ListedFlag) (place second : ℕ) (row : ListedFlag) → 65 + place ≡ second → row ≡ flags (record { first = 82; second = second })
    → (before ++ filter is_carried (map (λ (s : ℕ). flags (record { first = 82; second = s })) (range_with_len 65 place))) ++ cond (is_carried row) (row ∷ []) []
    ≡ before ++ filter is_carried (map (λ (s : ℕ). flags (record { first = 82; second = s })) (range_with_len 65 (place + 1)))
codes-more flags before place second row at is =
    append_assoc before (filter is_carried (map (λ (s : ℕ). flags (record { first = 82; second = s })) (range_with_len 65 place))) (cond (is_carried row) (row ∷ []) [])
    ∙ ap (λ (r : ListedFlag). before ++ (filter is_carried (map (λ (s : ℕ). flags (record { first = 82; second = s })) (range_with_len 65 place)) ++ cond (is_carried r) (r ∷ []) [])) is
    ∙ ap (λ (xs : List ListedFlag). before ++ xs) (sym (filter_of_map_range_with_len_more is_carried (λ (s : ℕ). flags (record { first = 82; second = s })) 65 place second at))

-- ---- the marks that pass a test, put in order

pub few-those : (test : Mark → Bool) (marks places those : List Mark) → places ≡ marks → those ≡ filter test places → AreFew marks → AreFew those
few-those test marks places those same is few pollutant code hours =
    let whole = is ∙ ap (filter test) same in
    let fewer = count-fewer (is_marked pollutant code hours) test marks in
    let most = few pollutant code hours in
    subst (λ (ms : List Mark). count_by (is_marked pollutant code hours) ms ≤ MOST_OBSERVATIONS) (sym whole) (omega arith)

pub those-are : (test : Mark → Bool) (marks places those sorted : List Mark) → places ≡ marks → those ≡ filter test places → IsPermutation those sorted → AreThose test marks sorted
those-are test marks places those sorted same is permuted pollutant code hours =
    count-permuted (is_marked pollutant code hours) those sorted permuted ∙ ap (count_by (is_marked pollutant code hours)) (is ∙ ap (filter test) same)

pub codes-all : (flags : Code → ListedFlag) (before : List ListedFlag) (place : ℕ) → place ≡ 26
    → before ++ filter is_carried (map (λ (s : ℕ). flags (record { first = 82; second = s })) (range_with_len 65 place)) ≡ before ++ filter is_carried (map flags FLAG_CODES)
codes-all flags before place all =
    ap (λ (n : ℕ). before ++ filter is_carried (map (λ (s : ℕ). flags (record { first = 82; second = s })) (range_with_len 65 n))) all
    ∙ ap (λ (rows : List ListedFlag). before ++ filter is_carried rows) (sym (mapped (range_with_len 65 26)))
  where
    mapped : (seconds : List ℕ) → map flags (map (λ (s : ℕ). record { first = 82; second = s }) seconds) ≡ map (λ (s : ℕ). flags (record { first = 82; second = s })) seconds
    mapped [] = refl
    mapped (s ∷ seconds) = ap (λ (rows : List ListedFlag). flags (record { first = 82; second = s }) ∷ rows) (mapped seconds)
