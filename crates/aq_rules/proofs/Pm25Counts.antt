-- The counts of a PM2.5 quarter in a valid office keep their facts.
use Rattle.std.proofs.Common.{◌≡◌, ℕ, ◌+◌, ◌<◌, ◌≤◌, Bool, true, false, not, ◌&&◌, cond, List, [], ◌∷◌, length, refl, sym, ap, ◌∙◌, ◌⊎◌, inl, inr, arith}
use Rattle.std.specs.Prelude.{Option, Some, None, is_some, ⊤, ◌==◌, nat_le, option_and_then}
use Rattle.std.specs.List.{count_by, sum_by, filter, filter_map, cons_option, list_all}
use Rattle.std.proofs.lemmas.List.Sums.{sum_by-cons, length-filter, count_by-le-length}
use Rattle.std.proofs.lemmas.Bool.Decides.{nat_tests}
use Rattle.std.proofs.lemmas.Slice.Eq.{bytes_eq-Decides}
use Rattle.std.proofs.lemmas.Bool.{and_from, and_parts, eqb-true, leb-true}
use Rattle.aq_base.specs.Calendar.{quarter_of, quarter_first, days_in_quarter}
use Rattle.aq_base.specs.Site.{Site}
use Rattle.aq_base.specs.declared.day.TheConstants.{LAST_DAY}
use Rattle.aq_base.specs.declared.monitor.Pollutant.TheVariants.{Pm25}
use Rattle.aq_base.specs.declared.office.OfficeRecord.{OfficeRecord}
use Rattle.aq_base.specs.declared.office.OfficeRecord.TheVariants.{Monitor, Primary, Schedule, Season, Makeup as MakeupRecord, Event, Concurrence, Approved, Combined}
use Rattle.aq_base.specs.declared.office.OfficeKey.TheVariants.{Makeup as MakeupKey}
use Rattle.aq_rules.specs.Lines.OfficeForms.{is_makeup}
use Rattle.aq_rules.specs.Office.Office.{Office, IsOffice, key_numbers, record_rank, is_same, site_numbers, is_site, is_day, is_record, fits_records, has_its_monitor, has_its_event, group_size, most_in_group, makes_up_on, makeups_on, is_alone}
use Rattle.aq_rules.specs.Office.Monitors.{is_same_site}
use Rattle.aq_rules.specs.Office.Schedule.{is_scheduled}
use Rattle.aq_rules.specs.Ozone.SiteHour.{Cell}
use Rattle.aq_rules.specs.Particles.ParticleDay.{site_day, net_day, unless_excluded}
use Rattle.aq_rules.specs.Particles.QuarterCounts.{days_of_quarter, is_sampled, is_kept, Makeup, makeup_by, is_in_time, gives_credit, credits, QuarterCounts, quarter_counts, quarter_values}
use Rattle.aq_rules.proofs.Elements.{Every, every-to}
use Rattle.aq_rules.specs.Office.Sameness.{same_site}
use Rattle.aq_rules.proofs.Spans.{one_rank, on, fit}
use Rattle.aq_rules.proofs.Pm10Facts.{quarter_days, length-days, count-filter, count-implied, length-filter-le}

-- ---- lists

every-filter : {X : Type 0} (P : X → Type 0) (f : X → Bool) (xs : List X) → Every P xs → Every (λ x. P x × (f x ≡ true)) (filter f xs)
every-filter P f [] every = tt
every-filter {X = X} P f (x ∷ xs) every = by_test (f x) refl (every-filter P f xs every.1)
  where
    by_test : (b : Bool) → f x ≡ b → Every (λ y. P y × (f y ≡ true)) (filter f xs) → Every (λ y. P y × (f y ≡ true)) (cond b (x ∷ filter f xs) (filter f xs))
    by_test true e rest = ((every.0, e), rest)
    by_test false e rest = rest

-- of those that pass one test, the ones that pass another and the ones that do not
tests_split : (f p : Bool) → cond f (cond p 1 0) 0 + cond (f && not p) 1 0 ≡ cond f 1 0
tests_split true true = refl
tests_split true false = refl
tests_split false p = refl

count-of_filter : {X : Type 0} (p f : X → Bool) (xs : List X) → count_by p (filter f xs) ≡ sum_by (λ x. cond (f x) (cond (p x) 1 0) 0) xs
count-of_filter p f [] = refl
count-of_filter p f (x ∷ xs) =
    elim (f x) as (λ b. count_by p (cond b (x ∷ filter f xs) (filter f xs)) ≡ fold_from b) [
      | true ↦ omega (arith, sum_by-cons (λ y. cond (p y) 1 0) x (filter f xs), count-of_filter p f xs)
      | false ↦ omega (arith, count-of_filter p f xs)
    ]
    ∙ sym (sum_by-cons (λ y. cond (f y) (cond (p y) 1 0) 0) x xs)
  where
    fold_from : Bool → ℕ
    fold_from b = cond b (cond (p x) 1 0) 0 + sum_by (λ y. cond (f y) (cond (p y) 1 0) 0) xs

-- ---- make-up records of a quarter

-- both of its days are in the quarter
abbrev pub InQuarter : ℕ → Makeup → Type 0
InQuarter quarter m = (m.missed ≤ LAST_DAY) × (quarter_of m.missed ≡ quarter) × (m.makeup ≤ LAST_DAY) × (quarter_of m.makeup ≡ quarter)

abbrev IfMade : (Makeup → Type 0) → Option Makeup → Type 0
IfMade P None = ⊤
IfMade P (Some m) = P m

module _ (site : Site) (quarter : ℕ) where
  made-in_quarter : (r : OfficeRecord) → is_record r ≡ true → IfMade (InQuarter quarter) (makeup_by site quarter r)
  made-in_quarter (MakeupRecord other missed makeup) is = by_test (is_same_site other site) (quarter_of missed == quarter) refl refl
    where
      by_test : (a b : Bool) → is_same_site other site ≡ a → (quarter_of missed == quarter) ≡ b
          → IfMade (InQuarter quarter) (cond (a && b) (Some (record { missed = missed; makeup = makeup })) None)
      by_test false b e f = tt
      by_test true false e f = tt
      by_test true true e f =
          let h = and_parts (is_site other && is_day missed) (is_day makeup && is_makeup missed makeup) is in
          let b = and_parts (is_site other) (is_day missed) h.0 in
          let c = and_parts (is_day makeup) (is_makeup missed makeup) h.1 in
          let span = and_parts _ (nat_le makeup (missed + 7)) c.1 in
          let there = and_parts _ (quarter_of makeup == quarter_of missed) span.0 in
          let q : quarter_of missed ≡ quarter = eqb-true (quarter_of missed) quarter f in
          (leb-true missed LAST_DAY b.1, q, leb-true makeup LAST_DAY c.0, eqb-true (quarter_of makeup) (quarter_of missed) there.1 ∙ q)
  made-in_quarter (Monitor id duration eligible) is = tt
  made-in_quarter (Primary other pollutant from poc) is = tt
  made-in_quarter (Schedule other pollutant from interval anchor) is = tt
  made-in_quarter (Season other year first last) is = tt
  made-in_quarter (Event number other pollutant first last code) is = tt
  made-in_quarter (Concurrence number agreed) is = tt
  made-in_quarter (Approved other day) is = tt
  made-in_quarter (Combined other pollutant from joined) is = tt

  onto : (P : Makeup → Type 0) (o : Option Makeup) (ms : List Makeup) → IfMade P o → Every P ms → Every P (cons_option o ms)
  onto P None ms h every = every
  onto P (Some m) ms h every = (h, every)

  pub is_record-of : (office : Office) (r : OfficeRecord) → fits_records office r ≡ true → is_record r ≡ true
  is_record-of office r fits =
      let c = and_parts _ (nat_le (group_size office r) (most_in_group r)) fits in
      let b = and_parts _ (has_its_event office r) c.0 in
      (and_parts (is_record r) (has_its_monitor office r) b.0).0

  pub makeups-in_quarter : (office : Office) (records : List OfficeRecord) → list_all (fits_records office) records ≡ true → Every (InQuarter quarter) (filter_map (makeup_by site quarter) records)
  makeups-in_quarter office [] fits = tt
  makeups-in_quarter office (r ∷ records) fits =
      let parts = and_parts (fits_records office r) (list_all (fits_records office) records) fits in
      onto (InQuarter quarter) (makeup_by site quarter r) (filter_map (makeup_by site quarter) records) (made-in_quarter r (is_record-of office r parts.0))
      (makeups-in_quarter office records parts.1)

  -- ---- no missed day and no make-up day comes twice

  missed-key : (d : ℕ) (r : OfficeRecord) → IfMade (λ m. m.missed ≡ d → is_same (record_rank r) (key_numbers (MakeupKey site d)) ≡ true) (makeup_by site quarter r)
  missed-key d (MakeupRecord other missed makeup) = by_test (is_same_site other site) (quarter_of missed == quarter) refl
    where
      by_test : (a b : Bool) → is_same_site other site ≡ a
          → IfMade (λ m. m.missed ≡ d → is_same (record_rank (MakeupRecord other missed makeup)) (key_numbers (MakeupKey site d)) ≡ true) (cond (a && b) (Some (record { missed = missed; makeup = makeup })) None)
      by_test false b e = tt
      by_test true false e = tt
      by_test true true e =
          λ day. (bytes_eq-Decides (key_numbers (MakeupKey other missed)) (key_numbers (MakeupKey site d))).1 (λ i. key_numbers (MakeupKey (same_site other site e i) (day i)))
  missed-key d r = tt

  makeup-key : (d : ℕ) (r : OfficeRecord) → IfMade (λ m. m.makeup ≡ d → makes_up_on site d r ≡ true) (makeup_by site quarter r)
  makeup-key d (MakeupRecord other missed makeup) = by_test (is_same_site other site) (quarter_of missed == quarter) refl
    where
      by_test : (a b : Bool) → is_same_site other site ≡ a
          → IfMade (λ m. m.makeup ≡ d → makes_up_on site d (MakeupRecord other missed makeup) ≡ true) (cond (a && b) (Some (record { missed = missed; makeup = makeup })) None)
      by_test false b e = tt
      by_test true false e = tt
      by_test true true e =
          λ day.
          let numbers : is_same (site_numbers other) (site_numbers site) ≡ true = (bytes_eq-Decides (site_numbers other) (site_numbers site)).1 (ap site_numbers (same_site other site e)) in
          let there : (makeup == d) ≡ true = grind (arith, nat_tests) in
          rw numbers there
  makeup-key d r = tt

  -- each make-up of a day comes from a record that passes the test
  module _ (day : Makeup → ℕ) (d : ℕ) (test : OfficeRecord → Bool)
      (key : (r : OfficeRecord) → IfMade (λ m. day m ≡ d → test r ≡ true) (makeup_by site quarter r)) where
    one_by : (o : Option Makeup) (ms : List Makeup) (b : Bool) → IfMade (λ m. day m ≡ d → b ≡ true) o → on day d (cons_option o ms) ≤ cond b 1 0 + on day d ms
    one_by None ms b h = omega arith
    one_by (Some m) ms b h = by_test (day m == d) refl b h
      where
        by_test : (a : Bool) → (day m == d) ≡ a → (c : Bool) → (day m ≡ d → c ≡ true) → on day d (m ∷ ms) ≤ cond c 1 0 + on day d ms
        by_test true e true k =
            let first : on day d (m ∷ ms) ≡ 1 + on day d ms = sum_by-cons (λ y. cond (day y == d) 1 0) m ms ∙ rw e refl in
            omega (arith, first)
        by_test true e false k = let f = k (eqb-true (day m) d e) in cc
        by_test false e c k =
            let first : on day d (m ∷ ms) ≡ 0 + on day d ms = sum_by-cons (λ y. cond (day y == d) 1 0) m ms ∙ rw e refl in
            omega (arith, first)

    made-few : (records : List OfficeRecord) → on day d (filter_map (makeup_by site quarter) records) ≤ count_by test records
    made-few [] = omega arith
    made-few (r ∷ records) =
        omega (arith, one_by (makeup_by site quarter r) (filter_map (makeup_by site quarter) records) (test r) (key r), made-few records, sum_by-cons (λ s. cond (test s) 1 0) r records)

-- a day on which a record makes up has one such record
same_numbers : (a b : Site) → site_numbers a ≡ site_numbers b → a ≡ b
same_numbers a b e =
    let state : a.state ≡ b.state = cc in
    let county : a.county ≡ b.county = cc in
    let number : a.number ≡ b.number = cc in
    λ i. record { state = state i; county = county i; number = number i }

module _ (office : Office) (site : Site) (d : ℕ) where
  own_day : (r : OfficeRecord) → makes_up_on site d r ≡ true → is_alone office r ≡ true → makeups_on office site d ≤ 1
  own_day (MakeupRecord other missed makeup) on_day own =
      let parts = and_parts (is_same (site_numbers other) (site_numbers site)) (makeup == d) on_day in
      let s : other ≡ site = same_numbers other site ((bytes_eq-Decides (site_numbers other) (site_numbers site)).0 parts.0) in
      let m : makeup ≡ d = eqb-true makeup d parts.1 in
      let one : makeups_on office other makeup ≡ 1 = eqb-true (makeups_on office other makeup) 1 own in
      let here : makeups_on office site d ≡ 1 = (λ i. makeups_on office (sym s i) (sym m i)) ∙ one in
      omega (arith, here)
  own_day (Monitor id duration eligible) on_day own = cc
  own_day (Primary other pollutant from poc) on_day own = cc
  own_day (Schedule other pollutant from interval anchor) on_day own = cc
  own_day (Season other year first last) on_day own = cc
  own_day (Event number other pollutant first last code) on_day own = cc
  own_day (Concurrence number agreed) on_day own = cc
  own_day (Approved other day) on_day own = cc
  own_day (Combined other pollutant from joined) on_day own = cc

  none_or_one : (records : List OfficeRecord) → list_all (is_alone office) records ≡ true → (count_by (makes_up_on site d) records ≡ 0) ⊎ (makeups_on office site d ≤ 1)
  none_or_one [] own = inl refl
  none_or_one (r ∷ records) own =
      let parts = and_parts (is_alone office r) (list_all (is_alone office) records) own in
      by_test (makes_up_on site d r) refl parts.0 (none_or_one records parts.1)
    where
      by_test : (b : Bool) → makes_up_on site d r ≡ b → is_alone office r ≡ true → (count_by (makes_up_on site d) records ≡ 0) ⊎ (makeups_on office site d ≤ 1)
          → (count_by (makes_up_on site d) (r ∷ records) ≡ 0) ⊎ (makeups_on office site d ≤ 1)
      by_test true e mine rest = inr (own_day r e mine)
      by_test false e mine (inr few) = inr few
      by_test false e mine (inl none) =
          let first : count_by (makes_up_on site d) (r ∷ records) ≡ 0 + count_by (makes_up_on site d) records = sum_by-cons (λ s. cond (makes_up_on site d s) 1 0) r records ∙ rw e refl in
          inl (omega (arith, first, none))

  one_makeup : IsOffice office → makeups_on office site d ≤ 1
  one_makeup is = elim (none_or_one office.records is.records_alone) [ inl none ↦ omega (arith, none) | inr few ↦ few ]

-- ---- counts of days

tests_rest : (f p : Bool) → cond f (cond p 1 0) 0 + cond (p && not f) 1 0 ≡ cond p 1 0
tests_rest true true = refl
tests_rest true false = refl
tests_rest false true = refl
tests_rest false false = refl

tests_room : (f k u : Bool) → (k ≡ true → u ≡ true) → cond k 1 0 + cond f 1 0 ≤ 1 + cond f (cond u 1 0) 0
tests_room true true true h = omega arith
tests_room true true false h = let e = h refl in cc
tests_room true false u h = elim u as (λ b. 0 + 1 ≤ 1 + cond b 1 0) [ true ↦ omega arith | false ↦ omega arith ]
tests_room false true u h = omega arith
tests_room false false u h = omega arith

module _ (f p : ℕ → Bool) where
  both_of : List ℕ → ℕ
  both_of days = sum_by (λ d. cond (f d) (cond (p d) 1 0) 0) days

  split-days : (days : List ℕ) → count_by p (filter f days) + count_by (λ d. f d && not (p d)) days ≡ count_by f days
  split-days [] = refl
  split-days (d ∷ days) =
      let rest = split-days days in
      omega (arith, tests_split (f d) (p d), rest, count-of_filter p f (d ∷ days), count-of_filter p f days, sum_by-cons (λ e. cond (f e) (cond (p e) 1 0) 0) d days, sum_by-cons (λ e. cond (f e && not (p e)) 1 0) d days, sum_by-cons (λ e. cond (f e) 1 0) d days)

  rest-days : (days : List ℕ) → count_by p (filter f days) + count_by (λ d. p d && not (f d)) days ≡ count_by p days
  rest-days [] = refl
  rest-days (d ∷ days) =
      let rest = rest-days days in
      omega (arith, tests_rest (f d) (p d), rest, count-of_filter p f (d ∷ days), count-of_filter p f days, sum_by-cons (λ e. cond (f e) (cond (p e) 1 0) 0) d days, sum_by-cons (λ e. cond (p e && not (f e)) 1 0) d days, sum_by-cons (λ e. cond (p e) 1 0) d days)

  room-days : (k : ℕ → Bool) → ((d : ℕ) → k d ≡ true → p d ≡ true) → (days : List ℕ) → count_by k days + count_by f days ≤ length days + count_by p (filter f days)
  room-days k h [] = omega arith
  room-days k h (d ∷ days) =
      let rest = room-days k h days in
      omega (arith, tests_room (f d) (k d) (p d) (h d), rest, count-of_filter p f (d ∷ days), count-of_filter p f days, sum_by-cons (λ e. cond (f e) (cond (p e) 1 0) 0) d days, sum_by-cons (λ e. cond (k e) 1 0) d days, sum_by-cons (λ e. cond (f e) 1 0) d days)

length-given : {Y : Type 0} (f : ℕ → Option Y) (days : List ℕ) → length (filter_map f days) ≡ count_by (λ d. is_some (f d)) days
length-given f [] = refl
length-given {Y = Y} f (d ∷ days) = by_value (f d) (length-given f days) ∙ sym (sum_by-cons (λ e. cond (is_some (f e)) 1 0) d days)
  where
    by_value : (o : Option Y) → length (filter_map f days) ≡ count_by (λ e. is_some (f e)) days → length (cons_option o (filter_map f days)) ≡ cond (is_some o) 1 0 + count_by (λ e. is_some (f e)) days
    by_value None rest = omega (arith, rest)
    by_value (Some y) rest = omega (arith, rest)

-- ---- the quarter of a valid office

-- what the day numbers of the quarter's days are, which the calendar's laws say
abbrev pub HoldsDays : ℕ → Type 0
HoldsDays quarter = (n : ℕ) → n ≤ LAST_DAY → quarter_of n ≡ quarter → (quarter_first quarter ≤ n) × (n < quarter_first quarter + days_in_quarter quarter)

pub kept-sampled : (o : Option Cell) → is_some (option_and_then unless_excluded o) ≡ true → is_some o ≡ true
kept-sampled None h = h
kept-sampled (Some cell) h = refl

module _ (office : Office) (site : Site) (quarter : ℕ) (valid : IsOffice office) (holds : HoldsDays quarter) where
  sched : ℕ → Bool
  sched d = is_scheduled office.records site Pm25 d

  made : List Makeup
  made = filter_map (makeup_by site quarter) office.records

  given : List Makeup
  given = filter (gives_credit office site) made

  -- the parts of a credit
  record Credit (m : Makeup) : Type 0 where
    missed_low : quarter_first quarter ≤ m.missed
    missed_high : m.missed < quarter_first quarter + days_in_quarter quarter
    makeup_low : quarter_first quarter ≤ m.makeup
    makeup_high : m.makeup < quarter_first quarter + days_in_quarter quarter
    scheduled : is_scheduled office.records site Pm25 m.missed ≡ true
    unsampled : not (is_sampled office site Pm25 m.missed) ≡ true
    unscheduled : not (is_scheduled office.records site Pm25 m.makeup) ≡ true
    sampled : is_sampled office site Pm25 m.makeup ≡ true

  credit : (m : Makeup) → InQuarter quarter m × (gives_credit office site m ≡ true) → Credit m
  credit m h =
      let missed = holds m.missed h.0.0 h.0.1 in
      let makeup = holds m.makeup h.0.2 h.0.3 in
      let d = and_parts _ (is_in_time office site m) h.1 in
      let c = and_parts _ (is_sampled office site Pm25 m.makeup) d.0 in
      let b = and_parts _ (not (is_scheduled office.records site Pm25 m.makeup)) c.0 in
      let a = and_parts (is_scheduled office.records site Pm25 m.missed) (not (is_sampled office site Pm25 m.missed)) b.0 in
      record {
        missed_low = missed.0;
        missed_high = missed.1;
        makeup_low = makeup.0;
        makeup_high = makeup.1;
        scheduled = a.0;
        unsampled = a.1;
        unscheduled = b.1;
        sampled = c.1;
      }

  every-credit : Every Credit (credits office site quarter)
  unfolding credits
  every-credit =
      every-to (λ m. InQuarter quarter m × (gives_credit office site m ≡ true)) Credit credit (credits office site quarter)
      (every-filter (InQuarter quarter) (gives_credit office site) (filter_map (makeup_by site quarter) office.records) (makeups-in_quarter site quarter office office.records valid.records_fit))

  few_credits : (day : Makeup → ℕ) (d : ℕ) (test : OfficeRecord → Bool) → ((r : OfficeRecord) → IfMade (λ m. day m ≡ d → test r ≡ true) (makeup_by site quarter r))
      → count_by test office.records ≤ 1 → on day d (credits office site quarter) ≤ 1
  unfolding credits
  few_credits day d test key one =
      omega (
        arith,
        count-filter (λ (m : Makeup). day m == d) (gives_credit office site) (filter_map (makeup_by site quarter) office.records),
        made-few site quarter day d test key office.records,
        one,
      )

  missed-once : (d : ℕ) → on (λ (m : Makeup). m.missed) d (credits office site quarter) ≤ 1
  missed-once d =
      few_credits (λ (m : Makeup). m.missed) d (λ r. is_same (record_rank r) (key_numbers (MakeupKey site d))) (missed-key site quarter d)
      (one_rank record_rank (key_numbers (MakeupKey site d)) office.records valid.keys_rise.records)

  makeup-once : (d : ℕ) → on (λ (m : Makeup). m.makeup) d (credits office site quarter) ≤ 1
  makeup-once d = few_credits (λ (m : Makeup). m.makeup) d (makes_up_on site d) (makeup-key site quarter d) (one_makeup office site d valid)

  pub credits-few : length (credits office site quarter) ≤ count_by (λ d. is_scheduled office.records site Pm25 d && not (is_sampled office site Pm25 d)) (days_of_quarter quarter)
  unfolding days_of_quarter
  credits-few =
      fit (λ (m : Makeup). m.missed) (λ d. is_scheduled office.records site Pm25 d && not (is_sampled office site Pm25 d)) (quarter_first quarter) (days_in_quarter quarter) (credits office site quarter)
      (every-to Credit (λ m. (quarter_first quarter ≤ m.missed) × (m.missed < quarter_first quarter + days_in_quarter quarter)) (λ m c. (c.missed_low, c.missed_high)) (credits office site quarter) every-credit)
      (every-to Credit (λ m. (is_scheduled office.records site Pm25 m.missed && not (is_sampled office site Pm25 m.missed)) ≡ true) (λ m c. and_from _ _ c.scheduled c.unsampled) (credits office site quarter) every-credit)
      missed-once

  -- the credits whose make-up day is not excluded
  kept_credits : List Makeup
  kept_credits = filter (λ (m : Makeup). is_kept office site Pm25 m.makeup) (credits office site quarter)

  pub kept_credits-few : count_by (λ (m : Makeup). is_kept office site Pm25 m.makeup) (credits office site quarter)
      ≤ count_by (λ d. is_kept office site Pm25 d && not (is_scheduled office.records site Pm25 d)) (days_of_quarter quarter)
  unfolding days_of_quarter
  kept_credits-few =
      let keep : Makeup → Bool = λ m. is_kept office site Pm25 m.makeup in
      let cs = credits office site quarter in
      let every : Every (λ m. Credit m × (keep m ≡ true)) (filter keep cs) = every-filter Credit keep cs every-credit in
      let once : (d : ℕ) → on (λ (m : Makeup). m.makeup) d (filter keep cs) ≤ 1 = λ d. omega (arith, count-filter (λ (m : Makeup). m.makeup == d) keep cs, makeup-once d) in
      let few = fit (λ (m : Makeup). m.makeup) (λ d. is_kept office site Pm25 d && not (is_scheduled office.records site Pm25 d)) (quarter_first quarter) (days_in_quarter quarter) (filter keep cs)
      (every-to (λ m. Credit m × (keep m ≡ true)) (λ m. (quarter_first quarter ≤ m.makeup) × (m.makeup < quarter_first quarter + days_in_quarter quarter)) (λ m c. (c.0.makeup_low, c.0.makeup_high)) (filter keep cs) every)
      (every-to (λ m. Credit m × (keep m ≡ true)) (λ m. (is_kept office site Pm25 m.makeup && not (is_scheduled office.records site Pm25 m.makeup)) ≡ true) (λ m c. and_from _ _ c.1 c.0.unscheduled) (filter keep cs) every)
      once
      in
      omega (arith, few, length-filter keep cs)

  pub record CountsKeep (counts : QuarterCounts) (days : ℕ) : Type 0 where
    pub counted : counts.counted ≤ counts.creditable
    pub creditable : counts.creditable ≤ counts.scheduled
    pub scheduled : counts.scheduled ≤ 92
    pub counted_days : counts.counted ≤ days
    pub room : days + counts.scheduled ≤ 92 + counts.creditable

  pub counts-keep : CountsKeep (quarter_counts office site quarter) (length (quarter_values office site Pm25 quarter))
  unfolding quarter_counts quarter_values
  counts-keep =
      let D = days_of_quarter quarter in
      let scheduled : ℕ → Bool = λ d. is_scheduled office.records site Pm25 d in
      let sampled : ℕ → Bool = λ d. is_sampled office site Pm25 d in
      let kept : ℕ → Bool = λ d. is_kept office site Pm25 d in
      let most = (quarter_days quarter).1 in
      let number = length-days quarter in
      let all = length-filter scheduled D in
      let values : length (filter_map (net_day office site Pm25) D) ≡ count_by kept D = length-given (net_day office site Pm25) D in
      let few = credits-few in
      let kept_few = kept_credits-few in
      let split = split-days scheduled sampled D in
      let rest = rest-days scheduled kept D in
      let room = room-days scheduled sampled kept (λ d h. kept-sampled (site_day office site Pm25 d) h) D in
      let implied = count-implied kept sampled (λ d h. kept-sampled (site_day office site Pm25 d) h) (filter scheduled D) in
      let those = count_by-le-length (λ (m : Makeup). is_kept office site Pm25 m.makeup) (credits office site quarter) in
      let within = length-filter-le scheduled D in
      record {
        counted = omega (arith, implied, those);
        creditable = omega (arith, split, few, all);
        scheduled = omega (arith, within, number, most);
        counted_days = omega (arith, rest, kept_few, values);
        room = omega (arith, room, values, all, number, most);
      }
