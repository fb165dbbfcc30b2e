-- A quarter of PM2.5 or PM10 that is not in reach: the same days are scheduled, its days are as before, and the same make-ups have credit.
use Rattle.std.proofs.Common.{◌≡◌, ℕ, zero, suc, ◌+◌, ◌-◌, ◌<◌, ◌≤◌, Bool, true, false, cond, not, ◌&&◌, ◌||◌, List, [], ◌∷◌, ◌++◌, map, length, refl, sym, ap, ◌∙◌, subst, arith}
use Rattle.std.specs.Prelude.{Option, None, is_some, ◌==◌, count_by, flat_map, option_and_then}
use Rattle.std.specs.List.{list_any, list_all, filter, filter_map, cons_option, range_with_len}
use Rattle.std.specs.Option.{option_map_or}
use Rattle.std.proofs.Math.Bool.{and-false}
use Rattle.std.proofs.lemmas.Bool.{false≢true, and_parts, eqb-true, or_left}
use Rattle.std.proofs.lemmas.List.Sums.{sum_by-cons}
use Rattle.aq_base.specs.Site.{Site}
use Rattle.aq_base.specs.Calendar.{day_of_hour, is_year, quarter_of, quarter_year, quarter_first, days_in_quarter}
use Rattle.aq_base.specs.declared.monitor.Pollutant.{Pollutant}
use Rattle.aq_base.specs.declared.monitor.Pollutant.TheVariants.{Ozone, Pm25, Pm10}
use Rattle.aq_base.specs.declared.office.OfficeRecord.{OfficeRecord}
use Rattle.aq_base.specs.declared.office.OfficeRecord.TheVariants.{Makeup as MakeupRecord, Schedule as ScheduleRecord}
use Rattle.aq_base.specs.declared.office.OfficeKey.TheVariants as keys
use Rattle.aq_rules.specs.Lines.Spellings.{Xs, has_parameter}
use Rattle.aq_rules.specs.Lists.{latest}
use Rattle.aq_rules.specs.Office.Office.{Office, IsOffice, record_rank, row_at, is_site, is_day, is_content_of, is_record, fits_records}
use Rattle.aq_rules.specs.Office.Monitors.{is_same_site}
use Rattle.aq_rules.specs.Office.Sameness.{same_site}
use Rattle.aq_rules.specs.Office.Schedule.{Schedule, schedule_by, asks_for, is_scheduled}
use Rattle.aq_rules.specs.Ozone.SiteHour.{Cell}
use Rattle.aq_rules.specs.Particles.ParticleDay.{site_day, net_day, unless_excluded}
use Rattle.aq_rules.specs.Particles.QuarterCounts.{Makeup, days_of_quarter, scheduled_days, is_kept, makeup_by, gives_credit, credits, quarter_counts, quarter_values, pm25_quarter}
use Rattle.aq_rules.specs.Particles.Pm10Estimate.{exceeds, quarter_of_strata, strata_samples, pm10_quarter}
use Rattle.aq_rules.specs.Particles.Strata.{begins, first_day_onto, first_days_after, first_days_among, first_days_by, first_days, strata_from, quarter_end, strata_of}
use Rattle.aq_rules.specs.Kept.Cells.{QuarterCell, is_same_cell}
use Rattle.aq_rules.specs.Kept.Reach.{ChangedRecord, cells_reading, reads, reach, quarter_cells}
use Rattle.aq_rules.proofs.CellsOnce.{member, cell-itself}
use Rattle.aq_rules.proofs.Cuts.{strata-joined}
use Rattle.aq_rules.proofs.Elements.{Every, every-to}
use Rattle.aq_rules.proofs.Pm25Counts.{InQuarter as MadeIn, makeups-in_quarter, is_record-of}
use Rattle.aq_rules.proofs.Quarters.{quarter-holds}
use Rattle.aq_rules.proofs.Unreached.{ReadsAt, is_new_in}
use Rattle.aq_rules.proofs.UnreachedRows.{record-unreached, unread}
use Rattle.aq_dirty.proofs.OutOfReachLemmas.Alike.{kept-alike, given-alike}
use Rattle.aq_dirty.proofs.OutOfReachLemmas.DaysOfQuarters.{InQuarter, in-quarter}
use Rattle.aq_dirty.proofs.OutOfReachLemmas.DaysRead.{day-out}
use Rattle.aq_dirty.proofs.OutOfReachLemmas.PmDays.{pm_day-out_of_reach}
use Rattle.aq_dirty.proofs.OutOfReachLemmas.Schedules.{scheduled-same}

-- ---- lists on whose items two words agree

pub every-range : (P : ℕ → Type 0) (a n : ℕ) → ((k : ℕ) → a ≤ k → k < a + n → P k) → Every P (range_with_len a n)
every-range P a zero holds = tt
every-range P a (suc n) holds = (holds a (omega arith) (omega arith), every-range P (a + 1) n (λ k low high. holds k (omega (arith, low)) (omega (arith, high))))

every-kept : {X : Type 0} (P : X → Type 0) (p : X → Bool) (xs : List X) → Every P xs → Every P (filter p xs)
every-kept P p [] every = tt
every-kept P p (x ∷ xs) every = by (p x) (every-kept P p xs every.1)
  where
    by : (b : Bool) → Every P (filter p xs) → Every P (cond b (x ∷ filter p xs) (filter p xs))
    by true rest = (every.0, rest)
    by false rest = rest

every-first : {X : Type 0} (P : X → Type 0) (xs ys : List X) → Every P (xs ++ ys) → Every P xs
every-first P [] ys every = tt
every-first P (x ∷ xs) ys every = (every.0, every-first P xs ys every.1)

every-second : {X : Type 0} (P : X → Type 0) (xs ys : List X) → Every P (xs ++ ys) → Every P ys
every-second P [] ys every = every
every-second P (x ∷ xs) ys every = every-second P xs ys every.1

abbrev Agree : {X Y : Type 0} → (X → Y) → (X → Y) → List X → Type 0
Agree f g xs = Every (λ x. f x ≡ g x) xs

filter-agree : {X : Type 0} (p q : X → Bool) (xs : List X) → Agree p q xs → filter p xs ≡ filter q xs
filter-agree p q [] same = refl
filter-agree p q (x ∷ xs) same = let rest = filter-agree p q xs same.1 in λ i. cond (same.0 i) (x ∷ rest i) (rest i)

pub given-agree : {X Y : Type 0} (f g : X → Option Y) (xs : List X) → Agree f g xs → filter_map f xs ≡ filter_map g xs
given-agree f g [] same = refl
given-agree f g (x ∷ xs) same = let rest = given-agree f g xs same.1 in λ i. cons_option (same.0 i) (rest i)

any-agree : {X : Type 0} (p q : X → Bool) (xs : List X) → Agree p q xs → list_any p xs ≡ list_any q xs
any-agree p q [] same = refl
any-agree p q (x ∷ xs) same = let rest = any-agree p q xs same.1 in λ i. same.0 i || rest i

count-agree : {X : Type 0} (p q : X → Bool) (xs : List X) → Agree p q xs → count_by p xs ≡ count_by q xs
count-agree p q [] same = refl
count-agree p q (x ∷ xs) same =
    let rest = count-agree p q xs same.1 in
    sum_by-cons (λ y. cond (p y) 1 0) x xs ∙ (λ i. cond (same.0 i) 1 0 + rest i) ∙ sym (sum_by-cons (λ y. cond (q y) 1 0) x xs)

-- of a list of lists
each-agree : {X Y : Type 0} (f g : X → Option Y) (lists : List (List X)) → Agree f g (flat_map (λ xs. xs) lists) → map (filter_map f) lists ≡ map (filter_map g) lists
each-agree f g [] same = refl
each-agree f g (xs ∷ lists) same =
    let first = given-agree f g xs (every-first (λ x. f x ≡ g x) xs (flat_map (λ ys. ys) lists) same) in
    let rest = each-agree f g lists (every-second (λ x. f x ≡ g x) xs (flat_map (λ ys. ys) lists) same) in
    λ i. first i ∷ rest i

firsts-agree : (p q : ℕ → Bool) (start : ℕ) (days : List ℕ) → Agree p q days → first_days_after p start days ≡ first_days_after q start days
unfolding first_days_after
firsts-agree p q start [] same = refl
firsts-agree p q start (day ∷ days) same =
    ap (λ t. first_day_onto (t || (day == start + 6)) day (first_days_after p (cond (t || (day == start + 6)) day start) days)) same.0
    ∙ ap (first_day_onto (begins q start day) day) (firsts-agree p q (cond (begins q start day) day start) days same.1)

pub first_days-agree : (p q : ℕ → Bool) (days : List ℕ) → Agree p q days → first_days_among p days ≡ first_days_among q days
first_days-agree p q [] same = refl
first_days-agree p q (day ∷ days) same = ap (λ l. day ∷ l) (firsts-agree p q day days same.1)

-- ---- a quarter by its days

pub holds-days : (quarter : ℕ) → is_year (quarter_year quarter) ≡ true → Every (InQuarter quarter) (days_of_quarter quarter)
unfolding days_of_quarter
holds-days quarter inside = every-range (InQuarter quarter) (quarter_first quarter) (days_in_quarter quarter) (λ day low high. in-quarter quarter day inside low high)

module _ (a b : Office) (site : Site) (pollutant : Pollutant) where
  abbrev pub SameDays : ℕ → Type 0
  SameDays quarter = (day : ℕ) → InQuarter quarter day → site_day a site pollutant day ≡ site_day b site pollutant day

  abbrev pub SameSchedule : ℕ → Type 0
  SameSchedule quarter = (day : ℕ) → InQuarter quarter day → is_scheduled a.records site pollutant day ≡ is_scheduled b.records site pollutant day

  module _ (quarter : ℕ) (inside : is_year (quarter_year quarter) ≡ true) where
    over-days : {Y : Type 0} (f g : ℕ → Y) → ((day : ℕ) → InQuarter quarter day → f day ≡ g day) → Agree f g (days_of_quarter quarter)
    over-days f g same = every-to (InQuarter quarter) (λ day. f day ≡ g day) same (days_of_quarter quarter) (holds-days quarter inside)

    pub values-same : SameDays quarter → quarter_values a site pollutant quarter ≡ quarter_values b site pollutant quarter
    unfolding quarter_values
    values-same days =
        given-agree (net_day a site pollutant) (net_day b site pollutant) (days_of_quarter quarter)
        (over-days (net_day a site pollutant) (net_day b site pollutant) (λ day is. ap (option_and_then unless_excluded) (days day is)))

    pub scheduled_days-same : SameSchedule quarter → scheduled_days a site pollutant quarter ≡ scheduled_days b site pollutant quarter
    scheduled_days-same schedule =
        filter-agree (is_scheduled a.records site pollutant) (is_scheduled b.records site pollutant) (days_of_quarter quarter)
        (over-days (is_scheduled a.records site pollutant) (is_scheduled b.records site pollutant) schedule)

    -- how many of the scheduled days pass a test on the day's cell
    counted-same : (test : Option Cell → Bool) → SameDays quarter → SameSchedule quarter
        → count_by (λ day. test (site_day a site pollutant day)) (scheduled_days a site pollutant quarter) ≡ count_by (λ day. test (site_day b site pollutant day)) (scheduled_days b site pollutant quarter)
    counted-same test days schedule =
        count-agree (λ day. test (site_day a site pollutant day)) (λ day. test (site_day b site pollutant day)) (scheduled_days a site pollutant quarter)
        (every-kept _ (is_scheduled a.records site pollutant) (days_of_quarter quarter) (over-days (λ day. test (site_day a site pollutant day)) (λ day. test (site_day b site pollutant day)) (λ day is. ap test (days day is))))
        ∙ ap (count_by (λ day. test (site_day b site pollutant day))) (scheduled_days-same schedule)

module _ (a b : Office) (site : Site) (quarter : ℕ) (inside : is_year (quarter_year quarter) ≡ true) where
  pub first_days-same : SameSchedule a b site Pm10 quarter → first_days_by a.records site quarter ≡ first_days_by b.records site quarter
  first_days-same schedule =
      first_days-agree (is_scheduled a.records site Pm10) (is_scheduled b.records site Pm10) (days_of_quarter quarter)
      (over-days a b site Pm10 quarter inside (is_scheduled a.records site Pm10) (is_scheduled b.records site Pm10) schedule)

  pub strata-same : SameSchedule a b site Pm10 quarter → strata_of a site quarter ≡ strata_of b site quarter
  unfolding strata_of first_days
  strata-same schedule = ap (strata_from (quarter_end quarter)) (first_days-same schedule)

  pub strata_samples-same : SameDays a b site Pm10 quarter → SameSchedule a b site Pm10 quarter → strata_samples a site quarter ≡ strata_samples b site quarter
  strata_samples-same days schedule =
      each-agree (net_day a site Pm10) (net_day b site Pm10) (strata_of a site quarter)
      (subst (Agree (net_day a site Pm10) (net_day b site Pm10)) (sym (strata-joined a site quarter))
      (over-days a b site Pm10 quarter inside (net_day a site Pm10) (net_day b site Pm10) (λ day is. ap (option_and_then unless_excluded) (days day is))))
      ∙ ap (map (filter_map (net_day b site Pm10))) (strata-same schedule)

  pub pm10_quarter-same : SameDays a b site Pm10 quarter → SameSchedule a b site Pm10 quarter → pm10_quarter a site quarter ≡ pm10_quarter b site quarter
  unfolding pm10_quarter
  pm10_quarter-same days schedule =
      let scheduled = scheduled_days-same a b site Pm10 quarter inside schedule in
      let sampled = counted-same a b site Pm10 quarter inside is_some days schedule in
      let exceeding = counted-same a b site Pm10 quarter inside (λ o. option_map_or exceeds (option_and_then unless_excluded o) false) days schedule in
      let samples = strata_samples-same days schedule in
      λ i. quarter_of_strata (days_in_quarter quarter) (length (scheduled i)) (sampled i) (exceeding i) (samples i)

  -- ---- make-ups

  module _ (days : SameDays a b site Pm25 quarter) (schedule : SameSchedule a b site Pm25 quarter) where
    credit-same : (m : Makeup) → MadeIn quarter m → gives_credit a site m ≡ gives_credit b site m
    credit-same m is =
        let missed : InQuarter quarter m.missed = record { is_of = is.1; in_profile = is.0 } in
        let makeup : InQuarter quarter m.makeup = record { is_of = is.3; in_profile = is.2 } in
        let low = quarter-holds quarter m.missed is.0 is.1 in
        let high = quarter-holds quarter m.makeup is.2 is.3 in
        let between =
        any-agree (is_scheduled a.records site Pm25) (is_scheduled b.records site Pm25) (range_with_len (m.missed + 1) (m.makeup - m.missed))
        (every-range (λ day. is_scheduled a.records site Pm25 day ≡ is_scheduled b.records site Pm25 day) (m.missed + 1) (m.makeup - m.missed)
        (λ day from to. schedule day (in-quarter quarter day inside (omega (arith, low.0, from)) (omega (arith, high.1, from, to)))))
        in
        λ i. schedule m.missed missed i && not (is_some (days m.missed missed i)) && not (schedule m.makeup makeup i) && is_some (days m.makeup makeup i)
        && (not (between i) || (m.makeup == m.missed + 7))

    made-in : (office : Office) → list_all (fits_records office) office.records ≡ true → Every (MadeIn quarter) (filter_map (makeup_by site quarter) office.records)
    made-in office fit = makeups-in_quarter site quarter office office.records fit

    pub credits-same : list_all (fits_records a) a.records ≡ true → filter_map (makeup_by site quarter) a.records ≡ filter_map (makeup_by site quarter) b.records → credits a site quarter ≡ credits b site quarter
    unfolding credits
    credits-same fit made =
        filter-agree (gives_credit a site) (gives_credit b site) (filter_map (makeup_by site quarter) a.records)
        (every-to (MadeIn quarter) (λ m. gives_credit a site m ≡ gives_credit b site m) credit-same (filter_map (makeup_by site quarter) a.records) (made-in a fit))
        ∙ ap (filter (gives_credit b site)) made

    credits-kept : list_all (fits_records a) a.records ≡ true → count_by (λ (m : Makeup). is_kept a site Pm25 m.makeup) (credits a site quarter) ≡ count_by (λ (m : Makeup). is_kept b site Pm25 m.makeup) (credits a site quarter)
    unfolding credits
    credits-kept fit =
        count-agree (λ (m : Makeup). is_kept a site Pm25 m.makeup) (λ (m : Makeup). is_kept b site Pm25 m.makeup) (filter (gives_credit a site) (filter_map (makeup_by site quarter) a.records))
        (every-kept _ (gives_credit a site) (filter_map (makeup_by site quarter) a.records)
        (every-to (MadeIn quarter) (λ m. is_kept a site Pm25 m.makeup ≡ is_kept b site Pm25 m.makeup)
        (λ m is. ap (λ o. is_some (option_and_then unless_excluded o)) (days m.makeup (record { is_of = is.3; in_profile = is.2 })))
        (filter_map (makeup_by site quarter) a.records) (made-in a fit)))

    pub counts-same : list_all (fits_records a) a.records ≡ true → filter_map (makeup_by site quarter) a.records ≡ filter_map (makeup_by site quarter) b.records → quarter_counts a site quarter ≡ quarter_counts b site quarter
    unfolding quarter_counts
    counts-same fit made =
        let scheduled = scheduled_days-same a b site Pm25 quarter inside schedule in
        let sampled = counted-same a b site Pm25 quarter inside is_some days schedule in
        let kept = counted-same a b site Pm25 quarter inside (λ o. is_some (option_and_then unless_excluded o)) days schedule in
        let made_up = credits-same fit made in
        let made_kept = credits-kept fit ∙ ap (count_by (λ (m : Makeup). is_kept b site Pm25 m.makeup)) made_up in
        λ i. record {
          scheduled = length (scheduled i);
          creditable = sampled i + length (made_up i);
          counted = kept i + made_kept i;
        }

-- ---- a quarter out of reach

-- no schedule is one of ozone
ozone-given : (day : ℕ) (site : Site) (office : Office) (records : List OfficeRecord) → list_all (fits_records office) records ≡ true → filter_map (schedule_by site Ozone day) records ≡ []
ozone-given day site office [] fit = refl
ozone-given day site office (r ∷ records) fit =
    let parts = and_parts (fits_records office r) (list_all (fits_records office) records) fit in
    λ i. cons_option (none r (is_record-of site 0 office r parts.0) i) (ozone-given day site office records parts.1 i)
  where
    none : (row : OfficeRecord) → is_record row ≡ true → schedule_by site Ozone day row ≡ None
    none (ScheduleRecord s Ozone from interval anchor) is =
        let key = and_parts (is_site s && has_parameter Xs Ozone && is_day from) (is_content_of (ScheduleRecord s Ozone from interval anchor)) is in
        absurd (false≢true (and_parts (is_site s) false (and_parts (is_site s && false) (is_day from) key.0).0).1)
    none (ScheduleRecord s Pm25 from interval anchor) is = rw (and-false (is_same_site s site)) refl
    none (ScheduleRecord s Pm10 from interval anchor) is = rw (and-false (is_same_site s site)) refl
    none row is = refl

ozone-unscheduled : (office : Office) → IsOffice office → (site : Site) (day : ℕ) → is_scheduled office.records site Ozone day ≡ false
unfolding is_scheduled
ozone-unscheduled office valid site day =
    ap (λ (l : List Schedule). option_map_or (asks_for day) (latest (λ (s : Schedule). s.from) l) false) (ozone-given day site office office.records valid.records_fit)

-- a quarter reads the observations and the schedules of its days
pm25-reads : (records : List OfficeRecord) (site : Site) (quarter day hour : ℕ) → quarter_of day ≡ quarter → day_of_hour hour ≡ day → ReadsAt (QuarterCell site Pm25 quarter) records site Pm25 hour
pm25-reads records site quarter day hour is on = rw (on, is, cell-itself (QuarterCell site Pm25 quarter)) refl

pm10-reads : (records : List OfficeRecord) (site : Site) (quarter day hour : ℕ) → quarter_of day ≡ quarter → day_of_hour hour ≡ day → ReadsAt (QuarterCell site Pm10 quarter) records site Pm10 hour
pm10-reads records site quarter day hour is on =
    or_left (is_same_cell (QuarterCell site Pm10 quarter) (QuarterCell site Pm10 (quarter_of (day_of_hour hour)))) _
    (rw (on, is) (cell-itself (QuarterCell site Pm10 quarter)))

module _ (a b : Office) (site : Site) (quarter : ℕ) (valid : IsOffice a) (after : IsOffice b) where
  abbrev IsOut : Pollutant → Type 0
  IsOut pollutant = member (QuarterCell site pollutant quarter) (reach a b) ≡ false

  pub days-same : (pollutant : Pollutant) → IsOut pollutant → SameDays a b site pollutant quarter
  unfolding site_day
  days-same Ozone out day is = refl
  days-same Pm25 out day is =
      pm_day-out_of_reach a b site day is.in_profile valid after Pm25
      (day-out a b (QuarterCell site Pm25 quarter) site Pm25 day (λ hour on. pm25-reads a.records site quarter day hour is.is_of on) (λ hour on. pm25-reads b.records site quarter day hour is.is_of on) out)
  days-same Pm10 out day is =
      pm_day-out_of_reach a b site day is.in_profile valid after Pm10
      (day-out a b (QuarterCell site Pm10 quarter) site Pm10 day (λ hour on. pm10-reads a.records site quarter day hour is.is_of on) (λ hour on. pm10-reads b.records site quarter day hour is.is_of on) out)

  schedule-by_reading : (pollutant : Pollutant) → list_any (is_same_cell (QuarterCell site pollutant quarter)) (quarter_cells a.records site pollutant quarter) ≡ true → IsOut pollutant → SameSchedule a b site pollutant quarter
  schedule-by_reading pollutant here out day is =
      let cell = QuarterCell site pollutant quarter in
      scheduled-same cell a.records a b valid after site pollutant day is.in_profile
      (subst (λ q. list_any (is_same_cell cell) (quarter_cells a.records site pollutant q) ≡ true) (sym is.is_of) here)
      (λ from is_read. record-unreached a b cell a.records (unread a b cell out).0 (keys.Schedule site pollutant from) is_read)

  pub schedule-same : (pollutant : Pollutant) → IsOut pollutant → SameSchedule a b site pollutant quarter
  schedule-same Ozone out day is = ozone-unscheduled a valid site day ∙ sym (ozone-unscheduled b after site day)
  schedule-same Pm25 out day is = schedule-by_reading Pm25 (or_left _ _ (cell-itself (QuarterCell site Pm25 quarter))) out day is
  schedule-same Pm10 out day is = schedule-by_reading Pm10 (or_left _ _ (cell-itself (QuarterCell site Pm10 quarter))) out day is

  -- ---- make-ups

  makeup-read : (missed : ℕ) (is_new : Bool) → quarter_of missed ≡ quarter → reads a.records (QuarterCell site Pm25 quarter) (ChangedRecord (keys.Makeup site missed) is_new) ≡ true
  unfolding reads cells_reading
  makeup-read missed is_new is = rw (is, cell-itself (QuarterCell site Pm25 quarter)) refl

  makeups-same : IsOut Pm25 → filter_map (makeup_by site quarter) a.records ≡ filter_map (makeup_by site quarter) b.records
  makeups-same out =
      given-alike (makeup_by site quarter) is_made not-made a.records b.records
      (kept-alike record_rank is_made a.records b.records valid.keys_rise.records after.keys_rise.records alike)
    where
      is_made : OfficeRecord → Bool
      is_made (MakeupRecord other missed makeup) = is_same_site other site && (quarter_of missed == quarter)
      is_made r = false

      not-made : (r : OfficeRecord) → is_made r ≡ false → makeup_by site quarter r ≡ None
      not-made (MakeupRecord other missed makeup) is = rw is refl
      not-made r is = refl

      alike : (r : OfficeRecord) → is_made r ≡ true → row_at record_rank (record_rank r) a.records ≡ row_at record_rank (record_rank r) b.records
      alike (MakeupRecord other missed makeup) is =
          let parts = and_parts (is_same_site other site) (quarter_of missed == quarter) is in
          let cell = QuarterCell site Pm25 quarter in
          let key = keys.Makeup site missed in
          let stands = record-unreached a b cell a.records (unread a b cell out).0 key (makeup-read missed (is_new_in a.records key) (eqb-true (quarter_of missed) quarter parts.1)) in
          subst (λ (s : Site). row_at record_rank (record_rank (MakeupRecord s missed makeup)) a.records ≡ row_at record_rank (record_rank (MakeupRecord s missed makeup)) b.records)
          (sym (same_site other site parts.0)) stands
      alike r is = absurd (false≢true is)

  -- ---- the quarter

  module _ (inside : is_year (quarter_year quarter) ≡ true) where
    pub scheduled_days-out_of_reach : (pollutant : Pollutant) → IsOut pollutant → scheduled_days a site pollutant quarter ≡ scheduled_days b site pollutant quarter
    scheduled_days-out_of_reach pollutant out = scheduled_days-same a b site pollutant quarter inside (schedule-same pollutant out)

    pub values-out_of_reach : (pollutant : Pollutant) → IsOut pollutant → quarter_values a site pollutant quarter ≡ quarter_values b site pollutant quarter
    values-out_of_reach pollutant out = values-same a b site pollutant quarter inside (days-same pollutant out)

    pub credits-out_of_reach : IsOut Pm25 → credits a site quarter ≡ credits b site quarter
    credits-out_of_reach out = credits-same a b site quarter inside (days-same Pm25 out) (schedule-same Pm25 out) valid.records_fit (makeups-same out)

    pub pm25_quarter-out_of_reach : IsOut Pm25 → pm25_quarter a site quarter ≡ pm25_quarter b site quarter
    pm25_quarter-out_of_reach out =
        let counts = counts-same a b site quarter inside (days-same Pm25 out) (schedule-same Pm25 out) valid.records_fit (makeups-same out) in
        let values = values-same a b site Pm25 quarter inside (days-same Pm25 out) in
        λ i. record { counts = counts i; values = values i }

    pub pm10_quarter-out_of_reach : IsOut Pm10 → pm10_quarter a site quarter ≡ pm10_quarter b site quarter
    pm10_quarter-out_of_reach out = pm10_quarter-same a b site quarter inside (days-same Pm10 out) (schedule-same Pm10 out)
