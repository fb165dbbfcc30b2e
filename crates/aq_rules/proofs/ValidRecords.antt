-- A record that is added, that takes another's place or that is dropped leaves a valid office valid.
use Rattle.std.proofs.Common.{◌≡◌, ℕ, ◌+◌, ◌<◌, ◌≤◌, Bool, true, false, cond, ◌&&◌, ◌||◌, List, [], ◌∷◌, ◌++◌, length, Some, None, Option, refl, sym, ap, ◌∙◌, arith, subst}
use Rattle.std.specs.Prelude.{find, filter, count_by, is_some, nat_le, nat_lt, ◌==◌, if◌then◌else◌}
use Rattle.std.specs.List.{list_all, list_any}
use Rattle.std.proofs.lemmas.Bool.{false≢true, and_from, and_parts, eq-eqb, eqb-true, le-leb, leb-true}
use Rattle.std.proofs.lemmas.Bool.Decides.{nat_tests}
use Rattle.aq_base.specs.Site.{Site}
use Rattle.aq_base.specs.declared.monitor.Duration.{Duration}
use Rattle.aq_base.specs.declared.monitor.MonitorId.{MonitorId}
use Rattle.aq_base.specs.declared.monitor.Pollutant.{Pollutant}
use Rattle.aq_base.specs.declared.monitor.Pollutant.TheVariants.{Ozone, Pm25}
use Rattle.aq_base.specs.declared.observation.ObsKey.{ObsKey}
use Rattle.aq_base.specs.declared.observation.Observation.{Observation}
use Rattle.aq_base.specs.declared.office.OfficeRecord.{OfficeRecord}
use Rattle.aq_base.specs.declared.office.OfficeRecord.TheVariants.{Monitor, Primary, Schedule, Season, Makeup, Event, Concurrence, Approved, Combined}
use Rattle.aq_base.specs.declared.office.OfficeKey.{OfficeKey}
use Rattle.aq_base.specs.declared.office.OfficeKey.TheVariants.{Monitor as MonitorKey, Event as EventKey}
use Rattle.aq_rules.specs.Limits.{MOST_SITES, MOST_MONITORS, MOST_IN_LIST, MOST_MAKEUPS, MOST_EVENTS}
use Rattle.aq_rules.specs.Lines.Spellings.{◌>>=◌}
use Rattle.aq_rules.specs.Office.Office.{Office, IsOffice, KeysRise, is_same, key_of, key_numbers, record_rank, with_row, record_at, duration_at, monitor_duration, registers, has_monitor, site_numbers, sites_of, group_of, most_in_group, group_size, makes_up_on, makeups_on, series_numbers, combines_either, combinations_of, has_its_monitor, has_its_event, is_record, fits_records, is_alone, is_kept_hour, is_content, fits_monitors}
use Rattle.aq_rules.specs.Office.Refusal.{is_taken, is_combined}
use Rattle.aq_rules.specs.Office.Load.{with_record}
use Rattle.aq_rules.proofs.Lookups.{same-is, same-flip}
use Rattle.aq_rules.proofs.RowsPlaced.{Inserted, Replaced, is_same-refl, all_joined, all_at, all_rest, all_weaker, all_standing, any_joined, any_alike, is_some-find, find_alike, count_joined, count_alike, counted_once, filter_all, filter_keeps, find-filter, any-filter, count-filter, with_row-new, with_row-old, row_at-inserted}
use Rattle.aq_rules.proofs.SitesCounted.{sites_with, sites_joined, sites_alike, sites-filter}
use Rattle.aq_rules.specs.Office.RowOrder.{with_row-rises}

-- ---- numbers and tests

none_above : (n : ℕ) → nat_lt 0 n ≡ false → n ≡ 0
none_above n h = grind (arith, nat_tests)

pub some_keeps : {A B : Type 0} (a : Option A) (b : Option B) → ((x : A) → a ≡ Some x → is_some b ≡ true) → is_some a ≡ true → is_some b ≡ true
some_keeps None b go h = absurd (false≢true h)
some_keeps (Some x) b go h = go x refl

abbrev parts_site : ℕ → ℕ → ℕ → Site
parts_site state county number = record { state = state; county = county; number = number }

pub site_is : (a b : Site) → site_numbers a ≡ site_numbers b → a ≡ b
site_is a b e = whole a.state b.state a.county b.county a.number b.number (cc) (cc) (cc)
  where
    whole : (s t c d n m : ℕ) → s ≡ t → c ≡ d → n ≡ m → parts_site s c n ≡ parts_site t d m
    whole s t c d n m e f g = cc

-- ---- what monitors are rested on

-- the monitors of an office stand in another with their durations
pub record Keeps (before now : Office) : Type 0 where
  pub monitors : (site : Site) (pollutant : Pollutant) → has_monitor before site pollutant ≡ true → has_monitor now site pollutant ≡ true
  pub durations : (id : MonitorId) (duration : Duration) → duration_at before id ≡ Some duration → duration_at now id ≡ Some duration

monitor-keeps : (before now : Office) → Keeps before now → (r : OfficeRecord) → has_its_monitor before r ≡ true → has_its_monitor now r ≡ true
monitor-keeps before now keeps (Monitor id duration eligible) h = refl
monitor-keeps before now keeps (Primary site pollutant from poc) h = choose (poc == 0) h
  where
    choose : (b : Bool) → (if b then has_monitor before site pollutant else is_some (duration_at before (record { site = site; pollutant = pollutant; poc = poc }))) ≡ true
        → (if b then has_monitor now site pollutant else is_some (duration_at now (record { site = site; pollutant = pollutant; poc = poc }))) ≡ true
    choose true h = keeps.monitors site pollutant h
    choose false h =
        some_keeps (duration_at before _) (duration_at now _) (λ duration is. ap (λ o. is_some o) (keeps.durations (record { site = site; pollutant = pollutant; poc = poc }) duration is)) h
monitor-keeps before now keeps (Schedule site pollutant from interval anchor) h = keeps.monitors site pollutant h
monitor-keeps before now keeps (Season site year first last) h = keeps.monitors site Ozone h
monitor-keeps before now keeps (Makeup site missed makeup) h = keeps.monitors site Pm25 h
monitor-keeps before now keeps (Event number site pollutant first last code) h = keeps.monitors site pollutant h
monitor-keeps before now keeps (Concurrence number agreed) h = refl
monitor-keeps before now keeps (Approved site day) h = keeps.monitors site Ozone h
monitor-keeps before now keeps (Combined site pollutant from joined) h =
    let parts = and_parts (has_monitor before site pollutant) (has_monitor before joined pollutant) h in
    and_from (has_monitor now site pollutant) (has_monitor now joined pollutant) (keeps.monitors site pollutant parts.0) (keeps.monitors joined pollutant parts.1)

observation-keeps : (before now : Office) → Keeps before now → (row : ObsKey × Observation) → fits_monitors before row ≡ true → fits_monitors now row ≡ true
observation-keeps before now keeps row h =
    let parts = and_parts _ (is_content row.0.monitor.pollutant row.1) h in
    let hours = and_parts _ (is_kept_hour (duration_at before row.0.monitor) row.0.hour) parts.0 in
    and_from _ _
    (and_from _ _ hours.0 (kept (duration_at before row.0.monitor) (duration_at now row.0.monitor) row.0.hour (keeps.durations row.0.monitor) hours.1))
    parts.1
  where
    kept : (a b : Option Duration) (hour : ℕ) → ((duration : Duration) → a ≡ Some duration → b ≡ Some duration)
        → is_kept_hour a hour ≡ true → is_kept_hour b hour ≡ true
    kept None b hour go h = absurd (false≢true h)
    kept (Some duration) b hour go h = subst (λ o. is_kept_hour o hour ≡ true) (sym (go duration refl)) h

pub observations-keep : (before now : Office) → Keeps before now → (rows : List (ObsKey × Observation)) → list_all (fits_monitors before) rows ≡ true
    → list_all (fits_monitors now) rows ≡ true
observations-keep before now keeps rows h =
    all_weaker (fits_monitors before) (fits_monitors now) rows (observation-keeps before now keeps) h

-- ---- a record among the others

record Fits (office : Office) (r : OfficeRecord) : Type 0 where
  spelled : is_record r ≡ true
  monitor : has_its_monitor office r ≡ true
  event : has_its_event office r ≡ true
  few : group_size office r ≤ most_in_group r

fits_parts : (office : Office) (r : OfficeRecord) → fits_records office r ≡ true → Fits office r
fits_parts office r h =
    let few = and_parts _ (nat_le (group_size office r) (most_in_group r)) h in
    let event = and_parts _ (has_its_event office r) few.0 in
    let monitor = and_parts (is_record r) (has_its_monitor office r) event.0 in
    record { spelled = monitor.0; monitor = monitor.1; event = event.1; few = leb-true (group_size office r) (most_in_group r) few.1 }

parts_fit : (office : Office) (r : OfficeRecord) → Fits office r → fits_records office r ≡ true
parts_fit office r fits =
    and_from _ _ (and_from _ _ (and_from (is_record r) (has_its_monitor office r) fits.spelled fits.monitor) fits.event)
    (le-leb (group_size office r) (most_in_group r) fits.few)

-- the limit of a group, by its first number
most_for : List ℕ → ℕ
most_for [] = 1
most_for (kind ∷ parts) =
    if kind == 1 then MOST_MONITORS
    else (if (kind == 2) || (kind == 3) then MOST_IN_LIST
    else (if kind == 5 then MOST_MAKEUPS else (if kind == 6 then MOST_EVENTS else 1)))

most_of : (r : OfficeRecord) → most_in_group r ≡ most_for (group_of r)
unfolding most_for
most_of (Monitor id duration eligible) = refl
most_of (Primary site pollutant from poc) = refl
most_of (Schedule site pollutant from interval anchor) = refl
most_of (Season site year first last) = refl
most_of (Makeup site missed makeup) = refl
most_of (Event number site pollutant first last code) = refl
most_of (Concurrence number agreed) = refl
most_of (Approved site day) = refl
most_of (Combined site pollutant from joined) = refl

most-same : (r other : OfficeRecord) → group_of r ≡ group_of other → most_in_group r ≡ most_in_group other
most-same r other e = most_of r ∙ ap most_for e ∙ sym (most_of other)

-- ---- combinations that share a site

crossed : (a b c d : Bool) → ((a || c) || (b || d)) ≡ ((a || b) || (c || d))
crossed true b c d = refl
crossed false true true d = refl
crossed false true false d = refl
crossed false false c d = refl

-- which of two combinations is looked at makes no difference
either_way : (site joined other other_joined : Site) (p q : Pollutant) (from other_from : ℕ)
    → combines_either other other_joined q (Combined site p from joined) ≡ combines_either site joined p (Combined other q other_from other_joined)
either_way site joined other other_joined p q from other_from =
    (λ i. (same-flip (series_numbers site p) (series_numbers other q) i || same-flip (series_numbers joined p) (series_numbers other q) i)
    || (same-flip (series_numbers site p) (series_numbers other_joined q) i || same-flip (series_numbers joined p) (series_numbers other_joined q) i))
    ∙ crossed (is_same (series_numbers other q) (series_numbers site p)) (is_same (series_numbers other_joined q) (series_numbers site p))
    (is_same (series_numbers other q) (series_numbers joined p)) (is_same (series_numbers other_joined q) (series_numbers joined p))

pub combines_itself : (site joined : Site) (p : Pollutant) (from : ℕ) → combines_either site joined p (Combined site p from joined) ≡ true
combines_itself site joined p from = ap (λ b. (b || is_same (series_numbers joined p) (series_numbers site p)) || (is_same (series_numbers site p) (series_numbers joined p) || is_same (series_numbers joined p) (series_numbers joined p))) (is_same-refl (series_numbers site p) (series_numbers site p) refl)

-- ---- a new record

-- a record that may come to an office
pub record MayJoin (office : Office) (r : OfficeRecord) : Type 0 where
  pub new : record_at office (key_of r) ≡ None
  pub spelled : is_record r ≡ true
  pub monitor : has_its_monitor office r ≡ true
  pub event : has_its_event office r ≡ true
  pub room : group_size office r < most_in_group r
  pub free : is_taken office r ≡ false
  pub uncombined : is_combined office r ≡ false
  pub sites : length (sites_with r (sites_of office.records)) ≤ MOST_SITES

module _ (office : Office) (r : OfficeRecord) (may : MayJoin office r) where
  placed : Inserted r office.records (with_row record_rank r office.records)
  placed = with_row-new record_rank r office.records may.new

  counted : (p : OfficeRecord → Bool) → count_by p (with_row record_rank r office.records) ≡ count_by p office.records + cond {A = ℕ} (p r) 1 0
  unfolding placed
  counted p =
      ap (count_by p) placed.after ∙ count_joined p placed.front placed.back r
      ∙ ap (λ rows. count_by p rows + cond {A = ℕ} (p r) 1 0) (sym placed.before)

  found : (key : OfficeKey) (other : OfficeRecord) → record_at office key ≡ Some other → record_at (with_record r office) key ≡ Some other
  found key other is = row_at-inserted record_rank r office.records (key_numbers key) other may.new is

  joined-keeps : Keeps office (with_record r office)
  joined-keeps = record {
    monitors = λ site pollutant h.
        subst (λ rows. list_any (registers site pollutant) rows ≡ true) (sym placed.after)
        (any_joined (registers site pollutant) placed.front placed.back r
        (subst (λ rows. list_any (registers site pollutant) rows ≡ true) placed.before h));
    durations = λ id duration is. timed (record_at office (MonitorKey id)) (record_at (with_record r office) (MonitorKey id)) duration (found (MonitorKey id)) is;
  }
    where
      timed : (a b : Option OfficeRecord) (duration : Duration) → ((other : OfficeRecord) → a ≡ Some other → b ≡ Some other)
          → (a >>= monitor_duration) ≡ Some duration → (b >>= monitor_duration) ≡ Some duration
      timed None b duration go is = cc
      timed (Some other) b duration go is = ap (λ o. o >>= monitor_duration) (go other refl) ∙ is

  joined-event : (other : OfficeRecord) → has_its_event office other ≡ true → has_its_event (with_record r office) other ≡ true
  joined-event (Concurrence number agreed) h =
      some_keeps (record_at office (EventKey number)) (record_at (with_record r office) (EventKey number))
      (λ other is. ap (λ o. is_some o) (found (EventKey number) other is)) h
  joined-event other h = refl

  joined-few : (other : OfficeRecord) → group_size office other ≤ most_in_group other → group_size (with_record r office) other ≤ most_in_group other
  joined-few other few =
      choose (is_same (group_of r) (group_of other)) refl (counted (λ x. is_same (group_of x) (group_of other)))
    where
      choose : (b : Bool) → is_same (group_of r) (group_of other) ≡ b
          → group_size (with_record r office) other ≡ group_size office other + cond {A = ℕ} (is_same (group_of r) (group_of other)) 1 0
          → group_size (with_record r office) other ≤ most_in_group other
      choose true same count =
          let one : cond {A = ℕ} (is_same (group_of r) (group_of other)) 1 0 ≡ 1 = ap (λ b. cond {A = ℕ} b 1 0) same in
          let group = same-is (group_of r) (group_of other) same in
          let size : group_size office r ≡ group_size office other = ap (λ g. count_by (λ x. is_same (group_of x) g) office.records) group in
          let most = most-same r other group in
          let room = may.room in
          omega arith
      choose false same count =
          let none : cond {A = ℕ} (is_same (group_of r) (group_of other)) 1 0 ≡ 0 = ap (λ b. cond {A = ℕ} b 1 0) same in
          omega arith

  joined-fits : (other : OfficeRecord) → fits_records office other ≡ true → fits_records (with_record r office) other ≡ true
  joined-fits other h =
      let fits = fits_parts office other h in
      parts_fit (with_record r office) other (record {
        spelled = fits.spelled;
        monitor = monitor-keeps office (with_record r office) joined-keeps other fits.monitor;
        event = joined-event other fits.event;
        few = joined-few other fits.few;
      })

  joined-records : list_all (fits_records office) office.records ≡ true → list_all (fits_records (with_record r office)) (with_record r office).records ≡ true
  joined-records h =
      subst (λ rows. list_all (fits_records (with_record r office)) rows ≡ true) (sym placed.after)
      (all_joined (fits_records (with_record r office)) placed.front placed.back r own
      (all_weaker (fits_records office) (fits_records (with_record r office)) (placed.front ++ placed.back) joined-fits
      (subst (λ rows. list_all (fits_records office) rows ≡ true) placed.before h)))
    where
      own : fits_records (with_record r office) r ≡ true
      own =
          parts_fit (with_record r office) r (record {
            spelled = may.spelled;
            monitor = monitor-keeps office (with_record r office) joined-keeps r may.monitor;
            event = joined-event r may.event;
            few =
                let count = counted (λ x. is_same (group_of x) (group_of r)) in
                let one = at_most_one (is_same (group_of r) (group_of r)) in
                let room = may.room in
                omega arith;
          })
        where
          at_most_one : (b : Bool) → cond {A = ℕ} b 1 0 ≤ 1
          at_most_one true = omega arith
          at_most_one false = omega arith

  -- a make-up record's day is its own, beside another one's
  free_day : (site : Site) (makeup : ℕ) → makeups_on office site makeup ≡ 1 → (other : OfficeRecord) → is_taken office other ≡ false → makes_up_on site makeup other ≡ false
  free_day site makeup one (Makeup place missed day) free = choose (is_same (site_numbers place) (site_numbers site)) (day == makeup) refl refl
    where
      choose : (a b : Bool) → is_same (site_numbers place) (site_numbers site) ≡ a → (day == makeup) ≡ b → (a && b) ≡ false
      choose true true h k =
          let here : site_numbers place ≡ site_numbers site = same-is (site_numbers place) (site_numbers site) h in
          let at : day ≡ makeup = eqb-true day makeup k in
          let none : makeups_on office place day ≡ 0 = none_above (makeups_on office place day) free in
          let same : makeups_on office place day ≡ makeups_on office site makeup = cc (site_is place site here) in
          absurd (omega arith)
      choose true false h k = refl
      choose false b h k = refl
  free_day site makeup one other free = refl

  -- a combination that stands has no site of one that may join
  free_site : (site joined : Site) (p : Pollutant) (from : ℕ) (front back : List OfficeRecord) → office.records ≡ front ++ Combined site p from joined ∷ back
      → (other : OfficeRecord) → is_combined office other ≡ false → combines_either site joined p other ≡ false
  free_site site joined p from front back stands (Combined first q since second) free = choose (combines_either site joined p (Combined first q since second)) refl
    where
      choose : (b : Bool) → combines_either site joined p (Combined first q since second) ≡ b → b ≡ false
      choose false e = refl
      choose true e =
          let shared : combines_either first second q (Combined site p from joined) ≡ true = either_way site joined first second p q from since ∙ e in
          let none : combinations_of office first second q ≡ 0 = none_above (combinations_of office first second q) free in
          let some : 1 ≤ combinations_of office first second q =
          subst (λ rows. 1 ≤ count_by (combines_either first second q) rows) (sym stands) (counted_once (combines_either first second q) front back (Combined site p from joined) shared) in
          absurd (omega arith)
  free_site site joined p from front back stands other free = refl

  joined-alone : list_all (is_alone office) office.records ≡ true
      → list_all (is_alone (with_record r office)) (with_record r office).records ≡ true
  joined-alone h =
      subst (λ rows. list_all (is_alone (with_record r office)) rows ≡ true) (sym placed.after)
      (all_joined (is_alone (with_record r office)) placed.front placed.back r (own r refl)
      (all_standing (is_alone (with_record r office)) (placed.front ++ placed.back) (λ x front back stands.
      other x front back (placed.before ∙ stands)
      (all_at (is_alone office) front back x (subst (λ rows. list_all (is_alone office) rows ≡ true) (placed.before ∙ stands) h)))))
    where
      other : (x : OfficeRecord) (front back : List OfficeRecord) → office.records ≡ front ++ x ∷ back → is_alone office x ≡ true → is_alone (with_record r office) x ≡ true
      other (Makeup site missed makeup) front back stands h =
          let one = eqb-true (makeups_on office site makeup) 1 h in
          let beside : cond {A = ℕ} (makes_up_on site makeup r) 1 0 ≡ 0 = ap (λ b. cond {A = ℕ} b 1 0) (free_day site makeup one r may.free) in
          let count = counted (makes_up_on site makeup) in
          eq-eqb (makeups_on (with_record r office) site makeup) 1 (omega arith)
      other (Combined site p from joined) front back stands h =
          let one = eqb-true (combinations_of office site joined p) 1 h in
          let beside : cond {A = ℕ} (combines_either site joined p r) 1 0 ≡ 0 = ap (λ b. cond {A = ℕ} b 1 0) (free_site site joined p from front back stands r may.uncombined) in
          let count = counted (combines_either site joined p) in
          eq-eqb (combinations_of (with_record r office) site joined p) 1 (omega arith)
      other x front back stands h = refl

      own : (x : OfficeRecord) → x ≡ r → is_alone (with_record r office) x ≡ true
      own (Makeup site missed makeup) is =
          let free : is_taken office (Makeup site missed makeup) ≡ false = ap (is_taken office) is ∙ may.free in
          let none = none_above (makeups_on office site makeup) free in
          let itself : makes_up_on site makeup r ≡ true =
          ap (makes_up_on site makeup) (sym is)
          ∙ and_from _ _ (is_same-refl (site_numbers site) (site_numbers site) refl) (eq-eqb makeup makeup refl) in
          let once : cond {A = ℕ} (makes_up_on site makeup r) 1 0 ≡ 1 = ap (λ b. cond {A = ℕ} b 1 0) itself in
          let count = counted (makes_up_on site makeup) in
          eq-eqb (makeups_on (with_record r office) site makeup) 1 (omega arith)
      own (Combined site p from joined) is =
          let free : is_combined office (Combined site p from joined) ≡ false = ap (is_combined office) is ∙ may.uncombined in
          let none = none_above (combinations_of office site joined p) free in
          let itself : combines_either site joined p r ≡ true = ap (combines_either site joined p) (sym is) ∙ combines_itself site joined p from in
          let once : cond {A = ℕ} (combines_either site joined p r) 1 0 ≡ 1 = ap (λ b. cond {A = ℕ} b 1 0) itself in
          let count = counted (combines_either site joined p) in
          eq-eqb (combinations_of (with_record r office) site joined p) 1 (omega arith)
      own x is = refl

  joined-sites : length (sites_of (with_record r office).records) ≤ MOST_SITES
  joined-sites =
      let same : length (sites_of (placed.front ++ r ∷ placed.back)) ≡ length (sites_with r (sites_of (placed.front ++ placed.back))) =
      (sites_joined placed.front placed.back r).len in
      let before : length (sites_with r (sites_of office.records)) ≡ length (sites_with r (sites_of (placed.front ++ placed.back))) =
      ap (λ rows. length (sites_with r (sites_of rows))) placed.before in
      let after : length (sites_of (with_record r office).records) ≡ length (sites_of (placed.front ++ r ∷ placed.back)) =
      ap (λ rows. length (sites_of rows)) placed.after in
      let sites = may.sites in
      omega arith

  pub joined : IsOffice office → IsOffice (with_record r office)
  joined is = record {
    keys_rise = record {
      records = with_row-rises record_rank r office.records is.keys_rise.records;
      observations = is.keys_rise.observations;
      loads = is.keys_rise.loads;
    };
    records_fit = joined-records is.records_fit;
    records_alone = joined-alone is.records_alone;
    few_sites = joined-sites;
    observations_fit = observations-keep office (with_record r office) joined-keeps office.observations is.observations_fit;
    few_observations = is.few_observations;
    loads_fit = is.loads_fit;
    few_loads = is.few_loads;
  }

-- ---- a record that takes another's place

-- two records that the others cannot separate
pub record Alike (old r : OfficeRecord) : Type 0 where
  pub rank : record_rank old ≡ record_rank r
  pub duration : monitor_duration old ≡ monitor_duration r
  pub registers_same : (site : Site) (pollutant : Pollutant) → registers site pollutant old ≡ registers site pollutant r
  pub makes_up : (site : Site) (day : ℕ) → makes_up_on site day old ≡ makes_up_on site day r
  pub group : group_of old ≡ group_of r
  pub sites : (sites : List Site) → sites_with old sites ≡ sites_with r sites
  pub combined : (site joined : Site) (pollutant : Pollutant) → combines_either site joined pollutant old ≡ combines_either site joined pollutant r
  -- neither is a make-up record or a combination
  pub alone : (office : Office) → is_alone office r ≡ true

module _ (office : Office) (old r : OfficeRecord) (alike : Alike old r) (is : IsOffice office) (there : record_at office (key_of r) ≡ Some old) where
  put : Replaced old r office.records (with_row record_rank r office.records)
  put = with_row-old record_rank old r office.records is.keys_rise.records there

  same_count : (p : OfficeRecord → Bool) → p old ≡ p r → count_by p (with_row record_rank r office.records) ≡ count_by p office.records
  same_count p e =
      ap (count_by p) put.after ∙ sym (count_alike p put.front put.back old r e) ∙ ap (count_by p) (sym put.before)

  same_any : (p : OfficeRecord → Bool) → p old ≡ p r → list_any p (with_row record_rank r office.records) ≡ list_any p office.records
  same_any p e =
      ap (list_any p) put.after ∙ sym (any_alike p put.front put.back old r e) ∙ ap (list_any p) (sym put.before)

  same_stands : (key : OfficeKey) → is_some (record_at (with_record r office) key) ≡ is_some (record_at office key)
  same_stands key =
      is_some-find (λ x. is_same (record_rank x) (key_numbers key)) (with_row record_rank r office.records)
      ∙ same_any (λ x. is_same (record_rank x) (key_numbers key)) (ap (λ rank. is_same rank (key_numbers key)) alike.rank)
      ∙ sym (is_some-find (λ x. is_same (record_rank x) (key_numbers key)) office.records)

  replaced-keeps : Keeps office (with_record r office)
  replaced-keeps = record {
    monitors = λ site pollutant h. same_any (registers site pollutant) (alike.registers_same site pollutant) ∙ h;
    durations = λ id duration h.
        ap (λ rows. find (λ x. is_same (record_rank x) (key_numbers (MonitorKey id))) rows >>= monitor_duration) put.after
        ∙ sym (find_alike (λ x. is_same (record_rank x) (key_numbers (MonitorKey id))) monitor_duration put.front put.back old r
        (ap (λ rank. is_same rank (key_numbers (MonitorKey id))) alike.rank) alike.duration)
        ∙ ap (λ rows. find (λ x. is_same (record_rank x) (key_numbers (MonitorKey id))) rows >>= monitor_duration) (sym put.before)
        ∙ h;
  }

  replaced-event : (other : OfficeRecord) → has_its_event office other ≡ true → has_its_event (with_record r office) other ≡ true
  replaced-event (Concurrence number agreed) h = same_stands (EventKey number) ∙ h
  replaced-event other h = refl

  replaced-fits : (other : OfficeRecord) → Fits office other → fits_records (with_record r office) other ≡ true
  replaced-fits other fits =
      parts_fit (with_record r office) other (record {
        spelled = fits.spelled;
        monitor = monitor-keeps office (with_record r office) replaced-keeps other fits.monitor;
        event = replaced-event other fits.event;
        few =
            let count = same_count (λ x. is_same (group_of x) (group_of other)) (ap (λ group. is_same group (group_of other)) alike.group) in
            let few = fits.few in
            omega arith;
      })

  pub replaced : is_record r ≡ true → has_its_monitor office r ≡ true → has_its_event office r ≡ true → IsOffice (with_record r office)
  replaced spelled monitor event = record {
    keys_rise = record {
      records = with_row-rises record_rank r office.records is.keys_rise.records;
      observations = is.keys_rise.observations;
      loads = is.keys_rise.loads;
    };
    records_fit =
        let before = subst (λ rows. list_all (fits_records office) rows ≡ true) put.before is.records_fit in
        let here = fits_parts office old (all_at (fits_records office) put.front put.back old before) in
        subst (λ rows. list_all (fits_records (with_record r office)) rows ≡ true) (sym put.after)
        (all_joined (fits_records (with_record r office)) put.front put.back r
        (replaced-fits r (record {
          spelled = spelled;
          monitor = monitor;
          event = event;
          few =
              let size : group_size office old ≡ group_size office r = ap (λ group. count_by (λ x. is_same (group_of x) group) office.records) alike.group in
              let most = most-same old r alike.group in
              let few = here.few in
              omega arith;
        }))
        (all_weaker (fits_records office) (fits_records (with_record r office)) (put.front ++ put.back)
        (λ other h. replaced-fits other (fits_parts office other h))
        (all_rest (fits_records office) put.front put.back old before)));
    records_alone =
        let before = subst (λ rows. list_all (is_alone office) rows ≡ true) put.before is.records_alone in
        subst (λ rows. list_all (is_alone (with_record r office)) rows ≡ true) (sym put.after)
        (all_joined (is_alone (with_record r office)) put.front put.back r (alike.alone (with_record r office))
        (all_weaker (is_alone office) (is_alone (with_record r office)) (put.front ++ put.back) other
        (all_rest (is_alone office) put.front put.back old before)));
    few_sites =
        let same : length (sites_of (with_record r office).records) ≡ length (sites_of office.records) =
        ap (λ rows. length (sites_of rows)) put.after ∙ ap length (sym (sites_alike put.front put.back old r alike.sites))
        ∙ ap (λ rows. length (sites_of rows)) (sym put.before) in
        let few = is.few_sites in
        omega arith;
    observations_fit = observations-keep office (with_record r office) replaced-keeps office.observations is.observations_fit;
    few_observations = is.few_observations;
    loads_fit = is.loads_fit;
    few_loads = is.few_loads;
  }
    where
      other : (x : OfficeRecord) → is_alone office x ≡ true → is_alone (with_record r office) x ≡ true
      other (Makeup site missed makeup) h = ap (λ n. n == 1) (same_count (makes_up_on site makeup) (alike.makes_up site makeup)) ∙ h
      other (Combined site p from joined) h = ap (λ n. n == 1) (same_count (combines_either site joined p) (alike.combined site joined p)) ∙ h
      other x h = refl

-- ---- records that are dropped

-- the records that a test keeps
abbrev pub keeping : (OfficeRecord → Bool) → Office → Office
keeping keep office = record office { records = filter keep office.records }

-- all monitors are kept, and the event of each concurrence
pub record KeepsItsOwn (keep : OfficeRecord → Bool) : Type 0 where
  pub monitors : (id : MonitorId) (duration : Duration) (eligible : Bool) → keep (Monitor id duration eligible) ≡ true
  pub events : (number : ℕ) (agreed : Bool) (other : OfficeRecord) → keep (Concurrence number agreed) ≡ true
      → is_same (record_rank other) (key_numbers (EventKey number)) ≡ true → keep other ≡ true

module _ (office : Office) (keep : OfficeRecord → Bool) (own : KeepsItsOwn keep) where
  registered : (site : Site) (pollutant : Pollutant) (x : OfficeRecord) → registers site pollutant x ≡ true → keep x ≡ true
  registered site pollutant (Monitor id duration eligible) h = own.monitors id duration eligible
  registered site pollutant x h = absurd (false≢true h)

  numbered : (id : MonitorId) (x : OfficeRecord) → is_same (record_rank x) (key_numbers (MonitorKey id)) ≡ true → keep x ≡ true
  numbered id (Monitor other duration eligible) h = own.monitors other duration eligible
  numbered id x h = absurd (false≢true h)

  kept-keeps : Keeps office (keeping keep office)
  kept-keeps = record {
    monitors = λ site pollutant h. any-filter (registers site pollutant) keep office.records (registered site pollutant) ∙ h;
    durations = λ id duration h.
        ap (λ o. o >>= monitor_duration) (find-filter (λ x. is_same (record_rank x) (key_numbers (MonitorKey id))) keep office.records (numbered id)) ∙ h;
  }

  kept-event : (x : OfficeRecord) → keep x ≡ true → has_its_event office x ≡ true → has_its_event (keeping keep office) x ≡ true
  kept-event (Concurrence number agreed) kept h =
      ap (λ o. is_some o) (find-filter (λ x. is_same (record_rank x) (key_numbers (EventKey number))) keep office.records
      (λ other is. own.events number agreed other kept is)) ∙ h
  kept-event x kept h = refl

  kept-fits : (x : OfficeRecord) → keep x ≡ true → fits_records office x ≡ true → fits_records (keeping keep office) x ≡ true
  kept-fits x kept h =
      let fits = fits_parts office x h in
      parts_fit (keeping keep office) x (record {
        spelled = fits.spelled;
        monitor = monitor-keeps office (keeping keep office) kept-keeps x fits.monitor;
        event = kept-event x kept fits.event;
        few =
            let fewer = count-filter (λ other. is_same (group_of other) (group_of x)) keep office.records in
            let few = fits.few in
            omega arith;
      })

  -- what stands among the kept records and counts is counted at least once
  once : (p : OfficeRecord → Bool) (x : OfficeRecord) (front back rows : List OfficeRecord) → rows ≡ front ++ x ∷ back → p x ≡ true → 1 ≤ count_by p rows
  once p x front back rows is h = subst (λ l. 1 ≤ count_by p l) (sym is) (counted_once p front back x h)

  kept-alone : (x : OfficeRecord) (front back : List OfficeRecord) → filter keep office.records ≡ front ++ x ∷ back
      → is_alone office x ≡ true → is_alone (keeping keep office) x ≡ true
  kept-alone (Makeup site missed makeup) front back stands h =
      let one = eqb-true (makeups_on office site makeup) 1 h in
      let fewer = count-filter (makes_up_on site makeup) keep office.records in
      let itself = once (makes_up_on site makeup) (Makeup site missed makeup) front back (filter keep office.records) stands
      (and_from _ _ (is_same-refl (site_numbers site) (site_numbers site) refl) (eq-eqb makeup makeup refl)) in
      eq-eqb (makeups_on (keeping keep office) site makeup) 1 (omega arith)
  kept-alone (Combined site p from joined) front back stands h =
      let one = eqb-true (combinations_of office site joined p) 1 h in
      let fewer = count-filter (combines_either site joined p) keep office.records in
      let itself = once (combines_either site joined p) (Combined site p from joined) front back (filter keep office.records) stands (combines_itself site joined p from) in
      eq-eqb (combinations_of (keeping keep office) site joined p) 1 (omega arith)
  kept-alone x front back stands h = refl

  pub kept : KeysRise (keeping keep office) → IsOffice office → IsOffice (keeping keep office)
  kept rise is = record {
    keys_rise = rise;
    records_fit = all_standing (fits_records (keeping keep office)) (filter keep office.records) (λ x front back stands.
        kept-fits x
        (all_at keep front back x (subst (λ rows. list_all keep rows ≡ true) stands (filter_keeps keep office.records)))
        (all_at (fits_records office) front back x
        (subst (λ rows. list_all (fits_records office) rows ≡ true) stands (filter_all (fits_records office) keep office.records is.records_fit))));
    records_alone = all_standing (is_alone (keeping keep office)) (filter keep office.records) (λ x front back stands.
        kept-alone x front back stands
        (all_at (is_alone office) front back x
        (subst (λ rows. list_all (is_alone office) rows ≡ true) stands (filter_all (is_alone office) keep office.records is.records_alone))));
    few_sites =
        let same : length (sites_of (filter keep office.records)) ≡ length (sites_of office.records) = ap length (sites-filter keep office.records own.monitors) in
        let few = is.few_sites in
        omega arith;
    observations_fit = observations-keep office (keeping keep office) kept-keeps office.observations is.observations_fit;
    few_observations = is.few_observations;
    loads_fit = is.loads_fit;
    few_loads = is.few_loads;
  }
