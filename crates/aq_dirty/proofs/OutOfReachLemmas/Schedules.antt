-- A cell that reads a quarter reads the schedules that ask for its days. So if the same schedules stand in both offices that it reads in one of them, the same days are scheduled, whatever else has changed.
use Rattle.std.proofs.Common.{◌≡◌, ℕ, zero, ◌+◌, ◌-◌, ◌<◌, ◌≤◌, Bool, true, false, cond, ◌&&◌, List, [], ◌∷◌, refl, sym, ap, ◌∙◌, subst, arith, inl, inr}
use Rattle.std.specs.Prelude.{Option, Some, None, nat_le, nat_lt, slice_get, find, flat_map, MatchOption}
use Rattle.std.specs.List.{filter_map, list_any, list_all, Contains, All}
use Rattle.std.specs.Option.{option_map_or}
use Rattle.std.proofs.lemmas.Bool.{and_parts, cases_Bool, leb-true}
use Rattle.std.proofs.lemmas.Bool.Decides.{nat_tests}
use Rattle.std.proofs.lemmas.Option.{none-some}
use Rattle.std.proofs.lemmas.List.Elements.{All-contains}
use Rattle.aq_base.specs.Site.{Site}
use Rattle.aq_base.specs.Calendar.{quarter_of}
use Rattle.aq_base.specs.declared.day.TheConstants.{LAST_DAY}
use Rattle.aq_base.specs.declared.monitor.Pollutant.{Pollutant}
use Rattle.aq_base.specs.declared.office.OfficeRecord.{OfficeRecord}
use Rattle.aq_base.specs.declared.office.OfficeRecord.TheVariants.{Schedule as ScheduleRecord}
use Rattle.aq_base.specs.declared.office.OfficeKey.TheVariants as keys
use Rattle.aq_rules.specs.Lines.Spellings.{Xs, has_parameter}
use Rattle.aq_rules.specs.Lists.{latest}
use Rattle.aq_rules.specs.Office.Office.{Office, IsOffice, record_rank, row_at, rises, is_same, is_site, is_day, is_content_of, is_record, fits_records}
use Rattle.aq_rules.specs.Office.Monitors.{is_same_site, is_same_pollutant}
use Rattle.aq_rules.specs.Office.Questions.{first_given, record_of}
use Rattle.aq_rules.specs.Office.Sameness.{same_site, same_pollutant, site_itself, pollutant_itself}
use Rattle.aq_rules.specs.Office.Schedule.{Schedule, schedule_by, asks_for, is_scheduled}
use Rattle.aq_rules.specs.Kept.Cells.{CellName, is_same_cell}
use Rattle.aq_rules.specs.Kept.Reach.{ChangedRecord, reads, cells_reading, schedule_after, last_day_before, last_day_scheduled, quarter_cells, from_to}
use Rattle.aq_rules.proofs.Found.{some_is, given, listed}
use Rattle.aq_rules.proofs.Greatest.{latest-is}
use Rattle.aq_rules.proofs.Pm25Counts.{is_record-of}
use Rattle.aq_rules.proofs.Unreached.{is_new_in, any-in_range}
use Rattle.aq_dirty.proofs.OutOfReachLemmas.DaysOfQuarters.{quarters-rise}

-- ---- the record of a schedule

record IsSchedule (site : Site) (pollutant : Pollutant) (day : ℕ) (r : OfficeRecord) (s : Schedule) : Type 0 where
  row_is : r ≡ ScheduleRecord site pollutant s.from s.interval s.anchor
  begun : s.from ≤ day

schedule-of : (site : Site) (pollutant : Pollutant) (day : ℕ) (r : OfficeRecord) (s : Schedule) → schedule_by site pollutant day r ≡ Some s → IsSchedule site pollutant day r s
schedule-of site pollutant day (ScheduleRecord t p from interval anchor) s gives = by (is_same_site t site && is_same_pollutant p pollutant && nat_le from day) refl gives
  where
    by : (b : Bool) → (is_same_site t site && is_same_pollutant p pollutant && nat_le from day) ≡ b
        → cond b (Some (record { from = from; interval = interval; anchor = anchor })) None ≡ Some s → IsSchedule site pollutant day (ScheduleRecord t p from interval anchor) s
    by true is gives =
        let ends = and_parts (is_same_site t site && is_same_pollutant p pollutant) (nat_le from day) is in
        let series = and_parts (is_same_site t site) (is_same_pollutant p pollutant) ends.0 in
        let e : record { from = from; interval = interval; anchor = anchor } ≡ s = some_is _ _ gives in
        subst (λ (x : Schedule). IsSchedule site pollutant day (ScheduleRecord t p from interval anchor) x) e
        (record {
          row_is = ap (λ x. ScheduleRecord x p from interval anchor) (same_site t site series.0) ∙ ap (λ x. ScheduleRecord site x from interval anchor) (same_pollutant p pollutant series.1);
          begun = leb-true from day ends.1;
        })
    by false is gives = absurd (none-some s gives)
schedule-of site pollutant day r s gives = absurd (none-some s gives)

schedule-by : (site : Site) (pollutant : Pollutant) (day : ℕ) (s : Schedule) → s.from ≤ day → schedule_by site pollutant day (ScheduleRecord site pollutant s.from s.interval s.anchor) ≡ Some s
schedule-by site pollutant day s begun =
    let t : nat_le s.from day ≡ true = grind (arith, nat_tests) in
    rw (site_itself site, pollutant_itself pollutant, t) refl

-- that of one that starts after a day
record IsLater (site : Site) (pollutant : Pollutant) (day : ℕ) (r : OfficeRecord) (from : ℕ) : Type 0 where
  interval : ℕ
  anchor : ℕ
  row_is : r ≡ ScheduleRecord site pollutant from interval anchor
  later : day < from

later-of : (site : Site) (pollutant : Pollutant) (day : ℕ) (r : OfficeRecord) (n : ℕ) → schedule_after site pollutant day r ≡ Some n → IsLater site pollutant day r n
later-of site pollutant day (ScheduleRecord t p from interval anchor) n gives = by (is_same_site t site && is_same_pollutant p pollutant && nat_lt day from) refl gives
  where
    by : (b : Bool) → (is_same_site t site && is_same_pollutant p pollutant && nat_lt day from) ≡ b
        → cond b (Some from) None ≡ Some n → IsLater site pollutant day (ScheduleRecord t p from interval anchor) n
    by true is gives =
        let ends = and_parts (is_same_site t site && is_same_pollutant p pollutant) (nat_lt day from) is in
        let series = and_parts (is_same_site t site) (is_same_pollutant p pollutant) ends.0 in
        subst (λ (x : ℕ). IsLater site pollutant day (ScheduleRecord t p from interval anchor) x) (some_is from n gives)
        (record {
          interval = interval;
          anchor = anchor;
          row_is = ap (λ x. ScheduleRecord x p from interval anchor) (same_site t site series.0) ∙ ap (λ x. ScheduleRecord site x from interval anchor) (same_pollutant p pollutant series.1);
          later = (let t = ends.1 in grind (arith, nat_tests));
        })
    by false is gives = absurd (none-some n gives)
later-of site pollutant day r n gives = absurd (none-some n gives)

-- what is found in a list passes the tests that all of it passes
found-passes : {X : Type 0} (test at : X → Bool) (rows : List X) (r : X) → list_all test rows ≡ true → find at rows ≡ Some r → test r ≡ true
found-passes test at [] r all found = absurd (none-some r found)
found-passes test at (x ∷ rows) r all found =
    by (at x) (λ there. found-passes test at rows r (and_parts (test x) (list_all test rows) all).1 there) found
  where
    by : (b : Bool) → (find at rows ≡ Some r → test r ≡ true) → cond b (Some x) (find at rows) ≡ Some r → test r ≡ true
    by true rest found = subst (λ y. test y ≡ true) (some_is x r found) (and_parts (test x) (list_all test rows) all).0
    by false rest found = rest found

starts-in_profile : (office : Office) (r : OfficeRecord) (site : Site) (pollutant : Pollutant) (from interval anchor : ℕ) → fits_records office r ≡ true
    → r ≡ ScheduleRecord site pollutant from interval anchor → from ≤ LAST_DAY
starts-in_profile office r site pollutant from interval anchor fits is =
    let whole : is_record (ScheduleRecord site pollutant from interval anchor) ≡ true = ap is_record (sym is) ∙ is_record-of site 0 office r fits in
    let key = and_parts (is_site site && has_parameter Xs pollutant && is_day from) (is_content_of (ScheduleRecord site pollutant from interval anchor)) whole in
    leb-true from LAST_DAY (and_parts (is_site site && has_parameter Xs pollutant) (is_day from) key.0).1

-- ---- the last schedule that has begun

abbrev by_day : List OfficeRecord → Site → Pollutant → ℕ → List Schedule
by_day records site pollutant day = filter_map (schedule_by site pollutant day) records

abbrev NoneLater : List Schedule → ℕ → Type 0
NoneLater schedules from = All (λ (o : Schedule). o.from ≤ from) schedules

abbrev IsLast : List Schedule → Schedule → Type 0
IsLast schedules s = Contains schedules s × NoneLater schedules s.from

last-is : (xs : List Schedule) (o : Option Schedule) → latest (λ (s : Schedule). s.from) xs ≡ o → MatchOption o (xs ≡ []) (IsLast xs)
last-is xs o is = subst (λ (p : Option Schedule). MatchOption p (xs ≡ []) (IsLast xs)) is (latest-is (λ (s : Schedule). s.from) xs)

none-contained : {X : Type 0} (s : X) → Contains [] s → ⊥
none-contained s (k, within, here) = omega (arith, within)

nothing-in : (xs : List Schedule) (s : Schedule) → xs ≡ [] → Contains xs s → ⊥
nothing-in xs s none has = none-contained s (subst (λ (l : List Schedule). Contains l s) none has)

none-later : (xs : List Schedule) (from : ℕ) → xs ≡ [] → NoneLater xs from
none-later xs from none = subst (λ (l : List Schedule). NoneLater l from) (sym none) (λ k d within. absurd (omega (arith, within)))

still-none_later : (xs : List Schedule) (from more : ℕ) → from ≤ more → NoneLater xs from → NoneLater xs more
still-none_later xs from more most none = λ k d within. let here = none k d within in omega (arith, here, most)

first-contained : (xs : List ℕ) (n : ℕ) → slice_get xs 0 ≡ Some n → Contains xs n
first-contained [] n e = absurd (none-some n e)
first-contained (x ∷ xs) n e = (zero, omega arith, some_is x n e)

module _ (office : Office) (valid : IsOffice office) (site : Site) (pollutant : Pollutant) (day : ℕ) (profile : day ≤ LAST_DAY) where
  abbrev rows : List OfficeRecord
  rows = office.records

  abbrev next_after : ℕ → Option ℕ
  next_after from = first_given (schedule_after site pollutant from) rows

  record IsNext (from n : ℕ) : Type 0 where
    row : OfficeRecord
    is_later : IsLater site pollutant from row n
    stands : row_at record_rank (record_rank row) rows ≡ Some row

  next-is : (from n : ℕ) → next_after from ≡ Some n → IsNext from n
  next-is from n is =
      let other = given record_rank (schedule_after site pollutant from) rows n valid.keys_rise.records (first-contained _ n is) in
      record { row = other.row; is_later = later-of site pollutant from other.row n other.gives; stands = other.stands }

  -- the day lies before the next start, since what has begun by it is none later
  within-days : (from : ℕ) → NoneLater (by_day rows site pollutant day) from → day ≤ last_day_scheduled rows site pollutant from
  within-days from last = by (next_after from) refl
    where
      not-begun : (n : ℕ) → next_after from ≡ Some n → day < n
      not-begun n is =
          let next = next-is from n is in
          elim (cases_Bool (nat_le n day)) [
            | inl begun ↦
                let s : Schedule = record { from = n; interval = next.is_later.interval; anchor = next.is_later.anchor } in
                let gives : schedule_by site pollutant day next.row ≡ Some s =
                ap (schedule_by site pollutant day) next.is_later.row_is ∙ schedule-by site pollutant day s (leb-true n day begun) in
                let has = listed (schedule_by site pollutant day) (λ row. is_same (record_rank row) (record_rank next.row)) rows next.row s next.stands gives in
                let most : n ≤ from = All-contains (λ (o : Schedule). o.from ≤ from) (by_day rows site pollutant day) s last has in
                let more = next.is_later.later in
                absurd (omega (arith, most, more))
            | inr not_yet ↦ grind (arith, nat_tests)
          ]

      by : (o : Option ℕ) → next_after from ≡ o → day ≤ last_day_before o
      by None is = profile
      by (Some n) is = let b = not-begun n is in omega (arith, b)

  last-in_profile : (from : ℕ) → last_day_scheduled rows site pollutant from ≤ LAST_DAY
  last-in_profile from = by (next_after from) refl
    where
      by : (o : Option ℕ) → next_after from ≡ o → last_day_before o ≤ LAST_DAY
      by None is = omega arith
      by (Some n) is =
          let next = next-is from n is in
          let fits = found-passes (fits_records office) (λ row. is_same (record_rank row) (record_rank next.row)) rows next.row valid.records_fit next.stands in
          let start = starts-in_profile office next.row site pollutant n next.is_later.interval next.is_later.anchor fits next.is_later.row_is in
          omega (arith, start)

  schedule-read : (cell : CellName) (from : ℕ) (is_new : Bool) → list_any (is_same_cell cell) (quarter_cells rows site pollutant (quarter_of day)) ≡ true
      → from ≤ day → NoneLater (by_day rows site pollutant day) from → reads rows cell (ChangedRecord (keys.Schedule site pollutant from) is_new) ≡ true
  unfolding reads cells_reading
  schedule-read cell from is_new here begun last =
      let low = quarters-rise from day begun profile in
      let high = quarters-rise day (last_day_scheduled rows site pollutant from) (within-days from last) (last-in_profile from) in
      in-span (quarter_of from) (quarter_of day) (quarter_of (last_day_scheduled rows site pollutant from)) low high here
    where
      in-span : (a q b : ℕ) → a ≤ q → q ≤ b → list_any (is_same_cell cell) (quarter_cells rows site pollutant q) ≡ true
          → list_any (is_same_cell cell) (flat_map (quarter_cells rows site pollutant) (from_to a b)) ≡ true
      in-span a q b low high here = any-in_range (is_same_cell cell) (quarter_cells rows site pollutant) a (b + 1 - a) q low (omega (arith, low, high)) here

  one-schedule : (s t : Schedule) → s.from ≡ t.from → Contains (by_day rows site pollutant day) s → Contains (by_day rows site pollutant day) t → s ≡ t
  one-schedule s t from has also =
      let q = given record_rank (schedule_by site pollutant day) rows s valid.keys_rise.records has in
      let r = given record_rank (schedule_by site pollutant day) rows t valid.keys_rise.records also in
      let m = schedule-of site pollutant day q.row s q.gives in
      let n = schedule-of site pollutant day r.row t r.gives in
      let ranks : record_rank q.row ≡ record_rank r.row =
      ap record_rank m.row_is ∙ ap (λ k. record_rank (ScheduleRecord site pollutant k s.interval s.anchor)) from ∙ sym (ap record_rank n.row_is) in
      let rows_are : q.row ≡ r.row = some_is q.row r.row (sym q.stands ∙ ap (λ (k : List ℕ). row_at record_rank k rows) ranks ∙ r.stands) in
      some_is s t (sym q.gives ∙ ap (schedule_by site pollutant day) rows_are ∙ r.gives)

-- ---- the same days

-- the same stands in both offices under each key of a schedule of the site and pollutant that the cell reads in the old one; which are new is said by the records of before
abbrev pub SameSchedules : CellName → List OfficeRecord → Office → Office → Site → Pollutant → Type 0
SameSchedules cell before old new site pollutant =
    (from : ℕ) → reads old.records cell (ChangedRecord (keys.Schedule site pollutant from) (is_new_in before (keys.Schedule site pollutant from))) ≡ true
    → record_of old.records (keys.Schedule site pollutant from) ≡ record_of new.records (keys.Schedule site pollutant from)

module _ (cell : CellName) (before : List OfficeRecord) (old new : Office) (valid : IsOffice old) (after : IsOffice new) (site : Site) (pollutant : Pollutant) (day : ℕ) (profile : day ≤ LAST_DAY)
    (here : list_any (is_same_cell cell) (quarter_cells old.records site pollutant (quarter_of day)) ≡ true) (same : SameSchedules cell before old new site pollutant) where
  abbrev in_old : List Schedule
  in_old = by_day old.records site pollutant day

  abbrev in_new : List Schedule
  in_new = by_day new.records site pollutant day

  -- under the key of a start that no schedule of the old office has begun after, the same stands in both
  alike : (from : ℕ) → from ≤ day → NoneLater in_old from → row_at record_rank (record_rank (ScheduleRecord site pollutant from 0 0)) old.records ≡ row_at record_rank (record_rank (ScheduleRecord site pollutant from 0 0)) new.records
  alike from begun last =
      same from (schedule-read old valid site pollutant day profile cell from (is_new_in before (keys.Schedule site pollutant from)) here begun last)

  moved : (xs ys : List OfficeRecord) (s : Schedule) → rises record_rank xs ≡ true → row_at record_rank (record_rank (ScheduleRecord site pollutant s.from 0 0)) xs ≡ row_at record_rank (record_rank (ScheduleRecord site pollutant s.from 0 0)) ys
      → Contains (by_day xs site pollutant day) s → Contains (by_day ys site pollutant day) s
  moved xs ys s up one has =
      let r = given record_rank (schedule_by site pollutant day) xs s up has in
      let m = schedule-of site pollutant day r.row s r.gives in
      let there : row_at record_rank (record_rank r.row) ys ≡ Some r.row =
      subst (λ x. row_at record_rank (record_rank x) ys ≡ row_at record_rank (record_rank x) xs) (sym m.row_is) (sym one) ∙ r.stands in
      listed (schedule_by site pollutant day) (λ row. is_same (record_rank row) (record_rank r.row)) ys r.row s there r.gives

  onto : (s : Schedule) → NoneLater in_old s.from → s.from ≤ day → Contains in_old s → Contains in_new s
  onto s last begun has = moved old.records new.records s valid.keys_rise.records (alike s.from begun last) has

  back : (s : Schedule) → NoneLater in_old s.from → s.from ≤ day → Contains in_new s → Contains in_old s
  back s last begun has = moved new.records old.records s after.keys_rise.records (sym (alike s.from begun last)) has

  has-begun : (office : Office) → IsOffice office → (s : Schedule) → Contains (by_day office.records site pollutant day) s → s.from ≤ day
  has-begun office is s has =
      let r = given record_rank (schedule_by site pollutant day) office.records s is.keys_rise.records has in
      (schedule-of site pollutant day r.row s r.gives).begun

  latest-same : (o p : Option Schedule) → latest (λ (s : Schedule). s.from) in_old ≡ o → latest (λ (s : Schedule). s.from) in_new ≡ p → o ≡ p
  latest-same None None is are = refl
  latest-same None (Some t) is are =
      let none = last-is in_old None is in
      let second = last-is in_new (Some t) are in
      absurd (nothing-in in_old t none (back t (none-later in_old t.from none) (has-begun new after t second.0) second.0))
  latest-same (Some s) None is are =
      let first = last-is in_old (Some s) is in
      absurd (nothing-in in_new s (last-is in_new None are) (onto s first.1 (has-begun old valid s first.0) first.0))
  latest-same (Some s) (Some t) is are =
      let first = last-is in_old (Some s) is in
      let second = last-is in_new (Some t) are in
      let s_there = onto s first.1 (has-begun old valid s first.0) first.0 in
      let low : s.from ≤ t.from = All-contains (λ (o : Schedule). o.from ≤ t.from) in_new s second.1 s_there in
      let t_here = back t (still-none_later in_old s.from t.from low first.1) (has-begun new after t second.0) second.0 in
      let high : t.from ≤ s.from = All-contains (λ (o : Schedule). o.from ≤ s.from) in_old t first.1 t_here in
      ap (λ (x : Schedule). Some x) (one-schedule old valid site pollutant day profile s t (omega (arith, low, high)) first.0 t_here)

  pub scheduled-same : is_scheduled old.records site pollutant day ≡ is_scheduled new.records site pollutant day
  unfolding is_scheduled
  scheduled-same = ap (λ (o : Option Schedule). option_map_or (asks_for day) o false) (latest-same _ _ refl refl)
