-- A cell that reads an observation at an hour reads the records that say what counts there. So if none of those changed, the same counts: exclusions and eligible monitors.
use Rattle.std.proofs.Common.{◌≡◌, ℕ, zero, suc, ◌+◌, ◌-◌, ◌<◌, ◌≤◌, Bool, true, false, ◌&&◌, ◌||◌, refl, sym, ap, ◌∙◌, subst, arith, List}
use Rattle.std.specs.Prelude.{Some, is_none, nat_le, ◌==◌, flat_map}
use Rattle.std.specs.List.{list_any, range_with_len}
use Rattle.std.proofs.Math.Bool.{or-true}
use Rattle.std.proofs.lemmas.Bool.{false≢true, and_parts, and_from}
use Rattle.std.proofs.lemmas.Bool.Decides.{nat_tests}
use Rattle.std.proofs.lemmas.List.Folds.{list_any-append}
use Rattle.aq_base.specs.Site.{Site}
use Rattle.aq_base.specs.declared.code.Code.{Code}
use Rattle.aq_base.specs.declared.day.TheConstants.{LAST_HOUR}
use Rattle.aq_base.specs.declared.monitor.MonitorId.{MonitorId}
use Rattle.aq_base.specs.declared.monitor.Pollutant.{Pollutant}
use Rattle.aq_base.specs.declared.observation.ObsKey.{ObsKey}
use Rattle.aq_base.specs.declared.office.OfficeRecord.{OfficeRecord}
use Rattle.aq_base.specs.declared.office.OfficeRecord.TheVariants.{Monitor, Event, Concurrence}
use Rattle.aq_base.specs.declared.office.OfficeKey.{OfficeKey}
use Rattle.aq_base.specs.declared.office.OfficeKey.TheVariants as keys
use Rattle.aq_rules.specs.Office.Office.{record_rank, rises}
use Rattle.aq_rules.specs.Office.Monitors.{is_same_site, is_same_pollutant, is_same_monitor, is_eligible, makes_eligible}
use Rattle.aq_rules.specs.Office.Questions.{record_of}
use Rattle.aq_rules.specs.Office.Exclusion.{excluded, takes_out, agrees_to, is_flagged, is_within}
use Rattle.aq_rules.specs.Office.Sameness.{same_site, same_pollutant, same_monitor}
use Rattle.aq_rules.specs.Kept.Cells.{CellName, is_same_cell}
use Rattle.aq_rules.specs.Kept.Reach.{ChangedRecord, reads, cells_reading, cells_in, cells_at, from_to, every_hour}
use Rattle.aq_rules.proofs.Found.{Stands, any-onto, both_or_neither}

-- ---- spans

-- what is read at one number is read in each range that holds the number
pub any-in_range : {X : Type 0} (p : X → Bool) (f : ℕ → List X) (a n h : ℕ) → a ≤ h → h < a + n → list_any p (f h) ≡ true → list_any p (flat_map f (range_with_len a n)) ≡ true
any-in_range p f a zero h low high here = absurd (omega (arith, low, high))
any-in_range p f a (suc n) h low high here =
    list_any-append p (f a) (flat_map f (range_with_len (a + 1) n))
    ∙ by (a == h) refl (λ off. any-in_range p f (a + 1) n h (omega (arith, low, off)) (omega (arith, high)) here)
  where
    by : (b : Bool) → (a == h) ≡ b → (a < h → list_any p (flat_map f (range_with_len (a + 1) n)) ≡ true)
        → (list_any p (f a) || list_any p (flat_map f (range_with_len (a + 1) n))) ≡ true
    by true is rest =
        let same : a ≡ h = grind (arith, nat_tests) in
        rw (subst (λ k. list_any p (f k) ≡ true) (sym same) here) refl
    by false is rest =
        let off : a < h = grind (arith, nat_tests) in
        rw (rest off) (or-true (list_any p (f a)))

-- the cell reads an observation of the site and pollutant at the hour, in an office with these records
abbrev pub ReadsAt : CellName → List OfficeRecord → Site → Pollutant → ℕ → Type 0
ReadsAt cell records site pollutant hour = list_any (is_same_cell cell) (cells_at records site pollutant hour) ≡ true

pub read_in_span : (cell : CellName) (records : List OfficeRecord) (site : Site) (pollutant : Pollutant) (hour first last : ℕ) → ReadsAt cell records site pollutant hour → first ≤ hour → hour ≤ last
    → list_any (is_same_cell cell) (cells_in records site pollutant (from_to first last)) ≡ true
read_in_span cell records site pollutant hour first last here low high =
    any-in_range (is_same_cell cell) (cells_at records site pollutant) first (last + 1 - first) hour low (omega (arith, low, high)) here

-- every_hour is unfolded here alone: with its numbers in sight a goal has hundreds of thousands of hours
read_anywhere : (cell : CellName) (records : List OfficeRecord) (site : Site) (pollutant : Pollutant) (hour : ℕ) → ReadsAt cell records site pollutant hour → hour ≤ LAST_HOUR
    → list_any (is_same_cell cell) (cells_in records site pollutant every_hour) ≡ true
unfolding every_hour
read_anywhere cell records site pollutant hour here profile = read_in_span cell records site pollutant hour 0 LAST_HOUR here (omega arith) profile

-- ---- records that are the same

-- whether nothing stands under the key
abbrev pub is_new_in : List OfficeRecord → OfficeKey → Bool
is_new_in records key = is_none (record_of records key)

-- in two lists of records the same stands under each key that the cell reads in the first; which monitors are new is said by the records of before
abbrev pub SameWhereRead : CellName → List OfficeRecord → List OfficeRecord → List OfficeRecord → Type 0
SameWhereRead cell before old new =
    (key : OfficeKey) → reads old cell (ChangedRecord key (is_new_in before key)) ≡ true → record_of old key ≡ record_of new key

-- whether the key is of the site and pollutant, at the hour
abbrev pub is_at : Site → Pollutant → ℕ → ObsKey → Bool
is_at site pollutant hour key =
    is_same_pollutant key.monitor.pollutant pollutant && is_same_site key.monitor.site site && (key.hour == hour)

pub record IsAt (site : Site) (pollutant : Pollutant) (hour : ℕ) (key : ObsKey) : Type 0 where
  pub at_site : key.monitor.site ≡ site
  pub of_pollutant : key.monitor.pollutant ≡ pollutant
  pub at_hour : key.hour ≡ hour

pub is_at-parts : (site : Site) (pollutant : Pollutant) (hour : ℕ) (key : ObsKey) → is_at site pollutant hour key ≡ true → IsAt site pollutant hour key
is_at-parts site pollutant hour key is =
    let whole = and_parts (is_same_pollutant key.monitor.pollutant pollutant && is_same_site key.monitor.site site) (key.hour == hour) is in
    let series = and_parts (is_same_pollutant key.monitor.pollutant pollutant) (is_same_site key.monitor.site site) whole.0 in
    record {
      at_site = same_site key.monitor.site site series.1;
      of_pollutant = same_pollutant key.monitor.pollutant pollutant series.0;
      at_hour = (let t = whole.1 in grind (arith, nat_tests));
    }

module _ (cell : CellName) (before old new : List OfficeRecord) (site : Site) (pollutant : Pollutant) (hour : ℕ)
    (here : ReadsAt cell old site pollutant hour) (up : rises record_rank old ≡ true) (same : SameWhereRead cell before old new) where
  -- ---- exclusions

  event-read : (number first last : ℕ) (code : Code) (is_new : Bool) → record_of old (keys.Event number) ≡ Some (Event number site pollutant first last code) → first ≤ hour → hour ≤ last
      → reads old cell (ChangedRecord (keys.Event number) is_new) ≡ true
  unfolding reads cells_reading
  event-read number first last code is_new stands low high = rw stands (read_in_span cell old site pollutant hour first last here low high)

  concurrence-read : (number first last : ℕ) (code : Code) (is_new : Bool) → record_of old (keys.Event number) ≡ Some (Event number site pollutant first last code) → first ≤ hour → hour ≤ last
      → reads old cell (ChangedRecord (keys.Concurrence number) is_new) ≡ true
  unfolding reads cells_reading
  concurrence-read number first last code is_new stands low high = rw stands (read_in_span cell old site pollutant hour first last here low high)

  agreed-onto : (number first last : ℕ) (code : Code) → record_of old (keys.Event number) ≡ Some (Event number site pollutant first last code) → first ≤ hour → hour ≤ last
      → list_any (agrees_to number) old ≡ true → list_any (agrees_to number) new ≡ true
  agreed-onto number first last code stands low high = any-onto record_rank (agrees_to number) (agrees_to number) old new up onto
    where
      onto : (r : OfficeRecord) → agrees_to number r ≡ true → Stands record_rank old r → (agrees_to number r ≡ true) × Stands record_rank new r
      onto (Concurrence other agreed) is at =
          let e : other ≡ number = grind (arith, nat_tests) in
          let read : reads old cell (ChangedRecord (keys.Concurrence other) (is_new_in before (keys.Concurrence other))) ≡ true =
          subst (λ n. reads old cell (ChangedRecord (keys.Concurrence n) (is_new_in before (keys.Concurrence other))) ≡ true) (sym e)
          (concurrence-read number first last code (is_new_in before (keys.Concurrence other)) stands low high)
          in
          (is, sym (same (keys.Concurrence other) read) ∙ at)
      onto r is at = absurd (false≢true is)

  pub excluded-onto : (key : ObsKey) (codes : List Code) → is_at site pollutant hour key ≡ true → excluded old key codes ≡ true → excluded new key codes ≡ true
  unfolding excluded
  excluded-onto key codes is_here = any-onto record_rank (takes_out old key codes) (takes_out new key codes) old new up onto
    where
      onto : (r : OfficeRecord) → takes_out old key codes r ≡ true → Stands record_rank old r → (takes_out new key codes r ≡ true) × Stands record_rank new r
      onto (Event number s p first last code) is at =
          let place = is_at-parts site pollutant hour key is_here in
          let parts = and_parts (is_flagged code codes && is_within s p first last key) (list_any (agrees_to number) old) is in
          let flags = and_parts (is_flagged code codes) (is_within s p first last key) parts.0 in
          let ends = and_parts (is_same_site key.monitor.site s && is_same_pollutant key.monitor.pollutant p && nat_le first key.hour) (nat_le key.hour last) flags.1 in
          let starts = and_parts (is_same_site key.monitor.site s && is_same_pollutant key.monitor.pollutant p) (nat_le first key.hour) ends.0 in
          let series = and_parts (is_same_site key.monitor.site s) (is_same_pollutant key.monitor.pollutant p) starts.0 in
          let at_site : s ≡ site = sym (same_site key.monitor.site s series.0) ∙ place.at_site in
          let of_pollutant : p ≡ pollutant = sym (same_pollutant key.monitor.pollutant p series.1) ∙ place.of_pollutant in
          let at_hour = place.at_hour in
          let low : first ≤ hour = (let t = starts.1 in grind (arith, nat_tests)) in
          let high : hour ≤ last = (let t = ends.1 in grind (arith, nat_tests)) in
          let stands : record_of old (keys.Event number) ≡ Some (Event number site pollutant first last code) =
          at ∙ ap (λ x. Some (Event number x p first last code)) at_site ∙ ap (λ x. Some (Event number site x first last code)) of_pollutant in (
            and_from _ _ parts.0 (agreed-onto number first last code stands low high parts.1),
            sym (same (keys.Event number) (event-read number first last code (is_new_in before (keys.Event number)) stands low high)) ∙ at,
          )
      onto r is at = absurd (false≢true is)

  -- ---- monitors that stood before

  monitor-read : (poc : ℕ) → hour ≤ LAST_HOUR → reads old cell (ChangedRecord (keys.Monitor (record { site = site; pollutant = pollutant; poc = poc })) false) ≡ true
  unfolding reads cells_reading
  monitor-read poc profile = read_anywhere cell old site pollutant hour here profile

  pub monitor-same : hour ≤ LAST_HOUR → (id : MonitorId) → id.site ≡ site → id.pollutant ≡ pollutant → is_new_in before (keys.Monitor id) ≡ false → record_of old (keys.Monitor id) ≡ record_of new (keys.Monitor id)
  monitor-same profile id at_site of_pollutant known =
      same (keys.Monitor id)
      (subst (λ b. reads old cell (ChangedRecord (keys.Monitor id) b) ≡ true) (sym known)
      (subst (λ s. reads old cell (ChangedRecord (keys.Monitor (record { site = s; pollutant = id.pollutant; poc = id.poc })) false) ≡ true) (sym at_site)
      (subst (λ p. reads old cell (ChangedRecord (keys.Monitor (record { site = site; pollutant = p; poc = id.poc })) false) ≡ true) (sym of_pollutant)
      (monitor-read id.poc profile))))

  pub eligible-onto : hour ≤ LAST_HOUR → (id : MonitorId) → id.site ≡ site → id.pollutant ≡ pollutant → is_new_in before (keys.Monitor id) ≡ false → is_eligible old id ≡ true → is_eligible new id ≡ true
  unfolding is_eligible
  eligible-onto profile id at_site of_pollutant known = any-onto record_rank (makes_eligible id) (makes_eligible id) old new up onto
    where
      onto : (r : OfficeRecord) → makes_eligible id r ≡ true → Stands record_rank old r → (makes_eligible id r ≡ true) × Stands record_rank new r
      onto (Monitor other duration eligible) is at =
          let e : other ≡ id = same_monitor other id (and_parts (is_same_monitor other id) eligible is).0 in
          (is, subst (λ (m : MonitorId). record_of new (keys.Monitor m) ≡ record_of old (keys.Monitor m)) (sym e) (sym (monitor-same profile id at_site of_pollutant known)) ∙ at)
      onto r is at = absurd (false≢true is)

-- ---- both ways

module _ (cell : CellName) (before old new : List OfficeRecord) (site : Site) (pollutant : Pollutant) (hour : ℕ)
    (here : ReadsAt cell old site pollutant hour) (here_too : ReadsAt cell new site pollutant hour)
    (up : rises record_rank old ≡ true) (up_too : rises record_rank new ≡ true)
    (same : SameWhereRead cell before old new) (back : SameWhereRead cell before new old) where
  pub excluded-unreached : (key : ObsKey) (codes : List Code) → is_at site pollutant hour key ≡ true → excluded old key codes ≡ excluded new key codes
  excluded-unreached key codes is_here =
      both_or_neither (excluded old key codes) (excluded new key codes)
      (excluded-onto cell before old new site pollutant hour here up same key codes is_here)
      (excluded-onto cell before new old site pollutant hour here_too up_too back key codes is_here)

  pub eligible-unreached : hour ≤ LAST_HOUR → (id : MonitorId) → id.site ≡ site → id.pollutant ≡ pollutant → is_new_in before (keys.Monitor id) ≡ false → is_eligible old id ≡ is_eligible new id
  eligible-unreached profile id at_site of_pollutant known =
      both_or_neither (is_eligible old id) (is_eligible new id)
      (eligible-onto cell before old new site pollutant hour here up same profile id at_site of_pollutant known)
      (eligible-onto cell before new old site pollutant hour here_too up_too back profile id at_site of_pollutant known)
