-- A cell that reads the observations of ozone at an hour reads each changed row that the hour reads. So if the cell is not in reach, the hour is not.
use Rattle.std.proofs.Common.{◌≡◌, ℕ, zero, suc, ◌+◌, ◌-◌, ◌*◌, ◌<◌, ◌≤◌, Bool, true, false, cond, not, ◌&&◌, ◌||◌, List, [], ◌∷◌, ◌++◌, map, refl, sym, ap, ◌∙◌, subst, arith}
use Rattle.std.specs.Prelude.{Option, Some, flat_map, nat_le, ◌==◌}
use Rattle.std.specs.List.{list_any, range_with_len}
use Rattle.std.specs.Option.{option_to_list}
use Rattle.std.proofs.lemmas.Bool.{false≢true, and_parts, eqb-true, or_left, or_right}
use Rattle.std.proofs.lemmas.Bool.Decides.{nat_tests}
use Rattle.std.proofs.lemmas.List.Folds.{list_any-append}
use Rattle.aq_base.specs.Site.{Site}
use Rattle.aq_base.specs.Calendar.{day_of_hour, year_of}
use Rattle.aq_base.specs.declared.monitor.Pollutant.{Pollutant}
use Rattle.aq_base.specs.declared.monitor.Pollutant.TheVariants.{Ozone, Pm25, Pm10}
use Rattle.aq_base.specs.declared.office.OfficeRecord.{OfficeRecord}
use Rattle.aq_base.specs.declared.office.OfficeRecord.TheVariants.{Event}
use Rattle.aq_base.specs.declared.office.OfficeKey.TheVariants as keys
use Rattle.aq_rules.specs.Office.Office.{Office}
use Rattle.aq_rules.specs.Office.Monitors.{is_same_site}
use Rattle.aq_rules.specs.Office.Questions.{record_of}
use Rattle.aq_rules.specs.Office.Sameness.{same_site}
use Rattle.aq_rules.specs.Particles.Strata.{first_days_by, stratum_by}
use Rattle.aq_rules.specs.Kept.Cells.{CellName, HourCell, WindowCell, OzoneDayCell, OzoneYearCell, StratumCell, is_same_cell}
use Rattle.aq_rules.specs.Kept.Reach.{ChangedRow, ChangedObservation, ChangedRecord, changed_rows, cells_reading, reads, reach, cells_at, cells_in, cells_in_span, ozone_cells_at, windows_reading, days_reading, may_count_at_once, quarter_cells, from_to, every_hour}
use Rattle.aq_rules.proofs.CellsOnce.{member, cell-itself}
use Rattle.aq_rules.proofs.Unreached.{ReadsAt}
use Rattle.aq_rules.proofs.UnreachedRows.{reach-is}

-- ---- tests of lists

pub either : (p q r s : Bool) → (p ≡ true → r ≡ true) → (q ≡ true → s ≡ true) → (p || q) ≡ true → (r || s) ≡ true
either true q r s first second is = or_left r s (first refl)
either false q r s first second is = or_right r s (second is)

pub any-implied : {X : Type 0} (p q : X → Bool) → ((x : X) → p x ≡ true → q x ≡ true) → (xs : List X) → list_any p xs ≡ true → list_any q xs ≡ true
any-implied p q onto [] any = any
any-implied p q onto (x ∷ xs) any = either (p x) (list_any p xs) (q x) (list_any q xs) (onto x) (any-implied p q onto xs) any

pub any-in_all : {X Y : Type 0} (p q : Y → Bool) (f : X → List Y) → ((x : X) → list_any p (f x) ≡ true → list_any q (f x) ≡ true) → (xs : List X) → list_any p (flat_map f xs) ≡ true → list_any q (flat_map f xs) ≡ true
any-in_all p q f onto [] any = any
any-in_all p q f onto (x ∷ xs) any =
    list_any-append q (f x) (flat_map f xs)
    ∙ either (list_any p (f x)) (list_any p (flat_map f xs)) (list_any q (f x)) (list_any q (flat_map f xs)) (onto x) (any-in_all p q f onto xs)
    (sym (list_any-append p (f x) (flat_map f xs)) ∙ any)

pub none-made : {X Y : Type 0} (p : Y → Bool) (f : X → Y) → ((x : X) → p (f x) ≡ false) → (xs : List X) → list_any p (map f xs) ≡ false
none-made p f off [] = refl
none-made p f off (x ∷ xs) = rw (off x) (none-made p f off xs)

pub none-in_all : {X Y : Type 0} (p : Y → Bool) (f : X → List Y) → ((x : X) → list_any p (f x) ≡ false) → (xs : List X) → list_any p (flat_map f xs) ≡ false
none-in_all p f off [] = refl
none-in_all p f off (x ∷ xs) = list_any-append p (f x) (flat_map f xs) ∙ rw (off x) (none-in_all p f off xs)

made-in_range : {X : Type 0} (p : X → Bool) (f : ℕ → X) (a n k : ℕ) → a ≤ k → k < a + n → p (f k) ≡ true → list_any p (map f (range_with_len a n)) ≡ true
made-in_range p f a zero k low high passes = absurd (omega (arith, low, high))
made-in_range p f a (suc n) k low high passes = by (a == k) refl (λ off. made-in_range p f (a + 1) n k (omega (arith, low, off)) (omega (arith, high)) passes)
  where
    by : (b : Bool) → (a == k) ≡ b → (a < k → list_any p (map f (range_with_len (a + 1) n)) ≡ true) → (p (f a) || list_any p (map f (range_with_len (a + 1) n))) ≡ true
    by true is rest = or_left (p (f a)) (list_any p (map f (range_with_len (a + 1) n))) (subst (λ m. p (f m) ≡ true) (sym (eqb-true a k is)) passes)
    by false is rest =
        let off : a < k = grind (arith, nat_tests) in
        or_right (p (f a)) (list_any p (map f (range_with_len (a + 1) n))) (rest off)

-- ---- the hour reads its own observations alone

record IsOwn (site : Site) (hour : ℕ) (s : Site) (p : Pollutant) (h : ℕ) : Type 0 where
  of_site : site ≡ s
  of_ozone : Ozone ≡ p
  of_hour : hour ≡ h

-- the cells of an hour: itself, its averages, its day and its year
pub ozone-parts : (cell : CellName) (s : Site) (h : ℕ) → list_any (is_same_cell cell) (ozone_cells_at s h)
    ≡ (is_same_cell cell (HourCell s h)
    || ((list_any (is_same_cell cell) (map (WindowCell s) (windows_reading h)) || list_any (is_same_cell cell) (map (OzoneDayCell s) (days_reading h)))
    || list_any (is_same_cell cell) (map (λ day. OzoneYearCell s (year_of day)) (days_reading h))))
ozone-parts cell s h =
    ap (λ b. is_same_cell cell (HourCell s h) || b)
    (list_any-append (is_same_cell cell) (map (WindowCell s) (windows_reading h) ++ map (OzoneDayCell s) (days_reading h)) (map (λ day. OzoneYearCell s (year_of day)) (days_reading h))
    ∙ ap (λ b. b || list_any (is_same_cell cell) (map (λ day. OzoneYearCell s (year_of day)) (days_reading h)))
    (list_any-append (is_same_cell cell) (map (WindowCell s) (windows_reading h)) (map (OzoneDayCell s) (days_reading h))))

module _ (records : List OfficeRecord) (site : Site) (hour : ℕ) where
  abbrev own : CellName → Bool
  own = is_same_cell (HourCell site hour)

  own-hour : (s : Site) (p : Pollutant) (h : ℕ) → ReadsAt (HourCell site hour) records s p h → IsOwn site hour s p h
  own-hour s Ozone h is =
      let alone : list_any own (ozone_cells_at s h) ≡ ((hour == h) && is_same_site site s) =
      ozone-parts (HourCell site hour) s h
      ∙ rw (none-made own (WindowCell s) (λ w. refl) (windows_reading h), none-made own (OzoneDayCell s) (λ d. refl) (days_reading h), none-made own (λ day. OzoneYearCell s (year_of day)) (λ d. refl) (days_reading h)) (or-nothing ((hour == h) && is_same_site site s))
      in
      let parts = and_parts (hour == h) (is_same_site site s) (sym alone ∙ is) in
      record { of_site = same_site site s parts.1; of_ozone = refl; of_hour = eqb-true hour h parts.0 }
    where
      or-nothing : (b : Bool) → (b || false) ≡ b
      or-nothing true = refl
      or-nothing false = refl
  own-hour s Pm25 h is = absurd (false≢true is)
  own-hour s Pm10 h is = absurd (false≢true (sym (none-made own (StratumCell s) (λ f. refl) (option_to_list (stratum_by records s (day_of_hour h)))) ∙ is))

  -- ---- what it reads, a cell of its hour reads

  module _ (other : CellName) (here : ReadsAt other records site Ozone hour) where
    at-onto : (s : Site) (p : Pollutant) (h : ℕ) → ReadsAt (HourCell site hour) records s p h → ReadsAt other records s p h
    at-onto s p h is =
        let it = own-hour s p h is in
        let one : list_any (is_same_cell other) (cells_at records site Ozone hour) ≡ list_any (is_same_cell other) (cells_at records s p h) =
        λ i. list_any (is_same_cell other) (cells_at records (it.of_site i) (it.of_ozone i) (it.of_hour i))
        in
        sym one ∙ here

    in-onto : (s : Site) (p : Pollutant) (hours : List ℕ) → list_any own (cells_in records s p hours) ≡ true → list_any (is_same_cell other) (cells_in records s p hours) ≡ true
    in-onto s p hours is = any-in_all own (is_same_cell other) (cells_at records s p) (at-onto s p) hours is

    span-onto : (event : Option OfficeRecord) → list_any own (cells_in_span records event) ≡ true → list_any (is_same_cell other) (cells_in_span records event) ≡ true
    span-onto (Some (Event number s p first last code)) is = in-onto s p (from_to first last) is
    span-onto event is = absurd (false≢true is)

    no-quarter : (s : Site) (p : Pollutant) (quarter : ℕ) → list_any own (quarter_cells records s p quarter) ≡ false
    no-quarter s Ozone quarter = refl
    no-quarter s Pm25 quarter = refl
    no-quarter s Pm10 quarter = none-made own (StratumCell s) (λ f. refl) (first_days_by records s quarter)

    reads-onto : (row : ChangedRow) → reads records (HourCell site hour) row ≡ true → reads records other row ≡ true
    unfolding reads cells_reading
    reads-onto (ChangedObservation key) is = at-onto key.monitor.site key.monitor.pollutant key.hour is
    reads-onto (ChangedRecord (keys.Monitor id) is_new) is = by (is_new && not (may_count_at_once id.pollutant)) is
      where
        by : (b : Bool) → list_any own (cond b [] (cells_in records id.site id.pollutant every_hour)) ≡ true
            → list_any (is_same_cell other) (cond b [] (cells_in records id.site id.pollutant every_hour)) ≡ true
        by true is = absurd (false≢true is)
        by false is = in-onto id.site id.pollutant every_hour is
    reads-onto (ChangedRecord (keys.Primary s p from) is_new) is = in-onto s p _ is
    reads-onto (ChangedRecord (keys.Schedule s p from) is_new) is = absurd (false≢true (sym (none-in_all own (quarter_cells records s p) (no-quarter s p) _) ∙ is))
    reads-onto (ChangedRecord (keys.Event number) is_new) is = span-onto (record_of records (keys.Event number)) is
    reads-onto (ChangedRecord (keys.Concurrence number) is_new) is = span-onto (record_of records (keys.Event number)) is
    reads-onto row is = absurd (false≢true is)

pub hour-out : (a b : Office) (other : CellName) (site : Site) (hour : ℕ) → ((records : List OfficeRecord) → ReadsAt other records site Ozone hour)
    → member other (reach a b) ≡ false → member (HourCell site hour) (reach a b) ≡ false
hour-out a b other site hour here out = by (member (HourCell site hour) (reach a b)) refl
  where
    by : (t : Bool) → member (HourCell site hour) (reach a b) ≡ t → t ≡ false
    by false is = refl
    by true is =
        absurd (false≢true (sym out ∙ reach-is a b other
        ∙ any-implied _ _
        (λ row. either (reads a.records (HourCell site hour) row) (reads b.records (HourCell site hour) row) (reads a.records other row) (reads b.records other row)
        (reads-onto a.records site hour other (here a.records) row) (reads-onto b.records site hour other (here b.records) row))
        (changed_rows a b) (sym (reach-is a b (HourCell site hour)) ∙ is)))

-- ---- averages, days and years read their hours

pub window-reads : (records : List OfficeRecord) (site : Site) (start hour : ℕ) → start ≤ hour → hour < start + 8 → ReadsAt (WindowCell site start) records site Ozone hour
window-reads records site start hour low high =
    ozone-parts (WindowCell site start) site hour
    ∙ or_left _ _ (or_left _ _ (made-in_range (is_same_cell (WindowCell site start)) (WindowCell site) (hour - 7) (hour + 1 - (hour - 7)) start (omega (arith, low, high)) (omega (arith, low, high)) (cell-itself (WindowCell site start))))

days-read : (day hour : ℕ) → 24 * day + 7 ≤ hour → hour < 24 * day + 31 → days_reading hour ≡ day ∷ []
days-read day hour low high =
    let late : nat_le 7 hour ≡ true = grind (arith, nat_tests) in
    let same : day_of_hour (hour - 7) ≡ day = omega (arith, low, high) in
    rw (late, same) refl

module _ (records : List OfficeRecord) (site : Site) (day hour : ℕ) (low : 24 * day + 7 ≤ hour) (high : hour < 24 * day + 31) where
  pub day-reads : ReadsAt (OzoneDayCell site day) records site Ozone hour
  day-reads =
      let there : list_any (is_same_cell (OzoneDayCell site day)) (map (OzoneDayCell site) (days_reading hour)) ≡ true =
      rw (days-read day hour low high, cell-itself (OzoneDayCell site day)) refl
      in
      ozone-parts (OzoneDayCell site day) site hour ∙ or_left _ _ (or_right _ _ there)

  pub year-reads : ReadsAt (OzoneYearCell site (year_of day)) records site Ozone hour
  year-reads =
      let there : list_any (is_same_cell (OzoneYearCell site (year_of day))) (map (λ d. OzoneYearCell site (year_of d)) (days_reading hour)) ≡ true =
      rw (days-read day hour low high, cell-itself (OzoneYearCell site (year_of day))) refl
      in
      ozone-parts (OzoneYearCell site (year_of day)) site hour ∙ or_right _ _ there
