-- A stratum of PM10 that is not in reach: its quarter is cut into the same strata, and its days are as before.
use Rattle.std.proofs.Common.{◌≡◌, ℕ, zero, suc, ◌+◌, ◌-◌, ◌<◌, ◌≤◌, Bool, true, false, cond, ◌||◌, List, [], ◌∷◌, map, refl, sym, ap, ◌∙◌, subst, arith}
use Rattle.std.specs.Prelude.{Option, Some, None, ⊤, ◌==◌, nat_le, nat_lt, fold, option_and_then, MatchOption, length, count_by, ℤ}
use Rattle.std.specs.List.{list_any, filter, filter_map, range_with_len, Contains, All}
use Rattle.std.specs.Option.{option_to_list}
use Rattle.std.proofs.lemmas.Bool.{false≢true, eqb-true, eq-eqb, le-leb}
use Rattle.std.proofs.lemmas.Bool.Decides.{nat_tests}
use Rattle.aq_base.specs.Site.{Site}
use Rattle.aq_base.specs.Calendar.{day_of_hour, is_year, quarter_of, quarter_year, quarter_first, days_in_quarter}
use Rattle.aq_base.specs.declared.day.TheConstants.{LAST_DAY}
use Rattle.aq_base.specs.declared.monitor.Pollutant.TheVariants.{Pm10}
use Rattle.aq_base.specs.declared.office.OfficeRecord.{OfficeRecord}
use Rattle.aq_base.specs.declared.office.OfficeKey.TheVariants as keys
use Rattle.aq_rules.specs.Lists.{later, latest}
use Rattle.aq_rules.specs.Office.Office.{Office, IsOffice}
use Rattle.aq_rules.specs.Office.Schedule.{is_scheduled}
use Rattle.aq_rules.specs.Particles.ParticleDay.{site_day, net_day, unless_excluded}
use Rattle.aq_rules.specs.Particles.Pm10Estimate.{exceeds}
use Rattle.aq_rules.specs.Particles.QuarterCounts.{days_of_quarter}
use Rattle.aq_rules.specs.Particles.Strata.{begins, first_day_onto, first_days_after, first_days_among, first_days_by, first_days, next_or, strata_from, quarter_end, strata_of, stratum_by}
use Rattle.aq_rules.specs.Kept.Cells.{CellName, StratumCell, is_same_cell}
use Rattle.aq_rules.specs.Kept.Reach.{reach, quarter_cells}
use Rattle.aq_rules.proofs.CellsOnce.{member, cell-itself}
use Rattle.aq_rules.proofs.Elements.{Every, every-to}
use Rattle.aq_rules.proofs.Greatest.{latest-is}
use Rattle.aq_rules.proofs.Unreached.{ReadsAt, SameWhereRead}
use Rattle.aq_rules.proofs.UnreachedRows.{record-unreached, unread}
use Rattle.aq_dirty.proofs.OutOfReachLemmas.DaysOfQuarters.{InQuarter, in-quarter, quarter_of-is_year}
use Rattle.aq_dirty.proofs.OutOfReachLemmas.DaysRead.{day-out}
use Rattle.aq_dirty.proofs.OutOfReachLemmas.PmDays.{pm_day-out_of_reach}
use Rattle.aq_dirty.proofs.OutOfReachLemmas.PmQuarters.{SameSchedule, every-range, given-agree, first_days-same, strata-same}
use Rattle.aq_dirty.proofs.OutOfReachLemmas.Schedules.{scheduled-same}

-- ---- first days rise

-- from the first number to before the second, each greater than the one before it
abbrev RiseIn : ℕ → ℕ → List ℕ → Type 0
RiseIn low end [] = ⊤
RiseIn low end (n ∷ ns) = (low ≤ n) × (n < end) × RiseIn (n + 1) end ns

rise-from_less : (low less end : ℕ) (ns : List ℕ) → less ≤ low → RiseIn low end ns → RiseIn less end ns
rise-from_less low less end [] most rise = tt
rise-from_less low less end (n ∷ ns) most rise = (omega (arith, most, rise.0), rise.1, rise.2)

firsts-rise : (p : ℕ → Bool) (start a n end : ℕ) → a + n ≡ end → RiseIn a end (first_days_after p start (range_with_len a n))
unfolding first_days_after
firsts-rise p start a zero end is = tt
firsts-rise p start a (suc n) end is = by (begins p start a) (λ s. firsts-rise p s (a + 1) n end (omega (arith, is)))
  where
    by : (t : Bool) → ((s : ℕ) → RiseIn (a + 1) end (first_days_after p s (range_with_len (a + 1) n)))
        → RiseIn a end (first_day_onto t a (first_days_after p (cond t a start) (range_with_len (a + 1) n)))
    by true rest = (omega arith, omega (arith, is), rest a)
    by false rest = rise-from_less (a + 1) a end _ (omega arith) (rest start)

among-rise : (p : ℕ → Bool) (a n : ℕ) → RiseIn a (a + n) (first_days_among p (range_with_len a n))
among-rise p a zero = tt
among-rise p a (suc n) = (omega arith, omega arith, firsts-rise p a (a + 1) n (a + suc n) (omega arith))

-- ---- the stratum that holds a day

abbrev last_until : ℕ → Option ℕ → List ℕ → Option ℕ
last_until day so_far firsts = fold (later (λ first. first)) so_far (filter (λ first. nat_le first day) firsts)

-- what was found so far is not after a day
abbrev IsBy : ℕ → Option ℕ → Type 0
IsBy low None = ⊤
IsBy low (Some n) = n ≤ low

none-until : (day low end : ℕ) (so_far : Option ℕ) (firsts : List ℕ) → RiseIn low end firsts → day < low → last_until day so_far firsts ≡ so_far
none-until day low end so_far [] rise before = refl
none-until day low end so_far (n ∷ ns) rise before =
    let off : nat_le n day ≡ false = (let r = rise.0 in grind (arith, nat_tests)) in
    ap (λ t. fold (later (λ first. first)) so_far (cond t (n ∷ filter (λ first. nat_le first day) ns) (filter (λ first. nat_le first day) ns))) off
    ∙ none-until day (n + 1) end so_far ns rise.2 (omega (arith, before, rise.0))

one-more : (day n low end : ℕ) (so_far : Option ℕ) (ns : List ℕ) → low ≤ n → n ≤ day → IsBy low so_far → last_until day so_far (n ∷ ns) ≡ last_until day (Some n) ns
one-more day n low end so_far ns from by_then is_by =
    ap (λ t. fold (later (λ first. first)) so_far (cond t (n ∷ filter (λ first. nat_le first day) ns) (filter (λ first. nat_le first day) ns))) (le-leb n day by_then)
    ∙ ap (λ o. fold (later (λ first. first)) o (filter (λ first. nat_le first day) ns)) (newer so_far is_by)
  where
    newer : (o : Option ℕ) → IsBy low o → later (λ first. first) o n ≡ Some n
    newer None is = refl
    newer (Some m) is = let t : nat_lt n m ≡ false = grind (arith, nat_tests) in rw t refl

-- the days of a stratum are from its first one on, and its first day is the last one by each of them
record HoldsDay (low end first : ℕ) (so_far : Option ℕ) (firsts : List ℕ) (day : ℕ) : Type 0 where
  from : low ≤ day
  before : day < end
  is_last : last_until day so_far firsts ≡ Some first

next-until : (n end : ℕ) (ns : List ℕ) → n < end → RiseIn (n + 1) end ns → next_or end ns ≤ end
next-until n end [] before rise = omega arith
next-until n end (m ∷ ns) before rise = omega (arith, rise.1)

none-before_next : (day n end : ℕ) (ns : List ℕ) → RiseIn (n + 1) end ns → day < next_or end ns → last_until day (Some n) ns ≡ Some n
none-before_next day n end [] rise before = refl
none-before_next day n end (m ∷ ns) rise before = none-until day m end (Some n) (m ∷ ns) (omega arith, rise.1, rise.2) before

first-of_range : (n count first : ℕ) (days : List ℕ) → range_with_len n count ≡ first ∷ days → n ≡ first
first-of_range n zero first days is = absurd (false≢true (ap is_filled is))
  where
    is_filled : List ℕ → Bool
    is_filled [] = false
    is_filled (x ∷ xs) = true
first-of_range n (suc count) first days is = ap head is
  where
    head : List ℕ → ℕ
    head [] = n
    head (x ∷ xs) = x

stratum-holds : (low end first : ℕ) (days : List ℕ) (so_far : Option ℕ) (firsts : List ℕ) → RiseIn low end firsts → IsBy low so_far
    → Contains (strata_from end firsts) (first ∷ days) → Every (HoldsDay low end first so_far firsts) (first ∷ days)
stratum-holds low end first days so_far [] rise is_by (k, within, here) = absurd (omega (arith, within))
stratum-holds low end first days so_far (n ∷ ns) rise is_by (zero, within, here) =
    subst (Every (HoldsDay low end first so_far (n ∷ ns))) here
    (every-range (HoldsDay low end first so_far (n ∷ ns)) n (next_or end ns - n)
    (λ day from before.
    let next = next-until n end ns rise.1 rise.2 in
    record {
      from = omega (arith, from, rise.0);
      before = omega (arith, from, before, next);
      is_last =
          one-more day n low end so_far ns rise.0 from is_by
          ∙ none-before_next day n end ns rise.2 (omega (arith, from, before))
          ∙ ap (λ m. Some m) (first-of_range n (next_or end ns - n) first days here);
    }))
stratum-holds low end first days so_far (n ∷ ns) rise is_by (suc k, within, here) =
    every-to (HoldsDay (n + 1) end first (Some n) ns) (HoldsDay low end first so_far (n ∷ ns))
    (λ day is. record {
      from = omega (arith, is.from, rise.0);
      before = is.before;
      is_last = one-more day n low end so_far ns rise.0 (omega (arith, is.from)) is_by ∙ is.is_last;
    })
    (first ∷ days)
    (stratum-holds (n + 1) end first days (Some n) ns rise.2 (omega arith) (k, omega (arith, within), here))

-- ---- what a stratum reads

any-of_contained : (first : ℕ) (ns : List ℕ) → Contains ns first → list_any (λ day. day == first) ns ≡ true
any-of_contained first [] (k, within, here) = absurd (omega (arith, within))
any-of_contained first (n ∷ ns) (zero, within, here) = rw (eq-eqb n first here) refl
any-of_contained first (n ∷ ns) (suc k, within, here) = by (n == first) (any-of_contained first ns (k, omega (arith, within), here))
  where
    by : (t : Bool) → list_any (λ day. day == first) ns ≡ true → (t || list_any (λ day. day == first) ns) ≡ true
    by true rest = refl
    by false rest = rest

latest-contained : (ns : List ℕ) (first : ℕ) → latest (λ n. n) ns ≡ Some first → Contains ns first
latest-contained ns first is = (subst (λ (o : Option ℕ). MatchOption o (ns ≡ []) (λ m. Contains ns m × All (λ n. n ≤ m) ns)) is (latest-is (λ n. n) ns)).0

any-of_filtered : {X : Type 0} (q p : X → Bool) (xs : List X) → list_any q (filter p xs) ≡ true → list_any q xs ≡ true
any-of_filtered q p [] any = any
any-of_filtered q p (x ∷ xs) any = by (p x) (q x) refl any (any-of_filtered q p xs)
  where
    by : (s t : Bool) → q x ≡ t → list_any q (cond s (x ∷ filter p xs) (filter p xs)) ≡ true → (list_any q (filter p xs) ≡ true → list_any q xs ≡ true) → (t || list_any q xs) ≡ true
    by s true is any rest = refl
    by true false is any rest = rest (subst (λ u. (u || list_any q (filter p xs)) ≡ true) is any)
    by false false is any rest = rest any

module _ (site : Site) (first : ℕ) where
  abbrev cell : CellName
  cell = StratumCell site first

  abbrev IsFirst : List OfficeRecord → ℕ → Type 0
  IsFirst records quarter = list_any (λ day. day == first) (first_days_by records site quarter) ≡ true

  made-of : (ns : List ℕ) → list_any (λ day. day == first) ns ≡ true → list_any (is_same_cell cell) (map (StratumCell site) ns) ≡ true
  made-of [] any = any
  made-of (n ∷ ns) any = by (n == first) refl any (made-of ns)
    where
      by : (t : Bool) → (n == first) ≡ t → (t || list_any (λ day. day == first) ns) ≡ true → (list_any (λ day. day == first) ns ≡ true → list_any (is_same_cell cell) (map (StratumCell site) ns) ≡ true)
          → (is_same_cell cell (StratumCell site n) || list_any (is_same_cell cell) (map (StratumCell site) ns)) ≡ true
      by true is any rest = rw (subst (λ m. is_same_cell cell (StratumCell site m) ≡ true) (sym (eqb-true n first is)) (cell-itself cell)) refl
      by false is any rest = second (is_same_cell cell (StratumCell site n)) (rest any)
        where
          second : (u : Bool) → list_any (is_same_cell cell) (map (StratumCell site) ns) ≡ true → (u || list_any (is_same_cell cell) (map (StratumCell site) ns)) ≡ true
          second true some = refl
          second false some = some

  -- if it is a stratum of one of two offices, and none of the schedules changed that it reads there, its quarter is cut alike in both
  module _ (before : List OfficeRecord) (old new : Office) (valid : IsOffice old) (after : IsOffice new) (same : SameWhereRead cell before old.records new.records)
      (quarter : ℕ) (inside : is_year (quarter_year quarter) ≡ true) (is_first : IsFirst old.records quarter) where
    schedule-alike : SameSchedule old new site Pm10 quarter
    schedule-alike day is =
        scheduled-same cell before old new valid after site Pm10 day is.in_profile
        (subst (λ q. list_any (is_same_cell cell) (quarter_cells old.records site Pm10 q) ≡ true) (sym is.is_of) (made-of (first_days_by old.records site quarter) is_first))
        (λ from is_read. same (keys.Schedule site Pm10 from) is_read)

    firsts-alike : first_days_by old.records site quarter ≡ first_days_by new.records site quarter
    firsts-alike = first_days-same old new site quarter inside schedule-alike

    strata-alike : strata_of old site quarter ≡ strata_of new site quarter
    strata-alike = strata-same old new site quarter inside schedule-alike

  stratum-first : (records : List OfficeRecord) (day : ℕ) → stratum_by records site day ≡ Some first → IsFirst records (quarter_of day)
  stratum-first records day is =
      any-of_filtered (λ n. n == first) (λ n. nat_le n day) (first_days_by records site (quarter_of day))
      (any-of_contained first (filter (λ n. nat_le n day) (first_days_by records site (quarter_of day)))
      (latest-contained (filter (λ n. nat_le n day) (first_days_by records site (quarter_of day))) first is))

  stratum-reads : (records : List OfficeRecord) (day hour : ℕ) → stratum_by records site day ≡ Some first → day_of_hour hour ≡ day → ReadsAt cell records site Pm10 hour
  stratum-reads records day hour is on =
      let there : list_any (is_same_cell cell) (map (StratumCell site) (option_to_list (stratum_by records site day))) ≡ true = rw (is, cell-itself cell) refl in
      subst (λ d. list_any (is_same_cell cell) (map (StratumCell site) (option_to_list (stratum_by records site d))) ≡ true) (sym on) there

-- ---- a stratum out of reach

module _ (a b : Office) (site : Site) (first : ℕ) (valid : IsOffice a) (after : IsOffice b) (out : member (StratumCell site first) (reach a b) ≡ false) where
  same-in_old : SameWhereRead (StratumCell site first) a.records a.records b.records
  same-in_old key is_read = record-unreached a b (StratumCell site first) a.records (unread a b (StratumCell site first) out).0 key is_read

  same-in_new : SameWhereRead (StratumCell site first) a.records b.records a.records
  same-in_new key is_read = sym (record-unreached a b (StratumCell site first) b.records (unread a b (StratumCell site first) out).1 key is_read)

  abbrev until : ℕ → List ℕ → Option ℕ
  until day firsts = latest (λ n. n) (filter (λ n. nat_le n day) firsts)

  module _ (day : ℕ) (profile : day ≤ LAST_DAY) where
    pub holds-onto : stratum_by a.records site day ≡ Some first → stratum_by b.records site day ≡ Some first
    holds-onto is =
        ap (until day) (sym (firsts-alike site first a.records a b valid after same-in_old (quarter_of day) (quarter_of-is_year day profile) (stratum-first site first a.records day is))) ∙ is

    pub holds-back : stratum_by b.records site day ≡ Some first → stratum_by a.records site day ≡ Some first
    holds-back is =
        ap (until day) (sym (firsts-alike site first a.records b a after valid same-in_new (quarter_of day) (quarter_of-is_year day profile) (stratum-first site first b.records day is))) ∙ is

    pub stratum_day-out_of_reach : stratum_by a.records site day ≡ Some first → site_day a site Pm10 day ≡ site_day b site Pm10 day
    stratum_day-out_of_reach is =
        pm_day-out_of_reach a b site day profile valid after Pm10
        (day-out a b (StratumCell site first) site Pm10 day (λ hour on. stratum-reads site first a.records day hour is on) (λ hour on. stratum-reads site first b.records day hour (holds-onto is) on) out)

  module _ (quarter : ℕ) (inside : is_year (quarter_year quarter) ≡ true) (days : List ℕ) where
    -- each day of a stratum of an office is held by it
    abbrev HeldIn : List OfficeRecord → ℕ → Type 0
    HeldIn records day = InQuarter quarter day × (stratum_by records site day ≡ Some first)

    held : (office : Office) → Contains (strata_of office site quarter) (first ∷ days) → Every (HeldIn office.records) (first ∷ days)
    unfolding strata_of first_days days_of_quarter
    held office has =
        every-to (HoldsDay (quarter_first quarter) (quarter_end quarter) first None (first_days_by office.records site quarter)) (HeldIn office.records)
        (λ day is.
        let place = in-quarter quarter day inside is.from is.before in (
          place,
          ap (λ q. until day (first_days_by office.records site q)) place.is_of ∙ is.is_last,
        ))
        (first ∷ days)
        (stratum-holds (quarter_first quarter) (quarter_end quarter) first days None (first_days_by office.records site quarter)
        (among-rise (is_scheduled office.records site Pm10) (quarter_first quarter) (days_in_quarter quarter)) tt has)

    first-in : (office : Office) → Contains (strata_of office site quarter) (first ∷ days) → IsFirst site first office.records quarter
    first-in office has =
        let it = (held office has).0 in
        subst (IsFirst site first office.records) it.0.is_of (stratum-first site first office.records first it.1)

    pub strata-out_of_reach : Contains (strata_of a site quarter) (first ∷ days) → strata_of a site quarter ≡ strata_of b site quarter
    strata-out_of_reach has = strata-alike site first a.records a b valid after same-in_old quarter inside (first-in a has)

    pub strata-back : Contains (strata_of b site quarter) (first ∷ days) → strata_of a site quarter ≡ strata_of b site quarter
    strata-back has = sym (strata-alike site first a.records b a after valid same-in_new quarter inside (first-in b has))

    pub samples-out_of_reach : Contains (strata_of a site quarter) (first ∷ days) → filter_map (net_day a site Pm10) (first ∷ days) ≡ filter_map (net_day b site Pm10) (first ∷ days)
    samples-out_of_reach has =
        given-agree (net_day a site Pm10) (net_day b site Pm10) (first ∷ days)
        (every-to (HeldIn a.records) (λ day. net_day a site Pm10 day ≡ net_day b site Pm10 day)
        (λ day is. ap (option_and_then unless_excluded) (stratum_day-out_of_reach day is.0.in_profile is.1)) (first ∷ days) (held a has))

    pub number-out_of_reach : Contains (strata_of a site quarter) (first ∷ days) → length (filter_map (net_day a site Pm10) (first ∷ days)) ≡ length (filter_map (net_day b site Pm10) (first ∷ days))
    number-out_of_reach has = ap (λ (values : List ℤ). length values) (samples-out_of_reach has)

    pub exceedances-out_of_reach : Contains (strata_of a site quarter) (first ∷ days) → count_by exceeds (filter_map (net_day a site Pm10) (first ∷ days)) ≡ count_by exceeds (filter_map (net_day b site Pm10) (first ∷ days))
    exceedances-out_of_reach has = ap (count_by exceeds) (samples-out_of_reach has)
