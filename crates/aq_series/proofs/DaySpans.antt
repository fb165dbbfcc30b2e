-- A monitor's span of some days, put into the tallies of the days one observation after another.
use Rattle.std.proofs.Common.{◌≡◌, ℕ, zero, suc, replicate, ◌+◌, ◌-◌, ◌*◌, ◌/◌, ◌<◌, ◌≤◌, Bool, true, false, cond, ◌&&◌, ◌==◌, Some, None, Option, List, [], ◌∷◌, ◌++◌, length, get_or, set, refl, ap, sym, subst, ◌∙◌, arith, append_assoc}
use Rattle.std.specs.Prelude.{IfSome, ℤ, nat_lt, nat_le, filter, map, option_map, IsTrue}
use Rattle.std.specs.List.{AllByRecursion, filter_map, cons_option}
use Rattle.std.specs.Option.{option_to_list}
use Rattle.std.proofs.lemmas.Bool.{false≢true, and_parts}
use Rattle.std.proofs.lemmas.Bool.Decides.{nat_tests}
use Rattle.std.proofs.lemmas.Grind.{get_or-set_at}
use Rattle.std.proofs.lemmas.List.{append-nil, get_or-set_other, get_or-set_same, length-set, set-set}
use Rattle.aq_base.specs.declared.monitor.Duration.TheVariants.{Hour}
use Rattle.aq_base.specs.declared.monitor.MonitorId.{MonitorId}
use Rattle.aq_base.specs.declared.observation.ObsKey.{ObsKey}
use Rattle.aq_base.specs.declared.observation.Observation.{Observation}
use Rattle.aq_base.specs.declared.office.OfficeRecord.{OfficeRecord}
use Rattle.aq_rules.specs.Office.Exclusion.{excluded}
use Rattle.aq_rules.specs.Office.Monitors.{is_same_monitor}
use Rattle.aq_rules.specs.Office.Office.{observation_rank, rises}
use Rattle.aq_rules.specs.Office.Sameness.{same_monitor}
use Rattle.aq_rules.specs.Ozone.SiteHour.{Cell}
use Rattle.aq_rules.specs.Particles.ParticleDay.{starts_on}
use Rattle.aq_shelf.specs.Standing.{hour_content, in_span, observations_in}
use Rattle.aq_series.specs.declared.day_tally.DayTally.{DayTally}
use Rattle.aq_series.specs.DayCells.{cell_of, cells_in, hours_of, key_at, IsOfParticles, IsParticle, IsTallyOf}
use Rattle.aq_series.proofs.DaySteps.{Within}
use Rattle.aq_series.proofs.MonitorDay.{cells-of_day, give_cell}
use Rattle.aq_series.proofs.Rising.{Later, Rising, same_number}
use Rattle.aq_series.proofs.Spans.{Item, as_cell, hour_of}

module _ (records : List OfficeRecord) (monitor : MonitorId) (first : ℕ) where
  -- what an observation gives to a day
  abbrev pub on_day : ℕ → Item → Option Cell
  on_day k item = cond (item.0 / 24 == first + k) (cell_of records (key_at monitor item.0) item.1) None

  abbrev pub cells_for : ℕ → List Item → List Cell
  cells_for k items = filter_map (on_day k) items

  -- a day's tally of what was read, beside what is still to be read
  pub record Read (k : ℕ) (all rest : List Item) (tally : DayTally) : Type 0 where
    pub before : List Cell
    pub tallied : IsTallyOf before tally
    pub whole : before ++ cells_for k rest ≡ cells_for k all
    pub room : AllByRecursion (λ (item : Item). item.0 / 24 ≡ first + k → tally.count + 24 * (first + k) ≤ item.0) rest

  no_room_needed : (k count : ℕ) (items : List Item) → count ≡ 0 → AllByRecursion (λ (item : Item). item.0 / 24 ≡ first + k → count + 24 * (first + k) ≤ item.0) items
  no_room_needed k count [] none = tt
  no_room_needed k count (item ∷ items) none = ((λ is. omega (arith, is, none)), no_room_needed k count items none)

  pub read-start : (k : ℕ) (all : List Item) (tally : DayTally) → IsTallyOf [] tally → tally.count ≡ 0 → Read k all all tally
  read-start k all tally is none = record { before = []; tallied = is; whole = refl; room = no_room_needed k tally.count all none }

  module _ (item : Item) (items all : List Item) (later : Later hour_of item.0 items) (k : ℕ) (tally : DayTally) (read : Read k all (item ∷ items) tally) where
    -- of another day
    pub read-other : (item.0 / 24 == first + k) ≡ false → Read k all items tally
    read-other other = record {
      before = read.before;
      tallied = read.tallied;
      whole = ap (λ b. read.before ++ cons_option (cond b (cell_of records (key_at monitor item.0) item.1) None) (cells_for k items)) (sym other) ∙ read.whole;
      room = read.room.1;
    }

    pub day-has_room : item.0 / 24 ≡ first + k → tally.count < 24
    day-has_room is = omega (arith, read.room.0 is, is)

    joined : (o : Option Cell) (cells : List Cell) → (read.before ++ option_to_list o) ++ cells ≡ read.before ++ cons_option o cells
    joined None cells = ap (λ l. l ++ cells) (append-nil read.before)
    joined (Some c) cells = append_assoc read.before (c ∷ []) cells

    room_behind : (count : ℕ) (is : List Item) → item.0 / 24 ≡ first + k → count ≤ tally.count + 1 → Later hour_of item.0 is → AllByRecursion (λ (i : Item). i.0 / 24 ≡ first + k → count + 24 * (first + k) ≤ i.0) is
    room_behind count [] here few behind = tt
    room_behind count (i ∷ is) here few behind = ((λ there. omega (arith, read.room.0 here, few, behind.0)), room_behind count is here few behind.1)

    -- of this day
    pub read-more : (more : DayTally) → item.0 / 24 ≡ first + k → (item.0 / 24 == first + k) ≡ true → IsTallyOf (read.before ++ option_to_list (cell_of records (key_at monitor item.0) item.1)) more → more.count ≤ tally.count + 1 → Read k all items more
    read-more more here same tallied few = record {
      before = read.before ++ option_to_list (cell_of records (key_at monitor item.0) item.1);
      tallied = tallied;
      whole =
          joined (cell_of records (key_at monitor item.0) item.1) (cells_for k items)
          ∙ ap (λ b. read.before ++ cons_option (cond b (cell_of records (key_at monitor item.0) item.1) None) (cells_for k items)) (sym same)
          ∙ read.whole;
      room = room_behind more.count items here few later;
    }

  -- ---- the observations of the span

  module _ (rows : List (ObsKey × Observation)) where
    inside : (k : ℕ) → k < 92 → (hour : ℕ) → (hour / 24 == first + k) ≡ true → (nat_le (24 * first) hour && nat_lt hour (24 * first + 2208)) ≡ true
    inside k small hour is =
        let at : hour / 24 ≡ first + k = grind (arith, nat_tests, is) in
        let low : nat_le (24 * first) hour ≡ true = grind (arith, nat_tests, at) in
        let high : nat_lt hour (24 * first + 2208) ≡ true = grind (arith, nat_tests, at, small) in
        rw (low, high) refl

    regroup : (a b c : Bool) → a ≡ true → (b && c) ≡ true → ((a && b) && c) ≡ true
    regroup true true true h k = refl
    regroup true true false h k = k
    regroup true false c h k = k
    regroup false b c h k = h

    abbrev cell_by : ObsKey → Observation → Option Cell
    cell_by key content = option_map (λ (value : ℤ). as_cell value (excluded records key content.quals)) content.value

    span_cells : (k : ℕ) → k < 92 → (es : List (ObsKey × Observation))
        → cells_for k (observations_in monitor (24 * first) 2208 es) ≡ filter_map (give_cell records rows monitor (starts_on Hour (first + k))) es
    span_cells k small [] = refl
    span_cells k small (row ∷ es) =
        by_tests (span_cells k small es) (in_span monitor (24 * first) 2208 row) refl (is_same_monitor row.0.monitor monitor) refl (row.0.hour / 24 == first + k) refl
      where
        by_tests : cells_for k (observations_in monitor (24 * first) 2208 es) ≡ filter_map (give_cell records rows monitor (starts_on Hour (first + k))) es
            → (b : Bool) → in_span monitor (24 * first) 2208 row ≡ b → (m : Bool) → is_same_monitor row.0.monitor monitor ≡ m → (d : Bool) → (row.0.hour / 24 == first + k) ≡ d
            → cells_for k (map hour_content (cond b (row ∷ filter (in_span monitor (24 * first) 2208) es) (filter (in_span monitor (24 * first) 2208) es)))
            ≡ cons_option (cond (m && d) (cell_by row.0 row.1) None) (filter_map (give_cell records rows monitor (starts_on Hour (first + k))) es)
        by_tests rest true bi true mi true di =
            let key : key_at monitor row.0.hour ≡ row.0 = λ i. record { monitor = sym (same_monitor row.0.monitor monitor mi) i; hour = row.0.hour } in
            (λ i. cons_option (cond (di i) (cell_by (key i) row.1) None) (rest i))
        by_tests rest true bi true mi false di = (λ i. cons_option (cond (di i) (cell_by (key_at monitor row.0.hour) row.1) None) (rest i))
        by_tests rest true bi false mi d di =
            let outer = and_parts (is_same_monitor row.0.monitor monitor && nat_le (24 * first) row.0.hour) (nat_lt row.0.hour (24 * first + 2208)) bi in
            let m = (and_parts (is_same_monitor row.0.monitor monitor) (nat_le (24 * first) row.0.hour) outer.0).0 in
            absurd (false≢true (sym mi ∙ m))
        by_tests rest false bi true mi true di = absurd (false≢true (sym bi ∙ regroup (is_same_monitor row.0.monitor monitor) (nat_le (24 * first) row.0.hour) (nat_lt row.0.hour (24 * first + 2208)) mi (inside k small row.0.hour di)))
        by_tests rest false bi true mi false di = rest
        by_tests rest false bi false mi d di = rest

    pub all-read : IsTrue (rises observation_rank rows) → (k : ℕ) → k < 92 → cells_for k (observations_in monitor (24 * first) 2208 rows) ≡ cells_in records rows monitor (hours_of (first + k))
    all-read rising k small = span_cells k small rows ∙ cells-of_day records rows monitor (first + k) rising

  -- ---- the tallies of the days

  abbrev pub Reads : List Item → List Item → List DayTally → Type 0
  Reads all rest now = (k : ℕ) (d : DayTally) → k < 92 → Read k all rest (get_or now k d)

  abbrev pub AreOfParticles : List DayTally → Type 0
  AreOfParticles now = (k : ℕ) (d : DayTally) → k < 92 → IsOfParticles (get_or now k d)

  apart : (m n : ℕ) → (m == n) ≡ false → m ≡ n → ⊥
  apart m n h e = grind (arith, nat_tests)

  module _ (item : Item) (items all : List Item) (later : Later hour_of item.0 items) (now : List DayTally) (place : ℕ) (at : item.0 / 24 ≡ first + place) (many : place < length now) (small : place < 92) (reads : Reads all (item ∷ items) now) where
    pub place-has_room : (d : DayTally) → (get_or now place d).count < 24
    place-has_room d = day-has_room item items all later place (get_or now place d) (reads place d small) at

    pub reads-next : (after : DayTally) → ((d : DayTally) (before : List Cell) → IsTallyOf before (get_or now place d) → IsTallyOf (before ++ option_to_list (cell_of records (key_at monitor item.0) item.1)) after)
        → ((d : DayTally) → after.count ≤ (get_or now place d).count + 1) → Reads all items (set now place after)
    reads-next after more few k d within = by_test (item.0 / 24 == first + k) refl
      where
        by_test : (b : Bool) → (item.0 / 24 == first + k) ≡ b → Read k all items (get_or (set now place after) k d)
        by_test false other =
            subst (λ (t : DayTally). Read k all items t) (sym (get_or-set_other now place k after d (λ e. apart (item.0 / 24) (first + k) other (omega (arith, at, e)))))
            (read-other item items all later k (get_or now k d) (reads k d within) other)
        by_test true same =
            let is = same_number (item.0 / 24) (first + k) same in
            let there : k ≡ place = omega (arith, is, at) in
            let read = reads k d within in
            subst (λ (t : DayTally). Read k all items t) (sym (get_or-set_at now place k after d there many))
            (read-more item items all later k (get_or now k d) read after is same
            (more d read.before (subst (λ n. IsTallyOf read.before (get_or now n d)) there read.tallied))
            (subst (λ n. after.count ≤ (get_or now n d).count + 1) (sym there) (few d)))

    pub particles-next : (after : DayTally) → AreOfParticles now → IsOfParticles after → AreOfParticles (set now place after)
    particles-next after are is k d within = by_test (k == place) refl
      where
        by_test : (b : Bool) → (k == place) ≡ b → IsOfParticles (get_or (set now place after) k d)
        by_test true same = subst IsOfParticles (sym (get_or-set_at now place k after d (same_number k place same) many)) is
        by_test false other = subst IsOfParticles (sym (get_or-set_other now place k after d (λ e. apart k place other e))) (are k d within)

  -- ---- the end

  pub reads-done : (rows : List (ObsKey × Observation)) → IsTrue (rises observation_rank rows) → (now : List DayTally) → Reads (observations_in monitor (24 * first) 2208 rows) [] now
      → (k : ℕ) (d : DayTally) → k < 92 → IsTallyOf (cells_in records rows monitor (hours_of (first + k))) (get_or now k d)
  reads-done rows rising now reads k d within =
      let read = reads k d within in
      subst (λ cells. IsTallyOf cells (get_or now k d)) (sym (append-nil read.before) ∙ read.whole ∙ all-read rows rising k within) read.tallied

-- ---- the day at hand

-- what comes after an hour lies within what begins with it or before it
pub within-on : (low before hour high : ℕ) → low ≤ hour → (items : List Item) → Later hour_of hour items → Within before high items → Within low high items
within-on low before hour high first [] later within = tt
within-on low before hour high first (item ∷ items) later within = ((omega (arith, first, later.0), within.0.1), within-on low before hour high first items later.1 within.1)

module _ (days whole : List DayTally) (place : ℕ) (tally : DayTally) (same : set days place tally ≡ whole) where
  pub at-hand : (d : DayTally) → place < length days → get_or whole place d ≡ tally
  at-hand d many = ap (λ (now : List DayTally). get_or now place d) (sym same) ∙ get_or-set_same days place tally d many

  pub put-over : (after : DayTally) → set whole place after ≡ set days place after
  put-over after = ap (λ (now : List DayTally). set now place after) (sym same) ∙ set-set days place tally after

-- the next hour: `old` has the tallies with the one at hand out of its place `from`, and `days` those after the turn to the hour's place
module _ (records : List OfficeRecord) (rows : List (ObsKey × Observation)) (monitor : MonitorId) (first start from place number : ℕ) (old days : List DayTally) (tally turned : DayTally) (item : Item) (rest : List Item) where
  abbrev Stands : List Item → Type 0
  Stands items = Rising hour_of items × Within (start + 24 * from) (24 * first + 2208) items × Reads records monitor first (observations_in monitor (24 * first) 2208 rows) items (set old from tally)

  pub record AtHour : Type 0 where
    pub stands : Stands (item ∷ rest)
    pub small : place < 92
    pub at : item.0 / 24 ≡ first + place
    pub many : place < length (set old from tally)
    pub hand : (d : DayTally) → get_or (set old from tally) place d ≡ turned

  pub at-hour : (items : List Item) → items ≡ item ∷ rest → start ≡ 24 * first → length old ≡ 92 → Stands items → number ≡ item.0 → length days ≡ 92 → place ≡ (number - start) / 24 → set days place turned ≡ set old from tally → AtHour
  at-hour items is starts long stood numbered long_too turns same =
      let stands = subst Stands is stood in
      let hour = stands.1.0 in
      let small : place < 92 = omega (arith, starts, hour.0, hour.1, numbered, turns) in
      let there : place < length days = omega (arith, long_too, small) in
      record {
        stands = stands;
        small = small;
        at = omega (arith, starts, hour.0, numbered, turns);
        many = omega (arith, length-set old from tally, long, small);
        hand = λ d. at-hand days (set old from tally) place turned same d there;
      }

-- ---- days without a value

abbrev no_cell : Option Cell
no_cell = None

pub none-yet : (n k : ℕ) → IfSome (get_or (replicate n no_cell) k no_cell) (λ (cell : Cell). IsParticle cell.value)
none-yet zero k = tt
none-yet (suc n) zero = tt
none-yet (suc n) (suc k) = none-yet n k
