-- The day of a site from those of its monitors: the primary's, the mean of the others', and the walk over them.
use Rattle.std.proofs.Common.{◌≡◌, ℕ, suc, ◌+◌, ◌*◌, ◌<◌, ◌≤◌, Bool, true, false, cond, ◌&&◌, ◌||◌, ◌==◌, Some, None, Option, List, [], ◌∷◌, ◌++◌, length, map, refl, ap, sym, ◌∙◌, arith, append_assoc, subst}
use Rattle.std.specs.Prelude.{pos, find, min, fold, slice_get, sum_by, option_map, IfSome}
use Rattle.std.specs.List.{filter_map, cons_option, list_any}
use Rattle.std.specs.Option.{option_and_then, option_eq, option_map_or, option_or, option_to_list}
use Rattle.std.proofs.lemmas.Bool.{false≢true}
use Rattle.std.proofs.lemmas.Bool.Decides.{nat_tests}
use Rattle.std.proofs.lemmas.List.{append-nil}
use Rattle.std.proofs.lemmas.List.Sums.{sum_by-cons}
use Rattle.aq_base.specs.Decimal.{truncated}
use Rattle.aq_base.specs.Site.{Site}
use Rattle.aq_base.specs.declared.monitor.Duration.{Duration}
use Rattle.aq_base.specs.declared.monitor.Duration.TheVariants.{Hour, Day}
use Rattle.aq_base.specs.declared.monitor.Pollutant.{Pollutant}
use Rattle.aq_base.specs.declared.monitor.Pollutant.TheVariants.{Pm25, Pm10}
use Rattle.aq_base.specs.declared.office.OfficeRecord.{OfficeRecord}
use Rattle.aq_base.specs.declared.office.OfficeRecord.TheVariants.{Monitor}
use Rattle.aq_rules.specs.Lists.{total}
use Rattle.aq_rules.specs.Office.Designation.{primary_on}
use Rattle.aq_rules.specs.Office.Monitors.{is_same_site, is_same_pollutant, is_eligible, makes_eligible}
use Rattle.aq_rules.specs.Office.Office.{IsOffice, Office, duration_at, record_rank}
use Rattle.aq_rules.specs.Office.Questions.{next_poc}
use Rattle.aq_rules.specs.Ozone.SiteHour.{Cell, Sample, chosen, is_of_poc}
use Rattle.aq_rules.specs.Ozone.SiteHour as hour
use Rattle.aq_rules.specs.Particles.ParticleDay.{counting_poc, day_of_samples, eligible_poc, eligible_pocs, lower_poc, lowest_poc, monitor_day, sample_on, samples_on, site_day}
use Rattle.aq_registry.specs.Registry.{office_with}
use Rattle.aq_series.specs.declared.day_tally.DayTally.{DayTally}
use Rattle.aq_series.specs.DayCells.{cells_on, mean_of, monitor_at, monitor_steps, pocs_after, pocs_of, site_steps, steps_beside, steps_by, IsTallyOf}
use Rattle.aq_series.proofs.Rising.{Later, Rising, found, found-under, rising-ranked, rising-under, same_list}
use Rattle.aq_series.proofs.SitePocs.{before_poc, rank-is, rank_at, eligible_there, lasting_there, pocs-end, pocs-few, pocs-next, pocs-rise}

abbrev as_sample : ℕ → Cell → Sample
as_sample poc cell = record { poc = poc; cell = cell }

module _ (records : List OfficeRecord) (site : Site) (pollutant : Pollutant) where
  abbrev counts : ℕ → Bool
  counts poc = is_eligible records (monitor_at site pollutant poc)

  abbrev if_counts : ℕ → Option ℕ
  if_counts poc = cond (counts poc) (Some poc) None

  -- ---- the eligible POCs are those of the registered ones whose monitors count

  tested : (a b c : Bool) (n s : ℕ) → cond ((a && b) && c) (Some n) None ≡ Some s → (a ≡ true) × (b ≡ true) × (n ≡ s)
  tested true true true n s h = (refl, refl, cc)
  tested true true false n s h = cc
  tested true false c n s h = cc
  tested false b c n s h = cc

  ranked : (r : OfficeRecord) (s : ℕ) → eligible_poc site pollutant r ≡ Some s → record_rank r ≡ rank_at site pollutant s
  ranked (Monitor id duration eligible) s h =
      let parts = tested (is_same_site id.site site) (is_same_pollutant id.pollutant pollutant) eligible id.poc s h in
      rank-is site pollutant id s parts.0 parts.1 parts.2
  ranked r s h = cc

  listed : (p : ℕ) (rs : List OfficeRecord) → list_any (λ q. q == p) (filter_map (eligible_poc site pollutant) rs) ≡ list_any (makes_eligible (monitor_at site pollutant p)) rs
  listed p [] = refl
  listed p (Monitor id duration eligible ∷ rs) = by_tests (listed p rs) (is_same_site id.site site) (is_same_pollutant id.pollutant pollutant) eligible (id.poc == p) refl
    where
      by_tests : list_any (λ q. q == p) (filter_map (eligible_poc site pollutant) rs) ≡ list_any (makes_eligible (monitor_at site pollutant p)) rs
          → (a b c d : Bool) → (id.poc == p) ≡ d
          → list_any (λ q. q == p) (cons_option (cond ((a && b) && c) (Some id.poc) None) (filter_map (eligible_poc site pollutant) rs))
          ≡ ((((a && b) && d) && c) || list_any (makes_eligible (monitor_at site pollutant p)) rs)
      by_tests rest true true true true is = ap (λ t. t || list_any (λ q. q == p) (filter_map (eligible_poc site pollutant) rs)) is
      by_tests rest true true true false is = ap (λ t. t || list_any (λ q. q == p) (filter_map (eligible_poc site pollutant) rs)) is ∙ rest
      by_tests rest true true false true is = rest
      by_tests rest true true false false is = rest
      by_tests rest true false c d is = rest
      by_tests rest false b c d is = rest
  listed p (r ∷ rs) = listed p rs

  eligible_listed : (p : ℕ) → list_any (λ q. q == p) (eligible_pocs records site pollutant) ≡ counts p
  unfolding eligible_pocs is_eligible
  eligible_listed p = listed p records

  itself : (n : ℕ) (m : ℕ) → Some n ≡ Some m → m ≡ n
  itself n m h = cc

  numbered : (n m : ℕ) → if_counts n ≡ Some m → m ≡ n
  numbered n m h = by_test (counts n) h
    where
      by_test : (b : Bool) → cond b (Some n) None ≡ Some m → m ≡ n
      by_test true h = cc
      by_test false h = cc

  pub eligible_rise : IsOffice (office_with records) → Rising (λ k. k) (eligible_pocs records site pollutant)
  unfolding eligible_pocs
  eligible_rise valid = rising-ranked record_rank (rank_at site pollutant) (λ k. k) (eligible_poc site pollutant) ranked (before_poc site pollutant) records valid.keys_rise.records

  all_given : (ns : List ℕ) → filter_map (λ n. Some n) ns ≡ ns
  all_given [] = refl
  all_given (n ∷ ns) = ap (λ l. n ∷ l) (all_given ns)

  found_eligible : (n : ℕ) → found (λ k. k) n (eligible_pocs records site pollutant) ≡ if_counts n
  found_eligible n =
      ap (found (λ k. k) n) (sym (all_given (eligible_pocs records site pollutant)))
      ∙ found-under (λ k. k) (λ k. Some k) (λ m y h. itself m y h) n (eligible_pocs records site pollutant)
      ∙ ap (λ b. cond b (Some n) None) (eligible_listed n)

  pub eligible-are : IsOffice (office_with records) → eligible_pocs records site pollutant ≡ filter_map if_counts (pocs_of records site pollutant)
  eligible-are valid =
      same_list (λ k. k) (eligible_pocs records site pollutant) (filter_map if_counts (pocs_of records site pollutant))
      (eligible_rise valid)
      (rising-under (λ k. k) if_counts numbered (pocs_of records site pollutant) (pocs-rise site pollutant records 0 valid.keys_rise.records))
      (λ n. found_eligible n ∙ sym (found-under (λ k. k) if_counts numbered n (pocs_of records site pollutant) ∙ by_test n (counts n) refl (list_any (λ q. q == n) (pocs_of records site pollutant)) refl))
    where
      by_test : (n : ℕ) (e : Bool) → counts n ≡ e → (b : Bool) → list_any (λ q. q == n) (pocs_of records site pollutant) ≡ b → cond b (if_counts n) None ≡ if_counts n
      by_test n e eligible true there = refl
      by_test n true eligible false absent = absurd (false≢true (sym absent ∙ eligible_there site pollutant n records valid eligible))
      by_test n false eligible false absent = sym (ap (λ b. cond b (Some n) None) eligible)

  -- ---- the lowest of them

  lowest_stays : (n : ℕ) (ns : List ℕ) → Later (λ k. k) n ns → fold lower_poc (Some n) ns ≡ Some n
  lowest_stays n [] later = refl
  lowest_stays n (m ∷ ns) later =
      let less : n < m = later.0 in
      let least : min m n ≡ n = omega (arith, less) in
      ap (λ k. fold lower_poc (Some k) ns) least ∙ lowest_stays n ns later.1

  lowest_is_first : (ns : List ℕ) → Rising (λ k. k) ns → lowest_poc ns ≡ slice_get ns 0
  lowest_is_first [] rising = refl
  lowest_is_first (n ∷ ns) rising = lowest_stays n ns rising.0

  first_counting : (ns : List ℕ) → slice_get (filter_map if_counts ns) 0 ≡ find counts ns
  first_counting [] = refl
  first_counting (n ∷ ns) = by_test (first_counting ns) (counts n)
    where
      by_test : slice_get (filter_map if_counts ns) 0 ≡ find counts ns → (b : Bool) → slice_get (cons_option (cond b (Some n) None) (filter_map if_counts ns)) 0 ≡ cond b (Some n) (find counts ns)
      by_test rest true = refl
      by_test rest false = rest

  pub lowest-is : IsOffice (office_with records) → lowest_poc (eligible_pocs records site pollutant) ≡ find counts (pocs_of records site pollutant)
  lowest-is valid =
      lowest_is_first (eligible_pocs records site pollutant) (eligible_rise valid)
      ∙ ap (λ ns. slice_get ns 0) (eligible-are valid) ∙ first_counting (pocs_of records site pollutant)

  -- a monitor that does not count, and one that does
  pub past_poc : (after poc : ℕ) → IsOffice (office_with records) → next_poc records site pollutant after ≡ Some poc → counts poc ≡ false → find counts (pocs_after records site pollutant after) ≡ find counts (pocs_after records site pollutant poc)
  past_poc after poc valid next none =
      ap (find counts) (pocs-next site pollutant records after poc valid.keys_rise.records next) ∙ ap (λ b. cond b (Some poc) (find counts (pocs_after records site pollutant poc))) none

  pub at_poc : (after poc : ℕ) → IsOffice (office_with records) → next_poc records site pollutant after ≡ Some poc → counts poc ≡ true → find counts (pocs_after records site pollutant after) ≡ Some poc
  at_poc after poc valid next some =
      ap (find counts) (pocs-next site pollutant records after poc valid.keys_rise.records next) ∙ ap (λ b. cond b (Some poc) (find counts (pocs_after records site pollutant poc))) some

  pub no_poc : (after : ℕ) → next_poc records site pollutant after ≡ None → find counts (pocs_after records site pollutant after) ≡ None
  no_poc after none = ap (find counts) (pocs-end site pollutant records after none)

  pub fewer : (after poc : ℕ) → IsOffice (office_with records) → next_poc records site pollutant after ≡ Some poc → length (pocs_after records site pollutant after) ≡ suc (length (pocs_after records site pollutant poc))
  fewer after poc valid next = ap length (pocs-next site pollutant records after poc valid.keys_rise.records next)

  -- ---- steps

  abbrev steps_at : ℕ → ℕ
  steps_at poc = monitor_steps records (monitor_at site pollutant poc)

  -- the primary's steps and those of the others are those of all
  beside_all : (primary : Option ℕ) (ns : List ℕ) → sum_by (steps_beside records site pollutant primary) ns ≤ sum_by steps_at ns
  beside_all primary [] = omega arith
  beside_all primary (n ∷ ns) =
      let step = by_test (option_map_or (λ other. n == other) primary false) in
      omega (arith, step, beside_all primary ns, sum_by-cons (steps_beside records site pollutant primary) n ns, sum_by-cons steps_at n ns)
    where
      by_test : (b : Bool) → cond b 0 (steps_at n) ≤ steps_at n
      by_test true = omega arith
      by_test false = omega arith

  primary_listed : (p : ℕ) (ns : List ℕ) → list_any (λ q. q == p) ns ≡ true → steps_at p + sum_by (steps_beside records site pollutant (Some p)) ns ≤ sum_by steps_at ns
  primary_listed p [] there = cc
  primary_listed p (n ∷ ns) there = by_test (primary_listed p ns) (n == p) refl there
    where
      by_test : (list_any (λ q. q == p) ns ≡ true → steps_at p + sum_by (steps_beside records site pollutant (Some p)) ns ≤ sum_by steps_at ns)
          → (b : Bool) → (n == p) ≡ b → (b || list_any (λ q. q == p) ns) ≡ true → steps_at p + sum_by (steps_beside records site pollutant (Some p)) (n ∷ ns) ≤ sum_by steps_at (n ∷ ns)
      by_test rest true same there =
          let here : n ≡ p = grind (arith, nat_tests, same) in
          let none : steps_beside records site pollutant (Some p) n ≡ 0 = ap (λ b. cond b 0 (steps_at n)) same in
          let one : steps_at n ≡ steps_at p = ap steps_at here in
          omega (arith, none, one, beside_all (Some p) ns, sum_by-cons (steps_beside records site pollutant (Some p)) n ns, sum_by-cons steps_at n ns)
      by_test rest false other there =
          let whole : steps_beside records site pollutant (Some p) n ≡ steps_at n = ap (λ b. cond b 0 (steps_at n)) other in
          omega (arith, whole, rest there, sum_by-cons (steps_beside records site pollutant (Some p)) n ns, sum_by-cons steps_at n ns)

  with-primary : (p : ℕ) → IsOffice (office_with records) → steps_at p + sum_by (steps_beside records site pollutant (Some p)) (pocs_of records site pollutant) ≤ site_steps records site pollutant
  with-primary p valid = by_duration (duration_at (office_with records) (monitor_at site pollutant p)) refl
    where
      by_duration : (o : Option Duration) → duration_at (office_with records) (monitor_at site pollutant p) ≡ o
          → option_map_or steps_by o 0 + sum_by (steps_beside records site pollutant (Some p)) (pocs_of records site pollutant) ≤ site_steps records site pollutant
      by_duration None none = omega (arith, beside_all (Some p) (pocs_of records site pollutant))
      by_duration (Some duration) lasts =
          let whole = primary_listed p (pocs_of records site pollutant) (lasting_there site pollutant p duration records valid lasts) in
          let one : steps_at p ≡ steps_by duration = ap (λ (o : Option Duration). option_map_or steps_by o 0) lasts in
          omega (arith, whole, one)

  -- the primary's steps, if there is one
  abbrev steps_of : Option ℕ → ℕ
  steps_of poc = option_map_or steps_at poc 0

  pub with-others : (primary : Option ℕ) → IsOffice (office_with records) → steps_of primary + sum_by (steps_beside records site pollutant primary) (pocs_of records site pollutant) ≤ site_steps records site pollutant
  with-others None valid = omega (arith, beside_all None (pocs_of records site pollutant))
  with-others (Some p) valid = with-primary p valid

  pub of-one : (poc : Option ℕ) → IsOffice (office_with records) → steps_of poc ≤ site_steps records site pollutant
  of-one poc valid = omega (arith, with-others poc valid)

  steps_few : (ns : List ℕ) → sum_by steps_at ns ≤ 24 * length ns
  steps_few [] = omega arith
  steps_few (n ∷ ns) =
      let step = by_duration (duration_at (office_with records) (monitor_at site pollutant n)) in
      omega (arith, step, steps_few ns, sum_by-cons steps_at n ns)
    where
      by_duration : (o : Option Duration) → option_map_or steps_by o 0 ≤ 24
      by_duration None = omega arith
      by_duration (Some Hour) = omega arith
      by_duration (Some Day) = omega arith

  pub most-steps : IsOffice (office_with records) → site_steps records site pollutant ≤ 192
  most-steps valid = omega (arith, steps_few (pocs_of records site pollutant), pocs-few site pollutant records valid)

-- ---- the monitors' days

none_found : (ss : List Sample) → find (is_of_poc None) ss ≡ None
none_found [] = refl
none_found (s ∷ ss) = none_found ss

values_of : (ss : List Sample) → map (λ (s : Sample). s.cell.value) ss ≡ map (λ (c : Cell). c.value) (map (λ (s : Sample). s.cell) ss)
values_of [] = refl
values_of (s ∷ ss) = ap (λ l. s.cell.value ∷ l) (values_of ss)

many_of : (ss : List Sample) → length ss ≡ length (map (λ (s : Sample). s.cell) ss)
many_of [] = refl
many_of (s ∷ ss) = ap suc (many_of ss)

excluded_of : (ss : List Sample) → list_any (λ (s : Sample). s.cell.excluded) ss ≡ list_any (λ (c : Cell). c.excluded) (map (λ (s : Sample). s.cell) ss)
excluded_of [] = refl
excluded_of (s ∷ ss) = ap (λ b. s.cell.excluded || b) (excluded_of ss)

mean_is : (ss : List Sample) → hour.mean_of ss ≡ mean_of (map (λ (s : Sample). s.cell) ss)
mean_is [] = refl
mean_is (s ∷ ss) =
    λ i. Some (record { value = truncated (total (values_of (s ∷ ss) i)) (pos (many_of (s ∷ ss) i)); excluded = excluded_of (s ∷ ss) i })

module _ (office : Office) (site : Site) (pollutant : Pollutant) (day : ℕ) where
  abbrev cell_for : ℕ → Option Cell
  cell_for poc = monitor_day office (monitor_at site pollutant poc) day

  abbrev sample_for : ℕ → Option Sample
  sample_for poc = sample_on office site pollutant day poc

  -- a monitor that does not count has no day
  pub no_day : (poc : ℕ) → counts office.records site pollutant poc ≡ false → cell_for poc ≡ None
  unfolding monitor_day
  no_day poc none = ap (λ b. cond b (option_and_then (λ duration. day_of_samples office (monitor_at site pollutant poc) duration day) (duration_at office (monitor_at site pollutant poc))) None) none

  numbered_sample : (n : ℕ) (s : Sample) → sample_for n ≡ Some s → s.poc ≡ n
  numbered_sample n s h = by_cell (cell_for n) h
    where
      by_cell : (o : Option Cell) → option_map (as_sample n) o ≡ Some s → s.poc ≡ n
      by_cell None h = cc
      by_cell (Some cell) h = let is : n ≡ s.poc = cc in sym is

  -- the sample of a POC
  of_poc : (primary : Option ℕ) → find (is_of_poc primary) (samples_on office site pollutant day) ≡ option_and_then sample_for primary
  of_poc None = none_found (samples_on office site pollutant day)
  of_poc (Some p) =
      found-under (λ (s : Sample). s.poc) sample_for numbered_sample p (eligible_pocs office.records site pollutant)
      ∙ ap (λ b. cond b (sample_for p) None) (eligible_listed office.records site pollutant p)
      ∙ by_test (counts office.records site pollutant p) refl
    where
      by_test : (b : Bool) → counts office.records site pollutant p ≡ b → cond b (sample_for p) None ≡ sample_for p
      by_test true some = refl
      by_test false none = sym (ap (option_map (as_sample p)) (no_day p none))

  cells_are : (ns : List ℕ) → map (λ (s : Sample). s.cell) (filter_map sample_for ns) ≡ cells_on office site pollutant day ns
  cells_are [] = refl
  cells_are (n ∷ ns) = by_cell (cells_are ns) (cell_for n)
    where
      by_cell : map (λ (s : Sample). s.cell) (filter_map sample_for ns) ≡ cells_on office site pollutant day ns → (o : Option Cell)
          → map (λ (s : Sample). s.cell) (cons_option (option_map (as_sample n) o) (filter_map sample_for ns)) ≡ cons_option o (cells_on office site pollutant day ns)
      by_cell rest None = rest
      by_cell rest (Some c) = ap (λ l. c ∷ l) rest

  counting_alone : (ns : List ℕ) → cells_on office site pollutant day (filter_map (if_counts office.records site pollutant) ns) ≡ cells_on office site pollutant day ns
  counting_alone [] = refl
  counting_alone (n ∷ ns) = by_test (counting_alone ns) (counts office.records site pollutant n) refl
    where
      by_test : cells_on office site pollutant day (filter_map (if_counts office.records site pollutant) ns) ≡ cells_on office site pollutant day ns
          → (b : Bool) → counts office.records site pollutant n ≡ b
          → cells_on office site pollutant day (cons_option (cond b (Some n) None) (filter_map (if_counts office.records site pollutant) ns)) ≡ cons_option (cell_for n) (cells_on office site pollutant day ns)
      by_test rest true some = ap (cons_option (cell_for n)) rest
      by_test rest false none = rest ∙ ap (λ o. cons_option o (cells_on office site pollutant day ns)) (sym (no_day n none))

  pub mean-is : IsOffice (office_with office.records) → hour.mean_of (samples_on office site pollutant day) ≡ mean_of (cells_on office site pollutant day (pocs_of office.records site pollutant))
  mean-is valid =
      mean_is (samples_on office site pollutant day)
      ∙ ap mean_of (cells_are (eligible_pocs office.records site pollutant) ∙ ap (cells_on office site pollutant day) (eligible-are office.records site pollutant valid) ∙ counting_alone (pocs_of office.records site pollutant))

  -- ---- the walk over the monitors, as far as it has come

  pub record WalkedDay (after : ℕ) (tally : DayTally) : Type 0 where
    pub before : List Cell
    pub tallied : IsTallyOf before tally
    pub whole : before ++ cells_on office site pollutant day (pocs_after office.records site pollutant after) ≡ cells_on office site pollutant day (pocs_of office.records site pollutant)
    pub few : tally.count + length (pocs_after office.records site pollutant after) ≤ length (pocs_of office.records site pollutant)

  pub day-begun : (tally : DayTally) → IsTallyOf [] tally → WalkedDay 0 tally
  day-begun tally is = record { before = []; tallied = is; whole = refl; few = omega (arith, is.count) }

  module _ (after poc : ℕ) (tally : DayTally) (valid : IsOffice (office_with office.records)) (next : next_poc office.records site pollutant after ≡ Some poc) (walked : WalkedDay after tally) where
    one_fewer : length (pocs_after office.records site pollutant after) ≡ suc (length (pocs_after office.records site pollutant poc))
    one_fewer = fewer office.records site pollutant after poc valid next

    pub day-room : tally.count < 24
    day-room = omega (arith, walked.few, one_fewer, pocs-few site pollutant office.records valid)

    cells_after : cells_on office site pollutant day (pocs_after office.records site pollutant after) ≡ cons_option (cell_for poc) (cells_on office site pollutant day (pocs_after office.records site pollutant poc))
    cells_after = ap (cells_on office site pollutant day) (pocs-next site pollutant office.records after poc valid.keys_rise.records next)

    joined : (o : Option Cell) (cells : List Cell) → (walked.before ++ option_to_list o) ++ cells ≡ walked.before ++ cons_option o cells
    joined None cells = ap (λ l. l ++ cells) (append-nil walked.before)
    joined (Some c) cells = append_assoc walked.before (c ∷ []) cells

    pub day-more : (o : Option Cell) (more : DayTally) → o ≡ cell_for poc → IsTallyOf (walked.before ++ option_to_list o) more → more.count ≤ tally.count + 1 → WalkedDay poc more
    day-more o more is tallied count = record {
      before = walked.before ++ option_to_list o;
      tallied = tallied;
      whole =
          joined o (cells_on office site pollutant day (pocs_after office.records site pollutant poc))
          ∙ ap (λ p. walked.before ++ cons_option p (cells_on office site pollutant day (pocs_after office.records site pollutant poc))) is
          ∙ ap (λ l. walked.before ++ l) (sym cells_after) ∙ walked.whole;
      few = omega (arith, walked.few, one_fewer, count);
    }

    pub day-past : cell_for poc ≡ None → WalkedDay poc tally
    day-past none = record {
      before = walked.before;
      tallied = walked.tallied;
      whole =
          ap (λ p. walked.before ++ cons_option p (cells_on office site pollutant day (pocs_after office.records site pollutant poc))) (sym none)
          ∙ ap (λ l. walked.before ++ l) (sym cells_after) ∙ walked.whole;
      few = omega (arith, walked.few, one_fewer);
    }

    abbrev steps_from : Option ℕ → ℕ → ℕ
    steps_from primary start = sum_by (steps_beside office.records site pollutant primary) (pocs_after office.records site pollutant start)

    pub steps-from : (primary : Option ℕ) → steps_from primary after ≡ steps_beside office.records site pollutant primary poc + steps_from primary poc
    steps-from primary =
        ap (sum_by (steps_beside office.records site pollutant primary)) (pocs-next site pollutant office.records after poc valid.keys_rise.records next)
        ∙ sum_by-cons (steps_beside office.records site pollutant primary) poc (pocs_after office.records site pollutant poc)

  pub day-done : (after : ℕ) (tally : DayTally) (walked : WalkedDay after tally) → next_poc office.records site pollutant after ≡ None → walked.before ≡ cells_on office site pollutant day (pocs_of office.records site pollutant)
  day-done after tally walked end =
      sym (append-nil walked.before)
      ∙ ap (λ l. walked.before ++ l) (sym (ap (cells_on office site pollutant day) (pocs-end site pollutant office.records after end)))
      ∙ walked.whole

-- ---- the site's day

module _ (office : Office) (site : Site) (day : ℕ) where
  abbrev day_of : Pollutant → Option ℕ → Option Cell
  day_of pollutant poc = option_and_then (λ p. monitor_day office (monitor_at site pollutant p) day) poc

  cell_of_sample : (pollutant : Pollutant) (poc : Option ℕ) → option_map (λ (s : Sample). s.cell) (option_and_then (sample_on office site pollutant day) poc) ≡ day_of pollutant poc
  cell_of_sample pollutant None = refl
  cell_of_sample pollutant (Some p) = by_cell (monitor_day office (monitor_at site pollutant p) day)
    where
      by_cell : (o : Option Cell) → option_map (λ (s : Sample). s.cell) (option_map (as_sample p) o) ≡ o
      by_cell None = refl
      by_cell (Some c) = refl

  by_primary : (ss : List Sample) (o : Option Sample) (p : Option Cell) → option_map (λ (s : Sample). s.cell) o ≡ p → chosen o ss ≡ option_or p (hour.mean_of ss)
  by_primary ss None p is = ap (λ q. option_or q (hour.mean_of ss)) is
  by_primary ss (Some s) p is = ap (λ q. option_or q (hour.mean_of ss)) is

  pub fine-is : (primary : Option ℕ) → IsOffice (office_with office.records) → primary ≡ primary_on office.records site Pm25 day
      → option_or (day_of Pm25 primary) (mean_of (cells_on office site Pm25 day (pocs_of office.records site Pm25))) ≡ site_day office site Pm25 day
  unfolding site_day
  fine-is primary valid is =
      sym (ap (λ p. chosen (find (is_of_poc p) (samples_on office site Pm25 day)) (samples_on office site Pm25 day)) (sym is)
      ∙ by_primary (samples_on office site Pm25 day) (find (is_of_poc primary) (samples_on office site Pm25 day)) (day_of Pm25 primary)
      (ap (option_map (λ (s : Sample). s.cell)) (of_poc office site Pm25 day primary) ∙ cell_of_sample Pm25 primary)
      ∙ ap (option_or (day_of Pm25 primary)) (mean-is office site Pm25 day valid))

  pub coarse-is : (counting : Option ℕ) → counting ≡ counting_poc office site day → day_of Pm10 counting ≡ site_day office site Pm10 day
  unfolding site_day
  coarse-is counting is =
      sym (ap (λ p. option_map (λ (s : Sample). s.cell) (find (is_of_poc p) (samples_on office site Pm10 day))) (sym is)
      ∙ ap (option_map (λ (s : Sample). s.cell)) (of_poc office site Pm10 day counting) ∙ cell_of_sample Pm10 counting)

  pub none-of : (primary : Option ℕ) → day_of Pm25 primary ≡ None → IfSome primary (λ p. monitor_day office (monitor_at site Pm25 p) day ≡ None)
  none-of None none = tt
  none-of (Some p) none = none

flipped : (m n : ℕ) → (m == n) ≡ (n == m)
flipped m n = grind (arith, nat_tests)

-- whether a POC is the primary's
pub is_primary : (primary : Option ℕ) (poc : ℕ) → option_eq (λ m n. m == n) primary (Some poc) ≡ option_map_or (λ other. poc == other) primary false
is_primary None poc = refl
is_primary (Some p) poc = flipped p poc

pub primary-none : (office : Office) (site : Site) (pollutant : Pollutant) (day : ℕ) (primary : Option ℕ) (poc : ℕ) → option_map_or (λ other. poc == other) primary false ≡ true
    → IfSome primary (λ p. monitor_day office (monitor_at site pollutant p) day ≡ None) → monitor_day office (monitor_at site pollutant poc) day ≡ None
primary-none office site pollutant day None poc is none = cc
primary-none office site pollutant day (Some p) poc is none =
    let one : p ≡ poc = grind (arith, nat_tests, is) in
    subst (λ n. monitor_day office (monitor_at site pollutant n) day ≡ None) one none
