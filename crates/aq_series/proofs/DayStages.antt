-- The states of some days' hours, as far as the walk over the POCs has come, and the values that they give.
use Rattle.std.proofs.Common.{cond, ◌&&◌, ◌≡◌, ℕ, zero, suc, ◌+◌, ◌*◌, ◌/◌, ◌<◌, nat_le, ◌≤◌, Bool, true, false, Some, None, Option, List, [], ◌∷◌, length, map, get_or, refl, ap, sym, subst, ◌∙◌, arith}
use Rattle.std.specs.Prelude.{ℤ, pos, negsuc, ◌+ℤ◌, find, ◌==◌, ◌||◌, option_map, IfSome}
use Rattle.std.specs.List.{range_with_len, AllByRecursion, filter_map, cons_option}
use Rattle.std.specs.Option.{option_eq}
use Rattle.std.proofs.lemmas.Int.{ints}
use Rattle.std.proofs.lemmas.List.FromFn.{fill_by_all}
use Rattle.std.proofs.Math.Nat.{mul-add-div}
use Rattle.std.proofs.lemmas.Bool.Decides.{nat_tests}
use Rattle.aq_base.specs.declared.day.TheConstants.{LAST_DAY, LAST_HOUR}
use Rattle.aq_base.specs.Calendar.{day_of_hour}
use Rattle.aq_base.specs.Decimal.{truncated}
use Rattle.aq_base.specs.Site.{Site}
use Rattle.aq_base.specs.declared.monitor.Pollutant.TheVariants.{Ozone}
use Rattle.aq_base.specs.declared.observation.ObsKey.{ObsKey}
use Rattle.aq_base.specs.declared.observation.Observation.{Observation}
use Rattle.aq_base.specs.declared.office.OfficeRecord.{OfficeRecord}
use Rattle.aq_rules.specs.Office.Designation.{primary_on}
use Rattle.aq_rules.specs.Office.Exclusion.{excluded}
use Rattle.aq_rules.specs.Office.Monitors.{is_eligible, is_same_pollutant, is_same_site}
use Rattle.aq_rules.specs.Office.Office.{IsOffice}
use Rattle.aq_rules.specs.Office.Questions.{next_poc}
use Rattle.aq_rules.specs.Ozone.SiteHour.{Cell, Sample, chosen, is_of_poc, is_ozone_at, mean_of, sample_of, site_hour}
use Rattle.aq_registry.specs.Registry.{office_with}
use Rattle.aq_shelf.specs.Standing.{IsShelf, IsStanding}
use Rattle.aq_series.proofs.Walk.{samples-are}
use Rattle.aq_series.specs.declared.day_hours.HourState.{HourState}
use Rattle.aq_series.specs.declared.tally.Tally.{Tally}
use Rattle.aq_series.specs.DayStates.{Adds, AddsValue, HasRoom, IsUnread, hour_at, is_primary, primary_in}
use Rattle.aq_series.specs.OfficeView.{office_of}
use Rattle.aq_series.specs.Samples.{cell_at, ozone_key, samples_above, AreOzone, IsOfEight, IsOzone, IsTally}
use Rattle.aq_series.proofs.Stages.{Walked, hour-is, of_poc, primary-found, room, walked-all, walked-more, walked-none, walked-past}

-- ---- one value alone

undivided : (v : ℤ) → truncated (pos 0 +ℤ v) (pos 1) ≡ v
undivided (pos n) = omega (arith, ints)
undivided (negsuc n) = omega (arith, ints)

or_nothing : (b : Bool) → (b || false) ≡ b
or_nothing true = refl
or_nothing false = refl

mean_alone : (s : Sample) → mean_of (s ∷ []) ≡ Some s.cell
mean_alone s = λ i. Some (record { value = undivided s.cell.value i; excluded = or_nothing s.cell.excluded i })

module _ (records : List OfficeRecord) (rows : List (ObsKey × Observation)) (site : Site) (primary : Option ℕ) (hour : ℕ) where
  -- the primary's value alone
  pub record IsSettled (tally : Tally) : Type 0 where
    pub sample : Sample
    pub found : find (is_of_poc primary) (samples_above records rows site hour 0) ≡ Some sample
    pub alone : IsTally (sample ∷ []) tally

  abbrev pub StandsBy : Bool → ℕ → Tally → Type 0
  StandsBy true after tally = IsSettled tally
  StandsBy false after tally = Walked records rows site hour primary after tally

  pub record Stands (after : ℕ) (state : HourState) : Type 0 where
    pub eight : IsOfEight state.values
    pub primary_is : state.primary ≡ primary
    pub by : StandsBy state.is_settled after state.values

  pub stands-none : (state : HourState) → IsUnread primary state → Stands 0 state
  stands-none state unread = record {
    eight = unread.eight;
    primary_is = unread.primary_is;
    by = subst (λ b. StandsBy b 0 state.values) (sym unread.unsettled) (walked-none records rows site hour primary state.values unread.tally);
  }

  -- ---- one more POC

  module _ (after poc : ℕ) (valid : IsOffice (office_with records)) (next : next_poc records site Ozone after ≡ Some poc) where
    pub has_room : (state : HourState) → Stands after state → HasRoom state
    has_room state stands = (stands.eight, by_flag state.is_settled stands.by)
      where
        by_flag : (b : Bool) → StandsBy b after state.values → state.values.count < 8
        by_flag true settled = omega (arith, settled.alone.count)
        by_flag false walked = room records rows site hour primary after poc state.values valid next walked

    unchanged : (state : HourState) → Stands after state → cell_at records rows (ozone_key site hour poc) ≡ None → Stands poc state
    unchanged state stands none = record { eight = stands.eight; primary_is = stands.primary_is; by = by_flag state.is_settled stands.by }
      where
        by_flag : (b : Bool) → StandsBy b after state.values → StandsBy b poc state.values
        by_flag true settled = settled
        by_flag false walked =
            walked-past records rows site hour primary after poc state.values valid next walked (ap (λ o. option_map (λ (cell : Cell). record { poc = poc; cell = cell }) o) none)

    module _ (cell : Cell) (given : cell_at records rows (ozone_key site hour poc) ≡ Some cell) (before now : HourState) where
      abbrev sample : Sample
      sample = record { poc = poc; cell = cell }

      as_given : option_map (λ (c : Cell). record { poc = poc; cell = c }) (cell_at records rows (ozone_key site hour poc)) ≡ Some sample
      as_given = ap (λ o. option_map (λ (c : Cell). record { poc = poc; cell = c }) o) given

      changed : AddsValue poc cell before now → Stands after before → Stands poc now
      changed adds stands = by_flag before.is_settled refl stands.by
        where
          test_is : is_primary before poc ≡ is_of_poc primary sample
          test_is = ap (λ p. option_eq (λ m n. m == n) p (Some poc)) stands.primary_is ∙ of_poc primary poc cell

          by_primary : before.is_settled ≡ false → Walked records rows site hour primary after before.values → (b : Bool) → is_primary before poc ≡ b → Stands poc now
          by_primary unsettled walked true is = record {
            eight = adds.eight;
            primary_is = adds.kept ∙ stands.primary_is;
            by =
                subst (λ b. StandsBy b poc now.values) (sym (adds.found unsettled is))
                (record {
                  sample = sample;
                  found = primary-found records rows site hour primary after poc before.values valid next walked sample as_given (sym test_is ∙ is);
                  alone = adds.alone unsettled is;
                });
          }
          by_primary unsettled walked false other = record {
            eight = adds.eight;
            primary_is = adds.kept ∙ stands.primary_is;
            by =
                subst (λ b. StandsBy b poc now.values) (sym (adds.unsettled unsettled other))
                (walked-more records rows site hour primary after poc before.values valid next walked sample as_given now.values (sym test_is ∙ other)
                (adds.more unsettled other walked.before walked.tallied) (adds.count unsettled other));
          }

          by_flag : (b : Bool) → before.is_settled ≡ b → StandsBy b after before.values → Stands poc now
          by_flag true is settled =
              subst (λ (state : HourState). Stands poc state) (sym (adds.settled is))
              (record { eight = stands.eight; primary_is = stands.primary_is; by = subst (λ b. StandsBy b poc before.values) (sym is) settled })
          by_flag false is walked = by_primary is walked (is_primary before poc) refl

    pub stands-more : (before now : HourState) → Adds poc (cell_at records rows (ozone_key site hour poc)) before now → Stands after before → Stands poc now
    stands-more before now adds stands = by_cell (cell_at records rows (ozone_key site hour poc)) refl adds
      where
        by_cell : (o : Option Cell) → cell_at records rows (ozone_key site hour poc) ≡ o → Adds poc o before now → Stands poc now
        by_cell None none same = subst (λ (state : HourState). Stands poc state) (sym same) (unchanged before stands none)
        by_cell (Some cell) given adds = changed cell given before now adds stands

  -- ---- the end

  -- the value that the samples give
  abbrev given_by : Option ℕ → List Sample → Option Cell
  given_by p samples = chosen (find (is_of_poc p) samples) samples

  module _ (is : site_hour (office_of records rows) site hour ≡ given_by primary (samples_above records rows site hour 0)) where
    pub stands-end : (after : ℕ) (state : HourState) → next_poc records site Ozone after ≡ None → Stands after state → (answer : Option Cell) → ((before : List Sample) → IsTally before state.values → answer ≡ mean_of before) → answer ≡ site_hour (office_of records rows) site hour
    stands-end after state end stands answer mean = by_flag state.is_settled stands.by
      where
        by_flag : (b : Bool) → StandsBy b after state.values → answer ≡ site_hour (office_of records rows) site hour
        by_flag true settled =
            mean (settled.sample ∷ []) settled.alone ∙ mean_alone settled.sample
            ∙ ap (λ o. chosen o (samples_above records rows site hour 0)) (sym settled.found) ∙ sym is
        by_flag false walked =
            mean walked.before walked.tallied ∙ ap (λ o. chosen o walked.before) (sym walked.none)
            ∙ ap (given_by primary) (walked-all records rows site hour primary after state.values walked end) ∙ sym is

  -- past the profile nothing stands
  module _ (valid : IsOffice (office_with records)) (shelf : IsShelf rows) (past : LAST_HOUR < hour) where
    none_of : (a b : Bool) → ((a && false) && b) ≡ false
    none_of true b = refl
    none_of false b = refl

    none_at : (row : ObsKey × Observation) → IsStanding row → sample_of (office_of records rows) site hour row ≡ None
    none_at row standing =
        let other : (row.0.hour == hour) ≡ false = grind (arith, nat_tests, standing.0) in
        let key = row.0.monitor in
        let test : (is_ozone_at site hour row.0 && is_eligible records key) ≡ false =
        ap (λ b. ((is_same_pollutant key.pollutant Ozone && is_same_site key.site site) && b) && is_eligible records key) other
        ∙ none_of (is_same_pollutant key.pollutant Ozone && is_same_site key.site site) (is_eligible records key)
        in
        ap (λ b. cond b (option_map (λ (value : ℤ). record { poc = key.poc; cell = record { value = value; excluded = excluded records row.0 row.1.quals } }) row.1.value) None) test

    none_in : (es : List (ObsKey × Observation)) → AllByRecursion IsStanding es → filter_map (sample_of (office_of records rows) site hour) es ≡ []
    none_in [] all = refl
    none_in (row ∷ es) all = ap (λ (o : Option Sample). cons_option o (filter_map (sample_of (office_of records rows) site hour) es)) (none_at row all.0) ∙ none_in es all.1

    pub hour-past : site_hour (office_of records rows) site hour ≡ given_by primary (samples_above records rows site hour 0)
    unfolding site_hour
    hour-past =
        let none = none_in rows shelf.standing in
        ap (given_by (primary_on records site Ozone (day_of_hour hour))) none
        ∙ sym (ap (given_by primary) (sym (samples-are records rows site hour valid shelf.rising) ∙ none))

  pub at_profile : IsOffice (office_with records) → IsShelf rows → site_hour (office_of records rows) site hour ≡ hour_at (office_of records rows) site hour
  unfolding site_hour
  at_profile valid shelf = by_test (nat_le hour LAST_HOUR) refl
    where
      by_test : (b : Bool) → nat_le hour LAST_HOUR ≡ b → site_hour (office_of records rows) site hour ≡ cond b (site_hour (office_of records rows) site hour) None
      by_test true within = refl
      by_test false behind =
          let past : LAST_HOUR < hour = grind (arith, nat_tests) in
          ap (given_by (primary_on records site Ozone (day_of_hour hour))) (none_in valid shelf past rows shelf.standing)

-- ---- the hours of some days

module _ (records : List OfficeRecord) (rows : List (ObsKey × Observation)) (site : Site) (valid : IsOffice (office_with records)) (shelf : IsShelf rows) (day k : ℕ) where
  pub hour-given : site_hour (office_of records rows) site (24 * day + k)
      ≡ given_by records rows site (primary_in records site (day + k / 24)) (24 * day + k) (primary_in records site (day + k / 24)) (samples_above records rows site (24 * day + k) 0)
  hour-given = by_test (nat_le (day + k / 24) LAST_DAY) refl
    where
      same_day : day_of_hour (24 * day + k) ≡ day + k / 24
      same_day = mul-add-div {m = 24} (omega arith) day k

      parts : k / 24 * 24 ≤ k
      parts = omega arith

      by_test : (b : Bool) → nat_le (day + k / 24) LAST_DAY ≡ b
          → site_hour (office_of records rows) site (24 * day + k)
          ≡ given_by records rows site (primary_in records site (day + k / 24)) (24 * day + k) (primary_in records site (day + k / 24)) (samples_above records rows site (24 * day + k) 0)
      by_test true within =
          hour-is records rows site (24 * day + k) (primary_in records site (day + k / 24)) valid shelf.rising
          (ap (λ b. cond b (primary_on records site Ozone (day + k / 24)) None) within ∙ ap (primary_on records site Ozone) (sym same_day))
      by_test false behind =
          let most : LAST_DAY < day + k / 24 = grind (arith, nat_tests) in
          hour-past records rows site (primary_in records site (day + k / 24)) (24 * day + k) valid shelf (omega (arith, most, parts))

shifted : {Y : Type 0} (f : ℕ → Y) (a b n : ℕ) → map (λ k. f (a + k)) (range_with_len b n) ≡ map f (range_with_len (a + b) n)
shifted f a b zero = refl
shifted {Y} f a b (suc n) =
    let e : a + (b + 1) ≡ a + b + 1 = omega arith in
    ap (λ (l : List Y). f (a + b) ∷ l) (shifted f a (b + 1) n ∙ ap (λ (k : ℕ). map f (range_with_len k n)) e)

pub hours_are : (f : ℕ → Option Cell) (cells : List (Option Cell)) (first : ℕ) → length cells ≡ 192 → ((k : ℕ) → k < 192 → get_or cells k None ≡ f (first + k)) → cells ≡ map f (range_with_len first 192)
hours_are f cells first many each =
    let e : first + 0 ≡ first = omega arith in
    fill_by_all (λ k. f (first + k)) cells 192 None many each ∙ shifted f first 0 192 ∙ ap (λ (k : ℕ). map f (range_with_len k 192)) e

pub ozone_by : (cells : List (Option Cell)) → ((k : ℕ) → IfSome (get_or cells k None) (λ (cell : Cell). IsOzone cell.value)) → AreOzone cells
ozone_by [] each = tt
ozone_by (cell ∷ cells) each = (each 0, ozone_by cells (λ k. each (suc k)))
