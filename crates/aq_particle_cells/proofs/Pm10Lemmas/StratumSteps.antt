-- The stratum that holds a day, and the days of one, found by a walk from day to day.
use Rattle.std.proofs.Common.{◌≡◌, ℕ, suc, ◌+◌, ◌-◌, ◌<◌, ◌≤◌, Bool, true, false, cond, List, [], ◌∷◌, ◌++◌, length, refl, ap, sym, subst, ◌∙◌, arith, ◌⊎◌, inl, inr, length-append}
use mir.Val.{bool_byte}
use Rattle.std.specs.Prelude.{◌==◌, ℤ, Option, Some, None, count_by, filter_map}
use Rattle.std.specs.List.{cons_option, range_with_len}
use Rattle.std.specs.Option.{option_map_or, option_to_list}
use Rattle.std.proofs.lemmas.Bool.Decides.{nat_tests}
use Rattle.std.proofs.lemmas.List.Elements.{filter_map-append}
use Rattle.std.proofs.lemmas.List.Sums.{sum_by-append, sum_by-cons}
use Rattle.aq_agg.proofs.ItemsOfDays.{cut}
use Rattle.aq_agg.specs.StratumSums.{stratum_with}
use Rattle.aq_base.specs.Calendar.{days_in_quarter, quarter_first, quarter_of}
use Rattle.aq_base.specs.Site.{Site}
use Rattle.aq_base.specs.declared.day.TheConstants.{LAST_DAY}
use Rattle.aq_base.specs.declared.monitor.Pollutant.TheVariants.{Pm10}
use Rattle.aq_base.specs.declared.office.OfficeRecord.{OfficeRecord}
use Rattle.aq_cal.proofs.Within.{quarter_holds}
use Rattle.aq_dirty.proofs.OutOfReachLemmas.DaysOfQuarters as reached
use Rattle.aq_rules.proofs.Pm10Facts.{quarter_days}
use Rattle.aq_rules.specs.Office.Schedule.{is_scheduled}
use Rattle.aq_rules.specs.Particles.Pm10Estimate.{exceeds}
use Rattle.aq_rules.specs.Particles.QuarterCounts.{days_of_quarter}
use Rattle.aq_rules.specs.Particles.Strata.{quarter_end, stratum_by}
use Rattle.aq_dirty.proofs.StratumStarts.{latest-is, six-apart, start-here, start_of}
use Rattle.aq_particle_cells.specs.Pm10.Strata.{days_of_stratum, is_in_stratum, stratum_of_samples}
use Rattle.aq_particle_cells.proofs.DaysLemmas.DayLemmas.{in-quarter}
use Rattle.aq_particle_cells.proofs.DaysLemmas.ItemCounts.{one_where}
use Rattle.aq_particle_cells.proofs.Pm10Lemmas.StratumDays.{days-are, days_in, filter-none, filter-same, holder}
use Rattle.aq_particle_cells.proofs.Pm10Lemmas.StratumStarts.{goes-on, start-itself, starts-later}

-- the quarter of a day of the profile lies in the profile
ends-by : (first many : ℕ) → 90 ≤ many → ((day : ℕ) → first ≤ day → day < first + many → day ≤ LAST_DAY) → first + many ≤ LAST_DAY + 1
ends-by first many some each = let last = each (first + many - 1) (omega (arith, some)) (omega (arith, some)) in omega (arith, some, last)

pub ends-in_profile : (day : ℕ) → day ≤ LAST_DAY → quarter_end (quarter_of day) ≤ LAST_DAY + 1
ends-in_profile day within =
    ends-by (quarter_first (quarter_of day)) (days_in_quarter (quarter_of day)) (quarter_days (quarter_of day)).0
    (λ other low high. (reached.in-quarter (quarter_of day) other (reached.quarter_of-is_year day within) low high).in_profile)

-- ---- the stratum of a day

module _ (records : List OfficeRecord) (site : Site) where
  abbrev asked : ℕ → Bool
  asked = is_scheduled records site Pm10

  by-start : (day : ℕ) → day ≤ LAST_DAY → stratum_by records site day ≡ Some (start_of asked (quarter_first (quarter_of day)) (day - quarter_first (quarter_of day)))
  unfolding days_of_quarter
  by-start day within = let span = in-quarter day within in latest-is asked (quarter_first (quarter_of day)) day (days_in_quarter (quarter_of day)) span.0 span.1

  -- of a day of a quarter whose first day is known
  at-start : (quarter opens day : ℕ) → opens ≡ quarter_first quarter → day ≤ LAST_DAY → quarter_of day ≡ quarter → stratum_by records site day ≡ Some (start_of asked opens (day - opens))
  at-start quarter opens day is within its =
      let first : quarter_first (quarter_of day) ≡ opens = ap (λ q. quarter_first q) its ∙ sym is in
      by-start day within ∙ ap (λ f. Some (start_of asked f (day - f))) first

  -- ---- the days of a stratum

  module _ (first : ℕ) (within : first ≤ LAST_DAY) where
    abbrev opens : ℕ
    opens = quarter_first (quarter_of first)

    abbrev many : ℕ
    many = days_in_quarter (quarter_of first)

    abbrev no_net : ℕ → Option ℤ
    no_net day = None

    lies : (day : ℕ) → opens ≤ day → day < opens + many → day ≤ LAST_DAY → quarter_of day ≡ quarter_of first
    lies day low high inside = (quarter_holds (quarter_of first) day inside).1 (low, high)

    module _ (in_profile : quarter_end (quarter_of first) ≤ LAST_DAY + 1) where
      held : (day : ℕ) → opens ≤ day → day < opens + many → stratum_by records site day ≡ Some (holder asked opens many no_net day)
      held day low high =
          let inside : day ≤ LAST_DAY = omega (arith, high, in_profile) in
          at-start (quarter_of first) opens day refl inside (lies day low high inside)

      days-of : days_of_stratum records site first ≡ days_in asked opens many no_net first
      unfolding days_of_quarter
      days-of =
          filter-same (is_in_stratum records site first) (λ day. holder asked opens many no_net day == first) opens many
          (λ day low high. ap (λ (o : Option ℕ). option_map_or (λ start. start == first) o false) (held day low high))

      -- none, if no stratum starts there
      pub no-days : (other : ℕ) → stratum_by records site first ≡ Some other → (other ≡ first → ⊥) → days_of_stratum records site first ≡ []
      no-days other is apart = days-of ∙ filter-none (λ day. holder asked opens many no_net day == first) opens many off
        where
          span : (opens ≤ first) × (first < opens + many)
          span = in-quarter first within

          held-here : holder asked opens many no_net first ≡ other
          held-here = let e = sym (held first span.0 span.1) ∙ is in cc

          off : (day : ℕ) → opens ≤ day → day < opens + many → (holder asked opens many no_net day == first) ≡ false
          off day low high =
              elim (holder asked opens many no_net day == first) as (λ b. (holder asked opens many no_net day == first) ≡ b → b ≡ false) [
                | true ↦ λ on.
                    let same : holder asked opens many no_net day ≡ first = grind (arith, nat_tests, on) in
                    let back : start_of asked opens (first - opens) ≡ first
                    = ap (λ f. start_of asked opens (f - opens)) (sym same) ∙ start-itself asked opens (day - opens) ∙ same in
                    absurd (apart (sym held-here ∙ back))
                | false ↦ λ none. refl
              ] refl

      -- up to where the next one may start
      module _ (begun : stratum_by records site first ≡ Some first) where
        abbrev place : ℕ
        place = first - opens

        low : opens ≤ first
        low = (in-quarter first within).0

        here : start_of asked opens place ≡ opens + place
        here =
            let high = (in-quarter first within).1 in
            let at : opens + place ≡ first = omega (arith, low) in
            let e : Some (start_of asked opens place) ≡ Some first = sym (held first low high) ∙ begun in
            let is : start_of asked opens place ≡ first = cc in
            is ∙ sym at

        pub days-found : (stop : ℕ) → first < stop → stop ≤ first + 6 → stop ≤ quarter_end (quarter_of first)
            → ((d : ℕ) → first < d → d < stop → asked d ≡ false)
            → ((stop ≡ first + 6) ⊎ (stop ≡ quarter_end (quarter_of first))) ⊎ (asked stop ≡ true)
            → days_of_stratum records site first ≡ range_with_len first (stop - first)
        days-found stop some six until none ends =
            days-of ∙ days-are asked opens many no_net first stop (record {
              from = low;
              some = some;
              until = until;
              here = λ day from to.
                  let j : ℕ = day - first in
                  let at : opens + place ≡ first = omega (arith, low) in
                  let all : day - opens ≡ place + j = omega (arith, low, from) in
                  ap (start_of asked opens) all
                  ∙ goes-on asked opens place j here (omega (arith, six, to)) (λ d after before. none d (omega (arith, after, at)) (omega (arith, before, at, from, to)))
                  ∙ at;
              behind = λ day from to. behind ends day from to;
            })
          where
            -- a stratum that starts at a day is in front of all behind it
            after-start : (k : ℕ) → opens + k ≡ stop → start_of asked opens k ≡ opens + k → (day : ℕ) → stop ≤ day → stop ≤ holder asked opens many no_net day
            after-start k at begins day from =
                let all : day - opens ≡ k + (day - stop) = omega (arith, at, from) in
                subst (λ n. stop ≤ start_of asked opens n) (sym all) (subst (λ n. n ≤ start_of asked opens (k + (day - stop))) at (starts-later asked opens k (day - stop) begins))

            behind : ((stop ≡ first + 6) ⊎ (stop ≡ quarter_end (quarter_of first))) ⊎ (asked stop ≡ true) → (day : ℕ) → stop ≤ day → day < opens + many → stop ≤ holder asked opens many no_net day
            behind (inl (inl longest)) day from to =
                let at : opens + (place + 6) ≡ stop = omega (arith, low, longest) in
                let next : start_of asked opens (place + 6) ≡ opens + (place + 6) = six-days longest in
                after-start (place + 6) at next day from
              where
                six-days : stop ≡ first + 6 → start_of asked opens (place + 6) ≡ opens + (place + 6)
                six-days is = six-on (asked (opens + (place + 6))) refl
                  where
                    six-on : (b : Bool) → asked (opens + (place + 6)) ≡ b → start_of asked opens (place + 6) ≡ opens + (place + 6)
                    six-on true on = start-here asked opens (place + 6) (inr on)
                    six-on false off =
                        six-apart asked opens place 6 here (λ d after before. unasked d after before) ∙ omega arith
                      where
                        unasked : (d : ℕ) → opens + place < d → d ≤ opens + place + 6 → asked d ≡ false
                        unasked d after before =
                            elim (d == opens + (place + 6)) as (λ b. (d == opens + (place + 6)) ≡ b → asked d ≡ false) [
                              | true ↦ λ last. let same : d ≡ opens + (place + 6) = grind (arith, nat_tests, last) in ap asked same ∙ off
                              | false ↦ λ inside.
                                  let earlier : d < opens + (place + 6) = grind (arith, nat_tests, inside, before) in
                                  none d (omega (arith, after, low)) (omega (arith, earlier, low, is))
                            ] refl
            behind (inl (inr closes)) day from to = absurd (omega (arith, closes, from, to))
            behind (inr on) day from to =
                let at : opens + (stop - opens) ≡ stop = omega (arith, low, some) in
                after-start (stop - opens) at (start-here asked opens (stop - opens) (inr (ap asked at ∙ on))) day from

-- ---- samples

-- what is kept of samples, by their number
pub stratum-none : (values : List ℤ) → length values ≡ 0 → None ≡ stratum_of_samples values
stratum-none [] none = refl
stratum-none (v ∷ values) none = absurd (omega (arith, none))

pub stratum-some : (values : List ℤ) → (length values ≡ 0 → ⊥) → Some (stratum_with values) ≡ stratum_of_samples values
stratum-some [] some = absurd (some refl)
stratum-some (v ∷ values) some = refl

-- with one sample more
pub sample-more : (values : List ℤ) (v : ℤ) (e n byte : ℕ) → (let counts : ℕ × ℕ = (e, n) in counts) ≡ stratum_with values → byte ≡ bool_byte (exceeds v)
    → (let counts : ℕ × ℕ = (e + byte, n + 1) in counts) ≡ stratum_with (values ++ v ∷ [])
sample-more values v e n byte is one =
    let exceed : e ≡ count_by exceeds values = ap (λ (p : ℕ × ℕ). p.0) is in
    let number : n ≡ length values = ap (λ (p : ℕ × ℕ). p.1) is in
    let last : count_by exceeds (v ∷ []) ≡ cond (exceeds v) 1 0 = omega (arith, sum_by-cons (λ (x : ℤ). cond (exceeds x) 1 0) v []) in
    let more : e + byte ≡ count_by exceeds (values ++ v ∷ [])
    = (λ i. exceed i + (one ∙ one_where (exceeds v) ∙ sym last) i) ∙ sym (sum_by-append (λ (x : ℤ). cond (exceeds x) 1 0) values (v ∷ [])) in
    let longer : n + 1 ≡ length (values ++ v ∷ []) = omega (arith, number, length-append values (v ∷ [])) in
    λ i. (more i, longer i)

pub sample-none : (values : List ℤ) → values ≡ values ++ []
sample-none [] = refl
sample-none (v ∷ values) = ap (λ (l : List ℤ). v ∷ l) (sample-none values)

-- of one day more
pub samples-more : (net : ℕ → Option ℤ) (first n day : ℕ) → first + n ≡ day → filter_map net (range_with_len first n) ++ option_to_list (net day) ≡ filter_map net (range_with_len first (n + 1))
samples-more net first n day at =
    let one : n + suc 0 ≡ n + 1 = omega arith in
    ap (λ k. filter_map net (range_with_len first n) ++ option_to_list (net k)) (sym at)
    ∙ ap (λ (l : List ℤ). filter_map net (range_with_len first n) ++ l) (listed (net (first + n)))
    ∙ sym (filter_map-append net (range_with_len first n) ((first + n) ∷ []))
    ∙ ap (filter_map net) (sym (cut first n 0)) ∙ ap (λ k. filter_map net (range_with_len first k)) one
  where
    listed : (o : Option ℤ) → option_to_list o ≡ cons_option o []
    listed None = refl
    listed (Some v) = refl
