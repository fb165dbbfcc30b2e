-- What is kept of a quarter is what its days give together, and it keeps its facts.
use Rattle.std.proofs.Common.{◌≡◌, ℕ, ◌+◌, ◌≤◌, Bool, true, false, not, cond, ◌&&◌, Some, None, Option, List, [], ◌∷◌, length, map, refl, ap, sym, subst, ◌∙◌, arith}
use Rattle.std.specs.Prelude.{ℤ, is_some, count_by, filter, IsTrue}
use Rattle.std.specs.List.{filter_map, cons_option}
use Rattle.std.specs.Option.{option_and_then, option_or}
use Rattle.std.proofs.lemmas.Bool.{and_parts}
use Rattle.std.proofs.lemmas.List.Sums.{count_by-le-length, length-filter, sum_by-cons}
use Rattle.aq_base.specs.Calendar.{days_in_quarter}
use Rattle.aq_base.specs.declared.monitor.Pollutant.TheVariants.{Pm25}
use Rattle.aq_rules.specs.Kept.Summaries.{is_value, KeepsPmQuarter, summary_of_quarter}
use Rattle.aq_rules.specs.Lists.{greatest, least, total}
use Rattle.aq_rules.specs.Ozone.SiteHour.{Cell}
use Rattle.aq_rules.specs.Particles.ParticleDay.{unless_excluded}
use Rattle.aq_rules.specs.Particles.QuarterCounts.{Makeup, QuarterDays, days_of_quarter, in_time_by}
use Rattle.aq_rules.proofs.Elements.{Every}
use Rattle.aq_rules.proofs.Pm10Facts.{count-implied, length-days, quarter_days}
use Rattle.aq_rules.proofs.Pm25Facts.{greatest-there, least-there, no-sum, sum-within}
use Rattle.aq_rules.proofs.ValueRange.{IfValueTo, InRangeTo, greatest-in_range, least-in_range, to_test}
use Rattle.aq_particles.specs.Pm25.QuarterDays.{credited, day_in, makeup_cell, summary_of, values_of, IsQuarterOf, IsTallyOf}
use Rattle.aq_particles.specs.Pm25.QuarterValues.{top_after, AreParticles}
use Rattle.aq_particles.specs.Pm25.SiteDays.{AreApart, SiteDays, credits_by, gives_credit_by, is_sampled_by, makeups_by, net_by, quarter_by}
use Rattle.aq_particles.specs.declared.pm25.quarter_days.DayOfQuarter.{DayOfQuarter}
use Rattle.aq_particles.specs.declared.pm25.quarters.QuarterTally.{QuarterTally}
use Rattle.aq_particles.proofs.Pm25Lemmas.Counts.{count-both, counted-in, length-passing}

count_cons : {X : Type 0} (p : X → Bool) (x : X) (xs : List X) → count_by p (x ∷ xs) ≡ cond (p x) 1 0 + count_by p xs
count_cons {X} p x xs = sum_by-cons (λ (y : X). cond (p y) 1 0) x xs

count_map : {X Y : Type 0} (p : Y → Bool) (f : X → Y) (list : List X) → count_by p (map f list) ≡ count_by (λ x. p (f x)) list
count_map p f [] = refl
count_map {X} {Y} p f (x ∷ list) = count_cons p (f x) (map f list) ∙ ap (λ n. cond (p (f x)) 1 0 + n) (count_map p f list) ∙ sym (count_cons (λ y. p (f y)) x list)

-- those that pass a test, by whether they pass another
split_days : (f p : ℕ → Bool) (days : List ℕ) → count_by (λ d. f d && p d) days + count_by (λ d. p d && not (f d)) days ≡ count_by p days
split_days f p [] = refl
split_days f p (d ∷ days) =
    omega (arith, one (f d) (p d), split_days f p days, count_cons (λ e. f e && p e) d days, count_cons (λ e. p e && not (f e)) d days, count_cons p d days)
  where
    one : (a b : Bool) → cond (a && b) 1 0 + cond (b && not a) 1 0 ≡ cond b 1 0
    one true true = refl
    one true false = refl
    one false true = refl
    one false false = refl

-- where each day leaves room for one
room_of : (k f u : ℕ → Bool) → ((d : ℕ) → cond (k d) 1 0 + cond (f d) 1 0 ≤ 1 + cond (u d) 1 0) → (days : List ℕ) → count_by k days + count_by f days ≤ length days + count_by u days
room_of k f u h [] = omega arith
room_of k f u h (d ∷ days) = omega (arith, h d, room_of k f u h days, count_cons k d days, count_cons f d days, count_cons u d days)

length_given : {Y : Type 0} (f : ℕ → Option Y) (days : List ℕ) → length (filter_map f days) ≡ count_by (λ d. is_some (f d)) days
length_given f [] = refl
length_given {Y} f (d ∷ days) = by_value (f d) (length_given f days) ∙ sym (count_cons (λ e. is_some (f e)) d days)
  where
    by_value : (o : Option Y) → length (filter_map f days) ≡ count_by (λ e. is_some (f e)) days → length (cons_option o (filter_map f days)) ≡ cond (is_some o) 1 0 + count_by (λ e. is_some (f e)) days
    by_value None rest = omega (arith, rest)
    by_value (Some y) rest = omega (arith, rest)

kept_sampled : (o : Option Cell) → is_some (option_and_then unless_excluded o) ≡ true → is_some o ≡ true
kept_sampled None h = h
kept_sampled (Some cell) h = refl

pub every_of : (values : List ℤ) → AreParticles values → Every (InRangeTo 99999) values
every_of [] all = tt
every_of (v ∷ values) all = (all.0, every_of values all.1)

value_test : (o : Option ℤ) → IfValueTo 99999 o → IsTrue (is_value Pm25 o)
value_test None h = refl
value_test (Some v) h = to_test 99999 v h

module _ (site_days : SiteDays) (makeup_for : ℕ → Option ℕ) (quarter : ℕ) where
  abbrev days : List ℕ
  days = days_of_quarter quarter

  abbrev kept : ℕ → Bool
  kept day = is_some (net_by site_days day)

  abbrev net : Option Cell → Bool
  net cell = is_some (option_and_then unless_excluded cell)

  abbrev credits : List Makeup
  credits = credits_by site_days makeup_for quarter

  abbrev this_quarter : QuarterDays
  this_quarter = quarter_by site_days makeup_for quarter

  -- ---- the counts

  credit_sampled : (m : Makeup) → gives_credit_by site_days m ≡ true → is_sampled_by site_days m.makeup ≡ true
  credit_sampled m h = (and_parts _ (is_sampled_by site_days m.makeup) (and_parts _ (in_time_by site_days.schedules m) h).0).1

  credit_unscheduled : (m : Makeup) → gives_credit_by site_days m ≡ true → not (site_days.schedules m.makeup) ≡ true
  credit_unscheduled m h =
      let c = and_parts _ (is_sampled_by site_days m.makeup) (and_parts _ (in_time_by site_days.schedules m) h).0 in
      (and_parts _ (not (site_days.schedules m.makeup)) c.0).1

  pub creditable_is : count_by (λ d. is_some (credited site_days makeup_for d)) days ≡ count_by (is_sampled_by site_days) (filter site_days.schedules days) + length credits
  unfolding credits_by
  creditable_is =
      counted-in site_days makeup_for is_some refl quarter
      ∙ ap (λ n. count_by (is_sampled_by site_days) (filter site_days.schedules days) + n)
      (sym (length-passing (λ (m : Makeup). is_sampled_by site_days m.makeup) (gives_credit_by site_days) credit_sampled (makeups_by makeup_for quarter)))

  pub counted_is : count_by (λ d. net (credited site_days makeup_for d)) days ≡ count_by kept (filter site_days.schedules days) + count_by (λ (m : Makeup). kept m.makeup) credits
  counted_is = counted-in site_days makeup_for net refl quarter

  -- ---- the facts

  scheduled_some : (s : Bool) (o : Option Cell) → is_some (cond s o None) ≡ true → s ≡ true
  scheduled_some true o h = refl
  scheduled_some false o h = h

  one_room : (s : Bool) (cell made : Option Cell) → cond (net cell) 1 0 + cond s 1 0 ≤ 1 + cond (is_some (cond s (option_or cell made) None)) 1 0
  one_room true None made = by_some (is_some made)
    where
      by_some : (b : Bool) → 0 + 1 ≤ 1 + cond b 1 0
      by_some true = omega arith
      by_some false = omega arith
  one_room true (Some c) made = by_net (net (Some c))
    where
      by_net : (b : Bool) → cond b 1 0 + 1 ≤ 1 + 1
      by_net true = omega arith
      by_net false = omega arith
  one_room false cell made = by_net (net cell)
    where
      by_net : (b : Bool) → cond b 1 0 + 0 ≤ 1 + 0
      by_net true = omega arith
      by_net false = omega arith

  module _ (apart : AreApart quarter credits) (particles : AreParticles this_quarter.values) where
    kept_credits_few : count_by (λ (m : Makeup). kept m.makeup) credits ≤ count_by (λ d. kept d && not (site_days.schedules d)) days
    unfolding credits_by
    kept_credits_few =
        let made = makeups_by makeup_for quarter in
        let free : Makeup → Bool = λ m. kept m.makeup && not (site_days.schedules m.makeup) in
        omega (
          arith,
          count-both (λ (m : Makeup). kept m.makeup) (gives_credit_by site_days) made,
          count-implied (λ m. gives_credit_by site_days m && kept m.makeup) (λ m. gives_credit_by site_days m && free m) passes made,
          count-both free (gives_credit_by site_days) made,
          apart (λ d. kept d && not (site_days.schedules d)),
        )
      where
        joined : (a b c : Bool) → (a && b) ≡ true → c ≡ true → (a && (b && c)) ≡ true
        joined true true true h k = refl
        joined true true false h k = k
        joined true false c h k = h
        joined false b c h k = h

        passes : (m : Makeup) → (gives_credit_by site_days m && kept m.makeup) ≡ true → (gives_credit_by site_days m && (kept m.makeup && not (site_days.schedules m.makeup))) ≡ true
        passes m h = joined (gives_credit_by site_days m) (kept m.makeup) (not (site_days.schedules m.makeup)) h (credit_unscheduled m (and_parts (gives_credit_by site_days m) (kept m.makeup) h).0)

    pub quarter-keeps : KeepsPmQuarter (summary_of_quarter this_quarter)
    quarter-keeps =
        let values = this_quarter.values in
        let every : Every (InRangeTo 99999) values = every_of values particles in
        let many : length days ≡ days_in_quarter quarter = length-days quarter in
        let most = (quarter_days quarter).1 in
        let S = summary_of_quarter this_quarter in
        let scheduled_at : S.scheduled ≡ count_by site_days.schedules days = length-filter site_days.schedules days in
        let creditable_at : S.creditable ≡ count_by (λ d. is_some (credited site_days makeup_for d)) days = sym creditable_is in
        let counted_at : S.counted ≡ count_by (λ d. net (credited site_days makeup_for d)) days = sym counted_is in
        let net_at : S.net_days ≡ count_by kept days = length_given (net_by site_days) days in
        record {
          counted = omega (arith, counted_at, creditable_at, count-implied (λ d. net (credited site_days makeup_for d)) (λ d. is_some (credited site_days makeup_for d)) (λ d. kept_sampled (credited site_days makeup_for d)) days);
          creditable =
              omega (
                arith,
                creditable_at,
                scheduled_at,
                count-implied (λ d. is_some (credited site_days makeup_for d)) site_days.schedules (λ d. scheduled_some (site_days.schedules d) (option_or (site_days.cell_on d) (makeup_cell site_days makeup_for d))) days,
              );
          scheduled = omega (arith, scheduled_at, count_by-le-length site_days.schedules days, many, most);
          counted_net = omega (arith, counted_at, counted_is, net_at, kept_credits_few, count-both kept site_days.schedules days, split_days site_days.schedules kept days);
          net_days =
              omega (
                arith,
                net_at,
                scheduled_at,
                creditable_at,
                many,
                most,
                room_of kept site_days.schedules (λ d. is_some (credited site_days makeup_for d)) (λ d. one_room (site_days.schedules d) (site_days.cell_on d) (makeup_cell site_days makeup_for d)) days,
              );
          some_least = least-there values;
          some_greatest = greatest-there values;
          least_in_range = value_test (least values) (least-in_range 99999 values every);
          greatest_in_range = value_test (greatest values) (greatest-in_range 99999 values every);
          sum_within = sum-within this_quarter;
          no_sum = no-sum values;
        }

  -- ---- what its days give together

  values_are : (ds : List ℕ) → values_of (map (day_in site_days makeup_for) ds) ≡ filter_map (net_by site_days) ds
  values_are [] = refl
  values_are (d ∷ ds) = ap (cons_option (net_by site_days d)) (values_are ds)

  module _ (before : List ℤ) (tally : QuarterTally) (is : IsTallyOf before (map (day_in site_days makeup_for) days) tally) where
    scheduled_days_are : tally.scheduled ≡ count_by site_days.schedules days
    scheduled_days_are = is.scheduled ∙ count_map (λ (d : DayOfQuarter). d.scheduled) (day_in site_days makeup_for) days

    creditable_days_are : tally.creditable ≡ count_by (λ d. is_some (credited site_days makeup_for d)) days
    creditable_days_are = is.creditable ∙ count_map (λ (d : DayOfQuarter). d.creditable) (day_in site_days makeup_for) days

    counted_days_are : tally.counted ≡ count_by (λ d. net (credited site_days makeup_for d)) days
    counted_days_are = is.counted ∙ count_map (λ (d : DayOfQuarter). d.counted) (day_in site_days makeup_for) days

    quarter-values : values_of (map (day_in site_days makeup_for) days) ≡ this_quarter.values
    quarter-values = values_are days

    summary-is : summary_of tally ≡ summary_of_quarter this_quarter
    summary-is =
        let a : tally.scheduled ≡ length (filter site_days.schedules days) = scheduled_days_are ∙ sym (length-filter site_days.schedules days) in
        let b : tally.creditable ≡ count_by (is_sampled_by site_days) (filter site_days.schedules days) + length credits = creditable_days_are ∙ creditable_is in
        let c : tally.counted ≡ count_by kept (filter site_days.schedules days) + count_by (λ (m : Makeup). kept m.makeup) credits = counted_days_are ∙ counted_is in
        let values = is.values in
        let d : tally.values.count ≡ length this_quarter.values = values.count ∙ ap length quarter-values in
        let e : tally.values.sum ≡ total this_quarter.values = values.sum ∙ ap total quarter-values in
        let f : tally.values.least ≡ least this_quarter.values = values.least_is ∙ ap least quarter-values in
        let g : tally.values.greatest ≡ greatest this_quarter.values = values.greatest_is ∙ ap greatest quarter-values in
        λ i. record { scheduled = a i; creditable = b i; counted = c i; net_days = d i; sum = e i; least = f i; greatest = g i }

    pub quarter-is : AreApart quarter credits → IsQuarterOf this_quarter before tally
    quarter-is apart =
        let range = subst AreParticles quarter-values is.values.range in
        record {
          summary = summary-is;
          facts = subst KeepsPmQuarter (sym summary-is) (quarter-keeps apart range);
          top = is.values.top ∙ ap (top_after before) quarter-values;
          range = range;
        }
