-- The days of a year one by one, and the year that their tally is.
use Rattle.std.proofs.Common.{◌≡◌, ℕ, suc, ◌+◌, ◌≤◌, Bool, true, false, ◌&&◌, cond, List, [], ◌∷◌, ◌++◌, length, map, refl, sym, ap, ◌∙◌, subst, arith}
use Rattle.std.specs.Prelude.{ℤ, int_lt, Option, Some, None, is_some, nat_le, slice_get, count_by, filter_map}
use Rattle.std.specs.List.{range_with_len, cons_option}
use Rattle.std.specs.List.Sorted.{IsPermutation}
use Rattle.std.proofs.lemmas.List.{length-map, length-append}
use Rattle.std.proofs.lemmas.List.FromFn.{length-range_with_len, map-range_with_len_more}
use Rattle.std.proofs.lemmas.List.Sorted.{IsPermutation-to_front}
use Rattle.std.proofs.lemmas.List.Sums.{count_by-le-length, sum_by-cons, sum_by-le-sum_by, sum_by_push}
use Rattle.std.proofs.lemmas.Bool.Decides.{nat_tests}
use Rattle.aq_base.specs.Calendar.{year_first, days_in_year}
use Rattle.aq_rules.specs.Kept.Summaries.{KeepsOzoneYear}
use Rattle.aq_rules.specs.Lists.{ranked, ranked_in}
use Rattle.aq_rules.specs.Office.Season.{Season, is_in_season}
use Rattle.aq_rules.specs.Ozone.OzoneYear.{OzoneYear, days_of, ranked_maximum}
use Rattle.aq_rules.specs.Ozone.SiteHour.{Cell}
use Rattle.aq_series.specs.Samples.{IsOzone}
use Rattle.aq_ozone.specs.declared.ozone_year.DayOfYear.{DayOfYear}
use Rattle.aq_ozone.specs.declared.ozone_year.YearTally.{YearTally}
use Rattle.aq_ozone.specs.declared.top_four.TopFour.{TopFour}
use Rattle.aq_ozone.specs.FourGreatest.{four_of}
use Rattle.aq_ozone.specs.YearDays.{counts_by, day_in, maxima_of, ozone_day_by, ozone_year_by, IsTallyOf}
use Rattle.aq_ozone.proofs.RangeLemmas.{Ozones, fourth_range}

-- ---- one more day

abbrev pub Ranking : Type 0
Ranking = (a b : List ℤ) → IsPermutation a b → ranked a ≡ ranked b

pub count_more : {X : Type 0} (p : X → Bool) (list : List X) (x : X) → count_by p (list ++ x ∷ []) ≡ count_by p list + cond (p x) 1 0
count_more {X} p list x = sum_by_push (λ (y : X). cond (p y) 1 0) list x

maxima_some : (days : List DayOfYear) (day : DayOfYear) (maximum : ℤ) → day.maximum ≡ Some maximum → maxima_of (days ++ day ∷ []) ≡ maxima_of days ++ maximum ∷ []
maxima_some [] day maximum is = ap (λ (o : Option ℤ). cons_option o []) is
maxima_some (d ∷ days) day maximum is =
    let rest = maxima_some days day maximum is in
    elim d.maximum as (λ o. cons_option o (maxima_of (days ++ day ∷ [])) ≡ cons_option o (maxima_of days) ++ maximum ∷ []) [
      | None ↦ rest
      | Some m ↦ ap (λ (l : List ℤ). m ∷ l) rest
    ]

maxima_none : (days : List DayOfYear) (day : DayOfYear) → day.maximum ≡ None → maxima_of (days ++ day ∷ []) ≡ maxima_of days
maxima_none [] day is = ap (λ (o : Option ℤ). cons_option o []) is
maxima_none (d ∷ days) day is = ap (λ (l : List ℤ). cons_option d.maximum l) (maxima_none days day is)

ozone_more : (values : List ℤ) (value : ℤ) → Ozones values → IsOzone value → Ozones (values ++ value ∷ [])
ozone_more [] value all h = (h, tt)
ozone_more (v ∷ vs) value all h = (all.0, ozone_more vs value all.1 h)

ranked_more : Ranking → (values : List ℤ) (value : ℤ) → ranked (values ++ value ∷ []) ≡ ranked_in value (ranked values)
unfolding ranked
ranked_more ranking values value = ranking (values ++ value ∷ []) (value ∷ values) (IsPermutation-to_front values value)

pub more_with : Ranking → (days : List DayOfYear) (day : DayOfYear) (maximum : ℤ) (before after : YearTally) → IsTallyOf days before → day.maximum ≡ Some maximum → IsOzone maximum
    → after.season_days ≡ before.season_days + cond day.in_season 1 0
    → after.season_valid ≡ before.season_valid + cond day.counted 1 0
    → after.ranked ≡ before.ranked + 1
    → ((values : List ℤ) → before.top ≡ four_of values → after.top ≡ four_of (ranked_in maximum values))
    → IsTallyOf (days ++ day ∷ []) after
more_with ranking days day maximum before after is some ozone counted valid more top =
    let maxima = maxima_some days day maximum some in
    record {
      season_days = counted ∙ ap (λ (n : ℕ). n + cond day.in_season 1 0) is.season_days ∙ sym (count_more (λ (d : DayOfYear). d.in_season) days day);
      season_valid = valid ∙ ap (λ (n : ℕ). n + cond day.counted 1 0) is.season_valid ∙ sym (count_more (λ (d : DayOfYear). d.counted) days day);
      ranked_maxima = more ∙ ap (λ (n : ℕ). n + 1) is.ranked_maxima ∙ sym (ap length maxima ∙ length-append (maxima_of days) (maximum ∷ []));
      ozone = subst Ozones (sym maxima) (ozone_more (maxima_of days) maximum is.ozone ozone);
      top = top (ranked (maxima_of days)) is.top ∙ ap four_of (sym (ap ranked maxima ∙ ranked_more ranking (maxima_of days) maximum));
    }

pub more_without : (days : List DayOfYear) (day : DayOfYear) (before after : YearTally) → IsTallyOf days before → day.maximum ≡ None
    → after.season_days ≡ before.season_days + cond day.in_season 1 0
    → after.season_valid ≡ before.season_valid + cond day.counted 1 0
    → after.ranked ≡ before.ranked + 0
    → after.top ≡ before.top
    → IsTallyOf (days ++ day ∷ []) after
more_without days day before after is none counted valid more top =
    let maxima = maxima_none days day none in
    let same : after.ranked ≡ before.ranked = omega (arith, more) in
    record {
      season_days = counted ∙ ap (λ (n : ℕ). n + cond day.in_season 1 0) is.season_days ∙ sym (count_more (λ (d : DayOfYear). d.in_season) days day);
      season_valid = valid ∙ ap (λ (n : ℕ). n + cond day.counted 1 0) is.season_valid ∙ sym (count_more (λ (d : DayOfYear). d.counted) days day);
      ranked_maxima = same ∙ is.ranked_maxima ∙ sym (ap length maxima);
      ozone = subst Ozones (sym maxima) is.ozone;
      top = top ∙ is.top ∙ ap four_of (sym (ap ranked maxima));
    }

pub days_more : (f : ℕ → DayOfYear) (first count number : ℕ) (day : DayOfYear) → first + count ≡ number → day ≡ f number → map f (range_with_len first count) ++ day ∷ [] ≡ map f (range_with_len first (count + 1))
days_more f first count number day at is =
    ap (λ (d : DayOfYear). map f (range_with_len first count) ++ d ∷ []) is ∙ sym (map-range_with_len_more f first count number at)

-- ---- no more than the days

few_maxima : (days : List DayOfYear) → length (maxima_of days) ≤ length days
few_maxima [] = omega arith
few_maxima (day ∷ days) =
    let rest = few_maxima days in
    elim day.maximum as (λ o. length (cons_option o (maxima_of days)) ≤ length (day ∷ days)) [
      | None ↦ omega (arith, rest)
      | Some m ↦ omega (arith, rest)
    ]

pub record AreFew (count : ℕ) (tally : YearTally) : Type 0 where
  pub season_days : tally.season_days ≤ count
  pub season_valid : tally.season_valid ≤ count
  pub ranked : tally.ranked ≤ count

pub few : (day : ℕ → DayOfYear) (first count : ℕ) (tally : YearTally) → IsTallyOf (map day (range_with_len first count)) tally → AreFew count tally
few day first count tally is =
    let days = map day (range_with_len first count) in
    let many : length days ≡ count = length-map (range_with_len first count) day ∙ length-range_with_len first count in
    record {
      season_days = omega (arith, is.season_days, many, count_by-le-length (λ (d : DayOfYear). d.in_season) days);
      season_valid = omega (arith, is.season_valid, many, count_by-le-length (λ (d : DayOfYear). d.counted) days);
      ranked = omega (arith, is.ranked_maxima, many, few_maxima days);
    }

-- ---- the year

count_map : {X Y : Type 0} (p : Y → Bool) (f : X → Y) (list : List X) → count_by p (map f list) ≡ count_by (λ x. p (f x)) list
count_map p f [] = refl
count_map {X} {Y} p f (x ∷ list) =
    sum_by-cons (λ (y : Y). cond (p y) 1 0) (f x) (map f list)
    ∙ ap (λ (n : ℕ). cond (p (f x)) 1 0 + n) (count_map p f list)
    ∙ sym (sum_by-cons (λ (y : X). cond (p (f y)) 1 0) x list)

module _ (cell_at : ℕ → Option Cell) (approves : ℕ → Bool) (season : Season) where
  maxima_are : (days : List ℕ) → maxima_of (map (day_in cell_at approves season) days) ≡ filter_map ranked_maximum (map (ozone_day_by cell_at) days)
  maxima_are [] = refl
  maxima_are (day ∷ days) = ap (λ (l : List ℤ). cons_option (ranked_maximum (ozone_day_by cell_at day)) l) (maxima_are days)

  valid_few : (days : List ℕ) → count_by (λ (day : ℕ). is_in_season season day && counts_by cell_at approves day) days ≤ count_by (λ (day : ℕ). is_in_season season day) days
  valid_few days =
      sum_by-le-sum_by (λ (day : ℕ). cond (is_in_season season day && counts_by cell_at approves day) 1 0) (λ (day : ℕ). cond (is_in_season season day) 1 0) days
      (λ day. by_tests (is_in_season season day) (counts_by cell_at approves day))
    where
      by_tests : (a b : Bool) → cond (a && b) 1 0 ≤ cond a 1 0
      by_tests true true = omega arith
      by_tests true false = omega arith
      by_tests false b = omega arith

length_ranked_in : (v : ℤ) (values : List ℤ) → length (ranked_in v values) ≡ suc (length values)
length_ranked_in v [] = refl
length_ranked_in v (w ∷ ws) =
    let rest = length_ranked_in v ws in
    elim (int_lt v w) as (λ b. length (cond b (w ∷ ranked_in v ws) (v ∷ w ∷ ws)) ≡ suc (length (w ∷ ws))) [ true ↦ ap suc rest | false ↦ refl ]

pub length_ranked : (values : List ℤ) → length (ranked values) ≡ length values
unfolding ranked
length_ranked [] = refl
length_ranked (v ∷ vs) = length_ranked_in v (ranked vs) ∙ ap suc (length_ranked vs)

pub fourth_there : (values : List ℤ) → is_some (slice_get values 3) ≡ nat_le 4 (length values)
fourth_there [] = refl
fourth_there (a ∷ []) = refl
fourth_there (a ∷ b ∷ []) = refl
fourth_there (a ∷ b ∷ c ∷ []) = refl
fourth_there (a ∷ b ∷ c ∷ d ∷ values) = grind (arith, nat_tests)

-- the year that a tally is
abbrev pub year_of : YearTally → OzoneYear
year_of tally = record { season_days = tally.season_days; season_valid = tally.season_valid; ranked = tally.ranked; fourth = tally.top.fourth }

-- the tally of the days of a year
pub record IsYearTally (cell_at : ℕ → Option Cell) (approves : ℕ → Bool) (season : Season) (year first count : ℕ) (of : Season) (tally : YearTally) : Type 0 where
  pub first_day : first ≡ year_first year
  pub all_days : count ≡ days_in_year year
  pub season_is : of ≡ season
  pub tally_is : IsTallyOf (map (day_in cell_at approves of) (range_with_len first count)) tally

module _ (cell_at : ℕ → Option Cell) (approves : ℕ → Bool) (season : Season) (year first count : ℕ) (of : Season) (tally : YearTally) (is : IsYearTally cell_at approves season year first count of tally) where
  abbrev numbers : List ℕ
  numbers = range_with_len first count

  numbers_are : numbers ≡ days_of year
  unfolding days_of
  numbers_are = λ i. range_with_len (is.first_day i) (is.all_days i)

  season_days_are : tally.season_days ≡ count_by (λ (day : ℕ). is_in_season season day) (days_of year)
  season_days_are =
      is.tally_is.season_days ∙ count_map (λ (d : DayOfYear). d.in_season) (day_in cell_at approves of) numbers
      ∙ (λ i. count_by (λ (day : ℕ). is_in_season (is.season_is i) day) (numbers_are i))

  pub year_is : year_of tally ≡ ozone_year_by cell_at approves season year
  unfolding ozone_year_by
  year_is =
      let season_valid : tally.season_valid ≡ count_by (λ (day : ℕ). is_in_season season day && counts_by cell_at approves day) (days_of year) =
      is.tally_is.season_valid ∙ count_map (λ (d : DayOfYear). d.counted) (day_in cell_at approves of) numbers
      ∙ (λ i. count_by (λ (day : ℕ). is_in_season (is.season_is i) day && counts_by cell_at approves day) (numbers_are i)) in
      let maxima : maxima_of (map (day_in cell_at approves of) numbers) ≡ filter_map ranked_maximum (map (ozone_day_by cell_at) (days_of year)) =
      maxima_are cell_at approves of numbers ∙ ap (λ (l : List ℕ). filter_map ranked_maximum (map (ozone_day_by cell_at) l)) numbers_are in
      let values = maxima_of (map (day_in cell_at approves of) numbers) in
      let many : tally.ranked ≡ length (ranked (filter_map ranked_maximum (map (ozone_day_by cell_at) (days_of year)))) =
      is.tally_is.ranked_maxima ∙ sym (length_ranked values) ∙ ap (λ (l : List ℤ). length (ranked l)) maxima in
      let fourth : tally.top.fourth ≡ slice_get (ranked (filter_map ranked_maximum (map (ozone_day_by cell_at) (days_of year)))) 3 =
      ap (λ (t : TopFour). t.fourth) is.tally_is.top ∙ ap (λ (l : List ℤ). slice_get (ranked l) 3) maxima in
      λ i. record { season_days = season_days_are i; season_valid = season_valid i; ranked = many i; fourth = fourth i }

  pub year_keeps : count ≤ 366 → 1 ≤ count_by (is_in_season season) (days_of year) → KeepsOzoneYear (year_of tally)
  year_keeps most some =
      let values = maxima_of (map (day_in cell_at approves of) numbers) in
      let are_few = few (day_in cell_at approves of) first count tally is.tally_is in
      let fourth : tally.top.fourth ≡ slice_get (ranked values) 3 = ap (λ (t : TopFour). t.fourth) is.tally_is.top in
      record {
        some_season = omega (arith, season_days_are, some);
        season_days = omega (arith, are_few.season_days, most);
        season_valid =
            omega (
              arith,
              is.tally_is.season_days,
              is.tally_is.season_valid,
              valid_few cell_at approves of numbers,
              count_map (λ (d : DayOfYear). d.in_season) (day_in cell_at approves of) numbers,
              count_map (λ (d : DayOfYear). d.counted) (day_in cell_at approves of) numbers,
            );
        ranked = omega (arith, are_few.ranked, most);
        fourth = ap (λ (o : Option ℤ). is_some o) fourth ∙ fourth_there (ranked values) ∙ ap (λ (n : ℕ). nat_le 4 n) (length_ranked values ∙ sym is.tally_is.ranked_maxima);
        fourth_in_range = rw fourth (fourth_range values is.tally_is.ozone);
      }
