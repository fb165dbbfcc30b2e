-- The parts of a day that is filled.
use Rattle.std.proofs.Common.{◌≡◌, ℕ, ◌+◌, ◌-◌, ◌%◌, ◌<◌, ◌≤◌, Bool, true, false, cond, List, length, take, drop, get_or, refl, ap, sym, ◌∙◌, arith}
use Rattle.std.specs.Prelude.{◌≢◌, ◌==◌, Option, Some, None, IfSome, option_map, slice_set}
use Rattle.std.proofs.lemmas.Grind.{get_or-set_at}
use Rattle.std.proofs.lemmas.List.{get_or-set_other}
use Rattle.std.proofs.lemmas.Bool.Decides.{nat_tests}
use Rattle.aq_rules.specs.Ozone.SiteHour.{Cell}
use Rattle.aq_series.specs.Samples.{AreOzone, IsOzone}
use Rattle.aq_ozone.proofs.RangeLemmas as range
use Rattle.aq_ozone.proofs.RangeLemmas.{net_range}
use Rattle.aq_ozone_cells.specs.FilledDays.{average_among, day_average}
use Rattle.aq_ozone_cells.specs.KeptDays.{cell_of, is_kept_start, kept_of, no_average}
use Rattle.aq_ozone_cells.specs.declared.kept_days.DayCells.{DayCells}
use Rattle.aq_ozone_cells.specs.declared.kept_days.KeptAverage.{KeptAverage}

-- a part of a day that may have other cells
pub filled : {X : Type 0} (part : DayCells → X) (now before after : DayCells) (b : Bool) (value : X) → after ≡ cond b now before → part now ≡ value → part after ≡ cond b value (part before)
filled part now before after true value is same = ap part is ∙ same
filled part now before after false value is same = ap part is

-- the value of an hour is the same once it is kept
pub kept-back : (o : Option Cell) → option_map cell_of (option_map kept_of o) ≡ o
kept-back None = refl
kept-back (Some cell) = refl

-- the average that is kept at a place of a day
pub average-kept : (hours : List (Option Cell)) (averages : List KeptAverage) → ((k : ℕ) → k < 17 → get_or averages k no_average ≡ average_among hours (7 + k))
    → (start : ℕ) → cond (is_kept_start start) (get_or averages (start % 24 - 7) no_average) no_average ≡ day_average hours start
average-kept hours averages each start = by (is_kept_start start) refl
  where
    by : (b : Bool) → is_kept_start start ≡ b → cond b (get_or averages (start % 24 - 7) no_average) no_average ≡ cond b (average_among hours (start % 24)) no_average
    by true is =
        let low : 7 ≤ start % 24 = grind (arith, nat_tests) in
        let high : start % 24 - 7 < 17 = omega arith in
        let place : 7 + (start % 24 - 7) ≡ start % 24 = omega (arith, low) in
        each (start % 24 - 7) high ∙ ap (average_among hours) place
    by false is = refl

pub average-ozone : (hours : List (Option Cell)) (start : ℕ) → AreOzone hours → IfSome (day_average hours start).net IsOzone
average-ozone hours start all = by (is_kept_start start)
  where
    by : (b : Bool) → IfSome (cond b (average_among hours (start % 24)) no_average).net IsOzone
    by true = net_range (take 8 (drop (start % 24) hours)) (range.taken 8 (drop (start % 24) hours) (range.dropped (start % 24) hours all))
    by false = tt

-- a list that is filled place by place, with one more place
pub place-more : {Y : Type 0} (f : ℕ → Y) (xs : List Y) (i : ℕ) (y d : Y) → i < length xs → y ≡ f i → ((k : ℕ) → k < i → get_or xs k d ≡ f k)
    → (k : ℕ) → k < i + 1 → get_or (slice_set xs i y) k d ≡ f k
place-more f xs i y d within is each k below = by (k == i) refl
  where
    by : (b : Bool) → (k == i) ≡ b → get_or (slice_set xs i y) k d ≡ f k
    by true same =
        let at : k ≡ i = grind (arith, nat_tests) in
        get_or-set_at xs i k y d at within ∙ is ∙ ap f (sym at)
    by false other =
        let apart : k ≢ i = grind (arith, nat_tests) in
        let less : k < i = grind (arith, nat_tests, below) in
        get_or-set_other xs i k y d apart ∙ each k less
