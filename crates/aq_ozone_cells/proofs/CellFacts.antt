-- What always holds of the ozone cells, once a part of them is changed; and the facts of a year that is held.
use Rattle.std.proofs.Common.{◌≡◌, ℕ, zero, suc, ◌/◌, ◌%◌, ◌-◌, ◌≤◌, Bool, true, false, cond, List, [], ◌∷◌, length, replicate, get_or, refl, ap, sym, subst, ◌∙◌, arith}
use Rattle.std.specs.Prelude.{ℤ, Option, Some, None, All, IfSome, option_map, filter_map}
use Rattle.std.proofs.lemmas.List.Elements.{All-tail, All-head}
use Rattle.std.proofs.lemmas.List.FromFn.{length-range_with_len}
use Rattle.aq_base.specs.Calendar.{days_in_year, year_first}
use Rattle.aq_base.specs.Site.{Site}
use Rattle.aq_agg.specs.Tallies.{IsKeptOf}
use Rattle.aq_rules.specs.Ozone.OzoneYear.{days_of}
use Rattle.aq_rules.specs.Ozone.SiteHour.{Cell}
use Rattle.aq_series.specs.Samples.{IsOzone}
use Rattle.aq_ozone_cells.specs.FilledDays.{IsEmptyDay}
use Rattle.aq_ozone_cells.specs.KeptDays.{average_at, average_in, cell_of, day_at, empty_day, held_at, hour_at, hour_in, is_kept_start, no_average, no_day}
use Rattle.aq_ozone_cells.specs.OzoneCells.{counted_held, maxima_held, AreCells, AreYears, Cells}
use Rattle.aq_ozone_cells.specs.RankedMaxima.{AreRanksOf}
use Rattle.aq_ozone_cells.specs.YearTallies.{count_of, maximum_of, AreBags}
use Rattle.aq_ozone_cells.specs.declared.kept_days.DayCells.{DayCells}
use Rattle.aq_ozone_cells.specs.declared.kept_days.HeldDay.{HeldDay}
use Rattle.aq_ozone_cells.specs.declared.kept_days.KeptAverage.{KeptAverage}
use Rattle.aq_ozone_cells.specs.declared.kept_days.KeptHour.{KeptHour}
use Rattle.aq_ozone_cells.specs.declared.ranked_maxima.RankedMaxima.{RankedMaxima}
use Rattle.aq_ozone_cells.specs.declared.year_tallies.YearTallies.{YearTallies}
use Rattle.aq_agg.proofs.ItemsOfDays.{few_items, no_items}
use Rattle.aq_ozone.proofs.RangeLemmas.{Ozones}
use Rattle.aq_ozone_cells.proofs.YearExchange.{days_few}

-- ---- one of two

pub either-cell : (b : Bool) (o p : Option Cell) → IfSome o (λ (cell : Cell). IsOzone cell.value) → IfSome p (λ (cell : Cell). IsOzone cell.value) → IfSome (cond b o p) (λ (cell : Cell). IsOzone cell.value)
either-cell true o p h k = h
either-cell false o p h k = k

pub either-average : (b : Bool) (o p : KeptAverage) → IfSome o.net IsOzone → IfSome p.net IsOzone → IfSome (cond b o p).net IsOzone
either-average true o p h k = h
either-average false o p h k = k

-- ---- the same days

pub years-same : (cells after : Cells) (tallies : YearTallies) → ((site : Site) (day : ℕ) → held_at after site day ≡ held_at cells site day) → AreYears cells tallies → AreYears after tallies
unfolding AreYears
years-same cells after tallies held years site year from to =
    let maxima : maxima_held cells site year ≡ maxima_held after site year = λ i. filter_map (λ day. maximum_of (sym (held site day) i)) (days_of year) in
    let counted : counted_held cells site year ≡ counted_held after site year = λ i. filter_map (λ day. count_of (sym (held site day) i)) (days_of year) in
    subst (λ (l : List ℤ). AreBags site year l (counted_held after site year) tallies) maxima
    (subst (λ (l : List ℤ). AreBags site year (maxima_held cells site year) l tallies) counted (years site year from to))

-- ---- nothing

same_everywhere : {X : Type 0} (x : X) (n k : ℕ) → get_or (replicate n x) k x ≡ x
same_everywhere x zero k = refl
same_everywhere x (suc n) zero = refl
same_everywhere x (suc n) (suc k) = same_everywhere x n k

pub empty-is : (cells : Cells) (site : Site) (day : ℕ) → day_at cells site day ≡ empty_day → IsEmptyDay cells site day
unfolding hour_at average_at held_at
empty-is cells site day is = record {
  hours = λ hour lies.
      ap (λ n. hour_in (day_at cells site n) hour) lies ∙ ap (λ (d : DayCells). hour_in d hour) is
      ∙ ap (option_map cell_of) (same_everywhere {X = Option KeptHour} None 24 (hour % 24));
  averages = λ start lies.
      ap (λ n. average_in (day_at cells site n) start) lies ∙ ap (λ (d : DayCells). average_in d start) is
      ∙ ap (λ (a : KeptAverage). cond (is_kept_start start) a no_average) (same_everywhere no_average 17 (start % 24 - 7))
      ∙ by (is_kept_start start);
  held = ap (λ (d : DayCells). d.held) is;
}
  where
    by : (b : Bool) → cond b no_average no_average ≡ no_average
    by true = refl
    by false = refl

module _ (cells : Cells) (empty : (site : Site) (day : ℕ) → day_at cells site day ≡ empty_day) where
  nothing : (site : Site) (day : ℕ) → IsEmptyDay cells site day
  nothing site day = empty-is cells site day (empty site day)

  pub hour-none : (site : Site) (hour : ℕ) → hour_at cells site hour ≡ None
  hour-none site hour = (nothing site (hour / 24)).hours hour refl

  pub average-none : (site : Site) (start : ℕ) → average_at cells site start ≡ no_average
  average-none site start = (nothing site (start / 24)).averages start refl

  pub held-none : (site : Site) (day : ℕ) → held_at cells site day ≡ no_day
  held-none site day = (nothing site day).held

  years-none : (tallies : YearTallies) → ((site : Site) (year : ℕ) → AreBags site year [] [] tallies) → AreYears cells tallies
  unfolding AreYears
  years-none tallies bags site year from to =
      let maxima : [] ≡ maxima_held cells site year = sym ((λ i. filter_map (λ day. maximum_of (held-none site day i)) (days_of year)) ∙ no_items (days_of year)) in
      let counted : [] ≡ counted_held cells site year = sym ((λ i. filter_map (λ day. count_of (held-none site day i)) (days_of year)) ∙ no_items (days_of year)) in
      subst (λ (l : List ℤ). AreBags site year l (counted_held cells site year) tallies) maxima
      (subst (λ (l : List ℤ). AreBags site year [] l tallies) counted (bags site year))

  pub cells-none : (tallies : YearTallies) → ((site : Site) (year : ℕ) → AreBags site year [] [] tallies) → AreCells cells tallies
  cells-none tallies bags = record {
    hours = λ site hour. subst (λ (o : Option Cell). IfSome o (λ (cell : Cell). IsOzone cell.value)) (sym (hour-none site hour)) tt;
    averages = λ site start. subst (λ (a : KeptAverage). IfSome a.net IsOzone) (sym (average-none site start)) tt;
    years = years-none tallies bags;
  }

-- ---- a year

pub few-in_year : (item : HeldDay → Option ℤ) (cells : Cells) (site : Site) (year : ℕ) → length (filter_map (λ day. item (held_at cells site day)) (days_of year)) ≤ 366
unfolding days_of
few-in_year item cells site year =
    omega (arith, few_items (λ day. item (held_at cells site day)) (days_of year), length-range_with_len (year_first year) (days_in_year year), days_few year)

all_ozone : (values : List ℤ) → All IsOzone values → Ozones values
all_ozone [] all = tt
all_ozone (value ∷ values) all = (All-head IsOzone value values all, all_ozone values (All-tail IsOzone value values all))

pub ranks-ozone : (values : List ℤ) (kept : Option RankedMaxima) → IsKeptOf AreRanksOf values kept → Ozones values
ranks-ozone values None none = subst Ozones (sym none) tt
ranks-ozone values (Some kept) are = all_ozone values are.ozone
