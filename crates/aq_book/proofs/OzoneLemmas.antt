-- The ozone days of a year one by one.
use Rattle.std.proofs.Common.{◌≡◌, ℕ, ◌+◌, List, [], ◌∷◌, ◌++◌, map, sym, ap, ◌∙◌}
use Rattle.std.specs.List.{range_with_len}
use Rattle.std.proofs.lemmas.List.FromFn.{map-range_with_len_more}
use Rattle.aq_base.specs.Calendar.{year_first, days_in_year}
use Rattle.aq_base.specs.Site.{Site}
use Rattle.aq_rules.specs.Office.Office.{Office}
use Rattle.aq_rules.specs.Ozone.EightHour.{WindowRow}
use Rattle.aq_rules.specs.Ozone.OzoneDay.{OzoneDay, day_of_windows, ozone_day, windows}
use Rattle.aq_rules.specs.Ozone.OzoneYear.{days_of, ozone_days}

module _ (office : Office) (site : Site) where
  abbrev pub first_days : ℕ → ℕ → List OzoneDay
  first_days first count = map (ozone_day office site) (range_with_len first count)

  pub day-is : (number : ℕ) (rows : List WindowRow) (day : OzoneDay) → day ≡ day_of_windows rows → rows ≡ windows office site number → day ≡ ozone_day office site number
  unfolding ozone_day
  day-is number rows day is rows_are = is ∙ ap day_of_windows rows_are

  pub days-more : (first count number : ℕ) (day : OzoneDay) → first + count ≡ number → day ≡ ozone_day office site number → first_days first count ++ day ∷ [] ≡ first_days first (count + 1)
  days-more first count number day at is =
      ap (λ (d : OzoneDay). first_days first count ++ d ∷ []) is ∙ sym (map-range_with_len_more (ozone_day office site) first count number at)

  pub days-all : (year first count : ℕ) → first ≡ year_first year → count ≡ days_in_year year → first_days first count ≡ ozone_days office site year
  unfolding ozone_days days_of
  days-all year first count from many =
      ap (λ (n : ℕ). first_days n count) from ∙ ap (first_days (year_first year)) many
