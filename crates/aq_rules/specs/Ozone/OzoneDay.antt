-- The daily maximum 8-hour average of a site (40 CFR Part 50, Appendix U, 3(c) and (d)).
use Rattle.std.specs.Prelude.{ℕ, Bool, ◌||◌, nat_le, List, length, map, filter_map, Option, ℤ}
use Rattle.std.specs.List.{range_with_len}
use Rattle.aq_base.specs.Calendar.{hour_number}
use Rattle.aq_base.specs.Site.{Site}
use Rattle.aq_base.specs.declared.standard.Standard.TheVariants.{Ozone2015}
use Rattle.aq_rules.specs.Office.Office.{Office}
use Rattle.aq_rules.specs.Lists.{greatest}
use Rattle.aq_rules.specs.Standards.{is_above, level_of}
use Rattle.aq_rules.specs.Ozone.EightHour.{WindowRow, window}

-- a day's averages are the seventeen that start at 07:00 to 23:00
unfoldable pub starts_of : ℕ → List ℕ
starts_of day = range_with_len (hour_number day 7) 17

abbrev pub windows_by : (ℕ → WindowRow) → ℕ → List WindowRow
windows_by window_at day = map window_at (starts_of day)

unfoldable pub windows : Office → Site → ℕ → List WindowRow
windows office site day = windows_by (window office site) day

-- the full averages that exist, and the net ones
abbrev pub full_averages : List WindowRow → List ℤ
full_averages rows = filter_map (λ (r : WindowRow). r.full) rows

abbrev pub net_averages : List WindowRow → List ℤ
net_averages rows = filter_map (λ (r : WindowRow). r.net) rows

-- how many full averages exist, whether the day is valid, and the greatest net average
pub record OzoneDay : Type 0 where
  pub averages : ℕ
  pub valid : Bool
  pub maximum : Option ℤ

-- a day is valid with 13 full averages or more, and also if the greatest one is above the level of 0.070 ppm: what is excluded counts for that (3(d)), and not for the maximum
abbrev pub day_of_windows : List WindowRow → OzoneDay
day_of_windows rows = record {
  averages = length (full_averages rows);
  valid = nat_le 13 (length (full_averages rows)) || is_above (level_of Ozone2015) (greatest (full_averages rows));
  maximum = greatest (net_averages rows);
}

unfoldable pub ozone_day : Office → Site → ℕ → OzoneDay
ozone_day office site day = day_of_windows (windows office site day)
