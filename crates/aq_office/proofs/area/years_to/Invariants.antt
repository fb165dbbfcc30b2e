use Rattle.std.proofs.Common.{◌≡◌, ◌-◌, ◌++◌, map}
use Rattle.std.specs.List.{range_with_len}
use Rattle.aq_rules.specs.Shown.AreaSheets.{area_in, first_end_year}
use Rattle.aq_office.proofs.area.years_to.Given as goal

-- the years so far, and those that are left
abbrev pub invariant-loop-end_year : goal.invariant-loop-end_year
invariant-loop-end_year g l =
    l.years.items ++ map (area_in l.standard l.book l.area) (range_with_len l.end_year (l.year - l.end_year))
    ≡ map (area_in l.standard l.book l.area) (range_with_len first_end_year (l.year - first_end_year))
