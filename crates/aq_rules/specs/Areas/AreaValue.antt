-- The value and verdict of an area, made from those of its sites, and their history (own).
use Rattle.std.specs.Prelude.{ℕ, ◌+◌, Bool, false, if◌then◌else◌, Option, Some, None, option_map, option_and_then, List, [], ◌∷◌, length, map, filter, filter_map, fold, reverse, ℤ}
use Rattle.std.specs.List.{list_any, take_while}
use Rattle.std.specs.Option.{option_map_or}
use Rattle.std.specs.Ordering.{int_eq}
use Rattle.aq_base.specs.Areas.{area_holds}
use Rattle.aq_base.specs.Site.{Site}
use Rattle.aq_base.specs.declared.area.Area.{Area}
use Rattle.aq_base.specs.declared.standard.Verdict.{Verdict}
use Rattle.aq_base.specs.declared.standard.Verdict.TheVariants.{Met, NotMet, Incomplete, NoValue}
use Rattle.aq_rules.specs.Lists.{greatest}
use Rattle.aq_rules.specs.Office.Office.{site_numbers, comes_before}
use Rattle.aq_rules.specs.DesignValues.{DesignValue, value_in, verdict_in, is_same_verdict}

-- a site's design value
abbrev pub SiteValue : Type 0
SiteValue = Site × DesignValue

abbrev pub site_in : SiteValue → Site
site_in row = row.0

-- the rows of the area's sites
abbrev pub rows_of : Area → List SiteValue → List SiteValue
rows_of area rows = filter (λ row. area_holds area (site_in row)) rows

-- ---- one year

abbrev pub greatest_value : List SiteValue → Option ℤ
greatest_value rows = greatest (filter_map (λ (row : SiteValue). value_in row.1) rows)

abbrev pub has_value : ℤ → SiteValue → Bool
has_value value row = option_map_or (int_eq value) (value_in row.1) false

-- of two sites, the one whose number is less
abbrev pub lower_site : Option Site → Site → Option Site
lower_site None site = Some site
lower_site (Some other) site = Some (if comes_before (site_numbers site) (site_numbers other) then site else other)

abbrev pub least_site : List Site → Option Site
least_site sites = fold lower_site None sites

-- the least of the sites with the greatest value; none if no site has a value
abbrev pub governing_site : List SiteValue → Option Site
governing_site rows =
    option_and_then (λ value. least_site (map site_in (filter (has_value value) rows))) (greatest_value rows)

abbrev pub has_verdict : Verdict → List SiteValue → Bool
has_verdict verdict rows = list_any (λ (row : SiteValue). is_same_verdict (verdict_in row.1) verdict) rows

-- one site that does not meet the standard is enough, then one of which it is not known
abbrev pub area_verdict : List SiteValue → Verdict
area_verdict rows =
    if has_verdict NotMet rows then NotMet
    else (if has_verdict Incomplete rows then Incomplete
    else (if has_verdict Met rows then Met else NoValue))

-- how many sites the area has, the governing one and its value, and the verdict
pub record AreaYear : Type 0 where
  pub sites : ℕ
  pub governing : Option Site
  pub value : Option ℤ
  pub verdict : Verdict

abbrev pub year_of_rows : List SiteValue → AreaYear
year_of_rows rows = record {
  sites = length rows;
  governing = governing_site rows;
  value = greatest_value rows;
  verdict = area_verdict rows;
}

-- of the design values of one standard and year, each of another site
unfoldable pub area_year : List SiteValue → Area → AreaYear
area_year rows area = year_of_rows (rows_of area rows)

-- ---- the years one after the other

abbrev pub is_year_of : Verdict → AreaYear → Bool
is_year_of verdict year = is_same_verdict year.verdict verdict

-- the place of the first year that is NotMet, counted from 0
abbrev pub first_not_met : List AreaYear → Option ℕ
first_not_met [] = None
first_not_met (year ∷ years) = if is_year_of NotMet year then Some 0 else option_map (λ n. n + 1) (first_not_met years)

-- how many years at the end are Met, without a break
abbrev pub met_at_end : List AreaYear → ℕ
met_at_end years = length (take_while (is_year_of Met) (reverse years))

pub record AreaHistory : Type 0 where
  pub first : Option ℕ
  pub met : ℕ

abbrev pub history : List AreaYear → AreaHistory
history years = record { first = first_not_met years; met = met_at_end years }
