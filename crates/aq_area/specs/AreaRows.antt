-- The rows of an area's year, one after another.
use Rattle.std.specs.Prelude.{◌+◌, ◌||◌, if◌then◌else◌, List, map, Option, Some, None, ℤ, int_lt}
use Rattle.std.specs.Int.{int_max}
use Rattle.aq_base.specs.Site.{Site}
use Rattle.aq_base.specs.declared.standard.Verdict.{Verdict}
use Rattle.aq_base.specs.declared.standard.Verdict.TheVariants.{Met, NotMet, Incomplete, NoValue}
use Rattle.aq_rules.specs.DesignValues.{is_same_verdict}
use Rattle.aq_rules.specs.Areas.AreaValue.{AreaYear, SiteValue, lower_site}
use Rattle.aq_verdict.specs.declared.design_value.DesignValue.{DesignValue}
use Rattle.aq_verdict.specs.Designs.{design_of}

-- the rows as the book of rules has them
abbrev pub site_values : List (Site × DesignValue) → List SiteValue
site_values rows = map (λ (row : Site × DesignValue). (row.0, design_of row.1)) rows

-- the year of an area without a row
abbrev pub no_rows : AreaYear
no_rows = record { sites = 0; governing = None; value = None; verdict = NoValue }

-- ---- one row more

abbrev pub greater_of : Option ℤ → Option ℤ → Option ℤ
greater_of None b = b
greater_of (Some a) None = Some a
greater_of (Some a) (Some b) = Some (int_max a b)

-- the site that governs, by the greatest value of the others and that of one more
abbrev pub governing_with : Option Site → Option ℤ → Site → Option ℤ → Option Site
governing_with governing greatest site None = governing
governing_with governing None site (Some value) = Some site
governing_with governing (Some greatest) site (Some value) =
    if int_lt value greatest then governing else (if int_lt greatest value then Some site else lower_site governing site)

abbrev pub worse_of : Verdict → Verdict → Verdict
worse_of a b =
    if is_same_verdict a NotMet || is_same_verdict b NotMet then NotMet
    else (if is_same_verdict a Incomplete || is_same_verdict b Incomplete then Incomplete
    else (if is_same_verdict a Met || is_same_verdict b Met then Met else NoValue))

abbrev pub with_row : AreaYear → Site → Option ℤ → Verdict → AreaYear
with_row year site value verdict = record {
  sites = year.sites + 1;
  governing = governing_with year.governing year.value site value;
  value = greater_of year.value value;
  verdict = worse_of year.verdict verdict;
}
