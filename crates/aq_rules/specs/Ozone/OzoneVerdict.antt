-- The ozone design value of three years, and whether the standard of 0.070 ppm is met (40 CFR Part 50, Appendix U, 3(e) and 4).
use Rattle.std.specs.Prelude.{ℕ, ◌+◌, ◌*◌, Bool, ◌&&◌, nat_le, if◌then◌else◌, List, [], ◌∷◌, map, Option, Some, None, ℤ, pos, ◌+ℤ◌, int_lt}
use Rattle.aq_base.specs.Decimal.{truncated}
use Rattle.aq_base.specs.Site.{Site}
use Rattle.aq_base.specs.declared.standard.Standard.TheVariants.{Ozone2015}
use Rattle.aq_base.specs.declared.standard.Verdict.{Verdict}
use Rattle.aq_base.specs.declared.standard.Verdict.TheVariants.{Met, NotMet, Incomplete, NoValue}
use Rattle.aq_rules.specs.Standards.{level_of, years_to}
use Rattle.aq_rules.specs.Office.Office.{Office}
use Rattle.aq_rules.specs.Ozone.OzoneYear.{OzoneYear, ozone_year}

-- the mean of the three fourth highest values, truncated; none if one is missing
abbrev pub design_value_of : Option ℤ → Option ℤ → Option ℤ → Option ℤ
design_value_of (Some a) (Some b) (Some c) = Some (truncated (a +ℤ b +ℤ c) (pos 3))
design_value_of _ _ _ = None

-- at least three quarters of the season's days are valid or approved
abbrev pub is_season_kept : OzoneYear → Bool
is_season_kept year = nat_le (3 * year.season_days) (4 * year.season_valid)

-- v1 / d1 + v2 / d2 + v3 / d3 is at least 27 / 10: at least nine tenths on average
abbrev pub is_average_kept : OzoneYear → OzoneYear → OzoneYear → Bool
is_average_kept a b c =
    nat_le (27 * (a.season_days * b.season_days * c.season_days))
    (10 * (a.season_valid * b.season_days * c.season_days
    + b.season_valid * a.season_days * c.season_days
    + c.season_valid * a.season_days * b.season_days))

abbrev pub is_complete : OzoneYear → OzoneYear → OzoneYear → Bool
is_complete a b c = is_season_kept a && is_season_kept b && is_season_kept c && is_average_kept a b c

-- a value above the level does not meet the standard, complete or not
abbrev pub ozone_verdict : Option ℤ → Bool → Verdict
ozone_verdict None complete = NoValue
ozone_verdict (Some value) complete =
    if int_lt (level_of Ozone2015) value then NotMet else (if complete then Met else Incomplete)

-- the design value and the verdict
pub record OzoneDv : Type 0 where
  pub value : Option ℤ
  pub verdict : Verdict

abbrev pub no_design : OzoneDv
no_design = record { value = None; verdict = NoValue }

-- of three years, the oldest first
abbrev pub ozone_dv : List OzoneYear → OzoneDv
ozone_dv (a ∷ b ∷ c ∷ []) = record {
  value = design_value_of a.fourth b.fourth c.fourth;
  verdict = ozone_verdict (design_value_of a.fourth b.fourth c.fourth) (is_complete a b c);
}
ozone_dv _ = no_design

-- the three years that end with `year`
unfoldable pub three_years : Office → Site → ℕ → List OzoneYear
three_years office site year = map (ozone_year office site) (years_to year)

abbrev pub ozone_design : Office → Site → ℕ → OzoneDv
ozone_design office site year = ozone_dv (three_years office site year)
