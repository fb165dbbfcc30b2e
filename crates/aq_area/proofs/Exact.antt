-- With a critical value the level is kept, and with more it is not.
use Rattle.std.proofs.Common.{◌≡◌, true, false, ◌∙◌, ap, refl}
use Rattle.std.specs.Prelude.{ℤ, ◌<ℤ◌, Option, Some, None, option_map}
use Rattle.std.specs.Option.{IfSome, option_map_or}
use Rattle.aq_base.specs.declared.standard.Standard.{Standard}
use Rattle.aq_rules.specs.Standards.{level_of}
use Rattle.aq_rules.specs.DesignValues.{DesignValue}
use Rattle.aq_rules.specs.Areas.CriticalValue.{HasQuarters, LastTwo, critical, critical_with, keeps_level, last_two}
use Rattle.aq_rules.proofs.Critical.{critical-greatest}
use Rattle.aq_area.specs.NextYear.{is_kept_with}

abbrev pub IsExactFor : Standard → DesignValue → ℤ → Type 0
IsExactFor standard value next = (is_kept_with standard value next ≡ true) × ((more : ℤ) → next <ℤ more → is_kept_with standard value more ≡ false)

pub critical-exact : (standard : Standard) (value : DesignValue) → HasQuarters value → IfSome (critical standard value) (IsExactFor standard value)
unfolding critical
critical-exact standard value four = by_parts (last_two value) refl
  where
    kept-by : (o : Option LastTwo) (next : ℤ) → last_two value ≡ o → is_kept_with standard value next ≡ option_map_or (λ parts. keeps_level (level_of standard) parts next) o false
    kept-by o next is = ap (λ l. option_map_or (λ parts. keeps_level (level_of standard) parts next) l false) is

    by_parts : (o : Option LastTwo) → last_two value ≡ o → IfSome (option_map (critical_with (level_of standard)) o) (IsExactFor standard value)
    by_parts None is = tt
    by_parts (Some parts) is =
        let exact = (critical-greatest standard value parts four is).1 in
        (kept-by (Some parts) (critical_with (level_of standard) parts) is ∙ exact.kept, λ more above. kept-by (Some parts) more is ∙ exact.greatest more above)

-- by the level of a standard
pub is-critical : (standard : Standard) (value : DesignValue) (level : ℤ) (result : Option ℤ) → level ≡ level_of standard → result ≡ option_map (critical_with level) (last_two value) → result ≡ critical standard value
unfolding critical
is-critical standard value level result of_standard is = is ∙ ap (λ l. option_map (critical_with l) (last_two value)) of_standard
