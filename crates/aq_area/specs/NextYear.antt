-- What two years leave to a next one.
use Rattle.std.specs.Prelude.{◌≤◌, Bool, false, Option, Some, None, ℤ, pos, ◌≤ℤ◌, unsigned_abs}
use Rattle.std.specs.Option.{option_map_or}
use Rattle.std.proofs.Math.IntN.{◌-ℤ◌}
use Rattle.aq_base.specs.declared.standard.Standard.{Standard}
use Rattle.aq_rules.specs.Standards.{level_of}
use Rattle.aq_rules.specs.DesignValues.{DesignValue}
use Rattle.aq_rules.specs.Areas.CriticalValue.{last_two, keeps_level}

-- the level is kept with the last two years of a design value and a next one whose part is this
abbrev pub is_kept_with : Standard → DesignValue → ℤ → Bool
is_kept_with standard value next = option_map_or (λ parts. keeps_level (level_of standard) parts next) (last_two value) false

-- of the most that three years may have
abbrev pub left : ℤ → Option ℤ → Option ℤ → Option ℤ
left most (Some before) (Some last) = Some ((most -ℤ before) -ℤ last)
left most _ _ = None

-- ---- sizes

pub record IsLevel (level : ℤ) : Type 0 where
  pub least : pos 0 ≤ℤ level
  pub most : level ≤ℤ pos 150

-- a year's part is no greater than 9999.9 µg/m3, in either direction
abbrev pub IsPart : ℤ → Type 0
IsPart part = unsigned_abs part ≤ 99999
