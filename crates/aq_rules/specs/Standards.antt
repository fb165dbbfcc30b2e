-- What it is to be above a standard's level, and the years of a design value. The pollutant and the level of each standard stand in aq_base.
use Rattle.std.specs.Prelude.{ℕ, ◌-◌, Bool, false, List, [], ◌∷◌, Option, ℤ, pos, int_lt, int_le}
use Rattle.std.specs.Option.{option_map_or}
pub use Rattle.aq_base.specs.Standard.{pollutant_of, level_of}

-- above which a day of PM10 exceeds: 150 µg/m3, in tens (40 CFR 50.6)
abbrev pub PM10_DAY_LEVEL : ℤ
PM10_DAY_LEVEL = pos 15

-- a design value is of three years: those that end with `year`, the oldest first
abbrev pub years_to : ℕ → List ℕ
years_to year = (year - 2) ∷ (year - 1) ∷ year ∷ []

-- a missing value is above no level (own)
abbrev pub is_above : ℤ → Option ℤ → Bool
is_above level value = option_map_or (int_lt level) value false

-- and at or below none (own)
abbrev pub is_at_or_below : ℤ → Option ℤ → Bool
is_at_or_below level value = option_map_or (λ v. int_le v level) value false
