-- The range of a reported value (own).
use Rattle.std.specs.Prelude.{ℤ, pos, negsuc, ◌≤ℤ◌, IfSome}
use Rattle.aq_base.specs.declared.monitor.Pollutant.{Pollutant}
use Rattle.aq_base.specs.declared.monitor.Pollutant.TheVariants.{Ozone, Pm25, Pm10}
use Rattle.aq_base.specs.declared.observation.Observation.{Observation}

-- -0.999 ppm of ozone, and -99.9 µg/m3 of PM: `negsuc n` is -(n + 1), so `negsuc 998` is -999
abbrev pub least_value : ℤ
least_value = negsuc 998

-- 9.999 ppm of ozone, and 9999.9 µg/m3 of PM
abbrev pub greatest_value : Pollutant → ℤ
greatest_value Ozone = pos 9999
greatest_value Pm25 = pos 99999
greatest_value Pm10 = pos 99999

-- a value, if there is one, is in its pollutant's range
abbrev pub HasValueInRange : Pollutant → Observation → Type 0
HasValueInRange pollutant content =
    IfSome content.value (λ value. (least_value ≤ℤ value) × (value ≤ℤ greatest_value pollutant))
