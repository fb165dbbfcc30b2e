-- Where the maximum of an ozone day comes from, among its averages.
use Rattle.std.specs.Prelude.{Option, option_map, find, List, ℤ}
use Rattle.std.specs.List.{enumerate_from}
use Rattle.aq_rules.specs.Ozone.EightHour.{WindowRow}
use Rattle.aq_rules.specs.Listed.Highest.{MaximumAt, is_net, maximum_at}

-- the earliest of these averages that is the value, of which the first one starts at 07:00
abbrev pub first_among : ℤ → List WindowRow → Option MaximumAt
first_among value rows = option_map maximum_at (find (is_net value) (enumerate_from 7 rows))
