-- The make-up samples of a pair, by their missed days.
use Rattle.std.specs.Prelude.{ℕ, Bool, false, ◌&&◌, nat_lt, if◌then◌else◌, Option, Some, None, option_and_then}
use Rattle.std.specs.Option.{option_map_or}
use Rattle.aq_rules.specs.Combined.Pair.{Pair, would_give_credit}
use Rattle.aq_rules.specs.Office.Office.{Office}
use Rattle.aq_rules.specs.Office.Questions.{makeup_of, missed_of}
use Rattle.aq_particles.specs.Pm25.SiteDays.{as_makeup}

-- whether the sample of a day makes up for a missed day of the site, before the other one is joined
abbrev pub is_taken : Office → Pair → ℕ → Bool
is_taken office pair makeup =
    option_map_or (λ missed. nat_lt missed pair.from && would_give_credit office pair (as_makeup missed makeup)) (missed_of office.records pair.site makeup) false

-- the day of the sample that may make up for a missed day: of the site before the other one is joined, and from then on of the joined site, unless it is taken
abbrev pub makeup_of_pair : Office → Pair → ℕ → Option ℕ
makeup_of_pair office pair missed =
    if nat_lt missed pair.from then makeup_of office.records pair.site missed
    else option_and_then (λ makeup. if is_taken office pair makeup then None else Some makeup) (makeup_of office.records pair.joined missed)
