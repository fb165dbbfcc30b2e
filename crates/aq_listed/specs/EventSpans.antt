-- The hours at which events begin and end, as marks.
use Rattle.std.specs.Prelude.{Bool, nat_le, nat_lt, if◌then◌else◌, List, [], ◌∷◌, count_by}
use Rattle.std.specs.Ordering.{is_le, is_lt}
use Rattle.aq_rules.specs.Listed.Events.{StandingEvent}
use Rattle.aq_listed.specs.Marks.{mark_cmp}
use Rattle.aq_listed.specs.declared.marks.Mark.{Mark}

-- none of an event that ends before it begins
abbrev pub start_in : StandingEvent → List Mark
start_in event =
    if nat_le event.first event.last
    then record { pollutant = event.pollutant; code = event.code; hour = event.first } ∷ []
    else []

abbrev pub end_in : StandingEvent → List Mark
end_in event =
    if nat_le event.first event.last
    then record { pollutant = event.pollutant; code = event.code; hour = event.last } ∷ []
    else []

-- whether more events begin up to a mark than end before it
abbrev pub is_begun : List Mark → List Mark → Mark → Bool
is_begun starts ends mark =
    nat_lt (count_by (λ (other : Mark). is_lt (mark_cmp other mark)) ends) (count_by (λ (other : Mark). is_le (mark_cmp other mark)) starts)
