-- Connections of the door in memory, of which one is put in another's place.
use Rattle.std.proofs.Common.{◌≡◌, ℕ, List, get_or, map, set, ap, ◌∙◌}
use Rattle.std.proofs.Math.Seq.{map-set_same}
use Rattle.aq_outside.specs.Memories.{LineState}

-- one with the same room leaves all rooms as they are
pub rooms_stay : (lines : List LineState) (place : ℕ) (before after : LineState) → before ≡ get_or lines place before → after.room ≡ before.room
    → map (λ (line : LineState). line.room) (set lines place after) ≡ map (λ (line : LineState). line.room) lines
rooms_stay lines place before after there same =
    map-set_same (λ (line : LineState). line.room) lines place after before (same ∙ ap (λ (line : LineState). line.room) there)
