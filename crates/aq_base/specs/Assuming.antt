-- A list of assumed concurrences: at most 64 entries, in the order in which they are given.
use Rattle.std.specs.Prelude.{ℕ, Bool, false, nat_lt, if◌then◌else◌, List, [], ◌∷◌, ◌++◌, length}
use Rattle.aq_base.specs.Padded.{Holds, padded_to}
use Rattle.aq_base.specs.declared.assumed.Assumed.{Assumed}
use Rattle.aq_base.specs.declared.assumed.TheConstants.{MOST_ASSUMED}

abbrev pub has_room : List Assumed → Bool
has_room entries = nat_lt (length entries) MOST_ASSUMED

-- the list with one more entry at the end, or as it is if it is full
abbrev pub with_assumed : List Assumed → Assumed → List Assumed
with_assumed entries assumed = if has_room entries then entries ++ assumed ∷ [] else entries

-- the entry that fills the places after the last one
abbrev pub no_entry : Assumed
no_entry = record { number = 0; agreed = false }

abbrev pub assumed_places : List Assumed → List Assumed
assumed_places entries = padded_to MOST_ASSUMED no_entry entries

abbrev pub HoldsAssumed : List Assumed → ℕ → Type 0
HoldsAssumed places count = Holds MOST_ASSUMED no_entry places count
