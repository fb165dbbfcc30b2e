-- Lemmas, no definition: the places of a list of assumed concurrences.
use Rattle.std.proofs.Common.{◌≡◌, ℕ, List, length, take, sym}
use Rattle.aq_base.specs.declared.assumed.Assumed.{Assumed}
use Rattle.aq_base.specs.declared.assumed.AssumedList.TheInside.{Inside}
use Rattle.aq_base.specs.Padded.{length-held}
use Rattle.aq_base.specs.Assuming.{HoldsAssumed, assumed_places, no_entry}

-- the list that is held gives the places and the count back
pub assumed_places-take : (places : List Assumed) (count : ℕ) → HoldsAssumed places count
    → (let inside : Inside = record { places = assumed_places (take count places); count = length (take count places) } in inside) ≡ record { places = places; count = count }
assumed_places-take places count holds =
    let same : assumed_places (take count places) ≡ places = sym holds.rest in
    let many : length (take count places) ≡ count = length-held 64 no_entry places count holds in
    cc
