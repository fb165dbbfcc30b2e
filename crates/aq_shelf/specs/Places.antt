-- The place of an hour among rising hours.
use Rattle.std.specs.Prelude.{◌≡◌, ℕ, suc, zero, ◌<◌, nat_lt, if◌then◌else◌, List, [], ◌∷◌}
use Rattle.aq_base.specs.declared.observation.Observation.{Observation}

-- how many hours from the front on are before an hour
abbrev pub place_of : ℕ → List (ℕ × Observation) → ℕ
place_of hour [] = 0
place_of hour (e ∷ es) = if nat_lt e.0 hour then suc (place_of hour es) else 0

-- the hour stands at a place, and those in front of it are before it
abbrev pub StandsAt : ℕ → List (ℕ × Observation) → ℕ → Type 0
StandsAt hour [] place = ⊥
StandsAt hour (e ∷ es) zero = e.0 ≡ hour
StandsAt hour (e ∷ es) (suc place) = (e.0 < hour) × StandsAt hour es place

-- the hour would stand at a place: those in front of it are before it, and the one there is later
abbrev pub IsGapAt : ℕ → List (ℕ × Observation) → ℕ → Type 0
IsGapAt hour [] zero = Unit {0}
IsGapAt hour [] (suc place) = ⊥
IsGapAt hour (e ∷ es) zero = hour < e.0
IsGapAt hour (e ∷ es) (suc place) = (e.0 < hour) × IsGapAt hour es place
