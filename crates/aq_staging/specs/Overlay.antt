-- The observations while a load is staged.
use Rattle.std.specs.Prelude.{◌≡◌, ℕ, ◌≤◌, Option, None, List, length}
use Rattle.aq_base.specs.declared.observation.ObsKey.{ObsKey}
use Rattle.aq_base.specs.declared.observation.Observation.{Observation}
use Rattle.aq_rules.specs.Office.Office.{observation_numbers, observation_rank, with_row, without_row}
use Rattle.aq_rules.specs.Limits.{MOST_OBSERVATIONS}
use Rattle.aq_staging.specs.declared.changes.Changes.{Changes}
use Rattle.aq_staging.specs.Changes.{with_changes, AreChanges}
use Rattle.aq_staging.specs.declared.overlay.OverlayFault.{OverlayFault}
use Rattle.aq_staging.specs.declared.overlay.OverlayFault.TheVariants.{NotThere, Memory}

-- those before the load, and those that stand so far
pub record Overlaid : Type 0 where
  pub before : List (ObsKey × Observation)
  pub standing : List (ObsKey × Observation)

abbrev pub with_content : ObsKey → Observation → Overlaid → Overlaid
with_content key content overlaid = record overlaid { standing = with_row observation_rank (key, content) overlaid.standing }

abbrev pub without_content : ObsKey → Overlaid → Overlaid
without_content key overlaid = record overlaid { standing = without_row observation_rank (observation_numbers key) overlaid.standing }

-- none stands there, or memory ran out
abbrev pub IsOverlayFault : OverlayFault → Option Observation → Type 0
IsOverlayFault NotThere found = found ≡ None
IsOverlayFault Memory found = Unit {0}

-- what holds of every overlay
pub record IsOverlay (before : List (ObsKey × Observation)) (changes : Changes) (count : ℕ) : Type 0 where
  pub kept : AreChanges before changes
  pub counted : count ≡ length (with_changes changes before)
  pub few : count ≤ MOST_OBSERVATIONS
