-- What a load leaves of the observations.
use Rattle.std.specs.Prelude.{◌≡◌, ℕ, true, is_some, List, [], ◌∷◌}
use Rattle.aq_base.specs.declared.observation.ObsKey.{ObsKey}
use Rattle.aq_base.specs.declared.observation.Observation.{Observation}
use Rattle.aq_rules.specs.Office.Office.{observation_rank, row_at, rises, with_row, without_row}
use Rattle.aq_staging.specs.declared.changes.Changes.{Changes}

-- each key that stands in some rows stands in others
abbrev pub AreFoundIn : {X : Type 0} → (X → List ℕ) → List X → List X → Type 0
AreFoundIn rank rows others = (key : List ℕ) → is_some (row_at rank key rows) ≡ true → is_some (row_at rank key others) ≡ true

-- ---- the observations with the changes done: those that were taken away go first, and then those that are left come

abbrev pub without_rows : List (ObsKey × Observation) → List (ObsKey × Observation) → List (ObsKey × Observation)
without_rows [] rows = rows
without_rows (gone ∷ more) rows = without_rows more (without_row observation_rank (observation_rank gone) rows)

abbrev pub with_rows : List (ObsKey × Observation) → List (ObsKey × Observation) → List (ObsKey × Observation)
with_rows [] rows = rows
with_rows (row ∷ more) rows = with_rows more (with_row observation_rank row rows)

abbrev pub with_changes : Changes → List (ObsKey × Observation) → List (ObsKey × Observation)
with_changes changes rows = with_rows changes.left (without_rows changes.dropped rows)

-- ---- what holds of the changes of every load

-- those that were taken away stood before the load
pub record AreChanges (before : List (ObsKey × Observation)) (changes : Changes) : Type 0 where
  pub rising : rises observation_rank before ≡ true
  pub left : rises observation_rank changes.left ≡ true
  pub dropped : rises observation_rank changes.dropped ≡ true
  pub stood : AreFoundIn observation_rank changes.dropped before
