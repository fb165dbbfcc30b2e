-- Runs in which no count of faults rises.
use Rattle.std.proofs.Common.{◌≡◌, ℕ, ◌⊎◌, inl, inr, List, Option, Some, None}
use Rattle.std.specs.Prelude.{IfSome, IsNone}
use Rattle.aq_words.specs.declared.words.Command.{Command}
use Rattle.aq_rules.specs.Kept.Rows.{Row}
use Rattle.aq_desk.proofs.Serving.{serve_status}
use Rattle.aq_desk.specs.Command.{IsStatus}
use Rattle.aq_desk.specs.Run.{AreFaultless, HasReasons, IsComplete, Runs, Surroundings, around_in, hosting_for, outcome_for}
use Rattle.aq_desk.specs.Serve.{HasServed, Hosting, IsServed}

module _ (command : Option Command) (status : ℕ) (before after : Surroundings) (reasons : HasReasons command status before after) (faultless : AreFaultless before after) where
  not-five : status ≡ 5 → ⊥
  not-five five = faultless.keeper (reasons.keeper_failed.rises five)

  not-eight : status ≡ 8 → ⊥
  not-eight eight = faultless.accepts (reasons.door_failed.rises eight)

  pub complete : IsNone (hosting_for command) → (runs : Runs command status before after) → (status ≡ 7) ⊎ IsComplete (outcome_for command runs.rows runs.body) status before after
  complete none runs = by reasons.statuses
    where
      by : IsStatus status → (status ≡ 7) ⊎ IsComplete (outcome_for command runs.rows runs.body) status before after
      by (inl whole) =
          let follows = runs.prints none in
          inr (record { ended = follows.answered whole; written = follows.whole whole; tables = follows.tables.kept (inl whole) })
      by (inr (inl three)) = absurd (faultless.input (reasons.input_failed.rises three))
      by (inr (inr (inl four))) = absurd (faultless.output (reasons.output_failed.rises four))
      by (inr (inr (inr (inl five)))) = absurd (not-five five)
      by (inr (inr (inr (inr (inl seven))))) = inl seven
      by (inr (inr (inr (inr (inr eight))))) = absurd (not-eight eight)

  module _ (rows : List Row) (asked : Hosting) where
    abbrev Served : Type 0
    Served = (status ≡ 7) ⊎ (status ≡ 6) ⊎ ((status ≡ 0) × IsServed asked rows status (around_in before) (around_in after))

    of-served : HasServed asked rows status (around_in before) (around_in after) → Served
    of-served (inl unserved) = by unserved.ended
      where
        by : (status ≡ 5) ⊎ (status ≡ 6) ⊎ (status ≡ 7) ⊎ (status ≡ 8) → Served
        by (inl five) = absurd (not-five five)
        by (inr (inl six)) = inr (inl six)
        by (inr (inr (inl seven))) = inl seven
        by (inr (inr (inr eight))) = absurd (not-eight eight)
    of-served (inr served) = by (serve_status asked rows status (around_in before) (around_in after) (inr served))
      where
        by : (status ≡ 0) ⊎ (status ≡ 5) ⊎ (status ≡ 6) ⊎ (status ≡ 7) ⊎ (status ≡ 8) → Served
        by (inl done) = inr (inr (done, served))
        by (inr (inl five)) = absurd (not-five five)
        by (inr (inr (inl six))) = inr (inl six)
        by (inr (inr (inr (inl seven)))) = inl seven
        by (inr (inr (inr (inr eight)))) = absurd (not-eight eight)

  pub complete_served : (runs : Runs command status before after) → IfSome (hosting_for command) (Served runs.rows)
  complete_served runs = by (hosting_for command) runs.serves
    where
      by : (asked : Option Hosting) → IfSome asked (λ n. HasServed n runs.rows status (around_in before) (around_in after)) → IfSome asked (Served runs.rows)
      by None served = tt
      by (Some asked) served = of-served runs.rows asked served
