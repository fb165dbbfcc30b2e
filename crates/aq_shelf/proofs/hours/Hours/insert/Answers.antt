use Rattle.std.proofs.Common.{◌∙◌, ap, sym, List, ℕ, is_some}
use Rattle.aq_base.specs.declared.observation.Observation.{Observation}
use Rattle.aq_rules.specs.Office.Office.{observation_rank, with_row}
use Rattle.aq_shelf.specs.Places.{IsGapAt}
use Rattle.aq_shelf.specs.Standing.{content_at}
use Rattle.aq_shelf.specs.Stretches.{rows_of}
use Rattle.aq_shelf.proofs.HourLemmas.{absent-at, insert-gap, put-rises, stands-is_some}
use Rattle.aq_shelf.proofs.hours.Hours.insert.Goals as goal
use Rattle.aq_shelf.proofs.hours.Hours.insert.Goals.{in-Ok-insert, in-Err-insert}

pub returns-then-full-clause-refused : goal.returns-then-full-clause-refused
returns-then-full-clause-refused c =
    (absent-at c.args.key.now c.self.inside.items.items _ c.in-Err.place c.self.invariant (rw c.as_slice.ensures.value at c.in-Err.ensures.place) c.self.view_is, c.if-full.true)

pub invariant_of-self : goal.invariant_of-self
invariant_of-self c =
    let key = c.args.key.now in
    let es = c.self.inside.items.items in
    let gap : IsGapAt key.hour es c.in-Err.place = rw c.as_slice.ensures.value at c.in-Err.ensures.place in
    elim c.match-insert.branch [
      | in-Ok-insert w ↦
          put-rises key c.args.content es _ c.self.invariant
          (ap (rows_of key.monitor) w.in-Ok-insert.ensures.items ∙ insert-gap key.monitor key.hour c.args.content es c.in-Err.place gap)
      | in-Err-insert w ↦ rw w.in-Err-insert.ensures.items c.self.invariant
    ]

pub returns-in-Ok-clause-refused : goal.returns-in-Ok-clause-refused
returns-in-Ok-clause-refused c =
    let key = c.args.key.now in
    let stands = rw c.as_slice.ensures.value at c.in-Ok.ensures.place in
    ap (λ (hs : List (ℕ × Observation)). is_some (content_at key (rows_of key.monitor hs))) (sym c.self.view_is)
    ∙ stands-is_some key.monitor key.hour c.args.content c.self.inside.items.items c.in-Ok.field-0 stands

pub returns-after-insert-clause-ok : goal.returns-after-insert-clause-ok
returns-after-insert-clause-ok c =
    let key = c.args.key.now in
    let es = c.self.inside.items.items in
    let gap : IsGapAt key.hour es c.in-Err.place = rw c.as_slice.ensures.value at c.in-Err.ensures.place in
    elim c.match-insert.branch [
      | in-Ok-insert w ↦
          rw w.result-is
          (ap (rows_of key.monitor) w.in-Ok-insert.ensures.items ∙ insert-gap key.monitor key.hour c.args.content es c.in-Err.place gap
          ∙ ap (λ (hs : List (ℕ × Observation)). with_row observation_rank (key, c.args.content) (rows_of key.monitor hs)) c.self.view_is)
      | in-Err-insert w ↦ rw w.result-is tt
    ]

pub returns-after-insert-clause-absent : goal.returns-after-insert-clause-absent
returns-after-insert-clause-absent c =
    elim c.match-insert.branch [
      | in-Ok-insert w ↦
          rw w.result-is (absent-at c.args.key.now c.self.inside.items.items _ c.in-Err.place c.self.invariant (rw c.as_slice.ensures.value at c.in-Err.ensures.place) c.self.view_is)
      | in-Err-insert w ↦ rw w.result-is tt
    ]

pub returns-after-insert-clause-refused : goal.returns-after-insert-clause-refused
returns-after-insert-clause-refused c =
    elim c.match-insert.branch [
      | in-Ok-insert w ↦ rw w.result-is tt
      | in-Err-insert w ↦
          rw w.result-is (absent-at c.args.key.now c.self.inside.items.items _ c.in-Err.place c.self.invariant (rw c.as_slice.ensures.value at c.in-Err.ensures.place) c.self.view_is, c.if-full.false)
    ]
