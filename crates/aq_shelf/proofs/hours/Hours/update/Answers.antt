use Rattle.std.proofs.Common.{◌∙◌, ap, sym, List, ℕ}
use Rattle.aq_rules.specs.Office.Office.{observation_rank, with_row}
use Rattle.aq_base.specs.declared.observation.Observation.{Observation}
use Rattle.aq_shelf.specs.Standing.{content_at}
use Rattle.aq_shelf.specs.Stretches.{rows_of}
use Rattle.aq_shelf.proofs.HourLemmas.{content_at-stands, absent-at, set-stands, put-rises}
use Rattle.aq_shelf.proofs.hours.Hours.update.Goals as goal

pub invariant_of-self : goal.invariant_of-self
invariant_of-self c =
    let key = c.args.key.now in
    let es = c.self.inside.items.items in
    let stands = rw c.as_slice.ensures.value at c.in-Ok.ensures.place in
    put-rises key c.args.content es _ c.self.invariant (set-stands key.monitor key.hour c.args.content es c.in-Ok.place stands)

pub returns-in-Ok-clause-before : goal.returns-in-Ok-clause-before
returns-in-Ok-clause-before c =
    let key = c.args.key.now in
    let stands = rw c.as_slice.ensures.value at c.in-Ok.ensures.place in
    sym (content_at-stands key.monitor key.hour c.args.content c.self.inside.items.items c.in-Ok.place c.index.result.now stands c.index.ensures)
    ∙ ap (λ (hs : List (ℕ × Observation)). content_at key (rows_of key.monitor hs)) c.self.view_is

pub returns-in-Ok-clause-ok : goal.returns-in-Ok-clause-ok
returns-in-Ok-clause-ok c =
    let key = c.args.key.now in
    let stands = rw c.as_slice.ensures.value at c.in-Ok.ensures.place in
    set-stands key.monitor key.hour c.args.content c.self.inside.items.items c.in-Ok.place stands
    ∙ ap (λ (hs : List (ℕ × Observation)). with_row observation_rank (key, c.args.content) (rows_of key.monitor hs)) c.self.view_is

pub returns-in-Err-clause-before : goal.returns-in-Err-clause-before
returns-in-Err-clause-before c =
    sym (absent-at c.args.key.now c.self.inside.items.items _ c.in-Err.field-0 c.self.invariant (rw c.as_slice.ensures.value at c.in-Err.ensures.place) c.self.view_is)
