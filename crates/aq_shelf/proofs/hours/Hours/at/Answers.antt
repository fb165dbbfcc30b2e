use Rattle.std.proofs.Common.{◌∙◌, ap, sym, List, ℕ}
use Rattle.aq_base.specs.declared.observation.Observation.{Observation}
use Rattle.aq_shelf.specs.Standing.{content_at}
use Rattle.aq_shelf.specs.Stretches.{rows_of}
use Rattle.aq_shelf.proofs.HourLemmas.{content_at-stands, content_at-gap}
use Rattle.aq_shelf.proofs.hours.Hours.at.Goals as goal

pub returns-in-Ok : goal.returns-in-Ok
returns-in-Ok c =
    let key = c.args.key.now in
    let stands = rw c.as_slice.ensures.value at c.in-Ok.ensures.place in
    sym (content_at-stands key.monitor key.hour c.index.result.now.1 c.self.inside.items.items c.in-Ok.place c.index.result.now stands c.index.ensures)
    ∙ ap (λ (hs : List (ℕ × Observation)). content_at key (rows_of key.monitor hs)) c.self.view_is

pub returns-in-Err : goal.returns-in-Err
returns-in-Err c =
    let key = c.args.key.now in
    let gap = rw c.as_slice.ensures.value at c.in-Err.ensures.place in
    sym (content_at-gap key.monitor key.hour c.self.inside.items.items c.in-Err.field-0 c.self.invariant gap)
    ∙ ap (λ (hs : List (ℕ × Observation)). content_at key (rows_of key.monitor hs)) c.self.view_is
