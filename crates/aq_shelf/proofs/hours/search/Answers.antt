use Rattle.std.proofs.Common.{ℕ, ◌∙◌, ◌<◌, ap, length, arith}
use Rattle.aq_shelf.specs.Places.{place_of}
use Rattle.aq_shelf.proofs.HourLemmas.{StandsAt-place, IsGapAt-place, IsGapAt-end}
use Rattle.aq_shelf.proofs.hours.search.Goals as goal

pub returns-then-place-items-clause-place : goal.returns-then-place-items-clause-place
returns-then-place-items-clause-place c =
    let placed = c.place-place.ensures.place ∙ ap (λ (n : ℕ). place_of n c.args.items.now) c.number.ensures.value in
    IsGapAt-end c.args.hour c.args.items.now c.place-place.result placed c.if-place-items.true

pub returns-then-number-clause-place : goal.returns-then-number-clause-place
returns-then-number-clause-place c =
    let placed = c.place-place.ensures.place ∙ ap (λ (n : ℕ). place_of n c.args.items.now) c.number.ensures.value in
    let other = c.if-place-items.false in
    let within : c.place-place.result < length c.args.items.now = omega arith in
    StandsAt-place c.args.hour c.args.items.now c.index-items-place.result c.place-place.result placed within c.index-items-place.is (omega arith)

pub returns-else-number-clause-place : goal.returns-else-number-clause-place
returns-else-number-clause-place c =
    let placed = c.place-place.ensures.place ∙ ap (λ (n : ℕ). place_of n c.args.items.now) c.number.ensures.value in
    let other = c.if-place-items.false in
    let within : c.place-place.result < length c.args.items.now = omega arith in
    let apart = c.if-number.false in
    IsGapAt-place c.args.hour c.args.items.now c.index-items-place.result c.place-place.result placed within c.index-items-place.is (λ same. apart (omega arith))
