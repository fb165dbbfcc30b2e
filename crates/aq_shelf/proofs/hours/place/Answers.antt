use Rattle.std.proofs.Common.{ℕ, ◌-◌, ◌<◌, length, arith}
use Rattle.aq_shelf.proofs.HourLemmas.{place_of-le, place_past}
use Rattle.aq_shelf.proofs.hours.place.Goals as goal

pub returns-then-number-hour : goal.returns-then-number-hour
returns-then-number-hour c =
    let entry = c.index-items-count.result in
    let last : ℕ = length c.args.items.now - 1 in
    let some = c.if-count-eq0.false in
    let within : last < length c.args.items.now = omega arith in
    let less : entry.0 < c.args.hour = omega arith in
    let past = place_past c.args.hour c.args.items.now last entry c.requires within c.index-items-count.is less in
    let most = place_of-le c.args.hour c.args.items.now in
    record { place = omega arith; within = omega arith }
