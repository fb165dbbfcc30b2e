use Rattle.std.proofs.Common.{ℕ, ◌+◌, ◌-◌, ◌/◌, ◌<◌, ◌≤◌, length, arith}
use Rattle.aq_shelf.proofs.HourLemmas.{place_of-le, place_past, place_up_to}
use Rattle.aq_shelf.proofs.hours.halve.Goals as goal

pub loop-low-init : goal.loop-low-init
loop-low-init c =
    let most = place_of-le c.args.hour c.args.items.now in
    record { high_in = omega arith; low_in = omega arith; after = omega arith; before = most }

pub loop-low-preserved-then-number-hour : goal.loop-low-preserved-then-number-hour
loop-low-preserved-then-number-hour c =
    let inv = c.loop-low.invariant in
    let entry = c.index-items-middle.result in
    let middle : ℕ = c.loop-low.low + (c.loop-low.high - c.loop-low.low) / 2 in
    let within : middle < length c.args.items.now = omega arith in
    let less : entry.0 < c.args.hour = omega arith in
    let past = place_past c.args.hour c.args.items.now middle entry c.requires within c.index-items-middle.is less in
    record { high_in = inv.high_in; low_in = omega arith; after = omega arith; before = inv.before }

pub loop-low-preserved : goal.loop-low-preserved
loop-low-preserved c =
    let inv = c.loop-low.invariant in
    let entry = c.index-items-middle.result in
    let middle : ℕ = c.loop-low.low + (c.loop-low.high - c.loop-low.low) / 2 in
    let within : middle < length c.args.items.now = omega arith in
    let more : c.args.hour ≤ entry.0 = omega arith in
    let most = place_up_to c.args.hour c.args.items.now middle entry within c.index-items-middle.is more in
    record { high_in = omega arith; low_in = omega arith; after = inv.after; before = most }
