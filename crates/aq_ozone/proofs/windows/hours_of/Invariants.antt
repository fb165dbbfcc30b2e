use Rattle.std.proofs.Common.{◌≡◌, ℕ, ◌+◌, ◌-◌, ◌<◌, ◌≤◌, None, length, get_or}
use Rattle.aq_ozone.proofs.windows.hours_of.Given as goal

abbrev pub invariant-loop-i : goal.invariant-loop-i
invariant-loop-i l = record {
  many : length l.hours ≡ 24;
  early : (k : ℕ) → k < l.i → k < 17 → get_or l.hours k None ≡ get_or l.today (k + 7) None;
  late : (k : ℕ) → k < l.i → 17 ≤ k → get_or l.hours k None ≡ get_or l.tomorrow (k + 7 - 24) None;
}
