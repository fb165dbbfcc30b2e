use Rattle.std.proofs.Common.{◌≡◌, ℕ, ◌<◌, false, get_or}
use Rattle.aq_rows.specs.Texts.{is_byte}
use Rattle.aq_rows.proofs.texts.cut_at.Given as goal

-- the byte did not come yet
abbrev pub invariant-loop-place : goal.invariant-loop-place
invariant-loop-place l = (k : ℕ) → k < l.place → is_byte l.byte (get_or l.text k 0) ≡ false
