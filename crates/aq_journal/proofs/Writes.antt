-- A write that is done is one of those that a crash may leave.
use Rattle.std.proofs.Common.{◌≡◌, ℕ, ◌+◌, ◌-◌, min, List, ◌++◌, length, take, drop, ap, ◌∙◌, append_assoc, arith}
use Rattle.std.specs.Prelude.{replicate}
use Rattle.std.proofs.lemmas.List.{take_at, drop_at, length-append, length-take, length-drop, length-replicate}
use Rattle.aq_journal.specs.Disks.{Torn, written}

module _ (at : ℕ) (piece old : List ℕ) where
  abbrev front : List ℕ
  front = take at old ++ replicate (at - length old) 0

  front_length : length front ≡ at
  front_length = omega (arith, length-append (take at old) (replicate (at - length old) 0), length-take at old, length-replicate {A = ℕ} (at - length old) 0)

  up_to : length (front ++ piece) ≡ at + length piece
  up_to = omega (arith, front_length, length-append front piece)

  written_length : length (written at piece old) ≡ at + length piece + (length old - (at + length piece))
  written_length = omega (arith, up_to, length-append (front ++ piece) (drop (at + length piece) old), length-drop (at + length piece) old)

  start : take (min at (length old)) (written at piece old) ≡ take at old
  start =
      let rest = replicate (at - length old) 0 ++ (piece ++ drop (at + length piece) old) in
      let leaned : written at piece old ≡ take at old ++ rest =
      append_assoc front piece (drop (at + length piece) old) ∙ append_assoc (take at old) (replicate (at - length old) 0) (piece ++ drop (at + length piece) old) in
      ap (λ (l : List ℕ). take (min at (length old)) l) leaned ∙ take_at (take at old) rest (min at (length old)) (length-take at old)

  pub torn_written : Torn at (length piece) old (written at piece old)
  torn_written = record {
    before = start;
    after = drop_at (front ++ piece) (drop (at + length piece) old) (at + length piece) up_to;
    no_shorter = omega (arith, written_length);
    no_longer = omega (arith, written_length);
  }
