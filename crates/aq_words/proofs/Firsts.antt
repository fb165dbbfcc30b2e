-- The first byte of its kind in a text.
use Rattle.std.proofs.Common.{◌≡◌, ◌≢◌, ℕ, ◌<◌, get_or, List, length, arith}
use Rattle.std.specs.Prelude.{◌==◌}
use Rattle.std.specs.List.{position_or_len}
use Rattle.std.proofs.lemmas.Bool.{eq-eqb, ne_eqb}
use Rattle.std.proofs.lemmas.List.Sums.{position_or_len_is}

pub first_at : (text : List ℕ) (byte place : ℕ) → place < length text → get_or text place 0 ≡ byte
    → ((k : ℕ) → k < place → get_or text k 0 ≢ byte) → position_or_len (λ b. b == byte) text ≡ place
first_at text byte place within here before =
    position_or_len_is (λ b. b == byte) text place 0 (omega arith) (λ k below. ne_eqb _ _ (before k below)) (λ _. eq-eqb _ _ here)

pub first_nowhere : (text : List ℕ) (byte : ℕ) → ((k : ℕ) → k < length text → get_or text k 0 ≢ byte)
    → position_or_len (λ b. b == byte) text ≡ length text
first_nowhere text byte none =
    position_or_len_is (λ b. b == byte) text (length text) 0 (omega arith) (λ k below. ne_eqb _ _ (none k below)) (λ h. absurd (omega arith))
