-- The command `simulate START SITES YEARS`: generated loads are taken over an office of which nothing stands, and a summary of it is printed (own).
use Rattle.std.specs.Prelude.{ℕ}
use Rattle.sha2.specs.Sha256.{sha256}
use Rattle.aq_rules.specs.Shown.Generator.{simulation}
use Rattle.aq_desk.specs.Command.{Printout, printed}

-- the digest of a load is the SHA-256 of its body
abbrev pub simulate_outcome : ℕ → ℕ → ℕ → Printout
simulate_outcome start sites years = printed (simulation sha256 start sites years)
