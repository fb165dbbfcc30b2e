use Rattle.std.proofs.Common.{◌≡◌, drop}
use Rattle.std.specs.Prelude.{bytes_eq, find}
use Rattle.aq_base.specs.Standard.{standard_name}
use Rattle.aq_rd.proofs.words.first_named.Given as goal

abbrev pub invariant-loop-standard : goal.invariant-loop-standard
invariant-loop-standard l =
    find (λ s. bytes_eq (standard_name s) l.name) (drop l.standard-index l.standards) ≡ find (λ s. bytes_eq (standard_name s) l.name) l.standards
