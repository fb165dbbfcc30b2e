use Rattle.std.proofs.Common.{◌≡◌, drop}
use Rattle.std.specs.Prelude.{find}
use Rattle.aq_pages.specs.Kinds.{has_names, names_of}
use Rattle.aq_pages.proofs.kind.first_of.Given as goal

abbrev pub invariant-loop-kind : goal.invariant-loop-kind
invariant-loop-kind l =
    find (has_names (names_of l.heads) l.columns) (drop l.kind-index l.kinds)
    ≡ find (has_names (names_of l.heads) l.columns) l.kinds
