use Rattle.std.proofs.Common.{◌≡◌, drop, map}
use Rattle.aq_pages.specs.Kinds.{names_of, same_words}
use Rattle.aq_pages.proofs.kind.are_named.Given as goal

abbrev pub invariant-loop-name : goal.invariant-loop-name
invariant-loop-name l =
    same_words (map (λ name. name.now) (drop l.name-index l.names)) (names_of l.rest)
    ≡ same_words (map (λ name. name.now) l.names) (names_of l.fn.heads)
