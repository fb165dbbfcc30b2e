use Rattle.std.proofs.Common.{◌≡◌, drop, map}
use Rattle.aq_pages.specs.Kinds.{same_words}
use Rattle.aq_pages.proofs.kind.are_same.Given as goal

abbrev pub invariant-loop-name : goal.invariant-loop-name
invariant-loop-name l =
    same_words (map (λ name. name.now) (drop l.name-index l.names)) l.rest
    ≡ same_words (map (λ name. name.now) l.names) l.fn.words
