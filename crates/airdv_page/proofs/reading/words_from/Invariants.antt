use Rattle.std.proofs.Common.{◌≡◌, ◌++◌, drop, map}
use Rattle.airdv_page.proofs.reading.words_from.Given as goal

abbrev pub invariant-loop-text : goal.invariant-loop-text
invariant-loop-text l =
    l.words ++ map (λ text. text.now) (drop l.text-index l.texts) ≡ map (λ text. text.now) l.texts
