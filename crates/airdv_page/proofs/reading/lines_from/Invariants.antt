use Rattle.std.proofs.Common.{◌≡◌, ◌++◌, drop, map}
use Rattle.airdv_page.specs.Reading.{words_of}
use Rattle.airdv_page.proofs.reading.lines_from.Given as goal

abbrev pub invariant-loop-text : goal.invariant-loop-text
invariant-loop-text l =
    l.lines ++ map words_of (map (λ text. text.now) (drop l.text-index l.texts)) ≡ map words_of (map (λ text. text.now) l.texts)
