use Rattle.std.proofs.Common.{◌≡◌, ℕ, ◌++◌, List, map, drop, Bor}
use Rattle.aq_sheets.proofs.lists.names.Given as goal

abbrev pub invariant-loop-text : goal.invariant-loop-text
invariant-loop-text l =
    l.names ++ map (λ (text : Bor (List ℕ)). text.now) (drop l.text-index l.texts) ≡ map (λ (text : Bor (List ℕ)). text.now) l.texts
