use Rattle.std.proofs.Common.{◌≡◌, ◌++◌, drop, flat_map}
use Rattle.aq_browser.specs.Paths.{further_assumed}
use Rattle.aq_browser.proofs.paths.write_all_further_assumed.Given as goal

abbrev pub invariant-loop-entry : goal.invariant-loop-entry
invariant-loop-entry l =
    l.out.items ++ flat_map further_assumed (drop l.entry-index l.entries) ≡ l.fn.out.items ++ flat_map further_assumed l.entries
