use Rattle.std.proofs.Common.{◌≡◌, ◌≤◌, length}
use Rattle.aq_base.specs.declared.assumed.TheConstants.{MOST_ASSUMED}
use Rattle.aq_words.proofs.Entries.{entries_onto}
use Rattle.aq_words.specs.Commas.{behind_comma}
use Rattle.aq_rules.specs.Questions.Spelling.{assumed_in, assumed_list, if_few}
use Rattle.aq_words.proofs.lists.assumed_list.Given as goal

-- the entries so far, and those of what is left
abbrev pub invariant-loop-left : goal.invariant-loop-left
invariant-loop-left l = record {
  few : length l.list ≤ MOST_ASSUMED;
  entries : entries_onto assumed_in if_few l.list (behind_comma l.left) ≡ assumed_list l.text;
}

abbrev pub decreases-loop-left : goal.decreases-loop-left
decreases-loop-left l = length (behind_comma l.left)
