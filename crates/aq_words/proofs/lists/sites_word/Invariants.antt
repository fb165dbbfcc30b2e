use Rattle.std.proofs.Common.{◌≡◌, length}
use Rattle.aq_rules.specs.Questions.Spelling.{site_word}
use Rattle.aq_words.proofs.Entries.{entries_onto}
use Rattle.aq_words.specs.Commas.{behind_comma}
use Rattle.aq_rules.specs.Questions.Spelling.{if_sites, sites_word}
use Rattle.aq_words.proofs.lists.sites_word.Given as goal

-- the sites so far, and those of what is left
abbrev pub invariant-loop-left : goal.invariant-loop-left
invariant-loop-left l = entries_onto site_word if_sites l.sites (behind_comma l.left) ≡ sites_word l.text

abbrev pub decreases-loop-left : goal.decreases-loop-left
decreases-loop-left l = length (behind_comma l.left)
