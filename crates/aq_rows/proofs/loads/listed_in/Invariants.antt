use Rattle.std.proofs.Common.{◌≡◌, ◌≤◌, length}
use Rattle.aq_rules.specs.Limits.{MOST_LISTED}
use Rattle.aq_rows.specs.Ranges.{gathered}
use Rattle.aq_rows.specs.Loaded.{are_listed, listed_word, listed_words}
use Rattle.aq_rows.proofs.loads.listed_in.Given as goal

abbrev pub invariant-loop-word : goal.invariant-loop-word
invariant-loop-word l = record {
  left : gathered listed_word are_listed l.listed.items l.word-iterator ≡ listed_words l.text;
  few : length l.listed.items ≤ MOST_LISTED;
}
