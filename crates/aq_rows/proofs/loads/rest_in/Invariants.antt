use Rattle.std.proofs.Common.{◌≡◌, ◌≤◌, sum_by}
use Rattle.aq_rules.specs.Limits.{MOST_LINES}
use Rattle.aq_rows.specs.Ranges.{gathered}
use Rattle.aq_rows.specs.Loaded.{are_counts, count_of, rest_word, rest_words}
use Rattle.aq_rows.proofs.loads.rest_in.Given as goal

abbrev pub invariant-loop-word : goal.invariant-loop-word
invariant-loop-word l = record {
  left : gathered rest_word are_counts l.rest.items l.word-iterator ≡ rest_words l.text;
  total : l.total ≡ sum_by count_of l.rest.items;
  few : l.total ≤ MOST_LINES;
}
