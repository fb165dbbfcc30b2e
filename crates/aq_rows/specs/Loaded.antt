-- A load as it is read from a row: each column is tested in turn.
use Rattle.std.specs.Prelude.{ℕ, ◌+◌, Bool, ◌&&◌, ◌||◌, ◌==◌, nat_le, nat_lt, Option, Some, List, [], length, sum_by}
use Rattle.std.specs.List.{list_all, before_first, after_first}
use Rattle.aq_base.specs.declared.reply.ListedLine.{ListedLine}
use Rattle.aq_base.specs.declared.reply.LoadReply.{LoadReply}
use Rattle.aq_base.specs.declared.reply.RestRule.{RestRule}
use Rattle.aq_base.specs.declared.rule.Rule.{Rule}
use Rattle.aq_rules.specs.Limits.{MOST_LINES, MOST_LISTED, LAST_LOAD_NUMBER}
use Rattle.aq_rules.specs.Lines.Spellings.{◌>>=◌}
use Rattle.aq_rules.specs.Office.Office.{StoredLoad, rises, listed_rank, rest_rank, is_listed, is_rest}
use Rattle.aq_rules.specs.Kept.Rows.{LoadRow, load_row, is_load_row, only_if, words, is_colon, number_in, rule_with}
use Rattle.aq_rows.specs.Ranges.{between, gathered}

-- a number that a body of the most lines has
abbrev pub is_few : ℕ → Bool
is_few n = nat_le n MOST_LINES

unfoldable pub small_number : List ℕ → Option ℕ
small_number text = number_in text >>= only_if is_few

unfoldable pub rule_in : List ℕ → Option Rule
rule_in text = number_in text >>= rule_with

-- `line:rule`
unfoldable pub listed_word : List ℕ → Option ListedLine
listed_word text = do
  line ← small_number (before_first is_colon text)
  rule ← rule_in (after_first is_colon text)
  Some (record { line = line; rule = rule })

-- `rule:count`
unfoldable pub rest_word : List ℕ → Option RestRule
rest_word text = do
  rule ← rule_in (before_first is_colon text)
  count ← small_number (after_first is_colon text)
  Some (record { rule = rule; count = count })

abbrev pub count_of : RestRule → ℕ
count_of r = r.count

abbrev pub are_listed : List ListedLine → Bool
are_listed listed = nat_le (length listed) MOST_LISTED

abbrev pub are_counts : List RestRule → Bool
are_counts rest = is_few (sum_by count_of rest)

unfoldable pub listed_words : List ℕ → Option (List ListedLine)
listed_words text = gathered listed_word are_listed [] (words text)

unfoldable pub rest_words : List ℕ → Option (List RestRule)
rest_words text = gathered rest_word are_counts [] (words text)

abbrev pub is_digest : List ℕ → Bool
is_digest bytes = (length bytes == 32) && list_all (λ byte. nat_lt byte 256) bytes

abbrev pub digest_in : List ℕ → Option (List ℕ)
digest_in bytes = only_if is_digest bytes

-- what a reply must be, beside its number of lines and of those that are refused
unfoldable pub fits_reply : LoadReply → Bool
fits_reply reply =
    rises listed_rank reply.listed && list_all (is_listed reply.lines) reply.listed
    && ((length reply.rest == 0) || (length reply.listed == MOST_LISTED))
    && rises rest_rank reply.rest && list_all is_rest reply.rest
    && nat_le (reply.accepted + reply.refused) reply.lines

-- the refused lines are those that are listed and the rest
abbrev pub load_with : ℕ → List ℕ → ℕ → ℕ → List ListedLine → List RestRule → StoredLoad
load_with number digest lines accepted listed rest = record {
  number = number;
  digest = digest;
  reply = record { number = number; lines = lines; accepted = accepted; refused = length listed + sum_by count_of rest; listed = listed; rest = rest };
}

unfoldable pub load_in : LoadRow → Option StoredLoad
load_in row = do
  number ← between 1 LAST_LOAD_NUMBER row.number
  lines ← between 0 MOST_LINES row.lines
  accepted ← between 0 MOST_LINES row.accepted
  listed ← listed_words row.listed
  rest ← rest_words row.rest
  digest ← digest_in row.digest
  only_if (λ l. fits_reply l.reply && is_load_row (load_row l) row) (load_with number digest lines accepted listed rest)
