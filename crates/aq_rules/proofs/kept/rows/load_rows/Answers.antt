use Rattle.std.proofs.Common.{refl}
use Rattle.std.specs.Fmt.{digits}
use Rattle.aq_rules.specs.Kept.Rows.{listed_in, rest_in, load_of_row, are_office_rows}
use Rattle.aq_rules.proofs.kept.rows.load_rows.Goals as goal

pub returns : goal.returns
unfolding digits listed_in rest_in load_of_row are_office_rows
returns c = record { lines = refl; most_lines = refl; too_many_lines = refl; below_zero = refl; too_many_accepted = refl; line_zero = refl; line_beyond = refl; falling = refl; one_line_twice = refl; last_rule = refl; no_rule = refl; rule_99 = refl; zeros = refl; spaces = refl; no_colon = refl; rest_of_few = refl; number = refl; great_number = refl; short_digest = refl; no_byte = refl; rest = refl }
