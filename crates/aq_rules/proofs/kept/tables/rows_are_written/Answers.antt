use Rattle.std.proofs.Common.{refl}
use Rattle.std.specs.Fmt.{digits}
use Rattle.aq_base.specs.Calendar.{days_of_years, days_of_months, year_of, month_of}
use Rattle.aq_base.specs.Decimal.{last_digits}
use Rattle.aq_rules.specs.Lines.Canonical.{office_texts, key_texts}
use Rattle.aq_rules.specs.Kept.Rows.{hours_before_2000}
use Rattle.aq_rules.proofs.kept.tables.rows_are_written.Goals as goal

pub returns : goal.returns
unfolding days_of_years days_of_months year_of month_of last_digits digits office_texts key_texts hours_before_2000
returns c = record { monitor = refl; designation = refl; samples = refl; load = refl }
