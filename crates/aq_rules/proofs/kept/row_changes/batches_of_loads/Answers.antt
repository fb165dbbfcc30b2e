use Rattle.std.proofs.Common.{refl}
use Rattle.std.specs.Fmt.{digits}
use Rattle.aq_base.specs.Calendar.{days_of_years, days_of_months}
use Rattle.aq_rules.specs.Lines.Spellings.{site_in, parameter_of, date_in, time_in, value_in, qualifiers_in}
use Rattle.aq_rules.specs.Lines.RdForm.{monitor_in, start_in, content_in, put_in}
use Rattle.aq_rules.specs.Kept.Rows.{hours_before_2000}
use Rattle.aq_rules.specs.Kept.RowChanges.{row_batch}
use Rattle.aq_rules.proofs.kept.row_changes.batches_of_loads.Goals as goal

pub returns-clause-hours : goal.returns-clause-hours
unfolding digits row_batch site_in parameter_of date_in time_in value_in qualifiers_in monitor_in start_in content_in put_in days_of_years days_of_months hours_before_2000
returns-clause-hours c = refl
