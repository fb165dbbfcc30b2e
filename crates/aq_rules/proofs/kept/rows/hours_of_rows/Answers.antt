use Rattle.std.proofs.Common.{refl}
use Rattle.std.specs.Fmt.{digits}
use Rattle.aq_base.specs.Calendar.{days_of_years, days_of_months, year_of, month_of}
use Rattle.aq_base.specs.Decimal.{last_digits}
use Rattle.aq_rules.specs.Lines.Canonical.{office_texts, key_texts}
use Rattle.aq_rules.specs.Lines.Spellings.{site_in, parameter_of}
use Rattle.aq_rules.specs.Lines.RdForm.{monitor_in}
use Rattle.aq_rules.specs.Lines.OfficeForms.{xm_record}
use Rattle.aq_rules.specs.Kept.Rows.{hours_before_2000, record_of_row, observation_of_row, are_office_rows}
use Rattle.aq_rules.proofs.StoredHours.{hours_before_2000_is, stored-back}
use Rattle.aq_rules.proofs.kept.rows.hours_of_rows.Goals as goal

pub returns : goal.returns
unfolding days_of_years days_of_months hours_before_2000 digits year_of month_of last_digits office_texts key_texts site_in parameter_of monitor_in xm_record record_of_row observation_of_row are_office_rows
returns c = record { hours = hours_before_2000_is; summer = refl; start_of_2000 = refl; end_of_1999 = refl; start_of_1990 = refl; end_of_2059 = refl; back = stored-back; first = refl; before_the_first = refl; last = refl; after_the_last = refl; in_order = refl; out_of_order = refl }
