use Rattle.std.proofs.Common.{refl}
use Rattle.std.specs.Fmt.{digits}
use Rattle.aq_base.specs.Calendar.{days_of_years, days_of_months, year_of, month_of}
use Rattle.aq_base.specs.Decimal.{last_digits}
use Rattle.aq_rules.specs.Lines.Canonical.{office_texts, key_texts}
use Rattle.aq_rules.specs.Lines.Spellings.{site_in, parameter_of, date_in, time_in, event_number_in, event_code_in}
use Rattle.aq_rules.specs.Lines.RdForm.{monitor_in}
use Rattle.aq_rules.specs.Lines.OfficeForms.{xm_record, xe_record, xc_record}
use Rattle.aq_rules.specs.Kept.Rows.{record_of_row, are_office_rows}
use Rattle.aq_rules.proofs.kept.rows.record_rows.Goals as goal

pub returns : goal.returns
unfolding digits days_of_years days_of_months year_of month_of last_digits office_texts key_texts site_in parameter_of date_in time_in event_number_in event_code_in monitor_in xm_record xe_record xc_record record_of_row are_office_rows
returns c = record { monitor = refl; kind = refl; key = refl; another_key = refl; zeros = refl; spaces = refl; update = refl; hours_of_a_day = refl; event = refl; three_digits = refl; no_event = refl; no_monitor = refl; twice = refl; concurrence = refl }
