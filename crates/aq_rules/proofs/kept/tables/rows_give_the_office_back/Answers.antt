use Rattle.std.proofs.Common.{refl}
use Rattle.std.specs.Fmt.{digits}
use Rattle.aq_base.specs.Calendar.{days_of_years, days_of_months, year_of, month_of}
use Rattle.aq_base.specs.Decimal.{last_digits}
use Rattle.aq_rules.specs.Lines.Canonical.{office_texts, key_texts}
use Rattle.aq_rules.specs.Lines.OfficeForms.{xm_record, xp_record, xe_record, xc_record}
use Rattle.aq_rules.specs.Lines.RdForm.{monitor_in}
use Rattle.aq_rules.specs.Kept.Rows.{hours_before_2000, record_of_row, observation_of_row, listed_in, rest_in, load_of_row, are_office_rows, office_of_rows, damage, rows_of}
use Rattle.aq_rules.specs.Lines.Spellings.{site_in, parameter_of, date_in, time_in, event_number_in, event_code_in}
use Rattle.aq_rules.proofs.kept.tables.rows_give_the_office_back.Goals as goal

pub returns : goal.returns
unfolding days_of_years days_of_months year_of month_of last_digits digits office_texts key_texts site_in parameter_of date_in time_in event_number_in event_code_in monitor_in xm_record xp_record xe_record xc_record record_of_row observation_of_row listed_in rest_in load_of_row are_office_rows office_of_rows damage rows_of hours_before_2000
returns c = record { office = refl; undamaged = refl; nothing = refl }
