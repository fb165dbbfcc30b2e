use Rattle.std.proofs.Common.{refl}
use Rattle.std.specs.Fmt.{digits}
use Rattle.aq_base.specs.Calendar.{days_of_years, days_of_months, year_of, month_of}
use Rattle.aq_base.specs.Decimal.{last_digits}
use Rattle.aq_rules.specs.Lines.Canonical.{office_texts, key_texts}
use Rattle.aq_rules.specs.Lines.OfficeForms.{xm_record}
use Rattle.aq_rules.specs.Lines.RdForm.{monitor_in}
use Rattle.aq_rules.specs.Lines.Spellings.{site_in, parameter_of}
use Rattle.aq_rules.specs.Kept.Rows.{hours_before_2000, record_of_row, observation_of_row, listed_in, rest_in, load_of_row, are_office_rows}
use Rattle.aq_rules.specs.Kept.Migration.{migrated, are_version_1, can_be_opened, opening_damage}
use Rattle.aq_rules.proofs.kept.migration.old_tables_and_damaged_ones.Goals as goal

pub returns : goal.returns
unfolding days_of_years days_of_months year_of month_of last_digits digits office_texts key_texts site_in parameter_of monitor_in xm_record record_of_row observation_of_row listed_in rest_in load_of_row are_office_rows hours_before_2000 migrated are_version_1 can_be_opened opening_damage
returns c = record { old = refl; new = refl; nothing = refl; undamaged = refl; no_rows = refl; both_tables = refl; one_key = refl; no_monitor = refl; twice = refl; load_first = refl }
