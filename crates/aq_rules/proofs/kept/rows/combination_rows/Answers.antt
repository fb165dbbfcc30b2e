use Rattle.std.proofs.Common.{refl}
use Rattle.std.specs.Fmt.{digits}
use Rattle.aq_base.specs.Calendar.{days_of_years, days_of_months, year_of, month_of}
use Rattle.aq_base.specs.Decimal.{last_digits}
use Rattle.aq_rules.specs.Lines.Canonical.{office_texts, key_texts}
use Rattle.aq_rules.specs.Lines.Spellings.{site_in, parameter_of, date_in}
use Rattle.aq_rules.specs.Lines.RdForm.{monitor_in}
use Rattle.aq_rules.specs.Lines.OfficeForms.{xm_record, xb_record}
use Rattle.aq_rules.specs.Kept.Rows.{record_of_row, are_office_rows}
use Rattle.aq_rules.proofs.kept.rows.combination_rows.Goals as goal

pub returns : goal.returns
unfolding digits days_of_years days_of_months year_of month_of last_digits office_texts key_texts site_in parameter_of date_in monitor_in xm_record xb_record record_of_row are_office_rows
returns c = record { combined = refl; other_line = refl; no_monitor = refl; no_joined_monitor = refl; both_ways = refl; same_site = refl }
