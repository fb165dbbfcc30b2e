use Rattle.std.proofs.Common.{refl}
use Rattle.std.specs.Fmt.{digits}
use Rattle.aq_base.specs.Calendar.{days_of_years, days_of_months, year_of, month_of}
use Rattle.aq_base.specs.Decimal.{last_digits}
use Rattle.aq_rules.specs.Lines.Canonical.{office_texts, key_texts}
use Rattle.aq_rules.specs.Lines.Spellings.{site_in, parameter_of}
use Rattle.aq_rules.specs.Lines.RdForm.{monitor_in}
use Rattle.aq_rules.specs.Lines.OfficeForms.{xm_record}
use Rattle.aq_rules.specs.Kept.Rows.{hours_before_2000, record_of_row, observation_of_row, are_office_rows}
use Rattle.aq_rules.proofs.kept.rows.observation_rows.Goals as goal

pub returns : goal.returns
unfolding digits days_of_years days_of_months year_of month_of last_digits office_texts key_texts site_in parameter_of monitor_in xm_record record_of_row observation_of_row are_office_rows hours_before_2000
returns c = record { value = refl; greatest = refl; too_great = refl; least = refl; too_small = refl; null = refl; both = refl; neither = refl; short_null = refl; small_letter = refl; ten = refl; eleven = refl; twice = refl; two_spaces = refl; method_0 = refl; last_method = refl; beyond_methods = refl; method_below_0 = refl }
