use Rattle.std.proofs.Common.{refl}
use Rattle.std.specs.Fmt.{digits}
use Rattle.aq_base.specs.Calendar.{days_of_years, days_of_months, year_of, month_of}
use Rattle.aq_base.specs.Decimal.{last_digits}
use Rattle.aq_rules.specs.Lines.Canonical.{office_texts, key_texts}
use Rattle.aq_rules.proofs.lines.canonical.office_lines_are_written.Goals as goal

pub returns : goal.returns
unfolding office_texts digits last_digits year_of month_of days_of_years days_of_months key_texts
returns c = record { monitor = refl; eligibility = refl; primary = refl; primary_deleted = refl; schedule = refl; season = refl; makeup = refl; makeup_deleted = refl; event = refl; event_deleted = refl; concurrence = refl; approved = refl; combined = refl; combination_deleted = refl; monitor_key = refl; makeup_key = refl; event_key = refl; combined_key = refl }
