use Rattle.std.proofs.Common.{refl}
use Rattle.std.specs.Fmt.{digits}
use Rattle.aq_base.specs.Calendar.{days_of_years, days_of_months, year_of, month_of}
use Rattle.aq_base.specs.Decimal.{last_digits}
use Rattle.aq_rules.specs.Lines.Canonical.{rd_texts}
use Rattle.aq_rules.proofs.lines.canonical.samples_are_written.Goals as goal

pub returns : goal.returns
unfolding rd_texts digits last_digits year_of month_of days_of_years days_of_months
returns c = record { inserted = refl; updated = refl; deleted = refl }
