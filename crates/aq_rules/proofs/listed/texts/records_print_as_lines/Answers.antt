use Rattle.std.proofs.Common.{refl}
use Rattle.std.specs.Fmt.{digits}
use Rattle.aq_base.specs.Calendar.{days_of_months, days_of_years, month_of, year_of}
use Rattle.aq_base.specs.Decimal.{last_digits}
use Rattle.aq_rules.specs.Lines.Canonical.{office_texts}
use Rattle.aq_rules.specs.Listed.Records.{records_answer}
use Rattle.aq_rules.proofs.listed.texts.records_print_as_lines.Goals as goal

pub returns : goal.returns
unfolding digits days_of_months days_of_years last_digits month_of office_texts records_answer year_of
returns c = record { smoky = refl; each = refl; none = refl }
