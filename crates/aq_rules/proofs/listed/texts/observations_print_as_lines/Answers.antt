use Rattle.std.proofs.Common.{refl}
use Rattle.std.specs.Fmt.{digits}
use Rattle.aq_base.specs.Calendar.{days_of_months, days_of_years, month_of, year_of}
use Rattle.aq_base.specs.Decimal.{last_digits}
use Rattle.aq_rules.specs.Lines.Canonical.{rd_texts}
use Rattle.aq_rules.specs.Listed.ObservationLines.{lines_answer}
use Rattle.aq_rules.specs.Listed.Places.{standing_of}
use Rattle.aq_rules.proofs.listed.texts.observations_print_as_lines.Goals as goal

pub returns : goal.returns
unfolding digits days_of_months days_of_years last_digits lines_answer month_of rd_texts standing_of year_of
returns c = record { hour = refl; days = refl; other_year = refl; other_pollutant = refl }
