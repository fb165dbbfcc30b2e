use Rattle.std.proofs.Common.{refl}
use Rattle.std.specs.Fmt.{digits}
use Rattle.aq_base.specs.Calendar.{days_of_months, days_of_years, month_of, year_of}
use Rattle.aq_base.specs.Decimal.{last_digits}
use Rattle.aq_base.specs.Text.{day_text, site_text}
use Rattle.aq_rules.specs.Listed.Flags.{flags_answer, flags_sheet, listed_flags}
use Rattle.aq_rules.specs.Listed.Places.{standing_of}
use Rattle.aq_rules.specs.Ozone.OzoneYear.{days_of}
use Rattle.aq_rules.specs.Shown.Sheet.{text_of}
use Rattle.aq_rules.proofs.listed.lists.flags_of_a_year_are_listed.Goals as goal

pub returns : goal.returns
unfolding digits day_text days_of days_of_months days_of_years flags_answer flags_sheet last_digits listed_flags month_of site_text standing_of text_of year_of
returns c = record { this_year = refl; other_year = refl }
