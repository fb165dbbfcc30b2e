use Rattle.std.proofs.Common.{refl}
use Rattle.std.specs.Fmt.{digits}
use Rattle.aq_base.specs.Calendar.{days_of_months, days_of_years, month_of, year_of}
use Rattle.aq_base.specs.Decimal.{last_digits}
use Rattle.aq_base.specs.Text.{day_text, hour_text, site_text}
use Rattle.aq_rules.specs.Listed.Events.{agreement_of, events_answer, events_of, events_sheet, listed_events}
use Rattle.aq_rules.specs.Shown.Sheet.{text_of}
use Rattle.aq_rules.proofs.listed.lists.events_are_listed.Goals as goal

pub returns : goal.returns
unfolding digits agreement_of day_text days_of_months days_of_years events_answer events_of events_sheet hour_text last_digits listed_events month_of site_text text_of year_of
returns c = record { agreed = refl; denied = refl; unsaid = refl; two = refl; null_code = refl; missed = refl; elsewhere = refl }
