use Rattle.aq_rules.specs.Office.Unagreed.{excluded-unagreed}
use Rattle.std.proofs.Common.{refl}
use Rattle.aq_base.specs.Calendar.{days_of_years, days_of_months}
use Rattle.aq_rules.specs.Office.Exclusion.{excluded}
use Rattle.aq_rules.proofs.office.exclusion.exclusion_needs_an_event_and_its_concurrence.Goals as goal

pub returns : goal.returns
unfolding days_of_years days_of_months excluded
returns c = record { exclusion_needs_a_concurrence = excluded-unagreed; first = refl; last = refl; later = refl; without_code = refl; other_number = refl; disagreed = refl; exclusion_needs_a_code_from_ra_to_rz = refl }
