use Rattle.aq_series.specs.DayStates.{site_hours}
use Rattle.aq_ozone.specs.DayHours.{span_hours}
use Rattle.aq_ozone.proofs.source.AtSiteOzoneSource.hours.Goals as goal

pub returns-clause-hours : goal.returns-clause-hours
unfolding span_hours site_hours
returns-clause-hours g c = c.site_hours.ensures.hours
