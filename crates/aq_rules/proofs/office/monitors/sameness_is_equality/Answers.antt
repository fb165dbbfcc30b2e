use Rattle.aq_rules.specs.Office.Sameness.{same_site, same_pollutant, same_key, key_itself}
use Rattle.aq_rules.proofs.office.monitors.sameness_is_equality.Goals as goal

pub returns : goal.returns
returns c = record { sites = same_site; pollutants = same_pollutant; keys = same_key; key_itself = key_itself }
