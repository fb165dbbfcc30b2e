use Rattle.std.proofs.Common.{refl}
use Rattle.std.specs.Fmt.{digits}
use Rattle.aq_base.specs.Calendar.{days_of_months, days_of_years, month_of, year_of}
use Rattle.aq_base.specs.Decimal.{last_digits}
use Rattle.aq_base.specs.Text.{day_text, site_text}
use Rattle.aq_rules.specs.Listed.Loads.{loads_answer, loads_sheet}
use Rattle.aq_rules.specs.Listed.Monitors.{listed_monitors, monitors_answer, monitors_of, monitors_sheet}
use Rattle.aq_rules.specs.Listed.Places.{standing_at}
use Rattle.aq_rules.specs.Listed.Sites.{listed_sites, monitor_count, sites_answer, sites_sheet}
use Rattle.aq_rules.specs.Shown.Sheet.{text_of}
use Rattle.aq_rules.proofs.listed.lists.sites_monitors_and_loads_are_listed.Goals as goal

pub returns : goal.returns
unfolding digits day_text days_of_months days_of_years last_digits listed_monitors listed_sites loads_answer loads_sheet monitor_count monitors_answer monitors_of monitors_sheet month_of site_text sites_answer sites_sheet standing_at text_of year_of
returns c = record { sites = refl; no_site = refl; monitors = refl; order = refl; null_code = refl; no_load = refl; load = refl }
