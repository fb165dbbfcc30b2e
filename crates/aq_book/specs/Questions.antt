-- Why a question of a site has no answer, and the rows of an export and of a report.
use Rattle.std.specs.Prelude.{◌≡◌, ℕ, Bool, true, false, List, codes}
use Rattle.aq_base.specs.Site.{Site}
use Rattle.aq_base.specs.declared.shown.Shown.{Shown}
use Rattle.aq_base.specs.declared.monitor.MonitorId.{MonitorId}
use Rattle.aq_base.specs.declared.observation.Observation.{Observation}
use Rattle.aq_base.specs.declared.office.OfficeRecord.{OfficeRecord}
use Rattle.aq_base.specs.declared.standard.Standard.{Standard}
use Rattle.aq_rules.specs.DesignValues.{DesignValue as Design, design_value}
use Rattle.aq_rules.specs.Office.Exclusion.{excluded}
use Rattle.aq_rules.specs.Office.Office.{Office}
use Rattle.aq_series.specs.DayCells.{key_at}
use Rattle.aq_verdict.specs.Designs.{design_of}
use Rattle.aq_verdict.specs.declared.design_value.DesignValue.{DesignValue}
use Rattle.aq_book.specs.declared.fault.AskFault.{AskFault}
use Rattle.aq_book.specs.declared.fault.AskFault.TheVariants.{UnknownSite, Memory}

abbrev pub unknown_site_text : List ℕ
unknown_site_text = codes "no monitor of the site is registered"

abbrev pub ask_fault_text : AskFault → List ℕ
ask_fault_text UnknownSite = unknown_site_text
ask_fault_text Memory = codes "memory"

-- the site is not registered; memory runs out for one that is
abbrev pub IsAskFault : AskFault → Bool → Type 0
IsAskFault UnknownSite registered = registered ≡ false
IsAskFault Memory registered = registered ≡ true

-- an observation of a monitor, beside its hour, as an export shows it
abbrev pub shown_at : List OfficeRecord → MonitorId → ℕ × Observation → Shown
shown_at records monitor item = record {
  key = key_at monitor item.0;
  content = item.1;
  excluded = excluded records (key_at monitor item.0) item.1.quals;
}

-- a site and its design value, as the program has them and as the office gives them
abbrev pub valued_in : Site × DesignValue → Site × Design
valued_in row = (row.0, design_of row.1)

abbrev pub valued : Standard → Office → ℕ → Site → Site × Design
valued standard office year site = (site, design_value standard office site year)
