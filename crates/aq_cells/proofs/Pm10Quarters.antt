-- A quarter of PM10 that reads no changed schedule: its days count in the new office as they are kept.
use Rattle.std.proofs.Common.{ℕ, ◌<◌, cond, ap, ◌∙◌}
use Rattle.std.specs.Prelude.{None}
use Rattle.aq_base.specs.Site.{Site}
use Rattle.aq_base.specs.declared.monitor.Pollutant.TheVariants.{Pm10}
use Rattle.aq_rules.specs.Kept.Cells.{QuarterCell}
use Rattle.aq_rules.specs.Office.Office.{IsOffice, Office}
use Rattle.aq_particle_cells.specs.Days.KeptDays.{cell_at}
use Rattle.aq_particle_cells.specs.Pm10.Pm10Cells.{scheduled_sample, Pm10Kept}
use Rattle.aq_particle_cells.specs.Pm10.Pm10Levels.{AreKept, IsCellOf}
use Rattle.aq_cells.specs.Allowed.{allowed, ReadsNoSchedule}
use Rattle.aq_cells.proofs.QuarterDays.{few-unread, pm10-scheduled}

pub quarter-counts : (old new : Office) (kept : Pm10Kept) (site : Site) (quarter : ℕ) → IsOffice old → IsOffice new → AreKept old kept → ReadsNoSchedule old new site Pm10 quarter
    → IsCellOf new kept (QuarterCell site Pm10 quarter)
unfolding AreKept IsCellOf scheduled_sample
quarter-counts old new kept site quarter valid after all unread day within its =
    (all site day).counts within
    ∙ ap (λ b. cond b (cell_at kept.days site day) None) (pm10-scheduled old new valid after site quarter unread day within its)

pub quarter-enough : (old new : Office) (kept : Pm10Kept) (site : Site) (quarter : ℕ) → IsOffice old → IsOffice new → AreKept old kept
    → allowed old new (QuarterCell site Pm10 quarter) < 800 → IsCellOf new kept (QuarterCell site Pm10 quarter)
quarter-enough old new kept site quarter valid after all few = quarter-counts old new kept site quarter valid after all (few-unread old new site Pm10 quarter few)
