use Rattle.std.proofs.Common.{◌≡◌, ◌<◌, ◌≤◌, ℕ, false}
use Rattle.aq_base.specs.declared.day.TheConstants.{LAST_DAY}
use Rattle.aq_base.specs.declared.monitor.Pollutant.TheVariants.{Pm10}
use Rattle.aq_rules.specs.Office.Schedule.{is_scheduled}
use Rattle.aq_dirty.proofs.strata.stratum_first.Given as goal

-- no day behind the start, up to the day, is scheduled
abbrev pub invariant-loop-start : goal.invariant-loop-start
invariant-loop-start l = record {
  low : l.opens ≤ l.start;
  high : l.start ≤ l.day;
  profile : l.start ≤ LAST_DAY;
  none : (d : ℕ) → l.start < d → d ≤ l.day → is_scheduled l.registry l.site Pm10 d ≡ false;
}

abbrev pub decreases-loop-start : goal.decreases-loop-start
decreases-loop-start l = l.start
