use Rattle.std.proofs.Common.{◌≡◌, ◌-◌, ◌<◌, ◌≤◌, ℕ, false}
use Rattle.aq_base.specs.declared.monitor.Pollutant.TheVariants.{Pm10}
use Rattle.aq_rules.specs.Office.Schedule.{is_scheduled}
use Rattle.aq_particle_cells.proofs.pm10.strata.stratum_end.Given as goal

-- no day behind the first, up to the end, is scheduled
abbrev pub invariant-loop-end : goal.invariant-loop-end
invariant-loop-end l = record {
  some : l.fn.first < l.end;
  within : l.end ≤ l.most;
  none : (d : ℕ) → l.fn.first < d → d < l.end → is_scheduled l.registry l.site Pm10 d ≡ false;
}

abbrev pub decreases-loop-end : goal.decreases-loop-end
decreases-loop-end l = l.most - l.end
