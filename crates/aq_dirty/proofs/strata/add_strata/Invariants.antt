use Rattle.std.proofs.Common.{◌≡◌, ◌||◌, ◌-◌, ◌≤◌, ℕ}
use Rattle.std.specs.Prelude.{Some}
use Rattle.aq_base.specs.Site.{Site}
use Rattle.aq_base.specs.declared.day.TheConstants.{LAST_DAY}
use Rattle.aq_rules.specs.Particles.Strata.{stratum_by}
use Rattle.aq_dirty.specs.ParticleReach.{covers_stratum}
use Rattle.aq_dirty.specs.Spans.{holds}
use Rattle.aq_dirty.proofs.strata.add_strata.Given as goal

-- the strata of the days so far are added, and there is room for those of the others
abbrev pub invariant-loop-number : goal.invariant-loop-number
invariant-loop-number l = record {
  low : l.fn.first ≤ l.number;
  high : l.number ≤ l.end;
  last : l.end ≡ l.fn.last;
  profile : l.end ≤ LAST_DAY;
  begun : stratum_by l.registry l.site l.number ≡ Some l.start;
  room : l.end - l.number ≤ l.strata.room;
  added : (other : Site) (n : ℕ) → holds other n l.strata.spans ≡ (holds other n l.fn.strata.spans || covers_stratum l.registry l.site l.fn.first l.number other n);
}

abbrev pub decreases-loop-number : goal.decreases-loop-number
decreases-loop-number l = l.end - l.number
