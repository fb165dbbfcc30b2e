-- What a span of the shelf is in an office: what stands of the monitor, each with its hour.
use Rattle.std.proofs.Common.{◌≡◌, ℕ, ◌+◌, ◌≤◌, Bool, true, false, cond, ◌&&◌, List, [], ◌∷◌, map, refl, ap, ◌∙◌, arith}
use Rattle.std.specs.Prelude.{filter, nat_le, nat_lt}
use Rattle.std.specs.List.{AllByRecursion}
use Rattle.std.proofs.lemmas.Bool.Decides.{nat_tests}
use Rattle.aq_base.specs.declared.day.TheConstants.{LAST_HOUR}
use Rattle.aq_base.specs.declared.monitor.MonitorId.{MonitorId}
use Rattle.aq_base.specs.declared.observation.ObsKey.{ObsKey}
use Rattle.aq_base.specs.declared.observation.Observation.{Observation}
use Rattle.aq_rules.specs.Office.Monitors.{is_same_monitor}
use Rattle.aq_rules.specs.Office.Office.{Office}
use Rattle.aq_rules.specs.Listed.Places.{is_of_monitor, standing_at}
use Rattle.aq_shelf.specs.Standing.{IsShelf, IsStanding, hour_content, in_span, observations_in}

module _ (monitor : MonitorId) where
  within : (hour : ℕ) → hour ≤ LAST_HOUR → (nat_le 0 hour && nat_lt hour (0 + (LAST_HOUR + 1))) ≡ true
  within hour last = grind (arith, nat_tests)

  all_hours : (rows : List (ObsKey × Observation)) → AllByRecursion IsStanding rows → filter (in_span monitor 0 (LAST_HOUR + 1)) rows ≡ filter (is_of_monitor monitor) rows
  all_hours [] standing = refl
  all_hours (row ∷ rows) standing = choose (is_same_monitor row.0.monitor monitor) (all_hours rows standing.1)
    where
      choose : (b : Bool) → filter (in_span monitor 0 (LAST_HOUR + 1)) rows ≡ filter (is_of_monitor monitor) rows
          → cond (b && nat_le 0 row.0.hour && nat_lt row.0.hour (0 + (LAST_HOUR + 1))) (row ∷ filter (in_span monitor 0 (LAST_HOUR + 1)) rows) (filter (in_span monitor 0 (LAST_HOUR + 1)) rows)
          ≡ cond b (row ∷ filter (is_of_monitor monitor) rows) (filter (is_of_monitor monitor) rows)
      choose true rest =
          ap (λ b. cond b (row ∷ filter (in_span monitor 0 (LAST_HOUR + 1)) rows) (filter (in_span monitor 0 (LAST_HOUR + 1)) rows)) (within row.0.hour standing.0.0)
          ∙ ap (λ (l : List (ObsKey × Observation)). row ∷ l) rest
      choose false rest = rest

-- over all hours of the profile it is all that stands
pub span_all : (office : Office) (monitor : MonitorId) → IsShelf office.observations → observations_in monitor 0 (LAST_HOUR + 1) office.observations ≡ map hour_content (standing_at office monitor)
unfolding standing_at
span_all office monitor shelf = ap (map hour_content) (all_hours monitor office.observations shelf.standing)
