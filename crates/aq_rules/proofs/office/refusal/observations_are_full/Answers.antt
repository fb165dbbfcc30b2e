use Rattle.std.proofs.Common.{◌≡◌, ℕ, ◌<◌, Bool, true, false, cond, refl, ap, ◌∙◌, Option, Some, None, arith}
use Rattle.std.specs.Prelude.{is_none, nat_le, length}
use Rattle.std.proofs.lemmas.Bool.Decides.{nat_tests}
use Rattle.aq_base.specs.declared.monitor.Duration.{Duration}
use Rattle.aq_base.specs.declared.monitor.Duration.TheVariants.{Hour, Day}
use Rattle.aq_base.specs.declared.rule.Rule.TheVariants.{UnknownMonitor, WrongDuration, AlreadyThere, ObservationsFull}
use Rattle.aq_rules.specs.Office.Office.{duration_at}
use Rattle.aq_rules.specs.Office.Refusal.{is_other_duration, sample_stands}
use Rattle.aq_rules.proofs.office.refusal.observations_are_full.Goals as goal

same_duration : (d : Duration) → is_other_duration (Some d) d ≡ false
same_duration Hour = refl
same_duration Day = refl

at : (n : ℕ) → n ≡ 4000000 → nat_le 4000000 n ≡ true
at n h = grind (arith, nat_tests, h)

below : (n : ℕ) → n < 4000000 → nat_le 4000000 n ≡ false
below n h = grind (arith, nat_tests, h)

-- a new sample of its monitor's own duration, at an hour where none stands, meets the limit alone
meets_limit : (monitor : Option Duration) (duration : Duration) (stands full : Bool) → monitor ≡ Some duration → stands ≡ false
    → cond (is_none monitor) (Some UnknownMonitor) (cond (is_other_duration monitor duration) (Some WrongDuration) (cond stands (Some AlreadyThere) (cond full (Some ObservationsFull) None)))
    ≡ cond full (Some ObservationsFull) None
meets_limit monitor duration stands full registered absent =
    ap (λ o. cond (is_none o) (Some UnknownMonitor) (cond (is_other_duration o duration) (Some WrongDuration) (cond stands (Some AlreadyThere) (cond full (Some ObservationsFull) None)))) registered
    ∙ ap (λ b. cond b (Some WrongDuration) (cond stands (Some AlreadyThere) (cond full (Some ObservationsFull) None))) (same_duration duration)
    ∙ ap (λ b. cond b (Some AlreadyThere) (cond full (Some ObservationsFull) None)) absent

pub returns-clause-full : goal.returns-clause-full
returns-clause-full c office monitor duration hour content registered absent full =
    meets_limit (duration_at office monitor) duration (sample_stands office monitor hour) (nat_le 4000000 (length office.observations)) registered absent
    ∙ ap (λ b. cond b (Some ObservationsFull) None) (at (length office.observations) full)

pub returns-clause-room : goal.returns-clause-room
returns-clause-room c office monitor duration hour content registered absent few =
    meets_limit (duration_at office monitor) duration (sample_stands office monitor hour) (nat_le 4000000 (length office.observations)) registered absent
    ∙ ap (λ b. cond b (Some ObservationsFull) None) (below (length office.observations) few)
