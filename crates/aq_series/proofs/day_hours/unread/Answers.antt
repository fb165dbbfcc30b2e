use Rattle.std.proofs.Common.{None, false, refl, sym, subst, arith}
use Rattle.std.proofs.lemmas.List.{get_or-replicate}
use Rattle.aq_series.specs.DayStates.{IsUnread}
use Rattle.aq_series.specs.declared.day_hours.HourState.{HourState}
use Rattle.aq_series.proofs.day_hours.unread.Goals as goal

pub loop-i-init : goal.loop-i-init
loop-i-init c =
    let none : HourState = record { values = c.new.result; primary = None; is_settled = false } in
    record {
      many = refl;
      unread =
          λ k d within.
          subst (λ (state : HourState). IsUnread state.primary state) (sym (get_or-replicate 192 k none d within))
          (record { primary_is = refl; unsettled = refl; tally = c.new.ensures.tally; eight = c.new.ensures.values });
      primaries = λ k d within. absurd (omega (arith, within));
    }
