use Rattle.std.proofs.Common.{None, refl, sym, subst, arith}
use Rattle.std.proofs.lemmas.List.{get_or-replicate}
use Rattle.aq_series.specs.DaySums.{IsNew}
use Rattle.aq_series.specs.declared.site_spans.DayState.{DayState}
use Rattle.aq_series.proofs.site_spans.new_states.Goals as goal

pub loop-i-init : goal.loop-i-init
loop-i-init c =
    let none : DayState = record { primary = None; own = None; others = c.new.result } in
    record {
      many = refl;
      primaries = λ k d within. absurd (omega (arith, within));
      states = λ k d within. subst IsNew (sym (get_or-replicate 92 k none d within)) (record { own = refl; tally = c.new.ensures.tally; values = c.new.ensures.values });
    }
