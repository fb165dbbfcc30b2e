use Rattle.std.proofs.Common.{◌≡◌, ◌+◌, ◌-◌, Bool, ℕ, suc, List, refl, ap, sym, subst, ◌∙◌, arith}
use Rattle.std.specs.List.{range_with_len}
use Rattle.std.proofs.lemmas.List.{append-nil}
use Rattle.aq_base.specs.declared.monitor.Pollutant.TheVariants.{Pm10}
use Rattle.aq_rules.specs.Listed.Daily.{pm10_day_cells}
use Rattle.aq_rules.specs.Office.Office.{Office}
use Rattle.aq_rules.specs.Office.Schedule.{is_scheduled}
use Rattle.aq_rules.specs.Particles.ParticleDay.{site_day}
use Rattle.aq_rules.specs.Particles.Strata.{first_days_among}
use Rattle.aq_reports.specs.Daily.DayRows.{pm10_row_among}
use Rattle.aq_reports.specs.Daily.StrataBegun.{with_day}
use Rattle.aq_reports.proofs.DailyLemmas.StrataPlaces.{StandsAt, all-starts, one-more-at-most, place-is, stands-first, stands-next}
use Rattle.aq_reports.proofs.DailyLemmas.Walks.{more-rows}
use Rattle.aq_reports.proofs.daily.pm10_sheet.add_days.Goals as goal

pub loop-place-init : goal.loop-place-init
loop-place-init g c =
    let asks : ℕ → Bool = is_scheduled (g.S.Years.office c.args.source.now).records c.args.site Pm10 in
    let days : List ℕ = range_with_len c.args.first c.args.days in
    let here : c.args.first ≡ c.args.first + 0 = omega arith in
    let all : c.args.days ≡ c.args.days - 0 = omega arith in
    record {
      few = omega arith;
      strata =
          subst (λ (a : ℕ). StandsAt asks (first_days_among asks days) a (c.args.days - 0) (record { strata = 0; end = c.number.result })) here
          (subst (λ (n : ℕ). StandsAt asks (first_days_among asks days) c.args.first n (record { strata = 0; end = c.number.result })) all
          (stands-first asks (first_days_among asks days) c.args.first c.args.days (record { strata = 0; end = c.number.result }) refl c.number.ensures.value (sym (all-starts asks c.args.first c.args.days))));
      so_far = sym (append-nil c.args.rows.now);
    }

pub loop-place-preserved : goal.loop-place-preserved
loop-place-preserved g c =
    let office : Office = g.S.Years.office c.args.source.now in
    let asks : ℕ → Bool = is_scheduled (g.S.Years.office c.args.source.now).records c.args.site Pm10 in
    let days : List ℕ = range_with_len c.args.first c.args.days in
    let starts : List ℕ = first_days_among asks days in
    let day : ℕ = c.args.first + c.loop-place.place in
    let left : ℕ = c.args.days - (c.loop-place.place + 1) in
    let day-is : c.new-day.result ≡ day = omega (arith, c.new-day.ensures, c.number-in-loop-place.ensures.value, c.from.ensures) in
    let number-is : c.number-in-loop-place-2.result ≡ day = c.number-in-loop-place-2.ensures.value ∙ day-is in
    let scheduled : c.is_scheduled-scheduled.result ≡ asks day = c.is_scheduled-scheduled.ensures ∙ (λ i. is_scheduled (c.records.ensures i) c.args.site Pm10 (day-is i)) in
    let begun-is : c.with_day-begun.result ≡ with_day (asks day) day c.loop-place.begun = c.with_day-begun.ensures ∙ (λ i. with_day (scheduled i) (number-is i) c.loop-place.begun) in
    let one-left : c.args.days - c.loop-place.place ≡ suc left = omega (arith, c.loop-place-test.true) in
    let before : StandsAt asks starts day (suc left) c.loop-place.begun = subst (λ (n : ℕ). StandsAt asks starts day n c.loop-place.begun) one-left c.loop-place.invariant.strata in
    let after : StandsAt asks starts (day + 1) left c.with_day-begun.result = subst (λ b. StandsAt asks starts (day + 1) left b) (sym begun-is) (stands-next asks starts day left c.loop-place.begun before) in
    let next : day + 1 ≡ c.args.first + (c.loop-place.place + 1) = omega arith in
    record {
      few = omega (arith, one-more-at-most (asks day) day c.loop-place.begun, ap (λ b. b.strata) begun-is, c.loop-place.invariant.few);
      strata = subst (λ (a : ℕ). StandsAt asks starts a left c.with_day-begun.result) next after;
      so_far =
          more-rows (pm10_row_among office c.args.site days) c.args.first c.loop-place.place c.args.rows.now c.loop-place.rows c.push.new.self day c.in_ok-pm10_day_cells.field-0 refl c.loop-place.invariant.so_far c.in_ok-push.ensures.ok
          (c.in_ok-pm10_day_cells.ensures
          ∙ (λ i. pm10_day_cells (record {
            day = day-is i;
            scheduled = scheduled i;
            stratum = place-is asks starts day left c.with_day-begun.result after i;
            sample = (c.particle_day.ensures ∙ ap (site_day office c.args.site Pm10) day-is) i;
          })));
    }
