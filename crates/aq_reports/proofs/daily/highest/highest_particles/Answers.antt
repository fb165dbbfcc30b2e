use Rattle.std.proofs.Common.{◌≡◌, IfOk, List, Option, length, ap, subst, ◌∙◌, arith}
use Rattle.std.specs.Prelude.{ℤ}
use Rattle.aq_base.specs.Calendar.{days_in_year}
use Rattle.aq_rules.specs.Particles.ParticleDay.{net_day}
use Rattle.aq_rules.specs.Shown.Sheet.{Sheet}
use Rattle.aq_reports.proofs.DailyLemmas.HighestDays.{highest-is}
use Rattle.aq_reports.proofs.DailyLemmas.YearDays.{as-many}
use Rattle.aq_reports.proofs.daily.highest.highest_particles.Goals as goal

pub ten_highest-requires : goal.ten_highest-requires
ten_highest-requires g c =
    let many : length c.as_slice.result.now ≡ days_in_year c.args.year =
    ap (λ (l : List (Option ℤ)). length l) (c.as_slice.ensures ∙ c.in_ok-values.ensures) ∙ as-many (net_day (g.S.Years.office c.args.source.now) c.args.site c.args.pollutant) c.args.year in
    record { in_profile = omega (arith, many, c.year_span-first.ensures.days, c.year_span-first.ensures.in_profile) }

pub returns : goal.returns
returns g c =
    subst (λ (s : Sheet). IfOk c.highest_particles_sheet.result (λ sheet. sheet ≡ s))
    (highest-is (g.S.Years.office c.args.source.now) c.args.site c.args.year c.args.pollutant c.as_slice.result.now c.year_span-first.result.0 c.year_span-first.ensures.first c.in_ok-found.found c.in_ok-found.ensures
    c.requires.particles (c.as_slice.ensures ∙ c.in_ok-values.ensures) c.deciding_rank-decides.result c.deciding_rank-decides.ensures)
    c.highest_particles_sheet.ensures
