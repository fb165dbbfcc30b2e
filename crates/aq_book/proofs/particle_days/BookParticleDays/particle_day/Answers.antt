use Rattle.std.proofs.Common.{◌∙◌, sym}
use Rattle.aq_rules.specs.Particles.ParticleDay.{site_day}
use Rattle.aq_book.proofs.LoadlessAnswers.{pm10_day_is, pm25_day_is}
use Rattle.aq_book.proofs.KeptCells.{pm10-day-kept, pm25-day-kept}
use Rattle.aq_series.specs.OfficeView.{office_of}
use Rattle.aq_book.proofs.particle_days.BookParticleDays.particle_day.Goals as goal

pub returns-in-Pm25 : goal.returns-in-Pm25
returns-in-Pm25 c =
    c.cell.ensures
    ∙ pm25-day-kept (office_of c.self.inside.registry c.self.inside.shelf) c.self.inside.cells.pm25 c.args.site c.args.day c.self.invariant.pm25_kept
    ∙ pm25_day_is c.self.inside.registry c.self.inside.shelf c.self.inside.loads c.args.site c.args.day
    ∙ (λ i. site_day (c.self.view_is i) c.args.site (sym c.in-Pm25.is i) c.args.day)

pub returns-in-Pm10 : goal.returns-in-Pm10
returns-in-Pm10 c =
    c.cell-in-Pm10.ensures
    ∙ pm10-day-kept (office_of c.self.inside.registry c.self.inside.shelf) c.self.inside.cells.pm10 c.args.site c.args.day c.self.invariant.pm10_kept
    ∙ pm10_day_is c.self.inside.registry c.self.inside.shelf c.self.inside.loads c.args.site c.args.day
    ∙ (λ i. site_day (c.self.view_is i) c.args.site (sym c.in-Pm10.is i) c.args.day)
