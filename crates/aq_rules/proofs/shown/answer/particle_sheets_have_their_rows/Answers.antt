use Rattle.std.proofs.Common.{refl}
use Rattle.aq_rules.specs.Particles.QuarterCounts.{pm25_year}
use Rattle.aq_rules.specs.Particles.Pm10Estimate.{pm10_year}
use Rattle.aq_rules.specs.Kept.Summaries.{pm25_summary}
use Rattle.aq_rules.specs.Shown.ParticleSheets.{pm25_sheet, pm25_answer, pm10_sheet, pm10_answer}
use Rattle.aq_rules.proofs.shown.answer.particle_sheets_have_their_rows.Goals as goal

pub returns : goal.returns
unfolding pm25_year pm25_summary pm25_sheet pm25_answer pm10_year pm10_sheet pm10_answer
returns c = record { fine = λ office site year. refl; coarse = λ office site year. refl }
