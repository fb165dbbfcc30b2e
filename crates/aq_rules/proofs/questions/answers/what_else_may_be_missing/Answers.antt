use Rattle.std.proofs.Common.{refl}
use Rattle.aq_rules.specs.Combined.Pair.{pair_value}
use Rattle.aq_rules.specs.Office.Questions.{combined}
use Rattle.aq_rules.specs.Questions.Answer.{answer}
use Rattle.aq_rules.specs.Shown.AreaSheets.{area_sites}
use Rattle.aq_rules.specs.Shown.OtherSheets.{sites_with}
use Rattle.aq_rules.proofs.questions.answers.what_else_may_be_missing.Goals as goal

pub returns : goal.returns
unfolding answer area_sites sites_with pair_value combined
returns c = record { event = refl; combination = refl; unregistered = refl; area = refl; pollutant = refl; load = λ office number none. rw none refl }
