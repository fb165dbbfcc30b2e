use Rattle.std.proofs.Common.{◌∙◌, rules, sym, tests}
use Rattle.std.specs.Prelude.{Option, is_none}
use Rattle.std.proofs.lemmas.Iterator.{YieldsList-from_slice}
use Rattle.std.proofs.lemmas.Iterator.Search.{all_from_yields_List}
use Rattle.aq_rules.specs.Ozone.SiteHour.{Cell}
use Rattle.aq_ozone_cells.proofs.filling.is_unread.Goals as goal

pub returns-clause-hours : goal.returns-clause-hours
returns-clause-hours c holds =
    sym (all_from_yields_List (λ (hour : Option Cell). is_none hour) _ _ c.all.result c.all.ensures.ran (YieldsList-from_slice c.args.hours.now cc) (λ x b q k. search (rules, tests))) ∙ holds
