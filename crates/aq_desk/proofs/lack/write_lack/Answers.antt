use Rattle.std.proofs.Common.{sym, ap, ◌∙◌}
use Rattle.aq_office.specs.Answers.{lack_of}
use Rattle.aq_office.specs.declared.answers.Lack.{Lack}
use Rattle.aq_desk.specs.Ask.{lacking}
use Rattle.aq_desk.proofs.Telling.{area_message, writes_same}
use Rattle.aq_desk.proofs.lack.write_lack.Goals as goal

pub returns-in-NoSiteInArea : goal.returns-in-NoSiteInArea
returns-in-NoSiteInArea g c =
    writes_same _ _ _ _ c.write_all.result (area_message ∙ ap (λ (l : Lack). (lacking (lack_of l)).message) (sym c.in-NoSiteInArea.is)) c.write_all.ensures
