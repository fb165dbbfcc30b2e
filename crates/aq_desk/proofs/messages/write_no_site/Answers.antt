use Rattle.aq_desk.proofs.Telling.{site_message, writes_same}
use Rattle.aq_desk.proofs.messages.write_no_site.Goals as goal

pub returns : goal.returns
returns g c = writes_same _ _ _ _ c.write_site.result (site_message c.args.site) c.write_site.ensures
