use Rattle.std.proofs.Common.{List, ap, ◌∙◌}
use Rattle.aq_rules.specs.Office.Office.{StoredLoad, load_rank, with_row}
use Rattle.aq_rows.specs.KeptLoads.{stored_as, stored_in}
use Rattle.aq_rows.proofs.LoadMap.{put_in}
use Rattle.aq_rows.proofs.kept_loads.Loads.put.Goals as goal

pub returns-clause-ok : goal.returns-clause-ok
returns-clause-ok c =
    ap stored_in c.in_ok-insert.ensures.entries
    ∙ put_in c.args.number (record { digest = c.args.digest; reply = c.args.reply }) c.self.inside.by_number.entries
    ∙ ap (λ (loads : List StoredLoad). with_row load_rank (stored_as c.args.number c.args.digest c.args.reply) loads) c.self.view_is
