use Rattle.std.proofs.Common.{◌≡◌, [], ◌∷◌, codes}
use Rattle.aq_rules.specs.Listed.Events as events
use Rattle.aq_listed.proofs.event_sheet.events_sheet.Goals as goal

pub returns : goal.returns
unfolding events.events_sheet
returns c =
    let columns : c.in_ok-columns.columns ≡ codes "event" ∷ codes "parameter" ∷ codes "first" ∷ codes "last" ∷ codes "code" ∷ codes "agreed" ∷ codes "flagged" ∷ [] = c.in_ok-columns.ensures in
    cc (c.new-2.ensures, c.in_ok-heads.ensures, c.in_ok-site.ensures, c.in_ok-text.ensures, c.site_text.ensures, c.in_ok-rows.ensures, columns)
