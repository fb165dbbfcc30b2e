use Rattle.std.proofs.Common.{◌∙◌, ap, sym}
use Rattle.std.specs.BTreeMap.{is_at}
use Rattle.std.specs.Map.{lookup}
use Rattle.std.specs.Prelude.{is_some}
use Rattle.aq_ozone_cells.specs.SiteKeys.{key_cmp, site_key}
use Rattle.aq_ozone_cells.specs.declared.site_key.SiteKey.{SiteKey}
use Rattle.aq_ozone_cells.proofs.KeptDayLemmas.{no-cells}
use Rattle.aq_ozone_cells.proofs.kept_days.KeptDays.has.Goals as goal

pub returns : goal.returns
returns c none =
    let days = c.args.self.now.days.entries in
    no-cells (lookup (is_at (key_cmp (site_key c.args.site c.args.day))) days)
    (ap (λ (key : SiteKey). is_some (lookup (is_at (key_cmp key)) days)) (sym c.new.ensures) ∙ sym c.contains_key.ensures ∙ none)
