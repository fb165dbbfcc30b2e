use Rattle.std.proofs.Common.{rules, ◌≡◌, true}
use Rattle.aq_rules.specs.Office.Monitors.{is_same_site}
use Rattle.aq_listed.proofs.Carried.{adds-codes}
use Rattle.aq_listed.proofs.site_marks.add_marks.Goals as goal

pub returns : goal.returns
returns c =
    let here : is_same_site c.args.key.now.monitor.site c.args.site ≡ true = search rules in
    adds-codes c.args.site c.args.key.now c.codes.result.now c.args.quals.now c.args.marks.now.items c.add_codes.new.marks.items here c.codes.ensures.distinct c.codes.ensures.value c.in_ok-add_codes.ensures
