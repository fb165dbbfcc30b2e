use Rattle.std.proofs.Common.{◌∙◌, Bool, ap, sym}
use Rattle.std.specs.Prelude.{Some}
use Rattle.std.proofs.lemmas.List.Folds.{list_any_at}
use Rattle.aq_ozone_cells.specs.Filling.{is_within}
use Rattle.aq_ozone_cells.specs.declared.filling.Week.{Week}
use Rattle.aq_ozone_cells.proofs.weeks.is_day_at.Goals as goal

pub returns-in-Some : goal.returns-in-Some
returns-in-Some c holds =
    let test : Week → Bool = λ week. is_within (Some week) c.args.site c.args.day c.args.day in
    let got = c.in-Some.ensures.lookup in
    list_any_at test c.args.weeks.now c.args.place c.in-Some.week.now got.3.0 (ap test (sym got.1) ∙ sym c.is_within.ensures ∙ holds)
