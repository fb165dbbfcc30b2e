use Rattle.std.proofs.Common.{sym, ap, ◌∙◌}
use Rattle.aq_area.specs.AreaRows.{site_values}
use Rattle.aq_rules.specs.Areas.AreaValue.{AreaYear}
use Rattle.aq_rules.specs.Questions.Answer.{OfSheets}
use Rattle.aq_office.proofs.Areas.{area-in, no-site, some-site}
use Rattle.aq_office.proofs.Showing.{two-sheets}
use Rattle.aq_office.proofs.area.area_of.Goals as goal

pub years_to-requires-clause-now : goal.years_to-requires-clause-now
years_to-requires-clause-now g c =
    area-in c.args.standard c.args.book.now c.args.area.now c.args.year c.as_slice.result.now c.area_year-now.result
    (ap site_values c.as_slice.ensures ∙ c.in_ok-rows.ensures.values) c.area_year-now.ensures

pub returns-then-now-eq0-clause-answer : goal.returns-then-now-eq0-clause-answer
returns-then-now-eq0-clause-answer g c =
    no-site c.args.standard c.args.book.now c.args.area.now c.args.year c.area_year-now.result
    (area-in c.args.standard c.args.book.now c.args.area.now c.args.year c.as_slice.result.now c.area_year-now.result
    (ap site_values c.as_slice.ensures ∙ c.in_ok-rows.ensures.values) c.area_year-now.ensures)
    (ap (λ (y : AreaYear). y.sites) (sym c.now.view_is) ∙ c.if-now-eq0.true)

pub returns-clause-answer : goal.returns-clause-answer
returns-clause-answer g c =
    some-site c.args.standard c.args.book.now c.args.area.now c.args.year c.area_year-now.result
    (area-in c.args.standard c.args.book.now c.args.area.now c.args.year c.as_slice.result.now c.area_year-now.result
    (ap site_values c.as_slice.ensures ∙ c.in_ok-rows.ensures.values) c.area_year-now.ensures)
    (λ none. c.if-now-eq0.false (ap (λ (y : AreaYear). y.sites) c.now.view_is ∙ none)) c.deref.result.now c.as_slice-2.result.now c.in_ok-sheet.sheet c.in_ok-sites.sites
    (c.deref.ensures.value ∙ c.in_ok-years.ensures.years) (ap site_values c.as_slice-2.ensures ∙ c.in_ok-rows.ensures.values) c.in_ok-sheet.ensures.sheet c.in_ok-sites.ensures.sheet
    ∙ ap OfSheets (sym c.in_ok-list.ensures)

pub returns-clause-shown : goal.returns-clause-shown
returns-clause-shown g c =
    two-sheets c.in_ok-sheet.sheet c.in_ok-sites.sites c.in_ok-list.field-0 c.in_ok-list.ensures c.in_ok-sheet.ensures.well_formed c.in_ok-sites.ensures.well_formed
