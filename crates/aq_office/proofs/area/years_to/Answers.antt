use Rattle.std.proofs.Common.{◌+◌, ◌-◌, ◌++◌, List, length, map, ap, ◌∙◌, arith}
use Rattle.std.specs.List.{range_with_len}
use Rattle.std.proofs.lemmas.List.FromFn.{length-map-range_with_len}
use Rattle.aq_area.specs.AreaRows.{site_values}
use Rattle.aq_rules.specs.Areas.AreaValue.{AreaYear}
use Rattle.aq_rules.specs.Shown.AreaSheets.{area_in, first_end_year}
use Rattle.aq_office.proofs.Areas.{area-in, design-year, years-end, years-last, years-step}
use Rattle.aq_office.proofs.area.years_to.Goals as goal

pub loop-end_year-preserved : goal.loop-end_year-preserved
loop-end_year-preserved g c =
    let in_year = area_in c.args.standard c.args.book.now c.args.area.now in
    let year = c.loop-end_year.end_year in
    let left = map in_year (range_with_len (year + 1) (c.args.year - (year + 1))) in
    let now = area-in c.args.standard c.args.book.now c.args.area.now year c.as_slice.result.now c.area_year.result (ap site_values c.as_slice.ensures ∙ c.in_ok-rows.ensures.values) c.area_year.ensures in
    ap (λ (years : List AreaYear). years ++ left) c.in_ok-push.ensures.items
    ∙ years-step in_year c.loop-end_year.years.items c.area_year.result year c.args.year c.loop-end_year-test.true now
    ∙ c.loop-end_year.invariant

pub returns-clause-years : goal.returns-clause-years
returns-clause-years g c =
    let in_year = area_in c.args.standard c.args.book.now c.args.area.now in
    let before = years-end in_year c.loop-end_year.years.items first_end_year c.loop-end_year.end_year c.args.year (omega (arith, c.loop-end_year-test.false)) c.loop-end_year.invariant in
    c.in_ok-push-2.ensures.items
    ∙ years-last in_year c.loop-end_year.years.items c.args.now.now first_end_year c.args.year (design-year c.args.year c.requires.year).0 before c.requires.now

pub returns-clause-few : goal.returns-clause-few
returns-clause-few g c =
    let many = length-map-range_with_len (area_in c.args.standard c.args.book.now c.args.area.now) first_end_year (c.args.year + 1 - first_end_year) in
    let same = ap (λ (years : List AreaYear). length years) (returns-clause-years g c) in
    omega (arith, same, many, (design-year c.args.year c.requires.year).1)
