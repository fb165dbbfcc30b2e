use Rattle.std.proofs.Common.{◌∙◌}
use Rattle.aq_office.proofs.Asked.{days_told, each_approval, each_day}
use Rattle.aq_office.proofs.days.sheet_of.Goals as goal

pub days_sheet-requires-clause-days : goal.days_sheet-requires-clause-days
days_sheet-requires-clause-days g c = each_day c.args.book.now c.args.site c.args.year c.as_slice.result.now (c.as_slice.ensures ∙ c.in_ok-days.ensures.days)

pub days_sheet-requires-clause-approved : goal.days_sheet-requires-clause-approved
days_sheet-requires-clause-approved g c = each_approval c.args.book.now c.args.site c.args.year c.as_slice-2.result.now (c.as_slice-2.ensures ∙ c.in_ok-approved.ensures.approved)

pub returns-clause-sheet : goal.returns-clause-sheet
returns-clause-sheet g c =
    days_told c.args.book.now c.args.site c.args.year c.in_ok-season.season c.as_slice.result.now c.as_slice-2.result.now c.in_ok-totals.totals c.in_ok-sheet.sheet
    c.in_ok-season.ensures.season (c.as_slice.ensures ∙ c.in_ok-days.ensures.days) (c.as_slice-2.ensures ∙ c.in_ok-approved.ensures.approved)
    c.in_ok-totals.ensures.year c.in_ok-sheet.ensures
