use Rattle.std.proofs.Common.{map, ap, ◌∙◌}
use Rattle.aq_book.specs.Questions.{valued_in}
use Rattle.aq_office.proofs.Asked.{report_told}
use Rattle.aq_office.proofs.sheets.report_sheet_of.Goals as goal

pub returns : goal.returns
returns g c =
    report_told c.args.book.now c.args.standard c.args.year c.as_slice.result.now c.report_sheet.result
    (ap (map valued_in) c.as_slice.ensures ∙ c.in_ok-values.ensures.values) c.report_sheet.ensures
