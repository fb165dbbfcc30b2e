use Rattle.std.proofs.Common.{sym, ap, subst, ◌∙◌, arith}
use Rattle.aq_rules.proofs.ValidReplies.{reply-is}
use Rattle.aq_rules.specs.Office.Load.{reply}
use Rattle.aq_rules.specs.Shown.Sheets.{load_sheet}
use Rattle.aq_rules.specs.Shown.WellFormed.{IsWellFormed}
use Rattle.aq_office.proofs.Taking.{in_order, rows_after}
use Rattle.aq_office.proofs.posting.made_ready.Goals as goal

pub returns : goal.returns
returns c =
    let batch_is = c.in_ok-batch.ensures c.args.number c.args.digest c.args.body.now c.in_ok-staged.ensures.staged in
    let sheet_is = c.in_ok-sheet.ensures ∙ ap load_sheet (c.reply.ensures ∙ c.in_ok-staged.ensures.reply) in
    record {
      fits = c.in_ok-staged.ensures.fits;
      office_is = c.in_ok-staged.ensures.office;
      in_order = in_order _ _ batch_is (c.batch_is_in_order.ensures.order c.args.book.now c.args.number c.args.digest c.args.body.now c.requires.valid);
      gives = rows_after c.args.book.now c.args.number c.args.digest c.args.body.now _ batch_is (c.batch_gives_the_rows_after.ensures c.args.book.now c.args.number c.args.digest c.args.body.now c.requires.valid);
      sheet_is = sheet_is;
      shown =
          subst IsWellFormed (sym sheet_is)
          (c.other_sheets_are_well_formed.ensures.load (reply c.args.book.now c.args.number c.args.body.now) (reply-is c.args.book.now c.args.number c.args.body.now c.line_count.ensures.few) (omega arith));
    }
