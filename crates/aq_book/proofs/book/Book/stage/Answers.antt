use Rattle.std.proofs.Common.{ap, sym, subst, ◌∙◌, arith}
use Rattle.aq_rules.specs.Office.Load.{reply}
use Rattle.aq_rules.specs.Office.Office.{IsOffice}
use Rattle.aq_series.specs.OfficeView.{office_of}
use Rattle.aq_book.proofs.StageLemmas.{office-is, stage-is, valid-loaded}
use Rattle.aq_book.proofs.book.Book.stage.Goals as goal

pub stage_load-requires : goal.stage_load-requires
stage_load-requires c = record { order = c.self.invariant.office.keys_rise.records }

pub returns-clause-staged : goal.returns-clause-staged
returns-clause-staged c =
    stage-is c.in_ok-staged.staged c.self.inside.registry c.self.inside.shelf c.self.inside.loads c.args.self.now c.self.view_is c.args.number c.args.digest c.args.body.now
    (c.in_ok-staged.ensures.identity ∙ c.new-identity.ensures.value)
    (c.in_ok-staged.ensures.reply ∙ ap (λ n. reply (office_of c.self.inside.registry c.self.inside.shelf) n c.args.body.now) c.new-identity.ensures.number)
    c.in_ok-staged.ensures.office c.in_ok-staged.ensures.staged_on

pub returns-clause-reply : goal.returns-clause-reply
returns-clause-reply c = (returns-clause-staged c).reply_is

pub returns-clause-office : goal.returns-clause-office
returns-clause-office c = office-is c.in_ok-staged.staged c.args.self.now c.args.number c.args.digest c.args.body.now (returns-clause-staged c)

pub returns-clause-fits : goal.returns-clause-fits
returns-clause-fits c =
    let valid = subst IsOffice c.self.view_is c.self.invariant.office in
    record {
      on = (returns-clause-staged c).on;
      valid =
          subst IsOffice (sym (returns-clause-office c))
          (valid-loaded c.args.self.now c.args.digest c.args.body.now (c.loads_leave_the_office_valid.ensures.not_kept c.args.self.now c.args.digest c.args.body.now valid) c.args.number
          (λ some new. c.loads_leave_the_office_valid.ensures.kept c.args.self.now c.args.number c.args.digest c.args.body.now valid some (omega (arith, c.ranges.number.fits)) c.digest_is_32_bytes.ensures.many c.digest_is_32_bytes.ensures.bytes c.line_count.ensures.few new)
          c.requires.number);
    }
