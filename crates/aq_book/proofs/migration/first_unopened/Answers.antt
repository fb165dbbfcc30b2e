use Rattle.std.proofs.Common.{ap, sym, ◌∙◌, arith}
use Rattle.std.specs.Prelude.{Some}
use Rattle.aq_book.proofs.MigrationLemmas.{halves-apart, halves-opened, halves-place, halves-unopened}
use Rattle.aq_book.proofs.migration.first_unopened.Goals as goal

pub loop-bad-init : goal.loop-bad-init
loop-bad-init c =
    let rows = c.args.rows.now in
    record {
      apart = halves-apart rows c.requires;
      within = omega arith;
      opened = halves-opened rows c.requires;
      unopened = halves-unopened rows c.requires;
    }

pub returns : goal.returns
returns c =
    let l = c.loop-bad in
    halves-place c.args.rows.now l.good l.bad c.index-rows-good.result l.invariant.apart c.loop-bad-test.false l.invariant.within c.index-rows-good.is l.invariant.opened l.invariant.unopened
    ∙ ap Some (sym c.place_of.ensures)
