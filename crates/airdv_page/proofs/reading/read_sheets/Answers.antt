use Rattle.std.proofs.Common.{sym, ◌∙◌, arith}
use Rattle.std.proofs.lemmas.Grind.{common_steps}
use Rattle.std.proofs.lemmas.List.{take_rest}
use Rattle.airdv_page.proofs.Sheets.{ended, one_more, refused, too_many}
use Rattle.airdv_page.proofs.reading.read_sheets.Goals as goal

pub returns-then-is_end : goal.returns-then-is_end
returns-then-is_end c =
    ended _ _ _ _ c.loop-left-test.true (sym c.is_end.ensures ∙ c.if-is_end.true) c.loop-left.invariant.same

pub returns-in_default : goal.returns-in_default
returns-in_default c =
    refused _ _ _ _ (sym c.is_end.ensures ∙ c.if-is_end.false) (sym c.in_default.is ∙ c.in_ok-count.ensures.count) c.loop-left.invariant.same

pub loop-left-preserved : goal.loop-left-preserved
loop-left-preserved c = record {
  same = one_more c.loop-left.sheets.items _ c.loop-left.left c.in-Some.count c.loop-left.rest.now _ _ c.loop-left-test.true (sym c.is_end.ensures ∙ c.if-is_end.false) (sym c.in-Some.is ∙ c.in_ok-count.ensures.count) c.in_ok-count.ensures.added (take_rest c.loop-left.rest.now c.in-Some.count) c.loop-left.invariant.same;
  few = grind (arith, common_steps);
}

pub returns : goal.returns
returns c = too_many _ _ _ _ c.loop-left-test.false c.loop-left.invariant.same
