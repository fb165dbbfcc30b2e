use Rattle.std.proofs.Common.{◌≡◌, true, false, None, refl, sym, ◌∙◌, arith}
use Rattle.std.specs.Prelude.{nat_lt}
use Rattle.std.proofs.lemmas.Bool.Decides.{nat_tests}
use Rattle.aq_design.proofs.CombinedLemmas.Spans.{joined-read, own-early, own-read}
use Rattle.aq_design.proofs.combined.either.cell_at.Goals as goal

pub returns-then-place-from : goal.returns-then-place-from
returns-then-place-from c =
    let early : nat_lt c.args.place c.args.from ≡ true = grind (arith, nat_tests, c.if-place-from.true) in
    own-early (nat_lt c.args.place c.args.from) c.args.site c.args.joined None early

pub returns-then-is_some : goal.returns-then-is_some
returns-then-is_some c =
    let late : nat_lt c.args.place c.args.from ≡ false = grind (arith, nat_tests, c.if-place-from.false) in
    joined-read (nat_lt c.args.place c.args.from) c.args.site c.args.joined c.args.joined late refl (sym c.is_some.ensures ∙ c.if-is_some.true)

pub returns-else-is_some : goal.returns-else-is_some
returns-else-is_some c =
    let late : nat_lt c.args.place c.args.from ≡ false = grind (arith, nat_tests, c.if-place-from.false) in
    own-read (nat_lt c.args.place c.args.from) c.args.site c.args.joined c.args.joined late refl (sym c.is_some.ensures ∙ c.if-is_some.false)
