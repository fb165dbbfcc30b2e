use Rattle.std.proofs.Common.{◌∙◌, sym}
use Rattle.aq_rd.proofs.FieldSteps.{dense-plain}
use Rattle.aq_rd.proofs.bytes.has_spaces.Goals as goal

pub returns-then-is_dense-clause-plain : goal.returns-then-is_dense-clause-plain
returns-then-is_dense-clause-plain c = dense-plain c.args.line.now (sym c.is_dense.ensures ∙ c.if-is_dense.true)
