use Rattle.std.proofs.Common.{inr}
use Rattle.std.proofs.lemmas.Result.{IfErr-weaker}
use Rattle.aq_tables.proofs.preparing.see_tables.Goals as goal

pub returns-clause-refused : goal.returns-clause-refused
returns-clause-refused g c = IfErr-weaker c.missing_of.result _ _ (λ error why. inr why) (rw c.schema.ensures.value at c.missing_of.ensures.refused)
