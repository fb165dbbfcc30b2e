use Rattle.std.proofs.Common.{refl, arith}
use Rattle.aq_book.proofs.book.Book.design_value.Goals as goal

pub returns-clause-steps : goal.returns-clause-steps
returns-clause-steps g c = omega (arith, c.design_value.ensures.kept refl)
