use Rattle.std.proofs.Common.{refl}
use Rattle.aq_pages.specs.Kinds.{kinds}
use Rattle.aq_pages.proofs.kind.kinds.Goals as goal

pub returns : goal.returns
unfolding kinds
returns c = refl
