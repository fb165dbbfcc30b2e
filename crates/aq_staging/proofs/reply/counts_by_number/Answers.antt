use Rattle.std.proofs.Common.{refl}
use Rattle.aq_staging.proofs.LoadLaws.{none_counted}
use Rattle.aq_staging.proofs.reply.counts_by_number.Goals as goal

pub loop-line-init : goal.loop-line-init
loop-line-init c = record { numbers = refl; counted = none_counted }
