use Rattle.aq_rules.proofs.Samples.{round-rd}
use Rattle.aq_rules.proofs.lines.canonical.canonical_samples_are_read_back.Goals as goal

pub returns : goal.returns
returns c value is = round-rd value is
