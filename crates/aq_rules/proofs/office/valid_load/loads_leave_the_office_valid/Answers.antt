use Rattle.aq_rules.proofs.ValidLoads.{load-valid, load-not_kept, post-valid}
use Rattle.aq_rules.proofs.office.valid_load.loads_leave_the_office_valid.Goals as goal

pub returns : goal.returns
returns c = record { kept = load-valid; not_kept = load-not_kept; posted = post-valid }
