use Rattle.aq_rules.proofs.Loads.{posted-too_many, posted-same, posted-differing, posted-full, posted-taken}
use Rattle.aq_rules.proofs.office.load.answers_come_in_this_order.Goals as goal

pub returns : goal.returns
returns c = record { too_many = posted-too_many; same = posted-same; differing = posted-differing; full = posted-full; taken = posted-taken }
