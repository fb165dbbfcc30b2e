use Rattle.aq_tables.proofs.Numbers.{number_of_itself}
use Rattle.aq_tables.proofs.number.numbers_are_those_of_their_keys.Goals as goal

pub returns : goal.returns
returns c = number_of_itself
