use Rattle.aq_cells.proofs.SettlingCosts.{settling-costs}
use Rattle.aq_cells.proofs.laws.settling_what_waits_costs_what_the_change_costs.Goals as goal

pub returns : goal.returns
returns c old new cells days kept ozone particles start end valid after hours fine coarse held settles =
    settling-costs old new valid after cells days kept ozone particles start end hours fine coarse held settles
