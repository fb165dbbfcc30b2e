use Rattle.std.specs.Map.{lookup}
use Rattle.std.specs.BTreeMap.{is_at}
use Rattle.aq_agg.proofs.Exchanged.{any_order_at}
use Rattle.aq_agg.proofs.laws.bags_of_a_tally_have_no_order.Goals as goal

pub returns : goal.returns
returns g c key a b entries moved whole =
    any_order_at g.K.Ord.cmp g.A.Aggregate.is_of g.met.A.Aggregate.any_order key a b (lookup (is_at (g.K.Ord.cmp key)) entries) moved whole
