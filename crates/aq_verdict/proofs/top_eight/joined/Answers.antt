use Rattle.aq_verdict.proofs.Lists.{joined-eight}
use Rattle.aq_verdict.proofs.top_eight.joined.Goals as goal

pub returns : goal.returns
returns c =
    rw (c.higher.ensures, c.higher-2.ensures, c.higher-3.ensures, c.higher-4.ensures, c.higher-5.ensures, c.higher-6.ensures, c.higher-7.ensures, c.higher-8.ensures)
    (rw (c.lower.ensures, c.lower-2.ensures, c.lower-3.ensures, c.lower-4.ensures, c.lower-5.ensures, c.lower-6.ensures, c.lower-7.ensures)
    (joined-eight c.args.value c.args.places.now _ _ _ _ _ _ _ _ c.told-places))
