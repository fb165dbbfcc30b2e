use Rattle.std.proofs.Common.{rules}
use Rattle.aq_http.proofs.Steps.{kept_head_gives_request}
use Rattle.aq_http.proofs.head.Head.request.Goals as goal

pub returns-clause-value : goal.returns-clause-value
returns-clause-value c = search rules

pub returns-clause-step : goal.returns-clause-step
returns-clause-step c front more e stands =
    kept_head_gives_request c.args.input.now front more c.args.self.now _ e c.whole-used.ensures.places stands c.requires
    (returns-clause-value c)
