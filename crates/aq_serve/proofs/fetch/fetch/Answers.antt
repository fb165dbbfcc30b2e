use Rattle.aq_http.specs.declared.head.HeadStep.{HeadStep as ReadHead}
use Rattle.aq_serve.specs.Talking.{IsRequestBy}
use Rattle.aq_serve.proofs.Fetching.{fetched_behind}
use Rattle.aq_serve.proofs.fetch.fetch.Goals as goal

pub returns-in-Whole-clause-fetched : goal.returns-in-Whole-clause-fetched
returns-in-Whole-clause-fetched g c =
    fetched_behind {A = ReadHead} (λ step. IsRequestBy step (g.D.Door.seen c.fetch_body.new.door) c.fetch_body.new.input)
    (g.D.Door.seen c.args.door.now) (g.D.Door.seen c.fetch_head.new.door) (g.D.Door.seen c.fetch_body.new.door)
    c.args.input.now c.fetch_head.new.input c.fetch_body.new.input c.fetch_body.result
    c.in-Ok.ensures.fetched.took c.in-Ok.ensures.fetched.reads c.fetch_body.ensures.fetched
