use Rattle.std.proofs.Common.{refl}
use Rattle.aq_desk.proofs.Serving.{attended_served, unopened_served, unrouted_served}
use Rattle.aq_desk.proofs.serve.serve.Goals as goal

pub returns-in_err-book : goal.returns-in_err-book
returns-in_err-book g c = record {
  served = unopened_served _ _ refl (record { port = c.args.port; connections = c.args.connections }) c.in_err-book.field-0.0 c.from_residual.result c.from_residual.ensures.1 c.in_err-book.ensures.stopped;
}

pub returns-in_err-service : goal.returns-in_err-service
returns-in_err-service g c = record {
  served = unrouted_served _ _ refl (record { port = c.args.port; connections = c.args.connections }) c.from_residual-in_err-service.result c.in_ok-book.book c.from_residual-in_err-service.ensures.1 c.in_ok-book.ensures.opened c.in_ok-book.ensures.steady;
}

pub returns : goal.returns
returns g c = record {
  served = attended_served (record { port = c.args.port; connections = c.args.connections }) c.in_ok-book.book c.in_ok-service.service c.in_ok-service.ensures _ _ _ _ _ _ c.attend.result c.in_ok-book.ensures.opened c.in_ok-book.ensures.steady c.attend.ensures;
}
