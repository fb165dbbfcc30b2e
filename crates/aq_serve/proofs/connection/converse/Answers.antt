use Rattle.std.proofs.Common.{[]}
use Rattle.aq_serve.proofs.Answering.{memory_turn}
use Rattle.aq_serve.proofs.connection.converse.Goals as goal

pub returns-in-Err : goal.returns-in-Err
returns-in-Err g c = memory_turn 0 [] [] (g.D.Door.seen c.args.door.now) (g.V.Service.seen c.args.service.now c.args.keeper.now) _
