use Rattle.std.proofs.Common.{ap, ◌∙◌}
use Rattle.aq_outside.specs.Memories.{DoorState, LineState, rooms_of}
use Rattle.aq_outside.proofs.Rooms.{rooms_stay}
use Rattle.aq_outside.proofs.memory_door.MemoryDoorDoor.finish.Goals as goal

pub returns-clause-calls : goal.returns-clause-calls
returns-clause-calls c = record {
  lists = record {
    failing_accepts = ap (λ (d : DoorState). d.failing_accepts) c.self.view_is;
    failing_transfers = ap (λ (d : DoorState). d.failing_transfers) c.self.view_is;
    rooms = rooms_stay _ _ c.index_mut.result.now c.finish.new.self c.index_mut.ensures.value (ap (λ (l : LineState). l.room) c.finish.ensures) ∙ ap rooms_of c.self.view_is;
  };
  accept_calls = ap (λ (d : DoorState). d.accept_calls) c.self.view_is;
  transfer_calls = ap (λ (d : DoorState). d.transfer_calls) c.self.view_is;
}
