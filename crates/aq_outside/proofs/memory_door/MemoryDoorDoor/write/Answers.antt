use Rattle.std.proofs.Common.{ap, ◌∙◌}
use Rattle.aq_outside.specs.Memories.{DoorState, LineState, rooms_of}
use Rattle.aq_outside.proofs.Rooms.{rooms_stay}
use Rattle.aq_outside.proofs.memory_door.MemoryDoorDoor.write.Goals as goal

pub returns-clause-calls : goal.returns-clause-calls
returns-clause-calls c =
    let same = c.self.view_is ∙ c.fails_to_transfer-fails.ensures.state in
    record {
      lists = record {
        failing_accepts = ap (λ (d : DoorState). d.failing_accepts) same;
        failing_transfers = ap (λ (d : DoorState). d.failing_transfers) same;
        rooms = rooms_stay _ _ c.index_mut.result.now c.write.new.self c.index_mut.ensures.value (ap (λ (l : LineState). l.room) c.write.ensures) ∙ ap rooms_of same;
      };
      accept_calls = ap (λ (d : DoorState). d.accept_calls) same;
      transfer_calls = ap (λ (d : DoorState). d.transfer_calls) same;
    }
