use Rattle.aq_desk.specs.declared.stop.Stop.TheVariants.{InputFailed, OutputFailed, KeeperFailed, DoorFailed, Memory, TooManyBytes, LoadsFull}
use Rattle.aq_desk.proofs.Telling.{bytes_message, door_message, full_message, input_message, keeper_message, memory_message, output_message, writes_at}
use Rattle.aq_desk.proofs.stop.Stop.write.Goals as goal

pub returns-in-InputFailed : goal.returns-in-InputFailed
returns-in-InputFailed g c = writes_at _ _ InputFailed _ _ c.write_all.result c.in-InputFailed.is input_message c.write_all.ensures

pub returns-in-OutputFailed : goal.returns-in-OutputFailed
returns-in-OutputFailed g c = writes_at _ _ OutputFailed _ _ c.write_all-in-OutputFailed.result c.in-OutputFailed.is output_message c.write_all-in-OutputFailed.ensures

pub returns-in-KeeperFailed : goal.returns-in-KeeperFailed
returns-in-KeeperFailed g c = writes_at _ _ KeeperFailed _ _ c.write_all-in-KeeperFailed.result c.in-KeeperFailed.is keeper_message c.write_all-in-KeeperFailed.ensures

pub returns-in-DoorFailed : goal.returns-in-DoorFailed
returns-in-DoorFailed g c = writes_at _ _ DoorFailed _ _ c.write_all-in-DoorFailed.result c.in-DoorFailed.is door_message c.write_all-in-DoorFailed.ensures

pub returns-in-Memory : goal.returns-in-Memory
returns-in-Memory g c = writes_at _ _ Memory _ _ c.write_all-in-Memory.result c.in-Memory.is memory_message c.write_all-in-Memory.ensures

pub returns-in-TooManyBytes : goal.returns-in-TooManyBytes
returns-in-TooManyBytes g c = writes_at _ _ TooManyBytes _ _ c.write_all-in-TooManyBytes.result c.in-TooManyBytes.is bytes_message c.write_all-in-TooManyBytes.ensures

pub returns-in-LoadsFull : goal.returns-in-LoadsFull
returns-in-LoadsFull g c = writes_at _ _ LoadsFull _ _ c.write_all-in-LoadsFull.result c.in-LoadsFull.is full_message c.write_all-in-LoadsFull.ensures
