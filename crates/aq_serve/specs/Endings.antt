-- What ends serving is called.
use Rattle.std.specs.Prelude.{ℕ, List, codes}
use Rattle.aq_base.specs.Faults.{memory_text}
use Rattle.aq_serve.specs.declared.ending.ServeFault.{ServeFault}
use Rattle.aq_serve.specs.declared.ending.ServeFault.TheVariants.{DoorFailed, Memory}

abbrev pub fault_text : ServeFault → List ℕ
fault_text DoorFailed = codes "door failed"
fault_text Memory = memory_text
