-- What the shelf's refusals are called.
use Rattle.std.specs.Prelude.{ℕ, List, codes}
use Rattle.aq_shelf.specs.declared.fault.ShelfFault.{ShelfFault}
use Rattle.aq_shelf.specs.declared.fault.ShelfFault.TheVariants.{AlreadyThere, Full, Memory}

abbrev pub fault_text : ShelfFault → List ℕ
fault_text AlreadyThere = codes "an observation stands at the key"
fault_text Full = codes "the shelf is full"
fault_text Memory = codes "memory"

abbrev pub not_there_text : List ℕ
not_there_text = codes "no observation stands at the key"
