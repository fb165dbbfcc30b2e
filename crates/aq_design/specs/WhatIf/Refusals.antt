-- Why a question about assumed concurrences has no answer.
use Rattle.std.specs.Prelude.{◌≡◌, ℕ, Bool, true, false, Option, Some, None, List, codes}
use Rattle.aq_design.specs.declared.what_if.fault.WhatIfFault.{WhatIfFault}
use Rattle.aq_design.specs.declared.what_if.fault.WhatIfFault.TheVariants.{UnknownSite, UnknownEvent, Memory}

abbrev pub fault_text : WhatIfFault → List ℕ
fault_text UnknownSite = codes "no monitor of the site is registered"
fault_text (UnknownEvent number) = codes "no event has the number"
fault_text Memory = codes "memory"

-- the site is not registered; it is, and the first number that no event has is this one; memory runs out for a question that is not refused
abbrev pub IsFaultOf : Bool → Option ℕ → WhatIfFault → Type 0
IsFaultOf registered unknown UnknownSite = registered ≡ false
IsFaultOf registered unknown (UnknownEvent number) = (registered ≡ true) × (unknown ≡ Some number)
IsFaultOf registered unknown Memory = (registered ≡ true) × (unknown ≡ None)
