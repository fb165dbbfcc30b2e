-- When an office is not opened, and what that is called.
use Rattle.std.specs.Prelude.{◌≡◌, ℕ, List, Some, codes}
use Rattle.aq_base.specs.Faults.{memory_text}
use Rattle.aq_rules.specs.Kept.Rows.{Row, damage}
use Rattle.aq_rows.specs.declared.opening.OpenFault.{OpenFault}
use Rattle.aq_rows.specs.declared.opening.OpenFault.TheVariants.{Damaged, Memory}

-- the first damaged row has this place; of want of memory nothing is said
abbrev pub IsOpenFault : List Row → OpenFault → Type 0
IsOpenFault rows (Damaged place) = damage rows ≡ Some place
IsOpenFault rows Memory = Unit

abbrev pub fault_text : OpenFault → List ℕ
fault_text (Damaged place) = codes "a row is damaged"
fault_text Memory = memory_text
