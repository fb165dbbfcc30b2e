-- The records while a load is staged.
use Rattle.std.specs.Prelude.{◌≡◌, Option, Some, List}
use Rattle.aq_base.specs.declared.office.OfficeRecord.{OfficeRecord}
use Rattle.aq_base.specs.declared.rule.Rule.{Rule}
use Rattle.aq_registry.specs.declared.changes.RegistryFault.{RegistryFault}
use Rattle.aq_registry.specs.declared.changes.RegistryFault.TheVariants.{Broken, Memory}

-- those before the load, and those that stand so far
pub record Copied : Type 0 where
  pub before : List OfficeRecord
  pub standing : List OfficeRecord

-- the rule that the line breaks, or want of memory, also for the copy
abbrev pub IsCopyFault : Option Rule → RegistryFault → Type 0
IsCopyFault broken (Broken rule) = broken ≡ Some rule
IsCopyFault broken Memory = Unit {0}
