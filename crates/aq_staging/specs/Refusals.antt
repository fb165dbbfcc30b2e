-- Why a line is refused while a load is staged.
use Rattle.std.specs.Prelude.{◌≡◌, Option, Some, List}
use Rattle.aq_base.specs.declared.office.OfficeRecord.{OfficeRecord}
use Rattle.aq_base.specs.declared.rule.Rule.{Rule}
use Rattle.aq_base.specs.declared.rule.Rule.TheVariants as rules
use Rattle.aq_shelf.specs.declared.fault.ShelfFault.{ShelfFault}
use Rattle.aq_shelf.specs.declared.fault.ShelfFault.TheVariants as shelf
use Rattle.aq_rules.specs.Office.Office.{Office}
use Rattle.aq_staging.specs.OfficeView.{office_of}
use Rattle.aq_staging.specs.Touched.{AreTouched}
use Rattle.aq_staging.specs.declared.overlay.OverlayFault.{OverlayFault}
use Rattle.aq_staging.specs.declared.overlay.OverlayFault.TheVariants as overlay
use Rattle.aq_staging.specs.declared.staging.Refusal.{Refusal}
use Rattle.aq_staging.specs.declared.staging.Refusal.TheVariants.{Broken, Memory}
use Rattle.aq_staging.specs.declared.staging.Staging.{Staging}

-- a line is refused under its rule; want of memory has no cause that is told
abbrev pub IsRefusal : Option Rule → Refusal → Type 0
IsRefusal rule (Broken broken) = rule ≡ Some broken
IsRefusal rule Memory = Unit {0}

abbrev pub refusal_of_put : ShelfFault → Refusal
refusal_of_put shelf.AlreadyThere = Broken rules.AlreadyThere
refusal_of_put shelf.Full = Broken rules.ObservationsFull
refusal_of_put shelf.Memory = Memory

abbrev pub refusal_of_change : OverlayFault → Refusal
refusal_of_change overlay.NotThere = Broken rules.NotThere
refusal_of_change overlay.Memory = Memory

-- nothing is changed by a refused line; after want of memory nothing is said
abbrev pub IsAsBefore : Refusal → Staging → Staging → Type 0
IsAsBefore (Broken rule) old new = new ≡ old
IsAsBefore Memory old new = Unit {0}

-- the office as a load's lines leave it so far
abbrev pub office_in : Staging → Office
office_in staging = office_of staging.records.standing staging.observations.standing

-- the office before the load
abbrev pub office_before : Staging → Office
office_before staging = office_of staging.records.before staging.observations.before

-- what a line changes is noted: the touched records stay those of the load, whatever stood before it
abbrev pub AreNoted : Staging → Staging → Type 0
AreNoted old new = (before : List OfficeRecord) → AreTouched before old.records.standing old.touched → AreTouched before new.records.standing new.touched
