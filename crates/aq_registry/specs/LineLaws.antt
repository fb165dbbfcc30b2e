-- Lemmas, no definition: an office line reads the records of an office alone, and changes them alone.
use Rattle.std.specs.Prelude.{◌≡◌, refl}
use Rattle.aq_base.specs.declared.office.OfficeRecord.TheVariants.{Monitor, Primary, Schedule, Season, Makeup, Event, Concurrence, Approved, Combined}
use Rattle.aq_base.specs.declared.office.OfficeKey.TheVariants.{Monitor as MonitorKey, Event as EventKey, Concurrence as ConcurrenceKey}
use Rattle.aq_base.specs.declared.office.OfficeLine.{OfficeLine}
use Rattle.aq_base.specs.declared.office.OfficeLine.TheVariants.{Put, Change, Drop}
use Rattle.aq_rules.specs.Lines.Reading.{OfOffice}
use Rattle.aq_rules.specs.Office.Office.{Office}
use Rattle.aq_rules.specs.Office.Load.{changed}
use Rattle.aq_rules.specs.Office.Refusal.{broken}
use Rattle.aq_registry.specs.Registry.{office_with}

pub broken_by_records : (office : Office) (line : OfficeLine) → broken office (OfOffice line) ≡ broken (office_with office.records) (OfOffice line)
broken_by_records office (Put (Monitor id duration eligible)) = refl
broken_by_records office (Put (Primary site pollutant from poc)) = refl
broken_by_records office (Put (Schedule site pollutant from interval anchor)) = refl
broken_by_records office (Put (Season site year first last)) = refl
broken_by_records office (Put (Makeup site missed makeup)) = refl
broken_by_records office (Put (Event number site pollutant first last code)) = refl
broken_by_records office (Put (Concurrence number agreed)) = refl
broken_by_records office (Put (Approved site day)) = refl
broken_by_records office (Put (Combined site pollutant from joined)) = refl
broken_by_records office (Change (Monitor id duration eligible)) = refl
broken_by_records office (Change (Concurrence number agreed)) = refl
broken_by_records office (Change r) = refl
broken_by_records office (Drop (MonitorKey id)) = refl
broken_by_records office (Drop (EventKey number)) = refl
broken_by_records office (Drop (ConcurrenceKey number)) = refl
broken_by_records office (Drop key) = refl

-- the observations and the loads stay
pub changed_records : (office : Office) (line : OfficeLine) → changed office (OfOffice line) ≡ record office { records = (changed (office_with office.records) (OfOffice line)).records }
changed_records office (Put r) = refl
changed_records office (Change r) = refl
changed_records office (Drop (EventKey number)) = refl
changed_records office (Drop key) = refl
