-- The office of a book without its loads.
use Rattle.std.proofs.Common.{List, refl, arith}
use Rattle.aq_base.specs.declared.observation.ObsKey.{ObsKey}
use Rattle.aq_base.specs.declared.observation.Observation.{Observation}
use Rattle.aq_base.specs.declared.office.OfficeRecord.{OfficeRecord}
use Rattle.aq_rules.specs.Office.Office.{IsOffice, StoredLoad}
use Rattle.aq_series.specs.OfficeView.{office_of}
use Rattle.aq_book.specs.View.{standing}

pub loadless : (records : List OfficeRecord) (rows : List (ObsKey × Observation)) (loads : List StoredLoad) → IsOffice (standing records rows loads) → IsOffice (office_of records rows)
loadless records rows loads of = record {
  keys_rise = record { records = of.keys_rise.records; observations = of.keys_rise.observations; loads = refl };
  records_fit = of.records_fit;
  records_alone = of.records_alone;
  few_sites = of.few_sites;
  observations_fit = of.observations_fit;
  few_observations = of.few_observations;
  loads_fit = refl;
  few_loads = omega arith;
}
