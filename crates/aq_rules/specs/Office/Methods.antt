-- Offices that differ in the methods of their observations alone (own).
use Rattle.std.specs.Prelude.{None, map}
use Rattle.aq_base.specs.declared.observation.ObsKey.{ObsKey}
use Rattle.aq_base.specs.declared.observation.Observation.{Observation}
use Rattle.aq_rules.specs.Office.Office.{Office}

-- an observation without its method
abbrev pub without_method : (ObsKey × Observation) → (ObsKey × Observation)
without_method entry = (entry.0, record (entry.1) { method = None })

-- the office with each observation without its method
abbrev pub without_methods : Office → Office
without_methods office = record office { observations = map without_method office.observations }
