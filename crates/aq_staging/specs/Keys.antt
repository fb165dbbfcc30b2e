-- The keys of observations, one after the other.
use Rattle.std.specs.Prelude.{Option, List, map}
use Rattle.std.specs.List.{cons_option}
use Rattle.aq_base.specs.declared.observation.ObsKey.{ObsKey}
use Rattle.aq_base.specs.declared.observation.Observation.{Observation}
use Rattle.aq_rules.specs.Office.Load.{keys_of_either}
use Rattle.aq_rules.specs.Office.Office.{observation_key, observation_numbers}

abbrev pub keys_in : List (ObsKey × Observation) → List ObsKey
keys_in rows = map observation_key rows

-- a key that was read ahead, and those after it
abbrev pub keys_left : Option ObsKey → List (ObsKey × Observation) → List ObsKey
keys_left next rows = cons_option next (keys_in rows)

-- the keys of either list, in rising order and each once
abbrev pub either_keys : List ObsKey → List ObsKey → List ObsKey
either_keys first second = keys_of_either observation_numbers first second
