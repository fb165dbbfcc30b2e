-- An observation or a load after the others: if it leaves the office valid, and if it does not.
use Rattle.std.proofs.Common.{◌≡◌, ℕ, ◌<◌, Bool, true, false, List, [], ◌∷◌, ◌++◌, length, refl, arith, length-append}
use Rattle.std.specs.List.{list_all}
use Rattle.std.proofs.lemmas.Bool.{and_from, and_parts}
use Rattle.aq_base.specs.declared.observation.ObsKey.{ObsKey}
use Rattle.aq_base.specs.declared.observation.Observation.{Observation}
use Rattle.aq_rules.specs.Limits.{MOST_OBSERVATIONS, MOST_LOADS}
use Rattle.aq_rules.specs.Office.Office.{Office, StoredLoad, IsOffice, observation_rank, load_rank, rises, fits_monitors, is_load}
use Rattle.aq_rows.specs.Standing.{can_stand}
use Rattle.aq_rows.specs.Fitting.{fitting_can_stand}
use Rattle.aq_rows.specs.OneMoreRow.{has_none, EndsAt}
use Rattle.aq_rows.proofs.RisingEnds.{next-last}

-- ---- lists

last-passes : {X : Type 0} (p : X → Bool) (xs : List X) (x : X) → list_all p (xs ++ x ∷ []) ≡ true → p x ≡ true
last-passes p [] x h = (and_parts (p x) true h).0
last-passes p (y ∷ xs) x h = last-passes p xs x (and_parts (p y) (list_all p (xs ++ x ∷ [])) h).1

all-pass : {X : Type 0} (p : X → Bool) (xs : List X) (x : X) → list_all p xs ≡ true → p x ≡ true → list_all p (xs ++ x ∷ []) ≡ true
all-pass p [] x h k = and_from (p x) true k refl
all-pass p (y ∷ xs) x h k =
    let parts = and_parts (p y) (list_all p xs) h in
    and_from (p y) (list_all p (xs ++ x ∷ [])) parts.0 (all-pass p xs x parts.1 k)

pub ends-at : {X : Type 0} (rank : X → List ℕ) (rows : List X) (last : X) → rises rank (rows ++ last ∷ []) ≡ true → EndsAt rank (rank last) (rows ++ last ∷ [])
ends-at rank rows last rising = record { some = some rows; next = λ row. next-last rank rows last row rising }
  where
    some : (xs : List _) → has_none (xs ++ last ∷ []) ≡ false
    some [] = refl
    some (x ∷ xs) = refl

-- ---- an observation

module _ (office : Office) (entry : ObsKey × Observation) where
  abbrev with_entry : Office
  with_entry = record { records = office.records; observations = office.observations ++ entry ∷ []; loads = office.loads }

  pub observation-taken : IsOffice office → rises observation_rank (office.observations ++ entry ∷ []) ≡ true → fits_monitors office entry ≡ true
      → length office.observations < MOST_OBSERVATIONS → IsOffice with_entry
  observation-taken is rising fits room = record {
    keys_rise = record { records = is.keys_rise.records; observations = rising; loads = is.keys_rise.loads };
    records_fit = is.records_fit;
    records_alone = is.records_alone;
    few_sites = is.few_sites;
    observations_fit = all-pass (fits_monitors office) office.observations entry is.observations_fit fits;
    few_observations = let long = length-append office.observations (entry ∷ []) in omega arith;
    loads_fit = is.loads_fit;
    few_loads = is.few_loads;
  }

  pub observation-rises : IsOffice with_entry → rises observation_rank (office.observations ++ entry ∷ []) ≡ true
  observation-rises is = is.keys_rise.observations

  pub observation-fits : IsOffice with_entry → fits_monitors office entry ≡ true
  observation-fits is = last-passes (fits_monitors office) office.observations entry is.observations_fit

  pub observation-room : IsOffice with_entry → length office.observations < MOST_OBSERVATIONS
  observation-room is = let few = is.few_observations in let long = length-append office.observations (entry ∷ []) in omega arith

  -- one that stands in a valid office can stand
  pub observation-stands : IsOffice with_entry → can_stand entry ≡ true
  observation-stands is = fitting_can_stand office entry is.records_fit (observation-fits is)

-- ---- a load

module _ (office : Office) (load : StoredLoad) where
  abbrev with_it : Office
  with_it = record { records = office.records; observations = office.observations; loads = office.loads ++ load ∷ [] }

  pub load-taken : IsOffice office → rises load_rank (office.loads ++ load ∷ []) ≡ true → is_load load ≡ true → length office.loads < MOST_LOADS → IsOffice with_it
  load-taken is rising fits room = record {
    keys_rise = record { records = is.keys_rise.records; observations = is.keys_rise.observations; loads = rising };
    records_fit = is.records_fit;
    records_alone = is.records_alone;
    few_sites = is.few_sites;
    observations_fit = is.observations_fit;
    few_observations = is.few_observations;
    loads_fit = all-pass is_load office.loads load is.loads_fit fits;
    few_loads = let long = length-append office.loads (load ∷ []) in omega arith;
  }

  pub load-rises : IsOffice with_it → rises load_rank (office.loads ++ load ∷ []) ≡ true
  load-rises is = is.keys_rise.loads

  pub load-fits : IsOffice with_it → is_load load ≡ true
  load-fits is = last-passes is_load office.loads load is.loads_fit
