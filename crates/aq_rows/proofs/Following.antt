-- A row that may follow the rows of an office, and one that may not.
use Rattle.std.proofs.Common.{◌≡◌, ◌<◌, Bool, true, false, cond, ◌&&◌, List, [], ◌∷◌, ◌++◌, length, refl, sym, ap, ◌∙◌, subst, append-nil}
use Rattle.std.specs.Prelude.{Option, Some, None, is_some, filter_map, nat_le}
use Rattle.std.specs.Result.{IfErr, OnOk}
use Rattle.std.specs.declared.result.Result.{Result}
use Rattle.std.specs.declared.result.Result.TheVariants.{Ok, Err}
use Rattle.std.proofs.lemmas.Bool.{false≢true, and_from, and_parts}
use Rattle.aq_base.specs.declared.day.TheConstants.{LAST_HOUR}
use Rattle.aq_base.specs.declared.monitor.Duration.{Duration}
use Rattle.aq_base.specs.declared.observation.ObsKey.{ObsKey}
use Rattle.aq_base.specs.declared.observation.Observation.{Observation}
use Rattle.aq_base.specs.declared.office.OfficeRecord.{OfficeRecord}
use Rattle.aq_rules.specs.Kept.Rows.{Row, OfficeRow, ObsRow2, LoadRow, OfOfficeRow, OfLoadRow, OfSecondRow, record_in_row, observation_in_row, load_in_row, record_of_row, observation_of_row, load_of_row, says_something, only_if, is_valid}
use Rattle.aq_rules.specs.Limits.{MOST_OBSERVATIONS, MOST_LOADS}
use Rattle.aq_rules.specs.Lines.Spellings.{◌>>=◌ as ◌>>-◌}
use Rattle.aq_rules.specs.Office.Office.{Office, StoredLoad, IsOffice, observation_rank, observation_numbers, load_rank, rises, duration_at, is_kept_hour, is_content, fits_monitors, is_load}
use Rattle.aq_rules.proofs.ValidOffice.{valid-is_office, office-is_valid}
use Rattle.aq_registry.specs.Registry.{office_with as records_alone}
use Rattle.aq_rows.specs.declared.walk.Last.TheVariants.{Record, Observation as Observed, Load}
use Rattle.aq_rows.specs.declared.walk.RowFault.{RowFault}
use Rattle.aq_rows.specs.declared.walk.RowFault.TheVariants.{Damaged, Memory}
use Rattle.aq_rows.specs.declared.walk.Walk.{Walk}
use Rattle.aq_rows.specs.OneMoreRow.{has_none, is_in_turn, may_follow, with_last, EndsAt}
use Rattle.aq_rows.specs.Standing.{can_stand}
use Rattle.aq_rows.specs.Walking.{office_with, standing, AreRecordsAlone, IsLast, IsWalk, Follows, IsRowFault, IsFault}
use Rattle.aq_rows.proofs.LastObservation.{ends-at, observation-taken, observation-rises, observation-fits, observation-room, observation-stands, load-taken, load-rises, load-fits}

-- ---- the test of a row

module _ (office : Office) (row : Row) where
  says-nothing : says_something row ≡ false → may_follow office row ≡ false
  says-nothing h = ap (λ b. b && is_in_turn office row && is_valid (with_last office row)) h

  out-of-turn : is_in_turn office row ≡ false → may_follow office row ≡ false
  out-of-turn h = choose (says_something row) (is_in_turn office row) h
    where
      choose : (a b : Bool) → b ≡ false → (a && b && is_valid (with_last office row)) ≡ false
      choose true true e = absurd (false≢true (sym e))
      choose true false e = refl
      choose false b e = refl

  no-office : (IsOffice (with_last office row) → ⊥) → may_follow office row ≡ false
  no-office never = choose (says_something row && is_in_turn office row) (is_valid (with_last office row)) refl
    where
      choose : (a b : Bool) → is_valid (with_last office row) ≡ b → (a && b) ≡ false
      choose a true e = absurd (never (valid-is_office (with_last office row) e))
      choose true false e = refl
      choose false false e = refl

  may : says_something row ≡ true → is_in_turn office row ≡ true → IsOffice (with_last office row) → may_follow office row ≡ true
  may says turn is =
      and_from (says_something row && is_in_turn office row) (is_valid (with_last office row)) (and_from (says_something row) (is_in_turn office row) says turn)
      (office-is_valid (with_last office row) is)

one-said : {X : Type 0} (read : Row → Option X) (row : Row) (x : X) → read row ≡ Some x → filter_map read (row ∷ []) ≡ x ∷ []
one-said read row x e = rw e refl

-- what is said if its test passes
said : {X : Type 0} (o : Option X) (test : X → Bool) (x : X) → Some x ≡ (o >>- only_if test) → (o ≡ Some x) × (test x ≡ true)
said None test x h = cc
said (Some y) test x h = choose (test y) refl h
  where
    choose : (b : Bool) → test y ≡ b → Some x ≡ cond b (Some y) None → (Some y ≡ Some x) × (test x ≡ true)
    choose true e k = let same : y ≡ x = cc in (ap Some same, subst (λ z. test z ≡ true) same e)
    choose false e k = cc

-- what is not said, or does not pass
unsaid : {X : Type 0} (o : Option X) (test : X → Bool) (P : Type 0) → None ≡ (o >>- only_if test) → (o ≡ None → P) → ((x : X) → o ≡ Some x → test x ≡ false → P) → P
unsaid None test P h none failed = none refl
unsaid (Some y) test P h none failed = choose (test y) refl h
  where
    choose : (b : Bool) → test y ≡ b → None ≡ cond b (Some y) None → P
    choose true e k = cc
    choose false e k = failed y refl e

is-empty : {X : Type 0} (rows : List X) → has_none rows ≡ true → rows ≡ []
is-empty [] h = refl
is-empty (x ∷ rows) h = absurd (false≢true h)

-- ---- a record

module _ (walk : Walk) (row : OfficeRow) (entry : OfficeRecord) (told : record_of_row row ≡ Some entry) (is : IsWalk walk) (first : walk.last ≡ Record) where
  alone : AreRecordsAlone (standing walk)
  alone = subst (λ l. IsLast l (standing walk)) first is.last

  record-office : with_last (standing walk) (OfOfficeRow row) ≡ office_with (walk.registry ++ entry ∷ []) walk.shelf walk.loads
  record-office =
      let records = one-said record_in_row (OfOfficeRow row) entry told in
      let observations = append-nil walk.shelf in
      let loads = append-nil walk.loads in
      λ i. record { records = walk.registry ++ records i; observations = observations i; loads = loads i }

  without : (records : List OfficeRecord) → office_with records walk.shelf walk.loads ≡ records_alone records
  without records =
      let observations = alone.no_observations in
      let loads = alone.no_loads in
      λ i. record { records = records; observations = observations i; loads = loads i }

  pub record-taken : (result : Result (Unit {0}) RowFault) (now : List OfficeRecord) → OnOk result (now ≡ walk.registry ++ entry ∷ []) → OnOk result (IsOffice (records_alone now))
      → OnOk result (Follows walk (OfOfficeRow row) (record { registry = now; shelf = walk.shelf; loads = walk.loads; last = walk.last }))
  record-taken (Ok x) now added office =
      let whole : IsOffice (office_with now walk.shelf walk.loads) = subst IsOffice (sym (without now)) office in
      let same : office_with now walk.shelf walk.loads ≡ with_last (standing walk) (OfOfficeRow row) =
      ap (λ l. office_with l walk.shelf walk.loads) added ∙ sym record-office in
      let empty : AreRecordsAlone (office_with now walk.shelf walk.loads) = record { no_observations = alone.no_observations; no_loads = alone.no_loads } in
      record {
        may = may (standing walk) (OfOfficeRow row) (ap is_some told)
            (and_from (has_none walk.shelf) (has_none walk.loads) (ap has_none alone.no_observations) (ap has_none alone.no_loads))
            (subst IsOffice same whole);
        office = same;
        walk = record { office = whole; last = subst (λ l. IsLast l (office_with now walk.shelf walk.loads)) (sym first) empty };
      }
  record-taken (Err fault) now added office = tt

  pub record-refused : (result : Result (Unit {0}) RowFault) → IfErr result (IsFault (IsOffice (records_alone (walk.registry ++ entry ∷ []))))
      → IfErr result (IsRowFault (may_follow (standing walk) (OfOfficeRow row)))
  record-refused (Ok x) refused = tt
  record-refused (Err Damaged) refused =
      no-office (standing walk) (OfOfficeRow row) (λ office. refused (subst IsOffice (record-office ∙ without (walk.registry ++ entry ∷ [])) office))
  record-refused (Err Memory) refused = tt

-- ---- an observation

module _ (office : Office) (row : ObsRow2) where
  observation-office : (entry : ObsKey × Observation) → observation_of_row row ≡ Some entry
      → with_last office (OfSecondRow row) ≡ office_with office.records (office.observations ++ entry ∷ []) office.loads
  observation-office entry told =
      let observations = one-said observation_in_row (OfSecondRow row) entry told in
      let records = append-nil office.records in
      let loads = append-nil office.loads in
      λ i. record { records = records i; observations = office.observations ++ observations i; loads = loads i }

  pub observation-unsaid : (o : Option (ObsKey × Observation)) → o ≡ (observation_of_row row >>- only_if can_stand) → o ≡ None → may_follow office (OfSecondRow row) ≡ false
  observation-unsaid o is none =
      unsaid (observation_of_row row) can_stand (may_follow office (OfSecondRow row) ≡ false) (sym none ∙ is)
      (λ e. says-nothing office (OfSecondRow row) (ap is_some e))
      (λ entry e failed. no-office office (OfSecondRow row)
      (λ valid. false≢true (sym failed ∙ observation-stands office entry (subst IsOffice (observation-office entry e) valid))))

  module _ (o : Option (ObsKey × Observation)) (entry : ObsKey × Observation) (is : o ≡ (observation_of_row row >>- only_if can_stand)) (some : o ≡ Some entry) where
    told : (observation_of_row row ≡ Some entry) × (can_stand entry ≡ true)
    told = said (observation_of_row row) can_stand entry (sym some ∙ is)

    pub observation-can_stand : can_stand entry ≡ true
    observation-can_stand = told.1

    pub observation-not : ((valid : IsOffice (office_with office.records (office.observations ++ entry ∷ []) office.loads)) → ⊥) → may_follow office (OfSecondRow row) ≡ false
    observation-not never = no-office office (OfSecondRow row) (λ valid. never (subst IsOffice (observation-office entry told.0) valid))

    pub observation-not-next : false ≡ rises observation_rank (office.observations ++ entry ∷ []) → may_follow office (OfSecondRow row) ≡ false
    observation-not-next h = observation-not (λ valid. false≢true (h ∙ observation-rises office entry valid))

    kept : IsOffice (office_with office.records (office.observations ++ entry ∷ []) office.loads) → is_kept_hour (duration_at office entry.0.monitor) entry.0.hour ≡ true
    kept valid =
        let parts = and_parts _ (is_content entry.0.monitor.pollutant entry.1) (observation-fits office entry valid) in
        (and_parts _ (is_kept_hour (duration_at office entry.0.monitor) entry.0.hour) parts.0).1

    pub observation-not-kept : (duration : Option Duration) → duration ≡ duration_at office entry.0.monitor → is_kept_hour duration entry.0.hour ≡ false → may_follow office (OfSecondRow row) ≡ false
    observation-not-kept duration at not =
        observation-not (λ valid. false≢true (sym not ∙ ap (λ d. is_kept_hour d entry.0.hour) at ∙ kept valid))

    pub observation-full : (length office.observations < MOST_OBSERVATIONS → ⊥) → may_follow office (OfSecondRow row) ≡ false
    observation-full full = observation-not (λ valid. full (observation-room office entry valid))

    pub observation-refused : (fault : RowFault) → IsFault (length office.observations < MOST_OBSERVATIONS) fault → IsRowFault (may_follow office (OfSecondRow row)) fault
    observation-refused Damaged full = observation-full full
    observation-refused Memory full = tt

module _ (walk : Walk) (row : ObsRow2) (o : Option (ObsKey × Observation)) (key : ObsKey) (content : Observation) (duration : Duration) (now : List (ObsKey × Observation)) where
  pub observation-follows : IsWalk walk → o ≡ (observation_of_row row >>- only_if can_stand) → o ≡ Some (key, content)
      → true ≡ rises observation_rank (walk.shelf ++ (key, content) ∷ [])
      → Some duration ≡ duration_at (standing walk) key.monitor → is_kept_hour (Some duration) key.hour ≡ true
      → length walk.shelf < MOST_OBSERVATIONS → now ≡ walk.shelf ++ (key, content) ∷ []
      → Follows walk (OfSecondRow row) (record { registry = walk.registry; shelf = now; loads = walk.loads; last = Observed key duration })
  observation-follows is says some next at kept room added =
      let office : Office = standing walk in
      let entry : ObsKey × Observation = (key, content) in
      let words = said (observation_of_row row) can_stand entry (sym some ∙ says) in
      let standing = and_parts _ (is_content key.monitor.pollutant content) words.1 in
      let hour = and_parts _ (nat_le key.hour LAST_HOUR) standing.0 in
      let held : is_kept_hour (duration_at office key.monitor) key.hour ≡ true = ap (λ d. is_kept_hour d key.hour) (sym at) ∙ kept in
      let fits : fits_monitors office entry ≡ true = and_from _ _ (and_from _ _ hour.1 held) standing.1 in
      let valid : IsOffice (office_with walk.registry (walk.shelf ++ entry ∷ []) walk.loads) = observation-taken office entry is.office (sym next) fits room in
      let same : office_with walk.registry now walk.loads ≡ with_last office (OfSecondRow row) =
      ap (λ l. office_with walk.registry l walk.loads) added ∙ sym (observation-office office row entry words.0) in
      let whole : IsOffice (office_with walk.registry now walk.loads) = subst (λ l. IsOffice (office_with walk.registry l walk.loads)) (sym added) valid in
      record {
        may = may office (OfSecondRow row) (ap is_some words.0) refl (subst IsOffice same whole);
        office = same;
        walk = record {
          office = whole;
          last = record {
            ends = subst (λ l. EndsAt observation_rank (observation_numbers key) l) (sym added) (ends-at observation_rank walk.shelf entry (sym next));
            known = sym at;
          };
        };
      }

-- ---- a load

module _ (office : Office) (row : LoadRow) where
  load-office : (entry : StoredLoad) → load_of_row row ≡ Some entry → with_last office (OfLoadRow row) ≡ office_with office.records office.observations (office.loads ++ entry ∷ [])
  load-office entry told =
      let loads = one-said load_in_row (OfLoadRow row) entry told in
      let records = append-nil office.records in
      let observations = append-nil office.observations in
      λ i. record { records = records i; observations = observations i; loads = office.loads ++ loads i }

  pub load-unsaid : None ≡ (load_of_row row >>- only_if is_load) → may_follow office (OfLoadRow row) ≡ false
  load-unsaid none =
      unsaid (load_of_row row) is_load (may_follow office (OfLoadRow row) ≡ false) none
      (λ e. says-nothing office (OfLoadRow row) (ap is_some e))
      (λ entry e failed. no-office office (OfLoadRow row)
      (λ valid. false≢true (sym failed ∙ load-fits office entry (subst IsOffice (load-office entry e) valid))))

  module _ (entry : StoredLoad) (some : Some entry ≡ (load_of_row row >>- only_if is_load)) where
    words : (load_of_row row ≡ Some entry) × (is_load entry ≡ true)
    words = said (load_of_row row) is_load entry some

    pub load-not-next : (has_none office.observations && rises load_rank (office.loads ++ entry ∷ [])) ≡ false → may_follow office (OfLoadRow row) ≡ false
    load-not-next h = choose (has_none office.observations) refl h
      where
        choose : (b : Bool) → has_none office.observations ≡ b → (b && rises load_rank (office.loads ++ entry ∷ [])) ≡ false → may_follow office (OfLoadRow row) ≡ false
        choose true e k =
            no-office office (OfLoadRow row) (λ valid. false≢true (sym k ∙ load-rises office entry (subst IsOffice (load-office entry words.0) valid)))
        choose false e k = out-of-turn office (OfLoadRow row) e

module _ (walk : Walk) (row : LoadRow) (entry : StoredLoad) (now : List StoredLoad) where
  pub load-follows : IsWalk walk → Some entry ≡ (load_of_row row >>- only_if is_load) → (has_none walk.shelf && rises load_rank (walk.loads ++ entry ∷ [])) ≡ true
      → length walk.loads < MOST_LOADS → now ≡ walk.loads ++ entry ∷ []
      → Follows walk (OfLoadRow row) (record { registry = walk.registry; shelf = walk.shelf; loads = now; last = Load entry.number })
  load-follows is some next room added =
      let office : Office = standing walk in
      let order = and_parts (has_none walk.shelf) (rises load_rank (walk.loads ++ entry ∷ [])) next in
      let words = said (load_of_row row) is_load entry some in
      let valid : IsOffice (office_with walk.registry walk.shelf (walk.loads ++ entry ∷ [])) = load-taken office entry is.office order.1 words.1 room in
      let same : office_with walk.registry walk.shelf now ≡ with_last office (OfLoadRow row) =
      ap (λ l. office_with walk.registry walk.shelf l) added ∙ sym (load-office office row entry words.0) in
      let whole : IsOffice (office_with walk.registry walk.shelf now) = subst (λ l. IsOffice (office_with walk.registry walk.shelf l)) (sym added) valid in
      record {
        may = may office (OfLoadRow row) (ap is_some words.0) order.0 (subst IsOffice same whole);
        office = same;
        walk = record {
          office = whole;
          last = record {
            no_observations = is-empty walk.shelf order.0;
            ends = subst (λ l. EndsAt load_rank (load_rank entry) l) (sym added) (ends-at load_rank walk.loads entry order.1);
          };
        };
      }
