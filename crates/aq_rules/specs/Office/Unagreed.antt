-- Lemmas, no definition: if no concurrence is on record, nothing is excluded.
use Rattle.std.proofs.Common.{◌≡◌, ℕ, Bool, false, List, [], ◌∷◌, refl}
use Rattle.std.proofs.lemmas.Bool.{and_right}
use Rattle.std.specs.List.{list_any}
use Rattle.aq_base.specs.declared.code.Code.{Code}
use Rattle.aq_base.specs.declared.observation.ObsKey.{ObsKey}
use Rattle.aq_base.specs.declared.office.OfficeRecord.{OfficeRecord}
use Rattle.aq_base.specs.declared.office.OfficeRecord.TheVariants.{Monitor, Primary, Schedule, Season, Makeup, Event, Concurrence, Approved, Combined}
use Rattle.aq_rules.specs.Office.Exclusion.{excluded, takes_out, agrees_to}

none_of : {X : Type 0} (test : X → Bool) (xs : List X) → ((x : X) → test x ≡ false) → list_any test xs ≡ false
none_of test [] none = refl
none_of test (x ∷ xs) none = rw (none x) (none_of test xs none)

pub excluded-unagreed : (records : List OfficeRecord) (key : ObsKey) (codes : List Code)
    → ((number : ℕ) → list_any (agrees_to number) records ≡ false) → excluded records key codes ≡ false
unfolding excluded
excluded-unagreed records key codes none = none_of (takes_out records key codes) records (each none)
  where
    each : ((number : ℕ) → list_any (agrees_to number) records ≡ false) → (r : OfficeRecord) → takes_out records key codes r ≡ false
    each none (Monitor id duration eligible) = refl
    each none (Primary site pollutant from poc) = refl
    each none (Schedule site pollutant from interval anchor) = refl
    each none (Season site year first last) = refl
    each none (Makeup site missed makeup) = refl
    each none (Event number site pollutant first last code) = and_right _ (list_any (agrees_to number) records) (none number)
    each none (Concurrence number agreed) = refl
    each none (Approved site day) = refl
    each none (Combined site pollutant from joined) = refl
