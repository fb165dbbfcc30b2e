-- An observation without codes is not excluded.
use Rattle.std.proofs.Common.{◌≡◌, Bool, true, false, ◌&&◌, ◌||◌, List, [], ◌∷◌, length, refl, ◌∙◌, arith}
use Rattle.std.specs.List.{list_any}
use Rattle.aq_base.specs.declared.code.Code.{Code}
use Rattle.aq_base.specs.declared.observation.ObsKey.{ObsKey}
use Rattle.aq_base.specs.declared.office.OfficeRecord.{OfficeRecord}
use Rattle.aq_base.specs.declared.office.OfficeRecord.TheVariants.{Monitor, Primary, Schedule, Season, Makeup, Event, Concurrence, Approved, Combined}
use Rattle.aq_rules.specs.Office.Exclusion.{agrees_to, asks_exclusion, excluded, is_within, takes_out}

and_false : (b : Bool) → (b && false) ≡ false
and_false true = refl
and_false false = refl

none_taken : (all : List OfficeRecord) (key : ObsKey) (records : List OfficeRecord) → list_any (takes_out all key []) records ≡ false
none_taken all key [] = refl
none_taken all key (Event number site pollutant first last code ∷ rest) =
    (λ i. ((and_false (asks_exclusion code) i && is_within site pollutant first last key && list_any (agrees_to number) all) || list_any (takes_out all key []) rest))
    ∙ none_taken all key rest
none_taken all key (Monitor id duration eligible ∷ rest) = none_taken all key rest
none_taken all key (Primary site pollutant from poc ∷ rest) = none_taken all key rest
none_taken all key (Schedule site pollutant from interval anchor ∷ rest) = none_taken all key rest
none_taken all key (Season site year first last ∷ rest) = none_taken all key rest
none_taken all key (Makeup site missed makeup ∷ rest) = none_taken all key rest
none_taken all key (Concurrence number agreed ∷ rest) = none_taken all key rest
none_taken all key (Approved site day ∷ rest) = none_taken all key rest
none_taken all key (Combined site pollutant from joined ∷ rest) = none_taken all key rest

pub excluded_without_codes : (records : List OfficeRecord) (key : ObsKey) (codes : List Code) → length codes ≡ 0 → excluded records key codes ≡ false
unfolding excluded
excluded_without_codes records key [] none = none_taken records key records
excluded_without_codes records key (code ∷ codes) none = absurd (omega (arith, none))
