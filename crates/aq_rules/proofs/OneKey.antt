-- A key has its own numbers: two keys with the same numbers are one.
use Rattle.std.proofs.Common.{◌≡◌, ℕ, ◌==◌, Option, Some, None, List, [], ◌∷◌, refl, ap, sym, ◌∙◌}
use Rattle.std.specs.Prelude.{if◌then◌else◌}
use Rattle.aq_base.specs.Site.{Site}
use Rattle.aq_base.specs.declared.monitor.Pollutant.{Pollutant}
use Rattle.aq_base.specs.declared.monitor.Pollutant.TheVariants.{Ozone, Pm25, Pm10}
use Rattle.aq_base.specs.declared.observation.ObsKey.{ObsKey}
use Rattle.aq_base.specs.declared.office.OfficeKey.{OfficeKey}
use Rattle.aq_base.specs.declared.office.OfficeKey.TheVariants.{Monitor, Primary, Schedule, Season, Makeup, Event, Concurrence, Approved, Combined}
use Rattle.aq_rules.specs.Office.Office.{key_numbers, parameter_number, observation_numbers, pollutant_number}

-- ---- the key of a record

-- the pollutant with a number
pollutant_with : (Pollutant → ℕ) → ℕ → Pollutant
pollutant_with number n = if n == number Ozone then Ozone else (if n == number Pm25 then Pm25 else Pm10)

with_series : (Site → Pollutant → ℕ → OfficeKey) → List ℕ → Option OfficeKey
with_series make (a ∷ b ∷ c ∷ p ∷ part ∷ []) = Some (make (record { state = a; county = b; number = c }) (pollutant_with parameter_number p) part)
with_series make _ = None

with_site : (Site → ℕ → OfficeKey) → List ℕ → Option OfficeKey
with_site make (a ∷ b ∷ c ∷ part ∷ []) = Some (make (record { state = a; county = b; number = c }) part)
with_site make _ = None

with_site_parameter : (Site → Pollutant → OfficeKey) → List ℕ → Option OfficeKey
with_site_parameter make (a ∷ b ∷ c ∷ parameter ∷ []) = Some (make (record { state = a; county = b; number = c }) (pollutant_with parameter_number parameter))
with_site_parameter make _ = None

with_number : (ℕ → OfficeKey) → List ℕ → Option OfficeKey
with_number make (n ∷ []) = Some (make n)
with_number make _ = None

key_from : List ℕ → Option OfficeKey
key_from [] = None
key_from (kind ∷ rest) =
    if kind == 1 then with_series (λ site pollutant poc. Monitor (record { site = site; pollutant = pollutant; poc = poc })) rest
    else (if kind == 2 then with_series (λ site pollutant from. Primary site pollutant from) rest
    else (if kind == 3 then with_series (λ site pollutant from. Schedule site pollutant from) rest
    else (if kind == 4 then with_site (λ site year. Season site year) rest
    else (if kind == 5 then with_site (λ site missed. Makeup site missed) rest
    else (if kind == 6 then with_number (λ number. Event number) rest
    else (if kind == 7 then with_number (λ number. Concurrence number) rest
    else (if kind == 8 then with_site (λ site day. Approved site day) rest
    else with_site_parameter (λ site pollutant. Combined site pollutant) rest)))))))

parameter-back : (p : Pollutant) → pollutant_with parameter_number (parameter_number p) ≡ p
unfolding pollutant_with
parameter-back Ozone = refl
parameter-back p = refl

office_key-back : (key : OfficeKey) → key_from (key_numbers key) ≡ Some key
unfolding key_from with_series with_site with_number with_site_parameter
office_key-back (Monitor id) = ap (λ (p : Pollutant). Some (Monitor (record { site = id.site; pollutant = p; poc = id.poc }))) (parameter-back id.pollutant)
office_key-back (Primary site pollutant from) = ap (λ (p : Pollutant). Some (Primary site p from)) (parameter-back pollutant)
office_key-back (Schedule site pollutant from) = ap (λ (p : Pollutant). Some (Schedule site p from)) (parameter-back pollutant)
office_key-back (Season site year) = refl
office_key-back (Makeup site missed) = refl
office_key-back (Event number) = refl
office_key-back (Concurrence number) = refl
office_key-back (Approved site day) = refl
office_key-back (Combined site pollutant) = ap (λ (p : Pollutant). Some (Combined site p)) (parameter-back pollutant)

pub one_office_key : (a b : OfficeKey) → key_numbers a ≡ key_numbers b → a ≡ b
one_office_key a b e =
    let both : Some a ≡ Some b = sym (office_key-back a) ∙ ap key_from e ∙ office_key-back b in
    cc

-- ---- the key of an observation

place_from : List ℕ → Option ObsKey
place_from (a ∷ b ∷ c ∷ p ∷ poc ∷ hour ∷ []) = Some (record {
  monitor = record { site = record { state = a; county = b; number = c }; pollutant = pollutant_with pollutant_number p; poc = poc };
  hour = hour;
})
place_from _ = None

pollutant-back : (p : Pollutant) → pollutant_with pollutant_number (pollutant_number p) ≡ p
unfolding pollutant_with
pollutant-back Ozone = refl
pollutant-back p = refl

observation_key-back : (key : ObsKey) → place_from (observation_numbers key) ≡ Some key
unfolding place_from
observation_key-back key =
    ap (λ (p : Pollutant). Some (record { monitor = record { site = key.monitor.site; pollutant = p; poc = key.monitor.poc }; hour = key.hour })) (pollutant-back key.monitor.pollutant)

pub one_observation_key : (a b : ObsKey) → observation_numbers a ≡ observation_numbers b → a ≡ b
one_observation_key a b e =
    let both : Some a ≡ Some b = sym (observation_key-back a) ∙ ap place_from e ∙ observation_key-back b in
    cc
