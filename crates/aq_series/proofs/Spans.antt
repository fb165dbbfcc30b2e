-- What a monitor's span has for an hour is what stands at the hour's key.
use Rattle.std.proofs.Common.{◌≡◌, ℕ, ◌+◌, ◌<◌, ◌≤◌, Bool, true, false, cond, ◌&&◌, ◌==◌, Some, None, Option, List, [], ◌∷◌, map, refl, ap, sym, ◌∙◌, arith}
use Rattle.std.specs.Prelude.{ℤ, nat_lt, nat_le, filter, option_map}
use Rattle.std.specs.List.{filter_map, cons_option}
use Rattle.std.specs.Option.{option_and_then}
use Rattle.std.proofs.lemmas.Bool.{and_parts}
use Rattle.std.proofs.lemmas.Bool.Decides.{nat_tests}
use Rattle.aq_base.specs.declared.monitor.MonitorId.{MonitorId}
use Rattle.aq_base.specs.declared.observation.ObsKey.{ObsKey}
use Rattle.aq_base.specs.declared.observation.Observation.{Observation}
use Rattle.aq_rules.specs.Office.Monitors.{is_same_monitor}
use Rattle.aq_rules.specs.Office.Office.{content_of, is_same, observation_numbers, observation_rank, rises, row_at}
use Rattle.aq_rules.specs.Office.Sameness.{same_key, same_monitor}
use Rattle.aq_rules.specs.Ozone.SiteHour.{Cell}
use Rattle.aq_shelf.specs.Standing.{content_at, hour_content, in_span, observations_in}
use Rattle.aq_shelf.proofs.Order.{before_hour, same_hour, same_rank}
use Rattle.aq_series.specs.DayCells.{key_at}
use Rattle.aq_series.proofs.Rising.{Rising, found, found-ranked, rising-ranked, row_at-is}

abbrev pub Entry : Type 0
Entry = ObsKey × Observation

abbrev pub Item : Type 0
Item = ℕ × Observation

abbrev pub hour_of : Item → ℕ
hour_of item = item.0

abbrev pub as_cell : ℤ → Bool → Cell
as_cell value excluded = record { value = value; excluded = excluded }

-- the key of a monitor's row, and the row of its key
pub key_is : (monitor : MonitorId) (key : ObsKey) → is_same_monitor key.monitor monitor ≡ true → key ≡ key_at monitor key.hour
key_is monitor key h = let one = same_monitor key.monitor monitor h in λ i. record { monitor = one i; hour = key.hour }

pub key_there : (monitor : MonitorId) (key : ObsKey) (hour : ℕ) → is_same (observation_numbers key) (observation_numbers (key_at monitor hour)) ≡ true → (is_same_monitor key.monitor monitor ≡ true) × (key ≡ key_at monitor hour)
key_there monitor key hour same =
    let is = sym (same_rank key (key_at monitor hour)) ∙ same in
    ((and_parts (is_same_monitor key.monitor monitor) (key.hour == hour) is).0, same_key key (key_at monitor hour) is)

module _ (monitor : MonitorId) (from hours : ℕ) where
  abbrev give : Entry → Option Item
  give row = cond (in_span monitor from hours row) (Some (hour_content row)) None

  abbrev numbers : ℕ → List ℕ
  numbers hour = observation_numbers (key_at monitor hour)

  items_given : (rows : List Entry) → observations_in monitor from hours rows ≡ filter_map give rows
  items_given [] = refl
  items_given (row ∷ rows) =
      let rest = items_given rows in
      elim (in_span monitor from hours row) as (λ b. map hour_content (cond b (row ∷ filter (in_span monitor from hours) rows) (filter (in_span monitor from hours) rows)) ≡ cons_option (cond b (Some (hour_content row)) None) (filter_map give rows)) [
        | true ↦ ap (λ (l : List Item). hour_content row ∷ l) rest
        | false ↦ rest
      ]

  -- ---- one row

  given : (row : Entry) (item : Item) → give row ≡ Some item → (is_same_monitor row.0.monitor monitor ≡ true) × (row.0.hour ≡ item.0)
  given row item h = by_test (in_span monitor from hours row) refl h
    where
      by_test : (b : Bool) → in_span monitor from hours row ≡ b → cond b (Some (hour_content row)) None ≡ Some item → (is_same_monitor row.0.monitor monitor ≡ true) × (row.0.hour ≡ item.0)
      by_test true is h =
          let outer = and_parts (is_same_monitor row.0.monitor monitor && nat_le from row.0.hour) (nat_lt row.0.hour (from + hours)) is in
          let inner = and_parts (is_same_monitor row.0.monitor monitor) (nat_le from row.0.hour) outer.0 in
          let one : hour_content row ≡ item = cc in
          (inner.0, ap (λ (i : Item). i.0) one)
      by_test false is h = cc

  ranked : (row : Entry) (item : Item) → give row ≡ Some item → observation_rank row ≡ numbers item.0
  ranked row item h =
      let parts = given row item h in
      ap observation_numbers (key_is monitor row.0 parts.0) ∙ ap numbers parts.1

  -- ---- the row of a key

  module _ (hour : ℕ) (low : from ≤ hour) (high : hour < from + hours) where
    gives : (o : Option Entry) → ((row : Entry) → o ≡ Some row → is_same (observation_rank row) (numbers hour) ≡ true)
        → option_map (λ (i : Item). i.1) (option_and_then give o) ≡ option_map content_of o
    gives None same = refl
    gives (Some row) same =
        let parts = key_there monitor row.0 hour (same row refl) in
        let at : row.0.hour ≡ hour = ap (λ (k : ObsKey). k.hour) parts.1 in
        let least : nat_le from hour ≡ true = grind (arith, nat_tests) in
        let most : nat_lt hour (from + hours) ≡ true = grind (arith, nat_tests) in
        let inside : in_span monitor from hours row ≡ true = (λ i. (parts.0 i && nat_le from (at i)) && nat_lt (at i) (from + hours)) ∙ (λ i. (true && least i) && most i) in
        ap (λ b. option_map (λ (i : Item). i.1) (cond b (Some (hour_content row)) None)) inside

    -- what the span has for an hour of it
    pub span-at : (rows : List Entry) → rises observation_rank rows ≡ true → option_map (λ (i : Item). i.1) (found hour_of hour (observations_in monitor from hours rows)) ≡ content_at (key_at monitor hour) rows
    span-at rows rising =
        ap (λ (l : List Item). option_map (λ (i : Item). i.1) (found hour_of hour l)) (items_given rows)
        ∙ ap (λ o. option_map (λ (i : Item). i.1) o) (found-ranked observation_rank numbers hour_of give ranked (same_hour monitor) hour rows rising)
        ∙ gives (row_at observation_rank (numbers hour) rows) (row_at-is observation_rank (numbers hour) rows)

  -- a span rises by its hours
  pub span-rises : (rows : List Entry) → rises observation_rank rows ≡ true → Rising hour_of (observations_in monitor from hours rows)
  span-rises rows rising = rw (items_given rows) (rising-ranked observation_rank numbers hour_of give ranked (before_hour monitor) rows rising)
