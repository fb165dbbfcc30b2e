-- The rows of monitors: one for each that is registered, site by site and pollutant by pollutant.
use Rattle.std.proofs.Common.{◌≡◌, ℕ, ◌+◌, ◌≤◌, Bool, Option, Some, None, List, [], ◌∷◌, ◌++◌, length, map, refl, ap, sym, subst, ◌∙◌}
use Rattle.std.specs.Prelude.{option_map}
use Rattle.std.specs.List.{cons_option}
use Rattle.std.proofs.lemmas.List.{append_assoc, append-nil, length-map, map-append}
use Rattle.aq_base.specs.declared.day.TheConstants.{LAST_HOUR}
use Rattle.aq_base.specs.declared.limits.TheConstants.{MOST_OBSERVATIONS}
use Rattle.aq_base.specs.declared.monitor.Duration.{Duration}
use Rattle.aq_base.specs.declared.monitor.MonitorId.{MonitorId}
use Rattle.aq_base.specs.declared.observation.ObsKey.{ObsKey}
use Rattle.aq_base.specs.declared.observation.Observation.{Observation}
use Rattle.aq_base.specs.declared.office.OfficeRecord.{OfficeRecord}
use Rattle.aq_rules.specs.Listed.Monitors.{ListedMonitor, RegisteredMonitor, listed_monitor}
use Rattle.aq_rules.specs.Listed.Places.{standing_at}
use Rattle.aq_rules.specs.Office.Questions.{Registered}
use Rattle.aq_registry.specs.Registry.{pair_of}
use Rattle.aq_series.specs.OfficeView.{office_of}
use Rattle.aq_shelf.specs.Standing.{IsShelf, hour_content, observations_in}
use Rattle.aq_listed.specs.MonitorDays.{first_day, last_day}
use Rattle.aq_listed.specs.Registrations.{registered_as}
use Rattle.aq_listed.proofs.DayLemmas.{few_in_span, first_row, last_row}
use Rattle.aq_listed.proofs.StandingLemmas.{span_all}

-- a span over all hours, by the days of its first and its last observation
module _ (rows : List (ObsKey × Observation)) (monitor : MonitorId) (from hours : ℕ) (span : List (ℕ × Observation)) (shelf : IsShelf rows) (is : span ≡ observations_in monitor from hours rows) where
  pub few_of_span : length span ≤ MOST_OBSERVATIONS
  few_of_span = subst (λ (l : List (ℕ × Observation)). length l ≤ MOST_OBSERVATIONS) (sym is) (few_in_span monitor from hours rows shelf)

  pub row_of_span : (records : List OfficeRecord) (registered : RegisteredMonitor) (count : ℕ) (first last : Option ℕ) → registered.id ≡ monitor → from ≡ 0 → hours ≡ LAST_HOUR + 1
      → count ≡ length span → first ≡ first_day span → last ≡ last_day span
      → record { monitor = registered; observations = count; first = first; last = last } ≡ listed_monitor (office_of records rows) registered
  row_of_span records registered count first last same start whole counted earliest latest =
      let stands : span ≡ map hour_content (standing_at (office_of records rows) registered.id) =
      is ∙ (λ i. observations_in monitor (start i) (whole i) rows) ∙ span_all (office_of records rows) monitor shelf
      ∙ ap (λ k. map hour_content (standing_at (office_of records rows) k)) (sym same)
      in
      let standing = standing_at (office_of records rows) registered.id in
      let number = counted ∙ ap length stands ∙ length-map standing hour_content in
      let from_day = earliest ∙ ap first_day stands ∙ first_row standing in
      let to_day = latest ∙ ap last_day stands ∙ last_row standing in
      λ i. record { monitor = registered; observations = number i; first = from_day i; last = to_day i }

module _ (f : RegisteredMonitor → ListedMonitor) where
  -- the row of one identity, if it is registered
  abbrev pub row_under : MonitorId → Option Registered → List ListedMonitor
  row_under id registered = map f (cons_option (option_map (registered_as id) registered) [])

  pub none_listed : (id : MonitorId) (o : Option Registered) (answer : Option (Duration × Bool)) → answer ≡ option_map pair_of o → answer ≡ None → row_under id o ≡ []
  none_listed id None answer is none = refl
  none_listed id (Some registered) answer is none = cc

  pub one_listed : (id : MonitorId) (o : Option Registered) (answer : Option (Duration × Bool)) (pair : Duration × Bool) → answer ≡ option_map pair_of o → answer ≡ Some pair
      → row_under id o ≡ f (record { id = id; duration = pair.0; eligible = pair.1 }) ∷ []
  one_listed id None answer pair is some = cc
  one_listed id (Some registered) answer pair is some =
      let same : pair_of registered ≡ pair = cc in
      λ i. f (record { id = id; duration = (same i).0; eligible = (same i).1 }) ∷ []

  pub first_apart : (o : Option RegisteredMonitor) (rest : List RegisteredMonitor) → map f (cons_option o []) ++ map f rest ≡ map f (cons_option o rest)
  first_apart None rest = refl
  first_apart (Some monitor) rest = refl

  -- one more monitor, if it is registered
  pub more_listed : (all rows new : List ListedMonitor) (o : Option RegisteredMonitor) (here behind : List RegisteredMonitor) → new ≡ rows ++ map f (cons_option o []) → here ≡ cons_option o behind
      → rows ++ map f here ≡ all → new ++ map f behind ≡ all
  more_listed all rows new o here behind added next so_far =
      ap (λ l. l ++ map f behind) added
      ∙ append_assoc rows (map f (cons_option o [])) (map f behind)
      ∙ ap (λ l. rows ++ l) (first_apart o behind ∙ ap (map f) (sym next))
      ∙ so_far

  -- none is left
  pub all_listed : (start rows : List ListedMonitor) (here all whole : List RegisteredMonitor) → here ≡ [] → rows ++ map f here ≡ start ++ map f all → all ≡ whole → rows ≡ start ++ map f whole
  all_listed start rows here all whole none so_far is =
      sym (append-nil rows) ∙ ap (λ (l : List RegisteredMonitor). rows ++ map f l) (sym none) ∙ so_far ∙ ap (λ l. start ++ map f l) is

  -- three parts, one behind the other
  pub three_parts : (start first second third : List ListedMonitor) (a b c : List RegisteredMonitor) → start ≡ [] → first ≡ start ++ map f a → second ≡ first ++ map f b → third ≡ second ++ map f c
      → third ≡ map f (a ++ (b ++ (c ++ [])))
  three_parts start first second third a b c none one two three =
      three
      ∙ ap (λ l. l ++ map f c) (two ∙ ap (λ l. l ++ map f b) (one ∙ ap (λ l. l ++ map f a) none))
      ∙ append_assoc (map f a) (map f b) (map f c)
      ∙ ap (λ l. map f a ++ l)
      (ap (λ l. map f b ++ l) (ap (map f) (sym (append-nil c))) ∙ sym (map-append f b (c ++ [])))
      ∙ sym (map-append f a (b ++ (c ++ [])))
