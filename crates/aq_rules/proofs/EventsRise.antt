-- The events of a site and pollutant rise by their numbers, as the records of an office do by their keys.
use Rattle.std.proofs.Common.{◌≡◌, ℕ, Bool, true, false, cond, ◌&&◌, List, [], ◌∷◌, refl, sym, ap, ◌∙◌, subst}
use Rattle.std.specs.Prelude.{Option, Some, None, filter_map}
use Rattle.std.specs.List.{cons_option}
use Rattle.std.proofs.lemmas.Bool.{and_from, and_parts}
use Rattle.aq_base.specs.Site.{Site}
use Rattle.aq_base.specs.declared.monitor.Pollutant.{Pollutant}
use Rattle.aq_base.specs.declared.office.OfficeRecord.{OfficeRecord}
use Rattle.aq_base.specs.declared.office.OfficeRecord.TheVariants.{Monitor, Primary, Schedule, Season, Makeup, Event, Concurrence, Approved, Combined}
use Rattle.aq_rules.specs.Office.Monitors.{is_same_site, is_same_pollutant}
use Rattle.aq_rules.specs.Office.Office.{Office, comes_before, record_rank, rises_from, rises}
use Rattle.aq_rules.specs.Office.RowOrder.{before-trans}
use Rattle.aq_rules.specs.WhatIf.Assumed.{event_at, events_at}

-- rows that rise from a key on
abbrev up : {X : Type 0} → (X → List ℕ) → List ℕ → List X → Bool
up rank key [] = true
up rank key (row ∷ rows) = comes_before key (rank row) && up rank (rank row) rows

up-from : {X : Type 0} (rank : X → List ℕ) (first : X) (rows : List X) → up rank (rank first) rows ≡ rises_from rank first rows
up-from rank first [] = refl
up-from rank first (row ∷ rows) = ap (λ b. comes_before (rank first) (rank row) && b) (up-from rank row rows)

up-lower : {X : Type 0} (rank : X → List ℕ) (low key : List ℕ) (rows : List X) → comes_before low key ≡ true → up rank key rows ≡ true → up rank low rows ≡ true
up-lower rank low key [] before rising = refl
up-lower rank low key (row ∷ rows) before rising =
    let parts = and_parts (comes_before key (rank row)) (up rank (rank row) rows) rising in
    and_from (comes_before low (rank row)) (up rank (rank row) rows) (before-trans low key (rank row) before parts.0) parts.1

-- the key of an event
abbrev event_rank : ℕ → List ℕ
event_rank number = 6 ∷ number ∷ []

module _ (site : Site) (pollutant : Pollutant) where
  ranked-event : (r : OfficeRecord) (number : ℕ) → event_at site pollutant r ≡ Some number → record_rank r ≡ event_rank number
  ranked-event (Monitor id duration eligible) number is = cc
  ranked-event (Primary other other_pollutant from poc) number is = cc
  ranked-event (Schedule other other_pollutant from interval anchor) number is = cc
  ranked-event (Season other year first last) number is = cc
  ranked-event (Makeup other missed makeup) number is = cc
  ranked-event (Event n other other_pollutant first last code) number is = by_test (is_same_site other site && is_same_pollutant other_pollutant pollutant) is
    where
      by_test : (t : Bool) → cond t (Some n) None ≡ Some number → event_rank n ≡ event_rank number
      by_test true is = let same : n ≡ number = cc in ap event_rank same
      by_test false is = cc
  ranked-event (Concurrence n agreed) number is = cc
  ranked-event (Approved other day) number is = cc
  ranked-event (Combined other other_pollutant from joined) number is = cc

  events-up : (key : List ℕ) (rows : List OfficeRecord) → up record_rank key rows ≡ true → up event_rank key (filter_map (event_at site pollutant) rows) ≡ true
  events-up key [] rising = refl
  events-up key (r ∷ rows) rising =
      let parts = and_parts (comes_before key (record_rank r)) (up record_rank (record_rank r) rows) rising in
      by_event (event_at site pollutant r) refl parts.0 (events-up key rows (up-lower record_rank key (record_rank r) rows parts.0 parts.1)) (events-up (record_rank r) rows parts.1)
    where
      by_event : (o : Option ℕ) → event_at site pollutant r ≡ o → comes_before key (record_rank r) ≡ true
          → up event_rank key (filter_map (event_at site pollutant) rows) ≡ true
          → up event_rank (record_rank r) (filter_map (event_at site pollutant) rows) ≡ true
          → up event_rank key (cons_option o (filter_map (event_at site pollutant) rows)) ≡ true
      by_event None is before without behind = without
      by_event (Some number) is before without behind =
          let rank = ranked-event r number is in
          and_from (comes_before key (event_rank number)) (up event_rank (event_rank number) (filter_map (event_at site pollutant) rows))
          (subst (λ l. comes_before key l ≡ true) rank before)
          (subst (λ l. up event_rank l (filter_map (event_at site pollutant) rows) ≡ true) rank behind)

-- keys of one kind rise as their numbers do
numbers-from : (first : ℕ) (numbers : List ℕ) → up event_rank (event_rank first) numbers ≡ rises_from (λ number. number ∷ []) first numbers
numbers-from first [] = refl
numbers-from first (number ∷ numbers) = ap (λ b. comes_before (first ∷ []) (number ∷ []) && b) (numbers-from number numbers)

numbers-rise : (key : List ℕ) (numbers : List ℕ) → up event_rank key numbers ≡ true → rises (λ number. number ∷ []) numbers ≡ true
numbers-rise key [] rising = refl
numbers-rise key (number ∷ numbers) rising =
    sym (numbers-from number numbers) ∙ (and_parts (comes_before key (event_rank number)) (up event_rank (event_rank number) numbers) rising).1

-- any list that rises does so from the empty key on, which comes before all others
up-all : (rows : List OfficeRecord) → rises record_rank rows ≡ true → up record_rank [] rows ≡ true
up-all [] rising = refl
up-all (row ∷ rows) rising = up-from record_rank row rows ∙ rising

pub events-rise : (office : Office) (site : Site) (pollutant : Pollutant) → rises record_rank office.records ≡ true → rises (λ number. number ∷ []) (events_at office site pollutant) ≡ true
events-rise office site pollutant rising =
    numbers-rise [] (events_at office site pollutant) (events-up site pollutant [] office.records (up-all office.records rising))
