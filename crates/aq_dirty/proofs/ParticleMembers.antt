-- The particle cells that are held, as a list.
use Rattle.std.proofs.Common.{◌≡◌, ℕ, Bool, true, false, ◌&&◌, ◌||◌, ◌==◌, List, ◌++◌, refl, ap, ◌∙◌}
use Rattle.std.specs.List.{list_any}
use Rattle.std.proofs.lemmas.List.Folds.{list_any-append}
use Rattle.aq_base.specs.Site.{Site}
use Rattle.aq_base.specs.declared.monitor.Pollutant.{Pollutant}
use Rattle.aq_base.specs.declared.monitor.Pollutant.TheVariants.{Ozone, Pm25, Pm10}
use Rattle.aq_rules.specs.Kept.Cells.{CellName as Cell, HourCell, WindowCell, OzoneDayCell, OzoneYearCell, PmDayCell, StratumCell, QuarterCell, PmYearCell, is_same_cell}
use Rattle.aq_rules.specs.Office.Monitors.{is_same_pollutant, is_same_site}
use Rattle.aq_dirty.specs.declared.spans.Span.{Span}
use Rattle.aq_dirty.specs.Marked.{cells_in_spans}
use Rattle.aq_dirty.specs.Particles.{day_cell, holds_particle, particle_cells_of, quarter_cell, MarkedParticles}
use Rattle.aq_dirty.specs.Spans.{holds}
use Rattle.aq_dirty.proofs.Members.{in_none, in_one}

or_none : (a : Bool) → (a || false) ≡ a
or_none true = refl
or_none false = refl

and_all : (a : Bool) → (a && true) ≡ a
and_all true = refl
and_all false = refl

and_none : (a : Bool) → (a && false) ≡ false
and_none true = refl
and_none false = refl

six : (test : Cell → Bool) (a b c d e f : List Cell) → list_any test (a ++ b ++ c ++ d ++ e ++ f)
    ≡ (((((list_any test a || list_any test b) || list_any test c) || list_any test d) || list_any test e) || list_any test f)
six test a b c d e f =
    list_any-append test (a ++ b ++ c ++ d ++ e) f
    ∙ ap (λ t. t || list_any test f) (list_any-append test (a ++ b ++ c ++ d) e)
    ∙ ap (λ t. (t || list_any test e) || list_any test f) (list_any-append test (a ++ b ++ c) d)
    ∙ ap (λ t. ((t || list_any test d) || list_any test e) || list_any test f) (list_any-append test (a ++ b) c)
    ∙ ap (λ t. (((t || list_any test c) || list_any test d) || list_any test e) || list_any test f) (list_any-append test a b)

module _ (marked : MarkedParticles) where
  -- what the cells of each kind have of a test
  abbrev Share : (Cell → Bool) → (Site → ℕ → Cell) → List Span → Bool → Type 0
  Share test cell spans b = list_any test (cells_in_spans cell spans) ≡ b

  joined : (test : Cell → Bool) (a b c d e f : Bool) → Share test (day_cell Pm25) marked.pm25_days a → Share test (day_cell Pm10) marked.pm10_days b → Share test StratumCell marked.strata c
      → Share test (quarter_cell Pm25) marked.pm25_quarters d → Share test (quarter_cell Pm10) marked.pm10_quarters e → Share test PmYearCell marked.years f
      → list_any test (particle_cells_of marked) ≡ (((((a || b) || c) || d) || e) || f)
  unfolding particle_cells_of
  joined test a b c d e f p q r s t u =
      six test (cells_in_spans (day_cell Pm25) marked.pm25_days) (cells_in_spans (day_cell Pm10) marked.pm10_days) (cells_in_spans StratumCell marked.strata)
      (cells_in_spans (quarter_cell Pm25) marked.pm25_quarters) (cells_in_spans (quarter_cell Pm10) marked.pm10_quarters) (cells_in_spans PmYearCell marked.years)
      ∙ (λ i. ((((p i || q i) || r i) || s i) || t i) || u i)

  ozone : (test : Cell → Bool) → ((site : Site) (pollutant : Pollutant) (n : ℕ) → test (PmDayCell site pollutant n) ≡ false) → ((site : Site) (n : ℕ) → test (StratumCell site n) ≡ false)
      → ((site : Site) (pollutant : Pollutant) (n : ℕ) → test (QuarterCell site pollutant n) ≡ false) → ((site : Site) (n : ℕ) → test (PmYearCell site n) ≡ false)
      → list_any test (particle_cells_of marked) ≡ false
  ozone test day stratum quarter year =
      joined test false false false false false false
      (in_none test (day_cell Pm25) marked.pm25_days (λ site n. day site Pm25 n)) (in_none test (day_cell Pm10) marked.pm10_days (λ site n. day site Pm10 n))
      (in_none test StratumCell marked.strata stratum)
      (in_none test (quarter_cell Pm25) marked.pm25_quarters (λ site n. quarter site Pm25 n)) (in_none test (quarter_cell Pm10) marked.pm10_quarters (λ site n. quarter site Pm10 n))
      (in_none test PmYearCell marked.years year)

  -- a day by its pollutant, and a quarter
  module _ (site : Site) (n : ℕ) where
    other_days : (kind pollutant : Pollutant) (days : List Span) → ((x : Bool) → (x && is_same_pollutant kind pollutant) ≡ false) → Share (is_same_cell (PmDayCell site kind n)) (day_cell pollutant) days false
    other_days kind pollutant days apart = in_none (is_same_cell (PmDayCell site kind n)) (day_cell pollutant) days (λ other m. apart ((n == m) && is_same_site site other))

    own_days : (kind : Pollutant) (days : List Span) → ((x : Bool) → (x && is_same_pollutant kind kind) ≡ x) → Share (is_same_cell (PmDayCell site kind n)) (day_cell kind) days (holds site n days)
    own_days kind days one = in_one (is_same_cell (PmDayCell site kind n)) (day_cell kind) site n days (λ other m. one ((n == m) && is_same_site site other))

    other_quarters : (kind pollutant : Pollutant) (quarters : List Span) → ((x : Bool) → (x && is_same_pollutant kind pollutant) ≡ false) → Share (is_same_cell (QuarterCell site kind n)) (quarter_cell pollutant) quarters false
    other_quarters kind pollutant quarters apart = in_none (is_same_cell (QuarterCell site kind n)) (quarter_cell pollutant) quarters (λ other m. apart ((n == m) && is_same_site site other))

    own_quarters : (kind : Pollutant) (quarters : List Span) → ((x : Bool) → (x && is_same_pollutant kind kind) ≡ x) → Share (is_same_cell (QuarterCell site kind n)) (quarter_cell kind) quarters (holds site n quarters)
    own_quarters kind quarters one = in_one (is_same_cell (QuarterCell site kind n)) (quarter_cell kind) site n quarters (λ other m. one ((n == m) && is_same_site site other))

    day : (kind : Pollutant) (a b : Bool) → Share (is_same_cell (PmDayCell site kind n)) (day_cell Pm25) marked.pm25_days a → Share (is_same_cell (PmDayCell site kind n)) (day_cell Pm10) marked.pm10_days b
        → list_any (is_same_cell (PmDayCell site kind n)) (particle_cells_of marked) ≡ (((((a || b) || false) || false) || false) || false)
    day kind a b p q =
        let test = is_same_cell (PmDayCell site kind n) in
        joined test a b false false false false p q
        (in_none test StratumCell marked.strata (λ _ _. refl)) (in_none test (quarter_cell Pm25) marked.pm25_quarters (λ _ _. refl))
        (in_none test (quarter_cell Pm10) marked.pm10_quarters (λ _ _. refl)) (in_none test PmYearCell marked.years (λ _ _. refl))

    quarter : (kind : Pollutant) (a b : Bool) → Share (is_same_cell (QuarterCell site kind n)) (quarter_cell Pm25) marked.pm25_quarters a → Share (is_same_cell (QuarterCell site kind n)) (quarter_cell Pm10) marked.pm10_quarters b
        → list_any (is_same_cell (QuarterCell site kind n)) (particle_cells_of marked) ≡ ((a || b) || false)
    quarter kind a b p q =
        let test = is_same_cell (QuarterCell site kind n) in
        joined test false false false a b false
        (in_none test (day_cell Pm25) marked.pm25_days (λ _ _. refl)) (in_none test (day_cell Pm10) marked.pm10_days (λ _ _. refl))
        (in_none test StratumCell marked.strata (λ _ _. refl)) p q (in_none test PmYearCell marked.years (λ _ _. refl))

pub held_particles : (marked : MarkedParticles) (cell : Cell) → list_any (is_same_cell cell) (particle_cells_of marked) ≡ holds_particle marked cell
held_particles marked (HourCell site n) = ozone marked (is_same_cell (HourCell site n)) (λ _ _ _. refl) (λ _ _. refl) (λ _ _ _. refl) (λ _ _. refl)
held_particles marked (WindowCell site n) = ozone marked (is_same_cell (WindowCell site n)) (λ _ _ _. refl) (λ _ _. refl) (λ _ _ _. refl) (λ _ _. refl)
held_particles marked (OzoneDayCell site n) = ozone marked (is_same_cell (OzoneDayCell site n)) (λ _ _ _. refl) (λ _ _. refl) (λ _ _ _. refl) (λ _ _. refl)
held_particles marked (OzoneYearCell site n) = ozone marked (is_same_cell (OzoneYearCell site n)) (λ _ _ _. refl) (λ _ _. refl) (λ _ _ _. refl) (λ _ _. refl)
held_particles marked (PmDayCell site Ozone n) =
    day marked site n Ozone false false (other_days marked site n Ozone Pm25 marked.pm25_days and_none) (other_days marked site n Ozone Pm10 marked.pm10_days and_none)
held_particles marked (PmDayCell site Pm25 n) =
    day marked site n Pm25 (holds site n marked.pm25_days) false (own_days marked site n Pm25 marked.pm25_days and_all) (other_days marked site n Pm25 Pm10 marked.pm10_days and_none)
    ∙ or_none _ ∙ or_none _ ∙ or_none _ ∙ or_none _ ∙ or_none _
held_particles marked (PmDayCell site Pm10 n) =
    day marked site n Pm10 false (holds site n marked.pm10_days) (other_days marked site n Pm10 Pm25 marked.pm25_days and_none) (own_days marked site n Pm10 marked.pm10_days and_all)
    ∙ or_none _ ∙ or_none _ ∙ or_none _ ∙ or_none _
held_particles marked (StratumCell site n) =
    let test = is_same_cell (StratumCell site n) in
    joined marked test false false (holds site n marked.strata) false false false
    (in_none test (day_cell Pm25) marked.pm25_days (λ _ _. refl)) (in_none test (day_cell Pm10) marked.pm10_days (λ _ _. refl)) (in_one test StratumCell site n marked.strata (λ _ _. refl))
    (in_none test (quarter_cell Pm25) marked.pm25_quarters (λ _ _. refl)) (in_none test (quarter_cell Pm10) marked.pm10_quarters (λ _ _. refl)) (in_none test PmYearCell marked.years (λ _ _. refl))
    ∙ or_none _ ∙ or_none _ ∙ or_none _
held_particles marked (QuarterCell site Ozone n) =
    quarter marked site n Ozone false false (other_quarters marked site n Ozone Pm25 marked.pm25_quarters and_none) (other_quarters marked site n Ozone Pm10 marked.pm10_quarters and_none)
held_particles marked (QuarterCell site Pm25 n) =
    quarter marked site n Pm25 (holds site n marked.pm25_quarters) false (own_quarters marked site n Pm25 marked.pm25_quarters and_all) (other_quarters marked site n Pm25 Pm10 marked.pm10_quarters and_none)
    ∙ or_none _ ∙ or_none _
held_particles marked (QuarterCell site Pm10 n) =
    quarter marked site n Pm10 false (holds site n marked.pm10_quarters) (other_quarters marked site n Pm10 Pm25 marked.pm25_quarters and_none) (own_quarters marked site n Pm10 marked.pm10_quarters and_all)
    ∙ or_none _
held_particles marked (PmYearCell site n) =
    let test = is_same_cell (PmYearCell site n) in
    joined marked test false false false false false (holds site n marked.years)
    (in_none test (day_cell Pm25) marked.pm25_days (λ _ _. refl)) (in_none test (day_cell Pm10) marked.pm10_days (λ _ _. refl)) (in_none test StratumCell marked.strata (λ _ _. refl))
    (in_none test (quarter_cell Pm25) marked.pm25_quarters (λ _ _. refl)) (in_none test (quarter_cell Pm10) marked.pm10_quarters (λ _ _. refl)) (in_one test PmYearCell site n marked.years (λ _ _. refl))
