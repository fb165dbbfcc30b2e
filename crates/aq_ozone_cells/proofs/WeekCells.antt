-- Cells of weeks that are filled, while others wait.
use Rattle.std.proofs.Common.{◌≡◌, ℕ, ◌+◌, ◌-◌, ◌/◌, ◌<◌, ◌≤◌, Bool, true, false, ◌&&◌, ◌||◌, ◌⊎◌, List, [], ◌∷◌, ◌++◌, refl, sym, ap, ◌∙◌, arith, inl, inr}
use Rattle.std.specs.Prelude.{Some}
use Rattle.std.specs.List.{list_any}
use Rattle.std.proofs.lemmas.Bool.{false≢true}
use Rattle.std.proofs.lemmas.List.Folds.{list_any-append}
use Rattle.aq_base.specs.Site.{Site}
use Rattle.aq_base.specs.declared.day.TheConstants.{LAST_DAY}
use Rattle.aq_rules.specs.Kept.Cells.{CellName}
use Rattle.aq_rules.specs.Office.Monitors.{is_same_site}
use Rattle.aq_rules.specs.Office.Office.{Office}
use Rattle.aq_ozone_cells.specs.FilledDays.{IsDayOf, IsSameDay}
use Rattle.aq_ozone_cells.specs.Filling.{is_within, IsWeekOf}
use Rattle.aq_ozone_cells.specs.OzoneCells.{is_among, Cells}
use Rattle.aq_ozone_cells.specs.Settling.{is_of_week, AreWeeksOf, CellsStay, IsCellOf}
use Rattle.aq_ozone_cells.specs.declared.filling.Week.{Week}
use Rattle.aq_ozone_cells.proofs.FillLemmas.{either, week-has}
use Rattle.aq_ozone_cells.proofs.SettledCells.{cells-stay, day-counts, day-parts, each-level, same-counts, same-parts}

-- ---- a week that is filled

module _ (office : Office) (before after : Cells) (week : Week)
    (filled : (day : ℕ) → week.first ≤ day → day < week.first + 7 → day ≤ LAST_DAY → IsDayOf office after week.site day) where
  has : (site : Site) (day : ℕ) → is_within (Some week) site day day ≡ true → day ≤ LAST_DAY → IsDayOf office after site day
  unfolding IsWeekOf
  has site day is within = week-has office after (Some week) site day day filled is day (omega arith) (omega arith) within

  pub week-cell : (cell : CellName) → is_of_week week cell ≡ true → IsCellOf office after cell
  week-cell =
      each-level (λ cell. is_of_week week cell ≡ true) office after
      (λ site hour of within. (has site (hour / 24) of (omega (arith, within))).hours hour refl)
      (λ site start of within kept. (has site (start / 24) of (omega (arith, within))).averages start refl kept)
      (λ site day of within. day-parts office after site day (has site day of within).held)
      (λ site year of. absurd (false≢true of))

  module _ (others : (other : Site) (day : ℕ) → (is_same_site week.site other && is_among week.first 7 day) ≡ false → IsSameDay before after other day) where
    either_day : (other : Site) (day : ℕ) → day ≤ LAST_DAY → IsDayOf office after other day ⊎ IsSameDay before after other day
    either_day = either office before after week.site week.first filled others

    pub week-stay : CellsStay office before after
    week-stay =
        cells-stay office before after
        (λ other hour of within. elim (either_day other (hour / 24) (omega (arith, within))) [
          | inl day ↦ day.hours hour refl
          | inr same ↦ same.hours hour refl ∙ of within
        ])
        (λ other start of within kept. elim (either_day other (start / 24) (omega (arith, within))) [
          | inl day ↦ day.averages start refl kept
          | inr same ↦ same.averages start refl ∙ of within kept
        ])
        (λ other day within of. elim (either_day other day within) [
          | inl is ↦ day-parts office after other day is.held
          | inr same ↦ same-parts office before after other day same.held of
        ])
        (λ other day within of. elim (either_day other day within) [
          | inl is ↦ day-counts office after other day is.held
          | inr same ↦ same-counts office before after other day same.held of
        ])

-- ---- weeks

pub weeks-none : (office : Office) (cells : Cells) (weeks : List Week) → weeks ≡ [] → AreWeeksOf office cells weeks
unfolding AreWeeksOf
weeks-none office cells weeks none cell any = absurd (false≢true (sym (ap (list_any (λ week. is_of_week week cell)) none) ∙ any))

pub weeks-at : (office : Office) (cells : Cells) (weeks : List Week) → AreWeeksOf office cells weeks
    → (cell : CellName) → list_any (λ week. is_of_week week cell) weeks ≡ true → IsCellOf office cells cell
unfolding AreWeeksOf
weeks-at office cells weeks are = are

pub weeks-stay : (office : Office) (before after : Cells) (weeks : List Week) → CellsStay office before after → AreWeeksOf office before weeks → AreWeeksOf office after weeks
unfolding AreWeeksOf CellsStay
weeks-stay office before after weeks stay are cell any = stay cell (are cell any)

pub weeks-more : (office : Office) (before after : Cells) (weeks : List Week) (week : Week) → CellsStay office before after → AreWeeksOf office before weeks
    → ((cell : CellName) → is_of_week week cell ≡ true → IsCellOf office after cell) → AreWeeksOf office after (weeks ++ week ∷ [])
unfolding AreWeeksOf CellsStay
weeks-more office before after weeks week stay are filled cell any =
    by (list_any (λ week. is_of_week week cell) weeks) refl (is_of_week week cell) refl (sym (list_any-append (λ week. is_of_week week cell) weeks (week ∷ [])) ∙ any)
  where
    by : (b : Bool) → list_any (λ week. is_of_week week cell) weeks ≡ b → (c : Bool) → is_of_week week cell ≡ c → (b || (c || false)) ≡ true → IsCellOf office after cell
    by true old c is holds = stay cell (are cell old)
    by false old true is holds = filled cell is
    by false old false is holds = absurd (false≢true holds)
