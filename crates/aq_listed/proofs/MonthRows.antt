-- The rows of a monitor, month by month, and of one monitor after another.
use Rattle.std.proofs.Common.{◌≡◌, ℕ, ◌+◌, ◌-◌, ◌≤◌, Bool, Some, None, Option, List, [], ◌∷◌, ◌++◌, map, refl, ap, sym, ◌∙◌, arith}
use Rattle.std.specs.Prelude.{option_map}
use Rattle.std.specs.List.{range_with_len}
use Rattle.std.specs.Option.{option_map_or}
use Rattle.std.proofs.lemmas.List.{append_assoc}
use Rattle.std.proofs.lemmas.List.FromFn.{map-range_with_len_more}
use Rattle.aq_base.specs.declared.monitor.Duration.{Duration}
use Rattle.aq_base.specs.declared.monitor.MonitorId.{MonitorId}
use Rattle.aq_rules.specs.Listed.Completeness.{ListedMonth, counts_with, due_hours, month_counts, months_of}
use Rattle.aq_rules.specs.Listed.Places.{days_of_month}
use Rattle.aq_rules.specs.Office.Office.{Office}
use Rattle.aq_rules.specs.Office.Questions.{Registered, registration_of}
use Rattle.aq_registry.specs.Registry.{pair_of}
use Rattle.aq_listed.specs.MonitorMonths.{months_at, registered_as}

module _ (office : Office) (year : ℕ) (monitor : MonitorId) where
  -- ---- the months of a monitor

  module _ (duration : Duration) where
    abbrev pub row_of : ℕ → ListedMonth
    row_of month = record {
      poc = monitor.poc;
      month = month;
      counts = counts_with office monitor year month (due_hours office monitor duration (days_of_month year month));
    }

    abbrev pub rows_before : ℕ → List ListedMonth
    rows_before month = map row_of (range_with_len 1 (month - 1))

    pub rows_more : (start rows more : List ListedMonth) (month : ℕ) (row : ListedMonth) → 1 ≤ month → rows ≡ start ++ rows_before month → more ≡ rows ++ row ∷ [] → row ≡ row_of month → more ≡ start ++ rows_before (month + 1)
    rows_more start rows more month row low before pushed is =
        let next : month - 1 + 1 ≡ month + 1 - 1 = omega (arith, low) in
        pushed
        ∙ (λ i. before i ++ is i ∷ [])
        ∙ append_assoc start (rows_before month) (row_of month ∷ [])
        ∙ ap (λ (l : List ListedMonth). start ++ l) (sym (map-range_with_len_more row_of 1 (month - 1) month (omega (arith, low))))
        ∙ ap (λ n. start ++ map row_of (range_with_len 1 n)) next

    pub year_rows : (eligible : Bool) → rows_before 13 ≡ months_of office year (registered_as monitor duration eligible)
    unfolding month_counts
    year_rows eligible = refl

  -- ---- a monitor, registered or not

  abbrev rows_in : Option Registered → List ListedMonth
  rows_in o = option_map_or (λ (r : Registered). months_of office year (registered_as monitor r.duration r.eligible)) o []

  registered : (o : Option Registered) (duration : Duration) (eligible : Bool) → Some (duration, eligible) ≡ option_map pair_of o → months_of office year (registered_as monitor duration eligible) ≡ rows_in o
  registered None duration eligible is = cc
  registered (Some r) duration eligible is =
      let one : (duration, eligible) ≡ (r.duration, r.eligible) = cc in
      ap (λ (p : Duration × Bool). months_of office year (registered_as monitor p.0 p.1)) one

  unregistered : (o : Option Registered) → None ≡ option_map pair_of o → [] ≡ rows_in o
  unregistered None is = refl
  unregistered (Some r) is = cc

  pub months_found : (duration : Duration) (eligible : Bool) → Some (duration, eligible) ≡ option_map pair_of (registration_of office.records monitor) → months_of office year (registered_as monitor duration eligible) ≡ months_at office year monitor
  months_found duration eligible is = registered (registration_of office.records monitor) duration eligible is

  pub months_none : None ≡ option_map pair_of (registration_of office.records monitor) → [] ≡ months_at office year monitor
  months_none is = unregistered (registration_of office.records monitor) is
