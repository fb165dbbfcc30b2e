-- Lemmas, no definition: if no cell is excluded, the net values of eight hours are the full ones.
use Rattle.std.proofs.Common.{◌≡◌, Bool, true, false, cond, not, ◌||◌, List, [], ◌∷◌, refl, ap}
use Rattle.std.specs.List.{list_any, filter}
use Rattle.std.specs.Prelude.{ℤ}
use Rattle.aq_rules.specs.Ozone.SiteHour.{Cell}
use Rattle.aq_rules.specs.Ozone.EightHour.{row_of, net_values, full_values}

net_values-all : (cells : List Cell) → list_any (λ (c : Cell). c.excluded) cells ≡ false → net_values cells ≡ full_values cells
net_values-all [] none = refl
net_values-all (cell ∷ cells) none = by_flag cell.excluded cells none (net_values-all cells)
  where
    by_flag : (flag : Bool) (rest : List Cell) → (flag || list_any (λ (c : Cell). c.excluded) rest) ≡ false
        → (list_any (λ (c : Cell). c.excluded) rest ≡ false → net_values rest ≡ full_values rest)
        → full_values (cond (not flag) (cell ∷ filter (λ (c : Cell). not c.excluded) rest) (filter (λ (c : Cell). not c.excluded) rest)) ≡ full_values (cell ∷ rest)
    by_flag true rest none before = cc
    by_flag false rest none before = ap (λ (l : List ℤ). cell.value ∷ l) (before none)

pub row-unexcluded : (cells : List Cell) → list_any (λ (c : Cell). c.excluded) cells ≡ false
    → row_of cells ≡ record { net = (row_of cells).full; net_hours = (row_of cells).full_hours; full = (row_of cells).full; full_hours = (row_of cells).full_hours }
row-unexcluded cells none = rw (net_values-all cells none) refl
