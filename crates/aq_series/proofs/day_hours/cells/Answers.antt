use Rattle.std.proofs.Common.{◌≡◌, ℕ, zero, suc, None, get_or, replicate, refl, sym, subst, arith}
use Rattle.std.specs.Prelude.{Option, IfSome}
use Rattle.aq_rules.specs.Ozone.SiteHour.{Cell}
use Rattle.aq_series.specs.Samples.{IsOzone}
use Rattle.aq_series.proofs.day_hours.cells.Goals as goal

abbrev nothing : Option Cell
nothing = None

none_there : (n k : ℕ) → get_or (replicate n nothing) k nothing ≡ nothing
none_there zero k = refl
none_there (suc n) zero = refl
none_there (suc n) (suc k) = none_there n k

pub loop-i-init : goal.loop-i-init
loop-i-init c = record {
  many = refl;
  values = λ k d within. absurd (omega (arith, within));
  range = λ k. subst (λ (o : Option Cell). IfSome o (λ (cell : Cell). IsOzone cell.value)) (sym (none_there 192 k)) tt;
}
