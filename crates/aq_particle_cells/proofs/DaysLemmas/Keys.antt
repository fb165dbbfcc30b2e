-- Keys of numbers that are compared one after another: which of them are the same.
use Rattle.std.proofs.Common.{◌≡◌, ℕ, Bool, true, false, ◌&&◌, refl, arith}
use Rattle.std.specs.Prelude.{◌==◌}
use Rattle.std.specs.Ordering.{nat_cmp, ordering_then, is_eq}
use Rattle.std.specs.declared.cmp.Ordering.{Ordering}
use Rattle.std.specs.declared.cmp.Ordering.TheVariants.{Less, Equal, Greater}
use Rattle.std.proofs.lemmas.Bool.Decides.{nat_tests}

pub eq-then : (a b : Ordering) → is_eq (ordering_then a b) ≡ (is_eq a && is_eq b)
eq-then Less b = refl
eq-then Equal b = refl
eq-then Greater b = refl

pub eq-nat : (x y : ℕ) → is_eq (nat_cmp x y) ≡ (x == y)
eq-nat x y = grind (arith, nat_tests)

pub and-assoc4 : (a b c d : Bool) → (a && (b && (c && d))) ≡ (a && b && c && d)
and-assoc4 true true true d = refl
and-assoc4 true true false d = refl
and-assoc4 true false c d = refl
and-assoc4 false b c d = refl
