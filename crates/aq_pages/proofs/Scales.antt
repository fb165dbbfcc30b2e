-- A place on a span is small.
use Rattle.std.proofs.Common.{ℕ, ◌<◌, ◌*◌, ◌/◌, ◌^◌, arith}
use Rattle.std.proofs.Math.Nat.{div-le_self}
use Rattle.std.proofs.lemmas.Nat.{mul-lt}

pub scaled_small : (number span top : ℕ) → number < 2 ^ 32 → span < 2 ^ 16 → number * span / top < 2 ^ 48
scaled_small number span top a b =
    let product : number * span < 2 ^ 32 * 2 ^ 16 = mul-lt number span (2 ^ 32) (2 ^ 16) a b in
    omega (arith, product, div-le_self (number * span) top)
