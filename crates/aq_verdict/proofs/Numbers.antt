-- Quotients that fit.
use Rattle.std.proofs.Common.{◌≡◌, ℕ, ◌-◌, ◌*◌, ◌^◌, ◌<◌, ◌≤◌, ℤ, pos, negsuc, neg_ℤ, ◌+ℤ◌, ◌*ℤ◌, ◌≤ℤ◌, ◌<ℤ◌, unsigned_abs, FitsSigned, arith, lit<}
use Rattle.std.specs.Prelude.{int_rem}
use Rattle.std.specs.Int.{w32, w128}
use Rattle.std.proofs.lemmas.Int.{ints, quot-rem, rem_below}
use Rattle.std.proofs.Math.Nat.{mul-le-mul_right}
use Rattle.aq_base.specs.Decimal.{truncated, half_up}
use Rattle.aq_rules.proofs.Held.{half_up-held}

-- the truncated mean of three numbers fits where they do
pub third-fits : (a b c : ℤ) → FitsSigned w32 a → FitsSigned w32 b → FitsSigned w32 c → FitsSigned w32 (truncated (a +ℤ b +ℤ c) (pos 3))
third-fits a b c a_fits b_fits c_fits =
    let whole = quot-rem (a +ℤ b +ℤ c) (pos 3) in
    let rest : unsigned_abs (int_rem (a +ℤ b +ℤ c) (pos 3)) < 3 = rem_below (a +ℤ b +ℤ c) (pos 3) (lit< tt) in
    omega (arith, ints)

-- a rounded quotient fits where the fraction does
pub rounded-fits : (num den : ℤ) → pos 0 <ℤ den → neg_ℤ (pos (2 ^ 31 * unsigned_abs den)) ≤ℤ num → num ≤ℤ pos ((2 ^ 31 - 1) * unsigned_abs den) → FitsSigned w32 (half_up num den)
rounded-fits num (pos den) some low high =
    let held = half_up-held num den (2 ^ 31) (2 ^ 31 - 1) (omega (arith, ints, some)) low high in
    omega (arith, ints, held.0, held.1)
rounded-fits num (negsuc den) some low high = absurd (omega (arith, ints, some))

-- nothing and a number
pub zero-plus : (a : ℤ) → pos 0 +ℤ a ≡ a
zero-plus a = omega (arith, ints)

-- a mean of up to twelve quarterly means fits 128 bits, and is rounded within 32
pub record MeanFits (num den : ℤ) (number : ℕ) : Type 0 where
  pub above : FitsSigned w128 num
  pub below : FitsSigned w128 den
  pub count : FitsSigned w128 (pos number)
  pub product : FitsSigned w128 (pos number *ℤ den)
  pub low : neg_ℤ (pos (2 ^ 31 * unsigned_abs (pos number *ℤ den))) ≤ℤ num
  pub high : num ≤ℤ pos ((2 ^ 31 - 1) * unsigned_abs (pos number *ℤ den))

pub mean-fits : (num den : ℤ) (number : ℕ) → pos 0 <ℤ den → den <ℤ pos (2 ^ 81) → unsigned_abs num ≤ 12 * 10299897 * unsigned_abs den → 1 ≤ number → number ≤ 12 → MeanFits num den number
mean-fits num (pos d) number positive small within some few =
    let least : 1 * d ≤ number * d = mul-le-mul_right d some in
    let most : number * d ≤ 12 * d = mul-le-mul_right d few in
    record {
      above = omega (arith, ints, small, within);
      below = omega (arith, ints, small);
      count = omega (arith, ints, few);
      product = omega (arith, ints, small, most);
      low = omega (arith, ints, within, least);
      high = omega (arith, ints, within, least);
    }
mean-fits num (negsuc d) number positive small within some few = absurd (omega (arith, ints, positive))
