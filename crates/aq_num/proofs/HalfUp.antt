-- A rounded quotient depends on the fraction alone, and not on how it is written.
use Rattle.std.proofs.Common.{◌≡◌, ℕ, suc, ◌+◌, ◌-◌, ◌*◌, ◌/◌, ◌<◌, ℤ, pos, negsuc, ◌+ℤ◌, ◌*ℤ◌, sym, ap, ◌∙◌, arith}
use Rattle.std.specs.Int.{int_div_euclid}
use Rattle.std.proofs.Math.Nat.{mul-div-mul_right, mul-add-div_right, div-div-eq-div-mul, mul_comm, mul_assoc, div-eq_of_lt}
use Rattle.std.proofs.Math.IntN.{*ℤ_comm}
use Rattle.aq_base.specs.Decimal.{half_up}
use Rattle.aq_num.proofs.Sums.{scale-add, scale-scale}

-- both sides times k
pub int_div_euclid-scaled : (z : ℤ) (d k : ℕ) → 0 < k → int_div_euclid (z *ℤ pos k) (pos (d * k)) ≡ int_div_euclid z (pos d)
int_div_euclid-scaled (pos a) d k above = ap pos (mul-div-mul_right a d above)
int_div_euclid-scaled (negsuc a) d k above =
    let below : suc a * k ≡ suc (a * k + (k - 1)) = omega arith in
    let none : (k - 1) / k ≡ 0 = div-eq_of_lt (omega arith) in
    let inner : (a * k + (k - 1)) / k ≡ a = mul-add-div_right above a (k - 1) ∙ omega arith in
    let whole : (a * k + (k - 1)) / (d * k) ≡ a / d =
    ap (λ n. (a * k + (k - 1)) / n) (mul_comm d k) ∙ sym (div-div-eq-div-mul (a * k + (k - 1)) k d)
    ∙ ap (λ n. n / d) inner
    in
    rw below (ap negsuc whole)

pub half_up-scaled : (z : ℤ) (d k : ℕ) → 0 < k → half_up (z *ℤ pos k) (pos (d * k)) ≡ half_up z (pos d)
half_up-scaled z d k above =
    let doubled : pos 2 *ℤ (z *ℤ pos k) ≡ (pos 2 *ℤ z) *ℤ pos k =
    *ℤ_comm (pos 2) (z *ℤ pos k) ∙ scale-scale z k 2 ∙ ap (λ n. z *ℤ pos n) (mul_comm k 2)
    ∙ sym (scale-scale z 2 k) ∙ ap (λ y. y *ℤ pos k) (*ℤ_comm z (pos 2))
    in
    let above_line : (pos 2 *ℤ (z *ℤ pos k)) +ℤ pos (d * k) ≡ ((pos 2 *ℤ z) +ℤ pos d) *ℤ pos k =
    ap (λ y. y +ℤ pos (d * k)) doubled ∙ sym (scale-add (pos 2 *ℤ z) (pos d) k)
    in
    ap (λ y. int_div_euclid y (pos (2 * (d * k)))) above_line
    ∙ ap (λ n. int_div_euclid (((pos 2 *ℤ z) +ℤ pos d) *ℤ pos k) (pos n)) (sym (mul_assoc 2 d k))
    ∙ int_div_euclid-scaled ((pos 2 *ℤ z) +ℤ pos d) (2 * d) k above

-- z / d and y / c are one fraction
pub half_up-same : (z y : ℤ) (d c : ℕ) → 0 < d → 0 < c → z *ℤ pos c ≡ y *ℤ pos d → half_up z (pos d) ≡ half_up y (pos c)
half_up-same z y d c d_above c_above same =
    sym (half_up-scaled z d c c_above) ∙ ap (λ n. half_up n (pos (d * c))) same ∙ ap (λ n. half_up (y *ℤ pos d) (pos n)) (mul_comm d c) ∙ half_up-scaled y c d d_above
