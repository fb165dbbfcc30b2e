-- Seasons of one length: nine tenths on average is nine tenths of all their days.
use Rattle.std.proofs.Common.{◌≡◌, ℕ, ◌+◌, ◌*◌, ◌<◌, ◌≤◌, Bool, true, false, refl, arith}
use Rattle.std.specs.Prelude.{nat_le}
use Rattle.std.proofs.lemmas.Bool.Decides.{nat_tests}
use Rattle.std.proofs.Math.Nat.{mul-le-mul_right, le-mul_of_pos_right}
use Rattle.aq_rules.specs.Ozone.OzoneYear.{OzoneYear}
use Rattle.aq_rules.specs.Ozone.OzoneVerdict.{is_average_kept}

grown : (d v : ℕ) → 27 * d ≤ v → 27 * (d * d * d) ≤ v * (d * d)
grown d v h = omega (arith, mul-le-mul_right (d * d) h)

shrunk : (d v : ℕ) → 0 < d → v < 27 * d → v * (d * d) < 27 * (d * d * d)
shrunk d v some h =
    let more : (v + 1) * (d * d) ≤ 27 * d * (d * d) = mul-le-mul_right (d * d) (omega arith) in
    let square : d ≤ d * d = le-mul_of_pos_right d some in
    omega (arith, more, square)

pub equal_seasons : (d v1 v2 v3 : ℕ) → 0 < d
    → nat_le (27 * (d * d * d)) (10 * (v1 * d * d + v2 * d * d + v3 * d * d)) ≡ nat_le (27 * d) (10 * (v1 + v2 + v3))
equal_seasons d v1 v2 v3 some = by_test (nat_le (27 * d) (10 * (v1 + v2 + v3))) refl
  where
    by_test : (b : Bool) → nat_le (27 * d) (10 * (v1 + v2 + v3)) ≡ b → nat_le (27 * (d * d * d)) (10 * (v1 * d * d + v2 * d * d + v3 * d * d)) ≡ b
    by_test true h =
        let below : 27 * d ≤ 10 * (v1 + v2 + v3) = grind (arith, nat_tests) in
        let result : 27 * (d * d * d) ≤ 10 * (v1 * d * d + v2 * d * d + v3 * d * d) = omega (arith, grown d (10 * (v1 + v2 + v3)) below) in
        grind (arith, nat_tests)
    by_test false h =
        let above : 10 * (v1 + v2 + v3) < 27 * d = grind (arith, nat_tests) in
        let result : 10 * (v1 * d * d + v2 * d * d + v3 * d * d) < 27 * (d * d * d) = omega (arith, shrunk d (10 * (v1 + v2 + v3)) some above) in
        grind (arith, nat_tests)

pub average_kept-equal_seasons : (a b c : OzoneYear) → 0 < a.season_days → b.season_days ≡ a.season_days → c.season_days ≡ a.season_days
    → is_average_kept a b c ≡ nat_le (27 * a.season_days) (10 * (a.season_valid + b.season_valid + c.season_valid))
average_kept-equal_seasons a b c some second third =
    rw (second, third) (equal_seasons a.season_days a.season_valid b.season_valid c.season_valid some)
