-- More on the first days of the strata of a quarter, one day after the other.
use Rattle.std.proofs.Common.{◌≡◌, ℕ, zero, suc, ◌+◌, ◌-◌, ◌<◌, ◌≤◌, Bool, true, false, cond, refl, ap, ◌∙◌, arith}
use Rattle.aq_rules.specs.Particles.Strata.{begins}
use Rattle.aq_dirty.proofs.StratumStarts.{six-apart, start_of}

module _ (p : ℕ → Bool) (first : ℕ) where
  -- a stratum goes on until one begins
  pub goes-on : (m j : ℕ) → start_of p first m ≡ first + m → j < 6 → ((d : ℕ) → first + m < d → d ≤ first + m + j → p d ≡ false) → start_of p first (m + j) ≡ first + m
  goes-on m j begun few none = six-apart p first m j begun none ∙ omega (arith, few)

  -- where one begins the days behind it are in it or in later ones
  pub starts-later : (m j : ℕ) → start_of p first m ≡ first + m → first + m ≤ start_of p first (m + j)
  unfolding start_of
  starts-later m zero begun = let all : m + 0 ≡ m = omega arith in omega (arith, ap (start_of p first) all, begun)
  starts-later m (suc j) begun =
      let all : m + suc j ≡ suc (m + j) = omega arith in
      let rest = starts-later m j begun in
      omega (arith, ap (start_of p first) all, by (begins p (start_of p first (m + j)) (first + suc (m + j))) rest)
    where
      by : (b : Bool) → first + m ≤ start_of p first (m + j) → first + m ≤ cond b (first + suc (m + j)) (start_of p first (m + j))
      by true rest = omega arith
      by false rest = rest

  -- what begins a stratum is in its own
  pub start-itself : (k : ℕ) → start_of p first (start_of p first k - first) ≡ start_of p first k
  unfolding start_of
  start-itself zero = let none : first - first ≡ 0 = omega arith in ap (start_of p first) none
  start-itself (suc k) = by (begins p (start_of p first k) (first + suc k)) refl (start-itself k)
    where
      by : (b : Bool) → begins p (start_of p first k) (first + suc k) ≡ b → start_of p first (start_of p first k - first) ≡ start_of p first k → start_of p first (cond b (first + suc k) (start_of p first k) - first) ≡ cond b (first + suc k) (start_of p first k)
      by true is rest =
          let back : first + suc k - first ≡ suc k = omega arith in
          ap (start_of p first) back ∙ ap (λ b. cond b (first + suc k) (start_of p first k)) is
      by false is rest = rest
