-- How many items days give, and the sum of items of one and zero.
use Rattle.std.proofs.Common.{◌≡◌, ℕ, suc, ◌+◌, ◌*◌, Bool, true, false, cond, ◌&&◌, List, [], ◌∷◌, length, refl, ap, sym, ◌∙◌, arith}
use mir.Val.{bool_byte}
use Rattle.std.specs.Prelude.{ℤ, pos, neg_ℤ, ◌+ℤ◌, ◌≤ℤ◌, Option, Some, None, is_some, option_map, option_and_then, count_by, filter, filter_map, IfSome}
use Rattle.std.specs.List.{cons_option, range_with_len, AllByRecursion}
use Rattle.std.proofs.lemmas.Int.{ints}
use Rattle.std.proofs.lemmas.List.Sums.{sum_by-append, sum_by-cons}
use Rattle.aq_agg.proofs.ItemsOfDays.{cut}
use Rattle.aq_rules.proofs.Sums.{total-cons}
use Rattle.aq_rules.specs.Lists.{total}
use Rattle.aq_rules.specs.Ozone.SiteHour.{Cell}
use Rattle.aq_rules.specs.Particles.ParticleDay.{unless_excluded}
use Rattle.aq_series.specs.DayCells.{IsParticle}

pub count_cons : (p : ℕ → Bool) (d : ℕ) (days : List ℕ) → count_by p (d ∷ days) ≡ cond (p d) 1 0 + count_by p days
count_cons p d days = sum_by-cons (λ (k : ℕ). cond (p k) 1 0) d days

-- those of a filter that pass a test
pub count-both : (p g : ℕ → Bool) (days : List ℕ) → count_by p (filter g days) ≡ count_by (λ d. g d && p d) days
count-both p g [] = refl
count-both p g (d ∷ days) = by (g d) (count-both p g days) ∙ sym (count_cons (λ k. g k && p k) d days)
  where
    by : (b : Bool) → count_by p (filter g days) ≡ count_by (λ k. g k && p k) days
        → count_by p (cond b (d ∷ filter g days) (filter g days)) ≡ cond (b && p d) 1 0 + count_by (λ k. g k && p k) days
    by true rest = count_cons p d (filter g days) ∙ ap (λ n. cond (p d) 1 0 + n) rest
    by false rest = omega (arith, rest)

-- a test as a number
pub one_where : (b : Bool) → bool_byte b ≡ cond b 1 0
one_where true = refl
one_where false = refl

-- of the numbers from one on, with one more
pub count-range : (p : ℕ → Bool) (a n number : ℕ) → a + n ≡ number → count_by p (range_with_len a (n + 1)) ≡ count_by p (range_with_len a n) + cond (p number) 1 0
count-range p a n number at =
    let one : n + 1 ≡ n + suc 0 = omega arith in
    let last : count_by p ((a + n) ∷ []) ≡ cond (p (a + n)) 1 0 = omega (arith, count_cons p (a + n) []) in
    ap (λ m. count_by p (range_with_len a m)) one ∙ ap (count_by p) (cut a n 0)
    ∙ sum_by-append (λ (k : ℕ). cond (p k) 1 0) (range_with_len a n) ((a + n) ∷ [])
    ∙ ap (λ k. count_by p (range_with_len a n) + k) last
    ∙ ap (λ k. count_by p (range_with_len a n) + cond (p k) 1 0) at

module _ (item : Cell → ℤ) (sample : ℕ → Option Cell) where
  abbrev items : List ℕ → List ℤ
  items days = filter_map (λ d. option_map item (sample d)) days

  -- an item for each sample
  pub items-number : (days : List ℕ) → length (items days) ≡ count_by (λ d. is_some (sample d)) days
  items-number [] = refl
  items-number (d ∷ days) = by (sample d) (items-number days) ∙ sym (count_cons (λ k. is_some (sample k)) d days)
    where
      by : (o : Option Cell) → length (items days) ≡ count_by (λ k. is_some (sample k)) days
          → length (cons_option (option_map item o) (items days)) ≡ cond (is_some o) 1 0 + count_by (λ k. is_some (sample k)) days
      by None rest = omega (arith, rest)
      by (Some cell) rest = omega (arith, rest)

  -- the items of one are those of the samples that pass a test
  module _ (passes : Option Cell → Bool) (none : passes None ≡ false) (some : (cell : Cell) → item cell ≡ cond (passes (Some cell)) (pos 1) (pos 0)) where
    pub items-total : (days : List ℕ) → total (items days) ≡ pos (count_by (λ d. passes (sample d)) days)
    items-total [] = refl
    items-total (d ∷ days) = by (sample d) (items-total days) ∙ ap pos (sym (count_cons (λ k. passes (sample k)) d days))
      where
        one : (b : Bool) (v : ℤ) → v ≡ cond b (pos 1) (pos 0) → total (items days) ≡ pos (count_by (λ k. passes (sample k)) days)
            → v +ℤ total (items days) ≡ pos (cond b 1 0 + count_by (λ k. passes (sample k)) days)
        one true v is rest = omega (arith, ints, rest, is)
        one false v is rest = omega (arith, ints, rest, is)

        nothing : (b : Bool) → b ≡ false → total (items days) ≡ pos (count_by (λ k. passes (sample k)) days) → total (items days) ≡ pos (cond b 1 0 + count_by (λ k. passes (sample k)) days)
        nothing true is rest = cc
        nothing false is rest = omega (arith, ints, rest)

        by : (o : Option Cell) → total (items days) ≡ pos (count_by (λ k. passes (sample k)) days)
            → total (cons_option (option_map item o) (items days)) ≡ pos (cond (passes o) 1 0 + count_by (λ k. passes (sample k)) days)
        by None rest = nothing (passes None) none rest
        by (Some cell) rest = total-cons (item cell) (items days) ∙ one (passes (Some cell)) (item cell) (some cell) rest

-- ---- values of particles

pub net-particle : (o : Option Cell) → IfSome o (λ (c : Cell). IsParticle c.value) → IfSome (option_and_then unless_excluded o) IsParticle
net-particle None is = tt
net-particle (Some c) is = by c.excluded
  where
    by : (b : Bool) → IfSome (cond b None (Some c.value)) IsParticle
    by true = tt
    by false = is

module _ (cell : ℕ → Option Cell) (range : (day : ℕ) → IfSome (cell day) (λ (c : Cell). IsParticle c.value)) where
  abbrev net : List ℕ → List ℤ
  net days = filter_map (λ day. option_and_then unless_excluded (cell day)) days

  pub net-particles : (days : List ℕ) → AllByRecursion IsParticle (net days)
  net-particles [] = tt
  net-particles (d ∷ days) = by (option_and_then unless_excluded (cell d)) (net-particle (cell d) (range d)) (net-particles days)
    where
      by : (o : Option ℤ) → IfSome o IsParticle → AllByRecursion IsParticle (net days) → AllByRecursion IsParticle (cons_option o (net days))
      by None is rest = rest
      by (Some v) is rest = (is, rest)

-- their sum lies between so many times the least and the greatest value of all
pub total-low : (values : List ℤ) → AllByRecursion IsParticle values → neg_ℤ (pos (999 * length values)) ≤ℤ total values
total-low [] are = omega (arith, ints)
total-low (v ∷ values) are = let rest = total-low values are.1 in omega (arith, ints, rest, are.0.0, total-cons v values)

pub total-high : (values : List ℤ) → AllByRecursion IsParticle values → total values ≤ℤ pos (99999 * length values)
total-high [] are = omega (arith, ints)
total-high (v ∷ values) are = let rest = total-high values are.1 in omega (arith, ints, rest, are.0.1, total-cons v values)
