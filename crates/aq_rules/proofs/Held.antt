-- Numbers between two bounds: quotients, sums and means of them.
use Rattle.std.proofs.Common.{◌≡◌, ℕ, zero, suc, ◌+◌, ◌*◌, ◌/◌, ◌<◌, ◌≤◌, Bool, true, false, cond, List, [], ◌∷◌, length, refl, sym, ap, ◌∙◌, arith}
use Rattle.std.specs.Prelude.{ℤ, pos, negsuc, neg_ℤ, ◌≤ℤ◌, ◌+ℤ◌, ◌*ℤ◌, Option, Some, None, option_map, ⊤}
use Rattle.std.specs.Int.{int_div_euclid}
use Rattle.std.specs.List.{list_all}
use Rattle.std.specs.Option.{IfSome}
use Rattle.std.proofs.lemmas.Int.{ints}
use Rattle.std.proofs.lemmas.Nat.{div_below}
use Rattle.std.proofs.Math.IntN.{suc_ℤ-*ℤ, *ℤ_comm, *ℤ-zero}
use Rattle.aq_base.specs.Decimal.{half_up}
use Rattle.aq_rules.specs.Lists.{total, all_of}
use Rattle.aq_rules.specs.Particles.Means.{Fraction, sum_of_fractions, has_days, mean_of_means}
use Rattle.aq_rules.proofs.Elements.{Every}
use Rattle.aq_rules.proofs.Sums.{total-cons}

-- from -low to high
abbrev pub Held : ℕ → ℕ → ℤ → Type 0
Held low high v = (neg_ℤ (pos low) ≤ℤ v) × (v ≤ℤ pos high)

abbrev pub IfHeld : ℕ → ℕ → Option ℤ → Type 0
IfHeld low high None = ⊤
IfHeld low high (Some v) = Held low high v

pub held-wider : (low high l h : ℕ) (v : ℤ) → low ≤ l → high ≤ h → Held low high v → Held l h v
held-wider low high l h v a b held = (omega (arith, ints, held.0), omega (arith, ints, held.1))

pub if_held-wider : (low high l h : ℕ) (o : Option ℤ) → low ≤ l → high ≤ h → IfHeld low high o → IfHeld l h o
if_held-wider low high l h None a b held = tt
if_held-wider low high l h (Some v) a b held = held-wider low high l h v a b held

-- ---- a rounded quotient

euclid-held : (z : ℤ) (low high m : ℕ) → 0 < m → neg_ℤ (pos (low * m)) ≤ℤ z → (z +ℤ pos 1) ≤ℤ pos ((high + 1) * m) → Held low high (int_div_euclid z (pos m))
euclid-held (pos a) low high m some least most =
    let few : a < (high + 1) * m = omega (arith, ints, most) in
    let q : a / m < high + 1 = div_below a m (high + 1) some few in
    (omega (arith, ints), omega (arith, ints, q))
euclid-held (negsuc a) low high m some least most =
    let few : a < low * m = omega (arith, ints, least) in
    let q : a / m < low = div_below a m low some few in
    (omega (arith, ints, q), omega (arith, ints))

pub half_up-held : (a : ℤ) (b low high : ℕ) → 0 < b → neg_ℤ (pos (low * b)) ≤ℤ a → a ≤ℤ pos (high * b) → Held low high (half_up a (pos b))
half_up-held a b low high some least most =
    euclid-held ((pos 2 *ℤ a) +ℤ pos b) low high (2 * b) (omega arith) (omega (arith, ints, least)) (omega (arith, ints, most, some))

-- ---- sums

pub total-held : (low high : ℕ) (values : List ℤ) → Every (Held low high) values → Held (low * length values) (high * length values) (total values)
total-held low high [] every = (omega (arith, ints), omega (arith, ints))
total-held low high (v ∷ vs) every =
    let rest = total-held low high vs every.1 in
    (omega (arith, ints, rest.0, every.0.0, total-cons v vs), omega (arith, ints, rest.1, every.0.1, total-cons v vs))

-- ---- sums of fractions

pub times_more : (a : ℤ) (n : ℕ) → a *ℤ pos (suc n) ≡ (a *ℤ pos n) +ℤ a
times_more a n = *ℤ_comm a (pos (suc n)) ∙ suc_ℤ-*ℤ (pos n) a ∙ ap (λ (z : ℤ). z +ℤ a) (*ℤ_comm (pos n) a)

low-times : (a : ℤ) (x n : ℕ) → neg_ℤ (pos x) ≤ℤ a → neg_ℤ (pos (x * n)) ≤ℤ (a *ℤ pos n)
low-times a x zero h = rw (*ℤ-zero a) (omega (arith, ints))
low-times a x (suc n) h = let rest = low-times a x n h in omega (arith, ints, rest, times_more a n, h)

high-times : (a : ℤ) (x n : ℕ) → a ≤ℤ pos x → (a *ℤ pos n) ≤ℤ pos (x * n)
high-times a x zero h = rw (*ℤ-zero a) (omega (arith, ints))
high-times a x (suc n) h = let rest = high-times a x n h in omega (arith, ints, rest, times_more a n, h)

-- a fraction, with a denominator above 0
pub record Part (low high : ℕ) (f : Fraction) : Type 0 where
  pub some : 1 ≤ f.1
  pub least : neg_ℤ (pos (low * f.1)) ≤ℤ f.0
  pub most : f.0 ≤ℤ pos (high * f.1)

sum-part : (low high : ℕ) (fs : List Fraction) → Every (Part low high) fs → Part (low * length fs) (high * length fs) (sum_of_fractions fs)
sum-part low high [] every = record { some = omega arith; least = omega (arith, ints); most = omega (arith, ints) }
sum-part low high (f ∷ fs) every =
    let s = sum_of_fractions fs in
    let first = every.0 in
    let rest = sum-part low high fs every.1 in
    record {
      some = positive f.1 s.1 first.some rest.some;
      least = least_of f.0 s.0 f.1 s.1 (length fs) (low-times f.0 (low * f.1) s.1 first.least) (low-times s.0 (low * length fs * s.1) f.1 rest.least);
      most = most_of f.0 s.0 f.1 s.1 (length fs) (high-times f.0 (high * f.1) s.1 first.most) (high-times s.0 (high * length fs * s.1) f.1 rest.most);
    }
  where
    positive : (c d : ℕ) → 1 ≤ c → 1 ≤ d → 1 ≤ c * d
    positive (suc c) (suc d) h k = omega arith
    positive zero d h k = absurd (omega arith)
    positive (suc c) zero h k = absurd (omega arith)

    least_of : (a b : ℤ) (c d n : ℕ) → neg_ℤ (pos (low * c * d)) ≤ℤ (a *ℤ pos d) → neg_ℤ (pos (low * n * d * c)) ≤ℤ (b *ℤ pos c)
        → neg_ℤ (pos (low * suc n * (c * d))) ≤ℤ ((a *ℤ pos d) +ℤ (b *ℤ pos c))
    least_of a b c d n h k =
        let e : low * suc n * (c * d) ≡ low * c * d + low * n * d * c = omega arith in
        rw e (omega (arith, ints, h, k))

    most_of : (a b : ℤ) (c d n : ℕ) → (a *ℤ pos d) ≤ℤ pos (high * c * d) → (b *ℤ pos c) ≤ℤ pos (high * n * d * c)
        → ((a *ℤ pos d) +ℤ (b *ℤ pos c)) ≤ℤ pos (high * suc n * (c * d))
    most_of a b c d n h k =
        let e : high * suc n * (c * d) ≡ high * c * d + high * n * d * c = omega arith in
        rw e (omega (arith, ints, h, k))

-- the mean of such fractions
mean_of_parts : (low high : ℕ) (fs : List Fraction) → Every (Part low high) fs → Held low high (half_up (sum_of_fractions fs).0 (pos (length fs * (sum_of_fractions fs).1)))
mean_of_parts low high [] every = (omega (arith, ints), omega (arith, ints))
mean_of_parts low high (f ∷ fs) every =
    let s = sum_of_fractions (f ∷ fs) in
    let n = length (f ∷ fs) in
    let sum : Part (low * n) (high * n) s = sum-part low high (f ∷ fs) every in
    by_parts s n sum.some (omega arith) sum.least sum.most
  where
    by_parts : (s : Fraction) (n : ℕ) → 1 ≤ s.1 → 1 ≤ n → neg_ℤ (pos (low * n * s.1)) ≤ℤ s.0 → s.0 ≤ℤ pos (high * n * s.1) → Held low high (half_up s.0 (pos (n * s.1)))
    by_parts s (suc n) some more h k =
        half_up-held s.0 (suc n * s.1) low high (omega arith) (let e : low * (suc n * s.1) ≡ low * suc n * s.1 = omega arith in rw e h) (let e : high * (suc n * s.1) ≡ high * suc n * s.1 = omega arith in rw e k)
    by_parts s zero some more h k = absurd (omega arith)

pub mean_of_means-held : (low high : ℕ) (fs : List Fraction) → (list_all has_days fs ≡ true → Every (Part low high) fs) → IfHeld low high (mean_of_means fs)
mean_of_means-held low high fs parts = by_test (list_all has_days fs) refl
  where
    by_test : (b : Bool) → list_all has_days fs ≡ b → IfHeld low high (cond b (Some (half_up (sum_of_fractions fs).0 (pos (length fs * (sum_of_fractions fs).1)))) None)
    by_test true e = mean_of_parts low high fs (parts e)
    by_test false e = tt

-- ---- lists of options

pub all_of-every : {X : Type 0} (P : X → Type 0) (os : List (Option X)) → Every (λ o. IfSome o P) os → IfSome (all_of os) (Every P)
all_of-every P [] every = tt
all_of-every P (None ∷ os) every = tt
all_of-every {X = X} P (Some x ∷ os) every = onto (all_of os) (all_of-every P os every.1)
  where
    onto : (o : Option (List X)) → IfSome o (Every P) → IfSome (option_map (λ others. x ∷ others) o) (Every P)
    onto None h = tt
    onto (Some xs) h = (every.0, h)

same_list : {X : Type 0} (a b : List X) → Some a ≡ Some b → a ≡ b
same_list a b e = cc

pub all_of-length : {X : Type 0} (os : List (Option X)) (all : List X) → all_of os ≡ Some all → length all ≡ length os
all_of-length [] all e = sym (ap length (same_list [] all e))
all_of-length (None ∷ os) all e = cc
all_of-length {X = X} (Some x ∷ os) all e = by_rest (all_of os) (all_of-length os) e
  where
    by_rest : (o : Option (List X)) → ((others : List X) → o ≡ Some others → length others ≡ length os) → option_map (λ others. x ∷ others) o ≡ Some all → length all ≡ suc (length os)
    by_rest None h e = cc
    by_rest (Some others) h e = sym (ap length (same_list (x ∷ others) all e)) ∙ ap suc (h others refl)
