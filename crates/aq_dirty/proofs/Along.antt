-- Tests of numbers that follow one another, through a number of each that rises by one at most.
use Rattle.std.proofs.Common.{◌≡◌, ℕ, ◌+◌, ◌-◌, ◌≤◌, ◌<◌, ◌⊎◌, inl, inr, Bool, true, false, ◌&&◌, ◌||◌, ◌∷◌, ◌++◌, refl, ap, sym, ◌∙◌, subst, arith, suc, zero}
use Rattle.std.specs.Prelude.{◌==◌, nat_le}
use Rattle.std.specs.List.{list_any, range_with_len}
use Rattle.std.proofs.lemmas.List.Folds.{list_any-append}
use Rattle.aq_base.specs.Site.{Site}
use Rattle.aq_rules.specs.Office.Monitors.{is_same_site}
use Rattle.aq_registry.proofs.SiteLemmas.{flipped}
use Rattle.aq_dirty.specs.Reach.{span_of}
use Rattle.aq_dirty.specs.Spans.{covers}
use Rattle.aq_dirty.proofs.Ranges.{any-and, any-from_to}
use Rattle.aq_dirty.proofs.Reached.{turned}

-- from each number to the next it stays or rises by one
abbrev pub StepsUp : (ℕ → ℕ) → ℕ → ℕ → Type 0
StepsUp g a k = (h : ℕ) → a ≤ h → h < a + k → (g (h + 1) ≡ g h) ⊎ (g (h + 1) ≡ g h + 1)

steps_on : (g : ℕ → ℕ) (a k : ℕ) → StepsUp g a (suc k) → StepsUp g (a + 1) k
steps_on g a k steps = λ h low high. steps h (omega (arith, low)) (omega (arith, high))

move_on : (a k : ℕ) → a + 1 + k ≡ a + suc k
move_on a k = omega arith

-- itself
pub steps-number : (a k : ℕ) → StepsUp (λ n. n) a k
steps-number a k = λ h low high. inr refl

no_lower : (x y : ℕ) → (y ≡ x) ⊎ (y ≡ x + 1) → x ≤ y
no_lower x y (inl same) = omega (arith, same)
no_lower x y (inr next) = omega (arith, next)

pub rises : (g : ℕ → ℕ) (a k : ℕ) → StepsUp g a k → g a ≤ g (a + k)
rises g a zero steps = let e : a ≡ a + 0 = omega arith in subst (λ m. g a ≤ g m) e (omega arith)
rises g a (suc k) steps =
    let first : g a ≤ g (a + 1) = no_lower (g a) (g (a + 1)) (steps a (omega arith) (omega arith)) in
    let rest : g (a + 1) ≤ g (a + 1 + k) = rises g (a + 1) k (steps_on g a k steps) in
    let whole : g a ≤ g (a + 1 + k) = omega (arith, first, rest) in
    subst (λ m. g a ≤ g m) (move_on a k) whole

twice : (x y : Bool) → (x || (x || y)) ≡ (x || y)
twice true y = refl
twice false y = refl

-- a test of each number's is one of the numbers from the first one's to the last one's
pub any-along : (f : ℕ → Bool) (g : ℕ → ℕ) (a k : ℕ) → StepsUp g a k
    → list_any (λ h. f (g h)) (range_with_len a (suc k)) ≡ list_any f (range_with_len (g a) (suc (g (a + k) - g a)))
any-along f g a zero steps =
    let e : a + 0 ≡ a = omega arith in
    let none : g (a + 0) - g a ≡ 0 = ap (λ m. g m - g a) e ∙ omega arith in
    ap (λ m. f (g a) || list_any f (range_with_len (g a + 1) m)) (sym none)
any-along f g a (suc k) steps =
    ap (λ b. f (g a) || b) (any-along f g (a + 1) k (steps_on g a k steps))
    ∙ by (steps a (omega arith) (omega arith)) (rises g (a + 1) k (steps_on g a k steps)) (ap g (move_on a k))
  where
    by : (g (a + 1) ≡ g a) ⊎ (g (a + 1) ≡ g a + 1) → g (a + 1) ≤ g (a + 1 + k) → g (a + 1 + k) ≡ g (a + suc k)
        → (f (g a) || list_any f (range_with_len (g (a + 1)) (suc (g (a + 1 + k) - g (a + 1))))) ≡ list_any f (range_with_len (g a) (suc (g (a + suc k) - g a)))
    by (inl same) rest last =
        ap (λ x. f (g a) || list_any f (range_with_len x (suc (g (a + 1 + k) - x)))) same
        ∙ twice (f (g a)) (list_any f (range_with_len (g a + 1) (g (a + 1 + k) - g a)))
        ∙ ap (λ m. list_any f (range_with_len (g a) (suc (m - g a)))) last
    by (inr next) rest last =
        let count : suc (g (a + 1 + k) - (g a + 1)) ≡ g (a + suc k) - g a = omega (arith, rest, last, next) in
        ap (λ x. f (g a) || list_any f (range_with_len x (suc (g (a + 1 + k) - x)))) next
        ∙ ap (λ m. f (g a) || list_any f (range_with_len (g a + 1) m)) count

-- so the numbers that are met are a span
pub spanned : (g : ℕ → ℕ) (n a k : ℕ) (other site : Site) → StepsUp g a k
    → list_any (λ h. (n == g h) && is_same_site other site) (range_with_len a (suc k)) ≡ covers other n (span_of site (g a) (g (a + k)))
spanned g n a k other site steps =
    let up = rises g a k steps in
    let whole : g a + (g (a + k) - g a) ≡ g (a + k) = omega (arith, up) in
    any-along (λ x. (n == x) && is_same_site other site) g a k steps
    ∙ any-and (λ x. n == x) (is_same_site other site) (range_with_len (g a) (suc (g (a + k) - g a)))
    ∙ ap (λ b. b && is_same_site other site) (any-from_to n (g a) (g (a + k) - g a))
    ∙ ap (λ m. (nat_le (g a) n && nat_le n m) && is_same_site other site) whole
    ∙ turned (nat_le (g a) n) (nat_le n (g (a + k))) (is_same_site other site) (is_same_site site other) (flipped other site)

-- tests that agree on each number
pub any-same : (f g : ℕ → Bool) (a k : ℕ) → ((x : ℕ) → a ≤ x → x < a + k → f x ≡ g x) → list_any f (range_with_len a k) ≡ list_any g (range_with_len a k)
any-same f g a zero agree = refl
any-same f g a (suc k) agree =
    ap (λ b. b || list_any f (range_with_len (a + 1) k)) (agree a (omega arith) (omega arith))
    ∙ ap (λ b. g a || b) (any-same f g (a + 1) k (λ x low high. agree x (omega (arith, low)) (omega (arith, high))))

-- ---- one piece after the other

pub range-append : (a n m : ℕ) → range_with_len a n ++ range_with_len (a + n) m ≡ range_with_len a (n + m)
range-append a zero m =
    let first : a + 0 ≡ a = omega arith in
    let number : m ≡ 0 + m = omega arith in
    λ i. range_with_len (first i) (number i)
range-append a (suc n) m =
    let first : a + suc n ≡ (a + 1) + n = omega arith in
    let number : suc (n + m) ≡ suc n + m = omega arith in
    ap (λ k. a ∷ (range_with_len (a + 1) n ++ range_with_len k m)) first ∙ ap (λ l. a ∷ l) (range-append (a + 1) n m)
    ∙ ap (range_with_len a) number

or_none : (b : Bool) → (b || false) ≡ b
or_none true = refl
or_none false = refl

pub starts-rise : (first many : ℕ → ℕ) → ((q : ℕ) → first (q + 1) ≡ first q + many q) → (q k : ℕ) → first q ≤ first (q + k)
starts-rise first many next q zero = let e : q ≡ q + 0 = omega arith in subst (λ m. first q ≤ first m) e (omega arith)
starts-rise first many next q (suc k) =
    let rest = starts-rise first many next (q + 1) k in
    let begun = next q in
    let whole : first q ≤ first (q + 1 + k) = omega (arith, rest, begun) in
    subst (λ m. first q ≤ first m) (move_on q k) whole

module _ (f : ℕ → Bool) where
  any-joined : (a n m : ℕ) → (list_any f (range_with_len a n) || list_any f (range_with_len (a + n) m)) ≡ list_any f (range_with_len a (n + m))
  any-joined a n m = sym (list_any-append f (range_with_len a n) (range_with_len (a + n) m)) ∙ ap (list_any f) (range-append a n m)

  -- one more number
  pub any-last : (a n : ℕ) → list_any f (range_with_len a (n + 1)) ≡ (list_any f (range_with_len a n) || f (a + n))
  any-last a n = sym (any-joined a n 1) ∙ ap (λ b. list_any f (range_with_len a n) || b) (or_none (f (a + n)))

  module _ (first many : ℕ → ℕ) (next : (q : ℕ) → first (q + 1) ≡ first q + many q) where
    -- pieces that follow one another are one
    pub any-pieces : (a k : ℕ) → list_any (λ q. list_any f (range_with_len (first q) (many q))) (range_with_len a (suc k))
        ≡ list_any f (range_with_len (first a) (first (a + k) + many (a + k) - first a))
    any-pieces a zero =
        let e : a + 0 ≡ a = omega arith in
        let count : many a ≡ first (a + 0) + many (a + 0) - first a = sym (ap (λ m. first m + many m - first a) e ∙ omega arith) in
        or_none (list_any f (range_with_len (first a) (many a))) ∙ ap (λ m. list_any f (range_with_len (first a) m)) count
    any-pieces a (suc k) =
        let begun = next a in
        let up = starts-rise first many next (a + 1) k in
        let same : first (a + 1 + k) + many (a + 1 + k) ≡ first (a + suc k) + many (a + suc k) = ap (λ m. first m + many m) (move_on a k) in
        let count : many a + (first (a + 1 + k) + many (a + 1 + k) - (first a + many a)) ≡ first (a + suc k) + many (a + suc k) - first a
        = omega (arith, up, begun, same) in
        ap (λ b. list_any f (range_with_len (first a) (many a)) || b) (any-pieces (a + 1) k)
        ∙ ap (λ s. list_any f (range_with_len (first a) (many a)) || list_any f (range_with_len s (first (a + 1 + k) + many (a + 1 + k) - s))) begun
        ∙ any-joined (first a) (many a) (first (a + 1 + k) + many (a + 1 + k) - (first a + many a))
        ∙ ap (λ m. list_any f (range_with_len (first a) m)) count
