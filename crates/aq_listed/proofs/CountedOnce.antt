-- Counts over hours, and over the samples that stand at them.
use mir.Val.{bool_byte}
use Rattle.std.proofs.Common.{◌≡◌, ℕ, zero, suc, ◌+◌, ◌<◌, ◌≤◌, Bool, true, false, cond, ◌&&◌, ◌||◌, ◌==◌, Some, List, [], ◌∷◌, length, refl, ap, sym, ◌∙◌, arith}
use Rattle.std.specs.Prelude.{count_by, not, option_map}
use Rattle.std.specs.List.{AllByRecursion, list_any, range_with_len}
use Rattle.std.specs.Option.{option_map_or}
use Rattle.std.proofs.lemmas.Bool.Decides.{nat_tests}
use Rattle.std.proofs.lemmas.List.Sums.{sum_by-cons}
use Rattle.aq_base.specs.declared.observation.Observation.{Observation}
use Rattle.aq_series.proofs.Rising.{Later, Rising, found}
use Rattle.aq_series.proofs.Spans.{Item, hour_of}

-- ---- counts

opposite : (b : Bool) → cond (not b) 1 0 + cond b 1 0 ≡ 1
opposite true = refl
opposite false = refl

apart : (a b c : Bool) → (a ≡ true → b ≡ false) → cond ((a || b) && c) 1 0 ≡ cond (a && c) 1 0 + cond (b && c) 1 0
apart true b true h = ap (λ t. 1 + cond (t && true) 1 0) (sym (h refl))
apart true b false h = ap (λ t. 0 + cond (t && false) 1 0) (sym (h refl))
apart false true c h = omega arith
apart false false c h = refl

module _ {X : Type 0} where
  pub count-cons : (p : X → Bool) (x : X) (xs : List X) → count_by p (x ∷ xs) ≡ cond (p x) 1 0 + count_by p xs
  count-cons p x xs = sum_by-cons (λ y. cond (p y) 1 0) x xs

  pub count-same : (p q : X → Bool) (xs : List X) → AllByRecursion (λ x. p x ≡ q x) xs → count_by p xs ≡ count_by q xs
  count-same p q [] all = refl
  count-same p q (x ∷ xs) all =
      count-cons p x xs ∙ (λ i. cond (all.0 i) 1 0 + count-same p q xs all.1 i) ∙ sym (count-cons q x xs)

  pub count-none : (p : X → Bool) (xs : List X) → AllByRecursion (λ x. p x ≡ false) xs → count_by p xs ≡ 0
  count-none p [] all = refl
  count-none p (x ∷ xs) all =
      let rest = count-none p xs all.1 in
      count-cons p x xs ∙ ap (λ b. cond b 1 0 + count_by p xs) all.0 ∙ omega (arith, rest)

  -- what passes and what does not are all
  pub count-not : (p : X → Bool) (xs : List X) → count_by (λ x. not (p x)) xs + count_by p xs ≡ length xs
  count-not p [] = refl
  count-not p (x ∷ xs) =
      omega (arith, count-cons (λ y. not (p y)) x xs, count-cons p x xs, opposite (p x), count-not p xs)

  -- of two tests that never hold together, either holds as often as both
  pub count-either : (a b c : X → Bool) → ((x : X) → a x ≡ true → b x ≡ false) → (xs : List X)
      → count_by (λ x. (a x || b x) && c x) xs ≡ count_by (λ x. a x && c x) xs + count_by (λ x. b x && c x) xs
  count-either a b c h [] = refl
  count-either a b c h (x ∷ xs) =
      omega (arith, count-cons (λ y. (a y || b y) && c y) x xs, count-cons (λ y. a y && c y) x xs, count-cons (λ y. b y && c y) x xs, apart (a x) (b x) (c x) (h x), count-either a b c h xs)

  pub all-on : (P Q : X → Type 0) → ((x : X) → P x → Q x) → (xs : List X) → AllByRecursion P xs → AllByRecursion Q xs
  all-on P Q f [] all = tt
  all-on P Q f (x ∷ xs) all = (f x all.0, all-on P Q f xs all.1)

  pub all-of : (P : X → Type 0) → ((x : X) → P x) → (xs : List X) → AllByRecursion P xs
  all-of P f [] = tt
  all-of P f (x ∷ xs) = (f x, all-of P f xs)

  pub count_start : (p : X → Bool) (xs ys : List X) → xs ≡ ys → 0 + count_by p xs ≡ count_by p ys
  count_start p xs ys is = let same = ap (count_by p) is in omega (arith, same)

pub one_where : (b : Bool) → bool_byte b ≡ cond b 1 0
one_where true = refl
one_where false = refl

pub at_most_one : (b : Bool) → cond b 1 0 ≤ 1
at_most_one true = omega arith
at_most_one false = omega arith

-- ---- a range of one more

count_more : (p : ℕ → Bool) (a n j : ℕ) → a + n ≡ j → count_by p (range_with_len a (suc n)) ≡ count_by p (range_with_len a n) + cond (p j) 1 0
count_more p a zero j h =
    let here : a ≡ j = omega (arith, h) in
    count-cons p a [] ∙ ap (λ k. cond (p k) 1 0 + 0) here ∙ omega arith
count_more p a (suc n) j h =
    let rest = count_more p (a + 1) n j (omega (arith, h)) in
    omega (arith, count-cons p a (range_with_len (a + 1) (suc n)), count-cons p a (range_with_len (a + 1) n), rest)

pub count_range : (p : ℕ → Bool) (a n j : ℕ) → a + n ≡ j → count_by p (range_with_len a (n + 1)) ≡ count_by p (range_with_len a n) + cond (p j) 1 0
count_range p a n j h =
    let next : n + 1 ≡ suc n = omega arith in
    ap (λ k. count_by p (range_with_len a k)) next ∙ count_more p a n j h

-- ---- hours of which each stands once

turned : (m n : ℕ) → (m == n) ≡ (n == m)
turned m n = grind (arith, nat_tests)

same : (m n : ℕ) → (m == n) ≡ true → m ≡ n
same m n h = grind (arith, nat_tests)

other : (m n : ℕ) → m < n → (m == n) ≡ false
other m n h = grind (arith, nat_tests)

-- an hour before all of a list is none of them
absent : (h : ℕ) (hours : List ℕ) → Later (λ k. k) h hours → list_any (λ k. k == h) hours ≡ false
absent h [] later = refl
absent h (k ∷ hours) later =
    (λ i. (turned k h ∙ other h k later.0) i || absent h hours later.1 i)

module _ (p : Observation → Bool) where
  -- whether the test holds of what items have for an hour
  abbrev pub holds_at : List Item → ℕ → Bool
  holds_at items hour = option_map_or p (option_map (λ (item : Item). item.1) (found hour_of hour items)) false

  abbrev at : ℕ → Item → Bool
  at hour item = (hour == item.0) && p item.1

  none_at : (hour n : ℕ) (items : List Item) → hour ≤ n → Later hour_of n items → AllByRecursion (λ item. at hour item ≡ false) items
  none_at hour n [] le later = tt
  none_at hour n (item ∷ items) le later =
      (ap (λ b. b && p item.1) (other hour item.0 (omega (arith, le, later.0))), none_at hour n items le later.1)

  -- an hour stands at most once
  once : (hour : ℕ) (items : List Item) → Rising hour_of items → count_by (at hour) items ≡ cond (holds_at items hour) 1 0
  once hour [] rising = refl
  once hour (item ∷ items) rising =
      count-cons (at hour) item items
      ∙ by_test (once hour items rising.1) (item.0 == hour) refl
    where
      by_test : count_by (at hour) items ≡ cond (holds_at items hour) 1 0 → (b : Bool) → (item.0 == hour) ≡ b
          → cond (at hour item) 1 0 + count_by (at hour) items
          ≡ cond (option_map_or p (option_map (λ (i : Item). i.1) (cond (item.0 == hour) (Some item) (found hour_of hour items))) false) 1 0
      by_test rest true is =
          let here = same item.0 hour is in
          let none = count-none (at hour) items (none_at hour item.0 items (omega (arith, here)) rising.0) in
          let one : at hour item ≡ p item.1 = ap (λ b. b && p item.1) (turned hour item.0 ∙ is) in
          let left : cond (at hour item) 1 0 + count_by (at hour) items ≡ cond (p item.1) 1 0 = ap (λ b. cond b 1 0 + count_by (at hour) items) one ∙ omega (arith, none) in
          left ∙ sym (ap (λ b. cond (option_map_or p (option_map (λ (i : Item). i.1) (cond b (Some item) (found hour_of hour items))) false) 1 0) is)
      by_test rest false is =
          let one : at hour item ≡ false = ap (λ b. b && p item.1) (turned hour item.0 ∙ is) in
          let left : cond (at hour item) 1 0 + count_by (at hour) items ≡ cond (holds_at items hour) 1 0 = ap (λ b. cond b 1 0 + count_by (at hour) items) one ∙ omega (arith, rest) in
          left ∙ sym (ap (λ b. cond (option_map_or p (option_map (λ (i : Item). i.1) (cond b (Some item) (found hour_of hour items))) false) 1 0) is)

  never : (items : List Item) → AllByRecursion (λ (item : Item). (false && p item.1) ≡ false) items
  never [] = tt
  never (item ∷ items) = (refl, never items)

  -- to ask at each hour comes to the same as to ask each item whether its hour is one of them
  pub counted-once : (hours : List ℕ) (items : List Item) → Rising (λ k. k) hours → Rising hour_of items
      → count_by (holds_at items) hours ≡ count_by (λ (item : Item). list_any (λ h. h == item.0) hours && p item.1) items
  counted-once [] items hours-rise items-rise = sym (count-none (λ (item : Item). false && p item.1) items (never items))
  counted-once (hour ∷ hours) items hours-rise items-rise =
      let rest = counted-once hours items hours-rise.1 items-rise in
      let both =
      count-either (λ (item : Item). hour == item.0) (λ (item : Item). list_any (λ h. h == item.0) hours) (λ (item : Item). p item.1)
      (λ item is. ap (λ n. list_any (λ h. h == n) hours) (sym (same hour item.0 is)) ∙ absent hour hours hours-rise.0) items
      in
      omega (arith, count-cons (holds_at items) hour hours, both, once hour items items-rise, rest)
