-- Counts of faults, one after the other.
use Rattle.std.proofs.Common.{◌≡◌, ℕ, ◌+◌, ◌-◌, ◌^◌, ◌<◌, inl, inr, Bool, true, false, cond, List, [], ◌∷◌, ◌++◌, sym, subst, arith}
use Rattle.std.specs.Prelude.{count_by}
use Rattle.std.proofs.lemmas.List.Sums.{sum_by-append, sum_by-cons}
use Rattle.aq_base.specs.Faults.{HasRisen}
use Rattle.aq_serve.specs.Service.{Counts}
use Rattle.aq_serve.specs.Serving.{Rises}

pub rises_same : (before after : ℕ) → after ≡ before → Rises before after 0
rises_same before after e = record { grows = omega (arith, e); many = λ _. omega (arith, e) }

pub rises_once : (before after : ℕ) → HasRisen before after → Rises before after 1
rises_once before after (inl less) = record { grows = omega (arith, less); many = λ _. omega (arith, less) }
rises_once before after (inr most) = record { grows = omega (arith, most.1); many = λ low. absurd (omega (arith, low, most.0, most.1)) }

pub rises_join : (a b c n m : ℕ) → Rises a b n → Rises b c m → Rises a c (n + m)
rises_join a b c n m one two = record {
  grows = omega (arith, one.grows, two.grows);
  many = λ low. let early : b < 2 ^ 64 - 1 = omega (arith, low, two.grows) in omega (arith, one.many early, two.many low);
}

pub count-cons : {X : Type 0} (p : X → Bool) (x : X) (xs : List X) → count_by p (x ∷ xs) ≡ cond (p x) 1 0 + count_by p xs
count-cons p x xs = sum_by-cons (λ y. cond (p y) 1 0) x xs

pub count-append : {X : Type 0} (p : X → Bool) (xs ys : List X) → count_by p (xs ++ ys) ≡ count_by p xs + count_by p ys
count-append p xs ys = sum_by-append (λ y. cond (p y) 1 0) xs ys

pub count_first : {X : Type 0} (p : X → Bool) (x : X) (xs : List X) → count_by p (x ∷ xs) ≡ count_by p (x ∷ []) + count_by p xs
count_first p x xs = count-append p (x ∷ []) xs

pub rises_by : {X : Type 0} (p : X → Bool) (x : X) (before after : ℕ) → Counts (p x) before after → Rises before after (count_by p (x ∷ []))
rises_by p x before after so = subst (Rises before after) (sym (count-cons p x [])) (by_test (p x) so)
  where
    by_test : (t : Bool) → Counts t before after → Rises before after (cond t 1 0 + 0)
    by_test true risen = rises_once before after risen
    by_test false same = rises_same before after same
