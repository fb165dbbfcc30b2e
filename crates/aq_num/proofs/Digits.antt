-- Steps of writing digits.
use Rattle.std.proofs.Common.{◌≡◌, ℕ, zero, suc, ◌+◌, ◌-◌, ◌<◌, ◌≤◌, ◌/◌, ◌%◌, List, [], ◌∷◌, ◌++◌, length, take, refl, sym, ap, ◌∙◌, arith}
use Rattle.std.proofs.lemmas.List.{take-take, length-take}
use Rattle.aq_base.specs.Decimal.{last_digits}

pub last_digits-none : (count n : ℕ) → count ≡ 0 → last_digits count n ≡ []
unfolding last_digits
last_digits-none zero n none = refl
last_digits-none (suc count) n none = absurd (omega arith)

pub last_digits-more : (count n : ℕ) → 0 < count → last_digits count n ≡ last_digits (count - 1) (n / 10) ++ (48 + n % 10) ∷ []
unfolding last_digits
last_digits-more zero n some = absurd (omega arith)
last_digits-more (suc count) n some =
    let less : suc count - 1 ≡ count = omega arith in
    ap (λ k. last_digits k (n / 10) ++ (48 + n % 10) ∷ []) (sym less)

-- what stands in front of what stands in front
pub take-through : (old middle new : List ℕ) (m n : ℕ) → m ≡ length old → n ≡ length middle → take n new ≡ middle → take m middle ≡ old → take m new ≡ old
take-through old middle new m n whole_old whole_middle outer inner =
    let less : m ≤ n = omega (arith, length-take m middle, ap length inner) in
    sym (take-take m n new less) ∙ ap (take m) outer ∙ inner
