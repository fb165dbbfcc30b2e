-- Digits that are written from the last one on.
use Rattle.std.proofs.Common.{◌≡◌, ℕ, zero, suc, ◌+◌, ◌-◌, ◌<◌, ◌≤◌, ◌/◌, ◌%◌, List, [], ◌∷◌, ◌++◌, length, drop, set, replicate, refl, sym, ap, ◌∙◌, arith, append_assoc}
use Rattle.std.proofs.lemmas.List.{append-nil, drop-set, drop_all, length-replicate}
use Rattle.aq_base.specs.Decimal.{last_digits}

pub digits-none : (count n : ℕ) → last_digits count n ≡ last_digits count n ++ drop count (replicate count 48)
digits-none count n =
    let nothing : drop count (replicate count 48) ≡ [] = drop_all count (replicate count 48) (omega (arith, length-replicate {A = ℕ} count 48)) in
    sym (ap (λ rest. last_digits count n ++ rest) nothing ∙ append-nil (last_digits count n))

pub digit-placed : (text : List ℕ) (place n : ℕ) → 0 < place → place ≤ length text
    → last_digits place n ++ drop place text ≡ last_digits (place - 1) (n / 10) ++ drop (place - 1) (set text (place - 1) (48 + n % 10))
unfolding last_digits
digit-placed text zero n some within = absurd (omega arith)
digit-placed text (suc place) n some within =
    let less : suc place - 1 ≡ place = omega arith in
    let more : place + 1 ≡ suc place = omega arith in
    append_assoc (last_digits place (n / 10)) ((48 + n % 10) ∷ []) (drop (suc place) text)
    ∙ sym (rw less (ap (λ rest. last_digits place (n / 10) ++ rest) (drop-set text place (48 + n % 10) (omega arith) ∙ ap (λ k. (48 + n % 10) ∷ drop k text) more)))

pub digits-all : (text : List ℕ) (place n : ℕ) → place ≡ 0 → last_digits place n ++ drop place text ≡ text
unfolding last_digits
digits-all text place n none = rw none refl
