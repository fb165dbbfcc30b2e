-- Digits of a fixed width are read as the number of which they were written.
use Rattle.std.proofs.Common.{◌≡◌, ℕ, suc, zero, ◌+◌, ◌<◌, Bool, true, false, List, [], ◌∷◌, Some, None, Option, refl, ap, arith, subst}
use Rattle.std.specs.Prelude.{◌==◌}
use Rattle.std.specs.List.{range_with_len, list_all}
use Rattle.std.proofs.lemmas.Bool.{false≢true, and_parts, and_from}
use Rattle.std.proofs.lemmas.Bool.Decides.{nat_tests}
use Rattle.std.specs.Char.{digit_value, is_ascii_digit}
use Rattle.std.specs.Str.Parse.{AllDigits}
use Rattle.aq_base.specs.Decimal.{last_digits, are_digits}
use Rattle.aq_rules.specs.Lines.Spellings.{digits_in}

pub in_range : (p : ℕ → Bool) (start many n : ℕ) → list_all p (range_with_len start many) ≡ true → n < many → p (start + n) ≡ true
in_range p start zero n all small = absurd (omega arith)
in_range p start (suc many) zero all small =
    subst (λ k. p k ≡ true) (omega arith) (and_parts (p start) (list_all p (range_with_len (start + 1) many)) all).0
in_range p start (suc many) (suc n) all small =
    subst (λ k. p k ≡ true) (omega arith)
    (in_range p (start + 1) many n (and_parts (p start) (list_all p (range_with_len (start + 1) many)) all).1 (omega arith))

pub from_none : (p : ℕ → Bool) (many n : ℕ) → list_all p (range_with_len 0 many) ≡ true → n < many → p n ≡ true
from_none p many n all small = subst (λ k. p k ≡ true) {x = 0 + n} (omega arith) (in_range p 0 many n all small)

unfoldable pub is_number : ℕ → Option ℕ → Bool
is_number n None = false
is_number n (Some m) = m == n

pub number_is : (n : ℕ) (o : Option ℕ) → is_number n o ≡ true → o ≡ Some n
unfolding is_number
number_is n None h = absurd (false≢true h)
number_is n (Some m) h =
    let same : m ≡ n = grind (arith, nat_tests) in
    ap Some same

all_two : list_all (λ n. is_number n (digits_in 2 (last_digits 2 n))) (range_with_len 0 100) ≡ true
unfolding is_number last_digits
all_two = refl

all_three : list_all (λ n. is_number n (digits_in 3 (last_digits 3 n))) (range_with_len 0 1000) ≡ true
unfolding is_number last_digits
all_three = refl

all_four : list_all (λ n. is_number n (digits_in 4 (last_digits 4 n))) (range_with_len 0 10000) ≡ true
unfolding is_number last_digits
all_four = refl

pub digits_two : (n : ℕ) → n < 100 → digits_in 2 (last_digits 2 n) ≡ Some n
digits_two n small = number_is n _ (from_none (λ n. is_number n (digits_in 2 (last_digits 2 n))) 100 n all_two small)

pub digits_three : (n : ℕ) → n < 1000 → digits_in 3 (last_digits 3 n) ≡ Some n
digits_three n small = number_is n _ (from_none (λ n. is_number n (digits_in 3 (last_digits 3 n))) 1000 n all_three small)

pub digits_four : (n : ℕ) → n < 10000 → digits_in 4 (last_digits 4 n) ≡ Some n
digits_four n small = number_is n _ (from_none (λ n. is_number n (digits_in 4 (last_digits 4 n))) 10000 n all_four small)

pub digit_is : (c : ℕ) → digit_value c < 10 → is_ascii_digit c ≡ true
digit_is c h = grind (arith, nat_tests)

pub digits_are : (ds : List ℕ) → AllDigits 10 ds → are_digits ds ≡ true
digits_are [] h = refl
digits_are (c ∷ ds) h = and_from (is_ascii_digit c) (are_digits ds) (digit_is c h.0) (digits_are ds h.1)
