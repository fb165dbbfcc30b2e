-- Texts of letters, digits and a few marks.
use Rattle.std.proofs.Common.{◌≡◌, ℕ, zero, suc, ◌+◌, ◌/◌, ◌%◌, ◌^◌, ◌<◌, Bool, true, false, cond, List, [], ◌∷◌, ◌++◌, length, get_or, refl, arith}
use Rattle.std.specs.Prelude.{ℤ, pos, int_lt, nat_lt, ◌==◌, unsigned_abs}
use Rattle.std.specs.Fmt.{decimal}
use Rattle.std.specs.Int.{IsInRange}
use Rattle.std.specs.List.{list_all}
use Rattle.std.specs.Str.{IsAscii, IsUtf8}
use Rattle.std.proofs.lemmas.Str.{IsUtf8-from_ascii}
use Rattle.std.proofs.lemmas.Bool.{and_from, and_parts}
use Rattle.std.proofs.lemmas.Bool.Decides.{nat_tests}
use Rattle.std.proofs.lemmas.Fmt.{decimal_is_IsNumeral}
use Rattle.std.proofs.lemmas.List.Recursion.{and_from_places}
use Rattle.std.proofs.lemmas.Str.Parse.{digit_at}
use Rattle.aq_base.specs.Decimal.{fixed, last_digits}
use Rattle.aq_rules.specs.Shown.WellFormed.{is_word_byte, is_word}

range-byte : (b : ℕ) → IsInRange 48 57 b → is_word_byte b ≡ true
range-byte b within = grind (arith, nat_tests)

digit-byte : (n : ℕ) → is_word_byte (48 + n % 10) ≡ true
digit-byte n = let few : n % 10 < 10 = omega arith in grind (arith, nat_tests)

bytes-join : (a b : List ℕ) → list_all is_word_byte a ≡ true → list_all is_word_byte b ≡ true → list_all is_word_byte (a ++ b) ≡ true
bytes-join [] b h k = k
bytes-join (x ∷ a) b h k =
    let parts = and_parts (is_word_byte x) (list_all is_word_byte a) h in and_from (is_word_byte x) (list_all is_word_byte (a ++ b)) parts.0 (bytes-join a b parts.1 k)

digits-bytes : (count n : ℕ) → list_all is_word_byte (last_digits count n) ≡ true
unfolding last_digits
digits-bytes zero n = refl
digits-bytes (suc count) n =
    bytes-join (last_digits count (n / 10)) ((48 + n % 10) ∷ []) (digits-bytes count (n / 10)) (and_from (is_word_byte (48 + n % 10)) true (digit-byte n) refl)

decimal-bytes : (n : ℕ) → n < 2 ^ 64 → list_all is_word_byte (decimal n) ≡ true
decimal-bytes n few =
    let numeral = decimal_is_IsNumeral n few in
    and_from_places (list_all is_word_byte) is_word_byte refl (λ x xs. refl) (decimal n) 0 (λ i within. range-byte (get_or (decimal n) i 0) (digit_at (decimal n) i numeral.0.1 within))

sign-bytes : (b : Bool) → list_all is_word_byte (cond b (45 ∷ []) []) ≡ true
sign-bytes true = refl
sign-bytes false = refl

places-bytes : (b : Bool) (places n : ℕ) → list_all is_word_byte (cond b [] (46 ∷ last_digits places n)) ≡ true
places-bytes true places n = refl
places-bytes false places n = digits-bytes places n

some-first : (a b : List ℕ) → 0 < length b → nat_lt 0 (length (a ++ b)) ≡ true
some-first [] b some = grind (arith, nat_tests)
some-first (x ∷ a) b some = grind (arith, nat_tests)

some-more : (a b : List ℕ) → nat_lt 0 (length a) ≡ true → nat_lt 0 (length (a ++ b)) ≡ true
some-more [] b some = absurd (grind (arith, nat_tests))
some-more (x ∷ a) b some = grind (arith, nat_tests)

-- the text of a value is one
pub fixed-word : (v : ℤ) (places : ℕ) → unsigned_abs v < 2 ^ 64 → is_word (fixed v places) ≡ true
fixed-word v places few =
    let whole : unsigned_abs v / 10 ^ places < 2 ^ 64 = less (10 ^ places) (unsigned_abs v) few in
    let sign = cond (int_lt v (pos 0)) (45 ∷ []) [] in
    let digits = decimal (unsigned_abs v / 10 ^ places) in
    let behind = cond (places == 0) [] (46 ∷ last_digits places (unsigned_abs v)) in
    let numeral = decimal_is_IsNumeral (unsigned_abs v / 10 ^ places) whole in
    let some : nat_lt 0 (length ((sign ++ digits) ++ behind)) ≡ true = some-more (sign ++ digits) behind (some-first sign digits numeral.0.0) in
    and_from (nat_lt 0 (length ((sign ++ digits) ++ behind))) (list_all is_word_byte ((sign ++ digits) ++ behind)) some
    (bytes-join (sign ++ digits) behind
    (bytes-join sign digits (sign-bytes (int_lt v (pos 0))) (decimal-bytes (unsigned_abs v / 10 ^ places) whole))
    (places-bytes (places == 0) places (unsigned_abs v)))
  where
    less : (d n : ℕ) → n < 2 ^ 64 → n / d < 2 ^ 64
    less d n h = omega (arith, h)

ascii : (bytes : List ℕ) → list_all is_word_byte bytes ≡ true → IsAscii bytes
ascii [] h i = omega arith
ascii (b ∷ bytes) h zero = let word = (and_parts (is_word_byte b) (list_all is_word_byte bytes) h).0 in grind (arith, nat_tests, word)
ascii (b ∷ bytes) h (suc i) = ascii bytes (and_parts (is_word_byte b) (list_all is_word_byte bytes) h).1 i

-- a word is a text in UTF-8
pub word-text : (word : List ℕ) → is_word word ≡ true → IsUtf8 word
word-text word h = IsUtf8-from_ascii word (ascii word (and_parts (nat_lt 0 (length word)) (list_all is_word_byte word) h).1)
