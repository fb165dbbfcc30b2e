-- Words, cells, rows and heads of well formed sheets.
use Rattle.std.proofs.Common.{◌≡◌, ℕ, zero, suc, ◌+◌, ◌*◌, ◌/◌, ◌%◌, ◌^◌, ◌<◌, ◌≤◌, Bool, true, false, cond, List, [], ◌∷◌, ◌++◌, length, map, refl, arith}
use Rattle.std.specs.Prelude.{ℤ, pos, negsuc, neg_ℤ, ◌+ℤ◌, ◌≤ℤ◌, int_le, int_lt, Option, Some, None, nat_lt, nat_le, ◌==◌, unsigned_abs, codes}
use Rattle.std.specs.List.{list_all, zip, enumerate_from}
use Rattle.std.proofs.lemmas.Int.{ints}
use Rattle.std.proofs.lemmas.Bool.Decides.{nat_tests}
use Rattle.std.proofs.lemmas.Bool.{and_from, and_parts}
use Rattle.aq_base.specs.Calendar.{year_of, month_of, day_of_month}
use Rattle.aq_base.specs.Decimal.{half_up, last_digits}
use Rattle.aq_base.specs.Rule.{rule_name}
use Rattle.aq_base.specs.Site.{Site}
use Rattle.aq_base.specs.Standard.{standard_name}
use Rattle.aq_base.specs.declared.rule.Rule.{Rule}
use Rattle.aq_base.specs.declared.rule.Rule.TheVariants.{BadBytes}
use Rattle.aq_base.specs.declared.standard.Standard.{Standard}
use Rattle.aq_base.specs.declared.standard.Standard.TheVariants.{Ozone2015}
use Rattle.aq_base.specs.declared.standard.Verdict.{Verdict}
use Rattle.aq_base.specs.declared.standard.Verdict.TheVariants.{Met}
use Rattle.aq_rules.specs.Shown.Sheet.{SheetCell, Head, site_text, day_text, hour_text, truth_text, count_cell, fixed_cell, whole_cell, ppm_cell}
use Rattle.aq_rules.specs.Shown.Sheet.SheetCell.{Fixed}
use Rattle.aq_rules.specs.Shown.Sheets.{verdict_name}
use Rattle.aq_rules.specs.Shown.OtherSheets.{digest_text, hex_digit}
use Rattle.aq_rules.specs.Shown.WellFormed.{is_word_byte, is_word, is_whole, is_cell, is_head, is_row}
use Rattle.aq_rules.proofs.Elements.{Every}
use Rattle.aq_rules.proofs.Held.{Held, IfHeld, half_up-held}

-- ---- words

digit-byte : (n : ℕ) → is_word_byte (48 + n % 10) ≡ true
digit-byte n = let few : n % 10 < 10 = omega arith in grind (arith, nat_tests)

pub bytes-join : (a b : List ℕ) → list_all is_word_byte a ≡ true → list_all is_word_byte b ≡ true → list_all is_word_byte (a ++ b) ≡ true
bytes-join [] b h k = k
bytes-join (x ∷ a) b h k =
    let parts = and_parts (is_word_byte x) (list_all is_word_byte a) h in and_from (is_word_byte x) (list_all is_word_byte (a ++ b)) parts.0 (bytes-join a b parts.1 k)

pub digits-bytes : (count n : ℕ) → list_all is_word_byte (last_digits count n) ≡ true
unfolding last_digits
digits-bytes zero n = refl
digits-bytes (suc count) n =
    bytes-join (last_digits count (n / 10)) ((48 + n % 10) ∷ []) (digits-bytes count (n / 10)) (and_from (is_word_byte (48 + n % 10)) true (digit-byte n) refl)

pub site-word : (site : Site) → is_word (site_text site) ≡ true
unfolding site_text last_digits
site-word site =
    bytes-join (last_digits 2 site.state ++ codes "-" ++ last_digits 3 site.county ++ codes "-") (last_digits 4 site.number)
    (bytes-join (last_digits 2 site.state ++ codes "-" ++ last_digits 3 site.county) (codes "-")
    (bytes-join (last_digits 2 site.state ++ codes "-") (last_digits 3 site.county)
    (bytes-join (last_digits 2 site.state) (codes "-") (digits-bytes 2 site.state) refl) (digits-bytes 3 site.county)) refl) (digits-bytes 4 site.number)

pub day-word : (day : ℕ) → is_word (day_text day) ≡ true
unfolding day_text last_digits
day-word day =
    bytes-join (last_digits 4 (year_of day) ++ codes "-" ++ last_digits 2 (month_of day) ++ codes "-") (last_digits 2 (day_of_month day))
    (bytes-join (last_digits 4 (year_of day) ++ codes "-" ++ last_digits 2 (month_of day)) (codes "-")
    (bytes-join (last_digits 4 (year_of day) ++ codes "-") (last_digits 2 (month_of day))
    (bytes-join (last_digits 4 (year_of day)) (codes "-") (digits-bytes 4 (year_of day)) refl) (digits-bytes 2 (month_of day))) refl) (digits-bytes 2 (day_of_month day))

pub hour-word : (hour : ℕ) → is_word (hour_text hour) ≡ true
unfolding hour_text last_digits
hour-word hour = bytes-join (last_digits 2 hour) (codes ":00") (digits-bytes 2 hour) refl

pub truth-word : (b : Bool) → is_word (truth_text b) ≡ true
truth-word true = refl
truth-word false = refl

-- of these three the second clause is for every other case, each of which computes
pub verdict-word : (v : Verdict) → is_word (verdict_name v) ≡ true
verdict-word Met = refl
verdict-word verdict = refl

pub standard-word : (s : Standard) → is_word (standard_name s) ≡ true
standard-word Ozone2015 = refl
standard-word standard = refl

pub rule-word : (r : Rule) → is_word (rule_name r) ≡ true
rule-word BadBytes = refl
rule-word rule = refl

hex-byte : (n : ℕ) → n < 16 → is_word_byte (hex_digit n) ≡ true
hex-byte n few = by_test (nat_lt n 10) refl
  where
    by_test : (b : Bool) → nat_lt n 10 ≡ b → is_word_byte (cond b (48 + n) (87 + n)) ≡ true
    by_test true e = grind (arith, nat_tests)
    by_test false e = grind (arith, nat_tests)

digest-bytes : (digest : List ℕ) → list_all (λ byte. nat_lt byte 256) digest ≡ true → list_all is_word_byte (digest_text digest) ≡ true
digest-bytes [] h = refl
digest-bytes (byte ∷ digest) h =
    let parts = and_parts (nat_lt byte 256) (list_all (λ b. nat_lt b 256) digest) h in
    let small : byte < 256 = grind (arith, nat_tests, parts.0) in
    and_from (is_word_byte (hex_digit (byte / 16))) _ (hex-byte (byte / 16) (omega arith))
    (and_from (is_word_byte (hex_digit (byte % 16))) (list_all is_word_byte (digest_text digest)) (hex-byte (byte % 16) (omega arith)) (digest-bytes digest parts.1))

pub digest-word : (digest : List ℕ) → length digest ≡ 32 → list_all (λ byte. nat_lt byte 256) digest ≡ true → is_word (digest_text digest) ≡ true
digest-word [] long h = absurd (omega (arith, long))
digest-word (byte ∷ digest) long h =
    and_from (nat_lt 0 (length (digest_text (byte ∷ digest)))) (list_all is_word_byte (digest_text (byte ∷ digest))) (some (suc (length (digest_text digest)))) (digest-bytes (byte ∷ digest) h)
  where
    some : (n : ℕ) → nat_lt 0 (suc n) ≡ true
    some n = grind (arith, nat_tests)

-- ---- cells

whole : (v : ℤ) → neg_ℤ (pos (2 ^ 63)) ≤ℤ v → (v +ℤ pos 1) ≤ℤ pos (2 ^ 63) → is_whole v ≡ true
whole v least most =
    let low : int_le (neg_ℤ (pos (2 ^ 63))) v ≡ true = grind (arith, ints, least) in
    let high : int_lt v (pos (2 ^ 63)) ≡ true = grind (arith, ints, most) in
    rw (low, high) refl

pub count : (n : ℕ) → n < 2 ^ 63 → is_cell (count_cell n) ≡ true
count n few = whole (pos n) (omega (arith, ints)) (omega (arith, ints))

pub held-whole : (low high : ℕ) (v : ℤ) → low ≤ 2 ^ 63 → high < 2 ^ 63 → Held low high v → is_whole v ≡ true
held-whole low high v l h held = whole v (omega (arith, ints, held.0)) (omega (arith, ints, held.1))

pub fixed : (low high places : ℕ) (v : ℤ) → low ≤ 2 ^ 63 → high < 2 ^ 63 → nat_le places 6 ≡ true → Held low high v → is_cell (Fixed v places) ≡ true
fixed low high places v l h p held = and_from (is_whole v) (nat_le places 6) (held-whole low high v l h held) p

pub if_fixed : (low high places : ℕ) (o : Option ℤ) → low ≤ 2 ^ 63 → high < 2 ^ 63 → nat_le places 6 ≡ true → IfHeld low high o → is_cell (fixed_cell places o) ≡ true
if_fixed low high places None l h p held = refl
if_fixed low high places (Some v) l h p held = fixed low high places v l h p held

pub if_whole : (low high : ℕ) (o : Option ℤ) → low ≤ 2 ^ 63 → high < 2 ^ 63 → IfHeld low high o → is_cell (whole_cell o) ≡ true
if_whole low high None l h held = refl
if_whole low high (Some v) l h held = held-whole low high v l h held

pub if_ppm : (o : Option ℤ) → IfHeld 999 9999 o → is_cell (ppm_cell o) ≡ true
if_ppm None held = refl
if_ppm (Some v) held = fixed 999 9999 3 v (omega arith) (omega arith) refl held

-- a percentage of a whole
pub percent-few : (part whole : ℕ) → 0 < whole → part ≤ whole → unsigned_abs (half_up (pos (100 * part)) (pos whole)) ≤ 100
percent-few part whole some few =
    by_held (half_up (pos (100 * part)) (pos whole)) (half_up-held (pos (100 * part)) whole 0 100 some (omega (arith, ints)) (omega (arith, ints)))
  where
    by_held : (v : ℤ) → Held 0 100 v → unsigned_abs v ≤ 100
    by_held (pos n) held = omega (arith, ints, held.1)
    by_held (negsuc n) held = absurd (omega (arith, ints, held.0))

-- ---- rows and heads

abbrev pub CellsAre : List SheetCell → Type 0
CellsAre cells = Every (λ cell. is_cell cell ≡ true) cells

cells-all : (cells : List SheetCell) → CellsAre cells → list_all is_cell cells ≡ true
cells-all [] are = refl
cells-all (cell ∷ cells) are = and_from (is_cell cell) (list_all is_cell cells) are.0 (cells-all cells are.1)

pub row-of : (columns : List (List ℕ)) (cells : List SheetCell) → (length cells == length columns) ≡ true → CellsAre cells → is_row columns cells ≡ true
row-of columns cells even are = and_from (length cells == length columns) (list_all is_cell cells) even (cells-all cells are)

pub heads-of : (heads : List Head) → Every (λ head. is_head head ≡ true) heads → list_all is_head heads ≡ true
heads-of [] are = refl
heads-of (head ∷ heads) are = and_from (is_head head) (list_all is_head heads) are.0 (heads-of heads are.1)

module _ {X : Type 0} (columns : List (List ℕ)) (P : X → Type 0) where
  pub rows-of : (cells : X → List SheetCell) → ((x : X) → P x → is_row columns (cells x) ≡ true)
      → (xs : List X) → Every P xs → list_all (is_row columns) (map cells xs) ≡ true
  rows-of cells row [] every = refl
  rows-of cells row (x ∷ xs) every =
      and_from (is_row columns (cells x)) (list_all (is_row columns) (map cells xs)) (row x every.0) (rows-of cells row xs every.1)

  -- rows that begin with a number
  pub numbered-rows : (most : ℕ) (cells : ℕ × X → List SheetCell) → ((i : ℕ) (x : X) → i < most → P x → is_row columns (cells (i, x)) ≡ true)
      → (n : ℕ) (xs : List X) → n + length xs ≤ most → Every P xs → list_all (is_row columns) (map cells (enumerate_from n xs)) ≡ true
  numbered-rows most cells row n [] few every = refl
  numbered-rows most cells row n (x ∷ xs) few every =
      and_from (is_row columns (cells (n, x))) (list_all (is_row columns) (map cells (enumerate_from (n + 1) xs))) (row n x (omega arith) every.0)
      (numbered-rows most cells row (n + 1) xs (omega arith) every.1)

pub zip-every : {X Y : Type 0} (P : X → Type 0) (xs : List X) (ys : List Y) → Every P xs → Every (λ (p : X × Y). P p.0) (zip xs ys)
zip-every P [] ys every = tt
zip-every P (x ∷ xs) [] every = tt
zip-every P (x ∷ xs) (y ∷ ys) every = (every.0, zip-every P xs ys every.1)

pub zip-few : {X Y : Type 0} (xs : List X) (ys : List Y) → length (zip xs ys) ≤ length xs
zip-few [] ys = omega arith
zip-few (x ∷ xs) [] = omega arith
zip-few (x ∷ xs) (y ∷ ys) = let rest = zip-few xs ys in omega arith
