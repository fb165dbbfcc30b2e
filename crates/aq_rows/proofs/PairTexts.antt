-- Pairs of numbers in a row's texts, and the numbers and rules in them.
use Rattle.std.proofs.Common.{◌≡◌, ℕ, ◌+◌, ◌<◌, ◌≤◌, Bool, true, false, not, ◌&&◌, cond, List, [], ◌∷◌, ◌^◌, length, nat_lt, if◌then◌else◌, refl, sym, ap, ◌∙◌, arith}
use Rattle.std.proofs.lemmas.Bool.{false≢true, and_parts}
use Rattle.std.proofs.lemmas.Bool.Decides.{nat_tests}
use Rattle.std.proofs.lemmas.List.{drop_all}
use Rattle.std.specs.Prelude.{Option, Some, None, ◌==◌, nat_le, find}
use Rattle.std.specs.List.{list_all, position_or_len, before_first, after_first}
use Rattle.std.specs.Str.Parse.{digits_value}
use Rattle.aq_base.specs.Decimal.{are_digits}
use Rattle.aq_base.specs.Rule.{rule_number, all_rules}
use Rattle.aq_base.specs.declared.rule.Rule.{Rule}
use Rattle.aq_rules.specs.Limits.{MOST_LINES}
use Rattle.aq_rules.specs.Lines.Fields.{is_empty}
use Rattle.aq_rules.specs.Lines.Spellings.{◌>>=◌}
use Rattle.aq_rules.specs.Kept.Rows.{is_colon, number_in, only_if, rule_with}
use Rattle.aq_rows.specs.Loaded.{is_few, listed_word, rest_word, rule_in, small_number}
use Rattle.aq_rows.specs.Texts.{is_byte}
use Rattle.aq_rows.proofs.Chains.{none_behind}

-- ---- no colon

nothing_behind : (text : List ℕ) → position_or_len (is_byte 58) text ≡ length text → after_first is_colon text ≡ []
nothing_behind text none = drop_all (position_or_len is_colon text + 1) text (omega arith)

pub no_listed : (text : List ℕ) → position_or_len (is_byte 58) text ≡ length text → listed_word text ≡ None
unfolding listed_word rule_in
no_listed text none = rw (nothing_behind text none) (none_behind (small_number (before_first is_colon text)) _ (λ line. refl))

pub no_rest : (text : List ℕ) → position_or_len (is_byte 58) text ≡ length text → rest_word text ≡ None
unfolding rest_word small_number
no_rest text none = rw (nothing_behind text none) (none_behind (rule_in (before_first is_colon text)) _ (λ rule. refl))

-- ---- rules have small numbers

none_so_great : (n : ℕ) (rules : List Rule) → list_all (λ r. nat_le (rule_number r) 36) rules ≡ true → 36 < n → find (λ r. rule_number r == n) rules ≡ None
none_so_great n [] all great = refl
none_so_great n (rule ∷ rules) all great =
    let parts = and_parts (nat_le (rule_number rule) 36) (list_all (λ r. nat_le (rule_number r) 36) rules) all in
    let other : (rule_number rule == n) ≡ false = grind (arith, nat_tests) in
    ap (λ b. cond b (Some rule) (find (λ r. rule_number r == n) rules)) other ∙ none_so_great n rules parts.1 great

pub by_small : (text : List ℕ) → rule_in text ≡ (small_number text >>= rule_with)
unfolding rule_in small_number
by_small text = by_number (number_in text)
  where
    by_test : (n : ℕ) (b : Bool) → is_few n ≡ b → rule_with n ≡ (cond b (Some n) None >>= rule_with)
    by_test n true e = refl
    by_test n false e = none_so_great n all_rules refl (grind (arith, nat_tests))

    by_number : (o : Option ℕ) → (o >>= rule_with) ≡ ((o >>= only_if is_few) >>= rule_with)
    by_number None = refl
    by_number (Some n) = by_test n (is_few n) refl

-- ---- numbers

-- a text of no digits has no small number
pub no_number : (text : List ℕ) → is_empty text ≡ true → small_number text ≡ None
unfolding small_number
no_number [] none = refl
no_number (b ∷ bs) none = absurd (false≢true none)

-- what has more than 64 bits is no small number either
pub whole_number : (text : List ℕ) → is_empty text ≡ false
    → small_number text ≡ ((if are_digits text && nat_lt (digits_value 10 text) (2 ^ 64) then Some (digits_value 10 text) else None) >>= only_if is_few)
unfolding small_number
whole_number text some = rw some (by_test (are_digits text) (nat_lt (digits_value 10 text) (2 ^ 64)) refl)
  where
    by_test : (digits fits : Bool) → nat_lt (digits_value 10 text) (2 ^ 64) ≡ fits
        → (cond (digits && true) (Some (digits_value 10 text)) None >>= only_if is_few) ≡ (cond (digits && fits) (Some (digits_value 10 text)) None >>= only_if is_few)
    by_test false fits e = refl
    by_test true true e = refl
    by_test true false e =
        let large : is_few (digits_value 10 text) ≡ false = grind (arith, nat_tests) in
        ap (λ b. cond b (Some (digits_value 10 text)) None) large
