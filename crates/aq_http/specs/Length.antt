-- The length of a request's body, from the values of its Content-Length headers (RFC 9112, section 6.2).
use Rattle.std.specs.Prelude.{⊤, ◌≡◌, ℕ, Bool, true, bytes_eq, ◌&&◌, ◌==◌, nat_lt, nat_le, if◌then◌else◌, List, [], ◌∷◌, length, Option, Some, None, Result, Ok, Err}
use Rattle.std.specs.List.{list_all}
use Rattle.std.specs.Str.Parse.{digits_value}
use Rattle.aq_base.specs.Decimal.{are_digits}
use Rattle.aq_rules.specs.Limits.{MOST_BYTES}
use Rattle.aq_http.specs.declared.verb.Verb.{Verb}
use Rattle.aq_http.specs.declared.verb.Verb.TheVariants.{Get, Post, Other}
use Rattle.aq_http.specs.declared.length.Stated.{Stated as Read}
use Rattle.aq_http.specs.declared.length.Stated.TheVariants as read

-- ---- the rule

-- without a Content-Length, POST is refused, and another method has no body
abbrev pub no_length : Verb → Result ℕ ℕ
no_length Post = Err 411
no_length Get = Ok 0
no_length Other = Ok 0

-- one or more digits
abbrev pub is_number : List ℕ → Bool
is_number text = nat_lt 0 (length text) && are_digits text

abbrev pub is_number_of : ℕ → List ℕ → Bool
is_number_of n text = is_number text && (digits_value 10 text == n)

-- each value is a number, and all are the same one; more bytes than a load may have are refused
abbrev pub body_length : Verb → List (List ℕ) → Result ℕ ℕ
body_length verb [] = no_length verb
body_length verb (value ∷ values) =
    if list_all (is_number_of (digits_value 10 value)) (value ∷ values)
    then (if nat_le (digits_value 10 value) MOST_BYTES then Ok (digits_value 10 value) else Err 413)
    else Err 400

-- ---- how it is tested: numbers of any size are compared by their digits

abbrev pub without_zeros : List ℕ → List ℕ
without_zeros [] = []
without_zeros (byte ∷ bytes) = if byte == 48 then without_zeros bytes else byte ∷ bytes

-- the digits of a number, without leading zeros
abbrev pub digits_of : List ℕ → Option (List ℕ)
digits_of text = if is_number text then Some (without_zeros text) else None

-- what the values so far come to
pub data Stated : Type 0 where
  Absent Unclear : Stated
  Digits : (digits : List ℕ) → Stated

abbrev pub stated_anew : Option (List ℕ) → Stated
stated_anew None = Unclear
stated_anew (Some digits) = Digits digits

abbrev pub stated_again : List ℕ → Option (List ℕ) → Stated
stated_again before None = Unclear
stated_again before (Some digits) = if bytes_eq before digits then Digits before else Unclear

abbrev pub stated_with : Stated → List ℕ → Stated
stated_with Absent value = stated_anew (digits_of value)
stated_with Unclear value = Unclear
stated_with (Digits before) value = stated_again before (digits_of value)

abbrev pub stated_onto : Stated → List (List ℕ) → Stated
stated_onto so_far [] = so_far
stated_onto so_far (value ∷ values) = stated_onto (stated_with so_far value) values

-- the digits of a number that begin with no zero
pub record IsStated (digits : List ℕ) : Type 0 where
  pub are_digits : are_digits digits ≡ true
  pub no_zero : without_zeros digits ≡ digits

abbrev pub OnDigits : Stated → Type 0
OnDigits Absent = ⊤
OnDigits Unclear = ⊤
OnDigits (Digits digits) = IsStated digits

abbrev pub number_in : List ℕ → Result ℕ ℕ
number_in digits = if nat_le (digits_value 10 digits) MOST_BYTES then Ok (digits_value 10 digits) else Err 413

abbrev pub length_in : Verb → Stated → Result ℕ ℕ
length_in verb Absent = no_length verb
length_in verb Unclear = Err 400
length_in verb (Digits digits) = number_in digits

-- as the program has it
abbrev pub stated_of : Read → Stated
stated_of read.Absent = Absent
stated_of read.Unclear = Unclear
stated_of (read.Digits digits) = Digits digits.now
