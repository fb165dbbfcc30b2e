-- What the Content-Length headers come to is the length by the rule.
use Rattle.std.proofs.Common.{◌≡◌, ◌≢◌, ℕ, ◌^◌, ◌<◌, ◌≤◌, ◌&&◌, ◌||◌, get_or, map, zero, suc, Bool, true, false, cond, eqb, leb, List, [], ◌∷◌, ◌++◌, length, append_assoc, refl, sym, ap, ◌∙◌, arith, Some, None, Result, Ok, Err}
use Rattle.std.specs.Prelude.{bytes_eq}
use Rattle.std.specs.Cmp.Lexicographic.{bytes_decides}
use Rattle.std.specs.List.{list_all, list_any}
use Rattle.std.proofs.lemmas.Bool.{and_parts, and_from, and_right, eq-eqb, ne_eqb, lt-leb, false≢true}
use Rattle.std.proofs.Math.Nat.{pow-le-pow_right}
use Rattle.std.specs.Str.Parse.{digits_value}
use Rattle.httparse.specs.declared.spans.HeaderSpan.{HeaderSpan}
use Rattle.httparse.specs.Spans.{header_bytes}
use Rattle.http1.specs.Fields.{Header, is_named, values_named}
use Rattle.http1.specs.Text.{eq_ignore_case}
use Rattle.aq_rules.specs.Limits.{MOST_BYTES}
use Rattle.aq_http.specs.declared.verb.Verb.{Verb}
use Rattle.aq_http.specs.Length.{Stated, Absent, Unclear, Digits, IsStated, body_length, is_number, is_number_of, length_in, number_in, stated_again, stated_anew, stated_onto, stated_with, without_zeros}
use Rattle.aq_http.proofs.Numbers.{same_digits, whole_at_least, zeros_count_nothing, zeros_dropped}

stays_unclear : (values : List (List ℕ)) → stated_onto Unclear values ≡ Unclear
stays_unclear [] = refl
stays_unclear (value ∷ values) = stays_unclear values

pub number_digits : (text : List ℕ) → is_number text ≡ true → IsStated (without_zeros text)
number_digits text is = zeros_dropped text (and_parts _ _ is).1

-- digits that stand once stand as long as further values are the same number
stays : (digits : List ℕ) → IsStated digits → (values : List (List ℕ))
    → stated_onto (Digits digits) values ≡ cond (list_all (is_number_of (digits_value 10 digits)) values) (Digits digits) Unclear
stays digits stated [] = refl
stays digits stated (value ∷ values) = by_number (is_number value) refl (stays digits stated values)
  where
    n : ℕ
    n = digits_value 10 digits

    rest : Bool
    rest = list_all (is_number_of n) values

    later : Type 0
    later = stated_onto (Digits digits) values ≡ cond rest (Digits digits) Unclear

    by_digits : (t : Bool) → bytes_eq digits (without_zeros value) ≡ t → is_number value ≡ true → later
        → stated_onto (cond t (Digits digits) Unclear) values ≡ cond (is_number_of n value && rest) (Digits digits) Unclear
    by_digits true same is stays_so =
        let equal : digits ≡ without_zeros value = (bytes_decides digits (without_zeros value)).0 same in
        let value_is : digits_value 10 value ≡ n = sym (ap (digits_value 10) equal ∙ zeros_count_nothing value) in
        stays_so
        ∙ ap (λ t. cond (t && rest) (Digits digits) Unclear) (sym (and_from _ _ is (eq-eqb _ _ value_is)))
    by_digits false other is stays_so =
        let differs : digits_value 10 value ≢ n = λ e.
        false≢true (sym other ∙ (bytes_decides digits (without_zeros value)).1
        (same_digits digits (without_zeros value) stated (number_digits value is) (sym (zeros_count_nothing value ∙ e)))) in
        stays_unclear values
        ∙ ap (λ t. cond (t && rest) (Digits digits) Unclear) (sym (and_right (is_number value) _ (ne_eqb _ _ differs)))

    by_number : (t : Bool) → is_number value ≡ t → later
        → stated_onto (stated_again digits (cond t (Some (without_zeros value)) None)) values
        ≡ cond ((t && eqb (digits_value 10 value) n) && rest) (Digits digits) Unclear
    by_number true is stays_so =
        by_digits (bytes_eq digits (without_zeros value)) refl is stays_so
        ∙ ap (λ t. cond ((t && eqb (digits_value 10 value) n) && rest) (Digits digits) Unclear) is
    by_number false none stays_so = stays_unclear values

-- the digits that the values come to give the length by the rule
pub length_by_rule : (verb : Verb) (values : List (List ℕ)) → length_in verb (stated_onto Absent values) ≡ body_length verb values
length_by_rule verb [] = refl
length_by_rule verb (value ∷ values) = by_number (is_number value) refl
  where
    n : ℕ
    n = digits_value 10 value

    all : ℕ → Bool
    all k = list_all (is_number_of k) values

    within : ℕ → Result ℕ ℕ
    within k = cond (leb k MOST_BYTES) (Ok k) (Err 413)

    by_values : (t : Bool) → length_in verb (cond t (Digits (without_zeros value)) Unclear) ≡ cond t (within (digits_value 10 (without_zeros value))) (Err 400)
    by_values true = refl
    by_values false = refl

    by_number : (t : Bool) → is_number value ≡ t
        → length_in verb (stated_onto (stated_anew (cond t (Some (without_zeros value)) None)) values)
        ≡ cond ((t && eqb n n) && all n) (within n) (Err 400)
    by_number true is =
        ap (length_in verb) (stays (without_zeros value) (number_digits value is) values)
        ∙ by_values (all (digits_value 10 (without_zeros value)))
        ∙ ap (λ k. cond (all k) (within k) (Err 400)) (zeros_count_nothing value)
        ∙ ap (λ t. cond (t && all n) (within n) (Err 400)) (sym (eq-eqb n n refl))
    by_number false none = ap (length_in verb) (stays_unclear values)

-- more than seven digits are too many bytes
pub too_many_digits : (digits : List ℕ) → IsStated digits → 7 < length digits → number_in digits ≡ Err 413
too_many_digits [] stated many = absurd (omega arith)
too_many_digits (c ∷ cs) stated many =
    let low = whole_at_least (c ∷ cs) stated (length cs) refl in
    let power : 10 ^ 7 ≤ 10 ^ length cs = pow-le-pow_right {n = 10} (omega arith) {i = 7} {j = length cs} (omega (arith, many)) in
    ap (λ t. cond t (Ok (digits_value 10 (c ∷ cs))) (Err 413)) (lt-leb (digits_value 10 (c ∷ cs)) MOST_BYTES (omega (arith, low, power)))

-- ---- one header more

pub stated_onto_more : (so_far : Stated) (values : List (List ℕ)) (value : List ℕ)
    → stated_onto so_far (values ++ value ∷ []) ≡ stated_with (stated_onto so_far values) value
stated_onto_more so_far [] value = refl
stated_onto_more so_far (first ∷ values) value = stated_onto_more (stated_with so_far first) values value

pub named_more : (key : List ℕ) (headers : List Header) (name value : List ℕ) → eq_ignore_case name key ≡ true
    → values_named key (headers ++ (name, value) ∷ []) ≡ values_named key headers ++ value ∷ []
named_more key [] name value is = ap (λ t. cond t (value ∷ []) [] ++ []) is
named_more key (h ∷ hs) name value is =
    ap (λ t. cond (is_named key h) (h.1 ∷ []) [] ++ t) (named_more key hs name value is)
    ∙ sym (append_assoc (cond (is_named key h) (h.1 ∷ []) []) (values_named key hs) (value ∷ []))

-- a header that has the name is among those that do
pub named_at : (key input : List ℕ) (headers : List HeaderSpan) (i : ℕ) (d : HeaderSpan) → i < length headers
    → is_named key (header_bytes input (get_or headers i d)) ≡ true → list_any (is_named key) (map (header_bytes input) headers) ≡ true
named_at key input [] i d within is = absurd (omega arith)
named_at key input (h ∷ hs) zero d within is = ap (λ t. t || list_any (is_named key) (map (header_bytes input) hs)) is
named_at key input (h ∷ hs) (suc i) d within is =
    ap (λ t. is_named key (header_bytes input h) || t) (named_at key input hs i d (omega (arith, within)) is)
    ∙ either_way (is_named key (header_bytes input h))
  where
    either_way : (t : Bool) → (t || true) ≡ true
    either_way true = refl
    either_way false = refl
