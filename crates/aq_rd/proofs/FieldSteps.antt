-- The fields of a line, byte by byte.
use Rattle.std.proofs.Common.{◌≡◌, ◌≢◌, inl, inr, ◌⊎◌, ℕ, zero, suc, ◌+◌, ◌-◌, ◌<◌, ◌≤◌, Bool, true, false, cond, nat_le, not, ◌&&◌, ◌||◌, List, [], ◌∷◌, ◌++◌, length, take, drop, get_or, map, refl, sym, ap, ◌∙◌, arith}
use Rattle.std.specs.List.{slice_split, onto_first, list_all, list_any}
use Rattle.std.proofs.lemmas.Bool.{false≢true, cases_lt}
use Rattle.std.proofs.lemmas.Bool.Decides.{nat_tests}
use Rattle.std.proofs.lemmas.List.{take_more}
use Rattle.std.proofs.lemmas.List.Splits.{slice_split-cons_yes, slice_split-cons_no}
use Rattle.aq_rules.specs.Lines.Fields.{fields, field, trimmed, without_front, without_back, onto_text, is_bar, is_space, is_empty}
use Rattle.aq_rules.specs.Lines.Reading.{is_plain, is_plain_byte}
use Rattle.aq_rd.specs.FieldPlaces.{has_text, are_between}

pub same_or_other : (a b : ℕ) → (a ≡ b) ⊎ (a ≢ b)
same_or_other a b =
    elim (cases_lt a b) [
      | inl less ↦ inr (λ e. absurd (omega arith))
      | inr more ↦
          elim (cases_lt b a) [
            | inl less ↦ inr (λ e. absurd (omega arith))
            | inr most ↦ inl (omega arith)
          ]
    ]

-- ---- the parts of a text

parts-cond : (b : Bool) (x : ℕ) (parts : List (List ℕ)) → cond b ([] ∷ parts) (onto_first x parts) ≡ get_or (cond b ([] ∷ parts) (onto_first x parts)) 0 [] ∷ drop 1 (cond b ([] ∷ parts) (onto_first x parts))
parts-cond true x parts = refl
parts-cond false x [] = refl
parts-cond false x (part ∷ parts) = refl

-- there is a first part
pub parts-cons : (text : List ℕ) → slice_split is_bar text ≡ get_or (slice_split is_bar text) 0 [] ∷ drop 1 (slice_split is_bar text)
parts-cons [] = refl
parts-cons (byte ∷ text) = parts-cond (is_bar byte) byte (slice_split is_bar text)

-- ---- spaces

pub without_back-space : (text : List ℕ) → without_back (text ++ 32 ∷ []) ≡ without_back text
without_back-space [] = refl
without_back-space (byte ∷ text) = ap (onto_text byte) (without_back-space text)

onto_text-text : (byte : ℕ) (text : List ℕ) → is_empty text ≡ false → onto_text byte text ≡ byte ∷ text
onto_text-text byte [] e = absurd (false≢true (sym e))
onto_text-text byte (next ∷ text) e = refl

is_empty-cond : (b : Bool) (byte : ℕ) → is_empty (cond b [] (byte ∷ [])) ≡ (b && true)
is_empty-cond true byte = refl
is_empty-cond false byte = refl

and_false : (b : Bool) → (b && false) ≡ false
and_false true = refl
and_false false = refl

onto_text-not_space : (byte : ℕ) → is_space byte ≡ false → onto_text byte [] ≡ byte ∷ []
onto_text-not_space byte e = ap (λ b. cond b [] (byte ∷ [])) e

pub without_back-text : (text : List ℕ) (byte : ℕ) → is_space byte ≡ false → without_back (text ++ byte ∷ []) ≡ text ++ byte ∷ []
without_back-text [] byte e = onto_text-not_space byte e
without_back-text (first ∷ []) byte e =
    ap (onto_text first) (onto_text-not_space byte e)
without_back-text (first ∷ second ∷ text) byte e =
    ap (onto_text first) (without_back-text (second ∷ text) byte e)

space-cond : (byte : ℕ) → byte ≢ 32 → is_space byte ≡ false
space-cond byte other = grind (arith, nat_tests)

take-last : (text : List ℕ) (end : ℕ) → 0 < end → end ≤ length text → take end text ≡ take (end - 1) text ++ get_or text (end - 1) 0 ∷ []
take-last text end some within =
    let one : end - 1 + 1 ≡ end = omega arith in
    ap (λ n. take n text) (sym one) ∙ take_more text (end - 1) 0 (omega arith)

pub back-step : (text : List ℕ) (end : ℕ) → 0 < end → end ≤ length text → get_or text (end - 1) 0 ≡ 32 → without_back (take (end - 1) text) ≡ without_back (take end text)
back-step text end some within space =
    sym (ap without_back (take-last text end some within ∙ ap (λ byte. take (end - 1) text ++ byte ∷ []) space) ∙ without_back-space (take (end - 1) text))

pub back-stop : (text : List ℕ) (end : ℕ) → 0 < end → end ≤ length text → get_or text (end - 1) 0 ≢ 32 → take end text ≡ without_back (take end text)
back-stop text end some within other =
    let whole = take-last text end some within in
    whole ∙ sym (ap without_back whole ∙ without_back-text (take (end - 1) text) (get_or text (end - 1) 0) (space-cond (get_or text (end - 1) 0) other))

pub back-none : (text : List ℕ) (end : ℕ) → end ≡ 0 → take end text ≡ without_back (take end text)
back-none text end none = ap (λ n. take n text) none ∙ sym (ap (λ n. without_back (take n text)) none)

-- ---- the first field

both : (a b : Bool) → (a && b) ≡ true → (a ≡ true) × (b ≡ true)
both true b h = (refl, h)
both false b h = absurd (false≢true h)

not-true : (b : Bool) → not b ≡ true → b ≡ false
not-true false h = refl
not-true true h = absurd (false≢true h)

onto-first_part : (byte : ℕ) (parts : List (List ℕ)) (part : List ℕ) → parts ≡ part ∷ drop 1 parts → get_or (onto_first byte parts) 0 [] ≡ byte ∷ part
onto-first_part byte [] part h = cc
onto-first_part byte (first ∷ parts) part h = cc

part-cons : (byte : ℕ) (text : List ℕ) → is_bar byte ≡ false → get_or (slice_split is_bar (byte ∷ text)) 0 [] ≡ byte ∷ get_or (slice_split is_bar text) 0 []
part-cons byte text e =
    ap (λ parts. get_or parts 0 []) (slice_split-cons_no is_bar byte text e)
    ∙ onto-first_part byte (slice_split is_bar text) (get_or (slice_split is_bar text) 0 []) (parts-cons text)

pub part-whole : (text : List ℕ) → list_all (λ byte. not (is_bar byte)) text ≡ true → get_or (slice_split is_bar text) 0 [] ≡ text
part-whole [] none = refl
part-whole (byte ∷ text) none =
    let parts = both (not (is_bar byte)) (list_all (λ b. not (is_bar b)) text) none in
    part-cons byte text (not-true (is_bar byte) parts.0) ∙ ap (λ t. byte ∷ t) (part-whole text parts.1)

pub part-at : (text : List ℕ) (place : ℕ) → place < length text → list_all (λ byte. not (is_bar byte)) (take place text) ≡ true → is_bar (get_or text place 0) ≡ true → get_or (slice_split is_bar text) 0 [] ≡ take place text
part-at [] place within none bar = absurd (omega arith)
part-at (byte ∷ text) zero within none bar = ap (λ parts. get_or parts 0 []) (slice_split-cons_yes is_bar byte text bar)
part-at (byte ∷ text) (suc place) within none bar =
    let parts = both (not (is_bar byte)) (list_all (λ b. not (is_bar b)) (take place text)) none in
    part-cons byte text (not-true (is_bar byte) parts.0) ∙ ap (λ t. byte ∷ t) (part-at text place (omega arith) parts.1 bar)

field-first : (text : List ℕ) → field 1 (fields text) ≡ trimmed (get_or (slice_split is_bar text) 0 [])
field-first text = ap (λ parts. get_or (map trimmed parts) 0 []) (parts-cons text)

pub field-whole : (text : List ℕ) → list_all (λ byte. not (is_bar byte)) text ≡ true → field 1 (fields text) ≡ trimmed text
field-whole text none = field-first text ∙ ap trimmed (part-whole text none)

pub field-at : (text : List ℕ) (place : ℕ) → place < length text → list_all (λ byte. not (is_bar byte)) (take place text) ≡ true → get_or text place 0 ≡ 124 → field 1 (fields text) ≡ trimmed (take place text)
field-at text place within none bar =
    field-first text ∙ ap trimmed (part-at text place within none (ap is_bar bar))

-- ---- all fields, byte by byte

not_and : (a b c : Bool) → (not (a && b) || c) ≡ (not a || (not b || c))
not_and true b c = refl
not_and false b c = refl

pub fields-bar : (byte : ℕ) (text : List ℕ) → byte ≡ 124 → fields (byte ∷ text) ≡ [] ∷ fields text
fields-bar byte text bar = ap (map trimmed) (slice_split-cons_yes is_bar byte text (ap is_bar bar))

not_bar : (byte : ℕ) → byte ≢ 124 → is_bar byte ≡ false
not_bar byte other = grind (arith, nat_tests)

split-text : (byte : ℕ) (text : List ℕ) → byte ≢ 124 → slice_split is_bar (byte ∷ text) ≡ (byte ∷ get_or (slice_split is_bar text) 0 []) ∷ drop 1 (slice_split is_bar text)
split-text byte text other =
    slice_split-cons_no is_bar byte text (not_bar byte other) ∙ ap (onto_first byte) (parts-cons text)

-- a byte of a field: the fields behind that one stay, and it holds a text if it did or the byte is no space
pub fields-text : (byte : ℕ) (text : List ℕ) → byte ≢ 124 → drop 1 (fields (byte ∷ text)) ≡ drop 1 (fields text)
fields-text byte text other =
    ap (λ parts. drop 1 (map trimmed parts)) (split-text byte text other)
    ∙ sym (ap (λ parts. drop 1 (map trimmed parts)) (parts-cons text))

is_empty-onto_text : (byte : ℕ) (text : List ℕ) → is_empty (onto_text byte text) ≡ (is_space byte && is_empty text)
is_empty-onto_text byte [] = is_empty-cond (is_space byte) byte
is_empty-onto_text byte (next ∷ text) = sym (and_false (is_space byte))

-- a text is empty without the spaces round it where all its bytes are spaces
is_empty-trimmed_back : (text : List ℕ) → is_empty (without_back text) ≡ list_all is_space text
is_empty-trimmed_back [] = refl
is_empty-trimmed_back (byte ∷ text) =
    is_empty-onto_text byte (without_back text) ∙ ap (λ b. is_space byte && b) (is_empty-trimmed_back text)

all-cond : (b : Bool) (byte : ℕ) (text : List ℕ) → is_space byte ≡ b → list_all is_space (without_front text) ≡ list_all is_space text
    → list_all is_space (cond b (without_front text) (byte ∷ text)) ≡ (b && list_all is_space text)
all-cond true byte text e h = h
all-cond false byte text e h = ap (λ b. b && list_all is_space text) e

all-without_front : (text : List ℕ) → list_all is_space (without_front text) ≡ list_all is_space text
all-without_front [] = refl
all-without_front (byte ∷ text) = all-cond (is_space byte) byte text refl (all-without_front text)

is_empty-trimmed : (text : List ℕ) → is_empty (trimmed text) ≡ list_all is_space text
is_empty-trimmed text = is_empty-trimmed_back (without_front text) ∙ all-without_front text

has_text-parts : (byte : ℕ) (part : List ℕ) (parts : List (List ℕ)) → has_text (map trimmed ((byte ∷ part) ∷ parts)) ≡ (not (is_space byte) || has_text (map trimmed (part ∷ parts)))
has_text-parts byte part parts =
    ap (λ b. not b || has_text (map trimmed parts)) (is_empty-trimmed (byte ∷ part))
    ∙ not_and (is_space byte) (list_all is_space part) (has_text (map trimmed parts))
    ∙ sym (ap (λ b. not (is_space byte) || (not b || has_text (map trimmed parts))) (is_empty-trimmed part))

pub has_text-more : (byte : ℕ) (text : List ℕ) → byte ≢ 124 → has_text (fields (byte ∷ text)) ≡ (not (is_space byte) || has_text (fields text))
has_text-more byte text other =
    ap (λ parts. has_text (map trimmed parts)) (split-text byte text other)
    ∙ has_text-parts byte (get_or (slice_split is_bar text) 0 []) (drop 1 (slice_split is_bar text))
    ∙ sym (ap (λ parts. not (is_space byte) || has_text (map trimmed parts)) (parts-cons text))

-- ---- a text without spaces

no_space : (byte : ℕ) → (nat_le 0x21 byte && nat_le byte 0x7E) ≡ true → is_space byte ≡ false
no_space byte h = grind (arith, nat_tests)

without_front-dense : (text : List ℕ) → are_between 0x21 text ≡ true → without_front text ≡ text
without_front-dense [] h = refl
without_front-dense (byte ∷ text) h =
    let parts = both (nat_le 0x21 byte && nat_le byte 0x7E) (are_between 0x21 text) h in
    ap (λ b. cond b (without_front text) (byte ∷ text)) (no_space byte parts.0)

onto_text-dense : (byte : ℕ) (text : List ℕ) → is_space byte ≡ false → onto_text byte text ≡ byte ∷ text
onto_text-dense byte [] e = ap (λ b. cond b [] (byte ∷ [])) e
onto_text-dense byte (next ∷ text) e = refl

without_back-dense : (text : List ℕ) → are_between 0x21 text ≡ true → without_back text ≡ text
without_back-dense [] h = refl
without_back-dense (byte ∷ text) h =
    let parts = both (nat_le 0x21 byte && nat_le byte 0x7E) (are_between 0x21 text) h in
    ap (onto_text byte) (without_back-dense text parts.1) ∙ onto_text-dense byte text (no_space byte parts.0)

dense-drop : (n : ℕ) (text : List ℕ) → are_between 0x21 text ≡ true → are_between 0x21 (drop n text) ≡ true
dense-drop zero text h = h
dense-drop (suc n) [] h = refl
dense-drop (suc n) (byte ∷ text) h = dense-drop n text (both (nat_le 0x21 byte && nat_le byte 0x7E) (are_between 0x21 text) h).1

dense-take : (n : ℕ) (text : List ℕ) → are_between 0x21 text ≡ true → are_between 0x21 (take n text) ≡ true
dense-take zero text h = refl
dense-take (suc n) [] h = refl
dense-take (suc n) (byte ∷ text) h =
    let parts = both (nat_le 0x21 byte && nat_le byte 0x7E) (are_between 0x21 text) h in
    ap (λ b. b && are_between 0x21 (take n text)) parts.0 ∙ dense-take n text parts.1

plain-byte : (byte : ℕ) → (nat_le 0x21 byte && nat_le byte 0x7E) ≡ true → is_plain_byte byte ≡ true
plain-byte byte h = grind (arith, nat_tests)

pub dense-plain : (text : List ℕ) → are_between 0x21 text ≡ true → is_plain text ≡ true
dense-plain [] h = refl
dense-plain (byte ∷ text) h =
    let parts = both (nat_le 0x21 byte && nat_le byte 0x7E) (are_between 0x21 text) h in
    ap (λ b. b && is_plain text) (plain-byte byte parts.0) ∙ dense-plain text parts.1

-- a part of it is as it is without the spaces round it
pub trimmed-dense : (start count : ℕ) (line : List ℕ) → are_between 0x21 line ≡ true → trimmed (take count (drop start line)) ≡ take count (drop start line)
trimmed-dense start count line h =
    let text = take count (drop start line) in
    let dense = dense-take count (drop start line) (dense-drop start line h) in
    ap without_back (without_front-dense text dense) ∙ without_back-dense text dense

-- a field holds a text where a byte is neither a bar nor a space
pub has_text-bytes : (text : List ℕ) → has_text (fields text) ≡ list_any (λ byte. not (is_bar byte) && not (is_space byte)) text
has_text-bytes [] = refl
has_text-bytes (byte ∷ text) =
    elim (same_or_other byte 124) [
      | inl e ↦
          ap has_text (fields-bar byte text e) ∙ has_text-bytes text
          ∙ sym (ap (λ b. list_any (λ byte. not (is_bar byte) && not (is_space byte)) (b ∷ text)) e)
      | inr ne ↦
          has_text-more byte text ne ∙ ap (λ b. not (is_space byte) || b) (has_text-bytes text)
          ∙ sym (ap (λ b. (not b && not (is_space byte)) || list_any (λ byte. not (is_bar byte) && not (is_space byte)) text) (not_bar byte ne))
    ]

pub fields-cons : (text : List ℕ) → 1 ≤ length (fields text)
fields-cons text = let some : length (fields text) ≡ suc (length (map trimmed (drop 1 (slice_split is_bar text)))) = ap (λ parts. length (map trimmed parts)) (parts-cons text) in omega arith
