-- Codes that are read from words are those that are written, and which lists of them fit.
use Rattle.std.proofs.Common.{◌≡◌, ℕ, Bool, true, false, not, ◌&&◌, ◌||◌, cond, List, [], ◌∷◌, ◌++◌, length, map, refl, ap, subst, ◌∙◌, arith, length-append}
use Rattle.std.specs.Prelude.{Option, Some, None, option_map, ◌==◌, nat_le}
use Rattle.std.specs.List.{list_all, join_with_byte}
use Rattle.std.proofs.lemmas.Bool.{and_from, and_parts}
use Rattle.std.proofs.lemmas.Bool.Decides.{nat_tests}
use Rattle.std.proofs.lemmas.List.Splits.{join_with_byte-slice_split}
use Rattle.aq_base.specs.Quals.{is_same_code, has_code, all_distinct, with_code}
use Rattle.aq_base.specs.declared.code.Code.{Code}
use Rattle.aq_base.specs.declared.quals.TheConstants.{MOST_QUALIFIERS}
use Rattle.aq_rules.specs.Lines.Spellings.{◌>>=◌, is_code_byte, qualifier_in}
use Rattle.aq_rules.specs.Lines.Canonical.{code_text}
use Rattle.aq_rules.specs.Office.Office.{is_qualifier}
use Rattle.aq_rules.specs.Shown.Export.{codes_text, null_text}
use Rattle.aq_rules.specs.Kept.Rows.{each, null_of, words}
use Rattle.aq_rows.specs.Observed.{are_quals}
use Rattle.aq_rows.proofs.Gathered.{FitsInFront}

-- ---- which lists of codes fit

and_none : (a : Bool) → (a && false) ≡ false
and_none true = refl
and_none false = refl

or_all : (a : Bool) → (a || true) ≡ true
or_all true = refl
or_all false = refl

same_turned : (a b : Code) → is_same_code a b ≡ true → is_same_code b a ≡ true
same_turned a b h = grind (arith, nat_tests)

has_last : (code other : Code) (codes : List Code) → is_same_code other code ≡ true → has_code code (codes ++ other ∷ []) ≡ true
has_last code other [] h = ap (λ b. b || false) h
has_last code other (c ∷ codes) h = ap (λ b. is_same_code c code || b) (has_last code other codes h) ∙ or_all (is_same_code c code)

not_distinct : (code : Code) (codes : List Code) → has_code code codes ≡ true → all_distinct (codes ++ code ∷ []) ≡ false
not_distinct code [] h = cc
not_distinct code (c ∷ codes) h = by_test (is_same_code c code) refl h (not_distinct code codes)
  where
    by_test : (b : Bool) → is_same_code c code ≡ b → (b || has_code code codes) ≡ true → (has_code code codes ≡ true → all_distinct (codes ++ code ∷ []) ≡ false)
        → (not (has_code c (codes ++ code ∷ [])) && all_distinct (codes ++ code ∷ [])) ≡ false
    by_test true e h more = ap (λ b. not b && all_distinct (codes ++ code ∷ [])) (has_last c code codes (same_turned c code e))
    by_test false e h more = ap (λ b. not (has_code c (codes ++ code ∷ [])) && b) (more h) ∙ and_none (not (has_code c (codes ++ code ∷ [])))

-- a code that adds nothing was there
pub not_new : (code : Code) (codes : List Code) → length (with_code codes code) ≡ length codes → are_quals (codes ++ code ∷ []) ≡ false
not_new code codes same = ap (λ b. b && nat_le (length (codes ++ code ∷ [])) MOST_QUALIFIERS) (not_distinct code codes (by_test (has_code code codes) same))
  where
    by_test : (b : Bool) → length (cond b codes (codes ++ code ∷ [])) ≡ length codes → b ≡ true
    by_test true h = refl
    by_test false h = absurd (omega (arith, length-append codes (code ∷ []), h))

has-front : (code : Code) (xs ys : List Code) → has_code code xs ≡ true → has_code code (xs ++ ys) ≡ true
has-front code [] ys h = cc
has-front code (x ∷ xs) ys h = by_test (is_same_code x code) h (has-front code xs ys)
  where
    by_test : (b : Bool) → (b || has_code code xs) ≡ true → (has_code code xs ≡ true → has_code code (xs ++ ys) ≡ true) → (b || has_code code (xs ++ ys)) ≡ true
    by_test true h more = refl
    by_test false h more = more h

distinct-front : (xs ys : List Code) → all_distinct xs ≡ false → all_distinct (xs ++ ys) ≡ false
distinct-front [] ys h = cc
distinct-front (x ∷ xs) ys h = by_test (has_code x xs) refl h (distinct-front xs ys)
  where
    by_test : (b : Bool) → has_code x xs ≡ b → (not b && all_distinct xs) ≡ false → (all_distinct xs ≡ false → all_distinct (xs ++ ys) ≡ false)
        → (not (has_code x (xs ++ ys)) && all_distinct (xs ++ ys)) ≡ false
    by_test true e h more = ap (λ b. not b && all_distinct (xs ++ ys)) (has-front x xs ys e)
    by_test false e h more = ap (λ b. not (has_code x (xs ++ ys)) && b) (more h) ∙ and_none (not (has_code x (xs ++ ys)))

pub quals-front : FitsInFront are_quals
quals-front xs ys h = by_test (all_distinct xs) refl h
  where
    many : nat_le (length xs) MOST_QUALIFIERS ≡ false → nat_le (length (xs ++ ys)) MOST_QUALIFIERS ≡ false
    many bad = let long = length-append xs ys in grind (arith, nat_tests)

    by_test : (b : Bool) → all_distinct xs ≡ b → (b && nat_le (length xs) MOST_QUALIFIERS) ≡ false → are_quals (xs ++ ys) ≡ false
    by_test true e h = ap (λ b. all_distinct (xs ++ ys) && b) (many h) ∙ and_none (all_distinct (xs ++ ys))
    by_test false e h = ap (λ b. b && nat_le (length (xs ++ ys)) MOST_QUALIFIERS) (distinct-front xs ys e)

-- ---- codes that are read

-- the text is the one that is written of the code
abbrev Says : List ℕ → Code → Type 0
Says text code = (code_text code ≡ text) × (is_qualifier code ≡ true)

says : (text : List ℕ) (code other : Code) → Says text code → Some code ≡ Some other → Says text other
says text code other h same = let is : code ≡ other = cc in subst (Says text) is h

one : (a : ℕ) (b : Bool) (code : Code) → is_code_byte a ≡ b → cond b (Some (record { first = a; second = 0 })) None ≡ Some code → Says (a ∷ []) code
one a true code e h = says (a ∷ []) (record { first = a; second = 0 }) code (refl, and_from (is_code_byte a) true e refl) h
one a false code e h = cc

not_zero : (b : ℕ) → is_code_byte b ≡ true → (b == 0) ≡ false
not_zero b h = grind (arith, nat_tests)

two : (a c : ℕ) (b : Bool) (code : Code) → (is_code_byte a && is_code_byte c) ≡ b → cond b (Some (record { first = a; second = c })) None ≡ Some code → Says (a ∷ c ∷ []) code
two a c true code e h =
    let parts = and_parts (is_code_byte a) (is_code_byte c) e in
    let zero = not_zero c parts.1 in
    says (a ∷ c ∷ []) (record { first = a; second = c }) code
    (ap (λ b. cond b (a ∷ []) (a ∷ c ∷ [])) zero, and_from (is_code_byte a) ((c == 0) || is_code_byte c) parts.0 (ap (λ b. (c == 0) || b) parts.1 ∙ or_all (c == 0))) h
two a c false code e h = cc

pub qualifier-says : (text : List ℕ) (code : Code) → qualifier_in text ≡ Some code → Says text code
qualifier-says [] code h = cc
qualifier-says (a ∷ []) code h = one a (is_code_byte a) code refl h
qualifier-says (a ∷ c ∷ []) code h = two a c (is_code_byte a && is_code_byte c) code refl h
qualifier-says (a ∷ c ∷ d ∷ rest) code h = cc

abbrev pub AllSay : List (List ℕ) → List Code → Type 0
AllSay texts quals = (map code_text quals ≡ texts) × (list_all is_qualifier quals ≡ true)

all-say : (text : List ℕ) (texts : List (List ℕ)) (quals : List Code) (o : Option Code) (os : Option (List Code))
    → ((code : Code) → o ≡ Some code → Says text code) → ((codes : List Code) → os ≡ Some codes → AllSay texts codes)
    → (o >>= (λ x. option_map (λ xs. x ∷ xs) os)) ≡ Some quals → AllSay (text ∷ texts) quals
all-say text texts quals None os first rest h = cc
all-say text texts quals (Some code) None first rest h = cc
all-say text texts quals (Some code) (Some codes) first rest h =
    let is : code ∷ codes ≡ quals = cc in
    let a = first code refl in
    let b = rest codes refl in
    subst (AllSay (text ∷ texts)) is (ap (λ (t : List ℕ). t ∷ map code_text codes) a.0 ∙ ap (λ (ts : List (List ℕ)). text ∷ ts) b.0, and_from (is_qualifier code) (list_all is_qualifier codes) a.1 b.1)

pub quals-say : (texts : List (List ℕ)) (quals : List Code) → each qualifier_in texts ≡ Some quals → AllSay texts quals
quals-say [] quals h = let is : [] ≡ quals = cc in subst (AllSay []) is (refl, refl)
quals-say (text ∷ texts) quals h = all-say text texts quals (qualifier_in text) (each qualifier_in texts) (qualifier-says text) (quals-say texts) h

joined-words : (text : List ℕ) → join_with_byte 32 (words text) ≡ text
joined-words [] = refl
joined-words (b ∷ text) = join_with_byte-slice_split 32 (b ∷ text)

pub quals-written : (text : List ℕ) (quals : List Code) → each qualifier_in (words text) ≡ Some quals → codes_text quals ≡ text
quals-written text quals h = ap (join_with_byte 32) (quals-say (words text) quals h).0 ∙ joined-words text

pub null-written : (text : List ℕ) (null : Option Code) → null_of text ≡ Some null → null_text null ≡ text
null-written [] null h = let is : None ≡ null = cc in subst (λ (n : Option Code). null_text n ≡ []) is refl
null-written (b ∷ text) null h = by_code (qualifier_in (b ∷ text)) (qualifier-says (b ∷ text)) h
  where
    by_code : (o : Option Code) → ((code : Code) → o ≡ Some code → Says (b ∷ text) code) → option_map Some o ≡ Some null → null_text null ≡ b ∷ text
    by_code None says h = cc
    by_code (Some code) says h = let is : Some code ≡ null = cc in subst (λ (n : Option Code). null_text n ≡ b ∷ text) is (says code refl).0
