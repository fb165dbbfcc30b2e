-- Texts joined by bars are the fields of their line.
use Rattle.std.proofs.Common.{◌≡◌, ℕ, Bool, true, false, cond, ◌&&◌, List, [], ◌∷◌, ◌++◌, refl, ap, ◌∙◌, arith}
use Rattle.std.specs.Prelude.{nat_lt, map}
use Rattle.std.specs.List.{list_all, slice_split, onto_first}
use Rattle.std.proofs.lemmas.Bool.{and_from, and_parts}
use Rattle.std.proofs.lemmas.Bool.Decides.{nat_tests}
use Rattle.aq_rules.specs.Lines.Fields.{fields, trimmed, without_front, without_back, onto_text, is_bar, is_space}
use Rattle.aq_rules.specs.Lines.Reading.{is_plain, is_plain_byte}
use Rattle.aq_rules.specs.Lines.Canonical.{joined}

-- printed bytes below the bar
abbrev pub is_clean_byte : ℕ → Bool
is_clean_byte byte = nat_lt 32 byte && nat_lt byte 124

abbrev pub is_clean : List ℕ → Bool
is_clean text = list_all is_clean_byte text

no_space : (b : ℕ) → is_clean_byte b ≡ true → is_space b ≡ false
no_space b h = grind (arith, nat_tests)

no_bar : (b : ℕ) → is_clean_byte b ≡ true → is_bar b ≡ false
no_bar b h = grind (arith, nat_tests)

plain : (b : ℕ) → is_clean_byte b ≡ true → is_plain_byte b ≡ true
plain b h = grind (arith, nat_tests)

back-clean : (text : List ℕ) → is_clean text ≡ true → without_back text ≡ text
back-clean [] h = refl
back-clean (b ∷ []) h = ap (λ s. cond s [] (b ∷ [])) (no_space b (and_parts (is_clean_byte b) true h).0)
back-clean (b ∷ c ∷ text) h = ap (onto_text b) (back-clean (c ∷ text) (and_parts (is_clean_byte b) (is_clean (c ∷ text)) h).1)

trimmed-clean : (text : List ℕ) → is_clean text ≡ true → trimmed text ≡ text
trimmed-clean [] h = refl
trimmed-clean (b ∷ text) h =
    ap (λ s. without_back (cond s (without_front text) (b ∷ text))) (no_space b (and_parts (is_clean_byte b) (is_clean text) h).0)
    ∙ back-clean (b ∷ text) h

split-bar : (text rest : List ℕ) → is_clean text ≡ true → slice_split is_bar (text ++ 124 ∷ rest) ≡ text ∷ slice_split is_bar rest
split-bar [] rest h = refl
split-bar (b ∷ text) rest h =
    let parts = and_parts (is_clean_byte b) (is_clean text) h in
    ap (λ s. cond s ([] ∷ slice_split is_bar (text ++ 124 ∷ rest)) (onto_first b (slice_split is_bar (text ++ 124 ∷ rest)))) (no_bar b parts.0)
    ∙ ap (onto_first b) (split-bar text rest parts.1)

split-last : (text : List ℕ) → is_clean text ≡ true → slice_split is_bar text ≡ text ∷ []
split-last [] h = refl
split-last (b ∷ text) h =
    let parts = and_parts (is_clean_byte b) (is_clean text) h in
    ap (λ s. cond s ([] ∷ slice_split is_bar text) (onto_first b (slice_split is_bar text))) (no_bar b parts.0)
    ∙ ap (onto_first b) (split-last text parts.1)

pub fields-some : (text : List ℕ) (texts : List (List ℕ)) → list_all is_clean (text ∷ texts) ≡ true → fields (joined (text ∷ texts)) ≡ text ∷ texts
fields-some text [] h =
    let parts = and_parts (is_clean text) true h in
    ap (map trimmed) (split-last text parts.0) ∙ ap (λ t. t ∷ []) (trimmed-clean text parts.0)
fields-some text (next ∷ texts) h =
    let parts = and_parts (is_clean text) (list_all is_clean (next ∷ texts)) h in
    ap (map trimmed) (split-bar text (joined (next ∷ texts)) parts.0)
    ∙ ap (λ t. t ∷ fields (joined (next ∷ texts))) (trimmed-clean text parts.0)
    ∙ ap (λ ts. text ∷ ts) (fields-some next texts parts.1)

plain-clean : (text : List ℕ) → is_clean text ≡ true → is_plain text ≡ true
plain-clean [] h = refl
plain-clean (b ∷ text) h =
    let parts = and_parts (is_clean_byte b) (is_clean text) h in
    and_from (is_plain_byte b) (is_plain text) (plain b parts.0) (plain-clean text parts.1)

plain-append : (xs ys : List ℕ) → is_plain xs ≡ true → is_plain ys ≡ true → is_plain (xs ++ ys) ≡ true
plain-append [] ys p q = q
plain-append (x ∷ xs) ys p q =
    let parts = and_parts (is_plain_byte x) (is_plain xs) p in
    and_from (is_plain_byte x) (is_plain (xs ++ ys)) parts.0 (plain-append xs ys parts.1 q)

pub plain-some : (text : List ℕ) (texts : List (List ℕ)) → list_all is_clean (text ∷ texts) ≡ true → is_plain (joined (text ∷ texts)) ≡ true
plain-some text [] h = plain-clean text (and_parts (is_clean text) true h).0
plain-some text (next ∷ texts) h =
    let parts = and_parts (is_clean text) (list_all is_clean (next ∷ texts)) h in
    plain-append text (124 ∷ joined (next ∷ texts)) (plain-clean text parts.0) (plain-some next texts parts.1)
