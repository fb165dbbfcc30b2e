-- Qualifier fields, one after another.
use Rattle.std.proofs.Common.{◌≡◌, ℕ, zero, suc, ◌+◌, ◌-◌, ◌<◌, ◌≤◌, Bool, true, false, cond, ◌==◌, List, [], ◌∷◌, ◌++◌, Some, None, Option, length, take, drop, refl, sym, ap, ◌∙◌, arith, inl, inr}
use Rattle.std.proofs.lemmas.Bool.{false≢true, cases_lt}
use Rattle.std.proofs.lemmas.Bool.Decides.{nat_tests}
use Rattle.std.proofs.lemmas.List.{drop_all, get_or_past, length-append}
use Rattle.std.proofs.Math.Seq.{drop-cons}
use Rattle.aq_base.specs.declared.code.Code.{Code}
use Rattle.aq_base.specs.Quals.{with_code, has_code}
use Rattle.aq_rules.specs.Lines.Fields.{field, is_empty}
use Rattle.aq_rules.specs.Lines.Spellings.{◌>>=◌, qualifier_in, qualifiers_onto}

onto-empty : (codes : List Code) (text : List ℕ) (texts : List (List ℕ)) → is_empty text ≡ true → qualifiers_onto codes (text ∷ texts) ≡ qualifiers_onto codes texts
onto-empty codes [] texts e = refl
onto-empty codes (byte ∷ text) texts e = absurd (false≢true e)

pub onto-text : (codes : List Code) (text : List ℕ) (texts : List (List ℕ)) → is_empty text ≡ false → qualifiers_onto codes (text ∷ texts) ≡ (qualifier_in text >>= λ code. qualifiers_onto (with_code codes code) texts)
onto-text codes [] texts e = absurd (false≢true (sym e))
onto-text codes (byte ∷ text) texts e = refl

-- the fields from one on
next : (n : ℕ) (texts : List (List ℕ)) → 1 ≤ n → n ≤ 26 → n - 1 < length texts → take (27 - n) (drop (n - 1) texts) ≡ field n texts ∷ take (26 - n) (drop n texts)
next n texts low high within =
    let more : 27 - n ≡ suc (26 - n) = omega arith in
    let after : suc (n - 1) ≡ n = omega arith in
    ap (λ k. take k (drop (n - 1) texts)) more ∙ ap (take (suc (26 - n))) (drop-cons texts (n - 1) [] within)
    ∙ ap (λ k. field n texts ∷ take (26 - n) (drop k texts)) after

take-nil : (n : ℕ) (texts : List (List ℕ)) → texts ≡ [] → take n texts ≡ []
take-nil zero texts e = ap (take 0) e
take-nil (suc n) texts e = ap (take (suc n)) e

none-left : (n k : ℕ) (texts : List (List ℕ)) → length texts ≤ n → take k (drop n texts) ≡ []
none-left n k texts over = take-nil k (drop n texts) (drop_all n texts over)

past : (n : ℕ) (texts : List (List ℕ)) → length texts ≤ n - 1 → is_empty (field n texts) ≡ true
past n texts over = ap is_empty (get_or_past texts (n - 1) [] over)

pub step-empty : (codes : List Code) (n : ℕ) (texts : List (List ℕ)) → 1 ≤ n → n ≤ 26 → is_empty (field n texts) ≡ true
    → qualifiers_onto codes (take (27 - n) (drop (n - 1) texts)) ≡ qualifiers_onto codes (take (26 - n) (drop n texts))
step-empty codes n texts low high e =
    elim (cases_lt (n - 1) (length texts)) [
      | inl within ↦ ap (qualifiers_onto codes) (next n texts low high within) ∙ onto-empty codes (field n texts) (take (26 - n) (drop n texts)) e
      | inr over ↦
          ap (qualifiers_onto codes) (none-left (n - 1) (27 - n) texts over)
          ∙ sym (ap (qualifiers_onto codes) (none-left n (26 - n) texts (omega arith)))
    ]

pub step-text : (codes : List Code) (n : ℕ) (texts : List (List ℕ)) → 1 ≤ n → n ≤ 26 → is_empty (field n texts) ≡ false
    → qualifiers_onto codes (take (27 - n) (drop (n - 1) texts)) ≡ (qualifier_in (field n texts) >>= λ code. qualifiers_onto (with_code codes code) (take (26 - n) (drop n texts)))
step-text codes n texts low high e =
    elim (cases_lt (n - 1) (length texts)) [
      | inl within ↦ ap (qualifiers_onto codes) (next n texts low high within) ∙ onto-text codes (field n texts) (take (26 - n) (drop n texts)) e
      | inr over ↦ absurd (false≢true (sym e ∙ past n texts over))
    ]

with-cond : (b : Bool) (codes : List Code) (code : Code) → length (cond b codes (codes ++ code ∷ [])) ≤ length codes + 1
with-cond true codes code = omega arith
with-cond false codes code = omega (arith, length-append codes (code ∷ []))

pub length-with_code : (codes : List Code) (code : Code) → length (with_code codes code) ≤ length codes + 1
length-with_code codes code = with-cond (has_code code codes) codes code

some-test : (n : ℕ) → (suc n == 0) ≡ false
some-test n = grind (arith, nat_tests)

empty-test : (text : List ℕ) → (length text == 0) ≡ is_empty text
empty-test [] = refl
empty-test (byte ∷ text) = some-test (length text)

abbrev Left : List Code → ℕ → List (List ℕ) → Option (List Code)
Left codes n texts = qualifiers_onto codes (take (27 - n) (drop (n - 1) texts))

left-next : (codes : List Code) (n : ℕ) (texts : List (List ℕ)) → qualifiers_onto codes (take (26 - n) (drop n texts)) ≡ Left codes (n + 1) texts
left-next codes n texts =
    let one : 26 - n ≡ 27 - (n + 1) = omega arith in
    let other : n ≡ n + 1 - 1 = omega arith in
    ap (λ k. qualifiers_onto codes (take k (drop n texts))) one ∙ ap (λ k. qualifiers_onto codes (take (27 - (n + 1)) (drop k texts))) other

bind-same : {A B : Type 0} (part : Option A) {f g : A → Option B} → ((x : A) → f x ≡ g x) → (part >>= f) ≡ (part >>= g)
bind-same None same = refl
bind-same (Some x) same = same x

-- one field more, by whether it is empty
pub step-none : (codes : List Code) (n : ℕ) (texts : List (List ℕ)) (text : List ℕ) (test : Bool) → 17 ≤ n → n < 27 → text ≡ field n texts → test ≡ (length text == 0) → test ≡ true
    → qualifiers_onto codes (take (27 - n) (drop (n - 1) texts)) ≡ qualifiers_onto codes (take (27 - (n + 1)) (drop (n + 1 - 1) texts))
step-none codes n texts text test low high is by truth =
    step-empty codes n texts (omega arith) (omega arith) (sym (ap is_empty is) ∙ sym (empty-test text) ∙ sym by ∙ truth) ∙ left-next codes n texts

pub step-some : (codes : List Code) (n : ℕ) (texts : List (List ℕ)) (text : List ℕ) (test : Bool) → 17 ≤ n → n < 27 → text ≡ field n texts → test ≡ (length text == 0) → test ≡ false
    → qualifiers_onto codes (take (27 - n) (drop (n - 1) texts)) ≡ (qualifier_in text >>= λ code. qualifiers_onto (with_code codes code) (take (27 - (n + 1)) (drop (n + 1 - 1) texts)))
step-some codes n texts text test low high is by truth =
    step-text codes n texts (omega arith) (omega arith) (sym (ap is_empty is) ∙ sym (empty-test text) ∙ sym by ∙ truth)
    ∙ ap (λ t. qualifier_in t >>= λ code. qualifiers_onto (with_code codes code) (take (26 - n) (drop n texts))) (sym is)
    ∙ bind-same (qualifier_in text) (λ code. left-next (with_code codes code) n texts)
