-- What words say, word by word, and all at once.
use Rattle.std.proofs.Common.{◌≡◌, ℕ, Bool, true, false, ◌&&◌, cond, List, [], ◌∷◌, ◌++◌, refl, sym, ap, ◌∙◌, append_assoc}
use Rattle.std.proofs.lemmas.List.{append-nil}
use Rattle.std.specs.Prelude.{Option, Some, None, option_map}
use Rattle.std.specs.List.{list_all}
use Rattle.aq_rules.specs.Lines.Spellings.{◌>>=◌}
use Rattle.aq_rules.specs.Kept.Rows.{each, only_if}
use Rattle.aq_rows.specs.Ranges.{gathered}

-- what fits still fits with less after it
abbrev pub FitsInFront : {X : Type 0} → (List X → Bool) → Type 0
FitsInFront {X} fits = (xs ys : List X) → fits xs ≡ false → fits (xs ++ ys) ≡ false

module _ {X : Type 0} (read : List ℕ → Option X) (fits : List X → Bool) (front : FitsInFront fits) where
  -- all words after what was said
  abbrev pub behind : List X → List (List ℕ) → Option (List X)
  behind xs words = each read words >>= (λ ys. only_if fits (xs ++ ys))

  none_fits : (xs : List X) → fits xs ≡ false → (o : Option (List X)) → None ≡ (o >>= (λ ys. only_if fits (xs ++ ys)))
  none_fits xs bad None = refl
  none_fits xs bad (Some ys) = sym (ap (λ b. cond b (Some (xs ++ ys)) None) (front xs ys bad))

  one_more : (xs : List X) (x : X) (o : Option (List X))
      → (o >>= (λ ys. only_if fits ((xs ++ x ∷ []) ++ ys))) ≡ (option_map (λ ys. x ∷ ys) o >>= (λ ys. only_if fits (xs ++ ys)))
  one_more xs x None = refl
  one_more xs x (Some ys) = ap (only_if fits) (append_assoc xs (x ∷ []) ys)

  by_test : (xs : List X) (x : X) (words : List (List ℕ)) (b : Bool) → fits (xs ++ x ∷ []) ≡ b
      → (fits (xs ++ x ∷ []) ≡ true → gathered read fits (xs ++ x ∷ []) words ≡ behind (xs ++ x ∷ []) words)
      → cond b (gathered read fits (xs ++ x ∷ []) words) None ≡ (option_map (λ ys. x ∷ ys) (each read words) >>= (λ ys. only_if fits (xs ++ ys)))
  by_test xs x words true e more = more e ∙ one_more xs x (each read words)
  by_test xs x words false e more = none_fits (xs ++ x ∷ []) e (each read words) ∙ one_more xs x (each read words)

  by_word : (xs : List X) (words : List (List ℕ)) (o : Option X)
      → ((x : X) → fits (xs ++ x ∷ []) ≡ true → gathered read fits (xs ++ x ∷ []) words ≡ behind (xs ++ x ∷ []) words)
      → (o >>= (λ x. cond (fits (xs ++ x ∷ [])) (gathered read fits (xs ++ x ∷ []) words) None))
      ≡ ((o >>= (λ x. option_map (λ ys. x ∷ ys) (each read words))) >>= (λ ys. only_if fits (xs ++ ys)))
  by_word xs words None more = refl
  by_word xs words (Some x) more = by_test xs x words (fits (xs ++ x ∷ [])) refl (more x)

  pub gathered-is : (xs : List X) (words : List (List ℕ)) → fits xs ≡ true → gathered read fits xs words ≡ behind xs words
  gathered-is xs [] ok = sym (ap (only_if fits) (append-nil xs) ∙ ap (λ b. cond b (Some xs) None) ok)
  gathered-is xs (word ∷ words) ok = by_word xs words (read word) (λ x fit. gathered-is (xs ++ x ∷ []) words fit)

-- words of which each passes a test
pub each-tested : {X : Type 0} (read small : List ℕ → Option X) (test : X → Bool) → ((text : List ℕ) → small text ≡ (read text >>= only_if test))
    → (texts : List (List ℕ)) → each small texts ≡ (each read texts >>= only_if (list_all test))
each-tested read small test is [] = refl
each-tested {X} read small test is (text ∷ texts) =
    ap (λ (o : Option X). o >>= (λ x. option_map (λ xs. x ∷ xs) (each small texts))) (is text)
    ∙ ap (λ (os : Option (List X)). (read text >>= only_if test) >>= (λ x. option_map (λ xs. x ∷ xs) os)) (each-tested read small test is texts)
    ∙ by_parts (read text) (each read texts)
  where
    by_tests : (x : X) (xs : List X) (a b : Bool)
        → (cond a (Some x) None >>= (λ y. option_map (λ ys. y ∷ ys) (cond b (Some xs) None))) ≡ cond (a && b) (Some (x ∷ xs)) None
    by_tests x xs true true = refl
    by_tests x xs true false = refl
    by_tests x xs false b = refl

    no_rest : (x : X) (a : Bool) → (cond a (Some x) None >>= (λ y. option_map (λ ys. y ∷ ys) None)) ≡ None
    no_rest x true = refl
    no_rest x false = refl

    by_parts : (o : Option X) (os : Option (List X))
        → ((o >>= only_if test) >>= (λ x. option_map (λ xs. x ∷ xs) (os >>= only_if (list_all test)))) ≡ ((o >>= (λ x. option_map (λ xs. x ∷ xs) os)) >>= only_if (list_all test))
    by_parts None os = refl
    by_parts (Some x) None = no_rest x (test x)
    by_parts (Some x) (Some xs) = by_tests x xs (test x) (list_all test xs)

pub two_tests : {X : Type 0} (m : Option X) (first second : X → Bool) → ((m >>= only_if first) >>= only_if second) ≡ (m >>= only_if (λ x. first x && second x))
two_tests None first second = refl
two_tests {X} (Some x) first second = by_test (first x)
  where
    by_test : (b : Bool) → (cond b (Some x) None >>= only_if second) ≡ cond (b && second x) (Some x) None
    by_test true = refl
    by_test false = refl
