-- Texts that are written word by word.
use Rattle.std.proofs.Common.{◌≡◌, ℕ, ◌+◌, ◌<◌, ◌≤◌, List, [], ◌∷◌, ◌++◌, map, take, get_or, length, ap, sym, ◌∙◌, append_assoc}
use Rattle.std.specs.List.{join_with_byte, flat_map}
use Rattle.std.proofs.lemmas.List.{append-nil, take_all, take_more}
use Rattle.std.proofs.lemmas.List.Folds.{flat_map-map}
use Rattle.std.proofs.lemmas.Grind.{flat_map-append}
use Rattle.aq_rules.proofs.Joined.{join-cons}

-- further words, each after a space
abbrev pub behind_spaces : {X : Type 0} → (X → List ℕ) → List X → List ℕ
behind_spaces write xs = flat_map (λ x. 32 ∷ write x) xs

pub first_word : {X : Type 0} (write : X → List ℕ) (x : X) (xs : List X) → join_with_byte 32 (map write (x ∷ xs)) ≡ write x ++ behind_spaces write xs
first_word write x xs = join-cons 32 (write x) (map write xs) ∙ ap (λ (l : List ℕ). write x ++ l) (flat_map-map (λ (w : List ℕ). 32 ∷ w) write xs)

one-more : {X : Type 0} (write : X → List ℕ) (xs : List X) (i : ℕ) (x : X) → i < length xs
    → behind_spaces write (take (i + 1) xs) ≡ behind_spaces write (take i xs) ++ 32 ∷ write (get_or xs i x)
one-more write xs i x within =
    ap (behind_spaces write) (take_more xs i x within)
    ∙ flat_map-append (λ y. 32 ∷ write y) (take i xs) (get_or xs i x ∷ [])
    ∙ ap (λ (l : List ℕ). behind_spaces write (take i xs) ++ 32 ∷ l) (append-nil (write (get_or xs i x)))

-- one word more is written
pub next_word : {X : Type 0} (write : X → List ℕ) (xs : List X) (i : ℕ) (x : X) (start before pushed after : List ℕ) → i < length xs
    → before ≡ start ++ behind_spaces write (take i xs) → pushed ≡ before ++ 32 ∷ [] → after ≡ pushed ++ write (get_or xs i x)
    → after ≡ start ++ behind_spaces write (take (i + 1) xs)
next_word write xs i x start before pushed after within e f g = rw (g, f, e, one-more write xs i x within) (simp append_assoc)

-- all words are written
pub all_words : {X : Type 0} (write : X → List ℕ) (all : List X) (x : X) (xs : List X) (i : ℕ) (start before after : List ℕ) → all ≡ x ∷ xs → length xs ≤ i
    → before ≡ start ++ write x → after ≡ before ++ behind_spaces write (take i xs) → after ≡ start ++ join_with_byte 32 (map write all)
all_words {X} write all x xs i start before after is end e f =
    f ∙ ap (λ (l : List ℕ). l ++ behind_spaces write (take i xs)) e
    ∙ ap (λ (l : List X). (start ++ write x) ++ behind_spaces write l) (take_all i xs end)
    ∙ append_assoc start (write x) (behind_spaces write xs)
    ∙ ap (λ (l : List ℕ). start ++ l) (sym (first_word write x xs))
    ∙ ap (λ (l : List X). start ++ join_with_byte 32 (map write l)) (sym is)
