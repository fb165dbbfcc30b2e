-- Words with single spaces between them: the first, and each further one after a space.
use Rattle.std.proofs.Common.{◌≡◌, ℕ, List, [], ◌∷◌, ◌++◌, sym, ap}
use Rattle.std.proofs.lemmas.List.{append-nil}
use Rattle.std.specs.Prelude.{codes}
use Rattle.aq_rules.specs.Shown.Sheet.{line_of}
use Rattle.std.specs.List.{join_with_byte, flat_map}

pub join-cons : (c : ℕ) (word : List ℕ) (words : List (List ℕ)) → join_with_byte c (word ∷ words) ≡ word ++ flat_map (λ (w : List ℕ). c ∷ w) words
join-cons c word [] = sym (append-nil word)
join-cons c word (next ∷ words) = ap (λ (l : List ℕ). word ++ (c ∷ l)) (join-cons c next words)

pub line_of-cons : (word : List ℕ) (words : List (List ℕ)) → line_of (word ∷ words) ≡ (word ++ flat_map (λ (w : List ℕ). codes " " ++ w) words) ++ codes "\n"
line_of-cons word words = ap (λ (l : List ℕ). l ++ codes "\n") (join-cons 32 word words)
