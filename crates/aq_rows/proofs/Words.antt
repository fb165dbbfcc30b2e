-- Words between single spaces, one after the other.
use Rattle.std.proofs.Common.{◌≡◌, ℕ, suc, ◌+◌, ◌<◌, Bool, true, false, not, cond, List, [], ◌∷◌, length, refl, ap, ◌∙◌, arith}
use Rattle.std.specs.List.{slice_split, onto_first, position_or_len, before_first, after_first}
use Rattle.std.proofs.lemmas.List.Splits.{slice_split-cons_no, slice_split_first}
use Rattle.aq_rules.specs.Lines.Fields.{is_space}
use Rattle.aq_rows.specs.Texts.{is_byte}

no_cut : {X : Type 0} (p : X → Bool) (xs : List X) → position_or_len p xs ≡ length xs → slice_split p xs ≡ xs ∷ []
no_cut p [] none = refl
no_cut {X} p (x ∷ xs) none = by_test (p x) refl none (no_cut p xs)
  where
    by_test : (b : Bool) → p x ≡ b → cond (not b) (1 + position_or_len p xs) 0 ≡ suc (length xs) → (position_or_len p xs ≡ length xs → slice_split p xs ≡ xs ∷ [])
        → slice_split p (x ∷ xs) ≡ (x ∷ xs) ∷ []
    by_test true e h more = absurd (omega arith)
    by_test false e h more = slice_split-cons_no p x xs e ∙ ap (onto_first x) (more (omega arith))

pub one_word : (text : List ℕ) → position_or_len (is_byte 32) text ≡ length text → slice_split is_space text ≡ text ∷ []
one_word text none = no_cut is_space text none

pub more_words : (text : List ℕ) → position_or_len (is_byte 32) text < length text → slice_split is_space text ≡ before_first (is_byte 32) text ∷ slice_split is_space (after_first (is_byte 32) text)
more_words text within = slice_split_first is_space text 0 within
