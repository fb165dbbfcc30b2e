-- Words that are written one by one, with a byte before each but the first.
use Rattle.std.proofs.Common.{◌≡◌, ℕ, List, [], ◌∷◌, ◌++◌, refl, sym, ap, subst, ◌∙◌, append_assoc}
use Rattle.std.specs.List.{join_with_byte}
use Rattle.std.proofs.lemmas.List.{append-nil}

module _ (byte : ℕ) where
  -- the words, the first of them behind `start`, and each further one behind the byte
  abbrev pub words_behind : List ℕ → List (List ℕ) → List ℕ
  words_behind start [] = []
  words_behind start (word ∷ words) = (start ++ word) ++ words_behind (byte ∷ []) words

  join-first : (word : List ℕ) (words : List (List ℕ)) → join_with_byte byte (word ∷ words) ≡ word ++ words_behind (byte ∷ []) words
  join-first word [] = sym (append-nil word)
  join-first word (next ∷ words) = ap (λ rest. word ++ byte ∷ rest) (join-first next words)

  join_is : (words : List (List ℕ)) → join_with_byte byte words ≡ words_behind [] words
  join_is [] = refl
  join_is (word ∷ words) = join-first word words

  -- words that are all written
  pub words_done : (before out start : List ℕ) (words rest : List (List ℕ)) → rest ≡ []
      → out ++ words_behind start rest ≡ before ++ words_behind [] words
      → out ≡ before ++ join_with_byte byte words
  words_done before out start words rest none so_far =
      let written : out ++ words_behind start [] ≡ before ++ words_behind [] words = subst (λ (r : List (List ℕ)). out ++ words_behind start r ≡ before ++ words_behind [] words) none so_far in
      sym (append-nil out) ∙ written ∙ ap (λ text. before ++ text) (sym (join_is words))

  -- and a last byte behind them
  pub line_done : (last : ℕ) (before out all start : List ℕ) (words rest : List (List ℕ)) → rest ≡ []
      → out ++ words_behind start rest ≡ before ++ words_behind [] words
      → all ≡ out ++ last ∷ []
      → all ≡ before ++ (join_with_byte byte words ++ last ∷ [])
  line_done last before out all start words rest none so_far end =
      end ∙ ap (λ text. text ++ last ∷ []) (words_done before out start words rest none so_far) ∙ append_assoc before (join_with_byte byte words) (last ∷ [])
