-- Names that are left where no word is.
use Rattle.std.proofs.Common.{◌≡◌, ℕ, zero, suc, ◌<◌, ◌&&◌, true, false, Bool, List, [], ◌∷◌, length, drop, map, refl, sym, ap, ◌∙◌, arith}
use Rattle.std.specs.Prelude.{bytes_eq}
use Rattle.std.proofs.lemmas.Bool.{and_parts, false≢true}
use Rattle.std.proofs.lemmas.List.{length-map}
use Rattle.aq_pages.specs.Numbers.{word_at}
use Rattle.aq_pages.specs.Sheets.{Line}
use Rattle.aq_pages.specs.Kinds.{names_of, same_words}

pub no_word_left :
    {A : Type 0} (name_in : A → List ℕ) (i : ℕ) (names : List A) (rest : List (List ℕ))
    → i < length names → length rest < 1 → same_words (map name_in (drop i names)) rest ≡ false
no_word_left name_in i [] rest within empty = absurd (omega (arith, within))
no_word_left name_in i (name ∷ names) (word ∷ rest) within empty = absurd (omega (arith, empty))
no_word_left name_in zero (name ∷ names) [] within empty = refl
no_word_left name_in (suc i) (name ∷ names) [] within empty = no_word_left name_in i names [] (omega (arith, within)) empty

pub no_head_left :
    {A : Type 0} (name_in : A → List ℕ) (i : ℕ) (names : List A) (rest : List Line)
    → i < length names → length rest < 1 → same_words (map name_in (drop i names)) (names_of rest) ≡ false
no_head_left name_in i names [] within empty = no_word_left name_in i names [] within empty
no_head_left name_in i names (line ∷ rest) within empty = absurd (omega (arith, empty))

-- words that are the names are as many

as_many : (names words : List (List ℕ)) → same_words names words ≡ true → length names ≡ length words
as_many [] [] same = refl
as_many [] (word ∷ words) same = absurd (false≢true same)
as_many (name ∷ names) [] same = absurd (false≢true same)
as_many (name ∷ names) (word ∷ words) same = ap suc (as_many names words (and_parts (bytes_eq name word) (same_words names words) same).1)

pub others_by_number : (names words : List (List ℕ)) → (length names ≡ length words → ⊥) → same_words names words ≡ false
others_by_number names words differ = by (same_words names words) (as_many names words)
  where
    by : (b : Bool) → (b ≡ true → length names ≡ length words) → b ≡ false
    by true counts = absurd (differ (counts refl))
    by false counts = refl

none_of : (one other : Bool) → other ≡ false → one && other ≡ false
none_of true other none = none
none_of false other none = refl

pub others_by_heads :
    {A : Type 0} (name_in : A → List ℕ) (names : List A) (heads : List Line) (more : Bool)
    → (length names ≡ length heads → ⊥) → same_words (map name_in names) (names_of heads) && more ≡ false
others_by_heads name_in names heads more differ =
    rw (others_by_number (map name_in names) (names_of heads) (λ same. differ (sym (length-map names name_in) ∙ (same ∙ length-map heads (word_at 0))))) refl

pub others_by_columns :
    {A : Type 0} (name_in : A → List ℕ) (names : List A) (columns : List (List ℕ)) (before : Bool)
    → (length names ≡ length columns → ⊥) → before && same_words (map name_in names) columns ≡ false
others_by_columns name_in names columns before differ =
    none_of before (same_words (map name_in names) columns) (others_by_number (map name_in names) columns (λ same. differ (sym (length-map names name_in) ∙ same)))
