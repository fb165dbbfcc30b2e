-- A sheet in which nothing would be drawn, by its cells.
use Rattle.std.proofs.Common.{◌≡◌, ℕ, zero, suc, Bool, true, false, Result, Ok, Err, List, [], ◌∷◌, refl}
use Rattle.std.specs.Prelude.{IfOk}
use Rattle.aq_pages.specs.Numbers.{has_number, word_at}
use Rattle.aq_pages.specs.Page.{in_its_place, is_drawn, picture_of}
use Rattle.aq_pages.specs.Sheets.{Line}
use Rattle.aq_pages.specs.declared.kind.Picture.{Picture}
use Rattle.aq_rules.specs.Shown.Sheet.{SheetCell}
use Rattle.aq_browser.specs.Pages.{is_drawable, picture_of_lines, row_words}
use Rattle.aq_browser.specs.Rows.{text_at}

-- a word of a row is the text of the cell in its place
pub word_at_is : (place : ℕ) (cells : List SheetCell) → word_at place (row_words cells) ≡ text_at place cells
unfolding word_at
word_at_is place [] = refl
word_at_is zero (cell ∷ cells) = refl
word_at_is (suc place) (cell ∷ cells) = word_at_is place cells

-- the sentence stands in place of the picture
bare_is :
    (picture : Picture) (heads rows : List Line) → is_drawable heads rows ≡ true → is_drawn picture heads rows ≡ false
    → picture_of_lines picture heads rows ≡ in_its_place picture
unfolding picture_of_lines picture_of
bare_is picture heads rows drawable nothing = rw (drawable, nothing) refl

pub bare_by_places :
    {E : Type 0} (picture : Picture) (heads rows : List Line) (places : ℕ × ℕ) (result : Result Bool E)
    → is_drawable heads rows ≡ true
    → ((heads rows : List Line) → has_number places.0 rows ≡ false → has_number places.1 rows ≡ false → is_drawn picture heads rows ≡ false)
    → IfOk result (λ none. none ≡ true → has_number places.0 rows ≡ false)
    → IfOk result (λ none. none ≡ true → has_number places.1 rows ≡ false)
    → IfOk result (λ bare. bare ≡ true → picture_of_lines picture heads rows ≡ in_its_place picture)
bare_by_places picture heads rows places (Ok none) drawable decide one other =
    λ e. bare_is picture heads rows drawable (decide heads rows (one e) (other e))
bare_by_places picture heads rows places (Err fault) drawable decide one other = tt
