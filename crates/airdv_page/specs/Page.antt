-- The page of a text: that of its sheets (own).
use Rattle.std.specs.Prelude.{ℕ, List, Option, option_map, IsSomeAnd}
use Rattle.std.specs.Io.KnownBytes.{Appends}
use Rattle.aq_pages.specs.Page.{Frame, page}
use Rattle.airdv_page.specs.Reading.{lines_of, sheets_of}

-- the page of a text of sheets, which is about what its lines say; none of another text
unfoldable pub page_of : Frame → List ℕ → Option (List ℕ)
page_of frame text = option_map (page frame (lines_of text)) (sheets_of text)

-- the page of a text went after what was written, if that is known
abbrev pub Prints : Frame → List ℕ → Option (List ℕ) → Option (List ℕ) → Type 0
Prints frame text before after = IsSomeAnd (page_of frame text) (Appends before after)
