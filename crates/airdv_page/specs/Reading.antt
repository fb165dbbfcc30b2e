-- How a text is read as sheets, one after the other: lines, and their words (own).
use Rattle.std.specs.Prelude.{ℕ, zero, suc, ◌+◌, min, Bool, true, false, ◌&&◌, ◌||◌, ◌==◌, nat_lt, if◌then◌else◌, List, [], ◌∷◌, length, take, drop, map, take_while, Option, Some, None}
use Rattle.std.specs.List.{slice_split, list_all}
use Rattle.aq_rules.specs.Lines.Fields.{is_empty, is_space}
use Rattle.aq_rules.specs.Lines.Spellings.{◌>>=◌}
use Rattle.aq_pages.specs.Sheets.{Line, PageSheet, is_head, is_word}
use Rattle.aq_pages.specs.Kinds.{SheetKind, kinds, same_words}
use Rattle.airdv_page.specs.declared.reading.TheConstants.{MOST_LINES, MOST_SHEETS}

-- the first of two, if there is one
abbrev pub or_else : {A : Type 0} → Option A → Option A → Option A
or_else None other = other
or_else (Some found) other = Some found

-- the words of a line, the parts round its spaces
abbrev pub words_of : List ℕ → Line
words_of line = slice_split is_space line

abbrev pub is_line_end : ℕ → Bool
is_line_end byte = byte == 10

-- the parts round the line ends; the last one stands behind the last line end, and is empty if the text ends there
unfoldable pub lines_of : List ℕ → List Line
lines_of text = map words_of (slice_split is_line_end text)

-- a row has a word for each column
abbrev pub is_row : ℕ → Line → Bool
is_row width line = (length line == width) && list_all is_word line

-- the first lines are heads of these names
abbrev pub are_heads : List (List ℕ) → List Line → Bool
are_heads [] lines = true
are_heads (name ∷ names) [] = false
are_heads (name ∷ names) (line ∷ lines) = is_head name line && are_heads names lines

-- a sheet with these heads, if the lines behind them begin with the names of its columns; all rows that follow are its own
unfoldable pub with_table : List Line → List (List ℕ) → List Line → Option PageSheet
with_table heads [] lines = Some (record { heads = heads; columns = []; rows = [] })
with_table heads (name ∷ names) [] = None
with_table heads (name ∷ names) (line ∷ lines) =
    if same_words (name ∷ names) line
    then Some (record { heads = heads; columns = line; rows = take_while (is_row (length (name ∷ names))) lines })
    else None

-- a sheet whose heads and columns have these names, at the front of the lines
unfoldable pub cut : List (List ℕ) → List (List ℕ) → List Line → Option PageSheet
cut names columns lines =
    if are_heads names lines
    then with_table (take (length names) lines) columns (drop (length names) lines)
    else None

-- a sheet of this kind at the front of the lines
unfoldable pub sheet_as : SheetKind → List Line → Option PageSheet
sheet_as kind lines = cut kind.heads kind.columns lines

-- a sheet of the first of these kinds that fits
abbrev pub first_sheet : List SheetKind → List Line → Option PageSheet
first_sheet [] lines = None
first_sheet (kind ∷ more) lines = or_else (sheet_as kind lines) (first_sheet more lines)

-- the sheet at the front of the lines
unfoldable pub sheet_at : List Line → Option PageSheet
sheet_at lines = first_sheet kinds lines

-- how many lines a sheet has
abbrev pub lines_in : PageSheet → ℕ
lines_in sheet = length sheet.heads + min 1 (length sheet.columns) + length sheet.rows

-- what is found, as a list
abbrev pub found : Option PageSheet → List PageSheet
found None = []
found (Some sheet) = sheet ∷ []

-- some sheets, if so
abbrev pub if_true : Bool → List PageSheet → Option (List PageSheet)
if_true true sheets = Some sheets
if_true false sheets = None

-- all that is left is the empty part behind the last line end
abbrev pub is_end : List Line → Bool
is_end ((word ∷ []) ∷ []) = is_empty word
is_end _ = false

-- sheets one after the other, so many at most, that take up all lines
unfoldable pub sheets_in : ℕ → List Line → Option (List PageSheet)
sheets_in zero lines = None
sheets_in (suc most) lines = if is_end lines then Some [] else do
  sheet ← sheet_at lines
  more ← sheets_in most (drop (lines_in sheet) lines)
  Some (sheet ∷ more)

-- the sheets of a text, one at least; it has so many lines at most, the empty part behind the last line end among them
unfoldable pub sheets_of : List ℕ → Option (List PageSheet)
sheets_of text = if is_empty text || nat_lt MOST_LINES (length (lines_of text)) then None else sheets_in MOST_SHEETS (lines_of text)
