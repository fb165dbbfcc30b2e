-- The page: its title, and a section for each sheet, with its words, its heads and its rows as tables, and its picture (own).
use Rattle.std.specs.Prelude.{ℕ, Bool, true, false, ◌||◌, if◌then◌else◌, List, [], ◌∷◌, ◌++◌, codes, flat_map, slice_get, Option, Some, None, option_map}
use Rattle.aq_base.specs.declared.standard.Standard.TheVariants.{Ozone2015}
use Rattle.aq_rules.specs.Lines.Spellings.{parameter_in}
use Rattle.aq_rules.specs.Questions.Spelling.{standard_word}
use Rattle.aq_pages.specs.declared.kind.Picture.{Picture}
use Rattle.aq_pages.specs.declared.kind.Picture.TheVariants.{Counts, Bars, Squares, Lines, Days, Highest, Nothing}
use Rattle.aq_pages.specs.declared.level.Level.{Level}
use Rattle.aq_pages.specs.declared.level.Level.TheVariants.{Of}
use Rattle.aq_pages.specs.Sheets.{Line, PageSheet}
use Rattle.aq_pages.specs.Kinds.{SheetKind, kind_of}
use Rattle.aq_pages.specs.Html.{row}
use Rattle.aq_pages.specs.Numbers.{word_at, has_number}
use Rattle.aq_pages.specs.Subject.{heading, page_title}
use Rattle.aq_pages.specs.Levels.{day_level, form_of, level_text, standard_in}
use Rattle.aq_pages.specs.Pictures.{bars, day, highest}
use Rattle.aq_pages.specs.Ranked.{value_place}
use Rattle.aq_pages.specs.Year.{year}

-- ---- the tables: each line of the sheet is a row, each word of it a cell, and there is nothing else

-- round a table stands what scrolls where it is wider than the page
abbrev pub table_start : List ℕ
table_start = codes "<div class=\"table\"><table>\n"

abbrev pub table_end : List ℕ
table_end = codes "</table></div>\n"

abbrev pub cells : Line → List ℕ
cells line = row (codes "<td>") (codes "</td>") line

unfoldable pub heads_table : List Line → List ℕ
heads_table heads = table_start ++ (flat_map cells heads ++ table_end)

unfoldable pub column_names : Line → List ℕ
column_names columns = row (codes "<th scope=\"col\">") (codes "</th>") columns

-- the names of the columns stand above the rows
unfoldable pub columns_and_rows : Line → List Line → List ℕ
columns_and_rows columns rows = table_start ++ (column_names columns ++ (flat_map cells rows ++ table_end))

-- a sheet without columns has no rows
unfoldable pub rows_table : Line → List Line → List ℕ
rows_table [] rows = []
rows_table (column ∷ columns) rows = columns_and_rows (column ∷ columns) rows

-- ---- the rest of a section

abbrev pub value_of : Option Line → List ℕ
value_of None = []
value_of (Some line) = word_at 1 line

-- the value of a head by its place from 0
abbrev pub head_value : ℕ → List Line → List ℕ
head_value place heads = value_of (slice_get heads place)

abbrev pub has_lines : List Line → Bool
has_lines [] = false
has_lines (line ∷ lines) = true

abbrev pub behind_first : List Line → List Line
behind_first [] = []
behind_first (line ∷ lines) = lines

-- the level of the standard of this name
abbrev pub level_by_name : List ℕ → Option Level
level_by_name word = option_map Of (standard_word word)

-- the level beside which the days of this parameter are drawn
abbrev pub level_by_parameter : List ℕ → Option Level
level_by_parameter word = option_map day_level (parameter_in word)

-- the level that is drawn: of a day that of ozone, of a year's days that of their pollutant, else that of the standard which the first head names
abbrev pub level_for : Picture → List Line → Option Level
level_for Counts heads = None
level_for (Bars value verdict) heads = level_by_name (head_value 0 heads)
level_for (Squares verdict) heads = level_by_name (head_value 0 heads)
level_for Lines heads = Some (Of Ozone2015)
level_for (Days pollutant) heads = Some (day_level pollutant)
level_for Highest heads = level_by_parameter (head_value 1 heads)
level_for Nothing heads = level_by_name (head_value 0 heads)

unfoldable pub level_line : Option Level → List ℕ
level_line None = []
level_line (Some level) = codes "<p>" ++ ((form_of (standard_in level)).words ++ (codes ". " ++ (level_text level ++ codes ".</p>\n")))

abbrev pub level_words : Picture → List Line → List ℕ
level_words picture heads = level_line (level_for picture heads)

unfoldable pub drawn_as : Picture → List Line → List Line → List ℕ
drawn_as Counts heads rows = bars (Some 1) None None (behind_first heads)
drawn_as (Bars value verdict) heads rows = bars (Some value) verdict (level_by_name (head_value 0 heads)) rows
drawn_as (Squares verdict) heads rows = bars None (Some verdict) None rows
drawn_as Lines heads rows = day (Of Ozone2015) rows
drawn_as (Days pollutant) heads rows = year pollutant rows
drawn_as Highest heads rows = highest (head_value 4 heads) (level_by_parameter (head_value 1 heads)) rows
drawn_as Nothing heads rows = []

-- whether there is a number, or the verdict of an event, to draw
unfoldable pub is_drawn : Picture → List Line → List Line → Bool
is_drawn Counts heads rows = has_number 1 (behind_first heads)
is_drawn (Bars value verdict) heads rows = has_number value rows
is_drawn (Squares verdict) heads rows = has_lines rows
is_drawn Lines heads rows = has_number 1 rows || has_number 3 rows
is_drawn (Days pollutant) heads rows = has_number (value_place pollutant) rows
is_drawn Highest heads rows = has_number 2 rows
is_drawn Nothing heads rows = false

-- the sentence in place of a picture in which nothing would be drawn
unfoldable pub in_its_place : Picture → List ℕ
in_its_place Counts = codes "<p>No picture: no count is a number.</p>\n"
in_its_place (Bars value verdict) = codes "<p>No picture: no row has a value.</p>\n"
in_its_place (Squares verdict) = codes "<p>No picture: no event alone would change the verdict.</p>\n"
in_its_place Lines = codes "<p>No picture: no hour has an average.</p>\n"
in_its_place (Days pollutant) = codes "<p>No picture: no day has a value.</p>\n"
in_its_place Highest = codes "<p>No picture: no day is ranked.</p>\n"
in_its_place Nothing = []

unfoldable pub picture_of : Picture → List Line → List Line → List ℕ
picture_of picture heads rows = if is_drawn picture heads rows then drawn_as picture heads rows else in_its_place picture

-- the heads, and the standard and its level in words above them
unfoldable pub opening : Picture → List Line → List ℕ
opening picture heads = level_words picture heads ++ heads_table heads

unfoldable pub paragraph : List ℕ → List ℕ
paragraph words = codes "<p class=\"words\">" ++ (words ++ codes "</p>\n")

-- some words as a paragraph; nothing without words
unfoldable pub words_line : List ℕ → List ℕ
words_line [] = []
words_line (byte ∷ bytes) = paragraph (byte ∷ bytes)

-- what the heads and the columns of a kind mean
abbrev pub kind_words : SheetKind → List ℕ
kind_words kind = words_line kind.words

-- the words stand behind the table of the rows
unfoldable pub rows_and_words : Line → List Line → List ℕ → List ℕ
rows_and_words columns rows words = rows_table columns rows ++ words_line words

unfoldable pub section_of : List ℕ → Picture → List ℕ → List Line → Line → List Line → List ℕ
section_of title picture words heads columns rows =
    heading title heads
    ++ (opening picture heads ++ (picture_of picture heads rows ++ (rows_and_words columns rows words ++ codes "</section>\n")))

-- the section of a sheet, as one of this kind
unfoldable pub section_as : SheetKind → PageSheet → List ℕ
section_as kind sheet = section_of kind.title kind.picture kind.words sheet.heads sheet.columns sheet.rows

-- the section of a sheet, by its own kind
unfoldable pub section : PageSheet → List ℕ
section sheet = section_as (kind_of sheet) sheet

-- what stands before the title of a page and behind its sections
pub record Frame : Type 0 where
  pub head : List ℕ
  pub foot : List ℕ

-- a page: its title, which says what the first heads among the lines `about` say, and a section for each sheet, in their order
unfoldable pub page : Frame → List Line → List PageSheet → List ℕ
page frame about sheets = frame.head ++ (page_title about ++ (flat_map section sheets ++ frame.foot))
