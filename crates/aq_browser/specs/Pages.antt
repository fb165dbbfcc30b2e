-- The page of an answer, and the small pages of what is no answer (own).
use Rattle.std.specs.Prelude.{ℕ, Bool, true, false, ◌==◌, ◌&&◌, nat_le, if◌then◌else◌, Option, None, List, [], ◌∷◌, ◌++◌, codes, flat_map, length, map}
use Rattle.aq_base.specs.Text.{site_text}
use Rattle.aq_base.specs.declared.question.Question.{Question}
use Rattle.aq_rules.specs.Questions.Answer.{Lack, NoSite, NoEvent, NoCombination, NoSiteInArea, NoLoad}
use Rattle.aq_rules.specs.Shown.Sheet.{SheetCell, Sheet, Head, cell_text}
use Rattle.aq_pages.specs.Html.{cell}
use Rattle.aq_pages.specs.Kinds.{SheetKind, has_picture, kind_named, names_of}
use Rattle.aq_pages.specs.Page.{column_names, level_words, picture_of, table_start, table_end, words_line}
use Rattle.aq_pages.specs.Sheets.{Line}
use Rattle.aq_pages.specs.declared.kind.Picture.{Picture}
use Rattle.aq_pages.specs.declared.style.TheConstants.{HEAD, FOOT}
use Rattle.aq_browser.specs.Links.{leads_of, navigation, report_year, year_asked}
use Rattle.aq_browser.specs.Paths.{digits}
use Rattle.aq_browser.specs.Rows.{first_word, row_links}
use Rattle.aq_browser.specs.Titles.{dotted, title}
use Rattle.aq_browser.specs.declared.context.Context.{Context}

-- ---- the tables of a sheet: each cell as it stands in the text, escaped, and nothing else

abbrev pub table_cell : List ℕ → List ℕ
table_cell word = cell (codes "<td>") (codes "</td>") word

unfoldable pub head_row : Head → List ℕ
head_row head = codes "<tr>" ++ (table_cell head.name ++ (table_cell (cell_text head.cell) ++ codes "</tr>\n"))

abbrev pub sheet_cell : SheetCell → List ℕ
sheet_cell cell = table_cell (cell_text cell)

unfoldable pub cells_row : List SheetCell → List ℕ
cells_row cells = codes "<tr>" ++ (flat_map sheet_cell cells ++ codes "</tr>\n")

unfoldable pub heads_table : List Head → List ℕ
heads_table heads = table_start ++ (flat_map head_row heads ++ table_end)

unfoldable pub columns_and_rows : Line → List (List SheetCell) → List ℕ
columns_and_rows columns rows = table_start ++ (column_names columns ++ (flat_map cells_row rows ++ table_end))

-- a sheet without columns has no rows
unfoldable pub rows_table : Line → List (List SheetCell) → List ℕ
rows_table [] rows = []
rows_table (column ∷ columns) rows = columns_and_rows (column ∷ columns) rows

-- ---- the sheet in words, of which its kind and its picture are told

abbrev pub head_words : Head → Line
head_words head = head.name ∷ cell_text head.cell ∷ []

abbrev pub row_words : List SheetCell → Line
row_words cells = map cell_text cells

abbrev pub lines_of_heads : List Head → List Line
lines_of_heads heads = map head_words heads

abbrev pub lines_of_rows : List (List SheetCell) → List Line
lines_of_rows rows = map row_words rows

-- a picture is drawn of at most 100,000 heads and as many rows
abbrev pub is_drawable : List Line → List Line → Bool
is_drawable heads rows = nat_le (length heads) 100000 && nat_le (length rows) 100000

unfoldable pub picture_of_lines : Picture → List Line → List Line → List ℕ
picture_of_lines picture heads rows = if is_drawable heads rows then picture_of picture heads rows else []

unfoldable pub picture_in : Picture → List Line → List (List SheetCell) → List ℕ
picture_in picture heads rows = if has_picture picture then picture_of_lines picture heads (lines_of_rows rows) else []

-- ---- a section

-- the head of one of several sheets: what it is, and the word of its first head
unfoldable pub own_head : List ℕ → List ℕ → List ℕ
own_head title word = codes "<h2>" ++ (title ++ (dotted word ++ codes "</h2>\n"))

abbrev pub section_head : Bool → List ℕ → Sheet → List ℕ
section_head false title sheet = []
section_head true title sheet = own_head title (first_word sheet)

-- the standard and its level in words, the heads and the picture, of a sheet with these heads in words
unfoldable pub heads_and_picture : Picture → List Line → Sheet → List ℕ
heads_and_picture picture heads sheet =
    level_words picture heads ++ (heads_table sheet.heads ++ picture_in picture heads sheet.rows)

-- the table of the rows, what its columns mean, and the links of its rows
unfoldable pub rows_and_links : List ℕ → Question → Sheet → List ℕ
rows_and_links words question sheet = rows_table sheet.columns sheet.rows ++ (words_line words ++ row_links question sheet)

unfoldable pub section_of : Bool → Question → List ℕ → Picture → List ℕ → List Line → Sheet → List ℕ
section_of several question title picture words heads sheet =
    codes "<section>\n"
    ++ (section_head several title sheet
    ++ (heads_and_picture picture heads sheet
    ++ (rows_and_links words question sheet ++ codes "</section>\n")))

-- as one of this kind
abbrev pub section_by : Bool → Question → SheetKind → List Line → Sheet → List ℕ
section_by several question kind heads sheet = section_of several question kind.title kind.picture kind.words heads sheet

-- the kind is told by the names of the heads and of the columns
abbrev pub section_with : Bool → Question → List Line → Sheet → List ℕ
section_with several question heads sheet = section_by several question (kind_named (names_of heads) sheet.columns) heads sheet

unfoldable pub section : Bool → Question → Sheet → List ℕ
section several question sheet = section_with several question (lines_of_heads sheet.heads) sheet

abbrev pub are_several : List Sheet → Bool
are_several [] = false
are_several (sheet ∷ []) = false
are_several (sheet ∷ other ∷ sheets) = true

-- ---- a page

-- what the page was made from
unfoldable pub made_from : ℕ → ℕ → List ℕ
made_from loads observations =
    codes "<p class=\"note\">Made from what stands now. Loads: "
    ++ (digits loads ++ (codes ". Observations: " ++ (digits observations ++ codes ".</p>\n")))

-- the name of a page in a browser; its body begins behind it
unfoldable pub page_name : List ℕ → List ℕ
page_name words = codes "<title>airdv &#183; " ++ (words ++ codes "</title>\n</head>\n<body>\n")

unfoldable pub page_head : List ℕ → List ℕ
page_head words = codes "<h1>" ++ (words ++ codes "</h1>\n")

-- from the first byte of a page to its head
unfoldable pub page_start : List ℕ → Option ℕ → List ℕ
page_start words year = HEAD.now ++ (page_name words ++ (navigation year ++ page_head words))

unfoldable pub page : List ℕ → Option ℕ → List ℕ → List ℕ
page words year shown = page_start words year ++ (shown ++ FOOT.now)

-- the page of a question, whatever it shows
unfoldable pub question_page : Context → Question → List ℕ → List ℕ
question_page context question shown =
    page (title context.joined question) (report_year (year_asked question) context.last_day) shown

unfoldable pub shown_sheets : Context → Question → List Sheet → List ℕ
shown_sheets context question sheets =
    leads_of context question
    ++ (flat_map (section (are_several sheets) question) sheets ++ made_from context.loads context.observations)

-- the page of the answer of a question
unfoldable pub answer_page : Context → Question → List Sheet → List ℕ
answer_page context question sheets = question_page context question (shown_sheets context question sheets)

-- ---- what is no answer

unfoldable pub status_title : ℕ → List ℕ
status_title status =
    if status == 400 then codes "No such question"
    else (if status == 405 then codes "This page is only read"
    else codes "No such page")

unfoldable pub status_words : ℕ → List ℕ
status_words status =
    if status == 400 then codes "The path names a question, but a part of it is not spelled as that question wants it."
    else (if status == 405 then codes "A page is asked for by GET. It takes nothing that is sent."
    else codes "No page has this path.")

-- the message of what is missing
unfoldable pub lack_words : Lack → List ℕ
lack_words (NoSite site) = codes "12 no site " ++ site_text site
lack_words (NoEvent number) = codes "13 no event " ++ digits number
lack_words (NoCombination site) = codes "14 no combination " ++ site_text site
lack_words NoSiteInArea = codes "15 no site in area"
lack_words (NoLoad number) = codes "16 no load " ++ digits number

unfoldable pub message : ℕ → ℕ → List ℕ → List ℕ
message loads observations words = codes "<p>" ++ (words ++ (codes "</p>\n" ++ made_from loads observations))

-- nothing of this question stands: its words, and the message of what is missing
unfoldable pub missing_page : Context → Question → List ℕ → List ℕ
missing_page context question words = question_page context question (message context.loads context.observations words)

-- a target of which no page is made, with this status
unfoldable pub refusal_page : Context → ℕ → List ℕ
refusal_page context status =
    page (status_title status) (report_year None context.last_day) (message context.loads context.observations (status_words status))
