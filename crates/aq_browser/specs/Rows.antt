-- The links to what the rows of a sheet name (own).
use Rattle.std.specs.Prelude.{ℕ, Option, Some, None, List, [], ◌++◌, codes, flat_map, slice_get}
use Rattle.std.specs.Option.{option_map_or}
use Rattle.aq_base.specs.Site.{Site}
use Rattle.aq_base.specs.Text.{site_text}
use Rattle.aq_base.specs.declared.monitor.Pollutant.{Pollutant}
use Rattle.aq_base.specs.declared.monitor.Pollutant.TheVariants.{Ozone}
use Rattle.aq_base.specs.declared.question.Question.{Question}
use Rattle.aq_base.specs.declared.question.Question.TheVariants.{Report, Reports, Sites, Loads, Highest}
use Rattle.aq_rules.specs.Shown.Sheet.{SheetCell, Sheet, Head, cell_text}
use Rattle.aq_pages.specs.Html.{escaped}
use Rattle.aq_browser.specs.Links.{labelled}
use Rattle.aq_browser.specs.Paths.{year_text}

-- the text of the cell in so many'th place
abbrev pub text_at : ℕ → List SheetCell → List ℕ
text_at place cells = option_map_or cell_text (slice_get cells place) []

abbrev pub head_word : Option Head → List ℕ
head_word None = []
head_word (Some head) = escaped (cell_text head.cell)

-- the word of the first head
abbrev pub first_word_in : List Head → List ℕ
first_word_in heads = head_word (slice_get heads 0)

abbrev pub first_word : Sheet → List ℕ
first_word sheet = first_word_in sheet.heads

-- the end of a link's target, with a text as its words
unfoldable pub labelled_text : List ℕ → List ℕ
labelled_text text = labelled (escaped text)

-- a link to a page, whose path has a text between what stands before and behind it
unfoldable pub text_link : List ℕ → List ℕ → List ℕ → List ℕ
text_link before behind text =
    codes "<a href=\"/page" ++ (before ++ (escaped text ++ (behind ++ labelled_text text)))

-- the same in its pieces: what stands before a word in the target, the word, what stands behind it there, and the word once more
unfoldable pub target_start : List ℕ → List ℕ
target_start before = codes "<a href=\"/page" ++ before

unfoldable pub target_end : List ℕ → List ℕ
target_end behind = behind ++ codes "\">"

unfoldable pub word_link : List ℕ → List ℕ → List ℕ → List ℕ
word_link start end word = start ++ (word ++ (end ++ (word ++ codes "</a>\n")))

abbrev pub row_word : List ℕ → ℕ → List ℕ → List SheetCell → List ℕ
row_word start place end cells = word_link start end (escaped (text_at place cells))

-- the link of a row, by the text in so many'th place
abbrev pub row_link : List ℕ → ℕ → List ℕ → List SheetCell → List ℕ
row_link before place behind cells = text_link before behind (text_at place cells)

unfoldable pub links_along : List ℕ → ℕ → List ℕ → List (List SheetCell) → List ℕ
links_along before place behind rows =
    codes "<p class=\"links\">\n" ++ (flat_map (row_link before place behind) rows ++ codes "</p>\n")

-- of a report's rows the design value of the site, by the standard that the first head names
unfoldable pub before_report : List ℕ → List ℕ
before_report standard = codes "/dv/" ++ (standard ++ codes "/")

unfoldable pub behind_report : ℕ → List ℕ
behind_report year = codes "/" ++ year_text year

unfoldable pub report_links : ℕ → Sheet → List ℕ
report_links year sheet = links_along (before_report (first_word sheet)) 0 (behind_report year) sheet.rows

-- of the highest days of ozone the averages of the day
unfoldable pub before_day : Site → List ℕ
before_day site = codes "/ozone/" ++ (site_text site ++ codes "/windows/")

unfoldable pub day_links : Site → List (List SheetCell) → List ℕ
day_links site rows = links_along (before_day site) 1 [] rows

abbrev pub highest_links : Site → Pollutant → List (List SheetCell) → List ℕ
highest_links site Ozone rows = day_links site rows
highest_links site pollutant rows = []

-- the links of the rows of a sheet, if they lead anywhere
abbrev pub row_links : Question → Sheet → List ℕ
row_links Sites sheet = links_along (codes "/monitors/") 0 [] sheet.rows
row_links (Report standard year) sheet = report_links year sheet
row_links (Reports year) sheet = report_links year sheet
row_links Loads sheet = links_along (codes "/loads/") 0 [] sheet.rows
row_links (Highest site pollutant year) sheet = highest_links site pollutant sheet.rows
row_links _ sheet = []
