-- What a page is about, and what each of its sections is about: its standard, its site, its parameter, its year or its day (own).
use Rattle.std.specs.Prelude.{ℕ, Bool, true, false, ◌||◌, if◌then◌else◌, List, [], ◌∷◌, ◌++◌, codes}
use Rattle.aq_pages.specs.Sheets.{Line, is_head}
use Rattle.aq_pages.specs.Numbers.{word_at}
use Rattle.aq_pages.specs.Html.{cell}

-- whether a line is a head that says what its sheet is about
unfoldable pub is_about : Line → Bool
is_about line =
    (((is_head (codes "standard") line || is_head (codes "site") line) || is_head (codes "parameter") line) || is_head (codes "year") line)
    || is_head (codes "day") line

-- the words of the first such heads, those that follow one another, each between two texts; `begun` says that one stands before the lines
abbrev pub subject_from : Bool → List ℕ → List ℕ → List Line → List ℕ
subject_from begun start end [] = []
subject_from begun start end (line ∷ lines) =
    if is_about line then cell start end (word_at 1 line) ++ subject_from true start end lines
    else if begun then [] else subject_from false start end lines

-- what a page is about, of some lines, as its name in a browser; its body begins behind it
unfoldable pub page_title : List Line → List ℕ
page_title lines =
    codes "<title>airdv" ++ (subject_from false (codes " &#183; ") [] lines ++ codes "</title>\n</head>\n<body>\n")

-- what a section is about, of the heads of its sheet, behind the title of its kind
unfoldable pub heading : List ℕ → List Line → List ℕ
heading title heads =
    codes "<section>\n<h1>"
    ++ (title ++ (codes "<small>" ++ (subject_from false (codes " <span>") (codes "</span>") heads ++ codes "</small></h1>\n")))
