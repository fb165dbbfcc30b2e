-- The picture of a year's days beside the level, with the ten highest marked (own).
use Rattle.std.specs.Prelude.{ℕ, ◌+◌, ◌*◌, ◌==◌, max, Bool, if◌then◌else◌, List, [], ◌∷◌, ◌++◌, length, take, drop, codes, bytes_eq, flat_map, Option, Some, None}
use Rattle.aq_base.specs.declared.monitor.Pollutant.{Pollutant}
use Rattle.aq_rules.specs.Listed.Highest.{RankedDay}
use Rattle.aq_pages.specs.Sheets.{Line}
use Rattle.aq_pages.specs.Html.{circle, escaped, line as stroke, svg_start, text_start}
use Rattle.aq_pages.specs.Numbers.{word_at, number_at, greatest, from_zero}
use Rattle.aq_pages.specs.Levels.{day_level, level_at}
use Rattle.aq_pages.specs.Pictures.{down, end_mark, level_along}
use Rattle.aq_pages.specs.Ranked.{value_place, is_apart, highest_days}

-- how far from the left a day of the year stands
abbrev pub along : ℕ → ℕ
along index = 80 + 2 * index

-- a line from the foot up to a value by the scale, or a ring there if the day is set apart; nothing without a value
unfoldable pub shape : ℕ → Bool → ℕ → Option ℕ → List ℕ
shape top apart x None = []
shape top apart x (Some n) = if apart then circle x (down top n) 5 else stroke (x, 340) (x, down top n)

-- the month of a day that is the first of one, as of 2024-07-01; nothing of another day
unfoldable pub month_of : List ℕ → List ℕ
month_of day =
    if length day == 10
    then (if bytes_eq (drop 2 (drop 5 day)) (codes "-01") then take 2 (drop 5 day) else [])
    else []

-- it stands below its first day
unfoldable pub month_label : ℕ → List ℕ → List ℕ
month_label x [] = []
month_label x (byte ∷ bytes) = text_start (codes "hour") x 372 ++ (escaped (byte ∷ bytes) ++ codes "</text>\n")

unfoldable pub day_shown : Pollutant → ℕ → ℕ → Line → List ℕ
day_shown pollutant top index line =
    shape top (is_apart pollutant line) (along index) (number_at (value_place pollutant) line)
    ++ month_label (along index) (month_of (word_at 0 line))

abbrev pub days_from : Pollutant → ℕ → ℕ → List Line → List ℕ
days_from pollutant top index [] = []
days_from pollutant top index (line ∷ lines) = day_shown pollutant top index line ++ days_from pollutant top (index + 1) lines

-- a dot at the value of one of the highest days
unfoldable pub highest_mark : ℕ → RankedDay → List ℕ
highest_mark top row = circle (along row.day) (down top (from_zero row.value)) 7

-- where the scale begins, and what the shapes say
unfoldable pub year_legend : List ℕ
year_legend =
    codes "</g>\n<text class=\"end\" x=\"44\" y=\"346\">0</text>\n<path class=\"stem\" d=\"M80 400v24\"/><text x=\"104\" y=\"420\">a day</text>\n<circle class=\"dot\" cx=\"80\" cy=\"448\" r=\"7\"/><text x=\"104\" y=\"456\">one of the ten highest</text>\n<circle class=\"ring\" cx=\"80\" cy=\"484\" r=\"5\"/><text x=\"104\" y=\"492\">not ranked: excluded or not valid</text>\n</svg>\n"

-- the days, and the dots on the ten highest
unfoldable pub days_shown : Pollutant → ℕ → List RankedDay → List Line → List ℕ
days_shown pollutant top highest lines =
    codes "<g class=\"days\">\n"
    ++ (days_from pollutant top 0 lines
    ++ (codes "</g>\n<g class=\"dots\">" ++ (flat_map (highest_mark top) highest ++ year_legend)))

unfoldable pub year_at : Pollutant → ℕ → ℕ → List RankedDay → List Line → List ℕ
year_at pollutant top count highest lines =
    svg_start (max 720 (100 + 2 * count)) 510
    ++ (level_along top (84 + 2 * count) (day_level pollutant) ++ (end_mark pollutant top ++ days_shown pollutant top highest lines))

-- each day by its value, on a scale that ends at the greatest of them or the level
unfoldable pub year : Pollutant → List Line → List ℕ
year pollutant lines =
    year_at pollutant (greatest (value_place pollutant) (max 1 (level_at (day_level pollutant))) lines) (length lines) (highest_days pollutant lines) lines
