-- The pictures of sheets in SVG. Every coordinate that stands for a number is its place by the one scale (own).
use Rattle.std.specs.Prelude.{ℕ, ◌+◌, ◌-◌, ◌*◌, ◌/◌, max, Bool, false, if◌then◌else◌, List, [], ◌∷◌, ◌++◌, length, take, codes, bytes_eq, Option, Some, None, is_some, pos}
use Rattle.aq_base.specs.Decimal.{fixed}
use Rattle.aq_base.specs.declared.monitor.Pollutant.{Pollutant}
use Rattle.aq_base.specs.declared.monitor.Pollutant.TheVariants.{Ozone, Pm25, Pm10}
use Rattle.aq_pages.specs.Sheets.{Line}
use Rattle.aq_pages.specs.Html.{escaped, number, rect, start_mark, svg_start, text_start}
use Rattle.aq_pages.specs.Numbers.{word_at, number_at, greatest, scaled}
use Rattle.aq_pages.specs.Levels.{level_at, level_or_zero, level_mark}
use Rattle.aq_pages.specs.declared.level.Level.{Level}
use Rattle.aq_pages.specs.declared.bars.TheConstants.{LONGEST}
use Rattle.aq_pages.specs.declared.day.TheConstants.{HIGHEST}

-- ---- bars

-- the class of a verdict, which has its own colour and hatching
unfoldable pub look_of : List ℕ → List ℕ
look_of word =
    if bytes_eq word (codes "Met") then codes "met"
    else if bytes_eq word (codes "NotMet") then codes "notmet"
    else if bytes_eq word (codes "Incomplete") then codes "incomplete"
    else codes "plain"

-- the word at a place of a line, if there is one
abbrev pub word_if : Option ℕ → Line → List ℕ
word_if None line = []
word_if (Some place) line = word_at place line

-- the first word of a line, its value and its verdict
unfoldable pub label : Option ℕ → Option ℕ → Line → List ℕ
label value verdict line =
    escaped (word_at 0 line) ++ (codes ": " ++ (escaped (word_if value line) ++ (codes " " ++ escaped (word_if verdict line))))

abbrev pub look : Option ℕ → Line → List ℕ
look verdict line = look_of (word_if verdict line)

-- the label of a bar, this far from the top
unfoldable pub caption : Option ℕ → Option ℕ → ℕ → Line → List ℕ
caption value verdict y line =
    codes "<g class=\""
    ++ (look verdict line
    ++ (codes "\">" ++ (text_start (codes "label") 20 y ++ (label value verdict line ++ codes "</text>"))))

-- a bar as long as its number by the scale, on which the greatest has `LONGEST`, and a line at its start, so that
-- one of no length is seen; none where there is no number
unfoldable pub bar : ℕ → ℕ → Option ℕ → List ℕ
bar top y None = []
bar top y (Some n) = start_mark y ++ rect y (scaled top LONGEST n)

-- the bar of a line; a square if it is by its verdict alone
unfoldable pub bar_at : ℕ → ℕ → Option ℕ → Line → List ℕ
bar_at top y None line = rect y 24
bar_at top y (Some place) line = bar top y (number_at place line)

-- a label and its bar, below so much room
unfoldable pub labelled : Option ℕ → Option ℕ → ℕ → ℕ → ℕ → Line → List ℕ
labelled value verdict top room index line =
    caption value verdict (28 + (room + 64 * index)) line ++ (bar_at top (36 + (room + 64 * index)) value line ++ codes "</g>\n")

abbrev pub bars_from : Option ℕ → Option ℕ → ℕ → ℕ → ℕ → List Line → List ℕ
bars_from value verdict top room index [] = []
bars_from value verdict top room index (line ∷ lines) =
    labelled value verdict top room index line ++ bars_from value verdict top room (index + 1) lines

-- the room above the bars, for the level in words; none if there is no level
abbrev pub room_for : Option Level → ℕ
room_for None = 0
room_for (Some level) = 48

-- a line across so many bars, where the level stands by the same scale
unfoldable pub level_across : ℕ → ℕ → Option Level → List ℕ
level_across top count None = []
level_across top count (Some level) =
    let x : ℕ = 20 + scaled top LONGEST (level_at level) in level_mark level (x, 48) (x, 52 + 64 * count)

-- the number at which the scale ends: the greatest of the values and the level
abbrev pub end_of : Option ℕ → Option Level → List Line → ℕ
end_of None level lines = max 1 (level_or_zero level)
end_of (Some place) level lines = greatest place (max 1 (level_or_zero level)) lines

unfoldable pub bars_at : ℕ → ℕ → ℕ → Option ℕ → Option ℕ → Option Level → List Line → List ℕ
bars_at top room count value verdict level lines =
    svg_start 720 (16 + room + 64 * count)
    ++ (bars_from value verdict top room 0 lines ++ (level_across top count level ++ codes "</svg>\n"))

-- a bar for each line, beside the level
unfoldable pub bars : Option ℕ → Option ℕ → Option Level → List Line → List ℕ
bars value verdict level lines = bars_at (end_of value level lines) (room_for level) (length lines) value verdict level lines

-- ---- the highest days

-- the mark of a row whose rank decides, beside its label
unfoldable pub decision : List ℕ → ℕ → ℕ → Line → List ℕ
decision decides room index line =
    if bytes_eq (word_at 0 line) decides
    then text_start (codes "decides") 690 (28 + (room + 64 * index)) ++ codes "decides</text>\n"
    else []

abbrev pub decisions_from : List ℕ → ℕ → ℕ → List Line → List ℕ
decisions_from decides room index [] = []
decisions_from decides room index (line ∷ lines) = decision decides room index line ++ decisions_from decides room (index + 1) lines

unfoldable pub highest_at : List ℕ → ℕ → ℕ → ℕ → Option ℕ → Option ℕ → Option Level → List Line → List ℕ
highest_at decides top room count value verdict level lines =
    svg_start 720 (16 + room + 64 * count)
    ++ (bars_from value verdict top room 0 lines
    ++ (decisions_from decides room 0 lines ++ (level_across top count level ++ codes "</svg>\n")))

-- a bar for the value of each of the highest days, with its rank and its day, beside the level
unfoldable pub highest : List ℕ → Option Level → List Line → List ℕ
highest decides level lines = highest_at decides (end_of (Some 2) level lines) (room_for level) (length lines) (Some 2) (Some 1) level lines

-- ---- the two lines of a day

-- how far from the left the hour of a row stands
abbrev pub across : ℕ → ℕ
across index = 80 + 40 * index

-- how far from the top a number stands, by the scale from the foot up
abbrev pub down : ℕ → ℕ → ℕ
down top n = 340 - scaled top HIGHEST n

-- a point; after a gap a line begins anew with a dot
unfoldable pub point : ℕ → Bool → ℕ → Option ℕ → List ℕ
point top joined index None = []
point top joined index (Some n) =
    (if joined then codes " L" else codes " M")
    ++ (number (across index) ++ (codes " " ++ (number (down top n) ++ (if joined then [] else codes "h0"))))

abbrev pub points_from : ℕ → ℕ → Bool → ℕ → List Line → List ℕ
points_from place top joined index [] = []
points_from place top joined index (line ∷ lines) =
    point top joined index (number_at place line) ++ points_from place top (is_some (number_at place line)) (index + 1) lines

-- the line of one column
unfoldable pub curve : List ℕ → ℕ → ℕ → List Line → List ℕ
curve name place top lines =
    codes "<path class=\"" ++ (name ++ (codes "\" d=\"" ++ (points_from place top false 0 lines ++ codes "\"/>\n")))

-- the hour of a row
abbrev pub hour_word : Line → List ℕ
hour_word line = escaped (take 2 (word_at 0 line))

-- it stands below its points
unfoldable pub hour : ℕ → Line → List ℕ
hour x line = text_start (codes "hour") x 372 ++ (hour_word line ++ codes "</text>\n")

abbrev pub hours_from : ℕ → List Line → List ℕ
hours_from index [] = []
hours_from index (line ∷ lines) = hour (across index) line ++ hours_from (index + 1) lines

-- a number of thousandths, with the places that the values of a pollutant have
unfoldable pub in_unit : Pollutant → ℕ → List ℕ
in_unit Ozone n = fixed (pos n) 3
in_unit Pm25 n = fixed (pos (n / 100)) 1
in_unit Pm10 n = fixed (pos (n / 100)) 1

-- the number at which the scale ends
unfoldable pub end_mark : Pollutant → ℕ → List ℕ
end_mark pollutant top = text_start (codes "end") 4 66 ++ (in_unit pollutant top ++ codes "</text>\n")

-- where the scale begins, and which line is which
unfoldable pub legend : List ℕ
legend =
    codes "<text class=\"end\" x=\"44\" y=\"346\">0</text>\n<path class=\"full\" d=\"M80 412h60\"/><text x=\"152\" y=\"420\">full: all hours</text>\n<path class=\"net\" d=\"M80 448h60\"/><text x=\"152\" y=\"456\">average: without agreed events</text>\n</svg>\n"

-- a line that ends so far from the left, where the level stands by the same scale
unfoldable pub level_along : ℕ → ℕ → Level → List ℕ
level_along top right level =
    let y : ℕ = down top (level_at level) in level_mark level (64, y) (right, y)

-- the full averages and the net ones, and which is which
unfoldable pub curves : ℕ → List Line → List ℕ
curves top lines = curve (codes "full") 3 top lines ++ (curve (codes "net") 1 top lines ++ legend)

unfoldable pub day_at : ℕ → ℕ → Level → List Line → List ℕ
day_at top count level lines =
    svg_start (max 720 (80 + 40 * count)) 470
    ++ (level_along top (60 + 40 * count) level ++ (end_mark Ozone top ++ (hours_from 0 lines ++ curves top lines)))

-- the level, the full averages and the net ones, hour by hour
unfoldable pub day : Level → List Line → List ℕ
day level lines = day_at (greatest 3 (greatest 1 (max 1 (level_at level)) lines) lines) (length lines) level lines
