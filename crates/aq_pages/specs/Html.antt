-- A text in HTML, and the rows of a table (own).
use Rattle.std.specs.Prelude.{ℕ, ◌+◌, ◌==◌, Bool, ◌&&◌, not, if◌then◌else◌, List, [], ◌∷◌, ◌++◌, codes, flat_map}
use Rattle.aq_base.specs.Decimal.{fixed}
use Rattle.std.specs.Prelude.{pos}

-- what a byte is written as: the four that would mean something are written by name
unfoldable pub escaped_byte : ℕ → List ℕ
escaped_byte byte =
    if byte == 38 then codes "&amp;"
    else if byte == 60 then codes "&lt;"
    else if byte == 62 then codes "&gt;"
    else if byte == 34 then codes "&quot;"
    else byte ∷ []

-- a byte that stands for itself
unfoldable pub is_plain : ℕ → Bool
is_plain byte = ((not (byte == 38) && not (byte == 60)) && not (byte == 62)) && not (byte == 34)

abbrev pub escaped : List ℕ → List ℕ
escaped text = flat_map escaped_byte text

-- a cell: its word, escaped, between two tags
abbrev pub cell : List ℕ → List ℕ → List ℕ → List ℕ
cell start end word = start ++ (escaped word ++ end)

-- a row of a table: a cell for each word of a line, in order, and nothing else
unfoldable pub row : List ℕ → List ℕ → List (List ℕ) → List ℕ
row start end line = codes "<tr>" ++ (flat_map (cell start end) line ++ codes "</tr>\n")

-- a whole number, in digits
abbrev pub number : ℕ → List ℕ
number n = fixed (pos n) 0

-- an attribute that is a number
unfoldable pub attribute : List ℕ → ℕ → List ℕ
attribute name n = codes " " ++ (name ++ (codes "=\"" ++ (number n ++ codes "\"")))

-- ---- the elements of a picture; a place is so far from the left, and from the top

unfoldable pub svg_start : ℕ → ℕ → List ℕ
svg_start width height = codes "<svg viewBox=\"0 0 " ++ (number width ++ (codes " " ++ (number height ++ codes "\">\n")))

-- what stands before a text of this class
unfoldable pub text_start : List ℕ → ℕ → ℕ → List ℕ
text_start class x y =
    codes "<text class=\"" ++ (class ++ (codes "\"" ++ (attribute (codes "x") x ++ (attribute (codes "y") y ++ codes ">"))))

-- a straight line, from one place to another
unfoldable pub line : ℕ × ℕ → ℕ × ℕ → List ℕ
line from to =
    codes "<line"
    ++ (attribute (codes "x1") from.0
    ++ (attribute (codes "y1") from.1 ++ (attribute (codes "x2") to.0 ++ (attribute (codes "y2") to.1 ++ codes "/>"))))

-- a bar, this far from the top
unfoldable pub rect : ℕ → ℕ → List ℕ
rect y width =
    codes "<rect"
    ++ (attribute (codes "x") 20
    ++ (attribute (codes "y") y ++ (attribute (codes "width") width ++ (attribute (codes "height") 24 ++ codes "/>"))))

-- a circle round a place
unfoldable pub circle : ℕ → ℕ → ℕ → List ℕ
circle x y radius =
    codes "<circle"
    ++ (attribute (codes "cx") x ++ (attribute (codes "cy") y ++ (attribute (codes "r") radius ++ codes "/>")))

-- the line at which a bar starts, this far from the top
unfoldable pub start_mark : ℕ → List ℕ
start_mark y = line (20, y) (20, y + 24)
