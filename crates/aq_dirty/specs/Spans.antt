-- Spans of numbers of sites, in the order of their sites and first numbers, which may overlap.
use Rattle.std.specs.Prelude.{◌≡◌, ℕ, ◌-◌, ◌≤◌, Bool, false, ◌&&◌, nat_le, max, min, if◌then◌else◌, Option, Some, None, List, [], ◌∷◌, ⊤}
use Rattle.std.specs.List.{list_any, AllByRecursion}
use Rattle.aq_base.specs.Site.{Site}
use Rattle.aq_rules.specs.Office.Monitors.{is_same_site}
use Rattle.aq_rules.specs.Office.Office.{comes_before}
use Rattle.aq_dirty.specs.declared.spans.Span.{Span}

-- whether a number of a site lies in a span, and in one of several
abbrev pub covers : Site → ℕ → Span → Bool
covers site number span = is_same_site span.site site && nat_le span.first number && nat_le number span.last

abbrev pub holds : Site → ℕ → List Span → Bool
holds site number spans = list_any (covers site number) spans

-- whether a span of the same site starts no earlier than another one, and at most one number behind its end
abbrev pub reaches : Span → Span → Bool
reaches span other = is_same_site span.site other.site && nat_le span.first other.first && nat_le (other.first - 1) span.last

-- the span to the end of the other one, if that ends later
abbrev pub lengthened : Span → Span → Span
lengthened span other = record { site = span.site; first = span.first; last = max span.last other.last }

-- by site, and by the first number
abbrev pub start_of : Span → List ℕ
start_of span = span.site.state ∷ span.site.county ∷ span.site.number ∷ span.first ∷ []

abbrev pub starts_before : Span → Span → Bool
starts_before a b = comes_before (start_of a) (start_of b)

-- none starts before an earlier one
abbrev pub AreInOrder : List Span → Type 0
AreInOrder [] = ⊤
AreInOrder (span ∷ spans) = AllByRecursion (λ other. starts_before other span ≡ false) spans × AreInOrder spans

-- what holds of every set of spans: they are in order, and each has a number
pub record AreSpans (spans : List Span) : Type 0 where
  pub in_order : AreInOrder spans
  pub some : AllByRecursion (λ span. span.first ≤ span.last) spans

-- what holds of the two parts of a set of spans: together they are spans, so many, and each part has room for all
pub record AreParts (spans : List Span) (count front_room back_room : ℕ) : Type 0 where
  pub are : AreSpans spans
  pub front : count ≤ front_room
  pub back : count ≤ back_room

-- how many more have room, if each part may have to hold all
abbrev pub room_in : ℕ → ℕ → ℕ → ℕ
room_in count front_room back_room = min (front_room - count) (back_room - count)

-- the spans, and how many more there is room for
pub record Held : Type 0 where
  pub spans : List Span
  pub room : ℕ

abbrev pub first_of : List Span → Option Span
first_of [] = None
first_of (span ∷ spans) = Some span

-- the numbers of the first span's site from its first to `end`
abbrev pub is_in_front : List Span → ℕ → Site → ℕ → Bool
is_in_front [] end site number = false
is_in_front (span ∷ spans) end site number = covers site number (record span { last = end })

-- whether a span is of the site of another one, and starts at `end` or before
abbrev pub in_front : Span → ℕ → Span → Bool
in_front front end span = is_same_site front.site span.site && nat_le span.first end

-- the greatest of a number and the last numbers of the spans in front that are so, and what is behind these
abbrev pub last_of : Span → ℕ → ℕ → List Span → ℕ
last_of front end last [] = last
last_of front end last (span ∷ spans) =
    if in_front front end span then last_of front end (max last span.last) spans else last

abbrev pub left_of : Span → ℕ → List Span → List Span
left_of front end [] = []
left_of front end (span ∷ spans) = if in_front front end span then left_of front end spans else span ∷ spans
