-- The sheets that the commands print, told by the names of their heads and of their columns (own).
use Rattle.std.specs.Prelude.{ℕ, Bool, true, false, ◌&&◌, List, [], ◌∷◌, map, codes, bytes_eq, find, Some, None, unwrap_or}
use Rattle.std.specs.List.{slice_split}
use Rattle.aq_base.specs.declared.monitor.Pollutant.TheVariants.{Ozone, Pm25, Pm10}
use Rattle.aq_rules.specs.Lines.Fields.{is_space}
use Rattle.aq_pages.specs.declared.kind.Picture.{Picture}
use Rattle.aq_pages.specs.declared.kind.Picture.TheVariants.{Counts, Bars, Squares, Lines, Days, Highest, Nothing}
use Rattle.aq_pages.specs.declared.words.TheConstants.{LOAD, AVERAGES, OZONE_VALUE, ANNUAL_VALUE, DAILY_VALUE, PM10_VALUE, REPORT, AREA_HISTORY, AREA_SITES, DECISIVE, OZONE_DAYS, PM25_DAYS, PM10_DAYS, HIGHEST_OZONE, HIGHEST_PARTICLES, SIMULATION, SITES, MONITORS, EVENTS, FLAGS, LOADS, COMPLETENESS, PM25_QUARTERS, PM10_QUARTERS}
use Rattle.aq_pages.specs.Sheets.{Line, PageSheet}
use Rattle.aq_pages.specs.Numbers.{word_at}

-- whether something is drawn
abbrev pub has_picture : Picture → Bool
has_picture Nothing = false
has_picture _ = true

-- a kind of sheet: its title in words, the names of its heads and of its columns, what is drawn of it, and what its heads and columns mean
pub record SheetKind : Type 0 where
  pub title : List ℕ
  pub heads : List (List ℕ)
  pub columns : List (List ℕ)
  pub picture : Picture
  pub words : List ℕ

-- the names that stand in a text, with a space between each two
abbrev names : List ℕ → List (List ℕ)
names text = slice_split is_space text

abbrev kind : List ℕ → List (List ℕ) → List (List ℕ) → Picture → List ℕ → SheetKind
kind title heads columns picture words = record { title = title; heads = heads; columns = columns; picture = picture; words = words }

-- a design value of any standard, of whose rows this column is drawn
abbrev pub value_kind : List (List ℕ) → ℕ → List ℕ → SheetKind
value_kind columns drawn words =
    kind (codes "The design value of a site") (names (codes "standard site year value test verdict")) columns (Bars drawn None) words

-- the highest days, of ozone or of the particles
abbrev pub highest_kind : List (List ℕ) → List ℕ → SheetKind
highest_kind columns words =
    kind (codes "The highest days of a year") (names (codes "site parameter year ranked decides")) columns Highest words

-- in the order in which they are tried; a summary has no columns
unfoldable pub kinds : List SheetKind
kinds =
    kind (codes "What a load did") (names (codes "load lines accepted refused")) (names (codes "line rule name count")) Counts LOAD.now
    ∷ kind (codes "8-hour ozone averages of a day, in ppm") (names (codes "site day")) (names (codes "hour average hours full full_hours")) Lines AVERAGES.now
    ∷ value_kind (names (codes "year ranked fourth season_days season_valid")) 2 OZONE_VALUE.now
    ∷ value_kind (names (codes "year mean capture1 capture2 capture3 capture4 valid")) 1 ANNUAL_VALUE.now
    ∷ value_kind (names (codes "year percentile counted capture1 capture2 capture3 capture4 valid")) 1 DAILY_VALUE.now
    ∷ value_kind (names (codes "year estimate lower exceedances complete")) 1 PM10_VALUE.now
    ∷ kind (codes "The design values of all sites") (names (codes "standard year")) (names (codes "site value verdict")) (Bars 1 (Some 2)) REPORT.now
    ∷ kind (codes "The history of an area") (names (codes "standard year verdict governing value met")) (names (codes "year verdict value")) (Bars 2 (Some 1)) AREA_HISTORY.now
    ∷ kind (codes "The sites of an area") (names (codes "standard year")) (names (codes "site value verdict critical")) (Bars 1 (Some 2)) AREA_SITES.now
    ∷ kind (codes "The events that decide, and the verdict with each turned round") (names (codes "standard site year verdict")) (names (codes "event verdict")) (Squares 1) DECISIVE.now
    ∷ kind (codes "The ozone days of a year, in ppm") (names (codes "site year season_first season_last season_days season_valid fourth")) (names (codes "day averages valid approved maximum")) (Days Ozone) OZONE_DAYS.now
    ∷ kind (codes "The PM2.5 days of a year, in &#181;g/m&#179;") (names (codes "site parameter year")) (names (codes "day scheduled value excluded credit")) (Days Pm25) PM25_DAYS.now
    ∷ kind (codes "The PM10 days of a year, in &#181;g/m&#179;") (names (codes "site parameter year")) (names (codes "day scheduled stratum value excluded exceeds")) (Days Pm10) PM10_DAYS.now
    ∷ highest_kind (names (codes "rank day value hour hours")) HIGHEST_OZONE.now
    ∷ highest_kind (names (codes "rank day value")) HIGHEST_PARTICLES.now
    ∷ kind (codes "What a simulation took") (names (codes "loads lines observations")) [] Nothing SIMULATION.now
    ∷ kind (codes "The sites") (names (codes "sites")) (names (codes "site ozone pm25 pm10")) Nothing SITES.now
    ∷ kind (codes "The monitors of a site") (names (codes "site")) (names (codes "parameter poc duration eligible observations first last")) Nothing MONITORS.now
    ∷ kind (codes "The events of a site") (names (codes "site")) (names (codes "event parameter first last code agreed flagged")) Nothing EVENTS.now
    ∷ kind (codes "The flags of a year") (names (codes "site parameter year")) (names (codes "day code flagged covered excluded")) Nothing FLAGS.now
    ∷ kind (codes "The loads") (names (codes "loads")) (names (codes "load lines accepted refused digest")) Nothing LOADS.now
    ∷ kind (codes "The completeness of a year") (names (codes "site parameter year")) (names (codes "poc month due valued null missing extra percent")) Nothing COMPLETENESS.now
    ∷ kind (codes "The quarters of a year of PM2.5") (names (codes "site year counted rank percentile mean")) (names (codes "quarter scheduled creditable capture counted days sum least greatest")) Nothing PM25_QUARTERS.now
    ∷ kind (codes "The quarters of a year of PM10") (names (codes "site year estimate")) (names (codes "quarter days scheduled captured strata samples exceedances estimate lower")) Nothing PM10_QUARTERS.now
    ∷ []

-- ---- the kind of a sheet

abbrev pub same_words : List (List ℕ) → List (List ℕ) → Bool
same_words [] [] = true
same_words [] (word ∷ words) = false
same_words (name ∷ names) [] = false
same_words (name ∷ names) (word ∷ words) = bytes_eq name word && same_words names words

-- a kind whose heads and columns have these names
unfoldable pub has_names : List (List ℕ) → List (List ℕ) → SheetKind → Bool
has_names heads columns kind = same_words kind.heads heads && same_words kind.columns columns

-- the kind of all other names: nothing is drawn, and there are no words
abbrev pub other_kind : SheetKind
other_kind = kind (codes "A sheet") [] [] Nothing []

-- the first kind that has these names
unfoldable pub kind_named : List (List ℕ) → List (List ℕ) → SheetKind
kind_named heads columns = unwrap_or (find (has_names heads columns) kinds) other_kind

abbrev pub names_of : List Line → List (List ℕ)
names_of heads = map (word_at 0) heads

abbrev pub kind_of : PageSheet → SheetKind
kind_of sheet = kind_named (names_of sheet.heads) sheet.columns
