-- The words of the command line, and the command that they name (own).
use Rattle.std.specs.Prelude.{ℕ, ◌==◌, Bool, true, ◌&&◌, nat_le, List, [], ◌∷◌, length, take, drop, Option, Some, None, if◌then◌else◌, codes, bytes_eq}
use Rattle.std.specs.Option.{option_map}
use Rattle.aq_rules.specs.Limits.{LAST_LOAD_NUMBER, MOST_GENERATED_SITES, FEWEST_GENERATED_YEARS, MOST_GENERATED_YEARS}
use Rattle.aq_rules.specs.Lines.Spellings.{◌>>=◌}
use Rattle.aq_rules.specs.Questions.Asking.{asked_in_words, is_asked, is_load_number}
use Rattle.aq_rules.specs.Questions.Spelling.{day_word, number_to, site_word}
use Rattle.aq_rules.specs.Questions.Table.{all_topics}
use Rattle.aq_words.specs.declared.words.Command.{Command}
use Rattle.aq_words.specs.declared.words.Command.TheVariants.{Scan, Load, Draft as OfDraft, Ask, Serve, Simulate}
use Rattle.aq_words.specs.declared.words.Draft.TheVariants.{Try, Changes}

abbrev pub LAST_PORT : ℕ
LAST_PORT = 65535

abbrev pub MOST_CONNECTIONS : ℕ
MOST_CONNECTIONS = 1000000

abbrev pub LAST_START : ℕ
LAST_START = 18446744073709551615

-- `scan SITE DAY`
unfoldable pub scan_of : List (List ℕ) → Option Command
scan_of (site ∷ day ∷ []) = do
  at ← site_word site
  on ← day_word day
  Some (Scan at on)
scan_of _ = None

-- `load NUMBER`, a number without a leading zero
unfoldable pub load_of : List (List ℕ) → Option Command
load_of (text ∷ []) = do
  number ← number_to LAST_LOAD_NUMBER text
  Some (Load number)
load_of _ = None

-- `try`
unfoldable pub try_of : List (List ℕ) → Option Command
try_of [] = Some (OfDraft Try)
try_of _ = None

-- `changes FIRST LAST`, of which the first day is not after the last
abbrev pub changes_between : ℕ → ℕ → Option Command
changes_between first last = if nat_le first last then Some (OfDraft (Changes first last)) else None

unfoldable pub changes_of : List (List ℕ) → Option Command
changes_of (first ∷ last ∷ []) = do
  from ← day_word first
  until ← day_word last
  changes_between from until
changes_of _ = None

-- ---- `serve --port P --connections N`

-- an option's value, and the words after it
pub record Taken : Type 0 where
  pub value : List ℕ
  pub rest : List (List ℕ)

-- the value in a word of its own
abbrev pub taken_next : List (List ℕ) → Option Taken
taken_next [] = None
taken_next (value ∷ rest) = Some (record { value = value; rest = rest })

-- what stands after the front of a text
abbrev pub behind : List ℕ → List ℕ → Option (List ℕ)
behind front text = if bytes_eq (take (length front) text) front then Some (drop (length front) text) else None

-- the value after an equals sign
unfoldable pub taken_here : List ℕ → List ℕ → List (List ℕ) → Option Taken
taken_here name word rest = do
  sign ← behind name word
  value ← behind (codes "=") sign
  Some (record { value = value; rest = rest })

unfoldable pub option_of : List ℕ → List (List ℕ) → Option Taken
option_of name [] = None
option_of name (word ∷ rest) = if bytes_eq word name then taken_next rest else taken_here name word rest

-- the values of two options in this order, and no more words
pub record Pair : Type 0 where
  pub first : List ℕ
  pub second : List ℕ

unfoldable pub pair_of : List ℕ → List ℕ → List (List ℕ) → Option Pair
pair_of first second words = do
  one ← option_of first words
  two ← option_of second one.rest
  if length two.rest == 0 then Some (record { first = one.value; second = two.value }) else None

abbrev pub PORT : List ℕ
PORT = codes "--port"

abbrev pub CONNECTIONS : List ℕ
CONNECTIONS = codes "--connections"

unfoldable pub served_by : List ℕ → List ℕ → Option Command
served_by port connections = do
  at ← number_to LAST_PORT port
  most ← number_to MOST_CONNECTIONS connections
  Some (Serve at most)

abbrev pub served_in : Option Pair → Option Pair → Option Command
served_in (Some given) other = served_by given.first given.second
served_in None (Some given) = served_by given.second given.first
served_in None None = None

-- the options in either order
unfoldable pub serve_of : List (List ℕ) → Option Command
serve_of words = served_in (pair_of PORT CONNECTIONS words) (pair_of CONNECTIONS PORT words)

-- ---- `simulate START SITES YEARS`

-- a number without a leading zero, or 0 alone
unfoldable pub start_in : List ℕ → Option ℕ
start_in text = if bytes_eq text (codes "0") then Some 0 else number_to LAST_START text

unfoldable pub years_in : List ℕ → Option ℕ
years_in text = do
  years ← number_to MOST_GENERATED_YEARS text
  if nat_le FEWEST_GENERATED_YEARS years then Some years else None

unfoldable pub simulate_of : List (List ℕ) → Option Command
simulate_of (start ∷ sites ∷ years ∷ []) = do
  from ← start_in start
  count ← number_to MOST_GENERATED_SITES sites
  over ← years_in years
  Some (Simulate from count over)
simulate_of _ = None

-- ---- all words

-- a command that is no question
abbrev pub command_in : List ℕ → List (List ℕ) → Option Command → Option Command
command_in name words question =
    if bytes_eq name (codes "scan") then scan_of words
    else (if bytes_eq name (codes "load") then load_of words
    else (if bytes_eq name (codes "try") then try_of words
    else (if bytes_eq name (codes "changes") then changes_of words
    else (if bytes_eq name (codes "serve") then serve_of words
    else (if bytes_eq name (codes "simulate") then simulate_of words
    else question)))))

-- the command of the words, which are all required, and none more
abbrev pub command_of : List (List ℕ) → Option Command
command_of [] = None
command_of (name ∷ words) = command_in name words (option_map Ask (asked_in_words all_topics (name ∷ words)))

-- ---- what words may name

abbrev pub is_command : Command → Bool
is_command (Scan site day) = true
is_command (Load number) = is_load_number number
is_command (OfDraft draft) = true
is_command (Ask question) = is_asked question
is_command (Serve port connections) = true
is_command (Simulate start sites years) = nat_le 1 sites && nat_le sites MOST_GENERATED_SITES && nat_le FEWEST_GENERATED_YEARS years && nat_le years MOST_GENERATED_YEARS
