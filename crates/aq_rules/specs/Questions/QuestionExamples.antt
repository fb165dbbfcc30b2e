-- Words, paths and offices, on which the laws work out what is asked and answered.
use Rattle.std.specs.Prelude.{ℕ, List, replicate, codes}
use Rattle.std.specs.List.{join_with_byte}
use Rattle.aq_base.specs.declared.question.Topic.{Topic}
use Rattle.aq_rules.specs.Questions.Table.{usage_of}

-- words with single spaces between them
abbrev pub spaced : List (List ℕ) → List ℕ
spaced words = join_with_byte 32 words

abbrev pub usage_line : Topic → List ℕ
usage_line topic = spaced (usage_of topic)

-- a standard, a site, a parameter and a year, as they are spelled
abbrev pub ozone_word : List ℕ
ozone_word = codes "O3-2015"

abbrev pub site_text : List ℕ
site_text = codes "06-037-1103"

-- so many entries of one event
abbrev pub entries : ℕ → List ℕ
entries count = join_with_byte 44 (replicate count (codes "7Y"))
