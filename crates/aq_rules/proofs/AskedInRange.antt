-- What is asked in words or in a path is a question of its row, and in range.
use Rattle.std.proofs.Common.{◌≡◌, ℕ, ◌<◌, true, ◌&&◌, List, [], ◌∷◌, Some, None, Option, refl, subst}
use Rattle.std.specs.Prelude.{⊤, IfSome, nat_le, slice_index, take, drop}
use Rattle.std.specs.Str.Parse.{digits_value}
use Rattle.std.proofs.lemmas.Bool.{and_from, and_parts}
use Rattle.aq_base.specs.Calendar.{is_date, is_design_year, is_year, day_number}
use Rattle.aq_base.specs.Decimal.{are_digits}
use Rattle.aq_base.specs.Site.{Site}
use Rattle.aq_base.specs.declared.area.Area.{Area}
use Rattle.aq_base.specs.declared.day.TheConstants.{LAST_DAY}
use Rattle.aq_base.specs.declared.question.Question.{Question}
use Rattle.aq_base.specs.declared.question.Topic.{Topic}
use Rattle.aq_base.specs.declared.question.Topic.TheVariants.{Value, Report, Export, WhatIf, Decisive, Combined, Area as AreaTopic, Reply, Windows, Days, Pm25, Pm10, Sites, Monitors, Events, Flags, Loads, Daily, Highest, Completeness, Reports, Records, Lines}
use Rattle.aq_base.specs.declared.standard.Standard.{Standard}
use Rattle.aq_base.specs.declared.standard.Standard.TheVariants.{Ozone2015, Annual2012, AnnualSecondary, Annual2024, Daily2006, Pm10Of1987}
use Rattle.aq_rules.specs.Limits.{LAST_LOAD_NUMBER}
use Rattle.aq_rules.specs.Lines.Spellings.{digits_in, parameter_in, year_in}
use Rattle.aq_rules.specs.Office.Office.{is_day}
use Rattle.aq_rules.specs.Questions.Asking.{named_by, question_by, question_of, is_load_number, is_area, has_combinations, is_asked}
use Rattle.aq_rules.specs.Questions.Spelling.{area_or, area_word, behind_hyphen, combined_word, county_word, date_of, day_word, design_year, if_combined, number_to, site_word, sites_word, standard_word, assumed_list}
use Rattle.aq_rules.specs.Questions.Table.{Part, OfStandard, OfPairStandard, OfSite, OfParameter, OfYear, OfEndYear, OfDay, OfNumber, OfList, OfArea, Named, Wanting, row_of, parts_of, topic_of}
use Rattle.aq_rules.proofs.Valid.{valid, valid_if, digits_valid, at_most, anything, year_valid, date_number}

-- what a part names is in its range
abbrev IsNamed : (part : Part) → Named part → Type 0
IsNamed OfStandard standard = ⊤
IsNamed OfPairStandard standard = has_combinations standard ≡ true
IsNamed OfSite site = ⊤
IsNamed OfParameter pollutant = ⊤
IsNamed OfYear year = is_year year ≡ true
IsNamed OfEndYear year = is_design_year year ≡ true
IsNamed OfDay day = is_day day ≡ true
IsNamed OfNumber number = is_load_number number ≡ true
IsNamed OfList list = ⊤
IsNamed OfArea area = is_area area ≡ true

-- ---- each spelling

nothing_asked : {A : Type 0} (o : Option A) → IfSome o (λ x. ⊤)
nothing_asked None = tt
nothing_asked (Some x) = tt

paired : (standard : Standard) → IfSome (if_combined standard) (λ s. has_combinations s ≡ true)
paired Ozone2015 = refl
paired Annual2012 = refl
paired AnnualSecondary = refl
paired Annual2024 = refl
paired Daily2006 = refl
paired Pm10Of1987 = tt

combined_valid : (text : List ℕ) → IfSome (combined_word text) (λ s. has_combinations s ≡ true)
unfolding combined_word
combined_valid text =
    valid (λ s. ⊤) (λ s. has_combinations s ≡ true) (standard_word text) if_combined (nothing_asked (standard_word text)) (λ s h. paired s)

design_valid : (text : List ℕ) → IfSome (design_year text) (λ y. is_design_year y ≡ true)
unfolding design_year
design_valid text =
    valid (λ y. is_year y ≡ true) (λ y. is_design_year y ≡ true) (year_in text) _ (year_valid text) λ y h.
    valid_if (λ y. is_design_year y ≡ true) (is_design_year y) y (λ is. is)

date_valid : (year month day : List ℕ) → IfSome (date_of year month day) (λ d. is_day d ≡ true)
unfolding date_of
date_valid year month day =
    valid (λ n. n ≡ n) (λ d. is_day d ≡ true) (digits_in 4 year) _ (anything (digits_in 4 year)) λ y p.
    valid (λ n. n ≡ n) (λ d. is_day d ≡ true) (digits_in 2 month) _ (anything (digits_in 2 month)) λ m q.
    valid (λ n. n ≡ n) (λ d. is_day d ≡ true) (digits_in 2 day) _ (anything (digits_in 2 day)) λ d r.
    valid_if (λ d. is_day d ≡ true) (is_date y m d) (day_number y m d) (λ h. at_most (day_number y m d) LAST_DAY (date_number y m d h))

day_valid : (text : List ℕ) → IfSome (day_word text) (λ d. is_day d ≡ true)
unfolding day_word
day_valid text =
    valid (λ t. t ≡ t) (λ d. is_day d ≡ true) (behind_hyphen (drop 4 text)) _ (anything (behind_hyphen (drop 4 text))) λ month p.
    valid (λ t. t ≡ t) (λ d. is_day d ≡ true) (behind_hyphen (drop 2 month)) _ (anything (behind_hyphen (drop 2 month))) λ day q.
    date_valid (take 4 text) (take 2 month) day

number_valid : (text : List ℕ) → IfSome (number_to LAST_LOAD_NUMBER text) (λ n. is_load_number n ≡ true)
number_valid text =
    valid_if (λ n. is_load_number n ≡ true) (are_digits text && nat_le 49 (slice_index text 0) && is_load_number (digits_value 10 text)) (digits_value 10 text)
    (λ h. (and_parts (are_digits text && nat_le 49 (slice_index text 0)) (is_load_number (digits_value 10 text)) h).1)

county_valid : (text : List ℕ) → IfSome (county_word text) (λ area. is_area area ≡ true)
unfolding county_word
county_valid text =
    valid (λ n. n < 100) (λ area. is_area area ≡ true) (digits_in 2 (take 2 text)) _ (digits_valid 2 (take 2 text)) λ state p.
    valid (λ t. t ≡ t) (λ area. is_area area ≡ true) (behind_hyphen (drop 2 text)) _ (anything (behind_hyphen (drop 2 text))) λ code q.
    valid (λ n. n < 1000) (λ area. is_area area ≡ true) (digits_in 3 code) _ (digits_valid 3 code) λ county r.
    and_from (nat_le state 99) (nat_le county 999) (at_most state 99 p) (at_most county 999 r)

either_valid : (county : Option Area) (sites : Option (List Site)) → IfSome county (λ area. is_area area ≡ true) → IfSome (area_or county sites) (λ area. is_area area ≡ true)
either_valid (Some area) sites h = h
either_valid None None h = tt
either_valid None (Some sites) h = refl

area_valid : (text : List ℕ) → IfSome (area_word text) (λ area. is_area area ≡ true)
unfolding area_word
area_valid text = either_valid (county_word text) (sites_word text) (county_valid text)

named-valid : (part : Part) (text : List ℕ) → IfSome (named_by part text) (IsNamed part)
named-valid OfStandard text = nothing_asked (standard_word text)
named-valid OfPairStandard text = combined_valid text
named-valid OfSite text = nothing_asked (site_word text)
named-valid OfParameter text = nothing_asked (parameter_in text)
named-valid OfYear text = year_valid text
named-valid OfEndYear text = design_valid text
named-valid OfDay text = day_valid text
named-valid OfNumber text = number_valid text
named-valid OfList text = nothing_asked (assumed_list text)
named-valid OfArea text = area_valid text

-- ---- a question of parts in range

module _ (P : Question → Type 0) where
  -- P of each question that parts in range make
  abbrev Makes : (parts : List Part) → Wanting parts → Type 0
  Makes [] question = P question
  Makes (part ∷ parts) wanting = (named : Named part) → IsNamed part named → Makes parts (wanting named)

  made : (parts : List Part) (wanting : Wanting parts) (texts : List (List ℕ)) → Makes parts wanting → IfSome (question_by parts wanting texts) P
  made [] question [] makes = makes
  made [] question (text ∷ texts) makes = tt
  made (part ∷ parts) wanting [] makes = tt
  made (part ∷ parts) wanting (text ∷ texts) makes =
      valid (IsNamed part) P (named_by part text) (λ named. question_by parts (wanting named) texts) (named-valid part text) λ named h.
      made parts (wanting named) texts (makes named h)

if_some : {A : Type 0} (P : A → Type 0) (o : Option A) (x : A) → IfSome o P → o ≡ Some x → P x
if_some P None x h is = cc
if_some P (Some y) x h is = subst_some P y x h (cc)
  where
    subst_some : {A : Type 0} (P : A → Type 0) (y x : A) → P y → y ≡ x → P x
    subst_some P y x h e = subst P e h

abbrev IsOf : Topic → Question → Type 0
IsOf topic question = topic_of question ≡ topic

makes-row : (topic : Topic) → Makes (IsOf topic) (parts_of topic) (row_of topic).question
makes-row Value = λ a p b q c r. refl
makes-row Report = λ a p b q. refl
makes-row Export = λ a p b q c r. refl
makes-row WhatIf = λ a p b q c r d s. refl
makes-row Decisive = λ a p b q c r. refl
makes-row Combined = λ a p b q c r. refl
makes-row AreaTopic = λ a p b q c r. refl
makes-row Reply = λ a p. refl
makes-row Windows = λ a p b q. refl
makes-row Days = λ a p b q. refl
makes-row Pm25 = λ a p b q. refl
makes-row Pm10 = λ a p b q. refl
makes-row Sites = refl
makes-row Monitors = λ a p. refl
makes-row Events = λ a p. refl
makes-row Flags = λ a p b q c r. refl
makes-row Loads = refl
makes-row Daily = λ a p b q c r. refl
makes-row Highest = λ a p b q c r. refl
makes-row Completeness = λ a p b q c r. refl
makes-row Reports = λ a p. refl
makes-row Records = refl
makes-row Lines = λ a p b q c r. refl

abbrev InRange : Question → Type 0
InRange question = is_asked question ≡ true

makes-range : (topic : Topic) → Makes InRange (parts_of topic) (row_of topic).question
makes-range Value = λ a p b q c r. r
makes-range Report = λ a p b q. q
makes-range Export = λ a p b q c r. r
makes-range WhatIf = λ a p b q c r d s. r
makes-range Decisive = λ a p b q c r. r
makes-range Combined = λ a p b q c r. and_from (has_combinations a) (is_design_year c) p r
makes-range AreaTopic = λ a p b q c r. and_from (is_area b) (is_design_year c) q r
makes-range Reply = λ a p. p
makes-range Windows = λ a p b q. q
makes-range Days = λ a p b q. q
makes-range Pm25 = λ a p b q. q
makes-range Pm10 = λ a p b q. q
makes-range Sites = refl
makes-range Monitors = λ a p. refl
makes-range Events = λ a p. refl
makes-range Flags = λ a p b q c r. r
makes-range Loads = refl
makes-range Daily = λ a p b q c r. r
makes-range Highest = λ a p b q c r. r
makes-range Completeness = λ a p b q c r. r
makes-range Reports = λ a p. p
makes-range Records = refl
makes-range Lines = λ a p b q c r. r

pub asked-row : (topic : Topic) (texts : List (List ℕ)) (asked : Question) → question_of topic texts ≡ Some asked → topic_of asked ≡ topic
unfolding question_of
asked-row topic texts asked is =
    if_some (IsOf topic) (question_of topic texts) asked (made (IsOf topic) (parts_of topic) (row_of topic).question texts (makes-row topic)) is

pub asked-range : (topic : Topic) (texts : List (List ℕ)) (asked : Question) → question_of topic texts ≡ Some asked → is_asked asked ≡ true
unfolding question_of
asked-range topic texts asked is =
    if_some InRange (question_of topic texts) asked (made InRange (parts_of topic) (row_of topic).question texts (makes-range topic)) is
