-- How a run ends: its exit status, and its message on the errors stream (own).
use Rattle.std.specs.Prelude.{ℕ, List, [], ◌∷◌, ◌++◌, flat_map, map, codes, decimal}
use Rattle.std.specs.List.{join_with_byte}
use Rattle.aq_base.specs.Rule.{rule_name, rule_number}
use Rattle.aq_base.specs.Site.{Site}
use Rattle.aq_base.specs.declared.rule.Rule.{Rule}
use Rattle.aq_rules.specs.Limits.{MOST_BYTES}
use Rattle.aq_rules.specs.Kept.RowChanges.{table_name}
use Rattle.aq_rules.specs.Kept.Rows.{Place}
use Rattle.aq_rules.specs.Questions.Table.{all_topics, usage_of}
use Rattle.aq_rules.specs.Shown.OtherSheets.{digest_text}
use Rattle.aq_rules.specs.Shown.Sheet.{site_text}
use Rattle.aq_desk.specs.declared.status.TheConstants.{DONE, NO_COMMAND, INPUT_FAILED, OUTPUT_FAILED, KEEPER_FAILED, DAMAGED, NO_MEMORY, DOOR_FAILED, CONFLICT, TOO_LARGE, LOADS_FULL, NO_SITE, NO_EVENT, NO_COMBINATION, NO_SITE_IN_AREA, NO_LOAD, LINE_REFUSED}

pub record Ending : Type 0 where
  pub status : ℕ
  pub message : List ℕ

-- a run that did all of its command ends with 0, and without a message
abbrev pub done : Ending
done = record { status = DONE; message = [] }

-- any other ends with another status, and a line that names it and its cause
abbrev pub ends : ℕ → List ℕ → Ending
ends status cause = record { status = status; message = codes "airdv: " ++ decimal status ++ codes " " ++ cause ++ codes "\n" }

-- the commands, as the usage text names them
abbrev pub commands : List (List ℕ)
commands =
    codes "scan SITE DAY" ∷ codes "load NUMBER" ∷ codes "try" ∷ codes "changes FIRST LAST" ∷ map (λ topic. join_with_byte 32 (usage_of topic)) all_topics
    ++ codes "serve --port P --connections N" ∷ codes "simulate START SITES YEARS" ∷ []

-- a line for each command
abbrev pub usage : List ℕ
usage = flat_map (λ command. codes "usage: airdv " ++ command ++ codes "\n") commands

-- with the usage text after its line
abbrev pub no_command : Ending
no_command = let ending = ends NO_COMMAND (codes "no command") in record { status = ending.status; message = ending.message ++ usage }

abbrev pub input_failed : Ending
input_failed = ends INPUT_FAILED (codes "input failed")

abbrev pub output_failed : Ending
output_failed = ends OUTPUT_FAILED (codes "output failed")

abbrev pub keeper_failed : Ending
keeper_failed = ends KEEPER_FAILED (codes "keeper failed")

-- with the table of the first damaged row, and its place among that table's rows from 0
abbrev pub damaged : Place → Ending
damaged place = ends DAMAGED (codes "damaged " ++ table_name place.table ++ codes " " ++ decimal place.index)

abbrev pub no_memory : Ending
no_memory = ends NO_MEMORY (codes "memory")

abbrev pub door_failed : Ending
door_failed = ends DOOR_FAILED (codes "door failed")

-- with the load's number, the digest that is kept, and the one that was sent
abbrev pub conflict : ℕ → List ℕ → List ℕ → Ending
conflict number kept sent =
    ends CONFLICT (codes "load " ++ decimal number ++ codes " kept " ++ digest_text kept ++ codes " sent " ++ digest_text sent)

abbrev pub too_many_bytes : Ending
too_many_bytes = ends TOO_LARGE (codes "more than " ++ decimal MOST_BYTES ++ codes " bytes")

-- with how many lines there are
abbrev pub too_many_lines : ℕ → Ending
too_many_lines lines = ends TOO_LARGE (decimal lines ++ codes " lines")

abbrev pub loads_full : Ending
loads_full = ends LOADS_FULL (codes "loads full")

-- with the site that was asked for
abbrev pub no_site : Site → Ending
no_site site = ends NO_SITE (codes "no site " ++ site_text site)

-- with the first number of the list that no event has
abbrev pub no_event : ℕ → Ending
no_event number = ends NO_EVENT (codes "no event " ++ decimal number)

-- with the site to which none is joined for the standard's pollutant
abbrev pub no_combination : Site → Ending
no_combination site = ends NO_COMBINATION (codes "no combination " ++ site_text site)

-- no registered site of the area has a monitor of the standard's pollutant
abbrev pub no_site_in_area : Ending
no_site_in_area = ends NO_SITE_IN_AREA (codes "no site in area")

-- with the number of which no load stands
abbrev pub no_load : ℕ → Ending
no_load number = ends NO_LOAD (codes "no load " ++ decimal number)

-- with the first line of the extract that breaks a rule, and the number and the name of the first rule that it breaks
abbrev pub line_refused : ℕ → Rule → Ending
line_refused line rule =
    ends LINE_REFUSED (codes "line " ++ decimal line ++ codes " rule " ++ decimal (rule_number rule) ++ codes " " ++ rule_name rule)
