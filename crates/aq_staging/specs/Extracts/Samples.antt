-- A line of an extract as the code reads it.
use Rattle.std.specs.Prelude.{ℕ, Bool, true, false, ◌&&◌, nat_lt, if◌then◌else◌, Option, Some, None, List, bytes_eq, codes}
use Rattle.aq_base.specs.Rule.{rule_number}
use Rattle.aq_base.specs.declared.rule.Rule.{Rule}
use Rattle.aq_base.specs.declared.rule.Rule.TheVariants.{BadAction}
use Rattle.aq_staging.specs.declared.extracts.sample.Sample.{Sample}
use Rattle.aq_rules.specs.Extracts.Changes as changes
use Rattle.aq_rules.specs.Lines.Fields.{fields, field}
use Rattle.aq_rules.specs.Lines.RdForm.{RdValue, Put, Delete}
use Rattle.aq_rules.specs.Lines.Reading.{is_plain}

-- the sample of the definition
abbrev pub sample_in : Sample → changes.Sample
sample_in s = record { monitor = s.monitor; duration = s.duration; hour = s.hour; content = s.content }

-- the sample that a value inserts, if it does
abbrev pub inserted : RdValue → Option changes.Sample
inserted (Put update monitor duration hour content) =
    if update then None else Some (record { monitor = monitor; duration = duration; hour = hour; content = content })
inserted (Delete monitor hour) = None

-- whether a line of plain bytes has the action of an insertion
abbrev pub inserts : List ℕ → Bool
inserts line = is_plain line && bytes_eq (field 2 (fields line)) (codes "I")

-- the rule itself if it comes before that of the action
abbrev pub up_to_action : Rule → Rule
up_to_action rule = if nat_lt (rule_number rule) (rule_number BadAction) then rule else BadAction

-- the rule under which an extract refuses a line that breaks this one, by whether the line inserts
abbrev pub narrowed : Bool → Rule → Rule
narrowed true rule = rule
narrowed false rule = up_to_action rule
