-- The hours of which an extract says something at a monitor, beside those that stand there, as the code walks them.
use Rattle.std.specs.Prelude.{ℕ, Bool, false, nat_lt, ◌==◌, if◌then◌else◌, Option, Some, None, List, [], ◌∷◌, ◌++◌}
use Rattle.aq_base.specs.declared.monitor.MonitorId.{MonitorId}
use Rattle.aq_base.specs.declared.observation.Observation.{Observation}
use Rattle.aq_staging.specs.Extracts.Texts.{optional_text}
use Rattle.aq_rules.specs.Lines.RdForm.{RdValue, Delete}

abbrev pub hour_of : ℕ × Observation → ℕ
hour_of item = item.0

-- without a first hour there are none
abbrev pub with_first : Option ℕ → List ℕ → List ℕ
with_first None rest = []
with_first (Some first) rest = first ∷ rest

-- those that are not before an hour, if they rise
abbrev pub from_hour : ℕ → List ℕ → List ℕ
from_hour hour [] = []
from_hour hour (said ∷ rest) = if nat_lt said hour then from_hour hour rest else said ∷ rest

abbrev pub starts_before : ℕ → List ℕ → Bool
starts_before hour [] = false
starts_before hour (said ∷ rest) = nat_lt said hour

abbrev pub starts_at : ℕ → List ℕ → Bool
starts_at hour [] = false
starts_at hour (said ∷ rest) = said == hour

-- the deletion of what stands at an hour, if the hours that are left to be said do not start there
abbrev pub unsaid_deletion : List ℕ → MonitorId → ℕ → Option RdValue
unsaid_deletion said monitor hour = if starts_at hour said then None else Some (Delete monitor hour)

-- the deletions of what stands, item after item
abbrev pub unsaid_lines : MonitorId → List ℕ → List (ℕ × Observation) → List ℕ
unsaid_lines monitor said [] = []
unsaid_lines monitor said (item ∷ items) =
    optional_text (unsaid_deletion (from_hour item.0 said) monitor item.0) ++ unsaid_lines monitor (from_hour item.0 said) items
