-- Marks: the hours at which observations carry a code by which an agency asks for an exclusion.
use Rattle.std.specs.Prelude.{◌≡◌, ◌≤◌, ◌+◌, ℕ, Bool, ◌&&◌, nat_le, if◌then◌else◌, List, [], ◌∷◌, count_by}
use Rattle.std.specs.List.Sorted.{IsSorted}
use Rattle.std.specs.Ordering.{nat_cmp, ordering_then}
use Rattle.std.specs.declared.cmp.Ordering.{Ordering}
use Rattle.aq_base.specs.contracts.monitor.PollutantOrd.TheImpl as pollutant_derived
use Rattle.aq_base.specs.Quals.{is_same_code}
use Rattle.aq_base.specs.Site.{Site}
use Rattle.aq_base.specs.declared.code.Code.{Code}
use Rattle.aq_base.specs.declared.limits.TheConstants.{MOST_OBSERVATIONS}
use Rattle.aq_base.specs.declared.monitor.Pollutant.{Pollutant}
use Rattle.aq_base.specs.declared.observation.ObsKey.{ObsKey}
use Rattle.aq_base.specs.declared.observation.Observation.{Observation}
use Rattle.aq_rules.specs.Office.Exclusion.{asks_exclusion, is_flagged}
use Rattle.aq_rules.specs.Office.Monitors.{is_same_site, is_same_pollutant}
use Rattle.aq_listed.specs.declared.marks.Mark.{Mark}

-- by pollutant, code and hour
abbrev pub mark_cmp : Mark → Mark → Ordering
mark_cmp a b =
    ordering_then ((pollutant_derived.ghosts).cmp a.pollutant b.pollutant)
    (ordering_then (ordering_then (nat_cmp a.code.first b.code.first) (nat_cmp a.code.second b.code.second)) (nat_cmp a.hour b.hour))

abbrev pub lies_between : ℕ → ℕ → ℕ → Bool
lies_between first last hour = nat_le first hour && nat_le hour last

-- a mark of the pollutant and code at an hour that passes the test
abbrev pub is_marked : Pollutant → Code → (ℕ → Bool) → Mark → Bool
is_marked pollutant code test mark =
    is_same_pollutant mark.pollutant pollutant && is_same_code mark.code code && test mark.hour

-- the mark of an observation's code, if it asks for an exclusion
abbrev pub marks_at : ObsKey → Code → List Mark
marks_at key code =
    if asks_exclusion code
    then record { pollutant = key.monitor.pollutant; code = code; hour = key.hour } ∷ []
    else []

-- an observation of the site and pollutant that asks for an exclusion by the code, at an hour that passes the test
abbrev pub asks_at : Site → Pollutant → Code → (ℕ → Bool) → ObsKey → List Code → Bool
asks_at site pollutant code test key quals =
    is_same_site key.monitor.site site
    && (is_same_pollutant key.monitor.pollutant pollutant && is_flagged code quals && test key.hour)

abbrev pub is_asked : Site → Pollutant → Code → (ℕ → Bool) → (ObsKey × Observation) → Bool
is_asked site pollutant code test row = asks_at site pollutant code test row.0 row.1.quals

-- no more of a pollutant and code than there may be observations
abbrev pub AreFew : List Mark → Type 0
AreFew marks =
    (pollutant : Pollutant) (code : Code) (test : ℕ → Bool) → count_by (is_marked pollutant code test) marks ≤ MOST_OBSERVATIONS

pub record IsMarks (marks : List Mark) : Type 0 where
  pub sorted : IsSorted mark_cmp marks
  pub few : AreFew marks

-- the marks of the site's observations
abbrev pub AreMarksOf : Site → List (ObsKey × Observation) → List Mark → Type 0
AreMarksOf site rows marks =
    (pollutant : Pollutant) (code : Code) (test : ℕ → Bool)
    → count_by (is_marked pollutant code test) marks ≡ count_by (is_asked site pollutant code test) rows

-- the marks with those of one more observation
abbrev pub AddsMarks : Site → ObsKey → List Code → List Mark → List Mark → Type 0
AddsMarks site key quals before after =
    (pollutant : Pollutant) (code : Code) (test : ℕ → Bool)
    → count_by (is_marked pollutant code test) after
    ≡ count_by (is_marked pollutant code test) before + (if asks_at site pollutant code test key quals then 1 else 0)
