-- The rows of flags by the marks of a site.
use Rattle.std.specs.Prelude.{◌≡◌, ℕ, ◌+◌, ◌*◌, Bool, ◌&&◌, nat_le, nat_lt, List, [], ◌∷◌, map, filter, count_by}
use Rattle.std.specs.List.{list_any}
use Rattle.aq_base.specs.Quals.{is_same_code}
use Rattle.aq_base.specs.Site.{Site}
use Rattle.aq_base.specs.declared.code.Code.{Code}
use Rattle.aq_base.specs.declared.monitor.Pollutant.{Pollutant}
use Rattle.aq_base.specs.declared.observation.ObsKey.{ObsKey}
use Rattle.aq_base.specs.declared.office.OfficeRecord.{OfficeRecord}
use Rattle.aq_rules.specs.Office.Exclusion.{excluded}
use Rattle.aq_rules.specs.Office.Monitors.{is_same_pollutant}
use Rattle.aq_rules.specs.Listed.Events.{StandingEvent}
use Rattle.aq_rules.specs.Listed.Flags.{FLAG_CODES, ListedFlag}
use Rattle.aq_listed.specs.Marks.{is_marked, lies_between}
use Rattle.aq_listed.specs.declared.flag_marks.FlagMarks.{FlagMarks}
use Rattle.aq_listed.specs.declared.marks.Mark.{Mark}

-- whether an event of the mark's code and pollutant holds its hour
abbrev pub covers_mark : Mark → StandingEvent → Bool
covers_mark mark event =
    is_same_code event.code mark.code
    && (is_same_pollutant mark.pollutant event.pollutant && nat_le event.first mark.hour && nat_le mark.hour event.last)

abbrev pub is_covered : List StandingEvent → Mark → Bool
is_covered events mark = list_any (covers_mark mark) events

-- the key of an observation with the mark
abbrev pub key_with : Site → Mark → ObsKey
key_with site mark = record { monitor = record { site = site; pollutant = mark.pollutant; poc = 0 }; hour = mark.hour }

abbrev pub is_left_out : List OfficeRecord → Site → Mark → Bool
is_left_out records site mark = excluded records (key_with site mark) (mark.code ∷ [])

-- the marks that pass a test, counted by pollutant, code and hour
abbrev pub AreThose : (Mark → Bool) → List Mark → List Mark → Type 0
AreThose test marks those =
    (pollutant : Pollutant) (code : Code) (hours : ℕ → Bool)
    → count_by (is_marked pollutant code hours) those ≡ count_by (is_marked pollutant code hours) (filter test marks)

abbrev pub on_day : ℕ → ℕ → Bool
on_day day hour = lies_between (24 * day) (24 * day + 23) hour

abbrev pub flag_by : FlagMarks → Pollutant → ℕ → Code → ListedFlag
flag_by marks pollutant day code = record {
  day = day;
  code = code;
  flagged = count_by (is_marked pollutant code (on_day day)) marks.all;
  covered = count_by (is_marked pollutant code (on_day day)) marks.covered;
  excluded = count_by (is_marked pollutant code (on_day day)) marks.excluded;
}

abbrev pub flags_by : FlagMarks → Pollutant → ℕ → List ListedFlag
flags_by marks pollutant day = map (flag_by marks pollutant day) FLAG_CODES

abbrev pub is_carried : ListedFlag → Bool
is_carried row = nat_lt 0 row.flagged
