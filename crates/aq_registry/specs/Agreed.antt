-- The agreed events in their order, and how far those up to each one reach.
use Rattle.std.specs.Prelude.{◌≡◌, ℕ, Bool, false, not, filter, ◌&&◌, ◌==◌, nat_le, nat_lt, if◌then◌else◌, Option, Some, None, is_some, List, [], ◌∷◌, map, ⊤}
use Rattle.std.specs.List.{AllByRecursion, list_any}
use Rattle.std.specs.Option.{option_and_then}
use Rattle.aq_base.specs.Site.{Site}
use Rattle.aq_base.specs.declared.code.Code.{Code}
use Rattle.aq_base.specs.declared.monitor.Pollutant.{Pollutant}
use Rattle.aq_base.specs.declared.observation.ObsKey.{ObsKey}
use Rattle.aq_base.specs.declared.office.OfficeRecord.{OfficeRecord}
use Rattle.aq_base.specs.declared.office.OfficeRecord.TheVariants.{Event}
use Rattle.aq_base.specs.declared.office.OfficeKey.{OfficeKey}
use Rattle.aq_base.specs.declared.office.OfficeKey.TheVariants.{Event as EventKey, Concurrence as ConcurrenceKey}
use Rattle.aq_rules.specs.Office.Exclusion.{agrees_to, asks_exclusion}
use Rattle.aq_rules.specs.Office.Questions.{record_of}
use Rattle.aq_rules.specs.Office.Office.{comes_before, is_same, parameter_number}
use Rattle.aq_registry.specs.declared.agreed.Start.{Start}
use Rattle.aq_registry.specs.declared.agreed.Span.{Span}
use Rattle.aq_registry.specs.declared.agreed.Entry.{Entry}

-- an hour of a site, pollutant and code
abbrev pub start_of : Site → Pollutant → Code → ℕ → Start
start_of site pollutant code hour = record {
  state = site.state;
  county = site.county;
  number = site.number;
  parameter = parameter_number pollutant;
  code_first = code.first;
  code_second = code.second;
  hour = hour;
}

abbrev pub series_of : Start → List ℕ
series_of a = a.state ∷ a.county ∷ a.number ∷ a.parameter ∷ a.code_first ∷ a.code_second ∷ []

abbrev pub numbers_of : Start → List ℕ
numbers_of a = a.state ∷ a.county ∷ a.number ∷ a.parameter ∷ a.code_first ∷ a.code_second ∷ a.hour ∷ []

-- whether the site, pollutant and code are the same
abbrev pub is_same_series : Start → Start → Bool
is_same_series a b = is_same (series_of a) (series_of b)

-- by site, parameter, code and hour
abbrev pub starts_before : Start → Start → Bool
starts_before a b = comes_before (numbers_of a) (numbers_of b)

-- whether an event of the site, pollutant and code holds the hour
abbrev pub covers : Start → Span → Bool
covers at span = is_same_series span.start at && nat_le span.start.hour at.hour && nat_le at.hour span.last

-- the events with one more, before the first that starts after it
abbrev pub with_span : Span → List Span → List Span
with_span span [] = span ∷ []
with_span span (first ∷ spans) =
    if starts_before span.start first.start then span ∷ first ∷ spans else first ∷ with_span span spans

-- the events but those of a number
abbrev pub without_number : ℕ → List Span → List Span
without_number number spans = filter (λ span. not (span.number == number)) spans

-- whether there is an event of a number
abbrev pub has_number : ℕ → List Span → Bool
has_number number spans = list_any (λ (span : Span). span.number == number) spans

-- the events with this one in place of those of its number
abbrev pub renewed : ℕ → Option Span → List Span → List Span
renewed number None spans = without_number number spans
renewed number (Some span) spans = with_span span (without_number number spans)

-- none starts before an earlier one
abbrev pub AreInOrder : List Span → Type 0
AreInOrder [] = ⊤
AreInOrder (span ∷ spans) = AllByRecursion (λ other. starts_before other.start span.start ≡ false) spans × AreInOrder spans

abbrev pub spans_of : List Entry → List Span
spans_of entries = map (λ entry. entry.span) entries

-- the greatest last hour of an event and of those of its series before it
abbrev pub reach_behind : Option Entry → Span → ℕ
reach_behind None span = span.last
reach_behind (Some before) span =
    if is_same_series before.span.start span.start && nat_lt span.last before.reach then before.reach else span.last

abbrev pub entry_behind : Option Entry → Span → Entry
entry_behind before span = record { span = span; reach = reach_behind before span }

-- each entry's reach is that of its event after the entry before it
abbrev pub AreReached : Option Entry → List Entry → Type 0
AreReached before [] = ⊤
AreReached before (entry ∷ entries) = (entry ≡ entry_behind before entry.span) × AreReached (Some entry) entries

-- each entry after the first follows from the one before it
abbrev pub AreChained : List Entry → Type 0
AreChained [] = ⊤
AreChained (entry ∷ entries) = AreReached (Some entry) entries

-- what holds of the entries of every list of agreed events
pub record AreAgreed (entries : List Entry) : Type 0 where
  pub in_order : AreInOrder (spans_of entries)
  pub reached : AreReached None entries

-- the agreed events, and how many more there is room for
pub record Held : Type 0 where
  pub spans : List Span
  pub room : ℕ

-- whether the events up to an entry reach an hour of its series
abbrev pub does_reach : Start → Option Entry → Bool
does_reach at None = false
does_reach at (Some entry) = is_same_series entry.span.start at && nat_le at.hour entry.reach

-- ---- the agreed events among the office's records

-- the span of an event whose code asks for an exclusion, if a concurrence in its number agrees
abbrev pub span_by : (ℕ → Bool) → OfficeRecord → Option Span
span_by agrees (Event number site pollutant first last code) =
    if asks_exclusion code && agrees number
    then Some (record { number = number; start = start_of site pollutant code first; last = last }) else None
span_by agrees r = None

abbrev pub is_agreed : List OfficeRecord → ℕ → Bool
is_agreed records number = list_any (agrees_to number) records

abbrev pub agreed_span : List OfficeRecord → OfficeRecord → Option Span
agreed_span records r = span_by (is_agreed records) r

-- the span of the event of a number, if it is agreed
abbrev pub span_at : List OfficeRecord → ℕ → Option Span
span_at records number = option_and_then (agreed_span records) (record_of records (EventKey number))

abbrev pub passes : (Span → Bool) → Option Span → Bool
passes test None = false
passes test (Some span) = test span

-- whether the span of an agreed event passes a test
abbrev pub any_agreed : (Span → Bool) → List OfficeRecord → Bool
any_agreed test records = list_any (λ r. passes test (agreed_span records r)) records

-- the spans are those of the agreed events, and no others
abbrev pub AreAgreedOf : List OfficeRecord → List Span → Type 0
AreAgreedOf records spans = (test : Span → Bool) → list_any test spans ≡ any_agreed test records

-- whether a code of the observation with this key asks for an exclusion, and an agreed event covers it
abbrev pub leaves_out : List Span → ObsKey → Code → Bool
leaves_out spans key code = asks_exclusion code && list_any (covers (start_of key.monitor.site key.monitor.pollutant code key.hour)) spans

-- the number of the event of which a key speaks
abbrev pub number_of : OfficeKey → Option ℕ
number_of (EventKey number) = Some number
number_of (ConcurrenceKey number) = Some number
number_of key = None

-- whether there is an agreed event in a record's number, and whether one is noted
abbrev pub is_agreed_in : List OfficeRecord → Option ℕ → Bool
is_agreed_in records None = false
is_agreed_in records (Some number) = is_some (span_at records number)

abbrev pub is_noted : Option ℕ → List Span → Bool
is_noted None spans = false
is_noted (Some number) spans = has_number number spans

-- the agreed events once a record is put
abbrev pub spans_put : List OfficeRecord → Option ℕ → List Span → List Span
spans_put records None spans = spans
spans_put records (Some number) spans = renewed number (span_at records number) spans

-- the agreed events once a record is dropped
abbrev pub spans_dropped : Option ℕ → List Span → List Span
spans_dropped None spans = spans
spans_dropped (Some number) spans = renewed number None spans
