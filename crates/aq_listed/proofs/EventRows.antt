-- The rows of a site's events, by the marks of the site, are the book's.
use Rattle.std.proofs.Common.{◌≡◌, ℕ, Bool, true, false, ◌&&◌, List, [], ◌∷◌, cond, map, Option, Some, None, refl, ap, sym, ◌∙◌, arith}
use Rattle.std.specs.Prelude.{filter_map, nat_le, IfSome}
use Rattle.std.specs.List.{cons_option, list_all}
use Rattle.std.proofs.lemmas.Bool.{false≢true}
use Rattle.std.proofs.lemmas.Bool.Decides.{nat_tests}
use Rattle.aq_base.specs.Quals.{has_code}
use Rattle.aq_base.specs.Site.{Site}
use Rattle.aq_base.specs.declared.code.Code.{Code}
use Rattle.aq_base.specs.declared.day.TheConstants.{LAST_HOUR}
use Rattle.aq_base.specs.declared.monitor.Pollutant.{Pollutant}
use Rattle.aq_base.specs.declared.observation.ObsKey.{ObsKey}
use Rattle.aq_base.specs.declared.observation.Observation.{Observation}
use Rattle.aq_base.specs.declared.office.OfficeRecord.{OfficeRecord}
use Rattle.aq_base.specs.declared.office.OfficeRecord.TheVariants.{Event}
use Rattle.aq_rules.specs.Lines.OfficeForms.{is_span}
use Rattle.aq_rules.specs.Lines.Spellings.{is_event_code}
use Rattle.aq_rules.specs.Office.Exclusion.{asks_exclusion}
use Rattle.aq_rules.specs.Office.Monitors.{is_same_site, is_same_pollutant}
use Rattle.aq_rules.specs.Office.Office.{fits_records, group_size, has_its_event, has_its_monitor, is_content_of, is_key, is_site, key_of, most_in_group}
use Rattle.aq_rules.specs.Office.Sameness as sameness
use Rattle.aq_rules.specs.Listed.Events.{StandingEvent, agreement_of, event_by, events_of, is_flagged_by, listed_event, listed_events}
use Rattle.aq_registry.specs.Registry.{office_with}
use Rattle.aq_series.specs.OfficeView.{office_of}
use Rattle.aq_listed.specs.EventWords.{listed_by}
use Rattle.aq_listed.specs.Marks.{is_asked, lies_between, AreMarksOf}
use Rattle.aq_listed.specs.declared.marks.Mark.{Mark}
use Rattle.aq_listed.proofs.Counted.{count-same}

and-both : (a b : Bool) → (a && b) ≡ true → (a ≡ true) × (b ≡ true)
and-both true b h = (refl, h)
and-both false b h = absurd (false≢true h)

-- the code of a record that stands asks for an exclusion
event-asks : (records : List OfficeRecord) (number : ℕ) (site : Site) (pollutant : Pollutant) (first last : ℕ) (code : Code)
    → fits_records (office_with records) (Event number site pollutant first last code) ≡ true → asks_exclusion code ≡ true
event-asks records number site pollutant first last code fits =
    let r = Event number site pollutant first last code in
    let office = office_with records in
    let three = (and-both (is_key (key_of r) && is_content_of r && has_its_monitor office r && has_its_event office r) (nat_le (group_size office r) (most_in_group r)) fits).0 in
    let two = (and-both (is_key (key_of r) && is_content_of r && has_its_monitor office r) (has_its_event office r) three).0 in
    let one = (and-both (is_key (key_of r) && is_content_of r) (has_its_monitor office r) two).0 in
    let content = (and-both (is_key (key_of r)) (is_content_of r) one).1 in
    let event_code = (and-both (is_site site && nat_le last LAST_HOUR && is_span first last) (is_event_code code) content).1 in
    by event_code
  where
    by : is_event_code code ≡ true → asks_exclusion code ≡ true
    by h = grind (arith, nat_tests)

regroup : (s p a b h : Bool) → (s && (p && (true && h) && (a && b))) ≡ (s && p && a && b && h)
regroup false p a b h = refl
regroup true false a b h = refl
regroup true true false b true = refl
regroup true true false b false = refl
regroup true true true false true = refl
regroup true true true false false = refl
regroup true true true true true = refl
regroup true true true true false = refl

module _ (records : List OfficeRecord) (rows : List (ObsKey × Observation)) (marks : List Mark) (site : Site) (are : AreMarksOf site rows marks) where
  same_row : (event : StandingEvent) → asks_exclusion event.code ≡ true → event.site ≡ site → listed_by records marks event ≡ listed_event (office_of records rows) event
  unfolding agreement_of
  same_row event asks here =
      ap (λ n. record { event = event; agreed = agreement_of (office_with records) event.number; flagged = n })
      (are event.pollutant event.code (lies_between event.first event.last) ∙ count-same (is_asked site event.pollutant event.code (lies_between event.first event.last)) (is_flagged_by event) each rows)
    where
      each : (row : ObsKey × Observation) → is_asked site event.pollutant event.code (lies_between event.first event.last) row ≡ is_flagged_by event row
      each row =
          ap (λ a. is_same_site row.0.monitor.site site && (is_same_pollutant row.0.monitor.pollutant event.pollutant && (a && has_code event.code row.1.quals) && lies_between event.first event.last row.0.hour)) asks
          ∙ ap (λ s. is_same_site row.0.monitor.site s && (is_same_pollutant row.0.monitor.pollutant event.pollutant && (true && has_code event.code row.1.quals) && lies_between event.first event.last row.0.hour)) (sym here)
          ∙ regroup (is_same_site row.0.monitor.site event.site) (is_same_pollutant row.0.monitor.pollutant event.pollutant) (nat_le event.first row.0.hour) (nat_le row.0.hour event.last) (has_code event.code row.1.quals)

  Same : StandingEvent → Type 0
  Same event = listed_by records marks event ≡ listed_event (office_of records rows) event

  given : (r : OfficeRecord) → fits_records (office_with records) r ≡ true → IfSome (event_by site r) Same
  unfolding Same
  given (Event number other pollutant first last code) fits = at (is_same_site other site) refl
    where
      at : (b : Bool) → is_same_site other site ≡ b → IfSome (cond b (Some (record { number = number; site = other; pollutant = pollutant; first = first; last = last; code = code })) None) Same
      at true same = same_row (record { number = number; site = other; pollutant = pollutant; first = first; last = last; code = code }) (event-asks records number other pollutant first last code fits) (sameness.same_site other site same)
      at false same = tt
  given r fits = tt

  one : (o : Option StandingEvent) (events : List StandingEvent) → IfSome o Same
      → map (listed_by records marks) events ≡ map (listed_event (office_of records rows)) events
      → map (listed_by records marks) (cons_option o events) ≡ map (listed_event (office_of records rows)) (cons_option o events)
  unfolding Same
  one None events same rest = rest
  one (Some event) events same rest = λ i. same i ∷ rest i

  each_row : (rs : List OfficeRecord) → list_all (fits_records (office_with records)) rs ≡ true
      → map (listed_by records marks) (filter_map (event_by site) rs) ≡ map (listed_event (office_of records rows)) (filter_map (event_by site) rs)
  each_row [] fits = refl
  each_row (r ∷ rs) fits =
      let both = and-both (fits_records (office_with records) r) (list_all (fits_records (office_with records)) rs) fits in
      one (event_by site r) (filter_map (event_by site) rs) (given r both.0) (each_row rs both.1)

  pub rows-are : list_all (fits_records (office_with records)) records ≡ true
      → map (listed_by records marks) (events_of (office_with records) site) ≡ listed_events (office_of records rows) site
  unfolding events_of listed_events
  rows-are fits = each_row records fits
