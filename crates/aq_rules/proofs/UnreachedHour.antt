-- An ozone hour that reads no record and no observation that changed has the value it had. The records are changed first, over the observations of before, since these are of registered monitors; then the observations.
use Rattle.std.proofs.Common.{◌≡◌, ℕ, ◌≤◌, Bool, true, false, cond, ◌&&◌, List, [], ◌∷◌, refl, sym, ap, ◌∙◌, subst}
use Rattle.std.specs.Prelude.{Option, Some, None, is_none, option_map, nat_le, find}
use Rattle.std.specs.List.{list_any, list_all, filter, filter_map, cons_option}
use Rattle.std.proofs.lemmas.Bool.{false≢true, and_parts, and_from}
use Rattle.std.proofs.lemmas.Option.{none-some}
use Rattle.aq_base.specs.Site.{Site}
use Rattle.aq_base.specs.declared.day.TheConstants.{LAST_HOUR}
use Rattle.aq_base.specs.declared.monitor.Pollutant.TheVariants.{Ozone}
use Rattle.aq_base.specs.declared.observation.ObsKey.{ObsKey}
use Rattle.aq_base.specs.declared.observation.Observation.{Observation}
use Rattle.aq_base.specs.declared.office.OfficeRecord.{OfficeRecord}
use Rattle.aq_base.specs.declared.office.OfficeKey.TheVariants as keys
use Rattle.aq_rules.specs.Lines.Spellings.{◌>>=◌}
use Rattle.aq_rules.specs.Office.Office.{Office, IsOffice, observation_rank, observation_numbers, row_at, rises, is_same, fits_monitors, duration_at, monitor_duration, is_kept_hour, is_content}
use Rattle.aq_rules.specs.Office.Questions.{record_of}
use Rattle.aq_rules.specs.Office.RowOrder.{filter-rises}
use Rattle.aq_rules.specs.Office.Sameness.{site_itself, number_itself}
use Rattle.aq_rules.specs.Ozone.SiteHour.{is_ozone_at, sample_of, samples_at, is_of_poc, chosen, site_hour}
use Rattle.aq_rules.specs.Kept.Cells.{HourCell, is_same_cell}
use Rattle.aq_rules.specs.Kept.Reach.{ChangedObservation, cells_reading, reads, reach}
use Rattle.aq_rules.proofs.Found.{some_is, find-passes}
use Rattle.aq_rules.proofs.Lookups.{same-is, none-behind, rises-rest, one_list}
use Rattle.aq_rules.proofs.OtherHours.{site_hour-own}
use Rattle.aq_rules.proofs.Unreached.{ReadsAt, SameWhereRead, is_new_in, is_at-parts, excluded-unreached, eligible-unreached}
use Rattle.aq_rules.proofs.UnreachedPrimary.{primary-unreached}
use Rattle.aq_rules.proofs.UnreachedRows.{record-unreached, row-unreached, unread}

pub hour-itself : (site : Site) (hour : ℕ) → is_same_cell (HourCell site hour) (HourCell site hour) ≡ true
hour-itself site hour = and_from _ _ (number_itself hour) (site_itself site)

hour-reads : (records : List OfficeRecord) (site : Site) (hour : ℕ) → ReadsAt (HourCell site hour) records site Ozone hour
hour-reads records site hour = rw (hour-itself site hour) refl

-- ---- of rows in rising order, those that are kept

abbrev keep_if : {X : Type 0} → (X → Bool) → Option X → Option X
keep_if keep None = None
keep_if keep (Some r) = cond (keep r) (Some r) None

module _ {X : Type 0} (rank : X → List ℕ) (keep : X → Bool) where
  row-filtered : (k : List ℕ) (xs : List X) → rises rank xs ≡ true → row_at rank k (filter keep xs) ≡ keep_if keep (row_at rank k xs)
  row-filtered k [] up = refl
  row-filtered k (x ∷ xs) up = by (keep x) (is_same (rank x) k) refl refl (row-filtered k xs (rises-rest rank x xs up))
    where
      by : (b c : Bool) → keep x ≡ b → is_same (rank x) k ≡ c → row_at rank k (filter keep xs) ≡ keep_if keep (row_at rank k xs)
          → row_at rank k (cond b (x ∷ filter keep xs) (filter keep xs)) ≡ keep_if keep (cond c (Some x) (row_at rank k xs))
      by true true keeps here rest = rw (here, keeps) refl
      by true false keeps here rest = rw here rest
      by false true keeps here rest =
          rest ∙ ap (keep_if keep) (ap (λ (l : List ℕ). row_at rank l xs) (sym (same-is (rank x) k here)) ∙ none-behind rank x xs up) ∙ rw keeps refl
      by false false keeps here rest = rest

  -- a row that is kept, found in one of two lists, is found in both
  abbrev IsFoundAlike : Option X → Option X → Option X → Type 0
  IsFoundAlike o a b = (r : X) → o ≡ Some r → keep r ≡ true → a ≡ b

  kept-alike : (a b : Option X) → IsFoundAlike a a b → IsFoundAlike b a b → keep_if keep a ≡ keep_if keep b
  kept-alike None None first second = refl
  kept-alike (Some r) b first second = by (keep r) refl b first second
    where
      by : (c : Bool) → keep r ≡ c → (b : Option X) → IsFoundAlike (Some r) (Some r) b → IsFoundAlike b (Some r) b → cond c (Some r) None ≡ keep_if keep b
      by true keeps b first second = subst (λ (o : Option X). Some r ≡ keep_if keep o) (first r refl keeps) (rw keeps refl)
      by false keeps None first second = refl
      by false keeps (Some s) first second = choose (keep s) refl
        where
          choose : (d : Bool) → keep s ≡ d → None ≡ cond d (Some s) None
          choose true also = absurd (false≢true (sym keeps ∙ ap keep (some_is r s (second s refl also)) ∙ also))
          choose false also = refl
  kept-alike None (Some s) first second = by (keep s) refl
    where
      by : (d : Bool) → keep s ≡ d → None ≡ cond d (Some s) None
      by true also = absurd (none-some s (second s refl also))
      by false also = refl

-- ---- observations are of registered monitors

same-given : {X Y : Type 0} (fits : X → Bool) (f g : X → Option Y) → ((x : X) → fits x ≡ true → f x ≡ g x) → (xs : List X) → list_all fits xs ≡ true → filter_map f xs ≡ filter_map g xs
same-given fits f g same [] all = refl
same-given fits f g same (x ∷ xs) all =
    let parts = and_parts (fits x) (list_all fits xs) all in
    λ i. cons_option (same x parts.0 i) (same-given fits f g same xs parts.1 i)

registered-by : (o : Option OfficeRecord) (hour : ℕ) → is_kept_hour (o >>= monitor_duration) hour ≡ true → is_none o ≡ false
registered-by None hour kept = absurd (false≢true kept)
registered-by (Some r) hour kept = refl

registered : (office : Office) (entry : ObsKey × Observation) → fits_monitors office entry ≡ true → is_new_in office.records (keys.Monitor entry.0.monitor) ≡ false
registered office entry fits =
    let whole = and_parts (nat_le entry.0.hour LAST_HOUR && is_kept_hour (duration_at office entry.0.monitor) entry.0.hour) (is_content entry.0.monitor.pollutant entry.1) fits in
    registered-by (record_of office.records (keys.Monitor entry.0.monitor)) entry.0.hour
    (and_parts (nat_le entry.0.hour LAST_HOUR) (is_kept_hour (duration_at office entry.0.monitor) entry.0.hour) whole.0).1

-- ---- the hour

module _ (a b : Office) (site : Site) (hour : ℕ) (profile : hour ≤ LAST_HOUR) (valid : IsOffice a) (after : IsOffice b)
    (same : SameWhereRead (HourCell site hour) a.records a.records b.records) (back : SameWhereRead (HourCell site hour) a.records b.records a.records)
    (observed : (key : ObsKey) → is_ozone_at site hour key ≡ true → row_at observation_rank (observation_numbers key) a.observations ≡ row_at observation_rank (observation_numbers key) b.observations) where
  abbrev at_hour : ObsKey × Observation → Bool
  at_hour entry = is_ozone_at site hour entry.0

  -- the records of after, with the observations of before
  abbrev between : Office
  between = record { records = b.records; observations = a.observations; loads = [] }

  entry-same : (entry : ObsKey × Observation) → fits_monitors a entry ≡ true → sample_of a site hour entry ≡ sample_of between site hour entry
  entry-same entry fits = by (at_hour entry) refl
    where
      by : (c : Bool) → at_hour entry ≡ c → sample_of a site hour entry ≡ sample_of between site hour entry
      by true here =
          let place = is_at-parts site Ozone hour entry.0 here in
          let eligible = eligible-unreached (HourCell site hour) a.records a.records b.records site Ozone hour (hour-reads a.records site hour) (hour-reads b.records site hour)
          valid.keys_rise.records after.keys_rise.records same back profile entry.0.monitor place.at_site place.of_pollutant (registered a entry fits) in
          let out = excluded-unreached (HourCell site hour) a.records a.records b.records site Ozone hour (hour-reads a.records site hour) (hour-reads b.records site hour)
          valid.keys_rise.records after.keys_rise.records same back entry.0 entry.1.quals here in
          λ i. cond (at_hour entry && eligible i) (option_map (λ value. record { poc = entry.0.monitor.poc; cell = record { value = value; excluded = out i } }) entry.1.value) None
      by false other = rw other refl

  samples-same : samples_at a site hour ≡ samples_at between site hour
  samples-same = same-given (fits_monitors a) (sample_of a site hour) (sample_of between site hour) entry-same a.observations valid.observations_fit

  hour-between : site_hour a site hour ≡ site_hour between site hour
  unfolding site_hour
  hour-between =
      let primary = primary-unreached (HourCell site hour) a.records a.records b.records site Ozone hour profile (hour-reads a.records site hour) (hour-reads b.records site hour)
      valid.keys_rise.records after.keys_rise.records same back in
      λ i. chosen (find (is_of_poc (primary i)) (samples-same i)) (samples-same i)

  found-alike : (k : List ℕ) (o : Option (ObsKey × Observation)) (rows : List (ObsKey × Observation)) → row_at observation_rank k rows ≡ o
      → IsFoundAlike observation_rank at_hour o (row_at observation_rank k a.observations) (row_at observation_rank k b.observations)
  found-alike k o rows is r found keeps =
      let e : observation_rank r ≡ k = same-is (observation_rank r) k (find-passes (λ row. is_same (observation_rank row) k) rows r (is ∙ found)) in
      subst (λ (l : List ℕ). row_at observation_rank l a.observations ≡ row_at observation_rank l b.observations) e (observed r.0 keeps)

  entries-same : filter at_hour a.observations ≡ filter at_hour b.observations
  entries-same =
      one_list observation_rank (filter at_hour a.observations) (filter at_hour b.observations)
      (filter-rises observation_rank at_hour a.observations valid.keys_rise.observations) (filter-rises observation_rank at_hour b.observations after.keys_rise.observations)
      (λ k. row-filtered observation_rank at_hour k a.observations valid.keys_rise.observations
      ∙ kept-alike observation_rank at_hour (row_at observation_rank k a.observations) (row_at observation_rank k b.observations)
      (found-alike k (row_at observation_rank k a.observations) a.observations refl) (found-alike k (row_at observation_rank k b.observations) b.observations refl)
      ∙ sym (row-filtered observation_rank at_hour k b.observations after.keys_rise.observations))

  site_hour-unreached : site_hour a site hour ≡ site_hour b site hour
  site_hour-unreached = hour-between ∙ site_hour-own between b site hour refl entries-same

-- ---- what is not in reach

observation-read : (records : List OfficeRecord) (site : Site) (hour : ℕ) (key : ObsKey) → is_ozone_at site hour key ≡ true → reads records (HourCell site hour) (ChangedObservation key) ≡ true
unfolding reads cells_reading
observation-read records site hour key here =
    let place = is_at-parts site Ozone hour key here in
    rw (place.of_pollutant, place.at_site, place.at_hour, hour-itself site hour) refl

pub hour-out_of_reach : (a b : Office) (site : Site) (hour : ℕ) → hour ≤ LAST_HOUR → IsOffice a → IsOffice b
    → list_any (is_same_cell (HourCell site hour)) (reach a b) ≡ false → site_hour a site hour ≡ site_hour b site hour
hour-out_of_reach a b site hour profile valid after out =
    let none = unread a b (HourCell site hour) out in
    site_hour-unreached a b site hour profile valid after
    (λ key is_read. record-unreached a b (HourCell site hour) a.records none.0 key is_read)
    (λ key is_read. sym (record-unreached a b (HourCell site hour) b.records none.1 key is_read))
    (λ key here. row-unreached a b (HourCell site hour) a.records none.0 key (observation-read a.records site hour key here))
