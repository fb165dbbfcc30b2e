-- A site hour does not depend on the order of the observations.
use Rattle.std.proofs.Common.{◌≡◌, ℕ, ◌≤◌, Bool, true, false, cond, ◌&&◌, ◌||◌, List, [], ◌∷◌, length, map, refl, sym, ap, ◌∙◌, arith}
use Rattle.std.specs.List.{filter, filter_map, cons_option, find, slice_get, count_by}
use Rattle.std.specs.List.Sorted.{IsPermutation}
use Rattle.std.specs.Prelude.{Option, Some, None, option_map, ℤ, ◌==◌}
use Rattle.aq_base.specs.Calendar.{day_of_hour}
use Rattle.aq_base.specs.Site.{Site}
use Rattle.aq_base.specs.declared.monitor.Pollutant.TheVariants.{Ozone}
use Rattle.aq_base.specs.declared.observation.ObsKey.{ObsKey}
use Rattle.aq_base.specs.declared.observation.Observation.{Observation}
use Rattle.aq_base.specs.declared.office.OfficeRecord.{OfficeRecord}
use Rattle.aq_rules.specs.Office.Office.{Office}
use Rattle.aq_rules.specs.Office.Monitors.{is_same_site, is_same_pollutant, is_same_key, is_eligible}
use Rattle.aq_rules.specs.Office.Designation.{primary_on}
use Rattle.aq_rules.specs.Ozone.SiteHour.{Cell, Sample, sample_of, samples_at, is_ozone_at, mean_of, is_of_poc, chosen, site_hour}
use Rattle.aq_rules.specs.Office.Season.{season_of, is_in_season}
use Rattle.aq_rules.specs.Office.Approval.{is_approved}
use Rattle.aq_rules.specs.Ozone.EightHour.{window}
use Rattle.aq_rules.specs.Ozone.OzoneDay.{OzoneDay, ozone_day}
use Rattle.aq_rules.specs.Ozone.OzoneYear.{OzoneYear, days_of, ozone_days, ranked_maxima, fourth_of, ozone_year}
use Rattle.aq_rules.proofs.DaysInOrder.{mean-any_order}
use Rattle.aq_rules.proofs.Ranges.{window-same, ozone_day-same}
use Rattle.aq_rules.proofs.Order.{filter_map-moved, one_order}

-- ---- the primary's sample, of which there is one at most

abbrev kept : Option ℕ → Sample → Option Sample
kept poc sample = cond (is_of_poc poc sample) (Some sample) None

find-kept : (poc : Option ℕ) (samples : List Sample) → find (is_of_poc poc) samples ≡ slice_get (filter_map (kept poc) samples) 0
find-kept poc [] = refl
find-kept poc (sample ∷ samples) =
    elim (is_of_poc poc sample) as (λ b. cond b (Some sample) (find (is_of_poc poc) samples) ≡ slice_get (cons_option (cond b (Some sample) None) (filter_map (kept poc) samples)) 0)
    [ true ↦ refl | false ↦ find-kept poc samples ]

chosen-by : (primary : Option Sample) (xs ys : List Sample) → mean_of xs ≡ mean_of ys → chosen primary xs ≡ chosen primary ys
chosen-by None xs ys same = same
chosen-by (Some sample) xs ys same = refl

chosen-any_order : (poc : Option ℕ) (xs ys : List Sample) → length (filter_map (kept poc) xs) ≤ 1 → IsPermutation xs ys
    → chosen (find (is_of_poc poc) xs) xs ≡ chosen (find (is_of_poc poc) ys) ys
chosen-any_order poc xs ys one moved =
    let found : find (is_of_poc poc) xs ≡ find (is_of_poc poc) ys =
    find-kept poc xs
    ∙ ap (λ (l : List Sample). slice_get l 0) (sym (one_order (filter_map (kept poc) xs) (filter_map (kept poc) ys) one (filter_map-moved (kept poc) xs ys moved)))
    ∙ sym (find-kept poc ys)
    in
    ap (λ (o : Option Sample). chosen o xs) found ∙ chosen-by (find (is_of_poc poc) ys) xs ys (mean-any_order xs ys moved)

-- ---- distinct keys leave one sample of a POC

abbrev pub Entry : Type 0
Entry = ObsKey × Observation

abbrev key_at : Site → ℕ → ℕ → ObsKey
key_at site hour poc = record { monitor = record { site = site; pollutant = Ozone; poc = poc }; hour = hour }

same_key : (p s h e c : Bool) → ((p && s && h) && e) ≡ true → c ≡ true → ((s && p && c) && h) ≡ true
same_key p s h e c both poc = grind arith

entry_bound : (poc : ℕ) (of : ℤ → Sample) (b c k : Bool) (value : Option ℤ) (entry : Entry) (samples : List Sample) (entries : List Entry)
    → ((v : ℤ) → is_of_poc (Some poc) (of v) ≡ c) → (b ≡ true → c ≡ true → k ≡ true)
    → length (filter_map (kept (Some poc)) samples) ≤ length entries
    → length (filter_map (kept (Some poc)) (cons_option (cond b (option_map of value) None) samples)) ≤ length (cond k (entry ∷ entries) entries)
entry_bound poc of false c true value entry samples entries is key so_far = omega arith
entry_bound poc of false c false value entry samples entries is key so_far = so_far
entry_bound poc of true c true None entry samples entries is key so_far = omega arith
entry_bound poc of true c false None entry samples entries is key so_far = so_far
entry_bound poc of true true true (Some v) entry samples entries is key so_far = let e = is v in rw e (omega arith)
entry_bound poc of true true false (Some v) entry samples entries is key so_far = let h = key refl refl in cc
entry_bound poc of true false true (Some v) entry samples entries is key so_far = let e = is v in rw e (omega arith)
entry_bound poc of true false false (Some v) entry samples entries is key so_far = let e = is v in rw e so_far

bound : (office : Office) (site : Site) (hour poc : ℕ) (entries : List Entry)
    → length (filter_map (kept (Some poc)) (filter_map (sample_of office site hour) entries)) ≤ length (filter (λ (e : Entry). is_same_key e.0 (key_at site hour poc)) entries)
bound office site hour poc [] = omega arith
bound office site hour poc (entry ∷ entries) =
    entry_bound poc _ (is_ozone_at site hour entry.0 && is_eligible office.records entry.0.monitor) (entry.0.monitor.poc == poc) (is_same_key entry.0 (key_at site hour poc))
    entry.1.value entry (filter_map (sample_of office site hour) entries) (filter (λ (e : Entry). is_same_key e.0 (key_at site hour poc)) entries)
    (λ v. refl) (λ fits same. same_key (is_same_pollutant entry.0.monitor.pollutant Ozone) (is_same_site entry.0.monitor.site site) (entry.0.hour == hour) (is_eligible office.records entry.0.monitor) (entry.0.monitor.poc == poc) fits same) (bound office site hour poc entries)

none_kept : (samples : List Sample) → filter_map (kept None) samples ≡ []
none_kept [] = refl
none_kept (sample ∷ samples) = none_kept samples

one_kept : (office : Office) (site : Site) (hour : ℕ) (poc : Option ℕ)
    → ((key : ObsKey) → length (filter (λ (e : Entry). is_same_key e.0 key) office.observations) ≤ 1)
    → length (filter_map (kept poc) (samples_at office site hour)) ≤ 1
one_kept office site hour None distinct = rw (none_kept (samples_at office site hour)) (omega arith)
one_kept office site hour (Some poc) distinct =
    omega (arith, bound office site hour poc office.observations, distinct (key_at site hour poc))

-- ---- the law

-- a site hour, by the records and the observations alone
abbrev pub hour_by : List OfficeRecord → List Entry → Site → ℕ → Option Cell
hour_by records entries site hour =
    chosen
    (find (is_of_poc (primary_on records site Ozone (day_of_hour hour))) (filter_map (sample_of (record { records = records; observations = []; loads = [] }) site hour) entries))
    (filter_map (sample_of (record { records = records; observations = []; loads = [] }) site hour) entries)

pub site_hour-any_order : (a b : Office) (site : Site) (hour : ℕ) → a.records ≡ b.records → IsPermutation a.observations b.observations
    → ((key : ObsKey) → length (filter (λ (e : Entry). is_same_key e.0 key) a.observations) ≤ 1)
    → site_hour a site hour ≡ site_hour b site hour
unfolding site_hour
site_hour-any_order a b site hour records moved distinct =
    let first : hour_by a.records a.observations site hour ≡ hour_by a.records b.observations site hour =
    chosen-any_order (primary_on a.records site Ozone (day_of_hour hour)) (samples_at a site hour) (filter_map (sample_of a site hour) b.observations)
    (one_kept a site hour (primary_on a.records site Ozone (day_of_hour hour)) distinct)
    (filter_map-moved (sample_of a site hour) a.observations b.observations moved)
    in
    let second : hour_by a.records b.observations site hour ≡ hour_by b.records b.observations site hour =
    ap (λ (r : List OfficeRecord). hour_by r b.observations site hour) records
    in
    first ∙ second

pub window-any_order : (a b : Office) (site : Site) (start : ℕ) → a.records ≡ b.records → IsPermutation a.observations b.observations
    → ((key : ObsKey) → length (filter (λ (e : Entry). is_same_key e.0 key) a.observations) ≤ 1)
    → window a site start ≡ window b site start
window-any_order a b site start records moved distinct =
    window-same a b site start (λ hour from to. site_hour-any_order a b site hour records moved distinct)

pub ozone_day-any_order : (a b : Office) (site : Site) (day : ℕ) → a.records ≡ b.records → IsPermutation a.observations b.observations
    → ((key : ObsKey) → length (filter (λ (e : Entry). is_same_key e.0 key) a.observations) ≤ 1)
    → ozone_day a site day ≡ ozone_day b site day
ozone_day-any_order a b site day records moved distinct =
    ozone_day-same a b site day (λ hour from to. site_hour-any_order a b site hour records moved distinct)

-- a year, by the records and its days
abbrev year_by : List OfficeRecord → (ℕ → OzoneDay) → Site → ℕ → OzoneYear
year_by records day_at site year = record {
  season_days = count_by (λ day. is_in_season (season_of records site year) day) (days_of year);
  season_valid = count_by (λ day. is_in_season (season_of records site year) day && ((day_at day).valid || is_approved records site day)) (days_of year);
  ranked = length (ranked_maxima (map day_at (days_of year)));
  fourth = fourth_of (ranked_maxima (map day_at (days_of year)));
}

pub ozone_year-any_order : (a b : Office) (site : Site) (year : ℕ) → a.records ≡ b.records → IsPermutation a.observations b.observations
    → ((key : ObsKey) → length (filter (λ (e : Entry). is_same_key e.0 key) a.observations) ≤ 1)
    → ozone_year a site year ≡ ozone_year b site year
unfolding ozone_year ozone_days
ozone_year-any_order a b site year records moved distinct =
    λ i. year_by (records i) (λ day. ozone_day-any_order a b site day records moved distinct i) site year
