-- The rows of a valid office give the office back.
use Rattle.std.proofs.Common.{◌≡◌, ℕ, ◌/◌, ◌%◌, Bool, true, false, ◌&&◌, cond, List, [], ◌∷◌, ◌++◌, length, map, refl, sym, ap, subst, ◌∙◌, arith, append_assoc, append-nil}
use Rattle.std.specs.Prelude.{ℤ, pos, Option, Some, None, is_some, option_map, nat_le, find, bytes_eq, ⊤}
use Rattle.std.specs.List.{list_all, filter_map, cons_option}
use Rattle.std.specs.Option.{option_eq}
use Rattle.std.specs.Ordering.{int_eq}
use Rattle.std.proofs.lemmas.Bool.Decides.{Decides-int_eq}
use Rattle.std.proofs.lemmas.List.Elements.{filter_map-append}
use Rattle.std.proofs.lemmas.Slice.Eq.{bytes_eq-Decides}
use Rattle.std.proofs.lemmas.Bool.{and_from, and_parts, leb-true}
use Rattle.aq_base.specs.Site.{Site}
use Rattle.aq_base.specs.declared.code.Code.{Code}
use Rattle.aq_base.specs.declared.day.TheConstants.{LAST_HOUR}
use Rattle.aq_base.specs.declared.monitor.MonitorId.{MonitorId}
use Rattle.aq_base.specs.declared.monitor.Pollutant.{Pollutant}
use Rattle.aq_base.specs.declared.monitor.Pollutant.TheVariants.{Ozone, Pm25, Pm10}
use Rattle.aq_base.specs.declared.observation.ObsKey.{ObsKey}
use Rattle.aq_base.specs.declared.observation.Observation.{Observation}
use Rattle.aq_base.specs.declared.office.OfficeRecord.{OfficeRecord}
use Rattle.aq_base.specs.declared.office.OfficeRecord.TheVariants.{Monitor}
use Rattle.aq_base.specs.declared.office.OfficeKey.TheVariants.{Monitor as MonitorKey}
use Rattle.aq_rules.specs.Lines.Spellings.{◌>>=◌}
use Rattle.aq_rules.specs.Office.Office.{Office, StoredLoad, IsOffice, is_same, key_numbers, record_rank, record_at, monitor_duration, duration_at, is_site, is_poc, is_record, fits_records, has_its_monitor, has_its_event, group_size, most_in_group, is_qualifier, is_measured, is_method, is_content, is_kept_hour, fits_monitors, is_load, pollutant_number}
use Rattle.aq_rules.specs.Shown.Export.{null_text}
use Rattle.aq_rules.specs.Kept.Rows.{Row, ObsRow2, OfOfficeRow, OfLoadRow, OfSecondRow, office_row, obs_row, load_row, rows_of, site_key, site_with, pollutant_with, null_of, method_of, only_if, is_obs_row, record_of_row, observation_of_row, load_of_row, record_in_row, observation_in_row, load_in_row, says_something, office_in, table_of, tables_follow, is_valid, are_office_rows, office_of_rows}
use Rattle.aq_rules.proofs.Elements.{Every, all-append, every-to}
use Rattle.aq_rules.proofs.RowTexts.{null-read, qualifiers-read}
use Rattle.aq_rules.proofs.RowsBack.{record-back, load-back}
use Rattle.aq_rules.proofs.StoredHours.{stored-back}
use Rattle.aq_rules.proofs.ValidOffice.{office-is_valid}

-- ---- the site of an observation, which has a monitor

pub is_record-of : (office : Office) (r : OfficeRecord) → fits_records office r ≡ true → is_record r ≡ true
is_record-of office r fits =
    let c = and_parts _ (nat_le (group_size office r) (most_in_group r)) fits in
    let b = and_parts _ (has_its_event office r) c.0 in
    (and_parts (is_record r) (has_its_monitor office r) b.0).0

-- the record that is found is one that fits, with the rank
abbrev pub IfFound : List ℕ → Option OfficeRecord → Type 0
IfFound key None = ⊤
IfFound key (Some r) = (is_record r ≡ true) × (is_same (record_rank r) key ≡ true)

pub found-fits : (office : Office) (key : List ℕ) (records : List OfficeRecord) → list_all (fits_records office) records ≡ true → IfFound key (find (λ r. is_same (record_rank r) key) records)
found-fits office key [] fits = tt
found-fits office key (r ∷ records) fits =
    let parts = and_parts (fits_records office r) (list_all (fits_records office) records) fits in
    by_test (is_same (record_rank r) key) refl (is_record-of office r parts.0) (found-fits office key records parts.1)
  where
    by_test : (b : Bool) → is_same (record_rank r) key ≡ b → is_record r ≡ true → IfFound key (find (λ s. is_same (record_rank s) key) records)
        → IfFound key (cond b (Some r) (find (λ s. is_same (record_rank s) key) records))
    by_test true e is rest = (is, e)
    by_test false e is rest = rest

site_of-numbers : (id other : MonitorId) → key_numbers (MonitorKey other) ≡ key_numbers (MonitorKey id) → other.site ≡ id.site
site_of-numbers id other e =
    let state : other.site.state ≡ id.site.state = cc in
    let county : other.site.county ≡ id.site.county = cc in
    let number : other.site.number ≡ id.site.number = cc in
    λ i. record { state = state i; county = county i; number = number i }

-- a monitor that stands has a site and a POC of the profile
pub monitor-named : (id : MonitorId) (o : Option OfficeRecord) (hour : ℕ) → IfFound (key_numbers (MonitorKey id)) o → is_kept_hour (o >>= monitor_duration) hour ≡ true → (is_site id.site && is_poc id.poc) ≡ true
monitor-named id None hour found kept = cc
monitor-named id (Some (Monitor other duration eligible)) hour found kept =
    let numbers : key_numbers (MonitorKey other) ≡ key_numbers (MonitorKey id) = (bytes_eq-Decides (key_numbers (MonitorKey other)) (key_numbers (MonitorKey id))).0 found.1 in
    let site = site_of-numbers id other numbers in
    let poc : other.poc ≡ id.poc = cc in
    let key = and_parts (is_site other.site && is_poc other.poc) _ found.0 in
    let P : Site → ℕ → Type 0 = λ s n. (is_site s && is_poc n) ≡ true in
    subst (λ n. P id.site n) poc (subst (λ s. P s other.poc) site key.0)
monitor-named id (Some r) hour found kept = cc

site-back : (site : Site) → is_site site ≡ true → site_with (site_key site) ≡ site
site-back site is =
    let b = and_parts (nat_le site.state 99 && nat_le site.county 999) (nat_le site.number 9999) is in
    let a = and_parts (nat_le site.state 99) (nat_le site.county 999) b.0 in
    let county = leb-true site.county 999 a.1 in
    let number = leb-true site.number 9999 b.1 in
    let s : site_key site / 10000000 ≡ site.state = omega (arith, county, number) in
    let c : site_key site / 10000 % 1000 ≡ site.county = omega (arith, county, number) in
    let n : site_key site % 10000 ≡ site.number = omega (arith, county, number) in
    λ i. record { state = s i; county = c i; number = n i }

-- ---- observations

pollutant-back : (pollutant : Pollutant) → pollutant_with (pollutant_number pollutant) ≡ Some pollutant
pollutant-back Ozone = refl
pollutant-back Pm25 = refl
pollutant-back Pm10 = refl

null-back : (pollutant : Pollutant) (value : Option ℤ) (null : Option Code) → is_measured pollutant value null ≡ true → null_of (null_text null) ≡ Some null
null-back pollutant value None h = refl
null-back pollutant None (Some code) h = null-read code h
null-back pollutant (Some v) (Some code) h = cc

method-back : (method : Option ℕ) → method_of (option_map pos method) ≡ Some method
method-back None = refl
method-back (Some method) = refl

value-itself : (value : Option ℤ) → option_eq int_eq value value ≡ true
value-itself None = refl
value-itself (Some v) = (Decides-int_eq v v).1 refl

obs_row-itself : (row : ObsRow2) → is_obs_row row row ≡ true
obs_row-itself row =
    and_from _ (bytes_eq row.quals row.quals)
    (and_from _ (bytes_eq row.null row.null)
    (and_from _ (option_eq int_eq row.method row.method)
    (and_from _ (option_eq int_eq row.value row.value)
    (and_from _ (int_eq row.hour row.hour)
    (and_from _ (int_eq row.poc row.poc)
    (and_from (int_eq row.site row.site) (int_eq row.pollutant row.pollutant) ((Decides-int_eq row.site row.site).1 refl) ((Decides-int_eq row.pollutant row.pollutant).1 refl))
    ((Decides-int_eq row.poc row.poc).1 refl))
    ((Decides-int_eq row.hour row.hour).1 refl))
    (value-itself row.value))
    (value-itself row.method))
    ((bytes_eq-Decides row.null row.null).1 refl))
    ((bytes_eq-Decides row.quals row.quals).1 refl)

-- a row that a line can spell: its site, and its content
pub record IsSpelled (o : ObsKey × Observation) : Type 0 where
  pub site : is_site o.0.monitor.site ≡ true
  pub content : is_content o.0.monitor.pollutant o.1 ≡ true

pub fitting-is_spelled : (office : Office) (o : ObsKey × Observation) → IsOffice office → fits_monitors office o ≡ true → IsSpelled o
fitting-is_spelled office o valid fits =
    let id = o.0.monitor in
    let b = and_parts _ (is_content id.pollutant o.1) fits in
    let a = and_parts (nat_le o.0.hour LAST_HOUR) (is_kept_hour (duration_at office id) o.0.hour) b.0 in
    record {
      site =
          (and_parts (is_site id.site) (is_poc id.poc)
          (monitor-named id (record_at office (MonitorKey id)) o.0.hour (found-fits office (key_numbers (MonitorKey id)) office.records valid.records_fit) a.1)).0;
      content = b.1;
    }

pub spelled-back : (o : ObsKey × Observation) → IsSpelled o → observation_of_row (obs_row o) ≡ Some o
unfolding observation_of_row
spelled-back o spelled =
    let id = o.0.monitor in
    let n = and_parts _ (is_method o.1.method) spelled.content in
    let z = and_parts _ (nat_le (length o.1.quals) 10) n.0 in
    let y = and_parts _ _ z.0 in
    let x = and_parts (is_measured id.pollutant o.1.value o.1.null) (list_all is_qualifier o.1.quals) y.0 in
    let pollutant = pollutant-back id.pollutant in
    let method = method-back o.1.method in
    let null = null-back id.pollutant o.1.value o.1.null x.0 in
    let quals = qualifiers-read o.1.quals x.1 in
    let site = site-back id.site spelled.site in
    let with_site : Site → ObsKey × Observation = λ s. (record { monitor = record { site = s; pollutant = id.pollutant; poc = id.poc }; hour = o.0.hour }, record { value = o.1.value; null = o.1.null; quals = o.1.quals; method = o.1.method }) in
    let whole : with_site (site_with (site_key id.site)) ≡ o = λ i. with_site (site i) in
    rw pollutant (rw (stored-back o.0.hour) (rw method (rw null (rw quals (ap (only_if (λ p. is_obs_row (obs_row p) (obs_row o))) whole ∙ ap (λ t. cond t (Some o) None) (obs_row-itself (obs_row o)))))))

pub observation-back : (office : Office) (o : ObsKey × Observation) → IsOffice office → fits_monitors office o ≡ true → observation_of_row (obs_row o) ≡ Some o
observation-back office o valid fits = spelled-back o (fitting-is_spelled office o valid fits)

-- ---- all rows

given : {X Y : Type 0} (read : Y → Option X) (write : X → Y) (xs : List X) → Every (λ x. read (write x) ≡ Some x) xs → filter_map read (map write xs) ≡ xs
given read write [] every = refl
given {X = X} read write (x ∷ xs) every =
    ap (λ (o : Option X). cons_option o (filter_map read (map write xs))) every.0 ∙ ap (λ (l : List X). x ∷ l) (given read write xs every.1)

none : {X Y Z : Type 0} (read : Y → Option Z) (write : X → Y) (xs : List X) → ((x : X) → read (write x) ≡ None) → filter_map read (map write xs) ≡ []
none read write [] h = refl
none {Z = Z} read write (x ∷ xs) h = ap (λ (o : Option Z). cons_option o (filter_map read (map write xs))) (h x) ∙ none read write xs h

all-said : {X Y : Type 0} (p : Y → Bool) (write : X → Y) (xs : List X) → Every (λ x. p (write x) ≡ true) xs → list_all p (map write xs) ≡ true
all-said p write [] every = refl
all-said p write (x ∷ xs) every = and_from (p (write x)) (list_all p (map write xs)) every.0 (all-said p write xs every.1)

pub every-from : {X : Type 0} (p : X → Bool) (P : X → Type 0) → ((x : X) → p x ≡ true → P x) → (xs : List X) → list_all p xs ≡ true → Every P xs
every-from p P h [] all = tt
every-from p P h (x ∷ xs) all = let parts = and_parts (p x) (list_all p xs) all in (h x parts.0, every-from p P h xs parts.1)

-- tables in order
abbrev From : ℕ → List Row → Type 0
From t rows = Every (λ row. nat_le t (table_of row) ≡ true) rows

follow-one : (row : Row) (rows : List Row) → From (table_of row) rows → tables_follow rows ≡ true → tables_follow (row ∷ rows) ≡ true
follow-one row [] from follow = refl
follow-one row (next ∷ rows) from follow = and_from (nat_le (table_of row) (table_of next)) (tables_follow (next ∷ rows)) from.0 follow

from-append : (t : ℕ) (xs ys : List Row) → From t xs → From t ys → From t (xs ++ ys)
from-append t [] ys h k = k
from-append t (x ∷ xs) ys h k = (h.0, from-append t xs ys h.1 k)

from-map : {X : Type 0} (t n : ℕ) (write : X → Row) → ((x : X) → table_of (write x) ≡ n) → nat_le t n ≡ true → (xs : List X) → From t (map write xs)
from-map t n write is low [] = tt
from-map t n write is low (x ∷ xs) = (ap (nat_le t) (is x) ∙ low, from-map t n write is low xs)

follow-map : {X : Type 0} (t : ℕ) (write : X → Row) → ((x : X) → table_of (write x) ≡ t) → nat_le t t ≡ true → (xs : List X) (rest : List Row) → From t rest → tables_follow rest ≡ true
    → tables_follow (map write xs ++ rest) ≡ true
follow-map t write is low [] rest from follow = follow
follow-map t write is low (x ∷ xs) rest from follow =
    let P : ℕ → Type 0 = λ n. From n (map write xs ++ rest) in
    follow-one (write x) (map write xs ++ rest) (subst P (sym (is x)) (from-append t (map write xs) rest (from-map t t write is low xs) from)) (follow-map t write is low xs rest from follow)

-- the row of a record, of an observation and of a load
abbrev pub R : OfficeRecord → Row
R r = OfOfficeRow (office_row r)

abbrev pub O : ObsKey × Observation → Row
O o = OfSecondRow (obs_row o)

abbrev pub L : StoredLoad → Row
L l = OfLoadRow (load_row l)

-- the rows of each kind that an office has
abbrev pub record_rows : Office → List Row
record_rows office = map R office.records

abbrev pub load_rows : Office → List Row
load_rows office = map L office.loads

abbrev pub observation_rows : Office → List Row
observation_rows office = map O office.observations

module _ (office : Office) (valid : IsOffice office) where
  records-back : Every (λ r. record_of_row (office_row r) ≡ Some r) office.records
  records-back = every-from (fits_records office) (λ r. record_of_row (office_row r) ≡ Some r) (λ r fits. record-back r (is_record-of office r fits)) office.records valid.records_fit

  observations-back : Every (λ o. observation_of_row (obs_row o) ≡ Some o) office.observations
  observations-back = every-from (fits_monitors office) (λ o. observation_of_row (obs_row o) ≡ Some o) (λ o fits. observation-back office o valid fits) office.observations valid.observations_fit

  loads-back : Every (λ l. load_of_row (load_row l) ≡ Some l) office.loads
  loads-back = every-from is_load (λ l. load_of_row (load_row l) ≡ Some l) load-back office.loads valid.loads_fit

  abbrev three : List Row
  three = map R office.records ++ map L office.loads ++ map O office.observations

  in_three : {X : Type 0} (read : Row → Option X) (a b c : List X) → filter_map read (map R office.records) ≡ a → filter_map read (map L office.loads) ≡ b → filter_map read (map O office.observations) ≡ c
      → filter_map read three ≡ a ++ b ++ c
  in_three read a b c ra rb rc =
      filter_map-append read (map R office.records ++ map L office.loads) (map O office.observations)
      ∙ ap (λ l. l ++ filter_map read (map O office.observations)) (filter_map-append read (map R office.records) (map L office.loads))
      ∙ (λ i. ra i ++ rb i ++ rc i)

  office-in : office_in three ≡ office
  office-in =
      let records : filter_map record_in_row three ≡ office.records =
      in_three record_in_row office.records [] [] (given record_in_row R office.records records-back) (none record_in_row L office.loads (λ l. refl)) (none record_in_row O office.observations (λ o. refl))
      ∙ append-nil (office.records ++ []) ∙ append-nil office.records
      in
      let observations : filter_map observation_in_row three ≡ office.observations =
      in_three observation_in_row [] [] office.observations (none observation_in_row R office.records (λ r. refl)) (none observation_in_row L office.loads (λ l. refl)) (given observation_in_row O office.observations observations-back)
      in
      let loads : filter_map load_in_row three ≡ office.loads =
      in_three load_in_row [] office.loads [] (none load_in_row R office.records (λ r. refl)) (given load_in_row L office.loads loads-back) (none load_in_row O office.observations (λ o. refl))
      ∙ append-nil office.loads
      in
      λ i. record { records = records i; observations = observations i; loads = loads i }

  said : list_all says_something three ≡ true
  said =
      all-append says_something (map R office.records ++ map L office.loads) (map O office.observations)
      (all-append says_something (map R office.records) (map L office.loads)
      (all-said says_something R office.records (every-to (λ r. record_of_row (office_row r) ≡ Some r) (λ r. is_some (record_of_row (office_row r)) ≡ true) (λ r e. ap is_some e) office.records records-back))
      (all-said says_something L office.loads (every-to (λ l. load_of_row (load_row l) ≡ Some l) (λ l. is_some (load_of_row (load_row l)) ≡ true) (λ l e. ap is_some e) office.loads loads-back)))
      (all-said says_something O office.observations (every-to (λ o. observation_of_row (obs_row o) ≡ Some o) (λ o. is_some (observation_of_row (obs_row o)) ≡ true) (λ o e. ap is_some e) office.observations observations-back))

  follow : tables_follow three ≡ true
  follow =
      let observations : tables_follow (map O office.observations ++ []) ≡ true = follow-map 3 O (λ o. refl) refl office.observations [] tt refl in
      let last : tables_follow (map O office.observations) ≡ true = ap tables_follow (sym (append-nil (map O office.observations))) ∙ observations in
      let rest : tables_follow (map L office.loads ++ map O office.observations) ≡ true =
      follow-map 2 L (λ l. refl) refl office.loads (map O office.observations) (from-map 2 3 O (λ o. refl) refl office.observations) last
      in
      ap tables_follow (append_assoc (map R office.records) (map L office.loads) (map O office.observations))
      ∙ follow-map 0 R (λ r. refl) refl office.records (map L office.loads ++ map O office.observations)
      (from-append 0 (map L office.loads) (map O office.observations) (from-map 0 2 L (λ l. refl) refl office.loads) (from-map 0 3 O (λ o. refl) refl office.observations)) rest

  pub rows-are : are_office_rows (rows_of office) ≡ true
  unfolding are_office_rows rows_of
  rows-are =
      and_from (list_all says_something three && tables_follow three) (is_valid (office_in three))
      (and_from (list_all says_something three) (tables_follow three) said follow) (ap is_valid office-in ∙ office-is_valid office valid)

  pub office-back : office_of_rows (rows_of office) ≡ Some office
  unfolding office_of_rows rows_of
  office-back = ap (λ b. cond b (Some (office_in three)) None) rows-are ∙ ap (λ (o : Office). Some o) office-in
