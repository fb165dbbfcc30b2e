-- Each front of the records of a valid office is the records of one.
use Rattle.std.proofs.Common.{◌≡◌, ℕ, ◌+◌, ◌<◌, ◌≤◌, Bool, true, false, ◌&&◌, ◌||◌, cond, List, [], ◌∷◌, ◌++◌, length, refl, sym, ap, ◌∙◌, arith, append_assoc, length-append}
use Rattle.std.specs.Prelude.{Option, Some, None, is_some, ◌==◌, nat_le, nat_lt, find, count_by}
use Rattle.std.specs.Option.{option_or}
use Rattle.std.specs.Bool.{Decides, one_answer}
use Rattle.std.specs.Cmp.{IsEquivalence, decided}
use Rattle.std.specs.Set.{is_member}
use Rattle.std.specs.List.{IsDistinct, AllByRecursion}
use Rattle.std.proofs.lemmas.Map.Made.{length-le_from_is_member}
use Rattle.std.specs.List.{list_all, list_any}
use Rattle.std.proofs.lemmas.List.Sums.{sum_by-cons, sum_by-append}
use Rattle.std.proofs.lemmas.List.Folds.{list_any-append, find-append}
use Rattle.std.proofs.lemmas.Bool.Decides.{nat_tests}
use Rattle.std.proofs.lemmas.Slice.Eq.{bytes_eq-Decides}
use Rattle.std.proofs.Math.Bool.{or-false}
use Rattle.std.proofs.lemmas.Bool.{and_from, and_parts, eq-eqb, eqb-true, le-leb, leb-true}
use Rattle.aq_base.specs.Site.{Site}
use Rattle.aq_base.specs.declared.monitor.Pollutant.{Pollutant}
use Rattle.aq_base.specs.declared.monitor.Pollutant.TheVariants.{Ozone, Pm25}
use Rattle.aq_base.specs.declared.observation.ObsKey.{ObsKey}
use Rattle.aq_base.specs.declared.observation.Observation.{Observation}
use Rattle.aq_base.specs.declared.office.OfficeRecord.{OfficeRecord}
use Rattle.aq_base.specs.declared.office.OfficeRecord.TheVariants.{Monitor, Primary, Schedule, Season, Makeup, Event, Concurrence, Approved, Combined}
use Rattle.aq_rules.specs.Lines.Spellings.{◌>>=◌}
use Rattle.aq_rules.specs.Office.Office.{Office, StoredLoad, IsOffice, observation_rank, load_rank, fits_monitors, is_load, is_same, comes_before, rises_from, rises, part_numbers, kind_of, key_of, record_rank, monitor_duration, registers, has_monitor, has_its_monitor, has_its_event, group_of, group_size, most_in_group, is_record, fits_records, site_numbers, series_numbers, makes_up_on, makeups_on, combines_either, combinations_of, is_alone, with_site, sites_of}
use Rattle.aq_rules.proofs.Elements.{Every, every-to}

-- ---- the records after one have its kind or a greater one

abbrev pub kind : OfficeRecord → ℕ
kind r = kind_of (key_of r)

kind-before : (a b : ℕ) (xs ys : List ℕ) → comes_before (a ∷ xs) (b ∷ ys) ≡ true → a ≤ b
kind-before a b xs ys h = by_test (nat_lt a b) (a == b) refl refl h
  where
    by_test : (l e : Bool) → nat_lt a b ≡ l → (a == b) ≡ e → (l || (e && comes_before xs ys)) ≡ true → a ≤ b
    by_test true e p q k = let low : a < b = grind (arith, nat_tests) in omega arith
    by_test false true p q k = let same : a ≡ b = grind (arith, nat_tests) in omega arith
    by_test false false p q k = cc

kinds : (r s : OfficeRecord) → comes_before (record_rank r) (record_rank s) ≡ true → kind r ≤ kind s
kinds r s h = kind-before (kind r) (kind s) (part_numbers (key_of r)) (part_numbers (key_of s)) h

behind : (r : OfficeRecord) (records : List OfficeRecord) → rises_from record_rank r records ≡ true → Every (λ s. kind r ≤ kind s) records
behind r [] rising = tt
behind r (s ∷ records) rising =
    let parts = and_parts (comes_before (record_rank r) (record_rank s)) (rises_from record_rank s records) rising in
    let low = kinds r s parts.0 in
    (low, higher r s records low (behind s records parts.1))
  where
    higher : (r s : OfficeRecord) (ts : List OfficeRecord) → kind r ≤ kind s → Every (λ t. kind s ≤ kind t) ts → Every (λ t. kind r ≤ kind t) ts
    higher r s [] low every = tt
    higher r s (t ∷ ts) low every = (omega (arith, low, every.0), higher r s ts low every.1)

rises-rest : (r : OfficeRecord) (records : List OfficeRecord) → rises_from record_rank r records ≡ true → rises record_rank records ≡ true
rises-rest r [] rising = refl
rises-rest r (s ∷ records) rising = (and_parts (comes_before (record_rank r) (record_rank s)) (rises_from record_rank s records) rising).1

-- of records that rise, those after a front have the kind of each record of the front or a greater one
every-split : {X : Type 0} (P : X → Type 0) (xs ys : List X) → Every P (xs ++ ys) → Every P xs × Every P ys
every-split P [] ys every = (tt, every)
every-split P (x ∷ xs) ys every = let parts = every-split P xs ys every.1 in ((every.0, parts.0), parts.1)

front-kinds : (xs ys : List OfficeRecord) → rises record_rank (xs ++ ys) ≡ true → Every (λ r. Every (λ s. kind r ≤ kind s) ys) xs
front-kinds [] ys rising = tt
front-kinds (x ∷ xs) ys rising =
    ((every-split (λ s. kind x ≤ kind s) xs ys (behind x (xs ++ ys) rising)).1, front-kinds xs ys (rises-rest x (xs ++ ys) rising))

from-front : {X : Type 0} (rank : X → List ℕ) (x : X) (xs ys : List X) → rises_from rank x (xs ++ ys) ≡ true → rises_from rank x xs ≡ true
from-front rank x [] ys rising = refl
from-front rank x (y ∷ xs) ys rising =
    let parts = and_parts (comes_before (rank x) (rank y)) (rises_from rank y (xs ++ ys)) rising in
    and_from (comes_before (rank x) (rank y)) (rises_from rank y xs) parts.0 (from-front rank y xs ys parts.1)

pub rises-front : {X : Type 0} (rank : X → List ℕ) (xs ys : List X) → rises rank (xs ++ ys) ≡ true → rises rank xs ≡ true
rises-front rank [] ys rising = refl
rises-front rank (x ∷ xs) ys rising = from-front rank x xs ys rising

-- ---- what is looked for in the records is in the front

none_any : {X : Type 0} (p : X → Bool) (ys : List X) → Every (λ y. p y ≡ false) ys → list_any p ys ≡ false
none_any p [] every = refl
none_any p (y ∷ ys) every = rw (every.0, none_any p ys every.1) refl

none_found : {X : Type 0} (p : X → Bool) (ys : List X) → Every (λ y. p y ≡ false) ys → find p ys ≡ None
none_found p [] every = refl
none_found p (y ∷ ys) every = rw every.0 (none_found p ys every.1)

-- a rank of another kind
other_kind : (k : ℕ) (rest : List ℕ) (s : OfficeRecord) → k < kind s → is_same (record_rank s) (k ∷ rest) ≡ false
other_kind k rest s less = by_test (is_same (record_rank s) (k ∷ rest)) refl
  where
    by_test : (b : Bool) → is_same (record_rank s) (k ∷ rest) ≡ b → b ≡ false
    by_test false e = refl
    by_test true e =
        let same : record_rank s ≡ k ∷ rest = (bytes_eq-Decides (record_rank s) (k ∷ rest)).0 e in
        let kinds_same : kind s ≡ k = cc in
        absurd (omega (arith, kinds_same, less))

not_registers : (site : Site) (pollutant : Pollutant) (s : OfficeRecord) → 1 < kind s → registers site pollutant s ≡ false
not_registers site pollutant (Monitor id duration eligible) h = absurd (omega arith)
not_registers site pollutant (Primary a b c d) h = refl
not_registers site pollutant (Schedule a b c d e) h = refl
not_registers site pollutant (Season a b c d) h = refl
not_registers site pollutant (Makeup a b c) h = refl
not_registers site pollutant (Event a b c d e f) h = refl
not_registers site pollutant (Concurrence a b) h = refl
not_registers site pollutant (Approved a b) h = refl
not_registers site pollutant (Combined a b c d) h = refl

module _ (office : Office) (xs ys : List OfficeRecord) (is : office.records ≡ xs ++ ys) where
  abbrev pub front : Office
  front = record { records = xs; observations = []; loads = [] }

  above : (n k : ℕ) → n < k → Every (λ s. k ≤ kind s) ys → Every (λ s. n < kind s) ys
  above n k low every = every-to (λ s. k ≤ kind s) (λ s. n < kind s) (λ s h. omega (arith, low, h)) ys every

  has-front : (site : Site) (pollutant : Pollutant) → Every (λ s. 1 < kind s) ys → has_monitor office site pollutant ≡ has_monitor front site pollutant
  has-front site pollutant every =
      ap (list_any (registers site pollutant)) is ∙ list_any-append (registers site pollutant) xs ys
      ∙ ap (λ b. list_any (registers site pollutant) xs || b) (none_any (registers site pollutant) ys (every-to (λ s. 1 < kind s) (λ s. registers site pollutant s ≡ false) (λ s h. not_registers site pollutant s h) ys every))
      ∙ or-false (list_any (registers site pollutant) xs)

  or_none : {X : Type 0} (o : Option X) → option_or o None ≡ o
  or_none None = refl
  or_none (Some x) = refl

  at-front : (k : ℕ) (rest : List ℕ) → Every (λ s. k < kind s) ys
      → find (λ s. is_same (record_rank s) (k ∷ rest)) office.records ≡ find (λ s. is_same (record_rank s) (k ∷ rest)) xs
  at-front k rest every =
      ap (find (λ s. is_same (record_rank s) (k ∷ rest))) is ∙ find-append (λ s. is_same (record_rank s) (k ∷ rest)) xs ys
      ∙ ap (option_or (find (λ s. is_same (record_rank s) (k ∷ rest)) xs)) (none_found (λ s. is_same (record_rank s) (k ∷ rest)) ys (every-to (λ s. k < kind s) (λ s. is_same (record_rank s) (k ∷ rest) ≡ false) (λ s h. other_kind k rest s h) ys every))
      ∙ or_none (find (λ s. is_same (record_rank s) (k ∷ rest)) xs)

  pub monitor-front : (r : OfficeRecord) → Every (λ s. kind r ≤ kind s) ys → has_its_monitor office r ≡ true → has_its_monitor front r ≡ true
  monitor-front (Monitor id duration eligible) every h = h
  monitor-front (Primary site pollutant from poc) every h =
      let many = has-front site pollutant (above 1 2 (omega arith) every) in
      let one = ap (λ (o : Option OfficeRecord). is_some (o >>= monitor_duration)) (at-front 1 _ (above 1 2 (omega arith) every)) in
      (λ i. cond (poc == 0) (sym many i) (sym one i)) ∙ h
  monitor-front (Schedule site pollutant from interval anchor) every h = sym (has-front site pollutant (above 1 3 (omega arith) every)) ∙ h
  monitor-front (Season site year first last) every h = sym (has-front site Ozone (above 1 4 (omega arith) every)) ∙ h
  monitor-front (Makeup site missed makeup) every h = sym (has-front site Pm25 (above 1 5 (omega arith) every)) ∙ h
  monitor-front (Event number site pollutant first last code) every h = sym (has-front site pollutant (above 1 6 (omega arith) every)) ∙ h
  monitor-front (Concurrence number agreed) every h = h
  monitor-front (Approved site day) every h = sym (has-front site Ozone (above 1 8 (omega arith) every)) ∙ h
  monitor-front (Combined site pollutant from joined) every h =
      let low = above 1 9 (omega arith) every in
      let parts = and_parts (has_monitor office site pollutant) (has_monitor office joined pollutant) h in
      and_from (has_monitor front site pollutant) (has_monitor front joined pollutant) (sym (has-front site pollutant low) ∙ parts.0) (sym (has-front joined pollutant low) ∙ parts.1)

  pub event-front : (r : OfficeRecord) → Every (λ s. kind r ≤ kind s) ys → has_its_event office r ≡ true → has_its_event front r ≡ true
  event-front (Monitor id duration eligible) every h = h
  event-front (Primary site pollutant from poc) every h = h
  event-front (Schedule site pollutant from interval anchor) every h = h
  event-front (Season site year first last) every h = h
  event-front (Makeup site missed makeup) every h = h
  event-front (Event number site pollutant first last code) every h = h
  event-front (Concurrence number agreed) every h = sym (ap is_some (at-front 6 (number ∷ []) (above 6 7 (omega arith) every))) ∙ h
  event-front (Approved site day) every h = h
  event-front (Combined site pollutant from joined) every h = h

  count-front : (p : OfficeRecord → Bool) → count_by p xs ≤ count_by p office.records
  count-front p =
      let all : count_by p office.records ≡ count_by p xs + count_by p ys = ap (count_by p) is ∙ sum_by-append (λ s. cond (p s) 1 0) xs ys in
      omega (arith, all)

  fits-front : (r : OfficeRecord) → Every (λ s. kind r ≤ kind s) ys → fits_records office r ≡ true → fits_records front r ≡ true
  fits-front r every fits =
      let c = and_parts _ (nat_le (group_size office r) (most_in_group r)) fits in
      let b = and_parts _ (has_its_event office r) c.0 in
      let a = and_parts (is_record r) (has_its_monitor office r) b.0 in
      let few = leb-true (group_size office r) (most_in_group r) c.1 in
      let less = count-front (λ other. is_same (group_of other) (group_of r)) in
      and_from _ (nat_le (group_size front r) (most_in_group r))
      (and_from _ (has_its_event front r) (and_from (is_record r) (has_its_monitor front r) a.0 (monitor-front r every a.1)) (event-front r every b.1))
      (le-leb (group_size front r) (most_in_group r) (omega (arith, few, less)))

  all-fit : (rs : List OfficeRecord) → Every (λ r. Every (λ s. kind r ≤ kind s) ys) rs → list_all (fits_records office) rs ≡ true → list_all (fits_records front) rs ≡ true
  all-fit [] every fits = refl
  all-fit (r ∷ rs) every fits =
      let parts = and_parts (fits_records office r) (list_all (fits_records office) rs) fits in
      and_from (fits_records front r) (list_all (fits_records front) rs) (fits-front r every.0 parts.0) (all-fit rs every.1 parts.1)

-- ---- the sites of a front are no more than all

abbrev same_sites : Site → Site → Bool
same_sites a b = is_same (site_numbers a) (site_numbers b)

same_site-is : (a b : Site) → site_numbers a ≡ site_numbers b → a ≡ b
same_site-is a b e =
    let state : a.state ≡ b.state = cc in
    let county : a.county ≡ b.county = cc in
    let number : a.number ≡ b.number = cc in
    λ i. record { state = state i; county = county i; number = number i }

sites_decided : (a b : Site) → Decides (same_sites a b) (a ≡ b)
sites_decided a b =
    let numbers = bytes_eq-Decides (site_numbers a) (site_numbers b) in
    (λ h. same_site-is a b (numbers.0 h), λ e. numbers.1 (ap site_numbers e))

sites_laws : IsEquivalence same_sites
sites_laws = decided same_sites sites_decided

turned : (a b : Site) → same_sites a b ≡ same_sites b a
turned a b = one_answer (same_sites a b) (same_sites b a) (sites_decided a b) (
  λ h. sym ((sites_decided b a).0 h),
  λ e. (sites_decided b a).1 (sym e),
)

-- no site of these is this one
apart : (site : Site) (sites : List Site) → list_any (λ other. is_same (site_numbers other) (site_numbers site)) sites ≡ false → AllByRecursion (λ y. same_sites site y ≡ false) sites
apart site [] none = tt
apart site (other ∷ sites) none = by_test (is_same (site_numbers other) (site_numbers site)) refl none (λ h. apart site sites h)
  where
    by_test : (b : Bool) → is_same (site_numbers other) (site_numbers site) ≡ b → (b || list_any (λ o. is_same (site_numbers o) (site_numbers site)) sites) ≡ false
        → (list_any (λ o. is_same (site_numbers o) (site_numbers site)) sites ≡ false → AllByRecursion (λ y. is_same (site_numbers site) (site_numbers y) ≡ false) sites)
        → AllByRecursion (λ y. is_same (site_numbers site) (site_numbers y) ≡ false) (other ∷ sites)
    by_test true e h rest = cc
    by_test false e h rest = (turned site other ∙ e, rest h)

distinct-with : (site : Site) (sites : List Site) → IsDistinct same_sites sites → IsDistinct same_sites (with_site site sites)
unfolding IsDistinct
distinct-with site sites d = by_test (list_any (λ other. is_same (site_numbers other) (site_numbers site)) sites) refl
  where
    by_test : (b : Bool) → list_any (λ other. is_same (site_numbers other) (site_numbers site)) sites ≡ b → IsDistinct same_sites (cond b sites (site ∷ sites))
    by_test true e = d
    by_test false e = (apart site sites e, d)

distinct-sites : (records : List OfficeRecord) → IsDistinct same_sites (sites_of records)
unfolding IsDistinct
distinct-sites [] = tt
distinct-sites (Monitor id duration eligible ∷ records) = distinct-with id.site (sites_of records) (distinct-sites records)
distinct-sites (Primary a b c d ∷ records) = distinct-sites records
distinct-sites (Schedule a b c d e ∷ records) = distinct-sites records
distinct-sites (Season a b c d ∷ records) = distinct-sites records
distinct-sites (Makeup a b c ∷ records) = distinct-sites records
distinct-sites (Event a b c d e f ∷ records) = distinct-sites records
distinct-sites (Concurrence a b ∷ records) = distinct-sites records
distinct-sites (Approved a b ∷ records) = distinct-sites records
distinct-sites (Combined a b c d ∷ records) = distinct-sites records

-- a site that is there stays when another is put before
member-with : (site q : Site) (small large : List Site) → ((p : Site) → is_member same_sites small p ≡ true → is_member same_sites large p ≡ true)
    → is_member same_sites (with_site site small) q ≡ true → is_member same_sites (with_site site large) q ≡ true
member-with site q small large sub there =
    by_test (list_any (λ other. is_same (site_numbers other) (site_numbers site)) small) (list_any (λ other. is_same (site_numbers other) (site_numbers site)) large) refl there
  where
    or_keeps : (a b c : Bool) → (b ≡ true → c ≡ true) → (a || b) ≡ true → (a || c) ≡ true
    or_keeps true b c h k = refl
    or_keeps false b c h k = h k

    held : (sites : List Site) → list_any (λ other. is_same (site_numbers other) (site_numbers site)) sites ≡ true → same_sites q site ≡ true → is_member same_sites sites q ≡ true
    held [] h e = cc
    held (o ∷ sites) h e = by_first (is_same (site_numbers o) (site_numbers site)) refl h (λ k. held sites k e)
      where
        by_first : (b : Bool) → is_same (site_numbers o) (site_numbers site) ≡ b → (b || list_any (λ p. is_same (site_numbers p) (site_numbers site)) sites) ≡ true
            → (list_any (λ p. is_same (site_numbers p) (site_numbers site)) sites ≡ true → list_any (λ p. is_same (site_numbers q) (site_numbers p)) sites ≡ true)
            → (is_same (site_numbers q) (site_numbers o) || list_any (λ p. is_same (site_numbers q) (site_numbers p)) sites) ≡ true
        by_first true f k next =
            let one : site_numbers o ≡ site_numbers site = (bytes_eq-Decides (site_numbers o) (site_numbers site)).0 f in
            let two : site_numbers q ≡ site_numbers site = (bytes_eq-Decides (site_numbers q) (site_numbers site)).0 e in
            let three : is_same (site_numbers q) (site_numbers o) ≡ true = (bytes_eq-Decides (site_numbers q) (site_numbers o)).1 (two ∙ sym one) in
            rw three refl
        by_first false f k next = or_right (is_same (site_numbers q) (site_numbers o)) (next k)
          where
            or_right : (a : Bool) {b : Bool} → b ≡ true → (a || b) ≡ true
            or_right true h = refl
            or_right false h = h

    by_test : (a b : Bool) → list_any (λ other. is_same (site_numbers other) (site_numbers site)) large ≡ b
        → is_member same_sites (cond a small (site ∷ small)) q ≡ true → is_member same_sites (cond b large (site ∷ large)) q ≡ true
    by_test true true e h = sub q h
    by_test true false e h = or_keeps (same_sites q site) true (is_member same_sites large q) (λ _. sub q h) (or_true (same_sites q site))
      where
        or_true : (a : Bool) → (a || true) ≡ true
        or_true true = refl
        or_true false = refl
    by_test false true e h = first_or (same_sites q site) refl h
      where
        first_or : (a : Bool) → same_sites q site ≡ a → (a || is_member same_sites small q) ≡ true → is_member same_sites large q ≡ true
        first_or true f k = held large e f
        first_or false f k = sub q k
    by_test false false e h = or_keeps (same_sites q site) (is_member same_sites small q) (is_member same_sites large q) (sub q) h

member-front : (xs ys : List OfficeRecord) (q : Site) → is_member same_sites (sites_of xs) q ≡ true → is_member same_sites (sites_of (xs ++ ys)) q ≡ true
member-front [] ys q h = cc
member-front (Monitor id duration eligible ∷ xs) ys q h = member-with id.site q (sites_of xs) (sites_of (xs ++ ys)) (member-front xs ys) h
member-front (Primary a b c d ∷ xs) ys q h = member-front xs ys q h
member-front (Schedule a b c d e ∷ xs) ys q h = member-front xs ys q h
member-front (Season a b c d ∷ xs) ys q h = member-front xs ys q h
member-front (Makeup a b c ∷ xs) ys q h = member-front xs ys q h
member-front (Event a b c d e f ∷ xs) ys q h = member-front xs ys q h
member-front (Concurrence a b ∷ xs) ys q h = member-front xs ys q h
member-front (Approved a b ∷ xs) ys q h = member-front xs ys q h
member-front (Combined a b c d ∷ xs) ys q h = member-front xs ys q h

sites-front : (xs ys : List OfficeRecord) → length (sites_of xs) ≤ length (sites_of (xs ++ ys))
sites-front xs ys = length-le_from_is_member sites_laws (sites_of xs) (sites_of (xs ++ ys)) (distinct-sites xs) (member-front xs ys)

-- ---- make-up days and combined sites of a front

module _ (office : Office) (xs ys : List OfficeRecord) (is : office.records ≡ xs ++ ys) where
  here : (before : List OfficeRecord) (r : OfficeRecord) (rest : List OfficeRecord) (p : OfficeRecord → Bool) → xs ≡ before ++ r ∷ rest → p r ≡ true → 1 ≤ count_by p xs
  here before r rest p split passes =
      let all : count_by p xs ≡ count_by p before + count_by p (r ∷ rest) = ap (count_by p) split ∙ sum_by-append (λ s. cond (p s) 1 0) before (r ∷ rest) in
      let one : count_by p (r ∷ rest) ≡ 1 + count_by p rest = sum_by-cons (λ s. cond (p s) 1 0) r rest ∙ rw passes refl in
      omega (arith, all, one)

  own-front : (before : List OfficeRecord) (r : OfficeRecord) (rest : List OfficeRecord) → xs ≡ before ++ r ∷ rest → is_alone office r ≡ true → is_alone (front office xs ys is) r ≡ true
  own-front before (Makeup site missed makeup) rest split own =
      let p : OfficeRecord → Bool = makes_up_on site makeup in
      let itself : p (Makeup site missed makeup) ≡ true =
      and_from (is_same (site_numbers site) (site_numbers site)) (makeup == makeup) ((bytes_eq-Decides (site_numbers site) (site_numbers site)).1 refl) (eq-eqb makeup makeup refl)
      in
      let one : makeups_on office site makeup ≡ 1 = eqb-true (makeups_on office site makeup) 1 own in
      let few = count-front office xs ys is p in
      let some = here before (Makeup site missed makeup) rest p split itself in
      eq-eqb (count_by p xs) 1 (omega (arith, one, few, some))
  own-front before (Monitor a b c) rest split own = refl
  own-front before (Primary a b c d) rest split own = refl
  own-front before (Schedule a b c d e) rest split own = refl
  own-front before (Season a b c d) rest split own = refl
  own-front before (Event a b c d e f) rest split own = refl
  own-front before (Concurrence a b) rest split own = refl
  own-front before (Approved a b) rest split own = refl
  own-front before (Combined site pollutant from joined) rest split own =
      let p : OfficeRecord → Bool = combines_either site joined pollutant in
      let first : is_same (series_numbers site pollutant) (series_numbers site pollutant) ≡ true = (bytes_eq-Decides (series_numbers site pollutant) (series_numbers site pollutant)).1 refl in
      let itself : p (Combined site pollutant from joined) ≡ true = rw first refl in
      let one : combinations_of office site joined pollutant ≡ 1 = eqb-true (combinations_of office site joined pollutant) 1 own in
      let few = count-front office xs ys is p in
      let some = here before (Combined site pollutant from joined) rest p split itself in
      eq-eqb (count_by p xs) 1 (omega (arith, one, few, some))

  all-own : (before rest : List OfficeRecord) → xs ≡ before ++ rest → list_all (is_alone office) rest ≡ true → list_all (is_alone (front office xs ys is)) rest ≡ true
  all-own before [] split own = refl
  all-own before (r ∷ rest) split own =
      let parts = and_parts (is_alone office r) (list_all (is_alone office) rest) own in
      and_from (is_alone (front office xs ys is) r) (list_all (is_alone (front office xs ys is)) rest) (own-front before r rest split parts.0)
      (all-own (before ++ r ∷ []) rest (split ∙ sym (append_assoc before (r ∷ []) rest)) parts.1)

all-front : {X : Type 0} (p : X → Bool) (xs ys : List X) → list_all p (xs ++ ys) ≡ true → list_all p xs ≡ true
all-front p [] ys h = refl
all-front p (x ∷ xs) ys h = let parts = and_parts (p x) (list_all p (xs ++ ys)) h in and_from (p x) (list_all p xs) parts.0 (all-front p xs ys parts.1)

length-front : {X : Type 0} (xs ys : List X) → length xs ≤ length (xs ++ ys)
length-front xs ys = omega (arith, length-append xs ys)

-- ---- the three kinds of front

pub records-front : (office : Office) (xs ys : List OfficeRecord) → office.records ≡ xs ++ ys → IsOffice office → IsOffice (record { records = xs; observations = []; loads = [] })
records-front office xs ys is valid =
    let rising : rises record_rank (xs ++ ys) ≡ true = ap (rises record_rank) (sym is) ∙ valid.keys_rise.records in
    let fit : list_all (fits_records office) (xs ++ ys) ≡ true = ap (list_all (fits_records office)) (sym is) ∙ valid.records_fit in
    let own : list_all (is_alone office) (xs ++ ys) ≡ true = ap (list_all (is_alone office)) (sym is) ∙ valid.records_alone in
    let sites : length (sites_of office.records) ≤ 256 = valid.few_sites in
    let all : length (sites_of office.records) ≡ length (sites_of (xs ++ ys)) = ap (λ (l : List OfficeRecord). length (sites_of l)) is in
    record {
      keys_rise = record { records = rises-front record_rank xs ys rising; observations = refl; loads = refl };
      records_fit = all-fit office xs ys is xs (front-kinds xs ys rising) (all-front (fits_records office) xs ys fit);
      records_alone = all-own office xs ys is [] xs refl (all-front (is_alone office) xs ys own);
      few_sites = omega (arith, sites, all, sites-front xs ys);
      observations_fit = refl;
      few_observations = omega arith;
      loads_fit = refl;
      few_loads = omega arith;
    }

pub observations-front : (office : Office) (xs ys : List (ObsKey × Observation)) → office.observations ≡ xs ++ ys → IsOffice office → IsOffice (record { records = office.records; observations = xs; loads = office.loads })
observations-front office xs ys is valid =
    let rising : rises observation_rank (xs ++ ys) ≡ true = ap (rises observation_rank) (sym is) ∙ valid.keys_rise.observations in
    let fit : list_all (fits_monitors office) (xs ++ ys) ≡ true = ap (list_all (fits_monitors office)) (sym is) ∙ valid.observations_fit in
    let few : length office.observations ≤ 4000000 = valid.few_observations in
    record {
      keys_rise = record { records = valid.keys_rise.records; observations = rises-front observation_rank xs ys rising; loads = valid.keys_rise.loads };
      records_fit = valid.records_fit;
      records_alone = valid.records_alone;
      few_sites = valid.few_sites;
      observations_fit = all-front (fits_monitors office) xs ys fit;
      few_observations = omega (arith, few, ap length is, length-front xs ys);
      loads_fit = valid.loads_fit;
      few_loads = valid.few_loads;
    }

pub loads-front : (office : Office) (xs ys : List StoredLoad) → office.loads ≡ xs ++ ys → IsOffice office → IsOffice (record { records = office.records; observations = []; loads = xs })
loads-front office xs ys is valid =
    let rising : rises load_rank (xs ++ ys) ≡ true = ap (rises load_rank) (sym is) ∙ valid.keys_rise.loads in
    let fit : list_all is_load (xs ++ ys) ≡ true = ap (list_all is_load) (sym is) ∙ valid.loads_fit in
    let few : length office.loads ≤ 100000 = valid.few_loads in
    record {
      keys_rise = record { records = valid.keys_rise.records; observations = refl; loads = rises-front load_rank xs ys rising };
      records_fit = valid.records_fit;
      records_alone = valid.records_alone;
      few_sites = valid.few_sites;
      observations_fit = refl;
      few_observations = omega arith;
      loads_fit = all-front is_load xs ys fit;
      few_loads = omega (arith, few, ap length is, length-front xs ys);
    }
