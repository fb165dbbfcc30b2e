-- The registered sites in rising order, one after another as the records are asked for them.
use Rattle.std.proofs.Common.{◌≡◌, ℕ, Bool, true, false, cond, not, ◌&&◌, ◌||◌, ◌==◌, Option, Some, None, List, [], ◌∷◌, length, ◌≤◌, refl, ap, sym, subst, ◌∙◌, arith, inl, inr}
use Rattle.std.specs.Prelude.{nat_lt, filter, filter_map, slice_get}
use Rattle.std.specs.List.{AllByRecursion, cons_option, list_all}
use Rattle.std.proofs.lemmas.Bool.{false≢true, and_from, and_parts, cases_Bool}
use Rattle.std.proofs.lemmas.Bool.Decides.{nat_tests}
use Rattle.aq_base.specs.Site.{Site}
use Rattle.aq_base.specs.declared.monitor.Duration.{Duration}
use Rattle.aq_base.specs.declared.monitor.MonitorId.{MonitorId}
use Rattle.aq_base.specs.declared.office.OfficeRecord.{OfficeRecord}
use Rattle.aq_base.specs.declared.office.OfficeRecord.TheVariants.{Monitor}
use Rattle.aq_rules.specs.Office.Office.{comes_before, is_same, record_rank, rises, rises_from, row_at, site_numbers, sites_of, with_row, with_site}
use Rattle.aq_rules.specs.Office.Questions.{first_given, is_site_after, next_site, site_above}
use Rattle.aq_rules.specs.Office.RowOrder.{before-total, before-trans, with_row-rises}
use Rattle.aq_rules.specs.Shown.OtherSheets.{rising_sites}
use Rattle.aq_rules.proofs.Lookups.{found-with, one_list, same-is}
use Rattle.aq_rules.proofs.RowsPlaced.{length-with_row, with_row-all}
use Rattle.aq_rules.proofs.SitesCounted.{lists}
use Rattle.aq_rules.proofs.Spans.{before-itself}

-- ---- filters

module _ {X : Type 0} (p q : X → Bool) where
  -- a stricter test makes a wider one before it needless
  pub stricter : (xs : List X) → ((x : X) → p x ≡ true → q x ≡ true) → filter p (filter q xs) ≡ filter p xs
  stricter [] wider = refl
  stricter (x ∷ xs) wider = choose (q x) (p x) refl refl (stricter xs wider)
    where
      choose : (b a : Bool) → q x ≡ b → p x ≡ a → filter p (filter q xs) ≡ filter p xs → filter p (cond b (x ∷ filter q xs) (filter q xs)) ≡ cond a (x ∷ filter p xs) (filter p xs)
      choose true true e f rest = ap (λ c. cond c (x ∷ filter p (filter q xs)) (filter p (filter q xs))) f ∙ ap (λ (l : List X). x ∷ l) rest
      choose true false e f rest = ap (λ c. cond c (x ∷ filter p (filter q xs)) (filter p (filter q xs))) f ∙ rest
      choose false true e f rest = absurd (false≢true (sym e ∙ wider x f))
      choose false false e f rest = rest

  -- and a wider one behind it
  pub wider : (xs : List X) → ((x : X) → q x ≡ true → p x ≡ true) → filter p (filter q xs) ≡ filter q xs
  wider [] holds = refl
  wider (x ∷ xs) holds = choose (q x) refl (wider xs holds)
    where
      choose : (b : Bool) → q x ≡ b → filter p (filter q xs) ≡ filter q xs → filter p (cond b (x ∷ filter q xs) (filter q xs)) ≡ cond b (x ∷ filter q xs) (filter q xs)
      choose true e rest = ap (λ c. cond c (x ∷ filter p (filter q xs)) (filter p (filter q xs))) (holds x e) ∙ ap (λ (l : List X). x ∷ l) rest
      choose false e rest = rest

module _ {X : Type 0} (rank : X → List ℕ) where
  -- those behind the first come after it
  abbrev pub Above : List ℕ → List X → Type 0
  Above key rows = AllByRecursion (λ row. comes_before key (rank row) ≡ true) rows

  above-from : (key : List ℕ) (first : X) (rows : List X) → comes_before key (rank first) ≡ true → rises_from rank first rows ≡ true → Above key rows
  above-from key first [] before rising = tt
  above-from key first (next ∷ rows) before rising =
      let parts = and_parts (comes_before (rank first) (rank next)) (rises_from rank next rows) rising in
      let behind = before-trans key (rank first) (rank next) before parts.0 in
      (behind, above-from key next rows behind parts.1)

  pub above-first : (first : X) (rows : List X) → rises_from rank first rows ≡ true → Above (rank first) rows
  above-first first [] rising = tt
  above-first first (next ∷ rows) rising =
      let parts = and_parts (comes_before (rank first) (rank next)) (rises_from rank next rows) rising in
      (parts.0, above-from (rank first) next rows parts.0 parts.1)

  pub rises-behind : (first : X) (rows : List X) → rises_from rank first rows ≡ true → rises rank rows ≡ true
  rises-behind first [] rising = refl
  rises-behind first (next ∷ rows) rising = (and_parts (comes_before (rank first) (rank next)) (rises_from rank next rows) rising).1

  all-above : (key : List ℕ) (rows : List X) → Above key rows → filter (λ row. comes_before key (rank row)) rows ≡ rows
  all-above key [] above = refl
  all-above key (row ∷ rows) above =
      ap (λ c. cond c (row ∷ filter (λ other. comes_before key (rank other)) rows) (filter (λ other. comes_before key (rank other)) rows)) above.0
      ∙ ap (λ (l : List X). row ∷ l) (all-above key rows above.1)

  -- a row that comes after none of the others is put first, and takes the place of one with its rank
  put-first : (row : X) (rows : List X) → rises rank rows ≡ true → list_all (λ other. not (comes_before (rank other) (rank row))) rows ≡ true
      → with_row rank row rows ≡ row ∷ filter (λ other. comes_before (rank row) (rank other)) rows
  put-first row [] rising first = refl
  put-first row (next ∷ rows) rising first = choose (comes_before (rank row) (rank next)) (is_same (rank row) (rank next)) refl refl
    where
      behind : List X
      behind = filter (λ other. comes_before (rank row) (rank other)) rows

      choose : (a b : Bool) → comes_before (rank row) (rank next) ≡ a → is_same (rank row) (rank next) ≡ b
          → cond a (row ∷ next ∷ rows) (cond b (row ∷ rows) (next ∷ with_row rank row rows)) ≡ row ∷ cond a (next ∷ behind) behind
      choose true b before same =
          ap (λ (l : List X). row ∷ next ∷ l) (sym (all-above (rank row) rows (above-from (rank row) next rows before rising)))
      choose false true before same =
          ap (λ (l : List X). row ∷ l)
          (sym (all-above (rank row) rows (subst (λ k. Above k rows) (sym (same-is (rank row) (rank next) same)) (above-first next rows rising))))
      choose false false before same =
          let other : comes_before (rank next) (rank row) ≡ true = before-total (rank row) (rank next) before same in
          let parts = and_parts (not (comes_before (rank next) (rank row))) _ first in
          absurd (false≢true (sym (ap not other) ∙ parts.0))

  -- a row that stands already changes nothing
  put-again : (row : X) (rows : List X) → rises rank rows ≡ true → row_at rank (rank row) rows ≡ Some row → with_row rank row rows ≡ rows
  put-again row rows rising found =
      one_list rank (with_row rank row rows) rows (with_row-rises rank row rows rising) rising (λ key. found-with rank key row rows ∙ choose key (is_same (rank row) key) refl)
    where
      choose : (key : List ℕ) (b : Bool) → is_same (rank row) key ≡ b → cond b (Some row) (row_at rank key rows) ≡ row_at rank key rows
      choose key true same = sym found ∙ ap (λ k. row_at rank k rows) (same-is (rank row) key same)
      choose key false other = refl

-- ---- the rising sites

sites-rise : (sites : List Site) → rises site_numbers (rising_sites sites) ≡ true
sites-rise [] = refl
sites-rise (site ∷ sites) = with_row-rises site_numbers site (rising_sites sites) (sites-rise sites)

same-numbers : (a b : Site) → is_same (site_numbers a) (site_numbers b) ≡ true → a ≡ b
same-numbers a b same =
    let one = same-is (site_numbers a) (site_numbers b) same in
    let state : a.state ≡ b.state = cc in
    let county : a.county ≡ b.county = cc in
    let number : a.number ≡ b.number = cc in
    λ i. record { state = state i; county = county i; number = number i }

site-found : (site : Site) (sites : List Site) → lists site sites ≡ true → row_at site_numbers (site_numbers site) (rising_sites sites) ≡ Some site
site-found site [] there = absurd (false≢true there)
site-found site (other ∷ sites) there =
    found-with site_numbers (site_numbers site) other (rising_sites sites) ∙ choose (is_same (site_numbers other) (site_numbers site)) refl there (site-found site sites)
  where
    choose : (b : Bool) → is_same (site_numbers other) (site_numbers site) ≡ b → (b || lists site sites) ≡ true
        → (lists site sites ≡ true → row_at site_numbers (site_numbers site) (rising_sites sites) ≡ Some site)
        → cond b (Some other) (row_at site_numbers (site_numbers site) (rising_sites sites)) ≡ Some site
    choose true same there rest = ap Some (same-numbers other site same)
    choose false differs there rest = rest there

rising-with : (site : Site) (sites : List Site) → rising_sites (with_site site sites) ≡ with_row site_numbers site (rising_sites sites)
rising-with site sites = choose (lists site sites) refl
  where
    choose : (b : Bool) → lists site sites ≡ b → rising_sites (cond b sites (site ∷ sites)) ≡ with_row site_numbers site (rising_sites sites)
    choose true there = sym (put-again site_numbers site (rising_sites sites) (sites-rise sites) (site-found site sites there))
    choose false new = refl

-- ---- records in their order have their sites in order

abbrev is_not_before : Site → Site → Bool
is_not_before site other = not (comes_before (site_numbers other) (site_numbers site))

no-earlier : (s c n u d m : ℕ) (b : Bool)
    → (nat_lt 1 1 || ((1 == 1) && (nat_lt s u || ((s == u) && (nat_lt c d || ((c == d) && (nat_lt n m || ((n == m) && b)))))))) ≡ true
    → not (nat_lt u s || ((u == s) && (nat_lt d c || ((d == c) && (nat_lt m n || ((m == n) && false)))))) ≡ true
no-earlier s c n u d m b before = grind (arith, nat_tests)

none-earlier : (id : MonitorId) (duration : Duration) (eligible : Bool) (records : List OfficeRecord) → Above record_rank (record_rank (Monitor id duration eligible)) records
    → list_all (is_not_before id.site) (sites_of records) ≡ true
none-earlier id duration eligible [] above = refl
none-earlier id duration eligible (Monitor other period counts ∷ records) above =
    choose (lists other.site (sites_of records)) (none-earlier id duration eligible records above.1)
  where
    choose : (b : Bool) → list_all (is_not_before id.site) (sites_of records) ≡ true → list_all (is_not_before id.site) (cond b (sites_of records) (other.site ∷ sites_of records)) ≡ true
    choose true rest = rest
    choose false rest = and_from _ _ (no-earlier id.site.state id.site.county id.site.number other.site.state other.site.county other.site.number _ above.0) rest
none-earlier id duration eligible (r ∷ records) above = none-earlier id duration eligible records above.1

rising-all : (p : Site → Bool) (sites : List Site) → list_all p sites ≡ true → list_all p (rising_sites sites) ≡ true
rising-all p [] all = refl
rising-all p (site ∷ sites) all =
    let parts = and_parts (p site) (list_all p sites) all in
    with_row-all site_numbers p site (rising_sites sites) parts.0 (rising-all p sites parts.1)

-- the rising sites of records that come after one
abbrev pub sites_above : List OfficeRecord → Option Site → List Site
sites_above records after = filter (is_site_after after) (rising_sites (sites_of records))

monitor-first : (id : MonitorId) (duration : Duration) (eligible : Bool) (records : List OfficeRecord) → rises record_rank (Monitor id duration eligible ∷ records) ≡ true
    → rising_sites (sites_of (Monitor id duration eligible ∷ records)) ≡ id.site ∷ sites_above records (Some id.site)
monitor-first id duration eligible records rising =
    rising-with id.site (sites_of records)
    ∙ put-first site_numbers id.site (rising_sites (sites_of records)) (sites-rise (sites_of records))
    (rising-all (is_not_before id.site) (sites_of records) (none-earlier id duration eligible records (above-first record_rank (Monitor id duration eligible) records rising)))

-- ---- one after another

not-before-itself : (key : List ℕ) → comes_before key key ≡ false
not-before-itself key = elim (cases_Bool (comes_before key key)) [ inl before ↦ absurd (before-itself key before) | inr not_before ↦ not_before ]

-- what does not come after the first comes before what does
before-rest : (x y z : List ℕ) → comes_before x y ≡ false → comes_before x z ≡ true → comes_before y z ≡ true
before-rest x y z not_before before =
    elim (cases_Bool (is_same x y)) [
      | inl same ↦ subst (λ k. comes_before k z ≡ true) (same-is x y same) before
      | inr other ↦ before-trans y x z (before-total x y not_before other) before
    ]

after-trans : (after : Option Site) (a b : Site) → is_site_after after a ≡ true → comes_before (site_numbers a) (site_numbers b) ≡ true → is_site_after after b ≡ true
after-trans None a b h before = refl
after-trans (Some site) a b h before = before-trans (site_numbers site) (site_numbers a) (site_numbers b) h before

after-rest : (after : Option Site) (a b : Site) → is_site_after after a ≡ false → is_site_after after b ≡ true → comes_before (site_numbers a) (site_numbers b) ≡ true
after-rest None a b not_after h = absurd (false≢true (sym not_after))
after-rest (Some site) a b not_after h = before-rest (site_numbers site) (site_numbers a) (site_numbers b) not_after h

abbrev next_in : List OfficeRecord → Option Site → Option Site
next_in records after = first_given (site_above after) records

next-after : (records : List OfficeRecord) (after : Option Site) (site : Site) → next_in records after ≡ Some site → is_site_after after site ≡ true
next-after [] after site is = cc
next-after (Monitor id duration eligible ∷ records) after site is = choose (is_site_after after id.site) refl is (next-after records after site)
  where
    choose : (b : Bool) → is_site_after after id.site ≡ b → slice_get (cons_option (cond b (Some id.site) None) (filter_map (site_above after) records)) 0 ≡ Some site
        → (next_in records after ≡ Some site → is_site_after after site ≡ true) → is_site_after after site ≡ true
    choose true holds is rest = let one : id.site ≡ site = cc in subst (λ s. is_site_after after s ≡ true) one holds
    choose false holds is rest = rest is
next-after (r ∷ records) after site is = next-after records after site is

-- what follows a site that was found, and nothing where none was
abbrev walked : List OfficeRecord → Option Site → List Site
walked records None = []
walked records (Some site) = site ∷ sites_above records (Some site)

site-walk : (records : List OfficeRecord) (after : Option Site) → rises record_rank records ≡ true → sites_above records after ≡ walked records (next_in records after)
site-walk [] after rising = refl
site-walk (Monitor id duration eligible ∷ records) after rising =
    choose (is_site_after after id.site) refl (site-walk records after (rises-behind record_rank (Monitor id duration eligible) records rising))
  where
    first : rising_sites (sites_of (Monitor id duration eligible ∷ records)) ≡ id.site ∷ sites_above records (Some id.site)
    first = monitor-first id duration eligible records rising

    -- those after a site that comes no earlier than the first
    behind : (after : Option Site) → is_site_after after id.site ≡ false → sites_above (Monitor id duration eligible ∷ records) after ≡ sites_above records after
    behind after not_after =
        ap (filter (is_site_after after)) first
        ∙ ap (λ c. cond c (id.site ∷ filter (is_site_after after) (sites_above records (Some id.site))) (filter (is_site_after after) (sites_above records (Some id.site)))) not_after
        ∙ stricter (is_site_after after) (is_site_after (Some id.site)) (rising_sites (sites_of records)) (λ site h. after-rest after id.site site not_after h)

    later : (o : Option Site) → next_in records after ≡ o → is_site_after after id.site ≡ false → walked records o ≡ walked (Monitor id duration eligible ∷ records) o
    later None is not_after = refl
    later (Some site) is not_after =
        let less : comes_before (site_numbers id.site) (site_numbers site) ≡ true = after-rest after id.site site not_after (next-after records after site is) in
        let no_earlier : is_site_after (Some site) id.site ≡ false =
        elim (cases_Bool (comes_before (site_numbers site) (site_numbers id.site))) [
          | inl before ↦ absurd (before-itself (site_numbers site) (before-trans (site_numbers site) (site_numbers id.site) (site_numbers site) before less))
          | inr h ↦ h
        ]
        in
        ap (λ (l : List Site). site ∷ l) (sym (behind (Some site) no_earlier))

    choose : (b : Bool) → is_site_after after id.site ≡ b → sites_above records after ≡ walked records (next_in records after)
        → sites_above (Monitor id duration eligible ∷ records) after
        ≡ walked (Monitor id duration eligible ∷ records) (slice_get (cons_option (cond b (Some id.site) None) (filter_map (site_above after) records)) 0)
    choose true holds rest =
        ap (filter (is_site_after after)) first
        ∙ ap (λ c. cond c (id.site ∷ filter (is_site_after after) (sites_above records (Some id.site))) (filter (is_site_after after) (sites_above records (Some id.site)))) holds
        ∙ ap (λ (l : List Site). id.site ∷ l)
        (wider (is_site_after after) (is_site_after (Some id.site)) (rising_sites (sites_of records)) (λ site before. after-trans after id.site site holds before)
        ∙ sym (behind (Some id.site) (not-before-itself (site_numbers id.site))))
    choose false not_after rest = behind after not_after ∙ rest ∙ later (next_in records after) refl not_after
site-walk (r ∷ records) after rising = site-walk records after (rises-behind record_rank r records rising)

pub sites-next : (records : List OfficeRecord) (after : Option Site) (site : Site) → rises record_rank records ≡ true → next_site records after ≡ Some site
    → sites_above records after ≡ site ∷ sites_above records (Some site)
unfolding next_site
sites-next records after site rising is = site-walk records after rising ∙ ap (walked records) is

pub sites-end : (records : List OfficeRecord) (after : Option Site) → rises record_rank records ≡ true → next_site records after ≡ None → sites_above records after ≡ []
unfolding next_site
sites-end records after rising is = site-walk records after rising ∙ ap (walked records) is

no-test : (sites : List Site) → filter (is_site_after None) sites ≡ sites
no-test [] = refl
no-test (site ∷ sites) = ap (λ (l : List Site). site ∷ l) (no-test sites)

pub sites-all : (records : List OfficeRecord) → sites_above records None ≡ rising_sites (sites_of records)
sites-all records = no-test (rising_sites (sites_of records))

pub few-rising : (sites : List Site) → length (rising_sites sites) ≤ length sites
few-rising [] = omega arith
few-rising (site ∷ sites) = omega (arith, few-rising sites, length-with_row site_numbers site (rising_sites sites))

-- where no site is the first, there is none
pub sites-none : (records : List OfficeRecord) → next_site records None ≡ None → sites_of records ≡ []
unfolding next_site
sites-none [] none = refl
sites-none (Monitor id duration eligible ∷ records) none = cc
sites-none (r ∷ records) none = sites-none records none
