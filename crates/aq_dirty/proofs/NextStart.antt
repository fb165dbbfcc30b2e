-- The next designation (the next schedule) of a site and pollutant is the record that follows, if that is one of them.
use Rattle.std.proofs.Common.{◌≡◌, ℕ, Bool, true, false, cond, ◌&&◌, ◌||◌, ◌==◌, List, [], ◌∷◌, Option, Some, None, refl, sym, ap, ◌∙◌, subst, arith}
use Rattle.std.specs.Prelude.{find, filter_map, nat_lt, slice_get}
use Rattle.std.specs.List.{AllByRecursion, cons_option}
use Rattle.std.proofs.lemmas.Bool.{and_from, and_parts, false≢true}
use Rattle.std.proofs.lemmas.Bool.Decides.{nat_tests}
use Rattle.aq_base.specs.Site.{Site}
use Rattle.aq_base.specs.declared.monitor.Pollutant.{Pollutant}
use Rattle.aq_base.specs.declared.office.OfficeRecord.{OfficeRecord}
use Rattle.aq_base.specs.declared.office.OfficeRecord.TheVariants.{Monitor, Primary, Schedule, Season, Makeup, Event, Concurrence, Approved, Combined}
use Rattle.aq_base.specs.declared.office.OfficeKey.TheVariants.{Primary as PrimaryKey, Schedule as ScheduleKey}
use Rattle.aq_rules.specs.Kept.Reach.{designation_after, last_day_before, last_day_designated, last_day_scheduled, schedule_after}
use Rattle.aq_rules.specs.Office.Monitors.{is_same_site, is_same_pollutant}
use Rattle.aq_rules.specs.Office.Office.{comes_before, key_of, kind_of, parameter_number, record_rank, rises}
use Rattle.aq_rules.specs.Office.Questions.{first_given, following}
use Rattle.aq_rules.specs.Office.Sameness.{same_pollutant, same_site}
use Rattle.aq_rules.proofs.Lookups.{rises-rest}
use Rattle.aq_rules.proofs.RisingRows.{all_later}
use Rattle.aq_registry.proofs.QuestionLemmas.{same-parameters}
use Rattle.aq_dirty.specs.ParticleReach.{schedule_start_in}
use Rattle.aq_dirty.specs.Reach.{start_in}

-- ---- numbers between two that begin alike begin so too

between : (x y : ℕ) (a b : Bool) → (nat_lt x y || ((x == y) && a)) ≡ true → (nat_lt y x || ((y == x) && b)) ≡ true → (y ≡ x) × (a ≡ true) × (b ≡ true)
between x y true true p q = (grind (arith, nat_tests), refl, refl)
between x y true false p q = absurd (grind (arith, nat_tests))
between x y false b p q = absurd (grind (arith, nat_tests))

last_less : (x y : ℕ) → (nat_lt x y || ((x == y) && false)) ≡ true → nat_lt x y ≡ true
last_less x y p = grind (arith, nat_tests)

less_last : (x y : ℕ) → nat_lt x y ≡ true → (nat_lt x y || ((x == y) && false)) ≡ true
less_last x y p = grind (arith, nat_tests)

same_number : (x : ℕ) (b : Bool) → b ≡ true → (nat_lt x x || ((x == x) && b)) ≡ true
same_number x b p = grind (arith, nat_tests)

same_numbers : (x y : ℕ) → x ≡ y → (x == y) ≡ true
same_numbers x y p = grind (arith, nat_tests)

-- ---- records that start on a day

-- the site, pollutant and first day of a record of a kind
record Start : Type 0 where
  site : Site
  pollutant : Pollutant
  from : ℕ

abbrev numbers_of : ℕ → Start → List ℕ
numbers_of kind s = kind ∷ s.site.state ∷ s.site.county ∷ s.site.number ∷ parameter_number s.pollutant ∷ s.from ∷ []

-- a record is ranked by its start if it has one, and else it is of another kind
abbrev Told : ℕ → OfficeRecord → Option Start → Type 0
Told kind r (Some s) = record_rank r ≡ numbers_of kind s
Told kind r None = (kind_of (key_of r) == kind) ≡ false

module _ (kind : ℕ) (start_of : OfficeRecord → Option Start) (told : (r : OfficeRecord) → Told kind r (start_of r)) (site : Site) (pollutant : Pollutant) (day : ℕ) where
  abbrev of_series : ℕ → Start
  of_series from = record { site = site; pollutant = pollutant; from = from }

  abbrev key : List ℕ
  key = numbers_of kind (of_series day)

  abbrev is_in_series : Start → Bool
  is_in_series s = is_same_site s.site site && is_same_pollutant s.pollutant pollutant

  -- where it starts, if it is of the series, and if it starts after the day besides
  abbrev start : Option Start → Option ℕ
  start None = None
  start (Some s) = cond (is_in_series s) (Some s.from) None

  abbrev later : Option Start → Option ℕ
  later None = None
  later (Some s) = cond (is_in_series s && nat_lt day s.from) (Some s.from) None

  abbrev start_in_row : Option OfficeRecord → Option ℕ
  start_in_row None = None
  start_in_row (Some r) = start (start_of r)

  abbrev later_in_row : OfficeRecord → Option ℕ
  later_in_row r = later (start_of r)

  in_series_is : (s : Start) → is_in_series s ≡ true → numbers_of kind s ≡ numbers_of kind (of_series s.from)
  in_series_is s series =
      let parts = and_parts (is_same_site s.site site) (is_same_pollutant s.pollutant pollutant) series in
      (λ i. kind ∷ (same_site s.site site parts.0 i).state ∷ (same_site s.site site parts.0 i).county ∷ (same_site s.site site parts.0 i).number
      ∷ parameter_number (same_pollutant s.pollutant pollutant parts.1 i) ∷ s.from ∷ [])

  -- a later one of the series comes after the key
  later_after : (s : Start) → is_in_series s ≡ true → nat_lt day s.from ≡ true → comes_before key (numbers_of kind s) ≡ true
  later_after s series more =
      ap (comes_before key) (in_series_is s series)
      ∙ same_number kind _ (same_number site.state _ (same_number site.county _ (same_number site.number _ (same_number (parameter_number pollutant) _ (less_last day s.from more)))))

  -- one of the series that comes after the key is later
  after_later : (s : Start) → is_in_series s ≡ true → comes_before key (numbers_of kind s) ≡ true → nat_lt day s.from ≡ true
  after_later s series after =
      down kind _ (down site.state _ (down site.county _ (down site.number _ (down (parameter_number pollutant) _ (last_less day s.from)))))
      (sym (ap (comes_before key) (in_series_is s series)) ∙ after)
    where
      down : (x : ℕ) (b : Bool) → (b ≡ true → nat_lt day s.from ≡ true) → (nat_lt x x || ((x == x) && b)) ≡ true → nat_lt day s.from ≡ true
      down x true h p = h refl
      down x false h p = absurd (false≢true (grind (arith, nat_tests)))

  none_if : (s : Start) → (is_in_series s ≡ true → nat_lt day s.from ≡ true → ⊥) → later (Some s) ≡ None
  none_if s never = choose (is_in_series s) (nat_lt day s.from) refl refl
    where
      choose : (a b : Bool) → is_in_series s ≡ a → nat_lt day s.from ≡ b → cond (a && b) (Some s.from) None ≡ None
      choose false b is also = refl
      choose true false is also = refl
      choose true true is also = absurd (never is also)

  -- what does not come after the key is no later one
  before-none : (r : OfficeRecord) → comes_before key (record_rank r) ≡ false → later_in_row r ≡ None
  before-none r out = by (start_of r) (told r)
    where
      by : (o : Option Start) → Told kind r o → later o ≡ None
      by None is = refl
      by (Some s) is = none_if s (λ series more. false≢true (sym out ∙ ap (comes_before key) is ∙ later_after s series more))

  -- a record after the key is a later one exactly if it is one of the series
  after-same : (r : OfficeRecord) → comes_before key (record_rank r) ≡ true → later_in_row r ≡ start (start_of r)
  after-same r after = by (start_of r) (told r)
    where
      by : (o : Option Start) → Told kind r o → later o ≡ start o
      by None is = refl
      by (Some s) is = choose (is_in_series s) refl
        where
          choose : (b : Bool) → is_in_series s ≡ b → cond (b && nat_lt day s.from) (Some s.from) None ≡ cond b (Some s.from) None
          choose false no_series = refl
          choose true series = ap (λ c. cond c (Some s.from) None) (after_later s series (sym (ap (comes_before key) is) ∙ after))

  -- between the key and a later one are those of the series alone
  in_series : (s : Start) (last : ℕ) → comes_before key (numbers_of kind s) ≡ true → comes_before (numbers_of kind s) (numbers_of kind (of_series last)) ≡ true → is_in_series s ≡ true
  in_series s last after before =
      let k = between kind kind _ _ after before in
      let a = between site.state s.site.state _ _ k.1 k.2 in
      let b = between site.county s.site.county _ _ a.1 a.2 in
      let c = between site.number s.site.number _ _ b.1 b.2 in
      let d = between (parameter_number pollutant) (parameter_number s.pollutant) _ _ c.1 c.2 in
      and_from _ _ (and_from _ _ (and_from _ _ (same_numbers _ _ a.0) (same_numbers _ _ b.0)) (same_numbers _ _ c.0)) (same-parameters s.pollutant pollutant ∙ same_numbers _ _ d.0)

  not_none : (from : ℕ) → Some from ≡ None → ⊥
  not_none from is = cc

  squeezed : (r : OfficeRecord) (last : ℕ) → comes_before key (record_rank r) ≡ true → comes_before (record_rank r) (numbers_of kind (of_series last)) ≡ true → start (start_of r) ≡ None → ⊥
  squeezed r last after before out = by (start_of r) (told r) out
    where
      by : (o : Option Start) → Told kind r o → start o ≡ None → ⊥
      by None other none = false≢true (sym other ∙ same_numbers _ _ (between kind (kind_of (key_of r)) _ _ after before).0)
      by (Some s) is none =
          not_none s.from
          (subst (λ b. cond b (Some s.from) None ≡ None)
          (in_series s last (sym (ap (comes_before key) is) ∙ after) (sym (ap (λ (l : List ℕ). comes_before l (numbers_of kind (of_series last))) is) ∙ before)) none)

  later-none : (r next : OfficeRecord) → comes_before key (record_rank r) ≡ true → start (start_of r) ≡ None → comes_before (record_rank r) (record_rank next) ≡ true → later_in_row next ≡ None
  later-none r next after out before = by (start_of next) (told next)
    where
      by : (o : Option Start) → Told kind next o → later o ≡ None
      by None is = refl
      by (Some s) is =
          none_if s (λ series more. squeezed r s.from after (sym (ap (comes_before (record_rank r)) (is ∙ in_series_is s series)) ∙ before) out)

  none_given : (r : OfficeRecord) (rows : List OfficeRecord) → comes_before key (record_rank r) ≡ true → start (start_of r) ≡ None → AllByRecursion (λ e. comes_before (record_rank r) (record_rank e) ≡ true) rows
      → filter_map later_in_row rows ≡ []
  none_given r [] after out all = refl
  none_given r (e ∷ rows) after out all =
      ap (λ o. cons_option o (filter_map later_in_row rows)) (later-none r e after out all.0) ∙ none_given r rows after out all.1

  next_found : (rows : List OfficeRecord) → rises record_rank rows ≡ true → first_given later_in_row rows ≡ start_in_row (find (λ r. comes_before key (record_rank r)) rows)
  next_found [] up = refl
  next_found (r ∷ rows) up = choose (comes_before key (record_rank r)) refl (next_found rows (rises-rest record_rank r rows up))
    where
      by_start : (o : Option ℕ) → start (start_of r) ≡ o → comes_before key (record_rank r) ≡ true → slice_get (cons_option o (filter_map later_in_row rows)) 0 ≡ o
      by_start (Some from) is after = refl
      by_start None is after = ap (λ (l : List ℕ). slice_get l 0) (none_given r rows after is (all_later record_rank r rows up))

      choose : (b : Bool) → comes_before key (record_rank r) ≡ b → first_given later_in_row rows ≡ start_in_row (find (λ row. comes_before key (record_rank row)) rows)
          → slice_get (cons_option (later_in_row r) (filter_map later_in_row rows)) 0 ≡ start_in_row (cond b (Some r) (find (λ row. comes_before key (record_rank row)) rows))
      choose false is rest = ap (λ o. slice_get (cons_option o (filter_map later_in_row rows)) 0) (before-none r is) ∙ rest
      choose true is rest = ap (λ o. slice_get (cons_option o (filter_map later_in_row rows)) 0) (after-same r is) ∙ by_start (start (start_of r)) refl is

-- ---- designations

abbrev designation_of : OfficeRecord → Option Start
designation_of (Primary site pollutant from poc) = Some (record { site = site; pollutant = pollutant; from = from })
designation_of r = None

designation-told : (r : OfficeRecord) → Told 2 r (designation_of r)
designation-told (Primary site pollutant from poc) = refl
designation-told (Monitor id duration eligible) = refl
designation-told (Schedule site pollutant from interval anchor) = refl
designation-told (Season site year first last) = refl
designation-told (Makeup site missed makeup) = refl
designation-told (Event number site pollutant first last code) = refl
designation-told (Concurrence number agreed) = refl
designation-told (Approved site day) = refl
designation-told (Combined site pollutant joined from) = refl

module _ (site : Site) (pollutant : Pollutant) (day : ℕ) where
  designation-later : (r : OfficeRecord) → designation_after site pollutant day r ≡ later_in_row 2 designation_of designation-told site pollutant day r
  designation-later (Primary other kind from poc) = refl
  designation-later r = refl

  designation-start : (o : Option OfficeRecord) → start_in_row 2 designation_of designation-told site pollutant day o ≡ start_in site pollutant o
  designation-start (Some (Primary other kind from poc)) = refl
  designation-start o = refl

  pub last_designated : (rows : List OfficeRecord) → rises record_rank rows ≡ true → last_day_before (start_in site pollutant (following rows (Some (PrimaryKey site pollutant day)))) ≡ last_day_designated rows site pollutant day
  unfolding following
  last_designated rows up =
      ap last_day_before
      (sym (designation-start _)
      ∙ sym (next_found 2 designation_of designation-told site pollutant day rows up)
      ∙ (λ i. first_given (λ r. sym (designation-later r) i) rows))

-- ---- schedules

abbrev schedule_of : OfficeRecord → Option Start
schedule_of (Schedule site pollutant from interval anchor) = Some (record { site = site; pollutant = pollutant; from = from })
schedule_of r = None

schedule-told : (r : OfficeRecord) → Told 3 r (schedule_of r)
schedule-told (Schedule site pollutant from interval anchor) = refl
schedule-told (Monitor id duration eligible) = refl
schedule-told (Primary site pollutant from poc) = refl
schedule-told (Season site year first last) = refl
schedule-told (Makeup site missed makeup) = refl
schedule-told (Event number site pollutant first last code) = refl
schedule-told (Concurrence number agreed) = refl
schedule-told (Approved site day) = refl
schedule-told (Combined site pollutant joined from) = refl

module _ (site : Site) (pollutant : Pollutant) (day : ℕ) where
  schedule-later : (r : OfficeRecord) → schedule_after site pollutant day r ≡ later_in_row 3 schedule_of schedule-told site pollutant day r
  schedule-later (Schedule other kind from interval anchor) = refl
  schedule-later r = refl

  schedule-start : (o : Option OfficeRecord) → start_in_row 3 schedule_of schedule-told site pollutant day o ≡ schedule_start_in site pollutant o
  schedule-start (Some (Schedule other kind from interval anchor)) = refl
  schedule-start o = refl

  pub last_scheduled : (rows : List OfficeRecord) → rises record_rank rows ≡ true → last_day_before (schedule_start_in site pollutant (following rows (Some (ScheduleKey site pollutant day)))) ≡ last_day_scheduled rows site pollutant day
  unfolding following
  last_scheduled rows up =
      ap last_day_before
      (sym (schedule-start _)
      ∙ sym (next_found 3 schedule_of schedule-told site pollutant day rows up)
      ∙ (λ i. first_given (λ r. sym (schedule-later r) i) rows))
