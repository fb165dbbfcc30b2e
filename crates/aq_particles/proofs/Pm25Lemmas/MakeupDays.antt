-- The make-up days of a quarter lie in it, and none comes twice.
use Rattle.std.proofs.Common.{◌≡◌, ℕ, ◌+◌, ◌<◌, ◌≤◌, Bool, true, false, cond, ◌&&◌, ◌==◌, Some, None, List, [], ◌∷◌, length, refl, ap, sym, ◌∙◌, ◌⊎◌, inl, inr, arith}
use Rattle.std.specs.Prelude.{count_by, filter, nat_le}
use Rattle.std.specs.List.{filter_map, cons_option, list_all, range_with_len}
use Rattle.std.proofs.lemmas.Bool.{and_parts, eqb-true, leb-true}
use Rattle.std.proofs.lemmas.List.Sums.{sum_by-cons}
use Rattle.std.proofs.lemmas.Slice.Eq.{bytes_eq-Decides}
use Rattle.aq_base.specs.Calendar.{quarter_of}
use Rattle.aq_base.specs.Site.{Site}
use Rattle.aq_base.specs.declared.day.TheConstants.{LAST_DAY}
use Rattle.aq_base.specs.declared.office.OfficeRecord.{OfficeRecord}
use Rattle.aq_base.specs.declared.office.OfficeRecord.TheVariants.{Makeup as MakeupRecord}
use Rattle.aq_rules.specs.Lines.OfficeForms.{is_makeup}
use Rattle.aq_rules.specs.Office.Monitors.{is_same_site}
use Rattle.aq_rules.specs.Office.Office.{IsOffice, fits_records, is_alone, is_day, is_record, is_same, is_site, makes_up_on, makeups_on, site_numbers}
use Rattle.aq_rules.specs.Office.Sameness.{same_site}
use Rattle.aq_rules.specs.Particles.QuarterCounts.{Makeup, makeup_by}
use Rattle.aq_rules.proofs.Elements.{Every}
use Rattle.aq_rules.proofs.Pm10Facts.{count-filter}
use Rattle.aq_rules.proofs.Pm25Counts.{is_record-of}
use Rattle.aq_rules.proofs.Spans.{fit, on}
use Rattle.aq_rules.proofs.ValidRecords.{site_is}
use Rattle.aq_registry.specs.Registry.{office_with}
use Rattle.aq_particles.specs.Pm25.SiteDays.{as_makeup}
use Rattle.aq_particles.proofs.Pm25Lemmas.Makeups.{HoldsSpan}

count_cons : {X : Type 0} (p : X → Bool) (x : X) (xs : List X) → count_by p (x ∷ xs) ≡ cond (p x) 1 0 + count_by p xs
count_cons {X} p x xs = sum_by-cons (λ (y : X). cond (p y) 1 0) x xs

pub every-filtered : {X : Type 0} (P : X → Type 0) (f : X → Bool) (xs : List X) → Every P xs → Every (λ x. P x × (f x ≡ true)) (filter f xs)
every-filtered P f [] every = tt
every-filtered {X} P f (x ∷ xs) every = by_test (f x) refl (every-filtered P f xs every.1)
  where
    by_test : (b : Bool) → f x ≡ b → Every (λ y. P y × (f y ≡ true)) (filter f xs) → Every (λ y. P y × (f y ≡ true)) (cond b (x ∷ filter f xs) (filter f xs))
    by_test true e rest = ((every.0, e), rest)
    by_test false e rest = rest

module _ (records : List OfficeRecord) (site : Site) (quarter first many : ℕ) (valid : IsOffice (office_with records)) (holds : HoldsSpan quarter first many) where
  -- ---- they lie in the quarter

  abbrev InSpan : Makeup → Type 0
  InSpan m = (first ≤ m.makeup) × (m.makeup < first + many)

  if_made : (b c : Bool) (missed makeup : ℕ) (ms : List Makeup) → (quarter_of missed == quarter) ≡ c → is_record (MakeupRecord site missed makeup) ≡ true ⊎ (b ≡ false) → Every InSpan ms → Every InSpan (cons_option (cond (b && c) (Some (as_makeup missed makeup)) None) ms)
  if_made false c missed makeup ms of is rest = rest
  if_made true false missed makeup ms of is rest = rest
  if_made true true missed makeup ms of (inr other) rest = cc
  if_made true true missed makeup ms of (inl is) rest =
      let h = and_parts (is_site site && is_day missed) (is_day makeup && is_makeup missed makeup) is in
      let c = and_parts (is_day makeup) (is_makeup missed makeup) h.1 in
      let span = and_parts _ (nat_le makeup (missed + 7)) c.1 in
      let there = and_parts _ (quarter_of makeup == quarter_of missed) span.0 in
      let q : quarter_of makeup ≡ quarter = eqb-true (quarter_of makeup) (quarter_of missed) there.1 ∙ eqb-true (quarter_of missed) quarter of in
      ((holds makeup (leb-true makeup LAST_DAY c.0)).0 q, rest)

  same_record : (other : Site) (missed makeup : ℕ) (b : Bool) → is_same_site other site ≡ b → is_record (MakeupRecord other missed makeup) ≡ true → is_record (MakeupRecord site missed makeup) ≡ true ⊎ (b ≡ false)
  same_record other missed makeup true same is = inl (ap (λ s. is_record (MakeupRecord s missed makeup)) (sym (same_site other site same)) ∙ is)
  same_record other missed makeup false same is = inr refl

  in_span : (rs : List OfficeRecord) → list_all (fits_records (office_with records)) rs ≡ true → Every InSpan (filter_map (makeup_by site quarter) rs)
  in_span [] fits = tt
  in_span (MakeupRecord other missed makeup ∷ rs) fits =
      let parts = and_parts (fits_records (office_with records) (MakeupRecord other missed makeup)) (list_all (fits_records (office_with records)) rs) fits in
      let is = is_record-of site quarter (office_with records) (MakeupRecord other missed makeup) parts.0 in
      if_made (is_same_site other site) (quarter_of missed == quarter) missed makeup (filter_map (makeup_by site quarter) rs) refl (same_record other missed makeup (is_same_site other site) refl is) (in_span rs parts.1)
  in_span (r ∷ rs) fits = in_span rs (and_parts (fits_records (office_with records) r) (list_all (fits_records (office_with records)) rs) fits).1

  -- ---- none comes twice

  module _ (d : ℕ) where
    abbrev made_on : List Makeup → ℕ
    made_on ms = on (λ (m : Makeup). m.makeup) d ms

    on_cons : (m : Makeup) (ms : List Makeup) → made_on (m ∷ ms) ≡ cond (m.makeup == d) 1 0 + made_on ms
    on_cons m ms = count_cons (λ (x : Makeup). x.makeup == d) m ms

    by_tests : (s c n q : Bool) (m : Makeup) (ms : List Makeup) → made_on (cons_option (cond (((s && c) && n) && q) (Some m) None) ms) ≤ cond ((s && (c && (n && true))) && (m.makeup == d)) 1 0 + made_on ms
    by_tests true true true true m ms = omega (arith, on_cons m ms)
    by_tests true true true false m ms = omega arith
    by_tests true true false q m ms = omega arith
    by_tests true false n q m ms = omega arith
    by_tests false c n q m ms = omega arith

    made_few : (rs : List OfficeRecord) → made_on (filter_map (makeup_by site quarter) rs) ≤ count_by (makes_up_on site d) rs
    made_few [] = omega arith
    made_few (MakeupRecord other missed makeup ∷ rs) =
        omega (
          arith,
          made_few rs,
          count_cons (makes_up_on site d) (MakeupRecord other missed makeup) rs,
          by_tests (other.state == site.state) (other.county == site.county) (other.number == site.number) (quarter_of missed == quarter) (as_makeup missed makeup) (filter_map (makeup_by site quarter) rs),
        )
    made_few (r ∷ rs) = omega (arith, made_few rs, count_cons (makes_up_on site d) r rs)

    own_day : (r : OfficeRecord) → makes_up_on site d r ≡ true → is_alone (office_with records) r ≡ true → count_by (makes_up_on site d) records ≤ 1
    own_day (MakeupRecord other missed makeup) on_day own =
        let parts = and_parts (is_same (site_numbers other) (site_numbers site)) (makeup == d) on_day in
        let s : other ≡ site = site_is other site ((bytes_eq-Decides (site_numbers other) (site_numbers site)).0 parts.0) in
        let m : makeup ≡ d = eqb-true makeup d parts.1 in
        let one : makeups_on (office_with records) other makeup ≡ 1 = eqb-true (makeups_on (office_with records) other makeup) 1 own in
        let here : makeups_on (office_with records) site d ≡ 1 = (λ i. makeups_on (office_with records) (sym s i) (sym m i)) ∙ one in
        omega (arith, here)
    own_day r on_day own = cc

    none_or_one : (rs : List OfficeRecord) → list_all (is_alone (office_with records)) rs ≡ true → (count_by (makes_up_on site d) rs ≡ 0) ⊎ (count_by (makes_up_on site d) records ≤ 1)
    none_or_one [] own = inl refl
    none_or_one (r ∷ rs) own =
        let parts = and_parts (is_alone (office_with records) r) (list_all (is_alone (office_with records)) rs) own in
        by_test (makes_up_on site d r) refl parts.0 (none_or_one rs parts.1)
      where
        by_test : (b : Bool) → makes_up_on site d r ≡ b → is_alone (office_with records) r ≡ true → (count_by (makes_up_on site d) rs ≡ 0) ⊎ (count_by (makes_up_on site d) records ≤ 1)
            → (count_by (makes_up_on site d) (r ∷ rs) ≡ 0) ⊎ (count_by (makes_up_on site d) records ≤ 1)
        by_test true e mine rest = inr (own_day r e mine)
        by_test false e mine (inr few) = inr few
        by_test false e mine (inl none) =
            let first_is : count_by (makes_up_on site d) (r ∷ rs) ≡ 0 + count_by (makes_up_on site d) rs = count_cons (makes_up_on site d) r rs ∙ ap (λ b. cond b 1 0 + count_by (makes_up_on site d) rs) e in
            inl (omega (arith, first_is, none))

    pub one_makeup : count_by (makes_up_on site d) records ≤ 1
    one_makeup = elim (none_or_one records valid.records_alone) [ inl none ↦ omega (arith, none) | inr few ↦ few ]

  pub made-once : (d : ℕ) → count_by (λ (m : Makeup). m.makeup == d) (filter_map (makeup_by site quarter) records) ≤ 1
  made-once d = omega (arith, made_few d records, one_makeup d)

  -- ---- so those whose make-up day passes a test are no more than such days

  pub made-fit : (g : Makeup → Bool) (p : ℕ → Bool) → ((m : Makeup) → g m ≡ true → p m.makeup ≡ true)
      → length (filter g (filter_map (makeup_by site quarter) records)) ≤ count_by p (range_with_len first many)
  made-fit g p passes =
      let made = filter_map (makeup_by site quarter) records in
      let every = every-filtered InSpan g made (in_span records valid.records_fit) in
      fit (λ (m : Makeup). m.makeup) p first many (filter g made)
      (within (filter g made) every)
      (passing (filter g made) every)
      (λ d. omega (arith, count-filter (λ (m : Makeup). m.makeup == d) g made, made-once d))
    where
      within : (ms : List Makeup) → Every (λ (m : Makeup). InSpan m × (g m ≡ true)) ms → Every InSpan ms
      within [] every = tt
      within (m ∷ ms) every = (every.0.0, within ms every.1)

      passing : (ms : List Makeup) → Every (λ (m : Makeup). InSpan m × (g m ≡ true)) ms → Every (λ (m : Makeup). p m.makeup ≡ true) ms
      passing [] every = tt
      passing (m ∷ ms) every = (passes m every.0.1, passing ms every.1)
