-- The registered POCs of a site and pollutant: they rise, there are at most eight, and each registered monitor's is one of them.
use Rattle.std.proofs.Common.{◌≡◌, ℕ, ◌+◌, ◌<◌, ◌≤◌, ◌⊎◌, Bool, true, false, cond, ◌&&◌, ◌||◌, ◌==◌, Some, None, Option, List, [], ◌∷◌, length, refl, ap, sym, subst, ◌∙◌, arith, inl, inr}
use Rattle.std.specs.Prelude.{nat_lt, nat_le, filter, slice_get, count_by}
use Rattle.std.specs.List.{cons_option, list_any, list_all}
use Rattle.std.proofs.lemmas.Bool.{false≢true, and_parts}
use Rattle.std.proofs.lemmas.List.Sums.{sum_by-cons}
use Rattle.std.proofs.lemmas.Bool.Decides.{nat_tests}
use Rattle.std.proofs.lemmas.Slice.Eq.{bytes_eq-Decides}
use Rattle.aq_base.specs.Site.{Site}
use Rattle.aq_base.specs.declared.monitor.Duration.{Duration}
use Rattle.aq_base.specs.declared.monitor.Pollutant.{Pollutant}
use Rattle.aq_base.specs.declared.monitor.MonitorId.{MonitorId}
use Rattle.aq_base.specs.declared.office.OfficeRecord.{OfficeRecord}
use Rattle.aq_base.specs.declared.office.OfficeRecord.TheVariants.{Monitor}
use Rattle.aq_base.specs.declared.office.OfficeKey.TheVariants.{Monitor as MonitorKey}
use Rattle.aq_rules.specs.Lines.Spellings.{◌>>=◌}
use Rattle.aq_rules.specs.Office.Monitors.{is_same_site, is_same_pollutant, is_same_monitor, makes_eligible, is_eligible}
use Rattle.aq_rules.specs.Office.Office.{IsOffice, Office, comes_before, fits_records, group_of, group_size, has_its_event, has_its_monitor, duration_at, is_poc, monitor_duration, parameter_number, is_record, row_at, is_same, is_site, key_numbers, record_rank, rises, series_numbers}
use Rattle.aq_rules.specs.Office.Questions.{poc_above, next_poc}
use Rattle.aq_rules.specs.Office.Sameness.{same_site, same_pollutant, same_monitor, site_itself, pollutant_itself}
use Rattle.aq_registry.specs.Registry.{office_with}
use Rattle.aq_registry.proofs.QuestionLemmas.{same-monitors}
use Rattle.aq_series.specs.DayCells.{monitor_at, pocs_after, pocs_of}
use Rattle.aq_series.proofs.Rising.{Later, Rising, rising-ranked, last_decides, not_below_itself}

number_itself : (n : ℕ) → (n == n) ≡ true
number_itself n = grind (arith, nat_tests)

-- ---- two monitors are the same where their keys are

pub same_rank : (a b : MonitorId) → is_same (key_numbers (MonitorKey a)) (key_numbers (MonitorKey b)) ≡ is_same_monitor a b
same_rank a b = sym (same-monitors a b)

-- a registered POC is no zero
pub some_poc : (id : MonitorId) (duration : Duration) (eligible : Bool) (office : Office) → fits_records office (Monitor id duration eligible) ≡ true → nat_lt 0 id.poc ≡ true
some_poc id duration eligible office fits =
    let a = and_parts _ _ fits in
    let b = and_parts _ _ a.0 in
    let c = and_parts _ _ b.0 in
    let d = and_parts _ _ c.0 in
    let e = and_parts (is_site id.site) (is_poc id.poc) d.0 in
    let f = and_parts (nat_le 1 id.poc) (nat_le id.poc 99) e.1 in
    grind (arith, nat_tests, f.0)

-- ---- one record

module _ (site : Site) (pollutant : Pollutant) where
  abbrev pub rank_at : ℕ → List ℕ
  rank_at poc = key_numbers (MonitorKey (monitor_at site pollutant poc))

  -- the tests of a registered POC
  gives : (a b c : Bool) (n s : ℕ) → cond ((a && b) && c) (Some n) None ≡ Some s → (a ≡ true) × (b ≡ true) × (c ≡ true) × (n ≡ s)
  gives true true true n s h = (refl, refl, refl, cc)
  gives true true false n s h = cc
  gives true false c n s h = cc
  gives false b c n s h = cc

  pub rank-is : (id : MonitorId) (poc : ℕ) → is_same_site id.site site ≡ true → is_same_pollutant id.pollutant pollutant ≡ true → id.poc ≡ poc → key_numbers (MonitorKey id) ≡ rank_at poc
  rank-is id poc here this is =
      let at = same_site id.site site here in
      let of = same_pollutant id.pollutant pollutant this in
      let one : id ≡ monitor_at site pollutant poc = λ i. record { site = at i; pollutant = of i; poc = is i } in
      ap (λ k. key_numbers (MonitorKey k)) one

  ranked : (after : ℕ) (r : OfficeRecord) (s : ℕ) → poc_above site pollutant after r ≡ Some s → record_rank r ≡ rank_at s
  ranked after (Monitor id duration eligible) s h =
      let parts = gives (is_same_site id.site site) (is_same_pollutant id.pollutant pollutant) (nat_lt after id.poc) id.poc s h in
      rank-is id s parts.0 parts.1 parts.3
  ranked after r s h = cc

  pub before_poc : (s t : ℕ) → comes_before (rank_at s) (rank_at t) ≡ nat_lt s t
  before_poc s t =
      rw (number_itself site.state, number_itself site.county, number_itself site.number, not_below_itself site.state, not_below_itself site.county, not_below_itself site.number, number_itself (parameter_number pollutant), not_below_itself (parameter_number pollutant))
      (last_decides s t)

  pub pocs-rise : (records : List OfficeRecord) (after : ℕ) → rises record_rank records ≡ true → Rising (λ k. k) (pocs_after records site pollutant after)
  pocs-rise records after rising = rising-ranked record_rank rank_at (λ k. k) (poc_above site pollutant after) (ranked after) before_poc records rising

  -- ---- the next one

  narrower : (a : Bool) (after n : ℕ) (ns : List ℕ)
      → cons_option (cond (a && nat_lt after n) (Some n) None) (filter (nat_lt after) ns) ≡ filter (nat_lt after) (cons_option (cond (a && nat_lt 0 n) (Some n) None) ns)
  narrower false after n ns = refl
  narrower true after n ns = by_tests (nat_lt after n) refl (nat_lt 0 n) refl
    where
      by_tests : (b : Bool) → nat_lt after n ≡ b → (c : Bool) → nat_lt 0 n ≡ c → cons_option (cond b (Some n) None) (filter (nat_lt after) ns) ≡ filter (nat_lt after) (cons_option (cond c (Some n) None) ns)
      by_tests true above true some = ap (λ b. cond b (n ∷ filter (nat_lt after) ns) (filter (nat_lt after) ns)) (sym above)
      by_tests true above false none = let h : true ≡ false = grind (arith, nat_tests) in absurd (false≢true (sym h))
      by_tests false above true some = ap (λ b. cond b (n ∷ filter (nat_lt after) ns) (filter (nat_lt after) ns)) (sym above)
      by_tests false above false none = refl

  filtered : (after : ℕ) (records : List OfficeRecord) → pocs_after records site pollutant after ≡ filter (nat_lt after) (pocs_after records site pollutant 0)
  filtered after [] = refl
  filtered after (Monitor id duration eligible ∷ records) =
      ap (cons_option (poc_above site pollutant after (Monitor id duration eligible))) (filtered after records)
      ∙ narrower (is_same_site id.site site && is_same_pollutant id.pollutant pollutant) after id.poc (pocs_after records site pollutant 0)
  filtered after (r ∷ records) = filtered after records

  -- those above a number, in a list that rises
  kept_all : (n m : ℕ) (ns : List ℕ) → n ≤ m → Later (λ k. k) m ns → filter (nat_lt n) ns ≡ ns
  kept_all n m [] le later = refl
  kept_all n m (k ∷ ns) le later =
      let above : nat_lt n k ≡ true = let less : m < k = later.0 in grind (arith, nat_tests) in
      ap (λ b. cond b (k ∷ filter (nat_lt n) ns) (filter (nat_lt n) ns)) above ∙ ap (λ (l : List ℕ). k ∷ l) (kept_all n m ns le later.1)

  first_later : (after n p : ℕ) (ns rest : List ℕ) → Later (λ k. k) n ns → filter (nat_lt after) ns ≡ p ∷ rest → n < p
  first_later after n p [] rest later is = cc
  first_later after n p (k ∷ ns) rest later is = by_test (first_later after n p ns rest later.1) (nat_lt after k) is
    where
      by_test : (filter (nat_lt after) ns ≡ p ∷ rest → n < p) → (b : Bool) → cond b (k ∷ filter (nat_lt after) ns) (filter (nat_lt after) ns) ≡ p ∷ rest → n < p
      by_test behind true is = let one : k ≡ p = cc in subst (λ m. n < m) one later.0
      by_test behind false is = behind is

  rest-above : (after p : ℕ) (ns rest : List ℕ) → Rising (λ k. k) ns → filter (nat_lt after) ns ≡ p ∷ rest → filter (nat_lt p) ns ≡ rest
  rest-above after p [] rest rising is = cc
  rest-above after p (k ∷ ns) rest rising is = by_test (rest-above after p ns rest rising.1) (nat_lt after k) refl is
    where
      by_test : (filter (nat_lt after) ns ≡ p ∷ rest → filter (nat_lt p) ns ≡ rest) → (b : Bool) → nat_lt after k ≡ b → cond b (k ∷ filter (nat_lt after) ns) (filter (nat_lt after) ns) ≡ p ∷ rest → filter (nat_lt p) (k ∷ ns) ≡ rest
      by_test behind true above is =
          let one : k ≡ p = cc in
          let others : filter (nat_lt after) ns ≡ rest = cc in
          let le : after ≤ k = grind (arith, nat_tests) in
          subst (λ m. filter (nat_lt m) (k ∷ ns) ≡ rest) one
          (ap (λ b. cond b (k ∷ filter (nat_lt k) ns) (filter (nat_lt k) ns)) (not_below_itself k)
          ∙ kept_all k k ns (omega arith) rising.0 ∙ sym (kept_all after k ns le rising.0) ∙ others)
      by_test behind false above is =
          let less = first_later after k p ns rest rising.0 is in
          let not : nat_lt p k ≡ false = grind (arith, nat_tests) in
          ap (λ b. cond b (k ∷ filter (nat_lt p) ns) (filter (nat_lt p) ns)) not ∙ behind is

  first_of : (ns : List ℕ) (p : ℕ) → slice_get ns 0 ≡ Some p → (rest : List ℕ) × (ns ≡ p ∷ rest)
  first_of [] p h = cc
  first_of (n ∷ ns) p h = let one : n ≡ p = cc in (ns, ap (λ m. m ∷ ns) one)

  none_of : (ns : List ℕ) → slice_get ns 0 ≡ None → ns ≡ []
  none_of [] h = refl
  none_of (n ∷ ns) h = cc

  pub pocs-next : (records : List OfficeRecord) (after poc : ℕ) → rises record_rank records ≡ true → next_poc records site pollutant after ≡ Some poc → pocs_after records site pollutant after ≡ poc ∷ pocs_after records site pollutant poc
  unfolding next_poc
  pocs-next records after poc rising found =
      let is = first_of (pocs_after records site pollutant after) poc found in
      let rest = rest-above after poc (pocs_after records site pollutant 0) is.0 (pocs-rise records 0 rising) (sym (filtered after records) ∙ is.1) in
      is.1 ∙ ap (λ (l : List ℕ). poc ∷ l) (sym rest ∙ sym (filtered poc records))

  pub pocs-end : (records : List OfficeRecord) (after : ℕ) → next_poc records site pollutant after ≡ None → pocs_after records site pollutant after ≡ []
  unfolding next_poc
  pocs-end records after found = none_of (pocs_after records site pollutant after) found

  -- ---- an eligible monitor's POC is one of them

  or_true : (b : Bool) → (b || true) ≡ true
  or_true true = refl
  or_true false = refl

  still_there : (p : ℕ) (o : Option ℕ) (ns : List ℕ) → list_any (λ q. q == p) ns ≡ true → list_any (λ q. q == p) (cons_option o ns) ≡ true
  still_there p None ns h = h
  still_there p (Some q) ns h = ap (λ b. (q == p) || b) h ∙ or_true (q == p)

  abbrev is_of : MonitorId → OfficeRecord → Bool
  is_of m (Monitor id duration eligible) = is_same_monitor id m
  is_of m r = false

  registered : (p : ℕ) (all records : List OfficeRecord) → list_all (fits_records (office_with all)) records ≡ true → list_any (is_of (monitor_at site pollutant p)) records ≡ true
      → list_any (λ q. q == p) (pocs_of records site pollutant) ≡ true
  registered p all [] fits there = cc
  registered p all (Monitor id duration eligible ∷ records) fits there =
      by_test (registered p all records parts.1) (is_same_monitor id (monitor_at site pollutant p)) refl there
    where
      parts : (fits_records (office_with all) (Monitor id duration eligible) ≡ true) × (list_all (fits_records (office_with all)) records ≡ true)
      parts = and_parts _ _ fits

      by_test : (list_any (is_of (monitor_at site pollutant p)) records ≡ true → list_any (λ q. q == p) (pocs_of records site pollutant) ≡ true)
          → (b : Bool) → is_same_monitor id (monitor_at site pollutant p) ≡ b → (b || list_any (is_of (monitor_at site pollutant p)) records) ≡ true
          → list_any (λ q. q == p) (cons_option (poc_above site pollutant 0 (Monitor id duration eligible)) (pocs_of records site pollutant)) ≡ true
      by_test rest true same there =
          let one = same_monitor id (monitor_at site pollutant p) same in
          let some : nat_lt 0 p ≡ true = subst (λ (k : MonitorId). nat_lt 0 k.poc ≡ true) one (some_poc id duration eligible (office_with all) parts.0) in
          let here : poc_above site pollutant 0 (Monitor id duration eligible) ≡ Some p =
          ap (λ (k : MonitorId). poc_above site pollutant 0 (Monitor k duration eligible)) one
          ∙ (λ i. cond ((site_itself site i && pollutant_itself pollutant i) && some i) (Some p) None)
          in
          ap (λ o. list_any (λ q. q == p) (cons_option o (pocs_of records site pollutant))) here ∙ ap (λ b. b || list_any (λ q. q == p) (pocs_of records site pollutant)) (number_itself p)
      by_test rest false other there = still_there p (poc_above site pollutant 0 (Monitor id duration eligible)) (pocs_of records site pollutant) (rest there)
  registered p all (r ∷ records) fits there = registered p all records (and_parts _ _ fits).1 there

  eligible_is_of : (m : MonitorId) (records : List OfficeRecord) → list_any (makes_eligible m) records ≡ true → list_any (is_of m) records ≡ true
  eligible_is_of m [] h = cc
  eligible_is_of m (Monitor id duration eligible ∷ records) h = by_tests (eligible_is_of m records) (is_same_monitor id m) eligible h
    where
      by_tests : (list_any (makes_eligible m) records ≡ true → list_any (is_of m) records ≡ true) → (a b : Bool) → ((a && b) || list_any (makes_eligible m) records) ≡ true → (a || list_any (is_of m) records) ≡ true
      by_tests rest true b h = refl
      by_tests rest false b h = rest h
  eligible_is_of m (r ∷ records) h = eligible_is_of m records h

  pub eligible_there : (p : ℕ) (records : List OfficeRecord) → IsOffice (office_with records) → is_eligible records (monitor_at site pollutant p) ≡ true → list_any (λ q. q == p) (pocs_of records site pollutant) ≡ true
  unfolding is_eligible
  eligible_there p records valid eligible = registered p records records valid.records_fit (eligible_is_of (monitor_at site pollutant p) records eligible)

  lasting_is_of : (m : MonitorId) (duration : Duration) (records : List OfficeRecord) → row_at record_rank (key_numbers (MonitorKey m)) records >>= monitor_duration ≡ Some duration → list_any (is_of m) records ≡ true
  lasting_is_of m duration [] h = cc
  lasting_is_of m duration (Monitor id d e ∷ records) h = by_test (lasting_is_of m duration records) (is_same_monitor id m) (same_rank id m) h
    where
      by_test : (row_at record_rank (key_numbers (MonitorKey m)) records >>= monitor_duration ≡ Some duration → list_any (is_of m) records ≡ true)
          → (b : Bool) → is_same (record_rank (Monitor id d e)) (key_numbers (MonitorKey m)) ≡ b
          → cond (is_same (record_rank (Monitor id d e)) (key_numbers (MonitorKey m))) (Some (Monitor id d e)) (row_at record_rank (key_numbers (MonitorKey m)) records) >>= monitor_duration ≡ Some duration
          → (b || list_any (is_of m) records) ≡ true
      by_test rest true same h = refl
      by_test rest false other h = rest (ap (λ b. cond b (Some (Monitor id d e)) (row_at record_rank (key_numbers (MonitorKey m)) records) >>= monitor_duration) (sym other) ∙ h)
  lasting_is_of m duration (r ∷ records) h = lasting_is_of m duration records h

  pub lasting_there : (p : ℕ) (duration : Duration) (records : List OfficeRecord) → IsOffice (office_with records) → duration_at (office_with records) (monitor_at site pollutant p) ≡ Some duration → list_any (λ q. q == p) (pocs_of records site pollutant) ≡ true
  lasting_there p duration records valid lasts = registered p records records valid.records_fit (lasting_is_of (monitor_at site pollutant p) duration records lasts)

  -- ---- there are at most eight

  abbrev group : List ℕ
  group = 1 ∷ series_numbers site pollutant

  and_true : (b : Bool) → (b && true) ≡ b
  and_true true = refl
  and_true false = refl

  in_group : (after : ℕ) (r : OfficeRecord) (s : ℕ) → poc_above site pollutant after r ≡ Some s → is_same (group_of r) group ≡ true
  in_group after (Monitor id duration eligible) s h =
      let parts = gives (is_same_site id.site site) (is_same_pollutant id.pollutant pollutant) (nat_lt after id.poc) id.poc s h in
      let at = same_site id.site site parts.0 in
      let of = same_pollutant id.pollutant pollutant parts.1 in
      (λ i. is_same (1 ∷ series_numbers (at i) (of i)) group) ∙ rw (number_itself site.state, number_itself site.county, number_itself site.number, number_itself (parameter_number pollutant)) refl
  in_group after r s h = cc

  count-cons : (p : OfficeRecord → Bool) (r : OfficeRecord) (rs : List OfficeRecord) → count_by p (r ∷ rs) ≡ cond (p r) 1 0 + count_by p rs
  count-cons p r rs = sum_by-cons (λ x. cond (p x) 1 0) r rs

  counted : (after : ℕ) (records : List OfficeRecord) → length (pocs_after records site pollutant after) ≤ count_by (λ other. is_same (group_of other) group) records
  counted after [] = omega arith
  counted after (r ∷ records) =
      let step = by_given (counted after records) (poc_above site pollutant after r) refl (is_same (group_of r) group) refl in
      omega (arith, step, count-cons (λ (other : OfficeRecord). is_same (group_of other) group) r records)
    where
      by_given : length (pocs_after records site pollutant after) ≤ count_by (λ other. is_same (group_of other) group) records → (o : Option ℕ) → poc_above site pollutant after r ≡ o → (b : Bool) → is_same (group_of r) group ≡ b
          → length (cons_option o (pocs_after records site pollutant after)) ≤ cond b 1 0 + count_by (λ other. is_same (group_of other) group) records
      by_given rest None given true same = omega (arith, rest)
      by_given rest None given false same = omega (arith, rest)
      by_given rest (Some s) given true same = omega (arith, rest)
      by_given rest (Some s) given false other = absurd (false≢true (sym other ∙ in_group after r s given))

  few_of : (n : ℕ) → nat_le n 8 ≡ true → n ≤ 8
  few_of n h = grind (arith, nat_tests)

  -- either a list has none, or the group of its first is that of all
  none_or_few : (all records : List OfficeRecord) → list_all (fits_records (office_with all)) records ≡ true
      → (pocs_after records site pollutant 0 ≡ []) ⊎ (count_by (λ other. is_same (group_of other) group) all ≤ 8)
  none_or_few all [] fits = inl refl
  none_or_few all (Monitor id duration eligible ∷ records) fits =
      by_given (none_or_few all records parts.1) (poc_above site pollutant 0 (Monitor id duration eligible)) refl
    where
      parts : (fits_records (office_with all) (Monitor id duration eligible) ≡ true) × (list_all (fits_records (office_with all)) records ≡ true)
      parts = and_parts _ _ fits

      small : nat_le (count_by (λ other. is_same (group_of other) (group_of (Monitor id duration eligible))) all) 8 ≡ true
      small =
          (and_parts (is_record (Monitor id duration eligible) && has_its_monitor (office_with all) (Monitor id duration eligible) && has_its_event (office_with all) (Monitor id duration eligible))
          (nat_le (group_size (office_with all) (Monitor id duration eligible)) 8) parts.0).1

      by_given : (pocs_after records site pollutant 0 ≡ []) ⊎ (count_by (λ other. is_same (group_of other) group) all ≤ 8)
          → (o : Option ℕ) → poc_above site pollutant 0 (Monitor id duration eligible) ≡ o
          → (cons_option o (pocs_after records site pollutant 0) ≡ []) ⊎ (count_by (λ other. is_same (group_of other) group) all ≤ 8)
      by_given rest None none = rest
      by_given rest (Some s) given =
          let one : group_of (Monitor id duration eligible) ≡ group = (bytes_eq-Decides _ _).0 (in_group 0 (Monitor id duration eligible) s given) in
          inr (few_of _ (ap (λ g. nat_le (count_by (λ other. is_same (group_of other) g) all) 8) (sym one) ∙ small))
  none_or_few all (r ∷ records) fits = none_or_few all records (and_parts _ _ fits).1

  pub pocs-few : (records : List OfficeRecord) → IsOffice (office_with records) → length (pocs_after records site pollutant 0) ≤ 8
  pocs-few records valid =
      elim (none_or_few records records valid.records_fit) [
        | inl none ↦ let e = ap length none in omega (arith, e)
        | inr few ↦ omega (arith, few, counted 0 records)
      ]
