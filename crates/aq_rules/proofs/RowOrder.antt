-- The order of rows by their columns is that of the office's lists.
use Rattle.std.proofs.Common.{◌≡◌, ℕ, ◌+◌, ◌*◌, ◌<◌, ◌⊎◌, Bool, true, false, ◌&&◌, ◌||◌, List, [], ◌∷◌, map, refl, sym, ap, ◌∙◌, arith, inl, inr}
use Rattle.std.specs.Prelude.{pos, nat_lt, nat_le, ◌==◌}
use Rattle.std.specs.Ordering.{int_eq}
use Rattle.std.proofs.lemmas.Bool.{false≢true, and_parts, cases_Bool, eq-eqb, eqb-true, le-ltb, lt-ltb}
use Rattle.std.proofs.lemmas.Bool.Decides.{nat_tests, Decides-int_eq}
use lib.Pointwise.{pointwise}
use Rattle.aq_base.specs.Site.{Site}
use Rattle.aq_base.specs.declared.observation.ObsKey.{ObsKey}
use Rattle.aq_base.specs.declared.office.OfficeKey.{OfficeKey}
use Rattle.aq_rules.specs.Lines.Canonical.{printed_key}
use Rattle.aq_rules.specs.Office.Office.{is_same, comes_before, kind_of, key_numbers, is_key, is_site, pollutant_number, observation_numbers}
use Rattle.aq_rules.specs.Kept.Rows.{site_key}
use Rattle.aq_rules.specs.Kept.RowChanges.{RowKey, LoadRowKey, columns_before, key_before, is_same_row_key, office_row_key, obs_row_key}
use Rattle.aq_rules.specs.Office.RowOrder.{before-total}
use Rattle.aq_rules.proofs.Tests.{one_answer}
use Rattle.aq_rules.proofs.KeyOrder.{printed_order}
use Rattle.aq_rules.proofs.StoredHours.{stored-before, stored-same}
use Rattle.aq_rules.proofs.Lookups.{same-is, before-other, before-other_way}

differs : (x y : ℕ) → (x ≡ y → ⊥) → (x == y) ≡ false
differs x y h = elim (cases_Bool (x == y)) [ inl e ↦ absurd (h (eqb-true x y e)) | inr e ↦ e ]

-- ---- columns that are whole numbers

lift-equal : (x y : ℕ) → int_eq (pos x) (pos y) ≡ (x == y)
lift-equal x y =
    one_answer (int_eq (pos x) (pos y)) (x == y)
    (λ h. let e : pos x ≡ pos y = (Decides-int_eq (pos x) (pos y)).0 h in let f : x ≡ y = cc in eq-eqb x y f)
    (λ h. (Decides-int_eq (pos x) (pos y)).1 (ap pos (eqb-true x y h)))

pub lift-before : (xs ys : List ℕ) → columns_before (map pos xs) (map pos ys) ≡ comes_before xs ys
lift-before xs [] = no_columns xs
  where
    no_columns : (xs : List ℕ) → columns_before (map pos xs) [] ≡ comes_before xs []
    no_columns [] = refl
    no_columns (x ∷ xs) = refl
lift-before [] (y ∷ ys) = refl
lift-before (x ∷ xs) (y ∷ ys) = λ i. nat_lt x y || (lift-equal x y i && lift-before xs ys i)

pub lift-same : (xs ys : List ℕ) → pointwise int_eq (map pos xs) (map pos ys) ≡ is_same xs ys
lift-same [] [] = refl
lift-same [] (y ∷ ys) = refl
lift-same (x ∷ xs) [] = refl
lift-same (x ∷ xs) (y ∷ ys) = λ i. lift-equal x y i && lift-same xs ys i

-- ---- two orders that agree both ways have the same ties

tie : (a b c d : List ℕ) → comes_before a b ≡ comes_before c d → comes_before b a ≡ comes_before d c → is_same a b ≡ true → is_same c d ≡ true
tie a b c d there back same =
    elim (cases_Bool (is_same c d)) [
      | inl is ↦ is
      | inr other ↦
          let equal = same-is a b same in
          let not_there : comes_before c d ≡ false =
          elim (cases_Bool (comes_before c d)) [ inl h ↦ absurd (false≢true (sym (before-other a b (there ∙ h)) ∙ same)) | inr h ↦ h ]
          in
          let after = before-total c d not_there other in
          absurd (false≢true (sym (before-other_way b a (back ∙ after)) ∙ same))
    ]

same-agrees : (a b c d : List ℕ) → comes_before a b ≡ comes_before c d → comes_before b a ≡ comes_before d c → is_same a b ≡ is_same c d
same-agrees a b c d there back = one_answer (is_same a b) (is_same c d) (tie a b c d there back) (tie c d a b (sym there) (sym back))

-- keys that stand to each other as two ranks
pub record Agree (a b : List ℕ) (k l : RowKey) : Type 0 where
  pub before : key_before k l ≡ comes_before a b
  pub same : is_same_row_key k l ≡ is_same a b

-- ---- records

pub office-agree : (a b : OfficeKey) → is_key a ≡ true → is_key b ≡ true → Agree (key_numbers a) (key_numbers b) (office_row_key a) (office_row_key b)
office-agree a b p q =
    let xs = kind_of a ∷ printed_key a in
    let ys = kind_of b ∷ printed_key b in
    record {
      before = lift-before (0 ∷ xs) (0 ∷ ys) ∙ sym (printed_order a b p q);
      same = lift-same (0 ∷ xs) (0 ∷ ys) ∙ same-agrees xs ys (key_numbers a) (key_numbers b) (sym (printed_order a b p q)) (sym (printed_order b a q p));
    }

-- ---- observations

three : (x y : ℕ) → (x < y) ⊎ ((x ≡ y) ⊎ (y < x))
three x y =
    elim (cases_Bool (nat_lt x y)) [
      | inl l ↦ inl (grind (arith, nat_tests))
      | inr g ↦ inr (elim (cases_Bool (x == y)) [ inl e ↦ inl (eqb-true x y e) | inr d ↦ inr (grind (arith, nat_tests)) ])
    ]

-- pairs of numbers in the order of the numbers m and n that they make
module _ (a b c d m n : ℕ) (rest : Bool) where
  paired : (a < c → m < n) → (c < a → n < m) → (a ≡ c → b < d → m < n) → (a ≡ c → d < b → n < m) → (a ≡ c → b ≡ d → m ≡ n)
      → (nat_lt a c || ((a == c) && (nat_lt b d || ((b == d) && rest)))) ≡ (nat_lt m n || ((m == n) && rest))
  paired low high same_low same_high same =
      elim (three a c) [
        | inl l ↦ rw (lt-ltb a c l, lt-ltb m n (low l)) refl
        | inr h ↦ elim h [
          | inr g ↦ rw (le-ltb a c (omega arith), differs a c (λ e. omega arith), le-ltb m n (let k = high g in omega arith), differs m n (λ e. let k = high g in omega arith)) refl
          | inl e ↦ rw (le-ltb a c (omega arith), eq-eqb a c e) (elim (three b d) [
            | inl l ↦ rw (lt-ltb b d l, lt-ltb m n (same_low e l)) refl
            | inr i ↦ elim i [
              | inr g ↦ rw (le-ltb b d (omega arith), differs b d (λ f. omega arith), le-ltb m n (let k = same_high e g in omega arith), differs m n (λ f. let k = same_high e g in omega arith)) refl
              | inl f ↦ rw (le-ltb b d (omega arith), eq-eqb b d f, le-ltb m n (let k = same e f in omega arith), eq-eqb m n (same e f)) refl
            ]
          ])
        ]
      ]

under : (a b c : ℕ) → nat_le a b ≡ true → b < c → a < c
under a b c h k = grind (arith, nat_tests)

site-before : (s t : Site) (rest : Bool) → is_site s ≡ true → is_site t ≡ true
    → (nat_lt s.state t.state || ((s.state == t.state) && (nat_lt s.county t.county || ((s.county == t.county) && (nat_lt s.number t.number || ((s.number == t.number) && rest))))))
    ≡ (nat_lt (site_key s) (site_key t) || ((site_key s == site_key t) && rest))
site-before s t rest p q =
    let sp = and_parts (nat_le s.state 99 && nat_le s.county 999) (nat_le s.number 9999) p in
    let tp = and_parts (nat_le t.state 99 && nat_le t.county 999) (nat_le t.number 9999) q in
    let sc = under s.county 999 1000 (and_parts (nat_le s.state 99) (nat_le s.county 999) sp.0).1 (omega arith) in
    let tc = under t.county 999 1000 (and_parts (nat_le t.state 99) (nat_le t.county 999) tp.0).1 (omega arith) in
    let sn = under s.number 9999 10000 sp.1 (omega arith) in
    let tn = under t.number 9999 10000 tp.1 (omega arith) in
    paired s.state s.county t.state t.county (s.state * 1000 + s.county) (t.state * 1000 + t.county) (nat_lt s.number t.number || ((s.number == t.number) && rest))
    (λ h. omega arith) (λ h. omega arith) (λ e h. omega arith) (λ e h. omega arith) (λ e h. omega arith)
    ∙ paired (s.state * 1000 + s.county) s.number (t.state * 1000 + t.county) t.number (site_key s) (site_key t) rest
    (λ h. omega arith) (λ h. omega arith) (λ e h. omega arith) (λ e h. omega arith) (λ e h. omega arith)

obs-before : (a b : ObsKey) → is_site a.monitor.site ≡ true → is_site b.monitor.site ≡ true
    → comes_before (observation_numbers a) (observation_numbers b)
    ≡ comes_before (site_key a.monitor.site ∷ pollutant_number a.monitor.pollutant ∷ a.monitor.poc ∷ a.hour ∷ []) (site_key b.monitor.site ∷ pollutant_number b.monitor.pollutant ∷ b.monitor.poc ∷ b.hour ∷ [])
obs-before a b p q =
    site-before a.monitor.site b.monitor.site
    (comes_before (pollutant_number a.monitor.pollutant ∷ a.monitor.poc ∷ a.hour ∷ []) (pollutant_number b.monitor.pollutant ∷ b.monitor.poc ∷ b.hour ∷ [])) p q

pub obs-agree : (a b : ObsKey) → is_site a.monitor.site ≡ true → is_site b.monitor.site ≡ true → Agree (observation_numbers a) (observation_numbers b) (obs_row_key a) (obs_row_key b)
obs-agree a b p q =
    let s = site_key a.monitor.site in
    let t = site_key b.monitor.site in
    let m = pollutant_number a.monitor.pollutant in
    let n = pollutant_number b.monitor.pollutant in
    let c = a.monitor.poc in
    let d = b.monitor.poc in
    let xs = s ∷ m ∷ c ∷ a.hour ∷ [] in
    let ys = t ∷ n ∷ d ∷ b.hour ∷ [] in
    let before : key_before (obs_row_key a) (obs_row_key b) ≡ comes_before xs ys =
    λ i. nat_lt s t || (lift-equal s t i && (nat_lt m n || (lift-equal m n i && (nat_lt c d || (lift-equal c d i && (stored-before a.hour b.hour i || (stored-same a.hour b.hour i && false)))))))
    in
    let same : is_same_row_key (obs_row_key a) (obs_row_key b) ≡ is_same xs ys =
    λ i. lift-equal s t i && (lift-equal m n i && (lift-equal c d i && (stored-same a.hour b.hour i && true)))
    in
    record {
      before = before ∙ sym (obs-before a b p q);
      same = same ∙ same-agrees xs ys (observation_numbers a) (observation_numbers b) (sym (obs-before a b p q)) (sym (obs-before b a q p));
    }

-- ---- loads

pub load-agree : (m n : ℕ) → Agree (m ∷ []) (n ∷ []) (LoadRowKey (pos m)) (LoadRowKey (pos n))
load-agree m n = record { before = lift-before (2 ∷ m ∷ []) (2 ∷ n ∷ []); same = lift-same (2 ∷ m ∷ []) (2 ∷ n ∷ []) }
