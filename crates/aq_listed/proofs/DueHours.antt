-- The hours at which samples of a monitor are due rise, and a test tells which they are.
use Rattle.std.proofs.Common.{◌≡◌, ℕ, zero, suc, ◌+◌, ◌*◌, ◌/◌, ◌%◌, ◌<◌, ◌≤◌, ◌⊎◌, inl, inr, Bool, true, false, cond, ◌&&◌, ◌||◌, ◌==◌, List, ◌∷◌, ◌++◌, length, map, refl, ap, sym, subst, ◌∙◌, arith}
use Rattle.std.specs.Prelude.{count_by, filter, flat_map}
use Rattle.std.specs.List.{AllByRecursion, list_any, range_with_len}
use Rattle.std.proofs.lemmas.Bool.Decides.{nat_tests}
use Rattle.std.proofs.lemmas.List.{length-map}
use Rattle.std.proofs.lemmas.List.Sums.{length-filter}
use Rattle.std.proofs.lemmas.List.Concat.{flat_map-cons}
use Rattle.std.proofs.lemmas.List.FromFn.{length-range_with_len}
use Rattle.aq_base.specs.Calendar.{hour_number}
use Rattle.aq_base.specs.declared.monitor.Duration.{Duration}
use Rattle.aq_base.specs.declared.monitor.Duration.TheVariants.{Hour, Day}
use Rattle.aq_base.specs.declared.monitor.MonitorId.{MonitorId}
use Rattle.aq_rules.specs.Listed.Completeness.{due_hours, hours_of_day}
use Rattle.aq_rules.specs.Office.Office.{Office}
use Rattle.aq_rules.specs.Office.Schedule.{is_scheduled}
use Rattle.aq_series.proofs.Rising.{Later, Rising}
use Rattle.aq_listed.specs.DueSamples.{is_due}

-- ---- ranges

range-joined : (b k e l : ℕ) → b + k ≡ e → range_with_len b k ++ range_with_len e l ≡ range_with_len b (k + l)
range-joined b zero e l h =
    let here : e ≡ b = omega (arith, h) in
    let long : l ≡ 0 + l = omega arith in
    λ i. range_with_len (here i) (long i)
range-joined b (suc k) e l h =
    let long : suc (k + l) ≡ suc k + l = omega arith in
    ap (λ (r : List ℕ). b ∷ r) (range-joined (b + 1) k e l (omega (arith, h))) ∙ ap (range_with_len b) long

-- the hours of days are those from the first one's 00 on
pub hours-joined : (a n : ℕ) → flat_map hours_of_day (range_with_len a n) ≡ range_with_len (24 * a) (24 * n)
hours-joined a zero = refl
hours-joined a (suc n) =
    let start : hour_number a 0 ≡ 24 * a = omega arith in
    let long : 24 + 24 * n ≡ 24 * suc n = omega arith in
    flat_map-cons hours_of_day a (range_with_len (a + 1) n)
    ∙ (λ i. range_with_len (start i) 24 ++ hours-joined (a + 1) n i)
    ∙ range-joined (24 * a) 24 (24 * (a + 1)) (24 * n) (omega arith)
    ∙ ap (range_with_len (24 * a)) long

later-range : (m b k : ℕ) → m < b → Later (λ h. h) m (range_with_len b k)
later-range m b zero less = tt
later-range m b (suc k) less = (less, later-range m (b + 1) k (omega (arith, less)))

rising-range : (b k : ℕ) → Rising (λ h. h) (range_with_len b k)
rising-range b zero = tt
rising-range b (suc k) = (later-range b (b + 1) k (omega arith), rising-range (b + 1) k)

abbrev pub Between : ℕ → ℕ → ℕ → Type 0
Between low high hour = (low ≤ hour) × (hour < high)

within-range : (low b k high : ℕ) → low ≤ b → b + k ≤ high → AllByRecursion (Between low high) (range_with_len b k)
within-range low b zero high le ge = tt
within-range low b (suc k) high le ge = ((le, omega (arith, ge)), within-range low (b + 1) k high (omega (arith, le)) (omega (arith, ge)))

not_here : (b x : ℕ) → (b == x) ≡ false → b ≤ x → b + 1 ≤ x
not_here b x h le = grind (arith, nat_tests)

any-range : (x b k : ℕ) → b ≤ x → x < b + k → list_any (λ h. h == x) (range_with_len b k) ≡ true
any-range x b zero low high = absurd (omega (arith, low, high))
any-range x b (suc k) low high = by_test (λ more. any-range x (b + 1) k more (omega (arith, high))) (b == x) refl
  where
    by_test : (b + 1 ≤ x → list_any (λ h. h == x) (range_with_len (b + 1) k) ≡ true) → (t : Bool) → (b == x) ≡ t → ((b == x) || list_any (λ h. h == x) (range_with_len (b + 1) k)) ≡ true
    by_test rest true is = ap (λ t. t || list_any (λ h. h == x) (range_with_len (b + 1) k)) is
    by_test rest false is =
        ap (λ t. t || list_any (λ h. h == x) (range_with_len (b + 1) k)) is ∙ rest (not_here b x is low)

-- ---- hour 00 of the days that a test picks

module _ (s : ℕ → Bool) where
  abbrev picked : ℕ → ℕ → List ℕ
  picked a n = map (λ day. hour_number day 0) (filter s (range_with_len a n))

  later-picked : (m a n : ℕ) → m < 24 * a → Later (λ h. h) m (picked a n)
  later-picked m a zero less = tt
  later-picked m a (suc n) less = by_test (later-picked m (a + 1) n (omega (arith, less))) (s a)
    where
      by_test : Later (λ h. h) m (picked (a + 1) n) → (t : Bool) → Later (λ h. h) m (map (λ day. hour_number day 0) (cond t (a ∷ filter s (range_with_len (a + 1) n)) (filter s (range_with_len (a + 1) n))))
      by_test rest true = (omega (arith, less), rest)
      by_test rest false = rest

  rising-picked : (a n : ℕ) → Rising (λ h. h) (picked a n)
  rising-picked a zero = tt
  rising-picked a (suc n) = by_test (rising-picked (a + 1) n) (s a)
    where
      by_test : Rising (λ h. h) (picked (a + 1) n) → (t : Bool) → Rising (λ h. h) (map (λ day. hour_number day 0) (cond t (a ∷ filter s (range_with_len (a + 1) n)) (filter s (range_with_len (a + 1) n))))
      by_test rest true = (later-picked (hour_number a 0) (a + 1) n (omega arith), rest)
      by_test rest false = rest

  none-picked : (x a n : ℕ) → x < 24 * a → list_any (λ h. h == x) (picked a n) ≡ false
  none-picked x a zero less = refl
  none-picked x a (suc n) less = by_test (none-picked x (a + 1) n (omega (arith, less))) (s a)
    where
      not : (hour_number a 0 == x) ≡ false
      not = grind (arith, nat_tests)

      by_test : list_any (λ h. h == x) (picked (a + 1) n) ≡ false → (t : Bool) → list_any (λ h. h == x) (map (λ day. hour_number day 0) (cond t (a ∷ filter s (range_with_len (a + 1) n)) (filter s (range_with_len (a + 1) n)))) ≡ false
      by_test rest true = λ i. not i || rest i
      by_test rest false = rest

  within-picked : (low a n high : ℕ) → low ≤ 24 * a → 24 * a + 24 * n ≤ high → AllByRecursion (Between low high) (picked a n)
  within-picked low a zero high le ge = tt
  within-picked low a (suc n) high le ge = by_test (within-picked low (a + 1) n high (omega (arith, le)) (omega (arith, ge))) (s a)
    where
      by_test : AllByRecursion (Between low high) (picked (a + 1) n) → (t : Bool) → AllByRecursion (Between low high) (map (λ day. hour_number day 0) (cond t (a ∷ filter s (range_with_len (a + 1) n)) (filter s (range_with_len (a + 1) n))))
      by_test rest true = ((omega (arith, le), omega (arith, ge)), rest)
      by_test rest false = rest

  and_false : (b : Bool) → (b && false) ≡ false
  and_false true = refl
  and_false false = refl

  and_true : (b : Bool) → (b && true) ≡ b
  and_true true = refl
  and_true false = refl

  or_false : (b : Bool) → (b || false) ≡ b
  or_false true = refl
  or_false false = refl

  at_start : (a x : ℕ) → 24 * a ≤ x → x < 24 * a + 24 → (hour_number a 0 == x) ≡ (x % 24 == 0)
  at_start a x low high = grind (arith, nat_tests)

  not_yet : (a x : ℕ) → 24 * a + 24 ≤ x → (hour_number a 0 == x) ≡ false
  not_yet a x low = grind (arith, nat_tests)

  abbrev is_picked : ℕ → Bool
  is_picked x = (x % 24 == 0) && s (x / 24)

  abbrev with : Bool → ℕ → ℕ → List ℕ
  with t a n = map (λ day. hour_number day 0) (cond t (a ∷ filter s (range_with_len (a + 1) n)) (filter s (range_with_len (a + 1) n)))

  any-picked : (x a n : ℕ) → 24 * a ≤ x → x < 24 * a + 24 * n → list_any (λ h. h == x) (picked a n) ≡ is_picked x
  any-picked x a zero low high = absurd (omega (arith, low, high))
  any-picked x a (suc n) low high =
      elim (order x (24 * a + 24)) [
        | inl less ↦ now less (s a) refl
        | inr more ↦ later more (any-picked x (a + 1) n (omega (arith, more)) (omega (arith, high))) (s a)
      ]
    where
      order : (m k : ℕ) → (m < k) ⊎ (k ≤ m)
      order m k = grind arith

      now : x < 24 * a + 24 → (t : Bool) → s a ≡ t → list_any (λ h. h == x) (with t a n) ≡ is_picked x
      now less true is =
          let day : a ≡ x / 24 = omega (arith, low, less) in
          (λ i. at_start a x low less i || none-picked x (a + 1) n (omega (arith, less)) i)
          ∙ or_false (x % 24 == 0) ∙ sym (and_true (x % 24 == 0)) ∙ ap (λ b. (x % 24 == 0) && b) (sym is ∙ ap s day)
      now less false is =
          let day : a ≡ x / 24 = omega (arith, low, less) in
          none-picked x (a + 1) n (omega (arith, less))
          ∙ sym (and_false (x % 24 == 0)) ∙ ap (λ b. (x % 24 == 0) && b) (sym is ∙ ap s day)

      later : 24 * a + 24 ≤ x → list_any (λ h. h == x) (picked (a + 1) n) ≡ is_picked x → (t : Bool) → list_any (λ h. h == x) (with t a n) ≡ is_picked x
      later more rest true = λ i. not_yet a x more i || rest i
      later more rest false = rest

-- ---- the hours that are due

module _ (office : Office) (monitor : MonitorId) where
  abbrev pub due : Duration → ℕ → ℕ → List ℕ
  due duration first days = due_hours office monitor duration (range_with_len first days)

  pub due-rises : (duration : Duration) (first days : ℕ) → Rising (λ h. h) (due duration first days)
  due-rises Hour first days = subst (λ (l : List ℕ). Rising (λ h. h) l) (sym (hours-joined first days)) (rising-range (24 * first) (24 * days))
  due-rises Day first days = rising-picked (is_scheduled office.records monitor.site monitor.pollutant) first days

  pub due-is : (duration : Duration) (first days x : ℕ) → 24 * first ≤ x → x < 24 * first + 24 * days → list_any (λ h. h == x) (due duration first days) ≡ is_due office.records monitor duration x
  due-is Hour first days x low high = ap (λ (l : List ℕ). list_any (λ h. h == x) l) (hours-joined first days) ∙ any-range x (24 * first) (24 * days) low high
  due-is Day first days x low high = any-picked (is_scheduled office.records monitor.site monitor.pollutant) x first days low high

  pub due-within : (duration : Duration) (first days : ℕ) → AllByRecursion (Between (24 * first) (24 * first + 24 * days)) (due duration first days)
  due-within Hour first days = subst (λ (l : List ℕ). AllByRecursion (Between (24 * first) (24 * first + 24 * days)) l) (sym (hours-joined first days)) (within-range (24 * first) (24 * first) (24 * days) (24 * first + 24 * days) (omega arith) (omega arith))
  due-within Day first days = within-picked (is_scheduled office.records monitor.site monitor.pollutant) (24 * first) first days (24 * first + 24 * days) (omega arith) (omega arith)

-- no part of an office but its records is read
pub due-records : (office other : Office) (monitor : MonitorId) (duration : Duration) (days : List ℕ) → office.records ≡ other.records → due_hours office monitor duration days ≡ due_hours other monitor duration days
due-records office other monitor Hour days same = refl
due-records office other monitor Day days same = ap (λ records. map (λ day. hour_number day 0) (filter (is_scheduled records monitor.site monitor.pollutant) days)) same

pub hourly-length : (days : ℕ) (first : ℕ) → length (flat_map hours_of_day (range_with_len first days)) ≡ 24 * days
hourly-length days first = ap (λ (l : List ℕ). length l) (hours-joined first days) ∙ length-range_with_len (24 * first) (24 * days)

pub daily-length : (s : ℕ → Bool) (days : List ℕ) → length (map (λ day. hour_number day 0) (filter s days)) ≡ count_by s days
daily-length s days = length-map (filter s days) (λ day. hour_number day 0) ∙ length-filter s days
