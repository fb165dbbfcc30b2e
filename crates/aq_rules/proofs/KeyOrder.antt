-- The order of keys as numbers is the order of their kinds and the bytes of their printed keys.
use Rattle.std.proofs.Common.{◌≡◌, ℕ, suc, zero, ◌+◌, ◌-◌, ◌*◌, ◌/◌, ◌%◌, ◌^◌, ◌<◌, ◌≤◌, Bool, true, false, ◌&&◌, ◌||◌, List, [], ◌∷◌, ◌++◌, length, refl, sym, ap, ◌∙◌, arith, inl, inr, subst, length-append}
use Rattle.std.specs.Prelude.{nat_lt, nat_le, ◌==◌, bytes_eq}
use native.Mathlib.Numerals.{unary_clauses}
use Rattle.std.proofs.lemmas.Bool.{false≢true, and_parts, cases_Bool}
use Rattle.std.proofs.lemmas.Bool.Decides.{nat_tests}
use Rattle.aq_base.specs.Calendar.{days_of_years, days_of_months, year_of, month_of, day_of_month, days_in_month, is_year}
use Rattle.aq_base.specs.Decimal.{last_digits}
use Rattle.aq_base.specs.declared.office.OfficeKey.{OfficeKey}
use Rattle.aq_base.specs.declared.office.OfficeKey.TheVariants.{Monitor as MonitorKey, Primary as PrimaryKey, Schedule as ScheduleKey, Season as SeasonKey, Makeup as MakeupKey, Event as EventKey, Concurrence as ConcurrenceKey, Approved as ApprovedKey, Combined as CombinedKey}
use Rattle.aq_base.specs.Site.{Site}
use Rattle.aq_base.specs.declared.day.TheConstants.{FIRST_YEAR, LAST_YEAR, LAST_DAY}
use Rattle.aq_base.specs.declared.monitor.Pollutant.{Pollutant}
use Rattle.aq_base.specs.declared.monitor.Pollutant.TheVariants.{Ozone, Pm25, Pm10}
use Rattle.aq_rules.specs.Lines.Spellings.{has_parameter, Xs, Xb}
use Rattle.aq_rules.specs.Office.Office.{is_same, comes_before, parameter_number, site_numbers, series_numbers, part_numbers, key_numbers, kind_of, is_site, is_day, is_poc, is_key}
use Rattle.aq_rules.specs.Lines.Canonical.{parameter_text, date_text, site_texts, joined, key_texts, printed_key}
use Rattle.aq_rules.specs.Office.RowOrder.{before-total}
use Rattle.aq_rules.proofs.Days.{IsDate, date_of, years_rise, months_rise, months_next}

-- two texts that stand to each other as two numbers
record Ordered (xs ys : List ℕ) (m n : ℕ) : Type 0 where
  len : length xs ≡ length ys
  before : comes_before xs ys ≡ nat_lt m n
  same : bytes_eq xs ys ≡ (m == n)

regroup : (l e b s r : Bool) → (l || (e && (b || (s && r)))) ≡ ((l || (e && b)) || ((e && s) && r))
regroup true e b s r = refl
regroup false true b s r = refl
regroup false false b s r = refl

before-append : (xs ys us vs : List ℕ) → length xs ≡ length ys
    → comes_before (xs ++ us) (ys ++ vs) ≡ (comes_before xs ys || (bytes_eq xs ys && comes_before us vs))
before-append [] [] us vs len = refl
before-append [] (y ∷ ys) us vs len = absurd (omega arith)
before-append (x ∷ xs) [] us vs len = absurd (omega arith)
before-append (x ∷ xs) (y ∷ ys) us vs len =
    ap (λ t. nat_lt x y || ((x == y) && t)) (before-append xs ys us vs (omega arith))
    ∙ regroup (nat_lt x y) (x == y) (comes_before xs ys) (bytes_eq xs ys) (comes_before us vs)

same_regroup : (e s r : Bool) → (e && (s && r)) ≡ ((e && s) && r)
same_regroup true s r = refl
same_regroup false s r = refl

same-append : (xs ys us vs : List ℕ) → length xs ≡ length ys → bytes_eq (xs ++ us) (ys ++ vs) ≡ (bytes_eq xs ys && bytes_eq us vs)
same-append [] [] us vs len = refl
same-append [] (y ∷ ys) us vs len = absurd (omega arith)
same-append (x ∷ xs) [] us vs len = absurd (omega arith)
same-append (x ∷ xs) (y ∷ ys) us vs len =
    ap (λ t. (x == y) && t) (same-append xs ys us vs (omega arith)) ∙ same_regroup (x == y) (bytes_eq xs ys) (bytes_eq us vs)

pub digits_next : (w n : ℕ) → last_digits (suc w) n ≡ last_digits w (n / 10) ++ (48 + n % 10) ∷ []
unfolding last_digits
digits_next w n = refl

pub length-digits : (w n : ℕ) → length (last_digits w n) ≡ w
length-digits zero n = unfold last_digits in refl
length-digits (suc w) n =
    ap length (digits_next w n)
    ∙ (let rest = length-digits w (n / 10) in omega (arith, rest, length-append (last_digits w (n / 10)) ((48 + n % 10) ∷ [])))

digits_less : (m n : ℕ) → (nat_lt (m / 10) (n / 10) || (((m / 10) == (n / 10)) && (nat_lt (48 + m % 10) (48 + n % 10) || (((48 + m % 10) == (48 + n % 10)) && false)))) ≡ nat_lt m n
digits_less m n = grind (arith, nat_tests)

digits_same : (m n : ℕ) → (((m / 10) == (n / 10)) && (((48 + m % 10) == (48 + n % 10)) && true)) ≡ (m == n)
digits_same m n = grind (arith, nat_tests)

no_digits : (m n : ℕ) → m ≡ 0 → n ≡ 0 → Ordered (last_digits 0 m) (last_digits 0 n) m n
unfolding last_digits
no_digits m n p q = record { len = refl; before = grind (arith, nat_tests); same = grind (arith, nat_tests) }

ordered-digits : (w m n : ℕ) → m < 10 ^ w → n < 10 ^ w → Ordered (last_digits w m) (last_digits w n) m n
ordered-digits zero m n p q = no_digits m n (omega arith) (omega arith)
ordered-digits (suc w) m n p q =
    let grows : 10 ^ suc w ≡ 10 * 10 ^ w = simp unary_clauses (omega arith) in
    let rest = ordered-digits w (m / 10) (n / 10) (omega arith) (omega arith) in
    let xs = last_digits w (m / 10) in
    let ys = last_digits w (n / 10) in
    let us = (48 + m % 10) ∷ [] in
    let vs = (48 + n % 10) ∷ [] in
    subst (λ t. Ordered t (last_digits (suc w) n) m n) (sym (digits_next w m))
    (subst (λ t. Ordered (xs ++ us) t m n) (sym (digits_next w n))
    (record {
      len = length-append xs us ∙ ap (λ k. k + 1) rest.len ∙ sym (length-append ys vs);
      before =
          before-append xs ys us vs rest.len
          ∙ ap (λ b. b || (bytes_eq xs ys && comes_before us vs)) rest.before
          ∙ ap (λ s. nat_lt (m / 10) (n / 10) || (s && comes_before us vs)) rest.same
          ∙ digits_less m n;
      same = same-append xs ys us vs rest.len ∙ ap (λ s. s && bytes_eq us vs) rest.same ∙ digits_same m n;
    }))

-- ---- dates

le_both : {a b c : ℕ} → a ≤ b → b ≤ c → a ≤ c
le_both p q = omega arith

years_apart : (k n : ℕ) → days_of_years k ≤ days_of_years (k + n)
years_apart k zero = let same : k + 0 ≡ k = omega arith in rw same (omega arith)
years_apart k (suc n) =
    let same : k + suc n ≡ k + n + 1 = omega arith in
    rw same (le_both (years_apart k n) (years_rise (k + n)))

months_apart : (y k n : ℕ) → days_of_months y k ≤ days_of_months y (k + n)
months_apart y k zero = let same : k + 0 ≡ k = omega arith in rw same (omega arith)
months_apart y k (suc n) =
    let same : k + suc n ≡ k + n + 1 = omega arith in
    rw same (le_both (months_apart y k n) (months_rise y (k + n)))

pub years_in_order : (k m : ℕ) → k ≤ m → days_of_years k ≤ days_of_years m
years_in_order k m h = subst (λ t. days_of_years k ≤ days_of_years t) {x = k + (m - k)} (omega arith) (years_apart k (m - k))

pub months_in_order : (y k m : ℕ) → k ≤ m → days_of_months y k ≤ days_of_months y m
months_in_order y k m h = subst (λ t. days_of_months y k ≤ days_of_months y t) {x = k + (m - k)} (omega arith) (months_apart y k (m - k))

-- an earlier year, and an earlier month of a year, has the earlier days
earlier_year : (d e y z j i : ℕ) → IsDate d y j → IsDate e z i → y < z → d < e
earlier_year d e y z j i a b h =
    let low = b.from in
    let high = a.before in
    let p = a.in_profile.0 in
    let apart = years_in_order (y - FIRST_YEAR + 1) (z - FIRST_YEAR) (omega arith) in
    omega arith

earlier_month : (d e y j i : ℕ) → IsDate d y j → IsDate e y i → j < i → d < e
earlier_month d e y j i a b h =
    let low = b.from in
    let from = a.from in
    let day = a.day in
    let within = a.within in
    let next = months_next y j in
    let apart = months_in_order y (j + 1) i (omega arith) in
    omega arith

lex_less : (d e y z j i a b : ℕ) → (y < z → d < e) → (z < y → e < d) → (y ≡ z → j < i → d < e) → (y ≡ z → i < j → e < d)
    → (y ≡ z → j ≡ i → d + b ≡ e + a)
    → (nat_lt y z || ((y == z) && (nat_lt j i || ((j == i) && nat_lt a b)))) ≡ nat_lt d e
lex_less d e y z j i a b h1 h2 h3 h4 h5 = grind (arith, nat_tests)

lex_same : (d e y z j i a b : ℕ) → (y < z → d < e) → (z < y → e < d) → (y ≡ z → j < i → d < e) → (y ≡ z → i < j → e < d)
    → (y ≡ z → j ≡ i → d + b ≡ e + a)
    → ((y == z) && ((j == i) && (a == b))) ≡ (d == e)
lex_same d e y z j i a b h1 h2 h3 h4 h5 = grind (arith, nat_tests)

same_month : (d e y z j i : ℕ) → IsDate d y j → IsDate e z i → y ≡ z → j ≡ i → d + day_of_month e ≡ e + day_of_month d
same_month d e y z j i a b s t =
    let first : days_of_years (y - FIRST_YEAR) + days_of_months y j ≡ days_of_years (z - FIRST_YEAR) + days_of_months z i =
    ap (λ k. days_of_years (k - FIRST_YEAR) + days_of_months k j) s ∙ ap (λ k. days_of_years (z - FIRST_YEAR) + days_of_months z k) t
    in
    let da = a.day in
    let db = b.day in
    let fa = a.from in
    let fb = b.from in
    omega arith

before-two : (xs ys : List ℕ) (m n : ℕ) (us vs : List ℕ) (r : Bool) → Ordered xs ys m n → comes_before us vs ≡ r
    → comes_before (xs ++ us) (ys ++ vs) ≡ (nat_lt m n || ((m == n) && r))
before-two xs ys m n us vs r o rest =
    before-append xs ys us vs o.len
    ∙ ap (λ b. b || (bytes_eq xs ys && comes_before us vs)) o.before
    ∙ ap (λ b. nat_lt m n || (b && comes_before us vs)) o.same
    ∙ ap (λ b. nat_lt m n || ((m == n) && b)) rest

same-two : (xs ys : List ℕ) (m n : ℕ) (us vs : List ℕ) (r : Bool) → Ordered xs ys m n → bytes_eq us vs ≡ r
    → bytes_eq (xs ++ us) (ys ++ vs) ≡ ((m == n) && r)
same-two xs ys m n us vs r o rest =
    same-append xs ys us vs o.len ∙ ap (λ b. b && bytes_eq us vs) o.same ∙ ap (λ b. (m == n) && b) rest

pub site_bounds : (s : Site) → is_site s ≡ true → (s.state < 10 ^ 2) × (s.county < 10 ^ 3) × (s.number < 10 ^ 4)
site_bounds s p =
    let one = and_parts (nat_le s.state 99 && nat_le s.county 999) (nat_le s.number 9999) p in
    let two = and_parts (nat_le s.state 99) (nat_le s.county 999) one.0 in
    (less s.state 99 two.0, less s.county 999 two.1, less s.number 9999 one.1)
  where
    less : (n m : ℕ) → nat_le n m ≡ true → n < m + 1
    less n m h = grind (arith, nat_tests)

pub month_short : (y m : ℕ) → days_in_month y m ≤ 31
month_short y m = grind (arith, nat_tests)

ordered-date_parts : (d e y z j i : ℕ) → IsDate d y j → IsDate e z i → Ordered (date_text d) (date_text e) d e
unfolding last_digits
ordered-date_parts d e y z j i a b =
    let ya = a.year in
    let yb = b.year in
    let ma = a.month in
    let mb = b.month in
    let da = a.day in
    let db = b.day in
    let wa = a.within in
    let wb = b.within in
    let fa = a.few in
    let fb = b.few in
    let pa = a.in_profile.1 in
    let pb = b.in_profile.1 in
    let sa = month_short y (j + 1) in
    let sb = month_short z (i + 1) in
    let year = ordered-digits 4 (year_of d) (year_of e) (omega arith) (omega arith) in
    let month = ordered-digits 2 (month_of d) (month_of e) (omega arith) (omega arith) in
    let day = ordered-digits 2 (day_of_month d) (day_of_month e) (omega arith) (omega arith) in
    let h1 : year_of d < year_of e → d < e = λ l. earlier_year d e y z j i a b (omega arith) in
    let h2 : year_of e < year_of d → e < d = λ l. earlier_year e d z y i j b a (omega arith) in
    let h3 : year_of d ≡ year_of e → month_of d < month_of e → d < e = λ s l.
    earlier_month d e y j i a (subst (λ t. IsDate e t i) {x = z} (omega arith) b) (omega arith)
    in
    let h4 : year_of d ≡ year_of e → month_of e < month_of d → e < d = λ s l.
    earlier_month e d y i j (subst (λ t. IsDate e t i) {x = z} (omega arith) b) a (omega arith)
    in
    let h5 : year_of d ≡ year_of e → month_of d ≡ month_of e → d + day_of_month e ≡ e + day_of_month d = λ s t.
    same_month d e y z j i a b (omega arith) (omega arith)
    in
    let dt = last_digits 2 (month_of d) ++ last_digits 2 (day_of_month d) in
    let et = last_digits 2 (month_of e) ++ last_digits 2 (day_of_month e) in
    let before_rest = before-two (last_digits 2 (month_of d)) (last_digits 2 (month_of e)) _ _ (last_digits 2 (day_of_month d)) (last_digits 2 (day_of_month e)) _ month day.before in
    let same_rest = same-two (last_digits 2 (month_of d)) (last_digits 2 (month_of e)) _ _ (last_digits 2 (day_of_month d)) (last_digits 2 (day_of_month e)) _ month day.same in
    record {
      len =
          length-append (last_digits 4 (year_of d)) dt
          ∙ ap (λ k. k + length dt) year.len
          ∙ ap (λ k. length (last_digits 4 (year_of e)) + k)
          (length-append (last_digits 2 (month_of d)) (last_digits 2 (day_of_month d)) ∙ ap (λ k. k + length (last_digits 2 (day_of_month d))) month.len
          ∙ ap (λ k. length (last_digits 2 (month_of e)) + k) day.len ∙ sym (length-append (last_digits 2 (month_of e)) (last_digits 2 (day_of_month e))))
          ∙ sym (length-append (last_digits 4 (year_of e)) et);
      before =
          before-two (last_digits 4 (year_of d)) (last_digits 4 (year_of e)) _ _ dt et _ year before_rest
          ∙ lex_less d e (year_of d) (year_of e) (month_of d) (month_of e) (day_of_month d) (day_of_month e) h1 h2 h3 h4 h5;
      same =
          same-two (last_digits 4 (year_of d)) (last_digits 4 (year_of e)) _ _ dt et _ year same_rest
          ∙ lex_same d e (year_of d) (year_of e) (month_of d) (month_of e) (day_of_month d) (day_of_month e) h1 h2 h3 h4 h5;
    }

ordered-date : (d e : ℕ) → d ≤ LAST_DAY → e ≤ LAST_DAY → Ordered (date_text d) (date_text e) d e
ordered-date d e p q = ordered-date_parts d e _ _ _ _ (date_of d p) (date_of e q)

-- ---- keys

ordered-parameter : (p q : Pollutant) → Ordered (parameter_text p) (parameter_text q) (parameter_number p) (parameter_number q)
ordered-parameter Ozone Ozone = record { len = refl; before = refl; same = refl }
ordered-parameter Ozone Pm25 = record { len = refl; before = refl; same = refl }
ordered-parameter Ozone Pm10 = record { len = refl; before = refl; same = refl }
ordered-parameter Pm25 Ozone = record { len = refl; before = refl; same = refl }
ordered-parameter Pm25 Pm25 = record { len = refl; before = refl; same = refl }
ordered-parameter Pm25 Pm10 = record { len = refl; before = refl; same = refl }
ordered-parameter Pm10 Ozone = record { len = refl; before = refl; same = refl }
ordered-parameter Pm10 Pm25 = record { len = refl; before = refl; same = refl }
ordered-parameter Pm10 Pm10 = record { len = refl; before = refl; same = refl }

-- a part with a bar after it, and the last part
part : (xs ys us vs : List ℕ) (m n : ℕ) (ms ns : List ℕ) → Ordered xs ys m n → comes_before us vs ≡ comes_before ms ns
    → comes_before (xs ++ 124 ∷ us) (ys ++ 124 ∷ vs) ≡ comes_before (m ∷ ms) (n ∷ ns)
part xs ys us vs m n ms ns o rest = before-two xs ys m n (124 ∷ us) (124 ∷ vs) _ o rest

last_part : (xs ys : List ℕ) (m n : ℕ) → Ordered xs ys m n → comes_before xs ys ≡ comes_before (m ∷ []) (n ∷ [])
last_part xs ys m n o = o.before ∙ nothing_behind (nat_lt m n) (m == n)
  where
    nothing_behind : (a b : Bool) → a ≡ (a || (b && false))
    nothing_behind true b = refl
    nothing_behind false true = refl
    nothing_behind false false = refl

-- a site with parts after it
site_parts : (s t : Site) (us vs ms ns : List ℕ) → is_site s ≡ true → is_site t ≡ true → comes_before us vs ≡ comes_before ms ns
    → comes_before (joined (site_texts s ++ us ∷ [])) (joined (site_texts t ++ vs ∷ [])) ≡ comes_before (site_numbers s ++ ms) (site_numbers t ++ ns)
site_parts s t us vs ms ns p q rest =
    let a = site_bounds s p in
    let b = site_bounds t q in
    part _ _ _ _ s.state t.state (s.county ∷ s.number ∷ ms) (t.county ∷ t.number ∷ ns) (ordered-digits 2 s.state t.state a.0 b.0)
    (part _ _ _ _ s.county t.county (s.number ∷ ms) (t.number ∷ ns) (ordered-digits 3 s.county t.county a.1 b.1)
    (part _ _ _ _ s.number t.number ms ns (ordered-digits 4 s.number t.number a.2 b.2) rest))

-- the parts of keys of one kind
series_parts : (s t : Site) (p q : Pollutant) (us vs : List ℕ) (m n : ℕ) → is_site s ≡ true → is_site t ≡ true → Ordered us vs m n
    → comes_before (joined (site_texts s ++ parameter_text p ∷ us ∷ [])) (joined (site_texts t ++ parameter_text q ∷ vs ∷ []))
    ≡ comes_before (series_numbers s p ++ m ∷ []) (series_numbers t q ++ n ∷ [])
series_parts s t p q us vs m n is_s is_t o =
    let a = site_bounds s is_s in
    let b = site_bounds t is_t in
    part _ _ _ _ s.state t.state (s.county ∷ s.number ∷ parameter_number p ∷ m ∷ []) (t.county ∷ t.number ∷ parameter_number q ∷ n ∷ [])
    (ordered-digits 2 s.state t.state a.0 b.0)
    (part _ _ _ _ s.county t.county (s.number ∷ parameter_number p ∷ m ∷ []) (t.number ∷ parameter_number q ∷ n ∷ [])
    (ordered-digits 3 s.county t.county a.1 b.1)
    (part _ _ _ _ s.number t.number (parameter_number p ∷ m ∷ []) (parameter_number q ∷ n ∷ []) (ordered-digits 4 s.number t.number a.2 b.2)
    (part (parameter_text p) (parameter_text q) us vs (parameter_number p) (parameter_number q) (m ∷ []) (n ∷ []) (ordered-parameter p q)
    (last_part us vs m n o))))

pub less_or : (n m k : ℕ) → nat_le n m ≡ true → m < k → n < k
less_or n m k h l = grind (arith, nat_tests)

pub at_most_day : (d : ℕ) → is_day d ≡ true → d ≤ LAST_DAY
at_most_day d h = grind (arith, nat_tests)

same_kind : (a b : OfficeKey) → is_key a ≡ true → is_key b ≡ true → kind_of a ≡ kind_of b
    → comes_before (printed_key a) (printed_key b) ≡ comes_before (part_numbers a) (part_numbers b)
unfolding key_texts
same_kind (MonitorKey a) (MonitorKey b) p q e =
    let x = and_parts (is_site a.site) (is_poc a.poc) p in
    let y = and_parts (is_site b.site) (is_poc b.poc) q in
    let m = and_parts (nat_le 1 a.poc) (nat_le a.poc 99) x.1 in
    let n = and_parts (nat_le 1 b.poc) (nat_le b.poc 99) y.1 in
    series_parts a.site b.site a.pollutant b.pollutant _ _ a.poc b.poc x.0 y.0
    (ordered-digits 2 a.poc b.poc (less_or a.poc 99 100 m.1 (omega arith)) (less_or b.poc 99 100 n.1 (omega arith)))
same_kind (PrimaryKey s p d) (PrimaryKey t q f) h i e =
    let x = and_parts (is_site s) (is_day d) h in
    let y = and_parts (is_site t) (is_day f) i in
    series_parts s t p q _ _ d f x.0 y.0 (ordered-date d f (at_most_day d x.1) (at_most_day f y.1))
same_kind (ScheduleKey s p d) (ScheduleKey t q f) h i e =
    let x = and_parts (is_site s && has_parameter Xs p) (is_day d) h in
    let y = and_parts (is_site t && has_parameter Xs q) (is_day f) i in
    let a = and_parts (is_site s) (has_parameter Xs p) x.0 in
    let b = and_parts (is_site t) (has_parameter Xs q) y.0 in
    series_parts s t p q _ _ d f a.0 b.0 (ordered-date d f (at_most_day d x.1) (at_most_day f y.1))
same_kind (SeasonKey s m) (SeasonKey t n) h i e =
    let x = and_parts (is_site s) (is_year m) h in
    let y = and_parts (is_site t) (is_year n) i in
    let k = and_parts (nat_le FIRST_YEAR m) (nat_le m LAST_YEAR) x.1 in
    let l = and_parts (nat_le FIRST_YEAR n) (nat_le n LAST_YEAR) y.1 in
    site_parts s t _ _ (m ∷ []) (n ∷ []) x.0 y.0
    (last_part _ _ m n (ordered-digits 4 m n (less_or m LAST_YEAR 10000 k.1 (omega arith)) (less_or n LAST_YEAR 10000 l.1 (omega arith))))
same_kind (MakeupKey s d) (MakeupKey t f) h i e =
    let x = and_parts (is_site s) (is_day d) h in
    let y = and_parts (is_site t) (is_day f) i in
    site_parts s t _ _ (d ∷ []) (f ∷ []) x.0 y.0 (last_part _ _ d f (ordered-date d f (at_most_day d x.1) (at_most_day f y.1)))
same_kind (ApprovedKey s d) (ApprovedKey t f) h i e =
    let x = and_parts (is_site s) (is_day d) h in
    let y = and_parts (is_site t) (is_day f) i in
    site_parts s t _ _ (d ∷ []) (f ∷ []) x.0 y.0 (last_part _ _ d f (ordered-date d f (at_most_day d x.1) (at_most_day f y.1)))
same_kind (CombinedKey s p) (CombinedKey t q) h i e =
    let x = and_parts (is_site s) (has_parameter Xb p) h in
    let y = and_parts (is_site t) (has_parameter Xb q) i in
    site_parts s t _ _ (parameter_number p ∷ []) (parameter_number q ∷ []) x.0 y.0 (last_part _ _ (parameter_number p) (parameter_number q) (ordered-parameter p q))
same_kind (EventKey m) (EventKey n) h i e =
    let x = and_parts (nat_le 1 m) (nat_le m 999999) h in
    let y = and_parts (nat_le 1 n) (nat_le n 999999) i in
    last_part _ _ m n (ordered-digits 6 m n (less_or m 999999 1000000 x.1 (omega arith)) (less_or n 999999 1000000 y.1 (omega arith)))
same_kind (ConcurrenceKey m) (ConcurrenceKey n) h i e =
    let x = and_parts (nat_le 1 m) (nat_le m 999999) h in
    let y = and_parts (nat_le 1 n) (nat_le n 999999) i in
    last_part _ _ m n (ordered-digits 6 m n (less_or m 999999 1000000 x.1 (omega arith)) (less_or n 999999 1000000 y.1 (omega arith)))
same_kind a b h i e = absurd (omega arith)

by_kind : (m n : ℕ) (p q : Bool) → (m ≡ n → p ≡ q) → (nat_lt m n || ((m == n) && p)) ≡ (nat_lt m n || ((m == n) && q))
by_kind m n p q h = elim (cases_Bool (m == n)) [
  | inl same ↦ let equal : m ≡ n = grind (arith, nat_tests) in ap (λ b. nat_lt m n || ((m == n) && b)) (h equal)
  | inr other ↦ rw other refl
]

-- the order of keys is the order of their kinds, and then of the bytes of their printed keys
pub printed_order : (a b : OfficeKey) → is_key a ≡ true → is_key b ≡ true
    → comes_before (key_numbers a) (key_numbers b) ≡ comes_before (kind_of a ∷ printed_key a) (kind_of b ∷ printed_key b)
printed_order a b p q =
    sym (by_kind (kind_of a) (kind_of b) (comes_before (printed_key a) (printed_key b)) (comes_before (part_numbers a) (part_numbers b)) (same_kind a b p q))

before-itself : (a : List ℕ) → comes_before a a ≡ false
before-itself [] = refl
before-itself (x ∷ a) = not_less x (comes_before a a) (before-itself a)
  where
    not_less : (x : ℕ) (b : Bool) → b ≡ false → (nat_lt x x || ((x == x) && b)) ≡ false
    not_less x true h = absurd (false≢true (sym h))
    not_less x false h = grind (arith, nat_tests)

-- keys of one kind with one printed key are the same
pub printed_same : (a b : OfficeKey) → is_key a ≡ true → is_key b ≡ true → kind_of a ≡ kind_of b → printed_key a ≡ printed_key b
    → is_same (key_numbers a) (key_numbers b) ≡ true
printed_same a b p q kinds texts =
    elim (cases_Bool (is_same (key_numbers a) (key_numbers b))) [
      | inl same ↦ same
      | inr other ↦
          let there : comes_before (key_numbers a) (key_numbers b) ≡ false =
          printed_order a b p q ∙ ap (λ k. comes_before k (kind_of b ∷ printed_key b)) one ∙ before-itself (kind_of b ∷ printed_key b)
          in
          let back : comes_before (key_numbers b) (key_numbers a) ≡ false =
          printed_order b a q p ∙ ap (λ k. comes_before (kind_of b ∷ printed_key b) k) one ∙ before-itself (kind_of b ∷ printed_key b)
          in
          absurd (false≢true (sym back ∙ before-total (key_numbers a) (key_numbers b) there other))
    ]
  where
    one : kind_of a ∷ printed_key a ≡ kind_of b ∷ printed_key b
    one = ap (λ k. k ∷ printed_key a) kinds ∙ ap (λ t. kind_of b ∷ t) texts
