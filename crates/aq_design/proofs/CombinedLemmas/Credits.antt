-- The make-ups of a pair that give credit are those of its missed days one by one, and lie apart.
use Rattle.std.proofs.Common.{◌≡◌, ℕ, zero, suc, ◌+◌, ◌<◌, ◌≤◌, Bool, true, false, cond, not, ◌&&◌, ◌||◌, ◌==◌, Some, None, Option, List, [], ◌∷◌, ◌++◌, refl, ap, sym, ◌∙◌, arith, append_assoc}
use Rattle.std.specs.Prelude.{count_by, filter, nat_le, nat_lt, option_map, option_and_then}
use Rattle.std.specs.List.{filter_map, cons_option, list_any, range_with_len}
use Rattle.std.proofs.lemmas.Bool.{false≢true, and_parts}
use Rattle.std.proofs.lemmas.Bool.Decides.{nat_tests}
use Rattle.std.proofs.lemmas.List.Sums.{length-filter, sum_by-cons}
use Rattle.aq_base.specs.Calendar.{days_in_quarter, quarter_first, quarter_of}
use Rattle.aq_base.specs.Site.{Site}
use Rattle.aq_base.specs.declared.observation.ObsKey.{ObsKey}
use Rattle.aq_base.specs.declared.observation.Observation.{Observation}
use Rattle.aq_base.specs.declared.office.OfficeRecord.{OfficeRecord}
use Rattle.aq_rules.specs.Combined.Pair.{Pair, credits_after, credits_before, has_makeup_day, pair_credits, would_give_credit}
use Rattle.aq_rules.specs.Office.Office.{IsOffice, Office}
use Rattle.aq_rules.specs.Office.Questions.{makeup_of}
use Rattle.aq_rules.specs.Office.Sameness.{number_itself}
use Rattle.aq_rules.specs.Particles.QuarterCounts.{Makeup, days_of_quarter, makeup_by}
use Rattle.aq_registry.specs.Registry.{office_with}
use Rattle.aq_series.specs.OfficeView.{office_of}
use Rattle.aq_particles.specs.Pm25.SiteDays.{AreApart, as_makeup, credits_by}
use Rattle.aq_particles.proofs.Pm25Lemmas.Counts.{count-both}
use Rattle.aq_particles.proofs.Pm25Lemmas.MakeupDays.{made-fit, made-once}
use Rattle.aq_particles.proofs.Pm25Lemmas.Makeups.{HoldsSpan, makeup-record, makeups-are}
use Rattle.aq_design.specs.Combined.Makeups.{is_taken, makeup_of_pair}
use Rattle.aq_design.specs.Combined.Pairs.{days_of}
use Rattle.aq_design.proofs.CombinedLemmas.Taken.{found-on, is_on, same-quarter}

-- ---- lists

count_cons : {X : Type 0} (p : X → Bool) (x : X) (xs : List X) → count_by p (x ∷ xs) ≡ cond (p x) 1 0 + count_by p xs
count_cons {X} p x xs = sum_by-cons (λ (y : X). cond (p y) 1 0) x xs

count-append : {X : Type 0} (p : X → Bool) (xs ys : List X) → count_by p (xs ++ ys) ≡ count_by p xs + count_by p ys
count-append p [] ys = omega arith
count-append p (x ∷ xs) ys = omega (arith, count_cons p x (xs ++ ys), count_cons p x xs, count-append p xs ys)

-- one filter after another
pub filter-filter : {X : Type 0} (f g : X → Bool) (xs : List X) → filter f (filter g xs) ≡ filter (λ x. g x && f x) xs
filter-filter f g [] = refl
filter-filter {X} f g (x ∷ xs) = by_test (g x) (filter-filter f g xs)
  where
    by_test : (b : Bool) → filter f (filter g xs) ≡ filter (λ y. g y && f y) xs
        → filter f (cond b (x ∷ filter g xs) (filter g xs)) ≡ cond (b && f x) (x ∷ filter (λ y. g y && f y) xs) (filter (λ y. g y && f y) xs)
    by_test true rest = ap (λ (l : List X). cond (f x) (x ∷ l) l) rest
    by_test false rest = rest

abbrev keep : {X : Type 0} → (X → Bool) → Option X → Option X
keep f o = option_and_then (λ x. cond (f x) (Some x) None) o

filter-given : {X Y : Type 0} (f : Y → Bool) (g : X → Option Y) (xs : List X) → filter f (filter_map g xs) ≡ filter_map (λ x. keep f (g x)) xs
filter-given f g [] = refl
filter-given {X} {Y} f g (x ∷ xs) = by_value (g x) (filter-given f g xs)
  where
    by_test : (b : Bool) (y : Y) → filter f (filter_map g xs) ≡ filter_map (λ z. keep f (g z)) xs
        → cond b (y ∷ filter f (filter_map g xs)) (filter f (filter_map g xs)) ≡ cons_option (cond b (Some y) None) (filter_map (λ z. keep f (g z)) xs)
    by_test true y rest = ap (λ (l : List Y). y ∷ l) rest
    by_test false y rest = rest

    by_value : (o : Option Y) → filter f (filter_map g xs) ≡ filter_map (λ z. keep f (g z)) xs
        → filter f (cons_option o (filter_map g xs)) ≡ cons_option (keep f o) (filter_map (λ z. keep f (g z)) xs)
    by_value None rest = rest
    by_value (Some y) rest = by_test (f y) y rest

-- days that rise: what one list has of those before a day, and another of those from then on
module _ {X : Type 0} (early late all : ℕ → Option X) (from : ℕ)
    (first : (d : ℕ) → nat_lt d from ≡ true → (early d ≡ all d) × (late d ≡ None)) (then_on : (d : ℕ) → nat_lt d from ≡ false → early d ≡ None) where
  none_early : (a n : ℕ) → nat_lt a from ≡ false → filter_map early (range_with_len a n) ≡ []
  none_early a zero not_before = refl
  none_early a (suc n) not_before =
      let next : nat_lt (a + 1) from ≡ false = grind (arith, nat_tests, not_before) in
      ap (λ (o : Option X). cons_option o (filter_map early (range_with_len (a + 1) n))) (then_on a not_before) ∙ none_early (a + 1) n next

  pub joined-range : (a n : ℕ) → ((d : ℕ) → a ≤ d → d < a + n → nat_lt d from ≡ false → late d ≡ all d)
      → filter_map early (range_with_len a n) ++ filter_map late (range_with_len a n) ≡ filter_map all (range_with_len a n)
  joined-range a zero same = refl
  joined-range a (suc n) same =
      by_test (nat_lt a from) refl (joined-range (a + 1) n (λ d low high is. same d (omega (arith, low)) (omega (arith, high)) is))
    where
      with_head : (o : Option X) (e l all_behind : List X) → e ++ l ≡ all_behind → cons_option o e ++ l ≡ cons_option o all_behind
      with_head None e l all_behind rest = rest
      with_head (Some x) e l all_behind rest = ap (λ (xs : List X). x ∷ xs) rest

      by_test : (b : Bool) → nat_lt a from ≡ b → filter_map early (range_with_len (a + 1) n) ++ filter_map late (range_with_len (a + 1) n) ≡ filter_map all (range_with_len (a + 1) n)
          → cons_option (early a) (filter_map early (range_with_len (a + 1) n)) ++ cons_option (late a) (filter_map late (range_with_len (a + 1) n)) ≡ cons_option (all a) (filter_map all (range_with_len (a + 1) n))
      by_test true is rest =
          (λ i. cons_option ((first a is).0 i) (filter_map early (range_with_len (a + 1) n)) ++ cons_option ((first a is).1 i) (filter_map late (range_with_len (a + 1) n)))
          ∙ with_head (all a) (filter_map early (range_with_len (a + 1) n)) (filter_map late (range_with_len (a + 1) n)) (filter_map all (range_with_len (a + 1) n)) rest
      by_test false is rest =
          let next : nat_lt (a + 1) from ≡ false = grind (arith, nat_tests, is) in
          let none : filter_map early (range_with_len (a + 1) n) ≡ [] = none_early (a + 1) n next in
          let behind : filter_map late (range_with_len (a + 1) n) ≡ filter_map all (range_with_len (a + 1) n) = sym (ap (λ (xs : List X). xs ++ filter_map late (range_with_len (a + 1) n)) none) ∙ rest in
          (λ i. cons_option (then_on a is i) (none i) ++ cons_option (same a (omega arith) (omega arith) is i) (behind i))

-- ---- the make-ups that give credit

module _ (records : List OfficeRecord) (rows : List (ObsKey × Observation)) (pair : Pair) (quarter : ℕ) (valid : IsOffice (office_with records))
    (holds : HoldsSpan quarter (quarter_first quarter) (days_in_quarter quarter)) where
  abbrev office : Office
  office = office_of records rows

  abbrev would : Makeup → Bool
  would m = would_give_credit office pair m

  abbrev of_site : Site → List Makeup
  of_site site = filter_map (makeup_by site quarter) records

  abbrev before : List Makeup
  before = credits_before office pair quarter

  abbrev gives_before : Makeup → Bool
  gives_before m = nat_lt m.missed pair.from && would m

  abbrev gives_after : Makeup → Bool
  gives_after m = nat_le pair.from m.missed && (would m && not (has_makeup_day before m.makeup))

  abbrev joined_makeup : ℕ → Option ℕ
  joined_makeup day = option_and_then (λ k. cond (is_taken office pair k) None (Some k)) (makeup_of records pair.joined day)

  before-are : before ≡ filter gives_before (of_site pair.site)
  before-are = filter-filter would (λ (m : Makeup). nat_lt m.missed pair.from) (of_site pair.site)

  after-are : credits_after office pair quarter ≡ filter gives_after (of_site pair.joined)
  after-are = filter-filter (λ (m : Makeup). would m && not (has_makeup_day before m.makeup)) (λ (m : Makeup). nat_le pair.from m.missed) (of_site pair.joined)

  -- a day of the quarter, taken by a make-up of the site
  taken-is : (day : ℕ) → quarter_of day ≡ quarter → has_makeup_day before day ≡ is_taken office pair day
  taken-is day at =
      ap (list_any (is_on day)) before-are
      ∙ found-on day (office_with records) pair.site quarter at valid.records_fit
      (made-once records pair.site quarter (quarter_first quarter) (days_in_quarter quarter) valid holds day) gives_before

  -- ---- one missed day after another

  abbrev look : Site → ℕ → Option Makeup
  look site day = option_map (as_makeup day) (makeup_of records site day)

  abbrev look_pair : ℕ → Option Makeup
  look_pair day = option_map (as_makeup day) (makeup_of_pair office pair day)

  early : (day : ℕ) → nat_lt day pair.from ≡ true → (keep gives_before (look pair.site day) ≡ keep would (look_pair day)) × (keep gives_after (look pair.joined day) ≡ None)
  early day is = (
    by_site (makeup_of records pair.site day)
        ∙ ap (λ (b : Bool). keep would (option_map (as_makeup day) (cond b (makeup_of records pair.site day) (joined_makeup day)))) (sym is),
    by_joined (makeup_of records pair.joined day),
  )
    where
      by_site : (o : Option ℕ) → keep gives_before (option_map (as_makeup day) o) ≡ keep would (option_map (as_makeup day) o)
      by_site None = refl
      by_site (Some k) = ap (λ (b : Bool). cond (b && would (as_makeup day k)) (Some (as_makeup day k)) None) is

      by_joined : (o : Option ℕ) → keep gives_after (option_map (as_makeup day) o) ≡ None
      by_joined None = refl
      by_joined (Some k) =
          let not_after : nat_le pair.from day ≡ false = grind (arith, nat_tests, is) in
          ap (λ (b : Bool). cond (b && (would (as_makeup day k) && not (has_makeup_day before k))) (Some (as_makeup day k)) None) not_after

  not_early : (day : ℕ) → nat_lt day pair.from ≡ false → keep gives_before (look pair.site day) ≡ None
  not_early day is = by_site (makeup_of records pair.site day)
    where
      by_site : (o : Option ℕ) → keep gives_before (option_map (as_makeup day) o) ≡ None
      by_site None = refl
      by_site (Some k) = ap (λ (b : Bool). cond (b && would (as_makeup day k)) (Some (as_makeup day k)) None) is

  late : (day : ℕ) → quarter_first quarter ≤ day → day < quarter_first quarter + days_in_quarter quarter → nat_lt day pair.from ≡ false
      → keep gives_after (look pair.joined day) ≡ keep would (look_pair day)
  late day low high is =
      by_joined (makeup_of records pair.joined day) refl
      ∙ ap (λ (b : Bool). keep would (option_map (as_makeup day) (cond b (makeup_of records pair.site day) (joined_makeup day)))) (sym is)
    where
      free : (w t : Bool) (m : Makeup) (k : ℕ) → m ≡ as_makeup day k → would m ≡ w
          → cond (true && (w && not t)) (Some m) None ≡ keep would (option_map (as_makeup day) (cond t None (Some k)))
      free w true m k mi wi = by_w w
        where
          by_w : (b : Bool) → cond (true && (b && false)) (Some m) None ≡ None
          by_w true = refl
          by_w false = refl
      free w false m k mi wi = by_w w ∙ (λ i. cond (sym wi i) (Some m) None) ∙ (λ i. cond (would (mi i)) (Some (mi i)) None)
        where
          by_w : (b : Bool) → cond (true && (b && true)) (Some m) None ≡ cond b (Some m) None
          by_w true = refl
          by_w false = refl

      by_joined : (o : Option ℕ) → makeup_of records pair.joined day ≡ o
          → keep gives_after (option_map (as_makeup day) o) ≡ keep would (option_map (as_makeup day) (option_and_then (λ k. cond (is_taken office pair k) None (Some k)) o))
      by_joined None given = refl
      by_joined (Some k) given =
          let record_is = makeup-record records pair.joined quarter day k valid given in
          let there = same-quarter pair.joined day k record_is in
          let here : quarter_of day ≡ quarter = (holds day there.1).1 (low, high) in
          let after : nat_le pair.from day ≡ true = grind (arith, nat_tests, is) in
          (λ i. cond (after i && (would (as_makeup day k) && not (taken-is k (there.0 ∙ here) i))) (Some (as_makeup day k)) None)
          ∙ free (would (as_makeup day k)) (is_taken office pair k) (as_makeup day k) k refl refl

  -- ---- the make-ups of the pair

  pub credits-of-pair : pair_credits office pair quarter ≡ credits_by (days_of office pair) (makeup_of_pair office pair) quarter
  unfolding pair_credits credits_by days_of_quarter
  credits-of-pair =
      let days = range_with_len (quarter_first quarter) (days_in_quarter quarter) in
      let of_first : before ≡ filter_map (λ d. keep gives_before (look pair.site d)) days =
      before-are ∙ ap (filter gives_before) (makeups-are records pair.site quarter (quarter_first quarter) (days_in_quarter quarter) valid holds) ∙ filter-given gives_before (look pair.site) days in
      let of_second : credits_after office pair quarter ≡ filter_map (λ d. keep gives_after (look pair.joined d)) days =
      after-are ∙ ap (filter gives_after) (makeups-are records pair.joined quarter (quarter_first quarter) (days_in_quarter quarter) valid holds) ∙ filter-given gives_after (look pair.joined) days in
      (λ i. of_first i ++ of_second i)
      ∙ joined-range (λ d. keep gives_before (look pair.site d)) (λ d. keep gives_after (look pair.joined d)) (λ d. keep would (look_pair d)) pair.from early not_early (quarter_first quarter) (days_in_quarter quarter) late
      ∙ sym (filter-given would look_pair days)

  -- each of the site's is on a day that is found among them
  found_self : (front rest : List Makeup) → before ≡ front ++ rest → (p : Makeup → Bool) → count_by p rest ≡ count_by (λ m. p m && has_makeup_day before m.makeup) rest
  found_self front [] is p = refl
  found_self front (m ∷ rest) is p =
      let there : has_makeup_day before m.makeup ≡ true = ap (λ (l : List Makeup). has_makeup_day l m.makeup) is ∙ any-there front in
      let same : (p m && has_makeup_day before m.makeup) ≡ p m = ap (λ (b : Bool). p m && b) there ∙ and_true (p m) in
      let next : before ≡ (front ++ m ∷ []) ++ rest = is ∙ sym (append_assoc front (m ∷ []) rest) in
      omega (
        arith,
        count_cons p m rest,
        count_cons (λ x. p x && has_makeup_day before x.makeup) m rest,
        ap (λ (b : Bool). cond {A = ℕ} b 1 0) same,
        found_self (front ++ m ∷ []) rest next p,
      )
    where
      and_true : (b : Bool) → (b && true) ≡ b
      and_true true = refl
      and_true false = refl

      or_true : (b : Bool) → (b || true) ≡ true
      or_true true = refl
      or_true false = refl

      any-there : (ms : List Makeup) → has_makeup_day (ms ++ m ∷ rest) m.makeup ≡ true
      any-there [] = ap (λ (b : Bool). b || has_makeup_day rest m.makeup) (number_itself m.makeup)
      any-there (x ∷ ms) = ap (λ (b : Bool). (x.makeup == m.makeup) || b) (any-there ms) ∙ or_true (x.makeup == m.makeup)

  pub pair-apart : AreApart quarter (pair_credits office pair quarter)
  unfolding pair_credits days_of_quarter
  pair-apart p =
      let has : ℕ → Bool = λ d. has_makeup_day before d in
      let on : Makeup → Bool = λ m. p m.makeup in
      let on_has : Makeup → Bool = λ m. p m.makeup && has m.makeup in
      let days = range_with_len (quarter_first quarter) (days_in_quarter quarter) in
      let first = made-fit records pair.site quarter (quarter_first quarter) (days_in_quarter quarter) valid holds
      (λ m. gives_before m && on_has m) (λ d. p d && has d) (λ m h. (and_parts (gives_before m) (on_has m) h).1) in
      let second = made-fit records pair.joined quarter (quarter_first quarter) (days_in_quarter quarter) valid holds
      (λ m. gives_after m && on m) (λ d. p d && not (has d)) (λ m h. free (nat_le pair.from m.missed) (would m) (not (has m.makeup)) (p m.makeup) h) in
      omega (
        arith,
        count-append on before (credits_after office pair quarter),
        found_self [] before refl on,
        ap (count_by on_has) before-are,
        count-both on_has gives_before (of_site pair.site),
        length-filter (λ m. gives_before m && on_has m) (of_site pair.site),
        first,
        ap (count_by on) after-are,
        count-both on gives_after (of_site pair.joined),
        length-filter (λ m. gives_after m && on m) (of_site pair.joined),
        second,
        split has p days,
      )
    where
      free : (a w n b : Bool) → ((a && (w && n)) && b) ≡ true → (b && n) ≡ true
      free true true true true h = refl
      free true true true false h = h
      free true true false b h = absurd (false≢true h)
      free true false n b h = absurd (false≢true h)
      free false w n b h = absurd (false≢true h)

      split : (has p : ℕ → Bool) (days : List ℕ) → count_by (λ d. p d && has d) days + count_by (λ d. p d && not (has d)) days ≡ count_by p days
      split has p [] = refl
      split has p (d ∷ days) =
          omega (arith, one (p d) (has d), split has p days, count_cons (λ e. p e && has e) d days, count_cons (λ e. p e && not (has e)) d days, count_cons p d days)
        where
          one : (a b : Bool) → cond (a && b) 1 0 + cond (a && not b) 1 0 ≡ cond a 1 0
          one true true = refl
          one true false = refl
          one false true = refl
          one false false = refl
