-- The counts of a quarter are those of its days, one by one.
use Rattle.std.proofs.Common.{◌≡◌, ℕ, ◌+◌, ◌-◌, Bool, true, false, not, cond, ◌&&◌, ◌||◌, ◌==◌, Some, None, Option, List, [], ◌∷◌, length, refl, ap, sym, ◌∙◌, arith}
use Rattle.std.specs.Prelude.{is_some, option_map, count_by, filter}
use Rattle.std.specs.List.{filter_map, cons_option, list_any, range_with_len}
use Rattle.std.specs.Option.{option_and_then, option_map_or, option_or}
use Rattle.std.proofs.lemmas.List.Sums.{sum_by-cons}
use Rattle.aq_rules.specs.Ozone.SiteHour.{Cell}
use Rattle.aq_rules.specs.Particles.QuarterCounts.{Makeup, days_of_quarter}
use Rattle.aq_particles.specs.Pm25.QuarterDays.{credited, is_makeup_day}
use Rattle.aq_particles.specs.Pm25.SiteDays.{SiteDays, as_makeup, credits_by, gives_credit_by, makeups_by}

count_cons : {X : Type 0} (p : X → Bool) (x : X) (xs : List X) → count_by p (x ∷ xs) ≡ cond (p x) 1 0 + count_by p xs
count_cons {X} p x xs = sum_by-cons (λ (y : X). cond (p y) 1 0) x xs

-- those of a filter that pass a test
pub count-both : {X : Type 0} (p g : X → Bool) (xs : List X) → count_by p (filter g xs) ≡ count_by (λ x. g x && p x) xs
count-both p g [] = refl
count-both {X} p g (x ∷ xs) = by_test (g x) (count-both p g xs) ∙ sym (count_cons (λ y. g y && p y) x xs)
  where
    by_test : (b : Bool) → count_by p (filter g xs) ≡ count_by (λ y. g y && p y) xs → count_by p (cond b (x ∷ filter g xs) (filter g xs)) ≡ cond (b && p x) 1 0 + count_by (λ y. g y && p y) xs
    by_test true rest = count_cons p x (filter g xs) ∙ ap (λ n. cond (p x) 1 0 + n) rest
    by_test false rest = omega (arith, rest)

-- and of what days give
count_given : {X : Type 0} (p : X → Bool) (give : ℕ → Option X) (days : List ℕ) → count_by p (filter_map give days) ≡ count_by (λ d. option_map_or p (give d) false) days
count_given p give [] = refl
count_given {X} p give (d ∷ days) = by_given (give d) (count_given p give days) ∙ sym (count_cons (λ e. option_map_or p (give e) false) d days)
  where
    by_given : (o : Option X) → count_by p (filter_map give days) ≡ count_by (λ e. option_map_or p (give e) false) days
        → count_by p (cons_option o (filter_map give days)) ≡ cond (option_map_or p o false) 1 0 + count_by (λ e. option_map_or p (give e) false) days
    by_given None rest = omega (arith, rest)
    by_given (Some x) rest = count_cons p x (filter_map give days) ∙ ap (λ n. cond (p x) 1 0 + n) rest

pub length-passing : {X : Type 0} (p g : X → Bool) → ((x : X) → g x ≡ true → p x ≡ true) → (xs : List X) → length (filter g xs) ≡ count_by p (filter g xs)
length-passing p g h [] = refl
length-passing {X} p g h (x ∷ xs) = by_test (g x) refl (length-passing p g h xs)
  where
    by_test : (b : Bool) → g x ≡ b → length (filter g xs) ≡ count_by p (filter g xs) → length (cond b (x ∷ filter g xs) (filter g xs)) ≡ count_by p (cond b (x ∷ filter g xs) (filter g xs))
    by_test true is rest = let one = ap (λ (b : Bool). cond b 1 0 + count_by p (filter g xs)) (h x is) in omega (arith, rest, count_cons p x (filter g xs), one)
    by_test false is rest = rest

module _ (site_days : SiteDays) (makeup_for : ℕ → Option ℕ) where
  abbrev between : ℕ → ℕ → Bool
  between missed makeup = list_any site_days.schedules (range_with_len (missed + 1) (makeup - missed))

  -- ---- one day, for a test that a missing sample does not pass

  module _ (passes : Option Cell → Bool) (none : passes None ≡ false) where
    abbrev one : Option Cell → ℕ
    one cell = cond (passes cell) 1 0

    nothing : one None ≡ 0
    nothing = ap (λ b. cond b 1 0) none

    abbrev credit : Makeup → Bool
    credit m = gives_credit_by site_days m && passes (site_days.cell_on m.makeup)

    abbrev look : ℕ → Option Makeup
    look day = option_map (as_makeup day) (makeup_for day)

    -- s: the missed day is scheduled; cell: its sample; u: the make-up day is scheduled; made: its sample; w: a week later; t: a day between is scheduled
    by_makeup : (s : Bool) (cell : Option Cell) (u : Bool) (made : Option Cell) (w t : Bool)
        → one (cond s (option_or cell (cond (not u && (w || not t)) made None)) None)
        ≡ cond s (one cell) 0 + cond (((((s && not (is_some cell)) && not u) && is_some made) && (not t || w)) && passes made) 1 0
    by_makeup false cell u made w t = nothing
    by_makeup true (Some c) u made w t = omega arith
    by_makeup true None true made w t = omega (arith, nothing)
    by_makeup true None false None true true = omega (arith, nothing)
    by_makeup true None false None true false = omega (arith, nothing)
    by_makeup true None false None false true = omega (arith, nothing)
    by_makeup true None false None false false = omega (arith, nothing)
    by_makeup true None false (Some c) true true = omega (arith, nothing)
    by_makeup true None false (Some c) true false = omega (arith, nothing)
    by_makeup true None false (Some c) false true = omega (arith, nothing)
    by_makeup true None false (Some c) false false = omega (arith, nothing)

    by_look : (day : ℕ) (s : Bool) (cell : Option Cell) (found : Option ℕ) → site_days.schedules day ≡ s → site_days.cell_on day ≡ cell
        → one (cond s (option_or cell (option_and_then (λ makeup. cond (is_makeup_day site_days.schedules day makeup) (site_days.cell_on makeup) None) found)) None)
        ≡ cond s (one cell) 0 + cond (option_map_or credit (option_map (as_makeup day) found) false) 1 0
    by_look day false cell None si ci = nothing
    by_look day true None None si ci = omega (arith, nothing)
    by_look day true (Some c) None si ci = omega arith
    by_look day s cell (Some makeup) si ci =
        by_makeup s cell (site_days.schedules makeup) (site_days.cell_on makeup) (makeup == day + 7) (between day makeup)
        ∙ (λ i. cond s (one cell) 0 + cond (((((sym si i && not (is_some (sym ci i))) && not (site_days.schedules makeup)) && is_some (site_days.cell_on makeup)) && (not (between day makeup) || (makeup == day + 7))) && passes (site_days.cell_on makeup)) 1 0)

    of_day : (day : ℕ) → one (credited site_days makeup_for day)
        ≡ cond (site_days.schedules day) (one (site_days.cell_on day)) 0 + cond (option_map_or credit (look day) false) 1 0
    of_day day = by_look day (site_days.schedules day) (site_days.cell_on day) (makeup_for day) refl refl

    both_tests : (s p : Bool) → ◌≡◌ {A = ℕ} (cond s (cond p 1 0) 0) (cond (s && p) 1 0)
    both_tests true p = refl
    both_tests false p = refl

    of_days : (days : List ℕ) → count_by (λ d. passes (credited site_days makeup_for d)) days
        ≡ count_by (λ d. site_days.schedules d && passes (site_days.cell_on d)) days + count_by (λ d. option_map_or credit (look d) false) days
    of_days [] = refl
    of_days (d ∷ days) =
        omega (
          arith,
          of_day d,
          both_tests (site_days.schedules d) (passes (site_days.cell_on d)),
          of_days days,
          count_cons (λ e. passes (credited site_days makeup_for e)) d days,
          count_cons (λ e. site_days.schedules e && passes (site_days.cell_on e)) d days,
          count_cons (λ e. option_map_or credit (look e) false) d days,
        )

    -- ---- the quarter

    pub counted-in : (quarter : ℕ) → count_by (λ d. passes (credited site_days makeup_for d)) (days_of_quarter quarter)
        ≡ count_by (λ d. passes (site_days.cell_on d)) (filter site_days.schedules (days_of_quarter quarter))
        + count_by (λ (m : Makeup). passes (site_days.cell_on m.makeup)) (credits_by site_days makeup_for quarter)
    unfolding credits_by
    counted-in quarter =
        let days = days_of_quarter quarter in
        let test : Makeup → Bool = λ m. passes (site_days.cell_on m.makeup) in
        let made = count-both test (gives_credit_by site_days) (makeups_by makeup_for quarter) ∙ count_given credit look days in
        let own = count-both (λ d. passes (site_days.cell_on d)) site_days.schedules days in
        of_days days ∙ (λ i. sym own i + sym made i)
