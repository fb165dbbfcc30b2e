-- A day's hours as a list by their numbers, and the eight of each average.
use Rattle.std.proofs.Common.{◌≡◌, ℕ, zero, suc, ◌+◌, ◌-◌, ◌*◌, ◌<◌, ◌≤◌, Bool, true, false, cond, map, get_or, None, List, [], ◌∷◌, length, take, drop, replicate, refl, ap, sym, subst, ◌∙◌, arith}
use Rattle.std.specs.Prelude.{Option, nat_le, nat_lt, IfSome}
use Rattle.std.specs.List.{filter, filter_map, cons_option, range_with_len}
use Rattle.std.proofs.lemmas.Bool.Decides.{nat_tests}
use Rattle.std.proofs.lemmas.List.{get_or_past}
use Rattle.std.proofs.lemmas.List.FromFn.{fill_by_all}
use Rattle.aq_base.specs.Site.{Site}
use Rattle.aq_base.specs.declared.day.TheConstants.{LAST_DAY, LAST_HOUR}
use Rattle.aq_rules.specs.Office.Office.{Office}
use Rattle.aq_rules.specs.Ozone.EightHour.{WindowRow, eight_hours, row_of, window, window_by}
use Rattle.aq_rules.specs.Ozone.OzoneDay.{starts_of, windows_by}
use Rattle.aq_rules.specs.Ozone.SiteHour.{Cell, site_hour}
use Rattle.aq_series.specs.DayStates.{hour_at}
use Rattle.aq_series.specs.Samples.{AreOzone, IsOzone}
use Rattle.aq_ozone.specs.DayHours.{calendar_hours, cells_in, day_hours, span_hours, within_profile}

-- ---- lists by their numbers

shifted : {Y : Type 0} (f : ℕ → Y) (a b n : ℕ) → map (λ k. f (a + k)) (range_with_len b n) ≡ map f (range_with_len (a + b) n)
shifted f a b zero = refl
shifted {Y} f a b (suc n) =
    let e : a + (b + 1) ≡ a + b + 1 = omega arith in
    ap (λ (l : List Y). f (a + b) ∷ l) (shifted f a (b + 1) n ∙ ap (λ (k : ℕ). map f (range_with_len k n)) e)

pub list_by : {Y : Type 0} (d : Y) (f : ℕ → Y) (list : List Y) (first n : ℕ) → length list ≡ n → ((k : ℕ) → k < n → get_or list k d ≡ f (first + k)) → list ≡ map f (range_with_len first n)
list_by d f list first n many each =
    let e : first + 0 ≡ first = omega arith in
    fill_by_all (λ k. f (first + k)) list n d many each ∙ shifted f first 0 n ∙ ap (λ (k : ℕ). map f (range_with_len k n)) e

taken : {Y : Type 0} (f : ℕ → Y) (a n m : ℕ) → n ≤ m → take n (map f (range_with_len a m)) ≡ map f (range_with_len a n)
taken f a zero m le = refl
taken f a (suc n) zero le = absurd (omega (arith, le))
taken {Y} f a (suc n) (suc m) le = ap (λ (l : List Y). f a ∷ l) (taken f (a + 1) n m (omega (arith, le)))

pub part_of : {Y : Type 0} (f : ℕ → Y) (a k n m : ℕ) → k + n ≤ m → take n (drop k (map f (range_with_len a m))) ≡ map f (range_with_len (a + k) n)
part_of f a zero n m le = let e : a ≡ a + 0 = omega arith in taken f a n m (omega (arith, le)) ∙ ap (λ (b : ℕ). map f (range_with_len b n)) e
part_of f a (suc k) n zero le = absurd (omega (arith, le))
part_of f a (suc k) n (suc m) le =
    let e : a + 1 + k ≡ a + suc k = omega arith in
    part_of f (a + 1) k n m (omega (arith, le)) ∙ ap (λ (b : ℕ). map f (range_with_len b n)) e

-- ---- hours

pub hours_are : (cell_at : ℕ → Option Cell) (day first n : ℕ) (hours : List (Option Cell)) → n ≡ 24 → first ≡ 24 * day + 7 → length hours ≡ n
    → ((k : ℕ) → k < n → get_or hours k None ≡ within_profile cell_at (first + k)) → hours ≡ day_hours cell_at day
unfolding day_hours
hours_are cell_at day first n hours all from many each =
    list_by None (within_profile cell_at) hours first n many each
    ∙ (λ i. map (within_profile cell_at) (range_with_len (from i) (all i)))

pub ozone_by : (hours : List (Option Cell)) → ((k : ℕ) → IfSome (get_or hours k None) (λ (cell : Cell). IsOzone cell.value)) → AreOzone hours
ozone_by [] each = tt
ozone_by (hour ∷ hours) each = (each 0, ozone_by hours (λ k. each (suc k)))

pub ozone_at : (hours : List (Option Cell)) (k : ℕ) → AreOzone hours → IfSome (get_or hours k None) (λ (cell : Cell). IsOzone cell.value)
ozone_at [] k all = tt
ozone_at (hour ∷ hours) zero all = all.0
ozone_at (hour ∷ hours) (suc k) all = ozone_at hours k all.1

pub cells_are : (f : ℕ → Option Cell) (hours : List ℕ) → cells_in (map (within_profile f) hours) ≡ filter_map f (filter (λ hour. nat_le hour LAST_HOUR) hours)
cells_are f [] = refl
cells_are f (hour ∷ hours) = by_test (nat_le hour LAST_HOUR) (cells_are f hours)
  where
    by_test : (b : Bool) → cells_in (map (within_profile f) hours) ≡ filter_map f (filter (λ h. nat_le h LAST_HOUR) hours)
        → cons_option (cond b (f hour) None) (cells_in (map (within_profile f) hours)) ≡ filter_map f (cond b (hour ∷ filter (λ h. nat_le h LAST_HOUR) hours) (filter (λ h. nat_le h LAST_HOUR) hours))
    by_test true rest = ap (λ (l : List Cell). cons_option (f hour) l) rest
    by_test false rest = rest

-- ---- the hours of a calendar day

pub same_in_range : {Y : Type 0} (f g : ℕ → Y) (a n : ℕ) → ((k : ℕ) → a ≤ k → k < a + n → f k ≡ g k) → map f (range_with_len a n) ≡ map g (range_with_len a n)
same_in_range f g a zero same = refl
same_in_range f g a (suc n) same =
    let rest = same_in_range f g (a + 1) n (λ k low high. same k (omega (arith, low)) (omega (arith, high))) in
    λ i. same a (omega arith) (omega arith) i ∷ rest i

abbrev nothing : ℕ → Option Cell
nothing k = None

all_none : (a n : ℕ) → map nothing (range_with_len a n) ≡ replicate n None
all_none a zero = refl
all_none a (suc n) = ap (λ (l : List (Option Cell)). None ∷ l) (all_none (a + 1) n)

pub past : (cell_at : ℕ → Option Cell) (day : ℕ) → LAST_DAY < day → replicate 192 None ≡ span_hours cell_at day
unfolding span_hours
past cell_at day behind =
    sym (all_none (24 * day) 192)
    ∙ same_in_range nothing (within_profile cell_at) (24 * day) 192
    (λ k low high. let most : nat_le k LAST_HOUR ≡ false = grind (arith, nat_tests) in sym (ap (λ b. cond b (cell_at k) None) most))

pub at_range : {Y : Type 0} (f : ℕ → Y) (a n k : ℕ) (d : Y) → k < n → get_or (map f (range_with_len a n)) k d ≡ f (a + k)
at_range f a zero k d within = absurd (omega (arith, within))
at_range f a (suc n) zero d within = let e : a ≡ a + 0 = omega arith in ap f e
at_range f a (suc n) (suc k) d within = let e : a + 1 + k ≡ a + suc k = omega arith in at_range f (a + 1) n k d (omega (arith, within)) ∙ ap f e

module _ (span hours : List (Option Cell)) (d : ℕ) (within : d < 8) (many : length hours ≡ 24) (each : (k : ℕ) → k < 24 → get_or hours k None ≡ get_or span (24 * d + k) None) where
  pub part : (cell_at : ℕ → Option Cell) (first : ℕ) → span ≡ span_hours cell_at first → hours ≡ calendar_hours cell_at (first + d)
  unfolding span_hours calendar_hours
  part cell_at first is =
      list_by None (within_profile cell_at) hours (24 * (first + d)) 24 many
      (λ k below.
      let e : 24 * first + (24 * d + k) ≡ 24 * (first + d) + k = omega arith in
      each k below ∙ ap (λ (l : List (Option Cell)). get_or l (24 * d + k) None) is
      ∙ at_range (within_profile cell_at) (24 * first) 192 (24 * d + k) None (omega (arith, within, below)) ∙ ap (within_profile cell_at) e)

  pub part_ozone : AreOzone span → AreOzone hours
  part_ozone all = ozone_by hours (λ k. by_test k (nat_lt k 24) refl)
    where
      by_test : (k : ℕ) → (b : Bool) → nat_lt k 24 ≡ b → IfSome (get_or hours k None) (λ (cell : Cell). IsOzone cell.value)
      by_test k true h =
          let below : k < 24 = grind (arith, nat_tests) in
          subst (λ (o : Option Cell). IfSome o (λ (cell : Cell). IsOzone cell.value)) (sym (each k below)) (ozone_at span (24 * d + k) all)
      by_test k false h =
          let outside : length hours ≤ k = grind (arith, nat_tests, many) in
          subst (λ (o : Option Cell). IfSome o (λ (cell : Cell). IsOzone cell.value)) (sym (get_or_past hours k None outside)) tt

module _ (today tomorrow hours : List (Option Cell)) (many : length hours ≡ 24)
    (early : (k : ℕ) → k < 17 → get_or hours k None ≡ get_or today (k + 7) None)
    (late : (k : ℕ) → k < 24 → 17 ≤ k → get_or hours k None ≡ get_or tomorrow (k + 7 - 24) None) where
  pub joined : (cell_at : ℕ → Option Cell) (day : ℕ) → today ≡ calendar_hours cell_at day → tomorrow ≡ calendar_hours cell_at (day + 1) → hours ≡ day_hours cell_at day
  unfolding calendar_hours
  joined cell_at day is next = hours_are cell_at day (24 * day + 7) 24 hours refl refl many (λ k within. by_half k within (nat_lt k 17) refl)
    where
      by_half : (k : ℕ) → k < 24 → (b : Bool) → nat_lt k 17 ≡ b → get_or hours k None ≡ within_profile cell_at (24 * day + 7 + k)
      by_half k within true h =
          let low : k < 17 = grind (arith, nat_tests) in
          let e : 24 * day + (k + 7) ≡ 24 * day + 7 + k = omega arith in
          early k low ∙ ap (λ (l : List (Option Cell)). get_or l (k + 7) None) is ∙ at_range (within_profile cell_at) (24 * day) 24 (k + 7) None (omega (arith, low)) ∙ ap (within_profile cell_at) e
      by_half k within false h =
          let high : 17 ≤ k = grind (arith, nat_tests) in
          let e : 24 * (day + 1) + (k + 7 - 24) ≡ 24 * day + 7 + k = omega (arith, high) in
          late k within high ∙ ap (λ (l : List (Option Cell)). get_or l (k + 7 - 24) None) next
          ∙ at_range (within_profile cell_at) (24 * (day + 1)) 24 (k + 7 - 24) None (omega (arith, within, high)) ∙ ap (within_profile cell_at) e

  pub joined_ozone : AreOzone today → AreOzone tomorrow → AreOzone hours
  joined_ozone here next = ozone_by hours (λ k. by_half k (nat_lt k 17) refl (nat_lt k 24) refl)
    where
      by_half : (k : ℕ) → (b : Bool) → nat_lt k 17 ≡ b → (e : Bool) → nat_lt k 24 ≡ e → IfSome (get_or hours k None) (λ (cell : Cell). IsOzone cell.value)
      by_half k true h e within =
          let low : k < 17 = grind (arith, nat_tests) in
          subst (λ (o : Option Cell). IfSome o (λ (cell : Cell). IsOzone cell.value)) (sym (early k low)) (ozone_at today (k + 7) here)
      by_half k false h true within =
          let high : 17 ≤ k = grind (arith, nat_tests) in
          let most : k < 24 = grind (arith, nat_tests) in
          subst (λ (o : Option Cell). IfSome o (λ (cell : Cell). IsOzone cell.value)) (sym (late k most high)) (ozone_at tomorrow (k + 7 - 24) next)
      by_half k false h false past =
          let outside : length hours ≤ k = grind (arith, nat_tests, many) in
          subst (λ (o : Option Cell). IfSome o (λ (cell : Cell). IsOzone cell.value)) (sym (get_or_past hours k None outside)) tt

-- ---- averages

pub row_by : (cell_at : ℕ → Option Cell) (start : ℕ) → row_of (cells_in (map (within_profile cell_at) (range_with_len start 8))) ≡ window_by cell_at start
unfolding eight_hours
row_by cell_at start = ap row_of (cells_are cell_at (range_with_len start 8))

pub window_is : (office : Office) (site : Site) (start : ℕ) → row_of (cells_in (map (hour_at office site) (range_with_len start 8))) ≡ window office site start
unfolding window
window_is office site start = row_by (site_hour office site) start

pub row_is : (cell_at : ℕ → Option Cell) (day k : ℕ) → k < 17 → row_of (cells_in (take 8 (drop k (day_hours cell_at day)))) ≡ window_by cell_at (24 * day + 7 + k)
unfolding day_hours
row_is cell_at day k within =
    ap (λ (l : List (Option Cell)). row_of (cells_in l)) (part_of (within_profile cell_at) (24 * day + 7) k 8 24 (omega (arith, within)))
    ∙ row_by cell_at (24 * day + 7 + k)

eight : (k : ℕ) → k + 8 - k ≡ 8
eight k = omega arith

pub rows_are : (cell_at : ℕ → Option Cell) (day n : ℕ) (hours : List (Option Cell)) (rows : List WindowRow) → n ≡ 17 → hours ≡ day_hours cell_at day → length rows ≡ n
    → ((d : WindowRow) (k : ℕ) → k < n → get_or rows k d ≡ row_of (cells_in (take (k + 8 - k) (drop k hours)))) → rows ≡ windows_by (window_by cell_at) day
unfolding starts_of
rows_are cell_at day n hours rows all are many each =
    let d : WindowRow = record { net = None; net_hours = 0; full = None; full_hours = 0 } in
    list_by d (window_by cell_at) rows (24 * day + 7) n many
    (λ k within. each d k within ∙ (λ i. row_of (cells_in (take (eight k i) (drop k (are i))))) ∙ row_is cell_at day k (omega (arith, within, all)))
    ∙ (λ i. map (window_by cell_at) (range_with_len (24 * day + 7) (all i)))
