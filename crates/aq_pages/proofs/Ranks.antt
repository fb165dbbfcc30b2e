-- Ranked days: a day put into its place, the first ten of them, and one day more before all others.
use Rattle.std.proofs.Common.{◌≡◌, ℕ, zero, suc, ◌+◌, ◌≤◌, Bool, true, false, cond, Some, Option, List, [], ◌∷◌, length, take, drop, refl, ap, sym, subst, ◌∙◌, arith}
use Rattle.std.specs.Prelude.{ℤ, int_lt, option_and_then, slice_get}
use Rattle.std.specs.List.{insert}
use Rattle.std.proofs.Math.Seq.{drop-length}
use Rattle.aq_base.specs.declared.monitor.Pollutant.{Pollutant}
use Rattle.aq_rules.specs.Listed.Highest.{RankedDay, TEN, day_ranked_in, days_ranked}
use Rattle.aq_pages.specs.Sheets.{Line}
use Rattle.aq_pages.specs.Ranked.{are_highest, highest_days, place_in, ranked_from, ranked_value, with_value}

-- ---- a day put into its place

pub placed : (row : RankedDay) (rows : List RankedDay) → insert rows (place_in row.value rows) row ≡ day_ranked_in row rows
placed row [] = refl
placed row (other ∷ rows) = by (int_lt row.value other.value) (placed row rows)
  where
    by : (b : Bool) → insert rows (place_in row.value rows) row ≡ day_ranked_in row rows
        → insert (other ∷ rows) (cond b (suc (place_in row.value rows)) 0) row ≡ cond b (other ∷ day_ranked_in row rows) (row ∷ other ∷ rows)
    by true rest = ap (λ (l : List RankedDay). other ∷ l) rest
    by false rest = refl

-- ---- the first of them

shorter : (n : ℕ) (row : RankedDay) (rows : List RankedDay) → take n (row ∷ take n rows) ≡ take n (row ∷ rows)
shorter zero row rows = refl
shorter (suc n) row rows = ap (λ (l : List RankedDay). row ∷ l) (twice n rows)
  where
    twice : (n : ℕ) (rows : List RankedDay) → take n (take (suc n) rows) ≡ take n rows
    twice zero rows = refl
    twice (suc n) [] = refl
    twice (suc n) (row ∷ rows) = ap (λ (l : List RankedDay). row ∷ l) (twice n rows)

first-ranked : (n : ℕ) (row : RankedDay) (rows : List RankedDay) → take n (day_ranked_in row (take n rows)) ≡ take n (day_ranked_in row rows)
first-ranked zero row rows = refl
first-ranked (suc n) row [] = refl
first-ranked (suc n) row (other ∷ rows) = by (int_lt row.value other.value) (first-ranked n row rows)
  where
    by : (b : Bool) → take n (day_ranked_in row (take n rows)) ≡ take n (day_ranked_in row rows)
        → take (suc n) (cond b (other ∷ day_ranked_in row (take n rows)) (row ∷ other ∷ take n rows)) ≡ take (suc n) (cond b (other ∷ day_ranked_in row rows) (row ∷ other ∷ rows))
    by true rest = ap (λ (l : List RankedDay). other ∷ l) rest
    by false rest = ap (λ (l : List RankedDay). row ∷ l) (shorter n other rows)

ten-more : (n : ℕ) (row : RankedDay) (rows before after : List RankedDay) → before ≡ take n (days_ranked rows) → after ≡ take n (day_ranked_in row before) → after ≡ take n (days_ranked (row ∷ rows))
unfolding days_ranked
ten-more n row rows before after is next = next ∙ ap (λ (l : List RankedDay). take n (day_ranked_in row l)) is ∙ first-ranked n row (days_ranked rows)

-- ---- the highest, with one day more before all others

pub adds-day : (day : ℕ) (value : Option ℤ) (v : ℤ) (rows before after : List RankedDay) → value ≡ Some v → are_highest rows before
    → after ≡ take TEN (day_ranked_in (record { day = day; value = v }) before) → are_highest (with_value day value rows) after
adds-day day value v rows before after is held put =
    let row : RankedDay = record { day = day; value = v } in
    let more : are_highest (row ∷ rows) after = ten-more TEN row rows before after held put in
    subst (λ (o : Option ℤ). are_highest (with_value day o rows) after) (sym is) more

pub none-ranked : (p : Pollutant) (day : ℕ) (lines : List Line) (days : List RankedDay) → days ≡ [] → are_highest (ranked_from p day (drop (length lines) lines)) days
unfolding days_ranked
none-ranked p day lines days empty =
    let nothing : are_highest [] days = empty in
    subst (λ (l : List Line). are_highest (ranked_from p day l) days) (sym (drop-length lines)) nothing

one-at : (p : Pollutant) (day k : ℕ) (lines : List Line)
    → ranked_from p day (drop k lines) ≡ with_value day (option_and_then (ranked_value p) (slice_get lines k)) (ranked_from p (suc day) (drop (suc k) lines))
one-at p day zero [] = refl
one-at p day (suc k) [] = refl
one-at p day zero (line ∷ lines) =
    let next : day + 1 ≡ suc day = omega arith in
    ap (λ (n : ℕ). with_value day (ranked_value p line) (ranked_from p n lines)) next
one-at p day (suc k) (line ∷ lines) = one-at p day k lines

pub one-before : (p : Pollutant) (k place : ℕ) (lines : List Line) (value : Option ℤ) → suc k ≡ place → value ≡ option_and_then (ranked_value p) (slice_get lines k)
    → with_value k value (ranked_from p place (drop place lines)) ≡ ranked_from p k (drop k lines)
one-before p k place lines value next is =
    subst (λ (n : ℕ). with_value k value (ranked_from p n (drop n lines)) ≡ ranked_from p k (drop k lines)) next (ap (λ (o : Option ℤ). with_value k o (ranked_from p (suc k) (drop (suc k) lines))) is ∙ sym (one-at p k k lines))

pub none-left : (p : Pollutant) (place : ℕ) (lines : List Line) (days : List RankedDay) → place ≤ 0 → are_highest (ranked_from p place (drop place lines)) days → days ≡ highest_days p lines
unfolding highest_days
none-left p zero lines days none held = held
none-left p (suc n) lines days none held = absurd (omega (arith, none))
