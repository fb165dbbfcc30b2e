-- What stands at the monitors of an extract, monitor after monitor, is what stands at one that it names, in the order of keys.
use Rattle.std.proofs.Common.{◌≡◌, ℕ, ◌+◌, ◌-◌, ◌*◌, ◌/◌, Bool, true, false, cond, ◌&&◌, ◌||◌, List, [], ◌∷◌, ◌++◌, Some, None, Option, map, refl, sym, ap, subst, ◌∙◌, arith, inl, inr}
use Rattle.std.specs.Prelude.{filter, flat_map, is_none, nat_le, nat_lt}
use Rattle.std.specs.List.{AllByRecursion}
use Rattle.std.specs.Ordering.{is_eq, is_lt, nat_cmp, ordering_then}
use Rattle.std.specs.declared.cmp.Ordering.{Ordering}
use Rattle.std.specs.declared.cmp.Ordering.TheVariants.{Less, Equal, Greater}
use Rattle.std.proofs.lemmas.Bool.{false≢true, and_parts, cases_Bool}
use Rattle.std.proofs.lemmas.Bool.Decides.{nat_tests}
use Rattle.std.proofs.lemmas.List.{append_assoc, append-nil}
use Rattle.aq_base.specs.declared.monitor.MonitorId.{MonitorId}
use Rattle.aq_base.specs.declared.observation.ObsKey.{ObsKey}
use Rattle.aq_base.specs.declared.observation.Observation.{Observation}
use Rattle.aq_staging.specs.Extracts.Texts.{deletion_line, dropped_lines, line_if_absent, once, optional_lines, optional_text, walked}
use Rattle.aq_rules.proofs.Lookups.{before-back, rises-rest}
use Rattle.aq_rules.proofs.RisingRows.{all_later}
use Rattle.aq_rules.specs.Extracts.Changes.{DaySpan, is_in_span, names}
use Rattle.aq_rules.specs.Lines.RdForm.{Delete}
use Rattle.aq_rules.specs.Office.Monitors.{is_same_monitor}
use Rattle.aq_rules.specs.Office.Office.{comes_before, observation_numbers, observation_rank, rises, rises_from}
use Rattle.aq_rules.specs.Office.RowOrder.{before-trans}
use Rattle.aq_rules.specs.Office.Sameness.{same_monitor}
use Rattle.aq_shelf.proofs.Order.{before_rank, is_eq-monitor_cmp, monitor_cmp}
use Rattle.aq_shelf.specs.Standing.{content_at, hour_content, in_span}

abbrev Row : Type 0
Row = ObsKey × Observation

-- ---- the order of monitors

abbrev at : MonitorId → ℕ → ObsKey
at monitor hour = record { monitor = monitor; hour = hour }

-- each key of a monitor comes before each of another one
abbrev Comes : MonitorId → MonitorId → Type 0
Comes m n = (h k : ℕ) → comes_before (observation_numbers (at m h)) (observation_numbers (at n k)) ≡ true

less-of : (o p : Ordering) → is_lt (ordering_then o p) ≡ true → is_eq o ≡ false → o ≡ Less
less-of Less p h e = refl
less-of Equal p h e = absurd (false≢true (sym e))
less-of Greater p h e = absurd (false≢true h)

first-apart : (a b : ObsKey) → comes_before (observation_numbers a) (observation_numbers b) ≡ true → is_same_monitor a.monitor b.monitor ≡ false → Comes a.monitor b.monitor
first-apart a b before other h k =
    let less = less-of (monitor_cmp a.monitor b.monitor) (nat_cmp a.hour b.hour) (sym (before_rank a b) ∙ before) (is_eq-monitor_cmp a.monitor b.monitor ∙ other) in
    before_rank (at a.monitor h) (at b.monitor k) ∙ ap (λ o. is_lt (ordering_then o (nat_cmp h k))) less

next-apart : (m : MonitorId) (a b : ObsKey) → Comes m a.monitor → comes_before (observation_numbers a) (observation_numbers b) ≡ true → Comes m b.monitor
next-apart m a b c before =
    elim (cases_Bool (is_same_monitor a.monitor b.monitor)) [
      | inl same ↦ subst (λ n. Comes m n) (same_monitor a.monitor b.monitor same) c
      | inr other ↦ λ h k. before-trans (observation_numbers (at m h)) (observation_numbers (at a.monitor 0)) (observation_numbers (at b.monitor k)) (c h 0) (first-apart a b before other 0 k)
    ]

all-apart : (m : MonitorId) (row : Row) (rows : List Row) → Comes m row.0.monitor → rises_from observation_rank row rows ≡ true → AllByRecursion (λ (z : Row). Comes m z.0.monitor) rows
all-apart m row [] c h = tt
all-apart m row (z ∷ rows) c h =
    let parts = and_parts (comes_before (observation_rank row) (observation_rank z)) (rises_from observation_rank z rows) h in
    let next = next-apart m row.0 z.0 c parts.0 in
    (next, all-apart m z rows next parts.1)

or-second : (b c : Bool) → b ≡ false → (b || c) ≡ true → c ≡ true
or-second true c e h = absurd (false≢true (sym e))
or-second false c e h = h

named-apart : (m n : MonitorId) (rows : List Row) → AllByRecursion (λ (z : Row). Comes m z.0.monitor) rows → names rows n ≡ true → Comes m n
named-apart m n [] all h = absurd (false≢true h)
named-apart m n (z ∷ rows) all h =
    elim (cases_Bool (is_same_monitor z.0.monitor n)) [
      | inl same ↦ subst (λ k. Comes m k) (same_monitor z.0.monitor n same) all.0
      | inr other ↦ named-apart m n rows all.1 (or-second (is_same_monitor z.0.monitor n) (names rows n) other h)
    ]

flip : (a b : MonitorId) → is_same_monitor a b ≡ is_same_monitor b a
flip a b = choose (is_same_monitor a b) (is_same_monitor b a) refl refl
  where
    choose : (x y : Bool) → is_same_monitor a b ≡ x → is_same_monitor b a ≡ y → x ≡ y
    choose true true e f = refl
    choose true false e f = let same = same_monitor a b e in absurd (false≢true (sym f ∙ (λ i. is_same_monitor (sym same i) (same i)) ∙ e))
    choose false true e f = let same = same_monitor b a f in absurd (false≢true (sym e ∙ (λ i. is_same_monitor (sym same i) (same i)) ∙ f))
    choose false false e f = refl

-- ---- the lines of rows that pass a test

module _ (line : Row → List ℕ) where
  abbrev kept : (Row → Bool) → List Row → List ℕ
  kept p rows = flat_map (λ row. cond (p row) (line row) []) rows

  kept-same : (p q : Row → Bool) (rows : List Row) → ((row : Row) → p row ≡ q row) → kept p rows ≡ kept q rows
  kept-same p q [] same = refl
  kept-same p q (row ∷ rows) same = λ i. cond (same row i) (line row) [] ++ kept-same p q rows same i

  kept-none : (rows : List Row) → kept (λ row. false) rows ≡ []
  kept-none [] = refl
  kept-none (row ∷ rows) = kept-none rows

  -- if each row of the first test comes before each of the second one
  module _ (p q : Row → Bool) (order : (x y : Row) → p x ≡ true → q y ≡ true → comes_before (observation_rank x) (observation_rank y) ≡ true) where
    none-later : (row : Row) (rows : List Row) → q row ≡ true → AllByRecursion (λ z. comes_before (observation_rank row) (observation_rank z) ≡ true) rows → kept p rows ≡ []
    none-later row [] is later = refl
    none-later row (z ∷ rows) is later = choose (p z) refl (none-later row rows is later.1)
      where
        choose : (b : Bool) → p z ≡ b → kept p rows ≡ [] → cond b (line z) [] ++ kept p rows ≡ []
        choose true e none = absurd (false≢true (sym (before-back (observation_rank row) (observation_rank z) later.0) ∙ order z row e is))
        choose false e none = none

    parted : (rows : List Row) → rises observation_rank rows ≡ true → kept (λ row. p row || q row) rows ≡ kept p rows ++ kept q rows
    parted [] h = refl
    parted (row ∷ rows) h = choose (p row) (q row) refl refl (parted rows (rises-rest observation_rank row rows h))
      where
        choose : (a b : Bool) → p row ≡ a → q row ≡ b → kept (λ r. p r || q r) rows ≡ kept p rows ++ kept q rows
            → cond (a || b) (line row) [] ++ kept (λ r. p r || q r) rows ≡ (cond a (line row) [] ++ kept p rows) ++ (cond b (line row) [] ++ kept q rows)
        choose true true e f rest =
            let before = order row row e f in
            absurd (false≢true (sym (before-back (observation_rank row) (observation_rank row) before) ∙ before))
        choose true false e f rest = ap (λ l. line row ++ l) rest ∙ sym (append_assoc (line row) (kept p rows) (kept q rows))
        choose false true e f rest =
            let none = none-later row rows f (all_later observation_rank row rows h) in
            ap (λ l. line row ++ l) (rest ∙ ap (λ l. l ++ kept q rows) none) ∙ ap (λ l. l ++ (line row ++ kept q rows)) (sym none)
        choose false false e f rest = rest

-- ---- monitor after monitor

or-false : (b : Bool) → b ≡ (b || false)
or-false true = refl
or-false false = refl

or-again : (b c : Bool) → (b || c) ≡ (b || (b || c))
or-again true c = refl
or-again false c = refl

module _ (line : Row → List ℕ) (lines : MonitorId → List ℕ) (standing : List Row) (rising : rises observation_rank standing ≡ true)
    (lines-are : (m : MonitorId) → lines m ≡ kept line (λ row. is_same_monitor m row.0.monitor) standing) where
  walked-from : (before : Row) (rows : List Row) → rises_from observation_rank before rows ≡ true
      → lines before.0.monitor ++ walked lines (Some before.0.monitor) rows ≡ kept line (λ row. names (before ∷ rows) row.0.monitor) standing
  walked-from before [] h =
      append-nil (lines before.0.monitor) ∙ lines-are before.0.monitor
      ∙ kept-same line (λ row. is_same_monitor before.0.monitor row.0.monitor) (λ row. names (before ∷ []) row.0.monitor) standing (λ row. or-false (is_same_monitor before.0.monitor row.0.monitor))
  walked-from before (next ∷ rows) h =
      let parts = and_parts (comes_before (observation_rank before) (observation_rank next)) (rises_from observation_rank next rows) h in
      choose (is_same_monitor before.0.monitor next.0.monitor) refl parts.0 parts.1 (walked-from next rows parts.1)
    where
      choose : (b : Bool) → is_same_monitor before.0.monitor next.0.monitor ≡ b
          → comes_before (observation_rank before) (observation_rank next) ≡ true → rises_from observation_rank next rows ≡ true
          → lines next.0.monitor ++ walked lines (Some next.0.monitor) rows ≡ kept line (λ row. names (next ∷ rows) row.0.monitor) standing
          → lines before.0.monitor ++ (optional_lines lines (cond b None (Some next.0.monitor)) ++ walked lines (Some next.0.monitor) rows) ≡ kept line (λ row. names (before ∷ next ∷ rows) row.0.monitor) standing
      choose true e first_before rising_on rest =
          let same = same_monitor before.0.monitor next.0.monitor e in
          ap (λ m. lines m ++ walked lines (Some next.0.monitor) rows) same ∙ rest
          ∙ kept-same line (λ row. names (next ∷ rows) row.0.monitor) (λ row. names (before ∷ next ∷ rows) row.0.monitor) standing
          (λ row. or-again (is_same_monitor next.0.monitor row.0.monitor) (names rows row.0.monitor) ∙ ap (λ m. is_same_monitor m row.0.monitor || names (next ∷ rows) row.0.monitor) (sym same))
      choose false e first_before rising_on rest =
          let first = first-apart before.0 next.0 first_before e in
          let all : AllByRecursion (λ (z : Row). Comes before.0.monitor z.0.monitor) (next ∷ rows) = (first, all-apart before.0.monitor next rows first rising_on) in
          ap (λ l. lines before.0.monitor ++ l) rest
          ∙ ap (λ l. l ++ kept line (λ row. names (next ∷ rows) row.0.monitor) standing) (lines-are before.0.monitor)
          ∙ sym (parted line (λ row. is_same_monitor before.0.monitor row.0.monitor) (λ row. names (next ∷ rows) row.0.monitor)
          (λ x y is named. subst (λ m. comes_before (observation_numbers (at m x.0.hour)) (observation_rank y) ≡ true) (same_monitor before.0.monitor x.0.monitor is)
          (named-apart before.0.monitor y.0.monitor (next ∷ rows) all named x.0.hour y.0.hour))
          standing rising)

  walked-all : (rows : List Row) → rises observation_rank rows ≡ true → walked lines None rows ≡ kept line (λ row. names rows row.0.monitor) standing
  walked-all [] h = sym (kept-none line standing)
  walked-all (row ∷ rows) h = walked-from row rows h

-- ---- the days of a monitor

in_days : (first last hour : ℕ) → (nat_le (24 * first) hour && nat_lt hour (24 * first + (24 * last + 24 - 24 * first))) ≡ (nat_le first (hour / 24) && nat_le (hour / 24) last)
in_days first last hour = grind (arith, nat_tests)

module _ (span : DaySpan) (rows : List Row) where
  -- the line of what stands on one of the days, if the extract says nothing of it
  abbrev day_line : Row → List ℕ
  day_line row = optional_text (cond (is_in_span span row.0.hour && is_none (content_at row.0 rows)) (Some (Delete row.0.monitor row.0.hour)) None)

  module _ (m : MonitorId) where
    abbrev from_ : ℕ
    from_ = 24 * span.first

    abbrev hours_ : ℕ
    hours_ = 24 * span.last + 24 - 24 * span.first

    abbrev within_ : List Row → List Row
    within_ standing = filter (in_span m from_ hours_) standing

    dropped-lines : (standing : List Row) → dropped_lines span rows standing m ≡ kept day_line (λ row. is_same_monitor m row.0.monitor) standing
    dropped-lines [] = refl
    dropped-lines (row ∷ standing) =
        step (is_same_monitor row.0.monitor m) refl (dropped-lines standing)
        ∙ ap (λ b. cond b (day_line row) [] ++ kept day_line (λ r. is_same_monitor m r.0.monitor) standing) (flip row.0.monitor m)
      where
        split : (in_them absent : Bool) → line_if_absent rows m (hour_content row) ≡ optional_text (cond absent (Some (Delete row.0.monitor row.0.hour)) None)
            → dropped_lines span rows standing m ≡ kept day_line (λ r. is_same_monitor m r.0.monitor) standing
            → flat_map (line_if_absent rows m) (map hour_content (cond in_them (row ∷ within_ standing) (within_ standing)))
            ≡ optional_text (cond (in_them && absent) (Some (Delete row.0.monitor row.0.hour)) None) ++ kept day_line (λ r. is_same_monitor m r.0.monitor) standing
        split true absent l rest = λ i. l i ++ rest i
        split false absent l rest = rest

        step : (b : Bool) → is_same_monitor row.0.monitor m ≡ b → dropped_lines span rows standing m ≡ kept day_line (λ r. is_same_monitor m r.0.monitor) standing
            → flat_map (line_if_absent rows m) (map hour_content (cond (b && nat_le from_ row.0.hour && nat_lt row.0.hour (from_ + hours_)) (row ∷ within_ standing) (within_ standing)))
            ≡ cond b (day_line row) [] ++ kept day_line (λ r. is_same_monitor m r.0.monitor) standing
        step true e rest =
            ap (λ b. flat_map (line_if_absent rows m) (map hour_content (cond b (row ∷ within_ standing) (within_ standing)))) (in_days span.first span.last row.0.hour)
            ∙ split (is_in_span span row.0.hour) (is_none (content_at row.0 rows)) (ap (λ n. line_if_absent rows n (hour_content row)) (sym (same_monitor row.0.monitor m e))) rest
        step false e rest = rest

  named-lines : (standing : List Row) → kept day_line (λ row. names rows row.0.monitor) standing ≡ flat_map (deletion_line span rows) standing
  named-lines [] = refl
  named-lines (row ∷ standing) =
      choose (names rows row.0.monitor) (is_in_span span row.0.hour && is_none (content_at row.0 rows)) (named-lines standing)
    where
      choose : (n x : Bool) → kept day_line (λ r. names rows r.0.monitor) standing ≡ flat_map (deletion_line span rows) standing
          → cond n (optional_text (cond x (Some (Delete row.0.monitor row.0.hour)) None)) [] ++ kept day_line (λ r. names rows r.0.monitor) standing
          ≡ optional_text (cond (x && n) (Some (Delete row.0.monitor row.0.hour)) None) ++ flat_map (deletion_line span rows) standing
      choose true true h = ap (λ l. optional_text (Some (Delete row.0.monitor row.0.hour)) ++ l) h
      choose true false h = h
      choose false true h = h
      choose false false h = h

  pub dropped-walked : (standing : List Row) → rises observation_rank standing ≡ true → rises observation_rank rows ≡ true
      → walked (dropped_lines span rows standing) None rows ≡ flat_map (deletion_line span rows) standing
  dropped-walked standing rising rows-rise =
      walked-all day_line (dropped_lines span rows standing) standing rising (λ m. dropped-lines m standing) rows rows-rise ∙ named-lines standing

-- ---- row by row

pub more_walked : (lines : MonitorId → List ℕ) (before : Option MonitorId) (row : Row) (rest items : List Row) (text now all : List ℕ)
    → items ≡ row ∷ rest → now ≡ text ++ once lines before row.0.monitor → text ++ walked lines before items ≡ all → now ++ walked lines (Some row.0.monitor) rest ≡ all
more_walked lines before row rest items text now all next is so_far =
    (λ i. is i ++ walked lines (Some row.0.monitor) rest) ∙ append_assoc text (once lines before row.0.monitor) (walked lines (Some row.0.monitor) rest)
    ∙ ap (λ l. text ++ walked lines before l) (sym next) ∙ so_far

pub all_walked : (lines : MonitorId → List ℕ) (before : Option MonitorId) (items : List Row) (text all : List ℕ) → items ≡ [] → text ++ walked lines before items ≡ all → text ≡ all
all_walked lines before items text all end so_far = sym (append-nil text) ∙ ap (λ l. text ++ walked lines before l) (sym end) ∙ so_far
