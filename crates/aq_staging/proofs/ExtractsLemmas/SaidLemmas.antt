-- What stands at a monitor and is not said there, hour after hour, is what an extract has no row for.
use Rattle.std.proofs.Common.{◌≡◌, ℕ, ◌+◌, ◌<◌, ◌≤◌, Bool, true, false, cond, not, ◌&&◌, ◌==◌, List, [], ◌∷◌, ◌++◌, Some, None, Option, map, refl, sym, ap, ◌∙◌, arith}
use Rattle.std.specs.Prelude.{filter, flat_map, is_none, nat_le, nat_lt, option_map}
use Rattle.std.specs.List.{AllByRecursion}
use Rattle.std.proofs.lemmas.Bool.{and_parts}
use Rattle.std.proofs.lemmas.Bool.Decides.{nat_tests}
use Rattle.std.proofs.lemmas.List.{append-nil}
use Rattle.aq_base.specs.declared.monitor.MonitorId.{MonitorId}
use Rattle.aq_base.specs.declared.observation.ObsKey.{ObsKey}
use Rattle.aq_base.specs.declared.observation.Observation.{Observation}
use Rattle.aq_staging.specs.Extracts.Said.{from_hour, hour_of, starts_at, unsaid_deletion, unsaid_lines}
use Rattle.aq_staging.specs.Extracts.Texts.{line_if_absent, optional_text}
use Rattle.aq_rules.specs.Lines.RdForm.{Delete}
use Rattle.aq_rules.specs.Office.Monitors.{is_same_monitor}
use Rattle.aq_rules.specs.Office.Office.{observation_rank, rises}
use Rattle.aq_series.proofs.Rising.{Later, Rising, found}
use Rattle.aq_series.proofs.Spans.{span-at, span-rises}
use Rattle.aq_shelf.specs.Standing.{content_at, hour_content, in_span, observations_in}

abbrev Row : Type 0
Row = ObsKey × Observation

abbrev Item : Type 0
Item = ℕ × Observation

abbrev itself : ℕ → ℕ
itself hour = hour

-- ---- tests of hours

not-same : (s k h : ℕ) → nat_lt s k ≡ true → k ≤ h → (s == h) ≡ false
not-same s k h less le = grind (arith, nat_tests)

not-later : (h k : ℕ) → h < k → (k == h) ≡ false
not-later h k less = grind (arith, nat_tests)

after : (s h : ℕ) → nat_lt s h ≡ false → (s == h) ≡ false → h ≤ s
after s h low other = grind (arith, nat_tests)

least : (a b : ℕ) → nat_le a b ≡ true → a ≤ b
least a b h = grind (arith, nat_tests)

most : (a b : ℕ) → nat_lt a b ≡ true → a < b
most a b h = grind (arith, nat_tests)

-- ---- hours that rise

-- none of some hours is this one
abbrev lacks : ℕ → List ℕ → Bool
lacks h [] = true
lacks h (k ∷ ks) = cond (k == h) false (lacks h ks)

lacks-from : (h k : ℕ) (ks : List ℕ) → k ≤ h → lacks h (from_hour k ks) ≡ lacks h ks
lacks-from h k [] le = refl
lacks-from h k (s ∷ ks) le = choose (nat_lt s k) refl (lacks-from h k ks le)
  where
    choose : (b : Bool) → nat_lt s k ≡ b → lacks h (from_hour k ks) ≡ lacks h ks → lacks h (cond b (from_hour k ks) (s ∷ ks)) ≡ cond (s == h) false (lacks h ks)
    choose true less rest = rest ∙ ap (λ b. cond b false (lacks h ks)) (sym (not-same s k h less le))
    choose false less rest = refl

lacks-later : (h s : ℕ) (ks : List ℕ) → h ≤ s → Later itself s ks → lacks h ks ≡ true
lacks-later h s [] le later = refl
lacks-later h s (k ∷ ks) le later =
    ap (λ b. cond b false (lacks h ks)) (not-later h k (omega (arith, le, later.0))) ∙ lacks-later h s ks le later.1

starts-said : (h : ℕ) (ks : List ℕ) → Rising itself ks → starts_at h (from_hour h ks) ≡ not (lacks h ks)
starts-said h [] rising = refl
starts-said h (s ∷ ks) rising = choose (nat_lt s h) (s == h) refl refl (starts-said h ks rising.1)
  where
    choose : (b c : Bool) → nat_lt s h ≡ b → (s == h) ≡ c → starts_at h (from_hour h ks) ≡ not (lacks h ks)
        → starts_at h (cond b (from_hour h ks) (s ∷ ks)) ≡ not (cond (s == h) false (lacks h ks))
    choose true c less same rest = rest ∙ ap (λ b. not (cond b false (lacks h ks))) (sym (not-same s h h less (omega arith)))
    choose false true less same rest = same ∙ ap (λ b. not (cond b false (lacks h ks))) (sym same)
    choose false false less same rest =
        same ∙ ap not (sym (lacks-later h s ks (after s h less same) rising.0)) ∙ ap (λ b. not (cond b false (lacks h ks))) (sym same)

rising-from : (h : ℕ) (ks : List ℕ) → Rising itself ks → Rising itself (from_hour h ks)
rising-from h [] rising = tt
rising-from h (s ∷ ks) rising = choose (nat_lt s h) (rising-from h ks rising.1)
  where
    choose : (b : Bool) → Rising itself (from_hour h ks) → Rising itself (cond b (from_hour h ks) (s ∷ ks))
    choose true rest = rest
    choose false rest = rising

later-hours : (n : ℕ) (items : List Item) → Later hour_of n items → Later itself n (map hour_of items)
later-hours n [] later = tt
later-hours n (item ∷ items) later = (later.0, later-hours n items later.1)

rising-hours : (items : List Item) → Rising hour_of items → Rising itself (map hour_of items)
rising-hours [] rising = tt
rising-hours (item ∷ items) rising = (later-hours item.0 items rising.0, rising-hours items rising.1)

lacks-found : (h : ℕ) (items : List Item) → lacks h (map hour_of items) ≡ is_none (found hour_of h items)
lacks-found h [] = refl
lacks-found h (item ∷ items) = choose (item.0 == h) (lacks-found h items)
  where
    choose : (b : Bool) → lacks h (map hour_of items) ≡ is_none (found hour_of h items)
        → cond b false (lacks h (map hour_of items)) ≡ is_none (cond b (Some item) (found hour_of h items))
    choose true rest = refl
    choose false rest = rest

-- ---- item after item

none-mapped : {A B : Type 0} (f : A → B) (o : Option A) → is_none o ≡ is_none (option_map f o)
none-mapped f None = refl
none-mapped f (Some x) = refl

module _ (monitor : MonitorId) (rows : List Row) where
  abbrev at : ℕ → ObsKey
  at hour = record { monitor = monitor; hour = hour }

  -- nothing is said of an hour exactly if the extract has no row there
  abbrev IsTold : List ℕ → ℕ → Type 0
  IsTold said hour = lacks hour said ≡ is_none (content_at (at hour) rows)

  told-from : (said : List ℕ) (k : ℕ) (items : List Item) → Later hour_of k items → AllByRecursion (λ (item : Item). IsTold said item.0) items
      → AllByRecursion (λ (item : Item). IsTold (from_hour k said) item.0) items
  told-from said k [] later told = tt
  told-from said k (item ∷ items) later told =
      (lacks-from item.0 k said (omega (arith, later.0)) ∙ told.0, told-from said k items later.1 told.1)

  one-line : (said : List ℕ) (hour : ℕ) → Rising itself said → IsTold said hour
      → unsaid_deletion (from_hour hour said) monitor hour ≡ cond (is_none (content_at (at hour) rows)) (Some (Delete monitor hour)) None
  one-line said hour rising told =
      turned (starts_at hour (from_hour hour said)) (is_none (content_at (at hour) rows)) (starts-said hour said rising ∙ ap not told)
    where
      turned : (b c : Bool) → b ≡ not c → cond b None (Some (Delete monitor hour)) ≡ cond c (Some (Delete monitor hour)) None
      turned b true e = ap (λ d. cond d None (Some (Delete monitor hour))) e
      turned b false e = ap (λ d. cond d None (Some (Delete monitor hour))) e

  unsaid-items : (said : List ℕ) (items : List Item) → Rising itself said → Rising hour_of items → AllByRecursion (λ (item : Item). IsTold said item.0) items
      → unsaid_lines monitor said items ≡ flat_map (line_if_absent rows monitor) items
  unsaid-items said [] said-rising rising told = refl
  unsaid-items said (item ∷ items) said-rising rising told =
      let rest = unsaid-items (from_hour item.0 said) items (rising-from item.0 said said-rising) rising.1 (told-from said item.0 items rising.0 told.1) in
      λ i. optional_text (one-line said item.0 said-rising told.0 i) ++ rest i

  module _ (from hours : ℕ) where
    -- what holds of each hour of a span holds of those that stand in it
    each-within : (P : ℕ → Type 0) → ((hour : ℕ) → from ≤ hour → hour < from + hours → P hour) → (standing : List Row)
        → AllByRecursion (λ (item : Item). P item.0) (observations_in monitor from hours standing)
    each-within P holds [] = tt
    each-within P holds (row ∷ standing) = choose (in_span monitor from hours row) refl (each-within P holds standing)
      where
        choose : (b : Bool) → in_span monitor from hours row ≡ b → AllByRecursion (λ (item : Item). P item.0) (observations_in monitor from hours standing)
            → AllByRecursion (λ (item : Item). P item.0) (map hour_content (cond b (row ∷ filter (in_span monitor from hours) standing) (filter (in_span monitor from hours) standing)))
        choose true is rest =
            let outer = and_parts (is_same_monitor row.0.monitor monitor && nat_le from row.0.hour) (nat_lt row.0.hour (from + hours)) is in
            let inner = and_parts (is_same_monitor row.0.monitor monitor) (nat_le from row.0.hour) outer.0 in
            (holds row.0.hour (least from row.0.hour inner.1) (most row.0.hour (from + hours) outer.1), rest)
        choose false is rest = rest

    pub unsaid-absent : (standing : List Row) → rises observation_rank standing ≡ true → rises observation_rank rows ≡ true
        → unsaid_lines monitor (map hour_of (observations_in monitor from hours rows)) (observations_in monitor from hours standing)
        ≡ flat_map (line_if_absent rows monitor) (observations_in monitor from hours standing)
    unsaid-absent standing rising rows-rising =
        let said = observations_in monitor from hours rows in
        unsaid-items (map hour_of said) (observations_in monitor from hours standing)
        (rising-hours said (span-rises monitor from hours rows rows-rising)) (span-rises monitor from hours standing rising)
        (each-within (IsTold (map hour_of said))
        (λ hour low high. lacks-found hour said ∙ none-mapped (λ (item : Item). item.1) (found hour_of hour said) ∙ ap is_none (span-at monitor from hours hour low high rows rows-rising)) standing)

-- ---- where the walk ends

pub all_unsaid : (monitor : MonitorId) (said : List ℕ) (items : List Item) (text all : List ℕ) → items ≡ [] → text ++ unsaid_lines monitor said items ≡ all → text ≡ all
all_unsaid monitor said items text all end so_far = sym (append-nil text) ∙ ap (λ l. text ++ unsaid_lines monitor said l) (sym end) ∙ so_far
