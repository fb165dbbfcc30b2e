-- The changes row by row are the lines of the deletions, the updates and the insertions.
use Rattle.std.proofs.Common.{◌≡◌, ℕ, Bool, true, false, cond, not, ◌&&◌, List, [], ◌∷◌, ◌++◌, Some, None, Option, map, refl, sym, ap, ◌∙◌}
use Rattle.std.specs.Prelude.{filter, flat_map, is_none, option_map}
use Rattle.std.specs.Option.{option_map_or}
use Rattle.std.proofs.lemmas.Bool.{false≢true}
use Rattle.std.proofs.lemmas.List.{append_assoc, append-nil}
use Rattle.std.proofs.lemmas.List.Concat.{flat_map-append}
use Rattle.aq_base.specs.declared.observation.ObsKey.{ObsKey}
use Rattle.aq_base.specs.declared.observation.Observation.{Observation}
use Rattle.aq_staging.specs.Extracts.Texts.{change_lines, is_deleted, is_put, optional_text}
use Rattle.aq_rules.specs.Extracts.Changes.{DaySpan, change_text, change_values, deletion_of, is_changed, is_dropped, is_in_span, is_new, names, put_of, says}
use Rattle.aq_rules.specs.Lines.RdForm.{RdValue}
use Rattle.aq_rules.specs.Office.Load.{is_same_content}
use Rattle.aq_rules.specs.Office.Office.{Office, content_of, observation_at}

abbrev Row : Type 0
Row = ObsKey × Observation

-- the lines of what passes a test
filtered : (p q : Row → Bool) (change : Row → RdValue) (rows : List Row) → ((row : Row) → p row ≡ q row)
    → flat_map (λ row. optional_text (cond (p row) (Some (change row)) None)) rows ≡ flat_map change_text (map change (filter q rows))
filtered p q change [] same = refl
filtered p q change (row ∷ rows) same = choose (p row) (q row) (same row) (filtered p q change rows same)
  where
    choose : (a b : Bool) → a ≡ b → flat_map (λ row. optional_text (cond (p row) (Some (change row)) None)) rows ≡ flat_map change_text (map change (filter q rows))
        → (optional_text (cond a (Some (change row)) None) ++ flat_map (λ row. optional_text (cond (p row) (Some (change row)) None)) rows) ≡ flat_map change_text (map change (cond b (row ∷ filter q rows) (filter q rows)))
    choose true true e rest = ap (λ l. change_text (change row) ++ l) rest
    choose true false e rest = absurd (false≢true (sym e))
    choose false true e rest = absurd (false≢true e)
    choose false false e rest = rest

update-test : (standing : Option Observation) (content : Observation) → is_put true standing content ≡ option_map_or (λ s. not (is_same_content s content)) standing false
update-test None content = refl
update-test (Some s) content = refl

insertion-test : (standing : Option Observation) (content : Observation) → is_put false standing content ≡ is_none standing
insertion-test None content = refl
insertion-test (Some s) content = refl

none-mapped : {A B : Type 0} (f : A → B) (o : Option A) → is_none (option_map f o) ≡ is_none o
none-mapped f None = refl
none-mapped f (Some x) = refl

swapped : (a b c : Bool) → ((a && b) && c) ≡ (c && a && b)
swapped true true true = refl
swapped true true false = refl
swapped true false true = refl
swapped true false false = refl
swapped false b true = refl
swapped false b false = refl

deletion-test : (span : DaySpan) (rows : List Row) (row : Row) → is_deleted span rows row.0 ≡ is_dropped span rows row
deletion-test span rows row =
    ap (λ b. (is_in_span span row.0.hour && b) && names rows row.0.monitor) (none-mapped content_of (says rows row.0))
    ∙ swapped (is_in_span span row.0.hour) (is_none (says rows row.0)) (names rows row.0.monitor)

pub all-texts : (span : DaySpan) (office : Office) (rows : List Row) → change_lines span office rows ≡ flat_map change_text (change_values span office rows)
unfolding change_values
all-texts span office rows =
    let gone = map deletion_of (filter (is_dropped span rows) office.observations) in
    let other = map (put_of true office) (filter (is_changed office) rows) in
    let fresh = map (put_of false office) (filter (is_new office) rows) in
    (λ i.
    (filtered (λ row. is_deleted span rows row.0) (is_dropped span rows) deletion_of office.observations (deletion-test span rows) i
    ++ filtered (λ row. is_put true (observation_at office row.0) row.1) (is_changed office) (put_of true office) rows (λ row. update-test (observation_at office row.0) row.1) i)
    ++ filtered (λ row. is_put false (observation_at office row.0) row.1) (is_new office) (put_of false office) rows (λ row. insertion-test (observation_at office row.0) row.1) i)
    ∙ ap (λ l. l ++ flat_map change_text fresh) (sym (flat_map-append change_text gone other))
    ∙ sym (flat_map-append change_text (gone ++ other) fresh)

-- ---- lines row by row

pub more_lines : {X : Type 0} (line : X → List ℕ) (x : X) (rest items : List X) (before now all : List ℕ) → items ≡ x ∷ rest → now ≡ before ++ line x → before ++ flat_map line items ≡ all → now ++ flat_map line rest ≡ all
more_lines line x rest items before now all next is so_far =
    (λ i. is i ++ flat_map line rest) ∙ append_assoc before (line x) (flat_map line rest) ∙ ap (λ l. before ++ flat_map line l) (sym next) ∙ so_far

pub all_lines : {X : Type 0} (line : X → List ℕ) (items : List X) (before all : List ℕ) → items ≡ [] → before ++ flat_map line items ≡ all → before ≡ all
all_lines line items before all end so_far = sym (append-nil before) ∙ ap (λ l. before ++ flat_map line l) (sym end) ∙ so_far
