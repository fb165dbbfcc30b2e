-- What stands after the changes of an extract is what it says at its places, and what stood at all others.
use Rattle.std.proofs.Common.{◌≡◌, ℕ, Bool, true, false, not, cond, ◌&&◌, List, [], ◌∷◌, Some, None, Option, option_map, is_some, is_none, refl, sym, ap, ◌∙◌}
use Rattle.std.specs.Prelude.{filter, find}
use Rattle.std.specs.Option.{option_map_or, option_or}
use Rattle.aq_base.specs.declared.observation.ObsKey.{ObsKey}
use Rattle.aq_base.specs.declared.observation.Observation.{Observation}
use Rattle.aq_rules.specs.Extracts.BroughtUpToDate.{is_of_extract, updated}
use Rattle.aq_rules.specs.Extracts.Changes.{DaySpan, is_changed, is_dropped, is_in_span, is_new, names, says}
use Rattle.aq_rules.specs.Lines.Spellings.{◌>>=◌}
use Rattle.aq_rules.specs.Office.Load.{is_same_content}
use Rattle.aq_rules.specs.Office.Office.{Office, IsOffice, content_of, is_same, observation_at, observation_rank, rises, rises_from, row_at, with_row, without_row}
use Rattle.aq_rules.specs.Office.RowOrder.{filter-rises, with_row-rises, without_row-rises}
use Rattle.aq_rules.proofs.ChangesLoad.{dropped, put}
use Rattle.aq_rules.proofs.ExtractRows.{AreRows}
use Rattle.aq_rules.proofs.Found.{find-passes}
use Rattle.aq_rules.proofs.Lookups.{found-with, found-without, one_list, same-is}
use Rattle.aq_rules.proofs.ObservationsLoadBack.{rest-of}
use Rattle.aq_rules.proofs.OneKey.{one_observation_key}
use Rattle.aq_rules.proofs.RisingRows.{all_later, others-after, row_at-none}
use Rattle.aq_rules.proofs.SameRows.{content-same}

abbrev pub Entry : Type 0
Entry = ObsKey × Observation

abbrev pub At : List ℕ → List Entry → Option Entry
At key rows = row_at observation_rank key rows

-- ---- look-ups in lists that are filtered, dropped from and put into

none-filtered : (keep p : Entry → Bool) (rows : List Entry) → find p rows ≡ None → find p (filter keep rows) ≡ None
none-filtered keep p [] h = refl
none-filtered keep p (row ∷ rows) h = choose (p row) (keep row) refl h (none-filtered keep p rows)
  where
    choose : (b k : Bool) → p row ≡ b → cond b (Some row) (find p rows) ≡ None → (find p rows ≡ None → find p (filter keep rows) ≡ None)
        → find p (cond k (row ∷ filter keep rows) (filter keep rows)) ≡ None
    choose true k e h rest = cc
    choose false true e h rest = rw e (rest h)
    choose false false e h rest = rest h

first_later : (row : Entry) (rows : List Entry) → rises_from observation_rank row rows ≡ true → At (observation_rank row) rows ≡ None
first_later row rows rising = row_at-none observation_rank (observation_rank row) rows (others-after observation_rank (observation_rank row) rows (all_later observation_rank row rows rising))

pub found-filtered : (keep : Entry → Bool) (key : List ℕ) (rows : List Entry) → rises observation_rank rows ≡ true
    → At key (filter keep rows) ≡ (At key rows >>= λ row. cond (keep row) (Some row) None)
found-filtered keep key [] rising = refl
found-filtered keep key (row ∷ rows) rising = choose (is_same (observation_rank row) key) (keep row) refl refl (found-filtered keep key rows (rest-of row rows rising))
  where
    choose : (s k : Bool) → is_same (observation_rank row) key ≡ s → keep row ≡ k
        → At key (filter keep rows) ≡ (At key rows >>= λ row. cond (keep row) (Some row) None)
        → At key (cond k (row ∷ filter keep rows) (filter keep rows)) ≡ (cond s (Some row) (At key rows) >>= λ row. cond (keep row) (Some row) None)
    choose true true e f rest = rw (e, f) refl
    choose true false e f rest =
        let none = first_later row rows rising in
        let gone = none-filtered keep (λ x. is_same (observation_rank x) (observation_rank row)) rows none in
        ap (λ k. At k (filter keep rows)) (sym (same-is (observation_rank row) key e)) ∙ gone ∙ rw f refl
    choose false true e f rest = rw e rest
    choose false false e f rest = rest

pub found-dropped : (key : List ℕ) (standing piece : List Entry) → At key (dropped standing piece) ≡ cond (is_some (At key piece)) None (At key standing)
found-dropped key standing [] = refl
found-dropped key standing (row ∷ piece) =
    found-dropped key (without_row observation_rank (observation_rank row) standing) piece
    ∙ ap (λ o. cond (is_some (At key piece)) None o) (found-without observation_rank key (observation_rank row) standing)
    ∙ choose (is_same (observation_rank row) key) (At key piece)
  where
    choose : (s : Bool) (o : Option Entry) → cond (is_some o) None (cond s None (At key standing)) ≡ cond (is_some (cond s (Some row) o)) None (At key standing)
    choose true (Some x) = refl
    choose true None = refl
    choose false o = refl

pub found-put : (key : List ℕ) (standing piece : List Entry) → rises observation_rank piece ≡ true → At key (put standing piece) ≡ option_or (At key piece) (At key standing)
found-put key standing [] rising = refl
found-put key standing (row ∷ piece) rising =
    found-put key (with_row observation_rank row standing) piece (rest-of row piece rising)
    ∙ ap (option_or (At key piece)) (found-with observation_rank key row standing)
    ∙ choose (is_same (observation_rank row) key) refl
  where
    choose : (s : Bool) → is_same (observation_rank row) key ≡ s
        → option_or (At key piece) (cond s (Some row) (At key standing)) ≡ option_or (cond s (Some row) (At key piece)) (At key standing)
    choose true e =
        let none : At key piece ≡ None = ap (λ k. At k piece) (sym (same-is (observation_rank row) key e)) ∙ first_later row piece rising in
        ap (λ o. option_or o (Some row)) none
    choose false e = refl

dropped-rises : (standing piece : List Entry) → rises observation_rank standing ≡ true → rises observation_rank (dropped standing piece) ≡ true
dropped-rises standing [] h = h
dropped-rises standing (row ∷ piece) h = dropped-rises (without_row observation_rank (observation_rank row) standing) piece (without_row-rises observation_rank (observation_rank row) standing h)

put-rises : (standing piece : List Entry) → rises observation_rank standing ≡ true → rises observation_rank (put standing piece) ≡ true
put-rises standing [] h = h
put-rises standing (row ∷ piece) h = put-rises (with_row observation_rank row standing) piece (with_row-rises observation_rank row standing h)

-- ---- what is found after the changes of an extract

pub some_found : (keep : Entry → Bool) (rows : List Entry) (row : Entry) (key : List ℕ) → At key rows ≡ Some row → observation_rank row ≡ key
some_found keep rows row key h = same-is (observation_rank row) key (find-passes (λ x. is_same (observation_rank x) key) rows row h)

no_third : (a b n : Bool) (o : Entry) → n ≡ true → cond (is_some (cond (a && b && n) (Some o) None)) None (Some o) ≡ cond (not (a && b)) (Some o) None
no_third true true true o h = refl
no_third true false true o h = refl
no_third false true true o h = refl
no_third false false true o h = refl
no_third a b false o h = cc

third_stays : (a b n : Bool) (o : Entry) → n ≡ false → cond (is_some (cond (a && b && n) (Some o) None)) None (Some o) ≡ Some o
third_stays true true false o h = refl
third_stays true false false o h = refl
third_stays false true false o h = refl
third_stays false false false o h = refl
third_stays a b true o h = cc

module _ (span : DaySpan) (office : Office) (rows : List Entry) (valid : IsOffice office) (are : AreRows span office rows) where
  abbrev pub gone : List Entry
  gone = filter (is_dropped span rows) office.observations

  abbrev pub other : List Entry
  other = filter (is_changed office) rows

  abbrev pub fresh : List Entry
  fresh = filter (is_new office) rows

  abbrev pub first_ : List Entry
  first_ = dropped office.observations gone

  abbrev pub second_ : List Entry
  second_ = put first_ other

  abbrev pub third_ : List Entry
  third_ = put second_ fresh

  other-rises : rises observation_rank other ≡ true
  other-rises = filter-rises observation_rank (is_changed office) rows are.rising

  fresh-rises : rises observation_rank fresh ≡ true
  fresh-rises = filter-rises observation_rank (is_new office) rows are.rising

  pub at-gone : (key : List ℕ) → At key gone ≡ (At key office.observations >>= λ row. cond (is_dropped span rows row) (Some row) None)
  at-gone key = found-filtered (is_dropped span rows) key office.observations valid.keys_rise.observations

  pub at-other : (key : List ℕ) → At key other ≡ (At key rows >>= λ row. cond (is_changed office row) (Some row) None)
  at-other key = found-filtered (is_changed office) key rows are.rising

  pub at-fresh : (key : List ℕ) → At key fresh ≡ (At key rows >>= λ row. cond (is_new office row) (Some row) None)
  at-fresh key = found-filtered (is_new office) key rows are.rising

  pub at-second : (key : List ℕ) → At key second_ ≡ option_or (At key other) (cond (is_some (At key gone)) None (At key office.observations))
  at-second key = found-put key first_ other other-rises ∙ ap (option_or (At key other)) (found-dropped key office.observations gone)

  at-third : (key : List ℕ) → At key third_ ≡ option_or (At key fresh) (option_or (At key other) (cond (is_some (At key gone)) None (At key office.observations)))
  at-third key = found-put key second_ fresh fresh-rises ∙ ap (option_or (At key fresh)) (at-second key)

  pub at-updated : (key : List ℕ) → At key (updated span office rows)
      ≡ option_or (At key rows) (At key office.observations >>= λ row. cond (not (is_of_extract span rows row.0)) (Some row) None)
  at-updated key =
      found-put key (filter (λ (row : Entry). not (is_of_extract span rows row.0)) office.observations) rows are.rising
      ∙ ap (option_or (At key rows)) (found-filtered (λ (row : Entry). not (is_of_extract span rows row.0)) key office.observations valid.keys_rise.observations)

  abbrev Made : Option Entry → Option Entry → Type 0
  Made r o =
      option_or (r >>= λ row. cond (is_new office row) (Some row) None)
      (option_or (r >>= λ row. cond (is_changed office row) (Some row) None) (cond (is_some (o >>= λ row. cond (is_dropped span rows row) (Some row) None)) None o))
      ≡ option_or r (o >>= λ row. cond (not (is_of_extract span rows row.0)) (Some row) None)

  made : (key : List ℕ) (r o : Option Entry) → At key rows ≡ r → At key office.observations ≡ o → Made r o
  made key None None e f = refl
  made key None (Some o) e f =
      let rank = some_found (is_dropped span rows) office.observations o key f in
      let none : says rows o.0 ≡ None = ap (λ k. At k rows) rank ∙ e in
      no_third (names rows o.0.monitor) (is_in_span span o.0.hour) (is_none (says rows o.0)) o (ap is_none none)
  made key (Some r) None e f =
      let rank = some_found (is_new office) rows r key e in
      let none : observation_at office r.0 ≡ None = ap (option_map content_of) (ap (λ k. At k office.observations) rank ∙ f) in
      let new : is_new office r ≡ true = ap is_none none in
      ap (λ b. option_or (cond b (Some r) None) (option_or (cond (is_changed office r) (Some r) None) None)) new
  made key (Some r) (Some o) e f = by_content (is_same_content o.1 r.1) refl
    where
      rank : observation_rank r ≡ key
      rank = some_found (is_new office) rows r key e

      place : observation_rank o ≡ key
      place = some_found (is_new office) office.observations o key f

      stands : observation_at office r.0 ≡ Some o.1
      stands = ap (option_map content_of) (ap (λ k. At k office.observations) rank ∙ f)

      old : is_new office r ≡ false
      old = ap is_none stands

      kept : cond (is_some (cond (is_dropped span rows o) (Some o) None)) None (Some o) ≡ Some o
      kept = third_stays (names rows o.0.monitor) (is_in_span span o.0.hour) (is_none (says rows o.0)) o (ap is_none (ap (λ k. At k rows) place ∙ e))

      by_content : (b : Bool) → is_same_content o.1 r.1 ≡ b → Made (Some r) (Some o)
      by_content true c =
          let same : is_changed office r ≡ false = ap (λ (x : Option Observation). option_map_or (λ content. not (is_same_content content r.1)) x false) stands ∙ ap not c in
          let key_same = one_observation_key o.0 r.0 (place ∙ sym rank) in
          let content = content-same o.1 r.1 c in
          let row : Some o ≡ Some r = λ i. Some (key_same i, content i) in
          (λ i. option_or (cond (old i) (Some r) None) (option_or (cond (same i) (Some r) None) (kept i))) ∙ row
      by_content false c =
          let changed_ : is_changed office r ≡ true = ap (λ (x : Option Observation). option_map_or (λ content. not (is_same_content content r.1)) x false) stands ∙ ap not c in
          λ i. option_or (cond (old i) (Some r) None) (option_or (cond (changed_ i) (Some r) None) (kept i))

  third-rises : rises observation_rank third_ ≡ true
  third-rises = put-rises second_ fresh (put-rises first_ other (dropped-rises office.observations gone valid.keys_rise.observations))

  pub updated-rises : rises observation_rank (updated span office rows) ≡ true
  updated-rises = put-rises (filter (λ (row : Entry). not (is_of_extract span rows row.0)) office.observations) rows (filter-rises observation_rank (λ (row : Entry). not (is_of_extract span rows row.0)) office.observations valid.keys_rise.observations)

  pub all-updated : third_ ≡ updated span office rows
  all-updated =
      one_list observation_rank third_ (updated span office rows) third-rises updated-rises
      (λ key.
      at-third key
      ∙ (λ i. option_or (at-fresh key i) (option_or (at-other key i) (cond (is_some (at-gone key i)) None (At key office.observations))))
      ∙ made key (At key rows) (At key office.observations) refl refl
      ∙ sym (at-updated key))
