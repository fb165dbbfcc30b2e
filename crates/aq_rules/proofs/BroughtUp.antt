-- A load of the changes of an extract accepts each line and brings what stands up to date, whole or piece by piece.
use Rattle.std.proofs.Common.{◌≡◌, ℕ, ◌+◌, ◌≤◌, Bool, true, false, not, cond, ◌&&◌, ◌||◌, List, [], ◌∷◌, ◌++◌, length, map, Some, None, Option, option_map, is_some, is_none, refl, sym, ap, ◌∙◌, arith, subst}
use Rattle.std.specs.List.{list_all, list_any}
use Rattle.std.specs.Option.{option_map_or, option_or}
use Rattle.std.proofs.lemmas.Bool.{and_from, and_parts}
use Rattle.std.proofs.lemmas.List.{map-append}
use Rattle.aq_base.specs.declared.observation.Observation.{Observation}
use Rattle.aq_rules.specs.Extracts.BroughtUpToDate.{after_changes, changes_text, updated, updated_office}
use Rattle.aq_rules.specs.Extracts.Changes.{DaySpan, change_values, deletion_of, is_changed, is_dropped, is_in_span, is_new, names, put_of, says}
use Rattle.aq_rules.specs.Limits.{MOST_OBSERVATIONS}
use Rattle.aq_rules.specs.Lines.Canonical.{canonical_rd, is_rd_value}
use Rattle.aq_rules.specs.Lines.RdForm.{RdValue}
use Rattle.aq_rules.specs.Lines.Spellings.{◌>>=◌}
use Rattle.aq_rules.specs.Listed.LoadsBack.{LoadsTo}
use Rattle.aq_rules.specs.Office.Load.{is_same_content}
use Rattle.aq_rules.specs.Office.Office.{Office, IsOffice, content_of, fits_monitors, is_same, observation_at, observation_rank, rises, with_row}
use Rattle.aq_rules.specs.Office.RowOrder.{filter-rises}
use Rattle.aq_rules.proofs.ChangesDone.{some_found, all-updated, at-gone, at-other, at-second, first_, fresh, gone, other, second_, third_, Entry, At, found-dropped}
use Rattle.aq_rules.proofs.ChangesLoad.{Free, Stands, accepts-append, changes-load, deletion_spelled, drops-accepted, free-on, front-done, inserts-accepted, lines_of, piece-accepted, put, put_spelled, updates-accepted, with_observations}
use Rattle.aq_rules.proofs.Elements.{Every, all-append}
use Rattle.aq_rules.proofs.ExtractRows.{AreRows, is_row}
use Rattle.aq_rules.proofs.Lookups.{same-itself}
use Rattle.aq_rules.proofs.ObservationsLoadBack.{all-middle, rest-of, to-every}
use Rattle.aq_rules.proofs.OfficeBack.{every-from}
use Rattle.aq_rules.proofs.RisingRows.{all_later, length-with_row-new}
use Rattle.aq_rules.proofs.RowsPlaced.{all_standing, all_weaker, filter_all, filter_keeps, is_some-find}
use Rattle.aq_rules.proofs.WholeLines.{Accepts}

-- ---- each row of a list is found in it

some_not_none : {A : Type 0} (o : Option A) → is_some o ≡ true → is_none o ≡ false
some_not_none None h = cc
some_not_none (Some x) h = refl

all-mapped : (p : Entry → Bool) (f : Entry → RdValue) (xs : List Entry) → ((x : Entry) → p x ≡ true → is_rd_value (f x) ≡ true) → list_all p xs ≡ true → list_all is_rd_value (map f xs) ≡ true
all-mapped p f [] go h = refl
all-mapped p f (x ∷ xs) go h =
    let parts = and_parts (p x) (list_all p xs) h in
    and_from (is_rd_value (f x)) (list_all is_rd_value (map f xs)) (go x parts.0) (all-mapped p f xs go parts.1)

or_right : (a b : Bool) → b ≡ true → (a || b) ≡ true
or_right true b h = refl
or_right false b h = h

any_here : (p : Entry → Bool) (front back : List Entry) (x : Entry) → p x ≡ true → list_any p (front ++ x ∷ back) ≡ true
any_here p [] back x h = rw h refl
any_here p (y ∷ front) back x h = or_right (p y) (list_any p (front ++ x ∷ back)) (any_here p front back x h)

own-standing : (xs : List Entry) → list_all (λ x. is_some (At (observation_rank x) xs)) xs ≡ true
own-standing xs =
    all_standing (λ x. is_some (At (observation_rank x) xs)) xs (λ x front back split.
    is_some-find (λ y. is_same (observation_rank y) (observation_rank x)) xs
    ∙ ap (list_any (λ y. is_same (observation_rank y) (observation_rank x))) split
    ∙ any_here (λ y. is_same (observation_rank y) (observation_rank x)) front back x (same-itself (observation_rank x)))

both_all : (p q : Entry → Bool) (xs : List Entry) → list_all p xs ≡ true → list_all q xs ≡ true → list_all (λ x. p x && q x) xs ≡ true
both_all p q [] h k = refl
both_all p q (x ∷ xs) h k =
    let a = and_parts (p x) (list_all p xs) h in
    let b = and_parts (q x) (list_all q xs) k in
    and_from (p x && q x) (list_all (λ x. p x && q x) xs) (and_from (p x) (q x) a.0 b.0) (both_all p q xs a.1 b.1)

put-length : (standing piece : List Entry) → rises observation_rank piece ≡ true → Every (Free standing) piece → length (put standing piece) ≡ length standing + length piece
put-length standing [] rising free = omega arith
put-length standing (row ∷ piece) rising free =
    let later = to-every _ piece (all_later observation_rank row piece rising) in
    let longer = length-with_row-new observation_rank row standing free.0 in
    let rest = put-length (with_row observation_rank row standing) piece (rest-of row piece rising) (free-on row standing piece later free.1) in
    omega (arith, longer, rest)

some-mapped : {A B : Type 0} (f : A → B) (o : Option A) → is_some (option_map f o) ≡ true → is_some o ≡ true
some-mapped f None h = h
some-mapped f (Some x) h = refl

some-or : {A : Type 0} (f : A → Bool) (o : Option A) → option_map_or f o false ≡ true → is_some o ≡ true
some-or f None h = cc
some-or f (Some x) h = refl

none-mapped : {A B : Type 0} (f : A → B) (o : Option A) → is_none (option_map f o) ≡ true → o ≡ None
none-mapped f None h = refl
none-mapped f (Some x) h = cc

and_false : (a b c : Bool) → c ≡ false → (a && b && c) ≡ false
and_false true true c h = h
and_false true false c h = refl
and_false false b c h = refl

module _ (span : DaySpan) (office : Office) (rows : List Entry) (valid : IsOffice office) (are : AreRows span office rows) where
  row_parts : (row : Entry) → is_row span office row ≡ true → (fits_monitors office row ≡ true) × (is_some row.1.method ≡ true)
  row_parts row h =
      let a = and_parts (fits_monitors office row && is_some row.1.method) (is_in_span span row.0.hour) h in
      and_parts (fits_monitors office row) (is_some row.1.method) a.0

  fits : list_all (fits_monitors office) rows ≡ true
  fits = all_weaker (is_row span office) (fits_monitors office) rows (λ row h. (row_parts row h).0) are.each

  methods : list_all (λ (row : Entry). is_some row.1.method) rows ≡ true
  methods = all_weaker (is_row span office) (λ (row : Entry). is_some row.1.method) rows (λ row h. (row_parts row h).1) are.each

  -- what the extract says of is not dropped
  not-gone : (key : List ℕ) → is_some (At key rows) ≡ true → At key (gone span office rows valid are) ≡ None
  not-gone key said = at-gone span office rows valid are key ∙ by_found (At key office.observations) refl
    where
      by_found : (o : Option Entry) → At key office.observations ≡ o → (o >>= λ row. cond (is_dropped span rows row) (Some row) None) ≡ None
      by_found None e = refl
      by_found (Some o) e =
          let rank : observation_rank o ≡ key = some_found (λ x. true) office.observations o key e in
          let says_it : is_none (says rows o.0) ≡ false = some_not_none (says rows o.0) (ap (λ k. is_some (At k rows)) rank ∙ said) in
          ap (λ b. cond b (Some o) None) (and_false (names rows o.0.monitor) (is_in_span span o.0.hour) (is_none (says rows o.0)) says_it)

  at-first : (key : List ℕ) → is_some (At key rows) ≡ true → At key (first_ span office rows valid are) ≡ At key office.observations
  at-first key said =
      found-dropped key office.observations (gone span office rows valid are)
      ∙ ap (λ o. cond (is_some o) None (At key office.observations)) (not-gone key said)

  stands-gone : Every (Stands office.observations) (gone span office rows valid are)
  stands-gone =
      every-from (λ x. is_some (At (observation_rank x) office.observations)) (Stands office.observations) (λ x h. h) (gone span office rows valid are)
      (filter_all (λ x. is_some (At (observation_rank x) office.observations)) (is_dropped span rows) office.observations (own-standing office.observations))

  stands-other : Every (Stands (first_ span office rows valid are)) (other span office rows valid are)
  stands-other =
      every-from (λ x. is_changed office x && is_some (At (observation_rank x) rows)) (Stands (first_ span office rows valid are))
      (λ x h.
      let parts = and_parts (is_changed office x) (is_some (At (observation_rank x) rows)) h in
      ap is_some (at-first (observation_rank x) parts.1) ∙ some-mapped content_of (At (observation_rank x) office.observations) (some-or _ (observation_at office x.0) parts.0))
      (other span office rows valid are)
      (both_all (is_changed office) (λ x. is_some (At (observation_rank x) rows)) (other span office rows valid are)
      (filter_keeps (is_changed office) rows) (filter_all (λ x. is_some (At (observation_rank x) rows)) (is_changed office) rows (own-standing rows)))

  free-fresh : Every (Free (second_ span office rows valid are)) (fresh span office rows valid are)
  free-fresh =
      every-from (λ x. is_new office x && is_some (At (observation_rank x) rows)) (Free (second_ span office rows valid are))
      (λ x h.
      let parts = and_parts (is_new office x) (is_some (At (observation_rank x) rows)) h in
      let none : At (observation_rank x) office.observations ≡ None = none-mapped content_of (At (observation_rank x) office.observations) parts.0 in
      at-second span office rows valid are (observation_rank x)
      ∙ (λ i. option_or (at-other span office rows valid are (observation_rank x) i) (cond (is_some (not-gone (observation_rank x) parts.1 i)) None (none i)))
      ∙ by_found (observation_rank x) (At (observation_rank x) rows) refl none)
      (fresh span office rows valid are)
      (both_all (is_new office) (λ x. is_some (At (observation_rank x) rows)) (fresh span office rows valid are)
      (filter_keeps (is_new office) rows) (filter_all (λ x. is_some (At (observation_rank x) rows)) (is_new office) rows (own-standing rows)))
    where
      by_found : (key : List ℕ) (r : Option Entry) → At key rows ≡ r → At key office.observations ≡ None
          → option_or (r >>= λ row. cond (is_changed office row) (Some row) None) None ≡ None
      by_found key None e none = refl
      by_found key (Some r) e none =
          let rank : observation_rank r ≡ key = some_found (λ x. true) rows r key e in
          let absent : observation_at office r.0 ≡ None = ap (option_map content_of) (ap (λ k. At k office.observations) rank ∙ none) in
          let same : is_changed office r ≡ false = ap (λ (x : Option Observation). option_map_or (λ content. not (is_same_content content r.1)) x false) absent in
          ap (λ b. option_or (cond b (Some r) None) None) same

  abbrev deletions : List RdValue
  deletions = map deletion_of (gone span office rows valid are)

  abbrev updates : List RdValue
  updates = map (put_of true office) (other span office rows valid are)

  abbrev insertions : List RdValue
  insertions = map (put_of false office) (fresh span office rows valid are)

  lines_append : (a b : List RdValue) → lines_of (a ++ b) ≡ lines_of a ++ lines_of b
  lines_append a b = map-append canonical_rd a b

  accepts : length (updated span office rows) ≤ MOST_OBSERVATIONS → Accepts office (lines_of (change_values span office rows)) (updated_office span office rows)
  unfolding change_values
  accepts few =
      let one = with_observations office (first_ span office rows valid are) in
      let two = with_observations office (second_ span office rows valid are) in
      let three = with_observations office (third_ span office rows valid are) in
      let gone_fits = filter_all (fits_monitors office) (is_dropped span rows) office.observations valid.observations_fit in
      let gone_rises = filter-rises observation_rank (is_dropped span rows) office.observations valid.keys_rise.observations in
      let other_rises = filter-rises observation_rank (is_changed office) rows are.rising in
      let fresh_rises = filter-rises observation_rank (is_new office) rows are.rising in
      let drops = drops-accepted office valid office (gone span office rows valid are) refl gone_fits gone_rises stands-gone in
      let changes =
      updates-accepted office valid one (other span office rows valid are) refl (filter_all (fits_monitors office) (is_changed office) rows fits)
      (filter_all (λ (row : Entry). is_some row.1.method) (is_changed office) rows methods) other_rises stands-other
      in
      let long = put-length (second_ span office rows valid are) (fresh span office rows valid are) fresh_rises free-fresh in
      let same = ap length (all-updated span office rows valid are) in
      let adds =
      inserts-accepted office valid two (fresh span office rows valid are) refl (filter_all (fits_monitors office) (is_new office) rows fits)
      (filter_all (λ (row : Entry). is_some row.1.method) (is_new office) rows methods) fresh_rises free-fresh (omega (arith, long, same, few))
      in
      let all = accepts-append (lines_of deletions ++ lines_of updates) (lines_of insertions) two three office (accepts-append (lines_of deletions) (lines_of updates) one two office drops changes) adds in
      subst (λ lines. Accepts office lines (updated_office span office rows)) (sym (lines_append (deletions ++ updates) insertions ∙ ap (λ l. l ++ lines_of insertions) (lines_append deletions updates)))
      (subst (λ observations. Accepts office ((lines_of deletions ++ lines_of updates) ++ lines_of insertions) (with_observations office observations)) (all-updated span office rows valid are) all)

  spelled : list_all is_rd_value (change_values span office rows) ≡ true
  unfolding change_values
  spelled =
      all-append is_rd_value (deletions ++ updates) insertions
      (all-append is_rd_value deletions updates
      (all-mapped (fits_monitors office) deletion_of (gone span office rows valid are) (λ row h. deletion_spelled office valid row h) (filter_all (fits_monitors office) (is_dropped span rows) office.observations valid.observations_fit))
      (all-mapped (is_row span office) (put_of true office) (other span office rows valid are) (λ row h. let p = row_parts row h in put_spelled office valid true row p.0 p.1) (filter_all (is_row span office) (is_changed office) rows are.each)))
      (all-mapped (is_row span office) (put_of false office) (fresh span office rows valid are) (λ row h. let p = row_parts row h in put_spelled office valid false row p.0 p.1) (filter_all (is_row span office) (is_new office) rows are.each))

  pub brought-up : length (updated span office rows) ≤ MOST_OBSERVATIONS → LoadsTo office (changes_text (change_values span office rows)) (updated_office span office rows)
  brought-up few = changes-load office (updated_office span office rows) (change_values span office rows) spelled (accepts few)

  pub piece-brought : length (updated span office rows) ≤ MOST_OBSERVATIONS → (front piece rest : List RdValue) → change_values span office rows ≡ front ++ (piece ++ rest)
      → LoadsTo (after_changes office front) (changes_text piece) (after_changes (after_changes office front) piece)
  piece-brought few front piece rest is =
      let all = sym (ap (list_all is_rd_value) is) ∙ spelled in
      let whole = subst (λ values. Accepts office (lines_of values) (updated_office span office rows)) is (accepts few) in
      let behind = front-done office (updated_office span office rows) front (piece ++ rest) (all-middle is_rd_value [] front (piece ++ rest) all) whole in
      let piece_spelled = all-middle is_rd_value front piece rest all in
      changes-load (after_changes office front) (after_changes (after_changes office front) piece) piece piece_spelled
      (piece-accepted (after_changes office front) (updated_office span office rows) piece rest piece_spelled behind)
