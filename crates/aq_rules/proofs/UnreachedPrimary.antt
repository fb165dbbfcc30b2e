-- A cell that reads an observation at an hour reads the designation that counts on its day. So if no designation that it reads changed, the primary monitor is the same.
use Rattle.std.proofs.Common.{◌≡◌, ℕ, zero, ◌<◌, ◌≤◌, Bool, true, false, cond, ◌&&◌, List, [], ◌∷◌, refl, sym, ap, ◌∙◌, subst, arith, inl, inr}
use Rattle.std.specs.Prelude.{Option, Some, None, nat_le, nat_lt, slice_get, MatchOption}
use Rattle.std.specs.List.{filter_map, Contains, All}
use Rattle.std.specs.Option.{option_and_then}
use Rattle.std.proofs.lemmas.Bool.{and_parts, cases_Bool}
use Rattle.std.proofs.lemmas.Bool.Decides.{nat_tests}
use Rattle.std.proofs.lemmas.Option.{none-some}
use Rattle.std.proofs.lemmas.List.Elements.{All-contains}
use Rattle.aq_base.specs.Site.{Site}
use Rattle.aq_base.specs.Calendar.{day_of_hour, hour_number}
use Rattle.aq_base.specs.declared.day.TheConstants.{LAST_HOUR}
use Rattle.aq_base.specs.declared.monitor.Pollutant.{Pollutant}
use Rattle.aq_base.specs.declared.office.OfficeRecord.{OfficeRecord}
use Rattle.aq_base.specs.declared.office.OfficeRecord.TheVariants.{Primary}
use Rattle.aq_base.specs.declared.office.OfficeKey.TheVariants as keys
use Rattle.aq_rules.specs.Lists.{latest}
use Rattle.aq_rules.specs.Office.Office.{record_rank, row_at, rises, is_same}
use Rattle.aq_rules.specs.Office.Monitors.{is_same_site, is_same_pollutant}
use Rattle.aq_rules.specs.Office.Questions.{first_given}
use Rattle.aq_rules.specs.Office.Sameness.{same_site, same_pollutant, site_itself, pollutant_itself}
use Rattle.aq_rules.specs.Office.Designation.{Designation, designation_by, designated_poc, primary_on}
use Rattle.aq_rules.specs.Kept.Cells.{CellName}
use Rattle.aq_rules.specs.Kept.Reach.{ChangedRecord, reads, cells_reading, designation_after, last_day_before, last_day_designated}
use Rattle.aq_rules.proofs.Found.{some_is, given, listed}
use Rattle.aq_rules.proofs.Greatest.{latest-is}
use Rattle.aq_rules.proofs.Unreached.{ReadsAt, SameWhereRead, is_new_in, read_in_span}

-- ---- the record of a designation

record IsDesignation (site : Site) (pollutant : Pollutant) (day : ℕ) (r : OfficeRecord) (d : Designation) : Type 0 where
  row_is : r ≡ Primary site pollutant d.from d.poc
  begun : d.from ≤ day

designation-of : (site : Site) (pollutant : Pollutant) (day : ℕ) (r : OfficeRecord) (d : Designation) → designation_by site pollutant day r ≡ Some d → IsDesignation site pollutant day r d
designation-of site pollutant day (Primary s p from poc) d gives = by (is_same_site s site && is_same_pollutant p pollutant && nat_le from day) refl gives
  where
    by : (b : Bool) → (is_same_site s site && is_same_pollutant p pollutant && nat_le from day) ≡ b
        → cond b (Some (record { from = from; poc = poc })) None ≡ Some d → IsDesignation site pollutant day (Primary s p from poc) d
    by true is gives =
        let ends = and_parts (is_same_site s site && is_same_pollutant p pollutant) (nat_le from day) is in
        let series = and_parts (is_same_site s site) (is_same_pollutant p pollutant) ends.0 in
        let e : record { from = from; poc = poc } ≡ d = some_is _ _ gives in
        subst (λ (x : Designation). IsDesignation site pollutant day (Primary s p from poc) x) e
        (record {
          row_is = ap (λ x. Primary x p from poc) (same_site s site series.0) ∙ ap (λ x. Primary site x from poc) (same_pollutant p pollutant series.1);
          begun = (let t = ends.1 in grind (arith, nat_tests));
        })
    by false is gives = absurd (none-some d gives)
designation-of site pollutant day r d gives = absurd (none-some d gives)

designation-by : (site : Site) (pollutant : Pollutant) (day from poc : ℕ) → from ≤ day → designation_by site pollutant day (Primary site pollutant from poc) ≡ Some (record { from = from; poc = poc })
designation-by site pollutant day from poc begun =
    let t : nat_le from day ≡ true = grind (arith, nat_tests) in
    rw (site_itself site, pollutant_itself pollutant, t) refl

-- that of one that starts after a day
record IsLater (site : Site) (pollutant : Pollutant) (day : ℕ) (r : OfficeRecord) (from : ℕ) : Type 0 where
  poc : ℕ
  row_is : r ≡ Primary site pollutant from poc
  later : day < from

later-of : (site : Site) (pollutant : Pollutant) (day : ℕ) (r : OfficeRecord) (n : ℕ) → designation_after site pollutant day r ≡ Some n → IsLater site pollutant day r n
later-of site pollutant day (Primary s p from poc) n gives = by (is_same_site s site && is_same_pollutant p pollutant && nat_lt day from) refl gives
  where
    by : (b : Bool) → (is_same_site s site && is_same_pollutant p pollutant && nat_lt day from) ≡ b
        → cond b (Some from) None ≡ Some n → IsLater site pollutant day (Primary s p from poc) n
    by true is gives =
        let ends = and_parts (is_same_site s site && is_same_pollutant p pollutant) (nat_lt day from) is in
        let series = and_parts (is_same_site s site) (is_same_pollutant p pollutant) ends.0 in
        subst (λ (x : ℕ). IsLater site pollutant day (Primary s p from poc) x) (some_is from n gives)
        (record {
          poc = poc;
          row_is = ap (λ x. Primary x p from poc) (same_site s site series.0) ∙ ap (λ x. Primary site x from poc) (same_pollutant p pollutant series.1);
          later = (let t = ends.1 in grind (arith, nat_tests));
        })
    by false is gives = absurd (none-some n gives)
later-of site pollutant day r n gives = absurd (none-some n gives)

-- ---- the last designation that has begun

abbrev by_day : List OfficeRecord → Site → Pollutant → ℕ → List Designation
by_day records site pollutant day = filter_map (designation_by site pollutant day) records

abbrev NoneLater : List Designation → Designation → Type 0
NoneLater designations d = All (λ (o : Designation). o.from ≤ d.from) designations

abbrev IsLast : List Designation → Designation → Type 0
IsLast designations d = Contains designations d × NoneLater designations d

last-is : (xs : List Designation) (o : Option Designation) → latest (λ (d : Designation). d.from) xs ≡ o → MatchOption o (xs ≡ []) (IsLast xs)
last-is xs o is = subst (λ (p : Option Designation). MatchOption p (xs ≡ []) (IsLast xs)) is (latest-is (λ (d : Designation). d.from) xs)

nothing-in : (xs : List Designation) (d : Designation) → xs ≡ [] → Contains xs d → ⊥
nothing-in xs d none has = empty (subst (λ (l : List Designation). Contains l d) none has)
  where
    empty : Contains [] d → ⊥
    empty (k, within, here) = omega (arith, within)

first-contained : (xs : List ℕ) (n : ℕ) → slice_get xs 0 ≡ Some n → Contains xs n
first-contained [] n e = absurd (none-some n e)
first-contained (x ∷ xs) n e = (zero, omega arith, some_is x n e)

module _ (rows : List OfficeRecord) (site : Site) (pollutant : Pollutant) (hour : ℕ) (profile : hour ≤ LAST_HOUR) (up : rises record_rank rows ≡ true) where
  abbrev day : ℕ
  day = day_of_hour hour

  -- the day lies before the next start, since what has begun by it is none later
  within-days : (d : Designation) → NoneLater (by_day rows site pollutant day) d → day ≤ last_day_designated rows site pollutant d.from
  within-days d last = by (first_given (designation_after site pollutant d.from) rows) refl
    where
      not-begun : (n : ℕ) → first_given (designation_after site pollutant d.from) rows ≡ Some n → day < n
      not-begun n is =
          let other = given record_rank (designation_after site pollutant d.from) rows n up (first-contained _ n is) in
          let later = later-of site pollutant d.from other.row n other.gives in
          elim (cases_Bool (nat_le n day)) [
            | inl begun ↦
                let by_then : n ≤ day = grind (arith, nat_tests) in
                let gives : designation_by site pollutant day other.row ≡ Some (record { from = n; poc = later.poc }) =
                ap (designation_by site pollutant day) later.row_is ∙ designation-by site pollutant day n later.poc by_then in
                let has = listed (designation_by site pollutant day) (λ row. is_same (record_rank row) (record_rank other.row)) rows other.row _ other.stands gives in
                let most : n ≤ d.from = All-contains (λ (o : Designation). o.from ≤ d.from) (by_day rows site pollutant day) _ last has in
                let more = later.later in
                absurd (omega (arith, most, more))
            | inr not_yet ↦ grind (arith, nat_tests)
          ]

      by : (o : Option ℕ) → first_given (designation_after site pollutant d.from) rows ≡ o → day ≤ last_day_before o
      by None is = grind (arith, nat_tests)
      by (Some n) is = let b = not-begun n is in omega (arith, b)

  designation-read : (cell : CellName) (d : Designation) (is_new : Bool) → ReadsAt cell rows site pollutant hour → d.from ≤ day → NoneLater (by_day rows site pollutant day) d
      → reads rows cell (ChangedRecord (keys.Primary site pollutant d.from) is_new) ≡ true
  unfolding reads cells_reading
  designation-read cell d is_new here begun last =
      let most = within-days d last in
      let low : hour_number d.from 0 ≤ hour = grind (arith, nat_tests) in
      let high : hour ≤ hour_number (last_day_designated rows site pollutant d.from) 23 = grind (arith, nat_tests) in
      read_in_span cell rows site pollutant hour (hour_number d.from 0) (hour_number (last_day_designated rows site pollutant d.from) 23) here low high

  one-designation : (d e : Designation) → d.from ≡ e.from → Contains (by_day rows site pollutant day) d → Contains (by_day rows site pollutant day) e → d ≡ e
  one-designation d e from has also =
      let r = given record_rank (designation_by site pollutant day) rows d up has in
      let s = given record_rank (designation_by site pollutant day) rows e up also in
      let p = designation-of site pollutant day r.row d r.gives in
      let q = designation-of site pollutant day s.row e s.gives in
      let ranks : record_rank r.row ≡ record_rank s.row =
      ap record_rank p.row_is ∙ ap (λ n. record_rank (Primary site pollutant n d.poc)) from ∙ sym (ap record_rank q.row_is) in
      let rows_are : r.row ≡ s.row = some_is r.row s.row (sym r.stands ∙ ap (λ (k : List ℕ). row_at record_rank k rows) ranks ∙ s.stands) in
      some_is d e (sym r.gives ∙ ap (designation_by site pollutant day) rows_are ∙ s.gives)

-- ---- the same primary

module _ (cell : CellName) (before old new : List OfficeRecord) (site : Site) (pollutant : Pollutant) (hour : ℕ) (profile : hour ≤ LAST_HOUR)
    (here : ReadsAt cell old site pollutant hour) (up : rises record_rank old ≡ true) (same : SameWhereRead cell before old new) where
  last-onto : (d : Designation) → IsLast (by_day old site pollutant (day_of_hour hour)) d → Contains (by_day new site pollutant (day_of_hour hour)) d
  last-onto d last =
      let r = given record_rank (designation_by site pollutant (day_of_hour hour)) old d up last.0 in
      let p = designation-of site pollutant (day_of_hour hour) r.row d r.gives in
      let key = keys.Primary site pollutant d.from in
      let alike = same key (designation-read old site pollutant hour profile up cell d (is_new_in before key) here p.begun last.1) in
      let there : row_at record_rank (record_rank r.row) new ≡ Some r.row =
      subst (λ x. row_at record_rank (record_rank x) new ≡ row_at record_rank (record_rank x) old) (sym p.row_is) (sym alike) ∙ r.stands in
      listed (designation_by site pollutant (day_of_hour hour)) (λ row. is_same (record_rank row) (record_rank r.row)) new r.row d there r.gives

module _ (cell : CellName) (before old new : List OfficeRecord) (site : Site) (pollutant : Pollutant) (hour : ℕ) (profile : hour ≤ LAST_HOUR)
    (here : ReadsAt cell old site pollutant hour) (here_too : ReadsAt cell new site pollutant hour)
    (up : rises record_rank old ≡ true) (up_too : rises record_rank new ≡ true)
    (same : SameWhereRead cell before old new) (back : SameWhereRead cell before new old) where
  latest-same : (o p : Option Designation)
      → latest (λ (d : Designation). d.from) (by_day old site pollutant (day_of_hour hour)) ≡ o
      → latest (λ (d : Designation). d.from) (by_day new site pollutant (day_of_hour hour)) ≡ p → o ≡ p
  latest-same None None is are = refl
  latest-same None (Some e) is are =
      absurd (nothing-in _ e (last-is _ None is) (last-onto cell before new old site pollutant hour profile here_too up_too back e (last-is _ (Some e) are)))
  latest-same (Some d) None is are =
      absurd (nothing-in _ d (last-is _ None are) (last-onto cell before old new site pollutant hour profile here up same d (last-is _ (Some d) is)))
  latest-same (Some d) (Some e) is are =
      let first = last-is _ (Some d) is in
      let second = last-is _ (Some e) are in
      let d_there = last-onto cell before old new site pollutant hour profile here up same d first in
      let e_here = last-onto cell before new old site pollutant hour profile here_too up_too back e second in
      let low : d.from ≤ e.from = All-contains (λ (o : Designation). o.from ≤ e.from) _ d second.1 d_there in
      let high : e.from ≤ d.from = All-contains (λ (o : Designation). o.from ≤ d.from) _ e first.1 e_here in
      ap (λ (x : Designation). Some x) (one-designation new site pollutant hour profile up_too d e (omega (arith, low, high)) d_there second.0)

  pub primary-unreached : primary_on old site pollutant (day_of_hour hour) ≡ primary_on new site pollutant (day_of_hour hour)
  unfolding primary_on
  primary-unreached = ap (option_and_then designated_poc) (latest-same _ _ refl refl)
