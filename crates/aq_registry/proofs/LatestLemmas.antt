-- The latest record not after a day is the last one of its part.
use Rattle.std.proofs.Common.{◌≡◌, ℕ, ◌+◌, Bool, true, false, ◌&&◌, ◌==◌, List, [], ◌∷◌, cond, Option, Some, None, is_some, refl, ap, sym, ◌∙◌, arith}
use Rattle.std.specs.Prelude.{filter, filter_map, fold, nat_le, nat_lt, option_map, unwrap_or}
use Rattle.std.specs.declared.cmp.Ordering.{Ordering}
use Rattle.std.specs.declared.cmp.Ordering.TheVariants.{Less, Equal}
use Rattle.std.specs.Ordering.{nat_cmp, ordering_then}
use Rattle.std.specs.List.{AllByRecursion, cons_option, last_or}
use Rattle.std.specs.List.Sorted.{IsStrictlySortedBy}
use Rattle.std.specs.Option.{option_and_then}
use Rattle.std.proofs.lemmas.Bool.{false≢true}
use Rattle.std.proofs.lemmas.Bool.Decides.{nat_tests}
use Rattle.aq_base.specs.Site.{Site}
use Rattle.aq_base.specs.declared.monitor.Pollutant.{Pollutant}
use Rattle.aq_base.specs.declared.office.OfficeRecord.{OfficeRecord}
use Rattle.aq_base.specs.declared.office.OfficeRecord.TheVariants.{Primary}
use Rattle.aq_rules.specs.Lists.{later, latest}
use Rattle.aq_rules.specs.Office.Office.{key_of, parameter_number}
use Rattle.aq_rules.specs.Office.Monitors.{is_same_site}
use Rattle.aq_rules.specs.Office.Designation.{Designation, designation_by, designated_poc, primary_on}
use Rattle.aq_registry.specs.Places.{place_of, place_cmp, places_of, is_of, is_of_between}
use Rattle.aq_registry.specs.Registry.{designation_in}
use Rattle.aq_registry.proofs.PlaceOrder.{first_of_both, second_of_both}
use Rattle.aq_registry.proofs.QuestionLemmas.{same-parameters}

-- ---- places with the same front

both_equal : (m n k : ℕ) → (m == k) ≡ true → (n == k) ≡ true → nat_cmp m n ≡ Equal
both_equal m n k f g = grind (arith, nat_tests)

rises : (m n : ℕ) → nat_cmp m n ≡ Less → nat_lt n m ≡ false
rises m n h = grind (arith, nat_tests)

behind_equal : (m n k : ℕ) (o : Ordering) → (m == k) ≡ true → (n == k) ≡ true → ordering_then (nat_cmp m n) o ≡ o
behind_equal m n k o f g = ap (λ p. ordering_then p o) (both_equal m n k f g)

parts-rise : (kind : ℕ) (site : Site) (parameter : ℕ) (a b : OfficeRecord) → is_of kind site parameter a ≡ true → is_of kind site parameter b ≡ true → place_cmp (place_of (key_of a)) (place_of (key_of b)) ≡ Less → nat_lt (place_of (key_of b)).part (place_of (key_of a)).part ≡ false
parts-rise kind site parameter a b f g less =
    let p = place_of (key_of a) in
    let q = place_of (key_of b) in
    let f4 = first_of_both ((p.kind == kind) && (p.state == site.state) && (p.county == site.county) && (p.number == site.number)) (p.parameter == parameter) f in
    let g4 = first_of_both ((q.kind == kind) && (q.state == site.state) && (q.county == site.county) && (q.number == site.number)) (q.parameter == parameter) g in
    let f3 = first_of_both ((p.kind == kind) && (p.state == site.state) && (p.county == site.county)) (p.number == site.number) f4 in
    let g3 = first_of_both ((q.kind == kind) && (q.state == site.state) && (q.county == site.county)) (q.number == site.number) g4 in
    let f2 = first_of_both ((p.kind == kind) && (p.state == site.state)) (p.county == site.county) f3 in
    let g2 = first_of_both ((q.kind == kind) && (q.state == site.state)) (q.county == site.county) g3 in
    let front : place_cmp p q ≡ nat_cmp p.part q.part =
    behind_equal p.kind q.kind kind _ (first_of_both (p.kind == kind) (p.state == site.state) f2) (first_of_both (q.kind == kind) (q.state == site.state) g2)
    ∙ behind_equal p.state q.state site.state _ (second_of_both (p.kind == kind) (p.state == site.state) f2) (second_of_both (q.kind == kind) (q.state == site.state) g2)
    ∙ behind_equal p.county q.county site.county _ (second_of_both ((p.kind == kind) && (p.state == site.state)) (p.county == site.county) f3) (second_of_both ((q.kind == kind) && (q.state == site.state)) (q.county == site.county) g3)
    ∙ behind_equal p.number q.number site.number _ (second_of_both ((p.kind == kind) && (p.state == site.state) && (p.county == site.county)) (p.number == site.number) f4) (second_of_both ((q.kind == kind) && (q.state == site.state) && (q.county == site.county)) (q.number == site.number) g4)
    ∙ behind_equal p.parameter q.parameter parameter _ (second_of_both ((p.kind == kind) && (p.state == site.state) && (p.county == site.county) && (p.number == site.number)) (p.parameter == parameter) f) (second_of_both ((q.kind == kind) && (q.state == site.state) && (q.county == site.county) && (q.number == site.number)) (q.parameter == parameter) g)
    in
    rises p.part q.part (sym front ∙ less)

in-front : (kind : ℕ) (site : Site) (parameter from end : ℕ) (r : OfficeRecord) → is_of_between kind site parameter from end r ≡ true → is_of kind site parameter r ≡ true
in-front kind site parameter from end r h =
    let p = place_of (key_of r) in
    first_of_both (is_of kind site parameter r) (nat_le from p.part) (first_of_both (is_of kind site parameter r && nat_le from p.part) (nat_lt p.part end) h)

-- ---- the latest

step : {X : Type 0} (day : X → ℕ) (o before : Option X) (rest : List X) → is_some o ≡ true → ((x : X) → o ≡ Some x → later day before x ≡ Some x) → fold (later day) before (cons_option o rest) ≡ fold (later day) o rest
step day None before rest some turn = absurd (false≢true some)
step day (Some x) before rest some turn = ap (λ o. fold (later day) o rest) (turn x refl)

module _ {X : Type 0} (answer word : OfficeRecord → Option X) (day : X → ℕ) (kind : ℕ) (site : Site) (parameter end : ℕ) (tells : (r : OfficeRecord) → answer r ≡ cond (is_of_between kind site parameter 0 end r) (word r) None) (says : (r : OfficeRecord) → is_of_between kind site parameter 0 end r ≡ true → is_some (word r) ≡ true) (parts : (r : OfficeRecord) (x : X) → word r ≡ Some x → day x ≡ (place_of (key_of r)).part) where
  -- of two records of the part the one that stands later is taken
  turn : (a b : OfficeRecord) → is_of_between kind site parameter 0 end a ≡ true → is_of_between kind site parameter 0 end b ≡ true → place_cmp (place_of (key_of a)) (place_of (key_of b)) ≡ Less → (x : X) → word b ≡ Some x → later day (word a) x ≡ Some x
  turn a b f g less x is =
      let apart = parts-rise kind site parameter a b (in-front kind site parameter 0 end a f) (in-front kind site parameter 0 end b g) less in
      let at : (o : Option X) → word a ≡ o → later day o x ≡ Some x =
      elim [
        | None ↦ λ _. refl
        | Some y ↦ λ was.
            let order : nat_lt (day x) (day y) ≡ false = rw (parts b x is, parts a y was) apart in
            ap (λ c. Some (cond c y x)) order
      ]
      in
      at (word a) refl

  behind-latest : (before : OfficeRecord) (rows : List OfficeRecord) → is_of_between kind site parameter 0 end before ≡ true → AllByRecursion (λ p. place_cmp (place_of (key_of before)) p ≡ Less) (places_of rows) → IsStrictlySortedBy place_cmp (places_of rows) → fold (later day) (word before) (filter_map answer rows) ≡ option_and_then word (last_or (Some before) (filter (is_of_between kind site parameter 0 end) rows))
  unfolding IsStrictlySortedBy
  behind-latest before [] f all sorted = refl
  behind-latest before (r ∷ rows) f all sorted =
      let rest = filter (is_of_between kind site parameter 0 end) rows in
      let at : (b : Bool) → is_of_between kind site parameter 0 end r ≡ b → fold (later day) (word before) (cons_option (cond b (word r) None) (filter_map answer rows)) ≡ option_and_then word (last_or (Some before) (cond b (r ∷ rest) rest)) =
      elim [
        | true ↦ λ g. step day (word r) (word before) (filter_map answer rows) (says r g) (turn before r f g all.0) ∙ behind-latest r rows g sorted.0 sorted.1
        | false ↦ λ _. behind-latest before rows f all.1 sorted.1
      ]
      in
      ap (λ o. fold (later day) (word before) (cons_option o (filter_map answer rows))) (tells r) ∙ at (is_of_between kind site parameter 0 end r) refl

  pub latest-last : (rows : List OfficeRecord) → IsStrictlySortedBy place_cmp (places_of rows) → latest day (filter_map answer rows) ≡ option_and_then word (last_or None (filter (is_of_between kind site parameter 0 end) rows))
  unfolding IsStrictlySortedBy
  latest-last [] sorted = refl
  latest-last (r ∷ rows) sorted =
      let rest = filter (is_of_between kind site parameter 0 end) rows in
      let at : (b : Bool) → is_of_between kind site parameter 0 end r ≡ b → fold (later day) None (cons_option (cond b (word r) None) (filter_map answer rows)) ≡ option_and_then word (last_or None (cond b (r ∷ rest) rest)) =
      elim [
        | true ↦ λ g. step day (word r) None (filter_map answer rows) (says r g) (λ x _. refl) ∙ behind-latest r rows g sorted.0 sorted.1
        | false ↦ λ _. latest-last rows sorted.1
      ]
      in
      ap (λ o. fold (later day) None (cons_option o (filter_map answer rows))) (tells r) ∙ at (is_of_between kind site parameter 0 end r) refl

-- ---- designations

pub until : (a : Bool) (from day : ℕ) → (a && nat_le from day) ≡ ((a && nat_le 0 from) && nat_lt from (day + 1))
until true from day = grind (arith, nat_tests)
until false from day = refl

designation-tells : (site : Site) (pollutant : Pollutant) (day : ℕ) (r : OfficeRecord) → designation_by site pollutant day r ≡ cond (is_of_between 2 site (parameter_number pollutant) 0 (day + 1) r) (designation_in r) None
designation-tells site pollutant day (Primary other p from poc) =
    ap (λ s. cond (is_same_site other site && s && nat_le from day) (designation_in (Primary other p from poc)) None) (same-parameters p pollutant)
    ∙ ap (λ b. cond b (designation_in (Primary other p from poc)) None) (until (is_same_site other site && (parameter_number p == parameter_number pollutant)) from day)
designation-tells site pollutant day r = refl

designation-says : (site : Site) (parameter end : ℕ) (r : OfficeRecord) → is_of_between 2 site parameter 0 end r ≡ true → is_some (designation_in r) ≡ true
designation-says site parameter end (Primary other p from poc) h = refl
designation-says site parameter end r h = absurd (false≢true h)

designation-part : (r : OfficeRecord) (x : Designation) → designation_in r ≡ Some x → x.from ≡ (place_of (key_of r)).part
designation-part (Primary site pollutant from poc) x h = ap (λ (o : Option Designation). unwrap_or (option_map (λ (d : Designation). d.from) o) 0) (sym h)
designation-part r x h = cc

pub primary_found : (rows : List OfficeRecord) (site : Site) (pollutant : Pollutant) (day : ℕ) → IsStrictlySortedBy place_cmp (places_of rows) → primary_on rows site pollutant day ≡ option_and_then designated_poc (option_and_then designation_in (last_or None (filter (is_of_between 2 site (parameter_number pollutant) 0 (day + 1)) rows)))
unfolding primary_on
primary_found rows site pollutant day sorted =
    ap (option_and_then designated_poc)
    (latest-last (designation_by site pollutant day) designation_in (λ (d : Designation). d.from) 2 site (parameter_number pollutant) (day + 1) (designation-tells site pollutant day) (designation-says site (parameter_number pollutant) (day + 1)) designation-part rows sorted)
