-- The concurrence in an event is found by its key.
use Rattle.std.proofs.Common.{◌≡◌, ℕ, Bool, true, false, ◌&&◌, ◌==◌, List, [], ◌∷◌, cond, Some, refl, ap, subst, ◌∙◌, arith}
use Rattle.std.specs.Prelude.{◌||◌, filter}
use Rattle.std.specs.declared.cmp.Ordering.TheVariants.{Less}
use Rattle.std.specs.Ordering.{nat_cmp}
use Rattle.std.specs.List.{AllByRecursion, list_any}
use Rattle.std.specs.List.Sorted.{IsStrictlySortedBy}
use Rattle.std.specs.Option.{option_map_or}
use Rattle.std.proofs.lemmas.Bool.{eqb-true}
use Rattle.std.proofs.lemmas.Bool.Decides.{nat_tests}
use Rattle.aq_base.specs.declared.office.OfficeRecord.{OfficeRecord}
use Rattle.aq_base.specs.declared.office.OfficeRecord.TheVariants.{Concurrence}
use Rattle.aq_base.specs.declared.office.OfficeKey.TheVariants.{Concurrence as ConcurrenceKey}
use Rattle.aq_rules.specs.Office.Questions.{record_of}
use Rattle.aq_rules.specs.Office.Exclusion.{agrees_to}
use Rattle.aq_registry.specs.Places.{of_event, place_cmp, places_of}
use Rattle.aq_registry.specs.Registry.{agreement_in}

-- ---- the concurrence in an event

later_number : (m n : ℕ) → nat_cmp n m ≡ Less → (m == n) ≡ false
later_number m n h = grind (arith, nat_tests)

-- after the place of a concurrence there is no other in its event
none_behind : (number : ℕ) (rows : List OfficeRecord) → AllByRecursion (λ p. place_cmp (of_event 7 number) p ≡ Less) (places_of rows) → list_any (agrees_to number) rows ≡ false
none_behind number [] h = refl
none_behind number (Concurrence other agreed ∷ rows) h =
    ap (λ b. (b && agreed) || list_any (agrees_to number) rows) (later_number other number h.0) ∙ none_behind number rows h.1
none_behind number (r ∷ rows) h = none_behind number rows h.1

or_none : (a : Bool) → (a || false) ≡ a
or_none true = refl
or_none false = refl

pub agreement_found : (number : ℕ) (rows : List OfficeRecord) → IsStrictlySortedBy place_cmp (places_of rows) → list_any (agrees_to number) rows ≡ option_map_or agreement_in (record_of rows (ConcurrenceKey number)) false
unfolding IsStrictlySortedBy
agreement_found number [] sorted = refl
agreement_found number (Concurrence other agreed ∷ rows) sorted =
    let at : (b : Bool) → (other == number) ≡ b → ((b && agreed) || list_any (agrees_to number) rows) ≡ option_map_or agreement_in (cond (b && true) (Some (Concurrence other agreed)) (record_of rows (ConcurrenceKey number))) false =
    elim [
      | true ↦ λ same.
          ap (λ b. agreed || b) (none_behind number rows (subst (λ n. AllByRecursion (λ p. place_cmp (of_event 7 n) p ≡ Less) (places_of rows)) (eqb-true other number same) sorted.0))
          ∙ or_none agreed
      | false ↦ λ _. agreement_found number rows sorted.1
    ]
    in
    at (other == number) refl
agreement_found number (r ∷ rows) sorted = agreement_found number rows sorted.1

-- ---- tests of a part of the rows

pub any-filter : {X : Type 0} (test p : X → Bool) → ((x : X) → p x ≡ false → test x ≡ false) → (xs : List X) → list_any test xs ≡ list_any test (filter p xs)
any-filter test p outside [] = refl
any-filter test p outside (x ∷ xs) =
    let at : (b : Bool) → p x ≡ b → (test x || list_any test xs) ≡ list_any test (cond b (x ∷ filter p xs) (filter p xs)) =
    elim [
      | true ↦ λ _. ap (λ b. test x || b) (any-filter test p outside xs)
      | false ↦ λ out. ap (λ b. b || list_any test xs) (outside x out) ∙ any-filter test p outside xs
    ]
    in
    at (p x) refl
