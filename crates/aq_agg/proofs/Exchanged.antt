-- The bag under a key in any order, and after a new item is put into it and then the old one is taken out.
use Rattle.std.proofs.Common.{◌≡◌, List, [], ◌∷◌, length, refl, ap, ◌∙◌, arith}
use Rattle.std.specs.Prelude.{Option, Some, None, Result, Ok, Err, IfSome, OnErr}
use Rattle.std.specs.Map.{lookup}
use Rattle.std.specs.BTreeMap.{is_at}
use Rattle.std.specs.List.Sorted.{IsPermutation}
use Rattle.std.specs.declared.cmp.Ordering.{Ordering}
use Rattle.std.proofs.lemmas.List.Sorted.{IsPermutation-middle, length_permutation}
use Rattle.aq_agg.specs.Bags.{with_item, Holds, Exchanges}
use Rattle.aq_agg.specs.Tallies.{IsKeptOf, BagAt}

pub on_error : {T E : Type 0} (P : Type 0) (answer : Result T E) → P → OnErr answer P
on_error P (Ok value) p = tt
on_error P (Err fault) p = p

empty_as : {I : Type 0} (a b : List I) → length b ≡ length a → a ≡ [] → b ≡ []
empty_as a [] same none = refl
empty_as a (item ∷ b) same none = let few : length (item ∷ b) ≡ 0 = same ∙ ap length none in absurd (omega (arith, few))

module _ {I K A : Type 0} (compare : K → K → Ordering) (is_of : List I → A → Type 0)
    (any_order : (a b : List I) (kept : A) → IsPermutation a b → is_of a kept → is_of b kept) (key : K) where
  pub any_order_at : (a b : List I) (kept : Option A) → IsPermutation a b → IsKeptOf is_of a kept → IsKeptOf is_of b kept
  any_order_at a b None moved none = empty_as a b (length_permutation a b moved) none
  any_order_at a b (Some kept) moved whole = any_order a b kept moved whole

  turned : (old new : Option I) (rest : List I) (entries : List (K × A))
      → BagAt compare is_of key (with_item new (with_item old rest)) entries → BagAt compare is_of key (with_item old (with_item new rest)) entries
  turned None new rest entries whole = whole
  turned (Some old) None rest entries whole = whole
  turned (Some old) (Some new) rest entries whole =
      any_order_at (new ∷ old ∷ rest) (old ∷ new ∷ rest) (lookup (is_at (compare key)) entries) (IsPermutation-middle (new ∷ []) old rest) whole

  pub held_still : (old new : Option I) (before between : List (K × A)) → Exchanges (BagAt compare is_of key) None new before between
      → IfSome old (λ item. Holds (BagAt compare is_of key) item before) → IfSome old (λ item. Holds (BagAt compare is_of key) item between)
  held_still None new before between put held = tt
  held_still (Some old) new before between put held = record {
    rest = with_item new held.rest;
    whole = turned (Some old) new held.rest between (put (old ∷ held.rest) held.whole);
  }

  pub exchanged : (old new : Option I) (before between after : List (K × A)) → Exchanges (BagAt compare is_of key) None new before between
      → Exchanges (BagAt compare is_of key) old None between after → Exchanges (BagAt compare is_of key) old new before after
  exchanged old new before between after put took rest whole =
      took (with_item new rest) (turned old new rest between (put (with_item old rest) whole))
