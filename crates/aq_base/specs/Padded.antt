-- A short list in a row of places of which the others hold a blank, so that the list gives the places back.
use Rattle.std.proofs.Common.{◌≡◌, ℕ, suc, ◌+◌, ◌-◌, ◌<◌, ◌≤◌, List, [], ◌∷◌, ◌++◌, length, take, set, replicate, sym, ap, ◌∙◌, arith, rules}
use Rattle.std.proofs.lemmas.List.{length-append, length-replicate, length-take, take_more_set}
use Rattle.std.proofs.lemmas.Grind.{common_steps}
use Rattle.std.proofs.Math.Seq.{set-append_seam}

abbrev pub padded_to : {X : Type 0} → ℕ → X → List X → List X
padded_to most blank items = items ++ replicate (most - length items) blank

-- the first `count` of `most` places hold the list, and the others the blank
pub record Holds {X : Type 0} (most : ℕ) (blank : X) (places : List X) (count : ℕ) : Type 0 where
  pub few : count ≤ most
  pub rest : places ≡ padded_to most blank (take count places)

module _ {X : Type 0} (most : ℕ) (blank : X) where
  pub length-padded_to : (items : List X) → length items ≤ most → length (padded_to most blank items) ≡ most
  length-padded_to items few =
      omega (arith, few, length-append items (replicate (most - length items) blank), length-replicate (most - length items) blank)

  -- as many items are held as the count says
  pub length-held : (places : List X) (count : ℕ) → Holds most blank places count → length (take count places) ≡ count
  length-held places count holds =
      let all : length places ≡ length (take count places) + (most - length (take count places)) =
      ap length holds.rest ∙ length-append (take count places) (replicate (most - length (take count places)) blank)
      ∙ ap (λ n. length (take count places) + n) (length-replicate (most - length (take count places)) blank)
      in
      let few : count ≤ most = holds.few in
      omega (arith, length-take count places, all, few)

  -- there are `most` places
  pub length-places : (places : List X) (count : ℕ) → Holds most blank places count → length places ≡ most
  length-places places count holds =
      ap length holds.rest ∙ length-padded_to (take count places) (rw (length-held places count holds) holds.few)

  -- one more item is held after it is written after the others
  pub take-push : (places : List X) (count : ℕ) (item : X) → Holds most blank places count → count < most
      → take (count + 1) (set places count item) ≡ take count places ++ item ∷ []
  take-push places count item holds room =
      take_more_set places count item (rw (length-places places count holds) room)

  set-padded_to : (items : List X) (item : X) → length items < most
      → set (padded_to most blank items) (length items) item ≡ padded_to most blank (items ++ item ∷ [])
  set-padded_to items item room =
      let spare : most - length items ≡ suc (most - length items - 1) = omega arith in
      let left : most - length (items ++ item ∷ []) ≡ most - length items - 1 = omega (arith, length-append items (item ∷ [])) in
      rw (spare, left, set-append_seam) (search (rules, common_steps))

  pub Holds-push : (places : List X) (count : ℕ) (item : X) → Holds most blank places count → count < most
      → Holds most blank (set places count item) (count + 1)
  Holds-push places count item holds room =
      let held = length-held places count holds in
      let written : set (padded_to most blank (take count places)) (length (take count places)) item ≡ padded_to most blank (take count places ++ item ∷ []) =
      set-padded_to (take count places) item (rw held room)
      in
      record {
        few = omega arith;
        rest =
            ap (λ n. set places n item) (sym held)
            ∙ ap (λ p. set p (length (take count places)) item) holds.rest ∙ written
            ∙ ap (padded_to most blank) (sym (take-push places count item holds room));
      }
