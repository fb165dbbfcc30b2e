-- An overlay after one change.
use Rattle.std.proofs.Common.{◌≡◌, ◌≢◌, ℕ, ◌+◌, ◌-◌, ◌≤◌, true, false, Option, Some, None, is_some, List, length, refl, ap, sym, ◌∙◌, arith}
use Rattle.std.specs.Prelude.{IsSome}
use Rattle.aq_base.specs.declared.observation.ObsKey.{ObsKey}
use Rattle.aq_base.specs.declared.observation.Observation.{Observation}
use Rattle.aq_rules.specs.Limits.{MOST_OBSERVATIONS}
use Rattle.aq_rules.specs.Office.Office.{observation_numbers, observation_rank, with_row, without_row}
use Rattle.aq_shelf.specs.declared.fault.ShelfFault.{ShelfFault}
use Rattle.aq_shelf.specs.declared.fault.ShelfFault.TheVariants.{AlreadyThere, Full, Memory}
use Rattle.aq_shelf.specs.Standing.{content_at, IsInsertFault}
use Rattle.aq_staging.specs.declared.changes.Changes.{Changes}
use Rattle.aq_staging.specs.Changes.{with_changes, without_rows, AreChanges}
use Rattle.aq_staging.specs.Overlay.{IsOverlay, Overlaid, with_content}
use Rattle.aq_staging.proofs.ChangeLemmas.{or_else, changes_of, change-put, AreChanges-put, content-with_changes, left-few, length-put, length-change, length-drop, with_changes-rises, without-absent}

pub none_there : (o : Option Observation) → is_some o ≡ false → o ≡ None
none_there None h = refl
none_there (Some content) h = cc

below_most : (count : ℕ) → count ≤ MOST_OBSERVATIONS → count ≢ MOST_OBSERVATIONS → count + 1 ≤ MOST_OBSERVATIONS
below_most count few other = omega (arith, few, other)

abbrev pub overlaid_by : List (ObsKey × Observation) → Changes → Overlaid
overlaid_by before changes = record { before = before; standing = with_changes changes before }

either_is_some : (left kept : Option Observation) → is_some kept ≡ true → IsSome (or_else left kept)
either_is_some None None h = cc
either_is_some None (Some content) h = refl
either_is_some (Some content) kept h = refl

left_is_some : (left kept : Option Observation) → IsSome left → IsSome (or_else left kept)
left_is_some None kept h = cc
left_is_some (Some content) kept h = refl

module _ (key : ObsKey) (before : List (ObsKey × Observation)) (changes : Changes) (count : ℕ) (is : IsOverlay before changes count) where
  abbrev standing : List (ObsKey × Observation)
  standing = with_changes changes before

  abbrev kept : Option Observation
  kept = content_at key (without_rows changes.dropped before)

  found : content_at key standing ≡ or_else (content_at key changes.left) kept
  found = content-with_changes key changes before is.kept.left

  pub found-left : (content : Observation) → content_at key changes.left ≡ Some content → content_at key standing ≡ Some content
  found-left content there = found ∙ ap (λ (o : Option Observation). or_else o kept) there

  pub found-kept : content_at key changes.left ≡ None → content_at key standing ≡ kept
  found-kept absent = found ∙ ap (λ (o : Option Observation). or_else o kept) absent

  pub kept-stands : is_some kept ≡ true → IsSome (content_at key standing)
  kept-stands some = rw found (either_is_some (content_at key changes.left) kept some)

  -- why the changes refuse the key is why the overlay does; they are not full if it is not
  pub refused_by : (fault : ShelfFault) → kept ≡ None → count ≢ MOST_OBSERVATIONS → IsInsertFault fault key changes.left → IsInsertFault fault key standing
  refused_by AlreadyThere none room why = rw found (left_is_some (content_at key changes.left) kept why)
  refused_by Full none room why =
      let few = left-few before changes is.kept in
      let counted = is.counted in
      absurd (omega (arith, few, counted, is.few, room, why.1))
  refused_by Memory none room why =
      let counted = is.counted in
      (found-kept why.0 ∙ none, omega (arith, counted, is.few, room))

  module _ (content : Observation) (left : List (ObsKey × Observation)) (put : left ≡ with_row observation_rank (key, content) changes.left) where
    abbrev new : Changes
    new = changes_of left changes.dropped

    standing_put : with_changes new before ≡ with_row observation_rank (key, content) standing
    standing_put = rw put (change-put key before changes is.kept content)

    are : AreChanges before new
    are = rw put (AreChanges-put key before changes is.kept content)

    pub overlaid-put : overlaid_by before new ≡ with_content key content (overlaid_by before changes)
    overlaid-put = ap (λ (rows : List (ObsKey × Observation)). (let o : Overlaid = record { before = before; standing = rows } in o)) standing_put

    pub IsOverlay-insert : content_at key standing ≡ None → count ≢ MOST_OBSERVATIONS → IsOverlay before new (count + 1)
    IsOverlay-insert absent room =
        let more = ap length standing_put ∙ length-put key content standing absent in
        let counted = is.counted in
        record {
          kept = are;
          counted = omega (arith, more, counted);
          few = below_most count is.few room;
        }

    pub IsOverlay-update : (old : Observation) → content_at key standing ≡ Some old → IsOverlay before new count
    IsOverlay-update old there =
        let same = ap length standing_put ∙ length-change key content old standing (with_changes-rises changes before is.kept.rising) there in
        record {
          kept = are;
          counted = is.counted ∙ sym same;
          few = is.few;
        }

    pub left-has_room : (old : Observation) → content_at key standing ≡ Some old → length left ≤ MOST_OBSERVATIONS
    left-has_room old there =
        let more = left-few before new are in
        let after = IsOverlay-update old there in
        omega (arith, more, after.counted, after.few)

  module _ (new : Changes) (are : AreChanges before new) (drop : with_changes new before ≡ without_row observation_rank (observation_numbers key) standing) where
    fewer : (old : Observation) → content_at key standing ≡ Some old → length (with_changes new before) + 1 ≡ count
    fewer old there =
        let less = length-drop key old standing (with_changes-rises changes before is.kept.rising) there in
        let left = ap length drop in
        let counted = is.counted in
        omega (arith, less, left, counted)

    pub IsOverlay-drop : (old : Observation) → content_at key standing ≡ Some old → IsOverlay before new (count - 1)
    IsOverlay-drop old there = record {
      kept = are;
      counted = omega (arith, fewer old there);
      few = omega (arith, is.few);
    }

    module _ (absent : content_at key standing ≡ None) where
      same : with_changes new before ≡ standing
      same = drop ∙ without-absent key standing absent

      pub overlaid-same : overlaid_by before new ≡ overlaid_by before changes
      overlaid-same = ap (λ (rows : List (ObsKey × Observation)). (let o : Overlaid = record { before = before; standing = rows } in o)) same

      pub IsOverlay-same : IsOverlay before new count
      IsOverlay-same = record {
        kept = are;
        counted = is.counted ∙ sym (ap length same);
        few = is.few;
      }
