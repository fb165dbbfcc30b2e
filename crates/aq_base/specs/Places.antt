-- Lemmas, no definition: the places in which qualifier codes are kept, and the list that they hold.
use Rattle.std.proofs.Common.{◌≡◌, ℕ, ◌+◌, ◌<◌, ◌≤◌, Bool, true, false, not, ◌&&◌, ◌||◌, List, [], ◌∷◌, ◌++◌, length, take, set, refl, sym, ◌∙◌, arith}
use Rattle.std.proofs.lemmas.List.{length-append}
use Rattle.std.proofs.lemmas.List.Folds.{list_any-append}
use Rattle.std.proofs.lemmas.Bool.{false≢true}
use Rattle.std.proofs.lemmas.Bool.Decides.{nat_tests}
use Rattle.std.proofs.Math.Bool.{or-false, and-true}
use Rattle.aq_base.specs.declared.code.Code.{Code}
use Rattle.aq_base.specs.declared.quals.Quals.TheInside.{Inside}
use Rattle.aq_base.specs.Padded.{length-held, take-push as take_more, Holds-push}
use Rattle.aq_base.specs.Quals.{HoldsCodes, padded, blank, all_distinct, has_code, is_same_code, with_code}

-- the list that is held gives the places and the count back
pub padded-take : (places : List Code) (count : ℕ) → HoldsCodes places count
    → (let inside : Inside = record { places = padded (take count places); count = length (take count places) } in inside) ≡ record { places = places; count = count }
padded-take places count holds =
    let same : padded (take count places) ≡ places = sym holds.held.rest in
    let many : length (take count places) ≡ count = length-held 10 blank places count holds.held in
    cc

-- the parts of two tests that must hold
pub both : (a b : Bool) → (a && b) ≡ true → (a ≡ true) × (b ≡ true)
both true b h = (refl, h)
both false b h = absurd (false≢true h)

-- and of two of which neither does
pub neither : (a b : Bool) → (a || b) ≡ false → (a ≡ false) × (b ≡ false)
neither true b h = absurd (false≢true (sym h))
neither false b h = (refl, h)

same_code_comm : (a b : Code) → is_same_code a b ≡ is_same_code b a
same_code_comm a b = grind (arith, nat_tests)

-- a code that is not there keeps the codes distinct
pub all_distinct-push : (codes : List Code) (code : Code) → all_distinct codes ≡ true → has_code code codes ≡ false → all_distinct (codes ++ code ∷ []) ≡ true
all_distinct-push [] code distinct absent = refl
all_distinct-push (first ∷ codes) code distinct absent =
    let parts = both (not (has_code first codes)) (all_distinct codes) distinct in
    let apart = neither (is_same_code first code) (has_code code codes) absent in
    let rest : all_distinct (codes ++ code ∷ []) ≡ true = all_distinct-push codes code parts.1 apart.1 in
    let other : is_same_code code first ≡ false = same_code_comm code first ∙ apart.0 in
    rw (list_any-append (λ o. is_same_code o first) codes (code ∷ []), other, rest, or-false) (rw and-true parts.0)

-- one more code is held after it is written after the others
pub take-push : (places : List Code) (count : ℕ) (code : Code) → HoldsCodes places count → count < 10 → take (count + 1) (set places count code) ≡ take count places ++ code ∷ []
take-push places count code holds room = take_more 10 blank places count code holds.held room

pub HoldsCodes-push : (places : List Code) (count : ℕ) (code : Code) → HoldsCodes places count → has_code code (take count places) ≡ false → count < 10 → HoldsCodes (set places count code) (count + 1)
HoldsCodes-push places count code holds absent room =
    let distinct : all_distinct (take count places) ≡ true = holds.distinct in
    record {
      held = Holds-push 10 blank places count code holds.held room;
      distinct = rw (take-push places count code holds room) (all_distinct-push (take count places) code distinct absent);
    }

-- the room for a code that is not there
pub room-from_with_code : (places : List Code) (count : ℕ) (code : Code) → HoldsCodes places count → has_code code (take count places) ≡ false → length (with_code (take count places) code) ≤ 10 → count < 10
room-from_with_code places count code holds absent few =
    let more : length (take count places ++ code ∷ []) ≤ 10 = rw absent at few in
    omega (arith, more, length-append (take count places) (code ∷ []), length-held 10 blank places count holds.held)
