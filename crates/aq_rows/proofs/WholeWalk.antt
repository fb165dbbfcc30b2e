-- A walk over all rows finds the office, or the first damaged row.
use Rattle.std.proofs.Common.{◌≡◌, ℕ, suc, ◌+◌, ◌<◌, ◌≤◌, true, false, cond, List, [], ◌∷◌, ◌++◌, length, get_or, take, drop, refl, sym, ap, ◌∙◌, add-one, subst}
use Rattle.std.specs.Prelude.{Option, Some, None}
use Rattle.std.proofs.Math.Seq.{take-suc, drop-cons}
use Rattle.std.proofs.lemmas.List.{take_all}
use Rattle.aq_rules.specs.Kept.Rows.{Row, office_in, are_office_rows, office_of_rows, Place, place_of, damaged_at, damage}
use Rattle.aq_rules.specs.Office.Office.{nothing}
use Rattle.aq_rows.specs.declared.walk.Walk.{Walk}
use Rattle.aq_rows.specs.OneMoreRow.{may_follow, with_last}
use Rattle.aq_rows.specs.Walking.{standing, IsWalk, Follows, HasTaken}
use Rattle.aq_rows.proofs.MoreRows.{follows, office-last}

no-rows : are_office_rows [] ≡ true
unfolding are_office_rows
no-rows = refl

pub start : (rows : List Row) (walk : Walk) → standing walk ≡ nothing → IsWalk walk → HasTaken (take 0 rows) (drop 0 rows) walk (damage rows)
unfolding damage
start rows walk office is = record { good = no-rows; office = office; rest = refl; known = is }

module _ (before after : List Row) (row : Row) (walk : Walk) (found : Option Place) (taken : HasTaken before (row ∷ after) walk found) where
  good : are_office_rows (before ++ row ∷ []) ≡ may_follow (standing walk) row
  good = follows before row taken.good ∙ ap (λ office. may_follow office row) (sym taken.office)

  -- one more row is taken
  more : (now : Walk) → Follows walk row now → HasTaken (before ++ row ∷ []) after now found
  more now follow = record {
    good = good ∙ follow.may;
    office = follow.office ∙ ap (λ office. with_last office row) taken.office ∙ sym (office-last before row);
    rest = sym (ap (λ b. cond b (damaged_at (before ++ row ∷ []) after) (Some (place_of before row))) (good ∙ follow.may)) ∙ taken.rest;
    known = follow.walk;
  }

  -- or it is the first damaged one
  damaged : may_follow (standing walk) row ≡ false → found ≡ Some (place_of before row)
  damaged bad =
      sym taken.rest ∙ ap (λ b. cond b (damaged_at (before ++ row ∷ []) after) (Some (place_of before row))) (good ∙ bad)

module _ (rows : List Row) (index : ℕ) (row : Row) (walk : Walk) (below : index < length rows) (at : row ≡ get_or rows index row) where
  behind : drop index rows ≡ row ∷ drop (index + 1) rows
  behind = drop-cons rows index row below ∙ ap (λ r. r ∷ drop (suc index) rows) (sym at) ∙ ap (λ n. row ∷ drop n rows) (sym (add-one index))

  front : take (index + 1) rows ≡ take index rows ++ row ∷ []
  front = ap (λ n. take n rows) (add-one index) ∙ take-suc rows index row below ∙ ap (λ r. take index rows ++ r ∷ []) (sym at)

  pub step : (now : Walk) (found : Option Place) → HasTaken (take index rows) (drop index rows) walk found → Follows walk row now
      → HasTaken (take (index + 1) rows) (drop (index + 1) rows) now found
  step now found taken follow =
      subst (λ l. HasTaken l (drop (index + 1) rows) now found) (sym front)
      (more (take index rows) (drop (index + 1) rows) row walk found (subst (λ l. HasTaken (take index rows) l walk found) behind taken) now follow)

  pub stopped : (found : Option Place) → HasTaken (take index rows) (drop index rows) walk found → may_follow (standing walk) row ≡ false
      → found ≡ Some (place_of (take index rows) row)
  stopped found taken bad =
      damaged (take index rows) (drop (index + 1) rows) row walk found (subst (λ l. HasTaken (take index rows) l walk found) behind taken) bad

-- all rows are taken
pub opened : (rows : List Row) (index : ℕ) (walk : Walk) (found : Option Place) → length rows ≤ index → HasTaken (take index rows) (drop index rows) walk found
    → office_of_rows rows ≡ Some (standing walk)
unfolding office_of_rows
opened rows index walk found whole taken =
    let all : take index rows ≡ rows = take_all index rows whole in
    ap (λ b. cond b (Some (office_in rows)) None) (ap are_office_rows (sym all) ∙ taken.good)
    ∙ ap Some (ap office_in (sym all) ∙ sym taken.office)
