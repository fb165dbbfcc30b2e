-- What a posted load comes to.
use Rattle.std.proofs.Common.{◌≡◌, ℕ, ◌≤◌, ◌⊎◌, inl, inr, Bool, true, false, cond, List, [], ◌∷◌, length, Option, Some, None, refl, sym, ap, ◌∙◌, subst, arith}
use Rattle.std.specs.Prelude.{nat_le, nat_lt, ◌==◌, bytes_eq, IsTrue}
use Rattle.std.proofs.lemmas.Bool.Decides.{nat_tests}
use Rattle.std.proofs.lemmas.Bool.{and_parts}
use Rattle.aq_rules.proofs.Loads.{posted-few}
use Rattle.aq_rules.proofs.Lookups.{found-with, same-itself}
use Rattle.aq_rules.specs.Kept.Rows.{Row}
use Rattle.aq_rules.specs.Limits.{LAST_LOAD_NUMBER, MOST_LINES, MOST_LOADS}
use Rattle.aq_rules.specs.Lines.Lines.{line_count, body_lines}
use Rattle.aq_rules.specs.Office.Load.{Repeat, Conflict, Full, New, TooManyLines, Repeated, Differing, NoRoom, Taken, after_all, decide, decide_known, load, office_after, post, posted, posted_anew, posted_beside, reply, stored}
use Rattle.aq_rules.specs.Office.Load as loads
use Rattle.aq_rules.specs.Office.Office.{Office, StoredLoad, load_at, load_rank, row_at, with_row}
use Rattle.aq_rules.specs.Questions.Asking.{is_load_number}
use Rattle.aq_rules.specs.Shown.Sheets.{load_sheet}
use Rattle.aq_book.specs.Checks.{decision_of}
use Rattle.aq_book.specs.declared.check.LoadCheck.{LoadCheck}
use Rattle.aq_book.specs.declared.check.LoadCheck.TheVariants as checks
use Rattle.aq_keeper.specs.Standing.{Standing}
use Rattle.aq_office.specs.Posting.{IsPosted, TakenBy, standing_answer}
use Rattle.aq_office.specs.declared.posting.Posted.{Posted}
use Rattle.aq_office.specs.declared.posting.Posted.TheVariants as answers

-- ---- a load that is taken

not-new : (b : Bool) → cond b Repeat Conflict ≡ New → ⊥
not-new true is = absurd (cc)
not-new false is = absurd (cc)

module _ (office : Office) (number : ℕ) (digest body : List ℕ) where
  beside-new : (found : Option StoredLoad) → decide_known found digest (nat_le MOST_LOADS (length office.loads)) ≡ New
      → posted_beside found office number digest body ≡ Taken (reply office number body) (load office number digest body)
  beside-new (Some kept) is = absurd (not-new _ is)
  beside-new None is = by_test (nat_le MOST_LOADS (length office.loads)) is
    where
      by_test : (b : Bool) → cond b Full New ≡ New → cond b NoRoom (Taken (reply office number body) (load office number digest body)) ≡ Taken (reply office number body) (load office number digest body)
      by_test true e = absurd (cc)
      by_test false e = refl

  posted-new : line_count body ≤ MOST_LINES → decide office number digest ≡ New → posted office number digest body ≡ Taken (reply office number body) (load office number digest body)
  posted-new few is = posted-few office number digest body few ∙ beside-new (load_at office number) is

  pub post_new : line_count body ≤ MOST_LINES → decide office number digest ≡ New → post office number digest body ≡ load office number digest body
  post_new few is = ap (λ p. office_after p office) (posted-new few is)

-- the decision on a load that is not new
pub not_new : (check : LoadCheck) (decision : loads.Decision) → (check ≡ checks.Repeat) ⊎ (check ≡ checks.Conflict) ⊎ (check ≡ checks.Full) → decision_of check ≡ decision → decision ≡ New → ⊥
not_new check decision (inl is) told new = let e : decision_of checks.Repeat ≡ New = ap decision_of (sym is) ∙ told ∙ new in absurd (cc)
not_new check decision (inr (inl is)) told new = let e : decision_of checks.Conflict ≡ New = ap decision_of (sym is) ∙ told ∙ new in absurd (cc)
not_new check decision (inr (inr is)) told new = let e : decision_of checks.Full ≡ New = ap decision_of (sym is) ∙ told ∙ new in absurd (cc)

-- of a body whose digest this is
module _ (office : Office) (number : ℕ) (digest sent body : List ℕ) (same : digest ≡ sent) (before after : Standing) (answer : Posted) where
  abbrev Is : List ℕ → Type 0
  Is d = IsPosted (posted office number d body) before after answer

  pub is_taken : line_count body ≤ MOST_LINES → New ≡ decide office number digest → TakenBy answer (reply office number body) (load office number digest body) before after → Is sent
  is_taken h new is = subst Is same (subst (λ p. IsPosted p before after answer) (sym (posted-new office number digest body h (sym new))) is)

  -- of a load that is not new
  by_found : (found : Option StoredLoad) → (decide_known found digest (nat_le MOST_LOADS (length office.loads)) ≡ New → ⊥) → answer ≡ standing_answer found digest → after ≡ before
      → IsPosted (posted_beside found office number digest body) before after answer
  by_found (Some kept) old is still = by_digest (bytes_eq kept.digest digest) is
    where
      by_digest : (b : Bool) → answer ≡ cond b (answers.Done (load_sheet kept.reply)) (answers.Conflict kept.digest digest)
          → IsPosted (cond b (Repeated kept.reply) (Differing kept.digest digest)) before after answer
      by_digest true is = (is, still)
      by_digest false is = (is, still)
  by_found None old is still = by_room (nat_le MOST_LOADS (length office.loads)) old
    where
      by_room : (b : Bool) → (cond b Full New ≡ New → ⊥) → IsPosted (cond b NoRoom (Taken (reply office number body) (load office number digest body))) before after answer
      by_room true old = (is, still)
      by_room false old = absurd (old refl)

  pub is_standing : line_count body ≤ MOST_LINES → (decide office number digest ≡ New → ⊥) → answer ≡ standing_answer (load_at office number) digest → after ≡ before → Is sent
  is_standing few old is still =
      subst Is same (subst (λ p. IsPosted p before after answer) (sym (posted-few office number digest body few)) (by_found (load_at office number) old is still))

-- ---- what stands then

abbrev pub IsKept : (StoredLoad → Type 0) → Option StoredLoad → Type 0
IsKept P None = ⊥
IsKept P (Some kept) = P kept

-- an answer, by the load that is kept under the number
abbrev pub Tells : Office → ℕ → List ℕ → List ℕ → loads.Posted → Type 0
Tells office number digest body TooManyLines = Unit {0}
Tells office number digest body (Repeated r) = IsKept (λ kept. kept.reply ≡ r) (load_at office number)
Tells office number digest body (Differing d sent) = IsKept (λ kept. (kept.digest ≡ d) × (sent ≡ digest)) (load_at office number)
Tells office number digest body NoRoom = Unit {0}
Tells office number digest body (Taken r now) = (r ≡ reply office number body) × (now ≡ load office number digest body)

pub tells : (office : Office) (number : ℕ) (digest body : List ℕ) → Tells office number digest body (posted office number digest body)
tells office number digest body = by_lines (nat_lt MOST_LINES (line_count body))
  where
    by_room : (b : Bool) → Tells office number digest body (cond b NoRoom (Taken (reply office number body) (load office number digest body)))
    by_room true = tt
    by_room false = (refl, refl)

    by_digest : (kept : StoredLoad) → load_at office number ≡ Some kept → (b : Bool) → Tells office number digest body (cond b (Repeated kept.reply) (Differing kept.digest digest))
    by_digest kept e true = subst (IsKept (λ k. k.reply ≡ kept.reply)) (sym e) refl
    by_digest kept e false = subst (IsKept (λ k. (k.digest ≡ kept.digest) × (digest ≡ digest))) (sym e) (refl, refl)

    by_found : (found : Option StoredLoad) → load_at office number ≡ found → Tells office number digest body (posted_beside found office number digest body)
    by_found None e = by_room (nat_le MOST_LOADS (length office.loads))
    by_found (Some kept) e = by_digest kept e (bytes_eq kept.digest digest)

    by_lines : (b : Bool) → Tells office number digest body (cond b TooManyLines (posted_beside (load_at office number) office number digest body))
    by_lines true = tt
    by_lines false = by_found (load_at office number) refl

-- a load that is kept is found again
pub load_stands : (office : Office) (number : ℕ) (digest body : List ℕ) → (number == 0) ≡ false → load_at (load office number digest body) number ≡ Some (stored office number digest body)
load_stands office number digest body some =
    ap (λ (b : Bool). load_at (cond b now (record now { loads = with_row load_rank mine now.loads })) number) some
    ∙ found-with load_rank key mine now.loads
    ∙ ap (λ b. cond b (Some mine) (row_at load_rank key now.loads)) (same-itself key)
  where
    now : Office
    now = after_all office (body_lines body)

    mine : StoredLoad
    mine = stored office number digest body

    key : List ℕ
    key = number ∷ []

-- a load's number is not that of a load that is not kept
pub is_numbered : (number : ℕ) → IsTrue (is_load_number number) → (number == 0) ≡ false
is_numbered number range = not-zero (and_parts (nat_le 1 number) (nat_le number LAST_LOAD_NUMBER) range).0
  where
    not-zero : nat_le 1 number ≡ true → (number == 0) ≡ false
    not-zero some = grind (arith, nat_tests)
