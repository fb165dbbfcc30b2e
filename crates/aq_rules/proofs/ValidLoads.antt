-- A load leaves the office valid.
use Rattle.std.proofs.Common.{◌≡◌, ℕ, ◌<◌, ◌≤◌, Bool, true, false, cond, List, length, Some, None, Option, refl, sym, arith, subst}
use Rattle.std.specs.Prelude.{nat_le, nat_lt, ◌==◌, bytes_eq}
use Rattle.std.specs.List.{list_all}
use Rattle.aq_rules.specs.Limits.{LAST_LOAD_NUMBER, MOST_LINES, MOST_LOADS}
use Rattle.aq_rules.specs.Lines.Lines.{line_count, body_lines}
use Rattle.aq_rules.specs.Office.Office.{Office, IsOffice, StoredLoad, load_rank, with_row, load_at, is_load}
use Rattle.aq_rules.specs.Office.Load.{Repeat, Conflict, New, after_all, with_load, reply, load, decide, decide_known, stored, TooManyLines, Repeated, Differing, NoRoom, Taken, posted_beside, office_after, post}
use Rattle.std.proofs.lemmas.Bool.{ltb-false, and_from, eq-eqb, le-leb}
use Rattle.aq_rules.specs.Office.RowOrder.{with_row-rises}
use Rattle.aq_rules.proofs.RowsPlaced.{with_row-all, length-with_row}
use Rattle.aq_rules.proofs.BatchDone.{loads-after_all}
use Rattle.aq_rules.proofs.ValidAfter.{less, lines_leave_valid}
use Rattle.aq_rules.proofs.ValidReplies.{reply-is}

-- ---- the load's own row

pub with_load-valid : (office : Office) (stored : StoredLoad) → IsOffice office → is_load stored ≡ true → length office.loads < MOST_LOADS → IsOffice (with_load stored office)
with_load-valid office stored is good room = choose (stored.number == 0)
  where
    choose : (none : Bool) → IsOffice (cond none office (record office { loads = with_row load_rank stored office.loads }))
    choose true = is
    choose false = record {
      keys_rise = record {
        records = is.keys_rise.records;
        observations = is.keys_rise.observations;
        loads = with_row-rises load_rank stored office.loads is.keys_rise.loads;
      };
      records_fit = is.records_fit;
      records_alone = is.records_alone;
      few_sites = is.few_sites;
      observations_fit = is.observations_fit;
      few_observations = is.few_observations;
      loads_fit = with_row-all load_rank is_load stored office.loads good is.loads_fit;
      few_loads = omega (arith, length-with_row load_rank stored office.loads);
    }

-- a new load has room
new_has_room : (kept : Option StoredLoad) (digest : List ℕ) (is_full : Bool) → decide_known kept digest is_full ≡ New → is_full ≡ false
new_has_room (Some kept) digest is_full new = choose (bytes_eq kept.digest digest) new
  where
    choose : (same : Bool) → cond same Repeat Conflict ≡ New → is_full ≡ false
    choose true h = cc
    choose false h = cc
new_has_room None digest true new = cc
new_has_room None digest false new = refl

pub load-fits : (office : Office) (number : ℕ) (digest body : List ℕ) → IsOffice office → 1 ≤ number → number ≤ LAST_LOAD_NUMBER → length digest ≡ 32
    → list_all (λ byte. nat_lt byte 256) digest ≡ true → line_count body ≤ MOST_LINES → nat_le MOST_LOADS (length office.loads) ≡ false → IsOffice (load office number digest body)
load-fits office number digest body is low high len bytes few full =
    let loads = loads-after_all (body_lines body) office in
    let room = less (length office.loads) MOST_LOADS full in
    with_load-valid (after_all office (body_lines body)) (record { number = number; digest = digest; reply = reply office number body })
    (lines_leave_valid office (body_lines body) is)
    (and_from _ _
    (and_from _ _
    (and_from _ _
    (and_from _ _ (and_from _ _ (le-leb 1 number low) (le-leb number LAST_LOAD_NUMBER high)) (eq-eqb number number refl))
    (eq-eqb (length digest) 32 len))
    bytes)
    (reply-is office number body few))
    (subst (λ rows. length rows < MOST_LOADS) (sym loads) room)

pub load-valid : (office : Office) (number : ℕ) (digest body : List ℕ) → IsOffice office → 1 ≤ number → number ≤ LAST_LOAD_NUMBER → length digest ≡ 32
    → list_all (λ byte. nat_lt byte 256) digest ≡ true → line_count body ≤ MOST_LINES → decide office number digest ≡ New → IsOffice (load office number digest body)
load-valid office number digest body is low high len bytes few new =
    load-fits office number digest body is low high len bytes few
    (new_has_room (load_at office number) digest (nat_le MOST_LOADS (length office.loads)) new)

pub load-not_kept : (office : Office) (digest body : List ℕ) → IsOffice office → IsOffice (load office 0 digest body)
load-not_kept office digest body is = lines_leave_valid office (body_lines body) is

-- a body of too many lines changes nothing, so that no limit is asked for
pub post-valid : (office : Office) (number : ℕ) (digest body : List ℕ) → IsOffice office → 1 ≤ number → number ≤ LAST_LOAD_NUMBER → length digest ≡ 32
    → list_all (λ byte. nat_lt byte 256) digest ≡ true → IsOffice (post office number digest body)
post-valid office number digest body is low high len bytes = counted (nat_lt MOST_LINES (line_count body)) refl
  where
    room : (full : Bool) → nat_le MOST_LOADS (length office.loads) ≡ full → line_count body ≤ MOST_LINES
        → IsOffice (office_after (cond full NoRoom (Taken (reply office number body) (load office number digest body))) office)
    room true e few = is
    room false e few = load-fits office number digest body is low high len bytes few e

    known : (kept : Option StoredLoad) → line_count body ≤ MOST_LINES → IsOffice (office_after (posted_beside kept office number digest body) office)
    known (Some kept) few = again (bytes_eq kept.digest digest)
      where
        again : (same : Bool) → IsOffice (office_after (cond same (Repeated kept.reply) (Differing kept.digest digest)) office)
        again true = is
        again false = is
    known None few = room (nat_le MOST_LOADS (length office.loads)) refl few

    counted : (many : Bool) → nat_lt MOST_LINES (line_count body) ≡ many
        → IsOffice (office_after (cond many TooManyLines (posted_beside (load_at office number) office number digest body)) office)
    counted true e = is
    counted false e = known (load_at office number) (ltb-false MOST_LINES (line_count body) e)
