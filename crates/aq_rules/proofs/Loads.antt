-- What lines and loads leave as it was.
use Rattle.std.proofs.Common.{◌≡◌, ℕ, ◌<◌, ◌≤◌, arith, Bool, true, false, cond, List, [], ◌∷◌, Some, None, Option, refl, ap, ◌∙◌, inl, inr}
use Rattle.std.specs.Prelude.{is_some, if◌then◌else◌, bytes_eq, nat_le, nat_lt, ◌==◌, length}
use Rattle.std.proofs.lemmas.Bool.Decides.{nat_tests}
use Rattle.std.proofs.lemmas.Slice.Eq.{bytes_eq-Decides}
use Rattle.std.proofs.lemmas.Bool.{cases_Bool, le-leb, le-ltb, lt-ltb}
use Rattle.aq_base.specs.declared.office.OfficeRecord.{OfficeRecord}
use Rattle.aq_base.specs.declared.office.OfficeKey.{OfficeKey}
use Rattle.aq_base.specs.declared.office.OfficeKey.TheVariants.{Event as EventKey, Concurrence as ConcurrenceKey}
use Rattle.aq_base.specs.declared.office.OfficeLine.TheVariants.{Put, Change, Drop}
use Rattle.aq_base.specs.declared.rule.Rule.{Rule}
use Rattle.aq_rules.specs.Limits.{MOST_LINES, MOST_LOADS}
use Rattle.aq_rules.specs.Lines.Lines.{NumberedLine, body_lines, line_count}
use Rattle.aq_rules.specs.Lines.RdForm.{Put as PutSample, Delete as DeleteSample}
use Rattle.aq_rules.specs.Lines.Reading.{LineValue, OfRd, OfOffice, line_value}
use Rattle.aq_rules.specs.Office.Office.{Office, StoredLoad, KeysRise, record_rank, observation_rank, load_rank, key_numbers, observation_numbers, load_at}
use Rattle.aq_rules.specs.Office.Refusal.{kept_key}
use Rattle.aq_rules.specs.Office.Load.{Repeat, Conflict, Full, New, with_record, without_record, without_key, changed, changed_by, refusal, after, after_all, with_load, reply, load, decide, decide_known, Posted, TooManyLines, Repeated, Differing, NoRoom, Taken, posted_again, posted_anew, posted_beside, posted, decision_of, office_after, post}
use Rattle.aq_rules.specs.Office.RowOrder.{with_row-rises, without_row-rises}

pub after-refused : (office : Office) (line : List ℕ) (rule : Rule) → refusal office line ≡ Some rule → after office line ≡ office
after-refused office line rule is =
    ap (λ o. if is_some o then office else changed_by office (line_value line)) is

-- ---- what a posted load answers

same-digest : (a b : List ℕ) → a ≡ b → bytes_eq a b ≡ true
same-digest a b same = (bytes_eq-Decides a b).1 same

other-digest : (a b : List ℕ) → (a ≡ b → ⊥) → bytes_eq a b ≡ false
other-digest a b other = elim (cases_Bool (bytes_eq a b)) [ inl same ↦ absurd (other ((bytes_eq-Decides a b).0 same)) | inr differs ↦ differs ]

not-within : (a b : ℕ) → b < a → nat_le a b ≡ false
not-within a b h = grind (arith, nat_tests)

module _ (office : Office) (number : ℕ) (digest body : List ℕ) where
  pub posted-too_many : 120000 < line_count body → posted office number digest body ≡ TooManyLines
  posted-too_many many = ap (λ b. cond b TooManyLines (posted_beside (load_at office number) office number digest body)) (lt-ltb 120000 (line_count body) many)

  pub posted-few : line_count body ≤ 120000 → posted office number digest body ≡ posted_beside (load_at office number) office number digest body
  posted-few few = ap (λ b. cond b TooManyLines (posted_beside (load_at office number) office number digest body)) (le-ltb 120000 (line_count body) few)

  known : (kept : StoredLoad) → line_count body ≤ 120000 → load_at office number ≡ Some kept → posted office number digest body ≡ posted_again kept digest
  known kept few is = posted-few few ∙ ap (λ o. posted_beside o office number digest body) is

  new : line_count body ≤ 120000 → load_at office number ≡ None → posted office number digest body ≡ posted_anew office number digest body
  new few is = posted-few few ∙ ap (λ o. posted_beside o office number digest body) is

  pub posted-same : (kept : StoredLoad) → line_count body ≤ 120000 → load_at office number ≡ Some kept → kept.digest ≡ digest → posted office number digest body ≡ Repeated kept.reply
  posted-same kept few is same =
      known kept few is ∙ ap (λ b. cond b (Repeated kept.reply) (Differing kept.digest digest)) (same-digest kept.digest digest same)

  pub posted-differing : (kept : StoredLoad) → line_count body ≤ 120000 → load_at office number ≡ Some kept → (kept.digest ≡ digest → ⊥) → posted office number digest body ≡ Differing kept.digest digest
  posted-differing kept few is other =
      known kept few is ∙ ap (λ b. cond b (Repeated kept.reply) (Differing kept.digest digest)) (other-digest kept.digest digest other)

  abbrev taken : Posted
  taken = Taken (reply office number body) (load office number digest body)

  pub posted-full : line_count body ≤ 120000 → load_at office number ≡ None → 100000 ≤ length office.loads → posted office number digest body ≡ NoRoom
  posted-full few is many = new few is ∙ ap (λ b. cond b NoRoom taken) (le-leb 100000 (length office.loads) many)

  pub posted-taken : line_count body ≤ 120000 → load_at office number ≡ None → length office.loads < 100000 → posted office number digest body ≡ taken
  posted-taken few is room = new few is ∙ ap (λ b. cond b NoRoom taken) (not-within 100000 (length office.loads) room)

  again-decided : (same is_full : Bool) (kept : StoredLoad) → decision_of (cond same (Repeated kept.reply) (Differing kept.digest digest)) ≡ Some (cond same Repeat Conflict)
  again-decided true is_full kept = refl
  again-decided false is_full kept = refl

  anew-decided : (is_full : Bool) → decision_of (cond is_full NoRoom taken) ≡ Some (cond is_full Full New)
  anew-decided true = refl
  anew-decided false = refl

  abbrev is_full : Bool
  is_full = nat_le MOST_LOADS (length office.loads)

  beside-decided : (kept : Option StoredLoad) → decision_of (posted_beside kept office number digest body) ≡ Some (decide_known kept digest is_full)
  beside-decided (Some kept) = again-decided (bytes_eq kept.digest digest) is_full kept
  beside-decided None = anew-decided is_full

  pub posted-decided : line_count body ≤ 120000 → decision_of (posted office number digest body) ≡ Some (decide office number digest)
  posted-decided few = ap decision_of (posted-few few) ∙ beside-decided (load_at office number)

  again-old : (same : Bool) (kept : StoredLoad) → office_after (cond same (Repeated kept.reply) (Differing kept.digest digest)) office ≡ office
  again-old true kept = refl
  again-old false kept = refl

  many-old : (many : Bool) (answer : Posted) → office_after answer office ≡ office → office_after (cond many TooManyLines answer) office ≡ office
  many-old true answer old = refl
  many-old false answer old = old

  pub post-known : (kept : StoredLoad) → load_at office number ≡ Some kept → post office number digest body ≡ office
  post-known kept is =
      many-old (nat_lt MOST_LINES (line_count body)) (posted_beside (load_at office number) office number digest body)
      (ap (λ o. office_after (posted_beside o office number digest body) office) is ∙ again-old (bytes_eq kept.digest digest) kept)

  anew-old : (full : Bool) → (cond full Full New ≡ New → ⊥) → office_after (cond full NoRoom taken) office ≡ office
  anew-old true old = refl
  anew-old false old = absurd (old refl)

  beside-old : (kept : Option StoredLoad) → (decide_known kept digest is_full ≡ New → ⊥) → office_after (posted_beside kept office number digest body) office ≡ office
  beside-old (Some kept) old = again-old (bytes_eq kept.digest digest) kept
  beside-old None old = anew-old is_full old

  pub post-old : (decide office number digest ≡ New → ⊥) → post office number digest body ≡ office
  post-old old =
      many-old (nat_lt MOST_LINES (line_count body)) (posted_beside (load_at office number) office number digest body) (beside-old (load_at office number) old)

-- ---- keys rise

KeysRise-without : (key : OfficeKey) (office : Office) → KeysRise office → KeysRise (without_record key office)
KeysRise-without key office rise = record {
  records = without_row-rises record_rank (key_numbers key) office.records rise.records;
  observations = rise.observations;
  loads = rise.loads;
}

KeysRise-without_key : (key : OfficeKey) (office : Office) → KeysRise office → KeysRise (without_key key office)
KeysRise-without_key (EventKey number) office rise =
    KeysRise-without (ConcurrenceKey number) (without_record (EventKey number) office) (KeysRise-without (EventKey number) office rise)
KeysRise-without_key key office rise = KeysRise-without key office rise

KeysRise-with : (r : OfficeRecord) (office : Office) → KeysRise office → KeysRise (with_record r office)
KeysRise-with r office rise = record {
  records = with_row-rises record_rank r office.records rise.records;
  observations = rise.observations;
  loads = rise.loads;
}

pub KeysRise-changed : (office : Office) (value : LineValue) → KeysRise office → KeysRise (changed office value)
KeysRise-changed office (OfRd (PutSample update monitor duration hour content)) rise = record {
  records = rise.records;
  observations = with_row-rises observation_rank (kept_key office monitor hour, content) office.observations rise.observations;
  loads = rise.loads;
}
KeysRise-changed office (OfRd (DeleteSample monitor hour)) rise = record {
  records = rise.records;
  observations =
      without_row-rises observation_rank (observation_numbers (kept_key office monitor hour)) office.observations rise.observations;
  loads = rise.loads;
}
KeysRise-changed office (OfOffice (Put r)) rise = KeysRise-with r office rise
KeysRise-changed office (OfOffice (Change r)) rise = KeysRise-with r office rise
KeysRise-changed office (OfOffice (Drop key)) rise = KeysRise-without_key key office rise

KeysRise-changed_by : (office : Office) (value : Option LineValue) → KeysRise office → KeysRise (changed_by office value)
KeysRise-changed_by office None rise = rise
KeysRise-changed_by office (Some value) rise = KeysRise-changed office value rise

KeysRise-if : (refused : Bool) (office now : Office) → KeysRise office → KeysRise now → KeysRise (if refused then office else now)
KeysRise-if true office now rise later = rise
KeysRise-if false office now rise later = later

pub KeysRise-after : (office : Office) (line : List ℕ) → KeysRise office → KeysRise (after office line)
KeysRise-after office line rise =
    KeysRise-if (is_some (refusal office line)) office (changed_by office (line_value line)) rise
    (KeysRise-changed_by office (line_value line) rise)

pub KeysRise-after_all : (office : Office) (lines : List NumberedLine) → KeysRise office → KeysRise (after_all office lines)
KeysRise-after_all office [] rise = rise
KeysRise-after_all office (line ∷ lines) rise = KeysRise-after_all (after office line.text) lines (KeysRise-after office line.text rise)

KeysRise-with_load : (stored : StoredLoad) (office : Office) → KeysRise office → KeysRise (with_load stored office)
KeysRise-with_load stored office rise =
    KeysRise-if (stored.number == 0) office _ rise
    (record { records = rise.records; observations = rise.observations; loads = with_row-rises load_rank stored office.loads rise.loads })

pub KeysRise-load : (office : Office) (number : ℕ) (digest body : List ℕ) → KeysRise office → KeysRise (load office number digest body)
KeysRise-load office number digest body rise =
    KeysRise-with_load (record { number = number; digest = digest; reply = reply office number body }) (after_all office (body_lines body))
    (KeysRise-after_all office (body_lines body) rise)
