-- A body that was not read, and one that was.
use Rattle.std.proofs.Common.{◌≡◌, ℕ, ◌<◌, ◌≤◌, ◌⊎◌, inl, inr, true, false, List, length, Option, refl, sym, ap, subst, ◌∙◌, arith}
use Rattle.std.specs.Prelude.{Result, Ok, Err, IsErrAnd, if◌then◌else◌}
use Rattle.aq_base.specs.Faults.{HasRisen}
use Rattle.aq_keeper.specs.Told.{told_through}
use Rattle.aq_base.specs.Site.{Site}
use Rattle.aq_rules.specs.Kept.Rows.{Row}
use Rattle.aq_rules.specs.Limits.{MOST_BYTES, MOST_LINES}
use Rattle.aq_rules.specs.Lines.Lines.{line_count}
use Rattle.aq_desk.proofs.Outcomes.{excess-bytes, excess-lines, is_within-bytes, is_within-few, is_within-lines, scan_beyond, scan_within, without_input, without_memory, writes_nothing}
use Rattle.aq_desk.proofs.Tables.{keeps_before, keeps_same, of_any, of_told}
use Rattle.aq_desk.specs.Body.{HasTooManyBytes, IsBodyFault, IsLinesFault, IsTooLong, excess, is_within}
use Rattle.aq_desk.specs.Command.{Keeps, Outcome, Printout, RisesAt, leaving, printout_of, unwritten}
use Rattle.aq_desk.specs.Ending.{too_many_lines}
use Rattle.aq_outside.specs.Outside.{IsAll, OfTold, SinkView, SourceView}
use Rattle.aq_desk.specs.Scan.{scan_answer, scan_outcome}
use Rattle.aq_desk.specs.Stop.{HasCauses, IsMeasured, Obeys, Performs, ending_at, status_of, stop_of}
use Rattle.aq_desk.specs.declared.body.BodyFault.{BodyFault}
use Rattle.aq_desk.specs.declared.body.BodyFault.TheVariants as fault
use Rattle.aq_desk.specs.declared.stop.Stop.{Stop}
use Rattle.aq_desk.specs.declared.stop.Stop.TheVariants.{InputFailed, Memory}

pub rises_at : (status before after : ℕ) → HasRisen before after → RisesAt status status before after
rises_at status before after risen = record { rises = λ _. risen; stays = λ other. absurd (other refl) }

pub stays_at : (wanted status count : ℕ) → (status ≡ wanted → ⊥) → RisesAt wanted status count count
stays_at wanted status count other = record { rises = λ same. absurd (other same); stays = λ _. refl }

pub stays_at_from : (wanted status before after : ℕ) → (status ≡ wanted → ⊥) → after ≡ before → RisesAt wanted status before after
stays_at_from wanted status before after other steady = record { rises = λ same. absurd (other same); stays = λ _. steady }

-- what stopped a command, as `?` answers it
pub stopped_by : {A : Type 0} (answer : Result A Stop) (stop : Stop) → IsErrAnd answer (λ why. why ≡ stop) → answer ≡ Err stop
stopped_by (Ok nothing) stop why = absurd why
stopped_by (Err other) stop why = ap Err why

-- memory was not to be had, and nothing was written
pub out_of_memory : (outcome : Printout) (answer : Result Unit Stop) (output : SinkView) → IsErrAnd answer (λ why. why ≡ Memory) → Obeys outcome answer output output
out_of_memory outcome answer output why =
    let P = λ (ends : Result Unit Stop). Obeys outcome ends output output in
    subst P (sym (stopped_by answer Memory why)) (without_memory outcome Memory output refl)

-- why there is no body of what is left
abbrev pub IsUnmade : ℕ → ℕ → Option (List ℕ) → BodyFault → Type 0
IsUnmade m n left why = IsBodyFault m n (HasTooManyBytes left) (λ lines. OfTold left (IsTooLong lines)) why

-- its bytes were not read
pub unfilled : (m n : ℕ) (left : Option (List ℕ)) (why : BodyFault) → IsBodyFault m n (HasTooManyBytes left) (λ _. ⊥) why → IsUnmade m n left why
unfilled m n left fault.InputFailed risen = risen
unfilled m n left fault.Memory same = same
unfilled m n left fault.TooManyBytes many = many
unfilled m n left (fault.TooManyLines count) none = absurd none.1

-- they were, and have too many lines
pub too_long : (m n : ℕ) (left : Option (List ℕ)) (bytes seen : List ℕ) (why : BodyFault) → IsAll left bytes → seen ≡ bytes → n ≡ m → IsLinesFault seen why → IsUnmade m n left why
too_long m n left bytes seen fault.InputFailed told same steady none = absurd none
too_long m n left bytes seen fault.Memory told same steady none = absurd none
too_long m n left bytes seen fault.TooManyBytes told same steady none = absurd none
too_long m n left bytes seen (fault.TooManyLines count) told same steady many =
    (steady, record { all = bytes; is_all = told; says = subst (IsTooLong count) same many })

-- they were, and have few
pub few_lines : (bytes seen : List ℕ) → length bytes ≤ MOST_BYTES → seen ≡ bytes → line_count seen ≤ MOST_LINES → is_within bytes ≡ true
few_lines bytes seen few same lines = is_within-few bytes few (subst (λ (b : List ℕ). line_count b ≤ MOST_LINES) same lines)

-- the input or memory failed, or the body is beyond a limit
abbrev IsUnread : Stop → List ℕ → Type 0
IsUnread stop body = (stop ≡ InputFailed) ⊎ ((stop ≡ Memory) ⊎ ((is_within body ≡ false) × ((ending_at stop ≡ excess body) × ((ending_at stop).status ≡ 10))))

unread : (left : Option (List ℕ)) (m n : ℕ) (why : BodyFault) → IsUnmade m n left why → OfTold left (IsUnread (stop_of why))
unread left m n fault.InputFailed cause = of_any left (IsUnread InputFailed) (λ body. inl refl)
unread left m n fault.Memory cause = of_any left (IsUnread Memory) (λ body. inr (inl refl))
unread left m n fault.TooManyBytes cause =
    let body = cause.1.all in
    record { all = body; is_all = cause.1.is_all; says = inr (inr (is_within-bytes body cause.1.says, (sym (excess-bytes body cause.1.says), refl))) }
unread left m n (fault.TooManyLines lines) cause =
    let body = cause.1.all in
    let many = subst (λ (k : ℕ). MOST_LINES < k) cause.1.says.counted cause.1.says.many in
    record { all = body; is_all = cause.1.is_all; says = inr (inr (is_within-lines body many, (ap too_many_lines cause.1.says.counted ∙ sym (excess-lines body cause.1.says.bytes), refl))) }

unread_obeys : (printout : Printout) (stop : Stop) (body : List ℕ) (output : SinkView) → (is_within body ≡ false → printout ≡ unwritten (excess body)) → IsUnread stop body → Obeys printout (Err stop) output output
unread_obeys printout stop body output beyond (inl input) =
    let P = λ (s : Stop). Obeys printout (Err s) output output in
    subst P (sym input) (without_input printout output)
unread_obeys printout stop body output beyond (inr (inl memory)) = without_memory printout stop output memory
unread_obeys printout stop body output beyond (inr (inr cause)) =
    let P = λ (p : Printout). Obeys p (Err stop) output output in
    subst P (sym (beyond cause.0)) (writes_nothing (excess body) (Err stop) output cause.1.0 (λ four. absurd (omega (arith, four, cause.1.1))))

unread_keeps : (outcome : Outcome) (rows : List Row) (stop : Stop) (body : List ℕ) (tables : Option (List Row)) → IsAll (told_through tables tables) rows → (is_within body ≡ false → outcome ≡ leaving rows (unwritten (excess body))) → IsUnread stop body → Keeps outcome.rows (ending_at stop).status tables tables
unread_keeps outcome rows stop body tables told beyond (inl input) =
    let P = λ (s : Stop). Keeps outcome.rows (ending_at s).status tables tables in
    subst P (sym input) (keeps_before outcome.rows 3 tables (λ kept. omega (arith, kept)))
unread_keeps outcome rows stop body tables told beyond (inr (inl memory)) =
    let P = λ (s : Stop). Keeps outcome.rows (ending_at s).status tables tables in
    subst P (sym memory) (keeps_before outcome.rows 7 tables (λ kept. omega (arith, kept)))
unread_keeps outcome rows stop body tables told beyond (inr (inr cause)) =
    let P = λ (o : Outcome). Keeps o.rows (ending_at stop).status tables tables in
    subst P (sym (beyond cause.0)) (keeps_same rows (ending_at stop).status tables told)

-- a body that is beyond a limit ends a command with 10
unread_measured : (stop : Stop) (body : List ℕ) → IsUnread stop body → IsMeasured true body (ending_at stop).status
unread_measured stop body (inl input) =
    let P = λ (s : Stop). IsMeasured true body (ending_at s).status in
    subst P (sym input) (record { too_many = λ ten. absurd (omega (arith, ten)); whole = λ _ reads. absurd (omega (arith, reads)) })
unread_measured stop body (inr (inl memory)) =
    let P = λ (s : Stop). IsMeasured true body (ending_at s).status in
    subst P (sym memory) (record { too_many = λ ten. absurd (omega (arith, ten)); whole = λ _ reads. absurd (omega (arith, reads)) })
unread_measured stop body (inr (inr cause)) = record { too_many = λ _. cause.0; whole = λ _ reads. absurd (omega (arith, reads, cause.1.1)) }

-- one within the limits ends it with another status
read_measured : (body : List ℕ) (status : ℕ) → is_within body ≡ true → (status ≡ 10 → ⊥) → IsMeasured true body status
read_measured body status within no_excess = record { too_many = λ ten. absurd (no_excess ten); whole = λ _ _. within }

pub unread_told : (site : Site) (day : ℕ) (left : Option (List ℕ)) (output : SinkView) (m n : ℕ) (why : BodyFault) (answer : Result Unit Stop) → IsErrAnd answer (λ stop. stop ≡ stop_of why) → IsUnmade m n left why
    → OfTold left (λ body. Obeys (scan_outcome site day body) answer output output × IsMeasured true body (status_of answer))
unread_told site day left output m n why answer is cause =
    let P = λ (r : Result Unit Stop). OfTold left (λ body. Obeys (scan_outcome site day body) r output output × IsMeasured true body (status_of r)) in
    let over = unread left m n why cause in
    subst P (sym (stopped_by answer (stop_of why) is))
    (record {
      all = over.all;
      is_all = over.is_all;
      says = (unread_obeys (scan_outcome site day over.all) (stop_of why) over.all output (scan_beyond site day over.all) over.says, unread_measured (stop_of why) over.all over.says);
    })

pub read_scan : (site : Site) (day : ℕ) (left : Option (List ℕ)) (body seen : List ℕ) (answer : Result Unit Stop) (before after : SinkView) → IsAll left body → seen ≡ body → is_within body ≡ true → (status_of answer ≡ 10 → ⊥) → Obeys (scan_answer site day seen) answer before after
    → OfTold left (λ body. Obeys (scan_outcome site day body) answer before after × IsMeasured true body (status_of answer))
read_scan site day left body seen answer before after told same within no_excess obeys =
    let P = λ (p : Printout). Obeys p answer before after in
    record {
      all = body;
      is_all = told;
      says = (subst P (ap (scan_answer site day) same ∙ sym (scan_within site day body within)) obeys, read_measured body (status_of answer) within no_excess);
    }

-- ---- a body over the tables

-- a body within the limits is answered, and another changes nothing
abbrev pub within_limits : (List ℕ → List Row → Outcome) → List Row → List ℕ → Outcome
within_limits answer_to rows body = if is_within body then answer_to body rows else leaving rows (unwritten (excess body))

module _ (answer_to : List ℕ → List Row → Outcome) where
  body-within : (rows : List Row) (body : List ℕ) → is_within body ≡ true → within_limits answer_to rows body ≡ answer_to body rows
  body-within rows body is = ap (λ few. if few then answer_to body rows else leaving rows (unwritten (excess body))) is

  body-beyond : (rows : List Row) (body : List ℕ) → is_within body ≡ false → within_limits answer_to rows body ≡ leaving rows (unwritten (excess body))
  body-beyond rows body is = ap (λ few. if few then answer_to body rows else leaving rows (unwritten (excess body))) is

  pub unread_body : (left : Option (List ℕ)) (output : SinkView) (tables : Option (List Row)) (m n : ℕ) (why : BodyFault) (answer : Result Unit Stop) → IsErrAnd answer (λ stop. stop ≡ stop_of why) → IsUnmade m n left why
      → OfTold (told_through tables tables) (λ rows. OfTold left (λ body. Performs (within_limits answer_to rows body) answer output output tables tables × IsMeasured true body (status_of answer)))
  unread_body left output tables m n why answer is cause =
      let P = λ (r : Result Unit Stop). OfTold (told_through tables tables) (λ rows. OfTold left (λ body. Performs (within_limits answer_to rows body) r output output tables tables × IsMeasured true body (status_of r))) in
      let over = unread left m n why cause in
      subst P (sym (stopped_by answer (stop_of why) is))
      (of_told (told_through tables tables) (λ rows. OfTold left (λ body. Performs (within_limits answer_to rows body) (Err (stop_of why)) output output tables tables × IsMeasured true body (ending_at (stop_of why)).status)) (λ rows told. record {
        all = over.all;
        is_all = over.is_all;
        says = (
          record {
            obeys = unread_obeys (printout_of (within_limits answer_to rows over.all)) (stop_of why) over.all output (λ few. ap printout_of (body-beyond rows over.all few)) over.says;
            tables = unread_keeps (within_limits answer_to rows over.all) rows (stop_of why) over.all tables told (body-beyond rows over.all) over.says;
          },
          unread_measured (stop_of why) over.all over.says,
        );
      }))

  pub read_body_over : (left : Option (List ℕ)) (body seen : List ℕ) (answer : Result Unit Stop) (before after : SinkView) (tables_before tables_after : Option (List Row)) → IsAll left body → seen ≡ body → is_within body ≡ true → (status_of answer ≡ 10 → ⊥) → OfTold (told_through tables_before tables_after) (λ rows. Performs (answer_to seen rows) answer before after tables_before tables_after)
      → OfTold (told_through tables_before tables_after) (λ rows. OfTold left (λ body. Performs (within_limits answer_to rows body) answer before after tables_before tables_after × IsMeasured true body (status_of answer)))
  read_body_over left body seen answer before after tables_before tables_after told same within no_excess over =
      let P = λ (o : Outcome). Performs o answer before after tables_before tables_after in
      record {
        all = over.all;
        is_all = over.is_all;
        says = record {
          all = body;
          is_all = told;
          says = (subst P (ap (λ b. answer_to b over.all) same ∙ sym (body-within over.all body within)) over.says, read_measured body (status_of answer) within no_excess);
        };
      }

-- ---- causes

unread_caused : (before after : SourceView) (output : SinkView) (why : BodyFault) → IsUnmade before.faults after.faults before.left why
    → HasCauses (ending_at (stop_of why)).status before after output output
unread_caused before after output fault.InputFailed cause = record {
  input = rises_at 3 before.faults after.faults cause;
  output = stays_at 4 3 output.faults (λ same. omega arith);
}
unread_caused before after output fault.Memory cause = record {
  input = record { rises = λ same. absurd (omega arith); stays = λ _. cause };
  output = stays_at 4 7 output.faults (λ same. omega arith);
}
unread_caused before after output fault.TooManyBytes cause = record {
  input = record { rises = λ same. absurd (omega arith); stays = λ _. cause.0 };
  output = stays_at 4 10 output.faults (λ same. omega arith);
}
unread_caused before after output (fault.TooManyLines lines) cause = record {
  input = record { rises = λ same. absurd (omega arith); stays = λ _. cause.0 };
  output = stays_at 4 10 output.faults (λ same. omega arith);
}

pub unread_causes : (before after : SourceView) (output : SinkView) (why : BodyFault) (answer : Result Unit Stop) → IsErrAnd answer (λ stop. stop ≡ stop_of why)
    → IsUnmade before.faults after.faults before.left why → HasCauses (status_of answer) before after output output
unread_causes before after output why answer is cause =
    let P = λ (r : Result Unit Stop). HasCauses (status_of r) before after output output in
    subst P (sym (stopped_by answer (stop_of why) is)) (unread_caused before after output why cause)

unread_other : (why : BodyFault) → (ending_at (stop_of why)).status ≡ 5 → ⊥
unread_other fault.InputFailed = λ five. omega (arith, five)
unread_other fault.Memory = λ five. omega (arith, five)
unread_other fault.TooManyBytes = λ five. omega (arith, five)
unread_other (fault.TooManyLines lines) = λ five. omega (arith, five)

pub unread_status : (why : BodyFault) (answer : Result Unit Stop) → IsErrAnd answer (λ stop. stop ≡ stop_of why) → status_of answer ≡ 5 → ⊥
unread_status why answer is =
    let P = λ (r : Result Unit Stop). status_of r ≡ 5 → ⊥ in
    subst P (sym (stopped_by answer (stop_of why) is)) (unread_other why)

-- the keeper was not asked
pub unread_keeper : (count : ℕ) (why : BodyFault) (answer : Result Unit Stop) → IsErrAnd answer (λ stop. stop ≡ stop_of why) → RisesAt 5 (status_of answer) count count
unread_keeper count why answer is =
    let P = λ (r : Result Unit Stop). RisesAt 5 (status_of r) count count in
    subst P (sym (stopped_by answer (stop_of why) is)) (stays_at 5 (ending_at (stop_of why)).status count (unread_other why))

pub read_causes : (status : ℕ) (before after : SourceView) (output later : SinkView) → after.faults ≡ before.faults → (status ≡ 3 → ⊥) → RisesAt 4 status output.faults later.faults
    → HasCauses status before after output later
read_causes status before after output later steady no_fault rises = record {
  input = record { rises = λ same. absurd (no_fault same); stays = λ _. steady };
  output = rises;
}
