-- Replies as answers to requests.
use Rattle.std.proofs.Common.{◌≡◌, ℕ, ◌<◌, ◌⊎◌, inl, inr, Bool, true, false, List, Option, refl, sym, ap, ◌∙◌, subst}
use Rattle.std.specs.Prelude.{◌==◌}
use Rattle.std.specs.Option.{option_map}
use Rattle.aq_base.specs.declared.reply.LoadReply.{LoadReply}
use Rattle.aq_rules.proofs.Loads.{posted-too_many}
use Rattle.aq_rules.specs.Kept.Rows.{Row, rows_of}
use Rattle.aq_rules.specs.Lines.Lines.{line_count}
use Rattle.aq_rules.specs.Office.Load.{TooManyLines, Repeated, Differing, NoRoom, Taken, office_after, post, posted}
use Rattle.aq_rules.specs.Office.Load as loads
use Rattle.aq_rules.specs.Office.Office.{Office}
use Rattle.aq_rules.specs.Shown.Sheet.{Sheet}
use Rattle.aq_rules.specs.Shown.Sheets.{load_sheet}
use Rattle.aq_http.specs.declared.verb.Verb.{Verb}
use Rattle.aq_http.specs.Routes.{found}
use Rattle.aq_keeper.proofs.Telling.{stays_as}
use Rattle.aq_keeper.specs.Told.{Stays}
use Rattle.aq_keeper.proofs.TablesOfOffice.{become_same, become_still}
use Rattle.aq_serve.specs.Answered.{Answered, answered, refused, reply_of, shown, to_found, to_load}
use Rattle.aq_keeper.specs.Standing.{Become, Standing}
use Rattle.aq_serve.specs.Service.{Answers, Counts, Loses}
use Rattle.aq_office.specs.Posting.{IsPosted, LosesLoad, TakenBy}
use Rattle.aq_office.specs.Service.Replies.{AnswersBy, LosesBy, to_posted}
use Rattle.aq_office.specs.declared.posting.Posted.{Posted}
use Rattle.aq_office.specs.declared.posting.Posted.TheVariants as answers

-- ---- nothing changes

unchanged : (by : Bool → Answered) (close : Bool) (bytes : List ℕ) (view : Standing) → bytes ≡ reply_of (by false) close → view.office ≡ (by false).office → ((by false).status == 503) ≡ false → AnswersBy by close bytes view view
unchanged by close bytes view is office status = record {
  fails = false;
  reply = is;
  office = office;
  cause = subst (λ b. Counts b view.faults view.faults) (sym status) refl;
  tables = λ told. become_same view told;
}

nothing_lost : (by : Bool → Answered) (view : Standing) → LosesBy by view view
nothing_lost by view = record { cause = inl refl; tables = λ told. inl (become_same view told) }

-- ---- loads

module _ (number : ℕ) (before : Standing) where
  abbrev By : loads.Posted → Bool → Answered
  By p fails = to_load number before.office fails p

  -- the same office in other words
  becomes : (a b : Office) (after : Standing) → a ≡ b → Become before a after → Become before b after
  becomes a b after same is = stays_as _ _ after.tables (sym (ap (λ (o : Office). option_map (λ _. rows_of o) before.tables) same)) is

  -- where the answer is this one, and nothing changed
  as_before : (p : loads.Posted) (x : Posted) (close : Bool) (bytes : List ℕ) (after : Standing) (answer : Posted) → (answer ≡ x) × (after ≡ before)
      → bytes ≡ reply_of (to_posted answer number after.office) close
      → reply_of (to_posted x number after.office) close ≡ reply_of (By p false) close → before.office ≡ (By p false).office → ((By p false).status == 503) ≡ false
      → AnswersBy (By p) close bytes before after
  as_before p x close bytes after answer is reply same office status =
      subst (λ (a : Standing). AnswersBy (By p) close bytes before a) (sym is.1)
      (unchanged (By p) close bytes before (reply ∙ ap (λ (y : Posted). reply_of (to_posted y number after.office) close) is.0 ∙ same) office status)

  taken-by : (r : LoadReply) (now : Office) (close : Bool) (bytes : List ℕ) (after : Standing) (answer : Posted) → TakenBy answer r now before after
      → bytes ≡ reply_of (to_posted answer number after.office) close → AnswersBy (By (Taken r now)) close bytes before after
  taken-by r now close bytes after (answers.Done sheet) is reply = record {
    fails = false;
    reply = reply ∙ ap (λ (s : Sheet). reply_of (shown 200 s now) close) is.0;
    office = is.1;
    cause = is.2;
    tables = is.3;
  }
  taken-by r now close bytes after answers.Failed is reply = record {
    fails = true;
    reply = reply;
    office = is.0;
    cause = is.2;
    tables = λ told. becomes before.office after.office after (sym is.0) (become_still before after told is.1);
  }
  taken-by r now close bytes after (answers.Conflict kept sent) is reply = absurd is
  taken-by r now close bytes after answers.Full is reply = absurd is

  pub load_answered : (p : loads.Posted) (close : Bool) (bytes : List ℕ) (after : Standing) (answer : Posted) → IsPosted p before after answer
      → bytes ≡ reply_of (to_posted answer number after.office) close → AnswersBy (By p) close bytes before after
  load_answered TooManyLines close bytes after answer is reply = absurd is
  load_answered (Repeated kept) close bytes after answer is reply = as_before (Repeated kept) (answers.Done (load_sheet kept)) close bytes after answer is reply refl refl refl
  load_answered (Differing kept sent) close bytes after answer is reply = as_before (Differing kept sent) (answers.Conflict kept sent) close bytes after answer is reply refl refl refl
  load_answered NoRoom close bytes after answer is reply = as_before NoRoom answers.Full close bytes after answer is reply refl refl refl
  load_answered (Taken r now) close bytes after answer is reply = taken-by r now close bytes after answer is reply

  -- ---- want of memory

  lost-taken : (r : LoadReply) (now : Office) (after : Standing) (answer : Posted) → TakenBy answer r now before after → LosesBy (By (Taken r now)) before after
  lost-taken r now after (answers.Done sheet) is = record { cause = inl is.2; tables = λ told. inr (becomes after.office now after is.1 (is.3 told)) }
  lost-taken r now after answers.Failed is = record { cause = inr is.2; tables = λ told. inl (become_still before after told is.1) }
  lost-taken r now after (answers.Conflict kept sent) is = absurd is
  lost-taken r now after answers.Full is = absurd is

  lost-same : (p : loads.Posted) (after : Standing) → after ≡ before → LosesBy (By p) before after
  lost-same p after same = subst (λ (a : Standing). LosesBy (By p) before a) (sym same) (nothing_lost (By p) before)

  pub reply_lost : (p : loads.Posted) (after : Standing) (answer : Posted) → IsPosted p before after answer → LosesBy (By p) before after
  reply_lost TooManyLines after answer is = absurd is
  reply_lost (Repeated kept) after answer is = lost-same (Repeated kept) after is.1
  reply_lost (Differing kept sent) after answer is = lost-same (Differing kept sent) after is.1
  reply_lost NoRoom after answer is = lost-same NoRoom after is.1
  reply_lost (Taken r now) after answer is = lost-taken r now after answer is

-- the office before a post, by another name
pub posted_over : (o p : Office) → o ≡ p → (number : ℕ) (digest body : List ℕ) (tables : Option (List Row)) (faults : ℕ) (after : Standing) (answer : Posted)
    → IsPosted (posted o number digest body) (record { office = o; tables = tables; faults = faults }) after answer
    → IsPosted (posted p number digest body) (record { office = p; tables = tables; faults = faults }) after answer
posted_over o p same number digest body tables faults after answer is =
    subst (λ (o : Office). IsPosted (posted o number digest body) (record { office = o; tables = tables; faults = faults }) after answer) same is

-- a load of too many lines, which is refused as it comes
module _ (number : ℕ) (digest body : List ℕ) (view : Standing) (many : 120000 < line_count body) where
  pub too_many_answered : (close : Bool) (bytes : List ℕ) → bytes ≡ reply_of (refused 413 view.office) close
      → AnswersBy (λ fails. to_load number view.office fails (posted view.office number digest body)) close bytes view view
  too_many_answered close bytes reply =
      subst (λ (p : loads.Posted). AnswersBy (λ fails. to_load number view.office fails p) close bytes view view) (sym (posted-too_many view.office number digest body many))
      (unchanged (λ fails. to_load number view.office fails TooManyLines) close bytes view reply refl refl)

  pub too_many_lost : LosesBy (λ fails. to_load number view.office fails (posted view.office number digest body)) view view
  too_many_lost = nothing_lost (λ fails. to_load number view.office fails (posted view.office number digest body)) view

-- memory ran out as the load was posted, so that an office or nothing is left
posted-office : (number : ℕ) (office : Office) (p : loads.Posted) → office_after p office ≡ (to_load number office false p).office
posted-office number office TooManyLines = refl
posted-office number office (Repeated kept) = refl
posted-office number office (Differing kept sent) = refl
posted-office number office NoRoom = refl
posted-office number office (Taken answer now) = refl

pub post_lost : (number : ℕ) (digest body : List ℕ) (office left : Office) (t u : Option (List Row)) (m n : ℕ)
    → LosesLoad number digest body (record { office = office; tables = t; faults = m }) (record { office = office; tables = u; faults = n })
    → LosesBy (λ fails. to_load number office fails (posted office number digest body)) (record { office = office; tables = t; faults = m }) (record { office = left; tables = u; faults = n })
post_lost number digest body office left t u m n lost = record { cause = inl lost.faults; tables = λ told. by (lost.tables told) }
  where
    by : Stays (option_map (λ _. rows_of office) t) u ⊎ Stays (option_map (λ _. rows_of (post office number digest body)) t) u
        → Stays (option_map (λ _. rows_of office) t) u ⊎ Stays (option_map (λ _. rows_of (to_load number office false (posted office number digest body)).office) t) u
    by (inl same) = inl same
    by (inr taken) = inr (subst (λ (o : Office). Stays (option_map (λ _. rows_of o) t) u) (posted-office number office (posted office number digest body)) taken)

-- ---- whole requests

pub answers_found : (verb : Verb) (target body : List ℕ) (close : Bool) (bytes : List ℕ) (before after : Standing)
    → AnswersBy (to_found before.office (found verb target) body) close bytes before after → Answers verb target body close bytes before after
unfolding answered
answers_found verb target body close bytes before after is = record {
  fails = is.fails;
  reply = is.reply;
  office = is.office;
  cause = is.cause;
  tables = is.tables;
}

pub loses_found : (verb : Verb) (target body : List ℕ) (before after : Standing)
    → LosesBy (to_found before.office (found verb target) body) before after → Loses verb target body before after
unfolding answered
loses_found verb target body before after is = record { cause = is.cause; tables = is.tables }
