-- A load over the office of the tables.
use Rattle.std.proofs.Common.{◌≡◌, ℕ, ◌⊎◌, inl, inr, List, Option, refl, sym, subst, arith}
use Rattle.std.specs.Prelude.{Result, Ok, Err, IfErr, IsSome, IsErrAnd}
use Rattle.aq_keeper.proofs.Telling.{stays_still}
use Rattle.aq_keeper.specs.Told.{Stays, told_through}
use Rattle.std.specs.Option.{option_map}
use Rattle.sha2.specs.Sha256.{sha256}
use Rattle.aq_base.specs.Faults.{HasRisen}
use Rattle.aq_base.specs.declared.reply.LoadReply.{LoadReply}
use Rattle.aq_rules.specs.Kept.Rows.{Row, rows_of}
use Rattle.aq_rules.specs.Office.Load.{TooManyLines, Repeated, Differing, NoRoom, Taken, office_after, posted}
use Rattle.aq_rules.specs.Office.Load as loads
use Rattle.aq_rules.specs.Office.Office.{Office}
use Rattle.aq_rules.specs.Shown.Sheet.{Sheet, text_of}
use Rattle.aq_rules.specs.Shown.Sheets.{load_sheet}
use Rattle.aq_keeper.specs.Standing.{AreOfOffice, Become, Keeps, Standing}
use Rattle.aq_office.specs.Posting.{IsPosted, LosesLoad, TakenBy}
use Rattle.aq_office.specs.declared.posting.Posted as answers
use Rattle.aq_office.specs.declared.posting.Posted.TheVariants as answered
use Rattle.aq_desk.proofs.Opening.{over_opened, unopened_gives}
use Rattle.aq_desk.proofs.Tables.{become_through, cut_gives, keeps_opened, keeps_at_most_opened, of_opened, opened_still, printed_gives, stopped_gives, tells_before, tells_still, told_until}
use Rattle.aq_desk.proofs.Unread.{rises_at, stays_at_from, stopped_by}
use Rattle.aq_desk.specs.Command.{AtMostOpened, BecomeRows, Outcome, RisesAt, leaving, opened_rows, printed, unwritten}
use Rattle.aq_desk.specs.Command as commands
use Rattle.aq_desk.specs.Load.{IsTextOf, IsTextOfSheet, load_answer, posted_outcome}
use Rattle.aq_desk.specs.Office.{HasOpened, IsOpened, IsUnopened}
use Rattle.aq_outside.specs.Outside.{IsAll, OfTold}
use Rattle.aq_desk.specs.Stop.{Gives, IsUnprinted, ending_at, status_of}
use Rattle.aq_desk.specs.declared.stop.Stop.{Stop}
use Rattle.aq_desk.specs.declared.stop.Stop.TheVariants as stops

-- ---- the office is opened

load_opened : (number : ℕ) (body : List ℕ) (rows : List Row) (office : Office) → IsOpened rows office → load_answer number body rows ≡ posted_outcome number office body (posted office number (sha256 body) body)
unfolding load_answer
load_opened number body rows office opened =
    over_opened rows office (λ o. posted_outcome number o body (posted o number (sha256 body) body)) opened

pub unopened_load : (number : ℕ) (body : List ℕ) (before after : Option (List Row)) (m n : ℕ) (stop : Stop) (answer : Result (List ℕ) Stop) → IsErrAnd answer (λ why. why ≡ stop) → IsUnopened before after m n stop → OfTold (told_through before after) (λ rows. Gives (load_answer number body rows) answer before after)
unfolding load_answer
unopened_load number body before after m n stop answer is cause =
    unopened_gives before after m n stop (λ office. posted_outcome number office body (posted office number (sha256 body) body)) answer is cause

-- ---- what becomes of a load

-- the rows after it
rows-after : (number : ℕ) (body : List ℕ) (office : Office) (p : loads.Posted) → rows_of (office_after p office) ≡ (posted_outcome number office body p).rows
rows-after number body office TooManyLines = refl
rows-after number body office (Repeated kept) = refl
rows-after number body office (Differing kept sent) = refl
rows-after number body office NoRoom = refl
rows-after number body office (Taken reply now) = refl

-- ---- the text of its sheet

cut-keeps : (rows : List Row) (before after : Option (List Row)) → commands.Keeps rows 0 before after → commands.Keeps rows 7 before after
cut-keeps rows before after keeps = record {
  kept = λ kept. absurd (omega (arith, kept));
  unread = λ three. absurd (omega (arith, three));
  failed = λ five. absurd (omega (arith, five));
  one = keeps.one;
}

sheet-gives : (sheet made : Sheet) (rows : List Row) (answer : Result (List ℕ) Stop) (before after : Option (List Row)) → sheet ≡ made → IsTextOfSheet sheet answer → commands.Keeps rows 0 before after → Gives (leaving rows (printed (text_of made))) answer before after
sheet-gives sheet made rows answer before after same is keeps =
    subst (λ (s : Sheet). Gives (leaving rows (printed (text_of s))) answer before after) same (by answer is)
  where
    by : (r : Result (List ℕ) Stop) → IsTextOfSheet sheet r → Gives (leaving rows (printed (text_of sheet))) r before after
    by (Ok text) is = subst (λ (t : List ℕ). Gives (leaving rows (printed t)) (Ok text) before after) is (printed_gives rows before after text keeps)
    by (Err stop) is =
        let outcome = leaving rows (printed (text_of sheet)) in
        subst (λ (s : Stop). Gives outcome (Err s) before after) (sym is) (cut_gives outcome stops.Memory before after (λ kept. omega (arith, kept)) (cut-keeps rows before after keeps))

-- ---- and over the office that was opened: what its tables were at the start

module _ (number : ℕ) (rows : List Row) (body : List ℕ) (start : Option (List Row)) (before after : Standing) (told : IsAll (told_through start before.tables) rows) (are : rows_of before.office ≡ opened_rows rows) (opened : Stays (option_map opened_rows start) before.tables) where
  abbrev digest : List ℕ
  digest = sha256 body

  -- the tables are those of the office
  of-its-office : AreOfOffice before
  of-its-office = of_opened start before.tables rows before.office told are opened

  becomes : (office : Office) → Become before office after → BecomeRows (rows_of office) start after.tables
  becomes office become = become_through start before.tables after.tables (rows_of office) opened become

  taken-keeps : (now : Office) → after.office ≡ now → Keeps before after → commands.Keeps (rows_of now) 0 start after.tables
  taken-keeps now same keeps =
      let become = subst (λ (o : Office). BecomeRows (rows_of o) start after.tables) same (becomes after.office (keeps of-its-office)) in
      record { kept = λ _. become; unread = λ three. absurd (omega (arith, three)); failed = λ five. absurd (omega (arith, five)); one = inr become }

  -- if nothing changed
  same-text : (ans kind : answers.Posted) (answer : Result (List ℕ) Stop) → ans ≡ kind → IsTextOf ans number answer → IsTextOf kind number answer
  same-text ans kind answer is text = subst (λ (a : answers.Posted). IsTextOf a number answer) is text

  same-keeps : (status : ℕ) → (status ≡ 3 → ⊥) → after ≡ before → commands.Keeps (rows_of before.office) status start after.tables
  same-keeps status three is =
      subst (λ (v : Standing). commands.Keeps (rows_of before.office) status start v.tables) (sym is)
      (keeps_opened rows before.office status start before.tables three told are opened)

  stopped-gives : (stop : Stop) (answer : Result (List ℕ) Stop) → ((ending_at stop).status ≡ 3 → ⊥) → after ≡ before → answer ≡ Err stop → Gives (leaving (rows_of before.office) (unwritten (ending_at stop))) answer start after.tables
  stopped-gives stop answer three same is =
      let P = λ (r : Result (List ℕ) Stop). Gives (leaving (rows_of before.office) (unwritten (ending_at stop))) r start after.tables in
      subst P (sym is) (stopped_gives (rows_of before.office) start after.tables stop (same-keeps (ending_at stop).status three same))

  taken-gives : (ans : answers.Posted) (answer : Result (List ℕ) Stop) (made : LoadReply) (now : Office) → TakenBy ans made now before after → IsTextOf ans number answer → Gives (leaving (rows_of now) (printed (text_of (load_sheet made)))) answer start after.tables
  taken-gives (answered.Done sheet) answer made now taken text =
      sheet-gives sheet (load_sheet made) (rows_of now) answer start after.tables taken.0 text (taken-keeps now taken.1 taken.3)
  taken-gives answered.Failed answer made now taken text =
      let outcome = leaving (rows_of now) (printed (text_of (load_sheet made))) in
      let P = λ (r : Result (List ℕ) Stop). Gives outcome r start after.tables in
      subst P (sym text)
      (cut_gives outcome stops.KeeperFailed start after.tables (λ kept. omega (arith, kept))
      (keeps_at_most_opened (rows_of now) 5 start after.tables (λ kept. omega (arith, kept)) (λ three. omega (arith, three)) (inr (stays_still (option_map opened_rows start) before.tables after.tables opened taken.1))))
  taken-gives (answered.Conflict kept sent) answer made now taken text = absurd taken
  taken-gives answered.Full answer made now taken text = absurd taken

  pub posted_gives : (p : loads.Posted) (ans : answers.Posted) (answer : Result (List ℕ) Stop) → IsPosted p before after ans → IsTextOf ans number answer → Gives (posted_outcome number before.office body p) answer start after.tables
  posted_gives TooManyLines ans answer posted text = absurd posted
  posted_gives (Repeated made) ans answer posted text =
      sheet-gives (load_sheet made) (load_sheet made) (rows_of before.office) answer start after.tables refl (same-text ans (answered.Done (load_sheet made)) answer posted.0 text) (same-keeps 0 (λ three. omega (arith, three)) posted.1)
  posted_gives (Differing kept sent) ans answer posted text =
      stopped-gives (stops.Conflict number kept sent) answer (λ three. omega (arith, three)) posted.1 (same-text ans (answered.Conflict kept sent) answer posted.0 text)
  posted_gives NoRoom ans answer posted text = stopped-gives stops.LoadsFull answer (λ three. omega (arith, three)) posted.1 (same-text ans answered.Full answer posted.0 text)
  posted_gives (Taken made now) ans answer posted text = taken-gives ans answer made now posted text

  -- memory ran out: the tables are those of the office that was opened, or those with the load
  pub lost_gives : (answer : Result (List ℕ) Stop) → IsErrAnd answer (λ stop. stop ≡ stops.Memory) → LosesLoad number digest body before after → Gives (posted_outcome number before.office body (posted before.office number digest body)) answer start after.tables
  lost_gives answer is lost =
      let outcome = posted_outcome number before.office body (posted before.office number digest body) in
      let P = λ (r : Result (List ℕ) Stop). Gives outcome r start after.tables in
      subst P (sym (stopped_by answer stops.Memory is)) (record {
        text = tt;
        ending = λ whole. absurd (omega (arith, whole));
        nothing = λ _ whole. absurd (omega (arith, whole));
        tables = record {
          kept = λ kept. absurd (omega (arith, kept));
          unread = λ three. absurd (omega (arith, three));
          failed = λ five. absurd (omega (arith, five));
          one = one (lost.tables of-its-office);
        };
      })
    where
      one : Become before before.office after ⊎ Become before (loads.post before.office number digest body) after → AtMostOpened start after.tables ⊎ BecomeRows (posted_outcome number before.office body (posted before.office number digest body)).rows start after.tables
      one (inl same) = inl (inr (opened_still start before.tables after.tables rows before.office told are opened same))
      one (inr load) =
          inr (subst (λ (rs : List Row). BecomeRows rs start after.tables) (rows-after number body before.office (posted before.office number digest body)) (becomes (loads.post before.office number digest body) load))

-- ---- what is told to the end was told as the load was posted

module _ (before after : Standing) (its-own : AreOfOffice before) where
  become-tells : (office : Office) → Become before office after → IsSome after.tables → IsSome before.tables
  become-tells office become = tells_before (λ _. rows_of office) before.tables after.tables become

  same-tells : after ≡ before → IsSome after.tables → IsSome before.tables
  same-tells same = subst (λ (v : Standing). IsSome after.tables → IsSome v.tables) same (λ tells. tells)

  taken-tells : (ans : answers.Posted) (made : LoadReply) (now : Office) → TakenBy ans made now before after → IsSome after.tables → IsSome before.tables
  taken-tells (answered.Done sheet) made now taken = become-tells after.office (taken.3 its-own)
  taken-tells answered.Failed made now taken = tells_still before.tables after.tables taken.1
  taken-tells (answered.Conflict kept sent) made now taken = absurd taken
  taken-tells answered.Full made now taken = absurd taken

  posted-tells : (p : loads.Posted) (ans : answers.Posted) → IsPosted p before after ans → IsSome after.tables → IsSome before.tables
  posted-tells TooManyLines ans posted = absurd posted
  posted-tells (Repeated made) ans posted = same-tells posted.1
  posted-tells (Differing kept sent) ans posted = same-tells posted.1
  posted-tells NoRoom ans posted = same-tells posted.1
  posted-tells (Taken made now) ans posted = taken-tells ans made now posted

  lost-tells : (number : ℕ) (digest body : List ℕ) → LosesLoad number digest body before after → IsSome after.tables → IsSome before.tables
  lost-tells number digest body lost = by (lost.tables its-own)
    where
      by : Become before before.office after ⊎ Become before (loads.post before.office number digest body) after → IsSome after.tables → IsSome before.tables
      by (inl same) = become-tells before.office same
      by (inr load) = become-tells (loads.post before.office number digest body) load

-- ---- what it is answered with

-- the keeper failed, or it did not and the count is as before
abbrev IsCounted : answers.Posted → ℕ → ℕ → Type 0
IsCounted answered.Failed m n = HasRisen m n
IsCounted _ m n = n ≡ m

counted-same : (ans kind : answers.Posted) (before after : Standing) → (ans ≡ kind) × (after ≡ before) → IsCounted kind before.faults before.faults → IsCounted ans before.faults after.faults
counted-same ans kind before after is steady =
    let P = λ (a : answers.Posted). IsCounted a before.faults after.faults in
    let Q = λ (v : Standing). IsCounted kind before.faults v.faults in
    subst P (sym is.0) (subst Q (sym is.1) steady)

counted-taken : (ans : answers.Posted) (made : LoadReply) (now : Office) (before after : Standing) → TakenBy ans made now before after → IsCounted ans before.faults after.faults
counted-taken (answered.Done sheet) made now before after taken = taken.2
counted-taken answered.Failed made now before after taken = taken.2
counted-taken (answered.Conflict kept sent) made now before after taken = absurd taken
counted-taken answered.Full made now before after taken = absurd taken

is-counted : (p : loads.Posted) (ans : answers.Posted) (before after : Standing) → IsPosted p before after ans → IsCounted ans before.faults after.faults
is-counted TooManyLines ans before after posted = absurd posted
is-counted (Repeated made) ans before after posted = counted-same ans (answered.Done (load_sheet made)) before after posted refl
is-counted (Differing kept sent) ans before after posted = counted-same ans (answered.Conflict kept sent) before after posted refl
is-counted NoRoom ans before after posted = counted-same ans answered.Full before after posted refl
is-counted (Taken made now) ans before after posted = counted-taken ans made now before after posted

-- why a sheet has no text
sheet-unprinted : (sheet : Sheet) (answer : Result (List ℕ) Stop) → IsTextOfSheet sheet answer → IfErr answer IsUnprinted × (status_of answer ≡ 5 → ⊥)
sheet-unprinted sheet (Ok text) is = (tt, (λ five. omega (arith, five)))
sheet-unprinted sheet (Err stop) is =
    let P = λ (s : Stop). IsUnprinted s × ((ending_at s).status ≡ 5 → ⊥) in
    subst P (sym is) (grind arith, (λ five. omega (arith, five)))

pub text_unprinted : (ans : answers.Posted) (number : ℕ) (answer : Result (List ℕ) Stop) → IsTextOf ans number answer → IfErr answer IsUnprinted
text_unprinted (answered.Done sheet) number answer text = let both = sheet-unprinted sheet answer text in both.0
text_unprinted (answered.Conflict kept sent) number answer text = subst (λ (r : Result (List ℕ) Stop). IfErr r IsUnprinted) (sym text) (grind arith)
text_unprinted answered.Full number answer text = subst (λ (r : Result (List ℕ) Stop). IfErr r IsUnprinted) (sym text) (grind arith)
text_unprinted answered.Failed number answer text = subst (λ (r : Result (List ℕ) Stop). IfErr r IsUnprinted) (sym text) (grind arith)

stopped-rises : (stop : Stop) (answer : Result (List ℕ) Stop) (m n : ℕ) → answer ≡ Err stop → RisesAt 5 (ending_at stop).status m n → RisesAt 5 (status_of answer) m n
stopped-rises stop answer m n is rises = subst (λ (r : Result (List ℕ) Stop). RisesAt 5 (status_of r) m n) (sym is) rises

text-rises : (ans : answers.Posted) (number : ℕ) (answer : Result (List ℕ) Stop) (m n : ℕ) → IsTextOf ans number answer → IsCounted ans m n → RisesAt 5 (status_of answer) m n
text-rises (answered.Done sheet) number answer m n text same = let both = sheet-unprinted sheet answer text in stays_at_from 5 _ m n both.1 same
text-rises (answered.Conflict kept sent) number answer m n text same = stopped-rises (stops.Conflict number kept sent) answer m n text (stays_at_from 5 9 m n (λ five. omega (arith, five)) same)
text-rises answered.Full number answer m n text same = stopped-rises stops.LoadsFull answer m n text (stays_at_from 5 11 m n (λ five. omega (arith, five)) same)
text-rises answered.Failed number answer m n text risen = stopped-rises stops.KeeperFailed answer m n text (rises_at 5 m n risen)

-- ---- over the tables

module _ (number : ℕ) (body : List ℕ) (office now : Office) (between after : Option (List Row)) (m n : ℕ) where
  abbrev view : Standing
  view = record { office = office; tables = between; faults = m }

  abbrev later : Standing
  later = record { office = now; tables = after; faults = n }

  abbrev Posts : answers.Posted → Type 0
  Posts ans = IsPosted (posted office number (sha256 body) body) view later ans

  -- a fact over the rows of before
  over-load : (before : Option (List Row)) → HasOpened office before between → (answer : Result (List ℕ) Stop) → (AreOfOffice view → IsSome after → IsSome between)
      → ((rows : List Row) → IsAll (told_through before between) rows → rows_of office ≡ opened_rows rows → Gives (posted_outcome number office body (posted office number (sha256 body) body)) answer before after)
      → OfTold (told_through before after) (λ rows. Gives (load_answer number body rows) answer before after)
  over-load before has answer tells gives =
      let over = has.opened in
      let rows = over.all in
      let own = of_opened before between rows office over.is_all over.says.are_rows has.tables in
      let P = λ (o : Outcome). Gives o answer before after in
      record {
        all = rows;
        is_all = told_until before between after rows (tells own) over.is_all;
        says = subst P (sym (load_opened number body rows office over.says)) (gives rows over.is_all over.says.are_rows);
      }

  pub posted_over : (before : Option (List Row)) → HasOpened office before between → (ans : answers.Posted) (answer : Result (List ℕ) Stop) → Posts ans → IsTextOf ans number answer → OfTold (told_through before after) (λ rows. Gives (load_answer number body rows) answer before after)
  posted_over before has ans answer is text =
      let p = posted office number (sha256 body) body in
      over-load before has answer (λ own. posted-tells view later own p ans is)
      (λ rows told are. posted_gives number rows body before view later told are has.tables p ans answer is text)

  pub lost_over : (before : Option (List Row)) → HasOpened office before between → (answer : Result (List ℕ) Stop) → IsErrAnd answer (λ stop. stop ≡ stops.Memory) → LosesLoad number (sha256 body) body view later → OfTold (told_through before after) (λ rows. Gives (load_answer number body rows) answer before after)
  lost_over before has answer is lost =
      over-load before has answer (λ own. lost-tells view later own number (sha256 body) body lost)
      (λ rows told are. lost_gives number rows body before view later told are has.tables answer is lost)

  pub posted_rises : (ans : answers.Posted) (answer : Result (List ℕ) Stop) (k : ℕ) → m ≡ k → Posts ans → IsTextOf ans number answer → RisesAt 5 (status_of answer) k n
  posted_rises ans answer k steady is text =
      subst (λ (j : ℕ). RisesAt 5 (status_of answer) j n) steady
      (text-rises ans number answer m n text (is-counted (posted office number (sha256 body) body) ans view later is))
