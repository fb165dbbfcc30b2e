-- An answer that is printed, and one over the office of the tables.
use Rattle.std.proofs.Common.{◌≡◌, ℕ, ◌⊎◌, inl, inr, Bool, true, false, refl, List, Option, sym, ap, subst, ◌∙◌, arith}
use Rattle.std.specs.Prelude.{Result, Ok, Err, IfErr, IfOk, IsErrAnd, if◌then◌else◌}
use Rattle.aq_base.specs.Site.{Site}
use Rattle.aq_base.specs.declared.question.Question.{Question}
use Rattle.aq_base.specs.declared.question.Question.TheVariants.{Windows}
use Rattle.aq_keeper.specs.Told.{told_through}
use Rattle.aq_office.specs.Answers.{lack_of, seen}
use Rattle.aq_office.specs.declared.answers.Answer as answers
use Rattle.aq_office.specs.declared.answers.Lack.{Lack}
use Rattle.aq_office.specs.declared.answers.Lack.TheVariants as lack
use Rattle.aq_rules.specs.Kept.Rows.{Row, rows_of}
use Rattle.aq_rules.specs.Office.Office.{Office}
use Rattle.aq_rules.specs.Questions.Answer.{Lacks, NoSite, answer, is_registered, of_sheet}
use Rattle.aq_rules.specs.Shown.Sheets.{windows_answer}
use Rattle.aq_desk.proofs.Opening.{over_opened, unopened_gives}
use Rattle.aq_desk.proofs.Outcomes.{without_memory, writes_nothing}
use Rattle.aq_desk.proofs.Tables.{cut_gives, keeps_opened, printed_gives, stopped_gives}
use Rattle.aq_desk.proofs.Unread.{stopped_by}
use Rattle.aq_desk.specs.Ask.{IsUnanswered, answered, ask_outcome, ask_printout, lacking}
use Rattle.aq_desk.specs.Command.{Keeps, Outcome, Printout, leaving, printed}
use Rattle.aq_desk.specs.Office.{HasOpened, IsOpened, IsUnopened}
use Rattle.aq_outside.specs.Outside.{OfTold, SinkView}
use Rattle.aq_desk.specs.Stop.{Gives, IsTaken, IsUnprinted, Obeys, ending_at, status_of}
use Rattle.aq_desk.specs.declared.stop.Stop.{Stop}
use Rattle.aq_desk.specs.declared.stop.Stop.TheVariants as stops

-- ---- why there is none

-- the statuses of what is missing
abbrev IsLacking : ℕ → Type 0
IsLacking status = (status ≡ 12) ⊎ (status ≡ 13) ⊎ (status ≡ 14) ⊎ (status ≡ 15) ⊎ (status ≡ 16)

lacks-status : (what : Lack) → IsLacking (lacking (lack_of what)).status
lacks-status (lack.NoSite site) = inl refl
lacks-status (lack.NoEvent number) = inr (inl refl)
lacks-status (lack.NoCombination site) = inr (inr (inl refl))
lacks-status lack.NoSiteInArea = inr (inr (inr (inl refl)))
lacks-status (lack.NoLoad number) = inr (inr (inr (inr refl)))

-- ---- an answer that was found

pub of_answer : (P : Printout → Type 0) (question : Question) (office : Office) (found : answers.Answer) → answer office question ≡ seen found → P (answered (seen found)) → P (ask_printout question office)
unfolding ask_printout
of_answer P question office found is holds = subst P (ap answered (sym is)) holds

-- ---- and over the tables

ask_opened : (printout : Office → Printout) (rows : List Row) (office : Office) → IsOpened rows office → ask_outcome printout rows ≡ leaving (rows_of office) (printout office)
unfolding ask_outcome
ask_opened printout rows office opened = over_opened rows office (λ o. leaving (rows_of o) (printout o)) opened

module _ (printout : Office → Printout) (answer : Result (List ℕ) Stop) (before after : Option (List Row)) where
  pub unopened_ask : (m n : ℕ) (stop : Stop) → IsErrAnd answer (λ why. why ≡ stop) → IsUnopened before after m n stop → OfTold (told_through before after) (λ rows. Gives (ask_outcome printout rows) answer before after)
  unfolding ask_outcome
  unopened_ask m n stop is cause = unopened_gives before after m n stop (λ office. leaving (rows_of office) (printout office)) answer is cause

module _ (rows : List Row) (before after : Option (List Row)) (keeps : (status : ℕ) → (status ≡ 3 → ⊥) → Keeps rows status before after) where
  unanswered-gives : (printout : Printout) (stop : Stop) → IsUnanswered printout stop → Gives (leaving rows printout) (Err stop) before after
  unanswered-gives printout stops.Memory cause = cut_gives (leaving rows printout) stops.Memory before after (λ kept. omega (arith, kept)) (keeps 7 (λ three. omega (arith, three)))
  unanswered-gives printout (stops.Lacks what) cause =
      let P = λ (p : Printout). Gives (leaving rows p) (Err (stops.Lacks what)) before after in
      subst P (sym cause) (stopped_gives rows before after (stops.Lacks what) (keeps (ending_at (stops.Lacks what)).status (λ three. omega (arith, three, lacks-status what))))
  unanswered-gives printout (stops.Refused line rule) cause =
      let P = λ (p : Printout). Gives (leaving rows p) (Err (stops.Refused line rule)) before after in
      subst P (sym cause) (stopped_gives rows before after (stops.Refused line rule) (keeps 17 (λ three. omega (arith, three))))
  unanswered-gives printout _ cause = absurd cause

  answered-gives : (printout : Printout) (answer : Result (List ℕ) Stop) → IfOk answer (λ text. printout ≡ printed text) → IfErr answer (IsUnanswered printout) → Gives (leaving rows printout) answer before after
  answered-gives printout (Ok text) is refused =
      let P = λ (p : Printout). Gives (leaving rows p) (Ok text) before after in
      subst P (sym is) (printed_gives rows before after text (keeps 0 (λ three. omega (arith, three))))
  answered-gives printout (Err stop) is refused = unanswered-gives printout stop refused

module _ (printout : Office → Printout) (office : Office) (answer : Result (List ℕ) Stop) (before after : Option (List Row)) where
  pub answered_over : HasOpened office before after → IfOk answer (λ text. printout office ≡ printed text) → IfErr answer (IsUnanswered (printout office))
      → OfTold (told_through before after) (λ rows. Gives (ask_outcome printout rows) answer before after)
  answered_over has text refused =
      let over = has.opened in
      let P = λ (o : Outcome). Gives o answer before after in
      record {
        all = over.all;
        is_all = over.is_all;
        says = subst P (sym (ask_opened printout over.all office over.says))
            (answered-gives (rows_of office) before after (λ status three. keeps_opened over.all office status before after three over.is_all over.says.are_rows has.tables) (printout office) answer text refused);
      }

-- memory ran out before there was one
pub memory_unanswered : {A : Type 0} (printout : Printout) (answer : Result A Stop) → IsErrAnd answer (λ why. why ≡ stops.Memory) → IfErr answer (IsUnanswered printout)
memory_unanswered printout answer is = subst (λ r. IfErr r (IsUnanswered printout)) (sym (stopped_by answer stops.Memory is)) tt

unanswered-unprinted : (printout : Printout) (stop : Stop) → IsUnanswered printout stop → IsUnprinted stop × ((ending_at stop).status ≡ 5 → ⊥)
unanswered-unprinted printout stops.Memory cause = (grind arith, (λ five. omega (arith, five)))
unanswered-unprinted printout (stops.Lacks what) cause = let is = lacks-status what in (grind arith, (λ five. omega (arith, five, is)))
unanswered-unprinted printout (stops.Refused line rule) cause = (grind arith, (λ five. omega (arith, five)))
unanswered-unprinted printout _ cause = absurd cause

pub answered_unprinted : (printout : Printout) (answer : Result (List ℕ) Stop) → IfErr answer (IsUnanswered printout) → IfErr answer IsUnprinted
answered_unprinted printout (Ok text) refused = tt
answered_unprinted printout (Err stop) refused = let both = unanswered-unprinted printout stop refused in both.0

pub answered_status : (printout : Printout) (answer : Result (List ℕ) Stop) → IfErr answer (IsUnanswered printout) → status_of answer ≡ 5 → ⊥
answered_status printout (Ok text) refused = λ five. omega (arith, five)
answered_status printout (Err stop) refused = let both = unanswered-unprinted printout stop refused in both.1

-- ---- and of the windows of a site, without the tables

-- nothing is printed
unanswered-obeys : (printout : Printout) (stop : Stop) (output : SinkView) → IsUnanswered printout stop → Obeys printout (Err stop) output output
unanswered-obeys printout stops.Memory output cause = without_memory printout stops.Memory output refl
unanswered-obeys printout (stops.Lacks what) output cause =
    let P = λ (p : Printout). Obeys p (Err (stops.Lacks what)) output output in
    subst P (sym cause) (writes_nothing (ending_at (stops.Lacks what)) (Err (stops.Lacks what)) output refl (λ four. omega (arith, four, lacks-status what)))
unanswered-obeys printout (stops.Refused line rule) output cause =
    let P = λ (p : Printout). Obeys p (Err (stops.Refused line rule)) output output in
    subst P (sym cause) (writes_nothing (ending_at (stops.Refused line rule)) (Err (stops.Refused line rule)) output refl (λ four. omega (arith, four)))
unanswered-obeys printout _ output cause = absurd cause

pub unanswered_obeys : (printout : Printout) (stop : Stop) (answer : Result Unit Stop) (output : SinkView) → IsErrAnd answer (λ why. why ≡ stop) → IsUnanswered printout stop → Obeys printout answer output output
unanswered_obeys printout stop answer output is cause =
    let P = λ (r : Result Unit Stop). Obeys printout r output output in
    subst P (sym (stopped_by answer stop is)) (unanswered-obeys printout stop output cause)

-- the site is registered, or that is what is missing
windows-status : (office : Office) (site : Site) (day : ℕ) → ((ask_printout (Windows site day) office).ending.status ≡ 0) ⊎ ((ask_printout (Windows site day) office).ending.status ≡ 12)
unfolding ask_printout answer
windows-status office site day = by (is_registered office site)
  where
    by : (there : Bool) → let found = answered (if there then of_sheet (windows_answer office site day) else Lacks (NoSite site)) in (found.ending.status ≡ 0) ⊎ (found.ending.status ≡ 12)
    by true = inl refl
    by false = inr refl

unanswered-windows : (printout : Printout) (stop : Stop) → IsUnanswered printout stop → (printout.ending.status ≡ 0) ⊎ (printout.ending.status ≡ 12) → IsTaken (ending_at stop).status
unanswered-windows printout stops.Memory cause one = grind arith
unanswered-windows printout (stops.Lacks what) cause one =
    let is : printout.ending.status ≡ (ending_at (stops.Lacks what)).status = ap (λ (p : Printout). p.ending.status) cause in
    let far = lacks-status what in
    grind arith
unanswered-windows printout (stops.Refused line rule) cause one =
    let is : printout.ending.status ≡ 17 = ap (λ (p : Printout). p.ending.status) cause in
    absurd (omega (arith, is, one))
unanswered-windows printout _ cause one = absurd cause

pub windows_taken : (office : Office) (site : Site) (day : ℕ) (stop : Stop) (answer : Result Unit Stop) → IsErrAnd answer (λ why. why ≡ stop) → IsUnanswered (ask_printout (Windows site day) office) stop → IsTaken (status_of answer)
windows_taken office site day stop answer is cause =
    let P = λ (r : Result Unit Stop). IsTaken (status_of r) in
    subst P (sym (stopped_by answer stop is)) (unanswered-windows (ask_printout (Windows site day) office) stop cause (windows-status office site day))

pub answered_obeys : (printout : Printout) (text shown : List ℕ) (answer : Result Unit Stop) (before after : SinkView) → printout ≡ printed text → shown ≡ text → Obeys (printed shown) answer before after → Obeys printout answer before after
answered_obeys printout text shown answer before after is same obeys =
    let P = λ (p : Printout). Obeys p answer before after in
    subst P (ap printed same ∙ sym is) obeys
