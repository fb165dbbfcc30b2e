-- What a run says of its command.
use Rattle.std.proofs.Common.{◌≡◌, ℕ, Bool, false, List, [], Option, Some, None, refl, sym, ap, subst, inr, arith}
use Rattle.std.specs.Prelude.{◌↔◌, IsNone, Result, Ok, Err, IfSome}
use Rattle.std.proofs.lemmas.Bool.{false≢true}
use Rattle.aq_keeper.specs.Told.{KeeperView, told_through}
use Rattle.aq_rules.specs.Kept.Rows.{Row}
use Rattle.aq_desk.proofs.Fronts.{behind_nothing}
use Rattle.aq_desk.proofs.Outcomes.{nothing_written}
use Rattle.aq_desk.proofs.Serving.{serve_status}
use Rattle.aq_desk.proofs.Tables.{keeps_same, of_any, of_told, with_tables}
use Rattle.aq_desk.proofs.Unread.{stays_at}
use Rattle.aq_desk.specs.Command.{Follows, IsStatus, IsWhole, Outcome, Printout, RisesAt, Tells, leaving, message_for}
use Rattle.aq_desk.specs.Ending.{no_command}
use Rattle.aq_outside.specs.Door.{DoorView}
use Rattle.aq_outside.specs.Outside.{IsAll, OfTold, SinkView, SourceView}
use Rattle.aq_desk.specs.Run.{Acts, IsRun, KeeperRises, Runs, Surroundings, around_in, hosting_in, outcome_of, reads_input}
use Rattle.aq_desk.specs.Serve.{Around, HasServed, Hosting, serve_outcome}
use Rattle.aq_desk.specs.Simulate.{simulate_outcome}
use Rattle.aq_desk.specs.Stop.{EndsAs, IsMeasured, Obeys, Performs, ending_of, status_of}
use Rattle.aq_office.specs.declared.answers.Lack.TheVariants.{NoSite, NoEvent, NoCombination, NoSiteInArea, NoLoad}
use Rattle.aq_words.specs.declared.words.Command.{Command}
use Rattle.aq_words.specs.declared.words.Command.TheVariants.{Serve}
use Rattle.aq_desk.specs.declared.stop.Stop.{Stop}
use Rattle.aq_desk.specs.declared.stop.Stop.TheVariants.{InputFailed, OutputFailed, KeeperFailed, DoorFailed, Damaged, Memory, Conflict, TooManyBytes, TooManyLines, LoadsFull, Lacks, Refused}

whole-0 : IsWhole 0
whole-0 = grind arith

whole-6 : IsWhole 6
whole-6 = grind arith

whole-9 : IsWhole 9
whole-9 = grind arith

whole-10 : IsWhole 10
whole-10 = grind arith

whole-11 : IsWhole 11
whole-11 = grind arith

whole-12 : IsWhole 12
whole-12 = grind arith

whole-13 : IsWhole 13
whole-13 = grind arith

whole-14 : IsWhole 14
whole-14 = grind arith

whole-15 : IsWhole 15
whole-15 = grind arith

whole-16 : IsWhole 16
whole-16 = grind arith

whole-17 : IsWhole 17
whole-17 = grind arith

-- the message that was told is that of the status
message-is : (outcome : Outcome) (answer : Result Unit Stop) → EndsAs outcome answer → (ending_of answer).message ≡ message_for outcome (status_of answer)
message-is outcome (Ok nothing) ends = ap (λ ending. ending.message) (ends whole-0)
message-is outcome (Err InputFailed) ends = refl
message-is outcome (Err OutputFailed) ends = refl
message-is outcome (Err KeeperFailed) ends = refl
message-is outcome (Err DoorFailed) ends = refl
message-is outcome (Err (Damaged place)) ends = ap (λ ending. ending.message) (ends whole-6)
message-is outcome (Err Memory) ends = refl
message-is outcome (Err (Conflict number kept sent)) ends = ap (λ ending. ending.message) (ends whole-9)
message-is outcome (Err TooManyBytes) ends = ap (λ ending. ending.message) (ends whole-10)
message-is outcome (Err (TooManyLines lines)) ends = ap (λ ending. ending.message) (ends whole-10)
message-is outcome (Err LoadsFull) ends = ap (λ ending. ending.message) (ends whole-11)
message-is outcome (Err (Lacks (NoSite site))) ends = ap (λ ending. ending.message) (ends whole-12)
message-is outcome (Err (Lacks (NoEvent number))) ends = ap (λ ending. ending.message) (ends whole-13)
message-is outcome (Err (Lacks (NoCombination site))) ends = ap (λ ending. ending.message) (ends whole-14)
message-is outcome (Err (Lacks NoSiteInArea)) ends = ap (λ ending. ending.message) (ends whole-15)
message-is outcome (Err (Lacks (NoLoad number))) ends = ap (λ ending. ending.message) (ends whole-16)
message-is outcome (Err (Refused line rule)) ends = ap (λ ending. ending.message) (ends whole-17)

performs_follows : (outcome : Outcome) (answer : Result Unit Stop) (before after : SinkView) (tables_before tables_after : Option (List Row)) → Performs outcome answer before after tables_before tables_after → Follows outcome (status_of answer) before after tables_before tables_after
performs_follows outcome answer before after tables_before tables_after performs = record {
  answered = λ whole. ap (λ ending. ending.status) (performs.obeys.ending whole);
  whole = performs.obeys.whole;
  front = performs.obeys.front;
  written = performs.obeys.written;
  tables = performs.tables;
}

-- ---- what each command does

-- a command that prints
module _ (command kind : Command) (is : command ≡ kind) (none : hosting_in kind ≡ None) (answer : Result Unit Stop) (left : Option (List ℕ)) (output_before output_after : SinkView) (before after : Around) where
  pub printing : OfTold (told_through before.tables after.tables) (λ rows. OfTold left (λ body. Performs (outcome_of kind rows body) answer output_before output_after before.tables after.tables × IsMeasured (reads_input kind) body (status_of answer)))
      → Acts command answer left output_before output_after before after
  printing over =
      let P = λ (c : Command). Acts c answer left output_before output_after before after in
      let both = over.says.says in
      subst P (sym is) (record {
        rows = over.all;
        body = over.says.all;
        are_told = over.is_all;
        is_told = over.says.is_all;
        performs = λ _. both.0;
        serves = subst (λ (n : Option Hosting). IfSome n (λ asked. HasServed asked over.all (status_of answer) before after)) (sym none) tt;
        ends = both.0.obeys.ending;
        measured = both.1;
      })

-- one that serves: it does not read its input
pub serving : (command : Command) (port connections : ℕ) → command ≡ Serve port connections → (answer : Result Unit Stop) (left : Option (List ℕ)) (output_before output_after : SinkView) (before after : Around)
    → OfTold (told_through before.tables after.tables) (λ rows. HasServed (record { port = port; connections = connections }) rows (status_of answer) before after × EndsAs (serve_outcome rows) answer)
    → Acts command answer left output_before output_after before after
serving command port connections is answer left output_before output_after before after over =
    let P = λ (c : Command). Acts c answer left output_before output_after before after in
    let input : OfTold left (λ _. Unit {0}) = of_any left (λ _. Unit {0}) (λ _. tt) in
    subst P (sym is) (record {
      rows = over.all;
      body = input.all;
      are_told = over.is_all;
      is_told = input.is_all;
      performs = λ none. absurd (false≢true (sym none));
      serves = over.says.0;
      ends = over.says.1;
      measured = record { too_many = λ ten. absurd (omega (arith, ten, serve_status (record { port = port; connections = connections }) over.all (status_of answer) before after over.says.0)); whole = λ reads _. absurd (false≢true reads) };
    })

-- a command that reads its input, and one that does not
pub without_keeper : (printout : List ℕ → Printout) (reads : Bool) (left : Option (List ℕ)) (answer : Result Unit Stop) (before after : SinkView) (tables : Option (List Row))
    → OfTold left (λ body. Obeys (printout body) answer before after × IsMeasured reads body (status_of answer))
    → OfTold (told_through tables tables) (λ rows. OfTold left (λ body. Performs (leaving rows (printout body)) answer before after tables tables × IsMeasured reads body (status_of answer)))
without_keeper printout reads left answer before after tables over =
    let both = over.says in
    of_told (told_through tables tables) (λ rows. OfTold left (λ body. Performs (leaving rows (printout body)) answer before after tables tables × IsMeasured reads body (status_of answer))) (λ rows told.
    record { all = over.all; is_all = over.is_all; says = (with_tables rows (printout over.all) answer before after tables told both.0, both.1) })

unmeasured : (body : List ℕ) (status : ℕ) → (status ≡ 10 → ⊥) → IsMeasured false body status
unmeasured body status other = record { too_many = λ ten. absurd (other ten); whole = λ reads _. absurd (false≢true reads) }

pub simulate_over : (start sites years : ℕ) (left : Option (List ℕ)) (tables : Option (List Row)) (answer : Result Unit Stop) (before after : SinkView) → (status_of answer ≡ 10 → ⊥) → Obeys (simulate_outcome start sites years) answer before after
    → OfTold (told_through tables tables) (λ rows. OfTold left (λ body. Performs (leaving rows (simulate_outcome start sites years)) answer before after tables tables × IsMeasured false body (status_of answer)))
simulate_over start sites years left tables answer before after other obeys =
    without_keeper (λ _. simulate_outcome start sites years) false left answer before after tables
    (of_any left (λ body. Obeys (simulate_outcome start sites years) answer before after × IsMeasured false body (status_of answer)) (λ body. (obeys, unmeasured body (status_of answer) other)))

pub without_reading : (outcome : List Row → Outcome) (left : Option (List ℕ)) (answer : Result Unit Stop) (before after : SinkView) (tables_before tables_after : Option (List Row)) → (status_of answer ≡ 10 → ⊥)
    → OfTold (told_through tables_before tables_after) (λ rows. Performs (outcome rows) answer before after tables_before tables_after)
    → OfTold (told_through tables_before tables_after) (λ rows. OfTold left (λ body. Performs (outcome rows) answer before after tables_before tables_after × IsMeasured false body (status_of answer)))
without_reading outcome left answer before after tables_before tables_after other over = record {
  all = over.all;
  is_all = over.is_all;
  says = of_any left (λ body. Performs (outcome over.all) answer before after tables_before tables_after × IsMeasured false body (status_of answer)) (λ body. (over.says, unmeasured body (status_of answer) other));
}

pub keeper_kind : (command kind : Command) → command ≡ kind → (status m n : ℕ) → KeeperRises (hosting_in kind) status m n → KeeperRises (hosting_in command) status m n
keeper_kind command kind is status m n rises =
    let P = λ (c : Command). KeeperRises (hosting_in c) status m n in
    subst P (sym is) rises

-- the count of a keeper that serves nobody
pub keeper_rises : (asked : Option Hosting) (status m n : ℕ) → RisesAt 5 status m n → KeeperRises asked status m n
keeper_rises asked status m n rises = record { rises = rises.rises; stays = λ _. rises.stays }

-- ---- a run of the command that the words name

module _ (command : Command) (found : Option Command) (answer : Result Unit Stop) (status : ℕ) (same : Some command ≡ found) (is : status ≡ status_of answer) where
  pub runs : (before after : Surroundings) → Acts command answer before.input.left before.output after.output (around_in before) (around_in after) → Tells (ending_of answer).message before.errors after.errors → Runs found status before after
  runs before after acts tells =
      let P = λ (c : Option Command). Runs c status before after in
      let Q = λ (s : ℕ). Runs (Some command) s before after in
      let R = λ (message : List ℕ). Tells message before.errors after.errors in
      let outcome = outcome_of command acts.rows acts.body in
      subst P same (subst Q (sym is) (record {
        rows = acts.rows;
        body = acts.body;
        are_told = acts.are_told;
        is_told = acts.is_told;
        prints = λ none. performs_follows outcome answer before.output after.output before.keeper.tables after.keeper.tables (acts.performs none);
        serves = acts.serves;
        tells = subst R (message-is outcome answer acts.ends) tells;
        measured = acts.measured;
      }))

  pub is_run : {K D S O : Type 0} (before after : Surroundings) (keeper later_keeper : K) (door later_door : D) (input later_input : S) (output later_output : O)
      → IsRun (Some command) (status_of answer) before after keeper later_keeper door later_door input later_input output later_output
      → IsRun found status before after keeper later_keeper door later_door input later_input output later_output
  is_run before after keeper later_keeper door later_door input later_input output later_output run =
      let P = λ (c : Option Command). IsRun c status before after keeper later_keeper door later_door input later_input output later_output in
      let Q = λ (s : ℕ). IsRun (Some command) s before after keeper later_keeper door later_door input later_input output later_output in
      subst P same (subst Q (sym is) run)

-- and of words that name none
module _ (door : DoorView) (keeper : KeeperView) (input : SourceView) (output errors told : SinkView) where
  abbrev with_errors : SinkView → Surroundings
  with_errors written = record { door = door; keeper = keeper; input = input; output = output; errors = written }

  none_runs : Tells no_command.message errors told → Runs None 2 (with_errors errors) (with_errors told)
  none_runs tells =
      let tables : OfTold (told_through keeper.tables keeper.tables) (λ rows. IsAll (told_through keeper.tables keeper.tables) rows) = of_told (told_through keeper.tables keeper.tables) (λ rows. IsAll (told_through keeper.tables keeper.tables) rows) (λ rows told. told) in
      let read : OfTold input.left (λ _. Unit {0}) = of_any input.left (λ _. Unit {0}) (λ _. tt) in
      record {
        rows = tables.all;
        body = read.all;
        are_told = tables.is_all;
        is_told = read.is_all;
        prints = λ _. record {
          answered = λ _. refl;
          whole = λ _. sym (behind_nothing output.written);
          front = nothing_written output.written [];
          written = λ four. absurd (omega (arith, four));
          tables = keeps_same tables.all 2 keeper.tables tables.is_all;
        };
        serves = tt;
        tells = tells;
        measured = unmeasured read.all 2 (λ ten. omega (arith, ten));
      }

  pub no_run : {K D S O : Type 0} (found : Option Command) (kept : K) (hosted : D) (read : S) (written : O) → None ≡ found → Tells no_command.message errors told
      → IsRun found 2 (with_errors errors) (with_errors told) kept kept hosted hosted read read written written
  no_run found kept hosted read written same tells =
      let P = λ (c : Option Command). IsRun c 2 (with_errors errors) (with_errors told) kept kept hosted hosted read read written written in
      subst P same (record {
        headline = none_runs tells;
        reasons = record {
          statuses = grind arith;
          no_command = ((λ _. refl), (λ _. refl));
          input_failed = stays_at 3 2 input.faults (λ three. omega (arith, three));
          output_failed = stays_at 4 2 output.faults (λ four. omega (arith, four));
          keeper_failed = keeper_rises None 2 keeper.faults keeper.faults (stays_at 5 2 keeper.faults (λ five. omega (arith, five)));
          door_failed = stays_at 8 2 door.accepts (λ eight. omega (arith, eight));
          only_serve = λ eight. absurd (omega (arith, eight));
          read = λ uses. absurd (false≢true uses);
          only_migrates = λ asks. absurd (false≢true asks);
        };
        silent = λ _. refl;
        gone = λ uses. absurd (false≢true uses);
        unused_input = λ _. refl;
        unused_keeper = λ _. refl;
        unused_output = λ _. refl;
        unused_door = λ _. refl;
      })

-- ---- what a status may be

-- none is that of words that are no command
status-is : (answer : Result Unit Stop) → IsStatus (status_of answer) × (status_of answer ≡ 2 → ⊥)
status-is (Ok nothing) = (grind arith, (λ two. omega (arith, two)))
status-is (Err (Lacks (NoSite site))) = (grind arith, (λ two. omega (arith, two)))
status-is (Err (Lacks _)) = (grind arith, (λ two. omega (arith, two)))
status-is (Err _) = (grind arith, (λ two. omega (arith, two)))

pub is_status : (answer : Result Unit Stop) → IsStatus (status_of answer)
is_status answer = let both = status-is answer in both.0

pub names_command : (command : Command) (answer : Result Unit Stop) → (status_of answer ≡ 2) ↔ IsNone (Some command)
names_command command answer = let both = status-is answer in ((λ two. absurd (both.1 two)), (λ none. absurd (false≢true (sym none))))

pub tells_nothing : (errors : SinkView) → Tells [] errors errors
tells_nothing errors = record { front = nothing_written errors.written []; whole = inr (sym (behind_nothing errors.written)) }
