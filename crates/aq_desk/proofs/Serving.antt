-- Connections that are served over the office of the tables.
use Rattle.std.proofs.Common.{◌≡◌, ℕ, ◌⊎◌, inl, inr, List, ◌++◌, Option, Some, None, refl, sym, ap, subst, ◌∙◌, arith}
use Rattle.std.specs.Prelude.{Result, Ok, Err, IfSome, IsErrAnd, IsSome}
use Rattle.std.specs.Option.{option_map}
use Rattle.aq_keeper.proofs.Telling.{exact}
use Rattle.aq_keeper.specs.Told.{Stays, told_through}
use Rattle.aq_rules.specs.Kept.Migration.{opening_damage}
use Rattle.aq_rules.specs.Kept.Rows.{Place, Row, rows_of}
use Rattle.aq_rules.specs.Office.Office.{Office}
use Rattle.aq_outside.specs.Door.{DoorView}
use Rattle.aq_keeper.specs.Standing.{AreOfOffice, Become, Standing}
use Rattle.aq_serve.specs.Serving.{Serves, World, office_left}
use Rattle.aq_serve.specs.Session.{office_behind}
use Rattle.aq_serve.specs.declared.ending.ServeFault.{ServeFault}
use Rattle.aq_serve.specs.declared.ending.ServeFault.TheVariants as faults
use Rattle.aq_desk.proofs.Opening.{over_damaged, over_opened}
use Rattle.aq_desk.proofs.Tables.{of_any, of_opened, tells_before, told_until}
use Rattle.aq_desk.proofs.Unread.{stays_at_from, stopped_by}
use Rattle.aq_desk.specs.Command.{AtMostOpened, IsWhole, Outcome, RisesAt, leaving, opened_rows, unwritten}
use Rattle.aq_desk.specs.Ending.{damaged, done}
use Rattle.aq_desk.specs.Office.{HasOpened, IsOpened, IsUnopened}
use Rattle.aq_outside.specs.Outside.{IsAll, OfTold}
use Rattle.aq_desk.specs.Run.{KeeperRises}
use Rattle.aq_desk.specs.Serve.{Around, CannotListen, HasAttended, HasListened, HasServed, IsServed, IsUnserved, Hosting, holding, serve_outcome, serving, status_served, stop_served}
use Rattle.aq_desk.specs.Stop.{EndsAs, ending_of, status_of}
use Rattle.aq_desk.specs.declared.stop.Stop.{Stop}
use Rattle.aq_desk.specs.declared.stop.Stop.TheVariants.{KeeperFailed, Damaged, Memory}

-- ---- no connection was accepted

-- the ending is that of the definition, if the rows cannot be opened
damaged-ends : (rows : List Row) (place : Place) → opening_damage rows ≡ Some place → damaged place ≡ (serve_outcome rows).ending
unfolding serve_outcome
damaged-ends rows place found = ap (λ (o : Outcome). o.ending) (sym (over_damaged rows place (λ office. leaving (rows_of office) (unwritten done)) found))

module _ (before after : Around) (door : after.door ≡ before.door) where
  -- for any cause but the door's
  unserved : (rows : List Row) (status : ℕ) → (status ≡ 5) ⊎ (status ≡ 6) ⊎ (status ≡ 7) → (status ≡ 6 → opening_damage rows ≡ None → ⊥)
      → ((status ≡ 5) ⊎ (status ≡ 6) → Stays before.tables after.tables) → AtMostOpened before.tables after.tables → RisesAt 5 status before.faults after.faults → IsUnserved rows status before after
  unserved rows status is damaged unopened tables rises = record {
    ended = grind (arith, is);
    damaged = damaged;
    undamaged = λ eight. absurd (omega (arith, eight, is));
    wire = ap (λ (d : DoorView). d.wire) door;
    unopened = unopened;
    opened = λ eight. absurd (omega (arith, eight, is));
    tables = tables;
    faults = rises;
    accepts = stays_at_from 8 status _ _ (λ eight. omega (arith, eight, is)) (ap (λ (d : DoorView). d.accepts) door);
    reads = ap (λ (d : DoorView). d.reads) door;
    writes = ap (λ (d : DoorView). d.writes) door;
  }

  -- for want of memory
  unremembered : (rows : List Row) → AtMostOpened before.tables after.tables → after.faults ≡ before.faults → IsUnserved rows 7 before after
  unremembered rows tables steady =
      unserved rows 7 (inr (inr refl)) (λ six. absurd (omega (arith, six))) (λ either. absurd (omega (arith, either))) tables (stays_at_from 5 7 _ _ (λ five. omega (arith, five)) steady)

  -- with the ending of the definition
  abbrev Ends : Hosting → Result Unit Stop → List Row → Type 0
  Ends n answer rows = HasServed n rows (status_of answer) before after × EndsAs (serve_outcome rows) answer

  unopened-served : (n : Hosting) (stop : Stop) → IsUnopened before.tables after.tables before.faults after.faults stop → OfTold (told_through before.tables after.tables) (Ends n (Err stop))
  unopened-served n KeeperFailed cause =
      of_any (told_through before.tables after.tables) (Ends n (Err KeeperFailed)) (λ rows. (
        inl (unserved rows 5 (inl refl) (λ six. absurd (omega (arith, six))) (λ _. cause.0) (inl cause.0) (record { rises = λ _. cause.1; stays = λ other. absurd (other refl) })),
        (λ whole. absurd (omega (arith, whole))),
      ))
  unopened-served n Memory cause =
      of_any (told_through before.tables after.tables) (Ends n (Err Memory)) (λ rows. (inl (unremembered rows cause.0 cause.1), (λ whole. absurd (omega (arith, whole)))))
  unopened-served n (Damaged place) cause = record {
    all = cause.2.all;
    is_all = cause.2.is_all;
    says = (
      inl (unserved cause.2.all 6 (inr (inl refl)) (λ _ none. absurd (some-none _ (sym cause.2.says ∙ none))) (λ _. cause.0) (inl cause.0) (stays_at_from 5 6 _ _ (λ five. omega (arith, five)) cause.1)),
      (λ _. damaged-ends cause.2.all (record { table = place.table; index = place.index }) cause.2.says),
    );
  }
    where
      some-none : {A : Type 0} (a : A) → Some a ≡ None → ⊥
      some-none a is = absurd (cc)
  unopened-served n _ cause = absurd cause

  pub unopened_served : (n : Hosting) (stop : Stop) (answer : Result Unit Stop) → IsErrAnd answer (λ why. why ≡ stop) → IsUnopened before.tables after.tables before.faults after.faults stop → OfTold (told_through before.tables after.tables) (Ends n answer)
  unopened_served n stop answer is cause =
      let P = λ (r : Result Unit Stop). OfTold (told_through before.tables after.tables) (Ends n r) in
      subst P (sym (stopped_by answer stop is)) (unopened-served n stop cause)

  -- nor was memory for the routes
  pub unrouted_served : (n : Hosting) (answer : Result Unit Stop) (office : Office) → IsErrAnd answer (λ why. why ≡ Memory) → HasOpened office before.tables after.tables → after.faults ≡ before.faults → OfTold (told_through before.tables after.tables) (Ends n answer)
  unrouted_served n answer office is has steady = unopened_served n Memory answer is (inr has.tables, steady)

-- ---- over an office that is opened

status-is : (ending : Result Unit ServeFault) → status_of (stop_served ending) ≡ status_served ending
status-is (Ok nothing) = refl
status-is (Err faults.DoorFailed) = refl
status-is (Err faults.Memory) = refl

-- what is told as serving ends was told as it began
become-tells : (before after : Standing) (office : Office) → Become before office after → IsSome after.tables → IsSome before.tables
become-tells before after office become = tells_before (λ _. rows_of office) before.tables after.tables become

serves-tells : (n : ℕ) (before after : World) (ending : Result Unit ServeFault) → Serves n before after ending → AreOfOffice before.service → IsSome after.service.tables → IsSome before.service.tables
serves-tells n before after (Ok nothing) serves own = become-tells before.service after.service after.service.office (serves.ends.all.tables own)
serves-tells n before after (Err faults.DoorFailed) serves own = become-tells before.service after.service after.service.office (serves.ends.all.tables own)
serves-tells n before after (Err faults.Memory) serves own =
    let lost = serves.ends in
    let stands = lost.is.tables own in
    become-tells before.service after.service (office_behind (office_left before.service.office serves.visits) (lost.visit.turns ++ stands.more)) stands.tables

-- so over a keeper that tells to the end nothing is left open
pub served_exact : (n : Hosting) (rows : List Row) (status : ℕ) (before after : Around) → IsSome after.tables → (is : IsServed n rows status before after) → is.opened ≡ option_map opened_rows before.tables
served_exact n rows status before after tells is =
    exact (option_map opened_rows before.tables) is.opened (serves-tells n.connections _ _ is.ending is.serves is.of_office tells) is.tables

-- the office was opened before, with these tables
module _ (n : Hosting) (rows : List Row) (office : Office) (now : Option (List Row)) (before after : Around) (answer : Result Unit Stop) (is : IsOpened rows office) (told : IsAll (told_through before.tables now) rows) (opened : Stays (option_map opened_rows before.tables) now) where
  own : IfSome now (λ told. told ≡ rows_of office)
  own = of_opened before.tables now rows office told is.are_rows opened

  cannot-listen : CannotListen (holding now before) after answer → HasServed n rows (status_of answer) before after
  cannot-listen cannot =
      let P = λ (r : Result Unit Stop). HasServed n rows (status_of r) before after in
      let same : Stays (option_map opened_rows before.tables) after.tables = subst (λ (t : Option (List Row)). Stays (option_map opened_rows before.tables) t) (sym cannot.tables) opened in
      subst P (sym cannot.stopped) (inl (record {
        ended = grind arith;
        damaged = λ six. absurd (omega (arith, six));
        undamaged = λ _. is.undamaged;
        wire = cannot.wire;
        unopened = λ either. absurd (omega (arith, either));
        opened = λ _. same;
        tables = inr same;
        faults = stays_at_from 5 8 _ _ (λ five. omega (arith, five)) cannot.faults;
        accepts = record { rises = λ _. cannot.accepts; stays = λ other. absurd (other refl) };
        reads = cannot.reads;
        writes = cannot.writes;
      }))

  has-listened : HasListened n office (holding now before) after answer → HasServed n rows (status_of answer) before after
  has-listened listened =
      let Q = λ (o : Office). Serves n.connections (record { door = listened.listening; service = serving o (holding now before) }) (record { door = after.door; service = serving listened.left after }) listened.ending in
      let R = λ (o : Office). IfSome now (λ told. told ≡ rows_of o) in
      inr (record {
        undamaged = is.undamaged;
        opened = now;
        tables = opened;
        of_office = subst R (sym is.is_office) own;
        listening = listened.listening;
        listens = listened.listens;
        office = listened.left;
        ending = listened.ending;
        ended = ap status_of listened.stopped ∙ status-is listened.ending;
        serves = subst Q (sym is.is_office) listened.serves;
      })

  has-attended : HasAttended n office (holding now before) after answer → HasServed n rows (status_of answer) before after
  has-attended (inl cannot) = cannot-listen cannot
  has-attended (inr listened) = has-listened listened

  attended-tells : HasAttended n office (holding now before) after answer → IsSome after.tables → IsSome now
  attended-tells (inl cannot) = subst (λ (t : Option (List Row)). IsSome t → IsSome now) (sym cannot.tables) (λ tells. tells)
  attended-tells (inr listened) = serves-tells n.connections _ _ listened.ending listened.serves own

attended-done : (n : Hosting) (office : Office) (before after : Around) (answer : Result Unit Stop) → HasAttended n office before after answer → IsWhole (status_of answer) → ending_of answer ≡ done
attended-done n office before after answer (inl cannot) whole =
    let P = λ (r : Result Unit Stop). IsWhole (status_of r) → ending_of r ≡ done in
    subst P (sym cannot.stopped) (λ same. absurd (omega (arith, same))) whole
attended-done n office before after answer (inr listened) whole =
    let P = λ (r : Result Unit Stop). IsWhole (status_of r) → ending_of r ≡ done in
    subst P (sym listened.stopped) (served-done listened.ending) whole
  where
    served-done : (ending : Result Unit ServeFault) → IsWhole (status_of (stop_served ending)) → ending_of (stop_served ending) ≡ done
    served-done (Ok nothing) same = refl
    served-done (Err faults.DoorFailed) same = absurd (omega (arith, same))
    served-done (Err faults.Memory) same = absurd (omega (arith, same))

attended-ends : (n : Hosting) (rows : List Row) (office : Office) (before after : Around) (answer : Result Unit Stop) → IsOpened rows office → HasAttended n office before after answer → EndsAs (serve_outcome rows) answer
unfolding serve_outcome
attended-ends n rows office before after answer opened attended =
    λ whole. attended-done n office before after answer attended whole ∙ ap (λ (o : Outcome). o.ending) (sym (over_opened rows office (λ o. leaving (rows_of o) (unwritten done)) opened))

module _ (n : Hosting) (office service : Office) (is : service ≡ office) (door : DoorView) (tables now : Option (List Row)) (faults later : ℕ) (after : Around) (answer : Result Unit Stop) where
  pub attended_served : HasOpened office tables now → later ≡ faults
      → HasAttended n service (record { door = door; tables = now; faults = later }) after answer
      → OfTold (told_through tables after.tables) (λ rows. HasServed n rows (status_of answer) (record { door = door; tables = tables; faults = faults }) after × EndsAs (serve_outcome rows) answer)
  attended_served has steady attended =
      let over = has.opened in
      let before : Around = record { door = door; tables = tables; faults = faults } in
      let O = λ (o : Office). HasAttended n o (record { door = door; tables = now; faults = later }) after answer in
      let Q = λ (k : ℕ). HasAttended n office (record { door = door; tables = now; faults = k }) after answer in
      let by = subst Q steady (subst O is attended) in
      record {
        all = over.all;
        is_all = told_until tables now after.tables over.all (attended-tells n over.all office now before after answer over.says over.is_all has.tables by) over.is_all;
        says = (has-attended n over.all office now before after answer over.says over.is_all has.tables by, attended-ends n over.all office _ after answer over.says by);
      }

-- ---- its statuses, and the counts

served-status : (ending : Result Unit ServeFault) → (status_served ending ≡ 0) ⊎ (status_served ending ≡ 7) ⊎ (status_served ending ≡ 8)
served-status (Ok nothing) = inl refl
served-status (Err faults.DoorFailed) = inr (inr refl)
served-status (Err faults.Memory) = inr (inl refl)

abbrev pub ServeStatus : ℕ → Type 0
ServeStatus status = (status ≡ 0) ⊎ (status ≡ 5) ⊎ (status ≡ 6) ⊎ (status ≡ 7) ⊎ (status ≡ 8)

accepts-rise : (n : ℕ) (before after : World) (ending : Result Unit ServeFault) → Serves n before after ending → RisesAt 8 (status_served ending) before.door.accepts after.door.accepts
accepts-rise n before after (Ok nothing) serves = stays_at_from 8 0 _ _ (λ eight. omega (arith, eight)) serves.ends.accepts
accepts-rise n before after (Err faults.DoorFailed) serves = record { rises = λ _. serves.ends.accepts; stays = λ other. absurd (other refl) }
accepts-rise n before after (Err faults.Memory) serves = stays_at_from 8 7 _ _ (λ eight. omega (arith, eight)) serves.ends.accepts

module _ (n : Hosting) (rows : List Row) (status : ℕ) (before after : Around) where
  pub serve_status : HasServed n rows status before after → ServeStatus status
  serve_status (inl nobody) = grind (arith, nobody.ended)
  serve_status (inr served) =
      let P = λ (s : ℕ). ServeStatus s in
      subst P (sym served.ended) (grind (arith, served-status served.ending))

  pub serve_keeper : HasServed n rows status before after → KeeperRises (Some n) status before.faults after.faults
  serve_keeper (inl nobody) = record { rises = nobody.faults.rises; stays = λ none. absurd (cc) }
  serve_keeper (inr served) = record {
    rises = λ five. absurd (omega (arith, five, served.ended, served-status served.ending));
    stays = λ none. absurd (cc);
  }

  pub serve_door : HasServed n rows status before after → RisesAt 8 status before.door.accepts after.door.accepts
  serve_door (inl nobody) = nobody.accepts
  serve_door (inr served) =
      let P = λ (s : ℕ). RisesAt 8 s before.door.accepts after.door.accepts in
      let Q = λ (k : ℕ). RisesAt 8 (status_served served.ending) k after.door.accepts in
      subst P (sym served.ended) (subst Q served.listens.accepts (accepts-rise n.connections _ _ served.ending served.serves))
