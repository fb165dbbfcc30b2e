-- One connection after the other.
use Rattle.std.proofs.Common.{◌≡◌, ℕ, ◌+◌, ◌<◌, ◌⊎◌, inl, inr, Bool, true, false, List, [], ◌∷◌, ◌++◌, length, map, refl, sym, ap, ◌∙◌, subst, arith, append_assoc, Result, Ok, Err, Option, Some, None}
use Rattle.std.proofs.lemmas.List.{append-nil}
use Rattle.aq_base.specs.Faults.{HasRisen}
use Rattle.aq_base.specs.declared.refusal.Memory.{Memory}
use Rattle.aq_rules.specs.Office.Office.{Office}
use Rattle.aq_outside.specs.Door.{Both, DoorView, Ends, Exchange, HasSameTransfers, IsAccepted, IsAcceptedNow, IsDry, IsFinished, IsIdle, IsSameDoor, Nobody, Passes, TakesNext, Wire}
use Rattle.aq_keeper.specs.Standing.{AreOfOffice, Keeps, Standing}
use Rattle.aq_serve.specs.Service.{Counts}
use Rattle.aq_serve.specs.Session.{IsFront, IsSession, Turn, office_behind}
use Rattle.aq_serve.specs.Serving.{AreAll, ArePaid, AreVisits, EndsBy, Faults, HavePassed, IsVisitBy, NobodyComes, Serves, StandsBehind, Visit, World, bytes_of, faults_in, is_cut_by_read, is_cut_by_write, line_of, office_left}
use Rattle.aq_serve.specs.Talking.{IsAll, Talks, TalksBy, Visited}
use Rattle.aq_serve.specs.declared.ending.End.{End}
use Rattle.aq_serve.specs.declared.ending.End.TheVariants.{Whole, CutByRead, CutByWrite}
use Rattle.aq_serve.specs.declared.ending.ServeFault.{ServeFault}
use Rattle.aq_serve.specs.declared.ending.ServeFault.TheVariants as fault
use Rattle.aq_keeper.proofs.TablesOfOffice.{become_join, become_same, keeps_join, told_after}

-- ---- the door

abbrev left_of : Option Wire → List ℕ
left_of None = []
left_of (Some w) = w.line.left

passed_one : (a b c d : Wire) (reads writes : ℕ) (visit : Visit) → TakesNext a b → Passes visit.got visit.sent b c → Ends reads writes c d
    → visit.left ≡ c.line.left → visit.after.reads ≡ reads → visit.after.writes ≡ writes
    → HavePassed (visit ∷ []) a d
passed_one a b c d reads writes visit takes passes ends left reads_are writes_are = record {
  coming = takes.coming
      ∙ (λ i. (passes.left ∙ ap (λ l. visit.got ++ l) (sym left)) i ∷ (sym passes.coming ∙ sym ends.coming) i);
  past = ends.past
      ∙ (λ i. (passes.past ∙ takes.past) i ++ record {
        line = record { left = sym left i; written = (passes.written ∙ ap (λ w. w ++ visit.sent) takes.written) i };
        reads = sym reads_are i;
        writes = sym writes_are i;
      } ∷ []);
}

passed : (a b c d : Option Wire) (reads writes : ℕ) (visit : Visit) → Both TakesNext a b → Exchange visit.got visit.sent b c → Both (Ends reads writes) c d
    → visit.left ≡ left_of c → visit.after.reads ≡ reads → visit.after.writes ≡ writes
    → Both (HavePassed (visit ∷ [])) a d
passed None None None None reads writes visit takes passes ends left reads_are writes_are = tt
passed (Some a) (Some b) (Some c) (Some d) reads writes visit takes passes ends left reads_are writes_are =
    passed_one a b c d reads writes visit takes passes ends left reads_are writes_are
passed None None None (Some d) reads writes visit takes passes ends left reads_are writes_are = absurd ends
passed None None (Some c) d reads writes visit takes passes ends left reads_are writes_are = absurd passes
passed None (Some b) c d reads writes visit takes passes ends left reads_are writes_are = absurd takes
passed (Some a) None c d reads writes visit takes passes ends left reads_are writes_are = absurd takes
passed (Some a) (Some b) None d reads writes visit takes passes ends left reads_are writes_are = absurd passes
passed (Some a) (Some b) (Some c) None reads writes visit takes passes ends left reads_are writes_are = absurd ends

none_passed : (a : Option Wire) → Both (HavePassed []) a a
none_passed None = tt
none_passed (Some w) = record { coming = refl; past = sym (append-nil w.past) }

idle_passed : (a b : Option Wire) → Both Nobody a b → Both (HavePassed []) a b
idle_passed None None idle = tt
idle_passed (Some a) (Some b) idle = record { coming = sym (ap (λ (w : Wire). w.coming) idle.same); past = ap (λ (w : Wire). w.past) idle.same ∙ sym (append-nil a.past) }
idle_passed None (Some b) idle = absurd idle
idle_passed (Some a) None idle = absurd idle

nobody_comes : (a b : Option Wire) → Both Nobody a b → NobodyComes b
nobody_comes None None idle = tt
nobody_comes (Some a) (Some b) idle = ap (λ (w : Wire). w.coming) idle.same ∙ idle.none
nobody_comes None (Some b) idle = absurd idle
nobody_comes (Some a) None idle = absurd idle

passed_join : (a b c : Option Wire) (visit : Visit) (visits : List Visit)
    → Both (HavePassed (visit ∷ [])) a b → Both (HavePassed visits) b c → Both (HavePassed (visit ∷ visits)) a c
passed_join None None None visit visits one more = tt
passed_join (Some a) (Some b) (Some c) visit visits one more = record {
  coming = one.coming ∙ ap (λ l. bytes_of visit ∷ l) more.coming;
  past = more.past ∙ ap (λ l. l ++ map line_of visits) one.past ∙ append_assoc a.past (line_of visit ∷ []) (map line_of visits);
}
passed_join None None (Some c) visit visits one more = absurd more
passed_join None (Some b) c visit visits one more = absurd one
passed_join (Some a) None c visit visits one more = absurd one
passed_join (Some a) (Some b) None visit visits one more = absurd more

-- ---- a connection

-- what is known of the door from before a connection to behind it
pub record IsRound (a b c d : DoorView) : Type 0 where
  pub takes : Both TakesNext a.wire b.wire
  pub ends : IsFinished c d
  pub listens : d.listens ≡ a.listens
  pub is_open : d.is_open ≡ a.is_open
  pub accepts : d.accepts ≡ a.accepts
  pub taken : HasSameTransfers a b
  pub ended : HasSameTransfers c d

pub round_of : (a b c d : DoorView) (is_there : Bool) → is_there ≡ true → IsAccepted is_there a b → b.listens ≡ a.listens → b.accepts ≡ a.accepts → HasSameTransfers a b
    → IsSameDoor b c → IsFinished c d → d.is_open ≡ false → d.listens ≡ c.listens → d.accepts ≡ c.accepts → HasSameTransfers c d
    → a.is_open ≡ false → IsRound a b c d
round_of a b c d is_there there accepted listens accepts taken same ends shut listens_still accepts_still ended was_shut =
    let now : IsAcceptedNow a b = subst (λ t. IsAccepted t a b) there accepted in
    record {
      takes = now.wire;
      ends = ends;
      listens = listens_still ∙ same.listens ∙ listens;
      is_open = shut ∙ sym was_shut;
      accepts = accepts_still ∙ same.accepts ∙ accepts;
      taken = taken;
      ended = ended;
    }

pub talked_so : (b a : World) (end this : Result End Memory) → end ≡ this → Talks 0 b a [] end → Talks 0 b a [] this
talked_so b a end this is talk = subst (λ e. Talks 0 b a [] e) is talk

all_bytes : (office : Office) (got : List ℕ) (turns : List Turn) (c : DoorView) → IsSession office got turns → IsAll 0 office got turns c
    → IsSession office (got ++ left_of c.wire) turns
all_bytes office got turns c session (inl dry) = subst (λ i. IsSession office i turns) (sym (ap (λ l. got ++ l) (none_left c.wire dry) ∙ append-nil got)) session
  where
    none_left : (w : Option Wire) → IsDry w → left_of w ≡ []
    none_left None dry = refl
    none_left (Some w) dry = dry
all_bytes office got turns c session (inr any) = any (left_of c.wire)

visit_by : (end : End) (b c : World) (got sent : List ℕ) (turns : List Turn) → TalksBy (Ok end) 0 b c got sent turns
    → (from to : Faults) → IsVisitBy end b.service.office (record { got = got; left = left_of c.door.wire; turns = turns; sent = sent; end = end; before = from; after = to })
visit_by Whole b c got sent turns t from to = record { session = all_bytes b.service.office got turns c.door t.session t.whole; sent = t.all }
visit_by CutByRead b c got sent turns t from to = record { session = t.session; sent = t.all }
visit_by CutByWrite b c got sent turns t from to = record { front = t.front; cut = t.cut }

reads_by : (end : End) (b c : World) (got sent : List ℕ) (turns : List Turn) → TalksBy (Ok end) 0 b c got sent turns
    → Counts (is_cut_by_read end) b.door.reads c.door.reads
reads_by Whole b c got sent turns t = t.reads
reads_by CutByRead b c got sent turns t = t.reads
reads_by CutByWrite b c got sent turns t = t.reads

writes_by : (end : End) (b c : World) (got sent : List ℕ) (turns : List Turn) → TalksBy (Ok end) 0 b c got sent turns
    → Counts (is_cut_by_write end) b.door.writes c.door.writes
writes_by Whole b c got sent turns t = t.writes
writes_by CutByRead b c got sent turns t = t.writes
writes_by CutByWrite b c got sent turns t = t.writes

office_by : (end : End) (b c : World) (got sent : List ℕ) (turns : List Turn) → TalksBy (Ok end) 0 b c got sent turns
    → c.service.office ≡ office_behind b.service.office turns
office_by Whole b c got sent turns t = t.office
office_by CutByRead b c got sent turns t = t.office
office_by CutByWrite b c got sent turns t = t.office

tables_by : (end : End) (b c : World) (got sent : List ℕ) (turns : List Turn) → TalksBy (Ok end) 0 b c got sent turns
    → Keeps b.service c.service
tables_by Whole b c got sent turns t = t.tables
tables_by CutByRead b c got sent turns t = t.tables
tables_by CutByWrite b c got sent turns t = t.tables

pub visited : (a b c d : DoorView) (s t : Standing) (end : End)
    → IsRound a b c d → Talks 0 (record { door = b; service = s }) (record { door = c; service = t }) [] (Ok end)
    → Visited (record { door = a; service = s }) (record { door = d; service = t })
visited a b c d s t end round talk = record {
  visit = visit;
  is = visit_by end before after talk.got talk.sent talk.turns talk.ends visit.before visit.after;
  wire = passed a.wire b.wire c.wire d.wire c.reads c.writes visit round.takes talk.wire round.ends refl round.ended.reads round.ended.writes;
  door = record { listens = round.listens; is_open = round.is_open; accepts = round.accepts };
  office = office_by end before after talk.got talk.sent talk.turns talk.ends;
  tables = tables_by end before after talk.got talk.sent talk.turns talk.ends;
  begins = refl;
  paid = record {
    reads = subst (λ n. Counts (is_cut_by_read end) n d.reads) round.taken.reads
        (subst (λ n. Counts (is_cut_by_read end) b.reads n) (sym round.ended.reads) (reads_by end before after talk.got talk.sent talk.turns talk.ends));
    writes = subst (λ n. Counts (is_cut_by_write end) n d.writes) round.taken.writes
        (subst (λ n. Counts (is_cut_by_write end) b.writes n) (sym round.ended.writes) (writes_by end before after talk.got talk.sent talk.turns talk.ends));
    loads = talk.faults;
  };
  finishes = refl;
}
  where
    before : World
    before = record { door = b; service = s }

    after : World
    after = record { door = c; service = t }

    visit : Visit
    visit = record {
      got = talk.got;
      left = left_of c.wire;
      turns = talk.turns;
      sent = talk.sent;
      end = end;
      before = faults_in (record { door = a; service = s });
      after = faults_in (record { door = d; service = t });
    }

-- memory was not to be had in it
pub visit_lost : (a b c d : DoorView) (s t : Standing) (memory : Memory)
    → IsRound a b c d → Talks 0 (record { door = b; service = s }) (record { door = c; service = t }) [] (Err memory)
    → (n : ℕ) → 0 < n → Serves n (record { door = a; service = s }) (record { door = d; service = t }) (Err fault.Memory)
visit_lost a b c d s t memory round talk n some = record {
  visits = [];
  lost = visit ∷ [];
  few = omega (arith, some);
  are = tt;
  wire = passed a.wire b.wire c.wire d.wire c.reads c.writes visit round.takes talk.wire round.ends refl round.ended.reads round.ended.writes;
  listens = round.listens;
  is_open = round.is_open;
  paid = (
    refl,
    record {
      reads = round.ended.reads ∙ talk.ends.reads ∙ round.taken.reads;
      writes = round.ended.writes ∙ talk.ends.writes ∙ round.taken.writes;
      loads = talk.faults;
    },
    refl,
  );
  ends = record {
    visit = visit;
    one = refl;
    is = record { end = refl; front = talk.ends.front; sent = talk.ends.all; tables = stands };
    accepts = round.accepts;
  };
}
  where
    visit : Visit
    visit = record {
      got = talk.got;
      left = left_of c.wire;
      turns = talk.turns;
      sent = talk.sent;
      end = Whole;
      before = faults_in (record { door = a; service = s });
      after = faults_in (record { door = d; service = t });
    }

    stands : AreOfOffice s → StandsBehind s.office talk.got talk.turns s t
    stands told =
        let stores = talk.ends.tables told in
        record { more = stores.more; one = stores.one; front = stores.front; tables = stores.tables }

-- ---- all connections

-- none was served
unvisited : (n : ℕ) (a b : DoorView) (s : Standing) (ending : Result Unit ServeFault) → Both (HavePassed []) a.wire b.wire → b.listens ≡ a.listens → b.is_open ≡ a.is_open → HasSameTransfers a b
    → EndsBy ending n [] [] (record { door = a; service = s }) (record { door = b; service = s }) → Serves n (record { door = a; service = s }) (record { door = b; service = s }) ending
unvisited n a b s ending wire listens open_too transfers ends = record {
  visits = [];
  lost = [];
  few = omega arith;
  are = tt;
  wire = wire;
  listens = listens;
  is_open = open_too;
  paid = λ i. record { reads = transfers.reads i; writes = transfers.writes i; loads = s.faults };
  ends = ends;
}

none_lost : (s : Standing) → AreAll [] [] s s
none_lost s = record { none = refl; office = refl; tables = λ told. become_same s told }

pub nothing_served : (w : World) → Serves 0 w w (Ok tt)
nothing_served w =
    unvisited 0 w.door w.door w.service (Ok tt) (none_passed w.door.wire) refl refl (record { reads = refl; writes = refl })
    (record { all = none_lost w.service; accepts = refl; last = inl refl })

pub nobody_served : (a b : DoorView) (s : Standing) → IsIdle a b → b.listens ≡ a.listens → a.is_open ≡ false → b.accepts ≡ a.accepts → HasSameTransfers a b
    → (n : ℕ) → Serves n (record { door = a; service = s }) (record { door = b; service = s }) (Ok tt)
nobody_served a b s idle listens shut accepts transfers n =
    unvisited n a b s (Ok tt) (idle_passed a.wire b.wire idle.wire) listens (idle.is_open ∙ sym shut) transfers
    (record { all = none_lost s; accepts = accepts; last = inr (nobody_comes a.wire b.wire idle.wire) })

pub door_failed : (a b : DoorView) (s : Standing) → b.wire ≡ a.wire → b.listens ≡ a.listens → b.is_open ≡ a.is_open → HasRisen a.accepts b.accepts → HasSameTransfers a b
    → (n : ℕ) → 0 < n → Serves n (record { door = a; service = s }) (record { door = b; service = s }) (Err fault.DoorFailed)
door_failed a b s wire listens open_too risen transfers n some =
    unvisited n a b s (Err fault.DoorFailed) (subst (λ w. Both (HavePassed []) a.wire w) (sym wire) (none_passed a.wire)) listens open_too transfers
    (record { all = none_lost s; more = some; accepts = risen })

all_more : (b m a : World) (v : Visited b m) (visits lost : List Visit) → AreAll visits lost m.service a.service → AreAll (v.visit ∷ visits) lost b.service a.service
all_more b m a v visits lost all = record {
  none = all.none;
  office = all.office ∙ ap (λ o. office_left o visits) v.office;
  tables = keeps_join b.service m.service a.service v.tables all.tables;
}

ends_more : (ending : Result Unit ServeFault) (n k : ℕ) (b m a : World) (v : Visited b m) (visits lost : List Visit) → n ≡ k + 1
    → EndsBy ending k visits lost m a → EndsBy ending n (v.visit ∷ visits) lost b a
ends_more (Ok nothing) n k b m a v visits lost one e = record {
  all = all_more b m a v visits lost e.all;
  accepts = e.accepts ∙ v.door.accepts;
  last = by_last e.last;
}
  where
    by_last : (length visits ≡ k) ⊎ NobodyComes a.door.wire → (length (v.visit ∷ visits) ≡ n) ⊎ NobodyComes a.door.wire
    by_last (inl all) = inl (omega (arith, one, all))
    by_last (inr nobody) = inr nobody
ends_more (Err fault.DoorFailed) n k b m a v visits lost one e = record {
  all = all_more b m a v visits lost e.all;
  more = omega (arith, one, e.more);
  accepts = subst (λ c. HasRisen c a.door.accepts) v.door.accepts e.accepts;
}
ends_more (Err fault.Memory) n k b m a v visits lost one e = record {
  visit = e.visit;
  one = e.one;
  is = record {
    end = e.is.end;
    front = subst (λ o. IsFront (office_left o visits) e.visit.got e.visit.turns) v.office e.is.front;
    sent = e.is.sent;
    tables = stands;
  };
  accepts = e.accepts ∙ v.door.accepts;
}
  where
    stands : AreOfOffice b.service → StandsBehind (office_left (office_behind b.service.office v.visit.turns) visits) e.visit.got e.visit.turns b.service a.service
    stands told =
        let s = e.is.tables (told_after b.service m.service v.tables told) in
        subst (λ o. StandsBehind (office_left o visits) e.visit.got e.visit.turns b.service a.service) v.office (record {
          more = s.more;
          one = s.one;
          front = s.front;
          tables = become_join b.service m.service a.service _ told v.tables s.tables;
        })

-- whatever ends the serving behind a connection ends all of it
pub one_more : (n k : ℕ) (b m a : World) (ending : Result Unit ServeFault) → n ≡ k + 1 → Visited b m → Serves k m a ending → Serves n b a ending
one_more n k b m a ending one v s = record {
  visits = v.visit ∷ s.visits;
  lost = s.lost;
  few = omega (arith, one, s.few);
  are = (v.is, subst (λ o. AreVisits o s.visits) v.office s.are);
  wire = passed_join b.door.wire m.door.wire a.door.wire v.visit (s.visits ++ s.lost) v.wire s.wire;
  listens = s.listens ∙ v.door.listens;
  is_open = s.is_open ∙ v.door.is_open;
  paid = (v.begins, v.paid, subst (λ f. ArePaid f (s.visits ++ s.lost) (faults_in a)) (sym v.finishes) s.paid);
  ends = ends_more ending n k b m a v s.visits s.lost one s.ends;
}
