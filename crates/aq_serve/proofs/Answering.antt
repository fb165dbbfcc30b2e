-- One request, read, answered and sent.
use Rattle.std.proofs.Common.{◌≡◌, ℕ, ◌+◌, ◌<◌, ◌≤◌, ◌⊎◌, inl, inr, Bool, true, false, cond, List, [], ◌∷◌, ◌++◌, length, take, drop, refl, sym, ap, ◌∙◌, subst, arith, append_assoc, Result, Ok, Err, Option, Some, None}
use Rattle.std.specs.Prelude.{⊤, ◌==◌}
use Rattle.std.proofs.lemmas.List.{append-nil}
use Rattle.aq_base.specs.Faults.{HasRisen}
use Rattle.aq_base.specs.declared.refusal.Memory.{Memory}
use Rattle.aq_http.specs.Reply.{reply_text}
use Rattle.aq_http.specs.declared.media.MediaType.TheVariants.{Json}
use Rattle.aq_http.specs.Step.{IsStep, Request, Step, More, Refuse, Whole as WholeStep}
use Rattle.aq_serve.specs.Answered.{answered, error_body, refused}
use Rattle.aq_outside.specs.Door.{DoorView, Exchange, IsDry, IsSameDoor}
use Rattle.aq_keeper.specs.Standing.{Become, Standing}
use Rattle.aq_serve.specs.Service.{Answers, Counts, Loses}
use Rattle.aq_serve.specs.Session.{GoesOn, IsTurn, Turn, ends_behind, turn_of}
use Rattle.aq_serve.specs.Serving.{Rises, World}
use Rattle.aq_serve.specs.Talking.{FetchFailed, FetchLost, Replies, RepliesNot, SentBy, Stores, TakesTurn, Talks, TalksBy, Took}
use Rattle.aq_serve.specs.declared.ending.End.{End}
use Rattle.aq_serve.specs.declared.ending.End.TheVariants.{Whole, CutByRead, CutByWrite}
use Rattle.aq_serve.specs.declared.limits.TheConstants.{MOST_REQUESTS}
use Rattle.aq_serve.proofs.Counts.{rises_by, rises_once, rises_same}
use Rattle.aq_serve.proofs.Refusals.{refusal_is_no_fault}
use Rattle.aq_keeper.proofs.TablesOfOffice.{become_same}
use Rattle.aq_serve.proofs.Wires.{door_join, exchange_join, gets_nothing, passes_nothing}

-- ---- the answer

abbrev pub IsWholeStep : Step → Type 0
IsWholeStep More = ⊥
IsWholeStep (Refuse status) = ⊥
IsWholeStep (WholeStep request) = ⊤

pub answer_replies : (served : ℕ) (input bytes : List ℕ) (request : Request) (closes : Bool) (before after : Standing)
    → ((more : List ℕ) → IsStep (input ++ more) (WholeStep request)) → closes ≡ ends_behind served request
    → request.used ≤ length input → (closes ≡ false → served + 1 < MOST_REQUESTS)
    → Answers request.verb request.target request.body closes bytes before after
    → Replies served input bytes request.used closes before after
answer_replies served input bytes request closes before after stays so within few a = record {
  turn = turn_of request.used closes (answered before.office request.verb request.target request.body a.fails);
  is = λ more. record {
    step = WholeStep request;
    stands = stays more;
    replies = (a.fails, ap (λ c. turn_of request.used c (answered before.office request.verb request.target request.body a.fails)) so);
  };
  bytes_are = a.reply;
  used_are = refl;
  closes_so = refl;
  within = within;
  few = few;
  office = a.office;
  tables = a.tables;
  faults = rises_by (λ (t : Turn). t.status == 503) (turn_of request.used closes (answered before.office request.verb request.target request.body a.fails)) before.faults after.faults a.cause;
}

pub answer_lost : (served : ℕ) (input : List ℕ) (request : Request) (before after : Standing)
    → IsStep input (WholeStep request) → Loses request.verb request.target request.body before after
    → RepliesNot served input before after
answer_lost served input request before after stands l = record {
  turn = turn_of request.used (ends_behind served request) (answered before.office request.verb request.target request.body false);
  is = record { step = WholeStep request; stands = stands; replies = (false, refl) };
  faults = by_cause l.cause;
  tables = l.tables;
}
  where
    by_cause : (after.faults ≡ before.faults) ⊎ HasRisen before.faults after.faults → Rises before.faults after.faults 0
    by_cause (inl e) = rises_same before.faults after.faults e
    by_cause (inr risen) =
        let once = rises_once before.faults after.faults risen in
        record { grows = once.grows; many = λ low. let more = once.many low in omega (arith, more) }

-- ---- the reply

goes_nowhere : (c : Bool) → GoesOn c [] ⊤
goes_nowhere true = refl
goes_nowhere false = tt

closes_all : (c : Bool) (behind : Type 0) → c ≡ true → GoesOn c [] behind
closes_all c behind e = subst (λ t. GoesOn t [] behind) (sym e) refl

pub sent_turn : (served : ℕ) (input bytes : List ℕ) (used : ℕ) (closes : Bool) (d e : DoorView) (s t : Standing) (end : Option End)
    → Replies served input bytes used closes s t → SentBy end closes bytes d e
    → TakesTurn served (record { door = d; service = s }) (record { door = e; service = t }) input (drop used input) (Ok end)
sent_turn served input bytes used closes d e s t None r sent = record {
  got = [];
  turn = r.turn;
  is = λ more. subst (λ i. IsTurn served s.office (i ++ more) r.turn) (sym (append-nil input)) (r.is more);
  within = omega (arith, r.used_are, r.within, ap length (append-nil input));
  goes_on = sym r.closes_so ∙ sent.0;
  few = r.few sent.0;
  wire = subst (λ b. Exchange [] b d.wire e.wire) r.bytes_are sent.1.wire;
  door = sent.1.door;
  reads = sent.1.reads;
  writes = sent.1.writes;
  is_left = ap (λ n. drop n input) r.used_are ∙ ap (λ i. drop r.turn.used i) (sym (append-nil input));
  office = r.office;
  tables = r.tables;
  faults = r.faults;
}
sent_turn served input bytes used closes d e s t (Some Whole) r sent = record {
  got = [];
  sent = bytes;
  turns = r.turn ∷ [];
  wire = sent.1.wire;
  door = sent.1.door;
  faults = r.faults;
  ends = record {
    session = (
      subst (λ i. IsTurn served s.office i r.turn) refl (r.is []),
      closes_all r.turn.closes (IsStep (drop r.turn.used (input ++ [])) More) (sym r.closes_so ∙ sent.0),
    );
    whole = inr (λ more. (
      subst (λ i. IsTurn served s.office (i ++ more) r.turn) (sym (append-nil input)) (r.is more),
      closes_all r.turn.closes (IsStep (drop r.turn.used ((input ++ []) ++ more)) More) (sym r.closes_so ∙ sent.0),
    ));
    all = r.bytes_are ∙ sym (append-nil r.turn.reply);
    reads = sent.1.reads;
    writes = sent.1.writes;
    office = r.office;
    tables = r.tables;
  };
}
sent_turn served input bytes used closes d e s t (Some CutByRead) r sent = absurd sent
sent_turn served input bytes used closes d e s t (Some CutByWrite) r sent = record {
  got = [];
  sent = take sent.count bytes;
  turns = r.turn ∷ [];
  wire = sent.wire;
  door = sent.door;
  faults = r.faults;
  ends = record {
    front = (r.is [], goes_nowhere r.turn.closes);
    cut = record {
      done = [];
      last = r.turn;
      count = sent.count;
      are = refl;
      short = subst (λ b. sent.count < length b) r.bytes_are sent.short;
      is = ap (λ b. take sent.count b) r.bytes_are;
    };
    reads = sent.reads;
    writes = sent.writes;
    office = r.office;
    tables = r.tables;
  };
}

-- a refused head is answered over any office
pub refusal_replies : (served : ℕ) (input bytes : List ℕ) (status : ℕ) (s : Standing)
    → ((more : List ℕ) → IsStep (input ++ more) (Refuse status))
    → bytes ≡ reply_text (record { status = status; media = Json; allow = []; close = true; body = error_body status })
    → Replies served input bytes 0 true s s
refusal_replies served input bytes status s stays are = record {
  turn = turn_of 0 true (refused status s.office);
  is = λ more. record { step = Refuse status; stands = stays more; replies = refl };
  bytes_are = are;
  used_are = refl;
  closes_so = refl;
  within = omega arith;
  few = λ e. absurd (subst (λ (b : Bool). cond b Unit ⊥) e tt);
  office = refl;
  tables = λ told. become_same s told;
  faults = rises_by (λ (t : Turn). t.status == 503) (turn_of 0 true (refused status s.office)) s.faults s.faults
      (subst (λ b. Counts b s.faults s.faults) (sym (refusal_is_no_fault (input ++ []) status (stays []))) refl);
}

-- ---- an end without a reply

same_door : (d : DoorView) → IsSameDoor d d
same_door d = record { listens = refl; is_open = refl; accepts = refl }

pub lost_turn : (served : ℕ) (input now : List ℕ) (d : DoorView) (s t : Standing) (memory : Memory)
    → RepliesNot served input s t
    → TakesTurn served (record { door = d; service = s }) (record { door = d; service = t }) input now (Err memory)
lost_turn served input now d s t memory l = record {
  got = [];
  sent = [];
  turns = [];
  wire = passes_nothing d.wire;
  door = same_door d;
  faults = l.faults;
  ends = record {
    front = tt;
    all = refl;
    reads = refl;
    writes = refl;
    tables = λ told. by_tables (l.tables told);
  };
}
  where
    by_tables : Become s s.office t ⊎ Become s l.turn.office t → Stores served s.office (input ++ []) [] s t
    by_tables (inl same) = record { more = []; one = omega arith; front = tt; tables = same }
    by_tables (inr stored) = record {
      more = l.turn ∷ [];
      one = omega arith;
      front = (subst (λ i. IsTurn served s.office i l.turn) (sym (append-nil input)) l.is, goes_nowhere l.turn.closes);
      tables = stored;
    }

pub dry_turn : (served : ℕ) (input now : List ℕ) (d : DoorView) (s : Standing)
    → IsStep input More → IsDry d.wire
    → TakesTurn served (record { door = d; service = s }) (record { door = d; service = s }) input now (Ok (Some Whole))
dry_turn served input now d s waits dry = record {
  got = [];
  sent = [];
  turns = [];
  wire = passes_nothing d.wire;
  door = same_door d;
  faults = rises_same s.faults s.faults refl;
  ends = record {
    session = subst (λ i. IsStep i More) (sym (append-nil input)) waits;
    whole = inl dry;
    all = refl;
    reads = refl;
    writes = refl;
    office = refl;
    tables = λ told. become_same s told;
  };
}

pub cut_turn : (served : ℕ) (pending now : List ℕ) (a b : DoorView) (s : Standing)
    → FetchFailed a b pending now
    → TakesTurn served (record { door = a; service = s }) (record { door = b; service = s }) pending now (Ok (Some CutByRead))
cut_turn served pending now a b s f = record {
  got = f.took.got;
  sent = [];
  turns = [];
  wire = f.took.gets.wire;
  door = f.took.gets.door;
  faults = rises_same s.faults s.faults refl;
  ends = record {
    session = subst (λ i. IsStep i More) f.took.is f.more;
    all = refl;
    reads = f.reads;
    writes = f.took.gets.writes;
    office = refl;
    tables = λ told. become_same s told;
  };
}

pub unread_turn : (served : ℕ) (pending now : List ℕ) (a b : DoorView) (s : Standing) (memory : Memory)
    → FetchLost a b
    → TakesTurn served (record { door = a; service = s }) (record { door = b; service = s }) pending now (Err memory)
unread_turn served pending now a b s memory f = record {
  got = f.got;
  sent = [];
  turns = [];
  wire = f.gets.wire;
  door = f.gets.door;
  faults = rises_same s.faults s.faults refl;
  ends = record {
    front = tt;
    all = refl;
    reads = f.reads;
    writes = f.gets.writes;
    tables = λ told. record { more = []; one = omega arith; front = tt; tables = become_same s told };
  };
}

-- ---- what was read before

ends_after : (end : Result End Memory) (served : ℕ) (d e : DoorView) (s : Standing) (a : World) (input sent : List ℕ) (turns : List Turn)
    → e.reads ≡ d.reads → e.writes ≡ d.writes
    → TalksBy end served (record { door = e; service = s }) a input sent turns
    → TalksBy end served (record { door = d; service = s }) a input sent turns
ends_after (Ok Whole) served d e s a input sent turns reads writes t = record {
  session = t.session;
  whole = t.whole;
  all = t.all;
  reads = t.reads ∙ reads;
  writes = t.writes ∙ writes;
  office = t.office;
  tables = t.tables;
}
ends_after (Ok CutByRead) served d e s a input sent turns reads writes t = record {
  session = t.session;
  all = t.all;
  reads = subst (λ n. HasRisen n a.door.reads) reads t.reads;
  writes = t.writes ∙ writes;
  office = t.office;
  tables = t.tables;
}
ends_after (Ok CutByWrite) served d e s a input sent turns reads writes t = record {
  front = t.front;
  cut = t.cut;
  reads = t.reads ∙ reads;
  writes = subst (λ n. HasRisen n a.door.writes) writes t.writes;
  office = t.office;
  tables = t.tables;
}
ends_after (Err memory) served d e s a input sent turns reads writes t = record {
  front = t.front;
  all = t.all;
  reads = t.reads ∙ reads;
  writes = t.writes ∙ writes;
  tables = t.tables;
}

talks_after : (end : Result End Memory) (served : ℕ) (d e : DoorView) (s : Standing) (a : World) (pending now : List ℕ)
    → Took d e pending now → e.reads ≡ d.reads
    → Talks served (record { door = e; service = s }) a now end → Talks served (record { door = d; service = s }) a pending end
talks_after end served d e s a pending now took reads t = record {
  got = took.got ++ t.got;
  sent = t.sent;
  turns = t.turns;
  wire = exchange_join d.wire e.wire a.door.wire took.got [] t.got t.sent took.gets.wire t.wire;
  door = door_join d e a.door took.gets.door t.door;
  faults = t.faults;
  ends = ends_after end served d e s a (pending ++ (took.got ++ t.got)) t.sent t.turns reads took.gets.writes
      (subst (λ i. TalksBy end served (record { door = e; service = s }) a i t.sent t.turns)
      (ap (λ i. i ++ t.got) took.is ∙ append_assoc pending took.got t.got) t.ends);
}

-- a turn from where bytes were read is one from before
pub turn_after : (served : ℕ) (d e : DoorView) (s : Standing) (a : World) (pending now later : List ℕ) (answer : Result (Option End) Memory)
    → Took d e pending now → e.reads ≡ d.reads
    → TakesTurn served (record { door = e; service = s }) a now later answer
    → TakesTurn served (record { door = d; service = s }) a pending later answer
turn_after served d e s a pending now later (Ok None) took reads x = record {
  got = took.got ++ x.got;
  turn = x.turn;
  is = λ more. subst (λ i. IsTurn served s.office (i ++ more) x.turn) (joined x.got) (x.is more);
  within = subst (λ i. x.turn.used ≤ length i) (joined x.got) x.within;
  goes_on = x.goes_on;
  few = x.few;
  wire = exchange_join d.wire e.wire a.door.wire took.got [] x.got x.turn.reply took.gets.wire x.wire;
  door = door_join d e a.door took.gets.door x.door;
  reads = x.reads ∙ reads;
  writes = x.writes ∙ took.gets.writes;
  is_left = x.is_left ∙ ap (λ i. drop x.turn.used i) (joined x.got);
  office = x.office;
  tables = x.tables;
  faults = x.faults;
}
  where
    joined : (more : List ℕ) → now ++ more ≡ pending ++ (took.got ++ more)
    joined more = ap (λ i. i ++ more) took.is ∙ append_assoc pending took.got more
turn_after served d e s a pending now later (Ok (Some end)) took reads t = talks_after (Ok end) served d e s a pending now took reads t
turn_after served d e s a pending now later (Err memory) took reads t = talks_after (Err memory) served d e s a pending now took reads t

-- a refusal ends the connection, whatever bytes are left
pub refused_turn : (served : ℕ) (input now bytes : List ℕ) (d e : DoorView) (s : Standing) (end : Option End)
    → Replies served input bytes 0 true s s → SentBy end true bytes d e
    → TakesTurn served (record { door = d; service = s }) (record { door = e; service = s }) input now (Ok end)
refused_turn served input now bytes d e s None r sent = absurd (subst (λ (b : Bool). cond b Unit ⊥) sent.0 tt)
refused_turn served input now bytes d e s (Some Whole) r sent = sent_turn served input bytes 0 true d e s s (Some Whole) r sent
refused_turn served input now bytes d e s (Some CutByRead) r sent = absurd sent
refused_turn served input now bytes d e s (Some CutByWrite) r sent = sent_turn served input bytes 0 true d e s s (Some CutByWrite) r sent

-- nothing was read or sent
pub memory_turn : (served : ℕ) (input now : List ℕ) (d : DoorView) (s : Standing) (memory : Memory)
    → TakesTurn served (record { door = d; service = s }) (record { door = d; service = s }) input now (Err memory)
memory_turn served input now d s memory = unread_turn served input now d d s memory (record { got = []; gets = gets_nothing d; reads = refl })
