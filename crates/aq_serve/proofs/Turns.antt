-- One request after the other.
use Rattle.std.proofs.Common.{◌≡◌, ℕ, ◌+◌, ◌≤◌, inl, inr, false, List, ◌∷◌, ◌++◌, length, take, drop, sym, ap, ◌∙◌, subst, append_assoc, Result, Ok, Err}
use Rattle.std.specs.Prelude.{⊤}
use Rattle.std.proofs.lemmas.List.{drop-append-le}
use Rattle.aq_base.specs.Faults.{HasRisen}
use Rattle.aq_base.specs.declared.refusal.Memory.{Memory}
use Rattle.aq_rules.specs.Office.Office.{Office}
use Rattle.aq_http.specs.Step.{IsStep, More}
use Rattle.aq_keeper.specs.Standing.{AreOfOffice, Become}
use Rattle.aq_serve.specs.Session.{AreTurns, GoesOn, IsCut, IsTurn, Turn, office_behind, replies}
use Rattle.aq_serve.specs.Serving.{Rises, World}
use Rattle.aq_serve.specs.Talking.{Advances, IsAll, Session, Stores, Talks, TalksBy}
use Rattle.aq_serve.specs.declared.ending.End.{End}
use Rattle.aq_serve.specs.declared.ending.End.TheVariants.{Whole, CutByRead, CutByWrite}
use Rattle.aq_serve.proofs.Counts.{count_first, rises_join}
use Rattle.aq_keeper.proofs.TablesOfOffice.{become_join, keeps_join, told_after}
use Rattle.aq_serve.proofs.Wires.{door_join, exchange_join}

-- a request, and those behind it
pub turns_more : (E : List ℕ → Type 0) (served : ℕ) (office : Office) (input more : List ℕ) (turn : Turn) (turns : List Turn)
    → IsTurn served office (input ++ more) turn → turn.used ≤ length input → turn.closes ≡ false
    → AreTurns E (served + 1) turn.office (drop turn.used input ++ more) turns
    → AreTurns E served office (input ++ more) (turn ∷ turns)
turns_more E served office input more turn turns is within goes_on rest = (
  is,
  subst (λ c. GoesOn c turns (AreTurns E (served + 1) turn.office (drop turn.used (input ++ more)) turns)) (sym goes_on)
      (subst (λ i. AreTurns E (served + 1) turn.office i turns) (sym (drop-append-le turn.used input more within)) rest),
)

-- the same behind a request that was served
behind : (E : List ℕ → Type 0) (served : ℕ) (b m : World) (pending now : List ℕ) (x : Advances served b m pending now) (more : List ℕ) (turns : List Turn)
    → AreTurns E (served + 1) m.service.office (now ++ more) turns
    → AreTurns E served b.service.office ((pending ++ x.got) ++ more) (x.turn ∷ turns)
behind E served b m pending now x more turns rest =
    turns_more E served b.service.office (pending ++ x.got) more x.turn turns (x.is more) x.within x.goes_on
    (subst (λ i. AreTurns E (served + 1) x.turn.office (i ++ more) turns) x.is_left
    (subst (λ o. AreTurns E (served + 1) o (now ++ more) turns) x.office rest))

all_behind : (served : ℕ) (b m a : World) (pending now : List ℕ) (x : Advances served b m pending now) (more : List ℕ) (turns : List Turn)
    → IsAll (served + 1) m.service.office (now ++ more) turns a.door
    → IsAll served b.service.office ((pending ++ x.got) ++ more) (x.turn ∷ turns) a.door
all_behind served b m a pending now x more turns (inl dry) = inl dry
all_behind served b m a pending now x more turns (inr any) =
    inr (λ further. subst (λ i. Session served b.service.office i (x.turn ∷ turns)) (sym (append_assoc (pending ++ x.got) more further))
    (behind (λ rest. IsStep rest More) served b m pending now x (more ++ further) turns
    (subst (λ i. Session (served + 1) m.service.office i turns) (append_assoc now more further) (any further))))

cut_behind : (turn : Turn) (sent : List ℕ) (turns : List Turn) → IsCut sent turns → IsCut (turn.reply ++ sent) (turn ∷ turns)
cut_behind turn sent turns cut = record {
  done = turn ∷ cut.done;
  last = cut.last;
  count = cut.count;
  are = ap (λ l. turn ∷ l) cut.are;
  short = cut.short;
  is = ap (λ s. turn.reply ++ s) cut.is ∙ sym (append_assoc turn.reply (replies cut.done) (take cut.count cut.last.reply));
}

ends_behind : (end : Result End Memory) (served : ℕ) (b m a : World) (pending now : List ℕ) (x : Advances served b m pending now) (more sent : List ℕ) (turns : List Turn)
    → TalksBy end (served + 1) m a (now ++ more) sent turns
    → TalksBy end served b a ((pending ++ x.got) ++ more) (x.turn.reply ++ sent) (x.turn ∷ turns)
ends_behind (Ok Whole) served b m a pending now x more sent turns e = record {
  session = behind (λ rest. IsStep rest More) served b m pending now x more turns e.session;
  whole = all_behind served b m a pending now x more turns e.whole;
  all = ap (λ s. x.turn.reply ++ s) e.all;
  reads = e.reads ∙ x.reads;
  writes = e.writes ∙ x.writes;
  office = e.office ∙ ap (λ o. office_behind o turns) x.office;
  tables = keeps_join b.service m.service a.service x.tables e.tables;
}
ends_behind (Ok CutByRead) served b m a pending now x more sent turns e = record {
  session = behind (λ rest. IsStep rest More) served b m pending now x more turns e.session;
  all = ap (λ s. x.turn.reply ++ s) e.all;
  reads = subst (λ n. HasRisen n a.door.reads) x.reads e.reads;
  writes = e.writes ∙ x.writes;
  office = e.office ∙ ap (λ o. office_behind o turns) x.office;
  tables = keeps_join b.service m.service a.service x.tables e.tables;
}
ends_behind (Ok CutByWrite) served b m a pending now x more sent turns e = record {
  front = behind (λ rest. ⊤) served b m pending now x more turns e.front;
  cut = cut_behind x.turn sent turns e.cut;
  reads = e.reads ∙ x.reads;
  writes = subst (λ n. HasRisen n a.door.writes) x.writes e.writes;
  office = e.office ∙ ap (λ o. office_behind o turns) x.office;
  tables = keeps_join b.service m.service a.service x.tables e.tables;
}
ends_behind (Err memory) served b m a pending now x more sent turns e = record {
  front = behind (λ rest. ⊤) served b m pending now x more turns e.front;
  all = ap (λ s. x.turn.reply ++ s) e.all;
  reads = e.reads ∙ x.reads;
  writes = e.writes ∙ x.writes;
  tables = stores;
}
  where
    stores : AreOfOffice b.service → Stores served b.service.office ((pending ++ x.got) ++ more) (x.turn ∷ turns) b.service a.service
    stores told =
        let s = e.tables (told_after b.service m.service x.tables told) in
        record {
          more = s.more;
          one = s.one;
          front = behind (λ rest. ⊤) served b m pending now x more (turns ++ s.more) s.front;
          tables = subst (λ o. Become b.service (office_behind o (turns ++ s.more)) a.service) x.office
              (become_join b.service m.service a.service (office_behind m.service.office (turns ++ s.more)) told x.tables s.tables);
        }

-- whatever ends what is left of a connection ends all of it
pub advance : (served : ℕ) (b m a : World) (pending now : List ℕ) (end : Result End Memory)
    → Advances served b m pending now → Talks (served + 1) m a now end → Talks served b a pending end
advance served b m a pending now end x t = record {
  got = x.got ++ t.got;
  sent = x.turn.reply ++ t.sent;
  turns = x.turn ∷ t.turns;
  wire = exchange_join b.door.wire m.door.wire a.door.wire x.got x.turn.reply t.got t.sent x.wire t.wire;
  door = door_join b.door m.door a.door x.door t.door;
  faults = subst (Rises b.service.faults a.service.faults) (sym (count_first _ x.turn t.turns))
      (rises_join b.service.faults m.service.faults a.service.faults _ _ x.faults t.faults);
  ends = subst (λ i. TalksBy end served b a i (x.turn.reply ++ t.sent) (x.turn ∷ t.turns)) (append_assoc pending x.got t.got)
      (ends_behind end served b m a pending now x t.got t.sent t.turns t.ends);
}
