use Rattle.std.proofs.Common.{rules, ◌≡◌, ◌∙◌, ◌<◌, ℕ, ap, sym, subst, None, take, drop, length}
use Rattle.std.specs.Prelude.{slice_set}
use Rattle.std.specs.List.{last_or}
use Rattle.std.proofs.lemmas.List.{length-set}
use Rattle.aq_registry.specs.declared.agreed.Entry.{Entry}
use Rattle.aq_registry.specs.declared.agreed.Span.{Span}
use Rattle.aq_registry.specs.Agreed.{entry_behind, AreChained, AreReached}
use Rattle.aq_registry.proofs.ReachLemmas.{next, chained-set, reached-set, reached-whole, last-set, spans-set}
use Rattle.aq_registry.proofs.agreed.reach_behind.Goals as goal

pub loop-i-preserved : goal.loop-i-preserved
loop-i-preserved c =
    let entries = c.loop-i.entries.items in
    let i = c.loop-i.i in
    let entry = c.behind-entry.result in
    let other = c.index-standing.result.now in
    let inside : i < length entries = search rules in
    let span_is : entry.span ≡ other.span = ap (λ (e : Entry). e.span) c.behind-entry.ensures in
    let is : entry ≡ entry_behind (last_or None (take i entries)) entry.span =
    c.behind-entry.ensures ∙ ap (entry_behind c.loop-i.before) (sym span_is) ∙ ap (λ b. entry_behind b entry.span) c.loop-i.invariant.last
    in
    record {
      same = spans-set entries i other entry inside (span_is ∙ ap (λ (e : Entry). e.span) c.index-standing.ensures) ∙ c.loop-i.invariant.same;
      reached = subst (λ k. AreReached None (take k (slice_set entries i entry))) (next i) (reached-set None entries i other entry inside c.loop-i.invariant.reached is);
      chained = subst (λ k. AreChained (drop k (slice_set entries i entry))) (next i) (chained-set entries i entry c.loop-i.invariant.chained);
      last = last-set None entries i entry inside ∙ ap (λ k. last_or None (take k (slice_set entries i entry))) (next i);
      long = length-set entries i entry ∙ c.loop-i.invariant.long;
      within = search rules;
    }

-- an entry with its reach is the one that stands there, and those after it follow from it
pub returns-then-entry-standing-clause-reached : goal.returns-then-entry-standing-clause-reached
returns-then-entry-standing-clause-reached c =
    let entries = c.loop-i.entries.items in
    let i = c.loop-i.i in
    let standing = c.index-standing.result.now in
    let entry = c.behind-entry.result in
    let inside : i < length entries = search rules in
    let same : standing ≡ entry =
    ap (λ (r : ℕ). record { span = standing.span; reach = r }) (sym c.if-entry-standing.true)
    ∙ ap (λ (s : Span). record { span = s; reach = entry.reach }) (sym (ap (λ (e : Entry). e.span) c.behind-entry.ensures))
    in
    let is : standing ≡ entry_behind (last_or None (take i entries)) standing.span =
    same ∙ c.behind-entry.ensures ∙ ap (λ b. entry_behind b standing.span) c.loop-i.invariant.last
    in
    reached-whole None entries i standing inside c.loop-i.invariant.reached c.loop-i.invariant.chained
    (sym c.index-standing.ensures ∙ is ∙ ap (λ (e : Entry). entry_behind (last_or None (take i entries)) e.span) c.index-standing.ensures)
