use Rattle.std.proofs.Common.{rules, ◌≡◌, ◌∙◌, ◌<◌, ap, sym, subst, None, take, length}
use Rattle.std.specs.Prelude.{slice_set}
use Rattle.std.specs.List.{last_or}
use Rattle.std.proofs.lemmas.List.{length-set}
use Rattle.aq_registry.specs.declared.agreed.Entry.{Entry}
use Rattle.aq_registry.specs.Agreed.{entry_behind, AreReached}
use Rattle.aq_registry.proofs.ReachLemmas.{next, reached-set, last-set, spans-set}
use Rattle.aq_registry.proofs.agreed.reach.Goals as goal

pub loop-i-preserved : goal.loop-i-preserved
loop-i-preserved c =
    let entries = c.loop-i.entries.items in
    let i = c.loop-i.i in
    let entry = c.behind-entry.result in
    let other = c.index.result.now in
    let inside : i < length entries = search rules in
    let span_is : entry.span ≡ other.span = ap (λ (e : Entry). e.span) c.behind-entry.ensures in
    let is : entry ≡ entry_behind (last_or None (take i entries)) entry.span =
    c.behind-entry.ensures ∙ ap (entry_behind c.loop-i.before) (sym span_is) ∙ ap (λ b. entry_behind b entry.span) c.loop-i.invariant.last
    in
    record {
      same = spans-set entries i other entry inside (span_is ∙ ap (λ (e : Entry). e.span) c.index.ensures) ∙ c.loop-i.invariant.same;
      reached = subst (λ k. AreReached None (take k (slice_set entries i entry))) (next i) (reached-set None entries i other entry inside c.loop-i.invariant.reached is);
      last = last-set None entries i entry inside ∙ ap (λ k. last_or None (take k (slice_set entries i entry))) (next i);
      long = length-set entries i entry ∙ c.loop-i.invariant.long;
      within = search rules;
      as_large = search rules;
    }
