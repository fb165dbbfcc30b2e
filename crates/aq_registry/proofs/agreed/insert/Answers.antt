use Rattle.std.proofs.Common.{◌≡◌, ◌∙◌, ◌++◌, ◌∷◌, List, ap, sym, subst, suc, None, take, drop, true, false}
use Rattle.std.specs.List.{AllByRecursion, last_or}
use Rattle.aq_registry.specs.declared.agreed.Entry.{Entry}
use Rattle.aq_registry.specs.Agreed.{spans_of, starts_before, entry_behind, AreChained, AreReached}
use Rattle.aq_registry.proofs.AgreedLemmas.{spans-inserted}
use Rattle.aq_registry.proofs.ReachLemmas.{next, chained-inserted, reached-inserted}
use Rattle.aq_registry.proofs.agreed.insert.Goals as goal

pub returns-in-Ok-clause-spans : goal.returns-in-Ok-clause-spans
returns-in-Ok-clause-spans c =
    let entries = c.args.entries.now.items in
    let n = c.count_up_to-place.result in
    let start = c.args.span.start in
    ap spans_of (c.in-Ok.ensures.items ∙ ap (λ (e : Entry). take n entries ++ e ∷ drop n entries) c.behind-entry.ensures)
    ∙ spans-inserted (entry_behind c.last_of.result c.args.span) entries n
    (subst (λ l. AllByRecursion (λ (entry : Entry). starts_before start entry.span.start ≡ false) (take n l)) c.deref.ensures.value c.count_up_to-place.ensures.front)
    (subst (λ l. AllByRecursion (λ (entry : Entry). starts_before start entry.span.start ≡ true) (drop n l)) c.deref.ensures.value c.count_up_to-place.ensures.back)

pub returns-in-Ok-clause-reached : goal.returns-in-Ok-clause-reached
returns-in-Ok-clause-reached c =
    let entries = c.args.entries.now.items in
    let n = c.count_up_to-place.result in
    let entry = c.behind-entry.result in
    let before : c.last_of.result ≡ last_or None (take n entries) = c.last_of.ensures ∙ ap (λ (l : List Entry). last_or None (take n l)) c.deref-2.ensures.value in
    let is : entry ≡ entry_behind (last_or None (take n entries)) entry.span =
    c.behind-entry.ensures ∙ ap (λ b. entry_behind b c.args.span) before
    ∙ ap (entry_behind (last_or None (take n entries))) (sym (ap (λ (e : Entry). e.span) c.behind-entry.ensures))
    in
    subst (λ k. AreReached None (take k c.insert.new.self.items)) (next n)
    (subst (λ l. AreReached None (take (suc n) l)) (sym c.in-Ok.ensures.items) (reached-inserted None entries n entry c.requires.agreed.reached is))

pub returns-in-Ok-clause-chained : goal.returns-in-Ok-clause-chained
returns-in-Ok-clause-chained c =
    let entries = c.args.entries.now.items in
    let n = c.count_up_to-place.result in
    subst (λ k. AreChained (drop k c.insert.new.self.items)) (next n)
    (subst (λ l. AreChained (drop (suc n) l)) (sym c.in-Ok.ensures.items) (chained-inserted None entries n c.behind-entry.result c.requires.agreed.reached))
