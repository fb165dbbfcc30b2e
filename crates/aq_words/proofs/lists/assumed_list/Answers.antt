use Rattle.std.proofs.Common.{◌≤◌, List, length, ap, sym, ◌∙◌, arith}
use Rattle.aq_base.specs.declared.assumed.Assumed.{Assumed}
use Rattle.aq_words.specs.Commas.{behind_comma}
use Rattle.aq_rules.specs.Questions.Spelling.{assumed_in, between_commas, if_few}
use Rattle.aq_words.proofs.Entries.{all_entries, assumed-start, entries_onto, few_enough, here, no_entry, no_room, too_many}
use Rattle.aq_words.proofs.lists.assumed_list.Goals as goal

pub loop-left-init : goal.loop-left-init
loop-left-init c = record {
  few = omega (arith, ap (λ (l : List Assumed). length l) c.new-list.ensures);
  entries = ap (λ l. entries_onto assumed_in if_few l (between_commas c.args.text.now)) c.new-list.ensures ∙ assumed-start c.args.text.now;
}

pub returns-in_err-assumed_in : goal.returns-in_err-assumed_in
returns-in_err-assumed_in c =
    let none = sym c.assumed_in.ensures ∙ c.in_err-assumed_in.was in
    c.from_residual.ensures ∙ sym (no_entry assumed_in if_few c.loop-left.list c.cut_at_comma.result.0.now (behind_comma c.cut_at_comma.result.1) none)
    ∙ here assumed_in if_few c.loop-left.list _ c.in-Some.rest c.cut_at_comma.result.0.now (behind_comma c.cut_at_comma.result.1) _ c.in-Some.is c.cut_at_comma.ensures c.loop-left.invariant.entries

pub returns-then-not-add : goal.returns-then-not-add
returns-then-not-add c =
    let one = sym c.assumed_in.ensures ∙ c.in_ok-assumed_in.was in
    let full = too_many c.loop-left.list c.in_ok-assumed_in.field-0 (sym c.add.ensures.taken ∙ c.if-not-add.true) in
    sym (no_room assumed_in if_few c.loop-left.list c.in_ok-assumed_in.field-0 c.cut_at_comma.result.0.now (behind_comma c.cut_at_comma.result.1) one full)
    ∙ here assumed_in if_few c.loop-left.list _ c.in-Some.rest c.cut_at_comma.result.0.now (behind_comma c.cut_at_comma.result.1) _ c.in-Some.is c.cut_at_comma.ensures c.loop-left.invariant.entries

pub returns : goal.returns
returns c =
    sym (all_entries assumed_in if_few c.loop-left.list (few_enough c.loop-left.list c.loop-left.invariant.few))
    ∙ ap (λ l. entries_onto assumed_in if_few c.loop-left.list (behind_comma l)) (sym c.in_default.is) ∙ c.loop-left.invariant.entries
