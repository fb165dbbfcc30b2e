use Rattle.std.proofs.Common.{◌≡◌, List, [], Some, ap, sym, subst, ◌∙◌}
use Rattle.aq_base.specs.Site.{Site}
use Rattle.aq_rules.specs.Questions.Spelling.{site_word}
use Rattle.aq_words.specs.Commas.{behind_comma}
use Rattle.aq_rules.specs.Questions.Spelling.{if_sites}
use Rattle.aq_words.proofs.Entries.{all_entries, entries_onto, further_sites, here, no_entry, no_further, no_room, one_entry, sites-first, sites-more}
use Rattle.aq_words.proofs.lists.sites_word.Goals as goal

pub returns-in_err-site_word : goal.returns-in_err-site_word
returns-in_err-site_word c =
    let none = sym c.site_word.ensures ∙ c.in_err-site_word.was in
    c.from_residual.ensures ∙ sym (no_entry site_word if_sites [] c.cut_at_comma.result.0.now (behind_comma c.cut_at_comma.result.1) none)
    ∙ sites-first c.args.text.now c.cut_at_comma.result.0.now (behind_comma c.cut_at_comma.result.1) c.cut_at_comma.ensures

pub loop-left-init : goal.loop-left-init
loop-left-init c =
    let one = sym c.site_word.ensures ∙ c.in_ok-site_word.was in
    ap (λ l. entries_onto site_word if_sites l (behind_comma c.cut_at_comma.result.1)) c.new-sites.ensures
    ∙ sym (one_entry site_word if_sites [] c.in_ok-site_word.field-0 c.cut_at_comma.result.0.now (behind_comma c.cut_at_comma.result.1) one)
    ∙ sites-first c.args.text.now c.cut_at_comma.result.0.now (behind_comma c.cut_at_comma.result.1) c.cut_at_comma.ensures

pub returns-in_err-site_word-2 : goal.returns-in_err-site_word-2
returns-in_err-site_word-2 c =
    let entry = c.cut_at_comma-in-Some.result.0.now in
    let behind = behind_comma c.cut_at_comma-in-Some.result.1 in
    let none = sym c.site_word-in-Some.ensures ∙ c.in_err-site_word-2.was in
    c.from_residual-in_err-site_word-2.ensures ∙ sym (no_entry site_word if_sites c.loop-left.sites entry behind none)
    ∙ here site_word if_sites c.loop-left.sites _ c.in-Some.rest entry behind _ c.in-Some.is c.cut_at_comma-in-Some.ensures c.loop-left.invariant

pub returns-then-not-add : goal.returns-then-not-add
returns-then-not-add c =
    let entry = c.cut_at_comma-in-Some.result.0.now in
    let behind = behind_comma c.cut_at_comma-in-Some.result.1 in
    let one = sym c.site_word-in-Some.ensures ∙ c.in_ok-site_word-2.was in
    let full = no_further c.loop-left.sites c.in_ok-site_word-2.field-0 (sym c.add.ensures.taken ∙ c.if-not-add.true) in
    sym (no_room site_word if_sites c.loop-left.sites c.in_ok-site_word-2.field-0 entry behind one full)
    ∙ here site_word if_sites c.loop-left.sites _ c.in-Some.rest entry behind _ c.in-Some.is c.cut_at_comma-in-Some.ensures c.loop-left.invariant

pub loop-left-preserved : goal.loop-left-preserved
loop-left-preserved c =
    let entry = c.cut_at_comma-in-Some.result.0.now in
    let behind = behind_comma c.cut_at_comma-in-Some.result.1 in
    let site = c.in_ok-site_word-2.field-0 in
    let one = sym c.site_word-in-Some.ensures ∙ c.in_ok-site_word-2.was in
    let more = sites-more c.loop-left.sites c.add.new.self site c.add.ensures.sites (sym c.add.ensures.taken ∙ c.if-not-add.false) in
    ap (λ l. entries_onto site_word if_sites l behind) more ∙ sym (one_entry site_word if_sites c.loop-left.sites site entry behind one)
    ∙ here site_word if_sites c.loop-left.sites _ c.in-Some.rest entry behind _ c.in-Some.is c.cut_at_comma-in-Some.ensures c.loop-left.invariant

pub returns : goal.returns
returns c =
    let whole = subst (λ (l : List Site). if_sites l ≡ Some l) c.as_slice.ensures.value (further_sites c.as_slice.result.now c.as_slice.ensures.distinct c.as_slice.ensures.few) in
    sym (all_entries site_word if_sites c.loop-left.sites whole)
    ∙ ap (λ l. entries_onto site_word if_sites c.loop-left.sites (behind_comma l)) (sym c.in_default.is) ∙ c.loop-left.invariant
