use Rattle.std.proofs.Common.{◌≡◌, ◌∙◌, length, ap, sym, subst, true}
use Rattle.aq_rules.specs.Office.Office.{IsOffice, key_of, record_rank, rises, sites_of, with_row}
use Rattle.aq_registry.specs.Agreed.{AreAgreedOf, is_agreed_in, is_noted, number_of, spans_put}
use Rattle.aq_registry.specs.Registry.{IsRegistry, events_in, office_with}
use Rattle.aq_registry.proofs.HeldLemmas.{held-put, unnoted}
use Rattle.aq_registry.proofs.registry.Registry.put_record.Goals as goal

-- there may be more room for agreed events, and nothing else was changed
pub invariant_of-self : goal.invariant_of-self
invariant_of-self c =
    subst (λ spans. IsRegistry c.self.inside.records c.self.inside.sites c.self.inside.events spans) (sym c.in_err-reserve.ensures.same) c.self.invariant

pub invariant_of-self-2 : goal.invariant_of-self-2
invariant_of-self-2 c =
    let rows = c.put.new.self in
    let after : rows ≡ with_row record_rank c.args.row c.args.self.now = c.in_ok-put.ensures.ok ∙ ap (with_row record_rank c.args.row) c.self.view_is in
    let spans : c.note_put.new.agreed.spans ≡ spans_put rows (number_of (key_of c.args.row)) c.self.inside.agreed.spans =
    c.note_put.ensures ∙ ap (λ key. spans_put rows (number_of key) c.reserve.new.self.spans) c.key-3.ensures ∙ ap (spans_put rows (number_of (key_of c.args.row))) c.in_ok-reserve.ensures.same
    in
    record {
      office = subst (λ rows. IsOffice (office_with rows)) (sym after) c.requires;
      sites_counted = c.sites_with-sites.ensures ∙ ap (λ rows. length (sites_of rows)) (sym after);
      events_counted = c.events_with-events.ensures ∙ ap events_in (sym after);
      agreed_held =
          subst (λ spans. AreAgreedOf rows spans) (sym spans)
          (held-put c.args.row c.self.inside.records rows c.self.inside.agreed.spans c.in_ok-put.ensures.ok
          (subst (λ rows. rises record_rank rows ≡ true) (sym after) c.requires.keys_rise.records) c.self.invariant.agreed_held);
    }

pub note_put-requires-clause-noted : goal.note_put-requires-clause-noted
note_put-requires-clause-noted c = λ none.
    let rows = c.self.inside.records in
    ap (λ spans. is_noted (number_of c.key-3.result) spans) c.in_ok-reserve.ensures.same
    ∙ ap (λ key. is_noted (number_of key) c.self.inside.agreed.spans) c.key-3.ensures
    ∙ unnoted rows c.self.inside.agreed.spans c.self.invariant.office.keys_rise.records c.self.invariant.agreed_held (number_of (key_of c.args.row))
    (ap (λ key. is_agreed_in rows (number_of key)) (sym c.key-2.ensures) ∙ sym c.is_agreed-was.ensures ∙ none)
