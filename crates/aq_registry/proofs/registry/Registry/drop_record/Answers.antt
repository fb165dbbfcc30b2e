use Rattle.std.proofs.Common.{◌≡◌, ◌∙◌, length, ap, sym, subst, true}
use Rattle.aq_rules.specs.Office.Load.{without_key}
use Rattle.aq_rules.specs.Office.Office.{IsOffice, record_rank, rises, sites_of}
use Rattle.aq_registry.specs.Registry.{events_in, office_with}
use Rattle.aq_registry.specs.Agreed.{AreAgreedOf, number_of}
use Rattle.aq_registry.proofs.HeldLemmas.{held-dropped, unnoted}
use Rattle.aq_registry.proofs.RowCounts.{sites_dropped, only_records}
use Rattle.aq_registry.proofs.registry.Registry.drop_record.Goals as goal

pub invariant_of-self : goal.invariant_of-self
invariant_of-self c =
    let after : c.remove_whole.new.records ≡ (without_key c.args.key (office_with c.args.self.now)).records =
    c.remove_whole.ensures ∙ ap (λ rows. (without_key c.args.key (office_with rows)).records) c.self.view_is in
    record {
      office = subst (λ rows. IsOffice (office_with rows)) (sym after) (subst IsOffice (only_records c.args.key c.args.self.now) c.requires.valid);
      sites_counted =
          c.self.invariant.sites_counted ∙ ap (λ rows. length (sites_of rows)) c.self.view_is
          ∙ ap length (sym (sites_dropped c.args.key c.args.self.now c.requires.spelled))
          ∙ ap (λ rows. length (sites_of rows)) (sym after);
      events_counted = c.events_without-events.ensures ∙ ap events_in (sym after);
      agreed_held =
          subst (λ rows. AreAgreedOf rows c.note_drop.new.agreed.spans) (sym c.remove_whole.ensures)
          (subst (λ spans. AreAgreedOf (without_key c.args.key (office_with c.self.inside.records)).records spans) (sym c.note_drop.ensures)
          (held-dropped c.args.key c.self.inside.records c.self.inside.agreed.spans
          (subst (λ rows. rises record_rank (without_key c.args.key (office_with rows)).records ≡ true) (sym c.self.view_is) c.requires.valid.keys_rise.records)
          c.self.invariant.agreed_held));
    }

pub note_drop-requires : goal.note_drop-requires
note_drop-requires c = λ none.
    unnoted c.self.inside.records c.self.inside.agreed.spans c.self.invariant.office.keys_rise.records c.self.invariant.agreed_held (number_of c.args.key)
    (sym c.is_agreed-was.ensures ∙ none)
