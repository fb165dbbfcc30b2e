use Rattle.std.proofs.Common.{◌∙◌, ap}
use Rattle.std.specs.Map.{values_of}
use Rattle.std.specs.BTreeMap.{is_at}
use Rattle.aq_rules.specs.Office.Office.{key_numbers, record_rank, without_row}
use Rattle.aq_registry.specs.Places.{place_cmp}
use Rattle.aq_registry.proofs.EntryLemmas.{values-removed, AreEntries-remove_entry}
use Rattle.aq_registry.proofs.records.Records.remove.Goals as goal

pub invariant_of-self : goal.invariant_of-self
invariant_of-self c =
    AreEntries-remove_entry (is_at (place_cmp c.of.result)) c.self.inside.by_place.entries c.remove.new.self.entries c.self.invariant c.remove.ensures.entries c.remove.ensures.ordered

pub returns : goal.returns
returns c =
    ap values_of c.remove.ensures.entries
    ∙ values-removed c.of.result c.args.key.now c.self.inside.by_place.entries c.of.ensures c.self.invariant
    ∙ ap (without_row record_rank (key_numbers c.args.key.now)) c.self.view_is
