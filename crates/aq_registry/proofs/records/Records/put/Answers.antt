use Rattle.std.proofs.Common.{◌≡◌, ◌∙◌, ap}
use Rattle.std.specs.Map.{values_of}
use Rattle.aq_rules.specs.Office.Office.{key_of, record_rank, with_row}
use Rattle.aq_registry.specs.Places.{place_of}
use Rattle.aq_registry.proofs.EntryLemmas.{values-put, AreEntries-put}
use Rattle.aq_registry.proofs.records.Records.put.Goals as goal

at_key : (c : goal.In_ok-insert) → c.of-place.result ≡ place_of (key_of c.args.row)
at_key c = c.of-place.ensures ∙ ap place_of c.key.ensures

pub invariant_of-self-2 : goal.invariant_of-self-2
invariant_of-self-2 c =
    AreEntries-put c.of-place.result c.args.row c.self.inside.by_place.entries c.insert.new.self.entries (at_key c) c.self.invariant c.in_ok-insert.ensures.entries c.insert.ensures.ordered

pub returns-clause-ok : goal.returns-clause-ok
returns-clause-ok c =
    ap values_of c.in_ok-insert.ensures.entries
    ∙ values-put c.of-place.result c.args.row c.self.inside.by_place.entries (at_key c) c.self.invariant.placed
    ∙ ap (with_row record_rank c.args.row) c.self.view_is
