use Rattle.std.proofs.Common.{rules, ◌≡◌, ◌+◌, ◌<◌, false, ◌∷◌, ap, sym, ◌∙◌, drop, get_or, length, add-one}
use Rattle.std.proofs.Math.Seq.{drop-cons}
use Rattle.std.proofs.lemmas.Bool.{and_parts}
use Rattle.aq_base.specs.declared.assumed.Assumed.{Assumed}
use Rattle.aq_registry.specs.Registry.{office_with}
use Rattle.aq_rules.specs.Lines.Spellings.{is_event_number}
use Rattle.aq_rules.specs.WhatIf.Assumed.{unknown_event}
use Rattle.aq_design.specs.WhatIf.Records.{are_event_numbers, records_as_if}
use Rattle.aq_design.proofs.WhatIfLemmas.AsIf.{others-known}
use Rattle.aq_design.proofs.what_if.records.assume_all.Goals as goal

pub loop-entry-preserved : goal.loop-entry-preserved
loop-entry-preserved c =
    let list = c.args.assumed.now in
    let i = c.loop-entry.entry-index in
    let records = c.loop-entry.records in
    let blank : Assumed = record { number = 0; agreed = false } in
    let entry : Assumed = get_or list i blank in
    let rest = drop (i + 1) list in
    let below : i < length list = search rules in
    let split : drop i list ≡ entry ∷ rest = rw add-one (drop-cons list i blank below) in
    record {
      records = ap (λ r. records_as_if r rest) c.in_ok-assume.ensures ∙ ap (records_as_if records) (sym split) ∙ c.loop-entry.invariant.records;
      numbers = (and_parts (is_event_number entry.number) (are_event_numbers rest) (ap are_event_numbers (sym split) ∙ c.loop-entry.invariant.numbers)).1;
      known = rw c.in_ok-assume.ensures (others-known records entry rest (ap (unknown_event (office_with records)) (sym split) ∙ c.loop-entry.invariant.known));
    }
