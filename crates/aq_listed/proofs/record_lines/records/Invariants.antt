use Rattle.std.proofs.Common.{◌≡◌, ◌++◌, flat_map}
use Rattle.aq_rules.specs.Listed.Records.{record_text}
use Rattle.aq_listed.proofs.record_lines.records.Given as goal

abbrev pub invariant-loop-record : goal.invariant-loop-record
invariant-loop-record l = l.text.items ++ flat_map record_text l.record-iterator ≡ flat_map record_text l.registry
