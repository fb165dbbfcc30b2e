use Rattle.std.proofs.Common.{◌≡◌, true, drop}
use Rattle.std.specs.List.{list_all}
use Rattle.aq_rules.specs.Shown.WellFormed.{is_head}
use Rattle.aq_sheets.specs.JsonView.{with_heads}
use Rattle.aq_sheets.specs.PartView.{are_parts, parts_data}
use Rattle.aq_sheets.proofs.json_text.put_heads.Given as goal

abbrev pub invariant-loop-head : goal.invariant-loop-head
invariant-loop-head l = record {
  members : with_heads (drop l.head-index l.heads) (parts_data l.parts.entries) ≡ with_heads l.heads (parts_data l.fn.parts.entries);
  parts : are_parts l.parts.entries ≡ true;
  left : list_all is_head (drop l.head-index l.heads) ≡ true;
}
