use Rattle.std.proofs.Common.{◌≡◌, true, not, take}
use Rattle.std.specs.List.{list_all}
use Rattle.aq_rules.specs.Lines.Fields.{is_bar}
use Rattle.aq_rd.proofs.fields.first_field.Given as goal

abbrev pub invariant-loop-place : goal.invariant-loop-place
invariant-loop-place l = list_all (λ byte. not (is_bar byte)) (take l.place l.text) ≡ true
