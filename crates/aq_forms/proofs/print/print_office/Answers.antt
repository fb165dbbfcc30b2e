use Rattle.std.proofs.Common.{◌++◌, ◌∙◌, List, ℕ, ap}
use Rattle.aq_rules.specs.Lines.Canonical.{canonical_office}
use Rattle.aq_forms.specs.OfficeReading.{has_rd_tag}
use Rattle.aq_forms.proofs.OfficePrinted.{no_rd-line}
use Rattle.aq_forms.proofs.print.print_office.Goals as goal

pub returns-clause-no_rd : goal.returns-clause-no_rd
returns-clause-no_rd c =
    ap has_rd_tag
    (c.in_ok-write_line.ensures ∙ ap (λ (text : List ℕ). text ++ canonical_office c.args.line.now) c.new-out.ensures.items)
    ∙ no_rd-line c.args.line.now
