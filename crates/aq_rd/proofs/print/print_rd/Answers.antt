use Rattle.std.proofs.Common.{◌++◌, ◌∙◌, List, ℕ, ap}
use Rattle.aq_rules.specs.Lines.Canonical.{canonical_rd}
use Rattle.aq_rd.specs.RdReading.{value_of}
use Rattle.aq_rd.specs.Tags.{has_office_tag}
use Rattle.aq_rd.proofs.Printed.{no_office-line}
use Rattle.aq_rd.proofs.print.print_rd.Goals as goal

pub returns-clause-no_office : goal.returns-clause-no_office
returns-clause-no_office c =
    ap has_office_tag
    (c.in_ok-write_line.ensures ∙ ap (λ (text : List ℕ). text ++ canonical_rd (value_of c.args.line.now)) c.new-out.ensures.items)
    ∙ no_office-line c.args.line.now
