-- Rows and cells as the book of rules has them.
use Rattle.aq_base.specs.Site.{Site}
use Rattle.aq_rules.specs.Shown.OtherSheets.{Judged, judged_by}
use Rattle.aq_verdict.specs.declared.design_value.DesignValue.{DesignValue}
use Rattle.aq_verdict.specs.Designs.{design_of}

-- a site and its design value
abbrev pub judged_in : Site × DesignValue → Judged
judged_in row = judged_by row.0 (design_of row.1)
