use Rattle.std.proofs.Common.{refl}
use Rattle.std.specs.Fmt.{digits}
use Rattle.aq_rules.specs.Shown.Json.{json_of}
use Rattle.aq_rules.specs.Shown.Sheets.{load_sheet}
use Rattle.aq_rules.specs.Shown.OtherSheets.{error_sheet}
use Rattle.aq_base.specs.Decimal.{last_digits}
use Rattle.aq_rules.specs.Shown.Sheet.{site_text}
use Rattle.aq_rules.proofs.shown.json.sheets_have_their_json.Goals as goal

pub returns : goal.returns
unfolding digits load_sheet json_of error_sheet last_digits site_text
returns c = record { body = refl; bytes = refl; error_has_one_member = refl; cells_have_their_json = refl }
