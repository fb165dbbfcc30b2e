-- The body of a reply that is an error.
use Rattle.std.proofs.Common.{◌≡◌, ℕ, List, ◌++◌, codes, ap, append_assoc}
use Rattle.aq_rules.specs.Shown.Json.{json_of}
use Rattle.aq_rules.specs.Shown.OtherSheets.{error_sheet}
use Rattle.aq_serve.specs.Answered.{error_body, error_name}

pub error_sheet_is : (name : List ℕ) → json_of (error_sheet name) ≡ codes "{\"error\":\"" ++ (name ++ codes "\"}")
unfolding json_of error_sheet
error_sheet_is name = ap (λ t. codes "{\"error\":\"" ++ t) (append_assoc name (codes "\"") (codes "}"))

pub error_body_is : (status : ℕ) → error_body status ≡ codes "{\"error\":\"" ++ (error_name status ++ codes "\"}")
unfolding error_body
error_body_is status = error_sheet_is (error_name status)
