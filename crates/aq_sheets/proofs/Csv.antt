-- The text of a record without quotes.
use Rattle.std.proofs.Common.{◌≡◌, ℕ, ◌≤◌, List, [], ◌∷◌, ◌++◌, length, map, Bor, ap, arith}
use Rattle.std.specs.List.{join_with_byte}
use Rattle.std.proofs.lemmas.List.{append-nil}
use Rattle.csv.specs.Writing.{fields_text, is_blank, row_text}
use Rattle.aq_rules.specs.Shown.Export.{csv_record}
use Rattle.aq_sheets.specs.Written.{plain}

fields-joined : (field : List ℕ) (fields : List (List ℕ)) → field ++ fields_text plain fields ≡ join_with_byte 44 (field ∷ fields)
unfolding fields_text
fields-joined field [] = append-nil field
fields-joined field (next ∷ fields) = ap (λ (rest : List ℕ). field ++ 44 ∷ rest) (fields-joined next fields)

pub record-text : (fields : List (Bor (List ℕ))) → 2 ≤ length fields → row_text plain (map (λ (field : Bor (List ℕ)). field.now) fields) ≡ csv_record (map (λ (field : Bor (List ℕ)). field.now) fields)
unfolding is_blank
record-text [] some = absurd (omega (arith, some))
record-text (field ∷ []) some = absurd (omega (arith, some))
record-text (field ∷ next ∷ fields) some = ap (λ (text : List ℕ). text ++ 10 ∷ []) (fields-joined field.now (next.now ∷ map (λ (field : Bor (List ℕ)). field.now) fields))
