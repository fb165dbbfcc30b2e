-- The rows of a valid office have no damaged one.
use Rattle.std.proofs.Common.{◌≡◌, true, cond, List, [], ◌∷◌, ◌++◌, map, refl, sym, ap, ◌∙◌, append_assoc, append-nil}
use Rattle.std.specs.Prelude.{Some, None}
use Rattle.std.proofs.lemmas.List.{map-append}
use Rattle.aq_base.specs.declared.observation.ObsKey.{ObsKey}
use Rattle.aq_base.specs.declared.observation.Observation.{Observation}
use Rattle.aq_base.specs.declared.office.OfficeRecord.{OfficeRecord}
use Rattle.aq_rules.specs.Office.Office.{Office, StoredLoad, IsOffice}
use Rattle.aq_rules.specs.Kept.Rows.{Row, rows_of, are_office_rows, place_of, damaged_at, damage}
use Rattle.aq_rules.proofs.OfficeBack.{rows-are, R, O, L}
use Rattle.aq_rules.proofs.Fronts.{records-front, observations-front, loads-front}

-- one more row that keeps the rows an office's
past : (before : List Row) (row : Row) (rows : List Row) → are_office_rows (before ++ row ∷ []) ≡ true → damaged_at before (row ∷ rows) ≡ damaged_at (before ++ row ∷ []) rows
past before row rows good = ap (λ b. cond b (damaged_at (before ++ row ∷ []) rows) (Some (place_of before row))) good

one_more : {X : Type 0} (write : X → Row) (before : List Row) (xs : List X) (x : X) → (before ++ map write xs) ++ write x ∷ [] ≡ before ++ map write (xs ++ x ∷ [])
one_more write before xs x =
    append_assoc before (map write xs) (write x ∷ []) ∙ ap (λ l. before ++ l) (sym (map-append write xs (x ∷ [])))

-- the rows of a list are passed one after the other, if each front of it keeps the rows an office's
module _ {X : Type 0} (write : X → Row) (before : List Row) (all : List X)
    (good : (xs ys : List X) → all ≡ xs ++ ys → are_office_rows (before ++ map write xs) ≡ true) where
  passed : (xs ys : List X) (rest : List Row) → all ≡ xs ++ ys → damaged_at (before ++ map write xs) (map write ys ++ rest) ≡ damaged_at (before ++ map write all) rest
  passed xs [] rest is = ap (λ l. damaged_at (before ++ map write l) rest) (sym (append-nil xs) ∙ sym is)
  passed xs (y ∷ ys) rest is =
      let next : all ≡ (xs ++ y ∷ []) ++ ys = is ∙ sym (append_assoc xs (y ∷ []) ys) in
      let more = one_more write before xs y in
      let kept : are_office_rows ((before ++ map write xs) ++ write y ∷ []) ≡ true = ap are_office_rows more ∙ good (xs ++ y ∷ []) ys next in
      past (before ++ map write xs) (write y) (map write ys ++ rest) kept
      ∙ ap (λ l. damaged_at l (map write ys ++ rest)) more ∙ passed (xs ++ y ∷ []) ys rest next

  pub passed-all : (rest : List Row) → damaged_at before (map write all ++ rest) ≡ damaged_at (before ++ map write all) rest
  passed-all rest = ap (λ l. damaged_at l (map write all ++ rest)) (sym (append-nil before)) ∙ passed [] all rest refl

records-good : (office : Office) → IsOffice office → (xs ys : List OfficeRecord) → office.records ≡ xs ++ ys → are_office_rows ([] ++ map R xs) ≡ true
unfolding rows_of
records-good office valid xs ys is =
    ap are_office_rows (sym (append-nil (map R xs)) ∙ sym (append-nil (map R xs ++ [])))
    ∙ rows-are (record { records = xs; observations = []; loads = [] }) (records-front office xs ys is valid)

loads-good : (office : Office) → IsOffice office → (xs ys : List StoredLoad) → office.loads ≡ xs ++ ys → are_office_rows (map R office.records ++ map L xs) ≡ true
unfolding rows_of
loads-good office valid xs ys is =
    ap are_office_rows (sym (append-nil (map R office.records ++ map L xs)))
    ∙ rows-are (record { records = office.records; observations = []; loads = xs }) (loads-front office xs ys is valid)

observations-good : (office : Office) → IsOffice office → (xs ys : List (ObsKey × Observation)) → office.observations ≡ xs ++ ys → are_office_rows ((map R office.records ++ map L office.loads) ++ map O xs) ≡ true
unfolding rows_of
observations-good office valid xs ys is = rows-are (record { records = office.records; observations = xs; loads = office.loads }) (observations-front office xs ys is valid)

pub undamaged : (office : Office) → IsOffice office → damage (rows_of office) ≡ None
unfolding damage rows_of
undamaged office valid =
    let A = map R office.records in
    let B = map L office.loads in
    let C = map O office.observations in
    ap (damaged_at []) (append_assoc A B C)
    ∙ passed-all R [] office.records (records-good office valid) (B ++ C)
    ∙ passed-all L A office.loads (loads-good office valid) C
    ∙ ap (damaged_at (A ++ B)) (sym (append-nil C))
    ∙ passed-all O (A ++ B) office.observations (observations-good office valid) []
