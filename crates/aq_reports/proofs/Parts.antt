-- The parts of a sheet, as they are made one after another.
use Rattle.std.proofs.Common.{◌≡◌, ℕ, List, [], ◌++◌, ap, ◌∙◌}
use Rattle.aq_rules.specs.Shown.Sheet.{SheetCell, Head, Sheet}

-- rows that come in two parts
pub two_parts : {X : Type 0} (start one all a b : List X) → start ≡ [] → one ≡ start ++ a → all ≡ one ++ b → all ≡ a ++ b
two_parts start one all a b none first second =
    second ∙ ap (λ rows. rows ++ b) (first ∙ ap (λ rows. rows ++ a) none)

-- a sheet whose parts are others
pub same_sheet : (h k : List Head) (n m : List (List ℕ)) (r s : List (List SheetCell)) → h ≡ k → n ≡ m → r ≡ s
    → (let sheet : Sheet = record { heads = h; columns = n; rows = r } in sheet) ≡ record { heads = k; columns = m; rows = s }
same_sheet h k n m r s heads columns rows = λ i. record { heads = heads i; columns = columns i; rows = rows i }
