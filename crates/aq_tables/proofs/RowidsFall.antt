-- A SELECT of rowids that do not rise.
use Rattle.std.proofs.Common.{◌≡◌, ℤ, ℕ, ◌&&◌, Bool, true, false, List, [], ◌∷◌, ◌++◌, Option, Some, None, refl, sym, ap, ap₂, subst, ◌∙◌}
use Rattle.std.proofs.lemmas.Bool.{false≢true}
use Rattle.sqlite.specs.declared.types.Value.TheVariants.{Int}
use Rattle.sqlite.specs.Order.{Row}
use Rattle.sqlite.specs.Effect.{Database}
use Rattle.sqlite_value.specs.Order.{column}
use Rattle.sqlite_rules.specs.Edit.{id_in}
use Rattle.aq_tables.specs.Rowids.{is_after}
use Rattle.aq_tables.specs.Why.{Begins}
use Rattle.aq_tables.specs.WhyMade.{DoesNotRise}

-- the last of the rows begins with this number, if there is one
abbrev pub IsLast : Option ℤ → List Row → Type 0
IsLast None rows = Unit {0}
IsLast (Some number) rows = (before : List Row) × (row : Row) × (rows ≡ before ++ row ∷ []) × (id_in (column row 0) ≡ number)

pub last_now : (rows : List Row) (row : Row) (number : ℤ) → column row 0 ≡ Int number → IsLast (Some number) (rows ++ row ∷ [])
last_now rows row number is = (rows, row, refl, ap id_in is)

-- where the number of the next row is not after the last one
pub falls_here : (text : List ℕ) (db : Database) (last : Option ℤ) (rows : List Row) (row : Row) (number : ℤ) → column row 0 ≡ Int number → is_after last number ≡ false → IsLast last rows → Begins text db (rows ++ row ∷ [])
    → DoesNotRise text db
falls_here text db None rows row number is after it begun = absurd (false≢true (sym after))
falls_here text db (Some last) rows row number is after (before, row_before, are, its) begun =
    (before, row_before, row, subst (λ l. Begins text db (l ++ row ∷ [])) are begun, ap₂ (λ a b. is_after (Some a) b) its (ap id_in is) ∙ after)

pub falls_next : (text : List ℕ) (db : Database) (rise : Bool) (last : Option ℤ) (next : Bool) (rows : List Row) (row : Row) (number : ℤ) → column row 0 ≡ Int number → next ≡ (rise && is_after last number) → next ≡ false → IsLast last rows
    → Begins text db (rows ++ row ∷ []) → (rise ≡ false → DoesNotRise text db) → DoesNotRise text db
falls_next text db false last next rows row number is known fell it begun before = before refl
falls_next text db true last next rows row number is known fell it begun before = falls_here text db last rows row number is (sym known ∙ fell) it begun
