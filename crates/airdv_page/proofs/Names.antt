-- Names of heads that are left where no line is.
use Rattle.std.proofs.Common.{◌≡◌, ℕ, zero, suc, ◌<◌, false, List, [], ◌∷◌, length, drop, map, refl, arith}
use Rattle.aq_pages.specs.Sheets.{Line}
use Rattle.airdv_page.specs.Reading.{are_heads}

pub no_line_left :
    {A : Type 0} (name_in : A → List ℕ) (i : ℕ) (names : List A) (rest : List Line)
    → i < length names → length rest < 1 → are_heads (map name_in (drop i names)) rest ≡ false
no_line_left name_in i [] rest within empty = absurd (omega (arith, within))
no_line_left name_in i (name ∷ names) (line ∷ rest) within empty = absurd (omega (arith, empty))
no_line_left name_in zero (name ∷ names) [] within empty = refl
no_line_left name_in (suc i) (name ∷ names) [] within empty = no_line_left name_in i names [] (omega (arith, within)) empty
