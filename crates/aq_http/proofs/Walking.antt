-- The walk of the router, which ends where no row is left. So a long path computes: the router's own words walk on over no rows, twice for each byte.
use Rattle.std.proofs.Common.{◌≡◌, ℕ, zero, suc, ◌-◌, Bool, true, false, cond, List, [], ◌∷◌, length, refl, ap, ◌∙◌, Option, None}
use Rattle.matchit.specs.Rows.{RowsOf, param_token, catch_all_token}
use Rattle.matchit.specs.Seek.{has_slash, or_else, own, param_step, seek, step}

abbrev at_once : {K : Type 0} → List ℕ → Bool → ℕ × RowsOf K
at_once path slashed = cond slashed (0, []) (length path, [])

none_at_once : {K : Type 0} (path : List ℕ) (slashed : Bool) → ◌≡◌ {A = RowsOf K} (at_once path slashed).1 []
none_at_once path true = refl
none_at_once path false = refl

no_step : {K : Type 0} (path : List ℕ) → ◌≡◌ {A = RowsOf K} (param_step [] path).1 []
unfolding param_step
no_step path = none_at_once path (has_slash path)

no_seek : {K : Type 0} (skip : ℕ) (path : List ℕ) → seek {K = K} skip [] path ≡ None
unfolding seek
no_seek skip [] = refl
no_seek (suc skip) (b ∷ path) = no_seek skip path
no_seek {K} zero (b ∷ path) =
    ap (λ (o : Option K). or_else o (or_else (seek ((param_step {K = K} [] (b ∷ path)).0 - 1) (param_step {K = K} [] (b ∷ path)).1 path) None)) (no_seek 0 path)
    ∙ ap (λ (rows : RowsOf K). or_else (seek ((param_step {K = K} [] (b ∷ path)).0 - 1) rows path) None) (no_step (b ∷ path))
    ∙ ap (λ (o : Option K). or_else o None) (no_seek ((param_step {K = K} [] (b ∷ path)).0 - 1) path)

unfoldable pub walk : {K : Type 0} → ℕ → RowsOf K → List ℕ → Option K
walk skip [] path = None
walk skip (row ∷ rows) [] = own (row ∷ rows)
walk (suc skip) (row ∷ rows) (b ∷ path) = walk skip (row ∷ rows) path
walk zero (row ∷ rows) (b ∷ path) =
    or_else (walk 0 (step b (row ∷ rows)) path)
    (or_else (walk ((param_step (step param_token (row ∷ rows)) (b ∷ path)).0 - 1) (param_step (step param_token (row ∷ rows)) (b ∷ path)).1 path)
    (own (step catch_all_token (row ∷ rows))))

pub walks : {K : Type 0} (skip : ℕ) (rows : RowsOf K) (path : List ℕ) → seek skip rows path ≡ walk skip rows path
unfolding seek walk
walks skip [] path = no_seek skip path
walks skip (row ∷ rows) [] = refl
walks (suc skip) (row ∷ rows) (b ∷ path) = walks skip (row ∷ rows) path
walks zero (row ∷ rows) (b ∷ path) = λ i.
    or_else (walks 0 (step b (row ∷ rows)) path i)
    (or_else (walks ((param_step (step param_token (row ∷ rows)) (b ∷ path)).0 - 1) (param_step (step param_token (row ∷ rows)) (b ∷ path)).1 path i)
    (own (step catch_all_token (row ∷ rows))))
