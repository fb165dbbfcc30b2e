-- A walk over the rows of a list, of which a test asks something.
use Rattle.std.proofs.Common.{◌≡◌, Bool, true, false, List, [], ◌∷◌, refl, ap, sym, ◌∙◌, ◌⊎◌, inl, inr}
use Rattle.std.specs.Prelude.{◌||◌}
use Rattle.std.specs.List.{list_any}
use Rattle.std.proofs.lemmas.Bool.{false≢true}

-- a row that passes is still to come, or what it asks is done: after one more row
pub walk-more : {X D E : Type 0} (test : X → Bool) (old rest : List X) (row : X) → old ≡ row ∷ rest → (list_any test old ≡ true) ⊎ D
    → (test row ≡ true → E) → (D → E) → (list_any test rest ≡ true) ⊎ E
walk-more test old rest row is (inr done) here stays = inr (stays done)
walk-more {E = E} test old rest row is (inl any) here stays = by (test row) refl (sym (ap (list_any test) is) ∙ any)
  where
    by : (b : Bool) → test row ≡ b → (b || list_any test rest) ≡ true → (list_any test rest ≡ true) ⊎ E
    by true e any = inr (here e)
    by false e any = inl any

-- at the end it is done
pub walk-done : {X D : Type 0} (test : X → Bool) (left : List X) → left ≡ [] → (list_any test left ≡ true) ⊎ D → D
walk-done test left is (inr done) = done
walk-done test left is (inl any) = absurd (false≢true (sym (ap (list_any test) is) ∙ any))
