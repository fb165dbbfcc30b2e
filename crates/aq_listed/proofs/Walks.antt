-- A step of a walk that makes a row of each item, and of one that keeps the items that pass a test.
use Rattle.std.proofs.Common.{◌≡◌, Bool, true, false, cond, filter, refl, List, [], ◌∷◌, ◌++◌, map, append_assoc, ap, sym, ◌∙◌}

pub mapped-more : {X Y : Type 0} (f : X → Y) (before after all : List Y) (left rest : List X) (x : X) (y : Y)
    → after ≡ before ++ y ∷ [] → y ≡ f x → left ≡ x ∷ rest → before ++ map f left ≡ all → after ++ map f rest ≡ all
mapped-more f before after all left rest x y pushed is next so_far =
    ap (λ ys. ys ++ map f rest) pushed
    ∙ append_assoc before (y ∷ []) (map f rest)
    ∙ ap (λ z. before ++ z ∷ map f rest) is
    ∙ ap (λ xs. before ++ map f xs) (sym next)
    ∙ so_far

pub filtered-more : {X : Type 0} (test : X → Bool) (before after all left rest : List X) (x : X)
    → after ≡ before ++ cond (test x) (x ∷ []) [] → left ≡ x ∷ rest → before ++ filter test left ≡ all → after ++ filter test rest ≡ all
filtered-more test before after all left rest x pushed next so_far =
    ap (λ ys. ys ++ filter test rest) pushed
    ∙ append_assoc before (cond (test x) (x ∷ []) []) (filter test rest)
    ∙ ap (λ zs. before ++ zs) (joined (test x))
    ∙ ap (λ xs. before ++ filter test xs) (sym next)
    ∙ so_far
  where
    joined : (b : Bool) → cond b (x ∷ []) [] ++ filter test rest ≡ cond b (x ∷ filter test rest) (filter test rest)
    joined true = refl
    joined false = refl
