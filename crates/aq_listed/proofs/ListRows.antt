-- One more row of a list whose rows are made of things in their order.
use Rattle.std.proofs.Common.{◌≡◌, List, [], ◌∷◌, ◌++◌, map, ap, sym, ◌∙◌}
use Rattle.std.proofs.lemmas.List.{append_assoc}

pub one_more : {X Y : Type 0} (f : X → Y) (rows new : List Y) (x : X) (row : Y) (here behind : List X) → new ≡ rows ++ row ∷ [] → row ≡ f x → here ≡ x ∷ behind
    → new ++ map f behind ≡ rows ++ map f here
one_more f rows new x row here behind pushed is next =
    ap (λ l. l ++ map f behind) pushed
    ∙ append_assoc rows (row ∷ []) (map f behind)
    ∙ (λ i. rows ++ is i ∷ map f behind)
    ∙ ap (λ l. rows ++ map f l) (sym next)
