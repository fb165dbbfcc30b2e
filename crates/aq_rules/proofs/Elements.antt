-- What holds of each element of a list.
use Rattle.std.proofs.Common.{◌≡◌, Bool, true, false, cond, List, [], ◌∷◌, ◌++◌, map, Some, refl, subst}
use Rattle.std.specs.Prelude.{All, ⊤, filter, find}
use Rattle.std.specs.List.{list_all}
use Rattle.std.proofs.lemmas.Bool.{and_parts, and_from}
use Rattle.std.proofs.lemmas.List.Elements.{All-cons, All-nil}

-- P of each
abbrev pub Every : {X : Type 0} → (X → Type 0) → List X → Type 0
Every P [] = ⊤
Every P (x ∷ xs) = P x × Every P xs

pub every-to : {X : Type 0} (P Q : X → Type 0) → ((x : X) → P x → Q x) → (xs : List X) → Every P xs → Every Q xs
every-to P Q h [] every = tt
every-to P Q h (x ∷ xs) every = (h x every.0, every-to P Q h xs every.1)

pub every-append : {X : Type 0} (P : X → Type 0) (xs ys : List X) → Every P xs → Every P ys → Every P (xs ++ ys)
every-append P [] ys h k = k
every-append P (x ∷ xs) ys h k = (h.0, every-append P xs ys h.1 k)

pub every-map : {X Y : Type 0} (P : X → Type 0) (Q : Y → Type 0) (f : X → Y) → ((x : X) → P x → Q (f x)) → (xs : List X) → Every P xs → Every Q (map f xs)
every-map P Q f h [] every = tt
every-map P Q f h (x ∷ xs) every = (h x every.0, every-map P Q f h xs every.1)

pub every-All : {X : Type 0} (P : X → Type 0) (xs : List X) → Every P xs → All P xs
every-All P [] every = All-nil P
every-All P (x ∷ xs) every = All-cons P x xs every.0 (every-All P xs every.1)

pub all-append : {X : Type 0} (p : X → Bool) (xs ys : List X) → list_all p xs ≡ true → list_all p ys ≡ true → list_all p (xs ++ ys) ≡ true
all-append p [] ys h k = k
all-append p (x ∷ xs) ys h k = let parts = and_parts (p x) (list_all p xs) h in and_from (p x) (list_all p (xs ++ ys)) parts.0 (all-append p xs ys parts.1 k)

-- a test that none passes keeps nothing
pub filter-none : {X : Type 0} (P : X → Type 0) (f : X → Bool) → ((x : X) → P x → f x ≡ false) → (xs : List X) → Every P xs → filter f xs ≡ []
filter-none P f fails [] every = refl
filter-none P f fails (x ∷ xs) every = rw (fails x every.0) (filter-none P f fails xs every.1)

-- what is found passes a test that all pass
pub found_passes : {X : Type 0} (p q : X → Bool) (xs : List X) (x : X) → list_all q xs ≡ true → find p xs ≡ Some x → q x ≡ true
found_passes p q [] x all is = cc
found_passes p q (y ∷ ys) x all is =
    let parts = and_parts (q y) (list_all q ys) all in
    choose (p y) parts.0 is (found_passes p q ys x parts.1)
  where
    choose : (b : Bool) → q y ≡ true → cond b (Some y) (find p ys) ≡ Some x → (find p ys ≡ Some x → q x ≡ true) → q x ≡ true
    choose true here is later = let same : y ≡ x = cc in subst (λ z. q z ≡ true) same here
    choose false here is later = later is
