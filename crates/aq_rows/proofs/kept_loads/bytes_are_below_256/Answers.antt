use Rattle.std.proofs.Common.{◌≡◌, ℕ, suc, ◌<◌, ◌&&◌, Bool, true, List, [], ◌∷◌, refl, ap, ◌∙◌, arith}
use Rattle.std.specs.Prelude.{get_or, nat_lt}
use Rattle.std.specs.List.{list_all}
use Rattle.std.proofs.lemmas.Bool.Decides.{nat_tests}
use Rattle.aq_rows.proofs.kept_loads.bytes_are_below_256.Goals as goal

is_byte : (n : ℕ) → n < 256 → nat_lt n 256 ≡ true
is_byte n low = grind (arith, nat_tests)

both : (a b : Bool) → a ≡ true → b ≡ true → (a && b) ≡ true
both a b is other = ap (λ (c : Bool). c && b) is ∙ other

all-bytes : (xs : List ℕ) → ((i : ℕ) → get_or xs i 0 < 256) → list_all (λ byte. nat_lt byte 256) xs ≡ true
all-bytes [] low = refl
all-bytes (x ∷ xs) low = both (nat_lt x 256) (list_all (λ byte. nat_lt byte 256) xs) (is_byte x (low 0)) (all-bytes xs (λ i. low (suc i)))

pub returns : goal.returns
returns c = all-bytes c.args.bytes.now (λ i. omega (arith, c.type_inv.bytes i))
