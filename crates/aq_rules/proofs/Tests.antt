-- What tests on Booleans and numbers say, if std has no word for it.
use Rattle.std.proofs.Common.{◌≡◌, Bool, true, false, ◌||◌, refl, sym}
use Rattle.std.specs.Prelude.{ℤ}
use Rattle.std.specs.Ordering.{int_eq}
use Rattle.std.proofs.lemmas.Bool.Decides.{Decides-int_eq}

pub or_turns : (a b c : Bool) → (a || (b || c)) ≡ (b || (a || c))
or_turns true true c = refl
or_turns true false c = refl
or_turns false true c = refl
or_turns false false c = refl

pub int_is : (a b : ℤ) → int_eq a b ≡ true → a ≡ b
int_is a b h = (Decides-int_eq a b).0 h

pub int_itself : (a : ℤ) → int_eq a a ≡ true
int_itself a = (Decides-int_eq a a).1 refl

pub one_answer : (p q : Bool) → (p ≡ true → q ≡ true) → (q ≡ true → p ≡ true) → p ≡ q
one_answer true q f g = sym (f refl)
one_answer false true f g = g refl
one_answer false false f g = refl
