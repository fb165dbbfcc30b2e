-- Chains of what one part says after the other, with a test at their end.
use Rattle.std.proofs.Common.{◌≡◌, Bool, true, false, cond, refl, ap}
use Rattle.std.specs.Prelude.{Option, Some, None}
use Rattle.aq_rules.specs.Lines.Spellings.{◌>>=◌}
use Rattle.aq_rules.specs.Kept.Rows.{only_if}

-- a test that the end makes may be made at once, if it fails there
pub tested : {A B C : Type 0} (m : Option A) (test : A → Bool) (k : A → Option B) (g : B → Option C) (next : A → Option C)
    → ((x : A) → m ≡ Some x → test x ≡ false → (k x >>= g) ≡ None)
    → ((x : A) → m ≡ Some x → test x ≡ true → (k x >>= g) ≡ next x)
    → ((m >>= k) >>= g) ≡ ((m >>= only_if test) >>= next)
tested None test k g next bad good = refl
tested (Some x) test k g next bad good = by_test (test x) refl
  where
    by_test : (b : Bool) → test x ≡ b → (k x >>= g) ≡ (cond b (Some x) None >>= next)
    by_test true e = good x refl e
    by_test false e = bad x refl e

pub passed : {A B C : Type 0} (m : Option A) (k : A → Option B) (g : B → Option C) (next : A → Option C)
    → ((x : A) → m ≡ Some x → (k x >>= g) ≡ next x) → ((m >>= k) >>= g) ≡ (m >>= next)
passed None k g next h = refl
passed (Some x) k g next h = h x refl

-- what ends in nothing, whatever is said, says nothing
pub ends : {A B C : Type 0} (m : Option A) (k : A → Option B) (g : B → Option C) → ((x : A) → (k x >>= g) ≡ None) → ((m >>= k) >>= g) ≡ None
ends None k g h = refl
ends (Some x) k g h = h x

pub none_behind : {A B : Type 0} (m : Option A) (next : A → Option B) → ((x : A) → next x ≡ None) → (m >>= next) ≡ None
none_behind None next h = refl
none_behind (Some x) next h = h x

pub mapped : {A B C : Type 0} (m : Option A) (f : A → B) (next : B → Option C) → ((m >>= λ x. Some (f x)) >>= next) ≡ (m >>= λ x. next (f x))
mapped None f next = refl
mapped (Some x) f next = refl

pub chained : {A B C : Type 0} (m : Option A) (f : A → Option B) (next : B → Option C) → ((m >>= f) >>= next) ≡ (m >>= λ x. f x >>= next)
chained None f next = refl
chained (Some x) f next = refl

pub same_first : {A B : Type 0} (m other : Option A) (next : A → Option B) → m ≡ other → (m >>= next) ≡ (other >>= next)
same_first {A} m other next e = ap (λ (o : Option A). o >>= next) e

-- two tests at the end
pub refused : {A : Type 0} (test own : A → Bool) (x : A) → test x ≡ false → (only_if own x >>= only_if test) ≡ None
refused {A} test own x h = by_own (own x)
  where
    by_own : (b : Bool) → (cond b (Some x) None >>= only_if test) ≡ None
    by_own true = rw h
    by_own false = refl

pub kept : {A : Type 0} (test own : A → Bool) (x : A) → own x ≡ true → (only_if own x >>= only_if test) ≡ only_if test x
kept test own x h = rw h
