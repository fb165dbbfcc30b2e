-- What a keeper tells that is opened at its first call.
use Rattle.std.proofs.Common.{◌≡◌, false, Option, Some, None, Result, Ok, Err, OnOk, IfOk, is_some, refl}
use Rattle.std.specs.Option.{option_map}
use Rattle.aq_keeper.specs.Told.{Stays}
use Rattle.aq_keeper.proofs.Telling.{stays_join}

pub opened_if : {A E : Type 0} (r : Result A E) (P : Type 0) → OnOk r P → ((x : E) → r ≡ Err x → ⊥) → P
opened_if (Ok u) P h not = h
opened_if (Err x) P h not = absurd (not x refl)

pub late_done : {A B E : Type 0} (f : A → A) (expected between after : Option A) (r : Result B E) → Stays expected between → OnOk r (Stays (option_map f between) after) → OnOk r (Stays (option_map f expected) after)
late_done f expected between after (Ok x) one two = stays_join f expected between after one two
late_done f expected between after (Err e) one two = tt

pub each : {K E : Type 0} (P Q : K → Type 0) → ((k : K) → P k → Q k) → (r : Result K E) → IfOk r P → IfOk r Q
each P Q f (Ok k) h = f k h
each P Q f (Err e) h = tt

-- nothing was let go
pub none_if : {A : Type 0} (left : Option A) → is_some left ≡ false → left ≡ None
none_if None h = refl
none_if (Some left) h = absurd (cc)
