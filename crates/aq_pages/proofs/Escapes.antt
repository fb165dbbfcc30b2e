-- A text whose bytes stand for themselves is escaped as it is.
use Rattle.std.proofs.Common.{◌≡◌, ℕ, Bool, true, false, cond, not, ◌&&◌, List, [], ◌∷◌, ◌==◌, refl, ap}
use Rattle.std.specs.List.{list_all}
use Rattle.std.proofs.lemmas.Bool.{and_parts, false≢true}
use Rattle.aq_pages.specs.Html.{escaped, escaped_byte, is_plain}

-- if no test holds, it is the last
last_of : (a b c d : Bool) (v w x y z : List ℕ) → (((not a && not b) && not c) && not d) ≡ true → cond a v (cond b w (cond c x (cond d y z))) ≡ z
last_of true b c d v w x y z plain = absurd (false≢true plain)
last_of false true c d v w x y z plain = absurd (false≢true plain)
last_of false false true d v w x y z plain = absurd (false≢true plain)
last_of false false false true v w x y z plain = absurd (false≢true plain)
last_of false false false false v w x y z plain = refl

byte_stays : (byte : ℕ) → is_plain byte ≡ true → escaped_byte byte ≡ byte ∷ []
unfolding is_plain escaped_byte
byte_stays byte plain = last_of (byte == 38) (byte == 60) (byte == 62) (byte == 34) _ _ _ _ (byte ∷ []) plain

pub plain_stays : (text : List ℕ) → list_all is_plain text ≡ true → escaped text ≡ text
plain_stays [] plain = refl
plain_stays (byte ∷ text) plain =
    let parts = and_parts (is_plain byte) (list_all is_plain text) plain in
    rw (byte_stays byte parts.0) (ap (λ (more : List ℕ). byte ∷ more) (plain_stays text parts.1))
