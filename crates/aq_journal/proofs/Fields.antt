-- A field that is read is the field that was written, and what was written is read again.
use Rattle.std.proofs.Common.{◌≡◌, ℕ, zero, suc, ◌+◌, ◌^◌, ◌<◌, ◌≤◌, ℤ, Bool, true, false, cond, ltb, List, [], ◌∷◌, ◌++◌, length, get_or, take, drop, Option, Some, None, refl, sym, ap, subst, ◌∙◌, append_assoc, arith, inl, inr}
use Rattle.std.specs.Prelude.{IfSome}
use Rattle.std.specs.Int.{Width, w32, w64, byte_len, from_be_bytes, to_be_bytes, cast_signed, cast_unsigned}
use Rattle.std.specs.Int.RustNames.{FitsSigned}
use Rattle.std.proofs.lemmas.Bool.{cases_lt, ltb-false, le-ltb}
use Rattle.std.proofs.lemmas.Bool.Decides.{nat_tests}
use Rattle.std.proofs.lemmas.List.{take_at, drop_at, take-append-drop, length-append, length-take, get_or-drop, get_or-take, get_or_past}
use Rattle.std.proofs.lemmas.Nat.{be_bytes_4, be_bytes_8, from_be_bytes-to_be_bytes_4, from_be_bytes-to_be_bytes_8}
use Rattle.std.proofs.lemmas.Int.{to_z-of_z, of_z-to_z}
use Rattle.aq_rules.specs.Lines.Spellings.{◌>>=◌}
use Rattle.aq_journal.specs.JournalFormat.{Kind, Whole, Optional, Bytes, Value, Values, count_bytes, whole_bytes, optional_bytes, sized, field_bytes, fields_bytes, FieldFits, FieldsFit, count_at, whole_at, optional_at, sized_at, field_at, fields_at}
use mir.ValLaws.{of_z_fits, to_z-Fits}

abbrev pub IsBytes : List ℕ → Type 0
IsBytes bytes = (i : ℕ) → get_or bytes i 0 < 256

pub IsBytes-drop : (n : ℕ) (bytes : List ℕ) → IsBytes bytes → IsBytes (drop n bytes)
IsBytes-drop n bytes h i = rw get_or-drop (h (n + i))

pub IsBytes-take : (n : ℕ) (bytes : List ℕ) → IsBytes bytes → IsBytes (take n bytes)
IsBytes-take n bytes h i =
    elim (cases_lt i n) [
      | inl lt ↦ rw (get_or-take n bytes i 0 lt) (h i)
      | inr le ↦ rw (get_or_past (take n bytes) i 0 (omega (arith, length-take n bytes))) (omega arith)
    ]

pub IsBytes-rest : (b : ℕ) (bytes : List ℕ) → IsBytes (b ∷ bytes) → IsBytes bytes
IsBytes-rest b bytes h i = h (suc i)

-- the value of a step that did not fail
pub bind_some : {A B : Type 0} (o : Option A) (f : A → Option B) (y : B) → (o >>= f) ≡ Some y → (x : A) × (o ≡ Some x) × (f x ≡ Some y)
bind_some (Some x) f y e = (x, refl, e)
bind_some None f y e = absurd cc

-- a test that did not fail
pub guard_some : {A : Type 0} (b : Bool) (x y : A) → cond b None (Some x) ≡ Some y → (b ≡ false) × (x ≡ y)
guard_some true x y e = absurd cc
guard_some false x y e = (refl, cc)

abbrev found : {A : Type 0} → A → Option A
found x = Some x

abbrev nothing : {A : Type 0} → Option A
nothing = None

pub some_is : {A : Type 0} (x y : A) → found x ≡ found y → x ≡ y
some_is x y e = cc

pub none_is : {A B : Type 0} (x : A) → nothing {A = A} ≡ found x → B
none_is x e = absurd cc

-- what a reader took from the front
pub record Takes (bytes text rest : List ℕ) : Type 0 where
  pub parts : bytes ≡ text ++ rest
  pub rest_fits : IsBytes rest

pub Takes-then : (a x b y c : List ℕ) → Takes a x b → Takes b y c → Takes a (x ++ y) c
Takes-then a x b y c p q = record { parts = p.parts ∙ ap (λ (t : List ℕ). x ++ t) q.parts ∙ sym (append_assoc x y c); rest_fits = q.rest_fits }

pub Takes-more : (b : ℕ) (bytes text rest : List ℕ) → Takes bytes text rest → Takes (b ∷ bytes) (b ∷ text) rest
Takes-more b bytes text rest t = record { parts = ap (λ (l : List ℕ). b ∷ l) t.parts; rest_fits = t.rest_fits }

-- ---- numbers

pub record IsWide (w : Width) (limit : ℕ) : Type 0 where
  pub len : (n : ℕ) → length (to_be_bytes w n) ≡ byte_len w
  pub again : (n : ℕ) → n < limit → from_be_bytes w (to_be_bytes w n) ≡ n

wide32 : IsWide w32 (2 ^ 32)
wide32 = record { len = λ n. refl; again = λ n lt. from_be_bytes-to_be_bytes_4 n lt }

wide64 : IsWide w64 (2 ^ 64)
wide64 = record { len = λ n. refl; again = λ n lt. from_be_bytes-to_be_bytes_8 n lt }

-- a number of some width, made into something
abbrev made_at : {A : Type 0} → (ℕ → A) → Width → List ℕ → Option (A × List ℕ)
made_at make w bytes = cond (ltb (length bytes) (byte_len w)) None (Some (make (from_be_bytes w (take (byte_len w) bytes)), drop (byte_len w) bytes))

made_again : {A : Type 0} (make : ℕ → A) (w : Width) (limit : ℕ) (wide : IsWide w limit) (n : ℕ) (rest : List ℕ) → n < limit → made_at make w (to_be_bytes w n ++ rest) ≡ Some (make n, rest)
made_again make w limit wide n rest lt =
    let len = wide.len n in
    let long : ltb (length (to_be_bytes w n ++ rest)) (byte_len w) ≡ false = le-ltb _ _ (omega (arith, length-append (to_be_bytes w n) rest, len)) in
    rw (long, take_at (to_be_bytes w n) rest (byte_len w) len, drop_at (to_be_bytes w n) rest (byte_len w) len, wide.again n lt) refl

-- ---- counts

count_below : (bytes : List ℕ) → IsBytes bytes → from_be_bytes w32 bytes < 2 ^ 32
count_below bytes fits = omega (arith, fits 0, fits 1, fits 2, fits 3)

pub count_takes : (bytes : List ℕ) (x : ℕ × List ℕ) → IsBytes bytes → count_at bytes ≡ Some x → Takes bytes (count_bytes x.0) x.1 × (x.0 < 2 ^ 32)
unfolding count_at count_bytes
count_takes bytes x fits e =
    let front = take 4 bytes in
    let g = guard_some (ltb (length bytes) 4) (from_be_bytes w32 front, drop 4 bytes) x e in
    let long : 4 ≤ length bytes = ltb-false _ _ g.0 in
    let back : count_bytes (from_be_bytes w32 front) ≡ front = be_bytes_4 front _ (omega (arith, length-take 4 bytes)) (IsBytes-take 4 bytes fits) refl in
    let parts : bytes ≡ count_bytes (from_be_bytes w32 front) ++ drop 4 bytes = sym (take-append-drop 4 bytes) ∙ ap (λ (l : List ℕ). l ++ drop 4 bytes) (sym back) in
    subst (λ (y : ℕ × List ℕ). Takes bytes (count_bytes y.0) y.1 × (y.0 < 2 ^ 32)) g.1 (record { parts = parts; rest_fits = IsBytes-drop 4 bytes fits }, count_below front (IsBytes-take 4 bytes fits))

pub count_again : (n : ℕ) (rest : List ℕ) → n < 2 ^ 32 → count_at (count_bytes n ++ rest) ≡ Some (n, rest)
unfolding count_at count_bytes
count_again n rest lt = made_again (λ k. k) w32 (2 ^ 32) wide32 n rest lt

-- ---- whole numbers

whole_below : (bytes : List ℕ) → IsBytes bytes → from_be_bytes w64 bytes < 2 ^ 64
whole_below bytes fits = omega (arith, fits 0, fits 1, fits 2, fits 3, fits 4, fits 5, fits 6, fits 7)

pub whole_takes : (bytes : List ℕ) (x : ℤ × List ℕ) → IsBytes bytes → whole_at bytes ≡ Some x → Takes bytes (whole_bytes x.0) x.1 × FitsSigned w64 x.0
unfolding whole_at whole_bytes
whole_takes bytes x fits e =
    let front = take 8 bytes in
    let n = from_be_bytes w64 front in
    let g = guard_some (ltb (length bytes) 8) (cast_signed w64 n, drop 8 bytes) x e in
    let long : 8 ≤ length bytes = ltb-false _ _ g.0 in
    let below : n < 2 ^ 64 = whole_below front (IsBytes-take 8 bytes fits) in
    let back : to_be_bytes w64 n ≡ front = be_bytes_8 front _ (omega (arith, length-take 8 bytes)) (IsBytes-take 8 bytes fits) refl in
    let bits : whole_bytes (cast_signed w64 n) ≡ front = ap (λ (k : ℕ). to_be_bytes w64 k) (of_z-to_z w64 n below) ∙ back in
    let parts : bytes ≡ whole_bytes (cast_signed w64 n) ++ drop 8 bytes = sym (take-append-drop 8 bytes) ∙ ap (λ (l : List ℕ). l ++ drop 8 bytes) (sym bits) in
    subst (λ (y : ℤ × List ℕ). Takes bytes (whole_bytes y.0) y.1 × FitsSigned w64 y.0) g.1 (record { parts = parts; rest_fits = IsBytes-drop 8 bytes fits }, to_z-Fits w64 n (record { fits = below }))

pub whole_again : (n : ℤ) (rest : List ℕ) → FitsSigned w64 n → whole_at (whole_bytes n ++ rest) ≡ Some (n, rest)
unfolding whole_at whole_bytes
whole_again n rest fits =
    made_again (λ k. cast_signed w64 k) w64 (2 ^ 64) wide64 (cast_unsigned w64 n) rest (of_z_fits w64 n fits).fits
    ∙ ap (λ (k : ℤ). Some (k, rest)) (to_z-of_z w64 n fits)

-- ---- a number that may be missing

pub optional_takes : (bytes : List ℕ) (x : Option ℤ × List ℕ) → IsBytes bytes → optional_at bytes ≡ Some x → Takes bytes (optional_bytes x.0) x.1 × IfSome x.0 (λ n. FitsSigned w64 n)
unfolding optional_at
optional_takes [] x fits e = absurd cc
optional_takes (zero ∷ bytes) x fits e =
    subst (λ (y : Option ℤ × List ℕ). Takes (0 ∷ bytes) (optional_bytes y.0) y.1 × IfSome y.0 (λ n. FitsSigned w64 n)) (some_is (None, bytes) x e) (record { parts = refl; rest_fits = IsBytes-rest 0 bytes fits }, tt)
optional_takes (suc zero ∷ bytes) x fits e =
    let b = bind_some (whole_at bytes) (λ n. Some (Some n.0, n.1)) x e in
    let t = whole_takes bytes b.0 (IsBytes-rest 1 bytes fits) b.1 in
    subst (λ (y : Option ℤ × List ℕ). Takes (1 ∷ bytes) (optional_bytes y.0) y.1 × IfSome y.0 (λ n. FitsSigned w64 n)) (some_is (Some b.0.0, b.0.1) x b.2) (Takes-more 1 bytes (whole_bytes b.0.0) b.0.1 t.0, t.1)
optional_takes (suc (suc b) ∷ bytes) x fits e =
    let none : optional_at (suc (suc b) ∷ bytes) ≡ None = grind (arith, nat_tests) in
    none_is x (sym none ∙ e)

pub optional_again : (n : Option ℤ) (rest : List ℕ) → IfSome n (λ whole. FitsSigned w64 whole) → optional_at (optional_bytes n ++ rest) ≡ Some (n, rest)
unfolding optional_at
optional_again None rest h = refl
optional_again (Some n) rest h = rw (whole_again n rest h) refl

-- ---- bytes behind their length

pub sized_takes : (bytes : List ℕ) (x : List ℕ × List ℕ) → IsBytes bytes → sized_at bytes ≡ Some x → Takes bytes (sized x.0) x.1 × (length x.0 < 2 ^ 32) × IsBytes x.0
unfolding sized_at
sized_takes bytes x fits e =
    let b = bind_some (count_at bytes) (λ size. cond (ltb (length size.1) size.0) None (Some (take size.0 size.1, drop size.0 size.1))) x e in
    let n = b.0 in
    let t = count_takes bytes n fits b.1 in
    let g = guard_some (ltb (length n.1) n.0) (take n.0 n.1, drop n.0 n.1) x b.2 in
    let long : n.0 ≤ length n.1 = ltb-false _ _ g.0 in
    let size : length (take n.0 n.1) ≡ n.0 = omega (arith, length-take n.0 n.1) in
    let second : Takes n.1 (take n.0 n.1) (drop n.0 n.1) = record { parts = sym (take-append-drop n.0 n.1); rest_fits = IsBytes-drop n.0 n.1 t.0.rest_fits } in
    let both = Takes-then bytes (count_bytes n.0) n.1 (take n.0 n.1) (drop n.0 n.1) t.0 second in
    let whole : Takes bytes (sized (take n.0 n.1)) (drop n.0 n.1) = subst (λ (k : ℕ). Takes bytes (count_bytes k ++ take n.0 n.1) (drop n.0 n.1)) (sym size) both in
    subst (λ (p : List ℕ × List ℕ). Takes bytes (sized p.0) p.1 × (length p.0 < 2 ^ 32) × IsBytes p.0) g.1 (whole, omega (arith, t.1), IsBytes-take n.0 n.1 t.0.rest_fits)

pub sized_again : (text rest : List ℕ) → length text < 2 ^ 32 → sized_at (sized text ++ rest) ≡ Some (text, rest)
unfolding sized_at
sized_again text rest lt =
    let long : ltb (length (text ++ rest)) (length text) ≡ false = le-ltb _ _ (omega (arith, length-append text rest)) in
    ap sized_at (append_assoc (count_bytes (length text)) text rest) ∙ rw (count_again (length text) (text ++ rest) lt, long, take_at text rest (length text) refl, drop_at text rest (length text) refl) refl

-- ---- the fields of a form

field_takes : (kind : Kind) (bytes : List ℕ) (x : Value kind × List ℕ) → IsBytes bytes → field_at kind bytes ≡ Some x → Takes bytes (field_bytes kind x.0) x.1 × FieldFits kind x.0
field_takes Whole bytes x fits e = whole_takes bytes x fits e
field_takes Optional bytes x fits e = optional_takes bytes x fits e
field_takes Bytes bytes x fits e = let t = sized_takes bytes x fits e in (t.0, t.1)

field_again : (kind : Kind) (value : Value kind) (rest : List ℕ) → FieldFits kind value → field_at kind (field_bytes kind value ++ rest) ≡ Some (value, rest)
field_again Whole value rest fits = whole_again value rest fits
field_again Optional value rest fits = optional_again value rest fits
field_again Bytes value rest fits = sized_again value rest fits

pub fields_takes : (kinds : List Kind) (bytes : List ℕ) (x : Values kinds × List ℕ) → IsBytes bytes → fields_at kinds bytes ≡ Some x → Takes bytes (fields_bytes kinds x.0) x.1 × FieldsFit kinds x.0
unfolding fields_at
fields_takes [] bytes x fits e =
    subst (λ (y : Values [] × List ℕ). Takes bytes (fields_bytes [] y.0) y.1 × FieldsFit [] y.0) (some_is (tt, bytes) x e) (record { parts = refl; rest_fits = fits }, tt)
fields_takes (kind ∷ kinds) bytes x fits e =
    let a = bind_some (field_at kind bytes) (λ field. fields_at kinds field.1 >>= λ others. Some ((field.0, others.0), others.1)) x e in
    let b = bind_some (fields_at kinds a.0.1) (λ others. Some ((a.0.0, others.0), others.1)) x a.2 in
    let first = field_takes kind bytes a.0 fits a.1 in
    let second = fields_takes kinds a.0.1 b.0 first.0.rest_fits b.1 in
    let both = Takes-then bytes (field_bytes kind a.0.0) a.0.1 (fields_bytes kinds b.0.0) b.0.1 first.0 second.0 in
    let made : Values (kind ∷ kinds) × List ℕ = ((a.0.0, b.0.0), b.0.1) in
    subst (λ (y : Values (kind ∷ kinds) × List ℕ). Takes bytes (fields_bytes (kind ∷ kinds) y.0) y.1 × FieldsFit (kind ∷ kinds) y.0) (some_is made x b.2) (both, (first.1, second.1))

pub fields_again : (kinds : List Kind) (values : Values kinds) (rest : List ℕ) → FieldsFit kinds values → fields_at kinds (fields_bytes kinds values ++ rest) ≡ Some (values, rest)
unfolding fields_at
fields_again [] values rest fits = refl
fields_again (kind ∷ kinds) values rest fits =
    let regrouped : fields_bytes (kind ∷ kinds) values ++ rest ≡ field_bytes kind values.0 ++ (fields_bytes kinds values.1 ++ rest) = append_assoc (field_bytes kind values.0) (fields_bytes kinds values.1) rest in
    ap (fields_at (kind ∷ kinds)) regrouped ∙ rw (field_again kind values.0 (fields_bytes kinds values.1 ++ rest) fits.0, fields_again kinds values.1 rest fits.1) refl
