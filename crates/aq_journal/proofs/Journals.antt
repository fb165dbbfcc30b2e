-- A journal that is read is the journal that was written, and what was written is read again.
use Rattle.std.proofs.Common.{◌≡◌, ◌≢◌, ◌⊎◌, inl, inr, ℕ, zero, suc, ◌+◌, ◌-◌, ◌<◌, ◌≤◌, Bool, true, false, cond, List, [], ◌∷◌, ◌++◌, length, take, drop, Option, Some, None, refl, sym, ap, subst, ◌∙◌, append_assoc, arith}
use Rattle.std.specs.Prelude.{nat_le, bytes_eq}
use Rattle.std.specs.Option.{option_map}
use Rattle.std.specs.List.{AllByRecursion}
use Rattle.std.proofs.lemmas.Bool.{cases_lt, leb-true, le-leb, lt-leb}
use Rattle.std.proofs.lemmas.Bool.Decides.{nat_tests}
use Rattle.std.proofs.lemmas.List.{append-nil, length-append, take_at, drop_at, take-append-drop}
use Rattle.std.proofs.lemmas.List.Concat.{flat_map-cons}
use Rattle.std.proofs.lemmas.Grind.{flat_map-append}
use Rattle.std.proofs.lemmas.Slice.Eq.{bytes_eq-Decides}
use Rattle.aq_rules.specs.Lines.Spellings.{◌>>=◌}
use Rattle.aq_rules.specs.Kept.RowChanges.{RowChange}
use Rattle.aq_journal.specs.JournalFormat.{BatchFits, sized, body_of, frame_of, frames_of, header, journal_of, sized_at, batch_in, frames_in, batches_in, IsJournalOf}
use Rattle.aq_journal.proofs.Fields.{IsBytes, IsBytes-rest, IsBytes-drop, bind_some, some_is, sized_takes, sized_again}
use Rattle.aq_journal.proofs.Batches.{batch_takes, batch_again}

-- what the frames are, and what follows them
pub record Frames (bytes : List ℕ) (batches : List (List RowChange)) : Type 0 where
  pub gate : ℕ
  pub rest : List ℕ
  pub parts : bytes ≡ frames_of batches ++ gate ∷ rest
  pub shut : gate ≢ 1
  pub fits : AllByRecursion BatchFits batches

-- a closed gate ends them, whatever stands behind it
pub frames_shut : (most gate : ℕ) (rest : List ℕ) → gate ≢ 1 → frames_in (suc most) (gate ∷ rest) ≡ Some []
unfolding frames_in
frames_shut most gate rest shut = grind (arith, nat_tests)

frame_read : (most : ℕ) (batch : List RowChange) (behind : List ℕ) → BatchFits batch → frames_in (suc most) (frame_of batch ++ behind) ≡ option_map (λ others. batch ∷ others) (frames_in most behind)
unfolding frames_in
frame_read most batch behind fits = rw (sized_again (body_of batch) behind fits.size, batch_again batch fits) refl

frames_regrouped : (batch : List RowChange) (batches : List (List RowChange)) (behind : List ℕ) → frames_of (batch ∷ batches) ++ behind ≡ frame_of batch ++ (frames_of batches ++ behind)
frames_regrouped batch batches behind = ap (λ (l : List ℕ). l ++ behind) (flat_map-cons frame_of batch batches) ∙ append_assoc (frame_of batch) (frames_of batches) behind

joined : (batch : List RowChange) (batches : List (List RowChange)) (read : Option (List (List RowChange))) → option_map (λ others. batch ∷ others) (option_map (λ others. batches ++ others) read) ≡ option_map (λ others. (batch ∷ batches) ++ others) read
joined batch batches (Some others) = refl
joined batch batches None = refl

none_before : (read : Option (List (List RowChange))) → read ≡ option_map (λ others. [] ++ others) read
none_before (Some others) = refl
none_before None = refl

-- frames, and then whatever is read behind them
pub frames_behind : (batches : List (List RowChange)) (n most : ℕ) (behind : List ℕ) → n ≡ length batches + most → AllByRecursion BatchFits batches → frames_in n (frames_of batches ++ behind) ≡ option_map (λ others. batches ++ others) (frames_in most behind)
frames_behind [] n most behind is fits =
    let same : n ≡ most = omega (arith, is) in
    ap (λ (k : ℕ). frames_in k behind) same ∙ none_before (frames_in most behind)
frames_behind (batch ∷ batches) n most behind is fits =
    let m = length batches + most in
    let same : n ≡ suc m = omega (arith, is) in
    (λ i. frames_in (same i) (frames_regrouped batch batches behind i))
    ∙ frame_read m batch (frames_of batches ++ behind) fits.0
    ∙ ap (λ (read : Option (List (List RowChange))). option_map (λ others. batch ∷ others) read) (frames_behind batches m most behind refl fits.1)
    ∙ joined batch batches (frames_in most behind)

-- each frame has bytes
pub frames_long : (batches : List (List RowChange)) → length batches ≤ length (frames_of batches)
frames_long [] = omega arith
frames_long (batch ∷ batches) = omega (arith, frames_long batches, ap length (flat_map-cons frame_of batch batches), length-append (frame_of batch) (frames_of batches))

pub frames_again : (batches : List (List RowChange)) (most gate : ℕ) (rest : List ℕ) → AllByRecursion BatchFits batches → gate ≢ 1 → length batches < most → frames_in most (frames_of batches ++ gate ∷ rest) ≡ Some batches
frames_again batches zero gate rest fits shut few = absurd (omega (arith, few))
frames_again batches (suc most) gate rest fits shut few =
    frames_behind batches (suc most) (suc (most - length batches)) (gate ∷ rest) (omega (arith, few)) fits
    ∙ ap (λ (read : Option (List (List RowChange))). option_map (λ others. batches ++ others) read) (frames_shut (most - length batches) gate rest shut)
    ∙ ap (λ (l : List (List RowChange)). Some l) (append-nil batches)

mapped : {A B : Type 0} (make : A → B) (read : Option A) (y : B) → option_map make read ≡ Some y → (x : A) × (read ≡ Some x) × (make x ≡ y)
mapped make (Some x) y e = (x, refl, some_is (make x) y e)
mapped make None y e = absurd cc

pub frames_takes : (most : ℕ) (bytes : List ℕ) (batches : List (List RowChange)) → IsBytes bytes → frames_in most bytes ≡ Some batches → Frames bytes batches
unfolding frames_in
frames_takes zero bytes batches fits e = absurd cc
frames_takes (suc most) [] batches fits e = absurd cc
frames_takes (suc most) (zero ∷ bytes) batches fits e = subst (Frames (0 ∷ bytes)) (some_is [] batches e) (record { gate = 0; rest = bytes; parts = refl; shut = omega arith; fits = tt })
frames_takes (suc most) (suc (suc gate) ∷ bytes) batches fits e = subst (Frames (suc (suc gate) ∷ bytes)) (some_is [] batches (sym (frames_shut most (suc (suc gate)) bytes (omega arith)) ∙ e)) (record { gate = suc (suc gate); rest = bytes; parts = refl; shut = omega arith; fits = tt })
frames_takes (suc most) (suc zero ∷ bytes) batches fits e =
    let a = bind_some (sized_at bytes) (λ body. batch_in body.0 >>= (λ batch. option_map (λ others. batch ∷ others) (frames_in most body.1))) batches e in
    let b = bind_some (batch_in a.0.0) (λ batch. option_map (λ others. batch ∷ others) (frames_in most a.0.1)) batches a.2 in
    let c = mapped (λ (others : List (List RowChange)). b.0 ∷ others) (frames_in most a.0.1) batches b.2 in
    let first = sized_takes bytes a.0 (IsBytes-rest 1 bytes fits) a.1 in
    let batch = batch_takes a.0.0 b.0 first.2 first.1 b.1 in
    let behind = frames_takes most a.0.1 c.0 first.0.rest_fits c.1 in
    let parts : (1 ∷ bytes) ≡ frames_of (b.0 ∷ c.0) ++ behind.gate ∷ behind.rest =
    ap (λ (l : List ℕ). 1 ∷ l) first.0.parts
    ∙ (λ i. 1 ∷ (sized (batch.0 i) ++ behind.parts i))
    ∙ sym (frames_regrouped b.0 c.0 (behind.gate ∷ behind.rest)) in
    subst (Frames (1 ∷ bytes)) c.2 (record { gate = behind.gate; rest = behind.rest; parts = parts; shut = behind.shut; fits = (batch.1, behind.fits) })

-- ---- journals

whole_length : (batches : List (List RowChange)) (gate : ℕ) (rest : List ℕ) → length (journal_of batches gate rest) ≡ 9 + length (frames_of batches) + length rest
whole_length batches gate rest = omega (arith, length-append (header ++ frames_of batches) (gate ∷ rest), length-append header (frames_of batches))

split : (batches : List (List RowChange)) (gate : ℕ) (rest : List ℕ) → journal_of batches gate rest ≡ header ++ (frames_of batches ++ gate ∷ rest)
split batches gate rest = append_assoc header (frames_of batches) (gate ∷ rest)

-- nothing follows the gate of a journal of nine bytes, and nothing stands before it
pub short : (batches : List (List RowChange)) (gate : ℕ) (rest : List ℕ) → length (journal_of batches gate rest) ≤ 9 → batches ≡ []
short [] gate rest small = refl
short (batch ∷ batches) gate rest small = absurd (omega (arith, small, whole_length (batch ∷ batches) gate rest, frames_long (batch ∷ batches)))

-- a file of at most nine bytes, a longer one with the header, and one with other first bytes
pub read_short : (file : List ℕ) → length file ≤ 9 → batches_in file ≡ Some []
unfolding batches_in
read_short file small = let test : nat_le (length file) 9 ≡ true = le-leb _ _ small in rw test refl

pub read_long : (file behind : List ℕ) → 9 < length file → take 8 file ≡ header → drop 8 file ≡ behind → batches_in file ≡ frames_in (length file) behind
unfolding batches_in
read_long file behind long front back =
    let test : nat_le (length file) 9 ≡ false = lt-leb _ _ long in
    rw (test, front, back) refl

pub read_other : (file : List ℕ) → 9 < length file → bytes_eq (take 8 file) header ≡ false → batches_in file ≡ None
unfolding batches_in
read_other file long other =
    let test : nat_le (length file) 9 ≡ false = lt-leb _ _ long in
    rw (test, other) refl

pub journal_again : (batches : List (List RowChange)) (gate : ℕ) (rest : List ℕ) → AllByRecursion BatchFits batches → gate ≢ 1 → batches_in (journal_of batches gate rest) ≡ Some batches
journal_again batches gate rest fits shut =
    let file = journal_of batches gate rest in
    let behind = frames_of batches ++ gate ∷ rest in
    elim (cases_lt 9 (length file)) [
      | inl long ↦
          read_long file behind long (ap (take 8) (split batches gate rest) ∙ take_at header behind 8 refl) (ap (drop 8) (split batches gate rest) ∙ drop_at header behind 8 refl)
          ∙ frames_again batches (length file) gate rest fits shut (omega (arith, whole_length batches gate rest, frames_long batches))
      | inr small ↦ read_short file small ∙ ap (λ (l : List (List RowChange)). Some l) (sym (short batches gate rest small))
    ]

chosen : {A : Type 0} (b : Bool) (x y z : A) → cond b x y ≡ z → ((b ≡ true) × (x ≡ z)) ⊎ ((b ≡ false) × (y ≡ z))
chosen true x y z e = inl (refl, e)
chosen false x y z e = inr (refl, e)

only_then : {A : Type 0} (b : Bool) (x : Option A) (y : A) → cond b x None ≡ Some y → (b ≡ true) × (x ≡ Some y)
only_then true x y e = (refl, e)
only_then false x y e = absurd cc

pub journal_takes : (file : List ℕ) (batches : List (List RowChange)) → IsBytes file → batches_in file ≡ Some batches → ((length file ≤ 9) × (batches ≡ [])) ⊎ IsJournalOf file batches
unfolding batches_in
journal_takes file batches fits e = elim (chosen (nat_le (length file) 9) (Some []) (cond (bytes_eq (take 8 file) header) (frames_in (length file) (drop 8 file)) None) (Some batches) e) [
  | inl small ↦ inl (leb-true _ _ small.0, sym (some_is [] batches small.1))
  | inr long ↦
      let g = only_then (bytes_eq (take 8 file) header) (frames_in (length file) (drop 8 file)) batches long.1 in
      let front : take 8 file ≡ header = (bytes_eq-Decides (take 8 file) header).0 g.0 in
      let frames = frames_takes (length file) (drop 8 file) batches (IsBytes-drop 8 file fits) g.1 in
      inr (record {
        gate = frames.gate;
        rest = frames.rest;
        whole = sym (take-append-drop 8 file) ∙ (λ i. front i ++ frames.parts i) ∙ sym (append_assoc header (frames_of batches) (frames.gate ∷ frames.rest));
        shut = frames.shut;
        fits = frames.fits;
      })
]

-- ---- one frame more

frames_more : (batches : List (List RowChange)) (last : List RowChange) → frames_of (batches ++ last ∷ []) ≡ frames_of batches ++ frame_of last
frames_more batches last = flat_map-append frame_of batches (last ∷ []) ∙ ap (λ (l : List ℕ). frames_of batches ++ l) (flat_map-cons frame_of last [] ∙ append-nil (frame_of last))

pub front_more : (batches : List (List RowChange)) (batch : List RowChange) → header ++ frames_of (batches ++ batch ∷ []) ≡ (header ++ frames_of batches) ++ frame_of batch
front_more batches batch = ap (λ (l : List ℕ). header ++ l) (frames_more batches batch) ∙ sym (append_assoc header (frames_of batches) (frame_of batch))

pub fits_more : (batches : List (List RowChange)) (batch : List RowChange) → AllByRecursion BatchFits batches → BatchFits batch → AllByRecursion BatchFits (batches ++ batch ∷ [])
fits_more [] batch fits one = (one, tt)
fits_more (first ∷ batches) batch fits one = (fits.0, fits_more batches batch fits.1 one)
