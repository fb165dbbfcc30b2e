-- A line that is scanned up to a place: the fields that began and ended, and what is left.
use Rattle.std.proofs.Common.{◌≡◌, ◌≢◌, ℕ, suc, ◌+◌, ◌-◌, ◌<◌, ◌≤◌, inl, inr, Bool, true, false, not, ◌&&◌, List, [], ◌∷◌, length, take, drop, set, get_or, replicate, zero, refl, sym, ap, ◌∙◌, arith, subst, add-one}
use Rattle.std.specs.List.{list_all}
use Rattle.std.proofs.lemmas.Bool.Decides.{nat_tests}
use Rattle.std.proofs.lemmas.List.{drop-drop, get_or-drop, length-set, length-drop, get_or_past, drop_all, take_all, take_more, get_or-set_same, get_or-set_other, get_or-replicate}
use Rattle.std.proofs.lemmas.List.Folds.{list_all-append}
use Rattle.std.proofs.lemmas.Bool.{cases_lt}
use Rattle.std.proofs.Math.Seq.{drop-cons}
use Rattle.aq_rules.specs.Lines.Fields.{fields, field, trimmed, is_bar}
use Rattle.aq_rd.specs.FieldPlaces.{HoldsFields, StandsAt}
use Rattle.aq_rd.proofs.FieldSteps.{fields-bar, fields-text, fields-cons, field-at, field-whole, same_or_other}

-- no bar stands between these places
abbrev Bare : List ℕ → ℕ → ℕ → Type 0
Bare line start end = list_all (λ byte. not (is_bar byte)) (take (end - start) (drop start line)) ≡ true

pub record Scanned (line : List ℕ) (place count : ℕ) (starts : List ℕ) : Type 0 where
  pub some : 1 ≤ count
  pub few : count ≤ place + 1
  pub places : length starts ≡ 29
  pub ahead : drop count (fields line) ≡ drop 1 (fields (drop place line))
  pub counted : length (fields line) + 1 ≡ count + length (fields (drop place line))
  pub within : (k : ℕ) → k < 29 → get_or starts k 0 ≤ length line
  pub begun : (k : ℕ) → k < 29 → k < count → drop k (fields line) ≡ fields (drop (get_or starts k 0) line)
  pub missing : (k : ℕ) → k < 29 → count ≤ k → get_or starts k 0 ≡ length line
  pub rising : (k : ℕ) → k < 28 → k + 1 < count → get_or starts k 0 < get_or starts (k + 1) 0
  pub ended : (k : ℕ) → k < 28 → k + 1 < count → StandsAt line (k + 1) (get_or starts k 0) (get_or starts (k + 1) 0 - 1)
  pub reached : (k : ℕ) → k < 28 → k + 1 ≡ count → get_or starts k 0 ≤ place
  pub bare : (k : ℕ) → k < 28 → k + 1 ≡ count → Bare line (get_or starts k 0) place

here : (line : List ℕ) (i : ℕ) → i < length line → drop i line ≡ get_or line i 0 ∷ drop (i + 1) line
here line i h = rw add-one (drop-cons line i 0 h)

-- ---- at the start

start-at : (k n : ℕ) → get_or (set (replicate 29 n) 0 0) k 0 ≤ n
start-at zero n = omega arith
start-at (suc k) n =
    elim (cases_lt k 28) [
      | inl less ↦ let e : get_or (replicate 28 n) k 0 ≡ n = get_or-replicate 28 k n 0 less in omega (arith, e)
      | inr more ↦ let e : get_or (replicate 28 n) k 0 ≡ 0 = get_or_past (replicate 28 n) k 0 more in omega (arith, e)
    ]

start-missing : (k n : ℕ) → k < 29 → 1 ≤ k → get_or (set (replicate 29 n) 0 0) k 0 ≡ n
start-missing zero n h some = absurd (omega arith)
start-missing (suc k) n h some = get_or-replicate 28 k n 0 (omega arith)

start-begun : (line : List ℕ) (k : ℕ) → k < 1 → drop k (fields line) ≡ fields (drop (get_or (set (replicate 29 (length line)) 0 0) k 0) line)
start-begun line zero h = refl
start-begun line (suc k) h = absurd (omega arith)

start-reached : (n k : ℕ) → k + 1 ≡ 1 → get_or (set (replicate 29 n) 0 0) k 0 ≤ 0
start-reached n zero h = omega arith
start-reached n (suc k) h = absurd (omega arith)

start-bare : (line : List ℕ) (n k : ℕ) → k + 1 ≡ 1 → Bare line (get_or (set (replicate 29 n) 0 0) k 0) 0
start-bare line n zero h = refl
start-bare line n (suc k) h = absurd (omega arith)

pub scanned-start : (line : List ℕ) → Scanned line 0 1 (set (replicate 29 (length line)) 0 0)
scanned-start line = record {
  some = omega arith;
  few = omega arith;
  places = refl;
  ahead = refl;
  counted = omega arith;
  within = λ k h. start-at k (length line);
  begun = λ k h less. start-begun line k less;
  missing = λ k h more. start-missing k (length line) h more;
  rising = λ k h less. absurd (omega arith);
  ended = λ k h less. absurd (omega arith);
  reached = λ k h one. start-reached (length line) k one;
  bare = λ k h one. start-bare line (length line) k one;
}

-- ---- a bar

bar-fields : (line : List ℕ) (i : ℕ) → i < length line → get_or line i 0 ≡ 124 → fields (drop i line) ≡ [] ∷ fields (drop (i + 1) line)
bar-fields line i h bar = ap fields (here line i h) ∙ fields-bar (get_or line i 0) (drop (i + 1) line) bar

bar-ahead : (line : List ℕ) (i c : ℕ) → i < length line → get_or line i 0 ≡ 124 → drop c (fields line) ≡ drop 1 (fields (drop i line)) → drop c (fields line) ≡ fields (drop (i + 1) line)
bar-ahead line i c h bar ahead = ahead ∙ ap (drop 1) (bar-fields line i h bar)

bar-next : (line : List ℕ) (i c : ℕ) → i < length line → get_or line i 0 ≡ 124 → drop c (fields line) ≡ drop 1 (fields (drop i line)) → drop (c + 1) (fields line) ≡ drop 1 (fields (drop (i + 1) line))
bar-next line i c h bar ahead = sym (drop-drop 1 c (fields line)) ∙ ap (drop 1) (bar-ahead line i c h bar ahead)

bar-counted : (line : List ℕ) (i c : ℕ) → i < length line → get_or line i 0 ≡ 124 → length (fields line) + 1 ≡ c + length (fields (drop i line)) → length (fields line) + 1 ≡ c + 1 + length (fields (drop (i + 1) line))
bar-counted line i c h bar counted =
    let more : length (fields (drop i line)) ≡ suc (length (fields (drop (i + 1) line))) = ap length (bar-fields line i h bar) in
    omega arith

-- a field, from where it and the fields behind it start
field-here : (line : List ℕ) (k s : ℕ) → drop k (fields line) ≡ fields (drop s line) → field 1 (fields (drop s line)) ≡ field (k + 1) (fields line)
field-here line k s begun =
    let same : k + 0 ≡ k + 1 - 1 = omega arith in
    sym (ap (λ texts. get_or texts 0 []) begun) ∙ get_or-drop k (fields line) 0 [] ∙ ap (λ n. get_or (fields line) n []) same

byte-behind : (line : List ℕ) (s i : ℕ) → s ≤ i → get_or (drop s line) (i - s) 0 ≡ get_or line i 0
byte-behind line s i h =
    let same : s + (i - s) ≡ i = omega arith in
    get_or-drop s line (i - s) 0 ∙ ap (λ n. get_or line n 0) same

-- a field that ends at a bar
field-ends : (line : List ℕ) (k s i : ℕ) → s ≤ i → i < length line → Bare line s i → get_or line i 0 ≡ 124 → drop k (fields line) ≡ fields (drop s line) → StandsAt line (k + 1) s (i + 1 - 1)
field-ends line k s i h within bare bar begun =
    let same : i + 1 - 1 ≡ i = omega arith in
    let room : i - s < length (drop s line) = omega (arith, length-drop s line) in
    ap (λ e. trimmed (take (e - s) (drop s line))) same
    ∙ sym (field-at (drop s line) (i - s) room bare (byte-behind line s i h ∙ bar))
    ∙ field-here line k s begun

-- what is set at a place, and what stays at the others
set-at : (starts : List ℕ) (c n k : ℕ) → k ≡ c → c < length starts → get_or (set starts c n) k 0 ≡ n
set-at starts c n k e h = ap (λ j. get_or (set starts c n) j 0) e ∙ get_or-set_same starts c n 0 h

set-off : (starts : List ℕ) (c n k : ℕ) → k ≢ c → get_or (set starts c n) k 0 ≡ get_or starts k 0
set-off starts c n k ne = get_or-set_other starts c k n 0 ne

bare-none : (line : List ℕ) (s i : ℕ) → s ≡ i → Bare line s i
bare-none line s i e =
    let none : i - s ≡ 0 = omega arith in
    ap (λ n. list_all (λ byte. not (is_bar byte)) (take n (drop s line))) none

pub scanned-bar : (line : List ℕ) (i c : ℕ) (starts : List ℕ) → Scanned line i c starts → i < length line → get_or line i 0 ≡ 124 → c < 29 → Scanned line (i + 1) (c + 1) (set starts c (i + 1))
scanned-bar line i c starts s h bar room =
    let n = s.places in
    let some = s.some in
    let at : (k : ℕ) → k ≡ c → get_or (set starts c (i + 1)) k 0 ≡ i + 1 = λ k e. set-at starts c (i + 1) k e (omega arith) in
    let off : (k : ℕ) → k ≢ c → get_or (set starts c (i + 1)) k 0 ≡ get_or starts k 0 = λ k ne. set-off starts c (i + 1) k ne in
    record {
      some = omega arith;
      few = let few = s.few in omega arith;
      places = length-set starts c (i + 1) ∙ n;
      ahead = bar-next line i c h bar s.ahead;
      counted = bar-counted line i c h bar s.counted;
      within = λ k few.
          elim (same_or_other k c) [
            | inl e ↦ rw (at k e) (omega arith)
            | inr ne ↦ rw (off k ne) (s.within k few)
          ];
      begun = λ k few less.
          elim (same_or_other k c) [
            | inl e ↦ rw (at k e) (subst (λ j. drop j (fields line) ≡ fields (drop (i + 1) line)) (sym e) (bar-ahead line i c h bar s.ahead))
            | inr ne ↦ rw (off k ne) (s.begun k few (omega arith))
          ];
      missing = λ k few more. rw (off k (omega arith)) (s.missing k few (omega arith));
      rising = λ k few less.
          elim (same_or_other (k + 1) c) [
            | inl e ↦ let reached = s.reached k few e in rw (at (k + 1) e, off k (omega arith)) (omega arith)
            | inr ne ↦ rw (off (k + 1) ne, off k (omega arith)) (s.rising k few (omega arith))
          ];
      ended = λ k few less.
          elim (same_or_other (k + 1) c) [
            | inl e ↦
                rw (at (k + 1) e, off k (omega arith))
                (field-ends line k (get_or starts k 0) i (s.reached k few e) h (s.bare k few e) bar (s.begun k (omega arith) (omega arith)))
            | inr ne ↦ rw (off (k + 1) ne, off k (omega arith)) (s.ended k few (omega arith))
          ];
      reached = λ k few one. rw (at k (omega arith)) (omega arith);
      bare = λ k few one. bare-none line (get_or (set starts c (i + 1)) k 0) (i + 1) (at k (omega arith));
    }

pub scanned-bar_beyond : (line : List ℕ) (i c : ℕ) (starts : List ℕ) → Scanned line i c starts → i < length line → get_or line i 0 ≡ 124 → 29 ≤ c → Scanned line (i + 1) (c + 1) starts
scanned-bar_beyond line i c starts s h bar full = record {
  some = omega arith;
  few = let few = s.few in omega arith;
  places = s.places;
  ahead = bar-next line i c h bar s.ahead;
  counted = bar-counted line i c h bar s.counted;
  within = s.within;
  begun = λ k few less. s.begun k few (omega arith);
  missing = λ k few more. absurd (omega arith);
  rising = λ k few less. s.rising k few (omega arith);
  ended = λ k few less. s.ended k few (omega arith);
  reached = λ k few one. absurd (omega arith);
  bare = λ k few one. absurd (omega arith);
}

-- ---- a byte of a field

text-ahead : (line : List ℕ) (i : ℕ) → i < length line → get_or line i 0 ≢ 124 → drop 1 (fields (drop i line)) ≡ drop 1 (fields (drop (i + 1) line))
text-ahead line i h other =
    ap (λ text. drop 1 (fields text)) (here line i h) ∙ fields-text (get_or line i 0) (drop (i + 1) line) other

length-behind : (texts : List (List ℕ)) → 1 ≤ length texts → length texts ≡ suc (length (drop 1 texts))
length-behind [] h = absurd (omega arith)
length-behind (text ∷ texts) h = refl

fields-some : (text : List ℕ) → 1 ≤ length (fields text)
fields-some text = fields-cons text

text-counted : (line : List ℕ) (i : ℕ) → i < length line → get_or line i 0 ≢ 124 → length (fields (drop i line)) ≡ length (fields (drop (i + 1) line))
text-counted line i h other =
    length-behind (fields (drop i line)) (fields-some (drop i line)) ∙ ap (λ texts. suc (length texts)) (text-ahead line i h other)
    ∙ sym (length-behind (fields (drop (i + 1) line)) (fields-some (drop (i + 1) line)))

not-and : (a b : Bool) → a ≡ true → b ≡ false → (a && (not b && true)) ≡ true
not-and a b e f = rw (e, f) refl

is_bar-other : (byte : ℕ) → byte ≢ 124 → is_bar byte ≡ false
is_bar-other byte other = grind (arith, nat_tests)

bare-more : (line : List ℕ) (s i : ℕ) → s ≤ i → i < length line → Bare line s i → get_or line i 0 ≢ 124 → Bare line s (i + 1)
bare-more line s i h within bare other =
    let more : i + 1 - s ≡ i - s + 1 = omega arith in
    let room : i - s < length (drop s line) = omega (arith, length-drop s line) in
    ap (λ n. list_all (λ byte. not (is_bar byte)) (take n (drop s line))) more
    ∙ ap (list_all (λ byte. not (is_bar byte))) (take_more (drop s line) (i - s) 0 room)
    ∙ list_all-append (λ byte. not (is_bar byte)) (take (i - s) (drop s line)) (get_or (drop s line) (i - s) 0 ∷ [])
    ∙ not-and _ _ bare (ap is_bar (byte-behind line s i h) ∙ is_bar-other (get_or line i 0) other)

pub scanned-text : (line : List ℕ) (i c : ℕ) (starts : List ℕ) → Scanned line i c starts → i < length line → get_or line i 0 ≢ 124 → Scanned line (i + 1) c starts
scanned-text line i c starts s h other = record {
  some = s.some;
  few = let few = s.few in omega arith;
  places = s.places;
  ahead = s.ahead ∙ text-ahead line i h other;
  counted = s.counted ∙ ap (λ n. c + n) (text-counted line i h other);
  within = s.within;
  begun = s.begun;
  missing = s.missing;
  rising = s.rising;
  ended = s.ended;
  reached = λ k few one. let reached = s.reached k few one in omega arith;
  bare = λ k few one. bare-more line (get_or starts k 0) i (s.reached k few one) h (s.bare k few one) other;
}

-- ---- at the end

-- the last field reaches to the end of the line
field-last : (line : List ℕ) (k s i : ℕ) → s ≤ i → length line ≤ i → Bare line s i → drop k (fields line) ≡ fields (drop s line) → StandsAt line (k + 1) s (length line)
field-last line k s i h over bare begun =
    let long = length-drop s line in
    let whole : take (length line - s) (drop s line) ≡ drop s line = take_all (length line - s) (drop s line) (omega (arith, long)) in
    let all : take (i - s) (drop s line) ≡ drop s line = take_all (i - s) (drop s line) (omega (arith, long)) in
    ap trimmed whole
    ∙ sym (field-whole (drop s line) (sym (ap (list_all (λ byte. not (is_bar byte))) all) ∙ bare))
    ∙ field-here line k s begun

take-none : (n : ℕ) (text : List ℕ) → text ≡ [] → take n text ≡ []
take-none zero text e = refl
take-none (suc n) text e = rw e refl

-- a field that the line has not
field-missing : (line : List ℕ) (k s : ℕ) → length (fields line) ≤ k → s ≡ length line → StandsAt line (k + 1) s (length line)
field-missing line k s over e =
    let past : length (fields line) ≤ k + 1 - 1 = omega arith in
    ap trimmed (take-none (length line - s) (drop s line) (drop_all s line (omega arith))) ∙ sym (get_or_past (fields line) (k + 1 - 1) [] past)

one_up : (number : ℕ) → 1 ≤ number → number - 1 + 1 ≡ number
one_up number low = omega arith

pub scanned-end : (line : List ℕ) (i c : ℕ) (starts : List ℕ) → Scanned line i c starts → length line ≤ i → HoldsFields line starts c
scanned-end line i c starts s over =
    let nothing : drop i line ≡ [] = drop_all i line over in
    let one : length (fields (drop i line)) ≡ 1 = ap (λ text. length (fields text)) nothing in
    let counted : c ≡ length (fields line) = omega (arith, s.counted, one) in
    record {
      within = λ k few. s.within k (omega arith);
      rising = λ number low high less.
          subst (λ n. get_or starts (number - 1) 0 < get_or starts n 0) (one_up number low) (s.rising (number - 1) (omega arith) (omega arith));
      ended = λ number low high less.
          subst (λ n. StandsAt line n (get_or starts (number - 1) 0) (get_or starts n 0 - 1)) (one_up number low) (s.ended (number - 1) (omega arith) (omega arith));
      last = λ number low high more.
          subst (λ n. StandsAt line n (get_or starts (number - 1) 0) (length line)) (one_up number low)
          (elim (cases_lt (number - 1) c) [
            | inl less ↦
                let e : number - 1 + 1 ≡ c = omega arith in
                field-last line (number - 1) (get_or starts (number - 1) 0) i (s.reached (number - 1) (omega arith) e) over (s.bare (number - 1) (omega arith) e)
                (s.begun (number - 1) (omega arith) less)
            | inr beyond ↦ field-missing line (number - 1) (get_or starts (number - 1) 0) (omega arith) (s.missing (number - 1) (omega arith) beyond)
          ]);
      counted = counted;
      behind = λ k few less. s.begun k (omega arith) less;
    }

pub scanned-same : {line : List ℕ} {i c c' : ℕ} {starts starts' : List ℕ} → c' ≡ c → starts' ≡ starts → Scanned line i c starts → Scanned line i c' starts'
scanned-same {line} {i} {c} {c'} {starts} {starts'} e f s = rw (e, f) s
