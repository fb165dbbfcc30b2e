-- The definitions of a body's lines, as the code computes them.
use Rattle.std.proofs.Common.{◌≡◌, ℕ, ◌+◌, ◌-◌, ◌<◌, Bool, true, false, not, cond, ◌&&◌, ◌==◌, List, [], ◌∷◌, length, get_or, take, drop, refl, ap, ◌∙◌, arith, sub-one, add-one, one-add, count_by, map, filter, suc, Option, Some, None}
use Rattle.std.proofs.lemmas.List.Sums.{sum_by-cons, position_or_len_is}
use Rattle.std.proofs.lemmas.List.{at_drop_more, at_drop_all, take_all, drop_all, length-map, length-drop}
use Rattle.std.proofs.lemmas.Bool.{ltb-false, le-ltb, lt-ltb, false_from_ne_true}
use Rattle.std.specs.Prelude.{bytes_eq, slice_get, position, nat_lt, ◌≤◌}
use Rattle.std.specs.List.{onto_first, position_or_len}
use Rattle.memchr.specs.Find.{IsFirstByte, is_byte}
use Rattle.aq_rules.specs.Lines.Lines.{NumberedLine, cut_at_ends, without_return, is_skipped, texts, numbered, body_lines, line_count, without_mark, BYTE_ORDER_MARK}

abbrev pub is_end : ℕ → Bool
is_end byte = byte == 10

-- ---- where the first line ends

module _ (byte place : ℕ) (bytes : List ℕ) where
  cut_step : (ends : Bool) → onto_first byte (cut_at_ends bytes) ≡ (byte ∷ take place bytes) ∷ cut_at_ends (drop (place + 1) bytes) → cond ends ([] ∷ cut_at_ends bytes) (onto_first byte (cut_at_ends bytes)) ≡ take (cond (not ends) (1 + place) 0) (byte ∷ bytes) ∷ cut_at_ends (drop (cond (not ends) (1 + place) 0 + 1) (byte ∷ bytes))
  cut_step true onto = refl
  cut_step false onto = rw onto (simp (one-add, add-one))

onto_cut : (byte : ℕ) (bytes : List ℕ) → onto_first byte (cut_at_ends bytes) ≡ (byte ∷ take (position_or_len is_end bytes) bytes) ∷ cut_at_ends (drop (position_or_len is_end bytes + 1) bytes)
onto_cut byte [] = refl
onto_cut byte (next ∷ bytes) = ap (onto_first byte) (cut_step next (position_or_len is_end bytes) bytes (is_end next) (onto_cut next bytes))

-- the first line ends at the first LF
pub cut_first : (bytes : List ℕ) → 0 < length bytes → let end = position_or_len is_end bytes in cut_at_ends bytes ≡ take end bytes ∷ cut_at_ends (drop (end + 1) bytes)
cut_first [] some = absurd (omega arith)
cut_first (byte ∷ bytes) some = cut_step byte (position_or_len is_end bytes) bytes (is_end byte) (onto_cut byte bytes)

-- the place that a search gives is that of the first LF
pub first_place : (bytes : List ℕ) (place : Option ℕ) → IsFirstByte (is_byte 10) bytes place → position is_end bytes ≡ place
first_place bytes None nowhere =
    let fails = λ (k : ℕ) (within : k < length bytes). false_from_ne_true _ (nowhere k (omega arith) within) in
    let end = position_or_len_is is_end bytes (length bytes) 0 (omega arith) fails (λ within. absurd (omega arith)) in
    rw (end, le-ltb (length bytes) (length bytes) (omega arith)) refl
first_place bytes (Some place) (before, passes) =
    let fails = λ (k : ℕ) (earlier : k < place). false_from_ne_true _ (before.before k (omega arith) earlier) in
    let end = position_or_len_is is_end bytes place 0 (omega (arith, before.high)) fails (λ within. passes) in
    rw (end, lt-ltb place (length bytes) before.high) refl

choice_some : (found : Bool) (place end : ℕ) → cond found (Some place) None ≡ Some end → place ≡ end
choice_some true place end is = cc
choice_some false place end is = cc

choice_none : (found : Bool) (place : ℕ) → cond found (Some place) None ≡ None → found ≡ false
choice_none true place is = cc
choice_none false place is = refl

pub cut_at_some : (bytes : List ℕ) (end : ℕ) → position is_end bytes ≡ Some end → 0 < length bytes → cut_at_ends bytes ≡ take end bytes ∷ cut_at_ends (drop (end + 1) bytes)
cut_at_some bytes end is some =
    let e = choice_some (nat_lt (position_or_len is_end bytes) (length bytes)) (position_or_len is_end bytes) end is in
    rw e at (cut_first bytes some)

pub cut_at_none : (bytes : List ℕ) → position is_end bytes ≡ None → 0 < length bytes → cut_at_ends bytes ≡ bytes ∷ []
cut_at_none bytes is some =
    let past = ltb-false (position_or_len is_end bytes) (length bytes) (choice_none (nat_lt (position_or_len is_end bytes) (length bytes)) (position_or_len is_end bytes) is) in
    let front = take_all (position_or_len is_end bytes) bytes past in
    let behind = drop_all (position_or_len is_end bytes + 1) bytes (omega arith) in
    cut_first bytes some ∙ rw (front, behind) refl

-- ---- a line's CR

keeps_first : (ends : Bool) (byte : ℕ) (bytes : List ℕ) → cond (ends && false) [] (byte ∷ bytes) ≡ byte ∷ bytes
keeps_first true byte bytes = refl
keeps_first false byte bytes = refl

onto_choice : (ends : Bool) (byte : ℕ) (front bytes : List ℕ) → byte ∷ cond ends front bytes ≡ cond ends (byte ∷ front) (byte ∷ bytes)
onto_choice true byte front bytes = refl
onto_choice false byte front bytes = refl

return_last : (byte : ℕ) (bytes : List ℕ) → without_return (byte ∷ bytes) ≡ cond (bytes_eq (drop (length bytes) (byte ∷ bytes)) (13 ∷ [])) (take (length bytes) (byte ∷ bytes)) (byte ∷ bytes)
return_last byte [] = refl
return_last byte (next ∷ bytes) =
    keeps_first (byte == 13) byte (without_return (next ∷ bytes))
    ∙ ap (λ line. byte ∷ line) (return_last next bytes)
    ∙ onto_choice (bytes_eq (drop (length bytes) (next ∷ bytes)) (13 ∷ [])) byte (take (length bytes) (next ∷ bytes)) (next ∷ bytes)

-- a line's CR is its last byte
pub without_last : (line : List ℕ) → without_return line ≡ cond (bytes_eq (drop (length line - 1) line) (13 ∷ [])) (take (length line - 1) line) line
without_last [] = refl
without_last (byte ∷ bytes) = rw sub-one (return_last byte bytes)

-- ---- what is skipped

skips_step : (byte : ℕ) (bytes : List ℕ) (space : Bool) → (byte == 32) ≡ space → is_skipped (byte ∷ bytes) ≡ cond space (is_skipped bytes) (byte == 35)
skips_step byte bytes true e = rw e refl
skips_step byte bytes false e = rw e refl

pub skips_more : (text : List ℕ) (place : ℕ) → place < length text → is_skipped (drop place text) ≡ cond (get_or text place 0 == 32) (is_skipped (drop (place + 1) text)) (get_or text place 0 == 35)
skips_more text place within = at_drop_more is_skipped text place 0 within ∙ skips_step (get_or text place 0) (drop (place + 1) text) (get_or text place 0 == 32) refl

pub skips_all : (text : List ℕ) (place : ℕ) → length text ≤ place → is_skipped (drop place text) ≡ true
skips_all text place past = at_drop_all is_skipped text place past

-- ---- how many lines there are

abbrev pub unended : Option ℕ → ℕ
unended None = 0
unended (Some byte) = cond (byte == 10) 0 1

count_step : (ends : Bool) (byte : ℕ) (lines : List (List ℕ)) → 0 < length lines → length (cond ends ([] ∷ lines) (onto_first byte lines)) ≡ cond ends 1 0 + length lines
count_step ends byte [] some = absurd (omega arith)
count_step true byte (line ∷ lines) some = omega arith
count_step false byte (line ∷ lines) some = omega arith

one_line : (ends : Bool) (byte : ℕ) → length (cond ends ([] ∷ []) ((byte ∷ []) ∷ [])) ≡ 0 + cond ends 1 0 + cond ends 0 1
one_line true byte = refl
one_line false byte = refl

some_line : (bytes : List ℕ) → 0 < length bytes → 0 < length (cut_at_ends bytes)
some_line bytes some = rw (cut_first bytes some) (omega arith)

count_from : (byte : ℕ) (bytes : List ℕ) → length (cut_at_ends (byte ∷ bytes)) ≡ count_by is_end (byte ∷ bytes) + unended (slice_get (byte ∷ bytes) (length bytes))
count_from byte [] = one_line (byte == 10) byte
count_from byte (next ∷ bytes) =
    let step = count_step (byte == 10) byte (cut_at_ends (next ∷ bytes)) (some_line (next ∷ bytes) (omega arith)) in
    let more = sum_by-cons (λ x. cond (is_end x) 1 0) byte (next ∷ bytes) in
    let rest = count_from next bytes in
    omega (arith, step, more, rest)

-- the LF bytes, and one more if the last byte is another
pub lines_are_counted : (bytes : List ℕ) → length (map without_return (cut_at_ends bytes)) ≡ count_by is_end bytes + unended (slice_get bytes (length bytes - 1))
lines_are_counted [] = refl
lines_are_counted (byte ∷ bytes) = length-map (cut_at_ends (byte ∷ bytes)) without_return ∙ rw sub-one (count_from byte bytes)

kept_step : (keeps : Bool) (line : NumberedLine) (kept : List NumberedLine) (most : ℕ) → length kept ≤ most → length (cond keeps (line ∷ kept) kept) ≤ suc most
kept_step true line kept most few = omega arith
kept_step false line kept most few = omega arith

length-numbered : (number : ℕ) (lines : List (List ℕ)) → length (numbered number lines) ≡ length lines
length-numbered number [] = refl
length-numbered number (line ∷ lines) = ap suc (length-numbered (number + 1) lines)

length-kept : (lines : List NumberedLine) → length (filter (λ line. not (is_skipped line.text)) lines) ≤ length lines
length-kept [] = omega arith
length-kept (line ∷ lines) = kept_step (not (is_skipped line.text)) line (filter (λ line. not (is_skipped line.text)) lines) (length lines) (length-kept lines)

-- no more lines are kept than there are
pub kept_lines : (body : List ℕ) → length (body_lines body) ≤ line_count body
kept_lines body = rw (← length-numbered 1 (texts body)) (length-kept (numbered 1 (texts body)))

within_step : (ends : Bool) (byte : ℕ) (lines : List (List ℕ)) (most : ℕ) → length lines ≤ most → length (cond ends ([] ∷ lines) (onto_first byte lines)) ≤ suc most
within_step true byte lines most few = omega arith
within_step false byte [] most few = omega arith
within_step false byte (line ∷ lines) most few = omega arith

lines_within : (bytes : List ℕ) → length (cut_at_ends bytes) ≤ length bytes
lines_within [] = omega arith
lines_within (byte ∷ bytes) = within_step (byte == 10) byte (cut_at_ends bytes) (length bytes) (lines_within bytes)

mark_within : (marked : Bool) (body : List ℕ) → length (cond marked (drop 3 body) body) ≤ length body
mark_within true body = omega (arith, length-drop 3 body)
mark_within false body = omega arith

-- each line has a byte
pub few_lines : (body : List ℕ) → line_count body ≤ length body
few_lines body =
    omega (
      arith,
      length-map (cut_at_ends (without_mark body)) without_return,
      lines_within (without_mark body),
      mark_within (bytes_eq (take 3 body) BYTE_ORDER_MARK) body,
    )
