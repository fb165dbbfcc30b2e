-- The body of a load as it is read from a source.
use Rattle.std.specs.Prelude.{◌≡◌, ℕ, ◌+◌, ◌<◌, ◌≤◌, Bool, ◌&&◌, nat_le, if◌then◌else◌, List, [], ◌++◌, length, Option, IfSome}
use Rattle.std.specs.Option.{option_map}
use Rattle.aq_rules.specs.Limits.{MOST_BYTES, MOST_LINES}
use Rattle.aq_rules.specs.Lines.Lines.{line_count}
use Rattle.aq_desk.specs.Ending.{Ending, too_many_bytes, too_many_lines}
use Rattle.aq_outside.specs.Outside.{OfTold}
use Rattle.aq_base.specs.Faults.{HasRisen}
use Rattle.aq_desk.specs.declared.body.BodyFault.{BodyFault}
use Rattle.aq_desk.specs.declared.body.BodyFault.TheVariants.{InputFailed, Memory, TooManyBytes, TooManyLines}

-- a body within the limits of bytes and of lines
abbrev pub is_within : List ℕ → Bool
is_within body = nat_le (length body) MOST_BYTES && nat_le (line_count body) MOST_LINES

-- the ending of a command whose body is beyond a limit
abbrev pub excess : List ℕ → Ending
excess body =
    if nat_le (length body) MOST_BYTES
    then too_many_lines (line_count body)
    else too_many_bytes

-- a piece of n bytes went from the front of what was left after the body; none is the end
pub record Extends (before after : Option (List ℕ)) (body longer : List ℕ) (n : ℕ) : Type 0 where
  pub more : length longer ≡ length body + n
  pub moved : option_map (λ left. body ++ left) before ≡ option_map (λ left. longer ++ left) after
  pub end : n ≡ 0 → IfSome before (λ left. left ≡ [])

-- at most so many bytes went from the front of what was left
pub record TakesFew (most : ℕ) (before after : Option (List ℕ)) : Type 0 where
  pub taken : List ℕ
  pub few : length taken ≤ most
  pub front : before ≡ option_map (λ rest. taken ++ rest) after

-- there are more bytes than a body may have
abbrev pub HasTooManyBytes : Option (List ℕ) → Type 0
HasTooManyBytes left = OfTold left (λ body. MOST_BYTES < length body)

-- there are so many lines, more than a body may have
pub record IsTooLong (lines : ℕ) (body : List ℕ) : Type 0 where
  pub bytes : length body ≤ MOST_BYTES
  pub counted : lines ≡ line_count body
  pub many : MOST_LINES < lines

-- why there is no body: the source's count rose, or, if it did not, there are too many bytes or lines; want of memory has no cause that is told
abbrev pub IsBodyFault : ℕ → ℕ → Type 0 → (ℕ → Type 0) → BodyFault → Type 0
IsBodyFault before after bytes lines InputFailed = HasRisen before after
IsBodyFault before after bytes lines Memory = after ≡ before
IsBodyFault before after bytes lines TooManyBytes = (after ≡ before) × bytes
IsBodyFault before after bytes lines (TooManyLines count) = (after ≡ before) × lines count

-- why bytes that were read are no body: they have too many lines
abbrev pub IsLinesFault : List ℕ → BodyFault → Type 0
IsLinesFault bytes (TooManyLines count) = IsTooLong count bytes
IsLinesFault bytes _ = ⊥
