-- How much of its input a run reads.
use Rattle.std.proofs.Common.{◌≡◌, ℕ, ◌+◌, ◌≤◌, ◌⊎◌, inl, inr, List, [], ◌∷◌, ◌++◌, length, take, Option, Some, None, refl, sym, ap, subst, ◌∙◌, append_assoc, arith}
use Rattle.std.specs.Prelude.{Result, Ok, Err, IsErrAnd, IfErr, IfSome}
use Rattle.std.specs.Option.{option_map}
use Rattle.std.proofs.lemmas.List.{length-append, length-take}
use Rattle.aq_rules.specs.Limits.{MOST_BYTES}
use Rattle.aq_outside.specs.Outside.{IsAll, Moves}
use Rattle.aq_desk.specs.Body.{IsBodyFault, TakesFew}
use Rattle.aq_desk.specs.Stop.{HasRead, ending_at, status_of, stop_of}
use Rattle.aq_desk.specs.declared.body.BodyFault.{BodyFault}
use Rattle.aq_desk.specs.declared.body.BodyFault.TheVariants as fault
use Rattle.aq_desk.specs.declared.stop.Stop.{Stop}
use Rattle.aq_desk.proofs.Unread.{stopped_by}

same-front : (told : Option (List ℕ)) → told ≡ option_map (λ rest. [] ++ rest) told
same-front None = refl
same-front (Some rest) = refl

-- a call that moves nothing
pub takes-none : (most : ℕ) (before after : Option (List ℕ)) → after ≡ before → TakesFew most before after
takes-none most before after same = record { taken = []; few = omega arith; front = same-front before ∙ ap (option_map (λ rest. [] ++ rest)) (sym same) }

-- a read
pub takes-piece : (most n : ℕ) (buffer : List ℕ) (before after : Option (List ℕ)) → n ≤ most → Moves before after buffer n → TakesFew most before after
takes-piece most n buffer before after within moves = record {
  taken = take n buffer;
  few = let cut = length-take n buffer in omega (arith, cut, within);
  front = moves.moved;
}

two-fronts : (a b : List ℕ) (told : Option (List ℕ)) → option_map (λ rest. a ++ rest) (option_map (λ rest. b ++ rest) told) ≡ option_map (λ rest. (a ++ b) ++ rest) told
two-fronts a b None = refl
two-fronts a b (Some rest) = ap Some (sym (append_assoc a b rest))

-- what a piece takes behind what was read
front-more : (body : List ℕ) (room : ℕ) (before now after : Option (List ℕ)) → length body + room ≤ MOST_BYTES + 1
    → option_map (λ left. body ++ left) now ≡ before → TakesFew room now after → TakesFew (MOST_BYTES + 1) before after
front-more body room before now after fits told takes = record {
  taken = body ++ takes.taken;
  few = let sum = length-append body takes.taken in let few = takes.few in omega (arith, sum, few, fits);
  front = sym told ∙ ap (option_map (λ left. body ++ left)) takes.front ∙ two-fronts body takes.taken after;
}

-- the input or memory failed
cut-off : (status : ℕ) (before after : Option (List ℕ)) → TakesFew (MOST_BYTES + 1) before after → (status ≡ 3) ⊎ (status ≡ 7) → HasRead status before after
cut-off status before after takes why = record {
  read = takes.taken;
  few = takes.few;
  front = takes.front;
  whole = λ whole. absurd (omega (arith, whole, why));
  beyond = λ ten. absurd (omega (arith, ten, why));
}

-- what stops a piece is the input or memory
piece-status : (m n : ℕ) (why : BodyFault) → IsBodyFault m n ⊥ (λ _. ⊥) why → ((ending_at (stop_of why)).status ≡ 3) ⊎ ((ending_at (stop_of why)).status ≡ 7)
piece-status m n fault.InputFailed cause = inl refl
piece-status m n fault.Memory cause = inr refl
piece-status m n fault.TooManyBytes cause = absurd cause.1
piece-status m n (fault.TooManyLines lines) cause = absurd cause.1

-- how much was read when this stopped a body
abbrev pub IsCut : BodyFault → Option (List ℕ) → Option (List ℕ) → Type 0
IsCut why before after = HasRead (ending_at (stop_of why)).status before after

-- what stopped a body, as `?` answers it
pub body-stopped : {A : Type 0} (why : BodyFault) (answer : Result A BodyFault) (before after : Option (List ℕ)) → IsErrAnd answer (λ other. other ≡ why)
    → IsCut why before after → IfErr answer (λ other. IsCut other before after)
body-stopped {A} why (Ok body) before after is read = absurd is
body-stopped {A} why (Err other) before after is read = subst (λ (w : BodyFault). IsCut w before after) (sym is) read

pub piece-stopped : {A : Type 0} (m n : ℕ) (why : BodyFault) (answer : Result A BodyFault) (body : List ℕ) (room : ℕ) (before now after : Option (List ℕ))
    → IsErrAnd answer (λ other. other ≡ why) → IsBodyFault m n ⊥ (λ _. ⊥) why
    → length body + room ≤ MOST_BYTES + 1 → option_map (λ left. body ++ left) now ≡ before → TakesFew room now after → IfErr answer (λ other. IsCut other before after)
piece-stopped m n why answer body room before now after is cause fits told takes =
    body-stopped why answer before after is
    (cut-off (ending_at (stop_of why)).status before after (front-more body room before now after fits told takes) (piece-status m n why cause))

-- the input stands still, since memory was wanting before it was read
pub unread-memory : {A : Type 0} (answer : Result A BodyFault) (left : Option (List ℕ)) → IsErrAnd answer (λ other. other ≡ fault.Memory) → IfErr answer (λ other. IsCut other left left)
unread-memory answer left is = body-stopped fault.Memory answer left left is (cut-off 7 left left (takes-none (MOST_BYTES + 1) left left refl) (inr refl))

-- nothing is left behind the last piece
at-end : (taken : List ℕ) (before after : Option (List ℕ)) → IfSome before (λ left. left ≡ []) → before ≡ option_map (λ rest. taken ++ rest) after → IsAll after []
at-end taken before None end front = tt
at-end [] None (Some rest) end front = absurd (cc)
at-end [] (Some left) (Some []) end front = refl
at-end [] (Some left) (Some (byte ∷ rest)) end front = absurd (cc)
at-end (byte ∷ taken) None (Some rest) end front = absurd (cc)
at-end (byte ∷ taken) (Some left) (Some rest) end front = absurd (cc)

-- a body that was read to its end
pub all-read : (body : List ℕ) (room : ℕ) (before now after : Option (List ℕ)) → length body + room ≤ MOST_BYTES + 1
    → option_map (λ left. body ++ left) now ≡ before → IfSome now (λ left. left ≡ []) → TakesFew room now after → HasRead 0 before after
all-read body room before now after fits told end takes =
    let more = front-more body room before now after fits told takes in
    record {
      read = more.taken;
      few = more.few;
      front = more.front;
      whole = λ _. at-end takes.taken now after end takes.front;
      beyond = λ ten. absurd (omega (arith, ten));
    }

-- one that has a byte too many
pub one-more-read : (body : List ℕ) (before now : Option (List ℕ)) → length body ≡ MOST_BYTES + 1 → option_map (λ left. body ++ left) now ≡ before → HasRead 10 before now
one-more-read body before now many told = record {
  read = body;
  few = omega (arith, many);
  front = sym told;
  whole = λ whole. absurd (omega (arith, whole));
  beyond = λ _. inr many;
}

-- a body that was read to its end serves every status
pub read-on : (status : ℕ) (before after : Option (List ℕ)) → HasRead 0 before after → HasRead status before after
read-on status before after read = record {
  read = read.read;
  few = read.few;
  front = read.front;
  whole = λ _. read.whole (inl refl);
  beyond = λ _. inl (read.whole (inl refl));
}

-- what stopped a body stops the command
pub read-stopped : {A : Type 0} (why : BodyFault) (answer : Result A Stop) (before after : Option (List ℕ)) → IsErrAnd answer (λ stop. stop ≡ stop_of why)
    → IsCut why before after → HasRead (status_of answer) before after
read-stopped {A} why answer before after is read =
    let P = λ (r : Result A Stop). HasRead (status_of r) before after in subst P (sym (stopped_by answer (stop_of why) is)) read
