-- What a crash leaves through the steps of a call, over any disk.
use Rattle.std.proofs.Common.{◌≡◌, ◌⊎◌, inl, inr, ⊎_elim, ℕ, ◌+◌, ◌^◌, ◌<◌, true, List, [], ◌∷◌, length, Option, Some, None, refl, sym, ap, subst, ◌∙◌, arith}
use Rattle.std.specs.Prelude.{IfSome, OnErr, Result, Ok, Err, is_some}
use Rattle.aq_rules.specs.Kept.Rows.{Row}
use Rattle.aq_rules.specs.Kept.RowChanges.{RowChange}
use Rattle.aq_journal.specs.declared.disk.Disk.{Ghosts}
use Rattle.aq_journal.specs.declared.gate.Gate.{Gate}
use Rattle.aq_journal.specs.declared.gate.Gate.TheVariants.{Unsynced, Unread, Shut, Doubtful}
use Rattle.aq_journal.specs.Disks.{IfTells, Only}
use Rattle.aq_journal.specs.JournalFormat.{tables_in}
use Rattle.aq_journal.specs.Calls.{Since, IsTorn, Puts, HasPut, IsQuiet}
use Rattle.aq_journal.specs.Keeping.{IsSynced, IsAmong, IsBehind, HasRoom, IsHeld, Stands, Endures, Leaves, IsLeft, told, in_doubt, with_batch}
use Rattle.aq_journal.proofs.Moments.{since_as, since_then, quiet_none}
use Rattle.aq_journal.proofs.Gates.{Told, IfTold, AreOf, left_of, stage_left, stage_torn, staged, gate_left, gate_torn, gate_shut, gate_opened}

-- ---- tables among others

among_as : (tables told-old doubt-old first also : Option (List Row)) → (first ≡ told-old) ⊎ (first ≡ also) → IsAmong tables told-old doubt-old first → IsAmong tables told-old doubt-old also
among_as tables to do-old first also is (inl a) = inl a
among_as tables to do-old first also is (inr (inl b)) = inr (inl b)
among_as tables to do-old first also (inl is) (inr (inr c)) = inl (c ∙ is)
among_as tables to do-old first also (inr is) (inr (inr c)) = inr (inr (c ∙ is))

among_then : (tables told-mid doubt-mid told-old doubt-old first also : Option (List Row)) → told-mid ≡ told-old → (first ≡ told-old) ⊎ (first ≡ also) → IsAmong doubt-mid told-old doubt-old first → IsAmong tables told-mid doubt-mid also → IsAmong tables told-old doubt-old also
among_then tables tm dm to do-old first also same is doubt (inl a) = inl (a ∙ same)
among_then tables tm dm to do-old first also same is doubt (inr (inl b)) = subst (λ (each : Option (List Row)). IsAmong each to do-old also) (sym b) (among_as dm to do-old first also is doubt)
among_then tables tm dm to do-old first also same is doubt (inr (inr c)) = inr (inr c)

-- the same where the disk tells before and after
leaves_then : (gate mid : Gate) (so sm : Told) (tables first also : Option (List Row)) → is_some sm ≡ is_some so → told mid sm ≡ told gate so → (first ≡ told gate so) ⊎ (first ≡ also) → IfSome sm (λ file. IsAmong (in_doubt mid sm) (told gate so) (in_doubt gate so) first) → IfTold sm mid also tables → IfTold so gate also tables
leaves_then gate mid (Some a) (Some b) tables first also tells same is doubt left = among_then tables _ _ _ _ first also same is doubt left
leaves_then gate mid None (Some b) tables first also tells same is doubt left = tt
leaves_then gate mid None None tables first also tells same is doubt left = tt
leaves_then gate mid (Some a) None tables first also tells same is doubt left = absurd cc

leaves_as : (gate : Gate) (so : Told) (tables first also : Option (List Row)) → (first ≡ told gate so) ⊎ (first ≡ also) → IfTold so gate first tables → IfTold so gate also tables
leaves_as gate (Some a) tables first also is left = among_as tables _ _ first also is left
leaves_as gate None tables first also is left = tt

doubt_then : (gate mid : Gate) (so sm sn : Told) (later first also : Option (List Row)) → is_some sn ≡ is_some sm → told mid sm ≡ told gate so → (first ≡ told gate so) ⊎ (first ≡ also) → IfSome sm (λ file. IsAmong (in_doubt mid sm) (told gate so) (in_doubt gate so) first)
    → IfSome sn (λ file. IsAmong later (told mid sm) (in_doubt mid sm) also) → IfSome sn (λ file. IsAmong later (told gate so) (in_doubt gate so) also)
doubt_then gate mid so (Some b) (Some c) later first also tells same is doubt left = among_then later _ _ _ _ first also same is doubt left
doubt_then gate mid so (Some b) None later first also tells same is doubt left = tt
doubt_then gate mid so None None later first also tells same is doubt left = tt
doubt_then gate mid so None (Some c) later first also tells same is doubt left = absurd cc

-- whether a first sync was answered
either_synced : (gate : Gate) → IsSynced gate ⊎ (IsSynced gate → ⊥)
either_synced Unsynced = inr (λ synced. synced)
either_synced Unread = inl tt
either_synced (Shut end) = inl tt
either_synced (Doubtful end) = inl tt

if_told : (so : Told) (gate : Gate) (also tables : Option (List Row)) → IfSome so (λ file. (tables ≡ told gate so) ⊎ (tables ≡ in_doubt gate so)) → IfTold so gate also tables
if_told (Some a) gate also tables (inl is) = inl is
if_told (Some a) gate also tables (inr is) = inr (inl is)
if_told None gate also tables left = tt

pub of_image : (so : Told) (Is : List ℕ → Type 0) (mo : List ℕ → Type 0) (image : List ℕ) → mo image → IfSome so (λ file. (each : List ℕ) → mo each → Is each) → IfSome so (λ file. Is image)
of_image (Some a) Is mo image may all = all image may
of_image None Is mo image may all = tt

same_doubt : (gate later : Gate) (so sn : Told) (also : Option (List Row)) → in_doubt later sn ≡ in_doubt gate so → IfSome sn (λ file. IsAmong (in_doubt later sn) (told gate so) (in_doubt gate so) also)
same_doubt gate later so (Some b) also is = inr (inl is)
same_doubt gate later so None also is = tt

pub no_doubt : (gate later : Gate) (so sn : Told) (also : Option (List Row)) → in_doubt later sn ≡ told gate so → IfSome sn (λ file. IsAmong (in_doubt later sn) (told gate so) (in_doubt gate so) also)
no_doubt gate later so (Some b) also is = inl is
no_doubt gate later so None also is = tt

new_doubt : (gate later : Gate) (so sn : Told) (also : Option (List Row)) → in_doubt later sn ≡ also → IfSome sn (λ file. IsAmong (in_doubt later sn) (told gate so) (in_doubt gate so) also)
new_doubt gate later so (Some b) also is = inr (inr is)
new_doubt gate later so None also is = tt

-- what is known of a file if it is told
if_some : (so : Told) (P : List ℕ → Type 0) → IfTells so (IfSome so P) → IfSome so P
if_some (Some a) P holds = holds refl
if_some None P holds = tt

-- of a disk that tells no more only the room behind its gate is known
pub held_if : {D : Type 0} (d : Ghosts D) (disk : D) (gate : Gate) → HasRoom gate → IfTells (d.seen disk) (IsHeld d disk gate) → IsHeld d disk gate
held_if d disk gate room held = record { room = room; file = if_some (d.seen disk) (λ file. Stands gate file (d.may_leave disk)) (λ still. (held still).file) }

module _ {D : Type 0} (d : Ghosts D) (reads : (disk : D) → IfSome (d.seen disk) (d.may_leave disk)) (only_now : (disk : D) (image : List ℕ) → d.left_since disk (d.moment disk) image → d.may_leave disk image) where
  pub left_held : (disk : D) (gate : Gate) → IsHeld d disk gate → IsLeft d disk gate
  left_held disk gate held synced = left_of gate (d.seen disk) (d.may_leave disk) (reads disk) held.file synced

  at_start : (disk : D) (gate : Gate) (also : Option (List Row)) → IsHeld d disk gate → IsSynced gate → (image : List ℕ) → d.may_leave disk image → Leaves d disk gate also image
  at_start disk gate also held synced image may =
      if_told (d.seen disk) gate also (tables_in image)
      (of_image (d.seen disk) (λ each. (tables_in each ≡ told gate (d.seen disk)) ⊎ (tables_in each ≡ in_doubt gate (d.seen disk))) (d.may_leave disk) image may (left_held disk gate held synced))

  -- one step of a disk that was synced
  pub endures : (old new : D) (gate later : Gate) (also : Option (List Row)) (Is : List ℕ → Type 0) → IsHeld d old gate → IsSynced gate → IsSynced later → is_some (d.seen new) ≡ is_some (d.seen old)
      → Since d old new Is → ((image : List ℕ) → Is image → Leaves d old gate also image) → IfSome (d.seen new) (λ file. IsAmong (in_doubt later (d.seen new)) (told gate (d.seen old)) (in_doubt gate (d.seen old)) also) → Endures d old new gate later also
  endures old new gate later also Is held synced synced-later tells since left doubt = record {
    until = since_as d old new Is (λ image. IsSynced later × Leaves d old gate also image) (λ image is. (synced-later, left image is)) since;
    onwards = λ still. record {
      moment = d.moment old;
      begins = omega arith;
      ends = since.later;
      left = λ image had. ⊎_elim (λ past. at_start old gate also held synced image (only_now old image past)) (left image) (since.left (d.moment old) image (omega arith) had);
    };
    stays = λ before. synced-later;
    tells = tells;
    doubt = doubt;
  }

  -- steps one after the other, of which the first leaves the tables as they are
  pub endures_then : (old mid new : D) (gate between later : Gate) (first also : Option (List Row)) → told between (d.seen mid) ≡ told gate (d.seen old) → (first ≡ told gate (d.seen old)) ⊎ (first ≡ also)
      → Endures d old mid gate between first → Endures d mid new between later also → Endures d old new gate later also
  endures_then old mid new gate between later first also same is a b =
      let before : (image : List ℕ) → Leaves d old gate first image → Leaves d old gate also image = λ image. leaves_as gate (d.seen old) (tables_in image) first also is in
      let after : (image : List ℕ) → Leaves d mid between also image → Leaves d old gate also image = λ image. leaves_then gate between (d.seen old) (d.seen mid) (tables_in image) first also a.tells same is a.doubt in
      let Is : List ℕ → Type 0 = λ image. IsSynced later × Leaves d old gate also image in
      record {
        until = since_then d old mid new Is
            (since_as d old mid (λ image. IsSynced between × Leaves d old gate first image) Is (λ image left. (b.stays left.0, before image left.1)) a.until)
            (since_as d mid new (λ image. IsSynced later × Leaves d mid between also image) Is (λ image left. (left.0, after image left.1)) b.until);
        onwards = λ synced. elim (either_synced between) [
          | inl had ↦
              let from = a.onwards had in
              record {
                moment = from.moment;
                begins = from.begins;
                ends = omega (arith, from.ends, b.until.later);
                left = λ image left. ⊎_elim (λ past. before image (from.left image past)) (λ is-new. after image is-new.1) (b.until.left from.moment image from.ends left);
              }
          | inr none ↦
              let from = b.onwards synced in
              record {
                moment = from.moment;
                begins = omega (arith, from.begins, a.until.later);
                ends = from.ends;
                left = λ image left. after image (from.left image left);
              }
        ];
        stays = λ before-synced. b.stays (a.stays before-synced);
        tells = b.tells ∙ a.tells;
        doubt = doubt_then gate between (d.seen old) (d.seen mid) (d.seen new) (in_doubt later (d.seen new)) first also b.tells same is a.doubt b.doubt;
      }

  -- ---- a call that changes nothing

  pub quiet_held : (old new : D) (gate : Gate) → IsQuiet d old new → IsHeld d old gate → IsHeld d new gate
  quiet_held old new gate quiet held = record { room = held.room; file = calm gate (d.seen old) (d.seen new) (d.may_leave old) (d.may_leave new) quiet.seen quiet.now held.file }
    where
      fewer : (gate : Gate) (file : List ℕ) (mo mn : List ℕ → Type 0) → ((image : List ℕ) → mn image → mo image) → Stands gate file mo → Stands gate file mn
      fewer Unsynced file mo mn now at = tt
      fewer Unread file mo mn now at = λ image may. at image (now image may)
      fewer (Shut end) file mo mn now at = (at.0, record { place = at.1.place; fits = at.1.fits; images = λ image may. at.1.images image (now image may) })
      fewer (Doubtful end) file mo mn now at = (at.0, at.1, record { place = at.2.place; fits = at.2.fits; one = at.2.one; images = λ image may. at.2.images image (now image may) })

      both : (so : Told) (gate : Gate) (mo mn : List ℕ → Type 0) → ((image : List ℕ) → mn image → mo image) → IfSome so (λ file. Stands gate file mo) → IfSome so (λ file. Stands gate file mn)
      both (Some a) gate mo mn now at = fewer gate a mo mn now at
      both None gate mo mn now at = tt

      calm : (gate : Gate) (so sn : Told) (mo mn : List ℕ → Type 0) → sn ≡ so → ((image : List ℕ) → mn image → mo image) → IfSome so (λ file. Stands gate file mo) → IfSome sn (λ file. Stands gate file mn)
      calm gate so sn mo mn same now at = subst (λ (seen : Told). IfSome seen (λ file. Stands gate file mn)) (sym same) (both so gate mo mn now at)

  pub quiet_endures : (old new : D) (gate : Gate) (also : Option (List Row)) → IsQuiet d old new → IsHeld d old gate → Endures d old new gate gate also
  quiet_endures old new gate also quiet held = record {
    until = since_as d old new (λ image. ⊥) (λ image. IsSynced gate × Leaves d old gate also image) (λ image none. absurd none) quiet.since;
    onwards = λ synced. record {
      moment = d.moment old;
      begins = omega arith;
      ends = quiet.since.later;
      left = λ image had. ⊎_elim (λ past. at_start old gate also held synced image (only_now old image past)) (λ none. absurd none) (quiet.since.left (d.moment old) image (omega arith) had);
    };
    stays = λ synced. synced;
    tells = ap is_some quiet.seen;
    doubt = same_doubt gate gate (d.seen old) (d.seen new) also (ap (in_doubt gate) quiet.seen);
  }

-- ---- what is known after a step, what is told, and what a crash leaves

pub record Step {D : Type 0} (d : Ghosts D) (old new : D) (gate later : Gate) (expected also : Option (List Row)) : Type 0 where
  pub held : IsHeld d new later
  pub told_is : told later (d.seen new) ≡ expected
  pub endures : Endures d old new gate later also

-- a gate with some frame behind it
framed : (end : ℕ) (so : Told) (mo : List ℕ → Type 0) → IfSome so (λ file. Stands (Doubtful end) file mo) → (batch : List RowChange) × AreOf end batch so mo
framed end (Some a) mo at = (at.1, (at.0, at.2))
framed end None mo at = ([], tt)

unframed : (end : ℕ) (batch : List RowChange) (so : Told) (mo : List ℕ → Type 0) → AreOf end batch so mo → IfSome so (λ file. Stands (Doubtful end) file mo)
unframed end batch (Some a) mo at = (at.0, batch, at.1)
unframed end batch None mo at = tt

module _ {D : Type 0} (d : Ghosts D) (reads : (disk : D) → IfSome (d.seen disk) (d.may_leave disk)) (only_now : (disk : D) (image : List ℕ) → d.left_since disk (d.moment disk) image → d.may_leave disk image) where
  -- a frame that was not written behind the gate, or is not synced there
  pub stage_failed : (old new : D) (end : ℕ) (behind : List ℕ) (also : Option (List Row)) → IsHeld d old (Shut end) → Puts d (end + 1) behind old new → Step d old new (Shut end) (Shut end) (told (Shut end) (d.seen old)) also
  stage_failed old new end behind also held put =
      let n = length behind in
      let s = stage_torn end n (d.seen old) (d.seen new) (d.may_leave old) (d.may_leave new) (reads old) (reads new) put.tells held.file put.now in
      record {
        held = record { room = held.room; file = s.at };
        told_is = s.told_is;
        endures = endures d reads only_now old new (Shut end) (Shut end) also (IsTorn d (end + 1) behind old) held tt tt put.tells put.since (stage_left end n (d.seen old) (d.may_leave old) also (reads old) held.file) (same_doubt (Shut end) (Shut end) (d.seen old) (d.seen new) also s.doubt_is);
      }

  pub record IsStaged (old new : D) (end : ℕ) (batch : List RowChange) : Type 0 where
    pub at : AreOf end batch (d.seen new) (d.may_leave new)
    pub doubt_is : in_doubt (Doubtful end) (d.seen new) ≡ with_batch batch (told (Shut end) (d.seen old))
    pub step : Step d old new (Shut end) (Doubtful end) (told (Shut end) (d.seen old)) (with_batch batch (told (Shut end) (d.seen old)))

  -- and one that is
  pub stage_done : (old new : D) (end : ℕ) (batch : List RowChange) (behind : List ℕ) → IsHeld d old (Shut end) → IsBehind batch behind → Puts d (end + 1) behind old new → HasPut d (end + 1) behind old new → IsStaged old new end batch
  stage_done old new end batch behind held is put has =
      let also = with_batch batch (told (Shut end) (d.seen old)) in
      let s = staged end batch behind (d.seen old) (d.seen new) (d.may_leave old) (d.may_leave new) (reads old) held.file is has.seen has.images in
      record {
        at = s.at;
        doubt_is = s.doubt_is;
        step = record {
          held = record { room = held.room; file = unframed end batch (d.seen new) (d.may_leave new) s.at };
          told_is = s.told_is;
          endures = endures d reads only_now old new (Shut end) (Doubtful end) also (IsTorn d (end + 1) behind old) held tt tt put.tells put.since (stage_left end (length behind) (d.seen old) (d.may_leave old) also (reads old) held.file) (new_doubt (Shut end) (Doubtful end) (d.seen old) (d.seen new) also s.doubt_is);
        };
      }

  -- a gate that was not written, or is not synced
  pub gate_failed : (old new : D) (end byte : ℕ) (batch : List RowChange) (also : Option (List Row)) → IsHeld d old (Doubtful end) → AreOf end batch (d.seen old) (d.may_leave old) → Puts d end (byte ∷ []) old new → Step d old new (Doubtful end) (Doubtful end) (told (Doubtful end) (d.seen old)) also
  gate_failed old new end byte batch also held at put =
      let s = gate_torn end batch (d.seen old) (d.seen new) (d.may_leave old) (d.may_leave new) (reads old) (reads new) put.tells at put.now in
      record {
        held = record { room = held.room; file = unframed end batch (d.seen new) (d.may_leave new) s.at };
        told_is = s.told_is;
        endures = endures d reads only_now old new (Doubtful end) (Doubtful end) also (IsTorn d end (byte ∷ []) old) held tt tt put.tells put.since (gate_left end batch (d.seen old) (d.may_leave old) also (reads old) at) (same_doubt (Doubtful end) (Doubtful end) (d.seen old) (d.seen new) also s.doubt_is);
      }

  pub shut_failed : (old new : D) (end : ℕ) (also : Option (List Row)) → IsHeld d old (Doubtful end) → Puts d end (0 ∷ []) old new → Step d old new (Doubtful end) (Doubtful end) (told (Doubtful end) (d.seen old)) also
  shut_failed old new end also held put = let f = framed end (d.seen old) (d.may_leave old) held.file in gate_failed old new end 0 f.0 also held f.1 put

  -- a gate that is shut
  pub shut_done : (old new : D) (end : ℕ) (also : Option (List Row)) → IsHeld d old (Doubtful end) → Puts d end (0 ∷ []) old new → HasPut d end (0 ∷ []) old new → Step d old new (Doubtful end) (Shut end) (told (Doubtful end) (d.seen old)) also
  shut_done old new end also held put has =
      let f = framed end (d.seen old) (d.may_leave old) held.file in
      let s = gate_shut end f.0 (d.seen old) (d.seen new) (d.may_leave old) (d.may_leave new) (reads old) f.1 has.seen has.images in
      record {
        held = record { room = held.room; file = s.at };
        told_is = s.told_is;
        endures = endures d reads only_now old new (Doubtful end) (Shut end) also (IsTorn d end (0 ∷ []) old) held tt tt put.tells put.since (gate_left end f.0 (d.seen old) (d.may_leave old) also (reads old) f.1) (no_doubt (Doubtful end) (Shut end) (d.seen old) (d.seen new) also s.told_is);
      }

  -- a gate that is opened
  pub open_done : (old new : D) (end : ℕ) (batch : List RowChange) (behind : List ℕ) (also : Option (List Row)) → IsHeld d old (Doubtful end) → AreOf end batch (d.seen old) (d.may_leave old) → IsBehind batch behind → end + length behind + 1 < 2 ^ 63
      → Puts d end (1 ∷ []) old new → HasPut d end (1 ∷ []) old new → Step d old new (Doubtful end) (Shut (end + length behind)) (in_doubt (Doubtful end) (d.seen old)) also
  open_done old new end batch behind also held at is room put has =
      let later = end + length behind in
      let s = gate_opened end batch behind (d.seen old) (d.seen new) (d.may_leave old) (d.may_leave new) (reads old) at is has.seen has.images in
      record {
        held = record { room = room; file = s.at };
        told_is = s.told_is;
        endures = endures d reads only_now old new (Doubtful end) (Shut later) also (IsTorn d end (1 ∷ []) old) held tt tt put.tells put.since (gate_left end batch (d.seen old) (d.may_leave old) also (reads old) at) (same_doubt (Doubtful end) (Shut later) (d.seen old) (d.seen new) also s.told_is);
      }

  -- ---- a frame that is added, by how far it came

  pub added : (old mid new : D) (end : ℕ) (batch : List RowChange) (behind : List ℕ) → IsHeld d old (Shut end) → IsBehind batch behind → end + length behind + 1 < 2 ^ 63 → Puts d (end + 1) behind old mid → HasPut d (end + 1) behind old mid → Puts d end (1 ∷ []) mid new → HasPut d end (1 ∷ []) mid new
      → Step d old new (Shut end) (Shut (end + length behind)) (with_batch batch (told (Shut end) (d.seen old))) (with_batch batch (told (Shut end) (d.seen old)))
  added old mid new end batch behind held is room put has put-gate has-gate =
      let also = with_batch batch (told (Shut end) (d.seen old)) in
      let first = stage_done old mid end batch behind held is put has in
      let second = open_done mid new end batch behind also first.step.held first.at is room put-gate has-gate in
      record {
        held = second.held;
        told_is = second.told_is ∙ first.doubt_is;
        endures = endures_then d reads only_now old mid new (Shut end) (Doubtful end) (Shut (end + length behind)) also also first.step.told_is (inr refl) first.step.endures second.endures;
      }

  pub half_added : (old mid new : D) (end : ℕ) (batch : List RowChange) (behind : List ℕ) → IsHeld d old (Shut end) → IsBehind batch behind → Puts d (end + 1) behind old mid → HasPut d (end + 1) behind old mid → Puts d end (1 ∷ []) mid new
      → Step d old new (Shut end) (Doubtful end) (told (Shut end) (d.seen old)) (with_batch batch (told (Shut end) (d.seen old)))
  half_added old mid new end batch behind held is put has put-gate =
      let also = with_batch batch (told (Shut end) (d.seen old)) in
      let first = stage_done old mid end batch behind held is put has in
      let second = gate_failed mid new end 1 batch also first.step.held first.at put-gate in
      record {
        held = second.held;
        told_is = second.told_is ∙ first.step.told_is;
        endures = endures_then d reads only_now old mid new (Shut end) (Doubtful end) (Doubtful end) also also first.step.told_is (inr refl) first.step.endures second.endures;
      }

  -- ---- a disk that is refreshed

  pub refreshed : (old new : D) (also : Option (List Row)) → IsQuiet d old new → IfSome (d.seen old) (λ file. Only file (d.may_leave new)) → Step d old new Unsynced Unread (told Unsynced (d.seen old)) also
  refreshed old new also quiet only = record {
    held = record { room = tt; file = known (d.seen old) (d.seen new) quiet.seen only };
    told_is = ap (told Unread) quiet.seen;
    endures = record {
      until = since_as d old new (λ image. ⊥) (λ image. IsSynced Unread × Leaves d old Unsynced also image) (λ image none. absurd none) quiet.since;
      onwards = λ synced. record {
        moment = d.moment new;
        begins = quiet.since.later;
        ends = omega arith;
        left = λ image had. is_told (d.seen old) only image (only_now new image had);
      };
      stays = λ none. absurd none;
      tells = ap is_some quiet.seen;
      doubt = no_doubt Unsynced Unread (d.seen old) (d.seen new) also (ap (told Unread) quiet.seen);
    };
  }
    where
      known : (so sn : Told) → sn ≡ so → IfSome so (λ file. Only file (d.may_leave new)) → IfSome sn (λ file. Stands Unread file (d.may_leave new))
      known so sn same all = subst (λ (seen : Told). IfSome seen (λ file. Stands Unread file (d.may_leave new))) (sym same) (each so all)
        where
          each : (so : Told) → IfSome so (λ file. Only file (d.may_leave new)) → IfSome so (λ file. Stands Unread file (d.may_leave new))
          each (Some a) all = λ image may. inl (all image may)
          each None all = tt

      is_told : (so : Told) → IfSome so (λ file. Only file (d.may_leave new)) → (image : List ℕ) → d.may_leave new image → IfTold so Unsynced also (tables_in image)
      is_told (Some a) all image may = inl (ap tables_in (all image may))
      is_told None all image may = tt

  -- ---- the same, of a gate that is known to be so

  pub quiet_step : (old new : D) (gate : Gate) (also : Option (List Row)) → IsQuiet d old new → IsHeld d old gate → Step d old new gate gate (told gate (d.seen old)) also
  quiet_step old new gate also quiet held = record {
    held = quiet_held d reads only_now old new gate quiet held;
    told_is = ap (told gate) quiet.seen;
    endures = quiet_endures d reads only_now old new gate also quiet held;
  }

  pub shut_failed_at : (old new : D) (gate : Gate) (end : ℕ) → gate ≡ Doubtful end → IsHeld d old gate → Puts d end (0 ∷ []) old new → Step d old new gate gate (told gate (d.seen old)) (told gate (d.seen old))
  shut_failed_at old new gate end is held put =
      subst (λ (g : Gate). IsHeld d old g → Step d old new g g (told g (d.seen old)) (told g (d.seen old))) (sym is) (λ had. shut_failed old new end (told (Doubtful end) (d.seen old)) had put) held

  pub shut_done_at : (old new : D) (gate : Gate) (end : ℕ) → gate ≡ Doubtful end → IsHeld d old gate → Puts d end (0 ∷ []) old new → HasPut d end (0 ∷ []) old new → Step d old new gate (Shut end) (told gate (d.seen old)) (told gate (d.seen old))
  shut_done_at old new gate end is held put has =
      subst (λ (g : Gate). IsHeld d old g → Step d old new g (Shut end) (told g (d.seen old)) (told g (d.seen old))) (sym is) (λ had. shut_done old new end (told (Doubtful end) (d.seen old)) had put has) held

  pub refreshed_at : (old new : D) (gate : Gate) → gate ≡ Unsynced → IsQuiet d old new → IfSome (d.seen new) (λ file. Only file (d.may_leave new)) → Step d old new gate Unread (told gate (d.seen old)) (told gate (d.seen old))
  refreshed_at old new gate is quiet only =
      subst (λ (g : Gate). Step d old new g Unread (told g (d.seen old)) (told g (d.seen old))) (sym is)
      (refreshed old new (told Unsynced (d.seen old)) quiet (subst (λ (seen : Told). IfSome seen (λ file. Only file (d.may_leave new))) quiet.seen only))

  pub stage_failed_at : (old new : D) (gate : Gate) (end : ℕ) (batch : List RowChange) (behind : List ℕ) → gate ≡ Shut end → IsHeld d old gate → Puts d (end + 1) behind old new → Step d old new gate gate (told gate (d.seen old)) (with_batch batch (told gate (d.seen old)))
  stage_failed_at old new gate end batch behind is held put =
      subst (λ (g : Gate). IsHeld d old g → Step d old new g g (told g (d.seen old)) (with_batch batch (told g (d.seen old)))) (sym is) (λ had. stage_failed old new end behind (with_batch batch (told (Shut end) (d.seen old))) had put) held

  pub half_added_at : (old mid new : D) (gate : Gate) (end : ℕ) (batch : List RowChange) (behind : List ℕ) → gate ≡ Shut end → IsHeld d old gate → IsBehind batch behind → Puts d (end + 1) behind old mid → HasPut d (end + 1) behind old mid → Puts d end (1 ∷ []) mid new
      → Step d old new gate (Doubtful end) (told gate (d.seen old)) (with_batch batch (told gate (d.seen old)))
  half_added_at old mid new gate end batch behind is held at put has put-gate =
      subst (λ (g : Gate). IsHeld d old g → Step d old new g (Doubtful end) (told g (d.seen old)) (with_batch batch (told g (d.seen old)))) (sym is) (λ had. half_added old mid new end batch behind had at put has put-gate) held

  pub added_at : (old mid new : D) (gate : Gate) (end : ℕ) (batch : List RowChange) (behind : List ℕ) → gate ≡ Shut end → IsHeld d old gate → IsBehind batch behind → end + length behind + 1 < 2 ^ 63 → Puts d (end + 1) behind old mid → HasPut d (end + 1) behind old mid → Puts d end (1 ∷ []) mid new → HasPut d end (1 ∷ []) mid new
      → Step d old new gate (Shut (end + length behind)) (with_batch batch (told gate (d.seen old))) (with_batch batch (told gate (d.seen old)))
  added_at old mid new gate end batch behind is held at room put has put-gate has-gate =
      subst (λ (g : Gate). IsHeld d old g → Step d old new g (Shut (end + length behind)) (with_batch batch (told g (d.seen old))) (with_batch batch (told g (d.seen old)))) (sym is) (λ had. added old mid new end batch behind had at room put has put-gate has-gate) held

  -- ---- calls one after the other, of which the first leaves the tables as they are, over a disk that tells still

  pub endures_next : (old mid new : D) (gate between later : Gate) (make : Option (List Row) → Option (List Row)) → IfTells (d.seen mid) (told between (d.seen mid) ≡ told gate (d.seen old))
      → IfTells (d.seen mid) (Endures d old mid gate between (told gate (d.seen old))) → IfTells (d.seen new) (Endures d mid new between later (make (told between (d.seen mid)))) → IfTells (d.seen new) (Endures d old new gate later (make (told gate (d.seen old))))
  endures_next old mid new gate between later make same first second still =
      let after = second still in
      let before : is_some (d.seen mid) ≡ true = sym after.tells ∙ still in
      endures_then d reads only_now old mid new gate between later (told gate (d.seen old)) (make (told gate (d.seen old))) (same before) (inl refl) (first before)
      (subst (λ (rows : Option (List Row)). Endures d mid new between later (make rows)) (same before) after)

  -- what is to be told is not told yet
  pub endures_also : (old new : D) (gate later : Gate) (make : Option (List Row) → Option (List Row)) → IsHeld d new later → IfTells (d.seen new) (told later (d.seen new) ≡ told gate (d.seen old)) → IfTells (d.seen new) (Endures d old new gate later (told gate (d.seen old)))
      → IfTells (d.seen new) (Endures d old new gate later (make (told gate (d.seen old))))
  endures_also old new gate later make held same first = endures_next old new new gate later later make same first (λ still. quiet_endures d reads only_now new new later (make (told later (d.seen new))) (quiet_none d new) held)

  -- what is told behind both
  pub told_next : (old mid new : D) (gate between later : Gate) (make : Option (List Row) → Option (List Row)) (also : Option (List Row)) → IfTells (d.seen mid) (told between (d.seen mid) ≡ told gate (d.seen old)) → IfTells (d.seen new) (Endures d mid new between later also)
      → IfTells (d.seen new) (told later (d.seen new) ≡ make (told between (d.seen mid))) → IfTells (d.seen new) (told later (d.seen new) ≡ make (told gate (d.seen old)))
  told_next old mid new gate between later make also same second is still = is still ∙ ap make (same (sym (second still).tells ∙ still))

-- a fact that holds whatever is answered
pub on_err : {T E P : Type 0} (answer : Result T E) → P → OnErr answer P
on_err (Ok done) holds = tt
on_err (Err fault) holds = holds
