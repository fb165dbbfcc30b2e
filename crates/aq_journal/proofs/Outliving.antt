-- What a crash leaves through any calls of a keeper.
use Rattle.std.proofs.Common.{◌≡◌, ◌∙◌, ◌⊎◌, inl, inr, ⊎_elim, ℕ, Bool, true, List, [], ◌∷◌, Option, Some, None, sym, subst, arith}
use Rattle.std.specs.Prelude.{IfSome, is_some}
use Rattle.aq_rules.specs.Kept.Rows.{Row}
use Rattle.aq_journal.specs.declared.disk.Disk.{Ghosts}
use Rattle.aq_journal.specs.declared.gate.Gate.{Gate}
use Rattle.aq_journal.specs.declared.gate.Gate.TheVariants.{Unsynced, Unread, Shut, Doubtful}
use Rattle.aq_journal.specs.Disks.{IfTells}
use Rattle.aq_journal.specs.JournalFormat.{tables_in}
use Rattle.aq_journal.specs.Calls.{Since}
use Rattle.aq_journal.specs.Keeping.{KeeperState, IsCertain, IsAmong, IsLeft, IsSynced, Leaves, told, in_doubt}
use Rattle.aq_journal.specs.Runs.{Call, Reads, Commits, AreCalls, AllSpare, Spares, Passes, after_all, made_by, told_by}
use Rattle.aq_journal.proofs.Moments.{since_none, since_as, since_then}
use Rattle.aq_journal.proofs.Gates.{Told}
use Rattle.aq_journal.proofs.Enduring.{of_image}

module _ (test : List Row → Bool) where
  -- a keeper that tells tables has a disk that tells
  of_told : (gate : Gate) (seen : Told) (P : Type 0) → Passes test (told gate seen) → IfSome seen (λ file. P) → P
  of_told gate (Some file) P passes holds = holds
  of_told Unsynced None P passes holds = absurd passes
  of_told Unread None P passes holds = absurd passes
  of_told (Shut end) None P passes holds = absurd passes
  of_told (Doubtful end) None P passes holds = absurd passes

  as_well : (tables same : Option (List Row)) → tables ≡ same → Passes test same → Passes test tables
  as_well tables same is passes = subst (Passes test) (sym is) passes

  made_passes : (call : Call) (tables : Option (List Row)) → Spares test call → Passes test tables → Passes test (made_by call tables)
  made_passes Reads tables spares passes = passes
  made_passes (Commits batch) (Some rows) spares passes = spares rows passes
  made_passes (Commits batch) None spares passes = absurd passes

  one_passes : (tables first second third : Option (List Row)) → IsAmong tables first second third → Passes test first → Passes test second → Passes test third → Passes test tables
  one_passes tables first second third (inl is) a b c = as_well tables first is a
  one_passes tables first second third (inr (inl is)) a b c = as_well tables second is b
  one_passes tables first second third (inr (inr is)) a b c = as_well tables third is c

  module _ {D : Type 0} (d : Ghosts D) where
    abbrev LeftPasses : List ℕ → Type 0
    LeftPasses image = Passes test (tables_in image)

    -- a disk that tells after calls told before them
    tells_first : (calls : List (Call × KeeperState D)) (start : KeeperState D) → AreCalls d start calls → is_some (d.seen (after_all start calls).disk) ≡ true → is_some (d.seen start.disk) ≡ true
    tells_first [] start called still = still
    tells_first (call ∷ calls) start called still = let new = tells_first calls call.1 called.1 still in sym (called.0 new).crash.tells ∙ new

    pub through : (calls : List (Call × KeeperState D)) (start : KeeperState D) → Passes test (told_by d start) → Passes test (in_doubt start.gate (d.seen start.disk)) → AreCalls d start calls → AllSpare test calls → is_some (d.seen (after_all start calls).disk) ≡ true → Since d start.disk (after_all start calls).disk LeftPasses
    through [] start passes doubt called spare still = since_none d start.disk LeftPasses
    through (call ∷ calls) start passes doubt called spare still =
        let new = call.1 in
        let is = called.0 (tells_first calls new called.1 still) in
        let made = made_passes call.0 (told_by d start) spare.0 passes in
        let passes-new = ⊎_elim (λ same. as_well (told_by d new) (told_by d start) same passes) (λ done. as_well (told_by d new) (made_by call.0 (told_by d start)) done made) is.tables in
        let doubt-new = one_passes (in_doubt new.gate (d.seen new.disk)) (told_by d start) (in_doubt start.gate (d.seen start.disk)) (made_by call.0 (told_by d start)) (of_told new.gate (d.seen new.disk) _ passes-new is.crash.doubt) passes doubt made in
        let first = since_as d start.disk new.disk (λ image. IsSynced new.gate × Leaves d start.disk start.gate (made_by call.0 (told_by d start)) image) LeftPasses
        (λ image left. one_passes (tables_in image) (told_by d start) (in_doubt start.gate (d.seen start.disk)) (made_by call.0 (told_by d start)) (of_told start.gate (d.seen start.disk) _ passes left.1) passes doubt made) is.crash.until in
        since_then d start.disk new.disk (after_all new calls).disk LeftPasses first (through calls new passes-new doubt-new called.1 spare.1 still)

    pub outlives : ((disk : D) (image : List ℕ) → d.left_since disk (d.moment disk) image → d.may_leave disk image) → (calls : List (Call × KeeperState D)) (start : KeeperState D) → IsCertain start.gate (d.seen start.disk) → IsLeft d start.disk start.gate → Passes test (told_by d start)
        → AreCalls d start calls → AllSpare test calls → IfTells (d.seen (after_all start calls).disk) ((image : List ℕ) → d.left_since (after_all start calls).disk (d.moment start.disk) image → Passes test (tables_in image))
    outlives only_now calls start certain left-start passes called spare still image left =
        let doubt = as_well (in_doubt start.gate (d.seen start.disk)) (told_by d start) certain.1 passes in
        let since = through calls start passes doubt called spare still in
        ⊎_elim (λ past. ⊎_elim (λ is. as_well (tables_in image) (told_by d start) is passes) (λ is. as_well (tables_in image) (in_doubt start.gate (d.seen start.disk)) is doubt)
        (of_told start.gate (d.seen start.disk) _ passes (of_image (d.seen start.disk) (λ (each : List ℕ). (tables_in each ≡ told_by d start) ⊎ (tables_in each ≡ in_doubt start.gate (d.seen start.disk))) (d.may_leave start.disk) image (only_now start.disk image past) (left-start certain.0)))) (λ is. is) (since.left (d.moment start.disk) image (omega arith) left)
