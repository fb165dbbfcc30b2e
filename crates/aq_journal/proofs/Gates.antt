-- What a write at the gate or behind it makes of what is known, of the tables told, and of what a crash leaves.
use Rattle.std.proofs.Common.{◌≡◌, ◌⊎◌, inl, inr, ⊎_elim, ℕ, ◌+◌, List, [], ◌∷◌, ◌++◌, length, drop, Option, Some, None, refl, sym, ap, subst, ◌∙◌, append_assoc, arith}
use Rattle.std.specs.Prelude.{IfSome, is_some}
use Rattle.std.specs.Option.{option_map}
use Rattle.aq_rules.specs.Kept.Rows.{Row}
use Rattle.aq_rules.specs.Kept.RowChanges.{RowChange}
use Rattle.aq_journal.specs.declared.gate.Gate.{Gate}
use Rattle.aq_journal.specs.declared.gate.Gate.TheVariants.{Unsynced, Unread, Shut, Doubtful}
use Rattle.aq_journal.specs.Disks.{Torn, written, IsWritten, Follows}
use Rattle.aq_journal.specs.JournalFormat.{IsJournalOf, header, frames_of, journal_of, sized, body_of, tables_in}
use Rattle.aq_journal.specs.Keeping.{IsSynced, IsAmong, IsBehind, HasFrame, AreStaged, Stands, told, in_doubt, with_batch}
use Rattle.aq_journal.proofs.Journals.{fits_more}
use Rattle.aq_journal.proofs.Frames.{torn_gate, written_behind, written_gate, journal_tables, journal_torn, opened_is, place_more, tables_more, shut_tables, open_tables, staged_tables, short_tables}

abbrev pub Told : Type 0
Told = Option (List ℕ)

-- an image of before, torn
abbrev pub IsTornFrom : ℕ → ℕ → (List ℕ → Type 0) → List ℕ → Type 0
IsTornFrom at n before image = (old : List ℕ) × before old × Torn at n old image

-- where the disk tells, tables are those told, those in doubt, or others
abbrev pub IfTold : Told → Gate → Option (List Row) → Option (List Row) → Type 0
IfTold seen gate also tables = IfSome seen (λ file. IsAmong tables (told gate seen) (in_doubt gate seen) also)

-- a fact of bytes that were written
wrote : (P : Told → Type 0) (new old : Told) → new ≡ old → P old → P new
wrote P new old is h = subst P (sym is) h

-- ---- a write behind a gate that is not open

pub stage_left : (end n : ℕ) (so : Told) (mo : List ℕ → Type 0) (also : Option (List Row)) → IfSome so mo → IfSome so (λ file. Stands (Shut end) file mo) → (image : List ℕ) → IsTornFrom (end + 1) n mo image → IfTold so (Shut end) also (tables_in image)
stage_left end n (Some a) mo also reads at image torn =
    let batches = at.0 in
    inl (journal_tables image batches (journal_torn end n batches torn.0 image at.1.place (at.1.images torn.0 torn.1) torn.2) ∙ sym (journal_tables a batches (at.1.images a reads)))
stage_left end n None mo also reads at image torn = tt

pub record IsAsBefore (gate : Gate) (so sn : Told) (mn : List ℕ → Type 0) : Type 0 where
  pub at : IfSome sn (λ file. Stands gate file mn)
  pub told_is : told gate sn ≡ told gate so
  pub doubt_is : in_doubt gate sn ≡ in_doubt gate so

pub stage_torn : (end n : ℕ) (so sn : Told) (mo mn : List ℕ → Type 0) → IfSome so mo → IfSome sn mn → is_some sn ≡ is_some so → IfSome so (λ file. Stands (Shut end) file mo) → ((image : List ℕ) → mn image → IsTornFrom (end + 1) n mo image) → IsAsBefore (Shut end) so sn mn
stage_torn end n (Some a) (Some b) mo mn reads-old reads tells at now =
    let batches = at.0 in
    let images : (image : List ℕ) → mn image → IsJournalOf image batches = λ image may. let torn = now image may in journal_torn end n batches torn.0 image at.1.place (at.1.images torn.0 torn.1) torn.2 in
    let same : tables_in b ≡ tables_in a = journal_tables b batches (images b reads) ∙ sym (journal_tables a batches (at.1.images a reads-old)) in
    record { at = (batches, record { place = at.1.place; fits = at.1.fits; images = images }); told_is = same; doubt_is = same }
stage_torn end n None None mo mn reads-old reads tells at now = record { at = tt; told_is = refl; doubt_is = refl }
stage_torn end n (Some a) None mo mn reads-old reads tells at now = absurd cc
stage_torn end n None (Some b) mo mn reads-old reads tells at now = absurd cc

-- ---- a gate with this batch's frame behind it

abbrev pub AreOf : ℕ → List RowChange → Told → (List ℕ → Type 0) → Type 0
AreOf end batch seen may_leave = IfSome seen (λ file. (batches : List (List RowChange)) × AreStaged end batches batch may_leave)

pub record IsStagedFrom (end : ℕ) (batch : List RowChange) (so sn : Told) (mn : List ℕ → Type 0) : Type 0 where
  pub at : AreOf end batch sn mn
  pub told_is : told (Doubtful end) sn ≡ told (Shut end) so
  pub doubt_is : in_doubt (Doubtful end) sn ≡ with_batch batch (told (Shut end) so)

-- what is written behind the gate of a journal is a whole frame there, whatever stood behind it
stage_written : (end : ℕ) (batches : List (List RowChange)) (batch : List RowChange) (behind before : List ℕ) → end ≡ length (header ++ frames_of batches) → IsBehind batch behind → IsJournalOf before batches → HasFrame batches batch (written (end + 1) behind before)
stage_written end batches batch behind before place is old =
    let front = header ++ frames_of batches in
    let junk = drop (end + 1 + length behind) (front ++ old.gate ∷ old.rest) in
    let body = sized (body_of batch) in
    record {
      gate = old.gate;
      junk = junk;
      whole = ap (written (end + 1) behind) old.whole
          ∙ written_behind front old.rest behind old.gate end place
          ∙ ap (λ (l : List ℕ). front ++ old.gate ∷ (l ++ junk)) is.bytes_are
          ∙ ap (λ (l : List ℕ). front ++ old.gate ∷ l) (append_assoc body (0 ∷ []) junk);
    }

framed_as : (batches : List (List RowChange)) (batch : List RowChange) (image file : List ℕ) → image ≡ file → HasFrame batches batch file → HasFrame batches batch image
framed_as batches batch image file is frame = record { gate = frame.gate; junk = frame.junk; whole = is ∙ frame.whole }

pub staged : (end : ℕ) (batch : List RowChange) (behind : List ℕ) (so sn : Told) (mo mn : List ℕ → Type 0) → IfSome so mo → IfSome so (λ file. Stands (Shut end) file mo) → IsBehind batch behind
    → sn ≡ option_map (written (end + 1) behind) so → Follows (IsWritten (end + 1) behind) mo mn → IsStagedFrom end batch so sn mn
staged end batch behind None sn mo mn reads at is wrote-is over = wrote (λ told. IsStagedFrom end batch None told mn) sn None wrote-is (record { at = tt; told_is = refl; doubt_is = refl })
staged end batch behind (Some a) sn mo mn reads at is wrote-is over =
    let batches = at.0 in
    let new = written (end + 1) behind a in
    let old = at.1.images a reads in
    let frame = stage_written end batches batch behind a at.1.place is old in
    let before = journal_tables a batches old in
    let images : (image : List ℕ) → mn image → HasFrame batches batch image = λ image may.
    let from = over image may in
    framed_as batches batch image (written (end + 1) behind from.0) from.2 (stage_written end batches batch behind from.0 at.1.place is (at.1.images from.0 from.1)) in
    wrote (λ seen. IsStagedFrom end batch (Some a) seen mn) sn (Some new) wrote-is (record {
      at = (batches, record { place = at.1.place; fits = at.1.fits; one = is.fits; images = images });
      told_is = shut_tables end frame.gate batches (sized (body_of batch) ++ 0 ∷ frame.junk) new at.1.place at.1.fits frame.whole ∙ sym before;
      doubt_is = open_tables end frame.gate batches batch frame.junk new at.1.place at.1.fits is.fits frame.whole ∙ ap (λ (rows : List Row). Some rows) (tables_more batches batch) ∙ sym (ap (with_batch batch) before);
    })

-- ---- a write of the gate

staged_image : (end : ℕ) (batches : List (List RowChange)) (batch : List RowChange) (mo : List ℕ → Type 0) (at : AreStaged end batches batch mo) (a image : List ℕ) → mo a → HasFrame batches batch image
    → (tables_in image ≡ told (Doubtful end) (Some a)) ⊎ (tables_in image ≡ in_doubt (Doubtful end) (Some a))
staged_image end batches batch mo at a image reads frame =
    let old = at.images a reads in
    ⊎_elim (λ shut. inl (shut ∙ sym (shut_tables end old.gate batches (sized (body_of batch) ++ 0 ∷ old.junk) a at.place at.fits old.whole)))
    (λ opened. inr (opened ∙ sym (open_tables end old.gate batches batch old.junk a at.place at.fits at.one old.whole)))
    (staged_tables batches batch frame.gate frame.junk image at.fits at.one frame.whole)

torn_image : (end : ℕ) (batches : List (List RowChange)) (batch : List RowChange) (mo : List ℕ → Type 0) (at : AreStaged end batches batch mo) (image : List ℕ) → IsTornFrom end 1 mo image → HasFrame batches batch image
torn_image end batches batch mo at image torn =
    let old = at.images torn.0 torn.1 in
    let gate = torn_gate (header ++ frames_of batches) (sized (body_of batch) ++ 0 ∷ old.junk) old.gate end image at.place (subst (λ (file : List ℕ). Torn end 1 file image) old.whole torn.2) in
    record { gate = gate.0; junk = old.junk; whole = gate.1 }

pub gate_left : (end : ℕ) (batch : List RowChange) (so : Told) (mo : List ℕ → Type 0) (also : Option (List Row)) → IfSome so mo → AreOf end batch so mo → (image : List ℕ) → IsTornFrom end 1 mo image → IfTold so (Doubtful end) also (tables_in image)
gate_left end batch (Some a) mo also reads at image torn =
    ⊎_elim (λ shut. inl shut) (λ opened. inr (inl opened)) (staged_image end at.0 batch mo at.1 a image reads (torn_image end at.0 batch mo at.1 image torn))
gate_left end batch None mo also reads at image torn = tt

pub record IsStagedStill (end : ℕ) (batch : List RowChange) (so sn : Told) (mn : List ℕ → Type 0) : Type 0 where
  pub at : AreOf end batch sn mn
  pub told_is : told (Doubtful end) sn ≡ told (Doubtful end) so
  pub doubt_is : in_doubt (Doubtful end) sn ≡ in_doubt (Doubtful end) so

pub gate_torn : (end : ℕ) (batch : List RowChange) (so sn : Told) (mo mn : List ℕ → Type 0) → IfSome so mo → IfSome sn mn → is_some sn ≡ is_some so → AreOf end batch so mo → ((image : List ℕ) → mn image → IsTornFrom end 1 mo image) → IsStagedStill end batch so sn mn
gate_torn end batch (Some a) (Some b) mo mn reads-old reads tells at now =
    let batches = at.0 in
    let s = at.1 in
    let body = sized (body_of batch) in
    let images : (image : List ℕ) → mn image → HasFrame batches batch image = λ image may. torn_image end batches batch mo s image (now image may) in
    let old = s.images a reads-old in
    let new = images b reads in
    record {
      at = (batches, record { place = s.place; fits = s.fits; one = s.one; images = images });
      told_is = shut_tables end new.gate batches (body ++ 0 ∷ new.junk) b s.place s.fits new.whole ∙ sym (shut_tables end old.gate batches (body ++ 0 ∷ old.junk) a s.place s.fits old.whole);
      doubt_is = open_tables end new.gate batches batch new.junk b s.place s.fits s.one new.whole ∙ sym (open_tables end old.gate batches batch old.junk a s.place s.fits s.one old.whole);
    }
gate_torn end batch None None mo mn reads-old reads tells at now = record { at = tt; told_is = refl; doubt_is = refl }
gate_torn end batch (Some a) None mo mn reads-old reads tells at now = absurd cc
gate_torn end batch None (Some b) mo mn reads-old reads tells at now = absurd cc

-- the gate that was written stands there, and all else is as it was
gate_written : (end gate : ℕ) (batches : List (List RowChange)) (batch : List RowChange) (before : List ℕ) → end ≡ length (header ++ frames_of batches) → (frame : HasFrame batches batch before) → written end (gate ∷ []) before ≡ journal_of batches gate (sized (body_of batch) ++ 0 ∷ frame.junk)
gate_written end gate batches batch before place frame = ap (written end (gate ∷ [])) frame.whole ∙ written_gate (header ++ frames_of batches) (sized (body_of batch) ++ 0 ∷ frame.junk) frame.gate gate end place

-- the gate is shut, and that is synced
pub record IsShutFrom (later : ℕ) (sn : Told) (mn : List ℕ → Type 0) (expected : Option (List Row)) : Type 0 where
  pub at : IfSome sn (λ file. Stands (Shut later) file mn)
  pub told_is : told (Shut later) sn ≡ expected

pub gate_shut : (end : ℕ) (batch : List RowChange) (so sn : Told) (mo mn : List ℕ → Type 0) → IfSome so mo → AreOf end batch so mo → sn ≡ option_map (written end (0 ∷ [])) so → Follows (IsWritten end (0 ∷ [])) mo mn → IsShutFrom end sn mn (told (Doubtful end) so)
gate_shut end batch None sn mo mn reads at wrote-is over = wrote (λ seen. IsShutFrom end seen mn None) sn None wrote-is (record { at = tt; told_is = refl })
gate_shut end batch (Some a) sn mo mn reads at wrote-is over =
    let batches = at.0 in
    let s = at.1 in
    let new = written end (0 ∷ []) a in
    let old = s.images a reads in
    let shut : (before : List ℕ) → mo before → IsJournalOf (written end (0 ∷ []) before) batches = λ before may.
    let frame = s.images before may in
    record { gate = 0; rest = sized (body_of batch) ++ 0 ∷ frame.junk; whole = gate_written end 0 batches batch before s.place frame; shut = omega arith; fits = s.fits } in
    let images : (image : List ℕ) → mn image → IsJournalOf image batches = λ image may. let from = over image may in subst (λ (file : List ℕ). IsJournalOf file batches) (sym from.2) (shut from.0 from.1) in
    wrote (λ seen. IsShutFrom end seen mn (told (Doubtful end) (Some a))) sn (Some new) wrote-is (record {
      at = (batches, record { place = s.place; fits = s.fits; images = images });
      told_is = journal_tables new batches (shut a reads) ∙ sym (shut_tables end old.gate batches (sized (body_of batch) ++ 0 ∷ old.junk) a s.place s.fits old.whole);
    })

-- the gate is opened, and that is synced
pub gate_opened : (end : ℕ) (batch : List RowChange) (behind : List ℕ) (so sn : Told) (mo mn : List ℕ → Type 0) → IfSome so mo → AreOf end batch so mo → IsBehind batch behind → sn ≡ option_map (written end (1 ∷ [])) so → Follows (IsWritten end (1 ∷ [])) mo mn
    → IsShutFrom (end + length behind) sn mn (in_doubt (Doubtful end) so)
gate_opened end batch behind None sn mo mn reads at is wrote-is over = wrote (λ seen. IsShutFrom (end + length behind) seen mn None) sn None wrote-is (record { at = tt; told_is = refl })
gate_opened end batch behind (Some a) sn mo mn reads at is wrote-is over =
    let batches = at.0 in
    let s = at.1 in
    let new = written end (1 ∷ []) a in
    let old = s.images a reads in
    let more = batches ++ batch ∷ [] in
    let opened : (before : List ℕ) → mo before → IsJournalOf (written end (1 ∷ []) before) more = λ before may.
    let frame = s.images before may in
    record { gate = 0; rest = frame.junk; whole = gate_written end 1 batches batch before s.place frame ∙ opened_is batches batch frame.junk; shut = omega arith; fits = fits_more batches batch s.fits s.one } in
    let images : (image : List ℕ) → mn image → IsJournalOf image more = λ image may. let from = over image may in subst (λ (file : List ℕ). IsJournalOf file more) (sym from.2) (opened from.0 from.1) in
    wrote (λ seen. IsShutFrom (end + length behind) seen mn (in_doubt (Doubtful end) (Some a))) sn (Some new) wrote-is (record {
      at = (more, record { place = place_more end batches batch behind s.place is; fits = fits_more batches batch s.fits s.one; images = images });
      told_is = journal_tables new more (opened a reads) ∙ sym (open_tables end old.gate batches batch old.junk a s.place s.fits s.one old.whole);
    })

-- ---- what a crash leaves between two calls

pub left_of : (gate : Gate) (so : Told) (mo : List ℕ → Type 0) → IfSome so mo → IfSome so (λ file. Stands gate file mo) → IsSynced gate → IfSome so (λ file. (image : List ℕ) → mo image → (tables_in image ≡ told gate so) ⊎ (tables_in image ≡ in_doubt gate so))
left_of gate None mo reads at synced = tt
left_of Unsynced (Some a) mo reads at synced = absurd synced
left_of Unread (Some a) mo reads at synced = λ image may. elim (at image may) [
  | inl same ↦ inl (ap tables_in same)
  | inr small ↦ inl (short_tables image small.1 ∙ sym (short_tables a small.0))
]
left_of (Shut end) (Some a) mo reads at synced = λ image may. inl (journal_tables image at.0 (at.1.images image may) ∙ sym (journal_tables a at.0 (at.1.images a reads)))
left_of (Doubtful end) (Some a) mo reads at synced = λ image may. staged_image end at.0 at.1 mo at.2 a image reads (at.2.images image may)
