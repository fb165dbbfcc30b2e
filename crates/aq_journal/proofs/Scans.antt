-- A journal that is read frame after frame.
use Rattle.std.proofs.Common.{◌≡◌, ℕ, suc, ◌+◌, ◌-◌, ◌<◌, ◌≤◌, List, [], ◌∷◌, ◌++◌, length, take, drop, Option, Some, refl, sym, ap, subst, ◌∙◌, append_assoc, arith}
use Rattle.std.specs.Option.{option_map}
use Rattle.std.specs.List.{AllByRecursion}
use Rattle.std.proofs.lemmas.List.{append-nil, length-append, take_at, drop_at}
use Rattle.std.proofs.lemmas.List.Sums.{fold-append}
use Rattle.aq_rules.specs.Kept.Rows.{Row}
use Rattle.aq_rules.specs.Kept.RowChanges.{RowChange, with_row_changes}
use Rattle.aq_journal.specs.declared.trouble.Trouble.{Trouble}
use Rattle.aq_journal.specs.declared.trouble.Trouble.TheVariants.{Failed, Refused, Memory}
use Rattle.aq_journal.specs.JournalFormat.{BatchFits, header, frame_of, frames_of, frames_in, batches_in, tables_of, batch_in, sized_at, body_of, sized}
use Rattle.aq_journal.specs.Reading.{Stops}
use Rattle.aq_journal.specs.Scanning.{IsEnded, IsShut, IsNextIf}
use Rattle.aq_journal.proofs.Fields.{IsBytes, sized_takes}
use Rattle.aq_journal.proofs.Batches.{batch_takes}
use Rattle.aq_journal.proofs.Journals.{fits_more, front_more, frames_behind, frames_long, read_long}

-- what was read before, and what is left of a file
pub record IsRead (file : List ℕ) (tables : List Row) (count : ℕ) (rest : List ℕ) : Type 0 where
  pub done : List (List RowChange)
  pub count_is : length done ≡ count
  pub fits : AllByRecursion BatchFits done
  pub whole : file ≡ (header ++ frames_of done) ++ rest
  pub tables_are : tables ≡ tables_of done

pub begun : (file rest : List ℕ) → file ≡ header ++ rest → IsRead file [] 0 rest
begun file rest is = record { done = []; count_is = refl; fits = tt; whole = is ∙ ap (λ (l : List ℕ). l ++ rest) (sym (append-nil header)); tables_are = refl }

-- one frame more
pub read_more : (file : List ℕ) (tables later : List Row) (count : ℕ) (rest behind : List ℕ) (batch : List RowChange) → IsRead file tables count rest → BatchFits batch → rest ≡ frame_of batch ++ behind → later ≡ with_row_changes tables batch
    → IsRead file later (count + 1) behind
read_more file tables later count rest behind batch so_far fits next made = record {
  done = so_far.done ++ batch ∷ [];
  count_is = omega (arith, so_far.count_is, length-append so_far.done (batch ∷ []));
  fits = fits_more so_far.done batch so_far.fits fits;
  whole = so_far.whole ∙ parts;
  tables_are = made ∙ ap (λ (rows : List Row). with_row_changes rows batch) so_far.tables_are ∙ sym (fold-append with_row_changes [] so_far.done (batch ∷ []));
}
  where
    parts : (header ++ frames_of so_far.done) ++ rest ≡ (header ++ frames_of (so_far.done ++ batch ∷ [])) ++ behind
    parts =
        ap (λ (l : List ℕ). (header ++ frames_of so_far.done) ++ l) next
        ∙ sym (append_assoc (header ++ frames_of so_far.done) (frame_of batch) behind)
        ∙ ap (λ (l : List ℕ). l ++ behind) (sym (front_more so_far.done batch))

-- where nothing is read of the rest, the file is no journal
pub stops_at : (fault : Trouble) (file : List ℕ) (tables : List Row) (count : ℕ) (rest : List ℕ) → 9 < length file → count < length file → IsRead file tables count rest
    → ((most : ℕ) → Stops fault (frames_in (suc most) rest)) → Stops fault (batches_in file)
stops_at Memory file tables count rest long few so_far none = tt
stops_at Failed file tables count rest long few so_far none = absurd (none 0)
stops_at Refused file tables count rest long few so_far none =
    let done = so_far.done in
    let behind = frames_of done ++ rest in
    let parts : file ≡ header ++ behind = so_far.whole ∙ append_assoc header (frames_of done) rest in
    let most = length file - (count + 1) in
    read_long file behind long (ap (take 8) parts ∙ take_at header behind 8 refl) (ap (drop 8) parts ∙ drop_at header behind 8 refl)
    ∙ frames_behind done (length file) (suc most) rest (omega (arith, few, so_far.count_is)) so_far.fits
    ∙ ap (λ (read : Option (List (List RowChange))). option_map (λ others. done ++ others) read) (none most)

-- there are no more frames than bytes
pub read_all : {A : Type 0} (file : List ℕ) (tables : List Row) (count : ℕ) (rest : List ℕ) → length file ≤ count → IsRead file tables count rest → A
read_all file tables count rest le so_far =
    absurd (omega (arith, le, so_far.count_is, ap length so_far.whole, length-append (header ++ frames_of so_far.done) rest, length-append header (frames_of so_far.done), frames_long so_far.done))

-- a gate that is not open ends them
pub ended : (file : List ℕ) (tables : List Row) (count : ℕ) (rest : List ℕ) (end : ℕ) → IsRead file tables count rest → IsShut rest → end ≡ length file - length rest → (batches : List (List RowChange)) × (tables ≡ tables_of batches) × IsEnded file batches end
ended file tables count rest end so_far shut is = (
  so_far.done,
  so_far.tables_are,
  record {
    gate = shut.gate;
    rest = shut.rest;
    whole = so_far.whole ∙ ap (λ (l : List ℕ). (header ++ frames_of so_far.done) ++ l) shut.whole;
    end_is = omega (arith, is, ap length so_far.whole, length-append (header ++ frames_of so_far.done) rest);
    shut = shut.shut;
    fits = so_far.fits;
  },
)

-- ---- the next frame

pub stops_sized : (fault : Trouble) (most : ℕ) (rest : List ℕ) → Stops fault (sized_at rest) → Stops fault (frames_in (suc most) (1 ∷ rest))
unfolding frames_in
stops_sized Memory most rest h = tt
stops_sized Failed most rest h = absurd h
stops_sized Refused most rest h = rw h refl

pub stops_batch : (fault : Trouble) (most : ℕ) (rest body behind : List ℕ) → sized_at rest ≡ Some (body, behind) → Stops fault (batch_in body) → Stops fault (frames_in (suc most) (1 ∷ rest))
unfolding frames_in
stops_batch Memory most rest body behind sized-is h = tt
stops_batch Failed most rest body behind sized-is h = absurd h
stops_batch Refused most rest body behind sized-is h = rw (sized-is, h) refl

pub behind_is : (rest body behind : List ℕ) (batch : List RowChange) → IsBytes rest → sized_at rest ≡ Some (body, behind) → batch_in body ≡ Some batch → BatchFits batch × (rest ≡ sized (body_of batch) ++ behind)
behind_is rest body behind batch bytes sized-is batch-is =
    let t = sized_takes rest (body, behind) bytes sized-is in
    let b = batch_takes body batch t.2 t.1 batch-is in
    (b.1, t.0.parts ∙ ap (λ (l : List ℕ). sized l ++ behind) b.0)

pub next_found : {A : Type 0} (view : A → List RowChange) (found : Option A) (x : A) (before after : List ℕ) → found ≡ Some x → IsNextIf (option_map view found) before after → BatchFits (view x) × (before ≡ frame_of (view x) ++ after)
next_found view found x before after is h = subst (λ f. IsNextIf (option_map view f) before after) is h
