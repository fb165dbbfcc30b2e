-- Changes within a transaction, one after the other.
use Rattle.sqlite.specs.declared.types.Value.TheVariants.{Null}
use Rattle.std.proofs.Common.{◌≡◌, ◌≢◌, ◌⊎◌, inl, inr, ℕ, pos, Bool, Result, OnOk, true, false, arith, length, List, [], ◌∷◌, ◌++◌, Some, refl, sym, ap, subst, ◌∙◌, slice_get, IsTrue}
use Rattle.std.specs.List.{AllByRecursion}
use Rattle.std.proofs.lemmas.List.Sums.{fold-append}
use Rattle.sqlite.specs.Schema.{Schema}
use Rattle.sqlite.specs.State.{State}
use Rattle.aq_rules.specs.Kept.Rows as the_rows
use Rattle.aq_rules.specs.Kept.RowChanges.{RowKey, OfficeRowKey, ObsRowKey, LoadRowKey, SecondRowKey, RowChange, PutRow, DropRow, row_key, put_row, drop_row, with_row_change, with_row_changes}
use Rattle.sqlite.specs.Effect.{Database}
use Rattle.std.proofs.lemmas.Bool.{false≢true}
use Rattle.aq_rules.specs.Kept.Rows.{ObsRow2, OfSecondRow}
use Rattle.sqlite_keyed.proofs.ListLemmas.{all-append, all_map}
use Rattle.aq_tables.specs.Standing.{Ours, HasTable, IsChildless}
use Rattle.aq_tables.specs.Told.{told, records, observations, loads, third, HaveNot, Runs, Turns}
use Rattle.aq_tables.specs.Texts.{drop_text}
use Rattle.aq_tables.specs.Sixteen.{IsStill, PutsAll, puts_of}
use Rattle.aq_tables.specs.All.{HasTables, observations_in, rows_in}
use Rattle.aq_tables.specs.Batch.{Becomes, Changes, DropsKey, IsNumbered, KnowsFirst, OthersStay, PutsRow, Turned, is_of_first, table_at}
use Rattle.aq_tables.proofs.InOrder.{dropped}
use Rattle.aq_tables.proofs.InPlace.{at_last, at_next, drop-is_at, put-is_at, put-dropped}
use Rattle.aq_tables.proofs.Prepared.{if_ok}
use Rattle.aq_tables.proofs.RowTurns.{dropped_none}
use Rattle.aq_tables.proofs.OneTable.{before, behind, last_turned, nothing_first, observations_are, told-rises, turned}

-- a row that is put behind a drop of its key takes the place of one
put_behind : (ours : Ours) (row : the_rows.Row) (a b c : Database) (at tree : ℕ) → HasTable ours a at tree → Turns ours (drop_row (row_key row)) a b at tree
    → (HaveNot (row_key row) (told ours (b.trees tree)) → Turns ours (put_row row) b c at tree) → Turns ours (put_row row) a c at tree
put_behind ours row a b c at tree has one put =
    let two = put (subst (HaveNot (row_key row)) (sym one.told_is) (dropped (row_key row) (told ours (a.trees tree)))) in
    record {
      schema = two.schema ∙ one.schema;
      has = two.has;
      told_is = two.told_is ∙ ap (put_row row) one.told_is ∙ put-dropped row _ (told-rises ours a at tree has);
      others = λ place t stands apart alone.
          two.others place t (subst (λ (s : Schema). slice_get s.tables place ≡ Some t) (sym one.schema) stands) apart (subst (λ (s : Schema). AllByRecursion (IsChildless t.tree) s.tables) (sym one.schema) alone)
          ∙ one.others place t stands apart alone;
      sound = λ h. two.sound (one.sound h);
    }

-- a row is put into a table that stands
may_put : (first b : Bool) → (b ≡ true → first ≡ true) → (b ≡ false) ⊎ (first ≡ true)
may_put first true there = inr (there refl)
may_put first false there = inl refl

pub put_changes : (first : Bool) (row : the_rows.Row) (old mid new : State) → DropsKey first (row_key row) old mid → PutsRow first row mid new → Changes first (PutRow row ∷ []) old new
put_changes first row old mid new d p =
    let may = may_put first (is_of_first (row_key row)) p.there in
    let ours = table_at (row_key row) in
    record {
      was_open = λ _. d.was_open;
      mode = p.puts.mode;
      committed = p.puts.committed ∙ d.committed;
      numbered = (p.numbered, tt);
      becomes = λ knows. turned first (put_row row) old.now new.now (row_key row) (put-is_at row) may knows
          (λ at tree has. let one = d.turns may at tree has in put_behind ours row old.now mid.now new.now at tree has one (p.puts.turns at tree one.has));
    }

-- a key of a table that is missing has no row
nothing_dropped : (first : Bool) (key : RowKey) (old new : Database) → is_of_first key ≡ true → first ≡ false → KnowsFirst first old.schema → (has : HasTables old)
    → Turns third (λ rows. rows) old new has.of_third.at has.of_third.tree → Turned (drop_row key) old new
nothing_dropped first (OfficeRowKey kind text) old new is none knows has t = absurd (false≢true is)
nothing_dropped first (LoadRowKey number) old new is none knows has t = absurd (false≢true is)
nothing_dropped first (SecondRowKey site pollutant poc hour) old new is none knows has t = absurd (false≢true is)
nothing_dropped first (ObsRowKey site pollutant poc hour) old new is none knows has t =
    let key = ObsRowKey site pollutant poc hour in
    let same = last_turned (λ rows. rows) old new refl has t in
    let missing : rows_in observations old ≡ [] = nothing_first first old none knows in
    let is_at = drop-is_at key in
    let a = rows_in records old in
    let c = rows_in loads old in
    let d = rows_in third old in
    let left : drop_row key (a ++ [] ++ c ++ d) ≡ a ++ [] ++ c ++ d = at_next key (drop_row key) is_at a [] c d (before key records old (λ r. refl)) (behind key loads old (λ r. refl)) (behind key third old (λ r. refl)) in
    let all = ap (λ (l : List the_rows.Row). a ++ l ++ c ++ observations_in old) missing ∙ ap (λ (l : List the_rows.Row). a ++ [] ++ c ++ l) (observations_are old has.no_second) in
    record { schema = same.schema; tables = same.tables; told_is = same.told_is ∙ all ∙ sym left ∙ ap (drop_row key) (sym all); others = same.others; sound = same.sound }

pub drop_changes : (first : Bool) (key : RowKey) (old new : State) → DropsKey first key old new → Changes first (DropRow key ∷ []) old new
drop_changes first key old new d = go (is_of_first key) first refl refl
  where
    by : (b : Bool) → is_of_first key ≡ b → (is_of_first key ≡ false) ⊎ (first ≡ true) → Changes first (DropRow key ∷ []) old new
    by b is may = record { was_open = λ _. d.was_open; mode = d.mode; committed = d.committed; numbered = (tt, tt); becomes = λ knows. turned first (drop_row key) old.now new.now key (drop-is_at key) may knows (λ at tree has. d.turns may at tree has) }

    go : (b f : Bool) → is_of_first key ≡ b → first ≡ f → Changes first (DropRow key ∷ []) old new
    go false f is known = by false is (inl is)
    go true true is known = by true is (inr known)
    go true false is none = record {
      was_open = λ _. d.was_open;
      mode = d.mode;
      committed = d.committed;
      numbered = (tt, tt);
      becomes = λ knows has. nothing_dropped first key old.now new.now is none knows has (d.idle is none has.of_third.at has.of_third.tree has.of_third.has);
    }

pub changes_nothing : (first : Bool) (s : State) → IsTrue s.in_transaction → Changes first [] s s
changes_nothing first s begun = record { was_open = λ some. absurd (some refl); mode = begun; committed = refl; numbered = tt; becomes = λ knows has. record { schema = refl; tables = has; told_is = refl; others = λ place t stands other alone. refl; sound = λ h. h } }

-- a statement that drops nothing
drops_nothing : (first : Bool) (old new : State) → DropsKey false (ObsRowKey (pos 0) (pos 0) (pos 0) (pos 0)) old new → Changes first [] old new × IsTrue old.is_open
drops_nothing first old new d = (
  record {
    was_open = λ _. d.was_open;
    mode = d.mode;
    committed = d.committed;
    numbered = tt;
    becomes = λ knows has. last_turned (λ rows. rows) old.now new.now refl has (d.idle refl refl has.of_third.at has.of_third.tree has.of_third.has);
  },
  d.was_open,
)

pub nothing_made : {X E : Type 0} (first : Bool) (r : Result X E) (old new : State) → OnOk r (Runs (drop_text (SecondRowKey (pos 0) (pos 0) (pos 0) (pos 0))) (Null ∷ []) old new) → OnOk r (Changes first [] old new × IsTrue old.is_open)
nothing_made first r old new h = if_ok r (drops_nothing first old new) (dropped_none (ObsRowKey (pos 0) (pos 0) (pos 0) (pos 0)) r old new refl h)

pub changes_then : (first : Bool) (a b : List RowChange) (old mid new : State) → (IsTrue mid.is_open → IsTrue old.is_open) → Changes first a old mid → Changes first b mid new → Changes first (a ++ b) old new
changes_then first a b old mid new was p q = record {
  was_open = first_open a p.was_open q.was_open;
  mode = q.mode;
  committed = q.committed ∙ p.committed;
  numbered = all-append IsNumbered a b p.numbered q.numbered;
  becomes = λ knows has.
      let one = p.becomes knows has in
      let two = q.becomes (subst (KnowsFirst first) (sym one.schema) knows) one.tables in
      let more = subst (λ (s : Schema). OthersStay s mid.now.trees new.now.trees) one.schema two.others in
      record {
        schema = two.schema ∙ one.schema;
        tables = two.tables;
        told_is = two.told_is ∙ ap (λ rows. with_row_changes rows b) one.told_is ∙ sym (fold-append with_row_change _ a b);
        others = λ place t stands other alone. more place t stands other alone ∙ one.others place t stands other alone;
        sound = λ h. two.sound (one.sound h);
      };
}
  where
    first_open : (a : List RowChange) → (a ≢ [] → IsTrue old.is_open) → (b ≢ [] → IsTrue mid.is_open) → a ++ b ≢ [] → IsTrue old.is_open
    first_open [] f g some = was (g some)
    first_open (x ∷ a) f g some = f (λ none. let e = ap length none in absurd (omega (arith, e)))

-- ---- observations that are put together

put_last : (db : Database) (d : List the_rows.Row) (rows : List ObsRow2)
    → with_row_changes (rows_in records db ++ rows_in observations db ++ rows_in loads db ++ d) (puts_of rows) ≡ rows_in records db ++ rows_in observations db ++ rows_in loads db ++ with_row_changes d (puts_of rows)
put_last db d [] = refl
put_last db d (row ∷ rows) =
    let key = row_key (OfSecondRow row) in
    ap (λ (l : List the_rows.Row). with_row_changes l (puts_of rows)) (at_last key (put_row (OfSecondRow row)) (put-is_at (OfSecondRow row)) _ _ _ d (before key records db (λ r. refl)) (before key observations db (λ r. refl)) (before key loads db (λ r. refl)))
    ∙ put_last db (put_row (OfSecondRow row) d) rows

pub together_changes : (first : Bool) (rows : List ObsRow2) (old new : State) → PutsAll rows old new → Changes first (puts_of rows) old new
together_changes first rows old new p = record {
  was_open = λ _. p.was_open;
  mode = p.mode;
  committed = p.committed;
  numbered = all_map IsNumbered _ rows p.numbered;
  becomes = λ knows has. last_turned (λ l. with_row_changes l (puts_of rows)) old.now new.now (put_last old.now (rows_in third old.now) rows) has (p.puts has.of_third.at has.of_third.tree has.of_third.has).turns;
}

-- changes behind a try that changed nothing
pub still_changes : (first : Bool) (batch : List RowChange) (old mid new : State) → (IsTrue mid.is_open → IsTrue old.is_open) → IsStill old mid → Changes first batch mid new → Changes first batch old new
still_changes first batch old mid new was still p = record {
  was_open = λ some. was (p.was_open some);
  mode = p.mode;
  committed = p.committed ∙ still.committed;
  numbered = p.numbered;
  becomes = subst (λ (db : Database). KnowsFirst first db.schema → Becomes batch db new.now) still.now p.becomes;
}
