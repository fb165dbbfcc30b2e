-- A batch that is read is the batch that was written, and what was written is read again.
use Rattle.std.proofs.Common.{◌≡◌, ℕ, zero, suc, ◌^◌, ◌<◌, cond, List, [], ◌∷◌, ◌++◌, length, Option, Some, None, refl, sym, ap, subst, ◌∙◌, append_assoc, arith}
use Rattle.std.specs.List.{flat_map, AllByRecursion}
use Rattle.std.proofs.lemmas.Bool.Decides.{nat_tests}
use Rattle.std.proofs.lemmas.List.{append-nil}
use Rattle.std.proofs.lemmas.List.Concat.{flat_map-cons}
use Rattle.aq_rules.specs.Lines.Fields.{is_empty}
use Rattle.aq_rules.specs.Lines.Spellings.{◌>>=◌}
use Rattle.aq_rules.specs.Kept.Rows.{Row, OfficeRow, ObsRow, ObsRow2, LoadRow, OfOfficeRow, OfObsRow, OfLoadRow, OfSecondRow}
use Rattle.aq_rules.specs.Kept.RowChanges.{RowKey, OfficeRowKey, ObsRowKey, LoadRowKey, SecondRowKey, RowChange, PutRow, DropRow}
use Rattle.aq_journal.specs.JournalFormat.{Values, record_form, record_values, record_with, observation_form, observation_values, observation_with, load_form, load_values, load_with, second_form, second_values, second_with, record_key_form, hour_key_form, load_key_form, fields_bytes, fields_at, with_value, record_at, observation_at, load_at, second_at, count_bytes, row_bytes, key_bytes, change_bytes, body_of, RowFits, KeyFits, ChangeFits, BatchFits, count_at, row_in, key_in, change_in, change_at, changes_at, batch_in}
use Rattle.aq_journal.proofs.Fields.{IsBytes, IsBytes-rest, bind_some, some_is, none_is, Takes, Takes-then, Takes-more, count_takes, count_again, fields_takes, fields_again}

-- what was read before it was made into something
mapped : {A B : Type 0} (make : A → B) (read : Option (A × List ℕ)) (x : B × List ℕ) → with_value make read ≡ Some x → (found : A × List ℕ) × (read ≡ Some found) × ((make found.0, found.1) ≡ x)
mapped make (Some found) x e = (found, refl, some_is (make found.0, found.1) x e)
mapped make None x e = absurd cc

-- ---- rows, keys and changes

abbrev TakesRow : ℕ → List ℕ → Row × List ℕ → Type 0
TakesRow table bytes x = Takes (table ∷ bytes) (row_bytes x.0) x.1 × RowFits x.0

row_takes : (table : ℕ) (bytes : List ℕ) (x : Row × List ℕ) → IsBytes bytes → row_in table bytes ≡ Some x → TakesRow table bytes x
unfolding row_in
row_takes zero bytes x fits e =
    let made = mapped OfOfficeRow (record_at bytes) x e in
    let read = mapped record_with (fields_at record_form bytes) made.0 made.1 in
    let t = fields_takes record_form bytes read.0 fits read.1 in
    subst (TakesRow 0 bytes) (ap (λ (y : OfficeRow × List ℕ). (OfOfficeRow y.0, y.1)) read.2 ∙ made.2) (Takes-more 0 bytes (fields_bytes record_form read.0.0) read.0.1 t.0, t.1)
row_takes (suc zero) bytes x fits e =
    let made = mapped OfObsRow (observation_at bytes) x e in
    let read = mapped observation_with (fields_at observation_form bytes) made.0 made.1 in
    let t = fields_takes observation_form bytes read.0 fits read.1 in
    subst (TakesRow 1 bytes) (ap (λ (y : ObsRow × List ℕ). (OfObsRow y.0, y.1)) read.2 ∙ made.2) (Takes-more 1 bytes (fields_bytes observation_form read.0.0) read.0.1 t.0, t.1)
row_takes (suc (suc zero)) bytes x fits e =
    let made = mapped OfLoadRow (load_at bytes) x e in
    let read = mapped load_with (fields_at load_form bytes) made.0 made.1 in
    let t = fields_takes load_form bytes read.0 fits read.1 in
    subst (TakesRow 2 bytes) (ap (λ (y : LoadRow × List ℕ). (OfLoadRow y.0, y.1)) read.2 ∙ made.2) (Takes-more 2 bytes (fields_bytes load_form read.0.0) read.0.1 t.0, t.1)
row_takes (suc (suc (suc zero))) bytes x fits e =
    let made = mapped OfSecondRow (second_at bytes) x e in
    let read = mapped second_with (fields_at second_form bytes) made.0 made.1 in
    let t = fields_takes second_form bytes read.0 fits read.1 in
    subst (TakesRow 3 bytes) (ap (λ (y : ObsRow2 × List ℕ). (OfSecondRow y.0, y.1)) read.2 ∙ made.2) (Takes-more 3 bytes (fields_bytes second_form read.0.0) read.0.1 t.0, t.1)
row_takes (suc (suc (suc (suc table)))) bytes x fits e =
    let none : row_in (suc (suc (suc (suc table)))) bytes ≡ None = grind (arith, nat_tests) in
    none_is x (sym none ∙ e)

abbrev TakesKey : ℕ → List ℕ → RowKey × List ℕ → Type 0
TakesKey table bytes x = Takes (table ∷ bytes) (key_bytes x.0) x.1 × KeyFits x.0

key_takes : (table : ℕ) (bytes : List ℕ) (x : RowKey × List ℕ) → IsBytes bytes → key_in table bytes ≡ Some x → TakesKey table bytes x
unfolding key_in
key_takes zero bytes x fits e =
    let read = mapped (λ (v : Values record_key_form). OfficeRowKey v.0 v.1.0) (fields_at record_key_form bytes) x e in
    let t = fields_takes record_key_form bytes read.0 fits read.1 in
    subst (TakesKey 0 bytes) read.2 (Takes-more 0 bytes (fields_bytes record_key_form read.0.0) read.0.1 t.0, t.1)
key_takes (suc zero) bytes x fits e =
    let read = mapped (λ (v : Values hour_key_form). ObsRowKey v.0 v.1.0 v.1.1.0 v.1.1.1.0) (fields_at hour_key_form bytes) x e in
    let t = fields_takes hour_key_form bytes read.0 fits read.1 in
    subst (TakesKey 1 bytes) read.2 (Takes-more 1 bytes (fields_bytes hour_key_form read.0.0) read.0.1 t.0, t.1)
key_takes (suc (suc zero)) bytes x fits e =
    let read = mapped (λ (v : Values load_key_form). LoadRowKey v.0) (fields_at load_key_form bytes) x e in
    let t = fields_takes load_key_form bytes read.0 fits read.1 in
    subst (TakesKey 2 bytes) read.2 (Takes-more 2 bytes (fields_bytes load_key_form read.0.0) read.0.1 t.0, t.1)
key_takes (suc (suc (suc zero))) bytes x fits e =
    let read = mapped (λ (v : Values hour_key_form). SecondRowKey v.0 v.1.0 v.1.1.0 v.1.1.1.0) (fields_at hour_key_form bytes) x e in
    let t = fields_takes hour_key_form bytes read.0 fits read.1 in
    subst (TakesKey 3 bytes) read.2 (Takes-more 3 bytes (fields_bytes hour_key_form read.0.0) read.0.1 t.0, t.1)
key_takes (suc (suc (suc (suc table)))) bytes x fits e =
    let none : key_in (suc (suc (suc (suc table)))) bytes ≡ None = grind (arith, nat_tests) in
    none_is x (sym none ∙ e)

abbrev TakesChange : List ℕ → RowChange × List ℕ → Type 0
TakesChange bytes x = Takes bytes (change_bytes x.0) x.1 × ChangeFits x.0

change_of_takes : (kind table : ℕ) (bytes : List ℕ) (x : RowChange × List ℕ) → IsBytes bytes → change_in kind table bytes ≡ Some x → TakesChange (kind ∷ table ∷ bytes) x
unfolding change_in
change_of_takes zero table bytes x fits e =
    let made = mapped PutRow (row_in table bytes) x e in
    let t = row_takes table bytes made.0 fits made.1 in
    subst (TakesChange (0 ∷ table ∷ bytes)) made.2 (Takes-more 0 (table ∷ bytes) (row_bytes made.0.0) made.0.1 t.0, t.1)
change_of_takes (suc zero) table bytes x fits e =
    let made = mapped DropRow (key_in table bytes) x e in
    let t = key_takes table bytes made.0 fits made.1 in
    subst (TakesChange (1 ∷ table ∷ bytes)) made.2 (Takes-more 1 (table ∷ bytes) (key_bytes made.0.0) made.0.1 t.0, t.1)
change_of_takes (suc (suc kind)) table bytes x fits e =
    let none : change_in (suc (suc kind)) table bytes ≡ None = grind (arith, nat_tests) in
    none_is x (sym none ∙ e)

change_takes : (bytes : List ℕ) (x : RowChange × List ℕ) → IsBytes bytes → change_at bytes ≡ Some x → TakesChange bytes x
unfolding change_at
change_takes [] x fits e = absurd cc
change_takes (kind ∷ []) x fits e = absurd cc
change_takes (kind ∷ table ∷ bytes) x fits e = change_of_takes kind table bytes x (IsBytes-rest table bytes (IsBytes-rest kind (table ∷ bytes) fits)) e

row_again : (row : Row) (rest : List ℕ) → RowFits row → change_at (change_bytes (PutRow row) ++ rest) ≡ Some (PutRow row, rest)
unfolding change_at change_in row_in
row_again (OfOfficeRow row) rest fits = rw (fields_again record_form (record_values row) rest fits) refl
row_again (OfObsRow row) rest fits = rw (fields_again observation_form (observation_values row) rest fits) refl
row_again (OfLoadRow row) rest fits = rw (fields_again load_form (load_values row) rest fits) refl
row_again (OfSecondRow row) rest fits = rw (fields_again second_form (second_values row) rest fits) refl

key_again : (key : RowKey) (rest : List ℕ) → KeyFits key → change_at (change_bytes (DropRow key) ++ rest) ≡ Some (DropRow key, rest)
unfolding change_at change_in key_in
key_again (OfficeRowKey kind key) rest fits = rw (fields_again record_key_form (kind, (key, tt)) rest fits) refl
key_again (ObsRowKey site pollutant poc hour) rest fits = rw (fields_again hour_key_form (site, (pollutant, (poc, (hour, tt)))) rest fits) refl
key_again (LoadRowKey number) rest fits = rw (fields_again load_key_form (number, tt) rest fits) refl
key_again (SecondRowKey site pollutant poc hour) rest fits = rw (fields_again hour_key_form (site, (pollutant, (poc, (hour, tt)))) rest fits) refl

change_again : (change : RowChange) (rest : List ℕ) → ChangeFits change → change_at (change_bytes change ++ rest) ≡ Some (change, rest)
change_again (PutRow row) rest fits = row_again row rest fits
change_again (DropRow key) rest fits = key_again key rest fits

-- ---- batches

abbrev TakesChanges : List ℕ → ℕ → List RowChange × List ℕ → Type 0
TakesChanges bytes count x = Takes bytes (flat_map change_bytes x.0) x.1 × (length x.0 ≡ count) × AllByRecursion ChangeFits x.0

changes_takes : (count : ℕ) (bytes : List ℕ) (x : List RowChange × List ℕ) → IsBytes bytes → changes_at count bytes ≡ Some x → TakesChanges bytes count x
unfolding changes_at
changes_takes zero bytes x fits e = subst (TakesChanges bytes 0) (some_is ([], bytes) x e) (record { parts = refl; rest_fits = fits }, refl, tt)
changes_takes (suc count) bytes x fits e =
    let a = bind_some (change_at bytes) (λ change. changes_at count change.1 >>= λ others. Some (change.0 ∷ others.0, others.1)) x e in
    let b = bind_some (changes_at count a.0.1) (λ others. Some (a.0.0 ∷ others.0, others.1)) x a.2 in
    let first = change_takes bytes a.0 fits a.1 in
    let second = changes_takes count a.0.1 b.0 first.0.rest_fits b.1 in
    let both = Takes-then bytes (change_bytes a.0.0) a.0.1 (flat_map change_bytes b.0.0) b.0.1 first.0 second.0 in
    let made : List RowChange × List ℕ = (a.0.0 ∷ b.0.0, b.0.1) in
    subst (TakesChanges bytes (suc count)) (some_is made x b.2) (rw flat_map-cons both, ap suc second.1, (first.1, second.2))

changes_again : (changes : List RowChange) (rest : List ℕ) → AllByRecursion ChangeFits changes → changes_at (length changes) (flat_map change_bytes changes ++ rest) ≡ Some (changes, rest)
unfolding changes_at
changes_again [] rest fits = refl
changes_again (change ∷ changes) rest fits =
    let regrouped : flat_map change_bytes (change ∷ changes) ++ rest ≡ change_bytes change ++ (flat_map change_bytes changes ++ rest) = ap (λ (l : List ℕ). l ++ rest) (flat_map-cons change_bytes change changes) ∙ append_assoc (change_bytes change) (flat_map change_bytes changes) rest in
    ap (changes_at (suc (length changes))) regrouped ∙ rw (change_again change (flat_map change_bytes changes ++ rest) fits.0, changes_again changes rest fits.1) refl

ended : {A : Type 0} (rest : List ℕ) (x y : A) → cond (is_empty rest) (Some x) None ≡ Some y → (rest ≡ []) × (x ≡ y)
ended [] x y e = (refl, some_is x y e)
ended (b ∷ rest) x y e = absurd cc

pub batch_takes : (body : List ℕ) (batch : List RowChange) → IsBytes body → length body < 2 ^ 32 → batch_in body ≡ Some batch → (body ≡ body_of batch) × BatchFits batch
unfolding batch_in
batch_takes body batch fits size e =
    let a = bind_some (count_at body) (λ count. changes_at count.0 count.1 >>= λ changes. cond (is_empty changes.1) (Some changes.0) None) batch e in
    let b = bind_some (changes_at a.0.0 a.0.1) (λ changes. cond (is_empty changes.1) (Some changes.0) None) batch a.2 in
    let g = ended b.0.1 b.0.0 batch b.2 in
    let first = count_takes body a.0 fits a.1 in
    let second = changes_takes a.0.0 a.0.1 b.0 first.0.rest_fits b.1 in
    let both = (Takes-then body (count_bytes a.0.0) a.0.1 (flat_map change_bytes b.0.0) b.0.1 first.0 second.0).parts in
    let whole : body ≡ body_of b.0.0 = both ∙ ap (λ (r : List ℕ). (count_bytes a.0.0 ++ flat_map change_bytes b.0.0) ++ r) g.0 ∙ append-nil (count_bytes a.0.0 ++ flat_map change_bytes b.0.0) ∙ ap (λ (k : ℕ). count_bytes k ++ flat_map change_bytes b.0.0) (sym second.1) in
    subst (λ (v : List RowChange). (body ≡ body_of v) × BatchFits v) g.1 (whole, record { count = omega (arith, second.1, first.1); changes = second.2; size = omega (arith, ap length whole, size) })

pub batch_again : (batch : List RowChange) → BatchFits batch → batch_in (body_of batch) ≡ Some batch
unfolding batch_in
batch_again batch fits =
    let rest : changes_at (length batch) (flat_map change_bytes batch) ≡ Some (batch, []) = ap (changes_at (length batch)) (sym (append-nil (flat_map change_bytes batch))) ∙ changes_again batch [] fits.changes in
    rw (count_again (length batch) (flat_map change_bytes batch) fits.count, rest) refl
