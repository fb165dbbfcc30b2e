-- Rows that are moved into `observations3`, some after others.
use Rattle.std.proofs.Common.{◌≡◌, ◌≢◌, ℕ, List, [], ◌++◌, map, Some, IsTrue, refl, sym, ap, ap₂, subst, ◌∙◌, slice_get}
use Rattle.std.specs.List.{AllByRecursion}
use Rattle.std.proofs.lemmas.List.{map-append}
use Rattle.std.proofs.lemmas.List.Sums.{fold-append}
use Rattle.sqlite.specs.Schema.{Schema}
use Rattle.sqlite.specs.Table.{Table}
use Rattle.sqlite.specs.Effect.{Database}
use Rattle.sqlite.specs.State.{State}
use Rattle.aq_rules.specs.Kept.Rows as the_rows
use Rattle.aq_rules.specs.Kept.Rows.{ObsRow2, OfSecondRow}
use Rattle.aq_rules.specs.Kept.RowChanges.{RowChange, with_row_change, with_row_changes}
use Rattle.sqlite_rules.proofs.ListLemmas.{all_from}
use Rattle.sqlite_keyed.proofs.ListLemmas.{all_both}
use Rattle.aq_tables.specs.Told.{told, third}
use Rattle.aq_tables.specs.Standing.{HasTable, IsChildless}
use Rattle.aq_tables.specs.Sixteen.{IsStill, MovesAll, PutsAll, PutsThird, puts_of}

puts_nothing : (db : Database) (at tree : ℕ) → HasTable third db at tree → PutsThird [] db db at tree
puts_nothing db at tree has = record { turns = record { schema = refl; has = has; told_is = refl; others = λ place t stands apart alone. refl; sound = λ h. h }; others = all_from _ db.schema.tables (λ t there apart. refl) }

puts_then : (p q : List ObsRow2) (a b c : Database) (at tree : ℕ) → PutsThird p a b at tree → PutsThird q b c at tree → PutsThird (p ++ q) a c at tree
puts_then p q a b c at tree first second =
    let one = first.turns in
    let two = second.turns in
    record {
      turns = record {
        schema = two.schema ∙ one.schema;
        has = two.has;
        told_is = two.told_is ∙ ap (λ (l : List the_rows.Row). with_row_changes l (puts_of q)) one.told_is ∙ sym (fold-append with_row_change (told third (a.trees tree)) (puts_of p) (puts_of q))
            ∙ ap (λ (changes : List RowChange). with_row_changes (told third (a.trees tree)) changes) (sym (map-append _ p q));
        others = λ place t stands apart alone.
            two.others place t (subst (λ (s : Schema). slice_get s.tables place ≡ Some t) (sym one.schema) stands) apart (subst (λ (s : Schema). AllByRecursion (IsChildless t.tree) s.tables) (sym one.schema) alone)
            ∙ one.others place t stands apart alone;
        sound = λ h. two.sound (one.sound h);
      };
      others = all_both (λ (t : Table). t.tree ≢ tree → b.trees t.tree ≡ a.trees t.tree) (λ (t : Table). t.tree ≢ tree → c.trees t.tree ≡ b.trees t.tree) (λ (t : Table). t.tree ≢ tree → c.trees t.tree ≡ a.trees t.tree) (λ t f g apart. g apart ∙ f apart) a.schema.tables first.others
          (subst (λ (s : Schema). AllByRecursion (λ (t : Table). t.tree ≢ tree → c.trees t.tree ≡ b.trees t.tree) s.tables) one.schema second.others);
    }

pub moves_none : (s : State) → IsTrue s.in_transaction → MovesAll [] s s
moves_none s begun = record { mode = begun; was_open = λ h. h; committed = refl; found = []; are = refl; puts = puts_nothing s.now }

pub moves_put : (rows : List the_rows.Row) (found : List ObsRow2) (old new : State) → rows ≡ map OfSecondRow found → PutsAll found old new → MovesAll rows old new
moves_put rows found old new are p = record { mode = p.mode; was_open = λ _. p.was_open; committed = p.committed; found = found; are = are; puts = p.puts }

pub moves_then : (a b : List the_rows.Row) (old mid new : State) → MovesAll a old mid → MovesAll b mid new → MovesAll (a ++ b) old new
moves_then a b old mid new p q = record {
  mode = q.mode;
  was_open = λ h. p.was_open (q.was_open h);
  committed = q.committed ∙ p.committed;
  found = p.found ++ q.found;
  are = ap₂ (λ (x y : List the_rows.Row). x ++ y) p.are q.are ∙ sym (map-append OfSecondRow p.found q.found);
  puts = λ at tree has. let one = p.puts at tree has in puts_then p.found q.found old.now mid.now new.now at tree one (q.puts at tree one.turns.has);
}

-- behind a try that changed nothing
pub moves_still : (rows : List the_rows.Row) (old mid new : State) → (IsTrue mid.is_open → IsTrue old.is_open) → IsStill old mid → MovesAll rows mid new → MovesAll rows old new
moves_still rows old mid new was still q = moves_then [] rows old mid new nothing q
  where
    nothing : MovesAll [] old mid
    nothing = record {
      mode = still.mode;
      was_open = was;
      committed = still.committed;
      found = [];
      are = refl;
      puts = λ at tree has. subst (λ (db : Database). PutsThird [] old.now db at tree) (sym still.now) (puts_nothing old.now at tree has);
    }
