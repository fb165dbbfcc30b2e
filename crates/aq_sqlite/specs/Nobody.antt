-- Empty files hold no rows.
use Rattle.std.specs.Prelude.{◌≡◌, []}
use Rattle.std.proofs.Common.{inl, inr, ap, lt_irrefl}
use Rattle.sqlite.specs.Schema.{Schema}
use Rattle.sqlite_trees.specs.Objects.{catalog_tree}
use Rattle.sqlite_catalog.proofs.ReadLemmas.{lists_once}
use Rattle.sqlite.specs.Effect.{Database, IsDatabase}
use Rattle.sqlite.specs.Files.{AreFoundIn}
use Rattle.sqlite.proofs.ListingLemmas.{empty_is_sound}
use Rattle.aq_tables.specs.All.{rows_of}

-- a database that an opening finds in them has no tables
pub nobody_has_no_rows : (db : Database) → IsDatabase db → AreFoundIn (record { log = []; db = [] }) db.trees → rows_of db ≡ []
nobody_has_no_rows db sound (inl (size, pages, wanted, adopts, ours, is)) = absurd (lt_irrefl 0 adopts.found.present)
nobody_has_no_rows db sound (inr (nothing, empty)) =
    let none : db.schema ≡ record { tables = []; indexes = []; views = [] } = lists_once (db.trees catalog_tree) db.schema _ sound.lists (empty_is_sound db.trees empty.1).lists in
    ap (λ (s : Schema). rows_of (record { schema = s; trees = db.trees })) none
