-- What the texts of the tables mean.
use Rattle.std.proofs.Common.{◌≡◌, ◌+◌, ℕ, zero, suc, List, [], ◌∷◌, take, None, Some, Ok, true, false, codes, refl, slice_get}
use Rattle.sqlite.specs.declared.types.Value.TheVariants.{Null}
use Rattle.sqlite.specs.Collation.TheVariants.{Binary}
use Rattle.sqlite.specs.Command.TheVariants.{Select, Insert, Delete}
use Rattle.sqlite.specs.Kind.TheVariants.{Integer, Text}
use Rattle.sqlite.specs.Listing.{reads_listing}
use Rattle.sqlite.specs.Schema.{Schema}
use Rattle.sqlite.specs.Source.TheVariants.{Values}
use Rattle.sqlite.specs.Term.{Term, lit, col, op2}
use Rattle.sqlite_value.specs.declared.keys.Key.{Key}
use Rattle.sqlite_sql.specs.declared.ops.BinaryOp.TheVariants.{Compare}
use Rattle.sqlite_sql.specs.declared.ops.CompareOp.TheVariants.{Eq}
use Rattle.sqlite_ast.specs.declared.Expr.TheVariants as written_as
use Rattle.sqlite_resolve.specs.Compare.{compared, affinity_of, of_column, converted, may_be_text, is_parameter, spelled}
use Rattle.sqlite_resolve.specs.Program.{program}
use Rattle.sqlite_tied.specs.Compute.{everything}
use Rattle.aq_tables.specs.declared.reading.Table.{Table}
use Rattle.aq_tables.specs.declared.reading.Table.TheVariants.{Records, Observations, Loads, Second, Third}
use Rattle.aq_tables.specs.Forms.{Form, table_of, column_of}
use Rattle.aq_tables.specs.Standing.{Stands}
use Rattle.aq_tables.specs.Queries.{IsBareText}
use Rattle.aq_tables.specs.Texts.{drop_text, put_text, read_text, rowids_text}
use Rattle.aq_rules.specs.Kept.RowChanges.{RowKey, OfficeRowKey, ObsRowKey, LoadRowKey, SecondRowKey}
use Rattle.aq_tables.specs.Batch.{table_at}
use Rattle.aq_tables.specs.Told.{ours_of}
use Rattle.aq_tables.proofs.Parsing.{Means}
use Rattle.aq_tables.proofs.Scans.{scan}
use Rattle.aq_tables.proofs.Selecting.{Picked}
use Rattle.aq_tables.proofs.ReadMeaning.{IsReadText, rising, picks, scan_draft, read_names, read_means, reads_no_listing, bare}
use Rattle.aq_tables.proofs.WriteMeaning.{Tested, ArePlain, IsDropText, IsPutText, drop_means, put_means}

abbrev pub form_of : Table → Form
form_of t = (ours_of t).form

-- columns of a slot, from a place on
abbrev columns : ℕ → ℕ → ℕ → List Term
columns slot at zero = []
columns slot at (suc n) = col slot at ∷ columns slot (at + 1) n

-- ---- SELECT

abbrev pub shown_of : Table → List Picked
shown_of t = picks 0 (form_of t).columns

abbrev pub sorted_of : Table → List Picked
sorted_of Records = picks 0 (take 2 (form_of Records).columns)
sorted_of Observations = picks 0 (take 4 (form_of Observations).columns)
sorted_of Loads = picks 0 (take 1 (form_of Loads).columns)
sorted_of Second = picks 0 (take 4 (form_of Second).columns)
sorted_of Third = picks 0 (take 1 (form_of Third).columns)

abbrev pub project_of : Table → List Term
project_of Records = columns 1 1 3
project_of Observations = columns 1 1 7
project_of Loads = col 1 0 ∷ columns 1 2 5
project_of Second = columns 1 1 8
project_of Third = col 1 0 ∷ columns 1 2 4

abbrev pub by_place : List (Term × Key)
by_place = rising 1 ∷ rising 2 ∷ rising 3 ∷ rising 4 ∷ []

abbrev pub order_of : Table → List (Term × Key)
order_of Records = rising 1 ∷ rising 2 ∷ []
order_of Observations = by_place
order_of Loads = rising 0 ∷ []
order_of Second = by_place
order_of Third = rising 0 ∷ []

pub is_read : (t : Table) → IsReadText (form_of t) (read_text t) (shown_of t) (sorted_of t) (project_of t) (order_of t)
unfolding everything
is_read Records = record { reads = refl; statement = refl; formats = refl; select_is = refl; core_is = refl; source_is = refl; shows = λ tree low. (record { shows = refl; picked = record { is = refl; found = (refl, refl) } }, (record { shows = refl; picked = record { is = refl; found = (refl, refl) } }, (record { shows = refl; picked = record { is = refl; found = (refl, refl) } }, tt))); may_show = (refl, (refl, (refl, tt))); sorts = λ schema at tree stands low. (record { key = refl; rises = refl; plain = refl; picked = record { is = refl; found = (refl, refl) } }, (record { key = refl; rises = refl; plain = refl; picked = record { is = refl; found = (refl, refl) } }, tt)); may_sort = λ tree. (refl, (refl, tt)); projects = λ tree. refl; orders = λ schema at tree stands. refl }
is_read Observations = record { reads = refl; statement = refl; formats = refl; select_is = refl; core_is = refl; source_is = refl; shows = λ tree low. (record { shows = refl; picked = record { is = refl; found = (refl, refl) } }, (record { shows = refl; picked = record { is = refl; found = (refl, refl) } }, (record { shows = refl; picked = record { is = refl; found = (refl, refl) } }, (record { shows = refl; picked = record { is = refl; found = (refl, refl) } }, (record { shows = refl; picked = record { is = refl; found = (refl, refl) } }, (record { shows = refl; picked = record { is = refl; found = (refl, refl) } }, (record { shows = refl; picked = record { is = refl; found = (refl, refl) } }, tt))))))); may_show = (refl, (refl, (refl, (refl, (refl, (refl, (refl, tt))))))); sorts = λ schema at tree stands low. (record { key = refl; rises = refl; plain = refl; picked = record { is = refl; found = (refl, refl) } }, (record { key = refl; rises = refl; plain = refl; picked = record { is = refl; found = (refl, refl) } }, (record { key = refl; rises = refl; plain = refl; picked = record { is = refl; found = (refl, refl) } }, (record { key = refl; rises = refl; plain = refl; picked = record { is = refl; found = (refl, refl) } }, tt)))); may_sort = λ tree. (refl, (refl, (refl, (refl, tt)))); projects = λ tree. refl; orders = λ schema at tree stands. refl }
is_read Loads = record { reads = refl; statement = refl; formats = refl; select_is = refl; core_is = refl; source_is = refl; shows = λ tree low. (record { shows = refl; picked = record { is = refl; found = (refl, refl) } }, (record { shows = refl; picked = record { is = refl; found = (refl, refl) } }, (record { shows = refl; picked = record { is = refl; found = (refl, refl) } }, (record { shows = refl; picked = record { is = refl; found = (refl, refl) } }, (record { shows = refl; picked = record { is = refl; found = (refl, refl) } }, (record { shows = refl; picked = record { is = refl; found = (refl, refl) } }, tt)))))); may_show = (refl, (refl, (refl, (refl, (refl, (refl, tt)))))); sorts = λ schema at tree stands low. (record { key = refl; rises = refl; plain = refl; picked = record { is = refl; found = (refl, refl) } }, tt); may_sort = λ tree. (refl, tt); projects = λ tree. refl; orders = λ schema at tree stands. refl }
is_read Second = record { reads = refl; statement = refl; formats = refl; select_is = refl; core_is = refl; source_is = refl; shows = λ tree low. (record { shows = refl; picked = record { is = refl; found = (refl, refl) } }, (record { shows = refl; picked = record { is = refl; found = (refl, refl) } }, (record { shows = refl; picked = record { is = refl; found = (refl, refl) } }, (record { shows = refl; picked = record { is = refl; found = (refl, refl) } }, (record { shows = refl; picked = record { is = refl; found = (refl, refl) } }, (record { shows = refl; picked = record { is = refl; found = (refl, refl) } }, (record { shows = refl; picked = record { is = refl; found = (refl, refl) } }, (record { shows = refl; picked = record { is = refl; found = (refl, refl) } }, tt)))))))); may_show = (refl, (refl, (refl, (refl, (refl, (refl, (refl, (refl, tt)))))))); sorts = λ schema at tree stands low. (record { key = refl; rises = refl; plain = refl; picked = record { is = refl; found = (refl, refl) } }, (record { key = refl; rises = refl; plain = refl; picked = record { is = refl; found = (refl, refl) } }, (record { key = refl; rises = refl; plain = refl; picked = record { is = refl; found = (refl, refl) } }, (record { key = refl; rises = refl; plain = refl; picked = record { is = refl; found = (refl, refl) } }, tt)))); may_sort = λ tree. (refl, (refl, (refl, (refl, tt)))); projects = λ tree. refl; orders = λ schema at tree stands. refl }
is_read Third = record { reads = refl; statement = refl; formats = refl; select_is = refl; core_is = refl; source_is = refl; shows = λ tree low. (record { shows = refl; picked = record { is = refl; found = (refl, refl) } }, (record { shows = refl; picked = record { is = refl; found = (refl, refl) } }, (record { shows = refl; picked = record { is = refl; found = (refl, refl) } }, (record { shows = refl; picked = record { is = refl; found = (refl, refl) } }, (record { shows = refl; picked = record { is = refl; found = (refl, refl) } }, tt))))); may_show = (refl, (refl, (refl, (refl, (refl, tt))))); sorts = λ schema at tree stands low. (record { key = refl; rises = refl; plain = refl; picked = record { is = refl; found = (refl, refl) } }, tt); may_sort = λ tree. (refl, tt); projects = λ tree. refl; orders = λ schema at tree stands. refl }

read_typed : (t : Table) (schema : Schema) (at tree : ℕ) → Stands schema (form_of t) at tree
    → program schema [] (scan_draft tree [] (project_of t) (order_of t)) ≡ Ok (record { lets = []; body = scan tree [] (project_of t) (order_of t) })
unfolding program
read_typed Records schema at tree stands = rw (stands.low, stands.sole)
read_typed Observations schema at tree stands = rw (stands.low, stands.sole)
read_typed Loads schema at tree stands = rw (stands.low, stands.sole)
read_typed Second schema at tree stands = rw (stands.low, stands.sole)
read_typed Third schema at tree stands = rw (stands.low, stands.sole)

module _ (t : Table) (schema : Schema) (at tree : ℕ) (stands : Stands schema (form_of t) at tree) where
  abbrev names : List (List ℕ)
  names = read_names (form_of t) (read_text t) (shown_of t) (sorted_of t) (project_of t) (order_of t) tree

  pub reads_mean : Means schema (read_text t) (Select (record { lets = []; body = scan tree [] (project_of t) (order_of t) }) names)
  reads_mean = read_means (form_of t) (read_text t) (shown_of t) (sorted_of t) (project_of t) (order_of t) (is_read t) schema at tree stands (read_typed t schema at tree stands)

  pub read_no_listing : reads_listing schema (read_text t) ≡ false
  read_no_listing = reads_no_listing (form_of t) (read_text t) (shown_of t) (sorted_of t) (project_of t) (order_of t) (is_read t) schema at tree stands (read_typed t schema at tree stands)

-- ---- SELECT of the rowids

abbrev pub rowids : List Picked
rowids = record { expr = written_as.Column None (codes "rowid"); text = codes "rowid"; name = codes "rowid"; by_rowid = true; at = 0; column = column_of [] Integer false } ∷ []

pub is_rowids : (t : Table) → IsReadText (form_of t) (rowids_text t) rowids rowids (col 1 0 ∷ []) (rising 0 ∷ [])
unfolding everything
is_rowids Records = record { reads = refl; statement = refl; formats = refl; select_is = refl; core_is = refl; source_is = refl; shows = λ tree low. (record { shows = refl; picked = record { is = refl; found = (refl, refl, low) } }, tt); may_show = (refl, tt); sorts = λ schema at tree stands low. (record { key = refl; rises = refl; plain = refl; picked = record { is = refl; found = (refl, refl, low) } }, tt); may_sort = λ tree. (refl, tt); projects = λ tree. refl; orders = λ schema at tree stands. refl }
is_rowids Observations = record { reads = refl; statement = refl; formats = refl; select_is = refl; core_is = refl; source_is = refl; shows = λ tree low. (record { shows = refl; picked = record { is = refl; found = (refl, refl, low) } }, tt); may_show = (refl, tt); sorts = λ schema at tree stands low. (record { key = refl; rises = refl; plain = refl; picked = record { is = refl; found = (refl, refl, low) } }, tt); may_sort = λ tree. (refl, tt); projects = λ tree. refl; orders = λ schema at tree stands. refl }
is_rowids Loads = record { reads = refl; statement = refl; formats = refl; select_is = refl; core_is = refl; source_is = refl; shows = λ tree low. (record { shows = refl; picked = record { is = refl; found = (refl, refl, low) } }, tt); may_show = (refl, tt); sorts = λ schema at tree stands low. (record { key = refl; rises = refl; plain = refl; picked = record { is = refl; found = (refl, refl, low) } }, tt); may_sort = λ tree. (refl, tt); projects = λ tree. refl; orders = λ schema at tree stands. refl }
is_rowids Second = record { reads = refl; statement = refl; formats = refl; select_is = refl; core_is = refl; source_is = refl; shows = λ tree low. (record { shows = refl; picked = record { is = refl; found = (refl, refl, low) } }, tt); may_show = (refl, tt); sorts = λ schema at tree stands low. (record { key = refl; rises = refl; plain = refl; picked = record { is = refl; found = (refl, refl, low) } }, tt); may_sort = λ tree. (refl, tt); projects = λ tree. refl; orders = λ schema at tree stands. refl }
is_rowids Third = record { reads = refl; statement = refl; formats = refl; select_is = refl; core_is = refl; source_is = refl; shows = λ tree low. (record { shows = refl; picked = record { is = refl; found = (refl, refl, low) } }, tt); may_show = (refl, tt); sorts = λ schema at tree stands low. (record { key = refl; rises = refl; plain = refl; picked = record { is = refl; found = (refl, refl, low) } }, tt); may_sort = λ tree. (refl, tt); projects = λ tree. refl; orders = λ schema at tree stands. refl }

-- ---- DELETE

abbrev key : ℕ → List ℕ → Tested
key at name = record { at = at; parameter = at + 1; column = column_of name Integer true }

abbrev last_of : RowKey → Tested
last_of (OfficeRowKey kind key) = record { at = 1; parameter = 2; column = column_of (codes "rowkey") Text true }
last_of (ObsRowKey site pollutant poc hour) = key 3 (codes "hour")
last_of (LoadRowKey number) = record { at = 0; parameter = 1; column = column_of (codes "number") Integer false }
last_of (SecondRowKey site pollutant poc hour) = record { at = 0; parameter = 1; column = column_of (codes "id") Integer false }

abbrev place : List Tested
place = key 2 (codes "poc") ∷ key 1 (codes "pollutant") ∷ key 0 (codes "site") ∷ []

abbrev others_of : RowKey → List Tested
others_of (OfficeRowKey kind text) = key 0 (codes "kind") ∷ []
others_of (ObsRowKey site pollutant poc hour) = place
others_of (LoadRowKey number) = []
others_of (SecondRowKey site pollutant poc hour) = []

abbrev equals : ℕ → ℕ → Term
equals at n = op2 (Compare Eq Binary) (col 1 at) (col 0 n)

abbrev pub is_place : List Term
is_place = equals 1 0 ∷ equals 2 1 ∷ equals 3 2 ∷ equals 4 3 ∷ []

-- of a table whose key is its rowid
abbrev pub is_number : List Term
is_number = equals 0 0 ∷ []

abbrev pub tests_of : RowKey → List Term
tests_of (OfficeRowKey kind key) = equals 1 0 ∷ equals 2 1 ∷ []
tests_of (ObsRowKey site pollutant poc hour) = is_place
tests_of (LoadRowKey number) = is_number
tests_of (SecondRowKey site pollutant poc hour) = is_number

is_drop : (k : RowKey) → IsDropText (table_at k).form (drop_text k) (last_of k) (others_of k) (tests_of k)
unfolding everything
is_drop (OfficeRowKey kind key) = record { reads = refl; statement = refl; formats = refl; depth = 697; deep = refl; may = (refl, (refl, refl, refl), (refl, refl, refl)); tested = λ tree. (record { named = refl; there = refl; binary = refl }, (record { named = refl; there = refl; binary = refl }, tt)); splits = λ tree. refl }
is_drop (ObsRowKey site pollutant poc hour) = record { reads = refl; statement = refl; formats = refl; depth = 695; deep = refl; may = (refl, (refl, (refl, (refl, refl, refl), (refl, refl, refl)), (refl, refl, refl)), (refl, refl, refl)); tested = λ tree. (record { named = refl; there = refl; binary = refl }, (record { named = refl; there = refl; binary = refl }, (record { named = refl; there = refl; binary = refl }, (record { named = refl; there = refl; binary = refl }, tt)))); splits = λ tree. refl }
is_drop (LoadRowKey number) = record { reads = refl; statement = refl; formats = refl; depth = 698; deep = refl; may = (refl, refl, refl); tested = λ tree. (record { named = refl; there = refl; binary = refl }, tt); splits = λ tree. refl }
is_drop (SecondRowKey site pollutant poc hour) = record { reads = refl; statement = refl; formats = refl; depth = 698; deep = refl; may = (refl, refl, refl); tested = λ tree. (record { named = refl; there = refl; binary = refl }, tt); splits = λ tree. refl }

are_plain : (k : RowKey) (schema : Schema) (at tree : ℕ) (stands : slice_get schema.tables at ≡ Some (table_of (table_at k).form tree)) → ArePlain schema at (table_at k).form tree stands (last_of k ∷ others_of k)
unfolding compared affinity_of of_column converted may_be_text is_parameter spelled
are_plain (OfficeRowKey kind key) schema at tree stands = (rw stands, (rw stands, tt))
are_plain (ObsRowKey site pollutant poc hour) schema at tree stands = (rw stands, (rw stands, (rw stands, (rw stands, tt))))
are_plain (LoadRowKey number) schema at tree stands = (refl, tt)
are_plain (SecondRowKey site pollutant poc hour) schema at tree stands = (refl, tt)

drop_typed : (k : RowKey) (schema : Schema) (at tree : ℕ) → Stands schema (table_at k).form at tree
    → program schema [] (scan_draft tree (tests_of k) (col 1 0 ∷ []) []) ≡ Ok (record { lets = []; body = scan tree (tests_of k) (col 1 0 ∷ []) [] })
unfolding program
drop_typed (OfficeRowKey kind key) schema at tree stands = rw (stands.low, stands.sole)
drop_typed (ObsRowKey site pollutant poc hour) schema at tree stands = rw (stands.low, stands.sole)
drop_typed (LoadRowKey number) schema at tree stands = rw (stands.low, stands.sole)
drop_typed (SecondRowKey site pollutant poc hour) schema at tree stands = rw (stands.low, stands.sole)

pub drops_mean : (k : RowKey) (schema : Schema) (at tree : ℕ) → Stands schema (table_at k).form at tree → Means schema (drop_text k) (Delete at (record { lets = []; body = scan tree (tests_of k) (col 1 0 ∷ []) [] }))
drops_mean k schema at tree stands =
    drop_means (table_at k).form (drop_text k) (last_of k) (others_of k) (tests_of k) (is_drop k) schema at tree stands (are_plain k schema at tree stands.has.stands) (drop_typed k schema at tree stands)

-- ---- INSERT

abbrev pub terms_of : RowKey → List Term
terms_of (OfficeRowKey kind key) = lit Null ∷ columns 0 0 3
terms_of (ObsRowKey site pollutant poc hour) = lit Null ∷ columns 0 0 7
terms_of (LoadRowKey number) = col 0 0 ∷ lit Null ∷ columns 0 1 5
terms_of (SecondRowKey site pollutant poc hour) = col 0 0 ∷ lit Null ∷ columns 0 1 4

abbrev pub width_of : RowKey → ℕ
width_of (OfficeRowKey kind key) = 4
width_of (ObsRowKey site pollutant poc hour) = 8
width_of (LoadRowKey number) = 7
width_of (SecondRowKey site pollutant poc hour) = 6

is_put : (k : RowKey) → IsPutText (table_at k).form (put_text k) (terms_of k) (width_of k)
unfolding everything
is_put (OfficeRowKey kind key) = record { reads = refl; statement = refl; formats = refl; new = λ schema tree. refl }
is_put (ObsRowKey site pollutant poc hour) = record { reads = refl; statement = refl; formats = refl; new = λ schema tree. refl }
is_put (LoadRowKey number) = record { reads = refl; statement = refl; formats = refl; new = λ schema tree. refl }
is_put (SecondRowKey site pollutant poc hour) = record { reads = refl; statement = refl; formats = refl; new = λ schema tree. refl }

pub puts_mean : (k : RowKey) (schema : Schema) (at tree : ℕ) → Stands schema (table_at k).form at tree → Means schema (put_text k) (Insert at (Values (terms_of k) (width_of k)))
puts_mean k = put_means (table_at k).form (put_text k) (terms_of k) (width_of k) (is_put k)

-- ---- whatever the schema is, a SELECT of these returns no rows of a write, and does not read the time

pub read_bare_of : (t : Table) → IsBareText (read_text t)
read_bare_of t = bare (form_of t) (read_text t) (shown_of t) (sorted_of t) (project_of t) (order_of t) (is_read t)

pub rowids_bare_of : (t : Table) → IsBareText (rowids_text t)
rowids_bare_of t = bare (form_of t) (rowids_text t) rowids rowids (col 1 0 ∷ []) (rising 0 ∷ []) (is_rowids t)
