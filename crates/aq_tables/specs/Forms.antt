-- The tables of an office of any version: what the CREATE of each defines, but for its tree.
use Rattle.std.specs.Prelude.{◌≡◌, ℕ, Bool, true, false, if◌then◌else◌, List, [], ◌∷◌, map, Option, Some, None, is_some, codes}
use Rattle.sqlite.specs.Collation.TheVariants.{Binary}
use Rattle.sqlite.specs.declared.types.Value.TheVariants.{Null}
use Rattle.sqlite.specs.Kind.{Kind}
use Rattle.sqlite.specs.Kind.TheVariants.{Integer, Text, Blob}
use Rattle.sqlite.specs.Table.{Table}
use Rattle.sqlite_schema.specs.declared.schema.Column.{Column}
use Rattle.sqlite_value.specs.declared.keys.Order.{Order}
use Rattle.sqlite_value.specs.Keys.{plain}
use Rattle.aq_tables.specs.declared.forms.ColumnForm.{ColumnForm}
use Rattle.aq_tables.specs.declared.forms.TableForm.{TableForm}

pub record Form : Type 0 where
  pub name : List ℕ
  pub columns : List Column
  -- the column that is the rowid
  pub key : Option ℕ
  pub primary : List ℕ
  pub uniques : List (List ℕ)
  pub orders : List Order

-- the table of a form that has this tree
abbrev pub table_of : Form → ℕ → Table
table_of form tree = record { name = form.name; tree = tree; columns = form.columns; key = form.key; primary = form.primary; uniques = form.uniques; orders = form.orders; checks = []; references = []; computed = []; stamps = record { places = []; terms = []; formats = [] }; is_counted = false }

abbrev pub column_of : List ℕ → Kind → Bool → Column
column_of name kind not_null = record { name = name; kind = kind; is_strict = true; not_null = not_null; default = Null; collation = Binary }

-- the key of a table, its places, and the UNIQUEs are those of a form
pub record HasKey (table : Table) (form : Form) : Type 0 where
  pub key : table.key ≡ form.key
  pub primary : table.primary ≡ form.primary
  pub uniques : table.uniques ≡ form.uniques
  pub orders : table.orders ≡ form.orders

-- a table has no CHECK, no foreign key, no default that is computed or reads the time, and no AUTOINCREMENT
pub record HasNoMore (table : Table) : Type 0 where
  pub checks : table.checks ≡ []
  pub references : table.references ≡ []
  pub computed : table.computed ≡ []
  pub stamps : table.stamps ≡ record { places = []; terms = []; formats = [] }
  pub counted : table.is_counted ≡ false

-- a form as the code has it: a key that is not the rowid is a UNIQUE
abbrev pub column_in : ColumnForm → Column
column_in c = column_of c.name.now c.kind c.not_null

abbrev pub form_in : TableForm → Form
form_in f = record {
  name = f.name.now;
  columns = map column_in f.columns.now;
  key = f.key;
  primary = f.primary.now;
  uniques = if is_some f.key then [] else f.primary.now ∷ [];
  orders = if is_some f.key then [] else plain ∷ [];
}

abbrev pub records_form : Form
records_form = record {
  name = codes "records";
  columns = column_of (codes "kind") Integer true ∷ column_of (codes "rowkey") Text true ∷ column_of (codes "line") Text true ∷ [];
  key = None;
  primary = 1 ∷ 2 ∷ [];
  uniques = (1 ∷ 2 ∷ []) ∷ [];
  orders = plain ∷ [];
}

abbrev pub observations_form : Form
observations_form = record {
  name = codes "observations";
  columns = column_of (codes "site") Integer true ∷ column_of (codes "pollutant") Integer true ∷ column_of (codes "poc") Integer true
      ∷ column_of (codes "hour") Integer true ∷ column_of (codes "value") Integer false ∷ column_of (codes "nullcode") Text true
      ∷ column_of (codes "quals") Text true ∷ [];
  key = None;
  primary = 1 ∷ 2 ∷ 3 ∷ 4 ∷ [];
  uniques = (1 ∷ 2 ∷ 3 ∷ 4 ∷ []) ∷ [];
  orders = plain ∷ [];
}

abbrev pub loads_form : Form
loads_form = record {
  name = codes "loads";
  columns = column_of (codes "number") Integer false ∷ column_of (codes "digest") Blob true ∷ column_of (codes "lines") Integer true
      ∷ column_of (codes "accepted") Integer true ∷ column_of (codes "listed") Text true ∷ column_of (codes "rest") Text true ∷ [];
  key = Some 0;
  primary = 0 ∷ [];
  uniques = [];
  orders = [];
}

abbrev pub second_form : Form
second_form = record {
  name = codes "observations2";
  columns = column_of (codes "site") Integer true ∷ column_of (codes "pollutant") Integer true ∷ column_of (codes "poc") Integer true
      ∷ column_of (codes "hour") Integer true ∷ column_of (codes "value") Integer false ∷ column_of (codes "method") Integer false
      ∷ column_of (codes "nullcode") Text true ∷ column_of (codes "quals") Text true ∷ [];
  key = None;
  primary = 1 ∷ 2 ∷ 3 ∷ 4 ∷ [];
  uniques = (1 ∷ 2 ∷ 3 ∷ 4 ∷ []) ∷ [];
  orders = plain ∷ [];
}

abbrev pub third_form : Form
third_form = record {
  name = codes "observations3";
  columns = column_of (codes "id") Integer false ∷ column_of (codes "value") Integer false ∷ column_of (codes "method") Integer false
      ∷ column_of (codes "nullcode") Text true ∷ column_of (codes "quals") Text true ∷ [];
  key = Some 0;
  primary = 0 ∷ [];
  uniques = [];
  orders = [];
}
