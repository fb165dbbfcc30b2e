-- The statements as texts.
use Rattle.std.specs.Prelude.{ℕ, List, ◌++◌, codes}
use Rattle.aq_tables.specs.declared.reading.Table.{Table}
use Rattle.aq_tables.specs.declared.reading.Table.TheVariants.{Records, Observations, Loads, Second, Third}
use Rattle.aq_rules.specs.Kept.RowChanges.{RowKey, OfficeRowKey, ObsRowKey, LoadRowKey, SecondRowKey}
use Rattle.aq_tables.specs.Told.{ours_of}

-- what makes a table; `observations` and `observations2` are made by no program of today
abbrev pub make_records_text : List ℕ
make_records_text = codes "CREATE TABLE records (kind INTEGER NOT NULL, rowkey TEXT NOT NULL, line TEXT NOT NULL, PRIMARY KEY (kind, rowkey)) STRICT"

abbrev pub make_loads_text : List ℕ
make_loads_text = codes "CREATE TABLE loads (number INTEGER PRIMARY KEY, digest BLOB NOT NULL, lines INTEGER NOT NULL, accepted INTEGER NOT NULL, listed TEXT NOT NULL, rest TEXT NOT NULL) STRICT"

abbrev pub make_third_text : List ℕ
make_third_text = codes "CREATE TABLE observations3 (id INTEGER PRIMARY KEY, value INTEGER, method INTEGER, nullcode TEXT NOT NULL, quals TEXT NOT NULL) STRICT"

-- what reads all rows of a table in the order of their keys
abbrev pub read_text : Table → List ℕ
read_text Records = codes "SELECT kind, rowkey, line FROM records ORDER BY kind, rowkey"
read_text Observations = codes "SELECT site, pollutant, poc, hour, value, nullcode, quals FROM observations ORDER BY site, pollutant, poc, hour"
read_text Loads = codes "SELECT number, digest, lines, accepted, listed, rest FROM loads ORDER BY number"
read_text Second = codes "SELECT site, pollutant, poc, hour, value, method, nullcode, quals FROM observations2 ORDER BY site, pollutant, poc, hour"
read_text Third = codes "SELECT id, value, method, nullcode, quals FROM observations3 ORDER BY id"

-- what drops the row of a key from its table, and what puts a row of that key; rows of `observations2` are read alone
abbrev pub drop_text : RowKey → List ℕ
drop_text (OfficeRowKey kind key) = codes "DELETE FROM records WHERE kind = ?1 AND rowkey = ?2"
drop_text (ObsRowKey site pollutant poc hour) = codes "DELETE FROM observations WHERE site = ?1 AND pollutant = ?2 AND poc = ?3 AND hour = ?4"
drop_text (LoadRowKey number) = codes "DELETE FROM loads WHERE number = ?1"
drop_text (SecondRowKey site pollutant poc hour) = codes "DELETE FROM observations3 WHERE id = ?1"

abbrev pub put_text : RowKey → List ℕ
put_text (OfficeRowKey kind key) = codes "INSERT INTO records (kind, rowkey, line) VALUES (?1, ?2, ?3)"
put_text (ObsRowKey site pollutant poc hour) = codes "INSERT INTO observations (site, pollutant, poc, hour, value, nullcode, quals) VALUES (?1, ?2, ?3, ?4, ?5, ?6, ?7)"
put_text (LoadRowKey number) = codes "INSERT INTO loads (number, digest, lines, accepted, listed, rest) VALUES (?1, ?2, ?3, ?4, ?5, ?6)"
put_text (SecondRowKey site pollutant poc hour) = codes "INSERT INTO observations3 (id, value, method, nullcode, quals) VALUES (?1, ?2, ?3, ?4, ?5)"

-- what drops the table of before once its rows are moved, and the view of its name and columns
abbrev pub drop_second_text : List ℕ
drop_second_text = codes "DROP TABLE observations2"

abbrev pub view_text : List ℕ
view_text = codes "CREATE VIEW observations2 AS SELECT id / 1000000000 AS site, id / 100000000 % 10 AS pollutant, id / 1000000 % 100 AS poc, id % 1000000 - 87648 AS hour, value, method, nullcode, quals FROM observations3"

-- all rowids in their order
abbrev pub rowids_text : Table → List ℕ
rowids_text t = codes "SELECT rowid FROM " ++ (ours_of t).form.name ++ codes " ORDER BY rowid"
