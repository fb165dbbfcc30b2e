-- What a text shows that is a query under any schema.
use Rattle.std.specs.Prelude.{◌≡◌, ℕ, false, List, [], ◌++◌, map, None, Ok}
use Rattle.sqlite.specs.Order.{Row}
use Rattle.sqlite.specs.Schema.{Schema}
use Rattle.sqlite.specs.Effect.{Database, Reads}
use Rattle.sqlite.specs.Listing.{understood, reads_listing}
use Rattle.sqlite_resolve.specs.declared.compiled.Compiled.{Compiled}
use Rattle.aq_rules.specs.Kept.Rows as the_rows
use Rattle.aq_tables.specs.declared.reading.Table.{Table}
use Rattle.aq_tables.specs.declared.reading.Table.TheVariants.{Records, Observations, Loads, Second, Third}
use Rattle.aq_tables.specs.Told.{record_shown, observation_shown, load_shown, second_shown, third_shown}

-- it returns no rows of a write, and does not read the time
abbrev pub IsBareText : List ℕ → Type 0
IsBareText text = (schema : Schema) (c : Compiled) → understood schema text ≡ Ok c → (c.returning ≡ None) × (c.formats ≡ [])

-- these rows are what its command reads in a database
abbrev pub Shows : List ℕ → Database → List Row → Type 0
Shows text db shown = (c : Compiled) → understood db.schema text ≡ Ok c → reads_listing db.schema text ≡ false → Reads c.command db [] shown

-- what a row says that an answer about a table shows
abbrev pub shown_by : Table → Row → the_rows.Row
shown_by Records r = record_shown r
shown_by Observations r = observation_shown r
shown_by Loads r = load_shown r
shown_by Second r = second_shown r
shown_by Third r = third_shown r

-- all rows that a text shows were added to those that were there
abbrev pub Takes : (Row → the_rows.Row) → List ℕ → Database → List the_rows.Row → List the_rows.Row → Type 0
Takes says text db before after = (shown : List Row) × Shows text db shown × (after ≡ before ++ map says shown)
