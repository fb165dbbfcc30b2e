-- The names of the tables.
use Rattle.std.proofs.Common.{◌≡◌, ℕ, ◌≤◌, [], codes, sym, ap, arith}
use Rattle.std.proofs.lemmas.List.{get_or_past}
use Rattle.aq_rules.specs.Kept.RowChanges.{table_name, table_names}

pub records_name : (table : ℕ) → table ≡ 0 → codes "records" ≡ table_name table
records_name table is = ap table_name (sym is)

pub observations_name : (table : ℕ) → table ≡ 1 → codes "observations" ≡ table_name table
observations_name table is = ap table_name (sym is)

pub loads_name : (table : ℕ) → table ≡ 2 → codes "loads" ≡ table_name table
loads_name table is = ap table_name (sym is)

pub observations3_name : (table : ℕ) → table ≡ 3 → codes "observations3" ≡ table_name table
observations3_name table is = ap table_name (sym is)

pub no_name : (table : ℕ) → (table ≡ 0 → ⊥) → (table ≡ 1 → ⊥) → (table ≡ 2 → ⊥) → (table ≡ 3 → ⊥) → [] ≡ table_name table
no_name table zero_not one_not two_not three_not =
    let beyond : 4 ≤ table = omega (arith, zero_not, one_not, two_not, three_not) in
    sym (get_or_past table_names table [] beyond)
