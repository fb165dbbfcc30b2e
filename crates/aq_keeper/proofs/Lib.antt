-- Lemmas on the order of keys, on rows that rise, on rows table by table, on what is told from call to call, and
-- on tables that are those of an office.
pub mod KeyOrder
pub mod RisingLemmas
pub mod TableByTable
pub mod Telling
pub mod TablesOfOffice
