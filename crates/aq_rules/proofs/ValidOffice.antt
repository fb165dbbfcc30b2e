-- The test of a valid office is the facts of one.
use Rattle.std.proofs.Common.{◌≡◌, true, length}
use Rattle.std.specs.Prelude.{nat_le}
use Rattle.std.specs.List.{list_all}
use Rattle.std.proofs.lemmas.Bool.{and_from, and_parts, le-leb, leb-true}
use Rattle.aq_rules.specs.Limits.{MOST_SITES, MOST_OBSERVATIONS, MOST_LOADS}
use Rattle.aq_rules.specs.Office.Office.{Office, IsOffice, record_rank, observation_rank, load_rank, rises, fits_records, is_alone, sites_of, fits_monitors, is_load}
use Rattle.aq_rules.specs.Kept.Rows.{is_valid}

pub valid-is_office : (office : Office) → is_valid office ≡ true → IsOffice office
valid-is_office office valid =
    let j = and_parts _ (nat_le (length office.loads) MOST_LOADS) valid in
    let i = and_parts _ (list_all is_load office.loads) j.0 in
    let h = and_parts _ (nat_le (length office.observations) MOST_OBSERVATIONS) i.0 in
    let g = and_parts _ (list_all (fits_monitors office) office.observations) h.0 in
    let f = and_parts _ (nat_le (length (sites_of office.records)) MOST_SITES) g.0 in
    let e = and_parts _ (list_all (is_alone office) office.records) f.0 in
    let d = and_parts _ (list_all (fits_records office) office.records) e.0 in
    let c = and_parts _ (rises load_rank office.loads) d.0 in
    let b = and_parts (rises record_rank office.records) (rises observation_rank office.observations) c.0 in
    record {
      keys_rise = record { records = b.0; observations = b.1; loads = c.1 };
      records_fit = d.1;
      records_alone = e.1;
      few_sites = leb-true (length (sites_of office.records)) MOST_SITES f.1;
      observations_fit = g.1;
      few_observations = leb-true (length office.observations) MOST_OBSERVATIONS h.1;
      loads_fit = i.1;
      few_loads = leb-true (length office.loads) MOST_LOADS j.1;
    }

pub office-is_valid : (office : Office) → IsOffice office → is_valid office ≡ true
office-is_valid office is =
    and_from _ _
    (and_from _ _
    (and_from _ _
    (and_from _ _
    (and_from _ _
    (and_from _ _
    (and_from _ _
    (and_from _ _ (and_from (rises record_rank office.records) (rises observation_rank office.observations) is.keys_rise.records is.keys_rise.observations) is.keys_rise.loads)
    is.records_fit)
    is.records_alone)
    (le-leb (length (sites_of office.records)) MOST_SITES is.few_sites))
    is.observations_fit)
    (le-leb (length office.observations) MOST_OBSERVATIONS is.few_observations))
    is.loads_fit)
    (le-leb (length office.loads) MOST_LOADS is.few_loads)
