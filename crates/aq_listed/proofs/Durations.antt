-- How long a monitor's samples last, as the registry answers it.
use Rattle.std.proofs.Common.{◌≡◌, Bool, Some, None, Option, List, refl, ap, ◌∙◌}
use Rattle.std.specs.Prelude.{option_map, unwrap_or}
use Rattle.std.specs.Option.{option_and_then}
use Rattle.aq_base.specs.declared.monitor.Duration.{Duration}
use Rattle.aq_base.specs.declared.monitor.Duration.TheVariants.{Hour}
use Rattle.aq_base.specs.declared.monitor.MonitorId.{MonitorId}
use Rattle.aq_base.specs.declared.office.OfficeRecord.{OfficeRecord}
use Rattle.aq_base.specs.declared.office.OfficeRecord.TheVariants.{Monitor}
use Rattle.aq_base.specs.declared.office.OfficeKey.TheVariants.{Monitor as MonitorKey}
use Rattle.aq_rules.specs.Lines.Spellings.{◌>>=◌}
use Rattle.aq_rules.specs.Office.Office.{duration_at, monitor_duration}
use Rattle.aq_rules.specs.Office.Questions.{record_of, registration_of}
use Rattle.aq_registry.specs.Registry.{office_with, pair_of, registration_in}
use Rattle.aq_registry.proofs.QuestionLemmas.{registration_found}

abbrev pub lasting : Option (Duration × Bool) → Option Duration
lasting found = option_map (λ (p : Duration × Bool). p.0) found

in_record : (o : Option OfficeRecord) → lasting (option_map pair_of (option_and_then registration_in o)) ≡ o >>= monitor_duration
in_record None = refl
in_record (Some (Monitor id duration eligible)) = refl
in_record (Some r) = refl

pub duration_found : (records : List OfficeRecord) (id : MonitorId) (found : Option (Duration × Bool)) → found ≡ option_map pair_of (registration_of records id)
    → lasting found ≡ duration_at (office_with records) id
duration_found records id found is =
    ap lasting (is ∙ ap (λ o. option_map pair_of o) (registration_found records id)) ∙ in_record (record_of records (MonitorKey id))

pub lasts : (records : List OfficeRecord) (id : MonitorId) (found : Option (Duration × Bool)) → found ≡ option_map pair_of (registration_of records id)
    → unwrap_or (lasting found) Hour ≡ unwrap_or (duration_at (office_with records) id) Hour
lasts records id found is = ap (λ o. unwrap_or o Hour) (duration_found records id found is)
