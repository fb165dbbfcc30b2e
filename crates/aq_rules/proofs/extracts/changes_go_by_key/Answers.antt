use Rattle.std.proofs.Common.{refl}
use Rattle.std.specs.Fmt.{digits}
use Rattle.aq_base.specs.Calendar.{days_of_months, days_of_years, month_of, year_of}
use Rattle.aq_base.specs.Decimal.{last_digits}
use Rattle.aq_rules.specs.Extracts.Changes.{change_values, changes_answer, extract_of}
use Rattle.aq_rules.specs.Lines.Canonical.{rd_texts}
use Rattle.aq_rules.specs.Lines.OfficeForms.{xa_key, xa_record, xb_key, xb_record, xc_record, xe_key, xe_record, xm_record, xo_key, xo_record, xp_key, xp_record, xs_key, xs_record, xu_key, xu_record}
use Rattle.aq_rules.specs.Lines.RdForm.{content_in, delete_in, monitor_in, put_in, start_in}
use Rattle.aq_rules.specs.Lines.Spellings.{date_in, event_code_in, event_number_in, interval_in, parameter_of, qualifiers_in, site_in, time_in, value_in, year_in}
use Rattle.aq_rules.proofs.extracts.changes_go_by_key.Goals as goal

pub returns : goal.returns
unfolding digits change_values changes_answer content_in date_in days_of_months days_of_years delete_in event_code_in event_number_in extract_of interval_in last_digits monitor_in month_of parameter_of put_in qualifiers_in rd_texts site_in start_in time_in value_in xa_key xa_record xb_key xb_record xc_record xe_key xe_record xm_record xo_key xo_record xp_key xp_record xs_key xs_record xu_key xu_record year_in year_of
returns c = record { insertions = refl; updates = refl; deletions = refl }
