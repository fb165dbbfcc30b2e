-- Loads that are kept by their numbers.
use Rattle.std.specs.Prelude.{ℕ, List, map}
use Rattle.aq_base.specs.declared.reply.LoadReply.{LoadReply}
use Rattle.aq_rules.specs.Office.Office.{StoredLoad}
use Rattle.aq_rows.specs.declared.kept_loads.KeptLoad.{KeptLoad}

abbrev pub stored_as : ℕ → List ℕ → LoadReply → StoredLoad
stored_as number digest reply = record { number = number; digest = digest; reply = reply }

abbrev pub stored_entry : ℕ × KeptLoad → StoredLoad
stored_entry entry = stored_as entry.0 entry.1.digest entry.1.reply

abbrev pub stored_in : List (ℕ × KeptLoad) → List StoredLoad
stored_in entries = map stored_entry entries

abbrev pub reply_in : StoredLoad → LoadReply
reply_in load = load.reply

abbrev pub digest_in : StoredLoad → List ℕ
digest_in load = load.digest
