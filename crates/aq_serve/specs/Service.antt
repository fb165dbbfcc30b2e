-- What contracts say of a service, seen as an office and what its keeper tells.
use Rattle.std.specs.Prelude.{◌≡◌, ℕ, ◌==◌, ◌⊎◌, Bool, true, false, List}
use Rattle.aq_base.specs.Faults.{HasRisen}
use Rattle.aq_keeper.specs.Standing.{AreOfOffice, Become, Keeps, Standing}
use Rattle.aq_http.specs.declared.verb.Verb.{Verb}
use Rattle.aq_serve.specs.Answered.{answered, reply_of}

-- the count rose if the keeper failed, and is the same otherwise
abbrev pub Counts : Bool → ℕ → ℕ → Type 0
Counts true before after = HasRisen before after
Counts false before after = after ≡ before

-- a reply answers the request over the office, and the office and the tables are those after it; the keeper fails exactly if the status is 503
pub record Answers (verb : Verb) (target body : List ℕ) (close : Bool) (bytes : List ℕ) (before after : Standing) : Type 0 where
  pub fails : Bool
  pub reply : bytes ≡ reply_of (answered before.office verb target body fails) close
  pub office : after.office ≡ (answered before.office verb target body fails).office
  pub cause : Counts ((answered before.office verb target body fails).status == 503) before.faults after.faults
  pub tables : Keeps before after

-- memory was not to be had: the tables are as before, or those with the load
pub record Loses (verb : Verb) (target body : List ℕ) (before after : Standing) : Type 0 where
  pub cause : (after.faults ≡ before.faults) ⊎ HasRisen before.faults after.faults
  pub tables : AreOfOffice before
      → Become before before.office after ⊎ Become before (answered before.office verb target body false).office after
