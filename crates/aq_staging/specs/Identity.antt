-- Under what a load is kept.
use Rattle.std.specs.Prelude.{ℕ, ◌==◌, if◌then◌else◌, Option, Some, None, List}
use Rattle.aq_staging.specs.declared.identity.LoadIdentity.{LoadIdentity}

-- a load with the number 0 is not kept
abbrev pub identity_of : ℕ → List ℕ → Option LoadIdentity
identity_of number digest = if number == 0 then None else Some (record { number = number; digest = digest })

-- the number in the reply, 0 for a load that is not kept
abbrev pub number_in : Option LoadIdentity → ℕ
number_in None = 0
number_in (Some identity) = identity.number
