-- The strata of a quarter's days so far.
use Rattle.std.specs.Prelude.{ℕ, ◌+◌, Bool, ◌||◌, ◌==◌, if◌then◌else◌}
use Rattle.aq_reports.specs.declared.daily.strata.Begun.{Begun}

-- with one more day, which begins a stratum if it is scheduled or the last one ends before it
abbrev pub with_day : Bool → ℕ → Begun → Begun
with_day scheduled day begun =
    if scheduled || (day == begun.end) then record { strata = begun.strata + 1; end = day + 6 } else begun
