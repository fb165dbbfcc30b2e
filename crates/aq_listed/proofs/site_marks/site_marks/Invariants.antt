use Rattle.std.proofs.Common.{◌≡◌, ◌+◌, ℕ, Bool, count_by}
use Rattle.aq_base.specs.declared.code.Code.{Code}
use Rattle.aq_base.specs.declared.monitor.Pollutant.{Pollutant}
use Rattle.aq_listed.specs.Marks.{is_asked, is_marked}
use Rattle.aq_listed.proofs.site_marks.site_marks.Given as goal

abbrev pub invariant-loop-key : goal.invariant-loop-key
invariant-loop-key g l =
    (pollutant : Pollutant) (code : Code) (test : ℕ → Bool)
    → count_by (is_marked pollutant code test) l.marks.items + count_by (is_asked l.site pollutant code test) l.key-iterator ≡ count_by (is_asked l.site pollutant code test) l.shelf
