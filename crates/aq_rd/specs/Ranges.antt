-- What holds of every line that is read.
use Rattle.aq_base.specs.Values.{HasValueInRange}
use Rattle.aq_rd.specs.declared.line.RdLine.{RdLine}
use Rattle.aq_rd.specs.declared.line.RdLine.TheVariants.{Put, Delete}

-- a value is in its pollutant's range
abbrev pub HasLineRange : RdLine → Type 0
HasLineRange (Put update monitor duration hour content) = HasValueInRange monitor.pollutant content
HasLineRange (Delete monitor hour) = Unit {0}
