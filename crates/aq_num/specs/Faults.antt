-- What the refusals of a number's text are called.
use Rattle.std.specs.Prelude.{ℕ, List, codes}
use Rattle.aq_num.specs.declared.decimal.NumberFault.{NumberFault}
use Rattle.aq_num.specs.declared.decimal.NumberFault.TheVariants.{Spelling, TooLarge}

abbrev pub fault_text : NumberFault → List ℕ
fault_text Spelling = codes "not a decimal number"
fault_text TooLarge = codes "a number that is too large"
