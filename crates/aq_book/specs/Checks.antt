-- Whether a load acts, in the words of the book of rules.
use Rattle.aq_rules.specs.Office.Load.{Decision}
use Rattle.aq_rules.specs.Office.Load as load
use Rattle.aq_book.specs.declared.check.LoadCheck.{LoadCheck}
use Rattle.aq_book.specs.declared.check.LoadCheck.TheVariants.{Repeat, Conflict, Full, New}

abbrev pub decision_of : LoadCheck → Decision
decision_of Repeat = load.Repeat
decision_of Conflict = load.Conflict
decision_of Full = load.Full
decision_of New = load.New
