use Rattle.aq_rules.proofs.BroughtUp.{brought-up, piece-brought}
use Rattle.aq_rules.proofs.ExtractRows.{extract-rows}
use Rattle.aq_rules.proofs.UpToDate.{again, stands}
use Rattle.aq_rules.proofs.extracts.extracts_bring_up_to_date.Goals as goal

pub returns : goal.returns
returns c = record {
  whole = λ span office body rows valid is few. brought-up span office rows valid (extract-rows span office body rows is) few;
  pieces = λ span office body rows front piece rest valid is few values. piece-brought span office rows valid (extract-rows span office body rows is) few front piece rest values;
  stands = λ span office body rows key valid is. stands span office rows valid (extract-rows span office body rows is) key;
  again = λ span office body rows valid is. again span office rows valid (extract-rows span office body rows is) body is;
}
