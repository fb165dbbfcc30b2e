use Rattle.airdv_page.proofs.ReadAs.{read-as-drawn}
use Rattle.airdv_page.proofs.law.sheets_are_drawn_as_they_are_read.Goals as goal

pub returns : goal.returns
returns c lines = read-as-drawn lines
