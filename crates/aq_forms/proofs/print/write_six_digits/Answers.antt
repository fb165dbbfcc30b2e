use Rattle.std.proofs.Common.{◌++◌, ◌∙◌, List, ℕ, ap}
use Rattle.aq_forms.proofs.OfficePrinted.{six-written}
use Rattle.aq_forms.proofs.print.write_six_digits.Goals as goal

pub returns : goal.returns
returns c =
    six-written c.args.out.now.items c.extend_from_slice.new.self.items c.extend_from_slice-2.new.self.items c.args.number
    (c.in_ok-extend_from_slice.ensures.items ∙ ap (λ (digits : List ℕ). c.args.out.now.items ++ digits) c.last_digits.ensures)
    (c.in_ok-extend_from_slice-2.ensures.items ∙ ap (λ (digits : List ℕ). c.extend_from_slice.new.self.items ++ digits) c.last_digits-2.ensures)
