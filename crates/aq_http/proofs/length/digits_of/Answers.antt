use Rattle.std.proofs.Common.{◌≡◌, ◌∙◌, sym, subst, true}
use Rattle.aq_http.specs.Length.{IsStated, is_number}
use Rattle.aq_http.proofs.Lengths.{number_digits}
use Rattle.aq_http.proofs.length.digits_of.Goals as goal

pub returns-then-is_number-clause-digits : goal.returns-then-is_number-clause-digits
returns-then-is_number-clause-digits c =
    let is : is_number c.args.text.now ≡ true = sym c.is_number.ensures ∙ c.if-is_number.true in
    subst IsStated (sym c.without_zeros.ensures) (number_digits c.args.text.now is)
