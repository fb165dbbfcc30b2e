-- A site's text, digit by digit.
use Rattle.std.proofs.Common.{◌≡◌, ℕ, List, [], ◌∷◌, get_or, refl}
use Rattle.aq_base.specs.Decimal.{last_digits}
use Rattle.aq_base.specs.Site.{Site}
use Rattle.aq_base.specs.Text.{site_text}

pub site_text_is : (site : Site) (state county number : List ℕ)
    → state ≡ last_digits 2 site.state → county ≡ last_digits 3 site.county → number ≡ last_digits 4 site.number
    → get_or state 0 0 ∷ get_or state 1 0 ∷ 45
    ∷ get_or county 0 0 ∷ get_or county 1 0 ∷ get_or county 2 0 ∷ 45
    ∷ get_or number 0 0 ∷ get_or number 1 0 ∷ get_or number 2 0 ∷ get_or number 3 0 ∷ []
    ≡ site_text site
unfolding site_text last_digits
site_text_is site state county number p q r = rw (p, q, r) refl
