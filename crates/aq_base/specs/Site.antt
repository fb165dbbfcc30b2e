-- A monitoring site, by the three parts of its number.
use Rattle.std.specs.Prelude.{ℕ, ◌≤◌, ◌&&◌, nat_le, if◌then◌else◌, Option, Some, None}

pub record Site : Type 0 where
  pub state : ℕ
  pub county : ℕ
  pub number : ℕ

-- the parts are of two, three and four digits
pub record IsSite (site : Site) : Type 0 where
  pub state : site.state ≤ 99
  pub county : site.county ≤ 999
  pub number : site.number ≤ 9999

-- the site with these parts, if each has as many digits as it may
abbrev pub site_of : ℕ → ℕ → ℕ → Option Site
site_of state county number =
    if nat_le state 99 && nat_le county 999 && nat_le number 9999
    then Some (record { state = state; county = county; number = number })
    else None
