-- Lemmas, no definition: a line with an office tag is none of RD.
use Rattle.std.proofs.Common.{◌≡◌, ℕ, Bool, true, false, cond, List, Some, None, Option, refl}
use Rattle.std.proofs.lemmas.Bool.{false≢true}
use Rattle.aq_rules.specs.Lines.Reading.{is_plain, tag_of}
use Rattle.aq_rules.specs.Lines.Spellings.{Tag, Rd, Xm, Xp, Xs, Xo, Xu, Xe, Xc, Xa, Xb}
use Rattle.aq_rd.specs.Tags.{is_office, has_office_tag}
use Rattle.aq_forms.specs.OfficeReading.{is_rd, has_rd_tag}

by_tag : (plain : Bool) (tag : Option Tag) → cond plain (is_office tag) false ≡ true → cond plain (is_rd tag) false ≡ false
by_tag false tag office = refl
by_tag true None office = refl
by_tag true (Some Rd) office = absurd (false≢true office)
by_tag true (Some Xm) office = refl
by_tag true (Some Xp) office = refl
by_tag true (Some Xs) office = refl
by_tag true (Some Xo) office = refl
by_tag true (Some Xu) office = refl
by_tag true (Some Xe) office = refl
by_tag true (Some Xc) office = refl
by_tag true (Some Xa) office = refl
by_tag true (Some Xb) office = refl

pub no_rd_tag : (line : List ℕ) → has_office_tag line ≡ true → has_rd_tag line ≡ false
no_rd_tag line office = by_tag (is_plain line) (tag_of line) office
