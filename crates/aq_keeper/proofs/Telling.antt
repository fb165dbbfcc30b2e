-- What a keeper tells from call to call, if it may stop telling within one.
use Rattle.std.proofs.Common.{◌≡◌, refl, sym, ap, ◌∙◌, Option, Some, None}
use Rattle.std.specs.Prelude.{IsSome}
use Rattle.std.specs.Option.{option_map}
use Rattle.aq_keeper.specs.Told.{Stays, told_through}

module _ {A : Type 0} where
  -- of a keeper that tells still, nothing is left open
  pub exact : (expected after : Option A) → IsSome after → Stays expected after → after ≡ expected
  exact expected (Some told) tells stays = sym stays
  exact expected None tells stays = absurd (cc)

  pub through : (before after : Option A) → IsSome after → told_through before after ≡ before
  through before (Some told) tells = refl
  through before None tells = absurd (cc)

  -- one that never stops
  pub stays_so : (expected after : Option A) → after ≡ expected → Stays expected after
  stays_so expected (Some told) same = sym same
  stays_so expected None same = tt

  pub stays : (tables : Option A) → Stays tables tables
  stays tables = stays_so tables tables refl

  -- the same of what is expected in other words
  pub stays_as : (expected other after : Option A) → other ≡ expected → Stays expected after → Stays other after
  stays_as expected other (Some told) same is = same ∙ is
  stays_as expected other None same is = tt

  -- call after call
  pub stays_join : (f : A → A) (expected between after : Option A) → Stays expected between → Stays (option_map f between) after → Stays (option_map f expected) after
  stays_join f expected (Some told) (Some later) one two = ap (option_map f) one ∙ two
  stays_join f expected None (Some later) one two = absurd (cc)
  stays_join f expected between None one two = tt

  pub stays_still : (expected between after : Option A) → Stays expected between → Stays between after → Stays expected after
  stays_still expected (Some told) (Some later) one two = one ∙ two
  stays_still expected None (Some later) one two = absurd (cc)
  stays_still expected between None one two = tt
