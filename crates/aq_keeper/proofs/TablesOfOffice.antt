-- Tables that are those of an office, from call to call.
use Rattle.std.proofs.Common.{◌≡◌, List, refl, sym, ap, ◌∙◌, Option, Some, None}
use Rattle.std.specs.Prelude.{IfSome}
use Rattle.std.specs.Option.{option_map}
use Rattle.aq_keeper.proofs.Telling.{stays_so}
use Rattle.aq_keeper.specs.Standing.{AreOfOffice, Become, Keeps, Standing}
use Rattle.aq_keeper.specs.Told.{Stays}
use Rattle.aq_rules.specs.Kept.Rows.{Row, rows_of}
use Rattle.aq_rules.specs.Office.Office.{Office}

told_of : (t after : Option (List Row)) (x : List Row) → Stays (option_map (λ _. x) t) after → IfSome after (λ told. told ≡ x)
told_of (Some z) (Some y) x is = cc
told_of None (Some y) x is = absurd (cc)
told_of t None x is = tt

told_same : (t : Option (List Row)) (x : List Row) → IfSome t (λ told. told ≡ x) → t ≡ option_map (λ _. x) t
told_same None x e = refl
told_same (Some z) x e = ap Some e

mapped_again : (t between after : Option (List Row)) (x y : List Row) → Stays (option_map (λ _. x) t) between → Stays (option_map (λ _. y) between) after → Stays (option_map (λ _. y) t) after
mapped_again (Some z) (Some m) after x y one two = two
mapped_again None (Some m) after x y one two = absurd (cc)
mapped_again t None (Some a) x y one two = absurd (cc)
mapped_again t None None x y one two = tt

pub told_after : (b m : Standing) → Keeps b m → AreOfOffice b → AreOfOffice m
told_after b m keeps told = told_of b.tables m.tables (rows_of m.office) (keeps told)

-- the tables are told to the end, or no more
pub become_still : (b a : Standing) → AreOfOffice b → Stays b.tables a.tables → Become b b.office a
become_still b a told stays = still b.tables a.tables (told_same b.tables (rows_of b.office) told) stays
  where
    still : (t after : Option (List Row)) → t ≡ option_map (λ _. rows_of b.office) t → Stays t after → Stays (option_map (λ _. rows_of b.office) t) after
    still t (Some all) same is = sym same ∙ is
    still t None same is = tt

pub become_same : (b : Standing) → AreOfOffice b → Become b b.office b
become_same b told = stays_so (option_map (λ _. rows_of b.office) b.tables) b.tables (told_same b.tables (rows_of b.office) told)

pub become_join : (b m a : Standing) (office : Office) → AreOfOffice b → Keeps b m → Become m office a → Become b office a
become_join b m a office told keeps becomes = mapped_again b.tables m.tables a.tables (rows_of m.office) (rows_of office) (keeps told) becomes

pub keeps_join : (b m a : Standing) → Keeps b m → Keeps m a → Keeps b a
keeps_join b m a one two told = become_join b m a a.office told one (two (told_after b m one told))
