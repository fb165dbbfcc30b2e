-- The tables of a keeper, and the text that is printed over them.
use Rattle.std.proofs.Common.{◌≡◌, ℕ, ◌⊎◌, List, [], ◌++◌, Option, Some, None, refl, sym, ap, subst, ◌∙◌, inl, inr, arith}
use Rattle.std.specs.Prelude.{Result, Ok, Err, IfErr, IfSome, IsSome}
use Rattle.std.specs.Option.{option_map}
use Rattle.aq_keeper.proofs.Telling.{exact, stays}
use Rattle.aq_keeper.specs.Told.{Stays, told_through}
use Rattle.aq_rules.specs.Kept.Rows.{Row, rows_of}
use Rattle.aq_rules.specs.Office.Office.{Office}
use Rattle.aq_desk.proofs.Outcomes.{nothing_written}
use Rattle.aq_desk.proofs.Fronts.{behind_nothing}
use Rattle.aq_desk.specs.Command.{AtMostOpened, BecomeRows, IsKept, IsWhole, Keeps, Outcome, Printout, leaving, opened_rows, printed, printout_of, unwritten}
use Rattle.aq_desk.specs.Ending.{done}
use Rattle.aq_outside.specs.Outside.{IsAll, OfTold, SinkView}
use Rattle.aq_desk.specs.Stop.{Gives, IsUnprinted, Obeys, Performs, ending_at, status_of}
use Rattle.aq_desk.specs.declared.stop.Stop.{Stop}
use Rattle.aq_desk.specs.declared.stop.Stop.TheVariants.{OutputFailed}

-- a fact of every list is one of what is told
pub of_any : {A : Type 0} (told : Option (List A)) (Says : List A → Type 0) → ((all : List A) → Says all) → OfTold told Says
of_any None Says every = record { all = []; is_all = tt; says = every [] }
of_any (Some items) Says every = record { all = items; is_all = refl; says = every items }

-- and so is one of every list that is told
pub of_told : {A : Type 0} (told : Option (List A)) (Says : List A → Type 0) → ((all : List A) → IsAll told all → Says all) → OfTold told Says
of_told None Says every = record { all = []; is_all = tt; says = every [] tt }
of_told (Some items) Says every = record { all = items; is_all = refl; says = every items refl }

-- ---- what is told to the end was told before

same-some : {A : Type 0} (a b : A) → Some a ≡ Some b → a ≡ b
same-some a b is = cc

pub tells_before : (f : List Row → List Row) (between after : Option (List Row)) → Stays (option_map f between) after → IsSome after → IsSome between
tells_before f (Some m) after stays tells = refl
tells_before f None (Some a) stays tells = absurd (cc)
tells_before f None None stays tells = absurd (cc)

pub tells_still : (between after : Option (List Row)) → Stays between after → IsSome after → IsSome between
tells_still (Some m) after stays tells = refl
tells_still None (Some a) stays tells = absurd (cc)
tells_still None None stays tells = absurd (cc)

-- what was told to a call between was told to the end, if something was
pub told_until : (before between after : Option (List Row)) (all : List Row) → (IsSome after → IsSome between) → IsAll (told_through before between) all → IsAll (told_through before after) all
told_until before (Some m) (Some a) all tells told = told
told_until before None (Some a) all tells told = let none : IsSome {T = List Row} None = tells refl in absurd (cc)
told_until before between None all tells told = tt

-- and so was what was told from there on
pub told_since : (before between after : Option (List Row)) (all : List Row) → (IsSome after → IsSome between) → Stays before between → IsAll (told_through between after) all → IsAll (told_through before after) all
told_since (Some b) (Some m) (Some a) all tells stays told = same-some b m stays ∙ told
told_since None (Some m) (Some a) all tells stays told = tt
told_since before None (Some a) all tells stays told = let none : IsSome {T = List Row} None = tells refl in absurd (cc)
told_since before between None all tells stays told = tt

pub become_told : (before after : Option (List Row)) (rows : List Row) → IsAll (told_through before after) rows → Stays before after → BecomeRows rows before after
become_told (Some all) (Some later) rows told stays = ap Some (sym told) ∙ stays
become_told None (Some later) rows told stays = stays
become_told before None rows told stays = tt

-- the tables of an office that was opened
pub become_opened : (before after : Option (List Row)) (rows : List Row) (office : Office) → IsAll (told_through before after) rows → rows_of office ≡ opened_rows rows → Stays (option_map opened_rows before) after → BecomeRows (rows_of office) before after
become_opened (Some all) (Some later) rows office told are stays = ap Some (are ∙ ap opened_rows (sym told)) ∙ stays
become_opened None (Some later) rows office told are stays = stays
become_opened before None rows office told are stays = tt

-- they are its own
pub of_opened : (before after : Option (List Row)) (rows : List Row) (office : Office) → IsAll (told_through before after) rows → rows_of office ≡ opened_rows rows → Stays (option_map opened_rows before) after → IfSome after (λ told. told ≡ rows_of office)
of_opened (Some all) (Some later) rows office told are stays = sym (same-some (opened_rows all) later stays) ∙ ap opened_rows told ∙ sym are
of_opened None (Some later) rows office told are stays = absurd (cc)
of_opened before None rows office told are stays = tt

-- the same if the office was opened between
pub become_through : (before between after : Option (List Row)) (rows : List Row) → Stays (option_map opened_rows before) between → BecomeRows rows between after → BecomeRows rows before after
become_through (Some b) (Some m) (Some a) rows one two = two
become_through None (Some m) (Some a) rows one two = absurd (cc)
become_through before None (Some a) rows one two = absurd (cc)
become_through before between None rows one two = tt

pub opened_still : (before between after : Option (List Row)) (rows : List Row) (office : Office) → IsAll (told_through before between) rows → rows_of office ≡ opened_rows rows → Stays (option_map opened_rows before) between → BecomeRows (rows_of office) between after → Stays (option_map opened_rows before) after
opened_still (Some b) (Some m) (Some a) rows office told are one two = ap Some (ap opened_rows told ∙ sym are) ∙ two
opened_still None (Some m) (Some a) rows office told are one two = absurd (cc)
opened_still before None (Some a) rows office told are one two = absurd (cc)
opened_still before between None rows office told are one two = tt

-- ---- what becomes of them

-- nothing: the keeper was not asked
pub keeps_same : (rows : List Row) (status : ℕ) (tables : Option (List Row)) → IsAll (told_through tables tables) rows → Keeps rows status tables tables
keeps_same rows status tables told = record {
  kept = λ _. become_told tables tables rows told (stays tables);
  unread = λ _. refl;
  failed = λ _. inl (stays tables);
  one = inl (inl (stays tables));
}

-- nothing, after the input was read
pub keeps_still : (rows : List Row) (status : ℕ) (before after : Option (List Row)) → (status ≡ 3 → ⊥) → IsAll (told_through before after) rows → Stays before after → Keeps rows status before after
keeps_still rows status before after read told stays = record {
  kept = λ _. become_told before after rows told stays;
  unread = λ three. absurd (read three);
  failed = λ _. inl stays;
  one = inl (inl stays);
}

-- nor before the command was cut short
pub keeps_before : (rows : List Row) (status : ℕ) (tables : Option (List Row)) → (IsKept status → ⊥) → Keeps rows status tables tables
keeps_before rows status tables cut = record {
  kept = λ kept. absurd (cut kept);
  unread = λ _. refl;
  failed = λ _. inl (stays tables);
  one = inl (inl (stays tables));
}

-- at most the office was opened before it was
pub keeps_at_most_opened : (rows : List Row) (status : ℕ) (before after : Option (List Row)) → (IsKept status → ⊥) → (status ≡ 3 → ⊥) → AtMostOpened before after → Keeps rows status before after
keeps_at_most_opened rows status before after cut read taken = record {
  kept = λ kept. absurd (cut kept);
  unread = λ three. absurd (read three);
  failed = λ _. taken;
  one = inl taken;
}

-- the office was opened, and nothing else
pub keeps_opened : (rows : List Row) (office : Office) (status : ℕ) (before after : Option (List Row)) → (status ≡ 3 → ⊥) → IsAll (told_through before after) rows → rows_of office ≡ opened_rows rows → Stays (option_map opened_rows before) after → Keeps (rows_of office) status before after
keeps_opened rows office status before after read told are opened = record {
  kept = λ _. become_opened before after rows office told are opened;
  unread = λ three. absurd (read three);
  failed = λ _. inr opened;
  one = inl (inr opened);
}

-- ---- nothing is left open, if they are told to the end

pub kept_exact : (rows : List Row) (status : ℕ) (before after : Option (List Row)) → IsSome after → Keeps rows status before after → IsKept status → after ≡ option_map (λ _. rows) before
kept_exact rows status before after tells keeps kept = exact (option_map (λ _. rows) before) after tells (keeps.kept kept)

opened-exact : (before after : Option (List Row)) → IsSome after → AtMostOpened before after → (after ≡ before) ⊎ (after ≡ option_map opened_rows before)
opened-exact before after tells (inl same) = inl (exact before after tells same)
opened-exact before after tells (inr opened) = inr (exact (option_map opened_rows before) after tells opened)

pub failed_exact : (rows : List Row) (status : ℕ) (before after : Option (List Row)) → IsSome after → Keeps rows status before after → status ≡ 5 → (after ≡ before) ⊎ (after ≡ option_map opened_rows before)
failed_exact rows status before after tells keeps five = opened-exact before after tells (keeps.failed five)

pub one_exact : (rows : List Row) (status : ℕ) (before after : Option (List Row)) → IsSome after → Keeps rows status before after → (after ≡ before) ⊎ (after ≡ option_map opened_rows before) ⊎ (after ≡ option_map (λ _. rows) before)
one_exact rows status before after tells keeps = by keeps.one
  where
    of-opened : (after ≡ before) ⊎ (after ≡ option_map opened_rows before) → (after ≡ before) ⊎ (after ≡ option_map opened_rows before) ⊎ (after ≡ option_map (λ _. rows) before)
    of-opened (inl same) = inl same
    of-opened (inr opened) = inr (inl opened)

    by : AtMostOpened before after ⊎ BecomeRows rows before after → (after ≡ before) ⊎ (after ≡ option_map opened_rows before) ⊎ (after ≡ option_map (λ _. rows) before)
    by (inl taken) = of-opened (opened-exact before after tells taken)
    by (inr become) = inr (inr (exact (option_map (λ _. rows) before) after tells become))

-- ---- and of a command that does not use them

pub with_tables : (rows : List Row) (printout : Printout) (answer : Result Unit Stop) (before after : SinkView) (tables : Option (List Row)) → IsAll (told_through tables tables) rows → Obeys printout answer before after → Performs (leaving rows printout) answer before after tables tables
with_tables rows printout answer before after tables told obeys = record {
  obeys = obeys;
  tables = keeps_same rows (status_of answer) tables told;
}

-- ---- a text that has still to be printed

whole-0 : IsWhole 0
whole-0 = grind arith

kept-0 : IsKept 0
kept-0 = grind arith

module _ (rows : List Row) (before after : Option (List Row)) where
  pub printed_gives : (text : List ℕ) → Keeps rows 0 before after → Gives (leaving rows (printed text)) (Ok text) before after
  printed_gives text keeps = record {
    text = refl;
    ending = λ _. refl;
    nothing = λ failed _. absurd (cc);
    tables = keeps;
  }

  pub stopped_gives : (stop : Stop) → Keeps rows (ending_at stop).status before after → Gives (leaving rows (unwritten (ending_at stop))) (Err stop) before after
  stopped_gives stop keeps = record {
    text = tt;
    ending = λ _. refl;
    nothing = λ _ _. refl;
    tables = keeps;
  }

-- a command that was cut short before it had a text
pub cut_gives : (outcome : Outcome) (stop : Stop) (before after : Option (List Row)) → (IsKept (ending_at stop).status → ⊥) → Keeps outcome.rows (ending_at stop).status before after → Gives outcome (Err stop) before after
cut_gives outcome stop before after cut keeps = record {
  text = tt;
  ending = λ whole. absurd (cut (inl whole));
  nothing = λ _ whole. absurd (cut (inl whole));
  tables = keeps;
}

-- ---- and then is printed

of_printed : (outcome : Outcome) (text : List ℕ) → text ≡ outcome.output → done ≡ outcome.ending → printed text ≡ printout_of outcome
of_printed outcome text is ending = λ i. record { ending = ending i; output = is i }

still_kept : (rows : List Row) (before after : Option (List Row)) → Keeps rows 0 before after → Keeps rows 4 before after
still_kept rows before after keeps = record {
  kept = λ _. keeps.kept kept-0;
  unread = λ three. absurd (omega (arith, three));
  failed = λ five. absurd (omega (arith, five));
  one = keeps.one;
}

pub print_performs : (outcome : Outcome) (text : List ℕ) (answer : Result Unit Stop) (before after : SinkView) (tables_before tables_after : Option (List Row)) → Gives outcome (Ok text) tables_before tables_after → Obeys (printed text) answer before after → IfErr answer (λ stop. stop ≡ OutputFailed) → Performs outcome answer before after tables_before tables_after
print_performs outcome text (Ok nothing) before after tables_before tables_after gives obeys cut = record {
  obeys = subst (λ (p : Printout). Obeys p (Ok nothing) before after) (of_printed outcome text gives.text (gives.ending whole-0)) obeys;
  tables = gives.tables;
}
print_performs outcome text (Err stop) before after tables_before tables_after gives obeys cut = record {
  obeys = subst (λ (p : Printout). Obeys p (Err stop) before after) (of_printed outcome text gives.text (gives.ending whole-0)) obeys;
  tables = subst (λ (s : Stop). Keeps outcome.rows (ending_at s).status tables_before tables_after) (sym cut) (still_kept outcome.rows tables_before tables_after gives.tables);
}

pub stop_performs : (outcome : Outcome) (stop : Stop) (output : SinkView) (tables_before tables_after : Option (List Row)) → Gives outcome (Err stop) tables_before tables_after → IsUnprinted stop → Performs outcome (Err stop) output output tables_before tables_after
stop_performs outcome stop output tables_before tables_after gives unprinted = record {
  obeys = record {
    ending = gives.ending;
    whole = λ whole. sym (ap (λ part. option_map (λ bytes. bytes ++ part) output.written) (gives.nothing refl whole) ∙ behind_nothing output.written);
    front = nothing_written output.written outcome.output;
    written = λ four. absurd (omega (arith, four, unprinted));
  };
  tables = gives.tables;
}
