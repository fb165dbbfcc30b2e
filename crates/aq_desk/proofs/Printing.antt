-- A text that is printed over the tables, or was not made.
use Rattle.std.proofs.Common.{◌≡◌, ℕ, ◌⊎◌, inl, inr, refl, List, Option, sym, subst, arith}
use Rattle.std.specs.Prelude.{Result, Ok, Err, IfErr, IsErrAnd}
use Rattle.aq_keeper.specs.Told.{told_through}
use Rattle.aq_rules.specs.Kept.Rows.{Row}
use Rattle.aq_desk.proofs.Tables.{print_performs, stop_performs}
use Rattle.aq_desk.proofs.Unread.{stays_at, stopped_by}
use Rattle.aq_desk.specs.Command.{Outcome, RisesAt, WritesNothing, printed}
use Rattle.aq_outside.specs.Outside.{OfTold, SinkView}
use Rattle.aq_desk.specs.Stop.{Gives, IsCutShort, IsUnprinted, Obeys, Performs, ending_at, status_of}
use Rattle.aq_desk.specs.declared.stop.Stop.{Stop}
use Rattle.aq_desk.specs.declared.stop.Stop.TheVariants.{OutputFailed}

-- ---- a command that was stopped before it printed

module _ (stop : Stop) (answer : Result Unit Stop) (is : IsErrAnd answer (λ why. why ≡ stop)) (unprinted : IsUnprinted stop) where
  pub stopped_over : (outcome : List Row → Outcome) (output : SinkView) (before after : Option (List Row)) → OfTold (told_through before after) (λ rows. Gives (outcome rows) (Err stop) before after) → OfTold (told_through before after) (λ rows. Performs (outcome rows) answer output output before after)
  stopped_over outcome output before after over =
      let P = λ (r : Result Unit Stop). OfTold (told_through before after) (λ rows. Performs (outcome rows) r output output before after) in
      subst P (sym (stopped_by answer stop is))
      (record { all = over.all; is_all = over.is_all; says = stop_performs (outcome over.all) stop output before after over.says unprinted })

  pub stopped_read : (status_of answer ≡ 3 → ⊥) × (status_of answer ≡ 10 → ⊥)
  stopped_read =
      let P = λ (r : Result Unit Stop). (status_of r ≡ 3 → ⊥) × (status_of r ≡ 10 → ⊥) in
      subst P (sym (stopped_by answer stop is)) ((λ three. omega (arith, three, unprinted)), (λ ten. omega (arith, ten, unprinted)))

  pub stopped_door : status_of answer ≡ 8 → ⊥
  stopped_door =
      let P = λ (r : Result Unit Stop). status_of r ≡ 8 → ⊥ in
      subst P (sym (stopped_by answer stop is)) (λ eight. omega (arith, eight, unprinted))

  pub stopped_output : (count : ℕ) → RisesAt 4 (status_of answer) count count
  stopped_output count =
      let P = λ (r : Result Unit Stop). RisesAt 4 (status_of r) count count in
      subst P (sym (stopped_by answer stop is)) (stays_at 4 (ending_at stop).status count (λ four. omega (arith, four, unprinted)))

  pub stopped_keeper : (m n : ℕ) → RisesAt 5 (ending_at stop).status m n → RisesAt 5 (status_of answer) m n
  stopped_keeper m n rises =
      let P = λ (r : Result Unit Stop). RisesAt 5 (status_of r) m n in
      subst P (sym (stopped_by answer stop is)) rises

-- ---- one that printed its text, all of it or a front

printed-status : (answer : Result Unit Stop) (Says : ℕ → Type 0) → IfErr answer (λ stop. stop ≡ OutputFailed) → Says 0 → Says 4 → Says (status_of answer)
printed-status (Ok nothing) Says cut whole front = whole
printed-status (Err stop) Says cut whole front = subst (λ (s : Stop). Says (ending_at s).status) (sym cut) front

module _ (answer : Result Unit Stop) (cut : IfErr answer (λ stop. stop ≡ OutputFailed)) where
  pub printed_over : (outcome : List Row → Outcome) (text shown : List ℕ) (before after : SinkView) (tables_before tables_after : Option (List Row)) → shown ≡ text → OfTold (told_through tables_before tables_after) (λ rows. Gives (outcome rows) (Ok text) tables_before tables_after) → Obeys (printed shown) answer before after → OfTold (told_through tables_before tables_after) (λ rows. Performs (outcome rows) answer before after tables_before tables_after)
  printed_over outcome text shown before after tables_before tables_after same over obeys =
      let P = λ (t : List ℕ). Obeys (printed t) answer before after in
      record { all = over.all; is_all = over.is_all; says = print_performs (outcome over.all) text answer before after tables_before tables_after over.says (subst P same obeys) cut }

  pub printed_read : (status_of answer ≡ 3 → ⊥) × (status_of answer ≡ 10 → ⊥)
  printed_read = printed-status answer (λ status. (status ≡ 3 → ⊥) × (status ≡ 10 → ⊥)) cut ((λ three. omega (arith, three)), (λ ten. omega (arith, ten))) ((λ three. omega (arith, three)), (λ ten. omega (arith, ten)))

  pub printed_door : status_of answer ≡ 8 → ⊥
  printed_door = printed-status answer (λ status. status ≡ 8 → ⊥) cut (λ eight. omega (arith, eight)) (λ eight. omega (arith, eight))

  pub printed_keeper : (m n : ℕ) → RisesAt 5 0 m n → RisesAt 5 (status_of answer) m n
  printed_keeper m n rises =
      let same : n ≡ m = rises.stays (λ five. omega (arith, five)) in
      printed-status answer (λ status. RisesAt 5 status m n) cut rises (record { rises = λ five. absurd (omega (arith, five)); stays = λ _. same })

  pub printed_silent : WritesNothing (status_of answer) → ⊥
  printed_silent = printed-status answer (λ status. WritesNothing status → ⊥) cut (λ nothing. omega (arith, nothing)) (λ nothing. omega (arith, nothing))

-- ---- one that was cut short, or was not

pub cut_status : (answer : Result Unit Stop) → IfErr answer IsCutShort → (status_of answer ≡ 0) ⊎ (status_of answer ≡ 4) ⊎ (status_of answer ≡ 7)
cut_status (Ok nothing) cut = inl refl
cut_status (Err stop) cut = inr cut
