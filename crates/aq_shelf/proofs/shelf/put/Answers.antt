use Rattle.std.proofs.Common.{◌∙◌, ap, sym, Some, None, false, refl, List, ℕ, BTreeMap}
use Rattle.std.specs.BTreeMap.{insert_entry}
use Rattle.std.specs.declared.cmp.Reverse.{Reverse}
use Rattle.std.proofs.lemmas.Result.{err_from_is_err_and}
use Rattle.aq_base.specs.declared.observation.Observation.{Observation}
use Rattle.aq_rules.specs.Office.Office.{observation_rank, with_row}
use Rattle.aq_shelf.specs.declared.stretch.Stretch.{Stretch}
use Rattle.aq_shelf.specs.Standing.{content_at}
use Rattle.aq_shelf.specs.Stretches.{rows_of}
use Rattle.aq_shelf.proofs.Cases.{on_ok, on_err, if_err, put_or_not, IsPutFault-same}
use Rattle.aq_shelf.proofs.StretchLemmas.{found-at, content_at-found, changes-put, changed-joined, unchanged-joined, AreStretches-change, back, put-first, AreStretches-first}
use Rattle.aq_shelf.proofs.shelf.put.Goals as goal

pub returns-in-Some-clause-ok : goal.returns-in-Some-clause-ok
returns-in-Some-clause-ok c =
    on_ok c.insert.result
    (changed-joined c.args.key.now c.of.result c.of.ensures c.args.stretches.now.entries c.requires c.get_mut.ensures.ordered (with_row observation_rank (c.args.key.now, c.args.content)) (changes-put c.args.key.now c.args.content) _ c.in-Some.hours.now c.insert.new.self c.in-Some.ensures.value (c.get_mut.follows.holds c.insert.new.self).0)
    c.insert.ensures.ok

pub returns-in-Some-clause-absent : goal.returns-in-Some-clause-absent
returns-in-Some-clause-absent c =
    on_ok c.insert.result
    (λ none. content_at-found c.args.key.now c.of.result c.of.ensures c.args.stretches.now.entries c.requires c.get_mut.ensures.ordered (Some c.in-Some.hours.now) c.in-Some.ensures.value ∙ none)
    c.insert.ensures.absent

pub returns-in-Some-clause-refused : goal.returns-in-Some-clause-refused
returns-in-Some-clause-refused c =
    if_err c.insert.result
    (λ fault why. IsPutFault-same fault c.args.full c.args.full _ _ refl (sym (content_at-found c.args.key.now c.of.result c.of.ensures c.args.stretches.now.entries c.requires c.get_mut.ensures.ordered (Some c.in-Some.hours.now) c.in-Some.ensures.value)) why)
    c.insert.ensures.refused

pub returns-in-Some-clause-unchanged : goal.returns-in-Some-clause-unchanged
returns-in-Some-clause-unchanged c =
    on_err c.insert.result
    (unchanged-joined c.args.key.now c.of.result c.of.ensures c.args.stretches.now.entries c.requires c.get_mut.ensures.ordered (with_row observation_rank (c.args.key.now, c.args.content)) (changes-put c.args.key.now c.args.content) _ c.in-Some.hours.now c.insert.new.self c.in-Some.ensures.value (c.get_mut.follows.holds c.insert.new.self).0)
    c.insert.ensures.unchanged

pub returns-in-Some-clause-stretches : goal.returns-in-Some-clause-stretches
returns-in-Some-clause-stretches c =
    AreStretches-change c.args.key.now c.of.result c.of.ensures c.args.stretches.now.entries c.requires c.get_mut.ensures.ordered (with_row observation_rank (c.args.key.now, c.args.content)) (changes-put c.args.key.now c.args.content) _ c.in-Some.hours.now c.insert.new.self c.in-Some.ensures.value (c.get_mut.follows.holds c.insert.new.self).0
    (put_or_not c.insert.result c.insert.ensures.ok c.insert.ensures.unchanged)

pub returns-then-full-clause-refused : goal.returns-then-full-clause-refused
returns-then-full-clause-refused c =
    (content_at-found c.args.key.now c.of.result c.of.ensures c.args.stretches.now.entries c.requires c.get_mut.ensures.ordered None c.in-None.ensures.value, c.if-full.true)

pub returns-in_err-insert-in-None-clause-refused : goal.returns-in_err-insert-in-None-clause-refused
returns-in_err-insert-in-None-clause-refused c =
    let key = c.args.key.now in
    let p = err_from_is_err_and c.from_residual.result c.from_residual.ensures.1 in
    let same = ap (λ (hs : List (ℕ × Observation)). content_at key (rows_of key.monitor hs)) c.new-hours.ensures ∙ sym (content_at-found c.args.key.now c.of.result c.of.ensures c.args.stretches.now.entries c.requires c.get_mut.ensures.ordered None c.in-None.ensures.value) in
    rw (p.1, p.2) (IsPutFault-same c.in_err-insert-in-None.field-0.0 false c.args.full _ _ (sym c.if-full.false) same c.in_err-insert-in-None.ensures.refused)

pub returns-in-Ok-clause-ok : goal.returns-in-Ok-clause-ok
returns-in-Ok-clause-ok c =
    let rows = c.in_ok-insert-in-None.ensures.ok ∙ ap (λ (hs : List (ℕ × Observation)). with_row observation_rank (c.args.key.now, c.args.content) (rows_of c.args.key.now.monitor hs)) c.new-hours.ensures in
    let entries = c.in-Ok.ensures.entries ∙ ap (λ (m : BTreeMap (Reverse Stretch) (List (ℕ × Observation))). insert_entry back m.entries (record { 0 = c.of-in-None.result }) c.insert-in-None.new.self) c.get_mut.follows.holds-at-none in
    put-first c.args.key.now c.of-in-None.result c.of-in-None.ensures c.args.stretches.now.entries c.requires c.get_mut.ensures.ordered c.args.content c.insert-in-None.new.self c.insert-in-None-2.new.self.entries rows (found-at c.args.key.now c.of.result c.of.ensures c.args.stretches.now.entries c.requires c.get_mut.ensures.ordered None c.in-None.ensures.value) entries

pub returns-in-Ok-clause-absent : goal.returns-in-Ok-clause-absent
returns-in-Ok-clause-absent c = content_at-found c.args.key.now c.of.result c.of.ensures c.args.stretches.now.entries c.requires c.get_mut.ensures.ordered None c.in-None.ensures.value

pub returns-in-Ok-clause-stretches : goal.returns-in-Ok-clause-stretches
returns-in-Ok-clause-stretches c =
    let rows = c.in_ok-insert-in-None.ensures.ok ∙ ap (λ (hs : List (ℕ × Observation)). with_row observation_rank (c.args.key.now, c.args.content) (rows_of c.args.key.now.monitor hs)) c.new-hours.ensures in
    let entries = c.in-Ok.ensures.entries ∙ ap (λ (m : BTreeMap (Reverse Stretch) (List (ℕ × Observation))). insert_entry back m.entries (record { 0 = c.of-in-None.result }) c.insert-in-None.new.self) c.get_mut.follows.holds-at-none in
    AreStretches-first c.args.key.now c.of-in-None.result c.of-in-None.ensures c.args.stretches.now.entries c.requires c.get_mut.ensures.ordered c.args.content c.insert-in-None.new.self c.insert-in-None-2.new.self.entries rows (found-at c.args.key.now c.of.result c.of.ensures c.args.stretches.now.entries c.requires c.get_mut.ensures.ordered None c.in-None.ensures.value) entries

pub returns-clause-refused : goal.returns-clause-refused
returns-clause-refused c =
    (content_at-found c.args.key.now c.of.result c.of.ensures c.args.stretches.now.entries c.requires c.get_mut.ensures.ordered None c.in-None.ensures.value, c.if-full.false)
