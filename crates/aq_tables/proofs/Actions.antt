-- A write is its edit and then the actions of foreign keys, which leave each table alone that has none; an INSERT sets off none.
use Rattle.std.proofs.Common.{◌≡◌, ◌≢◌, inl, inr, ℕ, ℤ, zero, suc, ◌+◌, ◌==◌, ◌&&◌, if◌then◌else◌, slice_get, List, [], ◌∷◌, ◌++◌, Bool, true, false, Option, Some, None, Ok, refl, sym, ap, subst, ◌∙◌}
use Rattle.std.specs.List.{AllByRecursion, flat_map, filter_map}
use Rattle.std.specs.List.{cons_option}
use Rattle.std.proofs.lemmas.Bool.{cases_Bool}
use Rattle.aq_tables.specs.Standing.{IsChildless}
use Rattle.sqlite.specs.Order.{Row}
use Rattle.sqlite.specs.Schema.{Schema}
use Rattle.sqlite.specs.Table.{Table}
use Rattle.sqlite.specs.Tree.{Trees}
use Rattle.sqlite_schema.specs.declared.schema.Keys.{Keys}
use Rattle.sqlite_schema.specs.declared.schema.Reference.{Reference}
use Rattle.sqlite_schema.specs.Rules.{ParentKey, parent_key}
use Rattle.sqlite_rules.specs.declared.action.Deed.{Deed}
use Rattle.sqlite_rules.specs.Edit.{Edit, Applies, taken_by}
use Rattle.sqlite_keyed.proofs.ListLemmas.{flat_map_none}
use Rattle.sqlite_rules.specs.Action.{Work, work_by, work_for, works, deed_for, pairs, End, Leads, Goes, ActsOn, Writes, Settles, action_edit, refuses, max_depth}
use Rattle.std.specs.Prelude.{nat_lt, length}

all_at : {X : Type 0} (P : X → Type 0) (xs : List X) (at : ℕ) (x : X) → slice_get xs at ≡ Some x → AllByRecursion P xs → P x
all_at P [] at x is all = absurd cc
all_at P (y ∷ xs) zero x is all = let same : y ≡ x = cc in rw same at all.0
all_at P (y ∷ xs) (suc at) x is all = all_at P xs at x is all.1

module _ (tree : ℕ) where
  -- none of the actions is on the tree
  abbrev pub AreElsewhere : List Work → Type 0
  AreElsewhere = AllByRecursion (λ w. w.child.tree ≢ tree)

  elsewhere-append : (a b : List Work) → AreElsewhere a → AreElsewhere b → AreElsewhere (a ++ b)
  elsewhere-append [] b p q = q
  elsewhere-append (w ∷ a) b p q = (p.0, elsewhere-append a b p.1 q)

  elsewhere-front : (a b : List Work) → AreElsewhere (a ++ b) → AreElsewhere a × AreElsewhere b
  elsewhere-front [] b p = (tt, p)
  elsewhere-front (w ∷ a) b p = let more = elsewhere-front a b p.1 in ((p.0, more.0), more.1)

  option_elsewhere : Option Work → Type 0
  option_elsewhere None = Unit {0}
  option_elsewhere (Some w) = w.child.tree ≢ tree

  if_elsewhere : (b : Bool) (w : Work) → w.child.tree ≢ tree → option_elsewhere (if b then Some w else None)
  unfolding option_elsewhere
  if_elsewhere true w apart = apart
  if_elsewhere false w apart = tt

  work_elsewhere : (depth at : ℕ) (moves : List (Row × Row)) (child : Table) (ref : Reference) (deed : Option Deed) (key : Option ParentKey) → child.tree ≢ tree → option_elsewhere (work_by depth at moves child ref deed key)
  unfolding option_elsewhere
  work_elsewhere depth at moves child ref None key apart = tt
  work_elsewhere depth at moves child ref (Some deed) None apart = tt
  work_elsewhere depth at moves child ref (Some deed) (Some key) apart = if_elsewhere _ _ apart

  if_there : {X : Type 0} (f : X → Option Work) (xs : List X) (o : Option Work) → option_elsewhere o → AreElsewhere (filter_map f xs) → AreElsewhere (cons_option o (filter_map f xs))
  unfolding option_elsewhere
  if_there f xs None apart more = more
  if_there f xs (Some w) apart more = (apart, more)

  filtered : {X : Type 0} (f : X → Option Work) (xs : List X) → ((x : X) → option_elsewhere (f x)) → AreElsewhere (filter_map f xs)
  filtered f [] all = tt
  filtered f (x ∷ xs) all = if_there f xs (f x) (all x) (filtered f xs all)

  module _ (schema : Schema) (keys : Keys) where
    works_of : (depth at : ℕ) (olds news : List Row) (child : Table) (refs : List Reference) → (child.tree ≡ tree → refs ≡ []) → AreElsewhere (filter_map (work_for schema keys depth at olds news child) refs)
    works_of depth at olds news child [] childless = tt
    works_of depth at olds news child (r ∷ refs) childless =
        filtered _ (r ∷ refs) (λ ref. work_elsewhere depth at (pairs olds news) child ref (deed_for keys (length news == 0) ref) (parent_key schema.tables ref) (λ same. absurd (let e = childless same in cc)))

    works_over : (depth at : ℕ) (olds news : List Row) (tables : List Table) → AllByRecursion (IsChildless tree) tables → AreElsewhere (flat_map (λ child. filter_map (work_for schema keys depth at olds news child) child.references) tables)
    works_over depth at olds news [] childless = tt
    works_over depth at olds news (t ∷ tables) childless = elsewhere-append _ _ (works_of depth at olds news t t.references childless.0) (works_over depth at olds news tables childless.1)

    module _ (childless : AllByRecursion (IsChildless tree) schema.tables) (at : ℕ) (table : Table) (stands : slice_get schema.tables at ≡ Some table) (its : table.tree ≡ tree) where
      edit_keeps : (db next : Trees) (edit : Edit) → edit.table.tree ≢ tree → Applies schema keys db edit next → next tree ≡ db tree
      edit_keeps db next edit apart applies = rw its at (all_at _ schema.tables at table stands applies.tables (λ same. apart (sym same ∙ its)))

      goes_keep : (Next : Trees → List Work → End → Type 0) (next : Trees) → ((db : Trees) (stack : List Work) → AreElsewhere stack → Next db stack (Ok next) → next tree ≡ db tree)
          → (db : Trees) (edit : Edit) (depth : ℕ) (below : List Work) → edit.table.tree ≢ tree → AreElsewhere below → Goes schema keys Next db edit depth below (Ok next) → next tree ≡ db tree
      goes_keep Next next more db edit depth below apart others (inl refused) = absurd (let e = refused.2 in cc)
      goes_keep Next next more db edit depth below apart others (inr (inl big)) = absurd (let e = big.3 in cc)
      goes_keep Next next more db edit depth below apart others (inr (inr went)) =
          more went.0 _ (elsewhere-append below _ others (works_over depth edit.table.tree (taken_by db edit) edit.news schema.tables childless)) went.2 ∙ edit_keeps db went.0 edit apart went.1

      acts_keep : (Next : Trees → List Work → End → Type 0) (next : Trees) → ((db : Trees) (stack : List Work) → AreElsewhere stack → Next db stack (Ok next) → next tree ≡ db tree)
          → (db : Trees) (w : Work) (below : List Work) (ids : List ℤ) → w.child.tree ≢ tree → AreElsewhere below → ActsOn schema keys Next db w below (Ok next) ids → next tree ≡ db tree
      acts_keep Next next more db w below [] apart others acts = more db below others acts
      acts_keep Next next more db w below (id ∷ ids) apart others acts = elim (cases_Bool (refuses w.deed)) [
        | inl refuses ↦ absurd (let e = rw refuses at acts in cc)
        | inr acts_on ↦ goes_keep Next next more db (action_edit db w (id ∷ ids)) (w.depth + 1) below apart others (rw acts_on at acts)
      ]

      leads_keep : (n : ℕ) (next db : Trees) (stack : List Work) → AreElsewhere stack → Leads schema keys n db stack (Ok next) → next tree ≡ db tree
      leads_keep zero next db stack apart leads = let e = leads.1 in let same : next ≡ db = cc in ap (λ (t : Trees). t tree) same
      leads_keep (suc n) next db stack apart leads =
          let parts = elsewhere-front leads.0 (leads.1 ∷ []) (rw leads.2 at apart) in
          elim (cases_Bool (nat_lt (leads.1).depth max_depth)) [
            | inl shallow ↦ (let acts = rw shallow at leads.3 in acts_keep (Leads schema keys n) next (leads_keep n next) db leads.1 leads.0 acts.0 parts.1.0 parts.0 acts.2)
            | inr deep ↦ absurd (let e = rw deep at leads.3 in cc)
          ]

      -- the table has what the edit of another table leaves of it, or what its own does
      pub others_keep : (db next : Trees) (edit : Edit) → edit.table.tree ≢ tree → Writes schema keys db edit (Ok next) → next tree ≡ db tree
      others_keep db next edit apart writes = goes_keep (Settles schema keys) next (λ db stack elsewhere settles. leads_keep settles.0 next db stack elsewhere settles.1) db edit 0 [] apart tt writes

      pub own_edit : (db next : Trees) (edit : Edit) → Writes schema keys db edit (Ok next) → (first : Trees) × Applies schema keys db edit first × (next tree ≡ first tree)
      own_edit db next edit (inl refused) = absurd (let e = refused.2 in cc)
      own_edit db next edit (inr (inl big)) = absurd (let e = big.3 in cc)
      own_edit db next edit (inr (inr went)) =
          (went.0, went.1, leads_keep went.2.0 next went.0 _ (works_over 0 edit.table.tree (taken_by db edit) edit.news schema.tables childless) went.2.1)

-- ---- an edit that takes no row out

no_work : (depth at : ℕ) (child : Table) (ref : Reference) (deed : Option Deed) (key : Option ParentKey) → work_by depth at [] child ref deed key ≡ None
no_work depth at child ref None key = refl
no_work depth at child ref (Some deed) None = refl
no_work depth at child ref (Some deed) (Some key) = none_if (key.0 == at) _
  where
    none_if : {X : Type 0} (b : Bool) (x : X) → ◌≡◌ {A = Option X} (if b && false then Some x else None) None
    none_if true x = refl
    none_if false x = refl

none_filtered : {X Y : Type 0} (f : X → Option Y) (xs : List X) → ((x : X) → f x ≡ None) → filter_map f xs ≡ []
none_filtered f [] none = refl
none_filtered f (x ∷ xs) none = rw (none x) (none_filtered f xs none)

no_end : {X : Type 0} (xs : List X) (x : X) → [] ≡ xs ++ x ∷ [] → ⊥
no_end [] x is = absurd cc
no_end (y ∷ xs) x is = absurd cc

module _ (schema : Schema) (keys : Keys) where
  no_works : (depth at : ℕ) (news : List Row) → works schema keys depth at [] news ≡ []
  no_works depth at news =
      flat_map_none _ (λ (child : Table). none_filtered (work_for schema keys depth at [] news child) child.references (λ ref. no_work depth at child ref (deed_for keys (length news == 0) ref) (parent_key schema.tables ref))) schema.tables

  settled : (n : ℕ) (next db : Trees) → Leads schema keys n db [] (Ok next) → next ≡ db
  settled zero next db leads = let e = leads.1 in cc
  settled (suc n) next db leads = absurd (no_end leads.0 leads.1 leads.2)

  -- each other table has the rows that it had
  pub inserts_keep : (db next : Trees) (table : Table) (news : List Row) → Writes schema keys db (record { table = table; gone = []; news = news }) (Ok next)
      → AllByRecursion (λ (t : Table). t.tree ≢ table.tree → next t.tree ≡ db t.tree) schema.tables
  inserts_keep db next table news (inl refused) = absurd (let e = refused.2 in cc)
  inserts_keep db next table news (inr (inl big)) = absurd (let e = big.3 in cc)
  inserts_keep db next table news (inr (inr went)) =
      let ends = subst (λ (stack : List Work). Settles schema keys went.0 stack (Ok next)) (no_works 0 table.tree news) went.2 in
      let same = settled ends.0 next went.0 ends.1 in
      subst (λ (now : Trees). AllByRecursion (λ (t : Table). t.tree ≢ table.tree → now t.tree ≡ db t.tree) schema.tables) (sym same) went.1.tables
