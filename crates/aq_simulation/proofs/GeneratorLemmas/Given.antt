-- Which numbers have a load.
use Rattle.std.proofs.Common.{◌≡◌, ℕ, ◌<◌, ◌≤◌, Bool, true, false, cond, List, Some, None, Option, refl, ap, ◌∙◌, arith}
use Rattle.std.specs.Prelude.{◌≢◌, ◌==◌, ◌||◌, nat_lt, Result, Ok, Err, IfOk}
use Rattle.std.proofs.lemmas.Bool.Decides.{nat_tests}
use Rattle.aq_rules.specs.Shown.Generator.{generate, generated_load, load_count}

none_where : {X : Type 0} (a b : Bool) (x : Option X) → b ≡ true → None ≡ cond (a || b) None x
none_where true b x h = refl
none_where false true x h = refl
none_where false false x h = cc

some_where : {X : Type 0} (a b : Bool) (x : Option X) → a ≡ false → b ≡ false → x ≡ cond (a || b) None x
some_where true b x h k = cc
some_where false true x h k = cc
some_where false false x h k = refl

pub none-zero : (start sites years load : ℕ) → load ≡ 0 → None ≡ generate start sites years load
unfolding generate
none-zero start sites years load is = rw is refl

pub none-beyond : (start sites years load count : ℕ) → count ≡ load_count sites years → count < load → None ≡ generate start sites years load
unfolding generate
none-beyond start sites years load count is above =
    let t : nat_lt (load_count sites years) load ≡ true = rw (← is) (grind (arith, nat_tests)) in
    none_where (load == 0) (nat_lt (load_count sites years) load) (Some (generated_load start sites years load)) t

pub some-given : (start sites years load count : ℕ) (text : List ℕ) → load ≢ 0 → count ≡ load_count sites years → load ≤ count
    → text ≡ generated_load start sites years load → Some text ≡ generate start sites years load
unfolding generate
some-given start sites years load count text some is within written =
    let first : (load == 0) ≡ false = grind (arith, nat_tests) in
    let last : nat_lt (load_count sites years) load ≡ false = rw (← is) (grind (arith, nat_tests)) in
    ap (λ (t : List ℕ). Some t) written
    ∙ some_where (load == 0) (nat_lt (load_count sites years) load) (Some (generated_load start sites years load)) first last

-- what holds of a result's value holds of it weaker
pub if_ok-weaker : {A E : Type 0} (result : Result A E) (P Q : A → Type 0) → ((a : A) → P a → Q a) → IfOk result P → IfOk result Q
if_ok-weaker (Ok a) P Q weaker h = weaker a h
if_ok-weaker (Err e) P Q weaker h = tt
