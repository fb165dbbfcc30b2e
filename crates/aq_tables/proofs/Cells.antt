-- Cells of a row: tests, casts and orders of integers and texts.
use Rattle.std.proofs.Common.{◌≡◌, ℕ, ℤ, pos, List, map, Some, Bool, true, false, ◌&&◌, cond, refl, ap, ◌∙◌, is_eq, Option, None}
use Rattle.std.specs.Ordering.{nat_cmp, int_eq}
use Rattle.std.specs.Cmp.Lexicographic.{slice_cmp}
use lib.Pointwise.{pointwise}
use Rattle.sqlite.specs.declared.types.Value.{Value}
use Rattle.sqlite.specs.declared.types.Value.TheVariants.{Null, Int}
use Rattle.sqlite.specs.Kind.TheVariants.{Integer}
use Rattle.sqlite.specs.Ops.{unary, is_true, from_truth}
use Rattle.sqlite.specs.Cast.{cast}
use Rattle.aq_keeper.proofs.KeyOrder.{cmp-texts, same-columns}
use Rattle.aq_tables.specs.Told.{cell, optional}

-- ---- what a test of WHERE keeps

pub one_kept : (a : Bool) → (is_true (from_truth (Some a)) && true) ≡ (a && true)
one_kept true = refl
one_kept false = refl

pub two_kept : (a b : Bool) → (is_true (from_truth (Some a)) && (is_true (from_truth (Some b)) && true)) ≡ (a && b)
two_kept true true = refl
two_kept true false = refl
two_kept false b = refl

pub kept : (a : Bool) → is_true (from_truth (Some a)) ≡ a
kept true = refl
kept false = refl

pub four_kept : (a b c d : Bool)
    → (is_true (from_truth (Some a)) && (is_true (from_truth (Some b)) && (is_true (from_truth (Some c)) && (is_true (from_truth (Some d)) && true)))) ≡ (a && (b && (c && (d && true))))
four_kept a b c d = λ i. kept a i && (kept b i && (kept c i && (kept d i && true)))

-- ---- casts

either : (b : Bool) (x : Value) → cond b x x ≡ x
either true x = refl
either false x = refl

pub cast_int : (n : ℤ) → cast Integer (Int n) ≡ Int n
unfolding unary
cast_int n = either _ (Int n)

pub cast_null : cast Integer Null ≡ Null
unfolding unary
cast_null = either _ Null

-- ---- texts

pub same-texts : (xs ys : List ℕ) → is_eq (slice_cmp nat_cmp xs ys) ≡ pointwise int_eq (map pos xs) (map pos ys)
same-texts xs ys = ap is_eq (cmp-texts xs ys) ∙ same-columns (map pos xs) (map pos ys)

-- ---- a number that may be missing

pub cast_cell : (v : Option ℤ) → cast Integer (cell v) ≡ cell v
cast_cell None = cast_null
cast_cell (Some n) = cast_int n

pub optional_cell : (v : Option ℤ) → optional (cell v) ≡ v
optional_cell None = refl
optional_cell (Some n) = refl
