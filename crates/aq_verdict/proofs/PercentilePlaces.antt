-- The percentile among the greatest values and copies is that of the whole list.
use Rattle.std.proofs.Common.{◌≡◌, ℕ, ◌+◌, ◌-◌, ◌<◌, ◌≤◌, ◌==◌, true, cond, List, [], ◌∷◌, ◌++◌, length, take, get_or, All, subst, refl, sym, ap, ◌∙◌, arith}
use Rattle.std.specs.Prelude.{Option, Some, None, IfSome, option_map, ℤ, slice_get, IsPermutation}
use Rattle.std.specs.List.{flat_map}
use Rattle.std.proofs.lemmas.List.{append_assoc, append-nil, length-append, length-replicate}
use Rattle.std.proofs.lemmas.List.Elements.{All-head, All-tail}
use Rattle.std.proofs.lemmas.List.Sorted.{IsPermutation-append_comm}
use Rattle.aq_rules.specs.Lists.{ranked, all_of}
use Rattle.aq_rules.specs.Particles.Percentile.{rank_of, percentile}
use Rattle.aq_rules.specs.Kept.Summaries.{PmQuarter, PmYear, KeepsPmQuarter, KeepsPmYear, scheduled_in, falls}
use Rattle.aq_rules.specs.Kept.SummaryVerdicts.{kept_counted}
use Rattle.aq_verdict.specs.declared.substitution.Copies.{Copies}
use Rattle.aq_verdict.specs.Inserted.{inserted}
use Rattle.aq_verdict.specs.Filled.{copies_of, FillsUp}
use Rattle.aq_verdict.specs.Ranks.{percentile_in, counted_with}
use Rattle.aq_verdict.proofs.Inserted.{take-inserted, inserted-append, ranked-inserted, ranked-itself, take-at}
use Rattle.aq_verdict.proofs.Rows.{four-of}

-- copies of four quarters, one after another
four_lists : (a b c d : List ℤ) → ((a ++ b) ++ c) ++ d ≡ a ++ (b ++ (c ++ (d ++ [])))
four_lists a b c d =
    append_assoc (a ++ b) c d ∙ append_assoc a b (c ++ d) ∙ ap (λ l. a ++ (b ++ (c ++ l))) (sym (append-nil d))

pub four-copies : (a b c d top : List ℤ) → take 8 (inserted a (take 8 (inserted b (take 8 (inserted c (take 8 (inserted d top))))))) ≡ take 8 (inserted (a ++ (b ++ (c ++ (d ++ [])))) top)
four-copies a b c d top =
    take-inserted 8 a (inserted b (take 8 (inserted c (take 8 (inserted d top)))))
    ∙ ap (take 8) (inserted-append a b (take 8 (inserted c (take 8 (inserted d top)))))
    ∙ take-inserted 8 (a ++ b) (inserted c (take 8 (inserted d top)))
    ∙ ap (take 8) (inserted-append (a ++ b) c (take 8 (inserted d top)))
    ∙ take-inserted 8 ((a ++ b) ++ c) (inserted d top)
    ∙ ap (take 8) (inserted-append ((a ++ b) ++ c) d top)
    ∙ ap (λ l. take 8 (inserted l top)) (four_lists a b c d)

-- the four elements of a list of four, joined from the last one
pub top-of-four : (cs : List Copies) (a b c d : Copies) (top own t1 t2 t3 t4 : List ℤ) → length cs ≡ 4 → own ≡ top
    → t1 ≡ take 8 (inserted (copies_of (get_or cs 3 d)) own) → t2 ≡ take 8 (inserted (copies_of (get_or cs 2 c)) t1)
    → t3 ≡ take 8 (inserted (copies_of (get_or cs 1 b)) t2) → t4 ≡ take 8 (inserted (copies_of (get_or cs 0 a)) t3)
    → t4 ≡ take 8 (inserted (flat_map copies_of cs) top)
top-of-four cs a b c d top own t1 t2 t3 t4 four is_own is1 is2 is3 is4 =
    let p = copies_of (get_or cs 0 a) in
    let q = copies_of (get_or cs 1 b) in
    let r = copies_of (get_or cs 2 c) in
    let s = copies_of (get_or cs 3 d) in
    is4 ∙ ap (λ l. take 8 (inserted p l)) (is3 ∙ ap (λ l. take 8 (inserted q l)) (is2 ∙ ap (λ l. take 8 (inserted r l)) (is1 ∙ ap (λ l. take 8 (inserted s l)) is_own)))
    ∙ four-copies p q r s top ∙ ap (λ l. take 8 (inserted (flat_map copies_of l) top)) (sym (four-of cs a b c d four))

pub rank-below : (n : ℕ) → n ≤ 400 → rank_of n - 1 < 8
rank-below n few = omega (arith, few)

-- the percentile among the greatest values and the copies is that of the whole list
pub percentile-places : (top copies : List ℤ) (n : ℕ) → ((a b : List ℤ) → IsPermutation a b → ranked a ≡ ranked b) → falls top ≡ true → n ≤ 400
    → percentile_in (take 8 (inserted copies top)) n ≡ percentile (top ++ copies) n
percentile-places top copies n forgets down few =
    let all : inserted copies top ≡ ranked (top ++ copies) =
    ap (inserted copies) (sym (ranked-itself top down)) ∙ sym (ranked-inserted copies top)
    ∙ forgets (copies ++ top) (top ++ copies) (IsPermutation-append_comm copies top)
    in
    ap (λ o. cond (n == 0) None o) (take-at 8 (rank_of n - 1) (inserted copies top) (rank-below n few) ∙ ap (λ l. slice_get l (rank_of n - 1)) all)

-- without copies
pub percentile-itself : (top : List ℤ) (n m : ℕ) → falls top ≡ true → n ≡ m → percentile_in top n ≡ percentile (top ++ []) m
percentile-itself top n m down same =
    ap (λ l. cond (n == 0) None (slice_get l (rank_of n - 1))) (sym (ap ranked (append-nil top) ∙ ranked-itself top down)) ∙ ap (percentile (top ++ [])) same

-- ---- counted samples are few

pub counted-few : (qs : List PmQuarter) → length qs ≡ 4 → All KeepsPmQuarter qs → scheduled_in qs ≤ 366 → kept_counted qs ≤ 366
counted-few (p ∷ q ∷ r ∷ s ∷ []) four each most =
    let first = All-head KeepsPmQuarter p (q ∷ r ∷ s ∷ []) each in
    let others = All-tail KeepsPmQuarter p (q ∷ r ∷ s ∷ []) each in
    let second = All-head KeepsPmQuarter q (r ∷ s ∷ []) others in
    let last_two = All-tail KeepsPmQuarter q (r ∷ s ∷ []) others in
    let third = All-head KeepsPmQuarter r (s ∷ []) last_two in
    let fourth = All-head KeepsPmQuarter s [] (All-tail KeepsPmQuarter r (s ∷ []) last_two) in
    omega (arith, most, first.counted, first.creditable, second.counted, second.creditable, third.counted, third.creditable, fourth.counted, fourth.creditable)
counted-few [] four each most = absurd (omega (arith, four))
counted-few (p ∷ []) four each most = absurd (omega (arith, four))
counted-few (p ∷ q ∷ []) four each most = absurd (omega (arith, four))
counted-few (p ∷ q ∷ r ∷ []) four each most = absurd (omega (arith, four))
counted-few (p ∷ q ∷ r ∷ s ∷ t ∷ qs) four each most = absurd (omega (arith, four))

copies-number : (a b c d : Copies) → length (flat_map copies_of (a ∷ b ∷ c ∷ d ∷ [])) ≡ a.number + b.number + c.number + d.number
copies-number a b c d =
    let e1 = length-append (copies_of a) (copies_of b ++ (copies_of c ++ (copies_of d ++ []))) in
    let e2 = length-append (copies_of b) (copies_of c ++ (copies_of d ++ [])) in
    let e3 = length-append (copies_of c) (copies_of d ++ []) in
    let e4 = length-append (copies_of d) [] in
    let n1 = length-replicate a.number a.value in
    let n2 = length-replicate b.number b.value in
    let n3 = length-replicate c.number c.value in
    let n4 = length-replicate d.number d.value in
    omega (arith, e1, e2, e3, e4, n1, n2, n3, n4)

pub copies-number-of : (cs : List Copies) (a b c d : Copies) → length cs ≡ 4
    → (get_or cs 0 a).number + (get_or cs 1 b).number + (get_or cs 2 c).number + (get_or cs 3 d).number ≡ length (flat_map copies_of cs)
copies-number-of cs a b c d four =
    sym (ap (λ l. length (flat_map copies_of l)) (four-of cs a b c d four) ∙ copies-number (get_or cs 0 a) (get_or cs 1 b) (get_or cs 2 c) (get_or cs 3 d))

filled-few : (p q r s : PmQuarter) (a b c d : Option Copies) → scheduled_in (p ∷ q ∷ r ∷ s ∷ []) ≤ 366
    → IfSome a (FillsUp p) → IfSome b (FillsUp q) → IfSome c (FillsUp r) → IfSome d (FillsUp s)
    → IfSome (all_of (a ∷ b ∷ c ∷ d ∷ [])) (λ copies. counted_with (p ∷ q ∷ r ∷ s ∷ []) copies ≤ 400)
filled-few p q r s None b c d most ha hb hc hd = tt
filled-few p q r s (Some a) None c d most ha hb hc hd = tt
filled-few p q r s (Some a) (Some b) None d most ha hb hc hd = tt
filled-few p q r s (Some a) (Some b) (Some c) None most ha hb hc hd = tt
filled-few p q r s (Some a) (Some b) (Some c) (Some d) most ha hb hc hd =
    omega (arith, copies-number a b c d, most, ha.scheduled, hb.scheduled, hc.scheduled, hd.scheduled)

pub filled-year-few : (year : PmYear) (qs : List PmQuarter) (p q r s : PmQuarter) (a b c d : Option Copies) (result : Option (List Copies)) → KeepsPmYear year → qs ≡ year.quarters
    → result ≡ all_of (a ∷ b ∷ c ∷ d ∷ [])
    → IfSome a (FillsUp (get_or qs 0 p)) → IfSome b (FillsUp (get_or qs 1 q)) → IfSome c (FillsUp (get_or qs 2 r)) → IfSome d (FillsUp (get_or qs 3 s))
    → IfSome result (λ copies. counted_with year.quarters copies ≤ 400)
filled-year-few year qs p q r s a b c d result keeps same is ha hb hc hd =
    let all : year.quarters ≡ get_or qs 0 p ∷ get_or qs 1 q ∷ get_or qs 2 r ∷ get_or qs 3 s ∷ [] = sym same ∙ four-of qs p q r s (ap length same ∙ keeps.four) in
    let most : scheduled_in (get_or qs 0 p ∷ get_or qs 1 q ∷ get_or qs 2 r ∷ get_or qs 3 s ∷ []) ≤ 366 = subst (λ l. scheduled_in l ≤ 366) all keeps.scheduled in
    rw is
    (subst (λ l. IfSome (all_of (a ∷ b ∷ c ∷ d ∷ [])) (λ copies. counted_with l copies ≤ 400)) (sym all)
    (filled-few (get_or qs 0 p) (get_or qs 1 q) (get_or qs 2 r) (get_or qs 3 s) a b c d most ha hb hc hd))

-- ---- the copies of four quarters

pub all-copies : (a b c d : Option Copies)
    → option_map (flat_map copies_of) (all_of (a ∷ b ∷ c ∷ d ∷ [])) ≡ option_map (flat_map (λ copies. copies)) (all_of (option_map copies_of a ∷ option_map copies_of b ∷ option_map copies_of c ∷ option_map copies_of d ∷ []))
all-copies None b c d = refl
all-copies (Some a) None c d = refl
all-copies (Some a) (Some b) None d = refl
all-copies (Some a) (Some b) (Some c) None = refl
all-copies (Some a) (Some b) (Some c) (Some d) = refl
