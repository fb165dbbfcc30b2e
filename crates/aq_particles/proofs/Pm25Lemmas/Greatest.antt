-- The eight greatest values: more values join them.
use Rattle.std.proofs.Common.{◌≡◌, List, [], ◌∷◌, ◌++◌, take, sym, ap, ◌∙◌, append_assoc}
use Rattle.std.specs.Prelude.{ℤ}
use Rattle.std.proofs.lemmas.List.{append-nil}
use Rattle.std.proofs.lemmas.List.Sorted.{IsPermutation-to_front}
use Rattle.aq_rules.specs.Kept.Summaries.{eight_greatest}
use Rattle.aq_rules.specs.Lists.{ranked, ranked_in}
use Rattle.aq_rules.proofs.Ranked.{ranked-in_any_order}
use Rattle.aq_verdict.proofs.Inserted.{take-inserted}
use Rattle.aq_particles.specs.Pm25.QuarterValues.{top_after}

-- one more value of all
one-joins : (values : List ℤ) (v : ℤ) → take 8 (ranked_in v (eight_greatest values)) ≡ eight_greatest (values ++ v ∷ [])
unfolding ranked
one-joins values v =
    take-inserted 8 (v ∷ []) (ranked values)
    ∙ ap (take 8) (sym (ranked-in_any_order (values ++ v ∷ []) (v ∷ values) (IsPermutation-to_front values v)))

-- more values of all
pub all-join : (before values : List ℤ) → top_after (eight_greatest before) values ≡ eight_greatest (before ++ values)
all-join before [] = ap eight_greatest (sym (append-nil before))
all-join before (v ∷ values) =
    ap (λ top. top_after top values) (one-joins before v)
    ∙ all-join (before ++ v ∷ []) values ∙ ap eight_greatest (append_assoc before (v ∷ []) values)
