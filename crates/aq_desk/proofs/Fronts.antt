-- A text that is written piece by piece.
use Rattle.std.proofs.Common.{◌≡◌, ℕ, ◌+◌, ◌-◌, length, arith, List, [], ◌++◌, take, drop, Option, Some, None, refl, sym, ap, ◌∙◌, append_assoc}
use Rattle.std.specs.Option.{option_map}
use Rattle.std.proofs.lemmas.List.{append-nil, take_all, length-drop}
use Rattle.std.proofs.Math.Seq.{take-add}

pub behind_nothing : (written : Option (List ℕ)) → option_map (λ bytes. bytes ++ []) written ≡ written
behind_nothing None = refl
behind_nothing (Some bytes) = ap Some (append-nil bytes)

-- all that is left of a text
pub rest_is : (text : List ℕ) (count n : ℕ) → n ≡ length text - count → take n (drop count text) ≡ drop count text
rest_is text count n all = take_all n (drop count text) (omega (arith, all, length-drop count text))

-- one piece more behind those that were written
pub piece_more : (before now after : Option (List ℕ)) (text rest : List ℕ) (count n : ℕ) → now ≡ option_map (λ bytes. bytes ++ take count text) before → rest ≡ drop count text → after ≡ option_map (λ bytes. bytes ++ take n rest) now → after ≡ option_map (λ bytes. bytes ++ take (count + n) text) before
piece_more None now after text rest count n so_far left more = more ∙ ap (option_map (λ bytes. bytes ++ take n rest)) so_far
piece_more (Some start) now after text rest count n so_far left more =
    more ∙ ap (option_map (λ bytes. bytes ++ take n rest)) so_far
    ∙ ap Some (append_assoc start (take count text) (take n rest) ∙ ap (λ piece. start ++ piece) (ap (λ piece. take count text ++ take n piece) left ∙ sym (take-add count n text)))
