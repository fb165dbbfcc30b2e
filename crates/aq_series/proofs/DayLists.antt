-- What a list of options gives, one more at a time.
use Rattle.std.proofs.Common.{◌≡◌, ℕ, suc, zero, ◌+◌, Some, None, Option, List, [], ◌∷◌, ◌++◌, refl, ap, sym, ◌∙◌, arith}
use Rattle.std.specs.List.{filter_map, cons_option, range_with_len}
use Rattle.std.specs.Option.{option_to_list}
use Rattle.std.proofs.lemmas.List.Elements.{filter_map-append}

pub range_more : (a n : ℕ) → range_with_len a (n + 1) ≡ range_with_len a n ++ (a + n) ∷ []
range_more a zero = ap (λ m. m ∷ []) (omega arith)
range_more a (suc n) =
    let more : suc n + 1 ≡ suc (n + 1) = omega arith in
    let last : a + 1 + n ≡ a + suc n = omega arith in
    ap (range_with_len a) more ∙ ap (λ (l : List ℕ). a ∷ l) (range_more (a + 1) n ∙ ap (λ m. range_with_len (a + 1) n ++ m ∷ []) last)

listed : {X : Type 0} (o : Option X) → cons_option o [] ≡ option_to_list o
listed None = refl
listed (Some x) = refl

pub given_more : {X : Type 0} (give : ℕ → Option X) (a n j : ℕ) (o : Option X) → a + n ≡ j → o ≡ give j → filter_map give (range_with_len a n) ++ option_to_list o ≡ filter_map give (range_with_len a (n + 1))
given_more {X} give a n j o at is =
    ap (λ (l : List X). filter_map give (range_with_len a n) ++ l) (ap option_to_list (is ∙ ap give (sym at)) ∙ sym (listed (give (a + n))))
    ∙ sym (ap (filter_map give) (range_more a n) ∙ filter_map-append give (range_with_len a n) ((a + n) ∷ []))
