-- A text that is written in three, four or five pieces.
use Rattle.std.proofs.Common.{◌≡◌, ℕ, List, ◌++◌, ap, ◌∙◌, append_assoc}

-- one piece, and then more
pub also : (out piece more : List ℕ) {one all : List ℕ} → one ≡ out ++ piece → all ≡ one ++ more → all ≡ out ++ (piece ++ more)
also out piece more first then_ = then_ ∙ (ap (λ text. text ++ more) first ∙ append_assoc out piece more)

pub pieces3 :
    (out a b c : List ℕ) {one two three : List ℕ}
    → one ≡ out ++ a → two ≡ one ++ b → three ≡ two ++ c
    → three ≡ out ++ (a ++ (b ++ c))
pieces3 out a b c {one} {two} {three} e1 e2 e3 = also out a (b ++ c) e1 (also one b c e2 e3)

pub pieces4 :
    (out a b c d : List ℕ) {one two three four : List ℕ}
    → one ≡ out ++ a → two ≡ one ++ b → three ≡ two ++ c → four ≡ three ++ d
    → four ≡ out ++ (a ++ (b ++ (c ++ d)))
pieces4 out a b c d {one} {two} {three} {four} e1 e2 e3 e4 = also out a (b ++ (c ++ d)) e1 (pieces3 one b c d e2 e3 e4)

pub pieces5 :
    (out a b c d e : List ℕ) {one two three four five : List ℕ}
    → one ≡ out ++ a → two ≡ one ++ b → three ≡ two ++ c → four ≡ three ++ d → five ≡ four ++ e
    → five ≡ out ++ (a ++ (b ++ (c ++ (d ++ e))))
pieces5 out a b c d e {one} {two} {three} {four} {five} e1 e2 e3 e4 e5 =
    also out a (b ++ (c ++ (d ++ e))) e1 (pieces4 one b c d e e2 e3 e4 e5)
