-- What the summary of a head's headers says of Transfer-Encoding.
use Rattle.std.proofs.Common.{◌≡◌, ℕ, ◌<◌, ◌||◌, Bool, true, false, cond, eqb, codes, List, [], ◌∷◌, ◌++◌, length, refl, ap, ◌∙◌, arith}
use Rattle.std.specs.Prelude.{reverse}
use Rattle.std.specs.List.{list_all}
use Rattle.std.proofs.lemmas.List.{length-append, length-map, length-reverse}
use Rattle.httparse.specs.Grammar.{is_token, trim_ows}
use Rattle.http1.specs.Fields.{Header, codings_from_last, cons_first, elements, elements_named, has_option, is_blank, is_chunked, is_named, known_fields, last_coding, may_lead, split_commas, transfer_encoding}
use Rattle.http1.specs.declared.fields.TransferEncoding.TheVariants.{Chunked, Other, Blank, Invalid}
use Rattle.http1.specs.declared.fields.KnownFields.{KnownFields}
use Rattle.aq_http.specs.Head.{has_transfer_encoding, is_encoded}

last_is_encoded : (e : List ℕ) → is_encoded (last_coding e) ≡ true
last_is_encoded e = by_tests (is_chunked e) (is_token e) (is_blank e)
  where
    by_tests : (a b c : Bool) → is_encoded (cond a Chunked (cond b Other (cond c Blank Invalid))) ≡ true
    by_tests true b c = refl
    by_tests false true c = refl
    by_tests false false true = refl
    by_tests false false false = refl

from_last_is_encoded : (es : List (List ℕ)) → 0 < length es → is_encoded (codings_from_last es) ≡ true
from_last_is_encoded [] some = absurd (omega arith)
from_last_is_encoded (last ∷ earlier) some = by_test (list_all may_lead earlier)
  where
    by_test : (t : Bool) → is_encoded (cond t (last_coding last) Invalid) ≡ true
    by_test true = last_is_encoded last
    by_test false = refl

some_is_encoded : (es : List (List ℕ)) → 0 < length es → is_encoded (transfer_encoding es) ≡ true
some_is_encoded es some = from_last_is_encoded (reverse es) (omega (arith, some, length-reverse es))

-- a value has one element at least
some_pieces : (value : List ℕ) → 0 < length (split_commas value)
some_pieces [] = omega arith
some_pieces (b ∷ bs) = by_test (eqb b 44)
  where
    first : (pieces : List (List ℕ)) → 0 < length (cons_first b pieces)
    first [] = omega arith
    first (piece ∷ pieces) = omega arith

    by_test : (t : Bool) → 0 < length (cond t ([] ∷ split_commas bs) (cons_first b (split_commas bs)))
    by_test true = omega arith
    by_test false = first (split_commas bs)

some_elements : (value : List ℕ) → 0 < length (elements value)
unfolding elements
some_elements value = let some = some_pieces value in omega (arith, some, length-map (split_commas value) trim_ows)

pub encoded_where_named : (headers : List Header)
    → is_encoded (transfer_encoding (elements_named (codes "transfer-encoding") headers)) ≡ has_transfer_encoding headers
encoded_where_named [] = refl
encoded_where_named (h ∷ hs) = by_test (is_named (codes "transfer-encoding") h) (encoded_where_named hs)
  where
    later : List (List ℕ)
    later = elements_named (codes "transfer-encoding") hs

    by_test : (t : Bool) → is_encoded (transfer_encoding later) ≡ has_transfer_encoding hs
        → is_encoded (transfer_encoding (cond t (elements h.1) [] ++ later)) ≡ (t || has_transfer_encoding hs)
    by_test true same =
        let some = some_elements h.1 in
        some_is_encoded (elements h.1 ++ later) (omega (arith, some, length-append (elements h.1) later))
    by_test false same = same

pub known_encoded : (known : KnownFields) (headers : List Header) → known ≡ known_fields headers
    → is_encoded known.transfer_encoding ≡ has_transfer_encoding headers
unfolding known_fields
known_encoded known headers e = ap (λ k. is_encoded k.transfer_encoding) e ∙ encoded_where_named headers

pub known_close : (known : KnownFields) (headers : List Header) → known ≡ known_fields headers
    → known.close ≡ has_option (codes "close") (elements_named (codes "connection") headers)
unfolding known_fields
known_close known headers e = ap (λ k. k.close) e
