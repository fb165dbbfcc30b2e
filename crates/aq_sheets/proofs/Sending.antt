-- The tokens that are written for a list and for the members of a sheet.
use Rattle.std.proofs.Common.{◌≡◌, ℕ, ◌+◌, ◌<◌, ◌≤◌, Bool, true, ◌&&◌, List, [], ◌∷◌, ◌++◌, length, map, drop, get_or, Bor, nat_cmp, refl, sym, ap, ◌∙◌, append_assoc}
use Rattle.std.proofs.lemmas.Bool.{and_from, and_parts}
use Rattle.std.proofs.lemmas.List.{drop_all, drop_more}
use Rattle.std.specs.List.{list_all}
use Rattle.std.specs.Ordering.{match_ordering}
use Rattle.std.specs.declared.cmp.Ordering.{Ordering}
use Rattle.std.specs.declared.cmp.Ordering.TheVariants.{Less, Equal, Greater}
use Rattle.std.specs.Cmp.Lexicographic.{slice_cmp}
use Rattle.std.specs.BTreeMap.{insert_entry}
use Rattle.json.specs.Token.{Token}
use Rattle.json.specs.Tree.{items_tokens, members_tokens}
use Rattle.serde_json.specs.Data.{Data, object, put}
use Rattle.serde_json.specs.View.{items_of}
use Rattle.serde_json.specs.Written.{items_outline, members_outline}
use Rattle.aq_rules.specs.Shown.WellFormed.{is_word}
use Rattle.aq_sheets.specs.JsonView.{list_of, tokens_of}
use Rattle.aq_sheets.specs.PartView.{are_parts, is_part, part_data, parts_data}
use Rattle.aq_sheets.specs.declared.json_text.Part.{Part}

-- ---- lists

-- the items of a list, and its end
abbrev pub list_tokens : {X : Type 0} → (X → Data) → List X → List Token
list_tokens f xs = items_tokens (items_outline (items_of (map f xs)))

first-left : {X : Type 0} (xs : List X) (i : ℕ) (x : X) → i < length xs → x ≡ get_or xs i x → drop i xs ≡ x ∷ drop (i + 1) xs
first-left xs i x within is = drop_more xs i x within ∙ ap (λ y. y ∷ drop (i + 1) xs) (sym is)

-- what is asked of each item that is left holds of the next one, and of those after it
pub all-more : {X : Type 0} (p : X → Bool) (xs : List X) (i : ℕ) (x : X) → i < length xs → x ≡ get_or xs i x
    → list_all p (drop i xs) ≡ true → (p x ≡ true) × (list_all p (drop (i + 1) xs) ≡ true)
all-more p xs i x within is all = and_parts (p x) (list_all p (drop (i + 1) xs)) (ap (list_all p) (sym (first-left xs i x within is)) ∙ all)

pub list-more : {X : Type 0} (f : X → Data) (xs : List X) (i : ℕ) (x : X) (all now after : List Token)
    → i < length xs → x ≡ get_or xs i x
    → now ++ list_tokens f (drop i xs) ≡ all → after ≡ now ++ tokens_of (f x) → after ++ list_tokens f (drop (i + 1) xs) ≡ all
list-more f xs i x all now after within is so_far more =
    ap (λ ts. ts ++ list_tokens f (drop (i + 1) xs)) more
    ∙ append_assoc now (tokens_of (f x)) (list_tokens f (drop (i + 1) xs))
    ∙ ap (λ ys. now ++ list_tokens f ys) (sym (first-left xs i x within is))
    ∙ so_far

pub list-ends : {X : Type 0} (f : X → Data) (xs : List X) (i : ℕ) (before last after : List Token)
    → length xs ≤ i → last ++ list_tokens f (drop i xs) ≡ (before ++ Token.begin_array ∷ []) ++ list_tokens f xs
    → after ≡ last ++ Token.end_array ∷ [] → after ≡ before ++ tokens_of (list_of (map f xs))
list-ends f xs i before last after all so_far ends =
    ends ∙ ap (λ ys. last ++ list_tokens f ys) (sym (drop_all i xs all)) ∙ so_far
    ∙ append_assoc before (Token.begin_array ∷ []) (list_tokens f xs)

-- ---- the members of a sheet

abbrev pub Entry : Type 0
Entry = Bor (List ℕ) × Part

-- the members of an object, and its end
abbrev pub parts_tokens : List Entry → List Token
parts_tokens entries = members_tokens (members_outline (parts_data entries))

pub part-more : (entry : Entry) (left rest : List Entry) (all now named after : List Token) → left ≡ entry ∷ rest
    → now ++ parts_tokens left ≡ all → named ≡ now ++ Token.key entry.0.now ∷ [] → after ≡ named ++ tokens_of (part_data entry.1)
    → after ++ parts_tokens rest ≡ all
part-more entry left rest all now named after next so_far name more =
    let value = tokens_of (part_data entry.1) in
    ap (λ ts. ts ++ parts_tokens rest) more
    ∙ append_assoc named value (parts_tokens rest)
    ∙ ap (λ ts. ts ++ (value ++ parts_tokens rest)) name
    ∙ append_assoc now (Token.key entry.0.now ∷ []) (value ++ parts_tokens rest)
    ∙ ap (λ ys. now ++ parts_tokens ys) (sym next)
    ∙ so_far

pub parts-end : (entries left : List Entry) (before last after : List Token)
    → left ≡ [] → last ++ parts_tokens left ≡ (before ++ Token.begin_object ∷ []) ++ parts_tokens entries
    → after ≡ last ++ Token.end_object ∷ [] → after ≡ before ++ tokens_of (object (parts_data entries))
parts-end entries left before last after none so_far ends =
    ends ∙ ap (λ ys. last ++ parts_tokens ys) (sym none) ∙ so_far
    ∙ append_assoc before (Token.begin_object ∷ []) (parts_tokens entries)

pub next-part : (entry : Entry) (left rest : List Entry) → left ≡ entry ∷ rest → are_parts left ≡ true
    → (is_word entry.0.now ≡ true) × ((is_part entry.1 ≡ true) × (are_parts rest ≡ true))
next-part entry left rest next all =
    let last = and_parts (is_word entry.0.now && is_part entry.1) (are_parts rest) (ap are_parts (sym next) ∙ all) in
    let both = and_parts (is_word entry.0.now) (is_part entry.1) last.0 in
    (both.0, (both.1, last.1))

-- ---- a member that is put

abbrev name_order : Bor (List ℕ) → Bor (List ℕ) → Ordering
name_order a b = slice_cmp nat_cmp a.now b.now

parts-choice : (o : Ordering) (a b c : List Entry) → parts_data (match_ordering o a b c) ≡ match_ordering o (parts_data a) (parts_data b) (parts_data c)
parts-choice Less a b c = refl
parts-choice Equal a b c = refl
parts-choice Greater a b c = refl

-- an entry put into a map is a member put into its object
pub parts-put : (entries : List Entry) (name : Bor (List ℕ)) (part : Part)
    → parts_data (insert_entry name_order entries name part) ≡ put name.now (part_data part) (parts_data entries)
parts-put [] name part = refl
parts-put (entry ∷ entries) name part = parts-choice (slice_cmp nat_cmp name.now entry.0.now) _ _ _ ∙ rw (parts-put entries name part) refl

are-parts : (entry : Entry) (rest : List Entry) → is_word entry.0.now ≡ true → is_part entry.1 ≡ true → are_parts rest ≡ true → are_parts (entry ∷ rest) ≡ true
are-parts entry rest word part rests = and_from (is_word entry.0.now && is_part entry.1) (are_parts rest) (and_from (is_word entry.0.now) (is_part entry.1) word part) rests

pub parts-kept : (entries : List Entry) (name : Bor (List ℕ)) (part : Part) → is_word name.now ≡ true → is_part part ≡ true → are_parts entries ≡ true
    → are_parts (insert_entry name_order entries name part) ≡ true
parts-kept [] name part word is all = are-parts (name, part) [] word is refl
parts-kept (entry ∷ entries) name part word is all =
    let parts = next-part entry (entry ∷ entries) entries refl all in
    by_order (slice_cmp nat_cmp name.now entry.0.now) parts (parts-kept entries name part word is parts.1.1)
  where
    by_order : (o : Ordering) → (is_word entry.0.now ≡ true) × ((is_part entry.1 ≡ true) × (are_parts entries ≡ true)) → are_parts (insert_entry name_order entries name part) ≡ true
        → are_parts (match_ordering o ((name, part) ∷ entry ∷ entries) ((entry.0, part) ∷ entries) (entry ∷ insert_entry name_order entries name part)) ≡ true
    by_order Less parts rest = are-parts (name, part) (entry ∷ entries) word is all
    by_order Equal parts rest = are-parts (entry.0, part) entries parts.0 is parts.1.1
    by_order Greater parts rest = are-parts entry (insert_entry name_order entries name part) parts.0 parts.1.0 rest
