-- One sheet more of a text.
use Rattle.std.proofs.Common.{◌≡◌, ℕ, zero, suc, ◌-◌, ◌<◌, ◌≤◌, true, false, List, [], ◌∷◌, ◌++◌, drop, Some, None, refl, sym, ◌∙◌, ap, subst, arith, append_assoc}
use Rattle.std.proofs.lemmas.List.{append-nil}
use Rattle.std.specs.Prelude.{Option, option_map}
use Rattle.aq_rules.specs.Lines.Spellings.{◌>>=◌}
use Rattle.aq_pages.specs.Sheets.{Line, PageSheet}
use Rattle.airdv_page.specs.Reading.{found, is_end, lines_in, sheet_at, sheets_in}

pub sheets_in-end : (most : ℕ) (lines : List Line) → 0 < most → is_end lines ≡ true → sheets_in most lines ≡ Some []
unfolding sheets_in
sheets_in-end zero lines h e = absurd (omega arith)
sheets_in-end (suc most) lines h e = rw e refl

pub sheets_in-none : (most : ℕ) (lines : List Line) → is_end lines ≡ false → sheet_at lines ≡ None → sheets_in most lines ≡ None
unfolding sheets_in
sheets_in-none zero lines e n = refl
sheets_in-none (suc most) lines e n = rw (e, n) refl

pub sheets_in-more :
    (most : ℕ) (lines : List Line) (sheet : PageSheet) → 0 < most → is_end lines ≡ false → sheet_at lines ≡ Some sheet
    → sheets_in most lines ≡ (sheets_in (most - 1) (drop (lines_in sheet) lines) >>= (λ more. Some (sheet ∷ more)))
unfolding sheets_in
sheets_in-more zero lines sheet h e s = absurd (omega arith)
sheets_in-more (suc most) lines sheet h e s =
    let one : suc most - 1 ≡ most = omega arith in
    rw (e, s, one) refl

-- the first sheet may be added before the others
joined :
    (out : List PageSheet) (sheet : PageSheet) (others : Option (List PageSheet))
    → option_map (λ sheets. (out ++ (sheet ∷ [])) ++ sheets) others
    ≡ option_map (λ sheets. out ++ sheets) (others >>= (λ more. Some (sheet ∷ more)))
joined out sheet None = refl
joined out sheet (Some more) = ap Some (append_assoc out (sheet ∷ []) more)

one_more_as :
    (out longer : List PageSheet) (most count : ℕ) (lines : List Line) (all : Option (List PageSheet)) (sheet : Option PageSheet)
    → 0 < most → is_end lines ≡ false → sheet_at lines ≡ sheet → Some count ≡ option_map lines_in sheet → longer ≡ out ++ found sheet
    → option_map (λ sheets. out ++ sheets) (sheets_in most lines) ≡ all
    → option_map (λ sheets. longer ++ sheets) (sheets_in (most - 1) (drop count lines)) ≡ all
one_more_as out longer most count lines all None h e s n w same = cc
one_more_as out longer most count lines all (Some sheet) h e s n w same =
    let rest : Option (List PageSheet) = sheets_in (most - 1) (drop (lines_in sheet) lines) in
    let counted : lines_in sheet ≡ count = cc in
    let P : List PageSheet → Type 0 = λ so_far. option_map (λ sheets. so_far ++ sheets) rest ≡ all in
    let Q : ℕ → Type 0 = λ k. option_map (λ sheets. longer ++ sheets) (sheets_in (most - 1) (drop k lines)) ≡ all in
    let step : sheets_in most lines ≡ (rest >>= (λ more. Some (sheet ∷ more))) = sheets_in-more most lines sheet h e s in
    let f : Option (List PageSheet) → Option (List PageSheet) = option_map (λ (sheets : List PageSheet). out ++ sheets) in
    subst Q counted (subst P (sym w) (joined out sheet rest ∙ (sym (ap f step) ∙ same)))

pub one_more :
    (out longer : List PageSheet) (most count : ℕ) (lines rest : List Line) (all : Option (List PageSheet))
    → 0 < most → is_end lines ≡ false → Some count ≡ option_map lines_in (sheet_at lines) → longer ≡ out ++ found (sheet_at lines)
    → rest ≡ drop count lines
    → option_map (λ sheets. out ++ sheets) (sheets_in most lines) ≡ all
    → option_map (λ sheets. longer ++ sheets) (sheets_in (most - 1) rest) ≡ all
one_more out longer most count lines rest all h e n w r same =
    let P : List Line → Type 0 = λ left. option_map (λ sheets. longer ++ sheets) (sheets_in (most - 1) left) ≡ all in
    subst P (sym r) (one_more_as out longer most count lines all (sheet_at lines) h e refl n w same)

-- nothing but the end is left
pub ended :
    (out : List PageSheet) (most : ℕ) (lines : List Line) (all : Option (List PageSheet))
    → 0 < most → is_end lines ≡ true → option_map (λ sheets. out ++ sheets) (sheets_in most lines) ≡ all
    → Some out ≡ all
ended out most lines all h e same =
    ap Some (sym (append-nil out)) ∙ (sym (ap (option_map (λ (sheets : List PageSheet). out ++ sheets)) (sheets_in-end most lines h e)) ∙ same)

no_sheet : (sheet : Option PageSheet) → None ≡ option_map lines_in sheet → sheet ≡ None
no_sheet None e = refl
no_sheet (Some sheet) e = cc

-- what is left is none of sheets, and so is all
pub refused :
    (out : List PageSheet) (most : ℕ) (lines : List Line) (all : Option (List PageSheet))
    → is_end lines ≡ false → None ≡ option_map lines_in (sheet_at lines)
    → option_map (λ sheets. out ++ sheets) (sheets_in most lines) ≡ all
    → None ≡ all
refused out most lines all e n same =
    let f : Option (List PageSheet) → Option (List PageSheet) = option_map (λ (sheets : List PageSheet). out ++ sheets) in
    sym (ap f (sheets_in-none most lines e (no_sheet (sheet_at lines) n))) ∙ same

pub too_many :
    (out : List PageSheet) (most : ℕ) (lines : List Line) (all : Option (List PageSheet))
    → most ≤ 0 → option_map (λ sheets. out ++ sheets) (sheets_in most lines) ≡ all
    → None ≡ all
unfolding sheets_in
too_many out zero lines all h same = same
too_many out (suc most) lines all h same = absurd (omega arith)
