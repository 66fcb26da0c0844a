-- Texts after case folding, character by character.
use Rattle.std.proofs.Common.{◌≡◌, ◌≢◌, refl, sym, ap, ◌∙◌, ℕ, ◌+◌, ◌<◌, ◌≤◌, inl, inr, Bool, true, false, ◌&&◌, nat_eq, nat_le, leb-true, List, [], ◌∷◌, Some, drop, map, arith, slice_index_or}
use Rattle.std.proofs.lemmas.Bool.{and_parts, eq-eqb, ne_eqb}
use Rattle.std.specs.Char.{OutOfScalarRange}
use Rattle.std.specs.Prelude.{bytes_eq, slice_get}
use Rattle.std.specs.Str.{chars}
use Rattle.name_expressions.proofs.Bytes.{drop_get}
use Rattle.unicode.proofs.case.CaseFoldingLemmas.{simple_folding_stepped}
use Rattle.unicode.proofs.table.Computing.{tables}
use Rattle.unicode.proofs.table.Facts.{Stepped-beyond, ends_by}
use Rattle.unicode.proofs.table.StepsLemmas.{skip, step_value-here, step_value-nil, step_value-skip}
use Rattle.unicode.specs.CaseFolding.{simple_fold, simple_folding}
use Rattle.unicode.specs.Steps.{Step, step_value}

abbrev is_nil : List ℕ → Bool
is_nil [] = true
is_nil (x ∷ xs) = false

-- the first of these steps gives nothing below n
abbrev nothing_below : ℕ → List (Step (List ℕ)) → Bool
nothing_below n [] = true
nothing_below n (s ∷ ss) = nat_le n s.0 && is_nil s.1

first_nothing : (n : ℕ) (ss : List (Step (List ℕ))) (c : ℕ) → nothing_below n ss ≡ true → c < n → is_nil (step_value [] ss c) ≡ true
first_nothing n [] c h lt = ap is_nil (step_value-nil [] c)
first_nothing n (s ∷ ss) c h lt =
    let both = and_parts (nat_le n s.0) (is_nil s.1) h in
    let le = leb-true n s.0 both.0 in
    ap is_nil (step_value-here [] s ss c (omega arith)) ∙ both.1

-- what is no character has no line in the table: one pass over its steps each
nothing_default : simple_folding_stepped.default ≡ []
unfolding tables simple_folding_stepped
nothing_default = refl

nothing_between : nothing_below 0xE000 (skip simple_folding_stepped.steps 0xD800) ≡ true
unfolding tables simple_folding_stepped
nothing_between = refl

nothing_behind : ends_by 0x11_0000 simple_folding_stepped.steps ≡ true
unfolding tables simple_folding_stepped
nothing_behind = refl

between : (c : ℕ) → 0xD800 ≤ c → c < 0xE000 → is_nil (simple_folding c) ≡ true
between c low high =
    ap is_nil (simple_folding_stepped.gives c ∙ (ap (λ d. step_value d simple_folding_stepped.steps c) nothing_default ∙ sym (step_value-skip [] simple_folding_stepped.steps 0xD800 c low)))
    ∙ first_nothing 0xE000 (skip simple_folding_stepped.steps 0xD800) c nothing_between high

behind : (c : ℕ) → 0x10_FFFF < c → is_nil (simple_folding c) ≡ true
behind c high = ap is_nil (Stepped-beyond simple_folding simple_folding_stepped nothing_behind c high ∙ nothing_default)

nil_fold : (c : ℕ) (v : List ℕ) → is_nil v ≡ true → slice_index_or v 0 c ≡ c
nil_fold c [] h = refl
nil_fold c (x ∷ xs) h = absurd (cc)

pub no_fold : (c : ℕ) → OutOfScalarRange c → simple_fold c ≡ c
no_fold c (inl out) = nil_fold c (simple_folding c) (between c (omega (arith, out)) (omega (arith, out)))
no_fold c (inr out) = nil_fold c (simple_folding c) (behind c (omega (arith, out)))

-- a character before others, and a letter before others
step : (text word : List ℕ) (at next i c w : ℕ) → chars (drop at text) ≡ c ∷ chars (drop next text) → Some w ≡ slice_get word i
    → bytes_eq (map simple_fold (chars (drop at text))) (drop i word) ≡ (nat_eq (simple_fold c) w && bytes_eq (map simple_fold (chars (drop next text))) (drop (i + 1) word))
step text word at next i c w spelt letter = rw spelt (rw (drop_get word i w (sym letter)) refl)

pub folds_off : (text word : List ℕ) (at next i c w x y : ℕ) (b : Bool) → b ≡ bytes_eq (map simple_fold (chars (drop at text))) (drop i word)
    → chars (drop at text) ≡ c ∷ chars (drop next text) → Some w ≡ slice_get word i → x ≡ simple_fold c → y ≡ w → x ≢ y → false ≡ b
folds_off text word at next i c w x y b before spelt letter fold same differ =
    let other : simple_fold c ≢ w = λ e. differ (fold ∙ (e ∙ sym same)) in
    sym (before ∙ (step text word at next i c w spelt letter ∙ ap (λ d. d && bytes_eq (map simple_fold (chars (drop next text))) (drop (i + 1) word)) (ne_eqb (simple_fold c) w other)))

pub folds_on : (text word : List ℕ) (at next i c w x y : ℕ) (b : Bool) → b ≡ bytes_eq (map simple_fold (chars (drop at text))) (drop i word)
    → chars (drop at text) ≡ c ∷ chars (drop next text) → Some w ≡ slice_get word i → x ≡ simple_fold c → y ≡ w → x ≡ y → b ≡ bytes_eq (map simple_fold (chars (drop next text))) (drop (i + 1) word)
folds_on text word at next i c w x y b before spelt letter fold same equal =
    let as_letter : simple_fold c ≡ w = sym fold ∙ (equal ∙ same) in
    before ∙ (step text word at next i c w spelt letter ∙ ap (λ d. d && bytes_eq (map simple_fold (chars (drop next text))) (drop (i + 1) word)) (eq-eqb (simple_fold c) w as_letter))
