-- What is skipped before a token is white space and comments, as far as they go.
use Rattle.std.proofs.Common.{◌≡◌, ℕ, Bool, true, false, cond, not, ◌==◌, List, [], ◌∷◌, ◌++◌, refl, sym, ap, ◌∙◌, append_assoc}
use Rattle.std.specs.List.{list_all}
use Rattle.std.proofs.lemmas.Bool.{eqb-true, and_parts, or_from, or_parts, not-true}
use Rattle.syntax_tree.specs.Characters.{is_white}
use Rattle.syntax_tree.specs.Gaps.{begins_comment, begins_gap, ends_line, IsGap}
use Rattle.syntax_tree.specs.Gaps.IsGap.{Nothing, White, Comment}
use Rattle.syntax_lexer.specs.Reading.{beyond_gap}

pub record Blank (cs rest : List ℕ) : Type 0 where
  pub gap : List ℕ
  pub parts : cs ≡ gap ++ rest
  pub between : IsGap gap rest

-- the same where a comment has begun
pub record InComment (cs rest : List ℕ) : Type 0 where
  pub line : List ℕ
  pub gap : List ℕ
  pub parts : cs ≡ line ++ (gap ++ rest)
  pub inside : list_all (λ c. not (c == 10)) line ≡ true
  pub ended : ends_line (gap ++ rest) ≡ true
  pub between : IsGap gap rest

abbrev Left : Bool → List ℕ → List ℕ → Type 0
Left false cs rest = Blank cs rest
Left true cs rest = InComment cs rest

white_more : (c : ℕ) (cs rest : List ℕ) → is_white c ≡ true → Blank cs rest → Blank (c ∷ cs) rest
white_more c cs rest h b = record { gap = c ∷ b.gap; parts = ap (λ r. c ∷ r) b.parts; between = White c b.gap rest h b.between }

line_more : (c : ℕ) (cs rest : List ℕ) → (c == 10) ≡ false → InComment cs rest → InComment (c ∷ cs) rest
line_more c cs rest h b =
    record { line = c ∷ b.line; gap = b.gap; parts = ap (λ r. c ∷ r) b.parts; inside = rw h b.inside; ended = b.ended; between = b.between }

line_end : (c : ℕ) (cs rest : List ℕ) → (c == 10) ≡ true → Blank cs rest → InComment (c ∷ cs) rest
line_end c cs rest h b =
    let feed : c ≡ 10 = eqb-true c 10 h in
    let white : is_white c ≡ true = rw feed refl in
    record { line = []; gap = c ∷ b.gap; parts = ap (λ r. c ∷ r) b.parts; inside = refl; ended = h; between = White c b.gap rest white b.between }

in_comment : (c : ℕ) (cs : List ℕ) (b : Bool) → (c == 10) ≡ b → Left false cs (beyond_gap false cs) → Left true cs (beyond_gap true cs) → Left true (c ∷ cs) (cond b (beyond_gap false cs) (beyond_gap true cs))
in_comment c cs true h blank comment = line_end c cs _ h blank
in_comment c cs false h blank comment = line_more c cs _ h comment

comment_begins : (c d : ℕ) (cs : List ℕ) → begins_comment (c ∷ d ∷ cs) ≡ true → Left true cs (beyond_gap true cs) → Blank (c ∷ d ∷ cs) (beyond_gap true (d ∷ cs))
comment_begins c d cs h b =
    let both = and_parts (c == 45) (d == 45) h in
    let first : c ≡ 45 = eqb-true c 45 both.0 in
    let second : d ≡ 45 = eqb-true d 45 both.1 in
    rw (first, second) record { gap = 45 ∷ 45 ∷ (b.line ++ b.gap); parts = ap (λ r. 45 ∷ 45 ∷ r) (b.parts ∙ sym (append_assoc b.line b.gap _)); between = Comment b.line b.gap _ b.inside b.ended b.between }

outside : (c : ℕ) (cs : List ℕ) (w k : Bool) → is_white c ≡ w → begins_comment (c ∷ cs) ≡ k → Left false cs (beyond_gap false cs) → (begins_comment (c ∷ cs) ≡ true → Blank (c ∷ cs) (beyond_gap true cs)) → Blank (c ∷ cs) (cond w (beyond_gap false cs) (cond k (beyond_gap true cs) (c ∷ cs)))
outside c cs true k h hk blank comment = white_more c cs _ h blank
outside c cs false true h hk blank comment = comment hk
outside c cs false false h hk blank comment = record { gap = []; parts = refl; between = Nothing (c ∷ cs) (or_from _ _ h hk) }

left : (inside : Bool) (cs : List ℕ) → Left inside cs (beyond_gap inside cs)
left false [] = record { gap = []; parts = refl; between = Nothing [] refl }
left true [] = record { line = []; gap = []; parts = refl; inside = refl; ended = refl; between = Nothing [] refl }
left true (c ∷ cs) = in_comment c cs (c == 10) refl (left false cs) (left true cs)
left false (c ∷ []) = outside c [] (is_white c) false refl refl (left false []) (λ h. cc)
left false (c ∷ d ∷ cs) = outside c (d ∷ cs) (is_white c) (begins_comment (c ∷ d ∷ cs)) refl refl (left false (d ∷ cs)) (λ h. comment_begins c d cs h (left true cs))

pub blank : (cs : List ℕ) → Blank cs (beyond_gap false cs)
blank cs = left false cs

in_line : (line more : List ℕ) → list_all (λ c. not (c == 10)) line ≡ true → beyond_gap true (line ++ more) ≡ beyond_gap true more
in_line [] more h = refl
in_line (c ∷ line) more h =
    let both = and_parts (not (c == 10)) _ h in
    rw (not-true (c == 10) both.0) (in_line line more both.1)

line_ends : (more : List ℕ) → ends_line more ≡ true → beyond_gap true more ≡ beyond_gap false more
line_ends [] h = refl
line_ends (c ∷ more) h = let feed : c ≡ 10 = eqb-true c 10 h in rw feed refl

stays : (rest : List ℕ) → begins_gap rest ≡ false → beyond_gap false rest ≡ rest
stays [] h = refl
stays (c ∷ rest) h = let both = or_parts (is_white c) (begins_comment (c ∷ rest)) h in rw (both.0, both.1) refl

-- a gap is skipped whole, and no more than it
pub skips : {gap rest : List ℕ} → IsGap gap rest → beyond_gap false (gap ++ rest) ≡ rest
skips (Nothing rest h) = stays rest h
skips (White c gap rest w h) = rw w (skips h)
skips (Comment line gap rest inside ended h) =
    ap (beyond_gap true) (append_assoc line gap rest) ∙ (in_line line (gap ++ rest) inside ∙ (line_ends (gap ++ rest) ended ∙ skips h))
