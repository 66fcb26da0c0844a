-- String literals are read as they are spelled.
use Rattle.std.proofs.Common.{◌≡◌, ℕ, ◌≤◌, Bool, true, false, cond, not, ◌==◌, List, [], ◌∷◌, ◌++◌, length, Option, Some, None, refl, sym, ap, ◌∙◌, arith, length-append}
use Rattle.std.proofs.lemmas.Bool.{eqb-true}
use Rattle.syntax_tree.specs.Characters.{is_control}
use Rattle.syntax_tree.specs.Spelling.{IsQuoted}
use Rattle.syntax_tree.specs.Spelling.IsQuoted.{NothingQuoted, Character, Doubled}
use Rattle.syntax_lexer.proofs.Numerals.{goes_on}
use Rattle.syntax_lexer.specs.Reading.{beyond_quoted}

abbrev pub is_quote : ℕ → Bool
is_quote c = c == 34

-- after what is quoted stands the last quotation mark, which no other follows
pub record ReadsQuoted (cs rest : List ℕ) : Type 0 where
  pub quoted : List ℕ
  pub is_quoted : IsQuoted quoted
  pub parts : cs ≡ quoted ++ 34 ∷ rest

-- the same where a quotation mark stands before
abbrev Closes : Bool → List ℕ → List ℕ → Type 0
Closes false cs rest = ReadsQuoted cs rest
Closes true cs rest = ReadsQuoted (34 ∷ cs) rest

some_list : {a b : List ℕ} → ◌≡◌ {A = Option (List ℕ)} (Some a) (Some b) → a ≡ b
some_list h = cc

closed : (rest cs : List ℕ) → cs ≡ rest → ReadsQuoted (34 ∷ cs) rest
closed rest cs e = record { quoted = []; is_quoted = NothingQuoted; parts = ap (λ r. 34 ∷ r) e }

quoted_more : (ended : Bool) (c : ℕ) (cs rest : List ℕ) (q k : Bool) → (c == 34) ≡ q → is_control c ≡ k → ((e : Bool) → beyond_quoted e cs ≡ Some rest → Closes e cs rest) → cond q (beyond_quoted (not ended) cs) (cond ended (Some (c ∷ cs)) (cond k None (beyond_quoted false cs))) ≡ Some rest → Closes ended (c ∷ cs) rest
quoted_more true c cs rest true k hq hk later h =
    let r = later false h in
    record { quoted = 34 ∷ 34 ∷ r.quoted; is_quoted = Doubled r.quoted r.is_quoted; parts = ap (λ d. 34 ∷ d ∷ cs) (eqb-true c 34 hq) ∙ ap (λ s. 34 ∷ 34 ∷ s) r.parts }
quoted_more false c cs rest true k hq hk later h = let same : c ≡ 34 = eqb-true c 34 hq in rw same (later true h)
quoted_more true c cs rest false k hq hk later h = closed rest (c ∷ cs) (some_list h)
quoted_more false c cs rest false true hq hk later h = cc
quoted_more false c cs rest false false hq hk later h =
    let r = later false h in
    record { quoted = c ∷ r.quoted; is_quoted = Character c r.quoted hq hk r.is_quoted; parts = ap (λ s. c ∷ s) r.parts }

quoted_found : (cs rest : List ℕ) (ended : Bool) → beyond_quoted ended cs ≡ Some rest → Closes ended cs rest
quoted_found [] rest true h = closed rest [] (some_list h)
quoted_found [] rest false h = cc
quoted_found (c ∷ cs) rest ended h = quoted_more ended c cs rest (c == 34) (is_control c) refl refl (quoted_found cs rest) h

pub text_found : (cs rest : List ℕ) → beyond_quoted false cs ≡ Some rest → ReadsQuoted cs rest
text_found cs rest h = quoted_found cs rest false h

-- what is quoted is passed, up to the mark that may be the last
pub quoted_passed : {quoted : List ℕ} (more : List ℕ) → IsQuoted quoted → beyond_quoted false (quoted ++ 34 ∷ more) ≡ beyond_quoted true more
quoted_passed more NothingQuoted = refl
quoted_passed more (Character c s plain allowed q) = rw (plain, allowed) (quoted_passed more q)
quoted_passed more (Doubled s q) = quoted_passed more q

shorter : (cs rest : List ℕ) (ended : Bool) → beyond_quoted ended cs ≡ Some rest → length rest ≤ length cs
shorter cs rest false h = let r = quoted_found cs rest false h in omega (arith, ap length r.parts, length-append r.quoted (34 ∷ rest))
shorter cs rest true h = let r = quoted_found cs rest true h in omega (arith, ap length r.parts, length-append r.quoted (34 ∷ rest))

pub text_longest : {quoted : List ℕ} (more rest : List ℕ) → IsQuoted quoted → beyond_quoted false (quoted ++ 34 ∷ more) ≡ Some rest → length rest ≤ length more
text_longest more rest q h = shorter more rest true (sym (quoted_passed more q) ∙ h)

pub text_read : {quoted : List ℕ} (rest : List ℕ) → IsQuoted quoted → goes_on is_quote rest ≡ false → beyond_quoted false (quoted ++ 34 ∷ rest) ≡ Some rest
text_read [] q ends = quoted_passed [] q
text_read (c ∷ rest) q ends = quoted_passed (c ∷ rest) q ∙ rw ends refl
