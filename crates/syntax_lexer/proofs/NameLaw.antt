-- Identifiers and reserved words are read as they are spelled.
use Rattle.std.proofs.Common.{◌≡◌, ℕ, zero, suc, ◌+◌, ◌≤◌, Bool, true, false, cond, not, ◌&&◌, ◌==◌, List, [], ◌∷◌, ◌++◌, map, length, Option, Some, None, slice_get, refl, sym, ap, ◌∙◌, subst, arith, add-zero}
use Rattle.std.specs.List.{list_any}
use Rattle.std.specs.Char.{to_ascii_lowercase}
use Rattle.std.proofs.lemmas.Bool.{eqb-true, eq-eqb, and_parts, and_from, or_parts, true≢false, not-true}
use Rattle.std.proofs.lemmas.List.{append-nil}
use Rattle.unicode.specs.CaseFolding.{simple_fold}
use Rattle.unicode_ident.specs.Ident.{is_xid_continue}
use Rattle.unicode_ident.proofs.IdentLemmas.{is_xid_start-is_xid_continue}
use Rattle.ada_base.specs.declared.token.Kind.{Kind}
use Rattle.ada_base.specs.declared.token.Kind.TheVariants.{Ident, Word}
use Rattle.syntax_lexer.specs.declared.found.Found.{Found}
use Rattle.syntax_lexer.specs.declared.found.Found.TheVariants.{Other}
use Rattle.syntax_tree.specs.Numbers.{underscores_between}
use Rattle.syntax_tree.specs.Spelling.{IsSpelling, IsIdentifier, IsReserved, begins_identifier}
use Rattle.syntax_tree.specs.Words.{words}
use Rattle.syntax_lexer.proofs.Numerals.{some_pair, goes_on, run-beyond, run_all, run_after, beyond_after, run_stop_here, beyond_stop_here, length_beyond}
use Rattle.syntax_lexer.proofs.Sound.{found_of, Sound}
use Rattle.syntax_lexer.specs.Reading.{run, beyond, same_by, number_from, word_number, unless_reserved, word_or, kind_of_name, with_rest, name_at}

same_by-true : (f : ℕ → ℕ) (cs ds : List ℕ) → same_by f cs ds ≡ true → map f cs ≡ ds
same_by-true f [] [] h = refl
same_by-true f [] (d ∷ ds) h = cc
same_by-true f (c ∷ cs) [] h = cc
same_by-true f (c ∷ cs) (d ∷ ds) h =
    let both = and_parts (f c == d) (same_by f cs ds) h in
    let first : f c ≡ d = eqb-true (f c) d both.0 in
    let others = same_by-true f cs ds both.1 in
    cc

same_by-map : (f : ℕ → ℕ) (cs : List ℕ) → same_by f cs (map f cs) ≡ true
same_by-map f [] = refl
same_by-map f (c ∷ cs) = and_from _ _ (eq-eqb (f c) (f c) refl) (same_by-map f cs)

some_same : {A : Type 0} {a b : A} → ◌≡◌ {A = Option A} (Some a) (Some b) → a ≡ b
some_same h = cc

-- where a table has a name, after a change of its characters
record IsAt (ws : List (List ℕ)) (w : List ℕ) (k n : ℕ) : Type 0 where
  index : ℕ
  place : n ≡ k + index
  here : slice_get ws index ≡ Some w

number_from_found : (f : ℕ → ℕ) (name : List ℕ) (k n : ℕ) (ws : List (List ℕ)) → number_from f name k ws ≡ Some n → IsAt ws (map f name) k n
number_from_found f name k n [] h = cc
number_from_found f name k n (w ∷ ws) h = go (same_by f name w) refl h (number_from_found f name (k + 1) n ws) where
  go : (b : Bool) → same_by f name w ≡ b → cond b (Some k) (number_from f name (k + 1) ws) ≡ Some n → (number_from f name (k + 1) ws ≡ Some n → IsAt ws (map f name) (k + 1) n) → IsAt (w ∷ ws) (map f name) k n
  go true same e later = record { index = 0; place = sym (some_same e) ∙ sym (add-zero k); here = ap Some (sym (same_by-true f name w same)) }
  go false same e later = let at = later e in record { index = suc at.index; place = omega (arith, at.place); here = at.here }

number_from_none : (f : ℕ → ℕ) (name : List ℕ) (k : ℕ) (ws : List (List ℕ)) → number_from f name k ws ≡ None → (i : ℕ) → slice_get ws i ≡ Some (map f name) → ⊥
number_from_none f name k [] h i at = cc
number_from_none f name k (w ∷ ws) h i at = go (same_by f name w) refl h i at (number_from_none f name (k + 1) ws) where
  go : (b : Bool) → same_by f name w ≡ b → cond b (Some k) (number_from f name (k + 1) ws) ≡ None → (i : ℕ) → slice_get (w ∷ ws) i ≡ Some (map f name) → (number_from f name (k + 1) ws ≡ None → (i : ℕ) → slice_get ws i ≡ Some (map f name) → ⊥) → ⊥
  go true same e i at later = cc
  go false same e zero at later = true≢false (sym (same_by-map f name) ∙ (ap (same_by f name) (sym (some_same at)) ∙ same))
  go false same e (suc i) at later = later e i at

-- no list stands twice in a table
unfoldable pub distinct : List (List ℕ) → Bool
distinct [] = true
distinct (w ∷ ws) = not (list_any (same_by (λ c. c) w) ws) && distinct ws

map_same : (cs : List ℕ) → map (λ c. c) cs ≡ cs
map_same [] = refl
map_same (c ∷ cs) = ap (λ s. c ∷ s) (map_same cs)

absent : (w : List ℕ) (ws : List (List ℕ)) (i : ℕ) → list_any (same_by (λ c. c) w) ws ≡ false → slice_get ws i ≡ Some w → ⊥
absent w [] i h at = cc
absent w (v ∷ ws) zero h at =
    let both = or_parts (same_by (λ c. c) w v) _ h in
    true≢false (sym (subst (λ u. same_by (λ c. c) w u ≡ true) (map_same w) (same_by-map (λ c. c) w)) ∙ (ap (same_by (λ c. c) w) (sym (some_same at)) ∙ both.0))
absent w (v ∷ ws) (suc i) h at = absent w ws i (or_parts (same_by (λ c. c) w v) _ h).1 at

pub one_place : (ws : List (List ℕ)) (w : List ℕ) (i j : ℕ) → distinct ws ≡ true → slice_get ws i ≡ Some w → slice_get ws j ≡ Some w → i ≡ j
unfolding distinct
one_place [] w i j d hi hj = cc
one_place (v ∷ ws) w zero zero d hi hj = refl
one_place (v ∷ ws) w zero (suc j) d hi hj =
    absurd (absent w ws j (rw (sym (some_same hi)) (not-true _ (and_parts _ (distinct ws) d).0)) hj)
one_place (v ∷ ws) w (suc i) zero d hi hj =
    absurd (absent w ws i (rw (sym (some_same hj)) (not-true _ (and_parts _ (distinct ws) d).0)) hi)
one_place (v ∷ ws) w (suc i) (suc j) d hi hj = ap suc (one_place ws w i j (and_parts _ (distinct ws) d).1 hi hj)

distinct_words : distinct words ≡ true
unfolding distinct words
distinct_words = refl

number_found : (f : ℕ → ℕ) (name : List ℕ) (n : ℕ) → word_number f name ≡ Some n → slice_get words n ≡ Some (map f name)
unfolding word_number
number_found f name n h =
    let at = number_from_found f name 0 n words h in
    let same : n ≡ at.index = omega (arith, at.place) in
    rw same at.here

not_reserved : (f : ℕ → ℕ) (name : List ℕ) → word_number f name ≡ None → IsReserved (map f name) → ⊥
unfolding word_number
not_reserved f name h (n, at) = number_from_none f name 0 words h n at

number_none : (f : ℕ → ℕ) (name : List ℕ) → (IsReserved (map f name) → ⊥) → word_number f name ≡ None
number_none f name free = go (word_number f name) refl where
  go : (x : Option ℕ) → word_number f name ≡ x → word_number f name ≡ None
  go None e = e
  go (Some n) e = absurd (free (n, number_found f name n e))

number_read : (f : ℕ → ℕ) (name : List ℕ) (n : ℕ) → slice_get words n ≡ Some (map f name) → word_number f name ≡ Some n
number_read f name n at = go (word_number f name) refl where
  go : (x : Option ℕ) → word_number f name ≡ x → word_number f name ≡ Some n
  go None e = absurd (not_reserved f name e (n, at))
  go (Some m) e = e ∙ ap Some (one_place words (map f name) m n distinct_words (number_found f name m e) at)

kind_found : (before : Option Kind) (name : List ℕ) (kind : Kind) → IsIdentifier name → kind_of_name name ≡ Some kind → IsSpelling before kind name × (Other kind ≡ found_of kind)
unfolding kind_of_name
kind_found before name kind shape h = go (word_number to_ascii_lowercase name) (word_number simple_fold name) refl refl h where
  go : (a b : Option ℕ) → word_number to_ascii_lowercase name ≡ a → word_number simple_fold name ≡ b → word_or (unless_reserved b) a ≡ Some kind → IsSpelling before kind name × (Other kind ≡ found_of kind)
  go (Some n) b ha hb e = subst (λ k. IsSpelling before k name × (Other k ≡ found_of k)) (some_same e) ((shape, number_found to_ascii_lowercase name n ha), refl)
  go None None ha hb e = subst (λ k. IsSpelling before k name × (Other k ≡ found_of k)) (some_same e) ((shape, not_reserved to_ascii_lowercase name ha, not_reserved simple_fold name hb), refl)
  go None (Some m) ha hb e = cc

with_rest_same : (rest r : List ℕ) (found : Found) (x : Option Kind) → with_rest r x ≡ Some (found, rest) → (kind : Kind) × (x ≡ Some kind) × (found ≡ Other kind) × (r ≡ rest)
with_rest_same rest r found None h = cc
with_rest_same rest r found (Some kind) h = let p = some_pair h in (kind, refl, sym p.0, p.1)

name_first : (cs : List ℕ) → begins_identifier cs ≡ true → begins_identifier (run is_xid_continue cs) ≡ true
name_first [] h = cc
name_first (c ∷ cs) h = rw (is_xid_start-is_xid_continue c h) h

pub name_found : (before : Option Kind) (cs : List ℕ) (found : Found) (rest : List ℕ) → begins_identifier cs ≡ true → name_at cs ≡ Some (found, rest) → Sound before found cs rest
unfolding name_at
name_found before cs found rest first h = go (underscores_between name) refl h where
  name : List ℕ
  name = run is_xid_continue cs

  go : (b : Bool) → underscores_between name ≡ b → cond b (with_rest (beyond is_xid_continue cs) (kind_of_name name)) None ≡ Some (found, rest) → Sound before found cs rest
  go false test e = cc
  go true test e =
      let x = with_rest_same rest (beyond is_xid_continue cs) found (kind_of_name name) e in
      let k = kind_found before name x.0 (record { first = name_first cs first; each = run_all is_xid_continue cs; between = test }) x.1 in
      record { kind = x.0; slice = name; parts = run-beyond is_xid_continue cs ∙ ap (λ r. name ++ r) x.3; spelled = k.0; found_is = x.2 ∙ k.1 }

pub name_longest : (s more : List ℕ) (found : Found) (rest : List ℕ) → IsIdentifier s → name_at (s ++ more) ≡ Some (found, rest) → length rest ≤ length more
unfolding name_at
name_longest s more found rest shape h = go (underscores_between (run is_xid_continue (s ++ more))) h where
  go : (b : Bool) → cond b (with_rest (beyond is_xid_continue (s ++ more)) (kind_of_name (run is_xid_continue (s ++ more)))) None ≡ Some (found, rest) → length rest ≤ length more
  go false e = cc
  go true e =
      let x = with_rest_same rest (beyond is_xid_continue (s ++ more)) found (kind_of_name (run is_xid_continue (s ++ more))) e in
      let same : rest ≡ beyond is_xid_continue more = sym x.3 ∙ beyond_after is_xid_continue s more shape.each in
      rw same (length_beyond is_xid_continue more)

name_read : (s rest : List ℕ) (kind : Kind) → IsIdentifier s → goes_on is_xid_continue rest ≡ false → kind_of_name s ≡ Some kind → name_at (s ++ rest) ≡ Some (Other kind, rest)
unfolding name_at
name_read s rest kind shape ends k =
    let front : run is_xid_continue (s ++ rest) ≡ s = run_after _ s rest shape.each ∙ (ap (λ r. s ++ r) (run_stop_here _ rest ends) ∙ append-nil s) in
    let tail : beyond is_xid_continue (s ++ rest) ≡ rest = beyond_after _ s rest shape.each ∙ beyond_stop_here _ rest ends in
    rw (front, tail, shape.between, k) refl

pub identifier_read : (before : Option Kind) (s rest : List ℕ) → IsSpelling before Ident s → goes_on is_xid_continue rest ≡ false → name_at (s ++ rest) ≡ Some (Other Ident, rest)
unfolding kind_of_name
identifier_read before s rest (shape, ascii, folded) ends =
    name_read s rest Ident shape ends (rw (number_none to_ascii_lowercase s ascii, number_none simple_fold s folded) refl)

pub word_read : (before : Option Kind) (n : ℕ) (s rest : List ℕ) → IsSpelling before (Word n) s → goes_on is_xid_continue rest ≡ false → name_at (s ++ rest) ≡ Some (Other (Word n), rest)
unfolding kind_of_name
word_read before n s rest (shape, at) ends = name_read s rest (Word n) shape ends (rw (number_read to_ascii_lowercase s n at) refl)
