-- Loops over the tables of reserved words and of marks.
use Rattle.std.proofs.Common.{◌≡◌, ℕ, zero, suc, ◌+◌, ◌≤◌, true, false, List, [], ◌∷◌, length, drop, Some, None, slice_get, refl, add-one}
use Rattle.std.proofs.Math.ListN.{drop_of_length-le}
use Rattle.syntax_tree.specs.Words.{words, marks}
use Rattle.syntax_lexer.specs.Reading.{same_by, number_from, beyond_text, mark_from, mark_or}

drop_suc : (ws : List (List ℕ)) (n : ℕ) (w : List ℕ) → slice_get ws n ≡ Some w → drop n ws ≡ w ∷ drop (suc n) ws
drop_suc [] n w h = cc
drop_suc (v ∷ ws) zero w h = let e : v ≡ w = cc in rw e refl
drop_suc (v ∷ ws) (suc n) w h = drop_suc ws n w h

pub drop_here : (ws : List (List ℕ)) (n : ℕ) (w : List ℕ) → slice_get ws n ≡ Some w → drop n ws ≡ w ∷ drop (n + 1) ws
drop_here ws n w h = rw add-one (drop_suc ws n w h)

pub number_found : (f : ℕ → ℕ) (name : List ℕ) (n : ℕ) (w : List ℕ) (ws : List (List ℕ)) → slice_get ws n ≡ Some w → same_by f name w ≡ true → number_from f name n (drop n ws) ≡ Some n
number_found f name n w ws at same = rw (drop_here ws n w at, same) refl

pub number_passed : (f : ℕ → ℕ) (name : List ℕ) (n : ℕ) (w : List ℕ) (ws : List (List ℕ)) → slice_get ws n ≡ Some w → same_by f name w ≡ false → number_from f name n (drop n ws) ≡ number_from f name (n + 1) (drop (n + 1) ws)
number_passed f name n w ws at same = rw (drop_here ws n w at, same) refl

pub number_none : (f : ℕ → ℕ) (name : List ℕ) (n : ℕ) (ws : List (List ℕ)) → length ws ≤ n → number_from f name n (drop n ws) ≡ None
number_none f name n ws past = rw (drop_of_length-le ws past) refl

pub mark_found : (cs : List ℕ) (n : ℕ) (w : List ℕ) (ws : List (List ℕ)) (rest : List ℕ) → slice_get ws n ≡ Some w → beyond_text w cs ≡ Some rest → mark_from cs n (drop n ws) ≡ mark_or None n (Some rest)
mark_found cs n w ws rest at same = rw (drop_here ws n w at, same) refl

pub mark_passed : (cs : List ℕ) (n : ℕ) (w : List ℕ) (ws : List (List ℕ)) → slice_get ws n ≡ Some w → beyond_text w cs ≡ None → mark_from cs n (drop n ws) ≡ mark_from cs (n + 1) (drop (n + 1) ws)
mark_passed cs n w ws at same = rw (drop_here ws n w at, same) refl

pub mark_none : (cs : List ℕ) (n : ℕ) (ws : List (List ℕ)) → length ws ≤ n → mark_from cs n (drop n ws) ≡ None
mark_none cs n ws past = rw (drop_of_length-le ws past) refl

pub words_length : length words ≡ 74
unfolding words
words_length = refl

pub marks_length : length marks ≡ 29
unfolding marks
marks_length = refl
