-- Numbers that no word and no mark has.
use Rattle.std.proofs.Common.{◌≡◌, ℕ, ◌≤◌, None, length, refl}
use Rattle.std.specs.Prelude.{slice_get}
use Rattle.std.proofs.lemmas.Option.{slice_get_past}
use Rattle.syntax_tree.specs.Words.{words, marks}

word_count : length words ≡ 74
unfolding words
word_count = refl

mark_count : length marks ≡ 29
unfolding marks
mark_count = refl

pub no_word : (n : ℕ) → 74 ≤ n → slice_get words n ≡ None
no_word n past = slice_get_past words n (rw word_count past)

pub no_mark : (n : ℕ) → 29 ≤ n → slice_get marks n ≡ None
no_mark n past = slice_get_past marks n (rw mark_count past)
