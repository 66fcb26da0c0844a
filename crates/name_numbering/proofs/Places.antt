-- The place of a spelling, and the tokens one by one.
use Rattle.std.proofs.Common.{◌≡◌, refl, sym, ap, ◌∙◌, ℕ, ◌+◌, ◌<◌, ◌≤◌, List, [], ◌∷◌, ◌++◌, Some, None, length, drop, take, arith}
use Rattle.std.proofs.Math.ListN.{get_or}
use Rattle.std.proofs.lemmas.List.{drop_more, length-take-le, take_all, take_more}
use Rattle.std.proofs.lemmas.Option.{get_or_from_slice_get, slice_get-map, slice_get_within}
use Rattle.std.specs.Prelude.{option_map, slice_get}
use Rattle.ada_base.specs.Folding.{folded}
use Rattle.ada_base.specs.Tokens.{Tokenized, kind_at, slice_at, token_at}
use Rattle.name_rules.specs.Symbols.{known}
use Rattle.name_numbering.proofs.Lists.{drop_past}
use Rattle.name_symbols.specs.Naming.{Symbols, language, next_symbol, symbols_from, text_of, texts_from}

pub language_length : length language ≡ 34
language_length = refl

pub language_count : (i : ℕ) → i ≤ 34 → i ≡ length (take i language)
language_count i h = sym (length-take-le i language (omega (arith, language_length, h)))

pub language_all : (i : ℕ) → 34 ≤ i → take i language ≡ language
language_all i h = take_all i language (omega (arith, language_length, h))

taken_next : {A : Type 0} (xs : List A) (i : ℕ) (x : A) → slice_get xs i ≡ Some x → take (i + 1) xs ≡ take i xs ++ x ∷ []
taken_next xs i x e =
    let g : get_or xs i x ≡ x = get_or_from_slice_get xs i x x e in
    let d : take (i + 1) xs ≡ take i xs ++ get_or xs i x ∷ [] = take_more xs i x (slice_get_within xs i x e) in
    cc

pub language_taken : (i : ℕ) (w : List ℕ) → slice_get known i ≡ Some w → take (i + 1) language ≡ take i language ++ folded w ∷ []
language_taken i w e = taken_next language i (folded w) (slice_get-map folded known i ∙ ap (option_map folded) e)

pub symbols_step : (t : Tokenized) (s : Symbols) (k : ℕ) → k < length t.items → symbols_from t s k (drop k t.items) ≡ symbols_from t (next_symbol t s k) (k + 1) (drop (k + 1) t.items)
symbols_step t s k h = rw (drop_more t.items k (token_at t.items k) h) refl

pub symbols_end : (t : Tokenized) (s : Symbols) (k : ℕ) → length t.items ≤ k → symbols_from t s k (drop k t.items) ≡ s
symbols_end t s k h = rw (drop_past t.items k h) refl

pub texts_step : (t : Tokenized) (done : List (List ℕ)) (k : ℕ) → k < length t.items → texts_from t done k (drop k t.items) ≡ texts_from t (done ++ text_of (kind_at t.items k) (slice_at t k) ∷ []) (k + 1) (drop (k + 1) t.items)
texts_step t done k h = rw (drop_more t.items k (token_at t.items k) h) refl

pub texts_end : (t : Tokenized) (done : List (List ℕ)) (k : ℕ) → length t.items ≤ k → texts_from t done k (drop k t.items) ≡ done
texts_end t done k h = rw (drop_past t.items k h) refl
