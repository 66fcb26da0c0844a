-- Words that stood before, by a map of their places.
use Rattle.std.proofs.Common.{◌≡◌, refl, sym, ap, subst, ◌∙◌, ℕ, suc, ◌+◌, Bool, true, false, List, [], ◌∷◌, ◌++◌, length, Option, Some, None, cond, ◌&&◌, if◌then◌else◌, arith}
use Rattle.std.proofs.lemmas.Bool.Decides.{nat_tests}
use Rattle.std.specs.Cmp.Lexicographic.{pointwise}
use Rattle.std.specs.HashMap.{HashMap, IsEmpty, Updates, get}
use Rattle.std.specs.Prelude.{Vec, is_some, nat_eq, ◌==◌}
use Rattle.std.proofs.lemmas.List.{append_assoc, length-append}
use Rattle.ada_base.specs.Tokens.{Tokenized}
use Rattle.name_numbering.proofs.Alike.{alike_eq}
use Rattle.name_numbering.proofs.Lists.{map_length, map_one}
use Rattle.name_numbering.proofs.Places.{language_length}
use Rattle.name_numbering.specs.Spelled.{AllListed, spelled, spelling, symbols}
use Rattle.name_numbering.specs.declared.symbols.Numbered.{Numbered}
use Rattle.name_symbols.specs.Naming.{Symbols, alike, language, numbered, or_else, place, with_symbol}
use Rattle.name_numbering.specs.Words.{Listed, same_word}

eq_swap : (a b : ℕ) → nat_eq a b ≡ (b == a)
eq_swap a b = grind (arith, nat_tests)

and_both : (a b c d : Bool) → a ≡ c → b ≡ d → (a && b) ≡ (c && d)
and_both a b c d e f = cc

pub same_alike : (w q : List ℕ) → pointwise nat_eq w q ≡ alike q w
same_alike [] [] = refl
same_alike [] (d ∷ q) = refl
same_alike (c ∷ w) [] = refl
same_alike (c ∷ w) (d ∷ q) = and_both _ _ _ _ (eq_swap c d) (same_alike w q)

or_else_step : (b : Bool) (n : ℕ) (o p : Option ℕ) → (if b then Some n else or_else o p) ≡ or_else (if b then Some n else o) p
or_else_step true n o p = refl
or_else_step false n o p = refl

next_place : (n k : ℕ) → (n + 1) + k ≡ n + suc k
next_place n k = omega arith

none_more : (n : ℕ) → n ≡ n + 0
none_more n = omega arith

zero_more : (n : ℕ) → 0 + n ≡ n
zero_more n = omega arith

pub place_append : (w : List ℕ) (xs ys : List (List ℕ)) (n : ℕ) → place w (xs ++ ys) n ≡ or_else (place w xs n) (place w ys (n + length xs))
place_append w [] ys n = ap (λ (k : ℕ). place w ys k) (none_more n)
place_append w (x ∷ xs) ys n =
    ap (λ (o : Option ℕ). if alike w x then Some n else o) (place_append w xs ys (n + 1) ∙ ap (λ (k : ℕ). or_else (place w xs (n + 1)) (place w ys k)) (next_place n (length xs)))
    ∙ or_else_step (alike w x) n (place w xs (n + 1)) (place w ys (n + length (x ∷ xs)))

-- the place of one more word
last_place : (q w : List ℕ) (all : List (List ℕ)) → place q (all ++ w ∷ []) 0 ≡ or_else (place q all 0) (if alike q w then Some (length all) else None)
last_place q w all = place_append q all (w ∷ []) 0 ∙ ap (λ (k : ℕ). or_else (place q all 0) (if alike q w then Some k else None)) (zero_more (length all))

known_place : (b : Bool) (q w : List ℕ) (all : List (List ℕ)) (n m : ℕ) → alike q w ≡ b → place w all 0 ≡ Some n
    → place q all 0 ≡ or_else (place q all 0) (if b then Some m else None)
known_place true q w all n m h e =
    let f : place q all 0 ≡ Some n = subst (λ (v : List ℕ). place v all 0 ≡ Some n) (sym (alike_eq q w h)) e in
    f ∙ sym (ap (λ (o : Option ℕ). or_else o (Some m)) f)
known_place false q w all n m h e = sym (or_nothing (place q all 0))
  where
    or_nothing : (o : Option ℕ) → or_else o None ≡ o
    or_nothing None = refl
    or_nothing (Some k) = refl

new_place : (b : Bool) (q w : List ℕ) (all : List (List ℕ)) (m : ℕ) → alike q w ≡ b → place w all 0 ≡ None
    → cond b (Some m) (place q all 0) ≡ or_else (place q all 0) (if b then Some m else None)
new_place true q w all m h e =
    let f : place q all 0 ≡ None = subst (λ (v : List ℕ). place v all 0 ≡ None) (sym (alike_eq q w h)) e in
    sym (ap (λ (o : Option ℕ). or_else o (Some m)) f)
new_place false q w all m h e = sym (or_nothing (place q all 0))
  where
    or_nothing : (o : Option ℕ) → or_else o None ≡ o
    or_nothing None = refl
    or_nothing (Some k) = refl

some_of : (o : Option ℕ) → is_some o ≡ true → (n : ℕ) × (o ≡ Some n)
some_of None e = absurd (cc)
some_of (Some n) e = (n, refl)

none_of : (o : Option ℕ) → is_some o ≡ false → o ≡ None
none_of None e = refl
none_of (Some n) e = absurd (cc)

module _ {Z S : Type 0} where
  pub listed_none : (seen : HashMap (Vec ℕ Z) ℕ S) → IsEmpty seen → Listed seen []
  listed_none seen e = λ q. rw e refl

  pub listed_known : (seen : HashMap (Vec ℕ Z) ℕ S) (word : Vec ℕ Z) (all : List (List ℕ)) → is_some (get same_word seen word) ≡ true
      → Listed seen all → Listed seen (all ++ word.items ∷ [])
  listed_known seen word all e h = λ q.
      let k = some_of (get same_word seen word) e in
      h q ∙ (known_place (alike q.items word.items) q.items word.items all k.0 (length all) refl (sym (h word) ∙ k.1) ∙ sym (last_place q.items word.items all))

  pub listed_new : (old new : HashMap (Vec ℕ Z) ℕ S) (word : Vec ℕ Z) (number : ℕ) (all : List (List ℕ)) → is_some (get same_word old word) ≡ false
      → Updates same_word old new word (Some number) → number ≡ length all → Listed old all → Listed new (all ++ word.items ∷ [])
  listed_new old new word number all e u n h = λ q.
      u.0 q
      ∙ (ap (λ (b : Bool). cond b (Some number) (get same_word old q)) (same_alike word.items q.items)
      ∙ (ap (λ (o : Option ℕ). cond (alike q.items word.items) (Some number) o) (h q)
      ∙ (ap (λ (m : ℕ). cond (alike q.items word.items) (Some m) (place q.items all 0)) n
      ∙ (new_place (alike q.items word.items) q.items word.items all (length all) refl (sym (h word) ∙ none_of (get same_word old word) e)
      ∙ sym (last_place q.items word.items all)))))

-- ---- the language's words and the others

language_start : 0 + length language ≡ 34
language_start = omega (arith, language_length)

language_place : (w : List ℕ) (ws : List (List ℕ)) → place w (language ++ ws) 0 ≡ numbered w ws
language_place w ws = place_append w language ws 0 ∙ ap (λ (k : ℕ). or_else (place w language 0) (place w ws k)) language_start

pub symbol_known : (w : List ℕ) (s : Symbols) (n : ℕ) → Some n ≡ place w (language ++ s.spellings) 0 → record { numbers = s.numbers ++ n ∷ []; spellings = s.spellings } ≡ with_symbol w s (numbered w s.spellings)
symbol_known w s n e = ap (λ (o : Option ℕ). with_symbol w s o) (e ∙ language_place w s.spellings)

pub symbol_new : (w : List ℕ) (s : Symbols) → None ≡ place w (language ++ s.spellings) 0
    → record { numbers = s.numbers ++ (34 + length s.spellings) ∷ []; spellings = s.spellings ++ w ∷ [] } ≡ with_symbol w s (numbered w s.spellings)
symbol_new w s e = ap (λ (o : Option ℕ). with_symbol w s o) (e ∙ language_place w s.spellings)

abbrev made : List ℕ → List (List ℕ) → Symbols
made ns ws = record { numbers = ns; spellings = ws }

-- an identifier that stood before
pub known_shows : {Z S : Type 0} (t : Tokenized) (seen : HashMap (Vec ℕ Z) ℕ S) (s : Numbered) (token : ℕ) (w numbers : List ℕ) (n : ℕ) (o : Option ℕ)
    → w ≡ spelling t token → o ≡ Some n → ((all : List (List ℕ)) → Listed seen all → o ≡ place w all 0) → numbers ≡ s.numbers ++ n ∷ []
    → AllListed t seen s → (made numbers (spelled t s.firsts) ≡ with_symbol (spelling t token) (symbols t s) (numbered (spelling t token) (spelled t s.firsts))) × Listed seen (language ++ spelled t s.firsts)
known_shows t seen s token w numbers n o e f g k h = (
  subst (λ (v : List ℕ). made numbers (spelled t s.firsts) ≡ with_symbol v (symbols t s) (numbered v (spelled t s.firsts))) e
      (ap (λ (ns : List ℕ). made ns (spelled t s.firsts)) k ∙ symbol_known w (symbols t s) n (sym f ∙ g (language ++ spelled t s.firsts) h)),
  h,
)

-- one that stands first
pub new_shows : {Z S : Type 0} (t : Tokenized) (seen new : HashMap (Vec ℕ Z) ℕ S) (s : Numbered) (token : ℕ) (w numbers firsts : List ℕ) (m count : ℕ) (o : Option ℕ)
    → w ≡ spelling t token → o ≡ None → ((all : List (List ℕ)) → Listed seen all → o ≡ place w all 0) → count ≡ length s.firsts → m ≡ 34 + count
    → numbers ≡ s.numbers ++ m ∷ [] → firsts ≡ s.firsts ++ token ∷ []
    → ((all : List (List ℕ)) → Listed seen all → m ≡ length all → Listed new (all ++ w ∷ []))
    → AllListed t seen s → (made numbers (spelled t firsts) ≡ with_symbol (spelling t token) (symbols t s) (numbered (spelling t token) (spelled t s.firsts))) × Listed new (language ++ spelled t firsts)
new_shows t seen new s token w numbers firsts m count o e f g c k n p q h =
    let counted : m ≡ 34 + length (spelled t s.firsts) = k ∙ ap (λ (i : ℕ). 34 + i) (c ∙ sym (map_length (spelling t) s.firsts)) in
    let spelt : spelled t firsts ≡ spelled t s.firsts ++ w ∷ [] =
    ap (λ (ks : List ℕ). spelled t ks) p ∙ (map_one (spelling t) s.firsts token ∙ ap (λ (v : List ℕ). spelled t s.firsts ++ v ∷ []) (sym e)) in
    let numbered_so : made numbers (spelled t firsts) ≡ with_symbol w (symbols t s) (numbered w (spelled t s.firsts)) =
    ap (λ (ns : List ℕ). made ns (spelled t firsts)) (n ∙ ap (λ (i : ℕ). s.numbers ++ i ∷ []) counted)
    ∙ (ap (λ (ws : List (List ℕ)). made (s.numbers ++ (34 + length (spelled t s.firsts)) ∷ []) ws) spelt
    ∙ symbol_new w (symbols t s) (sym f ∙ g (language ++ spelled t s.firsts) h)) in
    let all : length (language ++ spelled t s.firsts) ≡ 34 + length (spelled t s.firsts) = length-append language (spelled t s.firsts) ∙ ap (λ (k : ℕ). k + length (spelled t s.firsts)) language_length in (
      subst (λ (v : List ℕ). made numbers (spelled t firsts) ≡ with_symbol v (symbols t s) (numbered v (spelled t s.firsts))) e numbered_so,
      subst (λ (ws : List (List ℕ)). Listed new ws) (append_assoc language (spelled t s.firsts) (w ∷ []) ∙ ap (λ (ws : List (List ℕ)). language ++ ws) (sym spelt))
          (q (language ++ spelled t s.firsts) h (counted ∙ sym all)),
    )
