-- Patterns whose kinds can be told apart where a space stands between two tokens.
use Rattle.std.proofs.Common.{◌≡◌, ℕ, suc, List, [], ◌∷◌, ◌++◌, map, Bool, true, not, ◌==◌, ◌&&◌, Option, Some, None, refl, ap, ◌∙◌}
use Rattle.std.proofs.lemmas.Bool.{and_parts, and_from}
use Rattle.std.proofs.lemmas.List.{map-append}
use Rattle.ada_base.specs.Symbols.{Symbol, Word, symbols_of}
use Rattle.syntax_readers.proofs.Words.{symbols_of-append}
use Rattle.ada_base.specs.Kinds.{tick}
use Rattle.syntax_tree.specs.Patterns.{Pattern, Nothing, Held, Free, Both, words_of, Spelling, held, free, ◌then◌, nothing, optional_of, optional_of_after, each_of, each_of_after, inside}
use Rattle.syntax_print.specs.Spoken.{is_spoken, AreSpoken}
use Rattle.syntax_print.proofs.Spoken.{are_spoken_append}

-- the kinds that a pattern spells
abbrev pub kinds_in : Pattern → List ℕ
kinds_in Nothing = []
kinds_in (Held depth kind number) = kind ∷ []
kinds_in (Free depth kind) = kind ∷ []
kinds_in (Both p q) = kinds_in p ++ kinds_in q

abbrev pub kinds : List Symbol → List ℕ
kinds ts = map (λ (t : Symbol). t.kind) ts

pub words_kinds : (p : Pattern) (w : Word) → words_of p w → kinds (symbols_of w) ≡ kinds_in p
words_kinds Nothing w h = ap (λ z. kinds (symbols_of z)) h
words_kinds (Held depth kind number) w h = ap (λ z. kinds (symbols_of z)) h
words_kinds (Free depth kind) w h = ap (λ z. kinds (symbols_of z)) h.1
words_kinds (Both p q) w h =
    ap (λ z. kinds (symbols_of z)) h.2 ∙ ap kinds (symbols_of-append h.0 h.1)
    ∙ map-append (λ (t : Symbol). t.kind) (symbols_of h.0) (symbols_of h.1)
    ∙ ap (λ z. z ++ kinds (symbols_of h.1)) (words_kinds p h.0 h.3) ∙ ap (λ z. kinds_in p ++ z) (words_kinds q h.1 h.4)

-- what is spelled can be told apart, and doesn't end with a tick
pub record Says (s : Spelling) : Type 0 where
  pub spoken : (depth : ℕ) → AreSpoken (kinds_in (s depth))

-- neither a character literal, nor a real literal, nor a tick
abbrev pub is_plain : ℕ → Bool
is_plain k = is_spoken k && not (k == tick)

one_spoken : (k : ℕ) → is_plain k ≡ true → AreSpoken (k ∷ [])
one_spoken k h = let parts = and_parts _ _ h in record { each = and_from _ _ parts.0 refl; ticks = parts.1 }

pub empty : Says nothing
empty = record { spoken = λ depth. record { each = refl; ticks = refl } }

pub token : (k n : ℕ) → is_plain k ≡ true → Says (held k n)
token k n h = record { spoken = λ depth. one_spoken k h }

pub word : (k : ℕ) → is_plain k ≡ true → Says (free k)
word k h = record { spoken = λ depth. one_spoken k h }

pub and : {p q : Spelling} → Says p → Says q → Says (p then q)
and {p} {q} h k = record { spoken = λ depth. are_spoken_append (kinds_in (p depth)) (kinds_in (q depth)) (h.spoken depth) (k.spoken depth) }

pub deeper : {p : Spelling} → Says p → Says (inside p)
deeper h = record { spoken = λ depth. h.spoken (suc depth) }

-- a tick and a token behind it, which is none
tick_token : (k : ℕ) → is_plain k ≡ true → AreSpoken (tick ∷ k ∷ [])
tick_token k h = let parts = and_parts _ _ h in record { each = and_from _ _ parts.0 refl; ticks = and_from _ _ parts.1 parts.1 }

pub ticked : (k n : ℕ) → is_plain k ≡ true → Says (free tick then held k n)
ticked k n h = record { spoken = λ depth. tick_token k h }

pub ticked_and : {q : Spelling} (k n : ℕ) → is_plain k ≡ true → Says q → Says (free tick then held k n then q)
ticked_and {q} k n h s = record { spoken = λ depth. are_spoken_append (tick ∷ k ∷ []) (kinds_in (q depth)) (tick_token k h) (s.spoken depth) }

pub maybe : {A : Type 0} {p : A → Spelling} (o : Option A) → ((x : A) → Says (p x)) → Says (optional_of p o)
maybe None h = empty
maybe (Some x) h = h x

pub maybe_after : {A : Type 0} {b : Spelling} {p : A → Spelling} (o : Option A) → Says b → ((x : A) → Says (p x)) → Says (optional_of_after b p o)
maybe_after None k h = empty
maybe_after (Some x) k h = and k (h x)

pub each : {A : Type 0} {p : A → Spelling} (xs : List A) → ((x : A) → Says (p x)) → Says (each_of p xs)
each [] h = empty
each (x ∷ xs) h = and (h x) (each xs h)

pub each_after : {A : Type 0} {b : Spelling} {p : A → Spelling} (xs : List A) → Says b → ((x : A) → Says (p x)) → Says (each_of_after b p xs)
each_after [] k h = empty
each_after (x ∷ xs) k h = and k (and (h x) (each_after xs k h))
