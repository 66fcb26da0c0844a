-- Rules, made of rules: each condition is an equation of sets that computes.
use Rattle.std.proofs.Common.{◌≡◌, ℕ, ◌≤◌, List, [], true, false, ◌⊎◌, inl, inr, refl}
use Rattle.ada_base.specs.Symbols.{Word, is_member}
use Rattle.syntax_readers.specs.Readers.{Reader, ◌>>=◌, pure, symbol, by_next, ◌<$>◌, repeat}
use Rattle.ada_base.specs.Languages.{Language, Leaf, Then, Or, Pure, Image, Repeated}
use Rattle.syntax_readers.specs.Sets.{Sets, are_disjoint, is_subset, one_kind, no_kind, then_sets, or_sets, repeat_sets, covers}
use Rattle.syntax_readers.specs.Exact.{Exact, Rule}
use Rattle.syntax_readers.proofs.Renamings.{exact_as, exact_in, begins_as}
use Rattle.syntax_readers.proofs.Singles.{exact_pure, exact_symbol, inhabited_pure, inhabited_leaf}
use Rattle.syntax_readers.proofs.Sequences.{exact_then, begins_then}
use Rattle.syntax_readers.proofs.Choices.{exact_or}
use Rattle.syntax_readers.proofs.Images.{exact_image}
use Rattle.syntax_readers.proofs.Repetitions.{exact_repeat}

-- one symbol
pub read : (limit d : ℕ) → d ≤ limit → (k : ℕ) → Rule limit (one_kind k) (Leaf d k) (symbol k)
read limit d within k = record { exact = exact_symbol limit d within k; sample = inhabited_leaf d k }

-- nothing
pub give : {limit : ℕ} {A : Type 0} (a : A) → Rule limit no_kind (Pure a) (pure a)
give a = record { exact = exact_pure a; sample = inhabited_pure a }

-- one and then another
pub seq : {limit : ℕ} {A B : Type 0} {s t : Sets} {L : A → Language} {M : A → B → Language} {p : Reader A} {q : A → Reader B}
    → Rule limit s L p → ((a : A) → Rule limit t (M a) (q a)) → are_disjoint s.follow_last t.first ≡ true → Rule limit (then_sets s t) (Then L M) (p >>= q)
seq {L} {M} h k apart = record {
  exact = exact_then h.exact (λ a. (k a).exact) (λ a. (k a).sample) apart;
  sample = begins_then L M (λ a. (k a).sample) [] h.sample;
}

-- one of two, of which the first has a word
pub or : {limit : ℕ} {A : Type 0} {s t : Sets} {L M : A → Language} {p q : Reader A} (ks : List ℕ)
    → Rule limit s L p → Exact limit t M q → s.nullable ≡ false → is_subset s.first ks ≡ true → are_disjoint ks t.first ≡ true → Rule limit (or_sets ks s t) (Or L M) (by_next ks p q)
or ks h k not_empty taken passed = record { exact = exact_or ks h.exact k not_empty taken passed; sample = begins_as (λ a w l. inl l) [] h.sample }

-- one of two, of which the second has a word
pub or_second : {limit : ℕ} {A : Type 0} {s t : Sets} {L M : A → Language} {p q : Reader A} (ks : List ℕ)
    → Exact limit s L p → Rule limit t M q → s.nullable ≡ false → is_subset s.first ks ≡ true → are_disjoint ks t.first ≡ true → Rule limit (or_sets ks s t) (Or L M) (by_next ks p q)
or_second ks h k not_empty taken passed = record { exact = exact_or ks h k.exact not_empty taken passed; sample = begins_as (λ a w l. inr l) [] k.sample }

-- a function of what is found
pub to : {limit : ℕ} {A B : Type 0} {s : Sets} {L : A → Language} {p : Reader A} (f : A → B) → Rule limit s L p → Rule limit s (Image f L) (f <$> p)
to f h = record { exact = exact_image f h.exact; sample = λ next. let (a, w, more, l, e) = h.sample next in (f a, w, more, (a, refl, l), e) }

-- the same words
pub same : {limit : ℕ} {A : Type 0} {s : Sets} {L : A → Language} {p : Reader A} (M : A → Language) → Rule limit s L p
    → ((a : A) (w : Word) → L a w → M a w) → ((a : A) (w : Word) → M a w → L a w) → Rule limit s M p
same M h f g = record { exact = exact_as M h.exact f g; sample = begins_as f [] h.sample }

-- the same words, with sets that are written down
pub is : {limit : ℕ} {A : Type 0} {s : Sets} {L : A → Language} {p : Reader A} (t : Sets) (M : A → Language) → Rule limit s L p
    → ((a : A) (w : Word) → L a w → M a w) → ((a : A) (w : Word) → M a w → L a w) → covers s t ≡ true → Rule limit t M p
is t M h f g c = record { exact = exact_in t (exact_as M h.exact f g) c; sample = begins_as f [] h.sample }

-- a repetition that an item may end
pub loop : {limit : ℕ} {A S : Type 0} {s : Sets} {L : A ⊎ S → Language} {p : Reader (A ⊎ S)} (none : S) (more : A → S → S) (M : S → Language)
    → ((xs : S) (w : Word) → Repeated none more L M xs w → M xs w) → ((xs : S) (w : Word) → M xs w → Repeated none more L M xs w)
    → (ks : List ℕ) → Rule limit s L p
    → s.nullable ≡ false → is_subset s.first ks ≡ true → are_disjoint s.follow_last s.first ≡ true → is_member ks 0 ≡ false
    → Rule limit (repeat_sets ks s) M (repeat none more ks p)
loop none more M join part ks h not_empty taken apart no_end = record {
  exact = exact_repeat none more M join part ks h.exact not_empty taken apart no_end;
  sample = λ next. (none, [], [], join none [] (inr (refl, refl)), refl);
}
