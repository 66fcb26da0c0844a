-- Rules for what is made of parts: the value is a function of what is kept of them, and its words are those of the
-- parts, one after another.
use Rattle.std.proofs.Common.{◌≡◌, ℕ, [], ◌++◌, true, inl, inr, refl, sym, ap, ◌∙◌, subst, append-nil, append_assoc}
use Rattle.ada_base.specs.Symbols.{Word}
use Rattle.ada_base.specs.Languages.{Language, Leaf, Quoted, Or, Image, Empty, ◌⋅◌}
use Rattle.syntax_readers.specs.Readers.{Reader, ◌>>=◌, ◌>>◌, pure, symbol}
use Rattle.syntax_readers.specs.Sets.{Sets, are_disjoint, then_sets}
use Rattle.syntax_readers.specs.Exact.{Rule}
use Rattle.syntax_readers.proofs.Rules.{seq, to, same}

-- ---- words

pub from : {A : Type 0} (L : A → Language) {x y : A} {w : Word} → x ≡ y → L y w → L x w
from L {w = w} eq l = subst (λ z. L z w) (sym eq) l

-- the same words, grouped otherwise
pub to_right : {L M N : Language} {w : Word} → ((L ⋅ M) ⋅ N) w → (L ⋅ (M ⋅ N)) w
to_right {w = w} (y, v, e, (u, u1, e1, l, m), n) = (u, u1 ++ v, e ∙ ap (λ z. z ++ v) e1 ∙ append_assoc u u1 v, l, (u1, v, refl, m, n))

pub to_left : {L M N : Language} {w : Word} → (L ⋅ (M ⋅ N)) w → ((L ⋅ M) ⋅ N) w
to_left (u, v, e, l, (u1, v1, e1, m, n)) = (u ++ u1, v1, e ∙ ap (λ z. u ++ z) e1 ∙ sym (append_assoc u u1 v1), (u, u1, refl, l, m), n)

-- nothing before or after
pub none_before : {L : Language} {w : Word} → L w → (Empty ⋅ L) w
none_before {w = w} l = ([], w, refl, refl, l)

pub without_before : {L : Language} {w : Word} → (Empty ⋅ L) w → L w
without_before {L} (u, v, e, none, l) = subst L (sym (e ∙ ap (λ z. z ++ v) none)) l

pub none_after : {L : Language} {w : Word} → L w → (L ⋅ Empty) w
none_after {w = w} l = (w, [], sym (append-nil w), l, refl)

pub without_after : {L : Language} {w : Word} → (L ⋅ Empty) w → L w
without_after {L} (u, v, e, l, none) = subst L (sym (e ∙ ap (λ z. u ++ z) none ∙ append-nil u)) l

-- other words in the first or in the second place
pub at_first : {L L' M : Language} {w : Word} → ((v : Word) → L v → L' v) → (L ⋅ M) w → (L' ⋅ M) w
at_first f (u, v, e, l, m) = (u, v, e, f u l, m)

pub at_second : {L M M' : Language} {w : Word} → ((v : Word) → M v → M' v) → (L ⋅ M) w → (L ⋅ M') w
at_second f (u, v, e, l, m) = (u, v, e, l, f v m)

-- the words of one of two forms, and of a form
pub either : {A : Type 0} {L M N : A → Language} → ((x : A) (w : Word) → L x w → N x w) → ((x : A) (w : Word) → M x w → N x w) → (x : A) (w : Word) → Or L M x w → N x w
either f g x w (inl l) = f x w l
either f g x w (inr m) = g x w m

pub form : {A B : Type 0} {f : B → A} {L : B → Language} (N : A → Language) → ((b : B) (w : Word) → L b w → N (f b) w) → (x : A) (w : Word) → Image f L x w → N x w
form N g x w (b, eq, l) = from N eq (g b w l)

-- ---- rules

-- one part that is kept, and what follows
pub keep : {limit : ℕ} {A B C : Type 0} {s t : Sets} {L : A → Language} {M : A → B → Language} {f : A → B → C} {p : Reader A} {q : A → Reader C}
    → Rule limit s L p → ((a : A) → Rule limit t (Image (f a) (M a)) (q a)) → are_disjoint s.follow_last t.first ≡ true
    → Rule limit (then_sets s t) (Image (λ (ab : A × B). f ab.0 ab.1) (λ ab. L ab.0 ⋅ M ab.0 ab.1)) (p >>= q)
keep h k apart = same _ (seq h k apart)
    (λ x w (a, u, v, e, l, (b, eq, m)). ((a, b), eq, (u, v, e, l, m)))
    (λ x w (ab, eq, (u, v, e, l, m)). (ab.0, u, v, e, l, (ab.1, eq, m)))

-- one symbol that isn't kept, and what follows
pub skip : {limit d k : ℕ} {B C : Type 0} {s t : Sets} {M : B → Language} {f : B → C} {q : Reader C}
    → Rule limit s (Leaf d k) (symbol k) → Rule limit t (Image f M) q → are_disjoint s.follow_last t.first ≡ true
    → Rule limit (then_sets s t) (Image f (λ b. Quoted d k ⋅ M b)) (symbol k >> q)
skip h r apart = same _ (seq h (λ _. r) apart)
    (λ x w (n, u, v, e, i, (b, eq, m)). (b, eq, (u, v, e, (n, i), m)))
    (λ x w (b, eq, (u, v, e, (n, i), m)). (n, u, v, e, i, (b, eq, m)))

-- one symbol that isn't kept, and a part
pub lead : {limit d k : ℕ} {C : Type 0} {s t : Sets} {M : C → Language} {q : Reader C}
    → Rule limit s (Leaf d k) (symbol k) → Rule limit t M q → are_disjoint s.follow_last t.first ≡ true
    → Rule limit (then_sets s t) (λ c. Quoted d k ⋅ M c) (symbol k >> q)
lead h r apart = same _ (seq h (λ _. r) apart)
    (λ x w (n, u, v, e, i, m). (u, v, e, (n, i), m))
    (λ x w (u, v, e, (n, i), m). (n, u, v, e, i, m))

-- the last symbol, which isn't kept
pub last : {limit d k : ℕ} {C : Type 0} {s : Sets} (x : C) → Rule limit s (Leaf d k) (symbol k) → Rule limit s (Image (λ (_ : Unit {0}). x) (λ _. Quoted d k)) (symbol k >> pure x)
last c h = same _ (to (λ _. c) h)
    (λ x w (n, eq, i). (tt, eq, (n, i)))
    (λ x w (_, eq, (n, i)). (n, eq, i))
