-- Words of what is made of parts, from any number on, and words that begin with a given symbol.
use Rattle.std.proofs.Common.{◌≡◌, ℕ, suc, ◌<◌, List, [], ◌∷◌, ◌++◌, Bool, true, false, ◌||◌, ◌==◌, refl, sym, ap, ◌∙◌, subst}
use Rattle.std.proofs.lemmas.Bool.Decides.{Decides-eqb}
use Rattle.ada_base.specs.Symbols.{Symbol, Word, is_member}
use Rattle.ada_base.specs.Languages.{Language, Leaf, Quoted, Empty, ◌⋅◌, Image, Begins, Inhabited}
use Rattle.syntax_readers.proofs.Depths.{BeginsTooDeep}
use Rattle.syntax_readers.proofs.Renamings.{begins_as}
use Rattle.syntax_readers.proofs.Singles.{inhabited_leaf}
use Rattle.syntax_readers.proofs.Sequences.{begins_then}

-- the words of another value
pub sample_as : {A B : Type 0} {L : A → Language} {M : B → Language} (f : A → B) → ((a : A) (w : Word) → L a w → M (f a) w) → Inhabited L → Inhabited M
sample_as f g sample next = let (a, w, more, l, e) = sample next in (f a, w, more, g a w l, e)

pub sample_leaf : (d k : ℕ) → Inhabited (Leaf d k)
sample_leaf d k = inhabited_leaf d k

pub sample_free : (d k : ℕ) → Inhabited (λ (_ : Unit {0}). Quoted d k)
sample_free d k = sample_as (λ _. tt) (λ n w i. (n, i)) (inhabited_leaf d k)

pub sample_none : Inhabited (λ (_ : Unit {0}). Empty)
sample_none next = (tt, [], [], refl, refl)

-- one part and then another
pub sample_both : {A B : Type 0} {L : A → Language} {M : B → Language} → Inhabited L → Inhabited M → Inhabited (λ (ab : A × B). L ab.0 ⋅ M ab.1)
sample_both {A} {B} {L} {M} first second =
    begins_as (λ x w (a, u, v, e, l, (b, eq, m)). subst (λ (z : A × B). (L z.0 ⋅ M z.1) w) (sym eq) (u, v, e, l, m)) []
    (begins_then L (λ a. Image (λ (b : B). (a, b)) M) (λ a. sample_as (λ b. (a, b)) (λ b w m. (b, refl, m)) second) [] first)

-- a kind that is one of one kind
pub kind_is : (t : Symbol) (k : ℕ) → is_member (k ∷ []) t.kind ≡ true → k ≡ t.kind
kind_is t k h = at (k == t.kind) ((Decides-eqb k t.kind).0) h where
  at : (b : Bool) → (b ≡ true → k ≡ t.kind) → (b || false) ≡ true → k ≡ t.kind
  at true f e = f refl
  at false f e = absurd (no_way e) where
    no_way : false ≡ true → ⊥
    no_way q = cc

-- something for each of these kinds, and what there is for one that is a member
abbrev pub EachKind : (ℕ → Type 0) → List ℕ → Type 0
EachKind P [] = Unit {0}
EachKind P (k ∷ ks) = P k × EachKind P ks

pub for_member : {Q : Type 0} (ks : List ℕ) (kind : ℕ) → EachKind (λ k. k ≡ kind → Q) ks → is_member ks kind ≡ true → Q
for_member [] kind fs e = absurd (no_way e) where
  no_way : false ≡ true → ⊥
  no_way q = cc
for_member {Q} (k ∷ ks) kind (f, fs) e = at (k == kind) ((Decides-eqb k kind).0) e (λ r. for_member ks kind fs r) where
  at : (b : Bool) → (b ≡ true → k ≡ kind) → (b || is_member ks kind) ≡ true → (is_member ks kind ≡ true → Q) → Q
  at true g r rest = f (g refl)
  at false g r rest = rest r

-- ---- words that begin too deep

-- the first symbol of a word, which is one level too deep
pub first_held : {M : Language} (limit d : ℕ) (ks : List ℕ) (k n : ℕ) (w : Word) → limit < d → is_member ks k ≡ true → (Leaf d k n ⋅ M) w → BeginsTooDeep limit ks w
first_held limit d ks k n w over m (u, v, e, i, l) = (record { symbol = record { number = n; kind = k }; depth = d }, v, e ∙ ap (λ z. z ++ v) i, over, m)

pub first_free : {M : Language} (limit d : ℕ) (ks : List ℕ) (k : ℕ) (w : Word) → limit < d → is_member ks k ≡ true → (Quoted d k ⋅ M) w → BeginsTooDeep limit ks w
first_free {M} limit d ks k w over m (u, v, e, (n, i), l) = first_held {M = M} limit d ks k n w over m (u, v, e, i, l)

-- ---- words that begin with a symbol of a kind

pub begins_held : {A B : Type 0} {L : A → Language} {M : B → Language} (d k : ℕ) (t : Symbol) → k ≡ t.kind → (f : B → A) → ((b : B) (w : Word) → (Leaf d k t.number ⋅ M b) w → L (f b) w)
    → Inhabited M → Begins L (t ∷ [])
begins_held d k t is f g sample next =
    let (b, w, more, m, e) = sample next in
    (f b, record { symbol = t; depth = d } ∷ w, more, g b (record { symbol = t; depth = d } ∷ w) (record { symbol = t; depth = d } ∷ [], w, refl, opening, m), ap (λ z. t ∷ z) e) where
      opening : Leaf d k t.number (record { symbol = t; depth = d } ∷ [])
      opening = ap (λ z. record { symbol = record { number = t.number; kind = z }; depth = d } ∷ []) (sym is)

pub begins_free : {A B : Type 0} {L : A → Language} {M : B → Language} (d k : ℕ) (t : Symbol) → k ≡ t.kind → (f : B → A) → ((b : B) (w : Word) → (Quoted d k ⋅ M b) w → L (f b) w)
    → Inhabited M → Begins L (t ∷ [])
begins_free d k t is f g sample = begins_held d k t is f (λ b w (u, v, e, i, m). g b w (u, v, e, (t.number, i), m)) sample

-- from such words, words that begin from any number on
pub sample_of : {A : Type 0} (L : A → Language) (k : ℕ) → ((t : Symbol) → k ≡ t.kind → Begins L (t ∷ [])) → Inhabited L
sample_of L k begins next =
    let (x, w, more, l, e) = begins (record { number = next; kind = k }) refl (suc next) in (x, w, k ∷ more, l, e)
