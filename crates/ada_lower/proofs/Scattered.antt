-- Numbers that are kept here and there: pieces, each from a cell on.
use Rattle.std.proofs.Common.{◌≡◌, ℕ, suc, ◌+◌, ◌<◌, ◌≤◌, ℤ, List, [], ◌∷◌, ◌++◌, length, slice_get, nat_eq, refl, sym, ap, ◌∙◌, subst, le_refl, arith, ◌⊎◌, inl, inr, ⊎_elim, cond}
use Rattle.ada_meaning.specs.Stored as stored
use Rattle.ada_meaning.specs.Stored.{Address}
use Rattle.stack_code.specs.declared.code.Code.{Code}
use Rattle.ada_lower.specs.Driven.{Dyn, Fixed}
use Rattle.ada_lower.specs.Fits.{What, Other, Free, Keeps, Shows, Access, Right, Ghost, Fit, Ends, Stands as StandsFor}
use Rattle.ada_lower.proofs.Memory.{Extends, IsSolid, set_what}
use Rattle.ada_lower.proofs.Parts.{Fewer}
use Rattle.ada_lower.proofs.Declared.{keeping, laid_what, laid_out, laid_in, kept_what, among, length_in}

-- ---- cells that are laid

pub laid_at : (a i : ℕ) (F : ℕ → ℤ → What) (xs : List ℤ) (w w' : ℕ → What) (b : ℕ) → w b ≡ w' b → laid_what a i F xs w b ≡ laid_what a i F xs w' b
laid_at a i F [] w w' b e = e
laid_at a i F (x ∷ xs) w w' b e = ap (λ z. cond (nat_eq a b) (F i x) z) (laid_at (a + 1) (i + 1) F xs w w' b e)

pub laid_swap : (a i : ℕ) (F : ℕ → ℤ → What) (xs : List ℤ) (e j : ℕ) (G : ℕ → ℤ → What) (ys : List ℤ) (w : ℕ → What) (b : ℕ) → a + length xs ≤ e
    → laid_what a i F xs (laid_what e j G ys w) b ≡ laid_what e j G ys (laid_what a i F xs w) b
laid_swap a i F xs e j G ys w b le = ⊎_elim
    (λ r. let (k, v, z, is) = r in subst (λ b. laid_what a i F xs (laid_what e j G ys w) b ≡ laid_what e j G ys (laid_what a i F xs w) b) z
    (laid_out a i F xs (laid_what e j G ys w) (e + k) (inr (omega (arith, le))) ∙ laid_in e j G ys w k v is ∙ sym (laid_in e j G ys (laid_what a i F xs w) k v is)))
    (λ out. laid_at a i F xs (laid_what e j G ys w) w b (laid_out e j G ys w b out) ∙ sym (laid_out e j G ys (laid_what a i F xs w) b out))
    (among e b ys)

kept_any : (a j j' : ℕ) (vs : List ℤ) (w : ℕ → What) (b : ℕ) → laid_what a j kept_what vs w b ≡ laid_what a j' kept_what vs w b
kept_any a j j' [] w b = refl
kept_any a j j' (v ∷ vs) w b = ap (λ z. cond (nat_eq a b) (Keeps v) z) (kept_any (a + 1) (j + 1) (j' + 1) vs w b)

pub laid_split : (a i j : ℕ) (xs ys : List ℤ) (w : ℕ → What) (b : ℕ) → laid_what a i kept_what (xs ++ ys) w b ≡ laid_what a i kept_what xs (laid_what (a + length xs) j kept_what ys w) b
laid_split a i j [] ys w b = let z : a ≡ a + 0 = omega arith in kept_any a i j ys w b ∙ ap (λ n. laid_what n j kept_what ys w b) z
laid_split a i j (x ∷ xs) ys w b =
    let z : a + 1 + length xs ≡ a + suc (length xs) = omega arith in
    ap (λ z. cond (nat_eq a b) (Keeps x) z) (laid_split (a + 1) (i + 1) j xs ys w b ∙ ap (λ n. laid_what (a + 1) (i + 1) kept_what xs (laid_what n j kept_what ys w) b) z)

-- in either order
pub laid_apart : (a i : ℕ) (F : ℕ → ℤ → What) (xs : List ℤ) (e j : ℕ) (G : ℕ → ℤ → What) (ys : List ℤ) (w : ℕ → What) (b : ℕ) → (a + length xs ≤ e) ⊎ (e + length ys ≤ a)
    → laid_what a i F xs (laid_what e j G ys w) b ≡ laid_what e j G ys (laid_what a i F xs w) b
laid_apart a i F xs e j G ys w b (inl le) = laid_swap a i F xs e j G ys w b le
laid_apart a i F xs e j G ys w b (inr le) = sym (laid_swap e j G ys a i F xs w b le)

-- ---- pieces

pub record Piece : Type 0 where
  pub at : ℕ
  pub cells : List ℤ

-- each is laid over those before it
abbrev pub scattered : ℕ → List Piece → (ℕ → What) → ℕ → What
scattered a [] w b = w b
scattered a (p ∷ ps) w b = scattered a ps (laid_what (a + p.at) 0 kept_what p.cells w) b

-- of so many cells from one on none is theirs
abbrev pub IsClear : ℕ → ℕ → List Piece → Type 0
IsClear e n [] = Unit {0}
IsClear e n (p ∷ ps) = ((e + n ≤ p.at) ⊎ (p.at + length p.cells ≤ e)) × IsClear e n ps

-- theirs are among so many
abbrev pub AreIn : ℕ → List Piece → Type 0
AreIn m [] = Unit {0}
AreIn m (p ∷ ps) = (p.at + length p.cells ≤ m) × AreIn m ps

pub clear_part : (e n e' n' : ℕ) (ps : List Piece) → e ≤ e' → e' + n' ≤ e + n → IsClear e n ps → IsClear e' n' ps
clear_part e n e' n' [] low high off = tt
clear_part e n e' n' (p ∷ ps) low high (off, rest) = (⊎_elim (λ l. inl (omega (arith, l, high))) (λ l. inr (omega (arith, l, low))) off, clear_part e n e' n' ps low high rest)

pub scattered_at : (a : ℕ) (ps : List Piece) (w w' : ℕ → What) (b : ℕ) → w b ≡ w' b → scattered a ps w b ≡ scattered a ps w' b
scattered_at a [] w w' b e = e
scattered_at a (p ∷ ps) w w' b e = scattered_at a ps (laid_what (a + p.at) 0 kept_what p.cells w) (laid_what (a + p.at) 0 kept_what p.cells w') b (laid_at (a + p.at) 0 kept_what p.cells w w' b e)

pub scattered_off : (a e n k : ℕ) (ps : List Piece) (w : ℕ → What) → IsClear e n ps → k < n → scattered a ps w (a + (e + k)) ≡ w (a + (e + k))
scattered_off a e n k [] w off lt = refl
scattered_off a e n k (p ∷ ps) w (off, rest) lt =
    scattered_off a e n k ps (laid_what (a + p.at) 0 kept_what p.cells w) rest lt
    ∙ laid_out (a + p.at) 0 kept_what p.cells w (a + (e + k)) (⊎_elim (λ l. inl (omega (arith, l, lt))) (λ l. inr (omega (arith, l))) off)

pub scattered_swap : (a e i : ℕ) (F : ℕ → ℤ → What) (xs : List ℤ) (ps : List Piece) (w : ℕ → What) (b : ℕ) → IsClear e (length xs) ps → laid_what (a + e) i F xs (scattered a ps w) b ≡ scattered a ps (laid_what (a + e) i F xs w) b
scattered_swap a e i F xs [] w b off = refl
scattered_swap a e i F xs (p ∷ ps) w b (off, rest) =
    scattered_swap a e i F xs ps (laid_what (a + p.at) 0 kept_what p.cells w) b rest
    ∙ scattered_at a ps (laid_what (a + e) i F xs (laid_what (a + p.at) 0 kept_what p.cells w)) (laid_what (a + p.at) 0 kept_what p.cells (laid_what (a + e) i F xs w)) b
    (laid_apart (a + e) i F xs (a + p.at) 0 kept_what p.cells w b (⊎_elim (λ l. inl (omega (arith, l))) (λ l. inr (omega (arith, l))) off))

-- two pieces, one behind the other, are laid first or last
pub two_outer : (a e : ℕ) (xs ys : List ℤ) (ps : List Piece) (w : ℕ → What) (b : ℕ) → IsClear e (length xs + length ys) ps
    → scattered a ps (laid_what (a + (e + length xs)) 0 kept_what ys (laid_what (a + e) 0 kept_what xs w)) b ≡ laid_what (a + e) 0 kept_what xs (laid_what (a + (e + length xs)) 0 kept_what ys (scattered a ps w)) b
two_outer a e xs ys ps w b off =
    let inner : (ℕ → What) = laid_what (a + (e + length xs)) 0 kept_what ys w in
    scattered_at a ps (laid_what (a + (e + length xs)) 0 kept_what ys (laid_what (a + e) 0 kept_what xs w)) (laid_what (a + e) 0 kept_what xs inner) b (laid_apart (a + (e + length xs)) 0 kept_what ys (a + e) 0 kept_what xs w b (inr (omega arith)))
    ∙ sym (scattered_swap a e 0 kept_what xs ps inner b (clear_part e (length xs + length ys) e (length xs) ps (omega arith) (omega arith) off))
    ∙ laid_at (a + e) 0 kept_what xs (scattered a ps inner) (laid_what (a + (e + length xs)) 0 kept_what ys (scattered a ps w)) b
    (sym (scattered_swap a (e + length xs) 0 kept_what ys ps w b (clear_part e (length xs + length ys) (e + length xs) (length ys) ps (omega arith) (omega arith) off)))

-- the cell is one of theirs
abbrev pub IsTheirs : ℕ → List Piece → ℕ → Type 0
IsTheirs a [] b = ⊥
IsTheirs a (p ∷ ps) b = ((k : ℕ) × (a + (p.at + k) ≡ b) × (k < length p.cells)) ⊎ IsTheirs a ps b

pub scattered_cases : (a : ℕ) (ps : List Piece) (w : ℕ → What) (b : ℕ) → (scattered a ps w b ≡ w b) ⊎ ((v : ℤ) × (scattered a ps w b ≡ Keeps v) × IsTheirs a ps b)
scattered_cases a [] w b = inl refl
scattered_cases a (p ∷ ps) w b =
    let w' : (ℕ → What) = laid_what (a + p.at) 0 kept_what p.cells w in
    ⊎_elim
    (λ e. ⊎_elim
    (λ r. let (k, v, z, is) = r in inr (v, e ∙ sym (ap w' z) ∙ laid_in (a + p.at) 0 kept_what p.cells w k v is, inl (k, (let y : a + (p.at + k) ≡ b = omega (arith, z) in y), length_in p.cells k v is)))
    (λ out. inl (e ∙ laid_out (a + p.at) 0 kept_what p.cells w b out))
    (among (a + p.at) b p.cells))
    (λ r. let (v, e, t) = r in inr (v, e, inr t))
    (scattered_cases a ps w' b)

pub theirs_in : (a m : ℕ) (ps : List Piece) (b : ℕ) → AreIn m ps → IsTheirs a ps b → (k : ℕ) × (a + k ≡ b) × (k < m)
theirs_in a m [] b in' t = absurd t
theirs_in a m (p ∷ ps) b (here, rest) (inl (k, z, lt)) = (p.at + k, z, omega (arith, lt, here))
theirs_in a m (p ∷ ps) b (here, rest) (inr t) = theirs_in a m ps b rest t

-- ---- ghosts

abbrev pub scattering : ℕ → List Piece → Ghost → Ghost
scattering a ps g = record g { what = scattered a ps g.what }

abbrev pub AreFree : ℕ → ℕ → (ℕ → What) → Type 0
AreFree a m w = (k : ℕ) → k < m → w (a + k) ≡ Free

pub theirs_free : (a m : ℕ) (ps : List Piece) (w : ℕ → What) (b : ℕ) → AreIn m ps → AreFree a m w → IsTheirs a ps b → w b ≡ Free
theirs_free a m ps w b in' free t = let (k, z, lt) = theirs_in a m ps b in' t in ap w (sym z) ∙ free k lt

-- numbers that were kept aren't any more
pub fit_unscattered : (a m : ℕ) (ps : List Piece) (g : Ghost) {s : stored.State} {d : Dyn} → AreIn m ps → AreFree a m g.what → Fit (scattering a ps g) s d → Fit g s d
fit_unscattered a m ps g {s} {d} in' free w = record {
  here = w.here;
  everywhere = w.everywhere;
  declared = w.declared;
  frame = w.frame;
  top = w.top;
  least = w.least;
  most = w.most;
  agrees = w.agrees;
  plan = w.plan;
  order = w.order;
  cells = λ b. ⊎_elim
      (λ e. subst (λ z. Right z s (slice_get d.cells b)) e (w.cells b))
      (λ r. let (v, e, t) = r in subst (λ y. Right y s (slice_get d.cells b)) (sym (theirs_free a m ps g.what b in' free t)) (v, subst (λ y. Right y s (slice_get d.cells b)) e (w.cells b)))
      (scattered_cases a ps g.what b);
}

keeps_stands : (v : ℤ) (x : Access) (p : Address) → Keeps v ≡ StandsFor x p → ⊥
keeps_stands v x p e = cc

pub stands_scattered : (a : ℕ) (ps : List Piece) (w : ℕ → What) (b : ℕ) (z : Access) (p : Address) → scattered a ps w b ≡ StandsFor z p → w b ≡ StandsFor z p
stands_scattered a ps w b z p e = ⊎_elim (λ r. sym r ∙ e) (λ t. let (v, is, theirs) = t in absurd (keeps_stands v z p (sym is ∙ e))) (scattered_cases a ps w b)

pub scattered_stands : (a m : ℕ) (ps : List Piece) (w : ℕ → What) (b : ℕ) (z : Access) (p : Address) → AreIn m ps → AreFree a m w → w b ≡ StandsFor z p → scattered a ps w b ≡ StandsFor z p
scattered_stands a m ps w b z p in' free e = ⊎_elim (λ r. r ∙ e) (λ t. let (v, is, theirs) = t in absurd (let q : Free ≡ StandsFor z p = sym (theirs_free a m ps w b in' free theirs) ∙ e in cc)) (scattered_cases a ps w b)

pub fewer_scattered : (limit : ℕ) (c : Code) (f : Fixed) (x : Ends) (a m : ℕ) (ps : List Piece) (g : Ghost) → AreIn m ps → AreFree a m g.what → Fewer limit c f x (scattering a ps g) g
fewer_scattered limit c f x a m ps g in' free b y p e = inl (scattered_stands a m ps g.what b y p in' free e)

loose_solid : (u : What) → IsSolid u → Free ≡ u → ⊥
loose_solid Other ok e = ok
loose_solid Free ok e = ok
loose_solid (Keeps v) ok e = cc
loose_solid (Shows v) ok e = cc
loose_solid (StandsFor x p) ok e = cc

pub ext_scattered : (a m : ℕ) (ps : List Piece) (g : Ghost) → AreIn m ps → AreFree a m g.what → Extends g (scattering a ps g)
ext_scattered a m ps g in' free = record {
  top = le_refl g.top;
  place = λ z i p e. e;
  solid = λ b w ok e. ⊎_elim (λ r. r ∙ e) (λ t. let (v, is, theirs) = t in absurd (loose_solid w ok (sym (theirs_free a m ps g.what b in' free theirs) ∙ e))) (scattered_cases a ps g.what b);
}

pub ext_kept : (a : ℕ) (vs : List ℤ) (g : Ghost) → AreFree a (length vs) g.what → Extends g (keeping a vs g)
ext_kept a vs g free = record {
  top = le_refl g.top;
  place = λ z i p e. e;
  solid = λ b w ok e. ⊎_elim
      (λ r. let (j, v, z, is) = r in absurd (loose_solid w ok (sym (free j (length_in vs j v is)) ∙ ap g.what z ∙ e)))
      (λ out. laid_out a 0 kept_what vs g.what b out ∙ e)
      (among a b vs);
}

-- two numbers that are kept in turn, the second one first
pub both_kept : (n : ℕ) (a v : ℤ) (g : Ghost) (b : ℕ) → (set_what n (Keeps a) (set_what (n + 1) (Keeps v) g)).what b
    ≡ (scattering n (record { at = 0; cells = [] } ∷ record { at = 0 + 0; cells = a ∷ [] } ∷ record { at = 1; cells = [] } ∷ record { at = 1 + 0; cells = v ∷ [] } ∷ []) g).what b
both_kept n a v g b =
    let z : n ≡ n + (0 + 0) = omega arith in
    laid_swap n 0 kept_what (a ∷ []) (n + 1) 0 kept_what (v ∷ []) g.what b (omega arith)
    ∙ ap (λ m. laid_what (n + 1) 0 kept_what (v ∷ []) (laid_what m 0 kept_what (a ∷ []) g.what) b) z
