-- A call whose actual parameters are on their way to the cells of its formals: those that are left have free cells.
use Rattle.std.proofs.Common.{◌≡◌, ℕ, ◌+◌, ◌≤◌, ℤ, List, [], ◌∷◌, length, ap, ◌∙◌, subst, le_refl, arith, inl, inr, ⊎_elim}
use Rattle.ada_meaning.specs.Stored as stored
use Rattle.ada_meaning.specs.Meaning.{Env}
use Rattle.typed_scopes.specs.Scopes.{Without}
use Rattle.ada_lower.specs.Driven.{Dyn, Fixed}
use Rattle.ada_lower.specs.Sights.{Sight}
use Rattle.ada_lower.specs.Emission.{Shape, lead, shapes_cells}
use Rattle.ada_lower.specs.Fits.{What, Ghost, Fit, Knows}
use Rattle.ada_lower.specs.Fitted.{Spot, spots}
use Rattle.ada_lower.proofs.Memory.{Extends}
use Rattle.ada_lower.proofs.Declared.{keeping, knows_kept, laid_what, laid_out, kept_what}
use Rattle.ada_lower.proofs.Blocks.{fit_unkept}
use Rattle.ada_lower.proofs.Scattered.{AreFree, ext_kept}
use Rattle.ada_lower.proofs.Spots.{Each, IsOff, IsWithin, AreApart, each_map, each_without, apart_without, spots_within, spots_apart}

-- the cells of formals, from a cell on, are free
abbrev pub HaveFree : ℕ → (ℕ → What) → List Spot → Type 0
HaveFree a w ks = Each (λ k. AreFree (a + k.at) (lead k.shape.back + k.shape.cells) w) ks

-- what is laid elsewhere leaves them free
still_free : (a e i : ℕ) (F : ℕ → ℤ → What) (xs : List ℤ) (w : ℕ → What) (ks : List Spot) → Each (IsOff e (length xs)) ks → HaveFree a w ks → HaveFree a (laid_what (a + e) i F xs w) ks
still_free a e i F xs w [] off free = tt
still_free a e i F xs w (k ∷ ks) (off, offs) (free, frees) =
    (λ j lt. laid_out (a + e) i F xs w (a + k.at + j) (⊎_elim (λ l. inr (omega (arith, l))) (λ l. inl (omega (arith, l, lt))) off) ∙ free j lt, still_free a e i F xs w ks offs frees)

pub record Passing (limit : ℕ) (cuts : ℕ → ℕ → List ℕ) (f : Fixed) (env : Env) (s : Sight) (w m : ℕ) (g G : Ghost) (ks : List Spot) : Type 0 where
  pub knows : Knows limit cuts G f s env
  pub ext : Extends g G
  pub weak : (u : stored.State) (d : Dyn) → Fit G u d → Fit g u d
  pub free : HaveFree (f.base + w) G.what ks
  pub within : Each (IsWithin m) ks
  pub apart : AreApart ks
  pub below : w + m ≤ s.scope.free
  pub room : s.scope.free ≤ s.cells

-- one takes its place
pub record Placing (limit : ℕ) (cuts : ℕ → ℕ → List ℕ) (f : Fixed) (env : Env) (s : Sight) (w m : ℕ) (g G : Ghost) (k : Spot) (zs : List Spot) : Type 0 where
  pub free : AreFree (f.base + w + k.at) (lead k.shape.back + k.shape.cells) G.what
  pub fits : k.at + (lead k.shape.back + k.shape.cells) ≤ m
  pub off : Each (IsOff k.at (lead k.shape.back + k.shape.cells)) zs
  pub rest : Passing limit cuts f env s w m g G zs

module _ {limit : ℕ} {cuts : ℕ → ℕ → List ℕ} {f : Fixed} {env : Env} {s : Sight} where
  -- none is there yet
  pub passing_none : {g : Ghost} (w : ℕ) (hs : List Shape) → w + shapes_cells hs ≤ s.scope.free → s.scope.free ≤ s.cells → AreFree (f.base + w) (shapes_cells hs) g.what → Knows limit cuts g f s env → Passing limit cuts f env s w (shapes_cells hs) g g (spots 0 hs)
  passing_none {g} w hs below room free k = record {
    knows = k;
    ext = record { top = le_refl g.top; place = λ x i p e. e; solid = λ a u ok e. e };
    weak = λ u d fit. fit;
    free = each_map (IsWithin (shapes_cells hs)) (λ k. AreFree (f.base + w + k.at) (lead k.shape.back + k.shape.cells) g.what) (spots 0 hs)
        (λ k in' j lt. (let z : f.base + w + k.at + j ≡ f.base + w + (k.at + j) = omega arith in ap g.what z) ∙ free (k.at + j) (omega (arith, lt, in'))) (spots_within hs);
    within = spots_within hs;
    apart = spots_apart 0 hs;
    below = below;
    room = room;
  }

  pub placing : {g G : Ghost} {w m : ℕ} {ks : List Spot} (k : Spot) (zs : List Spot) → Without k ks zs → Passing limit cuts f env s w m g G ks → Placing limit cuts f env s w m g G k zs
  placing {g} {G} {w} {m} {ks} k zs wo p =
      let (here, free) = each_without (λ k. AreFree (f.base + w + k.at) (lead k.shape.back + k.shape.cells) G.what) k ks zs wo p.free in
      let (fits, within) = each_without (IsWithin m) k ks zs wo p.within in
      let (off, apart) = apart_without k ks zs wo p.apart in
      record {
        free = here;
        fits = fits;
        off = off;
        rest = record { knows = p.knows; ext = p.ext; weak = p.weak; free = free; within = within; apart = apart; below = p.below; room = p.room };
      }

  -- numbers are kept where no formal is that is left
  pub passing_more : {g G : Ghost} {w m : ℕ} {zs : List Spot} (k : Spot) (e : ℕ) (vs : List ℤ) → k.at ≤ e → e + length vs ≤ k.at + (lead k.shape.back + k.shape.cells) → k.at + (lead k.shape.back + k.shape.cells) ≤ m
      → AreFree (f.base + w + e) (length vs) G.what → Each (IsOff k.at (lead k.shape.back + k.shape.cells)) zs → Passing limit cuts f env s w m g G zs → Passing limit cuts f env s w m g (keeping (f.base + w + e) vs G) zs
  passing_more {g} {G} {w} {m} {zs} k e vs low high fits free off p =
      let z : f.base + (w + e) ≡ f.base + w + e = omega arith in
      let below = p.below in
      record {
        knows = subst (λ b. Knows limit cuts (keeping b vs G) f s env) z (knows_kept (w + e) vs (omega (arith, below, high, fits)) p.room (λ j lt. (let y : f.base + (w + e) + j ≡ f.base + w + e + j = omega arith in ap G.what y) ∙ free j lt) p.knows);
        ext = record { top = p.ext.top; place = λ x i q is. p.ext.place x i q is; solid = λ a u ok is. (ext_kept (f.base + w + e) vs G free).solid a u ok (p.ext.solid a u ok is) };
        weak = λ u d fit. p.weak u d (fit_unkept (f.base + w + e) vs G free fit);
        free = still_free (f.base + w) e 0 kept_what vs G.what zs (each_map (IsOff k.at (lead k.shape.back + k.shape.cells)) (IsOff e (length vs)) zs (λ y o. ⊎_elim (λ l. inl (omega (arith, l, high))) (λ l. inr (omega (arith, l, low))) o) off) p.free;
        within = p.within;
        apart = p.apart;
        below = p.below;
        room = p.room;
      }
