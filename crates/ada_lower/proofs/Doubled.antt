-- Cells that are copied behind themselves.
use Rattle.std.proofs.Common.{◌≡◌, ℕ, zero, suc, ◌+◌, ◌-◌, ◌*◌, ◌<◌, ◌≤◌, min, nat_lt, ℤ, pos, List, [], ◌∷◌, ◌++◌, length, slice_get, Option, Some, None, Bool, true, false, cond, refl, sym, ap, ◌∙◌, subst, le_refl, arith, inr, append_assoc, length-append, suc-mul, zero-mul, ltb-true, ltb-false, mul-le-mul_right}
use Rattle.std.proofs.Math.Nat.{min-le_left, min-le_right, add-mul}
use Rattle.ada_meaning.specs.Stored as stored
use Rattle.ada_meaning.specs.Values
use Rattle.ada_meaning.proofs.Cells.{get_left}
use Rattle.stack_code.specs.declared.code.Code.{Code}
use Rattle.stack_code.specs.declared.instr.Instr.TheVariants as i
use Rattle.stack_code.specs.Deeds.{GoesOn, loads_all, stores_all}
use Rattle.stack_code.specs.Machine.{done}
use Rattle.ada_lower.specs.Driven.{Dyn, Fixed, On, on, state_of, driven, At}
use Rattle.ada_lower.specs.Sights.{Scope, Stands, none, one, ◌⨟◌}
use Rattle.ada_lower.specs.Emission
use Rattle.ada_lower.specs.Fits.{Keeps, Ghost, Fit, Ends}
use Rattle.ada_lower.proofs.Framework.{To, comes_here, comes_on, comes_goes, comes_as}
use Rattle.ada_lower.proofs.Memory.{IsOwn, fit_alike}
use Rattle.ada_lower.proofs.Standing.{stands_seq}
use Rattle.ada_lower.proofs.Declared.{keeping, laid_out, laid_in, laid_what, kept_what}
use Rattle.ada_lower.proofs.Scattered.{laid_split, laid_swap}
use Rattle.ada_lower.proofs.Copies.{loads_done, stores_done, kept_there}

-- ---- the same numbers, so many times

abbrev pub many : ℕ → List ℤ → List ℤ
many zero cs = []
many (suc n) cs = cs ++ many n cs

pub many_length : (n : ℕ) (cs : List ℤ) → length (many n cs) ≡ n * length cs
many_length zero cs = sym (zero-mul (length cs))
many_length (suc n) cs = let e : length (many n cs) ≡ n * length cs = many_length n cs in length-append cs (many n cs) ∙ (let z : length cs + length (many n cs) ≡ suc n * length cs = omega (arith, e, suc-mul n (length cs)) in z)

pub many_more : (n m : ℕ) (cs : List ℤ) → many n cs ++ many m cs ≡ many (n + m) cs
many_more zero m cs = let z : m ≡ 0 + m = omega arith in ap (λ n. many n cs) z
many_more (suc n) m cs = let z : suc (n + m) ≡ suc n + m = omega arith in append_assoc cs (many n cs) (many m cs) ∙ ap (λ z. cs ++ z) (many_more n m cs) ∙ ap (λ n. many n cs) z

pub many_fewer : (n m k : ℕ) (cs : List ℤ) (v : ℤ) → m ≤ n → slice_get (many m cs) k ≡ Some v → slice_get (many n cs) k ≡ Some v
many_fewer n m k cs v le e =
    let z : m + (n - m) ≡ n = omega (arith, le) in
    ap (λ w. slice_get w k) (ap (λ w. many w cs) (sym z) ∙ sym (many_more m (n - m) cs)) ∙ get_left (many m cs) (many (n - m) cs) k v e

-- numbers are laid over others one part after another
pub laid_append : (cur cs ds : List ℤ) (first next : ℕ) → next ≡ first + length cs → Values.laid (Values.laid cur first cs) next ds ≡ Values.laid cur first (cs ++ ds)
laid_append [] cs ds first next e = refl
laid_append (c ∷ cur) [] ds zero next e = ap (λ n. Values.laid (c ∷ cur) n ds) e
laid_append (c ∷ cur) (o ∷ os) ds zero zero e = absurd (omega (arith, e))
laid_append (c ∷ cur) (o ∷ os) ds zero (suc next) e = ap (λ zs. o ∷ zs) (laid_append cur os ds zero next (omega (arith, e)))
laid_append (c ∷ cur) cs ds (suc first) zero e = absurd (omega (arith, e))
laid_append (c ∷ cur) cs ds (suc first) (suc next) e = ap (λ zs. c ∷ zs) (laid_append cur cs ds first next (omega (arith, e)))

-- ---- the machine

module _ (limit : ℕ) (cuts : ℕ → ℕ → List ℕ) (c : Code) (f : Fixed) (x : Ends) where
  -- numbers that are kept are copied to own cells
  pub copy_comes : {g : Ghost} {t : stored.State} {d : Dyn} {q : ℕ} {e : Option ℕ} (vs : List ℤ) (a b n : ℕ) (st : List ℤ) → length vs ≡ n → ((k : ℕ) (v : ℤ) → slice_get vs k ≡ Some v → g.what (a + k) ≡ Keeps v) → ((k : ℕ) → k < n → IsOwn (g.what (b + k)))
      → At c q (i.Copy n) e → Fit g t d → (d' : Dyn) × Fit (keeping b vs g) t d' × To limit c (on f q (pos a ∷ pos b ∷ st) d) (on f (q + 1) st d')
  copy_comes {g} {t} {d} {q} vs a b n st len kept own at fit =
      let (d', fit', is, same) = stores_done limit cuts c f x {g = g} {t = t} vs b q (pos a ∷ pos b ∷ st) (GoesOn (q + 1) (st ++ f.below)) d (λ k lt. own k (omega (arith, lt, len))) fit in (
        d',
        fit',
        comes_as limit c f (pos a ∷ pos b ∷ st) d at
            (ap (λ m. driven limit c (done limit (loads_all m (pos a) (λ vs. stores_all vs (pos b) (GoesOn (q + 1) (st ++ f.below)))) (state_of f q (pos a ∷ pos b ∷ st) [] None d)) d.world) (sym len)
            ∙ ap (λ w. driven limit c w d.world) (loads_done limit cuts c f x vs a (λ vs. stores_all vs (pos b) (GoesOn (q + 1) (st ++ f.below))) (state_of f q (pos a ∷ pos b ∷ st) [] None d) (kept_there limit cuts c f x {t = t} {d = d} g vs a kept fit))
            ∙ ap (λ w. driven limit c w d.world) is
            ∙ ap (λ w. On (record { state = state_of f (q + 1) st [] None d'; world = w })) (sym same)),
      )

  -- what is kept behind what is kept
  pub kept_behind : (a b : ℕ) (us vs : List ℤ) (g : Ghost) → b ≡ a + length us → (k : ℕ) → (keeping b vs (keeping a us g)).what k ≡ (keeping a (us ++ vs) g).what k
  kept_behind a b us vs g place k =
      ap (λ m. laid_what m 0 kept_what vs (laid_what a 0 kept_what us g.what) k) place
      ∙ sym (laid_split a 0 0 us vs g.what k ∙ laid_swap a 0 kept_what us (a + length us) 0 kept_what vs g.what k (le_refl (a + length us)))

  at_least : (p q : ℕ) → 1 ≤ p → 1 ≤ q → 1 ≤ min p q
  at_least zero q a b = absurd (omega (arith, a))
  at_least (suc p) zero a b = absurd (omega (arith, b))
  at_least (suc p) (suc q) a b = omega arith

  pub doubled_comes : (g : Ghost) (t : stored.State) (d : Dyn) (s : Scope) (h first size steps done' count from to : ℕ) (cs st : List ℤ) → length cs ≡ size → 1 ≤ done' → done' ≤ count → count ≤ done' + steps → ((k : ℕ) → k < count * size → IsOwn (g.what (f.base + first + k)))
      → Stands c (Emission.doubled s h first size steps done' count) from to → Fit (keeping (f.base + first) (many done' cs) g) t d
      → (d' : Dyn) × Fit (keeping (f.base + first) (many count cs) g) t d' × To limit c (on f from st d) (on f to st d')
  doubled_comes g t d s h first size zero done' count from to cs st len some le enough own l fit =
      let z : done' ≡ count = omega (arith, le, enough) in
      (d, subst (λ n. Fit (keeping (f.base + first) (many n cs) g) t d) z fit, subst (λ q. To limit c (on f from st d) (on f q st d)) (sym l) (comes_here limit c (on f from st d)))
  doubled_comes g t d s h first size (suc steps) done' count from to cs st len some le enough own l fit = go (nat_lt done' count) refl l
      (λ lt mid d1 l2 fit2. doubled_comes g t d1 s h first size steps (done' + min done' (count - done')) count mid to cs st len (omega (arith, some)) (let z : min done' (count - done') ≤ count - done' = min-le_right done' (count - done') in omega (arith, z, lt)) (let z : 1 ≤ min done' (count - done') = at_least done' (count - done') some (omega (arith, lt)) in omega (arith, enough, z)) own l2 fit2)
    where
      m : ℕ
      m = min done' (count - done')

      copied : Rattle.ada_lower.specs.Sights.Emit
      copied = one s h (i.Local (first + done' * size)) ⨟ one s (h + 1) (i.Local first) ⨟ one s (h + 1 + 1) (i.Copy (m * size))

      go : (b : Bool) → nat_lt done' count ≡ b → Stands c (cond b (copied ⨟ Emission.doubled s h first size steps (done' + m) count) none) from to
          → (done' < count → (mid : ℕ) (d1 : Dyn) → Stands c (Emission.doubled s h first size steps (done' + m) count) mid to → Fit (keeping (f.base + first) (many (done' + m) cs) g) t d1 → (d' : Dyn) × Fit (keeping (f.base + first) (many count cs) g) t d' × To limit c (on f mid st d1) (on f to st d'))
          → (d' : Dyn) × Fit (keeping (f.base + first) (many count cs) g) t d' × To limit c (on f from st d) (on f to st d')
      go false e l more =
          let ge : count ≤ done' = ltb-false done' count e in
          let z : done' ≡ count = omega (arith, le, ge) in
          (d, subst (λ n. Fit (keeping (f.base + first) (many n cs) g) t d) z fit, subst (λ q. To limit c (on f from st d) (on f q st d)) (sym l) (comes_here limit c (on f from st d)))
      go true e l more =
          let lt : done' < count = ltb-true done' count e in
          let m1 : m ≤ done' = min-le_left done' (count - done') in
          let m2 : m ≤ count - done' = min-le_right done' (count - done') in
          let a : ℕ = f.base + first in
          let us : List ℤ = many done' cs in
          let vs : List ℤ = many m cs in
          let ul : length us ≡ done' * size = subst (λ n. length us ≡ done' * n) len (many_length done' cs) in
          let vl : length vs ≡ m * size = subst (λ n. length vs ≡ m * n) len (many_length m cs) in
          let place : f.base + (first + done' * size) ≡ a + length us = omega (arith, ul) in
          let room : (done' + m) * size ≤ count * size = mul-le-mul_right size (let z : done' + m ≤ count = omega (arith, m2, lt) in z) in
          let both : (done' + m) * size ≡ done' * size + m * size = add-mul done' m size in
          let (mid, l1, l2) = stands_seq c from to copied (Emission.doubled s h first size steps (done' + m) count) l in
          let (j1, (j2, (j3, z))) = l1 in
          let (d1, fit1, goes) = copy_comes {g = keeping a us g} {t = t} {d = d} vs a (f.base + (first + done' * size)) (m * size) st vl
          (λ k v is. laid_in a 0 kept_what us g.what k v (many_fewer done' m k cs v m1 is))
          (λ k below. let w : f.base + (first + done' * size) + k ≡ a + (done' * size + k) = omega arith in
          subst (λ w. IsOwn w) (sym (ap (keeping a us g).what w ∙ laid_out a 0 kept_what us g.what (a + (done' * size + k)) (inr (omega (arith, ul)))))
          (own (done' * size + k) (omega (arith, below, room, both))))
          j3 fit in
          let fit2 : Fit (keeping a (many (done' + m) cs) g) t d1 = subst (λ w. Fit (keeping a w g) t d1) (many_more done' m cs) (fit_alike (keeping a (us ++ vs) g).what (kept_behind a (f.base + (first + done' * size)) us vs g place) fit1) in
          let (d2, fit3, goes') = more lt mid d1 l2 fit2 in (
            d2,
            fit3,
            comes_on limit c (comes_goes limit c f st (from + 1) (pos (f.base + (first + done' * size)) ∷ st) d j1 refl)
                (comes_on limit c (comes_goes limit c f (pos (f.base + (first + done' * size)) ∷ st) (from + 1 + 1) (pos a ∷ pos (f.base + (first + done' * size)) ∷ st) d j2 refl)
                (comes_on limit c (subst (λ q. To limit c (on f (from + 1 + 1) (pos a ∷ pos (f.base + (first + done' * size)) ∷ st) d) (on f q st d1)) (sym z) goes) goes')),
          )
