-- Loops over cells, a cell at a time.
use Rattle.std.proofs.Common.{◌≡◌, ℕ, zero, suc, ◌+◌, ◌-◌, ◌<◌, ◌≤◌, ℤ, pos, List, [], ◌∷◌, ◌++◌, length, take, drop, set, slice_get, Some, None, refl, sym, subst, ap, ◌∙◌, arith, append_assoc}
use Rattle.std.proofs.lemmas.List.{drop_more, drop_all}
use Rattle.behaviours.specs.Paths.{Entity}
use Rattle.typed_tree.specs.declared.scalars.Scalar.{Scalar}
use Rattle.ada_meaning.specs.Values.{laid, zeros}
use Rattle.ada_meaning.specs.Stored.{Stored, bind, reads, writes}
use Rattle.ada_meaning.proofs.Cells.{get_within}
use Rattle.run_outside.specs.Outside.{Outside}
use Rattle.run_store.specs.Shows.{Image, Goes, ShowsAs, Shows}
use Rattle.run_values.specs.Values.{OrNoMemory}
use Rattle.run_values.specs.declared.ends.End.TheVariants as end
use Rattle.run_values.specs.declared.ends.End.{End}
use Rattle.run_store.proofs.Going.{goes_then, goes_ends, goes_gives, goes_fails}
use Rattle.std.specs.Prelude.{Result, Ok, Err}
use Rattle.run_parts.specs.declared.work.Work.{Work}
use Rattle.run_parts.specs.Words.{read_all, write_all}

module _ {Tells : List ℕ → Outside → Type 0} (whole : Stored (List ℤ)) (s t u : Image) (w : Work) (x : Entity) (at : ℕ) (so_far : List ℤ) (layout : List Scalar) (k : ℕ) (lt : k < length layout) (g : Goes Tells whole s (read_all w x at so_far (drop k layout)) t) where
  read_more : Goes Tells whole s (bind (reads x at) (λ v. read_all w x (at + 1) (so_far ++ v ∷ []) (drop (k + 1) layout))) t
  unfolding read_all
  read_more = go (get_within layout k lt)
    where
      go : (d : Scalar) × (slice_get layout k ≡ Some d) → Goes Tells whole s (bind (reads x at) (λ v. read_all w x (at + 1) (so_far ++ v ∷ []) (drop (k + 1) layout))) t
      go (d, e) = subst (λ ss. Goes Tells whole s (read_all w x at so_far ss) t) (drop_more layout k d lt) g

  pub read_step : (v : ℤ) (next : ℕ) (more : List ℤ) → Shows Tells (reads x at) (Ok v) t u → next ≡ at + 1 → more ≡ so_far ++ v ∷ [] → Goes Tells whole s (read_all w x next more (drop (k + 1) layout)) u
  read_step v next more h e f =
      subst (λ z. Goes Tells whole s (read_all w x z more (drop (k + 1) layout)) u) (sym e) (subst (λ z. Goes Tells whole s (read_all w x (at + 1) z (drop (k + 1) layout)) u) (sym f)
      (goes_then (λ a. a) (λ a. a) whole (reads x at) (λ v. read_all w x (at + 1) (so_far ++ v ∷ []) (drop (k + 1) layout)) s t u v read_more h))

  pub read_ends : (e : End) → Shows Tells (reads x at) (Err e) t u → Shows Tells whole (Err e) s u
  read_ends e h = goes_ends (λ a. a) (λ a. a) whole (reads x at) (λ v. read_all w x (at + 1) (so_far ++ v ∷ []) (drop (k + 1) layout)) s t u e read_more h

pub read_done : {Tells : List ℕ → Outside → Type 0} (whole : Stored (List ℤ)) (s t : Image) (w : Work) (x : Entity) (at : ℕ) (so_far : List ℤ) (layout : List Scalar) (k : ℕ) → length layout ≤ k → Goes Tells whole s (read_all w x at so_far (drop k layout)) t → Shows Tells whole (Ok so_far) s t
unfolding read_all
read_done {Tells = Tells} whole s t w x at so_far layout k le g = goes_gives (λ a. a) whole so_far s t (subst (λ ss. Goes Tells whole s (read_all w x at so_far ss) t) (drop_all k layout le) g)

drop_some : (vs : List ℤ) (k : ℕ) (v : ℤ) → slice_get vs k ≡ Some v → drop k vs ≡ v ∷ drop (k + 1) vs
drop_some [] k v e = cc
drop_some (x ∷ xs) zero v e = let q : x ≡ v = cc in rw q refl
drop_some (x ∷ xs) (suc k) v e = let q : suc k + 1 ≡ suc (k + 1) = omega arith in rw q (drop_some xs k v e)

drop_none : (vs : List ℤ) (k : ℕ) → slice_get vs k ≡ None → drop k vs ≡ []
drop_none [] zero e = refl
drop_none [] (suc k) e = refl
drop_none (x ∷ xs) zero e = cc
drop_none (x ∷ xs) (suc k) e = drop_none xs k e

module _ {Tells : List ℕ → Outside → Type 0} (whole : Stored (Unit {0})) (s t u : Image) (w : Work) (x at : ℕ) (vs : List ℤ) (k : ℕ) (v : ℤ) (is : slice_get vs k ≡ Some v) (g : Goes Tells whole s (write_all w x at (drop k vs)) t) where
  write_more : Goes Tells whole s (bind (writes x at v) (λ _. write_all w x (at + 1) (drop (k + 1) vs))) t
  unfolding write_all
  write_more = subst (λ ss. Goes Tells whole s (write_all w x at ss) t) (drop_some vs k v is) g

  pub write_step : (next : ℕ) → Shows Tells (writes x at v) (Ok tt) t u → next ≡ at + 1 → Goes Tells whole s (write_all w x next (drop (k + 1) vs)) u
  write_step next h e =
      subst (λ z. Goes Tells whole s (write_all w x z (drop (k + 1) vs)) u) (sym e)
      (goes_then (λ a. a) (λ a. a) whole (writes x at v) (λ _. write_all w x (at + 1) (drop (k + 1) vs)) s t u tt write_more h)

  pub write_ends : (e : End) → Shows Tells (writes x at v) (Err e) t u → Shows Tells whole (Err e) s u
  write_ends e h = goes_ends (λ a. a) (λ a. a) whole (writes x at v) (λ _. write_all w x (at + 1) (drop (k + 1) vs)) s t u e write_more h

pub write_done : {Tells : List ℕ → Outside → Type 0} (whole : Stored (Unit {0})) (s t : Image) (w : Work) (x at : ℕ) (vs : List ℤ) (k : ℕ) → slice_get vs k ≡ None → Goes Tells whole s (write_all w x at (drop k vs)) t → Shows Tells whole (Ok tt) s t
unfolding write_all
write_done {Tells = Tells} whole s t w x at vs k le g = goes_gives (λ a. a) whole tt s t (subst (λ ss. Goes Tells whole s (write_all w x at ss) t) (drop_none vs k le) g)

pub zeros_more : (vs ws : List ℤ) (n k : ℕ) → suc k ≤ n → vs ++ zeros (n - k) ≡ zeros n → ws ≡ vs ++ pos 0 ∷ [] → ws ++ zeros (n - (k + 1)) ≡ zeros n
zeros_more vs ws n k h e f = let m : n - k ≡ suc (n - (k + 1)) = omega arith in rw f (append_assoc vs (pos 0 ∷ []) (zeros (n - (k + 1))) ∙ (rw m at e))

pub laid_none : (cs : List ℤ) (f : ℕ) → laid cs f [] ≡ cs
laid_none [] f = refl
laid_none (c ∷ cs) zero = refl
laid_none (c ∷ cs) (suc f) = ap (λ z. c ∷ z) (laid_none cs f)

pub laid_more : (cs : List ℤ) (f k : ℕ) (vs : List ℤ) (v : ℤ) → slice_get vs k ≡ Some v → laid cs f (take (suc k) vs) ≡ set (laid cs f (take k vs)) (f + k) v
laid_more [] f k vs v e = refl
laid_more (c ∷ cs) zero zero [] v e = cc
laid_more (c ∷ cs) zero zero (o ∷ os) v e = let q : o ≡ v = cc in rw q (ap (λ z. v ∷ z) (laid_none cs zero))
laid_more (c ∷ cs) zero (suc k) [] v e = cc
laid_more (c ∷ cs) zero (suc k) (o ∷ os) v e = let q : zero + suc k ≡ suc (zero + k) = omega arith in rw q (ap (λ z. o ∷ z) (laid_more cs zero k os v e))
laid_more (c ∷ cs) (suc f) k vs v e = let q : suc f + k ≡ suc (f + k) = omega arith in rw q (ap (λ z. c ∷ z) (laid_more cs f k vs v e))

pub laid_step : (out out' cs : List ℤ) (f k : ℕ) (vs : List ℤ) (v : ℤ) → slice_get vs k ≡ Some v → out ≡ laid cs f (take k vs) → out' ≡ set out (f + k) v → out' ≡ laid cs f (take (k + 1) vs)
laid_step out out' cs f k vs v e h q = let m : k + 1 ≡ suc k = omega arith in rw m (q ∙ (rw h (sym (laid_more cs f k vs v e))))

pub laid_all : (out cs : List ℤ) (f k : ℕ) (vs : List ℤ) → slice_get vs k ≡ None → out ≡ laid cs f (take k vs) → out ≡ laid cs f vs
laid_all out cs f k vs e h = h ∙ ap (laid cs f) (take_none vs k e)
  where
    take_none : (vs : List ℤ) (k : ℕ) → slice_get vs k ≡ None → take k vs ≡ vs
    take_none [] zero e = refl
    take_none [] (suc k) e = refl
    take_none (x ∷ xs) zero e = cc
    take_none (x ∷ xs) (suc k) e = ap (λ z. x ∷ z) (take_none xs k e)

-- an answer that is known to be another
pub same_answer : {Tells : List ℕ → Outside → Type 0} {A C : Type 0} (f : C → A) (m : Stored A) (q r : Result C End) (s t : Image) → r ≡ q → ShowsAs f Tells m q s t → ShowsAs f Tells m r s t
same_answer {Tells = Tells} f m q r s t e h = subst (λ z. ShowsAs f Tells m z s t) (sym e) h

-- memory fails after a part
pub next_fails : {Tells : List ℕ → Outside → Type 0} {A : Type 0} (P : ℕ → Type 0) (whole m : Stored A) (s t : Image) (r : Result A End) (e : End) → r ≡ Err e → OrNoMemory P (Err e) → Goes Tells whole s m t → Shows Tells whole r s t
next_fails {Tells = Tells} P whole m s t r e q h g = subst (λ z. Shows Tells whole z s t) (sym q) (go e h)
  where
    go : (e : End) → OrNoMemory P (Err e) → Shows Tells whole (Err e) s t
    go (end.Left x) h = absurd h
    go end.Spent h = absurd h
    go end.NoMemory h = goes_fails (λ a. a) whole m s t g
    go end.ReadFault h = absurd h
    go end.WriteFault h = absurd h
