-- Traces that share no written place: alone, in any order, in one after the other.
use Rattle.std.proofs.Common.{◌≡◌, ℕ, ℤ, nat_eq, List, [], ◌∷◌, ◌++◌, ◌⊎◌, inl, inr, ⊎_elim, Bool, true, false, ◌&&◌, cond, refl, sym, subst, ap, ap₂, ◌∙◌, true≢false, eqb-true}
use mathlib.Core.Path.{fun_ext}
use Rattle.ada_base.specs.Input.{Held}
use Rattle.behaviours.specs.Paths.{Entity, VariableOf, ConstantOf, ThreadName, Instance, entity_eq, name_eq, instance_eq}
use Rattle.behaviours.specs.Events.{Event, Reads, Writes, Recalls, Keeps, Takes, Puts, Looks, Trace, Location, Cell, Rest, Byte, IsAt, WritesAt, Has, Touches, WritesTo, Apart, ApartFrom, AllApart, Merge, Shuffle, in_order}
use Rattle.behaviours.specs.Memory.{Memory, put, hold, step, IsRight, after, Fits, EachFits, ShuffleLaw}

-- names and instances

and_left : (a b : Bool) → (a && b) ≡ true → a ≡ true
and_left true b e = refl
and_left false b e = e

and_right : (a b : Bool) → (a && b) ≡ true → b ≡ true
and_right true b e = e
and_right false b e = absurd (true≢false (sym e))

nat_same : (m n : ℕ) → nat_eq m n ≡ true → m ≡ n
nat_same m n e = eqb-true m n e

pub name_same : (x y : ThreadName) → name_eq x y ≡ true → x ≡ y
name_same [] [] e = refl
name_same [] (j ∷ js) e = absurd (true≢false (sym e))
name_same (i ∷ is) [] e = absurd (true≢false (sym e))
name_same (i ∷ is) (j ∷ js) e = ap₂ (λ a b. a ∷ b) (nat_same i j (and_left (nat_eq i j) (name_eq is js) e)) (name_same is js (and_right (nat_eq i j) (name_eq is js) e))

pub entity_same : (x y : Entity) → entity_eq x y ≡ true → x ≡ y
entity_same (VariableOf m) (VariableOf n) e = ap VariableOf (nat_same m n e)
entity_same (VariableOf m) (ConstantOf n) e = absurd (true≢false (sym e))
entity_same (ConstantOf m) (VariableOf n) e = absurd (true≢false (sym e))
entity_same (ConstantOf m) (ConstantOf n) e = ap ConstantOf (nat_same m n e)

pub instance_same : (x y : Instance) → instance_eq x y ≡ true → x ≡ y
instance_same x y e =
    let a = and_left (nat_eq x.number y.number) (entity_eq x.object y.object && name_eq x.thread y.thread) (and_assoc (nat_eq x.number y.number) (entity_eq x.object y.object) (name_eq x.thread y.thread) e) in
    let b = and_right (nat_eq x.number y.number) (entity_eq x.object y.object && name_eq x.thread y.thread) (and_assoc (nat_eq x.number y.number) (entity_eq x.object y.object) (name_eq x.thread y.thread) e) in
    whole (nat_same x.number y.number a) (entity_same x.object y.object (and_left (entity_eq x.object y.object) (name_eq x.thread y.thread) b)) (name_same x.thread y.thread (and_right (entity_eq x.object y.object) (name_eq x.thread y.thread) b))
  where
    and_assoc : (a b c : Bool) → (a && b && c) ≡ true → (a && (b && c)) ≡ true
    and_assoc true b c e = e
    and_assoc false b c e = e

    whole : x.number ≡ y.number → x.object ≡ y.object → x.thread ≡ y.thread → x ≡ y
    whole n o t =
        ap (λ z. record { thread = z; number = x.number; object = x.object }) t
        ∙ ap (λ z. record { thread = y.thread; number = z; object = x.object }) n
        ∙ ap (λ z. record { thread = y.thread; number = y.number; object = z }) o

-- one event

-- two memories have the same at a place
abbrev pub Alike : Memory → Memory → Location Instance → Type 0
Alike m n (Cell x i) = m.cells x i ≡ n.cells x i
Alike m n Rest = m.held ≡ n.held
Alike m n (Byte k) = m.input k ≡ n.input k

cell_same : (i j : ℕ) (x y : Instance) → (nat_eq i j && instance_eq x y) ≡ true → ◌≡◌ {A = Location Instance} (Cell x i) (Cell y j)
cell_same i j x y e = ap₂ Cell (instance_same x y (and_right (nat_eq i j) (instance_eq x y) e)) (nat_same i j (and_left (nat_eq i j) (instance_eq x y) e))

pub cond_other : {A : Type 0} (b : Bool) (v w : A) → (b ≡ true → ⊥) → cond b v w ≡ w
cond_other true v w ne = absurd (ne refl)
cond_other false v w ne = refl

cond_agree : {A : Type 0} (b : Bool) (v w u : A) → w ≡ u → cond b v w ≡ cond b v u
cond_agree true v w u e = refl
cond_agree false v w u e = e

cond_swap : {A : Type 0} (b c : Bool) (u v w : A) → (b ≡ true → c ≡ true → ⊥) → cond b u (cond c v w) ≡ cond c v (cond b u w)
cond_swap true true u v w ne = absurd (ne refl refl)
cond_swap true false u v w ne = refl
cond_swap false true u v w ne = refl
cond_swap false false u v w ne = refl

put_agree : (m n : Memory) (x : Instance) (i : ℕ) (v : ℤ) (y : Location Instance) → Alike m n y → Alike (put m x i v) (put n x i v) y
put_agree m n x i v (Cell y j) e = cond_agree (nat_eq i j && instance_eq x y) v (m.cells y j) (n.cells y j) e
put_agree m n x i v Rest e = e
put_agree m n x i v (Byte k) e = e

hold_agree : (m n : Memory) (h : Held) (y : Location Instance) → Alike m n y → Alike (hold m h) (hold n h) y
hold_agree m n h (Cell y j) e = e
hold_agree m n h Rest e = refl
hold_agree m n h (Byte k) e = e

step_agree : (a : Event Instance) (m n : Memory) (y : Location Instance) → Alike m n y → Alike (step m a) (step n a) y
step_agree (Reads x i v) m n y e = e
step_agree (Writes x i v) m n y e = put_agree m n x i v y e
step_agree (Recalls h) m n y e = e
step_agree (Keeps h) m n y e = hold_agree m n h y e
step_agree (Takes k b) m n y e = e
step_agree (Puts piece) m n y e = e
step_agree Looks m n y e = e

right_frame : (a : Event Instance) (m n : Memory) → ((y : Location Instance) → IsAt a y → Alike m n y) → IsRight m a → IsRight n a
right_frame (Reads x i v) m n agree e = e ∙ agree (Cell x i) refl
right_frame (Writes x i v) m n agree e = tt
right_frame (Recalls h) m n agree e = e ∙ agree Rest refl
right_frame (Keeps h) m n agree e = tt
right_frame (Takes k b) m n agree e = e ∙ agree (Byte k) refl
right_frame (Puts piece) m n agree e = tt
right_frame Looks m n agree e = tt

alike_same : (m : Memory) (y : Location Instance) → Alike m m y
alike_same m (Cell y j) = refl
alike_same m Rest = refl
alike_same m (Byte k) = refl

pub alike_flip : (m n : Memory) (y : Location Instance) → Alike m n y → Alike n m y
alike_flip m n (Cell y j) e = sym e
alike_flip m n Rest e = sym e
alike_flip m n (Byte k) e = sym e

alike_on : (m n o : Memory) (y : Location Instance) → Alike m n y → Alike n o y → Alike m o y
alike_on m n o (Cell y j) e f = e ∙ f
alike_on m n o Rest e f = e ∙ f
alike_on m n o (Byte k) e f = e ∙ f

put_other : (m : Memory) (x : Instance) (i : ℕ) (v : ℤ) (y : Location Instance) → (◌≡◌ {A = Location Instance} (Cell x i) y → ⊥) → Alike (put m x i v) m y
put_other m x i v (Cell y j) ne = cond_other (nat_eq i j && instance_eq x y) v (m.cells y j) (λ e. ne (cell_same i j x y e))
put_other m x i v Rest ne = refl
put_other m x i v (Byte k) ne = refl

hold_other : (m : Memory) (h : Held) (y : Location Instance) → (◌≡◌ {A = Location Instance} Rest y → ⊥) → Alike (hold m h) m y
hold_other m h (Cell y j) ne = refl
hold_other m h Rest ne = absurd (ne refl)
hold_other m h (Byte k) ne = refl

step_other : (a : Event Instance) (m : Memory) (y : Location Instance) → (WritesAt a y → ⊥) → Alike (step m a) m y
step_other (Reads x i v) m y ne = alike_same m y
step_other (Writes x i v) m y ne = put_other m x i v y ne
step_other (Recalls h) m y ne = alike_same m y
step_other (Keeps h) m y ne = hold_other m h y ne
step_other (Takes k b) m y ne = alike_same m y
step_other (Puts piece) m y ne = alike_same m y
step_other Looks m y ne = alike_same m y

put_swap : (m : Memory) (x : Instance) (i : ℕ) (v : ℤ) (y : Instance) (j : ℕ) (w : ℤ) → (◌≡◌ {A = Location Instance} (Cell x i) (Cell y j) → ⊥) → put (put m x i v) y j w ≡ put (put m y j w) x i v
put_swap m x i v y j w ne =
    ap (λ f. record { cells = f; held = m.held; input = m.input })
    (fun_ext (λ z. fun_ext (λ k. cond_swap (nat_eq j k && instance_eq y z) (nat_eq i k && instance_eq x z) w v (m.cells z k) (λ e f. ne (cell_same i k x z f ∙ sym (cell_same j k y z e))))))

step_swap : (a b : Event Instance) (m : Memory) → ((y : Location Instance) → WritesAt a y → IsAt b y → ⊥) → step (step m a) b ≡ step (step m b) a
step_swap (Reads x i v) b m ne = refl
step_swap (Recalls h) b m ne = refl
step_swap (Takes k s) b m ne = refl
step_swap (Puts piece) b m ne = refl
step_swap Looks b m ne = refl
step_swap (Writes x i v) (Reads y j w) m ne = refl
step_swap (Writes x i v) (Writes y j w) m ne = put_swap m x i v y j w (λ e. ne (Cell y j) e refl)
step_swap (Writes x i v) (Recalls h) m ne = refl
step_swap (Writes x i v) (Keeps h) m ne = refl
step_swap (Writes x i v) (Takes k s) m ne = refl
step_swap (Writes x i v) (Puts piece) m ne = refl
step_swap (Writes x i v) Looks m ne = refl
step_swap (Keeps g) (Reads y j w) m ne = refl
step_swap (Keeps g) (Writes y j w) m ne = refl
step_swap (Keeps g) (Recalls h) m ne = refl
step_swap (Keeps g) (Keeps h) m ne = absurd (ne Rest refl refl)
step_swap (Keeps g) (Takes k s) m ne = refl
step_swap (Keeps g) (Puts piece) m ne = refl
step_swap (Keeps g) Looks m ne = refl

writes_at : (a : Event Instance) (y : Location Instance) → WritesAt a y → IsAt a y
writes_at (Reads x i v) y h = absurd h
writes_at (Writes x i v) y h = h
writes_at (Recalls g) y h = absurd h
writes_at (Keeps g) y h = h
writes_at (Takes k b) y h = absurd h
writes_at (Puts piece) y h = absurd h
writes_at Looks y h = absurd h

-- one trace

pub fits_frame : (tr : Trace Instance) (m n : Memory) → ((y : Location Instance) → Touches tr y → Alike m n y) → Fits m tr → Fits n tr
fits_frame [] m n agree f = tt
fits_frame (a ∷ tr) m n agree f = (right_frame a m n (λ y t. agree y (inl t)) f.0, fits_frame tr (step m a) (step n a) (λ y t. step_agree a m n y (agree y (inr t))) f.1)

pub after_other : (tr : Trace Instance) (m : Memory) (y : Location Instance) → (WritesTo tr y → ⊥) → Alike (after m tr) m y
after_other [] m y ne = alike_same m y
after_other (a ∷ tr) m y ne = alike_on (after m (a ∷ tr)) (step m a) m y (after_other tr (step m a) y (λ w. ne (inr w))) (step_other a m y (λ w. ne (inl w)))

after_step : (tr : Trace Instance) (m : Memory) (a : Event Instance) → ((y : Location Instance) → WritesAt a y → Touches tr y → ⊥) → after (step m a) tr ≡ step (after m tr) a
after_step [] m a ne = refl
after_step (b ∷ tr) m a ne = ap (λ n. after n tr) (step_swap a b m (λ y w t. ne y w (inl t))) ∙ after_step tr (step m b) a (λ y w t. ne y w (inr t))

pub after_append : (t u : Trace Instance) (m : Memory) → after m (t ++ u) ≡ after (after m t) u
after_append [] u m = refl
after_append (a ∷ t) u m = after_append t u (step m a)

pub fits_append : (t u : Trace Instance) (m : Memory) → Fits m t → Fits (after m t) u → Fits m (t ++ u)
fits_append [] u m f g = g
fits_append (a ∷ t) u m f g = (f.0, fits_append t u (step m a) f.1 g)

pub fits_split : (t u : Trace Instance) (m : Memory) → Fits m (t ++ u) → Fits m t × Fits (after m t) u
fits_split [] u m f = (tt, f)
fits_split (a ∷ t) u m f = let r = fits_split t u (step m a) f.1 in ((f.0, r.0), r.1)

pub writes_touches : (tr : Trace Instance) (y : Location Instance) → WritesTo tr y → Touches tr y
writes_touches [] y h = absurd h
writes_touches (a ∷ tr) y (inl h) = inl (writes_at a y h)
writes_touches (a ∷ tr) y (inr h) = inr (writes_touches tr y h)

-- two traces

pub apart_swap : (t u : Trace Instance) → Apart t u → Apart u t
apart_swap t u p = record { forth = λ y w h. p.back y h w; back = λ y h w. p.forth y w h }

apart_tail : (a : Event Instance) (t u : Trace Instance) → Apart (a ∷ t) u → Apart t u
apart_tail a t u p = record { forth = λ y w h. p.forth y (inr w) h; back = λ y h w. p.back y (inr h) w }

-- a write of one trace changes nothing that the other looks at
past : (a : Event Instance) (t u : Trace Instance) (m : Memory) → Apart (a ∷ t) u → (y : Location Instance) → Touches u y → Alike m (step m a) y
past a t u m p y h = alike_flip (step m a) m y (step_other a m y (λ w. p.forth y (inl w) h))

-- consistent alone, so consistent together
merge_fits : (w t u : Trace Instance) (m : Memory) → Merge t u w → Apart t u → Fits m t → Fits m u → Fits m w
merge_fits [] t u m g p f h = tt
merge_fits (a ∷ w) t u m (inl (t', e, g)) p f h =
    let f' = subst (λ z. Fits m z) e f in
    let p' = subst (λ z. Apart z u) e p in
    (f'.0, merge_fits w t' u (step m a) g (apart_tail a t' u p') f'.1 (fits_frame u m (step m a) (past a t' u m p') h))
merge_fits (a ∷ w) t u m (inr (u', e, g)) p f h =
    let h' = subst (λ z. Fits m z) e h in
    let p' = subst (λ z. Apart z t) e (apart_swap t u p) in
    (h'.0, merge_fits w t u' (step m a) g (apart_swap u' t (apart_tail a u' t p')) (fits_frame t m (step m a) (past a u' t m p') f) h'.1)

-- consistent together, so consistent alone
merge_alone : (w t u : Trace Instance) (m : Memory) → Merge t u w → Apart t u → Fits m w → Fits m t × Fits m u
merge_alone [] t u m g p f = (subst (λ z. Fits m z) (sym g.0) tt, subst (λ z. Fits m z) (sym g.1) tt)
merge_alone (a ∷ w) t u m (inl (t', e, g)) p f =
    let p' = subst (λ z. Apart z u) e p in
    let r = merge_alone w t' u (step m a) g (apart_tail a t' u p') f.1 in
    (subst (λ z. Fits m z) (sym e) (f.0, r.0), fits_frame u (step m a) m (λ y h. alike_flip m (step m a) y (past a t' u m p' y h)) r.1)
merge_alone (a ∷ w) t u m (inr (u', e, g)) p f =
    let p' = subst (λ z. Apart z t) e (apart_swap t u p) in
    let r = merge_alone w t u' (step m a) g (apart_swap u' t (apart_tail a u' t p')) f.1 in
    (fits_frame t (step m a) m (λ y h. alike_flip m (step m a) y (past a u' t m p' y h)) r.0, subst (λ z. Fits m z) (sym e) (f.0, r.1))

-- the memory after is that after one and then the other
merge_after : (w t u : Trace Instance) (m : Memory) → Merge t u w → Apart t u → after m w ≡ after (after m t) u
merge_after [] t u m g p = subst (λ z. m ≡ after (after m z) u) (sym g.0) (subst (λ z. m ≡ after m z) (sym g.1) refl)
merge_after (a ∷ w) t u m (inl (t', e, g)) p =
    let p' = subst (λ z. Apart z u) e p in
    merge_after w t' u (step m a) g (apart_tail a t' u p') ∙ ap (λ z. after (after m z) u) (sym e)
merge_after (a ∷ w) t u m (inr (u', e, g)) p =
    let p' = subst (λ z. Apart z t) e (apart_swap t u p) in
    merge_after w t u' (step m a) g (apart_swap u' t (apart_tail a u' t p')) ∙ ap (λ n. after n u') (after_step t m a (λ y w h. p'.forth y (inl w) h)) ∙ ap (λ z. after (after m t) z) (sym e)

pub merge_has : (F : Event Instance → Type 0) (w t u : Trace Instance) → Merge t u w → Has F w → Has F t ⊎ Has F u
merge_has F [] t u g h = absurd h
merge_has F (a ∷ w) t u (inl (t', e, g)) (inl h) = inl (subst (λ z. Has F z) (sym e) (inl h))
merge_has F (a ∷ w) t u (inl (t', e, g)) (inr h) = ⊎_elim (λ k. inl (subst (λ z. Has F z) (sym e) (inr k))) inr (merge_has F w t' u g h)
merge_has F (a ∷ w) t u (inr (u', e, g)) (inl h) = inr (subst (λ z. Has F z) (sym e) (inl h))
merge_has F (a ∷ w) t u (inr (u', e, g)) (inr h) = ⊎_elim inl (λ k. inr (subst (λ z. Has F z) (sym e) (inr k))) (merge_has F w t u' g h)

merge_right : (u : Trace Instance) → Merge [] u u
merge_right [] = (refl, refl)
merge_right (a ∷ u) = inr (u, refl, merge_right u)

merge_append : (t u : Trace Instance) → Merge t u (t ++ u)
merge_append [] u = merge_right u
merge_append (a ∷ t) u = inl (t, refl, merge_append t u)

-- any number of traces

pub shuffle_in_order : (ts : List (Trace Instance)) → Shuffle ts (in_order ts)
shuffle_in_order [] = refl
shuffle_in_order (t ∷ ts) = (in_order ts, shuffle_in_order ts, merge_append t (in_order ts))

apart_shuffle : (us : List (Trace Instance)) (t w : Trace Instance) → ApartFrom t us → Shuffle us w → Apart t w
apart_shuffle [] t w p s = subst (λ z. Apart t z) (sym s) (record { forth = λ y k h. h; back = λ y h k. k })
apart_shuffle (u ∷ us) t w p (v, s, g) =
    let q = apart_shuffle us t v p.1 s in
    record {
      forth = λ y k h. ⊎_elim (λ h'. p.0.forth y k h') (λ h'. q.forth y k h') (merge_has (λ a. IsAt a y) w u v g h);
      back = λ y h k. ⊎_elim (λ k'. p.0.back y h k') (λ k'. q.back y h k') (merge_has (λ a. WritesAt a y) w u v g k);
    }

each_alone : (ts : List (Trace Instance)) (m : Memory) (w : Trace Instance) → AllApart ts → Shuffle ts w → Fits m w → EachFits m ts
each_alone [] m w p s f = tt
each_alone (t ∷ ts) m w p (v, s, g) f =
    let r = merge_alone w t v m g (apart_shuffle ts t v p.0 s) f in
    (r.0, each_alone ts m v p.1 s r.1)

each_shuffle : (ts : List (Trace Instance)) (m : Memory) (w : Trace Instance) → AllApart ts → EachFits m ts → Shuffle ts w → Fits m w
each_shuffle [] m w p f s = subst (λ z. Fits m z) (sym s) tt
each_shuffle (t ∷ ts) m w p f (v, s, g) = merge_fits w t v m g (apart_shuffle ts t v p.0 s) f.0 (each_shuffle ts m v p.1 f.1 s)

one_memory : (ts : List (Trace Instance)) (m : Memory) (w : Trace Instance) → AllApart ts → Shuffle ts w → after m w ≡ after m (in_order ts)
one_memory [] m w p s = ap (after m) s
one_memory (t ∷ ts) m w p (v, s, g) = merge_after w t v m g (apart_shuffle ts t v p.0 s) ∙ one_memory ts (after m t) v p.1 s ∙ sym (after_append t (in_order ts) m)

pub shuffle_law : ShuffleLaw
shuffle_law ts m p start =
    let each = ⊎_elim (λ s. each_alone ts m s.0 p s.1 s.2) (λ f. f) start in
    (each, λ w s. record { fits = each_shuffle ts m w p each s; after = sym (one_memory ts m w p s) })
