-- AreSeparated paths lead to different cells, where the parameters of two iterations differ.
use Rattle.std.proofs.Common.{◌≡◌, ℕ, suc, ◌+◌, ◌<◌, ◌≤◌, ℤ, ◌+ℤ◌, ◌-ℤ◌, List, [], ◌∷◌, ⊎_elim, inl, inr, Option, Some, None, Bool, true, false, sym, subst, ap, ◌∙◌, refl, arith}
use Rattle.behaviours.specs.Doings.{through}
use Rattle.behaviours.specs.Paths.{VariableOf, ConstantOf, Instance, Path, Scope, enter}
use Rattle.behaviours.specs.Events.{Reads, Writes, Recalls, Keeps, Takes, Puts, Looks, Trace}
use Rattle.behaviours.specs.Joins.{Now, Site, Share, deal}
use Rattle.behaviours.specs.Behaviours.{Behaviour, Asks, MayTrace, within, asks_apart}
use Rattle.ada_meaning.specs.Shapes.{Shape, object_shape}
use Rattle.typed_tree.specs.Syntax.{Program}
use Rattle.check_effects.specs.Effects.{Access, Construct, Holds, InThread}
use Rattle.check_effects.specs.Conflicts.{LiesUnder, Distinct, LoopsDiffer, Compared, AreSeparated, IsLaid, IsClean, InProgram, Follows, path}
use Rattle.check_effects.specs.Covered.{site_of, arm_of, AreDistinct, IsSeen, AllCovered, EachCovered, ItemsLie, items_of, asks_covered}
use Rattle.check_effects.proofs.Good.{Allowed, Good, Lives, lives_on, Seen, Okay, Each}
use Rattle.check_effects.proofs.Teams.{Either, sum, under, Theirs, theirs, one_of, asked}
use Rattle.behaviours.specs.Behaviours
use Rattle.ada_meaning.proofs.Ties.{goes_enter}
use Rattle.std.proofs.Math.IntN.{+ℤ-neg_ℤ_cancel}
use Rattle.check_effects.proofs.Coordinates.{Loose, LeadsIn, converts, in_item, unlike}
use Rattle.check_effects.proofs.Scenes.{Exact, either_effect}

-- what is to be shown of separated accesses
abbrev pub SeparationLaw : Type 0
SeparationLaw = (program : Program) (now then : Now) → Distinct now then → (a b : Access) → a.object ≡ b.object → IsLaid program a → IsLaid program b → AreSeparated a b → (n : ℕ) → LiesUnder now a n → LiesUnder then b n → ⊥

some_none : {x : ℤ} → Some x ≡ None → ⊥
some_none e = cc

same_start : (x y c v w : ℤ) → v ≡ x +ℤ c → w ≡ y +ℤ c → v ≡ w → x ≡ y
same_start x y c v w f g e = sym (+ℤ-neg_ℤ_cancel x c) ∙ ap (λ z. z -ℤ c) (sym f ∙ e ∙ g) ∙ +ℤ-neg_ℤ_cancel y c

pub separation : SeparationLaw
separation program now then d a b same la lb (inl ne) n (o, m, leads, lt, e) (o', m', leads', lt', e') = ne same
separation program now then d a b same la lb (inr differ) n (o, m, leads, lt, e) (o', m', leads', lt', e') =
    unlike now then d.chunk (loops now.loop then.loop d.loops) (path a.steps) (path b.steps) t n (subst (λ z. LeadsIn now t (path a.steps) z) place (ca.2)) (subst (λ z. LeadsIn then t (path b.steps) z) place' (cb.2)) differ
    (λ none none' h g. apart now.loop then.loop d.loops none none' (in_item now t a.steps a.cells 0 o m none h la leads lt) (in_item then t b.steps b.cells 0 o' m' none' g lb' leads' lt'))
  where
    t : Shape
    t = object_shape program a.object

    lb' : Follows (object_shape program a.object) b.steps b.cells
    lb' = subst (λ z. Follows (object_shape program z) b.steps b.cells) (sym same) lb

    ca : (k : ℕ) × (o + m ≡ 0 + k) × LeadsIn now (object_shape program a.object) (path a.steps) k
    ca = converts now (object_shape program a.object) a.steps a.cells 0 o m la leads lt

    cb : (k : ℕ) × (o' + m' ≡ 0 + k) × LeadsIn then (object_shape program a.object) (path b.steps) k
    cb = converts then (object_shape program a.object) b.steps b.cells 0 o' m' lb' leads' lt'

    place : ca.0 ≡ n
    place = let q = ca.1 in omega arith

    place' : cb.0 ≡ n
    place' = let q = cb.1 in omega arith

    loops : (x y : Option ℤ) → LoopsDiffer now then x y → (c v w : ℤ) → Loose x c v → Loose y c w → v ≡ w → (x ≡ None) × (y ≡ None)
    loops (Some x) (Some y) l c v w f g q = absurd (l (same_start x y c v w f g q))
    loops None None l c v w f g q = (refl, refl)
    loops (Some x) None l c v w f g q = absurd l
    loops None (Some y) l c v w f g q = absurd l

    apart : (x y : Option ℤ) → LoopsDiffer now then x y → x ≡ None → y ≡ None → (now.first ≤ o + m) × (o + m < now.first + now.size) → (then.first ≤ o' + m') × (o' + m' < then.first + then.size) → ⊥
    apart None None l p q i j = let i0 = i.0 in let i1 = i.1 in let j0 = j.0 in let j1 = j.1 in l n (omega arith) (omega arith) (omega arith) (omega arith)
    apart (Some x) y l p q i j = absurd (some_none p)
    apart None (Some y) l p q i j = absurd (some_none q)

-- what is to be shown of the threads of a construct that is fine: all that is demanded of them
abbrev pub TeamLaw : Program → (Construct → Type 0) → Asks Instance → Type 1
TeamLaw program fine demands =
    (A : Type 0) (first_value : A) (f : ℕ → ℕ → A → Behaviour Instance A) (site : Site) (con : Construct) → site_of con ≡ site.number → fine con
    → ((j l i m : ℕ) → (j ≡ l → ⊥) → (i ≡ m → ⊥) → Compared program con (arm_of con j i) (arm_of con l m))
    → AreDistinct site.now → (total : ℕ) (ns : List ℕ) → sum ns ≤ total → ((c : Share) → c.first + c.size ≤ total → ItemsLie (items_of con) site.now c)
    → ((j i : ℕ) (a : A) → i < total → Good program ⊥ (Exact program (site.now j i) (InThread program.subtypes con (arm_of con j i))) (f j i a))
    → (b : Bool) (s : Scope Instance) (p : Path Instance) → Lives program s p
    → demands b p.name site p.constructs s (deal 0 0 ns) (λ j tr. MayTrace (within j.number (through (Behaviours.doings Instance) j.first j.size first_value (λ i a. f j.number i a))) s p tr)

module _ (program : Program) where
  -- no cell that one thread of a clean construct writes lies under an effect of another
  threads_separated : (k : Construct) → IsClean program k → (j l : ℕ) → Compared program k j l → (now then : Now) → Distinct now then → (w : Bool) (x n : ℕ)
      → Either (Exact program now (InThread program.subtypes k j)) true x n → Either (Exact program then (InThread program.subtypes k l)) w x n → ⊥
  threads_separated k clean j l c now then d w x n g h =
      let a = either_effect program now (InThread program.subtypes k j) true x n g in
      let b = either_effect program then (InThread program.subtypes k l) w x n h in
      separation program now then d a.1 b.1 (a.4 ∙ sym b.4) (clean.laid j a.0 a.1 a.2) (clean.laid l b.0 b.1 b.2) (clean.disjoint j l c a.0 b.0 a.1 b.1 a.2 b.2 a.3) n a.5 b.5

  threads_quiet : (k : Construct) → IsClean program k → (j : ℕ) (now : Now) → (Exact program now (InThread program.subtypes k j)).input → ⊥
  threads_quiet k clean j now (inl (at, callee, h)) = (clean.quiet j at callee).0 h
  threads_quiet k clean j now (inr (at, callee, s, there, last, h, r)) = (clean.quiet j at callee).1 s there last h r

  -- threads of a clean construct have no races
  pub apart_law : TeamLaw program (IsClean program) asks_apart
  apart_law A first_value f site con same clean compared distinct total ns bound items mine b s p lives =
      let now = site.now in
      asked program (Unit {0}) first_value f total (λ j i. Exact program (now j i) (InThread program.subtypes con (arm_of con j i))) mine
      (λ z j l i m w x n nj ni g h. threads_separated con clean (arm_of con j i) (arm_of con l m) (compared j l i m nj ni) (now j i) (now l m) (distinct j l i m nj ni) w x n g h)
      (λ z j i. threads_quiet con clean (arm_of con j i) (now j i)) tt b s p site lives ns bound

  -- what threads of a construct touch is covered
  module _ {A : Type 0} (first_value : A) (f : ℕ → ℕ → A → Behaviour Instance A) (con : Construct) (now : ℕ → ℕ → Now) (total : ℕ)
      (mine : (j i : ℕ) (a : A) → i < total → Good program ⊥ (Exact program (now j i) (InThread program.subtypes con (arm_of con j i))) (f j i a)) where
    abbrev Their : Share → Allowed
    Their c = Theirs program ⊥ first_value f total (λ j i. Exact program (now j i) (InThread program.subtypes con (arm_of con j i))) mine c

    seen_as : (s : Scope Instance) (c : Share) (w : Bool) (l : Instance) (n : ℕ) → Seen (Their c) s w l n → IsSeen program con now s c w l n
    seen_as s c w l n (VariableOf x, h) =
        let o = one_of program ⊥ first_value f total (λ j i. Exact program (now j i) (InThread program.subtypes con (arm_of con j i))) mine c w x n (⊎_elim (λ g. inl g.1) (λ g. inr g.1) h) in
        (VariableOf x, ⊎_elim (λ g. inl g.0) (λ g. inr g.0) h, (o.0, o.1, o.2, either_effect program (now c.number o.0) (InThread program.subtypes con (arm_of con c.number o.0)) w x n o.3))
    seen_as s c w l n (ConstantOf x, h) = (ConstantOf x, ⊎_elim (λ g. inl g.0) (λ g. inr g.0) h, ⊎_elim (λ g. g.1) (λ g. g.1) h)

    covered : (s : Scope Instance) (p : Path Instance) (c : Share) (tr : Trace Instance) → Each (Okay (Their c) s (enter c.number p)) tr → AllCovered program con now p.name p.constructs s c tr
    covered s p c [] h = tt
    covered s p c (Reads l n v ∷ tr) h = (⊎_elim (λ g. inl (under c.number p l g)) (λ g. inr (seen_as s c false l n g)) h.0, covered s p c tr h.1)
    covered s p c (Writes l n v ∷ tr) h = (⊎_elim (λ g. inl (under c.number p l g)) (λ g. inr (seen_as s c true l n g)) h.0, covered s p c tr h.1)
    covered s p c (Recalls x ∷ tr) h = (tt, covered s p c tr h.1)
    covered s p c (Keeps x ∷ tr) h = (tt, covered s p c tr h.1)
    covered s p c (Takes n x ∷ tr) h = (tt, covered s p c tr h.1)
    covered s p c (Puts x ∷ tr) h = (tt, covered s p c tr h.1)
    covered s p c (Looks ∷ tr) h = (tt, covered s p c tr h.1)

    each_covered : ((c : Share) → c.first + c.size ≤ total → ItemsLie (items_of con) now c) → (s : Scope Instance) (p : Path Instance) → Lives program s p → (number first : ℕ) (ns : List ℕ) → first + sum ns ≤ total
        → EachCovered program con now p.name p.constructs s (deal number first ns) (λ j tr. MayTrace (within j.number (through (Behaviours.doings Instance) j.first j.size first_value (λ i a. f j.number i a))) s p tr)
    each_covered items s p lives number first [] le = tt
    each_covered items s p lives number first (n ∷ ns) le =
        let c : Share = record { number = number; first = first; size = n } in (
          (λ tr m. let run = m.run in covered s p c tr ((theirs program ⊥ first_value f total (λ j i. Exact program (now j i) (InThread program.subtypes con (arm_of con j i))) mine c (omega arith)).covers s (enter number p) tr m.early run.0 m.end (lives_on program s p (enter number p) (goes_enter number p) lives) run.2).0),
          items c (omega arith),
          each_covered items s p lives (suc number) (first + n) ns (omega arith),
        )

  pub covered_law : TeamLaw program (λ k. InProgram program (Holds k)) (asks_covered program)
  covered_law A first_value f site con same held compared distinct total ns bound items mine b s p lives =
      (con, held, same, distinct, each_covered first_value f con site.now total mine items s p lives 0 0 ns (omega arith))
