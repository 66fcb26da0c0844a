-- What the threads of a run by notes touch lies under the effects of their texts.
use Rattle.std.proofs.Common.{◌≡◌, ℕ, ◌+◌, ◌<◌, nat_eq, nat_lt, List, [], ◌∷◌, ◌++◌, ◌⊎◌, inl, inr, ⊎_elim, Option, Some, None, Bool, true, false, cond, sym, subst, ap, ◌∙◌, refl, le_refl, append_assoc, eqb-true}
use Rattle.typed_tree.specs.Syntax.{Program}
use Rattle.behaviours.specs.Paths.{Entity, Instance, Path, Scope, Extent, find, within_extent}
use Rattle.behaviours.specs.Events.{Reads, Writes, Recalls, Keeps, Takes, Puts, Looks, Trace, Has}
use Rattle.behaviours.specs.Joins.{Share, Now}
use Rattle.ada_meaning.specs.Stored.{State, Kept, Touch, Thread, Team, key, slot_at, within, place_of}
use Rattle.ada_meaning.specs.Touched.{Before}
use Rattle.ada_meaning.proofs.Ties.{Future}
use Rattle.ada_meaning.proofs.Lays as lays
use Rattle.ada_meaning.proofs.Lays.{Mode, Tie, place, Tied, Visible, Seen, Found, found}
use Rattle.ada_meaning.proofs.Simulates.{Acts, Shows, AllShow}
use Rattle.ada_meaning.proofs.Visits.{IsShare, AllKnown, LawFor, program_visits}
use Rattle.check_effects.specs.Effects.{Construct}
use Rattle.check_effects.specs.Covered.{IsOwn, IsTouched, IsSeen, IsFound, AllCovered, EachCovered, ItemsLie, items_of, asks_covered}
use Rattle.check_effects.specs.Touching.{LiesAt, IsTouchCovered, AllTouchesCovered, AllThreadsCovered, IsTeamCovered, TouchLaw}
use Rattle.check_effects.proofs.Races.{all_covered}

some_inj : {A : Type 0} {x y : A} → ◌≡◌ {A = Option A} (Some x) (Some y) → x ≡ y
some_inj e = cc

none-ne-some : {A : Type 0} {x : A} → ◌≡◌ {A = Option A} None (Some x) → ⊥
none-ne-some e = absurd (cc)

-- what was made in a thread of the next construct isn't tied yet
future_own : (p : Path Instance) (j : ℕ) (l : Instance) → IsOwn p.name p.constructs j l → Future p l
future_own p j l (inner, e) = inr (inner ++ (j ∷ []), p.constructs, le_refl p.constructs, e ∙ sym (append_assoc inner (j ∷ []) (p.constructs ∷ p.name)))

module _ (program : Program) (k : Construct) (now : ℕ → ℕ → Now) (p : Path Instance) (t : Scope Instance) (j : Share) where
  -- an action of the trace is covered
  action : (w : Bool) (l : Instance) (i : ℕ) (tr : Trace Instance) → AllCovered program k now p.name p.constructs t j tr → Has (Acts w l i) tr → IsOwn p.name p.constructs j.number l ⊎ IsSeen program k now t j w l i
  action w l i [] c h = absurd h
  action w l i (a ∷ tr) c (inr h) = action w l i tr c.1 h
  action true l i (Writes x n v ∷ tr) c (inl (is, at)) = subst (λ z. IsOwn p.name p.constructs j.number z ⊎ IsSeen program k now t j true z i) is (subst (λ z. IsOwn p.name p.constructs j.number x ⊎ IsSeen program k now t j true x z) at c.0)
  action false l i (Reads x n v ∷ tr) c (inl (is, at)) = subst (λ z. IsOwn p.name p.constructs j.number z ⊎ IsSeen program k now t j false z i) is (subst (λ z. IsOwn p.name p.constructs j.number x ⊎ IsSeen program k now t j false x z) at c.0)
  action false l i (Writes x n v ∷ tr) c (inl h) = absurd h
  action true l i (Reads x n v ∷ tr) c (inl h) = absurd h
  action true l i (Recalls x ∷ tr) c (inl h) = absurd h
  action true l i (Keeps x ∷ tr) c (inl h) = absurd h
  action true l i (Takes n x ∷ tr) c (inl h) = absurd h
  action true l i (Puts x ∷ tr) c (inl h) = absurd h
  action true l i (Looks ∷ tr) c (inl h) = absurd h
  action false l i (Recalls x ∷ tr) c (inl h) = absurd h
  action false l i (Keeps x ∷ tr) c (inl h) = absurd h
  action false l i (Takes n x ∷ tr) c (inl h) = absurd h
  action false l i (Puts x ∷ tr) c (inl h) = absurd h
  action false l i (Looks ∷ tr) c (inl h) = absurd h

module _ (input : List ℕ) (b : Mode) (ls gs : List Tie) (s : State) (t : Scope Instance) (p : Path Instance) (n : _) (v : Visible ls gs s t) (h : lays.Has input b ls gs s p n) where
  -- an instance that is found has its cell at the object's place
  same_place : (c d : Tie) (i : ℕ) → Tied ls gs c → Tied ls gs d → c.instance ≡ d.instance → place c i ≡ place d i
  same_place c d i tc td e = ap (λ z. place z i) (h.one c d tc td e)

  visible_at : (x : Entity) (c : Tie) (i : ℕ) → Tied ls gs c → find t x i ≡ Some c.instance → place_of s x i ≡ Some (place c i)
  visible_at x c i tied e = go (found ls gs s t x i v)
    where
      go : Found ls gs i (place_of s x i) (find t x i) → place_of s x i ≡ Some (place c i)
      go (inl (a, none)) = absurd (none-ne-some (sym none ∙ e))
      go (inr (d, td, lt, a, l)) = a ∙ ap Some (same_place d c i td tied (some_inj (sym l ∙ e)))

  everywhere_at : (x : Entity) (c : Tie) (i : ℕ) → Tied ls gs c → within_extent i (t.everywhere x) ≡ Some c.instance → ((slot_at s.everywhere (key x)).frame ≡ 1) × (within Kept (slot_at s.everywhere (key x)) i ≡ Some (place c i))
  everywhere_at x c i tied e = go (t.everywhere x) (v.everywhere x) e
    where
      at_cell : (o : Extent Instance) (cells : ℕ) → cells ≡ o.cells → (q : Bool) → nat_lt i o.cells ≡ q → cond q (Some o.instance) None ≡ Some c.instance
          → lays.In (record { instance = o.instance; kept = true; base = (slot_at s.everywhere (key x)).address; cells = o.cells }) gs
          → cond (nat_lt i cells) (Some (Kept ((slot_at s.everywhere (key x)).address + i))) None ≡ Some (place c i)
      at_cell o cells size false lt f held = absurd (none-ne-some f)
      at_cell o cells size true lt f held =
          subst (λ z. cond (nat_lt i z) (Some (Kept ((slot_at s.everywhere (key x)).address + i))) None ≡ Some (place c i)) (sym size)
          (subst (λ z. cond z (Some (Kept ((slot_at s.everywhere (key x)).address + i))) None ≡ Some (place c i)) (sym lt)
          (ap Some (same_place (record { instance = o.instance; kept = true; base = (slot_at s.everywhere (key x)).address; cells = o.cells }) c i (inr held) tied (some_inj f))))

      go : (o : Option (Extent Instance)) → Seen gs true (nat_eq (slot_at s.everywhere (key x)).frame 1) o (slot_at s.everywhere (key x)) → within_extent i o ≡ Some c.instance
          → ((slot_at s.everywhere (key x)).frame ≡ 1) × (within Kept (slot_at s.everywhere (key x)) i ≡ Some (place c i))
      go None seen f = absurd (none-ne-some f)
      go (Some o) seen f = (eqb-true (slot_at s.everywhere (key x)).frame 1 seen.0, at_cell o (slot_at s.everywhere (key x)).cells seen.1 (nat_lt i o.cells) refl f seen.2)

  lies_at : (x : Entity) (c : Tie) (i : ℕ) → Tied ls gs c → IsFound t x i c.instance → LiesAt s x i (place c i)
  lies_at x c i tied (inl e) = inl (visible_at x c i tied e)
  lies_at x c i tied (inr e) = inr (everywhere_at x c i tied e)

  module _ (program : Program) (k : Construct) (team : Team) (here : team.begun ≡ s) (j : Share) (tr : Trace Instance) (covered : AllCovered program k team.site.now p.name p.constructs t j tr) where
    covered_touch : (a : Touch) → Shows ls gs s tr a → IsTouchCovered program k team j a
    covered_touch a shows before = go (shows (subst (λ z. Before z a.place) here before))
      where
        go : (c : Tie) × (i : ℕ) × Tied ls gs c × (i < c.cells) × (a.place ≡ place c i) × Has (Acts a.writes c.instance i) tr → (x : Entity) × (i : ℕ) × LiesAt team.begun x i a.place × IsTouched program k team.site.now j a.writes x i
        go (c, i, tied, lt, at, acts) = ⊎_elim
            (λ own. absurd (h.past c tied (future_own p j.number c.instance own)))
            (λ seen. (seen.0, i, subst (λ z. LiesAt z seen.0 i a.place) (sym here) (subst (λ z. LiesAt s seen.0 i z) (sym at) (lies_at seen.0 c i tied seen.1)), seen.2))
            (action program k team.site.now p t j a.writes c.instance i tr covered acts)

    covered_touches : (ts : List Touch) → AllShow ls gs s tr ts → AllTouchesCovered program k team j ts
    covered_touches [] shows = tt
    covered_touches (a ∷ ts) shows = (covered_touch a shows.0, covered_touches ts shows.1)

covered_share : (program : Program) (k : Construct) (now : ℕ → ℕ → Now) (p : Path Instance) (t : Scope Instance) (may : Share → Trace Instance → Type 0) (js : List Share) (j : Share) → EachCovered program k now p.name p.constructs t js may → IsShare j js → (tr : Trace Instance) → may j tr → AllCovered program k now p.name p.constructs t j tr
covered_share program k now p t may [] j each i tr m = absurd i
covered_share program k now p t may (l ∷ js) j each (inl e) tr m = subst (λ z. AllCovered program k now p.name p.constructs t z tr) (sym e) (each.0 tr (subst (λ z. may z tr) e m))
covered_share program k now p t may (l ∷ js) j each (inr i) tr m = covered_share program k now p t may js j each.2 i tr m

items_share : (program : Program) (k : Construct) (now : ℕ → ℕ → Now) (p : Path Instance) (t : Scope Instance) (may : Share → Trace Instance → Type 0) (js : List Share) (j : Share) → EachCovered program k now p.name p.constructs t js may → IsShare j js → ItemsLie (items_of k) now j
items_share program k now p t may [] j each i = absurd i
items_share program k now p t may (l ∷ js) j each (inl e) = subst (λ z. ItemsLie (items_of k) now z) (sym e) each.1
items_share program k now p t may (l ∷ js) j each (inr i) = items_share program k now p t may js j each.2 i

covered_law_for : (program : Program) (input : List ℕ) → LawFor input (asks_covered program) (IsTeamCovered program)
covered_law_for program input b ls gs s t p n v h ordered site js may (k, held, same, distinct, each) bs known u = (k, held, same, distinct, go bs known)
  where
    go : (more : List Thread) → AllKnown ls gs s may js more → AllThreadsCovered program k (record { site = site; begun = s; ended = u; threads = bs }) more
    go [] known = tt
    go (c ∷ more) known = (
      covered_touches input b ls gs s t p n v h program k (record { site = site; begun = s; ended = u; threads = bs }) refl c.share known.0.1.0 (covered_share program k site.now p t may js c.share each known.0.0 known.0.1.0 known.0.1.1) c.touches known.0.1.2,
      items_share program k site.now p t may js c.share each known.0.0,
      go more known.1,
    )

pub touch_law : TouchLaw
touch_law program set slots input before notes keeps alone = program_visits program set slots input before notes (asks_covered program) (IsTeamCovered program) (covered_law_for program input) keeps alone (all_covered program set)
