-- Where a team of threads begins, a place is of one cell of one object that is visible there.
use Rattle.std.proofs.Common.{◌≡◌, ℕ, ◌+◌, ◌<◌, ◌≤◌, nat_eq, nat_lt, pos, List, [], ◌∷◌, sum, Option, Some, None, inl, inr, ⊎_elim, Bool, true, false, cond, refl, sym, ap, ◌∙◌, subst, true≢false, eq-eqb, ltb-true, arith}
use Rattle.std.proofs.lemmas.List.Sums.{sum_by-cons}
use Rattle.behaviours.specs.Paths.{Entity, Extent, Instance, Scope, find, within_extent, start, nothing_visible}
use Rattle.behaviours.specs.Joins.{Now}
use Rattle.behaviours.specs.Behaviours.{Asks}
use Rattle.ada_base.specs.Cuts.{cuts_of}
use Rattle.ada_base.specs.Notes.{Schedule, InOrder}
use Rattle.typed_tree.specs.Syntax.{Program}
use Rattle.ada_meaning.specs.Runs.{anything}
use Rattle.ada_meaning.specs.Programs.{Setting, runs_of}
use Rattle.ada_meaning.specs.Nonblocking.{KeepsRule}
use Rattle.ada_meaning.specs.Stored.{State, Address, Kept, Stacked, key, slot_at, within, place_of, noted, noted_outset}
use Rattle.ada_meaning.specs.Touched.{EachTeam}
use Rattle.ada_meaning.proofs.Lays as lays
use Rattle.ada_meaning.proofs.Lays.{Mode, Tie, place, Tied, Found, found}
use Rattle.ada_meaning.proofs.Visits.{LawFor, program_visits}
use Rattle.check_effects.specs.Effects.{Holds}
use Rattle.check_effects.specs.Conflicts.{InProgram}
use Rattle.check_effects.specs.Touching.{LiesAt}
use Rattle.check_effects.proofs.Good.{Lives, Visible, seen}
use Rattle.check_effects.proofs.Separation.{TeamLaw}
use Rattle.check_effects.proofs.Teams as teams
use Rattle.check_effects.proofs.Cover.{main_good}
use Rattle.ada_lower.specs.FittedForks.{Within}
use Rattle.ada_lower.specs.Teams.{OnePlace}

some_inj : {A : Type 0} {x y : A} → ◌≡◌ {A = Option A} (Some x) (Some y) → x ≡ y
some_inj e = cc

none_some : {A : Type 0} {x : A} → ◌≡◌ {A = Option A} None (Some x) → ⊥
none_some e = cc

-- an instance that is visible is visible as one object
abbrev asks_named : Asks Instance
asks_named ordered who site c s js may = (x y : Entity) (i j : ℕ) (l : Instance) → Visible s x i l → Visible s y j l → x ≡ y

named_law : (program : Program) → TeamLaw program (λ k. InProgram program (Holds k)) asks_named
named_law program A first_value f site con same held compared distinct total ns bound items mine b s p lives = λ x y i j l v w. sym (lives.named x i l v) ∙ lives.named y j l w

lives_start : (program : Program) → Lives program nothing_visible start
lives_start program = record {
  old = λ x i l v f. ⊎_elim (λ h. none_some h) (λ h. none_some h) v;
  named = λ x i l v. ⊎_elim (λ h. absurd (none_some h)) (λ h. absurd (none_some h)) v;
  known = λ x i l v. absurd (none_some v);
}

abbrev any_now : Now
any_now = record { loop = None; chunk = pos 0; first = 0; size = 0 }

sum_same : (ns : List ℕ) → teams.sum ns ≡ sum ns
sum_same [] = refl
sum_same (n ∷ ns) = ap (λ m. n + m) (sum_same ns) ∙ sym (sum_by-cons (λ x. x) n ns)

named_safe : (program : Program) (set : Setting) → Within (cuts_of set.plan) → (runs_of anything asks_named program set).safe nothing_visible start
named_safe program set within =
    (main_good program (λ k. InProgram program (Holds k)) anything asks_named set.limit (cuts_of set.plan) set.one (λ most n. subst (λ m. m ≤ n) (sym (sum_same (cuts_of set.plan most n))) (within most n)) (named_law program) (Unit {0}) (λ z k h. h) any_now).safe nothing_visible start tt (lives_start program)

module _ (input : List ℕ) (b : Mode) (ls gs : List Tie) (s : State) (t : Scope Instance) (v : lays.Visible ls gs s t) where
  -- where a cell of an object lies its instance is tied
  abbrev TiedAt : Entity → ℕ → Address → Type 0
  TiedAt x m a = (c : Tie) × Tied ls gs c × (m < c.cells) × (a ≡ place c m) × Visible t x m c.instance

  tied_at : (x : Entity) (m : ℕ) (a : Address) → LiesAt s x m a → TiedAt x m a
  tied_at x m a (inl e) = go (found ls gs s t x m v)
    where
      go : Found ls gs m (place_of s x m) (find t x m) → TiedAt x m a
      go (inl (none, f)) = absurd (none_some (sym none ∙ e))
      go (inr (c, tied, lt, at, f)) = (c, tied, lt, some_inj (sym e ∙ at), seen t x m c.instance f)
  tied_at x m a (inr (one, e)) = go (t.everywhere x) refl (v.everywhere x)
    where
      at_extent : (e : Extent Instance) (n : ℕ) → n ≡ e.cells → (q : Bool) → nat_lt m e.cells ≡ q → cond q (Some (Kept ((slot_at s.everywhere (key x)).address + m))) None ≡ Some a → (lays.In (record { instance = e.instance; kept = true; base = (slot_at s.everywhere (key x)).address; cells = e.cells }) gs) → t.everywhere x ≡ Some e → TiedAt x m a
      at_extent e n size false lt f held is = absurd (none_some f)
      at_extent e n size true lt f held is = (
        record { instance = e.instance; kept = true; base = (slot_at s.everywhere (key x)).address; cells = e.cells },
        inr held,
        ltb-true m e.cells lt,
        sym (some_inj f),
        inr (ap (λ o. within_extent m o) is ∙ ap (λ z. cond z (Some e.instance) None) lt),
      )

      go : (o : Option (Extent Instance)) → t.everywhere x ≡ o → lays.Seen gs true (nat_eq (slot_at s.everywhere (key x)).frame 1) o (slot_at s.everywhere (key x)) → TiedAt x m a
      go None is off_ = absurd (true≢false (sym (eq-eqb (slot_at s.everywhere (key x)).frame 1 one) ∙ off_))
      go (Some x') is (on, size, held) = at_extent x' (slot_at s.everywhere (key x)).cells size (nat_lt m x'.cells) refl (subst (λ n. cond (nat_lt m n) (Some (Kept ((slot_at s.everywhere (key x)).address + m))) None ≡ Some a) size e) held is

place_once : (c : Tie) (m n : ℕ) → place c m ≡ place c n → m ≡ n
place_once c m n e = go c.kept e
  where
    go : (b : Bool) → cond b (Kept (c.base + m)) (Stacked (c.base + m)) ≡ cond b (Kept (c.base + n)) (Stacked (c.base + n)) → m ≡ n
    go true e = let z : c.base + m ≡ c.base + n = kept_same e in omega (arith, z)
      where
        kept_same : Kept (c.base + m) ≡ Kept (c.base + n) → c.base + m ≡ c.base + n
        kept_same e = cc
    go false e = let z : c.base + m ≡ c.base + n = stacked_same e in omega (arith, z)
      where
        stacked_same : Stacked (c.base + m) ≡ Stacked (c.base + n) → c.base + m ≡ c.base + n
        stacked_same e = cc

one_law_for : (input : List ℕ) → LawFor input asks_named OnePlace
one_law_for input b ls gs s t p n v h ordered site js may named bs known u = λ x y i j a lx ly.
    let (c, tc, lc, ec, vc) = of_place x i a lx in
    let (d, td, ld, ed, vd) = of_place y j a ly in
    let same : c.instance ≡ d.instance = h.apart c d i j tc td lc ld (sym ec ∙ ed) in
    let is : c ≡ d = h.one c d tc td same in (
      named x y i j d.instance (subst (λ l. Visible t x i l) same vc) vd,
      place_once d i j (ap (λ z. place z i) (sym is) ∙ sym ec ∙ ed),
    )
  where
    of_place : (x : Entity) (m : ℕ) (a : Address) → LiesAt s x m a → (c : Tie) × Tied ls gs c × (m < c.cells) × (a ≡ place c m) × Visible t x m c.instance
    of_place x m a l = tied_at input b ls gs s t v x m a l

-- so it is in each team of a run by notes
pub one_law : (program : Program) (set : Setting) (slots : ℕ) (input before : List ℕ) (notes : Schedule) → Within (cuts_of set.plan) → KeepsRule program → (set.one ≡ true → notes ≡ InOrder) → EachTeam OnePlace ((noted program set).visits (noted_outset slots input before notes))
one_law program set slots input before notes within keeps alone = program_visits program set slots input before notes asks_named OnePlace (one_law_for input) keeps alone (named_safe program set within)
