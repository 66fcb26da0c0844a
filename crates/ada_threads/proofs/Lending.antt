-- The views that workers give threads are those of the cells' owners.
use Rattle.std.proofs.Common.{◌≡◌, ◌≢◌, ℕ, zero, suc, ◌+◌, ◌<◌, ◌≤◌, inl, inr, ℤ, Bool, true, false, cond, List, [], ◌∷◌, ◌++◌, map, length, get_or, Option, Some, None, arith, refl, sym, ◌∙◌, ap, subst}
use Rattle.std.specs.Prelude.{◌⊎◌}
use Rattle.std.proofs.lemmas.Bool.{eq-eqb, ne_eqb}
use Rattle.std.proofs.lemmas.List.FromFn.{length-map-range_with_len, get_or-map-range_with_len, fill_by_all}
use Rattle.ada_base.specs.Cells.{Cell, Gone, Seen, Mine}
use Rattle.ada_base.specs.Cuts.{cuts_of}
use Rattle.ada_base.specs.Notes.{InOrder}
use Rattle.ada_workers.specs.Orders.{AllFine, all_out, out_of, lent_of, view_of}
use Rattle.ada_workers.specs.Paths.{Fine, Outcome}
use Rattle.behaviours.specs.Joins.{Share, deal}
use Rattle.cell_memory.specs.Sight.{is_mine, shown, mine_or, lent_value, table}
use Rattle.cell_strip.specs.declared.region.Region.{Region}
use Rattle.cell_strip.specs.Regions.{covered}
use Rattle.stack_code.specs.declared.code.Code.{Code}
use Rattle.stack_code.specs.Machine.{Stop, Done, Left, Spent, Cut, Asks, Constructs, Stuck, Astray}
use Rattle.ada_lower.specs.Driven.{RunsWell, WentWell, sizes_for}
use Rattle.ada_lower.specs.Lending.{Among}
use Rattle.ada_lower.specs.Views.{Access, Barred, Readable, Full, access_by, view_cell, viewed}
use Rattle.machine_paths.specs.Starting.{thread_start, thread_starts}
use Rattle.machine_paths.specs.Threads.{ThreadPath, ending, runs}
use Rattle.machine_paths.proofs.Sums.{enough_law}
use Rattle.ada_threads.specs.Lent.{owner_from, FineLaw}

abbrev at : List Cell → ℕ → Cell
at cs x = get_or cs x Gone

-- ---- cells that are lent
out_at : (cs : List Cell) (rs : List Region) (x : ℕ) → x < length cs → at (out_of cs rs) x ≡ cond (covered rs x) Gone (at cs x)
out_at cs rs x lt = get_or-map-range_with_len (λ x. cond (covered rs x) Gone (at cs x)) 0 (length cs) x x Gone lt (omega arith)

out_long : (cs : List Cell) (rs : List Region) → length (out_of cs rs) ≡ length cs
out_long cs rs = length-map-range_with_len (λ x. cond (covered rs x) Gone (at cs x)) 0 (length cs)

abbrev unless : Option ℕ → Cell → Cell
unless None z = z
unless (Some m) z = Gone

all_long : (rss : List (List Region)) (cs : List Cell) → length (all_out cs rss) ≡ length cs
all_long [] cs = refl
all_long (rs ∷ rss) cs = all_long rss (out_of cs rs) ∙ out_long cs rs

unless_gone : (o : Option ℕ) → unless o Gone ≡ Gone
unless_gone None = refl
unless_gone (Some m) = refl

unless_cond : (b : Bool) (k : ℕ) (o : Option ℕ) (z : Cell) → unless o (cond b Gone z) ≡ unless (cond b (Some k) o) z
unless_cond true k o z = unless_gone o
unless_cond false k o z = refl

all_at : (k : ℕ) (rss : List (List Region)) (cs : List Cell) (x : ℕ) → x < length cs → at (all_out cs rss) x ≡ unless (owner_from k rss x) (at cs x)
all_at k [] cs x lt = refl
all_at k (rs ∷ rss) cs x lt =
    all_at (suc k) rss (out_of cs rs) x (subst (λ n. x < n) (sym (out_long cs rs)) lt) ∙ ap (unless (owner_from (suc k) rss x)) (out_at cs rs x lt) ∙ unless_cond (covered rs x) k (owner_from (suc k) rss x) (at cs x)

-- ---- owners
some_is : (m n : ℕ) → ◌≡◌ {A = Option ℕ} (Some m) (Some n) → m ≡ n
some_is m n e = cc

none_some : (m : ℕ) → ◌≡◌ {A = Option ℕ} None (Some m) → ⊥
none_some m e = cc

owner_least : (rss : List (List Region)) (k x m : ℕ) → owner_from k rss x ≡ Some m → k ≤ m
owner_least [] k x m e = absurd (none_some m e)
owner_least (rs ∷ rss) k x m e = by_cover (covered rs x) (λ h. owner_least rss (suc k) x m h) e where
  by_cover : (b : Bool) → (owner_from (suc k) rss x ≡ Some m → suc k ≤ m) → cond b (Some k) (owner_from (suc k) rss x) ≡ Some m → k ≤ m
  by_cover true rest e = let z = some_is k m e in omega (arith, z)
  by_cover false rest e = let z = rest e in omega (arith, z)

-- ---- views
view_at : (y : ℕ → Access) (a : ℕ) (cs : List Cell) (i : ℕ) → i < length cs → at (viewed y a cs) i ≡ view_cell (y (a + i)) (at cs i)
view_at y a [] i lt = absurd (omega (arith, lt))
view_at y a (z ∷ zs) zero lt = ap (λ n. view_cell (y n) z) (let e : a ≡ a + 0 = omega arith in e)
view_at y a (z ∷ zs) (suc i) lt = view_at y (suc a) zs i (omega (arith, lt)) ∙ ap (λ n. view_cell (y n) (at zs i)) (let e : suc a + i ≡ a + suc i = omega arith in e)

view_long : (y : ℕ → Access) (a : ℕ) (cs : List Cell) → length (viewed y a cs) ≡ length cs
view_long y a [] = refl
view_long y a (z ∷ zs) = ap suc (view_long y (suc a) zs)

mine_is : (z : Cell) → is_mine z ≡ true → (v : ℤ) × (z ≡ Mine v)
mine_is (Mine v) e = (v, refl)
mine_is Gone e = absurd (no e) where
  no : false ≡ true → ⊥
  no e = cc
mine_is (Seen v) e = absurd (no e) where
  no : false ≡ true → ⊥
  no e = cc

module _ (cs0 : List Cell) (mine : (x : ℕ) → x < length cs0 → is_mine (at cs0 x) ≡ true) (areas : List (List Region)) where
  abbrev owner : ℕ → Option ℕ
  owner x = owner_from 0 areas x

  abbrev end : List Cell
  end = all_out cs0 areas

  -- an earlier thread has the cell, or it is there still
  abbrev Stage : ℕ → List (List Region) → List Cell → ℕ → Type 0
  Stage k rss cs x = ((at cs x ≡ Gone) × ((m : ℕ) × (owner x ≡ Some m) × (m < k))) ⊎ ((at cs x ≡ at cs0 x) × (owner x ≡ owner_from k rss x))

  abbrev Stages : ℕ → List (List Region) → List Cell → Type 0
  Stages k rss cs = (length cs ≡ length cs0) × ((x : ℕ) → x < length cs0 → Stage k rss cs x)

  next_stage : (k : ℕ) (rs : List Region) (rss : List (List Region)) (cs : List Cell) → Stages k (rs ∷ rss) cs → Stages (suc k) rss (out_of cs rs)
  next_stage k rs rss cs h = (
    out_long cs rs ∙ h.0,
    λ x lt. let o = out_at cs rs x (omega (arith, lt, h.0)) in elim (h.1 x lt) [
      | inl g ↦ inl (o ∙ gone (covered rs x) (at cs x) g.0, (g.1.0, g.1.1, omega (arith, g.1.2)))
      | inr g ↦ by_cover x (covered rs x) o g
    ],
  ) where
    gone : (b : Bool) (z : Cell) → z ≡ Gone → cond b Gone z ≡ Gone
    gone true z e = refl
    gone false z e = e

    by_cover : (x : ℕ) (b : Bool) → at (out_of cs rs) x ≡ cond b Gone (at cs x) → (at cs x ≡ at cs0 x) × (owner x ≡ cond b (Some k) (owner_from (suc k) rss x)) → Stage (suc k) rss (out_of cs rs) x
    by_cover x true o g = inl (o, (k, g.1, omega arith))
    by_cover x false o g = inr (o ∙ g.0, g.1)

  -- what a thread's view has at a cell
  module _ (k : ℕ) (rs : List Region) (rss : List (List Region)) (cs : List Cell) (x : ℕ) (lt : x < length cs0) where
    abbrev shows : Cell
    shows = mine_or (lent_of cs rs x) (shown (at end x))

    end_is : (o : Option ℕ) → owner x ≡ o → at end x ≡ unless o (at cs0 x)
    end_is o e = all_at 0 areas cs0 x lt ∙ ap (λ o. unless o (at cs0 x)) e

    not_lent : (b : Bool) (z : Cell) → lent_value z ≡ None → cond b (lent_value z) None ≡ None
    not_lent true z e = e
    not_lent false z e = refl

    other : (m : ℕ) → m ≢ k → view_cell (access_by (Some m) k) (at cs0 x) ≡ Gone
    other m ne = ap (λ b. view_cell (cond b Full Barred) (at cs0 x)) (ne_eqb m k ne)

    barred : (m : ℕ) → m ≢ k → owner x ≡ Some m → lent_of cs rs x ≡ None → shows ≡ view_cell (access_by (owner x) k) (at cs0 x)
    barred m ne o l = ap (λ l. mine_or l (shown (at end x))) l ∙ ap shown (end_is (Some m) o) ∙ sym (ap (λ o. view_cell (access_by o k) (at cs0 x)) o ∙ other m ne)

    free : (o : Option ℕ) → owner x ≡ o → ((m : ℕ) → o ≡ Some m → suc k ≤ m) → lent_of cs rs x ≡ None → shows ≡ view_cell (access_by (owner x) k) (at cs0 x)
    free (Some m) o later l = barred m (λ e. let z = later m refl in absurd (omega (arith, z, e))) o l
    free None o later l =
        let v = mine_is (at cs0 x) (mine x lt) in
        ap (λ l. mine_or l (shown (at end x))) l ∙ ap shown (end_is None o ∙ v.1) ∙ sym (ap (λ o. view_cell (access_by o k) (at cs0 x)) o ∙ ap (view_cell Readable) v.1)

    own : owner x ≡ Some k → lent_of cs rs x ≡ lent_value (at cs0 x) → shows ≡ view_cell (access_by (owner x) k) (at cs0 x)
    own o l =
        let v = mine_is (at cs0 x) (mine x lt) in
        ap (λ l. mine_or l (shown (at end x))) (l ∙ ap lent_value v.1) ∙ sym (ap (λ o. view_cell (access_by o k) (at cs0 x)) o ∙ ap (λ b. view_cell (cond b Full Barred) (at cs0 x)) (eq-eqb k k refl) ∙ ap (view_cell Full) v.1)

    by_cover : (b : Bool) → covered rs x ≡ b → at cs x ≡ at cs0 x → owner x ≡ cond b (Some k) (owner_from (suc k) rss x) → shows ≡ view_cell (access_by (owner x) k) (at cs0 x)
    by_cover true is g o = own o (ap (λ b. cond b (lent_value (at cs x)) None) is ∙ ap lent_value g)
    by_cover false is g o = free (owner_from (suc k) rss x) o (λ m e. owner_least rss (suc k) x m e) (ap (λ b. cond b (lent_value (at cs x)) None) is)

    shows_is : Stage k (rs ∷ rss) cs x → shows ≡ view_cell (access_by (owner x) k) (at cs0 x)
    shows_is (inl g) = barred g.1.0 (λ e. let z = g.1.2 in absurd (omega (arith, z, e))) g.1.1 (not_lent (covered rs x) (at cs x) (ap lent_value g.0))
    shows_is (inr g) = by_cover (covered rs x) refl g.0 g.1

  pub view_is : (k : ℕ) (rs : List Region) (rss : List (List Region)) (cs : List Cell) (us : List ℤ) → Stages k (rs ∷ rss) cs → view_of end (lent_of cs rs) us ≡ viewed (λ a. access_by (owner a) k) 0 cs0 ++ map Mine us
  view_is k rs rss cs us h =
      let n : length end ≡ length cs0 = all_long areas cs0 in
      let f : ℕ → Cell = λ x. mine_or (lent_of cs rs x) (shown (at end x)) in
      ap (λ l. l ++ map Mine us) (ap (λ n. table n f) n
      ∙ sym (fill_by_all f (viewed (λ a. access_by (owner a) k) 0 cs0) (length cs0) Gone (view_long (λ a. access_by (owner a) k) 0 cs0)
      (λ x lt. view_at (λ a. access_by (owner a) k) 0 cs0 x lt ∙ ap (λ m. view_cell (access_by (owner m) k) (at cs0 x)) (let z : 0 + x ≡ x = omega arith in z) ∙ sym (shows_is k rs rss cs x lt (h.1 x lt)))))

-- ---- each goes well
went_fine : (limit : ℕ) (c : Code) (x : Stop) → WentWell limit c x → Fine (ending x)
went_fine limit c (Done v) h = tt
went_fine limit c (Left l) h = tt
went_fine limit c Spent h = tt
went_fine limit c Cut h = tt
went_fine limit c (Asks i) h = absurd h
went_fine limit c (Constructs q) h = absurd h
went_fine limit c Stuck h = absurd h
went_fine limit c Astray h = absurd h

pub fine_law : FineLaw
fine_law limit c told valid forward later hushed plan site q low p at_site forked within planned mine areas well = all 0 0 (sizes_for (cuts_of plan) site.kind q) areas p.state.cells (refl, λ x lt. inr (refl, refl)) well where
  one : (k before size : ℕ) (rs : List Region) (rss : List (List Region)) (cs : List Cell) → Stages p.state.cells mine areas k (rs ∷ rss) cs → RunsWell limit c site q p (owner_from 0 areas) (record { number = k; first = before; size = size }) →
      let s = thread_start limit c plan site q p.state (length p.state.cells) p.state.turns (record { number = k; first = before; size = size }) in Fine (runs s.path None (view_of (all_out p.state.cells areas) (lent_of cs rs) s.own)).end
  one k before size rs rss cs stages well =
      let j : Share = record { number = k; first = before; size = size } in
      let s = thread_start limit c plan site q p.state (length p.state.cells) p.state.turns j in
      let view = viewed (λ a. access_by (owner_from 0 areas a) k) 0 p.state.cells in
      let ran = enough_law limit c told valid forward later hushed plan site q low p at_site forked (length p.state.cells) p.state.turns within j None view (record p.world { notes = InOrder }) refl planned well.0 well.1 in
      subst (λ vs. Fine (runs s.path None vs).end) (sym (view_is p.state.cells mine areas k rs rss cs s.own stages)) (subst (λ (o : Outcome ThreadPath). Fine o.end) (sym ran) (went_fine limit c well.0.how well.2))

  all : (k before : ℕ) (sizes : List ℕ) (rss : List (List Region)) (cs : List Cell) → Stages p.state.cells mine areas k rss cs → ((j : Share) → Among j (deal k before sizes) → RunsWell limit c site q p (owner_from 0 areas) j)
      → AllFine runs (all_out p.state.cells areas) cs (thread_starts limit c plan site q p.state (length p.state.cells) p.state.turns (deal k before sizes)) rss
  all k before [] rss cs stages well = tt
  all k before (n ∷ ns) [] cs stages well = tt
  all k before (n ∷ ns) (rs ∷ rss) cs stages well = (
    one k before n rs rss cs stages (well (record { number = k; first = before; size = n }) (inl refl)),
    all (suc k) (before + n) ns rss (out_of cs rs) (next_stage p.state.cells mine areas k rs rss cs stages) (λ j a. well j (inr a)),
  )
