-- Walkers on cells of their own aren't stuck.
use Rattle.std.proofs.Common.{◌≡◌, ℕ, zero, suc, ◌+◌, ◌-◌, ◌*◌, ◌<◌, ◌≤◌, inl, inr, ℤ, true, false, cond, ◌||◌, List, [], ◌∷◌, ◌++◌, map, length, get_or, set, Option, Some, None, arith, refl, sym, ◌∙◌, ap, subst}
use Rattle.std.specs.Prelude.{slice_get}
use lib.Dec.{ltb}
use Rattle.std.proofs.lemmas.List.{length-map, get_or-set_same, get_or-set_other, get_or_append_left, get_or-append_right}
use Rattle.std.proofs.lemmas.Bool.{cases_eq}
use Rattle.cell_strip.specs.declared.region.Region.{Region}
use Rattle.cell_strip.specs.Regions.{has, covered}
use Rattle.cell_strip.proofs.Rows.{in_has, has_in}
use Rattle.ada_base.specs.Cells.{Cell, Gone, Seen, Mine}
use Rattle.cell_memory.specs.Sight.{Store, OwnThere as AllThere, main_sight, is_mine, is_gone, value_of, shown, mine_or, lent_value, table}
use Rattle.cell_memory.proofs.Views.{length-table, at-table}
use Rattle.ada_workers.specs.Paths.{Spent, Stuck, Outcome, Fine}
use Rattle.ada_workers.specs.Iterated.{Next, On, Ends, iterated}
use Rattle.ada_workers.specs.Orders.{view_of, lent_of, out_of, AllFine}
use Rattle.ada_workers.specs.Threads.{frame_values, begins_of, areas_of, AllInside, FramesFit}
use Rattle.ada_workers.specs.declared.threads.Frame.{Frame}
use Rattle.ada_workers.specs.declared.threads.Thread.{Thread}
use Rattle.tests_workers.specs.declared.walker.Op.{Op}
use Rattle.tests_workers.specs.declared.walker.Op.TheVariants as op
use Rattle.tests_workers.specs.declared.walker.Walker.{Walker}
use Rattle.tests_workers.specs.Walks.{ends, onward, turned, write, at_op, step, walk}
use Rattle.tests_workers.specs.Walking.{mine_in}
use Rattle.tests_workers.specs.OwnCells.{only, IsOwn, Keeps, AllKeep, OnOwnCell, AllOnOwn}

-- ---- a walk
abbrev OwnThere : ℕ → ℕ → List Cell → Type 0
OwnThere n k vs = (a : ℕ) → IsOwn n k a → is_mine (get_or vs a Gone) ≡ true

kept_there : (n k : ℕ) (vs : List Cell) (a : ℕ) (v : ℤ) → OwnThere n k vs → IsOwn n k a → OwnThere n k (set vs a (Mine v))
kept_there n k vs a v h o b p = elim (cases_eq b a) as (λ _. is_mine (get_or (set vs a (Mine v)) b Gone) ≡ true) [
  | inl e ↦ ap (λ j. is_mine (get_or (set vs a (Mine v)) j Gone)) e ∙ ap is_mine (get_or-set_same vs a (Mine v) Gone (mine_in vs a (h a o)))
  | inr ne ↦ ap is_mine (get_or-set_other vs a b (Mine v) Gone ne) ∙ h b p
]

keeps_at : (n k : ℕ) (os : List Op) (i : ℕ) (o : Op) → AllKeep n k os → slice_get os i ≡ Some o → Keeps n k o × (i < length os)
keeps_at n k [] i o a e = cc
keeps_at n k (q ∷ os) zero o a e = (subst (Keeps n k) (some_is q o e) a.0, omega arith) where
  some_is : (q o : Op) → Some q ≡ Some o → q ≡ o
  some_is q o e = cc
keeps_at n k (q ∷ os) (suc i) o a e = let r = keeps_at n k os i o a.1 e in (r.0, omega (arith, r.1))

mine_there : (c : Cell) → is_mine c ≡ true → is_gone c ≡ false
mine_there Gone e = cc
mine_there (Seen v) e = cc
mine_there (Mine v) e = refl

abbrev after : ℕ → Next Walker → Outcome Walker
after f y = elim y [ On q m ds ↦ iterated step f q m ds | Ends o ↦ o ]

module _ (n k f : ℕ) (p : Walker) (vs : List Cell) (e : suc f ≡ suc (length p.ops.items - p.at)) (a : AllKeep n k p.ops.items) (h : OwnThere n k vs)
    (again : (q : Walker) (ds : List Cell) → f ≡ suc (length q.ops.items - q.at) → AllKeep n k q.ops.items → OwnThere n k ds → Fine (iterated step f q None ds).end) where
  less : (o : Op) → slice_get p.ops.items p.at ≡ Some o → f ≡ suc (length p.ops.items - (p.at + 1))
  less o is = let r = keeps_at n k p.ops.items p.at o a is in omega (arith, e, r.1)

  stores : (b : ℕ) (v : ℤ) → IsOwn n k b → f ≡ suc (length p.ops.items - (p.at + 1)) → Fine (after f (write p None vs b (Mine v))).end
  stores b v o l = subst (λ y. Fine (after f (cond y (On (onward p) None (set vs b (Mine v))) (ends p vs Stuck))).end) (sym (h b o)) (again (onward p) (set vs b (Mine v)) l a (kept_there n k vs b v h o))

  by_op : (o : Option Op) → slice_get p.ops.items p.at ≡ o → Fine (after f (at_op o p None vs)).end
  by_op None is = tt
  by_op (Some (op.Put b v)) is = stores b v (keeps_at n k p.ops.items p.at (op.Put b v) a is).0 (less (op.Put b v) is)
  by_op (Some (op.Copy b c)) is =
      let r = (keeps_at n k p.ops.items p.at (op.Copy b c) a is).0 in
      subst (λ y. Fine (after f (cond y (ends p vs Stuck) (write p None vs c (Mine (value_of (get_or vs b Gone)))))).end) (sym (mine_there (get_or vs b Gone) (h b r.0)))
      (stores c (value_of (get_or vs b Gone)) r.1 (less (op.Copy b c) is))
  by_op (Some op.Turn) is =
      elim (ltb p.turns p.limit) as (λ y. Fine (after f (cond y (On (turned p) None vs) (ends p vs Spent))).end) [
        | true ↦ again (turned p) vs (less op.Turn is) a h
        | false ↦ tt
      ]
  by_op (Some op.Leave) is = tt

goes_on : (n k f : ℕ) (p : Walker) (vs : List Cell) → f ≡ suc (length p.ops.items - p.at) → AllKeep n k p.ops.items → OwnThere n k vs → Fine (iterated step f p None vs).end
goes_on n k zero p vs e a h = absurd (omega (arith, e))
goes_on n k (suc f) p vs e a h = by_op n k f p vs e a h (λ q ds l b o. goes_on n k f q ds l b o) (slice_get p.ops.items p.at) refl

-- ---- its view
only_has : (k : ℕ) → covered (only k ∷ []) k ≡ true
only_has k = ap (λ b. b || false) (in_has (only k) k (0, 0, omega arith, omega arith, omega arith))

only_lacks : (j k : ℕ) → (k ≡ j → ⊥) → covered (only j ∷ []) k ≡ false
only_lacks j k ne = elim (has (only j) k) as (λ b. has (only j) k ≡ b → (b || false) ≡ false) [
  | true ↦ λ e. let i = has_in (only j) k e in absurd (ne (one_place i.0 i.1 i.2 i.3 i.4))
  | false ↦ λ e. refl
] refl where
  one_place : (a b : ℕ) → a < 1 → b < 1 → k ≡ j + a * 1 + b → k ≡ j
  one_place a b x y e = omega (arith, x, y, e)

mine_lent : (c : Cell) (z : Cell) → is_mine c ≡ true → is_mine (mine_or (lent_value c) z) ≡ true
mine_lent Gone z e = cc
mine_lent (Seen v) z e = cc
mine_lent (Mine v) z e = refl

frame_there : (f : Frame) (i : ℕ) → i < 4 → is_mine (get_or (map Mine (frame_values f)) i Gone) ≡ true
frame_there f zero lt = refl
frame_there f (suc zero) lt = refl
frame_there f (suc (suc zero)) lt = refl
frame_there f (suc (suc (suc zero))) lt = refl
frame_there f (suc (suc (suc (suc i)))) lt = absurd (omega (arith, lt))

view_own : (n k : ℕ) (end cs : List Cell) (f : Frame) → length end ≡ n → k < n → is_mine (get_or cs k Gone) ≡ true → OwnThere n k (view_of end (lent_of cs (only k ∷ [])) (frame_values f))
view_own n k end cs f le lt m a (inl e) =
    let low = λ (x : ℕ). mine_or (lent_of cs (only k ∷ []) x) (shown (get_or end x Gone)) in
    ap (λ x. is_mine (get_or (view_of end (lent_of cs (only k ∷ [])) (frame_values f)) x Gone)) e
    ∙ ap is_mine (get_or_append_left (table (length end) low) (map Mine (frame_values f)) Gone k (omega (arith, length-table (length end) low, le)) ∙ at-table (length end) low k (omega (arith, le)))
    ∙ ap (λ y. is_mine (mine_or (cond y (lent_value (get_or cs k Gone)) None) (shown (get_or end k Gone)))) (only_has k)
    ∙ mine_lent (get_or cs k Gone) (shown (get_or end k Gone)) m
view_own n k end cs f le lt m a (inr o) =
    let low = λ (x : ℕ). mine_or (lent_of cs (only k ∷ []) x) (shown (get_or end x Gone)) in
    ap is_mine (get_or-append_right (table (length end) low) (map Mine (frame_values f)) n a Gone (length-table (length end) low ∙ le) o.0) ∙ frame_there f (a - n) (omega (arith, o.0, o.1))

fine_one : (n k : ℕ) (end cs : List Cell) (t : Thread Walker) → OnOwnCell n k t → length end ≡ n → k < n → is_mine (get_or cs k Gone) ≡ true
    → Fine (walk t.path None (view_of end (lent_of cs t.regions.items) (frame_values t.frame))).end
fine_one n k end cs t o le lt m =
    subst (λ (rs : List Region). Fine (walk t.path None (view_of end (lent_of cs rs) (frame_values t.frame))).end) (sym o.has)
    (goes_on n k (suc (length t.path.ops.items - t.path.at)) t.path _ refl o.keeps (view_own n k end cs t.frame le lt m))

pub all_fine : (n k : ℕ) (end cs : List Cell) (ts : List (Thread Walker)) → AllOnOwn n k ts → length end ≡ n → length cs ≡ n → k + length ts ≤ n → ((x : ℕ) → k ≤ x → x < n → is_mine (get_or cs x Gone) ≡ true)
    → AllFine walk end cs (begins_of ts) (areas_of ts)
all_fine n k end cs [] a le lc s m = tt
all_fine n k end cs (t ∷ ts) a le lc s m = (
  fine_one n k end cs t a.0 le (omega (arith, s)) (m k (omega arith) (omega (arith, s))),
  all_fine n (suc k) end (out_of cs t.regions.items) ts a.1 le (length-table (length cs) _ ∙ lc) (omega (arith, s))
      (λ x l lt.
      ap is_mine (at-table (length cs) (λ y. cond (covered t.regions.items y) Gone (get_or cs y Gone)) x (omega (arith, lc)))
      ∙ ap (λ (rs : List Region). is_mine (cond (covered rs x) Gone (get_or cs x Gone))) a.0.has
      ∙ ap (λ y. is_mine (cond y Gone (get_or cs x Gone))) (only_lacks k x (λ e. omega (arith, l, e)))
      ∙ m x (omega (arith, l)) lt),
)

pub all_inside : (n k : ℕ) (ts : List (Thread Walker)) → AllOnOwn n k ts → k + length ts ≤ n → AllInside n ts
all_inside n k [] a s = tt
all_inside n k (t ∷ ts) a s = (
  λ x e. in_one x (subst (λ (rs : List Region). covered rs x ≡ true) a.0.has e),
  all_inside n (suc k) ts a.1 (omega (arith, s)),
) where
  in_one : (x : ℕ) → covered (only k ∷ []) x ≡ true → x < n
  in_one x e = elim (cases_eq x k) [
    | inl same ↦ omega (arith, s, same)
    | inr ne ↦ absurd (let f = only_lacks k x ne in cc)
  ]

pub all_fit : (n k : ℕ) (ts : List (Thread Walker)) → AllOnOwn n k ts → FramesFit ts
all_fit n k [] a = tt
all_fit n k (t ∷ ts) a = (omega (arith, a.0.small), all_fit n (suc k) ts a.1)

pub on_own_snoc : (n k : ℕ) (ts : List (Thread Walker)) (t : Thread Walker) (j : ℕ) → AllOnOwn n k ts → j ≡ k + length ts → OnOwnCell n j t → AllOnOwn n k (ts ++ t ∷ [])
on_own_snoc n k [] t j a e o = let f : j ≡ k = omega (arith, e) in (subst (λ i. OnOwnCell n i t) f o, tt)
on_own_snoc n k (u ∷ ts) t j a e o = (a.0, on_own_snoc n (suc k) ts t j a.1 (omega (arith, e)) o)

-- a main view that lends nothing
pub main_there : (m : Store) → AllThere (main_sight m)
main_there m x le lt = there m.values x (omega (arith, lt, length-map m.values Mine)) where
  there : (vs : List ℤ) (i : ℕ) → i < length vs → is_gone (get_or (map Mine vs) i Gone) ≡ false
  there [] i l = absurd (omega (arith, l))
  there (v ∷ vs) zero l = refl
  there (v ∷ vs) (suc i) l = there vs i (omega (arith, l))
