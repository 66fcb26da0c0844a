-- Actual parameters in the cells of a call's frame, each where its formal is: ahead of the cells of a formal that is copied
-- back stands the address of its target.
use Rattle.std.proofs.Common.{◌≡◌, ℕ, zero, suc, ◌+◌, ◌<◌, ◌≤◌, ℤ, List, [], ◌∷◌, ◌++◌, length, take, slice_get, nat_lt, Option, Some, None, Result, Ok, Err, Bool, true, false, cond, refl, sym, ap, ◌∙◌, subst, le_refl, le_trans, arith, inl, inr, ⊎_elim, ltb-true, append_assoc, append-nil, is_some}
use Rattle.ada_base.specs.declared.reason.Reason.{Reason}
use Rattle.behaviours.specs.Paths.{Entity, ConstantOf, Here, Raises}
use Rattle.ada_meaning.specs.Operations.{Operations}
use Rattle.ada_meaning.specs.Stored as stored
use Rattle.ada_meaning.specs.Stored.{Stored, Cause, Left, OutOfTurns, NoRoom, CutOff, Misnoted, Touch, key}
use Rattle.ada_meaning.specs.Meaning
use Rattle.ada_meaning.specs.Meaning.{Back, Passed, Returned}
use Rattle.ada_meaning.proofs.Cells.{some_same, get_take}
use Rattle.typed_tree.specs.Syntax.{Program}
use Rattle.typed_scopes.specs.Scopes.{Without}
use Rattle.stack_code.specs.declared.code.Code.{Code}
use Rattle.ada_base.specs.Cells.{Cell, Mine, value_in}
use Rattle.ada_lower.specs.Driven.{Dyn, Fixed, Step, thrown, Comes}
use Rattle.ada_lower.specs.Emission.{Shape, lead, shapes_cells}
use Rattle.ada_lower.specs.Fits.{What, Free, Access, Right, Ghost, Fit, Ends, Land, Lands, Spread, Allows, Stands as StandsFor, Asks}
use Rattle.ada_lower.specs.Fitted.{Spot, spot, spots}
use Rattle.ada_lower.proofs.Framework.{any, To, Doing, comes_here, land_from, lands_from, allows_split, asks_split, leads_on}
use Rattle.ada_lower.proofs.Memory.{fit_alike}
use Rattle.ada_lower.proofs.Parts.{allows_fewer}
use Rattle.ada_lower.proofs.Declared.{keeping, having, laid_what, laid_out, laid_in, kept_what, among, length_in, Fresh, fresh_of, fit_having, fit_ended}
use Rattle.ada_lower.proofs.Blocks.{fit_unkept, fewer_kept}
use Rattle.ada_lower.proofs.Copies.{AreThere, all_read}
use Rattle.ada_lower.proofs.Scattered.{Piece, scattered, scattering, IsClear, AreIn, AreFree, clear_part, scattered_off, scattered_swap, two_outer}
use Rattle.ada_lower.proofs.Spots.{Each, IsOff, IsWithin, AreApart, each_map, each_without, apart_without, spots_within, spots_apart}

-- an actual parameter, from a cell of the call's frame on
pub record Sent : Type 0 where
  pub passed : Passed
  pub ahead : List ℤ
  pub at : ℕ

abbrev pub all_passed : List Sent → List Passed
all_passed [] = []
all_passed (p ∷ ps) = p.passed ∷ all_passed ps

-- their cells
abbrev pub pieces : List Sent → List Piece
pieces [] = []
pieces (p ∷ ps) = record { at = p.at; cells = p.ahead } ∷ record { at = p.at + length p.ahead; cells = p.passed.cells } ∷ pieces ps

-- the addresses alone
abbrev pub aheads : List Sent → List Piece
aheads [] = []
aheads (p ∷ ps) = record { at = p.at; cells = p.ahead } ∷ aheads ps

-- the addresses, and what a call leaves in the cells of formals that are copied back
abbrev pub backs : List Sent → List (List ℤ) → List Piece
backs [] vss = []
backs (p ∷ ps) [] = []
backs (p ∷ ps) (vs ∷ vss) = record { at = p.at; cells = p.ahead } ∷ record { at = p.at + length p.ahead; cells = vs } ∷ backs ps vss

abbrev pub BackAt : Option Back → ℕ → ℕ → List ℤ → List Cell → Type 0
BackAt None n a vs cells = vs ≡ []
BackAt (Some b) n a vs cells = (length vs ≡ n) × AreThere cells a vs

abbrev pub Backs : ℕ → List Sent → List (List ℤ) → List Cell → Type 0
Backs a [] vss cells = Unit {0}
Backs a (p ∷ ps) [] cells = ⊥
Backs a (p ∷ ps) (vs ∷ vss) cells = BackAt p.passed.back (length p.passed.cells) (a + (p.at + length p.ahead)) vs cells × Backs a ps vss cells

-- the objects of formals that are copied back have their cells
abbrev pub SpreadOf : Ghost → Entity → Option Back → ℕ → ℕ → Type 0
SpreadOf g y None n a = Unit {0}
SpreadOf g y (Some b) n a = (length b.cells ≡ n) × Spread g y 0 n a

abbrev pub AreSpread : Ghost → ℕ → List Sent → Type 0
AreSpread g a [] = Unit {0}
AreSpread g a (p ∷ ps) = SpreadOf g p.passed.formal p.passed.back (length p.passed.cells) (a + (p.at + length p.ahead)) × AreSpread g a ps

-- actual parameters are of the shapes of formals, and where these are
abbrev pub BackSuited : Bool → ℕ → Option Back → Type 0
BackSuited back n None = Unit {0}
BackSuited back n (Some b) = (back ≡ true) × (length b.cells ≡ n)

pub record IsSuited (k : Spot) (p : Sent) : Type 0 where
  pub place : p.at ≡ k.at
  pub formal : p.passed.formal ≡ k.shape.formal
  pub ahead : length p.ahead ≡ lead k.shape.back
  pub cells : length p.passed.cells ≡ k.shape.cells
  pub back : BackSuited k.shape.back k.shape.cells p.passed.back

-- an actual parameter of mode `in`
abbrev pub sent_in : ℕ → ℕ → List ℤ → Sent
sent_in formal i cs = record { passed = record { formal = ConstantOf formal; cells = cs; back = None }; ahead = []; at = i }

pub suits_in : (formal n i : ℕ) (cs : List ℤ) → length cs ≡ n → IsSuited (spot (ConstantOf formal) false n i) (sent_in formal i cs)
suits_in formal n i cs len = record { place = refl; formal = refl; ahead = refl; cells = len; back = tt }

abbrev pub AreSuited : List Spot → List Sent → Type 0
AreSuited ks [] = ks ≡ []
AreSuited ks (p ∷ ps) = (k : Spot) × (zs : List Spot) × Without k ks zs × IsSuited k p × AreSuited zs ps

-- ---- each has cells of its own

abbrev pub HaveCells : ℕ → List Sent → Type 0
HaveCells m [] = Unit {0}
HaveCells m (p ∷ ps) = (p.at + (length p.ahead + length p.passed.cells) ≤ m) × IsClear p.at (length p.ahead + length p.passed.cells) (pieces ps) × HaveCells m ps

suited_clear : (e n : ℕ) (ks : List Spot) (ps : List Sent) → Each (IsOff e n) ks → AreSuited ks ps → IsClear e n (pieces ps)
suited_clear e n ks [] off suited = tt
suited_clear e n ks (p ∷ ps) off (k, zs, wo, s, suited) =
    let (here, rest) = each_without (IsOff e n) k ks zs wo off in
    let e1 = s.place in
    let e2 = s.ahead in
    let e3 = s.cells in (
      ⊎_elim (λ l. inl (omega (arith, l, e1))) (λ l. inr (omega (arith, l, e1, e2))) here,
      (⊎_elim (λ l. inl (omega (arith, l, e1))) (λ l. inr (omega (arith, l, e1, e2, e3))) here, suited_clear e n zs ps rest suited),
    )

pub suited_cells : (m : ℕ) (ks : List Spot) (ps : List Sent) → Each (IsWithin m) ks → AreApart ks → AreSuited ks ps → HaveCells m ps
suited_cells m ks [] within apart suited = tt
suited_cells m ks (p ∷ ps) within apart (k, zs, wo, s, suited) =
    let (here, within') = each_without (IsWithin m) k ks zs wo within in
    let (off, apart') = apart_without k ks zs wo apart in
    let e1 = s.place in
    let e2 = s.ahead in
    let e3 = s.cells in (
      omega (arith, here, e1, e2, e3),
      suited_clear p.at (length p.ahead + length p.passed.cells) zs ps
          (each_map (IsOff k.at (lead k.shape.back + k.shape.cells)) (IsOff p.at (length p.ahead + length p.passed.cells)) zs (λ z off. ⊎_elim (λ l. inl (omega (arith, l, e1, e2, e3))) (λ l. inr (omega (arith, l, e1))) off) off) suited,
      suited_cells m zs ps within' apart' suited,
    )

-- where the formals are one behind the other
pub have_cells : (hs : List Shape) (ps : List Sent) → AreSuited (spots 0 hs) ps → HaveCells (shapes_cells hs) ps
have_cells hs ps suited = suited_cells (shapes_cells hs) (spots 0 hs) ps (spots_within hs) (spots_apart 0 hs) suited

pub pieces_in : (m : ℕ) (ps : List Sent) → HaveCells m ps → AreIn m (pieces ps)
pieces_in m [] have = tt
pieces_in m (p ∷ ps) (fits, off, have) = (omega (arith, fits), (omega (arith, fits), pieces_in m ps have))

pub aheads_in : (m : ℕ) (ps : List Sent) → HaveCells m ps → AreIn m (aheads ps)
aheads_in m [] have = tt
aheads_in m (p ∷ ps) (fits, off, have) = (omega (arith, fits), aheads_in m ps have)

pub back_most : (o : Option Back) (n a : ℕ) (vs : List ℤ) (cells : List Cell) → BackAt o n a vs cells → length vs ≤ n
back_most None n a vs cells e = let z : length vs ≡ 0 = ap (λ z. length z) e in omega (arith, z)
back_most (Some b) n a vs cells (e, t) = omega (arith, e)

pub backs_in : (m a : ℕ) (ps : List Sent) (vss : List (List ℤ)) (cells : List Cell) → HaveCells m ps → Backs a ps vss cells → AreIn m (backs ps vss)
backs_in m a [] vss cells have bs = tt
backs_in m a (p ∷ ps) [] cells have bs = absurd bs
backs_in m a (p ∷ ps) (vs ∷ vss) cells (fits, off, have) (here, bs) =
    let most : length vs ≤ length p.passed.cells = back_most p.passed.back (length p.passed.cells) (a + (p.at + length p.ahead)) vs cells here in
    (omega (arith, fits), (omega (arith, fits, most), backs_in m a ps vss cells have bs))

pub aheads_clear : (e n : ℕ) (ps : List Sent) → IsClear e n (pieces ps) → IsClear e n (aheads ps)
aheads_clear e n [] off = tt
aheads_clear e n (p ∷ ps) (off, (off', rest)) = (off, aheads_clear e n ps rest)

pub backs_clear : (e n a : ℕ) (ps : List Sent) (vss : List (List ℤ)) (cells : List Cell) → Backs a ps vss cells → IsClear e n (pieces ps) → IsClear e n (backs ps vss)
backs_clear e n a [] vss cells bs off = tt
backs_clear e n a (p ∷ ps) [] cells bs off = absurd bs
backs_clear e n a (p ∷ ps) (vs ∷ vss) cells (here, bs) (off, (off', rest)) =
    let most : length vs ≤ length p.passed.cells = back_most p.passed.back (length p.passed.cells) (a + (p.at + length p.ahead)) vs cells here in
    (off, (⊎_elim (λ l. inl l) (λ l. inr (omega (arith, l, most))) off', backs_clear e n a ps vss cells bs rest))

-- ---- arguments aren't kept any more

right_aheads : (a m : ℕ) (ps : List Sent) (w : ℕ → What) (s : stored.State) (o : Option Cell) (b : ℕ) → HaveCells m ps → AreFree a m w → Right (scattered a (pieces ps) w b) s o → Right (scattered a (aheads ps) w b) s o
right_aheads a m [] w s o b have free r = r
right_aheads a m (p ∷ ps) w s o b (fits, off, have) free r =
    let n : ℕ = length p.ahead + length p.passed.cells in
    let a1 : ℕ = a + p.at in
    let a2 : ℕ = a + (p.at + length p.ahead) in
    let S : (ℕ → What) = scattered a (pieces ps) w in
    let H : (ℕ → What) = scattered a (aheads ps) w in
    let rest : (ℕ → What) = laid_what a2 0 kept_what p.passed.cells S in
    let off' : IsClear p.at n (aheads ps) = aheads_clear p.at n ps off in
    let r1 : Right (laid_what a1 0 kept_what p.ahead rest b) s o = subst (λ y. Right y s o) (two_outer a p.at p.ahead p.passed.cells (pieces ps) w b off) r in
    subst (λ y. Right y s o) (scattered_swap a p.at 0 kept_what p.ahead (aheads ps) w b (clear_part p.at n p.at (length p.ahead) (aheads ps) (le_refl p.at) (omega arith) off'))
    (⊎_elim
    (λ q. let (k, v, z, is) = q in
    subst (λ y. Right y s o) (sym (sym (ap (laid_what a1 0 kept_what p.ahead H) z) ∙ laid_in a1 0 kept_what p.ahead H k v is))
    (subst (λ y. Right y s o) (sym (ap (laid_what a1 0 kept_what p.ahead rest) z) ∙ laid_in a1 0 kept_what p.ahead rest k v is) r1))
    (λ out.
    let r2 : Right (rest b) s o = subst (λ y. Right y s o) (laid_out a1 0 kept_what p.ahead rest b out) r1 in
    subst (λ y. Right y s o) (sym (laid_out a1 0 kept_what p.ahead H b out))
    (⊎_elim
    (λ q. let (k, v, z, is) = q in
    let lt : k < length p.passed.cells = length_in p.passed.cells k v is in
    let j : ℕ = length p.ahead + k in
    let place : b ≡ a + (p.at + j) = omega (arith, z) in
    let fr : H b ≡ Free = ap H place ∙ scattered_off a p.at n j (aheads ps) w off' (omega (arith, lt)) ∙ free (p.at + j) (omega (arith, lt, fits)) in
    subst (λ y. Right y s o) (sym fr) (v, subst (λ y. Right y s o) (sym (ap rest z) ∙ laid_in a2 0 kept_what p.passed.cells S k v is) r2))
    (λ out'. right_aheads a m ps w s o b have free (subst (λ y. Right y s o) (laid_out a2 0 kept_what p.passed.cells S b out') r2))
    (among a2 b p.passed.cells)))
    (among a1 b p.ahead))

pub fit_aheads : (a m : ℕ) (ps : List Sent) (g : Ghost) {s : stored.State} {d : Dyn} → HaveCells m ps → AreFree a m g.what → Fit (scattering a (pieces ps) g) s d → Fit (scattering a (aheads ps) g) s d
fit_aheads a m ps g {s} {d} have free w = record {
  here = w.here;
  everywhere = w.everywhere;
  declared = w.declared;
  frame = w.frame;
  top = w.top;
  least = w.least;
  most = w.most;
  agrees = w.agrees;
  plan = w.plan;
  order = w.order;
  cells = λ b. right_aheads a m ps g.what s (slice_get d.cells b) b have free (w.cells b);
}

-- what a call leaves is kept
there_at : (cells : List Cell) (a : ℕ) (vs : List ℤ) (k : ℕ) (v : ℤ) → AreThere cells a vs → slice_get vs k ≡ Some v → value_in (slice_get cells (a + k)) ≡ Some v
there_at cells a [] k v t e = absurd (Rattle.std.proofs.lemmas.Option.none-some v e)
there_at cells a (u ∷ vs) zero v (t, ts) e = let z : a ≡ a + 0 = omega arith in ap (λ n. value_in (slice_get cells n)) (sym z) ∙ t ∙ e
there_at cells a (u ∷ vs) (suc k) v (t, ts) e = let z : a + 1 + k ≡ a + suc k = omega arith in ap (λ n. value_in (slice_get cells n)) (sym z) ∙ there_at cells (a + 1) vs k v ts e

mine_of : (s : stored.State) (w : What) (o : Option Cell) (v : ℤ) → w ≡ Free → Right w s o → value_in o ≡ Some v → o ≡ Some (Mine v)
mine_of s w o v free r e = let (u, is) = subst (λ w. Right w s o) free r in is ∙ ap (λ z. Some (Mine z)) (some_same u v (sym (ap value_in is) ∙ e))

back_there : (o : Option Back) (n a : ℕ) (vs : List ℤ) (cells : List Cell) → BackAt o n a vs cells → (k : ℕ) (v : ℤ) → slice_get vs k ≡ Some v → value_in (slice_get cells (a + k)) ≡ Some v
back_there None n a vs cells e k v is = absurd (Rattle.std.proofs.lemmas.Option.none-some v (subst (λ vs. slice_get vs k ≡ Some v) e is))
back_there (Some q) n a vs cells (l, t) k v is = there_at cells a vs k v t is

right_backs : (a m : ℕ) (ps : List Sent) (vss : List (List ℤ)) (w : ℕ → What) (s : stored.State) (cells : List Cell) (b : ℕ) → HaveCells m ps → AreFree a m w → Backs a ps vss cells
    → Right (scattered a (aheads ps) w b) s (slice_get cells b) → Right (scattered a (backs ps vss) w b) s (slice_get cells b)
right_backs a m [] vss w s cells b have free bs r = r
right_backs a m (p ∷ ps) [] w s cells b have free bs r = absurd bs
right_backs a m (p ∷ ps) (vs ∷ vss) w s cells b (fits, off, have) free (here, bs) r =
    let n : ℕ = length p.ahead + length p.passed.cells in
    let a1 : ℕ = a + p.at in
    let a2 : ℕ = a + (p.at + length p.ahead) in
    let H : (ℕ → What) = scattered a (aheads ps) w in
    let K : (ℕ → What) = scattered a (backs ps vss) w in
    let rest : (ℕ → What) = laid_what a2 0 kept_what vs K in
    let most : length vs ≤ length p.passed.cells = back_most p.passed.back (length p.passed.cells) a2 vs cells here in
    let off' : IsClear p.at n (aheads ps) = aheads_clear p.at n ps off in
    let off2 : IsClear p.at (length p.ahead + length vs) (backs ps vss) = clear_part p.at n p.at (length p.ahead + length vs) (backs ps vss) (le_refl p.at) (omega (arith, most)) (backs_clear p.at n a ps vss cells bs off) in
    let r0 : Right (laid_what a1 0 kept_what p.ahead H b) s (slice_get cells b) = subst (λ y. Right y s (slice_get cells b)) (sym (scattered_swap a p.at 0 kept_what p.ahead (aheads ps) w b (clear_part p.at n p.at (length p.ahead) (aheads ps) (le_refl p.at) (omega arith) off'))) r in
    subst (λ y. Right y s (slice_get cells b)) (sym (two_outer a p.at p.ahead vs (backs ps vss) w b off2))
    (⊎_elim
    (λ q. let (k, v, z, is) = q in
    subst (λ y. Right y s (slice_get cells b)) (sym (sym (ap (laid_what a1 0 kept_what p.ahead rest) z) ∙ laid_in a1 0 kept_what p.ahead rest k v is))
    (subst (λ y. Right y s (slice_get cells b)) (sym (ap (laid_what a1 0 kept_what p.ahead H) z) ∙ laid_in a1 0 kept_what p.ahead H k v is) r0))
    (λ out.
    let r' : Right (H b) s (slice_get cells b) = subst (λ y. Right y s (slice_get cells b)) (laid_out a1 0 kept_what p.ahead H b out) r0 in
    subst (λ y. Right y s (slice_get cells b)) (sym (laid_out a1 0 kept_what p.ahead rest b out))
    (⊎_elim
    (λ q. let (k, v, z, is) = q in
    let lt : k < length vs = length_in vs k v is in
    let j : ℕ = length p.ahead + k in
    let place : b ≡ a + (p.at + j) = omega (arith, z) in
    let fr : H b ≡ Free = ap H place ∙ scattered_off a p.at n j (aheads ps) w off' (omega (arith, lt, most)) ∙ free (p.at + j) (omega (arith, lt, most, fits)) in
    subst (λ y. Right y s (slice_get cells b)) (sym (sym (ap rest z) ∙ laid_in a2 0 kept_what vs K k v is))
    (mine_of s (H b) (slice_get cells b) v fr r' (ap (λ m. value_in (slice_get cells m)) (sym z) ∙ back_there p.passed.back (length p.passed.cells) a2 vs cells here k v is)))
    (λ out'. subst (λ y. Right y s (slice_get cells b)) (sym (laid_out a2 0 kept_what vs K b out')) (right_backs a m ps vss w s cells b have free bs r'))
    (among a2 b vs)))
    (among a1 b p.ahead))

pub fit_backs : (a m : ℕ) (ps : List Sent) (vss : List (List ℤ)) (g : Ghost) {s : stored.State} {d : Dyn} → HaveCells m ps → AreFree a m g.what → Backs a ps vss d.cells → Fit (scattering a (aheads ps) g) s d → Fit (scattering a (backs ps vss) g) s d
fit_backs a m ps vss g {s} {d} have free bs w = record {
  here = w.here;
  everywhere = w.everywhere;
  declared = w.declared;
  frame = w.frame;
  top = w.top;
  least = w.least;
  most = w.most;
  agrees = w.agrees;
  plan = w.plan;
  order = w.order;
  cells = λ b. right_backs a m ps vss g.what s d.cells b have free bs (w.cells b);
}

there_cut : (top : ℕ) (cells : List Cell) (a : ℕ) (vs : List ℤ) → a + length vs ≤ top → AreThere cells a vs → AreThere (take top cells) a vs
there_cut top cells a [] le t = tt
there_cut top cells a (v ∷ vs) le (t, ts) = (ap value_in (get_take top cells a (omega (arith, le))) ∙ t, there_cut top cells (a + 1) vs (omega (arith, le)) ts)

back_cut : (top : ℕ) (cells : List Cell) (o : Option Back) (n a : ℕ) (vs : List ℤ) → a + n ≤ top → BackAt o n a vs cells → BackAt o n a vs (take top cells)
back_cut top cells None n a vs le e = e
back_cut top cells (Some b) n a vs le (e, t) = (e, there_cut top cells a vs (omega (arith, le, e)) t)

-- in the cells that are left to the caller
pub backs_cut : (top a m : ℕ) (ps : List Sent) (vss : List (List ℤ)) (cells : List Cell) → HaveCells m ps → a + m ≤ top → Backs a ps vss cells → Backs a ps vss (take top cells)
backs_cut top a m [] vss cells have le bs = tt
backs_cut top a m (p ∷ ps) [] cells have le bs = absurd bs
backs_cut top a m (p ∷ ps) (vs ∷ vss) cells (fits, off, have) le (here, bs) = (
  back_cut top cells p.passed.back (length p.passed.cells) (a + (p.at + length p.ahead)) vs (omega (arith, le, fits)) here,
  backs_cut top a m ps vss cells have le bs,
)

-- ---- parts after which something is told of the machine too

module _ (limit : ℕ) (c : Code) (f : Fixed) (x : Ends) where
  abbrev pub LandsAlso : {A : Type 0} → (A → Dyn → Type 0) → Ghost → Step → ℕ → (A → Dyn → Step) → stored.State → Result A Cause → Type 0
  LandsAlso q g from turns to s (Ok a) = (l : Land limit c (is_some f.asked) g from turns s (to a)) × q a l.dyn
  LandsAlso q g from turns to s (Err e) = Lands limit c f x any g from turns to s (Err e)

  pub record Also {A : Type 0} (g h : Ghost) (q : A → Dyn → Type 0) (m : Stored A) (from : Dyn → Step) (to : A → Dyn → Step) : Type 0 where
    pub by : (s : stored.State) (d : Dyn) → Fit g s d → Asks f g (m.touches s) (m.visits s) → (let r = m.does s in LandsAlso q h (from d) s.turns to r.state r.end)

  pub also_from : {A : Type 0} {g h : Ghost} {from from' : Step} {n m : ℕ} (q : A → Dyn → Type 0) (to : A → Dyn → Step) (s : stored.State) (e : Result A Cause) → Comes limit c (is_some f.asked) from from' → n ≤ m → ((s : stored.State) (d : Dyn) → Fit g s d → Fit h s d)
      → LandsAlso q g from' m to s e → LandsAlso q h from n to s e
  also_from q to s (Ok a) k le w (l, ok) = (record { dyn = l.dyn; fit = w s l.dyn l.fit; comes = leads_on limit c k l.comes; grows = le_trans le l.grows }, ok)
  also_from q to s (Err e) k le w l = lands_from limit c f x any to s (Err e) k le w l

  pub also_seq : {A B : Type 0} {g h j : Ghost} {p : A → Type 0} {q : B → Dyn → Type 0} {m : Stored A} {k : A → Stored B} {from : Dyn → Step} {mid : A → Dyn → Step} {to : B → Dyn → Step}
      → ((s : stored.State) (d : Dyn) → Fit h s d → Fit j s d) → ((ts : List Touch) → Allows g ts → Allows h ts)
      → Doing limit c f x g h p m from mid → ((a : A) → p a → Also h j q (k a) (mid a) to) → Also g j q (stored.bind m k) from to
  unfolding stored.bind
  also_seq {A} {B} {g} {h} {j} {p} {q} {m} {k} {from} {mid} {to} weak few i n = record {
    by = λ s d fit al. let (ax, ay) = asks_split limit c f x g (m.touches s) (stored.next_touches (m.does s).state (m.does s).end k) (m.visits s) (stored.next_visits (m.does s).state (m.does s).end k) al in go s d (m.does s).state (m.does s).end ay (i.by s d fit ax);
  }
    where
      go : (s : stored.State) (d : Dyn) (t : stored.State) (e : Result A Cause) → Asks f g (stored.next_touches t e k) (stored.next_visits t e k) → Lands limit c f x p h (from d) s.turns mid t e
          → (let r = stored.next t e k in LandsAlso q j (from d) s.turns to r.state r.end)
      go s d t (Ok a) al l = also_from q to ((k a).does t).state ((k a).does t).end l.1.comes l.1.grows (λ s d fit. fit) ((n a l.0).by t l.1.dyn l.1.fit (few ((k a).touches t) al.0, al.1))
      go s d t (Err (Left y)) al l = land_from limit c f x (comes_here limit c (from d) _) (le_refl s.turns) weak l
      go s d t (Err OutOfTurns) al l = land_from limit c f x (comes_here limit c (from d) _) (le_refl s.turns) weak l
      go s d t (Err CutOff) al l = land_from limit c f x (comes_here limit c (from d) _) (le_refl s.turns) weak l
      go s d t (Err NoRoom) al l = tt
      go s d t (Err Misnoted) al (un, l) = (un, land_from limit c f x (comes_here limit c (from d) _) (le_refl s.turns) weak l)

  -- and what goes on with that
  pub also_then : {A B : Type 0} {g h j : Ghost} {p : A → Dyn → Type 0} {q : B → Type 0} {m : Stored A} {k : A → Stored B} {from : Dyn → Step} {mid : A → Dyn → Step} {to : B → Dyn → Step}
      → ((s : stored.State) (d : Dyn) → Fit h s d → Fit j s d) → Also g h p m from mid
      → ((a : A) (s : stored.State) (d : Dyn) → Fit h s d → p a d → (h' : Ghost) × Fit h' s d × ((ts : List Touch) → Allows g ts → Allows h' ts) × Doing limit c f x h' j q (k a) (mid a) to)
      → Doing limit c f x g j q (stored.bind m k) from to
  unfolding stored.bind
  also_then {A} {B} {g} {h} {j} {p} {q} {m} {k} {from} {mid} {to} weak i n = record {
    by = λ s d fit al. let (ax, ay) = asks_split limit c f x g (m.touches s) (stored.next_touches (m.does s).state (m.does s).end k) (m.visits s) (stored.next_visits (m.does s).state (m.does s).end k) al in go s d (m.does s).state (m.does s).end ay (i.by s d fit ax);
  }
    where
      go : (s : stored.State) (d : Dyn) (t : stored.State) (e : Result A Cause) → Asks f g (stored.next_touches t e k) (stored.next_visits t e k) → LandsAlso p h (from d) s.turns mid t e
          → (let r = stored.next t e k in Lands limit c f x q j (from d) s.turns to r.state r.end)
      go s d t (Ok a) al (l, ok) =
          let (h', fit', few, does) = n a t l.dyn l.fit ok in
          lands_from limit c f x q to ((k a).does t).state ((k a).does t).end l.comes l.grows (λ s d fit. fit) (does.by t l.dyn fit' (few ((k a).touches t) al.0, al.1))
      go s d t (Err (Left y)) al l = land_from limit c f x (comes_here limit c (from d) _) (le_refl s.turns) weak l
      go s d t (Err OutOfTurns) al l = land_from limit c f x (comes_here limit c (from d) _) (le_refl s.turns) weak l
      go s d t (Err CutOff) al l = land_from limit c f x (comes_here limit c (from d) _) (le_refl s.turns) weak l
      go s d t (Err NoRoom) al l = tt
      go s d t (Err Misnoted) al (un, l) = (un, land_from limit c f x (comes_here limit c (from d) _) (le_refl s.turns) weak l)

  pub also_returned : {A B : Type 0} {g h : Ghost} {q : B → Dyn → Type 0} {from : Dyn → Step} {to : B → Dyn → Step} (k : A → Stored B) (a : A) → Also g h q (k a) from to → Also g h q (stored.bind (stored.ret a) k) from to
  unfolding stored.bind stored.ret
  also_returned k a j = record { by = λ s d fit al. j.by s d fit al }

  pub also_by : {A : Type 0} {g h : Ghost} {q : A → Dyn → Type 0} {m : Stored A} {from from' : Dyn → Step} {to : A → Dyn → Step} → ((s : stored.State) (d : Dyn) → Fit g s d → To limit c (from d) (from' d)) → Also g h q m from' to → Also g h q m from to
  also_by {q = q} {to = to} k j = record { by = λ s d fit al. also_from q to _ _ (k s d fit _) (le_refl s.turns) (λ s d fit. fit) (j.by s d fit al) }

  pub also_weak : {A : Type 0} {g h h' : Ghost} {q : A → Dyn → Type 0} {m : Stored A} {from : Dyn → Step} {to : A → Dyn → Step} → ((s : stored.State) (d : Dyn) → Fit h s d → Fit h' s d) → Also g h q m from to → Also g h' q m from to
  also_weak {q = q} {from = from} {to = to} w j = record { by = λ s d fit al. also_from q to _ _ (comes_here limit c (from d) _) (le_refl s.turns) w (j.by s d fit al) }

  -- ghosts that are alike
  pub also_alike : {A : Type 0} {g h : Ghost} {q : A → Dyn → Type 0} {m : Stored A} {from : Dyn → Step} {to : A → Dyn → Step} (w : ℕ → What) → ((a : ℕ) → g.what a ≡ w a) → Also (record g { what = w }) h q m from to → Also g h q m from to
  also_alike {g = g} {m = m} w e j = record { by = λ s d fit al. j.by s d (fit_alike w e fit) (allows_fewer limit c f x g (record g { what = w }) (m.touches s) (λ b y p r. inl (e b ∙ r)) al.0, al.1) }

  pub also_raised : {A : Type 0} {g : Ghost} {q : A → Dyn → Type 0} {m : Stored A} {from : Dyn → Step} {to : A → Dyn → Step} (r : Reason) → ((s : stored.State) → m.does s ≡ stored.at s (Err (Left (Raises r)))) → ((d : Dyn) → To limit c (from d) (thrown r x.entry f d)) → Also g g q m from to
  also_raised {A} {g} {q} {m} {from} {to} r is k = record { by = λ s d fit al. subst (λ e. LandsAlso q g (from d) s.turns to e.state e.end) (sym (is s)) (record { dyn = d; fit = fit; comes = k d _; grows = le_refl s.turns }) }

  -- a new object, whose first values stand in its cells, for as long as a part goes on
  pub also_elaborates : {A : Type 0} {g : Ghost} {q : A → Dyn → Type 0} {m : Stored A} {from : Dyn → Step} {to : A → Dyn → Step} (y : Entity) (a : ℕ) (vs : List ℤ) → ((k : ℕ) → k < length vs → g.what (a + k) ≡ Free) → (wh : ℕ → What) → ((k : ℕ) → k < length vs → wh (a + k) ≡ Free) → ((b : ℕ) (z : Access) (n : ℕ) → wh b ≡ StandsFor z (Rattle.ada_meaning.specs.Stored.Stacked n) → g.what b ≡ StandsFor z (Rattle.ada_meaning.specs.Stored.Stacked n))
      → ((len : ℕ) → Fresh g len → key y < length g.here → Also (having y len a vs g) (having y len a vs (record g { what = wh })) q m from to)
      → Also (keeping a vs g) (record g { what = wh }) q (stored.elaborates Here y vs m) from to
  unfolding stored.elaborates
  also_elaborates {A} {g} {q} {m} {from} {to} y a vs free wh free' old k = record { by = λ s d fit al. go s d fit (nat_lt (key y) (length s.here)) refl al }
    where
      fresh' : (s : stored.State) (d : Dyn) → Fit (keeping a vs g) s d → Fresh (record g { what = wh }) (length s.cells)
      fresh' s d fit b z n e = fresh_of (fit_unkept a vs g free fit) b z n (old b z n e)

      back : (s : stored.State) (d : Dyn) → Fit (keeping a vs g) s d → key y < length g.here → (t : stored.State) (e : Result A Cause)
          → LandsAlso q (having y (length s.cells) a vs (record g { what = wh })) (from d) s.turns to t e → LandsAlso q (record g { what = wh }) (from d) s.turns to (stored.ended Here y s t) e
      back s d fit slots t (Ok r) (l, ok) = (record { dyn = l.dyn; fit = fit_ended y a vs (record g { what = wh }) s t slots free' fit.here (fresh' s d fit) l.fit; comes = l.comes; grows = l.grows }, ok)
      back s d fit slots t (Err (Left w)) l = record { dyn = l.dyn; fit = fit_ended y a vs (record g { what = wh }) s t slots free' fit.here (fresh' s d fit) l.fit; comes = l.comes; grows = l.grows }
      back s d fit slots t (Err OutOfTurns) l = record { dyn = l.dyn; fit = fit_ended y a vs (record g { what = wh }) s t slots free' fit.here (fresh' s d fit) l.fit; comes = l.comes; grows = l.grows }
      back s d fit slots t (Err CutOff) l = record { dyn = l.dyn; fit = fit_ended y a vs (record g { what = wh }) s t slots free' fit.here (fresh' s d fit) l.fit; comes = l.comes; grows = l.grows }
      back s d fit slots t (Err NoRoom) l = tt
      back s d fit slots t (Err Misnoted) (un, l) = (un, record { dyn = l.dyn; fit = fit_ended y a vs (record g { what = wh }) s t slots free' fit.here (fresh' s d fit) l.fit; comes = l.comes; grows = l.grows })

      go : (s : stored.State) (d : Dyn) → Fit (keeping a vs g) s d → (b : Bool) → nat_lt (key y) (length s.here) ≡ b → Asks f (keeping a vs g) (cond (nat_lt (key y) (length s.here)) (m.touches (stored.begun Here y vs s)) []) (cond (nat_lt (key y) (length s.here)) (m.visits (stored.begun Here y vs s)) [])
          → (let r = m.does (stored.begun Here y vs s) in let z = cond (nat_lt (key y) (length s.here)) (stored.at (stored.ended Here y s r.state) r.end) (stored.at s (Err NoRoom)) in LandsAlso q (record g { what = wh }) (from d) s.turns to z.state z.end)
      go s d fit true e al =
          let slots : key y < length g.here = subst (λ h. key y < length h) fit.here (ltb-true (key y) (length s.here) e) in
          let r = m.does (stored.begun Here y vs s) in
          let al' : Asks f (keeping a vs g) (m.touches (stored.begun Here y vs s)) (m.visits (stored.begun Here y vs s)) = subst (λ b. Asks f (keeping a vs g) (cond b (m.touches (stored.begun Here y vs s)) []) (cond b (m.visits (stored.begun Here y vs s)) [])) e al in
          subst (λ b. let z = cond b (stored.at (stored.ended Here y s r.state) r.end) (stored.at s (Err NoRoom)) in LandsAlso q (record g { what = wh }) (from d) s.turns to z.state z.end) (sym e)
          (back s d fit slots r.state r.end
          ((k (length s.cells) (fresh_of (fit_unkept a vs g free fit)) slots).by (stored.begun Here y vs s) d (fit_having y a vs g fit)
          (allows_fewer limit c f x (keeping a vs g) (having y (length s.cells) a vs g) (m.touches (stored.begun Here y vs s)) (fewer_kept limit c f x y (length s.cells) a vs g) al'.0, al'.1)))
      go s d fit false e al =
          let r = m.does (stored.begun Here y vs s) in
          subst (λ b. let z = cond b (stored.at (stored.ended Here y s r.state) r.end) (stored.at s (Err NoRoom)) in LandsAlso q (record g { what = wh }) (from d) s.turns to z.state z.end) (sym e) tt

-- ---- what is to be copied back is read

module _ (limit : ℕ) (cuts : ℕ → ℕ → List ℕ) (program : Program) (c : Code) (f : Fixed) (x : Ends) where
  abbrev ops : Operations {1}
  ops = stored.noted_operations limit cuts

  ret_is : {A : Type 0} (a : A) (s : stored.State) → (stored.ret a).does s ≡ stored.at s (Ok a)
  unfolding stored.ret
  ret_is a s = refl

  bind_is : {A B : Type 0} (m : Stored A) (k : A → Stored B) (s : stored.State) (a : A) → m.does s ≡ stored.at s (Ok a) → (stored.bind m k).does s ≡ (k a).does s
  unfolding stored.bind
  bind_is {A} {B} m k s a e = ap (λ r. stored.next r.state r.end k) e ∙ same ((k a).does s)
    where
      same : (r : stored.After B) → stored.at r.state r.end ≡ r
      same r = refl

  bind_allows : {A B : Type 0} (g : Ghost) (m : Stored A) (k : A → Stored B) (s : stored.State) (a : A) → m.does s ≡ stored.at s (Ok a) → Allows g ((stored.bind m k).touches s) → Allows g ((k a).touches s)
  unfolding stored.bind
  bind_allows g m k s a e al = let (t, u) = allows_split limit c f x g (m.touches s) _ al in subst (λ r. Allows g (stored.next_touches r.state r.end k)) e u

  bind_first : {A B : Type 0} (g : Ghost) (m : Stored A) (k : A → Stored B) (s : stored.State) → Allows g ((stored.bind m k).touches s) → Allows g (m.touches s)
  unfolding stored.bind
  bind_first g m k s al = (allows_split limit c f x g (m.touches s) _ al).0

  back_one : {g : Ghost} (o : Option Back) (y : Entity) (n a : ℕ) (s : stored.State) (d : Dyn) → SpreadOf g y o n a → Fit g s d → Allows g ((Meaning.cells_back ops limit program y o).touches s)
      → (vs : List ℤ) × ((Meaning.cells_back ops limit program y o).does s ≡ stored.at s (Ok vs)) × BackAt o n a vs d.cells
  back_one None y n a s d spread fit al = ([], ret_is [] s, refl)
  back_one {g} (Some b) y n a s d (len, spread) fit al =
      let r = all_read limit cuts c f x {g = g} y 0 a n b.cells [] s d (omega (arith, len)) spread fit al in
      (r.values, r.is, (r.many ∙ len, r.there))

  pub back_read : {g : Ghost} (ps : List Sent) (a : ℕ) (so_far : List (List ℤ)) (s : stored.State) (d : Dyn) → AreSpread g a ps → Fit g s d → Allows g ((Meaning.back_cells ops limit program (all_passed ps) so_far).touches s)
      → (vss : List (List ℤ)) × ((Meaning.back_cells ops limit program (all_passed ps) so_far).does s ≡ stored.at s (Ok (so_far ++ vss))) × Backs a ps vss d.cells
  back_read [] a so_far s d spread fit al = ([], ret_is so_far s ∙ ap (λ z. stored.at s (Ok z)) (sym (append-nil so_far)), tt)
  back_read {g} (p ∷ ps) a so_far s d (spread, more) fit al =
      let m : Stored (List ℤ) = Meaning.cells_back ops limit program p.passed.formal p.passed.back in
      let (vs, is, here) = back_one {g = g} p.passed.back p.passed.formal (length p.passed.cells) (a + (p.at + length p.ahead)) s d spread fit (bind_first g m (λ vs. Meaning.back_cells ops limit program (all_passed ps) (so_far ++ (vs ∷ []))) s al) in
      let (vss, are, rest) = back_read {g = g} ps a (so_far ++ (vs ∷ [])) s d more fit (bind_allows g m (λ vs. Meaning.back_cells ops limit program (all_passed ps) (so_far ++ (vs ∷ []))) s vs is al) in
      (vs ∷ vss, bind_is m (λ vs. Meaning.back_cells ops limit program (all_passed ps) (so_far ++ (vs ∷ []))) s vs is ∙ are ∙ ap (λ z. stored.at s (Ok z)) (append_assoc so_far (vs ∷ []) vss), (here, rest))

  -- and given
  pub also_back : {g : Ghost} (ps : List Sent) (a : ℕ) (v : ℤ) (to : ℤ → Dyn → Step) → AreSpread g a ps
      → Also limit c f x {A = Returned} g g (λ r d. Backs a ps r.cells d.cells) (stored.bind (Meaning.back_cells ops limit program (all_passed ps) []) (λ vss. stored.ret (record { value = v; cells = vss }))) (λ d. to v d) (λ r d. to r.value d)
  also_back {g} ps a v to spread = record {
    by = λ s d fit al.
        let m : Stored (List (List ℤ)) = Meaning.back_cells ops limit program (all_passed ps) [] in
        let k : (List (List ℤ) → Stored Returned) = (λ vss. stored.ret (record { value = v; cells = vss })) in
        let (vss, is, here) = back_read {g = g} ps a [] s d spread fit (bind_first g m k s al.0) in
        subst (λ r. LandsAlso limit c f x {A = Returned} (λ r d. Backs a ps r.cells d.cells) g (to v d) s.turns (λ r d. to r.value d) r.state r.end) (sym (bind_is m k s vss is ∙ ret_is (record { value = v; cells = vss }) s))
        (record { dyn = d; fit = fit; comes = comes_here limit c (to v d) _; grows = le_refl s.turns }, here);
  }
