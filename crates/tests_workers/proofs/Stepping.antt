-- What the code of a walker does.
use Rattle.std.proofs.Common.{◌≡◌, ℕ, zero, suc, ◌+◌, ◌-◌, ◌<◌, ◌≤◌, ℤ, true, false, cond, List, [], ◌∷◌, length, get_or, set, Option, Some, None, arith, refl, sym, ◌∙◌, ap, subst, length-set}
use Rattle.std.specs.Prelude.{slice_get}
use lib.Dec.{ltb}
use Rattle.std.proofs.lemmas.List.{get_or-set_same, get_or-set_other}
use Rattle.std.proofs.lemmas.Bool.{cases_eq}
use Rattle.std.proofs.lemmas.Bool.Decides.{nat_tests}
use Rattle.std.proofs.Common.{inl, inr}
use Rattle.ada_base.specs.Cells.{Cell, Gone, Mine}
use Rattle.cell_memory.specs.Sight.{Sight, cell_at, is_mine, is_gone, value_of, stored, OwnThere}
use Rattle.ada_workers.specs.Paths.{AtEnd, Spent, Stuck, Outcome, Fine, Went, SamePlace}
use Rattle.ada_workers.specs.Iterated.{On, Ends, iterated}
use Rattle.ada_workers.specs.declared.path.Stop.{Stop}
use Rattle.ada_workers.specs.declared.path.Stop.TheVariants as stop
use Rattle.tests_workers.specs.declared.walker.Op.TheVariants as op
use Rattle.tests_workers.specs.declared.walker.Walker.{Walker}
use Rattle.tests_workers.specs.Walks.{ends, onward, turned, turn, look_turn, write, at_op, step, walk, Goes, plus, Stepped}
use Rattle.tests_workers.specs.Walking.{mine_in}

pub there : {X : Type 0} (xs : List X) (i : ℕ) (r o : X) → r ≡ get_or xs i r → i < length xs → r ≡ o → slice_get xs i ≡ Some o
there [] i r o e lt q = absurd (omega (arith, lt))
there (x ∷ xs) zero r o e lt q = ap Some (sym e ∙ q)
there (x ∷ xs) (suc i) r o e lt q = there xs i r o e (omega (arith, lt)) q

none_there : {X : Type 0} (xs : List X) (i : ℕ) → length xs ≤ i → slice_get xs i ≡ None
none_there [] i le = refl
none_there (x ∷ xs) zero le = absurd (omega (arith, le))
none_there (x ∷ xs) (suc i) le = none_there xs i (omega (arith, le))

pub place_set : (s : Sight) (x : ℕ) (v : ℤ) → OwnThere s → is_mine (cell_at s x) ≡ true → SamePlace s (stored s x v)
place_set s x v own m = record {
  held = refl;
  lower = ap (λ n. n - s.own) (length-set s.cells x (Mine v));
  long = omega (arith, length-set s.cells x (Mine v));
  there = λ y le lt. elim (cases_eq y x) as (λ _. is_gone (get_or (set s.cells x (Mine v)) y Gone) ≡ false) [
    | inl e ↦ ap (λ k. is_gone (get_or (set s.cells x (Mine v)) k Gone)) e ∙ ap is_gone (get_or-set_same s.cells x (Mine v) Gone (mine_in s.cells x m))
    | inr ne ↦ ap is_gone (get_or-set_other s.cells x y (Mine v) Gone ne) ∙ own y (omega (arith, length-set s.cells x (Mine v))) (omega (arith, length-set s.cells x (Mine v)))
  ];
  kinds = λ y lt. elim (cases_eq y x) as (λ _. is_mine (get_or (set s.cells x (Mine v)) y Gone) ≡ is_mine (get_or s.cells y Gone)) [
    | inl e ↦ ap (λ k. is_mine (get_or (set s.cells x (Mine v)) k Gone)) e ∙ ap is_mine (get_or-set_same s.cells x (Mine v) Gone (mine_in s.cells x m)) ∙ sym (ap (λ k. is_mine (get_or s.cells k Gone)) e ∙ m)
    | inr ne ↦ ap is_mine (get_or-set_other s.cells x y (Mine v) Gone ne)
  ];
}

pub place_trans : (s t u : Sight) → SamePlace s t → SamePlace t u → SamePlace s u
place_trans s t u h g = record { held = g.held ∙ h.held; lower = g.lower ∙ h.lower; long = omega (arith, g.long, h.long); there = g.there; kinds = λ x lt. g.kinds x (omega (arith, h.lower)) ∙ h.kinds x lt }

module _ (p : Walker) (cs : List Cell) where
  goes_write : (n : Option ℕ) (a : ℕ) (c : Cell) → Goes (write p n cs a c) → is_mine (get_or cs a Gone) ≡ true
  goes_write n a c g = elim (is_mine (get_or cs a Gone)) as (λ y. Goes (cond y (On (onward p) n (set cs a c)) (ends p cs Stuck)) → y ≡ true) [ true ↦ λ _. refl | false ↦ λ f. absurd f ] g

  goes_copy : (a b : ℕ) → Goes (at_op (Some (op.Copy a b)) p None cs) → (is_gone (get_or cs a Gone) ≡ false) × (is_mine (get_or cs b Gone) ≡ true)
  goes_copy a b g =
      elim (is_gone (get_or cs a Gone)) as (λ y. Goes (cond y (ends p cs Stuck) (write p None cs b (Mine (value_of (get_or cs a Gone))))) → (y ≡ false) × (is_mine (get_or cs b Gone) ≡ true)) [
        | true ↦ λ f. absurd f
        | false ↦ λ f. (refl, goes_write None b (Mine (value_of (get_or cs a Gone))) f)
      ] g

  pub copy_mine : (a b : ℕ) → slice_get p.ops.items p.at ≡ Some (op.Copy a b) → Goes (step p None cs) → is_mine (get_or cs b Gone) ≡ true
  copy_mine a b e g = (goes_copy a b (subst (λ o. Goes (at_op o p None cs)) e g)).1

  pub copy_step : (a b : ℕ) (v : ℤ) (ds : List Cell) → slice_get p.ops.items p.at ≡ Some (op.Copy a b) → Goes (step p None cs) → v ≡ value_of (get_or cs a Gone) → ds ≡ set cs b (Mine v) → Stepped p cs None (onward p) ds
  copy_step a b v ds e g is d =
      let h = goes_copy a b (subst (λ o. Goes (at_op o p None cs)) e g) in (
        0,
        omega arith,
        λ n.
            ap (λ o. at_op o p (plus 0 n) cs) e ∙ ap (λ y. cond y (ends p cs Stuck) (write p (plus 0 n) cs b (Mine (value_of (get_or cs a Gone))))) h.0
            ∙ ap (λ y. cond y (On (onward p) (plus 0 n) (set cs b (Mine (value_of (get_or cs a Gone))))) (ends p cs Stuck)) h.1
            ∙ (λ i. On (onward p) (no_more n i) ((ap (λ w. set cs b (Mine w)) (sym is) ∙ sym d) i)),
      ) where
        no_more : (n : Option ℕ) → plus 0 n ≡ n
        no_more None = refl
        no_more (Some k) = ap Some (omega arith)

  pub turn_step : slice_get p.ops.items p.at ≡ Some op.Turn → p.turns < p.limit → Stepped p cs None (turned p) cs
  turn_step e lt = (1, refl, λ n. ap (λ o. at_op o p (plus 1 n) cs) e ∙ one n) where
    goes : (n : Option ℕ) → turn p n cs ≡ On (turned p) n cs
    goes n = let y : ltb p.turns p.limit ≡ true = grind (arith, nat_tests) in ap (λ b. cond b (On (turned p) n cs) (ends p cs Spent)) y

    one : (n : Option ℕ) → look_turn p (plus 1 n) cs ≡ On (turned p) n cs
    one None = goes None
    one (Some k) = let f : 1 + k ≡ suc k = omega arith in ap (λ j. look_turn p (Some j) cs) f ∙ goes (Some k)

  pub leave_step : slice_get p.ops.items p.at ≡ Some op.Leave → Stepped p cs (Some stop.Gone) p cs
  leave_step e = ap (λ o. at_op o p None cs) e

  -- a run of which this step is the first
  pub walk_on : (q : Walker) (ds : List Cell) (k : ℕ) → ((b : Option ℕ) → step p (plus k b) cs ≡ On q b ds) → p.at < length p.ops.items → q.ops ≡ p.ops → q.at ≡ p.at + 1 → (b : Option ℕ) → walk p (plus k b) cs ≡ walk q b ds
  walk_on q ds k s lt o a b =
      let f : length p.ops.items - p.at ≡ suc (length q.ops.items - q.at) = omega (arith, ap (λ v. length v.items) o) in
      ap (λ y. elim y [ On r m es ↦ iterated step (length p.ops.items - p.at) r m es | Ends z ↦ z ]) (s b) ∙ ap (λ n. iterated step n q b ds) f

  pub walk_ends : (n : Option ℕ) (o : Outcome Walker) → step p n cs ≡ Ends o → walk p n cs ≡ o
  walk_ends n o e = ap (λ y. elim y [ On r m es ↦ iterated step (length p.ops.items - p.at) r m es | Ends z ↦ z ]) e

  pub walk_over : (b : Option ℕ) → length p.ops.items ≤ p.at → walk p b cs ≡ record { path = p; cells = cs; end = AtEnd }
  walk_over b le = walk_ends b (record { path = p; cells = cs; end = AtEnd }) (ap (λ o. at_op o p b cs) (none_there p.ops.items p.at le))

  pub walk_goes : Fine (walk p None cs).end → Goes (step p None cs)
  walk_goes f = elim (step p None cs) as (λ y. Fine (elim y as (λ _. Outcome Walker) [ On r m es ↦ iterated step (length p.ops.items - p.at) r m es | Ends z ↦ z ]).end → Goes y) [ On r m es ↦ λ _. tt | Ends o ↦ λ g. g ] f

pub plus_plus : (j k : ℕ) (b : Option ℕ) → plus (j + k) b ≡ plus j (plus k b)
plus_plus j k None = refl
plus_plus j k (Some n) = ap Some (omega arith)

pub plus_zero : (b : Option ℕ) → plus 0 b ≡ b
plus_zero None = refl
plus_zero (Some n) = ap Some (omega arith)

-- how a walk ended, from where its last step began
pub went : (p q r : Walker) (cs ds es : List Cell) (k : ℕ) (s : Stop) → q.turns ≡ p.turns + k → ((looks : ℕ) → s ≡ stop.Paused looks → p.turns + looks ≡ q.turns) → ((b : Option ℕ) → walk p (plus k b) cs ≡ walk q b ds) → Stepped q ds (Some s) r es → Went walk p cs s r es
went p q r cs ds es k stop.Ended t l w h = w None ∙ walk_ends q ds None _ h
went p q r cs ds es k stop.Gone t l w h = w None ∙ walk_ends q ds None _ h
went p q r cs ds es k stop.Spent t l w h = w None ∙ walk_ends q ds None _ h
went p q r cs ds es k (stop.Paused looks) t l w h = let e : looks ≡ k + 0 = omega (arith, l looks refl) in ap (λ n. walk p (Some n) cs) e ∙ w (Some 0) ∙ walk_ends q ds (Some 0) _ h
went p q r cs ds es k stop.NoMemory t l w h = tt
