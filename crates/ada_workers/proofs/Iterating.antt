-- What holds of a step holds of a run.
use Rattle.std.proofs.Common.{◌≡◌, ◌≢◌, ℕ, zero, suc, ◌≤◌, inl, inr, true, false, List, [], ◌∷◌, ◌++◌, length, get_or, Option, Some, None, refl, sym, ◌∙◌, ap, subst}
use Rattle.ada_base.specs.Cells.{Cell, Gone, Seen, Mine}
use Rattle.cell_memory.specs.Sight.{is_mine, is_gone}
use Rattle.ada_workers.specs.Paths.{Cut, Stuck, Outcome, Fine, Covers, Frames}
use Rattle.ada_workers.specs.Threads.{Touching}
use Rattle.ada_workers.specs.Iterated.{Next, On, Ends, Steps, iterated, KeepsTo, SameTo, KeepsNext, SameNext, BeginsNext, Uncut, StepFrames, Touch, Reads, Writes, AllAllowed, OwnMine, run_touches, FollowsNext, StepTouches}

module _ {P : Type 0} (Above : ℕ → P → List Cell → Type 0) (step : Steps P) (frames : StepFrames Above step) where
  abbrev after : ℕ → Next P → Outcome P
  after k y = elim y [ On q m ds ↦ iterated step k q m ds | Ends o ↦ o ]

  keeps_trans : (b : ℕ) (us vs ws : List Cell) → KeepsTo b us vs → KeepsTo b vs ws → KeepsTo b us ws
  keeps_trans b us vs ws h g = record {
    long = g.long;
    kinds = λ x lt. g.kinds x lt ∙ h.kinds x lt;
    others = λ x lt e. g.others x lt (h.kinds x lt ∙ e) ∙ h.others x lt e;
  }

  pub run_keeps : (k b : ℕ) (p : P) (n : Option ℕ) (vs : List Cell) → Above b p vs → Fine (iterated step k p n vs).end → KeepsTo b vs (iterated step k p n vs).cells
  run_keeps zero b p n vs a f = absurd f
  run_keeps (suc k) b p n vs a f =
      elim (step p n vs) as (λ y. KeepsNext Above b vs y → Fine (after k y).end → KeepsTo b vs (after k y).cells) [
        | On q m ws ↦ λ h g. keeps_trans b vs ws (iterated step k q m ws).cells h.1 (run_keeps k b q m ws h.0 g)
        | Ends o ↦ λ h g. h g
      ] (frames.keeps b p n vs a) f

  pub run_same : (k b : ℕ) (p : P) (n : Option ℕ) (vs ms : List Cell) → Above b p vs → Fine (iterated step k p n vs).end → Covers ms vs → SameTo b vs ms (iterated step k p n vs) (iterated step k p n ms)
  run_same zero b p n vs ms a f c = absurd f
  run_same (suc k) b p n vs ms a f c =
      elim (step p n vs) as (λ y. KeepsNext Above b vs y → SameNext Above b vs ms y (step p n ms) → Fine (after k y).end → SameTo b vs ms (after k y) (iterated step (suc k) p n ms)) [
        | On q m ws ↦ λ h s g.
            let r = run_same k b q m ws s.0 h.0 g s.2 in
            subst (λ z. SameTo b vs ms (iterated step k q m ws) (after k z)) (sym s.1)
            (record { path = r.path; end = r.end; covers = r.covers; others = λ x lt e. r.others x lt (h.1.kinds x lt ∙ e) ∙ s.3 x lt e })
        | Ends o ↦ λ h s g. let r = s g in subst (λ z. SameTo b vs ms o (after k z)) (sym r.1) r.2
      ] (frames.keeps b p n vs a) (frames.same b p n vs ms a c) f

  pub run_begins : (k : ℕ) (p : P) (m : ℕ) (vs : List Cell) → Fine (iterated step k p None vs).end → Fine (iterated step k p (Some m) vs).end
  run_begins zero p m vs f = absurd f
  run_begins (suc k) p m vs f =
      elim (step p None vs) as (λ y. BeginsNext Above y (step p (Some m) vs) → Fine (after k y).end → Fine (iterated step (suc k) p (Some m) vs).end) [
        | On q n ws ↦ λ h g. elim h as (λ _. Fine (iterated step (suc k) p (Some m) vs).end) [
          | inl i ↦ subst (λ z. Fine (after k z).end) (sym i.1.1) (run_begins k q i.1.0 ws (subst (λ z. Fine (iterated step k q z ws).end) i.0 g))
          | inr i ↦ subst (λ z. Fine (after k z).end) (sym i.1) i.2
        ]
        | Ends o ↦ λ h g. let i = h g in subst (λ z. Fine (after k z).end) (sym i.1) i.2
      ] (frames.begins p m vs) f

  pub run_uncut : (k : ℕ) (p : P) (vs : List Cell) → (iterated step k p None vs).end ≢ Cut
  run_uncut zero p vs = λ e. stuck e where
    stuck : Stuck ≡ Cut → ⊥
    stuck e = cc
  run_uncut (suc k) p vs =
      elim (step p None vs) as (λ y. Uncut Above y → (after k y).end ≢ Cut) [
        | On q m ws ↦ λ h. subst (λ z. (iterated step k q z ws).end ≢ Cut) (sym h) (run_uncut k q ws)
        | Ends o ↦ λ h. h
      ] (frames.uncut p vs)

  -- a run of enough steps, from a path that begins
  pub frames_of : (fuel : P → ℕ) → ((p : P) (vs : List Cell) → Above (length vs) p vs) → Frames (λ p n vs. iterated step (fuel p) p n vs)
  frames_of fuel begin = record {
    keeps = λ p n vs f. let r = run_keeps (fuel p) (length vs) p n vs (begin p vs) f in record { long = r.long; kinds = r.kinds; others = r.others };
    same = λ p n vs ms f c. let r = run_same (fuel p) (length vs) p n vs ms (begin p vs) f c in record { path = r.path; end = r.end; covers = r.covers; others = r.others };
    begins = λ p m vs f. run_begins (fuel p) p m vs f;
    uncut = λ p vs. run_uncut (fuel p) p vs;
  }

-- ---- a run that touches no more than its view lets it, isn't stuck there
module _ {P : Type 0} (Above : ℕ → P → List Cell → Type 0) (step : Steps P) (touches : P → List Cell → List Touch) (follows : StepTouches Above step touches) where
  abbrev then : ℕ → Next P → Outcome P
  then k y = elim y [ On q m ds ↦ iterated step k q m ds | Ends o ↦ o ]

  abbrev touches_then : ℕ → Next P → List Touch
  touches_then k y = elim y [ On q m ds ↦ run_touches step touches k q m ds | Ends o ↦ [] ]

  there_mine : (c : Cell) → is_mine c ≡ true → is_gone c ≡ false
  there_mine Gone e = cc
  there_mine (Seen v) e = cc
  there_mine (Mine v) e = refl

  still_there : (c d : Cell) → is_mine d ≡ is_mine c → (is_mine c ≡ false → d ≡ c) → is_gone c ≡ false → is_gone d ≡ false
  still_there Gone d k o g = cc
  still_there (Seen v) d k o g = ap is_gone (o refl)
  still_there (Mine v) d k o g = there_mine d k

  allowed_still : (b : ℕ) (vs ws : List Cell) → KeepsTo b vs ws → (ts : List Touch) → AllAllowed b vs ts → AllAllowed b ws ts
  allowed_still b vs ws k [] a = tt
  allowed_still b vs ws k (Reads x ∷ ts) a = (λ lt. still_there (get_or vs x Gone) (get_or ws x Gone) (k.kinds x lt) (k.others x lt) (a.0 lt), allowed_still b vs ws k ts a.1)
  allowed_still b vs ws k (Writes x ∷ ts) a = (λ lt. k.kinds x lt ∙ a.0 lt, allowed_still b vs ws k ts a.1)

  both : (b : ℕ) (vs : List Cell) (ts us : List Touch) → AllAllowed b vs (ts ++ us) → AllAllowed b vs ts × AllAllowed b vs us
  both b vs [] us a = (tt, a)
  both b vs (t ∷ ts) us a = let r = both b vs ts us a.1 in ((a.0, r.0), r.1)

  pub run_follows : (k b : ℕ) (p : P) (n : Option ℕ) (vs ms : List Cell) → Above b p vs → Covers ms vs → OwnMine b vs → Fine (iterated step k p n ms).end → AllAllowed b vs (run_touches step touches k p n ms) → Fine (iterated step k p n vs).end
  run_follows zero b p n vs ms a c o f t = absurd f
  run_follows (suc k) b p n vs ms a c o f t =
      let ts = both b vs (touches p ms) (touches_then k (step p n ms)) t in
      elim (step p n ms) as (λ y. FollowsNext Above b vs y (step p n vs) → Fine (then k y).end → AllAllowed b vs (touches_then k y) → Fine (iterated step (suc k) p n vs).end) [
        | On q m ns ↦ λ h g u. subst (λ z. Fine (then k z).end) (sym h.1) (run_follows k b q m h.0 ns h.3 h.2 h.4 g (allowed_still b vs h.0 h.5 (run_touches step touches k q m ns) u))
        | Ends z ↦ λ h g u. let r = h g in subst (λ z. Fine (then k z).end) (sym r.1) r.2
      ] (follows b p n vs ms a c o ts.0) f ts.1

  pub touching_of : (fuel : P → ℕ) → ((b : ℕ) (p : P) (vs : List Cell) → b ≤ length vs → Above b p vs) → Touching (λ p n vs. iterated step (fuel p) p n vs) (λ p ms. run_touches step touches (fuel p) p None ms)
  touching_of fuel begin b p vs ms le c o f a = run_follows (fuel p) b p None vs ms (begin b p vs le) c o f a
