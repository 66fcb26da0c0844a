-- Code whose jumps lead forward, to a turn, or back to landmarks whose jumps lead forward: as it is put together, whatever
-- its place; and the code of a program that is put together so is forward.
use Rattle.std.proofs.Common.{◌≡◌, ℕ, zero, suc, ◌+◌, ◌<◌, ◌≤◌, List, [], ◌∷◌, ◌++◌, length, slice_get, Some, Bool, true, false, cond, refl, sym, subst, arith, length-append, ◌⊎◌, inl, inr, ⊎_elim}
use Rattle.std.proofs.lemmas.Option.{none-some}
use Rattle.ada_meaning.proofs.Cells.{some_same}
use Rattle.stack_code.specs.declared.instr.Instr.{Instr}
use Rattle.stack_code.specs.declared.instr.Instr.TheVariants.{Jump, Turn}
use Rattle.stack_code.specs.Operands.{flow_of}
use Rattle.stack_code.specs.Stands.{IsTarget}
use Rattle.lower_emission.specs.declared.types.Mark.{Mark}
use Rattle.lower_emission.specs.declared.types.Placed.{Placed}
use Rattle.lower_emission.specs.Emits.{Emit, Nothing, One, Seq, Choose, When, Looped, Guarded, Aside, From, listed, placed}
use Rattle.lower_emission.specs.Tables.{begins}

-- ---- code as it is put together

-- what holds an instruction is a landmark
abbrev pub Marked : (ℕ → Type 0) → Mark → Type 0
Marked landmarks m = (e : ℕ) → m.entry ≡ Some e → landmarks e

-- a part that begins with a turn
abbrev pub BeginsTurn : (ℕ → Emit) → Type 0
BeginsTurn body = (x q : ℕ) → (p : Placed) × (more : List Placed) × (listed (body x) q ≡ p ∷ more) × (p.instr ≡ Turn)

abbrev pub Also : (ℕ → Type 0) → ℕ → ℕ → Type 0
Also holds x y = holds y ⊎ (y ≡ x)

-- Each instruction that isn't a part's own jump goes on, or to a turn, or jumps to a landmark. Landmarks are those that are
-- known around: of a loop, its exit, and of a part with handlers, where they are.
abbrev pub Fore : (landmarks turns : ℕ → Type 0) → Emit → Type 0
Fore l t Nothing = Unit {0}
Fore l t (One m h i) = ((n : ℕ) → IsTarget (flow_of i) n → t n ⊎ (l n × (i ≡ Jump n))) × Marked l m
Fore l t (Seq a b) = Fore l t a × Fore l t b
Fore l t (Choose m h k a b) = Marked l m × (Fore l t a × Fore l t b)
Fore l t (When m h a) = Marked l m × Fore l t a
Fore l t (Looped m h at_body body test) = Marked l m × (BeginsTurn body × (((x : ℕ) → Fore (λ y. Also l x y) t (body x)) × ((x : ℕ) → Fore l (λ y. Also t x y) (test x))))
Fore l t (Guarded m handlers body) = Marked l m × (Fore l t handlers × ((x : ℕ) → Fore (λ y. Also l x y) t (body x)))
Fore l t (Aside m h a) = Marked l m × Fore l t a
Fore l t (From a) = (x : ℕ) → Fore l t (a x)

-- ---- where it stands in a list

module _ (ps : List Placed) where
  abbrev pub IsTurn : ℕ → Type 0
  IsTurn t = (p : Placed) × (slice_get ps t ≡ Some p) × (p.instr ≡ Turn)

  -- a jump before a place that leads to another one or behind it
  abbrev pub IsLandmark : (before to : ℕ) → ℕ → Type 0
  IsLandmark before to t = (t < before) × (p : Placed) × (u : ℕ) × (slice_get ps t ≡ Some p) × (p.instr ≡ Jump u) × (to ≤ u)

  abbrev pub Leap : ℕ → Instr → ℕ → Type 0
  Leap at i t = (at < t) ⊎ (IsTurn t ⊎ ((i ≡ Jump t) × IsLandmark at (at + 1) t))

  abbrev pub Right : ℕ → Placed → Type 0
  Right at p = ((t : ℕ) → IsTarget (flow_of p.instr) t → Leap at p.instr t) × ((e : ℕ) → p.entry ≡ Some e → IsLandmark at (at + 1) e)

  abbrev pub AllRight : ℕ → List Placed → Type 0
  AllRight q [] = Unit {0}
  AllRight q (p ∷ qs) = Right q p × AllRight (q + 1) qs

  abbrev pub Here : ℕ → List Placed → Type 0
  Here q [] = Unit {0}
  Here q (p ∷ qs) = (slice_get ps q ≡ Some p) × Here (q + 1) qs

  here_split : (q : ℕ) (xs ys : List Placed) → Here q (xs ++ ys) → Here q xs × Here (q + length xs) ys
  here_split q [] ys s = let z : q ≡ q + 0 = omega arith in (tt, subst (λ n. Here n ys) z s)
  here_split q (x ∷ xs) ys (s, ss) =
      let (a, b) = here_split (q + 1) xs ys ss in
      let z : q + 1 + length xs ≡ q + suc (length xs) = omega arith in
      ((s, a), subst (λ n. Here n ys) z b)

  right_join : (q : ℕ) (xs ys : List Placed) → AllRight q xs → AllRight (q + length xs) ys → AllRight q (xs ++ ys)
  right_join q [] ys a b = let z : q + 0 ≡ q = omega arith in subst (λ n. AllRight n ys) z b
  right_join q (x ∷ xs) ys (a, as') b = let z : q + suc (length xs) ≡ q + 1 + length xs = omega arith in (a, right_join (q + 1) xs ys as' (subst (λ n. AllRight n ys) z b))

  lower : {before before' to to' t : ℕ} → before ≤ before' → to' ≤ to → IsLandmark before to t → IsLandmark before' to' t
  lower le le' (lt, p, u, is, jump, far) = (omega (arith, lt, le), p, u, is, jump, omega (arith, far, le'))

  enters : (q n : ℕ) (b : Bool) → q < cond b (q + 1 + 1) (q + 1 + 1 + n)
  enters q n true = omega arith
  enters q n false = omega arith

  pub all_right : (l t : ℕ → Type 0) (a : Emit) (q : ℕ) → Fore l t a → Here q (listed a q) → ((n : ℕ) → l n → IsLandmark q (q + length (listed a q)) n) → ((n : ℕ) → t n → IsTurn n) → AllRight q (listed a q)
  all_right l t Nothing q f s lm tn = tt
  all_right l t (One m h i) q (f, e) s lm tn =
      (((λ n z. ⊎_elim (λ turn. inr (inl (tn n turn))) (λ r. inr (inr (r.1, lm n r.0))) (f n z)), (λ n is. lm n (e n is))), tt)
  all_right l t (Seq a b) q (fa, fb) s lm tn =
      let xs : List Placed = listed a q in
      let ys : List Placed = listed b (q + length xs) in
      let (sx, sy) = here_split q xs ys s in
      let len : length (xs ++ ys) ≡ length xs + length ys = length-append xs ys in
      right_join q xs ys
      (all_right l t a q fa sx (λ n is. lower (omega arith) (omega (arith, len)) (lm n is)) tn)
      (all_right l t b (q + length xs) fb sy (λ n is. lower (omega arith) (omega (arith, len)) (lm n is)) tn)
  all_right l t (Choose m h k a b) q (e, (fa, fb)) (sj, s) lm tn =
      let xs : List Placed = listed a (q + 1) in
      let at : ℕ = q + 1 + length xs in
      let ys : List Placed = listed b (at + 1) in
      let jump : Placed = placed m k (Jump (at + 1 + length ys)) in
      let (sx, (sk, sy)) = here_split (q + 1) xs (jump ∷ ys) s in
      let len : length (xs ++ (jump ∷ ys)) ≡ length xs + suc (length ys) = length-append xs (jump ∷ ys) in (
        ((λ n z. inl (omega (arith, z))), (λ n is. lower (omega arith) (omega arith) (lm n (e n is)))),
        right_join (q + 1) xs (jump ∷ ys)
            (all_right l t a (q + 1) fa sx (λ n is. lower (omega arith) (omega (arith, len)) (lm n is)) tn) (
              ((λ n z. inl (omega (arith, z))), (λ n is. lower (omega arith) (omega (arith, len)) (lm n (e n is)))),
              all_right l t b (at + 1) fb sy (λ n is. lower (omega arith) (omega (arith, len)) (lm n is)) tn,
            ),
      )
  all_right l t (When m h a) q (e, fa) (sj, s) lm tn = (
    ((λ n z. inl (omega (arith, z))), (λ n is. lower (omega arith) (omega arith) (lm n (e n is)))),
    all_right l t a (q + 1) fa s (λ n is. lower (omega arith) (omega arith) (lm n is)) tn,
  )
  all_right l t (Aside m h a) q (e, fa) (sj, s) lm tn = (
    ((λ n z. inl (omega (arith, z))), (λ n is. lower (omega arith) (omega arith) (lm n (e n is)))),
    all_right l t a (q + 1) fa s (λ n is. lower (omega arith) (omega arith) (lm n is)) tn,
  )
  all_right l t (From a) q f s lm tn = all_right l t (a q) q (f q) s lm tn
  all_right l t (Looped m h at_body body test) q (e, (begins, (fb, ft))) (s1, (s2, s)) lm tn =
      let bs : List Placed = listed (body (q + 1)) (q + 1 + 1) in
      let at : ℕ = q + 1 + 1 + length bs in
      let ts : List Placed = listed (test (q + 1 + 1)) at in
      let (sb, st) = here_split (q + 1 + 1) bs ts s in
      let len : length (bs ++ ts) ≡ length bs + length ts = length-append bs ts in
      let (p, more, is, turn) = begins (q + 1) (q + 1 + 1) in
      let first : slice_get ps (q + 1 + 1) ≡ Some p = (subst (λ zs. Here (q + 1 + 1) zs) is sb).0 in (
        ((λ n z. inl (let w : q < cond at_body (q + 1 + 1) at = enters q (length bs) at_body in omega (arith, z, w))), (λ n is. lower (omega arith) (omega arith) (lm n (e n is)))),
        (
          ((λ n z. inl (omega (arith, z))), (λ n is. lower (omega arith) (omega arith) (lm n (e n is)))),
          right_join (q + 1 + 1) bs ts
              (all_right (λ y. Also l (q + 1) y) t (body (q + 1)) (q + 1 + 1) (fb (q + 1)) sb
              (λ n z. ⊎_elim (λ known. lower (omega arith) (omega (arith, len)) (lm n known))
              (λ same. (omega (arith, same), placed m h (Jump (at + length ts)), at + length ts, subst (λ n. slice_get ps n ≡ Some (placed m h (Jump (at + length ts)))) (sym same) s2, refl, omega arith)) z) tn)
              (all_right l (λ y. Also t (q + 1 + 1) y) (test (q + 1 + 1)) at (ft (q + 1 + 1)) st (λ n is. lower (omega arith) (omega (arith, len)) (lm n is))
              (λ n z. ⊎_elim (λ known. tn n known) (λ same. (p, subst (λ n. slice_get ps n ≡ Some p) (sym same) first, turn)) z)),
        ),
      )
  all_right l t (Guarded m handlers body) q (e, (fh, fb)) (s1, (s2, s)) lm tn =
      let bs : List Placed = listed (body (q + 1)) (q + 1 + 1) in
      let at : ℕ = q + 1 + 1 + length bs in
      let hs : List Placed = listed handlers (at + 1) in
      let past : Placed = placed m 0 (Jump (at + 1 + length hs)) in
      let (sb, (sp, sh)) = here_split (q + 1 + 1) bs (past ∷ hs) s in
      let len : length (bs ++ (past ∷ hs)) ≡ length bs + suc (length hs) = length-append bs (past ∷ hs) in (
        ((λ n z. inl (omega (arith, z))), (λ n is. lower (omega arith) (omega arith) (lm n (e n is)))),
        (
          ((λ n z. inl (omega (arith, z))), (λ n is. lower (omega arith) (omega arith) (lm n (e n is)))),
          right_join (q + 1 + 1) bs (past ∷ hs)
              (all_right (λ y. Also l (q + 1) y) t (body (q + 1)) (q + 1 + 1) (fb (q + 1)) sb
              (λ n z. ⊎_elim (λ known. lower (omega arith) (omega (arith, len)) (lm n known))
              (λ same. (omega (arith, same), placed m 1 (Jump (at + 1)), at + 1, subst (λ n. slice_get ps n ≡ Some (placed m 1 (Jump (at + 1)))) (sym same) s2, refl, omega arith)) z) tn) (
                ((λ n z. inl (omega (arith, z))), (λ n is. lower (omega arith) (omega (arith, len)) (lm n (e n is)))),
                all_right l t handlers (at + 1) fh sh (λ n is. lower (omega arith) (omega (arith, len)) (lm n is)) tn,
              ),
        ),
      )

  pub here_from : (from : ℕ) (qs : List Placed) → ((k : ℕ) (p : Placed) → slice_get qs k ≡ Some p → slice_get ps (from + k) ≡ Some p) → Here from qs
  here_from from [] h = tt
  here_from from (q ∷ qs) h =
      let z : from + 0 ≡ from = omega arith in (
        subst (λ n. slice_get ps n ≡ Some q) z (h 0 q refl),
        here_from (from + 1) qs (λ k p e. let w : from + suc k ≡ from + 1 + k = omega arith in subst (λ n. slice_get ps n ≡ Some p) w (h (suc k) p e)),
      )

  pub right_at : (from : ℕ) (qs : List Placed) (k : ℕ) (p : Placed) → AllRight from qs → slice_get qs k ≡ Some p → Right (from + k) p
  right_at from [] k p r e = absurd (none-some p e)
  right_at from (q ∷ qs) zero p (r, rs) e = let z : from ≡ from + 0 = omega arith in subst (λ n. Right n p) z (subst (λ p. Right from p) (some_same q p e) r)
  right_at from (q ∷ qs) (suc k) p (r, rs) e = let z : from + 1 + k ≡ from + suc k = omega arith in subst (λ n. Right n p) z (right_at (from + 1) qs k p rs e)
