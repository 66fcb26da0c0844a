-- The slack of stretches of instructions, and what unwind entries guard.
use Rattle.std.proofs.Common.{◌≡◌, ℕ, ◌+◌, ◌<◌, ◌≤◌, Some, sym, ap, ◌∙◌, subst, ⊎_elim, arith}
use Rattle.std.proofs.lemmas.Bool.{cases_lt}
use Rattle.std.specs.Prelude.{◌↔◌, ◌⊎◌, slice_get}
use Rattle.stack_code.specs.declared.instr.Instr.{Instr}
use Rattle.stack_code.specs.declared.code.Code.{Code}
use Rattle.stack_code.specs.declared.code.Spot.{Spot}
use Rattle.stack_code.specs.declared.code.Unwind.{Unwind}
use Rattle.code_validity.specs.declared.slack.Slack.{Slack}
use Rattle.stack_code.proofs.Lists.{has_is}
use Rattle.stack_code.specs.Operands.{takes}
use Rattle.stack_code.specs.Valid.{Each, Guarded, GuardsIn, SpotFits}
use Rattle.code_validity.specs.Slack.{Admits, AllGuarded, AreFit, IsSlackOf}

module _ (c : Code) where
  pub fit_operands : (at : ℕ) (i : Instr) (s : Spot) → AreFit c → slice_get c.instrs at ≡ Some i → slice_get c.spots at ≡ Some s → takes c i ≤ s.stack
  fit_operands at i s h e f = (has_is c.spots at s (SpotFits c at i) f (h at i e)).operands

  pub slack_one : (at : ℕ) (i : Instr) (s : Spot) (x : Slack) → slice_get c.instrs at ≡ Some i → slice_get c.spots at ≡ Some s
      → ((k : ℕ) (u : Unwind) → Admits c k u x ↔ Guarded c k u i s) → IsSlackOf c at (at + 1) x
  slack_one at i s x e f h = record {
    admits = λ k u. (
      λ a. λ q j t l r g v.
          let same : at ≡ q = omega arith in
          let ij : Some i ≡ Some j = sym e ∙ ap (slice_get c.instrs) same ∙ g in
          let st : Some s ≡ Some t = sym f ∙ ap (slice_get c.spots) same ∙ v in
          let ij' : i ≡ j = cc in
          let st' : s ≡ t = cc in
          subst (λ y. Guarded c k u y t) ij' (subst (λ y. Guarded c k u i y) st' ((h k u).0 a)),
      λ all. (h k u).1 (all at i s (omega arith) (omega arith) e f),
    );
  }

  pub guards_more : (a n k : ℕ) (u : Unwind) → AllGuarded c a n k u → AllGuarded c n (n + 1) k u → AllGuarded c a (n + 1) k u
  guards_more a n k u h g = λ q i s l r e f. ⊎_elim (λ (lt : q < n). h q i s l lt e f) (λ (le : n ≤ q). g q i s le r e f) (cases_lt q n)

  pub guards_part : (a n b d k : ℕ) (u : Unwind) → AllGuarded c a n k u → a ≤ b → d ≤ n → AllGuarded c b d k u
  guards_part a n b d k u h l r = λ q i s lb rd e f. h q i s (omega arith) (omega arith) e f

  pub slack_more : (a n : ℕ) (x y z : Slack) → a ≤ n → IsSlackOf c a n x → IsSlackOf c n (n + 1) y
      → ((k : ℕ) (u : Unwind) → Admits c k u z ↔ (Admits c k u x × Admits c k u y)) → IsSlackOf c a (n + 1) z
  slack_more a n x y z l f g h = record {
    admits = λ k u. (
      λ m. let p = (h k u).0 m in guards_more a n k u ((f.admits k u).0 p.0) ((g.admits k u).0 p.1),
      λ all. (h k u).1 (
        (f.admits k u).1 (guards_part a (n + 1) a n k u all (omega arith) (omega arith)),
        (g.admits k u).1 (guards_part a (n + 1) n (n + 1) k u all l (omega arith)),
      ),
    );
  }

  pub guards_whole : (a n k : ℕ) (u : Unwind) → u.from ≤ a → n ≤ u.to → AllGuarded c a n k u ↔ GuardsIn c a n k u
  guards_whole a n k u l r = (λ h. λ q i s lq rq e f w. h q i s lq rq e f, λ h. λ q i s lq rq e f. h q i s lq rq e f (omega arith, omega arith))

  -- what the entry holds of a stretch is a stretch
  pub guards_held : (a n b d k : ℕ) (u : Unwind) → a ≤ b → u.from ≤ b → ((b ≤ a) ⊎ (b ≤ u.from)) → d ≤ n → d ≤ u.to → ((n ≤ d) ⊎ (u.to ≤ d)) → AllGuarded c b d k u ↔ GuardsIn c a n k u
  guards_held a n b d k u l r e l' r' e' = (
    λ h. λ q i s lq rq f g w. h q i s (⊎_elim (λ (m : b ≤ a). omega arith) (λ (m : b ≤ u.from). omega (arith, w.0)) e) (⊎_elim (λ (m : n ≤ d). omega arith) (λ (m : u.to ≤ d). omega (arith, w.1)) e') f g,
    λ h. λ q i s lq rq f g. h q i s (omega arith) (omega arith) f g (omega arith, omega arith),
  )

  pub each_guards_more : (n d : ℕ) → Each c.unwind (GuardsIn c 0 n) → Each c.unwind (GuardsIn c n d) → Each c.unwind (GuardsIn c 0 d)
  each_guards_more n d h g = λ k u x. λ q i s l r e f w. ⊎_elim (λ (lt : q < n). h k u x q i s l lt e f w) (λ (le : n ≤ q). g k u x q i s le r e f w) (cases_lt q n)

  pub each_guards_part : (n b d : ℕ) → d ≤ n → Each c.unwind (GuardsIn c 0 n) → Each c.unwind (GuardsIn c b d)
  each_guards_part n b d m h = λ k u x. λ q i s l r e f w. h k u x q i s (omega arith) (omega arith) e f w
