-- The cells of calls, taken off at once.
use Rattle.std.proofs.Common.{◌≡◌, ℕ, zero, suc, ◌≤◌, List, [], ◌∷◌, ◌++◌, map, reverse, length, take, slice_get, Option, Some, None, arith, refl, sym, ◌∙◌, ap, subst, length-take-le}
use Rattle.std.proofs.lemmas.Grind.{reverse_onto}
use Rattle.std.proofs.lemmas.List.{map-append}
use Rattle.ada_base.specs.Cells.{Cell}
use Rattle.stack_code.specs.Machine.{Frame}
use Rattle.stack_code.specs.Tops.{AreTops}
use Rattle.ada_lower.specs.Driven.{Dyn, clip}
use Rattle.ada_machine.specs.States.{frame_of, frames_of}
use Rattle.ada_machine.specs.declared.machine.Waiting.{Waiting}
use Rattle.ada_threads.specs.Going.{clipped}

-- as the machine's path takes them off
pub clip_is : (ws : List Frame) (d : Dyn) → clip ws d ≡ record d { cells = clipped ws d.cells }
clip_is [] d = refl
clip_is (w ∷ ws) d = clip_is ws (record d { cells = take w.top d.cells })

take_twice : (n m : ℕ) (cs : List Cell) → n ≤ m → take n (take m cs) ≡ take n cs
take_twice zero m cs le = refl
take_twice (suc n) zero cs le = absurd (omega (arith, le))
take_twice (suc n) (suc m) [] le = refl
take_twice (suc n) (suc m) (x ∷ cs) le = ap (λ l. x ∷ l) (take_twice n m cs (omega (arith, le)))

low_top : (low : ℕ) (fs : List Frame) (f : Frame) (high : ℕ) → AreTops low (fs ++ f ∷ []) high → (low ≤ f.top) × (f.top ≤ high)
low_top low [] f high t = (t.1, t.0)
low_top low (g ∷ fs) f high t = let r = low_top low fs f g.top t.1 in (r.0, omega (arith, r.1, t.0))

clipped_at : (low : ℕ) (fs : List Frame) (f : Frame) (cs : List Cell) → AreTops low (fs ++ f ∷ []) (length cs) → clipped (fs ++ f ∷ []) cs ≡ take f.top cs
clipped_at low [] f cs t = refl
clipped_at low (g ∷ fs) f cs t =
    let long : length (take g.top cs) ≡ g.top = length-take-le g.top cs t.0 in
    clipped_at low fs f (take g.top cs) (subst (AreTops low (fs ++ f ∷ [])) (sym long) t.1) ∙ take_twice f.top g.top cs (low_top low fs f g.top t.1).1

frames_last : (w : Waiting) (ws : List Waiting) → frames_of (w ∷ ws) ≡ frames_of ws ++ frame_of w ∷ []
frames_last w ws = ap (map frame_of) (reverse_onto ws w []) ∙ map-append frame_of (reverse ws) (w ∷ [])

module _ (low : ℕ) (w : Waiting) (ws all : List Waiting) (cs : List Cell) (e : all ≡ w ∷ ws) (t : AreTops low (frames_of all) (length cs)) where
  tops : AreTops low (frames_of ws ++ frame_of w ∷ []) (length cs)
  tops = subst (λ fs. AreTops low fs (length cs)) (ap frames_of e ∙ frames_last w ws) t

  pub lowest_there : (low ≤ w.top) × (w.top ≤ length cs)
  lowest_there = low_top low (frames_of ws) (frame_of w) (length cs) tops

  pub lowest_clips : take w.top cs ≡ clipped (frames_of all) cs
  lowest_clips = sym (ap (λ fs. clipped fs cs) (ap frames_of e ∙ frames_last w ws) ∙ clipped_at low (frames_of ws) (frame_of w) cs tops)

some_is : (v w : Waiting) → ◌≡◌ {A = Option Waiting} (Some v) (Some w) → v ≡ w
some_is v w e = cc

some_none : (w : Waiting) → ◌≡◌ {A = Option Waiting} (Some w) None → ⊥
some_none w e = cc

pub head_is : (all : List Waiting) (w : Waiting) → Some w ≡ slice_get all 0 → (ws : List Waiting) × (all ≡ w ∷ ws)
head_is [] w e = absurd (some_none w e)
head_is (v ∷ ws) w e = (ws, ap (λ u. u ∷ ws) (sym (some_is w v e)))
