-- Cells of frames outward.
use Rattle.std.proofs.Common.{◌≡◌, ℕ, ◌+◌, ◌<◌, ◌≤◌, ℤ, pos, List, ◌∷◌, length, get_or, Option, Some, sym, ap, ◌∙◌, subst}
use Rattle.std.specs.Prelude.{◌^◌, slice_get, slice_index, EachIndex}
use Rattle.std.proofs.lemmas.Option.{slice_get-get_or}
use Rattle.ada_base.specs.Cells.{Cell}
use Rattle.stack_code.specs.Deeds.{cell_of_frame, load_from, load_of_frame, store_to, store_of_frame, GoesOn}
use Rattle.ada_machine.specs.declared.operands.Computed.{Computed}
use Rattle.ada_machine.specs.Played.{IsClear, Computes, Plays}

pub frame_there : (xs : List ℕ) (k n : ℕ) → k < length xs → n ≡ get_or xs k 0 → slice_get xs k ≡ Some n
frame_there xs k n l e = slice_get-get_or xs k 0 l ∙ ap Some (sym e)

pub frame_near : (xs : List ℕ) (k : ℕ) → EachIndex xs (λ k. slice_index xs k ≤ 2 ^ 62) → k < length xs → get_or xs k 0 ≤ 2 ^ 62
frame_near xs k h l = h k l

module _ (pc : ℕ) (st : List ℤ) (o : Option ℕ) (base n : ℕ) (e : o ≡ Some base) where
  pub push_by : (r : Computed) (new : List ℤ) → Computes (GoesOn (pc + 1) (pos (base + n) ∷ st)) r new → Computes (cell_of_frame pc st o n) r new
  push_by r new h = subst (λ w. Computes (cell_of_frame pc st w n) r new) (sym e) h

  pub load_by : (r : Computed) (new : List ℤ) (cells : List Cell) → Plays (load_from pc st (pos (base + n))) r new cells cells → Plays (load_of_frame pc st o n) r new cells cells
  load_by r new cells h = subst (λ w. Plays (load_of_frame pc st w n) r new cells cells) (sym e) h

  pub load_clear_by : (cells : List Cell) → IsClear (load_of_frame pc st o n) cells → IsClear (load_from pc st (pos (base + n))) cells
  load_clear_by cells h = subst (λ w. IsClear (load_of_frame pc st w n) cells) e h

  pub store_by : (r : Computed) (new : List ℤ) (cells cells' : List Cell) → Plays (store_to pc st (pos (base + n))) r new cells cells' → Plays (store_of_frame pc st o n) r new cells cells'
  store_by r new cells cells' h = subst (λ w. Plays (store_of_frame pc st w n) r new cells cells') (sym e) h

  pub store_clear_by : (cells : List Cell) → IsClear (store_of_frame pc st o n) cells → IsClear (store_to pc st (pos (base + n))) cells
  store_clear_by cells h = subst (λ w. IsClear (store_of_frame pc st w n) cells) e h
