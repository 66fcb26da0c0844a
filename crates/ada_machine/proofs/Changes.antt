-- What is done to a machine, as what is done to its state.
use Rattle.std.proofs.Common.{◌≡◌, ℕ, ◌+◌, ◌-◌, ◌≤◌, ℤ, pos, List, [], ◌∷◌, ◌++◌, length, reverse, take, drop, Some, None, refl, sym, ap, ◌∙◌, arith}
use Rattle.std.proofs.Math.Seq.{drop-append_seam}
use Rattle.std.proofs.lemmas.Grind.{reverse_onto}
use Rattle.std.proofs.lemmas.List.{reverse-append, reverse-reverse, length-reverse, length-drop, take-append-drop}
use Rattle.std.specs.Prelude.{◌<◌, slice_get, slice_set}
use Rattle.ada_base.specs.declared.reason.Reason.{Reason}
use Rattle.stack_code.specs.declared.code.Unwind.{Unwind}
use Rattle.ada_base.specs.Cells.{Cell}
use Rattle.stack_code.specs.Listing.{reason_number}
use Rattle.stack_code.specs.Machine.{Frame, State, cut, failed, handled, ended}

-- the last item of a vector is its stack's top
at_end : (zs : List ℤ) (y : ℤ) → slice_get (zs ++ y ∷ []) (length zs) ≡ Some y
at_end [] y = refl
at_end (z ∷ zs) y = at_end zs y

end_first : (ys : List ℤ) → slice_get (reverse ys) (length (reverse ys) - 1) ≡ slice_get ys 0
end_first [] = refl
end_first (y ∷ ys) =
    let whole : reverse (y ∷ ys) ≡ reverse ys ++ y ∷ [] = reverse_onto ys y [] in
    let many : length (reverse (y ∷ ys)) - 1 ≡ length (reverse ys) = omega (arith, length-reverse (y ∷ ys), length-reverse ys) in
    ap (λ n. slice_get (reverse (y ∷ ys)) n) many ∙ ap (λ l. slice_get l (length (reverse ys))) whole ∙ at_end (reverse ys) y

pub top_of : (xs : List ℤ) (v : ℤ) → slice_get xs (length xs - 1) ≡ Some v → slice_get (reverse xs) 0 ≡ Some v
top_of xs v e =
    let back : reverse (reverse xs) ≡ xs = reverse-reverse xs in
    sym (end_first (reverse xs)) ∙ ap (λ l. slice_get l (length l - 1)) back ∙ e

-- another in its place
set_at_end : (zs : List ℤ) (y v : ℤ) → slice_set (zs ++ y ∷ []) (length zs) v ≡ zs ++ v ∷ []
set_at_end [] y v = refl
set_at_end (z ∷ zs) y v = ap (λ l. z ∷ l) (set_at_end zs y v)

over_first : (ys : List ℤ) (v : ℤ) → 0 < length ys → slice_set (reverse ys) (length (reverse ys) - 1) v ≡ reverse (v ∷ drop 1 ys)
over_first [] v l = absurd (omega (arith, l))
over_first (y ∷ ys) v l =
    let whole : reverse (y ∷ ys) ≡ reverse ys ++ y ∷ [] = reverse_onto ys y [] in
    let again : reverse (v ∷ ys) ≡ reverse ys ++ v ∷ [] = reverse_onto ys v [] in
    let many : length (reverse (y ∷ ys)) - 1 ≡ length (reverse ys) = omega (arith, length-reverse (y ∷ ys), length-reverse ys) in
    ap (λ n. slice_set (reverse (y ∷ ys)) n v) many ∙ ap (λ l. slice_set l (length (reverse ys)) v) whole ∙ set_at_end (reverse ys) y v ∙ sym again

pub over_top : (xs : List ℤ) (n : ℕ) (v : ℤ) → 0 < length xs → n ≡ length xs - 1 → reverse (slice_set xs n v) ≡ v ∷ drop 1 (reverse xs)
over_top xs n v l e =
    let back : xs ≡ reverse (reverse xs) = sym (reverse-reverse xs) in
    let long : 0 < length (reverse xs) = omega (arith, l, length-reverse xs) in
    ap (λ k. reverse (slice_set xs k v)) e ∙ ap (λ l. reverse (slice_set l (length l - 1) v)) back ∙ ap reverse (over_first (reverse xs) v long) ∙ reverse-reverse (v ∷ drop 1 (reverse xs))

pub cut_take : (xs ys : List ℤ) (n : ℕ) → ys ≡ take n xs → n ≤ length xs → reverse ys ≡ cut n (reverse xs)
cut_take xs ys n e l =
    let front : reverse (take n xs ++ drop n xs) ≡ reverse (drop n xs) ++ reverse (take n xs) = reverse-append (take n xs) (drop n xs) in
    let whole : reverse xs ≡ reverse (drop n xs) ++ reverse (take n xs) = ap reverse (sym (take-append-drop n xs)) ∙ front in
    let count : length (reverse xs) - n ≡ length (reverse (drop n xs)) = omega (arith, length-reverse xs, length-reverse (drop n xs), length-drop n xs, l) in
    ap reverse e ∙ sym (drop-append_seam (reverse (drop n xs)) (reverse (take n xs))) ∙ ap (λ k. drop k (reverse (drop n xs) ++ reverse (take n xs))) (sym count) ∙ ap (λ st. drop (length (reverse xs) - n) st) (sym whole)

pub failed_by : (s : State) (r : Reason) (st st' : List ℤ) → st' ≡ st → record s { stack = st'; raising = Some r } ≡ failed r st s
failed_by s r st st' e = ap (λ st. failed r st s) e

pub handled_by : (s : State) (u : Unwind) (r : Reason) (st mid : List ℤ) → st ≡ pos (reason_number r) ∷ mid → mid ≡ cut (s.floor + u.depth) s.stack
    → record s { pc = u.handler; stack = st; nest = u.nest; kept = []; rounds = []; nested = s.nested - (s.nest - u.nest); raising = None } ≡ handled u r s
handled_by s u r st mid e f = ap (λ st. record s { pc = u.handler; stack = st; nest = u.nest; kept = []; rounds = []; nested = s.nested - (s.nest - u.nest); raising = None }) (e ∙ ap (λ st. pos (reason_number r) ∷ st) f)

pub ended_by : (s : State) (f : Frame) (fs : List Frame) (to : ℕ) (st : List ℤ) (cells : List Cell) → st ≡ cut s.floor s.stack → cells ≡ take f.top s.cells
    → record s { pc = to; stack = st; floor = f.floor; nest = f.nest; kept = f.kept; rounds = f.rounds; base = f.base; waiting = fs; calls = s.calls - 1; nested = s.nested - s.nest; cells = cells } ≡ ended f fs to (cut s.floor s.stack) s
ended_by s f fs to st cells e g = ap (λ st. record s { pc = to; stack = st; floor = f.floor; nest = f.nest; kept = f.kept; rounds = f.rounds; base = f.base; waiting = fs; calls = s.calls - 1; nested = s.nested - s.nest; cells = cells }) e
    ∙ ap (λ cells. record s { pc = to; stack = cut s.floor s.stack; floor = f.floor; nest = f.nest; kept = f.kept; rounds = f.rounds; base = f.base; waiting = fs; calls = s.calls - 1; nested = s.nested - s.nest; cells = cells }) g
