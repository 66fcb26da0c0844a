-- A run on the memory that touches no more than the view lets it, isn't stuck on the view.
use Rattle.std.proofs.Common.{◌≡◌, ℕ, zero, suc, ◌+◌, ◌-◌, ◌<◌, inl, inr, ℤ, pos, negsuc, nat_eq, Bool, true, false, cond, List, [], ◌∷◌, ◌++◌, length, set, take, Option, Some, None, arith, refl, sym, ◌∙◌, ap, subst, length-append, length-set}
use Rattle.std.specs.Prelude.{slice_get, nat_lt}
use Rattle.std.proofs.lemmas.List.{get_or-set_same, get_or-set_other, get_or_append_left, get_or-append_right, get_or-take, length-replicate}
use Rattle.std.proofs.lemmas.Bool.{cases_lt, cases_eq}
use Rattle.ada_base.specs.declared.reason.Reason.{Reason}
use Rattle.ada_base.specs.declared.reason.Reason.TheVariants.{ConstraintError, StorageError}
use Rattle.stack_code.specs.declared.instr.Instr.{Instr}
use Rattle.stack_code.specs.declared.path.Round.{Round}
use Rattle.stack_code.specs.declared.code.Code.{Code}
use Rattle.stack_code.specs.declared.code.CodeSub.{CodeSub}
use Rattle.stack_code.specs.declared.code.Unwind.{Unwind}
use Rattle.ada_base.specs.Cells.{Cell, Gone, Seen, Mine, value_in, seen, written, zeros}
use Rattle.stack_code.specs.Deeds.{Deed, Lacks, GoesOn, Fails, Loads, Stores, Points, Turns, Calls, CallsAt, Combines, Draws, Repeats, Rounds, Ends, Leaves, Forks, Nests, Unnests, Writes, Sends, Gets, Gives, deed_of}
use Rattle.stack_code.specs.Machine.{Frame, State, Spent, Went, Goes, Stops, look_by, look, with_value, with_cells, points, if_pointing, cut, on, moved_to, failed, entered, entered_at, entry_of, handled, unwound, raised, turned, entering, calling, entering_at, calling_at, combining, drawing, another, rounding, ending, nesting, done, acted, stepped, step, going, run}
use Rattle.cell_memory.specs.Sight.{is_mine}
use Rattle.machine_paths.specs.Alike.{at, Kept, with_memory, Chain, Alike}
use Rattle.cell_memory.specs.Sight.{is_gone}
use Rattle.machine_paths.specs.Touched.{Touch, Reads, Sets, Allowed, AllAllowed, touches_of, instr_touches, raise_touches, step_touches, run_touches, Own, GoesWell, OwnAfter}
use Rattle.machine_paths.proofs.Frames.{there, get_at, points_same, read_same, wrote, writes, take_long, kept_write, steps_alike}

-- well, and with own cells to write
abbrev pub Well : ℕ → Went → Type 0
Well b w = GoesWell w × OwnAfter b w

pub zeros_mine : (n i : ℕ) → i < n → is_mine (at (zeros n) i) ≡ true
zeros_mine zero i lt = absurd (omega (arith, lt))
zeros_mine (suc n) zero lt = refl
zeros_mine (suc n) (suc i) lt = zeros_mine n i (omega (arith, lt))

module _ (b : ℕ) where
  pub own_more : (cs us : List Cell) → ((i : ℕ) → i < length us → is_mine (at us i) ≡ true) → Own b cs → Own b (cs ++ us)
  own_more cs us u o x le lt = elim (cases_lt x (length cs)) as (λ _. is_mine (at (cs ++ us) x) ≡ true) [
    | inl h ↦ ap is_mine (get_or_append_left cs us Gone x h) ∙ o x le h
    | inr h ↦ ap is_mine (get_or-append_right cs us (length cs) x Gone refl h) ∙ u (x - length cs) (omega (arith, length-append cs us))
  ]

  own_push : (cs : List Cell) (n : ℕ) → Own b cs → Own b (cs ++ zeros n)
  own_push cs n o x le lt = elim (cases_lt x (length cs)) as (λ _. is_mine (at (cs ++ zeros n) x) ≡ true) [
    | inl h ↦ ap is_mine (get_or_append_left cs (zeros n) Gone x h) ∙ o x le h
    | inr h ↦ ap is_mine (get_or-append_right cs (zeros n) (length cs) x Gone refl h) ∙ zeros_mine n (x - length cs) (omega (arith, length-append cs (zeros n), length-replicate n (Mine (pos 0))))
  ]

  pub own_take : (cs : List Cell) (n : ℕ) → Own b cs → Own b (take n cs)
  own_take cs n o x le lt = elim (cases_lt n (length cs)) as (λ _. is_mine (at (take n cs) x) ≡ true) [
    | inl h ↦ let e = (take_long b [] [] n cs).0 (omega arith) in ap is_mine (get_or-take n cs x Gone (omega arith)) ∙ o x le (omega arith)
    | inr h ↦ let e = (take_long b [] [] n cs).1 h in ap is_mine (get_or-take n cs x Gone (omega arith)) ∙ o x le (omega arith)
  ]

  own_set : (cs : List Cell) (n : ℕ) (v : ℤ) → n < length cs → Own b cs → Own b (set cs n (Mine v))
  own_set cs n v lt o x le h = elim (cases_eq x n) as (λ _. is_mine (at (set cs n (Mine v)) x) ≡ true) [
    | inl e ↦ ap (λ z. is_mine (at (set cs n (Mine v)) z)) e ∙ ap is_mine (get_or-set_same cs n (Mine v) Gone lt)
    | inr ne ↦ ap is_mine (get_or-set_other cs n x (Mine v) Gone ne) ∙ o x le (omega (arith, length-set cs n (Mine v)))
  ]

  module _ (s : State) (o : Own b s.cells) where
    looks : (f : State → Went) → ((l : Option ℕ) → Well b (f (record s { left = l }))) → Well b (look s f)
    looks f h = by_left s.left where
      by_left : (l : Option ℕ) → Well b (look_by l s f)
      by_left None = h s.left
      by_left (Some zero) = (tt, o)
      by_left (Some (suc n)) = h (Some n)

    turns : (limit : ℕ) (f : State → Went) → ((l : Option ℕ) (n : ℕ) → Well b (f (record s { left = l; turns = n }))) → Well b (turned limit s f)
    turns limit f h = looks (λ t. cond (nat_lt t.turns limit) (f (record t { turns = t.turns + 1 })) (Stops Spent t)) (λ l.
        elim (nat_lt s.turns limit) as (λ y. Well b (cond y (f (record s { left = l; turns = s.turns + 1 })) (Stops Spent (record s { left = l })))) [ true ↦ h l (s.turns + 1) | false ↦ (tt, o) ])

    enters : (limit : ℕ) (f : CodeSub) (to : ℕ) (kept : List ℤ) (l : Option ℕ) (n : ℕ) → Well b (entering limit f to kept (record s { left = l; turns = n }))
    enters limit f to kept l n =
        elim (nat_lt s.calls 1000) as (λ y. Well b (cond y (Goes (entered f to kept (record s { left = l; turns = n }))) (Goes (failed StorageError (cut (length s.stack - f.takes) s.stack) (record s { left = l; turns = n }))))) [
          | true ↦ (tt, own_push s.cells f.frame o)
          | false ↦ (tt, o)
        ]

    calls : (limit : ℕ) (f : CodeSub) (to : ℕ) (kept : List ℤ) → Well b (calling limit f to kept s)
    calls limit f to kept = turns limit (λ x. entering limit f to kept x) (λ l n. enters limit f to kept l n)

    fits_at : (limit : ℕ) (f : CodeSub) (cell to : ℕ) (fit : Bool) (l : Option ℕ) (n : ℕ) → Well b (cond fit (Goes (entered_at f cell to (record s { left = l; turns = n }))) (Goes (failed ConstraintError s.stack (record s { left = l; turns = n }))))
    fits_at limit f cell to true l n = (tt, own_push s.cells (s.base + cell + f.frame - length s.cells) o)
    fits_at limit f cell to false l n = (tt, o)

    enters_at : (limit : ℕ) (f : CodeSub) (cell to : ℕ) (fit : Bool) (l : Option ℕ) (n : ℕ) → Well b (entering_at limit f cell to fit (record s { left = l; turns = n }))
    enters_at limit f cell to fit l n =
        elim (nat_lt s.calls 1000) as (λ y. Well b (cond y (cond fit (Goes (entered_at f cell to (record s { left = l; turns = n }))) (Goes (failed ConstraintError s.stack (record s { left = l; turns = n })))) (Goes (failed StorageError s.stack (record s { left = l; turns = n }))))) [
          | true ↦ fits_at limit f cell to fit l n
          | false ↦ (tt, o)
        ]

    nests : (limit : ℕ) → Well b (look s (nesting limit))
    nests limit = looks (nesting limit) (λ l.
        elim (nat_lt s.nested 16) as (λ y. Well b (cond y (Goes (on s.stack (record s { left = l; nest = s.nest + 1; nested = s.nested + 1 }))) (Goes (failed StorageError s.stack (record s { left = l }))))) [ true ↦ (tt, o) | false ↦ (tt, o) ])

    raises : (r : Reason) (u : Option Unwind) → Well b (raised r u s)
    raises r (Some u) = looks (λ t. Goes (handled u r t)) (λ l. (tt, o))
    raises r None = by_frames s.waiting where
      by_frames : (fs : List Frame) → Well b (unwound r fs s)
      by_frames [] = (tt, o)
      by_frames (f ∷ fs) = (tt, own_take s.cells f.top o)

    endings : (limit : ℕ) (v : Option ℤ) (st : List ℤ) (fs : List Frame) → Well b (ending limit v st fs s)
    endings limit v st [] = (tt, o)
    endings limit v st (f ∷ fs) = (tt, own_take s.cells f.top o)

  calls_at : (limit : ℕ) (f : CodeSub) (cell to : ℕ) (fit : Bool) (st : List ℤ) (s : State) → Own b s.cells → Well b (calling_at limit f cell to fit st s)
  calls_at limit f cell to fit st s o = turns s o limit (λ x. entering_at limit f cell to fit (record x { stack = st })) (λ l n. enters_at (record s { stack = st }) o limit f cell to fit l n)

  draws : (limit : ℕ) (parts : List ℤ) (s : State) → Own b s.cells → Well b (drawing limit parts s)
  draws limit [] s o = (tt, o)
  draws limit (part ∷ parts) s o = (tt, o)

  another_back : (limit to head more : ℕ) (rs : List Round) (s : State) → Own b s.cells → Well b (another limit to head more rs s)
  another_back limit to head zero rs s o = (tt, o)
  another_back limit to head (suc n) rs s o =
      elim (nat_eq head to) as (λ y. Well b (cond y (Goes (moved_to to s.stack (record s { rounds = record { more = n; head = head } ∷ rs }))) (Goes (on s.stack (record s { rounds = rs }))))) [ true ↦ (tt, o) | false ↦ (tt, o) ]

  rounds_back : (limit to : ℕ) (rs : List Round) (s : State) → Own b s.cells → Well b (rounding limit to rs s)
  rounds_back limit to [] s o = (tt, o)
  rounds_back limit to (r ∷ rs) s o = another_back limit to r.head r.more rs s o

  combines : (limit : ℕ) (f : CodeSub) (acc : ℤ) (st parts : List ℤ) (s : State) → Own b s.cells → Well b (combining limit f acc st parts s)
  combines limit f acc st [] s o = (tt, o)
  combines limit f acc st (part ∷ parts) s o = turns s o limit (λ x. entering limit f x.pc parts (record x { stack = part ∷ acc ∷ st })) (λ l n. enters (record s { stack = part ∷ acc ∷ st }) o limit f s.pc parts l n)

-- a cell that is there is read
reads : (cs : List Cell) (n : ℕ) → n < length cs → is_gone (at cs n) ≡ false → (v : ℤ) × (seen cs (pos n) ≡ Some v)
reads cs n lt g = by_cell (at cs n) (get_at cs n lt) g where
  by_cell : (c : Cell) → slice_get cs n ≡ Some c → is_gone c ≡ false → (v : ℤ) × (value_in (slice_get cs n) ≡ Some v)
  by_cell Gone e h = cc
  by_cell (Seen v) e h = (v, ap value_in e)
  by_cell (Mine v) e h = (v, ap value_in e)

within : (cs : List Cell) (n : ℕ) (v : ℤ) → seen cs (pos n) ≡ Some v → n < length cs
within cs n v e = by_cell (slice_get cs n) refl e where
  by_cell : (o : Option Cell) → slice_get cs n ≡ o → value_in o ≡ Some v → n < length cs
  by_cell None q h = cc
  by_cell (Some c) q h = (there cs n c q).0

mine_there : (c : Cell) → is_mine c ≡ true → is_gone c ≡ false
mine_there Gone e = cc
mine_there (Seen v) e = cc
mine_there (Mine v) e = refl

still_there : (c d : Cell) → is_mine d ≡ is_mine c → (is_mine c ≡ false → d ≡ c) → is_gone c ≡ false → is_gone d ≡ false
still_there Gone d k o g = cc
still_there (Seen v) d k o g = ap is_gone (o refl)
still_there (Mine v) d k o g = mine_there d k

module _ (b : ℕ) (vs ms : List Cell) where
  may_read : (ws ns : List Cell) (a v : ℤ) → Kept b vs ms ws ns → Own b ws → seen ns a ≡ Some v → Allowed b vs (Reads a) → seen ws a ≡ Some v
  may_read ws ns (pos n) v k o e h =
      let lt : n < length ws = omega (arith, within ns n v e, k.covers.0) in
      let g : is_gone (at ws n) ≡ false = elim (cases_lt n b) [ inl l ↦ still_there (at vs n) (at ws n) (k.kinds n l) (k.view n l) (h l) | inr le ↦ mine_there (at ws n) (o n le lt) ] in
      let r = reads ws n lt g in
      r.1 ∙ sym (read_same ns ws (pos n) r.0 k.covers r.1) ∙ e
  may_read ws ns (negsuc n) v k o e h = cc

  may_write : (ws ns es : List Cell) (a v : ℤ) → Kept b vs ms ws ns → Own b ws → written ns a v ≡ Some es → Allowed b vs (Sets a) → (ds : List Cell) × (written ws a v ≡ Some ds) × Own b ds
  may_write ws ns es a v k o e h = by_address (wrote ns es a v e) where
    by_address : ((n : ℕ) × (a ≡ pos n) × (n < length ns) × (is_mine (at ns n) ≡ true) × (es ≡ set ns n (Mine v))) → (ds : List Cell) × (written ws a v ≡ Some ds) × Own b ds
    by_address w =
        let n = w.0 in let lt : n < length ws = omega (arith, w.2, k.covers.0) in
        let g : Allowed b vs (Sets (pos n)) = subst (λ z. Allowed b vs (Sets z)) w.1 h in
        let m : is_mine (at ws n) ≡ true = elim (cases_lt n b) [ inl l ↦ k.kinds n l ∙ g l | inr le ↦ o n le lt ] in
        (set ws n (Mine v), ap (λ z. written ws z v) w.1 ∙ writes ws n v lt m, own_set b ws n v lt o)

  back : (limit : ℕ) (d : Deed) (s : State) (ns : List Cell) → Kept b vs ms s.cells ns → Own b s.cells → AllAllowed b vs (touches_of d ns) → GoesWell (done limit d (with_memory s ns)) → Well b (done limit d s)
  back limit Lacks s ns k o a g = (tt, o)
  back limit (GoesOn to st) s ns k o a g = (tt, o)
  back limit (Fails r st) s ns k o a g = (tt, o)
  back limit (Loads x h) s ns k o a g =
      elim (seen ns x) as (λ y. seen ns x ≡ y → AllAllowed b vs (elim y [ Some v ↦ touches_of (h v) ns | None ↦ [] ]) → GoesWell (with_value y (with_memory s ns) (λ v. done limit (h v) (with_memory s ns))) → Well b (done limit (Loads x h) s)) [
        | None ↦ λ e t w. absurd w
        | Some v ↦ λ e t w. subst (λ y. Well b (with_value y s (λ z. done limit (h z) s))) (sym (may_read s.cells ns x v k o e a.0)) (back limit (h v) s ns k o t w)
      ] refl a.1 g
  back limit (Stores x v d) s ns k o a g =
      elim (written ns x v) as (λ y. written ns x v ≡ y → AllAllowed b vs (elim y [ Some es ↦ touches_of d es | None ↦ [] ]) → GoesWell (with_cells y (with_memory s ns) (λ t. done limit d t)) → Well b (done limit (Stores x v d) s)) [
        | None ↦ λ e t w. absurd w
        | Some es ↦ λ e t w.
            let m = may_write s.cells ns es x v k o e a.0 in
            let q = kept_write b vs ms s.cells ns m.0 x v k m.1 in
            let same : q.0 ≡ es = some_is q.0 es (sym q.1 ∙ e) in
            subst (λ y. Well b (with_cells y s (λ t. done limit d t))) (sym m.1) (back limit d (record s { cells = m.0 }) es (subst (λ l. Kept b vs ms m.0 l) same q.2) m.2 t w)
      ] refl a.1 g where
        some_is : (x y : List Cell) → Some x ≡ Some y → x ≡ y
        some_is x y e = cc
  back limit (Points x d) s ns k o a g =
      elim (points ns x) as (λ y. points ns x ≡ y → GoesWell (if_pointing y (with_memory s ns) (done limit d (with_memory s ns))) → Well b (done limit (Points x d) s)) [
        | false ↦ λ e w. absurd w
        | true ↦ λ e w. subst (λ y. Well b (if_pointing y s (done limit d s))) (sym (sym (points_same ns s.cells x k.covers.0) ∙ e)) (back limit d s ns k o a w)
      ] refl g
  back limit Turns s ns k o a g = turns b s o limit (λ t. Goes (on t.stack t)) (λ l n. (tt, o))
  back limit (Calls f) s ns k o a g = calls b s o limit f (s.pc + 1) s.kept
  back limit (CallsAt f cell to fit st) s ns k o a g = calls_at b limit f cell to fit st s o
  back limit Draws s ns k o a g = draws b limit s.kept s o
  back limit (Repeats n) s ns k o a g = (tt, o)
  back limit (Rounds to) s ns k o a g = rounds_back b limit to s.rounds s o
  back limit (Combines f acc st) s ns k o a g = combines b limit f acc st s.kept s o
  back limit (Ends v st) s ns k o a g = endings b s o limit v st s.waiting
  back limit (Leaves l st) s ns k o a g = (tt, o)
  back limit (Forks q st) s ns k o a g = (tt, o)
  back limit Nests s ns k o a g = nests b s o limit
  back limit Unnests s ns k o a g = (tt, o)
  back limit (Writes text st) s ns k o a g = (tt, o)
  back limit (Sends feed) s ns k o a g = (tt, o)
  back limit Gets s ns k o a g = (tt, o)
  back limit (Gives v st) s ns k o a g = (tt, o)

  pub step_back : (limit : ℕ) (code : Code) (s : State) (ns : List Cell) → Kept b vs ms s.cells ns → Own b s.cells → AllAllowed b vs (step_touches limit code (with_memory s ns)) → GoesWell (step limit code (with_memory s ns)) → Well b (step limit code s)
  step_back limit code s ns k o a g = by_raise s.raising a g where
    by_instr : (i : Option Instr) → AllAllowed b vs (instr_touches limit code i (with_memory s ns)) → GoesWell (acted limit code i (with_memory s ns)) → Well b (acted limit code i s)
    by_instr None t w = (tt, o)
    by_instr (Some i) t w = back limit (deed_of code s.pc s.stack s.base s.outward i) s ns k o t w

    by_raise : (r : Option Reason) → AllAllowed b vs (raise_touches limit code r (with_memory s ns)) → GoesWell (stepped limit code r (with_memory s ns)) → Well b (stepped limit code r s)
    by_raise None t w = by_instr (slice_get code.instrs s.pc) t w
    by_raise (Some r) t w = raises b s o r (entry_of code.unwind s.pc)

  pub both : (ts us : List Touch) → AllAllowed b vs (ts ++ us) → AllAllowed b vs ts × AllAllowed b vs us
  both [] us a = (tt, a)
  both (t ∷ ts) us a = let r = both ts us a.1 in ((a.0, r.0), r.1)

  pub runs_back : (limit : ℕ) (code : Code) (n : ℕ) (s : State) (ns : List Cell) → Kept b vs ms s.cells ns → Chain b s.waiting → Own b s.cells → AllAllowed b vs (run_touches limit code n (with_memory s ns)) → GoesWell (run limit code n (with_memory s ns)) → GoesWell (run limit code n s)
  runs_back limit code zero s ns k c o a g = tt
  runs_back limit code (suc n) s ns k c o a g =
      let m = with_memory s ns in
      let ts = both (step_touches limit code m) (elim (step limit code m) [ Goes t ↦ run_touches limit code n t | Stops x t ↦ [] ]) a in
      let first : GoesWell (step limit code m) = goes_first (step limit code m) g in
      let w = step_back limit code s ns k o ts.0 first in
      elim (step limit code s) as (λ y. Alike b vs ms y (step limit code m) → Well b y → GoesWell (going limit code y (λ t. run limit code n t))) [
        | Goes t ↦ λ h v.
            let e = h.1.1 in
            runs_back limit code n t h.1.0 h.1.2 h.0 v.1 (subst (λ y. AllAllowed b vs (elim y as (λ _. List Touch) [ Goes t ↦ run_touches limit code n t | Stops x t ↦ [] ])) e ts.1) (subst (λ y. GoesWell (going limit code y (λ t. run limit code n t))) e g)
        | Stops x t ↦ λ h v. v.0
      ] (steps_alike b vs ms limit code s ns k c) w where
        goes_first : (y : Went) → GoesWell (going limit code y (λ t. run limit code n t)) → GoesWell y
        goes_first (Goes t) h = tt
        goes_first (Stops x t) h = h
