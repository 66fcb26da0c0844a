-- A run that isn't stuck on its view is the same on a memory that shows what the view has.
use Rattle.std.proofs.Common.{◌≡◌, ℕ, zero, suc, ◌+◌, ◌-◌, ◌<◌, ◌≤◌, inl, inr, ℤ, pos, negsuc, Bool, true, false, cond, List, [], ◌∷◌, ◌++◌, length, set, take, Option, Some, None, arith, refl, sym, ◌∙◌, ap, subst, length-append, length-set}
use Rattle.std.specs.Prelude.{slice_get, nat_eq, nat_lt, nat_le}
use Rattle.std.proofs.lemmas.List.{get_or-set_same, get_or-set_other, get_or_append_left, get_or-append_right, get_or-take}
use Rattle.std.proofs.lemmas.Bool.{cases_lt, cases_eq}
use Rattle.ada_base.specs.declared.reason.Reason.{Reason}
use Rattle.ada_base.specs.declared.reason.Reason.TheVariants.{ConstraintError, StorageError}
use Rattle.stack_code.specs.declared.instr.Instr.{Instr}
use Rattle.stack_code.specs.declared.path.Round.{Round}
use Rattle.stack_code.specs.declared.code.Code.{Code}
use Rattle.stack_code.specs.declared.code.CodeSub.{CodeSub}
use Rattle.stack_code.specs.declared.code.Unwind.{Unwind}
use Rattle.ada_base.specs.Cells.{Cell, Gone, Seen, Mine, value_in, seen, where_mine, written, zeros}
use Rattle.stack_code.specs.Deeds.{Deed, Lacks, GoesOn, Fails, Loads, Stores, Points, Turns, Calls, CallsAt, Combines, Draws, Repeats, Rounds, Ends, Leaves, Forks, Nests, Unnests, Writes, Sends, Gets, Gives, deed_of}
use Rattle.stack_code.specs.Machine.{Frame, State, Stop, Spent, Went, Goes, Stops, look_by, look, with_value, with_cells, points, if_pointing, cut, on, moved_to, failed, entered, entered_at, ended, entry_of, handled, unwound, raised, turned, entering, calling, entering_at, calling_at, combining, drawing, another, rounding, ending, nesting, done, acted, stepped, step, going, run}
use Rattle.cell_memory.specs.Sight.{is_mine}
use Rattle.ada_workers.specs.Paths.{Shows, Covers}
use Rattle.machine_paths.specs.Alike.{at, Kept, with_memory, Chain, Alike}

-- ---- cells
pub there : (cs : List Cell) (n : ℕ) (c : Cell) → slice_get cs n ≡ Some c → (n < length cs) × (at cs n ≡ c)
there [] n c e = cc
there (d ∷ cs) zero c e = (omega arith, some_is d c e) where
  some_is : (x y : Cell) → Some x ≡ Some y → x ≡ y
  some_is x y e = cc
there (d ∷ cs) (suc n) c e = let r = there cs n c e in (omega (arith, r.0), r.1)

pub get_at : (cs : List Cell) (n : ℕ) → n < length cs → slice_get cs n ≡ Some (at cs n)
get_at [] n lt = absurd (omega (arith, lt))
get_at (c ∷ cs) zero lt = refl
get_at (c ∷ cs) (suc n) lt = get_at cs n (omega (arith, lt))

-- a memory's cell where the view has one to read
mine_for : (m c : Cell) (v : ℤ) → Shows m c → value_in (Some c) ≡ Some v → m ≡ Mine v
mine_for m Gone v s e = absurd (no e) where
  no : None ≡ Some v → ⊥
  no e = cc
mine_for m (Seen w) v s e = s ∙ ap Mine (some_is w v e) where
  some_is : (x y : ℤ) → Some x ≡ Some y → x ≡ y
  some_is x y e = cc
mine_for m (Mine w) v s e = s ∙ ap Mine (some_is w v e) where
  some_is : (x y : ℤ) → Some x ≡ Some y → x ≡ y
  some_is x y e = cc

-- memories of one length have the same addresses
pub points_same : (ns ws : List Cell) (a : ℤ) → length ns ≡ length ws → points ns a ≡ points ws a
points_same ns ws (pos n) e = ap (λ m. nat_le n m) e
points_same ns ws (negsuc n) e = refl

pub read_same : (ns ws : List Cell) (a v : ℤ) → Covers ns ws → seen ws a ≡ Some v → seen ns a ≡ Some v
read_same ns ws (pos n) v c e = by_cell (slice_get ws n) refl e where
  by_cell : (o : Option Cell) → slice_get ws n ≡ o → value_in o ≡ Some v → value_in (slice_get ns n) ≡ Some v
  by_cell None q h = cc
  by_cell (Some d) q h =
      let t = there ws n d q in
      ap value_in (get_at ns n (omega (arith, t.0, c.0))) ∙ ap (λ m. value_in (Some m)) (mine_for (at ns n) d v (subst (λ k. Shows (at ns n) k) t.1 (c.1 n)) h)
read_same ns ws (negsuc n) v c e = cc

mine_shown : (m c : Cell) → Shows m c → is_mine c ≡ true → is_mine m ≡ true
mine_shown m Gone s e = cc
mine_shown m (Seen v) s e = cc
mine_shown m (Mine v) s e = ap is_mine s

pub mine_of : (c : Cell) → is_mine c ≡ true → (v : ℤ) × (c ≡ Mine v)
mine_of Gone e = cc
mine_of (Seen v) e = cc
mine_of (Mine v) e = (v, refl)

-- what a write that succeeds says
pub wrote : (ws ds : List Cell) (a v : ℤ) → written ws a v ≡ Some ds → (n : ℕ) × (a ≡ pos n) × (n < length ws) × (is_mine (at ws n) ≡ true) × (ds ≡ set ws n (Mine v))
wrote ws ds (pos n) v e = by_cell (slice_get ws n) refl e where
  by_cell : (o : Option Cell) → slice_get ws n ≡ o → where_mine o (set ws n (Mine v)) ≡ Some ds → (k : ℕ) × (pos n ≡ pos k) × (k < length ws) × (is_mine (at ws k) ≡ true) × (ds ≡ set ws k (Mine v))
  by_cell None q h = cc
  by_cell (Some Gone) q h = cc
  by_cell (Some (Seen w)) q h = cc
  by_cell (Some (Mine w)) q h = let t = there ws n (Mine w) q in (n, refl, t.0, ap is_mine t.1, some_is (set ws n (Mine v)) ds h) where
    some_is : (x y : List Cell) → Some x ≡ Some y → y ≡ x
    some_is x y e = cc
wrote ws ds (negsuc n) v e = cc

pub writes : (ns : List Cell) (n : ℕ) (v : ℤ) → n < length ns → is_mine (at ns n) ≡ true → written ns (pos n) v ≡ Some (set ns n (Mine v))
writes ns n v lt m = let w = mine_of (at ns n) m in ap (λ o. where_mine o (set ns n (Mine v))) (get_at ns n lt ∙ ap Some w.1)

module _ (b : ℕ) (vs ms : List Cell) where
  differ : (c : Cell) → is_mine c ≡ false → is_mine c ≡ true → ⊥
  differ c e f = cc

  pub kept_write : (ws ns ds : List Cell) (a v : ℤ) → Kept b vs ms ws ns → written ws a v ≡ Some ds → (es : List Cell) × (written ns a v ≡ Some es) × Kept b vs ms ds es
  kept_write ws ns ds a v k e =
      let w = wrote ws ds a v e in let n = w.0 in
      let m : is_mine (at ns n) ≡ true = mine_shown (at ns n) (at ws n) (k.covers.1 n) w.3 in
      let lt : n < length ns = omega (arith, w.2, k.covers.0) in (
        set ns n (Mine v),
        ap (λ z. written ns z v) w.1 ∙ writes ns n v lt m,
        subst (λ l. Kept b vs ms l (set ns n (Mine v))) (sym w.4)
            (record {
              long = omega (arith, k.long, length-set ws n (Mine v));
              kinds = λ x h. elim (cases_eq x n) as (λ _. is_mine (at (set ws n (Mine v)) x) ≡ is_mine (at vs x)) [
                | inl q ↦ ap (λ z. is_mine (at (set ws n (Mine v)) z)) q ∙ ap is_mine (get_or-set_same ws n (Mine v) Gone w.2) ∙ sym (sym (k.kinds x h) ∙ ap (λ z. is_mine (at ws z)) q ∙ w.3)
                | inr ne ↦ ap is_mine (get_or-set_other ws n x (Mine v) Gone ne) ∙ k.kinds x h
              ];
              view = λ x h f. get_or-set_other ws n x (Mine v) Gone (λ q. differ (at vs x) f (sym (k.kinds x h) ∙ ap (λ z. is_mine (at ws z)) q ∙ w.3)) ∙ k.view x h f;
              memory = λ x h f. get_or-set_other ns n x (Mine v) Gone (λ q. differ (at vs x) f (sym (k.kinds x h) ∙ ap (λ z. is_mine (at ws z)) q ∙ w.3)) ∙ k.memory x h f;
              covers = (
                length-set ns n (Mine v) ∙ k.covers.0 ∙ sym (length-set ws n (Mine v)),
                λ x. elim (cases_eq x n) as (λ _. Shows (at (set ns n (Mine v)) x) (at (set ws n (Mine v)) x)) [
                  | inl q ↦ subst (λ z. Shows (at (set ns n (Mine v)) x) z) (sym (ap (λ z. at (set ws n (Mine v)) z) q ∙ get_or-set_same ws n (Mine v) Gone w.2)) (ap (λ z. at (set ns n (Mine v)) z) q ∙ get_or-set_same ns n (Mine v) Gone lt)
                  | inr ne ↦ subst (λ z. Shows z (at (set ws n (Mine v)) x)) (sym (get_or-set_other ns n x (Mine v) Gone ne)) (subst (λ z. Shows (at ns x) z) (sym (get_or-set_other ws n x (Mine v) Gone ne)) (k.covers.1 x))
                ],
              );
            }),
      )

  pub zeros_kind : (n i : ℕ) → Shows (at (zeros n) i) (at (zeros n) i)
  zeros_kind zero i = tt
  zeros_kind (suc n) zero = refl
  zeros_kind (suc n) (suc i) = zeros_kind n i

  pub kept_more : (ws ns us : List Cell) → ((i : ℕ) → Shows (at us i) (at us i)) → Kept b vs ms ws ns → Kept b vs ms (ws ++ us) (ns ++ us)
  kept_more ws ns us own k =
      let l = length-append ws us in let m = length-append ns us in
      record {
        long = omega (arith, k.long, l);
        kinds = λ x h. ap is_mine (get_or_append_left ws us Gone x (omega (arith, k.long))) ∙ k.kinds x h;
        view = λ x h f. get_or_append_left ws us Gone x (omega (arith, k.long)) ∙ k.view x h f;
        memory = λ x h f. get_or_append_left ns us Gone x (omega (arith, k.long, k.covers.0)) ∙ k.memory x h f;
        covers = (
          omega (arith, l, m, k.covers.0),
          λ x. elim (cases_lt x (length ws)) as (λ _. Shows (at (ns ++ us) x) (at (ws ++ us) x)) [
            | inl lt ↦ subst (λ z. Shows z (at (ws ++ us) x)) (sym (get_or_append_left ns us Gone x (omega (arith, k.covers.0)))) (subst (λ z. Shows (at ns x) z) (sym (get_or_append_left ws us Gone x lt)) (k.covers.1 x))
            | inr le ↦ subst (λ z. Shows z (at (ws ++ us) x)) (sym (get_or-append_right ns us (length ws) x Gone k.covers.0 le)) (subst (λ z. Shows (at us (x - length ws)) z) (sym (get_or-append_right ws us (length ws) x Gone refl le)) (own (x - length ws)))
          ],
        );
      }

  kept_push : (ws ns : List Cell) (n : ℕ) → Kept b vs ms ws ns → Kept b vs ms (ws ++ zeros n) (ns ++ zeros n)
  kept_push ws ns n = kept_more ws ns (zeros n) (zeros_kind n)

  pub take_long : (n : ℕ) (cs : List Cell) → (n ≤ length cs → length (take n cs) ≡ n) × (length cs ≤ n → length (take n cs) ≡ length cs)
  take_long zero cs = (λ _. refl, λ le. omega (arith, le))
  take_long (suc n) [] = (λ le. absurd (omega (arith, le)), λ _. refl)
  take_long (suc n) (c ∷ cs) = let r = take_long n cs in (λ le. ap suc (r.0 (omega (arith, le))), λ le. ap suc (r.1 (omega (arith, le))))

  same_take : (n : ℕ) (cs ds : List Cell) → length cs ≡ length ds → length (take n cs) ≡ length (take n ds)
  same_take n cs ds e = elim (cases_lt n (length cs)) as (λ _. length (take n cs) ≡ length (take n ds)) [
    | inl lt ↦ (take_long n cs).0 (omega arith) ∙ sym ((take_long n ds).0 (omega (arith, e)))
    | inr le ↦ (take_long n cs).1 le ∙ e ∙ sym ((take_long n ds).1 (omega (arith, e)))
  ]

  take_least : (n : ℕ) (cs : List Cell) → b ≤ n → b ≤ length cs → b ≤ length (take n cs)
  take_least n cs h g = elim (cases_lt n (length cs)) [ inl lt ↦ omega (arith, (take_long n cs).0 (omega arith)) | inr le ↦ omega (arith, (take_long n cs).1 le) ]

  past_take : (n : ℕ) (cs : List Cell) (x : ℕ) → n ≤ x → at (take n cs) x ≡ Gone
  past_take zero cs x le = refl
  past_take (suc n) [] x le = refl
  past_take (suc n) (c ∷ cs) zero le = absurd (omega (arith, le))
  past_take (suc n) (c ∷ cs) (suc x) le = past_take n cs x (omega (arith, le))

  pub kept_take : (ws ns : List Cell) (n : ℕ) → b ≤ n → Kept b vs ms ws ns → Kept b vs ms (take n ws) (take n ns)
  kept_take ws ns n le k = record {
    long = take_least n ws le k.long;
    kinds = λ x h. ap is_mine (get_or-take n ws x Gone (omega arith)) ∙ k.kinds x h;
    view = λ x h f. get_or-take n ws x Gone (omega arith) ∙ k.view x h f;
    memory = λ x h f. get_or-take n ns x Gone (omega arith) ∙ k.memory x h f;
    covers = (
      same_take n ns ws k.covers.0,
      λ x. elim (cases_lt x n) as (λ _. Shows (at (take n ns) x) (at (take n ws) x)) [
        | inl lt ↦ subst (λ z. Shows z (at (take n ws) x)) (sym (get_or-take n ns x Gone lt)) (subst (λ z. Shows (at ns x) z) (sym (get_or-take n ws x Gone lt)) (k.covers.1 x))
        | inr le ↦ subst (λ z. Shows (at (take n ns) x) z) (sym (past_take n ws x le)) tt
      ],
    );
  }

  abbrev Pair : Went → Went → Type 0
  Pair w y = Alike b vs ms w y

  -- ---- steps. s is the state on the view, ns what the memory has
  module _ (s : State) (ns : List Cell) (k : Kept b vs ms s.cells ns) (c : Chain b s.waiting) where
    abbrev m : State
    m = with_memory s ns

    goes : Pair (Goes s) (Goes m)
    goes = (c, (ns, refl, k))

    stops : (x : Stop) → Pair (Stops x s) (Stops x m)
    stops x f = (ns, refl, k, c)

    looks : (f : State → Went) → ((l : Option ℕ) → Pair (f (record s { left = l })) (f (with_memory (record s { left = l }) ns))) → Pair (look s f) (look m f)
    looks f h = by_left s.left where
      by_left : (o : Option ℕ) → Pair (look_by o s f) (look_by o m f)
      by_left None = h s.left
      by_left (Some zero) = λ g. (ns, refl, k, c)
      by_left (Some (suc n)) = h (Some n)

    turns_alike : (limit : ℕ) (f : State → Went) → ((l : Option ℕ) (n : ℕ) → Pair (f (record s { left = l; turns = n })) (f (with_memory (record s { left = l; turns = n }) ns))) → Pair (turned limit s f) (turned limit m f)
    turns_alike limit f h = looks (λ t. cond (nat_lt t.turns limit) (f (record t { turns = t.turns + 1 })) (Stops Spent t)) (λ l.
        elim (nat_lt s.turns limit) as (λ y. Pair (cond y (f (record s { left = l; turns = s.turns + 1 })) (Stops Spent (record s { left = l }))) (cond y (f (with_memory (record s { left = l; turns = s.turns + 1 }) ns)) (Stops Spent (with_memory (record s { left = l }) ns)))) [
          | true ↦ h l (s.turns + 1)
          | false ↦ λ g. (ns, refl, k, c)
        ])

    enters : (f : CodeSub) (to : ℕ) (kept : List ℤ) (l : Option ℕ) (n : ℕ) → Pair (Goes (entered f to kept (record s { left = l; turns = n }))) (Goes (entered f to kept (with_memory (record s { left = l; turns = n }) ns)))
    enters f to kept l n = (
      (k.long, c),
      (
        ns ++ zeros f.frame,
        (λ i. Goes (record (entered f to kept (with_memory (record s { left = l; turns = n }) ns)) { base = k.covers.0 i; waiting = record { at = s.pc; to = to; floor = s.floor; base = s.base; nest = s.nest; kept = kept; rounds = s.rounds; top = k.covers.0 i } ∷ s.waiting })),
        kept_push s.cells ns f.frame k,
      ),
    )

    enters_at : (f : CodeSub) (cell to : ℕ) (l : Option ℕ) (n : ℕ) → Pair (Goes (entered_at f cell to (record s { left = l; turns = n }))) (Goes (entered_at f cell to (with_memory (record s { left = l; turns = n }) ns)))
    enters_at f cell to l n = (
      (k.long, c),
      (
        ns ++ zeros (s.base + cell + f.frame - length s.cells),
        (λ i. Goes (record (entered_at f cell to (with_memory (record s { left = l; turns = n }) ns)) {
          waiting = record { at = s.pc; to = to; floor = s.floor; base = s.base; nest = s.nest; kept = s.kept; rounds = s.rounds; top = k.covers.0 i } ∷ s.waiting;
          cells = ns ++ zeros (s.base + cell + f.frame - k.covers.0 i);
        })),
        kept_push s.cells ns (s.base + cell + f.frame - length s.cells) k,
      ),
    )

    fits_at : (f : CodeSub) (cell to : ℕ) (fit : Bool) (l : Option ℕ) (n : ℕ) → Pair
        (cond fit (Goes (entered_at f cell to (record s { left = l; turns = n }))) (Goes (failed ConstraintError s.stack (record s { left = l; turns = n }))))
        (cond fit (Goes (entered_at f cell to (with_memory (record s { left = l; turns = n }) ns))) (Goes (failed ConstraintError s.stack (with_memory (record s { left = l; turns = n }) ns))))
    fits_at f cell to true l n = enters_at f cell to l n
    fits_at f cell to false l n = (c, (ns, refl, k))

    entering_at_alike : (limit : ℕ) (f : CodeSub) (cell to : ℕ) (fit : Bool) (l : Option ℕ) (n : ℕ) → Pair (entering_at limit f cell to fit (record s { left = l; turns = n })) (entering_at limit f cell to fit (with_memory (record s { left = l; turns = n }) ns))
    entering_at_alike limit f cell to fit l n =
        elim (nat_lt s.calls 1000) as (λ y. Pair
        (cond y (cond fit (Goes (entered_at f cell to (record s { left = l; turns = n }))) (Goes (failed ConstraintError s.stack (record s { left = l; turns = n })))) (Goes (failed StorageError s.stack (record s { left = l; turns = n }))))
        (cond y (cond fit (Goes (entered_at f cell to (with_memory (record s { left = l; turns = n }) ns))) (Goes (failed ConstraintError s.stack (with_memory (record s { left = l; turns = n }) ns)))) (Goes (failed StorageError s.stack (with_memory (record s { left = l; turns = n }) ns))))) [
          | true ↦ fits_at f cell to fit l n
          | false ↦ (c, (ns, refl, k))
        ]

    entering_alike : (limit : ℕ) (f : CodeSub) (to : ℕ) (kept : List ℤ) (l : Option ℕ) (n : ℕ) → Pair (entering limit f to kept (record s { left = l; turns = n })) (entering limit f to kept (with_memory (record s { left = l; turns = n }) ns))
    entering_alike limit f to kept l n =
        elim (nat_lt s.calls 1000) as (λ y. Pair
        (cond y (Goes (entered f to kept (record s { left = l; turns = n }))) (Goes (failed StorageError (cut (length s.stack - f.takes) s.stack) (record s { left = l; turns = n }))))
        (cond y (Goes (entered f to kept (with_memory (record s { left = l; turns = n }) ns))) (Goes (failed StorageError (cut (length s.stack - f.takes) s.stack) (with_memory (record s { left = l; turns = n }) ns))))) [
          | true ↦ enters f to kept l n
          | false ↦ (c, (ns, refl, k))
        ]

    calls_alike : (limit : ℕ) (f : CodeSub) (to : ℕ) (kept : List ℤ) → Pair (calling limit f to kept s) (calling limit f to kept m)
    calls_alike limit f to kept = turns_alike limit (λ x. entering limit f to kept x) (λ l n. entering_alike limit f to kept l n)

    ends_alike : (f : Frame) (fs : List Frame) (to : ℕ) (st : List ℤ) → Chain b (f ∷ fs) → Pair (Goes (ended f fs to st s)) (Goes (ended f fs to st m))
    ends_alike f fs to st h = (h.1, (take f.top ns, refl, kept_take s.cells ns f.top h.0 k))

    nests_alike : (limit : ℕ) → Pair (look s (nesting limit)) (look m (nesting limit))
    nests_alike limit = looks (nesting limit) (λ l.
        elim (nat_lt s.nested 16) as (λ y. Pair
        (cond y (Goes (on s.stack (record s { left = l; nest = s.nest + 1; nested = s.nested + 1 }))) (Goes (failed StorageError s.stack (record s { left = l }))))
        (cond y (Goes (on s.stack (with_memory (record s { left = l; nest = s.nest + 1; nested = s.nested + 1 }) ns))) (Goes (failed StorageError s.stack (with_memory (record s { left = l }) ns))))) [
          | true ↦ (c, (ns, refl, k))
          | false ↦ (c, (ns, refl, k))
        ])

    raises_alike : (r : Reason) (u : Option Unwind) → Pair (raised r u s) (raised r u m)
    raises_alike r (Some u) = looks (λ t. Goes (handled u r t)) (λ l. (c, (ns, refl, k)))
    raises_alike r None = by_frames s.waiting c where
      by_frames : (fs : List Frame) → Chain b fs → Pair (unwound r fs s) (unwound r fs m)
      by_frames [] h = λ g. (ns, refl, k, c)
      by_frames (f ∷ fs) h = ends_alike f fs f.at (cut s.floor s.stack) h

    endings : (limit : ℕ) (v : Option ℤ) (st : List ℤ) (fs : List Frame) → Chain b fs → Pair (ending limit v st fs s) (ending limit v st fs m)
    endings limit v st [] h = λ g. (ns, refl, k, c)
    endings limit v st (f ∷ fs) h = ends_alike f fs f.to _ h

  calls_at_alike : (limit : ℕ) (f : CodeSub) (cell to : ℕ) (fit : Bool) (st : List ℤ) (s : State) (ns : List Cell) (k : Kept b vs ms s.cells ns) (c : Chain b s.waiting) → Pair (calling_at limit f cell to fit st s) (calling_at limit f cell to fit st (with_memory s ns))
  calls_at_alike limit f cell to fit st s ns k c = turns_alike s ns k c limit (λ x. entering_at limit f cell to fit (record x { stack = st })) (λ l n. entering_at_alike (record s { stack = st }) ns k c limit f cell to fit l n)

  draws_alike : (limit : ℕ) (parts : List ℤ) (s : State) (ns : List Cell) (k : Kept b vs ms s.cells ns) (c : Chain b s.waiting) → Pair (drawing limit parts s) (drawing limit parts (with_memory s ns))
  draws_alike limit [] s ns k c = (c, (ns, refl, k))
  draws_alike limit (part ∷ parts) s ns k c = (c, (ns, refl, k))

  another_alike : (limit to head more : ℕ) (rs : List Round) (s : State) (ns : List Cell) (k : Kept b vs ms s.cells ns) (c : Chain b s.waiting) → Pair (another limit to head more rs s) (another limit to head more rs (with_memory s ns))
  another_alike limit to head zero rs s ns k c = (c, (ns, refl, k))
  another_alike limit to head (suc n) rs s ns k c =
      elim (nat_eq head to) as (λ y. Pair
      (cond y (Goes (moved_to to s.stack (record s { rounds = record { more = n; head = head } ∷ rs }))) (Goes (on s.stack (record s { rounds = rs }))))
      (cond y (Goes (moved_to to s.stack (record (with_memory s ns) { rounds = record { more = n; head = head } ∷ rs }))) (Goes (on s.stack (record (with_memory s ns) { rounds = rs }))))) [
        | true ↦ (c, (ns, refl, k))
        | false ↦ (c, (ns, refl, k))
      ]

  rounds_alike : (limit to : ℕ) (rs : List Round) (s : State) (ns : List Cell) (k : Kept b vs ms s.cells ns) (c : Chain b s.waiting) → Pair (rounding limit to rs s) (rounding limit to rs (with_memory s ns))
  rounds_alike limit to [] s ns k c = (c, (ns, refl, k))
  rounds_alike limit to (r ∷ rs) s ns k c = another_alike limit to r.head r.more rs s ns k c

  combines : (limit : ℕ) (f : CodeSub) (acc : ℤ) (st parts : List ℤ) (s : State) (ns : List Cell) (k : Kept b vs ms s.cells ns) (c : Chain b s.waiting) → Pair (combining limit f acc st parts s) (combining limit f acc st parts (with_memory s ns))
  combines limit f acc st [] s ns k c = (c, (ns, refl, k))
  combines limit f acc st (part ∷ parts) s ns k c = turns_alike s ns k c limit (λ x. entering limit f x.pc parts (record x { stack = part ∷ acc ∷ st })) (λ l n. entering_alike (record s { stack = part ∷ acc ∷ st }) ns k c limit f s.pc parts l n)

  -- ---- an instruction
  pub does : (limit : ℕ) (d : Deed) (s : State) (ns : List Cell) (k : Kept b vs ms s.cells ns) (c : Chain b s.waiting) → Pair (done limit d s) (done limit d (with_memory s ns))
  does limit Lacks s ns k c = λ g. (ns, refl, k, c)
  does limit (GoesOn to st) s ns k c = (c, (ns, refl, k))
  does limit (Fails r st) s ns k c = (c, (ns, refl, k))
  does limit (Loads a h) s ns k c =
      elim (seen s.cells a) as (λ o. seen s.cells a ≡ o → Pair (with_value o s (λ v. done limit (h v) s)) (done limit (Loads a h) (with_memory s ns))) [
        | None ↦ λ e g. absurd g
        | Some v ↦ λ e. subst (λ o. Pair (done limit (h v) s) (with_value o (with_memory s ns) (λ w. done limit (h w) (with_memory s ns)))) (sym (read_same ns s.cells a v k.covers e)) (does limit (h v) s ns k c)
      ] refl
  does limit (Stores a v d) s ns k c =
      elim (written s.cells a v) as (λ o. written s.cells a v ≡ o → Pair (with_cells o s (λ t. done limit d t)) (done limit (Stores a v d) (with_memory s ns))) [
        | None ↦ λ e g. absurd g
        | Some ds ↦ λ e.
            let w = kept_write s.cells ns ds a v k e in
            subst (λ o. Pair (done limit d (record s { cells = ds })) (with_cells o (with_memory s ns) (λ t. done limit d t))) (sym w.1) (does limit d (record s { cells = ds }) w.0 w.2 c)
      ] refl
  does limit (Points a d) s ns k c =
      elim (points s.cells a) as (λ o. points s.cells a ≡ o → Pair (if_pointing o s (done limit d s)) (done limit (Points a d) (with_memory s ns))) [
        | false ↦ λ e g. absurd g
        | true ↦ λ e. subst (λ o. Pair (done limit d s) (if_pointing o (with_memory s ns) (done limit d (with_memory s ns)))) (sym (points_same ns s.cells a k.covers.0 ∙ e)) (does limit d s ns k c)
      ] refl
  does limit Turns s ns k c = turns_alike s ns k c limit (λ t. Goes (on t.stack t)) (λ l n. (c, (ns, refl, k)))
  does limit (Calls f) s ns k c = calls_alike s ns k c limit f (s.pc + 1) s.kept
  does limit (CallsAt f cell to fit st) s ns k c = calls_at_alike limit f cell to fit st s ns k c
  does limit Draws s ns k c = draws_alike limit s.kept s ns k c
  does limit (Repeats n) s ns k c = (c, (ns, refl, k))
  does limit (Rounds to) s ns k c = rounds_alike limit to s.rounds s ns k c
  does limit (Combines f acc st) s ns k c = combines limit f acc st s.kept s ns k c
  does limit (Ends v st) s ns k c = endings s ns k c limit v st s.waiting c
  does limit (Leaves l st) s ns k c = λ g. (ns, refl, k, c)
  does limit (Forks q st) s ns k c = λ g. (ns, refl, k, c)
  does limit Nests s ns k c = nests_alike s ns k c limit
  does limit Unnests s ns k c = (c, (ns, refl, k))
  does limit (Writes text st) s ns k c = (c, (ns, refl, k))
  does limit (Sends feed) s ns k c = λ g. (ns, refl, k, c)
  does limit Gets s ns k c = λ g. (ns, refl, k, c)
  does limit (Gives v st) s ns k c = λ g. (ns, refl, k, c)

  pub steps_alike : (limit : ℕ) (code : Code) (s : State) (ns : List Cell) → Kept b vs ms s.cells ns → Chain b s.waiting → Pair (step limit code s) (step limit code (with_memory s ns))
  steps_alike limit code s ns k c = by_raise s.raising where
    by_instr : (i : Option Instr) → Pair (acted limit code i s) (acted limit code i (with_memory s ns))
    by_instr None = λ g. (ns, refl, k, c)
    by_instr (Some i) = does limit (deed_of code s.pc s.stack s.base s.outward i) s ns k c

    by_raise : (r : Option Reason) → Pair (stepped limit code r s) (stepped limit code r (with_memory s ns))
    by_raise None = by_instr (slice_get code.instrs s.pc)
    by_raise (Some r) = raises_alike s ns k c r (entry_of code.unwind s.pc)

  -- ---- a run
  pub runs_alike : (limit : ℕ) (code : Code) (n : ℕ) (s : State) (ns : List Cell) → Kept b vs ms s.cells ns → Chain b s.waiting → Pair (run limit code n s) (run limit code n (with_memory s ns))
  runs_alike limit code zero s ns k c = (c, (ns, refl, k))
  runs_alike limit code (suc n) s ns k c =
      elim (step limit code s) as (λ w. Pair w (step limit code (with_memory s ns)) → Pair (going limit code w (λ t. run limit code n t)) (run limit code (suc n) (with_memory s ns))) [
        | Goes t ↦ λ h. subst (λ y. Pair (run limit code n t) (going limit code y (λ t. run limit code n t))) (sym h.1.1) (runs_alike limit code n t h.1.0 h.1.2 h.0)
        | Stops x t ↦ λ h g. let r = h g in (r.0, ap (λ y. going limit code y (λ t. run limit code n t)) r.1, r.2, r.3)
      ] (steps_alike limit code s ns k c)

-- from the beginning: a memory that shows what the view has
pub run_on_memory : (limit : ℕ) (code : Code) (n b : ℕ) (s : State) (ms : List Cell) → b ≤ length s.cells → Covers ms s.cells → Chain b s.waiting → Alike b s.cells ms (run limit code n s) (run limit code n (with_memory s ms))
run_on_memory limit code n b s ms le cov c = runs_alike b s.cells ms limit code n s ms (record { long = le; kinds = λ x h. refl; view = λ x h f. refl; memory = λ x h f. refl; covers = cov }) c
