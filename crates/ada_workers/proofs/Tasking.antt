-- Records of threads, from their beginning to what comes back.
use Rattle.std.proofs.Common.{◌≡◌, ℕ, zero, suc, ◌+◌, ◌-◌, ◌<◌, inl, inr, ℤ, false, List, [], ◌∷◌, ◌++◌, map, length, get_or, take, drop, Option, Some, None, arith, refl, sym, ◌∙◌, ap, subst, length-append, append_assoc}
use Rattle.std.proofs.lemmas.List.{length-map, get_or-append_right, get_or_append_left}
use Rattle.leave_board.specs.Boards.{Hall, Sitting, AllOf}
use Rattle.leave_board.specs.Halts.{IsTold}
use Rattle.cell_strip.specs.Strips.{Block, Strip, cell, is_there}
use Rattle.ada_base.specs.Cells.{Cell, Gone, Seen, Mine}
use Rattle.cell_memory.specs.Sight.{Store, Sight, cell_at, is_gone, is_mine, shown, mine_or, table, thread_sight, OwnThere, lent_value, lower_length}
use Rattle.cell_memory.proofs.Views.{length-table, at-table}
use Rattle.ada_workers.specs.Paths.{Runs, Fine, Went}
use Rattle.ada_workers.specs.Tasks.{IsReady, Did, TaskRan, AllHome, Begun, BegunFrom, CanEnd, AllCanEnd, Given, AllGiven, begun, AllFineOver, BackOf, RanTo, Returned, AllReturned, IsHalted, SeatTells, SeatsTell}
use Rattle.ada_workers.specs.declared.path.Stop.{Stop}
use Rattle.ada_workers.specs.declared.path.Stop.TheVariants as stop
use Rattle.ada_workers.specs.declared.tasks.State.{State}
use Rattle.ada_workers.specs.declared.tasks.State.TheVariants as state
use Rattle.ada_workers.specs.declared.tasks.Task.{Task}
use Rattle.ada_workers.specs.declared.tasks.Ready.{Ready}
use Rattle.ada_workers.specs.declared.tasks.Back.{Back}

pub written : {X : Type 0} (xs ys : List X) (n : ℕ) → length xs ≡ length ys → n ≡ length ys → take n (xs ++ drop (length xs) ys) ≡ xs
written [] [] n e f = ap (λ k. take k []) f
written [] (y ∷ ys) n e f = absurd (omega (arith, e))
written (x ∷ xs) [] n e f = absurd (omega (arith, e))
written (x ∷ xs) (y ∷ ys) n e f = ap (λ k. take k (x ∷ xs ++ drop (length (x ∷ xs)) (y ∷ ys))) f ∙ ap (λ l. x ∷ l) (written xs ys (length ys) (omega (arith, e)) refl)

pub all_last : {X : Type 0} (Q : X → Type 0) (ys : List X) (x : X) → AllOf Q (ys ++ x ∷ []) → AllOf Q ys × Q x
all_last Q [] x a = (tt, a.0)
all_last Q (y ∷ ys) x a = let r = all_last Q ys x a.1 in ((a.0, r.0), r.1)

pub one_more : {X : Type 0} (all done rest rest' : List X) (x : X) → all ≡ done ++ rest → rest ≡ x ∷ rest' → all ≡ (done ++ x ∷ []) ++ rest'
one_more all done rest rest' x e f = e ∙ ap (λ l. done ++ l) f ∙ sym (append_assoc done (x ∷ []) rest')

pub length_more : {X : Type 0} (done : List X) (x : X) (k : ℕ) → k ≡ length done → k + 1 ≡ length (done ++ x ∷ [])
length_more done x k e = let f : length (done ++ x ∷ []) ≡ length done + 1 = length-append done (x ∷ []) in omega arith

module _ {P : Type 0} where
  pub home_at : (home : Block) (xs : List (Ready P)) (r : Ready P) (ys : List (Ready P)) → AllHome home (xs ++ r ∷ ys) → r.lent.block ≡ home
  home_at home [] r ys a = a.0
  home_at home (x ∷ xs) r ys a = home_at home xs r ys a.1

  pub home_in : (home : Block) (all xs rest : List (Ready P)) (r : Ready P) (ys : List (Ready P)) → AllHome home all → all ≡ xs ++ rest → rest ≡ r ∷ ys → r.lent.block ≡ home
  home_in home all xs rest r ys a e f = home_at home xs r ys (subst (AllHome home) (e ∙ ap (λ l. xs ++ l) f) a)

  pub begun_snoc : (s : Sight) (b : Hall) (k : ℕ) (rs : List (Ready P)) (ts : List (Task P)) (r : Ready P) (t : Task P) (n : ℕ) → BegunFrom s b k rs ts → n ≡ k + length rs → Begun s b n r t → BegunFrom s b k (rs ++ r ∷ []) (ts ++ t ∷ [])
  begun_snoc s b k [] [] r t n h e g = let f : n ≡ k = omega arith in (subst (λ m. Begun s b m r t) f g, tt)
  begun_snoc s b k [] (u ∷ ts) r t n h e g = absurd h
  begun_snoc s b k (q ∷ rs) [] r t n h e g = absurd h
  begun_snoc s b k (q ∷ rs) (u ∷ ts) r t n h e g = (h.0, begun_snoc s b (suc k) rs ts r t n h.1 (omega (arith, e)) g)

  pub given_snoc : (ts : List (Task P)) (ss : List Sitting) (bs : List (Back P)) (t : Task P) (s : Sitting) (b : Back P) → AllGiven ts ss bs → Given t s b → AllGiven (ts ++ t ∷ []) (ss ++ s ∷ []) (bs ++ b ∷ [])
  given_snoc [] [] [] t s b h g = (g, tt)
  given_snoc [] [] (c ∷ bs) t s b h g = absurd h
  given_snoc [] (q ∷ ss) bs t s b h g = absurd h
  given_snoc (u ∷ ts) [] bs t s b h g = absurd h
  given_snoc (u ∷ ts) (q ∷ ss) [] t s b h g = absurd h
  given_snoc (u ∷ ts) (q ∷ ss) (c ∷ bs) t s b h g = (h.0, given_snoc ts ss bs t s b h.1 g)

  pub end_at : (xs : List (Task P)) (t : Task P) (ys : List (Task P)) → AllCanEnd (xs ++ t ∷ ys) → CanEnd t
  end_at [] t ys a = a.0
  end_at (x ∷ xs) t ys a = end_at xs t ys a.1

  pub end_in : (all xs rest : List (Task P)) (t : Task P) (ys : List (Task P)) → AllCanEnd all → all ≡ xs ++ rest → rest ≡ t ∷ ys → CanEnd t
  end_in all xs rest t ys a e f = end_at xs t ys (subst AllCanEnd (e ∙ ap (λ l. xs ++ l) f) a)

  length-begun : (s : Sight) (b : Hall) (k : ℕ) (rs : List (Ready P)) (ts : List (Task P)) → BegunFrom s b k rs ts → length ts ≡ length rs
  length-begun s b k [] [] h = refl
  length-begun s b k [] (t ∷ ts) h = absurd h
  length-begun s b k (r ∷ rs) [] h = absurd h
  length-begun s b k (r ∷ rs) (t ∷ ts) h = ap suc (length-begun s b (suc k) rs ts h.1)

  pub begun_many : (s : Sight) (b : Hall) (k : ℕ) (rs : List (Ready P)) (ts : List (Task P)) → BegunFrom s b k rs ts → length ts ≡ length rs
  begun_many s b k rs ts h = length-begun s b k rs ts h

  pub begun_numbers : (s : Sight) (b : Hall) (k : ℕ) (rs : List (Ready P)) (ts : List (Task P)) → BegunFrom s b k rs ts → (i : ℕ) (d : Task P) → i < length ts → (get_or ts i d).number ≡ k + i
  begun_numbers s b k [] [] h i d lt = absurd (omega (arith, lt))
  begun_numbers s b k [] (t ∷ ts) h i d lt = absurd h
  begun_numbers s b k (r ∷ rs) [] h i d lt = absurd h
  begun_numbers s b k (r ∷ rs) (t ∷ ts) h zero d lt = h.0.number ∙ omega arith
  begun_numbers s b k (r ∷ rs) (t ∷ ts) h (suc i) d lt = begun_numbers s b (suc k) rs ts h.1 i d (omega (arith, lt)) ∙ omega arith

-- a thread's own cells are there
mine_own : (own : List ℤ) (i : ℕ) → i < length own → is_gone (get_or (map Mine own) i Gone) ≡ false
mine_own [] i lt = absurd (omega (arith, lt))
mine_own (v ∷ own) zero lt = refl
mine_own (v ∷ own) (suc i) lt = mine_own own i (omega (arith, lt))

thread_long : (s : Sight) (l : Strip) (m : Store) → length (thread_sight s l m).cells ≡ length s.cells + length m.values
thread_long s l m =
    length-append (table (length s.cells) (λ x. mine_or (cell l x) (shown (get_or s.cells x Gone)))) (map Mine m.values)
    ∙ omega (arith, length-table (length s.cells) (λ x. mine_or (cell l x) (shown (get_or s.cells x Gone))), length-map m.values Mine)

pub thread_lower : (s : Sight) (l : Strip) (m : Store) → lower_length (thread_sight s l m) ≡ length s.cells
thread_lower s l m = omega (arith, thread_long s l m)

pub thread_there : (s : Sight) (l : Strip) (m : Store) → OwnThere (thread_sight s l m)
thread_there s l m x le lt =
    let n = thread_long s l m in let b = thread_lower s l m in
    ap is_gone (get_or-append_right (table (length s.cells) (λ x. mine_or (cell l x) (shown (get_or s.cells x Gone)))) (map Mine m.values) (length s.cells) x Gone (length-table (length s.cells) (λ x. mine_or (cell l x) (shown (get_or s.cells x Gone)))) (omega arith))
    ∙ mine_own m.values (x - length s.cells) (omega arith)

module _ {P : Type 0} (runs : Runs P) where
  begun_is_ready : (s : Sight) (b : Hall) (k : ℕ) (r : Ready P) (t : Task P) → Begun s b k r t → Fine (runs r.path None (begun s r)).end → IsReady runs t
  begun_is_ready s b k r t g f = record {
    state = g.state;
    there = subst OwnThere (sym g.view) (thread_there s r.lent r.own);
    fine = subst (λ p. Fine (runs p None t.view.cells).end) (sym g.path) (subst (λ v. Fine (runs r.path None v.cells).end) (sym g.view) f);
    first = ap (λ w. w.first) g.watch;
  }

  pub begun_ready : (s : Sight) (b : Hall) (k : ℕ) (rs : List (Ready P)) (ts : List (Task P)) → BegunFrom s b k rs ts → AllFineOver runs s rs → (i : ℕ) (d : Task P) → i < length ts → IsReady runs (get_or ts i d)
  begun_ready s b k [] [] h f i d lt = absurd (omega (arith, lt))
  begun_ready s b k [] (t ∷ ts) h f i d lt = absurd h
  begun_ready s b k (r ∷ rs) [] h f i d lt = absurd h
  begun_ready s b k (r ∷ rs) (t ∷ ts) h f zero d lt = begun_is_ready s b k r t h.0 f.0
  begun_ready s b k (r ∷ rs) (t ∷ ts) h f (suc i) d lt = begun_ready s b (suc k) rs ts h.1 f.1 i d (omega (arith, lt))

  abbrev pub RanTasks : List (Task P) → List (Task P) → Type 0
  RanTasks [] [] = Unit {0}
  RanTasks [] (u ∷ us) = ⊥
  RanTasks (t ∷ ts) [] = ⊥
  RanTasks (t ∷ ts) (u ∷ us) = TaskRan runs t u × RanTasks ts us

  pub ran_tasks : (ts us : List (Task P)) → length us ≡ length ts → ((k : ℕ) (d : Task P) → k < length ts → TaskRan runs (get_or ts k d) (get_or us k d)) → RanTasks ts us
  ran_tasks [] [] e h = tt
  ran_tasks [] (u ∷ us) e h = absurd (omega (arith, e))
  ran_tasks (t ∷ ts) [] e h = absurd (omega (arith, e))
  ran_tasks (t ∷ ts) (u ∷ us) e h = (h zero t (omega arith), ran_tasks ts us (omega (arith, e)) (λ k d lt. h (suc k) d (omega (arith, lt))))

  pub can_end : (s : Sight) (b : Hall) (k : ℕ) (rs : List (Ready P)) (ts us : List (Task P)) → BegunFrom s b k rs ts → RanTasks ts us → AllCanEnd us
  can_end s b k [] [] [] h r = tt
  can_end s b k [] [] (u ∷ us) h r = absurd r
  can_end s b k [] (t ∷ ts) us h r = absurd h
  can_end s b k (q ∷ rs) [] us h r = absurd h
  can_end s b k (q ∷ rs) (t ∷ ts) [] h r = absurd r
  can_end s b k (q ∷ rs) (t ∷ ts) (u ∷ us) h r = ((r.0.place.there, (q.lent.block, r.0.place.held ∙ ap (λ v. v.held) h.0.view)), can_end s b (suc k) rs ts us h.1 r.1)

  some_is : {X : Type 0} (x y : X) → Some x ≡ Some y → x ≡ y
  some_is x y e = cc

  module _ (s : Sight) (b : Hall) (k : ℕ) (r : Ready P) (t u : Task P) (q : Sitting) (c : Back P) (g : Begun s b k r t) (h : TaskRan runs t u) (v : Given u q c) where
    back_of : BackOf (length s.cells) u.view.cells c.lent
    back_of x lt = v.3.1 x (let e = h.place.lower ∙ ap lower_length g.view ∙ thread_lower s r.lent r.own in omega (arith, e))

    ran_to : (st : State) → Did runs t u st → RanTo runs (length s.cells) (begun s r) r.path c.path c.lent st
    ran_to state.NotBegun d = (v.1 ∙ d.0 ∙ g.path, subst (λ ds. BackOf (length s.cells) ds c.lent) (d.1 ∙ ap (λ w. w.cells) g.view) back_of)
    ran_to (state.Stopped st) d = (
      u.view.cells,
      subst (λ p. Went runs p (begun s r) st c.path u.view.cells) g.path (subst (λ w. Went runs t.path w.cells st c.path u.view.cells) g.view (subst (λ p. Went runs t.path t.view.cells st p u.view.cells) (sym v.1) d.0)),
      back_of,
    )

    abbrev first : ℕ → Cell
    first x = mine_or (cell r.lent x) (shown (get_or s.cells x Gone))

    lent_kind : (o : Option ℤ) (f : Cell) → is_mine (mine_or o (shown f)) ≡ is_there o
    lent_kind (Some v) f = refl
    lent_kind None Gone = refl
    lent_kind None (Seen v) = refl
    lent_kind None (Mine v) = refl

    value_kind : (f : Cell) → is_there (lent_value f) ≡ is_mine f
    value_kind Gone = refl
    value_kind (Seen v) = refl
    value_kind (Mine v) = refl

    pub back_kinds : (x : ℕ) → x < length s.cells → is_there (cell c.lent x) ≡ is_there (cell r.lent x)
    back_kinds x lt =
        let n : lower_length t.view ≡ length s.cells = ap lower_length g.view ∙ thread_lower s r.lent r.own in
        ap is_there (back_of x lt) ∙ value_kind (cell_at u.view x) ∙ h.place.kinds x (omega (arith, n)) ∙ ap (λ w. is_mine (cell_at w x)) g.view
        ∙ ap is_mine (get_or_append_left (table (length s.cells) first) (map Mine r.own.values) Gone x (omega (arith, length-table (length s.cells) first)) ∙ at-table (length s.cells) first x lt) ∙ lent_kind (cell r.lent x) (get_or s.cells x Gone)

    pub returned : Returned runs s r c
    returned = record {
      home = some_is c.lent.block r.lent.block (sym v.3.0 ∙ h.place.held ∙ ap (λ w. w.held) g.view);
      kinds = back_kinds;
      ran = subst (λ st. RanTo runs (length s.cells) (begun s r) r.path c.path c.lent st) (sym v.2) (ran_to u.state h.did);
    }

    told : (st : State) → Did runs t u st → IsHalted st → IsTold u.watch.seen
    told state.NotBegun d w = d.2
    told (state.Stopped st) d (inl e) = cc
    told (state.Stopped st) d (inr (inl e)) = d.1 (inl (e.0, stopped_is st (stop.Paused e.0) e.1)) where
      stopped_is : (x y : Stop) → state.Stopped x ≡ state.Stopped y → x ≡ y
      stopped_is x y f = cc
    told (state.Stopped st) d (inr (inr e)) = d.1 (inr (stopped_is st stop.Gone e)) where
      stopped_is : (x y : Stop) → state.Stopped x ≡ state.Stopped y → x ≡ y
      stopped_is x y f = cc

    pub seat_tells : SeatTells b.name k c q
    seat_tells = record {
      board = v.0.0 ∙ ap (λ w. w.name) (h.board ∙ ap (λ w. w.board) g.watch);
      told = λ w. subst IsTold (sym v.0.2) (told u.state h.did (subst IsHalted v.2 w));
      first = λ n e. let f = h.first n (sym v.0.1 ∙ e) in (f.0 ∙ g.number, v.2 ∙ f.1);
    }

  pub all_back : (s : Sight) (b : Hall) (k : ℕ) (rs : List (Ready P)) (ts us : List (Task P)) (qs : List Sitting) (cs : List (Back P)) → BegunFrom s b k rs ts → RanTasks ts us → AllGiven us qs cs
      → AllReturned runs s rs cs × SeatsTell b.name k cs qs
  all_back s b k [] [] [] [] [] g h v = (tt, tt)
  all_back s b k [] [] [] [] (c ∷ cs) g h v = absurd v
  all_back s b k [] [] [] (q ∷ qs) cs g h v = absurd v
  all_back s b k [] [] (u ∷ us) qs cs g h v = absurd h
  all_back s b k [] (t ∷ ts) us qs cs g h v = absurd g
  all_back s b k (r ∷ rs) [] us qs cs g h v = absurd g
  all_back s b k (r ∷ rs) (t ∷ ts) [] qs cs g h v = absurd h
  all_back s b k (r ∷ rs) (t ∷ ts) (u ∷ us) [] cs g h v = absurd v
  all_back s b k (r ∷ rs) (t ∷ ts) (u ∷ us) (q ∷ qs) [] g h v = absurd v
  all_back s b k (r ∷ rs) (t ∷ ts) (u ∷ us) (q ∷ qs) (c ∷ cs) g h v =
      let more = all_back s b (suc k) rs ts us qs cs g.1 h.1 v.1 in ((returned s b k r t u q c g.0 h.0 v.0, more.0), (seat_tells s b k r t u q c g.0 h.0 v.0, more.1))
