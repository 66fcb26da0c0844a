-- From what came back of each thread to the construct.
use Rattle.std.proofs.Common.{◌≡◌, ◌≢◌, ℕ, zero, suc, ◌<◌, ◌⊎◌, inl, inr, ℤ, Bool, true, false, cond, List, [], ◌∷◌, length, get_or, Option, Some, None, arith, refl, sym, ◌∙◌, ap, subst}
use Rattle.cell_strip.specs.declared.region.Region.{Region}
use Rattle.cell_strip.specs.Regions.{covered}
use Rattle.cell_strip.specs.Strips.{Block, Strip, cell, is_there}
use Rattle.ada_base.specs.Cells.{Cell, Gone, Seen, Mine}
use Rattle.cell_memory.specs.Sight.{Sight, cell_at, is_gone, is_mine, mine_or, OwnThere, lent_value}
use Rattle.cell_memory.proofs.Views.{length-table, at-table}
use Rattle.ada_workers.specs.Paths.{Ending, AtEnd, Left, Spent, Runs, Fine, Frames}
use Rattle.ada_base.specs.Notes.{ThreadNote, Whole}
use Rattle.ada_workers.specs.Orders.{by_note, view_of, lent_of, out_of, all_out, memory_after, ends_of}
use Rattle.ada_workers.specs.Tasks.{BackOf, RanTo, AllReturned, IsHalted}
use Rattle.ada_workers.specs.Joins.{start_of, starts_of, regions_of, LentTo, put_back_of, puts_back, over_of, overs_of, note_of, notes_of, Chose, Tells, Reports, Fits, Joined, EndedSo, with_cells, Stays, JobsRan, BacksHome}
use Rattle.ada_workers.specs.declared.path.Stop.{Stop}
use Rattle.ada_workers.specs.declared.path.Stop.TheVariants as stop
use Rattle.ada_workers.specs.declared.tasks.State.{State}
use Rattle.ada_workers.specs.declared.tasks.State.TheVariants as state
use Rattle.ada_workers.specs.declared.tasks.Ready.{Ready}
use Rattle.ada_workers.specs.declared.tasks.Back.{Back}
use Rattle.ada_workers.specs.declared.construct.Job.{Job}
use Rattle.ada_workers.specs.declared.construct.Over.{Over}
use Rattle.ada_workers.proofs.Lending.{same_view, length-all_out, length-puts, lent_home, backs_home, length-lent, length-returned}
use Rattle.ada_workers.proofs.Joining.{Strand, starts, notes, puts, AllNone, OneHas, Stands, Free, Later, AllRan, view_ends, joins}

-- ---- what is lent first
abbrev pub Lents : {P : Type 0} → List Cell → List (Strand P) → List (List Region) → Type 0
Lents cs [] [] = Unit {0}
Lents cs [] (rs ∷ rss) = ⊥
Lents cs (t ∷ ts) [] = ⊥
Lents cs (t ∷ ts) (rs ∷ rss) = ((x : ℕ) → t.given x ≡ lent_of cs rs x) × Lents (out_of cs rs) ts rss

out_at : (cs : List Cell) (rs : List Region) (x : ℕ) → x < length cs → get_or (out_of cs rs) x Gone ≡ cond (covered rs x) Gone (get_or cs x Gone)
out_at cs rs x lt = at-table (length cs) (λ x. cond (covered rs x) Gone (get_or cs x Gone)) x lt

gone_lent : (y : Bool) → cond y (lent_value Gone) None ≡ None
gone_lent true = refl
gone_lent false = refl

gone_out : (y : Bool) → cond y Gone Gone ≡ Gone
gone_out true = refl
gone_out false = refl

mine_value : (c : Cell) → is_mine c ≡ true → (v : ℤ) × (c ≡ Mine v)
mine_value Gone e = cc
mine_value (Seen v) e = cc
mine_value (Mine v) e = (v, refl)

module _ {P : Type 0} where
  none_more : (cs : List Cell) (ts : List (Strand P)) (rss : List (List Region)) (x : ℕ) → Lents cs ts rss → x < length cs → get_or cs x Gone ≡ Gone → AllNone ts x × (get_or (all_out cs rss) x Gone ≡ Gone)
  none_more cs [] [] x h lt e = (tt, e)
  none_more cs [] (rs ∷ rss) x h lt e = absurd h
  none_more cs (t ∷ ts) [] x h lt e = absurd h
  none_more cs (t ∷ ts) (rs ∷ rss) x h lt e =
      let o : get_or (out_of cs rs) x Gone ≡ Gone = out_at cs rs x lt ∙ ap (λ c. cond (covered rs x) Gone c) e ∙ gone_out (covered rs x) in
      let more = none_more (out_of cs rs) ts rss x h.1 (omega (arith, length-table (length cs) (λ x. cond (covered rs x) Gone (get_or cs x Gone)))) o in
      ((h.0 x ∙ ap (λ c. cond (covered rs x) (lent_value c) None) e ∙ gone_lent (covered rs x), more.0), more.1)

  one_more : (cs : List Cell) (ts : List (Strand P)) (rss : List (List Region)) (x : ℕ) (v : ℤ) → Lents cs ts rss → x < length cs → get_or cs x Gone ≡ Mine v
      → (AllNone ts x × (get_or (all_out cs rss) x Gone ≡ Mine v)) ⊎ (OneHas ts x v × (get_or (all_out cs rss) x Gone ≡ Gone))
  one_more cs [] [] x v h lt e = inl (tt, e)
  one_more cs [] (rs ∷ rss) x v h lt e = absurd h
  one_more cs (t ∷ ts) [] x v h lt e = absurd h
  one_more cs (t ∷ ts) (rs ∷ rss) x v h lt e =
      let inside : x < length (out_of cs rs) = omega (arith, length-table (length cs) (λ x. cond (covered rs x) Gone (get_or cs x Gone))) in
      elim (covered rs x) as (λ y. covered rs x ≡ y → (AllNone (t ∷ ts) x × (get_or (all_out cs (rs ∷ rss)) x Gone ≡ Mine v)) ⊎ (OneHas (t ∷ ts) x v × (get_or (all_out cs (rs ∷ rss)) x Gone ≡ Gone))) [
        | true ↦ λ y.
            let more = none_more (out_of cs rs) ts rss x h.1 inside (out_at cs rs x lt ∙ ap (λ b. cond b Gone (get_or cs x Gone)) y) in
            inr (inl (h.0 x ∙ (λ i. cond (y i) (lent_value (e i)) None), more.0), more.1)
        | false ↦ λ y.
            let none : t.given x ≡ None = h.0 x ∙ (λ i. cond (y i) (lent_value (e i)) None) in
            elim (one_more (out_of cs rs) ts rss x v h.1 inside (out_at cs rs x lt ∙ ap (λ b. cond b Gone (get_or cs x Gone)) y ∙ e)) as (λ _. (AllNone (t ∷ ts) x × (get_or (all_out cs (rs ∷ rss)) x Gone ≡ Mine v)) ⊎ (OneHas (t ∷ ts) x v × (get_or (all_out cs (rs ∷ rss)) x Gone ≡ Gone))) [
              | inl m ↦ inl ((none, m.0), m.1)
              | inr m ↦ inr (inr (none, m.0), m.1)
            ]
      ] refl

  pub opening : (cs : List Cell) (ts : List (Strand P)) (rss : List (List Region)) (x : ℕ) → Lents cs ts rss → x < length cs → is_mine (get_or cs x Gone) ≡ true
      → Stands ts x (get_or (all_out cs rss) x Gone) (get_or cs x Gone) (get_or (all_out cs rss) x Gone)
  opening cs ts rss x h lt m =
      let v = mine_value (get_or cs x Gone) m in
      elim (one_more cs ts rss x v.0 h lt v.1) as (λ _. Stands ts x (get_or (all_out cs rss) x Gone) (get_or cs x Gone) (get_or (all_out cs rss) x Gone)) [
        | inl n ↦ Free v.0 n.0 n.1 v.1 n.1
        | inr n ↦ Later v.0 n.0 n.1 v.1
      ]

module _ {P : Type 0} (runs : Runs P) (frames : Frames runs) where
  -- what a note says of the run
  record Said (n : ℕ) (vs : List Cell) (p q : P) (l : Strip) (st : State) (k : ThreadNote) : Type 0 where
    pub path : q ≡ (by_note runs p k vs).path
    pub tells : Tells k (by_note runs p k vs).end st
    pub back : BackOf n (by_note runs p k vs).cells l
    pub fine : Fine (by_note runs p k vs).end

  to_end : (n : ℕ) (vs ds : List Cell) (p q : P) (l : Strip) (s : Stop) (e : Ending) → runs p None vs ≡ record { path = q; cells = ds; end = e } → BackOf n ds l → Tells Whole e (state.Stopped s) → Fine e → Said n vs p q l (state.Stopped s) Whole
  to_end n vs ds p q l s e is b t f = record {
    path = sym (ap (λ o. o.path) is);
    tells = subst (λ z. Tells Whole z (state.Stopped s)) (sym (ap (λ o. o.end) is)) t;
    back = subst (λ z. BackOf n z l) (sym (ap (λ o. o.cells) is)) b;
    fine = subst Fine (sym (ap (λ o. o.end) is)) f;
  }

  said : (n : ℕ) (vs : List Cell) (p q : P) (l : Strip) (st : State) (d : RanTo runs n vs p q l st) → st ≢ state.Stopped stop.NoMemory → Said n vs p q l st (note_of st)
  said n vs p q l state.NotBegun d ne = record { path = d.0; tells = refl; back = d.1; fine = tt }
  said n vs p q l (state.Stopped stop.Ended) d ne = to_end n vs d.0 p q l stop.Ended AtEnd d.1 d.2 refl tt
  said n vs p q l (state.Stopped stop.Gone) d ne = to_end n vs d.0 p q l stop.Gone Left d.1 d.2 refl tt
  said n vs p q l (state.Stopped stop.Spent) d ne = to_end n vs d.0 p q l stop.Spent Spent d.1 d.2 refl tt
  said n vs p q l (state.Stopped (stop.Paused looks)) d ne = record {
    path = sym (ap (λ o. o.path) d.1);
    tells = (ap (λ o. o.end) d.1, refl);
    back = subst (λ z. BackOf n z l) (sym (ap (λ o. o.cells) d.1)) d.2;
    fine = subst Fine (sym (ap (λ o. o.end) d.1)) tt;
  }
  said n vs p q l (state.Stopped stop.NoMemory) d ne = absurd (ne refl)

  abbrev pub AllSo : List (Back P) → Type 0
  AllSo [] = Unit {0}
  AllSo (b ∷ bs) = (b.state ≢ state.Stopped stop.NoMemory) × AllSo bs

  pub record Woven (cs end : List Cell) (js : List (Job P)) (bs : List (Back P)) : Type 0 where
    pub ts : List (Strand P)
    pub begin : starts ts ≡ starts_of js
    pub given : Lents cs ts (regions_of js)
    pub given_back : (gs : List Cell) → puts gs ts ≡ puts_back gs bs
    pub ran : AllRan runs frames end ts
    pub noted : notes ts ≡ notes_of (overs_of bs)
    pub reports : Reports (view_ends runs frames end ts) (notes ts) (overs_of bs)

  pub woven : (home : Block) (cs : List Cell) (s : Sight) (js : List (Job P)) (rs : List (Ready P)) (bs : List (Back P)) → LentTo home cs js rs → AllReturned runs s rs bs → AllSo bs → Woven cs s.cells js bs
  woven home cs s [] [] [] h r a = record { ts = []; begin = refl; given = tt; given_back = λ gs. refl; ran = tt; noted = refl; reports = tt }
  woven home cs s [] [] (b ∷ bs) h r a = absurd r
  woven home cs s [] (q ∷ rs) bs h r a = absurd h
  woven home cs s (j ∷ js) [] bs h r a = absurd h
  woven home cs s (j ∷ js) (q ∷ rs) [] h r a = absurd r
  woven home cs s (j ∷ js) (q ∷ rs) (b ∷ bs) h r a =
      let n = length s.cells in
      let vs = view_of s.cells (lent_of cs j.regions.items) j.own.values in
      let d : RanTo runs n vs j.path b.path b.lent b.state = subst (λ p. RanTo runs n vs p b.path b.lent b.state) h.0.path (subst (λ ws. RanTo runs n ws q.path b.path b.lent b.state) (same_view home cs s.cells j q h.0) r.0.ran) in
      let k = note_of b.state in
      let w = said n vs j.path b.path b.lent b.state d a.0 in
      let more = woven home (out_of cs j.regions.items) s js rs bs h.1 r.1 a.1 in
      let t : Strand P = record { start = start_of j; given = lent_of cs j.regions.items; note = k; back = λ x. cell b.lent x } in
      record {
        ts = t ∷ more.ts;
        begin = ap (λ l. start_of j ∷ l) more.begin;
        given = (λ x. refl, more.given);
        given_back = λ gs. more.given_back (put_back_of gs b.lent);
        ran = (record { fine = w.fine; backs = λ x lt. w.back x lt }, more.ran);
        noted = ap (λ l. k ∷ l) more.noted;
        reports = (w.path, w.tells, more.reports);
      }

  -- without a chosen thread
  not_halted : (st : State) → (IsHalted st → ⊥) → st ≢ state.Stopped stop.NoMemory → (st ≡ state.Stopped stop.Ended) ⊎ (st ≡ state.Stopped stop.Spent)
  not_halted state.NotBegun h ne = absurd (h (inl refl))
  not_halted (state.Stopped stop.Ended) h ne = inl refl
  not_halted (state.Stopped stop.Gone) h ne = absurd (h (inr (inr refl)))
  not_halted (state.Stopped stop.Spent) h ne = inr refl
  not_halted (state.Stopped (stop.Paused looks)) h ne = absurd (h (inr (inl (looks, refl))))
  not_halted (state.Stopped stop.NoMemory) h ne = absurd (ne refl)

  fits_none : (k : ℕ) (bs : List (Back P)) → Chose None k bs → AllSo bs → Fits None k (overs_of bs)
  fits_none k [] h a = tt
  fits_none k (b ∷ bs) h a = (not_halted b.state h.0 a.0, fits_none (suc k) bs h.1 a.1)

  fits_some : (t k : ℕ) (bs : List (Back P)) → Chose (Some t) k bs → Fits (Some t) k (overs_of bs)
  fits_some t k [] h = absurd h
  fits_some t k (b ∷ bs) (inl h) = inl h
  fits_some t k (b ∷ bs) (inr h) = inr (fits_some t (suc k) bs h)

  pub fits : (c : Option ℕ) (bs : List (Back P)) → Chose c 0 bs → AllSo bs → Fits c 0 (overs_of bs)
  fits None bs h a = fits_none 0 bs h a
  fits (Some t) bs h a = fits_some t 0 bs h

  pub all_so : (bs : List (Back P)) → ((k : ℕ) (d : Over P) → k < length (overs_of bs) → EndedSo (get_or (overs_of bs) k d)) → AllSo bs
  all_so [] h = tt
  all_so (b ∷ bs) h = (h zero (over_of b) (omega arith), all_so bs (λ k d lt. h (suc k) d (omega (arith, lt))))

  notes_many : (ts : List (Strand P)) → length (notes ts) ≡ length (starts ts)
  notes_many [] = refl
  notes_many (t ∷ ts) = ap suc (notes_many ts)

  -- the construct
  pub joined : (home : Block) (cs : List Cell) (s : Sight) (js : List (Job P)) (rs : List (Ready P)) (bs : List (Back P)) (c : Option ℕ) (ds : List Cell) → LentTo home cs js rs → AllReturned runs s rs bs → AllSo bs → Chose c 0 bs
      → s.cells ≡ all_out cs (regions_of js) → ((x : ℕ) → x < length cs → is_mine (get_or cs x Gone) ≡ true) → ds ≡ puts_back s.cells bs → Joined runs (starts_of js) cs c (overs_of bs) ds
  joined home cs s js rs bs c ds h r a ch e m is =
      let w = woven home cs s js rs bs h r a in
      let n : length cs ≡ length s.cells = sym (length-all_out cs (regions_of js)) ∙ ap length (sym e) in
      let j = joins runs frames s.cells w.ts cs s.cells n refl w.ran (λ x lt. subst (λ f. Stands w.ts x (get_or f x Gone) (get_or cs x Gone) (get_or f x Gone)) (sym e) (opening cs w.ts (regions_of js) x w.given (omega (arith, n)) (m x (omega (arith, n))))) in
      record {
        notes = notes w.ts;
        told = w.noted;
        many = notes_many w.ts ∙ ap length w.begin;
        memory = is ∙ sym (w.given_back s.cells) ∙ j.0 ∙ ap (λ l. memory_after runs l (notes w.ts) cs) w.begin;
        reports = subst (λ l. Reports l (notes w.ts) (overs_of bs)) (j.1 ∙ ap (λ l. ends_of runs l (notes w.ts) cs) w.begin) w.reports;
        fits = fits c bs ch a;
      }

-- ---- each cell comes back
module _ {P : Type 0} (runs : Runs P) where
  there_gone : (o : Option ℤ) (c : Cell) → is_there o ≡ true → is_gone (mine_or o c) ≡ false
  there_gone None c e = cc
  there_gone (Some v) c e = refl

  stays_gone : (o : Option ℤ) (c : Cell) → is_gone c ≡ false → is_gone (mine_or o c) ≡ false
  stays_gone None c e = e
  stays_gone (Some v) c e = refl

  kept_there : (gs : List Cell) (bs : List (Back P)) (x : ℕ) → x < length gs → is_gone (get_or gs x Gone) ≡ false → is_gone (get_or (puts_back gs bs) x Gone) ≡ false
  kept_there gs [] x lt e = e
  kept_there gs (b ∷ bs) x lt e =
      kept_there (put_back_of gs b.lent) bs x (omega (arith, length-table (length gs) (λ x. mine_or (cell b.lent x) (get_or gs x Gone))))
      (ap is_gone (at-table (length gs) (λ x. mine_or (cell b.lent x) (get_or gs x Gone)) x lt) ∙ stays_gone (cell b.lent x) (get_or gs x Gone) e)

  lent_there : (c : Cell) → is_mine c ≡ true → is_there (lent_value c) ≡ true
  lent_there Gone e = cc
  lent_there (Seen v) e = cc
  lent_there (Mine v) e = refl

  -- a cell that is there before anything is lent
  pub comes_back : (home : Block) (cs : List Cell) (s : Sight) (js : List (Job P)) (rs : List (Ready P)) (bs : List (Back P)) (gs : List Cell) (x : ℕ) → LentTo home cs js rs → AllReturned runs s rs bs → x < length cs → length cs ≡ length s.cells → length gs ≡ length s.cells
      → is_mine (get_or cs x Gone) ≡ true → (is_gone (get_or (all_out cs (regions_of js)) x Gone) ≡ false → is_gone (get_or gs x Gone) ≡ false) → is_gone (get_or (puts_back gs bs) x Gone) ≡ false
  comes_back home cs s [] [] [] gs x h r lt n g m f = f (here (get_or cs x Gone) m) where
    here : (c : Cell) → is_mine c ≡ true → is_gone c ≡ false
    here Gone e = cc
    here (Seen v) e = refl
    here (Mine v) e = refl
  comes_back home cs s [] [] (b ∷ bs) gs x h r lt n g m f = absurd r
  comes_back home cs s [] (q ∷ rs) bs gs x h r lt n g m f = absurd h
  comes_back home cs s (j ∷ js) [] bs gs x h r lt n g m f = absurd h
  comes_back home cs s (j ∷ js) (q ∷ rs) [] gs x h r lt n g m f = absurd r
  comes_back home cs s (j ∷ js) (q ∷ rs) (b ∷ bs) gs x h r lt n g m f =
      elim (covered j.regions.items x) as (λ y. covered j.regions.items x ≡ y → is_gone (get_or (puts_back (put_back_of gs b.lent) bs) x Gone) ≡ false) [
        | true ↦ λ y.
            let has : is_there (cell b.lent x) ≡ true = r.0.kinds x (omega (arith, n)) ∙ ap is_there (h.0.cells x ∙ ap (λ z. cond z (lent_value (get_or cs x Gone)) None) y) ∙ lent_there (get_or cs x Gone) m in
            kept_there (put_back_of gs b.lent) bs x (omega (arith, n, g, length-table (length gs) (λ x. mine_or (cell b.lent x) (get_or gs x Gone))))
            (ap is_gone (at-table (length gs) (λ x. mine_or (cell b.lent x) (get_or gs x Gone)) x (omega (arith, n, g))) ∙ there_gone (cell b.lent x) (get_or gs x Gone) has)
        | false ↦ λ y.
            let o : get_or (out_of cs j.regions.items) x Gone ≡ get_or cs x Gone = out_at cs j.regions.items x lt ∙ ap (λ z. cond z Gone (get_or cs x Gone)) y in
            let long = length-table (length cs) (λ x. cond (covered j.regions.items x) Gone (get_or cs x Gone)) in
            let back = length-table (length gs) (λ x. mine_or (cell b.lent x) (get_or gs x Gone)) in
            comes_back home (out_of cs j.regions.items) s js rs bs (put_back_of gs b.lent) x h.1 r.1 (omega (arith, long)) (long ∙ n) (back ∙ g) (ap is_mine o ∙ m)
            (λ e. ap is_gone (at-table (length gs) (λ x. mine_or (cell b.lent x) (get_or gs x Gone)) x (omega (arith, n, g))) ∙ stays_gone (cell b.lent x) (get_or gs x Gone) (f e))
      ] refl

-- ---- the call
module _ {P : Type 0} (runs : Runs P) (s t : Sight) (js : List (Job P)) (bs : List (Back P)) (c : Option ℕ) (lent : t ≡ with_cells s (all_out s.cells (regions_of js))) (ran : JobsRan runs s.home t s.cells js bs c) where
  pub construct_home : BacksHome t.home bs
  construct_home = subst (λ (h : Block). BacksHome h bs) (sym (ap (λ (v : Sight). v.home) lent)) (backs_home runs s.home t ran.0.0 bs (lent_home s.home s.cells js ran.0.0 ran.0.1) ran.0.2)

  pub construct_many : length bs ≡ length js
  construct_many = length-returned runs t ran.0.0 bs ran.0.2 ∙ length-lent s.home s.cells js ran.0.0 ran.0.1

  module _ (u : Sight) (main : s.held ≡ None) (there : OwnThere s) (flat : s.own ≡ length s.cells) (mine : (x : ℕ) → is_gone (cell_at s x) ≡ false → is_mine (cell_at s x) ≡ true) (back : u ≡ with_cells t (puts_back t.cells bs)) where
    all_mine : (x : ℕ) → x < length s.cells → is_mine (cell_at s x) ≡ true
    all_mine x lt = mine x (there x (omega (arith, flat)) lt)

    long : length u.cells ≡ length s.cells
    long = ap (λ (v : Sight). length v.cells) back ∙ length-puts t.cells bs ∙ ap (λ (v : Sight). length v.cells) lent ∙ length-all_out s.cells (regions_of js)

    pub construct_stays : Stays s u
    construct_stays = record {
      held = ap (λ (v : Sight). v.held) back ∙ ap (λ (v : Sight). v.held) lent;
      own = ap (λ (v : Sight). v.own) back ∙ ap (λ (v : Sight). v.own) lent;
      home = ap (λ (v : Sight). v.home) back ∙ ap (λ (v : Sight). v.home) lent;
      spare = ap (λ (v : Sight). v.spare) back ∙ ap (λ (v : Sight). v.spare) lent;
      many = long;
      there = λ x le lt.
          let n : length s.cells ≡ length t.cells = sym (ap (λ (v : Sight). length v.cells) lent ∙ length-all_out s.cells (regions_of js)) in
          ap (λ (v : Sight). is_gone (cell_at v x)) back
          ∙ comes_back runs s.home s.cells t js ran.0.0 bs t.cells x ran.0.1 ran.0.2 (omega (arith, long)) n refl (all_mine x (omega (arith, long))) (λ e. ap (λ (v : Sight). is_gone (cell_at v x)) lent ∙ e);
    }

    pub construct_joined : (frames : Frames runs) (os : List (Over P)) → os ≡ overs_of bs → ((k : ℕ) (d : Over P) → k < length os → EndedSo (get_or os k d)) → Joined runs (starts_of js) s.cells c os u.cells
    construct_joined frames os is so =
        subst (λ l. Joined runs (starts_of js) s.cells c l u.cells) (sym is)
        (joined runs frames s.home s.cells t js ran.0.0 bs c u.cells ran.0.1 ran.0.2 (all_so runs frames bs (subst (λ l. (k : ℕ) (d : Over P) → k < length l → EndedSo (get_or l k d)) is so)) ran.1
        (ap (λ (v : Sight). v.cells) lent) all_mine (ap (λ (v : Sight). v.cells) back))
