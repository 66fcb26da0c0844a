-- Threads in order: they touch no more than on views of their own, and come to what a construct may come to.
use Rattle.std.proofs.Common.{◌≡◌, ◌≢◌, ℕ, zero, suc, ◌<◌, ◌⊎◌, inl, inr, ℤ, true, false, List, [], ◌∷◌, ◌++◌, map, length, get_or, take, Option, Some, None, arith, refl, sym, ◌∙◌, ap, subst, ◌-◌, length-append}
use Rattle.std.specs.Prelude.{Result, Ok, Err, IfOk}
use Rattle.cell_strip.specs.declared.region.Region.{Region}
use Rattle.cell_strip.specs.Regions.{covered}
use Rattle.ada_base.specs.Cells.{Cell, Gone, Mine}
use Rattle.cell_memory.specs.Sight.{Sight, cell_at, is_gone, is_mine, lent_value, OwnThere}
use Rattle.ada_workers.specs.Paths.{Ending, AtEnd, Left, Spent, Cut, Stuck, Runs, Fine, Frames}
use Rattle.ada_base.specs.Notes.{ThreadNote, Whole, NotBegun}
use Rattle.ada_workers.specs.Orders.{Start, memory_after, ends_of, AllFine, view_of, lent_of, out_of, all_out}
use Rattle.ada_workers.specs.Joins.{regions_of, AllIn, Tells, Reports, Fits, note_of, notes_of, Joined}
use Rattle.ada_workers.specs.Threads.{begins_of, areas_of, AllInside, state_of, told, unbegun, Order, before, alone, ordered, FineInOrder, IsOrdered, Touching, TouchesIn}
use Rattle.ada_workers.specs.declared.path.Stop.TheVariants as stop
use Rattle.ada_workers.specs.declared.tasks.State.TheVariants as state
use Rattle.ada_workers.specs.declared.construct.Over.{Over}
use Rattle.ada_workers.specs.declared.construct.Job.{Job}
use Rattle.ada_workers.specs.declared.threads.Thread.{Thread}
use Rattle.ada_workers.specs.Iterated.{Touch, OwnMine}
use Rattle.std.proofs.lemmas.List.{length-map, get_or-append_right}
use Rattle.cell_memory.specs.Sight.{shown, mine_or, table}
use Rattle.cell_memory.proofs.Views.{length-table}
use Rattle.ada_workers.proofs.Lending.{length-all_out}
use Rattle.ada_workers.proofs.Joining.{Strand, starts, notes, Stands, Ran, AllRan, view_ends, joins, covers, cs', gs', length-cs', length-gs', next}
use Rattle.ada_workers.proofs.Weaving.{Lents, opening}

-- as many regions as threads
abbrev pub Paired : {P : Type 0} → List (Start P) → List (List Region) → Type 0
Paired [] [] = Unit {0}
Paired [] (rs ∷ rss) = ⊥
Paired (s ∷ ss) [] = ⊥
Paired (s ∷ ss) (rs ∷ rss) = Paired ss rss

pub paired : {P : Type 0} (ts : List (Thread P)) → Paired (begins_of ts) (areas_of ts)
paired [] = tt
paired (t ∷ ts) = paired ts

-- the regions lie among the first n cells
abbrev pub Within : ℕ → List (List Region) → Type 0
Within n [] = Unit {0}
Within n (rs ∷ rss) = ((x : ℕ) → covered rs x ≡ true → x < n) × Within n rss

pub in_jobs : {P : Type 0} (n : ℕ) (js : List (Job P)) → Within n (regions_of js) → AllIn n js
in_jobs n [] h = tt
in_jobs n (j ∷ js) h = (h.0, in_jobs n js h.1)

pub in_threads : {P : Type 0} (n : ℕ) (ts : List (Thread P)) → AllInside n ts → Within n (areas_of ts)
in_threads n [] h = tt
in_threads n (t ∷ ts) h = (h.0, in_threads n ts h.1)

module _ {P : Type 0} (runs : Runs P) (frames : Frames runs) where
  -- the threads, each run to its end on its view
  abbrev strands : List Cell → List Cell → List (Start P) → List (List Region) → List (Strand P)
  strands end cs [] rss = []
  strands end cs (s ∷ ss) [] = []
  strands end cs (s ∷ ss) (rs ∷ rss) =
      record { start = s; given = lent_of cs rs; note = Whole; back = λ x. lent_value (get_or (runs s.path None (view_of end (lent_of cs rs) s.own)).cells x Gone) } ∷ strands end (out_of cs rs) ss rss

  abbrev all_whole : List (Start P) → List ThreadNote
  all_whole [] = []
  all_whole (s ∷ ss) = Whole ∷ all_whole ss

  strands_start : (end cs : List Cell) (ss : List (Start P)) (rss : List (List Region)) → Paired ss rss → starts (strands end cs ss rss) ≡ ss
  strands_start end cs [] [] h = refl
  strands_start end cs [] (rs ∷ rss) h = absurd h
  strands_start end cs (s ∷ ss) [] h = absurd h
  strands_start end cs (s ∷ ss) (rs ∷ rss) h = ap (λ l. s ∷ l) (strands_start end (out_of cs rs) ss rss h)

  strands_note : (end cs : List Cell) (ss : List (Start P)) (rss : List (List Region)) → Paired ss rss → notes (strands end cs ss rss) ≡ all_whole ss
  strands_note end cs [] [] h = refl
  strands_note end cs [] (rs ∷ rss) h = absurd h
  strands_note end cs (s ∷ ss) [] h = absurd h
  strands_note end cs (s ∷ ss) (rs ∷ rss) h = ap (λ l. Whole ∷ l) (strands_note end (out_of cs rs) ss rss h)

  strands_lent : (end cs : List Cell) (ss : List (Start P)) (rss : List (List Region)) → Paired ss rss → Lents cs (strands end cs ss rss) rss
  strands_lent end cs [] [] h = tt
  strands_lent end cs [] (rs ∷ rss) h = absurd h
  strands_lent end cs (s ∷ ss) [] h = absurd h
  strands_lent end cs (s ∷ ss) (rs ∷ rss) h = (λ x. refl, strands_lent end (out_of cs rs) ss rss h)

  strands_ran : (end cs : List Cell) (ss : List (Start P)) (rss : List (List Region)) → AllFine runs end cs ss rss → AllRan runs frames end (strands end cs ss rss)
  strands_ran end cs [] rss f = tt
  strands_ran end cs (s ∷ ss) [] f = tt
  strands_ran end cs (s ∷ ss) (rs ∷ rss) f = (record { fine = f.0; backs = λ x lt. refl }, strands_ran end (out_of cs rs) ss rss f.1)

  abbrev FineEnds : List (P × Ending) → Type 0
  FineEnds [] = Unit {0}
  FineEnds (e ∷ es) = Fine e.1 × FineEnds es

  fine_ends : (end : List Cell) (ts : List (Strand P)) → AllRan runs frames end ts → FineEnds (view_ends runs frames end ts)
  fine_ends end [] r = tt
  fine_ends end (t ∷ ts) r = (r.0.fine, fine_ends end ts r.1)

  fine_order : (ss : List (Start P)) (cs : List Cell) → FineEnds (ends_of runs ss (all_whole ss) cs) → FineInOrder runs ss cs
  fine_order [] cs f = tt
  fine_order (s ∷ ss) cs f = (f.0, fine_order ss (take (length cs) (alone runs s cs).cells) f.1)

  -- in order no thread touches more than on its view
  pub fine_in_order : (cs : List Cell) (ss : List (Start P)) (rss : List (List Region)) → Paired ss rss → AllFine runs (all_out cs rss) cs ss rss → ((x : ℕ) → x < length cs → is_mine (get_or cs x Gone) ≡ true) → FineInOrder runs ss cs
  fine_in_order cs ss rss p f m =
      let end = all_out cs rss in let ts = strands end cs ss rss in let n : length end ≡ length cs = length-all_out cs rss in
      let r = strands_ran end cs ss rss f in
      let j = joins runs frames end ts cs end (sym n) refl r (λ x lt. opening cs ts rss x (strands_lent end cs ss rss p) (omega (arith, n)) (m x (omega (arith, n)))) in
      fine_order ss cs (subst FineEnds (j.1 ∙ (λ i. ends_of runs (strands_start end cs ss rss p i) (strands_note end cs ss rss p i) cs)) (fine_ends end ts r))

  -- ---- what they come to is what a construct may come to
  abbrev none_begun : List (Start P) → List ThreadNote
  none_begun [] = []
  none_begun (s ∷ ss) = NotBegun ∷ none_begun ss

  unbegun_many : (ss : List (Start P)) → length (none_begun ss) ≡ length ss
  unbegun_many [] = refl
  unbegun_many (s ∷ ss) = ap suc (unbegun_many ss)

  front : (xs ys : List Cell) → take (length xs) (xs ++ ys) ≡ xs
  front [] ys = refl
  front (x ∷ xs) ys = ap (λ l. x ∷ l) (front xs ys)

  unbegun_memory : (ss : List (Start P)) (cs : List Cell) → memory_after runs ss (none_begun ss) cs ≡ cs
  unbegun_memory [] cs = refl
  unbegun_memory (s ∷ ss) cs = ap (memory_after runs ss (none_begun ss)) (front cs (map Mine s.own)) ∙ unbegun_memory ss cs

  unbegun_notes : (ss : List (Start P)) → none_begun ss ≡ notes_of (unbegun ss)
  unbegun_notes [] = refl
  unbegun_notes (s ∷ ss) = ap (λ l. NotBegun ∷ l) (unbegun_notes ss)

  unbegun_reports : (ss : List (Start P)) (cs : List Cell) → Reports (ends_of runs ss (none_begun ss) cs) (none_begun ss) (unbegun ss)
  unbegun_reports [] cs = tt
  unbegun_reports (s ∷ ss) cs = (refl, refl, unbegun_reports ss (take (length cs) (cs ++ map Mine s.own)))

  record Sorted (ss : List (Start P)) (k : ℕ) (cs : List Cell) (o : Order P) : Type 0 where
    pub notes : List ThreadNote
    pub noted : notes ≡ notes_of o.overs
    pub many : length notes ≡ length ss
    pub memory : o.cells ≡ memory_after runs ss notes cs
    pub reports : Reports (ends_of runs ss notes cs) notes o.overs
    pub fits : Fits o.chosen k o.overs

  abbrev pick : Start P → List (Start P) → ℕ → List Cell → Ending → Order P
  pick s ss k cs Left = record { overs = told (alone runs s cs) ∷ unbegun ss; chosen = Some k; cells = take (length cs) (alone runs s cs).cells }
  pick s ss k cs AtEnd = before (told (alone runs s cs)) (ordered runs ss (suc k) (take (length cs) (alone runs s cs).cells))
  pick s ss k cs Spent = before (told (alone runs s cs)) (ordered runs ss (suc k) (take (length cs) (alone runs s cs).cells))
  pick s ss k cs Cut = before (told (alone runs s cs)) (ordered runs ss (suc k) (take (length cs) (alone runs s cs).cells))
  pick s ss k cs Stuck = before (told (alone runs s cs)) (ordered runs ss (suc k) (take (length cs) (alone runs s cs).cells))

  fits_more : (c : Option ℕ) (k : ℕ) (o : Over P) (os : List (Over P)) → (o.state ≡ state.Stopped stop.Ended) ⊎ (o.state ≡ state.Stopped stop.Spent) → Fits c (suc k) os → Fits c k (o ∷ os)
  fits_more None k o os h f = (h, f)
  fits_more (Some t) k o os h f = inr f

  picked : (s : Start P) (ss : List (Start P)) (k : ℕ) (cs : List Cell) (e : Ending) → (alone runs s cs).end ≡ e → Fine e → e ≢ Cut → Sorted ss (suc k) (take (length cs) (alone runs s cs).cells) (ordered runs ss (suc k) (take (length cs) (alone runs s cs).cells)) → Sorted (s ∷ ss) k cs (pick s ss k cs e)
  picked s ss k cs AtEnd h f u r = record {
    notes = Whole ∷ r.notes;
    noted = λ i. note_of (state_of (sym h i)) ∷ r.noted i;
    many = ap suc r.many;
    memory = r.memory;
    reports = (refl, subst (λ e. Tells Whole e (state_of e)) (sym h) refl, r.reports);
    fits = fits_more _ k _ _ (inl (ap state_of h)) r.fits;
  }
  picked s ss k cs Left h f u r =
      let ds = take (length cs) (alone runs s cs).cells in
      record {
        notes = Whole ∷ none_begun ss;
        noted = λ i. note_of (state_of (sym h i)) ∷ unbegun_notes ss i;
        many = ap suc (unbegun_many ss);
        memory = sym (unbegun_memory ss ds);
        reports = (refl, subst (λ e. Tells Whole e (state_of e)) (sym h) refl, unbegun_reports ss ds);
        fits = inl (refl, ap state_of h);
      }
  picked s ss k cs Spent h f u r = record {
    notes = Whole ∷ r.notes;
    noted = λ i. note_of (state_of (sym h i)) ∷ r.noted i;
    many = ap suc r.many;
    memory = r.memory;
    reports = (refl, subst (λ e. Tells Whole e (state_of e)) (sym h) refl, r.reports);
    fits = fits_more _ k _ _ (inr (ap state_of h)) r.fits;
  }
  picked s ss k cs Cut h f u r = absurd (u refl)
  picked s ss k cs Stuck h f u r = absurd f

  sorted : (ss : List (Start P)) (k : ℕ) (cs : List Cell) → FineInOrder runs ss cs → Sorted ss k cs (ordered runs ss k cs)
  sorted [] k cs f = record { notes = []; noted = refl; many = refl; memory = refl; reports = tt; fits = tt }
  sorted (s ∷ ss) k cs f = picked s ss k cs (alone runs s cs).end refl f.0 (frames.uncut s.path (cs ++ map Mine s.own)) (sorted ss (suc k) (take (length cs) (alone runs s cs).cells) f.1)

  pub ordered_joined : (ss : List (Start P)) (cs : List Cell) (c : Option ℕ) (os : List (Over P)) (ds : List Cell) → FineInOrder runs ss cs → IsOrdered runs ss cs c os ds → Joined runs ss cs c os ds
  ordered_joined ss cs c os ds f is =
      let r = sorted ss 0 cs f in
      record {
        notes = r.notes;
        told = r.noted ∙ sym (ap (λ (o : Order P). notes_of o.overs) is);
        many = r.many;
        memory = ap (λ (o : Order P). o.cells) is ∙ r.memory;
        reports = subst (λ (o : Order P). Reports (ends_of runs ss r.notes cs) r.notes o.overs) (sym is) r.reports;
        fits = subst (λ (o : Order P). Fits o.chosen 0 o.overs) (sym is) r.fits;
      }

pub main_mine : (s : Sight) → OwnThere s → s.own ≡ length s.cells → ((x : ℕ) → is_gone (cell_at s x) ≡ false → is_mine (cell_at s x) ≡ true) → (x : ℕ) → x < length s.cells → is_mine (get_or s.cells x Gone) ≡ true
main_mine s there flat mine x lt = mine x (there x (omega (arith, flat)) lt)

pub if_ok : {X E : Type 0} (r : Result X E) (Q R : X → Type 0) → ((x : X) → Q x → R x) → IfOk r Q → IfOk r R
if_ok (Ok x) Q R h q = h x q
if_ok (Err e) Q R h q = q

-- ---- from what threads touch in order to their views
own_kind : (own : List ℤ) (i : ℕ) → i < length own → is_mine (get_or (map Mine own) i Gone) ≡ true
own_kind [] i lt = absurd (omega (arith, lt))
own_kind (v ∷ own) zero lt = refl
own_kind (v ∷ own) (suc i) lt = own_kind own i (omega (arith, lt))

view_own : (end : List Cell) (given : ℕ → Option ℤ) (own : List ℤ) → OwnMine (length end) (view_of end given own)
view_own end given own x le lt =
    let t = length-table (length end) (λ x. mine_or (given x) (shown (get_or end x Gone))) in
    ap is_mine (get_or-append_right (table (length end) (λ x. mine_or (given x) (shown (get_or end x Gone)))) (map Mine own) (length end) x Gone t le)
    ∙ own_kind own (x - length end) (omega (arith, t, length-append (table (length end) (λ x. mine_or (given x) (shown (get_or end x Gone)))) (map Mine own), length-map own Mine))

module _ {P : Type 0} (runs : Runs P) (frames : Frames runs) (touched : P → List Cell → List Touch) (touching : Touching runs touched) where
  fine_from : (end cs : List Cell) (ss : List (Start P)) (rss : List (List Region)) (ms gs : List Cell) → length ms ≡ length end → length gs ≡ length end → FineInOrder runs ss ms → TouchesIn runs touched end cs ss rss ms
      → ((x : ℕ) → x < length end → Stands (strands runs frames end cs ss rss) x (get_or end x Gone) (get_or ms x Gone) (get_or gs x Gone)) → AllFine runs end cs ss rss
  fine_from end cs [] rss ms gs lm lg f t st = tt
  fine_from end cs (s ∷ ss) [] ms gs lm lg f t st = tt
  fine_from end cs (s ∷ ss) (rs ∷ rss) ms gs lm lg f t st =
      let given = lent_of cs rs in let ts = strands runs frames end (out_of cs rs) ss rss in
      let u : Strand P = record { start = s; given = given; note = Whole; back = λ x. lent_value (get_or (runs s.path None (view_of end given s.own)).cells x Gone) } in
      let long = length-append (table (length end) (λ x. mine_or (given x) (shown (get_or end x Gone)))) (map Mine s.own) in
      let fine : Fine (runs s.path None (view_of end given s.own)).end =
      touching (length end) s.path (view_of end given s.own) (ms ++ map Mine s.own) (omega (arith, long, length-table (length end) (λ x. mine_or (given x) (shown (get_or end x Gone)))))
      (covers runs frames end u ts ms gs lm lg st) (view_own end given s.own) f.0 t.0 in
      let r : Ran runs frames end u = record { fine = fine; backs = λ x lt. refl } in (
        fine,
        fine_from end (out_of cs rs) ss rss (cs' runs frames end u ts ms gs lm lg st r) (gs' runs frames end u ts ms gs lm lg st r) (length-cs' runs frames end u ts ms gs lm lg st r) (length-gs' runs frames end u ts ms gs lm lg st r) f.1 t.1
            (next runs frames end u ts ms gs lm lg st r),
      )

  -- threads that in order touch no more than their views would let them, are fine on their views
  pub fine_on_views : (cs : List Cell) (ss : List (Start P)) (rss : List (List Region)) → Paired ss rss → ((x : ℕ) → x < length cs → is_mine (get_or cs x Gone) ≡ true) → FineInOrder runs ss cs → TouchesIn runs touched (all_out cs rss) cs ss rss cs → AllFine runs (all_out cs rss) cs ss rss
  fine_on_views cs ss rss p m f t =
      let end = all_out cs rss in let n : length end ≡ length cs = length-all_out cs rss in
      fine_from end cs ss rss cs end (sym n) refl f t (λ x lt. opening cs (strands runs frames end cs ss rss) rss x (strands_lent runs frames end cs ss rss p) (omega (arith, n)) (m x (omega (arith, n))))
