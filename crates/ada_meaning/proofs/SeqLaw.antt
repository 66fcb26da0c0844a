-- Where the sequential run of a program is calm, the planned run comes to the same.
use Rattle.std.proofs.Common.{◌≡◌, ℕ, ℤ, List, [], ◌∷◌, ◌++◌, Option, Some, None, is_some, not, Bool, true, false, cond, ◌||◌, refl, sym, subst, ap, ◌∙◌, append_assoc, append-nil}
use Rattle.ada_base.specs.declared.operation.Op.{Op}
use Rattle.typed_tree.specs.declared.scalars.Class.{Class}
use Rattle.typed_tree.specs.declared.expressions.Reducer.{Reducer}
use Rattle.typed_tree.specs.declared.expressions.Reducer.TheVariants.{Operator, Function}
use Rattle.typed_tree.specs.Syntax.{Program}
use Rattle.behaviours.specs.Doings.{folded}
use Rattle.behaviours.specs.Paths.{Instance, End, Gives, Leaves, Spent, Stopped, Path, Scope, enter, joined}
use Rattle.behaviours.specs.Memory.{Memory}
use Rattle.behaviours.specs.Joins.{Site, Share, deal}
use Rattle.ada_meaning.specs.Values.{result, divides, overflows, is_zero, value_or_zero}
use Rattle.ada_meaning.specs.Operations.{ZeroCheck, OverflowCheck, Cut, chunk_of, Operations, operate, reduce, zero_checked, overflow_checked}
use Rattle.ada_meaning.specs.Meaning.{main}
use Rattle.ada_meaning.specs.Planned
use Rattle.ada_meaning.specs.Planned.{Planned, plain, continued, next, threads, closed, doings, ◌>>=◌}
use Rattle.ada_meaning.specs.Sequential
use Rattle.ada_meaning.specs.Sequential.{HasNoPartialOverflow, IsCalm, Folded, in_turn, construct, notes}
use Rattle.ada_meaning.specs.Nonblocking.{KeepsRule}
use Rattle.ada_meaning.proofs.Agrees.{gives_inj, gives-ne-leaves, gives-ne-spent, gives-ne-stopped}
use Rattle.ada_meaning.proofs.Ties.{Ties}
use Rattle.ada_meaning.proofs.Follows.{InScope, Start, Further, Follows, Leads, Follow, further_refl, harmless_right, calm_first, next_further, ret_follows, leaves_follows, spent_follows, look_follows, checks_follow, puts_follows, recalls_follows, keeps_follows, takes_follows, turn_follows, reads_follows, writes_follows, apart_follows, bind_follows, handles_follows, elaborates_follow}
use Rattle.ada_meaning.proofs.Folds.{adds, over, concat, AlikeGives, Took, AllOk, EachOk, ends, plan, all_took, ready_inside, joined_start, cut_turns, calm_inside, value_inside, construct_tame, turns_tame}
use Rattle.ada_meaning.proofs.Listed.{Listed, listed, stepped, folds, combined_folds}
use Rattle.ada_meaning.proofs.Induction
use Rattle.ada_meaning.proofs.Induction.{Relates}

-- operators

choose_follow : {A : Type 0} (b c : Bool) (g h : Planned A) → Follow b g g → Follow b h h → Follow b (cond c g h) (cond c g h)
choose_follow b true g h f k = f
choose_follow b false g h f k = k

operates_follow : (b : Bool) (op : Op) (at : ℕ) (class : Class) (x y : ℤ) → Follow b (operate doings Planned.checks op at class x y) (operate doings Planned.checks op at class x y)
operates_follow b op at class x y =
    let z = result op class x y in
    let last = λ (u : Unit {0}). Planned.ret (value_or_zero z) in
    let more = λ (u : Unit {0}). ◌>>=◌ (overflow_checked doings Planned.checks op at z) last in
    bind_follows b (zero_checked doings Planned.checks op at y) (zero_checked doings Planned.checks op at y) more more
    (choose_follow b (divides op) (Planned.checks ZeroCheck at (not (is_zero y))) (Planned.ret tt) (checks_follow b ZeroCheck at (not (is_zero y))) (ret_follows b tt))
    (λ u. bind_follows b (overflow_checked doings Planned.checks op at z) (overflow_checked doings Planned.checks op at z) last last
    (choose_follow b (overflows op) (Planned.checks OverflowCheck at (is_some z)) (Planned.ret tt) (checks_follow b OverflowCheck at (is_some z)) (ret_follows b tt))
    (λ v. ret_follows b (value_or_zero z)))

reduce_follows : (b : Bool) (by : Reducer) (at : ℕ) (f g : ℤ → ℤ → Planned ℤ) → ((x y : ℤ) → Follow b (f x y) (g x y)) → (x y : ℤ) → Follow b (reduce doings Planned.checks by at f x y) (reduce doings Planned.checks by at g x y)
reduce_follows b (Operator t op class) at f g r x y = operates_follow b op at class x y
reduce_follows b (Function t s a v) at f g r x y = r x y

-- loops and blocks

module _ (b : Bool) (js : List Share) (f g : ℕ → ℕ → Planned (Unit {0})) (lead : (j i : ℕ) → Follow false (f j i) (g j i)) (w : Ties) (s t : Scope Instance) (z : InScope w s t) where
  abbrev fp : ℕ → ℕ → Unit {0} → Planned (Unit {0})
  fp j i _ = f j i

  abbrev fs : ℕ → ℕ → Unit {0} → Planned (Unit {0})
  fs j i _ = g j i

  abbrev nothing : Unit {0} → Unit {0} → Unit {0}
  nothing a v = tt

  abbrev Fine : Unit {0} → Unit {0} → Type 0
  Fine a v = Unit {0}

  loop_tame : (j i : ℕ) (st : Unit {0}) (q : Path Instance) (n : Memory) → Further false q (fs j i st t q n).path
  loop_tame j i st q n = (lead j i w s t z).tame q n

  loop_step : (j i : ℕ) (st : Unit {0}) (q : Path Instance) (n : Memory) (st' : Unit {0}) → IsCalm (fs j i st t q n) → (fs j i st t q n).end ≡ Gives st' → (vs : List (Unit {0})) × Took w s t nothing nothing Fine fp fs (fp j i) q n st st' (fs j i st t q n) vs
  loop_step j i st q n st' c e = (
    [],
    record {
      took = refl;
      planned = λ p m start a ok. let h = (lead j i w s t z).lead p q m n start c in record { alike = h.alike; gives = h.end ∙ e };
    },
  )

  all_fine : (vs : List (Unit {0})) → AllOk w s t nothing nothing Fine fp fs tt vs
  all_fine [] = tt
  all_fine (v ∷ vs) = (tt, all_fine vs)

  fine : (vss : List (List (Unit {0}))) → EachOk w s t nothing nothing Fine fp fs loop_step loop_tame tt vss
  fine [] = tt
  fine (vs ∷ vss) = (all_fine vs, fine vss)

  abbrev seq_loop : Planned (Unit {0})
  seq_loop = in_turn js tt fs

  loop_follows : (p q : Path Instance) (m n : Memory) → Start b w p q m n → IsCalm (construct (Planned.within 0 seq_loop) t q n)
      → Follows b w (◌>>=◌ (Planned.par js (Planned.loop_thread f)) (λ _. Planned.ret tt) s p m) (construct (Planned.within 0 seq_loop) t q n)
  loop_follows p q m n st c =
      let v = value_inside seq_loop t q n c in
      let took = all_took w s t nothing nothing Fine fp fs loop_step loop_tame tt js tt (enter 0 q) n v.0 (calm_inside seq_loop t q n c) v.1 in
      let r = threads (λ j. plan w s t nothing nothing Fine fp fs loop_step loop_tame tt j s) p js m in
      let h = took.planned p m (ready_inside b w p q m n st) (fine took.parts) in
      subst (λ e. Follows b w (next s (closed p r) e (λ _. Planned.ret tt)) (construct (Planned.within 0 seq_loop) t q n)) (sym h.gives)
      (record {
        alike = record {
          after = joined_start b w p q m n r (seq_loop t (enter 0 q) n) st h.done;
          output = append-nil r.output ∙ h.done.output;
          early = ap (λ e. e || false) h.done.early;
        };
        end = sym v.1;
      })

  loop_leads : Leads b w s t (◌>>=◌ (Planned.par js (Planned.loop_thread f)) (λ _. Planned.ret tt)) (construct (Planned.within 0 seq_loop))
  loop_leads = record {
    lead = loop_follows;
    tame = λ q n. construct_tame b seq_loop t q n (turns_tame t fs loop_tame js tt (enter 0 q) n);
  }

-- reductions

abbrev begun : ℤ → Folded
begun initial = record { accumulator = initial; values = [] }

module _ (b : Bool) (limit : ℕ) (cuts : ℕ → ℕ → List ℕ) (js : List Share) (by : Reducer) (at : ℕ) (initial : ℤ) (f g : ℕ → ℕ → Planned (Option ℤ)) (c d c' : ℤ → ℤ → Planned ℤ)
    (lead : (j i : ℕ) → Follow false (f j i) (g j i)) (calls : (x y : ℤ) → Follow false (c x y) (d x y)) (w : Ties) (s t : Scope Instance) (z : InScope w s t) where
  abbrev fold_plan : ℕ → ℕ → ℤ → Planned ℤ
  fold_plan j i a = ◌>>=◌ (f j i) (folded doings (reduce doings Planned.checks by at c) a)

  abbrev fold_seq : ℕ → ℕ → Folded → Planned Folded
  fold_seq j i st = ◌>>=◌ (g j i) (Sequential.takes (reduce doings Planned.checks by at d) st)

  abbrev kept : Folded → ℤ → ℤ → Planned Folded
  kept st v a = Planned.ret (record { accumulator = a; values = st.values ++ (v ∷ []) })

  takes_tame : (st : Folded) (v : Option ℤ) (q : Path Instance) (n : Memory) → Further false q (Sequential.takes (reduce doings Planned.checks by at d) st v t q n).path
  takes_tame st None q n = further_refl false q
  takes_tame st (Some v) q n =
      let r = reduce doings Planned.checks by at d st.accumulator v t q n in
      next_further false t q r r.end (kept st v) ((reduce_follows false by at c d calls st.accumulator v w s t z).tame q n) (λ a. further_refl false r.path)

  fold_tame : (j i : ℕ) (st : Folded) (q : Path Instance) (n : Memory) → Further false q (fold_seq j i st t q n).path
  fold_tame j i st q n =
      next_further false t q (g j i t q n) (g j i t q n).end (Sequential.takes (reduce doings Planned.checks by at d) st) ((lead j i w s t z).tame q n) (λ v. takes_tame st v (g j i t q n).path (g j i t q n).memory)

  abbrev seq_fold : Planned Folded
  seq_fold = in_turn js (begun initial) fold_seq

  abbrev after_fold : Folded → Planned ℤ
  after_fold x = ◌>>=◌ (notes (record { by = by; initial = initial; values = x.values })) (λ _. Planned.ret x.accumulator)

  -- by a reducer of the list
  module _ (l : Listed by at initial) where
    abbrev take_up : Folded → ℤ → Folded
    take_up x v = record { accumulator = l.put x.accumulator v; values = x.values ++ (v ∷ []) }

    abbrev Ok : ℤ → ℤ → Type 0
    Ok a v = l.fits (l.put a v) ≡ true

    over_folded : (x : Folded) (vs : List ℤ) → (over take_up x vs).values ≡ x.values ++ vs
    over_folded x [] = sym (append-nil x.values)
    over_folded x (v ∷ vs) = over_folded (take_up x v) vs ∙ append_assoc x.values (v ∷ []) vs

    over_accumulator : (x : Folded) (vs : List ℤ) → (over take_up x vs).accumulator ≡ over l.put x.accumulator vs
    over_accumulator x [] = refl
    over_accumulator x (v ∷ vs) = over_accumulator (take_up x v) vs

    -- what comes of a value that the sequential run takes
    taken_gives : (st st' : Folded) (v : ℤ) (q : Path Instance) (n : Memory) → (Sequential.takes (reduce doings Planned.checks by at d) st (Some v) t q n).end ≡ Gives st'
        → (st' ≡ take_up st v) × (Sequential.takes (reduce doings Planned.checks by at d) st (Some v) t q n ≡ plain q n (Gives (take_up st v)))
    taken_gives st st' v q n =
        let a = l.put st.accumulator v in
        subst (λ r. (next t r r.end (kept st v)).end ≡ Gives st' → (st' ≡ take_up st v) × (next t r r.end (kept st v) ≡ plain q n (Gives (take_up st v))))
        (sym (l.step d st.accumulator v t q n)) (go a (l.fits a) refl)
      where
        go : (a : ℤ) (k : Bool) → a ≡ l.put st.accumulator v → (next t (plain q n (stepped k a)) (stepped k a) (kept st v)).end ≡ Gives st'
            → (st' ≡ take_up st v) × (next t (plain q n (stepped k a)) (stepped k a) (kept st v) ≡ plain q n (Gives (take_up st v)))
        go a true same e = (sym (gives_inj e) ∙ ap (λ x. record { accumulator = x; values = st.values ++ (v ∷ []) }) same, ap (λ x. plain q n (Gives (record { accumulator = x; values = st.values ++ (v ∷ []) }))) same)
        go a false same e = gives-ne-leaves (sym e)

    value_step : (j i : ℕ) (st st' : Folded) (q : Path Instance) (n : Memory) (e : End (Option ℤ)) → (g j i t q n).end ≡ e
        → IsCalm (next t (g j i t q n) e (Sequential.takes (reduce doings Planned.checks by at d) st)) → (next t (g j i t q n) e (Sequential.takes (reduce doings Planned.checks by at d) st)).end ≡ Gives st'
        → (vs : List ℤ) × Took w s t take_up l.put Ok fold_plan fold_seq (fold_plan j i) q n st st' (next t (g j i t q n) e (Sequential.takes (reduce doings Planned.checks by at d) st)) vs
    value_step j i st st' q n (Leaves x) eq k e = gives-ne-leaves (sym e)
    value_step j i st st' q n Spent eq k e = gives-ne-spent (sym e)
    value_step j i st st' q n Stopped eq k e = gives-ne-stopped (sym e)
    value_step j i st st' q n (Gives None) eq k e =
        let sv = g j i t q n in
        let cv = calm_first t sv (Gives None) (Sequential.takes (reduce doings Planned.checks by at d) st) eq k in (
          [],
          record {
            took = sym (gives_inj e);
            planned = λ p m start a ok.
                let h = (lead j i w s t z).lead p q m n start cv in
                let rv = f j i s p m in
                subst (λ x. AlikeGives w (next s rv x (folded doings (reduce doings Planned.checks by at c) a)) (continued sv (plain sv.path sv.memory (Gives st))) a) (sym (h.end ∙ eq))
                (record { alike = record { after = h.alike.after; output = ap (λ x. x ++ []) h.alike.output; early = ap (λ x. x || false) h.alike.early }; gives = refl });
          },
        )
    value_step j i st st' q n (Gives (Some v)) eq k e =
        let sv = g j i t q n in
        let cv = calm_first t sv (Gives (Some v)) (Sequential.takes (reduce doings Planned.checks by at d) st) eq k in
        let u = taken_gives st st' v sv.path sv.memory e in
        let end = plain sv.path sv.memory (Gives (take_up st v)) in
        let same : continued sv (Sequential.takes (reduce doings Planned.checks by at d) st (Some v) t sv.path sv.memory) ≡ continued sv end = ap (continued sv) u.1 in (
          v ∷ [],
          record {
            took = u.0;
            planned = λ p m start a ok.
                let h = (lead j i w s t z).lead p q m n start cv in
                let rv = f j i s p m in
                subst (λ x. AlikeGives w (fold_plan j i a s p m) x (l.put a v)) (sym same)
                (subst (λ x. AlikeGives w (next s rv x (folded doings (reduce doings Planned.checks by at c) a)) (continued sv end) (l.put a v)) (sym (h.end ∙ eq))
                (subst (λ x. AlikeGives w (continued rv x) (continued sv end) (l.put a v)) (sym (l.step c a v s rv.path rv.memory ∙ ap (λ x. plain rv.path rv.memory (stepped x (l.put a v))) ok.0))
                (record { alike = record { after = h.alike.after; output = ap (λ x. x ++ []) h.alike.output; early = ap (λ x. x || false) h.alike.early }; gives = refl })));
          },
        )

    fold_step : (j i : ℕ) (st : Folded) (q : Path Instance) (n : Memory) (st' : Folded) → IsCalm (fold_seq j i st t q n) → (fold_seq j i st t q n).end ≡ Gives st'
        → (vs : List ℤ) × Took w s t take_up l.put Ok fold_plan fold_seq (fold_plan j i) q n st st' (fold_seq j i st t q n) vs
    fold_step j i st q n st' k e = value_step j i st st' q n (g j i t q n).end refl k e

    module _ (values : List ℤ) (none : HasNoPartialOverflow by values) where
      part_ok : (a before vs rest : List ℤ) → values ≡ a ++ (before ++ (vs ++ rest)) → AllOk w s t take_up l.put Ok fold_plan fold_seq (over l.put initial before) vs
      part_ok a before [] rest e = tt
      part_ok a before (v ∷ vs) rest e =
          let e' : values ≡ a ++ ((before ++ (v ∷ [])) ++ (vs ++ rest)) = e ∙ ap (λ x. a ++ x) (sym (append_assoc before (v ∷ []) (vs ++ rest))) in
          let same : over l.put initial (before ++ (v ∷ [])) ≡ l.put (over l.put initial before) v = over_append_one initial before v in (
            ap l.fits (sym same) ∙ l.segments values none a (before ++ (v ∷ [])) (vs ++ rest) e',
            subst (λ x. AllOk w s t take_up l.put Ok fold_plan fold_seq x vs) same (part_ok a (before ++ (v ∷ [])) vs rest e'),
          )
        where
          over_append_one : (x : ℤ) (before : List ℤ) (v : ℤ) → over l.put x (before ++ (v ∷ [])) ≡ l.put (over l.put x before) v
          over_append_one x [] v = refl
          over_append_one x (y ∷ before) v = over_append_one (l.put x y) before v

      parts_ok : (a : List ℤ) (vss : List (List ℤ)) → values ≡ a ++ concat vss → EachOk w s t take_up l.put Ok fold_plan fold_seq fold_step fold_tame initial vss
      parts_ok a [] e = tt
      parts_ok a (vs ∷ vss) e = (part_ok a [] vs (concat vss) e, parts_ok (a ++ vs) vss (e ∙ sym (append_assoc a vs (concat vss))))

    same_folds : (vss : List (List ℤ)) → ends w s t take_up l.put Ok fold_plan fold_seq fold_step fold_tame initial vss ≡ folds by at initial l vss
    same_folds [] = refl
    same_folds (vs ∷ vss) = ap (λ x. over l.put initial vs ∷ x) (same_folds vss)

    listed_follows : (p q : Path Instance) (m n : Memory) → Start b w p q m n → (v : Folded) → (construct (Planned.within 0 seq_fold) t q n).end ≡ Gives v → HasNoPartialOverflow by v.values → IsCalm (construct (Planned.within 0 seq_fold) t q n)
        → Follows b w (◌>>=◌ (Planned.par js (Planned.fold_thread by at initial f c)) (λ values. Planned.combined limit cuts initial values (reduce doings Planned.checks by at c')) s p m)
        (next t (construct (Planned.within 0 seq_fold) t q n) (Gives v) after_fold)
    listed_follows p q m n st v ends_so none k =
        let took = all_took w s t take_up l.put Ok fold_plan fold_seq fold_step fold_tame initial js (begun initial) (enter 0 q) n v (calm_inside seq_fold t q n k) ends_so in
        let values : v.values ≡ concat took.parts = ap (λ (x : Folded). x.values) took.took ∙ over_folded (begun initial) (concat took.parts) in
        let r = threads (λ j. plan w s t take_up l.put Ok fold_plan fold_seq fold_step fold_tame initial j s) p js m in
        let h = took.planned p m (ready_inside b w p q m n st) (parts_ok v.values none [] took.parts values) in
        let sum : v.accumulator ≡ over l.put initial v.values = ap (λ (x : Folded). x.accumulator) took.took ∙ over_accumulator (begun initial) (concat took.parts) ∙ ap (over l.put initial) (sym values) in
        let combine = λ (values : List ℤ). Planned.combined limit cuts initial values (reduce doings Planned.checks by at c') in
        let u = next t (construct (Planned.within 0 seq_fold) t q n) (Gives v) after_fold in
        subst (λ x. Follows b w (next s (closed p r) x combine) u) (sym (h.gives ∙ ap Gives (same_folds took.parts)))
        (subst (λ x. Follows b w (continued (closed p r) x) u) (sym (combined_folds by at initial l v.values none c' limit cuts took.parts s (joined p r.path.turns) r.memory values))
        (record {
          alike = record {
            after = joined_start b w p q m n r (seq_fold t (enter 0 q) n) st h.done;
            output = ap (λ x. x ++ []) h.done.output;
            early = ap (λ x. x || false) h.done.early;
          };
          end = ap Gives (sym sum);
        }))

  fold_follows : (p q : Path Instance) (m n : Memory) → Start b w p q m n → IsCalm (◌>>=◌ (construct (Planned.within 0 seq_fold)) after_fold t q n)
      → Follows b w (◌>>=◌ (Planned.par js (Planned.fold_thread by at initial f c)) (λ values. Planned.combined limit cuts initial values (reduce doings Planned.checks by at c')) s p m)
      (◌>>=◌ (construct (Planned.within 0 seq_fold)) after_fold t q n)
  fold_follows p q m n st k =
      let u = construct (Planned.within 0 seq_fold) t q n in
      let ku = calm_first t u u.end after_fold refl k in
      let v = value_inside seq_fold t q n ku in
      let k' = subst (λ x. IsCalm (next t u x after_fold)) v.1 k in
      let good = harmless_right u.noted (record { by = by; initial = initial; values = v.0.values } ∷ []) k'.harmless in
      subst (λ x. Follows b w (◌>>=◌ (Planned.par js (Planned.fold_thread by at initial f c)) (λ values. Planned.combined limit cuts initial values (reduce doings Planned.checks by at c')) s p m) (next t u x after_fold)) (sym v.1)
      (listed_follows (listed by at initial good.0) p q m n st v.0 v.1 good.1 ku)

  fold_leads : Leads b w s t (◌>>=◌ (Planned.par js (Planned.fold_thread by at initial f c)) (λ values. Planned.combined limit cuts initial values (reduce doings Planned.checks by at c'))) (◌>>=◌ (construct (Planned.within 0 seq_fold)) after_fold)
  fold_leads = record {
    lead = fold_follows;
    tame = λ q n.
        let u = construct (Planned.within 0 seq_fold) t q n in
        next_further b t q u u.end after_fold (construct_tame b seq_fold t q n (turns_tame t fold_seq fold_tame js (begun initial) (enter 0 q) n)) (λ x. further_refl b u.path);
  }

-- all operations

module _ (limit : ℕ) (cuts : ℕ → ℕ → List ℕ) (whole : (most n : ℕ) → adds (cuts most n) ≡ n) where
  abbrev plans : Operations {0}
  plans = Planned.operations limit cuts

  abbrev seqs : Operations {0}
  seqs = Sequential.operations limit

  loops_follow : (b : Bool) (site : Site) (cut : Cut) (f g : ℕ → ℕ → Planned (Unit {0})) → ((j i : ℕ) → Follow false (f j i) (g j i)) → Follow b (plans.loops site cut f) (seqs.loops site cut g)
  loops_follow b site cut f g r =
      subst (λ x. Follow b (plans.loops site cut f) (construct (Planned.within 0 x))) (sym (cut_turns limit cuts whole cut tt (λ j i _. g j i)))
      (λ w s t z. loop_leads b (deal 0 0 (Planned.sizes_of limit cuts cut)) (λ j. f (chunk_of cut j)) (λ j. g (chunk_of cut j)) (λ j. r (chunk_of cut j)) w s t z)

  reduces_follow : (b : Bool) (site : Site) (cut : Cut) (by : Reducer) (at : ℕ) (v : ℤ) (f g : ℕ → ℕ → Planned (Option ℤ)) (c c' d d' : ℤ → ℤ → Planned ℤ) → ((j i : ℕ) → Follow false (f j i) (g j i)) → ((x y : ℤ) → Follow false (c x y) (d x y))
      → Follow b (plans.reduces site cut by at v f c c') (seqs.reduces site cut by at v g d d')
  reduces_follow b site cut by at v f g c c' d d' r u =
      subst (λ x. Follow b (plans.reduces site cut by at v f c c') (◌>>=◌ (construct (Planned.within 0 x)) (λ y. ◌>>=◌ (notes (record { by = by; initial = v; values = y.values })) (λ _. Planned.ret y.accumulator))))
      (sym (cut_turns limit cuts whole cut (begun v) (λ j i so_far. ◌>>=◌ (g j i) (Sequential.takes (reduce doings Planned.checks by at d) so_far))))
      (λ w s t z. fold_leads b limit cuts (deal 0 0 (Planned.sizes_of limit cuts cut)) by at v (λ j. f (chunk_of cut j)) (λ j. g (chunk_of cut j)) c d c' (λ j. r (chunk_of cut j)) u w s t z)

  follow : Relates {0, 0, 0} plans seqs
  follow = record {
    World = Bool;
    Open = λ b. b ≡ true;
    inner = λ b. false;
    R = λ {A} b g h. Follow b g h;
    ret = λ {A} b a. ret_follows b a;
    bind = λ {A} {B} b {m} {n} {k} {l} r s. bind_follows b m n k l r s;
    reads = reads_follows;
    writes = writes_follows;
    elaborates = λ {A} b region u x vs {m} {n} r. elaborates_follow b region u x vs m n r;
    apart = λ {A} b {m} {n} r. apart_follows b m n r;
    turn = λ b. turn_follows b limit;
    look = look_follows;
    checks = checks_follow;
    leaves = λ {A} b x. leaves_follows b x;
    spent = λ {A} b. spent_follows b;
    handles = λ {A} b {m} {n} takes {h} {g} r s. handles_follows b m n takes h g r s;
    puts = λ b allowed bytes. puts_follows b bytes;
    recalls = λ b allowed. recalls_follows b;
    keeps = λ b allowed h. keeps_follows b h;
    takes = λ b allowed. subst (λ x. Follow x Planned.takes Planned.takes) (sym allowed) takes_follows;
    loops = λ b site cut {f} {g} r. loops_follow b site cut f g r;
    reduces = λ b site cut by at v {f} {g} {c} {c'} {d} {d'} r u x. reduces_follow b site cut by at v f g c c' d d' r u;
  }

  -- where the sequential run of a program is calm, the planned run follows it
  pub program_follows : (program : Program) → KeepsRule program → Follow true (main plans limit program) (main seqs limit program)
  unfolding follow
  program_follows program keeps = Induction.main follow limit program keeps true refl
