-- Parallel reductions by functions, up to where the accumulators wait to be combined: the first is on the stack, and the
-- others are kept.
use Rattle.std.proofs.Common.{arith, ◌-◌, ◌≡◌, ℕ, ◌+◌, ℤ, nat_le, List, [], ◌∷◌, ◌++◌, slice_get, Option, Some, None, Result, Ok, Err, true, ◌&&◌, refl, sym, ap, ap₂, ◌∙◌, subst, is_some}
use Rattle.ada_base.specs.declared.reason.Reason.TheVariants as reason
use Rattle.behaviours.specs.Doings.{onto}
use Rattle.behaviours.specs.Joins.{Site, Share, deal}
use Rattle.behaviours.specs.Paths.{Leave, Exits, Returns, Raises}
use Rattle.ada_meaning.specs.Operations.{Operations}
use Rattle.ada_meaning.specs.Stored as stored
use Rattle.ada_meaning.specs.Stored.{Stored, Cause, OutOfTurns, NoRoom, CutOff, Misnoted}
use Rattle.ada_meaning.specs.Meaning
use Rattle.ada_meaning.specs.Meaning.{most_iterations, Env, most_threads}
use Rattle.stack_code.specs.declared.code.Code.{Code}
use Rattle.stack_code.specs.declared.code.CodeSite.{CodeSite}
use Rattle.stack_code.specs.declared.instr.Instr.TheVariants as i
use Rattle.stack_code.specs.declared.path.Asked.{Asked}
use Rattle.stack_code.specs.declared.path.Gave.TheVariants as gave
use Rattle.stack_code.specs.Deeds.{can_fork, asked, many}
use Rattle.ada_lower.specs.Driven.{Dyn, Fixed, Step, on, sizes_for, answer_of, fork_end, state_of, combined_by, At}
use Rattle.ada_lower.specs.Fits.{Ghost, Ends, left_by, Land, Lands, Asks, Knows}
use Rattle.ada_lower.proofs.Forks.{ThreadDoes}
use Rattle.ada_lower.proofs.Framework.{comes_as, any, To, comes_here, comes_on, comes_goes, does_bind, leads_on}
use Rattle.ada_lower.proofs.Parts.{Runs}
use Rattle.ada_lower.proofs.ForkSteps.{keeping, fork_ends, MayEnd, operands, comes_too_many, resumes, fork_lands}
use Rattle.ada_lower.proofs.ForkInside.{nested_in, left_as_kept, left_as_nested, does_unless}
use Rattle.ada_lower.proofs.ForkFor.{Every, all_do, every_among}
use Rattle.ada_lower.proofs.ForkReduce.{OnlyRaises}
use Rattle.ada_lower.proofs.ForkFine.{Lends, views_of}
use Rattle.ada_lower.proofs.ForkViews.{view_ghost, Apart}
use Rattle.ada_lower.specs.Sights.{Sight}

module _ (limit : ℕ) (c : Code) (f : Fixed) where
  -- a construct ends, and its accumulators stay
  unnested_same : (vs : List ℤ) → record (keeping vs (nested_in f)) { nest = f.nest + 1 - 1; nested = f.nested + 1 - 1 } ≡ keeping vs f
  unnested_same vs =
      let a : f.nest + 1 - 1 ≡ f.nest = omega arith in
      let b : f.nested + 1 - 1 ≡ f.nested = omega arith in
      ap₂ (λ m n. record (keeping vs f) { nest = m; nested = n }) a b

  comes_unnest_kept : {q : ℕ} {e : Option ℕ} (vs st : List ℤ) (d : Dyn) → At c q i.Unnest e → To limit c (on (keeping vs (nested_in f)) q st d) (on (keeping vs f) (q + 1) st d)
  comes_unnest_kept {q} vs st d a =
      comes_on limit c (comes_as limit c (keeping vs (nested_in f)) st d a refl)
      (subst (λ y. To limit c (on (record (keeping vs (nested_in f)) { nest = f.nest + 1 - 1; nested = f.nested + 1 - 1 }) (q + 1) st d) (on y (q + 1) st d)) (unnested_same vs) (comes_here limit c _))

module _ (limit : ℕ) (cuts : ℕ → ℕ → List ℕ) (c : Code) (f : Fixed) (x : Ends) (h : Ghost) (kept : f.kept ≡ []) (qf past : ℕ) (st : List ℤ)
    (jump : At c (qf + 1) (i.Jump past) x.entry) (unnest : At c past i.Unnest x.entry) (cs : CodeSite) (site : ℕ) (first last chunk last_chunk initial : ℤ)
    (site_at : slice_get c.sites site ≡ Some cs) (fork : At c qf (i.Fork site) x.entry) where
  abbrev fi : Fixed
  fi = nested_in f

  abbrev q : Asked
  q = asked site first last chunk last_chunk initial

  abbrev from_fork : Dyn → Step
  from_fork d = on fi qf (operands limit c fi first last chunk last_chunk initial st) d

  -- behind the construct: without a thread there is the initial value
  abbrev pub with_accumulators : List ℤ → Dyn → Step
  with_accumulators [] d = on (keeping [] f) (past + 1) (initial ∷ st) d
  with_accumulators (a ∷ more) d = on (keeping more f) (past + 1) (a ∷ st) d

  module _ (given_all : (vs : List ℤ) → answer_of c cs.kind q (gave.Numbers vs) ≡ combined_by c None initial vs)
      (some : nat_le 1 (many chunk last_chunk) ≡ true) (few_threads : nat_le (many chunk last_chunk) most_threads ≡ true)
      (team : Site) (body : Share → Stored ℤ) (ok : Share → Type 0) (threads : (j : Share) → ok j → ThreadDoes limit c OnlyRaises h fi cs q (λ a. Some a) j (body j))
      {sh : Sight} {eh : Env} (knows : Knows limit cuts h fi sh eh) (lends : Lends fi h cs q team (deal 0 0 (sizes_for h.plan cs.kind q)))
      (seen : (owner : ℕ → Option ℕ) → Apart h owner → (j : Share) → ok j → ThreadDoes limit c OnlyRaises (view_ghost owner j.number h) fi cs q (λ a. Some a) j (body j)) where
    first_comes : (a : ℤ) (more : List ℤ) (d0 d : Dyn) → To limit c (fork_end c (Ok (gave.Numbers (a ∷ more))) d (state_of fi qf st [] None d0)) (on (keeping more f) (past + 1) (a ∷ st) d)
    first_comes a more d0 d =
        subst (λ y. To limit c y (on (keeping more f) (past + 1) (a ∷ st) d)) (sym (resumes limit c fi st (gave.Numbers (a ∷ more)) d0 d fork))
        (comes_on limit c (comes_goes limit c (keeping more fi) (a ∷ st) past (a ∷ st) d jump refl) (comes_unnest_kept limit c f more (a ∷ st) d unnest))

    accumulators_come : (vs : List ℤ) (d0 d : Dyn) → To limit c (fork_end c (Ok (combined_by c None initial vs)) d (state_of fi qf st [] None d0)) (with_accumulators vs d)
    accumulators_come [] d0 d = first_comes initial [] d0 d
    accumulators_come (a ∷ more) d0 d = first_comes a more d0 d

    folds : (b vs : List ℤ) (a : ℤ) → b ≡ vs → stored.after_all b a ≡ vs ++ (a ∷ [])
    folds b vs a e = ap (λ b. b ++ (a ∷ [])) e

    answers : (b vs : List ℤ) (d0 d : Dyn) → b ≡ vs → To limit c (fork_end c (Ok (answer_of c cs.kind q (gave.Numbers vs))) d (state_of fi qf st [] None d0)) (with_accumulators b d)
    answers b vs d0 d e = subst (λ y. To limit c (fork_end c (Ok y) d (state_of fi qf st [] None d0)) (with_accumulators b d)) (sym (given_all vs))
        (subst (λ z. To limit c (fork_end c (Ok (combined_by c None initial vs)) d (state_of fi qf st [] None d0)) (with_accumulators z d)) (sym e) (accumulators_come vs d0 d))

    module _ (js : List Share) (dealt : js ≡ deal 0 0 (sizes_for h.plan cs.kind q)) (oks : Every ok (deal 0 0 (sizes_for h.plan cs.kind q))) where
      team_does : can_fork (many first last) (many chunk last_chunk) ≡ true → Runs limit c f x h any (stored.noted_team team stored.after_all [] js body) from_fork with_accumulators
      team_does can = record {
        by = λ s d w al.
            let r = (stored.noted_team team stored.after_all [] js body).does s in
            after s d r.state r.end (subst (λ z. let r = (stored.noted_team team stored.after_all [] z body).does s in Lands limit c (keeping [] fi) (fork_ends fi qf st x.entry) any h (from_fork d) s.turns with_accumulators r.state r.end × MayEnd OnlyRaises r.end) (sym dealt)
            (fork_lands limit c fi h cs site first last chunk last_chunk initial OnlyRaises {A = ℤ} (λ a. Some a) {B = List ℤ} (λ b vs. b ≡ vs) stored.after_all folds team body
            st with_accumulators fork site_at can answers d knows
            (views_of limit c fi h cs q qf st d OnlyRaises {A = ℤ} (λ a. Some a) {B = List ℤ} stored.after_all body team (deal 0 0 (sizes_for h.plan cs.kind q)) lends (λ owner apart j among. seen owner apart j (every_among ok (deal 0 0 (sizes_for h.plan cs.kind q)) j oks among)))
            (all_do limit c fi h cs q qf st d OnlyRaises {A = ℤ} (λ a. Some a) body ok threads (deal 0 0 (sizes_for h.plan cs.kind q)) oks)
            s w [] refl (subst (λ z. Asks f h ((stored.noted_team team stored.after_all [] z body).touches s) ((stored.noted_team team stored.after_all [] z body).visits s)) dealt al)));
      }
        where
          left : (s : stored.State) (d : Dyn) (t : stored.State) (l : Leave) → OnlyRaises l → Land limit c (is_some f.asked) h (from_fork d) s.turns t (λ d. left_by (keeping [] fi) (fork_ends fi qf st x.entry) l d) → Land limit c (is_some f.asked) h (from_fork d) s.turns t (λ d. left_by f x l d)
          left s d t (Raises r) m l = record { dyn = l.dyn; fit = l.fit; grows = l.grows; comes = leads_on limit c l.comes (left_as_kept limit c f x [] kept (Raises r) l.dyn _) }
          left s d t (Exits n) m l = absurd m
          left s d t (Returns v) m l = absurd m

          after : (s : stored.State) (d : Dyn) (t : stored.State) (e : Result (List ℤ) Cause) → Lands limit c (keeping [] fi) (fork_ends fi qf st x.entry) any h (from_fork d) s.turns with_accumulators t e × MayEnd OnlyRaises e → Lands limit c f x any h (from_fork d) s.turns with_accumulators t e
          after s d t (Ok vs) (l, m) = l
          after s d t (Err (stored.Left w)) (l, m) = left s d t w m l
          after s d t (Err OutOfTurns) (l, m) = l
          after s d t (Err CutOff) (l, m) = l
          after s d t (Err NoRoom) l = tt
          after s d t (Err Misnoted) (l, m) = l

      abbrev oper : Operations {1}
      oper = stored.noted_operations limit cuts

      -- and on, by what combines the accumulators that are kept
      pub kept_does : (combine : ℤ → ℤ → Stored ℤ) (to : ℕ) → ((a : ℤ) (more : List ℤ) → Runs limit c f x h any (onto stored.doings a more combine) (λ d. on (keeping more f) (past + 1) (a ∷ st) d) (λ v d. on f to (v ∷ st) d))
          → Runs limit c f x h any (stored.bind (Meaning.unless oper (nat_le (many first last) most_iterations) reason.StorageError) (λ _. stored.bind (stored.noted_team team stored.after_all [] js body) (λ accs. stored.combined limit cuts initial accs combine))) from_fork (λ v d. on f to (v ∷ st) d)
      kept_does combine to law = does_bind limit c f x
          (does_unless limit c f x {to = from_fork} cuts (nat_le (many first last) most_iterations) reason.StorageError (λ e d. comes_here limit c (from_fork d))
          (λ e d. comes_on limit c (comes_too_many limit c fi first last chunk last_chunk initial st d fork (ap (λ t. t && (nat_le 1 (many chunk last_chunk) && nat_le (many chunk last_chunk) most_threads)) e)) (left_as_nested limit c f x (Raises reason.StorageError) d)))
          (λ u e. does_bind limit c f x (team_does (ap (λ t. t && (nat_le 1 (many chunk last_chunk) && nat_le (many chunk last_chunk) most_threads)) e ∙ ap₂ (λ t u. t && u) some few_threads)) (λ accs _. combines accs))
        where
          combines : (accs : List ℤ) → Runs limit c f x h any (stored.combined limit cuts initial accs combine) (with_accumulators accs) (λ v d. on f to (v ∷ st) d)
          combines [] = law initial []
          combines (a ∷ more) = law a more
