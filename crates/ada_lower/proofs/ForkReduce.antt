-- Parallel reductions by operators: the fork, the accumulators combined from the left, and what is behind.
use Rattle.std.proofs.Common.{◌≡◌, ℕ, zero, suc, ◌+◌, ℤ, pos, negsuc, nat_le, List, [], ◌∷◌, ◌++◌, slice_get, Option, Some, None, Result, Ok, Err, Bool, true, false, ◌&&◌, refl, sym, ap, ap₂, ◌∙◌, subst, is_some}
use Rattle.ada_base.specs.declared.operation.Op.{Op}
use Rattle.ada_base.specs.declared.operation.Op.TheVariants as op
use Rattle.ada_base.specs.declared.reason.Reason.TheVariants as reason
use Rattle.behaviours.specs.Doings.{onto}
use Rattle.behaviours.specs.Joins.{Site, Share, deal}
use Rattle.behaviours.specs.Paths.{Leave, Exits, Returns, Raises}
use Rattle.typed_tree.specs.declared.scalars.Class.{Class}
use Rattle.ada_meaning.specs.Values
use Rattle.ada_meaning.specs.Values.{base_of}
use Rattle.ada_meaning.specs.Operations.{Operations, operate}
use Rattle.ada_meaning.specs.Stored as stored
use Rattle.ada_meaning.specs.Stored.{Stored, Cause, OutOfTurns, NoRoom, CutOff, Misnoted}
use Rattle.ada_meaning.specs.Meaning
use Rattle.ada_meaning.specs.Meaning.{most_iterations, Env, most_threads}
use Rattle.stack_code.specs.declared.code.Code.{Code}
use Rattle.stack_code.specs.declared.code.CodeSite.{CodeSite}
use Rattle.stack_code.specs.declared.instr.Instr.TheVariants as i
use Rattle.stack_code.specs.declared.path.Asked.{Asked}
use Rattle.stack_code.specs.declared.path.Gave.{Gave}
use Rattle.stack_code.specs.declared.path.Gave.TheVariants as gave
use Rattle.stack_code.specs.declared.path.Leave.TheVariants as leave
use Rattle.stack_code.specs.Deeds
use Rattle.stack_code.specs.Deeds.{can_fork, asked, many}
use Rattle.ada_lower.specs.Driven
use Rattle.ada_lower.specs.Driven.{Dyn, Fixed, Step, on, thrown, sizes_for, answer_of, fork_end, state_of, op_applied, onto_by, combined_by, At}
use Rattle.ada_lower.specs.Fits.{Ghost, Ends, left_by, Land, Lands, Asks, Knows}
use Rattle.ada_lower.proofs.Forks.{ThreadDoes}
use Rattle.ada_lower.proofs.Framework.{any, To, comes_here, comes_on, comes_goes, does_bind, asks_split, leads_on}
use Rattle.ada_lower.proofs.Parts.{applied_made, Runs, made, outcome, operate_is, bit_same, truth_same}
use Rattle.ada_lower.proofs.ForkSteps.{keeping, fork_ends, MayEnd, operands, comes_too_many, comes_left, resumes, fork_lands}
use Rattle.ada_lower.proofs.ForkInside.{nested_in, left_as_kept, left_as_nested, does_unless, comes_unnest}
use Rattle.ada_lower.proofs.ForkFor.{Every, all_do, every_among}
use Rattle.ada_lower.proofs.ForkFine.{Lends, views_of}
use Rattle.ada_lower.proofs.ForkViews.{view_ghost, Apart}
use Rattle.ada_lower.specs.Sights.{Sight}

-- ---- accumulators combined from the left

abbrev after_op : Option ℤ → (ℤ → Option ℤ) → Option ℤ
after_op None k = None
after_op (Some v) k = k v

-- a number, or none where Constraint_Error is raised
abbrev onto_result : Op → Class → ℤ → List ℤ → Option ℤ
onto_result o class a [] = Some a
onto_result o class a (b ∷ bs) = after_op (made o class a b) (λ v. onto_result o class v bs)

abbrev combined_result : Op → Class → ℤ → List ℤ → Option ℤ
combined_result o class initial [] = Some initial
combined_result o class initial (a ∷ more) = onto_result o class a more

onto_is : (o : Op) (token : ℕ) (class : Class) (bs : List ℤ) (a : ℤ) (s : stored.State) → (onto stored.doings a bs (operate stored.doings stored.checks o token class)).does s ≡ stored.at s (outcome (onto_result o class a bs))
unfolding stored.bind stored.ret
onto_is o token class [] a s = refl
onto_is o token class (b ∷ bs) a s =
    ap (λ r. stored.next r.state r.end (λ v. onto stored.doings v bs (operate stored.doings stored.checks o token class))) (operate_is o token class a b s) ∙ go (made o class a b) (λ v. onto_is o token class bs v s)
  where
    go : (z : Option ℤ) → ((v : ℤ) → (onto stored.doings v bs (operate stored.doings stored.checks o token class)).does s ≡ stored.at s (outcome (onto_result o class v bs)))
        → (let r = stored.at s (outcome z) in stored.next r.state r.end (λ v. onto stored.doings v bs (operate stored.doings stored.checks o token class))) ≡ stored.at s (outcome (after_op z (λ v. onto_result o class v bs)))
    go None ih = refl
    go (Some v) ih = ih v

-- the answer of the construct's caller
abbrev gave_so : Option ℤ → Gave
gave_so (Some v) = gave.Numbers (v ∷ [])
gave_so None = gave.Left (leave.Raise reason.ConstraintError)

onto_gave : (c : Code) (o : Op) (class : Class) (bs : List ℤ) (a : ℤ) → onto_by c (record { op = o; base = base_of class }) a bs ≡ gave_so (onto_result o class a bs)
onto_gave c o class [] a = refl
onto_gave c o class (b ∷ bs) a = ap (λ z. Driven.raised_or c z (λ v. onto_by c (record { op = o; base = base_of class }) v bs)) (applied_made c o class a b) ∙ go (made o class a b) (λ v. onto_gave c o class bs v)
  where
    go : (z : Option ℤ) → ((v : ℤ) → onto_by c (record { op = o; base = base_of class }) v bs ≡ gave_so (onto_result o class v bs)) → Driven.raised_or c z (λ v. onto_by c (record { op = o; base = base_of class }) v bs) ≡ gave_so (after_op z (λ v. onto_result o class v bs))
    go None ih = refl
    go (Some v) ih = ih v

combined_gave : (c : Code) (o : Op) (class : Class) (initial : ℤ) (vs : List ℤ) → combined_by c (Some (record { op = o; base = base_of class })) initial vs ≡ gave_so (combined_result o class initial vs)
combined_gave c o class initial [] = refl
combined_gave c o class initial (a ∷ more) = onto_gave c o class more a

-- only raises leave a reduction
abbrev pub OnlyRaises : Leave → Type 0
OnlyRaises (Raises r) = Unit {0}
OnlyRaises (Exits n) = ⊥
OnlyRaises (Returns v) = ⊥

-- ---- from the fork to the result

module _ (limit : ℕ) (cuts : ℕ → ℕ → List ℕ) (c : Code) (f : Fixed) (x : Ends) (h : Ghost) (kept : f.kept ≡ []) (qf past : ℕ) (st : List ℤ)
    (jump : At c (qf + 1) (i.Jump past) x.entry) (unnest : At c past i.Unnest x.entry) (cs : CodeSite) (site : ℕ) (first last chunk last_chunk initial : ℤ)
    (site_at : slice_get c.sites site ≡ Some cs) (fork : At c qf (i.Fork site) x.entry) (o : Op) (token : ℕ) (class : Class) where
  abbrev fi : Fixed
  fi = nested_in f

  abbrev q : Asked
  q = asked site first last chunk last_chunk initial

  abbrev from_fork : Dyn → Step
  from_fork d = on fi qf (operands limit c fi first last chunk last_chunk initial st) d

  abbrev to_end : ℤ → Dyn → Step
  to_end v d = on f (past + 1) (v ∷ st) d

  abbrev answered : List ℤ → Dyn → Step
  answered vs d = fork_end c (Ok (answer_of c cs.kind q (gave.Numbers vs))) d (state_of fi qf st [] None d)

  abbrev result : List ℤ → Stored ℤ
  result vs = stored.combined limit cuts initial vs (operate stored.doings stored.checks o token class)

  module _ (folded : (vs : List ℤ) → answer_of c cs.kind q (gave.Numbers vs) ≡ combined_by c (Some (record { op = o; base = base_of class })) initial vs)
      (some : nat_le 1 (many chunk last_chunk) ≡ true) (few_threads : nat_le (many chunk last_chunk) most_threads ≡ true)
      (team : Site) (body : Share → Stored ℤ) (ok : Share → Type 0) (threads : (j : Share) → ok j → ThreadDoes limit c OnlyRaises h fi cs q (λ a. Some a) j (body j))
      {sh : Sight} {eh : Env} (knows : Knows limit cuts h fi sh eh) (lends : Lends fi h cs q team (deal 0 0 (sizes_for h.plan cs.kind q)))
      (seen : (owner : ℕ → Option ℕ) → Apart h owner → (j : Share) → ok j → ThreadDoes limit c OnlyRaises (view_ghost owner j.number h) fi cs q (λ a. Some a) j (body j)) where
    result_is : (vs : List ℤ) (s : stored.State) → (result vs).does s ≡ stored.at s (outcome (combined_result o class initial vs))
    unfolding stored.ret
    result_is [] s = refl
    result_is (a ∷ more) s = onto_is o token class more a s

    abbrev Ended : stored.State → Dyn → stored.State → Result ℤ Cause → Type 0
    Ended s d t e = Lands limit c f x any h (from_fork d) s.turns to_end t e

    -- the result is on the stack, or Constraint_Error is raised
    ends : (s : stored.State) (d : Dyn) (t : stored.State) (vs : List ℤ) → Land limit c (is_some f.asked) h (from_fork d) s.turns t (answered vs) → (e : Option ℤ) → combined_result o class initial vs ≡ e → Ended s d t (outcome e)
    ends s d t vs l (Some v) is = (
      tt,
      record {
        dyn = l.dyn;
        fit = l.fit;
        grows = l.grows;
        comes = leads_on limit c l.comes
            (subst (λ y. To limit c (fork_end c (Ok y) l.dyn (state_of fi qf st [] None l.dyn)) (to_end v l.dyn)) (sym (folded vs ∙ combined_gave c o class initial vs ∙ ap gave_so is))
            (subst (λ y. To limit c y (to_end v l.dyn)) (sym (resumes limit c fi st (gave.Numbers (v ∷ [])) l.dyn l.dyn fork))
            (comes_on limit c (comes_goes limit c (keeping [] fi) (v ∷ st) past (v ∷ st) l.dyn jump refl) (comes_unnest limit c f x (v ∷ st) l.dyn kept unnest))) _);
      },
    )
    ends s d t vs l None is = record {
      dyn = l.dyn;
      fit = l.fit;
      grows = l.grows;
      comes = leads_on limit c l.comes
          (subst (λ y. To limit c (fork_end c (Ok y) l.dyn (state_of fi qf st [] None l.dyn)) (thrown reason.ConstraintError x.entry f l.dyn)) (sym (folded vs ∙ combined_gave c o class initial vs ∙ ap gave_so is))
          (comes_on limit c (comes_left limit c fi st (Raises reason.ConstraintError) l.dyn l.dyn fork) (left_as_kept limit c f x [] kept (Raises reason.ConstraintError) l.dyn)) _);
    }

    folds : (b vs : List ℤ) (a : ℤ) → b ≡ vs → stored.after_all b a ≡ vs ++ (a ∷ [])
    folds b vs a e = ap (λ b. b ++ (a ∷ [])) e

    answers : (b vs : List ℤ) (d0 d : Dyn) → b ≡ vs → To limit c (fork_end c (Ok (answer_of c cs.kind q (gave.Numbers vs))) d (state_of fi qf st [] None d0)) (answered b d)
    answers b vs d0 d e = subst (λ z. To limit c (fork_end c (Ok (answer_of c cs.kind q (gave.Numbers vs))) d (state_of fi qf st [] None d0)) (answered z d)) (sym e) (comes_here limit c (answered vs d))

    module _ (js : List Share) (dealt : js ≡ deal 0 0 (sizes_for h.plan cs.kind q)) (oks : Every ok (deal 0 0 (sizes_for h.plan cs.kind q))) where
      abbrev whole : Stored ℤ
      whole = stored.bind (stored.noted_team team stored.after_all [] js body) result

      combined_does : can_fork (many first last) (many chunk last_chunk) ≡ true → Runs limit c f x h any whole from_fork to_end
      unfolding stored.bind
      combined_does can = record {
        by = λ s d w al.
            let (a1, a2) = asks_split limit c f x h ((stored.noted_team team stored.after_all [] js body).touches s) _ ((stored.noted_team team stored.after_all [] js body).visits s) _ al in
            let r = (stored.noted_team team stored.after_all [] js body).does s in
            after s d r.state r.end (subst (λ z. let r = (stored.noted_team team stored.after_all [] z body).does s in Lands limit c (keeping [] fi) (fork_ends fi qf st x.entry) any h (from_fork d) s.turns answered r.state r.end × MayEnd OnlyRaises r.end) (sym dealt)
            (fork_lands limit c fi h cs site first last chunk last_chunk initial OnlyRaises {A = ℤ} (λ a. Some a) {B = List ℤ} (λ b vs. b ≡ vs) stored.after_all folds team body
            st answered fork site_at can answers d knows
            (views_of limit c fi h cs q qf st d OnlyRaises {A = ℤ} (λ a. Some a) {B = List ℤ} stored.after_all body team (deal 0 0 (sizes_for h.plan cs.kind q)) lends (λ owner apart j among. seen owner apart j (every_among ok (deal 0 0 (sizes_for h.plan cs.kind q)) j oks among)))
            (all_do limit c fi h cs q qf st d OnlyRaises {A = ℤ} (λ a. Some a) body ok threads (deal 0 0 (sizes_for h.plan cs.kind q)) oks)
            s w [] refl (subst (λ z. Asks f h ((stored.noted_team team stored.after_all [] z body).touches s) ((stored.noted_team team stored.after_all [] z body).visits s)) dealt a1)));
      }
        where
          left : (s : stored.State) (d : Dyn) (t : stored.State) (l : Leave) → OnlyRaises l → Land limit c (is_some f.asked) h (from_fork d) s.turns t (λ d. left_by (keeping [] fi) (fork_ends fi qf st x.entry) l d) → Land limit c (is_some f.asked) h (from_fork d) s.turns t (λ d. left_by f x l d)
          left s d t (Raises r) m l = record { dyn = l.dyn; fit = l.fit; grows = l.grows; comes = leads_on limit c l.comes (left_as_kept limit c f x [] kept (Raises r) l.dyn _) }
          left s d t (Exits n) m l = absurd m
          left s d t (Returns v) m l = absurd m

          after : (s : stored.State) (d : Dyn) (t : stored.State) (e : Result (List ℤ) Cause) → Lands limit c (keeping [] fi) (fork_ends fi qf st x.entry) any h (from_fork d) s.turns answered t e × MayEnd OnlyRaises e
              → (let r = stored.next t e result in Ended s d r.state r.end)
          after s d t (Ok vs) (l, m) = subst (λ r. Ended s d r.state r.end) (sym (result_is vs t)) (ends s d t vs l.1 (combined_result o class initial vs) refl)
          after s d t (Err (stored.Left w)) (l, m) = left s d t w m l
          after s d t (Err OutOfTurns) (l, m) = l
          after s d t (Err CutOff) (l, m) = l
          after s d t (Err NoRoom) l = tt
          after s d t (Err Misnoted) (l, m) = l

      abbrev oper : Operations {1}
      oper = stored.noted_operations limit cuts

      -- with the test of their count
      pub reduced_does : Runs limit c f x h any (stored.bind (Meaning.unless oper (nat_le (many first last) most_iterations) reason.StorageError) (λ _. whole)) from_fork to_end
      reduced_does = does_bind limit c f x
          (does_unless limit c f x {to = from_fork} cuts (nat_le (many first last) most_iterations) reason.StorageError (λ e d. comes_here limit c (from_fork d))
          (λ e d. comes_on limit c (comes_too_many limit c fi first last chunk last_chunk initial st d fork (ap (λ t. t && (nat_le 1 (many chunk last_chunk) && nat_le (many chunk last_chunk) most_threads)) e)) (left_as_nested limit c f x (Raises reason.StorageError) d)))
          (λ u e. combined_does (ap (λ t. t && (nat_le 1 (many chunk last_chunk) && nat_le (many chunk last_chunk) most_threads)) e ∙ ap₂ (λ t u. t && u) some few_threads))
