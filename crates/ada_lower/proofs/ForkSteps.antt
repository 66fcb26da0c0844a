-- The fork's instruction.
use Rattle.std.proofs.Common.{◌≡◌, ℕ, ◌+◌, ◌≤◌, ℤ, List, [], ◌∷◌, ◌++◌, length, slice_get, Option, Some, None, Result, Ok, Err, true, false, cond, refl, sym, ap, ◌∙◌, subst, is_some, true≢false}
use Rattle.behaviours.specs.Joins.{Site, Share, deal}
use Rattle.behaviours.specs.Paths as paths
use Rattle.ada_base.specs.declared.reason.Reason.TheVariants as reason
use Rattle.typed_tree.specs.Syntax.{Program}
use Rattle.ada_meaning.specs.Stored as stored
use Rattle.ada_meaning.specs.Stored.{Stored, Cause, OutOfTurns, NoRoom, CutOff, Misnoted}
use Rattle.stack_code.specs.declared.code.Code.{Code}
use Rattle.stack_code.specs.declared.code.CodeSite.{CodeSite}
use Rattle.stack_code.specs.declared.code.SiteKind.{SiteKind}
use Rattle.stack_code.specs.declared.code.SiteKind.TheVariants as kind
use Rattle.stack_code.specs.declared.instr.Instr.TheVariants as i
use Rattle.stack_code.specs.declared.path.Asked.{Asked}
use Rattle.stack_code.specs.declared.path.Gave.{Gave}
use Rattle.stack_code.specs.declared.path.Gave.TheVariants as gave
use Rattle.stack_code.specs.declared.path.Leave.{Leave}
use Rattle.stack_code.specs.declared.path.Leave.TheVariants as leave
use Rattle.stack_code.specs.Deeds.{Forks as AsksFork, Fails, can_fork, asked, many}
use Rattle.stack_code.specs.Machine.{Stop, Done, Left, Spent, Cut, Astray, left_as, done, resumed, after}
use Rattle.ada_lower.specs.Driven
use Rattle.ada_lower.specs.Driven.{Dyn, Fixed, Path, Final, Step, On, Off, Forks, Forked, off, on, at, path, state_of, goes, fork, at_site, answering, answer_of, with_answer, fork_end, fork_ended, with_dyn, sizes_for, gathered, thrown, At, driven, Finally, Comes, Fine, IsFine}
use Rattle.ada_lower.specs.Fits.{Ghost, Fit, Ends, left_by, Lands, Asks, Knows}
use Rattle.ada_lower.proofs.Forks.{machine_leave, Reaches}
use Rattle.ada_lower.proofs.Framework.{any, To, itself, comes_here, comes_as, comes_fails, comes_thrown, leads_on}
use Rattle.ada_lower.proofs.ForkFuel.{comes_fork}
use Rattle.ada_lower.proofs.ForkThreads.{AllDo, reaches_by}
use Rattle.ada_lower.proofs.ForkPar.{machine_by, team_reaches}
use Rattle.ada_lower.specs.Sights.{Sight}
use Rattle.ada_meaning.specs.Meaning.{Env}
use Rattle.ada_lower.proofs.ForkFine.{Views, is_fine}
use Rattle.ada_meaning.proofs.Cells.{some_same}

-- with those accumulators kept
abbrev pub keeping : List ℤ → Fixed → Fixed
keeping vs f = record f { kept = vs }

-- where a fork is left to
abbrev pub fork_ends : Fixed → ℕ → List ℤ → Option ℕ → Ends
fork_ends f q st e = record {
  entry = e;
  exits = λ n d. on (keeping [] f) (q + 1) (left_as (leave.Exit n) st) d;
  returns = λ v d. on (keeping [] f) (q + 1) (left_as (leave.Return v) st) d;
}

-- by what a part was left
abbrev pub MayEnd : {B : Type 0} → (paths.Leave → Type 0) → Result B Cause → Type 0
MayEnd may (Err (stored.Left l)) = may l
MayEnd may _ = Unit {0}

module _ (limit : ℕ) (c : Code) (f : Fixed) where
  -- the operands of a fork, the last one first
  abbrev pub operands : (first last chunk last_chunk initial : ℤ) → List ℤ → List ℤ
  operands first last chunk last_chunk initial st = initial ∷ last_chunk ∷ chunk ∷ last ∷ first ∷ st

  pub comes_forks : {q site : ℕ} {e : Option ℕ} (first last chunk last_chunk initial : ℤ) (st : List ℤ) (d : Dyn) → At c q (i.Fork site) e → can_fork (many first last) (many chunk last_chunk) ≡ true
      → To limit c (on f q (operands first last chunk last_chunk initial st) d) (Forks (asked site first last chunk last_chunk initial) (at f q st d))
  comes_forks {q} {site} first last chunk last_chunk initial st d a can =
      comes_as limit c f (operands first last chunk last_chunk initial st) d a
      (ap (λ b. driven limit c (done limit (cond b (AsksFork (asked site first last chunk last_chunk initial) (st ++ f.below)) (Fails reason.StorageError (st ++ f.below))) (state_of f q (operands first last chunk last_chunk initial st) [] None d)) d.world) can)

  pub comes_too_many : {q site : ℕ} {e : Option ℕ} (first last chunk last_chunk initial : ℤ) (st : List ℤ) (d : Dyn) → At c q (i.Fork site) e → can_fork (many first last) (many chunk last_chunk) ≡ false
      → To limit c (on f q (operands first last chunk last_chunk initial st) d) (thrown reason.StorageError e f d)
  comes_too_many {q} {site} first last chunk last_chunk initial st d a can =
      comes_fails limit c f (operands first last chunk last_chunk initial st) st reason.StorageError d a
      (ap (λ b. cond b (AsksFork (asked site first last chunk last_chunk initial) (st ++ f.below)) (Fails reason.StorageError (st ++ f.below))) can)

  -- where it goes on
  pub resumes : {q site : ℕ} {e : Option ℕ} (st : List ℤ) (g : Gave) (d0 d : Dyn) → At c q (i.Fork site) e
      → fork_end c (Ok g) d (state_of f q st [] None d0) ≡ On (record { state = Rattle.stack_code.specs.Machine.after_fork g (state_of (keeping [] f) q st [] None d); world = d.world })
  resumes {q} st g d0 d a = ap (λ o. On (record { state = after o g (with_dyn c d (state_of f q st [] None d0)); world = d.world })) (itself refl a)

  pub comes_left : {q site : ℕ} {e : Option ℕ} (st : List ℤ) (l : paths.Leave) (d0 d : Dyn) → At c q (i.Fork site) e
      → To limit c (fork_end c (Ok (gave.Left (machine_leave l))) d (state_of f q st [] None d0)) (left_by (keeping [] f) (fork_ends f q st e) l d)
  comes_left {q} {site} {e} st l d0 d a = subst (λ x. To limit c x (left_by (keeping [] f) (fork_ends f q st e) l d)) (sym (resumes st (gave.Left (machine_leave l)) d0 d a)) (go l)
    where
      go : (l : paths.Leave) → To limit c (On (record { state = Rattle.stack_code.specs.Machine.after_fork (gave.Left (machine_leave l)) (state_of (keeping [] f) q st [] None d); world = d.world })) (left_by (keeping [] f) (fork_ends f q st e) l d)
      go (paths.Exits n) = comes_here limit c (on (keeping [] f) (q + 1) (left_as (leave.Exit n) st) d)
      go (paths.Returns None) = comes_here limit c (on (keeping [] f) (q + 1) (left_as (leave.Return None) st) d)
      go (paths.Returns (Some v)) = comes_here limit c (on (keeping [] f) (q + 1) (left_as (leave.Return (Some v)) st) d)
      go (paths.Raises r) = comes_thrown limit c (keeping [] f) st r d a

  module _ (g : Ghost) (cs : CodeSite) (site : ℕ) (first last chunk last_chunk initial : ℤ) (may : paths.Leave → Type 0) {A : Type 0} (value : A → Option ℤ)
      {B : Type 0} (shows : B → List ℤ → Type 0) (fold : B → A → B) (folds : (b : B) (vs : List ℤ) (a : A) → shows b vs → shows (fold b a) (gathered vs (value a))) (team : Site) (body : Share → Stored A) where
    abbrev pub asks : Asked
    asks = asked site first last chunk last_chunk initial

    abbrev pub shares : List Share
    shares = deal 0 0 (sizes_for g.plan cs.kind asks)

    -- what a fork comes to, with where it goes on with the accumulators
    pub fork_lands : {q : ℕ} {e : Option ℕ} (st : List ℤ) (to : B → Dyn → Step) → At c q (i.Fork site) e → slice_get c.sites site ≡ Some cs → can_fork (many first last) (many chunk last_chunk) ≡ true
        → ((b : B) (vs : List ℤ) (d0 d : Dyn) → shows b vs → To limit c (fork_end c (Ok (answer_of c cs.kind asks (gave.Numbers vs))) d (state_of f q st [] None d0)) (to b d))
        → (d0 : Dyn) → {lim : ℕ} {planned : ℕ → ℕ → List ℕ} {sc : Sight} {env : Env} → Knows lim planned g f sc env → Views limit c f g cs asks q st d0 may value fold body team shares
        → AllDo limit c f g cs asks q st d0 may value body shares → (s : stored.State) → Fit g s d0 → (b : B) → shows b [] → Asks f g ((stored.noted_team team fold b shares body).touches s) ((stored.noted_team team fold b shares body).visits s)
        → (let r = (stored.noted_team team fold b shares body).does s in Lands limit c (keeping [] f) (fork_ends f q st e) any g (on f q (operands first last chunk last_chunk initial st) d0) s.turns to r.state r.end × MayEnd may r.end)
    fork_lands {q} {e} st to a site_at can answers d0 kn views ws s fit b sh al =
        let r = (stored.noted_team team fold b shares body).does s in
        go r.state r.end (λ room on. fine room f.asked refl on) (reaches_by may shows g (machine_by limit c f g cs asks q st d0 may value shows fold folds body d0.world.notes shares d0) whole s.turns 0 _ _ same
        (team_reaches limit c f g cs asks q st d0 may value shows fold folds body team shares ws s d0 b fit sh al))
      where
        -- before the answer is made of it
        whole : ℕ → Option Forked
        whole m = Driven.by_notes (λ x. goes limit c m x) (λ d j. Driven.thread_at c (length d0.cells) cs asks (at f q st d0) d j) (length d0.cells) d0.world.notes (deal 0 0 (sizes_for d0.world.plan cs.kind asks)) d0

        same : (m : ℕ) → 0 ≤ m → whole m ≡ machine_by limit c f g cs asks q st d0 may value shows fold folds body d0.world.notes shares d0 m
        same m le =
            ap (λ top. Driven.by_notes (λ x. goes limit c m x) (λ d j. Driven.thread_at c top cs asks (at f q st d0) d j) top d0.world.notes (deal 0 0 (sizes_for d0.world.plan cs.kind asks)) d0) fit.top
            ∙ ap (λ p. Driven.by_notes (λ x. goes limit c m x) (λ d j. Driven.thread_at c g.top cs asks (at f q st d0) d j) g.top d0.world.notes (deal 0 0 (sizes_for p cs.kind asks)) d0) fit.plan

        -- the fork is fine, where there is room
        fine : (let r = (stored.noted_team team fold b shares body).does s in (r.end ≡ Err NoRoom → ⊥) → (o : Option Program) → f.asked ≡ o → is_some o ≡ true → Fine limit c asks (at f q st d0))
        fine room None is on = absurd (true≢false (sym on))
        fine room (Some p) is on = λ other e.
            subst (λ z. IsFine limit c z asks (at f q st d0) d0.world.notes) (some_same cs other (sym site_at ∙ e))
            (is_fine limit c f g cs asks q st d0 may value fold body team shares kn views p is s fit (ap (λ plan. deal 0 0 (sizes_for plan cs.kind asks)) (sym fit.plan)) b d0.world.notes refl al.1 al.0 room)

        begins : {h : Forked} {n : ℕ} → (is_some f.asked ≡ true → Fine limit c asks (at f q st d0)) → ((m : ℕ) → n ≤ m → whole m ≡ Some h)
            → Comes limit c (is_some f.asked) (on f q (operands first last chunk last_chunk initial st) d0) (fork_end c (with_answer c (answer_of c cs.kind asks) h.how) h.dyn (state_of f q st [] None d0))
        begins {h} {n} fine is =
            leads_on limit c (comes_forks first last chunk last_chunk initial st d0 a can _)
            (comes_fork limit c n asks (at f q st d0) (record { dyn = h.dyn; how = with_answer c (answer_of c cs.kind asks) h.how }) (is_some f.asked) fine
            (λ m le. ap (λ o. at_site c o (λ x. goes limit c m x) asks (at f q st d0)) site_at ∙ ap (λ o. answering c (answer_of c cs.kind asks) o) (is m le)))

        told_left : (k : SiteKind) (l : Leave) → answer_of c k asks (gave.Left l) ≡ gave.Left l
        told_left kind.Loop l = refl
        told_left kind.ChunkLoop l = refl
        told_left (kind.Block n) l = refl
        told_left (kind.Reduction by) l = refl
        told_left (kind.ChunkReduction by) l = refl

        go : (t : stored.State) (x : Result B Cause) → ((x ≡ Err NoRoom → ⊥) → is_some f.asked ≡ true → Fine limit c asks (at f q st d0)) → Reaches may shows g whole s.turns t x
            → Lands limit c (keeping [] f) (fork_ends f q st e) any g (on f q (operands first last chunk last_chunk initial st) d0) s.turns to t x × MayEnd may x
        go t (Ok b) fine r =
            let (vs, is, sh) = r.told in (
              (
                tt,
                record {
                  dyn = r.forked.dyn;
                  fit = r.fit;
                  grows = r.grows;
                  comes = leads_on limit c (begins (fine (λ z. let y : ◌≡◌ {A = Result B Cause} (Ok b) (Err NoRoom) = z in cc)) r.is) (subst (λ h. To limit c (fork_end c (with_answer c (answer_of c cs.kind asks) h) r.forked.dyn (state_of f q st [] None d0)) (to b r.forked.dyn)) (sym is) (answers b vs d0 r.forked.dyn sh) _);
                },
              ),
              tt,
            )
        go t (Err (stored.Left l)) fine r = (
          record {
            dyn = r.forked.dyn;
            fit = r.fit;
            grows = r.grows;
            comes = leads_on limit c (begins (fine (λ z. let y : ◌≡◌ {A = Result B Cause} (Err (stored.Left l)) (Err NoRoom) = z in cc)) r.is) (subst (λ h. To limit c (fork_end c (with_answer c (answer_of c cs.kind asks) h) r.forked.dyn (state_of f q st [] None d0)) (left_by (keeping [] f) (fork_ends f q st e) l r.forked.dyn)) (sym r.told.0)
                (subst (λ y. To limit c (fork_end c (Ok y) r.forked.dyn (state_of f q st [] None d0)) (left_by (keeping [] f) (fork_ends f q st e) l r.forked.dyn)) (sym (told_left cs.kind (machine_leave l)))
                (comes_left st l d0 r.forked.dyn a)) _);
          },
          r.told.1,
        )
        go t (Err OutOfTurns) fine r = (
          record {
            dyn = r.forked.dyn;
            fit = r.fit;
            grows = r.grows;
            comes = subst (λ h. Comes limit c (is_some f.asked) (on f q (operands first last chunk last_chunk initial st) d0) (fork_end c (with_answer c (answer_of c cs.kind asks) h) r.forked.dyn (state_of f q st [] None d0))) r.told (begins (fine (λ z. let y : ◌≡◌ {A = Result B Cause} (Err OutOfTurns) (Err NoRoom) = z in cc)) r.is);
          },
          tt,
        )
        go t (Err CutOff) fine r = (
          record {
            dyn = r.forked.dyn;
            fit = r.fit;
            grows = r.grows;
            comes = subst (λ h. Comes limit c (is_some f.asked) (on f q (operands first last chunk last_chunk initial st) d0) (fork_end c (with_answer c (answer_of c cs.kind asks) h) r.forked.dyn (state_of f q st [] None d0))) r.told (begins (fine (λ z. let y : ◌≡◌ {A = Result B Cause} (Err CutOff) (Err NoRoom) = z in cc)) r.is);
          },
          tt,
        )
        go t (Err NoRoom) fine r = (tt, tt)
        go t (Err Misnoted) fine (un, r) = (
          (
            un,
            record {
              dyn = r.forked.dyn;
              fit = r.fit;
              grows = r.grows;
              comes = subst (λ h. Comes limit c (is_some f.asked) (on f q (operands first last chunk last_chunk initial st) d0) (fork_end c (with_answer c (answer_of c cs.kind asks) h) r.forked.dyn (state_of f q st [] None d0))) r.told (begins (fine (λ z. let y : ◌≡◌ {A = Result B Cause} (Err Misnoted) (Err NoRoom) = z in cc)) r.is);
            },
          ),
          tt,
        )
