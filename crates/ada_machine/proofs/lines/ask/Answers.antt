use Rattle.std.proofs.Common.{◌≡◌, ℕ, ℤ, List, ◌∷◌, reverse, Bool, true, false, cond, sym, ap, ◌∙◌, SFits, w64}
use Rattle.std.proofs.lemmas.Int.{to_z-of_z}
use Rattle.ada_base.specs.declared.reason.Reason.TheVariants.{StorageError}
use Rattle.stack_code.specs.Deeds.{Forks, Fails, asked, can_fork, forked, many}
use Rattle.ada_machine.proofs.lines.ask.Goals as goal

-- five operands are a fork's
module _ (site count most : ℕ) (initial last_chunk chunk last first : ℤ) (xs st : List ℤ) (e : xs ≡ initial ∷ last_chunk ∷ chunk ∷ last ∷ first ∷ st) (f : count ≡ many first last) (g : most ≡ many chunk last_chunk) where
  forked_by : (b : Bool) → can_fork count most ≡ b → forked site xs ≡ cond b (Forks (asked site first last chunk last_chunk initial) st) (Fails StorageError st)
  forked_by b h = ap (forked site) e ∙ ap (λ b. cond b (Forks (asked site first last chunk last_chunk initial) st) (Fails StorageError st)) (ap (λ n. can_fork n (many chunk last_chunk)) (sym f) ∙ ap (can_fork count) (sym g) ∙ h)

  forks_by : can_fork count most ≡ true → forked site xs ≡ Forks (record { site = site; count = count; first = first; most = most; chunk = chunk; initial = initial }) st
  forks_by h = forked_by true h
      ∙ ap (λ n. Forks (record { site = site; count = n; first = first; most = many chunk last_chunk; chunk = chunk; initial = initial }) st) (sym f)
      ∙ ap (λ n. Forks (record { site = site; count = count; first = first; most = n; chunk = chunk; initial = initial }) st) (sym g)

pub returns-then-can_fork-clause-deed : goal.returns-then-can_fork-clause-deed
returns-then-can_fork-clause-deed c =
    let fi : SFits w64 c.take-initial.result = record { sfits = c.take-initial.type_inv } in
    let fm : SFits w64 c.take-last_chunk.result = record { sfits = c.take-last_chunk.type_inv } in
    let fc : SFits w64 c.take-chunk.result = record { sfits = c.take-chunk.type_inv } in
    let fl : SFits w64 c.take-last.result = record { sfits = c.take-last.type_inv } in
    let ff : SFits w64 c.take-first.result = record { sfits = c.take-first.type_inv } in
    let i = to_z-of_z w64 c.take-initial.result fi in
    let m = to_z-of_z w64 c.take-last_chunk.result fm in
    let k = to_z-of_z w64 c.take-chunk.result fc in
    let l = to_z-of_z w64 c.take-last.result fl in
    let f = to_z-of_z w64 c.take-first.result ff in
    simp (i, k, f) (forks_by c.args.site c.many-count.result c.many-most.result c.take-initial.result c.take-last_chunk.result c.take-chunk.result c.take-last.result c.take-first.result (reverse c.args.stack.now.items) (reverse c.take-first.new.stack.items)
    (c.take-initial.ensures.top ∙ ap (λ st. c.take-initial.result ∷ st) (c.take-last_chunk.ensures.top ∙ ap (λ st. c.take-last_chunk.result ∷ st) (c.take-chunk.ensures.top ∙ ap (λ st. c.take-chunk.result ∷ st) (c.take-last.ensures.top ∙ ap (λ st. c.take-last.result ∷ st) c.take-first.ensures.top))))
    (simp (f, l) at c.many-count.ensures) (simp (k, m) at c.many-most.ensures) (sym c.can_fork.ensures ∙ c.if-can_fork.true))

pub returns-else-can_fork-clause-deed : goal.returns-else-can_fork-clause-deed
returns-else-can_fork-clause-deed c =
    let fm : SFits w64 c.take-last_chunk.result = record { sfits = c.take-last_chunk.type_inv } in
    let fc : SFits w64 c.take-chunk.result = record { sfits = c.take-chunk.type_inv } in
    let fl : SFits w64 c.take-last.result = record { sfits = c.take-last.type_inv } in
    let ff : SFits w64 c.take-first.result = record { sfits = c.take-first.type_inv } in
    let m = to_z-of_z w64 c.take-last_chunk.result fm in
    let k = to_z-of_z w64 c.take-chunk.result fc in
    let l = to_z-of_z w64 c.take-last.result fl in
    let f = to_z-of_z w64 c.take-first.result ff in
    forked_by c.args.site c.many-count.result c.many-most.result c.take-initial.result c.take-last_chunk.result c.take-chunk.result c.take-last.result c.take-first.result (reverse c.args.stack.now.items) (reverse c.take-first.new.stack.items)
    (c.take-initial.ensures.top ∙ ap (λ st. c.take-initial.result ∷ st) (c.take-last_chunk.ensures.top ∙ ap (λ st. c.take-last_chunk.result ∷ st) (c.take-chunk.ensures.top ∙ ap (λ st. c.take-chunk.result ∷ st) (c.take-last.ensures.top ∙ ap (λ st. c.take-last.result ∷ st) c.take-first.ensures.top))))
    (simp (f, l) at c.many-count.ensures) (simp (k, m) at c.many-most.ensures) false (sym c.can_fork.ensures ∙ c.if-can_fork.false)
