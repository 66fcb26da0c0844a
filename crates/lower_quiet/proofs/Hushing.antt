-- What is listed of a program is what stands in its code.
use Rattle.std.proofs.Common.{◌≡◌, ℕ, zero, suc, ◌+◌, ◌<◌, List, [], ◌∷◌, length, slice_get, Option, Some, None, Bool, true, false, true≢false, refl, sym, ap, ap₂, subst, ◌∙◌, arith}
use Rattle.std.specs.Prelude.{IsSomeAnd, ◌≤◌}
use Rattle.std.proofs.lemmas.Option.{none-some}
use Rattle.ada_meaning.proofs.Cells.{some_same}
use Rattle.typed_tree.specs.Syntax.{Program}
use Rattle.stack_code.specs.declared.code.Around.{Around as Body}
use Rattle.stack_code.specs.declared.code.Code.{Code}
use Rattle.stack_code.specs.declared.code.CodeSite.{CodeSite}
use Rattle.stack_code.specs.declared.code.Spot.{Spot}
use Rattle.stack_code.specs.declared.instr.Instr.{Instr}
use Rattle.stack_code.specs.declared.instr.Instr.TheVariants as i
use Rattle.stack_code.specs.Answers.{IsIo}
use Rattle.stack_code.specs.Valid.{Has}
use Rattle.lower_emission.specs.declared.types.Placed.{Placed}
use Rattle.lower_emission.specs.Emits.{listed}
use Rattle.lower_emission.specs.Programs.{whole_code}
use Rattle.lower_emission.specs.Tables.{resolved, instrs_from, spots_from, begun_by}
use Rattle.ada_lower.specs.HasTables.{HasTables}
use Rattle.machine_paths.specs.Hushed.{IsQuiet, CallsIt}
use Rattle.lower_quiet.specs.Law.{quiet_in, QuietLaw}
use Rattle.lower_quiet.proofs.QuietCode.{Hush, AllHushed, hushed_at, listed_hushed}

-- an instruction and its spot are of one that was placed
placed_there : (ps : List Placed) (at : ℕ) (before : Option ℕ) (k : ℕ) (qs : List Placed) (j : ℕ) (x : Instr) (s : Spot) → slice_get (instrs_from ps at qs) j ≡ Some x → slice_get (spots_from before k qs) j ≡ Some s
    → (p : Placed) × (slice_get qs j ≡ Some p) × (x ≡ resolved ps (at + j) p.instr) × (s.body ≡ p.body)
placed_there ps at before k [] j x s e f = absurd (none-some x e)
placed_there ps at before k (q ∷ qs) zero x s e f = let z : at ≡ at + 0 = omega arith in (q, refl, sym (some_same (resolved ps at q.instr) x e) ∙ ap (λ n. resolved ps n q.instr) z, sym (ap (λ (s : Spot). s.body) (some_same _ s f)))
placed_there ps at before k (q ∷ qs) (suc j) x s e f =
    let z : at + 1 + j ≡ at + suc j = omega arith in
    let (p, is, same, body) = placed_there ps (at + 1) q.entry (begun_by before q.entry k) qs j x s e f in
    (p, is, same ∙ ap (λ n. resolved ps n p.instr) z, body)

placed_instr : (ps : List Placed) (at : ℕ) (qs : List Placed) (j : ℕ) (x : Instr) → slice_get (instrs_from ps at qs) j ≡ Some x → (p : Placed) × (slice_get qs j ≡ Some p) × (x ≡ resolved ps (at + j) p.instr)
placed_instr ps at [] j x e = absurd (none-some x e)
placed_instr ps at (q ∷ qs) zero x e = let z : at ≡ at + 0 = omega arith in (q, refl, sym (some_same (resolved ps at q.instr) x e) ∙ ap (λ n. resolved ps n q.instr) z)
placed_instr ps at (q ∷ qs) (suc j) x e =
    let z : at + 1 + j ≡ at + suc j = omega arith in
    let (p, is, same) = placed_instr ps (at + 1) qs j x e in
    (p, is, same ∙ ap (λ n. resolved ps n p.instr) z)

abbrev is_jump : Instr → Bool
is_jump (i.Jump t) = true
is_jump j = false

module _ (program : Program) where
  -- what may not be asked or called
  asks_no : (ps : List Placed) (at : ℕ) (b : Body) (j : Instr) → Hush program b j → IsQuiet (quiet_in program) b → IsIo (Some (resolved ps at j)) → ⊥
  asks_no ps at b i.Send h q io = h q
  asks_no ps at b i.SendLn h q io = h q
  asks_no ps at b i.Get h q io = h q
  asks_no ps at b j h q io = io

  calls_so : (ps : List Placed) (at : ℕ) (b : Body) (j : Instr) (sub : ℕ) → Hush program b j → IsQuiet (quiet_in program) b → CallsIt (resolved ps at j) sub → quiet_in program sub ≡ true
  calls_so ps at b (i.Call k) sub h q is = subst (λ n. quiet_in program n ≡ true) is (h q)
  calls_so ps at b (i.CallAt k n) sub h q is = subst (λ n. quiet_in program n ≡ true) is (h q)
  calls_so ps at b (i.CallTo k n to) sub h q is = subst (λ n. quiet_in program n ≡ true) is (h q)
  calls_so ps at b (i.Combine k) sub h q is = subst (λ n. quiet_in program n ≡ true) is (h q)
  calls_so ps at b j sub h q is = absurd is

  -- a fork is one that was placed
  forks_so : (ps : List Placed) (at site : ℕ) (j : Instr) → resolved ps at j ≡ i.Fork site → j ≡ i.Fork site
  forks_so ps at site (i.Jump t) e = absurd (true≢false (ap is_jump e))
  forks_so ps at site j e = e

pub quiet_law : QuietLaw
quiet_law program text c is tables rule = (
  record {
    asks = λ at x s e f q io. let (p, there, same, body) = found at x s e f in
        asks_no program placed at p.body p.instr (hushed_at program placed at p all there) (subst (IsQuiet (quiet_in program)) body q) (subst (λ x. IsIo (Some x)) same io);
    calls = λ at x s e f q sub so. let (p, there, same, body) = found at x s e f in
        calls_so program placed at p.body p.instr sub (hushed_at program placed at p all there) (subst (IsQuiet (quiet_in program)) body q) (subst (λ x. CallsIt x sub) same so);
  },
  λ at site s e f. let (p, there, same) = placed_instr placed 0 placed at (i.Fork site) (ap (λ xs. slice_get xs at) (sym is.lists.instrs) ∙ e) in
      later at site p s f (tables.forks at site p there (forks_so program placed (0 + at) site p.instr (sym same))),
)
  where
    placed : List Placed
    placed = listed (whole_code program text) 0

    all : AllHushed program placed
    all = listed_hushed program rule text

    found : (at : ℕ) (x : Instr) (s : Spot) → slice_get c.instrs at ≡ Some x → slice_get c.spots at ≡ Some s → (p : Placed) × (slice_get placed at ≡ Some p) × (x ≡ resolved placed at p.instr) × (s.body ≡ p.body)
    found at x s e f =
        let z : 0 + at ≡ at = omega arith in
        let (p, there, same, body) = placed_there placed 0 None 0 placed at x s (ap (λ xs. slice_get xs at) (sym is.lists.instrs) ∙ e) (ap (λ xs. slice_get xs at) (sym tables.spots) ∙ f) in
        (p, there, same ∙ ap (λ n. resolved placed n p.instr) z, body)

    later : (at site : ℕ) (p : Placed) (s : CodeSite) → slice_get c.sites site ≡ Some s → Has c.sites site (λ s. (s.entry ≡ at + 1 + 1) × (4 ≤ s.frame) × (s.around ≡ p.body) × (s.kind ≡ p.kind)) → at < s.entry
    later at site p s f h = let z : s.entry ≡ at + 1 + 1 = (subst (λ o. IsSomeAnd o (λ (s : CodeSite). (s.entry ≡ at + 1 + 1) × (4 ≤ s.frame) × (s.around ≡ p.body) × (s.kind ≡ p.kind))) f h).0 in omega (arith, z)
