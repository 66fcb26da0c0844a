-- A thread in hushed code asks for nothing, and where its construct is a reduction no other than a raise leaves it.
use Rattle.std.proofs.Common.{◌≡◌, ℕ, zero, suc, ◌-◌, ◌≤◌, inl, inr, ℤ, List, [], ◌∷◌, length, Option, Some, None, Bool, true, false, refl, sym, ap, ◌∙◌, subst, arith}
use Rattle.std.specs.Prelude.{slice_get, IsSome}
use Rattle.ada_base.specs.declared.reason.Reason.{Reason}
use Rattle.stack_code.specs.declared.code.Around.{Around}
use Rattle.stack_code.specs.declared.code.Around.TheVariants.{Site}
use Rattle.stack_code.specs.declared.code.Code.{Code}
use Rattle.stack_code.specs.declared.code.CodeSite.{CodeSite}
use Rattle.stack_code.specs.declared.code.Reducer.{Reducer}
use Rattle.stack_code.specs.declared.code.SiteKind.{SiteKind}
use Rattle.stack_code.specs.declared.code.SiteKind.TheVariants as kind
use Rattle.stack_code.specs.declared.instr.Instr.{Instr}
use Rattle.stack_code.specs.declared.instr.Instr.TheVariants.{Call, CallAt, CallTo, Combine, Exit, Leave as LeaveNow, LeaveV}
use Rattle.stack_code.specs.declared.path.Asked.{Asked}
use Rattle.stack_code.specs.declared.path.Gave.{Gave}
use Rattle.stack_code.specs.declared.path.Gave.TheVariants as gave
use Rattle.stack_code.specs.declared.path.Io.{Io}
use Rattle.stack_code.specs.declared.path.Leave.{Leave}
use Rattle.stack_code.specs.declared.path.Leave.TheVariants.{Raise as Raises, Exit as Exits, Return as Returns}
use Rattle.stack_code.specs.Answers.{IsIo, OfKind}
use Rattle.stack_code.specs.Operands.{is_reduction}
use Rattle.stack_code.specs.Machine.{Frame, State, Stop, Left, Asks, Stops, begun, sees, outward_of, step}
use Rattle.stack_code.specs.Stands.{IsOuter, Sees, IsCall, Chain, Stands, Forked}
use Rattle.stack_code.specs.Valid.{IsThread, Belongs, IsValid, outward, around_of}
use Rattle.stack_code.proofs.Standing.{fine, has_instr, has_one, has_fact}
use Rattle.ada_base.specs.Cells.{Cell}
use Rattle.ada_lower.specs.Driven.{combine_by, raised_or, onto_by, combined_by, answer_of}
use Rattle.machine_paths.specs.Hushed.{IsQuiet, CallsIt, IsHushed, LeavesWell, GaveWell}
use Rattle.machine_paths.proofs.Leavers.{Leaver}
use Rattle.machine_paths.proofs.Stoppings.{StoppedSo, stops_so}

abbrev pub StopsWell : Bool → Stop → Type 0
StopsWell reduces (Left l) = LeavesWell reduces l
StopsWell reduces x = Unit {0}

true_not : true ≡ false → ⊥
true_not e = cc

is_callee : (i : Instr) (sub : ℕ) (f : Frame) → IsCall i sub f → CallsIt i sub
is_callee (Call k) sub f h = h.0
is_callee (CallAt k n) sub f h = h.0
is_callee (CallTo k n to) sub f h = h.0
is_callee (Combine k) sub f h = h.0
is_callee i sub f h = absurd h

leaver_thread : (c : Code) (at : ℕ) (body : Around) (i : Instr) → Leaver i → Belongs c at body i → IsThread c body false
leaver_thread c at body (Exit loop) l h = h
leaver_thread c at body LeaveNow l h = h
leaver_thread c at body LeaveV l h = h
leaver_thread c at body i l h = absurd l

module _ (c : Code) (valid : IsValid c) where
  module _ (quiet : ℕ → Bool) (hushed : IsHushed c quiet) (k : ℕ) where
    quiet_body : (fs : List Frame) (body : Around) (floor nested : ℕ) (frames : List ℕ) → Chain c (Site k) fs body floor nested frames → IsQuiet quiet body
    quiet_body [] body floor nested frames h = subst (IsQuiet quiet) (sym h.0) tt
    quiet_body (f ∷ fs) body floor nested frames h =
        let below = quiet_body fs h.0.body f.floor (nested - f.nest) frames h.2 in
        subst (IsQuiet quiet) (sym h.1.callee) (hushed.calls f.at h.1.waits.instr h.0 h.1.waits.here h.1.waits.at below h.1.sub (is_callee h.1.waits.instr h.1.sub f h.1.waits.call))

    pub asks_not : (limit : ℕ) (s : State) (io : Io) (t : State) → Stands c (Site k) s → step limit c s ≡ Stops (Asks io) t → ⊥
    asks_not limit s io t h e =
        let so : StoppedSo c s (Stops (Asks io) t) = subst (StoppedSo c s) e (stops_so limit c (Site k) valid s h) in
        let i = has_instr c (Site k) valid s.pc h.spot h.at in
        hushed.asks s.pc i.0 h.spot i.1 h.at (quiet_body s.waiting h.spot.body s.floor (s.nested - s.nest) s.outward h.chain) (subst IsIo i.1 so.0)

  thread_low : (k : ℕ) (site : CodeSite) → slice_get c.sites k ≡ Some site → (fs : List Frame) (body : Around) (floor nested : ℕ) (frames : List ℕ) → Chain c (Site k) fs body floor nested frames → IsThread c body false → is_reduction site.kind ≡ false
  thread_low k site e [] body floor nested frames h t = has_fact (slice_get c.sites k) (λ s. is_reduction s.kind ≡ false) site (subst (λ b. IsThread c b false) h.0 t) e
  thread_low k site e (f ∷ fs) body floor nested frames h t = absurd (subst (λ b. IsThread c b false) h.1.callee t)

  pub leaves_well : (limit k : ℕ) (site : CodeSite) → slice_get c.sites k ≡ Some site → (s : State) (l : Leave) (t : State) → Stands c (Site k) s → step limit c s ≡ Stops (Left l) t → LeavesWell (is_reduction site.kind) l
  leaves_well limit k site at s l t h e = by_case (subst (StoppedSo c s) e (stops_so limit c (Site k) valid s h)) where
    by_case : StoppedSo c s (Stops (Left l) t) → LeavesWell (is_reduction site.kind) l
    by_case (inl r) = λ _. r
    by_case (inr g) = λ reduces. absurd (true_not (sym reduces
        ∙ thread_low k site at s.waiting h.spot.body s.floor (s.nested - s.nest) s.outward h.chain (leaver_thread c s.pc h.spot.body g.0 g.3 (fine c (Site k) valid s.pc g.0 h.spot g.1 h.at).belongs)))

  -- ---- a thread as it begins
  length_outward : (fs : List Frame) (outside : List ℕ) (low body : Around) (floor nested n : ℕ) → Chain c low fs body floor nested outside → IsSome (outward c (Some body) n) → n ≤ length (outward_of fs outside)
  length_outward [] outside low body floor nested n h o = h.2 n o
  length_outward (f ∷ fs) outside low body floor nested zero h o = omega arith
  length_outward (f ∷ fs) outside low body floor nested (suc n) h o = absurd (no (subst (λ b. IsSome (outward c (Some b) (suc n))) h.1.callee o)) where
    no : false ≡ true → ⊥
    no e = cc

  pub begun_stands : (k : ℕ) (site : CodeSite) (low : Around) (s : State) (base turns calls nested : ℕ) (left : Option ℕ) (cells : List Cell) → slice_get c.sites k ≡ Some site → Forked c low k s →
      Stands c (Site k) (begun site.entry base (sees s) turns calls nested left cells)
  begun_stands k site low s base turns calls nested left cells e h =
      let fits = valid.sites k site e in
      let q = has_one (slice_get c.spots site.entry) _ fits.entry in
      let f = fine c low valid s.pc _ h.spot h.here h.at in
      let around : site.around ≡ h.spot.body = has_fact (slice_get c.sites k) (λ x. x.around ≡ h.spot.body) site f.belongs e in
      record {
        spot = q.0;
        at = q.1;
        height = omega (arith, q.2.1);
        begun = q.2.2;
        within = omega arith;
        chain = (q.2.0, subst IsOuter (sym q.2.0) tt, subst (λ b. Sees c b (sees s)) (sym q.2.0) (seen around), refl);
      } where
        seen : site.around ≡ h.spot.body → Sees c (Site k) (sees s)
        seen around zero o = omega arith
        seen around (suc n) o = let le = length_outward s.waiting s.outward low h.spot.body s.floor (s.nested - s.nest) n h.chain (subst (λ b. IsSome (outward c (Some b) n)) around (subst (λ a. IsSome (outward c a n)) (ap (λ o. around_of o) e) o)) in omega (arith, le)

-- ---- the answer of a construct is of its kind
module _ (c : Code) where
  onto_kind : (k : SiteKind) → is_reduction k ≡ true → (by : Reducer) (a : ℤ) (bs : List ℤ) → OfKind k (onto_by c by a bs)
  onto_kind k e by a [] = e
  onto_kind k e by a (b ∷ bs) = elim (combine_by c by a b) as (λ o. OfKind k (raised_or c o (λ v. onto_by c by v bs))) [
    | None ↦ tt
    | Some v ↦ onto_kind k e by v bs
  ]

  combined_kind : (k : SiteKind) → is_reduction k ≡ true → (by : Option Reducer) (initial : ℤ) (vs : List ℤ) → OfKind k (combined_by c by initial vs)
  combined_kind k e by initial [] = e
  combined_kind k e None initial (v ∷ vs) = e
  combined_kind k e (Some by) initial (v ∷ vs) = onto_kind k e by v vs

  left_kind : (k : SiteKind) (l : Leave) → LeavesWell (is_reduction k) l → OfKind k (gave.Left l)
  left_kind k (Raises r) h = tt
  left_kind k (Exits n) h = not_true (is_reduction k) h where
    not_true : (b : Bool) → LeavesWell b (Exits n) → b ≡ false
    not_true false h = refl
    not_true true h = absurd (no (h refl).0 (h refl).1) where
      no : (r : Reason) → ◌≡◌ {A = Leave} (Exits n) (Raises r) → ⊥
      no r e = cc
  left_kind k (Returns v) h = not_true (is_reduction k) h where
    not_true : (b : Bool) → LeavesWell b (Returns v) → b ≡ false
    not_true false h = refl
    not_true true h = absurd (no (h refl).0 (h refl).1) where
      no : (r : Reason) → ◌≡◌ {A = Leave} (Returns v) (Raises r) → ⊥
      no r e = cc

  pub answer_kind : (k : SiteKind) (q : Asked) (g : Gave) → GaveWell (is_reduction k) g → OfKind k (answer_of c k q g)
  answer_kind k q gave.Nothing h = absurd h
  answer_kind kind.Loop q (gave.Numbers vs) h = refl
  answer_kind kind.ChunkLoop q (gave.Numbers vs) h = refl
  answer_kind (kind.Block arms) q (gave.Numbers vs) h = refl
  answer_kind (kind.Reduction by) q (gave.Numbers vs) h = combined_kind (kind.Reduction by) refl by q.initial vs
  answer_kind (kind.ChunkReduction by) q (gave.Numbers vs) h = combined_kind (kind.ChunkReduction by) refl by q.initial vs
  answer_kind kind.Loop q (gave.Left l) h = left_kind kind.Loop l h
  answer_kind kind.ChunkLoop q (gave.Left l) h = left_kind kind.ChunkLoop l h
  answer_kind (kind.Block arms) q (gave.Left l) h = left_kind (kind.Block arms) l h
  answer_kind (kind.Reduction by) q (gave.Left l) h = left_kind (kind.Reduction by) l h
  answer_kind (kind.ChunkReduction by) q (gave.Left l) h = left_kind (kind.ChunkReduction by) l h
