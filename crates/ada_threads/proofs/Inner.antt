-- The path of a construct's threads, at whose fork a machine stands.
use Rattle.std.proofs.Common.{◌≡◌, ℕ, zero, suc, ◌<◌, ◌≤◌, List, [], ◌∷◌, length, drop, get_or, slice_get, Option, Some, None, arith, sym, ◌∙◌, ap, subst}
use Rattle.std.specs.Prelude.{IsSomeAnd, EachIndex, slice_index, ◌^◌}
use Rattle.std.proofs.lemmas.Option.{get_or_from_slice_get, slice_get_within}
use Rattle.ada_base.specs.Cuts.{Plan}
use Rattle.stack_code.specs.declared.code.Around.{Around}
use Rattle.stack_code.specs.declared.code.Around.TheVariants.{Site}
use Rattle.stack_code.specs.declared.code.Code.{Code}
use Rattle.stack_code.specs.declared.code.CodeSite.{CodeSite}
use Rattle.stack_code.specs.declared.instr.Instr.TheVariants.{Fork}
use Rattle.stack_code.specs.Machine.{Frame, sees, outward_of}
use Rattle.stack_code.specs.Stands.{Sees, Forked}
use Rattle.stack_code.specs.Valid.{Has, IsValid}
use Rattle.stack_code.proofs.Standing.{fine, has_one}
use Rattle.ada_machine.specs.States.{state_of, frames_of, IsRoomy}
use Rattle.ada_machine.specs.declared.machine.Machine.{Machine}
use Rattle.machine_paths.proofs.Hushes.{begun_stands}
use Rattle.ada_threads.specs.Answers.{IsPathAt}

module _ (c : Code) (m : Machine) (low : Around) (k : ℕ) (valid : IsValid c) (here : Forked c low k (state_of m [])) where
  -- the construct is there
  pub site_here : (site : CodeSite) × (slice_get c.sites k ≡ Some site)
  site_here = let f = fine c low valid m.pc (Fork k) here.spot here.here here.at in let s = has_one (slice_get c.sites k) _ f.belongs in (s.0, s.1)

  pub body_has : (site : CodeSite) → slice_get c.sites k ≡ Some site → (entry : ℕ) → entry ≡ site.entry → Has c.sites k (λ s. s.entry ≡ entry)
  body_has site at entry e = subst (λ o. IsSomeAnd o (λ (s : CodeSite). s.entry ≡ entry)) (sym at) (sym e)

  pub sees_here : (site : CodeSite) → slice_get c.sites k ≡ Some site → Sees c (Site k) (sees (state_of m []))
  sees_here site at = let b = begun_stands c valid k site low (state_of m []) 0 0 0 0 None [] at here in subst (λ b. Sees c b (sees (state_of m []))) b.chain.0 b.chain.2

pub none_some : {A : Type 0} {a : A} → ◌≡◌ {A = Option A} None (Some a) → ⊥
none_some e = cc

-- the site that a table has there
pub at_element : (xs : List CodeSite) (k : ℕ) (site x : CodeSite) → slice_get xs k ≡ Some site → (ys : List CodeSite) → ys ≡ xs → x ≡ get_or ys k x → slice_get xs k ≡ Some x
at_element xs k site x at ys e is = at ∙ ap Some (sym (is ∙ ap (λ l. get_or l k x) e ∙ get_or_from_slice_get xs k site x at))

pub below : (xs ys : List CodeSite) (k : ℕ) (site : CodeSite) → slice_get xs k ≡ Some site → ys ≡ xs → k < length ys
below xs ys k site at e = subst (λ l. k < length l) (sym e) (slice_get_within xs k site at)

module _ (c : Code) (low : Around) (m : Machine) (roomy : IsRoomy c low m) (base : ℕ) (near : base ≤ 2 ^ 62) where
  near_from : (fs : List Frame) → EachIndex (m.base ∷ outward_of fs m.outward.items) (λ k. slice_index (m.base ∷ outward_of fs m.outward.items) k ≤ 2 ^ 62)
  near_from fs zero lt = roomy.near
  near_from [] (suc k) lt = roomy.frames k (omega (arith, lt))
  near_from (f ∷ fs) (suc k) lt = absurd (omega (arith, lt))

  pub near_all : EachIndex (base ∷ sees (state_of m [])) (λ k. slice_index (base ∷ sees (state_of m [])) k ≤ 2 ^ 62)
  near_all zero lt = near
  near_all (suc k) lt = near_from (frames_of m.waiting.items) k (omega (arith, lt))

module _ (limit : ℕ) (c : Code) (plan : Plan) (base : ℕ) (k : ℕ) (site : CodeSite) (at : slice_get c.sites k ≡ Some site) (m : Machine) (entry : ℕ) (e : entry ≡ site.entry) (frames : List ℕ) (f : frames ≡ base ∷ sees (state_of m [])) where
  pub inner_is : IsPathAt limit c plan base k (state_of m []) (record { limit = limit; code = c; plan = plan; entry = entry; base = slice_index frames 0; outward = drop 1 frames; turns = m.turns; calls = m.calls; nested = m.nested; how = None })
  inner_is = (site, at, λ i. record { limit = limit; code = c; plan = plan; entry = e i; base = slice_index (f i) 0; outward = drop 1 (f i); turns = m.turns; calls = m.calls; nested = m.nested; how = None })
