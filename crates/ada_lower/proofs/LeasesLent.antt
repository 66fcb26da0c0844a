-- Where leases are those of what threads may write, each construct lends as it should.
use Rattle.std.proofs.Common.{◌≡◌, ℕ, suc, ◌+◌, ◌-◌, ◌≤◌, ℤ, pos, ◌+ℤ◌, List, [], ◌∷◌, Some, true, false, inl, inr, cond, refl, sym, ap, ◌∙◌, subst, arith, le_refl}
use Rattle.std.proofs.lemmas.Bool.{eq-eqb}
use Rattle.std.proofs.lemmas.Int.{ints}
use Rattle.behaviours.specs.Joins.{Share, deal}
use Rattle.typed_tree.specs.declared.expressions.Reducer.{Reducer}
use Rattle.typed_tree.specs.Syntax.{Chunk, NoChunk, Count, Each, Program}
use Rattle.ada_meaning.specs.Values
use Rattle.ada_meaning.specs.Operations.{chunk_of}
use Rattle.ada_meaning.specs.Meaning
use Rattle.ada_meaning.specs.Meaning.{Env, Chunking, cut_of, value_cut_of}
use Rattle.check_effects.specs.Covered.{AreApart}
use Rattle.stack_code.specs.Deeds.{asked}
use Rattle.ada_lower.specs.Driven.{sizes_for}
use Rattle.ada_lower.specs.Emission.{loop_kind, reduction_kind}
use Rattle.ada_lower.specs.Lending.{Among, chunk_at}
use Rattle.ada_lower.specs.Leased.{leased}
use Rattle.ada_lower.proofs.ForkRange.{Chunks, Numbered, numbered}
use Rattle.ada_lower.proofs.ForkSites as sites
use Rattle.ada_lower.proofs.LeaseFinds.{finds_items, finds_ranges}
use Rattle.ada_lower.proofs.Leasing.{lends_by}
use Rattle.ada_lower.proofs.Lent.{Lending}

-- ---- shares that are dealt are apart

begins_from : (n first : ℕ) (sizes : List ℕ) (j : Share) → Among j (deal n first sizes) → first ≤ j.first
begins_from n first [] j a = absurd a
begins_from n first (m ∷ ms) j (inl e) = subst (λ i. first ≤ i.first) (sym e) (le_refl first)
begins_from n first (m ∷ ms) j (inr a) = let le = begins_from (suc n) (first + m) ms j a in omega (arith, le)

deal_parted : (n first : ℕ) (sizes : List ℕ) (c b : Share) → Among c (deal n first sizes) → Among b (deal n first sizes) → (c.number ≡ b.number → ⊥) → AreApart c b
deal_parted n first [] c b a a' off_ = absurd a
deal_parted n first (m ∷ ms) c b (inl e) (inl e') off_ = absurd (off_ (ap (λ (z : Share). z.number) e ∙ sym (ap (λ (z : Share). z.number) e')))
deal_parted n first (m ∷ ms) c b (inl e) (inr a) off_ = λ i lo hi lo' hi'. let le = begins_from (suc n) (first + m) ms b a in let f = ap (λ (z : Share). z.first) e in let s = ap (λ (z : Share). z.size) e in omega (arith, lo, hi, lo', hi', le, f, s)
deal_parted n first (m ∷ ms) c b (inr a) (inl e) off_ = λ i lo hi lo' hi'. let le = begins_from (suc n) (first + m) ms c a in let f = ap (λ (z : Share). z.first) e in let s = ap (λ (z : Share). z.size) e in omega (arith, lo, hi, lo', hi', le, f, s)
deal_parted n first (m ∷ ms) c b (inr a) (inr a') off_ = deal_parted (suc n) (first + m) ms c b a a' off_

-- ---- what the parameters are

same_parameter : (p : ℕ) (v : ℤ) (env : Env) → (Meaning.with_parameter p v env).parameter p ≡ v
same_parameter p v env = ap (λ b. cond b v (env.parameter p)) (eq-eqb p p refl)

loop_chunk : (chunk : Chunk) (k : Chunking) (site : ℕ) (l u cl ch start : ℤ) (idx j : ℕ) (env : Env) → Chunks chunk cl ch k → Numbered chunk idx j → Meaning.chunk_value chunk j (k.bound idx env) ≡ chunk_at (loop_kind chunk) (asked site l u cl ch start) j
loop_chunk NoChunk k site l u cl ch start idx j env told at_ = refl
loop_chunk (Count e) k site l u cl ch start idx j env told at_ = refl
loop_chunk (Each n low high check) k site l u cl ch start idx j env told at_ =
    ap (λ (k : Chunking). (k.bound idx env).parameter n) told ∙ same_parameter n (cl +ℤ pos idx) env ∙ ap (λ i. cl +ℤ pos i) at_

fold_chunk : (by : Reducer) (chunk : Chunk) (k : Chunking) (site : ℕ) (l u cl ch start : ℤ) (idx j : ℕ) (env : Env) → Chunks chunk cl ch k → Numbered chunk idx j → Meaning.chunk_value chunk j (k.bound idx env) ≡ chunk_at (reduction_kind by chunk) (asked site l u cl ch start) j
fold_chunk by NoChunk k site l u cl ch start idx j env told at_ = refl
fold_chunk by (Count e) k site l u cl ch start idx j env told at_ = refl
fold_chunk by (Each n low high check) k site l u cl ch start idx j env told at_ =
    ap (λ (k : Chunking). (k.bound idx env).parameter n) told ∙ same_parameter n (cl +ℤ pos idx) env ∙ ap (λ i. cl +ℤ pos i) at_

pub lending_leased : (limit : ℕ) (cuts : ℕ → ℕ → List ℕ) (program : Program) → Lending limit cuts (Some program) (leased program)
lending_leased limit cuts program = record {
  loops = λ f e s env site cs h chunk p low high check filter k cl ch l u is told g kn.
      lends_by kn program e false site cs h (asked site l u cl ch (pos 0)) _ refl
      (λ con held goes clean distinct. finds_ranges program con clean _ distinct _ _
      (λ j i. (ap Some (same_parameter p (l +ℤ pos i) (k.bound (chunk_of (cut_of k (Values.count l u)) j) (Meaning.inside env))), loop_chunk chunk k site l u cl ch (pos 0) (chunk_of (cut_of k (Values.count l u)) j) j (Meaning.inside env) told (numbered chunk cl ch k (Values.count l u) j told) ∙ ap (λ kd. chunk_at kd (asked site l u cl ch (pos 0)) j) (sym is))))
      _ (deal_parted 0 0 (sizes_for g.plan cs.kind (asked site l u cl ch (pos 0))));
  items = λ f e s env site cs h chunk p constant at root selections count stride dimensions filter k cl ch q a is told g kn part.
      lends_by kn program e true site cs h (asked site (pos 1) (pos count) cl ch (pos 0)) _ refl
      (λ con held goes clean distinct. finds_items program con clean _ distinct held goes _ _ (λ i. refl)
      (λ j i. loop_chunk chunk k site (pos 1) (pos count) cl ch (pos 0) (chunk_of (cut_of k count) j) j (Meaning.inside env) told (numbered chunk cl ch k count j told) ∙ ap (λ kd. chunk_at kd (asked site (pos 1) (pos count) cl ch (pos 0)) j) (sym is)))
      _ (deal_parted 0 0 (sizes_for g.plan cs.kind (asked site (pos 1) (pos count) cl ch (pos 0))));
  blocks = λ f e s env site cs h arms ch is g kn.
      let q = asked site (pos 0) (pos (arms - 1)) (pos 1) ch (pos 0) in
      lends_by kn program e false site cs h q (Meaning.block_site site) refl (λ con held goes clean distinct. finds_ranges program con clean _ distinct _ _ (λ j i. (ap Some (zero_more i), ap (λ kd. chunk_at kd q j) (sym is)))) _ (deal_parted 0 0 (sizes_for g.plan cs.kind q));
  folds = λ f e s env site cs h chunk p low high check filter k start cl ch l u by is told g kn.
      lends_by kn program e false site cs h (asked site l u cl ch start) _ refl
      (λ con held goes clean distinct. finds_ranges program con clean _ distinct _ _
      (λ j i. (ap Some (same_parameter p (l +ℤ pos i) (k.bound (chunk_of (value_cut_of k (Values.count l u)) j) (Meaning.inside env))), fold_chunk by chunk k site l u cl ch start (chunk_of (value_cut_of k (Values.count l u)) j) j (Meaning.inside env) told (sites.numbered chunk cl ch k (Values.count l u) j told) ∙ ap (λ kd. chunk_at kd (asked site l u cl ch start) j) (sym is))))
      _ (deal_parted 0 0 (sizes_for g.plan cs.kind (asked site l u cl ch start)));
  item_folds = λ f e s env site cs h chunk p constant at root selections count stride dimensions filter k start cl ch q a by is told g kn part.
      lends_by kn program e true site cs h (asked site (pos 1) (pos count) cl ch start) _ refl
      (λ con held goes clean distinct. finds_items program con clean _ distinct held goes _ _ (λ i. refl)
      (λ j i. fold_chunk by chunk k site (pos 1) (pos count) cl ch start (chunk_of (value_cut_of k count) j) j (Meaning.inside env) told (sites.numbered chunk cl ch k count j told) ∙ ap (λ kd. chunk_at kd (asked site (pos 1) (pos count) cl ch start) j) (sym is)))
      _ (deal_parted 0 0 (sizes_for g.plan cs.kind (asked site (pos 1) (pos count) cl ch start)));
}
  where
    zero_more : (i : ℕ) → pos i ≡ pos 0 +ℤ pos i
    zero_more i = omega (arith, ints)
