use Rattle.std.proofs.Common.{◌≡◌, Some, rules, sym, ◌∙◌, subst}
use Rattle.std.proofs.lemmas.Int.{to_z-of_z}
use mir.Syntax.{w128}
use mir.Val.{SFits, to_z}
use mir.Val.{of_z}
use Rattle.stack_code.specs.declared.code.Lease.{Lease}
use Rattle.ada_lower.specs.Lending.{chunk_at, frame_at}
use Rattle.ada_threads.specs.Shares.{share_of}
use Rattle.ada_threads.specs.Areas.{AddsCells}
use Rattle.ada_threads.specs.Reaching.{LedTo}
use Rattle.ada_threads.proofs.Stepping.{ok_map}
use Rattle.ada_threads.proofs.LeaseCells.{lease_some}
use Rattle.ada_threads.proofs.regions.add_lease.Goals as goal

pub returns : goal.returns
returns c =
    let lender = c.args.lender.now in
    let l : Lease = c.args.lease.now in
    let site = lender.site.now in
    let old = c.args.regions.now.items in
    let new = c.add_regions.new.regions.items in
    let combs = c.in_ok-combs.combs in
    let fits : SFits w128 c.chunk_of-chunk.result = search rules in
    let chunk_is : to_z w128 (of_z w128 c.chunk_of-chunk.result) ≡ chunk_at site.kind lender.asked c.args.part.number = to_z-of_z w128 c.chunk_of-chunk.result fits ∙ c.chunk_of-chunk.ensures in
    let frame : frame_at lender.sees.now l.frame ≡ Some c.in-Some.base = sym c.base_of.ensures ∙ c.in-Some.is in
    let led : LedTo (chunk_at site.kind lender.asked c.args.part.number) l.steps c.in_ok-comb.comb combs =
    subst (λ z. LedTo z l.steps c.in_ok-comb.comb combs) chunk_is (subst (λ s. LedTo (to_z w128 (of_z w128 c.chunk_of-chunk.result)) s c.in_ok-comb.comb combs) c.as_slice.ensures c.in_ok-combs.ensures) in
    ok_map c.add_regions.result _ _ (λ _ h. lease_some site lender.asked lender.sees.now (share_of c.args.part) l c.span_of-span.result c.in-Some.base c.in_ok-comb.comb combs frame c.span_of-span.ensures c.in_ok-comb.ensures led lender.many old new
    (subst (λ bs. AddsCells l.run lender.many bs old new) c.as_slice-2.ensures h)) c.add_regions.ensures
