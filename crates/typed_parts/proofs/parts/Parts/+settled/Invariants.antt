use Rattle.std.proofs.Common.{◌+◌, ◌*◌, length}
use Rattle.typed_parts.specs.Stack.{parts, Stays}
use Rattle.typed_parts.proofs.Chains.{Rejoins}
use Rattle.typed_parts.proofs.parts.Parts.+settled.Given as goal

abbrev pub decreases-rejoin : goal.decreases-rejoin
decreases-rejoin l = 2 * l.link

abbrev pub decreases-settled : goal.decreases-settled
decreases-settled l = 2 * l.id + 1

abbrev pub invariant-settled-loop-link : goal.invariant-settled-loop-link
invariant-settled-loop-link l = record {
  rejoins : Rejoins l.class l.fn.self.nodes l.id l.chain (parts l.fn.self) (parts l.self);
  stays : Stays l.fn.self.nodes l.self.nodes;
}

abbrev pub decreases-settled-loop-link : goal.decreases-settled-loop-link
decreases-settled-loop-link l = length l.chain
