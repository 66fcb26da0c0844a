-- What names stand for that aren't objects, as code holds it.
use Rattle.ada_meaning.specs.Meaning as meaning
use Rattle.ada_meaning.specs.Meaning.{with_parameter, with_item, with_target, with_handled}
use Rattle.run_store.specs.declared.env.ObjectPart.{ObjectPart}
use Rattle.run_store.specs.declared.env.Env.{Env, Outset, Parameter', Item', Target', Handled', Inside'}

abbrev pub part_of : ObjectPart → meaning.ObjectPart
part_of p = record { object = p.object; offset = p.offset }

abbrev pub env_of : Env → meaning.Env
env_of (Outset n) = meaning.outset n
env_of (Parameter' p outer k v) = with_parameter k v (env_of outer)
env_of (Item' p outer constant k part) = with_item constant k (part_of part) (env_of outer)
env_of (Target' p outer part) = with_target (part_of part) (env_of outer)
env_of (Handled' p outer r) = with_handled r (env_of outer)
env_of (Inside' p outer n) = record (env_of outer) { nested = n }
