-- What holds of each line of the log holds of what Types judges.
use Rattle.name_rules.specs.declared.log.Shape.{Shape}
use Rattle.name_rules.specs.declared.types.Subtype.TheVariants as subtype
use Rattle.name_rules.specs.declared.types.Subtype.{Subtype}
use Rattle.name_rules.specs.Types.{written_shape, number_of}
use Rattle.name_laws.proofs.Walk.{Walk, Wide, Keeps}

pub k-written_shape : (wide : Wide) (t : Shape) → Keeps wide.walk (written_shape t)
k-written_shape wide t = record { at = wide.shape t }

pub k-number_of : (walk : Walk) (s : Subtype) → Keeps walk (number_of s)
unfolding number_of
k-number_of walk (subtype.Scalar s) = record { at = walk.scalar s }
k-number_of walk (subtype.Composite n) = record { at = walk.stays }
