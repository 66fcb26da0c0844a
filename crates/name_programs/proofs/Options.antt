-- What is joined or given where there is a part, and where there is none.
use Rattle.std.proofs.Common.{◌≡◌, refl, Bool, true, false, Option, Some, None, List, [], ◌∷◌, ◌++◌}
use Rattle.std.specs.Prelude.{option_map}
use Rattle.typed_tree.specs.Decoded.{TypedPart}
use Rattle.name_programs.specs.Declares.{fields_if}
use Rattle.name_rules.specs.Declarations.{also_field, indicated}
use Rattle.name_rules.specs.Judges.{found_of}
use Rattle.name_rules.specs.Judging.{joined}
use Rattle.name_rules.specs.Programs.{known_of}
use Rattle.name_rules.specs.declared.found.Denoted.{Denoted}
use Rattle.name_rules.specs.declared.log.Field.{Field}
use Rattle.name_rules.specs.declared.types.Subtype.{Subtype}

pub joined_none : {A B C : Type 0} (f : A → B → C) (x : Option A) → joined f x None ≡ None
joined_none f None = refl
joined_none f (Some a) = refl

pub indicated_found : (p : TypedPart) (s : Option Subtype) → option_map (indicated p) s ≡ found_of s p
indicated_found p None = refl
indicated_found p (Some s) = refl

pub fields_also : (whole : Bool) (fs : List Field) (f : Field) → option_map (also_field f) (fields_if whole fs) ≡ fields_if whole (fs ++ f ∷ [])
fields_also true fs f = refl
fields_also false fs f = refl

pub known_found : (d : Option Denoted) (p : TypedPart) → option_map known_of (found_of d p) ≡ d
known_found None p = refl
known_found (Some d) p = refl
