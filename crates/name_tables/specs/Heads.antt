-- The subprograms of a typed program, of what is known of them and of their parts.
use Rattle.std.specs.Prelude.{Bool, List, [], ◌∷◌, reverse}
use Rattle.typed_tree.specs.Decoded.{TypedPart, as_body, as_formals}
use Rattle.typed_tree.specs.Syntax.{Sub}
use Rattle.typed_tree.specs.Latest.{top, pop, second}
use Rattle.name_rules.specs.Programs.{Whole}
use Rattle.name_tables.specs.declared.heads.Head.{Head}

-- a subprogram of the parts that are the list of its formal parameters and its body
abbrev pub headed : Head → TypedPart → TypedPart → Sub
headed h f b = record { formals = as_formals f; result = h.result; nonblocking = h.nonblocking; body = as_body b }

-- the subprograms of the latest parts, two of each, the last of which come first
abbrev pub subs_back : List Head → List TypedPart → List Sub → List Sub
subs_back [] ps done = done
subs_back (h ∷ hs) ps done = subs_back hs (pop (pop ps)) (headed h (second ps) (top ps) ∷ done)

unfoldable pub subs_of : List Head → List TypedPart → List Sub
subs_of hs ps = subs_back (reverse hs) ps []

-- what a program is made of: its latest part is its body, and before it are those of its subprograms
abbrev pub whole_of : List Head → Bool → Bool → List TypedPart → Whole
whole_of hs z strict ps = record { body = as_body (top ps); subs = subs_of hs (pop ps); nonblocking = z; strict = strict }
