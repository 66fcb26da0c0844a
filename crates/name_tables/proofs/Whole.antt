-- A typed program whose tables are those that were found.
use Rattle.std.proofs.Common.{◌≡◌, refl, sym, ap, ◌∙◌, List, ◌∷◌}
use Rattle.std.specs.Prelude.{map}
use Rattle.typed_tree.specs.Decoded.{TypedPart, as_body, body_at, part_at}
use Rattle.typed_tree.specs.Programs.{program, sub_of, subtype_of}
use Rattle.typed_tree.specs.declared.node.Node.{Node}
use Rattle.typed_tree.specs.declared.typed.Typed.{Typed}
use Rattle.typed_tree.specs.Latest.{pop, top}
use Rattle.name_rules.specs.Resolved.{typed_by, typed_subtype}
use Rattle.name_rules.specs.declared.log.Log.{Log}
use Rattle.name_tables.specs.Heads.{subs_of, whole_of}
use Rattle.name_tables.specs.Shapes.{rest_of, with_parts}
use Rattle.name_tables.specs.declared.heads.Head.{Head}

typed_is : (t : Typed) (log : Log) (hs : List Head) (ps : List TypedPart)
    → map (subtype_of t.nodes) t.subtypes ≡ map typed_subtype log.shapes → map (sub_of t.nodes) t.subs ≡ subs_of hs (pop ps)
    → body_at t.nodes t.body ≡ as_body (top ps) → t.objects ≡ log.objects → t.sites ≡ log.sites → t.exceptions ≡ log.exceptions
    → program t ≡ typed_by log (whole_of hs t.nonblocking t.strict ps)
typed_is t log hs ps e f g a b c = rw e (rw f (rw g (rw a (rw b (rw c refl)))))

-- what its steps show: the lists of subtypes, the table of them, the body, and the table of subprograms
pub typed_by_steps : (t : Typed) (log : Log) (hs : List Head) (ps listed finished left rest : List TypedPart) (n m : List Node)
    → with_parts log.shapes listed ≡ map typed_subtype log.shapes → rest_of log.shapes listed ≡ ps → finished ≡ listed
    → map (subtype_of n) t.subtypes ≡ with_parts log.shapes finished → left ≡ rest_of log.shapes finished
    → left ≡ part_at n t.body ∷ rest → m ≡ n
    → map (sub_of t.nodes) t.subs ≡ subs_of hs rest → t.nodes ≡ m
    → t.objects ≡ log.objects → t.sites ≡ log.sites → t.exceptions ≡ log.exceptions
    → program t ≡ typed_by log (whole_of hs t.nonblocking t.strict ps)
typed_by_steps t log hs ps listed finished left rest n m lists before ends subtypes behind body same subs last a b c =
    let table : t.nodes ≡ n = last ∙ same in
    let all : ps ≡ part_at n t.body ∷ rest = sym before ∙ (ap (rest_of log.shapes) (sym ends) ∙ (sym behind ∙ body)) in
    typed_is t log hs ps (rw table (subtypes ∙ (ap (with_parts log.shapes) ends ∙ lists))) (subs ∙ sym (ap (λ xs. subs_of hs (pop xs)) all)) (rw (table, all) refl) a b c
