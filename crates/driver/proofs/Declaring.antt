-- The variables of a list of declarations, cell by cell.
use Rattle.std.proofs.Common.{◌≡◌, ℕ, List, Option, Some, None, refl, ap, ◌∙◌}
use Rattle.ada_base.specs.Tokens.{Tokenized}
use Rattle.typed_tree.specs.Decoded.{TypedPart, as_decl, as_decls, decls_at, part_at}
use Rattle.typed_tree.specs.Syntax.{Program, Decls}
use Rattle.typed_tree.specs.Viewed.{decl_of, decls_of}
use Rattle.typed_tree.specs.declared.node.Cell.{Cell}
use Rattle.typed_tree.specs.declared.node.Node.{Node}
use Rattle.typed_tree.specs.declared.statements.Decl.{Decl}
use Rattle.typed_tree.specs.declared.statements.Decl.TheVariants as decl
use Rattle.driver.specs.Compiled.{also_final, declared_variable, finals_behind}
use Rattle.run_reports.specs.declared.ends.Final.{Final}

also_is : (t : Tokenized) (p : Program) (done : List Final) (at : ℕ → TypedPart) (d : Option Decl) (rest : Decls) → finals_behind t p done (decl_of at d rest) ≡ finals_behind t p (also_final t p done (declared_variable d)) rest
also_is t p done at None rest = refl
also_is t p done at (Some (decl.Default x)) rest = refl
also_is t p done at (Some (decl.Variable x initial)) rest = refl
also_is t p done at (Some (decl.Constant x initial)) rest = refl
also_is t p done at (Some (decl.Mentions es)) rest = refl

pub final_more : (t : Tokenized) (p : Program) (done : List Final) (nodes : List Node) (next : ℕ) (c : Cell) (d : Option Decl) → decls_at nodes next ≡ decls_of (part_at nodes) (Some c) → as_decl (part_at nodes c.first) ≡ decl_of (part_at nodes) d
    → finals_behind t p done (decls_at nodes next) ≡ finals_behind t p (also_final t p done (declared_variable d)) (decls_at nodes c.rest)
final_more t p done nodes next c d e f =
    ap (finals_behind t p done) e ∙ ap (λ (g : Decls → Decls). finals_behind t p done (g (as_decls (part_at nodes c.rest)))) f ∙ also_is t p done (part_at nodes) d (as_decls (part_at nodes c.rest))

pub no_more : (t : Tokenized) (p : Program) (done : List Final) (nodes : List Node) (next : ℕ) → decls_at nodes next ≡ decls_of (part_at nodes) None → finals_behind t p done (decls_at nodes next) ≡ done
no_more t p done nodes next e = ap (finals_behind t p done) e
