-- The effects of a whole program.
use Rattle.std.specs.Prelude.{ℕ, List, [], ◌∷◌, ◌++◌, true, cond}
use Rattle.typed_tree.specs.Syntax.{Decls, NoDecl, DeclareDefault, DeclareVariable, DeclareConstant, Mentions, Sub, Program}
use Rattle.check_clashes.specs.declared.effects.Touch.{Touch}
use Rattle.check_clashes.specs.declared.effects.Uses.{Uses}
use Rattle.check_inference.specs.declared.gathering.Gathered.{Gathered}
use Rattle.check_clashes.specs.declared.effects.Effects.{Effects}
use Rattle.check_inference.specs.Gather.{gather_body, no_uses}
use Rattle.check_inference.specs.Paths.{is_hidden, outset}

-- the objects that declarations declare, behind those found before
unfoldable pub objects_with : Decls → List ℕ → List ℕ
objects_with NoDecl found = found
objects_with (DeclareDefault x more) found = objects_with more (found ++ x ∷ [])
objects_with (DeclareVariable x initial more) found = objects_with more (found ++ x ∷ [])
objects_with (DeclareConstant x initial more) found = objects_with more (found ++ x ∷ [])
objects_with (Mentions es more) found = objects_with more found

abbrev pub globals : Program → List ℕ
globals program = objects_with program.body.decls []

-- touches of those objects alone, the last first
unfoldable pub kept : List ℕ → List Touch → List Touch
kept objects [] = []
kept objects (t ∷ ts) = kept objects ts ++ cond (is_hidden objects t.path.object) (t ∷ []) []

abbrev pub global_uses : List ℕ → Uses → Uses
global_uses objects uses = record uses { touches = kept objects uses.touches }

-- a subprogram, with what was found of those before it
abbrev pub with_sub : List ℕ → Sub → Effects → Effects
with_sub objects sub found = go (gather_body (outset true) sub.body (record { uses = no_uses; sites = found.sites }))
  where
    go : Gathered → Effects
    go g = record { subs = found.subs ++ global_uses objects g.uses ∷ []; sites = g.sites }

unfoldable pub with_subs : List ℕ → List Sub → Effects → Effects
with_subs objects [] found = found
with_subs objects (sub ∷ subs) found = with_subs objects subs (with_sub objects sub found)

abbrev pub with_main : Program → Effects → Effects
with_main program found = record found { sites = (gather_body (outset true) program.body (record { uses = no_uses; sites = found.sites })).sites }

unfoldable pub effects_of : Program → Effects
effects_of program = with_main program (with_subs (globals program) program.subs (record { subs = []; sites = [] }))
