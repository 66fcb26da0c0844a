use Rattle.std.proofs.Common.{◌≡◌, ℤ, List, [], ◌∷◌, refl}
use Rattle.stack_code.specs.Listing.{operands_of}
use Rattle.stack_code.specs.declared.instr.Instr.{Instr}
use Rattle.stack_code.specs.declared.instr.Instr.TheVariants.{Pop, Dup, Swap, Load, Store, Max, Min, Eq, Ne, Lt, Le, Gt, Ge, And, Or, Xor, Not, Turn, Ret, RetV, Reraise, Leave, LeaveV, Nest, Unnest, Img, Bool, Send, SendLn, Get, End, EndV, Halt, Part, Flip, Differ, ULt, ULe, UGt, UGe, UMax, UMin, UImg, Add, Sub, Mul, Div, Mod, Rem, Pow, Neg, Abs}
use Rattle.code_listing.proofs.names.name_alone.Goals as goal

none-of : {v : ℤ} {vs : List ℤ} → v ∷ vs ≡ [] → ⊥
none-of e = cc

pub returns-in_default : goal.returns-in_default
returns-in_default c = absurd (rest c.args.instr refl c.requires)
  where
    rest : (i : Instr) → c.args.instr ≡ i → operands_of i ≡ [] → ⊥
    rest Pop e h = c.in_default.not-Pop e
    rest Dup e h = c.in_default.not-Dup e
    rest Swap e h = c.in_default.not-Swap e
    rest Load e h = c.in_default.not-Load e
    rest Store e h = c.in_default.not-Store e
    rest Max e h = c.in_default.not-Max e
    rest Min e h = c.in_default.not-Min e
    rest Eq e h = c.in_default.not-Eq e
    rest Ne e h = c.in_default.not-Ne e
    rest Lt e h = c.in_default.not-Lt e
    rest Le e h = c.in_default.not-Le e
    rest Gt e h = c.in_default.not-Gt e
    rest Ge e h = c.in_default.not-Ge e
    rest And e h = c.in_default.not-And e
    rest Or e h = c.in_default.not-Or e
    rest Xor e h = c.in_default.not-Xor e
    rest Not e h = c.in_default.not-Not e
    rest Turn e h = c.in_default.not-Turn e
    rest Ret e h = c.in_default.not-Ret e
    rest RetV e h = c.in_default.not-RetV e
    rest Reraise e h = c.in_default.not-Reraise e
    rest Leave e h = c.in_default.not-Leave e
    rest LeaveV e h = c.in_default.not-LeaveV e
    rest Nest e h = c.in_default.not-Nest e
    rest Unnest e h = c.in_default.not-Unnest e
    rest Img e h = c.in_default.not-Img e
    rest Bool e h = c.in_default.not-Bool e
    rest Send e h = c.in_default.not-Send e
    rest SendLn e h = c.in_default.not-SendLn e
    rest Get e h = c.in_default.not-Get e
    rest End e h = c.in_default.not-End e
    rest EndV e h = c.in_default.not-EndV e
    rest Halt e h = c.in_default.not-Halt e
    rest Part e h = c.in_default.not-Part e
    rest Flip e h = c.in_default.not-Flip e
    rest Differ e h = c.in_default.not-Differ e
    rest ULt e h = c.in_default.not-ULt e
    rest ULe e h = c.in_default.not-ULe e
    rest UGt e h = c.in_default.not-UGt e
    rest UGe e h = c.in_default.not-UGe e
    rest UMax e h = c.in_default.not-UMax e
    rest UMin e h = c.in_default.not-UMin e
    rest UImg e h = c.in_default.not-UImg e
    rest (Add x) e h = c.in_default.not-Add x e
    rest (Sub x) e h = c.in_default.not-Sub x e
    rest (Mul x) e h = c.in_default.not-Mul x e
    rest (Div x) e h = c.in_default.not-Div x e
    rest (Mod x) e h = c.in_default.not-Mod x e
    rest (Rem x) e h = c.in_default.not-Rem x e
    rest (Pow x) e h = c.in_default.not-Pow x e
    rest (Neg x) e h = c.in_default.not-Neg x e
    rest (Abs x) e h = c.in_default.not-Abs x e
    rest i e h = none-of h
