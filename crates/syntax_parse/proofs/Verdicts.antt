-- A list of tokens has one verdict: a tree, a first fault, or a first token that stands too deep.
use Rattle.std.proofs.Common.{◌≡◌, ℕ, ◌<◌, List, [], ◌∷◌, ◌++◌, length, Result, Ok, Err, refl, sym, ap, ◌∙◌, subst, append_assoc, arith}
use Rattle.ada_base.specs.Symbols.{Nested, Word, numbered}
use Rattle.ada_base.specs.Languages.{Language}
use Rattle.ada_base.specs.Derivations.{AllWithin, Derives, DerivesWithin, IsFirstTooDeep, SinksAt}
use Rattle.ada_base.specs.declared.token.Token.{Token}
use Rattle.syntax_readers.proofs.FirstFaults.{tree_or_fault, tree_or_deep, one_fault}
use Rattle.syntax_readers.proofs.Words.{head_is}
use Rattle.syntax_tree.specs.Grammar.{ProgramWords}
use Rattle.syntax_tree.specs.Parsed.{IsParsed, IsSyntaxFault, IsTooDeep, depth_limit}
use Rattle.ada_base.specs.TokenKinds.{kinds_of}
use Rattle.syntax_tree.specs.Syntax.{Program}
use Rattle.syntax_nodes.specs.Trees.{Table, program_of}
use Rattle.syntax_laws.proofs.Units.{one_program}
use Rattle.syntax_parse.specs.Parsed.{Parsed, GivesTree, GivesFault, GivesTooDeep}
use Rattle.syntax_parse.specs.declared.parser.ParseFault.{ParseFault}
use Rattle.syntax_parse.specs.declared.parser.ParseFault.TheVariants.{LeftOut, Unexpected, TooDeep, OutOfMemory}

-- the first token that stands too deep is one

-- a word doesn't sink before a part that is within the limit ends
no_earlier : (limit : ℕ) (f : Word) (c : Nested) (b : Word) (g : Word) (d : Nested) (e : Word)
    → f ++ c ∷ b ≡ g ++ d ∷ e → limit < c.depth → AllWithin limit g → length f < length g → ⊥
no_earlier limit [] c b [] d e same deep within lt = omega (arith, lt)
no_earlier limit [] c b (x ∷ g) d e same deep within lt =
    let (h, t) = head_is c x b (g ++ d ∷ e) same in
    omega (arith, within.0, subst (λ z. limit < z.depth) h deep)
no_earlier limit (y ∷ f) c b [] d e same deep within lt = omega (arith, lt)
no_earlier limit (y ∷ f) c b (x ∷ g) d e same deep within lt =
    let (h, t) = head_is y x (f ++ c ∷ b) (g ++ d ∷ e) same in
    no_earlier limit f c b g d e t deep within.1 (omega (arith, lt))

one_sink : (limit : ℕ) (w : Word) (place other : ℕ) → SinksAt limit w place → SinksAt limit w other → place < other → ⊥
one_sink limit w place other (f, c, b, is, at, within, deep) (g, d, e, is', at', within', deep') lt =
    no_earlier limit f c b g d e (sym is ∙ is') deep within' (omega (arith, at, at', lt))

-- what is left behind a front that is no longer than another begins as the other's
front_of : (xs : List ℕ) (k : ℕ) (zs ys ws : List ℕ) → xs ++ k ∷ zs ≡ ys ++ ws → length xs < length ys → (more : List ℕ) × (ys ≡ xs ++ k ∷ more)
front_of [] k zs [] ws e lt = absurd (omega (arith, lt))
front_of [] k zs (y ∷ ys) ws e lt = let (h, t) = head_is k y zs (ys ++ ws) e in (ys, ap (λ z. z ∷ ys) (sym h))
front_of (x ∷ xs) k zs [] ws e lt = absurd (omega (arith, lt))
front_of (x ∷ xs) k zs (y ∷ ys) ws e lt =
    let (h, t) = head_is x y (xs ++ k ∷ zs) (ys ++ ws) e in
    let (more, longer) = front_of xs k zs ys ws t (omega (arith, lt)) in
    (more, ap (λ z. z ∷ ys) (sym h) ∙ ap (λ z. x ∷ z) longer)

none_deeper_before : {A : Type 0} (limit : ℕ) (L : A → Language) (ks : List ℕ) (place other : ℕ) → IsFirstTooDeep limit L ks place → IsFirstTooDeep limit L ks other → place < other → ⊥
none_deeper_before limit L ks place other deep later lt =
    let (a, more, derives) = later.begins in
    let (w, l, is) = derives in
    let (rest, longer) = front_of deep.front deep.kind deep.rest later.front (later.kind ∷ later.rest) (sym deep.split ∙ later.split) (omega (arith, lt, deep.at, later.at)) in
    let whole : (later.front ++ later.kind ∷ []) ++ more ≡ later.front ++ later.kind ∷ more = append_assoc later.front (later.kind ∷ []) more in
    let longest : later.front ++ later.kind ∷ more ≡ deep.front ++ deep.kind ∷ (rest ++ later.kind ∷ more) =
    ap (λ z. z ++ later.kind ∷ more) longer ∙ append_assoc deep.front (deep.kind ∷ rest) (later.kind ∷ more) in
    one_sink limit w place other
    (deep.sinks a w (rest ++ later.kind ∷ more) l (is ∙ ap (numbered 0) (whole ∙ longest)))
    (later.sinks a w more l (is ∙ ap (numbered 0) whole)) lt

pub one_deep : {A : Type 0} (limit : ℕ) (L : A → Language) (ks : List ℕ) (place other : ℕ) → IsFirstTooDeep limit L ks place → IsFirstTooDeep limit L ks other → place ≡ other
one_deep limit L ks place other deep later =
    omega (arith, none_deeper_before limit L ks place other deep later, none_deeper_before limit L ks other place later deep)

-- what `parse` gives

derived : (limit : ℕ) (ks : List ℕ) (tree : Program) → DerivesWithin limit ProgramWords ks tree → Derives ProgramWords ks tree
derived limit ks tree (w, l, e, within) = (w, l, e)

pub one_tree : (items : List Token) (a b : Program) → IsParsed items a → IsParsed items b → a ≡ b
one_tree items a b is are = one_program (kinds_of items) a b (derived depth_limit (kinds_of items) a is) (derived depth_limit (kinds_of items) b are)

pub gives_tree : (items : List Token) (result : Result Table ParseFault) → Parsed items result → (tree : Program) → IsParsed items tree → GivesTree result tree
gives_tree items (Ok found) p tree t = one_program (kinds_of items) (program_of found) tree (derived depth_limit (kinds_of items) (program_of found) p) (derived depth_limit (kinds_of items) tree t)
gives_tree items (Err (LeftOut token)) p tree t = absurd (tree_or_fault ProgramWords (kinds_of items) tree token (derived depth_limit (kinds_of items) tree t) p.0.fault)
gives_tree items (Err (Unexpected token)) p tree t = absurd (tree_or_fault ProgramWords (kinds_of items) tree token (derived depth_limit (kinds_of items) tree t) p.0.fault)
gives_tree items (Err (TooDeep token)) p tree t = absurd (tree_or_deep depth_limit ProgramWords (kinds_of items) tree token t p)
gives_tree items (Err OutOfMemory) p tree t = refl

pub gives_fault : (items : List Token) (result : Result Table ParseFault) → Parsed items result → (place : ℕ) → IsSyntaxFault items place → GivesFault result place
gives_fault items (Ok found) p place f = tree_or_fault ProgramWords (kinds_of items) (program_of found) place (derived depth_limit (kinds_of items) (program_of found) p) f.fault
gives_fault items (Err (LeftOut token)) p place f = one_fault ProgramWords (kinds_of items) token place p.0.fault f.fault
gives_fault items (Err (Unexpected token)) p place f = one_fault ProgramWords (kinds_of items) token place p.0.fault f.fault
gives_fault items (Err (TooDeep token)) p place f = f.within token p
gives_fault items (Err OutOfMemory) p place f = tt

pub gives_deep : (items : List Token) (result : Result Table ParseFault) → Parsed items result → (place : ℕ) → IsTooDeep items place → GivesTooDeep result place
gives_deep items (Ok found) p place d = tree_or_deep depth_limit ProgramWords (kinds_of items) (program_of found) place p d
gives_deep items (Err (LeftOut token)) p place d = p.0.within place d
gives_deep items (Err (Unexpected token)) p place d = p.0.within place d
gives_deep items (Err (TooDeep token)) p place d = one_deep depth_limit ProgramWords (kinds_of items) token place p d
gives_deep items (Err OutOfMemory) p place d = tt
