-- The readers of lists of identifiers and of formal parameters are exact.
use Rattle.std.proofs.Common.{◌≡◌, ℕ, zero, suc, ◌+◌, ◌<◌, ◌≤◌, List, [], ◌∷◌, true, false, Option, Some, None, inl, inr, refl, sym, append-nil, arith}
use Rattle.ada_base.specs.Symbols.{Symbol, Word}
use Rattle.ada_base.specs.Languages.{Language, Leaf, Quoted, Then, Or, Pure, Image, Begins, Inhabited}
use Rattle.syntax_readers.specs.Readers.{symbol}
use Rattle.syntax_readers.specs.Sets.{Sets, one_kind}
use Rattle.syntax_readers.specs.Exact.{Rule}
use Rattle.syntax_readers.proofs.Depths.{exact_too_deep}
use Rattle.syntax_readers.proofs.Rules.{read, give, seq, or, to, is}
use Rattle.syntax_readers.proofs.Chains.{items, list_grows}
use Rattle.syntax_readers.proofs.Forms.{from, to_left, to_right, without_after, at_second, form, keep, skip, lead, last}
use Rattle.syntax_readers.proofs.Samples.{sample_as, sample_leaf, sample_free, sample_none, sample_both, kind_is, first_held, begins_held, sample_of}
use Rattle.ada_base.specs.Kinds as kind
use Rattle.syntax_tree.specs.Syntax.{Ids, Formal, Formals}
use Rattle.syntax_tree.specs.Patterns.{optional_of}
use Rattle.syntax_tree.specs.Productions as spell
use Rattle.syntax_tree.specs.declared.operators.Mode.{Mode}
use Rattle.syntax_tree.specs.declared.operators.Mode.TheVariants as mode'
use Rattle.syntax_grammar.specs.Declarations as reader
use Rattle.syntax_laws.proofs.Words.{Words, After, maybe, each_after_listed}
use Rattle.syntax_laws.proofs.Openings.{round_sets}

abbrev pub ids_sets : Sets
ids_sets = record { first = kind.identifier ∷ []; nullable = false; follow_last = kind.comma ∷ [] }

abbrev pub mode_sets : Sets
mode_sets = record { first = kind.in_word ∷ kind.out_word ∷ []; nullable = true; follow_last = kind.in_word ∷ kind.out_word ∷ [] }

abbrev pub formal_sets : Sets
formal_sets = record { first = kind.identifier ∷ []; nullable = false; follow_last = [] }

module _ (limit depth : ℕ) (within : depth ≤ limit) where
  one : (k : ℕ) → Rule limit (one_kind k) (Leaf depth k) (symbol k)
  one k = read limit depth within k

  rule_next_identifier : Rule limit (one_kind kind.comma) (After kind.comma spell.identifier depth) reader.next_identifier
  unfolding reader.next_identifier
  rule_next_identifier = lead (one kind.comma) (one kind.identifier) refl

  pub rule_ids : Rule limit ids_sets (Words spell.ids depth) reader.ids
  unfolding reader.ids
  rule_ids =
      is ids_sets (Words spell.ids depth)
      (keep (one kind.identifier) (λ n. to (λ (ns : List ℕ). let i : Ids = record { first = n; more = ns } in i) (items (kind.comma ∷ []) (each_after_listed spell.identifier depth kind.comma) list_grows rule_next_identifier refl refl refl refl)) refl)
      (form (Words spell.ids depth) (λ b w l. l)) (λ x w l. ((x.first, x.more), refl, l)) refl

  -- ---- modes

  abbrev InMode : Option Mode → Language
  InMode = Then (Leaf depth kind.in_word) (λ at. Or (Image (λ (_ : Unit {0}). Some (mode'.InOut at)) (λ _. Quoted depth kind.out_word)) (Pure (Some (mode'.In at))))

  rule_in_mode : Rule limit (record { first = kind.in_word ∷ []; nullable = false; follow_last = kind.out_word ∷ [] }) InMode reader.in_mode
  unfolding reader.in_mode
  rule_in_mode = is _ InMode (seq (one kind.in_word) (λ at. or (kind.out_word ∷ []) (last (Some (mode'.InOut at)) (one kind.out_word)) (give (Some (mode'.In at))).exact refl refl refl) refl) (λ x w l. l) (λ x w l. l) refl

  abbrev OutMode : Option Mode → Language
  OutMode = Image (λ at. Some (mode'.Out at)) (Leaf depth kind.out_word)

  rule_out_mode : Rule limit (one_kind kind.out_word) OutMode reader.out_mode
  unfolding reader.out_mode
  rule_out_mode = to (λ at. Some (mode'.Out at)) (one kind.out_word)

  abbrev ModeWords : Option Mode → Language
  ModeWords = Words (optional_of spell.mode) depth

  join_mode : (x : Option Mode) (w : Word) → Or InMode (Or OutMode (Pure None)) x w → ModeWords x w
  join_mode x w (inl (at, u, v, e, i, inl (_, eq, k))) = from ModeWords eq (u, v, e, i, k)
  join_mode x w (inl (at, u, v, e, i, inr (eq, none))) = from ModeWords eq (without_after {L = Leaf depth kind.in_word at} (u, v, e, i, none))
  join_mode x w (inr (inl (at, eq, i))) = from ModeWords eq i
  join_mode x w (inr (inr (eq, none))) = from ModeWords eq none

  split_mode : (x : Option Mode) (w : Word) → ModeWords x w → Or InMode (Or OutMode (Pure None)) x w
  split_mode (Some (mode'.In at)) w i = inl (at, w, [], sym (append-nil w), i, inr (refl, refl))
  split_mode (Some (mode'.InOut at)) w (u, v, e, i, k) = inl (at, u, v, e, i, inl (tt, refl, k))
  split_mode (Some (mode'.Out at)) w i = inr (inl (at, refl, i))
  split_mode None w none = inr (inr (refl, none))

  rule_mode : Rule limit mode_sets ModeWords reader.mode
  unfolding reader.mode
  rule_mode =
      is mode_sets ModeWords (or (kind.in_word ∷ []) rule_in_mode (or (kind.out_word ∷ []) rule_out_mode (give None).exact refl refl refl).exact refl refl refl)
      join_mode split_mode refl

  -- ---- formal parameters

  rule_formal : Rule limit formal_sets (Words spell.formal depth) reader.formal
  unfolding reader.formal
  rule_formal =
      is formal_sets (Words spell.formal depth)
      (keep rule_ids (λ ns. skip (one kind.colon) (keep rule_mode (λ m. to (λ k. let f : Formal = record { names = ns; mode = m; mark = k } in f) (one kind.identifier)) refl) refl) refl)
      (form (Words spell.formal depth) (λ b w l. l)) (λ x w l. ((x.names, (x.mode, x.mark)), refl, l)) refl

  rule_next_formal : Rule limit (one_kind kind.semicolon) (After kind.semicolon spell.formal depth) reader.next_formal
  unfolding reader.next_formal
  rule_next_formal = is (one_kind kind.semicolon) (After kind.semicolon spell.formal depth) (lead (one kind.semicolon) rule_formal refl) (λ x w l. l) (λ x w l. l) refl

-- in brackets, and so one level down
module _ (limit depth : ℕ) (deeper : suc depth ≤ limit) where
  inner : (k : ℕ) → Rule limit (one_kind k) (Leaf (suc depth) k) (symbol k)
  inner k = read limit (suc depth) deeper k

  rule_open_formals : Rule limit round_sets (Words spell.formals depth) reader.open_formals
  unfolding reader.open_formals
  rule_open_formals =
      is round_sets (Words spell.formals depth)
      (keep (inner kind.open_round) (λ b. keep (rule_formal limit (suc depth) deeper) (λ f. keep (items (kind.semicolon ∷ []) (each_after_listed spell.formal (suc depth) kind.semicolon) list_grows (rule_next_formal limit (suc depth) deeper) refl refl refl refl) (λ fs.
      last (let x : Formals = record { bracket = b; first = f; more = fs } in x) (inner kind.close_round)) refl) refl) refl)
      (form (Words spell.formals depth) (λ b w l. at_second {L = Leaf (suc depth) kind.open_round b.0} (λ v m. to_left m) l))
      (λ x w l. ((x.bracket, (x.first, (x.more, tt))), refl, at_second {L = Leaf (suc depth) kind.open_round x.bracket} (λ v m. to_right m) l)) refl

-- an identifier as a list of them, and a formal parameter of the shortest form
pub sample_ids : (depth : ℕ) → Inhabited (Words spell.ids depth)
sample_ids depth =
    sample_as (λ (b : ℕ × Unit {0}). let i : Ids = record { first = b.0; more = [] } in i) (λ b w l. l) (sample_both (sample_leaf depth kind.identifier) sample_none)

sample_formal : (depth : ℕ) → Inhabited (Words spell.formal depth)
sample_formal depth =
    sample_as (λ (b : Ids × (Unit {0} × (Unit {0} × ℕ))). let f : Formal = record { names = b.0; mode = None; mark = b.1.1.1 } in f) (λ b w l. l)
    (sample_both (sample_ids depth) (sample_both (sample_free depth kind.colon) (sample_both sample_none (sample_leaf depth kind.identifier))))

formals_begin : (depth : ℕ) (t : Symbol) → kind.open_round ≡ t.kind → Begins (Words spell.formals depth) (t ∷ [])
formals_begin depth t is_kind =
    begins_held (suc depth) kind.open_round t is_kind (λ (b : (Formal × Unit {0}) × Unit {0}). let x : Formals = record { bracket = t.number; first = b.0.0; more = [] } in x) (λ b w l. l)
    (sample_both (sample_both (sample_formal (suc depth)) sample_none) (sample_free (suc depth) kind.close_round))

pub rule_formals : (limit n depth : ℕ) → n + depth ≡ limit → Rule limit round_sets (Words spell.formals depth) (reader.formals n)
unfolding reader.formals
rule_formals limit zero depth e =
    let over : limit < suc depth = omega (arith, e) in record {
      exact = exact_too_deep round_sets (Words spell.formals depth) (λ x w l. first_held limit (suc depth) (kind.open_round ∷ []) kind.open_round x.bracket w over refl l) (λ t h. formals_begin depth t (kind_is t kind.open_round h)) refl;
      sample = sample_of (Words spell.formals depth) kind.open_round (formals_begin depth);
    }
rule_formals limit (suc n) depth e = rule_open_formals limit depth (omega (arith, e))

pub rule_maybe_formals : (limit n depth : ℕ) → n + depth ≡ limit → Rule limit (record { first = kind.open_round ∷ []; nullable = true; follow_last = kind.open_round ∷ [] }) (Words (optional_of spell.formals) depth) (reader.maybe_formals n)
unfolding reader.maybe_formals
rule_maybe_formals limit n depth e = maybe spell.formals depth (kind.open_round ∷ []) (rule_formals limit n depth e) refl refl refl
