-- A list of kinds has at most one tree, however deep.
use Rattle.std.proofs.Common.{◌≡◌, ℕ, ◌+◌, ◌≤◌, List, [], ◌∷◌, false, inl, inr, sym, ap, ◌∙◌, arith}
use Rattle.ada_base.specs.Symbols.{Word, symbols_of, is_member}
use Rattle.syntax_readers.specs.Readers.{Reader}
use Rattle.ada_base.specs.Languages.{Language}
use Rattle.syntax_readers.specs.Sets.{Sets}
use Rattle.ada_base.specs.Derivations.{AllWithin}
use Rattle.syntax_readers.specs.Exact.{Reads, Rule}
use Rattle.ada_base.specs.Derivations.{Derives}
use Rattle.syntax_readers.proofs.Answers.{found_is}
use Rattle.syntax_readers.proofs.Words.{not_within}
use Rattle.syntax_readers.proofs.RightAnswers.{on_word}

-- a depth that no symbol of a word passes
depth_of : Word → ℕ
depth_of [] = 0
depth_of (c ∷ w) = c.depth + depth_of w

AllWithin-larger : (w : Word) (limit larger : ℕ) → limit ≤ larger → AllWithin limit w → AllWithin larger w
AllWithin-larger [] limit larger le h = tt
AllWithin-larger (c ∷ w) limit larger le h = (omega (arith, le, h.0), AllWithin-larger w limit larger le h.1)

AllWithin-depth_of : (w : Word) → AllWithin (depth_of w) w
unfolding depth_of
AllWithin-depth_of [] = tt
AllWithin-depth_of (c ∷ w) = (omega arith, AllWithin-larger w (depth_of w) (c.depth + depth_of w) (omega arith) (AllWithin-depth_of w))

-- two trees of one word within the limit are one
one_within : {limit : ℕ} {A : Type 0} {s : Sets} {L : A → Language} {p : Reader A} → Rule limit s L p → is_member s.follow_last 0 ≡ false
    → (a b : A) (u v : Word) → L a u → L b v → symbols_of u ≡ symbols_of v → AllWithin limit u → AllWithin limit v → a ≡ b
one_within {limit} {A} {p} h no_end a b u v l m e within within' = at (on_word h no_end a u l) (on_word h no_end b v m) where
  at : Reads limit a u [] (p (symbols_of u)) → Reads limit b v [] (p (symbols_of v)) → a ≡ b
  at (inl (_, k)) (inl (_, k')) = found_is a b (ap (λ z. z.0) (sym k ∙ ap p e ∙ k'))
  at (inr (f, c, x, ew, _, over, _)) _ = absurd (not_within limit u f c x ew within over)
  at _ (inr (f, c, x, ew, _, over, _)) = absurd (not_within limit v f c x ew within' over)

-- with a reader for each limit, two trees that derive one list are one
pub one_tree : {A : Type 0} {s : Sets} {L : A → Language} (p : ℕ → Reader A) → ((limit : ℕ) → Rule limit s L (p limit)) → is_member s.follow_last 0 ≡ false
    → (ks : List ℕ) (a b : A) → Derives L ks a → Derives L ks b → a ≡ b
one_tree p rule no_end ks a b (u, l, e) (v, m, f) =
    let limit = depth_of u + depth_of v in
    one_within (rule limit) no_end a b u v l m (e ∙ sym f)
    (AllWithin-larger u (depth_of u) limit (omega arith) (AllWithin-depth_of u)) (AllWithin-larger v (depth_of v) limit (omega arith) (AllWithin-depth_of v))
