-- Lists of kinds that can be told apart, one after another.
use Rattle.std.proofs.Common.{◌≡◌, ℕ, true, ◌==◌, List, [], ◌∷◌, ◌++◌, ◌∙◌}
use Rattle.std.proofs.lemmas.Bool.{and_parts, and_from, not-true}
use Rattle.std.proofs.lemmas.List.Folds.{list_all-append}
use Rattle.ada_base.specs.Kinds.{tick}
use Rattle.syntax_print.specs.Spoken.{is_spoken, ticks_followed, AreSpoken}

ticks_append : (u v : List ℕ) → ticks_followed u ≡ true → ticks_followed v ≡ true → ticks_followed (u ++ v) ≡ true
ticks_append [] v h k = k
ticks_append (a ∷ []) [] h k = h
ticks_append (a ∷ []) (b ∷ v) h k = rw (not-true (a == tick) h) k
ticks_append (a ∷ b ∷ u) v h k = let parts = and_parts _ _ h in and_from _ _ parts.0 (ticks_append (b ∷ u) v parts.1 k)

pub are_spoken_append : (u v : List ℕ) → AreSpoken u → AreSpoken v → AreSpoken (u ++ v)
are_spoken_append u v s t = record { each = list_all-append is_spoken u v ∙ and_from _ _ s.each t.each; ticks = ticks_append u v s.ticks t.ticks }
