use Rattle.std.proofs.Common.{◌≡◌, ◌∙◌}
use Rattle.name_programs.proofs.Wholes.{profile_so}
use Rattle.name_programs.proofs.profiles.profile.Goals as goal

pub returns : goal.returns
returns c = (
  profile_so _ _ _ _ _ _ _ _ _ _ _ _ _ _ _ _ _ _ _ _ _ _ _ _ _ c.in_ok-owner.ensures c.len-before.ensures c.in_ok-inner.ensures c.is_function-function.ensures c.in_ok-whole.ensures.0 c.in_ok-gives.ensures.0 c.in_ok-one.ensures c.in_ok-number.ensures c.returns_of.ensures c.in_ok-inside.ensures c.taken_or.ensures c.gives_or.ensures,
  c.in_ok-gives.ensures.1 ∙ c.in_ok-whole.ensures.1,
)
