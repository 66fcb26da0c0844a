use Rattle.std.proofs.Common.{◌≡◌}
use Rattle.name_programs.proofs.Wholes.{main_so}
use Rattle.typed_parts.specs.Stack.{parts}
use Rattle.name_programs.proofs.programs.main.Goals as goal

pub returns : goal.returns
returns c =
    main_so _ _ _ _ _ _ _ _ _ _ _ _ _ _ _ _ _ _ _ _ _ _ _ _ _ (parts c.units.new.judge.out) (parts c.body.new.judge.out) _ _ c.main-view.ensures.is c.in_ok-up.ensures c.len-start.ensures c.in_ok-nonblocking.ensures.0 c.in_ok-nothing.ensures c.new-heads.ensures c.in_ok-sound.ensures c.in_ok-held.ensures.0 c.in_ok-held.ensures.1 c.in_ok-end_name.ensures c.both-whole.ensures
