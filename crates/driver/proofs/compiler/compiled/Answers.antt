use Rattle.driver.specs.Compile.{from_tokens, lexing}
use Rattle.driver.specs.Compiled.{compiled_of}
use Rattle.driver.proofs.Steps.{decides_next, refuses_first}
use Rattle.driver.proofs.compiler.compiled.Goals as goal

pub returns-in-Ok-clause-unit : goal.returns-in-Ok-clause-unit
returns-in-Ok-clause-unit c = decides_next lexing (λ text. from_tokens) compiled_of c.args.text.now _ c.unit_of.result c.in-Ok.ensures c.unit_of.ensures.unit

pub returns-in-Err-clause-unit : goal.returns-in-Err-clause-unit
returns-in-Err-clause-unit c = refuses_first lexing (λ text. from_tokens) c.args.text.now c.in-Err.refusal c.in-Err.ensures
