use Rattle.name_flow.proofs.FlowPrograms.{flow_law}
use Rattle.name_flow.proofs.FreshPrograms.{fresh_law}
use Rattle.name_flow.proofs.Once.{objects_law}
use Rattle.name_flow.proofs.laws.Goals as goal

pub returns : goal.returns
returns c = record { flow = flow_law; fresh = fresh_law; objects = objects_law }
