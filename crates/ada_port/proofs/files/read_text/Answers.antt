use Rattle.ada_port.proofs.Transfers.{fetched-front}
use Rattle.ada_port.proofs.files.read_text.Goals as goal

pub returns-clause-bytes : goal.returns-clause-bytes
returns-clause-bytes g c =
    fetched-front g.F.Read.remaining c.args.file c.take-front.result _ _ _ c.take-front.ensures.limit c.take-front.ensures.inner c.new-text.ensures.items c.in_ok-read_to_end.ensures.bytes c.truncate.ensures.items
