use Rattle.std.proofs.Common.{rules}
use Rattle.det.proofs.ApplyLaws.{draws_end}
use Rattle.det.proofs.KeyLaws.{line_settled}
use Rattle.det.proofs.operation.take_line.Goals as goal

pub returns : goal.returns
returns c =
    line_settled _ _ _ c.requires.not_refused c.requires.line_takes c.send_line-written.ensures (draws_end c.echo_key.ensures (search rules))
    c.type_key.ensures
