use Rattle.det_abi.proofs.CallLaws.{open_done}
use Rattle.det_abi.proofs.calls.det_open.Goals as goal

pub returns : goal.returns
returns c =
    open_done _ _ _ _ _ c.if-session-ne-SESSION_LENGTH.false c.open-answer.ensures c.tell.ensures.number c.tell.ensures.session
