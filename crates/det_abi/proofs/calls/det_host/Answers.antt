use Rattle.det_abi.proofs.CallLaws.{host_none, host_done}
use Rattle.det_abi.proofs.calls.det_host.Goals as goal

pub returns-then-not-is_session : goal.returns-then-not-is_session
returns-then-not-is_session c = host_none _ _ _ c.if-not-is_session.ensures c.no_session.ensures _

pub returns : goal.returns
returns c = host_done _ _ _ c.if-not-is_session.ensures c.decode.ensures c.give.ensures _ c.host_bytes-answer.ensures
