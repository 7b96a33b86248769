use Rattle.det_abi.proofs.CallLaws.{key_none, key_done}
use Rattle.det_abi.proofs.calls.det_key.Goals as goal

pub returns-then-not-is_session : goal.returns-then-not-is_session
returns-then-not-is_session c = key_none _ _ _ c.if-not-is_session.ensures c.no_session.ensures _

pub returns : goal.returns
returns c = key_done _ _ _ c.if-not-is_session.ensures c.decode.ensures c.give.ensures _ c.key_byte.ensures c.key-answer.ensures
