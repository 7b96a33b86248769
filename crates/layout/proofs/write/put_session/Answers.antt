use Rattle.layout.proofs.Kit.{arith}
use Rattle.layout.proofs.CopyLaws.{session_put}
use Rattle.layout.proofs.write.put_session.Goals as goal

pub returns : goal.returns
returns c = session_put c.args.session (omega arith) c.put_frame.ensures c.put_reader.ensures c.put_pad.ensures c.put_rest.ensures
