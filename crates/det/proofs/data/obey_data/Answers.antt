use Rattle.std.proofs.Common.{sym}
use Rattle.det.proofs.TakeLaws.{data_passed, data_obeyed}
use Rattle.det.proofs.data.obey_data.Goals as goal

pub returns-else-not-is_passed : goal.returns-else-not-is_passed
returns-else-not-is_passed c = data_passed _ _ _ _ (sym c.if-not-is_passed.ensures)

pub returns-then-not-is_passed : goal.returns-then-not-is_passed
returns-then-not-is_passed c = data_obeyed _ _ _ _ (sym c.if-not-is_passed.ensures) c.take_data.ensures
