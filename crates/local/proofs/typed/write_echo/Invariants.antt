use Rattle.std.proofs.Common.{false}
use Rattle.pad.specs.Line.{text_of}
use Rattle.typing.specs.Echo.{bytes_of}
use Rattle.text.specs.Inner.Canvas.{Drawn}
use Rattle.local.proofs.typed.write_echo.Given as goal

abbrev pub invariant-loop-i : goal.invariant-loop-i
invariant-loop-i l = Drawn false false (bytes_of l.echo (text_of l.line)) l.fn.canvas l.i l.canvas
