use Rattle.std.proofs.Common.{◌≡◌, ◌-◌, length}
use Rattle.pad.specs.Host.{prints_lf}
use Rattle.rules.specs.Session.{screen, state}
use Rattle.det.specs.Inner.Take.{Taking}
use Rattle.det.proofs.operation.take_all.Given as goal

-- the bytes taken did what the rules say
abbrev pub invariant-loop-from : goal.invariant-loop-from
invariant-loop-from l =
    Taking (state l.initial.now (screen l.fn.chars l.fn.attrs l.fn.marks)) l.input 0
    l.initial.reply (state l.now (screen l.chars l.attrs l.marks)) l.from l.reply
    × (length l.chars ≡ length l.fn.chars)
    × (length l.attrs ≡ length l.fn.attrs)
    × (length l.marks ≡ length l.fn.marks)
    × (l.lf ≡ prints_lf l.now.pad.values)

abbrev pub decreases-loop-from : goal.decreases-loop-from
decreases-loop-from l = length l.input - l.from
