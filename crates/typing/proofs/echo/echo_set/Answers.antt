use Rattle.typing.proofs.Kit.{◌<◌, arith, lt-ltb, tabulate, get_d_tabulate}
use Rattle.typing.specs.Keys.{among}
use Rattle.typing.specs.Echo.{control_echo, echo_set}
use Rattle.typing.proofs.echo.echo_set.Goals as goal

-- the table of control characters is computed once from the definition
pub returns-in-0-to-31 : goal.returns-in-0-to-31
unfolding tabulate control_echo among echo_set
returns-in-0-to-31 c =
    let low : c.args.key < 32 = omega arith in
    rw (lt-ltb _ _ low) (get_d_tabulate control_echo 32 c.args.key 0 low)
