use Rattle.std.proofs.Common.{sym, ◌∙◌}
use Rattle.std.proofs.lemmas.Result.{err_from_is_err_and}
use Rattle.rules.specs.Refusal.{size_tests}
use Rattle.admit.proofs.RefuseLaws.{passed_on, failed_first}
use Rattle.admit.proofs.refuse.refuse.Goals as goal

-- the tests of the sizes, then those of the state
pub returns-in_err-refuse_sizes : goal.returns-in_err-refuse_sizes
unfolding size_tests
returns-in_err-refuse_sizes c =
    let p = err_from_is_err_and c.from_residual.result c.from_residual.ensures.1 in
    rw (p.1, p.2) (sym (failed_first _ _ (sym c.in_err-refuse_sizes.ensures)))

pub returns : goal.returns
unfolding size_tests
returns c = c.refuse_state.ensures _ ∙ sym (passed_on _ _ (sym c.refuse_sizes.ensures ∙ c.in_ok-refuse_sizes.was))
