-- A test that a function answers: what is known where it is passed, and where it is not.
use Rattle.std.proofs.Common.{◌≡◌, sym, ◌∙◌, Bool, true, false, not}
use borrow.Author.Tests.{not-true, not-false}

module _ {found test : Bool} (e : found ≡ test) where
  -- what `if !found` knows, and what comes after it
  pub failing : not found ≡ true → test ≡ false
  failing h = sym e ∙ not-true found h

  pub passing : not found ≡ false → test ≡ true
  passing h = sym e ∙ not-false found h
