-- What the proofs of this crate take from the kit and from `words`, under one name.
pub use mathlib.Core.Path.{◌≡◌, refl, sym, ◌∙◌}
pub use mathlib.Core.Bool.{Bool, true, false, not, ◌&&◌}
pub use mathlib.Core.List.{List, [], ◌∷◌, ◌++◌, append_assoc, append-nil}
pub use mathlib.Core.Logic.{⊎_elim}
pub use Prim.Native.Nat.{ℕ, zero, suc, ◌+◌, ◌*◌, ◌-◌, ◌/◌, ◌%◌, ◌≤◌, ◌<◌}
pub use native.Mathlib.Numerals.{add-one}
pub use native.Mathlib.Omega.{arith}
pub use lib.Dec.{eqb, ltb}
pub use lib.ListN.{length, get_or, take, set, replicate, length-append, length-take, length-set, length-replicate, get_or-replicate, get_or-eq_default as List·getD-eq-default}
pub use lib.Seq.{take-suc, take_all, set_out}
pub use borrow.Author.Rules.{rules}
pub use borrow.Author.Tests.{leb-false, lt-ltb, le-ltb, le-leb, lt-leb, eq-eqb, ne_eqb, not-true, not-false}
unfoldable pub use Rattle.words.specs.Words.{bit, tabulate}
pub use Rattle.words.specs.Stored.{Emitted}
pub use Rattle.words.proofs.Laws.{either, true_or_false, less_or_not, not_both, both, above_between, get_d_tabulate}
pub use Rattle.words.proofs.StoredLaws.{emitted_none, emitted_length, emitted_then}

-- the worked cases are checked before every other proof, so that a wrong definition is refused there, by a title
