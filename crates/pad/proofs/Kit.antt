-- What the proofs of this crate take from the kit and from `words`, under one name.
pub use mathlib.Core.Path.{◌≡◌, refl, sym, ap, ◌∙◌}
pub use mathlib.Core.Bool.{Bool, true, false, not, ◌&&◌, ◌||◌, beq as Bool·beq}
pub use mathlib.Core.List.{List, [], ◌∷◌, ◌++◌, map, append_assoc}
pub use Prim.Native.Nat.{ℕ, zero, suc, ◌+◌, ◌*◌, ◌-◌, ◌/◌, ◌%◌, ◌≤◌, ◌<◌, min}
pub use native.Mathlib.Nat.{add-zero, zero-add, add-suc, suc-add}
pub use native.Mathlib.Numerals.{add-one}
pub use native.Mathlib.Omega.{arith}
pub use lib.Dec.{eqb, leb, ltb}
pub use lib.ListN.{length, get_or, take, drop, set, replicate, length-append, length-take, length-replicate, get_or-eq_default as List·getD-eq-default}
pub use lib.Seq.{take-append_seam, take-length, take-suc, take-take, set_at, set_out, get_or-take, get_or-set_same, get_or-set_other, length-take-le}
pub use borrow.Author.Rules.{rules}
pub use borrow.Author.Tests.{ltb-true, leb-true, eqb-true, eqb-false, lt-ltb, le-ltb, le-leb, lt-leb, ne_eqb, not-true, not-false}
pub use Rattle.words.specs.Words.{between}
unfoldable pub use Rattle.words.specs.Words.{bit}
pub use Rattle.words.proofs.Laws.{either, true_or_false, less_or_not, not_both, and_left, and_right, both, and_true, and_false, in_between, below_between, above_between}

-- the worked cases are checked before every other proof, so that a wrong definition is refused there, by a title
