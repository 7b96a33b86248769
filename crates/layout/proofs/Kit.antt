-- What the proofs of this crate take from the kit and from `words`, under one name.
pub use mathlib.Core.Path.{◌≡◌, refl, sym, ap, subst, ◌∙◌}
pub use mathlib.Core.Bool.{Bool, true, false, ◌&&◌, ◌||◌}
pub use mathlib.Core.List.{List, [], ◌∷◌, ◌++◌, append-nil}
pub use Prim.Native.Nat.{ℕ, zero, suc, ◌+◌, ◌-◌, ◌≤◌, ◌<◌}
pub use native.Mathlib.Nat.{zero-add}
pub use native.Mathlib.Numerals.{add-one}
pub use native.Mathlib.Omega.{arith}
pub use lib.Dec.{eqb, leb}
pub use lib.ListN.{length, set, take, drop, replicate, length-set, length-append, length-drop, length-replicate, drop_of_length-le}
pub use lib.Seq.{sets-eq, get_or-take, get_or-drop, length-take-le, take-length}
pub use borrow.Rule.Slice.PartMut.{put_mid}
pub use Rattle.std.proofs.lemmas.Slice.{put_mid-paste}
pub use borrow.Author.Rules.{rules}
pub use borrow.Author.Tests.{leb-true, eqb-true, eqb-false, le-leb, lt-leb, eq-eqb, ne_eqb, not-true, not-false}
unfoldable pub use Rattle.words.specs.Words.{tabulate}
pub use Rattle.words.specs.Stored.{Emitted}
pub use Rattle.words.proofs.Laws.{true_or_false, and_left, and_right, tabulated}
pub use Rattle.words.proofs.StoredLaws.{emitted_then, emitted_whole}
