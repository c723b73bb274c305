-- The words that most proofs use, under one name: equality, truth values, lists, numbers and their tests, and what `omega` and `search` go by. Assumes nothing.
pub use mathlib.Core.Path.{◌≡◌, refl, sym, ap, ap₂, ◌∙◌, subst}
pub use mathlib.Core.Bool.{Bool, true, false, cond, ◌&&◌, not}
pub use mathlib.Core.List.{List, [], ◌∷◌, ◌++◌, map}
pub use Prim.Native.Nat.{ℕ, zero, suc, ◌+◌, ◌-◌, ◌*◌, ◌/◌, ◌%◌, ◌^◌, ◌≤◌, ◌<◌}
pub use native.Mathlib.Numerals.{add-one}
pub use native.Mathlib.Omega.{arith}
pub use borrow.Author.Rules.{rules}
pub use lib.Dec.{eqb, ltb, leb}
pub use lib.IntN.{ℤ, pos}
pub use lib.ListN.{length, get_or, take, drop}
