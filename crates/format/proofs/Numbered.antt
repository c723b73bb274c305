-- The number of a refusal is one more than its tag. Assumes nothing.
use mathlib.Core.Path.{◌≡◌, refl, sym, ap, ◌∙◌}
use Prim.Native.Nat.{ℕ, suc, ◌≤◌}
use native.Mathlib.Omega.{arith}
use denote.Enum.Declared.{tag_of}
use Rattle.format.specs.declared.Refusal.{Refusal}
use Rattle.format.specs.declared.Refusal.TheVariants.{Room, Place, Short, Number, SubType, NoMask, OtherIssue, System, Reserved, Size, Network, Value, Changed}
use Rattle.format.specs.Answers.{number_of}
use Rattle.format.specs.contracts.Refusal.{the_type}

pub number_tag : (r : Refusal) → number_of r ≡ suc (tag_of the_type r)
unfolding number_of
number_tag Room = refl
number_tag Place = refl
number_tag Short = refl
number_tag Number = refl
number_tag SubType = refl
number_tag NoMask = refl
number_tag OtherIssue = refl
number_tag System = refl
number_tag Reserved = refl
number_tag Size = refl
number_tag Network = refl
number_tag Value = refl
number_tag Changed = refl

-- so is what each arm of a match answers
pub by_tag : (r : Refusal) (k : ℕ) → tag_of the_type r ≡ k → suc k ≡ number_of r
by_tag r k e = sym (number_tag r ∙ ap suc e)

pub number_small : (r : Refusal) → number_of r ≤ 13
unfolding number_of
number_small Room = omega arith
number_small Place = omega arith
number_small Short = omega arith
number_small Number = omega arith
number_small SubType = omega arith
number_small NoMask = omega arith
number_small OtherIssue = omega arith
number_small System = omega arith
number_small Reserved = omega arith
number_small Size = omega arith
number_small Network = omega arith
number_small Value = omega arith
number_small Changed = omega arith
