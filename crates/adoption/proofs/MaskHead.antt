-- The head of a mask message: where its program ends well, it is the one that its first bits say. Assumes nothing.
use Rattle.bits.proofs.Words.{◌≡◌, refl, sym, ap, ◌∙◌, List, ℕ, ◌+◌}
use native.Mathlib.Omega.{arith}
use lib.IntN.{pos}
use Rattle.adoption.specs.Adoptions.{head_at}
use Rattle.adoption.specs.Stages.{with_systems}
use Rattle.bits.proofs.Short.{field_whole}
use Rattle.bits.specs.declared.read.Short.{Short}
use Rattle.std.specs.Prelude.{Result, Ok, Err}
use Rattle.bits.specs.Places.{field}
use Rattle.bits.specs.Short.{taken_at}
use Rattle.format.proofs.Ends.{gave, then_well, then_badly, number_began, onward}
use Rattle.format.proofs.Runs.{not_well}
use Rattle.format.proofs.Steps.{Gives, gives_bind, gives_itself, gives_done}
use Rattle.format.specs.declared.Head.{Head}
use Rattle.format.specs.Ends.{Within, end_from}
use Rattle.format.specs.Masks.{Mask}
use Rattle.format.specs.Messages.{Adopted, common, mask_message, mask_type, systems}
use Rattle.format.specs.Programs.{well}
use Rattle.format.specs.Rows.{absent}
use Rattle.heads.proofs.Commons.{taken_whole, taken_short, common_whole, common_short}
use Rattle.heads.specs.Headings.{head_with}
use Rattle.heads.specs.Heads.{common_of, head_from}

-- the systems do not change it
same_head_lem : (head : Head) (n : ℕ) (m : Mask) → Gives (with_systems head n m) (λ d b. d.head ≡ head)
unfolding with_systems
same_head_lem head n m = gives_bind (gives_itself (systems n m.systems)) λ all b _. gives_done refl

pub head_there : {bs : List ℕ} {end place : ℕ} → Within bs end place → {d : Adopted} {next : ℕ} → end_from mask_message bs end place ≡ well d next → d.head ≡ head_at bs place
unfolding mask_message with_systems head_with common_of head_at
head_there {bs} {end} {place} at {d} {next} ends = go (taken_at bs end place 29) refl
  where
    go : (t : Result ℕ Short) → taken_at bs end place 29 ≡ t → d.head ≡ head_at bs place
    go (Ok n) took =
        let it = common_whole at 20 (omega arith) (sym (taken_whole at 20 took refl)) in
        let begun = number_began it.after 4 _ (sym (then_well at (common 20) _ it.ran) ∙ ends) in
        (gave (onward at begun.0) _ (same_head_lem _ _ _) begun.1).1
        ∙ ap (λ (k : ℕ). head_with mask_type (head_from k) (pos (field bs (place + 29) 4)) absent absent) (field_whole bs end place 29 n took).1
    go (Err s) took = absurd (not_well _ _ d next (sym (then_badly at (common 20) _ (common_short at 20 (sym (taken_short at 20 took refl)))) ∙ ends))
