-- Bytes that come to a line. Assumes nothing.
use mathlib.Core.Path.{◌≡◌, refl, sym, ap, ◌∙◌}
use mathlib.Core.List.{List, [], ◌∷◌, ◌++◌, append_assoc}
use Prim.Native.Nat.{ℕ, zero, suc, ◌+◌, ◌-◌, ◌≤◌, min}
use native.Mathlib.Numerals.{unary_clauses}
use native.Mathlib.Omega.{arith}
use lib.ListN.{length, take, drop, length-take}
use lib.Seq.{sets-eq, drop-drop}
use Rattle.lister.specs.Gathering.{kept_in}

-- what finds room
pub all_kept : (room : ℕ) (new : List ℕ) → take (min (length new) room) new ≡ take room new
all_kept zero [] = refl
all_kept zero (c ∷ cs) = simp unary_clauses refl
all_kept (suc room) [] = simp unary_clauses refl
all_kept (suc room) (c ∷ cs) = simp unary_clauses (ap (λ (l : List ℕ). c ∷ l) (all_kept room cs))

-- the n bytes that find room, in the place of as many
pub part_kept : (line : List ℕ) (filled : ℕ) (new part : List ℕ) (n k : ℕ) → filled ≤ length line → n ≡ min (length new) (length line - filled) → k ≡ n → part ≡ take n new
    → take filled line ++ (part ++ drop k (drop filled line)) ≡ kept_in line filled new
unfolding kept_in
part_kept line filled new part n k there room count same =
    let kept : List ℕ = take (length line - filled) new in
    let whole : part ≡ kept = same ∙ rw room (all_kept (length line - filled) new) in
    let long : length kept ≡ n = length-take (length line - filled) new ∙ omega arith in
    let rest : drop k (drop filled line) ≡ drop (filled + length kept) line = drop-drop k filled line ∙ ap (λ (m : ℕ). drop (filled + m) line) (count ∙ sym long) in
    rw (whole, rest) (sym (append_assoc (take filled line) kept (drop (filled + length kept) line)) ∙ sym (sets-eq kept line filled (omega arith)))
