-- A line gathered piece by piece, cut where the line buffer is full, is listed as the whole line is. Assumes nothing.
use mathlib.Core.Path.{◌≡◌, refl, sym, ap, ◌∙◌}
use mathlib.Core.Bool.{Bool, true, false, cond}
use mathlib.Core.List.{List, [], ◌∷◌, ◌++◌, append_assoc, append-nil}
use Prim.Native.Nat.{ℕ, zero, suc, ◌+◌, ◌-◌, ◌≤◌, ◌<◌, min}
use native.Mathlib.Nat.{le_refl}
use native.Mathlib.Omega.{arith}
use lib.Dec.{eqb}
use lib.ListN.{length, take, drop, length-append, length-take}
use lib.Seq.{sets-eq, take-nil, take-take, take_at, take-append-add, length-take-le}
use borrow.Author.Tests.{eqb-true, eqb-false}
use Rattle.format.specs.Listing.{line_says, lines_from, list_lines}
use Rattle.format.specs.Masks.{Held}
use Rattle.format.specs.Text.{line_feed}
use Rattle.lister.specs.declared.Work.TheVariants.{Gathering, Whole}
use Rattle.lister.specs.Gathering.{up_to, ends_in, kept_in, filled_to, gathered}
use Rattle.lister.specs.Owed.{owed_by}
use Rattle.lister.specs.Steps.{line_room}
use Rattle.lister.proofs.LineFeeds.{up_to_le}
use Rattle.lister.proofs.LongLines.{cut_says}

-- ---- lists that begin alike

-- what is cut before more comes is cut after it, too
take_cut : (n : ℕ) (x z : List ℕ) → take n (take n x ++ z) ≡ take n (x ++ z)
take_cut zero x z = refl
take_cut (suc n) [] z = refl
take_cut (suc n) (a ∷ x) z = ap (◌∷◌ a) (take_cut n x z)

append_alike : (n : ℕ) (x y z : List ℕ) → take n x ≡ take n y → take n (x ++ z) ≡ take n (y ++ z)
append_alike n x y z e = sym (take_cut n x z) ∙ ap (λ (l : List ℕ). take n (l ++ z)) e ∙ take_cut n y z

-- ---- lines that begin alike up to the room are listed alike

module _ (room : ℕ) (large : line_room ≤ room) where
  says_alike : (x y : List ℕ) → take room x ≡ take room y → line_says x ≡ line_says y
  says_alike x y e = sym (cut_says room x large) ∙ ap line_says e ∙ cut_says room y large

  pub line_alike : (held : Held) (k : ℕ) (x y : List ℕ) (lines : List (List ℕ)) → take room x ≡ take room y
      → list_lines held k (x ∷ lines) ≡ list_lines held k (y ∷ lines)
  unfolding list_lines
  line_alike held k x y lines e = rw (says_alike x y e)

  -- none of them is empty alone
  both_empty : (y : ℕ) (ys : List ℕ) → take room [] ≡ take room (y ∷ ys) → ⊥
  both_empty y ys e = omega (arith, ap length e, length-take room (y ∷ ys), ap length (take-nil {A = ℕ} room))

  pub under_way_alike : (held : Held) (k : ℕ) (x y input : List ℕ) → take room x ≡ take room y → list_lines held k (lines_from x input) ≡ list_lines held k (lines_from y input)
  unfolding lines_from
  under_way_alike held k [] [] [] e = refl
  under_way_alike held k [] (y ∷ ys) [] e = absurd (both_empty y ys e)
  under_way_alike held k (x ∷ xs) [] [] e = absurd (both_empty x xs (sym e))
  under_way_alike held k (x ∷ xs) (y ∷ ys) [] e = line_alike held k (x ∷ xs) (y ∷ ys) [] e
  under_way_alike held k x y (c ∷ cs) e =
      go (eqb c line_feed) (append_alike room x y (c ∷ []) e) (under_way_alike held k (x ++ (c ∷ [])) (y ++ (c ∷ [])) cs)
    where
      go : (b : Bool) → take room (x ++ (c ∷ [])) ≡ take room (y ++ (c ∷ []))
          → (take room (x ++ (c ∷ [])) ≡ take room (y ++ (c ∷ [])) → list_lines held k (lines_from (x ++ (c ∷ [])) cs) ≡ list_lines held k (lines_from (y ++ (c ∷ [])) cs))
          → list_lines held k (cond b ((x ++ (c ∷ [])) ∷ lines_from [] cs) (lines_from (x ++ (c ∷ [])) cs))
          ≡ list_lines held k (cond b ((y ++ (c ∷ [])) ∷ lines_from [] cs) (lines_from (y ++ (c ∷ [])) cs))
      go true f rest = line_alike held k (x ++ (c ∷ [])) (y ++ (c ∷ [])) (lines_from [] cs) f
      go false f rest = rest f

-- ---- a piece of input

-- what comes of a piece to the line under way, and what is left
lines_piece : (before piece rest : List ℕ)
    → lines_from before (piece ++ rest)
    ≡ cond (ends_in piece) ((before ++ take (up_to piece) piece) ∷ lines_from [] (drop (up_to piece) piece ++ rest))
    (lines_from (before ++ take (up_to piece) piece) (drop (up_to piece) piece ++ rest))
unfolding lines_from up_to ends_in
lines_piece before [] rest = rw append-nil
lines_piece before (c ∷ cs) rest = go (eqb c line_feed) (lines_piece (before ++ (c ∷ [])) cs rest)
  where
    go : (b : Bool)
        → lines_from (before ++ (c ∷ [])) (cs ++ rest)
        ≡ cond (ends_in cs) ((before ++ (c ∷ []) ++ take (up_to cs) cs) ∷ lines_from [] (drop (up_to cs) cs ++ rest))
        (lines_from (before ++ (c ∷ []) ++ take (up_to cs) cs) (drop (up_to cs) cs ++ rest))
        → cond b ((before ++ (c ∷ [])) ∷ lines_from [] (cs ++ rest)) (lines_from (before ++ (c ∷ [])) (cs ++ rest))
        ≡ cond (cond b true (ends_in cs)) ((before ++ take (cond b 1 (suc (up_to cs))) (c ∷ cs)) ∷ lines_from [] (drop (cond b 1 (suc (up_to cs))) (c ∷ cs) ++ rest))
        (lines_from (before ++ take (cond b 1 (suc (up_to cs))) (c ∷ cs)) (drop (cond b 1 (suc (up_to cs))) (c ∷ cs) ++ rest))
    go true it = refl
    go false it = rw append_assoc at it

-- ---- the line buffer

-- it holds what has come up to its end
kept_front : (line : List ℕ) (filled : ℕ) (new : List ℕ) → filled ≤ length line
    → take (filled_to (length line) filled (length new)) (kept_in line filled new) ≡ take (length line) (take filled line ++ new)
unfolding filled_to kept_in
kept_front line filled new there =
    let room = length line in
    let before : List ℕ = take filled line in
    let kept : List ℕ = take (room - filled) new in
    let front : length before ≡ filled = length-take-le filled line there in
    let behind : length kept ≡ min (room - filled) (length new) = length-take (room - filled) new in
    let full : length (before ++ kept) ≡ min room (filled + length new) = length-append before kept ∙ omega arith in
    let stored = sets-eq kept line filled (omega arith) in
    let whole : room ≡ length before + (room - filled) = omega arith in
    ap (take (min room (filled + length new))) stored
    ∙ take_at (before ++ kept) (drop (filled + length kept) line) (min room (filled + length new)) full
    ∙ sym (ap (λ (n : ℕ). take n (before ++ new)) whole ∙ take-append-add before new (room - filled))

module _ (held : Held) (k : ℕ) (line : List ℕ) (filled : ℕ) (there : filled ≤ length line) (large : line_room ≤ length line) where
  -- no piece: what has come is a line, if anything
  ends_owed : (none : Bool) → eqb filled 0 ≡ none
      → list_lines held k (lines_from (take filled line) []) ≡ owed_by (cond none (Gathering 0) (Whole filled)) held k line []
  unfolding owed_by lines_from
  ends_owed true e = ap (λ (n : ℕ). list_lines held k (lines_from (take n line) [])) (eqb-true filled 0 e)
  ends_owed false e = go (take filled line) (omega (arith, eqb-false filled 0 e, length-take-le filled line there))
    where
      go : (l : List ℕ) → 0 < length l → list_lines held k (lines_from l []) ≡ list_lines held k (l ∷ [])
      go [] some = absurd (omega arith)
      go (x ∷ l) some = refl

  -- these bytes come to the line
  module _ (new : List ℕ) where
    abbrev full : ℕ
    full = filled_to (length line) filled (length new)

    cut : take (length line) (take filled line ++ new) ≡ take (length line) (take full (kept_in line filled new))
    cut = sym (ap (take (length line)) (kept_front line filled new there) ∙ take-take (length line) (length line) (take filled line ++ new) (le_refl (length line)))

    -- which ends with them or not
    comes_owed : (ended : Bool) (input : List ℕ)
        → list_lines held k (cond ended ((take filled line ++ new) ∷ lines_from [] input) (lines_from (take filled line ++ new) input))
        ≡ owed_by (cond ended (Whole full) (Gathering full)) held k (kept_in line filled new) input
    unfolding owed_by
    comes_owed true input = line_alike (length line) large held k _ _ (lines_from [] input) cut
    comes_owed false input = under_way_alike (length line) large held k _ _ input cut

  pub gathers_owed : (piece rest : List ℕ) → (piece ≡ [] → rest ≡ [])
      → owed_by (Gathering filled) held k line (piece ++ rest)
      ≡ owed_by (gathered (length line) filled piece) held k (kept_in line filled (take (up_to piece) piece)) (drop (up_to piece) piece ++ rest)
  unfolding owed_by gathered kept_in up_to
  gathers_owed [] rest last = rw (last refl, take-nil {A = ℕ} (length line - filled)) (ends_owed (eqb filled 0) refl)
  gathers_owed (c ∷ cs) rest last =
      let piece : List ℕ = c ∷ cs in
      let new : List ℕ = take (up_to piece) piece in
      let few : length new ≡ up_to piece = length-take-le (up_to piece) piece (up_to_le piece) in
      ap (list_lines held k) (lines_piece (take filled line) piece rest)
      ∙ comes_owed new (ends_in piece) (drop (up_to piece) piece ++ rest)
      ∙ ap (λ (n : ℕ). owed_by (cond (ends_in piece) (Whole (filled_to (length line) filled n)) (Gathering (filled_to (length line) filled n))) held k (kept_in line filled new) (drop (up_to piece) piece ++ rest)) few
