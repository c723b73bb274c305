-- What is under way after a piece, by how many of its bytes belong to the line. Assumes nothing.
use mathlib.Core.Path.{◌≡◌, refl, sym, ap, ◌∙◌}
use mathlib.Core.Bool.{cond}
use mathlib.Core.List.{List}
use Prim.Native.Nat.{ℕ, zero, suc, ◌-◌, ◌≤◌, ◌<◌}
use native.Mathlib.Omega.{arith}
use lib.Dec.{eqb}
use lib.ListN.{length, get_or, take}
use lib.Seq.{length-take-le, get_or-take}
use Rattle.std.specs.Prelude.{Some, None}
use Rattle.std.specs.List.{slice_get}
use Rattle.std.proofs.lemmas.Option.{slice_get_within, get_or_from_slice_get, slice_get-get_or, none-some}
use borrow.Author.Tests.{eq-eqb, ne_eqb}
use Rattle.format.specs.Text.{line_feed}
use Rattle.lister.specs.declared.Work.TheVariants.{Gathering, Whole}
use Rattle.lister.specs.Gathering.{up_to, filled_to, gathered}
use Rattle.lister.proofs.LineFeeds.{some_gathered, none_gathered, up_to_le}

module _ (room filled : ℕ) (piece : List ℕ) {n to : ℕ} (e : n ≡ up_to piece) (kept : to ≡ filled_to room filled (length (take n piece))) where
  full : to ≡ filled_to room filled (up_to piece)
  full = kept ∙ rw e (ap (filled_to room filled) (length-take-le (up_to piece) piece (up_to_le piece)))

  long : length (take n piece) ≡ n
  long = length-take-le n piece (omega (arith, e, up_to_le piece))

  -- by the last of them
  by_last : {x : ℕ} → Some x ≡ slice_get (take n piece) (length (take n piece) - 1) → cond (eqb x line_feed) (Whole to) (Gathering to) ≡ gathered room filled piece
  by_last {x} last =
      let new : List ℕ = take n piece in
      let some : 0 < n = omega (arith, long, slice_get_within new (length new - 1) x (sym last)) in
      let there : n - 1 < n = omega arith in
      let same : x ≡ get_or piece (n - 1) 0 = sym (get_or_from_slice_get new (length new - 1) x 0 (sym last)) ∙ rw long (get_or-take n piece (n - 1) 0 there) in
      rw (same, e, full) (sym (some_gathered room filled piece (omega (arith, e))))

  pub line_ends : {x : ℕ} → Some x ≡ slice_get (take n piece) (length (take n piece) - 1) → x ≡ line_feed → Whole to ≡ gathered room filled piece
  line_ends last feed = rw (eq-eqb _ _ feed) at (by_last last)

  pub line_stays : {x : ℕ} → Some x ≡ slice_get (take n piece) (length (take n piece) - 1) → ¬ (x ≡ line_feed) → Gathering to ≡ gathered room filled piece
  line_stays last other = rw (ne_eqb _ _ other) at (by_last last)

  -- none: the input has ended
  none : None ≡ slice_get (take n piece) (length (take n piece) - 1) → n ≡ 0
  none last = go n refl
    where
      go : (k : ℕ) → n ≡ k → n ≡ 0
      go zero z = z
      go (suc k) z = absurd (none-some _ (last ∙ slice_get-get_or (take n piece) (length (take n piece) - 1) 0 (omega (arith, long, z))))

  alone : n ≡ 0 → filled ≤ room → to ≡ filled
  unfolding filled_to
  alone none there = full ∙ omega (arith, e)

  pub input_ends : None ≡ slice_get (take n piece) (length (take n piece) - 1) → filled ≤ room → 0 < filled → Whole to ≡ gathered room filled piece
  input_ends last there some =
      ap Whole (alone (none last) there) ∙ sym (none_gathered room filled piece (sym e ∙ none last) ∙ rw (ne_eqb filled 0 (λ z. omega arith)))

  pub nothing_comes : None ≡ slice_get (take n piece) (length (take n piece) - 1) → filled ≤ room → filled ≤ 0 → Gathering to ≡ gathered room filled piece
  nothing_comes last there empty =
      let zero : filled ≡ 0 = omega arith in
      ap Gathering (alone (none last) there ∙ zero) ∙ sym (none_gathered room filled piece (sym e ∙ none last) ∙ rw (eq-eqb filled 0 zero))
