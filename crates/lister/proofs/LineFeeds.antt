-- Where a line ends in a piece of input, byte by byte. Assumes nothing.
use mathlib.Core.Path.{◌≡◌, refl, sym, ap, ◌∙◌}
use mathlib.Core.Bool.{Bool, true, false, cond, not}
use mathlib.Core.List.{List, [], ◌∷◌}
use Prim.Native.Nat.{ℕ, zero, suc, ◌+◌, ◌-◌, ◌≤◌, ◌<◌, min}
use native.Mathlib.Numerals.{unary_clauses}
use native.Mathlib.Omega.{arith}
use lib.Dec.{eqb, ltb}
use lib.ListN.{length, get_or}
use borrow.Author.Tests.{ltb-true, ltb-false}
use Rattle.std.specs.Prelude.{Some, None}
use Rattle.std.specs.List.{position, position_or_len}
use Rattle.std.proofs.lemmas.Option.{cond_some, none-some}
use Rattle.format.specs.Text.{line_feed}
use Rattle.lister.specs.declared.Work.TheVariants.{Gathering, Whole}
use Rattle.lister.specs.Gathering.{up_to, ends_in, filled_to, gathered}

-- by the place of the first line feed
feed_at : (piece : List ℕ) → up_to piece ≡ min (position_or_len (λ c. eqb c line_feed) piece + 1) (length piece)
unfolding up_to
feed_at [] = refl
feed_at (c ∷ cs) = go (eqb c line_feed) (position_or_len (λ c. eqb c line_feed) cs) (feed_at cs)
  where
    go : (b : Bool) (k : ℕ) → up_to cs ≡ min (k + 1) (length cs) → cond b 1 (suc (up_to cs)) ≡ min (cond (not b) (1 + k) 0 + 1) (suc (length cs))
    go true k e = omega arith
    go false k e = omega (arith, e)

module _ (piece : List ℕ) where
  pub feed_here : (i : ℕ) → position (λ c. eqb c line_feed) piece ≡ Some i → i + 1 ≡ up_to piece
  feed_here i e =
      let found = cond_some _ _ _ e in
      omega (arith, feed_at piece, found.1, ltb-true _ _ found.0)

  pub feed_never : position (λ c. eqb c line_feed) piece ≡ None → length piece ≡ up_to piece
  feed_never e = go (ltb (position_or_len (λ c. eqb c line_feed) piece) (length piece)) refl e
    where
      go : (b : Bool) → ltb (position_or_len (λ c. eqb c line_feed) piece) (length piece) ≡ b → cond b (Some (position_or_len (λ c. eqb c line_feed) piece)) None ≡ None → length piece ≡ up_to piece
      go true t e = absurd (none-some _ (sym e))
      go false t e = omega (arith, feed_at piece, ltb-false _ _ t)

pub up_to_le : (piece : List ℕ) → up_to piece ≤ length piece
unfolding up_to
up_to_le [] = omega arith
up_to_le (c ∷ cs) = go (eqb c line_feed) (up_to_le cs)
  where
    go : (b : Bool) → up_to cs ≤ length cs → cond b 1 (suc (up_to cs)) ≤ suc (length cs)
    go true near = omega arith
    go false near = omega arith

pub up_to_some : (c : ℕ) (cs : List ℕ) → 0 < up_to (c ∷ cs)
unfolding up_to
up_to_some c cs = go (eqb c line_feed)
  where
    go : (b : Bool) → 0 < cond b 1 (suc (up_to cs))
    go true = omega arith
    go false = omega arith

-- the line ends in the piece if the last byte of its that belongs to the line is a line feed
later : (c : ℕ) (cs : List ℕ) (n : ℕ) → 0 < n → get_or (c ∷ cs) (suc n - 1) 0 ≡ get_or cs (n - 1) 0
later c cs zero some = absurd (omega arith)
later c cs (suc n) some = simp unary_clauses refl

last_feed : (c : ℕ) (cs : List ℕ) → ends_in (c ∷ cs) ≡ eqb (get_or (c ∷ cs) (up_to (c ∷ cs) - 1) 0) line_feed
unfolding up_to ends_in
last_feed c [] = go (eqb c line_feed) refl
  where
    go : (b : Bool) → eqb c line_feed ≡ b → cond b true false ≡ eqb (get_or (c ∷ []) (cond b 1 1 - 1) 0) line_feed
    go true e = sym e
    go false e = sym e
last_feed c (d ∷ cs) = go (eqb c line_feed) refl (last_feed d cs)
  where
    go : (b : Bool) → eqb c line_feed ≡ b → ends_in (d ∷ cs) ≡ eqb (get_or (d ∷ cs) (up_to (d ∷ cs) - 1) 0) line_feed
        → cond b true (ends_in (d ∷ cs)) ≡ eqb (get_or (c ∷ d ∷ cs) (cond b 1 (suc (up_to (d ∷ cs))) - 1) 0) line_feed
    go true e same = sym e
    go false e same = same ∙ ap (λ (n : ℕ). eqb n line_feed) (sym (later c (d ∷ cs) (up_to (d ∷ cs)) (up_to_some d cs)))

-- what is then under way, by the last byte
pub some_gathered : (room filled : ℕ) (piece : List ℕ) → 0 < up_to piece
    → gathered room filled piece ≡ cond (eqb (get_or piece (up_to piece - 1) 0) line_feed) (Whole (filled_to room filled (up_to piece))) (Gathering (filled_to room filled (up_to piece)))
unfolding gathered up_to
some_gathered room filled [] some = absurd (omega arith)
some_gathered room filled (c ∷ cs) some = rw (last_feed c cs)

pub none_gathered : (room filled : ℕ) (piece : List ℕ) → up_to piece ≡ 0 → gathered room filled piece ≡ cond (eqb filled 0) (Gathering 0) (Whole filled)
unfolding gathered up_to
none_gathered room filled [] none = refl
none_gathered room filled (c ∷ cs) none = absurd (omega (arith, up_to_some c cs))
