-- The receivers of demand 3 are those of the code: one that keeps the walk's holding from stretch to stretch, and one in C that keeps its bytes.
-- Assumes nothing.
use mathlib.Core.Path.{◌≡◌, refl, ap, ◌∙◌}
use mathlib.Core.Bool.{true, false≢true}
use mathlib.Core.List.{List}
use Prim.Native.Nat.{ℕ, ◌≤◌}
use lib.IntN.{ℤ}
use lib.ListN.{length}
use borrow.Author.Tests.{le-leb}
use Rattle.format.specs.Good.{good, is_holding}
use Rattle.format.specs.Masks.{Held, nothing, Lent, stray, lent, held_in}
use Rattle.format.specs.Reading.{lent_after}
use Rattle.format.specs.Table.{table}
use Rattle.format.specs.Walking.{walk_on}
use Rattle.format.proofs.HeldGood.{held_good}
use Rattle.format.proofs.Walks.{walk_good}
use Rattle.holding.specs.declared.Holding.{Holding}
use Rattle.holding.specs.Pictures.{picture_of, lent_by}
use Rattle.holding.proofs.Pictured.{mask_picture, sound_picture}
use Rattle.host.specs.Handing.{host_walk, bytes_after, walk_bytes, emptied}
use Rattle.passing.specs.Passing.{size, holding_in}
use Rattle.passing.proofs.Returns.{holding_returns}
use Rattle.promises.specs.LateJoiners.{held_after, received}
use Rattle.reader.proofs.Lents.{sound_lent, struct_held}
use Rattle.walk.specs.Walks.{walk_at, walked_of}

-- ---- what is lent, where it is a holding: as it is held, as a struct and as bytes

pub bytes_say : (hb : List ℕ) (l : Lent) → is_holding l ≡ true → holding_in (bytes_after l hb) ≡ picture_of (held_in l)
unfolding is_holding held_in bytes_after
bytes_say hb stray e = absurd (false≢true e)
bytes_say hb (lent held) e = holding_returns (picture_of held) (sound_picture held e) hb

-- ---- in Rattle

pub lent_picture : (held : Held) → good held ≡ true → lent_by (picture_of held) ≡ lent held
lent_picture held fine = sound_lent (picture_of held) (sound_picture held fine) ∙ ap lent (mask_picture held fine)

module _ (held : Held) (fine : good held ≡ true) (bytes : List ℕ) (end : ℕ) (rows : List ℤ) where
  -- what the contract of `walk` cites is what the theorem speaks of
  pub code_receives : walk_at (picture_of held) bytes end rows ≡ received table held bytes end rows
  unfolding walk_at received
  code_receives = ap (λ (l : Lent). walk_on table l bytes end 0 rows) (lent_picture held fine)

  pub stays_holding : is_holding (lent_after (received table held bytes end rows).stop) ≡ true
  unfolding received is_holding
  stays_holding = walk_good (lent held) bytes end rows fine

  -- and the holding that it hands back is the picture of what the receiver then holds
  pub code_holds : (walked_of (picture_of held) (walk_at (picture_of held) bytes end rows)).holding ≡ picture_of (held_after (received table held bytes end rows).stop)
  unfolding walked_of held_after
  code_holds = rw code_receives (struct_held (picture_of held) (lent_after (received table held bytes end rows).stop) stays_holding)

  pub stays_good : good (held_after (received table held bytes end rows).stop) ≡ true
  unfolding held_after
  stays_good = held_good (lent_after (received table held bytes end rows).stop) stays_holding

-- ---- in C

-- a receiver's bytes at the start, and after each stretch, say what it holds
pub host_starts : (hb : List ℕ) → size ≤ length hb → holding_in (emptied hb) ≡ picture_of nothing
unfolding emptied good
host_starts hb room = rw (le-leb size (length hb) room) (holding_returns (picture_of nothing) (sound_picture nothing refl) hb)

module _ (hb : List ℕ) (held : Held) (fine : good held ≡ true) (says : holding_in hb ≡ picture_of held) (bytes : List ℕ) (end : ℕ) (rows : List ℤ) where
  pub host_receives : host_walk hb bytes end rows ≡ received table held bytes end rows
  unfolding host_walk
  host_receives = ap (λ (h : Holding). walk_at h bytes end rows) says ∙ code_receives held fine bytes end rows

  pub host_holds : holding_in (walk_bytes (host_walk hb bytes end rows) hb) ≡ picture_of (held_after (received table held bytes end rows).stop)
  unfolding held_after
  host_holds = rw host_receives (bytes_say hb (lent_after (received table held bytes end rows).stop) (stays_holding held fine bytes end rows))
