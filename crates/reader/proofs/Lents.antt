-- What is lent as a struct, and what is lent after a reading as that struct again. Assumes nothing.
use Rattle.bits.proofs.Words.{◌≡◌, refl, ap, ◌∙◌, Bool, true, false, cond, List, ℕ, ℤ}
use mathlib.Core.Bool.{false≢true}
use Rattle.format.proofs.Refusals.{stop_holds}
use Rattle.format.proofs.Stops.{Stopped}
use Rattle.format.specs.Good.{is_holding}
use Rattle.format.specs.Masks.{nothing, Lent, stray, lent, held_in}
use Rattle.format.specs.Reading.{reading, changed, kept_by}
use Rattle.holding.specs.declared.Holding.{Holding}
use Rattle.holding.specs.Pictures.{picture_of, mask_of, sound, lent_by}
use Rattle.holding.proofs.Sounds.{sounds}
use Rattle.reader.specs.Readings.{struct_of, holding_after, outcome_at}

module _ (h : Holding) where
  pub sound_lent : sound h ≡ true → lent_by h ≡ lent (mask_of h)
  unfolding lent_by
  sound_lent e = rw e

  -- it is a holding where the struct is sound
  pub is_holding_lem : is_holding (lent_by h) ≡ sound h
  unfolding lent_by is_holding
  is_holding_lem = go (sound h) refl
    where
      go : (b : Bool) → sound h ≡ b → is_holding (cond b (lent (mask_of h)) stray) ≡ b
      go true e = (sounds h e).good_held
      go false e = refl

  -- there and back
  pub lent_back : struct_of h (lent_by h) ≡ h
  unfolding lent_by struct_of
  lent_back = go (sound h) refl
    where
      go : (b : Bool) → sound h ≡ b → struct_of h (cond b (lent (mask_of h)) stray) ≡ h
      go true e = (sounds h e).picture
      go false e = refl

  pub kept : sound h ≡ true → struct_of h (lent (mask_of h)) ≡ h
  unfolding struct_of
  kept e = (sounds h e).picture

  -- a holding as a struct pictures what it holds
  pub struct_held : (l : Lent) → is_holding l ≡ true → struct_of h l ≡ picture_of (held_in l)
  unfolding is_holding held_in struct_of
  struct_held stray e = absurd (false≢true e)
  struct_held (lent held) e = refl

  -- so a stop leaves the struct as it was, but for 13, which leaves the empty one
  pub stop_struct : (bytes : List ℕ) (end start : ℕ) (rows : List ℤ) → Stopped (outcome_at h bytes end start rows)
      → holding_after h (outcome_at h bytes end start rows) ≡ cond (changed (outcome_at h bytes end start rows)) (picture_of nothing) h
  unfolding outcome_at kept_by struct_of
  stop_struct bytes end start rows stopped = ap (struct_of h) (stop_holds (lent_by h) bytes end start rows stopped) ∙ go (changed (reading (lent_by h) bytes end start rows))
    where
      go : (b : Bool) → struct_of h (cond b (lent nothing) (lent_by h)) ≡ cond b (picture_of nothing) h
      go true = refl
      go false = lent_back
