-- The line of a holding: a dash, or its issue and its systems; of a sound one in pieces. Assumes nothing.
use mathlib.Core.Path.{◌≡◌, refl, ap}
use mathlib.Core.Bool.{Bool, true, false, cond, ◌&&◌}
use mathlib.Core.List.{[], ◌∷◌, ◌++◌, append_assoc, flat_map}
use Prim.Native.Nat.{◌<◌}
use native.Mathlib.Nat.{sub-zero}
use lib.Dec.{eqb, ltb}
use borrow.Author.Tests.{eqb-true, ltb-true}
use Rattle.format.proofs.Sames.{and_true}
use Rattle.format.specs.Saved.{letter_s, system_text, held_text, line_of}
use Rattle.format.specs.Text.{tab, line_feed, dash, decimal}
use Rattle.holding.proofs.SoundTested.{sound_tested}
use Rattle.holding.specs.declared.Holding.{Holding}
use Rattle.holding.specs.declared.Outline.{Outline}
use Rattle.holding.specs.Outlines.{outline_of}
use Rattle.holding.specs.Pictures.{mask_of, systems_of, sound}
use Rattle.holding.specs.Testing.{tested}
use Rattle.saved.specs.Lines.{line_front, text_from}
use Rattle.saved.specs.Slots.{systems_from}

-- ---- what comes before the systems

module _ (o : Outline) where
  pub nothing_front : o.held ≡ false → line_front o ≡ letter_s ∷ (tab ∷ (dash ∷ []))
  unfolding line_front
  nothing_front off = rw off

  pub mask_front_lem : o.held ≡ true → line_front o ≡ letter_s ∷ (tab ∷ decimal o.iod)
  unfolding line_front
  mask_front_lem on = rw on

-- ---- the line

module _ (h : Holding) where
  pub nothing_line : h.held ≡ false → line_of (mask_of h) ≡ letter_s ∷ (tab ∷ (dash ∷ (line_feed ∷ [])))
  unfolding line_of mask_of held_text
  nothing_line off = rw off

  pub mask_line : h.held ≡ true → line_of (mask_of h) ≡ letter_s ∷ (tab ∷ (decimal h.iod ++ text_from (systems_from h 0 0)))
  unfolding line_of mask_of held_text
  mask_line on = rw (on, sub-zero) (ap (λ l. letter_s ∷ (tab ∷ l)) (append_assoc (decimal h.iod) _ (line_feed ∷ [])))

  -- ---- of a sound one

  module _ (e : sound h ≡ true) where
    issue_fits : cond h.held (ltb h.iod 16) (eqb h.iod 0 && eqb h.count 0) ≡ true
    unfolding tested
    issue_fits = (and_true (cond h.held (ltb h.iod 16) (eqb h.iod 0 && eqb h.count 0)) _ (sound_tested h e)).0

    -- the issue has 4 bits
    pub issue_few : h.held ≡ true → h.iod < 16
    issue_few on = ltb-true h.iod 16 (rw on at issue_fits)

    -- where nothing is held there is no system
    no_systems : h.held ≡ false → h.count ≡ 0
    no_systems off = eqb-true h.count 0 (and_true (eqb h.iod 0) _ (rw off at issue_fits)).1

    no_text : h.held ≡ false → flat_map system_text (systems_from h 0 0) ≡ []
    unfolding systems_of flat_map
    no_text off = rw (sub-zero, no_systems off)

    pub line_pieces : line_of (mask_of h) ≡ line_front (outline_of h) ++ text_from (systems_from h 0 0)
    line_pieces = go h.held refl
      where
        go : (held : Bool) → h.held ≡ held → line_of (mask_of h) ≡ line_front (outline_of h) ++ text_from (systems_from h 0 0)
        go false off = rw (nothing_line off, nothing_front (outline_of h) off, no_text off)
        go true on = rw (mask_line on, mask_front_lem (outline_of h) on)
