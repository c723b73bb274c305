-- The test same_holding of specs/Pictures.antt holds of just the structs that are the same. Assumes nothing.
use Rattle.bits.proofs.Words.{◌≡◌, true, List, ℕ, eqb}
use mathlib.Core.Bool.{beq}
use borrow.Author.Tests.{eqb-true}
use Rattle.format.proofs.Sames.{and_true}
use Rattle.format.proofs.Sames.{same_list_sound, same_list_refl, same_bit_sound, same_bit_refl, same_bits_sound, same_bits_refl, eqb_refl}
use Rattle.format.specs.Same.{same_list}
use Rattle.holding.specs.declared.Holding.{Holding}
use Rattle.holding.specs.Pictures.{same_holding}

same_numbers_sound : (l m : List ℕ) → same_list eqb l m ≡ true → l ≡ m
same_numbers_sound = same_list_sound eqb eqb-true

pub same_holding_sound : (g h : Holding) → same_holding g h ≡ true → g ≡ h
unfolding same_holding
same_holding_sound g h e =
    let held = and_true (beq g.held h.held) _ e in
    let iod = and_true (eqb g.iod h.iod) _ held.1 in
    let count = and_true (eqb g.count h.count) _ iod.1 in
    let ids = and_true (same_list eqb g.ids h.ids) _ count.1 in
    let satellites = and_true (same_list eqb g.satellites h.satellites) _ ids.1 in
    let signals = and_true (same_list eqb g.signals h.signals) _ satellites.1 in
    let flags = and_true (same_list beq g.flags h.flags) _ signals.1 in
    let strips = and_true (same_list eqb g.strips h.strips) _ flags.1 in
    let nsat = and_true (eqb g.nsat h.nsat) _ strips.1 in
    λ i. record {
      held = same_bit_sound g.held h.held held.0 i;
      iod = eqb-true g.iod h.iod iod.0 i;
      count = eqb-true g.count h.count count.0 i;
      ids = same_numbers_sound g.ids h.ids ids.0 i;
      satellites = same_numbers_sound g.satellites h.satellites satellites.0 i;
      signals = same_numbers_sound g.signals h.signals signals.0 i;
      flags = same_bits_sound g.flags h.flags flags.0 i;
      strips = same_numbers_sound g.strips h.strips strips.0 i;
      nsat = eqb-true g.nsat h.nsat nsat.0 i;
      ncell = eqb-true g.ncell h.ncell nsat.1 i;
    }

pub same_holding_refl : (h : Holding) → same_holding h h ≡ true
unfolding same_holding
same_holding_refl h = simp (eqb_refl, same_bit_refl, same_bits_refl, same_list_refl eqb eqb_refl)
