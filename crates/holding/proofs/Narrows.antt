-- How many bits the numbers of a good mask's picture have. Assumes nothing.
use Rattle.bits.proofs.Words.{◌≡◌, refl, ◌∙◌, Bool, true, List, [], ◌∷◌, ◌++◌, map, ℕ, zero, suc, ◌^◌, length, drop}
use mathlib.Core.List.{flat_map}
use borrow.Author.Tests.{lt-ltb}
use Rattle.bits.specs.BitLists.{number}
use Rattle.format.proofs.Sames.{and_true, true_and}
use Rattle.format.proofs.Steps.{field_lt}
use Rattle.format.specs.Good.{good_system, good_systems}
use Rattle.format.specs.Masks.{System, places_from}
use Rattle.format.proofs.MakesBack.{good_system_lem}
use Rattle.holding.specs.Bounds.{narrow, every}
use Rattle.holding.specs.Pictures.{strips_from, strips_of}
use Rattle.holding.specs.Spread.{spread}
use Rattle.holding.proofs.Bounds.{below_append, below_replicate}
use Rattle.holding.proofs.PicturedStrips.{satellite_count, strips_either}
use Rattle.holding.proofs.Spreads.{length_spread}

-- ---- the strips of a system

narrow_strips_from : (n : ℕ) (signals bits : List Bool) → length signals ≡ 16 → narrow 16 (strips_from n signals bits) ≡ true
unfolding strips_from every
narrow_strips_from zero signals bits long = refl
narrow_strips_from (suc n) signals bits long =
    true_and (lt-ltb _ _ (field_lt 16 (spread signals bits) (length_spread signals bits ∙ long)))
    (narrow_strips_from n signals (drop (length (places_from 0 signals)) bits) long)

pub narrow_strips : (s : System) → length s.signals ≡ 16 → narrow 16 (strips_of s) ≡ true
narrow_strips s long =
    strips_either (λ _ l. narrow 16 l ≡ true) s (narrow_strips_from (satellite_count s) s.signals s.cells long)
    (below_replicate (2 ^ 16) (satellite_count s) (number s.signals) (field_lt 16 s.signals long))

-- ---- good systems

pub record Narrow (ss : List System) : Type 0 where
  pub satellites : narrow 40 (map (λ s. number s.satellites) ss) ≡ true
  pub signals : narrow 16 (map (λ s. number s.signals) ss) ≡ true
  pub strips : narrow 16 (flat_map strips_of ss) ≡ true

pub narrow_systems : (before ss : List System) → good_systems before ss ≡ true → Narrow ss
unfolding good_systems flat_map every
narrow_systems before [] e = record { satellites = refl; signals = refl; strips = refl }
narrow_systems before (s ∷ ss) e =
    let parts = and_true (good_system before s) _ e in
    let z = good_system_lem before s parts.0 in
    let more = narrow_systems (before ++ (s ∷ [])) ss parts.1 in
    record {
      satellites = true_and (lt-ltb _ _ (field_lt 40 s.satellites z.whole)) more.satellites;
      signals = true_and (lt-ltb _ _ (field_lt 16 s.signals z.long)) more.signals;
      strips = below_append (2 ^ 16) (strips_of s) (flat_map strips_of ss) (narrow_strips s z.long) more.strips;
    }
