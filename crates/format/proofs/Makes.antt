-- What a mask message makes: a good mask, and one that spells the very bits that were taken.
-- Assumes nothing.
use mathlib.Core.Path.{◌≡◌, refl, sym, ap, ap₂, ◌∙◌}
use mathlib.Core.Bool.{true, cond, not, ◌&&◌}
use mathlib.Core.List.{List, [], ◌∷◌, ◌++◌, append-nil, flat_map, append_assoc}
use Prim.Native.Nat.{ℕ, zero, suc, ◌*◌, ◌<◌, ◌+◌}
use native.Mathlib.Omega.{arith}
use lib.ListN.{length}
use lib.Dec.{eqb, leb}
use lib.IntN.{ℤ, pos}
use lib.Seq.{append_snoc}
use borrow.Author.Tests.{lt-ltb, eq-eqb}
use Rattle.bits.specs.BitLists.{spell}
use Rattle.bits.specs.Signed.{unsigned}
use Rattle.bits.proofs.Bridge.{spell_bit}
use Rattle.format.specs.Assigned.{known, assigned, satellite_places, signal_places}
use Rattle.format.specs.Good.{good_system, good_systems, good}
use Rattle.format.specs.Masks.{System, mask, satellites, places_from}
use Rattle.format.specs.Messages.{common, head_of, named, system, systems, mask_message, system_id, BothMasks, system_masks, system_signals, system_cells, flagged_cells, few_cells, system_with, ids_of}
use Rattle.format.specs.Rows.{absent}
use Rattle.format.specs.Spelling.{put, put_common, put_system, put_mask}
use Rattle.format.proofs.Sames.{and_true, true_and}
use Rattle.format.proofs.Steps.{Gives, gives_done, gives_require, gives_taking, gives_numbered, gives_bind, gives_so}

-- ---- the flag's number, and how many bits the cell mask has

pub flag_width : (f n : ℕ) → f < 2 → f * n ≡ cond (eqb f 1) n 0
flag_width zero n h = omega arith
flag_width (suc zero) n h = omega arith
flag_width (suc (suc f)) n h = absurd (omega arith)

-- ---- a system, systems, a head: good, and spelled by the bits taken

pub id_gives : (ids : List ℕ) → Gives (system_id ids) (λ id m. ((known id && not (named id ids)) ≡ true) × (m ≡ spell 4 id))
unfolding system_id
id_gives ids =
    gives_numbered _ _ λ id small.
    gives_require _ _ _ λ fresh.
    gives_done (fresh, append-nil (spell 4 id))

-- the masks' tests
pub record MasksFit (n id : ℕ) (k : BothMasks) : Type 0 where
  whole : length k.satellites ≡ 40
  placed : assigned satellite_places id k.satellites ≡ true
  pub few : leb (n + length (places_from 0 k.satellites)) 64 ≡ true
  long : length k.signals ≡ 16
  given : assigned signal_places id k.signals ≡ true

pub masks_give : (n id : ℕ) → Gives (system_masks n id) (λ k m. MasksFit n id k × (m ≡ k.satellites ++ k.signals))
unfolding system_masks system_signals
masks_give n id =
    gives_taking _ _ λ sats whole.
    gives_require _ _ _ λ placed.
    gives_require _ _ _ λ few.
    gives_taking _ _ λ signals long.
    gives_require _ _ _ λ given.
    gives_done (record { whole = whole; placed = placed; few = few; long = long; given = given }, rw append-nil)

pub system_gives : (before : List System) → Gives (system before) (λ s m. (good_system before s ≡ true) × (put_system s ≡ m))
unfolding system system_cells flagged_cells few_cells system_with good_system put_system
system_gives before =
    gives_bind (id_gives (ids_of before)) λ id front fresh.
    gives_bind (masks_give (length (satellites before)) id) λ k masks fit.
    gives_numbered _ _ λ flag bit.
    gives_taking _ _ λ bits width.
    gives_require _ _ _ λ held.
    let new = and_true (known id) (not (named id (ids_of before))) fresh.0 in
    let f = fit.0 in
    gives_done (
      true_and new.0 (true_and new.1 (true_and (eq-eqb _ _ f.whole) (true_and f.placed (true_and f.few (true_and (eq-eqb _ _ f.long) (true_and f.given
          (true_and (eq-eqb _ _ (width ∙ flag_width flag _ bit)) held))))))),
      rw (fresh.1, fit.1, spell_bit flag bit, append-nil bits, append_assoc),
    )

systems_give : (n : ℕ) (before : List System)
    → Gives (systems n before) (λ all m. (more : List System) × (all ≡ before ++ more) × (good_systems before more ≡ true) × (flat_map put_system more ≡ m))
unfolding systems good_systems flat_map
systems_give zero before = gives_done ([], sym (append-nil before), refl, refl)
systems_give (suc n) before = gives_bind (system_gives before) λ s m made.
    gives_so (systems_give n (before ++ (s ∷ []))) λ all tail rest.
    (s ∷ rest.0, rest.1 ∙ append_snoc before s rest.0, true_and made.0 rest.2, ap₂ ◌++◌ made.1 rest.3)

pub common_gives : (w : ℕ) → Gives (common w) (λ h m. (h.iod < 16) × ((subType : ℕ) (a b c : ℤ) → put_common w (head_of subType h a b c) ≡ m))
unfolding common put_common put unsigned head_of
common_gives w =
    gives_numbered _ _ λ epoch _.
    gives_numbered _ _ λ interval _.
    gives_numbered _ _ λ indicator _.
    gives_numbered _ _ λ iod small.
    gives_done (small, λ subType a b c. rw (append-nil (spell 4 iod)))

-- ---- a mask message

message_gives : Gives mask_message (λ d m. (good (mask d.made) ≡ true) × (d.head.subtype ≡ pos 1) × (put_mask d.made d.head ≡ m))
unfolding mask_message good put_mask put unsigned head_of
message_gives =
    gives_bind (common_gives 20) λ h front head.
    gives_numbered _ _ λ count _.
    gives_bind (systems_give count []) λ all back rest.
    gives_done (
      true_and (lt-ltb _ _ head.0) (ap (good_systems []) rest.1 ∙ rest.2),
      refl,
      cc (head.1 1 (pos count) absent absent, rest.1, rest.3, append-nil back),
    )

-- what it makes is good
pub makes_good : Gives mask_message (λ d m. good (mask d.made) ≡ true)
makes_good = gives_so message_gives λ d m it. it.0

-- written again, it is the very bits that were taken
pub mask_spelled_lem : Gives mask_message (λ d m. (d.head.subtype ≡ pos 1) × (put_mask d.made d.head ≡ m))
mask_spelled_lem = gives_so message_gives λ d m it. (it.1, it.2)
