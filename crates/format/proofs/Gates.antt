-- A message that was read passes the writer's gate under the holding that it left: 5, 6, 7 and 11 are not for it. Assumes nothing.
use mathlib.Core.Path.{◌≡◌, refl, sym, ap, subst, ◌∙◌}
use mathlib.Core.Bool.{Bool, true, false, cond, not, ◌&&◌}
use mathlib.Core.List.{List}
use Prim.Native.Nat.{ℕ, zero, suc}
use lib.Dec.{eqb}
use lib.IntN.{ℤ, pos}
use Rattle.format.specs.declared.Head.{Head}
use Rattle.format.specs.declared.Refusal.TheVariants.{SubType}
use Rattle.format.specs.Good.{good}
use Rattle.format.specs.Masks.{Held, nothing, mask, Sky, sky_of}
use Rattle.format.specs.Messages.{Common, common, head_of, Keys, selection, flagged, rows_alone, packet, packet_heading, mask_message, systems}
use Rattle.format.specs.Programs.{well, run}
use Rattle.format.specs.Rows.{Column, Line}
use Rattle.format.specs.Same.{sameℤ}
use Rattle.format.specs.Table.{Message, Kind, other, free, masked, adopts, alone, with_flags, kinds, table, by_kind, message, kind_of}
use Rattle.format.specs.Writing.{is_ours, has_mask, of_issue, has_network}
use Rattle.format.proofs.RoundTrips.{Lawful, table_lawful}
use Rattle.format.proofs.Sames.{sameℤ_refl}
use Rattle.format.proofs.Selections.{satellites_distinct}
use Rattle.format.proofs.Steps.{Gives, gives_done, gives_refuse, gives_require, gives_numbered, gives_taking, gives_bind, gives_so, gives_both, gives_itself}
use Rattle.format.proofs.Tables.{Each, end, then, in_table, gives_message, keeping_gives, under_nothing, under_gives}

-- the writer's test of the network
abbrev pub networked : Head → Bool
networked h = not (has_network h.subtype && sameℤ h.c (pos 0))

-- the four tests of the gate
pub record Gated (k : Kind) (held : Held) (h : Head) : Type 0 where
  pub ours : is_ours k ≡ true
  pub under : has_mask k held ≡ true
  pub issue : of_issue k held h.iod ≡ true
  pub network : networked h ≡ true

-- ---- what a kind's program says of them; the sub type and the common head's columns are those of `Lawful`

abbrev Networked : ℕ → Kind → Type 0
Networked n other = Unit {0}
Networked n (free k) = Gives k.program (λ d b. networked d.head ≡ true)
Networked n (masked k) = (sky : Sky) (h : Common) → Gives (k.program sky h) (λ d b. networked d.head ≡ true)
Networked n (adopts k) = Gives k.program (λ d b. (networked d.head ≡ true) × (d.head.iod ≡ pos d.made.iod))

mask_networked : Gives mask_message (λ d b. (networked d.head ≡ true) × (d.head.iod ≡ pos d.made.iod))
unfolding mask_message head_of has_network sameℤ
mask_networked =
    gives_bind (gives_itself (common 20)) λ h a _.
    gives_numbered _ _ λ count _.
    gives_bind (gives_itself (systems count _)) λ all b _.
    gives_done (refl, refl)

packet_networked : Gives packet (λ d b. networked d.head ≡ true)
unfolding packet packet_heading has_network sameℤ
packet_networked =
    gives_numbered _ _ λ indicator _.
    gives_numbered _ _ λ counter _.
    gives_numbered _ _ λ size _.
    gives_done refl

-- a network ID of 0 is refused, and where none is sent the column is absent
selection_networked : (keys : Keys) (sky : Sky) (flag : ℕ) → Gives (selection keys sky flag) (λ s b. not (sameℤ s.network (pos 0)) ≡ true)
unfolding selection sameℤ
selection_networked keys sky zero = gives_done refl
selection_networked keys sky (suc one) =
    gives_numbered _ _ λ network _.
    gives_require _ _ _ λ some.
    gives_taking _ _ λ bits _.
    gives_require _ _ _ λ _.
    gives_done some

flagged_networked : (n : ℕ) → has_network (pos n) ≡ true → (keys : Keys) (shape : Bool → Bool → ℕ → List Column) (sky : Sky) (h : Common)
    → Gives (flagged n keys shape sky h) (λ d b. networked d.head ≡ true)
unfolding flagged head_of
flagged_networked n has keys shape sky h =
    gives_numbered _ _ λ a _.
    gives_numbered _ _ λ b _.
    gives_numbered _ _ λ flag _.
    gives_bind (selection_networked keys sky flag) λ s b some.
    gives_done (rw has some)

alone_networked : (n : ℕ) (over : Sky → List Line) → has_network (pos n) ≡ false → (sky : Sky) (h : Common) → Gives (rows_alone n over sky h) (λ d b. networked d.head ≡ true)
unfolding rows_alone head_of
alone_networked n over not sky h = gives_done (rw not)

kinds_networked : Each Networked 0 kinds
unfolding kinds alone with_flags has_network sameℤ
kinds_networked =
    then tt (then mask_networked
    (then (alone_networked 2 _ refl) (then (alone_networked 3 _ refl) (then (alone_networked 4 _ refl) (then (alone_networked 5 _ refl)
    (then (flagged_networked 6 refl _ _) (then (alone_networked 7 _ refl)
    (then tt (then tt
    (then packet_networked (then (flagged_networked 11 refl _ _) end)))))))))))

-- ---- a message

-- of some sub type, past the gate
abbrev OfType : ℕ → Kind → Message → Type 0
OfType n k m = (m.content.head.subtype ≡ pos n) × Gated k m.after m.content.head

kind_gated : (n : ℕ) (k : Kind) → Lawful n k → Networked n k → (held : Held) → good held ≡ true → Gives (by_kind k held) (λ m b. OfType n k m)
unfolding Lawful by_kind head_of is_ours has_mask of_issue sameℤ sky_of
kind_gated n other law net held fine = gives_refuse SubType
kind_gated n (free k) law net held fine =
    keeping_gives held (gives_both law net) λ d b l it whole. (it.0.0, record { ours = refl; under = refl; issue = refl; network = it.1 })
kind_gated n (masked k) law net nothing fine = keeping_gives {P = λ d b. ⊥} nothing (under_nothing k) λ d b l none whole. absurd none
kind_gated n (masked k) law net (mask m) fine =
    keeping_gives {P = λ d b. (d.head.subtype ≡ pos n) × ((sameℤ d.head.iod (pos m.iod) ≡ true) × (networked d.head ≡ true))} (mask m)
    (under_gives k m (gives_itself (common 12)) λ h a _ issue.
    gives_so (gives_both (law (sky_of m) (satellites_distinct m fine) h) (net (sky_of m) h)) λ d b it.
    (ap (λ (g : Head). g.subtype) it.0.0, (ap (λ (g : Head). sameℤ g.iod (pos m.iod)) it.0.0 ∙ issue, it.1)))
    λ d b l it whole. (it.0, record { ours = refl; under = refl; issue = it.1.0; network = it.1.1 })
kind_gated n (adopts k) law net held fine =
    gives_bind (gives_both law net) λ d b it.
    gives_done (it.0.0, record { ours = refl; under = refl; issue = rw it.1.1 (sameℤ_refl (pos d.made.iod)); network = it.1.0 })

message_gated : (held : Held) → good held ≡ true → Gives (message held) (λ m b. Gated (kind_of table m.content.head.subtype) m.after m.content.head)
unfolding kind_of
message_gated held fine =
    gives_message table held λ n _.
    gives_so (kind_gated n (table n) (table_lawful n) (in_table kinds_networked (λ k. tt) n) held fine) λ m b it.
    subst (λ (z : ℤ). Gated (kind_of table z) m.after m.content.head) (sym it.0) it.1

pub read_gated : (held : Held) → good held ≡ true → (l : List Bool) (m : Message) (taken : ℕ) → run (message held) l ≡ well m taken
    → Gated (kind_of table m.content.head.subtype) m.after m.content.head
read_gated held fine = (message_gated held fine).gives
