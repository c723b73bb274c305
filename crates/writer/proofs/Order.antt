-- The order of the writer's tests, stage by stage. Assumes nothing.
use Rattle.bits.proofs.Words.{◌≡◌, refl, sym, ap, ◌∙◌, Bool, true, false, cond, not, ◌&&◌, List, [], ◌∷◌, ◌++◌, ℕ, ◌*◌, ◌≤◌, ◌<◌, leb, length, ℤ, pos}
use mathlib.Core.Bool.{false≢true}
use borrow.Author.Tests.{le-leb, lt-leb}
use lib.IntN.{negsuc}
use Rattle.format.specs.declared.Head.{Head}
use Rattle.format.specs.declared.Refusal.TheVariants.{Place, OtherIssue, Network, Value}
use Rattle.format.specs.Good.{is_holding}
use Rattle.format.specs.Masks.{Held, nothing, mask, Lent, held_in}
use Rattle.format.specs.Same.{sameℤ}
use Rattle.format.specs.Table as Table
use Rattle.format.specs.Table.{table, kind_of, spelled}
use Rattle.format.specs.Tests.{Test, verdict}
use Rattle.format.specs.Writing.{Written, wrote, refused, rows_in, exact, is_ours, has_mask, of_issue, has_network, limit, writing}
use Rattle.holding.specs.Held.{is_held, issue_of}
use Rattle.table.proofs.Tabled.{table_means}
use Rattle.table.specs.declared.Kind.{Kind}
use Rattle.table.specs.declared.Kind.TheVariants.{Other, Mask, Packet, Masked}
use Rattle.table.specs.Kinds.{kind_for, kind_by}
use Rattle.writer.specs.declared.gate.Gate.TheVariants.{Open, Shut}
use Rattle.writer.specs.Kinds.{kind_at, issue_gate, gate_by}
use Rattle.writer.specs.Stages.{gate_tests, last_tests, behind, by_gate}
use Rattle.writer.proofs.SubTypes.{is_other, flagged_in, Numbered, numbered}

-- ---- some tests, and those behind them

split : (w : Written) (ts us : List Test) → verdict refused w (ts ++ us) ≡ by_gate (verdict Shut Open ts) (verdict refused w us)
unfolding verdict by_gate
split w [] us = refl
split w (t ∷ ts) us = go t.holds (split w ts us)
  where
    go : (b : Bool) → verdict refused w (ts ++ us) ≡ by_gate (verdict Shut Open ts) (verdict refused w us)
        → elim b [ true ↦ verdict refused w (ts ++ us) | false ↦ refused t.else ]
        ≡ by_gate (elim b [ true ↦ verdict Shut Open ts | false ↦ Shut t.else ]) (verdict refused w us)
    go true later = later
    go false later = refl

-- ---- what is lent

module _ (holding : Lent) (h : Head) (rows : List ℤ) (count : ℕ) (bytes : List ℕ) (start : ℕ) where
  abbrev all : Written
  all = writing holding h rows count bytes start

  pub out_of_place : limit bytes < start → all ≡ refused Place
  unfolding writing verdict
  out_of_place past = rw (lt-leb start (limit bytes) past)

  pub no_holding : start ≤ limit bytes → is_holding holding ≡ false → all ≡ refused Value
  unfolding writing verdict
  no_holding inside stray = rw (le-leb start (limit bytes) inside, stray)

  -- then the gate, and what is behind it
  abbrev bits : List Bool
  bits = spelled (held_in holding) h (rows_in count rows)

  abbrev right : Bool
  right = leb (8 * count) (length rows) && exact (held_in holding) h (rows_in count rows)

  abbrev tests : List Test
  tests = gate_tests (kind_of table h.subtype) (held_in holding) h

  pub gated : start ≤ limit bytes → is_holding holding ≡ true → all ≡ by_gate (verdict Shut Open tests) (behind right bits bytes start)
  unfolding writing verdict gate_tests last_tests behind
  gated inside good = rw (le-leb start (limit bytes) inside, good) (split (wrote bits) tests (last_tests right bits bytes start))

-- ---- the gate by the code's kinds

module _ (g : Held) (h : Head) where
  -- behind a mask that is held: its issue, then the network
  issued : (s f z net : Bool) → net ≡ f → cond s (cond (f && z) (Shut Network) Open) (Shut OtherIssue)
      ≡ elim s [ true ↦ elim (not (net && z)) [ true ↦ Open | false ↦ Shut Network ] | false ↦ Shut OtherIssue ]
  issued s f z net same = each s f z ∙ ap (λ (b : Bool). elim s [ true ↦ elim (not (b && z)) [ true ↦ Open | false ↦ Shut Network ] | false ↦ Shut OtherIssue ]) (sym same)
    where
      each : (s f z : Bool) → cond s (cond (f && z) (Shut Network) Open) (Shut OtherIssue)
          ≡ elim s [ true ↦ elim (not (f && z)) [ true ↦ Open | false ↦ Shut Network ] | false ↦ Shut OtherIssue ]
      each false f z = refl
      each true false z = refl
      each true true false = refl
      each true true true = refl

  -- no network behind anything but flags
  free_gate : (z net : Bool) → net ≡ false → Open ≡ elim (not (net && z)) [ true ↦ Open | false ↦ Shut Network ]
  free_gate z net none = ap (λ (b : Bool). elim (not (b && z)) [ true ↦ Open | false ↦ Shut Network ]) (sym none)

  -- a sub type that is not another's
  ours : (k : Kind) → is_other k ≡ false → k ≡ Other → ⊥
  unfolding is_other
  ours k known e = false≢true (sym known ∙ ap is_other e)

  net : (n : ℕ) (b : Bool) → h.subtype ≡ pos n → has_network (pos n) ≡ b → has_network h.subtype ≡ b
  net n b typed e = ap has_network typed ∙ e

  gate_kind : (n : ℕ) (k : Kind) → Numbered n k → h.subtype ≡ pos n → gate_by k (is_held g) (issue_of g) h ≡ verdict Shut Open (gate_tests (kind_by n k) g h)
  unfolding gate_by issue_gate gate_tests verdict is_ours has_mask of_issue kind_by is_held issue_of flagged_in is_other
  gate_kind n k row typed = go g k row
    where
      go : (g : Held) (k : Kind) → Numbered n k → gate_by k (is_held g) (issue_of g) h ≡ verdict Shut Open (gate_tests (kind_by n k) g h)
      go g Other row = refl
      go g Packet row = free_gate (sameℤ h.c (pos 0)) (has_network h.subtype) (net n false typed (row.network (ours Packet refl)))
      go nothing Mask row = refl
      go (mask m) Mask row = issued (sameℤ h.iod (pos m.iod)) false (sameℤ h.c (pos 0)) (has_network h.subtype) (net n false typed (row.network (ours Mask refl)))
      go nothing (Masked l) row = refl
      go (mask m) (Masked l) row = issued (sameℤ h.iod (pos m.iod)) l.flagged (sameℤ h.c (pos 0)) (has_network h.subtype) (net n l.flagged typed (row.network (ours (Masked l) refl)))

  pub gate_means : gate_by (kind_at h.subtype) (is_held g) (issue_of g) h ≡ verdict Shut Open (gate_tests (kind_of table h.subtype) g h)
  unfolding kind_at kind_of gate_by gate_tests verdict is_ours
  gate_means = go h.subtype refl
    where
      go : (z : ℤ) → h.subtype ≡ z → gate_by (kind_at z) (is_held g) (issue_of g) h ≡ verdict Shut Open (gate_tests (kind_of table z) g h)
      go (pos n) typed = gate_kind n (kind_for n) (numbered n) typed ∙ ap (λ (k : Table.Kind). verdict Shut Open (gate_tests k g h)) (table_means n)
      go (negsuc n) typed = refl
