-- The writer's whole order under a struct that is lent as a holding. Assumes nothing.
use Rattle.bits.proofs.Words.{◌≡◌, refl, sym, ap, ap₂, ◌∙◌, Bool, true, false, List, ℕ, ◌≤◌, ℤ}
use Rattle.format.specs.declared.Head.{Head}
use Rattle.format.specs.declared.Refusal.TheVariants.{Value}
use Rattle.format.specs.Good.{is_holding}
use Rattle.format.specs.Masks.{Lent, lent, stray, held_in}
use Rattle.format.specs.Writing.{refused, limit, writing}
use Rattle.holding.proofs.Sounds.{sounds}
use Rattle.holding.specs.declared.Holding.{Holding}
use Rattle.holding.specs.Held.{is_held, issue_of}
use Rattle.holding.specs.Pictures.{mask_of, sound, lent_by}
use Rattle.writer.specs.declared.gate.Gate.{Gate}
use Rattle.writer.specs.Kinds.{kind_at, gate_by}
use Rattle.writer.specs.Stages.{by_gate}
use Rattle.writer.specs.Writings.{past_gate}
use Rattle.writer.proofs.Order.{no_holding, gated, gate_means}

module _ (holding : Holding) (h : Head) (rows : List ℤ) (count : ℕ) (bytes : List ℕ) (start : ℕ) (inside : start ≤ limit bytes) where
  pub stray_writing : sound holding ≡ false → writing (lent_by holding) h rows count bytes start ≡ refused Value
  unfolding lent_by is_holding
  stray_writing not = ap (λ (l : Lent). writing l h rows count bytes start) none ∙ no_holding stray h rows count bytes start inside refl
    where
      none : lent_by holding ≡ stray
      none = rw not

  module _ (on : sound holding ≡ true) where
    -- the gate by the struct's own numbers
    pub own_gate : (gate_by (kind_at h.subtype) holding.held holding.iod h) ≡ gate_by (kind_at h.subtype) (is_held (mask_of holding)) (issue_of (mask_of holding)) h
    own_gate = ap₂ (λ (b : Bool) (n : ℕ). gate_by (kind_at h.subtype) b n h) (sounds holding on).held (sounds holding on).iod

    pub sound_writing : writing (lent_by holding) h rows count bytes start
        ≡ by_gate (gate_by (kind_at h.subtype) holding.held holding.iod h) (past_gate holding (record { kind = kind_at h.subtype; head = h; count = count; start = start }) rows bytes)
    unfolding lent_by is_holding held_in past_gate
    sound_writing =
        ap (λ (l : Lent). writing l h rows count bytes start) held ∙ gated (lent (mask_of holding)) h rows count bytes start inside (sounds holding on).good_held
        ∙ ap (λ (k : Gate). by_gate k (past_gate holding (record { kind = kind_at h.subtype; head = h; count = count; start = start }) rows bytes)) (sym (own_gate ∙ gate_means (mask_of holding) h))
      where
        held : lent_by holding ≡ lent (mask_of holding)
        held = rw on
