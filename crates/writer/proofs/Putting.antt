-- What is planned, put out: what the pen has gathered, the selection, then the rows, all in their place. Assumes nothing.
use Rattle.bits.proofs.Words.{◌≡◌, sym, ap, ap₂, ◌∙◌, List, [], ◌++◌, ℕ}
use mathlib.Core.List.{append-nil}
use Rattle.bits.proofs.Windows.{Bytes}
use Rattle.bits.specs.BitLists.{spell, set_bytes}
use Rattle.pens.specs.declared.pen.Field.{Field}
use Rattle.pens.specs.declared.pen.Pen.{Pen}
use Rattle.pens.specs.Pens.{set_by, begun_by, pen_after, ink_after, spell_fields, Ready, Begins}
use Rattle.pens.proofs.Begun.{ready_begun, begun_set}
use Rattle.pens.proofs.Pens.{fields_set, pen_append, ink_append, ready_behind}

-- what is gathered last has room
pub ready_last : (fs : List Field) (p : Pen) (bytes : List ℕ) → Ready p fs bytes → {q : Pen} {b : List ℕ} → q ≡ pen_after p fs → b ≡ ink_after p fs bytes → Ready q [] b
ready_last fs p bytes r pen ink =
    let all : Ready p (fs ++ []) bytes = rw append-nil r in
    rw (pen, ink) (ready_behind fs [] p bytes all)

-- and once it is set, all is, from the place on at which it was before it began
pub all_set_lem : (fs : List Field) (p : Pen) (bytes : List ℕ) → Begins p fs bytes → Bytes bytes
    → {q : Pen} {b after : List ℕ} → q ≡ pen_after (begun_by bytes p) fs → b ≡ ink_after (begun_by bytes p) fs bytes → after ≡ set_by q b
    → after ≡ set_bytes bytes p.place (spell p.width p.gathered ++ spell_fields fs)
all_set_lem fs p bytes begins small pen ink set =
    set ∙ ap₂ set_by pen ink ∙ fields_set fs (begun_by bytes p) bytes (ready_begun begins) ∙ begun_set begins small (spell_fields fs)

-- in two parts
module _ (fs gs : List Field) (p : Pen) (bytes : List ℕ) {q : Pen} {b : List ℕ} (first : q ≡ pen_after p fs) (first-ink : b ≡ ink_after p fs bytes) where
  pub both_pens : {r : Pen} → r ≡ pen_after q gs → r ≡ pen_after p (fs ++ gs)
  both_pens second = second ∙ ap (λ (s : Pen). pen_after s gs) first ∙ sym (pen_append fs gs p)

  pub both_inks : {c : List ℕ} → c ≡ ink_after q gs b → c ≡ ink_after p (fs ++ gs) bytes
  both_inks second = second ∙ ap₂ (λ (s : Pen) (l : List ℕ). ink_after s gs l) first first-ink ∙ sym (ink_append fs gs p bytes)
