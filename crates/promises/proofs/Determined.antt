-- Document 01, "How far the promises go": for each function that is called from outside, any two outcomes that its contract allows are equal, for all arguments. A section for each crate.
-- `Learnt` is what a caller learns by the contract, as the check reads it off the source; what the function has to show, `Post`, computes to the same.
-- Assumes nothing.
use mathlib.Core.Path.{◌≡◌, refl, sym, ◌∙◌}
use mathlib.Core.List.{List}
use Prim.Native.Nat.{ℕ}
use contract.Lifetimes.{Lfts}
use borrow.Fn.Kinds.{ParamKind, ResultKind, Out, Dens}
use Rattle.holding.proofs.Holding as holding
use Rattle.holding.proofs.Outline as outline
use Rattle.host.proofs as host
use Rattle.host_write.proofs as host_write
use Rattle.lines.proofs as lines
use Rattle.lister.proofs as lister
use Rattle.probe.proofs as probe
use Rattle.reader.proofs as reader
use Rattle.saved.proofs as saved
use Rattle.walk.proofs as walk
use Rattle.writer.proofs as writer
use Rattle.promises.specs.Determination.{Result, Content, Allows, DeterminedBy, Determined, SamePart}

-- two values that are equal to a third are equal
pub alike : {A : Type 0} {x y z : A} → x ≡ z → y ≡ z → x ≡ y
alike p q = p ∙ sym q

module _ {n : ℕ} (ps : List (ParamKind n)) (r : ResultKind n) (P : Out n ps r) where
  -- where a contract says what the result is, and what each lent buffer then holds, both are determined
  says :
      {result : (κs : Lfts n) → Dens κs ps → Result ps r κs} {content : (κs : Lfts n) (args : Dens κs ps) → Content ps r κs args}
      → ((κs : Lfts n) (args : Dens κs ps) (x : Result ps r κs) (v : Content ps r κs args) → Allows ps r P κs args x v
      → (x ≡ result κs args) × (v ≡ content κs args))
      → Determined ps r P
  unfolding Determined DeterminedBy
  says h κs args x y v w p q =
      let one = h κs args x v p in
      let two = h κs args y w q in
      (alike one.0 two.0, alike one.1 two.1)

-- ---- holding

-- "A fresh receiver starts from the empty holding"
pub empty_determined : Determined holding.empty.Kinds.ps holding.empty.Kinds.r holding.empty.Reads.Learnt
empty_determined = says _ _ _ λ κs args x v p. (p, refl)

-- whether it is "empty or what a good mask message makes"
pub is_sound_determined : Determined holding.is_sound.Kinds.ps holding.is_sound.Kinds.r holding.is_sound.Reads.Learnt
is_sound_determined = says _ _ _ λ κs args x v p. (p, refl)

-- "adopting takes mut self and hands the new holding back"
pub adopt_determined : Determined outline.adopt.Kinds.ps outline.adopt.Kinds.r outline.adopt.Reads.Learnt
adopt_determined = says _ _ _ λ κs args x v p. (p, refl)

-- ---- reader

-- "the message's raw bytes as a part of the caller's own stretch"
pub raw_determined : DeterminedBy reader.raw.raw.Kinds.ps reader.raw.raw.Kinds.r (λ κs x y. SamePart x y) reader.raw.raw.Reads.Learnt
unfolding DeterminedBy SamePart
raw_determined κs args x y v w p q = ((alike p.bytes q.bytes, λ i. (alike p.memory q.memory i, alike p.offset q.offset i)), refl)

-- ---- walk

-- reading one message: the answer with the holding, and the row buffer
pub read_determined : Determined walk.single.read.Kinds.ps walk.single.read.Kinds.r walk.single.read.Reads.Learnt
read_determined = says _ _ _ λ κs args x v p. (p.0, λ i. (tt, (tt, (tt, (tt, (p.1 i, tt))))))

-- the same where a mask is left to be adopted: what is found, and the row buffer
pub seek_determined : Determined walk.single.seek.Kinds.ps walk.single.seek.Kinds.r walk.single.seek.Reads.Learnt
seek_determined = says _ _ _ λ κs args x v p. (p.0, λ i. (tt, (tt, (tt, (tt, (p.1 i, tt))))))

-- reading a stretch: the stop with the counts and the holding, and the row buffer
pub walk_determined : Determined walk.walk.Kinds.ps walk.walk.Kinds.r walk.walk.Reads.Learnt
walk_determined = says _ _ _ λ κs args x v p. (p.0, λ i. (tt, (tt, (tt, (p.1 i, tt)))))

-- ---- writer

-- writing one message: the place after it or the refusal, and the bytes
pub write_determined : Determined writer.write.Kinds.ps writer.write.Kinds.r writer.write.Reads.Learnt
write_determined = says _ _ _ λ κs args x v p. (p.0, λ i. (tt, (tt, (tt, (tt, (p.1 i, (tt, tt)))))))

-- ---- saved

-- saving into lent bytes: the line's length or the refusal, and the bytes
pub save_determined : Determined saved.save.Kinds.ps saved.save.Kinds.r saved.save.Reads.Learnt
save_determined = says _ _ _ λ κs args x v p. (p.0, λ i. (tt, (p.1 i, tt)))

-- loading: the answer, and the holding beside it
pub load_determined : Determined saved.load.Kinds.ps saved.load.Kinds.r saved.load.Reads.Learnt
load_determined = says _ _ _ λ κs args x v p. (p, refl)

-- ---- lines

-- what a line of input says
pub said_by_determined : Determined lines.said_by.Kinds.ps lines.said_by.Kinds.r lines.said_by.Reads.Learnt
said_by_determined = says _ _ _ λ κs args x v p. (p, refl)

-- ---- lister

-- a step of the listing: the state after it with what it took and gave, the line, the row buffer, the text
pub advance_determined : Determined lister.advance.Kinds.ps lister.advance.Kinds.r lister.advance.Reads.Learnt
advance_determined = says _ _ _ λ κs args x v p. (p.0, λ i. (tt, (p.1.0 i, (p.1.1.0 i, (tt, (p.1.1.1.0 i, tt))))))

-- ---- host: "numbers and byte slices"

-- the empty holding over the lent bytes
pub hundurzek_empty_determined : Determined host.hundurzek_empty.Kinds.ps host.hundurzek_empty.Kinds.r host.hundurzek_empty.Reads.Learnt
hundurzek_empty_determined = says _ _ _ λ κs args x v p. (p.0, λ i. (p.1 i, tt))

-- reading one message: the numbers handed out, the holding's bytes, and the row buffer
pub hundurzek_read_determined : Determined host.hundurzek_read.Kinds.ps host.hundurzek_read.Kinds.r host.hundurzek_read.Reads.Learnt
hundurzek_read_determined = says _ _ _ λ κs args x v p. (p.0, λ i. (p.1.0 i, (tt, (tt, (tt, (p.1.1 i, tt))))))

-- reading a stretch: the numbers handed out, the holding's bytes, and the row buffer
pub hundurzek_walk_determined : Determined host.hundurzek_walk.Kinds.ps host.hundurzek_walk.Kinds.r host.hundurzek_walk.Reads.Learnt
hundurzek_walk_determined = says _ _ _ λ κs args x v p. (p.0, λ i. (p.1.0 i, (tt, (tt, (p.1.1 i, tt)))))

-- writing one message: the numbers handed out, and the bytes
pub hundurzek_write_determined : Determined host_write.hundurzek_write.Kinds.ps host_write.hundurzek_write.Kinds.r host_write.hundurzek_write.Reads.Learnt
hundurzek_write_determined = says _ _ _ λ κs args x v p. (p.0, λ i. (tt, (tt, (tt, (tt, (p.1 i, (tt, tt)))))))

-- saving: the numbers handed out, and the line
pub hundurzek_save_determined : Determined host.texts.hundurzek_save.Kinds.ps host.texts.hundurzek_save.Kinds.r host.texts.hundurzek_save.Reads.Learnt
hundurzek_save_determined = says _ _ _ λ κs args x v p. (p.0, λ i. (tt, (p.1 i, tt)))

-- loading: the number handed out, and the holding's bytes
pub hundurzek_load_determined : Determined host.texts.hundurzek_load.Kinds.ps host.texts.hundurzek_load.Kinds.r host.texts.hundurzek_load.Reads.Learnt
hundurzek_load_determined = says _ _ _ λ κs args x v p. (p, refl)

-- what a line of input says: the numbers handed out, and the stretch's bytes
pub hundurzek_line_determined : Determined host.texts.hundurzek_line.Kinds.ps host.texts.hundurzek_line.Kinds.r host.texts.hundurzek_line.Reads.Learnt
hundurzek_line_determined = says _ _ _ λ κs args x v p. (p.0, λ i. (tt, (p.1 i, tt)))

-- ---- probe: fields of a byte string, for comparing

-- the number in a field
pub read_field_determined : Determined probe.hundurzek_read_field.Kinds.ps probe.hundurzek_read_field.Kinds.r probe.hundurzek_read_field.Reads.Learnt
read_field_determined = says _ _ _ λ κs args x v p. (p, refl)

-- whether a field was written, and the lent part
pub write_field_determined : Determined probe.hundurzek_write_field.Kinds.ps probe.hundurzek_write_field.Kinds.r probe.hundurzek_write_field.Reads.Learnt
write_field_determined = says _ _ _ λ κs args x v p. (p.0, λ i. (p.1 i, (tt, (tt, (tt, tt)))))

-- whether "all remaining bits are zero, or none remain"
pub zero_from_determined : Determined probe.hundurzek_zero_from.Kinds.ps probe.hundurzek_zero_from.Kinds.r probe.hundurzek_zero_from.Reads.Learnt
zero_from_determined = says _ _ _ λ κs args x v p. (p, refl)

-- the bits that mean an integer in two's complement
pub from_signed_determined : Determined probe.hundurzek_from_signed.Kinds.ps probe.hundurzek_from_signed.Kinds.r probe.hundurzek_from_signed.Reads.Learnt
from_signed_determined = says _ _ _ λ κs args x v p. (p, refl)
